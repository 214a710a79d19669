-- The laws of tasks, their bodies, and all declarations (3.9, 9.1).
use Rattle.std.proofs.Common.{◌≡◌, ℕ, suc, Bool, true, false, inl, inr, ⊎_elim, List, [], ◌∷◌, ◌++◌, None, refl, sym, ap, ◌∙◌, subst}
use Rattle.ada_expr_parser.specs.readers.Readers.{items}
use Rattle.ada_expr_parser.specs.readers.Grammars.{Texts, Never, Is, One, Then, Or, Many, Opens}
use Rattle.ada_expr_parser.specs.readers.Lawful.{Lawful, Anything}
use Rattle.ada_expr_parser.proofs.readers.Binding.{law_pure}
use Rattle.ada_expr_parser.proofs.readers.Choosing.{law_on, careful_refuse}
use Rattle.ada_expr_parser.proofs.readers.Listing.{law_items}
use Rattle.ada_expr_parser.proofs.readers.Fitting.{starts_or, starts_never, starts_token, law_fit}
use Rattle.ada_tree.specs.declared.naming.Span.{Span}
use Rattle.ada_tree.specs.declared.naming.Word.{Word}
use Rattle.ada_tree.specs.PlainExpr.{PExpr}
use Rattle.ada_tree.specs.PlainDecl.{PDecl, DTask}
use Rattle.ada_lexer.specs.declared.symbols.Symbol.TheVariants as key
use Rattle.ada_expr_parser.specs.declared.items.Item.{Item}
use Rattle.ada_expr_parser.specs.Tests.{same, symbol}
use Rattle.ada_expr_parser.specs.Trees.{from_to}
use Rattle.ada_expr_parser.specs.Grammar.{symbol_item}
use Rattle.ada_parser.proofs.expression_laws.Tokens.{symbol_is, symbol_takes}
use Rattle.ada_parser.proofs.expression_laws.Primaries.{no_place}
use Rattle.ada_parser.proofs.expression_laws.Plainly.{after_symbol, symbol_then}
use Rattle.ada_phrase_parser.specs.Spelling.{Source, Spelling, ◌▷◌, Either, Key, ListOf}
use Rattle.ada_task_parser.specs.Tasks.{Member, MEntry, MPriority, IsMember, TaskRest}
use Rattle.ada_task_parser.specs.inner.ReadingTasks as tasks
use Rattle.ada_parser.proofs.KitPieces.{KeyAt, Closing, closing_key, closing_then, after_key}
use Rattle.ada_parser.proofs.KitReading.{Made, Both, made_key, made_bind, made_pure, starts_key}
use Rattle.ada_parser.proofs.KitDeeper.{NameEnd, law_end_of, closing_end}
use Rattle.ada_parser.proofs.DeclTypes.{PriorityShut, law_priority, priority_closing}
use Rattle.ada_parser.proofs.DeclEntries.{EntryLed, law_entry}

-- ---- members

entry_no_pragma : (at : Span) → symbol key.Entry (symbol_item key.Pragma at) ≡ None
unfolding same
entry_no_pragma at = refl

pragma_begins : (at : Span) → tasks.begins_member (symbol_item key.Pragma at) ≡ true
unfolding same
pragma_begins at = refl

entry_begins : (at : Span) → tasks.begins_member (symbol_item key.Entry at) ≡ true
unfolding same
entry_begins at = refl

end_no_member : (at : Span) → tasks.begins_member (symbol_item key.End at) ≡ false
unfolding same
end_no_member at = refl

module _ (source : Source) where
  abbrev MemberTexts : Texts Item Member
  MemberTexts d m text = IsMember source d m text

  abbrev EitherMember : Texts Item Member
  EitherMember = Or (Then (One (symbol key.Entry)) (λ lead. Made MEntry (EntryLed lead)))
      (Or (Then (One (symbol key.Pragma)) (λ lead. Made {V = PExpr × Span} (λ v. MPriority v.0) (λ d v. PriorityShut source d v.0 v.1))) Never)

  member_is : (d : ℕ) (m : Member) (text : List Item) → EitherMember d m text → IsMember source d m text
  member_is d m text (inl is) =
      let (lead, back, from, (x, same, spelled)) = after_symbol key.Entry (λ lead. Made MEntry (EntryLed lead)) d m text is in
      subst (IsMember source d m) (sym from) (subst (λ n. IsMember source d n (symbol_item key.Entry lead ∷ back)) (sym same) spelled)
  member_is d m text (inr (inl is)) =
      let (lead, back, from, ((e, close), same, spelled)) = after_symbol key.Pragma (λ lead. Made {V = PExpr × Span} (λ v. MPriority v.0) (λ d v. PriorityShut source d v.0 v.1)) d m text is in
      subst (IsMember source d m) (sym from) (subst (λ n. IsMember source d n (symbol_item key.Pragma lead ∷ back)) (sym same) (symbol_item key.Pragma lead ∷ [], back, refl, (lead, refl), (priority_closing source d e).plain close back spelled))
  member_is d m text (inr (inr never)) = absurd never

  is_member : (d : ℕ) (m : Member) (text : List Item) → IsMember source d m text → EitherMember d m text
  is_member d (MEntry x) text is =
      let (lead, back, from, rest) = after_key key.Entry _ text is.0 in
      rw from (inl (symbol_then key.Entry (λ lead. Made MEntry (EntryLed lead)) d (MEntry x) lead back (x, refl, subst (IsMember source d (MEntry x)) from is)))
  is_member d (MPriority e) text is =
      let (lead, back, from, rest) = after_key key.Pragma _ text is in
      let (close, shut) = (priority_closing source d e).some_place back rest in
      rw from (inr (inl (symbol_then key.Pragma (λ lead. Made {V = PExpr × Span} (λ v. MPriority v.0) (λ d v. PriorityShut source d v.0 v.1)) d (MPriority e) lead back ((e, close), refl, shut))))

  law_member : (d : ℕ) (S : Item → Type 0) → Lawful d (tasks.member source d) (tasks.member source (suc d)) MemberTexts S
  law_member d S = law_fit (λ e deep m text is. member_is e m text is) (is_member d)
      (law_on {test = symbol key.Entry} (λ lead. made_pure MEntry (law_entry d lead S))
      (law_on {test = symbol key.Pragma} (λ lead. law_priority source d (λ e close. MPriority e) S) (careful_refuse d S) starts_never (symbol_item key.Pragma no_place) no_place (symbol_takes key.Pragma no_place)).careful
      (starts_or (starts_token (λ k at some. rw (symbol_is key.Pragma k at some) (entry_no_pragma at))) starts_never)
      (symbol_item key.Entry no_place) no_place (symbol_takes key.Entry no_place))

  member_opens : (d : ℕ) → Opens d MemberTexts tasks.begins_member
  member_opens d = record { opens_with = opens } where
    opens : (m : Member) (text : List Item) → IsMember source d m text → (k : Item) × (more : List Item) × (text ≡ k ∷ more) × (tasks.begins_member k ≡ true)
    opens (MEntry x) text is = let (lead, back, from, rest) = after_key key.Entry _ text is.0 in (symbol_item key.Entry lead, back, from, entry_begins lead)
    opens (MPriority e) text is = let (lead, back, from, rest) = after_key key.Pragma _ text is in (symbol_item key.Pragma lead, back, from, pragma_begins lead)

  row_many : (d : ℕ) (ms : List Member) (text : List Item) → ListOf (IsMember source d) ms text → Many MemberTexts d ms text
  row_many d [] text none = none
  row_many d (m ∷ ms) text (front, back, from, is, rest) = (front, back, from, is, row_many d ms back rest)

  many_row : (d : ℕ) (ms : List Member) (text : List Item) → Many MemberTexts d ms text → ListOf (IsMember source d) ms text
  many_row d [] text none = none
  many_row d (m ∷ ms) text (front, back, from, is, rest) = (front, back, from, is, many_row d ms back rest)

  abbrev EndsMembers : Item → Type 0
  EndsMembers x = tasks.begins_member x ≡ false

  abbrev RowTexts : Texts Item (List Member)
  RowTexts d ms text = ListOf (IsMember source d) ms text

  law_members : (d : ℕ) → Lawful d (items tasks.begins_member (tasks.member source d)) (items tasks.begins_member (tasks.member source (suc d))) RowTexts EndsMembers
  law_members d = law_fit (λ e deep ms text is. many_row e ms text is) (row_many d)
      (law_items (law_member d Anything) (member_opens d) (λ k is. tt) (λ x stop. tt) (λ x stop. stop))

  -- ---- behind `task [type] NAME`

  abbrev pub RestShut : ℕ → Word → List Member → Span → Spelling
  RestShut d w [] close = Either (KeyAt key.Semicolon close) (Key key.Is ▷ Key key.End ▷ NameEnd w close)
  RestShut d w (m ∷ ms) close = Key key.Is ▷ ListOf (IsMember source d) (m ∷ ms) ▷ Key key.End ▷ NameEnd w close

  closing_either : {Shut Shut' : Span → Spelling} {P Q : Spelling} → Closing Shut P → Closing Shut' Q → Closing (λ close. Either (Shut close) (Shut' close)) (Either P Q)
  closing_either one other = record {
    plain = λ close text is. ⊎_elim (λ left. inl (one.plain close text left)) (λ right. inr (other.plain close text right)) is;
    some_place = λ text is. ⊎_elim
        (λ left. let (close, shut) = one.some_place text left in (close, inl shut))
        (λ right. let (close, shut) = other.some_place text right in (close, inr shut)) is;
    last = λ close text is at. ⊎_elim (λ left. one.last close text left at) (λ right. other.last close text right at) is;
  }

  pub rest_closing : (d : ℕ) (w : Word) (ms : List Member) → Closing (RestShut d w ms) (TaskRest source d w ms)
  rest_closing d w [] = closing_either (closing_key key.Semicolon) (closing_then (Key key.Is) (closing_end w))
  rest_closing d w (m ∷ ms) = closing_then (Key key.Is) (closing_then (ListOf (IsMember source d) (m ∷ ms)) (closing_end w))

  abbrev MembersTexts : Span → Bool → Word → Texts Item PDecl
  MembersTexts lead of_kind w = Made {V = List Member × Span} (λ v. DTask (tasks.task_of of_kind w v.0) (from_to lead v.1)) (λ d v. Key key.Is ▷ ListOf (IsMember source d) v.0 ▷ Key key.End ▷ NameEnd w v.1)

  abbrev pub RestTexts : Span → Bool → Word → Texts Item PDecl
  RestTexts lead of_kind w = Made {V = List Member × Span} (λ v. DTask (tasks.task_of of_kind w v.0) (from_to lead v.1)) (λ d v. RestShut d w v.0 v.1)

  abbrev EitherRest : Span → Bool → Word → Texts Item PDecl
  EitherRest lead of_kind w = Or (Then (One (symbol key.Semicolon)) (λ close. Is (DTask (tasks.task_of of_kind w []) (from_to lead close)))) (MembersTexts lead of_kind w)

  rest_is : (lead : Span) (of_kind : Bool) (w : Word) (d : ℕ) (a : PDecl) (text : List Item) → EitherRest lead of_kind w d a text → RestTexts lead of_kind w d a text
  rest_is lead of_kind w d a text (inl is) =
      let (close, back, from, (same, none)) = after_symbol key.Semicolon (λ close. Is (DTask (tasks.task_of of_kind w []) (from_to lead close))) d a text is in
      (([], close), same, inl (from ∙ ap (λ l. symbol_item key.Semicolon close ∷ l) none))
  rest_is lead of_kind w d a text (inr (([], close), same, (front, back, from, is, (f, b, split, none, rest)))) =
      (([], close), same, inr (front, back, from, is, subst (Key key.End ▷ NameEnd w close) (sym (split ∙ ap (λ l. l ++ b) none)) rest))
  rest_is lead of_kind w d a text (inr ((m ∷ ms, close), same, rest)) = ((m ∷ ms, close), same, rest)

  is_rest : (lead : Span) (of_kind : Bool) (w : Word) (d : ℕ) (a : PDecl) (text : List Item) → RestTexts lead of_kind w d a text → EitherRest lead of_kind w d a text
  is_rest lead of_kind w d a text (([], close), same, inl one) =
      rw one (inl (symbol_then key.Semicolon (λ close. Is (DTask (tasks.task_of of_kind w []) (from_to lead close))) d a close [] (same, refl)))
  is_rest lead of_kind w d a text (([], close), same, inr (front, back, from, is, rest)) = inr (([], close), same, (front, back, from, is, ([], back, refl, refl, rest)))
  is_rest lead of_kind w d a text ((m ∷ ms, close), same, rest) = inr ((m ∷ ms, close), same, rest)

  semicolon_no_is : (at : Span) → symbol key.Semicolon (symbol_item key.Is at) ≡ None
  unfolding same
  semicolon_no_is at = refl

  pub law_rest : (d : ℕ) (lead : Span) (of_kind : Bool) (w : Word) (S : Item → Type 0) → Lawful d (tasks.task_rest source d lead of_kind w) (tasks.task_rest source (suc d) lead of_kind w) (RestTexts lead of_kind w) S
  law_rest d lead of_kind w S = law_fit (λ e deep a text is. rest_is lead of_kind w e a text is) (is_rest lead of_kind w d)
      (law_on {test = symbol key.Semicolon} (λ close. law_pure d (DTask (tasks.task_of of_kind w []) (from_to lead close)) S)
      (made_key key.Is (λ v. DTask (tasks.task_of of_kind w v.0) (from_to lead v.1)) (Both RowTexts (λ ms d close. Key key.End ▷ NameEnd w close))
      (made_bind (λ ms close. DTask (tasks.task_of of_kind w ms) (from_to lead close)) (λ ms d close. Key key.End ▷ NameEnd w close) (law_members d)
      (λ ms. law_end_of d w (λ close. DTask (tasks.task_of of_kind w ms) (from_to lead close)) S)
      (λ ms. starts_key key.End (λ close. DTask (tasks.task_of of_kind w ms) (from_to lead close)) (λ d close. NameEnd w close) end_no_member))).careful
      (starts_key key.Is (λ v. DTask (tasks.task_of of_kind w v.0) (from_to lead v.1)) (Both RowTexts (λ ms d close. Key key.End ▷ NameEnd w close)) semicolon_no_is)
      (symbol_item key.Semicolon no_place) no_place (symbol_takes key.Semicolon no_place))

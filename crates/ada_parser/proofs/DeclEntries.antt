-- The laws of entries (9.5).
use Rattle.std.proofs.Common.{◌≡◌, ℕ, suc, true, false, ◌⊎◌, inl, inr, ⊎_elim, List, [], ◌∷◌, ◌++◌, Option, Some, None, refl, sym, ap, ◌∙◌, subst}
use Rattle.std.specs.Prelude.{is_some, not, ◌||◌}
use Rattle.std.proofs.lemmas.List.{append_assoc}
use Rattle.ada_expr_parser.specs.readers.Readers.{Reader, Found, Fault, bind, on}
use Rattle.ada_expr_parser.specs.readers.Grammars.{Texts, Is, One, Then, Or, first_of, Starts}
use Rattle.ada_expr_parser.specs.readers.Lawful.{Lawful, IsYes, IsNo, Anything}
use Rattle.ada_expr_parser.proofs.readers.Basics.{not_both, found_rest, not_empty, tested}
use Rattle.ada_expr_parser.proofs.readers.Binding.{law_pure}
use Rattle.ada_expr_parser.proofs.readers.Choosing.{law_on}
use Rattle.ada_expr_parser.proofs.readers.Looking.{decided, law_look}
use Rattle.ada_expr_parser.proofs.readers.Fitting.{starts_is, law_fit}
use Rattle.ada_tree.specs.declared.naming.Span.{Span}
use Rattle.ada_tree.specs.declared.naming.Word.{Word}
use Rattle.ada_tree.specs.PlainExpr.{PDrange, RMarked}
use Rattle.ada_tree.specs.PlainStmt.{PFormal}
use Rattle.ada_tree.specs.PlainDecl.{PEntry}
use Rattle.ada_lexer.specs.declared.symbols.Symbol.TheVariants as key
use Rattle.ada_expr_parser.specs.declared.items.Item.{Item}
use Rattle.ada_expr_parser.specs.Tests.{same, symbol, word}
use Rattle.ada_expr_parser.specs.Trees.{from_to}
use Rattle.ada_expr_parser.specs.Grammar.{symbol_item, word_item}
use Rattle.ada_expr_parser.specs.Parts.{drange}
use Rattle.ada_parser.specs.expression_laws.Stopping.{EndsRange}
use Rattle.ada_parser.proofs.expression_laws.Tokens.{symbol_is, symbol_takes, word_is, none_is}
use Rattle.ada_parser.proofs.expression_laws.Primaries.{no_place, some_word}
use Rattle.ada_parser.proofs.expression_laws.Building.{law_drange}
use Rattle.ada_phrase_parser.specs.Spelling.{Spelling, ◌▷◌, IfThere, Key, Named}
use Rattle.ada_phrase_parser.specs.Phrases.{Drange, Formals}
use Rattle.ada_task_parser.specs.Tasks.{IsEntry}
use Rattle.ada_phrase_parser.specs.Reading.{is_symbol, is_formal_mark, behind_index}
use Rattle.ada_phrase_parser.specs.Reading as pieces
use Rattle.ada_task_parser.specs.inner.ReadingTasks as tasks
use Rattle.ada_parser.proofs.KitPieces.{KeyAt, Closing, closing_key, closing_then, closing_same, same_self, same_turn, same_behind, same_grouped, placed_key, key_placed}
use Rattle.ada_parser.proofs.KitReading.{Made, made_key, made_bind, made_then, made_pure, law_word, law_closed, starts_key, starts_last}
use Rattle.ada_parser.proofs.KitLeading.{symbol_at}
use Rattle.ada_parser.proofs.Continuing.{law_onward}
use Rattle.ada_parser.proofs.Narrowing.{Narrow, narrow_where, narrow_starts, passed_by, law_either}
use Rattle.ada_parser.proofs.Formals.{FormalsBehind, SomeFormals, whole_formals, first_name, law_formals_from, FormalsTexts, EndsFormals, law_formals, formals_start}
use Rattle.ada_parser.proofs.DeclInits.{Dranges, close_range, an_end}

-- ---- discrete ranges, from a name on

end_range : EndsRange an_end
end_range = (((((refl, refl), refl), refl), refl), refl)

comma_range : (at : Span) → EndsRange (symbol_item key.Comma at)
unfolding same
comma_range at = (((((refl, refl), refl), refl), refl), refl)

colon_range : (at : Span) → EndsRange (symbol_item key.Colon at)
unfolding same
colon_range at = (((((refl, refl), refl), refl), refl), refl)

abbrev a_mark : Word → PDrange
a_mark w = RMarked (record { mark = w; bounds = None })

mark_is : (d : ℕ) (w : Word) → Drange d (a_mark w) (word_item w ∷ [])
mark_is d w = record { back = []; bounds = refl; text_is = refl }

abbrev tail_of : List Item → List Item
tail_of [] = []
tail_of (x ∷ list) = list

-- a discrete range ends before an item that ends it
no_longer : (d : ℕ) (r s : PDrange) (front : List Item) (x : Item) (more : List Item) → Drange d r front → EndsRange x → Drange d s (front ++ (x ∷ more)) → ⊥
no_longer d r s front x more short stop long =
    let here : drange d (front ++ (x ∷ (more ++ an_end ∷ []))) ≡ Found r (x ∷ (more ++ an_end ∷ [])) = (law_drange d).careful.complete x (more ++ an_end ∷ []) short stop in
    let there : drange d ((front ++ (x ∷ more)) ++ an_end ∷ []) ≡ Found s (an_end ∷ []) = (law_drange d).careful.complete an_end [] long end_range in
    not_empty more an_end [] (ap tail_of (found_rest (sym there ∙ ap (drange d) (append_assoc front (x ∷ more) (an_end ∷ [])) ∙ here)))

end_fault : (d : ℕ) → drange d (an_end ∷ []) ≡ Fault false (an_end ∷ [])
end_fault d = refl

no_empty : (d : ℕ) (r : PDrange) → Drange d r [] → ⊥
no_empty d r is = not_both (sym ((law_drange d).careful.complete an_end [] is end_range) ∙ end_fault d)

abbrev DrangeBehind : Word → Texts Item PDrange
DrangeBehind w d r text = Drange d r (word_item w ∷ text)

law_drange_from : (d : ℕ) (w : Word) → Lawful d (tasks.drange_from d w) (tasks.drange_from (suc d) w) (DrangeBehind w) EndsRange
law_drange_from d w = law_onward (word_item w ∷ []) (law_drange d) (λ ts. refl) (λ ts. refl) an_end end_range (a_mark w, [], mark_is d w)

formal_mark_ends : (k : Item) → is_formal_mark k ≡ true → EndsRange k
formal_mark_ends k is = by (decided (is_symbol key.Colon k)) where
  by : (is_symbol key.Colon k ≡ true) ⊎ (is_symbol key.Colon k ≡ false) → EndsRange k
  by (inl colon) = let (at, from) = symbol_at key.Colon k colon in subst EndsRange (sym from) (colon_range at)
  by (inr off) = let (at, from) = symbol_at key.Comma k (sym (ap (λ b. b || is_symbol key.Comma k) off) ∙ is) in subst EndsRange (sym from) (comma_range at)

-- ---- behind the name of an entry

abbrev Held : Type 0
Held = pieces.Behind PDrange

abbrev held : Option PDrange → List PFormal → Held
held index formals = record { index = index; formals = formals }

abbrev Family : ℕ → Option PDrange → Spelling
Family d index = IfThere index (λ r. Key key.LeftParen ▷ Drange d r ▷ Key key.RightParen)

abbrev EntryTexts : Texts Item Held
EntryTexts d b text = (Family d b.index ▷ Formals b.formals) text

abbrev IndexTexts : PDrange → Texts Item Held
IndexTexts r = Made (λ fs. held (Some r) fs) (λ d fs. Key key.RightParen ▷ Formals fs)

law_index : (d : ℕ) (r : PDrange) → Lawful d (behind_index r) (behind_index r) (IndexTexts r) EndsFormals
law_index d r = made_key key.RightParen (λ fs. held (Some r) fs) FormalsTexts (made_pure (λ fs. held (Some r) fs) (law_formals d))

abbrev RangeTexts : (ℕ → PDrange → Spelling) → Texts Item Held
RangeTexts D = Made {V = PDrange × List PFormal} (λ v. held (Some v.0) v.1) (λ d v. D d v.0 ▷ Key key.RightParen ▷ Formals v.1)

law_range : {d : ℕ} {p p' : Reader Item PDrange} (D : ℕ → PDrange → Spelling) → Lawful d p p' D EndsRange → Lawful d (bind p behind_index) (bind p' behind_index) (RangeTexts D) EndsFormals
law_range {d = d} D law = made_bind (λ r fs. held (Some r) fs) (λ r d fs. Key key.RightParen ▷ Formals fs) law (law_index d)
    (λ r. starts_key key.RightParen (λ fs. held (Some r) fs) FormalsTexts close_range)

-- behind `(` and a name
abbrev NameTexts : Word → Texts Item Held
NameTexts w = Or (Made (λ fs. held None fs) (FormalsBehind w)) (RangeTexts (DrangeBehind w))

comma_mark : (at : Span) → is_formal_mark (symbol_item key.Comma at) ≡ true
unfolding same
comma_mark at = refl

colon_mark : (at : Span) → is_formal_mark (symbol_item key.Colon at) ≡ true
unfolding same
colon_mark at = refl

close_mark : (at : Span) → is_formal_mark (symbol_item key.RightParen at) ≡ false
unfolding same
close_mark at = refl

range_off : (d : ℕ) (w : Word) (S : Item → Type 0) → Starts d (RangeTexts (DrangeBehind w)) S (IsNo is_formal_mark)
range_off d w S = record { begins_with = begins } where
  off : (r : PDrange) (y : Item) (front : List Item) → Drange d r (word_item w ∷ y ∷ front) → is_formal_mark y ≡ false
  off r y front is = ⊎_elim
      (λ yes_is. absurd (no_longer d (a_mark w) r (word_item w ∷ []) y front (mark_is d w) (formal_mark_ends y yes_is) is))
      (λ no_is. no_is)
      (decided (is_formal_mark y))

  begins : (a : Held) (text : List Item) (x : Item) → RangeTexts (DrangeBehind w) d a text → S x → is_formal_mark (first_of x text) ≡ false
  begins a text x ((r, fs), same, ([], back, from, is, (f, b, split, (at, one), rest))) stop = rw from (rw split (rw one (close_mark at)))
  begins a text x ((r, fs), same, (y ∷ front, back, from, is, rest)) stop = rw from (off r y front is)

law_entry_name : (d : ℕ) (w : Word) → Lawful d (tasks.entry_name d w) (tasks.entry_name (suc d) w) (NameTexts w) EndsFormals
law_entry_name d w = law_look
    (made_pure (λ fs. held None fs) (law_formals_from d w EndsFormals)).careful
    (law_range (DrangeBehind w) (law_drange_from d w))
    (record { begins_with = λ a text x (fs, same, is) stop. (formals_start d w EndsFormals (IsYes is_formal_mark) comma_mark colon_mark).begins_with fs text x is stop })
    (range_off d w EndsFormals)

-- behind `(`
abbrev ParenTexts : Texts Item Held
ParenTexts = Or (Narrow (passed_by word) (RangeTexts Dranges)) (Then (One word) NameTexts)

law_paren : (d : ℕ) → Lawful d (on word (tasks.entry_name d) (bind (drange d) behind_index)) (on word (tasks.entry_name (suc d)) (bind (drange (suc d)) behind_index)) ParenTexts EndsFormals
law_paren d = law_either word (law_entry_name d)
    (narrow_where (passed_by word) (law_range Dranges (law_drange d)).careful nothing)
    narrow_starts (word_item some_word) some_word refl where
      nothing : (a : Held) → RangeTexts Dranges d a [] → ⊥
      nothing a ((r, fs), same, (front, back, from, is, (f, b, split, (at, one), rest))) =
          not_empty front (symbol_item key.RightParen at) b (from ∙ ap (λ l. front ++ l) (split ∙ ap (λ l. l ++ b) one))

-- a family and formals behind their parenthesis
abbrev ParenEntry : Span → Texts Item Held
ParenEntry lead d b text = EntryTexts d b (symbol_item key.LeftParen lead ∷ text)

range_entry : (d : ℕ) (lead : Span) (r : PDrange) (fs : List PFormal) (text : List Item) → (Drange d r ▷ Key key.RightParen ▷ Formals fs) text → ParenEntry lead d (held (Some r) fs) text
range_entry d lead r fs text (front, back, from, is, (f, b, split, close, rest)) = (
  symbol_item key.LeftParen lead ∷ (front ++ f),
  b,
  ap (λ l. symbol_item key.LeftParen lead ∷ l) (from ∙ ap (λ l. front ++ l) split ∙ sym (append_assoc front f b)),
  (symbol_item key.LeftParen lead ∷ [], front ++ f, refl, (lead, refl), (front, f, refl, is, close)),
  rest,
)

entry_range : (d : ℕ) (lead : Span) (r : PDrange) (fs : List PFormal) (text : List Item) → ParenEntry lead d (held (Some r) fs) text → (Drange d r ▷ Key key.RightParen ▷ Formals fs) text
entry_range d lead r fs text (whole, back, from, (f, b, split, (at, one), (front, c, split', is, close)), rest) =
    (front, c ++ back, ap tail_of (from ∙ ap (λ l. l ++ back) (split ∙ ap (λ l. l ++ b) one)) ∙ ap (λ l. l ++ back) split' ∙ append_assoc front c back, is, (c, back, refl, close, rest))

formals_entry : (d : ℕ) (lead : Span) (fs : List PFormal) (text : List Item) → SomeFormals d fs text → ParenEntry lead d (held None fs) text
formals_entry d lead fs text is =
    ([], symbol_item key.LeftParen lead ∷ text, refl, refl, whole_formals d fs (symbol_item key.LeftParen lead ∷ text) (symbol_item key.LeftParen lead ∷ [], text, refl, (lead, refl), is))

entry_formals : (d : ℕ) (lead : Span) (fs : List PFormal) (text : List Item) → ParenEntry lead d (held None fs) text → SomeFormals d fs text
entry_formals d lead fs text (front, back, from, none, is) = by fs (subst (Formals fs) (sym (from ∙ ap (λ l. l ++ back) none)) is) where
  by : (fs : List PFormal) → Formals fs (symbol_item key.LeftParen lead ∷ text) → SomeFormals d fs text
  by [] is = absurd (not_empty [] (symbol_item key.LeftParen lead) text (sym is))
  by (x ∷ more) (f, b, from, (at, one), rest) = subst (SomeFormals d (x ∷ more)) (sym (ap tail_of (from ∙ ap (λ l. l ++ b) one))) rest

paren_is : (d : ℕ) (lead : Span) (a : Held) (text : List Item) → ParenTexts d a text → ParenEntry lead d a text
paren_is d lead a text (inl narrow) = by narrow.spells where
  by : RangeTexts Dranges d a text → ParenEntry lead d a text
  by ((r, fs), same, is) = rw same (range_entry d lead r fs text is)
paren_is d lead a text (inr (w, one, rest, whole, (k, one_is, some), inl (fs, same, is))) =
    rw same (formals_entry d lead fs text (subst (SomeFormals d fs) (sym (whole ∙ ap (λ l. l ++ rest) one_is ∙ ap (λ t. t ∷ rest) (word_is k w some))) is))
paren_is d lead a text (inr (w, one, rest, whole, (k, one_is, some), inr ((r, fs), same, (front, back, from, is, more)))) =
    rw same (range_entry d lead r fs text
    (word_item w ∷ front, back, whole ∙ ap (λ l. l ++ rest) one_is ∙ ap (λ t. t ∷ rest) (word_is k w some) ∙ ap (λ l. word_item w ∷ l) from, is, more))

named_paren : (d : ℕ) (w : Word) (more : List Item) (index : Option PDrange) (fs : List PFormal) (lead : Span) → ParenEntry lead d (held index fs) (word_item w ∷ more) → NameTexts w d (held index fs) more
named_paren d w more None fs lead is = inl (fs, refl, entry_formals d lead fs (word_item w ∷ more) is)
named_paren d w more (Some r) fs lead is = by (entry_range d lead r fs (word_item w ∷ more) is) where
  by : (Drange d r ▷ Key key.RightParen ▷ Formals fs) (word_item w ∷ more) → NameTexts w d (held (Some r) fs) more
  by ([], back, from, is, rest) = absurd (no_empty d r is)
  by (y ∷ front, back, from, is, rest) = inr ((r, fs), refl, (front, back, ap tail_of from, subst (λ k. Drange d r (k ∷ front)) (sym (ap (first_of y) from)) is, rest))

other_paren : (d : ℕ) (k : Item) (more : List Item) (index : Option PDrange) (fs : List PFormal) (lead : Span) → word k ≡ None → ParenEntry lead d (held index fs) (k ∷ more) → Narrow (passed_by word) (RangeTexts Dranges) d (held index fs) (k ∷ more)
other_paren d k more None fs lead none is =
    let (w, back, from) = first_name d fs (k ∷ more) (entry_formals d lead fs (k ∷ more) is) in absurd (none_is (sym none ∙ ap word (ap (first_of k) from)))
other_paren d k more (Some r) fs lead none is = record { k = k; more = more; text_is = refl; passes = ap (λ m. not (is_some m)) none; spells = ((r, fs), refl, entry_range d lead r fs (k ∷ more) is) }

is_paren : (d : ℕ) (lead : Span) (a : Held) (text : List Item) → ParenEntry lead d a text → ParenTexts d a text
is_paren d lead a [] is = by a.index is where
  by : (index : Option PDrange) → ParenEntry lead d (held index a.formals) [] → ParenTexts d a []
  by None is = let (w, back, from) = first_name d a.formals [] (entry_formals d lead a.formals [] is) in absurd (not_empty [] (word_item w) back from)
  by (Some r) is =
      let (front, back, from, range, (f, b, split, (at, one), rest)) = entry_range d lead r a.formals [] is in
      absurd (not_empty front (symbol_item key.RightParen at) b (from ∙ ap (λ l. front ++ l) (split ∙ ap (λ l. l ++ b) one)))
is_paren d lead a (k ∷ more) is = by (tested (word k)) where
  by : (word k ≡ None) ⊎ ((w : Word) × (word k ≡ Some w)) → ParenTexts d a (k ∷ more)
  by (inl none) = inl (other_paren d k more a.index a.formals lead none is)
  by (inr (w, some)) = inr (w, k ∷ [], more, refl, (k, refl, some), named_paren d w more a.index a.formals lead (subst (λ y. ParenEntry lead d a (y ∷ more)) (word_is k w some) is))

law_paren_entry : (d : ℕ) (lead : Span) → Lawful d
    (on word (tasks.entry_name d) (bind (drange d) behind_index)) (on word (tasks.entry_name (suc d)) (bind (drange (suc d)) behind_index)) (ParenEntry lead) EndsFormals
law_paren_entry d lead = law_fit (λ e deep a text is. paren_is e lead a text is) (is_paren d lead) (law_paren d)

abbrev BehindTexts : Texts Item Held
BehindTexts = Or (Then (One (symbol key.LeftParen)) ParenEntry) (Is (held None []))

behind_is : (d : ℕ) (a : Held) (text : List Item) → BehindTexts d a text → EntryTexts d a text
behind_is d a text (inl (lead, one, back, from, (k, one_is, some), is)) =
    subst (EntryTexts d a) (sym (from ∙ ap (λ l. l ++ back) one_is ∙ ap (λ t. t ∷ back) (symbol_is key.LeftParen k lead some))) is
behind_is d a text (inr (same, none)) = rw same (rw none ([], [], refl, refl, refl))

-- what is there begins with a parenthesis
entry_first : (d : ℕ) (index : Option PDrange) (fs : List PFormal) (k : Item) (more : List Item) → EntryTexts d (held index fs) (k ∷ more) → (lead : Span) × (k ≡ symbol_item key.LeftParen lead)
entry_first d None [] k more (front, back, from, none, is) = absurd (not_empty [] k more (sym (from ∙ ap (λ l. l ++ back) none ∙ is)))
entry_first d None (x ∷ fs) k more (front, back, from, none, (f, b, split, (at, one), rest)) = (at, ap (first_of k) (from ∙ ap (λ l. l ++ back) none ∙ split ∙ ap (λ l. l ++ b) one))
entry_first d (Some r) fs k more (front, back, from, (f, b, split, (at, one), rest), formals) = (at, ap (first_of k) (from ∙ ap (λ l. l ++ back) (split ∙ ap (λ l. l ++ b) one)))

entry_none : (d : ℕ) (index : Option PDrange) (fs : List PFormal) → EntryTexts d (held index fs) [] → held index fs ≡ held None []
entry_none d None [] is = refl
entry_none d None (x ∷ fs) (front, back, from, none, (f, b, split, (at, one), rest)) = absurd (not_empty [] (symbol_item key.LeftParen at) b (from ∙ ap (λ l. l ++ back) none ∙ split ∙ ap (λ l. l ++ b) one))
entry_none d (Some r) fs (front, back, from, (f, b, split, (at, one), rest), formals) = absurd (not_empty [] (symbol_item key.LeftParen at) (b ++ back) (from ∙ ap (λ l. l ++ back) (split ∙ ap (λ l. l ++ b) one)))

is_behind : (d : ℕ) (a : Held) (text : List Item) → EntryTexts d a text → BehindTexts d a text
is_behind d a [] is = inr (entry_none d a.index a.formals is, refl)
is_behind d a (k ∷ more) is =
    let (lead, from) = entry_first d a.index a.formals k more is in
    inl (lead, k ∷ [], more, refl, (k, refl, ap (symbol key.LeftParen) from ∙ symbol_takes key.LeftParen lead), subst (λ y. EntryTexts d a (y ∷ more)) from is)

law_entry_behind : (d : ℕ) → Lawful d (tasks.entry_behind d) (tasks.entry_behind (suc d)) EntryTexts EndsFormals
law_entry_behind d = law_fit (λ e deep a text is. behind_is e a text is) (is_behind d)
    (law_on {test = symbol key.LeftParen} (law_paren_entry d) (law_pure d (held None []) EndsFormals).careful (starts_is (λ x stop. stop))
    (symbol_item key.LeftParen no_place) no_place (symbol_takes key.LeftParen no_place))

-- ---- entries

pub semicolon_formals : (at : Span) → EndsFormals (symbol_item key.Semicolon at)
unfolding same
semicolon_formals at = refl

abbrev HeadTexts : Span → Texts Item PEntry
HeadTexts lead = Made {V = Word × (Held × Span)} (λ v. tasks.entry_of v.0 v.1.0 (from_to lead v.1.1)) (λ d v. Named v.0 ▷ EntryTexts d v.1.0 ▷ KeyAt key.Semicolon v.1.1)

-- an entry behind its first word
abbrev pub EntryLed : Span → Texts Item PEntry
EntryLed lead d x text = IsEntry d x (symbol_item key.Entry lead ∷ text)

abbrev EntryShut : ℕ → Word → Option PDrange → List PFormal → Span → Spelling
EntryShut d w index fs close = Named w ▷ (Family d index ▷ Formals fs) ▷ KeyAt key.Semicolon close

entry_closing : (d : ℕ) (w : Word) (index : Option PDrange) (fs : List PFormal) → Closing (EntryShut d w index fs) (Named w ▷ Family d index ▷ Formals fs ▷ Key key.Semicolon)
entry_closing d w index fs = closing_same
    (λ close. same_behind (Named w) (same_turn (same_grouped (Family d index) (Formals fs) (KeyAt key.Semicolon close)))) (same_self (Named w ▷ Family d index ▷ Formals fs ▷ Key key.Semicolon))
    (closing_then (Named w) (closing_then (Family d index) (closing_then (Formals fs) (closing_key key.Semicolon))))

head_is : (lead : Span) (d : ℕ) (x : PEntry) (text : List Item) → HeadTexts lead d x text → EntryLed lead d x text
head_is lead d x text ((w, (b, close)), same, is) = rw same (placed_key key.Entry (entry_closing d w b.index b.formals) lead close text is)

is_head : (lead : Span) (d : ℕ) (x : PEntry) (text : List Item) → EntryLed lead d x text → HeadTexts lead d x text
is_head lead d x text is =
    let (close, place, rest) = key_placed key.Entry (entry_closing d x.name x.family x.formals) x.span lead text is in
    ((x.name, (held x.family x.formals, close)), ap (λ s. record { name = x.name; family = x.family; formals = x.formals; span = s }) place, rest)

pub law_entry : (d : ℕ) (lead : Span) (S : Item → Type 0) → Lawful d (tasks.entry_rest d lead) (tasks.entry_rest (suc d) lead) (EntryLed lead) S
law_entry d lead S = law_fit (λ e deep x text is. head_is lead e x text is) (is_head lead d)
    (made_then (λ w v. tasks.entry_of w v.0 (from_to lead v.1)) (λ w d v. EntryTexts d v.0 ▷ KeyAt key.Semicolon v.1) (law_word d Anything)
    (λ w. made_bind (λ b close. tasks.entry_of w b (from_to lead close)) (λ b d close. KeyAt key.Semicolon close) (law_entry_behind d)
    (λ b. law_closed d (λ close. tasks.entry_of w b (from_to lead close)) S) (λ b. starts_last key.Semicolon (λ close. tasks.entry_of w b (from_to lead close)) semicolon_formals)))

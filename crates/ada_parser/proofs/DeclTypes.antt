-- The laws of types, subtypes, instances of INTEGER_IO and pragmas, behind their first word (3.3, 3.5.1, 3.6, 9.8, 12.3).
use Rattle.std.proofs.Common.{◌≡◌, ℕ, suc, inl, inr, List, [], ◌∷◌, ◌++◌, Option, Some, None, refl, sym, ap, ◌∙◌, subst, codes}
use Rattle.std.specs.Prelude.{◌==◌, if◌then◌else◌}
use Rattle.std.proofs.lemmas.List.{append_assoc}
use Rattle.ada_expr_parser.specs.readers.Readers.{Reader, bind, token}
use Rattle.ada_expr_parser.specs.readers.Grammars.{Texts, Never, One, Then, Or}
use Rattle.ada_expr_parser.specs.readers.Lawful.{Lawful, IsPassed, Anything}
use Rattle.ada_expr_parser.proofs.readers.Binding.{law_then}
use Rattle.ada_expr_parser.proofs.readers.Choosing.{law_on, careful_refuse}
use Rattle.ada_expr_parser.proofs.readers.Listing.{law_token}
use Rattle.ada_expr_parser.proofs.readers.Fitting.{starts_never, starts_or, starts_token, law_fit}
use Rattle.ada_tree.specs.NameList.{predefined}
use Rattle.ada_tree.specs.declared.naming.Span.{Span}
use Rattle.ada_tree.specs.declared.naming.Word.{Word}
use Rattle.ada_tree.specs.PlainExpr.{PExpr, PSubind, PDrange}
use Rattle.ada_tree.specs.PlainDecl.{PDecl, DEnumeration, DArray, DSubtype, DIntIo}
use Rattle.ada_lexer.specs.declared.symbols.Symbol.TheVariants as key
use Rattle.ada_expr_parser.specs.declared.items.Item.{Item}
use Rattle.ada_expr_parser.specs.Tests.{same, symbol, word}
use Rattle.ada_expr_parser.specs.Trees.{from_to}
use Rattle.ada_expr_parser.specs.Grammar.{symbol_item, word_item}
use Rattle.ada_parser.proofs.expression_laws.Tokens.{symbol_is, symbol_takes, word_is, none_is}
use Rattle.ada_parser.proofs.expression_laws.Primaries.{no_place, close_ends}
use Rattle.ada_parser.proofs.expression_laws.Building.{law_subind}
use Rattle.ada_phrase_parser.specs.Spelling.{Source, Spelling, ◌▷◌, May, Key, Named, Again, WithId, Predefined, PriorityWord, id_of}
use Rattle.ada_phrase_parser.specs.Phrases.{Names, Expression, Drange}
use Rattle.ada_parser.specs.Declarations.{Subind, ArrayOf}
use Rattle.ada_phrase_parser.specs.Reading.{closed, key_then, separated, with_id_if, with_id, predefined_word}
use Rattle.ada_decl_parser.specs.inner.ReadingDeclarations as reading
use Rattle.ada_task_parser.specs.inner.ReadingTasks as tasks
use Rattle.ada_parser.specs.inner.ReadingDeclarativeParts as declarative
use Rattle.ada_parser.proofs.KitPieces.{KeyAt, Closing, closing_key, closing_then, closing_same, Same, same_self, same_grouped, same_through, same_behind}
use Rattle.ada_parser.proofs.KitReading.{Made, Both, made_key, made_bind, law_word, law_key, law_closed, law_separated, starts_key, starts_last}
use Rattle.ada_parser.proofs.KitDeeper.{Expressions, law_expression, again_from}
use Rattle.ada_parser.proofs.DeclInits.{law_array_then}
use Rattle.ada_parser.proofs.DeclNames.{semicolon_mark}
use Rattle.common_lemmas.proofs.Numbers.{equal_self}

-- ---- a name with a known id

with_id_word : (id : ℕ) (m : Option Word) (v : Word) → with_id_if id m ≡ Some v → (m ≡ Some v) × (v.name.0 ≡ id)
with_id_word id None v e = absurd (none_is e)
with_id_word id (Some w) v e =
    let (is, same) = again_from w.name.0 id w v (w.name.0 == id) refl e in
    (ap Some same, ap (λ u. u.name.0) (sym same) ∙ is)

abbrev word_of : ℕ → Span → Word
word_of id at = record { name = record { 0 = id }; span = at }

pub with_id_is : (id : ℕ) (k : Item) (v : Word) → with_id id k ≡ Some v → (at : Span) × (k ≡ word_item (word_of id at))
with_id_is id k v e =
    let (is, number) = with_id_word id (word k) v e in
    (v.span, word_is k v is ∙ ap (λ n. word_item (word_of n v.span)) number)

pub with_id_takes : (id : ℕ) (at : Span) → with_id id (word_item (word_of id at)) ≡ Some (word_of id at)
with_id_takes id at = ap (λ b. if b then Some (word_of id at) else None) (equal_self id)

module _ {A : Type 0} (id : ℕ) where
  id_taken : (E : Texts Item A) (e : ℕ) (a : A) (text : List Item) → Then (One (with_id id)) (λ w. E) e a text → (WithId id ▷ E e a) text
  id_taken E e a text (w, one, back, from, (k, one_is, some), is) =
      let (at, known) = with_id_is id k w some in (one, back, from, (at, one_is ∙ ap (λ t. t ∷ []) known), is)

  taken_id : (E : Texts Item A) (e : ℕ) (a : A) (text : List Item) → (WithId id ▷ E e a) text → Then (One (with_id id)) (λ w. E) e a text
  taken_id E e a text (front, back, from, (at, one), is) = (word_of id at, front, back, from, (word_item (word_of id at), one, with_id_takes id at), is)

module _ {A : Type 0} {d : ℕ} (id : ℕ) where
  pub law_with_id : {p p' : Reader Item A} {D : Texts Item A} {S : Item → Type 0} → Lawful d p p' D S → Lawful d (bind (token (with_id id)) (λ w. p)) (bind (token (with_id id)) (λ w. p')) (λ e a. WithId id ▷ D e a) S
  law_with_id {D = D} law = law_fit (λ e deep a text is. id_taken id D e a text is) (λ a text is. taken_id id D d a text is)
      (law_then (law_token {test = with_id id} (word_item (word_of id no_place)) (word_of id no_place) (with_id_takes id no_place)) (λ w. law))

  pub made_with_id : {V : Type 0} {p p' : Reader Item A} (f : V → A) (P : ℕ → V → Spelling) {S : Item → Type 0} → Lawful d p p' (Made f P) S →
      Lawful d (bind (token (with_id id)) (λ w. p)) (bind (token (with_id id)) (λ w. p')) (Made f (λ e v. WithId id ▷ P e v)) S
  made_with_id f P law = law_fit
      (λ e deep a text (front, back, from, k, (v, same, is)). (v, same, (front, back, from, k, is)))
      (λ a text (v, same, (front, back, from, k, is)). (front, back, from, k, (v, same, is)))
      (law_with_id law)

-- ---- `NAME is`, and what follows

abbrev pub NameIs : (Word → Texts Item PDecl) → Texts Item PDecl
NameIs T = Then (λ d w. Named w) (λ w d a. Key key.Is ▷ T w d a)

pub law_name_is : (d : ℕ) {next next' : Word → Reader Item PDecl} (T : Word → Texts Item PDecl) (S : Item → Type 0) → ((w : Word) → Lawful d (next w) (next' w) (T w) S) → Lawful d (declarative.name_is next) (declarative.name_is next') (NameIs T) S
law_name_is d T S law = law_then (law_word d Anything) (λ w. law_key key.Is (law w))

-- ---- types

close_names : (at : Span) → IsPassed (symbol key.Comma) (symbol_item key.RightParen at)
unfolding same
close_names at = refl

abbrev pub EnumerationTexts : Span → Word → Texts Item PDecl
EnumerationTexts lead w = Made {V = List Word × Span} (λ v. DEnumeration w v.0 (from_to lead v.1)) (λ d v. Names v.0 ▷ Key key.RightParen ▷ KeyAt key.Semicolon v.1)

law_enumeration : (d : ℕ) (lead : Span) (w : Word) (S : Item → Type 0) →
    Lawful d (bind (separated key.Comma (token word)) (λ ws. key_then key.RightParen (closed (λ close. DEnumeration w ws (from_to lead close)))))
    (bind (separated key.Comma (token word)) (λ ws. key_then key.RightParen (closed (λ close. DEnumeration w ws (from_to lead close))))) (EnumerationTexts lead w) S
law_enumeration d lead w S = made_bind {R = IsPassed (symbol key.Comma)} (λ ws close. DEnumeration w ws (from_to lead close)) (λ ws d close. Key key.RightParen ▷ KeyAt key.Semicolon close)
    (law_separated key.Comma {U = Anything} (law_word d Anything) (λ at. tt) (λ x stop. tt) (λ x stop. stop))
    (λ ws. made_key key.RightParen (λ close. DEnumeration w ws (from_to lead close)) (λ d close. KeyAt key.Semicolon close) (law_closed d (λ close. DEnumeration w ws (from_to lead close)) S))
    (λ ws. starts_key key.RightParen (λ close. DEnumeration w ws (from_to lead close)) (λ d close. KeyAt key.Semicolon close) close_names)

abbrev pub ArrayTexts : Span → Word → Texts Item PDecl
ArrayTexts lead w = Made {V = PDrange × (PSubind × Span)} (λ v. DArray w v.0 v.1.0 (from_to lead v.1.1))
    (λ d v. Key key.LeftParen ▷ Drange d v.0 ▷ Key key.RightParen ▷ Key key.Of ▷ Subind d v.1.0 ▷ KeyAt key.Semicolon v.1.1)

law_array : (d : ℕ) (lead : Span) (w : Word) (S : Item → Type 0) →
    Lawful d (reading.array_then d (λ r x. closed (λ close. DArray w r x (from_to lead close)))) (reading.array_then (suc d) (λ r x. closed (λ close. DArray w r x (from_to lead close)))) (ArrayTexts lead w) S
law_array d lead w S = law_array_then {V = PSubind × Span} (λ r v. DArray w r v.0 (from_to lead v.1)) (λ r d v. Subind d v.0 ▷ KeyAt key.Semicolon v.1)
    (λ r. made_bind (λ x close. DArray w r x (from_to lead close)) (λ x d close. KeyAt key.Semicolon close) (law_subind d)
    (λ x. law_closed d (λ close. DArray w r x (from_to lead close)) S) (λ x. starts_last key.Semicolon (λ close. DArray w r x (from_to lead close)) semicolon_mark))

abbrev pub TypeTexts : Span → Word → Texts Item PDecl
TypeTexts lead w = Or (Then (One (symbol key.LeftParen)) (λ at. EnumerationTexts lead w)) (Or (Then (One (symbol key.Array)) (λ at. ArrayTexts lead w)) Never)

array_no_paren : (at : Span) → symbol key.LeftParen (symbol_item key.Array at) ≡ None
unfolding same
array_no_paren at = refl

pub law_type : (d : ℕ) (lead : Span) (w : Word) (S : Item → Type 0) → Lawful d (reading.type_rest d lead w) (reading.type_rest (suc d) lead w) (TypeTexts lead w) S
law_type d lead w S = law_on {test = symbol key.LeftParen} (λ at. law_enumeration d lead w S)
    (law_on {test = symbol key.Array} (λ at. law_array d lead w S) (careful_refuse d S) starts_never (symbol_item key.Array no_place) no_place (symbol_takes key.Array no_place)).careful
    (starts_or (starts_token (λ k at some. rw (symbol_is key.Array k at some) (array_no_paren at))) starts_never)
    (symbol_item key.LeftParen no_place) no_place (symbol_takes key.LeftParen no_place)

abbrev pub EnumerationShut : Word → List Word → Span → Spelling
EnumerationShut w ws close = Named w ▷ Key key.Is ▷ Key key.LeftParen ▷ Names ws ▷ Key key.RightParen ▷ KeyAt key.Semicolon close

pub enumeration_closing : (w : Word) (ws : List Word) → Closing (EnumerationShut w ws) (Named w ▷ Key key.Is ▷ Key key.LeftParen ▷ Names ws ▷ Key key.RightParen ▷ Key key.Semicolon)
enumeration_closing w ws = closing_then (Named w) (closing_then (Key key.Is) (closing_then (Key key.LeftParen) (closing_then (Names ws) (closing_then (Key key.RightParen) (closing_key key.Semicolon)))))

-- the one and then the rest of a group
pub pushed : (P : Spelling) {A Q R : Spelling} → Same A (Q ▷ R) → Same (P ▷ A) ((P ▷ Q) ▷ R)
pushed P {Q = Q} {R = R} same = same_through (same_behind P same) (same_grouped P Q R)

abbrev pub ArrayShut : ℕ → Word → PDrange → PSubind → Span → Spelling
ArrayShut d w r x close = Named w ▷ Key key.Is ▷ Key key.Array ▷ Key key.LeftParen ▷ Drange d r ▷ Key key.RightParen ▷ Key key.Of ▷ Subind d x ▷ KeyAt key.Semicolon close

pub array_grouped : (d : ℕ) (r : PDrange) (x : PSubind) (Q : Spelling) → Same (Key key.Array ▷ Key key.LeftParen ▷ Drange d r ▷ Key key.RightParen ▷ Key key.Of ▷ Subind d x ▷ Q) (ArrayOf d r x ▷ Q)
array_grouped d r x Q = pushed (Key key.Array) (pushed (Key key.LeftParen) (pushed (Drange d r) (pushed (Key key.RightParen) (pushed (Key key.Of) (same_self (Subind d x ▷ Q))))))

pub array_closing : (d : ℕ) (w : Word) (r : PDrange) (x : PSubind) → Closing (ArrayShut d w r x) (Named w ▷ Key key.Is ▷ ArrayOf d r x ▷ Key key.Semicolon)
array_closing d w r x = closing_same
    (λ close. same_behind (Named w) (same_behind (Key key.Is) (array_grouped d r x (KeyAt key.Semicolon close)))) (same_self (Named w ▷ Key key.Is ▷ ArrayOf d r x ▷ Key key.Semicolon))
    (closing_then (Named w) (closing_then (Key key.Is) (closing_then (ArrayOf d r x) (closing_key key.Semicolon))))

-- ---- subtypes

abbrev pub SubtypeTexts : Span → Word → Texts Item PDecl
SubtypeTexts lead w = Made {V = PSubind × Span} (λ v. DSubtype w v.0 (from_to lead v.1)) (λ d v. Subind d v.0 ▷ KeyAt key.Semicolon v.1)

pub law_subtype : (d : ℕ) (lead : Span) (w : Word) (S : Item → Type 0) → Lawful d (reading.subtype_rest d lead w) (reading.subtype_rest (suc d) lead w) (SubtypeTexts lead w) S
law_subtype d lead w S = made_bind (λ x close. DSubtype w x (from_to lead close)) (λ x d close. KeyAt key.Semicolon close) (law_subind d)
    (λ x. law_closed d (λ close. DSubtype w x (from_to lead close)) S) (λ x. starts_last key.Semicolon (λ close. DSubtype w x (from_to lead close)) semicolon_mark)

abbrev pub SubtypeShut : ℕ → Word → PSubind → Span → Spelling
SubtypeShut d w x close = Named w ▷ Key key.Is ▷ Subind d x ▷ KeyAt key.Semicolon close

pub subtype_closing : (d : ℕ) (w : Word) (x : PSubind) → Closing (SubtypeShut d w x) (Named w ▷ Key key.Is ▷ Subind d x ▷ Key key.Semicolon)
subtype_closing d w x = closing_then (Named w) (closing_then (Key key.Is) (closing_then (Subind d x) (closing_key key.Semicolon)))

-- ---- instances

abbrev InstanceEnd : Word → Span → Spelling
InstanceEnd w close =
    Predefined (codes "INTEGER_IO") ▷ Key key.LeftParen ▷ Predefined (codes "INTEGER") ▷ Key key.RightParen ▷ Key key.Semicolon ▷ Key key.Use ▷ Again w ▷ KeyAt key.Semicolon close

law_instance_rest : (d : ℕ) (lead : Span) (w : Word) (S : Item → Type 0) → Lawful d (reading.instance_rest lead w) (reading.instance_rest lead w) (Made (λ close. DIntIo w (from_to lead close)) (λ d close. InstanceEnd w close)) S
law_instance_rest d lead w S =
    made_with_id (id_of predefined (codes "INTEGER_IO")) tree _
    (made_key key.LeftParen tree _ (made_with_id (id_of predefined (codes "INTEGER")) tree _ (made_key key.RightParen tree _ (made_key key.Semicolon tree _ (made_key key.Use tree _
    (made_with_id w.name.0 tree (λ d close. KeyAt key.Semicolon close) (law_closed d tree S))))))) where
      tree : Span → PDecl
      tree close = DIntIo w (from_to lead close)

abbrev pub InstanceTexts : Span → Word → Texts Item PDecl
InstanceTexts lead w = Made (λ close. DIntIo w (from_to lead close)) (λ d close. Key key.New ▷ May (Predefined (codes "TEXT_IO") ▷ Key key.Dot) ▷ InstanceEnd w close)

abbrev EitherInstance : Span → Word → Texts Item PDecl
EitherInstance lead w = Or (Then (One (predefined_word (codes "TEXT_IO"))) (λ at d a. Key key.Dot ▷ Made (λ close. DIntIo w (from_to lead close)) (λ d close. InstanceEnd w close) d a)) (Made (λ close. DIntIo w (from_to lead close)) (λ d close. InstanceEnd w close))

instance_is : (lead : Span) (w : Word) (d : ℕ) (a : PDecl) (text : List Item) → EitherInstance lead w d a text → Made (λ close. DIntIo w (from_to lead close)) (λ d close. May (Predefined (codes "TEXT_IO") ▷ Key key.Dot) ▷ InstanceEnd w close) d a text
instance_is lead w d a text (inl is) =
    let (front, back, from, mark, (f, b, split, dot, (close, same, rest))) = id_taken (id_of predefined (codes "TEXT_IO")) (λ d a. Key key.Dot ▷ Made (λ close. DIntIo w (from_to lead close)) (λ d close. InstanceEnd w close) d a) d a text is in
    (close, same, (front ++ f, b, from ∙ ap (λ l. front ++ l) split ∙ sym (append_assoc front f b), inr (front, f, refl, mark, dot), rest))
instance_is lead w d a text (inr (close, same, rest)) = (close, same, ([], text, refl, inl refl, rest))

is_instance : (lead : Span) (w : Word) (d : ℕ) (a : PDecl) (text : List Item) → Made (λ close. DIntIo w (from_to lead close)) (λ d close. May (Predefined (codes "TEXT_IO") ▷ Key key.Dot) ▷ InstanceEnd w close) d a text → EitherInstance lead w d a text
is_instance lead w d a text (close, same, (front, back, from, inl none, rest)) = inr (close, same, subst (InstanceEnd w close) (sym (from ∙ ap (λ l. l ++ back) none)) rest)
is_instance lead w d a text (close, same, (whole, back, from, inr (front, f, split, mark, dot), rest)) =
    inl (taken_id (id_of predefined (codes "TEXT_IO")) (λ d a. Key key.Dot ▷ Made (λ close. DIntIo w (from_to lead close)) (λ d close. InstanceEnd w close) d a) d a text
    (front, f ++ back, from ∙ ap (λ l. l ++ back) split ∙ append_assoc front f back, mark, (f, back, refl, dot, (close, same, rest))))

other_io : (at : Span) → predefined_word (codes "TEXT_IO") (word_item (word_of (id_of predefined (codes "INTEGER_IO")) at)) ≡ None
other_io at = refl

pub law_instance : (d : ℕ) (lead : Span) (w : Word) (S : Item → Type 0) → Lawful d (reading.instance lead w) (reading.instance lead w) (InstanceTexts lead w) S
law_instance d lead w S = made_key key.New (λ close. DIntIo w (from_to lead close)) (λ d close. May (Predefined (codes "TEXT_IO") ▷ Key key.Dot) ▷ InstanceEnd w close)
    (law_fit (λ e deep a text is. instance_is lead w e a text is) (λ a text is. is_instance lead w d a text is)
    (law_on {test = predefined_word (codes "TEXT_IO")} (λ at. law_key key.Dot (law_instance_rest d lead w S)) (law_instance_rest d lead w S).careful
    (record { begins_with = λ a text x (close, same, (front, back, from, (at, one), rest)) stop. rw from (rw one (other_io at)) })
    (word_item (word_of (id_of predefined (codes "TEXT_IO")) no_place)) (word_of (id_of predefined (codes "TEXT_IO")) no_place) (with_id_takes (id_of predefined (codes "TEXT_IO")) no_place)))

abbrev pub InstanceShut : Word → Span → Spelling
InstanceShut w close = Named w ▷ Key key.Is ▷ Key key.New ▷ May (Predefined (codes "TEXT_IO") ▷ Key key.Dot) ▷ InstanceEnd w close

pub instance_closing : (w : Word) → Closing (InstanceShut w)
    (Named w ▷ Key key.Is ▷ Key key.New ▷ May (Predefined (codes "TEXT_IO") ▷ Key key.Dot) ▷ Predefined (codes "INTEGER_IO") ▷ Key key.LeftParen ▷ Predefined (codes "INTEGER") ▷ Key key.RightParen ▷ Key key.Semicolon ▷ Key key.Use ▷ Again w ▷ Key key.Semicolon)
instance_closing w = closing_then (Named w) (closing_then (Key key.Is) (closing_then (Key key.New) (closing_then (May (Predefined (codes "TEXT_IO") ▷ Key key.Dot)) (closing_then (Predefined (codes "INTEGER_IO"))
    (closing_then (Key key.LeftParen) (closing_then (Predefined (codes "INTEGER")) (closing_then (Key key.RightParen) (closing_then (Key key.Semicolon) (closing_then (Key key.Use) (closing_then (Again w) (closing_key key.Semicolon)))))))))))

-- ---- pragmas

abbrev pub PriorityShut : Source → ℕ → PExpr → Span → Spelling
PriorityShut source d e close = PriorityWord source ▷ Key key.LeftParen ▷ Expression d e ▷ Key key.RightParen ▷ KeyAt key.Semicolon close

pub law_priority : {A : Type 0} (source : Source) (d : ℕ) (tree : PExpr → Span → A) (S : Item → Type 0) → Lawful d (tasks.priority source d tree) (tasks.priority source (suc d) tree) (Made {V = PExpr × Span} (λ v. tree v.0 v.1) (λ d v. PriorityShut source d v.0 v.1)) S
law_priority source d tree S = made_with_id (id_of source.names (codes "PRIORITY")) (λ v. tree v.0 v.1) _
    (made_key key.LeftParen (λ v. tree v.0 v.1) (Both Expressions (λ e d close. Key key.RightParen ▷ KeyAt key.Semicolon close))
    (made_bind tree (λ e d close. Key key.RightParen ▷ KeyAt key.Semicolon close) (law_expression d)
    (λ e. made_key key.RightParen (tree e) (λ d close. KeyAt key.Semicolon close) (law_closed d (tree e) S))
    (λ e. starts_key key.RightParen (tree e) (λ d close. KeyAt key.Semicolon close) close_ends)))

pub priority_closing : (source : Source) (d : ℕ) (e : PExpr) → Closing (PriorityShut source d e) (PriorityWord source ▷ Key key.LeftParen ▷ Expression d e ▷ Key key.RightParen ▷ Key key.Semicolon)
priority_closing source d e = closing_then (PriorityWord source) (closing_then (Key key.LeftParen) (closing_then (Expression d e) (closing_then (Key key.RightParen) (closing_key key.Semicolon))))

-- Names, numbers, durations and strings of a tree, told by their printed texts.
use Rattle.std.proofs.Common.{◌≡◌, ℕ, ◌+◌, ◌-◌, ◌*◌, ◌/◌, ◌%◌, ◌<◌, ◌≤◌, true, List, [], ◌∷◌, ◌++◌, length, take, drop, codes, decimal, slice_get, slice_range, Option, None, Some, IsSomeAnd, unwrap_or, refl, ap, ◌∙◌, sym, arith, inl, inr}
use Rattle.std.proofs.lemmas.Bool.{and_from, or_left, or_right, cond-true, cond-false, false≢true, cases_Bool}
use Rattle.std.proofs.lemmas.Bool.Decides.{nat_tests}
use Rattle.std.proofs.lemmas.List.Elements.{recursion_from_All}
use Rattle.std.proofs.Math.Seq.{take-append_seam}
use Rattle.std.specs.Prelude.{◌==◌}
use Rattle.std.specs.List.{AllByRecursion}
use Rattle.ada_lexer.specs.declared.kinds.TokenKind.TheVariants as kinds
use Rattle.ada_lexer.specs.Bytes.{is_printable, is_letter, is_digit}
use Rattle.common_lemmas.specs.Following.{begins, every}
use Rattle.ada_lexer.specs.Numbers.{decimals_value}
use Rattle.ada_lexer.specs.Pieces.{number_goes_on}
use Rattle.ada_lexer.specs.Strings.{content}
use Rattle.ada_lexer.specs.declared.verdicts.Verdict.TheVariants.{Kind}
use Rattle.ada_lexer.specs.Verdicts.{verdict}
use Rattle.read_back.proofs.Pieces.{Ends, string_ends}
use Rattle.ada_tree.specs.Lexical.{IsIdentifier, IsInteger, IsDuration, IsStringContent}
use Rattle.ada_tree.specs.Same.{SameName, SameWord}
use Rattle.ada_tree.specs.declared.naming.NameId.{NameId}
use Rattle.ada_tree.specs.declared.naming.Word.{Word}
use Rattle.ada_expr_parser.specs.declared.items.ItemKind.TheVariants as item
use Rattle.ada_expr_parser.specs.Grammar.{number_item}
use Rattle.ada_phrase_parser.specs.Spelling.{Named, Duration, is_graphic, StringAt}
use Rattle.ded_io.specs.Written.{◌⧺◌, each_text}
use Rattle.ada_printer.specs.Layout.{decimals, duration_text, character_text, string_text, name_text, word_text}
use Rattle.read_back.proofs.Classes.{Anything, Plain, WordEnd, Stop, Next}
use Rattle.read_back.proofs.Literals.{a_digit, digit_goes_on, IsNumber, IsContent, decimal_spells, integer_is, duration_from, no_content, content_mark, content_other, string_is}
use Rattle.read_back.proofs.Identifiers.{IsName, identifier_is}
use Rattle.read_back.proofs.Told.{Setting, names_of, source_of, Told, span_at, word_at, told_as, told_same, told_token, told_name}

-- ---- durations

-- the decimals of a duration are one to three digits, and mean so many thousandths
record AreDecimals (t h k : ℕ) (ds : List ℕ) : Type 0 where
  pub value : decimals_value ds ≡ Some (t * 100 + h * 10 + k)
  pub digit : begins is_digit ds ≡ true
  pub all : every number_goes_on ds ≡ true

decimals_are : (t h k : ℕ) → t < 10 → h < 10 → k < 10 → AreDecimals t h k (decimals t h k)
unfolding decimals_value
decimals_are t h k a b c = elim (cases_Bool (k == 0)) [
  | inl e ↦ (let none : k ≡ 0 = grind (arith, nat_tests) in elim (cases_Bool (h == 0)) [
    | inl f ↦
        (let less : h ≡ 0 = grind (arith, nat_tests) in
        let is : decimals t h k ≡ (48 + t) ∷ [] = cond-true (k == 0) _ _ e ∙ cond-true (h == 0) _ _ f in
        rw is (record { value = rw (a_digit t a) (ap Some (omega arith)); digit = a_digit t a; all = rw (digit_goes_on (48 + t) [] (a_digit t a)) refl }))
    | inr f ↦
        (let is : decimals t h k ≡ (48 + t) ∷ (48 + h) ∷ [] = cond-true (k == 0) _ _ e ∙ cond-false (h == 0) _ _ f in
        rw is (record { value = rw (a_digit t a, a_digit h b) (ap Some (omega arith)); digit = a_digit t a; all = rw (digit_goes_on (48 + t) ((48 + h) ∷ []) (a_digit t a), digit_goes_on (48 + h) [] (a_digit h b)) refl }))
  ])
  | inr e ↦
      (let is : decimals t h k ≡ (48 + t) ∷ (48 + h) ∷ (48 + k) ∷ [] = cond-false (k == 0) _ _ e in
      rw is (record { value = rw (a_digit t a, a_digit h b, a_digit k c) (ap Some (omega arith)); digit = a_digit t a; all = rw (digit_goes_on (48 + t) ((48 + h) ∷ (48 + k) ∷ []) (a_digit t a), digit_goes_on (48 + h) ((48 + k) ∷ []) (a_digit h b), digit_goes_on (48 + k) [] (a_digit k c)) refl }))
]

duration_is : (d : ℕ) → IsDuration d → IsNumber (duration_text d) (kinds.Duration d)
unfolding ◌⧺◌
duration_is d le =
    let parts = decimals_are (d / 100 % 10) (d / 10 % 10) (d % 10) (omega arith) (omega arith) (omega arith) in
    duration_from d (d / 1000) (d / 100 % 10 * 100 + d / 10 % 10 * 10 + d % 10) (decimal (d / 1000)) (decimals (d / 100 % 10) (d / 10 % 10) (d % 10)) (decimal_spells (d / 1000) (omega arith)) parts.value (omega arith) le parts.digit parts.all

-- ---- strings

body_of : List ℕ → List ℕ
body_of said = each_text character_text said ⧺ codes "\""

string_content : (said : List ℕ) → AllByRecursion (λ b. (32 ≤ b) × (b ≤ 126)) said → IsContent said (body_of said)
unfolding body_of ◌⧺◌
string_content [] h = no_content
string_content (b ∷ said) h = elim (cases_Bool (b == 34)) [
  | inl e ↦
      (let is : b ≡ 34 = grind (arith, nat_tests) in
      let text : character_text b ≡ 34 ∷ 34 ∷ [] = cond-true (b == 34) _ _ e in
      rw (text, is) (content_mark said _ (string_content said h.1)))
  | inr e ↦
      (let text : character_text b ≡ b ∷ [] = cond-false (b == 34) _ _ e in
      rw text (content_other b said _ e h.0.0 h.0.1 (string_content said h.1)))
]

-- ---- what they tell

number_plain : (t rest : List ℕ) → begins is_digit t ≡ true → Next Plain (t ++ rest)
number_plain [] rest h = absurd (false≢true h)
number_plain (b ∷ t) rest h = or_left _ _ (or_right (is_letter b) _ h)

some_name : (o : Option (List ℕ)) → IsSomeAnd o IsIdentifier → (o ≡ Some (unwrap_or o [])) × IsName (unwrap_or o [])
some_name None h = absurd h
some_name (Some t) h = (refl, identifier_is t h)

-- what a string may say is graphic
graphic : (said : List ℕ) → AllByRecursion (λ b. (32 ≤ b) × (b ≤ 126)) said → is_graphic said ≡ true
graphic [] h = refl
graphic (b ∷ said) h = and_from (is_printable b) _ (printable b h.0.0 h.0.1) (graphic said h.1)
  where
    printable : (b : ℕ) → 32 ≤ b → b ≤ 126 → is_printable b ≡ true
    printable b low high = grind (arith, nat_tests)

string_shape : (said : List ℕ) → string_text said ≡ 34 ∷ body_of said
unfolding body_of ◌⧺◌
string_shape said = refl

module _ (w : Setting) (n : List (List ℕ)) where
  -- an identifier of the source
  abbrev pub IsOldName : NameId → Type 0
  IsOldName id = IsSomeAnd (slice_get n id.0) IsIdentifier

  pub told_id_of : {at : ℕ} (id : NameId) → IsOldName id → Told w (SameName n (names_of w) id (word_at w at (name_text n id)).name) Plain WordEnd (Named (word_at w at (name_text n id))) at (name_text n id)
  told_id_of id known =
      let old = some_name (slice_get n id.0) known in
      told_same w (told_name w (name_text n id) old.1) (λ found. old.0 ∙ sym found)

  -- the word of a tree, as it is read at a place
  abbrev pub new_word : ℕ → Word → Word
  new_word at v = word_at w at (word_text n v)

  pub told_word : {at : ℕ} (v : Word) → IsOldName v.name → Told w (SameWord n (names_of w) v (new_word at v)) Plain WordEnd (Named (new_word at v)) at (word_text n v)
  told_word v known = told_id_of v.name known

  pub told_integer : {at : ℕ} (m : ℕ) → IsInteger m → Told w (Unit {0}) Plain Stop (λ items. items ≡ number_item m (span_at at (decimal m)) ∷ []) at (decimal m)
  told_integer {at = at} m le =
      let is = integer_is m le in
      told_token w (decimal m) Plain Stop (kinds.Integer m) (item.Integer m) is.ends is.verdict_is refl (λ rest. number_plain (decimal m) rest is.digit)

  pub told_duration : {at : ℕ} (d : ℕ) → IsDuration d → Told w (Unit {0}) Plain Stop (Duration d) at (duration_text d)
  told_duration {at = at} d le =
      let is = duration_is d le in
      told_as w (told_token w (duration_text d) Plain Stop (kinds.Duration d) (item.Duration d) is.ends is.verdict_is refl (λ rest. number_plain (duration_text d) rest is.digit)) (λ items one s. ((span_at at (duration_text d), one), s))

  -- the slice of the whole at the place of a text that stands there
  slice_there : (at : ℕ) (t rest : List ℕ) → drop at w.bytes ≡ t ++ rest → slice_range w.bytes at (at + length t) ≡ t
  slice_there at t rest is =
      let len : (at + length t) - at ≡ length t = omega arith in
      ap (λ l. take ((at + length t) - at) l) is ∙ ap (λ m. take m (t ++ rest)) len ∙ take-append_seam t rest

  pub told_string : {at : ℕ} (t : List ℕ) → IsStringContent t → Told w (Unit {0}) Anything Stop (StringAt (source_of w) t (span_at at (string_text t))) at (string_text t)
  unfolding span_at
  told_string {at = at} t good =
      let inside = string_content t (recursion_from_All _ t good.0) in
      let ends : Ends Stop (string_text t) = rw string_shape (string_ends (body_of t) inside.run inside.closed) in
      let kind : (at : ℕ) → verdict at (string_text t) ≡ Kind kinds.Text = λ at. rw string_shape (string_is t (body_of t) good.1 inside at) in
      let token = told_token w {at = at} (string_text t) Anything Stop kinds.Text item.Text ends kind refl (λ rest. tt) in
      record {
        items = token.items;
        chunk = token.chunk;
        opens = token.opens;
        says = λ stands known.
            let slice : slice_range w.bytes at (at + length (string_text t)) ≡ 34 ∷ body_of t = slice_there at (string_text t) stands.0 stands.1 ∙ string_shape t in
            (((token.says stands known).0, sym (ap (λ l. content true (drop 1 l)) slice ∙ inside.content_is), graphic t (recursion_from_All _ t good.0)), tt);
      }

-- Texts that say what a grammar asks: how they are put together.
use Rattle.std.proofs.Common.{◌≡◌, ℕ, zero, suc, ◌+◌, ◌<◌, Bool, true, false, not, leb, List, [], ◌∷◌, ◌++◌, length, drop, slice_get, codes, Some, refl, ap, ◌∙◌, sym, subst, arith, append_assoc, append-nil, inl, inr}
use Rattle.std.proofs.lemmas.Bool.{and_parts, or_left, cond-true, cond-false, false≢true, cases_Bool, leb-true}
use Rattle.std.proofs.lemmas.List.{length-append, drop-drop}
use Rattle.std.proofs.lemmas.Slice.Eq.{bytes_eq-Decides}
use Rattle.std.proofs.Math.Seq.{drop-append_seam}
use Rattle.std.specs.Prelude.{◌&&◌, ◌||◌}
use Rattle.std.specs.List.{list_any}
use Rattle.std.specs.Str.{bytes_eq}
use Rattle.ada_lexer.specs.declared.kinds.TokenKind.{TokenKind}
use Rattle.ada_lexer.specs.declared.kinds.TokenKind.TheVariants as kinds
use Rattle.ada_lexer.specs.declared.verdicts.Verdict.TheVariants.{Gap, Kind}
use Rattle.ada_lexer.specs.Bytes.{is_letter, is_white}
use Rattle.common_lemmas.specs.Following.{begins}
use Rattle.ada_lexer.specs.Verdicts.{verdict}
use Rattle.ada_tree.specs.Lexical.{reserved, is_word, IsIdentifier}
use Rattle.ada_tree.specs.NameList.{predefined}
use Rattle.ada_tree.specs.declared.naming.Span.{Span}
use Rattle.ada_tree.specs.declared.naming.Word.{Word}
use Rattle.ada_lexer.specs.declared.symbols.Symbol.{Symbol}
use Rattle.ada_expr_parser.specs.declared.items.ItemKind.{ItemKind}
use Rattle.ada_expr_parser.specs.declared.items.ItemKind.TheVariants as item
use Rattle.ada_expr_parser.specs.declared.items.Item.{Item}
use Rattle.ada_expr_parser.specs.Grammar.{symbol_item, word_item}
use Rattle.ada_expr_parser.specs.Trees.{from_to}
use Rattle.ada_phrase_parser.specs.Spelling.{Source, Spelling, Nothing, ◌▷◌, Key, Named, WithId, Predefined, id_of, last_place, Placed}
use Rattle.ded_io.specs.Written.{◌⧺◌}
use Rattle.ada_printer.specs.Layout.{indent}
use Rattle.read_back.proofs.Classes.{Class, Anything, Plain, WordEnd, Stop, Next, under, weaken}
use Rattle.read_back.proofs.Pieces.{Ends, white_ends}
use Rattle.read_back.proofs.Identifiers.{IsName, identifier_is}
use Rattle.read_back.proofs.Symbols.{sign_bytes, sign_class, sign_opening, sign_opens, sign_ends, sign_verdict}
use Rattle.read_back.proofs.Lexed.{Tells, Chunk, chunk_gap, chunk_token, chunk_nothing, chunk_then}

-- A bit of a literal text: a blank, a line feed, a reserved word or delimiter, a predefined name, or another name.
pub data Bit : Type 0 where
  Blank : Bit
  Line : Bit
  Sign : Symbol → Bit
  Fixed : List ℕ → Bit
  Own : List ℕ → Bit

abbrev pub bit_bytes : Bit → List ℕ
bit_bytes Blank = 32 ∷ []
bit_bytes Line = 10 ∷ []
bit_bytes (Sign s) = sign_bytes s
bit_bytes (Fixed t) = t
bit_bytes (Own t) = t

abbrev pub bits_bytes : List Bit → List ℕ
bits_bytes [] = []
bits_bytes (b ∷ bits) = bit_bytes b ++ bits_bytes bits

-- what may stand behind a bit, and what it begins with
abbrev pub bit_class : Bit → Class
bit_class Blank = Anything
bit_class Line = Anything
bit_class (Sign s) = sign_class s
bit_class (Fixed t) = WordEnd
bit_class (Own t) = WordEnd

abbrev pub bit_opening : Bit → Class
bit_opening Blank = Stop
bit_opening Line = Stop
bit_opening (Sign s) = sign_opening s
bit_opening (Fixed t) = Plain
bit_opening (Own t) = Plain

abbrev pub bits_opening : List Bit → Class → Class
bits_opening [] c = c
bits_opening (b ∷ bits) c = bit_opening b

abbrev pub is_identifier : List ℕ → Bool
is_identifier t = is_word t && (leb (length t) 150 && not (list_any (bytes_eq t) reserved))

abbrev pub is_fixed : List ℕ → Bool
is_fixed t = is_identifier t && list_any (bytes_eq t) predefined

abbrev pub is_sound : Bit → Bool
is_sound (Fixed t) = is_fixed t
is_sound (Own t) = is_identifier t
is_sound b = true

-- each bit may stand before the next, and the last before the class
abbrev pub fits : List Bit → Class → Bool
fits [] c = true
fits (b ∷ bits) c = (is_sound b && under (bit_class b) (bits_opening bits c)) && fits bits c

abbrev pub are_gaps : List Bit → Bool
are_gaps [] = true
are_gaps (Blank ∷ bits) = are_gaps bits
are_gaps (Line ∷ bits) = are_gaps bits
are_gaps (b ∷ bits) = false

abbrev pub last_or : Bool → Spelling → Spelling → Spelling
last_or true P Q = P
last_or false P Q = Q

identifier_test : (t : List ℕ) → is_identifier t ≡ true → IsIdentifier t
identifier_test t h =
    let one = and_parts (is_word t) (leb (length t) 150 && not (list_any (bytes_eq t) reserved)) h in
    let two = and_parts (leb (length t) 150) (not (list_any (bytes_eq t) reserved)) one.1 in
    (one.0, leb-true _ _ two.0, two.1)

-- a text that begins with a letter begins so before all that follows
letter_plain : (t rest : List ℕ) → begins is_letter t ≡ true → Next Plain (t ++ rest)
letter_plain [] rest h = absurd (false≢true h)
letter_plain (b ∷ t) rest h = or_left _ _ (or_left (is_letter b) _ h)

-- the id of a text is its place, if it is among the names
pub id_found : (names : List (List ℕ)) (t : List ℕ) → id_of names t < length names → slice_get names (id_of names t) ≡ Some t
id_found [] t low = absurd (omega arith)
id_found (name ∷ names) t low = elim (cases_Bool (bytes_eq name t)) [
  | inl e ↦ rw e (ap Some ((bytes_eq-Decides name t).0 e))
  | inr e ↦
      (let is : id_of (name ∷ names) t ≡ suc (id_of names t) = cond-false (bytes_eq name t) _ _ e in
      rw is (id_found names t (omega (arith, is))))
]

pub differ_back : (a b : List ℕ) → bytes_eq a b ≡ false → bytes_eq b a ≡ false
differ_back a b e = elim (cases_Bool (bytes_eq b a)) [
  | inl f ↦ absurd (false≢true (sym e ∙ (bytes_eq-Decides a b).1 (sym ((bytes_eq-Decides b a).0 f))))
  | inr f ↦ f
]

id_of-append : (xs ys : List (List ℕ)) (t : List ℕ) → list_any (bytes_eq t) xs ≡ true → id_of (xs ++ ys) t ≡ id_of xs t
id_of-append [] ys t h = absurd (false≢true h)
id_of-append (name ∷ xs) ys t h = elim (cases_Bool (bytes_eq name t)) [
  | inl e ↦ cond-true (bytes_eq name t) _ _ e ∙ sym (cond-true (bytes_eq name t) _ _ e)
  | inr e ↦
      (let later : list_any (bytes_eq t) xs ≡ true = sym (ap (λ b. b || list_any (bytes_eq t) xs) (differ_back name t e)) ∙ h in
      cond-false (bytes_eq name t) _ _ e ∙ ap (λ n. suc n) (id_of-append xs ys t later) ∙ sym (cond-false (bytes_eq name t) _ _ e))
]

-- the place from the first of some items to the last
abbrev pub place_of : List Item → Span
place_of [] = record { start = 0; end = 0 }
place_of (x ∷ more) = from_to x.span (last_place x.span more)

-- each text of it has an item
abbrev pub Filled : Spelling → Type 0
Filled P = P [] → ⊥

placed_there : (P : Spelling) → Filled P → (items : List Item) → P items → Placed (place_of items) P items
placed_there P filled [] said = absurd (filled said)
placed_there P filled (x ∷ more) said = (said, refl)

-- the place of a text
unfoldable pub span_at : ℕ → List ℕ → Span
span_at at t = record { start = at; end = at + length t }

-- the bytes of a whole text, and the names behind the predefined ones by which its items are told
pub record Setting : Type 0 where
  pub bytes : List ℕ
  pub more : List (List ℕ)

abbrev pub names_of : Setting → List (List ℕ)
names_of w = predefined ++ w.more

abbrev pub source_of : Setting → Source
source_of w = record { bytes = w.bytes; names = names_of w }

module _ (w : Setting) where
  -- the text stands at this place of the whole
  abbrev pub IsAt : ℕ → List ℕ → Type 0
  IsAt at text = (rest : List ℕ) × (drop at w.bytes ≡ text ++ rest)

  abbrev pub IsKnownKind : ItemKind → Type 0
  IsKnownKind (item.Name id) = id.0 < length (names_of w)
  IsKnownKind _ = Unit {0}

  -- each name is among the names
  abbrev pub AreKnown : List Item → Type 0
  AreKnown [] = Unit {0}
  AreKnown (x ∷ items) = IsKnownKind x.kind × AreKnown items

  -- The text, which begins with the opening class, says items before all that begins with the class after it. Where it stands in the whole and its names are known, the items are spelled so, and S is true.
  pub record Told (S : Type 0) (opening after : Class) (P : Spelling) (at : ℕ) (text : List ℕ) : Type 0 where
    pub items : List Item
    pub chunk : Chunk (names_of w) after at text items
    pub opens : (rest : List ℕ) → Next after rest → Next opening (text ++ rest)
    pub says : IsAt at text → AreKnown items → P items × S

  at_front : (at : ℕ) (t u : List ℕ) → IsAt at (t ++ u) → IsAt at t
  at_front at t u (rest, is) = (u ++ rest, is ∙ append_assoc t u rest)

  at_back : (at : ℕ) (t u : List ℕ) → IsAt at (t ++ u) → IsAt (at + length t) u
  at_back at t u (rest, is) =
      (rest, sym (drop-drop (length t) at w.bytes) ∙ ap (drop (length t)) (is ∙ append_assoc t u rest) ∙ drop-append_seam t (u ++ rest))

  known_parts : (i j : List Item) → AreKnown (i ++ j) → AreKnown i × AreKnown j
  known_parts [] j h = (tt, h)
  known_parts (x ∷ i) j h = let parts = known_parts i j h.1 in ((h.0, parts.0), parts.1)

  -- the same, seen otherwise
  pub told_as : {S T : Type 0} {o a : Class} {P Q : Spelling} {at : ℕ} {text : List ℕ} → Told S o a P at text → ((items : List Item) → P items → S → Q items × T) → Told T o a Q at text
  told_as h f = record {
    items = h.items;
    chunk = h.chunk;
    opens = h.opens;
    says = λ stands known. let said = h.says stands known in f h.items said.0 said.1;
  }

  -- the same, seen otherwise in the items that it has
  pub told_here : {S T : Type 0} {o a : Class} {P Q : Spelling} {at : ℕ} {text : List ℕ} (h : Told S o a P at text) → (P h.items → S → Q h.items × T) → Told T o a Q at text
  told_here h f = record {
    items = h.items;
    chunk = h.chunk;
    opens = h.opens;
    says = λ stands known. let said = h.says stands known in f said.0 said.1;
  }

  pub told_same : {S T : Type 0} {o a : Class} {P : Spelling} {at : ℕ} {text : List ℕ} → Told S o a P at text → (S → T) → Told T o a P at text
  told_same h f = told_as h (λ items p s. (p, f s))

  pub told_opens : {S : Type 0} {o p a : Class} {P : Spelling} {at : ℕ} {text : List ℕ} → Told S o a P at text → under p o ≡ true → Told S p a P at text
  told_opens {o = o} {p = p} {text = text} h u = record {
    items = h.items;
    chunk = h.chunk;
    opens = λ rest next. weaken p o u (text ++ rest) (h.opens rest next);
    says = h.says;
  }

  pub told_ends : {S : Type 0} {o a b : Class} {P : Spelling} {at : ℕ} {text : List ℕ} → Told S o a P at text → under a b ≡ true → Told S o b P at text
  told_ends {a = a} {b = b} h u = record {
    items = h.items;
    chunk = λ rest tail next. h.chunk rest tail (weaken a b u rest next);
    opens = λ rest next. h.opens rest (weaken a b u rest next);
    says = h.says;
  }

  pub told_any : {S : Type 0} {o a : Class} {P : Spelling} {at : ℕ} {text : List ℕ} → Told S o a P at text → Told S Anything a P at text
  told_any h = told_opens h refl

  pub told_nothing : {at : ℕ} {a : Class} → Told (Unit {0}) a a Nothing at []
  told_nothing {at = at} {a = a} = record {
    items = [];
    chunk = chunk_nothing (names_of w) at a;
    opens = λ rest next. next;
    says = λ stands known. (refl, tt);
  }

  -- the one behind the other
  pub told_then : {S T : Type 0} {o a p b : Class} {P Q : Spelling} {at : ℕ} {t u : List ℕ} → Told S o a P at t → Told T p b Q (at + length t) u → under a p ≡ true → Told (S × T) o b (P ▷ Q) at (t ⧺ u)
  unfolding ◌⧺◌
  told_then {o = o} {a = a} {p = p} {b = b} {at = at} {t = t} {u = u} first second meets =
      let joins : (rest : List ℕ) → Next b rest → Next a (u ++ rest) = λ rest next. weaken a p meets (u ++ rest) (second.opens rest next) in
      record {
        items = first.items ++ second.items;
        chunk = chunk_then (names_of w) at t u a b first.items second.items first.chunk joins second.chunk;
        opens = λ rest next. rw (append_assoc t u rest) (first.opens (u ++ rest) (joins rest next));
        says = λ stands known.
            let parts = known_parts first.items second.items known in
            let one = first.says (at_front at t u stands) parts.0 in
            let two = second.says (at_back at t u stands) parts.1 in
            ((first.items, second.items, refl, one.0, two.0), (one.1, two.1));
      }

  -- ---- blanks and line feeds

  told_gap : {S : Type 0} {o a : Class} {P : Spelling} {at : ℕ} {u : List ℕ} (b : ℕ) (c : Class) → is_white b ≡ true → ((rest : List ℕ) → Next c (b ∷ rest)) → ((at : ℕ) → verdict at (b ∷ []) ≡ Gap) → Told S o a P (at + 1) u → Told S c a P at (b ∷ u)
  told_gap {o = o} {a = a} {at = at} {u = u} b c white opens gap h = record {
    items = h.items;
    chunk = chunk_then (names_of w) at (b ∷ []) u Anything a [] h.items (chunk_gap (names_of w) at (b ∷ []) Anything (white_ends b white) (gap at)) (λ rest next. tt) h.chunk;
    opens = λ rest next. opens (u ++ rest);
    says = λ stands known. h.says (at_back at (b ∷ []) u stands) known;
  }

  blank_gap : (at : ℕ) → verdict at (32 ∷ []) ≡ Gap
  unfolding verdict
  blank_gap at = refl

  line_gap : (at : ℕ) → verdict at (10 ∷ []) ≡ Gap
  unfolding verdict
  line_gap at = refl

  pub told_blank : {S : Type 0} {o a : Class} {P : Spelling} {at : ℕ} {u : List ℕ} → Told S o a P (at + 1) u → Told S Stop a P at (32 ∷ u)
  told_blank h = told_gap 32 Stop refl (λ rest. refl) blank_gap h

  pub told_line : {S : Type 0} {o a : Class} {P : Spelling} {at : ℕ} {u : List ℕ} → Told S o a P (at + 1) u → Told S Stop a P at (10 ∷ u)
  told_line h = told_gap 10 Stop refl (λ rest. refl) line_gap h

  -- at the same place
  pub told_at : {S : Type 0} {o a : Class} {P : Spelling} {text : List ℕ} (at to : ℕ) → at ≡ to → Told S o a P at text → Told S o a P to text
  told_at {S = S} {o = o} {a = a} {P = P} {text = text} at to same h = subst (λ n. Told S o a P n text) same h

  pub told_text : {S : Type 0} {o a : Class} {P : Spelling} {at : ℕ} (t u : List ℕ) → t ≡ u → Told S o a P at t → Told S o a P at u
  told_text {S = S} {o = o} {a = a} {P = P} {at = at} t u same h = subst (λ l. Told S o a P at l) same h

  indent_more : {S : Type 0} {o a : Class} {P : Spelling} {u : List ℕ} (level at : ℕ) → Told S o a P (at + length (indent level)) u → Told S Anything a P at (indent level ++ u)
  unfolding ◌⧺◌
  indent_more {o = o} zero at h = told_any (told_at (at + 0) at (omega arith) h)
  indent_more (suc level) at h =
      let place : at + length (codes "   " ++ indent level) ≡ (((at + 1) + 1) + 1) + length (indent level) = omega (arith, length-append (codes "   ") (indent level)) in
      told_any (told_blank (told_blank (told_blank (indent_more level (((at + 1) + 1) + 1) (told_at _ _ place h)))))

  -- an indentation says nothing
  pub told_indent : {S : Type 0} {o a : Class} {P : Spelling} {u : List ℕ} {at : ℕ} (level : ℕ) → Told S o a P (at + length (indent level)) u → Told S Anything a P at (indent level ⧺ u)
  unfolding ◌⧺◌
  told_indent {at = at} level h = indent_more level at h

  -- ---- words and delimiters

  -- one token
  pub told_token : {at : ℕ} (p : List ℕ) (o a : Class) (kind : TokenKind) (said : ItemKind) → Ends a p → ((at : ℕ) → verdict at p ≡ Kind kind) → Tells (names_of w) kind p said → ((rest : List ℕ) → Next o (p ++ rest)) →
      Told (Unit {0}) o a (λ items. items ≡ record { kind = said; span = span_at at p } ∷ []) at p
  unfolding span_at
  told_token {at = at} p o a kind said ends is tells opens = record {
    items = record { kind = said; span = span_at at p } ∷ [];
    chunk = chunk_token (names_of w) at p a kind _ ends (is at) (record { tells = tells; start = refl; end = refl });
    opens = λ rest next. opens rest;
    says = λ stands known. (refl, tt);
  }

  pub told_sign : {at : ℕ} (s : Symbol) → Told (Unit {0}) (sign_opening s) (sign_class s) (Key s) at (sign_bytes s)
  unfolding span_at
  told_sign {at = at} s = record {
    items = symbol_item s (span_at at (sign_bytes s)) ∷ [];
    chunk = chunk_token (names_of w) at (sign_bytes s) (sign_class s) (kinds.Symbol s) _ (sign_ends s) (sign_verdict s at) (record { tells = refl; start = refl; end = refl });
    opens = λ rest next. sign_opens s rest;
    says = λ stands known. ((span_at at (sign_bytes s), refl), tt);
  }

  -- the word of a text at a place
  abbrev pub word_at : ℕ → List ℕ → Word
  word_at at t = record { name = record { 0 = id_of (names_of w) t }; span = span_at at t }

  -- an identifier
  pub told_name : {at : ℕ} (t : List ℕ) → IsName t → Told (slice_get (names_of w) (id_of (names_of w) t) ≡ Some t) Plain WordEnd (Named (word_at at t)) at t
  unfolding span_at
  told_name {at = at} t name = record {
    items = word_item (word_at at t) ∷ [];
    chunk = chunk_token (names_of w) at t WordEnd kinds.Name _ name.ends (name.verdict_is at) (record { tells = (refl, ap (id_of (names_of w)) (sym name.upper)); start = refl; end = refl });
    opens = λ rest next. letter_plain t rest name.letter;
    says = λ stands known. (refl, id_found (names_of w) t known.0);
  }

  -- an identifier with its id alone
  pub told_id : {at : ℕ} (t : List ℕ) → IsName t → Told (Unit {0}) Plain WordEnd (WithId (id_of (names_of w) t)) at t
  told_id {at = at} t name = told_as (told_name t name) (λ items is found. ((span_at at t, is), tt))

  -- ---- literal texts

  abbrev pub BitThen : Bit → Spelling → Spelling
  BitThen Blank Q = Q
  BitThen Line Q = Q
  BitThen (Sign s) Q = Key s ▷ Q
  BitThen (Fixed t) Q = Predefined t ▷ Q
  BitThen (Own t) Q = WithId (id_of (names_of w) t) ▷ Q

  -- the bits, and then this
  abbrev pub BitsThen : List Bit → Spelling → Spelling
  BitsThen [] Q = Q
  BitsThen (b ∷ bits) Q = BitThen b (BitsThen bits Q)

  plain_text : {S : Type 0} {o a : Class} {P : Spelling} {at : ℕ} (t u : List ℕ) → Told S o a P at (t ⧺ u) → Told S o a P at (t ++ u)
  unfolding ◌⧺◌
  plain_text t u h = h

  shut_text : {S : Type 0} {o a : Class} {P : Spelling} {at : ℕ} (t u : List ℕ) → Told S o a P at (t ++ u) → Told S o a P at (t ⧺ u)
  unfolding ◌⧺◌
  shut_text t u h = h

  told_fixed : {at : ℕ} (t : List ℕ) → is_fixed t ≡ true → Told (Unit {0}) Plain WordEnd (Predefined t) at t
  told_fixed {at = at} t h =
      let both = and_parts (is_identifier t) (list_any (bytes_eq t) predefined) h in
      let same : id_of (names_of w) t ≡ id_of predefined t = id_of-append predefined w.more t both.1 in
      subst (λ n. Told (Unit {0}) Plain WordEnd (WithId n) at t) same (told_id t (identifier_is t (identifier_test t both.0)))

  told_bit : {S : Type 0} {o a : Class} {Q : Spelling} {at : ℕ} {u : List ℕ} (b : Bit) → is_sound b ≡ true → under (bit_class b) o ≡ true → Told S o a Q (at + length (bit_bytes b)) u → Told S (bit_opening b) a (BitThen b Q) at (bit_bytes b ++ u)
  told_bit Blank sound meets h = told_blank h
  told_bit Line sound meets h = told_line h
  told_bit {u = u} (Sign s) sound meets h = plain_text (sign_bytes s) u (told_same (told_then (told_sign s) h meets) (λ s. s.1))
  told_bit {u = u} (Fixed t) sound meets h = plain_text t u (told_same (told_then (told_fixed t sound) h meets) (λ s. s.1))
  told_bit {u = u} (Own t) sound meets h = plain_text t u (told_same (told_then (told_id t (identifier_is t (identifier_test t sound))) h meets) (λ s. s.1))

  bits_then : {S : Type 0} {o a : Class} {Q : Spelling} {u : List ℕ} (at : ℕ) (bits : List Bit) → fits bits o ≡ true → Told S o a Q (at + length (bits_bytes bits)) u → Told S (bits_opening bits o) a (BitsThen bits Q) at (bits_bytes bits ++ u)
  bits_then at [] fit h = told_at _ _ (omega arith) h
  bits_then {u = u} at (b ∷ bits) fit h =
      let one = and_parts (is_sound b && under (bit_class b) _) (fits bits _) fit in
      let two = and_parts (is_sound b) (under (bit_class b) _) one.0 in
      let place : at + length (bit_bytes b ++ bits_bytes bits) ≡ (at + length (bit_bytes b)) + length (bits_bytes bits) = omega (arith, length-append (bit_bytes b) (bits_bytes bits)) in
      let later = bits_then (at + length (bit_bytes b)) bits one.1 (told_at _ _ place h) in
      told_text _ _ (sym (append_assoc (bit_bytes b) (bits_bytes bits) u)) (told_bit b two.0 two.1 later)

  -- a literal text, and then another
  pub told_bits : {S : Type 0} {o a : Class} {Q : Spelling} {at : ℕ} {u : List ℕ} (bits : List Bit) → Told S o a Q (at + length (bits_bytes bits)) u → fits bits o ≡ true → Told S (bits_opening bits o) a (BitsThen bits Q) at (bits_bytes bits ⧺ u)
  told_bits {at = at} {u = u} bits h fit = shut_text (bits_bytes bits) u (bits_then at bits fit h)

  -- the bits, and nothing more
  abbrev pub BitSaid : Bit → Spelling
  BitSaid Blank = Nothing
  BitSaid Line = Nothing
  BitSaid (Sign s) = Key s
  BitSaid (Fixed t) = Predefined t
  BitSaid (Own t) = WithId (id_of (names_of w) t)

  abbrev pub Bits : List Bit → Spelling
  Bits [] = Nothing
  Bits (Blank ∷ bits) = Bits bits
  Bits (Line ∷ bits) = Bits bits
  Bits (b ∷ bits) = last_or (are_gaps bits) (BitSaid b) (BitSaid b ▷ Bits bits)

  gaps_only : (bits : List Bit) → are_gaps bits ≡ true → (items : List Item) → BitsThen bits Nothing items → items ≡ []
  gaps_only [] h items said = said
  gaps_only (Blank ∷ bits) h items said = gaps_only bits h items said
  gaps_only (Line ∷ bits) h items said = gaps_only bits h items said
  gaps_only (Sign s ∷ bits) h items said = absurd (false≢true h)
  gaps_only (Fixed t ∷ bits) h items said = absurd (false≢true h)
  gaps_only (Own t ∷ bits) h items said = absurd (false≢true h)

  last_bit : (P Q R : Spelling) (b : Bool) → ((items : List Item) → b ≡ true → R items → items ≡ []) → ((items : List Item) → R items → Q items) → (items : List Item) → (P ▷ R) items → last_or b P (P ▷ Q) items
  last_bit P Q R true none more items (front, back, is, p, r) =
      subst P (sym (append-nil front) ∙ ap (λ l. front ++ l) (sym (none back refl r)) ∙ sym is) p
  last_bit P Q R false none more items (front, back, is, p, r) = (front, back, is, p, more back r)

  bits_end : (bits : List Bit) (items : List Item) → BitsThen bits Nothing items → Bits bits items
  bits_end [] items said = said
  bits_end (Blank ∷ bits) items said = bits_end bits items said
  bits_end (Line ∷ bits) items said = bits_end bits items said
  bits_end (Sign s ∷ bits) items said = last_bit (Key s) (Bits bits) (BitsThen bits Nothing) (are_gaps bits) (λ more h. gaps_only bits h more) (bits_end bits) items said
  bits_end (Fixed t ∷ bits) items said = last_bit (Predefined t) (Bits bits) (BitsThen bits Nothing) (are_gaps bits) (λ more h. gaps_only bits h more) (bits_end bits) items said
  bits_end (Own t ∷ bits) items said = last_bit (WithId (id_of (names_of w) t)) (Bits bits) (BitsThen bits Nothing) (are_gaps bits) (λ more h. gaps_only bits h more) (bits_end bits) items said

  -- a literal text alone
  pub told_last : {at : ℕ} {a : Class} (bits : List Bit) → fits bits a ≡ true → Told (Unit {0}) (bits_opening bits a) a (Bits bits) at (bits_bytes bits)
  told_last {at = at} {a = a} bits fit =
      told_text _ _ (append-nil (bits_bytes bits)) (told_as (bits_then at bits fit (told_nothing {a = a})) (λ items said s. (bits_end bits items said, tt)))

  -- this, and then a literal text
  pub told_closed : {S : Type 0} {o a c : Class} {P : Spelling} {at : ℕ} {t : List ℕ} (bits : List Bit) → Told S o a P at t → fits bits c ≡ true → under a (bits_opening bits c) ≡ true → Told S o c (P ▷ Bits bits) at (t ⧺ bits_bytes bits)
  told_closed bits h fit meets = told_same (told_then h (told_last bits fit) meets) (λ s. s.0)

  -- ---- places

  -- at the place that it has
  pub told_placed : {S : Type 0} {o a : Class} {P : Spelling} {at : ℕ} {t : List ℕ} → Filled P → Told S o a P at t → (s : Span) × Told S o a (Placed s P) at t
  told_placed {P = P} filled h = (
    place_of h.items,
    record {
      items = h.items;
      chunk = h.chunk;
      opens = h.opens;
      says = λ stands known. let said = h.says stands known in (placed_there P filled h.items said.0, said.1);
    },
  )

pub filled_key : {s : Symbol} → Filled (Key s)
filled_key (at, is) = cc

pub filled_then : {P Q : Spelling} → Filled P → Filled (P ▷ Q)
filled_then filled ([], back, is, p, q) = filled p
filled_then filled (x ∷ front, back, is, p, q) = cc

pub filled_named : {v : Word} → Filled (Named v)
filled_named is = cc

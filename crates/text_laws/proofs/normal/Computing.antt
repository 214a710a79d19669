-- That a text is read, by computing: its pieces by their lengths, its tokens by the verdicts on these, and its items by its names.
use Rattle.std.proofs.Common.{◌≡◌, ℕ, zero, suc, ◌+◌, ◌<◌, ◌≤◌, Bool, true, false, List, [], ◌∷◌, ◌++◌, length, map, take, drop, Option, Some, None, slice_get, true≢false, refl, sym, ap, subst, arith, inl, inr, ◌&&◌}
use Rattle.std.specs.Prelude.{nat_le}
use Rattle.std.specs.List.{AllZip, list_all}
use Rattle.std.specs.Str.{bytes_eq}
use Rattle.std.proofs.lemmas.Bool.{and_parts, leb-true}
use Rattle.std.proofs.lemmas.List.{length-take-le}
use Rattle.std.proofs.lemmas.Slice.Eq.{bytes_eq-Decides}
use Rattle.ada_lexer.specs.declared.kinds.Token.{Token}
use Rattle.ada_lexer.specs.declared.kinds.TokenKind.{TokenKind}
use Rattle.ada_lexer.specs.declared.kinds.TokenKind.TheVariants as kinds
use Rattle.ada_lexer.specs.declared.verdicts.Verdict.{Verdict}
use Rattle.ada_lexer.specs.declared.verdicts.Verdict.TheVariants.{Gap, Kind, Fault}
use Rattle.ada_lexer.specs.Lengths.{piece_len}
use Rattle.ada_lexer.specs.Verdicts.{verdict}
use Rattle.ada_lexer.specs.Split.{FallsInto, tokens_of, IsSound, AreSound, Splits}
use Rattle.ada_lexer.proofs.Longest.{piece-measured}
use Rattle.ada_expr_parser.specs.declared.items.ItemKind.{ItemKind}
use Rattle.ada_expr_parser.specs.declared.items.ItemKind.TheVariants as item
use Rattle.ada_expr_parser.specs.declared.items.Item.{Item}
use Rattle.ada_expr_parser.specs.Items.{name_text, IsItemOf, Says, end_item, names_after}
use Rattle.ada_phrase_parser.specs.Spelling.{id_of}
use Rattle.ada_parser.specs.Reads.{HasItems}

-- ---- pieces

-- the pieces of a text, no more than so many
abbrev pub pieces_in : ℕ → List ℕ → List (List ℕ)
pieces_in zero text = []
pieces_in (suc n) [] = []
pieces_in (suc n) (b ∷ rest) = take (piece_len (b ∷ rest)) (b ∷ rest) ∷ pieces_in n (drop (piece_len (b ∷ rest)) (b ∷ rest))

-- the text falls into no more than so many
abbrev pub falls : ℕ → List ℕ → Bool
falls zero [] = true
falls zero (b ∷ rest) = false
falls (suc n) [] = true
falls (suc n) (b ∷ rest) = nat_le 1 (piece_len (b ∷ rest)) && falls n (drop (piece_len (b ∷ rest)) (b ∷ rest))

-- one piece more in front
first-piece :
    (text : List ℕ) (pieces : List (List ℕ)) → 0 < length text → 1 ≤ piece_len text → FallsInto pieces [] (drop (piece_len text) text) →
    FallsInto (take (piece_len text) text ∷ pieces) [] text
first-piece text pieces there some later = elim (piece-measured text there) [
  | inl h ↦ (h.1.1, subst (λ k. FallsInto pieces [] (drop k text)) (sym (length-take-le (piece_len text) text h.1.0)) later)
  | inr h ↦ absurd (omega (arith, h.0, some))
]

pub falls-into : (n : ℕ) (text : List ℕ) → falls n text ≡ true → FallsInto (pieces_in n text) [] text
falls-into zero [] is = refl
falls-into zero (b ∷ rest) is = absurd (true≢false (sym is))
falls-into (suc n) [] is = refl
falls-into (suc n) (b ∷ rest) is =
    let (some, more) = and_parts (nat_le 1 (piece_len (b ∷ rest))) (falls n (drop (piece_len (b ∷ rest)) (b ∷ rest))) is in
    first-piece (b ∷ rest) (pieces_in n (drop (piece_len (b ∷ rest)) (b ∷ rest))) (omega arith) (leb-true 1 (piece_len (b ∷ rest)) some)
    (falls-into n (drop (piece_len (b ∷ rest)) (b ∷ rest)) more)

-- ---- verdicts

abbrev pub is_sound : Verdict → Bool
is_sound Gap = true
is_sound (Kind kind) = true
is_sound (Fault error) = false

abbrev pub all_sound : ℕ → List (List ℕ) → Bool
all_sound at [] = true
all_sound at (piece ∷ pieces) = is_sound (verdict at piece) && all_sound (at + length piece) pieces

sound : (v : Verdict) → is_sound v ≡ true → IsSound v
sound Gap is = tt
sound (Kind kind) is = tt
sound (Fault error) is = true≢false (sym is)

are-sound : (at : ℕ) (pieces : List (List ℕ)) → all_sound at pieces ≡ true → AreSound at pieces
are-sound at [] is = tt
are-sound at (piece ∷ pieces) is = let (one, more) = and_parts (is_sound (verdict at piece)) _ is in (sound (verdict at piece) one, are-sound (at + length piece) pieces more)

-- the pieces of a text, each of which has a byte at least
abbrev pub all_pieces : List ℕ → List (List ℕ)
all_pieces text = pieces_in (length text) text

abbrev pub all_tokens : List ℕ → List Token
all_tokens text = tokens_of 0 (all_pieces text)

pub splits-so : (text : List ℕ) → falls (length text) text ≡ true → all_sound 0 (all_pieces text) ≡ true → Splits text (all_tokens text)
splits-so text falls all = (all_pieces text, falls-into (length text) text falls, are-sound 0 (all_pieces text) all, refl)

-- ---- items

module _ (bytes : List ℕ) (names : List (List ℕ)) where
  abbrev pub kind_said : TokenKind → List ℕ → ItemKind
  kind_said kinds.Name text = item.Name record { 0 = id_of names text }
  kind_said (kinds.Symbol s) text = item.Symbol s
  kind_said (kinds.Integer n) text = item.Integer n
  kind_said (kinds.Duration n) text = item.Duration n
  kind_said kinds.Text text = item.Text

  abbrev pub item_said : Token → Item
  item_said t = record { kind = kind_said t.kind (name_text bytes t); span = record { start = t.start; end = t.end } }

  -- the name is there
  abbrev pub is_text : List ℕ → Option (List ℕ) → Bool
  is_text text None = false
  is_text text (Some name) = bytes_eq name text

  abbrev pub is_held : TokenKind → List ℕ → Bool
  is_held kinds.Name text = is_text text (slice_get names (id_of names text))
  is_held _ text = true

  text-there : (text : List ℕ) (o : Option (List ℕ)) → is_text text o ≡ true → o ≡ Some text
  text-there text None is = absurd (true≢false (sym is))
  text-there text (Some name) is = ap (λ t. Some t) ((bytes_eq-Decides name text).0 is)

  says : (t : Token) (kind : TokenKind) → t.kind ≡ kind → is_held kind (name_text bytes t) ≡ true → Says bytes names t (kind_said kind (name_text bytes t))
  says t kinds.Name same held = (same, text-there (name_text bytes t) _ held)
  says t (kinds.Symbol s) same held = same
  says t (kinds.Integer n) same held = same
  says t (kinds.Duration n) same held = same
  says t kinds.Text same held = same

  all-said : (tokens : List Token) → list_all (λ t. is_held t.kind (name_text bytes t)) tokens ≡ true → AllZip (IsItemOf bytes names) tokens (map item_said tokens)
  all-said [] held = tt
  all-said (t ∷ tokens) held =
      let (one, more) = and_parts (is_held t.kind (name_text bytes t)) _ held in
      (record { says = says t t.kind refl one; start = refl; end = refl }, all-said tokens more)

  abbrev pub all_items : List Item
  all_items = map item_said (all_tokens bytes) ++ end_item bytes ∷ []

  -- The items of a text that falls into sound pieces, with the names that its tokens have.
  pub has-items :
      falls (length bytes) bytes ≡ true → all_sound 0 (all_pieces bytes) ≡ true → names ≡ names_after bytes (all_tokens bytes) → list_all (λ t. is_held t.kind (name_text bytes t)) (all_tokens bytes) ≡ true →
      HasItems bytes record { bytes = bytes; names = names } all_items
  has-items falls all same held = record {
    tokens = all_tokens bytes;
    splits = splits-so bytes falls all;
    source_is = ap (λ n. record { bytes = bytes; names = n }) same;
    items_are = (map item_said (all_tokens bytes), all-said (all_tokens bytes) held, refl);
  }

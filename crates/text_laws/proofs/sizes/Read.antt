-- The sizes of a program that is read: its items are as many as its tokens and one, and each token has a byte of its own.
use Rattle.std.proofs.Common.{◌≡◌, ℕ, suc, ◌+◌, ◌<◌, ◌≤◌, ◌^◌, Bool, true, false, cond, List, [], ◌∷◌, ◌++◌, length, length-append, fold, refl, sym, subst, ap, arith}
use Rattle.std.specs.List.{AllZip, AllByRecursion, list_any}
use Rattle.std.specs.Str.{bytes_eq}
use Rattle.std.proofs.lemmas.List.Elements.{recursion_from_All}
use Rattle.ada_lexer.specs.declared.kinds.Token.{Token}
use Rattle.ada_lexer.specs.declared.kinds.TokenKind.{TokenKind}
use Rattle.ada_lexer.specs.declared.kinds.TokenKind.TheVariants as kinds
use Rattle.ada_lexer.specs.Split.{Splits, IsTokenOf, AreInOrder}
use Rattle.ada_lexer.proofs.Slices.{splits-slices, splits-order}
use Rattle.ada_tree.specs.NameList.{predefined, AreNames, interned}
use Rattle.ada_tree.proofs.Interning.{AreNames-added, AreNames-predefined}
use Rattle.ada_tree.specs.PlainDecl.{DTaskBody, PDecls, no_decl, decl_then}
use Rattle.ada_tree.specs.PlainProgram.{PProgram}
use Rattle.ada_expr_parser.specs.declared.items.Item.{Item}
use Rattle.ada_expr_parser.specs.Items.{name_text, IsItemOf, interned_if, with_token, names_after}
use Rattle.ada_phrase_parser.specs.Spelling.{Source}
use Rattle.ada_parser.specs.Reads.{deepest, program_unit, HasItems, Reads}
use Rattle.normal_laws.specs.existence.units.Weights.{AreLight}
use Rattle.text_laws.specs.sizes.Weight.{decls_weight, program_weight}
use Rattle.text_laws.specs.sizes.Laws.{ReadHasFewNames, ReadHasNames, ReadWeighsLittle, ReadIsLight}
use Rattle.text_laws.proofs.sizes.Takes.{unit-takes}

-- ---- tokens

module _ (bytes : List ℕ) where
  tokens-from : (tokens : List Token) (at : ℕ) → at ≤ length bytes → AreInOrder at tokens → AllByRecursion (IsTokenOf bytes) tokens → at + length tokens ≤ length bytes
  tokens-from [] at low order slices = omega arith
  tokens-from (t ∷ tokens) at low order slices =
      let within : t.end ≤ length bytes = slices.0.within in
      let some : t.start < t.end = slices.0.some in
      let first : at ≤ t.start = order.0 in
      let rest : t.end + length tokens ≤ length bytes = tokens-from tokens t.end within order.1 slices.1 in
      omega (arith, some, first, rest)

  -- a text has at most as many tokens as bytes
  few-tokens : (tokens : List Token) → Splits bytes tokens → length tokens ≤ length bytes
  few-tokens tokens splits =
      let all : 0 + length tokens ≤ length bytes = tokens-from tokens 0 (omega arith) (splits-order bytes tokens splits) (recursion_from_All (IsTokenOf bytes) tokens (splits-slices bytes tokens splits)) in
      omega (arith, all)

  -- ---- names

  pub few-interned : (names : List (List ℕ)) (t : List ℕ) → length (interned names t) ≤ length names + 1
  few-interned names t = pick (list_any (bytes_eq t) names)
    where
      pick : (b : Bool) → length (cond b names (names ++ t ∷ [])) ≤ length names + 1
      pick true = omega arith
      pick false = omega (arith, length-append names (t ∷ []))

  few-if : (kind : TokenKind) (names : List (List ℕ)) (t : List ℕ) → length (interned_if kind names t) ≤ length names + 1
  few-if kinds.Name names t = few-interned names t
  few-if _ names t = omega arith

  few-after : (tokens : List Token) (names : List (List ℕ)) → length (fold (with_token bytes) names tokens) ≤ length names + length tokens
  few-after [] names = omega arith
  few-after (t ∷ tokens) names =
      let one : length (with_token bytes names t) ≤ length names + 1 = few-if t.kind names (name_text bytes t) in
      let rest : length (fold (with_token bytes) (with_token bytes names t) tokens) ≤ length (with_token bytes names t) + length tokens = few-after tokens (with_token bytes names t) in
      omega (arith, one, rest)

  named-interned : (names : List (List ℕ)) (t : List ℕ) → AreNames names → length names < 2 ^ 32 → AreNames (interned names t)
  named-interned names t h room = pick (list_any (bytes_eq t) names) refl
    where
      pick : (b : Bool) → list_any (bytes_eq t) names ≡ b → AreNames (cond b names (names ++ t ∷ []))
      pick true e = h
      pick false e = AreNames-added names t h e room

  named-if : (kind : TokenKind) (names : List (List ℕ)) (t : List ℕ) → AreNames names → length names < 2 ^ 32 → AreNames (interned_if kind names t)
  named-if kinds.Name names t h room = named-interned names t h room
  named-if _ names t h room = h

  named-after : (tokens : List Token) (names : List (List ℕ)) → AreNames names → length names + length tokens ≤ 2 ^ 32 → AreNames (fold (with_token bytes) names tokens)
  named-after [] names h room = h
  named-after (t ∷ tokens) names h room =
      let one : length (with_token bytes names t) ≤ length names + 1 = few-if t.kind names (name_text bytes t) in
      named-after tokens (with_token bytes names t) (named-if t.kind names (name_text bytes t) h (omega (arith, room))) (omega (arith, room, one))

  -- ---- items

  as-many : (names : List (List ℕ)) (tokens : List Token) (items : List Item) → AllZip (IsItemOf bytes names) tokens items → length items ≡ length tokens
  as-many names [] [] zip = refl
  as-many names [] (x ∷ items) zip = absurd zip
  as-many names (t ∷ tokens) [] zip = absurd zip
  as-many names (t ∷ tokens) (x ∷ items) zip = ap suc (as-many names tokens items zip.1)

  few-items : (source : Source) (items : List Item) → HasItems bytes source items → length items ≤ length bytes + 1
  few-items source items h =
      let (front, zip, is) = h.items_are in
      let same : length front ≡ length h.tokens = as-many source.names h.tokens front zip in
      let few : length h.tokens ≤ length bytes = few-tokens h.tokens h.splits in
      omega (arith, ap length is, length-append {A = Item}, same, few)

-- ---- the laws

names-are : (bytes : List ℕ) (p : PProgram) (reads : Reads bytes p) → p.names ≡ names_after bytes reads.are_items.tokens
names-are bytes p reads = ap (λ (s : Source). s.names) reads.are_items.source_is

pub read_has_few_names : ReadHasFewNames
read_has_few_names bytes p reads =
    let few : length reads.are_items.tokens ≤ length bytes = few-tokens bytes reads.are_items.tokens reads.are_items.splits in
    let after : length (names_after bytes reads.are_items.tokens) ≤ length predefined + length reads.are_items.tokens = few-after bytes reads.are_items.tokens predefined in
    omega (arith, ap length (names-are bytes p reads), few, after)

pub read_has_names : ReadHasNames
read_has_names bytes p reads room =
    let few : length reads.are_items.tokens ≤ length bytes = few-tokens bytes reads.are_items.tokens reads.are_items.splits in
    subst AreNames (sym (names-are bytes p reads)) (named-after bytes reads.are_items.tokens predefined AreNames-predefined (omega (arith, room, few)))

pub read_weighs_little : ReadWeighsLittle
read_weighs_little bytes p reads =
    let source : Source = record { bytes = bytes; names = p.names } in
    let (front, x, is, ends, spelled) = reads.spelled in
    let least : program_weight p ≤ length front = unit-takes source (program_unit p) deepest front spelled in
    let few : length reads.items ≤ length bytes + 1 = few-items bytes source reads.items reads.are_items in
    omega (arith, ap length is, length-append front (x ∷ []), least, few)

are-light : (ds : PDecls) → decls_weight ds < 2 ^ 64 → AreLight ds
are-light no_decl low = tt
are-light (decl_then (DTaskBody w ds b s) rest) low = (omega (arith, low), are-light rest (omega (arith, low)))
are-light (decl_then _ rest) low = are-light rest (omega (arith, low))

pub read_is_light : ReadIsLight
read_is_light bytes p reads short =
    let all : program_weight p ≤ length bytes = read_weighs_little bytes p reads in
    (omega (arith, all, short), are-light p.decls (omega (arith, all, short)))

-- A program that is read is well placed: its items are those of tokens, and what the grammar spells of such items keeps the nine conditions.
use Rattle.std.proofs.Common.{◌≡◌, ℕ, true, List, [], ◌∷◌, ◌++◌, IsSomeAnd, slice_range, drop, sym, ap₂, subst, arith}
use Rattle.std.specs.List.{AllZip, AllByRecursion}
use Rattle.std.proofs.lemmas.List.Elements.{recursion_from_All}
use Rattle.ada_lexer.specs.declared.kinds.Token.{Token}
use Rattle.ada_lexer.specs.Strings.{content}
use Rattle.ada_lexer.specs.Split.{IsTokenOf}
use Rattle.ada_lexer.proofs.Slices.{splits-slices}
use Rattle.ada_tree.specs.declared.naming.Span.{Span}
use Rattle.ada_tree.specs.Lexical.{IsIdentifier, IsStringContent}
use Rattle.ada_tree.specs.PlainProgram.{PProgram}
use Rattle.ada_tree.specs.WellPlaced.{well_placed, IsWellPlaced}
use Rattle.ada_expr_parser.specs.declared.items.ItemKind.{ItemKind}
use Rattle.ada_expr_parser.specs.declared.items.ItemKind.TheVariants as item
use Rattle.ada_expr_parser.specs.declared.items.Item.{Item}
use Rattle.ada_expr_parser.specs.Items.{Says, IsItemOf, end_item}
use Rattle.ada_phrase_parser.specs.Spelling.{Source}
use Rattle.ada_parser.specs.Reads.{deepest, HasItems, Reads}
use Rattle.ada_parser.proofs.PlacedTokens.{Holds, token_holds}
use Rattle.ada_parser.proofs.Placed.{Suits, KindFits, AreFit, fit_parts, unit_placed}

-- the conditions on shapes are those of the grammar
suits : (names : List (List ℕ)) → Suits (well_placed names)
suits names = record {
  unary = λ op e fits. fits;
  binary = λ op l r fits. fits;
  bounds = λ first last low high. (low, high);
  parts = λ asked has some. some;
  handlers = λ hs last. last;
  pragmas = λ entries places up. up;
  object = λ constant i given. given;
  inner = λ ds objects. objects;
  outer = λ ds last. last;
  nested = λ k low. low;
}

module _ (source : Source) where
  -- what a token of this kind says is as the conditions ask
  kind_fits : (token : Token) (kind : ItemKind) (at : Span) → at.start ≡ token.start → at.end ≡ token.end → Says source.bytes source.names token kind →
      Holds (slice_range source.bytes token.start token.end) token.kind → KindFits (well_placed source.names) source kind at
  kind_fits token (item.Name id) at start end (named, is) holds =
      subst (λ o. IsSomeAnd o IsIdentifier) (sym is) (subst (Holds (slice_range source.bytes token.start token.end)) named holds)
  kind_fits token (item.Integer n) at start end is holds = subst (Holds (slice_range source.bytes token.start token.end)) is holds
  kind_fits token (item.Duration n) at start end is holds = subst (Holds (slice_range source.bytes token.start token.end)) is holds
  kind_fits token item.Text at start end is holds =
      subst (λ t. IsStringContent (content true (drop 1 t))) (sym (ap₂ (slice_range source.bytes) start end)) (subst (Holds (slice_range source.bytes token.start token.end)) is holds)
  kind_fits token _ at start end is holds = tt

  front_fits : (tokens : List Token) (items : List Item) → AllByRecursion (IsTokenOf source.bytes) tokens → AllZip (IsItemOf source.bytes source.names) tokens items → AreFit (well_placed source.names) source items
  front_fits [] [] slices zip = tt
  front_fits [] (x ∷ items) slices zip = absurd zip
  front_fits (t ∷ tokens) [] slices zip = absurd zip
  front_fits (t ∷ tokens) (x ∷ items) slices zip =
      (kind_fits t x.kind x.span zip.0.start zip.0.end zip.0.says (token_holds _ t.kind slices.0.slice), front_fits tokens items slices.1 zip.1)

  with_end : (front : List Item) → AreFit (well_placed source.names) source front → AreFit (well_placed source.names) source (front ++ end_item source.bytes ∷ [])
  with_end [] fit = (tt, tt)
  with_end (x ∷ front) fit = (fit.0, with_end front fit.1)

  pub items_fit : (items : List Item) → HasItems source.bytes source items → AreFit (well_placed source.names) source items
  items_fit items h =
      let (front, zip, is) = h.items_are in
      subst (AreFit (well_placed source.names) source) (sym is) (with_end front (front_fits h.tokens front (recursion_from_All (IsTokenOf source.bytes) h.tokens (splits-slices source.bytes h.tokens h.splits)) zip))

-- a program that is read is well placed
pub read_is_placed : (bytes : List ℕ) (p : PProgram) → Reads bytes p → IsWellPlaced p
read_is_placed bytes p reads =
    let source : Source = record { bytes = bytes; names = p.names } in
    let (front, x, is, ends, spelled) = reads.spelled in
    let fit = subst (AreFit (well_placed p.names) source) is (items_fit source reads.items reads.are_items) in
    unit_placed (well_placed p.names) source (suits p.names) p deepest (omega arith) front (fit_parts (well_placed p.names) source (suits p.names) front _ fit).0 spelled

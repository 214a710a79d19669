-- What a text says from a place on: its pieces, and the items of these. A name's item has the id of its text; whether the names hold that text is asked at the end.
use Rattle.std.proofs.Common.{◌≡◌, ℕ, ◌+◌, List, [], ◌∷◌, ◌++◌, length, map, drop, refl, subst, arith, append_assoc}
use Rattle.std.proofs.lemmas.List.{length-append}
use Rattle.std.proofs.Math.Seq.{drop-append_seam}
use Rattle.std.specs.Char.{to_ascii_uppercase}
use Rattle.ada_lexer.specs.declared.kinds.TokenKind.{TokenKind}
use Rattle.ada_lexer.specs.declared.kinds.TokenKind.TheVariants as kinds
use Rattle.ada_lexer.specs.declared.verdicts.Verdict.{Verdict}
use Rattle.ada_lexer.specs.declared.verdicts.Verdict.TheVariants.{Gap, Kind, Fault}
use Rattle.ada_lexer.specs.Pieces.{IsLongest}
use Rattle.ada_lexer.specs.Verdicts.{verdict}
use Rattle.ada_lexer.specs.Split.{FallsInto}
use Rattle.ada_expr_parser.specs.declared.items.ItemKind.{ItemKind}
use Rattle.ada_expr_parser.specs.declared.items.ItemKind.TheVariants as item
use Rattle.ada_expr_parser.specs.declared.items.Item.{Item}
use Rattle.ada_expr_parser.specs.Items.{SaysItem}
use Rattle.ada_phrase_parser.specs.Spelling.{id_of}
use Rattle.read_back.proofs.Classes.{Class, Next}
use Rattle.read_back.proofs.Pieces.{Ends}

module _ (names : List (List ℕ)) where
  -- a token of this kind with these bytes says this
  abbrev pub Tells : TokenKind → List ℕ → ItemKind → Type 0
  Tells kind piece (item.Name id) = (kind ≡ kinds.Name) × (id.0 ≡ id_of names (map to_ascii_uppercase piece))
  Tells kind piece said = SaysItem kind said

  pub record IsTold (kind : TokenKind) (at : ℕ) (piece : List ℕ) (x : Item) : Type 0 where
    pub tells : Tells kind piece x.kind
    pub start : x.span.start ≡ at
    pub end : x.span.end ≡ at + length piece

  -- a gap says nothing, a token one item, and a fault does not come
  abbrev pub ToldBy : Verdict → ℕ → List ℕ → (List Item → Type 0) → List Item → Type 0
  ToldBy Gap at piece More items = More items
  ToldBy (Kind kind) at piece More items = (x : Item) × (more : List Item) × (items ≡ x ∷ more) × IsTold kind at piece x × More more
  ToldBy (Fault error) at piece More items = ⊥

  -- pieces from a place on say these items
  abbrev pub AreTold : ℕ → List (List ℕ) → List Item → Type 0
  AreTold at [] items = items ≡ []
  AreTold at (piece ∷ pieces) items = ToldBy (verdict at piece) at piece (AreTold (at + length piece) pieces) items

  -- the text from a place on, to its end, says these items
  abbrev pub Lexed : ℕ → List ℕ → List Item → Type 0
  Lexed at text items = (pieces : List (List ℕ)) × FallsInto pieces [] text × AreTold at pieces items

  behind_piece : (p rest : List ℕ) (pieces : List (List ℕ)) → FallsInto pieces [] rest → FallsInto pieces [] (drop (length p) (p ++ rest))
  behind_piece p rest pieces h = rw drop-append_seam h

  lexed_gap : (at : ℕ) (p rest : List ℕ) (items : List Item) → IsLongest p (p ++ rest) → verdict at p ≡ Gap → Lexed (at + length p) rest items → Lexed at (p ++ rest) items
  lexed_gap at p rest items longest is (pieces, falls, told) =
      (p ∷ pieces, (longest, behind_piece p rest pieces falls), rw is told)

  lexed_token : (at : ℕ) (p rest : List ℕ) (kind : TokenKind) (x : Item) (items : List Item) → IsLongest p (p ++ rest) → verdict at p ≡ Kind kind → IsTold kind at p x → Lexed (at + length p) rest items → Lexed at (p ++ rest) (x ∷ items)
  lexed_token at p rest kind x items longest is said (pieces, falls, told) =
      (p ∷ pieces, (longest, behind_piece p rest pieces falls), rw is (x, items, refl, said, told))

  -- the text at a place says these items before all that begins with the class
  abbrev pub Chunk : Class → ℕ → List ℕ → List Item → Type 0
  Chunk after at text items =
      (rest : List ℕ) (tail : List Item) → Next after rest → Lexed (at + length text) rest tail → Lexed at (text ++ rest) (items ++ tail)

  pub chunk_gap : (at : ℕ) (p : List ℕ) (after : Class) → Ends after p → verdict at p ≡ Gap → Chunk after at p []
  chunk_gap at p after ends is rest tail next more = lexed_gap at p rest tail (ends rest next) is more

  pub chunk_token : (at : ℕ) (p : List ℕ) (after : Class) (kind : TokenKind) (x : Item) → Ends after p → verdict at p ≡ Kind kind → IsTold kind at p x → Chunk after at p (x ∷ [])
  chunk_token at p after kind x ends is said rest tail next more = lexed_token at p rest kind x tail (ends rest next) is said more

  pub chunk_nothing : (at : ℕ) (after : Class) → Chunk after at [] []
  chunk_nothing at after rest tail next more = subst (λ n. Lexed n rest tail) (omega arith) more

  pub chunk_then : (at : ℕ) (t u : List ℕ) (a b : Class) (i j : List Item) → Chunk a at t i → ((rest : List ℕ) → Next b rest → Next a (u ++ rest)) → Chunk b (at + length t) u j → Chunk b at (t ++ u) (i ++ j)
  chunk_then at t u a b i j first meets second rest tail next more =
      let place : at + length (t ++ u) ≡ (at + length t) + length u = omega (arith, length-append t u) in
      let later : Lexed ((at + length t) + length u) rest tail = subst (λ n. Lexed n rest tail) place more in
      let whole : Lexed at (t ++ (u ++ rest)) (i ++ (j ++ tail)) = first (u ++ rest) (j ++ tail) (meets rest next) (second rest tail next later) in
      rw (append_assoc t u rest, append_assoc i j tail) whole

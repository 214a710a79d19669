-- The split of a text into tokens, and the first fault of a text that does not split.
use Rattle.std.specs.Prelude.{◌≡◌, ◌≢◌, ℕ, ◌+◌, ◌<◌, ◌≤◌, List, [], ◌∷◌, length, take, drop, IsTrue, ⊤, ◌⊎◌, slice_range}
use Rattle.ada_lexer.specs.declared.kinds.Token.{Token}
use Rattle.ada_lexer.specs.declared.errors.LexError.{LexError}
use Rattle.ada_lexer.specs.declared.errors.LexError.TheVariants.{BadByte}
use Rattle.ada_lexer.specs.Pieces.{is_piece, IsLongest}
use Rattle.ada_lexer.specs.declared.verdicts.Verdict.{Verdict}
use Rattle.ada_lexer.specs.declared.verdicts.Verdict.TheVariants.{Gap, Kind, Fault}
use Rattle.ada_lexer.specs.Verdicts.{verdict, IsToken}

-- the text falls into these pieces and then the rest, each piece the longest that begins at its place (2.2)
abbrev pub FallsInto : List (List ℕ) → List ℕ → List ℕ → Type 0
FallsInto [] rest text = text ≡ rest
FallsInto (piece ∷ pieces) rest text = IsLongest piece text × FallsInto pieces rest (drop (length piece) text)

-- in front of other tokens, the token that a piece from start to end is, if it is one
abbrev pub onto_tokens : Verdict → ℕ → ℕ → List Token → List Token
onto_tokens Gap start end tokens = tokens
onto_tokens (Kind kind) start end tokens = record { kind = kind; start = start; end = end } ∷ tokens
onto_tokens (Fault error) start end tokens = tokens

-- the tokens of pieces that begin at a place: each stands where its piece does, and gaps are none
abbrev pub tokens_of : ℕ → List (List ℕ) → List Token
tokens_of at [] = []
tokens_of at (piece ∷ pieces) =
    onto_tokens (verdict at piece) at (at + length piece) (tokens_of (at + length piece) pieces)

-- it is no fault
abbrev pub IsSound : Verdict → Type 0
IsSound Gap = ⊤
IsSound (Kind kind) = ⊤
IsSound (Fault error) = ⊥

-- none of the pieces that begin at a place has a fault
abbrev pub AreSound : ℕ → List (List ℕ) → Type 0
AreSound at [] = ⊤
AreSound at (piece ∷ pieces) = IsSound (verdict at piece) × AreSound (at + length piece) pieces

-- the text from a place on splits into these tokens: it falls into sound pieces to its end, and these are their tokens
abbrev pub SplitsAt : ℕ → List ℕ → List Token → Type 0
SplitsAt at text tokens =
    (pieces : List (List ℕ)) × FallsInto pieces [] text × AreSound at pieces × (tokens ≡ tokens_of at pieces)

-- the whole text splits into these tokens (chapter 2)
abbrev pub Splits : List ℕ → List Token → Type 0
Splits text tokens = SplitsAt 0 text tokens

-- no front of the text is a piece: its first byte begins nothing
abbrev pub BeginsNothing : List ℕ → Type 0
BeginsNothing text = (text ≢ []) × ((n : ℕ) → n ≤ length text → IsTrue (is_piece (take n text)) → ⊥)

-- the fault at the very front of a text that begins at a place
abbrev pub FailsHere : ℕ → List ℕ → LexError → Type 0
FailsHere at text error =
    (BeginsNothing text × (error ≡ BadByte at)) ⊎ ((piece : List ℕ) × IsLongest piece text × (verdict at piece ≡ Fault error))

-- the place behind pieces that begin at a place
abbrev pub place_behind : ℕ → List (List ℕ) → ℕ
place_behind at [] = at
place_behind at (piece ∷ pieces) = place_behind (at + length piece) pieces

-- the first fault of the text from a place on: it falls into sound pieces, and right behind them the fault stands
abbrev pub FailsAt : ℕ → List ℕ → LexError → Type 0
FailsAt at text error =
    (pieces : List (List ℕ)) × (rest : List ℕ) × FallsInto pieces rest text × AreSound at pieces
    × FailsHere (place_behind at pieces) rest error

-- the first fault of the whole text
abbrev pub HasFirstFault : List ℕ → LexError → Type 0
HasFirstFault text error = FailsAt 0 text error

-- the token is the slice of the text from its start to its end, and that slice is a token of its kind
pub record IsTokenOf (text : List ℕ) (t : Token) : Type 0 where
  pub some : t.start < t.end
  pub within : t.end ≤ length text
  pub slice : IsToken (slice_range text t.start t.end) t.kind

-- each token begins at or behind the end of the one before
abbrev pub AreInOrder : ℕ → List Token → Type 0
AreInOrder end [] = ⊤
AreInOrder end (t ∷ tokens) = (end ≤ t.start) × AreInOrder t.end tokens

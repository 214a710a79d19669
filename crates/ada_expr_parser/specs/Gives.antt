-- What a function of the code answered is what a reader of lists gives, unless memory ran out.
use Rattle.std.specs.Prelude.{◌≡◌, ℕ, Bool, true, false, List, [], ◌∷◌, Result, Ok, Err}
use Rattle.ada_expr_parser.specs.readers.Readers.{Answer, Found, Fault}
use Rattle.ada_expr_parser.specs.declared.items.Item.{Item}
use Rattle.ada_expr_parser.specs.declared.errors.ParseError.{ParseError}
use Rattle.ada_expr_parser.specs.declared.errors.ParseError.TheVariants as errors

-- the place of the next item
abbrev pub place : List Item → ℕ
place [] = 0
place (x ∷ rest) = x.span.start

abbrev pub FaultsAt : {A : Type 0} → Bool → ℕ → Answer Item A → Type 0
FaultsAt deep at (Found a rest) = ⊥
FaultsAt deep at (Fault b rest) = (b ≡ deep) × (place rest ≡ at)

-- the reader has this fault; want of memory stands for every answer
abbrev pub Fails : {A : Type 0} → ParseError → Answer Item A → Type 0
Fails errors.Memory answer = Unit {0}
Fails (errors.Syntax at) answer = FaultsAt false at answer
Fails (errors.TooDeep at) answer = FaultsAt true at answer

-- the tree and the rest of what was answered are those that the reader gives
abbrev pub Gives : {X A : Type 0} → (X → A) → (X → List Item) → Result X ParseError → Answer Item A → Type 0
Gives tree rest (Ok x) answer = answer ≡ Found (tree x) (rest x)
Gives tree rest (Err error) answer = Fails error answer

-- What the tables of the controller say of operations, and which operations it makes.
use Rattle.std.proofs.Common.{◌≡◌, ℕ, zero, suc, ◌+◌, ◌≤◌, ℤ, Bool, true, false, List, [], ◌∷◌, length, map, take, refl, sym, ap, ◌∙◌, arith}
use Rattle.std.specs.List.{AllByRecursion}
use Rattle.common_lemmas.proofs.Lists.{not_empty}
use Rattle.control_script.specs.declared.Op.{Op}
use Rattle.control_script.specs.declared.Op.TheVariants.{Go, Done, Join, Hold}
use Rattle.normal_laws.specs.structure.placed.Placeable.{IsSmallIndex}
use Rattle.replay_model.specs.declared.tables.columns.Column.{Column}
use Rattle.replay_model.specs.declared.tables.columns.Column.TheVariants.{Operation, Task, Kind, Argument, Index}
use Rattle.replay_model.specs.tables.Columns.{acts, holds, says}
use Rattle.replay_structure.specs.placed.Placeable.{HasLiterals}

-- ---- what is said

-- it has a literal, where the numbers of the operation have
said-small : (column : Column) (op : Op) → HasLiterals op → IsSmallIndex (says column op)
said-small Operation (Go t kind arg index) h = omega arith
said-small Operation (Done t) h = omega arith
said-small Operation (Join t) h = omega arith
said-small Operation Hold h = omega arith
said-small Task (Go t kind arg index) h = h.0
said-small Task (Done t) h = h
said-small Task (Join t) h = h
said-small Task Hold h = omega arith
said-small Kind (Go t kind arg index) h = h.1
said-small Kind (Done t) h = omega arith
said-small Kind (Join t) h = omega arith
said-small Kind Hold h = omega arith
said-small Argument (Go t kind arg index) h = h.2
said-small Argument (Done t) h = omega arith
said-small Argument (Join t) h = omega arith
said-small Argument Hold h = omega arith
said-small Index (Go t kind arg index) h = h.3
said-small Index (Done t) h = omega arith
said-small Index (Join t) h = omega arith
said-small Index Hold h = omega arith

pub all-small : (column : Column) (made : List Op) → AllByRecursion HasLiterals made → AllByRecursion IsSmallIndex (map (says column) made)
all-small column [] h = tt
all-small column (op ∷ made) h = (said-small column op h.0, all-small column made h.1)

-- ---- what is made

all-taken : {A : Type 0} (P : A → Type 0) (n : ℕ) (xs : List A) → AllByRecursion P xs → AllByRecursion P (take n xs)
all-taken P zero xs h = tt
all-taken P (suc n) [] h = tt
all-taken P (suc n) (x ∷ xs) h = (h.0, all-taken P n xs h.1)

taken-few : {A : Type 0} (n : ℕ) (xs : List A) → length (take n xs) ≤ length xs
taken-few zero xs = omega arith
taken-few (suc n) [] = omega arith
taken-few (suc n) (x ∷ xs) = let h = taken-few n xs in omega (arith, h)

-- they are among the operations
pub acts-all : (P : Op → Type 0) (ops : List Op) → AllByRecursion P ops → AllByRecursion P (acts ops)
acts-all P ops h = all-taken P _ ops h

pub acts-few : (ops : List Op) → length (acts ops) ≤ length ops
acts-few ops = taken-few _ ops

taken-more : (op : Op) (n : ℕ) (ops : List Op) → take (1 + n) (op ∷ ops) ≡ op ∷ take n ops
taken-more op n ops = let on : 1 + n ≡ suc n = omega arith in ap (λ k. take k (op ∷ ops)) on

-- where there is an operation, and none is made, the controller waits
pub acts-or-holds : (ops : List Op) → 1 ≤ length ops → acts ops ≡ [] → holds ops ≡ true
acts-or-holds [] some e = let never : ⊥ = omega (arith, some) in absurd never
acts-or-holds (Go t kind arg index ∷ ops) some e = absurd (not_empty _ _ (sym (taken-more (Go t kind arg index) _ ops) ∙ e))
acts-or-holds (Done t ∷ ops) some e = absurd (not_empty _ _ (sym (taken-more (Done t) _ ops) ∙ e))
acts-or-holds (Join t ∷ ops) some e = absurd (not_empty _ _ (sym (taken-more (Join t) _ ops) ∙ e))
acts-or-holds (Hold ∷ ops) some e = refl

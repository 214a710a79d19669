-- What stands one level deeper is read at the depth that is less by one, and how a unit's body is read.
use Rattle.std.proofs.Common.{◌≡◌, ℕ, ◌+◌, ◌-◌, ◌<◌, List, refl, arith, zero, suc}
use Rattle.ada_tree.specs.declared.naming.Span.{Span}
use Rattle.ada_expr_parser.specs.declared.items.Item.{Item}
use Rattle.ada_expr_parser.proofs.Steps.{fails_go_on}
use Rattle.ada_phrase_parser.specs.Spelling.{Source}
use Rattle.ada_stmt_parser.specs.inner.ReadingStatements.{readers, inner_at, body_rest}

-- what reads one level deeper reads at the depth that is less by one
pub inner_is : (source : Source) (d : ℕ) → 0 < d → inner_at source d ≡ readers source (d - 1)
inner_is source zero h = absurd (omega arith)
inner_is source (suc d) h = let e : suc d - 1 ≡ d = omega arith in rw e refl

pub inner-stmt : (source : Source) (d : ℕ) (ts : List Item) → 0 < d → (inner_at source d).stmt ts ≡ (readers source (d - 1)).stmt ts
inner-stmt source d ts h = rw (inner_is source d h) refl

pub inner-accept : (source : Source) (d : ℕ) (lead : Span) (ts : List Item) → 0 < d → (inner_at source d).accept lead ts ≡ (readers source (d - 1)).accept lead ts
inner-accept source d lead ts h = rw (inner_is source d h) refl

pub inner-alt : (source : Source) (d : ℕ) (ts : List Item) → 0 < d → (inner_at source d).alt ts ≡ (readers source (d - 1)).alt ts
inner-alt source d ts h = rw (inner_is source d h) refl

pub inner-handlers : (source : Source) (d : ℕ) (ts : List Item) → 0 < d → (inner_at source d).handlers ts ≡ (readers source (d - 1)).handlers ts
inner-handlers source d ts h = rw (inner_is source d h) refl

-- the body of a unit stands at a depth of its own
pub body_at : (source : Source) (d : ℕ) (ts : List Item) → body_rest (d + 1 - 1) (inner_at source (d + 1)) ts ≡ body_rest d (readers source d) ts
body_at source d ts = let e : d + 1 - 1 ≡ d = omega arith in rw e (rw (inner_is source (d + 1) (omega arith)) (rw e refl))

pub ruleset inward = (fails_go_on, inner-stmt, inner-accept, inner-alt, inner-handlers)

-- How what the code's readers answer fits together.
use Rattle.std.proofs.Common.{◌≡◌, ℕ, zero, suc, ◌+◌, ◌-◌, ◌<◌, ◌≤◌, List, Result, refl, arith}
use Rattle.ada_expr_parser.specs.readers.Readers.{Answer, Found, Fault, Reader, go_on, chain, chain_in}
use Rattle.ada_tree.specs.PlainExpr.{PExpr}
use Rattle.ada_expr_parser.specs.declared.items.Item.{Item}
use Rattle.ada_expr_parser.specs.declared.errors.ParseError.{ParseError}
use Rattle.ada_expr_parser.specs.declared.errors.ParseError.TheVariants.{Syntax, TooDeep, Memory}
use Rattle.ada_expr_parser.specs.declared.levels.Level.{Level}
use Rattle.ada_expr_parser.specs.declared.levels.Level.TheVariants.{Logical, Relation, Simple, Term, Factor, Primary}
use Rattle.ada_expr_parser.specs.Reading.{operators, inner, expr_at, logical_at, relation_at, simple_at, term_at, factor_at, primary_at}
use Rattle.ada_expr_parser.specs.Gives.{Gives, Fails}

-- a fault of a reader is that of what goes on behind it
pub fails_go_on : {A B : Type 0} (e : ParseError) (r : Answer Item A) (f : A → Reader Item B) → Fails e r → Fails e (go_on r f)
fails_go_on Memory r f h = tt
fails_go_on (Syntax at) (Found a rest) f h = absurd h
fails_go_on (Syntax at) (Fault b rest) f h = h
fails_go_on (TooDeep at) (Found a rest) f h = absurd h
fails_go_on (TooDeep at) (Fault b rest) f h = h

-- what reads one level deeper reads at the depth that is less by one
inner_is : (d : ℕ) (level : Level) (ts : List Item) → 0 < d → inner d level ts ≡ expr_at (d - 1) (inner (d - 1)) level ts
inner_is zero level ts h = absurd (omega arith)
inner_is (suc d) level ts h = let e : suc d - 1 ≡ d = omega arith in rw e refl

pub inner-logical : (d : ℕ) (ts : List Item) → 0 < d → inner d Logical ts ≡ logical_at (d - 1) (inner (d - 1)) ts
inner-logical d ts h = inner_is d Logical ts h

pub inner-relation : (d : ℕ) (ts : List Item) → 0 < d → inner d Relation ts ≡ relation_at (d - 1) (inner (d - 1)) ts
inner-relation d ts h = inner_is d Relation ts h

pub inner-simple : (d : ℕ) (ts : List Item) → 0 < d → inner d Simple ts ≡ simple_at (d - 1) (inner (d - 1)) ts
inner-simple d ts h = inner_is d Simple ts h

pub inner-term : (d : ℕ) (ts : List Item) → 0 < d → inner d Term ts ≡ term_at (d - 1) (inner (d - 1)) ts
inner-term d ts h = inner_is d Term ts h

pub inner-factor : (d : ℕ) (ts : List Item) → 0 < d → inner d Factor ts ≡ factor_at (d - 1) (inner (d - 1)) ts
inner-factor d ts h = inner_is d Factor ts h

pub inner-primary : (d : ℕ) (ts : List Item) → 0 < d → inner d Primary ts ≡ primary_at (d - 1) (inner (d - 1)) ts
inner-primary d ts h = inner_is d Primary ts h

pub ruleset steps = (fails_go_on, inner-logical, inner-relation, inner-simple, inner-term, inner-factor, inner-primary)

-- a chain whose first operand was read
pub chained :
    {X : Type 0} (tree : X → PExpr) (behind : X → List Item) (result : Result X ParseError) (level : Level) (d h : ℕ) (first operand : Reader Item PExpr) (ts rest : List Item) (left : PExpr) →
    first ts ≡ Found left rest → ((turns : ℕ) → d ≤ turns + h → Gives tree behind result (chain_in (operators level) d operand turns left rest)) →
    Gives tree behind result (chain (operators level) d first operand ts)
chained tree behind result level d h first operand ts rest left e more = rw e (more d (omega arith))

-- What a static expression answers, and what its value is for sure.
use Rattle.std.specs.Prelude.{◌≡◌, ℕ, ℤ, pos, negsuc, ◌≤ℤ◌, ◌<ℤ◌, Bool, true, false, if◌then◌else◌, Some, None, Result, Ok, Err, refl}
use Rattle.std.proofs.Common.{sym, ap, arith}
use Rattle.std.proofs.lemmas.Int.{ints}
use Rattle.std.proofs.Math.IntN.{nat_abs}
use Rattle.ada_tree.specs.declared.naming.Span.{Span}
use Rattle.ada_tree.specs.TypeTable.{TypeTable}
use Rattle.ada_tree.specs.PlainExpr.{PExpr}
use Rattle.ada_static_rules.specs.ExprTypes.{expr_place}
use Rattle.ada_static_rules.specs.StaticValue.{is_static, value_of}
use Rattle.ada_static_rules.specs.declared.errors.TypeError.{TypeError}
use Rattle.ada_scopes.specs.values.StaticAnswer.{static_answer, if_static}
use Rattle.syn_event.specs.Extents.{unraised_value, fixed, count_to}
use Rattle.ada_check_rules.specs.rules.Amounts.{capped}

there : (b : Bool) (s : Span) (r : Result ℤ Span) (z : ℤ) → Ok z ≡ if_static b s r → Some z ≡ (if b then unraised_value r else None)
there true s (Ok y) z h = cc
there true s (Err t) z h = cc
there false s r z h = cc

not_there : (b : Bool) (s : Span) (r : Result ℤ Span) (e : TypeError) → Err e ≡ if_static b s r → None ≡ (if b then unraised_value r else None)
not_there true s (Ok y) e h = cc
not_there true s (Err t) e h = refl
not_there false s r e h = refl

pub fixed_there : (types : TypeTable) (e : PExpr) (z : ℤ) → Ok z ≡ static_answer types e → Some z ≡ fixed types e
fixed_there types e z h = there (is_static types e) (expr_place e) (value_of types e) z h

pub fixed_not : (types : TypeTable) (e : PExpr) (error : TypeError) → Err error ≡ static_answer types e → None ≡ fixed types e
fixed_not types e error h = not_there (is_static types e) (expr_place e) (value_of types e) error h

pub small_count : (z : ℤ) → pos 0 ≤ℤ z → z <ℤ pos 2147483648 → nat_abs z ≡ capped (count_to z)
small_count (pos n) h g = omega (arith, ints)
small_count (negsuc n) h g = omega (arith, ints)

pub count_pos : (z : ℤ) (n : ℕ) → z ≡ pos n → n ≡ count_to z
count_pos z n h = ap count_to (sym h)

pub count_back : (z : ℤ) (n : ℕ) → pos n ≡ z → n ≡ count_to z
count_back z n h = ap count_to h

pub ruleset counting = (count_pos, count_back)

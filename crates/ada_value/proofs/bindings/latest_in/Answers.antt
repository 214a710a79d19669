use Rattle.std.proofs.Common.{◌≡◌, ◌-◌, ◌≤◌, ◌==◌, suc, length, arith, None, find, reverse}
use Rattle.ada_value.proofs.Lookups.{found_here, not_here}
use Rattle.ada_value.proofs.bindings.latest_in.Goals as goal

pub returns-in-Some : goal.returns-in-Some
returns-in-Some c =
    let some = c.loop-place-test.true in
    let within = c.loop-place.auto.place in
    let one : suc (c.loop-place.place - 1) ≡ c.loop-place.place = omega arith in
    let all : c.loop-place.place ≤ length c.args.scopes.now = within in
    found_here (λ b. b.name.0 == c.args.name.0) c.args.scopes.now c.loop-place.place (c.loop-place.place - 1) c.index-scopes-place.result c.in-Some.binding.now
    one all c.index-scopes-place.is c.loop-place.invariant c.in-Some.ensures

pub loop-place-preserved : goal.loop-place-preserved
loop-place-preserved c =
    let some = c.loop-place-test.true in
    let within = c.loop-place.auto.place in
    let one : suc (c.loop-place.place - 1) ≡ c.loop-place.place = omega arith in
    let all : c.loop-place.place ≤ length c.args.scopes.now = within in
    let none : None ≡ find (λ b. b.name.0 == c.args.name.0) (reverse c.index-scopes-place.result) = c.in_default.ensures in
    not_here (λ b. b.name.0 == c.args.name.0) c.args.scopes.now c.loop-place.place (c.loop-place.place - 1) c.index-scopes-place.result
    one all c.index-scopes-place.is c.loop-place.invariant none

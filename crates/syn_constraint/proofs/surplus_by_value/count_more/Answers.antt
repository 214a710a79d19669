use Rattle.std.proofs.Common.{◌≡◌, ◌+◌, suc, cond, Some, ap, ◌∙◌, sym, rules, to_z, of_z, w64, FitsSigned}
use Rattle.std.specs.Prelude.{◌&&◌}
use Rattle.std.specs.Ordering.{int_eq}
use Rattle.std.proofs.lemmas.Int.{to_z-of_z}
use Rattle.syn_constraint.specs.inner.Reaching.{reaches}
use Rattle.syn_constraint.specs.inner.Values.{number_at}
use Rattle.syn_constraint.specs.inner.Tallies.{live_at, is_open_at}
use Rattle.syn_constraint.proofs.Noted.{put-live, shut-live}
use Rattle.syn_constraint.proofs.surplus_by_value.count_more.Goals as goal

pub returns-in_ok-put-in-At-clause-live : goal.returns-in_ok-put-in-At-clause-live
returns-in_ok-put-in-At-clause-live c = λ z low.
    let old = c.args.tallies.now in
    let opened = c.args.opened.now in
    let closed = c.args.closed.now in
    let fits : FitsSigned w64 c.in-At.value = search rules in
    let whole : to_z w64 (of_z w64 c.in-At.value) ≡ c.in-At.value = to_z-of_z w64 c.in-At.value fits in
    put-live old c.put.new.tallies opened closed c.in-At.value (c.live-count.result + 1) c.args.place (sym (c.if-is_open.ensures ∙ ap (is_open_at opened closed) whole))
    (ap (λ t. t + 1) (c.live-count.ensures ∙ ap (live_at old closed) whole))
    (λ w. c.in_ok-put-in-At.ensures.counts w ∙ ap (λ t. cond (int_eq t w) (c.live-count.result + 1) (number_at old.counts w)) whole)
    (λ w. c.in_ok-put-in-At.ensures.places w ∙ ap (λ t. cond (int_eq t w) c.args.place (number_at old.places w)) whole) z low
    ∙ ap (λ r. cond (reaches r (Some z) && is_open_at opened closed z) (suc (live_at old closed z)) (live_at old closed z)) (sym c.in-At.is)

pub returns-else-is_open-clause-live : goal.returns-else-is_open-clause-live
returns-else-is_open-clause-live c = λ z low.
    let old = c.args.tallies.now in
    let opened = c.args.opened.now in
    let closed = c.args.closed.now in
    let fits : FitsSigned w64 c.in-At.value = search rules in
    let whole : to_z w64 (of_z w64 c.in-At.value) ≡ c.in-At.value = to_z-of_z w64 c.in-At.value fits in
    shut-live old opened closed c.in-At.value z (sym (c.if-is_open.ensures ∙ ap (is_open_at opened closed) whole))
    ∙ ap (λ r. cond (reaches r (Some z) && is_open_at opened closed z) (suc (live_at old closed z)) (live_at old closed z)) (sym c.in-At.is)

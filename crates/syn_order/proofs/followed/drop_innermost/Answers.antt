use Rattle.std.proofs.Common.{◌≡◌, ◌-◌, ◌∙◌, ap, arith, rules, length, take}
use Rattle.std.specs.Prelude.{vec_len}
use Rattle.syn_order.specs.inner.Callers.{all_but_last}
use Rattle.syn_order.proofs.Placing.{set_there, items_there}
use Rattle.syn_order.proofs.followed.drop_innermost.Goals as goal

pub returns : goal.returns
returns c =
    let count : vec_len c.index_mut.result.now ≡ length c.index_mut.result.now.items = search rules in
    set_there c.args.callers.now.items c.args.place c.pop.new.self _
    (c.pop.ensures.rest ∙ ap (λ n. take (n - 1) c.index_mut.result.now.items) count
    ∙ ap all_but_last (ap (λ v. v.items) c.index_mut.ensures.value ∙ items_there c.args.callers.now.items c.args.place c.index_mut.result.now (omega arith)))

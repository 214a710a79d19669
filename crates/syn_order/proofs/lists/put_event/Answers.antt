use Rattle.std.proofs.Common.{[], ◌∷◌, ◌++◌, ap, ◌∙◌, arith}
use Rattle.syn_order.proofs.Placing.{put_there, set_none}
use Rattle.syn_order.proofs.lists.put_event.Goals as goal

pub returns-then-place-len : goal.returns-then-place-len
returns-then-place-len c = set_none c.args.lists.now.items c.args.place _ (omega arith)

pub returns : goal.returns
returns c =
    put_there c.args.lists.now.items c.args.place c.index_mut.result.now c.push.new.self c.args.e (omega arith)
    (c.in_ok-push.ensures.items ∙ ap (λ l. l.items ++ c.args.e ∷ []) c.index_mut.ensures.value)

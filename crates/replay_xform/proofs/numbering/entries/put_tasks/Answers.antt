use Rattle.std.proofs.Common.{ap, ◌+◌, ◌++◌, ◌∙◌}
use Rattle.replay_asking.specs.Looked.{voice_of}
use Rattle.replay_xform.specs.numbering.Replayed.{infos_of}
use Rattle.replay_xform.proofs.numbering.Owned.{infos-turn}
use Rattle.replay_xform.proofs.numbering.entries.put_tasks.Goals as goal

pub loop-own-preserved : goal.loop-own-preserved
loop-own-preserved c =
    let number = c.in_ok-task.ensures ∙ ap (λ n. n + 1) c.loop-own.invariant.number in
    record {
      infos = infos-turn (voice_of c.args.x.now) c.args.lists.now c.loop-own.own-index c.in_ok-task.task c.own-item.result c.args.out.now.items c.loop-own.out.items c.put_task.new.out.items c.loop-own-test.true c.own-item.is number c.loop-own.invariant.infos (c.in_ok-put_task.ensures ∙ ap (λ l. c.loop-own.out.items ++ infos_of (voice_of c.args.x.now) c.in_ok-task.task l) c.deref.ensures.value);
      number = number;
    }

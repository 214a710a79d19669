use Rattle.task_links.proofs.KeepingLemmas.{literal_step}
use Rattle.task_links.proofs.type_names.keep_literals.Goals as goal

pub loop-place-preserved : goal.loop-place-preserved
loop-place-preserved c =
    literal_step c.args.kind c.args.map.now c.loop-place.map c.keep_first.new.map c.args.names.now c.loop-place.place c.word.result _
    c.loop-place-test.true c.word.ensures c.loop-place.invariant c.in_ok-keep_first.ensures

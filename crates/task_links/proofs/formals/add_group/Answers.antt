use Rattle.task_links.proofs.FormalsLemmas.{name_step}
use Rattle.task_links.proofs.formals.add_group.Goals as goal

pub loop-word-preserved : goal.loop-word-preserved
loop-word-preserved c =
    name_step c.args.mode c.args.limits c.args.parameters.now.items c.loop-word.parameters.items c.push.new.self.items c.args.words.now c.loop-word.word-index _
    c.loop-word-test.true c.loop-word.invariant c.in_ok-push.ensures.items

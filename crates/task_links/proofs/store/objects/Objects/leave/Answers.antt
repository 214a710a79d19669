use Rattle.std.proofs.Common.{◌∙◌, ap}
use Rattle.std.specs.Prelude.{drop}
use Rattle.std.proofs.lemmas.List.{drop-drop}
use Rattle.task_links.proofs.store.objects.Objects.leave.Goals as goal

pub loop-preserved : goal.loop-preserved
loop-preserved c = c.forget.ensures ∙ ap (drop 1) c.loop.invariant ∙ drop-drop 1 c.loop.counter c.args.self.now

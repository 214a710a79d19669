use Rattle.std.proofs.Common.{◌∙◌, ap, drop, take}
use Rattle.task_links.specs.store.inner.Kept.{objects_kept}
use Rattle.task_links.proofs.store.Keeping.{forgotten}
use Rattle.task_links.proofs.store.objects.Objects.forget.Goals as goal

pub returns-then-len-gt0 : goal.returns-then-len-gt0
returns-then-len-gt0 c =
    ap (λ l. objects_kept l c.forget.new.self) c.truncate.ensures.items
    ∙ ap (objects_kept (take c.at.result.now.start c.self.inside.values.items)) c.forget.ensures
    ∙ forgotten c.self.inside.values.items c.self.inside.names c.at.result.now c.self.invariant c.at.ensures
    ∙ ap (drop 1) c.self.view_is

use Rattle.std.proofs.Common.{◌∙◌, sym, ap, length}
use Rattle.task_links.specs.store.Latest.{with_latest}
use Rattle.task_links.specs.store.inner.Kept.{objects_kept, set_there}
use Rattle.task_links.proofs.store.Keeping.{latest_kept}
use Rattle.task_links.proofs.store.objects.Objects.set_latest.Goals as goal

pub returns : goal.returns
returns c =
    ap (λ l. objects_kept l c.self.inside.names) (c.write.ensures ∙ ap (λ slot. set_there c.self.inside.values.items slot c.args.value) c.latest_slot-slot.ensures)
    ∙ sym (latest_kept c.self.inside.values.items c.self.inside.names (length c.self.inside.values.items) c.args.value c.self.invariant)
    ∙ ap (λ vs. with_latest vs c.args.value) c.self.view_is

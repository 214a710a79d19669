use Rattle.std.proofs.Common.{◌∙◌, sym, ap, length}
use Rattle.ada_value.specs.Variables.{set_value}
use Rattle.task_links.specs.store.inner.Kept.{objects_kept, set_there}
use Rattle.task_links.proofs.store.Keeping.{set_kept}
use Rattle.task_links.proofs.store.objects.Objects.set.Goals as goal

pub returns : goal.returns
returns c =
    ap (λ l. objects_kept l c.self.inside.names) (c.write.ensures ∙ ap (λ slot. set_there c.self.inside.values.items slot c.args.value) c.slot_named-slot.ensures)
    ∙ sym (set_kept c.self.inside.values.items c.self.inside.names c.args.id c.args.place (length c.self.inside.values.items) c.args.value c.self.invariant)
    ∙ ap (λ vs. set_value vs c.args.id c.args.place c.args.value) c.self.view_is

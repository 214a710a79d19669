use Rattle.std.proofs.Common.{◌∙◌, sym, ap, subst, length, option_map, slice_get, Some, arith, ◌≤◌}
use Rattle.task_links.specs.store.inner.Kept.{object_at, IsWithin}
use Rattle.task_links.proofs.store.Keeping.{at_kept, at_past, within_at}
use Rattle.task_links.proofs.store.objects.Objects.at.Goals as goal

pub variable_at-requires : goal.variable_at-requires
variable_at-requires c =
    subst (λ l. IsWithin c.at.result.now (length l)) (sym c.deref.ensures.value)
    (within_at c.self.inside.names c.args.place (length c.self.inside.values.items) c.at.result.now c.self.invariant c.at.ensures)

pub returns-then-place-len : goal.returns-then-place-len
returns-then-place-len c =
    ap Some (c.variable_at.ensures ∙ ap (λ l. object_at l c.at.result.now) c.deref.ensures.value)
    ∙ ap (option_map (object_at c.self.inside.values.items)) c.at.ensures
    ∙ sym (at_kept c.self.inside.values.items c.self.inside.names c.args.place)
    ∙ ap (λ vs. slice_get vs c.args.place) c.self.view_is

pub returns-else-place-len : goal.returns-else-place-len
returns-else-place-len c =
    let past : length c.self.inside.names ≤ c.args.place = omega (arith, c.len.ensures, c.if-place-len.false) in
    at_past c.self.inside.values.items c.self.inside.names c.args.place past ∙ ap (λ vs. slice_get vs c.args.place) c.self.view_is

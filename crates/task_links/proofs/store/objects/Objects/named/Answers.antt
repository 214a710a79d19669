use Rattle.std.proofs.Common.{◌∙◌, sym, ap, subst, length, option_map, Some}
use Rattle.ada_value.specs.Variables.{object_named}
use Rattle.task_links.specs.store.inner.Kept.{object_at, IsWithin}
use Rattle.task_links.proofs.store.Keeping.{named_kept, within}
use Rattle.task_links.proofs.store.objects.Objects.named.Goals as goal

pub variable_at-requires : goal.variable_at-requires
variable_at-requires c =
    subst (λ l. IsWithin c.in-Some.extent.now (length l)) (sym c.deref.ensures.value)
    (within c.self.inside.names c.args.id.0 (length c.self.inside.values.items) c.in-Some.extent.now c.self.invariant c.in-Some.ensures)

pub returns-in-Some : goal.returns-in-Some
returns-in-Some c =
    ap Some (c.variable_at.ensures ∙ ap (λ l. object_at l c.in-Some.extent.now) c.deref.ensures.value)
    ∙ ap (option_map (object_at c.self.inside.values.items)) c.in-Some.ensures
    ∙ sym (named_kept c.self.inside.values.items c.self.inside.names c.args.id (length c.self.inside.values.items) c.self.invariant)
    ∙ ap (λ vs. object_named vs c.args.id) c.self.view_is

pub returns-in-None : goal.returns-in-None
returns-in-None c =
    ap (option_map (object_at c.self.inside.values.items)) c.in-None.ensures
    ∙ sym (named_kept c.self.inside.values.items c.self.inside.names c.args.id (length c.self.inside.values.items) c.self.invariant)
    ∙ ap (λ vs. object_named vs c.args.id) c.self.view_is

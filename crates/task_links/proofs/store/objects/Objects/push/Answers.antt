use Rattle.std.proofs.Common.{◌∙◌, ap, ◌∷◌}
use Rattle.ada_value.specs.Variables.{object_with}
use Rattle.task_links.proofs.store.Keeping.{on_both, pushed_there}
use Rattle.task_links.proofs.store.objects.Objects.push.Goals as goal

pub returns-clause-ok : goal.returns-clause-ok
returns-clause-ok c =
    on_both c.declare.result (λ names_are values_are.
    pushed_there c.self.inside.values.items c.args.values.now c.extend_from_slice.new.self.items c.declare.new.values.items c.self.inside.names c.declare.new.names c.args.name c.args.form c.len-start.result
    (c.len-start.ensures ∙ c.self.inside.values.ok.0) c.in_ok-extend_from_slice.ensures.items names_are values_are c.self.invariant
    ∙ ap (λ vs. object_with c.args.name c.args.form c.args.values.now ∷ vs) c.self.view_is) c.declare.ensures.ok c.declare.ensures.kept

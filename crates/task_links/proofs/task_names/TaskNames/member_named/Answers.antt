use Rattle.std.proofs.Common.{ap, ◌∙◌, ok_or, w64}
use Rattle.std.specs.HashMap.{get}
use Rattle.std.proofs.lemmas.Int.{to_z-of_z}
use Rattle.ada_value.specs.declared.values.Raised.TheVariants.{Constraint}
use Rattle.task_model.specs.Setting.{member_named}
use Rattle.task_links.specs.inner.Keys.{member_eq}
use Rattle.task_links.proofs.task_names.TaskNames.member_named.Goals as goal

pub returns-in-Some : goal.returns-in-Some
returns-in-Some c =
    ap (λ o. ok_or o Constraint)
    (c.in-Some.ensures.value
    ∙ ap (λ i. get member_eq c.self.inside.members (c.args.name.0, i)) (to_z-of_z w64 c.args.index c.ranges.index)
    ∙ c.self.invariant.members_are (c.args.name.0, c.args.index))
    ∙ ap (λ n. member_named n c.args.name c.args.index) c.self.view_is

pub returns-in-None : goal.returns-in-None
returns-in-None c =
    ap (λ o. ok_or o Constraint)
    (c.in-None.ensures.value
    ∙ ap (λ i. get member_eq c.self.inside.members (c.args.name.0, i)) (to_z-of_z w64 c.args.index c.ranges.index)
    ∙ c.self.invariant.members_are (c.args.name.0, c.args.index))
    ∙ ap (λ n. member_named n c.args.name c.args.index) c.self.view_is

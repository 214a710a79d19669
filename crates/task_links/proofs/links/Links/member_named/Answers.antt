use Rattle.std.proofs.Common.{ap, ◌∙◌, w64}
use Rattle.std.proofs.lemmas.Int.{to_z-of_z}
use Rattle.task_model.specs.Setting.{Setting, member_named}
use Rattle.task_links.proofs.links.Links.member_named.Goals as goal

pub returns : goal.returns
returns c =
    c.member_named.ensures
    ∙ ap (λ i. member_named c.self.inside.tasks c.args.name i) (to_z-of_z w64 c.args.index c.ranges.index)
    ∙ ap (λ (g : Setting). member_named g.numbers c.args.name c.args.index) c.self.view_is

use Rattle.std.proofs.Common.{rules, ap, sym, ◌∙◌, w64, FitsSigned}
use Rattle.std.proofs.lemmas.Int.{to_z-of_z}
use Rattle.ada_value.specs.Values.{and_then, position_of}
use Rattle.task_model.specs.Setting.{member_named}
use Rattle.normal_lookups.proofs.lookups.member_of.Goals as goal

pub returns-in-Ok : goal.returns-in-Ok
returns-in-Ok c =
    let g = c.args.links.now in
    let fits : FitsSigned w64 c.position_of.result = search rules in
    c.member_named.ensures
    ∙ ap (λ i. member_named g.numbers c.args.array i) (to_z-of_z w64 c.position_of.result fits ∙ c.position_of.ensures)
    ∙ ap (λ r. and_then r (λ v. member_named g.numbers c.args.array (position_of v))) (sym c.in-Ok.is ∙ c.value.ensures)

use Rattle.std.proofs.Common.{rules, ◌∙◌, ap, w64, FitsSigned}
use Rattle.std.proofs.lemmas.Int.{to_z-of_z}
use Rattle.ada_tree.specs.PlainExpr.{plain_expr}
use Rattle.task_model.specs.Setting.{member_named}
use Rattle.task_waits.proofs.calls.Opening.{task_by_index}
use Rattle.task_waits.proofs.calls.here.Here.member_of.Goals as goal

pub returns-in-Ok : goal.returns-in-Ok
returns-in-Ok c =
    let g = c.args.self.now.links.now in
    let fits : FitsSigned w64 c.position_of.result = search rules in
    task_by_index g c.args.self.now.objects.now c.args.name (plain_expr c.args.index.now) c.in-Ok.value c.position_of.result c.member_named.result c.in-Ok.ensures c.position_of.ensures
    (c.member_named.ensures ∙ ap (λ i. member_named g.numbers c.args.name i) (to_z-of_z w64 c.position_of.result fits))

use Rattle.std.proofs.Common.{ap, sym, ◌∙◌, option_map}
use Rattle.std.specs.Result.{result_ok}
use Rattle.ada_tree.specs.PlainExpr.{plain_expr}
use Rattle.ada_scopes.specs.values.StaticAnswer.{static_answer}
use Rattle.ada_check_places.specs.parts.inner.Claiming.{index_value}
use Rattle.ada_check_places.proofs.parts.Claiming.{fixed_is}
use Rattle.ada_check_places.proofs.parts.waits.index_value.Goals as goal

pub returns-in-Some : goal.returns-in-Some
returns-in-Some c =
    c.ok.ensures.value
    ∙ ap result_ok c.static_value.ensures
    ∙ ap (λ t. result_ok (static_answer t (plain_expr c.in-Some.index))) c.types.ensures
    ∙ fixed_is c.args.around.now.types (plain_expr c.in-Some.index)
    ∙ ap (λ o. index_value c.args.around.now.types (option_map plain_expr o)) (sym c.in-Some.is)

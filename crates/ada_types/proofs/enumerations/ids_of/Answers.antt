use Rattle.std.proofs.Common.{ap, map, ◌∙◌}
use Rattle.std.proofs.lemmas.List.{take_all}
use Rattle.ada_tree.specs.declared.naming.Word.{Word}
use Rattle.ada_types.proofs.TaskDecls.{ids_grown}
use Rattle.ada_types.proofs.enumerations.ids_of.Goals as goal

pub loop-literal-preserved : goal.loop-literal-preserved
loop-literal-preserved c = ids_grown c.args.literals.now c.loop-literal.literal-index _ _ _ c.loop-literal-test.true c.loop-literal.invariant c.in_ok-push.ensures.items

pub returns : goal.returns
returns c = c.loop-literal.invariant ∙ ap (map (λ (w : Word). w.name)) (take_all c.loop-literal.literal-index c.args.literals.now c.loop-literal-test.false)

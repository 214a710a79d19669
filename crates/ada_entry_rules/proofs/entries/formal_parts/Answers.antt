use Rattle.std.proofs.Common.{ap, map, ◌∙◌}
use Rattle.std.proofs.lemmas.List.{take_all}
use Rattle.ada_tree.specs.PlainStmt.{plain_formal}
use Rattle.ada_static_rules.specs.Declaring.{formal_parts}
use Rattle.ada_entry_rules.proofs.EntryDecls.{formals_grown}
use Rattle.ada_entry_rules.proofs.entries.formal_parts.Goals as goal

pub loop-formal-preserved : goal.loop-formal-preserved
loop-formal-preserved c =
    formals_grown c.args.scope.now c.args.formals.now c.loop-formal.formal-index c.formal-item.result _ _ _ c.loop-formal-test.true c.formal-item.is c.loop-formal.invariant c.in_ok-add_group.ensures c.kind_named.ensures

pub returns : goal.returns
returns c = c.loop-formal.invariant ∙ ap (λ fs. formal_parts c.args.scope.now (map plain_formal fs)) (take_all c.loop-formal.formal-index c.args.formals.now c.loop-formal-test.false)

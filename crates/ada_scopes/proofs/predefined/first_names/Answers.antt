use Rattle.ada_tree.specs.declared.naming.NameId.{NameId}
use Rattle.ada_scopes.specs.declared.predefined.Predefined.{Predefined}
use Rattle.ada_scopes.specs.declared.predefined.Predefined.TheVariants.{Mark}
use Rattle.ada_scopes.specs.declared.predefined.TheConstants.{PREDEFINED}
use Rattle.ada_scopes.proofs.Predefining.{name_more}
use Rattle.ada_scopes.proofs.predefined.first_names.Goals as goal

pub loop-name-preserved : goal.loop-name-preserved
loop-name-preserved c =
    let none : NameId × Predefined = (record { 0 = 0 }, Mark 0) in
    name_more c.loop-name.names c.declare.new.self c.thing.result PREDEFINED c.loop-name.name-index none
    c.loop-name-test.true c.in_ok-declare.ensures.ok c.thing.ensures c.loop-name.invariant

use Rattle.ada_tree.specs.declared.naming.NameId.{NameId}
use Rattle.ada_scopes.proofs.Keeping.{literal_more}
use Rattle.ada_scopes.proofs.table.keep_literals.Goals as goal

pub loop-position-preserved : goal.loop-position-preserved
loop-position-preserved c =
    let none : NameId = record { 0 = 0 } in
    literal_more c.args.map.now c.loop-position.map c.keep_first.new.map c.args.names.now c.loop-position.position c.in_ok-place_of.field-0 none
    c.loop-position-test.true c.in_ok-place_of.ensures c.loop-position.invariant c.in_ok-keep_first.ensures

use Rattle.std.proofs.Common.{ap}
use Rattle.ada_tree.specs.PlainExpr.{plain_expr, plain_drange}
use Rattle.ada_tree.specs.PlainStmt.{plain_scheme, LWhile}
use Rattle.ada_decl_rules.proofs.duplicates.Noting.{with_scheme, while_named, counted_scheme, without_scheme}
use Rattle.ada_decl_rules.proofs.duplicates.namings_in_order.note_scheme.Goals as goal

pub returns-in-While : goal.returns-in-While
returns-in-While c =
    with_scheme c.args.namings.now.items c.args.namings.now.items c.args.scheme.now c.in-Some.scheme (LWhile (plain_expr c.in-While.field-0)) c.in-Some.is (ap plain_scheme c.in-While.is) (while_named c.args.namings.now.items (plain_expr c.in-While.field-0))

pub returns-in_ok-push-in-For : goal.returns-in_ok-push-in-For
returns-in_ok-push-in-For c =
    counted_scheme c.args.namings.now.items c.push.new.self.items c.args.scheme.now c.in-Some.scheme c.in-For.name c.in-For.reverse (plain_drange c.in-For.range) c.in-Some.is (ap plain_scheme c.in-For.is) c.in_ok-push-in-For.ensures.items

pub returns-in-None : goal.returns-in-None
returns-in-None c = without_scheme c.args.namings.now.items c.args.scheme.now c.in-None.is

use Rattle.std.proofs.Common.{map}
use Rattle.ada_tree.specs.PlainDecl.{plain_decl}
use Rattle.collect_model.specs.CollectTree.{unit_declared}
use Rattle.collect_statements.specs.Looked.{teller_of}
use Rattle.collect_xform.proofs.units.Put.{objects-put, listed-put}
use Rattle.collect_xform.proofs.units.units.put_objects.Goals as goal

pub returns : goal.returns
returns c =
    listed-put c.args.names.now (unit_declared (teller_of c.args.x.now).added c.args.s) c.args.objects.now.items c.put_behind_own.new.decls.items c.put_behind_own.result
    (objects-put c.args.names.now (unit_declared (teller_of c.args.x.now).added c.args.s) (map plain_decl c.args.objects.now.items) (map plain_decl c.put_behind_own.new.decls.items) c.new-more.result.items c.put_variables.new.out.items c.put_behind_own.result
    c.new-more.ensures.items c.in_ok-put_variables.ensures c.put_behind_own.ensures)

use Rattle.std.proofs.Common.{◌++◌, map}
use Rattle.ada_tree.specs.PlainDecl.{plain_decl}
use Rattle.collect_model.specs.CollectTree.{unit_declared}
use Rattle.collect_model.specs.aborts.AbortTree.{places_declared}
use Rattle.collect_xform.proofs.units.Put.{objects-put, listed-put}
use Rattle.collect_abort.specs.Looked.{told_of}
use Rattle.collect_abort.proofs.units.bodies.put_objects.Goals as goal

pub returns : goal.returns
returns c =
    let x = told_of c.args.x.now in
    let ds = unit_declared x.teller.added c.args.s ++ places_declared x c.args.s c.args.count in
    listed-put c.args.names.now ds c.args.objects.now.items c.put_behind_own.new.decls.items c.put_behind_own.result
    (objects-put c.args.names.now ds (map plain_decl c.args.objects.now.items) (map plain_decl c.put_behind_own.new.decls.items) c.new-more.result.items c.put_more.new.out.items c.put_behind_own.result
    c.new-more.ensures.items c.in_ok-put_more.ensures c.put_behind_own.ensures)

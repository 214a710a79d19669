use Rattle.std.proofs.Common.{Ok, map}
use Rattle.ada_tree.specs.PlainDecl.{plain_decl}
use Rattle.collect_xform.proofs.units.Put.{three-put}
use Rattle.normal_parts.proofs.Putting.{decl-put}
use Rattle.collect_xform.proofs.units.main_objects.put_main.Goals as goal

pub returns : goal.returns
returns c =
    three-put (map plain_decl c.args.out.now.items) (map plain_decl c.put_int_io.new.out.items) (map plain_decl c.push_decl.new.list.items) (map plain_decl c.put_variables.new.out.items) _ _ _ c.put_variables.result
    c.in_ok-put_int_io.ensures
    (decl-put c.put_int_io.new.out.items c.push_decl.new.list.items _ (Ok tt) c.flags_type.result c.in_ok-push_decl.ensures c.flags_type.ensures)
    c.put_variables.ensures

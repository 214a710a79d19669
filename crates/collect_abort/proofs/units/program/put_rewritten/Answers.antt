use Rattle.normal_parts.proofs.Putting.{moved-put}
use Rattle.collect_abort.proofs.units.program.put_rewritten.Goals as goal

pub returns : goal.returns
returns c =
    moved-put c.args.out.now.items c.abort_all.new.decls.items c.move_decls.new.list.items _ c.move_decls.result c.in_ok-abort_all.ensures c.move_decls.ensures

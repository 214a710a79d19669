use Rattle.std.proofs.Common.{rules}
use Rattle.collect_xform.proofs.units.Placed.{inserted}
use Rattle.collect_xform.proofs.units.variables.insert_decls.Goals as goal

pub returns : goal.returns
returns c =
    inserted c.args.place _ c.args.decls.now.items c.rotate_left.new.self.items c.move_decls.new.list.items c.rotate_left-2.new.self.items c.args.more.now.items (search rules) c.rotate_left.ensures.items c.in_ok-move_decls.ensures c.rotate_left-2.ensures.items

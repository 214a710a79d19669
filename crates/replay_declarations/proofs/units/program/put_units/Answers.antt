use Rattle.std.proofs.Common.{map}
use Rattle.ada_tree.specs.PlainDecl.{plain_decl}
use Rattle.replay_declarations.proofs.units.Put.{five-put}
use Rattle.replay_declarations.proofs.units.program.put_units.Goals as goal

pub returns : goal.returns
returns c =
    five-put (map plain_decl c.put_permit.new.decls.items) (map plain_decl c.put_rewritten.new.out.items) (map plain_decl c.put_control.new.out.items) (map plain_decl c.put_rewritten-2.new.out.items) (map plain_decl c.put_control_bodies.new.out.items) _ _ _ _ _ c.put_control_bodies.result c.in_ok-put_permit.ensures c.in_ok-put_rewritten.ensures c.in_ok-put_control.ensures c.in_ok-put_rewritten-2.ensures c.put_control_bodies.ensures

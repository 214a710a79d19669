use Rattle.std.proofs.Common.{map}
use Rattle.ada_tree.specs.PlainDecl.{plain_decl}
use Rattle.replay_declarations.proofs.units.Put.{both-put}
use Rattle.replay_declarations.proofs.units.program.put_control_bodies.Goals as goal

pub returns : goal.returns
returns c =
    both-put (map plain_decl c.args.out.now.items) (map plain_decl c.put_control_body.new.out.items) (map plain_decl c.put_idle_body.new.out.items) _ _ c.put_idle_body.result c.in_ok-put_control_body.ensures c.put_idle_body.ensures

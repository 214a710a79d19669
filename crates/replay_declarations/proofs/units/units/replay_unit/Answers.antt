use Rattle.ada_tree.specs.PlainStmt.{plain_body}
use Rattle.replay_asking.specs.Looked.{voice_of}
use Rattle.replay_declarations.proofs.units.Put.{body-put}
use Rattle.replay_declarations.proofs.units.units.replay_unit.Goals as goal

pub returns : goal.returns
returns c =
    body-put (voice_of c.args.x.now) c.first_running.result _ c.args.name.span (plain_body c.args.body.now) (plain_body c.replay_body.new.body) c.replay_body.result (c.first_running.ensures c.args.x.now.numbers.now c.requires) c.replay_body.ensures

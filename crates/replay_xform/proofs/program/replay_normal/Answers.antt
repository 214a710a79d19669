use Rattle.std.proofs.Common.{◌∙◌}
use Rattle.ada_tree.specs.PlainProgram.{plain_program}
use Rattle.replay_model.specs.ReplayTree.{script_of}
use Rattle.replay_xform.proofs.Made.{setting, same-text}
use Rattle.replay_xform.proofs.program.replay_normal.Goals as goal

pub returns-in-Ok : goal.returns-in-Ok
returns-in-Ok c =
    same-text c.in-Ok.lookups (setting (plain_program c.args.q.now) c.args.types.now c.args.renumbered.now) (script_of c.args.numbers.now c.args.events.now) c.replay_sequence.result (c.in-Ok.ensures ∙ c.in_ok-links.ensures) c.replay_sequence.ensures

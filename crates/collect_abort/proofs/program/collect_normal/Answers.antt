use Rattle.std.proofs.Common.{◌∙◌}
use Rattle.ada_tree.specs.PlainProgram.{plain_program}
use Rattle.collect_xform.proofs.Made.{setting}
use Rattle.collect_abort.proofs.Made.{same-text}
use Rattle.collect_abort.proofs.program.collect_normal.Goals as goal

pub returns-in-Ok : goal.returns-in-Ok
returns-in-Ok c =
    same-text c.in-Ok.lookups (setting (plain_program c.args.q.now) c.args.types.now c.args.renumbered.now) c.abort_text.result (c.in-Ok.ensures ∙ c.in_ok-links.ensures) c.abort_text.ensures

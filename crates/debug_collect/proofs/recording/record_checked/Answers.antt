use Rattle.std.proofs.Common.{ap, ◌∙◌}
use Rattle.ada_tree.specs.PlainProgram.{plain_program}
use Rattle.task_model.specs.Setting.{Setting}
use Rattle.task_model.specs.Machine.{opening_of}
use Rattle.debug_collect.proofs.Carrying.{file-from, opening-is}
use Rattle.debug_collect.proofs.recording.record_checked.Goals as goal

pub returns-in-Ok : goal.returns-in-Ok
returns-in-Ok g c =
    file-from g.C.Chooser.word g.C.Chooser.next c.args.names.now c.args.numbers.now _ _ c.args.choices.now c.args.turns c.record_machine.result
    (c.in-Ok.ensures ∙ ap (λ (s : Setting). opening_of record { program = s.program; types = s.types; inputs = c.args.inputs.now } s.numbers) c.in_ok-links.ensures
    ∙ opening-is (plain_program c.args.text.now) c.args.inputs.now c.args.checked.now.types c.args.checked.now.numbers c.requires.legal)
    c.record_machine.ensures

use Rattle.std.proofs.Common.{◌∙◌, ap}
use Rattle.task_model.specs.Setting.{Setting}
use Rattle.task_model.specs.Machine.{opening_of}
use Rattle.debug_run.proofs.Textual.{comes_from}
use Rattle.debug_run.proofs.running.write_run.Goals as goal

pub returns-in-Ok-new : goal.returns-in-Ok-new
returns-in-Ok-new g c =
    comes_from g.C.Chooser.word g.C.Chooser.next _ c.args.numbers.now c.in-Ok-new.machine _ c.args.choices.now c.args.turns
    (g.K.Sink.told c.args.out.now) (g.K.Sink.told c.run_machine.new.out) (g.K.Sink.faults c.args.out.now) (g.K.Sink.faults c.run_machine.new.out) c.run_machine.result
    (c.in-Ok-new.ensures ∙ ap (λ (s : Setting). opening_of record { program = s.program; types = s.types; inputs = c.args.inputs.now } s.numbers) c.in-Ok.ensures)
    c.run_machine.ensures

use Rattle.std.proofs.Common.{sym, ◌∙◌}
use Rattle.task_machine.proofs.Outputs.{output_once}
use Rattle.task_machine.proofs.machine.Machine.output.Goals as goal

pub returns-clause-of_all : goal.returns-clause-of_all
returns-clause-of_all c setup events end alive other other_end =
    let m = c.args.self.now in
    output_once setup m.numbers events m.state c.args.task end alive other other_end ∙ sym c.written_by.ensures

-- What is counted in a legal program has 32 bits: its tasks, its entries, and the actions that apply behind each of its runs (this project's rule).
use Rattle.std.specs.Prelude.{◌<◌, ◌^◌, List, length}
use Rattle.ada_tree.specs.PlainProgram.{PProgram}
use Rattle.ada_tree.specs.TypeTable.{TypeTable}
use Rattle.event_machine.specs.declared.Action.{Action}
use Rattle.event_machine.specs.Runs.{IsRun, end_of}
use Rattle.syn_event.specs.declared.numbering.Mode.{Mode}
use Rattle.syn_event.specs.Legal.{Legal}
use Rattle.syn_event.specs.Numbering.{Numbering}
use Rattle.task_model.specs.Machine.{ProgramWithInputs, rules_of, opening_of, enabled_of}

-- A program that is legal in any mode has fewer than 2^32 tasks.
abbrev pub FewTasks : Type 0
FewTasks = (p : PProgram) (types : TypeTable) (numbers : Numbering) (m : Mode) → Legal p types numbers m → length numbers.tasks < 2 ^ 32

-- It has fewer than 2^32 entries.
abbrev pub FewEntries : Type 0
FewEntries = (p : PProgram) (types : TypeTable) (numbers : Numbering) (m : Mode) → Legal p types numbers m → length numbers.entries < 2 ^ 32

-- Behind each run of such a program, whatever the inputs, fewer than 2^32 actions apply.
abbrev pub FewActions : Type 0
FewActions =
    (setup : ProgramWithInputs) (numbers : Numbering) (m : Mode) → Legal setup.program setup.types numbers m →
    (actions : List Action) → IsRun (rules_of numbers) (opening_of setup numbers).state actions →
    length (enabled_of (record { numbers = numbers; state = end_of (rules_of numbers) (opening_of setup numbers).state actions })) < 2 ^ 32

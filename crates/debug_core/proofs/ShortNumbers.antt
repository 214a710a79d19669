-- The numbers of a legal program have 32 bits, since its limits are low.
use Rattle.ada_tree.specs.PlainProgram.{PProgram}
use Rattle.ada_tree.specs.TypeTable.{TypeTable}
use Rattle.syn_event.specs.declared.numbering.Mode.{Mode}
use Rattle.syn_event.specs.Legal.{Legal}
use Rattle.syn_event.specs.Numbering.{Numbering}
use Rattle.seq_file.specs.Short.{IsShort}
use Rattle.task_laws.proofs.actions.Numbers.{entries_are_few, tasks_are_few}

pub are_short : (p : PProgram) (types : TypeTable) (numbers : Numbering) (m : Mode) → Legal p types numbers m → IsShort numbers
are_short p types numbers m legal = record {
  tasks = tasks_are_few p types numbers m legal;
  entries = entries_are_few p types numbers m legal;
}

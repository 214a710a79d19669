-- Tasks under the names of the bodies that they run, so that the first task that runs a body is found by a name.
use Rattle.std.specs.Prelude.{[], map}
use Rattle.syn_event.specs.declared.numbering.TaskInfo.{TaskInfo}
use Rattle.syn_event.specs.Numbering.{Numbering}

abbrev pub under_unit : TaskInfo → TaskInfo
under_unit info = record { name = info.unit; added = info.added; unit = info.unit; member = info.member }

abbrev pub by_units : Numbering → Numbering
by_units numbers = record { main = numbers.main; tasks = map under_unit numbers.tasks; entries = [] }

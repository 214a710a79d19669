-- What a line of an event comes to (this project's rule).
use Rattle.std.specs.Prelude.{Option, Some, None, if◌then◌else◌}
use Rattle.event_machine.specs.declared.Event.{Event}
use Rattle.syn_event.specs.Numbering.{Numbering}
use Rattle.seq_file.specs.declared.lines.Verdict.{Verdict}
use Rattle.seq_file.specs.declared.lines.Verdict.TheVariants.{Known, BadNumber, BadLine}
use Rattle.seq_file.specs.Known.{is_known}

-- an event with numbers that the program has is read, one with other numbers and a line that writes no event are refused
abbrev pub verdict_of : Numbering → Option Event → Verdict
verdict_of numbers (Some event) = if is_known numbers event then Known event else BadNumber
verdict_of numbers None = BadLine

-- The outcome of writing the text of a program that was made (this project's rules).
use Rattle.std.specs.Prelude.{nat_lt, length, if◌then◌else◌}
use Rattle.ada_tree.specs.PlainProgram.{PProgram}
use Rattle.ada_printer.specs.ProgramText.{program_text}
use Rattle.debug_outcome.specs.files.Wanting.{text_limit}
use Rattle.debug_outcome.specs.Outcomes.{Outcome, writes, refuses}
use Rattle.debug_outcome.specs.declared.refusal.Refusal.TheVariants.{LongText}

-- The text of a program in the layout, which has at most as many bytes as a program that is run; else that limit.
abbrev pub printed_outcome : PProgram → Outcome
printed_outcome p = if nat_lt text_limit (length (program_text p)) then refuses (LongText text_limit) else writes (program_text p) 0

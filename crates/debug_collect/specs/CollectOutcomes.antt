-- What collecting a program comes to: its collecting text, or a limit that is passed (this project's rules).
use Rattle.std.specs.Prelude.{◌≡◌, ◌<◌, ◌≤◌, length, ◌⊎◌}
use Rattle.ada_tree.specs.PlainProgram.{PProgram}
use Rattle.ada_tree.specs.TypeTable.{TypeTable}
use Rattle.ada_tree.specs.WellPlaced.{IsWellPlaced}
use Rattle.ada_static_rules.specs.Refusals.{types_in}
use Rattle.ada_printer.specs.ProgramText.{program_text}
use Rattle.syn_event.specs.declared.numbering.Mode.TheVariants.{Any}
use Rattle.syn_event.specs.Legal.{Legal}
use Rattle.syn_event.specs.Numbering.{Numbering}
use Rattle.collect_model.specs.aborts.Collecting.{collecting_numbers, collecting_tree}
use Rattle.collect_runs.specs.originals.Laws.{CollectsProgram as TextCollects}
use Rattle.text_laws.specs.normal_read_back.Laws.{IsReadAsSame}
use Rattle.debug_outcome.specs.files.Wanting.{text_limit}
use Rattle.debug_outcome.specs.Outcomes.{Outcome, writes, refuses}
use Rattle.debug_outcome.specs.declared.refusal.Refusal.TheVariants.{LongText}

-- The outcome is the text of another program, the collecting text of the program with these types and numbers. That is legal as a text of any kind, with the
-- numbers of the definition. It collects the program with all inputs and whatever the schedule, is read back as the same, and is within its limit.
pub record IsCollected (p : PProgram) (types : TypeTable) (numbers : Numbering) (o : Outcome) : Type 0 where
  pub text : PProgram
  pub is_text : text ≡ collecting_tree p types numbers
  pub placed : IsWellPlaced text
  pub legal : Legal text (types_in text) (collecting_numbers p types numbers) Any
  pub collects : TextCollects p text
  pub read_back : IsReadAsSame text
  pub short : length (program_text text) ≤ text_limit
  pub is : o ≡ writes (program_text text) 0

-- The collecting text has more bytes than a program that is run. The outcome tells the limit.
pub record IsPastLimit (p : PProgram) (types : TypeTable) (numbers : Numbering) (o : Outcome) : Type 0 where
  pub long : text_limit < length (program_text (collecting_tree p types numbers))
  pub is : o ≡ refuses (LongText text_limit)

-- The program calls for this outcome when it is collected.
abbrev pub CollectsProgram : PProgram → TypeTable → Numbering → Outcome → Type 0
CollectsProgram p types numbers o = IsCollected p types numbers o ⊎ IsPastLimit p types numbers o

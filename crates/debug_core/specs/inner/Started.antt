-- What a run or a judgement starts from, and how choices are made, as the code keeps them.
use Rattle.ada_tree.specs.PlainProgram.{plain_program}
use Rattle.ada_tree.specs.WellPlaced.{IsWellPlaced}
use Rattle.syn_event.specs.declared.numbering.Mode.TheVariants.{Original}
use Rattle.syn_event.specs.Legal.{Legal}
use Rattle.task_model.specs.Machine.{ProgramWithInputs}
use Rattle.normal_laws.specs.existence.Laws.{IsLegalOriginal}
use Rattle.debug_core.specs.ChoiceTexts.{Choosing, FromList, FromSeed}
use Rattle.debug_core.specs.declared.choosing.Choosing as code
use Rattle.debug_core.specs.declared.choosing.Choosing.TheVariants as made
use Rattle.debug_core.specs.declared.starting.Start.{Start}

abbrev pub setup_of : Start → ProgramWithInputs
setup_of start = record { program = plain_program start.legal.program; types = start.legal.types; inputs = start.inputs }

-- the program is a legal original that was read
pub record IsOriginal (start : Start) : Type 0 where
  pub placed : IsWellPlaced (plain_program start.legal.program)
  pub legal : Legal (plain_program start.legal.program) start.legal.types start.legal.numbers Original

-- the program is a legal original, as the laws of legal programs ask, with the types and numbers that were found
pub record IsLegalStart (start : Start) : Type 0 where
  pub original : IsLegalOriginal (plain_program start.legal.program)
  pub own : Legal (plain_program start.legal.program) start.legal.types start.legal.numbers Original

abbrev pub choosing_of : code.Choosing → Choosing
choosing_of (made.FromList choices) = FromList choices.items
choosing_of (made.FromSeed seed) = FromSeed seed

-- The example of the controller by itself, as a program that runs without inputs.
use Rattle.std.specs.Prelude.{[]}
use Rattle.ada_static_rules.specs.Declaring.{predefined_types}
use Rattle.task_model.specs.Machine.{ProgramWithInputs}
use Rattle.table_law.specs.Examples.{program}

abbrev pub setup : ProgramWithInputs
setup = record { program = program; types = predefined_types; inputs = [] }

use Rattle.normal_laws.proofs.structure.units.Tasks.{tasks_keep_numbers, entries_keep_formals}
use Rattle.normal_laws.proofs.structure.units.Bodies.{units_are_rewritten}
use Rattle.normal_laws.proofs.structure.units.Declared.{units_are_declared}
use Rattle.normal_laws.proofs.structure.units.Pairs.{names_tell_units}
use Rattle.normal_laws.proofs.structure.units.Examples.{is_met}
use Rattle.normal_laws.proofs.structure.units.laws.Goals as goal

pub returns : goal.returns
returns c = record { declared = units_are_declared; named = names_tell_units; tasks = tasks_keep_numbers; formals = entries_keep_formals; units = units_are_rewritten; met = is_met }

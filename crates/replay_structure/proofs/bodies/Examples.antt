-- A program with an array of tasks meets what is asked.
use Rattle.std.specs.Prelude.{List, drop, refl}
use Rattle.std.specs.Fmt.{digits}
use Rattle.ada_static_rules.specs.Refusals.{types_in}
use Rattle.syn_event.specs.Numbering.{Numbering}
use Rattle.syn_event.specs.AllNumbers.{all_numbers}
use Rattle.control_script.specs.declared.Op.{Op}
use Rattle.normal_laws.proofs.structure.types.Examples.{original, ordered, own}
use Rattle.normal_laws.proofs.structure.numbers.Examples.{none_is_ded}
use Rattle.replay_structure.specs.bodies.Laws.{HasBodies, RunsUnits, IsMet}
use Rattle.replay_structure.proofs.bodies.Programs.{programs_run}

abbrev numbers : Numbering
numbers = all_numbers (types_in original) original

-- both members run the body of their type
has_bodies : HasBodies original (drop 1 numbers.tasks)
has_bodies = (refl, (refl, tt))

runs : (ops : List Op) → RunsUnits original ops
runs ops = programs_run original ops ordered own none_is_ded has_bodies

pub is_met : IsMet
unfolding digits
is_met = (original, record { ordered = ordered; own = own; apart = none_is_ded; bodies = has_bodies; control = refl; idle = refl }, refl)

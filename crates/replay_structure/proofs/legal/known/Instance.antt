-- A program and a whole run of it are as asked.
use Rattle.std.proofs.Common.{◌≡◌, true, refl, lit≤}
use Rattle.std.specs.Fmt.{digits}
use Rattle.std.proofs.lemmas.List.Elements.{All-from_recursion}
use Rattle.syn_event.specs.declared.numbering.Mode.TheVariants.{Original}
use Rattle.syn_event.specs.CheckRefusals.{MeetsCheckRules}
use Rattle.seq_file.specs.Known.{is_known}
use Rattle.normal_laws.specs.structure.placed.Example.{passing}
use Rattle.normal_laws.specs.runs.forms.Normalisable.{numbers_of}
use Rattle.replay_structure.specs.checked.Example.{example_events}
use Rattle.replay_structure.specs.legal.known.Laws.{AreKnown, IsMet}

checks : MeetsCheckRules passing Original
unfolding digits
checks = refl

pub known : AreKnown passing example_events
known = record { each = All-from_recursion (λ e. is_known (numbers_of passing) e ≡ true) example_events (refl, (refl, (refl, (refl, tt)))); few = lit≤ tt }

pub is_met : IsMet
is_met = (checks, known)

-- A program and a whole run of it are as the laws ask.
use Rattle.std.proofs.Common.{refl, lit≤, lit<}
use Rattle.std.specs.List.{AllByRecursion}
use Rattle.std.specs.Fmt.{digits}
use Rattle.ada_static_rules.specs.Refusals.{types_in, MeetsTypeRules}
use Rattle.syn_event.specs.declared.numbering.Mode.TheVariants.{Original}
use Rattle.syn_event.specs.Legal.{Legal}
use Rattle.task_laws.proofs.legal.rewritten_types.Lookups.{place-all}
use Rattle.task_laws.specs.legal.types.Typed.{IsSmall}
use Rattle.normal_laws.specs.structure.placed.Example.{passing}
use Rattle.normal_laws.proofs.structure.placed.Instance.{example_is_placeable}
use Rattle.normal_laws.specs.existence.units.Weights.{IsLight}
use Rattle.normal_laws.specs.runs.forms.Normalisable.{numbers_of}
use Rattle.normal_laws.specs.existence.Laws.{IsLegalOriginal}
use Rattle.normal_laws.proofs.existence.Instance.{IsOther, small-other}
use Rattle.normal_laws.proofs.legality.Places.{places_meet}
use Rattle.replay_structure.specs.checked.Example.{example_events}
use Rattle.replay_structure.proofs.checkable.Instance.{example_is_prepared}
use Rattle.replay_structure.specs.legal.Laws.{text_for, MeetsAtPlaces, IsHeld, IsMet}

-- ---- the program

legal : Legal passing (types_in passing) (numbers_of passing) Original
unfolding digits
legal = record { type_rules = refl; check_rules = refl; its_types = refl; its_numbers = refl }

others : AllByRecursion IsOther (types_in passing).kinds
others = (tt, (tt, tt))

small : IsSmall (types_in passing)
small = record { kinds = λ k x e. small-other k x (place-all IsOther (types_in passing).kinds k x others e) }

light : IsLight passing
light = (lit< tt, (lit< tt, tt))

passing-is-legal : IsLegalOriginal passing
passing-is-legal = record { legal = legal; placed = example_is_placeable.placed; names = example_is_placeable.names; small = small; light = light }

-- ---- its replay text

text-meets : MeetsTypeRules (text_for passing example_events)
unfolding digits
text-meets = refl

meets : MeetsAtPlaces passing example_events
meets = record { kept = record { declared = example_is_prepared.declared; few = example_is_prepared.few_events }; places = (places_meet (text_for passing example_events) text-meets).0 }

held : IsHeld passing example_events
unfolding digits
held = record {
  small = (lit≤ tt, (tt, (tt, (tt, tt))));
  literals = (lit≤ tt, (lit≤ tt, (tt, (lit≤ tt, (tt, (lit≤ tt, (tt, (lit≤ tt, tt))))))));
}

pub is_met : IsMet
is_met = (passing-is-legal, meets, held)

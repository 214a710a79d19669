-- A program is prepared.
use Rattle.std.proofs.Common.{[], ◌∷◌, All, refl}
use Rattle.std.specs.Fmt.{digits}
use Rattle.std.proofs.lemmas.List.Elements.{All-from_recursion}
use Rattle.common_lemmas.proofs.Numbers.{le_is}
use Rattle.ada_tree.specs.Every.{Rules, EveryWord, EveryFormal, EveryEntry, EveryPriority}
use Rattle.syn_event.specs.declared.numbering.Mode.TheVariants.{Any}
use Rattle.syn_event.specs.CheckRefusals.{MeetsCheckRules}
use Rattle.normal_laws.specs.structure.placed.Example.{word, formal, entry, passing}
use Rattle.task_laws.specs.legal.rewritten_values.Values.{old_names}
use Rattle.normal_laws.specs.structure.types.Own.{own_name}
use Rattle.normal_laws.specs.structure.types.Laws.{AreOwn}
use Rattle.replay_structure.specs.checked.Example.{example_events}
use Rattle.replay_structure.proofs.checked.Instance.{declared, named}
use Rattle.replay_structure.specs.checkable.Prepared.{form_for, IsPrepared}

abbrev r : Rules
r = old_names (own_name passing)

formals-own : All (EveryFormal r) (formal ∷ [])
formals-own = All-from_recursion (EveryFormal r) (formal ∷ []) (((tt, All-from_recursion (EveryWord r) (word 28 ∷ []) (refl, tt)), refl), tt)

entries-own : All (EveryEntry r) (entry ∷ [])
entries-own = All-from_recursion (EveryEntry r) (entry ∷ []) ((tt, refl, tt, formals-own), tt)

own : AreOwn passing passing.decls
own = (
  (tt, (refl, entries-own, All-from_recursion (EveryPriority r) [] tt, tt)),
  ((tt, refl, tt, tt, ((tt, (tt, (refl, tt, formals-own), tt), tt), tt, tt)), tt),
)

pub example_meets : MeetsCheckRules (form_for passing).program Any
unfolding digits
example_meets = refl

pub example_is_prepared : IsPrepared passing example_events
unfolding digits
example_is_prepared = record {
  checks = refl;
  ordered = record { rules = refl; last = tt };
  own = own;
  main = refl;
  truth = refl;
  declared = declared;
  named = named;
  untrue = (refl, (tt, (tt, tt)));
  few_tasks = le_is _ 200 refl;
  few_entries = le_is _ 1000 refl;
  apart = (refl, tt);
  few_events = le_is _ 200000 refl;
  few_numbered = le_is _ 201 refl;
}

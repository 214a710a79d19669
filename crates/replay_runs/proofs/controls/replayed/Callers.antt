-- In a sequence that is known for a program the callers of calls are tasks of the program.
use Rattle.std.proofs.Common.{◌≡◌, suc, true, List, length, subst}
use Rattle.std.specs.List.{AllByRecursion}
use Rattle.std.proofs.lemmas.List.Elements.{recursion_from_All}
use Rattle.common_lemmas.proofs.Lists.{all_weaker}
use Rattle.common_lemmas.proofs.Numbers.{lt_is}
use Rattle.common_lemmas.proofs.Truth.{and_left}
use Rattle.event_machine.specs.declared.Event.{Event}
use Rattle.event_machine.specs.declared.Event.TheVariants.{R, E, S, D, C, T, F, X, B, Z}
use Rattle.ada_tree.specs.PlainProgram.{PProgram}
use Rattle.syn_event.specs.Numbering.{Numbering}
use Rattle.seq_file.specs.Known.{is_task, is_known_member, is_known}
use Rattle.normal_laws.specs.runs.forms.Normalisable.{numbers_of}
use Rattle.normal_laws.specs.existence.Laws.{IsLegalOriginal}
use Rattle.replay_structure.specs.legal.known.Laws.{AreKnown}
use Rattle.replay_model.specs.ReplayTree.{last_task}
use Rattle.replay_runs.specs.starts.Laws.{form_in}
use Rattle.replay_runs.proofs.controls.Offers.{as-many-numbers}
use Rattle.replay_runs.proofs.controls.replayed.Backs.{HasCaller}

-- an event that is known for a program has a caller of it
known-caller : (numbers : Numbering) (e : Event) → is_known numbers e ≡ true → HasCaller (length numbers.tasks) e
known-caller numbers (R c e i) k = lt_is c (length numbers.tasks) (and_left (is_task numbers c) (is_known_member numbers e i) k)
known-caller numbers (C c e i) k = lt_is c (length numbers.tasks) (and_left (is_task numbers c) (is_known_member numbers e i) k)
known-caller numbers (T c e i) k = lt_is c (length numbers.tasks) (and_left (is_task numbers c) (is_known_member numbers e i) k)
known-caller numbers (F c e i) k = lt_is c (length numbers.tasks) (and_left (is_task numbers c) (is_known_member numbers e i) k)
known-caller numbers (E a) k = tt
known-caller numbers (S a) k = tt
known-caller numbers (D a n) k = tt
known-caller numbers (X a) k = tt
known-caller numbers (B t v) k = tt
known-caller numbers Z k = tt

-- Of a legal program, and so of its normal form, which has as many tasks, the callers in each sequence that is known are tasks.
pub have_callers : (p : PProgram) (events : List Event) → IsLegalOriginal p → AreKnown p events → AllByRecursion (HasCaller (suc (last_task (form_in p).numbers))) events
have_callers p events h known =
    subst (λ n. AllByRecursion (HasCaller n) events) (as-many-numbers p h)
    (all_weaker (λ (e : Event). is_known (numbers_of p) e ≡ true) (HasCaller (length (numbers_of p).tasks)) events (known-caller (numbers_of p))
    (recursion_from_All (λ (e : Event). is_known (numbers_of p) e ≡ true) events known.each))

-- What is asked is met, by computation: two tasks of a type with one entry, in an array.
use Rattle.std.specs.Prelude.{◌≡◌, ℕ, zero, suc, ◌<◌, Bool, Some, [], ◌∷◌, refl}
use Rattle.std.specs.Fmt.{digits}
use Rattle.std.proofs.Common.{arith}
use Rattle.ada_tree.specs.declared.naming.NameId.{NameId}
use Rattle.ada_static_rules.specs.Refusals.{types_in}
use Rattle.syn_event.specs.Numbering.{entry_named}
use Rattle.syn_event.specs.AllNumbers.{all_numbers}
use Rattle.task_model.specs.Setting.{Setting}
use Rattle.replay_model.specs.Names.{never_text, join_text, added_id}
use Rattle.replay_model.specs.ReplayTree.{last_task, normal_setting}
use Rattle.replay_model.specs.ReplayNumbers.{own_entries, numbers_replayed}
use Rattle.run_laws.proofs.replaying.Twins.{numbering}
use Rattle.normal_laws.proofs.structure.types.Examples.{original, ordered}
use Rattle.replay_structure.specs.typed.ScopeOf.{double_id}
use Rattle.replay_structure.specs.scopes.Names.{old_name}
use Rattle.replay_structure.proofs.spots.Ordered.{normal_is_in_order}
use Rattle.replay_runs.specs.found.Laws.{AreDoublesApart, HasNamesApart, FindsDoubles, FindsMore}
use Rattle.replay_runs.proofs.found.Doubled.{doubles_are_found}
use Rattle.replay_runs.proofs.found.Added.{more_are_found}

abbrev form : Setting
form = normal_setting original (types_in original) (all_numbers (types_in original) original)

abbrev old : ℕ → Bool
old = old_name form.program

-- the entry E
abbrev name : NameId
name = record { 0 = 27 }

first_apart : AreDoublesApart form.program old (own_entries form.numbers 1)
unfolding digits
first_apart = record { named = (refl, tt); added = (refl, tt); never = (refl, tt); join = (refl, tt); apart = ((λ e. refl, tt), tt) }

second_apart : AreDoublesApart form.program old (own_entries form.numbers 2)
unfolding digits
second_apart = record { named = (refl, tt); added = (refl, tt); never = (refl, tt); join = (refl, tt); apart = ((λ e. refl, tt), tt) }

two_tasks : last_task form.numbers ≡ 2
unfolding digits
two_tasks = refl

tasks_apart : (t : ℕ) → t < last_task form.numbers → AreDoublesApart form.program old (own_entries form.numbers (suc t))
tasks_apart zero l = first_apart
tasks_apart (suc zero) l = second_apart
tasks_apart (suc (suc t)) l = absurd (let e = two_tasks in omega (arith, e, l))

-- what is asked is met
apart : HasNamesApart form old
unfolding digits
apart = record { tasks = tasks_apart; new = record { never = refl; join = refl; other = refl } }

finds_doubles : FindsDoubles numbering form
finds_doubles = doubles_are_found numbering form old (normal_is_in_order original ordered) apart

finds_more : FindsMore numbering form
finds_more = more_are_found numbering form old apart

-- the entry of each task with its double and the two more, as look-ups find them
found :
    entry_named (numbers_replayed form) 1 name ∷ entry_named (numbers_replayed form) 1 (double_id form.program name)
    ∷ entry_named (numbers_replayed form) 1 (added_id form.program never_text) ∷ entry_named (numbers_replayed form) 1 (added_id form.program join_text)
    ∷ entry_named (numbers_replayed form) 2 name ∷ entry_named (numbers_replayed form) 2 (double_id form.program name)
    ∷ entry_named (numbers_replayed form) 2 (added_id form.program never_text) ∷ entry_named (numbers_replayed form) 2 (added_id form.program join_text) ∷ []
    ≡ Some 1 ∷ Some 2 ∷ Some 3 ∷ Some 4 ∷ Some 5 ∷ Some 6 ∷ Some 7 ∷ Some 8 ∷ []
unfolding digits
found = refl

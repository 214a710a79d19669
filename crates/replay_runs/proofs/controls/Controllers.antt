-- The controller of a replay text is as the laws of tables ask, and can make the operations of a script.
use Rattle.std.proofs.Common.{◌≡◌, ℕ, zero, suc, ◌+◌, ◌*◌, ◌<◌, ◌≤◌, Bool, true, false, not, cond, take, List, [], ◌∷◌, map, length, option_map, ◌==◌, refl, sym, ap, ◌∙◌, subst, one-add, arith}
use Rattle.std.specs.Prelude.{ℤ, pos, min}
use Rattle.std.specs.List.{AllByRecursion, position_or_len}
use Rattle.std.proofs.lemmas.List.{length-take}
use Rattle.std.proofs.lemmas.List.Elements.{recursion_from_All}
use Rattle.common_lemmas.proofs.Truth.{and_left, and_right}
use Rattle.common_lemmas.proofs.Numbers.{lt_is}
use Rattle.event_machine.specs.declared.Event.{Event}
use Rattle.ada_tree.specs.declared.static_types.Kind.TheVariants.{Integer}
use Rattle.ada_tree.specs.PlainProgram.{PProgram}
use Rattle.ada_static_rules.specs.Declaring.{predefined_types}
use Rattle.ada_static_rules.specs.Refusals.{types_in}
use Rattle.ada_static_rules.specs.Scope.{integer_kind}
use Rattle.ada_value.specs.Values.{limits_of, limits_or}
use Rattle.syn_event.specs.Numbering.{Numbering, entry_at, owner_of}
use Rattle.seq_file.specs.Known.{is_task, is_task_beside_main, is_known}
use Rattle.task_model.specs.Setting.{family_limits}
use Rattle.task_laws.specs.legal.rewritten_types.Agreement.{Grows}
use Rattle.task_laws.proofs.legal.rewritten_types.Lookups.{find-grown}
use Rattle.control_script.specs.declared.Op.{Op}
use Rattle.control_script.specs.declared.Op.TheVariants.{Done, Join}
use Rattle.normal_laws.specs.runs.forms.Normalisable.{numbers_of}
use Rattle.normal_laws.specs.existence.Laws.{IsLegalOriginal}
use Rattle.normal_laws.proofs.existence.variable_types.SubtypeForms.{begins, predefined-mark}
use Rattle.run_laws.specs.replaying.Permits as law
use Rattle.run_laws.specs.replaying.Permits.{ToMeet, ToFinish, ToElse, ToDelay, ToCallElse, ToExpire, ToFail, ToEnd, ToAbort, ToClose}
use Rattle.run_laws.specs.replaying.Copies.{Spots}
use Rattle.replay_model.specs.Names.{go_text, done_text, hold_text, replay_names}
use Rattle.replay_model.specs.Promised.{HasLiteral}
use Rattle.replay_model.specs.ReplayTree.{last_task, script_of}
use Rattle.replay_model.specs.ReplayNumbers.{family_info, numbers_replayed}
use Rattle.replay_model.specs.tables.Columns.{is_hold, acts}
use Rattle.table_law.specs.Controllers.{Controller, Entries, IsController, CanMake, CanMakeAll}
use Rattle.table_law.proofs.Added.{control-there}
use Rattle.table_law.proofs.Apart.{control_names_are_apart}
use Rattle.replay_structure.specs.spots.Laws.{IsThere}
use Rattle.replay_structure.proofs.placed.Scripted.{script-few}
use Rattle.replay_structure.proofs.spots.Looked.{added_are_found}
use Rattle.replay_structure.specs.legal.known.Laws.{AreKnown}
use Rattle.replay_structure.proofs.legal.fits.Counted.{tasks-within}
use Rattle.replay_structure.proofs.legal.known.Known.{known_have_literals}
use Rattle.replay_structure.proofs.legal.names.form_units.Ops.{IsBounded, script-bounded}
use Rattle.replay_runs.specs.starts.Laws.{form_in, text_in}
use Rattle.replay_runs.specs.script.Spelling.{kind, spelled}
use Rattle.replay_runs.proofs.script.Spelled.{spells}
use Rattle.replay_runs.specs.controls.Imitating.{law_script}
use Rattle.replay_runs.specs.controls.Laws.{controller, control_entries, LegalHasController, LegalMakesScript}
use Rattle.replay_runs.proofs.controls.Offers as offers
use Rattle.replay_runs.proofs.controls.Offers.{as-many-numbers}
use Rattle.replay_runs.proofs.controls.Joining.{has-join}

module _ (far : Spots) (p : PProgram) (events : List Event) (input : List ℤ) (h : IsLegalOriginal p) where
  abbrev k : Controller
  k = controller p events input

  abbrev e : Entries
  e = control_entries far p

  abbrev text : PProgram
  text = text_in p events

  abbrev N : Numbering
  N = numbers_replayed (form_in p)

  abbrev last : ℕ
  last = last_task (form_in p).numbers

  -- a family of the controller has a member for each task
  family-range : (spot : ℕ) (name : List ℕ) → IsThere N spot (family_info (form_in p).program (last + 1) name last) → family_limits (entry_at N spot) ≡ record { kind = 0; first = pos 0; last = pos last }
  family-range spot name its = ap family_limits its.at ∙ (λ i. record { kind = 0; first = its.same.first i; last = its.same.last i })

  begins-so : Grows predefined_types (types_in text)
  begins-so = begins text

  is : IsController k e
  is = record {
    apart = control_names_are_apart (replay_names (form_in p).program) (control-there (form_in p).program);
    integer = begins-so.kind integer_kind Integer refl;
    of_kind = ap limits_or (find-grown (λ m. m.kind == integer_kind) predefined_types.marks (types_in text).marks begins-so.mark _ refl);
    of_mark = ap (option_map limits_of) (predefined-mark text (record { 0 = 0 }) _ refl);
    go = record { found = offers.looked far p events h go_text e.go (added_are_found far (form_in p)).go; range = family-range e.go go_text (offers.there far p events h).go };
    done = record { found = offers.looked far p events h done_text e.done (added_are_found far (form_in p)).done; range = family-range e.done done_text (offers.there far p events h).done };
    hold = offers.looked far p events h hold_text e.hold (added_are_found far (form_in p)).hold;
    joins = has-join far p events input h;
    few =
        let l : last ≤ 200 = offers.few far p events h in
        let many : length k.tasks ≡ suc last = refl in
        omega (arith, l, many);
  }

pub legal_has_controller : LegalHasController
legal_has_controller = is

-- ---- the script

-- the kind of a permit is a small number
pub small-kind : (permit : law.Permit) → kind permit ≤ 2147483647
small-kind (ToMeet e i) = omega arith
small-kind ToFinish = omega arith
small-kind ToElse = omega arith
small-kind (ToDelay k) = omega arith
small-kind (ToCallElse e i) = omega arith
small-kind (ToExpire e i) = omega arith
small-kind (ToFail e i) = omega arith
small-kind ToEnd = omega arith
small-kind (ToAbort x) = omega arith
small-kind ToClose = omega arith

-- what is made of operations of which the first does not wait for ever
pub acts-more : (op : Op) (ops : List Op) → is_hold op ≡ false → acts (op ∷ ops) ≡ op ∷ acts ops
acts-more op ops acting =
    ap (λ (b : Bool). take (cond (not b) (1 + position_or_len is_hold ops) 0) (op ∷ ops)) acting ∙ ap (λ (n : ℕ). take n (op ∷ ops)) (one-add (position_or_len is_hold ops))

pub spelled-script : (p : PProgram) (events : List Event) → script_of (numbers_of p) events ≡ map spelled (law_script p events)
spelled-script p events = spells (owner_of (numbers_of p)) (length (numbers_of p).tasks) events

module _ (p : PProgram) (events : List Event) (input : List ℤ) (h : IsLegalOriginal p) where
  abbrev numbers : Numbering
  numbers = numbers_of p

  abbrev its : Controller
  its = controller p events input

  some-tasks : 0 < length numbers.tasks
  some-tasks = let e = as-many-numbers p h in omega (arith, e)

  -- the text has as many of the program's tasks as the program
  within : (t : ℕ) → t < length numbers.tasks → t < length its.tasks
  within t l = subst (λ n. t < n) (as-many-numbers p h) l

  -- the number of a task beside main
  beside : (t : ℕ) → is_task_beside_main numbers t ≡ true → (j : ℕ) × (t ≡ suc j) × (suc j < length its.tasks)
  beside zero b = let none : 0 < 0 = lt_is 0 0 (and_right (is_task numbers 0) _ b) in absurd (omega (arith, none))
  beside (suc j) b = (j, refl, within (suc j) (lt_is (suc j) (length numbers.tasks) (and_left (is_task numbers (suc j)) _ b)))

  -- those that are made can be made, the first of which is such
  one-more : (op : Op) (ops : List Op) → is_hold op ≡ false → CanMake its op → AllByRecursion (CanMake its) (acts ops) → AllByRecursion (CanMake its) (acts (op ∷ ops))
  one-more op ops acting can rest = subst (AllByRecursion (CanMake its)) (sym (acts-more op ops acting)) (can, rest)

  can-make : (ops : List law.Op) → AllByRecursion (IsBounded numbers some-tasks) (map spelled ops) → AllByRecursion HasLiteral (map spelled ops) → AllByRecursion (CanMake its) (acts (map spelled ops))
  can-make [] b l = tt
  can-make (law.Go task permit ∷ ops) b l = one-more (spelled (law.Go task permit)) (map spelled ops) refl (within task b.0.0, small-kind permit, l.0, b.0.1) (can-make ops b.1 l.1)
  can-make (law.Done task ∷ ops) b l = one-more (Done task) (map spelled ops) refl (within task b.0) (can-make ops b.1 l.1)
  can-make (law.Join task ∷ ops) b l = one-more (Join task) (map spelled ops) refl (beside task b.0) (can-make ops b.1 l.1)
  can-make (law.Hold ∷ ops) b l = tt

  makes-script : AreKnown p events → CanMakeAll its (acts (script_of numbers events))
  makes-script known = record {
    each =
        subst (λ ops. AllByRecursion (CanMake its) (acts ops)) (sym (spelled-script p events))
        (can-make (law_script p events)
        (subst (AllByRecursion (IsBounded numbers some-tasks)) (spelled-script p events) (script-bounded numbers some-tasks events (recursion_from_All (λ e. is_known numbers e ≡ true) events known.each)))
        (subst (AllByRecursion HasLiteral) (spelled-script p events) (known_have_literals p events h.legal.check_rules known).1));
    few =
        let ops = script_of numbers events in
        let made : length (acts ops) ≡ min (position_or_len is_hold ops) (length ops) = length-take (position_or_len is_hold ops) ops in
        let whole : length ops ≤ 3 * length events + length numbers.tasks + 1 = script-few (owner_of numbers) (length numbers.tasks) events in
        let tasks : length numbers.tasks ≤ 201 = tasks-within p h.legal.check_rules in
        omega (arith, made, whole, tasks, known.few);
  }

pub legal_makes_script : LegalMakesScript
legal_makes_script = makes-script

-- What the idle task offers, and where the entries of both tasks are found.
use Rattle.std.proofs.Common.{◌≡◌, ℕ, ◌+◌, ◌≤◌, Bool, if◌then◌else◌, List, [], ◌∷◌, length, Some, unwrap_or, refl, sym, ap, ◌∙◌, subst, arith}
use Rattle.std.specs.Prelude.{pos, suc, ◌&&◌, int_le, Ok, Err}
use Rattle.std.proofs.lemmas.Bool.{le-leb}
use Rattle.std.proofs.lemmas.List.{length-map}
use Rattle.event_machine.specs.declared.Choice.TheVariants.{Accept, Terminate}
use Rattle.event_machine.specs.declared.Event.{Event}
use Rattle.event_machine.specs.Offers.{Waits}
use Rattle.ada_tree.specs.declared.naming.Span.{Span}
use Rattle.ada_tree.specs.PlainExpr.{EInteger}
use Rattle.ada_tree.specs.PlainDecl.{PTask}
use Rattle.ada_tree.specs.PlainProgram.{PProgram}
use Rattle.ada_static_rules.specs.Refusals.{types_in}
use Rattle.ada_value.specs.declared.values.Value.TheVariants.{Number}
use Rattle.ada_value.specs.declared.values.Raised.TheVariants as raised
use Rattle.ada_value.specs.Values.{and_then, position_of}
use Rattle.ada_value.specs.Variables.{Variables}
use Rattle.ada_value.specs.Evaluating.{evaluated}
use Rattle.syn_event.specs.declared.numbering.EntryInfo.{EntryInfo}
use Rattle.syn_event.specs.Numbering.{entry_at, entry_named}
use Rattle.syn_event.specs.AllNumbers.{all_numbers}
use Rattle.syn_event.specs.AddedNames.{task_info}
use Rattle.syn_event.specs.NamedTasks.{numbered_tasks}
use Rattle.syn_event.specs.DeclaredTasks.{tasks_of}
use Rattle.task_model.specs.Setting.{Setting, entry_of, family_limits, index_in, member_index}
use Rattle.normal_laws.specs.runs.forms.Normalisable.{setting_for, made_for}
use Rattle.normal_laws.proofs.structure.numbers.Tasked.{under, normal-tasks-of}
use Rattle.normal_laws.specs.existence.Laws.{IsLegalOriginal}
use Rattle.normal_laws.proofs.legality.checks.Facts as facts
use Rattle.replay_structure.proofs.legal.fits.Counted.{tasks-within}
use Rattle.run_laws.specs.replaying.Copies.{Spots}
use Rattle.replay_model.specs.Names.{rest_text, added_id}
use Rattle.replay_model.specs.ReplayTree.{last_task}
use Rattle.replay_model.specs.ReplayNumbers.{numbers_replayed}
use Rattle.replay_structure.specs.spots.Places.{text_spots}
use Rattle.replay_structure.specs.spots.Laws.{AreThere}
use Rattle.replay_structure.proofs.spots.Placed.{spots_are_there}
use Rattle.replay_structure.proofs.spots.Looked.{added_are_found}
use Rattle.replay_structure.proofs.spots.Ordered.{normal_is_in_order}
use Rattle.replay_runs.specs.starts.Laws.{form_in}
use Rattle.replay_runs.specs.starts.Formals.{text_setting}
use Rattle.replay_runs.specs.controls.Laws.{control_number, IdleWaits}

-- ---- an index

-- a number of INTEGER is its own value
number-is : (types : _) (vars : Variables) (n : ℕ) (s : Span) → n ≤ 2147483647 → evaluated types vars (EInteger n s) ≡ Ok (Number (pos n))
number-is types vars n s h = ap (λ (b : Bool). if b then Ok (Number (pos n)) else Err raised.Numeric) (le-leb n 2147483647 h)

-- one that a family has is its index
pub index-is : (g : Setting) (vars : Variables) (e n last : ℕ) (s : Span) (x : EntryInfo) → entry_at g.numbers e ≡ Some x → x.first ≡ pos 0 → x.last ≡ pos last → n ≤ last → n ≤ 2147483647 →
    member_index g vars e (Some (EInteger n s)) ≡ Ok (pos n)
index-is g vars e n last s x at first its_last l h =
    ap (λ r. and_then r (λ v. index_in (family_limits (entry_at g.numbers e)) (position_of v))) (number-is g.types vars n s h)
    ∙ ap (λ o. index_in (family_limits o) (pos n)) at
    ∙ ap (λ z. if int_le z (pos n) && int_le (pos n) x.last then Ok (pos n) else Err raised.Constraint) first
    ∙ ap (λ z. if int_le (pos 0) (pos n) && int_le (pos n) z then Ok (pos n) else Err raised.Constraint) its_last
    ∙ ap (λ (b : Bool). if b && int_le (pos n) (pos last) then Ok (pos n) else Err raised.Constraint) (le-leb 0 n (omega arith))
    ∙ ap (λ (b : Bool). if b then Ok (pos n) else Err raised.Constraint) (le-leb n last l)

-- ---- the idle task

pub idle_waits : IdleWaits
idle_waits far p events input =
    let g = form_in p in
    let e : last_task g.numbers + 2 ≡ suc (control_number p) = omega arith in
    let found : entry_named (numbers_replayed g) (suc (control_number p)) (added_id g.program rest_text) ≡ Some (text_spots far g).rest =
    subst (λ n. entry_named (numbers_replayed g) n (added_id g.program rest_text) ≡ Some (text_spots far g).rest) e (added_are_found far g).rest in
    record { rests = refl; offers = ap (λ o. Waits (Accept (unwrap_or o 0) (pos 0) ∷ Terminate ∷ [])) found }

-- ---- how many tasks there are

module _ (p : PProgram) (h : IsLegalOriginal p) where
  -- the last task of the normal form has the number of the program's last task
  pub as-many-tasks : last_task (form_in p).numbers ≡ length (numbered_tasks (types_in p) p)
  as-many-tasks =
      length-map (tasks_of (made_for p)) (λ (t : PTask). task_info (made_for p).names t.name.name)
      ∙ ap length (normal-tasks-of p (types_in p) (facts.ordered p h))
      ∙ length-map (numbered_tasks (types_in p) p) (under (setting_for p))

  pub as-many-numbers : length (all_numbers (types_in p) p).tasks ≡ suc (last_task (form_in p).numbers)
  as-many-numbers = ap (λ n. suc n) (length-map (numbered_tasks (types_in p) p) _ ∙ sym as-many-tasks)

-- ---- the controller of a legal program

module _ (far : Spots) (p : PProgram) (events : List Event) (h : IsLegalOriginal p) where
  abbrev pub g : Setting
  g = form_in p

  abbrev pub x : Setting
  x = text_setting p events

  abbrev pub last : ℕ
  last = last_task g.numbers

  abbrev pub spots : Spots
  spots = text_spots far g

  -- a legal program has few tasks
  pub few : last ≤ 200
  few =
      let three : length (all_numbers (types_in p) p).tasks ≤ 201 = tasks-within p h.legal.check_rules in
      omega (arith, as-many-numbers p h, three)

  pub there : AreThere far g
  there = spots_are_there far g (normal_is_in_order p (facts.ordered p h))

  -- its entries are found by their names
  pub looked : (text : List ℕ) (spot : ℕ) → entry_named x.numbers (last + 1) (added_id g.program text) ≡ Some spot → entry_of x.numbers (control_number p) (added_id g.program text) ≡ spot
  looked text spot found =
      let e : last + 1 ≡ control_number p = omega arith in
      ap (λ o. unwrap_or o 0) (subst (λ n. entry_named x.numbers n (added_id g.program text) ≡ Some spot) e found)

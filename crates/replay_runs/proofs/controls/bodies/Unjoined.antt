-- No task of a replay text accepts a DED_JOIN.
use Rattle.std.proofs.Common.{◌≡◌, ℕ, zero, suc, ◌+◌, ◌<◌, ◌≤◌, ◌==◌, Bool, true, false, List, [], length, Some, None, unwrap_or, slice_get, get_or, if◌then◌else◌, ◌⊎◌, inl, inr, refl, sym, ap, ◌∙◌, subst, ne_eqb, arith}
use Rattle.std.specs.Prelude.{ℤ}
use Rattle.std.proofs.lemmas.Bool.{eqb-true}
use Rattle.std.proofs.lemmas.Bool.Decides.{nat_tests}
use Rattle.std.proofs.lemmas.Option.{slice_get_cases, slice_get_past, slice_get_within}
use Rattle.event_machine.specs.declared.Event.{Event}
use Rattle.ada_tree.specs.declared.naming.NameId.{NameId}
use Rattle.ada_tree.specs.declared.naming.Span.{Span}
use Rattle.ada_tree.specs.PlainStmt.{PHead, accepting, alternative, AAccept, ADelay, ATerminate, PAlts, no_alt, alt_then, PBody}
use Rattle.ada_tree.specs.PlainProgram.{PProgram}
use Rattle.ada_static_rules.specs.Refusals.{types_in}
use Rattle.syn_event.specs.declared.numbering.TaskInfo.{TaskInfo}
use Rattle.syn_event.specs.AllNumbers.{all_numbers}
use Rattle.syn_event.specs.Numbering.{Numbering, task_at, entry_named}
use Rattle.task_model.specs.Setting.{Setting, entry_of}
use Rattle.task_model.specs.Starting.{Unit, no_unit, unit_of, unit_of_info}
use Rattle.task_laws.specs.invariants.AcceptHeads as heads
use Rattle.task_laws.specs.statements.Each as each
use Rattle.normal_model.specs.NormalTree.{unit_for}
use Rattle.normal_model.specs.RewrittenUnit.{RewrittenUnit}
use Rattle.normal_laws.specs.existence.Laws.{IsLegalOriginal}
use Rattle.run_laws.specs.replaying.Copies.{Spots, Sort, AtOriginal, AtShadow, AtGo, AtDone, AtHold, AtJoin, AtNever, AtStop, AtRest, AtNothing, IsNumbered}
use Rattle.replay_model.specs.Names.{never_text, go_text, done_text, hold_text, rest_text, added_id}
use Rattle.replay_model.specs.ReplayTree.{last_task, script_of}
use Rattle.replay_model.specs.ReplayNumbers.{numbers_replayed}
use Rattle.replay_model.specs.ReplayStmts.{replay_body}
use Rattle.replay_model.specs.Controlling.{control_ids}
use Rattle.table_law.specs.runs.Permits.{IsNoJoin, AcceptsNoJoin}
use Rattle.replay_structure.specs.asked.Pieces.{never_head}
use Rattle.replay_structure.specs.bodies.Laws.{RunsUnits}
use Rattle.replay_structure.specs.spots.Places.{text_spots}
use Rattle.replay_structure.proofs.spots.Sorted.{spots_are_numbered}
use Rattle.replay_structure.proofs.spots.Looked.{added_are_found, entries_are_found}
use Rattle.replay_structure.proofs.spots.Ordered.{normal_is_in_order}
use Rattle.replay_runs.specs.starts.Laws.{form_in, text_in}
use Rattle.replay_runs.proofs.starts.Bodies.{legal_runs}
use Rattle.replay_runs.proofs.found.Legal as facts
use Rattle.replay_runs.proofs.found.Legal.{legal_more_are_found}
use Rattle.replay_runs.specs.controls.formed.Laws.{IsHeadFormed, AreHeadsFormed, IsFormed}
use Rattle.replay_runs.proofs.controls.formed.Bodies.{legal_bodies_are_formed}
use Rattle.replay_runs.specs.controls.Laws.{control_number, controller, control_entries}
use Rattle.replay_runs.specs.controls.bodies.Laws.{LegalTasksJoinNobody}
use Rattle.replay_runs.proofs.controls.Offers as offers
use Rattle.replay_runs.proofs.controls.replayed.Numbers.{text-tasks}
use Rattle.replay_runs.proofs.controls.bodies.Walked.{HeadsOf, in-unit}
use Rattle.replay_runs.proofs.controls.bodies.Spread.{spread}
use Rattle.replay_runs.proofs.controls.bodies.Controlled.{in-control}

-- what stands at an entry by which a task is seen closed
abbrev is_join : Sort → Bool
is_join (AtJoin t) = true
is_join (AtOriginal e) = false
is_join (AtShadow e) = false
is_join AtGo = false
is_join AtDone = false
is_join AtHold = false
is_join (AtNever t) = false
is_join AtStop = false
is_join AtRest = false
is_join AtNothing = false

module _ (far : Spots) (many : IsNumbered far) (p : PProgram) (events : List Event) (input : List ℤ) (h : IsLegalOriginal p) where
  abbrev g : Setting
  g = form_in p

  abbrev N : Numbering
  N = numbers_replayed g

  abbrev n : Spots
  n = text_spots far g

  abbrev NoJoin : ℕ → PHead → Type 0
  NoJoin t = IsNoJoin (controller p events input) (control_entries far p) t

  numbered : IsNumbered n
  numbered = spots_are_numbered far many _

  -- an entry of another sort is none
  differs : (e : ℕ) → is_join (n.sort e) ≡ false → (j : ℕ) → (e == n.join j) ≡ false
  differs e other j = ne_eqb e (n.join j) (λ same. let clash : false ≡ true = sym other ∙ ap (λ (k : ℕ). is_join (n.sort k)) same ∙ ap is_join (numbered.join j) in cc)

  -- nor is what is found by a name
  found-differs : (t : ℕ) (name : NameId) (e : ℕ) → entry_of N t name ≡ e → is_join (n.sort e) ≡ false → (j : ℕ) → (entry_of N t name == n.join j) ≡ false
  found-differs t name e found other j = ap (λ (k : ℕ). k == n.join j) found ∙ differs e other j

  -- ---- the tasks of the program

  own-head : (t : ℕ) (head : PHead) → IsHeadFormed p t head → NoJoin t head
  own-head t head formed j l =
      found-differs t head.entry.name (n.original formed.entry.entry)
      (ap (λ o. unwrap_or o 0) (entries_are_found far g (normal_is_in_order p (facts.ordered p h)) t head.entry.name formed.entry.entry formed.entry.found)) (ap is_join (numbered.original formed.entry.entry)) j

  own-heads : (t : ℕ) (alts : PAlts) → AreHeadsFormed p t alts → HeadsOf (NoJoin t) alts
  own-heads t no_alt formed = tt
  own-heads t (alt_then (alternative guard (AAccept (accepting head o) l) s) rest) formed = (own-head t head formed.0, own-heads t rest formed.1)
  own-heads t (alt_then (alternative guard (ADelay d l) s) rest) formed = own-heads t rest formed
  own-heads t (alt_then (alternative guard ATerminate s) rest) formed = own-heads t rest formed

  never-there : (t : ℕ) (name : NameId) (s : Span) → 1 ≤ t → t ≤ last_task g.numbers → NoJoin t (never_head (unit_for g name) s)
  never-there zero name s low high j l = absurd (omega (arith, low))
  never-there (suc t) name s low high j l =
      found-differs (suc t) (added_id g.program never_text) (n.never (suc t)) (ap (λ o. unwrap_or o 0) ((legal_more_are_found far p h).never t (omega (arith, high)))) (ap is_join (numbered.never (suc t))) j

  -- the body of a task of the program, rewritten for whichever unit
  own-body : (t : ℕ) (u : RewrittenUnit) (s : Span) (b : PBody) → u.setting ≡ g → t ≤ last_task g.numbers → each.InBody (IsFormed p t) [] b → heads.InBody (NoJoin t) (replay_body u s b)
  own-body t u s b is l formed =
      in-unit (NoJoin t) u (IsFormed p t) (λ loops head o p k. own-head t head k)
      (λ loops alts o p k. (own-heads t alts k.heads, λ q. subst (λ (x : Setting). NoJoin t (never_head (record { setting = x; task = u.task }) q)) (sym is) (never-there t (record { 0 = 0 }) q k.beside l)))
      s b formed

  -- ---- units

  abbrev text : PProgram
  text = text_in p events

  abbrev unit_at : ℕ → Unit
  unit_at t = unit_of text N t

  abbrev BodyIs : ℕ → PBody → Type 0
  BodyIs t b = heads.InBody (NoJoin t) b

  -- a unit that is another one
  as-unit : (t : ℕ) (u : Unit) → unit_at t ≡ u → BodyIs t u.body → BodyIs t (unit_at t).body
  as-unit t u is its = subst (λ (x : Unit). BodyIs t x.body) (sym is) its

  formed : (t : ℕ) → each.InBody (IsFormed p t) [] (unit_of g.program g.numbers t).body
  formed = legal_bodies_are_formed p h

  runs : RunsUnits p (script_of (all_numbers (types_in p) p) events)
  runs = legal_runs p (script_of (all_numbers (types_in p) p) events) h

  -- a task beside main that the numbers of the normal form have
  own-unit : (t : ℕ) (info : TaskInfo) → task_at g.numbers (suc t) ≡ Some info → BodyIs (suc t) (unit_at (suc t)).body
  own-unit t info at =
      let run = runs.own t info at in
      let within : suc t < length g.numbers.tasks = slice_get_within g.numbers.tasks (suc t) info at in
      let size : length g.numbers.tasks ≡ suc (last_task g.numbers) = refl in
      as-unit (suc t) _ run.1 (own-body (suc t) (unit_for g info.unit) run.0 _ refl (omega (arith, within, size)) (formed (suc t)))

  -- the controller and the idle task
  control-unit : BodyIs (control_number p) (unit_at (control_number p)).body
  control-unit =
      as-unit (control_number p) _ runs.added.control
      (in-control (NoJoin (control_number p)) (control_ids g.program) g.numbers.tasks g.program.name.span
      (λ j l. found-differs (control_number p) (added_id g.program go_text) n.go (offers.looked far p events h go_text n.go (added_are_found far g).go) (ap is_join numbered.go) j)
      (λ j l. found-differs (control_number p) (added_id g.program done_text) n.done (offers.looked far p events h done_text n.done (added_are_found far g).done) (ap is_join numbered.done) j)
      (λ j l. found-differs (control_number p) (added_id g.program hold_text) n.hold (offers.looked far p events h hold_text n.hold (added_are_found far g).hold) (ap is_join numbered.hold) j)
      (script_of (all_numbers (types_in p) p) events))

  idle-found : entry_of N (suc (control_number p)) (added_id g.program rest_text) ≡ n.rest
  idle-found =
      let e : last_task g.numbers + 2 ≡ suc (control_number p) = omega arith in
      ap (λ o. unwrap_or o 0) (subst (λ (t : ℕ). entry_named N t (added_id g.program rest_text) ≡ Some n.rest) e (added_are_found far g).rest)

  idle-unit : BodyIs (suc (control_number p)) (unit_at (suc (control_number p))).body
  idle-unit =
      as-unit (suc (control_number p)) _ runs.added.idle
      (((((((λ j l. found-differs (suc (control_number p)) (added_id g.program rest_text) n.rest idle-found (ap is_join numbered.rest) j), tt), tt), (tt, tt)), tt), tt), tt)

  -- the unit of a task beside main
  beside-main : (t : ℕ) → unit_at (suc t) ≡ unit_of_info text (task_at N (suc t))
  beside-main t = ap (λ (b : Bool). if b then record { in_main = true; decls = text.decls; body = text.body } else unit_of_info text (task_at N (suc t))) (ne_eqb (suc t) 0 (λ e. omega (arith, e)))

  -- what stands behind the tasks of the program
  behind : (t : ℕ) → control_number p ≤ suc t → BodyIs (suc t) (unit_at (suc t)).body
  behind t low = by_control (suc t == control_number p) refl
    where
      by_idle : (b : Bool) → (suc t == suc (control_number p)) ≡ b → (suc t == control_number p) ≡ false → BodyIs (suc t) (unit_at (suc t)).body
      by_idle true e f = subst (λ (k : ℕ). BodyIs k (unit_at k).body) (sym (eqb-true (suc t) (suc (control_number p)) e)) idle-unit
      by_idle false e f =
          let many : length N.tasks ≡ suc (suc (control_number p)) = text-tasks p in
          let high : length N.tasks ≤ suc t = grind (arith, nat_tests) in
          as-unit (suc t) no_unit (beside-main t ∙ ap (unit_of_info text) (slice_get_past N.tasks (suc t) high)) (tt, tt)

      by_control : (b : Bool) → (suc t == control_number p) ≡ b → BodyIs (suc t) (unit_at (suc t)).body
      by_control true e = subst (λ (k : ℕ). BodyIs k (unit_at k).body) (sym (eqb-true (suc t) (control_number p) e)) control-unit
      by_control false e = by_idle (suc t == suc (control_number p)) refl e

  -- a task beside main, by what the numbers of the normal form have
  beside : (t : ℕ) → BodyIs (suc t) (unit_at (suc t)).body
  beside t = by_place (slice_get_cases g.numbers.tasks (suc t)).1
    where
      by_place : ((info : TaskInfo) × (suc t < length g.numbers.tasks) × (slice_get g.numbers.tasks (suc t) ≡ Some info) × (get_or g.numbers.tasks (suc t) info ≡ info)) ⊎ ((length g.numbers.tasks ≤ suc t) × (slice_get g.numbers.tasks (suc t) ≡ None)) →
          BodyIs (suc t) (unit_at (suc t)).body
      by_place (inl x) = own-unit t x.0 x.2
      by_place (inr x) = let size : length g.numbers.tasks ≡ control_number p = refl in behind t (omega (arith, x.0, size))

  all-units : (t : ℕ) → BodyIs t (unit_at t).body
  all-units zero = own-body zero _ g.program.name.span g.program.body refl (omega arith) (formed zero)
  all-units (suc t) = beside t

  no-join : (t : ℕ) → each.InBody (AcceptsNoJoin (controller p events input) (control_entries far p) t) [] (unit_of text N t).body
  no-join t = spread (NoJoin t) [] (unit_at t).body (all-units t)

pub legal_tasks_join_nobody : LegalTasksJoinNobody
legal_tasks_join_nobody = no-join

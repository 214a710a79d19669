-- What the tasks of a replay text ask of the two tasks that it adds.
use Rattle.std.proofs.Common.{◌≡◌, ℕ, suc, ◌+◌, ◌≤◌, ◌==◌, Bool, true, false, List, [], ◌∷◌, ◌++◌, length, map, position, unwrap_or, pred, Option, Some, None, if◌then◌else◌, refl, sym, ap, ap₂, ◌∙◌, subst, arith}
use Rattle.std.specs.Prelude.{ℤ, pos, Result, Ok, Err}
use Rattle.std.specs.List.{AllByRecursion}
use Rattle.std.proofs.lemmas.List.{append_assoc, length_push}
use Rattle.std.proofs.lemmas.Bool.{le-leb}
use Rattle.common_lemmas.proofs.Lists.{found_none, texts_differ}
use Rattle.common_lemmas.proofs.Numbers.{equal_self}
use Rattle.ada_static_rules.proofs.found_twice.FirstOfTwo.{position_push}
use Rattle.event_machine.specs.declared.CallForm.TheVariants.{Plain}
use Rattle.event_machine.specs.declared.Event.{Event}
use Rattle.event_machine.specs.Offers.{Calls}
use Rattle.ada_tree.specs.declared.naming.NameId.{NameId}
use Rattle.ada_tree.specs.declared.naming.Span.{Span}
use Rattle.ada_static_rules.specs.StaticValue.{first_of_two, is_integer_value}
use Rattle.ada_tree.specs.PlainExpr.{PExpr, EInteger, EName}
use Rattle.ada_tree.specs.PlainStmt.{PArgs, PCall, PStmts, stmt_then}
use Rattle.ada_tree.specs.PlainDecl.{PTask}
use Rattle.ada_tree.specs.PlainProgram.{PProgram}
use Rattle.ada_value.specs.declared.values.Value.{Value}
use Rattle.ada_value.specs.declared.values.Value.TheVariants.{Number}
use Rattle.ada_value.specs.declared.values.Raised.{Raised}
use Rattle.ada_value.specs.declared.values.Raised.TheVariants as raised
use Rattle.ada_value.specs.Values.{and_then, integer_limits, lower_bound}
use Rattle.ada_value.specs.Variables.{Variables, checked_for, set_value}
use Rattle.syn_event.specs.declared.numbering.TaskInfo.{TaskInfo}
use Rattle.syn_event.specs.Numbering.{entry_named, task_named}
use Rattle.syn_event.specs.AddedNames.{task_info}
use Rattle.syn_event.specs.DeclaredTasks.{tasks_of}
use Rattle.task_model.specs.declared.parameters.FormalParameter.{FormalParameter}
use Rattle.task_model.specs.Setting.{Setting, Lists, lists_in, lists_of, is_family_in, entry_of, entry_parameters}
use Rattle.task_model.specs.Calls.{Called, Copies, called, called_with, copied_back, copies_on, openings, stored_back}
use Rattle.task_model.specs.Tasks.{Task, gone_to}
use Rattle.task_model.specs.Rendezvous.{resumed, resumed_with, pending_of, finals_of, come_back, copies_of, call_ended}
use Rattle.task_model.specs.Stands.{call_stand, steps_at, offered}
use Rattle.normal_model.specs.RewrittenUnit.{RewrittenUnit}
use Rattle.normal_laws.specs.runs.floors.Preludes.{IsCell}
use Rattle.normal_laws.proofs.runs.floors.Cells.{named-set_other, cell-set, cell-kept}
use Rattle.normal_laws.specs.existence.Laws.{IsLegalOriginal}
use Rattle.normal_laws.proofs.existence.seen_tasks.Finding.{no-place-passes}
use Rattle.normal_laws.proofs.legality.numbers.Numbered.{none_legal_is_ded}
use Rattle.normal_laws.proofs.legality.checks.Facts as facts
use Rattle.normal_laws.proofs.structure.numbers.Named.{Has, IsReserved, reserved-added}
use Rattle.run_laws.specs.replaying.Copies.{Spots}
use Rattle.replay_model.specs.Names.{added_texts, kind_text, argument_text, index_text, control_text, go_text, done_text, idle_text, stop_text, replay_names, added_id, added_word}
use Rattle.replay_model.specs.Asking.{ask, done, permit_part}
use Rattle.replay_model.specs.ReplayTree.{last_task}
use Rattle.replay_model.specs.ReplayNumbers.{family_info, numbers_replayed}
use Rattle.replay_structure.proofs.texts.Rooted.{ids-apart, replay-has}
use Rattle.replay_structure.specs.spots.Places.{text_spots}
use Rattle.replay_structure.specs.spots.Laws.{IsThere, AreThere}
use Rattle.replay_structure.proofs.spots.Looked.{added_are_found}
use Rattle.replay_runs.specs.starts.Laws.{form_in}
use Rattle.replay_runs.specs.starts.Formals.{HaveFormals, text_setting, number_given, permit_parameters}
use Rattle.replay_runs.proofs.starts.Formals.{reserved-turned, none-named}
use Rattle.replay_runs.proofs.starts.Legal.{legal_has_formals}
use Rattle.replay_runs.specs.translation.Floors.{IsNumberVariable, HasPermit}
use Rattle.replay_runs.proofs.translation.Floors.{permit-any}
use Rattle.replay_runs.specs.controls.Laws.{control_number}
use Rattle.replay_runs.specs.controls.Asking.{unit_of_task, Surroundings, with_next, having, permit_stored, HoldsPermit, LegalAsksController}
use Rattle.replay_runs.proofs.controls.Offers as offers

-- ---- the two tasks are found by their names

module _ (p : PProgram) (events : List Event) (h : IsLegalOriginal p) where
  abbrev g : Setting
  g = form_in p

  abbrev id : List ℕ → NameId
  id text = added_id g.program text

  abbrev is_named : NameId → TaskInfo → Bool
  is_named name i = i.name.0 == name.0

  infos-apart : (name : NameId) (ts : List PTask) → AllByRecursion (λ (t : PTask). (t.name.name.0 == name.0) ≡ false) ts →
      AllByRecursion (λ (i : TaskInfo). is_named name i ≡ false) (map (λ (t : PTask). task_info g.program.names t.name.name) ts)
  infos-apart name [] k = tt
  infos-apart name (t ∷ ts) k = (k.0, infos-apart name ts k.1)

  none-before : (t : List ℕ) → Has added_texts t → IsReserved t → position (is_named (id t)) g.numbers.tasks ≡ None
  none-before t a r =
      let has : Has (replay_names g.program) t = replay-has g.program t a in
      let own = (facts.olds p h).2 in
      let ded = none_legal_is_ded p _ _ h.legal h.placed in
      no-place-passes (is_named (id t)) g.numbers.tasks
      (found_none (is_named (id t)) g.numbers.tasks (
        reserved-turned p events (facts.ordered p h) own ded h.names t p.name.name has r (facts.olds p h).0,
        infos-apart (id t) (tasks_of g.program) (none-named p events (facts.ordered p h) own ded h.names t (reserved-added (replay_names g.program) t has r)),
      ))

  abbrev control_info : TaskInfo
  control_info = task_info (replay_names g.program) (id control_text)

  abbrev idle_info : TaskInfo
  idle_info = task_info (replay_names g.program) (id idle_text)

  -- how many tasks there are before these two
  before-two : length g.numbers.tasks ≡ control_number p
  before-two = as-many (task_info g.program.names g.program.name.name) (map (λ (t : PTask). task_info g.program.names t.name.name) (tasks_of g.program))
    where
      as-many : (x : TaskInfo) (xs : List TaskInfo) → length (x ∷ xs) ≡ suc (pred (length (x ∷ xs)))
      as-many x xs = refl

  -- who is none of the first may be one of the two behind them
  found-last : (test : TaskInfo → Bool) (a b : Bool) → position test g.numbers.tasks ≡ None → test control_info ≡ a → test idle_info ≡ b →
      position test (g.numbers.tasks ++ control_info ∷ idle_info ∷ []) ≡ first_of_two (if a then Some (control_number p) else None) (if b then Some (suc (control_number p)) else None)
  found-last test a b none one two =
      let xs : List TaskInfo = g.numbers.tasks in
      let e : length xs + 1 ≡ suc (control_number p) = omega (arith, before-two) in
      let first : position test (xs ++ control_info ∷ []) ≡ (if a then Some (control_number p) else None) =
      (position_push test xs control_info ∙ ap (λ o. first_of_two o (if test control_info then Some (length xs) else None)) none ∙ ap₂ (λ (t : Bool) n. if t then Some n else None) one before-two) in
      ap (position test) (sym (append_assoc xs (control_info ∷ []) (idle_info ∷ []))) ∙ position_push test (xs ++ control_info ∷ []) idle_info
      ∙ ap₂ (λ o n. first_of_two o (if test idle_info then Some n else None)) first (length_push xs control_info ∙ e)
      ∙ ap (λ (t : Bool). first_of_two (if a then Some (control_number p) else None) (if t then Some (suc (control_number p)) else None)) two

  control-found : task_named (numbers_replayed g) (id control_text) ≡ Some (control_number p)
  control-found = found-last (is_named (id control_text)) true (is_named (id control_text) idle_info) (none-before control_text refl refl) (equal_self (id control_text).0) refl

  idle-found : task_named (numbers_replayed g) (id idle_text) ≡ Some (suc (control_number p))
  idle-found =
      found-last (is_named (id idle_text)) false true (none-before idle_text refl refl) (ids-apart g.program control_text idle_text refl refl (texts_differ control_text idle_text refl)) (equal_self (id idle_text).0)

-- the task that is found by a name
abbrev found_task : Option ℕ → Result ℕ Raised
found_task o = Ok (unwrap_or o 0)

-- ---- the calls

module _ (far : Spots) (p : PProgram) (events : List Event) (t : ℕ) (h : IsLegalOriginal p) (l : t ≤ last_task (form_in p).numbers) (V : Variables) (s : Span) where
  abbrev x : Setting
  x = text_setting p events

  abbrev spots : Spots
  spots = text_spots far (form_in p)

  abbrev numbered : List PExpr → Lists
  numbered actuals = record { index = Some (EInteger t s); actuals = actuals }

  -- a call of a family of the controller, by the task's number
  family-called : (text : List ℕ) (spot : ℕ) → entry_named x.numbers (last_task (form_in p).numbers + 1) (id p events h text) ≡ Some spot →
      IsThere x.numbers spot (family_info (form_in p).program (last_task (form_in p).numbers + 1) text (last_task (form_in p).numbers)) → (second : Option (List PExpr)) (fs : List FormalParameter) → entry_parameters x spot ≡ fs →
      (vs : List Value) → openings x.types V fs (unwrap_or second []) ≡ Ok vs →
      called x V (record {
        task = record { name = added_word (form_in p).program s control_text; index = None };
        entry = added_word (form_in p).program s text;
        args = Some record { first = EInteger t s ∷ []; second = second };
      }) ≡ Ok record { entry = spot; index = pos t; values = vs }
  family-called text spot found its second fs formals vs opened =
      let args : PArgs = record { first = EInteger t s ∷ []; second = second } in
      ap (λ o. and_then (found_task o) (λ owner. called_with x V (entry_of x.numbers owner (id p events h text)) (lists_of x.numbers (entry_of x.numbers owner (id p events h text)) (Some args)))) (control-found p events h)
      ∙ ap (λ e. called_with x V e (lists_of x.numbers e (Some args))) (offers.looked far p events h text spot found)
      ∙ ap (λ b. called_with x V spot (lists_in b args)) (ap is_family_in its.at ∙ its.same.family)
      ∙ ap (λ (r : Result ℤ Raised). and_then r (λ i. and_then (openings x.types V (entry_parameters x spot) (unwrap_or second [])) (λ ws. Ok record { entry = spot; index = i; values = ws })))
      (offers.index-is x V spot t (last_task (form_in p).numbers) s its.found its.at its.same.first its.same.last l (let few = offers.few far p events h in omega (arith, few, l)))
      ∙ ap (λ (f : List FormalParameter). and_then (openings x.types V f (unwrap_or second [])) (λ ws. Ok record { entry = spot; index = pos t; values = ws })) formals
      ∙ ap (λ (r : Result (List Value) Raised). and_then r (λ ws. Ok record { entry = spot; index = pos t; values = ws })) opened

  -- the actuals of a call that asks, and the formals' values as it opens
  abbrev parts : List PExpr
  parts = EName (id p events h kind_text) s ∷ EName (id p events h argument_text) s ∷ EName (id p events h index_text) s ∷ []

  abbrev lowest : Value
  lowest = lower_bound x.types integer_limits

  abbrev has_formals : HaveFormals p events far
  has_formals = legal_has_formals p events far h

  abbrev there : AreThere far (form_in p)
  there = offers.there far p events h

  ask-called : called x V (record {
    task = record { name = added_word (form_in p).program s control_text; index = None };
    entry = added_word (form_in p).program s go_text;
    args = Some record { first = EInteger t s ∷ []; second = Some parts };
  }) ≡ Ok record { entry = spots.go; index = pos t; values = lowest ∷ lowest ∷ lowest ∷ [] }
  ask-called = family-called go_text spots.go (added_are_found far (form_in p)).go there.go (Some parts) (permit_parameters (form_in p).program) has_formals.go (lowest ∷ lowest ∷ lowest ∷ []) refl

  done-called : called x V (record {
    task = record { name = added_word (form_in p).program s control_text; index = None };
    entry = added_word (form_in p).program s done_text;
    args = Some record { first = EInteger t s ∷ []; second = None };
  }) ≡ Ok record { entry = spots.done; index = pos t; values = [] }
  done-called = family-called done_text spots.done (added_are_found far (form_in p)).done there.done None [] has_formals.done [] refl

  stop-called : called x V (record {
    task = record { name = added_word (form_in p).program s idle_text; index = None };
    entry = added_word (form_in p).program s stop_text;
    args = None;
  }) ≡ Ok record { entry = spots.stop; index = pos 0; values = [] }
  stop-called =
      let none : Lists = record { index = None; actuals = [] } in
      ap (λ o. and_then (found_task o) (λ owner. called_with x V (entry_of x.numbers owner (id p events h stop_text)) none)) (idle-found p events h)
      ∙ ap (λ e. called_with x V e none) (idle-entry spots.stop (added_are_found far (form_in p)).stop)
      ∙ ap (λ (f : List FormalParameter). and_then (openings x.types V f []) (λ ws. Ok record { entry = spots.stop; index = pos 0; values = ws })) has_formals.stop
    where
      idle-entry : (spot : ℕ) → entry_named x.numbers (last_task (form_in p).numbers + 2) (id p events h stop_text) ≡ Some spot → entry_of x.numbers (suc (control_number p)) (id p events h stop_text) ≡ spot
      idle-entry spot found =
          let e : last_task (form_in p).numbers + 2 ≡ suc (control_number p) = omega arith in
          ap (λ o. unwrap_or o 0) (subst (λ n. entry_named x.numbers n (id p events h stop_text) ≡ Some spot) e found)

  -- ---- what comes back

  -- a number of INTEGER goes to a variable of INTEGER
  stored : (name : NameId) (W : Variables) (z : ℤ) → is_integer_value z ≡ true → IsNumberVariable name W → stored_back W (Some name) (Number z) ≡ Ok (set_value W name 0 (Number z))
  stored name W z fits its =
      ap (λ o. and_then (checked_for o (Number z)) (λ w. Ok (set_value W name 0 w))) its.1.found
      ∙ ap (λ (b : Bool). and_then (if b then Ok (Number z) else Err raised.Constraint) (λ w. Ok (set_value W name 0 w))) fits

  -- the variables as the three numbers are stored, one after the other
  abbrev first : ℕ → Variables
  first k = set_value V (id p events h kind_text) 0 (Number (pos k))

  abbrev second : ℕ → ℕ → Variables
  second k a = set_value (first k) (id p events h argument_text) 0 (Number (pos a))

  three-back : (k a : ℕ) (i : ℤ) → HasPermit (unit_of_task p t) V → k ≤ 2147483647 → a ≤ 2147483647 → is_integer_value i ≡ true →
      copied_back (permit_parameters (form_in p).program) parts (Number (pos k) ∷ Number (pos a) ∷ Number i ∷ []) V ≡ record { vars = permit_stored p V k a i; stopped = None }
  three-back k a i has few_k few_a fits =
      let one = permit-any (unit_of_task p t) V (id p events h kind_text) 0 (Number (pos k)) has in
      let two = permit-any (unit_of_task p t) (first k) (id p events h argument_text) 0 (Number (pos a)) one in
      ap (λ r. copies_on (λ changed. copied_back (number_given (id p events h argument_text) ∷ number_given (id p events h index_text) ∷ []) (EName (id p events h argument_text) s ∷ EName (id p events h index_text) s ∷ []) (Number (pos a) ∷ Number i ∷ []) changed) V r)
      (stored (id p events h kind_text) V (pos k) (le-leb k 2147483647 few_k) has.kind)
      ∙ ap (λ r. copies_on (λ changed. copied_back (number_given (id p events h index_text) ∷ []) (EName (id p events h index_text) s ∷ []) (Number i ∷ []) changed) (first k) r)
      (stored (id p events h argument_text) (first k) (pos a) (le-leb a 2147483647 few_a) one.argument)
      ∙ ap (λ r. copies_on (λ changed. record { vars = changed; stopped = None }) (second k a) r) (stored (id p events h index_text) (second k a) i fits two.index)

-- ---- the numbers are there

module _ (p : PProgram) (t : ℕ) (V : Variables) (k a : ℕ) (i : ℤ) (has : HasPermit (unit_of_task p t) V) where
  abbrev its : List ℕ → NameId
  its text = added_id (form_in p).program text

  abbrev one : Variables
  one = set_value V (its kind_text) 0 (Number (pos k))

  abbrev two : Variables
  two = set_value one (its argument_text) 0 (Number (pos a))

  abbrev three : Variables
  three = set_value two (its index_text) 0 (Number i)

  -- a variable of the permit stays as it is where another one is assigned to
  other-kept : (W : Variables) (name other : NameId) (v w : Value) → (other.0 == name.0) ≡ false → IsCell W name integer_limits v → IsCell (set_value W other 0 w) name integer_limits v
  other-kept W name other v w e c = cell-kept W (set_value W other 0 w) name integer_limits v (named-set_other W other 0 w name e) c

  permit-held : HoldsPermit p (permit_stored p V k a i) k a i
  permit-held = record {
    kind =
        other-kept two (its kind_text) (its index_text) (Number (pos k)) (Number i) (ids-apart (form_in p).program index_text kind_text refl refl (texts_differ index_text kind_text refl))
        (other-kept one (its kind_text) (its argument_text) (Number (pos k)) (Number (pos a)) (ids-apart (form_in p).program argument_text kind_text refl refl (texts_differ argument_text kind_text refl))
        (cell-set V (its kind_text) integer_limits has.kind.0 (Number (pos k)) has.kind.1));
    argument =
        let before = other-kept V (its argument_text) (its kind_text) has.argument.0 (Number (pos k)) (ids-apart (form_in p).program kind_text argument_text refl refl (texts_differ kind_text argument_text refl)) has.argument.1 in
        other-kept two (its argument_text) (its index_text) (Number (pos a)) (Number i) (ids-apart (form_in p).program index_text argument_text refl refl (texts_differ index_text argument_text refl))
        (cell-set one (its argument_text) integer_limits has.argument.0 (Number (pos a)) before);
    index =
        let before = other-kept V (its index_text) (its kind_text) has.index.0 (Number (pos k)) (ids-apart (form_in p).program kind_text index_text refl refl (texts_differ kind_text index_text refl)) has.index.1 in
        cell-set two (its index_text) integer_limits has.index.0 (Number i)
        (other-kept one (its index_text) (its argument_text) has.index.0 (Number (pos a)) (ids-apart (form_in p).program argument_text index_text refl refl (texts_differ argument_text index_text refl)) before);
  }

module _ (far : Spots) (p : PProgram) (events : List Event) (t : ℕ) (h : IsLegalOriginal p) (l : t ≤ last_task (form_in p).numbers) (s : Span) (r : PStmts) (rest : Surroundings) where
  abbrev text : Setting
  text = text_setting p events

  abbrev asking : Task
  asking = with_next p events (stmt_then (ask (unit_of_task p t) s) r) rest

  abbrev saying : Task
  saying = with_next p events (stmt_then (done (unit_of_task p t) s) r) rest

  offers-call : (c : Result Called Raised) (e : ℕ) (i : ℤ) (vs : List Value) → c ≡ Ok record { entry = e; index = i; values = vs } → (steps_at (call_stand Plain c) ≡ false) × (offered (call_stand Plain c) ≡ Calls Plain e i)
  offers-call c e i vs is = (ap (λ (q : Result Called Raised). steps_at (call_stand Plain q)) is, ap (λ (q : Result Called Raised). offered (call_stand Plain q)) is)

  permitted : (j : Task) (k a : ℕ) (i : ℤ) → HasPermit (unit_of_task p t) rest.vars → k ≤ 2147483647 → a ≤ 2147483647 → is_integer_value i ≡ true → pending_of j ≡ None → finals_of j ≡ Number (pos k) ∷ Number (pos a) ∷ Number i ∷ [] →
      resumed j asking ≡ gone_to r (with_next p events (stmt_then (ask (unit_of_task p t) s) r) (having rest (permit_stored p rest.vars k a i)))
  permitted j k a i has few_k few_a fits pending finals =
      let vs : List Value = Number (pos k) ∷ Number (pos a) ∷ Number i ∷ [] in
      let back : copies_of asking vs ≡ record { vars = permit_stored p rest.vars k a i; stopped = None } =
      (ap (λ (c : Result Called Raised). call_ended asking (call_of_ask (unit_of_task p t) s) c vs) (ask-called far p events t h l rest.vars s)
      ∙ ap (λ (fs : List FormalParameter). copied_back fs (lists_of text.numbers (spots far p events t h l rest.vars s).go (Some (ask_args (unit_of_task p t) s))).actuals vs rest.vars) (has_formals far p events t h l rest.vars s).go
      ∙ ap (λ b. copied_back (permit_parameters (form_in p).program) (lists_in b (ask_args (unit_of_task p t) s)).actuals vs rest.vars) (ap is_family_in (there far p events t h l rest.vars s).go.at ∙ (there far p events t h l rest.vars s).go.same.family)
      ∙ three-back far p events t h l rest.vars s k a i has few_k few_a fits) in
      ap₂ (λ o ws. resumed_with o ws asking) pending finals ∙ ap (λ (c : Copies). come_back asking c c.stopped) back
    where
      ask_args : RewrittenUnit → Span → PArgs
      ask_args u q = record { first = EInteger u.task q ∷ []; second = Some (permit_part u q kind_text ∷ permit_part u q argument_text ∷ permit_part u q index_text ∷ []) }

      call_of_ask : RewrittenUnit → Span → PCall
      call_of_ask u q = record { task = record { name = added_word u.setting.program q control_text; index = None }; entry = added_word u.setting.program q go_text; args = Some (ask_args u q) }

  answered : (j : Task) → pending_of j ≡ None → finals_of j ≡ [] → resumed j saying ≡ gone_to r saying
  answered j pending finals =
      let args : PArgs = record { first = EInteger t s ∷ []; second = None } in
      let call : PCall = record { task = record { name = added_word (form_in p).program s control_text; index = None }; entry = added_word (form_in p).program s done_text; args = Some args } in
      let back : copies_of saying [] ≡ record { vars = rest.vars; stopped = None } =
      (ap (λ (c : Result Called Raised). call_ended saying call c []) (done-called far p events t h l rest.vars s)
      ∙ ap (λ (fs : List FormalParameter). copied_back fs (lists_of text.numbers (spots far p events t h l rest.vars s).done (Some args)).actuals [] rest.vars) (has_formals far p events t h l rest.vars s).done) in
      ap₂ (λ o ws. resumed_with o ws saying) pending finals ∙ ap (λ (c : Copies). come_back saying c c.stopped) back

pub legal_asks_controller : LegalAsksController
legal_asks_controller far p events t h l = record {
  asks = λ s r x. let o = offers-call far p events t h l s r x _ _ _ _ (ask-called far p events t h l x.vars s) in record { rests = o.0; offers = o.1 };
  says = λ s r x. let o = offers-call far p events t h l s r x _ _ _ _ (done-called far p events t h l x.vars s) in record { rests = o.0; offers = o.1 };
  stops = λ s r x. let o = offers-call far p events t h l s r x _ _ _ _ (stop-called far p events t h l x.vars s) in record { rests = o.0; offers = o.1 };
  permitted = λ s r x j k a i has few_k few_a fits pending finals. permitted far p events t h l s r x j k a i has few_k few_a fits pending finals;
  holds = λ V k a i has. permit-held p t V k a i has;
  answered = λ s r x j pending finals. answered far p events t h l s r x j pending finals;
}

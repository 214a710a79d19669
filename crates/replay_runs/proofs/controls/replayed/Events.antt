-- The tasks and entries of the events that a program has are its own, or its entry is none.
use Rattle.std.proofs.Common.{◌≡◌, ℕ, suc, ℤ, ◌+◌, ◌<◌, ◌≤◌, ◌==◌, ◌&&◌, nat_lt, Bool, true, false, not, cond, List, [], ◌∷◌, length, position, Option, Some, None, option_map, unwrap_or, ok_or, Result, Ok, Err, ◌⊎◌, inl, inr, ⊎_elim, refl, sym, ap, ◌∙◌, subst, arith}
use Rattle.std.specs.Ordering.{int_eq}
use Rattle.std.specs.List.{AllByRecursion, position_or_len}
use Rattle.std.proofs.lemmas.Bool.{cases_lt, ltb-true, eqb-true}
use Rattle.std.proofs.lemmas.Option.{none-some}
use Rattle.common_lemmas.proofs.Lists.{element_at}
use Rattle.common_lemmas.proofs.Options.{some_same}
use Rattle.common_lemmas.proofs.Truth.{and_left, and_right, clash}
use Rattle.event_machine.specs.declared.CallForm.{CallForm}
use Rattle.event_machine.specs.declared.CallForm.TheVariants.{Plain, Conditional, Timed}
use Rattle.event_machine.specs.declared.Event.{Event}
use Rattle.event_machine.specs.declared.Event.TheVariants.{R, E, S, D, C, T, F, X, B, Z}
use Rattle.event_machine.specs.declared.Standing.{Standing}
use Rattle.event_machine.specs.declared.Standing.TheVariants.{Live, Waiting, Queued, Served, Completed, Killed}
use Rattle.event_machine.specs.declared.Choice.{Choice}
use Rattle.event_machine.specs.Offers.{Offer, calls_in, waits_with, same_member, is_any_form, is_conditional, is_timed, is_finish, is_end, is_else, is_delay}
use Rattle.event_machine.specs.States.{Seat, State, is_live, is_closed, is_completed}
use Rattle.event_machine.specs.Lawful.{IsLawful}
use Rattle.event_machine.specs.Programs.{Program, numbered, IsOpening}
use Rattle.event_machine.specs.Runs.{Feasible}
use Rattle.event_machine.specs.Soundness.{IsSound}
use Rattle.event_machine.specs.Worlds.{World, world_of, happens, offers, aborts}
use Rattle.event_machine.specs.Settling.{Fires, Leads, run_on}
use Rattle.event_machine.proofs.Bases.{IsBase, base_fires, sound_found}
use Rattle.event_machine.proofs.Reaching.{start_base}
use Rattle.event_machine.proofs.Resting.{feasible_leads}
use Rattle.ada_tree.specs.declared.naming.NameId.{NameId}
use Rattle.ada_tree.specs.PlainExpr.{PExpr}
use Rattle.ada_tree.specs.PlainStmt.{PCall, PCallee, PStmt, SNull, SAssign, SDelay, SExit, SRaise, SAbort, SCall, SAccept, SWait, SConditional, STimed, SPut, SPutLine, SNewLine, SGet, SIf, SCase, SBlock, SLoop, PStmts, no_stmt, stmt_then}
use Rattle.ada_value.specs.declared.values.Raised.{Raised}
use Rattle.ada_value.specs.declared.values.Raised.TheVariants as raised
use Rattle.ada_value.specs.Values.{and_then, position_of}
use Rattle.ada_value.specs.Variables.{Variables}
use Rattle.ada_value.specs.Evaluating.{evaluated}
use Rattle.syn_event.specs.declared.numbering.EntryInfo.{EntryInfo}
use Rattle.syn_event.specs.declared.numbering.TaskInfo.{TaskInfo}
use Rattle.syn_event.specs.Numbering.{Numbering, entry_at, task_named}
use Rattle.task_laws.proofs.invariants.Variables.{ok_path, err_ok, chain}
use Rattle.task_model.specs.Setting.{Setting, member_named, is_member, task_meant, callee_task, entry_of, member_index, entry_parameters, Lists, lists_of}
use Rattle.task_model.specs.Frames.{Around, OwnBody, Block, Handling, Loop, Opened}
use Rattle.task_model.specs.Tasks.{Task, rest_of, place_of, vars_of}
use Rattle.task_model.specs.Calls.{Called, openings, called_with, called}
use Rattle.task_model.specs.Waits.{Open, choices_of, is_present, open_at}
use Rattle.task_model.specs.Stands.{Stand, call_stand, choices_stand, wait_stand, name_stand, abort_stand, stand_at, stand_behind, stand_with, offered, offer_of}
use Rattle.task_model.specs.TaskOps.{task_ops}
use Rattle.task_model.specs.Laws.{IsProper}
use Rattle.task_model.proofs.Lawful.{lawful}
use Rattle.replay_structure.proofs.spots.Placed.{entry-suc}
use Rattle.replay_runs.proofs.controls.replayed.Settings.{stepped-same, accepted-same, finished-same, resumed-same, failed-same, else-same, delay-same, passed-same}

-- the number is that of an entry, or 0, which none has
abbrev pub HasEntry : Numbering → ℕ → Type 0
HasEntry N e = (e ≡ 0) ⊎ ((info : EntryInfo) × (entry_at N e ≡ Some info))

-- The tasks of the event are below that number, and its entry is one of the numbers.
abbrev pub IsIn : Numbering → ℕ → Event → Type 0
IsIn N n (R c e i) = (c < n) × HasEntry N e
IsIn N n (E a) = a < n
IsIn N n (S a) = a < n
IsIn N n (D a k) = a < n
IsIn N n (C c e i) = (c < n) × HasEntry N e
IsIn N n (T c e i) = (c < n) × HasEntry N e
IsIn N n (F c e i) = (c < n) × HasEntry N e
IsIn N n (X a) = a < n
IsIn N n (B t x) = (t < n) × (x < n)
IsIn N n Z = Unit {0}

-- ---- look-ups

-- where the first of a list is found
found-within : {A : Type 0} (p : A → Bool) (xs : List A) (k : ℕ) → position p xs ≡ Some k → k < length xs
found-within p xs k e = by_test (nat_lt (position_or_len p xs) (length xs)) refl e
  where
    by_test : (b : Bool) → nat_lt (position_or_len p xs) (length xs) ≡ b → cond b (Some (position_or_len p xs)) None ≡ Some k → k < length xs
    by_test true t f = subst (λ n. n < length xs) (some_same f) (ltb-true (position_or_len p xs) (length xs) t)
    by_test false t f = absurd (none-some k f)

entry-there : (N : Numbering) (owner : ℕ) (name : NameId) → HasEntry N (entry_of N owner name)
entry-there N owner name = by_place (position (λ info. (info.owner == owner) && (info.name.0 == name.0)) N.entries) (λ k e. found-within (λ info. (info.owner == owner) && (info.name.0 == name.0)) N.entries k e)
  where
    at : (k : ℕ) → k < length N.entries → (info : EntryInfo) × (entry_at N (k + 1) ≡ Some info)
    at k l =
        let f = element_at N.entries k l in
        (f.0, subst (λ n. entry_at N n ≡ Some f.0) (let e : suc k ≡ k + 1 = omega arith in e) (entry-suc N k ∙ f.1))

    by_place : (o : Option ℕ) → ((k : ℕ) → o ≡ Some k → k < length N.entries) → HasEntry N (unwrap_or (option_map (λ k. k + 1) o) 0)
    by_place None h = inl refl
    by_place (Some k) h = inr (at k (h k refl))

-- ---- offers

module _ (t : Task) where
  abbrev N : Numbering
  N = t.setting.numbers

  -- what is called has such an entry
  with-entry : (g : Setting) (vars : Variables) (e : ℕ) (lists : Lists) (c : Called) → called_with g vars e lists ≡ Ok c → c.entry ≡ e
  with-entry g vars e lists c q =
      let d = chain (member_index g vars e lists.index) (λ i. and_then (openings g.types vars (entry_parameters g e) lists.actuals) (λ vs. Ok record { entry = e; index = i; values = vs })) c q in
      let f = chain (openings g.types vars (entry_parameters g e) lists.actuals) (λ vs. Ok record { entry = e; index = d.value; values = vs }) c d.rest in
      ap (λ (x : Called). x.entry) (sym (ok_path f.rest))

  called-entry : (call : PCall) (c : Called) → called t.setting (vars_of t) call ≡ Ok c → HasEntry N c.entry
  called-entry call c q =
      let d = chain (callee_task t.setting (vars_of t) call.task) (λ owner. called_with t.setting (vars_of t) (entry_of N owner call.entry.name) (lists_of N (entry_of N owner call.entry.name) call.args)) c q in
      subst (HasEntry N) (sym (with-entry t.setting (vars_of t) (entry_of N d.value call.entry.name) (lists_of N (entry_of N d.value call.entry.name) call.args) c d.rest)) (entry-there N d.value call.entry.name)

  module _ (test : CallForm → Bool) (e : ℕ) (i : ℤ) where
    abbrev CallsIt : Stand → Type 0
    CallsIt s = calls_in test e i (offered s) ≡ true

    of-call : (form : CallForm) (call : PCall) (r : Result Called Raised) → called t.setting (vars_of t) call ≡ r → CallsIt (call_stand form r) → HasEntry N e
    of-call form call (Ok c) q h =
        let same : (e == c.entry) ≡ true = and_left (e == c.entry) (int_eq i c.index) (and_right (test form) (same_member e i c.entry c.index) h) in
        subst (HasEntry N) (sym (eqb-true e c.entry same)) (called-entry call c q)
    of-call form call (Err x) q h = clash h

    of-choices : (choices : List Choice) → CallsIt (choices_stand choices) → HasEntry N e
    of-choices [] h = clash h
    of-choices (c ∷ choices) h = clash h

    of-wait : (has_else : Bool) (r : Result (List Open) Raised) → CallsIt (wait_stand has_else r) → HasEntry N e
    of-wait has_else (Ok all) h = of-choices (choices_of has_else all) h
    of-wait has_else (Err x) h = clash h

    of-name : (r : Result ℕ Raised) → CallsIt (name_stand r) → HasEntry N e
    of-name (Ok x) h = clash h
    of-name (Err x) h = clash h

    of-abort : (callees : List PCallee) → CallsIt (abort_stand t callees) → HasEntry N e
    of-abort [] h = clash h
    of-abort (callee ∷ callees) h = of-name (callee_task t.setting (vars_of t) callee) h

    of-stmt : (s : PStmt) → CallsIt (stand_at t s) → HasEntry N e
    of-stmt (SCall call s) h = of-call Plain call (called t.setting (vars_of t) call) refl h
    of-stmt (SConditional call more otherwise s) h = of-call Conditional call (called t.setting (vars_of t) call) refl h
    of-stmt (STimed call more duration after s) h = of-call Timed call (called t.setting (vars_of t) call) refl h
    of-stmt (SAccept accept s) h = of-wait false (open_at t (SAccept accept s)) h
    of-stmt (SWait alts otherwise s) h = of-wait (is_present otherwise) (open_at t (SWait alts otherwise s)) h
    of-stmt (SAbort callees s) h = of-abort callees h
    of-stmt (SNull s) h = clash h
    of-stmt (SAssign target x s) h = clash h
    of-stmt (SDelay duration s) h = clash h
    of-stmt (SExit w x s) h = clash h
    of-stmt (SRaise w s) h = clash h
    of-stmt (SPut parts s) h = clash h
    of-stmt (SPutLine parts s) h = clash h
    of-stmt (SNewLine s) h = clash h
    of-stmt (SGet target s) h = clash h
    of-stmt (SIf arms otherwise s) h = clash h
    of-stmt (SCase x arms others s) h = clash h
    of-stmt (SBlock b s) h = clash h
    of-stmt (SLoop name scheme stmts s) h = clash h

    of-end : (place : Around) → CallsIt (stand_behind place) → HasEntry N e
    of-end (OwnBody handlers taken) h = clash h
    of-end (Block handlers) h = clash h
    of-end (Handling x) h = clash h
    of-end (Loop name turns stmts) h = clash h
    of-end (Opened caller formals pending) h = clash h

    -- a task calls an entry of the numbers
    pub calls-there : calls_in test e i (offer_of t) ≡ true → HasEntry N e
    calls-there h = by_rest (rest_of t) h
      where
        by_rest : (rest : PStmts) → CallsIt (stand_with t rest (place_of t)) → HasEntry N e
        by_rest no_stmt k = of-end (place_of t) k
        by_rest (stmt_then s rest) k = of-stmt s k

  module _ (x : ℕ) (main : 0 < length t.setting.numbers.tasks) where
    abbrev AbortsIt : Stand → Type 0
    AbortsIt s = aborts x (offered s) ≡ true

    -- the task that a callee names
    named-within : (name : NameId) (o : Option ℕ) → task_named N name ≡ o → unwrap_or o 0 < length N.tasks
    named-within name None q = main
    named-within name (Some k) q = found-within (λ (info : TaskInfo). info.name.0 == name.0) N.tasks k q

    member-within : (name : NameId) (z : ℤ) (y : ℕ) → member_named N name z ≡ Ok y → y < length N.tasks
    member-within name z y q = by_place (position (λ (info : TaskInfo). (info.name.0 == name.0) && is_member z info.member) N.tasks) refl q
      where
        by_place : (o : Option ℕ) → position (λ (info : TaskInfo). (info.name.0 == name.0) && is_member z info.member) N.tasks ≡ o → ok_or o raised.Constraint ≡ Ok y → y < length N.tasks
        by_place None f g = absurd (err_ok g)
        by_place (Some k) f g = subst (λ n. n < length N.tasks) (ok_path g) (found-within (λ (info : TaskInfo). (info.name.0 == name.0) && is_member z info.member) N.tasks k f)

    meant-within : (name : NameId) (index : Option PExpr) (y : ℕ) → task_meant t.setting (vars_of t) name index ≡ Ok y → y < length N.tasks
    meant-within name None y q = subst (λ n. n < length N.tasks) (ok_path q) (named-within name (task_named N name) refl)
    meant-within name (Some e) y q = let c = chain (evaluated t.setting.types (vars_of t) e) (λ v. member_named N name (position_of v)) y q in member-within name (position_of c.value) y c.rest

    aborts-name : (callee : PCallee) (r : Result ℕ Raised) → callee_task t.setting (vars_of t) callee ≡ r → AbortsIt (name_stand r) → x < length N.tasks
    aborts-name callee (Ok y) q h = subst (λ n. n < length N.tasks) (sym (eqb-true x y h)) (meant-within callee.name.name callee.index y q)
    aborts-name callee (Err y) q h = clash h

    aborts-call : (form : CallForm) (r : Result Called Raised) → AbortsIt (call_stand form r) → x < length N.tasks
    aborts-call form (Ok c) h = clash h
    aborts-call form (Err y) h = clash h

    aborts-choices : (choices : List Choice) → AbortsIt (choices_stand choices) → x < length N.tasks
    aborts-choices [] h = clash h
    aborts-choices (c ∷ choices) h = clash h

    aborts-wait : (has_else : Bool) (r : Result (List Open) Raised) → AbortsIt (wait_stand has_else r) → x < length N.tasks
    aborts-wait has_else (Ok all) h = aborts-choices (choices_of has_else all) h
    aborts-wait has_else (Err y) h = clash h

    aborts-abort : (callees : List PCallee) → AbortsIt (abort_stand t callees) → x < length N.tasks
    aborts-abort [] h = clash h
    aborts-abort (callee ∷ callees) h = aborts-name callee (callee_task t.setting (vars_of t) callee) refl h

    aborts-stmt : (s : PStmt) → AbortsIt (stand_at t s) → x < length N.tasks
    aborts-stmt (SCall call s) h = aborts-call Plain (called t.setting (vars_of t) call) h
    aborts-stmt (SConditional call more otherwise s) h = aborts-call Conditional (called t.setting (vars_of t) call) h
    aborts-stmt (STimed call more duration after s) h = aborts-call Timed (called t.setting (vars_of t) call) h
    aborts-stmt (SAccept accept s) h = aborts-wait false (open_at t (SAccept accept s)) h
    aborts-stmt (SWait alts otherwise s) h = aborts-wait (is_present otherwise) (open_at t (SWait alts otherwise s)) h
    aborts-stmt (SAbort callees s) h = aborts-abort callees h
    aborts-stmt (SNull s) h = clash h
    aborts-stmt (SAssign target y s) h = clash h
    aborts-stmt (SDelay duration s) h = clash h
    aborts-stmt (SExit w y s) h = clash h
    aborts-stmt (SRaise w s) h = clash h
    aborts-stmt (SPut parts s) h = clash h
    aborts-stmt (SPutLine parts s) h = clash h
    aborts-stmt (SNewLine s) h = clash h
    aborts-stmt (SGet target s) h = clash h
    aborts-stmt (SIf arms otherwise s) h = clash h
    aborts-stmt (SCase y arms others s) h = clash h
    aborts-stmt (SBlock b s) h = clash h
    aborts-stmt (SLoop name scheme stmts s) h = clash h

    aborts-end : (place : Around) → AbortsIt (stand_behind place) → x < length N.tasks
    aborts-end (OwnBody handlers taken) h = clash h
    aborts-end (Block handlers) h = clash h
    aborts-end (Handling y) h = clash h
    aborts-end (Loop name turns stmts) h = clash h
    aborts-end (Opened caller formals pending) h = clash h

    -- a task aborts a task of the numbers
    pub aborts-there : aborts x (offer_of t) ≡ true → x < length N.tasks
    aborts-there h = by_rest (rest_of t) h
      where
        by_rest : (rest : PStmts) → AbortsIt (stand_with t rest (place_of t)) → x < length N.tasks
        by_rest no_stmt k = aborts-end (place_of t) k
        by_rest (stmt_then s rest) k = aborts-stmt s k

-- ---- tasks of one program

module _ (g : Setting) where
  -- a proper task that reads this program
  abbrev pub IsOne : Task → Type 0
  IsOne t = IsProper t × (t.setting ≡ g)

  pub one-lawful : IsLawful task_ops IsOne
  one-lawful = record {
    rests = lawful.rests;
    stepped = λ l h c. let k = lawful.stepped l h.0 c in ((k.0, stepped-same l ∙ h.1), k.1);
    resumed = λ a l i h. let k = lawful.resumed a l i.0 h.0 in ((k.0, resumed-same a l ∙ h.1), k.1);
    raised = λ l h. let k = lawful.raised l h.0 in ((k.0, failed-same l ∙ h.1), k.1);
    took_else = λ l h. let k = lawful.took_else l h.0 in ((k.0, else-same l ∙ h.1), k.1);
    took_delay = λ n l h. let k = lawful.took_delay n l h.0 in ((k.0, delay-same n l ∙ h.1), k.1);
    passed = λ l h. let k = lawful.passed l h.0 in ((k.0, passed-same l ∙ h.1), k.1);
    accepted = λ e i c caller l j h w. let k = lawful.accepted e i c caller l j.0 h.0 w in ((k.0, accepted-same e i c caller l ∙ h.1), k.1);
    finished = λ l h f. let k = lawful.finished l h.0 f in (k.0, (k.1, finished-same l ∙ h.1), k.2);
    ended = λ l h e. lawful.ended l h.0 e;
  }

  module _ (owner : ℕ → ℕ) (n : ℕ) (size : n ≡ length g.numbers.tasks) (main : 0 < length g.numbers.tasks) where
    abbrev p : Program Task
    p = record { ops = task_ops; owner = owner; size = n }

    -- ---- one event

    live-open : (z : Standing) → is_live z ≡ true → is_closed z ≡ false
    live-open Live h = refl
    live-open Waiting h = clash h
    live-open Queued h = clash h
    live-open (Served by abnormal) h = clash h
    live-open Completed h = clash h
    live-open Killed h = clash h

    live-over : (z : Standing) → is_live z ≡ true → is_completed z ≡ true → ⊥
    live-over Live h k = clash k
    live-over Waiting h k = clash h
    live-over Queued h k = clash h
    live-over (Served by abnormal) h k = clash h
    live-over Completed h k = clash h
    live-over Killed h k = clash h

    module _ (tasks : ℕ → Seat Task) (sound : IsSound task_ops IsOne tasks) (beyond : (t : ℕ) → n ≤ t → is_completed (tasks t).standing ≡ true) where
      below : (a : ℕ) (test : Offer → Bool) → offers task_ops test (tasks a) ≡ true → a < n
      below a test h = ⊎_elim (λ (l : a < n). l) (λ (l : n ≤ a). absurd (live-over (tasks a).standing (and_left (is_live (tasks a).standing) (test (offer_of (tasks a).local)) h) (beyond a l))) (cases_lt a n)

      reads : (a : ℕ) (test : Offer → Bool) → offers task_ops test (tasks a) ≡ true → (tasks a).local.setting ≡ g
      reads a test h = (sound.proper a (live-open (tasks a).standing (and_left (is_live (tasks a).standing) (test (offer_of (tasks a).local)) h))).1

      calls : (c : ℕ) (test : CallForm → Bool) (e : ℕ) (i : ℤ) → offers task_ops (calls_in test e i) (tasks c) ≡ true → (c < n) × HasEntry g.numbers e
      calls c test e i h = (
        below c (calls_in test e i) h,
        subst (λ (x : Setting). HasEntry x.numbers e) (reads c (calls_in test e i) h)
            (calls-there (tasks c).local test e i (and_right (is_live (tasks c).standing) (calls_in test e i (offer_of (tasks c).local)) h)),
      )

      aborted : (t x : ℕ) → offers task_ops (aborts x) (tasks t) ≡ true → x < n
      aborted t x h =
          subst (λ m. x < m) (sym size)
          (subst (λ (y : Setting). x < length y.numbers.tasks) (reads t (aborts x) h)
          (aborts-there (tasks t).local x (subst (λ (y : Setting). 0 < length y.numbers.tasks) (sym (reads t (aborts x) h)) main) (and_right (is_live (tasks t).standing) (aborts x (offer_of (tasks t).local)) h)))

      pub event-in : (e : Event) → happens p tasks e ≡ true → IsIn g.numbers n e
      event-in (R c e i) h = calls c is_any_form e i (and_left _ _ h)
      event-in (E a) h = below a is_finish h
      event-in (S a) h = below a (waits_with is_else) h
      event-in (D a k) h = below a (waits_with (is_delay k)) h
      event-in (C c e i) h = calls c is_conditional e i (and_left _ _ h)
      event-in (T c e i) h = calls c is_timed e i (and_left _ _ h)
      event-in (F c e i) h = calls c is_any_form e i (and_left _ _ h)
      event-in (X a) h = below a is_end (and_right (not (a == 0)) (offers task_ops is_end (tasks a)) h)
      event-in (B t x) h = (below t (aborts x) h, aborted t x h)
      event-in Z h = tt

    -- ---- all events of a run

    leads-in : (events : List Event) (w last : World Task) → Leads p w events last → IsBase p IsOne one-lawful w → AllByRecursion (IsIn g.numbers n) events
    leads-in [] w last h base = tt
    leads-in (e ∷ events) w last h base =
        let next = h.0 in
        let f : Fires p w e next = h.1 in (
          event-in (run_on task_ops f.steps w.tasks) (sound_found p IsOne one-lawful f base.sound) base.beyond e f.holds,
          leads-in events next last h.2 (base_fires p IsOne one-lawful f base),
        )

    pub events-in : (s : State (ℕ → Seat Task)) → IsOpening (numbered p) s → ((t : ℕ) → t < n → IsOne (s.seats t).local) → (events : List Event) → Feasible (numbered p) s events →
        AllByRecursion (IsIn g.numbers n) events
    events-in s opening proper events h =
        let led = feasible_leads p IsOne one-lawful s opening proper events h in
        leads-in events (world_of s) led.0 led.1 (start_base p IsOne one-lawful s opening proper)

-- What a task offers: no abort where no abort statement stands in it, and calls of entries that are in the numbers.
use Rattle.std.proofs.Common.{◌≡◌, ℕ, ◌≤◌, Bool, true, false, List, [], ◌∷◌, length, Result, Ok, Err, refl, sym, subst, true≢false}
use Rattle.std.specs.Prelude.{ℤ}
use Rattle.std.proofs.lemmas.Bool.{and_parts}
use Rattle.event_machine.specs.declared.CallForm.{CallForm}
use Rattle.event_machine.specs.declared.CallForm.TheVariants.{Plain, Conditional, Timed}
use Rattle.ada_value.specs.Values.{and_then}
use Rattle.event_machine.specs.declared.Choice.{Choice}
use Rattle.event_machine.specs.Offers.{same_member, calls_in, is_any_form}
use Rattle.event_machine.specs.Worlds.{aborts}
use Rattle.event_machine.proofs.Basics.{same_member-true}
use Rattle.ada_tree.specs.PlainStmt.{PCallee, PCall, PStmt, SAbort, SCall, SAccept, SWait, SConditional, STimed, PStmts, no_stmt, stmt_then}
use Rattle.ada_value.specs.declared.values.Raised.{Raised}
use Rattle.task_model.specs.Setting.{callee_task, entry_of, member_index, lists_of, Lists, entry_parameters}
use Rattle.task_model.specs.Frames.{Around, OwnBody, Block, Handling, Loop, Opened}
use Rattle.task_model.specs.Tasks.{Task, rest_of, place_of, vars_of}
use Rattle.task_model.specs.Calls.{Called, called, called_with, openings}
use Rattle.task_model.specs.Waits.{Open, open_at, is_present, choices_of}
use Rattle.task_model.specs.Stands.{Stand, call_stand, choices_stand, wait_stand, name_stand, abort_stand, stand_at, stand_behind, stand_with, offered, offer_of}
use Rattle.task_laws.specs.statements.Each.{Loops, InStmts, loops_of, HoldsOf}
use Rattle.task_laws.proofs.invariants.Variables.{chain, ok_path}
use Rattle.collect_runs.specs.starts.Laws.{IsNoAbort}
use Rattle.replay_structure.proofs.placed.Made.{entry-few}

-- ---- aborts

module _ (t : Task) (v : ℕ) where
  abbrev None' : Stand → Type 0
  None' s = aborts v (offered s) ≡ false

  call-none : (form : CallForm) (r : Result Called Raised) → None' (call_stand form r)
  call-none form (Ok c) = refl
  call-none form (Err x) = refl

  choices-none : (cs : List Choice) → None' (choices_stand cs)
  choices-none [] = refl
  choices-none (c ∷ cs) = refl

  wait-none : (b : Bool) (r : Result (List Open) Raised) → None' (wait_stand b r)
  wait-none b (Ok all) = choices-none (choices_of b all)
  wait-none b (Err x) = refl

  at-none : (loops : Loops) (s : PStmt) → IsNoAbort loops s → None' (stand_at t s)
  at-none loops (SAbort callees s) h = absurd h
  at-none loops (SCall call s) h = call-none Plain (called t.setting (vars_of t) call)
  at-none loops (SConditional call more otherwise s) h = call-none Conditional (called t.setting (vars_of t) call)
  at-none loops (STimed call more duration after s) h = call-none Timed (called t.setting (vars_of t) call)
  at-none loops (SAccept accept s) h = wait-none false (open_at t (SAccept accept s))
  at-none loops (SWait alts otherwise s) h = wait-none (is_present otherwise) (open_at t (SWait alts otherwise s))
  at-none loops _ h = refl

  behind-none : (place : Around) → None' (stand_behind place)
  behind-none (OwnBody handlers taken) = refl
  behind-none (Block handlers) = refl
  behind-none (Handling x) = refl
  behind-none (Loop name turns stmts) = refl
  behind-none (Opened caller formals pending) = refl

  pub offers-no-abort : HoldsOf IsNoAbort t → aborts v (offer_of t) ≡ false
  offers-no-abort h = go (rest_of t) h.rest
    where
      go : (rest : PStmts) → InStmts IsNoAbort (loops_of (place_of t) t.control.outer) rest → None' (stand_with t rest (place_of t))
      go no_stmt k = behind-none (place_of t)
      go (stmt_then s rest) k = at-none (loops_of (place_of t) t.control.outer) s k.0.0

-- ---- calls

module _ (t : Task) (e : ℕ) (i : ℤ) where
  abbrev Within : Stand → Type 0
  Within s = calls_in is_any_form e i (offered s) ≡ true → e ≤ length t.setting.numbers.entries

  -- a call of an entry that is found
  call-within : (form : CallForm) (r : Result Called Raised) → ((c : Called) → r ≡ Ok c → c.entry ≤ length t.setting.numbers.entries) → Within (call_stand form r)
  call-within form (Ok c) h k =
      let same : e ≡ c.entry = (same_member-true e c.entry i c.index (and_parts (is_any_form form) (same_member e i c.entry c.index) k).1).0 in
      subst (λ (n : ℕ). n ≤ length t.setting.numbers.entries) (sym same) (h c refl)
  call-within form (Err x) h k = absurd (true≢false (sym k))

  called-within : (call : PCall) (c : Called) → called t.setting (vars_of t) call ≡ Ok c → c.entry ≤ length t.setting.numbers.entries
  called-within call c q =
      let owner = chain (callee_task t.setting (vars_of t) call.task)
      (λ o. called_with t.setting (vars_of t) (entry_of t.setting.numbers o call.entry.name) (lists_of t.setting.numbers (entry_of t.setting.numbers o call.entry.name) call.args)) c q in
      let found : ℕ = entry_of t.setting.numbers owner.value call.entry.name in
      let lists : Lists = lists_of t.setting.numbers found call.args in
      let index = chain (member_index t.setting (vars_of t) found lists.index)
      (λ j. and_then (openings t.setting.types (vars_of t) (entry_parameters t.setting found) lists.actuals) (λ vs. Ok record { entry = found; index = j; values = vs })) c owner.rest in
      let values = chain (openings t.setting.types (vars_of t) (entry_parameters t.setting found) lists.actuals) (λ vs. Ok record { entry = found; index = index.value; values = vs }) c index.rest in
      subst (λ (d : Called). d.entry ≤ length t.setting.numbers.entries) (ok_path values.rest) (entry-few t.setting.numbers owner.value call.entry.name)

  choices-within : (cs : List Choice) → Within (choices_stand cs)
  choices-within [] k = absurd (true≢false (sym k))
  choices-within (c ∷ cs) k = absurd (true≢false (sym k))

  wait-within : (b : Bool) (r : Result (List Open) Raised) → Within (wait_stand b r)
  wait-within b (Ok all) k = choices-within (choices_of b all) k
  wait-within b (Err x) k = absurd (true≢false (sym k))

  name-within : (r : Result ℕ Raised) → Within (name_stand r)
  name-within (Ok x) k = absurd (true≢false (sym k))
  name-within (Err x) k = absurd (true≢false (sym k))

  abort-within : (callees : List PCallee) → Within (abort_stand t callees)
  abort-within [] k = absurd (true≢false (sym k))
  abort-within (callee ∷ callees) k = name-within (callee_task t.setting (vars_of t) callee) k

  at-within : (s : PStmt) → Within (stand_at t s)
  at-within (SCall call s) k = call-within Plain (called t.setting (vars_of t) call) (called-within call) k
  at-within (SConditional call more otherwise s) k = call-within Conditional (called t.setting (vars_of t) call) (called-within call) k
  at-within (STimed call more duration after s) k = call-within Timed (called t.setting (vars_of t) call) (called-within call) k
  at-within (SAccept accept s) k = wait-within false (open_at t (SAccept accept s)) k
  at-within (SWait alts otherwise s) k = wait-within (is_present otherwise) (open_at t (SWait alts otherwise s)) k
  at-within (SAbort callees s) k = abort-within callees k
  at-within _ k = absurd (true≢false (sym k))

  behind-within : (place : Around) → Within (stand_behind place)
  behind-within (OwnBody handlers taken) k = absurd (true≢false (sym k))
  behind-within (Block handlers) k = absurd (true≢false (sym k))
  behind-within (Handling x) k = absurd (true≢false (sym k))
  behind-within (Loop name turns stmts) k = absurd (true≢false (sym k))
  behind-within (Opened caller formals pending) k = absurd (true≢false (sym k))

  pub calls-within : calls_in is_any_form e i (offer_of t) ≡ true → e ≤ length t.setting.numbers.entries
  calls-within k = go (rest_of t) k
    where
      go : (rest : PStmts) → Within (stand_with t rest (place_of t))
      go no_stmt h = behind-within (place_of t) h
      go (stmt_then s rest) h = at-within s h

-- How many values come back where a rendezvous ends: one for each formal of the caller's entry that comes back.
use Rattle.std.proofs.Common.{◌≡◌, ℕ, ℤ, suc, Bool, true, false, if◌then◌else◌, List, [], ◌∷◌, length, Some, Result, Ok, Err, refl, sym, ap, ◌∙◌, true≢false}
use Rattle.common_lemmas.proofs.Options.{some_same}
use Rattle.event_machine.specs.declared.CallForm.{CallForm}
use Rattle.event_machine.specs.declared.CallForm.TheVariants.{Plain, Conditional, Timed}
use Rattle.event_machine.specs.declared.Choice.{Choice}
use Rattle.event_machine.specs.Offers.{Calls, Finishes, is_finish, calls_in, is_any_form}
use Rattle.event_machine.proofs.Basics.{same_member-refl}
use Rattle.ada_tree.specs.PlainStmt.{PCallee, PStmt, SAbort, SCall, SAccept, SWait, SConditional, STimed, PStmts, no_stmt, stmt_then}
use Rattle.ada_value.specs.declared.values.Raised.{Raised}
use Rattle.ada_value.specs.Variables.{Variables}
use Rattle.task_model.specs.declared.parameters.FormalParameter.{FormalParameter}
use Rattle.task_model.specs.Setting.{callee_task}
use Rattle.task_model.specs.Tasks.{Task, rest_of, place_of, vars_of}
use Rattle.task_model.specs.Calls.{Called, called, called_by, call_in, comes_back, finals_if, finals_in}
use Rattle.task_model.specs.Waits.{Open, open_at, is_present, choices_of}
use Rattle.task_model.specs.Stands.{call_stand, choices_stand, wait_stand, name_stand, abort_stand, stand_at, stand_behind, stand_with, offered, offer_of}
use Rattle.task_laws.specs.invariants.Holding.{AreHeld, AreAlike}
use Rattle.task_laws.proofs.invariants.Offering.{AtCall, at_call}
use Rattle.collect_runs.specs.aborts.telling.Forms.{backs}

-- ---- values

-- of formals that are held as many values come back as of formals like these
pub finals-count : (ps fs : List FormalParameter) (vars : Variables) → AreHeld fs vars → AreAlike ps fs → length (finals_in fs vars) ≡ backs ps
finals-count [] [] vars held alike = refl
finals-count [] (f ∷ fs) vars held alike = absurd alike
finals-count (p ∷ ps) [] vars held alike = absurd alike
finals-count (p ∷ ps) (f ∷ fs) [] held alike = absurd held
finals-count (p ∷ ps) (f ∷ fs) (o ∷ vars) held alike =
    by_mode (comes_back f.mode) (finals-count ps fs vars held.1 alike.1) ∙ ap (λ c. if c then suc (backs ps) else backs ps) (sym (ap comes_back alike.0.0))
  where
    by_mode : (c : Bool) → length (finals_in fs vars) ≡ backs ps → length (finals_if c o (finals_in fs vars)) ≡ (if c then suc (backs ps) else backs ps)
    by_mode true e = ap suc e
    by_mode false e = e

-- ---- the entry

-- the entry of the call that a task offers
pub entry-offered : (t : Task) (form : CallForm) (e : ℕ) (i : ℤ) → offer_of t ≡ Calls form e i → (r : Called) → called_by t.setting (vars_of t)
    (call_in (rest_of t)) ≡ Some (Ok r) → r.entry ≡ e
entry-offered t form e i offers r calls =
    let at : AtCall t e i = at_call t e i (ap (calls_in is_any_form e i) offers ∙ any form) in
    let same : Ok at.result ≡ Ok r = some_same (sym at.calls ∙ calls) in
    sym (ap (λ (z : Result Called Raised). entry_in z) same) ∙ at.entry
  where
    entry_in : Result Called Raised → ℕ
    entry_in (Ok c) = c.entry
    entry_in (Err x) = 0

    any : (form : CallForm) → calls_in is_any_form e i (Calls form e i) ≡ true
    any Plain = same_member-refl e i
    any Conditional = same_member-refl e i
    any Timed = same_member-refl e i

-- ---- the end of a rendezvous

module _ (t : Task) where
  call-none : (form : CallForm) (r : Result Called Raised) → is_finish (offered (call_stand form r)) ≡ false
  call-none form (Ok c) = refl
  call-none form (Err x) = refl

  choices-none : (cs : List Choice) → is_finish (offered (choices_stand cs)) ≡ false
  choices-none [] = refl
  choices-none (c ∷ cs) = refl

  wait-none : (b : Bool) (r : Result (List Open) Raised) → is_finish (offered (wait_stand b r)) ≡ false
  wait-none b (Ok all) = choices-none (choices_of b all)
  wait-none b (Err x) = refl

  name-none : (r : Result ℕ Raised) → is_finish (offered (name_stand r)) ≡ false
  name-none (Ok x) = refl
  name-none (Err x) = refl

  abort-none : (cs : List PCallee) → is_finish (offered (abort_stand t cs)) ≡ false
  abort-none [] = refl
  abort-none (c ∷ cs) = name-none (callee_task t.setting (vars_of t) c)

  -- no statement offers the end of a rendezvous
  at-none : (s : PStmt) → is_finish (offered (stand_at t s)) ≡ false
  at-none (SAbort callees s) = abort-none callees
  at-none (SCall call s) = call-none Plain (called t.setting (vars_of t) call)
  at-none (SConditional call more otherwise s) = call-none Conditional (called t.setting (vars_of t) call)
  at-none (STimed call more duration after s) = call-none Timed (called t.setting (vars_of t) call)
  at-none (SAccept accept s) = wait-none false (open_at t (SAccept accept s))
  at-none (SWait alts otherwise s) = wait-none (is_present otherwise) (open_at t (SWait alts otherwise s))
  at-none _ = refl

  -- where the task stands in no accept body it does not either
  pub never-finishes : offer_of t ≡ Finishes → is_finish (offered (stand_behind (place_of t))) ≡ false → ⊥
  never-finishes e none = go (rest_of t) (ap is_finish e)
    where
      go : (r : PStmts) → is_finish (offered (stand_with t r (place_of t))) ≡ true → ⊥
      go no_stmt q = true≢false (sym q ∙ none)
      go (stmt_then s r) q = true≢false (sym q ∙ at-none s)

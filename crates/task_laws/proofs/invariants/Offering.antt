-- What the offers of a call and of a wait say: the call could be evaluated, and an alternative accepts the member (9.5, 9.7.1).
use Rattle.std.proofs.Common.{◌≡◌, ℕ, ℤ, Bool, true, false, ◌||◌, List, [], ◌∷◌, ◌++◌, append-nil, Option, Some, None, Result, Ok, Err, refl, sym, ap, ◌∙◌, true≢false}
use Rattle.std.specs.Prelude.{find, if◌then◌else◌}
use Rattle.std.specs.List.{filter_map, list_any, cons_option}
use Rattle.std.proofs.lemmas.Bool.{and_parts}
use Rattle.ada_tree.specs.PlainStmt.{PStmt, SNull, SAssign, SDelay, SExit, SRaise, SAbort, SCall, SAccept, SWait, SConditional, STimed, SPut, SPutLine, SNewLine, SGet, SIf, SCase, SBlock, SLoop, PStmts, no_stmt, stmt_then}
use Rattle.event_machine.specs.declared.CallForm.{CallForm}
use Rattle.event_machine.specs.declared.CallForm.TheVariants as form
use Rattle.event_machine.specs.declared.Choice.{Choice}
use Rattle.event_machine.specs.declared.Choice.TheVariants as choice
use Rattle.event_machine.specs.Offers.{Offer, same_member, opens, calls_in, is_any_form, waits_with}
use Rattle.event_machine.proofs.Basics.{same_member-true}
use Rattle.ada_value.specs.declared.values.Raised.{Raised}
use Rattle.task_model.specs.Setting.{callee_task}
use Rattle.task_model.specs.Frames.{Around, OwnBody, Block, Handling, Loop, Opened}
use Rattle.task_model.specs.Tasks.{Task, rest_of, place_of, vars_of}
use Rattle.task_model.specs.Calls.{Called, called, call_in, called_by}
use Rattle.task_model.specs.Waits.{Open, Accepts, Delays, Terminates, open_at, accept_choice, delay_choice, terminate_choice, else_choice, choices_of, is_present, is_shorter, accepts_member, first_accepting, accepting_at, alternative_for}
use Rattle.task_model.specs.Stands.{offered, stand_at, stand_behind, stand_with, call_stand, choices_stand, wait_stand, name_stand, offer_of}

-- ---- calls

-- a task that stands at a call of this entry
pub record AtCall (t : Task) (e : ℕ) (i : ℤ) : Type 0 where
  pub result : Called
  pub calls : called_by t.setting (vars_of t) (call_in (rest_of t)) ≡ Some (Ok result)
  pub entry : result.entry ≡ e

-- a call offer is one of a call that could be evaluated
call_result : (f : CallForm) (r : Result Called Raised) (e : ℕ) (i : ℤ) → calls_in is_any_form e i (offered (call_stand f r)) ≡ true → (c : Called) × (r ≡ Ok c) × (c.entry ≡ e)
call_result f (Ok c) e i h = (c, refl, sym (same_member-true e c.entry i c.index (and_parts (is_any_form f) (same_member e i c.entry c.index) h).1).0)
call_result f (Err x) e i h = absurd (true≢false (sym h))

no_call : (o : Offer) (e : ℕ) (i : ℤ) → calls_in is_any_form e i o ≡ false → calls_in is_any_form e i o ≡ true → ⊥
no_call o e i q h = true≢false (sym h ∙ q)

choices_call : (e : ℕ) (i : ℤ) (choices : List Choice) → calls_in is_any_form e i (offered (choices_stand choices)) ≡ true → ⊥
choices_call e i [] h = true≢false (sym h)
choices_call e i (c ∷ choices) h = true≢false (sym h)

wait_call : (e : ℕ) (i : ℤ) (b : Bool) (r : Result (List Open) Raised) → calls_in is_any_form e i (offered (wait_stand b r)) ≡ true → ⊥
wait_call e i b (Ok all) h = choices_call e i (choices_of b all) h
wait_call e i b (Err x) h = true≢false (sym h)

name_call : (e : ℕ) (i : ℤ) (r : Result ℕ Raised) → calls_in is_any_form e i (offered (name_stand r)) ≡ true → ⊥
name_call e i (Ok x) h = true≢false (sym h)
name_call e i (Err x) h = true≢false (sym h)

behind_call : (e : ℕ) (i : ℤ) (place : Around) → calls_in is_any_form e i (offered (stand_behind place)) ≡ true → ⊥
behind_call e i (OwnBody handlers taken) h = true≢false (sym h)
behind_call e i (Block handlers) h = true≢false (sym h)
behind_call e i (Handling x) h = true≢false (sym h)
behind_call e i (Loop name turns stmts) h = true≢false (sym h)
behind_call e i (Opened caller formals pending) h = true≢false (sym h)

-- what a call comes to at these statements
abbrev CallAt : Task → PStmts → ℕ → Type 0
CallAt t rest e = (c : Called) × (called_by t.setting (vars_of t) (call_in rest) ≡ Some (Ok c)) × (c.entry ≡ e)

call_at : (t : Task) (s : PStmt) (rest : PStmts) (e : ℕ) (i : ℤ) → calls_in is_any_form e i (offered (stand_at t s)) ≡ true → CallAt t (stmt_then s rest) e
call_at t (SCall call s) rest e i h = let (c, q, r) = call_result form.Plain (called t.setting (vars_of t) call) e i h in (c, ap Some q, r)
call_at t (SConditional call more otherwise s) rest e i h = let (c, q, r) = call_result form.Conditional (called t.setting (vars_of t) call) e i h in (c, ap Some q, r)
call_at t (STimed call more duration after s) rest e i h = let (c, q, r) = call_result form.Timed (called t.setting (vars_of t) call) e i h in (c, ap Some q, r)
call_at t (SAccept accept s) rest e i h = absurd (wait_call e i false (open_at t (SAccept accept s)) h)
call_at t (SWait alts otherwise s) rest e i h = absurd (wait_call e i (is_present otherwise) (open_at t (SWait alts otherwise s)) h)
call_at t (SAbort [] s) rest e i h = absurd (true≢false (sym h))
call_at t (SAbort (callee ∷ callees) s) rest e i h = absurd (name_call e i (callee_task t.setting (vars_of t) callee) h)
call_at t (SNull s) rest e i h = absurd (true≢false (sym h))
call_at t (SAssign target x s) rest e i h = absurd (true≢false (sym h))
call_at t (SDelay duration s) rest e i h = absurd (true≢false (sym h))
call_at t (SExit w test s) rest e i h = absurd (true≢false (sym h))
call_at t (SRaise w s) rest e i h = absurd (true≢false (sym h))
call_at t (SPut parts s) rest e i h = absurd (true≢false (sym h))
call_at t (SPutLine parts s) rest e i h = absurd (true≢false (sym h))
call_at t (SNewLine s) rest e i h = absurd (true≢false (sym h))
call_at t (SGet target s) rest e i h = absurd (true≢false (sym h))
call_at t (SIf arms otherwise s) rest e i h = absurd (true≢false (sym h))
call_at t (SCase x arms others s) rest e i h = absurd (true≢false (sym h))
call_at t (SBlock its s) rest e i h = absurd (true≢false (sym h))
call_at t (SLoop name scheme stmts s) rest e i h = absurd (true≢false (sym h))

-- A task that offers a call stands at one that could be evaluated.
pub at_call : (t : Task) (e : ℕ) (i : ℤ) → calls_in is_any_form e i (offer_of t) ≡ true → AtCall t e i
at_call t e i h = go (rest_of t) refl h
  where
    go : (rest : PStmts) → rest_of t ≡ rest → calls_in is_any_form e i (offered (stand_with t rest (place_of t))) ≡ true → AtCall t e i
    go no_stmt q k = absurd (behind_call e i (place_of t) k)
    go (stmt_then s rest) q k =
        let (c, calls, entry) = call_at t s rest e i k in
        record { result = c; calls = ap (λ r. called_by t.setting (vars_of t) (call_in r)) q ∙ calls; entry = entry }

-- ---- waits

-- a choice that is no accept
abbrev IsShut : ℕ → ℤ → Option Choice → Type 0
IsShut e i None = Unit {0}
IsShut e i (Some c) = opens e i c ≡ false

shut_all : (e : ℕ) (i : ℤ) (f : Open → Option Choice) → ((o : Open) → IsShut e i (f o)) → (os : List Open) (rest : List Choice) → list_any (opens e i) rest ≡ false → list_any (opens e i) (filter_map f os ++ rest) ≡ false
shut_all e i f shut [] rest h = h
shut_all e i f shut (o ∷ os) rest h = go (f o) (shut o) (shut_all e i f shut os rest h)
  where
    go : (c : Option Choice) → IsShut e i c → list_any (opens e i) (filter_map f os ++ rest) ≡ false → list_any (opens e i) (cons_option c (filter_map f os) ++ rest) ≡ false
    go None s later = later
    go (Some c) s later = ap (λ b. b || list_any (opens e i) (filter_map f os ++ rest)) s ∙ later

terminate_shut : (e : ℕ) (i : ℤ) (o : Open) → IsShut e i (terminate_choice o)
terminate_shut e i (Accepts f j head stmts behind) = tt
terminate_shut e i (Delays k duration stmts) = tt
terminate_shut e i Terminates = refl

delay_shut : (e : ℕ) (i : ℤ) (all : List Open) (o : Open) → IsShut e i (delay_choice all o)
delay_shut e i all (Accepts f j head stmts behind) = tt
delay_shut e i all (Delays k duration stmts) = go (list_any (is_shorter duration) all)
  where
    go : (b : Bool) → IsShut e i (if b then None else Some (choice.Delay k))
    go true = tt
    go false = refl
delay_shut e i all Terminates = tt

else_shut : (e : ℕ) (i : ℤ) (b : Bool) (rest : List Choice) → list_any (opens e i) rest ≡ false → list_any (opens e i) (else_choice b ++ rest) ≡ false
else_shut e i true rest h = h
else_shut e i false rest h = h

-- among open alternatives one accepts the member
find_accept : (e : ℕ) (i : ℤ) (os : List Open) (rest : List Choice) → list_any (opens e i) rest ≡ false → list_any (opens e i) (filter_map accept_choice os ++ rest) ≡ true →
    (o : Open) × (find (accepts_member e i) os ≡ Some o)
find_accept e i [] rest shut h = absurd (true≢false (sym h ∙ shut))
find_accept e i (Accepts f j head stmts behind ∷ os) rest shut h = go (same_member e i f j) h (find_accept e i os rest shut)
  where
    go : (b : Bool) → (b || list_any (opens e i) (filter_map accept_choice os ++ rest)) ≡ true →
        (list_any (opens e i) (filter_map accept_choice os ++ rest) ≡ true → (o : Open) × (find (accepts_member e i) os ≡ Some o)) →
        (o : Open) × ((if b then Some (Accepts f j head stmts behind) else find (accepts_member e i) os) ≡ Some o)
    go true k later = (Accepts f j head stmts behind, refl)
    go false k later = later k
find_accept e i (Delays k duration stmts ∷ os) rest shut h = find_accept e i os rest shut h
find_accept e i (Terminates ∷ os) rest shut h = find_accept e i os rest shut h

choices_accept : (e : ℕ) (i : ℤ) (b : Bool) (os : List Open) → list_any (opens e i) (choices_of b os) ≡ true → (o : Open) × (find (accepts_member e i) os ≡ Some o)
choices_accept e i b os h =
    find_accept e i os (else_choice b ++ (filter_map (delay_choice os) os ++ filter_map terminate_choice os))
    (else_shut e i b (filter_map (delay_choice os) os ++ filter_map terminate_choice os)
    (shut_all e i (delay_choice os) (delay_shut e i os) os (filter_map terminate_choice os)
    (ap (list_any (opens e i)) (sym (append-nil (filter_map terminate_choice os))) ∙ shut_all e i terminate_choice (terminate_shut e i) os [] refl))) h

choices_offer : (e : ℕ) (i : ℤ) (choices : List Choice) → waits_with (opens e i) (offered (choices_stand choices)) ≡ true → list_any (opens e i) choices ≡ true
choices_offer e i [] h = absurd (true≢false (sym h))
choices_offer e i (c ∷ choices) h = h

wait_accept : (e : ℕ) (i : ℤ) (b : Bool) (r : Result (List Open) Raised) → waits_with (opens e i) (offered (wait_stand b r)) ≡ true → (o : Open) × (first_accepting e i r ≡ Some o)
wait_accept e i b (Ok all) h = choices_accept e i b all (choices_offer e i (choices_of b all) h)
wait_accept e i b (Err x) h = absurd (true≢false (sym h))

call_wait : (e : ℕ) (i : ℤ) (f : CallForm) (r : Result Called Raised) → waits_with (opens e i) (offered (call_stand f r)) ≡ true → ⊥
call_wait e i f (Ok c) h = true≢false (sym h)
call_wait e i f (Err x) h = true≢false (sym h)

name_wait : (e : ℕ) (i : ℤ) (r : Result ℕ Raised) → waits_with (opens e i) (offered (name_stand r)) ≡ true → ⊥
name_wait e i (Ok x) h = true≢false (sym h)
name_wait e i (Err x) h = true≢false (sym h)

behind_wait : (e : ℕ) (i : ℤ) (place : Around) → waits_with (opens e i) (offered (stand_behind place)) ≡ true → ⊥
behind_wait e i (OwnBody handlers taken) h = true≢false (sym h)
behind_wait e i (Block handlers) h = true≢false (sym h)
behind_wait e i (Handling x) h = true≢false (sym h)
behind_wait e i (Loop name turns stmts) h = true≢false (sym h)
behind_wait e i (Opened caller formals pending) h = true≢false (sym h)

wait_at : (t : Task) (s : PStmt) (e : ℕ) (i : ℤ) → waits_with (opens e i) (offered (stand_at t s)) ≡ true → (o : Open) × (first_accepting e i (open_at t s) ≡ Some o)
wait_at t (SAccept accept s) e i h = wait_accept e i false (open_at t (SAccept accept s)) h
wait_at t (SWait alts otherwise s) e i h = wait_accept e i (is_present otherwise) (open_at t (SWait alts otherwise s)) h
wait_at t (SCall call s) e i h = absurd (call_wait e i form.Plain (called t.setting (vars_of t) call) h)
wait_at t (SConditional call more otherwise s) e i h = absurd (call_wait e i form.Conditional (called t.setting (vars_of t) call) h)
wait_at t (STimed call more duration after s) e i h = absurd (call_wait e i form.Timed (called t.setting (vars_of t) call) h)
wait_at t (SAbort [] s) e i h = absurd (true≢false (sym h))
wait_at t (SAbort (callee ∷ callees) s) e i h = absurd (name_wait e i (callee_task t.setting (vars_of t) callee) h)
wait_at t (SNull s) e i h = absurd (true≢false (sym h))
wait_at t (SAssign target x s) e i h = absurd (true≢false (sym h))
wait_at t (SDelay duration s) e i h = absurd (true≢false (sym h))
wait_at t (SExit w test s) e i h = absurd (true≢false (sym h))
wait_at t (SRaise w s) e i h = absurd (true≢false (sym h))
wait_at t (SPut parts s) e i h = absurd (true≢false (sym h))
wait_at t (SPutLine parts s) e i h = absurd (true≢false (sym h))
wait_at t (SNewLine s) e i h = absurd (true≢false (sym h))
wait_at t (SGet target s) e i h = absurd (true≢false (sym h))
wait_at t (SIf arms otherwise s) e i h = absurd (true≢false (sym h))
wait_at t (SCase x arms others s) e i h = absurd (true≢false (sym h))
wait_at t (SBlock its s) e i h = absurd (true≢false (sym h))
wait_at t (SLoop name scheme stmts s) e i h = absurd (true≢false (sym h))

-- A task that offers to accept a member has an alternative that does.
pub at_accept : (t : Task) (e : ℕ) (i : ℤ) → waits_with (opens e i) (offer_of t) ≡ true → (o : Open) × (alternative_for t e i ≡ Some o)
at_accept t e i h = go (rest_of t) h
  where
    go : (rest : PStmts) → waits_with (opens e i) (offered (stand_with t rest (place_of t))) ≡ true → (o : Open) × (accepting_at t rest e i ≡ Some o)
    go no_stmt k = absurd (behind_wait e i (place_of t) k)
    go (stmt_then s rest) k = wait_at t s e i k

-- The numbers of the delays that a task offers rise.
use Rattle.std.proofs.Common.{◌≡◌, ℕ, ◌+◌, ◌<◌, ◌≤◌, Bool, true, false, if◌then◌else◌, List, [], ◌∷◌, ◌++◌, refl, sym, ap, ◌∙◌, subst, arith, Option, Some, None, Result, Ok, Err}
use Rattle.std.specs.Prelude.{ℤ}
use Rattle.std.specs.List.{filter_map, list_any, cons_option}
use Rattle.std.proofs.lemmas.List.Elements.{filter_map-append}
use Rattle.ada_tree.specs.PlainStmt.{PStmt, SAccept, SWait, SAbort, SCall, SConditional, STimed, PStmts, no_stmt, stmt_then, PAccept, accepting, alternative, PAltKind, AAccept, ADelay, ATerminate, PAlts, no_alt, alt_then}
use Rattle.ada_value.specs.declared.values.Raised.{Raised}
use Rattle.ada_value.specs.Values.{and_then}
use Rattle.event_machine.specs.declared.CallForm.{CallForm}
use Rattle.event_machine.specs.declared.Choice.{Choice}
use Rattle.event_machine.specs.declared.Choice.TheVariants as choice
use Rattle.event_machine.specs.Offers.{Offer}
use Rattle.task_model.specs.Calls.{Called, called}
use Rattle.task_model.specs.Frames.{Around, OwnBody, Block, Handling, Loop, Opened}
use Rattle.task_model.specs.Setting.{callee_task, entry_of, member_index}
use Rattle.task_model.specs.Stands.{offered, call_stand, choices_stand, wait_stand, name_stand, stand_at, stand_behind, stand_with, offer_of}
use Rattle.task_model.specs.Tasks.{Task, rest_of, place_of, vars_of, stmts_or_none}
use Rattle.task_model.specs.Waits.{Open, Accepts, Delays, Terminates, guard_holds, accept_opened, kind_opened, delays_with, opened_if, alternatives_open, open_at, accept_choice, is_shorter, delay_choice, terminate_choice, else_choice, choices_of, is_present}
use Rattle.race_variant.specs.inner.Proposing.{delay_number, delays_in}

-- each number is above the one before it, and the first above k
abbrev pub Rises : ℕ → List ℕ → Type 0
Rises k [] = Unit {0}
Rises k (x ∷ xs) = (k < x) × Rises x xs

pub rises_above : (k l : ℕ) (xs : List ℕ) → k ≤ l → Rises l xs → Rises k xs
rises_above k l [] le h = tt
rises_above k l (x ∷ xs) le h = (let q : l < x = h.0 in omega arith, h.1)

-- the number of an open delay
open_number : Open → Option ℕ
open_number (Accepts e i head body behind) = None
open_number (Delays k duration stmts) = Some k
open_number Terminates = None

-- the open delays have rising numbers, where the alternatives could be evaluated
RisesIn : ℕ → Result (List Open) Raised → Type 0
RisesIn k (Ok os) = Rises k (filter_map open_number os)
RisesIn k (Err x) = Unit {0}

rises_in : (k l : ℕ) (r : Result (List Open) Raised) → k ≤ l → RisesIn l r → RisesIn k r
unfolding RisesIn
rises_in k l (Ok os) le h = rises_above k l (filter_map open_number os) le h
rises_in k l (Err x) le h = tt

-- one more in front
front_accept : (k : ℕ) (r : Result (List Open) Raised) (o : Open) → open_number o ≡ None → RisesIn k r → RisesIn k (and_then r (λ os. Ok (o ∷ os)))
unfolding RisesIn open_number
front_accept k (Err x) o none h = tt
front_accept k (Ok os) (Accepts f i head body behind) none h = h
front_accept k (Ok os) (Delays n duration stmts) none h = absurd (let q : ◌≡◌ {A = Option ℕ} (Some n) None = none in cc)
front_accept k (Ok os) Terminates none h = h

front_delay : (k duration : ℕ) (stmts : PStmts) (r : Result (List Open) Raised) → RisesIn (k + 1) r → RisesIn k (and_then r (λ os. Ok (Delays (k + 1) duration stmts ∷ os)))
unfolding RisesIn open_number
front_delay k duration stmts (Err x) h = tt
front_delay k duration stmts (Ok os) h = (omega arith, h)

-- an accept that could be evaluated
front_opened : (k : ℕ) (t : Task) (accept : PAccept) (behind : PStmts) (r : Result (List Open) Raised) → RisesIn k r →
    RisesIn k (and_then (accept_opened t accept behind) (λ o. and_then r (λ os. Ok (o ∷ os))))
unfolding RisesIn open_number
front_opened k t (accepting head body) behind r h = go (member_index t.setting (vars_of t) (entry_of t.setting.numbers t.number head.entry.name) head.index)
  where
    go : (m : Result ℤ Raised) → RisesIn k (and_then (and_then m (λ i. Ok (Accepts (entry_of t.setting.numbers t.number head.entry.name) i head (stmts_or_none body) behind))) (λ o. and_then r (λ os. Ok (o ∷ os))))
    go (Ok i) = front_accept k r (Accepts (entry_of t.setting.numbers t.number head.entry.name) i head (stmts_or_none body) behind) refl h
    go (Err x) = tt

front_kind : (k : ℕ) (t : Task) (what : PAltKind) (r : Result (List Open) Raised) → RisesIn (delays_with what k) r →
    RisesIn k (and_then (kind_opened t what k) (λ o. and_then r (λ os. Ok (o ∷ os))))
unfolding open_number
front_kind k t (AAccept accept stmts) r h = front_opened k t accept stmts r h
front_kind k t (ADelay duration stmts) r h = front_delay k _ stmts r h
front_kind k t ATerminate r h = front_accept k r Terminates refl h

least : (what : PAltKind) (k : ℕ) → k ≤ delays_with what k
least (AAccept accept stmts) k = omega arith
least (ADelay duration stmts) k = omega arith
least ATerminate k = omega arith

opened_rise : (k : ℕ) (t : Task) (what : PAltKind) (g : Result Bool Raised) (r : Result (List Open) Raised) → RisesIn (delays_with what k) r →
    RisesIn k (and_then g (λ b. opened_if b (kind_opened t what k) r))
unfolding RisesIn
opened_rise k t what (Err x) r h = tt
opened_rise k t what (Ok true) r h = front_kind k t what r h
opened_rise k t what (Ok false) r h = rises_in k (delays_with what k) r (least what k) h

alternatives_rise : (t : Task) (alts : PAlts) (k : ℕ) → RisesIn k (alternatives_open t alts k)
unfolding RisesIn
alternatives_rise t no_alt k = tt
alternatives_rise t (alt_then (alternative guard what s) rest) k =
    opened_rise k t what (guard_holds t guard) (alternatives_open t rest (delays_with what k)) (alternatives_rise t rest (delays_with what k))

-- ---- the choices

no_accept : (os : List Open) → filter_map delay_number (filter_map accept_choice os) ≡ []
no_accept [] = refl
no_accept (Accepts e i head body behind ∷ os) = no_accept os
no_accept (Delays k duration stmts ∷ os) = no_accept os
no_accept (Terminates ∷ os) = no_accept os

no_terminate : (os : List Open) → filter_map delay_number (filter_map terminate_choice os) ≡ []
no_terminate [] = refl
no_terminate (Accepts e i head body behind ∷ os) = no_terminate os
no_terminate (Delays k duration stmts ∷ os) = no_terminate os
no_terminate (Terminates ∷ os) = no_terminate os

no_else : (has_else : Bool) → filter_map delay_number (else_choice has_else) ≡ []
no_else true = refl
no_else false = refl

append_none : (xs : List ℕ) → (xs ++ []) ≡ xs
append_none [] = refl
append_none (x ∷ xs) = ap (λ ys. x ∷ ys) (append_none xs)

delays_alone : (has_else : Bool) (os : List Open) → filter_map delay_number (choices_of has_else os) ≡ filter_map delay_number (filter_map (delay_choice os) os)
delays_alone has_else os =
    filter_map-append delay_number (filter_map accept_choice os) _
    ∙ ap (λ xs. xs ++ filter_map delay_number (else_choice has_else ++ (filter_map (delay_choice os) os ++ filter_map terminate_choice os))) (no_accept os)
    ∙ filter_map-append delay_number (else_choice has_else) (filter_map (delay_choice os) os ++ filter_map terminate_choice os)
    ∙ ap (λ xs. xs ++ filter_map delay_number (filter_map (delay_choice os) os ++ filter_map terminate_choice os)) (no_else has_else)
    ∙ filter_map-append delay_number (filter_map (delay_choice os) os) (filter_map terminate_choice os)
    ∙ ap (λ xs. filter_map delay_number (filter_map (delay_choice os) os) ++ xs) (no_terminate os)
    ∙ append_none (filter_map delay_number (filter_map (delay_choice os) os))

one_taken : (all os : List Open) (n k duration : ℕ) (stmts : PStmts) → k < n → Rises n (filter_map delay_number (filter_map (delay_choice all) os)) → (b : Bool) → list_any (is_shorter duration) all ≡ b →
    Rises k (filter_map delay_number (filter_map (delay_choice all) (Delays n duration stmts ∷ os)))
one_taken all os n k duration stmts less later true is =
    subst (λ b. Rises k (filter_map delay_number (cons_option (if b then None else Some (choice.Delay n)) (filter_map (delay_choice all) os)))) (sym is)
    (rises_above k n (filter_map delay_number (filter_map (delay_choice all) os)) (omega arith) later)
one_taken all os n k duration stmts less later false is =
    subst (λ b. Rises k (filter_map delay_number (cons_option (if b then None else Some (choice.Delay n)) (filter_map (delay_choice all) os)))) (sym is) (less, later)

taken_rise : (all os : List Open) (k : ℕ) → Rises k (filter_map open_number os) → Rises k (filter_map delay_number (filter_map (delay_choice all) os))
unfolding open_number
taken_rise all [] k h = tt
taken_rise all (Accepts e i head body behind ∷ os) k h = taken_rise all os k h
taken_rise all (Terminates ∷ os) k h = taken_rise all os k h
taken_rise all (Delays n duration stmts ∷ os) k h = one_taken all os n k duration stmts h.0 (taken_rise all os n h.1) (list_any (is_shorter duration) all) refl

-- ---- offers

RisesAt : Offer → Type 0
RisesAt offer = Rises 0 (delays_in offer)

rise-call : (form : CallForm) (r : Result Called Raised) → RisesAt (offered (call_stand form r))
unfolding RisesAt
rise-call form (Ok c) = tt
rise-call form (Err x) = tt

rise-choices : (choices : List Choice) → Rises 0 (filter_map delay_number choices) → RisesAt (offered (choices_stand choices))
unfolding RisesAt
rise-choices [] h = tt
rise-choices (c ∷ choices) h = h

rise-wait : (has_else : Bool) (r : Result (List Open) Raised) → RisesIn 0 r → RisesAt (offered (wait_stand has_else r))
unfolding RisesAt RisesIn
rise-wait has_else (Ok all) h = rise-choices (choices_of has_else all) (subst (Rises 0) (sym (delays_alone has_else all)) (taken_rise all all 0 h))
rise-wait has_else (Err x) h = tt

rise-name : (r : Result ℕ Raised) → RisesAt (offered (name_stand r))
unfolding RisesAt
rise-name (Ok x) = tt
rise-name (Err x) = tt

accept_rise : (t : Task) (accept : PAccept) → RisesIn 0 (and_then (accept_opened t accept no_stmt) (λ o. Ok (o ∷ [])))
unfolding RisesIn open_number
accept_rise t (accepting head body) = go (member_index t.setting (vars_of t) (entry_of t.setting.numbers t.number head.entry.name) head.index)
  where
    go : (m : Result ℤ Raised) → RisesIn 0 (and_then (and_then m (λ i. Ok (Accepts (entry_of t.setting.numbers t.number head.entry.name) i head (stmts_or_none body) no_stmt))) (λ o. Ok (o ∷ [])))
    go (Ok i) = tt
    go (Err x) = tt

rise-at : (t : Task) (s : PStmt) → RisesAt (offered (stand_at t s))
unfolding RisesAt
rise-at t (SCall call s) = rise-call _ (called t.setting (vars_of t) call)
rise-at t (SConditional call more otherwise s) = rise-call _ (called t.setting (vars_of t) call)
rise-at t (STimed call more duration after s) = rise-call _ (called t.setting (vars_of t) call)
rise-at t (SAccept accept s) = rise-wait false (open_at t (SAccept accept s)) (accept_rise t accept)
rise-at t (SWait alts otherwise s) = rise-wait (is_present otherwise) (open_at t (SWait alts otherwise s)) (alternatives_rise t alts 0)
rise-at t (SAbort [] s) = tt
rise-at t (SAbort (callee ∷ callees) s) = rise-name (callee_task t.setting (vars_of t) callee)
rise-at t _ = tt

rise-behind : (place : Around) → RisesAt (offered (stand_behind place))
unfolding RisesAt
rise-behind (OwnBody handlers taken) = tt
rise-behind (Block handlers) = tt
rise-behind (Handling x) = tt
rise-behind (Loop name turns stmts) = tt
rise-behind (Opened caller formals pending) = tt

rise-with : (t : Task) (rest : PStmts) (place : Around) → RisesAt (offered (stand_with t rest place))
rise-with t no_stmt place = rise-behind place
rise-with t (stmt_then s rest) place = rise-at t s

-- The delays that a task offers have rising numbers.
pub delays_rise : (t : Task) → Rises 0 (delays_in (offer_of t))
unfolding RisesAt
delays_rise t = rise-with t (rest_of t) (place_of t)

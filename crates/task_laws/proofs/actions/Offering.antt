-- What a task offers at a wait of few alternatives has few choices.
use Rattle.std.proofs.Common.{◌≡◌, ◌≤◌, ◌+◌, ℕ, Bool, true, false, List, [], ◌∷◌, ◌++◌, length, length-append, Option, Some, None, Result, Ok, Err, refl, subst, arith}
use Rattle.std.specs.List.{filter_map, cons_option}
use Rattle.ada_tree.specs.PlainStmt.{PCallee, PStmt, SNull, SAssign, SDelay, SExit, SRaise, SAbort, SCall, SAccept, SWait, SConditional, STimed, SPut, SPutLine, SNewLine, SGet, SIf, SCase, SBlock, SLoop, PStmts, no_stmt, stmt_then, PAccept, alternative, PAlts, no_alt, alt_then}
use Rattle.ada_value.specs.declared.values.Raised.{Raised}
use Rattle.ada_value.specs.Values.{and_then}
use Rattle.event_machine.specs.declared.CallForm.{CallForm}
use Rattle.event_machine.specs.declared.CallForm.TheVariants as form
use Rattle.event_machine.specs.declared.Choice.{Choice}
use Rattle.event_machine.specs.Offers.{Offer, Nothing, Calls, Waits, Finishes, Ends, Aborts}
use Rattle.syn_event.specs.CheckSites.{alt_places}
use Rattle.task_model.specs.Setting.{callee_task}
use Rattle.task_model.specs.Frames.{Around, OwnBody, Block, Handling, Loop, Opened}
use Rattle.task_model.specs.Tasks.{Task, rest_of, place_of, outer_of, vars_of}
use Rattle.task_model.specs.Calls.{Called, called}
use Rattle.task_model.specs.Waits.{Open, guard_holds, accept_opened, kind_opened, opened_if, delays_with, alternatives_open, open_at, accept_choice, delay_choice, terminate_choice, else_choice, choices_of, is_present}
use Rattle.task_model.specs.Stands.{stand_at, stand_behind, stand_with, offered, offer_of, call_stand, choices_stand, wait_stand, name_stand, abort_stand}
use Rattle.task_laws.specs.statements.Each.{Loops, InStmts, loops_of, HoldsOf}
use Rattle.task_laws.proofs.invariants.Variables.{chain, ok_path}
use Rattle.task_laws.proofs.actions.Alternatives.{HasFewAlternatives}

-- how many choices an offer has
abbrev pub choices_in : Offer → ℕ
choices_in Nothing = 0
choices_in (Calls form e i) = 0
choices_in (Waits choices) = length choices
choices_in Finishes = 0
choices_in Ends = 0
choices_in (Aborts x) = 0

-- ---- lists

pub few-mapped : {A B : Type 0} (f : A → Option B) (xs : List A) → length (filter_map f xs) ≤ length xs
few-mapped {A} {B} f [] = omega arith
few-mapped {A} {B} f (x ∷ xs) = by_item (f x) (few-mapped f xs)
  where
    by_item : (o : Option B) → length (filter_map f xs) ≤ length xs → length (cons_option o (filter_map f xs)) ≤ length (x ∷ xs)
    by_item None h = omega (arith, h)
    by_item (Some y) h = omega (arith, h)

-- ---- open alternatives

-- each alternative gives one at most
few-open : (t : Task) (alts : PAlts) (n : ℕ) (os : List Open) → alternatives_open t alts n ≡ Ok os → length os ≤ length (alt_places alts)
few-open t no_alt n os q = subst (λ (xs : List Open). length xs ≤ 0) (ok_path q) (omega arith)
few-open t (alt_then (alternative guard what s) rest) n os q =
    let c = chain (guard_holds t guard) (λ b. opened_if b (kind_opened t what n) (alternatives_open t rest (delays_with what n))) os q in
    let few : length os ≤ length (alt_places rest) + 1 = by_test c.value c.rest (λ ps r. few-open t rest (delays_with what n) ps r) in
    omega (arith, few)
  where
    by_test : (b : Bool) → opened_if b (kind_opened t what n) (alternatives_open t rest (delays_with what n)) ≡ Ok os →
        ((ps : List Open) → alternatives_open t rest (delays_with what n) ≡ Ok ps → length ps ≤ length (alt_places rest)) → length os ≤ length (alt_places rest) + 1
    by_test false r later = omega (arith, later os r)
    by_test true r later =
        let c = chain (kind_opened t what n) (λ o. and_then (alternatives_open t rest (delays_with what n)) (λ ps. Ok (o ∷ ps))) os r in
        let d = chain (alternatives_open t rest (delays_with what n)) (λ ps. Ok (c.value ∷ ps)) os c.rest in
        subst (λ (xs : List Open). length xs ≤ length (alt_places rest) + 1) (ok_path d.rest) (omega (arith, later d.value d.first))

one-open : (t : Task) (accept : PAccept) (os : List Open) → and_then (accept_opened t accept no_stmt) (λ o. Ok (o ∷ [])) ≡ Ok os → length os ≤ 33
one-open t accept os q =
    let c = chain (accept_opened t accept no_stmt) (λ o. Ok (o ∷ [])) os q in
    subst (λ (xs : List Open). length xs ≤ 33) (ok_path c.rest) (omega arith)

-- ---- choices

few-else : (has_else : Bool) → length (else_choice has_else) ≤ 1
few-else true = omega arith
few-else false = omega arith

few-choices : (has_else : Bool) (all : List Open) → length all ≤ 33 → length (choices_of has_else all) ≤ 100
few-choices has_else all h =
    let us : List Choice = filter_map accept_choice all in
    let vs : List Choice = else_choice has_else in
    let ws : List Choice = filter_map (delay_choice all) all in
    let xs : List Choice = filter_map terminate_choice all in
    omega (
      arith,
      h,
      length-append us (vs ++ (ws ++ xs)),
      length-append vs (ws ++ xs),
      length-append ws xs,
      few-mapped accept_choice all,
      few-else has_else,
      few-mapped (delay_choice all) all,
      few-mapped terminate_choice all,
    )

few-stand : (choices : List Choice) → length choices ≤ 100 → choices_in (offered (choices_stand choices)) ≤ 100
few-stand [] h = omega arith
few-stand (c ∷ choices) h = h

few-wait : (has_else : Bool) (r : Result (List Open) Raised) → ((os : List Open) → r ≡ Ok os → length os ≤ 33) → choices_in (offered (wait_stand has_else r)) ≤ 100
few-wait has_else (Ok all) h = few-stand (choices_of has_else all) (few-choices has_else all (h all refl))
few-wait has_else (Err x) h = omega arith

-- ---- where a task stands

no-choice-called : (f : CallForm) (r : Result Called Raised) → choices_in (offered (call_stand f r)) ≤ 100
no-choice-called f (Ok c) = omega arith
no-choice-called f (Err x) = omega arith

no-choice-named : (r : Result ℕ Raised) → choices_in (offered (name_stand r)) ≤ 100
no-choice-named (Ok x) = omega arith
no-choice-named (Err x) = omega arith

no-choice-aborted : (t : Task) (callees : List PCallee) → choices_in (offered (abort_stand t callees)) ≤ 100
no-choice-aborted t [] = omega arith
no-choice-aborted t (c ∷ callees) = no-choice-named (callee_task t.setting (vars_of t) c)

few-at : (t : Task) (x : PStmt) (loops : Loops) → HasFewAlternatives loops x → choices_in (offered (stand_at t x)) ≤ 100
few-at t (SCall c s) loops h = no-choice-called form.Plain (called t.setting (vars_of t) c)
few-at t (SConditional c l o s) loops h = no-choice-called form.Conditional (called t.setting (vars_of t) c)
few-at t (STimed c l d o s) loops h = no-choice-called form.Timed (called t.setting (vars_of t) c)
few-at t (SAccept a s) loops h = few-wait false (open_at t (SAccept a s)) (λ os q. one-open t a os q)
few-at t (SWait x o s) loops h =
    few-wait (is_present o) (open_at t (SWait x o s)) (λ os q. let few : length os ≤ length (alt_places x) = few-open t x 0 os q in omega (arith, few, h))
few-at t (SAbort cs s) loops h = no-choice-aborted t cs
few-at t (SNull s) loops h = omega arith
few-at t (SAssign v e s) loops h = omega arith
few-at t (SDelay d s) loops h = omega arith
few-at t (SExit w e s) loops h = omega arith
few-at t (SRaise w s) loops h = omega arith
few-at t (SPut ps s) loops h = omega arith
few-at t (SPutLine ps s) loops h = omega arith
few-at t (SNewLine s) loops h = omega arith
few-at t (SGet v s) loops h = omega arith
few-at t (SIf x o s) loops h = omega arith
few-at t (SCase e x o s) loops h = omega arith
few-at t (SBlock b s) loops h = omega arith
few-at t (SLoop w x l s) loops h = omega arith

no-choice-behind : (place : Around) → choices_in (offered (stand_behind place)) ≤ 100
no-choice-behind (OwnBody handlers taken) = omega arith
no-choice-behind (Block handlers) = omega arith
no-choice-behind (Handling x) = omega arith
no-choice-behind (Loop name turns stmts) = omega arith
no-choice-behind (Opened caller formals pending) = omega arith

few-with : (t : Task) (rest : PStmts) (place : Around) (loops : Loops) → InStmts HasFewAlternatives loops rest → choices_in (offered (stand_with t rest place)) ≤ 100
few-with t no_stmt place loops h = no-choice-behind place
few-with t (stmt_then x rest) place loops h = few-at t x loops h.0.0

-- A task whose waits have few alternatives offers few choices.
pub few-offered : (t : Task) → HoldsOf HasFewAlternatives t → choices_in (offer_of t) ≤ 100
few-offered t h = few-with t (rest_of t) (place_of t) (loops_of (place_of t) (outer_of t)) h.rest

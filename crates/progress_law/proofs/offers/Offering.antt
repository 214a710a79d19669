-- What a task offers where it stands is known, by what is known of the statements there.
use Rattle.std.proofs.Common.{◌≡◌, ◌<◌, ◌≤◌, ◌+◌, ℕ, Bool, true, false, nat_lt, nat_le, if◌then◌else◌, List, [], ◌∷◌, ◌++◌, Option, Some, None, Result, Ok, Err, refl, ◌∙◌, subst, arith}
use Rattle.std.specs.List.{AllByRecursion, list_all, list_any, filter_map, cons_option}
use Rattle.std.proofs.lemmas.Bool.{and_from}
use Rattle.std.proofs.lemmas.List.Folds.{list_all-append}
use Rattle.std.proofs.lemmas.Option.{none-some}
use Rattle.common_lemmas.proofs.Numbers.{lt_true, le_true}
use Rattle.common_lemmas.proofs.Options.{some_same}
use Rattle.ada_tree.specs.PlainStmt.{PCallee, PCall, PStmt, SNull, SAssign, SDelay, SExit, SRaise, SAbort, SCall, SAccept, SWait, SConditional, STimed, SPut, SPutLine, SNewLine, SGet, SIf, SCase, SBlock, SLoop, PStmts, no_stmt, stmt_then, PAccept, accepting, alternative, PAltKind, AAccept, ADelay, ATerminate, PAlts, no_alt, alt_then}
use Rattle.ada_value.specs.declared.values.Raised.{Raised}
use Rattle.ada_value.specs.Values.{and_then}
use Rattle.event_machine.specs.declared.CallForm.{CallForm}
use Rattle.event_machine.specs.declared.CallForm.TheVariants as form
use Rattle.event_machine.specs.declared.Choice.{Choice}
use Rattle.event_machine.specs.declared.Choice.TheVariants as choice
use Rattle.event_machine.specs.Offers as offers
use Rattle.syn_event.specs.Numbering.{Numbering}
use Rattle.seq_file.specs.Known.{is_task, is_task_beside_main, is_known_member, is_alternative}
use Rattle.task_model.specs.Setting.{callee_task, member_index, entry_of}
use Rattle.task_model.specs.Frames.{Around, OwnBody, Block, Handling, Loop, Opened}
use Rattle.task_model.specs.Tasks.{Task, rest_of, place_of, vars_of, stmts_or_none}
use Rattle.task_model.specs.Calls.{Called, called}
use Rattle.task_model.specs.Waits.{Open, Accepts, Delays, Terminates, guard_holds, accept_opened, kind_opened, opened_if, delays_with, alternatives_open, open_at, accept_choice, is_shorter, delay_choice, terminate_choice, else_choice, choices_of, is_present}
use Rattle.task_model.specs.Stands.{Stand, stand_at, stand_behind, stand_with, offered, offer_of, call_stand, choices_stand, wait_stand, name_stand, abort_stand}
use Rattle.task_laws.specs.statements.Each.{Loops, InStmts, HoldsOf}
use Rattle.task_laws.proofs.invariants.Variables.{chain, ok_path}
use Rattle.task_laws.proofs.statements.Steps.{around}
use Rattle.race_variant.specs.KnownOffers.{is_known_choice, is_known_offer}
use Rattle.progress_law.specs.offers.inner.Stated.{IsKnownCall, IsKnownCallee, IsKnownAt, HasFewDelays, delays_behind}

-- ---- open delays

-- an open delay has the number of an alternative
abbrev IsFew : Open → Type 0
IsFew (Accepts e i head body behind) = Unit {0}
IsFew (Delays n duration stmts) = is_alternative n ≡ true
IsFew Terminates = Unit {0}

abbrev AllFew : List Open → Type 0
AllFew [] = Unit {0}
AllFew (o ∷ os) = IsFew o × AllFew os

at-least : (x : PAlts) (n : ℕ) → n ≤ delays_behind x n
at-least no_alt n = omega arith
at-least (alt_then (alternative guard what s) rest) n = by_kind what (at-least rest (delays_with what n))
  where
    by_kind : (kind : PAltKind) → delays_with kind n ≤ delays_behind rest (delays_with kind n) → n ≤ delays_behind rest (delays_with kind n)
    by_kind (AAccept accept stmts) h = h
    by_kind (ADelay duration stmts) h = omega (arith, h)
    by_kind ATerminate h = h

few-kind : (t : Task) (what : PAltKind) (n : ℕ) (o : Open) → delays_with what n ≤ 32 → kind_opened t what n ≡ Ok o → IsFew o
few-kind t (AAccept (accepting head stmts) behind) n o low q =
    let c = chain (member_index t.setting (vars_of t) (entry_of t.setting.numbers t.number head.entry.name) head.index)
    (λ i. Ok (Accepts (entry_of t.setting.numbers t.number head.entry.name) i head (stmts_or_none stmts) behind)) o q in
    subst IsFew (ok_path c.rest) tt
few-kind t (ADelay duration stmts) n o low q =
    subst IsFew (ok_path q) (and_from (nat_le 1 (n + 1)) (nat_le (n + 1) 32) (le_true 1 (n + 1) (omega arith)) (le_true (n + 1) 32 low))
few-kind t ATerminate n o low q = subst IsFew (ok_path q) tt

few-alternatives : (t : Task) (alts : PAlts) (n : ℕ) (os : List Open) → delays_behind alts n ≤ 32 → alternatives_open t alts n ≡ Ok os → AllFew os
few-alternatives t no_alt n os low q = subst AllFew (ok_path q) tt
few-alternatives t (alt_then (alternative guard what s) rest) n os low q =
    let c = chain (guard_holds t guard) (λ b. opened_if b (kind_opened t what n) (alternatives_open t rest (delays_with what n))) os q in
    by_test c.value c.rest (λ ps r. few-alternatives t rest (delays_with what n) ps low r)
  where
    here : delays_with what n ≤ 32
    here = let a : delays_with what n ≤ delays_behind rest (delays_with what n) = at-least rest (delays_with what n) in omega (arith, a, low)

    by_test : (b : Bool) → opened_if b (kind_opened t what n) (alternatives_open t rest (delays_with what n)) ≡ Ok os →
        ((ps : List Open) → alternatives_open t rest (delays_with what n) ≡ Ok ps → AllFew ps) → AllFew os
    by_test false r later = later os r
    by_test true r later =
        let c = chain (kind_opened t what n) (λ o. and_then (alternatives_open t rest (delays_with what n)) (λ ps. Ok (o ∷ ps))) os r in
        let d = chain (alternatives_open t rest (delays_with what n)) (λ ps. Ok (c.value ∷ ps)) os c.rest in
        subst AllFew (ok_path d.rest) (few-kind t what n c.value here c.first, later d.value d.first)

few-accept : (t : Task) (accept : PAccept) (s : Loops) (os : List Open) → and_then (accept_opened t accept no_stmt) (λ o. Ok (o ∷ [])) ≡ Ok os → AllFew os
few-accept t (accepting head stmts) s os q =
    let c = chain (accept_opened t (accepting head stmts) no_stmt) (λ o. Ok (o ∷ [])) os q in
    subst AllFew (ok_path c.rest) (few-kind t (AAccept (accepting head stmts) no_stmt) 0 c.value (omega arith) c.first, tt)

-- ---- choices

known-filtered : (f : Open → Option Choice) → ((o : Open) (c : Choice) → IsFew o → f o ≡ Some c → is_known_choice c ≡ true) → (os : List Open) → AllFew os →
    list_all is_known_choice (filter_map f os) ≡ true
known-filtered f each [] h = refl
known-filtered f each (o ∷ os) h = by_choice (f o) refl (known-filtered f each os h.1)
  where
    by_choice : (c : Option Choice) → f o ≡ c → list_all is_known_choice (filter_map f os) ≡ true → list_all is_known_choice (cons_option c (filter_map f os)) ≡ true
    by_choice None e later = later
    by_choice (Some c) e later = and_from (is_known_choice c) (list_all is_known_choice (filter_map f os)) (each o c h.0 e) later

known-accept : (o : Open) (c : Choice) → IsFew o → accept_choice o ≡ Some c → is_known_choice c ≡ true
known-accept (Accepts e i head body behind) c h q = subst (λ x. is_known_choice x ≡ true) (some_same q) refl
known-accept (Delays n duration stmts) c h q = absurd (none-some c q)
known-accept Terminates c h q = absurd (none-some c q)

known-delay : (all : List Open) (o : Open) (c : Choice) → IsFew o → delay_choice all o ≡ Some c → is_known_choice c ≡ true
known-delay all (Accepts e i head body behind) c h q = absurd (none-some c q)
known-delay all (Delays n duration stmts) c h q = by_test (list_any (is_shorter duration) all) q
  where
    by_test : (b : Bool) → (if b then None else Some (choice.Delay n)) ≡ Some c → is_known_choice c ≡ true
    by_test true r = absurd (none-some c r)
    by_test false r = subst (λ x. is_known_choice x ≡ true) (some_same r) h
known-delay all Terminates c h q = absurd (none-some c q)

known-terminate : (o : Open) (c : Choice) → IsFew o → terminate_choice o ≡ Some c → is_known_choice c ≡ true
known-terminate (Accepts e i head body behind) c h q = absurd (none-some c q)
known-terminate (Delays n duration stmts) c h q = absurd (none-some c q)
known-terminate Terminates c h q = subst (λ x. is_known_choice x ≡ true) (some_same q) refl

known-else : (has_else : Bool) → list_all is_known_choice (else_choice has_else) ≡ true
known-else true = refl
known-else false = refl

known-both : (xs ys : List Choice) → list_all is_known_choice xs ≡ true → list_all is_known_choice ys ≡ true → list_all is_known_choice (xs ++ ys) ≡ true
known-both xs ys h k = list_all-append is_known_choice xs ys ∙ and_from (list_all is_known_choice xs) (list_all is_known_choice ys) h k

known-choices : (has_else : Bool) (all : List Open) → AllFew all → list_all is_known_choice (choices_of has_else all) ≡ true
known-choices has_else all h =
    known-both (filter_map accept_choice all) (else_choice has_else ++ (filter_map (delay_choice all) all ++ filter_map terminate_choice all))
    (known-filtered accept_choice known-accept all h)
    (known-both (else_choice has_else) (filter_map (delay_choice all) all ++ filter_map terminate_choice all) (known-else has_else)
    (known-both (filter_map (delay_choice all) all) (filter_map terminate_choice all) (known-filtered (delay_choice all) (known-delay all) all h) (known-filtered terminate_choice known-terminate all h)))

-- ---- offers

module _ (t : Task) (there : is_task t.setting.numbers t.number ≡ true) where
  abbrev numbers : Numbering
  numbers = t.setting.numbers

  abbrev Known : Stand → Type 0
  Known s = is_known_offer numbers t.number (offered s) ≡ true

  beside : 0 < t.number → is_task_beside_main numbers t.number ≡ true
  beside more = and_from (is_task numbers t.number) (nat_lt 0 t.number) there (lt_true 0 t.number more)

  known-call : (f : CallForm) (c : PCall) → IsKnownCall t.setting c → Known (call_stand f (called t.setting (vars_of t) c))
  known-call f c h = by_result (called t.setting (vars_of t) c) refl
    where
      by_result : (r : Result Called Raised) → called t.setting (vars_of t) c ≡ r → Known (call_stand f r)
      by_result (Ok x) e = and_from (is_task numbers t.number) (is_known_member numbers x.entry x.index) there (h (vars_of t) x e)
      by_result (Err x) e = refl

  known-abort : (xs : List PCallee) → AllByRecursion (IsKnownCallee t.setting) xs → Known (abort_stand t xs)
  known-abort [] h = refl
  known-abort (x ∷ xs) h = by_result (callee_task t.setting (vars_of t) x) refl
    where
      by_result : (r : Result ℕ Raised) → callee_task t.setting (vars_of t) x ≡ r → Known (name_stand r)
      by_result (Ok n) e = and_from (is_task numbers t.number) (is_task_beside_main numbers n) there (h.0 (vars_of t) n e)
      by_result (Err y) e = refl

  known-wait : (has_else : Bool) (r : Result (List Open) Raised) → ((os : List Open) → r ≡ Ok os → AllFew os) → 0 < t.number → Known (wait_stand has_else r)
  known-wait has_else (Ok all) few more = by_choices (choices_of has_else all) (known-choices has_else all (few all refl))
    where
      by_choices : (cs : List Choice) → list_all is_known_choice cs ≡ true → Known (choices_stand cs)
      by_choices [] e = refl
      by_choices (c ∷ cs) e = and_from (is_task_beside_main numbers t.number) (list_all is_known_choice (c ∷ cs)) (beside more) e
  known-wait has_else (Err x) few more = refl

  known-at : (s : PStmt) (loops : Loops) → IsKnownAt t.setting t.number loops s → HasFewDelays loops s → Known (stand_at t s)
  known-at (SCall c s) loops h few = known-call form.Plain c h
  known-at (SConditional c more otherwise s) loops h few = known-call form.Conditional c h
  known-at (STimed c more duration after s) loops h few = known-call form.Timed c h
  known-at (SAbort xs s) loops h few = known-abort xs h
  known-at (SAccept accept s) loops h few = known-wait false (open_at t (SAccept accept s)) (λ os q. few-accept t accept loops os q) h
  known-at (SWait alts otherwise s) loops h few = known-wait (is_present otherwise) (open_at t (SWait alts otherwise s)) (λ os q. few-alternatives t alts 0 os few q) h
  known-at (SNull s) loops h few = refl
  known-at (SAssign target e s) loops h few = refl
  known-at (SDelay duration s) loops h few = refl
  known-at (SExit w test s) loops h few = refl
  known-at (SRaise w s) loops h few = refl
  known-at (SPut parts s) loops h few = refl
  known-at (SPutLine parts s) loops h few = refl
  known-at (SNewLine s) loops h few = refl
  known-at (SGet target s) loops h few = refl
  known-at (SIf arms otherwise s) loops h few = refl
  known-at (SCase e arms others s) loops h few = refl
  known-at (SBlock b s) loops h few = refl
  known-at (SLoop name scheme stmts s) loops h few = refl

  known-behind : (place : Around) → (offered (stand_behind place) ≡ offers.Finishes → 0 < t.number) → Known (stand_behind place)
  known-behind (OwnBody handlers taken) ends = there
  known-behind (Block handlers) ends = refl
  known-behind (Handling x) ends = refl
  known-behind (Loop name turns stmts) ends = refl
  known-behind (Opened caller formals pending) ends = beside (ends refl)

  known-with : (rest : PStmts) (place : Around) (loops : Loops) → InStmts (IsKnownAt t.setting t.number) loops rest → InStmts HasFewDelays loops rest →
      (offered (stand_with t rest place) ≡ offers.Finishes → 0 < t.number) → Known (stand_with t rest place)
  known-with no_stmt place loops h few ends = known-behind place ends
  known-with (stmt_then s rest) place loops h few ends = known-at s loops h.0.0 few.0.0

  -- where only a task beside main finishes a rendezvous
  pub offer-known : HoldsOf (IsKnownAt t.setting t.number) t → HoldsOf HasFewDelays t → (offer_of t ≡ offers.Finishes → 0 < t.number) →
      is_known_offer numbers t.number (offer_of t) ≡ true
  offer-known h few ends = known-with (rest_of t) (place_of t) (around HasFewDelays t) h.rest few.rest ends

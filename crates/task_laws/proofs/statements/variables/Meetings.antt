-- The variables of a task are held after a rendezvous starts or ends, and after the other parts of calls, waits and aborts.
use Rattle.std.proofs.Common.{◌≡◌, ℕ, ℤ, Bool, true, false, if◌then◌else◌, List, [], ◌∷◌, find, drop, Option, Some, None, Result, Ok, Err, refl, sym, subst}
use Rattle.std.proofs.lemmas.Option.{none-some}
use Rattle.std.specs.List.{AllByRecursion}
use Rattle.common_lemmas.proofs.Options.{some_same}
use Rattle.ada_tree.specs.PlainStmt.{PCall, PStmt, SNull, SAssign, SDelay, SExit, SRaise, SAbort, SCall, SAccept, SWait, SConditional, STimed, SPut, SPutLine, SNewLine, SGet, SIf, SCase, SBlock, SLoop, PStmts, no_stmt, stmt_then, PAccept, accepting, alternative, PAltKind, AAccept, ADelay, ATerminate, PAlts, no_alt, alt_then}
use Rattle.ada_value.specs.declared.values.Value.{Value}
use Rattle.ada_value.specs.declared.values.Raised.{Raised}
use Rattle.ada_value.specs.declared.values.Raised.TheVariants as raised
use Rattle.ada_value.specs.Values.{and_then}
use Rattle.ada_value.specs.Variables.{Variables}
use Rattle.task_model.specs.declared.parameters.FormalParameter.{FormalParameter}
use Rattle.task_model.specs.Setting.{member_index, entry_of, parameters_of, entry_parameters, lists_of}
use Rattle.task_model.specs.Frames.{Around, OwnBody, Block, Handling, Loop, Opened, PFrame, in_front, brought}
use Rattle.task_model.specs.Tasks.{Task, rest_of, place_of, outer_of, vars_of, with_vars, stmts_or_none}
use Rattle.task_model.specs.Calls.{Called, Copies, called, call_in, values_handed}
use Rattle.task_model.specs.Waits.{Open, Accepts, Delays, Terminates, guard_holds, accept_opened, kind_opened, opened_if, delays_with, alternatives_open, open_at, accepts_member, first_accepting, accepting_at, alternative_for, delay_stmts}
use Rattle.task_model.specs.Rendezvous as rendezvous
use Rattle.task_laws.proofs.invariants.Variables.{chain, ok_path, opened_drop}
use Rattle.task_laws.specs.statements.Each.{InStmts, HoldsOf}
use Rattle.task_laws.specs.statements.variables.Held.{AreKept, AreInner, InAccept, InKind, InAlternatives, DeclaresInner, FirstInner, HeldIn, HoldsVariables}
use Rattle.task_laws.proofs.statements.Steps.{around}
use Rattle.task_laws.proofs.statements.variables.Kept.{all-kept, copied-kept, opened-first, formals-inner}
use Rattle.task_laws.proofs.statements.variables.Steps.{changes, goes, goes-raised}

module _ (inner : ℕ → Bool) (start : Variables) where
  abbrev Holds : Task → Type 0
  Holds t = HoldsVariables inner start t

  -- ---- open alternatives

  -- the formals of an open accept have such names
  abbrev InnerOpen : Open → Type 0
  InnerOpen (Accepts e i head body behind) = AreInner inner head.formals
  InnerOpen (Delays k duration stmts) = Unit {0}
  InnerOpen Terminates = Unit {0}

  abbrev InnerAll : List Open → Type 0
  InnerAll [] = Unit {0}
  InnerAll (o ∷ os) = InnerOpen o × InnerAll os

  of-accept : (t : Task) (accept : PAccept) (behind : PStmts) (o : Open) → InAccept inner accept → accept_opened t accept behind ≡ Ok o → InnerOpen o
  of-accept t (accepting head stmts) behind o h q =
      let c = chain (member_index t.setting (vars_of t) (entry_of t.setting.numbers t.number head.entry.name) head.index) (λ i. Ok (Accepts (entry_of t.setting.numbers t.number head.entry.name) i head (stmts_or_none stmts) behind)) o q in
      subst InnerOpen (ok_path c.rest) h

  of-kind : (t : Task) (what : PAltKind) (k : ℕ) (o : Open) → InKind inner what → kind_opened t what k ≡ Ok o → InnerOpen o
  of-kind t (AAccept accept stmts) k o h q = of-accept t accept stmts o h q
  of-kind t (ADelay duration stmts) k o h q = subst InnerOpen (ok_path q) tt
  of-kind t ATerminate k o h q = subst InnerOpen (ok_path q) tt

  of-alternatives : (t : Task) (alts : PAlts) (k : ℕ) (os : List Open) → InAlternatives inner alts → alternatives_open t alts k ≡ Ok os → InnerAll os
  of-alternatives t no_alt k os h q = subst InnerAll (ok_path q) tt
  of-alternatives t (alt_then (alternative guard what s) rest) k os h q =
      let c = chain (guard_holds t guard) (λ b. opened_if b (kind_opened t what k) (alternatives_open t rest (delays_with what k))) os q in
      by_test c.value c.rest (λ ps r. of-alternatives t rest (delays_with what k) ps h.1 r)
    where
      by_test : (b : Bool) → opened_if b (kind_opened t what k) (alternatives_open t rest (delays_with what k)) ≡ Ok os →
          ((ps : List Open) → alternatives_open t rest (delays_with what k) ≡ Ok ps → InnerAll ps) → InnerAll os
      by_test false r later = later os r
      by_test true r later =
          let c = chain (kind_opened t what k) (λ o. and_then (alternatives_open t rest (delays_with what k)) (λ ps. Ok (o ∷ ps))) os r in
          let d = chain (alternatives_open t rest (delays_with what k)) (λ ps. Ok (c.value ∷ ps)) os c.rest in
          subst InnerAll (ok_path d.rest) (of-kind t what k c.value h.0 c.first, later d.value d.first)

  none-open : (os : List Open) → ◌≡◌ {A = Result (List Open) Raised} (Ok []) (Ok os) → InnerAll os
  none-open os q = subst InnerAll (ok_path q) tt

  of-open : (t : Task) (s : PStmt) (os : List Open) → DeclaresInner inner (around (DeclaresInner inner) t) s → open_at t s ≡ Ok os → InnerAll os
  of-open t (SAccept accept s) os h q =
      let c = chain (accept_opened t accept no_stmt) (λ o. Ok (o ∷ [])) os q in subst InnerAll (ok_path c.rest) (of-accept t accept no_stmt c.value h c.first, tt)
  of-open t (SWait alts otherwise s) os h q = of-alternatives t alts 0 os h q
  of-open t (SNull s) os h q = none-open os q
  of-open t (SAssign target e s) os h q = none-open os q
  of-open t (SDelay duration s) os h q = none-open os q
  of-open t (SExit w test s) os h q = none-open os q
  of-open t (SRaise w s) os h q = none-open os q
  of-open t (SAbort callees s) os h q = none-open os q
  of-open t (SCall call s) os h q = none-open os q
  of-open t (SConditional call more otherwise s) os h q = none-open os q
  of-open t (STimed call more duration after s) os h q = none-open os q
  of-open t (SPut parts s) os h q = none-open os q
  of-open t (SPutLine parts s) os h q = none-open os q
  of-open t (SNewLine s) os h q = none-open os q
  of-open t (SGet target s) os h q = none-open os q
  of-open t (SIf arms otherwise s) os h q = none-open os q
  of-open t (SCase e arms others s) os h q = none-open os q
  of-open t (SBlock b s) os h q = none-open os q
  of-open t (SLoop name scheme stmts s) os h q = none-open os q

  of-found : (e : ℕ) (i : ℤ) (os : List Open) (o : Open) → InnerAll os → find (accepts_member e i) os ≡ Some o → InnerOpen o
  of-found e i [] o h q = absurd (none-some o q)
  of-found e i (p ∷ os) o h q = by_test (accepts_member e i p) q (of-found e i os o h.1)
    where
      by_test : (b : Bool) → (if b then Some p else find (accepts_member e i) os) ≡ Some o → (find (accepts_member e i) os ≡ Some o → InnerOpen o) → InnerOpen o
      by_test true r later = subst InnerOpen (some_same r) h.0
      by_test false r later = later r

  -- of the alternative that accepts a member
  of-alternative : (t : Task) (e : ℕ) (i : ℤ) (o : Open) → HoldsOf (DeclaresInner inner) t → alternative_for t e i ≡ Some o → InnerOpen o
  of-alternative t e i o h q = by_rest (rest_of t) h.rest q
    where
      by_open : (s : PStmt) → DeclaresInner inner (around (DeclaresInner inner) t) s → (r : Result (List Open) Raised) → open_at t s ≡ r → first_accepting e i r ≡ Some o → InnerOpen o
      by_open s k (Ok os) is r = of-found e i os o (of-open t s os k is) r
      by_open s k (Err x) is r = absurd (none-some o r)

      by_rest : (rest : PStmts) → InStmts (DeclaresInner inner) (around (DeclaresInner inner) t) rest → accepting_at t rest e i ≡ Some o → InnerOpen o
      by_rest no_stmt k r = absurd (none-some o r)
      by_rest (stmt_then s rest) k r = by_open s k.0.0 (open_at t s) refl r

  -- ---- a rendezvous starts

  body-opens : (caller : ℕ) (formals : List FormalParameter) (body behind : PStmts) (values : List Value) (t : Task) → AllByRecursion (λ (f : FormalParameter). inner f.name.0 ≡ true) formals → Holds t →
      Holds (rendezvous.body_opened caller formals body behind values t)
  body-opens caller formals body behind values t f h = (
    opened-first inner start t.setting.types formals values (vars_of t) f,
    subst (λ vars. FirstInner inner (brought (place_of t)) vars × HeldIn inner start (outer_of t) (drop (brought (place_of t)) vars)) (sym (opened_drop t.setting.types formals values (vars_of t))) h,
  )

  pub goes-accepted : (e : ℕ) (i : ℤ) (caller : ℕ) (calling t : Task) → HoldsOf (DeclaresInner inner) t → Holds t → Holds (rendezvous.accepted e i caller calling t)
  goes-accepted e i caller calling t d h = by_open (alternative_for t e i) refl
    where
      by_open : (o : Option Open) → alternative_for t e i ≡ o → Holds (rendezvous.alternative_opened caller o (values_handed calling) t)
      by_open None q = body-opens caller [] no_stmt no_stmt (values_handed calling) t tt h
      by_open (Some (Delays k duration stmts)) q = body-opens caller [] no_stmt no_stmt (values_handed calling) t tt h
      by_open (Some Terminates) q = body-opens caller [] no_stmt no_stmt (values_handed calling) t tt h
      by_open (Some (Accepts f j head body behind)) q =
          body-opens caller (parameters_of t.setting.types head.formals) body behind (values_handed calling) t
          (formals-inner inner start t.setting.types head.formals (of-alternative t e i (Accepts f j head body behind) d q)) h

  -- ---- a rendezvous ends

  goes-on : (pending : Option Raised) (t : Task) → Holds t → Holds (rendezvous.going_on pending t)
  goes-on None t h = goes inner start (rest_of t) t h
  goes-on (Some x) t h = goes-raised inner start x t h

  frame-left : (t : Task) (outer : List PFrame) → outer_of t ≡ outer → Holds t → Holds (rendezvous.frame_left t outer)
  frame-left t [] e h = h
  frame-left t (part ∷ parts) e h = subst (λ o. HeldIn inner start o (drop (brought (place_of t)) (vars_of t))) e h.1

  pub goes-finished : (t : Task) → Holds t → Holds (rendezvous.finished t)
  goes-finished t h = by_place (place_of t)
    where
      by_place : (place : Around) → Holds (rendezvous.body_closed place t)
      by_place (OwnBody handlers taken) = h
      by_place (Block handlers) = h
      by_place (Handling x) = h
      by_place (Loop name turns stmts) = h
      by_place (Opened caller formals pending) = goes-on pending (rendezvous.frame_left t (outer_of t)) (frame-left t (outer_of t) refl h)

  -- ---- callers

  copies-kept : (t : Task) (values : List Value) → AreKept (vars_of t) (rendezvous.copies_of t values).vars
  copies-kept t values = by_call (call_in (rest_of t))
    where
      ended : (call : PCall) (r : Result Called Raised) → AreKept (vars_of t) (rendezvous.call_ended t call r values).vars
      ended call (Ok c) = copied-kept (entry_parameters t.setting c.entry) (lists_of t.setting.numbers c.entry call.args).actuals values (vars_of t)
      ended call (Err x) = all-kept (vars_of t)

      by_call : (o : Option PCall) → AreKept (vars_of t) (rendezvous.copies_at t o values).vars
      by_call None = all-kept (vars_of t)
      by_call (Some call) = ended call (called t.setting (vars_of t) call)

  comes-back : (t : Task) (copies : Copies) (o : Option Raised) → AreKept (vars_of t) copies.vars → Holds t → Holds (rendezvous.come_back t copies o)
  comes-back t copies None k h = goes inner start (in_front (rendezvous.more_in (rest_of t)) (rendezvous.behind_of t)) (with_vars t copies.vars) (changes inner start t copies.vars k h)
  comes-back t copies (Some x) k h = goes-raised inner start x (with_vars t copies.vars) (changes inner start t copies.vars k h)

  pub goes-resumed : (acceptor t : Task) → Holds t → Holds (rendezvous.resumed acceptor t)
  goes-resumed acceptor t h = by_pending (rendezvous.pending_of acceptor)
    where
      by_pending : (o : Option Raised) → Holds (rendezvous.resumed_with o (rendezvous.finals_of acceptor) t)
      by_pending (Some x) = goes-raised inner start x t h
      by_pending None = comes-back t (rendezvous.copies_of t (rendezvous.finals_of acceptor)) (rendezvous.copies_of t (rendezvous.finals_of acceptor)).stopped (copies-kept t (rendezvous.finals_of acceptor)) h

  pub goes-failed : (t : Task) → Holds t → Holds (rendezvous.call_failed t)
  goes-failed t h = goes-raised inner start raised.Tasking t h

  -- ---- other parts

  pub goes-else : (t : Task) → Holds t → Holds (rendezvous.took_else t)
  goes-else t h = by_rest (rest_of t)
    where
      by_form : (s : PStmt) (behind : PStmts) → Holds (rendezvous.else_taken_at s behind t)
      by_form (SConditional call more otherwise s) behind = goes inner start (in_front otherwise behind) t h
      by_form (SWait alts otherwise s) behind = goes inner start (in_front (stmts_or_none otherwise) behind) t h
      by_form (SNull s) behind = h
      by_form (SAssign target e s) behind = h
      by_form (SDelay duration s) behind = h
      by_form (SExit w test s) behind = h
      by_form (SRaise w s) behind = h
      by_form (SAbort callees s) behind = h
      by_form (SCall call s) behind = h
      by_form (SAccept accept s) behind = h
      by_form (STimed call more duration after s) behind = h
      by_form (SPut parts s) behind = h
      by_form (SPutLine parts s) behind = h
      by_form (SNewLine s) behind = h
      by_form (SGet target s) behind = h
      by_form (SIf arms otherwise s) behind = h
      by_form (SCase e arms others s) behind = h
      by_form (SBlock b s) behind = h
      by_form (SLoop name scheme stmts s) behind = h

      by_rest : (rest : PStmts) → Holds (rendezvous.else_taken_in rest t)
      by_rest no_stmt = h
      by_rest (stmt_then s rest) = by_form s rest

  pub goes-delay : (n : ℕ) (t : Task) → Holds t → Holds (rendezvous.took_delay n t)
  goes-delay n t h = by_rest (rest_of t)
    where
      by_form : (s : PStmt) (behind : PStmts) → Holds (rendezvous.delay_taken_at n s behind t)
      by_form (STimed call more duration after s) behind = goes inner start (in_front after behind) t h
      by_form (SWait alts otherwise s) behind = goes inner start (in_front (delay_stmts alts 0 n) behind) t h
      by_form (SNull s) behind = h
      by_form (SAssign target e s) behind = h
      by_form (SDelay duration s) behind = h
      by_form (SExit w test s) behind = h
      by_form (SRaise w s) behind = h
      by_form (SAbort callees s) behind = h
      by_form (SCall call s) behind = h
      by_form (SAccept accept s) behind = h
      by_form (SConditional call more otherwise s) behind = h
      by_form (SPut parts s) behind = h
      by_form (SPutLine parts s) behind = h
      by_form (SNewLine s) behind = h
      by_form (SGet target s) behind = h
      by_form (SIf arms otherwise s) behind = h
      by_form (SCase e arms others s) behind = h
      by_form (SBlock b s) behind = h
      by_form (SLoop name scheme stmts s) behind = h

      by_rest : (rest : PStmts) → Holds (rendezvous.delay_taken_in n rest t)
      by_rest no_stmt = h
      by_rest (stmt_then s rest) = by_form s rest

  pub goes-passed : (t : Task) → Holds t → Holds (rendezvous.past_name t)
  goes-passed t h = by_rest (rest_of t)
    where
      by_form : (s : PStmt) (behind : PStmts) → Holds (rendezvous.passed_at s behind t)
      by_form (SAbort [] s) behind = h
      by_form (SAbort (callee ∷ callees) s) behind = goes inner start (rendezvous.names_left callees s behind) t h
      by_form (SNull s) behind = h
      by_form (SAssign target e s) behind = h
      by_form (SDelay duration s) behind = h
      by_form (SExit w test s) behind = h
      by_form (SRaise w s) behind = h
      by_form (SCall call s) behind = h
      by_form (SAccept accept s) behind = h
      by_form (SConditional call more otherwise s) behind = h
      by_form (STimed call more duration after s) behind = h
      by_form (SWait alts otherwise s) behind = h
      by_form (SPut parts s) behind = h
      by_form (SPutLine parts s) behind = h
      by_form (SNewLine s) behind = h
      by_form (SGet target s) behind = h
      by_form (SIf arms otherwise s) behind = h
      by_form (SCase e arms others s) behind = h
      by_form (SBlock b s) behind = h
      by_form (SLoop name scheme stmts s) behind = h

      by_rest : (rest : PStmts) → Holds (rendezvous.passed_in rest t)
      by_rest no_stmt = h
      by_rest (stmt_then s rest) = by_form s rest

-- What holds of each statement of a task holds after a rendezvous starts or ends, and after the other parts of calls, waits and aborts.
use Rattle.std.proofs.Common.{◌≡◌, ℕ, ℤ, ◌+◌, ◌==◌, Bool, true, false, if◌then◌else◌, List, [], ◌∷◌, find, Option, Some, None, Result, Ok, Err, refl}
use Rattle.std.proofs.lemmas.Option.{none-some}
use Rattle.common_lemmas.proofs.Options.{some_same}
use Rattle.std.proofs.Common.{subst}
use Rattle.ada_tree.specs.declared.naming.Span.{Span}
use Rattle.ada_tree.specs.PlainStmt.{PCallee, PStmt, SNull, SAssign, SDelay, SExit, SRaise, SAbort, SCall, SAccept, SWait, SConditional, STimed, SPut, SPutLine, SNewLine, SGet, SIf, SCase, SBlock, SLoop, PStmts, no_stmt, stmt_then, PAccept, accepting, alternative, PAltKind, AAccept, ADelay, ATerminate, PAlts, no_alt, alt_then}
use Rattle.ada_value.specs.declared.values.Value.{Value}
use Rattle.ada_value.specs.declared.values.Raised.{Raised}
use Rattle.ada_value.specs.declared.values.Raised.TheVariants as raised
use Rattle.ada_value.specs.Values.{and_then}
use Rattle.task_model.specs.declared.parameters.FormalParameter.{FormalParameter}
use Rattle.task_model.specs.Setting.{member_index, entry_of, parameters_of}
use Rattle.task_model.specs.Frames.{Around, OwnBody, Block, Handling, Loop, Opened, PFrame, in_front}
use Rattle.task_model.specs.Tasks.{Task, rest_of, place_of, outer_of, vars_of, stmts_or_none}
use Rattle.task_model.specs.Calls.{Copies, values_handed}
use Rattle.task_model.specs.Waits.{Open, Accepts, Delays, Terminates, guard_holds, accept_opened, kind_opened, opened_if, delays_with, alternatives_open, open_at, accepts_member, first_accepting, accepting_at, alternative_for, delay_part, delay_here, delay_stmts}
use Rattle.task_model.specs.Rendezvous as rendezvous
use Rattle.task_laws.proofs.invariants.Variables.{chain, ok_path}
use Rattle.task_laws.specs.statements.Each.{Loops, InParts, InStmts, InAccept, InAltKind, InAlts, InOuter, HoldsOf}
use Rattle.task_laws.proofs.statements.Frames.{joined}
use Rattle.task_laws.proofs.statements.Steps.{around, goes, goes-changed, goes-raised, goes-raised-with, goes-entered, of-maybe}

module _ (Each : Loops → PStmt → Type 0) where
  -- ---- open alternatives

  -- of the statements of an open accept, and of those behind it
  abbrev InOpen : Loops → Open → Type 0
  InOpen loops (Accepts e i head body behind) = InStmts Each [] body × InStmts Each loops behind
  InOpen loops (Delays k duration stmts) = Unit {0}
  InOpen loops Terminates = Unit {0}

  abbrev InAll : Loops → List Open → Type 0
  InAll loops [] = Unit {0}
  InAll loops (o ∷ os) = InOpen loops o × InAll loops os

  of-accept : (t : Task) (loops : Loops) (accept : PAccept) (behind : PStmts) (o : Open) → InAccept Each accept → InStmts Each loops behind → accept_opened t accept behind ≡ Ok o → InOpen loops o
  of-accept t loops (accepting head stmts) behind o h b q =
      let c = chain (member_index t.setting (vars_of t) (entry_of t.setting.numbers t.number head.entry.name) head.index) (λ i. Ok (Accepts (entry_of t.setting.numbers t.number head.entry.name) i head (stmts_or_none stmts) behind)) o q in
      subst (InOpen loops) (ok_path c.rest) (of-maybe Each [] stmts h, b)

  of-kind : (t : Task) (loops : Loops) (what : PAltKind) (k : ℕ) (o : Open) → InAltKind Each loops what → kind_opened t what k ≡ Ok o → InOpen loops o
  of-kind t loops (AAccept accept stmts) k o h q = of-accept t loops accept stmts o h.0 h.1 q
  of-kind t loops (ADelay duration stmts) k o h q = subst (InOpen loops) (ok_path q) tt
  of-kind t loops ATerminate k o h q = subst (InOpen loops) (ok_path q) tt

  of-alternatives : (t : Task) (loops : Loops) (alts : PAlts) (k : ℕ) (os : List Open) → InAlts Each loops alts → alternatives_open t alts k ≡ Ok os → InAll loops os
  of-alternatives t loops no_alt k os h q = subst (InAll loops) (ok_path q) tt
  of-alternatives t loops (alt_then (alternative guard what s) rest) k os h q =
      let c = chain (guard_holds t guard) (λ b. opened_if b (kind_opened t what k) (alternatives_open t rest (delays_with what k))) os q in
      by_test c.value c.rest (λ ps r. of-alternatives t loops rest (delays_with what k) ps h.1 r)
    where
      by_test : (b : Bool) → opened_if b (kind_opened t what k) (alternatives_open t rest (delays_with what k)) ≡ Ok os →
          ((ps : List Open) → alternatives_open t rest (delays_with what k) ≡ Ok ps → InAll loops ps) → InAll loops os
      by_test false r later = later os r
      by_test true r later =
          let c = chain (kind_opened t what k) (λ o. and_then (alternatives_open t rest (delays_with what k)) (λ ps. Ok (o ∷ ps))) os r in
          let d = chain (alternatives_open t rest (delays_with what k)) (λ ps. Ok (c.value ∷ ps)) os c.rest in
          subst (InAll loops) (ok_path d.rest) (of-kind t loops what k c.value h.0 c.first, later d.value d.first)

  none-open : (loops : Loops) (os : List Open) → ◌≡◌ {A = Result (List Open) Raised} (Ok []) (Ok os) → InAll loops os
  none-open loops os q = subst (InAll loops) (ok_path q) tt

  of-open : (t : Task) (loops : Loops) (s : PStmt) (os : List Open) → InParts Each loops s → open_at t s ≡ Ok os → InAll loops os
  of-open t loops (SAccept accept s) os h q =
      let c = chain (accept_opened t accept no_stmt) (λ o. Ok (o ∷ [])) os q in subst (InAll loops) (ok_path c.rest) (of-accept t loops accept no_stmt c.value h tt c.first, tt)
  of-open t loops (SWait alts otherwise s) os h q = of-alternatives t loops alts 0 os h.0 q
  of-open t loops (SNull s) os h q = none-open loops os q
  of-open t loops (SAssign target e s) os h q = none-open loops os q
  of-open t loops (SDelay duration s) os h q = none-open loops os q
  of-open t loops (SExit w test s) os h q = none-open loops os q
  of-open t loops (SRaise w s) os h q = none-open loops os q
  of-open t loops (SAbort callees s) os h q = none-open loops os q
  of-open t loops (SCall call s) os h q = none-open loops os q
  of-open t loops (SConditional call more otherwise s) os h q = none-open loops os q
  of-open t loops (STimed call more duration after s) os h q = none-open loops os q
  of-open t loops (SPut parts s) os h q = none-open loops os q
  of-open t loops (SPutLine parts s) os h q = none-open loops os q
  of-open t loops (SNewLine s) os h q = none-open loops os q
  of-open t loops (SGet target s) os h q = none-open loops os q
  of-open t loops (SIf arms otherwise s) os h q = none-open loops os q
  of-open t loops (SCase e arms others s) os h q = none-open loops os q
  of-open t loops (SBlock b s) os h q = none-open loops os q
  of-open t loops (SLoop name scheme stmts s) os h q = none-open loops os q

  of-found : (loops : Loops) (e : ℕ) (i : ℤ) (os : List Open) (o : Open) → InAll loops os → find (accepts_member e i) os ≡ Some o → InOpen loops o
  of-found loops e i [] o h q = absurd (none-some o q)
  of-found loops e i (p ∷ os) o h q = by_test (accepts_member e i p) q (of-found loops e i os o h.1)
    where
      by_test : (b : Bool) → (if b then Some p else find (accepts_member e i) os) ≡ Some o → (find (accepts_member e i) os ≡ Some o → InOpen loops o) → InOpen loops o
      by_test true r later = subst (InOpen loops) (some_same r) h.0
      by_test false r later = later r

  -- of the alternative that accepts a member
  of-alternative : (t : Task) (e : ℕ) (i : ℤ) (o : Open) → HoldsOf Each t → alternative_for t e i ≡ Some o → InOpen (around Each t) o
  of-alternative t e i o h q = by_rest (rest_of t) h.rest q
    where
      by_open : (s : PStmt) → InParts Each (around Each t) s → (r : Result (List Open) Raised) → open_at t s ≡ r → first_accepting e i r ≡ Some o → InOpen (around Each t) o
      by_open s k (Ok os) is r = of-found (around Each t) e i os o (of-open t (around Each t) s os k is) r
      by_open s k (Err x) is r = absurd (none-some o r)

      by_rest : (rest : PStmts) → InStmts Each (around Each t) rest → accepting_at t rest e i ≡ Some o → InOpen (around Each t) o
      by_rest no_stmt k r = absurd (none-some o r)
      by_rest (stmt_then s rest) k r = by_open s k.0.1 (open_at t s) refl r

  -- ---- a rendezvous starts

  behind-holds : (loops : Loops) (rest : PStmts) → InStmts Each loops rest → InStmts Each loops (rendezvous.behind_in rest)
  behind-holds loops no_stmt i = tt
  behind-holds loops (stmt_then s rest) i = i.1

  body-opens : (caller : ℕ) (formals : List FormalParameter) (body behind : PStmts) (values : List Value) (t : Task) → InStmts Each [] body → InStmts Each (around Each t) behind → HoldsOf Each t →
      HoldsOf Each (rendezvous.body_opened caller formals body behind values t)
  body-opens caller formals body behind values t b r h = record {
    rest = b;
    place = tt;
    outer = ((joined Each (around Each t) behind (rendezvous.behind_of t) r (behind-holds (around Each t) (rest_of t) h.rest), h.place), h.outer);
  }

  pub goes-accepted : (e : ℕ) (i : ℤ) (caller : ℕ) (calling t : Task) → HoldsOf Each t → HoldsOf Each (rendezvous.accepted e i caller calling t)
  goes-accepted e i caller calling t h = by_open (alternative_for t e i) refl
    where
      by_open : (o : Option Open) → alternative_for t e i ≡ o → HoldsOf Each (rendezvous.alternative_opened caller o (values_handed calling) t)
      by_open None q = body-opens caller [] no_stmt no_stmt (values_handed calling) t tt tt h
      by_open (Some (Delays k duration stmts)) q = body-opens caller [] no_stmt no_stmt (values_handed calling) t tt tt h
      by_open (Some Terminates) q = body-opens caller [] no_stmt no_stmt (values_handed calling) t tt tt h
      by_open (Some (Accepts f j head body behind)) q =
          let o = of-alternative t e i (Accepts f j head body behind) h q in body-opens caller (parameters_of t.setting.types head.formals) body behind (values_handed calling) t o.0 o.1 h

  -- ---- a rendezvous ends

  goes-on : (pending : Option Raised) (t : Task) → HoldsOf Each t → HoldsOf Each (rendezvous.going_on pending t)
  goes-on None t h = goes Each (rest_of t) t h.rest h
  goes-on (Some x) t h = goes-raised Each x t h

  frame-left : (t : Task) (outer : List PFrame) → outer_of t ≡ outer → HoldsOf Each t → HoldsOf Each (rendezvous.frame_left t outer)
  frame-left t [] e h = h
  frame-left t (part ∷ parts) e h = let o = subst (InOuter Each) e h.outer in record { rest = o.0.0; place = o.0.1; outer = o.1 }

  pub goes-finished : (t : Task) → HoldsOf Each t → HoldsOf Each (rendezvous.finished t)
  goes-finished t h = by_place (place_of t)
    where
      by_place : (place : Around) → HoldsOf Each (rendezvous.body_closed place t)
      by_place (OwnBody handlers taken) = h
      by_place (Block handlers) = h
      by_place (Handling x) = h
      by_place (Loop name turns stmts) = h
      by_place (Opened caller formals pending) = goes-on pending (rendezvous.frame_left t (outer_of t)) (frame-left t (outer_of t) refl h)

  -- ---- callers

  more-holds : (loops : Loops) (rest : PStmts) → InStmts Each loops rest → InStmts Each loops (rendezvous.more_in rest)
  more-holds loops no_stmt i = tt
  more-holds loops (stmt_then s rest) i = by_form s i.0.1
    where
      by_form : (x : PStmt) → InParts Each loops x → InStmts Each loops (rendezvous.more_at x)
      by_form (SConditional call more otherwise s) k = k.0
      by_form (STimed call more duration after s) k = k.0
      by_form (SNull s) k = tt
      by_form (SAssign target e s) k = tt
      by_form (SDelay duration s) k = tt
      by_form (SExit w test s) k = tt
      by_form (SRaise w s) k = tt
      by_form (SAbort callees s) k = tt
      by_form (SCall call s) k = tt
      by_form (SAccept accept s) k = tt
      by_form (SWait alts otherwise s) k = tt
      by_form (SPut parts s) k = tt
      by_form (SPutLine parts s) k = tt
      by_form (SNewLine s) k = tt
      by_form (SGet target s) k = tt
      by_form (SIf arms otherwise s) k = tt
      by_form (SCase e arms others s) k = tt
      by_form (SBlock b s) k = tt
      by_form (SLoop name scheme stmts s) k = tt

  comes-back : (t : Task) (copies : Copies) (o : Option Raised) → HoldsOf Each t → HoldsOf Each (rendezvous.come_back t copies o)
  comes-back t copies None h =
      goes-changed Each (in_front (rendezvous.more_in (rest_of t)) (rendezvous.behind_of t)) t copies.vars
      (joined Each (around Each t) (rendezvous.more_in (rest_of t)) (rendezvous.behind_of t) (more-holds (around Each t) (rest_of t) h.rest) (behind-holds (around Each t) (rest_of t) h.rest)) h
  comes-back t copies (Some x) h = goes-raised-with Each x t copies.vars h

  pub goes-resumed : (acceptor t : Task) → HoldsOf Each t → HoldsOf Each (rendezvous.resumed acceptor t)
  goes-resumed acceptor t h = by_pending (rendezvous.pending_of acceptor)
    where
      by_pending : (o : Option Raised) → HoldsOf Each (rendezvous.resumed_with o (rendezvous.finals_of acceptor) t)
      by_pending (Some x) = goes-raised Each x t h
      by_pending None = comes-back t (rendezvous.copies_of t (rendezvous.finals_of acceptor)) (rendezvous.copies_of t (rendezvous.finals_of acceptor)).stopped h

  pub goes-failed : (t : Task) → HoldsOf Each t → HoldsOf Each (rendezvous.call_failed t)
  goes-failed t h = goes-raised Each raised.Tasking t h

  -- ---- other parts

  of-delay : (loops : Loops) (alts : PAlts) (m k : ℕ) → InAlts Each loops alts → InStmts Each loops (delay_stmts alts m k)
  of-delay loops no_alt m k h = tt
  of-delay loops (alt_then (alternative guard what s) rest) m k h = by_kind what h.0 (k == m + 1) (of-delay loops rest (delays_with what m) k h.1)
    where
      by_kind : (kind : PAltKind) → InAltKind Each loops kind → (b : Bool) → InStmts Each loops (delay_stmts rest (delays_with what m) k) → InStmts Each loops (delay_here (delay_part kind) b (delay_stmts rest (delays_with what m) k))
      by_kind (AAccept accept stmts) i b later = later
      by_kind (ADelay duration stmts) i true later = i
      by_kind (ADelay duration stmts) i false later = later
      by_kind ATerminate i b later = later

  else-taken : (s : PStmt) (behind : PStmts) (t : Task) → InParts Each (around Each t) s → InStmts Each (around Each t) behind → HoldsOf Each t → HoldsOf Each (rendezvous.else_taken_at s behind t)
  else-taken (SConditional call more otherwise s) behind t i b h = goes-entered Each otherwise behind t i.1 b h
  else-taken (SWait alts otherwise s) behind t i b h = goes-entered Each (stmts_or_none otherwise) behind t (of-maybe Each (around Each t) otherwise i.1) b h
  else-taken (SNull s) behind t i b h = h
  else-taken (SAssign target e s) behind t i b h = h
  else-taken (SDelay duration s) behind t i b h = h
  else-taken (SExit w test s) behind t i b h = h
  else-taken (SRaise w s) behind t i b h = h
  else-taken (SAbort callees s) behind t i b h = h
  else-taken (SCall call s) behind t i b h = h
  else-taken (SAccept accept s) behind t i b h = h
  else-taken (STimed call more duration after s) behind t i b h = h
  else-taken (SPut parts s) behind t i b h = h
  else-taken (SPutLine parts s) behind t i b h = h
  else-taken (SNewLine s) behind t i b h = h
  else-taken (SGet target s) behind t i b h = h
  else-taken (SIf arms otherwise s) behind t i b h = h
  else-taken (SCase e arms others s) behind t i b h = h
  else-taken (SBlock its s) behind t i b h = h
  else-taken (SLoop name scheme stmts s) behind t i b h = h

  pub goes-else : (t : Task) → HoldsOf Each t → HoldsOf Each (rendezvous.took_else t)
  goes-else t h = by_rest (rest_of t) h.rest
    where
      by_rest : (rest : PStmts) → InStmts Each (around Each t) rest → HoldsOf Each (rendezvous.else_taken_in rest t)
      by_rest no_stmt i = h
      by_rest (stmt_then s rest) i = else-taken s rest t i.0.1 i.1 h

  delay-taken : (n : ℕ) (s : PStmt) (behind : PStmts) (t : Task) → InParts Each (around Each t) s → InStmts Each (around Each t) behind → HoldsOf Each t → HoldsOf Each (rendezvous.delay_taken_at n s behind t)
  delay-taken n (STimed call more duration after s) behind t i b h = goes-entered Each after behind t i.1 b h
  delay-taken n (SWait alts otherwise s) behind t i b h = goes-entered Each (delay_stmts alts 0 n) behind t (of-delay (around Each t) alts 0 n i.0) b h
  delay-taken n (SNull s) behind t i b h = h
  delay-taken n (SAssign target e s) behind t i b h = h
  delay-taken n (SDelay duration s) behind t i b h = h
  delay-taken n (SExit w test s) behind t i b h = h
  delay-taken n (SRaise w s) behind t i b h = h
  delay-taken n (SAbort callees s) behind t i b h = h
  delay-taken n (SCall call s) behind t i b h = h
  delay-taken n (SAccept accept s) behind t i b h = h
  delay-taken n (SConditional call more otherwise s) behind t i b h = h
  delay-taken n (SPut parts s) behind t i b h = h
  delay-taken n (SPutLine parts s) behind t i b h = h
  delay-taken n (SNewLine s) behind t i b h = h
  delay-taken n (SGet target s) behind t i b h = h
  delay-taken n (SIf arms otherwise s) behind t i b h = h
  delay-taken n (SCase e arms others s) behind t i b h = h
  delay-taken n (SBlock its s) behind t i b h = h
  delay-taken n (SLoop name scheme stmts s) behind t i b h = h

  pub goes-delay : (n : ℕ) (t : Task) → HoldsOf Each t → HoldsOf Each (rendezvous.took_delay n t)
  goes-delay n t h = by_rest (rest_of t) h.rest
    where
      by_rest : (rest : PStmts) → InStmts Each (around Each t) rest → HoldsOf Each (rendezvous.delay_taken_in n rest t)
      by_rest no_stmt i = h
      by_rest (stmt_then s rest) i = delay-taken n s rest t i.0.1 i.1 h

  -- ---- names of aborts

  -- what holds of an abort statement holds of it without its first name
  module _ (shorter : (loops : Loops) (c d : PCallee) (cs : List PCallee) (s : Span) → Each loops (SAbort (c ∷ d ∷ cs) s) → Each loops (SAbort (d ∷ cs) s)) where
    name-passed : (s : PStmt) (behind : PStmts) (t : Task) → Each (around Each t) s → InStmts Each (around Each t) behind → HoldsOf Each t → HoldsOf Each (rendezvous.passed_at s behind t)
    name-passed (SAbort [] s) behind t i b h = h
    name-passed (SAbort (c ∷ []) s) behind t i b h = goes Each behind t b h
    name-passed (SAbort (c ∷ (d ∷ cs)) s) behind t i b h = goes Each (stmt_then (SAbort (d ∷ cs) s) behind) t ((shorter (around Each t) c d cs s i, tt), b) h
    name-passed (SNull s) behind t i b h = h
    name-passed (SAssign target e s) behind t i b h = h
    name-passed (SDelay duration s) behind t i b h = h
    name-passed (SExit w test s) behind t i b h = h
    name-passed (SRaise w s) behind t i b h = h
    name-passed (SCall call s) behind t i b h = h
    name-passed (SAccept accept s) behind t i b h = h
    name-passed (SWait alts otherwise s) behind t i b h = h
    name-passed (SConditional call more otherwise s) behind t i b h = h
    name-passed (STimed call more duration after s) behind t i b h = h
    name-passed (SPut parts s) behind t i b h = h
    name-passed (SPutLine parts s) behind t i b h = h
    name-passed (SNewLine s) behind t i b h = h
    name-passed (SGet target s) behind t i b h = h
    name-passed (SIf arms otherwise s) behind t i b h = h
    name-passed (SCase e arms others s) behind t i b h = h
    name-passed (SBlock its s) behind t i b h = h
    name-passed (SLoop name scheme stmts s) behind t i b h = h

    pub goes-passed : (t : Task) → HoldsOf Each t → HoldsOf Each (rendezvous.past_name t)
    goes-passed t h = by_rest (rest_of t) h.rest
      where
        by_rest : (rest : PStmts) → InStmts Each (around Each t) rest → HoldsOf Each (rendezvous.passed_in rest t)
        by_rest no_stmt i = h
        by_rest (stmt_then s rest) i = name-passed s rest t i.0.0 i.1 h

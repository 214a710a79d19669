-- What a rendezvous, its end, and the other parts of calls, waits and aborts leave of a task's statements, of its accept bodies and of the formals
-- that they hold (6.2, 9.5, 9.7, 9.10).
use Rattle.std.proofs.Common.{◌≡◌, inl, inr, ℕ, ℤ, Bool, true, false, List, [], ◌∷◌, ◌++◌, Option, Some, None, Result, Ok, Err, drop, length, refl, sym, subst}
use Rattle.std.specs.Prelude.{find, if◌then◌else◌, ◌+◌, ◌==◌, ◌⊎◌}
use Rattle.ada_tree.specs.PlainStmt.{PHead, PCall, PStmt, SNull, SAssign, SDelay, SExit, SRaise, SAbort, SCall, SAccept, SWait, SConditional, STimed, SPut, SPutLine, SNewLine, SGet, SIf, SCase, SBlock, SLoop, PStmts, no_stmt, stmt_then, PAccept, accepting, alternative, PAltKind, AAccept, ADelay, ATerminate, PAlts, no_alt, alt_then}
use Rattle.ada_value.specs.declared.values.Value.{Value}
use Rattle.ada_value.specs.declared.values.Raised.{Raised}
use Rattle.ada_value.specs.declared.values.Raised.TheVariants as raised
use Rattle.ada_value.specs.Values.{and_then}
use Rattle.ada_value.specs.Variables.{Variables}
use Rattle.task_model.specs.declared.parameters.FormalParameter.{FormalParameter}
use Rattle.task_model.specs.Setting.{Setting, entry_of, member_index, entry_parameters, lists_of}
use Rattle.task_model.specs.Frames.{Around, OwnBody, Block, Handling, Loop, Opened, PFrame, control, in_front}
use Rattle.task_model.specs.Tasks.{Task, rest_of, place_of, outer_of, vars_of, stmts_or_none, entered}
use Rattle.task_model.specs.Calls.{Called, called, call_in, opened_objects, Copies}
use Rattle.task_model.specs.Waits.{Open, Accepts, Delays, Terminates, guard_holds, accept_opened, kind_opened, delays_with, opened_if, alternatives_open, open_at, accepts_member, first_accepting, accepting_at, alternative_for, delay_part, delay_here, delay_stmts}
use Rattle.task_model.specs.Rendezvous as rendezvous
use Rattle.task_laws.specs.invariants.AcceptHeads.{InStmt, InStmts, InAccept, InAltKind, InAlts}
use Rattle.task_laws.specs.invariants.Holding.{AreHeld, HeldIn, Opening, openings_in}
use Rattle.task_laws.proofs.invariants.Variables.{AreSame, same_self, copied_same, ok_path, chain, opened_drop}
use Rattle.task_laws.proofs.invariants.Frames.{Good, in_front_in}
use Rattle.task_laws.proofs.invariants.Steady.{Goes, Stays, goes_gone, goes_changed, goes_raised, goes_raised_with, goes_itself, maybe_in}
use Rattle.event_machine.proofs.Basics.{none_some, some_path}

module _ (Head : PHead → Type 0) where
  -- ---- open alternatives

  -- an open accept is of a head of the statement, with its statements
  abbrev pub InOpen : Task → Open → Type 0
  InOpen t (Accepts e i head body behind) = (Head head × (e ≡ entry_of t.setting.numbers t.number head.entry.name)) × (InStmts Head body × InStmts Head behind)
  InOpen t (Delays k duration stmts) = Unit {0}
  InOpen t Terminates = Unit {0}

  abbrev pub EachOpen : Task → List Open → Type 0
  EachOpen t [] = Unit {0}
  EachOpen t (o ∷ os) = InOpen t o × EachOpen t os

  accept_in : (t : Task) (accept : PAccept) (behind : PStmts) (o : Open) → InAccept Head accept → InStmts Head behind → accept_opened t accept behind ≡ Ok o → InOpen t o
  accept_in t (accepting head stmts) behind o h b q =
      let c = chain (member_index t.setting (vars_of t) (entry_of t.setting.numbers t.number head.entry.name) head.index)
      (λ i. Ok (Accepts (entry_of t.setting.numbers t.number head.entry.name) i head (stmts_or_none stmts) behind)) o q in
      subst (InOpen t) (ok_path c.rest) ((h.0, refl), (maybe_in Head stmts h.1, b))

  kind_in : (t : Task) (what : PAltKind) (k : ℕ) (o : Open) → InAltKind Head what → kind_opened t what k ≡ Ok o → InOpen t o
  kind_in t (AAccept accept stmts) k o h q = accept_in t accept stmts o h.0 h.1 q
  kind_in t (ADelay duration stmts) k o h q = subst (InOpen t) (ok_path q) tt
  kind_in t ATerminate k o h q = subst (InOpen t) (ok_path q) tt

  alternatives_in : (t : Task) (alts : PAlts) (k : ℕ) (os : List Open) → InAlts Head alts → alternatives_open t alts k ≡ Ok os → EachOpen t os
  alternatives_in t no_alt k os h q = subst (EachOpen t) (ok_path q) tt
  alternatives_in t (alt_then (alternative guard what s) rest) k os h q =
      let c = chain (guard_holds t guard) (λ b. opened_if b (kind_opened t what k) (alternatives_open t rest (delays_with what k))) os q in
      go c.value c.rest (λ ps r. alternatives_in t rest (delays_with what k) ps h.1 r)
    where
      go : (b : Bool) → opened_if b (kind_opened t what k) (alternatives_open t rest (delays_with what k)) ≡ Ok os →
          ((ps : List Open) → alternatives_open t rest (delays_with what k) ≡ Ok ps → EachOpen t ps) → EachOpen t os
      go false r later = later os r
      go true r later =
          let c = chain (kind_opened t what k) (λ o. and_then (alternatives_open t rest (delays_with what k)) (λ ps. Ok (o ∷ ps))) os r in
          let d = chain (alternatives_open t rest (delays_with what k)) (λ ps. Ok (c.value ∷ ps)) os c.rest in
          subst (EachOpen t) (ok_path d.rest) (kind_in t what k c.value h.0 c.first, later d.value d.first)

  none_in : (t : Task) (os : List Open) → ◌≡◌ {A = Result (List Open) Raised} (Ok []) (Ok os) → EachOpen t os
  none_in t os q = subst (EachOpen t) (ok_path q) tt

  open_in : (t : Task) (s : PStmt) (os : List Open) → InStmt Head s → open_at t s ≡ Ok os → EachOpen t os
  open_in t (SAccept accept s) os h q =
      let c = chain (accept_opened t accept no_stmt) (λ o. Ok (o ∷ [])) os q in
      subst (EachOpen t) (ok_path c.rest) (accept_in t accept no_stmt c.value h tt c.first, tt)
  open_in t (SWait alts otherwise s) os h q = alternatives_in t alts 0 os h.0 q
  open_in t (SNull s) os h q = none_in t os q
  open_in t (SAssign target e s) os h q = none_in t os q
  open_in t (SDelay duration s) os h q = none_in t os q
  open_in t (SExit w test s) os h q = none_in t os q
  open_in t (SRaise w s) os h q = none_in t os q
  open_in t (SAbort callees s) os h q = none_in t os q
  open_in t (SCall call s) os h q = none_in t os q
  open_in t (SConditional call more otherwise s) os h q = none_in t os q
  open_in t (STimed call more duration after s) os h q = none_in t os q
  open_in t (SPut parts s) os h q = none_in t os q
  open_in t (SPutLine parts s) os h q = none_in t os q
  open_in t (SNewLine s) os h q = none_in t os q
  open_in t (SGet target s) os h q = none_in t os q
  open_in t (SIf arms otherwise s) os h q = none_in t os q
  open_in t (SCase e arms others s) os h q = none_in t os q
  open_in t (SBlock b s) os h q = none_in t os q
  open_in t (SLoop name scheme stmts s) os h q = none_in t os q

  -- the alternative that accepts a member is one of the open ones
  pub record Found (t : Task) (e : ℕ) (i : ℤ) (o : Open) : Type 0 where
    pub inside : InOpen t o
    pub accepts : accepts_member e i o ≡ true

  find_in : (t : Task) (e : ℕ) (i : ℤ) (os : List Open) (o : Open) → EachOpen t os → find (accepts_member e i) os ≡ Some o → Found t e i o
  find_in t e i [] o h q = absurd (none_some q)
  find_in t e i (p ∷ os) o h q = go (find_in t e i os o h.1) (accepts_member e i p) refl q
    where
      go : (find (accepts_member e i) os ≡ Some o → Found t e i o) → (b : Bool) → accepts_member e i p ≡ b → (if b then Some p else find (accepts_member e i) os) ≡ Some o → Found t e i o
      go later true a r = subst (Found t e i) (some_path r) (record { inside = h.0; accepts = a })
      go later false a r = later r

  pub found_for : (t : Task) (e : ℕ) (i : ℤ) (o : Open) → InStmts Head (rest_of t) → alternative_for t e i ≡ Some o → Found t e i o
  found_for t e i o h q = go (rest_of t) h q
    where
      at : (s : PStmt) → InStmt Head s → (r : Result (List Open) Raised) → open_at t s ≡ r → first_accepting e i r ≡ Some o → Found t e i o
      at s k (Ok os) is r = find_in t e i os o (open_in t s os k is) r
      at s k (Err x) is r = absurd (none_some r)

      go : (rest : PStmts) → InStmts Head rest → accepting_at t rest e i ≡ Some o → Found t e i o
      go no_stmt k r = absurd (none_some r)
      go (stmt_then s rest) k r = at s k.0 (open_at t s) refl r

  -- ---- a rendezvous starts

  -- the acceptor in its new accept body
  pub good_opened : (caller : ℕ) (formals : List FormalParameter) (body behind : PStmts) (values : List Value) (t : Task) → InStmts Head body → InStmts Head behind → Stays Head t →
      AreHeld formals (opened_objects t.setting.types formals values ++ vars_of t) →
      Good Head (record { caller = caller; formals = formals } ∷ openings_in t.control) (rendezvous.body_opened caller formals body behind values t).control
  good_opened caller formals body behind values t b r k h = record {
    rest = b;
    place = tt;
    outer = ((in_front_in Head behind (rendezvous.behind_of t) r (behind_in_rest (rest_of t) k.rest), k.place), k.outer);
    held = (h, subst (λ vars. HeldIn (record { rest = in_front behind (rendezvous.behind_of t); place = place_of t } ∷ outer_of t) vars) (sym (opened_drop t.setting.types formals values (vars_of t))) k.held);
    same = refl;
  }
    where
      behind_in_rest : (rest : PStmts) → InStmts Head rest → InStmts Head (rendezvous.behind_in rest)
      behind_in_rest no_stmt i = tt
      behind_in_rest (stmt_then s rest) i = i.1

  behind_of_in : (t : Task) → InStmts Head (rest_of t) → InStmts Head (rendezvous.behind_of t)
  behind_of_in t h = go (rest_of t) h
    where
      go : (rest : PStmts) → InStmts Head rest → InStmts Head (rendezvous.behind_in rest)
      go no_stmt i = tt
      go (stmt_then s rest) i = i.1

  -- ---- a rendezvous ends

  -- The task u goes on from t behind an accept body, if it stood in one: that body is no more among the opened ones.
  pub record Leaves (t u : Task) : Type 0 where
    pub openings : List Opening
    pub good : Good Head openings u.control
    pub setting : u.setting ≡ t.setting
    pub number : u.number ≡ t.number
    pub from : (openings_in t.control ≡ openings) ⊎ ((o : Opening) × (openings_in t.control ≡ o ∷ openings))

  leaves_goes : (t u : Task) → Goes Head t u → Leaves t u
  leaves_goes t u g = record { openings = openings_in t.control; good = g.good; setting = g.setting; number = g.number; from = inl refl }

  goes_on : (o : Option Raised) (t : Task) → Stays Head t → Goes Head t (rendezvous.going_on o t)
  goes_on None t k = goes_gone Head (rest_of t) t k.rest k
  goes_on (Some x) t k = goes_raised Head x t k

  abbrev task_at : Setting → ℕ → List ℤ → List ℕ → PStmts → Around → List PFrame → Variables → Task
  task_at g n input output rest place outer vars = record { setting = g; number = n; control = control rest place outer vars; input = input; output = output }

  leaves_at : (g : Setting) (n : ℕ) (input : List ℤ) (output : List ℕ) (rest : PStmts) (place : Around) (outer : List PFrame) (vars : Variables) →
      Stays Head (task_at g n input output rest place outer vars) → Leaves (task_at g n input output rest place outer vars) (rendezvous.finished (task_at g n input output rest place outer vars))
  leaves_at g n input output rest (OwnBody handlers taken) outer vars k = leaves_goes _ _ (goes_itself Head _ k)
  leaves_at g n input output rest (Block handlers) outer vars k = leaves_goes _ _ (goes_itself Head _ k)
  leaves_at g n input output rest (Handling x) outer vars k = leaves_goes _ _ (goes_itself Head _ k)
  leaves_at g n input output rest (Loop name turns stmts) outer vars k = leaves_goes _ _ (goes_itself Head _ k)
  leaves_at g n input output rest (Opened caller formals pending) [] vars k = leaves_goes _ _ (goes_on pending (task_at g n input output rest (Opened caller formals pending) [] vars) k)
  leaves_at g n input output rest (Opened caller formals pending) (part ∷ parts) vars k =
      let u : Task = task_at g n input output part.rest part.place parts (drop (length formals) vars) in
      let h = goes_on pending u (record { rest = k.outer.0.0; place = k.outer.0.1; outer = k.outer.1; held = k.held.1 }) in
      record { openings = openings_in u.control; good = h.good; setting = h.setting; number = h.number; from = inr (record { caller = caller; formals = formals }, refl) }

  pub leaves_finished : (t : Task) → Stays Head t → Leaves t (rendezvous.finished t)
  leaves_finished t k = leaves_at t.setting t.number t.input t.output (rest_of t) (place_of t) (outer_of t) (vars_of t) k

  -- ---- callers

  more_of_in : (t : Task) → InStmts Head (rest_of t) → InStmts Head (rendezvous.more_in (rest_of t))
  more_of_in t h = go (rest_of t) h
    where
      at : (s : PStmt) → InStmt Head s → InStmts Head (rendezvous.more_at s)
      at (SConditional call more otherwise s) i = i.0
      at (STimed call more duration after s) i = i.0
      at (SNull s) i = tt
      at (SAssign target e s) i = tt
      at (SDelay duration s) i = tt
      at (SExit w test s) i = tt
      at (SRaise w s) i = tt
      at (SAbort callees s) i = tt
      at (SCall call s) i = tt
      at (SAccept accept s) i = tt
      at (SWait alts otherwise s) i = tt
      at (SPut parts s) i = tt
      at (SPutLine parts s) i = tt
      at (SNewLine s) i = tt
      at (SGet target s) i = tt
      at (SIf arms otherwise s) i = tt
      at (SCase e arms others s) i = tt
      at (SBlock b s) i = tt
      at (SLoop name scheme stmts s) i = tt

      go : (rest : PStmts) → InStmts Head rest → InStmts Head (rendezvous.more_in rest)
      go no_stmt i = tt
      go (stmt_then s rest) i = at s i.0

  copies_same : (t : Task) (values : List Value) → AreSame (vars_of t) (rendezvous.copies_of t values).vars
  copies_same t values = go (call_in (rest_of t))
    where
      ended : (call : PCall) (r : Result Called Raised) → AreSame (vars_of t) (rendezvous.call_ended t call r values).vars
      ended call (Ok c) = copied_same (entry_parameters t.setting c.entry) (lists_of t.setting.numbers c.entry call.args).actuals values (vars_of t)
      ended call (Err x) = same_self (vars_of t)

      go : (o : Option PCall) → AreSame (vars_of t) (rendezvous.copies_at t o values).vars
      go None = same_self (vars_of t)
      go (Some call) = ended call (called t.setting (vars_of t) call)

  goes_back : (t : Task) (copies : Copies) (o : Option Raised) → Stays Head t → AreSame (vars_of t) copies.vars → Goes Head t (rendezvous.come_back t copies o)
  goes_back t copies None k h =
      goes_changed Head (in_front (rendezvous.more_in (rest_of t)) (rendezvous.behind_of t)) t copies.vars
      (in_front_in Head (rendezvous.more_in (rest_of t)) (rendezvous.behind_of t) (more_of_in t k.rest) (behind_of_in t k.rest)) k h
  goes_back t copies (Some x) k h = goes_raised_with Head x t copies.vars k h

  pub goes_resumed : (acceptor t : Task) → Stays Head t → Goes Head t (rendezvous.resumed acceptor t)
  goes_resumed acceptor t k = go (rendezvous.pending_of acceptor)
    where
      go : (o : Option Raised) → Goes Head t (rendezvous.resumed_with o (rendezvous.finals_of acceptor) t)
      go (Some x) = goes_raised Head x t k
      go None = goes_back t (rendezvous.copies_of t (rendezvous.finals_of acceptor)) (rendezvous.copies_of t (rendezvous.finals_of acceptor)).stopped k (copies_same t (rendezvous.finals_of acceptor))

  pub goes_failed : (t : Task) → Stays Head t → Goes Head t (rendezvous.call_failed t)
  goes_failed t k = goes_raised Head raised.Tasking t k

  -- ---- other parts

  delay_in : (alts : PAlts) (m k : ℕ) → InAlts Head alts → InStmts Head (delay_stmts alts m k)
  delay_in no_alt m k h = tt
  delay_in (alt_then (alternative guard what s) rest) m k h = go what h.0 (k == m + 1) (delay_in rest (delays_with what m) k h.1)
    where
      go : (what' : PAltKind) → InAltKind Head what' → (b : Bool) → InStmts Head (delay_stmts rest (delays_with what m) k) → InStmts Head (delay_here (delay_part what') b (delay_stmts rest (delays_with what m) k))
      go (AAccept accept stmts) i b later = later
      go (ADelay duration stmts) i true later = i
      go (ADelay duration stmts) i false later = later
      go ATerminate i b later = later

  -- ---- else parts, delays, names of aborts

  goes_entered : (stmts : PStmts) (behind : PStmts) (t : Task) → InStmts Head stmts → InStmts Head behind → Stays Head t → Goes Head t (entered stmts behind t)
  goes_entered stmts behind t i b k = goes_gone Head (in_front stmts behind) t (in_front_in Head stmts behind i b) k

  else_at : (s : PStmt) (behind : PStmts) (t : Task) → InStmt Head s → InStmts Head behind → Stays Head t → Goes Head t (rendezvous.else_taken_at s behind t)
  else_at (SConditional call more otherwise s) behind t i b k = goes_entered otherwise behind t i.1 b k
  else_at (SWait alts otherwise s) behind t i b k = goes_entered (stmts_or_none otherwise) behind t (maybe_in Head otherwise i.1) b k
  else_at (SNull s) behind t i b k = goes_itself Head t k
  else_at (SAssign target e s) behind t i b k = goes_itself Head t k
  else_at (SDelay duration s) behind t i b k = goes_itself Head t k
  else_at (SExit w test s) behind t i b k = goes_itself Head t k
  else_at (SRaise w s) behind t i b k = goes_itself Head t k
  else_at (SAbort callees s) behind t i b k = goes_itself Head t k
  else_at (SCall call s) behind t i b k = goes_itself Head t k
  else_at (SAccept accept s) behind t i b k = goes_itself Head t k
  else_at (STimed call more duration after s) behind t i b k = goes_itself Head t k
  else_at (SPut parts s) behind t i b k = goes_itself Head t k
  else_at (SPutLine parts s) behind t i b k = goes_itself Head t k
  else_at (SNewLine s) behind t i b k = goes_itself Head t k
  else_at (SGet target s) behind t i b k = goes_itself Head t k
  else_at (SIf arms otherwise s) behind t i b k = goes_itself Head t k
  else_at (SCase e arms others s) behind t i b k = goes_itself Head t k
  else_at (SBlock its s) behind t i b k = goes_itself Head t k
  else_at (SLoop name scheme stmts s) behind t i b k = goes_itself Head t k

  pub goes_else : (t : Task) → Stays Head t → Goes Head t (rendezvous.took_else t)
  goes_else t k = go (rest_of t) k.rest
    where
      go : (rest : PStmts) → InStmts Head rest → Goes Head t (rendezvous.else_taken_in rest t)
      go no_stmt i = goes_itself Head t k
      go (stmt_then s rest) i = else_at s rest t i.0 i.1 k

  delay_at : (n : ℕ) (s : PStmt) (behind : PStmts) (t : Task) → InStmt Head s → InStmts Head behind → Stays Head t → Goes Head t (rendezvous.delay_taken_at n s behind t)
  delay_at n (STimed call more duration after s) behind t i b k = goes_entered after behind t i.1 b k
  delay_at n (SWait alts otherwise s) behind t i b k = goes_entered (delay_stmts alts 0 n) behind t (delay_in alts 0 n i.0) b k
  delay_at n (SNull s) behind t i b k = goes_itself Head t k
  delay_at n (SAssign target e s) behind t i b k = goes_itself Head t k
  delay_at n (SDelay duration s) behind t i b k = goes_itself Head t k
  delay_at n (SExit w test s) behind t i b k = goes_itself Head t k
  delay_at n (SRaise w s) behind t i b k = goes_itself Head t k
  delay_at n (SAbort callees s) behind t i b k = goes_itself Head t k
  delay_at n (SCall call s) behind t i b k = goes_itself Head t k
  delay_at n (SAccept accept s) behind t i b k = goes_itself Head t k
  delay_at n (SConditional call more otherwise s) behind t i b k = goes_itself Head t k
  delay_at n (SPut parts s) behind t i b k = goes_itself Head t k
  delay_at n (SPutLine parts s) behind t i b k = goes_itself Head t k
  delay_at n (SNewLine s) behind t i b k = goes_itself Head t k
  delay_at n (SGet target s) behind t i b k = goes_itself Head t k
  delay_at n (SIf arms otherwise s) behind t i b k = goes_itself Head t k
  delay_at n (SCase e arms others s) behind t i b k = goes_itself Head t k
  delay_at n (SBlock its s) behind t i b k = goes_itself Head t k
  delay_at n (SLoop name scheme stmts s) behind t i b k = goes_itself Head t k

  pub goes_delay : (n : ℕ) (t : Task) → Stays Head t → Goes Head t (rendezvous.took_delay n t)
  goes_delay n t k = go (rest_of t) k.rest
    where
      go : (rest : PStmts) → InStmts Head rest → Goes Head t (rendezvous.delay_taken_in n rest t)
      go no_stmt i = goes_itself Head t k
      go (stmt_then s rest) i = delay_at n s rest t i.0 i.1 k

  passed_at : (s : PStmt) (behind : PStmts) (t : Task) → InStmts Head behind → Stays Head t → Goes Head t (rendezvous.passed_at s behind t)
  passed_at (SAbort [] s) behind t b k = goes_itself Head t k
  passed_at (SAbort (callee ∷ []) s) behind t b k = goes_gone Head behind t b k
  passed_at (SAbort (callee ∷ (next ∷ callees)) s) behind t b k = goes_gone Head (stmt_then (SAbort (next ∷ callees) s) behind) t (tt, b) k
  passed_at (SNull s) behind t b k = goes_itself Head t k
  passed_at (SAssign target e s) behind t b k = goes_itself Head t k
  passed_at (SDelay duration s) behind t b k = goes_itself Head t k
  passed_at (SExit w test s) behind t b k = goes_itself Head t k
  passed_at (SRaise w s) behind t b k = goes_itself Head t k
  passed_at (SCall call s) behind t b k = goes_itself Head t k
  passed_at (SAccept accept s) behind t b k = goes_itself Head t k
  passed_at (SWait alts otherwise s) behind t b k = goes_itself Head t k
  passed_at (SConditional call more otherwise s) behind t b k = goes_itself Head t k
  passed_at (STimed call more duration after s) behind t b k = goes_itself Head t k
  passed_at (SPut parts s) behind t b k = goes_itself Head t k
  passed_at (SPutLine parts s) behind t b k = goes_itself Head t k
  passed_at (SNewLine s) behind t b k = goes_itself Head t k
  passed_at (SGet target s) behind t b k = goes_itself Head t k
  passed_at (SIf arms otherwise s) behind t b k = goes_itself Head t k
  passed_at (SCase e arms others s) behind t b k = goes_itself Head t k
  passed_at (SBlock its s) behind t b k = goes_itself Head t k
  passed_at (SLoop name scheme stmts s) behind t b k = goes_itself Head t k

  pub goes_passed : (t : Task) → Stays Head t → Goes Head t (rendezvous.past_name t)
  goes_passed t k = go (rest_of t) k.rest
    where
      go : (rest : PStmts) → InStmts Head rest → Goes Head t (rendezvous.passed_in rest t)
      go no_stmt i = goes_itself Head t k
      go (stmt_then s rest) i = passed_at s rest t i.1 k

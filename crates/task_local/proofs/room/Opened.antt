-- The statements of an open alternative are among those at which the task stands, so its accept body needs no more room (9.5, 9.7.1).
use Rattle.std.specs.Prelude.{ℕ, ℤ, ◌≤◌, ◌+◌, ◌==◌, Bool, true, false, if◌then◌else◌, List, [], ◌∷◌, Option, Some, None, Result, Ok, Err, IfOk, find}
use Rattle.ada_tree.specs.PlainStmt.{PStmt, SNull, SAssign, SDelay, SExit, SRaise, SAbort, SCall, SAccept, SWait, SConditional, STimed, SPut, SPutLine, SNewLine, SGet, SIf, SCase, SBlock, SLoop, PStmts, no_stmt, stmt_then, PAccept, accepting, alternative, PAltKind, AAccept, ADelay, ATerminate, PAlts, no_alt, alt_then}
use Rattle.ada_value.specs.declared.values.Value.{Value}
use Rattle.ada_value.specs.declared.values.Raised.{Raised}
use Rattle.ada_value.specs.Values.{and_then}
use Rattle.task_model.specs.declared.parameters.FormalParameter.{FormalParameter}
use Rattle.task_model.specs.Setting.{entry_of, member_index, parameters_of}
use Rattle.task_model.specs.Tasks.{Task, rest_of, vars_of, stmts_or_none}
use Rattle.task_model.specs.Calls.{values_handed}
use Rattle.task_model.specs.Waits.{Open, Accepts, Delays, Terminates, guard_holds, accept_opened, kind_opened, delays_with, opened_if, alternatives_open, open_at, accepts_member, first_accepting, accepting_at, alternative_for, delay_part, delay_here, delay_stmts}
use Rattle.task_model.specs.Rendezvous.{behind_in, behind_of, body_opened, alternative_opened, accepted}
use Rattle.task_waits.specs.Room.{widest_stmt, widest_accept, widest_kind, widest_alts}
use Rattle.task_local.specs.room.Fitting.{FitsStmts, HasRoom}
use Rattle.task_local.proofs.room.Frames.{left_fits, right_fits, none_fits, in_front_fits}
use Rattle.task_local.proofs.room.Steps.{maybe_fits}

module _ (n : ℕ) where
  pub behind_fits : (rest : PStmts) → FitsStmts n rest → FitsStmts n (behind_in rest)
  behind_fits no_stmt h = h
  behind_fits (stmt_then s rest) h = right_fits _ _ h

  -- ---- open alternatives

  -- the statements of the accept body, and those behind the accept
  abbrev FitsOpen : Open → Type 0
  FitsOpen (Accepts e i head body behind) = FitsStmts n body × FitsStmts n behind
  FitsOpen (Delays k duration stmts) = Unit {0}
  FitsOpen Terminates = Unit {0}

  abbrev FitsEach : List Open → Type 0
  FitsEach [] = Unit {0}
  FitsEach (o ∷ os) = FitsOpen o × FitsEach os

  -- of an alternative that may be none
  abbrev FitsOpened : Option Open → Type 0
  FitsOpened None = Unit {0}
  FitsOpened (Some o) = FitsOpen o

  accept_fits : (t : Task) (accept : PAccept) (behind : PStmts) → widest_accept accept ≤ n → FitsStmts n behind → IfOk (accept_opened t accept behind) FitsOpen
  accept_fits t (accepting head stmts) behind h b = go (member_index t.setting (vars_of t) (entry_of t.setting.numbers t.number head.entry.name) head.index)
    where
      go : (r : Result ℤ Raised) → IfOk (and_then r (λ i. Ok (Accepts (entry_of t.setting.numbers t.number head.entry.name) i head (stmts_or_none stmts) behind))) FitsOpen
      go (Ok i) = (maybe_fits n stmts h, b)
      go (Err x) = tt

  kind_fits : (t : Task) (what : PAltKind) (k : ℕ) → widest_kind what ≤ n → IfOk (kind_opened t what k) FitsOpen
  kind_fits t (AAccept accept stmts) k h = accept_fits t accept stmts (left_fits _ _ h) (right_fits _ _ h)
  kind_fits t (ADelay duration stmts) k h = tt
  kind_fits t ATerminate k h = tt

  opened_fit : (here : Result Open Raised) (rest : Result (List Open) Raised) → IfOk here FitsOpen → IfOk rest FitsEach → IfOk (opened_if true here rest) FitsEach
  opened_fit (Ok o) (Ok os) h k = (h, k)
  opened_fit (Ok o) (Err x) h k = tt
  opened_fit (Err x) rest h k = tt

  alternatives_fit : (t : Task) (alts : PAlts) (k : ℕ) → widest_alts alts ≤ n → IfOk (alternatives_open t alts k) FitsEach
  alternatives_fit t no_alt k h = tt
  alternatives_fit t (alt_then (alternative guard what s) rest) k h = go (guard_holds t guard) (alternatives_fit t rest (delays_with what k) (right_fits _ _ h))
    where
      go : (r : Result Bool Raised) → IfOk (alternatives_open t rest (delays_with what k)) FitsEach →
          IfOk (and_then r (λ b. opened_if b (kind_opened t what k) (alternatives_open t rest (delays_with what k)))) FitsEach
      go (Ok true) later = opened_fit (kind_opened t what k) (alternatives_open t rest (delays_with what k)) (kind_fits t what k (left_fits _ _ h)) later
      go (Ok false) later = later
      go (Err x) later = tt

  single_fits : (r : Result Open Raised) → IfOk r FitsOpen → IfOk (and_then r (λ o. Ok (o ∷ []))) FitsEach
  single_fits (Ok o) h = (h, tt)
  single_fits (Err x) h = tt

  open_fits : (t : Task) (s : PStmt) → widest_stmt s ≤ n → IfOk (open_at t s) FitsEach
  open_fits t (SAccept accept s) h = single_fits (accept_opened t accept no_stmt) (accept_fits t accept no_stmt (right_fits _ _ h) (none_fits n))
  open_fits t (SWait alts otherwise s) h = alternatives_fit t alts 0 (left_fits _ _ (right_fits _ _ h))
  open_fits t (SNull s) h = tt
  open_fits t (SAssign target e s) h = tt
  open_fits t (SDelay duration s) h = tt
  open_fits t (SExit w test s) h = tt
  open_fits t (SRaise w s) h = tt
  open_fits t (SAbort callees s) h = tt
  open_fits t (SCall call s) h = tt
  open_fits t (SConditional call more otherwise s) h = tt
  open_fits t (STimed call more duration after s) h = tt
  open_fits t (SPut parts s) h = tt
  open_fits t (SPutLine parts s) h = tt
  open_fits t (SNewLine s) h = tt
  open_fits t (SGet target s) h = tt
  open_fits t (SIf arms otherwise s) h = tt
  open_fits t (SCase e arms others s) h = tt
  open_fits t (SBlock b s) h = tt
  open_fits t (SLoop name scheme stmts s) h = tt

  -- ---- the one that accepts a member

  found_fits : (e : ℕ) (i : ℤ) (os : List Open) → FitsEach os → FitsOpened (find (accepts_member e i) os)
  found_fits e i [] h = tt
  found_fits e i (o ∷ os) h = go (accepts_member e i o) (found_fits e i os h.1)
    where
      go : (b : Bool) → FitsOpened (find (accepts_member e i) os) → FitsOpened (if b then Some o else find (accepts_member e i) os)
      go true later = h.0
      go false later = later

  first_fits : (e : ℕ) (i : ℤ) (r : Result (List Open) Raised) → IfOk r FitsEach → FitsOpened (first_accepting e i r)
  first_fits e i (Ok os) h = found_fits e i os h
  first_fits e i (Err x) h = tt

  accepting_fits : (t : Task) (rest : PStmts) (e : ℕ) (i : ℤ) → FitsStmts n rest → FitsOpened (accepting_at t rest e i)
  accepting_fits t no_stmt e i h = tt
  accepting_fits t (stmt_then s rest) e i h = first_fits e i (open_at t s) (open_fits t s (left_fits _ _ h))

  -- ---- a rendezvous starts

  pub body_has_room : (caller : ℕ) (formals : List FormalParameter) (body behind : PStmts) (values : List Value) (t : Task) → FitsStmts n body → FitsStmts n behind → HasRoom n t →
      HasRoom n (body_opened caller formals body behind values t)
  body_has_room caller formals body behind values t i b k = ((i, tt), ((in_front_fits n behind (behind_of t) b (behind_fits (rest_of t) k.0.0), k.0.1), k.1))

  opened_has_room : (caller : ℕ) (o : Option Open) (values : List Value) (t : Task) → FitsOpened o → HasRoom n t → HasRoom n (alternative_opened caller o values t)
  opened_has_room caller (Some (Accepts e i head body behind)) values t h k = body_has_room caller (parameters_of t.setting.types head.formals) body behind values t h.0 h.1 k
  opened_has_room caller (Some (Delays m duration stmts)) values t h k = body_has_room caller [] no_stmt no_stmt values t (none_fits n) (none_fits n) k
  opened_has_room caller (Some Terminates) values t h k = body_has_room caller [] no_stmt no_stmt values t (none_fits n) (none_fits n) k
  opened_has_room caller None values t h k = body_has_room caller [] no_stmt no_stmt values t (none_fits n) (none_fits n) k

  -- The alternative that accepts a member, where the task stands.
  pub alternative_has_room : (caller e : ℕ) (i : ℤ) (values : List Value) (t : Task) → HasRoom n t → HasRoom n (alternative_opened caller (alternative_for t e i) values t)
  alternative_has_room caller e i values t k = opened_has_room caller (alternative_for t e i) values t (accepting_fits t (rest_of t) e i k.0.0) k

  -- The acceptor as it has accepted a caller.
  pub accepted_has_room : (e : ℕ) (i : ℤ) (caller : ℕ) (calling t : Task) → HasRoom n t → HasRoom n (accepted e i caller calling t)
  accepted_has_room e i caller calling t k = alternative_has_room caller e i (values_handed calling) t k

  -- ---- delays

  pub delay_fits : (alts : PAlts) (m k : ℕ) → widest_alts alts ≤ n → FitsStmts n (delay_stmts alts m k)
  delay_fits no_alt m k h = none_fits n
  delay_fits (alt_then (alternative guard what s) rest) m k h = go what (left_fits _ _ h) (k == m + 1) (delay_fits rest (delays_with what m) k (right_fits _ _ h))
    where
      go : (what' : PAltKind) → widest_kind what' ≤ n → (b : Bool) → FitsStmts n (delay_stmts rest (delays_with what m) k) →
          FitsStmts n (delay_here (delay_part what') b (delay_stmts rest (delays_with what m) k))
      go (AAccept accept stmts) i b later = later
      go (ADelay duration stmts) i true later = i
      go (ADelay duration stmts) i false later = later
      go ATerminate i b later = later

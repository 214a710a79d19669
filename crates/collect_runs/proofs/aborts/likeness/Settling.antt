-- A task that is settled stays so whatever is done to it.
use Rattle.std.proofs.Common.{◌≡◌, ℕ, ℤ, true, List, [], ◌∷◌, Option, Some, None, Result, Ok, Err, refl, sym, ap, subst, true≢false}
use Rattle.run_laws.specs.collecting.Settings.{is_call}
use Rattle.ada_tree.specs.PlainStmt.{PCall, SNull, SAssign, SDelay, SExit, SRaise, SAbort, SCall, SAccept, SWait, SConditional, STimed, SPut, SPutLine, SNewLine, SGet, SIf, SCase, SBlock, SLoop, PStmts, no_stmt, stmt_then}
use Rattle.ada_value.specs.declared.values.Raised.{Raised}
use Rattle.ada_value.specs.declared.values.Raised.TheVariants as raised
use Rattle.ada_value.specs.declared.values.Value.{Value}
use Rattle.ada_value.specs.Variables.{Variables}
use Rattle.task_model.specs.Frames.{Around, Opened, PFrame, Control, control, in_front, settled_in, settled, raised_in}
use Rattle.task_model.specs.Tasks.{Task, with_vars}
use Rattle.task_model.specs.Calls.{Called, called, call_in, values_handed}
use Rattle.task_model.specs.Waits.{Open, alternative_for}
use Rattle.task_model.specs.Stands.{offer_of}
use Rattle.task_model.specs.TaskOps.{task_ops}
use Rattle.task_model.specs.Rendezvous.{accepted, resumed_with, call_failed, finals_of, pending_of, copies_of, copies_at, call_ended, come_back, going_on, more_in, behind_in, alternative_opened}
use Rattle.task_laws.specs.translation.Controls.{task_in}
use Rattle.collect_runs.specs.telling.Forms.{StaysSo}
use Rattle.collect_runs.specs.aborts.likeness.Likeness.{Ground, Beside, form, with_these, Near, AreCells, copies_in, Passes, LikeAt, IsLike, is_like, SettledAt, settled_here, settled_idle, IsSettled, is_settled, AreLike, are_like, IsSeen}
use Rattle.collect_runs.proofs.aborts.likeness.Near.{near-right}
use Rattle.collect_runs.proofs.aborts.likeness.Frames.{LikeThere, like_there, joined, at-settled, at-raised, settles}
use Rattle.collect_runs.proofs.aborts.likeness.Steps.{step-like}
use Rattle.collect_runs.proofs.aborts.likeness.Meetings as meetings

module _ (x : Ground) where
  -- ---- alike to itself

  own : (a b : Task) → IsLike x a b → a ≡ b → IsSettled x a
  own a b (is_like i w r q o V W h) e = is_settled i w (control r q o V) (settled_here r q o V (subst (λ U. LikeAt x r q o V U) (sym (ap (λ (t : Task). t.control.vars) e)) h))

  own-there : (c d : Control) → LikeThere x c d → c ≡ d → SettledAt x c
  own-there c d (like_there r q o V W h) e = settled_here r q o V (subst (λ U. LikeAt x r q o V U) (sym (ap (λ (t : Control). t.vars) e)) h)

  -- frames that are over are left
  at-end : (c : Control) → SettledAt x c → SettledAt x (settled c)
  at-end c (settled_here r q o V h) = own-there _ _ (at-settled x o r q V V h) refl
  at-end c (settled_idle r q o V caller pending s) = settled_idle r q o V caller pending s

  -- an exception is raised
  raises : (e : Raised) (c : Control) → SettledAt x c → SettledAt x (settled (raised_in e c.outer c.top.place c.vars))
  raises e c (settled_here r q o V h) = own-there _ _ (settles x (at-raised x e o q V V h.near h.inside h.outside)) refl
  raises e c (settled_idle r q o V caller pending s) = settled_idle r q o V caller (Some e) s

  module _ (i : List ℤ) (w : List ℕ) (r : PStmts) (q : Around) (o : List PFrame) (V : Variables) (like : LikeAt x r q o V V) (cells : AreCells x V) where
    abbrev c : Beside
    c = record { input = i; output = w; rest = r; place = q; outer = o }

    abbrev t : Task
    t = with_these x c V

    -- a statement is left out
    behind-passes : (l : PStmts) → Passes x l (Near x) V V → Passes x (behind_in l) (Near x) V V
    behind-passes no_stmt h = like.near
    behind-passes (stmt_then s b) h = h.1 V like.near

    more-passes : (l : PStmts) → Passes x l (Near x) V V → Passes x (in_front (more_in l) (behind_in l)) (Near x) V V
    more-passes no_stmt h = like.near
    more-passes (stmt_then (SConditional f l m s) b) h = joined x l b (Near x) V V ((h.0 cells).0.skipped V like.near)
    more-passes (stmt_then (STimed f l n m s) b) h = joined x l b (Near x) V V ((h.0 cells).0.skipped V like.near)
    more-passes (stmt_then (SNull s) b) h = h.1 V like.near
    more-passes (stmt_then (SAssign a f s) b) h = h.1 V like.near
    more-passes (stmt_then (SDelay d s) b) h = h.1 V like.near
    more-passes (stmt_then (SExit a f s) b) h = h.1 V like.near
    more-passes (stmt_then (SRaise a s) b) h = h.1 V like.near
    more-passes (stmt_then (SAbort a s) b) h = h.1 V like.near
    more-passes (stmt_then (SCall a s) b) h = h.1 V like.near
    more-passes (stmt_then (SAccept a s) b) h = h.1 V like.near
    more-passes (stmt_then (SWait a m s) b) h = h.1 V like.near
    more-passes (stmt_then (SPut a s) b) h = h.1 V like.near
    more-passes (stmt_then (SPutLine a s) b) h = h.1 V like.near
    more-passes (stmt_then (SNewLine s) b) h = h.1 V like.near
    more-passes (stmt_then (SGet a s) b) h = h.1 V like.near
    more-passes (stmt_then (SIf a f s) b) h = h.1 V like.near
    more-passes (stmt_then (SCase a f d s) b) h = h.1 V like.near
    more-passes (stmt_then (SBlock a s) b) h = h.1 V like.near
    more-passes (stmt_then (SLoop a f l s) b) h = h.1 V like.near

    -- nothing has come back
    stays-here : IsSettled x (come_back t (record { vars = V; stopped = None }) None)
    stays-here = is_settled i w _ (own-there _ _ (at-settled x o (in_front (more_in r) (behind_in r)) q V V (record { near = like.near; passes = more-passes r like.passes; inside = like.inside; outside = like.outside })) refl)

    returned-stays : (vs : List Value) → IsSettled x (come_back t (copies_of t vs) (copies_of t vs).stopped)
    returned-stays vs = by_call (call_in r) refl
      where
        by_stop : (d : PCall) → call_in r ≡ Some d → (a : Called) → called (form x) V d ≡ Ok a → (p : Option Raised) → IsSettled x (come_back t (copies_in x V d a vs) p)
        by_stop d e a g p =
            let k = meetings.call-passes x c V V like cells r like.passes d e in
            let U = (copies_in x V d a vs).vars in
            let n = near-right x V U (k.lost a g vs) in
            by_option p (own-there _ _ (at-settled x o (in_front (more_in r) (behind_in r)) q U U (record { near = n; passes = k.skipped U n; inside = like.inside; outside = like.outside })) refl)
            (λ f. own-there _ _ (settles x (at-raised x f o q U U n like.inside like.outside)) refl)
          where
            by_option : (p : Option Raised) → SettledAt x (settled_in o (in_front (more_in r) (behind_in r)) q (copies_in x V d a vs).vars) → ((f : Raised) → SettledAt x (settled (raised_in f o q (copies_in x V d a vs).vars))) →
                IsSettled x (come_back t (copies_in x V d a vs) p)
            by_option None h k = is_settled i w _ h
            by_option (Some f) h k = is_settled i w _ (k f)

        by_result : (d : PCall) → call_in r ≡ Some d → (a : Result Called Raised) → called (form x) V d ≡ a → IsSettled x (come_back t (call_ended t d a vs) (call_ended t d a vs).stopped)
        by_result d e (Err f) g = stays-here
        by_result d e (Ok a) g =
            by_stop d e a g (copies_in x V d a vs).stopped

        by_call : (k : Option PCall) → call_in r ≡ k → IsSettled x (come_back t (copies_at t k vs) (copies_at t k vs).stopped)
        by_call None e = stays-here
        by_call (Some d) e = by_result d e (called (form x) V d) refl

    resumed-stays : (p : Option Raised) (vs : List Value) → IsSettled x (resumed_with p vs t)
    resumed-stays (Some e) vs = is_settled i w _ (raises e (control r q o V) (settled_here r q o V like))
    resumed-stays None vs = returned-stays vs

    accepted-stays : (e : ℕ) (z : ℤ) (caller : ℕ) (v : Task) → IsSettled x (accepted e z caller v t)
    accepted-stays e z caller v = by_open (alternative_for t e z) refl
      where
        by_open : (a : Option Open) → alternative_for t e z ≡ a → IsSettled x (alternative_opened caller a (values_handed v) t)
        by_open None k =
            is_settled i w _ (settled_idle (behind_in r) q o V caller None
            (settled_here (behind_in r) q o V (record { near = like.near; passes = behind-passes r like.passes; inside = like.inside; outside = like.outside })))
        by_open (Some a) k = own _ _ (meetings.opened-like x c V V like cells e z caller (values_handed v) a k) refl

  -- ---- whatever is done

  -- the acceptor behind its body
  behind-idle : (i : List ℤ) (w : List ℕ) (p : Option Raised) (c : Control) → SettledAt x c → IsSettled x (going_on p (task_in (form x) x.number i w c))
  behind-idle i w None c s = is_settled i w _ (at-end c s)
  behind-idle i w (Some e) c s = is_settled i w _ (raises e c s)

  idle-resumed : (i : List ℤ) (w : List ℕ) (p : Option Raised) (vs : List Value) (r : PStmts) (q : Around) (o : List PFrame) (V : Variables) (caller : ℕ) (pending : Option Raised) → SettledAt x (control r q o V) →
      IsSettled x (resumed_with p vs (task_in (form x) x.number i w (control no_stmt (Opened caller [] pending) (record { rest = r; place = q } ∷ o) V)))
  idle-resumed i w None vs r q o V caller pending s = is_settled i w _ (settled_idle r q o V caller pending s)
  idle-resumed i w (Some e) vs r q o V caller pending s = is_settled i w _ (settled_idle r q o V caller (Some e) s)

  pub settled-stays : (σ : Task) → IsSeen x σ → IsSettled x σ → StaysSo (IsSettled x) σ
  settled-stays σ seen (is_settled i w _ (settled_here r q o V h)) =
      let c : Beside = record { input = i; output = w; rest = r; place = q; outer = o } in
      record {
        stepped = own _ _ (step-like x c V V h seen.cells seen.brought) refl;
        accepted = λ e z caller v. accepted-stays i w r q o V h seen.cells e z caller v;
        finished = own _ _ (meetings.finished-like x c V V h seen.cells) refl;
        resumed = λ v. resumed-stays i w r q o V h seen.cells (pending_of v) (finals_of v);
        raised = own _ _ (meetings.failed-like x c V V h seen.cells) refl;
        took_else = own _ _ (meetings.else-like x c V V h seen.cells) refl;
        took_delay = λ k. own _ _ (meetings.delay-like x c V V h seen.cells k) refl;
      }
  settled-stays σ seen (is_settled i w _ (settled_idle r q o V caller pending s)) = record {
    stepped = is_settled i w _ (settled_idle r q o V caller pending s);
    accepted = λ e z other v. is_settled i w _ (settled_idle no_stmt (Opened caller [] pending) (record { rest = r; place = q } ∷ o) V other None (settled_idle r q o V caller pending s));
    finished = behind-idle i w pending (control r q o V) s;
    resumed = λ v. idle-resumed i w (pending_of v) (finals_of v) r q o V caller pending s;
    raised = is_settled i w _ (settled_idle r q o V caller (Some raised.Tasking) s);
    took_else = is_settled i w _ (settled_idle r q o V caller pending s);
    took_delay = λ k. is_settled i w _ (settled_idle r q o V caller pending s);
  }

  pub settled-passed : (σ : Task) → IsSeen x σ → IsSettled x σ → IsSettled x (task_ops.passed σ)
  settled-passed σ seen (is_settled i w _ (settled_here r q o V h)) = own _ _ (meetings.passed-like x (record { input = i; output = w; rest = r; place = q; outer = o }) V V h seen.cells) refl
  settled-passed σ seen (is_settled i w _ (settled_idle r q o V caller pending s)) = is_settled i w _ (settled_idle r q o V caller pending s)

  -- ---- a lost call

  pub lost-alike : (σ : Task) (vs : List Value) → IsSeen x σ → IsSettled x σ → is_call (offer_of σ) ≡ true → AreLike x (call_failed σ) (call_failed (with_vars σ (copies_of σ vs).vars))
  lost-alike σ vs seen (is_settled i w _ (settled_here r q o V h)) k =
      let c : Beside = record { input = i; output = w; rest = r; place = q; outer = o } in
      are_like _ _ (meetings.lost-like x c V V h seen.cells (meetings.is-called x c V V h seen.cells k) vs)
  lost-alike σ vs seen (is_settled i w _ (settled_idle r q o V caller pending s)) k = absurd (true≢false (sym k))

  pub lost-settled : (σ : Task) (vs : List Value) → IsSeen x σ → IsSettled x σ → is_call (offer_of σ) ≡ true → IsSettled x (call_failed (with_vars σ (copies_of σ vs).vars))
  lost-settled σ vs seen (is_settled i w _ (settled_here r q o V h)) k =
      let c : Beside = record { input = i; output = w; rest = r; place = q; outer = o } in
      own _ _ (meetings.lost-self x c V V h seen.cells (meetings.is-called x c V V h seen.cells k) vs) refl
  lost-settled σ vs seen (is_settled i w _ (settled_idle r q o V caller pending s)) k = absurd (true≢false (sym k))

-- Two tasks that are alike are so after what each event makes of them.
use Rattle.std.proofs.Common.{◌≡◌, ℕ, ◌+◌, ◌==◌, ℤ, Bool, true, false, if◌then◌else◌, find, List, [], ◌∷◌, ◌++◌, drop, length, Option, Some, None, Result, Ok, Err, refl, sym, ap, subst, ◌∙◌, true≢false}
use Rattle.std.specs.List.{AllByRecursion}
use Rattle.std.proofs.lemmas.Option.{none-some}
use Rattle.common_lemmas.proofs.Options.{some_same}
use Rattle.event_machine.specs.declared.CallForm.{CallForm}
use Rattle.event_machine.specs.Offers.{Offer, Nothing, Calls, Waits, Finishes, Ends, Aborts, calls_in, is_any_form, waits_with, opens}
use Rattle.event_machine.proofs.Basics.{same_member-refl}
use Rattle.run_laws.specs.collecting.Settings.{is_call}
use Rattle.ada_tree.specs.TypeTable.{TypeTable}
use Rattle.ada_tree.specs.PlainStmt.{PCall, PStmt, SNull, SAssign, SDelay, SExit, SRaise, SAbort, SCall, SAccept, SWait, SConditional, STimed, SPut, SPutLine, SNewLine, SGet, SIf, SCase, SBlock, SLoop, PStmts, no_stmt, stmt_then, PAccept, accepting, alternative, PAltKind, AAccept, ADelay, ATerminate, PAlts, no_alt, alt_then}
use Rattle.ada_value.specs.declared.values.Raised.{Raised}
use Rattle.ada_value.specs.declared.values.Raised.TheVariants as raised
use Rattle.ada_value.specs.declared.values.Value.{Value}
use Rattle.ada_value.specs.Values.{and_then}
use Rattle.ada_value.specs.Variables.{Object, Variables}
use Rattle.task_model.specs.declared.parameters.FormalParameter.{FormalParameter}
use Rattle.task_model.specs.Setting.{entry_of, member_index, parameters_of, entry_parameters}
use Rattle.task_model.specs.Frames.{Around, OwnBody, Block, Handling, Loop, Opened, PFrame, in_front, brought}
use Rattle.task_model.specs.Tasks.{Task, stmts_or_none, with_vars, entered}
use Rattle.task_model.specs.Calls.{Called, called, call_in, called_by, opening_values, opened_objects, comes_back, finals_if, finals_in, values_handed}
use Rattle.task_model.specs.Waits.{Open, Accepts, Delays, Terminates, accept_opened, kind_opened, opened_if, guard_holds, alternatives_open, open_at, delays_with, accepts_member, first_accepting, accepting_at, alternative_for, delay_part, delay_here, delay_stmts}
use Rattle.task_model.specs.Stands.{offer_of}
use Rattle.task_model.specs.Rendezvous as rendezvous
use Rattle.task_laws.specs.translation.Controls.{frame}
use Rattle.task_laws.proofs.invariants.Variables.{chain, ok_path}
use Rattle.task_laws.proofs.invariants.Offering.{at_call, at_accept}
use Rattle.task_laws.proofs.statements.variables.Kept.{formals-inner}
use Rattle.collect_runs.specs.aborts.telling.Forms.{backs}
use Rattle.collect_runs.specs.aborts.likeness.Likeness.{Ground, Goal, Beside, form, with_these, is_apart, IsApart, Near, AreCells, Always, Skipped, FreeFormals, copies_in, PassesCall, Passes, PassesOne, PassesAlts, PassesKind, SafeOuter, LikeAt, IsLike, is_like, FirstOld}
use Rattle.collect_runs.proofs.aborts.likeness.Near.{near-drop, near-front, near-right}
use Rattle.collect_runs.proofs.aborts.likeness.Frames.{of-there, joined, at-settled, settles, at-raised, goes, goes-raised}
use Rattle.collect_runs.proofs.aborts.likeness.Steps.{of-maybe}

module _ (x : Ground) where
  -- ---- values that go back

  pub finals-same : (fs : List FormalParameter) (V W : Variables) → Near x V W → FirstOld x (length fs) V → finals_in fs W ≡ finals_in fs V
  finals-same [] V W h k = refl
  finals-same (f ∷ fs) [] [] h k = refl
  finals-same (f ∷ fs) (o ∷ V) (p ∷ W) h k =
      ap (λ q. finals_if (comes_back f.mode) q (finals_in fs W)) (h.0.old k.0) ∙ ap (finals_if (comes_back f.mode) o) (finals-same fs V W h.1 k.1)
  finals-same (f ∷ fs) [] (p ∷ W) h k = absurd h
  finals-same (f ∷ fs) (o ∷ V) [] h k = absurd h

  -- ---- formals as variables

  opened-apart : (T : TypeTable) (fs : List FormalParameter) (vs : List Value) → AllByRecursion (λ (f : FormalParameter). is_apart x f.name.0 ≡ true) fs →
      AllByRecursion (λ (o : Object). IsApart x o.name) (opened_objects T fs vs)
  opened-apart T [] vs h = tt
  opened-apart T (f ∷ fs) [] h = (h.0, opened-apart T fs [] h.1)
  opened-apart T (f ∷ fs) (v ∷ vs) h = (h.0, opened-apart T fs vs h.1)

  -- ---- what an open alternative has

  abbrev OpenSafe : Goal → Open → Type 0
  OpenSafe K (Accepts e i head stmts behind) = FreeFormals x head.formals × (Always x (Passes x stmts (Near x)) × Always x (Passes x behind K))
  OpenSafe K (Delays k d stmts) = Unit {0}
  OpenSafe K Terminates = Unit {0}

  abbrev AllSafe : Goal → List Open → Type 0
  AllSafe K [] = Unit {0}
  AllSafe K (o ∷ os) = OpenSafe K o × AllSafe K os

  of-found : (K : Goal) (e : ℕ) (i : ℤ) (os : List Open) (o : Open) → AllSafe K os → find (accepts_member e i) os ≡ Some o → OpenSafe K o
  of-found K e i [] o h q = absurd (none-some o q)
  of-found K e i (p ∷ os) o h q = by_test (accepts_member e i p) q (of-found K e i os o h.1)
    where
      by_test : (b : Bool) → (if b then Some p else find (accepts_member e i) os) ≡ Some o → (find (accepts_member e i) os ≡ Some o → OpenSafe K o) → OpenSafe K o
      by_test true r later = subst (OpenSafe K) (some_same r) h.0
      by_test false r later = later r

  module _ (t : Task) (K : Goal) where
    abbrev accept-open : PAccept → PStmts → ℤ → Open
    accept-open (accepting head stmts) behind i = Accepts (entry_of t.setting.numbers t.number head.entry.name) i head (stmts_or_none stmts) behind

    of-accept : (a : PAccept) (behind : PStmts) (o : Open) → ((i : ℤ) → OpenSafe K (accept-open a behind i)) → accept_opened t a behind ≡ Ok o → OpenSafe K o
    of-accept (accepting head stmts) behind o h q =
        let c = chain (member_index t.setting t.control.vars (entry_of t.setting.numbers t.number head.entry.name) head.index) (λ i. Ok (Accepts (entry_of t.setting.numbers t.number head.entry.name) i head (stmts_or_none stmts) behind)) o q in
        subst (OpenSafe K) (ok_path c.rest) (h c.value)

    of-kind : (V W : Variables) (k : PAltKind) (n : ℕ) (o : Open) → PassesKind x k K V W → kind_opened t k n ≡ Ok o → OpenSafe K o
    of-kind V W (AAccept (accepting head stmts) l) n o h q = of-accept (accepting head stmts) l o (λ i. (h.0, ((λ V1 W1 m. of-maybe x stmts (Near x) V1 W1 (h.1.0 V1 W1 m)), h.1.1))) q
    of-kind V W (ADelay d l) n o h q = subst (OpenSafe K) (ok_path q) tt
    of-kind V W ATerminate n o h q = subst (OpenSafe K) (ok_path q) tt

    of-alternatives : (V W : Variables) (alts : PAlts) (n : ℕ) (os : List Open) → PassesAlts x alts K V W → alternatives_open t alts n ≡ Ok os → AllSafe K os
    of-alternatives V W no_alt n os h q = subst (AllSafe K) (ok_path q) tt
    of-alternatives V W (alt_then (alternative guard what s) rest) n os h q =
        let c = chain (guard_holds t guard) (λ b. opened_if b (kind_opened t what n) (alternatives_open t rest (delays_with what n))) os q in
        by_test c.value c.rest (λ ps r. of-alternatives V W rest (delays_with what n) ps h.1 r)
      where
        by_test : (b : Bool) → opened_if b (kind_opened t what n) (alternatives_open t rest (delays_with what n)) ≡ Ok os →
            ((ps : List Open) → alternatives_open t rest (delays_with what n) ≡ Ok ps → AllSafe K ps) → AllSafe K os
        by_test false r later = later os r
        by_test true r later =
            let c = chain (kind_opened t what n) (λ o. and_then (alternatives_open t rest (delays_with what n)) (λ ps. Ok (o ∷ ps))) os r in
            let d = chain (alternatives_open t rest (delays_with what n)) (λ ps. Ok (c.value ∷ ps)) os c.rest in
            subst (AllSafe K) (ok_path d.rest) (of-kind V W what n c.value h.0 c.first, later d.value d.first)

  -- the statements of a delay
  of-delay : (K : Goal) (V W : Variables) (alts : PAlts) (m k : ℕ) → K V W → PassesAlts x alts K V W → Passes x (delay_stmts alts m k) K V W
  of-delay K V W no_alt m k n h = n
  of-delay K V W (alt_then (alternative guard what s) rest) m k n h = by_kind what h.0 (k == m + 1) (of-delay K V W rest (delays_with what m) k n h.1)
    where
      by_kind : (kind : PAltKind) → PassesKind x kind K V W → (b : Bool) → Passes x (delay_stmts rest (delays_with what m) k) K V W → Passes x (delay_here (delay_part kind) b (delay_stmts rest (delays_with what m) k)) K V W
      by_kind (AAccept a l) i b later = later
      by_kind (ADelay d l) i true later = i
      by_kind (ADelay d l) i false later = later
      by_kind ATerminate i b later = later

  module _ (c : Beside) (V W : Variables) (like : LikeAt x c.rest c.place c.outer V W) (cells : AreCells x V) where
    abbrev t : Task
    t = with_these x c V

    abbrev t' : Task
    t' = with_these x c W

    self : IsLike x t t'
    self = is_like c.input c.output c.rest c.place c.outer V W like

    raises : (e : Raised) → IsLike x (rendezvous.going_on (Some e) t) (rendezvous.going_on (Some e) t')
    raises e = goes-raised x c.input c.output c.rest c.place c.outer e V W like.near like.inside like.outside

    pub failed-like : IsLike x (rendezvous.call_failed t) (rendezvous.call_failed t')
    failed-like = raises raised.Tasking

    -- ---- calls

    call-joined : (f : PCall) (l b : PStmts) → PassesCall x f (Passes x l (Passes x b (Near x))) V W → PassesCall x f (Passes x (in_front l b) (Near x)) V W
    call-joined f l b h = record {
      same = h.same;
      stopped = h.stopped;
      near = h.near;
      lost = h.lost;
      goes = λ r e vs n k. joined x l b (Near x) _ _ (h.goes r e vs n k);
      skipped = λ U n. joined x l b (Near x) U U (h.skipped U n);
    }

    pub call-passes : (r : PStmts) → Passes x r (Near x) V W → (d : PCall) → call_in r ≡ Some d → PassesCall x d (Passes x (in_front (rendezvous.more_in r) (rendezvous.behind_in r)) (Near x)) V W
    call-passes no_stmt h d e = absurd (none-some d e)
    call-passes (stmt_then (SCall f s) b) h d e = subst (λ a. PassesCall x a (Passes x b (Near x)) V W) (some_same e) (h.0 cells)
    call-passes (stmt_then (SConditional f l m s) b) h d e = subst (λ a. PassesCall x a (Passes x (in_front l b) (Near x)) V W) (some_same e) (call-joined f l b (h.0 cells).0)
    call-passes (stmt_then (STimed f l n m s) b) h d e = subst (λ a. PassesCall x a (Passes x (in_front l b) (Near x)) V W) (some_same e) (call-joined f l b (h.0 cells).0)
    call-passes (stmt_then (SNull s) r) h c e = absurd (none-some c e)
    call-passes (stmt_then (SAssign a b s) r) h c e = absurd (none-some c e)
    call-passes (stmt_then (SDelay d s) r) h c e = absurd (none-some c e)
    call-passes (stmt_then (SExit a b s) r) h c e = absurd (none-some c e)
    call-passes (stmt_then (SRaise a s) r) h c e = absurd (none-some c e)
    call-passes (stmt_then (SAbort a s) r) h c e = absurd (none-some c e)
    call-passes (stmt_then (SAccept a s) r) h c e = absurd (none-some c e)
    call-passes (stmt_then (SWait a b s) r) h c e = absurd (none-some c e)
    call-passes (stmt_then (SPut a s) r) h c e = absurd (none-some c e)
    call-passes (stmt_then (SPutLine a s) r) h c e = absurd (none-some c e)
    call-passes (stmt_then (SNewLine s) r) h c e = absurd (none-some c e)
    call-passes (stmt_then (SGet a s) r) h c e = absurd (none-some c e)
    call-passes (stmt_then (SIf a b s) r) h c e = absurd (none-some c e)
    call-passes (stmt_then (SCase a b d s) r) h c e = absurd (none-some c e)
    call-passes (stmt_then (SBlock a s) r) h c e = absurd (none-some c e)
    call-passes (stmt_then (SLoop a b l s) r) h c e = absurd (none-some c e)

    pub handed-same : values_handed t' ≡ values_handed t
    handed-same = go (call_in c.rest) refl
      where
        go : (q : Option PCall) → call_in c.rest ≡ q → opening_values (called_by (form x) W q) ≡ opening_values (called_by (form x) V q)
        go None e = refl
        go (Some d) e = ap (λ a. opening_values (Some a)) (call-passes c.rest like.passes d e).same

    pub stopped-same : (vs : List Value) → (rendezvous.copies_of t' vs).stopped ≡ (rendezvous.copies_of t vs).stopped
    stopped-same vs = go (call_in c.rest) refl
      where
        one : (d : PCall) → PassesCall x d (Passes x (in_front (rendezvous.more_in c.rest) (rendezvous.behind_in c.rest)) (Near x)) V W → (r : Result Called Raised) → called (form x) V d ≡ r →
            (rendezvous.call_ended t' d r vs).stopped ≡ (rendezvous.call_ended t d r vs).stopped
        one d h (Ok r) e = h.stopped r e vs
        one d h (Err a) e = refl

        go : (q : Option PCall) → call_in c.rest ≡ q → (rendezvous.copies_at t' q vs).stopped ≡ (rendezvous.copies_at t q vs).stopped
        go None e = refl
        go (Some d) e =
            let h = call-passes c.rest like.passes d e in
            ap (λ a. (rendezvous.call_ended t' d a vs).stopped) h.same ∙ one d h (called (form x) V d) refl

    -- the call at which both stand
    pub record IsCalled : Type 0 where
      pub call : PCall
      pub result : Called
      pub here : call_in c.rest ≡ Some call
      pub worth : called (form x) V call ≡ Ok result
      pub offers : (f : CallForm) (e : ℕ) (i : ℤ) → offer_of t ≡ Calls f e i → result.entry ≡ e

    pub is-called : is_call (offer_of t) ≡ true → IsCalled
    is-called h = by_offer (offer_of t) refl h
      where
        by_call : (r : Called) → ((f : CallForm) (e : ℕ) (i : ℤ) → offer_of t ≡ Calls f e i → r.entry ≡ e) → (q : Option PCall) → call_in c.rest ≡ q → called_by (form x) V q ≡ Some (Ok r) → IsCalled
        by_call r n None e k = absurd (none-some _ k)
        by_call r n (Some d) e k = record { call = d; result = r; here = e; worth = some_same k; offers = n }

        entry-same : {f g : CallForm} {e d : ℕ} {i j : ℤ} → Calls f e i ≡ Calls g d j → e ≡ d
        entry-same h = cc

        by_offer : (o : Offer) → offer_of t ≡ o → is_call o ≡ true → IsCalled
        by_offer (Calls f e i) q k =
            let a = at_call t e i (ap (calls_in is_any_form e i) q ∙ same_member-refl e i) in
            by_call a.result (λ g d j l. a.entry ∙ entry-same (sym q ∙ l)) (call_in c.rest) refl a.calls
        by_offer Nothing q k = absurd (true≢false (sym k))
        by_offer (Waits choices) q k = absurd (true≢false (sym k))
        by_offer Finishes q k = absurd (true≢false (sym k))
        by_offer Ends q k = absurd (true≢false (sym k))
        by_offer (Aborts v) q k = absurd (true≢false (sym k))

    module _ (a : IsCalled) where
      passes-here : PassesCall x a.call (Passes x (in_front (rendezvous.more_in c.rest) (rendezvous.behind_in c.rest)) (Near x)) V W
      passes-here = call-passes c.rest like.passes a.call a.here

      copies-before : (vs : List Value) → rendezvous.copies_of t vs ≡ copies_in x V a.call a.result vs
      copies-before vs = ap (λ q. rendezvous.copies_at t q vs) a.here ∙ ap (λ r. rendezvous.call_ended t a.call r vs) a.worth

      pub copies-after : (vs : List Value) → rendezvous.copies_of t' vs ≡ copies_in x W a.call a.result vs
      copies-after vs = ap (λ q. rendezvous.copies_at t' q vs) a.here ∙ ap (λ r. rendezvous.call_ended t' a.call r vs) (passes-here.same ∙ a.worth)

      comes-back : (vs : List Value) → length vs ≡ backs (entry_parameters (form x) a.result.entry) → (o : Option Raised) → (copies_in x V a.call a.result vs).stopped ≡ o →
          IsLike x (rendezvous.come_back t (copies_in x V a.call a.result vs) o) (rendezvous.come_back t' (copies_in x W a.call a.result vs) o)
      comes-back vs n None e =
          goes x c.input c.output c.rest c.place c.outer (in_front (rendezvous.more_in c.rest) (rendezvous.behind_in c.rest)) (copies_in x V a.call a.result vs).vars (copies_in x W a.call a.result vs).vars
          (passes-here.near a.result a.worth vs) (passes-here.goes a.result a.worth vs n e) like.inside like.outside
      comes-back vs n (Some y) e =
          goes-raised x c.input c.output c.rest c.place c.outer y (copies_in x V a.call a.result vs).vars (copies_in x W a.call a.result vs).vars (passes-here.near a.result a.worth vs) like.inside like.outside

      returned-like : (vs : List Value) → length vs ≡ backs (entry_parameters (form x) a.result.entry) → IsLike x (rendezvous.returned vs t) (rendezvous.returned vs t')
      returned-like vs n =
          subst (λ d. IsLike x (rendezvous.come_back t d d.stopped) (rendezvous.returned vs t')) (sym (copies-before vs))
          (subst (λ b. IsLike x (rendezvous.come_back t (copies_in x V a.call a.result vs) (copies_in x V a.call a.result vs).stopped) (rendezvous.come_back t' b b.stopped)) (sym (copies-after vs))
          (subst (λ o. IsLike x (rendezvous.come_back t (copies_in x V a.call a.result vs) (copies_in x V a.call a.result vs).stopped) (rendezvous.come_back t' (copies_in x W a.call a.result vs) o))
          (sym (passes-here.stopped a.result a.worth vs)) (comes-back vs n (copies_in x V a.call a.result vs).stopped refl)))

      with-pending : (o : Option Raised) (vs : List Value) → length vs ≡ backs (entry_parameters (form x) a.result.entry) → IsLike x (rendezvous.resumed_with o vs t) (rendezvous.resumed_with o vs t')
      with-pending None vs n = returned-like vs n
      with-pending (Some e) vs n = raises e

      pub resumed-like : (v w : Task) → length (rendezvous.finals_of v) ≡ backs (entry_parameters (form x) a.result.entry) → rendezvous.pending_of w ≡ rendezvous.pending_of v → rendezvous.finals_of w ≡ rendezvous.finals_of v →
          IsLike x (rendezvous.resumed v t) (rendezvous.resumed w t')
      resumed-like v w n p f =
          subst (λ q. IsLike x (rendezvous.resumed v t) (rendezvous.resumed_with q (rendezvous.finals_of w) t')) (sym p)
          (subst (λ vs. IsLike x (rendezvous.resumed v t) (rendezvous.resumed_with (rendezvous.pending_of v) vs t')) (sym f) (with-pending (rendezvous.pending_of v) (rendezvous.finals_of v) n))

      -- the values have come back to the second alone
      pub lost-like : (vs : List Value) → IsLike x (rendezvous.call_failed t) (rendezvous.call_failed (with_vars t' (rendezvous.copies_of t' vs).vars))
      lost-like vs =
          subst (λ b. IsLike x (rendezvous.call_failed t) (rendezvous.call_failed (with_vars t' b.vars))) (sym (copies-after vs))
          (goes-raised x c.input c.output c.rest c.place c.outer raised.Tasking V (copies_in x W a.call a.result vs).vars (passes-here.lost a.result a.worth vs) like.inside like.outside)

      pub lost-self : (vs : List Value) → IsLike x (rendezvous.call_failed (with_vars t' (rendezvous.copies_of t' vs).vars)) (rendezvous.call_failed (with_vars t' (rendezvous.copies_of t' vs).vars))
      lost-self vs =
          subst (λ b. IsLike x (rendezvous.call_failed (with_vars t' b.vars)) (rendezvous.call_failed (with_vars t' b.vars))) (sym (copies-after vs))
          (goes-raised x c.input c.output c.rest c.place c.outer raised.Tasking (copies_in x W a.call a.result vs).vars (copies_in x W a.call a.result vs).vars
          (near-right x V (copies_in x W a.call a.result vs).vars (passes-here.lost a.result a.worth vs)) like.inside like.outside)

    -- ---- the end of an accept body

    goes-on : (o : List PFrame) (pending : Option Raised) → SafeOuter x o → IsLike x (rendezvous.going_on pending (rendezvous.frame_left t o)) (rendezvous.going_on pending (rendezvous.frame_left t' o))
    goes-on [] None s = goes x c.input c.output c.rest c.place c.outer c.rest V W like.near like.passes like.inside like.outside
    goes-on [] (Some e) s = raises e
    goes-on (part ∷ parts) None s =
        let n = near-drop x (brought c.place) V W like.near in
        of-there x c.input c.output (at-settled x parts part.rest part.place (drop (brought c.place) V) (drop (brought c.place) W) (record { near = n; passes = s.0 _ _ n; inside = s.1.0; outside = s.1.1 }))
    goes-on (part ∷ parts) (Some e) s =
        let n = near-drop x (brought c.place) V W like.near in
        of-there x c.input c.output (settles x (at-raised x e parts part.place (drop (brought c.place) V) (drop (brought c.place) W) n s.1.0 s.1.1))

    pub finished-like : IsLike x (rendezvous.finished t) (rendezvous.finished t')
    finished-like = by_place c.place
      where
        by_place : (q : Around) → IsLike x (rendezvous.body_closed q t) (rendezvous.body_closed q t')
        by_place (OwnBody handlers taken) = self
        by_place (Block handlers) = self
        by_place (Handling e) = self
        by_place (Loop name turns stmts) = self
        by_place (Opened caller formals pending) = goes-on c.outer pending like.outside

    -- ---- a rendezvous starts

    -- what the alternative that accepts a member has
    record Opening (r : PStmts) (e : ℕ) (i : ℤ) (o : Open) : Type 0 where
      same : accepting_at t' r e i ≡ Some o
      safe : OpenSafe (Passes x (rendezvous.behind_in r) (Near x)) o
      behind : Always x (Passes x (rendezvous.behind_in r) (Near x))

    opening : (r : PStmts) → Passes x r (Near x) V W → (e : ℕ) (i : ℤ) (o : Open) → accepting_at t r e i ≡ Some o → Opening r e i o
    opening no_stmt h e i o q = absurd (none-some o q)
    opening (stmt_then (SAccept (accepting head stmts) s) b) h e i o q = go (open_at t (SAccept (accepting head stmts) s)) refl q
      where
        k : PassesOne x (SAccept (accepting head stmts) s) (Passes x b (Near x)) V W
        k = h.0 cells

        same-open : open_at t' (SAccept (accepting head stmts) s) ≡ open_at t (SAccept (accepting head stmts) s)
        same-open = ap (λ r. and_then (and_then r (λ z. Ok (Accepts (entry_of (form x).numbers x.number head.entry.name) z head (stmts_or_none stmts) no_stmt))) (λ a. Ok (a ∷ []))) k.0.0

        go : (r : Result (List Open) Raised) → open_at t (SAccept (accepting head stmts) s) ≡ r → first_accepting e i r ≡ Some o → Opening (stmt_then (SAccept (accepting head stmts) s) b) e i o
        go (Err a) f g = absurd (none-some o g)
        go (Ok os) f g =
            let d = chain (accept_opened t (accepting head stmts) no_stmt) (λ a. Ok (a ∷ [])) os f in
            record {
              same = ap (first_accepting e i) (same-open ∙ f) ∙ g;
              safe = of-found (Passes x b (Near x)) e i os o
                  (subst (AllSafe (Passes x b (Near x))) (ok_path d.rest)
                  (of-accept t (Passes x b (Near x)) (accepting head stmts) no_stmt d.value (λ z. (k.0.1, ((λ V1 W1 m. of-maybe x stmts (Near x) V1 W1 (k.1.0 V1 W1 m)), k.1.1))) d.first, tt)) g;
              behind = k.1.1;
            }
    opening (stmt_then (SWait alts m s) b) h e i o q = go (alternatives_open t alts 0) refl q
      where
        k : PassesOne x (SWait alts m s) (Passes x b (Near x)) V W
        k = h.0 cells

        go : (r : Result (List Open) Raised) → alternatives_open t alts 0 ≡ r → first_accepting e i r ≡ Some o → Opening (stmt_then (SWait alts m s) b) e i o
        go (Err a) f g = absurd (none-some o g)
        go (Ok os) f g = record {
          same = ap (first_accepting e i) (k.0 c ∙ f) ∙ g;
          safe = of-found (Passes x b (Near x)) e i os o (of-alternatives t (Passes x b (Near x)) V W alts 0 os k.1.0 f) g;
          behind = k.1.1.1;
        }
    opening (stmt_then (SCall f s) b) h e i o q = absurd (none-some o q)
    opening (stmt_then (SConditional f l m s) b) h e i o q = absurd (none-some o q)
    opening (stmt_then (STimed f l n m s) b) h e i o q = absurd (none-some o q)
    opening (stmt_then (SNull s) b) h e i o q = absurd (none-some o q)
    opening (stmt_then (SAssign a f s) b) h e i o q = absurd (none-some o q)
    opening (stmt_then (SDelay d s) b) h e i o q = absurd (none-some o q)
    opening (stmt_then (SExit a f s) b) h e i o q = absurd (none-some o q)
    opening (stmt_then (SRaise a s) b) h e i o q = absurd (none-some o q)
    opening (stmt_then (SAbort a s) b) h e i o q = absurd (none-some o q)
    opening (stmt_then (SPut a s) b) h e i o q = absurd (none-some o q)
    opening (stmt_then (SPutLine a s) b) h e i o q = absurd (none-some o q)
    opening (stmt_then (SNewLine s) b) h e i o q = absurd (none-some o q)
    opening (stmt_then (SGet a s) b) h e i o q = absurd (none-some o q)
    opening (stmt_then (SIf a f s) b) h e i o q = absurd (none-some o q)
    opening (stmt_then (SCase a f d s) b) h e i o q = absurd (none-some o q)
    opening (stmt_then (SBlock a s) b) h e i o q = absurd (none-some o q)
    opening (stmt_then (SLoop a f l s) b) h e i o q = absurd (none-some o q)

    -- an accept body is opened with the same values
    opens-body : (caller : ℕ) (fs : List FormalParameter) (stmts behind : PStmts) (vs : List Value) → AllByRecursion (λ (f : FormalParameter). is_apart x f.name.0 ≡ true) fs → Always x (Passes x stmts (Near x)) →
        Always x (Passes x behind (Passes x (rendezvous.behind_in c.rest) (Near x))) →
        IsLike x (rendezvous.body_opened caller fs stmts behind vs t) (rendezvous.body_opened caller fs stmts behind vs t')
    opens-body caller fs stmts behind vs apart safe after =
        let n = near-front x (opened_objects (form x).types fs vs) V W (opened-apart (form x).types fs vs apart) like.near in
        is_like c.input c.output stmts (Opened caller fs None) (frame (in_front behind (rendezvous.behind_in c.rest)) c.place ∷ c.outer) (opened_objects (form x).types fs vs ++ V) (opened_objects (form x).types fs vs ++ W)
        (record {
          near = n;
          passes = safe _ _ n;
          inside = tt;
          outside = ((λ V1 W1 m. joined x behind (rendezvous.behind_in c.rest) (Near x) V1 W1 (after V1 W1 m)), (like.inside, like.outside));
        })

    opens-as : (caller : ℕ) (o : Open) (vs : List Value) → OpenSafe (Passes x (rendezvous.behind_in c.rest) (Near x)) o → Always x (Passes x (rendezvous.behind_in c.rest) (Near x)) →
        IsLike x (rendezvous.alternative_opened caller (Some o) vs t) (rendezvous.alternative_opened caller (Some o) vs t')
    opens-as caller (Accepts e i head stmts behind) vs h b =
        opens-body caller (parameters_of (form x).types head.formals) stmts behind vs (formals-inner (is_apart x) [] (form x).types head.formals h.0) h.1.0 h.1.1
    opens-as caller (Delays k d stmts) vs h b = opens-body caller [] no_stmt no_stmt vs tt (λ V1 W1 m. m) b
    opens-as caller Terminates vs h b = opens-body caller [] no_stmt no_stmt vs tt (λ V1 W1 m. m) b

    pub opened-like : (e : ℕ) (i : ℤ) (caller : ℕ) (vs : List Value) (o : Open) → alternative_for t e i ≡ Some o →
        IsLike x (rendezvous.alternative_opened caller (Some o) vs t) (rendezvous.alternative_opened caller (Some o) vs t')
    opened-like e i caller vs o q = let k = opening c.rest like.passes e i o q in opens-as caller o vs k.safe k.behind

    pub accepted-like : (e : ℕ) (i : ℤ) (caller : ℕ) (v w : Task) → waits_with (opens e i) (offer_of t) ≡ true → values_handed w ≡ values_handed v →
        IsLike x (rendezvous.accepted e i caller v t) (rendezvous.accepted e i caller w t')
    accepted-like e i caller v w h f =
        let a = at_accept t e i h in
        let k = opening c.rest like.passes e i a.0 a.1 in
        subst (λ vs. IsLike x (rendezvous.accepted e i caller v t) (rendezvous.alternative_opened caller (alternative_for t' e i) vs t')) (sym f)
        (subst (λ o. IsLike x (rendezvous.accepted e i caller v t) (rendezvous.alternative_opened caller o (values_handed v) t')) (sym k.same)
        (subst (λ o. IsLike x (rendezvous.alternative_opened caller o (values_handed v) t) (rendezvous.alternative_opened caller (Some a.0) (values_handed v) t')) (sym a.1)
        (opens-as caller a.0 (values_handed v) k.safe k.behind)))

    -- ---- other parts

    enters : (l behind : PStmts) → Passes x l (Passes x behind (Near x)) V W → IsLike x (entered l behind t) (entered l behind t')
    enters l behind h = goes x c.input c.output c.rest c.place c.outer (in_front l behind) V W like.near (joined x l behind (Near x) V W h) like.inside like.outside

    pub else-like : IsLike x (rendezvous.took_else t) (rendezvous.took_else t')
    else-like = by_rest c.rest like.passes
      where
        by_stmt : (s : PStmt) (b : PStmts) → PassesOne x s (Passes x b (Near x)) V W → IsLike x (rendezvous.else_taken_at s b t) (rendezvous.else_taken_at s b t')
        by_stmt (SConditional f l m s) b h = enters m b h.1
        by_stmt (SWait alts m s) b h = enters (stmts_or_none m) b (of-maybe x m (Passes x b (Near x)) V W h.1.1.0)
        by_stmt (SNull s) b h = self
        by_stmt (SAssign a f s) b h = self
        by_stmt (SDelay d s) b h = self
        by_stmt (SExit a f s) b h = self
        by_stmt (SRaise a s) b h = self
        by_stmt (SAbort a s) b h = self
        by_stmt (SCall f s) b h = self
        by_stmt (SAccept a s) b h = self
        by_stmt (STimed f l n m s) b h = self
        by_stmt (SPut a s) b h = self
        by_stmt (SPutLine a s) b h = self
        by_stmt (SNewLine s) b h = self
        by_stmt (SGet a s) b h = self
        by_stmt (SIf a f s) b h = self
        by_stmt (SCase a f d s) b h = self
        by_stmt (SBlock a s) b h = self
        by_stmt (SLoop a f l s) b h = self

        by_rest : (r : PStmts) → Passes x r (Near x) V W → IsLike x (rendezvous.else_taken_in r t) (rendezvous.else_taken_in r t')
        by_rest no_stmt h = self
        by_rest (stmt_then s b) h = by_stmt s b (h.0 cells)

    pub delay-like : (k : ℕ) → IsLike x (rendezvous.took_delay k t) (rendezvous.took_delay k t')
    delay-like k = by_rest c.rest like.passes
      where
        by_stmt : (s : PStmt) (b : PStmts) → PassesOne x s (Passes x b (Near x)) V W → IsLike x (rendezvous.delay_taken_at k s b t) (rendezvous.delay_taken_at k s b t')
        by_stmt (STimed f l n m s) b h = enters m b h.1
        by_stmt (SWait alts m s) b h = enters (delay_stmts alts 0 k) b (of-delay (Passes x b (Near x)) V W alts 0 k (h.1.1.1 V W like.near) h.1.0)
        by_stmt (SConditional f l m s) b h = self
        by_stmt (SNull s) b h = self
        by_stmt (SAssign a f s) b h = self
        by_stmt (SDelay d s) b h = self
        by_stmt (SExit a f s) b h = self
        by_stmt (SRaise a s) b h = self
        by_stmt (SAbort a s) b h = self
        by_stmt (SCall f s) b h = self
        by_stmt (SAccept a s) b h = self
        by_stmt (SPut a s) b h = self
        by_stmt (SPutLine a s) b h = self
        by_stmt (SNewLine s) b h = self
        by_stmt (SGet a s) b h = self
        by_stmt (SIf a f s) b h = self
        by_stmt (SCase a f d s) b h = self
        by_stmt (SBlock a s) b h = self
        by_stmt (SLoop a f l s) b h = self

        by_rest : (r : PStmts) → Passes x r (Near x) V W → IsLike x (rendezvous.delay_taken_in k r t) (rendezvous.delay_taken_in k r t')
        by_rest no_stmt h = self
        by_rest (stmt_then s b) h = by_stmt s b (h.0 cells)

    pub passed-like : IsLike x (rendezvous.past_name t) (rendezvous.past_name t')
    passed-like = by_rest c.rest like.passes
      where
        by_stmt : (s : PStmt) (b : PStmts) → PassesOne x s (Passes x b (Near x)) V W → Skipped x (Passes x b (Near x)) → IsLike x (rendezvous.passed_at s b t) (rendezvous.passed_at s b t')
        by_stmt (SAbort [] s) b h k = self
        by_stmt (SAbort (d ∷ []) s) b h k = goes x c.input c.output c.rest c.place c.outer b V W like.near h.1 like.inside like.outside
        by_stmt (SAbort (d ∷ (f ∷ fs)) s) b h k = goes x c.input c.output c.rest c.place c.outer (stmt_then (SAbort (f ∷ fs) s) b) V W like.near ((λ z. h.1), k) like.inside like.outside
        by_stmt (SConditional f l m s) b h k = self
        by_stmt (SWait alts m s) b h k = self
        by_stmt (SNull s) b h k = self
        by_stmt (SAssign a f s) b h k = self
        by_stmt (SDelay d s) b h k = self
        by_stmt (SExit a f s) b h k = self
        by_stmt (SRaise a s) b h k = self
        by_stmt (SCall f s) b h k = self
        by_stmt (SAccept a s) b h k = self
        by_stmt (STimed f l n m s) b h k = self
        by_stmt (SPut a s) b h k = self
        by_stmt (SPutLine a s) b h k = self
        by_stmt (SNewLine s) b h k = self
        by_stmt (SGet a s) b h k = self
        by_stmt (SIf a f s) b h k = self
        by_stmt (SCase a f d s) b h k = self
        by_stmt (SBlock a s) b h k = self
        by_stmt (SLoop a f l s) b h k = self

        by_rest : (r : PStmts) → Passes x r (Near x) V W → IsLike x (rendezvous.passed_in r t) (rendezvous.passed_in r t')
        by_rest no_stmt h = self
        by_rest (stmt_then s b) h = by_stmt s b (h.0 cells) h.1

-- Which branch of a selective wait's image is taken with a permit: that of the first open alternative that the permit is for.
use Rattle.std.proofs.Common.{◌≡◌, ℕ, ◌+◌, ◌<◌, ℤ, Bool, true, false, not, ◌&&◌, ◌||◌, ◌==◌, if◌then◌else◌, List, [], ◌∷◌, find, Option, Some, None, Result, Ok, fold, refl, sym, ap, ◌∙◌, subst, true≢false, arith, eqb-true}
use Rattle.std.specs.List.{list_any}
use Rattle.common_lemmas.proofs.Numbers.{equal_self, unequal, unequal_above}
use Rattle.common_lemmas.proofs.Truth.{and_true, and_both, or_both}
use Rattle.event_machine.specs.declared.Event.{Event}
use Rattle.event_machine.proofs.Basics.{same_member-refl}
use Rattle.ada_tree.specs.declared.naming.Span.{Span}
use Rattle.ada_tree.specs.TypeTable.{TypeTable}
use Rattle.ada_tree.specs.PlainExpr.{PExpr}
use Rattle.ada_tree.specs.PlainStmt.{PHead, PStmts, no_stmt, stmt_then, PMaybe, alternative, AAccept, ADelay, ATerminate, PAlts, alt_then, PArms, accepting}
use Rattle.ada_tree.specs.PlainProgram.{PProgram}
use Rattle.ada_static_rules.specs.Refusals.{types_in}
use Rattle.ada_value.specs.declared.values.Raised.{Raised}
use Rattle.ada_value.specs.declared.values.Value.{Value}
use Rattle.ada_value.specs.declared.values.Value.TheVariants.{Truth}
use Rattle.ada_value.specs.Values.{and_then}
use Rattle.ada_value.specs.Variables.{Variables}
use Rattle.task_model.specs.Frames.{in_front}
use Rattle.task_model.specs.Tasks.{Task, stmts_or_none}
use Rattle.task_model.specs.Waits.{Open, Accepts, Delays, Terminates, guard_holds, opened_if, alternatives_open, is_shorter, accepts_member, delay_here, delay_stmts}
use Rattle.task_laws.specs.translation.OldTexts.{only_names}
use Rattle.normal_model.specs.RewrittenUnit.{RewrittenUnit}
use Rattle.normal_model.specs.Making.{one}
use Rattle.normal_model.specs.Walk.{rewritten, inside_maybe}
use Rattle.normal_laws.specs.existence.Laws.{IsLegalOriginal}
use Rattle.run_laws.specs.replaying.Permits.{Permit, ToMeet, ToFinish, ToElse, ToDelay, ToCallElse, ToExpire, ToFail, ToEnd, ToAbort, ToClose}
use Rattle.run_laws.specs.replaying.Copies.{Spots}
use Rattle.replay_runs.specs.script.Spelling.{kind, arg, index}
use Rattle.replay_model.specs.Asking.{done, permit_is_kind, permit_is_for, permit_is_at}
use Rattle.replay_model.specs.Serving.{permits_start, serve}
use Rattle.replay_model.specs.Waiting.{never_so, and_guard, Pause, pauses_of, and_later, is_due, only_pause, pausing, never_or_terminate, alternative_branches}
use Rattle.replay_model.specs.ReplayStmts.{replay_rewriter}
use Rattle.replay_runs.specs.starts.Laws.{text_in}
use Rattle.replay_runs.specs.translation.Rows.{Replayed}
use Rattle.replay_runs.specs.controls.Asking.{unit_of_task}
use Rattle.replay_runs.specs.controls.permits.Laws.{FitsInteger, EvaluatesTo, TestsEvaluate, TakesBranch, takes_this, takes_later}
use Rattle.replay_runs.specs.controls.translated.Laws.{form_and_text}
use Rattle.replay_runs.proofs.controls.meanings.Accepts.{starts, to-meet}
use Rattle.replay_runs.proofs.controls.meanings.Choosing.{is_for}
use Rattle.replay_runs.proofs.controls.meanings.Judging.{alts_image, GuardSays, guarded, AcceptSays, Judged, judged_none, judged_accept, judged_delay, judged_terminate, opened, any-if}

abbrev truth : Bool → Result Value Raised
truth c = Ok (Truth c)

-- ---- what the tests say

swapped : (a b c : Bool) → ((a && b) && c) ≡ ((a && c) && b)
swapped true true c = sym (and_true c)
swapped true false true = refl
swapped true false false = refl
swapped false b c = refl

module _ (all : List Open) where
  starts-for : (e : ℕ) (z : ℤ) (head : PHead) (l d : PStmts) (permit : Permit) → starts e z permit ≡ is_for permit all (Accepts e z head l d)
  starts-for e z head l d (ToMeet f j) = refl
  starts-for e z head l d ToFinish = refl
  starts-for e z head l d ToElse = refl
  starts-for e z head l d (ToDelay k) = refl
  starts-for e z head l d (ToCallElse f j) = refl
  starts-for e z head l d (ToExpire f j) = refl
  starts-for e z head l d (ToFail f j) = refl
  starts-for e z head l d ToEnd = refl
  starts-for e z head l d (ToAbort x) = refl
  starts-for e z head l d ToClose = refl

  due-for : (n d : ℕ) (l : PStmts) (g : Bool) (permit : Permit) → ((((kind permit == 4) && (arg permit == n)) && g) && not (list_any (is_shorter d) all)) ≡ (is_for permit all (Delays n d l) && g)
  due-for n d l g (ToDelay k) = swapped (k == n) g (not (list_any (is_shorter d) all))
  due-for n d l g (ToMeet f j) = refl
  due-for n d l g ToFinish = refl
  due-for n d l g ToElse = refl
  due-for n d l g (ToCallElse f j) = refl
  due-for n d l g (ToExpire f j) = refl
  due-for n d l g (ToFail f j) = refl
  due-for n d l g ToEnd = refl
  due-for n d l g (ToAbort x) = refl
  due-for n d l g ToClose = refl

  closes-for : (permit : Permit) → (kind permit == 10) ≡ is_for permit all Terminates
  closes-for (ToMeet f j) = refl
  closes-for ToFinish = refl
  closes-for ToElse = refl
  closes-for (ToDelay k) = refl
  closes-for (ToCallElse f j) = refl
  closes-for (ToExpire f j) = refl
  closes-for (ToFail f j) = refl
  closes-for ToEnd = refl
  closes-for (ToAbort x) = refl
  closes-for ToClose = refl

  to-delay : (n d : ℕ) (l : PStmts) (permit : Permit) → is_for permit all (Delays n d l) ≡ true → permit ≡ ToDelay n
  to-delay n d l (ToDelay k) c = ap ToDelay (eqb-true k n (and_both (k == n) (not (list_any (is_shorter d) all)) c).0)
  to-delay n d l (ToMeet f j) c = absurd (true≢false (sym c))
  to-delay n d l ToFinish c = absurd (true≢false (sym c))
  to-delay n d l ToElse c = absurd (true≢false (sym c))
  to-delay n d l (ToCallElse f j) c = absurd (true≢false (sym c))
  to-delay n d l (ToExpire f j) c = absurd (true≢false (sym c))
  to-delay n d l (ToFail f j) c = absurd (true≢false (sym c))
  to-delay n d l ToEnd c = absurd (true≢false (sym c))
  to-delay n d l (ToAbort x) c = absurd (true≢false (sym c))
  to-delay n d l ToClose c = absurd (true≢false (sym c))

  to-close : (permit : Permit) → is_for permit all Terminates ≡ true → permit ≡ ToClose
  to-close ToClose c = refl
  to-close (ToMeet f j) c = absurd (true≢false (sym c))
  to-close ToFinish c = absurd (true≢false (sym c))
  to-close ToElse c = absurd (true≢false (sym c))
  to-close (ToDelay k) c = absurd (true≢false (sym c))
  to-close (ToCallElse f j) c = absurd (true≢false (sym c))
  to-close (ToExpire f j) c = absurd (true≢false (sym c))
  to-close (ToFail f j) c = absurd (true≢false (sym c))
  to-close ToEnd c = absurd (true≢false (sym c))
  to-close (ToAbort x) c = absurd (true≢false (sym c))

-- ---- the first that passes a test

find-past : (f : Open → Bool) (g : Bool) (op : Open) (os : List Open) {x : Option Open} → (f op && g) ≡ false → find f os ≡ x → find f (if g then op ∷ os else os) ≡ x
find-past f true op os c e = ap (λ b. if b then Some op else find f os) (sym (and_true (f op)) ∙ c) ∙ e
find-past f false op os c e = e

find-here : (f : Open → Bool) (g : Bool) (op : Open) (os : List Open) → f op ≡ true → g ≡ true → find f (if g then op ∷ os else os) ≡ Some op
find-here f true op os c e = ap (λ b. if b then Some op else find f os) c
find-here f false op os c e = absurd (true≢false (sym e))

-- ---- waits in which one delay is open

module _ (κ : Task) (never : (s : Span) → guard_holds κ (Some (never_so s)) ≡ Ok false) (s : Span) (n : ℕ) where
  -- a delay of another number is closed
  other-shut : (x : Pause) (xs : List Pause) (k : ℕ) → ((k + 1) == n) ≡ false → alternatives_open κ (only_pause s n (x ∷ xs) (k + 1)) k ≡ alternatives_open κ (only_pause s n xs ((k + 1) + 1)) (k + 1)
  other-shut x xs k other =
      ap (λ c. and_then (guard_holds κ (if c then None else Some (never_so s))) (λ b. opened_if b (Ok (Delays (k + 1) x.duration no_stmt)) (alternatives_open κ (only_pause s n xs ((k + 1) + 1)) (k + 1)))) other
      ∙ ap (λ r. and_then r (λ b. opened_if b (Ok (Delays (k + 1) x.duration no_stmt)) (alternatives_open κ (only_pause s n xs ((k + 1) + 1)) (k + 1)))) (never s)

  later-shut : (xs : List Pause) (k : ℕ) → n < k + 1 → alternatives_open κ (only_pause s n xs (k + 1)) k ≡ Ok []
  later-shut [] k l = refl
  later-shut (x ∷ xs) k l = other-shut x xs k (unequal_above (k + 1) n l) ∙ later-shut xs (k + 1) (omega (arith, l))

  this-opens : (x : Pause) (xs : List Pause) (k : ℕ) → n ≡ k + 1 → alternatives_open κ (only_pause s n (x ∷ xs) (k + 1)) k ≡ Ok (Delays n x.duration no_stmt ∷ [])
  this-opens x xs k is =
      ap (λ c. and_then (guard_holds κ (if c then None else Some (never_so s))) (λ b. opened_if b (Ok (Delays (k + 1) x.duration no_stmt)) (alternatives_open κ (only_pause s n xs ((k + 1) + 1)) (k + 1))))
      (subst (λ m. ((k + 1) == m) ≡ true) (sym is) (equal_self (k + 1)))
      ∙ ap (λ r. and_then r (λ os. Ok (Delays (k + 1) x.duration no_stmt ∷ os))) (later-shut xs (k + 1) (omega (arith, is)))
      ∙ ap (λ m. Ok (Delays m x.duration no_stmt ∷ [])) (sym is)

-- ---- the branch that is taken

module _ (far : Spots) (p : PProgram) (events : List Event) (h : IsLegalOriginal p) (t : ℕ) (W : Variables) (permit : Permit) (all : List Open) (pauses : List Pause) (others : PArms) (last : PMaybe) where
  abbrev u : RewrittenUnit
  u = unit_of_task p t

  abbrev T : TypeTable
  T = types_in (text_in p events)

  -- those of alternatives with k delays before them
  abbrev pub arms : PAlts → ℕ → PArms
  arms alts k = alternative_branches u pauses others (alts_image u alts) (k + 1)

  -- One of the alternatives is taken.
  pub data Taken (alts : PAlts) (k : ℕ) (os : List Open) : Type 0 where
    by_accept : (head : PHead) (m : PMaybe) (l : PStmts) (s : Span) (e : ℕ) (z : ℤ) → AcceptSays far p events h t W head m e z true → Replayed (only_names (form_and_text p events)) u l (rewritten replay_rewriter l u) → permit ≡ ToMeet e z →
        find (accepts_member e z) os ≡ Some (Accepts e z head (stmts_or_none m) l) →
        TakesBranch T W (arms alts k) last (in_front (serve u s (accepting head (inside_maybe replay_rewriter m u))) (rewritten replay_rewriter l u)) → Taken alts k os
    by_delay : (n d : ℕ) (l : PStmts) (s : Span) → Replayed (only_names (form_and_text p events)) u l (rewritten replay_rewriter l u) → permit ≡ ToDelay n → k < n → delay_stmts alts k n ≡ l →
        ((κ : Task) → ((s1 : Span) → guard_holds κ (Some (never_so s1)) ≡ Ok false) → (s1 : Span) →
        alternatives_open κ (only_pause s1 n (pauses_of (alts_image u alts)) (k + 1)) k ≡ Ok (Delays n d no_stmt ∷ [])) →
        TakesBranch T W (arms alts k) last (stmt_then (pausing u s pauses n) (stmt_then (done u s) (rewritten replay_rewriter l u))) → Taken alts k os
    by_terminate : (s : Span) → permit ≡ ToClose → TakesBranch T W (arms alts k) last (one (never_or_terminate u s)) → Taken alts k os

  module _ (tests : TestsEvaluate p t T W (kind permit) (arg permit) (index permit))
      (due : (s : Span) (d : ℕ) (test : PExpr) (c : Bool) → EvaluatesTo T W test c → EvaluatesTo T W (fold (and_later s d) test pauses) (c && not (list_any (is_shorter d) all))) where
    abbrev f : Open → Bool
    f = is_for permit all

    -- where the first is not taken, one of the others is
    any-later : (g : Bool) (op : Open) (os : List Open) → (f op && g) ≡ false → list_any f (if g then op ∷ os else os) ≡ list_any f os
    any-later g op os c = any-if f g op os ∙ ap (λ b. b || list_any f os) c

    any-first : (g : Bool) (op : Open) (os : List Open) → list_any f (if g then op ∷ os else os) ≡ false → ((f op && g) ≡ false) × (list_any f os ≡ false)
    any-first g op os c = or_both (f op && g) (list_any f os) (sym (any-if f g op os) ∙ c)

    -- an accept alternative
    module _ (guard : Option PExpr) (g : Bool) (head : PHead) (m : PMaybe) (l : PStmts) (s : Span) (rest : PAlts) (k e : ℕ) (z : ℤ) (says : GuardSays T W guard g) (accept : AcceptSays far p events h t W head m e z g) where
      abbrev accepts : Open
      accepts = Accepts e z head (stmts_or_none m) l

      abbrev with-accept : PAlts
      with-accept = alt_then (alternative guard (AAccept (accepting head m) l) s) rest

      accept-test : EvaluatesTo T W (and_guard s (permits_start u s head) guard) (f accepts && g)
      accept-test =
          guarded T W s (permits_start u s head) (starts e z permit)
          (subst (λ n. EvaluatesTo T W (permit_is_at u s 1 n head.index) (starts e z permit)) (sym accept.named) (tests.member s 1 e head.index z (omega arith) accept.fits accept.worth)) says
          ∙ ap (λ c. truth (c && g)) (starts-for all e z head (stmts_or_none m) l permit)

      past-accept : {os : List Open} → (f accepts && g) ≡ false → Taken rest k os → Taken with-accept k (if g then accepts ∷ os else os)
      past-accept {os} c (by_accept head1 m1 l1 s1 e1 z1 one im is first takes) =
          by_accept head1 m1 l1 s1 e1 z1 one im is (find-past (accepts_member e1 z1) g accepts os (subst (λ r. (is_for r all accepts && g) ≡ false) is c) first) (takes_later _ _ _ last _ (accept-test ∙ ap truth c) takes)
      past-accept c (by_delay n d l1 s1 im is low part opens takes) = by_delay n d l1 s1 im is low part opens (takes_later _ _ _ last _ (accept-test ∙ ap truth c) takes)
      past-accept c (by_terminate s1 is takes) = by_terminate s1 is (takes_later _ _ _ last _ (accept-test ∙ ap truth c) takes)

      at-accept : Replayed (only_names (form_and_text p events)) u l (rewritten replay_rewriter l u) → (os : List Open) → (list_any f os ≡ true → Taken rest k os) → (c : Bool) → (f accepts && g) ≡ c →
          list_any f (if g then accepts ∷ os else os) ≡ true → Taken with-accept k (if g then accepts ∷ os else os)
      at-accept im os again true is any =
          let both = and_both (f accepts) g is in
          by_accept head m l s e z (subst (AcceptSays far p events h t W head m e z) both.1 accept) im (sym (to-meet e z permit (starts-for all e z head (stmts_or_none m) l permit ∙ both.0)))
          (find-here (accepts_member e z) g accepts os (same_member-refl e z) both.1)
          (takes_this (and_guard s (permits_start u s head) guard) (in_front (serve u s (accepting head (inside_maybe replay_rewriter m u))) (rewritten replay_rewriter l u)) (arms rest k) last (accept-test ∙ ap truth is))
      at-accept im os again false is any = past-accept is (again (sym (any-later g accepts os is) ∙ any))

    -- a delay alternative
    module _ (guard : Option PExpr) (g : Bool) (d : ℕ) (l : PStmts) (s : Span) (rest : PAlts) (k : ℕ) (says : GuardSays T W guard g) (fits : FitsInteger (k + 1)) where
      abbrev delays : Open
      delays = Delays (k + 1) d l

      abbrev with-delay : PAlts
      with-delay = alt_then (alternative guard (ADelay d l) s) rest

      due-test : EvaluatesTo T W (is_due u s pauses (k + 1) d guard) (f delays && g)
      due-test =
          due s d (and_guard s (permit_is_for u s 4 (k + 1)) guard) (((kind permit == 4) && (arg permit == (k + 1))) && g)
          (guarded T W s (permit_is_for u s 4 (k + 1)) ((kind permit == 4) && (arg permit == (k + 1))) (tests.kind_and_argument s 4 (k + 1) (omega arith) fits) says)
          ∙ ap truth (due-for all (k + 1) d l g permit)

      past-delay : {os : List Open} → (f delays && g) ≡ false → Taken rest (k + 1) os → Taken with-delay k (if g then delays ∷ os else os)
      past-delay {os} c (by_accept head1 m1 l1 s1 e1 z1 one im is first takes) =
          by_accept head1 m1 l1 s1 e1 z1 one im is (find-past (accepts_member e1 z1) g delays os (subst (λ r. (is_for r all delays && g) ≡ false) is c) first) (takes_later _ _ _ last _ (due-test ∙ ap truth c) takes)
      past-delay c (by_delay n d1 l1 s1 im is low part opens takes) =
          by_delay n d1 l1 s1 im is (omega (arith, low)) (ap (λ b. delay_here (Some l) b (delay_stmts rest (k + 1) n)) (unequal_above n (k + 1) low) ∙ part)
          (λ κ never s2. other-shut κ never s2 n (record { duration = d; guard = guard }) (pauses_of (alts_image u rest)) k (unequal (k + 1) n (λ same. omega (arith, low, same))) ∙ opens κ never s2)
          (takes_later _ _ _ last _ (due-test ∙ ap truth c) takes)
      past-delay c (by_terminate s1 is takes) = by_terminate s1 is (takes_later _ _ _ last _ (due-test ∙ ap truth c) takes)

      at-delay : Replayed (only_names (form_and_text p events)) u l (rewritten replay_rewriter l u) → (os : List Open) → (list_any f os ≡ true → Taken rest (k + 1) os) → (c : Bool) → (f delays && g) ≡ c →
          list_any f (if g then delays ∷ os else os) ≡ true → Taken with-delay k (if g then delays ∷ os else os)
      at-delay im os again true is any =
          by_delay (k + 1) d l s im (to-delay all (k + 1) d l permit (and_both (f delays) g is).0) (omega arith) (ap (λ b. delay_here (Some l) b (delay_stmts rest (k + 1) (k + 1))) (equal_self (k + 1)))
          (λ κ never s2. this-opens κ never s2 (k + 1) (record { duration = d; guard = guard }) (pauses_of (alts_image u rest)) k refl) (takes_this _ _ _ last (due-test ∙ ap truth is))
      at-delay im os again false is any = past-delay is (again (sym (any-later g delays os is) ∙ any))

    -- a terminate alternative
    module _ (guard : Option PExpr) (g : Bool) (s : Span) (rest : PAlts) (k : ℕ) (says : GuardSays T W guard g) where
      abbrev with-terminate : PAlts
      with-terminate = alt_then (alternative guard ATerminate s) rest

      close-test : EvaluatesTo T W (and_guard s (permit_is_kind u s 10) guard) (f Terminates && g)
      close-test = guarded T W s (permit_is_kind u s 10) (kind permit == 10) (tests.kind s 10 (omega arith)) says ∙ ap (λ c. truth (c && g)) (closes-for all permit)

      past-terminate : {os : List Open} → (f Terminates && g) ≡ false → Taken rest k os → Taken with-terminate k (if g then Terminates ∷ os else os)
      past-terminate {os} c (by_accept head1 m1 l1 s1 e1 z1 one im is first takes) =
          by_accept head1 m1 l1 s1 e1 z1 one im is (find-past (accepts_member e1 z1) g Terminates os (subst (λ r. (is_for r all Terminates && g) ≡ false) is c) first) (takes_later _ _ _ last _ (close-test ∙ ap truth c) takes)
      past-terminate c (by_delay n d l1 s1 im is low part opens takes) = by_delay n d l1 s1 im is low part opens (takes_later _ _ _ last _ (close-test ∙ ap truth c) takes)
      past-terminate c (by_terminate s1 is takes) = by_terminate s1 is (takes_later _ _ _ last _ (close-test ∙ ap truth c) takes)

      at-terminate : (os : List Open) → (list_any f os ≡ true → Taken rest k os) → (c : Bool) → (f Terminates && g) ≡ c → list_any f (if g then Terminates ∷ os else os) ≡ true → Taken with-terminate k (if g then Terminates ∷ os else os)
      at-terminate os again true is any = by_terminate s (to-close all permit (and_both (f Terminates) g is).0) (takes_this _ _ _ last (close-test ∙ ap truth is))
      at-terminate os again false is any = past-terminate is (again (sym (any-later g Terminates os is) ∙ any))

    -- Where the permit is for one of the alternatives, it is taken;
    pub find_taken : {alts : PAlts} {k : ℕ} (j : Judged far p events h t W alts k) → list_any f (opened far p events h t j) ≡ true → Taken alts k (opened far p events h t j)
    find_taken (judged_none k) any = absurd (true≢false (sym any))
    find_taken (judged_accept guard g head m l s rest k e z says accept im j) any =
        at-accept guard g head m l s rest k e z says accept im (opened far p events h t j) (find_taken j) (f (Accepts e z head (stmts_or_none m) l) && g) refl any
    find_taken (judged_delay guard g d l s rest k says fits im j) any =
        at-delay guard g d l s rest k says fits im (opened far p events h t j) (find_taken j) (f (Delays (k + 1) d l) && g) refl any
    find_taken (judged_terminate guard g s rest k says j) any = at-terminate guard g s rest k says (opened far p events h t j) (find_taken j) (f Terminates && g) refl any

    -- and where it is for none, none is.
    pub none_taken : {alts : PAlts} {k : ℕ} (j : Judged far p events h t W alts k) → list_any f (opened far p events h t j) ≡ false → (m : PStmts) → TakesBranch T W others last m → TakesBranch T W (arms alts k) last m
    none_taken (judged_none k) none m takes = takes
    none_taken (judged_accept guard g head m1 l s rest k e z says accept im j) none m takes =
        let c = any-first g (Accepts e z head (stmts_or_none m1) l) (opened far p events h t j) none in
        takes_later _ _ _ last _ (accept-test guard g head m1 l s rest k e z says accept ∙ ap truth c.0) (none_taken j c.1 m takes)
    none_taken (judged_delay guard g d l s rest k says fits im j) none m takes =
        let c = any-first g (Delays (k + 1) d l) (opened far p events h t j) none in
        takes_later _ _ _ last _ (due-test guard g d l s rest k says fits ∙ ap truth c.0) (none_taken j c.1 m takes)
    none_taken (judged_terminate guard g s rest k says j) none m takes =
        let c = any-first g Terminates (opened far p events h t j) none in
        takes_later _ _ _ last _ (close-test guard g s rest k says ∙ ap truth c.0) (none_taken j c.1 m takes)

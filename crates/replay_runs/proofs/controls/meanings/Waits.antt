-- A selective wait, and what a permit makes of its image.
use Rattle.std.proofs.Common.{◌≡◌, ℕ, zero, suc, ◌+◌, ◌≤◌, ℤ, Bool, true, false, ◌&&◌, ◌||◌, ◌==◌, if◌then◌else◌, List, [], ◌∷◌, ◌++◌, find, Some, None, Result, Ok, Err, refl, sym, ap, ◌∙◌, subst, true≢false, arith}
use Rattle.std.specs.Prelude.{unwrap_or, pos}
use Rattle.std.specs.List.{list_any, cons_option}
use Rattle.common_lemmas.proofs.Numbers.{lt_false, unequal_above}
use Rattle.common_lemmas.proofs.Truth.{and_false}
use Rattle.event_machine.specs.declared.CallForm.TheVariants.{Plain}
use Rattle.event_machine.specs.declared.Choice.{Choice}
use Rattle.event_machine.specs.declared.Choice.TheVariants.{Accept, Else, Delay, Terminate}
use Rattle.event_machine.specs.declared.Event.{Event}
use Rattle.event_machine.specs.Offers.{Offer, Calls, Waits, Ends, calls_in, is_any_form, is_finish}
use Rattle.ada_tree.specs.declared.naming.Span.{Span}
use Rattle.ada_tree.specs.Attributes.{false_name}
use Rattle.ada_tree.specs.TypeTable.{TypeTable}
use Rattle.ada_tree.specs.PlainStmt.{PHead, SNull, SIf, SWait, PStmts, no_stmt, stmt_then, PMaybe, absent, present, accepting, PAlts, no_alt, alt_then, alternative, ATerminate, PArms}
use Rattle.ada_tree.specs.PlainProgram.{PProgram}
use Rattle.ada_static_rules.specs.Refusals.{types_in}
use Rattle.ada_static_rules.specs.StaticValue.{is_integer_value}
use Rattle.ada_value.specs.declared.values.Raised.{Raised}
use Rattle.ada_value.specs.declared.values.Value.{Value}
use Rattle.ada_value.specs.declared.values.Value.TheVariants.{Truth}
use Rattle.ada_value.specs.Values.{and_then, is_true_value, checked, truth_limits}
use Rattle.ada_value.specs.Variables.{Variables}
use Rattle.ada_value.specs.Evaluating.{name_value}
use Rattle.task_model.specs.Setting.{entry_of}
use Rattle.task_model.specs.Frames.{Around, PFrame, in_front}
use Rattle.task_model.specs.Tasks.{Task, stmts_or_none, gone_to}
use Rattle.task_model.specs.Waits.{Open, Accepts, Delays, Terminates, guard_holds, alternatives_open, open_at, is_present, choices_of, accepts_member, first_accepting, delay_here, delay_stmts}
use Rattle.task_model.specs.Stands.{choices_stand, wait_stand, steps_at, offered, offer_of, can_step, stepped}
use Rattle.task_model.specs.Rendezvous.{resumed, took_else, took_delay, pending_of, finals_of}
use Rattle.task_laws.specs.translation.Translations.{Programs}
use Rattle.task_laws.specs.translation.Scopes.{SeeAlike}
use Rattle.task_laws.specs.translation.OldTexts.{only_names, OldAlts, OldMaybe, old_absent, old_present, old_wait}
use Rattle.task_laws.specs.translation.Controls.{Under}
use Rattle.task_laws.proofs.translation.Fixed.{fixed-after}
use Rattle.task_laws.proofs.translation.Frames.{sees-alike}
use Rattle.normal_model.specs.RewrittenUnit.{RewrittenUnit}
use Rattle.normal_model.specs.Making.{one}
use Rattle.normal_model.specs.Walk.{after_alts, rewritten, inside_maybe, inside_alts, image_of}
use Rattle.normal_laws.specs.runs.floors.Preludes.{Reaches, reaches_here, reaches_by}
use Rattle.normal_laws.proofs.runs.callees.Choosing.{reaches-behind}
use Rattle.normal_laws.specs.existence.Laws.{IsLegalOriginal}
use Rattle.run_laws.specs.replaying.Permits.{Permit, ToMeet, ToFinish, ToElse, ToDelay, ToCallElse, ToExpire, ToFail, ToEnd, ToAbort, ToClose, wants}
use Rattle.run_laws.specs.replaying.Copies.{Spots, shows}
use Rattle.replay_runs.specs.script.Spelling.{kind, arg, index}
use Rattle.replay_model.specs.Names.{never_text, added_id, added_word}
use Rattle.replay_model.specs.Asking.{ask, done, stop}
use Rattle.replay_model.specs.Serving.{accept_asking, saying_so, serve}
use Rattle.replay_model.specs.Waiting.{never_so, never_alt, Pause, pauses_of, only_pause, pausing, never_or_terminate, passing, else_branch, wait_image}
use Rattle.replay_model.specs.ReplayTree.{last_task}
use Rattle.replay_model.specs.ReplayStmts.{replay_rewriter}
use Rattle.replay_structure.proofs.asked.Kept.{still_alts, no-leads}
use Rattle.replay_runs.proofs.found.Legal.{legal_more_are_found}
use Rattle.replay_structure.proofs.legal.names.form_names.Olds.{first-old}
use Rattle.replay_structure.specs.spots.Places.{text_spots}
use Rattle.replay_runs.specs.starts.Laws.{form_in, text_in}
use Rattle.replay_runs.specs.starts.Formals.{text_setting}
use Rattle.replay_runs.specs.translation.Rows.{Replayed}
use Rattle.replay_runs.proofs.translation.Rows.{are-images, rows}
use Rattle.table_law.specs.States.{Offers}
use Rattle.replay_runs.specs.controls.Asking.{unit_of_task, permit_stored}
use Rattle.replay_runs.specs.controls.Imitating.{permit_values}
use Rattle.replay_runs.specs.controls.formed.Laws.{IsWaitFormed}
use Rattle.replay_runs.specs.controls.permits.Laws.{FitsInteger, EvaluatesTo, TestsEvaluate, TakesBranch, takes_this, takes_later, takes_other}
use Rattle.replay_runs.specs.controls.translated.Laws.{form_and_text, unit_translation}
use Rattle.replay_runs.specs.controls.meanings.Pairs.{IsOfForm}
use Rattle.replay_runs.specs.controls.meanings.Permits.{IsSaying, ActsBy, IsHolding, ComesToHold}
use Rattle.replay_runs.specs.controls.meanings.Laws.{stands_at, HoldsEachPermit, LegalWaitsHold}
use Rattle.replay_runs.proofs.controls.permits.Tests.{tests_of_permits}
use Rattle.replay_runs.proofs.controls.meanings.Pairs.{tasks_stay}
use Rattle.replay_runs.proofs.controls.meanings.Parts.{left, right, laws, holds_behind, stops_there, says_row, stored_under, stored_holds, InBranch, in_branch}
use Rattle.replay_runs.proofs.controls.meanings.Serving.{serve_holds}
use Rattle.replay_runs.proofs.controls.meanings.Choosing.{is_for, wants_wait}
use Rattle.replay_runs.proofs.controls.meanings.Judging.{alts_image, alts_are, AcceptSays, Judged, opened, judge, later_says}
use Rattle.replay_runs.proofs.controls.meanings.Taking.{Taken, by_accept, by_delay, by_terminate, arms, find_taken, none_taken}

abbrev truth : Bool → Result Value Raised
truth c = Ok (Truth c)

-- ---- a wait without a local step

offers-choices : (cs : List Choice) → steps_at (choices_stand cs) ≡ false → offered (choices_stand cs) ≡ Waits cs
offers-choices [] e = absurd (true≢false e)
offers-choices (c ∷ cs) e = refl

opens-ok : (has_else : Bool) (r : Result (List Open) Raised) → steps_at (wait_stand has_else r) ≡ false → (os : List Open) × (r ≡ Ok os) × (offered (wait_stand has_else r) ≡ Waits (choices_of has_else os))
opens-ok has_else (Ok os) e = (os, refl, offers-choices (choices_of has_else os) e)
opens-ok has_else (Err x) e = absurd (true≢false e)

-- no delay of these has statements
no-part : (s : Span) (n : ℕ) (xs : List Pause) (m k : ℕ) → delay_stmts (only_pause s n xs m) k n ≡ no_stmt
no-part s n [] m k = refl
no-part s n (x ∷ xs) m k = by_test (n == k + 1) (no-part s n xs (m + 1) (k + 1))
  where
    by_test : (c : Bool) {later : PStmts} → later ≡ no_stmt → delay_here (Some no_stmt) c later ≡ no_stmt
    by_test true e = refl
    by_test false e = e

to-else : (permit : Permit) → (kind permit == 3) ≡ true → permit ≡ ToElse
to-else ToElse c = refl
to-else (ToMeet f j) c = absurd (true≢false (sym c))
to-else ToFinish c = absurd (true≢false (sym c))
to-else (ToDelay k) c = absurd (true≢false (sym c))
to-else (ToCallElse f j) c = absurd (true≢false (sym c))
to-else (ToExpire f j) c = absurd (true≢false (sym c))
to-else (ToFail f j) c = absurd (true≢false (sym c))
to-else ToEnd c = absurd (true≢false (sym c))
to-else (ToAbort x) c = absurd (true≢false (sym c))
to-else ToClose c = absurd (true≢false (sym c))

module _ (far : Spots) (p : PProgram) (events : List Event) (h : IsLegalOriginal p) where
  abbrev n : Spots
  n = text_spots far (form_in p)

  abbrev b : Programs
  b = form_and_text p events

  abbrev T : TypeTable
  T = types_in (text_in p events)

  -- the entry that nobody calls
  never-there : (t : ℕ) → 1 ≤ t → t ≤ last_task (form_in p).numbers → entry_of (text_setting p events).numbers t (added_id (form_in p).program never_text) ≡ n.never t
  never-there zero beside there = absurd (omega (arith, beside))
  never-there (suc k) beside there = ap (λ o. unwrap_or o 0) ((legal_more_are_found far p h).never k (omega (arith, there)))

  -- FALSE
  falsehood : {V W : Variables} → SeeAlike b V W → (s : Span) → EvaluatesTo T W (never_so s) false
  falsehood see s = ap (λ o. Ok (name_value T o (record { 0 = false_name }))) (fixed-after b see (record { 0 = false_name }) (first-old p h false_name (omega arith)) refl)

  module _ (t : ℕ) (i : List ℤ) (w : List ℕ) (alts : PAlts) (otherwise : PMaybe) (s : Span) (r r' : PStmts) {q q' : Around} {o o' : List PFrame} {V V' : Variables} (im : Replayed (only_names b) (unit_of_task p t) r r')
      (v : Under (unit_translation p events t) q o V q' o' V') (own : IsOfForm p t (left far p events t i w (stmt_then (SWait alts otherwise s) r) q o V)) where
    abbrev u : RewrittenUnit
    u = unit_of_task p t

    abbrev σ : Task
    σ = left far p events t i w (stmt_then (SWait alts otherwise s) r) q o V

    formed : IsWaitFormed p t alts
    formed = own.formed.rest.0.0

    see : {W : Variables} → Under (unit_translation p events t) q o V q' o' W → SeeAlike b V W
    see under = sees-alike (unit_translation p events t) (laws far p events t h) under

    -- a task that offers what its permit is for
    holding : (permit : Permit) (κ : Task) (x : Offer) → wants t permit (offer_of σ) ≡ true → Offers κ x → x ≡ shows n t permit (offer_of σ) → is_finish x ≡ false → κ.output ≡ σ.output → ActsBy far p events t permit σ κ →
        IsHolding far p events t permit σ κ
    holding permit κ x mine its same none out acts = record {
      output = out;
      offers = record {
        rests = its.rests;
        offers = its.offers ∙ same ∙ sym (ap (λ c. if c then shows n t permit (offer_of σ) else Calls Plain n.stop (pos 0)) mine);
      };
      callers = λ f. absurd (true≢false (sym f ∙ ap is_finish its.offers ∙ none));
      acts = acts;
    }

    module _ (W : Variables) (under : Under (unit_translation p events t) q o V q' o' W) where
      -- ---- waits in which one alternative can be taken

      module _ (s1 : Span) (more : PAlts) (m : PMaybe) (row : PStmts) where
        abbrev κ : Task
        κ = right far p events t i w (stmt_then (SWait (alt_then (never_alt u s1) more) m s1) row) q' o' W

        abbrev never_head : PHead
        never_head = record { entry = added_word u.setting.program s1 never_text; index = None; formals = []; span = s1 }

        never-opens : (os : List Open) → alternatives_open κ more 0 ≡ Ok os → open_at κ (SWait (alt_then (never_alt u s1) more) m s1) ≡ Ok (Accepts (n.never t) (pos 0) never_head no_stmt no_stmt ∷ os)
        never-opens os e =
            ap (λ x. and_then x (λ xs. Ok (Accepts (entry_of (text_setting p events).numbers t (added_id (form_in p).program never_text)) (pos 0) never_head no_stmt no_stmt ∷ xs))) e
            ∙ ap (λ k. Ok (Accepts k (pos 0) never_head no_stmt no_stmt ∷ os)) (never-there t formed.beside own.there)

        never-offers : (os : List Open) → alternatives_open κ more 0 ≡ Ok os → Offers κ (Waits (choices_of (is_present m) (Accepts (n.never t) (pos 0) never_head no_stmt no_stmt ∷ os)))
        never-offers os e = record {
          rests = ap (λ c. steps_at (wait_stand (is_present m) c)) (never-opens os e);
          offers = ap (λ c. offered (wait_stand (is_present m) c)) (never-opens os e);
        }

        never-shut : (s2 : Span) → guard_holds κ (Some (never_so s2)) ≡ Ok false
        never-shut s2 = ap (λ x. and_then x (λ a. and_then (checked truth_limits a) (λ c. Ok (is_true_value c)))) (falsehood (see under) s2)

      -- ---- an accept alternative

      serves : (os : List Open) → open_at σ (SWait alts otherwise s) ≡ Ok os → offer_of σ ≡ Waits (choices_of (is_present otherwise) os) → (head : PHead) (m : PMaybe) (l : PStmts) (s1 : Span) (e : ℕ) (z : ℤ) → AcceptSays far p events h t W head m e z true →
          Replayed (only_names b) u l (rewritten replay_rewriter l u) → find (accepts_member e z) os ≡ Some (Accepts e z head (stmts_or_none m) l) → wants t (ToMeet e z) (offer_of σ) ≡ true →
          ComesToHold far p events t (ToMeet e z) σ (right far p events t i w (in_front (serve u s1 (accepting head (inside_maybe replay_rewriter m u))) (in_front (rewritten replay_rewriter l u) r')) q' o' W)
      serves os opens offer head m l s1 e z says iml first mine =
          let served = serve_holds far p events h t i w head s1 e z (SWait alts otherwise s) r l (in_front (rewritten replay_rewriter l u) r') says.images says.formals
          ((are-images (only_names b) u).joined l (rewritten replay_rewriter l u) r r' iml im) under says.named_there (says.member refl) own (ap (first_accepting e z) opens ∙ first) in
          holds_behind far p events t (ToMeet e z) σ served.reach
          (holding (ToMeet e z) served.reached (Waits (Accept (n.original e) z ∷ [])) mine served.offers
          (sym (ap (λ x. if calls_in is_any_form e z x then Calls Plain (n.original e) z else Waits (Accept (n.original e) z ∷ [])) offer)) refl served.output
          (λ f. absurd (true≢false (sym f ∙ ap (calls_in is_any_form e z) offer)), λ f. served.accepts))

      -- ---- a delay alternative

      pauses : (k d : ℕ) (l : PStmts) (s1 : Span) (xs : List Pause) → Replayed (only_names b) u l (rewritten replay_rewriter l u) → delay_stmts alts 0 k ≡ l →
          ((κ : Task) → ((s2 : Span) → guard_holds κ (Some (never_so s2)) ≡ Ok false) → alternatives_open κ (only_pause s1 k xs 1) 0 ≡ Ok (Delays k d no_stmt ∷ [])) → wants t (ToDelay k) (offer_of σ) ≡ true →
          IsHolding far p events t (ToDelay k) σ (right far p events t i w (stmt_then (pausing u s1 xs k) (stmt_then (done u s1) (in_front (rewritten replay_rewriter l u) r'))) q' o' W)
      pauses k d l s1 xs iml part opens mine =
          let row : PStmts = stmt_then (done u s1) (in_front (rewritten replay_rewriter l u) r') in
          let end : Task = right far p events t i w row q' o' W in
          let here : Task = κ s1 (only_pause s1 k xs 1) absent row in
          let path : took_delay k here ≡ end = ap (λ x. gone_to (in_front x row) here) (no-part s1 k xs 1 0) in
          let its = never-offers s1 (only_pause s1 k xs 1) absent row (Delays k d no_stmt ∷ []) (opens here (never-shut s1 (only_pause s1 k xs 1) absent row)) in
          holding (ToDelay k) here _ mine its (ap (λ c. Waits (Accept (n.never t) (pos 0) ∷ (cons_option (if c || false then None else Some (Delay k)) [] ++ []))) (lt_false d d (omega arith))) refl refl
          (λ f. record {
            reached = end;
            reach = subst (λ x. Reaches x end) (sym path) (reaches_here end);
            says = subst (λ x. IsSaying far p events t (gone_to (in_front x r) σ) end) (sym part)
                (says_row far p events t h i w s1 (stmt_then (SWait alts otherwise s) r) (in_front l r) (in_front (rewritten replay_rewriter l u) r') ((are-images (only_names b) u).joined l (rewritten replay_rewriter l u) r r' iml im) under
                (subst (λ x. IsOfForm p t (gone_to (in_front x r) σ)) part ((tasks_stay p t σ own).took_delay k)));
          })

      -- ---- a terminate alternative

      terminates : (s1 : Span) → wants t ToClose (offer_of σ) ≡ true → IsHolding far p events t ToClose σ (right far p events t i w (stmt_then (never_or_terminate u s1) r') q' o' W)
      terminates s1 mine =
          holding ToClose (κ s1 (alt_then (alternative None ATerminate s1) no_alt) absent r') (Waits (Accept (n.never t) (pos 0) ∷ Terminate ∷ [])) mine
          (never-offers s1 (alt_then (alternative None ATerminate s1) no_alt) absent r' (Terminates ∷ []) refl)
          (sym (ap (λ c. if c then Ends else Waits (Accept (n.never t) (pos 0) ∷ Terminate ∷ [])) (unequal_above t 0 formed.beside))) refl refl tt

    -- ---- an else part

    passes : (W : Variables) (under : Under (unit_translation p events t) q o V q' o' W) (l : PStmts) → otherwise ≡ present l → Replayed (only_names b) u l (rewritten replay_rewriter l u) → wants t ToElse (offer_of σ) ≡ true →
        IsHolding far p events t ToElse σ (right far p events t i w (stmt_then (passing u s) (stmt_then (done u s) (in_front (rewritten replay_rewriter l u) r'))) q' o' W)
    passes W under l is iml mine =
        let row : PStmts = stmt_then (done u s) (in_front (rewritten replay_rewriter l u) r') in
        let here : Task = κ W under s no_alt (present (one (SNull s))) row in
        holding ToElse here (Waits (Accept (n.never t) (pos 0) ∷ Else ∷ [])) mine (never-offers W under s no_alt (present (one (SNull s))) row [] refl) refl refl refl
        (λ f. record {
          reached = right far p events t i w row q' o' W;
          reach = reaches_by (took_else here) (stepped (took_else here)) refl refl (reaches_here (stepped (took_else here)));
          says = subst (λ x. IsSaying far p events t (gone_to (in_front (stmts_or_none x) r) σ) (right far p events t i w row q' o' W)) (sym is)
              (says_row far p events t h i w s (stmt_then (SWait alts otherwise s) r) (in_front l r) (in_front (rewritten replay_rewriter l u) r') ((are-images (only_names b) u).joined l (rewritten replay_rewriter l u) r r' iml im) under
              (subst (λ x. IsOfForm p t (gone_to (in_front (stmts_or_none x) r) σ)) is (tasks_stay p t σ own).took_else));
        })

    -- ---- with a permit

    module _ (permit : Permit) (j : Task) (few : FitsInteger (arg permit)) (fits : is_integer_value (index permit) ≡ true) (pending : pending_of j ≡ None) (finals : finals_of j ≡ permit_values permit) where
      abbrev W : Variables
      W = permit_stored p V' (kind permit) (arg permit) (index permit)

      abbrev last : PMaybe
      last = present (one (stop u s))

      under : Under (unit_translation p events t) q o V q' o' W
      under = stored_under far p events t h permit v

      tests : TestsEvaluate p t T W (kind permit) (arg permit) (index permit)
      tests = tests_of_permits p t T W (kind permit) (arg permit) (index permit) (stored_holds far p events t h own.there permit v)

      -- where the image asks
      abbrev asking : PArms → Task
      asking a = resumed j (right far p events t i w (stmt_then (ask u s) (stmt_then (SIf a last s) r')) q' o' V')

      -- into the branch that serves
      enters : (a : PArms) (head : PHead) (m : PMaybe) (l : PStmts) (s1 : Span) → TakesBranch T W a last (in_front (serve u s1 (accepting head m)) l) →
          InBranch far p events t h permit i w q o V q' o' V' (asking a) (in_front (serve u s1 (accepting head m)) (in_front l r'))
      enters a head absent l s1 takes = in_branch far p events t h own.there permit j few fits pending finals i w r r' v s a last (accept_asking u s1 (accepting head absent)) (stmt_then (done u s1) l) takes
      enters a head (present l1) l s1 takes =
          in_branch far p events t h own.there permit j few fits pending finals i w r r' v s a last (saying_so u s1 (accept_asking u s1 (accepting head (present l1)))) (stmt_then (done u s1) l) takes

      -- the branch of an alternative
      takes-one : (all : List Open) (rest : PArms) → open_at σ (SWait alts otherwise s) ≡ Ok all → offer_of σ ≡ Waits (choices_of (is_present otherwise) all) → wants t permit (offer_of σ) ≡ true →
          Taken far p events h t W permit all (pauses_of (alts_image u alts)) rest last alts 0 all →
          ComesToHold far p events t permit σ (asking (arms far p events h t W permit all (pauses_of (alts_image u alts)) rest last alts 0))
      takes-one all rest opens offer mine (by_accept head m l s1 e z says iml is first takes) =
          let into = enters (arms far p events h t W permit all (pauses_of (alts_image u alts)) rest last alts 0) head (inside_maybe replay_rewriter m u) (rewritten replay_rewriter l u) s1 takes in
          let c = serves W under all opens offer head m l s1 e z says iml first (subst (λ g. wants t g (offer_of σ) ≡ true) is mine) in
          holds_behind far p events t permit σ (reaches-behind into.reach c.reach) (subst (λ g. IsHolding far p events t g σ c.reached) (sym is) c.holds)
      takes-one all rest opens offer mine (by_delay k d l s1 iml is low part shut takes) =
          let into = in_branch far p events t h own.there permit j few fits pending finals i w r r' v s (arms far p events h t W permit all (pauses_of (alts_image u alts)) rest last alts 0) last
          (pausing u s1 (pauses_of (alts_image u alts)) k) (stmt_then (done u s1) (rewritten replay_rewriter l u)) takes in
          holds_behind far p events t permit σ into.reach
          (subst (λ g. IsHolding far p events t g σ (right far p events t i w (stmt_then (pausing u s1 (pauses_of (alts_image u alts)) k) (stmt_then (done u s1) (in_front (rewritten replay_rewriter l u) r'))) q' o' W)) (sym is)
          (pauses W under k d l s1 (pauses_of (alts_image u alts)) iml part (λ x never. shut x never s1) (subst (λ g. wants t g (offer_of σ) ≡ true) is mine)))
      takes-one all rest opens offer mine (by_terminate s1 is takes) =
          let into = in_branch far p events t h own.there permit j few fits pending finals i w r r' v s (arms far p events h t W permit all (pauses_of (alts_image u alts)) rest last alts 0) last (never_or_terminate u s1) no_stmt takes in
          holds_behind far p events t permit σ into.reach
          (subst (λ g. IsHolding far p events t g σ (right far p events t i w (stmt_then (never_or_terminate u s1) r') q' o' W)) (sym is) (terminates W under s1 (subst (λ g. wants t g (offer_of σ) ≡ true) is mine)))

      -- no branch
      takes-none : (a : PArms) → TakesBranch T W a last (one (stop u s)) → wants t permit (offer_of σ) ≡ false → ComesToHold far p events t permit σ (asking a)
      takes-none a takes none =
          let into = in_branch far p events t h own.there permit j few fits pending finals i w r r' v s a last (stop u s) no_stmt takes in
          holds_behind far p events t permit σ into.reach
          (stops_there far p events t h permit σ s r' (record { number = t; input = i; output = w; place = q'; outer = o'; vars = W }) own.there none refl)

      -- the else part, where there is one
      takes-else : (a : PArms) {m : PMaybe} → otherwise ≡ m → OldMaybe (only_names b) m → ((l : PStmts) → TakesBranch T W (else_branch u s (inside_maybe replay_rewriter m u)) last l → TakesBranch T W a last l) →
          wants t permit (offer_of σ) ≡ ((kind permit == 3) && is_present m) → ComesToHold far p events t permit σ (asking a)
      takes-else a is old_absent takes wanted = takes-none a (takes (one (stop u s)) (takes_other last)) (wanted ∙ and_false (kind permit == 3))
      takes-else a is (old_present l old) takes wanted = go (kind permit == 3) refl
        where
          go : (c : Bool) → (kind permit == 3) ≡ c → ComesToHold far p events t permit σ (asking a)
          go true k =
              let pe = to-else permit k in
              let into = in_branch far p events t h own.there permit j few fits pending finals i w r r' v s a last (passing u s) (stmt_then (done u s) (rewritten replay_rewriter l u))
              (takes (stmt_then (passing u s) (stmt_then (done u s) (rewritten replay_rewriter l u))) (takes_this _ _ _ last (tests.kind s 3 (omega arith) ∙ ap truth k))) in
              holds_behind far p events t permit σ into.reach
              (subst (λ g. IsHolding far p events t g σ (right far p events t i w (stmt_then (passing u s) (stmt_then (done u s) (in_front (rewritten replay_rewriter l u) r'))) q' o' W)) (sym pe)
              (passes W under l is (rows (only_names b) u old) (subst (λ g. wants t g (offer_of σ) ≡ true) pe (wanted ∙ ap (λ c. c && true) k))))
          go false k =
              takes-none a (takes (one (stop u s)) (takes_later _ _ _ last _ (tests.kind s 3 (omega arith) ∙ ap truth k) (takes_other last))) (wanted ∙ ap (λ c. c && true) k)

      decides : (x : Judged far p events h t W alts 0) → open_at σ (SWait alts otherwise s) ≡ Ok (opened far p events h t x) → offer_of σ ≡ Waits (choices_of (is_present otherwise) (opened far p events h t x)) → OldMaybe (only_names b) otherwise →
          (c : Bool) → list_any (is_for permit (opened far p events h t x)) (opened far p events h t x) ≡ c →
          ComesToHold far p events t permit σ
          (asking (arms far p events h t W permit (opened far p events h t x) (pauses_of (alts_image u alts)) (else_branch u s (inside_maybe replay_rewriter otherwise u)) last alts 0))
      decides x opens offer old true any =
          let all = opened far p events h t x in
          takes-one all (else_branch u s (inside_maybe replay_rewriter otherwise u)) opens offer
          (ap (wants t permit) offer ∙ wants_wait t formed.beside permit (is_present otherwise) all ∙ ap (λ c. c || ((kind permit == 3) && is_present otherwise)) any)
          (find_taken far p events h t W permit all (pauses_of (alts_image u alts)) (else_branch u s (inside_maybe replay_rewriter otherwise u)) last tests
          (λ s1 d test c worth. later_says far p events h t (falsehood (see under)) s1 d x test c worth) x any)
      decides x opens offer old false none =
          let all = opened far p events h t x in
          takes-else (arms far p events h t W permit all (pauses_of (alts_image u alts)) (else_branch u s (inside_maybe replay_rewriter otherwise u)) last alts 0) refl old
          (λ l takes. none_taken far p events h t W permit all (pauses_of (alts_image u alts)) (else_branch u s (inside_maybe replay_rewriter otherwise u)) last tests
          (λ s1 d test c worth. later_says far p events h t (falsehood (see under)) s1 d x test c worth) x none l takes)
          (ap (wants t permit) offer ∙ wants_wait t formed.beside permit (is_present otherwise) all ∙ ap (λ c. c || ((kind permit == 3) && is_present otherwise)) none)

      holds-one : (x : Judged far p events h t W alts 0) → open_at σ (SWait alts otherwise s) ≡ Ok (opened far p events h t x) → offer_of σ ≡ Waits (choices_of (is_present otherwise) (opened far p events h t x)) → OldMaybe (only_names b) otherwise →
          ComesToHold far p events t permit σ
          (asking (arms far p events h t W permit (opened far p events h t x) (pauses_of (alts_image u alts)) (else_branch u s (inside_maybe replay_rewriter otherwise u)) last alts 0))
      holds-one x opens offer old = decides x opens offer old (list_any (is_for permit (opened far p events h t x)) (opened far p events h t x)) refl

    waits-at : OldAlts (only_names b) alts → OldMaybe (only_names b) otherwise → can_step σ ≡ false →
        HoldsEachPermit far p events t σ (right far p events t i w (in_front (wait_image u s (alts_image u alts) (inside_maybe replay_rewriter otherwise u)) r') q' o' V')
    waits-at olds old rests permit j few fits pending finals =
        let ok = opens-ok (is_present otherwise) (open_at σ (SWait alts otherwise s)) rests in
        let known = see (stored_under far p events t h permit v) in
        let x = judge far p events h t i w (stmt_then (SWait alts otherwise s) r) q o V own.there known own.variables known olds formed.heads 0 (omega (arith, formed.few)) ok.0 ok.1 in
        holds-one permit j few fits pending finals x.0 (ok.1 ∙ ap Ok (sym x.1)) (ok.2 ∙ ap (λ os. Waits (choices_of (is_present otherwise) os)) (sym x.1)) old

-- the walk gives this image
image-is : (alts : PAlts) (otherwise : PMaybe) (s : Span) (u : RewrittenUnit) → image_of replay_rewriter (SWait alts otherwise s) u ≡ wait_image u s (alts_image u alts) (inside_maybe replay_rewriter otherwise u)
image-is alts otherwise s u =
    ap (λ l. in_front l (wait_image u s (inside_alts replay_rewriter alts u) (inside_maybe replay_rewriter otherwise (after_alts replay_rewriter alts u)))) (no-leads alts u)
    ∙ ap (λ x. wait_image u s x (inside_maybe replay_rewriter otherwise (after_alts replay_rewriter alts u))) (alts_are u alts)
    ∙ ap (λ x. wait_image u s (alts_image u alts) (inside_maybe replay_rewriter otherwise x)) (still_alts alts u)

pub waits : LegalWaitsHold
waits far p events h t σ κ pair alts otherwise s (stands_at {q} {q'} {o} {o'} {V} {V'} i w _ r r' (old_wait _ _ _ _ olds old) im v) rests =
    subst (λ l. HoldsEachPermit far p events t (left far p events t i w (stmt_then (SWait alts otherwise s) r) q o V) (right far p events t i w (in_front l r') q' o' V')) (sym (image-is alts otherwise s (unit_of_task p t)))
    (waits-at far p events h t i w alts otherwise s r r' im v pair.own olds old rests)

-- What the image does wherever a task of the normal form has no local step.
use Rattle.std.proofs.Common.{◌≡◌, ◌==◌, ℕ, ℤ, pos, ◌≤◌, Bool, true, false, if◌then◌else◌, List, [], ◌∷◌, Result, Ok, Err, refl, sym, ap, subst, ◌∙◌, true≢false}
use Rattle.event_machine.specs.declared.CallForm.{CallForm}
use Rattle.event_machine.specs.declared.CallForm.TheVariants as form_is
use Rattle.event_machine.specs.declared.Choice.{Choice}
use Rattle.event_machine.specs.Offers.{Offer, Nothing, Calls, Waits, Finishes, Ends, Aborts, waits_with, opens, is_else, is_delay}
use Rattle.ada_tree.specs.declared.naming.Span.{Span}
use Rattle.ada_tree.specs.PlainStmt.{PCallee, PStmt, SAbort, PStmts, no_stmt, stmt_then}
use Rattle.ada_static_rules.specs.StaticValue.{is_integer_value}
use Rattle.ada_value.specs.declared.values.Value.{Value}
use Rattle.ada_value.specs.Variables.{Variables}
use Rattle.task_model.specs.Frames.{Around, Block, Handling, PFrame, Control, control, in_front, callers_in}
use Rattle.task_model.specs.Tasks.{Task, rest_of, vars_of}
use Rattle.task_model.specs.TaskOps.{task_ops}
use Rattle.task_model.specs.Calls.{Called, called}
use Rattle.task_model.specs.Stands.{call_stand, name_stand, steps_at, offered, can_step, offer_of}
use Rattle.task_laws.specs.statements.Blocks.{HasLeftBlocks}
use Rattle.task_laws.specs.translation.OldTexts.{only_names, OldStmt, old_null, old_assign, old_delay, old_exit, old_raise, old_abort, old_call, old_accept, old_wait, old_conditional, old_timed, old_put, old_put_line, old_new_line, old_get, old_if, old_case, old_block, old_loop, OldCallees, old_no_callee, old_callee}
use Rattle.task_laws.specs.translation.Controls.{task_in, Under, on_floor, in_block, in_handler, in_endless, in_while, in_count, Follows, inside, behind, Alike, alike}
use Rattle.normal_model.specs.Walk.{Rewriter, image_of, after_stmts, after_parts, rewritten}
use Rattle.normal_laws.specs.runs.floors.NormalFloors.{no_floor}
use Rattle.run_laws.specs.collecting.Copies.{telling}
use Rattle.collect_model.specs.Teller.{task_of}
use Rattle.collect_runs.specs.translation.Floors.{CollectFloor, main_body, plain_body, handled_body, taken_handler, accept_body as collect_body, AtTelling, unit_over, unit_left, body_over, body_left}
use Rattle.collect_runs.specs.telling.Meetings.{is_null_next}
use Rattle.collect_model.specs.aborts.Noting.{at_abort}
use Rattle.collect_model.specs.aborts.Places.{with_place}
use Rattle.collect_model.specs.aborts.AbortStmts.{abort_rewriter}
use Rattle.run_laws.specs.aborts.Notes.{BeforeCall, AtEnd, ToAbort}
use Rattle.run_laws.specs.aborts.Copies.{based_offer}
use Rattle.collect_runs.specs.aborts.translation.Rows.{Telling, telling_none, telling_then, telling_rows}
use Rattle.collect_runs.specs.aborts.translation.Floors.{OpenPlace, innermost, BodyFloor, floor_at, beyond_at, HasPlaces, KeepCallers}
use Rattle.collect_runs.proofs.aborts.translation.Counting.{at-most, grows_stmts}
use Rattle.collect_runs.proofs.aborts.translation.Rows.{rows}
use Rattle.collect_runs.specs.aborts.telling.Texts.{Texts, form, text, teller, unit_translation, CanTell}
use Rattle.collect_runs.specs.aborts.telling.Forms.{Form}
use Rattle.collect_runs.specs.aborts.telling.Meetings.{is_service, serves_next, AtTry, ArePaired, StandAlike, they_move, they_rest, they_try, IsBased, IsNoting, IsCalling, IsLeaving, ActsAlike}
use Rattle.collect_runs.specs.aborts.telling.Laws.{TellsAlike}
use Rattle.collect_runs.proofs.aborts.telling.Pairs.{comes}
use Rattle.collect_runs.proofs.aborts.telling.Moving.{steps, row-comes}
use Rattle.collect_runs.proofs.aborts.telling.Ending.{callers-alike, own-notes, unit-tells}
use Rattle.collect_runs.proofs.aborts.telling.Calling.{there, heard, plain-tells, conditional-tells, timed-tells}
use Rattle.collect_runs.proofs.aborts.telling.Holding.{Stays}
use Rattle.collect_runs.proofs.aborts.telling.Likening.{acts-like}
use Rattle.replay_runs.proofs.controls.meanings.Pairs.{not-left}

-- ---- offers

-- which offer it is
abbrev sort_of : Offer → ℕ
sort_of Nothing = 0
sort_of (Calls form e i) = 1
sort_of (Waits choices) = 2
sort_of Finishes = 3
sort_of Ends = 4
sort_of (Aborts v) = 5

abbrev same_sort : Offer → Offer → Bool
same_sort a b = sort_of a == sort_of b

-- who is aborted
abbrev victim_of : Offer → ℕ
victim_of Nothing = 0
victim_of (Calls form e i) = 0
victim_of (Waits choices) = 0
victim_of Finishes = 0
victim_of Ends = 0
victim_of (Aborts v) = v

-- the task offers one thing, and no other
not-so : {q p r : Offer} → q ≡ p → same_sort p r ≡ false → q ≡ r → ⊥
not-so {q} {p} {r} e apart h = true≢false (sym (same r) ∙ ap (λ z. same_sort z r) (sym h ∙ e) ∙ apart)
  where
    same : (z : Offer) → same_sort z z ≡ true
    same Nothing = refl
    same (Calls g e1 i) = refl
    same (Waits cs) = refl
    same Finishes = refl
    same Ends = refl
    same (Aborts v) = refl

no-wait : {q p : Offer} (test : Choice → Bool) → q ≡ p → waits_with test p ≡ false → waits_with test q ≡ true → ⊥
no-wait test e none h = true≢false (sym h ∙ ap (waits_with test) e ∙ none)

-- What is asked of the image at the ends of accept bodies: it acts alike.
abbrev pub ClosesAlike : {x : Texts} → Form x → ℕ → Type 0
ClosesAlike {x} f t =
    (i : List ℤ) (w : List ℕ) (p : OpenPlace) (ps : List OpenPlace) (q q' : Around) (o o' : List PFrame) (V W : Variables) →
    BodyFloor (unit_translation x t ps) (teller x t) p q o V q' o' W →
    f.plainly.IsSo t (task_in (form x) t i w (control no_stmt q o V)) → HasPlaces (teller x t) (x.places t) W →
    KeepCallers (teller x t) (x.places t) W (p ∷ ps) →
    ActsAlike f t (task_in (form x) t i w (control no_stmt q o V)) (task_in (text x) t i w (control no_stmt q' o' W))

-- And where it accepts or waits.
abbrev pub TriesAlike : {x : Texts} → Form x → ℕ → Type 0
TriesAlike {x} f t =
    (ps : List OpenPlace) (τ κ : Task) → f.plainly.IsSo t τ → can_step τ ≡ false → AtTry x t ps τ κ → HasPlaces (teller x t) (x.places t) (vars_of κ) →
    KeepCallers (teller x t) (x.places t) (vars_of κ) ps → ActsAlike f t τ κ

module _ (x : Texts) (can : CanTell x) (f : Form x) (t : ℕ) where
  abbrev walk : Rewriter ℕ
  walk = abort_rewriter (teller x t)

  -- ---- what it does, by what the task offers

  acts-call : {σ κ : Task} (g : CallForm) (e : ℕ) (z : ℤ) → offer_of σ ≡ Calls g e z → callers_in κ.control ≡ callers_in σ.control →
      IsNoting f (BeforeCall t) (λ answer. IsCalling f t σ) κ →
      ActsAlike f t σ κ
  acts-call g e z offer callers note = record {
    offers = record { rests = note.offers.rests; offers = note.offers.offers ∙ sym (ap (based_offer x.note t) offer) };
    callers = callers;
    at_call = λ g1 e1 z1 h. note;
    at_abort = λ v h. absurd (not-so offer refl h);
    at_end = λ h no. absurd (not-so offer refl h);
    back = λ h. absurd (not-so offer refl h);
    over = λ h c outer serves. absurd (not-so offer refl h);
    accepted = λ e1 z1 h c caller j over. absurd (no-wait (opens e1 z1) offer refl h);
    took_else = λ h. absurd (no-wait is_else offer refl h);
    took_delay = λ k h. absurd (no-wait (is_delay k) offer refl h);
  }

  call-offers : (g : CallForm) (r : Result Called _) → steps_at (call_stand g r) ≡ false → (e : ℕ) × (z : ℤ) × (offered (call_stand g r) ≡ Calls g e z)
  call-offers g (Ok c) e = (c.entry, c.index, refl)
  call-offers g (Err a) e = absurd (true≢false e)

  acts-abort : {σ κ : Task} (v : ℕ) → offer_of σ ≡ Aborts v → callers_in κ.control ≡ callers_in σ.control →
      IsNoting f (ToAbort t v) (λ answer. IsBased f t (task_ops.passed σ)) κ → ActsAlike f t σ κ
  acts-abort {σ} {κ} v offer callers note = record {
    offers = record { rests = note.offers.rests; offers = note.offers.offers ∙ sym (ap (based_offer x.note t) offer) };
    callers = callers;
    at_call = λ g e z h. absurd (not-so offer refl h);
    at_abort = λ u h. subst (λ z. IsNoting f (ToAbort t z) (λ answer. IsBased f t (task_ops.passed σ)) κ) (ap victim_of (sym offer ∙ h)) note;
    at_end = λ h no. absurd (not-so offer refl h);
    back = λ h. absurd (not-so offer refl h);
    over = λ h c outer serves. absurd (not-so offer refl h);
    accepted = λ e1 z1 h c caller j over. absurd (no-wait (opens e1 z1) offer refl h);
    took_else = λ h. absurd (no-wait is_else offer refl h);
    took_delay = λ k h. absurd (no-wait (is_delay k) offer refl h);
  }

  acts-end : {σ κ : Task} → offer_of σ ≡ Ends → (t == 0) ≡ false → callers_in κ.control ≡ callers_in σ.control →
      IsNoting f (AtEnd t) (λ answer. IsLeaving f t σ) κ → ActsAlike f t σ κ
  acts-end offer task callers note = record {
    offers = record {
      rests = note.offers.rests;
      offers = note.offers.offers
          ∙ sym (ap (based_offer x.note t) offer ∙ ap (λ b. if b then Ends else telling x.note) task);
    };
    callers = callers;
    at_call = λ g e z h. absurd (not-so offer refl h);
    at_abort = λ v h. absurd (not-so offer refl h);
    at_end = λ h no. note;
    back = λ h. absurd (not-so offer refl h);
    over = λ h c outer serves. absurd (not-so offer refl h);
    accepted = λ e1 z1 h c caller j over. absurd (no-wait (opens e1 z1) offer refl h);
    took_else = λ h. absurd (no-wait is_else offer refl h);
    took_delay = λ k h. absurd (no-wait (is_delay k) offer refl h);
  }

  -- main ends without a note
  acts-main : {σ κ : Task} → offer_of σ ≡ Ends → (t == 0) ≡ true → callers_in κ.control ≡ callers_in σ.control → can_step κ ≡ false → offer_of κ ≡ Ends →
      ActsAlike f t σ κ
  acts-main offer main callers rests there = record {
    offers = record { rests = rests; offers = there ∙ sym (ap (based_offer x.note t) offer ∙ ap (λ b. if b then Ends else telling x.note) main) };
    callers = callers;
    at_call = λ g e z h. absurd (not-so offer refl h);
    at_abort = λ v h. absurd (not-so offer refl h);
    at_end = λ h no. absurd (true≢false (sym main ∙ no));
    back = λ h. absurd (not-so offer refl h);
    over = λ h c outer serves. absurd (not-so offer refl h);
    accepted = λ e1 z1 h c caller j over. absurd (no-wait (opens e1 z1) offer refl h);
    took_else = λ h. absurd (no-wait is_else offer refl h);
    took_delay = λ k h. absurd (no-wait (is_delay k) offer refl h);
  }

  module _ (ps : List OpenPlace) (i : List ℤ) (w : List ℕ) where
    -- ---- at a statement

    module _ (n : ℕ) (from : innermost ps ≤ n) (r r' : PStmts)
        (im : Telling (only_names x.programs) (teller x t) (innermost ps) (x.places t) r r') {q q' : Around} {o o' : List PFrame} {V W : Variables}
        (v : Stays x t ps q q' o o' V W) where
      abbrev left : PStmt → Task
      left s = task_in (form x) t i w (control (stmt_then s r) q o V)

      abbrev right : PStmt → Task
      right s = task_in (text x) t i w (control (in_front (image_of walk s n) r') q' o' W)

      -- The abort of one task: the image tells whom it is to abort, and goes on behind the statement.
      abort-tells : (c : PCallee) (s : Span) → f.plainly.IsSo t (left (SAbort (c ∷ []) s)) → can_step (left (SAbort (c ∷ []) s)) ≡ false →
          ActsAlike f t (left (SAbort (c ∷ []) s)) (right (SAbort (c ∷ []) s))
      abort-tells c s own rests =
          let a = f.callees t i w (control (stmt_then (SAbort (c ∷ []) s) r) q o V) own rests c s r refl in
          acts-abort a.task (ap (λ z. offered (name_stand z)) a.here) (callers-alike x t ps v.under)
          (own-notes x can f t i w (f.plainly.fits t _ own) at_abort (task_of x.main.teller.numbers c.name.name) refl
          (ap (λ m. is_integer_value (pos m)) a.number ∙ a.fits) s r' q' o' W
          (there x can f t ps v.under) (ToAbort t a.task) (λ b. IsBased f t (task_ops.passed (left (SAbort (c ∷ []) s))))
          (λ (u : Value). ap (λ m. record { kind = at_abort; subject = t; argument = m; index = u; owner = 0 }) (sym a.number)) refl
          (λ b. let h = heard x can f t ps q q' o o' (left (SAbort (c ∷ []) s)) own b v in
          row-comes x can t f ps i w (stmt_then (SAbort (c ∷ []) s) r) no_stmt r r' im h.under h.places h.keeps (f.passed t _ own)))

      at-abort-stmt : {cs : List PCallee} (s : Span) → OldCallees (only_names x.programs) cs → f.plainly.IsSo t (left (SAbort cs s)) →
          can_step (left (SAbort cs s)) ≡ false →
          ActsAlike f t (left (SAbort cs s)) (right (SAbort cs s))
      at-abort-stmt s old_no_callee own rests = absurd (true≢false rests)
      at-abort-stmt s (old_callee c [] h k old_no_callee) own rests = abort-tells c s own rests
      at-abort-stmt s (old_callee c more h k (old_callee d rest h1 k1 l1)) own rests = absurd (f.aborts_one t _ own c d rest s r refl)

      at-stmt : {s : PStmt} → OldStmt (only_names x.programs) s → after_parts walk s (with_place n s) ≤ x.places t → f.plainly.IsSo t (left s) →
          is_service s ≡ false → can_step (left s) ≡ false →
          ActsAlike f t (left s) (right s)
      at-stmt (old_null s) to own other rests = absurd (true≢false rests)
      at-stmt (old_assign target e s h k) to own other rests = absurd (true≢false rests)
      at-stmt (old_delay d s) to own other rests = absurd (true≢false rests)
      at-stmt (old_exit name test s h) to own other rests = absurd (true≢false rests)
      at-stmt (old_raise name s) to own other rests = absurd (true≢false rests)
      at-stmt (old_abort cs s h) to own other rests = at-abort-stmt s h own rests
      at-stmt (old_call c s h k) to own other rests =
          let a = call-offers form_is.Plain (called (form x) V c) rests in
          acts-call form_is.Plain a.0 a.1 a.2 (callers-alike x t ps v.under) (plain-tells x can f t ps i w c s r r' im v h own rests)
      at-stmt (old_conditional c l m s h k j z) to own other rests =
          let a = call-offers form_is.Conditional (called (form x) V c) rests in
          acts-call form_is.Conditional a.0 a.1 a.2 (callers-alike x t ps v.under)
          (conditional-tells x can f t ps i w c s r r' im v h l (rewritten walk l n) m (rewritten walk m (after_stmts walk l n))
          (rows (only_names x.programs) (teller x t) (innermost ps) (x.places t) j n from (at-most (grows_stmts (teller x t) m (after_stmts walk l n)) to))
          (rows (only_names x.programs) (teller x t) (innermost ps) (x.places t) z (after_stmts walk l n)
          (at-most from (grows_stmts (teller x t) l n)) to) own rests)
      at-stmt (old_timed c l d m s h k j z) to own other rests =
          let a = call-offers form_is.Timed (called (form x) V c) rests in
          acts-call form_is.Timed a.0 a.1 a.2 (callers-alike x t ps v.under)
          (timed-tells x can f t ps i w c s r r' im v h l (rewritten walk l n) m (rewritten walk m (after_stmts walk l n)) d
          (rows (only_names x.programs) (teller x t) (innermost ps) (x.places t) j n from (at-most (grows_stmts (teller x t) m (after_stmts walk l n)) to))
          (rows (only_names x.programs) (teller x t) (innermost ps) (x.places t) z (after_stmts walk l n)
          (at-most from (grows_stmts (teller x t) l n)) to) own rests)
      at-stmt (old_accept hd m s h k j) to own other rests = absurd (true≢false other)
      at-stmt (old_wait alts m s ask h k) to own other rests = absurd (true≢false other)
      at-stmt (old_put parts s h) to own other rests = absurd (true≢false rests)
      at-stmt (old_put_line parts s h) to own other rests = absurd (true≢false rests)
      at-stmt (old_new_line s) to own other rests = absurd (true≢false rests)
      at-stmt (old_get target s h) to own other rests = absurd (true≢false rests)
      at-stmt (old_if arms m s h k) to own other rests = absurd (true≢false rests)
      at-stmt (old_case e arms m s h k j) to own other rests = absurd (true≢false rests)
      at-stmt (old_block l hs s h k) to own other rests = absurd (true≢false rests)
      at-stmt (old_loop name c l s h k) to own other rests = absurd (true≢false rests)

  -- ---- at an end

  module _ (i : List ℤ) (w : List ℕ) where
    abbrev ended : Around → List PFrame → Variables → Task
    ended q o V = task_in (form x) t i w (control no_stmt q o V)

    abbrev ended' : Around → List PFrame → Variables → Task
    ended' q o V = task_in (text x) t i w (control no_stmt q o V)

    at-unit : {q q' : Around} {o o' : List PFrame} {V W : Variables} →
        CollectFloor (telling_rows (only_names x.programs) (teller x t) 0 (x.places t)) (teller x t).teller no_floor q o V q' o' W →
        HasLeftBlocks (ended' q' o' W) → ActsAlike f t (ended q o V) (ended' q' o' W)
    at-unit (main_body hs hs' handling V W main im ext has) left = acts-main refl main refl refl refl
    at-unit (plain_body s V W task ext has) left = absurd (not-left _ _ _ W _ left)
    at-unit (handled_body s h h' hs hs' V W task im ext has) left = absurd (not-left _ _ _ W _ left)
    at-unit (taken_handler s hs e V W task ext has) left = absurd (not-left _ _ _ W _ left)
    at-unit (collect_body a) left = absurd a.below

    at-telling : {c d : Control} → AtTelling (telling_rows (only_names x.programs) (teller x t) 0 (x.places t)) (teller x t).teller no_floor c d →
        f.plainly.IsSo t (task_in (form x) t i w c) →
        is_null_next d.top.rest ≡ false → ActsAlike f t (task_in (form x) t i w c) (task_in (text x) t i w d)
    at-telling (unit_over s hs taken V W task ext has) own asks = acts-end refl task refl (unit-tells x can f t i w s hs taken V W has own)
    at-telling (unit_left s hs taken e V W task ext has) own asks = absurd (true≢false asks)
    at-telling (body_over a) own asks = absurd a.below
    at-telling (body_left e a) own asks = absurd a.below

    at-beyond : (ps : List OpenPlace) (c d : Control) → beyond_at (only_names x.programs) (teller x t) (x.places t) ps c d →
        f.plainly.IsSo t (task_in (form x) t i w c) →
        is_null_next d.top.rest ≡ false → ActsAlike f t (task_in (form x) t i w c) (task_in (text x) t i w d)
    at-beyond [] c d b own asks = at-telling b own asks
    at-beyond (p ∷ ps) c d b own asks = elim b [ ]

  -- ---- wherever it stands

  -- what the image does at the ends of accept bodies, and at accepts and waits
  module _ (closes : ClosesAlike f t) (tries : TriesAlike f t) where
    at-floor : (i : List ℤ) (w : List ℕ) (ps : List OpenPlace) (q q' : Around) (o o' : List PFrame) (V W : Variables) →
        floor_at (only_names x.programs) (teller x t) (x.places t) ps q o V q' o' W →
        f.plainly.IsSo t (ended i w q o V) → HasPlaces (teller x t) (x.places t) W → KeepCallers (teller x t) (x.places t) W ps →
        HasLeftBlocks (ended' i w q' o' W) →
        ActsAlike f t (ended i w q o V) (ended' i w q' o' W)
    at-floor i w [] q q' o o' V W g own places keeps left = at-unit i w g left
    at-floor i w (p ∷ ps) q q' o o' V W g own places keeps left = closes i w p ps q q' o o' V W g own places keeps

    at-frame : (i : List ℤ) (w : List ℕ) (ps : List OpenPlace) {q q' : Around} {o o' : List PFrame} {V W : Variables} →
        Under (unit_translation x t ps) q o V q' o' W →
        f.plainly.IsSo t (ended i w q o V) → HasPlaces (teller x t) (x.places t) W → KeepCallers (teller x t) (x.places t) W ps →
        HasLeftBlocks (ended' i w q' o' W) →
        can_step (ended i w q o V) ≡ false → ActsAlike f t (ended i w q o V) (ended' i w q' o' W)
    at-frame i w ps (on_floor g) own places keeps left rests = at-floor i w ps _ _ _ _ _ _ g own places keeps left
    at-frame i w ps (in_block {p = q} {o = o} {V = V} hs hs' r r' h im v) own places keeps left rests = absurd
        (not-left o r q V (Block hs) (f.plainly.left t _ own))
    at-frame i w ps (in_handler {p = q} {o = o} {V = V} e r r' im v) own places keeps left rests = absurd
        (not-left o r q V (Handling e) (f.plainly.left t _ own))
    at-frame i w ps (in_endless name l l' r r' h im v) own places keeps left rests = absurd (true≢false rests)
    at-frame i w ps (in_while name e l l' r r' old h im v) own places keeps left rests = absurd (true≢false rests)
    at-frame i w ps (in_count name backwards last l l' r r' b old known h im v) own places keeps left rests = absurd (true≢false rests)

    follows-acts : (ps : List OpenPlace) (i : List ℤ) (w : List ℕ) {c d : Control} → Follows (unit_translation x t ps) c d →
        ArePaired f t ps (task_in (form x) t i w c) (task_in (text x) t i w d) →
        serves_next c.top.rest ≡ false → is_null_next d.top.rest ≡ false → can_step (task_in (form x) t i w c) ≡ false →
        ActsAlike f t (task_in (form x) t i w c) (task_in (text x) t i w d)
    follows-acts ps i w (inside _ _ telling_none v) pair other asks rests = at-frame i w ps v pair.own pair.places pair.keeps pair.left rests
    follows-acts ps i w (inside _ _ (telling_then s r r' n old from to im) v) pair other asks rests =
        at-stmt ps i w n from r r' im (record { under = v; places = pair.places; keeps = pair.keeps }) old to pair.own other rests
    follows-acts ps i w (behind c d b) pair other asks rests = at-beyond i w ps c d b pair.own asks

    alike-acts : (ps : List OpenPlace) (σ κ : Task) → Alike (unit_translation x t ps) σ κ → σ.number ≡ t → ArePaired f t ps σ κ →
        serves_next (rest_of σ) ≡ false → is_null_next (rest_of κ) ≡ false →
        can_step σ ≡ false → ActsAlike f t σ κ
    alike-acts ps σ κ (alike n i w c d follows) is =
        subst (λ m. ArePaired f t ps (task_in (form x) m i w c) (task_in (text x) m i w d) → serves_next c.top.rest ≡ false → is_null_next d.top.rest ≡ false →
        can_step (task_in (form x) m i w c) ≡ false → ActsAlike f t (task_in (form x) m i w c) (task_in (text x) m i w d)) (sym is)
        (follows-acts ps i w follows)

    stands-act : (ps : List OpenPlace) (σ κ : Task) → StandAlike f t ps σ κ → can_step σ ≡ false → ActsAlike f t σ κ
    stands-act ps σ κ (they_move pair can') rests = absurd (true≢false (sym can' ∙ rests))
    stands-act ps σ κ (they_rest pair h serves asks) rests = alike-acts ps σ κ pair.alike (f.plainly.number t σ pair.own) pair serves asks rests
    stands-act ps σ κ (they_try own h at places keeps) rests = tries ps σ κ own rests at places keeps

    acts : (σ κ : Task) → IsBased f t σ κ → can_step σ ≡ false → ActsAlike f t σ κ
    acts σ κ based rests =
        let g = f.like_goes t σ based.like based.is_like in
        acts-like f t σ based.like based.is_like κ (stands-act based.opened based.like κ based.stands (ap steps_at g.stands ∙ rests))

pub tells-alike : (x : Texts) → CanTell x → (f : Form x) → ((t : ℕ) → ClosesAlike f t) → ((t : ℕ) → TriesAlike f t) → TellsAlike f
tells-alike x can f closes tries = record {
  comes = λ t σ κ pair. comes x f t σ κ pair;
  steps = λ t σ κ based e. steps x can t f σ κ based e;
  acts = λ t σ κ based rests. acts x can f t (closes t) (tries t) σ κ based rests;
}

-- Accepts and selective waits: what the image does in its try, given what an opened accept body comes to.
use Rattle.std.proofs.Common.{◌≡◌, ◌≤◌, ◌+◌, ℕ, ℤ, pos, Bool, true, false, not, List, [], ◌∷◌, find, Option, Some, None, Result, Ok, Err, refl, sym, ap, subst, ◌∙◌, true≢false, arith}
use Rattle.std.specs.List.{list_any}
use Rattle.event_machine.specs.declared.Choice.{Choice}
use Rattle.event_machine.specs.Offers.{Offer, Calls, Finishes, Ends, Aborts, waits_with, opens, is_else, is_delay}
use Rattle.event_machine.proofs.Basics.{same_member-true}
use Rattle.ada_tree.specs.declared.naming.Span.{Span}
use Rattle.ada_tree.specs.Every.{alts_count}
use Rattle.ada_tree.specs.PlainExpr.{PExpr}
use Rattle.ada_tree.specs.PlainStmt.{PHead, PStmt, SAccept, SExit, SWait, SIf, PStmts, no_stmt, stmt_then, PMaybe, absent, present, accepting, PAlts}
use Rattle.ada_value.specs.declared.values.Raised.{Raised}
use Rattle.ada_value.specs.declared.values.Value.{Value}
use Rattle.ada_value.specs.declared.values.Value.TheVariants.{Number, Truth}
use Rattle.ada_value.specs.Values.{and_then, integer_limits}
use Rattle.ada_value.specs.Variables.{Variables}
use Rattle.task_model.specs.Setting.{entry_of, member_index}
use Rattle.task_model.specs.Frames.{Endless, Around, Block, Loop, PFrame, control, in_front}
use Rattle.task_model.specs.Tasks.{Task, stmts_or_none, gone_to}
use Rattle.task_model.specs.Calls.{values_handed}
use Rattle.task_model.specs.Steps.{arm_taken}
use Rattle.task_model.specs.Waits.{Open, Accepts, alternatives_open, open_at, delay_stmts, is_present, choices_of, accepts_member, first_accepting, alternative_for}
use Rattle.task_model.specs.Stands.{choices_stand, wait_stand, stand_at, steps_at, offered, can_step, offer_of}
use Rattle.task_model.specs.Rendezvous.{alternative_opened, accepted, took_else, took_delay}
use Rattle.task_laws.specs.translation.OldTexts.{only_names, OldFormals, OldHead}
use Rattle.task_laws.specs.translation.Scopes.{SeeAlike}
use Rattle.task_laws.specs.translation.Images.{ImageMaybe, image_absent, image_present}
use Rattle.task_laws.specs.translation.Controls.{frame, task_in, Under}
use Rattle.task_laws.proofs.translation.Results.{Both, both_ok, both_then}
use Rattle.normal_model.specs.Making.{one, or_null}
use Rattle.normal_laws.specs.runs.floors.Meetings.{AreValues}
use Rattle.normal_laws.specs.runs.floors.Preludes.{IsCell}
use Rattle.normal_laws.proofs.runs.floors.Cells.{cell-set}
use Rattle.collect_model.specs.Noting.{has_else, has_delay, own_note}
use Rattle.collect_model.specs.Calling.{part_is}
use Rattle.collect_model.specs.Serving.{head_telling}
use Rattle.collect_runs.specs.telling.Texts.{IsInteger, IsHeadAlike, at_accept, at_wait}
use Rattle.collect_runs.specs.telling.Meetings.{ComesTo, HandOverAlike}
use Rattle.collect_runs.proofs.telling.Noting.{here, later}
use Rattle.collect_runs.proofs.telling.Hearing.{parted, part-goes}
use Rattle.collect_runs.proofs.telling.Choosing.{opens-any, else-there, delays_at, delay-there, AreSame, same_none, same_then, choices-same, AreFound, found_none, found_some, first-same, finds, rests-ok, both-ok, is_wait, waits-there}
use Rattle.collect_model.specs.aborts.AbortTeller.{AbortTeller}
use Rattle.collect_model.specs.aborts.Noting.{over}
use Rattle.collect_model.specs.aborts.Serving.{is_not_refused, begins, accept_told}
use Rattle.collect_model.specs.aborts.Waiting.{alternatives_told, behind_alternatives, else_told, wait_told, is_taken, branches}
use Rattle.run_laws.specs.aborts.Notes.{Note, HasElse, HasDelay}
use Rattle.run_laws.specs.aborts.Copies.{Begun, TookElse, TookDelay, based_offer}
use Rattle.collect_runs.specs.aborts.recorder.Telling.{member_of, spelled}
use Rattle.collect_runs.specs.aborts.translation.Rows.{Telling, telling_rows}
use Rattle.collect_runs.specs.aborts.translation.Floors.{OpenPlace, innermost, ends_service, Behind, behind_accept}
use Rattle.collect_runs.proofs.aborts.translation.Rows.{are-images}
use Rattle.collect_runs.specs.aborts.telling.Texts.{Texts, plain, form, text, teller, unit_translation, CanTell}
use Rattle.collect_runs.specs.aborts.telling.Forms.{Form}
use Rattle.collect_runs.specs.aborts.telling.Meetings.{IsBased, IsNoting, IsOwing, ActsAlike}
use Rattle.collect_runs.proofs.aborts.telling.Ending.{callers-alike, own-notes}
use Rattle.collect_runs.proofs.aborts.telling.Noting.{hearing}
use Rattle.collect_runs.proofs.aborts.telling.Holding.{Stays}
use Rattle.collect_runs.proofs.aborts.telling.Turning.{not-none}
use Rattle.collect_runs.proofs.aborts.telling.Leaving.{settled-callers}
use Rattle.collect_runs.proofs.aborts.telling.Going.{exit-leaves, taken-worth, delay-branch, else-branch, branch-goes, null-goes}
use Rattle.collect_runs.proofs.aborts.telling.Moving.{row-comes}
use Rattle.collect_runs.proofs.aborts.telling.Calling.{there, heard, kept-part}
use Rattle.collect_runs.proofs.aborts.telling.Choosing.{AltsTold, alts_none, alts_accept, alts_delay, alts_terminate, delay_among, found-delay, waiter, image, OpenSame, same_accept, same_delay, same_terminate, accept-same, accept-alike, shorter-alike, delay-alike, close-alike, member-alike, alternatives-same}

waits-any : (test : Choice → Bool) (cs : List Choice) → waits_with test (offered (choices_stand cs)) ≡ list_any test cs
waits-any test [] = refl
waits-any test (c ∷ cs) = refl

module _ (x : Texts) (can : CanTell x) (f : Form x) (t : ℕ) (ps : List OpenPlace) (n : ℕ) where
  abbrev X : AbortTeller
  X = teller x t

  abbrev Row : PStmts → PStmts → Type 0
  Row r r' = Telling (only_names x.programs) (teller x t) (innermost ps) (x.places t) r r'

  joined : {a a' d d' : PStmts} → Row a a' → Row d d' → Row (in_front a d) (in_front a' d')
  joined k j = (are-images (only_names x.programs) (teller x t) (innermost ps) (x.places t)).joined _ _ _ _ k j

  -- ---- a wait and its image

  module _ (i : List ℤ) (w : List ℕ) (st st' : PStmt) (r r' : PStmts) (q q' : Around) (o o' : List PFrame) (V W : Variables)
      (v : Under (unit_translation x t ps) q o V q' o' W)
      (s0 : Span) (test : PExpr) (after turn : PStmts) where
    abbrev σ : Task
    σ = waiter x can t ps n i w st st' r r' q q' o o' V W v s0 test after turn

    abbrev κ : Task
    κ = image x can t ps n i w st st' r r' q q' o o' V W v s0 test after turn

    abbrev Same : Open → Open → Type 0
    Same a b = OpenSame x can t ps n i w st st' r r' q q' o o' V W v s0 test after turn a b

    -- What is asked of an alternative that opens its accept body: the image comes to where it tells of that.
    abbrev pub OpensAlike : Type 0
    OpensAlike =
        (z : ℤ) (h : PHead) (m m' : PMaybe) (l inner row' : PStmts) (s : Span) → OldFormals x.programs h.formals →
        ImageMaybe (telling_rows (only_names x.programs) (teller x t) n (x.places t)) m m' →
        ((U : Variables) → SeeAlike x.programs V U → IsHeadAlike (plain x) t h V U) →
        member_index (form x) V (entry_of (form x).numbers t h.entry.name) h.index ≡ Ok z → Behind (teller x t) s0 n inner test after row' →
        Telling (only_names x.programs) (teller x t) (innermost ps) (x.places t) (in_front l r) row' → (c : ℕ) → IsInteger c → (u : Task) →
        AreValues x.programs (values_handed u) →
        accepted (entry_of (form x).numbers t h.entry.name) z c u σ ≡ alternative_opened c
        (Some (Accepts (entry_of (form x).numbers t h.entry.name) z h (stmts_or_none m) l)) (values_handed u) σ →
        ComesTo (IsOwing f t (Begun c (entry_of (form x).numbers t h.entry.name) z u) σ)
        (alternative_opened c (Some (Accepts (entry_of (form x).numbers t h.entry.name) z (head_telling (teller x t).teller h)
        (begins (teller x t) s n h m') inner)) (Number (pos c) ∷ values_handed u) κ)

    module _ (own : f.plainly.IsSo t (task_in (form x) t i w (control (stmt_then st r) q o V)))
        (rests : can_step (task_in (form x) t i w (control (stmt_then st r) q o V)) ≡ false) (bodies : OpensAlike)
        (has : Bool) (here-stands : stand_at σ st ≡ wait_stand has (open_at σ st)) (there-stands : stand_at κ st' ≡ wait_stand has (open_at κ st'))
        (same-open : Both (AreSame Same) (open_at σ st) (open_at κ st'))
        (else-row : has ≡ true → ComesTo (IsOwing f t TookElse σ) (took_else κ))
        (delay-row : (k : ℕ) (os : List Open) → open_at σ st ≡ Ok os → list_any (delays_at k) os ≡ true →
        ComesTo (IsOwing f t (TookDelay k) σ) (took_delay k κ)) where
      -- ---- a caller is accepted

      module _ (e : ℕ) (z : ℤ) (c : ℕ) (caller j : Task) (hands : HandOverAlike f.plainly c caller j) where
        opens-one : (a b : Open) → Same a b → accepts_member e z a ≡ true → alternative_for σ e z ≡ Some a → alternative_for κ e z ≡ Some b →
            ComesTo (IsOwing f t (Begun c e z caller) σ) (accepted e z c j κ)
        opens-one _ _ (same_accept u h m m' l inner row' s old img heads worth beh row) it mine its =
            let entry : ℕ = entry_of (form x).numbers t h.entry.name in
            let member = same_member-true e entry z u it in
            let one' : accepted e z c caller σ ≡ alternative_opened c (Some (Accepts entry u h (stmts_or_none m) l)) (values_handed caller) σ = ap
            (λ p. alternative_opened c p (values_handed caller) σ) mine in
            let two : accepted e z c j κ ≡ alternative_opened c (Some (Accepts entry u (head_telling X.teller h) (begins X s n h m') inner))
            (Number (pos c) ∷ values_handed caller) κ
            = ap (λ p. alternative_opened c p (values_handed j) κ) its
            ∙ ap (λ vs. alternative_opened c (Some (Accepts entry u (head_telling X.teller h) (begins X s n h m') inner)) vs κ) hands.same in
            subst (ComesTo (IsOwing f t (Begun c e z caller) σ)) (sym two)
            (subst (λ d. accepted d z c caller σ ≡ alternative_opened c (Some (Accepts entry u h (stmts_or_none m) l)) (values_handed caller) σ →
            ComesTo (IsOwing f t (Begun c d z caller) σ)
            (alternative_opened c (Some (Accepts entry u (head_telling X.teller h) (begins X s n h m') inner)) (Number (pos c) ∷ values_handed caller) κ))
            (sym member.0)
            (subst (λ y. accepted entry y c caller σ ≡ alternative_opened c (Some (Accepts entry u h (stmts_or_none m) l)) (values_handed caller) σ →
            ComesTo (IsOwing f t (Begun c entry y caller) σ)
            (alternative_opened c (Some (Accepts entry u (head_telling X.teller h) (begins X s n h m') inner)) (Number (pos c) ∷ values_handed caller) κ))
            (sym member.1)
            (λ same. bodies u h m m' l inner row' s old img heads worth beh row c hands.fits caller hands.known same)) one')
        opens-one _ _ (same_delay k d l l') it mine its = absurd (true≢false (sym it))
        opens-one _ _ same_terminate it mine its = absurd (true≢false (sym it))

        opens-found : (a b : Option Open) → AreFound Same e z a b → (a ≡ None → ⊥) → alternative_for σ e z ≡ a → alternative_for κ e z ≡ b →
            ComesTo (IsOwing f t (Begun c e z caller) σ) (accepted e z c j κ)
        opens-found _ _ found_none none mine its = absurd (none refl)
        opens-found _ _ (found_some a b s it) none mine its = opens-one a b s it mine its

      -- ---- what the image does

      wait-rests : steps_at (wait_stand has (open_at σ st)) ≡ false
      wait-rests = ap steps_at (sym here-stands) ∙ rests

      opened : (os : List Open) × (open_at σ st ≡ Ok os)
      opened = rests-ok has (open_at σ st) wait-rests

      opened-there : (os' : List Open) × (open_at κ st' ≡ Ok os') × AreSame Same opened.0 os'
      opened-there = both-ok same-open opened.0 opened.1

      abbrev cs : List Choice
      cs = choices_of has opened.0

      offer-here : offer_of σ ≡ offered (choices_stand (choices_of has opened.0))
      offer-here = ap offered here-stands ∙ ap (λ p. offered (wait_stand has p)) opened.1

      there-is : stand_at κ st' ≡ choices_stand (choices_of has opened.0)
      there-is = there-stands ∙ ap (λ p. wait_stand has p) opened-there.1
          ∙ ap choices_stand (choices-same Same (accept-alike x can t ps n i w st st' r r' q q' o o' V W v s0 test after turn)
          (shorter-alike x can t ps n i w st st' r r' q q' o o' V W v s0 test after turn)
          (delay-alike x can t ps n i w st st' r r' q q' o o' V W v s0 test after turn)
          (close-alike x can t ps n i w st st' r r' q q' o o' V W v s0 test after turn) has opened-there.2)

      at-rest : steps_at (choices_stand (choices_of has opened.0)) ≡ false
      at-rest = ap (λ p. steps_at (wait_stand has p)) (sym opened.1) ∙ wait-rests

      any : (test' : Choice → Bool) → waits_with test' (offer_of σ) ≡ true → list_any test' (choices_of has opened.0) ≡ true
      any test' h = sym (ap (waits_with test') offer-here ∙ waits-any test' (choices_of has opened.0)) ∙ h

      no-other : (p : Offer) → is_wait p ≡ false → offer_of σ ≡ p → ⊥
      no-other p none e = true≢false (sym (waits-there (choices_of has opened.0)) ∙ ap is_wait (sym offer-here ∙ e) ∙ none)

      first : (e : ℕ) (z : ℤ) → waits_with (opens e z) (offer_of σ) ≡ true → find (accepts_member e z) opened.0 ≡ None → ⊥
      first e z h = finds (accepts_member e z) opened.0 (sym (opens-any has opened.0 e z) ∙ any (opens e z) h)

      pub wait-acts : ActsAlike f t σ κ
      wait-acts = record {
        offers = record {
          rests = ap steps_at there-is ∙ at-rest;
          offers = ap offered there-is ∙ sym (ap (based_offer x.note t) offer-here ∙ based-wait-here (choices_of has opened.0) at-rest);
        };
        callers = callers-alike x t ps v;
        at_call = λ g e z h. absurd (no-other (Calls g e z) refl h);
        at_abort = λ u h. absurd (no-other (Aborts u) refl h);
        at_end = λ h no. absurd (no-other Ends refl h);
        back = λ h. absurd (no-other Finishes refl h);
        over = λ h c outer serves. absurd (no-other Finishes refl h);
        accepted = λ e z h c caller j hands.
            opens-found e z c caller j hands (find (accepts_member e z) opened.0) (find (accepts_member e z) opened-there.0)
            (first-same Same (member-alike x can t ps n i w st st' r r' q q' o o' V W v s0 test after turn) e z opened-there.2) (first e z h)
            (ap (first_accepting e z) opened.1)
            (ap (first_accepting e z) opened-there.1);
        took_else = λ h. else-row (else-there has opened.0 (any is_else h));
        took_delay = λ k h. delay-row k opened.0 opened.1 (delay-there k has opened.0 (any (is_delay k) h));
      }
        where
          based-wait-here : (us : List Choice) → steps_at (choices_stand us) ≡ false →
              based_offer x.note t (offered (choices_stand us)) ≡ offered (choices_stand us)
          based-wait-here [] e = absurd (true≢false e)
          based-wait-here (u ∷ us) e = refl

  -- ---- accept statements

  module _ (i : List ℤ) (w : List ℕ) (h : PHead) (m m' : PMaybe) (s : Span) (old : OldHead x.programs h)
      (img : ImageMaybe (telling_rows (only_names x.programs) (teller x t) n (x.places t)) m m') (r r' : PStmts)
      (im : Telling (only_names x.programs) (teller x t) (innermost ps) (x.places t) r r') (q q' : Around) (o o' : List PFrame) (V W : Variables)
      (v : Under (unit_translation x t ps) q o V q' o' W)
      (turn : PStmts) where
    abbrev ast : PStmt
    ast = SAccept (accepting h m) s

    abbrev ast' : PStmt
    ast' = SAccept (accept_told (teller x t) s n (accepting h m')) s

    abbrev atest : PExpr
    atest = is_not_refused (teller x t) s n

    abbrev aafter : PStmts
    aafter = stmt_then (over (teller x t) s n) r'

    abbrev aσ : Task
    aσ = task_in (form x) t i w (control (stmt_then ast r) q o V)

    -- no delay is open at an accept statement
    no-delay : (k : ℕ) (os : List Open) (z : Result ℤ Raised) →
        and_then (and_then z (λ j. Ok (Accepts (entry_of (form x).numbers t h.entry.name) j h (stmts_or_none m) no_stmt))) (λ u. Ok (u ∷ [])) ≡ Ok os →
        list_any (delays_at k) os ≡ true → ⊥
    no-delay k os (Ok j) e it = true≢false (sym it ∙ sym (ap (λ (u : Result (List Open) Raised). among u) e))
      where
        among : Result (List Open) Raised → Bool
        among (Ok us) = list_any (delays_at k) us
        among (Err u) = false
    no-delay k os (Err u) e it = cc

    module _ (own : f.plainly.IsSo t (task_in (form x) t i w (control (stmt_then (SAccept (accepting h m) s) r) q o V)))
        (rests : can_step (task_in (form x) t i w (control (stmt_then (SAccept (accepting h m) s) r) q o V)) ≡ false)
        (bodies : OpensAlike i w (SAccept (accepting h m) s) (SAccept (accept_told (teller x t) s n (accepting h m')) s) r r' q q' o o' V W v s
        (is_not_refused (teller x t) s n)
        (stmt_then (over (teller x t) s n) r') turn) where
      alone : Both (AreSame (Same i w ast ast' r r' q q' o o' V W v s atest aafter turn)) (open_at aσ ast)
          (open_at (κ i w ast ast' r r' q q' o o' V W v s atest aafter turn) ast')
      alone = both_then (accept-same x can t ps n i w ast ast' r r' q q' o o' V W v s atest aafter turn h m m' no_stmt no_stmt r' s old.formals img
          (behind_accept r') im
          (λ U see. f.plainly.heads t i w (control (stmt_then ast r) q o V) own rests h (at_accept m s r) old U see))
          (λ a b same. both_ok (a ∷ []) (b ∷ []) (same_then a b [] [] same same_none))

      pub accept-acts : ActsAlike f t (task_in (form x) t i w (control (stmt_then (SAccept (accepting h m) s) r) q o V))
          (κ i w ast ast' r r' q q' o o' V W v s atest aafter turn)
      accept-acts =
          wait-acts i w ast ast' r r' q q' o o' V W v s atest aafter turn own rests bodies false refl refl alone (λ e. absurd (true≢false (sym e)))
          (λ k os e it. absurd (no-delay k os (member_index (form x) V (entry_of (form x).numbers t h.entry.name) h.index) e it))

  -- ---- selective waits

  module _ (i : List ℤ) (w : List ℕ) (alts alts' : PAlts) (m m' : PMaybe) (s : Span) (told : AltsTold x can t ps n alts alts')
      (img : ImageMaybe (telling_rows (only_names x.programs) (teller x t) (innermost ps) (x.places t)) m m') (r r' : PStmts)
      (im : Telling (only_names x.programs) (teller x t) (innermost ps) (x.places t) r r') (q q' : Around) (o o' : List PFrame) (V W : Variables)
      (v : Stays x t ps q q' o o' V W) (turn : PStmts)
      (own : f.plainly.IsSo t (task_in (form x) t i w (control (stmt_then (SWait alts m s) r) q o V))) where
    abbrev wst : PStmt
    wst = SWait alts m s

    abbrev wst' : PStmt
    wst' = wait_told (teller x t) s n alts' m'

    abbrev wtest : PExpr
    wtest = is_taken (teller x t) s

    abbrev wafter : PStmts
    wafter = stmt_then (SIf (branches (teller x t) s n alts' m' 1) absent s) r'

    abbrev wσ : Task
    wσ = task_in (form x) t i w (control (stmt_then wst r) q o V)

    abbrev wκ : Task
    wκ = κ i w wst wst' r r' q q' o o' V W v.under s wtest wafter turn

    -- the frames outside of the block
    abbrev outside : List PFrame
    outside = frame (one (SExit None (Some wtest) s)) (Loop None Endless turn) ∷ frame wafter q' ∷ o'

    -- in the block, before these statements
    abbrev within : PStmts → Variables → Task
    within l U = task_in (text x) t i w (control l (Block (ends_service (teller x t) s n)) outside U)

    -- ---- another part than an accept

    -- Of the part of this number the image has told; it keeps the number, leaves its loop, and comes to its branch.
    module _ (z y : Span) (j : ℕ) (small : IsInteger j) (above : 1 ≤ j) (l l' : PStmts) (row : Row l l') (own' : f.plainly.IsSo t (gone_to (in_front l r) wσ))
        (branch : (U : Variables) → IsCell U x.main.teller.added.part integer_limits (Number (pos j)) →
        arm_taken (task_in (text x) t i w (control wafter q' o' U)) (branches (teller x t) s n alts' m' 1) absent ≡ Ok (present (or_null y l'))) where
      part-comes : (b : Bool) → ComesTo (IsBased f t (gone_to (in_front l r) wσ)) (within (part_is X.teller z j) (hearing x b W))
      part-comes b =
          let h = heard x can f t ps q q' o o' wσ own b v in
          let k = kept-part x can f t ps q q' o o' wσ own j h in
          let U : Variables = parted (plain x) j (hearing x b W) in
          let c : IsCell U x.main.teller.added.part integer_limits (Number (pos j)) =
          cell-set (hearing x b W) x.main.teller.added.part integer_limits _ (Number (pos j)) (there x can f t ps h.under).part.1 in
          later (part-goes (plain x) t i w (Block (ends_service X s n)) outside j (hearing x b W) z no_stmt small (there x can f t ps h.under).part)
          (later (exit-leaves x t i w s wtest turn wafter q' o' U (taken-worth x t i w X s j U c ∙ ap (λ (a : Bool). Ok (Truth (not a))) (not-none j above)))
          (later (branch-goes x t i w (branches X s n alts' m' 1) s r' (or_null y l') q' o' U (branch U c))
          (later (null-goes x t i w y l' r' q' o' U)
          (row-comes x can t f ps i w (stmt_then wst r) no_stmt (in_front l r) (in_front l' r') (joined row im) k.under k.places k.keeps own'))))

      part-notes : (kind a : ℕ) → IsInteger kind → IsInteger a → (said : Note) →
          ((u : Value) → spelled said 0 u ≡ record { kind = kind; subject = t; argument = a; index = u; owner = 0 }) → member_of said ≡ pos 0 →
          IsNoting f said (λ b. IsBased f t (gone_to (in_front l r) wσ)) (within (stmt_then (own_note X.teller z kind a) (part_is X.teller z j)) W)
      part-notes kind a fits few said spells named =
          own-notes x can f t i w (f.plainly.fits t wσ own) kind a fits few z (part_is X.teller z j) (Block (ends_service X s n)) outside W
          (there x can f t ps v.under) said
          (λ b. IsBased f t (gone_to (in_front l r) wσ)) spells named part-comes

    -- ---- the else part, where there is one

    else-comes : {u u' : PMaybe} → m ≡ u → m' ≡ u' → ImageMaybe (telling_rows (only_names x.programs) (teller x t) (innermost ps) (x.places t)) u u' →
        is_present u ≡ true →
        f.plainly.IsSo t (gone_to (in_front (stmts_or_none u) r) wσ) → IsInteger (behind_alternatives alts' 1) → 1 ≤ behind_alternatives alts' 1 →
        IsNoting f (HasElse t) (λ b. IsBased f t (gone_to (in_front (stmts_or_none u) r) wσ))
        (gone_to (in_front (stmts_or_none (else_told X s u' (behind_alternatives alts' 1))) no_stmt) wκ)
    else-comes e e' image_absent has own' small above = absurd (true≢false (sym has))
    else-comes e e' (image_present l l' row) has own' small above =
        part-notes s s (behind_alternatives alts' 1) small above l l' row own'
        (λ U c. subst (λ p. arm_taken (task_in (text x) t i w (control wafter q' o' U)) (branches X s n alts' p 1) absent ≡ Ok (present (or_null s l')))
        (sym e')
        (else-branch x t i w X wafter q' o' U (behind_alternatives alts' 1) c s n l' alts' 1 refl small))
        has_else 0 refl refl (HasElse t) (λ u. refl) refl

    -- ---- all of it

    module _ (n-in : innermost ps ≤ n) (rests : can_step (task_in (form x) t i w (control (stmt_then (SWait alts m s) r) q o V)) ≡ false)
        (bodies : OpensAlike i w (SWait alts m s) (wait_told (teller x t) s n alts' m') r r' q q' o o' V W v.under s (is_taken (teller x t) s)
        (stmt_then (SIf (branches (teller x t) s n alts' m' 1) absent s) r') turn) where
      -- the numbers of alternatives and of the else part
      small : (k : ℕ) → k ≤ alts_count alts + 1 → IsInteger k
      small k le = f.parts t i w (control (stmt_then wst r) q o V) own alts m s r refl k le

      same-count : {us us' : PAlts} → AltsTold x can t ps n us us' → (j : ℕ) → behind_alternatives us' j ≡ j + alts_count us
      same-count alts_none j = omega arith
      same-count (alts_accept g h u u' l l' z rest rest' old oh k row more) j = let e = same-count more (j + 1) in omega (arith, e)
      same-count (alts_delay g d l l' z rest rest' old row more) j = let e = same-count more (j + 1) in omega (arith, e)
      same-count (alts_terminate g z rest rest' old more) j = let e = same-count more (j + 1) in omega (arith, e)

      present-same : {u u' : PMaybe} → ImageMaybe (telling_rows (only_names x.programs) (teller x t) (innermost ps) (x.places t)) u u' → (j : ℕ) →
          is_present (else_told X s u' j) ≡ is_present u
      present-same image_absent j = refl
      present-same (image_present l l' row) j = refl

      takes-else : is_present m ≡ true → ComesTo (IsOwing f t TookElse wσ) (took_else wκ)
      takes-else e =
          let last = same-count told 1 in
          here (took_else wκ) (record {
            output = refl;
            callers = settled-callers outside (in_front (stmts_or_none (else_told X s m' (behind_alternatives alts' 1))) no_stmt) (Block (ends_service X s n)) W
                ∙ callers-alike x t ps v.under;
            notes = else-comes refl refl img e ((f.plainly.stays t wσ own).took_else) (small (behind_alternatives alts' 1) (omega (arith, last)))
                (omega (arith, last));
          })

      takes-delay : (k : ℕ) (os : List Open) → alternatives_open wσ alts 0 ≡ Ok os → list_any (delays_at k) os ≡ true →
          ComesTo (IsOwing f t (TookDelay k) wσ) (took_delay k wκ)
      takes-delay k os e it =
          let d = found-delay x can t ps n wσ k told 1 0 (ap (delay_among x can t ps n wσ k) e ∙ it) in
          let few : IsInteger k = f.plainly.delays t i w (control (stmt_then wst r) q o V) own alts m s r refl k (omega (arith, d.upto)) in
          let number : IsInteger d.number = small d.number (omega (arith, d.few)) in
          here (took_delay k wκ) (record {
            output = refl;
            callers = settled-callers outside (in_front (delay_stmts (alternatives_told X n alts' 1 1) 0 k) no_stmt) (Block (ends_service X s n)) W
                ∙ callers-alike x t ps v.under;
            notes =
                subst (λ u. IsNoting f (HasDelay t k) (λ b. IsBased f t (took_delay k wσ)) (gone_to (in_front u no_stmt) wκ)) (sym d.there)
                (subst (λ u. f.plainly.IsSo t (gone_to (in_front u r) wσ) → IsNoting f (HasDelay t k) (λ b. IsBased f t (gone_to (in_front u r) wσ))
                (within (stmt_then (own_note X.teller d.span has_delay k) (part_is X.teller d.span d.number)) W)) (sym d.here)
                (λ is. part-notes d.span d.span d.number number d.first d.stmts d.stmts' d.row is
                (λ U c. delay-branch x t i w X wafter q' o' U d.number c s n m' 1 d.delayed number) has_delay k refl few (HasDelay t k) (λ u. refl) refl)
                ((f.plainly.stays t wσ own).took_delay k));
          })

      pub waits-act : ActsAlike f t (task_in (form x) t i w (control (stmt_then (SWait alts m s) r) q o V))
          (κ i w wst wst' r r' q q' o o' V W v.under s wtest wafter turn)
      waits-act =
          wait-acts i w wst wst' r r' q q' o o' V W v.under s wtest wafter turn own rests bodies (is_present m) refl
          (ap (λ b. wait_stand b (alternatives_open wκ (alternatives_told X n alts' 1 1) 0)) (present-same img (behind_alternatives alts' 1)))
          (alternatives-same x can t ps n i w wst wst' r r' im q q' o o' V W v.under s turn alts' m' told
          (λ h at oh U see. f.plainly.heads t i w (control (stmt_then wst r) q o V) own rests h (at_wait alts m s r at) oh U see) 1 0 (λ j z l b. b)
          (λ j le. small j (omega (arith, le))))
          takes-else takes-delay

-- Accept statements and selective waits: the image waits for the same, and tells what it has taken.
use Rattle.std.proofs.Common.{◌≡◌, ◌==◌, ◌≤◌, ◌<◌, ◌+◌, ℕ, ℤ, pos, Bool, true, false, ◌||◌, if◌then◌else◌, List, [], ◌∷◌, find, Option, Some, None, Result, Ok, Err, refl, sym, ap, subst, ◌∙◌, true≢false, arith}
use Rattle.std.specs.List.{list_any}
use Rattle.std.proofs.lemmas.Bool.{eqb-true}
use Rattle.common_lemmas.proofs.Numbers.{unequal_above}
use Rattle.event_machine.specs.declared.Choice.{Choice}
use Rattle.event_machine.specs.declared.Choice.TheVariants as choice
use Rattle.event_machine.specs.Offers.{Offer, Calls, Finishes, Ends, waits_with, opens, is_else, is_delay}
use Rattle.event_machine.proofs.Basics.{same_member-true}
use Rattle.ada_tree.specs.declared.naming.Span.{Span}
use Rattle.ada_tree.specs.Every.{alts_count}
use Rattle.ada_tree.specs.PlainExpr.{PExpr}
use Rattle.ada_tree.specs.PlainStmt.{PHead, PStmt, SAccept, SWait, PStmts, no_stmt, stmt_then, PMaybe, accepting, alternative, PAltKind, AAccept, ADelay, ATerminate, PAlts, no_alt, alt_then}
use Rattle.ada_value.specs.declared.values.Raised.{Raised}
use Rattle.ada_value.specs.declared.values.Value.{Value}
use Rattle.ada_value.specs.declared.values.Value.TheVariants.{Number}
use Rattle.ada_value.specs.Values.{and_then, is_true_value, checked, truth_limits}
use Rattle.ada_value.specs.Variables.{Variables}
use Rattle.task_model.specs.Setting.{entry_of, member_index}
use Rattle.task_model.specs.Frames.{Around, PFrame, control, in_front}
use Rattle.task_model.specs.Tasks.{Task, vars_of, stmts_or_none, gone_to}
use Rattle.task_model.specs.Calls.{values_handed}
use Rattle.task_model.specs.Waits.{Open, Accepts, Delays, Terminates, guard_holds, accept_opened, kind_opened, opened_if, alternatives_open, open_at, accept_choice, is_shorter, delay_choice, terminate_choice, choices_of, is_present, accepts_member, first_accepting, alternative_for, delay_here, delay_stmts}
use Rattle.task_model.specs.Stands.{choices_stand, wait_stand, stand_at, steps_at, offered, can_step, offer_of}
use Rattle.task_model.specs.Rendezvous.{alternative_opened, accepted, took_else, took_delay}
use Rattle.task_laws.specs.translation.Translations.{Rewriting, Translation}
use Rattle.task_laws.specs.translation.OldNames.{OldOption, old_none, old_some}
use Rattle.task_laws.specs.translation.OldTexts.{only_names, OldFormals, OldHead, OldAlts, old_no_alt, old_alt, OldKind, old_accepts, old_delays, old_terminates}
use Rattle.task_laws.specs.translation.Images.{ImageMaybe, image_absent, image_present}
use Rattle.task_laws.specs.translation.Controls.{task_in, Under, are_around}
use Rattle.task_laws.proofs.translation.Results.{Both, both_ok, both_err, both_then}
use Rattle.task_laws.proofs.translation.Frames.{sees-alike}
use Rattle.task_laws.proofs.translation.Locals.{values-alike}
use Rattle.normal_model.specs.Walk.{after_kind, inside_maybe, inside_alts, rewritten}
use Rattle.run_laws.specs.collecting.Notes.{Note, HasBegun, HasElse, HasDelay}
use Rattle.run_laws.specs.collecting.Copies.{TookElse, TookDelay, based_offer}
use Rattle.collect_model.specs.Teller.{Teller}
use Rattle.collect_model.specs.Noting.{has_else, has_delay, number, own_number, own_note}
use Rattle.collect_model.specs.Serving.{accept_body as body_told, head_telling, accept_told, accept_image}
use Rattle.collect_model.specs.Waiting.{alternatives_told, else_told, wait_image}
use Rattle.collect_model.specs.CollectStmts.{collect_rewriter}
use Rattle.collect_runs.specs.recorder.Telling.{member_of, spelled}
use Rattle.collect_runs.specs.translation.Rows.{Telling, telling_none}
use Rattle.collect_runs.proofs.translation.Kept.{still_kind, still_accept}
use Rattle.collect_runs.proofs.translation.Rows.{rows, maybe-rows, are-images}
use Rattle.collect_runs.proofs.translation.Floors.{variables-there}
use Rattle.collect_runs.specs.telling.Texts.{Texts, form, text, teller, unit_rows, unit_translation, IsInteger, CanTell, IsHeadAlike, HasHead, has_first, has_later, at_accept, at_wait}
use Rattle.collect_runs.specs.telling.Forms.{Form}
use Rattle.collect_runs.specs.telling.Meetings.{ComesTo, IsBased, IsNoting, IsOwing, HandOverAlike, ActsAlike}
use Rattle.collect_runs.proofs.telling.Noting.{here, literal, notes, zero-told}
use Rattle.collect_runs.proofs.telling.Pairs.{laws, row-comes}
use Rattle.collect_runs.proofs.telling.Calling.{under-heard}
use Rattle.collect_runs.proofs.telling.Opening.{opening-tells}
use Rattle.collect_runs.proofs.telling.Choosing.{opens-any, else-there, delays_at, delay-there, AreSame, same_none, same_then, choices-same, AreFound, found_none, found_some, first-same, finds, rests-ok, both-ok, based-wait, is_wait, waits-there}

module _ (x : Texts) (can : CanTell x) (f : Form x) (t : ℕ) where
  abbrev y : Translation
  y = unit_translation x t

  abbrev Y : Rewriting
  Y = unit_rows x t

  abbrev X : Teller
  X = teller x t

  abbrev Row : PStmts → PStmts → Type 0
  Row = Telling (only_names x.programs) (teller x t)

  joined : {a a' d d' : PStmts} → Row a a' → Row d d' → Row (in_front a d) (in_front a' d')
  joined k j = (are-images (only_names x.programs) X).joined _ _ _ _ k j

  -- ---- alternatives with their parts rewritten

  pub data AltsTold : PAlts → PAlts → Type 0 where
    alts_none : AltsTold no_alt no_alt
    alts_accept : (g : Option PExpr) (h : PHead) (m m' : PMaybe) (l l' : PStmts) (s : Span) (rest rest' : PAlts) → OldOption x.programs g → OldHead x.programs h →
        ImageMaybe (unit_rows x t) m m' → Telling (only_names x.programs) (teller x t) l l' →
        AltsTold rest rest' → AltsTold (alt_then (alternative g (AAccept (accepting h m) l) s) rest) (alt_then (alternative g (AAccept (accepting h m') l') s) rest')
    alts_delay : (g : Option PExpr) (d : ℕ) (l l' : PStmts) (s : Span) (rest rest' : PAlts) → OldOption x.programs g → Telling (only_names x.programs) (teller x t) l l' → AltsTold rest rest' →
        AltsTold (alt_then (alternative g (ADelay d l) s) rest) (alt_then (alternative g (ADelay d l') s) rest')
    alts_terminate : (g : Option PExpr) (s : Span) (rest rest' : PAlts) → OldOption x.programs g → AltsTold rest rest' → AltsTold (alt_then (alternative g ATerminate s) rest) (alt_then (alternative g ATerminate s) rest')

  -- an alternative in front of others
  opened-same : {S : Open → Open → Type 0} (a b : Result Bool Raised) → a ≡ b → {one one' : Result Open Raised} {rest rest' : Result (List Open) Raised} → Both S one one' → Both (AreSame S) rest rest' →
      Both (AreSame S) (and_then a (λ c. opened_if c one rest)) (and_then b (λ c. opened_if c one' rest'))
  opened-same {S} a b e {one} {one'} {rest} {rest'} h more = subst (λ d. Both (AreSame S) (and_then a (λ c. opened_if c one rest)) (and_then d (λ c. opened_if c one' rest'))) e (go a)
    where
      go : (d : Result Bool Raised) → Both (AreSame S) (and_then d (λ c. opened_if c one rest)) (and_then d (λ c. opened_if c one' rest'))
      go (Ok true) = both_then h (λ o o' s. both_then more (λ os os' ss. both_ok (o ∷ os) (o' ∷ os') (same_then o o' os os' s ss)))
      go (Ok false) = more
      go (Err z) = both_err z

  pub alts-told : {alts : PAlts} → OldAlts (only_names x.programs) alts → AltsTold alts (inside_alts (collect_rewriter (teller x t)) alts 0)
  alts-told old_no_alt = alts_none
  alts-told (old_alt g k s rest old kind more) = go kind (alts-told more)
    where
      go : {k : PAltKind} → OldKind (only_names x.programs) k → AltsTold rest (inside_alts (collect_rewriter X) rest 0) →
          AltsTold (alt_then (alternative g k s) rest) (inside_alts (collect_rewriter X) (alt_then (alternative g k s) rest) 0)
      go (old_accepts h m l oh ask om ol) ih =
          subst (λ n. AltsTold (alt_then (alternative g (AAccept (accepting h m) l) s) rest)
          (alt_then (alternative g (AAccept (accepting h (inside_maybe (collect_rewriter X) m 0)) (rewritten (collect_rewriter X) l n)) s) (inside_alts (collect_rewriter X) rest (after_kind (collect_rewriter X) (AAccept (accepting h m) l) 0)))) (sym (still_accept X (accepting h m) 0))
          (subst (λ n. AltsTold (alt_then (alternative g (AAccept (accepting h m) l) s) rest) (alt_then (alternative g (AAccept (accepting h (inside_maybe (collect_rewriter X) m 0)) (rewritten (collect_rewriter X) l 0)) s) (inside_alts (collect_rewriter X) rest n)))
          (sym (still_kind X (AAccept (accepting h m) l) 0))
          (alts_accept g h m (inside_maybe (collect_rewriter X) m 0) l (rewritten (collect_rewriter X) l 0) s rest (inside_alts (collect_rewriter X) rest 0) old oh (maybe-rows (only_names x.programs) X om) (rows (only_names x.programs) X ol) ih))
      go (old_delays d l ol) ih =
          subst (λ n. AltsTold (alt_then (alternative g (ADelay d l) s) rest) (alt_then (alternative g (ADelay d (rewritten (collect_rewriter X) l 0)) s) (inside_alts (collect_rewriter X) rest n)))
          (sym (still_kind X (ADelay d l) 0)) (alts_delay g d l (rewritten (collect_rewriter X) l 0) s rest (inside_alts (collect_rewriter X) rest 0) old (rows (only_names x.programs) X ol) ih)
      go old_terminates ih = alts_terminate g s rest (inside_alts (collect_rewriter X) rest 0) old ih

  -- ---- delay alternatives

  -- The k-th delay alternative stands here among alternatives with m delays before them: its statements, and their image behind the note.
  pub record DelayFound (alts alts' : PAlts) (m k : ℕ) : Type 0 where
    pub above : m < k
    pub upto : k ≤ m + alts_count alts
    pub span : Span
    pub stmts : PStmts
    pub stmts' : PStmts
    pub here : delay_stmts alts m k ≡ stmts
    pub there : delay_stmts (alternatives_told (teller x t) alts' (m + 1)) m k ≡ stmt_then (own_note (teller x t) span has_delay k) stmts'
    pub rows : Telling (only_names x.programs) (teller x t) stmts stmts'

  module _ (σ : Task) (k : ℕ) where
    abbrev delay_of : Result Open Raised → Bool
    delay_of (Ok z) = delays_at k z
    delay_of (Err z) = false

    abbrev delay_among : Result (List Open) Raised → Bool
    delay_among (Ok os) = list_any (delays_at k) os
    delay_among (Err z) = false

    -- where a delay of this number is among open alternatives it is the first, which is open, or it is among the others
    search : (G : Type 0) (r : Result Bool Raised) (one : Result Open Raised) (rest : Result (List Open) Raised) → delay_among (and_then r (λ b. opened_if b one rest)) ≡ true →
        (delay_among rest ≡ true → G) → (delay_of one ≡ true → G) → G
    search G (Ok false) one rest h more first = more h
    search G (Ok true) (Ok o) (Ok os) h more first = go (delays_at k o) refl h
      where
        go : (c : Bool) → delays_at k o ≡ c → (c || list_any (delays_at k) os) ≡ true → G
        go true e j = first e
        go false e j = more j
    search G (Ok true) (Ok o) (Err z) h more first = absurd (true≢false (sym h))
    search G (Ok true) (Err z) rest h more first = absurd (true≢false (sym h))
    search G (Err z) one rest h more first = absurd (true≢false (sym h))

    -- an accept is no delay
    accept-no-delay : (r : Result ℤ Raised) (e : ℕ) (h : PHead) (l d : PStmts) → delay_of (and_then r (λ i. Ok (Accepts e i h l d))) ≡ true → ⊥
    accept-no-delay (Ok i) e h l d q = true≢false (sym q)
    accept-no-delay (Err z) e h l d q = true≢false (sym q)

    found-delay : {alts alts' : PAlts} → AltsTold alts alts' → (m : ℕ) → delay_among (alternatives_open σ alts m) ≡ true → DelayFound alts alts' m k
    found-delay alts_none m h = absurd (true≢false (sym h))
    found-delay (alts_accept g hd n n' l l' s rest rest' old of im row more) m h =
        search (DelayFound (alt_then (alternative g (AAccept (accepting hd n) l) s) rest) (alt_then (alternative g (AAccept (accepting hd n') l') s) rest') m k)
        (guard_holds σ g) (kind_opened σ (AAccept (accepting hd n) l) m) (alternatives_open σ rest m) h
        (λ q. let d = found-delay more m q in
        record { above = d.above; upto = omega (arith, d.upto); span = d.span; stmts = d.stmts; stmts' = d.stmts'; here = d.here; there = d.there; rows = d.rows })
        (λ q. absurd (accept-no-delay (member_index σ.setting (vars_of σ) (entry_of σ.setting.numbers σ.number hd.entry.name) hd.index) (entry_of σ.setting.numbers σ.number hd.entry.name) hd (stmts_or_none n) l q))
    found-delay (alts_delay g d l l' s rest rest' old row more) m h =
        search (DelayFound (alt_then (alternative g (ADelay d l) s) rest) (alt_then (alternative g (ADelay d l') s) rest') m k)
        (guard_holds σ g) (Ok (Delays (m + 1) d l)) (alternatives_open σ rest (m + 1)) h
        (λ q. let e = found-delay more (m + 1) q in
        let other : (k == m + 1) ≡ false = unequal_above k (m + 1) e.above in
        record {
          above = omega (arith, e.above);
          upto = omega (arith, e.upto);
          span = e.span;
          stmts = e.stmts;
          stmts' = e.stmts';
          here = ap (λ c. delay_here (Some l) c (delay_stmts rest (m + 1) k)) other ∙ e.here;
          there = ap (λ c. delay_here (Some (stmt_then (own_note X s has_delay (m + 1)) l')) c (delay_stmts (alternatives_told X rest' (m + 1 + 1)) (m + 1) k)) other ∙ e.there;
          rows = e.rows;
        })
        (λ q. let same : k ≡ m + 1 = eqb-true k (m + 1) q in
        record {
          above = omega (arith, same);
          upto = omega (arith, same);
          span = s;
          stmts = l;
          stmts' = l';
          here = ap (λ c. delay_here (Some l) c (delay_stmts rest (m + 1) k)) q;
          there = ap (λ c. delay_here (Some (stmt_then (own_note X s has_delay (m + 1)) l')) c (delay_stmts (alternatives_told X rest' (m + 1 + 1)) (m + 1) k)) q
              ∙ ap (λ j. stmt_then (own_note X s has_delay j) l') (sym same);
          rows = row;
        })
    found-delay (alts_terminate g s rest rest' old more) m h =
        search (DelayFound (alt_then (alternative g ATerminate s) rest) (alt_then (alternative g ATerminate s) rest') m k)
        (guard_holds σ g) (Ok Terminates) (alternatives_open σ rest m) h
        (λ q. let d = found-delay more m q in
        record { above = d.above; upto = omega (arith, d.upto); span = d.span; stmts = d.stmts; stmts' = d.stmts'; here = d.here; there = d.there; rows = d.rows })
        (λ q. absurd (true≢false (sym q)))

  -- ---- a wait and its image

  module _ (i : List ℤ) (w : List ℕ) (st st' : PStmt) (r r' : PStmts) (im : Telling (only_names x.programs) (teller x t) r r') (q q' : Around) (o o' : List PFrame) (V W : Variables)
      (v : Under (unit_translation x t) q o V q' o' W) (own : f.IsSo t (task_in (form x) t i w (control (stmt_then st r) q o V))) (rests : can_step (task_in (form x) t i w (control (stmt_then st r) q o V)) ≡ false) where
    abbrev σ : Task
    σ = task_in (form x) t i w (control (stmt_then st r) q o V)

    abbrev κ : Task
    κ = task_in (text x) t i w (control (stmt_then st' r') q' o' W)

    abbrev behind : PStmts → Variables → Task
    behind l U = task_in (text x) t i w (control l q' o' U)

    -- what is open in both
    pub data OpenSame : Open → Open → Type 0 where
      same_accept : (z : ℤ) (h : PHead) (m m' : PMaybe) (l l' : PStmts) (s : Span) → OldFormals x.programs h.formals → ImageMaybe (unit_rows x t) m m' → Telling (only_names x.programs) (teller x t) l l' → IsHeadAlike x t h V W →
          member_index (form x) V (entry_of (form x).numbers t h.entry.name) h.index ≡ Ok z →
          OpenSame (Accepts (entry_of (form x).numbers t h.entry.name) z h (stmts_or_none m) l) (Accepts (entry_of (form x).numbers t h.entry.name) z (head_telling (teller x t) h) (body_told (teller x t) s h m') l')
      same_delay : (k d : ℕ) (l l' : PStmts) → OpenSame (Delays k d l) (Delays k d l')
      same_terminate : OpenSame Terminates Terminates

    accept-same : (h : PHead) (m m' : PMaybe) (l l' : PStmts) (s : Span) → OldFormals x.programs h.formals → ImageMaybe (unit_rows x t) m m' → Row l l' → IsHeadAlike x t h V W →
        Both OpenSame (accept_opened σ (accepting h m) l) (accept_opened κ (accept_told X s (accepting h m')) l')
    accept-same h m m' l l' s old img row a = go (member_index (form x) V (entry_of (form x).numbers t h.entry.name) h.index) refl
      where
        go : (z : Result ℤ Raised) → member_index (form x) V (entry_of (form x).numbers t h.entry.name) h.index ≡ z →
            Both OpenSame (and_then (member_index (form x) V (entry_of (form x).numbers t h.entry.name) h.index) (λ j. Ok (Accepts (entry_of (form x).numbers t h.entry.name) j h (stmts_or_none m) l)))
            (and_then (member_index (text x) W (entry_of (text x).numbers t h.entry.name) h.index) (λ j. Ok (Accepts (entry_of (text x).numbers t h.entry.name) j (head_telling X h) (body_told X s h m') l')))
        go (Ok z) e =
            subst (λ n. Both OpenSame (and_then n (λ j. Ok (Accepts (entry_of (form x).numbers t h.entry.name) j h (stmts_or_none m) l)))
            (and_then (member_index (text x) W (entry_of (text x).numbers t h.entry.name) h.index) (λ j. Ok (Accepts (entry_of (text x).numbers t h.entry.name) j (head_telling X h) (body_told X s h m') l')))) (sym e)
            (subst (λ n. Both OpenSame (Ok (Accepts (entry_of (form x).numbers t h.entry.name) z h (stmts_or_none m) l))
            (and_then n (λ j. Ok (Accepts (entry_of (text x).numbers t h.entry.name) j (head_telling X h) (body_told X s h m') l')))) (sym (a.index ∙ e))
            (subst (λ n. Both OpenSame (Ok (Accepts (entry_of (form x).numbers t h.entry.name) z h (stmts_or_none m) l)) (Ok (Accepts n z (head_telling X h) (body_told X s h m') l'))) (sym a.entry)
            (both_ok (Accepts (entry_of (form x).numbers t h.entry.name) z h (stmts_or_none m) l) (Accepts (entry_of (form x).numbers t h.entry.name) z (head_telling X h) (body_told X s h m') l')
            (same_accept z h m m' l l' s old img row a e))))
        go (Err z) e =
            subst (λ n. Both OpenSame (and_then n (λ j. Ok (Accepts (entry_of (form x).numbers t h.entry.name) j h (stmts_or_none m) l)))
            (and_then (member_index (text x) W (entry_of (text x).numbers t h.entry.name) h.index) (λ j. Ok (Accepts (entry_of (text x).numbers t h.entry.name) j (head_telling X h) (body_told X s h m') l')))) (sym e)
            (subst (λ n. Both OpenSame (Err z) (and_then n (λ j. Ok (Accepts (entry_of (text x).numbers t h.entry.name) j (head_telling X h) (body_told X s h m') l')))) (sym (a.index ∙ e)) (both_err z))

    -- a guard holds alike
    guard-same : {g : Option PExpr} → OldOption x.programs g → guard_holds σ g ≡ guard_holds κ g
    guard-same old_none = refl
    guard-same (old_some e old) =
        ap (λ n. and_then n (λ z. and_then (checked truth_limits z) (λ u. Ok (is_true_value u)))) (values-alike y (laws x can t) σ κ (are_around t i w (stmt_then st r) (stmt_then st' r') v) e old)

    alternatives-same : {alts alts' : PAlts} → AltsTold alts alts' → ((h : PHead) → HasHead h alts → OldHead x.programs h → IsHeadAlike x t h V W) → (k : ℕ) →
        Both (AreSame OpenSame) (alternatives_open σ alts k) (alternatives_open κ (alternatives_told X alts' (k + 1)) k)
    alternatives-same alts_none heads k = both_ok [] [] same_none
    alternatives-same (alts_accept g h m m' l l' s rest rest' old of img row more) heads k =
        opened-same (guard_holds σ g) (guard_holds κ g) (guard-same old) (accept-same h m m' l l' s of.formals img row (heads h (has_first g m l s rest) of))
        (alternatives-same more (λ h1 at. heads h1 (has_later g (AAccept (accepting h m) l) s rest at)) k)
    alternatives-same (alts_delay g d l l' s rest rest' old row more) heads k =
        opened-same (guard_holds σ g) (guard_holds κ g) (guard-same old) (both_ok (Delays (k + 1) d l) (Delays (k + 1) d (stmt_then (own_note X s has_delay (k + 1)) l')) (same_delay (k + 1) d l (stmt_then (own_note X s has_delay (k + 1)) l')))
        (alternatives-same more (λ h1 at. heads h1 (has_later g (ADelay d l) s rest at)) (k + 1))
    alternatives-same (alts_terminate g s rest rest' old more) heads k =
        opened-same (guard_holds σ g) (guard_holds κ g) (guard-same old) (both_ok Terminates Terminates same_terminate) (alternatives-same more (λ h1 at. heads h1 (has_later g ATerminate s rest at)) k)

    accept-alike : (a b : Open) → OpenSame a b → accept_choice a ≡ accept_choice b
    accept-alike _ _ (same_accept z h m m' l l' s old img row a e) = refl
    accept-alike _ _ (same_delay k d l l') = refl
    accept-alike _ _ same_terminate = refl

    shorter-alike : (d : ℕ) (a b : Open) → OpenSame a b → is_shorter d a ≡ is_shorter d b
    shorter-alike d _ _ (same_accept z h m m' l l' s old img row a e) = refl
    shorter-alike d _ _ (same_delay k c l l') = refl
    shorter-alike d _ _ same_terminate = refl

    delay-alike : (all all' : List Open) → ((d : ℕ) → list_any (is_shorter d) all ≡ list_any (is_shorter d) all') → (a b : Open) → OpenSame a b → delay_choice all a ≡ delay_choice all' b
    delay-alike all all' g _ _ (same_accept z h m m' l l' s old img row a e) = refl
    delay-alike all all' g _ _ (same_delay k d l l') = ap (λ (c : Bool). if c then None else Some (choice.Delay k)) (g d)
    delay-alike all all' g _ _ same_terminate = refl

    close-alike : (a b : Open) → OpenSame a b → terminate_choice a ≡ terminate_choice b
    close-alike _ _ (same_accept z h m m' l l' s old img row a e) = refl
    close-alike _ _ (same_delay k d l l') = refl
    close-alike _ _ same_terminate = refl

    member-alike : (e : ℕ) (z : ℤ) (a b : Open) → OpenSame a b → accepts_member e z a ≡ accepts_member e z b
    member-alike e z _ _ (same_accept n h m m' l l' s old img row a g) = refl
    member-alike e z _ _ (same_delay k d l l') = refl
    member-alike e z _ _ same_terminate = refl

    -- the image tells of what it has taken, before these statements
    module _ (s : Span) (kind k : ℕ) (small : IsInteger kind) (few : IsInteger k) (said : Note) (spells : (v : Value) →
        spelled said 0 v ≡ record { kind = kind; subject = t; argument = k; index = v; owner = 0 }) (named : member_of said ≡ pos 0) (l l' : PStmts) (row : Row l l')
        (own' : f.IsSo t (gone_to (in_front l r) σ)) where
      part-notes : IsNoting f said (λ b. IsBased f t (gone_to (in_front l r) σ)) (behind (stmt_then (own_note X s kind k) (in_front l' r')) W)
      part-notes =
          notes x can t W s kind (own_number X s) k (number s 0) 0 t (pos 0) small few refl
          (record { subject = literal (text x).types W t s (f.fits t σ own); subject_fits = f.fits t σ own; index = zero-told (text x).types W s })
          (variables-there Y X can.names v) i w (in_front l' r') q' o' f said 0 (λ b. IsBased f t (gone_to (in_front l r) σ)) spells named
          (λ b. row-comes x can t f i w (stmt_then st r) no_stmt (in_front l r) (in_front l' r') (joined row im) (under-heard x can f t b v) own')

    -- ---- a caller is accepted

    -- both open an accept body, and the image tells so
    record Opens (e : ℕ) (z : ℤ) (c : ℕ) (acceptor image : Task) : Type 0 where
      output : image.output ≡ w
      notes : IsNoting f (HasBegun c e z) (λ b. IsBased f t acceptor) image

    module _ (e : ℕ) (z : ℤ) (c : ℕ) (caller j : Task) (over : HandOverAlike f c caller j) where
      opens-one : (a b : Open) → OpenSame a b → accepts_member e z a ≡ true → alternative_for σ e z ≡ Some a → alternative_for κ e z ≡ Some b → Opens e z c (accepted e z c caller σ) (accepted e z c j κ)
      opens-one _ _ (same_accept n h m m' l l' s old img row a worth) it here there =
          let member = same_member-true e (entry_of (form x).numbers t h.entry.name) z n it in
          let one : accepted e z c caller σ ≡ alternative_opened c (Some (Accepts (entry_of (form x).numbers t h.entry.name) n h (stmts_or_none m) l)) (values_handed caller) σ
          = ap (λ p. alternative_opened c p (values_handed caller) σ) here in
          let two : accepted e z c j κ ≡ alternative_opened c (Some (Accepts (entry_of (form x).numbers t h.entry.name) n (head_telling X h) (body_told X s h m') l')) (Number (pos c) ∷ values_handed caller) κ
          = ap (λ p. alternative_opened c p (values_handed j) κ) there ∙ ap (λ vs. alternative_opened c (Some (Accepts (entry_of (form x).numbers t h.entry.name) n (head_telling X h) (body_told X s h m') l')) vs κ) over.same in
          subst (λ u. Opens u z c (accepted e z c caller σ) (accepted e z c j κ)) (sym member.0)
          (subst (λ u. Opens (entry_of (form x).numbers t h.entry.name) u c (accepted e z c caller σ) (accepted e z c j κ)) (sym member.1)
          (subst (λ u. Opens (entry_of (form x).numbers t h.entry.name) n c (accepted e z c caller σ) u) (sym two)
          (subst (λ u. f.IsSo t u → Opens (entry_of (form x).numbers t h.entry.name) n c u
          (alternative_opened c (Some (Accepts (entry_of (form x).numbers t h.entry.name) n (head_telling X h) (body_told X s h m') l')) (Number (pos c) ∷ values_handed caller) κ)) (sym one)
          (λ is. record {
            output = refl;
            notes = opening-tells x can f t i w h s (in_front l r) (in_front l' r') (joined row im) v old a n worth c over.fits (values_handed caller) over.known img is;
          })
          ((f.stays t σ own).accepted e z c caller))))
      opens-one _ _ (same_delay k d l l') it here there = absurd (true≢false (sym it))
      opens-one _ _ same_terminate it here there = absurd (true≢false (sym it))

      opens-found : (a b : Option Open) →
          AreFound OpenSame e z a b → (a ≡ None → ⊥) → alternative_for σ e z ≡ a → alternative_for κ e z ≡ b → Opens e z c (accepted e z c caller σ) (accepted e z c j κ)
      opens-found _ _ found_none none mine its = absurd (none refl)
      opens-found _ _ (found_some a b s it) none mine its = opens-one a b s it mine its

    -- ---- what the image does

    waits-any : (test : Choice → Bool) (cs : List Choice) → waits_with test (offered (choices_stand cs)) ≡ list_any test cs
    waits-any test [] = refl
    waits-any test (c ∷ cs) = refl

    module _ (has : Bool) (here-stands : stand_at σ st ≡ wait_stand has (open_at σ st)) (there-stands : stand_at κ st' ≡ wait_stand has (open_at κ st')) (same-open : Both (AreSame OpenSame) (open_at σ st) (open_at κ st'))
        (else-row : has ≡ true → ComesTo (IsOwing f t TookElse σ) (took_else κ))
        (delay-row : (k : ℕ) (os : List Open) → open_at σ st ≡ Ok os → list_any (delays_at k) os ≡ true → ComesTo (IsOwing f t (TookDelay k) σ) (took_delay k κ)) where
      wait-rests : steps_at (wait_stand has (open_at σ st)) ≡ false
      wait-rests = ap steps_at (sym here-stands) ∙ rests

      opened : (os : List Open) × (open_at σ st ≡ Ok os)
      opened = rests-ok has (open_at σ st) wait-rests

      opened-there : (os' : List Open) × (open_at κ st' ≡ Ok os') × AreSame OpenSame opened.0 os'
      opened-there = both-ok same-open opened.0 opened.1

      abbrev cs : List Choice
      cs = choices_of has opened.0

      offer-here : offer_of σ ≡ offered (choices_stand (choices_of has opened.0))
      offer-here = ap offered here-stands ∙ ap (λ p. offered (wait_stand has p)) opened.1

      there-is : stand_at κ st' ≡ choices_stand (choices_of has opened.0)
      there-is = there-stands ∙ ap (λ p. wait_stand has p) opened-there.1 ∙ ap choices_stand (choices-same OpenSame accept-alike shorter-alike delay-alike close-alike has opened-there.2)

      at-rest : steps_at (choices_stand (choices_of has opened.0)) ≡ false
      at-rest = ap (λ p. steps_at (wait_stand has p)) (sym opened.1) ∙ wait-rests

      any : (test : Choice → Bool) → waits_with test (offer_of σ) ≡ true → list_any test (choices_of has opened.0) ≡ true
      any test h = sym (ap (waits_with test) offer-here ∙ waits-any test (choices_of has opened.0)) ∙ h

      no-other : (p : Offer) → is_wait p ≡ false → offer_of σ ≡ p → ⊥
      no-other p none e = true≢false (sym (waits-there (choices_of has opened.0)) ∙ ap is_wait (sym offer-here ∙ e) ∙ none)

      first : (e : ℕ) (z : ℤ) → waits_with (opens e z) (offer_of σ) ≡ true → find (accepts_member e z) opened.0 ≡ None → ⊥
      first e z h = finds (accepts_member e z) opened.0 (sym (opens-any has opened.0 e z) ∙ any (opens e z) h)

      pub wait-acts : ActsAlike f t σ κ
      wait-acts = record {
        offers = λ no. record {
          rests = ap steps_at there-is ∙ at-rest;
          offers = ap offered there-is ∙ sym (ap (based_offer x.note t) offer-here ∙ based-wait x.note t (choices_of has opened.0) at-rest);
        };
        at_call = λ g e z h. absurd (no-other (Calls g e z) refl h);
        at_finish = λ h. absurd (no-other Finishes refl h);
        at_end = λ h no. absurd (no-other Ends refl h);
        accepted = λ e z h c caller j over.
            let o = opens-found e z c caller j over (find (accepts_member e z) opened.0) (find (accepts_member e z) opened-there.0)
            (first-same OpenSame member-alike e z opened-there.2) (first e z h) (ap (first_accepting e z) opened.1) (ap (first_accepting e z) opened-there.1) in
            here (accepted e z c j κ) (record { output = o.output; notes = o.notes });
        took_else = λ h. else-row (else-there has opened.0 (any is_else h));
        took_delay = λ k h. delay-row k opened.0 opened.1 (delay-there k has opened.0 (any (is_delay k) h));
      }

  -- ---- accept statements

  module _ (i : List ℤ) (w : List ℕ) (h : PHead) (m m' : PMaybe) (s : Span) (old : OldHead x.programs h) (img : ImageMaybe (unit_rows x t) m m') (r r' : PStmts)
      (im : Telling (only_names x.programs) (teller x t) r r')
      (q q' : Around) (o o' : List PFrame) (V W : Variables) (v : Under (unit_translation x t) q o V q' o' W) (own : f.IsSo t (task_in (form x) t i w (control (stmt_then (SAccept (accepting h m) s) r) q o V)))
      (rests : can_step (task_in (form x) t i w (control (stmt_then (SAccept (accepting h m) s) r) q o V)) ≡ false) where
    abbrev ast : PStmt
    ast = SAccept (accepting h m) s

    abbrev ast' : PStmt
    ast' = SAccept (accept_told X s (accepting h m')) s

    abbrev aσ : Task
    aσ = task_in (form x) t i w (control (stmt_then ast r) q o V)

    alone : Both (AreSame (OpenSame i w ast ast' r r' im q q' o o' V W v own rests)) (open_at aσ ast) (open_at (task_in (text x) t i w (control (stmt_then ast' r') q' o' W)) ast')
    alone = both_then (accept-same i w ast ast' r r' im q q' o o' V W v own rests h m m' no_stmt no_stmt s old.formals img telling_none (f.heads t i w (control (stmt_then ast r) q o V) own rests h (at_accept m s r) old W (sees-alike y (laws x can t) v)))
        (λ a b same. both_ok (a ∷ []) (b ∷ []) (same_then a b [] [] same same_none))

    -- no delay is open at an accept statement
    no-delay : (k : ℕ) (os : List Open) (z : Result ℤ Raised) → and_then (and_then z (λ j. Ok (Accepts (entry_of (form x).numbers t h.entry.name) j h (stmts_or_none m) no_stmt))) (λ u. Ok (u ∷ [])) ≡ Ok os → list_any (delays_at k) os ≡ true → ⊥
    no-delay k os (Ok j) e it = true≢false (sym it ∙ sym (ap (λ (u : Result (List Open) Raised). among u) e))
      where
        among : Result (List Open) Raised → Bool
        among (Ok us) = list_any (delays_at k) us
        among (Err u) = false
    no-delay k os (Err u) e it = cc

    pub accept-acts : ActsAlike f t (task_in (form x) t i w (control (stmt_then (SAccept (accepting h m) s) r) q o V)) (task_in (text x) t i w (control (in_front (accept_image (teller x t) s (accepting h m')) r') q' o' W))
    accept-acts =
        wait-acts i w ast ast' r r' im q q' o o' V W v own rests false refl refl alone (λ e. absurd (true≢false (sym e)))
        (λ k os e it. absurd (no-delay k os (member_index (form x) V (entry_of (form x).numbers t h.entry.name) h.index) e it))

  -- ---- selective waits

  module _ (i : List ℤ) (w : List ℕ) (alts alts' : PAlts) (m m' : PMaybe) (s : Span) (told : AltsTold alts alts') (img : ImageMaybe (unit_rows x t) m m') (r r' : PStmts) (im : Telling (only_names x.programs) (teller x t) r r')
      (q q' : Around) (o o' : List PFrame) (V W : Variables) (v : Under (unit_translation x t) q o V q' o' W) (own : f.IsSo t (task_in (form x) t i w (control (stmt_then (SWait alts m s) r) q o V)))
      (rests : can_step (task_in (form x) t i w (control (stmt_then (SWait alts m s) r) q o V)) ≡ false) where
    abbrev wst : PStmt
    wst = SWait alts m s

    abbrev wst' : PStmt
    wst' = SWait (alternatives_told X alts' 1) (else_told X s m') s

    abbrev wσ : Task
    wσ = task_in (form x) t i w (control (stmt_then wst r) q o V)

    abbrev wκ : Task
    wκ = task_in (text x) t i w (control (stmt_then wst' r') q' o' W)

    present-same : {n n' : PMaybe} → ImageMaybe (unit_rows x t) n n' → is_present (else_told X s n') ≡ is_present n
    present-same image_absent = refl
    present-same (image_present l l' row) = refl

    -- the else part, where there is one
    else-notes : {n n' : PMaybe} → ImageMaybe (unit_rows x t) n n' → is_present n ≡ true → f.IsSo t (gone_to (in_front (stmts_or_none n) r) wσ) →
        IsNoting f (HasElse t) (λ b. IsBased f t (gone_to (in_front (stmts_or_none n) r) wσ)) (gone_to (in_front (stmts_or_none (else_told X s n')) r') wκ)
    else-notes image_absent e is = absurd (true≢false (sym e))
    else-notes (image_present l l' row) e is = part-notes i w wst wst' r r' im q q' o o' V W v own rests s has_else 0 refl refl (HasElse t) (λ u. refl) refl l l' row is

    takes-else : is_present m ≡ true → ComesTo (IsOwing f t TookElse wσ) (took_else wκ)
    takes-else e = here (took_else wκ) (record { output = refl; notes = else-notes img e ((f.stays t wσ own).took_else) })

    takes-delay : (k : ℕ) (os : List Open) → alternatives_open wσ alts 0 ≡ Ok os → list_any (delays_at k) os ≡ true → ComesTo (IsOwing f t (TookDelay k) wσ) (took_delay k wκ)
    takes-delay k os e it =
        let d = found-delay wσ k told 0 (ap (delay_among wσ k) e ∙ it) in
        let few : IsInteger k = f.delays t i w (control (stmt_then wst r) q o V) own alts m s r refl k (omega (arith, d.upto)) in
        here (took_delay k wκ) (record {
          output = refl;
          notes =
              subst (λ u. IsNoting f (HasDelay t k) (λ b. IsBased f t (took_delay k wσ)) (gone_to (in_front u r') wκ)) (sym d.there)
              (subst (λ u. f.IsSo t (gone_to (in_front u r) wσ) → IsNoting f (HasDelay t k) (λ b. IsBased f t (gone_to (in_front u r) wσ)) (gone_to (in_front (stmt_then (own_note X d.span has_delay k) d.stmts') r') wκ)) (sym d.here)
              (λ is. part-notes i w wst wst' r r' im q q' o o' V W v own rests d.span has_delay k refl few (HasDelay t k) (λ u. refl) refl d.stmts d.stmts' d.rows is)
              ((f.stays t wσ own).took_delay k));
        })

    pub waits-act : ActsAlike f t (task_in (form x) t i w (control (stmt_then (SWait alts m s) r) q o V)) (task_in (text x) t i w (control (in_front (wait_image (teller x t) s alts' m') r') q' o' W))
    waits-act =
        wait-acts i w wst wst' r r' im q q' o o' V W v own rests (is_present m) refl (ap (λ b. wait_stand b (alternatives_open wκ (alternatives_told X alts' 1) 0)) (present-same img))
        (alternatives-same i w wst wst' r r' im q q' o o' V W v own rests told
        (λ h at oh. f.heads t i w (control (stmt_then wst r) q o V) own rests h (at_wait alts m s r at) oh W (sees-alike y (laws x can t) v)) 0)
        takes-else takes-delay

-- What each task of a collecting text with abort statements does beside the law's copy, whatever the world: its output, its local steps and its offers, and
-- what it tells.
use Rattle.std.proofs.Common.{◌≡◌, ℕ, Bool, true, false, List, [], ◌∷◌, None, refl, sym, ap, ◌∙◌, subst, true≢false}
use Rattle.event_machine.specs.Offers.{Offer, Nothing, Calls, Waits, Finishes, Ends, Aborts}
use Rattle.ada_value.specs.declared.values.Value.TheVariants.{Truth}
use Rattle.task_model.specs.Tasks.{Task}
use Rattle.task_model.specs.Stands.{can_step, stepped, offer_of}
use Rattle.task_model.specs.TaskOps.{task_ops}
use Rattle.task_model.specs.Rendezvous.{resumed, pending_of, finals_of}
use Rattle.normal_laws.specs.runs.runs.Laws.{IsCalm}
use Rattle.task_laws.specs.translation.Controls.{Alike, alike}
use Rattle.run_laws.specs.collecting.Copies.{telling}
use Rattle.run_laws.proofs.collecting.Offered.{nothing_tells, waits_tell, finish_tells, end_tells, abort_tells}
use Rattle.collect_runs.proofs.imitating.Acting.{offering-rests, nothing_calls, nothing_ends}
use Rattle.run_laws.specs.aborts.Notes.{Note, BeforeCall, HasBegun, HasFinished, HasElse, HasDelay, HasCallElse, HasExpired, HasFailed, AtEnd, ToAbort}
use Rattle.run_laws.specs.aborts.Notes.{HasReturned, Book, empty_book}
use Rattle.run_laws.specs.aborts.Copies.{done_by, line_ends, based_note, Copy, Based, Calling, Owing, Refusing, Leaving, Opening, Recording, Writing}
use Rattle.run_laws.specs.aborts.Copies.{Striking, Noted, based_offer, told, written, write_on, copy_steps, copy_stepped, copy_offer, note_of, answered}
use Rattle.run_laws.specs.aborts.Settings.{Setting}
use Rattle.run_laws.proofs.aborts.Owns.{end_other}
use Rattle.collect_runs.specs.aborts.recorder.Recorders.{Recorder}
use Rattle.collect_runs.specs.aborts.recorder.Telling.{Tells}
use Rattle.collect_runs.specs.aborts.recorder.States.{starting, waiting, IsLineEnded}
use Rattle.collect_runs.specs.aborts.recorder.Laws.{TakesNotes}
use Rattle.collect_runs.specs.aborts.translation.Floors.{OpenPlace}
use Rattle.collect_runs.specs.aborts.telling.Texts.{Texts, unit_translation, program_of}
use Rattle.collect_runs.specs.aborts.telling.Forms.{Form}
use Rattle.collect_runs.specs.aborts.telling.Meetings.{pends, at_try, StandAlike, they_move, they_rest, they_try, IsBased, IsNoting, IsBehind, IsCalling, IsLeaving}
use Rattle.collect_runs.specs.aborts.telling.Laws.{TellsAlike}
use Rattle.collect_runs.specs.aborts.imitating.Settings.{Collecting, original_of, collected}
use Rattle.collect_runs.specs.aborts.imitating.Copies.{MeetsCopy}
use Rattle.collect_runs.proofs.aborts.recorder.Taking.{recorders_take_notes}
use Rattle.collect_runs.proofs.aborts.imitating.Reaching.{Arrives, comes, leads}

nothing_aborts : (v : ℕ) → Nothing ≡ Aborts v → ⊥
nothing_aborts v h = let p : ◌≡◌ {A = Offer} Nothing (Aborts v) = h in cc

-- ---- outputs

alike-output : (x : Texts) (t : ℕ) (ps : List OpenPlace) {σ κ : Task} → Alike (unit_translation x t ps) σ κ → κ.output ≡ σ.output
alike-output x t ps (alike n input output c d follows) = refl

module _ {x : Texts} (f : Form x) where
  stands-output : (t : ℕ) (ps : List OpenPlace) {σ κ : Task} → StandAlike f t ps σ κ → κ.output ≡ σ.output
  stands-output t ps (they_move pair can) = alike-output x t ps pair.alike
  stands-output t ps (they_rest pair rests other next) = alike-output x t ps pair.alike
  stands-output t ps (they_try own rests (at_try i w y r r' n is old from to im u) places keeps) = refl

  based-output : (t : ℕ) (σ κ : Task) → IsBased f t σ κ → κ.output ≡ σ.output
  based-output t σ κ h = stands-output t h.opened h.stands ∙ (f.like_goes t σ h.like h.is_like).output

module _ {x : Texts} (f : Form x) (tells : TellsAlike f) (c : Collecting x) where
  abbrev k : Recorder
  k = c.recorder

  abbrev pub s : Setting (original_of c)
  s = collected c

  abbrev Meets : Task → Copy Task → Type 0
  Meets = MeetsCopy f c

  abbrev pub takes : TakesNotes k x.note
  takes = recorders_take_notes k x.note c.is_recorder

  pub output-same : (κ : Task) (m : Copy Task) → Meets κ m → κ.output ≡ written (λ (t : Task). t.output) s.lines m
  output-same κ (Based t σ) h = based-output f t σ κ h
  output-same κ (Calling t σ) h = h.output
  output-same κ (Owing t due σ) h = h.output
  output-same κ (Refusing t u σ) h = h.output
  output-same κ (Leaving t σ) h = h.output
  output-same κ Opening h = ap (λ (t : Task). t.output) h
  output-same κ (Recording b) h = ap (λ (t : Task). t.output) h
  output-same κ (Writing t b n done []) h = h.0
  output-same κ (Writing t b n done (piece ∷ left)) h = h.0
  output-same κ (Striking t b a v) h = takes.recorded_abort t a v b κ h
  output-same κ (Noted t answer b) h = takes.recorded_all t answer b κ h

  -- ---- local steps

  -- where the line of a note has ended, the copy's recorder is there
  line-ended : (t : ℕ) (b : Book) (n : Note) (κ : Task) → IsLineEnded k t b n κ → Meets κ (line_ends t b n)
  line-ended t b (BeforeCall u) κ h = h
  line-ended t b (HasBegun u e i a) κ h = h
  line-ended t b (HasFinished a u) κ h = h
  line-ended t b (HasElse a) κ h = h
  line-ended t b (HasDelay a j) κ h = h
  line-ended t b (HasCallElse u e i o) κ h = h
  line-ended t b (HasExpired u e i o) κ h = h
  line-ended t b (HasFailed u e i) κ h = h
  line-ended t b (AtEnd a) κ h = h
  line-ended t b (ToAbort a v) κ h = h
  line-ended t b (HasReturned u) κ h = h

  -- what the copy's local step leads to
  pub steps-alike : (κ : Task) (m : Copy Task) → Meets κ m → copy_steps (program_of x) m ≡ true → ((t : ℕ) (σ : Task) → m ≡ Based t σ → IsCalm σ) →
      (can_step κ ≡ true) × Arrives Meets (copy_stepped (program_of x) m) (stepped κ)
  steps-alike κ (Based t σ) h can calm =
      let on = tells.steps t σ κ h (calm t σ refl can) in
      (on.0, comes Meets (Based t (stepped σ)) (IsBased f t (stepped σ)) (λ j is. is) (stepped κ) on.1)
  steps-alike κ (Calling t σ) h can calm = absurd (true≢false (sym can))
  steps-alike κ (Owing t due σ) h can calm = absurd (true≢false (sym can))
  steps-alike κ (Refusing t u σ) h can calm = absurd (true≢false (sym can))
  steps-alike κ (Leaving t σ) h can calm = absurd (true≢false (sym can))
  steps-alike κ Opening h can calm =
      subst (λ (t : Task). (can_step t ≡ true) × Arrives Meets (copy_stepped (program_of x) Opening) (stepped t)) (sym h)
      (takes.starts.0, leads Meets (copy_stepped (program_of x) Opening) (stepped (starting k)) (waiting k empty_book) takes.starts.1 refl)
  steps-alike κ (Recording b) h can calm = absurd (true≢false (sym can))
  steps-alike κ (Writing t b n done []) h can calm =
      (h.1, leads Meets (write_on t b n done []) (stepped κ) h.2.0 h.2.1 (line-ended t b n h.2.0 h.2.2))
  steps-alike κ (Writing t b n done (piece ∷ left)) h can calm = (h.1, (0, h.2))
  steps-alike κ (Striking t b a v) h can calm = absurd (true≢false (sym can))
  steps-alike κ (Noted t answer b) h can calm = absurd (true≢false (sym can))

  -- ---- offers

  pub offers-alike : (κ : Task) (m : Copy Task) → Meets κ m → copy_steps (program_of x) m ≡ false →
      (can_step κ ≡ false) × (offer_of κ ≡ copy_offer (program_of x) x.note m)
  offers-alike κ (Based t σ) h rests = let o = (tells.acts t σ κ h rests).offers in (o.rests, o.offers)
  offers-alike κ (Calling t σ) h rests = (h.offers.rests, h.offers.offers)
  offers-alike κ (Owing t due σ) h rests = (h.notes.offers.rests, h.notes.offers.offers)
  offers-alike κ (Refusing t u σ) h rests = (h.offers.rests, h.offers.offers)
  offers-alike κ (Leaving t σ) h rests = (h.offers.rests, h.offers.offers)
  offers-alike κ Opening h rests = absurd (true≢false rests)
  offers-alike κ (Recording b) h rests =
      let m : Copy Task = Recording b in
      subst (λ (t : Task). (can_step t ≡ false) × (offer_of t ≡ copy_offer (program_of x) x.note m)) (sym h) ((takes.waits b).rests, (takes.waits b).offers)
  offers-alike κ (Writing t b n done left) h rests = absurd (true≢false rests)
  offers-alike κ (Striking t b a v) h rests = let o = takes.strikes t a v b κ h in (o.rests, o.offers)
  offers-alike κ (Noted t answer b) h rests = let o = takes.ends t answer b κ h in (o.rests, o.offers)

  -- ---- a task that tells

  -- it tells by its note, and answered it reaches what the copy's does
  pub record TellsNote (κ : Task) (m : Copy Task) : Type 0 where
    pub by : Tells κ (note_of (program_of x) pends m)
    pub back : (answer : Bool) (j : Task) → pending_of j ≡ None → finals_of j ≡ Truth answer ∷ [] →
        Arrives Meets (answered (program_of x) answer m) (resumed j κ)

  -- what is so of a note is so of the copy's
  noting-tells : (κ : Task) (m : Copy Task) (n : Note) (after : Bool → Copy Task) (P : Bool → Task → Type 0) →
      ((answer : Bool) (j : Task) → P answer j → Meets j (after answer)) →
      IsNoting f n P κ → note_of (program_of x) pends m ≡ n → ((answer : Bool) → answered (program_of x) answer m ≡ after answer) → TellsNote κ m
  noting-tells κ m n after P so notes its then' = record {
    by = subst (Tells κ) (sym its) notes.tells;
    back = λ answer j no_pending hands. subst (λ (a : Copy Task). Arrives Meets a (resumed j κ)) (sym (then' answer))
        (comes Meets (after answer) (P answer) (so answer) (resumed j κ) (notes.answered answer j no_pending hands));
  }

  -- of a task that is based, by what the normal form's offers
  based-tells : (t : ℕ) (σ κ : Task) → IsBased f t σ κ → (offer : Offer) → offer_of σ ≡ offer → based_offer x.note t offer ≡ telling x.note →
      TellsNote κ (Based t σ)
  based-tells t σ κ h Nothing q is = absurd (nothing_tells x.note is)
  based-tells t σ κ h (Calls form e i) q is =
      let rests : can_step σ ≡ false = offering-rests σ (λ none. nothing_calls form e i (sym none ∙ q)) in
      noting-tells κ (Based t σ) (BeforeCall t) (λ answer. Calling t σ) (λ answer. IsCalling f t σ) (λ answer j h. h)
      ((tells.acts t σ κ h rests).at_call form e i q) (ap (based_note t) q) (λ answer. ap (λ (o : Offer). told (program_of x) t o σ) q)
  based-tells t σ κ h (Waits choices) q is = absurd (waits_tell x.note is)
  based-tells t σ κ h Finishes q is = absurd (finish_tells x.note is)
  based-tells t σ κ h Ends q is =
      let rests : can_step σ ≡ false = offering-rests σ (λ none. nothing_ends (sym none ∙ q)) in
      noting-tells κ (Based t σ) (AtEnd t) (λ answer. Leaving t σ) (λ answer. IsLeaving f t σ) (λ answer j h. h)
      ((tells.acts t σ κ h rests).at_end q (end_other x.note t is)) (ap (based_note t) q) (λ answer. ap (λ (o : Offer). told (program_of x) t o σ) q)
  based-tells t σ κ h (Aborts v) q is =
      let rests : can_step σ ≡ false = offering-rests σ (λ none. nothing_aborts v (sym none ∙ q)) in
      noting-tells κ (Based t σ) (ToAbort t v) (λ answer. Based t (task_ops.passed σ)) (λ answer. IsBased f t (task_ops.passed σ)) (λ answer j h. h)
      ((tells.acts t σ κ h rests).at_abort v q) (ap (based_note t) q) (λ answer. ap (λ (o : Offer). told (program_of x) t o σ) q)

  -- who is answered is where the copy's task is
  behind-meets : (m : Copy Task) (κ : Task) → IsBehind f m κ → Meets κ m
  behind-meets (Based t σ) κ h = h
  behind-meets (Calling t σ) κ h = absurd h
  behind-meets (Owing t due σ) κ h = absurd h
  behind-meets (Refusing t u σ) κ h = h
  behind-meets (Leaving t σ) κ h = absurd h
  behind-meets Opening κ h = absurd h
  behind-meets (Recording b) κ h = absurd h
  behind-meets (Writing u b n done left) κ h = absurd h
  behind-meets (Striking u b t v) κ h = absurd h
  behind-meets (Noted u answer b) κ h = absurd h

  -- a task of the copy that tells
  pub tells-note : (κ : Task) (m : Copy Task) → Meets κ m → copy_offer (program_of x) x.note m ≡ telling x.note →
      ((t : ℕ) (σ : Task) → m ≡ Calling t σ → offer_of σ ≡ telling x.note → ⊥) → TellsNote κ m
  tells-note κ (Based t σ) h is none = based-tells t σ κ h (offer_of σ) refl is
  tells-note κ (Calling t σ) h is none = absurd (none t σ refl is)
  tells-note κ (Owing t due σ) h is none =
      noting-tells κ (Owing t due σ) (note_of (program_of x) pends (Owing t due σ)) (λ answer. done_by (program_of x) t answer due σ)
      (λ answer. IsBehind f (done_by (program_of x) t answer due σ))
      (λ answer. behind-meets (done_by (program_of x) t answer due σ)) h.notes refl (λ answer. refl)
  tells-note κ (Refusing t u σ) h is none = absurd (finish_tells x.note is)
  tells-note κ (Leaving t σ) h is none = absurd (end_tells x.note is)
  tells-note κ Opening h is none = absurd (nothing_tells x.note is)
  tells-note κ (Recording b) h is none = absurd (waits_tell x.note is)
  tells-note κ (Writing t b n done left) h is none = absurd (nothing_tells x.note is)
  tells-note κ (Striking t b a v) h is none = absurd (abort_tells v x.note is)
  tells-note κ (Noted t answer b) h is none = absurd (finish_tells x.note is)

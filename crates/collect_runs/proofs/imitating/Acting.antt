-- What each task of a collecting text does beside the law's copy, whatever the world: its output, its local steps and its offers, and what it tells.
use Rattle.std.proofs.Common.{◌≡◌, ℕ, Bool, true, false, [], ◌∷◌, None, refl, sym, ap, ◌∙◌, subst, true≢false}
use Rattle.std.specs.Prelude.{ℤ}
use Rattle.event_machine.specs.declared.CallForm.{CallForm}
use Rattle.common_lemmas.proofs.Numbers.{equal_self}
use Rattle.event_machine.specs.Offers.{Offer, Nothing, Calls, Waits, Finishes, Ends, Aborts}
use Rattle.event_machine.specs.Worlds.{aborts}
use Rattle.ada_value.specs.declared.values.Value.TheVariants.{Truth}
use Rattle.task_model.specs.Tasks.{Task}
use Rattle.task_model.specs.Stands.{Steps, Raises, At, Stand, can_step, steps_at, stand_of, stepped, offer_of, offered}
use Rattle.task_model.specs.Rendezvous.{resumed, pending_of, finals_of}
use Rattle.normal_laws.specs.runs.runs.Laws.{IsCalm}
use Rattle.task_laws.specs.translation.Controls.{Alike, alike}
use Rattle.run_laws.specs.collecting.Notes.{Note, BeforeCall, AtFinish, AtEnd, empty_book}
use Rattle.run_laws.specs.collecting.Copies.{done_by, based_note, Copy, Based, Calling, Owing, Ending, Leaving, Opening, Recording, Writing, Noted, telling, based_offer, told, written, write_on, copy_steps, copy_stepped, copy_offer, note_of, answered}
use Rattle.run_laws.specs.collecting.Settings.{Setting}
use Rattle.run_laws.proofs.collecting.Offered.{nothing_tells, waits_tell, finish_tells, end_tells, abort_tells}
use Rattle.collect_runs.specs.recorder.Recorders.{Recorder}
use Rattle.collect_runs.specs.recorder.Telling.{Tells}
use Rattle.collect_runs.specs.recorder.States.{starting, waiting}
use Rattle.collect_runs.specs.recorder.Laws.{TakesNotes}
use Rattle.collect_runs.specs.telling.Texts.{Texts, unit_translation, program_of}
use Rattle.collect_runs.specs.telling.Forms.{Form}
use Rattle.collect_runs.specs.telling.Meetings.{IsBased, IsNoting, IsCalling, IsEnding, IsLeaving}
use Rattle.collect_runs.specs.telling.Laws.{TellsAlike}
use Rattle.collect_runs.specs.imitating.Settings.{Collecting, original_of, collected}
use Rattle.collect_runs.specs.imitating.Copies.{MeetsCopy}
use Rattle.collect_runs.proofs.recorder.Taking.{recorders_take_notes}
use Rattle.collect_runs.proofs.imitating.Reaching.{Arrives, comes, leads}
use Rattle.run_laws.proofs.collecting.Lines.{end_other}

-- a task with a local step offers nothing
pub task-rests : (t : Task) → can_step t ≡ true → offer_of t ≡ Nothing
task-rests t h = go (stand_of t) h
  where
    go : (s : Stand) → steps_at s ≡ true → offered s ≡ Nothing
    go Steps k = refl
    go (Raises e) k = refl
    go (At offer) k = absurd (true≢false (sym k))

pub nothing_calls : (form : CallForm) (e : ℕ) (i : ℤ) → Nothing ≡ Calls form e i → ⊥
nothing_calls form e i h = let p : ◌≡◌ {A = Offer} Nothing (Calls form e i) = h in cc

pub nothing_finishes : Nothing ≡ Finishes → ⊥
nothing_finishes h = let p : ◌≡◌ {A = Offer} Nothing Finishes = h in cc

pub nothing_ends : Nothing ≡ Ends → ⊥
nothing_ends h = let p : ◌≡◌ {A = Offer} Nothing Ends = h in cc

-- so one that offers something has none
pub offering-rests : (t : Task) → (offer_of t ≡ Nothing → ⊥) → can_step t ≡ false
offering-rests t some = go (can_step t) refl
  where
    go : (b : Bool) → can_step t ≡ b → can_step t ≡ false
    go true q = absurd (some (task-rests t q))
    go false q = q

alike-output : (x : Texts) (t : ℕ) {σ κ : Task} → Alike (unit_translation x t) σ κ → κ.output ≡ σ.output
alike-output x t (alike n input output c d follows) = refl

module _ {x : Texts} (f : Form x) (tells : TellsAlike f) (c : Collecting x) where
  abbrev k : Recorder
  k = c.recorder

  abbrev pub s : Setting (original_of c)
  s = collected c

  abbrev Meets : Task → Copy Task → Type 0
  Meets = MeetsCopy f c

  abbrev pub takes : TakesNotes k x.note
  takes = recorders_take_notes k x.note c.is_recorder

  pub output-same : (κ : Task) (m : Copy Task) → Meets κ m → κ.output ≡ written (λ (t : Task). t.output) s.lines m
  output-same κ (Based t σ) h = alike-output x t h.pair.alike
  output-same κ (Calling t σ) h = h.output
  output-same κ (Owing t due σ) h = h.output
  output-same κ (Ending t σ) h = h.output
  output-same κ (Leaving t σ) h = h.output
  output-same κ Opening h = ap (λ (t : Task). t.output) h
  output-same κ (Recording b) h = ap (λ (t : Task). t.output) h
  output-same κ (Writing t b n done left) h = takes.written t b n done left κ h
  output-same κ (Noted t answer b) h = takes.recorded_all t answer b κ h

  -- ---- local steps

  -- what the copy's local step leads to
  pub steps-alike : (κ : Task) (m : Copy Task) → Meets κ m → copy_steps (program_of x) m ≡ true → ((t : ℕ) (σ : Task) → m ≡ Based t σ → IsCalm σ) →
      (can_step κ ≡ true) × Arrives Meets (copy_stepped (program_of x) m) (stepped κ)
  steps-alike κ (Based t σ) h can calm =
      let on = tells.steps t σ κ h (calm t σ refl can) in
      (on.0, comes Meets (Based t (stepped σ)) (IsBased f t (stepped σ)) (λ j is. is) (stepped κ) on.1)
  steps-alike κ (Calling t σ) h can calm = absurd (true≢false (sym can))
  steps-alike κ (Owing t due σ) h can calm = absurd (true≢false (sym can))
  steps-alike κ (Ending t σ) h can calm = absurd (true≢false (sym can))
  steps-alike κ (Leaving t σ) h can calm = absurd (true≢false (sym can))
  steps-alike κ Opening h can calm =
      subst (λ (t : Task). (can_step t ≡ true) × Arrives Meets (copy_stepped (program_of x) Opening) (stepped t)) (sym h)
      (takes.starts.0, leads Meets (copy_stepped (program_of x) Opening) (stepped (starting k)) (waiting k empty_book) takes.starts.1 refl)
  steps-alike κ (Recording b) h can calm = absurd (true≢false (sym can))
  steps-alike κ (Writing t b n done []) h can calm =
      let on = takes.ends_line t b n done κ h in
      (on.0, leads Meets (write_on t b n done []) (stepped κ) on.1.0 on.1.1 on.1.2)
  steps-alike κ (Writing t b n done (piece ∷ left)) h can calm =
      let on = takes.writes t b n done piece left κ h in
      (on.0, (0, on.1))
  steps-alike κ (Noted t answer b) h can calm = absurd (true≢false (sym can))

  -- ---- offers

  pub offers-alike : (κ : Task) (m : Copy Task) → Meets κ m → copy_steps (program_of x) m ≡ false → ((t v : ℕ) (σ : Task) → m ≡ Based t σ → aborts v (offer_of σ) ≡ false) →
      (can_step κ ≡ false) × (offer_of κ ≡ copy_offer (program_of x) x.note m)
  offers-alike κ (Based t σ) h rests none = let o = (tells.acts t σ κ h rests).offers (λ v q. true≢false (sym (ap (aborts v) q ∙ equal_self v) ∙ none t v σ refl)) in (o.rests, o.offers)
  offers-alike κ (Calling t σ) h rests none = (h.offers.rests, h.offers.offers)
  offers-alike κ (Owing t due σ) h rests none = (h.notes.offers.rests, h.notes.offers.offers)
  offers-alike κ (Ending t σ) h rests none = (h.offers.rests, h.offers.offers)
  offers-alike κ (Leaving t σ) h rests none = (h.offers.rests, h.offers.offers)
  offers-alike κ Opening h rests none = absurd (true≢false rests)
  offers-alike κ (Recording b) h rests none =
      let m : Copy Task = Recording b in
      subst (λ (t : Task). (can_step t ≡ false) × (offer_of t ≡ copy_offer (program_of x) x.note m)) (sym h) ((takes.waits b).rests, (takes.waits b).offers)
  offers-alike κ (Writing t b n done left) h rests none = absurd (true≢false rests)
  offers-alike κ (Noted t answer b) h rests none = let o = takes.ends t answer b κ h in (o.rests, o.offers)

  -- ---- a task that tells

  -- it tells by its note, and answered it reaches what the copy's does
  pub record TellsNote (κ : Task) (m : Copy Task) : Type 0 where
    pub by : Tells κ (note_of (program_of x) m)
    pub back : (answer : Bool) (j : Task) → pending_of j ≡ None → finals_of j ≡ Truth answer ∷ [] → Arrives Meets (answered (program_of x) answer m) (resumed j κ)

  -- what is so of a note is so of the copy's
  noting-tells : (κ : Task) (m : Copy Task) (n : Note) (after : Copy Task) (P : Bool → Task → Type 0) → ((answer : Bool) (j : Task) → P answer j → Meets j after) → IsNoting f n P κ →
      note_of (program_of x) m ≡ n → ((answer : Bool) → answered (program_of x) answer m ≡ after) → TellsNote κ m
  noting-tells κ m n after P so notes its then' = record {
    by = subst (Tells κ) (sym its) notes.tells;
    back = λ answer j no_pending hands. subst (λ (a : Copy Task). Arrives Meets a (resumed j κ)) (sym (then' answer)) (comes Meets after (P answer) (so answer) (resumed j κ) (notes.answered answer j no_pending hands));
  }

  -- of a task that is based, by what the normal form's offers
  based-tells : (t : ℕ) (σ κ : Task) → IsBased f t σ κ → (offer : Offer) → offer_of σ ≡ offer → based_offer x.note t offer ≡ telling x.note → TellsNote κ (Based t σ)
  based-tells t σ κ h Nothing q is = absurd (nothing_tells x.note is)
  based-tells t σ κ h (Calls form e i) q is =
      let rests : can_step σ ≡ false = offering-rests σ (λ none. nothing_calls form e i (sym none ∙ q)) in
      noting-tells κ (Based t σ) (BeforeCall t) (Calling t σ) (λ answer. IsCalling f t σ) (λ answer j h. h) ((tells.acts t σ κ h rests).at_call form e i q)
      (ap (based_note t) q) (λ answer. ap (λ (o : Offer). told t o σ) q)
  based-tells t σ κ h (Waits choices) q is = absurd (waits_tell x.note is)
  based-tells t σ κ h Finishes q is =
      let rests : can_step σ ≡ false = offering-rests σ (λ none. nothing_finishes (sym none ∙ q)) in
      noting-tells κ (Based t σ) (AtFinish t) (Ending t σ) (λ answer. IsEnding f t σ) (λ answer j h. h) ((tells.acts t σ κ h rests).at_finish q)
      (ap (based_note t) q) (λ answer. ap (λ (o : Offer). told t o σ) q)
  based-tells t σ κ h Ends q is =
      let rests : can_step σ ≡ false = offering-rests σ (λ none. nothing_ends (sym none ∙ q)) in
      noting-tells κ (Based t σ) (AtEnd t) (Leaving t σ) (λ answer. IsLeaving f t σ) (λ answer j h. h) ((tells.acts t σ κ h rests).at_end q (end_other x.note t is))
      (ap (based_note t) q) (λ answer. ap (λ (o : Offer). told t o σ) q)
  based-tells t σ κ h (Aborts v) q is = absurd (abort_tells v x.note is)

  -- a task of the copy that tells
  pub tells-note : (κ : Task) (m : Copy Task) → Meets κ m → copy_offer (program_of x) x.note m ≡ telling x.note → ((t : ℕ) (σ : Task) → m ≡ Calling t σ → offer_of σ ≡ telling x.note → ⊥) → TellsNote κ m
  tells-note κ (Based t σ) h is none = based-tells t σ κ h (offer_of σ) refl is
  tells-note κ (Calling t σ) h is none = absurd (none t σ refl is)
  tells-note κ (Owing t due σ) h is none = record {
    by = h.notes.tells;
    back = λ answer j no_pending hands. comes Meets (Based t (done_by (program_of x) answer due σ)) (IsBased f t (done_by (program_of x) answer due σ)) (λ i back. back) (resumed j κ) (h.notes.answered answer j no_pending hands);
  }
  tells-note κ (Ending t σ) h is none = absurd (finish_tells x.note is)
  tells-note κ (Leaving t σ) h is none = absurd (end_tells x.note is)
  tells-note κ Opening h is none = absurd (nothing_tells x.note is)
  tells-note κ (Recording b) h is none = absurd (waits_tell x.note is)
  tells-note κ (Writing t b n done left) h is none = absurd (nothing_tells x.note is)
  tells-note κ (Noted t answer b) h is none = absurd (finish_tells x.note is)

-- The tasks of the text imitate the law's copy of the normal form, by what they mean.
use Rattle.std.proofs.Common.{◌≡◌, ℕ, zero, suc, ℤ, pos, Bool, true, false, if◌then◌else◌, List, [], ◌∷◌, slice_index_or, refl, sym, ap, ◌∙◌, subst, true≢false}
use Rattle.event_machine.specs.declared.CallForm.TheVariants.{Plain}
use Rattle.event_machine.specs.declared.Choice.TheVariants.{Accept, Terminate}
use Rattle.event_machine.specs.declared.Event.{Event}
use Rattle.event_machine.specs.Offers.{Offer, Nothing, Calls, Waits, Finishes, is_finish}
use Rattle.ada_tree.specs.PlainProgram.{PProgram}
use Rattle.task_model.specs.Frames.{callers_in}
use Rattle.task_model.specs.Tasks.{Task}
use Rattle.task_model.specs.Stands.{can_step, steps_at, stepped, offer_of}
use Rattle.task_model.specs.Rendezvous.{accepted, finished, resumed, call_failed, took_else, took_delay, past_name}
use Rattle.task_model.specs.TaskOps.{task_ops}
use Rattle.task_laws.specs.translation.Controls.{Alike, alike}
use Rattle.normal_laws.specs.runs.floors.Preludes as prelude
use Rattle.normal_laws.specs.existence.Laws.{IsLegalOriginal}
use Rattle.run_laws.specs.replaying.Permits.{Permit, Op, Go, Done, Join, Hold}
use Rattle.run_laws.specs.replaying.Copies.{Spots, Copy, Based, Holding, Saying, Controlling, Handing, Idling, written, ops_offer, copy_steps, copy_stepped, copy_offer, copy_callers}
use Rattle.run_laws.specs.replaying.Rewritings.{Setting, IsFine, ReachesIn, Reaches, Imitates}
use Rattle.replay_structure.specs.spots.Places.{text_spots}
use Rattle.replay_runs.specs.starts.Laws.{form_in}
use Rattle.table_law.specs.States.{LeadsTo, Offers}
use Rattle.table_law.proofs.Turning.{at-seam}
use Rattle.replay_runs.specs.script.Spelling.{spelled}
use Rattle.replay_runs.specs.controls.Laws.{control_number, controller}
use Rattle.replay_runs.specs.controls.Imitating.{made_of, LeadsInto, IsWithin, ImitatesController}
use Rattle.replay_runs.proofs.controls.Imitating.{legal_imitates_controller}
use Rattle.replay_runs.proofs.controls.Offers.{idle_waits}
use Rattle.replay_runs.proofs.controls.images.Asking.{legal_asking_offers}
use Rattle.replay_runs.specs.controls.meanings.Pairs.{IsBased, Comes}
use Rattle.replay_runs.specs.controls.meanings.Permits.{ComesToSay, ComesToHold}
use Rattle.replay_runs.specs.controls.meanings.Copies.{MeetsCopy}
use Rattle.replay_runs.specs.controls.meanings.Settings.{FormLaws, form_replayed, LegalImitates}
use Rattle.replay_runs.specs.controls.meanings.Laws.{LegalPermitsHold}
use Rattle.replay_runs.proofs.controls.meanings.Pairs.{legal_pairs_step}
use Rattle.replay_runs.proofs.controls.meanings.Permitted.{permits_hold}

module _ (far : Spots) (p : PProgram) (events : List Event) (inputs : List (List ℤ)) (h : IsLegalOriginal p) (k : FormLaws far p inputs) (hold : LegalPermitsHold) where
  abbrev x : Setting
  x = form_replayed far p events inputs k

  abbrev n : Spots
  n = text_spots far (form_in p)

  abbrev out : Task → List ℕ
  out κ = κ.output

  abbrev Meets : Task → Copy Task → Type 0
  Meets = MeetsCopy far p events inputs

  abbrev ComesTo : Task → Copy Task → Type 0
  ComesTo κ m = Reaches x task_ops out Meets κ m

  -- ---- steps

  come-to : (m : Copy Task) {κ κ' : Task} → prelude.Reaches κ κ' → Meets κ' m → ComesTo κ m
  come-to m (prelude.reaches_here _) meets = (0, meets)
  come-to m (prelude.reaches_by _ _ can silent more) meets = let r = come-to m more meets in (suc r.0, (ap steps_at can, silent, r.1))

  comes-there : (t : ℕ) (σ κ : Task) → Comes p events t σ κ → ComesTo κ (Based t σ)
  comes-there t σ κ c = come-to (Based t σ) c.reach c.based

  says-there : (t : ℕ) (σ κ : Task) → ComesToSay far p events t σ κ → ComesTo κ (Saying t σ)
  says-there t σ κ c = come-to (Saying t σ) c.reach c.says

  holds-there : (t : ℕ) (permit : Permit) (σ κ : Task) → ComesToHold far p events t permit σ κ → ComesTo κ (Holding t permit σ)
  holds-there t permit σ κ c = come-to (Holding t permit σ) c.reach c.holds

  leads : (m : Copy Task) (i : ℕ) (κ κ' : Task) → LeadsTo i κ κ' → Meets κ' m → ReachesIn x task_ops out Meets i κ m
  leads m zero κ κ' e meets = subst (λ z. Meets z m) (sym e) meets
  leads m (suc i) κ κ' l meets = (l.0, l.1, leads m i (stepped κ) κ' l.2 meets)

  leads-there : (m : Copy Task) (κ : Task) → LeadsInto (λ u. Meets u m) κ → ComesTo κ m
  leads-there m κ l = (l.0, leads m l.0 κ l.1 l.2 l.3)

  -- ---- the controller

  abbrev input : List ℤ
  input = slice_index_or inputs (control_number p) []

  controls : ImitatesController far p events input
  controls = legal_imitates_controller far p events input h

  -- ---- states

  same-output : (t : ℕ) (σ κ : Task) → IsBased p events t σ κ → κ.output ≡ σ.output
  same-output t σ κ b = go b.pair.alike
    where
      go : {y : _} {u v : Task} → Alike y u v → v.output ≡ u.output
      go (alike m i w c d f) = refl

  output : (κ : Task) (m : Copy Task) → Meets κ m → κ.output ≡ written out m
  output κ (Based t σ) b = same-output t σ κ b
  output κ (Holding t permit σ) b = b.output
  output κ (Saying t σ) b = b.output
  output κ (Controlling ops) b = controls.output ops κ b
  output κ (Handing op ops) b = controls.silent op ops κ b
  output κ Idling b = ap out b

  steps : (κ : Task) (m : Copy Task) → Meets κ m → IsFine x m → copy_steps task_ops n m ≡ true → (can_step κ ≡ true) × ComesTo (stepped κ) (copy_stepped task_ops n m)
  steps κ (Based t σ) b fine can = let s = legal_pairs_step p events h t σ κ b (fine.calm can) in (s.0, comes-there t (stepped σ) (stepped κ) s.1)
  steps κ (Holding t permit σ) b fine can = absurd (true≢false (sym can))
  steps κ (Saying t σ) b fine can = absurd (true≢false (sym can))
  steps κ (Controlling ops) b fine can = absurd (true≢false (sym can))
  steps κ (Handing op ops) b fine can = absurd (true≢false (sym can))
  steps κ Idling b fine can = absurd (true≢false (sym can))

  both : {κ : Task} {o : Offer} → Offers κ o → (can_step κ ≡ false) × (offer_of κ ≡ o)
  both o = (o.rests, o.offers)

  offers : (κ : Task) (m : Copy Task) → Meets κ m → copy_steps task_ops n m ≡ false → (can_step κ ≡ false) × (offer_of κ ≡ copy_offer task_ops n m)
  offers κ (Based t σ) b rests =
      let o = legal_asking_offers far p events h t b.pair.own.there κ (b.asks rests) in
      (o.rests, o.offers ∙ sym (ap (λ c. if c then Nothing else Calls Plain n.go (pos t)) rests))
  offers κ (Holding t permit σ) b rests = both b.offers
  offers κ (Saying t σ) b rests = both b.says
  offers κ (Controlling ops) b rests = both (controls.offers ops κ b)
  offers κ (Handing op ops) b rests = both (controls.ends op ops κ b)
  offers κ Idling b rests =
      both (subst (λ z. Offers z (Waits (Accept n.rest (pos 0) ∷ Terminate ∷ []))) (sym b) (idle_waits far p events (slice_index_or inputs (suc (control_number p)) [])))

  no-finish : (c : Bool) (t : ℕ) → (if c then Nothing else Calls Plain n.go (pos t)) ≡ Finishes → ⊥
  no-finish true t e = true≢false (sym (ap is_finish e))
  no-finish false t e = true≢false (sym (ap is_finish e))

  no-op-finish : (ops : List Op) → ops_offer n ops ≡ Finishes → ⊥
  no-op-finish [] e = true≢false (sym (ap is_finish e))
  no-op-finish (Go t permit ∷ ops) e = true≢false (sym (ap is_finish e))
  no-op-finish (Done t ∷ ops) e = true≢false (sym (ap is_finish e))
  no-op-finish (Join t ∷ ops) e = true≢false (sym (ap is_finish e))
  no-op-finish (Hold ∷ ops) e = true≢false (sym (ap is_finish e))

  callers : (κ : Task) (m : Copy Task) → Meets κ m → copy_offer task_ops n m ≡ Finishes → callers_in κ.control ≡ copy_callers task_ops n m
  callers κ (Based t σ) b e = absurd (no-finish (can_step σ) t e)
  callers κ (Holding t permit σ) b e = b.callers (ap is_finish (b.offers.offers ∙ e))
  callers κ (Saying t σ) b e = absurd (true≢false (sym (ap is_finish e)))
  callers κ (Controlling ops) b e = absurd (no-op-finish ops e)
  callers κ (Handing op ops) b e = controls.callers op ops κ b
  callers κ Idling b e = absurd (true≢false (sym (ap is_finish e)))

  permitted : (κ j : Task) (t : ℕ) (σ : Task) (permit : Permit) (ops : List Op) → IsBased p events t σ κ → can_step σ ≡ false → IsWithin p events input (Go t permit) ops j → ComesTo (resumed j κ) (Holding t permit σ)
  permitted κ j t σ permit ops b rests w =
      let g = controls.grants t permit ops j w in
      let can = at-seam (controller p events input) w.made (spelled (Go t permit)) (made_of ops) w.can in
      holds-there t permit σ (resumed j κ) (hold far p events h t σ κ b rests permit j can.2 can.3 g.0 g.1)

  pub imitates : Imitates x task_ops out Meets
  imitates = record {
    rests = k.lawful.rests;
    output = output;
    steps = steps;
    offers = offers;
    callers = callers;
    asked = λ κ j t σ permit ops b rests m. leads-there (Handing (Go t permit) ops) _ (controls.asked t permit ops κ j m);
    told = λ κ j t σ ops b m. leads-there (Handing (Done t) ops) _ (controls.told t ops κ j m);
    handed = λ j op ops m. leads-there (Controlling ops) _ (controls.handed op ops j m);
    permitted = permitted;
    answered = λ κ j t σ ops b w. let r = controls.hears t ops j w in comes-there t σ (resumed j κ) (b.answered j r.0 r.1);
    joined = λ j t ops m. leads-there (Controlling ops) _ (controls.joined t ops j m);
    met = λ κ j c o e i σ τ b calls a opened. says-there o (accepted e i c σ τ) _ (a.acts.1 opened c σ κ (b.acts.0 calls).over);
    finished = λ κ a σ b finishes. says-there a (finished σ) _ (b.acts finishes).goes_on;
    resumed = λ κ j c a e i σ τ outer has b calls d finishes. comes-there c (resumed τ σ) _ ((b.acts.0 calls).resumed τ j (d.acts finishes).back);
    raised = λ κ c e i σ b calls. comes-there c (call_failed σ) _ (b.acts.0 calls).raised;
    took_else = λ κ a σ b can. says-there a (took_else σ) _ (b.acts can);
    took_delay = λ κ a d σ b can. says-there a (took_delay d σ) _ (b.acts can);
    call_else = λ κ c e i σ b calls. says-there c (took_else σ) _ (b.acts calls);
    expired = λ κ c e i σ b calls. says-there c (took_delay 1 σ) _ (b.acts calls);
    failed = λ κ c e i σ b calls. says-there c (call_failed σ) _ (b.acts calls);
    passed = λ κ t v σ b names other. says-there t (past_name σ) _ (b.acts names other);
  }

pub legal_imitates : LegalImitates
legal_imitates far p events inputs h k = imitates far p events inputs h k permits_hold

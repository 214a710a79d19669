-- What is shown where the original is beside the copy: the outputs are those of the original, the recorder's is a record of its events, and some run of the
-- original's table has these events and comes to that world. Where the recorder is to abort, the abort is one of the events.
use Rattle.std.proofs.Common.{◌≡◌, ℕ, ◌<◌, Bool, true, false, List, [], ◌∷◌, ◌++◌, Option, Some, None, append-nil, refl, sym, ap, ◌∙◌, subst}
use Rattle.std.specs.List.{concat}
use Rattle.event_machine.specs.declared.Event.{Event}
use Rattle.event_machine.specs.declared.Event.TheVariants.{B, Z}
use Rattle.event_machine.specs.States.{Seat}
use Rattle.event_machine.specs.Soundness.{IsSound}
use Rattle.event_machine.specs.Worlds.{World, Happen, moved, happens}
use Rattle.run_laws.specs.imitation.Imitations.{Original}
use Rattle.run_laws.specs.collecting.Notes.{text, pieces}
use Rattle.run_laws.specs.collecting.inner.Beside.{IsReached}
use Rattle.run_laws.specs.collecting.Laws.{IsPart, IsRecord, Unwritten, Written}
use Rattle.run_laws.proofs.collecting.Reaching.{reach_event}
use Rattle.run_laws.proofs.collecting.Showing.{RunsTo, run_to}
use Rattle.run_laws.specs.aborts.Notes.{Book, line_of}
use Rattle.run_laws.specs.aborts.Copies.{Copy, Opening, Recording, Writing, Striking, Noted}
use Rattle.run_laws.specs.aborts.Settings.{Setting, recorder, twin, out_of, IsProperCopy}
use Rattle.run_laws.specs.aborts.inner.Beside.{book_of, RecorderAt, Inv}
use Rattle.run_laws.proofs.aborts.Reading.{differ}
use Rattle.run_laws.proofs.aborts.Outputs.{same_output}
use Rattle.run_laws.proofs.aborts.Aborts.{can_abort, abort_outputs}

-- the events of which the recorder has written the lines, and the original's world behind them
abbrev pub events_now : {L : Type 0} → List Event → Copy L → List Event
events_now past (Striking c b t v) = past ++ B t v ∷ []
events_now past r = past

module _ (o : Original) where
  abbrev pub world_now : World o.L → Copy o.L → World o.L
  world_now d (Striking c b t v) = moved o.p d (Happen (B t v))
  world_now d r = d

module _ {o : Original} (x : Setting o) (past : List Event) (r : Copy o.L) (d : World o.L) (w : World (Copy o.L)) (inv : Inv x past r d w) (sound : IsSound (twin x).ops (IsProperCopy o) w.tasks) where
  -- where the recorder is to abort the copy has not ended
  striking_runs : (c : ℕ) (b : Book) (t v : ℕ) → r ≡ Striking c b t v → w.ended ≡ false
  striking_runs c b t v q = go w.ended refl
    where
      is_striking : Copy o.L → Bool
      is_striking (Striking c b t v) = true
      is_striking k = false

      go : (f : Bool) → w.ended ≡ f → w.ended ≡ false
      go false h = h
      go true h = let k = (inv.ends h).1 in absurd (differ is_striking (Striking c b t v) (Recording k.0) refl refl (sym q ∙ k.1))

  striking_inv : (c : ℕ) (b : Book) (t v : ℕ) → r ≡ Striking c b t v → Inv x past (Striking c b t v) d w
  striking_inv c b t v q = subst (λ s. Inv x past s d w) q inv

  pub reached_now : IsReached o (events_now past r) (world_now o d r)
  reached_now = go r refl
    where
      go : (k : Copy o.L) → r ≡ k → IsReached o (events_now past k) (world_now o d k)
      go (Striking c b t v) q = reach_event o past d (B t v) inv.reached inv.runs (can_abort x past d w c b t v (striking_inv c b t v q) (striking_runs c b t v q) sound)
      go k q = inv.reached

  pub runs_now : (world_now o d r).ended ≡ false
  runs_now = go r
    where
      go : (k : Copy o.L) → (world_now o d k).ended ≡ false
      go (Striking c b t v) = inv.runs
      go k = inv.runs

  -- Each task has written what the original's has.
  pub output_now : (t : ℕ) → t < o.p.size → out_of x (w.tasks t).local ≡ o.out ((world_now o d r).tasks t).local
  output_now t l = same_output x (book_of r) w.tasks d.tasks r t (inv.seats t l) ∙ sym (go r refl)
    where
      go : (k : Copy o.L) → r ≡ k → o.out ((world_now o d k).tasks t).local ≡ o.out (d.tasks t).local
      go (Striking c b u v) q = abort_outputs x past d w c b u v (striking_inv c b u v q) (striking_runs c b u v q) sound t
      go k q = refl

  -- ---- the record

  no_part : (part rest : List ℕ) → part ++ rest ≡ [] → part ≡ []
  no_part [] rest h = refl
  no_part (y ∷ part) rest h = absurd (let q : ◌≡◌ {A = List ℕ} (y ∷ (part ++ rest)) [] = h in cc)

  nothing_part : IsPart x.lines []
  nothing_part = (Z, concat (x.lines.front Z), refl)

  part_of : (line : Option Event) (part : List ℕ) (left : List (List ℕ)) → part ++ concat left ≡ concat (pieces x.lines line) → IsPart x.lines part
  part_of None part left h = subst (IsPart x.lines) (sym (no_part part (concat left) h)) nothing_part
  part_of (Some e) part left h = (e, concat left, h)

  whole : (events now : List Event) → events ≡ now → IsRecord x.lines (text x.lines events) now
  whole events now q = Written [] (ap (text x.lines) q ∙ sym (append-nil (text x.lines now))) nothing_part

  -- What the recorder has written is a record of the events.
  pub record_now : IsRecord x.lines (out_of x (w.tasks (recorder x)).local) (events_now past r)
  record_now = subst (λ bytes. IsRecord x.lines bytes (events_now past r)) (ap (λ (y : Seat (Copy o.L)). out_of x y.local) (sym inv.at)) (go r inv.records)
    where
      go : (k : Copy o.L) → RecorderAt x past w.tasks k → IsRecord x.lines (out_of x k) (events_now past k)
      go Opening h = Unwritten refl h
      go (Recording b) h = whole b.events past h
      go (Writing c b note done left) h = Written done (ap (λ es. text x.lines es ++ done) h.0) (part_of (line_of b note) done left h.3)
      go (Striking c b t v) h = whole (b.events ++ (B t v ∷ [])) (past ++ (B t v ∷ [])) (ap (λ es. es ++ (B t v ∷ [])) h.0)
      go (Noted c answer b) h = whole b.events past h.0
      go k h = absurd h

  -- ---- the original's runs

  pub run_there : RunsTo o (events_now past r) (world_now o d r)
  run_there = run_to o (events_now past r) (world_now o d r) reached_now

  pub can_end : w.ended ≡ true → happens o.p (world_now o d r).tasks Z ≡ true
  can_end h = let k = inv.ends h in subst (λ s. happens o.p (world_now o d s).tasks Z ≡ true) (sym k.1.1) k.0

  pub end_there : w.ended ≡ true → RunsTo o (events_now past r ++ (Z ∷ [])) (moved o.p (world_now o d r) (Happen Z))
  end_there h = run_to o (events_now past r ++ (Z ∷ [])) (moved o.p (world_now o d r) (Happen Z)) (reach_event o (events_now past r) (world_now o d r) Z reached_now runs_now (can_end h))

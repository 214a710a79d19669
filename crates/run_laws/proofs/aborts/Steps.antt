-- The recorder makes a local step.
use Rattle.std.proofs.Common.{◌≡◌, ◌++◌, true, false, List, [], ◌∷◌, append_assoc, refl, sym, ◌∙◌, subst, true≢false}
use Rattle.std.specs.List.{concat}
use Rattle.event_machine.specs.declared.Event.{Event}
use Rattle.event_machine.specs.States.{live}
use Rattle.event_machine.specs.Soundness.{IsSound}
use Rattle.event_machine.specs.Worlds.{World, Step, moved}
use Rattle.run_laws.specs.imitation.Imitations.{Original}
use Rattle.run_laws.proofs.replaying.Facts.{put}
use Rattle.run_laws.specs.aborts.Notes.{empty_book}
use Rattle.run_laws.specs.aborts.Copies.{Copy, Opening, Recording, Writing, Striking, Noted, copy_steps, copy_stepped}
use Rattle.run_laws.specs.aborts.Settings.{Setting, recorder, twin, IsProperCopy}
use Rattle.run_laws.specs.aborts.inner.Beside.{Inv, IsBeside}
use Rattle.run_laws.proofs.aborts.Silently.{silent_step, step_served}
use Rattle.run_laws.proofs.aborts.Lines.{line_done}

module _ {o : Original} (x : Setting o) (past : List Event) (d : World o.L) (w : World (Copy o.L)) (runs : w.ended ≡ false) (sound : IsSound (twin x).ops (IsProperCopy o) w.tasks) where
  -- the world after its step
  step_is : (r : Copy o.L) → Inv x past r d w → record { tasks = put w.tasks (recorder x) (live (copy_stepped o.p r)); ended = w.ended } ≡ moved (twin x) w (Step (recorder x))
  step_is r inv = λ j. record { tasks = put w.tasks (recorder x) (live (copy_stepped o.p (sym inv.at j).local)); ended = w.ended }

  stepped_to : (r : Copy o.L) → Inv x past r d w → copy_steps o.p r ≡ true → IsBeside x (record { tasks = put w.tasks (recorder x) (live (copy_stepped o.p r)); ended = w.ended })
  stepped_to Opening inv can = record {
    past = past;
    r = Recording empty_book;
    d = d;
    inv = silent_step x past Opening (Recording empty_book) d w inv runs refl refl refl
        (λ t k h. absurd h) (sym inv.records);
  }
  stepped_to (Writing c b note done []) inv can = line_done x past d w c b note done inv runs sound
  stepped_to (Writing c b note done (piece ∷ left)) inv can =
      let r : Copy o.L = Writing c b note done (piece ∷ left) in
      let r' : Copy o.L = Writing c b note (done ++ piece) left in
      record {
        past = past;
        r = r';
        d = d;
        inv = silent_step x past r r' d w inv runs refl refl refl (λ t k h. (h, refl))
            (inv.records.0, inv.records.1, step_served x past r r' d w inv runs c inv.records.1 inv.records.2, append_assoc done piece (concat left) ∙ inv.records.3);
      }
  stepped_to (Recording b) inv can = absurd (true≢false (sym can))
  stepped_to (Striking c b t v) inv can = absurd (true≢false (sym can))
  stepped_to (Noted c answer b) inv can = absurd (true≢false (sym can))
  stepped_to r inv can = absurd inv.records

  pub recorder_steps : (r : Copy o.L) → Inv x past r d w → copy_steps o.p r ≡ true → IsBeside x (moved (twin x) w (Step (recorder x)))
  recorder_steps r inv can = subst (IsBeside x) (step_is r inv) (stepped_to r inv can)

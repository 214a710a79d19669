-- The recorder makes a local step by which no line ends, or one of an abort: the original does nothing.
use Rattle.std.proofs.Common.{◌≡◌, ℕ, ◌<◌, ◌==◌, false, List, refl, sym, ap, ◌∙◌, true≢false}
use Rattle.event_machine.specs.declared.Standing.TheVariants.{Served}
use Rattle.event_machine.specs.declared.Event.{Event}
use Rattle.event_machine.specs.States.{Seat, live}
use Rattle.event_machine.specs.Worlds.{World}
use Rattle.run_laws.specs.imitation.Imitations.{Original}
use Rattle.run_laws.proofs.replaying.Facts.{below_apart, put, put_self, put_other}
use Rattle.run_laws.specs.aborts.Notes.{Book}
use Rattle.run_laws.specs.aborts.Copies.{Copy}
use Rattle.run_laws.specs.aborts.Settings.{Setting, recorder}
use Rattle.run_laws.specs.aborts.inner.Beside.{book_of, heard, Hears, RecorderAt, Inv}
use Rattle.run_laws.proofs.aborts.Reading.{is_linked}
use Rattle.run_laws.proofs.aborts.Frames.{touch_inv}
use Rattle.run_laws.proofs.aborts.Singles.{one_begun, one_over}
use Rattle.common_lemmas.proofs.Numbers.{unequal_above}

module _ {o : Original} (x : Setting o) (past : List Event) where
  module _ (r r' : Copy o.L) (d : World o.L) (w : World (Copy o.L)) (inv : Inv x past r d w) (runs : w.ended ≡ false) where
    abbrev pub step_tasks : ℕ → Seat (Copy o.L)
    step_tasks = put w.tasks (recorder x) (live r')

    step_other : (u : ℕ) → (u == recorder x) ≡ false → step_tasks u ≡ w.tasks u
    step_other u q = put_other w.tasks (recorder x) u (live r') q

    pub silent_step : is_linked r ≡ false → is_linked r' ≡ false → book_of r' ≡ book_of r → ((t : ℕ) (k : Copy o.L) → Hears x r t k → Hears x r' t k × (heard x r k ≡ heard x r' k)) →
        RecorderAt x past step_tasks r' → Inv x past r' d (record { tasks = step_tasks; ended = w.ended })
    silent_step plain plain' same hears records = touch_inv x past past r r' d d w (record { tasks = step_tasks; ended = w.ended }) inv (record {
      touched = λ u. u == recorder x;
      same = λ u q. record { there = step_other u q; here = refl; met = ap (λ (b : Book). b.met u) same; acceptor = ap (λ (b : Book). b.acceptor u) same };
      closed = λ u h. h;
      hears = λ t k q h. hears t k h;
      seats = λ t l q. absurd (true≢false (sym q ∙ below_apart t (recorder x) l));
      gone = λ t l. ap (λ (b : Book). b.gone t) same ∙ inv.gone t l;
      serves = λ a t l q. absurd (true≢false (sym q ∙ below_apart t (recorder x) l));
      begun = one_begun x past r d w inv (recorder x) r inv.at plain (live r') plain' (λ u. refl);
      over = one_over x past r d w inv (recorder x) r inv.at plain (live r') plain' (λ u. refl) d.tasks (λ u q. refl);
      reached = inv.reached;
      runs = inv.runs;
      ends = λ h. absurd (true≢false (sym h ∙ runs));
      at = put_self w.tasks (recorder x) (live r');
      records = records;
      beyond = λ t l. unequal_above t (recorder x) l;
    })

    -- who is served by the recorder still is
    pub step_served : (c : ℕ) → c < o.p.size → (w.tasks c).standing ≡ Served (recorder x) false → (step_tasks c).standing ≡ Served (recorder x) false
    step_served c l h = ap (λ (y : Seat (Copy o.L)). y.standing) (step_other c (below_apart c (recorder x) l)) ∙ h

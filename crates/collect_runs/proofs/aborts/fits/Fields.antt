-- What the law of collecting asks of a legal program's normal form beside what it asks without aborts, in the words of its record.
use Rattle.std.proofs.Common.{◌≡◌, ℕ, ℤ, ◌<◌, true, false, List, ◌∷◌, ap, sym, subst}
use Rattle.event_machine.specs.declared.Standing.TheVariants.{Live, Served}
use Rattle.event_machine.specs.Offers.{Finishes}
use Rattle.event_machine.specs.Programs.{Program}
use Rattle.event_machine.specs.Worlds.{World, aborts}
use Rattle.ada_tree.specs.PlainProgram.{PProgram}
use Rattle.task_model.specs.Frames.{callers_in}
use Rattle.task_model.specs.Tasks.{Task}
use Rattle.task_model.specs.Stands.{offer_of}
use Rattle.normal_laws.specs.existence.Laws.{IsLegalOriginal}
use Rattle.replay_runs.specs.controls.meanings.Settings.{form_opening}
use Rattle.collect_runs.specs.imitating.Settings.{IsMade}
use Rattle.collect_runs.specs.aborts.telling.Texts.{Texts, plain, program_of}
use Rattle.collect_runs.specs.aborts.telling.Forms.{ComesBack}
use Rattle.collect_runs.proofs.aborts.fits.Worlds.{form_by_number}
use Rattle.collect_runs.proofs.aborts.fits.Copies.{aborts-tasks, copies-fit}

-- of texts whose normal form is that of the program
module _ (p : PProgram) (inputs : List (List ℤ)) (h : IsLegalOriginal p) (x : Texts) (same : program_of x ≡ form_by_number p) (w : World Task)
    (made : IsMade (plain x) (form_opening p inputs) w) (runs : w.ended ≡ false) where
  -- A free task aborts tasks beside main that are in front of the recorder (9.10).
  pub aborts-them : (t v : ℕ) → (w.tasks t).standing ≡ Live → aborts v (offer_of (w.tasks t).local) ≡ true → (0 < v) × (v < x.recorder)
  aborts-them t v live is =
      let one = aborts-tasks p inputs h (plain x) same w made t v live is in
      (one.0, subst (λ (n : ℕ). v < n) (sym (ap (λ (q : Program Task). q.size) same)) one.1)

  -- Where a rendezvous is to end, what comes back fits the variables of its caller (6.4.1, 9.5).
  pub copies-fit-there : (a t : ℕ) (outer : List ℕ) → (w.tasks a).standing ≡ Live → offer_of (w.tasks a).local ≡ Finishes →
      callers_in (w.tasks a).local.control ≡ t ∷ outer → (w.tasks t).standing ≡ Served a false →
      ComesBack (w.tasks t).local (w.tasks a).local
  copies-fit-there a t outer live finishes callers served = copies-fit p inputs h (plain x) same w made a t outer live finishes callers served

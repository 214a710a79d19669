-- The recorder takes notes.
use Rattle.std.proofs.Common.{◌≡◌, ℕ, [], ◌∷◌, None, false, refl, sym, ap, subst}
use Rattle.event_machine.specs.Offers.{Finishes, Aborts}
use Rattle.ada_value.specs.declared.values.Value.TheVariants.{Truth}
use Rattle.task_model.specs.Frames.{callers_in}
use Rattle.task_model.specs.Tasks.{Task}
use Rattle.task_model.specs.Stands.{offered, steps_at, name_stand}
use Rattle.task_model.specs.Rendezvous.{finished, pending_of, finals_of, past_name}
use Rattle.table_law.specs.States.{Comes, Offers}
use Rattle.run_laws.specs.aborts.Notes.{Book, ToAbort, recorded}
use Rattle.collect_runs.specs.aborts.recorder.Recorders.{Recorder, IsRecorder}
use Rattle.collect_runs.specs.aborts.recorder.States.{waiting, IsStriking, IsNoted}
use Rattle.collect_runs.specs.aborts.recorder.Laws.{TakesNotes, RecordersTakeNotes}
use Rattle.collect_runs.proofs.aborts.recorder.Hearing.{hears}
use Rattle.collect_runs.proofs.aborts.recorder.Starting.{starts, waits, goes-on}

module _ (k : Recorder) (note : ℕ) (h : IsRecorder k note) where
  strikes : (c a v : ℕ) (b : Book) (t : Task) → IsStriking k c b a v t → Offers t (Aborts v)
  strikes c a v b t at =
      subst (λ (u : Task). Offers u (Aborts v)) (sym at.is)
      (record { rests = ap (λ r. steps_at (name_stand r)) at.meant; offers = ap (λ r. offered (name_stand r)) at.meant })

  struck : (c a v : ℕ) (b : Book) (t : Task) → IsStriking k c b a v t → IsNoted k c false (recorded b (ToAbort a v)) (past_name t)
  struck c a v b t at = record { said = at.said; is = ap past_name at.is }

  takes : TakesNotes k note
  takes = record {
    starts = starts k note h;
    waits = waits k note h;
    hears = λ b n c teller l tells. hears k note h b c n teller l tells;
    recorded_abort = λ c a v b t at. ap (λ (u : Task). u.output) at.is;
    strikes = strikes;
    strikes_for = λ c a v b t at. ap (λ (u : Task). callers_in u.control) at.is;
    struck = struck;
    recorded_all = λ c answer b t at. ap (λ (u : Task). u.output) at.is;
    ends = λ c answer b t at. subst (λ (u : Task). Offers u Finishes) (sym at.is) (record { rests = refl; offers = refl });
    callers = λ c answer b t at. ap (λ (u : Task). callers_in u.control) at.is;
    hands = λ c answer b t at. subst (λ (u : Task). (pending_of u ≡ None) × (finals_of u ≡ Truth answer ∷ [])) (sym at.is) (refl, refl);
    goes_on = λ c answer b t at. subst (λ (u : Task). Comes (finished u) (waiting k b)) (sym at.is) (goes-on k c at.said (Truth answer) b);
  }

pub recorders_take_notes : RecordersTakeNotes
recorders_take_notes = takes

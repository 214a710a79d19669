-- The recorder takes notes.
use Rattle.std.proofs.Common.{◌≡◌, ℕ, List, [], ◌∷◌, ◌++◌, None, append-nil, refl, sym, ap, ◌∙◌, subst}
use Rattle.event_machine.specs.Offers.{Finishes}
use Rattle.ada_value.specs.declared.values.Value.TheVariants.{Truth}
use Rattle.task_model.specs.Frames.{callers_in}
use Rattle.task_model.specs.Tasks.{Task}
use Rattle.task_model.specs.Rendezvous.{finished, pending_of, finals_of}
use Rattle.table_law.specs.States.{Comes, Offers}
use Rattle.run_laws.specs.collecting.Notes.{Note, Book, text}
use Rattle.collect_runs.specs.recorder.Recorders.{Recorder, IsRecorder}
use Rattle.collect_runs.specs.recorder.States.{lines_of, waiting, IsWriting, AtLine, AtCall, AtTest}
use Rattle.collect_runs.specs.recorder.Laws.{TakesNotes, RecordersTakeNotes}
use Rattle.collect_runs.proofs.recorder.Hearing.{hears}
use Rattle.collect_runs.proofs.recorder.Ending.{writes, ends-line}
use Rattle.collect_runs.proofs.recorder.Starting.{starts, waits, goes-on}

module _ (k : Recorder) (note : ℕ) (h : IsRecorder k note) where
  written : (c : ℕ) (b : Book) (n : Note) (done : List ℕ) (left : List (List ℕ)) (t : Task) → IsWriting k c b n done left t → t.output ≡ text (lines_of k) b.events ++ done
  written c b n done left t (AtLine e other i ps is texts whole at) = ap (λ (u : Task). u.output) at
  written c b n done left t (AtCall subject other i is l none empty at) = ap (λ (u : Task). u.output) at ∙ sym (ap
      (λ (x : List ℕ). text (lines_of k) b.events ++ x) none ∙ append-nil (text (lines_of k) b.events))
  written c b n done left t (AtTest subject e z other i is l met none empty at) = ap (λ (u : Task). u.output) at ∙ sym (ap
      (λ (x : List ℕ). text (lines_of k) b.events ++ x) none ∙ append-nil (text (lines_of k) b.events))

  takes : TakesNotes k note
  takes = record {
    starts = starts k note h;
    waits = waits k note h;
    hears = λ b n c teller l tells. hears k note h b c n teller l tells;
    written = written;
    writes = λ c b n done piece left t at. writes k note h c b n done piece left t at;
    ends_line = λ c b n done t at. ends-line k note h c b n done t at;
    recorded_all = λ c answer b t at. ap (λ (u : Task). u.output) at.is;
    ends = λ c answer b t at. subst (λ (u : Task). Offers u Finishes) (sym at.is) (record { rests = refl; offers = refl });
    callers = λ c answer b t at. ap (λ (u : Task). callers_in u.control) at.is;
    hands = λ c answer b t at. subst (λ (u : Task). (pending_of u ≡ None) × (finals_of u ≡ Truth answer ∷ [])) (sym at.is) (refl, refl);
    goes_on = λ c answer b t at. subst (λ (u : Task). Comes (finished u) (waiting k b)) (sym at.is) (goes-on k c at.said (Truth answer) b (text (lines_of k) b.events) refl);
  }

pub recorders_take_notes : RecordersTakeNotes
recorders_take_notes = takes

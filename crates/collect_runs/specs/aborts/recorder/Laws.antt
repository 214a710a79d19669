-- What the recorder of a text with abort statements does, whoever tells it what (9.5, 9.10; this project's rule).
use Rattle.std.specs.Prelude.{◌≡◌, ℕ, pos, Bool, true, [], ◌∷◌, ◌++◌, None}
use Rattle.event_machine.specs.declared.Choice.TheVariants.{Accept, Terminate}
use Rattle.event_machine.specs.declared.Event.TheVariants.{B}
use Rattle.event_machine.specs.Offers.{Waits, Finishes, Aborts}
use Rattle.ada_value.specs.declared.values.Value.TheVariants.{Truth}
use Rattle.task_model.specs.Frames.{callers_in}
use Rattle.task_model.specs.Tasks.{Task}
use Rattle.task_model.specs.Stands.{can_step, stepped}
use Rattle.task_model.specs.Rendezvous.{accepted, finished, pending_of, finals_of, past_name}
use Rattle.table_law.specs.States.{Comes, Offers}
use Rattle.run_laws.specs.collecting.Notes.{text, pieces}
use Rattle.run_laws.specs.aborts.Notes.{Note, ToAbort, Book, empty_book, line_of, recorded}
use Rattle.std.specs.Prelude.{false}
use Rattle.collect_runs.specs.aborts.recorder.Recorders.{Recorder, last_of, IsRecorder}
use Rattle.collect_runs.specs.aborts.recorder.Telling.{Tells, IsWithin}
use Rattle.collect_runs.specs.aborts.recorder.States.{lines_of, written_of, starting, waiting, IsWriting, IsStriking, IsNoted}

-- The recorder takes notes. It writes a line piece by piece, one local step each (`IsWriting`); between that it makes local steps that write nothing.
pub record TakesNotes (k : Recorder) (note : ℕ) : Type 0 where
  -- its first step writes the header, and from there it comes to its wait
  pub starts : (can_step (starting k) ≡ true) × Comes (stepped (starting k)) (waiting k empty_book)
  pub waits : (b : Book) → Offers (waiting k b) (Waits (Accept note (pos 0) ∷ Terminate ∷ []))
  -- as a task has told it this it comes to where it writes the line
  pub hears : (b : Book) (n : Note) (c : ℕ) (teller : Task) → IsWithin (last_of k) n → Tells teller n →
      (u : Task) × Comes (accepted note (pos 0) c teller (waiting k b)) u × IsWriting k c b n [] (pieces (lines_of k) (line_of b n)) u
  -- behind the line of an abort it has written that, and offers the abort, with that caller alone; and as the task is aborted it comes to the end
  pub recorded_abort : (c a v : ℕ) (b : Book) (t : Task) → IsStriking k c b a v t → t.output ≡ text (lines_of k) (b.events ++ B a v ∷ [])
  pub strikes : (c a v : ℕ) (b : Book) (t : Task) → IsStriking k c b a v t → Offers t (Aborts v)
  pub strikes_for : (c a v : ℕ) (b : Book) (t : Task) → IsStriking k c b a v t → callers_in t.control ≡ c ∷ []
  pub struck : (c a v : ℕ) (b : Book) (t : Task) → IsStriking k c b a v t → IsNoted k c false (recorded b (ToAbort a v)) (past_name t)
  -- at the end of its accept body it has written all lines, offers the end of the rendezvous, with that caller alone, and hands back the answer
  pub recorded_all : (c : ℕ) (answer : Bool) (b : Book) (t : Task) → IsNoted k c answer b t → t.output ≡ written_of k b
  pub ends : (c : ℕ) (answer : Bool) (b : Book) (t : Task) → IsNoted k c answer b t → Offers t Finishes
  pub callers : (c : ℕ) (answer : Bool) (b : Book) (t : Task) → IsNoted k c answer b t → callers_in t.control ≡ c ∷ []
  pub hands : (c : ℕ) (answer : Bool) (b : Book) (t : Task) → IsNoted k c answer b t → (pending_of t ≡ None) × (finals_of t ≡ Truth answer ∷ [])
  -- as the rendezvous has ended it comes to its wait
  pub goes_on : (c : ℕ) (answer : Bool) (b : Book) (t : Task) → IsNoted k c answer b t → Comes (finished t) (waiting k b)

-- So does each recorder whose program is as asked.
abbrev pub RecordersTakeNotes : Type 0
RecordersTakeNotes = (k : Recorder) (note : ℕ) → IsRecorder k note → TakesNotes k note

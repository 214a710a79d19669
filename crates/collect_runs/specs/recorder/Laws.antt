-- What the recorder does, whoever tells it what (9.5; this project's rule).
use Rattle.std.specs.Prelude.{◌≡◌, ℕ, pos, Bool, true, List, [], ◌∷◌, ◌++◌, None}
use Rattle.event_machine.specs.declared.Choice.TheVariants.{Accept, Terminate}
use Rattle.event_machine.specs.Offers.{Waits, Finishes}
use Rattle.ada_value.specs.declared.values.Value.TheVariants.{Truth}
use Rattle.task_model.specs.Frames.{callers_in}
use Rattle.task_model.specs.Tasks.{Task}
use Rattle.task_model.specs.Stands.{can_step, stepped}
use Rattle.task_model.specs.Rendezvous.{accepted, finished, pending_of, finals_of}
use Rattle.table_law.specs.States.{Comes, Offers}
use Rattle.run_laws.specs.collecting.Notes.{Note, Book, empty_book, line_of, answer_of, recorded, text, pieces}
use Rattle.collect_runs.specs.recorder.Recorders.{Recorder, IsRecorder}
use Rattle.collect_runs.specs.recorder.Telling.{Tells, IsWithin}
use Rattle.collect_runs.specs.recorder.States.{lines_of, starting, waiting, IsWriting, IsNoted}

-- The recorder takes notes. It writes a line piece by piece, one local step each; between that it makes local steps that write nothing.
pub record TakesNotes (k : Recorder) (note : ℕ) : Type 0 where
  -- its first step writes the header, and from there it comes to its wait
  pub starts : (can_step (starting k) ≡ true) × Comes (stepped (starting k)) (waiting k empty_book)
  pub waits : (b : Book) → Offers (waiting k b) (Waits (Accept note (pos 0) ∷ Terminate ∷ []))
  -- as a task has told it this it comes to where it writes the line
  pub hears : (b : Book) (n : Note) (c : ℕ) (teller : Task) → IsWithin k.last n → Tells teller n →
      (u : Task) × Comes (accepted note (pos 0) c teller (waiting k b)) u × IsWriting k c b n [] (pieces (lines_of k) (line_of b n)) u
  -- there it has written what is done of the line, and writes the next piece in one step
  pub written : (c : ℕ) (b : Book) (n : Note) (done : List ℕ) (left : List (List ℕ)) (t : Task) → IsWriting k c b n done left t → t.output ≡ text (lines_of k) b.events ++ done
  pub writes : (c : ℕ) (b : Book) (n : Note) (done piece : List ℕ) (left : List (List ℕ)) (t : Task) → IsWriting k c b n done (piece ∷ left) t →
      (can_step t ≡ true) × IsWriting k c b n (done ++ piece) left (stepped t)
  -- the next step ends the line, where there is one, and from there it comes to the end of its accept body, with the answer
  pub ends_line : (c : ℕ) (b : Book) (n : Note) (done : List ℕ) (t : Task) → IsWriting k c b n done [] t →
      (can_step t ≡ true) × ((u : Task) × Comes (stepped t) u × IsNoted k c (answer_of b n) (recorded b n) u)
  -- there it has written all lines, offers the end of the rendezvous, with that caller alone, and hands back the answer
  pub recorded_all : (c : ℕ) (answer : Bool) (b : Book) (t : Task) → IsNoted k c answer b t → t.output ≡ text (lines_of k) b.events
  pub ends : (c : ℕ) (answer : Bool) (b : Book) (t : Task) → IsNoted k c answer b t → Offers t Finishes
  pub callers : (c : ℕ) (answer : Bool) (b : Book) (t : Task) → IsNoted k c answer b t → callers_in t.control ≡ c ∷ []
  pub hands : (c : ℕ) (answer : Bool) (b : Book) (t : Task) → IsNoted k c answer b t → (pending_of t ≡ None) × (finals_of t ≡ Truth answer ∷ [])
  -- as the rendezvous has ended it comes to its wait
  pub goes_on : (c : ℕ) (answer : Bool) (b : Book) (t : Task) → IsNoted k c answer b t → Comes (finished t) (waiting k b)

-- So does each recorder whose program is as asked.
abbrev pub RecordersTakeNotes : Type 0
RecordersTakeNotes = (k : Recorder) (note : ℕ) → IsRecorder k note → TakesNotes k note

-- Which task of a collecting text with abort statements goes with which state of the law's copy (this project's rule).
use Rattle.std.specs.Prelude.{◌≡◌, ℕ, ◌<◌, suc, ◌≤◌, false, []}
use Rattle.event_machine.specs.declared.Standing.TheVariants.{Live, Completed}
use Rattle.event_machine.specs.States.{Seat, State}
use Rattle.task_model.specs.Tasks.{Task}
use Rattle.collect_runs.specs.telling.Meetings.{ComesTo}
use Rattle.run_laws.specs.aborts.Copies.{Copy, Based, Calling, Owing, Refusing, Leaving, Opening, Recording, Writing, Striking, Noted}
use Rattle.collect_runs.specs.aborts.recorder.States.{starting, waiting, IsWriting, IsStriking, IsNoted}
use Rattle.collect_runs.specs.aborts.telling.Texts.{Texts}
use Rattle.collect_runs.specs.aborts.telling.Forms.{Form}
use Rattle.collect_runs.specs.aborts.telling.Meetings.{IsBased, IsOwing, IsCalling, IsRefusing, IsLeaving}
use Rattle.collect_runs.specs.aborts.imitating.Settings.{Collecting}

module _ {x : Texts} (f : Form x) (c : Collecting x) where
  -- the task goes with this state of a task of the copy, or of its recorder
  abbrev pub MeetsCopy : Task → Copy Task → Type 0
  MeetsCopy κ (Based t σ) = IsBased f t σ κ
  MeetsCopy κ (Calling t σ) = IsCalling f t σ κ
  MeetsCopy κ (Owing t due σ) = IsOwing f t due σ κ
  MeetsCopy κ (Refusing t s σ) = IsRefusing f t s σ κ
  MeetsCopy κ (Leaving t σ) = IsLeaving f t σ κ
  MeetsCopy κ Opening = κ ≡ starting c.recorder
  MeetsCopy κ (Recording b) = κ ≡ waiting c.recorder b
  MeetsCopy κ (Writing t b n done left) = IsWriting c.recorder t b n done left κ
  MeetsCopy κ (Striking t b a v) = IsStriking c.recorder t b a v κ
  MeetsCopy κ (Noted t answer b) = IsNoted c.recorder t answer b κ

  -- The state opens the collecting text: each task comes to where it is beside the normal form's, and the recorder is at its start.
  pub record OpensText (at : State (ℕ → Seat Task)) : Type 0 where
    pub line : at.line ≡ []
    pub ended : at.ended ≡ false
    pub standing : (t : ℕ) → t < suc x.recorder → (at.seats t).standing ≡ Live
    pub beyond : (t : ℕ) → suc x.recorder ≤ t → (at.seats t).standing ≡ Completed
    pub tasks : (t : ℕ) → t < x.recorder → ComesTo (IsBased f t (c.opening.seats t).local) (at.seats t).local
    pub recorder : (at.seats x.recorder).local ≡ starting c.recorder

-- What a part of a command comes to that may write the output and does not touch the error output: what it answers, and what stands on the output then.
use Rattle.std.specs.Prelude.{◌≡◌, ℕ, List, Option, Some, None, Result, Ok, Err, ◌⊎◌}
use Rattle.ded_io.specs.Written.{Began}
use Rattle.debug_outcome.specs.Outcomes.{Outcome, writes, refuses}
use Rattle.debug_outcome.specs.Outputs.{IsWritten, IsBrokenOff, IsUntouched}
use Rattle.debug_outcome.specs.Refusals.{refusal_line, refusal_status, memory_line}
use Rattle.debug_outcome.specs.declared.refusal.Refusal.{Refusal}
use Rattle.debug_outcome.specs.declared.stopping.Stop.{Stop}
use Rattle.debug_outcome.specs.declared.stopping.Stop.TheVariants.{Refused, OutputFailed, Memory}

-- the outcome tells this refusal
abbrev pub IsRefusal : Option Refusal → Outcome → Type 0
IsRefusal (Some refusal) o = o ≡ refuses refusal
IsRefusal None o = ⊥

-- the stop for this refusal, or for want of memory where there is none
abbrev pub stop_by : Option Refusal → Stop
stop_by (Some refusal) = Refused refusal
stop_by None = Memory

-- no outcome: so for texts that are written once nothing more is needed for them
abbrev pub Never : Outcome → Type 0
Never o = ⊥

-- A stop before anything is put: a refusal that is called for, or want of memory.
abbrev pub Stops : (Outcome → Type 0) → Stop → Type 0
Stops CallsFor (Refused refusal) = CallsFor (refuses refusal)
Stops CallsFor OutputFailed = ⊥
Stops CallsFor Memory = Unit {0}

-- all of a text that is called for with this status was put
pub record HasPut (CallsFor : Outcome → Type 0) (out out' : Option (List ℕ)) (faults faults' : ℕ) (status : ℕ) : Type 0 where
  pub text : List ℕ
  pub called : CallsFor (writes text status)
  pub put : IsWritten out out' faults faults' text

-- a write failed behind a front of a text that is called for
pub record HasBroken (CallsFor : Outcome → Type 0) (out out' : Option (List ℕ)) (faults faults' : ℕ) : Type 0 where
  pub text : List ℕ
  pub status : ℕ
  pub called : CallsFor (writes text status)
  pub put : IsBrokenOff out out' faults faults' text

-- a front of such a text was put, and no write failed
pub record HasBegun (Grows : Outcome → Type 0) (out out' : Option (List ℕ)) (faults faults' : ℕ) : Type 0 where
  pub text : List ℕ
  pub status : ℕ
  pub called : Grows (writes text status)
  pub front : Began out out' text
  pub no_fault : faults' ≡ faults

-- The answer with what stands on the output: the status of a text that was put whole, a refusal, a write that failed, or want of memory, where a front may stand of a text that is written as it is found.
abbrev pub Comes : (Outcome → Type 0) → (Outcome → Type 0) → Option (List ℕ) → Option (List ℕ) → ℕ → ℕ → Result ℕ Stop → Type 0
Comes CallsFor Grows out out' faults faults' (Ok status) = HasPut CallsFor out out' faults faults' status
Comes CallsFor Grows out out' faults faults' (Err (Refused refusal)) = CallsFor (refuses refusal) × IsUntouched out out' faults faults'
Comes CallsFor Grows out out' faults faults' (Err OutputFailed) = HasBroken CallsFor out out' faults faults'
Comes CallsFor Grows out out' faults faults' (Err Memory) = IsUntouched out out' faults faults' ⊎ HasBegun Grows out out' faults faults'

-- A line is told with the status that is due, or a write of it failed behind a front of it, and the status is 7.
abbrev pub TellsLine : List ℕ → ℕ → Option (List ℕ) → Option (List ℕ) → ℕ → ℕ → ℕ → Type 0
TellsLine line due err err' faults faults' status =
    ((status ≡ due) × IsWritten err err' faults faults' line) ⊎ ((status ≡ 7) × IsBrokenOff err err' faults faults' line)

-- A stop is told by its line, and a failed output by its status alone.
abbrev pub Tells : Stop → Option (List ℕ) → Option (List ℕ) → ℕ → ℕ → ℕ → Type 0
Tells (Refused refusal) err err' faults faults' status = TellsLine (refusal_line refusal) (refusal_status refusal) err err' faults faults' status
Tells OutputFailed err err' faults faults' status = (status ≡ 7) × IsUntouched err err' faults faults'
Tells Memory err err' faults faults' status = TellsLine memory_line 9 err err' faults faults' status

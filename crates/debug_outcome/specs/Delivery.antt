-- How an outcome is delivered, the same for every command: whole, cut short by a write that failed, or cut short for want of memory (this project's rules).
use Rattle.std.specs.Prelude.{◌≡◌, ◌≢◌, ℕ, List, [], ◌++◌, Option, ◌⊎◌}
use Rattle.ded_io.specs.Told.{ToldFile}
use Rattle.debug_outcome.specs.Outcomes.{Outcome}
use Rattle.debug_outcome.specs.Outputs.{IsWritten, IsBrokenOff, IsUntouched}
use Rattle.debug_outcome.specs.Refusals.{memory_line}
use Rattle.debug_outcome.specs.Traces.{Load}

-- What is told of the files, the output and the error output before and behind a call, which loads it made, and how many calls of each had failed.
pub record Sides : Type 0 where
  pub files : Option (List ToldFile)
  pub file_faults : ℕ
  pub file_faults' : ℕ
  pub loads : List Load
  pub out : Option (List ℕ)
  pub out' : Option (List ℕ)
  pub out_faults : ℕ
  pub out_faults' : ℕ
  pub err : Option (List ℕ)
  pub err' : Option (List ℕ)
  pub err_faults : ℕ
  pub err_faults' : ℕ

-- All of it was put, and no write failed.
pub record IsWhole (o : Outcome) (s : Sides) (status : ℕ) : Type 0 where
  pub out : IsWritten s.out s.out' s.out_faults s.out_faults' o.out
  pub err : IsWritten s.err s.err' s.err_faults s.err_faults' o.err
  pub is : status ≡ o.status

-- A write of the output failed behind a front of its text; the outcome has no line, and the error output was not touched.
abbrev pub IsCutOut : Outcome → Sides → Type 0
IsCutOut o s = (o.err ≡ []) × IsBrokenOff s.out s.out' s.out_faults s.out_faults' o.out × IsUntouched s.err s.err' s.err_faults s.err_faults'

-- The outcome has a line, and a write of the error output failed behind a front of it; the output has the outcome's text.
abbrev pub IsCutErr : Outcome → Sides → Type 0
IsCutErr o s = (o.err ≢ []) × IsWritten s.out s.out' s.out_faults s.out_faults' o.out × IsBrokenOff s.err s.err' s.err_faults s.err_faults' o.err

-- A write failed, what was put is a front of the text, and the status is 7.
pub record IsCutShort (o : Outcome) (s : Sides) (status : ℕ) : Type 0 where
  pub where_it_failed : IsCutOut o s ⊎ IsCutErr o s
  pub is : status ≡ 7

-- the outcome was delivered, whole or up to a write that failed
abbrev pub IsDelivered : Outcome → Sides → ℕ → Type 0
IsDelivered o s status = IsWhole o s status ⊎ IsCutShort o s status

-- a front of the text of such an outcome
pub record IsFront (Grows : Outcome → Type 0) (front : List ℕ) : Type 0 where
  pub whole : Outcome
  pub called : Grows whole
  pub rest : List ℕ
  pub text : whole.out ≡ front ++ rest

-- For want of memory there is nothing, or a front of a text that is written as it is found, and the line that says so.
pub record LacksMemory (Grows : Outcome → Type 0) (o : Outcome) : Type 0 where
  pub front : (o.out ≡ []) ⊎ IsFront Grows o.out
  pub line : o.err ≡ memory_line
  pub is : o.status ≡ 9

-- The call ends with an outcome that is called for, or for want of memory with one cut short, and that is delivered. Of the texts that grow a front may stand then.
pub record Ends (CallsFor Grows : Outcome → Type 0) (s : Sides) (status : ℕ) : Type 0 where
  pub outcome : Outcome
  pub called : CallsFor outcome ⊎ LacksMemory Grows outcome
  pub delivered : IsDelivered outcome s status

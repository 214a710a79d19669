-- As what a file is told that is no sequence of a program, in one list or by tasks: the refusal for the fault of its first bad line (this project's rules).
use Rattle.std.specs.Prelude.{ℕ, List, Option, Some, None}
use Rattle.syn_event.specs.Numbering.{Numbering}
use Rattle.seq_file.specs.declared.errors.SeqError.{SeqError}
use Rattle.seq_file.specs.declared.errors.SeqError.TheVariants as error
use Rattle.seq_file.specs.Files.{HasFirstFault}
use Rattle.seq_file.specs.Lists.{HasFirstListFault}
use Rattle.debug_outcome.specs.Coming.{IsRefusal}
use Rattle.debug_outcome.specs.Outcomes.{Outcome}
use Rattle.debug_outcome.specs.declared.refusal.Refusal.{Refusal}
use Rattle.debug_outcome.specs.declared.refusal.Refusal.TheVariants.{BadSequence, TooMany}
use Rattle.debug_outcome.specs.declared.refusal.Listed.TheVariants.{Events}
use Rattle.debug_outcome.specs.declared.refusal.SequenceFault.TheVariants as fault

-- the refusal for each error of the reader of sequences; none for want of memory
abbrev pub refusal_of_sequence : SeqError → Option Refusal
refusal_of_sequence (error.BadLine line) = Some (BadSequence fault.BadLine line)
refusal_of_sequence (error.OtherProgram line) = Some (BadSequence fault.OtherProgram line)
refusal_of_sequence (error.BadNumber line) = Some (BadSequence fault.BadNumber line)
refusal_of_sequence (error.AfterEnd line) = Some (BadSequence fault.AfterEnd line)
refusal_of_sequence (error.TooMany limit) = Some (TooMany Events limit)
refusal_of_sequence error.Memory = None

-- The first bad line has a fault, as a sequence of the program with these names and numbers, and the outcome tells it.
pub record IsBadSequence (names : List (List ℕ)) (numbers : Numbering) (lines : List ℕ) (o : Outcome) : Type 0 where
  pub error : SeqError
  pub fault : HasFirstFault lines numbers names error
  pub told : IsRefusal (refusal_of_sequence error) o

-- The same of a file by tasks: its first bad line has a fault, as lists of events of that program, and the outcome tells it.
pub record IsBadLists (names : List (List ℕ)) (numbers : Numbering) (bytes : List ℕ) (o : Outcome) : Type 0 where
  pub error : SeqError
  pub fault : HasFirstListFault bytes numbers names error
  pub told : IsRefusal (refusal_of_sequence error) o

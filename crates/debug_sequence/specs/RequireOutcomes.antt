-- What a sequence and constraints come to: a line for each constraint, or the fault of the first bad line (this project's rules).
use Rattle.std.specs.Prelude.{◌≡◌, ℕ, ◌+◌, Bool, List, [], ◌∷◌, codes, decimal, Option, Some, None, is_some, if◌then◌else◌, ⊤, ◌⊎◌}
use Rattle.std.specs.List.{list_any}
use Rattle.ded_io.specs.Written.{◌⧺◌, each_text}
use Rattle.event_machine.specs.declared.Event.{Event}
use Rattle.syn_event.specs.EventText.{event_text}
use Rattle.syn_event.specs.Numbering.{Numbering}
use Rattle.seq_file.specs.text_lines.LineFiles.{HasFirstFault}
use Rattle.syn_constraint.specs.declared.constraints.Constraint.{Constraint}
use Rattle.syn_constraint.specs.declared.errors.ConError.{ConError}
use Rattle.syn_constraint.specs.declared.errors.ConError.TheVariants as error
use Rattle.syn_constraint.specs.Breaking.{event_at, IsFirstBreak}
use Rattle.syn_constraint.specs.Files.{constraint_format, ConstraintsRead}
use Rattle.debug_outcome.specs.Coming.{IsRefusal}
use Rattle.debug_outcome.specs.Outcomes.{Outcome, writes}
use Rattle.debug_outcome.specs.declared.refusal.Refusal.{Refusal}
use Rattle.debug_outcome.specs.declared.refusal.Refusal.TheVariants.{BadConstraints, TooMany}
use Rattle.debug_outcome.specs.declared.refusal.ConstraintFault.TheVariants as fault
use Rattle.debug_outcome.specs.declared.refusal.Listed.TheVariants as listed
use Rattle.debug_sequence.specs.declared.requiring.Broken.{Broken}
use Rattle.debug_sequence.specs.declared.requiring.Finding.{Finding}
use Rattle.debug_sequence.specs.Sequences.{ReadsAs, IsRefusedSequence}

-- ---- what is found of constraints

-- the first place whose event breaks the constraint, with that event; none where no event breaks it
abbrev pub IsFirstBroken : List Event → Constraint → Option Broken → Type 0
IsFirstBroken events constraint None = IsFirstBreak constraint events None
IsFirstBroken events constraint (Some broken) = IsFirstBreak constraint events (Some broken.place) × (event_at events broken.place ≡ Some broken.event)

-- this is found of the constraint of that number
pub record IsFinding (events : List Event) (number : ℕ) (constraint : Constraint) (finding : Finding) : Type 0 where
  pub numbered : finding.number ≡ number
  pub first : IsFirstBroken events constraint finding.broken

-- One finding for each constraint, in order; the first constraint has the number.
abbrev pub AreFindings : List Event → ℕ → List Constraint → List Finding → Type 0
AreFindings events number [] [] = ⊤
AreFindings events number (constraint ∷ constraints) (finding ∷ findings) = IsFinding events number constraint finding × AreFindings events (number + 1) constraints findings
AreFindings events number constraints findings = ⊥

-- ---- lines and status

-- the line of a constraint that holds
abbrev pub whole_line : ℕ → List ℕ
whole_line number = codes "holds " ⧺ (decimal number ⧺ codes "\n")

-- the line of a constraint that is broken: its number, the place, and the event there
abbrev pub broken_line : ℕ → Broken → List ℕ
broken_line number broken =
    codes "breaks " ⧺ (decimal number ⧺ (codes " at " ⧺ (decimal broken.place ⧺ (codes " " ⧺ (event_text broken.event ⧺ codes "\n")))))

-- the line of a constraint, by where it is broken first
abbrev pub line_by : ℕ → Option Broken → List ℕ
line_by number None = whole_line number
line_by number (Some broken) = broken_line number broken

abbrev pub finding_line : Finding → List ℕ
finding_line finding = line_by finding.number finding.broken

abbrev pub is_broken : Finding → Bool
is_broken finding = is_some finding.broken

-- 14 where a constraint is broken, else 0
abbrev pub findings_status : List Finding → ℕ
findings_status findings = if list_any is_broken findings then 14 else 0

-- The outcome tells of each constraint, in order, whether and where first it is broken.
pub record AreTold (events : List Event) (constraints : List Constraint) (o : Outcome) : Type 0 where
  pub findings : List Finding
  pub are : AreFindings events 1 constraints findings
  pub is : o ≡ writes (each_text finding_line findings) (findings_status findings)

-- ---- the bytes of the two files

-- the refusal for each error of the reader of constraints; none for want of memory
abbrev pub refusal_of_constraints : ConError → Option Refusal
refusal_of_constraints (error.BadLine line) = Some (BadConstraints fault.BadLine line)
refusal_of_constraints (error.BadNumber line) = Some (BadConstraints fault.BadNumber line)
refusal_of_constraints (error.TooMany limit) = Some (TooMany listed.Constraints limit)
refusal_of_constraints error.Memory = None

-- The first bad line of the constraints has a fault, and the outcome tells it.
pub record AreBadConstraints (numbers : Numbering) (bytes : List ℕ) (o : Outcome) : Type 0 where
  pub error : ConError
  pub fault : HasFirstFault (constraint_format numbers) bytes error
  pub told : IsRefusal (refusal_of_constraints error) o

-- The bytes are constraints, and the outcome tells of each of them.
pub record AreReadAndTold (numbers : Numbering) (events : List Event) (bytes : List ℕ) (o : Outcome) : Type 0 where
  pub constraints : List Constraint
  pub reads : ConstraintsRead numbers bytes constraints
  pub told : AreTold events constraints o

-- The bytes of constraints call for this outcome, where these are the events.
abbrev pub RequiresBytes : Numbering → List Event → List ℕ → Outcome → Type 0
RequiresBytes numbers events bytes o = AreReadAndTold numbers events bytes o ⊎ AreBadConstraints numbers bytes o

-- The lines are a sequence of the program, in either format, and the constraints call for the outcome for its events, whether they can happen or not.
pub record IsRequired (names : List (List ℕ)) (numbers : Numbering) (lines bytes : List ℕ) (o : Outcome) : Type 0 where
  pub events : List Event
  pub reads : ReadsAs lines numbers names events
  pub required : RequiresBytes numbers events bytes o

-- The lines of a sequence and the bytes of constraints call for this outcome: a fault of the sequence goes before one of the constraints.
abbrev pub RequiresLines : List (List ℕ) → Numbering → List ℕ → List ℕ → Outcome → Type 0
RequiresLines names numbers lines bytes o = IsRequired names numbers lines bytes o ⊎ IsRefusedSequence names numbers lines o

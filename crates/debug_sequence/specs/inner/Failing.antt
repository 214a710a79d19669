-- The refusals for the errors of joining and of splitting, and which of them come there; none for want of memory, and for an error that does not come there.
use Rattle.std.specs.Prelude.{◌+◌, ◌-◌, ◌^◌, ◌<◌, ⊤, Option, Some, None}
use Rattle.syn_order.specs.declared.errors.OrderError.{OrderError}
use Rattle.syn_order.specs.declared.errors.OrderError.TheVariants as error
use Rattle.debug_outcome.specs.declared.refusal.Refusal.{Refusal}
use Rattle.debug_outcome.specs.declared.refusal.Refusal.TheVariants.{BadSequence, NoOrder}
use Rattle.debug_outcome.specs.declared.refusal.SequenceFault.TheVariants.{BadOrder}

-- lists that are not joined
abbrev pub refusal_of_join : OrderError → Option Refusal
refusal_of_join (error.NoOrder task) = Some (NoOrder task)
refusal_of_join (error.NotAdmitted place) = None
refusal_of_join error.Memory = None

-- events that are not split: the line is one more than the place, since the header is the first line
abbrev pub refusal_of_split : OrderError → Option Refusal
refusal_of_split (error.NotAdmitted place) = Some (BadSequence BadOrder (place + 1))
refusal_of_split (error.NoOrder task) = None
refusal_of_split error.Memory = None

-- the error is one of joining
abbrev pub IsOfJoining : OrderError → Type 0
IsOfJoining (error.NoOrder task) = ⊤
IsOfJoining (error.NotAdmitted place) = ⊥
IsOfJoining error.Memory = ⊤

-- the error is one of splitting, and the line of an event that is not admitted has a number of 32 bits
abbrev pub IsOfSplitting : OrderError → Type 0
IsOfSplitting (error.NotAdmitted place) = place < 2 ^ 32 - 1
IsOfSplitting (error.NoOrder task) = ⊥
IsOfSplitting error.Memory = ⊤

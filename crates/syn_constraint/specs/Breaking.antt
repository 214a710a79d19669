-- Where a sequence of events breaks a constraint: a relation on places, which count from 1, and on a value for `?` (this project's rule).
use Rattle.std.specs.Prelude.{◌≡◌, ◌<◌, ◌≤◌, ℕ, ℤ, zero, suc, true, List, slice_get, take, drop, count_by, Contains, Option, Some, None, ⊤}
use Rattle.event_machine.specs.declared.Event.{Event}
use Rattle.syn_constraint.specs.declared.constraints.Pattern.{Pattern}
use Rattle.syn_constraint.specs.declared.constraints.Constraint.{Constraint}
use Rattle.syn_constraint.specs.declared.constraints.Constraint.TheVariants.{Before, Most}
use Rattle.syn_constraint.specs.Matching.{numbers_of, matches}

-- the event at a place, if there is one
abbrev pub event_at : List Event → ℕ → Option Event
event_at events zero = None
event_at events (suc k) = slice_get events k

-- the event at the place matches the pattern, where `?` stands for the value
pub record MatchesAt (events : List Event) (pattern : Pattern) (value : Option ℤ) (k : ℕ) : Type 0 where
  pub event : Event
  pub there : event_at events k ≡ Some event
  pub matching : matches pattern value event ≡ true

-- how many events match the pattern behind the place i and up to the place k
abbrev pub count_between : List Event → Pattern → Option ℤ → ℕ → ℕ → ℕ
count_between events pattern value i k = count_by (matches pattern value) (drop i (take k events))

-- At the place stands an event that matches the later pattern, and at none before it one that matches the earlier pattern.
pub record ComesTooEarly (events : List Event) (early late : Pattern) (value : Option ℤ) (k : ℕ) : Type 0 where
  pub comes : MatchesAt events late value k
  pub alone : (i : ℕ) → i < k → MatchesAt events early value i → ⊥

-- At the place stands an event that is counted. Before it stands one that opens, and up to the place none that closes, and more than the limit that are counted.
pub record IsOneTooMany (events : List Event) (limit : ℕ) (counted opens closes : Pattern) (value : Option ℤ) (k : ℕ) : Type 0 where
  pub counts : MatchesAt events counted value k
  pub opening : ℕ
  pub before : opening < k
  pub opened : MatchesAt events opens value opening
  pub unclosed : (i : ℕ) → opening < i → i ≤ k → MatchesAt events closes value i → ⊥
  pub many : limit < count_between events counted value opening k

-- the event at the place breaks the constraint, where `?` stands for the value
abbrev pub BreaksWith : Constraint → List Event → Option ℤ → ℕ → Type 0
BreaksWith (Before early late) events value k = ComesTooEarly events early late value k
BreaksWith (Most limit counted opens closes) events value k = IsOneTooMany events limit counted opens closes value k

-- what `?` may stand for: a number of an event of the sequence, or nothing
abbrev pub IsValue : List Event → Option ℤ → Type 0
IsValue events None = ⊤
IsValue events (Some z) = (k : ℕ) × (event : Event) × (event_at events k ≡ Some event) × Contains (numbers_of event) z

-- The event at the place breaks the constraint, with something that `?` may stand for.
abbrev pub Breaks : Constraint → List Event → ℕ → Type 0
Breaks constraint events k = (value : Option ℤ) × IsValue events value × BreaksWith constraint events value k

-- The first place whose event breaks the constraint; none where no event does.
abbrev pub IsFirstBreak : Constraint → List Event → Option ℕ → Type 0
IsFirstBreak constraint events None = (k : ℕ) → Breaks constraint events k → ⊥
IsFirstBreak constraint events (Some k) = Breaks constraint events k × ((i : ℕ) → i < k → Breaks constraint events i → ⊥)

-- The progress by events knows what the law of replaying asks of one (this project's rule).
use Rattle.std.specs.Prelude.{◌≡◌, ℕ, ◌<◌, Bool, List}
use Rattle.event_machine.specs.declared.Event.{Event}
use Rattle.event_machine.specs.States.{Seat, State}
use Rattle.event_machine.specs.Lawful.{IsLawful}
use Rattle.event_machine.specs.Programs.{Program, numbered, IsOpening}
use Rattle.event_machine.specs.Worlds.{world_of}
use Rattle.event_machine.specs.progress.Known.{Known}
use Rattle.run_laws.specs.replaying.Copies.{Spots, IsNumbered, HasOwners, copy_ops, written}
use Rattle.run_laws.specs.replaying.Scripts.{Progress, IsProgress}
use Rattle.run_laws.specs.replaying.Rewritings.{Imitates, OpensSo, opening_copy}
use Rattle.run_laws.specs.replaying.Told.{IsYes, Original, setting}
use Rattle.run_laws.specs.telling.ByEvents.{by_events}

-- Where the tasks of a program keep the rules of tasks, what is known of events from its opening state on is so of each world that has been reached with them.
abbrev pub KnowsRuns : Type 0 → Type 0
KnowsRuns L =
    (p : Program L) (proper : L → Bool) → IsLawful p.ops (IsYes proper) →
    (opening : State (ℕ → Seat L)) → IsOpening (numbered p) opening → ((t : ℕ) → t < p.size → IsYes proper (opening.seats t).local) →
    IsProgress p (world_of opening) (by_events p.owner p.size)

-- the progress by events of this program
abbrev pub progress_of : {L : Type 0} → Original L → Progress Known
progress_of o = by_events o.p.owner o.p.size

-- The premises of the law of replaying are met together by the program and this sequence, with the progress by events: there are numbers, and the copy is
-- a rewritten program.
pub record IsMetByEvents {L : Type 0} (o : Original L) (s : List Event) : Type 0 where
  pub n : Spots
  pub numbers : IsNumbered n
  pub owner : ℕ → ℕ
  pub owners : HasOwners o.p.owner o.p.size n owner
  pub knows : IsProgress o.p (world_of o.opening) (progress_of o)
  pub imitates : Imitates (setting o n numbers owner owners (progress_of o) knows s) (copy_ops o.p.ops n) (written o.out) (λ k m. k ≡ m)
  pub opens : OpensSo (setting o n numbers owner owners (progress_of o) knows s) (copy_ops o.p.ops n) (written o.out) (λ k m. k ≡ m)
      (opening_copy (setting o n numbers owner owners (progress_of o) knows s))

-- They are met by every program with every sequence.
abbrev pub MetByEvents : Type 0 → Type 0
MetByEvents L = (o : Original L) (s : List Event) → IsMetByEvents o s

-- The project's script is the one that the law of replaying asks for (this project's rule).
use Rattle.std.specs.Prelude.{◌≡◌, ℕ, List, map}
use Rattle.event_machine.specs.declared.Event.{Event}
use Rattle.event_machine.specs.progress.Known.{known_at_start}
use Rattle.run_laws.specs.replaying.Permits.{Permit}
use Rattle.run_laws.specs.replaying.Scripts as law
use Rattle.run_laws.specs.telling.ByEvents.{by_events}
use Rattle.control_script.specs.Script.{script}
use Rattle.replay_runs.specs.script.Spelling.{kind, arg, index, spelled}

-- The script of a sequence is the law's script over the progress by events, spelled in numbers, operation by operation.
abbrev pub SpellsTheLaw : Type 0
SpellsTheLaw =
    (owner : ℕ → ℕ) (n : ℕ) (events : List Event) →
    script owner n events ≡ map spelled (law.script (by_events owner n) owner (known_at_start n) events)

-- Two permits that have the same numbers are one.
abbrev pub PermitsDiffer : Type 0
PermitsDiffer = (a b : Permit) → kind a ≡ kind b → arg a ≡ arg b → index a ≡ index b → a ≡ b

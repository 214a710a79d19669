-- The project's own progress: what events tell by themselves, as the law of replaying asks for it (this project's rule).
use Rattle.std.specs.Prelude.{ℕ, not, List, length, pred}
use Rattle.std.specs.List.{filter, range_with_len}
use Rattle.event_machine.specs.progress.Known.{Known, is_closed, known_at_start, admits, advanced}
use Rattle.run_laws.specs.replaying.Scripts.{Progress}

-- The tasks from 1 up that are not closed, in ascending order.
abbrev pub others : Known → List ℕ
others k = filter (λ t. not (is_closed k t)) (range_with_len 1 (pred (length k.parties)))

-- The progress by events of a program with n tasks, where `owner` gives the task that owns an entry.
abbrev pub by_events : (ℕ → ℕ) → ℕ → Progress Known
by_events owner n = record {
  start = known_at_start n;
  admits = λ k e. admits owner k e;
  advance = λ k e. advanced owner k e;
  others = others;
}

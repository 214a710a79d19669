use Rattle.std.proofs.Common.{◌≡◌, ◌==◌, ◌+◌, ◌&&◌, ℕ, take, position, option_map}
use Rattle.std.specs.HashMap.{get}
use Rattle.ada_static_rules.specs.StaticValue.{first_of_two}
use Rattle.task_links.specs.inner.Keys.{entry_eq}
use Rattle.task_links.proofs.task_names.keep_entries.Given as goal

-- the numbers of the entries so far are kept
abbrev pub invariant-loop-place : goal.invariant-loop-place
invariant-loop-place l = (q : ℕ × ℕ) → get entry_eq l.map q ≡ first_of_two (get entry_eq l.fn.map q) (option_map (λ k. k + 1) (position (λ info. (info.owner == q.0) && (info.name.0 == q.1)) (take l.place l.entries)))

use Rattle.std.proofs.Common.{◌≡◌, ◌==◌, ℕ, take, map, None, if◌then◌else◌}
use Rattle.ada_static_rules.specs.StaticValue.{first_of_two}
use Rattle.ada_tree.specs.PlainDecl.{plain_entry}
use Rattle.task_links.specs.inner.Made.{formals_at, formals_among}
use Rattle.task_links.proofs.entry_formals.keep_entries.Given as goal

-- the formals of so many entries are kept
abbrev pub invariant-loop-entry : goal.invariant-loop-entry
invariant-loop-entry l = (q : ℕ × ℕ) → formals_at l.kept q ≡ first_of_two (formals_at l.fn.kept q) (if l.unit == q.0 then formals_among l.names (map plain_entry (take l.entry-index l.entries)) q.1 else None)

use Rattle.std.proofs.Common.{◌≡◌, ◌++◌, map, take}
use Rattle.task_links.specs.inner.Made.{parameter_named}
use Rattle.task_links.proofs.formals.add_group.Given as goal

-- the formals of so many names are added
abbrev pub invariant-loop-word : goal.invariant-loop-word
invariant-loop-word l = l.parameters.items ≡ l.fn.parameters.items ++ map (parameter_named l.mode l.limits) (take l.word-index l.words)

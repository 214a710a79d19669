use Rattle.std.proofs.Common.{◌≡◌, ◌-◌, map, drop, length}
use Rattle.ada_tree.specs.PlainDecl.{PEntry, plain_entry}
use Rattle.ada_check.proofs.declaration_places.adding.entry_names.Given as goal

-- the names of the entries from behind
abbrev pub invariant-loop-done : goal.invariant-loop-done
invariant-loop-done l = l.names ≡ map (λ (e : PEntry). e.name.name) (map plain_entry (drop (length l.entries - l.done) l.entries))

use Rattle.std.proofs.Common.{◌≡◌, map, drop}
use Rattle.ada_tree.specs.PlainDecl.{plain_entry}
use Rattle.normal_lookups.specs.inner.Kept.{entry_named, seen_entry}
use Rattle.normal_lookups.proofs.entry_forms.entries_named.Given as goal

-- the entries from a place on stand there
abbrev pub invariant-loop-place : goal.invariant-loop-place
invariant-loop-place l = map seen_entry l.forms ≡ map entry_named (map plain_entry (drop l.place l.entries))

use Rattle.std.proofs.Common.{◌≡◌, drop, is_some}
use Rattle.std.specs.List.{list_any}
use Rattle.ada_static_rules.specs.Scope.{entry_named, entries_of}
use Rattle.ada_scopes.proofs.scope.Scope.is_entry_somewhere.Given as goal

-- none of the latest names has the entry
abbrev pub invariant-loop-place : goal.invariant-loop-place
invariant-loop-place l =
    list_any (λ s. is_some (entry_named (entries_of s.thing) l.id)) (drop l.place l.self.names) ≡ list_any (λ s. is_some (entry_named (entries_of s.thing) l.id)) l.self.names

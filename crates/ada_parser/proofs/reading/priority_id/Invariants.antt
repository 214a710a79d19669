use Rattle.std.proofs.Common.{◌≡◌, ◌+◌, codes, drop}
use Rattle.ada_phrase_parser.specs.Spelling.{id_of}
use Rattle.ada_parser.proofs.reading.priority_id.Given as goal

-- PRIORITY is none of the names gone by
abbrev pub invariant-loop-id : goal.invariant-loop-id
invariant-loop-id l = id_of l.names (codes "PRIORITY") ≡ l.id + id_of (drop l.id l.names) (codes "PRIORITY")

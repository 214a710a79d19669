use Rattle.std.proofs.Common.{◌≡◌, map, string_bytes}
use Rattle.collect_abort.proofs.Finding.{first_names}
use Rattle.collect_abort.proofs.finder.insert_all.Given as goal

abbrev pub invariant-loop-id : goal.invariant-loop-id
invariant-loop-id l = map string_bytes l.texts.keys ≡ first_names l.names l.id

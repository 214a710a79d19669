use Rattle.std.proofs.Common.{string_bytes}
use Rattle.ada_tree.proofs.Interning.{map-insert_key}
use Rattle.collect_abort.proofs.finder.insert_one.Goals as goal

pub returns : goal.returns
returns c = map-insert_key string_bytes _ _ _ _ c.in_ok-from_str.ensures.ok c.in_ok-insert.ensures.keys

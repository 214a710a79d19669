use Rattle.std.proofs.Common.{◌≡◌, length, map, take}
use Rattle.normal_model.specs.Names.{id_of}
use Rattle.replay_model.specs.Names.{double_text}
use Rattle.replay_asking.proofs.names.doubles.find_doubles.Given as goal

abbrev pub invariant-loop-i : goal.invariant-loop-i
invariant-loop-i l = record {
  ids : l.ids.items ≡ map (λ t. id_of l.names (double_text t)) (take l.i l.originals);
  beside : take (length l.names) l.beside ≡ l.names;
}

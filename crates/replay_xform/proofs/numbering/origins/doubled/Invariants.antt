use Rattle.std.proofs.Common.{◌≡◌, length, take}
use Rattle.replay_xform.specs.numbering.inner.Originals.{doubled}
use Rattle.replay_xform.proofs.numbering.origins.doubled.Given as goal

abbrev pub invariant-loop-info : goal.invariant-loop-info
invariant-loop-info l = record {
  entries : l.entries.items ≡ doubled l.names (take l.info-index l.all);
  beside : take (length l.names) l.beside ≡ l.names;
}

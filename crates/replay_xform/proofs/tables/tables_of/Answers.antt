use Rattle.std.proofs.Common.{map, ap, ◌∙◌}
use Rattle.normal_model.specs.Names.{id_of}
use Rattle.replay_model.specs.Names.{double_text}
use Rattle.replay_xform.proofs.tables.tables_of.Goals as goal

pub returns : goal.returns
returns c = record {
  added = c.in_ok-added.ensures.ids;
  doubles = c.in_ok-doubles.ensures.ids ∙ ap (map (λ t. id_of c.args.names.now (double_text t))) c.requires;
  other = c.in_ok-other.ensures.id;
  marks = c.in_ok-marks.ensures;
}

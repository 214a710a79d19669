use Rattle.std.proofs.Common.{◌∙◌}
use Rattle.ada_check.proofs.declaration_places.Declaring.{bodiless}
use Rattle.ada_check.proofs.declaration_places.tasks.refuse_bodiless.Goals as goal

pub returns : goal.returns
returns c = λ by around. c.refuse_if.ensures ∙ bodiless by around c.args.bodies.now c.args.unit.now.name c.args.span c.has.result c.has.ensures.numbered

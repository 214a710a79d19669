use Rattle.std.proofs.Common.{◌∙◌, ap, sym}
use Rattle.std.specs.Prelude.{◌==◌, position}
use Rattle.ada_static_rules.specs.StaticValue.{position_in}
use Rattle.ada_value.proofs.fixed.position_in.Goals as goal

pub returns-in-Enumeration-clause-place : goal.returns-in-Enumeration-clause-place
returns-in-Enumeration-clause-place c =
    c.place_among.ensures.place
    ∙ ap (position (λ n. n.0 == c.args.name.0)) c.as_slice.ensures
    ∙ ap (position_in c.args.name) (sym c.in-Enumeration.is)

use Rattle.std.proofs.Common.{◌∙◌, ap, sym}
use Rattle.std.specs.Prelude.{◌==◌, position}
use Rattle.ada_static_rules.specs.StaticValue.{position_in}
use Rattle.ada_scopes.proofs.values.named_values.place_in.Goals as goal

pub returns-in-Enumeration-clause-place : goal.returns-in-Enumeration-clause-place
returns-in-Enumeration-clause-place c =
    c.place_among.ensures.place
    ∙ ap (position (λ n. n.0 == c.args.id.0)) c.as_slice.ensures
    ∙ ap (position_in c.args.id) (sym c.in-Enumeration.is)

use Rattle.std.proofs.Common.{◌∙◌}
use Rattle.replay_xform.proofs.numbering.Spoken.{with-is}
use Rattle.replay_xform.proofs.numbering.origins.with_origin.Goals as goal

pub returns : goal.returns
returns c = λ all is.
    c.with_number.ensures
    ∙ with-is c.args.names.now c.origin_in-stands_for.ensures.names c.args.spoken.now c.args.info c.origin_in-stands_for.result c.origin_in-stands_for.ensures.origin all is

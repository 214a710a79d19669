use Rattle.std.proofs.Common.{ap, ◌∙◌}
use Rattle.normal_lookups.proofs.Statics.{all_known}
use Rattle.normal_lookups.proofs.static_names.static_names.Goals as goal

pub returns : goal.returns
returns c =
    all_known c.args.types.now c.new-known.result c.know_constants.new.known c.know_kinds.new.known c.deref.result.now c.deref-2.result.now
    c.new-known.ensures (c.deref.ensures.value ∙ ap (λ t. t.constants) c.types.view_is) (c.deref-2.ensures.value ∙ ap (λ t. t.kinds) c.types.view_is)
    c.in_ok-know_constants.ensures c.in_ok-know_kinds.ensures

use Rattle.std.proofs.Common.{ap, sym, ◌∙◌, option_map}
use Rattle.ada_tree.specs.PlainDecl.{plain_init}
use Rattle.ada_static_rules.specs.Demand.{for_scalar, for_array, initializes}
use Rattle.ada_static_rules.specs.Sites.{scalar_init_sites, array_init_sites}
use Rattle.ada_static_rules.specs.RefusedFirst.{refused_first}
use Rattle.ada_scopes.specs.Entries.{plain_range}
use Rattle.ada_decl_rules.specs.objects.inner.Initials.{holder_sites}
use Rattle.ada_static_rules.proofs.SoonerLaws.{sooner_none}
use Rattle.ada_static_rules.proofs.Meeting.{behind}
use Rattle.ada_decl_rules.proofs.objects.initials.walk_init.Goals as goal

pub returns-in-Scalar : goal.returns-in-Scalar
returns-in-Scalar c =
    let value = plain_init c.args.init.now in
    c.first.ensures
    ∙ behind (scalar_init_sites c.args.scope.now (option_map plain_range c.in-Scalar.range) value) c.args.scope.now (initializes for_scalar value) _ _ c.walk_scalar-values.ensures (c.refuse_list-list.ensures ∙ sym (sooner_none _))
    ∙ ap (λ h. refused_first (holder_sites c.args.scope.now h value)) (sym c.in-Scalar.is)

pub returns-in-Array : goal.returns-in-Array
returns-in-Array c =
    let value = plain_init c.args.init.now in
    c.first-in-Array.ensures
    ∙ behind (array_init_sites c.args.scope.now (option_map plain_range c.in-Array.part) value) c.args.scope.now (initializes (for_array (plain_range c.in-Array.index)) value) _ _ c.walk_array-values.ensures (c.refuse_short-short.ensures ∙ sym (sooner_none _))
    ∙ ap (λ h. refused_first (holder_sites c.args.scope.now h value)) (sym c.in-Array.is)

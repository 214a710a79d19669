use Rattle.std.proofs.Common.{ap, ◌∙◌, option_map}
use Rattle.ada_tree.specs.PlainExpr.{plain_expr}
use Rattle.ada_static_rules.specs.Sooner.{found}
use Rattle.ada_scopes.specs.Entries.{plain_range}
use Rattle.ada_expr_rules.specs.Known.{outlying}
use Rattle.ada_expr_rules.proofs.Knowing.{outside_met}
use Rattle.ada_expr_rules.proofs.ranges.refuse_outside.Goals as goal

pub returns : goal.returns
returns c =
    c.refuse_beyond.ensures
    ∙ ap (λ s. found 5 (outlying (option_map plain_range c.args.range) c.args.known s)) c.place.ensures
    ∙ outside_met c.args.scope.now (plain_expr c.args.e.now) (option_map plain_range c.args.range) c.args.known c.requires

use Rattle.std.proofs.Common.{ap, ◌∙◌}
use Rattle.std.specs.Prelude.{[], ◌∷◌, if◌then◌else◌}
use Rattle.ada_tree.specs.PlainStmt.{plain_target}
use Rattle.ada_static_rules.specs.Sooner.{found}
use Rattle.ada_entry_rules.proofs.WrittenTargets.{get_met}
use Rattle.ada_entry_rules.proofs.targets.refuse_get.Goals as goal

pub returns : goal.returns
returns c =
    c.refuse_if.ensures
    ∙ ap (λ b. found 3 (if b then c.args.target.now.name.span ∷ [] else [])) c.is_other.ensures
    ∙ get_met c.args.scope.now (plain_target c.args.target.now) c.args.kind c.requires

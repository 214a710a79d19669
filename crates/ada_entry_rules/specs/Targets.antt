-- What is told of what is written.
use Rattle.std.specs.Prelude.{◌≡◌}
use Rattle.ada_tree.specs.PlainStmt.{PTarget}
use Rattle.ada_static_rules.specs.Scope.{Scope}
use Rattle.ada_static_rules.specs.RuleMismatch.{target_kind}
use Rattle.ada_static_rules.specs.Sites.{target_sites}
use Rattle.ada_static_rules.specs.RefusedFirst.{refused_first}
use Rattle.ada_entry_rules.specs.declared.targets.WalkedTarget.{WalkedTarget}

-- its kind, and the first refusal at its places
pub record IsTarget (scope : Scope) (t : PTarget) (w : WalkedTarget) : Type 0 where
  pub kind_is : w.kind ≡ target_kind scope t
  pub refusal_is : w.refusal ≡ refused_first (target_sites scope t)

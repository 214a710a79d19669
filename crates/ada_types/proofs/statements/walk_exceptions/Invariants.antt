use Rattle.std.proofs.Common.{◌≡◌, take}
use Rattle.std.specs.Prelude.{flat_map}
use Rattle.ada_static_rules.specs.RefusedFirst.{refused_first}
use Rattle.ada_types.specs.inner.SitesOfMembers.{exception_sites}
use Rattle.ada_types.proofs.statements.walk_exceptions.Given as goal

abbrev pub invariant-loop-name : goal.invariant-loop-name
invariant-loop-name l = l.refusal ≡ refused_first (flat_map (exception_sites l.scope) (take l.name-index l.names))

use Rattle.std.proofs.Common.{◌≡◌, take}
use Rattle.ada_scopes.specs.Denotations.{plain_names}
use Rattle.ada_scopes.specs.inner.Before.{seen_last_first}
use Rattle.ada_scopes.proofs.predefined.first_names.Given as goal

-- the predefined names so far
abbrev pub invariant-loop-name : goal.invariant-loop-name
invariant-loop-name l = plain_names l.names ≡ seen_last_first (take l.name-index l.name-items)

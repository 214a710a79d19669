-- Rule BodyMissing: a task or task type has no body (9.1).
use Rattle.std.specs.Prelude.{◌==◌, if◌then◌else◌, List, [], ◌∷◌}
use Rattle.std.specs.List.{list_any}
use Rattle.ada_tree.specs.declared.naming.Span.{Span}
use Rattle.syn_event.specs.CheckScope.{CheckDemand, needs_body}

-- The declarations of tasks and task types without a body.
abbrev pub body_missing : CheckDemand → List Span
body_missing (needs_body bodies w s) = if list_any (λ n. n == w.name.0) bodies then [] else s ∷ []
body_missing _ = []

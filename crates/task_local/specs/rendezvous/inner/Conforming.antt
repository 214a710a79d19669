-- How the formals of an accept are compared with those of its entry, one after the other (9.5). No public clause speaks of it.
use Rattle.std.specs.Prelude.{Bool, true, false, ◌&&◌, ◌==◌, List, [], ◌∷◌, Option, Some, None}
use Rattle.std.specs.Ordering.{int_eq}
use Rattle.ada_static_rules.specs.RuleArgCount.{same_mode}
use Rattle.ada_value.specs.declared.values.Limits.{Limits}
use Rattle.task_model.specs.declared.parameters.FormalParameter.{FormalParameter}

-- two subtypes are the same
abbrev pub same_limits : Limits → Limits → Bool
same_limits a b = (a.kind == b.kind) && (int_eq a.first b.first && int_eq a.last b.last)

-- two formals are the same: in name, mode and subtype
abbrev pub is_alike : FormalParameter → FormalParameter → Bool
is_alike p q = (p.name.0 == q.name.0) && (same_mode p.mode q.mode && same_limits p.limits q.limits)

-- two lists of formals are the same
abbrev pub are_same : List FormalParameter → List FormalParameter → Bool
are_same [] [] = true
are_same [] (q ∷ qs) = false
are_same (p ∷ ps) [] = false
are_same (p ∷ ps) (q ∷ qs) = is_alike p q && are_same ps qs

-- the formals behind some are compared with those that are left, where there are such
abbrev pub are_same_behind : List FormalParameter → Option (List FormalParameter) → Bool
are_same_behind behind (Some rest) = are_same behind rest
are_same_behind behind None = false

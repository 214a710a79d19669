-- Rule Limit: a limit is passed, at the first part beyond it (this project's rule).
use Rattle.std.specs.Prelude.{ℕ, ◌+◌, ◌&&◌, nat_lt, nat_le, if◌then◌else◌, List, [], ◌∷◌, length, Option, Some, None}
use Rattle.ada_tree.specs.declared.naming.Span.{Span}
use Rattle.syn_event.specs.declared.numbering.Mode.{Mode}
use Rattle.syn_event.specs.declared.limits.What.{What}
use Rattle.syn_event.specs.declared.limits.What.TheVariants.{Name}
use Rattle.syn_event.specs.DeclaredTasks.{text_of}
use Rattle.syn_event.specs.Limits.{limit_of}
use Rattle.syn_event.specs.CheckScope.{CheckDemand, declares, counts}

-- the limit that is passed
pub record Over : Type 0 where
  pub what : What
  pub limit : ℕ

-- a place where one is passed
pub record OverAt : Type 0 where
  pub over : Over
  pub span : Span

-- with the parts here a limit is passed that those before keep to
abbrev pub limit_passed : What → Option ℕ → ℕ → ℕ → Span → List OverAt
limit_passed what (Some limit) before here s =
    if nat_le before limit && nat_lt limit (before + here) then record { over = record { what = what; limit = limit }; span = s } ∷ [] else []
limit_passed what None before here s = []

-- The places where a limit is passed.
abbrev pub over_limit : Mode → List (List ℕ) → CheckDemand → List OverAt
over_limit m names (declares w) = limit_passed Name (limit_of m Name) 0 (length (text_of names w.name)) w.span
over_limit m names (counts what before here s) = limit_passed what (limit_of m what) before here s
over_limit m names _ = []

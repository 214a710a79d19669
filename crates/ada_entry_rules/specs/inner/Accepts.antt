-- How the formals of an accept are compared with those of its entry, one after the other.
use Rattle.std.specs.Prelude.{Bool, false, ◌&&◌, ◌==◌, List, Option, Some, None}
use Rattle.ada_tree.specs.declared.naming.Word.{Word}
use Rattle.ada_tree.specs.PlainStmt.{PFormal}
use Rattle.ada_static_rules.specs.Scope.{FormalPart}
use Rattle.ada_static_rules.specs.RuleArgCount.{Written, same_mode, are_same}

-- one formal of an accept
abbrev pub written_of : PFormal → Word → Written
written_of f w = record { name = w.name; mode = f.mode; mark = f.mark.name }

abbrev pub is_alike : Written → FormalPart → Bool
is_alike w p = (w.name.0 == p.name.0) && (same_mode w.mode p.mode && (w.mark.0 == p.mark.0))

-- the formals behind some are compared with the parts that are left, where there are such
abbrev pub are_same_behind : List Written → Option (List FormalPart) → Bool
are_same_behind behind (Some rest) = are_same behind rest
are_same_behind behind None = false

-- Rule ExitPlace: an exit stands in no loop, names none of the loops around it, or leaves a loop around the accept in which it stands (5.7).
use Rattle.std.specs.Prelude.{Bool, true, false, ◌==◌, if◌then◌else◌, List, [], ◌∷◌, Option, Some, None}
use Rattle.std.specs.List.{list_any}
use Rattle.ada_tree.specs.declared.naming.NameId.{NameId}
use Rattle.ada_tree.specs.declared.naming.Span.{Span}
use Rattle.ada_tree.specs.declared.naming.Word.{Word}
use Rattle.syn_event.specs.CheckScope.{CheckScope, CheckDemand, exits}

-- the loop has that name; a loop without a name has not (5.7)
abbrev pub is_named : NameId → Option NameId → Bool
is_named name (Some n) = n.0 == name.0
is_named name None = false

-- a loop that an exit leaves: one of that name, or any where the exit has no name
abbrev pub is_left : Option Word → Option NameId → Bool
is_left (Some w) loop = is_named w.name loop
is_left None loop = true

-- The exits that leave no loop around them in the same accept.
abbrev pub exit_place : CheckScope → CheckDemand → List Span
exit_place around (exits w s) = if list_any (is_left w) around.loops then [] else s ∷ []
exit_place around _ = []

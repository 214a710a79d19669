-- Rule ReservedName: in an original a name is declared that is DED, begins with DED_ or has _DED_ in it (this project's rule). Such names are left to the rewriters, and so is DED, since the members of an array of that name would have names that begin with DED_.
use Rattle.std.specs.Prelude.{ℕ, Bool, false, ◌||◌, nat_eq, if◌then◌else◌, List, [], ◌∷◌, codes}
use Rattle.std.specs.List.{starts_with}
use Rattle.std.specs.Str.{bytes_eq}
use Rattle.ada_tree.specs.declared.naming.Span.{Span}
use Rattle.ada_tree.specs.declared.naming.Word.{Word}
use Rattle.syn_event.specs.declared.numbering.Mode.{Mode}
use Rattle.syn_event.specs.declared.numbering.Mode.TheVariants as mode
use Rattle.syn_event.specs.DeclaredTasks.{text_of}
use Rattle.syn_event.specs.CheckScope.{CheckDemand, declares}

-- _DED_ stands somewhere in the text
abbrev pub has_mark : List ℕ → Bool
has_mark [] = false
has_mark (b ∷ bs) = starts_with nat_eq (b ∷ bs) (codes "_DED_") || has_mark bs

-- the text of a name that is left to the rewriters
abbrev pub is_reserved : List ℕ → Bool
is_reserved text = starts_with nat_eq text (codes "DED_") || (has_mark text || bytes_eq text (codes "DED"))

-- the place of a declared name that is left to the rewriters, in an original
abbrev pub reserved_in : Mode → List (List ℕ) → Word → List Span
reserved_in mode.Original names w = if is_reserved (text_of names w.name) then w.span ∷ [] else []
reserved_in mode.Any names w = []

-- The declared names that are left to the rewriters.
abbrev pub reserved_name : Mode → List (List ℕ) → CheckDemand → List Span
reserved_name m names (declares w) = reserved_in m names w
reserved_name m names _ = []

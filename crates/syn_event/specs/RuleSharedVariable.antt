-- Rule SharedVariable: the body of a task names a variable or an array constant of main (this project's rule).
use Rattle.std.specs.Prelude.{List, [], ◌∷◌, Option, Some, None}
use Rattle.ada_tree.specs.declared.naming.Span.{Span}
use Rattle.syn_event.specs.declared.meanings.Meant.{Meant}
use Rattle.syn_event.specs.declared.meanings.Meant.TheVariants.{Shared}
use Rattle.syn_event.specs.CheckScope.{EnclosingUnit, CheckScope, meaning, CheckDemand, uses}

-- the place of a name that means a variable or an array constant of main; none of any other name
abbrev pub shared_name : Option Meant → Span → List Span
shared_name (Some Shared) s = s ∷ []
shared_name _ s = []

-- those places, where they stand in the body of a task; none where they stand in main
abbrev pub in_body_of : Option EnclosingUnit → List Span → List Span
in_body_of (Some unit) spans = spans
in_body_of None spans = []

-- The names of variables and array constants of main in bodies of tasks.
abbrev pub shared_variable : CheckScope → CheckDemand → List Span
shared_variable around (uses id s) = in_body_of around.own (shared_name (meaning around id) s)
shared_variable around _ = []

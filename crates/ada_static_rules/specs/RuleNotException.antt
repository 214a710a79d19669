-- Rule NotException: a name in a raise statement or in a handler is that of no exception (11.2, 11.3).
use Rattle.std.specs.Prelude.{List, [], ◌∷◌, Option, Some, None}
use Rattle.ada_tree.specs.declared.naming.Span.{Span}
use Rattle.ada_tree.specs.declared.naming.Word.{Word}
use Rattle.ada_static_rules.specs.Scope.{Scope, Thing, AnException, Unclear, meaning}
use Rattle.ada_static_rules.specs.Demand.{Demand, names_exception}

-- a name that is declared and means no exception
abbrev pub no_exception : Option Thing → Word → List Span
no_exception (Some AnException) w = []
no_exception (Some Unclear) w = []
no_exception (Some _) w = w.span ∷ []
no_exception None w = []

-- The names that are no exceptions.
abbrev pub not_exception : Scope → Demand → List Span
not_exception scope (names_exception w) = no_exception (meaning scope w.name) w
not_exception scope _ = []

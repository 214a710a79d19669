-- What the actuals of calls are beside their formals.
use Rattle.std.specs.Prelude.{List, [], ◌∷◌, ◌++◌, Option, Some, None}
use Rattle.ada_tree.specs.declared.naming.NameId.{NameId}
use Rattle.ada_tree.specs.PlainExpr.{PExpr, EName}
use Rattle.ada_static_rules.specs.Scope.{Scope, FormalPart}
use Rattle.ada_static_rules.specs.Demand.{must_be_of, Site}
use Rattle.ada_static_rules.specs.Sites.{site, expr_sites, actual_sites}

-- the name that an expression is alone
abbrev pub name_of : PExpr → Option NameId
name_of (EName id s) = Some id
name_of _ = None

-- the places of one actual beside its formal, where there is one
abbrev pub beside : Scope → Option FormalPart → PExpr → List Site
beside scope (Some f) e = actual_sites scope f.mode e ++ site scope (must_be_of e f.kind) ∷ []
beside scope None e = expr_sites scope e

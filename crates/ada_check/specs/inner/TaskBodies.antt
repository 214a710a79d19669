-- The places of a declaration that is the body of a task or task type, and the names of such bodies.
use Rattle.std.specs.Prelude.{ℕ, List, [], ◌∷◌, ◌++◌}
use Rattle.ada_tree.specs.declared.naming.Word.{Word}
use Rattle.ada_tree.specs.PlainStmt.{PBody}
use Rattle.ada_tree.specs.PlainDecl.{PDecl, DTaskBody, PDecls}
use Rattle.syn_event.specs.CheckScope.{CheckScope, CheckSite}
use Rattle.syn_event.specs.CheckSites.{in_body, own_sites, after_own, body_sites}

-- those of a body of a task or task type
abbrev pub task_body_sites : CheckScope → Word → PDecls → PBody → List CheckSite
task_body_sites around w objects its = own_sites (in_body around w) objects ++ body_sites (after_own (in_body around w) objects) 1 its

-- those of a declaration that is one
abbrev pub body_part : CheckScope → PDecl → List CheckSite
body_part around (DTaskBody w objects its s) = task_body_sites around w objects its
body_part around d = []

-- names with that of a declaration, where it is one
abbrev pub with_body : PDecl → List ℕ → List ℕ
with_body (DTaskBody w objects its s) names = w.name.0 ∷ names
with_body d names = names

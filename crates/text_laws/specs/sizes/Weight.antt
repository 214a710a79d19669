-- What the bodies of a program weigh together (this project's rule).
use Rattle.std.specs.Prelude.{ℕ, ◌+◌}
use Rattle.ada_tree.specs.PlainDecl.{PDecl, DTaskBody, PDecls, no_decl, decl_then}
use Rattle.ada_tree.specs.PlainProgram.{PProgram}
use Rattle.normal_laws.specs.existence.units.Weights.{body_weight}

-- the weight of the body that a declaration has
abbrev pub decl_weight : PDecl → ℕ
decl_weight (DTaskBody w ds b s) = body_weight b
decl_weight _ = 0

abbrev pub decls_weight : PDecls → ℕ
decls_weight no_decl = 0
decls_weight (decl_then x rest) = decl_weight x + decls_weight rest

-- The weight of all bodies of a program, its own and those of its tasks.
abbrev pub program_weight : PProgram → ℕ
program_weight p = decls_weight p.decls + body_weight p.body

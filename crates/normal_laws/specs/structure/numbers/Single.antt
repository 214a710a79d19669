-- Declarations of tasks without types (9.1).
use Rattle.std.specs.Prelude.{◌≡◌, false}
use Rattle.ada_tree.specs.PlainDecl.{PDecl, DTask}

-- no task type is declared
abbrev pub IsSingle : PDecl → Type 0
IsSingle (DTask t s) = t.of_kind ≡ false
IsSingle _ = Unit {0}

-- The names of a program that no rewriter makes (this project's rule).
use Rattle.std.specs.Prelude.{ℕ, Bool, not, ◌&&◌, nat_lt, length}
use Rattle.ada_tree.specs.PlainProgram.{PProgram}
use Rattle.syn_event.specs.DeclaredTasks.{text_of}
use Rattle.syn_event.specs.RuleReservedName.{is_reserved}

-- The id is that of one of the program's names, and that name is left to no rewriter. Of the program's own names it lacks those with _DED_ in them
-- and DED, which a list of names may have where no text does.
abbrev pub plain_name : PProgram → ℕ → Bool
plain_name p n = nat_lt n (length p.names) && not (is_reserved (text_of p.names record { 0 = n }))

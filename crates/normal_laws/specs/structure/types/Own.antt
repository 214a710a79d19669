-- The names of a program that are its own (this project's rule).
use Rattle.std.specs.Prelude.{ℕ, Bool, not, ◌&&◌, nat_lt, length}
use Rattle.ada_tree.specs.PlainProgram.{PProgram}
use Rattle.syn_event.specs.AddedNames.{is_added_name}

-- The id is that of one of the program's names, and that name does not begin with DED_.
abbrev pub own_name : PProgram → ℕ → Bool
own_name p n = nat_lt n (length p.names) && not (is_added_name p.names record { 0 = n })

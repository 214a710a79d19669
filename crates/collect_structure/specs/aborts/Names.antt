-- The names of a collecting text of a program with abort statements, and those of a normal form that stay what they are in it (this project's rule).
use Rattle.std.specs.Prelude.{ℕ, Bool, not, ◌&&◌, nat_eq, List, get_or, codes}
use Rattle.std.specs.List.{list_any, starts_with}
use Rattle.ada_tree.specs.declared.naming.NameId.{NameId}
use Rattle.ada_tree.specs.PlainProgram.{PProgram}
use Rattle.syn_event.specs.DeclaredTasks.{text_of}
use Rattle.normal_model.specs.Names.{id_of}
use Rattle.collect_structure.specs.Names as collect
use Rattle.collect_model.specs.aborts.AbortTeller.{names_told}

-- The id that a text has in the text of a normal form.
abbrev pub added_id : PProgram → List ℕ → NameId
added_id q t = id_of (names_told q) t

-- The text begins as those of the recorder's further names and of the variables of places: with DED_A, DED_U, DED_Q or DED_R.
abbrev pub is_further : List ℕ → Bool
is_further t = starts_with nat_eq t (codes "DED_") && list_any (nat_eq (get_or t 4 0)) (codes "AUQR")

-- The id of a name of a normal form to which its collecting text gives no meaning, be there aborts or not.
abbrev pub kept_name : PProgram → ℕ → Bool
kept_name q n = collect.kept_name q n && not (is_further (text_of q.names record { 0 = n }))

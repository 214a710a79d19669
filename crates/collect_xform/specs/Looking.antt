-- What is looked up for a program before its collecting text is made.
use Rattle.std.specs.Prelude.{◌≡◌, ℕ, List}
use Rattle.task_model.specs.Setting.{Setting}
use Rattle.normal_parts.specs.Marking.{marks_of}
use Rattle.collect_model.specs.Names.{added_in}
use Rattle.collect_statements.specs.declared.reporter.Tables.{Tables}

-- Tables of a program, whose collecting text has these names.
pub record AreTables (g : Setting) (names : List (List ℕ)) (tables : Tables) : Type 0 where
  pub added : tables.added ≡ added_in names
  pub marks : tables.marks.items ≡ marks_of g

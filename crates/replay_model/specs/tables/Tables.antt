-- The objects of the controller: five constant arrays with one component for each operation that is made (3.2.1, 3.6, 4.3.2; this project's rule).
use Rattle.std.specs.Prelude.{ℕ, ℤ, true, List, [], ◌∷◌, map, length, Some}
use Rattle.ada_tree.specs.declared.naming.Span.{Span}
use Rattle.ada_tree.specs.PlainExpr.{EInteger, PDrange, RGiven}
use Rattle.ada_tree.specs.PlainDecl.{PShape, OArray, PInit, IList, IOthers, PDecl, DObject}
use Rattle.control_script.specs.declared.Op.{Op}
use Rattle.normal_model.specs.Ranges.{word_at, integer_subtype}
use Rattle.normal_model.specs.Members.{integer_literal}
use Rattle.replay_model.specs.declared.tables.columns.Column.{Column}
use Rattle.replay_model.specs.declared.tables.names.ControlNames.{ControlNames}
use Rattle.replay_model.specs.tables.Columns.{acts, columns, says, table_name}

-- `1 .. n`
abbrev pub up_to : Span → ℕ → PDrange
up_to s n = RGiven (record { first = EInteger 1 s; last = EInteger n s })

-- the value of a table; a list has two parts at least, so that of one operation says `others`. A negative number is `-n`, or INTEGER'FIRST
abbrev pub table_value : Span → List ℤ → PInit
table_value s (z ∷ []) = IOthers (integer_literal s z) s
table_value s zs = IList (map (integer_literal s) zs) s

-- `array (1 .. n) of INTEGER`
abbrev pub array_of : Span → ℕ → PShape
array_of s n = OArray (up_to s n) (integer_subtype s)

-- `DED_OPS : constant array (1 .. n) of INTEGER := (..);`
abbrev pub table_declared : ControlNames → Span → Column → List Op → PDecl
table_declared n s column made = DObject (word_at s (table_name n column) ∷ []) true (array_of s (length made)) (Some (table_value s (map (says column) made))) s

-- the five tables of operations
abbrev pub tables_over : ControlNames → Span → List Op → List PDecl
tables_over n s made = map (λ column. table_declared n s column made) columns

-- of none there are none, since an array has a component at least
abbrev pub tables_for : ControlNames → Span → List Op → List PDecl
tables_for n s [] = []
tables_for n s (op ∷ made) = tables_over n s (op ∷ made)

-- The controller's objects.
abbrev pub control_objects : ControlNames → Span → List Op → List PDecl
control_objects n s ops = tables_for n s (acts ops)

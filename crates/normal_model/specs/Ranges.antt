-- The subtypes of the variables that the normal form adds: those of families' and arrays' ranges, of formals' marks, and BOOLEAN and INTEGER (3.3.2, 3.6.1, 9.5; this project's rule).
use Rattle.std.specs.Prelude.{ℕ, ◌==◌, [], find, Option, Some, None, unwrap_or}
use Rattle.ada_tree.specs.declared.naming.NameId.{NameId}
use Rattle.ada_tree.specs.declared.naming.Span.{Span}
use Rattle.ada_tree.specs.declared.naming.Word.{Word}
use Rattle.ada_tree.specs.TypeTable.{TypeTable}
use Rattle.ada_static_rules.specs.Scope.{and_then}
use Rattle.ada_tree.specs.PlainExpr.{PSubind, PDrange, RGiven, RMarked}
use Rattle.ada_tree.specs.PlainDecl.{PEntry, PTask}
use Rattle.ada_tree.specs.PlainProgram.{PProgram}
use Rattle.syn_event.specs.declared.numbering.TaskInfo.{TaskInfo}
use Rattle.syn_event.specs.declared.numbering.EntryInfo.{EntryInfo}
use Rattle.syn_event.specs.Numbering.{task_at, entry_at}
use Rattle.syn_event.specs.NamedTasks.{task_names_of}
use Rattle.ada_value.specs.Evaluating.{range_of}
use Rattle.task_model.specs.Setting.{Setting, unit_named}
use Rattle.task_model.specs.Starting.{known_range}

-- a word at a place
abbrev pub word_at : Span → NameId → Word
word_at s id = record { name = id; span = s }

-- a mark without bounds
abbrev pub marked : Word → PSubind
marked w = record { mark = w; bounds = None }

-- INTEGER and BOOLEAN, which are the first and the fourth name of every program
abbrev pub integer_subtype : Span → PSubind
integer_subtype s = marked (word_at s record { 0 = 0 })

abbrev pub truth_subtype : Span → PSubind
truth_subtype s = marked (word_at s record { 0 = 3 })

-- ---- ranges

-- the kind of a range's values, by its place in the table
abbrev pub kind_of_range : TypeTable → PDrange → ℕ
kind_of_range types range = (known_range (range_of types [] range)).kind

-- the declared name of a kind: that of its first mark, which is INTEGER, BOOLEAN or the enumeration's
abbrev pub kind_name : TypeTable → ℕ → NameId
kind_name types k = unwrap_or (and_then (λ m. m.name) (find (λ m. m.kind == k) types.marks)) (record { 0 = 0 })

-- The subtype of a variable for the values of a range: the name in the range, or that of its type where the range has none, and then the bounds where they are written.
abbrev pub range_subtype : TypeTable → Span → PDrange → PSubind
range_subtype types s (RMarked x) = x
range_subtype types s (RGiven b) = record { mark = word_at s (kind_name types (kind_of_range types (RGiven b))); bounds = Some b }

-- of what has no range, as in no legal program, it is INTEGER
abbrev pub subtype_of_range : TypeTable → Span → Option PDrange → PSubind
subtype_of_range types s None = integer_subtype s
subtype_of_range types s (Some r) = range_subtype types s r

-- ---- arrays of tasks

-- The range of an array of tasks, as it is declared (9.1, 3.6).
abbrev pub array_range : PProgram → NameId → Option PDrange
array_range p name = and_then (λ x. x.index_range) (find (λ x. x.name.name.0 == name.0) (task_names_of p))

-- ---- families

-- the range of the family of a name that a task or task type declares
abbrev pub range_of_entry : Option PEntry → Option PDrange
range_of_entry None = None
range_of_entry (Some e) = e.family

abbrev pub range_in : Option PTask → NameId → Option PDrange
range_in None name = None
range_in (Some t) name = range_of_entry (find (λ e. e.name.name.0 == name.0) t.entries)

abbrev pub range_of_unit : PProgram → Option TaskInfo → NameId → Option PDrange
range_of_unit p None name = None
range_of_unit p (Some info) name = range_in (unit_named p info.unit) name

abbrev pub range_of_info : Setting → Option EntryInfo → Option PDrange
range_of_info g None = None
range_of_info g (Some info) = range_of_unit g.program (task_at g.numbers info.owner) info.name

-- The range of a family, as its task or its task's type declares it, by the entry's number (9.5).
abbrev pub family_range : Setting → ℕ → Option PDrange
family_range g e = range_of_info g (entry_at g.numbers e)

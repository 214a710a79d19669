-- What an entry asks of its calls: the range of its index, and the modes and marks of its formals.
use Rattle.std.specs.Prelude.{ℕ, ◌==◌, List, [], map, find, Option, Some, None, option_map}
use Rattle.ada_tree.specs.declared.naming.NameId.{NameId}
use Rattle.ada_tree.specs.declared.naming.Word.{Word}
use Rattle.ada_tree.specs.declared.statements.ParMode.{ParMode}
use Rattle.ada_tree.specs.PlainExpr.{PDrange}
use Rattle.ada_tree.specs.PlainDecl.{PEntry, PTask}
use Rattle.ada_tree.specs.PlainProgram.{PProgram}
use Rattle.syn_event.specs.declared.numbering.TaskInfo.{TaskInfo}
use Rattle.syn_event.specs.declared.numbering.EntryInfo.{EntryInfo}
use Rattle.syn_event.specs.Numbering.{Numbering, task_at, entry_at}
use Rattle.task_model.specs.Setting.{unit_named}
use Rattle.normal_model.specs.Calls.{slots_of}

-- An entry's range, where it is a family, and what its formals are, one by one and in order.
pub record Form : Type 0 where
  pub family : Option PDrange
  pub modes : List ParMode
  pub marks : List Word

abbrev pub form_of : PEntry → Form
form_of e = record { family = e.family; modes = map (λ x. x.mode) (slots_of e.formals); marks = map (λ x. x.mark) (slots_of e.formals) }

-- the form of the entry of a name that a task or task type declares
abbrev pub form_in : Option PTask → NameId → Option Form
form_in None name = None
form_in (Some t) name = option_map form_of (find (λ e. e.name.name.0 == name.0) t.entries)

abbrev pub form_of_unit : PProgram → Option TaskInfo → NameId → Option Form
form_of_unit p None name = None
form_of_unit p (Some info) name = form_in (unit_named p info.unit) name

abbrev pub form_of_info : PProgram → Numbering → Option EntryInfo → Option Form
form_of_info p numbers None = None
form_of_info p numbers (Some info) = form_of_unit p (task_at numbers info.owner) info.name

-- The form of the entry of a number.
abbrev pub form_at : PProgram → Numbering → ℕ → Option Form
form_at p numbers e = form_of_info p numbers (entry_at numbers e)

-- what is read off it; of what is no entry, as in no legal program, there is nothing
abbrev pub family_of : Option Form → Option PDrange
family_of None = None
family_of (Some x) = x.family

abbrev pub modes_of : Option Form → List ParMode
modes_of None = []
modes_of (Some x) = x.modes

abbrev pub marks_of : Option Form → List Word
marks_of None = []
marks_of (Some x) = x.marks

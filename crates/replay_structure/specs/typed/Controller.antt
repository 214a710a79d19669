-- What can be used where the bodies of the controller and of the idle task stand (this project's rule).
use Rattle.std.specs.Prelude.{◌≡◌, ℕ, ◌==◌, pos, false, List, [], Some}
use Rattle.ada_tree.specs.declared.naming.NameId.{NameId}
use Rattle.ada_tree.specs.PlainProgram.{PProgram}
use Rattle.ada_static_rules.specs.Scope.{Scope, single, EntryPart, SingleTask, AnException, meaning, entry_named}
use Rattle.syn_event.specs.declared.numbering.TaskInfo.{TaskInfo}
use Rattle.normal_laws.specs.structure.typed.ScopeOf.{MeansInteger}
use Rattle.replay_model.specs.declared.tables.columns.Column.{Column}
use Rattle.replay_model.specs.Names.{hold_text, rest_text, join_text, counter_text, added_id}
use Rattle.replay_model.specs.tables.Columns.{table_name}
use Rattle.replay_model.specs.Controlling.{control_ids}
use Rattle.replay_structure.specs.typed.ScopeOf.{HasLists, IsControl, IsIdle}

-- INTEGER is what it is before all declarations, with all its values (3.5.4)
pub record IsInteger (d : Scope) : Type 0 where
  pub its : MeansInteger d
  pub last : its.mark.last ≡ pos 2147483647

-- no table of the controller has the name, and neither has its loop parameter
pub record IsOutside (q : PProgram) (id : NameId) : Type 0 where
  pub tables : (column : Column) → ((table_name (control_ids q) column).0 == id.0) ≡ false
  pub counter : ((added_id q counter_text).0 == id.0) ≡ false

-- the controller with all its entries; and INTEGER and TASKING_ERROR, which are not the names of its tables
pub record IsController (q : PProgram) (d : Scope) : Type 0 where
  pub integer : IsInteger d
  pub integer_outside : IsOutside q (record { 0 = 0 })
  pub seen : IsControl q d
  pub hold : HasLists (entry_named seen.entries (added_id q hold_text)) single []
  pub tasking : meaning d (record { 0 = 9 }) ≡ Some AnException
  pub tasking_outside : IsOutside q (record { 0 = 9 })

-- the idle task with all its entries
pub record IsIdler (q : PProgram) (d : Scope) : Type 0 where
  pub seen : IsIdle q d
  pub rest : HasLists (entry_named seen.entries (added_id q rest_text)) single []

-- a task with DED_JOIN
pub record IsJoinable (q : PProgram) (d : Scope) (id : NameId) : Type 0 where
  pub entries : List EntryPart
  pub means : meaning d id ≡ Some (SingleTask entries)
  pub join : HasLists (entry_named entries (added_id q join_text)) single []

-- the task can be waited for where the controller's body stands, and in this
pub record IsAwaited (q : PProgram) (d : Scope) (info : TaskInfo) : Type 0 where
  pub joinable : IsJoinable q d info.name
  pub outside : IsOutside q info.name

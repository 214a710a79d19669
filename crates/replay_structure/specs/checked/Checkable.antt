-- What is asked of a normal form with its numbers, and of the operations of a controller, so that the replay text meets the rules 13 to 23 (this
-- project's rule).
use Rattle.std.specs.Prelude.{◌≡◌, ℕ, ◌≤◌, ◌==◌, Bool, true, false, not, ◌||◌, List, [], ◌∷◌, ◌++◌, length, drop, ◌+◌, IfSome}
use Rattle.std.specs.List.{AllByRecursion, filter, list_any}
use Rattle.ada_tree.specs.Attributes.{false_name}
use Rattle.ada_tree.specs.TypeTable.{TypeTable}
use Rattle.ada_tree.specs.PlainExpr.{PDrange}
use Rattle.ada_tree.specs.PlainDecl.{PShape, OPlain, OArray, PEntry, PTask, PDecl, DObject, DArray, DTask, DTaskBody}
use Rattle.ada_tree.specs.PlainProgram.{PProgram}
use Rattle.ada_tree.specs.Every.{EveryDecl, EveryBody}
use Rattle.ada_static_rules.specs.Refusals.{types_in}
use Rattle.syn_event.specs.declared.numbering.TaskInfo.{TaskInfo}
use Rattle.syn_event.specs.Extents.{size, is_array_type}
use Rattle.syn_event.specs.DeclaredTasks.{text_of, decl_list, tasks_of}
use Rattle.task_model.specs.Setting.{Setting}
use Rattle.control_script.specs.declared.Op.{Op}
use Rattle.task_laws.specs.legal.asked.Asked.{AskedBody}
use Rattle.normal_laws.specs.structure.numbers.Single.{IsSingle}
use Rattle.replay_model.specs.ReplayTree.{is_task, is_body, last_task, replay_of}
use Rattle.replay_structure.specs.checked.Around.{kept_name, kept_names, form_asks}

-- ---- declarations

-- a declaration that is neither a task nor a body
abbrev pub is_plain : PDecl → Bool
is_plain d = not (is_task d || is_body d)

-- no object is named FALSE
abbrev pub IsOtherThanTruth : PDecl → Type 0
IsOtherThanTruth (DObject ws constant shape init s) = list_any (λ w. w.name.0 == false_name) ws ≡ false
IsOtherThanTruth _ = Unit {0}

-- what stands in the statements of a body is as it is asked of a normal form
abbrev pub HasForm : PDecl → Type 0
HasForm (DTaskBody w objects its s) = AskedBody form_asks tt 1 its
HasForm _ = Unit {0}

-- ---- two tables of types

-- a range has as many values by both
abbrev pub HasSameSize : TypeTable → TypeTable → PDrange → Type 0
HasSameSize T U r = size U r ≡ size T r

-- so it is with the range of an object that has one of its own
abbrev pub IsSameShape : TypeTable → TypeTable → PShape → Type 0
IsSameShape T U (OPlain x) = Unit {0}
IsSameShape T U (OArray r x) = HasSameSize T U r

abbrev pub IsSameObject : TypeTable → TypeTable → PDecl → Type 0
IsSameObject T U (DObject ws constant shape init s) = IsSameShape T U shape
IsSameObject T U _ = Unit {0}

-- the mark of a constant is that of an array by both or by none
abbrev pub IsSameMark : TypeTable → TypeTable → Bool → PShape → Type 0
IsSameMark T U true (OPlain x) = is_array_type U x.mark.name ≡ is_array_type T x.mark.name
IsSameMark T U _ _ = Unit {0}

abbrev pub IsSameEntry : TypeTable → TypeTable → PEntry → Type 0
IsSameEntry T U e = IfSome e.family (HasSameSize T U)

abbrev pub IsSameDecl : TypeTable → TypeTable → PDecl → Type 0
IsSameDecl T U (DObject ws constant shape init s) = IsSameShape T U shape × IsSameMark T U constant shape
IsSameDecl T U (DArray w r x s) = HasSameSize T U r
IsSameDecl T U (DTask t s) = AllByRecursion (IsSameEntry T U) t.entries
IsSameDecl T U (DTaskBody w objects its s) = AllByRecursion (IsSameObject T U) (decl_list objects)
IsSameDecl T U _ = Unit {0}

-- ---- counts

-- how many entries tasks have
abbrev pub entries_count : List PTask → ℕ
entries_count [] = 0
entries_count (t ∷ ts) = length t.entries + entries_count ts

-- ---- names

-- the double of an entry has a name of at most 150 bytes
abbrev pub IsShortEntry : PProgram → PEntry → Type 0
IsShortEntry q e = length (text_of q.names e.name.name) ≤ 144

-- a task has another name than main
abbrev pub IsBeside : PProgram → TaskInfo → Type 0
IsBeside q info = (info.name.0 == q.name.name.0) ≡ false

-- ---- the whole

-- What is asked of a normal form, with the operations of its controller.
pub record IsCheckable (g : Setting) (ops : List Op) : Type 0 where
  -- its names are kept in the text, and so is FALSE, which is no object; and nothing is nested deeper than 100
  pub main : kept_name g.program g.program.name.name.0 ≡ true
  pub declared : AllByRecursion (EveryDecl (kept_names g.program)) (decl_list g.program.decls)
  pub named : EveryBody (kept_names g.program) 1 g.program.body
  pub truth : kept_name g.program false_name ≡ true
  pub untrue : AllByRecursion IsOtherThanTruth (decl_list g.program.decls)
  -- tasks stand behind all else, and bodies last; no task type is declared
  pub sorted : decl_list g.program.decls ≡ filter is_plain (decl_list g.program.decls) ++ filter is_task (decl_list g.program.decls) ++ filter is_body (decl_list g.program.decls)
  pub single : AllByRecursion IsSingle (decl_list g.program.decls)
  -- what stands in a statement itself is not too deep
  pub form : AskedBody form_asks tt 1 g.program.body
  pub forms : AllByRecursion HasForm (decl_list g.program.decls)
  -- ranges have as many values by the text's types
  pub ranges : AllByRecursion (IsSameDecl (types_in g.program) (types_in (replay_of g ops))) (decl_list g.program.decls)
  -- there is room for two tasks more, for doubles and for two entries more of each task
  pub few_tasks : length (tasks_of g.program) ≤ 200
  pub few_entries : entries_count (tasks_of g.program) ≤ 1000
  pub few_numbers : last_task g.numbers ≤ 200
  pub short : AllByRecursion (λ t. AllByRecursion (IsShortEntry g.program) t.entries) (tasks_of g.program)
  -- a table has as many components as there are operations, and an array at most 1,000,000
  pub few_ops : length ops ≤ 1000000
  -- the controller waits for the ends of tasks beside main
  pub joined : AllByRecursion (IsBeside g.program) (drop 1 g.numbers.tasks)

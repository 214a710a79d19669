-- With which objects the units of a replay text start (3.2.1, 9.1; this project's rule).
use Rattle.std.specs.Prelude.{◌≡◌, ℕ, suc, pos, ◌==◌, ◌||◌, Bool, true, false, not, if◌then◌else◌, List, [], ◌∷◌, ◌++◌, drop, Some, None}
use Rattle.std.specs.List.{AllByRecursion, filter}
use Rattle.event_machine.specs.declared.Event.{Event}
use Rattle.ada_tree.specs.declared.naming.NameId.{NameId}
use Rattle.ada_tree.specs.declared.naming.Span.{Span}
use Rattle.ada_tree.specs.TypeTable.{TypeTable}
use Rattle.ada_tree.specs.PlainDecl.{OPlain, PDecl, DObject, DTaskBody, decls_of}
use Rattle.ada_tree.specs.PlainProgram.{PProgram}
use Rattle.ada_tree.specs.Every.{EveryShape}
use Rattle.ada_static_rules.specs.Refusals.{types_in}
use Rattle.syn_event.specs.declared.numbering.TaskInfo.{TaskInfo}
use Rattle.syn_event.specs.Numbering.{Numbering, task_at}
use Rattle.syn_event.specs.AllNumbers.{all_numbers}
use Rattle.syn_event.specs.DeclaredTasks.{decl_list}
use Rattle.ada_value.specs.declared.values.Value.TheVariants.{Number}
use Rattle.ada_value.specs.Values.{limits_named, integer_limits}
use Rattle.ada_value.specs.Variables.{Object, Variables, object_named}
use Rattle.task_model.specs.Setting.{Setting}
use Rattle.task_model.specs.Starting.{form_of, objects_of, unit_of}
use Rattle.normal_model.specs.Ranges.{integer_subtype}
use Rattle.normal_model.specs.NormalStmts.{unit_variables}
use Rattle.normal_model.specs.NormalTree.{unit_for, main_variables}
use Rattle.replay_model.specs.Names.{kind_text, argument_text, index_text, added_id}
use Rattle.replay_model.specs.ReplayTree.{permit_declared, is_added_object, behind_own, is_task, is_body, last_task, normal_setting, replay_tree}
use Rattle.replay_model.specs.ReplayNumbers.{numbers_replayed}
use Rattle.task_laws.specs.legal.rewritten_values.Values.{old_names}
use Rattle.normal_laws.specs.structure.types.Own.{own_name}
use Rattle.normal_laws.specs.structure.types.Laws.{IsOrdered, setting_of, AreOwn}
use Rattle.normal_laws.specs.structure.numbers.Laws.{NoneIsDed}
use Rattle.replay_structure.specs.bodies.Laws.{HasBodies}

-- ---- tables

-- INTEGER means INTEGER by a table, as the mark of an object and as that of a formal (3.5.4).
pub record HasInteger (T : TypeTable) : Type 0 where
  pub object : (s : Span) → form_of T (OPlain (integer_subtype s)) ≡ Some record { limits = integer_limits; index = None }
  pub formal : limits_named T record { 0 = 0 } ≡ integer_limits

-- ---- the variables of a permit

-- a variable of INTEGER that is 0
abbrev pub zero_object : NameId → Object
zero_object id = record { name = id; limits = integer_limits; index = None; values = Number (pos 0) ∷ [] }

-- The variables of a permit at the start: DED_K, DED_A and DED_I are 0, and the latest stands in front.
abbrev pub permit_objects : PProgram → Variables
permit_objects q = zero_object (added_id q index_text) ∷ zero_object (added_id q argument_text) ∷ zero_object (added_id q kind_text) ∷ []

-- ---- the objects of a unit

-- the declarations of a unit of a normal form in front of the variables that the normal form adds
abbrev pub own_part : List (List ℕ) → List PDecl → List PDecl
own_part names [] = []
own_part names (d ∷ ds) = if is_added_object names d then [] else d ∷ own_part names ds

-- the declarations from these variables on
abbrev pub added_part : List (List ℕ) → List PDecl → List PDecl
added_part names [] = []
added_part names (d ∷ ds) = if is_added_object names d then d ∷ ds else added_part names ds

-- the objects of these declarations, of main where the truth value is true
abbrev pub objects_in : TypeTable → Bool → List PDecl → Variables
objects_in T in_main ds = objects_of T in_main (decls_of ds) []

-- The first objects are those of a unit of a normal form, and the second ones are these and the permit's variables, which stand between its own
-- objects and those that the normal form adds. The latest object stands in front.
pub record HavePermit (q : PProgram) (T : TypeTable) (in_main : Bool) (ds : List PDecl) (start more_start : Variables) : Type 0 where
  pub before : start ≡ objects_in T in_main (added_part q.names ds) ++ objects_in T in_main (own_part q.names ds)
  pub after : more_start ≡ objects_in T in_main (added_part q.names ds) ++ permit_objects q ++ objects_in T in_main (own_part q.names ds)

-- INTEGER means INTEGER in each program.
abbrev pub IntegerIsThere : Type 0
IntegerIsThere = (p : PProgram) → HasInteger (types_in p)

-- A unit starts with the objects that it has without a permit and with the permit's variables, whatever its declarations are, by each table in which
-- INTEGER means INTEGER.
abbrev pub UnitsStart : Type 0
UnitsStart =
    (q : PProgram) (T : TypeTable) → HasInteger T → (in_main : Bool) (s : Span) (ds : List PDecl) →
    HavePermit q T in_main ds (objects_in T in_main ds) (objects_in T in_main (behind_own q.names (permit_declared q s) ds))

-- ---- look-ups

-- the id is none of a permit's variables
pub record IsNoPermit (q : PProgram) (id : NameId) : Type 0 where
  pub kind : ((added_id q kind_text).0 == id.0) ≡ false
  pub argument : ((added_id q argument_text).0 == id.0) ≡ false
  pub index : ((added_id q index_text).0 == id.0) ≡ false

-- Each other name means, at the start of a unit, the object that it means at its start in the normal form.
abbrev pub LookUpsStay : Type 0
LookUpsStay =
    (q : PProgram) (T : TypeTable) → HasInteger T → (in_main : Bool) (s : Span) (ds : List PDecl) (id : NameId) → IsNoPermit q id →
    object_named (objects_in T in_main (behind_own q.names (permit_declared q s) ds)) id ≡ object_named (objects_in T in_main ds) id

-- the variables of a permit are found by their names
pub record FindsPermit (q : PProgram) (vars : Variables) : Type 0 where
  pub kind : object_named vars (added_id q kind_text) ≡ Some (zero_object (added_id q kind_text))
  pub argument : object_named vars (added_id q argument_text) ≡ Some (zero_object (added_id q argument_text))
  pub index : object_named vars (added_id q index_text) ≡ Some (zero_object (added_id q index_text))

-- The names of a permit mean its variables, where no variable that the normal form adds has one of them.
abbrev pub PermitIsFound : Type 0
PermitIsFound =
    (q : PProgram) (T : TypeTable) → HasInteger T → (in_main : Bool) (s : Span) (ds : List PDecl) →
    AllByRecursion (λ (o : Object). IsNoPermit q o.name) (objects_in T in_main (added_part q.names ds)) →
    FindsPermit q (objects_in T in_main (behind_own q.names (permit_declared q s) ds))

-- ---- of a program

-- the objects with which a task starts
abbrev pub start_of : TypeTable → PProgram → Numbering → ℕ → Variables
start_of T p numbers t = objects_of T (unit_of p numbers t).in_main (unit_of p numbers t).decls []

-- the declarations of main that are neither tasks nor bodies
abbrev pub plain_part : List PDecl → List PDecl
plain_part ds = filter (λ d. not (is_task d || is_body d)) ds

-- a variable that the normal form adds has a type or subtype of the program's own
abbrev pub HasOwnMark : PProgram → PDecl → Type 0
HasOwnMark p (DObject names constant shape None s) = EveryShape (old_names (own_name p)) shape
HasOwnMark p _ = ⊥

-- so have the variables that a body gets
abbrev pub HasOwnVariables : Setting → PDecl → Type 0
HasOwnVariables g (DTaskBody w objects its s) = AllByRecursion (HasOwnMark g.program) (unit_variables (unit_for g w.name) its)
HasOwnVariables g _ = Unit {0}

-- and all variables of the normal form
pub record AddsOwnMarks (g : Setting) : Type 0 where
  pub main : AllByRecursion (HasOwnMark g.program) (main_variables g)
  pub bodies : AllByRecursion (HasOwnVariables g) (decl_list g.program.decls)

-- a normal form with its numbers, and the replay text that is made from it, both by the program's own types and numbers
abbrev pub form_in : PProgram → Setting
form_in p = normal_setting p (types_in p) (all_numbers (types_in p) p)

abbrev pub text_in : PProgram → List Event → PProgram
text_in p events = replay_tree p (types_in p) (all_numbers (types_in p) p) events

-- The objects of a task as it starts in the normal form, by the types of the normal form, and as it starts in the replay text, by the types of the text.
abbrev pub start_before : PProgram → ℕ → Variables
start_before p t = start_of (types_in (form_in p).program) (form_in p).program (form_in p).numbers t

abbrev pub start_after : PProgram → List Event → ℕ → Variables
start_after p events t = start_of (types_in (text_in p events)) (text_in p events) (numbers_replayed (form_in p)) t

-- How the tasks of a replay text start: main and each task of the normal form with the permit's variables more, and the idle task without objects.
pub record TextStarts (p : PProgram) (events : List Event) : Type 0 where
  pub main : HavePermit (form_in p).program (types_in (form_in p).program) true (plain_part (decl_list (form_in p).program.decls)) (start_before p 0) (start_after p events 0)
  pub tasks : (t : ℕ) (info : TaskInfo) → task_at (form_in p).numbers (suc t) ≡ Some info →
      HavePermit (form_in p).program (types_in (form_in p).program) false (decl_list (unit_of (form_in p).program (form_in p).numbers (suc t)).decls) (start_before p (suc t)) (start_after p events (suc t))
  pub idle : start_after p events (suc (suc (last_task (form_in p).numbers))) ≡ []

-- So it is of a program that meets the static rules, declares own names, has a body for each task and no array of tasks named DED, where the
-- variables that its normal form adds have types and subtypes of its own.
abbrev pub TextsStart : Type 0
TextsStart =
    (p : PProgram) (events : List Event) → IsOrdered p → AreOwn p p.decls → NoneIsDed p → HasBodies p (drop 1 (all_numbers (types_in p) p).tasks) →
    AddsOwnMarks (setting_of p (types_in p) (all_numbers (types_in p) p)) → TextStarts p events

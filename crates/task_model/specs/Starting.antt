-- How a task starts: at the first statement of its body, with its objects (3.2.1, 9.1, 9.3; that activation is no step is this project's rule). Task 0 is the main program; each other task runs the body of its task or task type, so the members of an array of tasks and the objects of one type run one body.
use Rattle.std.specs.Prelude.{ℕ, ℤ, pos, ◌-ℤ◌, ◌+ℤ◌, ◌==◌, Bool, true, false, ◌&&◌, if◌then◌else◌, List, [], ◌∷◌, map, replicate, slice_index_or, Option, Some, None, is_none, unwrap_or, Result, Ok, Err}
use Rattle.ada_tree.specs.declared.naming.NameId.{NameId}
use Rattle.ada_tree.specs.declared.naming.Word.{Word}
use Rattle.ada_tree.specs.declared.static_types.Mark.{Mark}
use Rattle.ada_tree.specs.TypeTable.{TypeTable}
use Rattle.ada_tree.specs.PlainExpr.{PExpr, PBounds, PSubind, PDrange}
use Rattle.ada_tree.specs.PlainStmt.{no_stmt, no_handler, PBody, body}
use Rattle.ada_tree.specs.PlainDecl.{PShape, OPlain, OArray, PInit, IOne, IList, IOthers, PDecl, DObject, DTaskBody, PDecls, no_decl, decl_then}
use Rattle.ada_tree.specs.PlainProgram.{PProgram}
use Rattle.ada_static_rules.specs.StaticValue.{mark_named}
use Rattle.syn_event.specs.declared.numbering.TaskInfo.{TaskInfo}
use Rattle.syn_event.specs.Numbering.{Numbering, task_at}
use Rattle.syn_event.specs.Extents.{count_to}
use Rattle.ada_value.specs.declared.values.Value.{Value}
use Rattle.ada_value.specs.declared.values.Raised.{Raised}
use Rattle.ada_value.specs.declared.values.Form.{Form}
use Rattle.ada_value.specs.declared.values.Limits.{Limits}
use Rattle.ada_value.specs.Values.{position_of, lies_in, lower_bound, limits_of, integer_limits}
use Rattle.ada_value.specs.Variables.{Object, Variables, form_of_mark, object_with}
use Rattle.ada_value.specs.Evaluating.{evaluated, range_of, narrowed}
use Rattle.task_model.specs.Setting.{Setting}
use Rattle.task_model.specs.Frames.{OwnBody, control}
use Rattle.task_model.specs.Steps.{block_stmts, block_handlers}
use Rattle.task_model.specs.Tasks.{Task}

-- ---- what an object is

-- a static range; one that is not static, as in no legal program, is INTEGER
abbrev pub known_range : Result Limits Raised → Limits
known_range (Ok r) = r
known_range (Err x) = integer_limits

-- the subtype of a subtype indication, which may be narrowed by static bounds (3.3.2)
abbrev pub indicated : TypeTable → Mark → Option PBounds → Limits
indicated types m bounds = known_range (narrowed types [] (limits_of m) bounds)

-- an object of a mark; an array mark is not narrowed
abbrev pub marked_form : TypeTable → PSubind → Mark → Option Limits → Form
marked_form types x m None = record { limits = indicated types m x.bounds; index = None }
marked_form types x m (Some index) = form_of_mark types m

-- what has no mark in the table is no object: a task type has none
abbrev pub plain_form : TypeTable → PSubind → Option Mark → Option Form
plain_form types x None = None
plain_form types x (Some m) = Some (marked_form types x m (form_of_mark types m).index)

-- an object of a constrained array definition, by its index range and the subtype of its components; an array of tasks is no object (3.6, 9.1)
abbrev pub array_form : TypeTable → PDrange → PSubind → Option Mark → Option Form
array_form types index x None = None
array_form types index x (Some m) =
    Some record { limits = indicated types m x.bounds; index = Some (known_range (range_of types [] index)) }

-- What an object of a shape is; task objects are none of these.
abbrev pub form_of : TypeTable → PShape → Option Form
form_of types (OPlain x) = plain_form types x (mark_named types x.mark.name)
form_of types (OArray index x) = array_form types index x (mark_named types x.mark.name)

-- ---- initial values (3.2.1)

-- an initial value; one that raises or lies outside the subtype, as in no legal program, counts for none
abbrev pub value_or_lower : TypeTable → Limits → Result Value Raised → Value
value_or_lower types limits (Ok v) = if lies_in limits (position_of v) then v else lower_bound types limits
value_or_lower types limits (Err x) = lower_bound types limits

-- the value that an initial expression gives to an object or a component of this subtype (3.2.1)
abbrev pub initial : TypeTable → Limits → PExpr → Value
initial types limits e = value_or_lower types limits (evaluated types [] e)

-- how many values an object has: one, or one for each index
abbrev pub value_count : Option Limits → ℕ
value_count None = 1
value_count (Some index) = count_to ((index.last -ℤ index.first) +ℤ pos 1)

-- The values with which an object starts: those of its initial value, which is static; without one the lower bound of its subtype, or of its components' (this project's rule).
abbrev pub initials : TypeTable → Form → Option PInit → List Value
initials types form None = replicate (value_count form.index) (lower_bound types form.limits)
initials types form (Some (IOne e)) = replicate (value_count form.index) (initial types form.limits e)
initials types form (Some (IList es s)) = map (initial types form.limits) es
initials types form (Some (IOthers e s)) = replicate (value_count form.index) (initial types form.limits e)

-- ---- the objects of a unit

-- the object of one name in a declaration, with its initial values (3.2.1)
abbrev pub object_of : TypeTable → Form → Option PInit → Word → Object
object_of types form init w = object_with w.name form (initials types form init)

-- the names of one declaration, from left to right: the latest goes in front
abbrev pub with_objects : TypeTable → Form → Option PInit → List Word → Variables → Variables
with_objects types form init [] vars = vars
with_objects types form init (w ∷ ws) vars = with_objects types form init ws (object_of types form init w ∷ vars)

-- an object of this form is scalar, that is, no array (3.3)
abbrev pub is_scalar : Form → Bool
is_scalar form = is_none form.index

-- a scalar constant of main stands in the types and is no object of main (this project's rule)
abbrev pub is_in_types : Bool → Bool → Form → Bool
is_in_types in_main constant form = in_main && constant && is_scalar form

-- the variables behind an object declaration; what is no object, or stands in the types, adds none
abbrev pub declared_objects : TypeTable → Bool → List Word → Bool → Option PInit → Option Form → Variables → Variables
declared_objects types in_main names constant init None vars = vars
declared_objects types in_main names constant init (Some form) vars =
    if is_in_types in_main constant form then vars else with_objects types form init names vars

-- the variables behind one declaration of a unit; only an object declaration adds some (3.2)
abbrev pub after_declaration : TypeTable → Bool → PDecl → Variables → Variables
after_declaration types in_main (DObject names constant shape init s) vars = declared_objects types in_main names constant init (form_of types shape) vars
after_declaration types in_main _ vars = vars

-- The variables behind the declarations of a unit, of main where the truth value is true.
abbrev pub objects_of : TypeTable → Bool → PDecls → Variables → Variables
objects_of types in_main no_decl vars = vars
objects_of types in_main (decl_then d rest) vars = objects_of types in_main rest (after_declaration types in_main d vars)

-- ---- the units

-- A unit that a task runs: its declarations and its body.
pub record Unit : Type 0 where
  pub in_main : Bool
  pub decls : PDecls
  pub body : PBody

-- the unit of a name that has no body, as in no legal program: it is empty
abbrev pub no_unit : Unit
no_unit = record { in_main = false; decls = no_decl; body = body no_stmt no_handler }

-- the unit of a task body of this name; another declaration is none (9.1)
abbrev pub unit_of_decl : PDecl → NameId → Option Unit
unit_of_decl (DTaskBody w objects its s) name = if w.name.0 == name.0 then Some record { in_main = false; decls = objects; body = its } else None
unit_of_decl _ name = None

-- the unit of the task body of a name among declarations (9.1)
abbrev pub unit_among : PDecls → NameId → Unit
unit_among no_decl name = no_unit
unit_among (decl_then d rest) name = unwrap_or (unit_of_decl d name) (unit_among rest name)

-- the unit that a task of the numbers runs: the body of its task or task type (9.1)
abbrev pub unit_of_info : PProgram → Option TaskInfo → Unit
unit_of_info p None = no_unit
unit_of_info p (Some info) = unit_among p.decls info.unit

-- The unit that a task runs: main its own, and each other task the body of its task or task type (9.1).
abbrev pub unit_of : PProgram → Numbering → ℕ → Unit
unit_of p numbers t = if t == 0 then record { in_main = true; decls = p.decls; body = p.body } else unit_of_info p (task_at numbers t)

-- ---- the start

-- a task of this number, unit and input at its first statement, with its objects and nothing written (9.3)
abbrev pub started_in : Setting → ℕ → Unit → List ℤ → Task
started_in g t unit input = record {
  setting = g;
  number = t;
  control = control (block_stmts unit.body) (OwnBody (block_handlers unit.body) None) [] (objects_of g.types unit.in_main unit.decls []);
  input = input;
  output = [];
}

-- The task of a number as the program starts, where the inputs are one list a task; a task past their end has no input.
abbrev pub started : Setting → List (List ℤ) → ℕ → Task
started g inputs t = started_in g t (unit_of g.program g.numbers t) (slice_index_or inputs t [])

-- a task that has nothing to do, where no task is
abbrev pub nobody : Task
nobody = started_in
    (record {
      program = record { names = []; text_io = false; name = record { name = record { 0 = 0 }; span = record { start = 0; end = 0 } }; decls = no_decl; body = body no_stmt no_handler };
      types = record { kinds = []; marks = []; constants = [] };
      numbers = record { main = record { 0 = 0 }; tasks = []; entries = [] };
    })
    0 no_unit []

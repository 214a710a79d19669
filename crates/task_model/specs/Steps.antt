-- The local step of a task at each statement that is no synchronizing one, one definition a form (5, 11.3, 14.3). The ends of ifs, cases, blocks and handlers take no step; each turn and each leave of a loop takes one (this project's rule).
use Rattle.std.specs.Prelude.{ℕ, ℤ, pos, ◌+ℤ◌, ◌-ℤ◌, int_le, int_lt, Bool, true, false, ◌&&◌, ◌||◌, if◌then◌else◌, List, [], ◌∷◌, ◌++◌, drop, Option, Some, None, Result, Ok, Err}
use Rattle.ada_tree.specs.declared.naming.Word.{Word}
use Rattle.ada_tree.specs.PlainExpr.{PExpr, PDrange, RGiven, RMarked}
use Rattle.ada_tree.specs.PlainStmt.{PTarget, PPart, PChoice, PScheme, LWhile, LFor, PStmts, PMaybe, present, PArms, no_arm, arm_then, arm, PCaseArms, no_case_arm, case_arm_then, case_arm, PBody, body, PHandlers}
use Rattle.ada_value.specs.declared.values.Value.{Value}
use Rattle.ada_value.specs.declared.values.Value.TheVariants.{Number}
use Rattle.ada_value.specs.declared.values.Raised.{Raised}
use Rattle.ada_value.specs.declared.values.Raised.TheVariants as raised
use Rattle.ada_value.specs.declared.values.Limits.{Limits}
use Rattle.ada_value.specs.Values.{and_then, position_of, value_at, limits_named, limits_of_kind, lies_in, is_empty_range}
use Rattle.ada_value.specs.Variables.{Object, Variables, object_named, value_there, component_place, checked_for, set_value}
use Rattle.ada_value.specs.Evaluating.{condition_of, range_of}
use Rattle.ada_value.specs.Texts.{parts_output}
use Rattle.task_model.specs.Frames.{Turns, Endless, While, Counting, Block, Loop, PFrame, settled, settled_in, raised_named, handled_by, exited_in, brought_by}
use Rattle.task_model.specs.Tasks.{Task, place_of, outer_of, vars_of, value_of, with_control, with_input, with_text, with_vars, gone_to, stmts_or_none, entered, pushed, raised_there, or_raised}

-- the truth of a condition where a task stands (5.3, 5.5, 5.7)
abbrev pub condition : Task → PExpr → Result Bool Raised
condition t e = condition_of t.setting.types (vars_of t) e

-- ---- targets (5.2)

-- The place of a target in its variable, counted from 0: an index is evaluated and checked (4.1.1).
abbrev pub aim_at : Task → Option Object → Option PExpr → Result ℕ Raised
aim_at t object None = Ok 0
aim_at t object (Some e) = and_then (value_of t e) (λ v. component_place object v)

-- the variable that a target names (5.2, 8.3)
abbrev pub target_object : Task → PTarget → Option Object
target_object t target = object_named (vars_of t) target.name.name

-- the place of a target in the variable that it names for this task
abbrev pub aim_of : Task → PTarget → Result ℕ Raised
aim_of t target = aim_at t (target_object t target) target.index

-- the variables after the target has got a value, which is checked against its subtype
abbrev pub stored : Task → PTarget → ℕ → Value → Result Variables Raised
stored t target k v = and_then (checked_for (target_object t target) v) (λ w. Ok (set_value (vars_of t) target.name.name k w))

-- ---- assignment (5.2): the target's index first, then the expression

-- the variables after an assignment; the target's index comes before the expression by this project's rule (5.2)
abbrev pub assigned : Task → PTarget → PExpr → Result Variables Raised
assigned t target e = and_then (aim_of t target) (λ k. and_then (value_of t e) (λ v. stored t target k v))

-- the step of an assignment statement (5.2)
abbrev pub assign_step : PTarget → PExpr → PStmts → Task → Task
assign_step target e behind t = or_raised (λ vars. gone_to behind (with_vars t vars)) t (assigned t target e)

-- ---- GET (14.3): the target's index first, then the input; END_ERROR at its end. A value outside the subtype is taken and raises CONSTRAINT_ERROR (this project's rule)

-- GET takes the next integer of the input for the target; at the end of the input END_ERROR is raised (14.3)
abbrev pub got : PTarget → PStmts → Task → ℕ → List ℤ → Task
got target behind t k [] = raised_there raised.End t
got target behind t k (z ∷ rest) =
    or_raised (λ vars. gone_to behind (with_vars (with_input t rest) vars)) (with_input t rest) (stored t target k (Number z))

-- the step of a GET, which takes no input where the target's index raises (this project's rule)
abbrev pub get_step : PTarget → PStmts → Task → Task
get_step target behind t = or_raised (λ k. got target behind t k t.input) t (aim_of t target)

-- ---- PUT, PUT_LINE, NEW_LINE (14.3)

-- a line ends with a line feed (this project's rule)
abbrev pub line_end : List ℕ
line_end = 10 ∷ []

-- the step of a PUT, PUT_LINE or NEW_LINE: the text of its parts is written, with its closing behind it (14.3)
abbrev pub put_step : List PPart → List ℕ → PStmts → Task → Task
put_step parts closing behind t =
    or_raised (λ text. gone_to behind (with_text t (text ++ closing))) t (parts_output t.setting.program.names t.setting.types (vars_of t) parts)

-- ---- if (5.3)

-- the statements of the first arm whose condition holds, and else those of the else part; the conditions are evaluated in order
abbrev pub arm_taken : Task → PArms → PMaybe → Result PMaybe Raised
arm_taken t no_arm otherwise = Ok otherwise
arm_taken t (arm_then (arm e stmts) rest) otherwise = and_then (condition t e) (λ b. if b then Ok (present stmts) else arm_taken t rest otherwise)

-- the step of an if statement, into the branch that is taken (5.3)
abbrev pub if_step : PArms → PMaybe → PStmts → Task → Task
if_step arms otherwise behind t = or_raised (λ branch. entered (stmts_or_none branch) behind t) t (arm_taken t arms otherwise)

-- ---- case (5.4)

-- the end of a choice's range: a single value is its own
abbrev pub choice_end : Task → Option PExpr → Value → Result Value Raised
choice_end t None a = Ok a
choice_end t (Some e) a = value_of t e

-- a value lies in the range between two others (3.5)
abbrev pub lies_between : Value → Value → Value → Bool
lies_between a b v = int_le (position_of a) (position_of v) && int_le (position_of v) (position_of b)

-- the value is the choice, or lies in its range
abbrev pub choice_fits : Task → Value → PChoice → Result Bool Raised
choice_fits t v c = and_then (value_of t c.first) (λ a. and_then (choice_end t c.last a) (λ b. Ok (lies_between a b v)))

-- one of the choices of an arm fits the value (5.4)
abbrev pub choices_fit : Task → Value → List PChoice → Result Bool Raised
choices_fit t v [] = Ok false
choices_fit t v (c ∷ rest) = and_then (choice_fits t v c) (λ b. if b then Ok true else choices_fit t v rest)

-- the statements of the arm with a choice for the value, and else those of `when others`
abbrev pub case_taken : Task → Value → PCaseArms → PMaybe → Result PMaybe Raised
case_taken t v no_case_arm others = Ok others
case_taken t v (case_arm_then (case_arm choices stmts) rest) others =
    and_then (choices_fit t v choices) (λ b. if b then Ok (present stmts) else case_taken t v rest others)

-- the step of a case statement, into the arm that is taken (5.4)
abbrev pub case_step : PExpr → PCaseArms → PMaybe → PStmts → Task → Task
case_step e arms others behind t =
    or_raised (λ branch. entered (stmts_or_none branch) behind t) t (and_then (value_of t e) (λ v. case_taken t v arms others))

-- ---- blocks (5.6)

-- the sequence of statements of a body (5.6)
abbrev pub block_stmts : PBody → PStmts
block_stmts (body stmts handlers) = stmts

-- the exception handlers of a body (11.2)
abbrev pub block_handlers : PBody → PHandlers
block_handlers (body stmts handlers) = handlers

-- the step of a block statement, into a frame of its own; a block here declares nothing (5.6)
abbrev pub block_step : PBody → PStmts → Task → Task
block_step b behind t = pushed (block_stmts b) (Block (block_handlers b)) (vars_of t) behind t

-- ---- exit and raise (5.7, 11.3)

-- the task behind the loop that an exit leaves (5.7)
abbrev pub exited : Option Word → Task → Task
exited w t = with_control t (settled (exited_in w (outer_of t) (place_of t) (vars_of t)))

-- an exit without condition always leaves
abbrev pub exit_test : Task → Option PExpr → Result Bool Raised
exit_test t None = Ok true
exit_test t (Some e) = condition t e

-- the step of an exit statement: out of the loop where its condition holds, and else on (5.7)
abbrev pub exit_step : Option Word → Option PExpr → PStmts → Task → Task
exit_step w test behind t = or_raised (λ b. if b then exited w t else gone_to behind t) t (exit_test t test)

-- the exception of a raise statement: the one that it names, and else the one that is being handled (11.3)
abbrev pub exception_meant : Option Word → Task → Raised
exception_meant (Some w) t = raised_named w.name
exception_meant None t = handled_by t.control

-- the step of a raise statement (11.3)
abbrev pub raise_step : Option Word → Task → Task
raise_step w t = raised_there (exception_meant w t) t

-- ---- loops (5.5)

-- a range of a mark with bounds of its own that is not empty lies in the mark, else CONSTRAINT_ERROR is raised (3.3.2)
abbrev pub range_checked : Limits → Limits → Result Limits Raised
range_checked mark r =
    if is_empty_range r || (lies_in mark r.first && lies_in mark r.last) then Ok r else Err raised.Constraint

-- the range over which a loop counts: evaluated once, the first bound first
abbrev pub counted_range : Task → PDrange → Result Limits Raised
counted_range t (RGiven b) = range_of t.setting.types (vars_of t) (RGiven b)
counted_range t (RMarked x) = and_then (range_of t.setting.types (vars_of t) (RMarked x)) (λ r. range_checked (limits_named t.setting.types x.mark.name) r)

-- the loop parameter, at a position
abbrev pub loop_parameter : Task → Word → ℕ → ℤ → Object
loop_parameter t w k z = record {
  name = w.name;
  limits = limits_of_kind t.setting.types k;
  index = None;
  values = value_at t.setting.types k z ∷ [];
}

-- the first turn of a counting loop: from the lower bound to the upper, or backwards; none where the range is empty
abbrev pub counting_begun : Option Word → Word → Bool → PStmts → PStmts → Task → Limits → Task
counting_begun name w backwards stmts behind t r =
    if is_empty_range r
    then gone_to behind t
    else pushed stmts
    (Loop name (Counting backwards (if backwards then r.first else r.last)) stmts)
    (loop_parameter t w r.kind (if backwards then r.last else r.first) ∷ vars_of t)
    behind t

-- the first step of a loop: the test or the bounds, and the first turn where there is one
abbrev pub loop_step : Option Word → Option PScheme → PStmts → PStmts → Task → Task
loop_step name None stmts behind t = pushed stmts (Loop name Endless stmts) (vars_of t) behind t
loop_step name (Some (LWhile e)) stmts behind t =
    or_raised (λ b. if b then pushed stmts (Loop name (While e) stmts) (vars_of t) behind t else gone_to behind t) t (condition t e)
loop_step name (Some (LFor w backwards range)) stmts behind t =
    or_raised (λ r. counting_begun name w backwards stmts behind t r) t (counted_range t range)

-- the task behind the loop in which it stands
abbrev pub left_in : Turns → List PFrame → Variables → Task → Task
left_in turns [] vars t = t
left_in turns (part ∷ parts) vars t = with_control t (settled_in parts part.rest part.place (drop (brought_by turns) vars))

-- the task behind the loop in which it stands, without the loop parameter (5.5)
abbrev pub loop_left : Turns → Task → Task
loop_left turns t = left_in turns (outer_of t) (vars_of t) t

-- the position of the loop parameter, which is the latest variable
abbrev pub counted_so_far : Variables → ℤ
counted_so_far [] = pos 0
counted_so_far (o ∷ rest) = position_of (value_there o 0)

-- the loop parameter one on, or one back
abbrev pub counted_on : Task → Bool → Variables → Variables
counted_on t backwards [] = []
counted_on t backwards (o ∷ rest) = record {
  name = o.name;
  limits = o.limits;
  index = o.index;
  values = value_at t.setting.types o.limits.kind (if backwards then position_of (value_there o 0) -ℤ pos 1 else position_of (value_there o 0) +ℤ pos 1) ∷ [];
} ∷ rest

-- the last position is not reached yet; it is compared before it is counted on, so that nothing passes the last value of a type
abbrev pub has_turn : Bool → ℤ → ℤ → Bool
has_turn backwards last z = if backwards then int_lt last z else int_lt z last

-- the task at the end of a loop's statements: its next turn, or its leave
abbrev pub turn_step : Turns → PStmts → Task → Task
turn_step Endless stmts t = gone_to stmts t
turn_step (While e) stmts t = or_raised (λ b. if b then gone_to stmts t else loop_left (While e) t) t (condition t e)
turn_step (Counting backwards last) stmts t =
    if has_turn backwards last (counted_so_far (vars_of t))
    then gone_to stmts (with_vars t (counted_on t backwards (vars_of t)))
    else loop_left (Counting backwards last) t

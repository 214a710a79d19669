-- What is seen of a call and its parts where the values of the actuals are not kept.
use Rattle.std.specs.Prelude.{List, [], map, Option, Some, None, option_copied, option_map, Result, Ok, Err}
use Rattle.ada_tree.specs.PlainExpr.{PExpr, plain_expr}
use Rattle.ada_tree.specs.TypeTable.{TypeTable}
use Rattle.ada_value.specs.declared.values.Value.{Value}
use Rattle.ada_value.specs.declared.values.Raised.{Raised}
use Rattle.ada_value.specs.Values.{lower_bound}
use Rattle.ada_value.specs.Variables.{Variables}
use Rattle.task_model.specs.declared.parameters.FormalParameter.{FormalParameter}
use Rattle.task_model.specs.Setting as model
use Rattle.task_model.specs.Calls.{Called, opening}
use Rattle.task_waits.specs.declared.calls.calls.Member.{Member}
use Rattle.task_waits.specs.declared.calls.argument_lists.Lists.{Lists}

-- The index and the actual parameters of a call as the definitions have them.
abbrev pub plain_lists : Lists → model.Lists
plain_lists lists = record { index = option_map plain_expr (option_copied lists.index); actuals = map plain_expr lists.actuals.now }

-- the exception that is raised where no value comes out (11.4.1)
abbrev pub raised_by : {A : Type 0} → Result A Raised → Option Raised
raised_by (Ok a) = None
raised_by (Err x) = Some x

-- The member of an entry that a call names, or the exception that the call raises: what it comes to without the values of its formals (9.5).
abbrev pub member_called : Result Called Raised → Result Member Raised
member_called (Ok c) = Ok record { entry = c.entry; index = c.index }
member_called (Err x) = Err x

-- the values that come out; where an exception is raised there are none
abbrev pub values_or_none : Result (List Value) Raised → List Value
values_or_none (Ok vs) = vs
values_or_none (Err x) = []

-- the opening value of a formal with its actual, if there is one (6.2)
abbrev pub opening_or : TypeTable → Variables → FormalParameter → Option PExpr → Result Value Raised
opening_or types vars formal None = Ok (lower_bound types formal.limits)
opening_or types vars formal (Some e) = opening types vars formal formal.mode e

-- the variables that come out, or those of before where an exception is raised
abbrev pub vars_or : Variables → Result Variables Raised → Variables
vars_or vars (Ok changed) = changed
vars_or vars (Err x) = vars

-- the value with which a formal opens, where one stands for it (6.2)
abbrev pub value_or_lower : TypeTable → FormalParameter → Option Value → Value
value_or_lower types formal None = lower_bound types formal.limits
value_or_lower types formal (Some v) = v

-- Rule AbortOrder: in an abort statement the own task is named and not last; in the body of a task type any object of that type and any member of an array of that type counts as the own task, whatever its index (this project's rule).
use Rattle.std.specs.Prelude.{◌==◌, if◌then◌else◌, List, [], ◌∷◌, Option, Some}
use Rattle.ada_tree.specs.declared.naming.Span.{Span}
use Rattle.syn_event.specs.declared.meanings.Meant.{Meant}
use Rattle.syn_event.specs.declared.meanings.Meant.TheVariants.{TaskOf}
use Rattle.syn_event.specs.CheckScope.{EnclosingUnit, CheckScope, meaning, CheckDemand, aborts_before}

-- a task that runs the body in which the place is
abbrev pub own_task : Option EnclosingUnit → Option Meant → Span → List Span
own_task (Some own) (Some (TaskOf unit)) s = if own.name.0 == unit.0 then s ∷ [] else []
own_task _ _ s = []

-- The names of own tasks with another name behind them.
abbrev pub abort_order : CheckScope → CheckDemand → List Span
abort_order around (aborts_before w) = own_task around.own (meaning around w.name) w.span
abort_order around _ = []

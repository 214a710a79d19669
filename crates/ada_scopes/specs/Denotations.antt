-- What contracts see of what names mean, and of the names that can be used at a place.
use Rattle.std.specs.Prelude.{ℕ, List, map}
use Rattle.ada_static_rules.specs.Scope as scope
use Rattle.ada_scopes.specs.declared.denotations.Thing.{Thing}
use Rattle.ada_scopes.specs.declared.denotations.Thing.TheVariants.{TypeMark, TaskType, SingleTask, TaskObject, TaskArray, Variable, ConstantObject, Parameter, LoopParameter, Literal, AnException, MainProcedure, AnotherUnit, Unclear}
use Rattle.ada_scopes.specs.Entries.{plain_range}

abbrev pub plain_thing : Thing → scope.Thing
plain_thing (TypeMark m) = scope.TypeMark m
plain_thing (TaskType e) = scope.TaskType e.value
plain_thing (SingleTask e) = scope.SingleTask e.value
plain_thing (TaskObject e) = scope.TaskObject e.value
plain_thing (TaskArray r e) = scope.TaskArray (plain_range r) e.value
plain_thing (Variable m) = scope.Variable m
plain_thing (ConstantObject m) = scope.ConstantObject m
plain_thing (Parameter mode m) = scope.Parameter mode m
plain_thing (LoopParameter m) = scope.LoopParameter m
plain_thing (Literal k) = scope.Literal k
plain_thing AnException = scope.AnException
plain_thing MainProcedure = scope.MainProcedure
plain_thing AnotherUnit = scope.AnotherUnit
plain_thing Unclear = scope.Unclear

-- the names with what they mean
abbrev pub plain_names : List (ℕ × Thing) → List scope.NameMeaning
plain_names names = map (λ s. record { name = s.0; thing = plain_thing s.1 }) names

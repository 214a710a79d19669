-- Exceptions, results and variables with other ids in the place of their own; values stay (3.3, 11.1).
use Rattle.std.specs.Prelude.{Err, Ok, Result, map, ℕ}
use Rattle.ada_static_rules.specs.RuleRangeBad.{raised}
use Rattle.ada_value.specs.Variables.{Object, Variables}
use Rattle.ada_value.specs.declared.values.Raised.{Raised}
use Rattle.replay_runs.specs.same.Renamed.{renamed_id}
use Rattle.ada_value.specs.declared.values.Raised.TheVariants as raised

module _ (f : ℕ → ℕ) where
  abbrev pub renamed_raised : Raised → Raised
  renamed_raised raised.Constraint = raised.Constraint
  renamed_raised raised.Numeric = raised.Numeric
  renamed_raised raised.Program = raised.Program
  renamed_raised raised.Tasking = raised.Tasking
  renamed_raised raised.Storage = raised.Storage
  renamed_raised raised.End = raised.End
  renamed_raised (raised.Other id) = raised.Other (renamed_id f id)

  -- what comes out is changed by h, an exception has another id
  abbrev pub renamed_result : {A B : Type 0} → (A → B) → Result A Raised → Result B Raised
  renamed_result h (Ok a) = Ok (h a)
  renamed_result h (Err x) = Err (renamed_raised x)

  abbrev pub renamed_object : Object → Object
  renamed_object o = record { name = renamed_id f o.name; limits = o.limits; index = o.index; values = o.values }

  abbrev pub renamed_vars : Variables → Variables
  renamed_vars vars = map renamed_object vars

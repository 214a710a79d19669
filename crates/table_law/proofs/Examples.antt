-- The controller of the example is as the law asks.
use Rattle.std.proofs.Common.{◌≡◌, ℕ, zero, suc, [], ◌∷◌, ◌++◌, codes, slice_get, drop, Some, refl, subst, arith}
use Rattle.common_lemmas.proofs.Options.{some_same, not_missing}
use Rattle.syn_event.specs.declared.numbering.TaskInfo.{TaskInfo}
use Rattle.replay_model.specs.tables.ControlTexts.{with_control_names}
use Rattle.ada_tree.specs.NameList.{predefined}
use Rattle.table_law.specs.Controllers.{HasJoin, IsController, CanMakeAll}
use Rattle.table_law.specs.Examples.{names, controller, entries, operations, own_tasks}
use Rattle.table_law.proofs.Apart.{control_names_are_apart, control_names_are_there}

example-joins : (j : ℕ) (info : TaskInfo) → slice_get (drop 1 own_tasks) j ≡ Some info → HasJoin controller (suc j) info.name (suc j)
unfolding with_control_names
example-joins zero info there = subst (λ (i : TaskInfo). HasJoin controller 1 i.name 1) (some_same there) (record { task = refl; found = refl; plain = refl })
example-joins (suc j) info there = absurd (not_missing info there)

pub example_is_controller : IsController controller entries
unfolding with_control_names
example_is_controller = record {
  apart = control_names_are_apart names (control_names_are_there (predefined ++ codes "P" ∷ codes "B" ∷ codes "DED_CONTROL" ∷ []));
  integer = refl;
  of_kind = refl;
  of_mark = refl;
  go = record { found = refl; range = refl };
  done = record { found = refl; range = refl };
  hold = refl;
  joins = example-joins;
  few = omega arith;
}

pub example_makes : CanMakeAll controller operations
example_makes = record { each = ((omega arith, omega arith, omega arith, refl), (omega arith, ((0, refl, omega arith), tt))); few = omega arith }

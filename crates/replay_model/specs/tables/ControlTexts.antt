-- The names in the body of the controller (this project's rule): of the entries that it accepts and calls, of the formals of GO, of the five tables and of the loop parameter.
use Rattle.std.specs.Prelude.{ℕ, List, [], ◌∷◌}
use Rattle.std.specs.List.{fold}
use Rattle.ada_tree.specs.NameList.{interned}
use Rattle.normal_model.specs.Names.{id_of}
use Rattle.replay_model.specs.Names.{kind_text, argument_text, index_text, go_text, done_text, hold_text, join_text, operations_text, tasks_text, kinds_text, arguments_text, indices_text, counter_text}
use Rattle.replay_model.specs.declared.tables.names.ControlNames.{ControlNames}

-- The names, in the order in which they are interned.
abbrev pub control_texts : List (List ℕ)
control_texts =
    kind_text ∷ argument_text ∷ index_text ∷ go_text ∷ done_text ∷ hold_text ∷ join_text
    ∷ operations_text ∷ tasks_text ∷ kinds_text ∷ arguments_text ∷ indices_text ∷ counter_text ∷ []

-- names, and these behind them, each where it is not among them
unfoldable pub with_control_names : List (List ℕ) → List (List ℕ)
with_control_names names = fold interned names control_texts

-- The ids that they have among names.
abbrev pub ids_in : List (List ℕ) → ControlNames
ids_in names = record {
  kind = id_of names kind_text;
  argument = id_of names argument_text;
  index = id_of names index_text;
  go = id_of names go_text;
  done = id_of names done_text;
  hold = id_of names hold_text;
  join = id_of names join_text;
  operations = id_of names operations_text;
  tasks = id_of names tasks_text;
  kinds = id_of names kinds_text;
  arguments = id_of names arguments_text;
  indices = id_of names indices_text;
  counter = id_of names counter_text;
}

-- The names that a replay text adds, and their ids among names.
use Rattle.std.specs.Prelude.{ℕ, List, fold}
use Rattle.ada_tree.specs.NameList.{interned}
use Rattle.normal_model.specs.Names.{id_of}
use Rattle.replay_model.specs.Names.{kind_text, argument_text, index_text, control_text, go_text, done_text, hold_text, idle_text, stop_text, rest_text, never_text, join_text, added_texts}
use Rattle.replay_asking.specs.declared.names.added_names.AddedNames.{AddedNames}

abbrev pub added_in : List (List ℕ) → AddedNames
added_in names = record {
  kind = id_of names kind_text;
  argument = id_of names argument_text;
  index = id_of names index_text;
  control = id_of names control_text;
  go = id_of names go_text;
  done = id_of names done_text;
  hold = id_of names hold_text;
  idle = id_of names idle_text;
  stop = id_of names stop_text;
  rest = id_of names rest_text;
  never = id_of names never_text;
  join = id_of names join_text;
}

-- names, and those that every replay text adds
unfoldable pub with_added : List (List ℕ) → List (List ℕ)
with_added names = fold interned names added_texts

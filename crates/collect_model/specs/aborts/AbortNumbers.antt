-- The numbers of a collecting text of a program with abort statements (this project's rule): those of the program, and behind them the recorder and its entry.
use Rattle.ada_tree.specs.PlainProgram.{PProgram}
use Rattle.ada_tree.specs.TypeTable.{TypeTable}
use Rattle.syn_event.specs.Numbering.{Numbering}
use Rattle.replay_model.specs.ReplayTree.{normal_setting}
use Rattle.collect_model.specs.Names.{added_in}
use Rattle.collect_model.specs.CollectNumbers.{numbers_with}
use Rattle.collect_model.specs.aborts.AbortTeller.{names_told}

-- Those of the text of a program with these types and numbers.
abbrev pub abort_numbers : PProgram → TypeTable → Numbering → Numbering
abort_numbers p types numbers =
    numbers_with (added_in (names_told (normal_setting p types numbers).program)) (normal_setting p types numbers).numbers

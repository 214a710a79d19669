-- The collecting text of a program, whether an abort statement stands in it or not, and its numbers (this project's rule).
use Rattle.std.specs.Prelude.{if◌then◌else◌}
use Rattle.ada_tree.specs.TypeTable.{TypeTable}
use Rattle.ada_tree.specs.PlainProgram.{PProgram}
use Rattle.syn_event.specs.Numbering.{Numbering}
use Rattle.collect_model.specs.CollectTree.{collect_tree}
use Rattle.collect_model.specs.CollectNumbers.{collect_numbers}
use Rattle.collect_model.specs.aborts.AbortTree.{abort_tree}
use Rattle.collect_model.specs.aborts.AbortNumbers.{abort_numbers}
use Rattle.collect_model.specs.aborts.Promised.{has_abort}

abbrev pub collecting_tree : PProgram → TypeTable → Numbering → PProgram
collecting_tree p types numbers = if has_abort p then abort_tree p types numbers else collect_tree p types numbers

abbrev pub collecting_numbers : PProgram → TypeTable → Numbering → Numbering
collecting_numbers p types numbers = if has_abort p then abort_numbers p types numbers else collect_numbers p types numbers

use Rattle.std.proofs.Common.{◌++◌, List, take, map, option_map}
use Rattle.ada_tree.specs.PlainStmt.{PChoice, plain_choice}
use Rattle.ada_scopes.specs.Entries.{plain_range}
use Rattle.ada_entry_rules.specs.case_choices.inner.Chosen.{AreChosen}
use Rattle.ada_entry_rules.proofs.case_choices.choices.choose_all.Given as goal

-- so many choices are looked at behind those before
abbrev pub invariant-loop-choice : goal.invariant-loop-choice
invariant-loop-choice l = (done : List PChoice) → AreChosen l.scope l.kind (option_map plain_range l.values) done l.fn.chosen → AreChosen l.scope l.kind (option_map plain_range l.values) (done ++ map plain_choice (take l.choice-index l.choices)) l.all

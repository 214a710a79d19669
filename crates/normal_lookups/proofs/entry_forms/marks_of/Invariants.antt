use Rattle.std.proofs.Common.{◌≡◌, map, take}
use Rattle.ada_tree.specs.PlainStmt.{plain_formal}
use Rattle.normal_model.specs.Calls.{slots_of}
use Rattle.normal_lookups.proofs.entry_forms.marks_of.Given as goal

abbrev pub invariant-loop-formal : goal.invariant-loop-formal
invariant-loop-formal l = l.marks.items ≡ map (λ x. x.mark) (slots_of (map plain_formal (take l.formal-index l.formals)))

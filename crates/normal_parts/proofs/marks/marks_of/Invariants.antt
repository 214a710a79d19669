use Rattle.std.proofs.Common.{◌≡◌, Some, map, take}
use Rattle.normal_model.specs.Ranges.{range_of_info}
use Rattle.normal_parts.specs.Marking.{mark_of_range}
use Rattle.normal_parts.proofs.marks.marks_of.Given as goal

abbrev pub invariant-loop-info : goal.invariant-loop-info
invariant-loop-info l = record {
  marks : l.marks.items ≡ map (λ info. mark_of_range l.lookups.types (range_of_info l.lookups (Some info))) (take l._info-index l.lookups.numbers.entries);
  number : l.entry ≡ l._info-index;
}

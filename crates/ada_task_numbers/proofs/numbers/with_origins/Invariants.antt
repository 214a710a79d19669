use Rattle.std.proofs.Common.{◌≡◌, map, take}
use Rattle.syn_event.specs.AddedNames.{with_origin}
use Rattle.ada_task_numbers.proofs.numbers.with_origins.Given as goal

-- so many entries have what they stand for
abbrev pub invariant-loop-info : goal.invariant-loop-info
invariant-loop-info l = l.entries.items ≡ map (with_origin l.names l.all) (take l.info-index l.all)

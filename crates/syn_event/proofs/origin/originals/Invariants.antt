use Rattle.std.proofs.Common.{◌≡◌, count_by, take, ◌≤◌}
use Rattle.syn_event.specs.Numbering.{is_original_entry}
use Rattle.syn_event.proofs.origin.originals.Given as goal

-- the count is that of the entries gone by, and no more than those
abbrev pub invariant-loop-info : goal.invariant-loop-info
invariant-loop-info l = (l.count ≡ count_by is_original_entry (take l.info-index l.entries)) × (l.count ≤ l.info-index)

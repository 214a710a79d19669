use Rattle.std.proofs.Common.{◌≡◌, ◌≤◌, count_by, take}
use Rattle.seq_file.specs.text_lines.Lines.{is_line_end}
use Rattle.debug_collect.proofs.loads.gathering.Lines.count.Given as goal

-- the count is that of the bytes gone by
abbrev pub invariant-loop-byte : goal.invariant-loop-byte
invariant-loop-byte l = (l.count ≡ count_by is_line_end (take l.byte-index l.self.bytes)) × (l.count ≤ l.byte-index)

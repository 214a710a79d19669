use Rattle.std.proofs.Common.{◌≡◌, ◌+◌, drop}
use Rattle.debug_run.specs.texts.CheckText.{entry_line, entry_lines}
use Rattle.debug_run.specs.texts.RunText.{lines_at}
use Rattle.debug_run.proofs.texts.Lining.{HasLines}
use Rattle.debug_run.proofs.texts.check_text.put_entries.Given as goal

-- the lines so far, and those of the entries that are left, are all lines; no fault was met
abbrev pub invariant-loop-k : goal.invariant-loop-k
invariant-loop-k g l =
    HasLines (g.K.Sink.told l.initial.out) (g.K.Sink.told l.out) (entry_lines l.names l.entries) (lines_at (λ place info. entry_line l.names (place + 1) info) l.k (drop l.k l.entries))
    × (g.K.Sink.faults l.out ≡ g.K.Sink.faults l.initial.out)

use Rattle.std.proofs.Common.{◌≡◌, ◌++◌, length}
use Rattle.ded_io.specs.Written.{each_text}
use Rattle.debug_run.specs.texts.OutputText.{finished_lines}
use Rattle.collect_runs.specs.files.Files.{ended_line}
use Rattle.debug_collect.proofs.recording.put_finished.Given as goal

-- the lines so far and those that are left are those of the output
abbrev pub invariant-loop-line : goal.invariant-loop-line
invariant-loop-line l = l.file.items ++ each_text ended_line (finished_lines l.rest) ≡ l.initial.file.items ++ each_text ended_line (finished_lines l.output)

abbrev pub decreases-loop-line : goal.decreases-loop-line
decreases-loop-line l = length l.rest

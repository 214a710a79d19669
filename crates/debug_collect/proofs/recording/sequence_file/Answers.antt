use Rattle.std.proofs.Common.{◌∙◌}
use Rattle.ded_io.specs.Written.{each_text}
use Rattle.collect_runs.specs.files.Files.{end_line, ended_line}
use Rattle.debug_collect.specs.Recorded.{event_lines, is_ended}
use Rattle.debug_collect.proofs.Files.{file-made}
use Rattle.debug_collect.proofs.recording.sequence_file.Goals as goal

pub returns : goal.returns
returns c =
    file-made c.args.names.now c.args.numbers.now (each_text ended_line (event_lines c.args.output.now)) (end_line (is_ended c.args.end)) c.in_ok-file.file.items c.push.new.self.items c.put_events.new.file.items c.put_end.new.file.items
    (c.in_ok-file.ensures.items ∙ c.as_bytes.ensures.value ∙ c.in_ok-header.ensures) c.in_ok-push.ensures.items c.in_ok-put_events.ensures c.in_ok-put_end.ensures

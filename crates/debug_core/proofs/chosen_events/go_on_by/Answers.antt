use Rattle.debug_core.proofs.Originals.{original_is_upper, original_has_lists}
use Rattle.debug_core.proofs.chosen_events.go_on_by.Goals as goal

pub report_continued-requires-clause-name : goal.report_continued-requires-clause-name
report_continued-requires-clause-name g c = original_is_upper c.args.start.now c.requires.original

pub report_continued-requires-clause-tasks : goal.report_continued-requires-clause-tasks
report_continued-requires-clause-tasks g c = original_has_lists c.args.start.now c.requires.original

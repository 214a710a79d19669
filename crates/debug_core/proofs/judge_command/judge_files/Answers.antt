use Rattle.std.proofs.Common.{List, ℕ, inl, subst}
use Rattle.debug_outcome.specs.files.Giving.{inputs_in}
use Rattle.debug_outcome.specs.Coming.{Comes, Never}
use Rattle.debug_outcome.proofs.Comings.{comes_more}
use Rattle.debug_judge.specs.JudgeOutcomes.{SequenceMeans}
use Rattle.debug_core.specs.JudgeMeaning.{JudgeMeans}
use Rattle.debug_core.specs.inner.Started.{setup_of}
use Rattle.debug_core.proofs.Originals.{start_is_original, original_is_upper, original_has_lists}
use Rattle.debug_core.proofs.judge_command.judge_files.Goals as goal

pub report_lines-requires-clause-name : goal.report_lines-requires-clause-name
report_lines-requires-clause-name g c = original_is_upper c.in-Ok.start (start_is_original _ _ c.in-Ok.start c.in-Ok.ensures.start)

pub report_lines-requires-clause-tasks : goal.report_lines-requires-clause-tasks
report_lines-requires-clause-tasks g c = original_has_lists c.in-Ok.start (start_is_original _ _ c.in-Ok.start c.in-Ok.ensures.start)

pub returns-in-Ok : goal.returns-in-Ok
returns-in-Ok g c =
    comes_more (SequenceMeans (setup_of c.in-Ok.start) c.in-Ok.start.legal.numbers c.args.found.now.sequence.items c.args.bound) (JudgeMeans c.args.found.now.start.text.items (inputs_in c.args.found.now.start) c.args.found.now.sequence.items c.args.bound) Never Never (g.O.Sink.told c.args.out.now) (g.O.Sink.told c.report_lines.new.out) (g.O.Sink.faults c.args.out.now) (g.O.Sink.faults c.report_lines.new.out) c.report_lines.result
    (λ o judged. inl (record { setup = setup_of c.in-Ok.start; numbers = c.in-Ok.start.legal.numbers; is_start = c.in-Ok.ensures.start; judged = judged })) (λ o never. never)
    (subst (λ (lines : List ℕ). Comes (SequenceMeans (setup_of c.in-Ok.start) c.in-Ok.start.legal.numbers lines c.args.bound) Never (g.O.Sink.told c.args.out.now) (g.O.Sink.told c.report_lines.new.out) (g.O.Sink.faults c.args.out.now) (g.O.Sink.faults c.report_lines.new.out) c.report_lines.result)
    c.as_slice.ensures.value c.report_lines.ensures)

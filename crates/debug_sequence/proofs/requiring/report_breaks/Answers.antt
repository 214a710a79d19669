use Rattle.std.proofs.Common.{◌≡◌, List, Err, sym, subst}
use Rattle.event_machine.specs.declared.Event.{Event}
use Rattle.syn_constraint.specs.declared.constraints.Constraint.{Constraint}
use Rattle.ded_io.specs.Written.{each_text}
use Rattle.debug_outcome.specs.Coming.{Comes, Never, stop_by}
use Rattle.debug_outcome.specs.Outcomes.{Outcome, writes}
use Rattle.debug_outcome.specs.declared.stopping.Stop.{Stop}
use Rattle.debug_outcome.proofs.Comings.{comes_more, stops_come}
use Rattle.debug_sequence.specs.declared.requiring.Finding.{Finding}
use Rattle.debug_sequence.specs.RequireOutcomes.{AreFindings, RequiresLines, finding_line, findings_status, refusal_of_constraints}
use Rattle.debug_sequence.proofs.Called.{refused_sequence, bad_constraints, all_told}
use Rattle.debug_sequence.proofs.requiring.report_breaks.Goals as goal

pub returns-in-Err : goal.returns-in-Err
returns-in-Err g c =
    let A : Outcome → Type 0 = RequiresLines c.args.names.now c.args.numbers.now c.args.lines.now c.args.constraints.now in
    stops_come A Never (g.K.Sink.told c.args.out.now) (g.K.Sink.faults c.args.out.now) c.in-Err.stop
    (refused_sequence c.args.names.now c.args.numbers.now c.args.lines.now c.args.constraints.now c.in-Err.stop c.in-Err.ensures.refused)

pub returns-in-Err-read_constraints : goal.returns-in-Err-read_constraints
returns-in-Err-read_constraints g c =
    let A : Outcome → Type 0 = RequiresLines c.args.names.now c.args.numbers.now c.args.lines.now c.args.constraints.now in
    subst
    (λ (stop : Stop). Comes A Never (g.K.Sink.told c.args.out.now) (g.K.Sink.told c.args.out.now) (g.K.Sink.faults c.args.out.now) (g.K.Sink.faults c.args.out.now) (Err stop))
    (sym c.constraints_failure.ensures)
    (stops_come A Never (g.K.Sink.told c.args.out.now) (g.K.Sink.faults c.args.out.now) (stop_by (refusal_of_constraints c.in-Err-read_constraints.error))
    (bad_constraints c.args.names.now c.args.numbers.now c.args.lines.now c.args.constraints.now c.in-Ok.events.items c.in-Ok.ensures.reads c.in-Err-read_constraints.error c.in-Err-read_constraints.ensures.first_fault))

pub returns-in-Ok-findings_of : goal.returns-in-Ok-findings_of
returns-in-Ok-findings_of g c =
    let events : List Event = c.in-Ok.events.items in
    let constraints : List Constraint = c.in-Ok-read_constraints.constraints.items in
    let findings : List Finding = c.in-Ok-findings_of.findings.items in
    comes_more (λ o. o ≡ writes (each_text finding_line findings) (findings_status findings)) (RequiresLines c.args.names.now c.args.numbers.now c.args.lines.now c.args.constraints.now) Never Never
    (g.K.Sink.told c.args.out.now) (g.K.Sink.told c.put_report.new.out) (g.K.Sink.faults c.args.out.now) (g.K.Sink.faults c.put_report.new.out) c.put_report.result
    (λ o is. all_told c.args.names.now c.args.numbers.now c.args.lines.now c.args.constraints.now events c.in-Ok.ensures.reads constraints findings o c.in-Ok-read_constraints.ensures.reads
    (subst (λ (es : List Event). AreFindings es 1 constraints findings) c.deref-2.ensures.value
    (subst (λ (cs : List Constraint). AreFindings c.deref-2.result.now 1 cs findings) c.deref.ensures.value c.in-Ok-findings_of.ensures)) is)
    (λ o never. never)
    (subst
    (λ (fs : List Finding). Comes (λ o. o ≡ writes (each_text finding_line fs) (findings_status fs)) Never (g.K.Sink.told c.args.out.now) (g.K.Sink.told c.put_report.new.out) (g.K.Sink.faults c.args.out.now) (g.K.Sink.faults c.put_report.new.out) c.put_report.result)
    c.deref-in-Ok-findings_of.ensures.value c.put_report.ensures)

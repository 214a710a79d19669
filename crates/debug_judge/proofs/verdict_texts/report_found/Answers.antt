use Rattle.std.proofs.Common.{◌∙◌, ap, sym, subst, Ok, Err}
use Rattle.std.specs.Option.{option_copied}
use Rattle.ada_tree.specs.PlainProgram.{PProgram, plain_program}
use Rattle.ded_io.specs.Written.{Wrote}
use Rattle.ded_io.specs.declared.writing.SinkError.{SinkError}
use Rattle.syn_event.specs.Numbering.{Numbering}
use Rattle.feasible.specs.Failing.{view_at}
use Rattle.divergence.specs.JudgeText.{report_text}
use Rattle.debug_judge.proofs.Giving.{found_seen}
use Rattle.debug_judge.proofs.Judged.{verdict_put, verdict_cut}
use Rattle.debug_judge.proofs.verdict_texts.report_found.Goals as goal

pub returns-in-Ok : goal.returns-in-Ok
returns-in-Ok g c = λ setup bound events of end f.
    let p : PProgram = plain_program c.program.result.now in
    verdict_put setup p.names c.args.links.now.numbers bound c.args.found.now.judge.bound events c.args.found.now.judge c.args.found.now.verdict _ _
    (g.K.Sink.told c.args.out.now) (g.K.Sink.told c.report.new.out) (g.K.Sink.faults c.args.out.now) (g.K.Sink.faults c.report.new.out)
    f.verdict (found_seen setup c.args.links.now.numbers bound events c.args.found.now end f) f.count (c.as_ref.ensures.value ∙ f.event) f.bound_is
    (ap (λ (q : PProgram). q.names) (c.program.ensures ∙ sym of))
    _ _ c.in-Ok.field-0 c.status_of.result
    (subst
    (λ (n : Numbering). Wrote {E = SinkError} (Ok c.in-Ok.field-0) (g.K.Sink.told c.args.out.now) (g.K.Sink.told c.report.new.out)
    (report_text p.names n c.args.found.now.judge.bound (view_at c.args.found.now.judge.tasks) c.args.found.now.count c.args.found.now.verdict (option_copied c.as_ref.result)))
    c.numbers.ensures c.in-Ok.ensures.bytes)
    c.in-Ok.ensures.cause c.status_of.ensures

pub returns-in-Err : goal.returns-in-Err
returns-in-Err g c = λ setup bound events of end f.
    let p : PProgram = plain_program c.program.result.now in
    verdict_cut setup p.names c.args.links.now.numbers bound c.args.found.now.judge.bound events c.args.found.now.judge c.args.found.now.verdict _ _
    (g.K.Sink.told c.args.out.now) (g.K.Sink.told c.report.new.out) (g.K.Sink.faults c.args.out.now) (g.K.Sink.faults c.report.new.out)
    f.verdict (found_seen setup c.args.links.now.numbers bound events c.args.found.now end f) f.count (c.as_ref.ensures.value ∙ f.event) f.bound_is
    (ap (λ (q : PProgram). q.names) (c.program.ensures ∙ sym of))
    _ _ c.in-Err.field-0
    (subst
    (λ (n : Numbering). Wrote {A = Unit {0}} (Err c.in-Err.field-0) (g.K.Sink.told c.args.out.now) (g.K.Sink.told c.report.new.out)
    (report_text p.names n c.args.found.now.judge.bound (view_at c.args.found.now.judge.tasks) c.args.found.now.count c.args.found.now.verdict (option_copied c.as_ref.result)))
    c.numbers.ensures c.in-Err.ensures.bytes)
    c.in-Err.ensures.cause

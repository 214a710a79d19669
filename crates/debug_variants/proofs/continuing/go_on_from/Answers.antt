use Rattle.std.proofs.Common.{◌++◌, List, ◌∙◌, ap, sym, subst}
use Rattle.ada_tree.specs.PlainProgram.{PProgram, plain_program}
use Rattle.event_machine.specs.declared.Event.{Event}
use Rattle.syn_event.specs.Numbering.{Numbering}
use Rattle.task_machine.specs.declared.verdict.Verdict.TheVariants.{Feasible}
use Rattle.task_machine.specs.Judging.{VerdictIs}
use Rattle.race_variant.specs.Continuing.{IsContinued}
use Rattle.debug_variants.proofs.Files.{file_put, file_cut}
use Rattle.debug_variants.proofs.Verdicts.{feasible_found}
use Rattle.debug_variants.proofs.continuing.go_on_from.Goals as goal

pub returns-in-Ok-write_seq : goal.returns-in-Ok-write_seq
returns-in-Ok-write_seq g c = λ setup of s.
    let p : PProgram = plain_program c.program.result.now in
    file_put g.C.Chooser.word g.C.Chooser.next setup c.args.links.now.numbers c.args.judge.now.bound c.args.events.items c.args.choices.now c.args.count c.go_on.new.chosen.items c.in-Ok.end
    (subst (λ (n : Numbering). VerdictIs setup n c.args.judge.now.bound c.args.events.items Feasible) (sym c.requires.numbers)
    (feasible_found setup c.args.judge.now.numbers c.args.judge.now.bound c.args.events.items c.args.judge.now.verdict s.verdict c.requires.feasible))
    c.requires.fit c.requires.few
    (subst (λ (n : Numbering). IsContinued g.C.Chooser.word g.C.Chooser.next setup n c.args.judge.now.bound c.args.events.items c.args.choices.now c.args.count c.go_on.new.chosen.items c.in-Ok.end)
    (sym c.requires.numbers) (c.in-Ok.ensures.continued setup c.args.events.items s))
    p.names c.numbers-2.result.now c.deref-2.result.now (ap (λ (q : PProgram). q.names) (c.program.ensures ∙ sym of)) c.numbers-2.ensures
    (c.deref-2.ensures.value ∙ c.in-Ok-extend_from_slice.ensures.items ∙ ap (λ (es : List Event). c.args.events.items ++ es) c.deref.ensures.value)
    c.in-Ok-write_seq.ensures.read_back
    (g.K.Sink.told c.args.out.now) (g.K.Sink.told c.write_seq.new.out) (g.K.Sink.faults c.args.out.now) (g.K.Sink.faults c.write_seq.new.out)
    _ _ c.in-Ok-write_seq.field-0 c.status_of.result c.in-Ok-write_seq.ensures.bytes c.in-Ok-write_seq.ensures.cause c.status_of.ensures

pub returns : goal.returns
returns g c = λ setup of s.
    let p : PProgram = plain_program c.program.result.now in
    file_cut g.C.Chooser.word g.C.Chooser.next setup c.args.links.now.numbers c.args.judge.now.bound c.args.events.items c.args.choices.now c.args.count c.go_on.new.chosen.items c.in-Ok.end
    (subst (λ (n : Numbering). VerdictIs setup n c.args.judge.now.bound c.args.events.items Feasible) (sym c.requires.numbers)
    (feasible_found setup c.args.judge.now.numbers c.args.judge.now.bound c.args.events.items c.args.judge.now.verdict s.verdict c.requires.feasible))
    c.requires.fit c.requires.few
    (subst (λ (n : Numbering). IsContinued g.C.Chooser.word g.C.Chooser.next setup n c.args.judge.now.bound c.args.events.items c.args.choices.now c.args.count c.go_on.new.chosen.items c.in-Ok.end)
    (sym c.requires.numbers) (c.in-Ok.ensures.continued setup c.args.events.items s))
    p.names c.numbers-2.result.now c.deref-2.result.now (ap (λ (q : PProgram). q.names) (c.program.ensures ∙ sym of)) c.numbers-2.ensures
    (c.deref-2.ensures.value ∙ c.in-Ok-extend_from_slice.ensures.items ∙ ap (λ (es : List Event). c.args.events.items ++ es) c.deref.ensures.value)
    c.in-Err-write_seq.ensures.read_back
    (g.K.Sink.told c.args.out.now) (g.K.Sink.told c.write_seq.new.out) (g.K.Sink.faults c.args.out.now) (g.K.Sink.faults c.write_seq.new.out)
    _ _ c.in-Err-write_seq.field-0 c.in-Err-write_seq.ensures.bytes c.in-Err-write_seq.ensures.cause

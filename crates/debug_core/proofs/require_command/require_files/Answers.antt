use Rattle.std.proofs.Common.{List, ℕ, inl, subst}
use Rattle.ada_tree.specs.PlainProgram.{PProgram, plain_program}
use Rattle.syn_event.specs.declared.numbering.Mode.TheVariants.{Original}
use Rattle.debug_outcome.specs.Coming.{Comes, Never}
use Rattle.debug_outcome.proofs.Comings.{comes_more}
use Rattle.debug_sequence.specs.RequireOutcomes.{RequiresLines}
use Rattle.debug_core.specs.LegalTexts.{IsLegalText}
use Rattle.debug_core.specs.RequireMeaning.{RequireMeans}
use Rattle.debug_core.proofs.Originals.{text_is_upper, text_has_lists}
use Rattle.debug_core.proofs.require_command.require_files.Goals as goal

pub report_breaks-requires-clause-name : goal.report_breaks-requires-clause-name
report_breaks-requires-clause-name g c = text_is_upper _ (plain_program c.in-Ok.legal.program) c.in-Ok.legal.types c.in-Ok.legal.numbers c.in-Ok.ensures.program

pub report_breaks-requires-clause-tasks : goal.report_breaks-requires-clause-tasks
report_breaks-requires-clause-tasks g c = text_has_lists _ (plain_program c.in-Ok.legal.program) c.in-Ok.legal.types c.in-Ok.legal.numbers c.in-Ok.ensures.program

pub returns-in-Ok : goal.returns-in-Ok
returns-in-Ok g c =
    let p : PProgram = plain_program c.in-Ok.legal.program in
    let text : List ℕ = c.args.found.now.sequenced.text.items in
    let lines : List ℕ = c.args.found.now.sequenced.sequence.items in
    let bytes : List ℕ = c.args.found.now.constraints.items in
    let legal : IsLegalText text Original p c.in-Ok.legal.types c.in-Ok.legal.numbers = subst (λ (t : List ℕ). IsLegalText t Original p c.in-Ok.legal.types c.in-Ok.legal.numbers) c.as_slice.ensures.value c.in-Ok.ensures.program in
    comes_more (RequiresLines p.names c.in-Ok.legal.numbers lines bytes) (RequireMeans text lines bytes) Never Never (g.O.Sink.told c.args.out.now) (g.O.Sink.told c.report_breaks.new.out) (g.O.Sink.faults c.args.out.now) (g.O.Sink.faults c.report_breaks.new.out) c.report_breaks.result
    (λ o required. inl (record { program = p; types = c.in-Ok.legal.types; numbers = c.in-Ok.legal.numbers; is_legal = legal; required = required })) (λ o never. never)
    (subst (λ (l : List ℕ). Comes (RequiresLines p.names c.in-Ok.legal.numbers l bytes) Never (g.O.Sink.told c.args.out.now) (g.O.Sink.told c.report_breaks.new.out) (g.O.Sink.faults c.args.out.now) (g.O.Sink.faults c.report_breaks.new.out) c.report_breaks.result)
    c.as_slice-in-Ok.ensures.value
    (subst (λ (b : List ℕ). Comes (RequiresLines p.names c.in-Ok.legal.numbers c.as_slice-in-Ok.result.now b) Never (g.O.Sink.told c.args.out.now) (g.O.Sink.told c.report_breaks.new.out) (g.O.Sink.faults c.args.out.now) (g.O.Sink.faults c.report_breaks.new.out) c.report_breaks.result)
    c.as_slice-in-Ok-2.ensures.value c.report_breaks.ensures))

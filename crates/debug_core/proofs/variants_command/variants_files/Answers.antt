use Rattle.std.proofs.Common.{List, ℕ, inl, subst}
use Rattle.debug_outcome.specs.files.Giving.{inputs_in}
use Rattle.debug_outcome.specs.Coming.{Comes}
use Rattle.debug_outcome.proofs.Comings.{comes_more}
use Rattle.debug_variants.specs.VariantsOutcomes.{VariantsMean}
use Rattle.debug_core.specs.VariantsMeaning.{VariantsMeans}
use Rattle.debug_core.specs.inner.Started.{setup_of}
use Rattle.debug_core.proofs.Originals.{start_is_original, original_is_upper, original_has_lists}
use Rattle.debug_core.proofs.variants_command.variants_files.Goals as goal

pub report_variants-requires-clause-name : goal.report_variants-requires-clause-name
report_variants-requires-clause-name g c = original_is_upper c.in-Ok.start (start_is_original _ _ c.in-Ok.start c.in-Ok.ensures.start)

pub report_variants-requires-clause-tasks : goal.report_variants-requires-clause-tasks
report_variants-requires-clause-tasks g c = original_has_lists c.in-Ok.start (start_is_original _ _ c.in-Ok.start c.in-Ok.ensures.start)

pub returns-in-Ok : goal.returns-in-Ok
returns-in-Ok g c =
    comes_more (VariantsMean (setup_of c.in-Ok.start) c.in-Ok.start.legal.numbers c.args.found.now.sequence.items c.args.bound) (VariantsMeans c.args.found.now.start.text.items (inputs_in c.args.found.now.start) c.args.found.now.sequence.items c.args.bound)
    (VariantsMean (setup_of c.in-Ok.start) c.in-Ok.start.legal.numbers c.args.found.now.sequence.items c.args.bound) (VariantsMeans c.args.found.now.start.text.items (inputs_in c.args.found.now.start) c.args.found.now.sequence.items c.args.bound)
    (g.O.Sink.told c.args.out.now) (g.O.Sink.told c.report_variants.new.out) (g.O.Sink.faults c.args.out.now) (g.O.Sink.faults c.report_variants.new.out) c.report_variants.result
    (λ o varied. inl (record { setup = setup_of c.in-Ok.start; numbers = c.in-Ok.start.legal.numbers; is_start = c.in-Ok.ensures.start; varied = varied }))
    (λ o varied. inl (record { setup = setup_of c.in-Ok.start; numbers = c.in-Ok.start.legal.numbers; is_start = c.in-Ok.ensures.start; varied = varied }))
    (subst
    (λ (lines : List ℕ). Comes (VariantsMean (setup_of c.in-Ok.start) c.in-Ok.start.legal.numbers lines c.args.bound) (VariantsMean (setup_of c.in-Ok.start) c.in-Ok.start.legal.numbers lines c.args.bound) (g.O.Sink.told c.args.out.now) (g.O.Sink.told c.report_variants.new.out) (g.O.Sink.faults c.args.out.now) (g.O.Sink.faults c.report_variants.new.out) c.report_variants.result)
    c.as_slice.ensures.value c.report_variants.ensures)

use Rattle.std.proofs.Common.{sym, ◌∙◌, subst, inl}
use Rattle.std.proofs.lemmas.Result.{IfOk-weaker}
use Rattle.seq_file.specs.Files.{AreFit}
use Rattle.debug_outcome.specs.Coming.{Stops, stop_by}
use Rattle.debug_outcome.specs.Outcomes.{Outcome}
use Rattle.debug_outcome.specs.declared.stopping.Stop.{Stop}
use Rattle.debug_outcome.specs.sequences.BadSequences.{IsBadLists, refusal_of_sequence}
use Rattle.debug_outcome.proofs.Comings.{stops_more}
use Rattle.debug_outcome.proofs.sequences.Telling.{stops_unread_lists}
use Rattle.debug_sequence.specs.Sequences.{AreRefusedLists}
use Rattle.debug_sequence.specs.inner.Joining.{IsShortOrder}
use Rattle.debug_sequence.proofs.Fitting.{order_fits}
use Rattle.debug_sequence.proofs.reading.read_joined.Goals as goal

pub returns-in-Ok-clause-fit : goal.returns-in-Ok-clause-fit
returns-in-Ok-clause-fit c =
    let reads = c.in-Ok.ensures.reads in
    IfOk-weaker c.join_few.result (λ events. IsShortOrder c.args.numbers.now c.in-Ok.lists events.items) (λ events. AreFit c.args.numbers.now events.items)
    (λ events short. order_fits c.args.numbers.now c.in-Ok.lists events.items (reads.fit.count ∙ sym c.requires.tasks) reads.fit.each short.order short.few) c.join_few.ensures.order

pub returns-in-Err-clause-refused : goal.returns-in-Err-clause-refused
returns-in-Err-clause-refused c =
    let A : Outcome → Type 0 = AreRefusedLists c.args.names.now c.args.numbers.now c.args.bytes.now in
    subst (λ (stop : Stop). Stops A stop) (sym c.sequence_failure.ensures)
    (stops_more (IsBadLists c.args.names.now c.args.numbers.now c.args.bytes.now) A (stop_by (refusal_of_sequence c.in-Err.error)) (λ o bad. inl bad)
    (stops_unread_lists c.args.names.now c.args.numbers.now c.args.bytes.now c.in-Err.error c.in-Err.ensures.first_fault))

use Rattle.std.proofs.Common.{◌≡◌, ◌∙◌, sym, subst, List}
use Rattle.event_machine.specs.declared.Event.{Event}
use Rattle.seq_file.specs.Files.{SeqText}
use Rattle.debug_outcome.specs.Coming.{Comes, Never}
use Rattle.debug_outcome.specs.Outcomes.{writes}
use Rattle.debug_outcome.proofs.Comings.{comes_more}
use Rattle.debug_sequence.specs.MigrateOutcomes.{Migrates}
use Rattle.debug_sequence.proofs.Written.{written_as_one}
use Rattle.debug_sequence.proofs.migrating.migrate.Goals as goal

pub returns-then-is_in_lists : goal.returns-then-is_in_lists
returns-then-is_in_lists g c =
    let names = c.args.names.now in
    let numbers = c.args.numbers.now in
    comes_more (λ o. o ≡ writes (SeqText names numbers c.in-Ok.events.items) 0) (Migrates names numbers c.args.bytes.now) Never Never
    (g.K.Sink.told c.args.out.now) (g.K.Sink.told c.put_joined.new.out) (g.K.Sink.faults c.args.out.now) (g.K.Sink.faults c.put_joined.new.out) c.put_joined.result
    (λ o text. written_as_one names numbers c.args.bytes.now c.in-Ok.events.items o (sym c.is_in_lists.ensures.is ∙ c.if-is_in_lists.true) c.in-Ok.ensures.reads c.in-Ok.ensures.fit text)
    (λ o never. never)
    (subst
    (λ (es : List Event). Comes (λ o. o ≡ writes (SeqText names numbers es) 0) Never (g.K.Sink.told c.args.out.now) (g.K.Sink.told c.put_joined.new.out) (g.K.Sink.faults c.args.out.now)
    (g.K.Sink.faults c.put_joined.new.out) c.put_joined.result)
    c.deref.ensures.value c.put_joined.ensures)

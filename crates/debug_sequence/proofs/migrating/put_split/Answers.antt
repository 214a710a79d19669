use Rattle.std.proofs.Common.{◌≡◌, ◌≤◌, map, ap, ◌∙◌}
use Rattle.seq_file.specs.Lists.{listed, most_listed}
use Rattle.debug_outcome.specs.Coming.{Never}
use Rattle.debug_outcome.specs.Outcomes.{writes}
use Rattle.debug_outcome.proofs.Comings.{comes_more}
use Rattle.debug_sequence.specs.MigrateOutcomes.{AreSplit}
use Rattle.debug_sequence.proofs.Fitting.{lists_many}
use Rattle.debug_sequence.proofs.Written.{not_more, written_by_tasks}
use Rattle.debug_sequence.proofs.migrating.put_split.Goals as goal

pub text_of_lists-requires : goal.text_of_lists-requires
text_of_lists-requires g c = lists_many c.args.numbers.now c.args.events.now c.in-Ok.lists c.in-Ok.ensures.lists ∙ c.requires.tasks

pub returns-in-Ok-text_of_lists : goal.returns-in-Ok-text_of_lists
returns-in-Ok-text_of_lists g c =
    let few : listed c.in-Ok.lists ≤ most_listed = not_more c.are_too_many.result _ c.in-Ok.lists (ap (λ vs. map (λ v. v.items) vs) c.deref.ensures.value ∙ c.lists.view_is) c.are_too_many.ensures
    c.if-are_too_many.false in
    comes_more (λ o. o ≡ writes c.in-Ok-text_of_lists.text.bytes 0) (AreSplit c.args.names.now c.args.numbers.now c.args.events.now) Never Never (g.K.Sink.told c.args.out.now)
    (g.K.Sink.told c.put_text.new.out) (g.K.Sink.faults c.args.out.now) (g.K.Sink.faults c.put_text.new.out) c.put_text.result
    (λ o is. written_by_tasks c.args.names.now c.args.numbers.now c.args.events.now c.in-Ok.lists o c.requires.tasks c.requires.fit c.in-Ok.ensures.lists few
    (is ∙ ap (λ t. writes t 0) c.in-Ok-text_of_lists.ensures))
    (λ o never. never) c.put_text.ensures

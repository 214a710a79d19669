use Rattle.std.proofs.Common.{◌≡◌, false, sym, ap, ◌∙◌}
use Rattle.std.specs.Vec.{with_items}
use Rattle.std.proofs.lemmas.List.{with_items_is}
use Rattle.event_machine.specs.progress.Known.{advanced}
use Rattle.syn_event.specs.Numbering.{owner_of}
use Rattle.control_script.specs.progress.TaskRecords.{known_of}
use Rattle.control_script.proofs.progress.Reading.{after_event}
use Rattle.control_script.proofs.progress.progress.Progress.advance.Goals as goal

-- the tables are those that the change gives back
tables : (c : goal.Else-is_last) → (with_items c.self.inside.members c.change-self-inside.new.members).items ≡ c.change-self-inside.new.members
tables c = with_items_is c.self.inside.members c.change-self-inside.new.members (c.change-self-inside.auto.members ∙ c.deref_mut.ensures.len)

pub returns-else-is_last : goal.returns-else-is_last
returns-else-is_last c =
    ap (λ ms. known_of ms c.self.inside.ended) (tables c) ∙
    after_event (owner_of c.args.numbers.now) c.deref_mut.result.now c.change-self-inside.new.members c.self.inside.ended false c.args.e.now
    c.change-self-inside.ensures.known (sym c.if-is_last.false ∙ c.is_last.ensures) ∙
    ap (λ ms. advanced (owner_of c.args.numbers.now) (known_of ms c.self.inside.ended) c.args.e.now) c.deref_mut.ensures.value ∙
    ap (λ k. advanced (owner_of c.args.numbers.now) k c.args.e.now) c.self.view_is

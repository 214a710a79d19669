use Rattle.std.proofs.Common.{length}
use Rattle.common_lemmas.proofs.Results.{if_ok}
use Rattle.syn_event.specs.Numbering.{owner_of}
use Rattle.syn_order.proofs.Neighbours.{same_apart}
use Rattle.syn_order.proofs.exchanging.exchangeable.Goals as goal

pub returns-clause-apart : goal.returns-clause-apart
returns-clause-apart c =
    if_ok c.last_apart.result (λ x h. same_apart (owner_of c.args.numbers.now) (length c.args.numbers.now.tasks) c.args.events.now c.args.k c.requires.from_one x h)
    c.last_apart.ensures.apart

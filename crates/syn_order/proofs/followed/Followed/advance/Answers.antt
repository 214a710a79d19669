use Rattle.syn_event.specs.Numbering.{owner_of}
use Rattle.syn_order.proofs.Keeping.{kept_by}
use Rattle.syn_order.proofs.followed.Followed.advance.Goals as goal

pub returns-clause-callers : goal.returns-clause-callers
returns-clause-callers c =
    kept_by (owner_of c.args.numbers.now) c.args.self.now.progress _ c.requires.callers c.args.e.now c.advance.new.self _ c.requires.admitted c.advance.ensures
    c.in_ok-change_callers.ensures

use Rattle.std.proofs.Common.{ap, sym, ◌∙◌}
use Rattle.syn_event.specs.RuleLimit.{limit_passed}
use Rattle.ada_check_rules.specs.rules.Sooner.{found_over}
use Rattle.ada_check_rules.proofs.rules.Meeting.{at_counts}
use Rattle.ada_check_rules.proofs.rules.asking_by_mode.Standard.refuse_count.Goals as goal

pub returns : goal.returns
returns c = λ around.
    c.refuse_passed.ensures
    ∙ ap (λ l. found_over (limit_passed c.args.what l c.args.before c.args.here c.args.span)) c.limit.ensures
    ∙ sym (at_counts c.args.self.now around c.args.what c.args.before c.args.here c.args.span)

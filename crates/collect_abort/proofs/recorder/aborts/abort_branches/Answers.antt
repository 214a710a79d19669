use Rattle.std.proofs.Common.{drop, ap, ◌∙◌}
use Rattle.syn_event.specs.Numbering.{Numbering}
use Rattle.collect_abort.proofs.Counted.{aborts-kept}
use Rattle.collect_abort.proofs.recorder.aborts.abort_branches.Goals as goal

pub returns : goal.returns
returns c =
    aborts-kept c.args.s c.behind_main.result.now (drop 1 c.args.x.now.reporter.numbers.now.tasks) c.new-arms.result.items c.put_aborts-done.new.out.items c.put_aborts-done.result c.keep_case_arms.result
    c.new-arms.ensures.items (c.behind_main.ensures ∙ ap (drop 1) (c.deref.ensures.value ∙ ap (λ (n : Numbering). n.tasks) (c.behind-x.view_is ∙ c.numbers.ensures)))
    c.put_aborts-done.ensures c.keep_case_arms.ensures

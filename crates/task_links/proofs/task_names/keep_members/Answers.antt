use Rattle.task_links.proofs.KeepingLemmas.{member_step}
use Rattle.task_links.proofs.task_names.keep_members.Goals as goal

pub loop-place-preserved : goal.loop-place-preserved
loop-place-preserved c =
    member_step c.args.map.now c.loop-place.map c.keep_if_member.new.map c.args.tasks.now c.loop-place.place c.in_ok-number_of.field-0 _
    c.loop-place-test.true c.in_ok-number_of.ensures c.loop-place.invariant c.in_ok-keep_if_member.ensures

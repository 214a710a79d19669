use Rattle.std.proofs.Common.{◌++◌, length, ap, sym, ◌∙◌}
use Rattle.syn_event.specs.Numbering.{owner_of}
use Rattle.event_machine.specs.progress.Known.{Known}
use Rattle.control_script.specs.Script.{script_from}
use Rattle.control_script.proofs.Writing.{as_many, as_many_at_start, ends_last, not_ended, script_more}
use Rattle.control_script.proofs.operations.script.Goals as goal

pub loop-e-init : goal.loop-e-init
loop-e-init c =
    let owner = owner_of c.args.numbers.now in
    record {
      whole =
          ap (λ k. script_from owner k c.args.events.now) (sym c.in_ok-progress.ensures)
          ∙ ap (λ xs. xs ++ script_from owner c.in_ok-progress.progress c.args.events.now) (sym c.new-ops.ensures.items);
      ended = sym (ap (λ (k : Known). k.ended) c.in_ok-progress.ensures);
      tasks = ap (λ (k : Known). length k.parties) c.in_ok-progress.ensures ∙ as_many_at_start (length c.args.numbers.now.tasks);
    }

pub loop-e-preserved : goal.loop-e-preserved
loop-e-preserved c =
    let owner = owner_of c.args.numbers.now in
    let admitted = sym c.admits.ensures ∙ c.if-not-admits.false in
    record {
      whole =
          script_more owner (length c.args.numbers.now.tasks) c.args.events.now c.loop-e.e-index _ c.loop-e.progress c.advance.new.self c.loop-e.ops.items
          c.put_operations.new.ops.items c.loop-e-test.true c.loop-e.invariant.whole admitted c.in_ok-put_operations.ensures c.advance.ensures;
      ended =
          c.is_last-ended.ensures ∙ sym (ends_last owner c.loop-e.progress _ (not_ended owner c.loop-e.progress _ admitted))
          ∙ sym (ap (λ (k : Known). k.ended) c.advance.ensures);
      tasks = ap (λ (k : Known). length k.parties) c.advance.ensures ∙ as_many owner c.loop-e.progress _ ∙ c.loop-e.invariant.tasks;
    }

use Rattle.std.proofs.Common.{◌+◌, [], ◌∷◌, ◌++◌, ap, ◌∙◌, rules}
use Rattle.normal_parts.proofs.Entries.{marks-turn, marks-end}
use Rattle.normal_parts.proofs.marks.marks_of.Goals as goal

pub loop-info-preserved : goal.loop-info-preserved
loop-info-preserved c =
    let number = c.in_ok-entry.ensures ∙ ap (λ n. n + 1) c.loop-info.invariant.number in
    record {
      marks = marks-turn c.args.lookups.now c.deref-info-items.result.now c.loop-info._info-index c.in_ok-entry.entry c.loop-info.marks.items c.push.new.self.items (search rules) c.loop-info-test.true number c.loop-info.invariant.marks (c.in_ok-push.ensures.items ∙ ap (λ m. c.loop-info.marks.items ++ m ∷ []) c.mark_at.ensures);
      number = number;
    }

pub returns : goal.returns
returns c = marks-end c.args.lookups.now c.deref-info-items.result.now c.loop-info._info-index _ (search rules) c.loop-info-test.false c.loop-info.invariant.marks

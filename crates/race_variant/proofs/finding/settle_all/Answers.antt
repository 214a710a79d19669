use Rattle.std.proofs.Common.{◌∙◌, ◌+◌, ◌≡◌, ap, sym, subst, length, take, arith}
use Rattle.std.proofs.lemmas.List.{length_push}
use Rattle.feasible.specs.Keeping.{IsSettled}
use Rattle.race_variant.specs.inner.Passing.{AreAnswers}
use Rattle.race_variant.proofs.Telling.{answers_more, answers_stay, told_more, exact_before}
use Rattle.race_variant.proofs.finding.settle_all.Goals as goal

pub loop-t-preserved : goal.loop-t-preserved
loop-t-preserved c = record {
  answers = subst (AreAnswers c.settle.new.self.tasks) (sym c.in_ok-note.ensures.settled)
      (answers_more c.settle.new.self.tasks c.loop-t.settled.items c.in_ok-rests.rests
      (answers_stay c.loop-t.j.tasks c.settle.new.self.tasks c.loop-t.settled.items (λ t h. c.in_ok-rests.ensures.others t h) c.loop-t.invariant.answers)
      (λ h. subst (IsSettled c.settle.new.self.tasks) (sym c.loop-t.invariant.size) (c.in_ok-rests.ensures.settled h)));
  size =
      let e : length c.note.new.settled.items ≡ length c.loop-t.settled.items + 1 = ap length c.in_ok-note.ensures.settled ∙ length_push c.loop-t.settled.items c.in_ok-rests.rests in
      omega (arith, c.loop-t.invariant.size);
  told = λ setup events s.
      told_more setup c.args.j.now.numbers c.args.j.now.bound (take c.args.j.now.taken events) c.loop-t.settled.items c.loop-t.unsettled.items (c.loop-t.invariant.told setup events s)
      c.in_ok-rests.rests c.loop-t.t c.note.new.settled.items c.note.new.unsettled.items (sym c.loop-t.invariant.size) c.in_ok-note.ensures.settled c.in_ok-note.ensures.unsettled
      (exact_before setup c.loop-t.j c.args.j.now events c.loop-t.t c.in_ok-rests.rests c.loop-t.invariant.numbers c.loop-t.invariant.bound c.loop-t.invariant.taken
      (c.in_ok-rests.ensures.exact setup events (c.loop-t.invariant.stands setup events s)));
  stands = λ setup events s. c.in_ok-rests.ensures.stands setup events (c.loop-t.invariant.stands setup events s);
  numbers = c.in_ok-rests.ensures.numbers ∙ c.loop-t.invariant.numbers;
  bound = c.in_ok-rests.ensures.bound ∙ c.loop-t.invariant.bound;
  taken = c.in_ok-rests.ensures.taken ∙ c.loop-t.invariant.taken;
  ended = c.in_ok-rests.ensures.ended ∙ c.loop-t.invariant.ended;
  verdict = c.in_ok-rests.ensures.verdict ∙ c.loop-t.invariant.verdict;
}

use Rattle.std.proofs.Common.{◌≡◌, ◌+◌, length, sym, subst, ap, ◌∙◌, arith, None, length-append}
use Rattle.std.specs.Prelude.{◌∷◌, []}
use Rattle.race_variant.specs.inner.Choosing.{HaltsBy, HasSome, AreChosenBy, HasGoneOn}
use Rattle.race_variant.proofs.Going.{gone_none, gone_halted, gone_counted, chosen_stays, gone_looked, gone_broken, gone_more}
use Rattle.race_variant.proofs.continuing.go_on_kept.Goals as goal

pub loop-turn-init : goal.loop-turn-init
loop-turn-init g c = record {
  gone = subst (λ es. HasGoneOn g.C.Chooser.word g.C.Chooser.next c.args.j.now c.args.choices.now es c.args.j.now c.args.choices.now) (sym c.requires.none)
      (gone_none g.C.Chooser.word g.C.Chooser.next c.args.j.now c.args.choices.now c.requires.feasible);
  size = ap length c.requires.none;
  taken = omega arith;
}

-- ---- a turn of the loop

pub returns-in_err-end-clause-so_far : goal.returns-in_err-end-clause-so_far
returns-in_err-end-clause-so_far g c =
    chosen_stays g.C.Chooser.word g.C.Chooser.next c.args.j.now c.args.choices.now c.loop-turn.chosen.items c.loop-turn.j c.halted.new.j c.loop-turn.invariant.gone.chosen_by
    c.in_err-end.ensures.same_numbers c.in_err-end.ensures.bound c.in_err-end.ensures.verdict

pub returns-in-Some-clause-gone : goal.returns-in-Some-clause-gone
returns-in-Some-clause-gone g c =
    gone_looked g.C.Chooser.word g.C.Chooser.next c.args.j.now c.args.choices.now c.loop-turn.chosen.items c.loop-turn.j c.loop-turn.choices c.loop-turn.invariant.gone c.halted.new.j
    c.in_ok-end.ensures.stands c.in_ok-end.ensures.same_numbers c.in_ok-end.ensures.bound c.in_ok-end.ensures.verdict c.in_ok-end.ensures.kept

pub returns-in-Some-clause-ended : goal.returns-in-Some-clause-ended
returns-in-Some-clause-ended g c =
    gone_halted g.C.Chooser.word g.C.Chooser.next c.args.j.now c.args.choices.now c.loop-turn.chosen.items c.loop-turn.j c.loop-turn.choices c.loop-turn.invariant.gone c.args.most c.in-Some.end
    (subst (HasSome c.halted.new.found.items) c.in-Some.is c.in_ok-end.ensures.some)
    (λ setup events s well. subst (HaltsBy setup c.loop-turn.j.numbers c.loop-turn.j.bound events c.halted.new.found.items) c.in-Some.is (c.in_ok-end.ensures.halts setup events s well))

pub returns-in-Some-clause-so_far : goal.returns-in-Some-clause-so_far
returns-in-Some-clause-so_far g c = (returns-in-Some-clause-gone g c).chosen_by

pub returns-in-Some-clause-kept : goal.returns-in-Some-clause-kept
returns-in-Some-clause-kept g c = c.loop-turn.invariant.gone.kept c.in_ok-end.ensures.kept

pub returns-in_err-choose-in-None-clause-so_far : goal.returns-in_err-choose-in-None-clause-so_far
returns-in_err-choose-in-None-clause-so_far g c =
    subst (λ es. AreChosenBy g.C.Chooser.word g.C.Chooser.next c.args.j.now c.args.choices.now es c.choose.new.j) (sym c.in_err-choose-in-None.ensures.unchanged)
    (gone_broken g.C.Chooser.word g.C.Chooser.next c.args.j.now c.args.choices.now c.loop-turn.chosen.items c.loop-turn.j c.loop-turn.choices c.loop-turn.invariant.gone c.halted.new.j
    c.in_ok-end.ensures.stands c.in_ok-end.ensures.same_numbers c.in_ok-end.ensures.bound c.in_ok-end.ensures.verdict c.deref.result.now
    (λ setup events s well. subst (λ fs. HaltsBy setup c.loop-turn.j.numbers c.loop-turn.j.bound events fs None) (sym c.deref.ensures.value)
    (subst (HaltsBy setup c.loop-turn.j.numbers c.loop-turn.j.bound events c.halted.new.found.items) c.in-None.is (c.in_ok-end.ensures.halts setup events s well)))
    c.choose.new.j c.choose.ensures.same_numbers c.choose.ensures.bound c.choose.ensures.feasible)

pub returns-in_err-choose-in-None-clause-within : goal.returns-in_err-choose-in-None-clause-within
returns-in_err-choose-in-None-clause-within g c =
    let e : length c.choose.new.chosen.items ≡ length c.loop-turn.chosen.items = ap length c.in_err-choose-in-None.ensures.unchanged in omega (arith, c.loop-turn.invariant.size)

pub loop-turn-preserved : goal.loop-turn-preserved
loop-turn-preserved g c = record {
  gone = gone_more g.C.Chooser.word g.C.Chooser.next c.args.j.now c.args.choices.now c.loop-turn.chosen.items c.loop-turn.j c.loop-turn.choices c.loop-turn.invariant.gone c.halted.new.j
      c.in_ok-end.ensures.stands c.in_ok-end.ensures.same_numbers c.in_ok-end.ensures.bound c.in_ok-end.ensures.verdict c.deref.result.now
      (λ setup events s well. subst (λ fs. HaltsBy setup c.loop-turn.j.numbers c.loop-turn.j.bound events fs None) (sym c.deref.ensures.value)
      (subst (HaltsBy setup c.loop-turn.j.numbers c.loop-turn.j.bound events c.halted.new.found.items) c.in-None.is (c.in_ok-end.ensures.halts setup events s well)))
      c.choose.new.j c.choose.ensures.same_numbers c.choose.ensures.bound c.choose.ensures.feasible
      c.choose.new.choices c.choose.new.chosen.items c.in_ok-choose-in-None.ensures.one (λ h. c.loop-turn.invariant.gone.kept c.in_ok-end.ensures.kept);
  size =
      let o = c.in_ok-choose-in-None.ensures.one in
      let e : length c.choose.new.chosen.items ≡ length c.loop-turn.chosen.items + 1 = ap length o.chosen ∙ length-append c.loop-turn.chosen.items (o.event ∷ []) in
      omega (arith, c.loop-turn.invariant.size);
  taken = omega (arith, c.loop-turn.invariant.taken, c.choose.ensures.taken, c.halted.ensures.taken);
}

-- ---- behind the last turn

pub returns-in_err-end-2-clause-so_far : goal.returns-in_err-end-2-clause-so_far
returns-in_err-end-2-clause-so_far g c =
    chosen_stays g.C.Chooser.word g.C.Chooser.next c.args.j.now c.args.choices.now c.loop-turn.chosen.items c.loop-turn.j c.halted-2.new.j c.loop-turn.invariant.gone.chosen_by
    c.in_err-end-2.ensures.same_numbers c.in_err-end-2.ensures.bound c.in_err-end-2.ensures.verdict

pub returns-in-Some-2-clause-gone : goal.returns-in-Some-2-clause-gone
returns-in-Some-2-clause-gone g c =
    gone_looked g.C.Chooser.word g.C.Chooser.next c.args.j.now c.args.choices.now c.loop-turn.chosen.items c.loop-turn.j c.loop-turn.choices c.loop-turn.invariant.gone c.halted-2.new.j
    c.in_ok-end-2.ensures.stands c.in_ok-end-2.ensures.same_numbers c.in_ok-end-2.ensures.bound c.in_ok-end-2.ensures.verdict c.in_ok-end-2.ensures.kept

pub returns-in-Some-2-clause-ended : goal.returns-in-Some-2-clause-ended
returns-in-Some-2-clause-ended g c =
    gone_halted g.C.Chooser.word g.C.Chooser.next c.args.j.now c.args.choices.now c.loop-turn.chosen.items c.loop-turn.j c.loop-turn.choices c.loop-turn.invariant.gone c.args.most c.in-Some-2.end
    (subst (HasSome c.halted-2.new.found.items) c.in-Some-2.is c.in_ok-end-2.ensures.some)
    (λ setup events s well. subst (HaltsBy setup c.loop-turn.j.numbers c.loop-turn.j.bound events c.halted-2.new.found.items) c.in-Some-2.is (c.in_ok-end-2.ensures.halts setup events s well))

pub returns-in-Some-2-clause-so_far : goal.returns-in-Some-2-clause-so_far
returns-in-Some-2-clause-so_far g c = (returns-in-Some-2-clause-gone g c).chosen_by

pub returns-in-Some-2-clause-kept : goal.returns-in-Some-2-clause-kept
returns-in-Some-2-clause-kept g c = c.loop-turn.invariant.gone.kept c.in_ok-end-2.ensures.kept

pub returns-clause-gone : goal.returns-clause-gone
returns-clause-gone g c =
    gone_looked g.C.Chooser.word g.C.Chooser.next c.args.j.now c.args.choices.now c.loop-turn.chosen.items c.loop-turn.j c.loop-turn.choices c.loop-turn.invariant.gone c.halted-2.new.j
    c.in_ok-end-2.ensures.stands c.in_ok-end-2.ensures.same_numbers c.in_ok-end-2.ensures.bound c.in_ok-end-2.ensures.verdict c.in_ok-end-2.ensures.kept

pub returns-clause-ended : goal.returns-clause-ended
returns-clause-ended g c =
    gone_counted g.C.Chooser.word g.C.Chooser.next c.args.j.now c.args.choices.now c.loop-turn.chosen.items c.loop-turn.j c.loop-turn.choices c.loop-turn.invariant.gone c.args.most c.halted-2.new.found.items
    (omega (arith, c.loop-turn.invariant.size)) (subst (HasSome c.halted-2.new.found.items) c.in-None-2.is c.in_ok-end-2.ensures.some)
    (λ setup events s well. subst (HaltsBy setup c.loop-turn.j.numbers c.loop-turn.j.bound events c.halted-2.new.found.items) c.in-None-2.is (c.in_ok-end-2.ensures.halts setup events s well))

pub returns-clause-so_far : goal.returns-clause-so_far
returns-clause-so_far g c = (returns-clause-gone g c).chosen_by

pub returns-clause-kept : goal.returns-clause-kept
returns-clause-kept g c = c.loop-turn.invariant.gone.kept c.in_ok-end-2.ensures.kept

use Rattle.std.proofs.Common.{◌+◌, ◌∙◌, ◌++◌, refl, sym, ap, subst, map, arith}
use Rattle.std.proofs.lemmas.List.{length-append}
use Rattle.std.specs.List.{filter_map}
use Rattle.ada_tree.specs.PlainStmt.{plain_alt, alts_of}
use Rattle.task_model.specs.Waits.{alternatives_open}
use Rattle.task_waits.specs.Standing.{task_here}
use Rattle.task_waits.specs.inner.Choosing.{chosen, with_choice, opens_or_none, alternative_open}
use Rattle.task_waits.proofs.Opens.{delays_none, delays_more, counted_with, opens_from, opens_all, AreLeft, choices_first, choices_more, choices_end, left_within}
use Rattle.task_waits.proofs.choosing.put_choices.Goals as goal

pub loop-alt-init : goal.loop-alt-init
loop-alt-init c = record {
  counted = sym (delays_none c.args.alts.now 0);
  few = omega arith;
  left = choices_first c.args.sort _ _ c.args.choices.now.items c.requires.open (opens_all (task_here c.args.here.now) c.args.alts.now);
  room = refl;
}

pub put_choice-requires : goal.put_choice-requires
put_choice-requires c =
    let t = task_here c.args.here.now in
    let i = c.loop-alt.alt-index in
    let more =
    choices_more c.args.sort t c.args.alts.now i c.alt-item.result c.choice_at-choice.result c.loop-alt.choices.items _ c.loop-alt-test.true c.alt-item.is
    (λ o is. c.choice_at-choice.ensures o (ap (λ k. alternative_open t (plain_alt c.alt-item.result) k) c.loop-alt.invariant.counted ∙ is)) c.loop-alt.invariant.left
    in
    let within = left_within c.args.sort (opens_from t c.args.alts.now (i + 1)) (with_choice c.loop-alt.choices.items c.choice_at-choice.result) _ more in
    omega (arith, within, c.loop-alt.invariant.room, c.requires.room, c.args.choices.now.ok.0, length-append c.args.choices.now.items (filter_map (chosen c.args.sort) (opens_or_none (alternatives_open t (alts_of (map plain_alt c.args.alts.now)) 0))))

pub loop-alt-preserved : goal.loop-alt-preserved
loop-alt-preserved c =
    let t = task_here c.args.here.now in
    let i = c.loop-alt.alt-index in
    record {
      counted = c.delays_with-delays.ensures.count ∙ ap (counted_with c.alt-item.result) c.loop-alt.invariant.counted ∙ sym (delays_more c.args.alts.now i 0 c.alt-item.result c.loop-alt-test.true c.alt-item.is);
      few = omega (arith, c.loop-alt.invariant.few, c.delays_with-delays.ensures.few);
      left =
          subst (λ l. AreLeft c.args.sort (opens_from t c.args.alts.now (i + 1)) l (c.args.choices.now.items ++ filter_map (chosen c.args.sort) (opens_or_none (alternatives_open t (alts_of (map plain_alt c.args.alts.now)) 0)))) (sym c.put_choice.ensures.choices)
          (choices_more c.args.sort t c.args.alts.now i c.alt-item.result c.choice_at-choice.result c.loop-alt.choices.items _ c.loop-alt-test.true c.alt-item.is
          (λ o is. c.choice_at-choice.ensures o (ap (λ k. alternative_open t (plain_alt c.alt-item.result) k) c.loop-alt.invariant.counted ∙ is)) c.loop-alt.invariant.left);
      room = c.put_choice.ensures.same_room ∙ c.loop-alt.invariant.room;
    }

pub returns-clause-choices : goal.returns-clause-choices
returns-clause-choices c = choices_end c.args.sort (task_here c.args.here.now) c.args.alts.now c.loop-alt.alt-index c.loop-alt.choices.items _ c.loop-alt-test.false c.loop-alt.invariant.left

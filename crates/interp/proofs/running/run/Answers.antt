use Rattle.std.proofs.Common.{◌∙◌, arith, refl, sym, true≢false}
use Rattle.interp.proofs.Keeping.{listed_on}
use Rattle.interp.proofs.Reaching.{reached_more, reached_none, Stopped, stopped, cut_between, cut_within}
use Rattle.interp.proofs.running.run.Goals as goal
use Rattle.interp.proofs.running.run.Given as given

-- the run has ended by itself in this turn
ended : (g : given.Over) (c : goal.After-drop-actions g) →
    Stopped g.C.Chooser.word g.C.Chooser.next c.args.turns c.args.numbers.now c.args.m.now c.args.choices.now c.loop-turn.m c.choose.new.choices
    (g.K.Sink.told c.args.out.now) (g.K.Sink.told c.loop-turn.out) c.loop-turn.turn c.in-Ok-Halted.end
ended g c =
    let chosen = rw c.in-Ok-Halted.field-0-is at c.in-Ok-Halted.ensures.chosen in
    stopped g.C.Chooser.word g.C.Chooser.next c.loop-turn.turn c.args.turns c.args.numbers.now c.args.m.now c.args.choices.now c.loop-turn.m
    c.loop-turn.choices c.choose.new.choices (g.K.Sink.told c.args.out.now) (g.K.Sink.told c.loop-turn.out) c.in-Ok-Halted.end
    c.loop-turn.invariant.0 (omega arith) chosen.0 chosen.1

pub returns-in-Ok-Halted-clause-machine : goal.returns-in-Ok-Halted-clause-machine
returns-in-Ok-Halted-clause-machine g c = (ended g c).machine

pub returns-in-Ok-Halted-clause-chooser : goal.returns-in-Ok-Halted-clause-chooser
returns-in-Ok-Halted-clause-chooser g c = (ended g c).chooser

pub returns-in-Ok-Halted-clause-made : goal.returns-in-Ok-Halted-clause-made
returns-in-Ok-Halted-clause-made g c = (ended g c).made_is

pub returns-in-Ok-Halted-clause-end : goal.returns-in-Ok-Halted-clause-end
returns-in-Ok-Halted-clause-end g c = (ended g c).end_is

pub returns-in-Ok-Halted-clause-lines : goal.returns-in-Ok-Halted-clause-lines
returns-in-Ok-Halted-clause-lines g c = (ended g c).lines

pub returns-in-Err-make-clause-cut_off : goal.returns-in-Err-make-clause-cut_off
returns-in-Err-make-clause-cut_off g c =
    let chosen = rw c.in-Ok-Make.field-0-is at c.in-Ok-Make.ensures.chosen in
    cut_within g.C.Chooser.word g.C.Chooser.next c.loop-turn.turn c.args.turns c.args.numbers.now c.args.m.now c.args.choices.now c.loop-turn.m
    c.make.new.m c.loop-turn.choices c.choose.new.choices c.in-Ok-Make.action (g.K.Sink.told c.args.out.now) (g.K.Sink.told c.loop-turn.out)
    (g.K.Sink.told c.make.new.out) (g.K.Sink.faults c.args.out.now) (g.K.Sink.faults c.loop-turn.out) (g.K.Sink.faults c.make.new.out) c.in-Err-make.e
    c.loop-turn.invariant.0 chosen c.in-Err-make.ensures.cut c.loop-turn.invariant.1 (omega arith)

pub returns-in-Err-clause-cut_off : goal.returns-in-Err-clause-cut_off
returns-in-Err-clause-cut_off g c =
    cut_between g.C.Chooser.word g.C.Chooser.next c.loop-turn.turn c.args.turns c.args.numbers.now c.args.m.now c.args.choices.now c.loop-turn.m c.loop-turn.m
    c.loop-turn.choices (g.K.Sink.told c.args.out.now) (g.K.Sink.told c.loop-turn.out) (g.K.Sink.told c.loop-turn.out) (g.K.Sink.faults c.args.out.now) (g.K.Sink.faults c.loop-turn.out)
    c.loop-turn.invariant.0 (omega arith) refl refl c.loop-turn.invariant.1

pub loop-turn-preserved : goal.loop-turn-preserved
loop-turn-preserved g c =
    let chosen = rw c.in-Ok-Make.field-0-is at c.in-Ok-Make.ensures.chosen in (
      reached_more g.C.Chooser.word g.C.Chooser.next c.loop-turn.turn c.args.numbers.now c.args.m.now c.args.choices.now c.loop-turn.m
          c.make.new.m c.loop-turn.choices c.choose.new.choices c.in-Ok-Make.action (g.K.Sink.told c.args.out.now) (g.K.Sink.told c.loop-turn.out)
          (g.K.Sink.told c.make.new.out) c.loop-turn.invariant.0 chosen c.in-Ok.ensures.machine c.in-Ok.ensures.lines,
      c.in-Ok.ensures.no_fault ∙ c.loop-turn.invariant.1,
      λ kept. listed_on c.loop-turn.m c.make.new.m c.in-Ok-Make.action c.choose.new.actions.items
          (rw c.in-Ok-Make.field-0-is at c.in-Ok-Make.ensures.listed) chosen.applies c.in-Ok.ensures.machine (sym c.steps_again-is_kept.ensures ∙ kept),
    )

pub loop-turn-init : goal.loop-turn-init
loop-turn-init g c = (
  reached_none g.C.Chooser.word g.C.Chooser.next c.args.numbers.now c.args.m.now c.args.choices.now (g.K.Sink.told c.args.out.now),
  refl,
  λ kept. absurd (true≢false (sym kept)),
)

pub choose-requires : goal.choose-requires
choose-requires g c = c.loop-turn.invariant.2

pub standing-requires : goal.standing-requires
standing-requires g c = c.loop-turn.invariant.2

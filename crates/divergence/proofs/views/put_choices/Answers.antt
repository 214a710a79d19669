use Rattle.std.proofs.Common.{◌∙◌, pos}
use Rattle.event_machine.specs.declared.Choice.TheVariants.{Accept}
use Rattle.divergence.specs.ViewText.{choice_line}
use Rattle.divergence.proofs.Telling.{listed_next, listed_stop}
use Rattle.divergence.proofs.views.put_choices.Goals as goal

pub loop-choice-preserved : goal.loop-choice-preserved
loop-choice-preserved g c = (
  listed_next _ _ _ _ _ _ _ choice_line c.args.choices.now c.loop-choice.choice-index (Accept 0 (pos 0)) _ _ _ (g.K.Sink.told c.args.out.now) (g.K.Sink.told c.loop-choice.out)
      (g.K.Sink.told c.put_choice.new.out) c.loop-choice-test.true c.loop-choice.invariant.0 c.in-Ok.ensures.bytes,
  c.in-Ok.ensures.cause ∙ c.loop-choice.invariant.1,
)

pub returns-in-Err-clause-bytes : goal.returns-in-Err-clause-bytes
returns-in-Err-clause-bytes g c =
    listed_stop _ _ _ _ _ _ _ choice_line c.args.choices.now c.loop-choice.choice-index (Accept 0 (pos 0)) _ c.in-Err.e c.in-Err.e (g.K.Sink.told c.args.out.now) (g.K.Sink.told c.loop-choice.out)
    (g.K.Sink.told c.put_choice.new.out) c.loop-choice-test.true c.loop-choice.invariant.0 c.in-Err.ensures.bytes

use Rattle.std.proofs.Common.{◌≡◌, true}
use Rattle.interp.specs.inner.Listed.{IsListed}
use Rattle.interp.proofs.Reaching.{Reached}
use Rattle.interp.proofs.running.run.Given as goal

-- an action was made in each turn so far, the values are those of the picked run, no fault was met, and a list that is kept is that of the actions that apply
abbrev pub invariant-loop-turn : goal.invariant-loop-turn
invariant-loop-turn g l =
    Reached g.C.Chooser.word g.C.Chooser.next l.turn l.numbers l.initial.m l.initial.choices l.m l.choices
    (g.K.Sink.told l.initial.out) (g.K.Sink.told l.out)
    × (g.K.Sink.faults l.out ≡ g.K.Sink.faults l.initial.out)
    × (l.is_kept ≡ true → IsListed l.m l.actions.items)

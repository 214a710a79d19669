use Rattle.std.proofs.Common.{◌≡◌, ◌≤◌, ◌+◌, length}
use Rattle.race_variant.specs.inner.Choosing.{HasGoneOn}
use Rattle.race_variant.proofs.continuing.go_on_kept.Given as goal

-- at each turn so far one event was chosen
abbrev pub invariant-loop-turn : goal.invariant-loop-turn
invariant-loop-turn g l = record {
  gone : HasGoneOn g.C.Chooser.word g.C.Chooser.next l.initial.j l.initial.choices l.chosen.items l.j l.choices;
  size : length l.chosen.items ≡ l._turn;
  taken : l.j.taken ≤ l.initial.j.taken + l._turn;
}

use Rattle.std.proofs.Common.{◌≡◌, ◌<◌, ℕ, false, ◌&&◌}
use Rattle.event_machine.specs.progress.Known.{touches}
use Rattle.syn_event.specs.Numbering.{owner_of}
use Rattle.syn_order.proofs.exchanging.are_apart.Given as goal

-- no task up to here is touched by both
abbrev pub invariant-loop-t : goal.invariant-loop-t
invariant-loop-t l = (u : ℕ) → u < l.t → (touches (owner_of l.numbers) l.progress l.e u && touches (owner_of l.numbers) l.progress l.f u) ≡ false

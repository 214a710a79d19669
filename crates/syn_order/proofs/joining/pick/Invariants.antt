use Rattle.std.proofs.Common.{length, map}
use Rattle.syn_event.specs.Numbering.{owner_of}
use Rattle.syn_order.specs.inner.Places.{left, NoneReady}
use Rattle.syn_order.proofs.joining.pick.Given as goal

-- no task up to here has a first event that is ready
abbrev pub invariant-loop-t : goal.invariant-loop-t
invariant-loop-t l = NoneReady (owner_of l.numbers) (length l.lists) l.followed.progress (left (map (λ v. v.items) l.lists) l.places) l.t

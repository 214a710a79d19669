use Rattle.std.proofs.Common.{refl, arith}
use Rattle.debug_sequence.proofs.Listing.{listed_more, listed_within}
use Rattle.debug_sequence.proofs.migrating.are_too_many.Goals as goal

pub returns-then-len-room : goal.returns-then-len-room
returns-then-len-room c =
    let within = listed_within c.args.lists.now (λ v. v.items) c.loop-list.list-index c.list-item.result c.loop-list-test.true c.list-item.is in
    ((λ t. omega (arith, within, c.if-len-room.true, c.len.ensures, c.loop-list.invariant)), (λ m. refl))

pub loop-list-preserved : goal.loop-list-preserved
loop-list-preserved c =
    let more = listed_more c.args.lists.now (λ v. v.items) c.loop-list.list-index c.list-item.result c.loop-list-test.true c.list-item.is in
    omega (arith, more, c.if-len-room.false, c.len.ensures, c.len-room.ensures, c.loop-list.invariant)

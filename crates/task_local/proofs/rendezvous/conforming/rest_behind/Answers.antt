use Rattle.std.proofs.Common.{◌<◌, length, arith}
use Rattle.task_local.proofs.rendezvous.Comparing.{none_left}
use Rattle.task_local.proofs.rendezvous.conforming.rest_behind.Goals as goal

pub returns-in-empty : goal.returns-in-empty
returns-in-empty c behind =
    let empty : length c.loop-word.rest.now < 1 = omega (arith, c.in-empty.len_below) in
    none_left c.args.mode c.args.limits c.args.words.now c.loop-word.word-index behind c.loop-word.rest.now _ c.loop-word-test.true empty (c.loop-word.invariant behind)

use Rattle.std.proofs.Common.{◌<◌, length, arith}
use Rattle.ada_tree.specs.PlainStmt.{plain_formal}
use Rattle.ada_entry_rules.proofs.Accepting.{no_part}
use Rattle.ada_entry_rules.proofs.accept_heads.rest_behind.Goals as goal

pub returns-in-empty : goal.returns-in-empty
returns-in-empty c behind =
    let empty : length c.loop-word.rest.now < 1 = omega (arith, c.in-empty.len_below) in
    no_part (plain_formal c.args.formal.now) c.deref-word-items.result.now c.loop-word.word-index behind c.loop-word.rest.now _ c.loop-word-test.true empty (c.loop-word.invariant behind)

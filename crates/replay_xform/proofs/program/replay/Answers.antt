use Rattle.std.proofs.Common.{◌≡◌, nat_lt, false, length, sym, ◌∙◌, arith}
use Rattle.std.proofs.lemmas.Bool.{false≢true}
use Rattle.std.proofs.lemmas.Bool.Decides.{nat_tests}
use Rattle.ada_tree.specs.PlainProgram.{plain_program}
use Rattle.replay_xform.proofs.Made.{text-is}
use Rattle.replay_xform.proofs.program.replay.Goals as goal

pub returns-in-Ok-clause-text : goal.returns-in-Ok-clause-text
returns-in-Ok-clause-text c =
    let short : nat_lt 200000 (length c.args.events.now) ≡ false = grind (arith, nat_tests) in
    text-is (plain_program c.args.p.now) c.args.types.now c.args.numbers.now c.args.events.now (plain_program c.in-Ok.text) short c.in-Ok.ensures

pub returns-in-Ok-clause-limit : goal.returns-in-Ok-clause-limit
returns-in-Ok-clause-limit c = λ long.
    let short : nat_lt 200000 (length c.args.events.now) ≡ false = grind (arith, nat_tests) in
    absurd (false≢true (sym short ∙ long))

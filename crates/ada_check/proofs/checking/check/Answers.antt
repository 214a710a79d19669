use Rattle.ada_tree.specs.PlainProgram.{plain_program}
use Rattle.ada_check.proofs.Broken.{all_broken}
use Rattle.ada_check.proofs.checking.check.Goals as goal

pub returns-clause-broken : goal.returns-clause-broken
returns-clause-broken c = all_broken (plain_program c.args.p.now) c.args.mode c.judged.result c.judged.ensures.err

use Rattle.ada_tree.specs.PlainProgram.{plain_program}
use Rattle.ada_static_rules.proofs.FirstRefusal.{meets_rules, is_told}
use Rattle.ada_static_rules.proofs.verdicts.verdict.Goals as goal

pub returns-in-Some-clause-err : goal.returns-in-Some-clause-err
returns-in-Some-clause-err c =
    is_told (plain_program c.args._program.now) c.args.others c.args.repeated c.in-Some.refusal c.error_of.result c.requires.others c.requires.repeated c.in-Some.ensures c.error_of.ensures

pub returns-in-None-clause-ok : goal.returns-in-None-clause-ok
returns-in-None-clause-ok c =
    meets_rules (plain_program c.args._program.now) c.args.others c.args.repeated c.requires.others c.requires.repeated c.in-None.ensures

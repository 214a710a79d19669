use Rattle.std.proofs.Common.{length, take, ap, ◌∙◌}
use Rattle.ada_tree.specs.PlainProgram.{PProgram, plain_program}
use Rattle.collect_xform.proofs.Named.{begins-collected}
use Rattle.collect_xform.proofs.program.collect.Goals as goal

pub returns-in-Ok-clause-names : goal.returns-in-Ok-clause-names
returns-in-Ok-clause-names c =
    ap (λ (q : PProgram). take (length c.args.p.now.names) q.names) c.in-Ok.ensures ∙ begins-collected (plain_program c.args.p.now) c.args.types.now c.args.numbers.now

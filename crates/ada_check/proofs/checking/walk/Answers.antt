use Rattle.ada_tree.specs.PlainProgram.{plain_program}
use Rattle.ada_check.proofs.Programs.{around_is}
use Rattle.ada_check.proofs.checking.walk.Goals as goal

pub walk_program-requires : goal.walk_program-requires
walk_program-requires c = around_is _ _ (plain_program c.args.p.now) c.in_ok-around.ensures c.requires

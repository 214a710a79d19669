use Rattle.ada_tree.specs.PlainProgram.{plain_program}
use Rattle.replay_model.specs.ReplayTree.{normal_setting}
use Rattle.collect_xform.proofs.Made.{setting, setting-is}
use Rattle.collect_abort.proofs.Made.{begins, same-text}
use Rattle.collect_abort.proofs.program.collect.Goals as goal

pub returns : goal.returns
returns c =
    let text = same-text (setting (plain_program c.in_ok-q.q) c.args.types.now c.in_ok-renumbered.renumbered) (normal_setting (plain_program c.args.p.now) c.args.types.now c.args.numbers.now) c.collect_normal.result
    (setting-is (plain_program c.args.p.now) (plain_program c.in_ok-q.q) c.args.types.now c.args.numbers.now c.in_ok-renumbered.renumbered c.in_ok-q.ensures c.in_ok-renumbered.ensures) c.collect_normal.ensures in
    record {
      text = text;
      names = begins (plain_program c.args.p.now) c.args.types.now c.args.numbers.now c.collect_normal.result text;
    }

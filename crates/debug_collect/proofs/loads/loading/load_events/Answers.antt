use Rattle.ada_tree.specs.PlainProgram.{plain_program}
use Rattle.debug_collect.proofs.loads.Meant.{replayed_means, text_is_legal}
use Rattle.debug_collect.proofs.loads.loading.load_events.Goals as goal

pub replay_load-requires-clause-legal : goal.replay_load-requires-clause-legal
replay_load-requires-clause-legal c =
    text_is_legal c.args.n (plain_program c.args.program.now) c.args.types.now c.args.numbers.now c.requires.load c.args.events.now c.requires.collected c.requires.few

pub returns-in-Ok-replay_load-clause-loaded : goal.returns-in-Ok-replay_load-clause-loaded
returns-in-Ok-replay_load-clause-loaded c =
    replayed_means c.args.n (plain_program c.args.program.now) c.args.types.now c.args.numbers.now c.requires.load c.args.events.now c.requires.collected c.requires.few
    c.requires.short c.in-Ok.verdict c.in-Ok.ensures c.in-Ok-replay_load.found c.in-Ok-replay_load.ensures c.loaded_of.result (c.loaded_of.ensures c.args.n)

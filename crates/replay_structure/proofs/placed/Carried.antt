-- The laws, from their parts.
use Rattle.replay_model.specs.ReplayTree.{normal_setting, script_of}
use Rattle.syn_event.specs.Numbering.{owner_of}
use Rattle.std.proofs.Common.{length}
use Rattle.replay_structure.specs.placed.Laws.{ReplayIsPlaced, ScriptIsPlaced}
use Rattle.replay_structure.proofs.placed.Declared.{replay_is_placed}
use Rattle.replay_structure.proofs.placed.Scripted.{script-some, script-literals}

pub all_replays_placed : ReplayIsPlaced
all_replays_placed g ops h some few i = replay_is_placed g h ops some few i

pub all_scripts_placed : ScriptIsPlaced
all_scripts_placed p types numbers events h few small literals short =
    replay_is_placed (normal_setting p types numbers) h (script_of numbers events) (script-some (owner_of numbers) (length numbers.tasks) events) short
    (script-literals (owner_of numbers) (length numbers.tasks) events few small literals)

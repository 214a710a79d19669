use Rattle.std.proofs.Common.{◌≡◌, ◌++◌, length, drop}
use Rattle.syn_event.specs.Numbering.{owner_of}
use Rattle.control_script.specs.Script.{script, script_from}
use Rattle.control_script.proofs.operations.script.Given as goal

-- the operations of the events gone by are written, and those left stand behind them
abbrev pub invariant-loop-e : goal.invariant-loop-e
invariant-loop-e l = record {
  whole : script (owner_of l.numbers) (length l.numbers.tasks) l.events ≡ l.ops.items ++ script_from (owner_of l.numbers) l.progress (drop l.e-index l.events);
  ended : l.ended ≡ l.progress.ended;
  tasks : length l.progress.parties ≡ length l.numbers.tasks;
}

-- The law of the rules 13 to 23 in replay texts.
use Rattle.std.specs.Prelude.{List}
use Rattle.syn_event.specs.declared.numbering.Mode.TheVariants.{Any}
use Rattle.syn_event.specs.CheckRefusals.{MeetsCheckRules}
use Rattle.task_model.specs.Setting.{Setting}
use Rattle.control_script.specs.declared.Op.{Op}
use Rattle.replay_model.specs.ReplayTree.{replay_of}
use Rattle.replay_structure.specs.checked.Checkable.{IsCheckable}
use Rattle.replay_structure.specs.checked.Example.{example_set, example_ops}

-- The replay text of a normal form that meets the rules 13 to 23 as a rewritten text, and is as asked, meets them so too.
abbrev pub ReplayMeetsChecks : Type 0
ReplayMeetsChecks = (g : Setting) (ops : List Op) → IsCheckable g ops → MeetsCheckRules g.program Any → MeetsCheckRules (replay_of g ops) Any

-- A normal form is as asked, with the operations of a whole run.
abbrev pub IsMet : Type 0
IsMet = IsCheckable example_set example_ops

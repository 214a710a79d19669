use Rattle.std.proofs.Common.{◌≡◌, drop, option_map}
use Rattle.ada_tree.specs.PlainDecl.{plain_init}
use Rattle.task_model.specs.Starting.{with_objects}
use Rattle.task_steps.proofs.start.objects.add_objects.Given as goal

-- the names to come add to the objects so far what all names add to those of before
abbrev pub invariant-loop-word : goal.invariant-loop-word
invariant-loop-word l = with_objects l.names l.form (option_map plain_init l.init) (drop l.word-index l.words) l.objects ≡ with_objects l.names l.form (option_map plain_init l.init) l.words l.fn.objects

use Rattle.std.proofs.Common.{◌≡◌, ◌≤◌, ◌++◌, map, vec_capacity}
use Rattle.std.specs.List.{filter_map}
use Rattle.ada_tree.specs.PlainStmt.{plain_alt, alts_of}
use Rattle.task_model.specs.Waits.{alternatives_open}
use Rattle.task_waits.specs.Standing.{task_here}
use Rattle.task_waits.specs.inner.Choosing.{chosen, opens_or_none}
use Rattle.task_waits.proofs.Opens.{delays_before, opens_from, AreLeft}
use Rattle.task_waits.proofs.choosing.put_choices.Given as goal

-- the choices so far, in front of those of the alternatives that are left
abbrev pub invariant-loop-alt : goal.invariant-loop-alt
invariant-loop-alt l = record {
  counted : l.delays ≡ delays_before l.alts l.alt-index 0;
  few : l.delays ≤ l.alt-index;
  left :
      AreLeft l.sort (opens_from (task_here l.here) l.alts l.alt-index) l.choices.items
      (l.fn.choices.items ++ filter_map (chosen l.sort) (opens_or_none (alternatives_open (task_here l.here) (alts_of (map plain_alt l.alts)) 0)));
  room : vec_capacity l.choices ≡ vec_capacity l.fn.choices;
}

use Rattle.std.proofs.Common.{◌≡◌, is_some, map}
use Rattle.ada_tree.specs.PlainStmt.{alts_of, plain_alt}
use Rattle.normal_model.specs.Waits.{all_guards}
use Rattle.normal_walk.proofs.waits.Guarding.{left_from}
use Rattle.normal_walk.proofs.waits.closing.are_guarded.Given as goal

-- it hangs on those that are left
abbrev pub invariant-loop-alt : goal.invariant-loop-alt
invariant-loop-alt l = is_some (all_guards (alts_of (map plain_alt l.alts))) ≡ is_some (all_guards (alts_of (left_from l.alts l.alt-index)))

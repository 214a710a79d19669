use Rattle.std.proofs.Common.{◌≡◌, take, false}
use Rattle.std.specs.List.{list_any}
use Rattle.syn_event.specs.RuleExitPlace.{is_left}
use Rattle.ada_check_places.proofs.parts.statement_parts.is_any_left.Given as goal

-- none of the loops so far is left
abbrev pub invariant-loop-loop_name : goal.invariant-loop-loop_name
invariant-loop-loop_name l = list_any (is_left l.name) (take l.loop_name-index l.loops) ≡ false

use Rattle.std.proofs.Common.{◌≡◌, drop}
use Rattle.syn_event.specs.RuleReservedName.{has_mark}
use Rattle.ada_check_rules.proofs.rules.asking_by_mode.has_mark.Given as goal

-- the bytes that are left tell it
abbrev pub invariant-loop-place : goal.invariant-loop-place
invariant-loop-place l = has_mark (drop l.place l.text) ≡ has_mark l.text

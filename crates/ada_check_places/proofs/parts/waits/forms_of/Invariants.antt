use Rattle.std.proofs.Common.{◌≡◌, map, drop}
use Rattle.ada_tree.specs.PlainStmt.{plain_alt, alts_of}
use Rattle.syn_event.specs.RuleSelectForm.{alt_kinds}
use Rattle.ada_check_places.specs.parts.inner.Waiting.{forms_behind, forms_in}
use Rattle.ada_check_places.proofs.parts.waits.forms_of.Given as goal

-- with the alternatives that are left
abbrev pub invariant-loop-alt : goal.invariant-loop-alt
invariant-loop-alt l = forms_behind l.forms (alt_kinds (alts_of (map plain_alt (drop l.alt-index l.alts)))) ≡ forms_in (alt_kinds (alts_of (map plain_alt l.alts)))

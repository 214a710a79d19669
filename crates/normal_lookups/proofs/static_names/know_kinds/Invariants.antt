use Rattle.std.proofs.Common.{◌≡◌, ◌||◌, is_some, take}
use Rattle.ada_tree.specs.declared.naming.NameId.{NameId}
use Rattle.ada_static_rules.specs.StaticValue.{literal_position}
use Rattle.scoped_names.specs.Meaning.{meaning_in}
use Rattle.normal_lookups.proofs.static_names.know_kinds.Given as goal

abbrev pub invariant-loop-kind : goal.invariant-loop-kind
invariant-loop-kind l = (id : NameId) → is_some (meaning_in l.known id.0) ≡ (is_some (meaning_in l.fn.known id.0) || is_some (literal_position (take l.kind-index l.kinds) id))

-- What contracts see of a task or task type.
use Rattle.std.specs.Prelude.{ℕ, List}
use Rattle.ada_tree.specs.declared.naming.NameId.{NameId}
use Rattle.syn_event.specs.CheckScope.{EnclosingUnit}
use Rattle.scoped_names.specs.name_sets.Numbers.{id_of}

abbrev pub unit : NameId → List NameId → EnclosingUnit
unit name entries = record { name = name; entries = entries }

abbrev pub unit_of_id : ℕ → List NameId → EnclosingUnit
unit_of_id n entries = unit (id_of n) entries

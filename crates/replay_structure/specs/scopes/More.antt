-- What can be used in a replay text is what can be used in the normal form, with more names and with more entries of tasks (this project's rule). The
-- types are the same up to the controller's body: no variable of a permit has a range of its own.
use Rattle.std.specs.Prelude.{◌≡◌, ℕ, ◌==◌, Bool, true, false, List, [], Option, Some, None}
use Rattle.std.specs.List.{AllByRecursion}
use Rattle.ada_tree.specs.declared.naming.NameId.{NameId}
use Rattle.ada_tree.specs.PlainDecl.{PEntry}
use Rattle.ada_tree.specs.PlainProgram.{PProgram}
use Rattle.ada_static_rules.specs.StaticValue.{value_named}
use Rattle.ada_static_rules.specs.Scope.{Scope, single, EntryPart, Thing, SingleTask, meaning, entry_named}
use Rattle.normal_laws.specs.structure.asked.Pieces.{IsAmong}
use Rattle.replay_model.specs.declared.tables.columns.Column.{Column}
use Rattle.replay_model.specs.Names.{kind_text, argument_text, index_text, never_text, join_text, counter_text, added_id}
use Rattle.replay_model.specs.tables.Columns.{table_name}
use Rattle.replay_model.specs.Controlling.{control_ids}
use Rattle.replay_structure.specs.typed.ScopeOf.{IsNumber, HasLists, HasDoubles, double_id}
use Rattle.replay_structure.specs.typed.Controller.{IsInteger}

-- it is a single task
abbrev pub is_single : Option Thing → Bool
is_single (Some (SingleTask entries)) = true
is_single _ = false

module _ (q : PProgram) (old : ℕ → Bool) where
  -- ---- names

  -- The names of a task's entries are old; those of their doubles, of DED_NEVER and of DED_JOIN are new, and differ from one another.
  pub record AreDoubled (es : List PEntry) : Type 0 where
    pub named : AllByRecursion (λ (e : PEntry). old e.name.name.0 ≡ true) es
    pub added : AllByRecursion (λ (e : PEntry). old (double_id q e.name.name).0 ≡ false) es
    pub apart : (x y : PEntry) → IsAmong x es → IsAmong y es → (double_id q x.name.name).0 ≡ (double_id q y.name.name).0 → x.name.name.0 ≡ y.name.name.0
    pub never : AllByRecursion (λ (e : PEntry). ((double_id q e.name.name).0 == (added_id q never_text).0) ≡ false) es
    pub join : AllByRecursion (λ (e : PEntry). ((double_id q e.name.name).0 == (added_id q join_text).0) ≡ false) es

  -- DED_NEVER and DED_JOIN are new and differ
  pub record AreEntriesNew : Type 0 where
    pub never : old (added_id q never_text).0 ≡ false
    pub join : old (added_id q join_text).0 ≡ false
    pub other : ((added_id q never_text).0 == (added_id q join_text).0) ≡ false

  -- ---- scopes

  -- a task with these entries has them in the replay text too, with their doubles, DED_NEVER and DED_JOIN
  pub record IsTaskMore (entries : List EntryPart) (there : Option Thing) : Type 0 where
    pub doubles : HasDoubles q old entries there
    pub never : HasLists (entry_named doubles.more (added_id q never_text)) single []
    pub join : HasLists (entry_named doubles.more (added_id q join_text)) single []

  -- a name means the same and no task, or it means a task on both sides, with more entries on the right
  pub data IsGrown (a b : Option Thing) : Type 0 where
    stays : b ≡ a → is_single a ≡ false → IsGrown a b
    doubled : (entries : List EntryPart) → a ≡ Some (SingleTask entries) → IsTaskMore entries b → IsGrown a b

  -- The scope d of a replay text has the types of the scope c of the normal form, and old names mean the same but for the entries of tasks.
  pub record IsMore (c d : Scope) : Type 0 where
    pub types : d.types ≡ c.types
    pub main : d.in_main ≡ c.in_main
    pub things : (id : NameId) → old id.0 ≡ true → IsGrown (meaning c id) (meaning d id)

  -- the variables of a permit have new names
  pub record ArePermitsNew : Type 0 where
    pub kind : old (added_id q kind_text).0 ≡ false
    pub argument : old (added_id q argument_text).0 ≡ false
    pub index : old (added_id q index_text).0 ≡ false

  -- so have the tables of the controller and its loop parameter
  pub record AreTablesNew : Type 0 where
    pub tables : (column : Column) → old (table_name (control_ids q) column).0 ≡ false
    pub counter : old (added_id q counter_text).0 ≡ false

  -- where the variables of a permit are declared INTEGER is what it is before, and their names are those of no constant and of no literal
  pub record IsReady (c : Scope) : Type 0 where
    pub integer : IsInteger c
    pub kind : value_named c.types (added_id q kind_text) ≡ None
    pub argument : value_named c.types (added_id q argument_text) ≡ None
    pub index : value_named c.types (added_id q index_text) ≡ None

-- the variables of a permit
pub record HasPermit (q : PProgram) (d : Scope) : Type 0 where
  pub kind : IsNumber d (added_id q kind_text)
  pub argument : IsNumber d (added_id q argument_text)
  pub index : IsNumber d (added_id q index_text)

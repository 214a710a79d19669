-- What can be used at a place of a unit in a collecting text of a program with abort statements, beside what can be used there without, for the static rules 1 and 3 to 12 (this project's rule): the variables of its places.
use Rattle.std.specs.Prelude.{◌≡◌, ℕ, ◌==◌, Bool, false, None}
use Rattle.ada_tree.specs.declared.naming.NameId.{NameId}
use Rattle.ada_tree.specs.PlainProgram.{PProgram}
use Rattle.ada_tree.specs.TypeTable.{TypeTable}
use Rattle.ada_static_rules.specs.RuleDuplicate.{is_predefined}
use Rattle.ada_static_rules.specs.Scope.{Scope}
use Rattle.ada_static_rules.specs.StaticValue.{value_named}
use Rattle.replay_structure.specs.typed.ScopeOf.{IsNumber}
use Rattle.collect_model.specs.Names.{caller_text}
use Rattle.collect_structure.specs.Names.{added_id}
use Rattle.collect_structure.specs.typed.Told.{IsTruth}
use Rattle.collect_model.specs.aborts.AbortTeller.{AbortTeller}
use Rattle.collect_structure.specs.aborts.asked.Pieces.{IsPlace}

-- the variables of each place: the caller is a number, and whether it was refused a truth value
pub record SeesPlaces (x : AbortTeller) (most : ℕ) (d : Scope) : Type 0 where
  pub taken : (p : ℕ) → IsPlace most p → IsNumber d (x.taken p)
  pub refused : (p : ℕ) → IsPlace most p → IsTruth d (x.refused p)

-- a name that no accept and no loop of the text hides: the names that those of the normal form declare are told by a test
pub record IsOutside (q : PProgram) (inner : ℕ → Bool) (id : NameId) : Type 0 where
  pub shown : inner id.0 ≡ false
  pub caller : ((added_id q caller_text).0 == id.0) ≡ false

-- the names of these variables are such ones
pub record ArePlacesOuter (q : PProgram) (inner : ℕ → Bool) (x : AbortTeller) (most : ℕ) : Type 0 where
  pub taken : (p : ℕ) → IsPlace most p → IsOutside q inner (x.taken p)
  pub refused : (p : ℕ) → IsPlace most p → IsOutside q inner (x.refused p)

-- The names of these variables are none of the predefined ones, none that has a value in the table, and no two are one.
pub record AreNewPlaces (x : AbortTeller) (most : ℕ) (types : TypeTable) : Type 0 where
  pub taken : (p : ℕ) → IsPlace most p → (is_predefined (x.taken p).0 ≡ false) × (value_named types (x.taken p) ≡ None)
  pub refused : (p : ℕ) → IsPlace most p → (is_predefined (x.refused p).0 ≡ false) × (value_named types (x.refused p) ≡ None)
  pub two_taken : (p r : ℕ) → IsPlace most p → IsPlace most r → (p ≡ r → ⊥) → ((x.taken p).0 == (x.taken r).0) ≡ false
  pub two_refused : (p r : ℕ) → IsPlace most p → IsPlace most r → (p ≡ r → ⊥) → ((x.refused p).0 == (x.refused r).0) ≡ false
  pub taken_apart : (p r : ℕ) → IsPlace most p → IsPlace most r → ((x.taken p).0 == (x.refused r).0) ≡ false
  pub refused_apart : (p r : ℕ) → IsPlace most p → IsPlace most r → ((x.refused p).0 == (x.taken r).0) ≡ false

-- What a line of a table is worth in its turn.
use Rattle.std.proofs.Common.{◌≡◌, ℕ, suc, ◌≤◌, Bool, List, [], ◌∷◌, ◌++◌, map, length, slice_index_or, length-append, Option, Some, if◌then◌else◌, refl, ap, ◌∙◌, arith}
use Rattle.std.specs.Prelude.{pos, ◌-ℤ◌, unsigned_abs, ◌&&◌, int_le, Result, Ok, Err}
use Rattle.std.proofs.lemmas.Int.{ints}
use Rattle.std.proofs.lemmas.Bool.{le-leb}
use Rattle.ada_static_rules.specs.Scope.{integer_kind}
use Rattle.ada_value.specs.declared.values.Value.{Value}
use Rattle.ada_value.specs.declared.values.Value.TheVariants.{Number}
use Rattle.ada_value.specs.declared.values.Raised.{Raised}
use Rattle.ada_value.specs.declared.values.Raised.TheVariants as raised
use Rattle.ada_value.specs.Values.{and_then, place_in}
use Rattle.ada_value.specs.Variables.{Object, Variables, object_named, value_there}
use Rattle.ada_value.specs.Evaluating.{evaluated, name_value, component_value}
use Rattle.control_script.specs.declared.Op.{Op}
use Rattle.replay_model.specs.declared.tables.columns.Column.{Column}
use Rattle.replay_model.specs.declared.tables.columns.Column.TheVariants.{Operation, Task, Kind, Argument, Index}
use Rattle.replay_model.specs.tables.Columns.{says, table_name}
use Rattle.replay_model.specs.tables.Turns.{line_of}
use Rattle.table_law.specs.Controllers.{Controller, Entries, IsController}
use Rattle.table_law.specs.States.{table_object, tables, counter, turn_variables, permit_variables}
use Rattle.table_law.proofs.Found.{first-named, found}

-- what stands at the seam of two lists that are seen through a function
seam : {X Y : Type 0} (f : X → Y) (made : List X) (x : X) (left : List X) (d : Y) → slice_index_or (map f (made ++ x ∷ left)) (length made) d ≡ f x
seam f [] x left d = refl
seam f (y ∷ made) x left d = seam f made x left d

before-one : (m : ℕ) → unsigned_abs (pos (suc m) -ℤ pos 1) ≡ m
before-one m = let same : pos (suc m) -ℤ pos 1 ≡ pos m = omega (arith, ints) in ap unsigned_abs same

-- the place of an index from 1
place-is : (m n : ℕ) → suc m ≤ n → place_in (record { kind = integer_kind; first = pos 1; last = pos n }) (pos (suc m)) ≡ Ok m
place-is m n l =
    ap (λ (b : Bool). if b && int_le (pos (suc m)) (pos n) then Ok (unsigned_abs (pos (suc m) -ℤ pos 1)) else Err raised.Constraint) (le-leb 1 (suc m) (omega arith))
    ∙ ap (λ (b : Bool). if b then Ok (unsigned_abs (pos (suc m) -ℤ pos 1)) else Err raised.Constraint) (le-leb (suc m) n l)
    ∙ ap (λ (i : ℕ). Ok i) (before-one m)

module _ (k : Controller) where
  -- with variables among which the loop parameter and the table are found
  line-is :
      (vars : Variables) (column : Column) (made : List Op) (op : Op) (left : List Op) →
      object_named vars k.names.counter ≡ Some (counter k (suc (length made))) →
      object_named vars (table_name k.names column) ≡ Some (table_object k column (made ++ op ∷ left)) →
      evaluated k.setting.types vars (line_of k.names k.span column) ≡ Ok (Number (says column op))
  line-is vars column made op left counted tabled =
      let all : List Op = made ++ op ∷ left in
      let within : suc (length made) ≤ length all = omega (arith, length-append made (op ∷ left)) in
      ap (λ (o : Option Object). component_value (object_named vars (table_name k.names column)) (name_value k.setting.types o k.names.counter)) counted
      ∙ ap (λ (o : Option Object). component_value o (Number (pos (suc (length made))))) tabled
      ∙ ap (λ (r : Result ℕ Raised). and_then r (λ i. Ok (value_there (table_object k column all) i))) (place-is (length made) (length all) within)
      ∙ ap (λ (v : Value). Ok v) (seam (λ (x : Op). Number (says column x)) made op left (Number (pos 0)))

module _ (k : Controller) (e : Entries) (h : IsController k e) where
  -- ---- in a turn

  tabled : (column : Column) (all : List Op) (over : ℕ) → object_named (turn_variables k all over) (table_name k.names column) ≡ Some (table_object k column all)
  tabled Operation all over = found (turn_variables k all over) 5 (table_object k Operation all) h.apart.1.1.1 refl
  tabled Task all over = found (turn_variables k all over) 4 (table_object k Task all) h.apart.1.1.1 refl
  tabled Kind all over = found (turn_variables k all over) 3 (table_object k Kind all) h.apart.1.1.1 refl
  tabled Argument all over = found (turn_variables k all over) 2 (table_object k Argument all) h.apart.1.1.1 refl
  tabled Index all over = found (turn_variables k all over) 1 (table_object k Index all) h.apart.1.1.1 refl

  pub line-in-turn :
      (column : Column) (made : List Op) (op : Op) (left : List Op) →
      evaluated k.setting.types (turn_variables k (made ++ op ∷ left) (length made)) (line_of k.names k.span column) ≡ Ok (Number (says column op))
  line-in-turn column made op left =
      let all : List Op = made ++ op ∷ left in
      line-is k (turn_variables k all (length made)) column made op left (first-named (counter k (suc (length made))) (tables k all)) (tabled column all (length made))

  -- ---- in an accept body of GO

  tabled-within : (a b c : Value) (column : Column) (all : List Op) (over : ℕ) → object_named (permit_variables k a b c all over) (table_name k.names column) ≡ Some (table_object k column all)
  tabled-within a b c Operation all over = found (permit_variables k a b c all over) 8 (table_object k Operation all) h.apart refl
  tabled-within a b c Task all over = found (permit_variables k a b c all over) 7 (table_object k Task all) h.apart refl
  tabled-within a b c Kind all over = found (permit_variables k a b c all over) 6 (table_object k Kind all) h.apart refl
  tabled-within a b c Argument all over = found (permit_variables k a b c all over) 5 (table_object k Argument all) h.apart refl
  tabled-within a b c Index all over = found (permit_variables k a b c all over) 4 (table_object k Index all) h.apart refl

  pub line-in-body :
      (a b c : Value) (column : Column) (made : List Op) (op : Op) (left : List Op) →
      evaluated k.setting.types (permit_variables k a b c (made ++ op ∷ left) (length made)) (line_of k.names k.span column) ≡ Ok (Number (says column op))
  line-in-body a b c column made op left =
      let all : List Op = made ++ op ∷ left in
      line-is k (permit_variables k a b c all (length made)) column made op left
      (found (permit_variables k a b c all (length made)) 3 (counter k (suc (length made))) h.apart refl)
      (tabled-within a b c column all (length made))

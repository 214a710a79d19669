-- What names mean among variables whose names are apart.
use Rattle.std.proofs.Common.{◌≡◌, ℕ, zero, suc, ◌==◌, Bool, false, cond, [], ◌∷◌, ◌++◌, map, option_map, slice_get, Some, if◌then◌else◌, ap, ◌∙◌, subst}
use Rattle.std.specs.List.{AllByRecursion}
use Rattle.std.proofs.lemmas.Option.{slice_get-map}
use Rattle.common_lemmas.proofs.Lists.{holds_at}
use Rattle.common_lemmas.proofs.Numbers.{equal_self}
use Rattle.common_lemmas.proofs.Options.{some_same, not_missing}
use Rattle.ada_tree.specs.declared.naming.NameId.{NameId}
use Rattle.ada_value.specs.declared.values.Value.{Value}
use Rattle.ada_value.specs.Variables.{Object, Variables, object_named, set_value, with_value}
use Rattle.table_law.specs.Controllers.{AreApart}

-- ---- look-ups

pub first-named : (o : Object) (vars : Variables) → object_named (o ∷ vars) o.name ≡ Some o
first-named o vars = ap (λ (b : Bool). cond b (Some o) (object_named vars o.name)) (equal_self o.name.0)

pub later-named : (o : Object) (vars : Variables) (id : NameId) → (o.name.0 == id.0) ≡ false → object_named (o ∷ vars) id ≡ object_named vars id
later-named o vars id e = ap (λ (b : Bool). cond b (Some o) (object_named vars id)) e

-- a variable is found by its name
pub found : (vars : Variables) (i : ℕ) (o : Object) → AreApart (map (λ (v : Object). v.name) vars) → slice_get vars i ≡ Some o → object_named vars o.name ≡ Some o
found [] i o apart there = absurd (not_missing o there)
found (v ∷ vars) zero o apart there = subst (λ (x : Object). object_named (v ∷ vars) x.name ≡ Some x) (some_same there) (first-named v vars)
found (v ∷ vars) (suc i) o apart there =
    let differs =
    holds_at (λ (y : NameId). (v.name.0 == y.0) ≡ false) (map (λ (x : Object). x.name) vars) i o.name
    (slice_get-map (λ (x : Object). x.name) vars i ∙ ap (option_map (λ (x : Object). x.name)) there) apart.0 in
    later-named v vars o.name differs ∙ found vars i o apart.1 there

-- ---- assignments

first-set : (o : Object) (vars : Variables) (w : Value) → set_value (o ∷ vars) o.name 0 w ≡ with_value o 0 w ∷ vars
first-set o vars w = ap (λ (b : Bool). if b then with_value o 0 w ∷ vars else o ∷ set_value vars o.name 0 w) (equal_self o.name.0)

later-set : (o : Object) (vars : Variables) (id : NameId) (w : Value) → (o.name.0 == id.0) ≡ false → set_value (o ∷ vars) id 0 w ≡ o ∷ set_value vars id 0 w
later-set o vars id w e = ap (λ (b : Bool). if b then with_value o 0 w ∷ vars else o ∷ set_value vars id 0 w) e

-- a variable is assigned behind others that have other names
pub set : (front : Variables) (o : Object) (rest : Variables) (w : Value) → AllByRecursion (λ (x : Object). (x.name.0 == o.name.0) ≡ false) front → set_value (front ++ o ∷ rest) o.name 0 w ≡ front ++ with_value o 0 w ∷ rest
set [] o rest w differ = first-set o rest w
set (x ∷ front) o rest w differ = later-set x (front ++ o ∷ rest) o.name w differ.0 ∙ ap (λ (vs : Variables). x ∷ vs) (set front o rest w differ.1)

-- Variables of one value: what an assignment makes of them, and of others.
use Rattle.std.proofs.Common.{◌≡◌, ℕ, zero, suc, ◌<◌, true≢false, Bool, true, false, cond, ◌==◌, if◌then◌else◌, [], ◌∷◌, Some, option_map, refl, sym, ap, subst, ◌∙◌}
use Rattle.std.proofs.lemmas.Bool.{eqb-true}
use Rattle.ada_tree.specs.declared.naming.NameId.{NameId}
use Rattle.ada_value.specs.declared.values.Value.{Value}
use Rattle.ada_value.specs.declared.values.Limits.{Limits}
use Rattle.ada_value.specs.Variables.{Object, Variables, object_named, with_value, set_value}
use Rattle.task_model.specs.Setting.{Setting}
use Rattle.normal_model.specs.Names.{variable_name}
use Rattle.task_laws.specs.translation.Translations.{Programs, IsOld}
use Rattle.normal_laws.specs.runs.floors.Preludes.{IsCell, Added, AreThere}

-- the variable that is assigned to
pub named-set_same : (W : Variables) (id : NameId) (k : ℕ) (v : Value) → object_named (set_value W id k v) id ≡ option_map (λ o. with_value o k v) (object_named W id)
named-set_same [] id k v = refl
named-set_same (o ∷ rest) id k v = go (o.name.0 == id.0) refl (named-set_same rest id k v)
  where
    go : (t : Bool) → (o.name.0 == id.0) ≡ t → object_named (set_value rest id k v) id ≡ option_map (λ o. with_value o k v) (object_named rest id) → object_named (if t then with_value o k v ∷ rest else o ∷ set_value rest id k v) id ≡ option_map (λ o. with_value o k v) (cond t (Some o) (object_named rest id))
    go true e ih = ap (λ c. cond c (Some (with_value o k v)) (object_named rest id)) e
    go false e ih = ap (λ c. cond c (Some o) (object_named (set_value rest id k v) id)) e ∙ ih

-- a variable of another name
pub named-set_other : (W : Variables) (id : NameId) (k : ℕ) (v : Value) (other : NameId) → (id.0 == other.0) ≡ false → object_named (set_value W id k v) other ≡ object_named W other
named-set_other [] id k v other ne = refl
named-set_other (o ∷ rest) id k v other ne = go (o.name.0 == id.0) refl (named-set_other rest id k v other ne)
  where
    go : (t : Bool) → (o.name.0 == id.0) ≡ t → object_named (set_value rest id k v) other ≡ object_named rest other →
        object_named (if t then with_value o k v ∷ rest else o ∷ set_value rest id k v) other ≡ cond (o.name.0 == other.0) (Some o) (object_named rest other)
    go true e ih =
        let c : (o.name.0 == other.0) ≡ false = subst (λ m. (m == other.0) ≡ false) (sym (eqb-true o.name.0 id.0 e)) ne in
        ap (λ c. cond c (Some (with_value o k v)) (object_named rest other)) c ∙ sym (ap (λ c. cond c (Some o) (object_named rest other)) c)
    go false e ih = ap (λ r. cond (o.name.0 == other.0) (Some o) r) ih

-- a cell that is assigned to holds the value
pub cell-set : (W : Variables) (id : NameId) (limits : Limits) (v w : Value) → IsCell W id limits v → IsCell (set_value W id 0 w) id limits w
cell-set W id limits v w c = record { name = c.name; found = named-set_same W id 0 w ∙ ap (option_map (λ o. with_value o 0 w)) c.found }

pub cell-kept : (W W' : Variables) (id : NameId) (limits : Limits) (v : Value) → object_named W' id ≡ object_named W id → IsCell W id limits v → IsCell W' id limits v
cell-kept W W' id limits v e c = record { name = c.name; found = e ∙ c.found }

-- ---- the unit's variables

-- an old name is none of the variables'
pub apart-old : {b : Programs} {g : Setting} (added : Added b g) (id : NameId) → IsOld b id → (k : ℕ) → k < added.count → (id.0 == (variable_name g k).0) ≡ false
apart-old {b} {g} added id old k l = go (id.0 == (variable_name g k).0) refl
  where
    go : (t : Bool) → (id.0 == (variable_name g k).0) ≡ t → t ≡ false
    go false e = refl
    go true e = absurd (true≢false (sym old ∙ ap b.is_old (eqb-true id.0 (variable_name g k).0 e) ∙ added.new k l))

-- a cell stays one, whatever place of it is assigned to
cell-place : (W : Variables) (id : NameId) (limits : Limits) (v w : Value) (k : ℕ) → IsCell W id limits v → (y : Value) × IsCell (set_value W id k w) id limits y
cell-place W id limits v w zero c = (w, cell-set W id limits v w c)
cell-place W id limits v w (suc k) c = (v, record { name = c.name; found = named-set_same W id (suc k) w ∙ ap (option_map (λ o. with_value o (suc k) w)) c.found })

-- a variable of one value stays one, whatever is assigned to
pub cell-any : (W : Variables) (id : NameId) (k : ℕ) (v : Value) (name : NameId) (limits : Limits) → (y : Value) × IsCell W name limits y → (y : Value) × IsCell (set_value W id k v) name limits y
cell-any W id k v name limits h = go (id.0 == name.0) refl
  where
    go : (t : Bool) → (id.0 == name.0) ≡ t → (y : Value) × IsCell (set_value W id k v) name limits y
    go true e =
        let same : name ≡ id = ap (λ n. record { 0 = n }) (sym (eqb-true id.0 name.0 e)) in
        subst (λ a. (y : Value) × IsCell (set_value W id k v) a limits y) (sym same) (cell-place W id limits h.0 v k (subst (λ a. IsCell W a limits h.0) same h.1))
    go false e = (h.0, cell-kept W (set_value W id k v) name limits h.0 (named-set_other W id k v name e) h.1)

-- and so with another variable in front
pub cell-behind : (o : Object) (W : Variables) (name : NameId) (limits : Limits) → (o.name.0 == name.0) ≡ false → (y : Value) × IsCell W name limits y → (y : Value) × IsCell (o ∷ W) name limits y
cell-behind o W name limits e h = (h.0, record { name = h.1.name; found = ap (λ t. cond t (Some o) (object_named W name)) e ∙ h.1.found })

-- they are there, whatever is assigned to
pub there-any : {b : Programs} {g : Setting} (added : Added b g) (W : Variables) (id : NameId) (k : ℕ) (v : Value) → AreThere added W → AreThere added (set_value W id k v)
there-any {b} {g} added W id k v there j l = cell-any W id k v (variable_name g j) (added.bounds j) (there j l)

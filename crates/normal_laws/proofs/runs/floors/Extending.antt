-- Variables with added ones among them, and the formals of accept bodies in front of them: what is seen by old names, and what assignments leave.
use Rattle.std.proofs.Common.{◌≡◌, ℕ, Bool, true, false, cond, ◌==◌, if◌then◌else◌, List, [], ◌∷◌, ◌++◌, Some, refl, sym, ap, ◌∙◌, true≢false}
use Rattle.std.proofs.lemmas.Bool.{eqb-true}
use Rattle.ada_tree.specs.declared.naming.NameId.{NameId}
use Rattle.ada_value.specs.declared.values.Value.{Value}
use Rattle.ada_value.specs.Variables.{Object, Variables, object_named, with_value, set_value}
use Rattle.task_model.specs.declared.parameters.FormalParameter.{FormalParameter}
use Rattle.task_laws.specs.translation.Translations.{Programs, IsOld, IsKnown}
use Rattle.task_laws.specs.translation.Scopes.{AgreeOnTypes, HasKnown, SameObject, no_object, same_object, SeeAlike}
use Rattle.task_laws.proofs.translation.Evaluating.{known-with}
use Rattle.normal_laws.specs.runs.floors.NormalFloors.{Extends, extends_none, extends_old, extends_new, AreOpen, none_open, open_then}

-- variables with the same formals in front, of which the rest goes together
pub data Fronts (b : Programs) (B : Variables → Variables → Type 0) (fs : List FormalParameter) : Variables → Variables → Type 0 where
  fronts : (bs : List Object) (W W' : Variables) → AreOpen b fs bs → B W W' → Fronts b B fs (bs ++ W) (bs ++ W')

front-more : {b : Programs} {B : Variables → Variables → Type 0} (f : FormalParameter) (o : Object) (fs : List FormalParameter) → IsOld b o.name → HasKnown b o → {V V' : Variables} →
    Fronts b B fs V V' → Fronts b B (f ∷ fs) (o ∷ V) (o ∷ V')
front-more f o fs old known (fronts bs W W' own h) = fronts (o ∷ bs) W W' (open_then f o fs bs old known own) h

module _ (b : Programs) (types : AgreeOnTypes b) where
  -- ---- names

  sees-more : (o : Object) → HasKnown b o → {V V' : Variables} → SeeAlike b V V' → SeeAlike b (o ∷ V) (o ∷ V')
  sees-more o known {V} {V'} see = record { named = λ id old. go id (o.name.0 == id.0) (see.named id old) }
    where
      go : (id : NameId) (t : Bool) → SameObject b (object_named V id) (object_named V' id) → SameObject b (cond t (Some o) (object_named V id)) (cond t (Some o) (object_named V' id))
      go id true h = same_object o known
      go id false h = h

  sees-added : (o : Object) → b.is_old o.name.0 ≡ false → {V V' : Variables} → SeeAlike b V V' → SeeAlike b V (o ∷ V')
  sees-added o new {V} {V'} see = record { named = λ id old. go id old (o.name.0 == id.0) refl (see.named id old) }
    where
      go : (id : NameId) → IsOld b id → (t : Bool) → (o.name.0 == id.0) ≡ t → SameObject b (object_named V id) (object_named V' id) →
          SameObject b (object_named V id) (cond t (Some o) (object_named V' id))
      go id old true e h = absurd (true≢false (sym old ∙ ap b.is_old (sym (eqb-true o.name.0 id.0 e)) ∙ new))
      go id old false e h = h

  pub extends-sees : {V V' : Variables} → Extends b V V' → SeeAlike b V V'
  extends-sees extends_none = record { named = λ id old. no_object }
  extends-sees (extends_old o V V' old known h) = sees-more o known (extends-sees h)
  extends-sees (extends_new o V V' new h) = sees-added o new (extends-sees h)

  pub own-sees : {fs : List FormalParameter} {bs : List Object} → AreOpen b fs bs → {V V' : Variables} → SeeAlike b V V' → SeeAlike b (bs ++ V) (bs ++ V')
  own-sees none_open see = see
  own-sees (open_then f o fs rest old known h) see = sees-more o known (own-sees h see)

  -- ---- an assignment to an old name

  pub extends-set : (id : NameId) (k : ℕ) (v : Value) → IsOld b id → IsKnown b v → {V V' : Variables} → Extends b V V' → Extends b (set_value V id k v) (set_value V' id k v)
  extends-set id k v old known extends_none = extends_none
  extends-set id k v old known (extends_old o V V' was has h) = go (o.name.0 == id.0) (extends-set id k v old known h)
    where
      go : (t : Bool) → Extends b (set_value V id k v) (set_value V' id k v) →
          Extends b (if t then with_value o k v ∷ V else o ∷ set_value V id k v) (if t then with_value o k v ∷ V' else o ∷ set_value V' id k v)
      go true ih = extends_old (with_value o k v) V V' was (known-with b types o k v known has) h
      go false ih = extends_old o _ _ was has ih
  extends-set id k v old known (extends_new o V V' new h) = go (o.name.0 == id.0) refl (extends-set id k v old known h)
    where
      go : (t : Bool) → (o.name.0 == id.0) ≡ t → Extends b (set_value V id k v) (set_value V' id k v) →
          Extends b (set_value V id k v) (if t then with_value o k v ∷ V' else o ∷ set_value V' id k v)
      go true e ih = absurd (true≢false (sym old ∙ ap b.is_old (sym (eqb-true o.name.0 id.0 e)) ∙ new))
      go false e ih = extends_new o _ _ new ih

  -- an assignment of the image to an added name
  pub extends-add : (id : NameId) (k : ℕ) (v : Value) → b.is_old id.0 ≡ false → {V V' : Variables} → Extends b V V' → Extends b V (set_value V' id k v)
  extends-add id k v fresh extends_none = extends_none
  extends-add id k v fresh (extends_old o V V' was has h) = go (o.name.0 == id.0) refl (extends-add id k v fresh h)
    where
      go : (t : Bool) → (o.name.0 == id.0) ≡ t → Extends b V (set_value V' id k v) → Extends b (o ∷ V) (if t then with_value o k v ∷ V' else o ∷ set_value V' id k v)
      go true e ih = absurd (true≢false (sym was ∙ ap b.is_old (eqb-true o.name.0 id.0 e) ∙ fresh))
      go false e ih = extends_old o V _ was has ih
  extends-add id k v fresh (extends_new o V V' new h) = go (o.name.0 == id.0) (extends-add id k v fresh h)
    where
      go : (t : Bool) → Extends b V (set_value V' id k v) → Extends b V (if t then with_value o k v ∷ V' else o ∷ set_value V' id k v)
      go true ih = extends_new (with_value o k v) V V' new h
      go false ih = extends_new o V _ new ih

  -- ---- the formals of an accept body in front

  pub own-set : {B : Variables → Variables → Type 0} (id : NameId) (k : ℕ) (v : Value) → IsKnown b v → {fs : List FormalParameter} {bs : List Object} → AreOpen b fs bs →
      (V V' : Variables) → B V V' → B (set_value V id k v) (set_value V' id k v) → Fronts b B fs (set_value (bs ++ V) id k v) (set_value (bs ++ V') id k v)
  own-set id k v known none_open V V' h j = fronts [] _ _ none_open j
  own-set {B} id k v known (open_then f o fs rest was has own) V V' h j = go (o.name.0 == id.0) (own-set id k v known own V V' h j)
    where
      go : (t : Bool) → Fronts b B fs (set_value (rest ++ V) id k v) (set_value (rest ++ V') id k v) →
          Fronts b B (f ∷ fs) (if t then with_value o k v ∷ (rest ++ V) else o ∷ set_value (rest ++ V) id k v) (if t then with_value o k v ∷ (rest ++ V') else o ∷ set_value (rest ++ V') id k v)
      go true ih = front-more f (with_value o k v) fs was (known-with b types o k v known has) (fronts rest V V' own h)
      go false ih = front-more f o fs was has ih

  pub own-add : {B : Variables → Variables → Type 0} (id : NameId) (k : ℕ) (v : Value) → b.is_old id.0 ≡ false → {fs : List FormalParameter} {bs : List Object} → AreOpen b fs bs →
      (V V' : Variables) → B V (set_value V' id k v) → Fronts b B fs (bs ++ V) (set_value (bs ++ V') id k v)
  own-add id k v fresh none_open V V' j = fronts [] _ _ none_open j
  own-add {B} id k v fresh (open_then f o fs rest was has own) V V' j = go (o.name.0 == id.0) refl (own-add id k v fresh own V V' j)
    where
      go : (t : Bool) → (o.name.0 == id.0) ≡ t → Fronts b B fs (rest ++ V) (set_value (rest ++ V') id k v) →
          Fronts b B (f ∷ fs) (o ∷ (rest ++ V)) (if t then with_value o k v ∷ (rest ++ V') else o ∷ set_value (rest ++ V') id k v)
      go true e ih = absurd (true≢false (sym was ∙ ap b.is_old (eqb-true o.name.0 id.0 e) ∙ fresh))
      go false e ih = front-more f o fs was has ih

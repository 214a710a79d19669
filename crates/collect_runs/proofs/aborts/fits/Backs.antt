-- Values that come back stop nowhere, where they fit the formals of the entry and the actuals are variables with the subtypes of these.
use Rattle.std.proofs.Common.{◌≡◌, ◌==◌, Bool, true, false, if◌then◌else◌, List, [], ◌∷◌, Option, Some, None, option_map, Ok, Err, refl, sym, ap, subst, ◌∙◌}
use Rattle.common_lemmas.proofs.Options.{some_same}
use Rattle.ada_tree.specs.declared.naming.NameId.{NameId}
use Rattle.ada_tree.specs.declared.statements.ParMode.{ParMode}
use Rattle.ada_tree.specs.declared.statements.ParMode.TheVariants.{Take, Give, Both}
use Rattle.ada_tree.specs.PlainExpr.{PExpr}
use Rattle.ada_value.specs.declared.values.Value.{Value}
use Rattle.ada_value.specs.declared.values.Raised.TheVariants as raised
use Rattle.ada_value.specs.declared.values.Limits.{Limits}
use Rattle.ada_value.specs.Values.{and_then, lies_in, position_of}
use Rattle.ada_value.specs.Variables.{Object, Variables, object_named, value_there, checked_for, with_value, set_value}
use Rattle.task_model.specs.declared.parameters.FormalParameter.{FormalParameter}
use Rattle.task_model.specs.Calls.{comes_back, finals_if, finals_in, variable_of, stored_back, copies_on, copied_one, copied_back}
use Rattle.task_laws.specs.invariants.Holding.{Fits, AreHeld, AreAlike}

-- ---- the values

-- where the formal comes back there is a value in its subtype, in front of those of the others
abbrev BackIf : Bool → FormalParameter → (List Value → Type 0) → List Value → Type 0
BackIf false f Others vs = Others vs
BackIf true f Others [] = ⊥
BackIf true f Others (v ∷ vs) = Fits f.limits v × Others vs

-- The values are those of the formals that come back, in order, and each lies in its formal's subtype (6.4.1).
abbrev pub AreBackFor : List FormalParameter → List Value → Type 0
AreBackFor [] vs = Unit {0}
AreBackFor (f ∷ fs) vs = BackIf (comes_back f.mode) f (λ ws. AreBackFor fs ws) vs

-- the last values of formals that are held fit formals like these
pub finals-fit : (ps fs : List FormalParameter) (vars : Variables) → AreHeld fs vars → AreAlike ps fs → AreBackFor ps (finals_in fs vars)
finals-fit [] fs vars held alike = tt
finals-fit (p ∷ ps) [] vars held alike = absurd alike
finals-fit (p ∷ ps) (f ∷ fs) [] held alike = absurd held
finals-fit (p ∷ ps) (f ∷ fs) (o ∷ vars) held alike = by_mode (comes_back f.mode) (ap comes_back alike.0.0) (finals-fit ps fs vars held.1 alike.1)
  where
    by_mode : (c : Bool) → comes_back p.mode ≡ c → AreBackFor ps (finals_in fs vars) →
        BackIf (comes_back p.mode) p (AreBackFor ps) (finals_if c o (finals_in fs vars))
    by_mode false e more = subst (λ d. BackIf d p (AreBackFor ps) (finals_in fs vars)) (sym e) more
    by_mode true e more =
        subst (λ d. BackIf d p (AreBackFor ps) (value_there o 0 ∷ finals_in fs vars)) (sym e)
        (subst (λ l. Fits l (value_there o 0)) (held.0.0 ∙ sym alike.0.1) held.0.1, more)

-- ---- the variables

-- the actual is a variable with the formal's subtype among these
pub record IsThere (vars : Variables) (f : FormalParameter) (e : PExpr) : Type 0 where
  pub name : NameId
  pub variable : variable_of e ≡ Some name
  pub limits : option_map (λ (o : Object). o.limits) (object_named vars name) ≡ Some f.limits

-- so are actuals, in order
abbrev pub AreThere : Variables → List FormalParameter → List PExpr → Type 0
AreThere vars [] es = Unit {0}
AreThere vars (f ∷ fs) [] = Unit {0}
AreThere vars (f ∷ fs) (e ∷ es) = IsThere vars f e × AreThere vars fs es

-- the subtype of the variable that a name means
abbrev limits_there : Variables → NameId → Option Limits
limits_there vars id = option_map (λ (o : Object). o.limits) (object_named vars id)

-- an assignment leaves the subtypes
same-limits : (vars : Variables) (id other : NameId) (v : Value) → limits_there (set_value vars id 0 v) other ≡ limits_there vars other
same-limits [] id other v = refl
same-limits (o ∷ vars) id other v = by_test (same-limits vars id other v) (o.name.0 == id.0)
  where
    found : (c : Bool) (p : Object) → p.limits ≡ o.limits → (a b : Option Object) →
        option_map (λ (o : Object). o.limits) a ≡ option_map (λ (o : Object). o.limits) b →
        option_map (λ (o : Object). o.limits) (if c then Some p else a) ≡ option_map (λ (o : Object). o.limits) (if c then Some o else b)
    found true p same a b e = ap Some same
    found false p same a b e = e

    by_test : limits_there (set_value vars id 0 v) other ≡ limits_there vars other → (c : Bool) →
        limits_there (if c then with_value o 0 v ∷ vars else o ∷ set_value vars id 0 v) other ≡ limits_there (o ∷ vars) other
    by_test later true = found (o.name.0 == other.0) (with_value o 0 v) refl (object_named vars other) (object_named vars other) refl
    by_test later false = found (o.name.0 == other.0) o refl (object_named (set_value vars id 0 v) other) (object_named vars other) later

-- so the actuals stay such variables
still-there : (vars : Variables) (id : NameId) (v : Value) (fs : List FormalParameter) (es : List PExpr) → AreThere vars fs es →
    AreThere (set_value vars id 0 v) fs es
still-there vars id v [] es h = tt
still-there vars id v (f ∷ fs) [] h = tt
still-there vars id v (f ∷ fs) (e ∷ es) h = (
  record { name = h.0.name; variable = h.0.variable; limits = same-limits vars id h.0.name v ∙ h.0.limits },
  still-there vars id v fs es h.1,
)

-- ---- both

-- a value goes to a variable in whose subtype it lies
one-stored : (vars : Variables) (f : FormalParameter) (e : PExpr) (v : Value) (there : IsThere vars f e) → Fits f.limits v →
    stored_back vars (variable_of e) v ≡ Ok (set_value vars there.name 0 v)
one-stored vars f e v there fits = ap (λ o. stored_back vars o v) there.variable ∙ by_object (object_named vars there.name) there.limits
  where
    by_object : (o : Option Object) → option_map (λ (x : Object). x.limits) o ≡ Some f.limits →
        and_then (checked_for o v) (λ w. Ok (set_value vars there.name 0 w)) ≡ Ok (set_value vars there.name 0 v)
    by_object None q = cc
    by_object (Some o) q =
        ap (λ (l : Limits). and_then (if lies_in l (position_of v) then Ok v else Err raised.Constraint) (λ w. Ok (set_value vars there.name 0 w)))
        (some_same q)
        ∙ ap (λ c. and_then (if c then Ok v else Err raised.Constraint) (λ w. Ok (set_value vars there.name 0 w))) fits

-- whatever fits these formals comes back to these actuals
abbrev NoneStops : List FormalParameter → List PExpr → Type 0
NoneStops fs es = (vs : List Value) (vars : Variables) → AreBackFor fs vs → AreThere vars fs es → (copied_back fs es vs vars).stopped ≡ None

-- Values that fit the formals come back to variables of their subtypes, and nothing stops them (6.4.1).
pub none-stops : (fs : List FormalParameter) (es : List PExpr) (vs : List Value) (vars : Variables) → AreBackFor fs vs → AreThere vars fs es →
    (copied_back fs es vs vars).stopped ≡ None
none-stops [] es vs vars back there = refl
none-stops (f ∷ fs) [] vs vars back there = refl
none-stops (f ∷ fs) (e ∷ es) vs vars back there = by_mode (λ ws others k is. none-stops fs es ws others k is) f.mode vs back
  where
    one : NoneStops fs es → (v : Value) (ws : List Value) → Fits f.limits v → AreBackFor fs ws →
        (copies_on (λ changed. copied_back fs es ws changed) vars (stored_back vars (variable_of e) v)).stopped ≡ None
    one later v ws fits rest =
        ap (λ r. (copies_on (λ changed. copied_back fs es ws changed) vars r).stopped) (one-stored vars f e v there.0 fits)
        ∙ later ws (set_value vars there.0.name 0 v) rest (still-there vars there.0.name v fs es there.1)

    by_mode : NoneStops fs es → (m : ParMode) (ws : List Value) → BackIf (comes_back m) f (AreBackFor fs) ws →
        (copied_one (λ us changed. copied_back fs es us changed) m e ws vars).stopped ≡ None
    by_mode later Take ws k = later ws vars k there.1
    by_mode later Give [] k = refl
    by_mode later Both [] k = refl
    by_mode later Give (v ∷ ws) k = one later v ws k.0 k.1
    by_mode later Both (v ∷ ws) k = one later v ws k.0 k.1

-- without a value nothing stops
pub no-value : (fs : List FormalParameter) (es : List PExpr) (vars : Variables) → (copied_back fs es [] vars).stopped ≡ None
no-value [] es vars = refl
no-value (f ∷ fs) [] vars = refl
no-value (f ∷ fs) (e ∷ es) vars = by_mode (no-value fs es vars) f.mode
  where
    by_mode : (copied_back fs es [] vars).stopped ≡ None → (m : ParMode) → (copied_one (λ us changed. copied_back fs es us changed) m e [] vars).stopped ≡ None
    by_mode later Take = later
    by_mode later Give = refl
    by_mode later Both = refl

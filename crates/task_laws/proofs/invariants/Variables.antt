-- Variables that are assigned keep their subtypes, and a value in its subtype stays in it.
use Rattle.std.proofs.Common.{◌≡◌, ℕ, zero, suc, Bool, true, false, ◌==◌, if◌then◌else◌, List, [], ◌∷◌, ◌++◌, Option, Some, None, Result, Ok, Err, drop, length, refl, sym, ap, ◌∙◌, subst, true≢false}
use Rattle.ada_tree.specs.declared.naming.NameId.{NameId}
use Rattle.ada_tree.specs.declared.statements.ParMode.{ParMode}
use Rattle.ada_tree.specs.declared.statements.ParMode.TheVariants.{Take, Give, Both}
use Rattle.ada_tree.specs.TypeTable.{TypeTable}
use Rattle.ada_tree.specs.PlainExpr.{PExpr}
use Rattle.ada_value.specs.declared.values.Value.{Value}
use Rattle.ada_value.specs.declared.values.Raised.{Raised}
use Rattle.ada_value.specs.declared.values.Raised.TheVariants as raised
use Rattle.ada_value.specs.declared.values.Limits.{Limits}
use Rattle.ada_value.specs.Values.{and_then, position_of, lies_in, lower_bound, checked}
use Rattle.ada_value.specs.Variables.{Object, Variables, object_named, value_there, checked_for, with_value, set_value}
use Rattle.ada_value.specs.Evaluating.{evaluated}
use Rattle.task_model.specs.declared.parameters.FormalParameter.{FormalParameter}
use Rattle.task_model.specs.Frames.{Around, OwnBody, Block, Handling, Loop, Opened, PFrame, brought}
use Rattle.task_model.specs.Calls.{opening, openings, opened_objects, variable_of, Copies, stored_back, copies_on, copied_one, copied_back}
use Rattle.task_laws.specs.invariants.Holding.{Fits, AreHeld, Own, HeldIn, IsHeld, ValuesFit, LowersFit, AreAlike}

-- ---- results

from : {A B : Type 0} → A → Result A B → A
from a (Ok b) = b
from a (Err x) = a

pub ok_path : {A B : Type 0} {a b : A} → ◌≡◌ {A = Result A B} (Ok a) (Ok b) → a ≡ b
unfolding from
ok_path {A} {B} {a} h = ap (from a) h

is_ok : {A B : Type 0} → Result A B → Bool
is_ok (Ok a) = true
is_ok (Err x) = false

pub err_ok : {A B : Type 0} {a : A} {x : B} → ◌≡◌ {A = Result A B} (Err x) (Ok a) → ⊥
unfolding is_ok
err_ok h = true≢false (sym (ap is_ok h))

-- what came out where two evaluations are made, one after the other
pub record Chain {A B : Type 0} (r : Result A Raised) (more : A → Result B Raised) (b : B) : Type 0 where
  pub value : A
  pub first : r ≡ Ok value
  pub rest : more value ≡ Ok b

pub chain : {A B : Type 0} (r : Result A Raised) (more : A → Result B Raised) (b : B) → and_then r more ≡ Ok b → Chain r more b
chain (Ok a) more b h = record { value = a; first = refl; rest = h }
chain (Err x) more b h = absurd (err_ok h)

pub checked_fits : (limits : Limits) (v w : Value) → checked limits v ≡ Ok w → Fits limits w
checked_fits limits v w h = go (lies_in limits (position_of v)) refl h
  where
    go : (b : Bool) → lies_in limits (position_of v) ≡ b → (if b then Ok v else Err raised.Constraint) ≡ Ok w → Fits limits w
    go true q e = subst (Fits limits) (ok_path e) q
    go false q e = absurd (err_ok e)

-- ---- one variable

-- the same variable with another value, which lies in the subtype where the first did
pub record IsSame (o p : Object) : Type 0 where
  pub limits : p.limits ≡ o.limits
  pub fits : Fits o.limits (value_there o 0) → Fits p.limits (value_there p 0)

abbrev pub AreSame : Variables → Variables → Type 0
AreSame [] [] = Unit {0}
AreSame (o ∷ vars) (p ∷ others) = IsSame o p × AreSame vars others
AreSame vars others = ⊥

pub same_self : (vars : Variables) → AreSame vars vars
same_self [] = tt
same_self (o ∷ vars) = (record { limits = refl; fits = λ h. h }, same_self vars)

same_trans : (xs ys zs : Variables) → AreSame xs ys → AreSame ys zs → AreSame xs zs
same_trans [] [] [] h k = tt
same_trans (x ∷ xs) (y ∷ ys) (z ∷ zs) h k = (record { limits = k.0.limits ∙ h.0.limits; fits = λ f. k.0.fits (h.0.fits f) }, same_trans xs ys zs h.1 k.1)
same_trans [] [] (z ∷ zs) h k = k
same_trans [] (y ∷ ys) zs h k = absurd h
same_trans (x ∷ xs) [] zs h k = absurd h
same_trans (x ∷ xs) (y ∷ ys) [] h k = absurd k

pub same_drop : (n : ℕ) (vars others : Variables) → AreSame vars others → AreSame (drop n vars) (drop n others)
same_drop zero vars others h = h
same_drop (suc n) [] [] h = tt
same_drop (suc n) (o ∷ vars) (p ∷ others) h = same_drop n vars others h.1
same_drop (suc n) [] (p ∷ others) h = absurd h
same_drop (suc n) (o ∷ vars) [] h = absurd h

value_fits : (o : Object) (k : ℕ) (v : Value) → Fits o.limits v → Fits o.limits (value_there o 0) → Fits o.limits (value_there (with_value o k v) 0)
value_fits o k v h f = go o.values k f
  where
    go : (values : List Value) (k : ℕ) → Fits o.limits (value_there (record { name = o.name; limits = o.limits; index = o.index; values = values }) 0) →
        Fits o.limits (value_there (with_value (record { name = o.name; limits = o.limits; index = o.index; values = values }) k v) 0)
    go [] zero g = g
    go [] (suc k) g = g
    go (x ∷ xs) zero g = h
    go (x ∷ xs) (suc k) g = g

-- a value that was checked for the variable of a name
pub set_same : (vars : Variables) (id : NameId) (k : ℕ) (v w : Value) → checked_for (object_named vars id) v ≡ Ok w → AreSame vars (set_value vars id k w)
set_same [] id k v w h = tt
set_same (o ∷ vars) id k v w h = go (set_same vars id k v w) (o.name.0 == id.0) h
  where
    go : (checked_for (object_named vars id) v ≡ Ok w → AreSame vars (set_value vars id k w)) → (b : Bool) → checked_for (if b then Some o else object_named vars id) v ≡ Ok w →
        AreSame (o ∷ vars) (if b then with_value o k w ∷ vars else o ∷ set_value vars id k w)
    go later true e = (record { limits = refl; fits = value_fits o k w (checked_fits o.limits v w e) }, same_self vars)
    go later false e = (record { limits = refl; fits = λ f. f }, later e)

-- ---- copying back

stored_same : (vars changed : Variables) (id : Option NameId) (v : Value) → stored_back vars id v ≡ Ok changed → AreSame vars changed
stored_same vars changed None v h = subst (AreSame vars) (ok_path h) (same_self vars)
stored_same vars changed (Some id) v h =
    let c : Chain (checked_for (object_named vars id) v) (λ w. Ok (set_value vars id 0 w)) changed = chain (checked_for (object_named vars id) v) (λ w. Ok (set_value vars id 0 w)) changed h in
    subst (AreSame vars) (ok_path c.rest) (set_same vars id 0 v c.value c.first)

on_same : (more : Variables → Copies) (vars : Variables) (r : Result Variables Raised) → ((changed : Variables) → r ≡ Ok changed → AreSame vars changed) →
    ((changed : Variables) → AreSame changed (more changed).vars) → AreSame vars (copies_on more vars r).vars
on_same more vars (Ok changed) h k = same_trans vars changed (more changed).vars (h changed refl) (k changed)
on_same more vars (Err x) h k = same_self vars

pub copied_same : (formals : List FormalParameter) (es : List PExpr) (vs : List Value) (vars : Variables) → AreSame vars (copied_back formals es vs vars).vars
copied_same [] es vs vars = same_self vars
copied_same (formal ∷ formals) [] vs vars = same_self vars
copied_same (formal ∷ formals) (e ∷ es) vs vars = go (λ ws changed. copied_same formals es ws changed) formal.mode vs
  where
    go : ((ws : List Value) (changed : Variables) → AreSame changed (copied_back formals es ws changed).vars) → (m : ParMode) (vs : List Value) →
        AreSame vars (copied_one (λ ws changed. copied_back formals es ws changed) m e vs vars).vars
    go later Take vs = later vs vars
    go later Give [] = same_self vars
    go later Both [] = same_self vars
    go later Give (v ∷ vs) = on_same (λ changed. copied_back formals es vs changed) vars (stored_back vars (variable_of e) v)
        (λ changed h. stored_same vars changed (variable_of e) v h) (λ changed. later vs changed)
    go later Both (v ∷ vs) = on_same (λ changed. copied_back formals es vs changed) vars (stored_back vars (variable_of e) v)
        (λ changed h. stored_same vars changed (variable_of e) v h) (λ changed. later vs changed)

-- ---- formals

held_same : (formals : List FormalParameter) (vars others : Variables) → AreSame vars others → AreHeld formals vars → AreHeld formals others
held_same [] vars others h k = tt
held_same (formal ∷ formals) [] [] h k = k
held_same (formal ∷ formals) (o ∷ vars) (p ∷ others) h k = ((h.0.limits ∙ k.0.0, h.0.fits k.0.1), held_same formals vars others h.1 k.1)
held_same (formal ∷ formals) [] (p ∷ others) h k = absurd h
held_same (formal ∷ formals) (o ∷ vars) [] h k = absurd h

own_same : (place : Around) (vars others : Variables) → AreSame vars others → Own place vars → Own place others
own_same (OwnBody handlers taken) vars others h k = tt
own_same (Block handlers) vars others h k = tt
own_same (Handling x) vars others h k = tt
own_same (Loop name turns stmts) vars others h k = tt
own_same (Opened caller formals pending) vars others h k = held_same formals vars others h k

held_in_same : (parts : List PFrame) (vars others : Variables) → AreSame vars others → HeldIn parts vars → HeldIn parts others
held_in_same [] vars others h k = tt
held_in_same (part ∷ parts) vars others h k = (
  own_same part.place vars others h k.0,
  held_in_same parts (drop (brought part.place) vars) (drop (brought part.place) others) (same_drop (brought part.place) vars others h) k.1,
)

-- What is held of variables is held of the same with other values.
pub is_held_same : (place : Around) (outer : List PFrame) (vars others : Variables) → AreSame vars others → IsHeld place outer vars → IsHeld place outer others
is_held_same place outer vars others h k = (
  own_same place vars others h k.0,
  held_in_same outer (drop (brought place) vars) (drop (brought place) others) (same_drop (brought place) vars others h) k.1,
)

-- ---- opening

pub openings_fit : (types : TypeTable) (vars : Variables) (formals : List FormalParameter) (es : List PExpr) (vs : List Value) → LowersFit types formals →
    openings types vars formals es ≡ Ok vs → ValuesFit types formals vs
openings_fit types vars [] es vs l h = tt
openings_fit types vars (formal ∷ formals) [] vs l h =
    let c = chain (openings types vars formals []) (λ ws. Ok (lower_bound types formal.limits ∷ ws)) vs h in
    subst (ValuesFit types (formal ∷ formals)) (ok_path c.rest) (l.0, openings_fit types vars formals [] c.value l.1 c.first)
openings_fit types vars (formal ∷ formals) (e ∷ es) vs l h =
    let c = chain (opening types vars formal formal.mode e) (λ v. and_then (openings types vars formals es) (λ ws. Ok (v ∷ ws))) vs h in
    let d = chain (openings types vars formals es) (λ ws. Ok (c.value ∷ ws)) vs c.rest in
    subst (ValuesFit types (formal ∷ formals)) (ok_path d.rest) (one formal.mode c.value c.first, openings_fit types vars formals es d.value l.1 d.first)
  where
    one : (m : ParMode) (v : Value) → opening types vars formal m e ≡ Ok v → Fits formal.limits v
    one Take v q = let c = chain (evaluated types vars e) (checked formal.limits) v q in checked_fits formal.limits c.value v c.rest
    one Give v q = subst (Fits formal.limits) (ok_path q) l.0
    one Both v q = let c = chain (evaluated types vars e) (checked formal.limits) v q in checked_fits formal.limits c.value v c.rest

-- formals that are alike open with the same values
pub opened_held : (types : TypeTable) (fs hs : List FormalParameter) (vs : List Value) (vars : Variables) → AreAlike fs hs → LowersFit types fs → ValuesFit types fs vs →
    AreHeld hs (opened_objects types hs vs ++ vars)
opened_held types [] [] vs vars a l h = tt
opened_held types (f ∷ fs) (k ∷ hs) [] vars a l h = (
  (refl, subst (λ (m : Limits). Fits m (lower_bound types m)) a.0.1 h.0),
  opened_held types fs hs [] vars a.1 l.1 h.1,
)
opened_held types (f ∷ fs) (k ∷ hs) (v ∷ vs) vars a l h = ((refl, subst (λ (m : Limits). Fits m v) a.0.1 h.0), opened_held types fs hs vs vars a.1 l.1 h.1)
opened_held types [] (k ∷ hs) vs vars a l h = absurd a
opened_held types (f ∷ fs) [] vs vars a l h = absurd a

pub opened_drop : (types : TypeTable) (formals : List FormalParameter) (vs : List Value) (vars : Variables) → drop (length formals) (opened_objects types formals vs ++ vars) ≡ vars
opened_drop types [] vs vars = refl
opened_drop types (formal ∷ formals) [] vars = opened_drop types formals [] vars
opened_drop types (formal ∷ formals) (v ∷ vs) vars = opened_drop types formals vs vars

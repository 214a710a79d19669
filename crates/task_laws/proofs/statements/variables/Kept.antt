-- Variables that are assigned, or to which values come back, are kept.
use Rattle.std.proofs.Common.{◌≡◌, ℕ, zero, suc, ◌==◌, Bool, true, false, if◌then◌else◌, List, [], ◌∷◌, ◌++◌, Option, Some, None, Result, Ok, Err, drop, length, map, refl, sym, ap, ◌∙◌, subst, true≢false}
use Rattle.std.proofs.lemmas.Bool.{eqb-true}
use Rattle.std.proofs.lemmas.List.{length-set}
use Rattle.std.specs.List.{AllByRecursion}
use Rattle.ada_tree.specs.declared.naming.NameId.{NameId}
use Rattle.ada_tree.specs.declared.naming.Word.{Word}
use Rattle.ada_tree.specs.declared.statements.ParMode.{ParMode}
use Rattle.ada_tree.specs.declared.statements.ParMode.TheVariants.{Take, Give, Both}
use Rattle.ada_tree.specs.TypeTable.{TypeTable}
use Rattle.ada_tree.specs.PlainExpr.{PExpr}
use Rattle.ada_tree.specs.PlainStmt.{PFormal}
use Rattle.ada_value.specs.declared.values.Value.{Value}
use Rattle.ada_value.specs.declared.values.Raised.{Raised}
use Rattle.ada_value.specs.Values.{limits_named}
use Rattle.ada_value.specs.Variables.{Object, Variables, object_named, value_there, checked_for, with_value, set_value}
use Rattle.task_model.specs.declared.parameters.FormalParameter.{FormalParameter}
use Rattle.task_model.specs.Setting.{parameters_of}
use Rattle.task_model.specs.Calls.{opened_objects, variable_of, Copies, stored_back, copies_on, copied_one, copied_back}
use Rattle.task_model.specs.Frames.{PFrame, brought}
use Rattle.task_laws.specs.invariants.Holding.{Fits}
use Rattle.task_laws.proofs.invariants.Variables.{ok_path, chain, checked_fits}
use Rattle.task_laws.specs.statements.variables.Held.{KeepsValue, same_value, fitting_value, IsKept, AreKept, MeansKept, no_variable, kept_variable, AreInner, FirstInner, HeldIn}

-- ---- one variable

pub kept-itself : (o : Object) → IsKept o o
kept-itself o = record { name = refl; limits = refl; count = refl; value = same_value refl }

value-on : (o p q : Object) → p.limits ≡ o.limits → KeepsValue o p → KeepsValue p q → KeepsValue o q
value-on o p q e (same_value h) (same_value k) = same_value (k ∙ h)
value-on o p q e (fitting_value h) (same_value k) = fitting_value (subst (Fits o.limits) (sym k) h)
value-on o p q e h (fitting_value k) = fitting_value (subst (λ l. Fits l (value_there q 0)) e k)

kept-on : (o p q : Object) → IsKept o p → IsKept p q → IsKept o q
kept-on o p q h k = record { name = k.name ∙ h.name; limits = k.limits ∙ h.limits; count = k.count ∙ h.count; value = value-on o p q h.limits h.value k.value }

-- a value of its subtype at some place
value-set : (o : Object) (k : ℕ) (v : Value) → Fits o.limits v → KeepsValue o (with_value o k v)
value-set o k v h = by_values o.values k
  where
    by_values : (values : List Value) (k : ℕ) →
        KeepsValue (record { name = o.name; limits = o.limits; index = o.index; values = values }) (with_value (record { name = o.name; limits = o.limits; index = o.index; values = values }) k v)
    by_values [] zero = same_value refl
    by_values [] (suc k) = same_value refl
    by_values (x ∷ xs) zero = fitting_value h
    by_values (x ∷ xs) (suc k) = same_value refl

-- ---- all

pub all-kept : (vars : Variables) → AreKept vars vars
all-kept [] = tt
all-kept (o ∷ vars) = (kept-itself o, all-kept vars)

pub all-on : (xs ys zs : Variables) → AreKept xs ys → AreKept ys zs → AreKept xs zs
all-on [] [] [] h k = tt
all-on (x ∷ xs) (y ∷ ys) (z ∷ zs) h k = (kept-on x y z h.0 k.0, all-on xs ys zs h.1 k.1)
all-on [] [] (z ∷ zs) h k = k
all-on [] (y ∷ ys) zs h k = absurd h
all-on (x ∷ xs) [] zs h k = absurd h
all-on (x ∷ xs) (y ∷ ys) [] h k = absurd k

kept-drop : (n : ℕ) (vars others : Variables) → AreKept vars others → AreKept (drop n vars) (drop n others)
kept-drop zero vars others h = h
kept-drop (suc n) [] [] h = tt
kept-drop (suc n) (o ∷ vars) (p ∷ others) h = kept-drop n vars others h.1
kept-drop (suc n) [] (p ∷ others) h = absurd h
kept-drop (suc n) (o ∷ vars) [] h = absurd h

-- a value that was checked for the variable of a name
pub set-kept : (vars : Variables) (id : NameId) (k : ℕ) (v w : Value) → checked_for (object_named vars id) v ≡ Ok w → AreKept vars (set_value vars id k w)
set-kept [] id k v w h = tt
set-kept (o ∷ vars) id k v w h = by_test (set-kept vars id k v w) (o.name.0 == id.0) h
  where
    by_test : (checked_for (object_named vars id) v ≡ Ok w → AreKept vars (set_value vars id k w)) → (b : Bool) → checked_for (if b then Some o else object_named vars id) v ≡ Ok w →
        AreKept (o ∷ vars) (if b then with_value o k w ∷ vars else o ∷ set_value vars id k w)
    by_test later true e = (record { name = refl; limits = refl; count = length-set o.values k w; value = value-set o k w (checked_fits o.limits v w e) }, all-kept vars)
    by_test later false e = (kept-itself o, later e)

-- ---- copying back

stored-kept : (vars changed : Variables) (id : Option NameId) (v : Value) → stored_back vars id v ≡ Ok changed → AreKept vars changed
stored-kept vars changed None v h = subst (AreKept vars) (ok_path h) (all-kept vars)
stored-kept vars changed (Some id) v h =
    let c = chain (checked_for (object_named vars id) v) (λ w. Ok (set_value vars id 0 w)) changed h in
    subst (AreKept vars) (ok_path c.rest) (set-kept vars id 0 v c.value c.first)

on-kept : (more : Variables → Copies) (vars : Variables) (r : Result Variables Raised) → ((changed : Variables) → r ≡ Ok changed → AreKept vars changed) →
    ((changed : Variables) → AreKept changed (more changed).vars) → AreKept vars (copies_on more vars r).vars
on-kept more vars (Ok changed) h k = all-on vars changed (more changed).vars (h changed refl) (k changed)
on-kept more vars (Err x) h k = all-kept vars

pub copied-kept : (formals : List FormalParameter) (es : List PExpr) (vs : List Value) (vars : Variables) → AreKept vars (copied_back formals es vs vars).vars
copied-kept [] es vs vars = all-kept vars
copied-kept (formal ∷ formals) [] vs vars = all-kept vars
copied-kept (formal ∷ formals) (e ∷ es) vs vars = by_mode (λ ws changed. copied-kept formals es ws changed) formal.mode vs
  where
    by_mode : ((ws : List Value) (changed : Variables) → AreKept changed (copied_back formals es ws changed).vars) → (m : ParMode) (vs : List Value) →
        AreKept vars (copied_one (λ ws changed. copied_back formals es ws changed) m e vs vars).vars
    by_mode later Take vs = later vs vars
    by_mode later Give [] = all-kept vars
    by_mode later Both [] = all-kept vars
    by_mode later Give (v ∷ vs) = on-kept (λ changed. copied_back formals es vs changed) vars (stored_back vars (variable_of e) v)
        (λ changed h. stored-kept vars changed (variable_of e) v h) (λ changed. later vs changed)
    by_mode later Both (v ∷ vs) = on-kept (λ changed. copied_back formals es vs changed) vars (stored_back vars (variable_of e) v)
        (λ changed h. stored-kept vars changed (variable_of e) v h) (λ changed. later vs changed)

-- ---- names

kept-named : (vars others : Variables) (id : NameId) → AreKept vars others → MeansKept (object_named vars id) (object_named others id)
kept-named [] [] id h = no_variable
kept-named (o ∷ vars) (p ∷ others) id h =
    subst (λ (n : NameId). MeansKept (object_named (o ∷ vars) id) (if n.0 == id.0 then Some p else object_named others id)) (sym h.0.name) (by_test (o.name.0 == id.0) (kept-named vars others id h.1))
  where
    by_test : (b : Bool) → MeansKept (object_named vars id) (object_named others id) → MeansKept (if b then Some o else object_named vars id) (if b then Some p else object_named others id)
    by_test true later = kept_variable o p h.0
    by_test false later = later
kept-named [] (p ∷ others) id h = absurd h
kept-named (o ∷ vars) [] id h = absurd h

-- ---- frames

module _ (inner : ℕ → Bool) (start : Variables) where
  pub first-kept : (n : ℕ) (vars others : Variables) → AreKept vars others → FirstInner inner n vars → FirstInner inner n others
  first-kept zero vars others h k = tt
  first-kept (suc n) [] [] h k = tt
  first-kept (suc n) (o ∷ vars) (p ∷ others) h k = (ap (λ (x : NameId). inner x.0) h.0.name ∙ k.0, h.0.count ∙ k.1, first-kept n vars others h.1 k.2)
  first-kept (suc n) [] (p ∷ others) h k = absurd h
  first-kept (suc n) (o ∷ vars) [] h k = absurd h

  pub held-kept : (parts : List PFrame) (n : ℕ) (vars others : Variables) → AreKept vars others → HeldIn inner start parts (drop n vars) → HeldIn inner start parts (drop n others)
  held-kept [] n vars others h k = all-on start (drop n vars) (drop n others) k (kept-drop n vars others h)
  held-kept (part ∷ parts) n vars others h k = (
    first-kept (brought part.place) (drop n vars) (drop n others) (kept-drop n vars others h) k.0,
    held-kept parts (brought part.place) (drop n vars) (drop n others) (kept-drop n vars others h) k.1,
  )

  -- a name that is none of these is not among the first
  past-first : (n : ℕ) (vars : Variables) (id : NameId) → inner id.0 ≡ false → FirstInner inner n vars → object_named vars id ≡ object_named (drop n vars) id
  past-first zero vars id e h = refl
  past-first (suc n) [] id e h = refl
  past-first (suc n) (o ∷ vars) id e h = by_test (o.name.0 == id.0) refl (past-first n vars id e h.2)
    where
      by_test : (b : Bool) → (o.name.0 == id.0) ≡ b → object_named vars id ≡ object_named (drop n vars) id → (if b then Some o else object_named vars id) ≡ object_named (drop n vars) id
      by_test true same later = absurd (true≢false (sym h.0 ∙ ap inner (eqb-true o.name.0 id.0 same) ∙ e))
      by_test false other later = later

  means-in : (parts : List PFrame) (vars : Variables) (id : NameId) → inner id.0 ≡ false → HeldIn inner start parts vars → MeansKept (object_named start id) (object_named vars id)
  means-in [] vars id e h = kept-named start vars id h
  means-in (part ∷ parts) vars id e h =
      subst (MeansKept (object_named start id)) (sym (past-first (brought part.place) vars id e h.0)) (means-in parts (drop (brought part.place) vars) id e h.1)

  pub means-held : (n : ℕ) (parts : List PFrame) (vars : Variables) (id : NameId) → inner id.0 ≡ false → FirstInner inner n vars → HeldIn inner start parts (drop n vars) →
      MeansKept (object_named start id) (object_named vars id)
  means-held n parts vars id e f h = subst (MeansKept (object_named start id)) (sym (past-first n vars id e f)) (means-in parts (drop n vars) id e h)

  -- ---- formals

  -- the formals of an accept body in front of other variables
  pub opened-first : (types : TypeTable) (formals : List FormalParameter) (vs : List Value) (vars : Variables) → AllByRecursion (λ (f : FormalParameter). inner f.name.0 ≡ true) formals →
      FirstInner inner (length formals) (opened_objects types formals vs ++ vars)
  opened-first types [] vs vars h = tt
  opened-first types (formal ∷ formals) [] vars h = (h.0, refl, opened-first types formals [] vars h.1)
  opened-first types (formal ∷ formals) (v ∷ vs) vars h = (h.0, refl, opened-first types formals vs vars h.1)

  -- the names of a declaration, in front of others
  named-all : (types : TypeTable) (f : PFormal) (ws : List Word) (rest : List Word) (more : List FormalParameter) →
      AllByRecursion (λ (w : Word). inner w.name.0 ≡ true) (ws ++ rest) → (AllByRecursion (λ (w : Word). inner w.name.0 ≡ true) rest → AllByRecursion (λ (x : FormalParameter). inner x.name.0 ≡ true) more) →
      AllByRecursion (λ (x : FormalParameter). inner x.name.0 ≡ true) (map (λ (w : Word). record { name = w.name; mode = f.mode; limits = limits_named types f.mark.name }) ws ++ more)
  named-all types f [] rest more h k = k h
  named-all types f (w ∷ ws) rest more h k = (h.0, named-all types f ws rest more h.1 k)

  pub formals-inner : (types : TypeTable) (formals : List PFormal) → AreInner inner formals → AllByRecursion (λ (x : FormalParameter). inner x.name.0 ≡ true) (parameters_of types formals)
  formals-inner types [] h = tt
  formals-inner types (f ∷ formals) h = named-all types f f.names _ (parameters_of types formals) h (formals-inner types formals)

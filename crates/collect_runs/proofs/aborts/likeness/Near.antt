-- Near variables: what is found in them, and what an assignment, another variable in front and the end of a scope make of them.
use Rattle.std.proofs.Common.{◌≡◌, ℕ, zero, suc, Bool, true, false, not, ◌&&◌, cond, ◌==◌, if◌then◌else◌, pos, List, [], ◌∷◌, ◌++◌, drop, Option, Some, None, option_map, refl, sym, ap, subst, ◌∙◌, true≢false, slice_set}
use Rattle.std.specs.List.{AllByRecursion}
use Rattle.std.proofs.lemmas.Bool.{eqb-true}
use Rattle.ada_tree.specs.declared.naming.NameId.{NameId}
use Rattle.ada_value.specs.declared.values.Value.{Value}
use Rattle.ada_value.specs.declared.values.Value.TheVariants.{Number}
use Rattle.ada_value.specs.Variables.{Object, Variables, object_named, with_value, set_value}
use Rattle.task_laws.specs.translation.Translations.{IsOld}
use Rattle.normal_laws.proofs.runs.floors.Cells.{named-set_same, named-set_other}
use Rattle.collect_runs.specs.aborts.likeness.Likeness.{Ground, is_apart, IsApart, NearObject, Near}

-- a second value at the first place takes the place of the first
set-again : (vs : List Value) (w v : Value) → slice_set (slice_set vs 0 w) 0 v ≡ slice_set vs 0 v
set-again [] w v = refl
set-again (u ∷ vs) w v = refl

value-again : (o : Object) (w v : Value) → with_value (with_value o 0 w) 0 v ≡ with_value o 0 v
value-again o w v = ap (λ vs. record { name = o.name; limits = o.limits; index = o.index; values = vs }) (set-again o.values w v)

module _ (x : Ground) where
  -- ---- one variable

  pub name-same : {o p : Object} → NearObject x o p → p.name ≡ o.name
  name-same h = ap (λ a. a.name) (h.set (Number (pos 0)))

  pub limits-same : {o p : Object} → NearObject x o p → p.limits ≡ o.limits
  limits-same h = ap (λ a. a.limits) (h.set (Number (pos 0)))

  pub object-self : (o : Object) → IsApart x o.name → NearObject x o o
  object-self o h = record { free = h; set = λ v. refl; old = λ k. refl }

  object-trans : {o p q : Object} → NearObject x o p → NearObject x p q → NearObject x o q
  object-trans h k = record {
    free = h.free;
    set = λ v. k.set v ∙ h.set v;
    old = λ old. k.old (subst (IsOld x.programs) (sym (name-same h)) old) ∙ h.old old;
  }

  object-right : {o p : Object} → NearObject x o p → NearObject x p p
  object-right {o} {p} h = object-self p (subst (IsApart x) (sym (name-same h)) h.free)

  -- ---- rows of variables

  pub near-self : (V : Variables) → AllByRecursion (λ (o : Object). IsApart x o.name) V → Near x V V
  near-self [] h = tt
  near-self (o ∷ V) h = (object-self o h.0, near-self V h.1)

  pub near-right : (V W : Variables) → Near x V W → Near x W W
  near-right [] [] h = tt
  near-right (o ∷ V) (p ∷ W) h = (object-right h.0, near-right V W h.1)
  near-right [] (p ∷ W) h = absurd h
  near-right (o ∷ V) [] h = absurd h

  pub near-trans : (U V W : Variables) → Near x U V → Near x V W → Near x U W
  near-trans [] [] [] h k = tt
  near-trans (a ∷ U) (o ∷ V) (p ∷ W) h k = (object-trans h.0 k.0, near-trans U V W h.1 k.1)
  near-trans [] [] (p ∷ W) h k = absurd k
  near-trans [] (o ∷ V) W h k = absurd h
  near-trans (a ∷ U) [] W h k = absurd h
  near-trans (a ∷ U) (o ∷ V) [] h k = absurd k

  pub near-drop : (n : ℕ) (V W : Variables) → Near x V W → Near x (drop n V) (drop n W)
  near-drop zero V W h = h
  near-drop (suc n) [] [] h = tt
  near-drop (suc n) (o ∷ V) (p ∷ W) h = near-drop n V W h.1
  near-drop (suc n) [] (p ∷ W) h = absurd h
  near-drop (suc n) (o ∷ V) [] h = absurd h

  pub near-front : (os : List Object) (V W : Variables) → AllByRecursion (λ (o : Object). IsApart x o.name) os → Near x V W → Near x (os ++ V) (os ++ W)
  near-front [] V W f h = h
  near-front (o ∷ os) V W f h = (object-self o f.0, near-front os V W f.1 h)

  -- ---- what a name means

  abbrev pub NearOption : Option Object → Option Object → Type 0
  NearOption None None = Unit {0}
  NearOption (Some o) (Some p) = NearObject x o p
  NearOption o p = ⊥

  pub near-named : (V W : Variables) → Near x V W → (id : NameId) → NearOption (object_named V id) (object_named W id)
  near-named [] [] h id = tt
  near-named [] (p ∷ W) h id = absurd h
  near-named (o ∷ V) [] h id = absurd h
  near-named (o ∷ V) (p ∷ W) h id =
      subst (λ c. NearOption (cond (o.name.0 == id.0) (Some o) (object_named V id)) (cond c (Some p) (object_named W id))) (sym (ap (λ n. n.0 == id.0) (name-same h.0))) (go (o.name.0 == id.0) (near-named V W h.1 id))
    where
      go : (c : Bool) → NearOption (object_named V id) (object_named W id) → NearOption (cond c (Some o) (object_named V id)) (cond c (Some p) (object_named W id))
      go true ih = h.0
      go false ih = ih

  pub old-named : (V W : Variables) → Near x V W → (id : NameId) → IsOld x.programs id → object_named W id ≡ object_named V id
  old-named [] [] h id old = refl
  old-named [] (p ∷ W) h id old = absurd h
  old-named (o ∷ V) [] h id old = absurd h
  old-named (o ∷ V) (p ∷ W) h id old =
      ap (λ c. cond c (Some p) (object_named W id)) (ap (λ n. n.0 == id.0) (name-same h.0)) ∙ go (o.name.0 == id.0) refl (old-named V W h.1 id old)
    where
      go : (c : Bool) → (o.name.0 == id.0) ≡ c → object_named W id ≡ object_named V id → cond c (Some p) (object_named W id) ≡ cond c (Some o) (object_named V id)
      go true e ih = ap (λ a. Some a) (h.0.old (subst (λ n. x.programs.is_old n ≡ true) (sym (eqb-true o.name.0 id.0 e)) old))
      go false e ih = ih

  -- no variable has the name of a constant
  pub fixed-none : (V W : Variables) → Near x V W → (id : NameId) → IsOld x.programs id → x.programs.is_fixed id.0 ≡ true → object_named V id ≡ None
  fixed-none [] W h id old fixed = refl
  fixed-none (o ∷ V) [] h id old fixed = absurd h
  fixed-none (o ∷ V) (p ∷ W) h id old fixed = go (o.name.0 == id.0) refl (fixed-none V W h.1 id old fixed)
    where
      go : (c : Bool) → (o.name.0 == id.0) ≡ c → object_named V id ≡ None → cond c (Some o) (object_named V id) ≡ None
      go true e ih =
          absurd (true≢false (sym (subst (λ n. is_apart x n ≡ true) (eqb-true o.name.0 id.0 e) h.0.free) ∙ ap (λ b. not (b && x.programs.is_fixed id.0)) old ∙ ap (λ b. not b) fixed))
      go false e ih = ih

  -- ---- assignments

  -- of a value to a variable of that name in both
  set-by : (id : NameId) (k : ℕ) (w : Value) → ((o p : Object) → NearObject x o p → (o.name.0 == id.0) ≡ true → NearObject x (with_value o k w) (with_value p k w)) →
      (V W : Variables) → Near x V W → Near x (set_value V id k w) (set_value W id k w)
  set-by id k w one [] [] h = tt
  set-by id k w one [] (p ∷ W) h = absurd h
  set-by id k w one (o ∷ V) [] h = absurd h
  set-by id k w one (o ∷ V) (p ∷ W) h =
      subst (λ c. Near x (if o.name.0 == id.0 then with_value o k w ∷ V else o ∷ set_value V id k w) (if c then with_value p k w ∷ W else p ∷ set_value W id k w))
      (sym (ap (λ n. n.0 == id.0) (name-same h.0))) (go (o.name.0 == id.0) refl (set-by id k w one V W h.1))
    where
      go : (c : Bool) → (o.name.0 == id.0) ≡ c → Near x (set_value V id k w) (set_value W id k w) → Near x (if c then with_value o k w ∷ V else o ∷ set_value V id k w) (if c then with_value p k w ∷ W else p ∷ set_value W id k w)
      go true e ih = (one o p h.0 e, h.1)
      go false e ih = (h.0, ih)

  pub set-first : (id : NameId) (w : Value) (V W : Variables) → Near x V W → Near x (set_value V id 0 w) (set_value W id 0 w)
  set-first id w V W h =
      set-by id 0 w (λ o p k e. record { free = k.free; set = λ v. ap (λ a. with_value a 0 v) (k.set w); old = λ old. k.set w }) V W h

  pub set-old : (id : NameId) (k : ℕ) (w : Value) → IsOld x.programs id → (V W : Variables) → Near x V W → Near x (set_value V id k w) (set_value W id k w)
  set-old id k w old V W h =
      set-by id k w (λ o p n e.
      let same : p ≡ o = n.old (subst (λ n. x.programs.is_old n ≡ true) (sym (eqb-true o.name.0 id.0 e)) old) in
      record { free = n.free; set = λ v. ap (λ a. with_value (with_value a k w) 0 v) same; old = λ old. ap (λ a. with_value a k w) same }) V W h

  -- to an added variable in the second alone
  pub set-second : (id : NameId) (w : Value) → x.programs.is_old id.0 ≡ false → (V W : Variables) → Near x V W → Near x V (set_value W id 0 w)
  set-second id w new [] [] h = tt
  set-second id w new [] (p ∷ W) h = absurd h
  set-second id w new (o ∷ V) [] h = absurd h
  set-second id w new (o ∷ V) (p ∷ W) h = go (p.name.0 == id.0) refl (set-second id w new V W h.1)
    where
      go : (c : Bool) → (p.name.0 == id.0) ≡ c → Near x V (set_value W id 0 w) → Near x (o ∷ V) (if c then with_value p 0 w ∷ W else p ∷ set_value W id 0 w)
      go true e ih = (
        record {
          free = h.0.free;
          set = λ v. value-again p w v ∙ h.0.set v;
          old = λ old. absurd (true≢false (sym old ∙ ap (λ n. x.programs.is_old n.0) (sym (name-same h.0)) ∙ ap x.programs.is_old (eqb-true p.name.0 id.0 e) ∙ new));
        },
        h.1,
      )
      go false e ih = (h.0, ih)

  -- a name means the same to both
  abbrev pub Agree : Variables → Variables → NameId → Type 0
  Agree V W id = object_named W id ≡ object_named V id

  -- a variable that gets a value in both is the same, and the others stay the same
  pub agree-set : (id : NameId) (w : Value) (V W : Variables) → Near x V W → Agree (set_value V id 0 w) (set_value W id 0 w) id
  agree-set id w V W h = named-set_same W id 0 w ∙ go (object_named V id) (object_named W id) (near-named V W h id) ∙ sym (named-set_same V id 0 w)
    where
      go : (a b : Option Object) → NearOption a b → option_map (λ o. with_value o 0 w) b ≡ option_map (λ o. with_value o 0 w) a
      go None None k = refl
      go (Some o) (Some p) k = ap (λ a. Some a) (k.set w)
      go None (Some p) k = absurd k
      go (Some o) None k = absurd k

  pub agree-stays : (id : NameId) (w : Value) (V W : Variables) → Near x V W → (other : NameId) → Agree V W other → Agree (set_value V id 0 w) (set_value W id 0 w) other
  agree-stays id w V W h other a = go (id.0 == other.0) refl
    where
      go : (c : Bool) → (id.0 == other.0) ≡ c → Agree (set_value V id 0 w) (set_value W id 0 w) other
      go true e = subst (λ n. Agree (set_value V id 0 w) (set_value W id 0 w) n) (ap (λ n. record { 0 = n }) (eqb-true id.0 other.0 e)) (agree-set id w V W h)
      go false e = named-set_other W id 0 w other e ∙ a ∙ sym (named-set_other V id 0 w other e)

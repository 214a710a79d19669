-- Flags of tasks as the values of an array.
use Rattle.std.proofs.Common.{◌≡◌, ℕ, zero, suc, ◌+◌, ◌<◌, ◌≤◌, ◌==◌, Bool, true, false, List, ◌∷◌, replicate, if◌then◌else◌, refl, sym, ap, ap₂, ◌∙◌, arith}
use Rattle.std.specs.Prelude.{ℤ, pos, ◌-ℤ◌, ◌&&◌, int_le, slice_index_or, slice_set, unsigned_abs, Result, Ok, Err, Some}
use Rattle.std.proofs.lemmas.Bool.{le-leb}
use Rattle.std.proofs.lemmas.Int.{ints}
use Rattle.common_lemmas.proofs.Numbers.{equal_is, equal_self, unequal_above}
use Rattle.ada_static_rules.specs.Scope.{integer_kind}
use Rattle.ada_tree.specs.declared.naming.NameId.{NameId}
use Rattle.ada_value.specs.declared.values.Value.{Value}
use Rattle.ada_value.specs.declared.values.Value.TheVariants.{Number, Truth}
use Rattle.ada_value.specs.declared.values.Raised.{Raised}
use Rattle.ada_value.specs.declared.values.Raised.TheVariants as raised
use Rattle.ada_value.specs.Values.{and_then, place_in, truth_limits}
use Rattle.ada_value.specs.Variables.{value_there, component_place, with_value}
use Rattle.ada_value.specs.Evaluating.{component_value}
use Rattle.run_laws.specs.collecting.Notes.{flagged}
use Rattle.collect_runs.specs.recorder.Recorders.{Recorder}
use Rattle.collect_runs.specs.recorder.States.{flags_from, flags_object}

-- ---- lists of flags

pub flags-same : (f g : ℕ → Bool) (t n : ℕ) → ((u : ℕ) → t ≤ u → f u ≡ g u) → flags_from f t n ≡ flags_from g t n
flags-same f g t zero same = refl
flags-same f g t (suc n) same = ap₂ (λ (b : Bool) (vs : List Value). Truth b ∷ vs) (same t (omega arith)) (flags-same f g (suc t) n (λ u l. same u (omega (arith, l))))

flag-there : (f : ℕ → Bool) (t n j x : ℕ) → x ≡ t + j → j < n → slice_index_or (flags_from f t n) j (Number (pos 0)) ≡ Truth (f x)
flag-there f t zero j x e l = absurd (omega (arith, l))
flag-there f t (suc n) zero x e l = ap (λ (u : ℕ). Truth (f u)) (omega (arith, e))
flag-there f t (suc n) (suc j) x e l = flag-there f (suc t) n j x (omega (arith, e)) (omega (arith, l))

-- a flag behind that of the task is as it was
behind-flag : (f : ℕ → Bool) (x : ℕ) (v : Bool) (u : ℕ) → x < u → f u ≡ flagged f x v u
behind-flag f x v u l = sym (ap (λ (b : Bool). if b then v else f u) (unequal_above u x l))

flag-set : (f : ℕ → Bool) (v : Bool) (t n j x : ℕ) → x ≡ t + j → j < n → slice_set (flags_from f t n) j (Truth v) ≡ flags_from (flagged f x v) t n
flag-set f v t zero j x e l = absurd (omega (arith, l))
flag-set f v t (suc n) zero x e l =
    let same : t ≡ x = omega (arith, e) in
    ap₂ (λ (b : Bool) (vs : List Value). Truth b ∷ vs)
    (sym (ap (λ (u : ℕ). if t == u then v else f t) (sym same) ∙ ap (λ (b : Bool). if b then v else f t) (equal_self t)))
    (flags-same f (flagged f x v) (suc t) n (λ u m. behind-flag f x v u (omega (arith, same, m))))
flag-set f v t (suc n) (suc j) x e l =
    let other : (t == x) ≡ false = below t x (omega (arith, e)) in
    ap₂ (λ (b : Bool) (vs : List Value). Truth b ∷ vs) (sym (ap (λ (b : Bool). if b then v else f t) other)) (flag-set f v (suc t) n j x (omega (arith, e)) (omega (arith, l)))
  where
    below : (a b : ℕ) → a < b → (a == b) ≡ false
    below a b m = go (a == b) refl
      where
        go : (c : Bool) → (a == b) ≡ c → c ≡ false
        go false q = refl
        go true q = absurd (let s : a ≡ b = equal_is a b q in omega (arith, s, m))

pub flags-down : (t n : ℕ) → replicate n (Truth false) ≡ flags_from (λ u. false) t n
flags-down t zero = refl
flags-down t (suc n) = ap (λ (vs : List Value). Truth false ∷ vs) (flags-down (suc t) n)

-- ---- arrays of flags

-- the place of a task's flag
pub place-is : (c n : ℕ) → c ≤ n → place_in (record { kind = integer_kind; first = pos 0; last = pos n }) (pos c) ≡ Ok c
place-is c n l =
    let same : pos c -ℤ pos 0 ≡ pos c = omega (arith, ints) in
    ap (λ (b : Bool). if b && int_le (pos c) (pos n) then Ok (unsigned_abs (pos c -ℤ pos 0)) else Err raised.Constraint) (le-leb 0 c (omega arith))
    ∙ ap (λ (b : Bool). if b then Ok (unsigned_abs (pos c -ℤ pos 0)) else Err raised.Constraint) (le-leb c n l)
    ∙ ap (λ (z : ℤ). Ok (unsigned_abs z)) same

module _ (k : Recorder) (name : NameId) (f : ℕ → Bool) (c : ℕ) (l : c ≤ k.last) where
  pub flag-place : component_place (Some (flags_object k name f)) (Number (pos c)) ≡ Ok c
  flag-place = place-is c k.last l

  -- the flag of a task is read, and set
  pub flag-read : component_value (Some (flags_object k name f)) (Number (pos c)) ≡ Ok (Truth (f c))
  flag-read =
      ap (λ (r : Result ℕ Raised). and_then r (λ i. Ok (value_there (flags_object k name f) i))) flag-place
      ∙ ap (λ (v : Value). Ok v) (flag-there f 0 (suc k.last) c c (omega arith) (omega (arith, l)))

  pub flag-changed : (v : Bool) → with_value (flags_object k name f) c (Truth v) ≡ flags_object k name (flagged f c v)
  flag-changed v =
      ap (λ (vs : List Value). record { name = name; limits = truth_limits; index = Some record { kind = integer_kind; first = pos 0; last = pos k.last }; values = vs })
      (flag-set f v 0 (suc k.last) c c (omega arith) (omega (arith, l)))

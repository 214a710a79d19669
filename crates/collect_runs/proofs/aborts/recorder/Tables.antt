-- What the recorder keeps of each task, as the values of an array.
use Rattle.std.proofs.Common.{◌≡◌, ℕ, zero, suc, ◌+◌, ◌<◌, ◌≤◌, ◌==◌, Bool, true, false, List, ◌∷◌, replicate, if◌then◌else◌, refl, sym, ap, ap₂, ◌∙◌, arith}
use Rattle.std.specs.Prelude.{pos, slice_index_or, slice_set, Result, Ok, Some}
use Rattle.common_lemmas.proofs.Numbers.{equal_is, equal_self, unequal_above}
use Rattle.ada_static_rules.specs.Scope.{integer_kind}
use Rattle.ada_tree.specs.declared.naming.NameId.{NameId}
use Rattle.ada_value.specs.declared.values.Limits.{Limits}
use Rattle.ada_value.specs.declared.values.Value.{Value}
use Rattle.ada_value.specs.declared.values.Value.TheVariants.{Number, Truth}
use Rattle.ada_value.specs.declared.values.Raised.{Raised}
use Rattle.ada_value.specs.Values.{and_then, truth_limits, integer_limits}
use Rattle.ada_value.specs.Variables.{value_there, component_place, with_value}
use Rattle.ada_value.specs.Evaluating.{component_value}
use Rattle.run_laws.specs.collecting.Notes.{flagged}
use Rattle.run_laws.specs.aborts.Notes.{numbered_so}
use Rattle.collect_runs.specs.aborts.recorder.Recorders.{Recorder, last_of}
use Rattle.collect_runs.specs.aborts.recorder.States.{values_from, table_object, numbers_object, flags_object}
use Rattle.collect_runs.proofs.recorder.Flags.{place-is}

-- ---- lists of values

pub values-same : (f g : ℕ → Value) (t n : ℕ) → ((u : ℕ) → u < t + n → f u ≡ g u) → values_from f t n ≡ values_from g t n
values-same f g t zero same = refl
values-same f g t (suc n) same = ap₂ (λ (v : Value) (vs : List Value). v ∷ vs) (same t (omega arith)) (values-same f g (suc t) n (λ u l. same u (omega (arith, l))))

value-there : (f : ℕ → Value) (t n j x : ℕ) → x ≡ t + j → j < n → slice_index_or (values_from f t n) j (Number (pos 0)) ≡ f x
value-there f t zero j x e l = absurd (omega (arith, l))
value-there f t (suc n) zero x e l = ap f (omega (arith, e))
value-there f t (suc n) (suc j) x e l = value-there f (suc t) n j x (omega (arith, e)) (omega (arith, l))

-- the values with that of one task
abbrev pub valued : (ℕ → Value) → ℕ → Value → ℕ → Value
valued f t v u = if u == t then v else f u

-- a value behind that of the task is as it was
behind-value : (f : ℕ → Value) (x : ℕ) (v : Value) (t n : ℕ) → x < t → values_from f t n ≡ values_from (valued f x v) t n
behind-value f x v t zero l = refl
behind-value f x v t (suc n) l =
    ap₂ (λ (w : Value) (vs : List Value). w ∷ vs) (sym (ap (λ (b : Bool). if b then v else f t) (unequal_above t x l))) (behind-value f x v (suc t) n (omega (arith, l)))

value-set : (f : ℕ → Value) (v : Value) (t n j x : ℕ) → x ≡ t + j → j < n → slice_set (values_from f t n) j v ≡ values_from (valued f x v) t n
value-set f v t zero j x e l = absurd (omega (arith, l))
value-set f v t (suc n) zero x e l =
    let same : t ≡ x = omega (arith, e) in
    ap₂ (λ (w : Value) (vs : List Value). w ∷ vs)
    (sym (ap (λ (u : ℕ). if t == u then v else f t) (sym same) ∙ ap (λ (b : Bool). if b then v else f t) (equal_self t)))
    (behind-value f x v (suc t) n (omega (arith, same)))
value-set f v t (suc n) (suc j) x e l =
    let other : (t == x) ≡ false = below t x (omega (arith, e)) in
    ap₂ (λ (w : Value) (vs : List Value). w ∷ vs) (sym (ap (λ (b : Bool). if b then v else f t) other)) (value-set f v (suc t) n j x (omega (arith, e)) (omega (arith, l)))
  where
    below : (a b : ℕ) → a < b → (a == b) ≡ false
    below a b m = go (a == b) refl
      where
        go : (c : Bool) → (a == b) ≡ c → c ≡ false
        go false q = refl
        go true q = absurd (let s : a ≡ b = equal_is a b q in omega (arith, s, m))

-- all values are the same
pub values-all : (v : Value) (t n : ℕ) → replicate n v ≡ values_from (λ u. v) t n
values-all v t zero = refl
values-all v t (suc n) = ap (λ (vs : List Value). v ∷ vs) (values-all v (suc t) n)

-- ---- arrays

-- arrays whose values are the same
pub table-same : (k : Recorder) (name : NameId) (limits : Limits) (f g : ℕ → Value) → ((u : ℕ) → u ≤ last_of k → f u ≡ g u) → table_object k name limits f ≡ table_object k name limits g
table-same k name limits f g same =
    ap (λ (vs : List Value). record { name = name; limits = limits; index = Some record { kind = integer_kind; first = pos 0; last = pos (last_of k) }; values = vs })
    (values-same f g 0 (suc (last_of k)) (λ u l. same u (omega (arith, l))))

module _ (k : Recorder) (name : NameId) (limits : Limits) (f : ℕ → Value) (c : ℕ) (l : c ≤ last_of k) where
  pub table-place : component_place (Some (table_object k name limits f)) (Number (pos c)) ≡ Ok c
  table-place = place-is c (last_of k) l

  -- the value of a task is read, and set
  pub table-read : component_value (Some (table_object k name limits f)) (Number (pos c)) ≡ Ok (f c)
  table-read =
      ap (λ (r : Result ℕ Raised). and_then r (λ i. Ok (value_there (table_object k name limits f) i))) table-place
      ∙ ap (λ (v : Value). Ok v) (value-there f 0 (suc (last_of k)) c c (omega arith) (omega (arith, l)))

  pub table-changed : (v : Value) → with_value (table_object k name limits f) c v ≡ table_object k name limits (valued f c v)
  table-changed v =
      ap (λ (vs : List Value). record { name = name; limits = limits; index = Some record { kind = integer_kind; first = pos 0; last = pos (last_of k) }; values = vs })
      (value-set f v 0 (suc (last_of k)) c c (omega arith) (omega (arith, l)))

-- of numbers, and of flags
pub number-changed : (k : Recorder) (name : NameId) (f : ℕ → ℕ) (c n : ℕ) → c ≤ last_of k → with_value (numbers_object k name f) c (Number (pos n)) ≡ numbers_object k name (numbered_so f c n)
number-changed k name f c n l =
    table-changed k name integer_limits (λ t. Number (pos (f t))) c l (Number (pos n))
    ∙ table-same k name integer_limits (valued (λ t. Number (pos (f t))) c (Number (pos n))) (λ t. Number (pos (numbered_so f c n t))) (λ u m. by (u == c) u)
  where
    by : (b : Bool) (u : ℕ) → (if b then Number (pos n) else Number (pos (f u))) ≡ Number (pos (if b then n else f u))
    by true u = refl
    by false u = refl

pub flag-changed : (k : Recorder) (name : NameId) (f : ℕ → Bool) (c : ℕ) (v : Bool) → c ≤ last_of k → with_value (flags_object k name f) c (Truth v) ≡ flags_object k name (flagged f c v)
flag-changed k name f c v l =
    table-changed k name truth_limits (λ t. Truth (f t)) c l (Truth v)
    ∙ table-same k name truth_limits (valued (λ t. Truth (f t)) c (Truth v)) (λ t. Truth (flagged f c v t)) (λ u m. by (u == c) u)
  where
    by : (b : Bool) (u : ℕ) → (if b then Truth v else Truth (f u)) ≡ Truth (if b then v else f u)
    by true u = refl
    by false u = refl

-- Numbers by value, openings that are passed over, and counts by value, as the code keeps them.
use Rattle.std.proofs.Common.{◌≡◌, ℕ, ℤ, pos, negsuc, suc, ◌+◌, ◌<◌, ◌≤◌, true, false, cond, replicate, List, length, get_or, Option, None, Some, ap, ◌∙◌, sym, subst, arith, inl, inr}
use Rattle.std.specs.Prelude.{◌&&◌, nat_lt, nat_le, slice_get, unwrap_or}
use Rattle.std.specs.Ordering.{int_eq}
use Rattle.std.proofs.lemmas.Bool.{cases_Bool, cases_lt, and_parts, lt-ltb, le-ltb, leb-true}
use Rattle.std.proofs.lemmas.Bool.Decides.{Decides-int_eq}
use Rattle.std.proofs.lemmas.List.{get_or-replicate, length-replicate}
use Rattle.common_lemmas.proofs.Options.{some_same}
use Rattle.syn_constraint.specs.declared.lasts.Lasts.{Lasts}
use Rattle.syn_constraint.specs.declared.surplus.Opening.{Opening}
use Rattle.syn_constraint.specs.declared.surplus_by_value.Tallies.{Tallies}
use Rattle.syn_constraint.specs.inner.Values.{place_in, number_by, number_at}
use Rattle.syn_constraint.specs.inner.Lasts.{last_at}
use Rattle.syn_constraint.specs.inner.Openings.{IsClosed, IsPassed, AreClosed}
use Rattle.syn_constraint.specs.inner.Tallies.{live_at, is_open_at}

int-is : (z w : ℤ) → int_eq z w ≡ true → z ≡ w
int-is z w h = (Decides-int_eq z w).0 h

-- ---- numbers by value

low-number : (low : List ℕ) (other : Option ℕ) (m : ℕ) → m < length low → number_by (place_in low (pos m)) low other ≡ get_or low m 0
low-number low other m short = ap (λ b. number_by (cond b (Some m) None) low other) (lt-ltb m (length low) short)

high-number : (low : List ℕ) (other : Option ℕ) (m : ℕ) → length low ≤ m → number_by (place_in low (pos m)) low other ≡ unwrap_or other 0
high-number low other m long = ap (λ b. number_by (cond b (Some m) None) low other) (le-ltb m (length low) long)

-- nothing is set
pub none-set : (low : List ℕ) (n : ℕ) (other : Option ℕ) → low ≡ replicate n 0 → other ≡ None → (z : ℤ) → number_by (place_in low z) low other ≡ 0
none-set low n other zeros none (negsuc m) = ap (λ t. unwrap_or t 0) none
none-set low n other zeros none (pos m) = elim (cases_lt m (length low)) [
  | inl below ↦
      low-number low other m below ∙ ap (λ t. get_or t m 0) zeros
      ∙ get_or-replicate {A = ℕ} n m 0 0 (omega (arith, below, ap length zeros, length-replicate {A = ℕ} n 0))
  | inr above ↦ high-number low other m above ∙ ap (λ t. unwrap_or t 0) none
]

-- ---- openings that are passed over

pub closed-next : (openings : List Opening) (lasts : Lasts) (limit count from j : ℕ) → AreClosed openings lasts from j → IsPassed openings lasts limit count j true → AreClosed openings lasts from (j + 1)
closed-next openings lasts limit count from j are (o, here, closed) = λ k p low high at. elim (cases_lt k j) [
  | inl before ↦ are k p low before at
  | inr last ↦
      let same : k ≡ j = omega (arith, last, high) in
      subst (IsClosed lasts) (some_same (sym here ∙ ap (slice_get openings) (sym same) ∙ at)) closed
]

-- ---- counts by value

-- a count that is put at one value
pub put-live : (old new : Tallies) (opened closed : Lasts) (value : ℤ) (count place : ℕ) → is_open_at opened closed value ≡ true → count ≡ live_at old closed value + 1 →
    ((w : ℤ) → number_at new.counts w ≡ cond (int_eq value w) count (number_at old.counts w)) → ((w : ℤ) → number_at new.places w ≡ cond (int_eq value w) place (number_at old.places w)) →
    (z : ℤ) → last_at opened (Some z) < place → live_at new closed z ≡ cond (int_eq value z && is_open_at opened closed z) (suc (live_at old closed z)) (live_at old closed z)
put-live old new opened closed value count place open' is counts places z low = elim (cases_Bool (int_eq value z)) [
  | inl same ↦
      let at : value ≡ z = int-is value z same in
      let open-z : is_open_at opened closed z ≡ true = ap (is_open_at opened closed) (sym at) ∙ open' in
      let parts = and_parts (nat_lt 0 (last_at opened (Some z))) (nat_le (last_at closed (Some z)) (last_at opened (Some z))) open-z in
      let before : last_at closed (Some z) < place = omega (arith, low, leb-true (last_at closed (Some z)) (last_at opened (Some z)) parts.1) in
      let now : number_at new.places z ≡ place = places z ∙ ap (λ b. cond b place (number_at old.places z)) same in
      let more : count ≡ suc (live_at old closed z) = let h : live_at old closed value ≡ live_at old closed z = ap (live_at old closed) at in omega (arith, is, h) in
      ap (λ t. cond (nat_lt (last_at closed (Some z)) t) (number_at new.counts z) 0) now
      ∙ ap (λ b. cond b (number_at new.counts z) 0) (lt-ltb (last_at closed (Some z)) place before)
      ∙ counts z ∙ ap (λ b. cond b count (number_at old.counts z)) same
      ∙ more
      ∙ sym (ap (λ b. cond (b && is_open_at opened closed z) (suc (live_at old closed z)) (live_at old closed z)) same ∙ ap (λ b. cond b (suc (live_at old closed z)) (live_at old closed z)) open-z)
  | inr apart ↦
      ap (λ t. cond (nat_lt (last_at closed (Some z)) t) (number_at new.counts z) 0) (places z ∙ ap (λ b. cond b place (number_at old.places z)) apart)
      ∙ ap (λ t. cond (nat_lt (last_at closed (Some z)) (number_at old.places z)) t 0) (counts z ∙ ap (λ b. cond b count (number_at old.counts z)) apart)
      ∙ sym (ap (λ b. cond (b && is_open_at opened closed z) (suc (live_at old closed z)) (live_at old closed z)) apart)
]

-- nothing is put where no window is open
pub shut-live : (old : Tallies) (opened closed : Lasts) (value z : ℤ) → is_open_at opened closed value ≡ false →
    live_at old closed z ≡ cond (int_eq value z && is_open_at opened closed z) (suc (live_at old closed z)) (live_at old closed z)
shut-live old opened closed value z shut = elim (cases_Bool (int_eq value z)) [
  | inl same ↦
      sym (ap (λ b. cond (b && is_open_at opened closed z) (suc (live_at old closed z)) (live_at old closed z)) same
      ∙ ap (λ b. cond b (suc (live_at old closed z)) (live_at old closed z)) (ap (is_open_at opened closed) (sym (int-is value z same)) ∙ shut))
  | inr apart ↦ sym (ap (λ b. cond (b && is_open_at opened closed z) (suc (live_at old closed z)) (live_at old closed z)) apart)
]

-- The order of permits: who has one when an event comes.
use Rattle.std.proofs.Common.{◌≡◌, ℕ, ◌+◌, true, false, ◌==◌, List, [], ◌∷◌, length, sym, ap, ◌∙◌, inl, inr, ◌⊎◌, ⊎_elim, true≢false, arith}
use Rattle.std.proofs.lemmas.Bool.{eqb-true, or_cases}
use Rattle.run_laws.specs.replaying.inner.Stages.{member, in_order}

pub order_length : (given more : List ℕ) → length (in_order given more) ≡ length given + length more
order_length [] more = omega arith
order_length (t ∷ given) more = order_length given (t ∷ more) ∙ omega arith

pub member_one : (a y : ℕ) → member a (y ∷ []) ≡ true → a ≡ y
member_one a y h = ⊎_elim (λ k. eqb-true a y k) (λ k. absurd (true≢false (sym k))) (or_cases (a == y) false h)

pub only_one : (given more : List ℕ) (y a : ℕ) → in_order given more ≡ y ∷ [] → member a given ≡ true → (a ≡ y) × (given ≡ y ∷ []) × (more ≡ [])
only_one [] more y a e h = absurd (true≢false (sym h))
only_one (g ∷ []) more y a e h =
    let k : g ≡ y = cc in let m : more ≡ [] = cc in
    (member_one a g h ∙ k, ap (λ v. v ∷ []) k, m)
only_one (g ∷ (b ∷ given)) more y a e h =
    let n : length (in_order given (b ∷ (g ∷ more))) ≡ 1 = ap length e in
    let m = order_length given (b ∷ (g ∷ more)) in absurd (omega (arith, n, m))

-- two tasks that both have one of two permits
pub record IsPair (c o a b : ℕ) (given more : List ℕ) : Type 0 where
  pub has : given ≡ o ∷ (c ∷ [])
  pub none : more ≡ []
  pub either : ((a ≡ c) × (b ≡ o)) ⊎ ((a ≡ o) × (b ≡ c))

which : (a g f : ℕ) → member a (g ∷ (f ∷ [])) ≡ true → (a ≡ g) ⊎ (a ≡ f)
which a g f h = ⊎_elim (λ k. inl (eqb-true a g k)) (λ k. inr (member_one a f k)) (or_cases (a == g) (member a (f ∷ [])) h)

pub only_two : (given more : List ℕ) (c o a b : ℕ) → in_order given more ≡ c ∷ (o ∷ []) → member a given ≡ true → member b given ≡ true → (a ≡ b → ⊥) →
    IsPair c o a b given more
only_two [] more c o a b e h k apart = absurd (true≢false (sym h))
only_two (g ∷ []) more c o a b e h k apart = absurd (apart (member_one a g h ∙ sym (member_one b g k)))
only_two (g ∷ (f ∷ [])) more c o a b e h k apart =
    let p : f ≡ c = cc in let q : g ≡ o = cc in let m : more ≡ [] = cc in
    record {
      has = ap (λ v. v ∷ (f ∷ [])) q ∙ ap (λ v. o ∷ (v ∷ [])) p;
      none = m;
      either = ⊎_elim
          (λ (r : a ≡ g). ⊎_elim (λ (s : b ≡ g). absurd (apart (r ∙ sym s))) (λ (s : b ≡ f). inr (r ∙ q, s ∙ p)) (which b g f k))
          (λ (r : a ≡ f). ⊎_elim (λ (s : b ≡ g). inl (r ∙ p, s ∙ q)) (λ (s : b ≡ f). absurd (apart (r ∙ sym s))) (which b g f k))
          (which a g f h);
    }
only_two (g ∷ (f ∷ (d ∷ given))) more c o a b e h k apart =
    let n : length (in_order given (d ∷ (f ∷ (g ∷ more)))) ≡ 2 = ap length e in
    let m = order_length given (d ∷ (f ∷ (g ∷ more))) in absurd (omega (arith, n, m))

-- Readers that are asked only where the next token passes a test, as branches of a choice; and what refuses all at a depth (this project's rule).
use Rattle.std.proofs.Common.{◌≡◌, ℕ, ◌≤◌, Bool, true, false, inl, ⊎_elim, not, List, [], ◌∷◌, refl, sym, ap, ◌∙◌}
use Rattle.std.specs.Prelude.{if◌then◌else◌}
use Rattle.ada_expr_parser.specs.readers.Readers.{Fault, Reader, refuse, look, too_deep}
use Rattle.ada_expr_parser.specs.readers.Grammars.{Texts, Begins}
use Rattle.ada_expr_parser.specs.readers.Lawful.{Careful}
use Rattle.ada_expr_parser.proofs.readers.Choosing.{careful_refuse}
use Rattle.ada_expr_parser.proofs.readers.Looking.{decided, too_deep_where, careful_look}
use Rattle.ada_expr_parser.proofs.readers.Fitting.{starts_never, careful_same, careful_fit}
use Rattle.ada_parser.proofs.Narrowing.{Narrow, narrow_where, narrow_starts}

-- asked only there, a reader keeps the laws of the texts that begin so
pub careful_only : {K A : Type 0} {d : ℕ} {p p' : Reader K A} {D : Texts K A} {S : K → Type 0} (test : K → Bool) → Careful d p p' D S → ((a : A) → D d a [] → ⊥) →
    Careful d (look test p refuse) (look test p' refuse) (Narrow test D) S
careful_only {d = d} {p = p} {p' = p'} {D = D} {S = S} test law some = careful_fit
    (λ e deep a text is. ⊎_elim (λ text. text) (λ never. absurd never) is)
    (λ a text is. inl is)
    (careful_look (narrow_where test law some) (careful_refuse d S) narrow_starts starts_never)

-- ---- each branch of a choice is asked only on its side

not_twice : {X : Type 0} (b : Bool) (x y z : X) → (if b then x else y) ≡ (if b then x else (if not b then y else z))
not_twice true x y z = refl
not_twice false x y z = refl

pub look_other : {K A : Type 0} (test : K → Bool) (p q : Reader K A) (ts : List K) → look test p q ts ≡ look test p (look (λ k. not (test k)) q refuse) ts
look_other test p q [] = refl
look_other test p q (k ∷ ts) = not_twice (test k) (p (k ∷ ts)) (q (k ∷ ts)) (Fault false (k ∷ ts))

-- ---- where the depth is filled

-- At some tokens the answer is too deep, and at all others a fault; one level deeper the others are a fault too. No text stands at this depth, and with each of those tokens a deeper one begins.
module _ {K A : Type 0} {d : ℕ} (q q' : Reader K A) (D : Texts K A) (S : K → Type 0) (test : K → Bool)
    (deep_at : (k : K) (ts : List K) → test k ≡ true → q (k ∷ ts) ≡ Fault true (k ∷ ts)) (fault_at : (k : K) (ts : List K) → test k ≡ false → q (k ∷ ts) ≡ Fault false (k ∷ ts))
    (fault_deeper : (k : K) (ts : List K) → test k ≡ false → q' (k ∷ ts) ≡ Fault false (k ∷ ts)) (at_end : q [] ≡ Fault false []) (end_deeper : q' [] ≡ Fault false [])
    (none : (a : A) (text : List K) → D d a text → ⊥) (some : (k : K) → test k ≡ true → (e : ℕ) × (d ≤ e) × Begins (D e) (k ∷ [])) where
  by_test : (ts : List K) → q ts ≡ look test too_deep refuse ts
  by_test [] = at_end
  by_test (k ∷ ts) = ⊎_elim
      (λ is. deep_at k ts is ∙ ap (λ b. if b then Fault true (k ∷ ts) else Fault false (k ∷ ts)) (sym is))
      (λ is. fault_at k ts is ∙ ap (λ b. if b then Fault true (k ∷ ts) else Fault false (k ∷ ts)) (sym is))
      (decided (test k))

  deeper_by_test : (ts : List K) → q' ts ≡ look test q' refuse ts
  deeper_by_test [] = end_deeper
  deeper_by_test (k ∷ ts) = ⊎_elim
      (λ is. ap (λ b. if b then q' (k ∷ ts) else Fault false (k ∷ ts)) (sym is))
      (λ is. fault_deeper k ts is ∙ ap (λ b. if b then q' (k ∷ ts) else Fault false (k ∷ ts)) (sym is))
      (decided (test k))

  pub careful_filled : Careful d q q' D S
  careful_filled = careful_same by_test deeper_by_test (careful_fit
      (λ e deep a text is. ⊎_elim (λ text. text) (λ never. absurd never) is)
      (λ a text is. inl is)
      (careful_look {p' = q'} (too_deep_where test none some) (careful_refuse d S) (record { begins_with = λ a text x is stop. absurd (none a text is) }) starts_never))

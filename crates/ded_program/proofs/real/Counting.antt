-- A load of real files is counted by its answer.
use Rattle.std.proofs.Common.{◌≡◌, ℕ, List, None, Result, Ok, Err, inl, inr, refl}
use Rattle.std.specs.Prelude.{◌⊎◌, IsErrOf}
use Rattle.ded_io.specs.Counts.{Rose}
use Rattle.ded_io.specs.Told.{Lacks}
use Rattle.ded_io.specs.declared.loading.LoadError.{LoadError}
use Rattle.ded_io.specs.declared.loading.LoadError.TheVariants.{Failed, TooLong, Memory}
use Rattle.debug_outcome.specs.Traces.{answer_by}
use Rattle.ded_program.specs.real.inner.RealLoads.{IsCounted}

no_failure : {A : Type 0} (x : A) → IsErrOf {T = A} (Ok x) Failed → ⊥
no_failure x e = cc

not_too_long : {A : Type 0} (n : ℕ) → IsErrOf {T = A} (Err (TooLong n)) Failed → ⊥
not_too_long n e = cc

not_memory : {A : Type 0} → IsErrOf {T = A} (Err Memory) Failed → ⊥
not_memory e = cc

pub counted : {A : Type 0} (f : A → List ℕ) (r : Result A LoadError) (name : List ℕ) (old new : ℕ) → (IsErrOf r Failed → Lacks None name ⊎ Rose old new) → IsErrOf r Failed ⊎ (new ≡ old) → IsCounted old (answer_by f r) new
counted f (Ok x) name old new failed (inl e) = absurd (no_failure x e)
counted f (Ok x) name old new failed (inr same) = same
counted f (Err Failed) name old new failed either = elim (failed refl) [ inl lacks ↦ absurd lacks | inr rose ↦ rose ]
counted f (Err (TooLong n)) name old new failed (inl e) = absurd (not_too_long n e)
counted f (Err (TooLong n)) name old new failed (inr same) = same
counted f (Err Memory) name old new failed (inl e) = absurd (not_memory e)
counted f (Err Memory) name old new failed (inr same) = same

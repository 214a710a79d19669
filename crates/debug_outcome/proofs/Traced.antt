-- What a load came to, as the trace of it says.
use Rattle.std.proofs.Common.{◌≡◌, ℕ, List, [], ◌∷◌, Option, Result, Ok, Err, inl, inr, refl, ap, subst, ◌∙◌}
use Rattle.std.specs.Prelude.{◌⊎◌, ◌↔◌, Some, IfOk, IfErr, IsErrOf, IsTrue}
use Rattle.ded_io.specs.Counts.{Rose}
use Rattle.ded_io.specs.Stored.{StoredFiles, refuses as refuses_load, behind_load}
use Rattle.ded_io.specs.Told.{ToldFile, file_bytes, Lacks, TooLongFor}
use Rattle.ded_io.specs.declared.loading.LoadError.{LoadError}
use Rattle.ded_io.specs.declared.loading.LoadError.TheVariants.{Failed, TooLong, Memory}
use Rattle.debug_outcome.specs.Loads.{AreUnloaded, unreadable}
use Rattle.debug_outcome.specs.Outcomes.{Outcome, refuses}
use Rattle.debug_outcome.specs.Traces.{Wanted, Load, answer_by, HasLoads, IsStoredLoad}
use Rattle.debug_outcome.specs.declared.refusal.Refusal.TheVariants as refusal

-- a load of files in memory is one that is traced, whatever it answers
pub stored_load : {A : Type 0} (f : A → List ℕ) (r : Result A LoadError) (old new : StoredFiles) (name : List ℕ) (limit : ℕ) → new ≡ behind_load old name →
    (IsErrOf r Failed ↔ IsTrue (refuses_load old name)) → IfOk r (λ x. file_bytes old.files name ≡ Some (f x)) → IfErr r (TooLongFor (Some old.files) name limit) →
    IsStoredLoad old record { file = record { name = name; limit = limit }; answer = answer_by f r } new
stored_load f (Ok x) old new name limit behind refused given too_long = record { behind = behind; answered = given }
stored_load f (Err Failed) old new name limit behind refused given too_long = record { behind = behind; answered = refused.0 refl }
stored_load f (Err (TooLong n)) old new name limit behind refused given too_long = record { behind = behind; answered = too_long }
stored_load f (Err Memory) old new name limit behind refused given too_long = record { behind = behind; answered = tt }

module _ {F : Type 0} (leads : F → Load → F → Type 0) (old new : F) (told : Option (List ToldFile)) (faults faults' : ℕ) (file : Wanted) (e : LoadError) (made : leads old record { file = file; answer = Err e } new) where
  -- one load, which failed
  pub failed_load : (o : Outcome) → e ≡ Failed → (e ≡ Failed → Lacks told file.name ⊎ Rose faults faults') → o ≡ unreadable file.name →
      HasLoads leads old new (λ loads. AreUnloaded told faults faults' (file ∷ []) loads o)
  failed_load o is cause told_so = record {
    loads = record { file = file; answer = Err Failed } ∷ [];
    led = (new, subst (λ (x : LoadError). leads old record { file = file; answer = Err x } new) is made, refl);
    is_so = inl (inl (record { were = refl; cause = cause is; is = told_so }));
  }

  -- one load, of a file that is longer than its limit
  pub long_load : (n : ℕ) → e ≡ TooLong n → TooLongFor told file.name file.limit e → HasLoads leads old new (λ loads. AreUnloaded told faults faults' (file ∷ []) loads (refuses (refusal.TooLong file.limit)))
  long_load n is cause =
      let (same, longer) : TooLongFor told file.name file.limit (TooLong n) = subst (λ (x : LoadError). TooLongFor told file.name file.limit x) is cause in record {
        loads = record { file = file; answer = Err (TooLong file.limit) } ∷ [];
        led = (new, subst (λ (x : LoadError). leads old record { file = file; answer = Err x } new) (is ∙ ap TooLong same) made, refl);
        is_so = inl (inr (record { were = refl; longer = longer; is = refl }));
      }

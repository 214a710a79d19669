-- What the words and files of a run of a collecting text call for, from what the bytes of the files call for.
use Rattle.std.proofs.Common.{◌≡◌, ℕ, List, [], ◌∷◌, ◌++◌, Option, Some, None, is_some, Result, sym, subst, true≢false}
use Rattle.std.specs.Prelude.{option_to_list}
use Rattle.ded_io.specs.Told.{ToldFile}
use Rattle.debug_outcome.specs.words.Words.{AsksCollectRun, ChoiceSource, NoChoices, ChoicesIn, ChoicesBy}
use Rattle.debug_outcome.specs.Coming.{Never, Comes}
use Rattle.debug_outcome.specs.Loads.{WereLoaded}
use Rattle.debug_outcome.specs.Outcomes.{Outcome}
use Rattle.debug_outcome.specs.Traces.{Load, HasLoads}
use Rattle.debug_outcome.specs.declared.stopping.Stop.{Stop}
use Rattle.debug_outcome.proofs.Comings.{comes_more}
use Rattle.debug_outcome.specs.files.Giving.{Given, IsGivenBy, given_bytes}
use Rattle.debug_outcome.specs.files.Wanting.{wanted_by}
use Rattle.debug_core.specs.Answers.{Means, CallsFor}
use Rattle.debug_core.specs.CollectRunMeaning.{CollectRunMeans}
use Rattle.debug_core.proofs.Calling.{all_loaded}

module _ (name text : List ℕ) (turns : ℕ) (o : Outcome) where
  collect_run_means : (inputs bytes : Option (List ℕ)) (source : ChoiceSource) (given : Given) → is_some bytes ≡ is_some inputs → IsGivenBy source given → CollectRunMeans text bytes given turns o →
      Means (AsksCollectRun name inputs source turns) ((text ∷ option_to_list bytes) ++ given_bytes given) o
  collect_run_means None None NoChoices given there by means =
      subst (λ (x : Given). Means (AsksCollectRun name None NoChoices turns) ((text ∷ []) ++ given_bytes x) o) (sym by) (subst (λ (x : Given). CollectRunMeans text None x turns o) by means)
  collect_run_means None None (ChoicesIn file) given there by means =
      subst (λ (x : Given). Means (AsksCollectRun name None (ChoicesIn file) turns) ((text ∷ []) ++ given_bytes x) o) (sym by.1) (subst (λ (x : Given). CollectRunMeans text None x turns o) by.1 means)
  collect_run_means None None (ChoicesBy seed) given there by means =
      subst (λ (x : Given). Means (AsksCollectRun name None (ChoicesBy seed) turns) ((text ∷ []) ++ given_bytes x) o) (sym by) (subst (λ (x : Given). CollectRunMeans text None x turns o) by means)
  collect_run_means (Some list) (Some bytes) NoChoices given there by means =
      subst (λ (x : Given). Means (AsksCollectRun name (Some list) NoChoices turns) ((text ∷ bytes ∷ []) ++ given_bytes x) o) (sym by) (subst (λ (x : Given). CollectRunMeans text (Some bytes) x turns o) by means)
  collect_run_means (Some list) (Some bytes) (ChoicesIn file) given there by means =
      subst (λ (x : Given). Means (AsksCollectRun name (Some list) (ChoicesIn file) turns) ((text ∷ bytes ∷ []) ++ given_bytes x) o) (sym by.1) (subst (λ (x : Given). CollectRunMeans text (Some bytes) x turns o) by.1 means)
  collect_run_means (Some list) (Some bytes) (ChoicesBy seed) given there by means =
      subst (λ (x : Given). Means (AsksCollectRun name (Some list) (ChoicesBy seed) turns) ((text ∷ bytes ∷ []) ++ given_bytes x) o) (sym by) (subst (λ (x : Given). CollectRunMeans text (Some bytes) x turns o) by means)
  collect_run_means None (Some bytes) source given there by means = absurd (true≢false there)
  collect_run_means (Some list) None source given there by means = absurd (true≢false (sym there))

module _ {F : Type 0} (leads : F → Load → F → Type 0) (old new : F) (told : Option (List ToldFile)) (file_faults file_faults' : ℕ) (name text : List ℕ) (inputs bytes : Option (List ℕ)) (there : is_some bytes ≡ is_some inputs) (out out' : Option (List ℕ)) (faults faults' : ℕ) (r : Result ℕ Stop) where
  pub collect_run_loaded : (source : ChoiceSource) (given : Given) (turns : ℕ) → IsGivenBy source given →
      HasLoads leads old new (WereLoaded told (wanted_by (AsksCollectRun name inputs source turns)) ((text ∷ option_to_list bytes) ++ given_bytes given)) →
      Comes (CollectRunMeans text bytes given turns) Never out out' faults faults' r →
      HasLoads leads old new (λ loads. Comes (CallsFor (AsksCollectRun name inputs source turns) told file_faults file_faults' loads) Never out out' faults faults' r)
  collect_run_loaded source given turns by made h =
      all_loaded leads old new told file_faults file_faults' (AsksCollectRun name inputs source turns) ((text ∷ option_to_list bytes) ++ given_bytes given) out out' faults faults' r made
      (comes_more (CollectRunMeans text bytes given turns) (Means (AsksCollectRun name inputs source turns) ((text ∷ option_to_list bytes) ++ given_bytes given)) Never Never out out' faults faults' r
      (λ o means. collect_run_means name text turns o inputs bytes source given there by means) (λ o never. never) h)

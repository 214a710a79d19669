-- What words and files call for, from what the bytes of the files call for.
use Rattle.std.proofs.Common.{◌≡◌, ℕ, List, [], ◌∷◌, ◌++◌, Option, Some, None, is_some, option_map, Result, Err, inl, inr, refl, sym, subst, true≢false}
use Rattle.std.specs.Prelude.{option_to_list}
use Rattle.ded_io.specs.Told.{ToldFile}
use Rattle.debug_outcome.specs.words.Words.{Asked, AsksRun, AsksJudge, AsksVariants, AsksContinue, ChoiceSource, NoChoices, ChoicesIn, ChoicesBy}
use Rattle.debug_outcome.specs.declared.words.command.NoWords.{NoWords}
use Rattle.debug_outcome.specs.declared.words.command.NoWords.TheVariants.{NotText, Memory}
use Rattle.debug_outcome.specs.Coming.{Never, Stops, Comes}
use Rattle.debug_outcome.specs.Delivery.{Sides}
use Rattle.debug_outcome.specs.Loads.{WereLoaded, AreUnloaded}
use Rattle.debug_outcome.specs.Outcomes.{Outcome}
use Rattle.debug_outcome.specs.Traces.{Load, HasLoads}
use Rattle.debug_outcome.specs.declared.refusal.Refusal.TheVariants.{Usage}
use Rattle.debug_outcome.specs.declared.stopping.Stop.{Stop}
use Rattle.debug_outcome.specs.declared.stopping.Stop.TheVariants as stop
use Rattle.debug_outcome.proofs.Comings.{stops_more, stops_come, comes_more, ends_stopped, told_alone}
use Rattle.debug_outcome.specs.files.Giving.{Given, IsGivenBy, given_bytes}
use Rattle.debug_outcome.specs.files.Wanting.{wanted_by}
use Rattle.debug_core.specs.Answers.{Means, CallsFor, GrowsFor, AnswersNoWords, TellsNoWords}
use Rattle.debug_core.specs.ContinueMeaning.{ContinueMeans}
use Rattle.debug_core.specs.JudgeMeaning.{JudgeMeans}
use Rattle.debug_core.specs.RunMeaning.{RunMeans}
use Rattle.debug_core.specs.VariantsMeaning.{VariantsMeans}

-- ---- files that were loaded

module _ {F : Type 0} (leads : F → Load → F → Type 0) (old new : F) (told : Option (List ToldFile)) (file_faults file_faults' : ℕ) (asked : Asked) (contents : List (List ℕ)) (out out' : Option (List ℕ)) (faults faults' : ℕ) (r : Result ℕ Stop)
    (made : HasLoads leads old new (WereLoaded told (wanted_by asked) contents)) where
  -- words and files call for what the bytes call for with the words
  pub all_loaded : Comes (Means asked contents) Never out out' faults faults' r → HasLoads leads old new (λ loads. Comes (CallsFor asked told file_faults file_faults' loads) Never out out' faults faults' r)
  all_loaded h = record {
    loads = made.loads;
    led = made.led;
    is_so =
        comes_more (Means asked contents) (CallsFor asked told file_faults file_faults' made.loads) Never Never out out' faults faults' r
        (λ o means. inl (record { contents = contents; loaded = made.is_so; means = means })) (λ o never. never) h;
  }

  -- the same of a text that grows
  all_growing : Comes (Means asked contents) (Means asked contents) out out' faults faults' r →
      HasLoads leads old new (λ loads. Comes (CallsFor asked told file_faults file_faults' loads) (CallsFor asked told file_faults file_faults' loads) out out' faults faults' r)
  all_growing h = record {
    loads = made.loads;
    led = made.led;
    is_so =
        comes_more (Means asked contents) (CallsFor asked told file_faults file_faults' made.loads) (Means asked contents) (CallsFor asked told file_faults file_faults' made.loads) out out' faults faults' r
        (λ o means. inl (record { contents = contents; loaded = made.is_so; means = means }))
        (λ o means. inl (record { contents = contents; loaded = made.is_so; means = means })) h;
  }

-- a file was not loaded
pub not_loaded : {F : Type 0} (leads : F → Load → F → Type 0) (old new : F) (told : Option (List ToldFile)) (file_faults file_faults' : ℕ) (asked : Asked) (G : List Load → Outcome → Type 0) (out : Option (List ℕ)) (faults : ℕ) (stop : Stop) →
    HasLoads leads old new (λ loads. Stops (AreUnloaded told file_faults file_faults' (wanted_by asked) loads) stop) → HasLoads leads old new (λ loads. Comes (CallsFor asked told file_faults file_faults' loads) (G loads) out out faults faults (Err stop))
not_loaded leads old new told file_faults file_faults' asked G out faults stop made = record {
  loads = made.loads;
  led = made.led;
  is_so =
      stops_come (CallsFor asked told file_faults file_faults' made.loads) (G made.loads) out faults stop
      (stops_more (AreUnloaded told file_faults file_faults' (wanted_by asked) made.loads) (CallsFor asked told file_faults file_faults' made.loads) stop (λ o bad. inr bad) made.is_so);
}

-- ---- the bytes of runs and of what is judged, in the order of the words

-- bytes are there where a name is
pub both_there : {A B C D : Type 0} (f : A → C) (g : B → D) (x : Option A) (y : Option B) → is_some x ≡ is_some y → is_some (option_map f x) ≡ is_some (option_map g y)
both_there f g (Some x) (Some y) h = refl
both_there f g None None h = refl
both_there f g (Some x) None h = absurd (true≢false h)
both_there f g None (Some y) h = absurd (true≢false (sym h))

module _ (name text : List ℕ) (turns : ℕ) (o : Outcome) where
  run_means : (inputs bytes : Option (List ℕ)) (source : ChoiceSource) (given : Given) → is_some bytes ≡ is_some inputs → IsGivenBy source given → RunMeans text bytes given turns o →
      Means (AsksRun name inputs source turns) ((text ∷ option_to_list bytes) ++ given_bytes given) o
  run_means None None NoChoices given there by means =
      subst (λ (x : Given). Means (AsksRun name None NoChoices turns) ((text ∷ []) ++ given_bytes x) o) (sym by) (subst (λ (x : Given). RunMeans text None x turns o) by means)
  run_means None None (ChoicesIn file) given there by means =
      subst (λ (x : Given). Means (AsksRun name None (ChoicesIn file) turns) ((text ∷ []) ++ given_bytes x) o) (sym by.1) (subst (λ (x : Given). RunMeans text None x turns o) by.1 means)
  run_means None None (ChoicesBy seed) given there by means =
      subst (λ (x : Given). Means (AsksRun name None (ChoicesBy seed) turns) ((text ∷ []) ++ given_bytes x) o) (sym by) (subst (λ (x : Given). RunMeans text None x turns o) by means)
  run_means (Some list) (Some bytes) NoChoices given there by means =
      subst (λ (x : Given). Means (AsksRun name (Some list) NoChoices turns) ((text ∷ bytes ∷ []) ++ given_bytes x) o) (sym by) (subst (λ (x : Given). RunMeans text (Some bytes) x turns o) by means)
  run_means (Some list) (Some bytes) (ChoicesIn file) given there by means =
      subst (λ (x : Given). Means (AsksRun name (Some list) (ChoicesIn file) turns) ((text ∷ bytes ∷ []) ++ given_bytes x) o) (sym by.1) (subst (λ (x : Given). RunMeans text (Some bytes) x turns o) by.1 means)
  run_means (Some list) (Some bytes) (ChoicesBy seed) given there by means =
      subst (λ (x : Given). Means (AsksRun name (Some list) (ChoicesBy seed) turns) ((text ∷ bytes ∷ []) ++ given_bytes x) o) (sym by) (subst (λ (x : Given). RunMeans text (Some bytes) x turns o) by means)
  run_means None (Some bytes) source given there by means = absurd (true≢false there)
  run_means (Some list) None source given there by means = absurd (true≢false (sym there))

judge_means : (name sequence text lines : List ℕ) (bound : ℕ) (o : Outcome) (inputs bytes : Option (List ℕ)) → is_some bytes ≡ is_some inputs → JudgeMeans text bytes lines bound o →
    Means (AsksJudge name inputs sequence bound) ((text ∷ option_to_list bytes) ++ (lines ∷ [])) o
judge_means name sequence text lines bound o None None there means = means
judge_means name sequence text lines bound o (Some list) (Some bytes) there means = means
judge_means name sequence text lines bound o None (Some bytes) there means = absurd (true≢false there)
judge_means name sequence text lines bound o (Some list) None there means = absurd (true≢false (sym there))

variants_mean : (name sequence text lines : List ℕ) (bound : ℕ) (o : Outcome) (inputs bytes : Option (List ℕ)) → is_some bytes ≡ is_some inputs → VariantsMeans text bytes lines bound o →
    Means (AsksVariants name inputs sequence bound) ((text ∷ option_to_list bytes) ++ (lines ∷ [])) o
variants_mean name sequence text lines bound o None None there means = means
variants_mean name sequence text lines bound o (Some list) (Some bytes) there means = means
variants_mean name sequence text lines bound o None (Some bytes) there means = absurd (true≢false there)
variants_mean name sequence text lines bound o (Some list) None there means = absurd (true≢false (sym there))

module _ (name sequence text lines : List ℕ) (count bound : ℕ) (o : Outcome) where
  continue_means : (inputs bytes : Option (List ℕ)) (source : ChoiceSource) (given : Given) → is_some bytes ≡ is_some inputs → IsGivenBy source given → ContinueMeans text bytes lines given count bound o →
      Means (AsksContinue name inputs sequence source count bound) (((text ∷ option_to_list bytes) ++ (lines ∷ [])) ++ given_bytes given) o
  continue_means None None NoChoices given there by means =
      subst (λ (x : Given). Means (AsksContinue name None sequence NoChoices count bound) ((text ∷ lines ∷ []) ++ given_bytes x) o) (sym by) (subst (λ (x : Given). ContinueMeans text None lines x count bound o) by means)
  continue_means None None (ChoicesIn file) given there by means =
      subst (λ (x : Given). Means (AsksContinue name None sequence (ChoicesIn file) count bound) ((text ∷ lines ∷ []) ++ given_bytes x) o) (sym by.1) (subst (λ (x : Given). ContinueMeans text None lines x count bound o) by.1 means)
  continue_means None None (ChoicesBy seed) given there by means =
      subst (λ (x : Given). Means (AsksContinue name None sequence (ChoicesBy seed) count bound) ((text ∷ lines ∷ []) ++ given_bytes x) o) (sym by) (subst (λ (x : Given). ContinueMeans text None lines x count bound o) by means)
  continue_means (Some list) (Some bytes) NoChoices given there by means =
      subst (λ (x : Given). Means (AsksContinue name (Some list) sequence NoChoices count bound) ((text ∷ bytes ∷ lines ∷ []) ++ given_bytes x) o) (sym by) (subst (λ (x : Given). ContinueMeans text (Some bytes) lines x count bound o) by means)
  continue_means (Some list) (Some bytes) (ChoicesIn file) given there by means =
      subst (λ (x : Given). Means (AsksContinue name (Some list) sequence (ChoicesIn file) count bound) ((text ∷ bytes ∷ lines ∷ []) ++ given_bytes x) o) (sym by.1) (subst (λ (x : Given). ContinueMeans text (Some bytes) lines x count bound o) by.1 means)
  continue_means (Some list) (Some bytes) (ChoicesBy seed) given there by means =
      subst (λ (x : Given). Means (AsksContinue name (Some list) sequence (ChoicesBy seed) count bound) ((text ∷ bytes ∷ lines ∷ []) ++ given_bytes x) o) (sym by) (subst (λ (x : Given). ContinueMeans text (Some bytes) lines x count bound o) by means)
  continue_means None (Some bytes) source given there by means = absurd (true≢false there)
  continue_means (Some list) None source given there by means = absurd (true≢false (sym there))

module _ {F : Type 0} (leads : F → Load → F → Type 0) (old new : F) (told : Option (List ToldFile)) (file_faults file_faults' : ℕ) (name text : List ℕ) (inputs bytes : Option (List ℕ)) (there : is_some bytes ≡ is_some inputs) (out out' : Option (List ℕ)) (faults faults' : ℕ) (r : Result ℕ Stop) where
  pub run_loaded : (source : ChoiceSource) (given : Given) (turns : ℕ) → IsGivenBy source given →
      HasLoads leads old new (WereLoaded told (wanted_by (AsksRun name inputs source turns)) ((text ∷ option_to_list bytes) ++ given_bytes given)) →
      Comes (RunMeans text bytes given turns) (RunMeans text bytes given turns) out out' faults faults' r →
      HasLoads leads old new (λ loads. Comes (CallsFor (AsksRun name inputs source turns) told file_faults file_faults' loads) (GrowsFor (AsksRun name inputs source turns) told file_faults file_faults' loads) out out' faults faults' r)
  run_loaded source given turns by made h =
      all_growing leads old new told file_faults file_faults' (AsksRun name inputs source turns) ((text ∷ option_to_list bytes) ++ given_bytes given) out out' faults faults' r made
      (comes_more (RunMeans text bytes given turns) (Means (AsksRun name inputs source turns) ((text ∷ option_to_list bytes) ++ given_bytes given)) (RunMeans text bytes given turns) (Means (AsksRun name inputs source turns) ((text ∷ option_to_list bytes) ++ given_bytes given)) out out' faults faults' r
      (λ o means. run_means name text turns o inputs bytes source given there by means)
      (λ o means. run_means name text turns o inputs bytes source given there by means) h)

  pub judge_loaded : (sequence lines : List ℕ) (bound : ℕ) →
      HasLoads leads old new (WereLoaded told (wanted_by (AsksJudge name inputs sequence bound)) ((text ∷ option_to_list bytes) ++ (lines ∷ []))) → Comes (JudgeMeans text bytes lines bound) Never out out' faults faults' r →
      HasLoads leads old new (λ loads. Comes (CallsFor (AsksJudge name inputs sequence bound) told file_faults file_faults' loads) Never out out' faults faults' r)
  judge_loaded sequence lines bound made h =
      all_loaded leads old new told file_faults file_faults' (AsksJudge name inputs sequence bound) ((text ∷ option_to_list bytes) ++ (lines ∷ [])) out out' faults faults' r made
      (comes_more (JudgeMeans text bytes lines bound) (Means (AsksJudge name inputs sequence bound) ((text ∷ option_to_list bytes) ++ (lines ∷ []))) Never Never out out' faults faults' r
      (λ o means. judge_means name sequence text lines bound o inputs bytes there means) (λ o never. never) h)

  pub variants_loaded : (sequence lines : List ℕ) (bound : ℕ) →
      HasLoads leads old new (WereLoaded told (wanted_by (AsksVariants name inputs sequence bound)) ((text ∷ option_to_list bytes) ++ (lines ∷ []))) →
      Comes (VariantsMeans text bytes lines bound) (VariantsMeans text bytes lines bound) out out' faults faults' r →
      HasLoads leads old new (λ loads. Comes (CallsFor (AsksVariants name inputs sequence bound) told file_faults file_faults' loads) (GrowsFor (AsksVariants name inputs sequence bound) told file_faults file_faults' loads) out out' faults faults' r)
  variants_loaded sequence lines bound made h =
      all_growing leads old new told file_faults file_faults' (AsksVariants name inputs sequence bound) ((text ∷ option_to_list bytes) ++ (lines ∷ [])) out out' faults faults' r made
      (comes_more (VariantsMeans text bytes lines bound) (Means (AsksVariants name inputs sequence bound) ((text ∷ option_to_list bytes) ++ (lines ∷ []))) (VariantsMeans text bytes lines bound) (Means (AsksVariants name inputs sequence bound) ((text ∷ option_to_list bytes) ++ (lines ∷ []))) out out' faults faults' r
      (λ o means. variants_mean name sequence text lines bound o inputs bytes there means)
      (λ o means. variants_mean name sequence text lines bound o inputs bytes there means) h)

  pub continue_loaded : (sequence lines : List ℕ) (source : ChoiceSource) (given : Given) (count bound : ℕ) → IsGivenBy source given →
      HasLoads leads old new (WereLoaded told (wanted_by (AsksContinue name inputs sequence source count bound)) (((text ∷ option_to_list bytes) ++ (lines ∷ [])) ++ given_bytes given)) →
      Comes (ContinueMeans text bytes lines given count bound) Never out out' faults faults' r →
      HasLoads leads old new (λ loads. Comes (CallsFor (AsksContinue name inputs sequence source count bound) told file_faults file_faults' loads) Never out out' faults faults' r)
  continue_loaded sequence lines source given count bound by made h =
      all_loaded leads old new told file_faults file_faults' (AsksContinue name inputs sequence source count bound) (((text ∷ option_to_list bytes) ++ (lines ∷ [])) ++ given_bytes given) out out' faults faults' r made
      (comes_more (ContinueMeans text bytes lines given count bound) (Means (AsksContinue name inputs sequence source count bound) (((text ∷ option_to_list bytes) ++ (lines ∷ [])) ++ given_bytes given)) Never Never out out' faults faults' r
      (λ o means. continue_means name sequence text lines count bound o inputs bytes source given there by means) (λ o never. never) h)

-- ---- no words

-- what is told of them is delivered, with nothing else touched
pub no_words : (why : NoWords) (s : Sides) (status : ℕ) → s.out' ≡ s.out → s.out_faults' ≡ s.out_faults → TellsNoWords why s.err s.err' s.err_faults s.err_faults' status → AnswersNoWords why s status
no_words NotText s status same still told = told_alone Usage s status same still told
no_words Memory s status same still told = ends_stopped Never Never s stop.Memory status (inl (same, still)) told

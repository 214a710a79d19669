-- What the words and the bytes of the files call for, and what the program answers: such an outcome, delivered (this project's rules).
use Rattle.std.specs.Prelude.{ℕ, List, [], ◌∷◌, Option, Some, None, ◌⊎◌}
use Rattle.ded_io.specs.Told.{ToldFile}
use Rattle.debug_outcome.specs.words.Words.{Asked, AsksPrint, AsksCheck, AsksRun, AsksJudge, AsksReplay, AsksRequire, AsksMigrate, AsksVariants, AsksContinue, AsksCollect, AsksCollectRun, AsksLoad, NoChoices, ChoicesIn, ChoicesBy}
use Rattle.debug_outcome.specs.declared.words.command.NoWords.{NoWords}
use Rattle.debug_outcome.specs.declared.words.command.NoWords.TheVariants.{NotText, Memory}
use Rattle.debug_outcome.specs.Coming.{Never, Tells}
use Rattle.debug_outcome.specs.Delivery.{Sides, IsDelivered, Ends}
use Rattle.debug_outcome.specs.Loads.{WereLoaded, AreUnloaded}
use Rattle.debug_outcome.specs.Outcomes.{Outcome, refuses}
use Rattle.debug_outcome.specs.Traces.{Load}
use Rattle.debug_outcome.specs.declared.refusal.Refusal.TheVariants.{Usage}
use Rattle.debug_outcome.specs.declared.stopping.Stop.TheVariants as stop
use Rattle.debug_outcome.specs.files.Giving.{NothingGiven, BytesGiven, SeedGiven}
use Rattle.debug_outcome.specs.files.Wanting.{wanted_by}
use Rattle.debug_collect.specs.loads.LoadOutcomes.{LoadMeans}
use Rattle.debug_core.specs.PrintMeaning.{PrintMeans}
use Rattle.debug_core.specs.CheckMeaning.{CheckMeans}
use Rattle.debug_core.specs.RunMeaning.{RunMeans}
use Rattle.debug_core.specs.JudgeMeaning.{JudgeMeans}
use Rattle.debug_core.specs.ReplayMeaning.{ReplayMeans}
use Rattle.debug_core.specs.RequireMeaning.{RequireMeans}
use Rattle.debug_core.specs.MigrateMeaning.{MigrateMeans}
use Rattle.debug_core.specs.VariantsMeaning.{VariantsMeans}
use Rattle.debug_core.specs.ContinueMeaning.{ContinueMeans}
use Rattle.debug_core.specs.CollectMeaning.{CollectMeans}
use Rattle.debug_core.specs.CollectRunMeaning.{CollectRunMeans}

-- These words and these bytes of files, in the order of the words, call for this outcome: one definition a command.
abbrev pub Means : Asked → List (List ℕ) → Outcome → Type 0
Means (AsksPrint file) (text ∷ []) o = PrintMeans text o
Means (AsksCheck file) (text ∷ []) o = CheckMeans text o
Means (AsksRun file None NoChoices turns) (text ∷ []) o = RunMeans text None NothingGiven turns o
Means (AsksRun file None (ChoicesIn name) turns) (text ∷ choices ∷ []) o = RunMeans text None (BytesGiven choices) turns o
Means (AsksRun file None (ChoicesBy seed) turns) (text ∷ []) o = RunMeans text None (SeedGiven seed) turns o
Means (AsksRun file (Some list) NoChoices turns) (text ∷ inputs ∷ []) o = RunMeans text (Some inputs) NothingGiven turns o
Means (AsksRun file (Some list) (ChoicesIn name) turns) (text ∷ inputs ∷ choices ∷ []) o = RunMeans text (Some inputs) (BytesGiven choices) turns o
Means (AsksRun file (Some list) (ChoicesBy seed) turns) (text ∷ inputs ∷ []) o = RunMeans text (Some inputs) (SeedGiven seed) turns o
Means (AsksJudge file None sequence bound) (text ∷ lines ∷ []) o = JudgeMeans text None lines bound o
Means (AsksJudge file (Some list) sequence bound) (text ∷ inputs ∷ lines ∷ []) o = JudgeMeans text (Some inputs) lines bound o
Means (AsksReplay file sequence) (text ∷ lines ∷ []) o = ReplayMeans text lines o
Means (AsksRequire file sequence constraints) (text ∷ lines ∷ bytes ∷ []) o = RequireMeans text lines bytes o
Means (AsksMigrate file sequence) (text ∷ lines ∷ []) o = MigrateMeans text lines o
Means (AsksVariants file None sequence bound) (text ∷ lines ∷ []) o = VariantsMeans text None lines bound o
Means (AsksVariants file (Some list) sequence bound) (text ∷ inputs ∷ lines ∷ []) o = VariantsMeans text (Some inputs) lines bound o
Means (AsksContinue file None sequence NoChoices count bound) (text ∷ lines ∷ []) o = ContinueMeans text None lines NothingGiven count bound o
Means (AsksContinue file None sequence (ChoicesIn name) count bound) (text ∷ lines ∷ choices ∷ []) o = ContinueMeans text None lines (BytesGiven choices) count bound o
Means (AsksContinue file None sequence (ChoicesBy seed) count bound) (text ∷ lines ∷ []) o = ContinueMeans text None lines (SeedGiven seed) count bound o
Means (AsksContinue file (Some list) sequence NoChoices count bound) (text ∷ inputs ∷ lines ∷ []) o =
    ContinueMeans text (Some inputs) lines NothingGiven count bound o
Means (AsksContinue file (Some list) sequence (ChoicesIn name) count bound) (text ∷ inputs ∷ lines ∷ choices ∷ []) o =
    ContinueMeans text (Some inputs) lines (BytesGiven choices) count bound o
Means (AsksContinue file (Some list) sequence (ChoicesBy seed) count bound) (text ∷ inputs ∷ lines ∷ []) o =
    ContinueMeans text (Some inputs) lines (SeedGiven seed) count bound o
Means (AsksCollect file) (text ∷ []) o = CollectMeans text o
Means (AsksCollectRun file None NoChoices turns) (text ∷ []) o = CollectRunMeans text None NothingGiven turns o
Means (AsksCollectRun file None (ChoicesIn name) turns) (text ∷ choices ∷ []) o = CollectRunMeans text None (BytesGiven choices) turns o
Means (AsksCollectRun file None (ChoicesBy seed) turns) (text ∷ []) o = CollectRunMeans text None (SeedGiven seed) turns o
Means (AsksCollectRun file (Some list) NoChoices turns) (text ∷ inputs ∷ []) o = CollectRunMeans text (Some inputs) NothingGiven turns o
Means (AsksCollectRun file (Some list) (ChoicesIn name) turns) (text ∷ inputs ∷ choices ∷ []) o = CollectRunMeans text (Some inputs) (BytesGiven choices) turns o
Means (AsksCollectRun file (Some list) (ChoicesBy seed) turns) (text ∷ inputs ∷ []) o = CollectRunMeans text (Some inputs) (SeedGiven seed) turns o
Means (AsksLoad n) [] o = LoadMeans n o
Means asked contents o = ⊥

-- The bytes of all files were loaded, each by one load and in the order of the words, and with the words they call for the outcome.
pub record LoadedFilesMean (asked : Asked) (told : Option (List ToldFile)) (loads : List Load) (o : Outcome) : Type 0 where
  pub contents : List (List ℕ)
  pub loaded : WereLoaded told (wanted_by asked) contents loads
  pub means : Means asked contents o

-- The words and the files call for the outcome: it is what their bytes mean, or the refusal of the first file that was not loaded.
abbrev pub CallsFor : Asked → Option (List ToldFile) → ℕ → ℕ → List Load → Outcome → Type 0
CallsFor asked told faults faults' loads o = LoadedFilesMean asked told loads o ⊎ AreUnloaded told faults faults' (wanted_by asked) loads o

-- A run writes its lines as its actions are made, and variants are written place by place, so that either, out of memory, may leave a prefix of its text; every other
-- text is written once nothing more is needed for it.
abbrev pub GrowsFor : Asked → Option (List ToldFile) → ℕ → ℕ → List Load → Outcome → Type 0
GrowsFor (AsksRun file inputs choices turns) told faults faults' loads o = CallsFor (AsksRun file inputs choices turns) told faults faults' loads o
GrowsFor (AsksVariants file inputs sequence bound) told faults faults' loads o = CallsFor (AsksVariants file inputs sequence bound) told faults faults' loads o
GrowsFor asked told faults faults' loads o = ⊥

-- How the files and both outputs stand before a call and after it, by what each of them tells and by its faults, with the loads that the call made.
abbrev pub sides : {F O E : Type 0} → (F → Option (List ToldFile)) → (F → ℕ) → (O → Option (List ℕ)) → (O → ℕ) → (E → Option (List ℕ)) → (E → ℕ) → F → F → O → O → E → E → List Load → Sides
sides told_files file_faults told_out out_faults told_err err_faults files files' out out' err err' loads = record {
  files = told_files files;
  file_faults = file_faults files;
  file_faults' = file_faults files';
  loads = loads;
  out = told_out out;
  out' = told_out out';
  out_faults = out_faults out;
  out_faults' = out_faults out';
  err = told_err err;
  err' = told_err err';
  err_faults = err_faults err;
  err_faults' = err_faults err';
}

-- The status answers what the words ask for: it ends a call that delivers an outcome for which words and files call. Words that are no usage are refused, and that needs no memory.
abbrev pub Answers : Option Asked → Sides → ℕ → Type 0
Answers None sides status = IsDelivered (refuses Usage) sides status
Answers (Some asked) sides status =
    Ends (CallsFor asked sides.files sides.file_faults sides.file_faults' sides.loads) (GrowsFor asked sides.files sides.file_faults sides.file_faults' sides.loads) sides status

-- Why there are no words: one that is no text stands in no usage, and without memory for them there is nothing but the line that says so.
abbrev pub AnswersNoWords : NoWords → Sides → ℕ → Type 0
AnswersNoWords NotText sides status = Answers None sides status
AnswersNoWords Memory sides status = Ends Never Never sides status

-- what is told on the error output then
abbrev pub TellsNoWords : NoWords → Option (List ℕ) → Option (List ℕ) → ℕ → ℕ → ℕ → Type 0
TellsNoWords NotText err err' faults faults' status = Tells (stop.Refused Usage) err err' faults faults' status
TellsNoWords Memory err err' faults faults' status = Tells stop.Memory err err' faults faults' status

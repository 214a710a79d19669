-- The bytes of files call for one outcome with the words.
use Rattle.std.proofs.Common.{◌≡◌, ℕ, List, [], ◌∷◌, Option, Some, None, inl, inr, sym, ap, ◌∙◌}
use Rattle.ada_tree.specs.PlainProgram.{PProgram}
use Rattle.ada_parser.proofs.PlacedItems.{read_is_placed}
use Rattle.ada_printer.specs.ProgramText.{program_text}
use Rattle.syn_event.specs.declared.numbering.Mode.TheVariants.{Original, Any}
use Rattle.syn_event.specs.Numbering.{Numbering}
use Rattle.debug_run.specs.texts.CheckText.{check_text}
use Rattle.debug_outcome.specs.words.Words.{Asked, AsksPrint, AsksCheck, AsksRun, AsksJudge, AsksReplay, AsksRequire, AsksMigrate, AsksVariants, AsksContinue, AsksCollect, AsksCollectRun, AsksLoad, NoChoices, ChoicesIn, ChoicesBy}
use Rattle.debug_outcome.specs.files.Giving.{Given, NothingGiven, BytesGiven, SeedGiven}
use Rattle.debug_outcome.specs.Outcomes.{Outcome, writes}
use Rattle.debug_judge.specs.JudgeOutcomes.{SequenceMeans}
use Rattle.debug_collect.specs.replays.ReplayOutcomes.{ReplaysLines}
use Rattle.debug_variants.specs.VariantsOutcomes.{VariantsMean}
use Rattle.debug_collect.proofs.replays.OneReplay.{one_replay}
use Rattle.debug_sequence.specs.MigrateOutcomes.{Migrates}
use Rattle.debug_sequence.specs.RequireOutcomes.{RequiresLines}
use Rattle.debug_sequence.proofs.OneMigrate.{one_migrate}
use Rattle.debug_sequence.proofs.OneRequire.{one_require}
use Rattle.debug_collect.proofs.loads.OneLoading.{one_loading}
use Rattle.debug_core.specs.Answers.{Means}
use Rattle.debug_core.specs.CheckMeaning.{CheckMeans}
use Rattle.debug_core.specs.ChosenRuns.{RunsUnder}
use Rattle.debug_core.specs.ChosenEvents.{GoesOnUnder}
use Rattle.debug_core.specs.ContinueMeaning.{ContinueMeans}
use Rattle.debug_core.specs.JudgeMeaning.{JudgeMeans}
use Rattle.debug_core.specs.MigrateMeaning.{MigrateMeans}
use Rattle.debug_core.specs.PrintMeaning.{PrintMeans}
use Rattle.debug_core.specs.ReplayMeaning.{ReplayMeans}
use Rattle.debug_core.specs.RequireMeaning.{RequireMeans}
use Rattle.debug_core.specs.RunMeaning.{RunMeans}
use Rattle.debug_core.specs.VariantsMeaning.{VariantsMeans}
use Rattle.debug_core.proofs.OneCollected.{one_collected, one_recorded}
use Rattle.debug_core.proofs.OneJudged.{one_judged}
use Rattle.debug_core.proofs.OneVaried.{one_varied, one_continued}
use Rattle.debug_core.proofs.OneRun.{one_under}
use Rattle.debug_core.proofs.OneStart.{one_refused_text, legal_or_not, same_program, same_numbers, legal_carries, one_refused_start, start_or_not, start_carries}
use Rattle.debug_core.proofs.OneText.{one_program, read_or_unreadable, one_unreadable_text}
use Rattle.debug_core.proofs.Originals.{text_is_upper, text_has_lists}
use Rattle.debug_core.proofs.ShortNumbers.{are_short}

one_printed : (text : List ℕ) (o q : Outcome) → PrintMeans text o → PrintMeans text q → o ≡ q
one_printed text o q (inl h) (inl k) = h.is ∙ ap (λ (p : PProgram). writes (program_text p) 0) (one_program text k.program h.program k.is_read h.is_read) ∙ sym k.is
one_printed text o q (inl h) (inr k) = absurd (read_or_unreadable text h.program q h.is_read k)
one_printed text o q (inr h) (inl k) = absurd (read_or_unreadable text k.program o k.is_read h)
one_printed text o q (inr h) (inr k) = one_unreadable_text text o q h k

one_checked : (text : List ℕ) (o q : Outcome) → CheckMeans text o → CheckMeans text q → o ≡ q
one_checked text o q (inl h) (inl k) =
    h.is
    ∙ ap (λ (p : PProgram). writes (check_text p.names h.numbers) 0) (same_program text Original h.program k.program h.types k.types h.numbers k.numbers h.is_legal k.is_legal)
    ∙ ap (λ (n : Numbering). writes (check_text k.program.names n) 0) (same_numbers text Original h.program k.program h.types k.types h.numbers k.numbers h.is_legal k.is_legal)
    ∙ sym k.is
one_checked text o q (inl h) (inr k) = absurd (legal_or_not text Original h.program h.types h.numbers q h.is_legal k)
one_checked text o q (inr h) (inl k) = absurd (legal_or_not text Original k.program k.types k.numbers o k.is_legal h)
one_checked text o q (inr h) (inr k) = one_refused_text text Original o q h k

one_ran : (text : List ℕ) (inputs : Option (List ℕ)) (choices : Given) (turns : ℕ) (o q : Outcome) → RunMeans text inputs choices turns o → RunMeans text inputs choices turns q → o ≡ q
one_ran text inputs choices turns o q (inl h) (inl k) =
    one_under k.setup k.numbers turns choices o q
    (start_carries text Any inputs h.setup k.setup h.numbers k.numbers h.is_start k.is_start (λ setup numbers. RunsUnder setup numbers choices turns o) h.runs) k.runs
one_ran text inputs choices turns o q (inl h) (inr k) = absurd (start_or_not text Any inputs h.setup h.numbers q h.is_start k)
one_ran text inputs choices turns o q (inr h) (inl k) = absurd (start_or_not text Any inputs k.setup k.numbers o k.is_start h)
one_ran text inputs choices turns o q (inr h) (inr k) = one_refused_start text Any inputs o q h k

one_verdict : (text : List ℕ) (inputs : Option (List ℕ)) (lines : List ℕ) (bound : ℕ) (o q : Outcome) → JudgeMeans text inputs lines bound o → JudgeMeans text inputs lines bound q → o ≡ q
one_verdict text inputs lines bound o q (inl h) (inl k) =
    one_judged k.setup k.numbers (read_is_placed text k.setup.program k.is_start.is_legal.is_read.reads) k.is_start.is_legal.legal lines bound o q
    (start_carries text Original inputs h.setup k.setup h.numbers k.numbers h.is_start k.is_start (λ setup numbers. SequenceMeans setup numbers lines bound o) h.judged) k.judged
one_verdict text inputs lines bound o q (inl h) (inr k) = absurd (start_or_not text Original inputs h.setup h.numbers q h.is_start k)
one_verdict text inputs lines bound o q (inr h) (inl k) = absurd (start_or_not text Original inputs k.setup k.numbers o k.is_start h)
one_verdict text inputs lines bound o q (inr h) (inr k) = one_refused_start text Original inputs o q h k

one_replayed : (text lines : List ℕ) (o q : Outcome) → ReplayMeans text lines o → ReplayMeans text lines q → o ≡ q
one_replayed text lines o q (inl h) (inl k) =
    one_replay k.program k.types k.numbers (are_short k.program k.types k.numbers Original k.is_legal.legal)
    (text_is_upper text k.program k.types k.numbers k.is_legal) (text_has_lists text k.program k.types k.numbers k.is_legal) lines o q
    (legal_carries text Original h.program k.program h.types k.types h.numbers k.numbers h.is_legal k.is_legal (λ p types numbers. ReplaysLines p types numbers lines o) h.replayed) k.replayed
one_replayed text lines o q (inl h) (inr k) = absurd (legal_or_not text Original h.program h.types h.numbers q h.is_legal k)
one_replayed text lines o q (inr h) (inl k) = absurd (legal_or_not text Original k.program k.types k.numbers o k.is_legal h)
one_replayed text lines o q (inr h) (inr k) = one_refused_text text Original o q h k

one_required : (text lines constraints : List ℕ) (o q : Outcome) → RequireMeans text lines constraints o → RequireMeans text lines constraints q → o ≡ q
one_required text lines constraints o q (inl h) (inl k) =
    one_require k.program.names k.numbers (are_short k.program k.types k.numbers Original k.is_legal.legal)
    (text_is_upper text k.program k.types k.numbers k.is_legal) (text_has_lists text k.program k.types k.numbers k.is_legal) lines constraints o q
    (legal_carries text Original h.program k.program h.types k.types h.numbers k.numbers h.is_legal k.is_legal (λ p types numbers. RequiresLines p.names numbers lines constraints o) h.required) k.required
one_required text lines constraints o q (inl h) (inr k) = absurd (legal_or_not text Original h.program h.types h.numbers q h.is_legal k)
one_required text lines constraints o q (inr h) (inl k) = absurd (legal_or_not text Original k.program k.types k.numbers o k.is_legal h)
one_required text lines constraints o q (inr h) (inr k) = one_refused_text text Original o q h k

one_migration : (text lines : List ℕ) (o q : Outcome) → MigrateMeans text lines o → MigrateMeans text lines q → o ≡ q
one_migration text lines o q (inl h) (inl k) =
    one_migrate k.program.names k.numbers (are_short k.program k.types k.numbers Original k.is_legal.legal)
    (text_is_upper text k.program k.types k.numbers k.is_legal) (text_has_lists text k.program k.types k.numbers k.is_legal) lines o q
    (legal_carries text Original h.program k.program h.types k.types h.numbers k.numbers h.is_legal k.is_legal (λ p types numbers. Migrates p.names numbers lines o) h.migrated) k.migrated
one_migration text lines o q (inl h) (inr k) = absurd (legal_or_not text Original h.program h.types h.numbers q h.is_legal k)
one_migration text lines o q (inr h) (inl k) = absurd (legal_or_not text Original k.program k.types k.numbers o k.is_legal h)
one_migration text lines o q (inr h) (inr k) = one_refused_text text Original o q h k

one_list : (text : List ℕ) (inputs : Option (List ℕ)) (lines : List ℕ) (bound : ℕ) (o q : Outcome) → VariantsMeans text inputs lines bound o → VariantsMeans text inputs lines bound q → o ≡ q
one_list text inputs lines bound o q (inl h) (inl k) =
    one_varied k.setup k.numbers (read_is_placed text k.setup.program k.is_start.is_legal.is_read.reads) k.is_start.is_legal.legal lines bound o q
    (start_carries text Original inputs h.setup k.setup h.numbers k.numbers h.is_start k.is_start (λ setup numbers. VariantsMean setup numbers lines bound o) h.varied) k.varied
one_list text inputs lines bound o q (inl h) (inr k) = absurd (start_or_not text Original inputs h.setup h.numbers q h.is_start k)
one_list text inputs lines bound o q (inr h) (inl k) = absurd (start_or_not text Original inputs k.setup k.numbers o k.is_start h)
one_list text inputs lines bound o q (inr h) (inr k) = one_refused_start text Original inputs o q h k

one_going_on : (text : List ℕ) (inputs : Option (List ℕ)) (lines : List ℕ) (choices : Given) (count bound : ℕ) (o q : Outcome) →
    ContinueMeans text inputs lines choices count bound o → ContinueMeans text inputs lines choices count bound q → o ≡ q
one_going_on text inputs lines choices count bound o q (inl h) (inl k) =
    one_continued k.setup k.numbers (read_is_placed text k.setup.program k.is_start.is_legal.is_read.reads) k.is_start.is_legal.legal lines count bound choices o q
    (start_carries text Original inputs h.setup k.setup h.numbers k.numbers h.is_start k.is_start (λ setup numbers. GoesOnUnder setup numbers lines choices count bound o) h.goes_on) k.goes_on
one_going_on text inputs lines choices count bound o q (inl h) (inr k) = absurd (start_or_not text Original inputs h.setup h.numbers q h.is_start k)
one_going_on text inputs lines choices count bound o q (inr h) (inl k) = absurd (start_or_not text Original inputs k.setup k.numbers o k.is_start h)
one_going_on text inputs lines choices count bound o q (inr h) (inr k) = one_refused_start text Original inputs o q h k

pub one_meant : (asked : Asked) (contents : List (List ℕ)) (o q : Outcome) → Means asked contents o → Means asked contents q → o ≡ q
one_meant (AsksPrint file) (text ∷ []) o q h k = one_printed text o q h k
one_meant (AsksCheck file) (text ∷ []) o q h k = one_checked text o q h k
one_meant (AsksRun file None NoChoices turns) (text ∷ []) o q h k = one_ran text None NothingGiven turns o q h k
one_meant (AsksRun file None (ChoicesIn name) turns) (text ∷ choices ∷ []) o q h k = one_ran text None (BytesGiven choices) turns o q h k
one_meant (AsksRun file None (ChoicesBy seed) turns) (text ∷ []) o q h k = one_ran text None (SeedGiven seed) turns o q h k
one_meant (AsksRun file (Some list) NoChoices turns) (text ∷ inputs ∷ []) o q h k = one_ran text (Some inputs) NothingGiven turns o q h k
one_meant (AsksRun file (Some list) (ChoicesIn name) turns) (text ∷ inputs ∷ choices ∷ []) o q h k = one_ran text (Some inputs) (BytesGiven choices) turns o q h k
one_meant (AsksRun file (Some list) (ChoicesBy seed) turns) (text ∷ inputs ∷ []) o q h k = one_ran text (Some inputs) (SeedGiven seed) turns o q h k
one_meant (AsksJudge file None sequence bound) (text ∷ lines ∷ []) o q h k = one_verdict text None lines bound o q h k
one_meant (AsksJudge file (Some list) sequence bound) (text ∷ inputs ∷ lines ∷ []) o q h k = one_verdict text (Some inputs) lines bound o q h k
one_meant (AsksReplay file sequence) (text ∷ lines ∷ []) o q h k = one_replayed text lines o q h k
one_meant (AsksRequire file sequence constraints) (text ∷ lines ∷ bytes ∷ []) o q h k = one_required text lines bytes o q h k
one_meant (AsksMigrate file sequence) (text ∷ lines ∷ []) o q h k = one_migration text lines o q h k
one_meant (AsksVariants file None sequence bound) (text ∷ lines ∷ []) o q h k = one_list text None lines bound o q h k
one_meant (AsksVariants file (Some list) sequence bound) (text ∷ inputs ∷ lines ∷ []) o q h k = one_list text (Some inputs) lines bound o q h k
one_meant (AsksContinue file None sequence NoChoices count bound) (text ∷ lines ∷ []) o q h k = one_going_on text None lines NothingGiven count bound o q h k
one_meant (AsksContinue file None sequence (ChoicesIn name) count bound) (text ∷ lines ∷ choices ∷ []) o q h k = one_going_on text None lines (BytesGiven choices) count bound o q h k
one_meant (AsksContinue file None sequence (ChoicesBy seed) count bound) (text ∷ lines ∷ []) o q h k = one_going_on text None lines (SeedGiven seed) count bound o q h k
one_meant (AsksContinue file (Some list) sequence NoChoices count bound) (text ∷ inputs ∷ lines ∷ []) o q h k = one_going_on text (Some inputs) lines NothingGiven count bound o q h k
one_meant (AsksContinue file (Some list) sequence (ChoicesIn name) count bound) (text ∷ inputs ∷ lines ∷ choices ∷ []) o q h k =
    one_going_on text (Some inputs) lines (BytesGiven choices) count bound o q h k
one_meant (AsksContinue file (Some list) sequence (ChoicesBy seed) count bound) (text ∷ inputs ∷ lines ∷ []) o q h k = one_going_on text (Some inputs) lines (SeedGiven seed) count bound o q h k
one_meant (AsksCollect file) (text ∷ []) o q h k = one_collected text o q h k
one_meant (AsksCollectRun file None NoChoices turns) (text ∷ []) o q h k = one_recorded text None NothingGiven turns o q h k
one_meant (AsksCollectRun file None (ChoicesIn name) turns) (text ∷ choices ∷ []) o q h k = one_recorded text None (BytesGiven choices) turns o q h k
one_meant (AsksCollectRun file None (ChoicesBy seed) turns) (text ∷ []) o q h k = one_recorded text None (SeedGiven seed) turns o q h k
one_meant (AsksCollectRun file (Some list) NoChoices turns) (text ∷ inputs ∷ []) o q h k = one_recorded text (Some inputs) NothingGiven turns o q h k
one_meant (AsksCollectRun file (Some list) (ChoicesIn name) turns) (text ∷ inputs ∷ choices ∷ []) o q h k = one_recorded text (Some inputs) (BytesGiven choices) turns o q h k
one_meant (AsksCollectRun file (Some list) (ChoicesBy seed) turns) (text ∷ inputs ∷ []) o q h k = one_recorded text (Some inputs) (SeedGiven seed) turns o q h k
one_meant (AsksLoad n) [] o q h k = one_loading n o q h k
one_meant asked contents o q h k = absurd h

-- The lines of a sequence call for one outcome where its variants are told, and where it goes on by choices.
use Rattle.std.specs.Prelude.{◌⊎◌}
use Rattle.std.proofs.Common.{◌≡◌, ℕ, true, List, ◌++◌, length, inl, inr, sym, ap₂, subst, ◌∙◌, arith}
use Rattle.ada_tree.specs.WellPlaced.{IsWellPlaced}
use Rattle.ded_io.specs.Stored.{first_choice, behind_choice}
use Rattle.ded_io.specs.seeds.Seeded.{seeded, word_of, behind_word}
use Rattle.event_machine.specs.declared.Event.{Event}
use Rattle.seq_file.specs.Files.{SeqText}
use Rattle.seq_file.specs.Lines.{is_upper_name}
use Rattle.seq_file.specs.Lists.{list_count}
use Rattle.seq_file.specs.Short.{IsShort}
use Rattle.seq_file.proofs.MainNames.{main_is_upper}
use Rattle.syn_event.specs.declared.numbering.Mode.TheVariants.{Original}
use Rattle.syn_event.specs.DeclaredTasks.{text_of}
use Rattle.syn_event.specs.Legal.{Legal}
use Rattle.syn_event.specs.Numbering.{Numbering}
use Rattle.task_model.specs.Machine.{ProgramWithInputs}
use Rattle.race_variant.specs.declared.continuing.GoEnd.{GoEnd}
use Rattle.race_variant.proofs.Continued.{one_goes_on}
use Rattle.debug_outcome.specs.files.Giving.{Given}
use Rattle.debug_outcome.specs.Outcomes.{Outcome, writes}
use Rattle.debug_collect.proofs.replays.OwnTasks.{lists_for_all}
use Rattle.debug_sequence.specs.Sequences.{ReadsAs}
use Rattle.debug_sequence.proofs.Sequences.{reads_as_unique, read_or_refused, one_refused}
use Rattle.debug_variants.specs.ContinueOutcomes.{CouldBeTooMany, FitsAndGoesOn, GoesOnFrom, IsContinuedText, ContinueMeans, end_status}
use Rattle.debug_variants.specs.VariantsOutcomes.{VariantsMean, VariantsOf}
use Rattle.debug_variants.proofs.OneOutcome.{one_variants_text}
use Rattle.debug_core.specs.ChoiceTexts.{Choosing, FromList, FromSeed}
use Rattle.debug_core.specs.ChosenEvents.{GoesOnBy, GoesOnUnder}
use Rattle.debug_core.proofs.OneJudged.{one_verdict_text}
use Rattle.debug_core.proofs.OneRun.{one_by_choices}
use Rattle.debug_core.proofs.ShortNumbers.{are_short}

-- ---- what is told of events

module _ (setup : ProgramWithInputs) (numbers : Numbering) (bound : ℕ) (events : List Event) where
  one_told : (o q : Outcome) → VariantsOf setup numbers bound events o → VariantsOf setup numbers bound events q → o ≡ q
  one_told o q (inl h) (inl k) = one_variants_text setup numbers bound events o q h k
  one_told o q (inl h) (inr k) = absurd (k.other h.feasible)
  one_told o q (inr h) (inl k) = absurd (h.other k.feasible)
  one_told o q (inr h) (inr k) = one_verdict_text setup numbers bound events o q h.judged k.judged

  module _ {C : Type 0} (word : C → ℕ) (next : C → C) (chooser : C) (count : ℕ) where
    one_continued_text : (o q : Outcome) → IsContinuedText word next setup numbers bound events chooser count o → IsContinuedText word next setup numbers bound events chooser count q → o ≡ q
    one_continued_text o q h k =
        let same = one_goes_on word next setup numbers bound events chooser count h.chosen k.chosen h.end k.end h.continued k.continued in
        h.is
        ∙ ap₂ (λ (chosen : List Event) (end : GoEnd). writes (SeqText setup.program.names numbers (events ++ chosen)) (end_status end)) same.0 same.1
        ∙ sym k.is

    one_going_on : (o q : Outcome) → GoesOnFrom word next setup numbers bound events chooser count o →
        GoesOnFrom word next setup numbers bound events chooser count q → o ≡ q
    one_going_on o q (inl h) (inl k) = one_continued_text o q h k
    one_going_on o q (inl h) (inr k) = absurd (k.other h.feasible)
    one_going_on o q (inr h) (inl k) = absurd (h.other k.feasible)
    one_going_on o q (inr h) (inr k) = one_verdict_text setup numbers bound events o q h.judged k.judged

    one_within : (o q : Outcome) → CouldBeTooMany events count o ⊎ FitsAndGoesOn word next setup numbers bound events chooser count o →
        CouldBeTooMany events count q ⊎ FitsAndGoesOn word next setup numbers bound events chooser count q → o ≡ q
    one_within o q (inl h) (inl k) = h.told ∙ sym k.told
    one_within o q (inl h) (inr k) = absurd (omega (arith, h.many, k.few))
    one_within o q (inr h) (inl k) = absurd (omega (arith, h.few, k.many))
    one_within o q (inr h) (inr k) = one_going_on o q h.told k.told

-- ---- of a legal program that was read

module _ (setup : ProgramWithInputs) (numbers : Numbering) (placed : IsWellPlaced setup.program) (legal : Legal setup.program setup.types numbers Original) (lines : List ℕ) where
  short : IsShort numbers
  short = are_short setup.program setup.types numbers Original legal

  upper : is_upper_name (text_of setup.program.names numbers.main) ≡ true
  upper = main_is_upper setup.program setup.types numbers Original placed legal

  lists : length numbers.tasks ≡ list_count numbers
  lists = lists_for_all setup.program setup.types numbers placed legal

  same : (events others : List Event) → ReadsAs lines numbers setup.program.names events → ReadsAs lines numbers setup.program.names others → events ≡ others
  same events others h k = reads_as_unique setup.program.names numbers short upper lists lines events others h k

  pub one_varied : (bound : ℕ) (o q : Outcome) → VariantsMean setup numbers lines bound o → VariantsMean setup numbers lines bound q → o ≡ q
  one_varied bound o q (inl h) (inl k) =
      one_told setup numbers bound k.events o q
      (subst (λ (es : List Event). VariantsOf setup numbers bound es o) (same h.events k.events h.reads k.reads) h.told) k.told
  one_varied bound o q (inl h) (inr k) = absurd (read_or_refused setup.program.names numbers short upper lists lines h.events q h.reads k)
  one_varied bound o q (inr h) (inl k) = absurd (read_or_refused setup.program.names numbers short upper lists lines k.events o k.reads h)
  one_varied bound o q (inr h) (inr k) = one_refused setup.program.names numbers short upper lists lines o q h k

  module _ (count bound : ℕ) where
    one_by : {C : Type 0} (word : C → ℕ) (next : C → C) (chooser : C) (o q : Outcome) → ContinueMeans word next setup numbers lines chooser count bound o → ContinueMeans word next setup numbers lines chooser count bound q → o ≡ q
    one_by word next chooser o q (inl h) (inl k) =
        one_within setup numbers bound k.events word next chooser count o q
        (subst (λ (es : List Event). CouldBeTooMany es count o ⊎ FitsAndGoesOn word next setup numbers bound es chooser count o) (same h.events k.events h.reads k.reads) h.told) k.told
    one_by word next chooser o q (inl h) (inr k) = absurd (read_or_refused setup.program.names numbers short upper lists lines h.events q h.reads k)
    one_by word next chooser o q (inr h) (inl k) = absurd (read_or_refused setup.program.names numbers short upper lists lines k.events o k.reads h)
    one_by word next chooser o q (inr h) (inr k) = one_refused setup.program.names numbers short upper lists lines o q h k

    one_chosen : (x : Choosing) (o q : Outcome) → GoesOnBy setup numbers lines count bound x o → GoesOnBy setup numbers lines count bound x q → o ≡ q
    one_chosen (FromList choices) o q h k = one_by first_choice behind_choice choices o q h k
    one_chosen (FromSeed seed) o q h k = one_by word_of behind_word (seeded seed) o q h k

    pub one_continued : (given : Given) (o q : Outcome) → GoesOnUnder setup numbers lines given count bound o → GoesOnUnder setup numbers lines given count bound q → o ≡ q
    one_continued given o q h k = one_by_choices (GoesOnBy setup numbers lines count bound) one_chosen given o q h k

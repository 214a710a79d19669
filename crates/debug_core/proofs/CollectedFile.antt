-- The promise of collecting in one statement.
use Rattle.std.proofs.Common.{◌≡◌, ℕ, List, [], ◌∷◌, ◌++◌, Option, inl, inr, refl, sym, ap, ◌∙◌, subst}
use Rattle.common_lemmas.proofs.Lists.{append_last}
use Rattle.event_machine.specs.declared.Event.{Event}
use Rattle.event_machine.specs.Settling.{Leads}
use Rattle.event_machine.proofs.Walking.{leads_split}
use Rattle.syn_event.specs.declared.numbering.Mode.TheVariants.{Original}
use Rattle.syn_event.specs.Numbering.{Numbering}
use Rattle.seq_file.specs.Files.{SeqReads}
use Rattle.task_model.specs.Machine.{ProgramWithInputs}
use Rattle.task_model.specs.Laws.{program_in, first_world}
use Rattle.task_model.proofs.Following.{feasible_exactly}
use Rattle.task_machine.specs.declared.verdict.Verdict.{Verdict}
use Rattle.task_machine.specs.declared.verdict.Verdict.TheVariants.{Feasible, Infeasible, Unsettled}
use Rattle.task_machine.specs.Judging.{VerdictIs}
use Rattle.task_machine.specs.Views.{IsFeasible}
use Rattle.debug_sequence.proofs.Sequences.{reads_as_unique, read_or_refused}
use Rattle.debug_judge.specs.JudgeOutcomes.{IsVerdictText, SequenceMeans}
use Rattle.debug_collect.specs.Recorded.{IsRecorded}
use Rattle.debug_outcome.specs.files.Giving.{Given, NothingGiven, BytesGiven, SeedGiven}
use Rattle.debug_outcome.specs.Outcomes.{Outcome, writes}
use Rattle.debug_core.specs.ChoiceTexts.{Choosing, FromList, FromSeed, AreBadChoices}
use Rattle.debug_core.specs.CollectRunMeaning.{RecordsBy, RecordsUnder}
use Rattle.debug_core.specs.CollectedHeadline.{RefusesNone, IsCleared, IsCollectedFile, CollectedHeadline}
use Rattle.debug_core.specs.Headline.{HasWritten}
use Rattle.debug_core.specs.JudgeMeaning.{JudgeMeans}
use Rattle.debug_core.specs.Starts.{IsStart}
use Rattle.debug_core.proofs.OneStart.{start_or_not, start_carries}
use Rattle.debug_core.proofs.Originals.{text_is_upper, text_has_lists}
use Rattle.debug_core.proofs.Promised.{told, no-start}
use Rattle.debug_core.proofs.ShortNumbers.{are_short}

no-choices : (given : Given) (o : Outcome) → HasWritten o → AreBadChoices given o → ⊥
no-choices NothingGiven o w h = h
no-choices (BytesGiven bytes) o w h = told o _ w h.told
no-choices (SeedGiven seed) o w h = h

-- ---- no verdict of feasible events names an infeasible one

module _ (setup : ProgramWithInputs) (numbers : Numbering) (events : List Event) (feasible : IsFeasible setup numbers events) where
  -- each front is feasible
  front_feasible : (before rest : List Event) (e : Event) → events ≡ before ++ e ∷ rest → IsFeasible setup numbers (before ++ e ∷ [])
  front_feasible before rest e splits =
      let (last, leads) = (feasible_exactly setup numbers events).0 feasible in
      let whole : Leads (program_in setup numbers) (first_world setup numbers) ((before ++ e ∷ []) ++ rest) last =
      subst (λ es. Leads (program_in setup numbers) (first_world setup numbers) es last) (splits ∙ sym (append_last before e rest)) leads in
      let (w, reached, more) = leads_split (program_in setup numbers) (before ++ e ∷ []) rest (first_world setup numbers) last whole in
      (feasible_exactly setup numbers (before ++ e ∷ [])).1 (w, reached)

  refuses_none : (bound : ℕ) (verdict : Verdict) → VerdictIs setup numbers bound events verdict → RefusesNone verdict
  refuses_none bound Feasible h = tt
  refuses_none bound (Infeasible at why) h = h.infeasible (front_feasible h.before h.reached.rest h.event h.reached.splits)
  refuses_none bound (Unsettled at task) h = tt

  cleared : (bound : ℕ) (o : Outcome) → IsVerdictText setup numbers bound events o → IsCleared setup numbers bound events o
  cleared bound o h = record { judged = h; refuses_none = refuses_none bound h.verdict h.verdict_is }

-- ---- the judgement of a file that is read as these events

module _ (text : List ℕ) (inputs : Option (List ℕ)) (setup : ProgramWithInputs) (numbers : Numbering) (start : IsStart text Original inputs setup numbers) (events : List Event) (feasible : IsFeasible setup numbers events)
    (file : List ℕ) (reads : SeqReads file numbers setup.program.names events) (bound : ℕ) (o : Outcome) where
  by_sequence : SequenceMeans setup numbers file bound o → IsCleared setup numbers bound events o
  by_sequence (inl v) =
      cleared setup numbers events feasible bound o
      (subst (λ es. IsVerdictText setup numbers bound es o)
      (reads_as_unique setup.program.names numbers (are_short setup.program setup.types numbers Original start.is_legal.legal) (text_is_upper text setup.program setup.types numbers start.is_legal)
      (text_has_lists text setup.program setup.types numbers start.is_legal) file v.events events v.reads (inl reads)) v.judged)
  by_sequence (inr none) =
      absurd (read_or_refused setup.program.names numbers (are_short setup.program setup.types numbers Original start.is_legal.legal) (text_is_upper text setup.program setup.types numbers start.is_legal)
      (text_has_lists text setup.program setup.types numbers start.is_legal) file events o (inl reads) none)

  by_judging : JudgeMeans text inputs file bound o → IsCleared setup numbers bound events o
  by_judging (inl j) = by_sequence (start_carries text Original inputs j.setup setup j.numbers numbers j.is_start start (λ s n. SequenceMeans s n file bound o) j.judged)
  by_judging (inr none) = absurd (start_or_not text Original inputs setup numbers o start none)

-- ---- the file

module _ (text : List ℕ) (inputs : Option (List ℕ)) (file : List ℕ) (status : ℕ) (setup : ProgramWithInputs) (numbers : Numbering) (start : IsStart text Original inputs setup numbers) where
  written : HasWritten (writes file status)
  written = (file, status, refl)

  of-recorded : {C : Type 0} (word : C → ℕ) (next : C → C) (choices : C) (turns : ℕ) → IsRecorded word next setup.program setup.types numbers setup.inputs choices turns (writes file status) → IsCollectedFile text inputs file
  of-recorded word next choices turns k =
      let same : file ≡ _ = ap (λ (q : Outcome). q.out) k.is in
      record {
        setup = setup;
        numbers = numbers;
        is_start = start;
        events = k.events;
        feasible = k.recorded.feasible;
        is_text = same ∙ k.recorded.file;
        judged = λ few bound o h. by_judging text inputs setup numbers start k.events k.recorded.feasible file
            (subst (λ bytes. SeqReads bytes numbers setup.program.names k.events) (sym same) (k.recorded.reads few)) bound o h;
      }

  of-choices : (turns : ℕ) (x : Choosing) → RecordsBy setup numbers turns x (writes file status) → IsCollectedFile text inputs file
  of-choices turns (FromList choices) h = of-recorded _ _ _ turns h
  of-choices turns (FromSeed seed) h = of-recorded _ _ _ turns h

  of-given : (choices : Given) (turns : ℕ) → RecordsUnder setup numbers choices turns (writes file status) → IsCollectedFile text inputs file
  of-given choices turns (inl k) = of-choices turns k.choosing k.called
  of-given choices turns (inr bad) = absurd (no-choices choices (writes file status) written bad)

pub collected_headline : CollectedHeadline
collected_headline text inputs choices turns file status (inl h) = of-given text inputs file status h.setup h.numbers h.is_start choices turns h.recorded
collected_headline text inputs choices turns file status (inr none) = absurd (no-start text inputs (writes file status) (file, status, refl) none)

-- The promise in one statement: judging and replaying the same files.
use Rattle.std.proofs.Common.{◌≡◌, ℕ, ℤ, List, length, Option, Some, None, inl, inr, sym, ap, ◌∙◌, subst}
use Rattle.ada_tree.specs.PlainProgram.{PProgram}
use Rattle.ada_tree.specs.Same.{Same}
use Rattle.ada_tree.specs.TypeTable.{TypeTable}
use Rattle.ada_parser.specs.Reads.{Reads}
use Rattle.ada_printer.specs.ProgramText.{program_text}
use Rattle.ada_static_rules.specs.Refusals.{types_in}
use Rattle.event_machine.specs.declared.Event.{Event}
use Rattle.syn_event.specs.declared.numbering.Mode.TheVariants.{Original}
use Rattle.syn_event.specs.AllNumbers.{all_numbers}
use Rattle.syn_event.specs.Numbering.{Numbering}
use Rattle.syn_event.specs.Origin.{back_of}
use Rattle.seq_file.specs.Files as file
use Rattle.debug_sequence.specs.Sequences.{IsRefusedSequence}
use Rattle.debug_sequence.proofs.Sequences.{reads_as_unique}
use Rattle.task_model.specs.Machine.{ProgramWithInputs}
use Rattle.normal_laws.specs.runs.runs.Laws.{opened}
use Rattle.normal_laws.specs.runs.forms.Normalisable.{numbers_of}
use Rattle.replay_model.specs.Promised.{IsReplayText}
use Rattle.replay_model.specs.ReplayTree.{most_events}
use Rattle.replay_runs.specs.controls.replayed.Replaying.{AgreeBelow, Replays, ReplaysProgram, starting}
use Rattle.debug_judge.specs.JudgeOutcomes.{IsVerdictOfSequence, SequenceMeans}
use Rattle.debug_collect.specs.replays.ReplayOutcomes.{IsReplayWritten, PassesLimit, ReplaysLines}
use Rattle.debug_outcome.specs.Coming.{IsRefusal}
use Rattle.debug_outcome.specs.Outcomes.{Outcome, refuses}
use Rattle.debug_outcome.specs.declared.refusal.Listed.TheVariants.{Events}
use Rattle.debug_outcome.specs.declared.refusal.Refusal.{Refusal}
use Rattle.debug_outcome.specs.declared.refusal.Refusal.TheVariants.{LongText, NoOrder, TooMany}
use Rattle.debug_outcome.specs.files.Wanting.{text_limit}
use Rattle.debug_outcome.proofs.Comings.{line_is_some}
use Rattle.debug_core.specs.Headline.{Headline, HasWritten, IsPromised, KeepsToVerdict}
use Rattle.debug_core.specs.InputTexts.{AreBadInputs}
use Rattle.debug_core.specs.JudgeMeaning.{IsJudgedFromStart}
use Rattle.debug_core.specs.LegalTexts.{IsRefusedText}
use Rattle.debug_core.specs.Starts.{IsRefusedStart}
use Rattle.debug_core.proofs.Following.{keeps_to}
use Rattle.debug_core.proofs.OneStart.{legal_carries}
use Rattle.debug_core.proofs.Originals.{text_is_upper, text_has_lists}
use Rattle.debug_core.proofs.ReadingBack.{only_text}
use Rattle.debug_core.proofs.ShortNumbers.{are_short}

-- ---- what has written was not refused

pub refused : (o : Outcome) (refusal : Refusal) → HasWritten o → o ≡ refuses refusal → ⊥
refused o refusal (text, status, is) e = line_is_some refusal (sym (ap (λ (q : Outcome). q.err) (sym is ∙ e)))

pub told : (o : Outcome) (r : Option Refusal) → HasWritten o → IsRefusal r o → ⊥
told o (Some refusal) w h = refused o refusal w h
told o None w h = h

no-text : (text : List ℕ) (o : Outcome) → HasWritten o → IsRefusedText text Original o → ⊥
no-text text o w (inl h) = told o _ w h.told
no-text text o w (inr h) = told o _ w h.illegal.told

no-inputs : (numbers : Numbering) (inputs : Option (List ℕ)) (o : Outcome) → HasWritten o → AreBadInputs numbers inputs o → ⊥
no-inputs numbers None o w h = h
no-inputs numbers (Some bytes) o w h = told o _ w h.told

pub no-start : (text : List ℕ) (inputs : Option (List ℕ)) (o : Outcome) → HasWritten o → IsRefusedStart text Original inputs o → ⊥
no-start text inputs o w (inl h) = no-text text o w h
no-start text inputs o w (inr h) = no-inputs h.numbers inputs o w h.are_bad

no-sequence : (names : List (List ℕ)) (numbers : Numbering) (lines : List ℕ) (o : Outcome) → HasWritten o → IsRefusedSequence names numbers lines o → ⊥
no-sequence names numbers lines o w (inl h) = told o _ w h.1.told
no-sequence names numbers lines o w (inr (is, inl h)) = told o _ w h.told
no-sequence names numbers lines o w (inr (is, inr h)) = elim h.refused [
  | inl none ↦ refused o (NoOrder none.task) w none.told
  | inr many ↦ refused o (TooMany Events file.most_events) w many.told
]

no-limit : (p : PProgram) (types : TypeTable) (numbers : Numbering) (events : List Event) (o : Outcome) → HasWritten o → PassesLimit p types numbers events o → ⊥
no-limit p types numbers events o w (inl h) = refused o (TooMany Events most_events) w h.1
no-limit p types numbers events o w (inr h) = refused o (LongText text_limit) w h.2

written : (p : PProgram) (types : TypeTable) (numbers : Numbering) (lines : List ℕ) (o : Outcome) → HasWritten o → ReplaysLines p types numbers lines o → IsReplayWritten p types numbers lines o
written p types numbers lines o w (inl h) = h
written p types numbers lines o w (inr (inl h)) = absurd (no-limit p types numbers h.events o w h.limit)
written p types numbers lines o w (inr (inr h)) = absurd (no-sequence p.names numbers lines o w h)

judged : (setup : ProgramWithInputs) (numbers : Numbering) (lines : List ℕ) (bound : ℕ) (o : Outcome) → HasWritten o → SequenceMeans setup numbers lines bound o → IsVerdictOfSequence setup numbers lines bound o
judged setup numbers lines bound o w (inl h) = h
judged setup numbers lines bound o w (inr h) = absurd (no-sequence setup.program.names numbers lines o w h)

-- ---- both calls

module _ (text : List ℕ) (inputs : Option (List ℕ)) (lines : List ℕ) (bound : ℕ) (j r : Outcome) (h : IsJudgedFromStart text inputs lines bound j) where
  abbrev p : PProgram
  p = h.setup.program

  -- the program as it starts with its own types and numbers
  own : h.setup ≡ record { program = p; types = types_in p; inputs = h.setup.inputs }
  own = ap (λ (t : TypeTable). record { program = p; types = t; inputs = h.setup.inputs }) h.is_start.is_legal.legal.its_types

  own-numbers : h.numbers ≡ numbers_of p
  own-numbers = h.is_start.is_legal.legal.its_numbers ∙ ap (λ (t : TypeTable). all_numbers t p) h.is_start.is_legal.legal.its_types

  starts : starting p h.setup.inputs ≡ opened h.setup h.numbers
  starts = sym (ap (λ (s : ProgramWithInputs). opened s h.numbers) own ∙ ap (λ (n : Numbering). opened (record { program = p; types = types_in p; inputs = h.setup.inputs }) n) own-numbers)

  promised : IsVerdictOfSequence h.setup h.numbers lines bound j → IsReplayWritten p h.setup.types h.numbers lines r → IsPromised text inputs lines bound j r
  promised v w = record {
    setup = h.setup;
    numbers = h.numbers;
    is_start = h.is_start;
    events = v.events;
    reads = v.reads;
    verdict = v.judged.verdict;
    verdict_is = v.judged.verdict_is;
    views = v.judged.views;
    seen = v.judged.seen;
    told = v.judged.is;
    replay = w.text;
    is_text = subst (λ (events : List Event). IsReplayText p h.setup.types h.numbers events w.text) same_events w.is_text;
    read_back = w.read_back;
    written = w.is;
    keeps = kept w.text w.replays;
    read_keeps = λ again read. kept again (w.read_replays again read (same_read again read));
  }
    where
      -- what is read from the text is the same program, since one alone is read from it
      same_read : (again : PProgram) → Reads (program_text w.text) again → Same w.text again
      same_read again read =
          subst (λ (x : PProgram). Same w.text x) ((only_text (program_text w.text) again read).no_other w.read_back.0 w.read_back.1) w.read_back.2

      same_events : w.events ≡ v.events
      same_events =
          reads_as_unique p.names h.numbers (are_short p h.setup.types h.numbers Original h.is_start.is_legal.legal)
          (text_is_upper text p h.setup.types h.numbers h.is_start.is_legal) (text_has_lists text p h.setup.types h.numbers h.is_start.is_legal) lines w.events v.events w.reads v.reads

      both : (q : PProgram) → ReplaysProgram p q w.events → (others : List (List ℤ)) → AgreeBelow (length h.numbers.tasks) h.setup.inputs others →
          Replays v.events (opened h.setup h.numbers) (starting q others) (back_of (numbers_of q))
      both q replays others agree =
          subst (λ s. Replays s (opened h.setup h.numbers) (starting q others) (back_of (numbers_of q))) same_events
          (subst (λ o. Replays w.events o (starting q others) (back_of (numbers_of q))) starts
          (replays h.setup.inputs others (subst (λ (n : Numbering). AgreeBelow (length n.tasks) h.setup.inputs others) own-numbers agree)))

      kept : (q : PProgram) → ReplaysProgram p q w.events → KeepsToVerdict h.setup h.numbers v.events v.judged.verdict q
      kept q replays = record {
        replays = both q replays;
        keeps = λ others agree. keeps_to h.setup h.numbers bound v.events (starting q others) (back_of (numbers_of q)) (both q replays others agree) v.judged.verdict v.judged.verdict_is;
      }

pub headline : Headline
headline text inputs lines bound j r (inr h) m wj wr = absurd (no-start text inputs j wj h)
headline text inputs lines bound j r (inl h) (inr m) wj wr = absurd (no-text text r wr m)
headline text inputs lines bound j r (inl h) (inl m) wj wr =
    promised text inputs lines bound j r h (judged h.setup h.numbers lines bound j wj h.judged)
    (legal_carries text Original m.program h.setup.program m.types h.setup.types m.numbers h.numbers m.is_legal h.is_start.is_legal (λ p types numbers. IsReplayWritten p types numbers lines r) (written m.program m.types m.numbers lines r wr m.replayed))

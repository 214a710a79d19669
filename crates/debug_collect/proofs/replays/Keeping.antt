-- The text that is written replays the sequence, and else a limit is passed.
use Rattle.std.proofs.Common.{◌≡◌, ◌<◌, ◌≤◌, ◌+◌, ◌^◌, ℕ, Bool, true, false, nat_lt, List, length, inl, inr, refl, sym, ap, ◌∙◌, subst, arith}
use Rattle.common_lemmas.proofs.Numbers.{lt_is}
use Rattle.ada_tree.specs.NameList.{predefined}
use Rattle.ada_tree.specs.PlainProgram.{PProgram}
use Rattle.ada_tree.specs.TypeTable.{TypeTable}
use Rattle.ada_static_rules.specs.Refusals.{types_in}
use Rattle.ada_printer.specs.ProgramText.{program_text}
use Rattle.event_machine.specs.declared.Event.{Event}
use Rattle.syn_event.specs.declared.numbering.Mode.TheVariants.{Original}
use Rattle.syn_event.specs.AllNumbers.{all_numbers}
use Rattle.syn_event.specs.Legal.{Legal}
use Rattle.syn_event.specs.Numbering.{Numbering}
use Rattle.seq_file.specs.Files.{AreFit}
use Rattle.normal_laws.specs.runs.forms.Normalisable.{numbers_of}
use Rattle.normal_laws.specs.existence.Laws.{IsLegalOriginal}
use Rattle.read_back.proofs.Whole.{read_back}
use Rattle.replay_structure.specs.legal.known.Laws.{AreKnown}
use Rattle.replay_structure.proofs.legal.names.Legal.{replay_is_as_promised}
use Rattle.replay_model.specs.Promised.{IsReplayText}
use Rattle.replay_model.specs.ReplayTree.{most_events, replay_tree, replayed}
use Rattle.replay_runs.specs.controls.replayed.Replaying.{ReplaysProgram}
use Rattle.replay_runs.proofs.controls.replayed.Whole.{legal_texts_replay}
use Rattle.replay_runs.proofs.same.Replaying.{read_text_replays}
use Rattle.text_laws.proofs.sizes.Read.{read_has_names}
use Rattle.debug_outcome.specs.files.Wanting.{text_limit}
use Rattle.debug_outcome.specs.Outcomes.{Outcome}
use Rattle.debug_sequence.specs.Sequences.{ReadsAs}
use Rattle.debug_sequence.proofs.Sequences.{reads_fit}
use Rattle.debug_outcome.specs.Printing.{printed_outcome}
use Rattle.debug_outcome.proofs.Lengths.{long_by_length, short_by_length}
use Rattle.debug_collect.specs.replays.inner.Printing.{replay_outcome, ComeTo}
use Rattle.debug_collect.specs.replays.ReplayOutcomes.{ReplaysLines}
use Rattle.debug_collect.proofs.replays.OwnTasks.{lists_for_all}
use Rattle.debug_collect.proofs.replays.TextOutcomes.{outcome_within, outcome_beyond}
use Rattle.replay_structure.proofs.spots.Sorted.{not-less as at_most}

-- the names of a text within the limit of a program have ids
within_names : (n : ℕ) → n ≤ text_limit → length predefined + n ≤ 2 ^ 32
within_names n short = omega (arith, short)

-- What is so of a replay text, with the types and numbers that were found.
record Holds (p : PProgram) (events : List Event) (types : TypeTable) (numbers : Numbering) : Type 0 where
  is_text : IsReplayText p types numbers events (replay_tree p types numbers events)
  replays : ReplaysProgram p (replay_tree p types numbers events) events

module _ (p : PProgram) (legal : IsLegalOriginal p) (lines : List ℕ) where
  known : {events : List Event} → AreFit (numbers_of p) events → AreKnown p events
  known fit = record { each = fit.known; few = fit.few }

  holds_own : (events : List Event) → AreFit (numbers_of p) events → Holds p events (types_in p) (numbers_of p)
  holds_own events fit = record { is_text = replay_is_as_promised p events legal (known fit); replays = legal_texts_replay p events legal (known fit) }

  holds : (types : TypeTable) (numbers : Numbering) → Legal p types numbers Original → (events : List Event) → AreFit numbers events → Holds p events types numbers
  holds types numbers own =
      let n : numbers ≡ numbers_of p = own.its_numbers ∙ ap (λ (t : TypeTable). all_numbers t p) own.its_types in
      subst (λ t. (events : List Event) → AreFit numbers events → Holds p events t numbers) (sym own.its_types)
      (subst (λ m. (events : List Event) → AreFit m events → Holds p events (types_in p) m) (sym n) holds_own)

  module _ (types : TypeTable) (numbers : Numbering) (own : Legal p types numbers Original) where
    fit : (events : List Event) → ReadsAs lines numbers p.names events → AreFit numbers events
    fit events reads =
        reads_fit p.names numbers lines events (lists_for_all p types numbers legal.placed own) reads

    printed : (events : List Event) (o : Outcome) → ReadsAs lines numbers p.names events → length events ≤ most_events → (b : Bool) →
        nat_lt text_limit (length (program_text (replay_tree p types numbers events))) ≡ b → o ≡ printed_outcome (replay_tree p types numbers events) → ReplaysLines p types numbers lines o
    printed events o reads few true h is =
        let more : text_limit < length (program_text (replay_tree p types numbers events)) = lt_is text_limit (length (program_text (replay_tree p types numbers events))) h in
        inr (inl (record { events = events; reads = reads; limit = inr (few, more, is ∙ sym (long_by_length (replay_tree p types numbers events) more)) }))
    printed events o reads few false h is =
        let k : Holds p events types numbers = holds types numbers own events (fit events reads) in
        let short : length (program_text (replay_tree p types numbers events)) ≤ text_limit = at_most text_limit (length (program_text (replay_tree p types numbers events))) h in
        inl (record {
          events = events;
          reads = reads;
          text = replay_tree p types numbers events;
          is_text = k.is_text;
          read_back = read_back (replay_tree p types numbers events) k.is_text.placed;
          replays = k.replays;
          read_replays = λ again read same. read_text_replays p types numbers events (replay_tree p types numbers events) again legal.names k.is_text
              (read_has_names (program_text (replay_tree p types numbers events)) again read (within_names _ short)) same k.replays;
          few = few;
          short = short;
          is = is ∙ sym (short_by_length (replay_tree p types numbers events) short);
        })

    within : (events : List Event) (o : Outcome) → ReadsAs lines numbers p.names events → (b : Bool) → nat_lt most_events (length events) ≡ b → o ≡ replay_outcome (replayed p types numbers events) → ReplaysLines p types numbers lines o
    within events o reads true h is =
        let more : most_events < length events = lt_is most_events (length events) h in
        inr (inl (record { events = events; reads = reads; limit = inl (more, is ∙ outcome_beyond p types numbers events more) }))
    within events o reads false h is =
        let few : length events ≤ most_events = at_most most_events (length events) h in
        printed events o reads few _ refl (is ∙ outcome_within p types numbers events few)

    -- an outcome that the code comes to is one for which the lines call
    pub called : (o : Outcome) → ComeTo p types numbers lines o → ReplaysLines p types numbers lines o
    called o (inl h) = within h.events o h.reads _ refl h.is
    called o (inr h) = inr (inr h)

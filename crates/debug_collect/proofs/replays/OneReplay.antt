-- The lines of a sequence call for one outcome of replaying.
use Rattle.std.proofs.Common.{◌≡◌, true, ℕ, List, length, Ok, inl, inr, sym, ap, ◌∙◌}
use Rattle.ada_tree.specs.PlainProgram.{PProgram}
use Rattle.ada_tree.specs.TypeTable.{TypeTable}
use Rattle.event_machine.specs.declared.Event.{Event}
use Rattle.syn_event.specs.Numbering.{Numbering}
use Rattle.syn_event.specs.DeclaredTasks.{text_of}
use Rattle.seq_file.specs.Lines.{is_upper_name}
use Rattle.seq_file.specs.Lists.{list_count}
use Rattle.seq_file.specs.Short.{IsShort}
use Rattle.replay_model.specs.ReplayTree.{replay_tree, replayed}
use Rattle.debug_outcome.specs.Outcomes.{Outcome}
use Rattle.debug_outcome.proofs.Lengths.{long_by_length, short_by_length}
use Rattle.debug_sequence.proofs.Sequences.{reads_as_unique, read_or_refused, one_refused}
use Rattle.debug_collect.specs.replays.inner.Printing.{replay_outcome, ComeTo}
use Rattle.debug_collect.specs.replays.ReplayOutcomes.{IsReplayWritten, PassesLimit, ReplaysLines}
use Rattle.debug_collect.proofs.replays.TextOutcomes.{outcome_within, outcome_beyond}

module _ (p : PProgram) (types : TypeTable) (numbers : Numbering) (lines : List ℕ) where
  within : (o : Outcome) → IsReplayWritten p types numbers lines o → ComeTo p types numbers lines o
  within o h =
      inl (record {
        events = h.events;
        reads = h.reads;
        is = h.is ∙ short_by_length h.text h.short ∙ ap (λ (t : PProgram). replay_outcome (Ok t)) h.is_text.text ∙ sym (outcome_within p types numbers h.events h.few);
      })

  beyond : (events : List Event) (o : Outcome) → PassesLimit p types numbers events o → o ≡ replay_outcome (replayed p types numbers events)
  beyond events o (inl h) = h.1 ∙ sym (outcome_beyond p types numbers events h.0)
  beyond events o (inr h) = h.2 ∙ long_by_length (replay_tree p types numbers events) h.1 ∙ sym (outcome_within p types numbers events h.0)

  -- an outcome for which the lines call is one that the code comes to
  come_to : (o : Outcome) → ReplaysLines p types numbers lines o → ComeTo p types numbers lines o
  come_to o (inl h) = within o h
  come_to o (inr (inl h)) = inl (record { events = h.events; reads = h.reads; is = beyond h.events o h.limit })
  come_to o (inr (inr h)) = inr h

module _ (p : PProgram) (types : TypeTable) (numbers : Numbering) (short : IsShort numbers) (upper : is_upper_name (text_of p.names numbers.main) ≡ true) (tasks : length numbers.tasks ≡ list_count numbers)
    (lines : List ℕ) where
  one_come : (o q : Outcome) → ComeTo p types numbers lines o → ComeTo p types numbers lines q → o ≡ q
  one_come o q (inl h) (inl k) =
      let same : h.events ≡ k.events = reads_as_unique p.names numbers short upper tasks lines h.events k.events h.reads k.reads in
      h.is ∙ ap (λ (events : List Event). replay_outcome (replayed p types numbers events)) same ∙ sym k.is
  one_come o q (inl h) (inr k) = absurd (read_or_refused p.names numbers short upper tasks lines h.events q h.reads k)
  one_come o q (inr h) (inl k) = absurd (read_or_refused p.names numbers short upper tasks lines k.events o k.reads h)
  one_come o q (inr h) (inr k) = one_refused p.names numbers short upper tasks lines o q h k

  pub one_replay : (o q : Outcome) → ReplaysLines p types numbers lines o → ReplaysLines p types numbers lines q → o ≡ q
  one_replay o q h k = one_come o q (come_to p types numbers lines o h) (come_to p types numbers lines q k)

-- The events that the file of the run is read as are those that were recorded, or these are more than a file may have.
use Rattle.std.proofs.Common.{◌≡◌, ◌≢◌, ◌<◌, ◌≤◌, ℕ, Bool, true, false, nat_lt, List, length, map, inr, lit<, refl, sym, subst, arith}
use Rattle.std.proofs.lemmas.List.FromFn.{length-map-range_with_len}
use Rattle.common_lemmas.proofs.Numbers.{lt_is}
use Rattle.event_machine.specs.declared.Event.{Event}
use Rattle.syn_event.specs.DeclaredTasks.{text_of}
use Rattle.seq_file.specs.declared.errors.SeqError.{SeqError}
use Rattle.seq_file.specs.declared.errors.SeqError.TheVariants as error
use Rattle.seq_file.specs.Files.{HasFirstFault, SeqReads, most_events}
use Rattle.seq_file.specs.Lines.{is_upper_name}
use Rattle.seq_file.specs.Short.{IsShort}
use Rattle.seq_file.proofs.Filing.{fault-unique, reads-no_fault, reads-unique}
use Rattle.load_gen.specs.LoadTree.{load_names, most_producers, producer_id, producers}
use Rattle.load_gen.specs.LoadNumbers.{load_numbers, own_task}
use Rattle.debug_outcome.specs.Coming.{Stops, stop_by}
use Rattle.debug_outcome.specs.Outcomes.{refuses}
use Rattle.debug_outcome.specs.declared.refusal.Refusal.TheVariants.{TooMany}
use Rattle.debug_outcome.specs.declared.refusal.Listed.TheVariants.{Events}
use Rattle.debug_outcome.specs.files.Wanting.{sequence_limit}
use Rattle.debug_outcome.specs.sequences.BadSequences.{refusal_of_sequence}
use Rattle.debug_collect.specs.loads.LoadOutcomes.{IsCollected, LoadMeans, collected_file}
use Rattle.debug_collect.proofs.loads.ManyEvents.{too_many_events}
use Rattle.replay_structure.proofs.spots.Sorted.{not-less as at_most}

module _ (n : ℕ) (few : n ≤ most_producers) where
  pub load_is_short : IsShort (load_numbers n)
  load_is_short =
      let count : length (map (λ k. own_task (producer_id k)) (producers n)) ≡ n = length-map-range_with_len (λ k. own_task (producer_id k)) 1 n in
      record { tasks = omega (arith, few, count); entries = lit< tt }

  load_is_upper : is_upper_name (text_of (load_names n) (load_numbers n).main) ≡ true
  load_is_upper = refl

  abbrev HasFault : SeqError → Type 0
  HasFault e = HasFirstFault (collected_file n) (load_numbers n) (load_names n) e

  -- more events than a file may have are one fault
  many_are_fault : (events : List Event) → IsCollected n events → most_events < length events → HasFault (error.TooMany most_events)
  many_are_fault events h many =
      subst (λ file. HasFirstFault file (load_numbers n) (load_names n) (error.TooMany most_events)) (sym h.recorded.file)
      (too_many_events (load_names n) (load_numbers n) events h.recorded.known h.recorded.end many)

  -- a file that is read has no more
  pub read_or_many : {A : Type 0} (events found : List Event) → IsCollected n events → SeqReads (collected_file n) (load_numbers n) (load_names n) found → most_events < length events → A
  read_or_many events found h reads many =
      absurd (reads-no_fault (load_names n) (load_numbers n) load_is_short load_is_upper (collected_file n) found (error.TooMany most_events) reads (many_are_fault events h many))

  -- two lists that were recorded are one, where a file can have them
  pub one_recorded : (xs ys : List Event) → IsCollected n xs → IsCollected n ys → length xs ≤ most_events → length ys ≤ most_events → xs ≡ ys
  one_recorded xs ys h k low also =
      reads-unique (load_names n) (load_numbers n) load_is_short (collected_file n) xs ys (h.recorded.reads low) (k.recorded.reads also)

  -- what was read was recorded
  read_by : (events found : List Event) → IsCollected n events → SeqReads (collected_file n) (load_numbers n) (load_names n) found → (b : Bool) → nat_lt most_events (length events) ≡ b → IsCollected n found
  read_by events found h reads true e = read_or_many events found h reads (lt_is most_events (length events) e)
  read_by events found h reads false e =
      subst (IsCollected n) (reads-unique (load_names n) (load_numbers n) load_is_short (collected_file n) events found (h.recorded.reads (at_most most_events (length events) e)) reads) h

  pub read_is_recorded : (events found : List Event) → IsCollected n events → SeqReads (collected_file n) (load_numbers n) (load_names n) found → IsCollected n found
  read_is_recorded events found h reads = read_by events found h reads (nat_lt most_events (length events)) refl

  -- ---- a file that is not read

  module _ (events : List Event) (h : IsCollected n events) (short : length (collected_file n) ≤ sequence_limit) where
    many_means : most_events < length events → LoadMeans n (refuses (TooMany Events most_events))
    many_means many = record { few = few; called = inr (inr (record { events = events; collected = h; limit = inr (short, many, refl) })) }

    fault_by : (e : SeqError) → HasFault e → (b : Bool) → nat_lt most_events (length events) ≡ b → Stops (LoadMeans n) (stop_by (refusal_of_sequence e))
    fault_by e fault true is =
        let many : most_events < length events = lt_is most_events (length events) is in
        let same : e ≡ error.TooMany most_events = fault-unique (load_names n) (load_numbers n) load_is_short load_is_upper (collected_file n) e (error.TooMany most_events) fault (many_are_fault events h many) in
        subst (λ x. Stops (LoadMeans n) (stop_by (refusal_of_sequence x))) (sym same) (many_means many)
    fault_by e fault false is =
        absurd (reads-no_fault (load_names n) (load_numbers n) load_is_short load_is_upper (collected_file n) events e (h.recorded.reads (at_most most_events (length events) is)) fault)

    fault_means : (e : SeqError) → HasFault e → Stops (LoadMeans n) (stop_by (refusal_of_sequence e))
    fault_means e fault = fault_by e fault (nat_lt most_events (length events)) refl

    pub stops_unread : (e : SeqError) → (e ≢ error.Memory → HasFault e) → Stops (LoadMeans n) (stop_by (refusal_of_sequence e))
    stops_unread (error.BadLine line) fault = fault_means (error.BadLine line) (fault (λ e. cc))
    stops_unread (error.OtherProgram line) fault = fault_means (error.OtherProgram line) (fault (λ e. cc))
    stops_unread (error.BadNumber line) fault = fault_means (error.BadNumber line) (fault (λ e. cc))
    stops_unread (error.AfterEnd line) fault = fault_means (error.AfterEnd line) (fault (λ e. cc))
    stops_unread (error.TooMany limit) fault = fault_means (error.TooMany limit) (fault (λ e. cc))
    stops_unread error.Memory fault = tt

-- A file has one outcome where it is no sequence of a program, in one list or in lists by tasks, and none of these where it is one.
use Rattle.std.proofs.Common.{◌≡◌, ◌≢◌, true, ℕ, List, subst}
use Rattle.event_machine.specs.declared.Event.{Event}
use Rattle.syn_event.specs.Numbering.{Numbering}
use Rattle.syn_event.specs.DeclaredTasks.{text_of}
use Rattle.seq_file.specs.Files.{HasFirstFault, SeqReads}
use Rattle.seq_file.specs.Lines.{is_upper_name}
use Rattle.seq_file.specs.Lists.{HasFirstListFault, ListReads}
use Rattle.seq_file.specs.Short.{IsShort}
use Rattle.seq_file.specs.declared.errors.SeqError.{SeqError}
use Rattle.seq_file.specs.declared.errors.SeqError.TheVariants as error
use Rattle.seq_file.proofs.Filing.{reads-no_fault, fault-unique}
use Rattle.seq_file.proofs.ListOutcomes.{lists-no_fault, list_fault-unique}
use Rattle.debug_outcome.specs.Coming.{IsRefusal, Stops, stop_by}
use Rattle.debug_outcome.specs.Outcomes.{Outcome}
use Rattle.debug_outcome.proofs.Comings.{one_refusal, stops_by}
use Rattle.debug_outcome.specs.sequences.BadSequences.{IsBadSequence, IsBadLists, refusal_of_sequence}

-- what an error calls for that is a fault, where it may be want of memory instead
stops_unless_memory : (A : Outcome → Type 0) (Fault : SeqError → Type 0) → ((found : SeqError) → Fault found → Stops A (stop_by (refusal_of_sequence found))) →
    (found : SeqError) → (found ≢ error.Memory → Fault found) → Stops A (stop_by (refusal_of_sequence found))
stops_unless_memory A Fault stops (error.BadLine line) h = stops (error.BadLine line) (h (λ e. cc))
stops_unless_memory A Fault stops (error.OtherProgram line) h = stops (error.OtherProgram line) (h (λ e. cc))
stops_unless_memory A Fault stops (error.BadNumber line) h = stops (error.BadNumber line) (h (λ e. cc))
stops_unless_memory A Fault stops (error.AfterEnd line) h = stops (error.AfterEnd line) (h (λ e. cc))
stops_unless_memory A Fault stops (error.TooMany limit) h = stops (error.TooMany limit) (h (λ e. cc))
stops_unless_memory A Fault stops error.Memory h = tt

-- ---- one list

-- the refusal of a sequence is one that its lines call for
pub stops_sequence : (names : List (List ℕ)) (numbers : Numbering) (lines : List ℕ) (found : SeqError) → HasFirstFault lines numbers names found →
    Stops (IsBadSequence names numbers lines) (stop_by (refusal_of_sequence found))
stops_sequence names numbers lines found h =
    stops_by (IsBadSequence names numbers lines) (refusal_of_sequence found) (λ o told. record { error = found; fault = h; told = told })

-- the same of an error that may be want of memory
pub stops_unread : (names : List (List ℕ)) (numbers : Numbering) (lines : List ℕ) (found : SeqError) → (found ≢ error.Memory → HasFirstFault lines numbers names found) →
    Stops (IsBadSequence names numbers lines) (stop_by (refusal_of_sequence found))
stops_unread names numbers lines found h =
    stops_unless_memory (IsBadSequence names numbers lines) (HasFirstFault lines numbers names) (λ e fault. stops_sequence names numbers lines e fault) found h

module _ (names : List (List ℕ)) (numbers : Numbering) (short : IsShort numbers) (upper : is_upper_name (text_of names numbers.main) ≡ true) (lines : List ℕ) where
  pub one_bad_sequence : (o q : Outcome) → IsBadSequence names numbers lines o → IsBadSequence names numbers lines q → o ≡ q
  one_bad_sequence o q h k =
      let same : h.error ≡ k.error = fault-unique names numbers short upper lines h.error k.error h.fault k.fault in
      one_refusal (refusal_of_sequence k.error) o q (subst (λ (e : SeqError). IsRefusal (refusal_of_sequence e) o) same h.told) k.told

  pub read_or_bad : (events : List Event) (o : Outcome) → SeqReads lines numbers names events → IsBadSequence names numbers lines o → ⊥
  read_or_bad events o reads bad = reads-no_fault names numbers short upper lines events bad.error reads bad.fault

-- ---- lists by tasks

-- the refusal of a file by tasks is one that its lines call for
pub stops_lists : (names : List (List ℕ)) (numbers : Numbering) (bytes : List ℕ) (found : SeqError) → HasFirstListFault bytes numbers names found →
    Stops (IsBadLists names numbers bytes) (stop_by (refusal_of_sequence found))
stops_lists names numbers bytes found h =
    stops_by (IsBadLists names numbers bytes) (refusal_of_sequence found) (λ o told. record { error = found; fault = h; told = told })

-- the same of an error that may be want of memory
pub stops_unread_lists : (names : List (List ℕ)) (numbers : Numbering) (bytes : List ℕ) (found : SeqError) → (found ≢ error.Memory → HasFirstListFault bytes numbers names found) →
    Stops (IsBadLists names numbers bytes) (stop_by (refusal_of_sequence found))
stops_unread_lists names numbers bytes found h =
    stops_unless_memory (IsBadLists names numbers bytes) (HasFirstListFault bytes numbers names) (λ e fault. stops_lists names numbers bytes e fault) found h

module _ (names : List (List ℕ)) (numbers : Numbering) (short : IsShort numbers) (upper : is_upper_name (text_of names numbers.main) ≡ true) (bytes : List ℕ) where
  pub one_bad_lists : (o q : Outcome) → IsBadLists names numbers bytes o → IsBadLists names numbers bytes q → o ≡ q
  one_bad_lists o q h k =
      let same : h.error ≡ k.error = list_fault-unique names numbers short upper bytes h.error k.error h.fault k.fault in
      one_refusal (refusal_of_sequence k.error) o q (subst (λ (e : SeqError). IsRefusal (refusal_of_sequence e) o) same h.told) k.told

  pub lists_or_bad : (lists : List (List Event)) (o : Outcome) → ListReads bytes numbers names lists → IsBadLists names numbers bytes o → ⊥
  lists_or_bad lists o reads bad = lists-no_fault names numbers short upper bytes lists bad.error reads bad.fault

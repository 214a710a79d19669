-- A file of either format stands for one sequence or is refused with one outcome, and never both. Its events may stand in a file of one list.
use Rattle.std.proofs.Common.{◌≡◌, ℕ, ◌<◌, ◌≤◌, true, false, List, length, inl, inr, sym, ap, ◌∙◌, subst, arith}
use Rattle.common_lemmas.proofs.Truth.{clash}
use Rattle.event_machine.specs.declared.Event.{Event}
use Rattle.syn_event.specs.Numbering.{Numbering, owner_of}
use Rattle.syn_event.specs.DeclaredTasks.{text_of}
use Rattle.seq_file.specs.Files.{most_events, AreFit, SeqReads}
use Rattle.seq_file.specs.Lines.{is_upper_name}
use Rattle.seq_file.specs.Lists.{is_in_lists, list_count, ListReads}
use Rattle.seq_file.specs.Short.{IsShort}
use Rattle.seq_file.specs.declared.errors.SeqError.{SeqError}
use Rattle.seq_file.proofs.Filing.{reads-unique}
use Rattle.seq_file.proofs.ListOutcomes.{lists-unique, lists-no_fault, list_fault-unique}
use Rattle.seq_file.proofs.ListTexts.{lists-begin, events-begin}
use Rattle.syn_order.specs.Laws.{LawOfOrders}
use Rattle.syn_order.proofs.Carried.{orders_of_all}
use Rattle.debug_outcome.specs.Coming.{IsRefusal}
use Rattle.debug_outcome.specs.Outcomes.{Outcome, refuses}
use Rattle.debug_outcome.specs.declared.refusal.Refusal.TheVariants as refusal
use Rattle.debug_outcome.specs.sequences.BadSequences.{IsBadLists, refusal_of_sequence}
use Rattle.debug_outcome.proofs.Comings.{one_refusal}
use Rattle.debug_outcome.proofs.sequences.Telling.{one_bad_sequence, read_or_bad}
use Rattle.debug_sequence.specs.Sequences.{AreInOrder, ReadsAs, ReadsAsLists, AreNotJoined, AreRefusedLists, IsRefusedSequence}
use Rattle.debug_sequence.proofs.Fitting.{order_fits}

-- ---- formats

-- a file of one list does not begin as one by tasks
pub reads_one : (names : List (List ℕ)) (numbers : Numbering) (bytes : List ℕ) (events : List Event) → SeqReads bytes numbers names events → is_in_lists bytes ≡ false
reads_one names numbers bytes events reads = ap is_in_lists reads.text ∙ events-begin names numbers events

-- and one by tasks does
pub reads_by_tasks : (names : List (List ℕ)) (numbers : Numbering) (bytes : List ℕ) (lists : List (List Event)) → ListReads bytes numbers names lists → is_in_lists bytes ≡ true
reads_by_tasks names numbers bytes lists reads = ap is_in_lists reads.text ∙ lists-begin names numbers lists

-- bytes that do not begin as a file by tasks are a file of one list, where they stand for events
pub as_one : (names : List (List ℕ)) (numbers : Numbering) (bytes : List ℕ) (events : List Event) → is_in_lists bytes ≡ false → ReadsAs bytes numbers names events → SeqReads bytes numbers names events
as_one names numbers bytes events is (inl reads) = reads
as_one names numbers bytes events is (inr l) = clash (sym is ∙ reads_by_tasks names numbers bytes l.lists l.reads)

-- bytes that do are one by tasks
pub as_lists : (names : List (List ℕ)) (numbers : Numbering) (bytes : List ℕ) (events : List Event) → is_in_lists bytes ≡ true → ReadsAs bytes numbers names events → ReadsAsLists bytes numbers names events
as_lists names numbers bytes events is (inl reads) = clash (sym (reads_one names numbers bytes events reads) ∙ is)
as_lists names numbers bytes events is (inr l) = l

-- ---- the events

-- there are no more than a file of one list may have
pub reads_few : (names : List (List ℕ)) (numbers : Numbering) (bytes : List ℕ) (events : List Event) → ReadsAs bytes numbers names events → length events ≤ most_events
reads_few names numbers bytes events (inl reads) = reads.fit.few
reads_few names numbers bytes events (inr l) = l.few

-- The events for which a file stands may stand in a file of one list.
pub reads_fit : (names : List (List ℕ)) (numbers : Numbering) (bytes : List ℕ) (events : List Event) → length numbers.tasks ≡ list_count numbers → ReadsAs bytes numbers names events → AreFit numbers events
reads_fit names numbers bytes events tasks (inl reads) = reads.fit
reads_fit names numbers bytes events tasks (inr l) = order_fits numbers l.lists events (l.reads.fit.count ∙ sym tasks) l.reads.fit.each l.order l.few

-- ---- one sequence, or one refusal

module _ (names : List (List ℕ)) (numbers : Numbering) (short : IsShort numbers) (upper : is_upper_name (text_of names numbers.main) ≡ true) (tasks : length numbers.tasks ≡ list_count numbers)
    (bytes : List ℕ) where
  same_lists : (xs ys : List (List Event)) → ListReads bytes numbers names xs → ListReads bytes numbers names ys → xs ≡ ys
  same_lists xs ys rx ry = lists-unique names numbers short upper bytes xs ys rx ry

  law : (lists : List (List Event)) → ListReads bytes numbers names lists → LawOfOrders (owner_of numbers) (length numbers.tasks) lists
  law lists reads = orders_of_all (owner_of numbers) (length numbers.tasks) lists (reads.fit.count ∙ sym tasks)

  -- the lists of one file, of which the second stand for no sequence
  ordered_or_not : (xs ys : List (List Event)) (events : List Event) (o : Outcome) → ListReads bytes numbers names xs → ListReads bytes numbers names ys → AreInOrder numbers xs events →
      length events ≤ most_events → AreNotJoined numbers ys o → ⊥
  ordered_or_not xs ys events o rx ry order few (inl h) =
      (law ys ry).not_both events h.task (subst (λ (ls : List (List Event)). AreInOrder numbers ls events) (same_lists xs ys rx ry) order) h.none
  ordered_or_not xs ys events o rx ry order few (inr h) =
      let same : events ≡ h.events = (law ys ry).one_order events h.events (subst (λ (ls : List (List Event)). AreInOrder numbers ls events) (same_lists xs ys rx ry) order) h.order in
      let many : most_events < length h.events = h.many in
      absurd (omega (arith, few, many, ap length same))

  -- A file stands for one sequence.
  pub reads_as_unique : (xs ys : List Event) → ReadsAs bytes numbers names xs → ReadsAs bytes numbers names ys → xs ≡ ys
  reads_as_unique xs ys (inl h) (inl k) = reads-unique names numbers short bytes xs ys h k
  reads_as_unique xs ys (inl h) (inr k) = clash (sym (reads_one names numbers bytes xs h) ∙ reads_by_tasks names numbers bytes k.lists k.reads)
  reads_as_unique xs ys (inr h) (inl k) = clash (sym (reads_one names numbers bytes ys k) ∙ reads_by_tasks names numbers bytes h.lists h.reads)
  reads_as_unique xs ys (inr h) (inr k) =
      (law k.lists k.reads).one_order xs ys (subst (λ (ls : List (List Event)). AreInOrder numbers ls xs) (same_lists h.lists k.lists h.reads k.reads) h.order) k.order

  -- A file that stands for a sequence is not refused.
  pub read_or_refused : (events : List Event) (o : Outcome) → ReadsAs bytes numbers names events → IsRefusedSequence names numbers bytes o → ⊥
  read_or_refused events o (inl h) (inl k) = read_or_bad names numbers short upper bytes events o h k.1
  read_or_refused events o (inl h) (inr k) = clash (sym (reads_one names numbers bytes events h) ∙ k.0)
  read_or_refused events o (inr h) (inl k) = clash (sym k.0 ∙ reads_by_tasks names numbers bytes h.lists h.reads)
  read_or_refused events o (inr h) (inr (is, inl k)) = lists-no_fault names numbers short upper bytes h.lists k.error h.reads k.fault
  read_or_refused events o (inr h) (inr (is, inr k)) = ordered_or_not h.lists k.lists events o h.reads k.reads h.order h.few k.refused

  -- ---- refusals

  one_not_joined : (lists : List (List Event)) (o q : Outcome) → ListReads bytes numbers names lists → AreNotJoined numbers lists o → AreNotJoined numbers lists q → o ≡ q
  one_not_joined lists o q reads (inl h) (inl k) = h.told ∙ ap (λ (t : ℕ). refuses (refusal.NoOrder t)) ((law lists reads).one_task h.task k.task h.none k.none) ∙ sym k.told
  one_not_joined lists o q reads (inl h) (inr k) = absurd ((law lists reads).not_both k.events h.task k.order h.none)
  one_not_joined lists o q reads (inr h) (inl k) = absurd ((law lists reads).not_both h.events k.task h.order k.none)
  one_not_joined lists o q reads (inr h) (inr k) = h.told ∙ sym k.told

  one_bad_lists : (o q : Outcome) → IsBadLists names numbers bytes o → IsBadLists names numbers bytes q → o ≡ q
  one_bad_lists o q h k =
      let same : h.error ≡ k.error = list_fault-unique names numbers short upper bytes h.error k.error h.fault k.fault in
      one_refusal (refusal_of_sequence k.error) o q (subst (λ (e : SeqError). IsRefusal (refusal_of_sequence e) o) same h.told) k.told

  one_of_lists : (o q : Outcome) → AreRefusedLists names numbers bytes o → AreRefusedLists names numbers bytes q → o ≡ q
  one_of_lists o q (inl h) (inl k) = one_bad_lists o q h k
  one_of_lists o q (inl h) (inr k) = absurd (lists-no_fault names numbers short upper bytes k.lists h.error k.reads h.fault)
  one_of_lists o q (inr h) (inl k) = absurd (lists-no_fault names numbers short upper bytes h.lists k.error h.reads k.fault)
  one_of_lists o q (inr h) (inr k) =
      one_not_joined k.lists o q k.reads (subst (λ (ls : List (List Event)). AreNotJoined numbers ls o) (same_lists h.lists k.lists h.reads k.reads) h.refused) k.refused

  -- A file that is refused is told one outcome.
  pub one_refused : (o q : Outcome) → IsRefusedSequence names numbers bytes o → IsRefusedSequence names numbers bytes q → o ≡ q
  one_refused o q (inl h) (inl k) = one_bad_sequence names numbers short upper bytes o q h.1 k.1
  one_refused o q (inl h) (inr k) = clash (sym h.0 ∙ k.0)
  one_refused o q (inr h) (inl k) = clash (sym k.0 ∙ h.0)
  one_refused o q (inr h) (inr k) = one_of_lists o q h.1 k.1

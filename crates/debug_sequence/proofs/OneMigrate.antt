-- Migrating a file comes to one outcome.
use Rattle.std.proofs.Common.{◌≡◌, ℕ, zero, suc, ◌-◌, ◌<◌, ◌≤◌, ◌+◌, ◌⊎◌, true, List, [], ◌∷◌, length, take, inl, inr, sym, ap, ◌∙◌, subst, arith}
use Rattle.std.proofs.lemmas.Bool.{cases_order}
use Rattle.std.proofs.lemmas.List.{take-take}
use Rattle.common_lemmas.proofs.Truth.{clash}
use Rattle.event_machine.specs.declared.Event.{Event}
use Rattle.event_machine.specs.progress.Known.{Known, known_at_start, advanced}
use Rattle.syn_event.specs.Numbering.{Numbering, owner_of}
use Rattle.syn_event.specs.DeclaredTasks.{text_of}
use Rattle.seq_file.specs.Files.{SeqText}
use Rattle.seq_file.specs.Lines.{is_upper_name}
use Rattle.seq_file.specs.Lists.{ListText, list_count, listed, most_listed}
use Rattle.seq_file.specs.Short.{IsShort}
use Rattle.seq_file.proofs.Filing.{reads-unique}
use Rattle.syn_order.specs.Orders.{AreAdmitted}
use Rattle.syn_order.specs.Refusals.{IsFirstRefused}
use Rattle.debug_outcome.specs.Outcomes.{Outcome, writes, refuses}
use Rattle.debug_outcome.specs.declared.refusal.Refusal.TheVariants.{BadSequence}
use Rattle.debug_outcome.specs.declared.refusal.SequenceFault.TheVariants.{BadOrder}
use Rattle.debug_sequence.specs.MigrateOutcomes.{AreListsOf, AreSplit, Migrates}
use Rattle.debug_sequence.proofs.Sequences.{reads_one, reads_by_tasks, reads_as_unique, read_or_refused, one_refused}

-- ---- one event is the first that is not admitted

module _ (owner : ℕ → ℕ) where
  front_admitted : (k : Known) (m : ℕ) (events : List Event) → AreAdmitted owner k events → AreAdmitted owner k (take m events)
  front_admitted k zero events a = tt
  front_admitted k (suc m) [] a = tt
  front_admitted k (suc m) (e ∷ events) a = (a.0, front_admitted (advanced owner k e) m events a.1)

  -- the first that is not admitted is none of those before another such
  no_earlier : (n : ℕ) (events : List Event) (p q : ℕ) → p < q → IsFirstRefused owner n events p → IsFirstRefused owner n events q → ⊥
  no_earlier n events p q less h k = h.refused
      (subst (AreAdmitted owner (known_at_start n)) (take-take p (q - 1) events (omega (arith, less))) (front_admitted (known_at_start n) p (take (q - 1) events) k.before))

  one_first_refused : (n : ℕ) (events : List Event) (p q : ℕ) → IsFirstRefused owner n events p → IsFirstRefused owner n events q → p ≡ q
  one_first_refused n events p q h k = go (cases_order p q)
    where
      go : ((p ≡ q) ⊎ ((p < q) ⊎ (q < p))) → p ≡ q
      go (inl same) = same
      go (inr (inl less)) = absurd (no_earlier n events p q less h k)
      go (inr (inr more)) = absurd (no_earlier n events q p more k h)

  all_admitted : (n : ℕ) (events : List Event) (p : ℕ) → AreAdmitted owner (known_at_start n) events → IsFirstRefused owner n events p → ⊥
  all_admitted n events p a h = h.refused (front_admitted (known_at_start n) p events a)

-- ---- one outcome

module _ (names : List (List ℕ)) (numbers : Numbering) where
  same_lists : (events : List Event) (xs ys : List (List Event)) → AreListsOf numbers events xs → AreListsOf numbers events ys → xs ≡ ys
  same_lists events xs ys h k = sym h.lists_are ∙ k.lists_are

  not_few : (events : List Event) (xs ys : List (List Event)) → AreListsOf numbers events xs → AreListsOf numbers events ys → listed xs ≤ most_listed → most_listed < listed ys → ⊥
  not_few events xs ys h k few many = absurd (omega (arith, ap listed (same_lists events xs ys h k), few, many))

  -- splitting events comes to one outcome
  pub one_split : (events : List Event) (o q : Outcome) → AreSplit names numbers events o → AreSplit names numbers events q → o ≡ q
  one_split events o q (inl h) (inl k) = h.text ∙ ap (λ (ls : List (List Event)). writes (ListText names numbers ls) 0) (same_lists events h.lists k.lists h.lists_of k.lists_of) ∙ sym k.text
  one_split events o q (inl h) (inr (inl k)) = absurd (not_few events h.lists k.lists h.lists_of k.lists_of h.few k.many)
  one_split events o q (inl h) (inr (inr k)) = absurd (all_admitted (owner_of numbers) (length numbers.tasks) events k.place h.lists_of.admitted k.first)
  one_split events o q (inr (inl h)) (inl k) = absurd (not_few events k.lists h.lists k.lists_of h.lists_of k.few h.many)
  one_split events o q (inr (inl h)) (inr (inl k)) = h.told ∙ sym k.told
  one_split events o q (inr (inl h)) (inr (inr k)) = absurd (all_admitted (owner_of numbers) (length numbers.tasks) events k.place h.lists_of.admitted k.first)
  one_split events o q (inr (inr h)) (inl k) = absurd (all_admitted (owner_of numbers) (length numbers.tasks) events h.place k.lists_of.admitted h.first)
  one_split events o q (inr (inr h)) (inr (inl k)) = absurd (all_admitted (owner_of numbers) (length numbers.tasks) events h.place k.lists_of.admitted h.first)
  one_split events o q (inr (inr h)) (inr (inr k)) =
      h.told ∙ ap (λ (n : ℕ). refuses (BadSequence BadOrder (n + 1))) (one_first_refused (owner_of numbers) (length numbers.tasks) events h.place k.place h.first k.first) ∙ sym k.told

  module _ (short : IsShort numbers) (upper : is_upper_name (text_of names numbers.main) ≡ true) (tasks : length numbers.tasks ≡ list_count numbers) (bytes : List ℕ) where
    pub one_migrate : (o q : Outcome) → Migrates names numbers bytes o → Migrates names numbers bytes q → o ≡ q
    one_migrate o q (inl h) (inl k) =
        let same : h.events ≡ k.events = reads-unique names numbers short bytes h.events k.events h.reads k.reads in
        one_split k.events o q (subst (λ (es : List Event). AreSplit names numbers es o) same h.split) k.split
    one_migrate o q (inl h) (inr (inl k)) = clash (sym (reads_one names numbers bytes h.events h.reads) ∙ reads_by_tasks names numbers bytes k.reads.lists k.reads.reads)
    one_migrate o q (inl h) (inr (inr k)) = absurd (read_or_refused names numbers short upper tasks bytes h.events q (inl h.reads) k)
    one_migrate o q (inr (inl h)) (inl k) = clash (sym (reads_one names numbers bytes k.events k.reads) ∙ reads_by_tasks names numbers bytes h.reads.lists h.reads.reads)
    one_migrate o q (inr (inl h)) (inr (inl k)) =
        let same : h.events ≡ k.events = reads_as_unique names numbers short upper tasks bytes h.events k.events (inr h.reads) (inr k.reads) in
        h.text ∙ ap (λ (es : List Event). writes (SeqText names numbers es) 0) same ∙ sym k.text
    one_migrate o q (inr (inl h)) (inr (inr k)) = absurd (read_or_refused names numbers short upper tasks bytes h.events q (inr h.reads) k)
    one_migrate o q (inr (inr h)) (inl k) = absurd (read_or_refused names numbers short upper tasks bytes k.events o (inl k.reads) h)
    one_migrate o q (inr (inr h)) (inr (inl k)) = absurd (read_or_refused names numbers short upper tasks bytes k.events o (inr k.reads) h)
    one_migrate o q (inr (inr h)) (inr (inr k)) = one_refused names numbers short upper tasks bytes o q h k

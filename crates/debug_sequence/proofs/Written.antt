-- What migrating writes is what is called for.
use Rattle.std.proofs.Common.{◌≡◌, ◌<◌, ◌≤◌, ◌↔◌, Bool, true, false, IsTrue, ℕ, List, length, inl, inr, refl, sym, ◌∙◌, subst, true≢false}
use Rattle.std.proofs.lemmas.Bool.{cases_lt}
use Rattle.event_machine.specs.declared.Event.{Event}
use Rattle.syn_event.specs.Numbering.{Numbering}
use Rattle.seq_file.specs.Files.{AreFit, SeqText}
use Rattle.seq_file.specs.Lists.{is_in_lists, list_count, listed, most_listed, ListText}
use Rattle.debug_outcome.specs.Outcomes.{Outcome, writes}
use Rattle.debug_sequence.specs.MigrateOutcomes.{AreListsOf, AreSplit, Migrates}
use Rattle.debug_sequence.specs.Sequences.{ReadsAs}
use Rattle.debug_sequence.proofs.Fitting.{lists_fit}
use Rattle.debug_sequence.proofs.Sequences.{as_lists}

-- lists that are not found to be too many are not
pub not_more : (many : Bool) (tested lists : List (List Event)) → tested ≡ lists → IsTrue many ↔ (most_listed < listed tested) → many ≡ false → listed lists ≤ most_listed
not_more many tested lists same says false_is = elim (cases_lt most_listed (listed lists)) [
  | inl more ↦ absurd (true≢false (sym (says.1 (subst (λ (ls : List (List Event)). most_listed < listed ls) (sym same) more)) ∙ false_is))
  | inr few ↦ few
]

-- the lists of the events
pub written_by_tasks : (names : List (List ℕ)) (numbers : Numbering) (events : List Event) (lists : List (List Event)) (o : Outcome) → length numbers.tasks ≡ list_count numbers → AreFit numbers events →
    AreListsOf numbers events lists → listed lists ≤ most_listed → o ≡ writes (ListText names numbers lists) 0 → AreSplit names numbers events o
written_by_tasks names numbers events lists o tasks fit source few text =
    inl (record { lists = lists; lists_of = source; few = few; text = text; back = record { text = refl; fit = lists_fit numbers events lists tasks fit source few } })

-- the order of the lists
pub written_as_one : (names : List (List ℕ)) (numbers : Numbering) (bytes : List ℕ) (events : List Event) (o : Outcome) → is_in_lists bytes ≡ true → ReadsAs bytes numbers names events → AreFit numbers events →
    o ≡ writes (SeqText names numbers events) 0 → Migrates names numbers bytes o
written_as_one names numbers bytes events o is reads fit text =
    inr (inl (record { events = events; reads = as_lists names numbers bytes events is reads; text = text; back = record { text = refl; fit = fit } }))

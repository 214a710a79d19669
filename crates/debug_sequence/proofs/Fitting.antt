-- What the events of a sequence and those of its lists are to each other: what holds of each event, and that nothing follows the end.
use Rattle.std.proofs.Common.{◌≡◌, ℕ, ◌<◌, ◌≤◌, Bool, true, false, if◌then◌else◌, List, [], ◌∷◌, length, Some, refl, sym, ap, ◌∙◌, subst, All}
use Rattle.std.specs.List.{range_with_len}
use Rattle.std.proofs.lemmas.List.Elements.{All-nil, All-cons, All-head, All-tail, All-same, All-map, All-get_or}
use Rattle.std.proofs.lemmas.List.FromFn.{length-map-range_with_len}
use Rattle.common_lemmas.proofs.Options.{some_same, not_missing}
use Rattle.common_lemmas.proofs.Truth.{clash}
use Rattle.event_machine.specs.declared.Event.{Event}
use Rattle.event_machine.specs.declared.Event.TheVariants.{R, E, S, D, C, T, F, X, B, Z}
use Rattle.event_machine.specs.progress.Known.{Known, known_at_start, touches, advanced}
use Rattle.syn_event.specs.Numbering.{Numbering, owner_of}
use Rattle.seq_file.specs.Files.{most_events, is_end, NothingFollowsEnd, AreFit}
use Rattle.seq_file.specs.Known.{is_known}
use Rattle.seq_file.specs.Lists.{most_listed, list_count, listed, IsListFit, AreListsFit}
use Rattle.syn_order.specs.Orders.{AreAdmitted, split, splits, list_at, first, rest, taken, ArePicked}
use Rattle.syn_order.proofs.Picking.{joined_back}
use Rattle.debug_sequence.specs.Sequences.{AreInOrder}
use Rattle.debug_sequence.specs.MigrateOutcomes.{AreListsOf}

-- ---- nothing follows the end

module _ (owner : ℕ → ℕ) where
  none_behind : (k : Known) (e : Event) (events : List Event) → is_end e ≡ true → AreAdmitted owner (advanced owner k e) events → events ≡ []
  none_behind k e [] is a = refl
  none_behind k Z (f ∷ events) is a = clash a.0
  none_behind k (R c n i) (f ∷ events) is a = clash is
  none_behind k (E t) (f ∷ events) is a = clash is
  none_behind k (S t) (f ∷ events) is a = clash is
  none_behind k (D t n) (f ∷ events) is a = clash is
  none_behind k (C c n i) (f ∷ events) is a = clash is
  none_behind k (T c n i) (f ∷ events) is a = clash is
  none_behind k (F c n i) (f ∷ events) is a = clash is
  none_behind k (X t) (f ∷ events) is a = clash is
  none_behind k (B t x) (f ∷ events) is a = clash is

  -- among events that are admitted nothing follows the end
  pub admitted_end : (k : Known) (events : List Event) → AreAdmitted owner k events → NothingFollowsEnd events
  admitted_end k [] a = tt
  admitted_end k (e ∷ events) a = ((λ is. none_behind k e events is a.1), admitted_end (advanced owner k e) events a.1)

  -- nor does it in the list of a task
  split_end : (k : Known) (events : List Event) (t : ℕ) → NothingFollowsEnd events → NothingFollowsEnd (split owner k events t)
  split_end k [] t h = tt
  split_end k (e ∷ events) t h = go (touches owner k e t) (split_end (advanced owner k e) events t h.1)
    where
      behind : List Event
      behind = split owner (advanced owner k e) events t

      go : (b : Bool) → NothingFollowsEnd behind → NothingFollowsEnd (if b then e ∷ behind else behind)
      go true more = ((λ is. ap (λ es. split owner (advanced owner k e) es t) (h.0 is)), more)
      go false more = more

  -- ---- what holds of each event

  split_all : (P : Event → Type 0) (k : Known) (events : List Event) (t : ℕ) → All P events → All P (split owner k events t)
  split_all P k [] t h = h
  split_all P k (e ∷ events) t h = go (touches owner k e t) (split owner (advanced owner k e) events t) (split_all P (advanced owner k e) events t (All-tail P e events h))
    where
      go : (b : Bool) (behind : List Event) → All P behind → All P (if b then e ∷ behind else behind)
      go true behind more = All-cons P e behind (All-head P e events h) more
      go false behind more = more

  first_holds : (P : Event → Type 0) (events : List Event) (e : Event) → first events ≡ Some e → All P events → P e
  first_holds P [] e q h = absurd (not_missing e q)
  first_holds P (f ∷ events) e q h = subst P (some_same q) (All-head P f events h)

  rest_holds : (P : Event → Type 0) (b : Bool) (events : List Event) → All P events → All P (if b then rest events else events)
  rest_holds P false events h = h
  rest_holds P true [] h = h
  rest_holds P true (e ∷ events) h = All-tail P e events h

  -- what holds of each event in lists holds of each that is picked
  picked_all : (P : Event → Type 0) (n : ℕ) (k : Known) (lists : ℕ → List Event) (events : List Event) → ((t : ℕ) → t < n → All P (lists t)) → ArePicked owner n k lists events →
      All P events
  picked_all P n k lists [] h p = All-nil P
  picked_all P n k lists (e ∷ events) h p = All-cons P e events (first_holds P (lists p.0.task) e p.0.is_first (h p.0.task p.0.below))
      (picked_all P n (advanced owner k e) (taken owner k lists e) events (λ t l. rest_holds P (touches owner k e t) (lists t) (h t l)) p.1)

-- ---- files

-- The order of lists that may stand in a file may stand in one of one list, where it is short enough.
pub order_fits : (numbers : Numbering) (lists : List (List Event)) (events : List Event) → length lists ≡ length numbers.tasks → All (IsListFit numbers) lists → AreInOrder numbers lists events →
    length events ≤ most_events → AreFit numbers events
order_fits numbers lists events count each order few =
    let owner : ℕ → ℕ = owner_of numbers in
    let n : ℕ = length numbers.tasks in
    record {
      known = picked_all owner (λ e. is_known numbers e ≡ true) n (known_at_start n) (list_at lists) events
          (λ t l. (All-get_or (IsListFit numbers) lists t [] (subst (λ (m : ℕ). t < m) (sym count) l) each).known) order.picked;
      end = admitted_end owner (known_at_start n) events (joined_back owner n events (known_at_start n) (list_at lists) order.picked order.used_up).admitted;
      few = few;
    }

-- The lists of events that may stand in a file may stand in one by tasks, where they are short enough.
pub lists_fit : (numbers : Numbering) (events : List Event) (lists : List (List Event)) → length numbers.tasks ≡ list_count numbers → AreFit numbers events → AreListsOf numbers events lists →
    listed lists ≤ most_listed → AreListsFit numbers lists
lists_fit numbers events lists tasks fit source few =
    let owner : ℕ → ℕ = owner_of numbers in
    let n : ℕ = length numbers.tasks in
    let of_task : ℕ → List Event = split owner (known_at_start n) events in
    let one : (t : ℕ) → IsListFit numbers (of_task t) = λ t. record {
      known = split_all owner (λ e. is_known numbers e ≡ true) (known_at_start n) events t fit.known;
      end = split_end owner (known_at_start n) events t fit.end;
    } in
    record {
      count = ap length (sym source.lists_are) ∙ length-map-range_with_len of_task 0 n ∙ tasks;
      each = All-same (IsListFit numbers) lists (splits owner n (known_at_start n) events) (sym source.lists_are)
          (All-map (IsListFit numbers) of_task (range_with_len 0 n) (λ i d l. one _));
      few = few;
    }

-- as many lists as tasks
pub lists_many : (numbers : Numbering) (events : List Event) (lists : List (List Event)) → AreListsOf numbers events lists → length lists ≡ length numbers.tasks
lists_many numbers events lists source =
    ap length (sym source.lists_are) ∙ length-map-range_with_len (split (owner_of numbers) (known_at_start (length numbers.tasks)) events) 0 (length numbers.tasks)

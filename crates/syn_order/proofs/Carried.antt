-- The laws of orders.
use Rattle.std.proofs.Common.{◌≡◌, ℕ, zero, suc, ◌<◌, ◌⊎◌, inl, inr, List, [], length, refl, sym, ap, ◌∙◌, subst, arith}
use Rattle.std.proofs.lemmas.Bool.{cases_order}
use Rattle.std.proofs.lemmas.List.{ext_get_or}
use Rattle.std.proofs.lemmas.List.FromFn.{length-map-range_with_len, get_or-map-range_with_len}
use Rattle.event_machine.specs.declared.Event.{Event}
use Rattle.event_machine.specs.progress.Known.{Known, known_at_start}
use Rattle.event_machine.proofs.progress.Parties.{idle_length}
use Rattle.syn_order.specs.Orders.{split, splits, list_at, left_after}
use Rattle.syn_order.specs.Laws.{IsOrder, NoOrder, IsSource, LawOfOrders, OrdersOfAll, SameListsAreAlike}
use Rattle.syn_order.proofs.Pulling.{alike_by_lists, lists_of_alike}
use Rattle.syn_order.proofs.Picking.{total, joined, joined_back, used_up_over, over_once, stuck_over, join_or}

-- ---- lists of lists

pub split_at : (owner : ℕ → ℕ) (n : ℕ) (k : Known) (xs : List Event) (t : ℕ) → t < n → list_at (splits owner n k xs) t ≡ split owner k xs t
split_at owner n k xs t l = get_or-map-range_with_len (split owner k xs) 0 n t t [] l (omega arith)

pub splits_length : (owner : ℕ → ℕ) (n : ℕ) (k : Known) (xs : List Event) → length (splits owner n k xs) ≡ n
splits_length owner n k xs = length-map-range_with_len (split owner k xs) 0 n

-- lists are those of a sequence exactly where each is
pub splits_by : (owner : ℕ → ℕ) (n : ℕ) (k : Known) (xs : List Event) (lists : List (List Event)) → length lists ≡ n → ((t : ℕ) → t < n → split owner k xs t ≡ list_at lists t) →
    splits owner n k xs ≡ lists
splits_by owner n k xs lists q h = ext_get_or [] (splits owner n k xs) lists (splits_length owner n k xs ∙ sym q)
    (λ t l. let m : t < n = subst (λ v. t < v) (splits_length owner n k xs) l in split_at owner n k xs t m ∙ h t m)

pub by_splits : (owner : ℕ → ℕ) (n : ℕ) (k : Known) (xs : List Event) (lists : List (List Event)) → splits owner n k xs ≡ lists → (t : ℕ) → t < n → split owner k xs t ≡ list_at lists t
by_splits owner n k xs lists q t l = sym (split_at owner n k xs t l) ∙ ap (λ ls. list_at ls t) q

-- ---- the laws

module _ (owner : ℕ → ℕ) (n : ℕ) (lists : List (List Event)) (count : length lists ≡ n) where
  sized : length (known_at_start n).parties ≡ n
  sized = idle_length n

  joins : (events : List Event) → IsSource owner n lists events → (order : List Event) × IsOrder owner n lists order
  joins events s = go n refl
    where
      go : (m : ℕ) → n ≡ m → (order : List Event) × IsOrder owner n lists order
      go zero q = ([], record { picked = tt; used_up = λ t l. absurd (omega (arith, l, q)) })
      go (suc m) q = joined owner n (omega (arith, q)) (length events) (known_at_start n) (list_at lists) events refl sized s.admitted
          (by_splits owner n (known_at_start n) events lists s.lists_are)

  splits_back : (order : List Event) → IsOrder owner n lists order → IsSource owner n lists order
  splits_back order j =
      let r = joined_back owner n order (known_at_start n) (list_at lists) j.picked j.used_up in
      record { admitted = r.admitted; lists_are = splits_by owner n (known_at_start n) order lists count r.lists_are }

  one_order : (xs ys : List Event) → IsOrder owner n lists xs → IsOrder owner n lists ys → xs ≡ ys
  one_order xs ys i j = over_once owner n xs ys (known_at_start n) (list_at lists) i.picked (used_up_over owner n (known_at_start n) (list_at lists) xs i.used_up)
      j.picked (used_up_over owner n (known_at_start n) (list_at lists) ys j.used_up)

  not_both : (order : List Event) (task : ℕ) → IsOrder owner n lists order → NoOrder owner n lists task → ⊥
  not_both order task j s = s.not_used_up (ap (λ xs. left_after owner (known_at_start n) (list_at lists) xs task) (sym q) ∙ j.used_up task s.below)
    where
      q : order ≡ s.events
      q = over_once owner n order s.events (known_at_start n) (list_at lists) j.picked (used_up_over owner n (known_at_start n) (list_at lists) order j.used_up)
          s.picked (stuck_over owner n (known_at_start n) (list_at lists) task s)

  one_task : (t u : ℕ) → NoOrder owner n lists t → NoOrder owner n lists u → t ≡ u
  one_task t u r s = go (cases_order t u)
    where
      left : List Event → ℕ → List Event
      left xs v = left_after owner (known_at_start n) (list_at lists) xs v

      q : r.events ≡ s.events
      q = over_once owner n r.events s.events (known_at_start n) (list_at lists) r.picked (stuck_over owner n (known_at_start n) (list_at lists) t r)
          s.picked (stuck_over owner n (known_at_start n) (list_at lists) u s)

      go : ((t ≡ u) ⊎ ((t < u) ⊎ (u < t))) → t ≡ u
      go (inl p) = p
      go (inr (inl l)) = absurd (r.not_used_up (ap (λ xs. left_after owner (known_at_start n) (list_at lists) xs t) q ∙ s.used_up_before t l))
      go (inr (inr l)) = absurd (s.not_used_up (ap (λ xs. left_after owner (known_at_start n) (list_at lists) xs u) (sym q) ∙ r.used_up_before u l))

  pub law : LawOfOrders owner n lists
  law = record {
    joins = joins;
    splits_back = splits_back;
    one_order = one_order;
    either = join_or owner n (suc (total owner n (list_at lists) n)) (known_at_start n) (list_at lists) sized (omega arith);
    not_both = not_both;
    one_task = one_task;
  }

pub orders_of_all : OrdersOfAll
orders_of_all owner n lists count = law owner n lists count

pub same_lists_are_alike : SameListsAreAlike
same_lists_are_alike owner n xs ys some a = (
  λ h. alike_by_lists owner n some ys (known_at_start n) xs (idle_length n) a h.0
      (λ t l. by_splits owner n (known_at_start n) xs (splits owner n (known_at_start n) ys) h.1 t l ∙ split_at owner n (known_at_start n) ys t l),
  λ h. let r = lists_of_alike owner n some (known_at_start n) xs ys h (idle_length n) a in (
    r.admitted,
    splits_by owner n (known_at_start n) xs (splits owner n (known_at_start n) ys) (splits_length owner n (known_at_start n) ys)
        (λ t l. r.lists t l ∙ sym (split_at owner n (known_at_start n) ys t l)),
  ),
)

-- The doubles of the entries of a program are found by their names.
use Rattle.std.proofs.Common.{◌≡◌, ℕ, zero, suc, ◌+◌, ◌-◌, ◌<◌, ◌≤◌, ◌==◌, ◌&&◌, nat_lt, Bool, true, false, List, ◌∷◌, ◌++◌, length, position, option_map, Option, Some, None, refl, sym, ap, ap₂, ◌∙◌, subst, length-append, arith}
use Rattle.std.specs.List.{AllByRecursion}
use Rattle.std.proofs.lemmas.Bool.{eqb-true, ltb-true, eq-eqb}
use Rattle.std.proofs.lemmas.Option.{none-some}
use Rattle.ada_tree.specs.declared.naming.NameId.{NameId}
use Rattle.syn_event.specs.declared.numbering.EntryInfo.{EntryInfo}
use Rattle.syn_event.specs.Numbering.{entry_named}
use Rattle.task_model.specs.Setting.{Setting}
use Rattle.replay_model.specs.ReplayTree.{last_task}
use Rattle.replay_model.specs.ReplayNumbers.{double_info, more_infos, all_infos, numbers_replayed}
use Rattle.run_laws.specs.replaying.Copies.{Spots}
use Rattle.replay_structure.proofs.texts.Stripped.{prefix-mapped}
use Rattle.replay_structure.specs.typed.ScopeOf.{double_id}
use Rattle.replay_structure.specs.spots.Places.{total, double_place, counts, entries_from, text_spots}
use Rattle.replay_structure.specs.spots.Laws.{IsInOrder}
use Rattle.replay_structure.proofs.spots.Sorted.{not-less, double-within}
use Rattle.replay_structure.proofs.spots.Placed.{total-is}
use Rattle.common_lemmas.proofs.Lists.{all_joined, all_paired, all_weaker}
use Rattle.common_lemmas.proofs.Numbers.{equal_is, lt_false, lt_true, unequal, unequal_above}
use Rattle.common_lemmas.proofs.Options.{some_same}
use Rattle.common_lemmas.proofs.Truth.{and_right, if_false, if_true}
use Rattle.replay_runs.specs.found.Laws.{AreDoublesApart, HasNamesApart, FindsDoubles, DoublesAreFound}
use Rattle.replay_structure.proofs.spots.First.{first, most, front, past, none, passing, found, first-alike}
use Rattle.replay_structure.proofs.spots.Placed.{own, two, block-length}
use Rattle.replay_structure.proofs.spots.Looked.{looks, other-name}
use Rattle.replay_runs.proofs.found.Blocks.{old-other, doubles, both-length, own-other, block-other, looked}

-- ---- one task

module _ (g : Setting) (old : ℕ → Bool) (u : ℕ) (name : NameId) (apart : AreDoublesApart g.program old (own g u)) (is : first (looks u name) (own g u) < length (own g u)) where
  abbrev k : ℕ
  k = length (own g u)

  abbrev id : NameId
  id = double_id g.program name

  -- what is known of one of the entries beside all
  abbrev IsTold : EntryInfo → Type 0
  IsTold y = (old (double_id g.program y.name).0 ≡ false) × AllByRecursion (λ (x : EntryInfo). (double_id g.program y.name).0 ≡ (double_id g.program x.name).0 → y.name.0 ≡ x.name.0) (own g u)

  -- the entry that is found
  hit : (y : EntryInfo) × IsTold y × (looks u name y ≡ true)
  hit =
      passing (looks u name) IsTold (own g u)
      (all_paired (λ (y : EntryInfo). old (double_id g.program y.name).0 ≡ false) (λ (y : EntryInfo). AllByRecursion (λ (x : EntryInfo). (double_id g.program y.name).0 ≡ (double_id g.program x.name).0 → y.name.0 ≡ x.name.0) (own g u)) (own g u) apart.added apart.apart)
      is

  same-id : (a b : NameId) → a.0 ≡ b.0 → (double_id g.program a).0 ≡ (double_id g.program b).0
  same-id a b e = ap (λ n. (double_id g.program record { 0 = n }).0) e

  is-named : hit.0.name.0 ≡ name.0
  is-named = equal_is hit.0.name.0 name.0 (and_right (hit.0.owner == u) _ hit.2)

  -- its double has the name of no entry of the task
  own-none : AllByRecursion (λ x. looks u id x ≡ false) (own g u)
  own-none =
      all_weaker (λ (x : EntryInfo). old x.name.0 ≡ true) (λ x. looks u id x ≡ false) (own g u)
      (λ x o. other-name u id x (old-other old x.name.0 id.0 o (ap old (sym (same-id hit.0.name name is-named)) ∙ hit.1.0)))
      apart.named

  -- a double has that name where its entry has the entry's
  same-test : (x : EntryInfo) → ((double_id g.program hit.0.name).0 ≡ (double_id g.program x.name).0 → hit.0.name.0 ≡ x.name.0) → looks u id (double_info g.program x) ≡ looks u name x
  same-test x told = ap (λ b. (x.owner == u) && b) (by_test (x.name.0 == name.0) refl)
    where
      by_test : (b : Bool) → (x.name.0 == name.0) ≡ b → ((double_id g.program x.name).0 == id.0) ≡ b
      by_test true e = eq-eqb (double_id g.program x.name).0 id.0 (same-id x.name name (equal_is x.name.0 name.0 e))
      by_test false e =
          unequal (double_id g.program x.name).0 id.0
          (λ s. let same : x.name.0 ≡ name.0 = sym (told (same-id hit.0.name name is-named ∙ sym s)) ∙ is-named in true-false (sym (eq-eqb x.name.0 name.0 same) ∙ e))
        where
          true-false : true ≡ false → ⊥
          true-false t = cc t

  doubles-first : first (looks u id) (doubles g u) ≡ first (looks u name) (own g u)
  doubles-first =
      prefix-mapped _ (double_info g.program) (own g u)
      ∙ first-alike (λ x. looks u id (double_info g.program x)) (looks u name) (own g u) (all_weaker (λ (x : EntryInfo). (double_id g.program hit.0.name).0 ≡ (double_id g.program x.name).0 → hit.0.name.0 ≡ x.name.0) (λ x. looks u id (double_info g.program x) ≡ looks u name x) (own g u) same-test hit.1.1)

  pub block-found : (after : List EntryInfo) → first (looks u id) (more_infos g u ++ after) ≡ k + first (looks u name) (own g u)
  block-found after =
      let one : first (looks u id) (own g u ++ doubles g u) ≡ k + first (looks u name) (own g u) = past (looks u id) (own g u) (doubles g u) (none (looks u id) (own g u) own-none) ∙ ap (λ n. k + n) doubles-first in
      let both = front (looks u id) (own g u ++ doubles g u) (two g u) (let len = both-length g u in omega (arith, one, len, is)) ∙ one in
      front (looks u id) (more_infos g u) after (let len = block-length g u in omega (arith, both, len, is)) ∙ both

-- ---- all tasks

module _ (g : Setting) (old : ℕ → Bool) (u : ℕ) (name : NameId) where
  -- nothing of later tasks is found
  later-none : (n t : ℕ) → u < t → AllByRecursion (λ x. looks u name x ≡ false) (entries_from g.numbers n t)
  later-none zero t h = tt
  later-none (suc n) t h =
      all_joined (λ x. looks u name x ≡ false) (own g t) (entries_from g.numbers n (t + 1)) (own-other g t u name (unequal_above t u h)) (later-none n (t + 1) (omega (arith, h)))

  placed : (n t : ℕ) → ((v : ℕ) → t ≤ v → v < t + n → AreDoublesApart g.program old (own g v)) → first (looks u name) (entries_from g.numbers n t) < length (entries_from g.numbers n t) →
      first (looks u (double_id g.program name)) (all_infos g n t) ≡ double_place (counts g.numbers n t) (first (looks u name) (entries_from g.numbers n t))
  placed zero t apart h = absurd (omega (arith, h))
  placed (suc n) t apart h = by_owner (t == u) refl (placed n (t + 1) (λ v l m. apart v (omega (arith, l)) (omega (arith, m))))
    where
      k : ℕ
      k = length (own g t)

      ks : List ℕ
      ks = counts g.numbers n (t + 1)

      rest : List EntryInfo
      rest = entries_from g.numbers n (t + 1)

      after : List EntryInfo
      after = all_infos g n (t + 1)

      Goal : Type 0
      Goal = first (looks u (double_id g.program name)) (more_infos g t ++ after) ≡ double_place (k ∷ ks) (first (looks u name) (own g t ++ rest))

      place-first : (m : ℕ) → m < k → double_place (k ∷ ks) m ≡ k + m
      place-first m l = if_true (nat_lt m k) _ _ (lt_true m k l)

      place-behind : (m : ℕ) → double_place (k ∷ ks) (k + m) ≡ (k + k + 2) + double_place ks m
      place-behind m = if_false (nat_lt (k + m) k) _ _ (lt_false (k + m) k (omega arith)) ∙ ap (λ j. (k + k + 2) + double_place ks j) (let e : (k + m) - k ≡ m = omega arith in e)

      other : (t == u) ≡ false → (first (looks u name) rest < length rest → first (looks u (double_id g.program name)) after ≡ double_place ks (first (looks u name) rest)) → Goal
      other e later =
          let split = past (looks u name) (own g t) rest (none (looks u name) (own g t) (own-other g t u name e)) in
          let within : first (looks u name) rest < length rest = (let len = length-append (own g t) rest in omega (arith, split, len, h)) in
          past (looks u (double_id g.program name)) (more_infos g t) after (none (looks u (double_id g.program name)) (more_infos g t) (block-other g t u (double_id g.program name) e))
          ∙ ap₂ (λ a b. a + b) (block-length g t) (later within)
          ∙ sym (ap (double_place (k ∷ ks)) split ∙ place-behind (first (looks u name) rest))

      among : t ≡ u → first (looks u name) (own g t) < k → Goal
      among e l =
          let all = apart t (omega arith) (omega arith) in
          let block : first (looks u (double_id g.program name)) (more_infos g t ++ after) ≡ k + first (looks u name) (own g t) =
          subst (λ v. first (looks v (double_id g.program name)) (more_infos g t ++ after) ≡ k + first (looks v name) (own g t)) e
          (block-found g old t name all (subst (λ v. first (looks v name) (own g t) < k) (sym e) l) after) in
          block ∙ sym (ap (double_place (k ∷ ks)) (front (looks u name) (own g t) rest l) ∙ place-first (first (looks u name) (own g t)) l)

      beyond : t ≡ u → k ≤ first (looks u name) (own g t) → ⊥
      beyond e l =
          let high = most (looks u name) (own g t) in
          let split = past (looks u name) (own g t) rest (omega (arith, high, l)) in
          let last = none (looks u name) rest (later-none n (t + 1) (omega (arith, e))) in
          let len = length-append (own g t) rest in
          omega (arith, split, last, len, h)

      by_place : (b : Bool) → nat_lt (first (looks u name) (own g t)) k ≡ b → t ≡ u → Goal
      by_place true l e = among e (ltb-true _ _ l)
      by_place false l e = absurd (beyond e (not-less _ _ l))

      by_owner : (c : Bool) → (t == u) ≡ c → (first (looks u name) rest < length rest → first (looks u (double_id g.program name)) after ≡ double_place ks (first (looks u name) rest)) → Goal
      by_owner true e later = by_place (nat_lt (first (looks u name) (own g t)) k) refl (eqb-true t u e)
      by_owner false e later = other e later

-- ---- the replay text

module _ (far : Spots) (g : Setting) (old : ℕ → Bool) (order : IsInOrder g.numbers) (apart : HasNamesApart g old) where
  abbrev ks : List ℕ
  ks = counts g.numbers (last_task g.numbers) 1

  each : (v : ℕ) → 1 ≤ v → v < 1 + last_task g.numbers → AreDoublesApart g.program old (own g v)
  each zero l m = absurd (omega (arith, l))
  each (suc t) l m = apart.tasks t (omega (arith, m))

  near : (i : ℕ) → i < total ks → (text_spots far g).shadow (suc i) ≡ suc (double_place ks i)
  near i l = if_true (nat_lt i (total ks)) _ _ (lt_true i (total ks) l)

  finds-doubles : FindsDoubles far g
  finds-doubles u name e named = by_place (position (looks u name) g.numbers.entries) refl named
    where
      by_place : (o : Option ℕ) → position (looks u name) g.numbers.entries ≡ o → option_map (λ k. k + 1) o ≡ Some e → entry_named (numbers_replayed g) u (double_id g.program name) ≡ Some ((text_spots far g).shadow e)
      by_place None at k = absurd (none-some e k)
      by_place (Some i) at k =
          let f = found (looks u name) (entries_from g.numbers (last_task g.numbers) 1) i (ap (position (looks u name)) order.order ∙ at) in
          let within : i < total ks = (let len = total-is g (last_task g.numbers) 1 in let a = f.0 in let b = f.1 in omega (arith, len, a, b)) in
          let one : suc i ≡ e = (let s = some_same k in omega (arith, s)) in
          looked g u (double_id g.program name) (double_place ks i) (placed g old u name (last_task g.numbers) 1 each f.1 ∙ ap (double_place ks) f.0) (double-within ks i within)
          ∙ ap Some (sym (near i within) ∙ ap (text_spots far g).shadow one)

pub doubles_are_found : DoublesAreFound
doubles_are_found far g old order apart = finds-doubles far g old order apart

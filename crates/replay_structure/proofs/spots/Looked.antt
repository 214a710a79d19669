-- What a look-up by a task and a name finds among the entries of a replay text.
use Rattle.std.proofs.Common.{◌≡◌, ℕ, zero, suc, ◌+◌, ◌-◌, ◌<◌, ◌≤◌, ◌==◌, ◌&&◌, nat_lt, Bool, true, false, not, cond, List, [], ◌∷◌, ◌++◌, length, map, position, option_map, Option, Some, None, refl, sym, ap, ap₂, ◌∙◌, subst, length-append, arith}
use Rattle.std.specs.List.{filter}
use Rattle.std.proofs.lemmas.Bool.{eqb-true, ltb-true, eq-eqb}
use Rattle.std.proofs.lemmas.List.{length-map}
use Rattle.std.proofs.lemmas.Option.{none-some}
use Rattle.ada_tree.specs.declared.naming.NameId.{NameId}
use Rattle.syn_event.specs.declared.numbering.EntryInfo.{EntryInfo}
use Rattle.syn_event.specs.Numbering.{entry_named}
use Rattle.syn_event.specs.AddedNames.{with_origin}
use Rattle.task_model.specs.Setting.{Setting}
use Rattle.replay_model.specs.Names.{go_text, done_text, hold_text, stop_text, rest_text, never_text, join_text, replay_names, added_id}
use Rattle.replay_model.specs.ReplayTree.{last_task}
use Rattle.replay_model.specs.ReplayNumbers.{plain_info, family_info, double_info, own_entries, more_infos, all_infos, added_infos, numbers_replayed}
use Rattle.run_laws.specs.replaying.Copies.{Spots}
use Rattle.replay_structure.proofs.texts.Rooted.{ids-apart}
use Rattle.replay_structure.proofs.texts.Stripped.{place-mapped}
use Rattle.replay_structure.specs.spots.Places.{total, end_place, original_place, counts, entries_from, text_spots}
use Rattle.replay_structure.specs.spots.Laws.{IsInOrder, EntriesAreFound, AreFound, AddedAreFound}
use Rattle.replay_structure.proofs.spots.First.{first, most, front, past, more, both-past, there, found}
use Rattle.replay_structure.proofs.spots.Sorted.{not-less, original-within}
use Rattle.replay_structure.proofs.spots.Placed.{end-is, total-is}
use Rattle.common_lemmas.proofs.Numbers.{lt_false, lt_true, unequal_above, unequal_turned}
use Rattle.common_lemmas.proofs.Options.{some_same}
use Rattle.common_lemmas.proofs.Truth.{if_false, if_true, and_false}
use Rattle.common_lemmas.proofs.Lists.{texts_differ}

-- the test of a look-up
abbrev pub looks : ℕ → NameId → EntryInfo → Bool
looks u id x = (x.owner == u) && (x.name.0 == id.0)

pub other-owner : (u : ℕ) (id : NameId) (x : EntryInfo) → (x.owner == u) ≡ false → looks u id x ≡ false
other-owner u id x e = ap (λ b. b && (x.name.0 == id.0)) e

pub other-name : (u : ℕ) (id : NameId) (x : EntryInfo) → (x.name.0 == id.0) ≡ false → looks u id x ≡ false
other-name u id x e = ap (λ b. (x.owner == u) && b) e ∙ and_false (x.owner == u)

-- a test that only entries of the task u pass
module _ (g : Setting) (u : ℕ) (test : EntryInfo → Bool) (test-other : (x : EntryInfo) → (x.owner == u) ≡ false → test x ≡ false) where
  own : ℕ → List EntryInfo
  own t = own_entries g.numbers t

  module _ (t : ℕ) (other : (t == u) ≡ false) where
    owner-other : (x : EntryInfo) → (x.owner == t) ≡ true → (x.owner == u) ≡ false
    owner-other x e = ap (λ n. n == u) (eqb-true x.owner t e) ∙ other

    filtered : (h : EntryInfo → EntryInfo) → ((x : EntryInfo) → (h x).owner ≡ x.owner) → (xs : List EntryInfo) →
        first test (map h (filter (λ x. x.owner == t) xs)) ≡ length (map h (filter (λ x. x.owner == t) xs))
    filtered h keeps [] = refl
    filtered h keeps (x ∷ xs) = by_test (x.owner == t) refl (filtered h keeps xs)
      where
        by_test : (b : Bool) → (x.owner == t) ≡ b → first test (map h (filter (λ x. x.owner == t) xs)) ≡ length (map h (filter (λ x. x.owner == t) xs)) →
            first test (map h (cond b (x ∷ filter (λ x. x.owner == t) xs) (filter (λ x. x.owner == t) xs))) ≡ length (map h (cond b (x ∷ filter (λ x. x.owner == t) xs) (filter (λ x. x.owner == t) xs)))
        by_test true e k = more test (h x) (map h (filter (λ x. x.owner == t) xs)) (test-other (h x) (ap (λ n. n == u) (keeps x) ∙ owner-other x e)) k
        by_test false e k = k

    map-same : (xs : List EntryInfo) → map (λ (x : EntryInfo). x) xs ≡ xs
    map-same [] = refl
    map-same (x ∷ xs) = ap (λ l. x ∷ l) (map-same xs)

    own-past : first test (own_entries g.numbers t) ≡ length (own_entries g.numbers t)
    own-past = subst (λ l. first test l ≡ length l) (map-same (own_entries g.numbers t)) (filtered (λ (x : EntryInfo). x) (λ x. refl) g.numbers.entries)

    -- nothing of another task passes
    more-past : first test (more_infos g t) ≡ length (more_infos g t)
    more-past =
        both-past test (own_entries g.numbers t ++ map (double_info g.program) (own_entries g.numbers t)) (plain_info g.program t never_text ∷ plain_info g.program t join_text ∷ [])
        (both-past test (own_entries g.numbers t) (map (double_info g.program) (own_entries g.numbers t)) own-past (filtered (double_info g.program) (λ x. refl) g.numbers.entries))
        (more test (plain_info g.program t never_text) (plain_info g.program t join_text ∷ []) (test-other (plain_info g.program t never_text) other)
        (more test (plain_info g.program t join_text) [] (test-other (plain_info g.program t join_text) other) refl))

  -- nothing of later tasks, and nothing of earlier ones
  later-past : (n t : ℕ) → u < t → first test (entries_from g.numbers n t) ≡ length (entries_from g.numbers n t)
  later-past zero t h = refl
  later-past (suc n) t h = both-past test (own_entries g.numbers t) (entries_from g.numbers n (t + 1)) (own-past t (unequal_above t u h)) (later-past n (t + 1) (omega (arith, h)))

  earlier-past : (n t : ℕ) → t + n ≤ u → first test (all_infos g n t) ≡ length (all_infos g n t)
  earlier-past zero t h = refl
  earlier-past (suc n) t h = both-past test (more_infos g t) (all_infos g n (t + 1)) (more-past t (unequal_turned u t (unequal_above u t (omega (arith, h))))) (earlier-past n (t + 1) (omega (arith, h)))

  -- ---- an entry of the program

  placed : (n t : ℕ) → first test (entries_from g.numbers n t) < length (entries_from g.numbers n t) →
      first test (all_infos g n t) ≡ original_place (counts g.numbers n t) (first test (entries_from g.numbers n t))
  placed zero t h = absurd (omega (arith, h))
  placed (suc n) t h = by_test (nat_lt (first test (own_entries g.numbers t)) (length (own_entries g.numbers t))) refl (placed n (t + 1))
    where
      k : ℕ
      k = length (own_entries g.numbers t)

      rest : List EntryInfo
      rest = entries_from g.numbers n (t + 1)

      after : List EntryInfo
      after = all_infos g n (t + 1)

      Goal : Type 0
      Goal = first test (more_infos g t ++ after) ≡ original_place (length (own_entries g.numbers t) ∷ counts g.numbers n (t + 1)) (first test (own_entries g.numbers t ++ rest))

      place-first : (m : ℕ) → m < k → original_place (k ∷ counts g.numbers n (t + 1)) m ≡ m
      place-first m l = if_true (nat_lt m k) _ _ (lt_true m k l)

      place-behind : (m : ℕ) → original_place (k ∷ counts g.numbers n (t + 1)) (k + m) ≡ (k + k + 2) + original_place (counts g.numbers n (t + 1)) m
      place-behind m =
          if_false (nat_lt (k + m) k) _ _ (lt_false (k + m) k (omega arith)) ∙ ap (λ j. (k + k + 2) + original_place (counts g.numbers n (t + 1)) j) (let e : (k + m) - k ≡ m = omega arith in e)

      more-length : length (more_infos g t) ≡ k + k + 2
      more-length =
          length-append (own_entries g.numbers t ++ map (double_info g.program) (own_entries g.numbers t)) (plain_info g.program t never_text ∷ plain_info g.program t join_text ∷ [])
          ∙ ap (λ m. m + 2) (length-append (own_entries g.numbers t) (map (double_info g.program) (own_entries g.numbers t)) ∙ ap (λ m. k + m) (length-map (own_entries g.numbers t) (double_info g.program)))

      among-own : first test (own_entries g.numbers t) < k → Goal
      among-own l =
          let enough : k ≤ length (own_entries g.numbers t ++ map (double_info g.program) (own_entries g.numbers t)) = (let e = length-append (own_entries g.numbers t) (map (double_info g.program) (own_entries g.numbers t)) in omega (arith, e)) in
          let one = front test (own_entries g.numbers t) (map (double_info g.program) (own_entries g.numbers t)) l in
          let two = front test (own_entries g.numbers t ++ map (double_info g.program) (own_entries g.numbers t)) (plain_info g.program t never_text ∷ plain_info g.program t join_text ∷ []) (omega (arith, one, l, enough)) ∙ one in
          front test (more_infos g t) after (let e = more-length in omega (arith, two, l, e))
          ∙ two
          ∙ sym (ap (original_place (k ∷ counts g.numbers n (t + 1))) (front test (own_entries g.numbers t) rest l) ∙ place-first (first test (own_entries g.numbers t)) l)

      behind-own : first test (own_entries g.numbers t) ≡ k → (t == u) ≡ false → (first test rest < length rest → first test after ≡ original_place (counts g.numbers n (t + 1)) (first test rest)) → Goal
      behind-own e other later =
          let split = past test (own_entries g.numbers t) rest e in
          let within : first test rest < length rest = (let len = length-append (own_entries g.numbers t) rest in omega (arith, split, len, h)) in
          past test (more_infos g t) after (more-past t other)
          ∙ ap₂ (λ a b. a + b) more-length (later within)
          ∙ sym (ap (original_place (k ∷ counts g.numbers n (t + 1))) split ∙ place-behind (first test rest))

      none-left : first test (own_entries g.numbers t) ≡ k → (t == u) ≡ true → ⊥
      none-left e same =
          let split = past test (own_entries g.numbers t) rest e in
          let none = later-past n (t + 1) (let s : t ≡ u = eqb-true t u same in omega (arith, s)) in
          let len = length-append (own_entries g.numbers t) rest in
          omega (arith, split, none, len, h)

      by_owner : (c : Bool) → (t == u) ≡ c → first test (own_entries g.numbers t) ≡ k → (first test rest < length rest → first test after ≡ original_place (counts g.numbers n (t + 1)) (first test rest)) → Goal
      by_owner true same e later = absurd (none-left e same)
      by_owner false other e later = behind-own e other later

      by_test : (b : Bool) → nat_lt (first test (own_entries g.numbers t)) k ≡ b → (first test rest < length rest → first test after ≡ original_place (counts g.numbers n (t + 1)) (first test rest)) → Goal
      by_test true e later = among-own (ltb-true _ _ e)
      by_test false e later =
          let full : first test (own_entries g.numbers t) ≡ k = (let low = not-less _ _ e in let high = most test (own_entries g.numbers t) in omega (arith, low, high)) in
          by_owner (t == u) refl full later

  -- ---- the replay text

  abbrev infos : List EntryInfo
  infos = all_infos g (last_task g.numbers) 1 ++ added_infos g.program (last_task g.numbers)

  -- the first of the program's entries that passes stands in front of whatever else passes
  pub first-own : (i : ℕ) → IsInOrder g.numbers → position test g.numbers.entries ≡ Some i →
      (i < total (counts g.numbers (last_task g.numbers) 1)) × (first test infos ≡ original_place (counts g.numbers (last_task g.numbers) 1) i) × (original_place (counts g.numbers (last_task g.numbers) 1) i < length infos)
  first-own i order at =
      let ks = counts g.numbers (last_task g.numbers) 1 in
      let f = found test (entries_from g.numbers (last_task g.numbers) 1) i (ap (position test) order.order ∙ at) in
      let within : i < total ks = (let len = total-is g (last_task g.numbers) 1 in let a = f.0 in let b = f.1 in omega (arith, len, a, b)) in
      let place = placed (last_task g.numbers) 1 f.1 ∙ ap (original_place ks) f.0 in
      let low : original_place ks i < length (all_infos g (last_task g.numbers) 1) = (let w = original-within ks i within in let len = end-is g (last_task g.numbers) 1 in omega (arith, w, len)) in (
        within,
        front test (all_infos g (last_task g.numbers) 1) (added_infos g.program (last_task g.numbers)) (omega (arith, place, low)) ∙ place,
        (let len = length-append (all_infos g (last_task g.numbers) 1) (added_infos g.program (last_task g.numbers)) in omega (arith, low, len)),
      )

-- a look-up in the numbers of the replay text
looked : (g : Setting) (u : ℕ) (id : NameId) (m : ℕ) → first (looks u id) (infos g u (looks u id) (other-owner u id)) ≡ m → m < length (infos g u (looks u id) (other-owner u id)) → entry_named (numbers_replayed g) u id ≡ Some (m + 1)
looked g u id m e l =
    let xs = infos g u (looks u id) (other-owner u id) in
    ap (option_map (λ k. k + 1)) (place-mapped (looks u id) (with_origin (replay_names g.program) xs) xs ∙ there (looks u id) xs (subst (λ n. n < length xs) (sym e) l)) ∙ ap (λ k. Some (k + 1)) e

pub entries_are_found : EntriesAreFound
entries_are_found far g order u id e named = by_place (position (looks u id) g.numbers.entries) refl named
  where
    ks : List ℕ
    ks = counts g.numbers (last_task g.numbers) 1

    near : (i : ℕ) → i < total ks → (text_spots far g).original (suc i) ≡ suc (original_place ks i)
    near i l = if_true (nat_lt i (total ks)) _ _ (lt_true i (total ks) l)

    by_place : (o : Option ℕ) → position (looks u id) g.numbers.entries ≡ o → option_map (λ k. k + 1) o ≡ Some e → entry_named (numbers_replayed g) u id ≡ Some ((text_spots far g).original e)
    by_place None at k = absurd (none-some e k)
    by_place (Some i) at k =
        let f = first-own g u (looks u id) (other-owner u id) i order at in
        let one : suc i ≡ e = (let s = some_same k in omega (arith, s)) in
        looked g u id (original_place ks i) f.1 f.2
        ∙ ap Some ((let s : original_place ks i + 1 ≡ suc (original_place ks i) = omega arith in s) ∙ sym (near i f.0) ∙ ap (text_spots far g).original one)

-- ---- the last entries

module _ (far : Spots) (g : Setting) where
  abbrev last : ℕ
  last = last_task g.numbers

  -- the j-th of the last entries is found where those before it do not pass
  late : (u : ℕ) (id : NameId) (j : ℕ) → last < u → j < 5 → first (looks u id) (added_infos g.program last) ≡ j →
      entry_named (numbers_replayed g) u id ≡ Some (end_place (counts g.numbers last 1) + suc j)
  late u id j behind small at =
      let none = earlier-past g u (looks u id) (other-owner u id) last 1 (omega (arith, behind)) in
      let len = end-is g last 1 in
      let all = past (looks u id) (all_infos g last 1) (added_infos g.program last) none in
      let place : first (looks u id) (all_infos g last 1 ++ added_infos g.program last) ≡ end_place (counts g.numbers last 1) + j = omega (arith, all, len, at) in
      looked g u id (end_place (counts g.numbers last 1) + j) place (let both = length-append (all_infos g last 1) (added_infos g.program last) in omega (arith, both, len, small))
      ∙ ap Some (let s : (end_place (counts g.numbers last 1) + j) + 1 ≡ end_place (counts g.numbers last 1) + suc j = omega arith in s)

  hit : (u : ℕ) (id : NameId) (x : EntryInfo) (xs : List EntryInfo) → x.owner ≡ u → x.name.0 ≡ id.0 → first (looks u id) (x ∷ xs) ≡ 0
  hit u id x xs e n = ap₂ (λ (a b : Bool). cond (not (a && b)) (1 + first (looks u id) xs) 0) (eq-eqb x.owner u e) (eq-eqb x.name.0 id.0 n)

  miss : (u : ℕ) (id : NameId) (x : EntryInfo) (xs : List EntryInfo) (j : ℕ) → looks u id x ≡ false → first (looks u id) xs ≡ j → first (looks u id) (x ∷ xs) ≡ 1 + j
  miss u id x xs j e h = ap₂ (λ (b : Bool) n. cond (not b) (1 + n) 0) e h

  -- the entries of the idle task are no entries of the controller
  before-idle : (last + 1 == last + 2) ≡ false
  before-idle = unequal_turned (last + 2) (last + 1) (unequal_above (last + 2) (last + 1) (omega arith))

  pub are_found : AreFound far g
  are_found = record {
    go = late (last + 1) (id go_text) 0 (omega arith) (omega arith) (hit (last + 1) (id go_text) go (done ∷ hold ∷ stop ∷ rest ∷ []) refl refl);
    done =
        late (last + 1) (id done_text) 1 (omega arith) (omega arith)
        (miss (last + 1) (id done_text) go (done ∷ hold ∷ stop ∷ rest ∷ []) 0 (other-name (last + 1) (id done_text) go (ids-apart g.program go_text done_text refl refl (texts_differ go_text done_text refl))) (hit (last + 1) (id done_text) done (hold ∷ stop ∷ rest ∷ []) refl refl));
    hold =
        late (last + 1) (id hold_text) 2 (omega arith) (omega arith)
        (miss (last + 1) (id hold_text) go (done ∷ hold ∷ stop ∷ rest ∷ []) 1 (other-name (last + 1) (id hold_text) go (ids-apart g.program go_text hold_text refl refl (texts_differ go_text hold_text refl)))
        (miss (last + 1) (id hold_text) done (hold ∷ stop ∷ rest ∷ []) 0 (other-name (last + 1) (id hold_text) done (ids-apart g.program done_text hold_text refl refl (texts_differ done_text hold_text refl))) (hit (last + 1) (id hold_text) hold (stop ∷ rest ∷ []) refl refl)));
    stop = late (last + 2) (id stop_text) 3 (omega arith) (omega arith) (of_idle (id stop_text) 0 (hit (last + 2) (id stop_text) stop (rest ∷ []) refl refl));
    rest =
        late (last + 2) (id rest_text) 4 (omega arith) (omega arith)
        (of_idle (id rest_text) 1 (miss (last + 2) (id rest_text) stop (rest ∷ []) 0 (other-name (last + 2) (id rest_text) stop (ids-apart g.program stop_text rest_text refl refl (texts_differ stop_text rest_text refl))) (hit (last + 2) (id rest_text) rest [] refl refl)));
  }
    where
      id : List ℕ → NameId
      id text = added_id g.program text

      go : EntryInfo
      go = family_info g.program (last + 1) go_text last

      done : EntryInfo
      done = family_info g.program (last + 1) done_text last

      hold : EntryInfo
      hold = plain_info g.program (last + 1) hold_text

      stop : EntryInfo
      stop = plain_info g.program (last + 2) stop_text

      rest : EntryInfo
      rest = plain_info g.program (last + 2) rest_text

      of_idle : (name : NameId) (j : ℕ) → first (looks (last + 2) name) (stop ∷ rest ∷ []) ≡ j → first (looks (last + 2) name) (go ∷ done ∷ hold ∷ stop ∷ rest ∷ []) ≡ 3 + j
      of_idle name j h =
          miss (last + 2) name go (done ∷ hold ∷ stop ∷ rest ∷ []) (1 + (1 + j)) (other-owner (last + 2) name go before-idle)
          (miss (last + 2) name done (hold ∷ stop ∷ rest ∷ []) (1 + j) (other-owner (last + 2) name done before-idle) (miss (last + 2) name hold (stop ∷ rest ∷ []) j (other-owner (last + 2) name hold before-idle) h))
          ∙ (let e : 1 + (1 + (1 + j)) ≡ 3 + j = omega arith in e)

pub added_are_found : AddedAreFound
added_are_found far g = are_found far g

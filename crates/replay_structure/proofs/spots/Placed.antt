-- What stands at the places of a replay text's entries.
use Rattle.std.proofs.Common.{◌≡◌, ℕ, zero, suc, ◌+◌, ◌-◌, ◌<◌, ◌≤◌, ◌==◌, nat_lt, Bool, true, false, if◌then◌else◌, List, [], ◌∷◌, ◌++◌, length, map, slice_get, option_map, Option, Some, None, refl, sym, ap, ap₂, ◌∙◌, subst, length-append, arith}
use Rattle.std.specs.Option.{option_map_or}
use Rattle.std.proofs.lemmas.Bool.{ltb-true}
use Rattle.std.proofs.lemmas.List.{length-map, append_assoc}
use Rattle.std.proofs.lemmas.Option.{none-some, slice_get-map, slice_get-get_or, slice_get_within}
use Rattle.syn_event.specs.declared.numbering.EntryInfo.{EntryInfo}
use Rattle.syn_event.specs.Numbering.{Numbering, entry_at, owner_of}
use Rattle.syn_event.specs.AddedNames.{with_origin}
use Rattle.task_model.specs.Setting.{Setting}
use Rattle.replay_model.specs.Names.{never_text, join_text, replay_names}
use Rattle.replay_model.specs.ReplayTree.{last_task}
use Rattle.replay_model.specs.ReplayNumbers.{plain_info, double_info, own_entries, more_infos, all_infos, added_infos, numbers_replayed}
use Rattle.run_laws.specs.replaying.Copies.{Spots, HasOwners}
use Rattle.task_laws.proofs.legal.rewritten_types.Lookups.{place-more}
use Rattle.replay_structure.specs.spots.Places.{total, end_place, original_place, double_place, never_place, join_place, bound, number_or, counts, entries_from, text_spots}
use Rattle.replay_structure.specs.spots.Laws.{IsInOrder, IsThere, AreThere, SpotsAreThere, SpotsHaveOwners}
use Rattle.replay_structure.proofs.spots.Sorted.{not-less}
use Rattle.common_lemmas.proofs.Numbers.{lt_false, lt_true, unequal_above}
use Rattle.common_lemmas.proofs.Truth.{if_false, if_true}

-- ---- places in lists

-- what stands behind the first list
pub place-past : {A : Type 0} (xs ys : List A) (n m : ℕ) → n ≡ length xs → slice_get (xs ++ ys) (n + m) ≡ slice_get ys m
place-past [] ys n m e = ap (slice_get ys) (let s : n + m ≡ m = omega (arith, e) in s)
place-past (x ∷ xs) ys zero m e = let h : ⊥ = omega (arith, e) in absurd h
place-past (x ∷ xs) ys (suc n) m e = ap (slice_get (x ∷ xs ++ ys)) (let s : suc n + m ≡ suc (n + m) = omega arith in s) ∙ place-past xs ys n m (omega (arith, e))

-- what stands in the first list
place-front : {A : Type 0} (xs ys : List A) (i : ℕ) (x : A) → i < length xs → slice_get (xs ++ ys) i ≡ Some x → slice_get xs i ≡ Some x
place-front [] ys i x h e = absurd (omega (arith, h))
place-front (y ∷ xs) ys zero x h e = e
place-front (y ∷ xs) ys (suc i) x h e = place-front xs ys i x (omega (arith, h)) e

past-end : {A : Type 0} (xs : List A) (i : ℕ) → length xs ≤ i → slice_get xs i ≡ None
past-end [] i h = refl
past-end (x ∷ xs) zero h = absurd (omega (arith, h))
past-end (x ∷ xs) (suc i) h = past-end xs i (omega (arith, h))

back-again : (k i : ℕ) → k ≤ i → i ≡ k + (i - k)
back-again k i h = omega (arith, h)

-- an entry by its place
pub entry-suc : (numbers : Numbering) (m : ℕ) → entry_at numbers (suc m) ≡ slice_get numbers.entries m
entry-suc numbers m = if_false (suc m == 0) _ _ (unequal_above (suc m) 0 (omega arith)) ∙ ap (slice_get numbers.entries) (let s : suc m - 1 ≡ m = omega arith in s)

module _ (g : Setting) where
  abbrev pub own : ℕ → List EntryInfo
  own t = own_entries g.numbers t

  abbrev pub two : ℕ → List EntryInfo
  two t = plain_info g.program t never_text ∷ plain_info g.program t join_text ∷ []

  -- how many entries a task has
  pub block-length : (t : ℕ) → length (more_infos g t) ≡ length (own t) + length (own t) + 2
  block-length t =
      length-append (own t ++ map (double_info g.program) (own t)) (two t)
      ∙ ap (λ n. n + 2) (length-append (own t) (map (double_info g.program) (own t)) ∙ ap (λ n. length (own t) + n) (length-map (own t) (double_info g.program)))

  pub end-is : (n t : ℕ) → length (all_infos g n t) ≡ end_place (counts g.numbers n t)
  end-is zero t = refl
  end-is (suc n) t = length-append (more_infos g t) (all_infos g n (t + 1)) ∙ ap₂ (λ a b. a + b) (block-length t) (end-is n (t + 1))

  pub total-is : (n t : ℕ) → length (entries_from g.numbers n t) ≡ total (counts g.numbers n t)
  total-is zero t = refl
  total-is (suc n) t = length-append (own t) (entries_from g.numbers n (t + 1)) ∙ ap (λ m. length (own t) + m) (total-is n (t + 1))

  pub tasks-are : (n t : ℕ) → length (counts g.numbers n t) ≡ n
  tasks-are zero t = refl
  tasks-are (suc n) t = ap suc (tasks-are n (t + 1))

  -- what stands behind one task
  behind-block : (t : ℕ) (rest : List EntryInfo) (m : ℕ) → slice_get (more_infos g t ++ rest) ((length (own t) + length (own t) + 2) + m) ≡ slice_get rest m
  behind-block t rest m = place-past (more_infos g t) rest (length (own t) + length (own t) + 2) m (sym (block-length t))

  -- what stands behind the entries and their doubles
  behind-doubles : (t : ℕ) (rest : List EntryInfo) (m : ℕ) → slice_get (more_infos g t ++ rest) ((length (own t) + length (own t)) + m) ≡ slice_get (two t ++ rest) m
  behind-doubles t rest m =
      ap (λ l. slice_get l ((length (own t) + length (own t)) + m)) (append_assoc (own t ++ map (double_info g.program) (own t)) (two t) rest)
      ∙ place-past (own t ++ map (double_info g.program) (own t)) (two t ++ rest) (length (own t) + length (own t)) m
      (sym (length-append (own t) (map (double_info g.program) (own t)) ∙ ap (λ n. length (own t) + n) (length-map (own t) (double_info g.program))))

  -- ---- all tasks

  pub original-there : (n t i : ℕ) (x : EntryInfo) → slice_get (entries_from g.numbers n t) i ≡ Some x → slice_get (all_infos g n t) (original_place (counts g.numbers n t) i) ≡ Some x
  original-there zero t i x at = absurd (none-some x at)
  original-there (suc n) t i x at = by_test (nat_lt i (length (own t))) refl (original-there n (t + 1) (i - length (own t)) x)
    where
      by_test : (b : Bool) → nat_lt i (length (own t)) ≡ b →
          (slice_get (entries_from g.numbers n (t + 1)) (i - length (own t)) ≡ Some x → slice_get (all_infos g n (t + 1)) (original_place (counts g.numbers n (t + 1)) (i - length (own t))) ≡ Some x) →
          slice_get (more_infos g t ++ all_infos g n (t + 1)) (if b then i else (length (own t) + length (own t) + 2) + original_place (counts g.numbers n (t + 1)) (i - length (own t))) ≡ Some x
      by_test true e later =
          place-more (more_infos g t) (all_infos g n (t + 1)) i x
          (place-more (own t ++ map (double_info g.program) (own t)) (two t) i x
          (place-more (own t) (map (double_info g.program) (own t)) i x (place-front (own t) (entries_from g.numbers n (t + 1)) i x (ltb-true i (length (own t)) e) at)))
      by_test false e later =
          behind-block t (all_infos g n (t + 1)) _
          ∙ later
          (sym (place-past (own t) (entries_from g.numbers n (t + 1)) (length (own t)) (i - length (own t)) refl)
          ∙ ap (slice_get (own t ++ entries_from g.numbers n (t + 1))) (sym (back-again (length (own t)) i (not-less i (length (own t)) e))) ∙ at)

  pub double-there : (n t i : ℕ) (x : EntryInfo) → slice_get (entries_from g.numbers n t) i ≡ Some x → slice_get (all_infos g n t) (double_place (counts g.numbers n t) i) ≡ Some (double_info g.program x)
  double-there zero t i x at = absurd (none-some x at)
  double-there (suc n) t i x at = by_test (nat_lt i (length (own t))) refl (double-there n (t + 1) (i - length (own t)) x)
    where
      by_test : (b : Bool) → nat_lt i (length (own t)) ≡ b →
          (slice_get (entries_from g.numbers n (t + 1)) (i - length (own t)) ≡ Some x → slice_get (all_infos g n (t + 1)) (double_place (counts g.numbers n (t + 1)) (i - length (own t))) ≡ Some (double_info g.program x)) →
          slice_get (more_infos g t ++ all_infos g n (t + 1)) (if b then length (own t) + i else (length (own t) + length (own t) + 2) + double_place (counts g.numbers n (t + 1)) (i - length (own t))) ≡ Some (double_info g.program x)
      by_test true e later =
          place-more (more_infos g t) (all_infos g n (t + 1)) (length (own t) + i) (double_info g.program x)
          (place-more (own t ++ map (double_info g.program) (own t)) (two t) (length (own t) + i) (double_info g.program x)
          (place-past (own t) (map (double_info g.program) (own t)) (length (own t)) i refl
          ∙ slice_get-map (double_info g.program) (own t) i
          ∙ ap (option_map (double_info g.program)) (place-front (own t) (entries_from g.numbers n (t + 1)) i x (ltb-true i (length (own t)) e) at)))
      by_test false e later =
          behind-block t (all_infos g n (t + 1)) _
          ∙ later
          (sym (place-past (own t) (entries_from g.numbers n (t + 1)) (length (own t)) (i - length (own t)) refl)
          ∙ ap (slice_get (own t ++ entries_from g.numbers n (t + 1))) (sym (back-again (length (own t)) i (not-less i (length (own t)) e))) ∙ at)

  pub never-there : (n t j : ℕ) → j < n → slice_get (all_infos g n t) (never_place (counts g.numbers n t) j) ≡ Some (plain_info g.program (t + j) never_text)
  never-there zero t j h = absurd (omega (arith, h))
  never-there (suc n) t zero h =
      ap (slice_get (more_infos g t ++ all_infos g n (t + 1))) (plus-none (length (own t) + length (own t)))
      ∙ behind-doubles t (all_infos g n (t + 1)) 0 ∙ ap (λ u. Some (plain_info g.program u never_text)) (plus-none t)
    where
      plus-none : (m : ℕ) → m ≡ m + 0
      plus-none m = omega arith
  never-there (suc n) t (suc j) h =
      behind-block t (all_infos g n (t + 1)) (never_place (counts g.numbers n (t + 1)) j)
      ∙ never-there n (t + 1) j (omega (arith, h)) ∙ ap (λ u. Some (plain_info g.program u never_text)) (let s : (t + 1) + j ≡ t + suc j = omega arith in s)

  pub join-there : (n t j : ℕ) → j < n → slice_get (all_infos g n t) (join_place (counts g.numbers n t) j) ≡ Some (plain_info g.program (t + j) join_text)
  join-there zero t j h = absurd (omega (arith, h))
  join-there (suc n) t zero h =
      behind-doubles t (all_infos g n (t + 1)) 1 ∙ ap (λ u. Some (plain_info g.program u join_text)) (let s : t ≡ t + 0 = omega arith in s)
  join-there (suc n) t (suc j) h =
      behind-block t (all_infos g n (t + 1)) (join_place (counts g.numbers n (t + 1)) j)
      ∙ join-there n (t + 1) j (omega (arith, h)) ∙ ap (λ u. Some (plain_info g.program u join_text)) (let s : (t + 1) + j ≡ t + suc j = omega arith in s)

  -- ---- numbers of the replay text

  abbrev pub last : ℕ
  last = last_task g.numbers

  abbrev pub ks : List ℕ
  ks = counts g.numbers last 1

  abbrev pub infos : List EntryInfo
  infos = all_infos g last 1 ++ added_infos g.program last

  abbrev pub Q : Numbering
  Q = numbers_replayed g

  length-is : length infos ≡ bound ks
  length-is = length-append (all_infos g last 1) (added_infos g.program last) ∙ ap (λ n. n + 5) (end-is last 1)

  pub entries-long : length Q.entries ≡ bound ks
  entries-long = length-map infos (with_origin (replay_names g.program) infos) ∙ length-is

  -- an entry by its place
  entry-by : (m : ℕ) → entry_at Q (suc m) ≡ option_map (with_origin (replay_names g.program) infos) (slice_get infos m)
  entry-by m = entry-suc Q m ∙ slice_get-map (with_origin (replay_names g.program) infos) infos m

  there : (m e : ℕ) (x : EntryInfo) → e ≡ suc m → slice_get infos m ≡ Some x → IsThere Q e x
  there m e x s at = record {
    found = with_origin (replay_names g.program) infos x;
    at = ap (entry_at Q) s ∙ entry-by m ∙ ap (option_map (with_origin (replay_names g.program) infos)) at;
    same = record { name = refl; owner = refl; family = refl; first = refl; last = refl; added = refl };
  }

  -- one of the tasks' entries
  there-own : (m e : ℕ) (x : EntryInfo) → e ≡ suc m → slice_get (all_infos g last 1) m ≡ Some x → IsThere Q e x
  there-own m e x s at = there m e x s (place-more (all_infos g last 1) (added_infos g.program last) m x at)

  -- one of the last five
  there-last : (j e : ℕ) (x : EntryInfo) → e ≡ suc (end_place ks + j) → slice_get (added_infos g.program last) j ≡ Some x → IsThere Q e x
  there-last j e x s at = there (end_place ks + j) e x s (place-past (all_infos g last 1) (added_infos g.program last) (end_place ks) j (sym (end-is last 1)) ∙ at)

  -- a number of what is there, and of what is not
  pub near : (n i : ℕ) (f h : ℕ → ℕ) → i < n → number_or ks n f h (suc i) ≡ suc (f i)
  near n i f h l = if_true (nat_lt i n) _ _ (lt_true i n l)

  nobody : (m : ℕ) → bound ks ≤ m → owner_of Q (suc m) ≡ 0
  nobody m h = ap (λ o. option_map_or (λ (info : EntryInfo). info.owner) o 0) (entry-by m ∙ ap (option_map (with_origin (replay_names g.program) infos)) (past-end infos m (subst (λ n. n ≤ m) (sym length-is) h)))

  nobody-far : (n i : ℕ) (f h : ℕ → ℕ) → n ≤ i → owner_of Q (number_or ks n f h (suc i)) ≡ 0
  nobody-far n i f h l = ap (owner_of Q) (if_false (nat_lt i n) _ _ (lt_false i n l)) ∙ nobody (bound ks + h (suc i)) (omega arith)

  pub owner-there : (e : ℕ) (x : EntryInfo) → IsThere Q e x → owner_of Q e ≡ x.owner
  owner-there e x h = ap (λ o. option_map_or (λ (info : EntryInfo). info.owner) o 0) h.at ∙ h.same.owner

  module _ (order : IsInOrder g.numbers) where
    -- an entry of the program by its number
    entry-place : (i : ℕ) (x : EntryInfo) → entry_at g.numbers (suc i) ≡ Some x → slice_get (entries_from g.numbers last 1) i ≡ Some x
    entry-place i x at = ap (λ l. slice_get l i) order.order ∙ sym (entry-suc g.numbers i) ∙ at

    entry-within : (i : ℕ) (x : EntryInfo) → entry_at g.numbers (suc i) ≡ Some x → i < total ks
    entry-within i x at = subst (λ n. i < n) (total-is last 1) (slice_get_within (entries_from g.numbers last 1) i x (entry-place i x at))

    pub are_there : (far : Spots) → AreThere far g
    are_there far = record {
      original = λ e x at. original e x at;
      shadow = λ e x at. shadow e x at;
      never = λ t l. there-own (never_place ks t) _ _ (near (length ks) t (never_place ks) far.never (subst (λ n. t < n) (sym (tasks-are last 1)) l)) (never-there last 1 t l ∙ ap (λ u. Some (plain_info g.program u never_text)) (one-more t));
      join = λ t l. there-own (join_place ks t) _ _ (near (length ks) t (join_place ks) far.join (subst (λ n. t < n) (sym (tasks-are last 1)) l)) (join-there last 1 t l ∙ ap (λ u. Some (plain_info g.program u join_text)) (one-more t));
      go = there-last 0 _ _ (omega arith) refl;
      done = there-last 1 _ _ (omega arith) refl;
      hold = there-last 2 _ _ (omega arith) refl;
      stop = there-last 3 _ _ (omega arith) refl;
      rest = there-last 4 _ _ (omega arith) refl;
    }
      where
        one-more : (t : ℕ) → 1 + t ≡ suc t
        one-more t = omega arith

        original : (e : ℕ) (x : EntryInfo) → entry_at g.numbers e ≡ Some x → IsThere Q ((text_spots far g).original e) x
        original zero x at = absurd (none-some x at)
        original (suc i) x at = there-own (original_place ks i) ((text_spots far g).original (suc i)) x (near (total ks) i (original_place ks) far.original (entry-within i x at)) (original-there last 1 i x (entry-place i x at))

        shadow : (e : ℕ) (x : EntryInfo) → entry_at g.numbers e ≡ Some x → IsThere Q ((text_spots far g).shadow e) (double_info g.program x)
        shadow zero x at = absurd (none-some x at)
        shadow (suc i) x at = there-own (double_place ks i) ((text_spots far g).shadow (suc i)) (double_info g.program x) (near (total ks) i (double_place ks) far.shadow (entry-within i x at)) (double-there last 1 i x (entry-place i x at))

    -- the double of an entry, with what it stands for
    pub double-at : (far : Spots) (i : ℕ) (x : EntryInfo) → entry_at g.numbers (suc i) ≡ Some x →
        entry_at Q ((text_spots far g).shadow (suc i)) ≡ Some (with_origin (replay_names g.program) infos (double_info g.program x))
    double-at far i x at =
        ap (entry_at Q) (near (total ks) i (double_place ks) far.shadow (entry-within i x at))
        ∙ entry-by (double_place ks i)
        ∙ ap (option_map (with_origin (replay_names g.program) infos)) (place-more (all_infos g last 1) (added_infos g.program last) (double_place ks i) (double_info g.program x) (double-there last 1 i x (entry-place i x at)))

pub spots_are_there : SpotsAreThere
spots_are_there far g order = are_there g order far

-- ---- owners

module _ (g : Setting) (order : IsInOrder g.numbers) (far : Spots) where
  there-all : AreThere far g
  there-all = are_there g order far

  -- who owns what is counted from 1: the owner of what is there, and nobody of the rest
  owned : (n : ℕ) (f h : ℕ → ℕ) (o : ℕ → ℕ) → o 0 ≡ 0 → ((i : ℕ) → n ≤ i → o (suc i) ≡ 0) →
      ((i : ℕ) → i < n → owner_of (numbers_replayed g) (number_or (counts g.numbers (last_task g.numbers) 1) n f h (suc i)) ≡ o (suc i)) →
      (e : ℕ) → owner_of (numbers_replayed g) (number_or (counts g.numbers (last_task g.numbers) 1) n f h e) ≡ o e
  owned n f h o none past near zero = nobody g (bound (counts g.numbers (last_task g.numbers) 1) + h 0) (omega arith) ∙ sym none
  owned n f h o none past near (suc i) = by_test (nat_lt i n) refl
    where
      by_test : (b : Bool) → nat_lt i n ≡ b → owner_of (numbers_replayed g) (number_or (counts g.numbers (last_task g.numbers) 1) n f h (suc i)) ≡ o (suc i)
      by_test true e = near i (ltb-true i n e)
      by_test false e = nobody-far g n i f h (not-less i n e) ∙ sym (past i (not-less i n e))

  -- the entry of a number that there is
  pub some-entry : (i : ℕ) → i < total (counts g.numbers (last_task g.numbers) 1) → (x : EntryInfo) × (entry_at g.numbers (suc i) ≡ Some x)
  some-entry i l = by_place (slice_get g.numbers.entries i) refl
    where
      within : i < length g.numbers.entries
      within = let e : length g.numbers.entries ≡ total (counts g.numbers (last_task g.numbers) 1) = ap length (sym order.order) ∙ total-is g (last_task g.numbers) 1 in omega (arith, e, l)

      by_place : (o : Option EntryInfo) → slice_get g.numbers.entries i ≡ o → (x : EntryInfo) × (entry_at g.numbers (suc i) ≡ Some x)
      by_place (Some x) e = (x, entry-suc g.numbers i ∙ e)
      by_place None e = absurd (none-some _ (sym (sym (slice_get-get_or g.numbers.entries i (plain_info g.program 0 never_text) within) ∙ e)))

  no-entry : (i : ℕ) → total (counts g.numbers (last_task g.numbers) 1) ≤ i → owner_of g.numbers (suc i) ≡ 0
  no-entry i l = ap (λ o. option_map_or (λ (info : EntryInfo). info.owner) o 0) (entry-suc g.numbers i ∙ past-end g.numbers.entries i past)
    where
      past : length g.numbers.entries ≤ i
      past = let e : length g.numbers.entries ≡ total (counts g.numbers (last_task g.numbers) 1) = ap length (sym order.order) ∙ total-is g (last_task g.numbers) 1 in omega (arith, e, l)

  pub its-owner : (e : ℕ) (x : EntryInfo) → entry_at g.numbers e ≡ Some x → owner_of g.numbers e ≡ x.owner
  its-owner e x at = ap (λ o. option_map_or (λ (info : EntryInfo). info.owner) o 0) at

  own-original : (i : ℕ) → i < total (counts g.numbers (last_task g.numbers) 1) → owner_of (numbers_replayed g) ((text_spots far g).original (suc i)) ≡ owner_of g.numbers (suc i)
  own-original i l = let x = some-entry i l in owner-there g _ x.0 (there-all.original (suc i) x.0 x.1) ∙ sym (its-owner (suc i) x.0 x.1)

  own-shadow : (i : ℕ) → i < total (counts g.numbers (last_task g.numbers) 1) → owner_of (numbers_replayed g) ((text_spots far g).shadow (suc i)) ≡ owner_of g.numbers (suc i)
  own-shadow i l = let x = some-entry i l in owner-there g _ (double_info g.program x.0) (there-all.shadow (suc i) x.0 x.1) ∙ sym (its-owner (suc i) x.0 x.1)

  own-never : (t : ℕ) → t < suc (last_task g.numbers) → owner_of (numbers_replayed g) ((text_spots far g).never t) ≡ t
  own-never zero l = nobody g (bound (counts g.numbers (last_task g.numbers) 1) + far.never 0) (omega arith)
  own-never (suc t) l = owner-there g _ _ (there-all.never t (omega (arith, l)))

  own-join : (t : ℕ) → t < suc (last_task g.numbers) → owner_of (numbers_replayed g) ((text_spots far g).join t) ≡ t
  own-join zero l = nobody g (bound (counts g.numbers (last_task g.numbers) 1) + far.join 0) (omega arith)
  own-join (suc t) l = owner-there g _ _ (there-all.join t (omega (arith, l)))

  one-behind : last_task g.numbers + 1 ≡ suc (last_task g.numbers)
  one-behind = omega arith

  two-behind : last_task g.numbers + 2 ≡ suc (suc (last_task g.numbers))
  two-behind = omega arith

  pub have_owners : HasOwners (owner_of g.numbers) (suc (last_task g.numbers)) (text_spots far g) (owner_of (numbers_replayed g))
  have_owners = record {
    original = owned (total (counts g.numbers (last_task g.numbers) 1)) (original_place (counts g.numbers (last_task g.numbers) 1)) far.original (owner_of g.numbers) refl no-entry own-original;
    shadow = owned (total (counts g.numbers (last_task g.numbers) 1)) (double_place (counts g.numbers (last_task g.numbers) 1)) far.shadow (owner_of g.numbers) refl no-entry own-shadow;
    go = owner-there g _ _ there-all.go ∙ one-behind;
    done = owner-there g _ _ there-all.done ∙ one-behind;
    hold = owner-there g _ _ there-all.hold ∙ one-behind;
    join = own-join;
    never = own-never;
    stop = owner-there g _ _ there-all.stop ∙ two-behind;
    rest = owner-there g _ _ there-all.rest ∙ two-behind;
  }

pub spots_have_owners : SpotsHaveOwners
spots_have_owners far g order = have_owners g order far

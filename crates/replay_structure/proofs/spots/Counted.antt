-- The number of an entry among those of a replay text that are not added.
use Rattle.std.proofs.Common.{◌≡◌, ℕ, zero, suc, ◌+◌, ◌-◌, ◌<◌, ◌≤◌, ◌==◌, nat_lt, Bool, true, false, not, cond, if◌then◌else◌, List, [], ◌∷◌, ◌++◌, length, map, take, refl, sym, ap, ap₂, ◌∙◌, length-append, append-nil, arith}
use Rattle.std.specs.List.{AllByRecursion, filter, count_by}
use Rattle.std.proofs.lemmas.Bool.{ltb-true}
use Rattle.std.proofs.lemmas.List.{length-map, take-append-le}
use Rattle.std.proofs.lemmas.List.Elements.{filter-append}
use Rattle.std.proofs.lemmas.List.Sums.{length-filter}
use Rattle.syn_event.specs.declared.numbering.EntryInfo.{EntryInfo}
use Rattle.syn_event.specs.Numbering.{is_original_entry}
use Rattle.syn_event.specs.AddedNames.{original_number}
use Rattle.task_model.specs.Setting.{Setting}
use Rattle.replay_model.specs.Names.{never_text, join_text}
use Rattle.replay_model.specs.ReplayTree.{last_task}
use Rattle.replay_model.specs.ReplayNumbers.{plain_info, double_info, own_entries, more_infos, all_infos, added_infos}
use Rattle.replay_structure.specs.spots.Places.{total, original_place, counts}
use Rattle.replay_structure.proofs.spots.Sorted.{less-rest, not-less, original-within}
use Rattle.replay_structure.proofs.spots.Placed.{end-is}
use Rattle.common_lemmas.proofs.Lists.{all_kept}

-- what stands in front of a place behind the first list
take-past : {A : Type 0} (xs ys : List A) (n m : ℕ) → n ≡ length xs → take (n + m) (xs ++ ys) ≡ xs ++ take m ys
take-past [] ys n m e = ap (λ j. take j ys) (let s : n + m ≡ m = omega (arith, e) in s)
take-past (x ∷ xs) ys zero m e = let h : ⊥ = omega (arith, e) in absurd h
take-past (x ∷ xs) ys (suc n) m e = ap (λ j. take j (x ∷ xs ++ ys)) (let s : suc n + m ≡ suc (n + m) = omega arith in s) ∙ ap (λ l. x ∷ l) (take-past xs ys n m (omega (arith, e)))

-- the entries that are not added
abbrev kept : List EntryInfo → List EntryInfo
kept xs = filter is_original_entry xs

kept-front : (xs : List EntryInfo) (m : ℕ) → AllByRecursion (λ (x : EntryInfo). x.added ≡ false) xs → m ≤ length xs → length (kept (take m xs)) ≡ m
kept-front xs zero h l = refl
kept-front [] (suc m) h l = absurd (omega (arith, l))
kept-front (x ∷ xs) (suc m) h l = ap (λ b. length (cond (not b) (x ∷ kept (take m xs)) (kept (take m xs)))) h.0 ∙ ap suc (kept-front xs m h.1 (omega (arith, l)))

kept-all : (xs : List EntryInfo) → AllByRecursion (λ (x : EntryInfo). x.added ≡ false) xs → kept xs ≡ xs
kept-all [] h = refl
kept-all (x ∷ xs) h = ap₂ (λ b l. cond (not b) (x ∷ l) l) h.0 (kept-all xs h.1)

module _ (g : Setting) (original : AllByRecursion (λ (x : EntryInfo). x.added ≡ false) g.numbers.entries) where
  own-original : (t : ℕ) → AllByRecursion (λ (x : EntryInfo). x.added ≡ false) (own_entries g.numbers t)
  own-original t = all_kept (λ (x : EntryInfo). x.added ≡ false) (λ x. x.owner == t) g.numbers.entries original

  doubles-none : (xs : List EntryInfo) → kept (map (double_info g.program) xs) ≡ []
  doubles-none [] = refl
  doubles-none (x ∷ xs) = doubles-none xs

  block-kept : (t : ℕ) → kept (more_infos g t) ≡ own_entries g.numbers t
  block-kept t =
      filter-append is_original_entry (own_entries g.numbers t ++ map (double_info g.program) (own_entries g.numbers t)) (plain_info g.program t never_text ∷ plain_info g.program t join_text ∷ [])
      ∙ append-nil (kept (own_entries g.numbers t ++ map (double_info g.program) (own_entries g.numbers t)))
      ∙ filter-append is_original_entry (own_entries g.numbers t) (map (double_info g.program) (own_entries g.numbers t))
      ∙ ap₂ (λ (a b : List EntryInfo). a ++ b) (kept-all (own_entries g.numbers t) (own-original t)) (doubles-none (own_entries g.numbers t))
      ∙ append-nil (own_entries g.numbers t)

  counted : (n t i : ℕ) → i < total (counts g.numbers n t) → length (kept (take (original_place (counts g.numbers n t) i + 1) (all_infos g n t))) ≡ i + 1
  counted zero t i h = absurd (omega (arith, h))
  counted (suc n) t i h = by_test (nat_lt i k) refl (counted n (t + 1) (i - k))
    where
      own : List EntryInfo
      own = own_entries g.numbers t

      k : ℕ
      k = length (own_entries g.numbers t)

      doubles : List EntryInfo
      doubles = map (double_info g.program) (own_entries g.numbers t)

      two : List EntryInfo
      two = plain_info g.program t never_text ∷ plain_info g.program t join_text ∷ []

      after : List EntryInfo
      after = all_infos g n (t + 1)

      ks : List ℕ
      ks = counts g.numbers n (t + 1)

      both-length : length (own_entries g.numbers t ++ doubles) ≡ k + k
      both-length = length-append (own_entries g.numbers t) doubles ∙ ap (λ m. k + m) (length-map (own_entries g.numbers t) (double_info g.program))

      more-length : length (more_infos g t) ≡ k + k + 2
      more-length = length-append (own_entries g.numbers t ++ doubles) two ∙ ap (λ m. m + 2) both-length

      among-own : i < k → length (kept (take (i + 1) (more_infos g t ++ after))) ≡ i + 1
      among-own l =
          ap (λ xs. length (kept xs))
          (take-append-le (i + 1) (more_infos g t) after (let e = more-length in omega (arith, e, l))
          ∙ take-append-le (i + 1) (own_entries g.numbers t ++ doubles) two (let e = both-length in omega (arith, e, l))
          ∙ take-append-le (i + 1) (own_entries g.numbers t) doubles (omega (arith, l)))
          ∙ kept-front (own_entries g.numbers t) (i + 1) (own-original t) (omega (arith, l))

      behind-own : k ≤ i → (i - k < total ks → length (kept (take (original_place ks (i - k) + 1) after)) ≡ (i - k) + 1) → length (kept (take (((k + k + 2) + original_place ks (i - k)) + 1) (more_infos g t ++ after))) ≡ i + 1
      behind-own l later =
          ap (λ m. length (kept (take m (more_infos g t ++ after)))) (let e : ((k + k + 2) + original_place ks (i - k)) + 1 ≡ (k + k + 2) + (original_place ks (i - k) + 1) = omega arith in e)
          ∙ ap (λ xs. length (kept xs)) (take-past (more_infos g t) after (k + k + 2) (original_place ks (i - k) + 1) (sym more-length))
          ∙ ap length (filter-append is_original_entry (more_infos g t) (take (original_place ks (i - k) + 1) after) ∙ ap (λ xs. xs ++ kept (take (original_place ks (i - k) + 1) after)) (block-kept t))
          ∙ length-append (own_entries g.numbers t) (kept (take (original_place ks (i - k) + 1) after))
          ∙ ap (λ m. k + m) (later (less-rest i k (total ks) h l))
          ∙ (let e : k + ((i - k) + 1) ≡ i + 1 = omega (arith, l) in e)

      by_test : (b : Bool) → nat_lt i k ≡ b → (i - k < total ks → length (kept (take (original_place ks (i - k) + 1) after)) ≡ (i - k) + 1) →
          length (kept (take ((if b then i else (k + k + 2) + original_place ks (i - k)) + 1) (more_infos g t ++ after))) ≡ i + 1
      by_test true e later = among-own (ltb-true i k e)
      by_test false e later = behind-own (not-less i k e) later

  -- an entry of the program has its own number among those that are not added
  pub number-is : (i : ℕ) → i < total (counts g.numbers (last_task g.numbers) 1) →
      original_number (all_infos g (last_task g.numbers) 1 ++ added_infos g.program (last_task g.numbers)) (original_place (counts g.numbers (last_task g.numbers) 1) i) ≡ suc i
  number-is i h =
      let ks = counts g.numbers (last_task g.numbers) 1 in
      let place = original_place ks i in
      ap (count_by is_original_entry) (take-append-le (place + 1) (all_infos g (last_task g.numbers) 1) (added_infos g.program (last_task g.numbers)) (let w = original-within ks i h in let e = end-is g (last_task g.numbers) 1 in omega (arith, w, e)))
      ∙ sym (length-filter is_original_entry (take (place + 1) (all_infos g (last_task g.numbers) 1)))
      ∙ counted (last_task g.numbers) 1 i h
      ∙ (let e : i + 1 ≡ suc i = omega arith in e)

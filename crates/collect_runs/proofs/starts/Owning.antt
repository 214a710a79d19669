-- Who owns the entries of a collecting text: those of the normal form their owners, and NOTE, which stands behind them, the recorder.
use Rattle.std.proofs.Common.{◌≡◌, ℕ, zero, suc, ◌+◌, ◌<◌, ◌≤◌, ◌==◌, ◌&&◌, Bool, true, false, not, cond, nat_lt, List, [], ◌∷◌, ◌++◌, length, length-append, Option, Some, None, option_map, unwrap_or, refl, sym, ap, ◌∙◌, arith}
use Rattle.std.specs.Option.{option_map_or}
use Rattle.std.specs.List.{AllByRecursion, position_or_len}
use Rattle.common_lemmas.proofs.Lists.{seam_there, all_by_place}
use Rattle.common_lemmas.proofs.Numbers.{equal_self, unequal, lt_true, one_more}
use Rattle.syn_event.specs.declared.numbering.EntryInfo.{EntryInfo}
use Rattle.task_model.specs.Setting.{entry_of}
use Rattle.syn_event.specs.Numbering.{Numbering, owner_of}
use Rattle.replay_structure.proofs.spots.Placed.{entry-suc}
use Rattle.replay_model.specs.ReplayTree.{last_task}
use Rattle.collect_model.specs.declared.AddedNames.{AddedNames}
use Rattle.collect_model.specs.CollectNumbers.{note_info, numbers_with}
use Rattle.task_laws.proofs.legal.rewritten_values.Saying.{place-within}

-- the first that passes stands last
place-last : {A : Type 0} (p : A → Bool) (xs : List A) (y : A) → AllByRecursion (λ (x : A). p x ≡ false) xs → p y ≡ true → position_or_len p (xs ++ y ∷ []) ≡ length xs
place-last p [] y none here = ap (λ (b : Bool). cond (not b) (1 + 0) 0) here
place-last p (x ∷ xs) y none here =
    let later : position_or_len p (xs ++ y ∷ []) ≡ length xs = place-last p xs y none.1 here in
    ap (λ (b : Bool). cond (not b) (1 + position_or_len p (xs ++ y ∷ [])) 0) none.0 ∙ ap (λ (m : ℕ). 1 + m) later ∙ one_more (length xs)

module _ (n : AddedNames) (numbers : Numbering) where
  pub note-owned : owner_of (numbers_with n numbers) (suc (length numbers.entries)) ≡ suc (last_task numbers)
  note-owned =
      let next : last_task numbers + 1 ≡ suc (last_task numbers) = omega arith in
      ap (λ (o : Option EntryInfo). option_map_or (λ info. info.owner) o 0)
      (entry-suc (numbers_with n numbers) (length numbers.entries) ∙ seam_there numbers.entries (note_info n (last_task numbers)) [])
      ∙ next

  pub same-owner : (e : ℕ) → e ≤ length numbers.entries → owner_of (numbers_with n numbers) e ≡ owner_of numbers e
  same-owner zero l = refl
  same-owner (suc m) l =
      ap (λ (o : Option EntryInfo). option_map_or (λ info. info.owner) o 0)
      (entry-suc (numbers_with n numbers) m ∙ place-within numbers.entries (note_info n (last_task numbers) ∷ []) m (omega (arith, l)) ∙ sym (entry-suc numbers m))

  -- ---- NOTE is found

  abbrev recorder : ℕ
  recorder = suc (last_task numbers)

  abbrev is_note : EntryInfo → Bool
  is_note info = (info.owner == recorder) && (info.name.0 == n.note.0)

  no-other : ((e : ℕ) → owner_of numbers e < recorder) → AllByRecursion (λ (x : EntryInfo). is_note x ≡ false) numbers.entries
  no-other below = all_by_place (λ (x : EntryInfo). is_note x ≡ false) numbers.entries (λ i x there.
      let owned : x.owner ≡ owner_of numbers (suc i) = sym (ap (λ (o : Option EntryInfo). option_map_or (λ info. info.owner) o 0) (entry-suc numbers i ∙ there)) in
      let less : owner_of numbers (suc i) < recorder = below (suc i) in
      ap (λ (b : Bool). b && (x.name.0 == n.note.0)) (unequal x.owner recorder (λ e. omega (arith, e, owned, less))))

  pub note-found : ((e : ℕ) → owner_of numbers e < recorder) → entry_of (numbers_with n numbers) recorder n.note ≡ suc (length numbers.entries)
  note-found below =
      let last : EntryInfo = note_info n (last_task numbers) in
      let here : is_note last ≡ true = let next : last_task numbers + 1 ≡ recorder = omega arith in
      ap (λ (m : ℕ). (m == recorder) && (n.note.0 == n.note.0)) next ∙ ap (λ (b : Bool). b && (n.note.0 == n.note.0)) (equal_self recorder) ∙ equal_self n.note.0 in
      let longer : length numbers.entries < length (numbers.entries ++ last ∷ []) = omega (arith, length-append numbers.entries (last ∷ [])) in
      let after : length numbers.entries + 1 ≡ suc (length numbers.entries) = omega arith in
      ap (λ (i : ℕ). unwrap_or (option_map (λ k. k + 1) (cond (nat_lt i (length (numbers.entries ++ last ∷ []))) (Some i) None)) 0) (place-last is_note numbers.entries last (no-other below) here)
      ∙ ap (λ (b : Bool). unwrap_or (option_map (λ k. k + 1) (cond b (Some (length numbers.entries)) None)) 0) (lt_true (length numbers.entries) (length (numbers.entries ++ last ∷ [])) longer)
      ∙ after

-- Look-ups among the entries of one task in a replay text.
use Rattle.std.proofs.Common.{◌≡◌, ℕ, suc, ◌+◌, ◌<◌, ◌==◌, Bool, true, false, List, ◌++◌, length, map, option_map, Some, sym, ap, ◌∙◌, length-append, true≢false, arith}
use Rattle.std.specs.List.{AllByRecursion}
use Rattle.std.proofs.lemmas.List.{length-map}
use Rattle.std.proofs.lemmas.List.Elements.{recursion_from_All, filter_passes}
use Rattle.ada_tree.specs.declared.naming.NameId.{NameId}
use Rattle.syn_event.specs.declared.numbering.EntryInfo.{EntryInfo}
use Rattle.syn_event.specs.Numbering.{entry_named}
use Rattle.syn_event.specs.AddedNames.{with_origin}
use Rattle.task_model.specs.Setting.{Setting}
use Rattle.replay_model.specs.Names.{never_text, join_text, replay_names}
use Rattle.replay_model.specs.ReplayTree.{last_task}
use Rattle.replay_model.specs.ReplayNumbers.{plain_info, double_info, more_infos, all_infos, added_infos, numbers_replayed}
use Rattle.replay_structure.proofs.texts.Stripped.{place-mapped}
use Rattle.replay_structure.specs.spots.Places.{end_place, counts}
use Rattle.replay_structure.proofs.spots.Placed.{own, two, end-is}
use Rattle.replay_structure.proofs.spots.Looked.{looks, other-owner}
use Rattle.common_lemmas.proofs.Lists.{all_joined, all_weaker}
use Rattle.common_lemmas.proofs.Numbers.{equal_is, unequal}
use Rattle.replay_structure.proofs.spots.First.{first, front, there, all-mapped}

-- an old name is none that is not old
pub old-other : (old : ℕ → Bool) (a b : ℕ) → old a ≡ true → old b ≡ false → (a == b) ≡ false
old-other old a b o n = unequal a b (λ e. true≢false (sym o ∙ ap old e ∙ n))

module _ (g : Setting) where
  -- the doubles of the entries of a task
  abbrev pub doubles : ℕ → List EntryInfo
  doubles t = map (double_info g.program) (own g t)

  pub both-length : (t : ℕ) → length (own g t ++ doubles t) ≡ length (own g t) + length (own g t)
  both-length t = length-append (own g t) (doubles t) ∙ ap (λ n. length (own g t) + n) (length-map (own g t) (double_info g.program))

  -- ---- another task

  pub own-other : (t u : ℕ) (id : NameId) → (t == u) ≡ false → AllByRecursion (λ x. looks u id x ≡ false) (own g t)
  own-other t u id other =
      all_weaker (λ (x : EntryInfo). (x.owner == t) ≡ true) (λ x. looks u id x ≡ false) (own g t)
      (λ x e. other-owner u id x (ap (λ n. n == u) (equal_is x.owner t e) ∙ other))
      (recursion_from_All (λ (x : EntryInfo). (x.owner == t) ≡ true) (own g t) (filter_passes (λ (x : EntryInfo). x.owner == t) g.numbers.entries))

  pub block-other : (t u : ℕ) (id : NameId) → (t == u) ≡ false → AllByRecursion (λ x. looks u id x ≡ false) (more_infos g t)
  block-other t u id other =
      let Fails : EntryInfo → Type 0 = λ (x : EntryInfo). looks u id x ≡ false in
      all_joined Fails (own g t ++ doubles t) (two g t)
      (all_joined Fails (own g t) (doubles t) (own-other t u id other)
      (all-mapped Fails (double_info g.program) (own g t)
      (all_weaker (λ (x : EntryInfo). (x.owner == t) ≡ true) (λ x. Fails (double_info g.program x)) (own g t)
      (λ x e. other-owner u id (double_info g.program x) (ap (λ n. n == u) (equal_is x.owner t e) ∙ other))
      (recursion_from_All (λ (x : EntryInfo). (x.owner == t) ≡ true) (own g t) (filter_passes (λ (x : EntryInfo). x.owner == t) g.numbers.entries)))))
      (other-owner u id (plain_info g.program t never_text) other, (other-owner u id (plain_info g.program t join_text) other, tt))

  -- ---- all tasks

  -- A look-up that finds a place among the entries of the tasks finds it in the numbers of the replay text.
  pub looked : (u : ℕ) (id : NameId) (m : ℕ) → first (looks u id) (all_infos g (last_task g.numbers) 1) ≡ m → m < end_place (counts g.numbers (last_task g.numbers) 1) → entry_named (numbers_replayed g) u id ≡ Some (suc m)
  looked u id m e l =
      let tasks = all_infos g (last_task g.numbers) 1 in
      let xs = tasks ++ added_infos g.program (last_task g.numbers) in
      let within : first (looks u id) tasks < length tasks = (let len = end-is g (last_task g.numbers) 1 in omega (arith, e, l, len)) in
      let place : first (looks u id) xs ≡ m = front (looks u id) tasks (added_infos g.program (last_task g.numbers)) within ∙ e in
      let low : first (looks u id) xs < length xs = (let len = length-append tasks (added_infos g.program (last_task g.numbers)) in omega (arith, place, e, within, len)) in
      ap (option_map (λ k. k + 1)) (place-mapped (looks u id) (with_origin (replay_names g.program) xs) xs ∙ there (looks u id) xs low)
      ∙ ap Some ((let s : first (looks u id) xs + 1 ≡ suc m = omega (arith, place) in s))

-- What the doubles of a replay text stand for.
use Rattle.std.proofs.Common.{◌≡◌, ℕ, suc, ◌+◌, ◌<◌, ◌==◌, ◌&&◌, nat_lt, nat_eq, Bool, true, false, not, cond, List, [], ◌∷◌, ◌++◌, length, position, option_map, codes, Some, None, refl, sym, ap, ap₂, ◌∙◌, subst}
use Rattle.std.specs.List.{AllByRecursion, list_any, position_or_len}
use Rattle.std.specs.Str.{bytes_eq}
use Rattle.std.specs.Cmp.Lexicographic.{pointwise}
use Rattle.syn_event.specs.declared.numbering.EntryInfo.{EntryInfo}
use Rattle.syn_event.specs.Numbering.{entry_at}
use Rattle.syn_event.specs.AddedNames.{speaks_of, original_number, with_origin}
use Rattle.syn_event.specs.DeclaredTasks.{text_of}
use Rattle.task_model.specs.Setting.{Setting}
use Rattle.replay_model.specs.Names.{double_text, replay_names}
use Rattle.replay_model.specs.ReplayTree.{last_task}
use Rattle.replay_model.specs.ReplayNumbers.{double_info, all_infos, added_infos, numbers_replayed}
use Rattle.run_laws.specs.replaying.Copies.{Spots}
use Rattle.task_laws.proofs.legal.rewritten_types.Lookups.{place-all}
use Rattle.normal_laws.proofs.structure.numbers.Named.{text-there, text-longer}
use Rattle.replay_structure.proofs.texts.Rooted.{replay-begins}
use Rattle.replay_structure.specs.spots.Places.{counts, text_spots}
use Rattle.replay_structure.specs.spots.Laws.{IsInOrder, AreOriginal, is_named_so, DoublesStand}
use Rattle.replay_structure.proofs.spots.Placed.{entry-suc, double-at}
use Rattle.replay_structure.proofs.spots.First.{there}
use Rattle.replay_structure.proofs.spots.Looked.{first-own}
use Rattle.replay_structure.proofs.spots.Counted.{number-is}

-- two tests that agree on a list find the same
first-alike : (f h : EntryInfo → Bool) (xs : List EntryInfo) → AllByRecursion (λ x. f x ≡ h x) xs → position_or_len f xs ≡ position_or_len h xs
first-alike f h [] e = refl
first-alike f h (x ∷ xs) e = ap₂ (λ (b : Bool) n. cond (not b) (1 + n) 0) e.0 (first-alike f h xs e.1)

place-alike : (f h : EntryInfo → Bool) (xs : List EntryInfo) → AllByRecursion (λ x. f x ≡ h x) xs → position f xs ≡ position h xs
place-alike f h xs e = ap (λ n. cond (nat_lt n (length xs)) (Some n) None) (first-alike f h xs e)

module _ (far : Spots) (g : Setting) (order : IsInOrder g.numbers) (are : AreOriginal g) (i : ℕ) (x : EntryInfo) (at : entry_at g.numbers (suc i) ≡ Some x) (named : position (is_named_so g x) g.numbers.entries ≡ Some i) where
  abbrev names : List (List ℕ)
  names = replay_names g.program

  abbrev double : EntryInfo
  double = double_info g.program x

  -- the test whether the double speaks of an entry
  abbrev speaks : EntryInfo → Bool
  speaks y = speaks_of names double y

  speaks-other : (y : EntryInfo) → (y.owner == x.owner) ≡ false → speaks y ≡ false
  speaks-other y e = ap (λ b. b && not y.added && pointwise nat_eq (text_of names double.name) (codes "DED_S_" ++ text_of names y.name)) e

  -- the text of the double's name
  its-text : text_of names double.name ≡ double_text (text_of g.program.names x.name)
  its-text =
      text-there names (double_text (text_of g.program.names x.name))
      (place-all (λ (y : EntryInfo). list_any (bytes_eq (double_text (text_of g.program.names y.name))) names ≡ true) g.numbers.entries i x are.doubles (sym (entry-suc g.numbers i) ∙ at))

  -- of an entry of the program it speaks where that has the same task and text
  same-test : (y : EntryInfo) → y.added ≡ false → y.name.0 < length g.program.names → speaks y ≡ is_named_so g x y
  same-test y original within =
      (λ j. (y.owner == x.owner) && not (original j) && pointwise nat_eq (its-text j) (codes "DED_S_" ++ text-longer g.program.names names y.name (replay-begins g.program) within j))
      ∙ simpler (y.owner == x.owner) (pointwise nat_eq (text_of g.program.names x.name) (text_of g.program.names y.name))
    where
      simpler : (a b : Bool) → (a && true && b) ≡ (a && b)
      simpler true b = refl
      simpler false b = refl

  all-same : (ys : List EntryInfo) → AllByRecursion (λ (y : EntryInfo). y.added ≡ false) ys → AllByRecursion (λ (y : EntryInfo). y.name.0 < length g.program.names) ys → AllByRecursion (λ y. speaks y ≡ is_named_so g x y) ys
  all-same [] a b = tt
  all-same (y ∷ ys) a b = (same-test y a.0 b.0, all-same ys a.1 b.1)

  pub stands : (found : EntryInfo) × (entry_at (numbers_replayed g) ((text_spots far g).shadow (suc i)) ≡ Some found) × (found.stands_for ≡ Some (suc i))
  stands =
      let xs = all_infos g (last_task g.numbers) 1 ++ added_infos g.program (last_task g.numbers) in
      let ks = counts g.numbers (last_task g.numbers) 1 in
      let f = first-own g x.owner speaks speaks-other i order (place-alike speaks (is_named_so g x) g.numbers.entries (all-same g.numbers.entries are.original are.within) ∙ named) in (
        with_origin names xs double,
        double-at g order far i x at,
        ap (option_map (original_number xs)) (there speaks xs (subst (λ n. n < length xs) (sym f.1) f.2) ∙ ap Some f.1)
            ∙ ap Some (number-is g are.original i f.0),
      )

pub doubles_stand : DoublesStand
doubles_stand far g order are i x at named = stands far g order are i x at named

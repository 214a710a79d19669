-- The entries of one task among those of all.
use Rattle.std.proofs.Common.{◌≡◌, ℕ, zero, suc, ◌+◌, ◌<◌, Bool, false, ◌==◌, cond, List, [], ◌∷◌, ◌++◌, map, slice_get, Some, refl, sym, ap, ap₂, ◌∙◌, arith}
use Rattle.std.specs.List.{filter}
use Rattle.std.proofs.lemmas.Bool.{eq-eqb}
use Rattle.std.proofs.lemmas.Bool.Decides.{nat_tests}
use Rattle.std.proofs.lemmas.List.{map-append, append-nil}
use Rattle.std.proofs.lemmas.List.Elements.{filter-append}
use Rattle.std.proofs.lemmas.Option.{none-some}
use Rattle.ada_tree.specs.TypeTable.{TypeTable}
use Rattle.ada_tree.specs.PlainDecl.{PEntry}
use Rattle.syn_event.specs.declared.numbering.EntryInfo.{EntryInfo}
use Rattle.syn_event.specs.AddedNames.{with_origin}
use Rattle.syn_event.specs.NamedTasks.{NumberedTask}
use Rattle.syn_event.specs.AllNumbers.{entry_of_task, entries_of_tasks}
use Rattle.common_lemmas.proofs.Options.{some_same}

module _ (names : List (List ℕ)) (types : TypeTable) (all : List EntryInfo) where
  -- the entries of a task with a number
  abbrev pub told : ℕ → NumberedTask → List PEntry → List EntryInfo
  told t y es = map (with_origin names all) (map (entry_of_task names types t y) es)

  -- those of all tasks from a number on
  abbrev pub all_told : ℕ → List NumberedTask → List EntryInfo
  all_told t ys = map (with_origin names all) (entries_of_tasks names types t ys)

  -- the entries that a task owns
  abbrev pub owned : ℕ → List EntryInfo → List EntryInfo
  owned t xs = filter (λ x. x.owner == t) xs

  own-block : (t : ℕ) (y : NumberedTask) (es : List PEntry) → owned t (told t y es) ≡ told t y es
  own-block t y [] = refl
  own-block t y (e ∷ es) = ap₂ (λ (b : Bool) l. cond b (with_origin names all (entry_of_task names types t y e) ∷ l) l) (eq-eqb t t refl) (own-block t y es)

  other-block : (t u : ℕ) → (u == t) ≡ false → (y : NumberedTask) (es : List PEntry) → owned t (told u y es) ≡ []
  other-block t u e y [] = refl
  other-block t u e y (x ∷ es) = ap₂ (λ (b : Bool) l. cond b (with_origin names all (entry_of_task names types u y x) ∷ l) l) e (other-block t u e y es)

  -- one task in front of others
  in-front : (t u : ℕ) (y : NumberedTask) (ys : List NumberedTask) → owned t (all_told u (y ∷ ys)) ≡ owned t (told u y y.unit.entries) ++ owned t (all_told (u + 1) ys)
  in-front t u y ys =
      ap (owned t) (map-append (with_origin names all) (map (entry_of_task names types u y) y.unit.entries) (entries_of_tasks names types (u + 1) ys))
      ∙ filter-append (λ x. x.owner == t) (told u y y.unit.entries) (all_told (u + 1) ys)

  other-number : (t u : ℕ) → t < u → (u == t) ≡ false
  other-number t u h = grind (arith, nat_tests)

  later : (ys : List NumberedTask) (t u : ℕ) → t < u → owned t (all_told u ys) ≡ []
  later [] t u h = refl
  later (y ∷ ys) t u h = in-front t u y ys ∙ ap₂ (λ (a b : List EntryInfo). a ++ b) (other-block t u (other-number t u h) y y.unit.entries) (later ys t (u + 1) (omega (arith, h)))

  own-first : (ys : List NumberedTask) (t : ℕ) (y : NumberedTask) → owned t (all_told t (y ∷ ys)) ≡ told t y y.unit.entries
  own-first ys t y =
      in-front t t y ys
      ∙ ap₂ (λ (a b : List EntryInfo). a ++ b) (own-block t y y.unit.entries) (later ys t (t + 1) (omega arith))
      ∙ append-nil (told t y y.unit.entries)

  -- the entries of the task at a place
  pub own-at : (ys : List NumberedTask) (k t u : ℕ) (y : NumberedTask) → t ≡ u + k → slice_get ys k ≡ Some y → owned t (all_told u ys) ≡ told t y y.unit.entries
  own-at [] k t u y e at = absurd (none-some y at)
  own-at (z ∷ ys) zero t u y e at =
      let same : t ≡ u = omega (arith, e) in
      ap (λ v. owned t (all_told v (z ∷ ys))) (sym same) ∙ own-first ys t z ∙ ap (λ (x : NumberedTask). told t x x.unit.entries) (some_same at)
  own-at (z ∷ ys) (suc k) t u y e at =
      in-front t u z ys
      ∙ ap₂ (λ (a b : List EntryInfo). a ++ b) (other-block t u (earlier t u k e) z z.unit.entries) (own-at ys k t (u + 1) y (omega (arith, e)) at)
    where
      earlier : (t u k : ℕ) → t ≡ u + suc k → (u == t) ≡ false
      earlier t u k e = grind (arith, nat_tests)

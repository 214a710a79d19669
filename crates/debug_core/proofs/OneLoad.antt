-- Files that are told, and whose readings do not fail, are loaded in one way.
use Rattle.std.proofs.Common.{◌≡◌, ◌≤◌, ℕ, List, [], ◌∷◌, length, Option, Some, None, inl, inr, refl, sym, ap, ◌∙◌, arith}
use Rattle.std.specs.Prelude.{unwrap_or}
use Rattle.ded_io.specs.Counts.{Rose}
use Rattle.ded_io.specs.Told.{ToldFile, file_bytes}
use Rattle.debug_outcome.specs.Loads.{WasLoaded, IsUnread, IsTooLong, IsUnloaded, AreLoaded, AreUnloaded}
use Rattle.debug_outcome.specs.Outcomes.{Outcome}
use Rattle.debug_outcome.specs.Traces.{Wanted, Load}
use Rattle.common_lemmas.proofs.Options.{not_missing}

-- the same option holds one thing, and not nothing
one_some : {A : Type 0} (o : Option A) (x y : A) → o ≡ Some x → o ≡ Some y → x ≡ y
one_some o x y h k = ap (λ z. unwrap_or z x) (sym h ∙ k)

none_some : {A : Type 0} (o : Option A) (x : A) → o ≡ None → o ≡ Some x → ⊥
none_some o x h k = not_missing x (sym h ∙ k)

module _ (files : List ToldFile) (f f' g g' : ℕ) (still : Rose f f' → ⊥) (also : Rose g g' → ⊥) where
  one_load : (w : Wanted) (a b : List ℕ) → WasLoaded (Some files) w a → WasLoaded (Some files) w b → a ≡ b
  one_load w a b h k = one_some (file_bytes files w.name) a b h.given k.given

  not_both : (w : Wanted) (a : List ℕ) (loads : List Load) (o : Outcome) → WasLoaded (Some files) w a → IsUnloaded (Some files) f f' w loads o → ⊥
  not_both w a loads o h (inl bad) = elim bad.cause [
    | inl lacks ↦ none_some (file_bytes files w.name) a lacks h.given
    | inr rose ↦ still rose
  ]
  not_both w a loads o h (inr bad) =
      let (bytes, given, longer) = bad.longer in
      let same : length bytes ≡ length a = ap length (one_some (file_bytes files w.name) bytes a given h.given) in
      let within : length a ≤ w.limit = h.within in omega arith

  lacks_or_longer : (w : Wanted) (loads others : List Load) (o q : Outcome) → IsUnread (Some files) f f' w loads o → IsTooLong (Some files) w others q → ⊥
  lacks_or_longer w loads others o q h k =
      let (bytes, given, longer) = k.longer in elim h.cause [
        | inl lacks ↦ none_some (file_bytes files w.name) bytes lacks given
        | inr rose ↦ still rose
      ]

  -- the bytes of all files are one list
  pub one_contents : (ws : List Wanted) (a b : List (List ℕ)) → AreLoaded (Some files) ws a → AreLoaded (Some files) ws b → a ≡ b
  one_contents [] [] [] h k = refl
  one_contents [] [] (y ∷ ys) h k = absurd k
  one_contents [] (x ∷ xs) b h k = absurd h
  one_contents (w ∷ ws) [] b h k = absurd h
  one_contents (w ∷ ws) (x ∷ xs) [] h k = absurd k
  one_contents (w ∷ ws) (x ∷ xs) (y ∷ ys) h k =
      ap (λ (z : List ℕ). z ∷ xs) (one_load w x y h.0 k.0) ∙ ap (λ (zs : List (List ℕ)). y ∷ zs) (one_contents ws xs ys h.1 k.1)

  -- files that were all loaded refuse nothing
  pub none_refused : (ws : List Wanted) (a : List (List ℕ)) (loads : List Load) (o : Outcome) → AreLoaded (Some files) ws a → AreUnloaded (Some files) f f' ws loads o → ⊥
  none_refused [] a loads o h k = k
  none_refused (w ∷ ws) [] loads o h k = h
  none_refused (w ∷ ws) (x ∷ xs) loads o h (inl refused) = not_both w x loads o h.0 refused
  none_refused (w ∷ ws) (x ∷ xs) loads o h (inr later) = none_refused ws xs later.rest o h.1 later.later

-- and the refusal of the first that is not loaded is one
module _ (files : List ToldFile) (f f' g g' : ℕ) (still : Rose f f' → ⊥) (also : Rose g g' → ⊥) where
  one_refused : (w : Wanted) (loads others : List Load) (o q : Outcome) → IsUnloaded (Some files) f f' w loads o → IsUnloaded (Some files) g g' w others q → o ≡ q
  one_refused w loads others o q (inl h) (inl k) = h.is ∙ sym k.is
  one_refused w loads others o q (inl h) (inr k) = absurd (lacks_or_longer files f f' g g' still also w loads others o q h k)
  one_refused w loads others o q (inr h) (inl k) = absurd (lacks_or_longer files g g' f f' also still w others loads q o k h)
  one_refused w loads others o q (inr h) (inr k) = h.is ∙ sym k.is

  pub one_unloaded : (ws : List Wanted) (loads others : List Load) (o q : Outcome) → AreUnloaded (Some files) f f' ws loads o → AreUnloaded (Some files) g g' ws others q → o ≡ q
  one_unloaded [] loads others o q h k = absurd h
  one_unloaded (w ∷ ws) loads others o q (inl h) (inl k) = one_refused w loads others o q h k
  one_unloaded (w ∷ ws) loads others o q (inl h) (inr k) = absurd (not_both files f f' g g' still also w k.bytes loads o k.loaded h)
  one_unloaded (w ∷ ws) loads others o q (inr h) (inl k) = absurd (not_both files g g' f f' also still w h.bytes others q h.loaded k)
  one_unloaded (w ∷ ws) loads others o q (inr h) (inr k) = one_unloaded ws h.rest k.rest o q h.later k.later

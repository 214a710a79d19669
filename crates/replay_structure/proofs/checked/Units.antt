-- The entries that the own task of a place has: those of the normal form, and DED_NEVER.
use Rattle.std.proofs.Common.{◌≡◌, ◌==◌, ◌||◌, Bool, true, false, cond, List, [], ◌∷◌, ◌++◌, map, find, Some, None, unwrap_or, refl, sym, ap, true≢false}
use Rattle.std.specs.List.{list_any}
use Rattle.std.proofs.lemmas.Bool.{eq-eqb, or_left, or_right}
use Rattle.ada_tree.specs.declared.naming.NameId.{NameId}
use Rattle.ada_tree.specs.declared.naming.Word.{Word}
use Rattle.ada_tree.specs.PlainDecl.{PEntry, PTask}
use Rattle.ada_tree.specs.PlainProgram.{PProgram}
use Rattle.syn_event.specs.CheckScope.{EnclosingUnit}
use Rattle.syn_event.specs.CheckSites.{enclosing_unit}
use Rattle.syn_event.specs.RuleAcceptPlace.{is_among}
use Rattle.replay_model.specs.Names.{never_text, join_text, added_id}
use Rattle.replay_model.specs.ReplayTree.{double_entry}
use Rattle.replay_model.specs.Controlling.{added_entry}
use Rattle.replay_structure.proofs.texts.Listed.{more_task}

-- ---- lists

any-front : {A B : Type 0} (f : B → Bool) (g : A → B) (xs ys : List A) → list_any f (map g xs) ≡ true → list_any f (map g (xs ++ ys)) ≡ true
any-front f g [] ys h = absurd (true≢false (sym h))
any-front f g (x ∷ xs) ys h = go (f (g x)) h (any-front f g xs ys)
  where
    go : (b : Bool) → (b || list_any f (map g xs)) ≡ true → (list_any f (map g xs) ≡ true → list_any f (map g (xs ++ ys)) ≡ true) → (b || list_any f (map g (xs ++ ys))) ≡ true
    go true e later = refl
    go false e later = later e

any-back : {A B : Type 0} (f : B → Bool) (g : A → B) (xs ys : List A) → list_any f (map g ys) ≡ true → list_any f (map g (xs ++ ys)) ≡ true
any-back f g [] ys h = h
any-back f g (x ∷ xs) ys h = or_right (f (g x)) (list_any f (map g (xs ++ ys))) (any-back f g xs ys h)

-- ---- units

module _ (q : PProgram) where
  -- the unit has the name of another, its entries and DED_NEVER
  pub record IsMore (u v : EnclosingUnit) : Type 0 where
    pub name : v.name ≡ u.name
    pub entries : (id : NameId) → is_among u.entries id ≡ true → is_among v.entries id ≡ true
    pub never : is_among v.entries (added_id q never_text) ≡ true

  abbrev pub AreMore : List EnclosingUnit → List EnclosingUnit → Type 0
  AreMore [] [] = Prim.Unit {0}
  AreMore (u ∷ us) (v ∷ vs) = IsMore u v × AreMore us vs
  AreMore _ _ = ⊥

  pub more-unit : (t : PTask) → IsMore (enclosing_unit t) (enclosing_unit (more_task q t))
  more-unit t =
      let never : PEntry = added_entry q t.name.span never_text None [] in
      let join : PEntry = added_entry q t.name.span join_text None [] in
      let name : PEntry → NameId = λ e. e.name.name in
      let front : List PEntry = t.entries ++ map (double_entry q) t.entries in
      record {
        name = refl;
        entries = λ id h. any-front (λ n. n.0 == id.0) name front (never ∷ join ∷ []) (any-front (λ n. n.0 == id.0) name t.entries (map (double_entry q) t.entries) h);
        never =
            any-back (λ n. n.0 == (added_id q never_text).0) name front (never ∷ join ∷ [])
            (or_left ((added_id q never_text).0 == (added_id q never_text).0) (list_any (λ n. n.0 == (added_id q never_text).0) (name join ∷ [])) (eq-eqb (added_id q never_text).0 (added_id q never_text).0 refl));
      }

  -- ---- the own unit

  -- the entries of the unit of a name
  abbrev pub entries_named : Word → List EnclosingUnit → List NameId
  entries_named w us = (unwrap_or (find (λ u. u.name.0 == w.name.0) us) (record { name = w.name; entries = [] })).entries

  pub own-more : (w : Word) (us vs : List EnclosingUnit) → AreMore us vs → (id : NameId) → is_among (entries_named w us) id ≡ true → (is_among (entries_named w vs) id ≡ true) × (is_among (entries_named w vs) (added_id q never_text) ≡ true)
  own-more w [] [] m id h = absurd (true≢false (sym h))
  own-more w [] (v ∷ vs) m id h = absurd m
  own-more w (u ∷ us) [] m id h = absurd m
  own-more w (u ∷ us) (v ∷ vs) m id h = go (u.name.0 == w.name.0) (v.name.0 == w.name.0) (ap (λ (n : NameId). n.0 == w.name.0) m.0.name) h (own-more w us vs m.1 id)
    where
      none : EnclosingUnit
      none = record { name = w.name; entries = [] }

      go : (a b : Bool) → b ≡ a → is_among (unwrap_or (cond a (Some u) (find (λ x. x.name.0 == w.name.0) us)) none).entries id ≡ true →
          (is_among (entries_named w us) id ≡ true → (is_among (entries_named w vs) id ≡ true) × (is_among (entries_named w vs) (added_id q never_text) ≡ true)) →
          (is_among (unwrap_or (cond b (Some v) (find (λ x. x.name.0 == w.name.0) vs)) none).entries id ≡ true) × (is_among (unwrap_or (cond b (Some v) (find (λ x. x.name.0 == w.name.0) vs)) none).entries (added_id q never_text) ≡ true)
      go true true e i later = (m.0.entries id i, m.0.never)
      go false false e i later = later i
      go true false e i later = absurd (true≢false (sym e))
      go false true e i later = absurd (true≢false e)

  -- a unit of another name is passed over
  pub own-beside : (w : Word) (u : EnclosingUnit) (us : List EnclosingUnit) → (u.name.0 == w.name.0) ≡ false → entries_named w (u ∷ us) ≡ entries_named w us
  own-beside w u us e = ap (λ b. (unwrap_or (cond b (Some u) (find (λ x. x.name.0 == w.name.0) us)) (record { name = w.name; entries = [] })).entries) e

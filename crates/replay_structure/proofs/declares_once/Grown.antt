-- Namings of a normal form in its replay text, where more names stand in front of them: each is fine as before.
use Rattle.std.proofs.Common.{◌≡◌, ℕ, Bool, true, false, ◌||◌, ◌&&◌, ◌==◌, List, [], ◌∷◌, ◌++◌, refl, sym, ap, ap₂, ◌∙◌, subst, true≢false}
use Rattle.std.specs.List.{AllByRecursion}
use Rattle.std.proofs.lemmas.Bool.{or_parts, or_from, eqb-true}
use Rattle.std.proofs.lemmas.Grind.{flat_map-append}
use Rattle.ada_tree.specs.declared.naming.Word.{Word}
use Rattle.ada_static_rules.specs.RuleDuplicate.{is_predefined, is_among}
use Rattle.ada_static_rules.specs.Sites.{with_words}
use Rattle.ada_decl_rules.specs.duplicates.NamingsInOrder.{declared}
use Rattle.ada_decl_rules.specs.declared.duplicates.namings_in_order.Naming.{Naming}
use Rattle.ada_decl_rules.specs.declared.duplicates.namings_in_order.Naming.TheVariants.{Declares}
use Rattle.common_lemmas.proofs.Lists.{all_joined, all_weaker}
use Rattle.normal_laws.specs.structure.once.Apart.{IsFreeOf, AreApart, AreDistinct, IsAlone, fixed_name, loose_name, fixed_names, IsFitIn}
use Rattle.normal_laws.proofs.structure.once.Once.{one-apart, apart-both}
use Rattle.normal_laws.proofs.legality.declares_once.DeclaredNames.{word_ids}
use Rattle.replay_structure.specs.declares_once.Names.{word_named}

-- ---- one naming

-- a name that is declared is no predefined one, and does not stand before
pub again-none : (f a : Bool) (w : Word) → IsAlone (Declares f a w) → (is_predefined w.name.0 ≡ false) × (a ≡ false)
again-none f a w e =
    let p = or_parts (is_predefined w.name.0 || a || false) (f && false) e in
    let q = or_parts (is_predefined w.name.0 || a) false p.0 in
    or_parts (is_predefined w.name.0) a q.0

pub alone-from : (f a : Bool) (w : Word) → is_predefined w.name.0 ≡ false → a ≡ false → IsAlone (Declares f a w)
alone-from f a w p e = or_from (is_predefined w.name.0 || a || false) (f && false) (or_from (is_predefined w.name.0 || a) false (or_from (is_predefined w.name.0) a p e) refl) (none f)
  where
    none : (f : Bool) → (f && false) ≡ false
    none true = refl
    none false = refl

-- whether a name stands before does not matter for which it is
same-loose : (f a b : Bool) (w : Word) → loose_name (Declares f b w) ≡ loose_name (Declares f a w)
same-loose true a b w = refl
same-loose false a b w = refl

same-fixed : (f a b : Bool) (w : Word) → fixed_name (Declares f b w) ≡ fixed_name (Declares f a w)
same-fixed true a b w = refl
same-fixed false a b w = refl

-- a name that is one of some differs from one that is none of them
pub member-differs : (X : List ℕ) (x y : ℕ) → is_among X x ≡ true → IsFreeOf X y → (y == x) ≡ false
member-differs X x y m f = by_test (y == x) refl
  where
    by_test : (b : Bool) → (y == x) ≡ b → b ≡ false
    by_test false e = refl
    by_test true e = absurd (true≢false (sym m ∙ ap (is_among X) (sym (eqb-true y x e)) ∙ f))

-- ---- names that fix nothing

pub declared-loose : (here : List ℕ) (ws : List Word) → fixed_names (declared false here ws) ≡ []
declared-loose here [] = refl
declared-loose here (w ∷ ws) = declared-loose (w.name.0 ∷ here) ws

-- ---- beside fixed names F, where the names X are new

module _ (F X : List ℕ) where
  -- the naming is fine, and has none of the new names
  abbrev pub IsGood : Naming → Type 0
  IsGood n = IsFitIn F n × IsFreeOf X (word_named n).name.0

  -- a name that is no new one is free of the second names, where it is of the first ones
  abbrev pub IsGrown : List ℕ → List ℕ → Type 0
  IsGrown here more = (x : ℕ) → IsFreeOf X x → IsFreeOf here x → IsFreeOf more x

  pub grown-then : (n : ℕ) (here more : List ℕ) → IsGrown here more → IsGrown (n ∷ here) (n ∷ more)
  grown-then n here more g x c h = let r = or_parts (n == x) (is_among here x) h in or_from (n == x) (is_among more x) r.0 (g x c r.1)

  pub grown-words : (here more : List ℕ) → IsGrown here more → (ws : List Word) → IsGrown (with_words here ws) (with_words more ws)
  grown-words here more g [] = g
  grown-words here more g (w ∷ ws) = grown-words (w.name.0 ∷ here) (w.name.0 ∷ more) (grown-then w.name.0 here more g) ws

  -- the second namings are fine, and fix the names that the first ones fix
  pub record IsSame (A B : List Naming) : Type 0 where
    pub fit : AllByRecursion (IsFitIn F) B
    pub fixed : fixed_names B ≡ fixed_names A

  pub same-joined : (A B C D : List Naming) → IsSame A B → IsSame C D → IsSame (A ++ C) (B ++ D)
  same-joined A B C D h k = record {
    fit = all_joined (IsFitIn F) B D h.fit k.fit;
    fixed = flat_map-append fixed_name B D ∙ ap₂ (λ (a b : List ℕ). a ++ b) h.fixed k.fixed ∙ sym (flat_map-append fixed_name A C);
  }

  pub good-fit : (A : List Naming) → AllByRecursion IsGood A → AllByRecursion (IsFitIn F) A
  good-fit A g = all_weaker IsGood (IsFitIn F) A (λ n h. h.0) g

  pub same-kept : (A : List Naming) → AllByRecursion IsGood A → IsSame A A
  same-kept A g = record { fit = good-fit A g; fixed = refl }

  -- one naming in front
  pub same-then : (n m : Naming) (A B : List Naming) → IsFitIn F m → fixed_name m ≡ fixed_name n → IsSame A B → IsSame (n ∷ A) (m ∷ B)
  same-then n m A B f e h = record { fit = (f, h.fit); fixed = ap₂ (λ (a b : List ℕ). a ++ b) e h.fixed }

  -- a name that is declared behind more names
  pub declares-more : (f : Bool) (here more : List ℕ) → IsGrown here more → (w : Word) → IsGood (Declares f (is_among here w.name.0) w) → IsFitIn F (Declares f (is_among more w.name.0) w)
  declares-more f here more g w h =
      let p = again-none f (is_among here w.name.0) w h.0.0 in (
        alone-from f (is_among more w.name.0) w p.0 (g w.name.0 h.1 p.1),
        subst (AreApart F) (sym (same-loose f (is_among here w.name.0) (is_among more w.name.0) w)) h.0.1,
      )

  pub declares-same : (f : Bool) (here more : List ℕ) → IsGrown here more → (w : Word) (A B : List Naming) → IsGood (Declares f (is_among here w.name.0) w) → IsSame A B →
      IsSame (Declares f (is_among here w.name.0) w ∷ A) (Declares f (is_among more w.name.0) w ∷ B)
  declares-same f here more g w A B h k =
      same-then (Declares f (is_among here w.name.0) w) (Declares f (is_among more w.name.0) w) A B (declares-more f here more g w h) (same-fixed f (is_among here w.name.0) (is_among more w.name.0) w) k

  -- the names of one declaration behind more names
  pub declared-same : (f : Bool) (here more : List ℕ) → IsGrown here more → (ws : List Word) → AllByRecursion IsGood (declared f here ws) → IsSame (declared f here ws) (declared f more ws)
  declared-same f here more g [] h = record { fit = tt; fixed = refl }
  declared-same f here more g (w ∷ ws) h =
      declares-same f here more g w (declared f (w.name.0 ∷ here) ws) (declared f (w.name.0 ∷ more) ws) h.0
      (declared-same f (w.name.0 ∷ here) (w.name.0 ∷ more) (grown-then w.name.0 here more g) ws h.1)

  -- the names of a declaration are no new ones
  pub declared-clear : (f : Bool) (here : List ℕ) (ws : List Word) → AllByRecursion IsGood (declared f here ws) → AreApart X (word_ids ws)
  declared-clear f here [] h = tt
  declared-clear f here (w ∷ ws) h = (h.0.1, declared-clear f (w.name.0 ∷ here) ws h.1)

  -- new variables
  pub declared-new : (here : List ℕ) (ws : List Word) → AllByRecursion (λ (w : Word). (is_predefined w.name.0 ≡ false) × IsFreeOf F w.name.0) ws → AreApart here (word_ids ws) → AreDistinct (word_ids ws) →
      AllByRecursion (IsFitIn F) (declared false here ws)
  declared-new here [] n a d = tt
  declared-new here (w ∷ ws) n a d = (
    (alone-from false (is_among here w.name.0) w n.0.0 a.0, (n.0.1, tt)),
    declared-new (w.name.0 ∷ here) ws n.1 (apart-both (w.name.0 ∷ []) here (word_ids ws) (one-apart (word_ids ws) w.name.0 d.0) a.1) d.1,
  )

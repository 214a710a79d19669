-- Namings from which some are left out, and which stand again at most where they stood again before, are as fit as all.
use Rattle.std.proofs.Common.{◌≡◌, ℕ, Bool, true, false, ◌||◌, ◌&&◌, ◌==◌, List, [], ◌∷◌, ◌++◌, refl}
use Rattle.std.specs.List.{AllByRecursion}
use Rattle.std.proofs.lemmas.Bool.{or_parts, or_from}
use Rattle.ada_tree.specs.declared.naming.Word.{Word}
use Rattle.ada_static_rules.specs.RuleDuplicate.{is_predefined, is_among}
use Rattle.ada_decl_rules.specs.duplicates.NamingsInOrder.{declared}
use Rattle.ada_decl_rules.specs.declared.duplicates.namings_in_order.Naming.{Naming}
use Rattle.ada_decl_rules.specs.declared.duplicates.namings_in_order.Naming.TheVariants.{Declares, Once}
use Rattle.normal_laws.specs.structure.once.Apart.{IsFreeOf, AreApart, AreDistinct, IsAlone, fixed_name, loose_name, fixed_names, loose_names}
use Rattle.normal_laws.proofs.structure.once.Once.{one-free, apart-front, apart-back, apart-both, apart-turned, distinct-back}
use Rattle.common_lemmas.proofs.Lists.{all_back, all_front, all_joined}

-- the second list is the first one without some namings
pub data Leaves : List Naming → List Naming → Type 0 where
  leaves_none : Leaves [] []
  leaves_one : (n : Naming) (A B : List Naming) → Leaves A B → Leaves (n ∷ A) B
  leaves_declared : (fixed a b : Bool) (w : Word) (A B : List Naming) → (a ≡ false → b ≡ false) → Leaves A B → Leaves (Declares fixed a w ∷ A) (Declares fixed b w ∷ B)
  leaves_once : (a b : Bool) (w : Word) (A B : List Naming) → (a ≡ false → b ≡ false) → Leaves A B → Leaves (Once a w ∷ A) (Once b w ∷ B)

pub leaves-all : (A : List Naming) → Leaves A []
leaves-all [] = leaves_none
leaves-all (n ∷ A) = leaves_one n A [] (leaves-all A)

pub leaves-joined : {A B : List Naming} → Leaves A B → {C D : List Naming} → Leaves C D → Leaves (A ++ C) (B ++ D)
leaves-joined leaves_none k = k
leaves-joined (leaves_one n A B h) {C = C} {D = D} k = leaves_one n (A ++ C) (B ++ D) (leaves-joined h k)
leaves-joined (leaves_declared fixed a b w A B f h) {C = C} {D = D} k = leaves_declared fixed a b w (A ++ C) (B ++ D) f (leaves-joined h k)
leaves-joined (leaves_once a b w A B f h) {C = C} {D = D} k = leaves_once a b w (A ++ C) (B ++ D) f (leaves-joined h k)

-- ---- what is kept

alone-weaker : (fixed a b : Bool) (w : Word) → (a ≡ false → b ≡ false) → IsAlone (Declares fixed a w) → IsAlone (Declares fixed b w)
alone-weaker fixed a b w f e =
    let p = or_parts (is_predefined w.name.0 || a || false) (fixed && false) e in
    let q = or_parts (is_predefined w.name.0 || a) false p.0 in
    let r = or_parts (is_predefined w.name.0) a q.0 in
    or_from (is_predefined w.name.0 || b || false) (fixed && false) (or_from (is_predefined w.name.0 || b) false (or_from (is_predefined w.name.0) b r.0 (f r.1)) refl) p.1

pub leaves-alone : {A B : List Naming} → Leaves A B → AllByRecursion IsAlone A → AllByRecursion IsAlone B
leaves-alone leaves_none h = tt
leaves-alone (leaves_one n A B l) h = leaves-alone l h.1
leaves-alone (leaves_declared fixed a b w A B f l) h = (alone-weaker fixed a b w f h.0, leaves-alone l h.1)
leaves-alone (leaves_once a b w A B f l) h = (f h.0, leaves-alone l h.1)

-- what is apart from all fixed names is apart from those that are left
pub leaves-fixed : {A B : List Naming} → Leaves A B → (zs : List ℕ) → AreApart (fixed_names A) zs → AreApart (fixed_names B) zs
leaves-fixed leaves_none zs h = h
leaves-fixed (leaves_one n A B l) zs h = leaves-fixed l zs (apart-back (fixed_name n) (fixed_names A) zs h)
leaves-fixed (leaves_declared fixed a b w A B f l) zs h =
    apart-both (fixed_name (Declares fixed b w)) (fixed_names B) zs (same fixed (apart-front (fixed_name (Declares fixed a w)) (fixed_names A) zs h)) (leaves-fixed l zs (apart-back (fixed_name (Declares fixed a w)) (fixed_names A) zs h))
  where
    same : (fixed : Bool) → AreApart (fixed_name (Declares fixed a w)) zs → AreApart (fixed_name (Declares fixed b w)) zs
    same true k = k
    same false k = k
leaves-fixed (leaves_once a b w A B f l) zs h = leaves-fixed l zs h

-- and so it is with the other names
pub leaves-loose : {A B : List Naming} → Leaves A B → (zs : List ℕ) → AreApart zs (loose_names A) → AreApart zs (loose_names B)
leaves-loose leaves_none zs h = h
leaves-loose (leaves_one n A B l) zs h = leaves-loose l zs (all_back (IsFreeOf zs) (loose_name n) (loose_names A) h)
leaves-loose (leaves_declared fixed a b w A B f l) zs h =
    all_joined (IsFreeOf zs) (loose_name (Declares fixed b w)) (loose_names B) (same fixed (all_front (IsFreeOf zs) (loose_name (Declares fixed a w)) (loose_names A) h)) (leaves-loose l zs (all_back (IsFreeOf zs) (loose_name (Declares fixed a w)) (loose_names A) h))
  where
    same : (fixed : Bool) → AreApart zs (loose_name (Declares fixed a w)) → AreApart zs (loose_name (Declares fixed b w))
    same true k = k
    same false k = k
leaves-loose (leaves_once a b w A B f l) zs h = leaves-loose l zs h

-- fixed names that are distinct stay so
pub leaves-distinct : {A B : List Naming} → Leaves A B → AreDistinct (fixed_names A) → AreDistinct (fixed_names B)
leaves-distinct leaves_none h = tt
leaves-distinct (leaves_one n A B l) h = leaves-distinct l (distinct-back (fixed_name n) (fixed_names A) h)
leaves-distinct (leaves_declared true a b w A B f l) h = (one-free (fixed_names B) w.name.0 (apart-turned (fixed_names B) (w.name.0 ∷ []) (leaves-fixed l (w.name.0 ∷ []) (h.0, tt))), leaves-distinct l h.1)
leaves-distinct (leaves_declared false a b w A B f l) h = leaves-distinct l h
leaves-distinct (leaves_once a b w A B f l) h = leaves-distinct l h

-- ---- names of one declaration

-- names behind those of a scope, and behind fewer
pub leaves-names : (fixed : Bool) (here fewer : List ℕ) → ((x : ℕ) → IsFreeOf here x → IsFreeOf fewer x) → (ws : List Word) → Leaves (declared fixed here ws) (declared fixed fewer ws)
leaves-names fixed here fewer f [] = leaves_none
leaves-names fixed here fewer f (w ∷ ws) =
    leaves_declared fixed (is_among here w.name.0) (is_among fewer w.name.0) w _ _ (f w.name.0)
    (leaves-names fixed (w.name.0 ∷ here) (w.name.0 ∷ fewer) (more w.name.0) ws)
  where
    more : (n x : ℕ) → IsFreeOf (n ∷ here) x → IsFreeOf (n ∷ fewer) x
    more n x h = let r = or_parts (n == x) (is_among here x) h in or_from (n == x) (is_among fewer x) r.0 (f x r.1)

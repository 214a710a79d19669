-- The declarations of a collecting text, by those of the normal form.
use Rattle.std.proofs.Common.{◌≡◌, ℕ, Bool, true, false, if◌then◌else◌, List, [], ◌∷◌, ◌++◌, refl, ap₂}
use Rattle.std.specs.List.{AllByRecursion}
use Rattle.common_lemmas.proofs.Lists.{all_joined}
use Rattle.ada_tree.specs.PlainDecl.{PDecl}
use Rattle.normal_laws.proofs.structure.numbers.Listed.{IsPlain}
use Rattle.replay_model.specs.ReplayTree.{is_added_object}
use Rattle.collect_model.specs.declared.AddedNames.{AddedNames}
use Rattle.collect_model.specs.CollectTree.{main_declared, behind_own}
use Rattle.ada_tree.specs.declared.naming.Span.{Span}

-- ---- lists

-- what holds of declarations and of a list holds of both together
pub all-behind : (P : PDecl → Type 0) (names : List (List ℕ)) (ds xs : List PDecl) → AllByRecursion P ds → AllByRecursion P xs → AllByRecursion P (behind_own names ds xs)
all-behind P names ds [] e h = e
all-behind P names ds (x ∷ xs) e h = by_test (is_added_object names x) (all-behind P names ds xs e h.1)
  where
    by_test : (b : Bool) → AllByRecursion P (behind_own names ds xs) → AllByRecursion P (if b then ds ++ x ∷ xs else x ∷ behind_own names ds xs)
    by_test true k = all_joined P ds (x ∷ xs) e h
    by_test false k = (h.0, k)

-- the first declarations stay in front
pub behind-front : (names : List (List ℕ)) (ds xs ys : List PDecl) → AllByRecursion (λ x. is_added_object names x ≡ false) xs → behind_own names ds (xs ++ ys) ≡ xs ++ behind_own names ds ys
behind-front names ds [] ys h = refl
behind-front names ds (x ∷ xs) ys h = ap₂ (λ (b : Bool) l. if b then ds ++ x ∷ (xs ++ ys) else x ∷ l) h.0 (behind-front names ds xs ys h.1)

-- what holds of the further declarations of main, whether an instance is among them or not
pub all-main : (P : PDecl → Type 0) (n : AddedNames) (s : Span) (instance : Bool) (last : ℕ) → AllByRecursion P (main_declared n s false last) → AllByRecursion P (main_declared n s instance last)
all-main P n s true last h = h.1
all-main P n s false last h = h

-- ---- tasks and bodies

pub main-plain : (n : AddedNames) (s : Span) (instance : Bool) (last : ℕ) → AllByRecursion IsPlain (main_declared n s instance last)
main-plain n s instance last = all-main IsPlain n s instance last (tt, (tt, (tt, (tt, tt))))

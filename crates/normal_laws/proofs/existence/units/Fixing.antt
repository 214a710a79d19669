-- A name that main declares for all of the program is declared nowhere else: where a name is declared as another, no place fixes it, before or behind.
use Rattle.std.proofs.Common.{◌≡◌, ℕ, Bool, true, false, ◌||◌, ◌==◌, List, [], ◌∷◌, refl, sym, ap, ◌∙◌, true≢false}
use Rattle.std.specs.List.{AllByRecursion, list_any}
use Rattle.std.proofs.lemmas.Bool.{eqb-true, eq-eqb, or_parts, or_left, or_right}
use Rattle.ada_tree.specs.PlainProgram.{PProgram}
use Rattle.ada_static_rules.specs.Scope.{Scope}
use Rattle.ada_static_rules.specs.Demand.{Demand, declares, Site}
use Rattle.ada_static_rules.specs.Sites.{site, sites}
use Rattle.ada_static_rules.specs.RuleDuplicate.{is_predefined, is_among, fixes, introduces, duplicate}
use Rattle.ada_static_rules.specs.Refusals.{MeetsTypeRules, refused_at, refused_from}
use Rattle.common_lemmas.proofs.Lists.{all_weaker, back_empty, front_empty}
use Rattle.task_laws.proofs.legal.rewritten_types.Refused.{no_duplicate, no_word}

-- the place does not declare this name for all of main
abbrev pub Differs : ℕ → Demand → Type 0
Differs n (declares true w) = (w.name.0 == n) ≡ false
Differs n _ = Unit {0}

abbrev pub AllDiffer : ℕ → List Site → Type 0
AllDiffer n xs = AllByRecursion (λ (x : Site). Differs n x.demand) xs

-- ---- one place

fixes-differs : (n : ℕ) (s : Scope) (d : Demand) → fixes n (site s d) ≡ false → Differs n d
fixes-differs n s (declares true w) e = e
fixes-differs n s _ e = tt

pub all-before : (before : List Site) (n : ℕ) → list_any (fixes n) before ≡ false → AllDiffer n before
all-before [] n e = tt
all-before (x ∷ xs) n e = let p = or_parts (fixes n x) (list_any (fixes n) xs) e in (fixes-differs n x.scope x.demand p.0, all-before xs n p.1)

-- where a name is fixed, it was not introduced before
fixed-new : (before : List Site) (s : Scope) (n : ℕ) (d : Demand) → duplicate before s d ≡ [] → list_any (introduces n) before ≡ true → Differs n d
fixed-new before s n (declares true w) e h = by_test (w.name.0 == n) refl
  where
    parts : list_any (introduces w.name.0) before ≡ false
    parts = (or_parts (is_predefined w.name.0 || is_among s.here w.name.0 || list_any (fixes w.name.0) before) (list_any (introduces w.name.0) before) (no_word _ w e)).1

    by_test : (b : Bool) → (w.name.0 == n) ≡ b → b ≡ false
    by_test false f = refl
    by_test true f = absurd (true≢false (sym h ∙ ap (λ k. list_any (introduces k) before) (sym (eqb-true w.name.0 n f)) ∙ parts))
fixed-new before s n _ e h = tt

pub later : (xs before : List Site) (n : ℕ) → refused_from before xs ≡ [] → list_any (introduces n) before ≡ true → AllDiffer n xs
later [] before n e h = tt
later (x ∷ xs) before n e h = (
  fixed-new before x.scope n x.demand (no_duplicate before x (front_empty (refused_at before x) (refused_from (x ∷ before) xs) e)) h,
  later xs (x ∷ before) n (back_empty (refused_at before x) (refused_from (x ∷ before) xs) e) (or_right (introduces n x) (list_any (introduces n) before) h),
)

-- ---- all places

-- where a name is declared that is not fixed, it is no predefined one, and no other place fixes it
abbrev pub IsApart : List Site → List Site → Demand → Type 0
IsApart before xs (declares false w) = (is_predefined w.name.0 ≡ false) × (AllDiffer w.name.0 before × AllDiffer w.name.0 xs)
IsApart before xs _ = Unit {0}

local-apart : (before xs : List Site) (s : Scope) (d : Demand) → duplicate before s d ≡ [] → refused_from (site s d ∷ before) xs ≡ [] → IsApart before (site s d ∷ xs) d
local-apart before xs s (declares false w) e f =
    let none = or_parts (is_predefined w.name.0 || is_among s.here w.name.0 || list_any (fixes w.name.0) before) false (no_word _ w e) in
    let fixing = or_parts (is_predefined w.name.0 || is_among s.here w.name.0) (list_any (fixes w.name.0) before) none.0 in (
      (or_parts (is_predefined w.name.0) (is_among s.here w.name.0) fixing.0).0,
      (
        all-before before w.name.0 fixing.1,
        (tt, later xs (site s (declares false w) ∷ before) w.name.0 f (or_left (w.name.0 == w.name.0) (list_any (introduces w.name.0) before) (eq-eqb w.name.0 w.name.0 refl))),
      ),
    )
local-apart before xs s _ e f = tt

moved : (before xs : List Site) (x : Site) (d : Demand) → IsApart (x ∷ before) xs d → IsApart before (x ∷ xs) d
moved before xs x (declares false w) h = (h.0, (h.1.0.1, (h.1.0.0, h.1.1)))
moved before xs x _ h = tt

all-apart : (xs before : List Site) → refused_from before xs ≡ [] → AllByRecursion (λ (x : Site). IsApart before xs x.demand) xs
all-apart [] before e = tt
all-apart (x ∷ xs) before e =
    let rest = back_empty (refused_at before x) (refused_from (x ∷ before) xs) e in (
      local-apart before xs x.scope x.demand (no_duplicate before x (front_empty (refused_at before x) (refused_from (x ∷ before) xs) e)) rest,
      all_weaker _ _ xs (λ y h. moved before xs x y.demand h) (all-apart xs (x ∷ before) rest),
    )

-- What is declared as a name that is not fixed is fixed nowhere in the program.
pub locals-apart : (p : PProgram) → MeetsTypeRules p → AllByRecursion (λ (x : Site). IsApart [] (sites p) x.demand) (sites p)
locals-apart p e = all-apart (sites p) [] e

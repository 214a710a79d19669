-- Rule Duplicate refuses nothing at places just where what is named at them is fit.
use Rattle.std.proofs.Common.{◌≡◌, ℕ, Bool, true, false, ◌||◌, ◌&&◌, List, [], ◌∷◌, refl, sym, ap, ap₂, ◌∙◌}
use Rattle.std.specs.List.{list_any}
use Rattle.ada_tree.specs.declared.naming.Word.{Word}
use Rattle.ada_tree.specs.PlainProgram.{PProgram}
use Rattle.ada_static_rules.specs.Scope.{Scope}
use Rattle.ada_static_rules.specs.Demand.{Demand, declares, declares_entry, labels, gives_body, makes_instance, handles, Site}
use Rattle.ada_static_rules.specs.RuleDuplicate.{is_predefined, is_among, fixes, introduces, at_word, duplicate}
use Rattle.ada_static_rules.specs.Sites.{site, sites}
use Rattle.ada_static_rules.specs.Refusals.{refused_at, refused_from, MeetsTypeRules}
use Rattle.normal_laws.specs.structure.once.Once.{AllOnce}
use Rattle.ada_decl_rules.specs.duplicates.NamingsInOrder.{and_then, naming_in, namings_of}
use Rattle.ada_decl_rules.specs.declared.duplicates.namings_in_order.Naming.{Naming}
use Rattle.ada_decl_rules.specs.declared.duplicates.namings_in_order.Naming.TheVariants.{Declares, Labels}
use Rattle.normal_laws.specs.structure.once.Apart.{is_repeated, fixed_names, introduced_names, NoneRepeated, AreFit}
use Rattle.normal_laws.proofs.structure.once.Once.{fit-from, fit-to}
use Rattle.common_lemmas.proofs.Lists.{back_empty, front_empty}
use Rattle.task_laws.proofs.legal.rewritten_types.Refused.{no_duplicate, no_word}

word-none : (test : Bool) (w : Word) → test ≡ false → at_word test w ≡ []
word-none test w e = ap (λ b. at_word b w) e

-- ---- what places before declare

fixes-at : (n : ℕ) (scope : Scope) (d : Demand) (rest : List Naming) → (fixes n (site scope d) || is_among (fixed_names rest) n) ≡ is_among (fixed_names (and_then (naming_in scope d) rest)) n
fixes-at n scope (declares true w) rest = refl
fixes-at n scope (declares false w) rest = refl
fixes-at n scope _ rest = refl

introduces-at : (n : ℕ) (scope : Scope) (d : Demand) (rest : List Naming) → (introduces n (site scope d) || is_among (introduced_names rest) n) ≡ is_among (introduced_names (and_then (naming_in scope d) rest)) n
introduces-at n scope (declares true w) rest = refl
introduces-at n scope (declares false w) rest = refl
introduces-at n scope (labels w) rest = refl
introduces-at n scope _ rest = refl

any-fixed : (n : ℕ) (ss : List Site) → list_any (fixes n) ss ≡ is_among (fixed_names (namings_of ss)) n
unfolding namings_of
any-fixed n [] = refl
any-fixed n (s ∷ ss) = ap (λ (b : Bool). fixes n s || b) (any-fixed n ss) ∙ fixes-at n s.scope s.demand (namings_of ss)

any-introduced : (n : ℕ) (ss : List Site) → list_any (introduces n) ss ≡ is_among (introduced_names (namings_of ss)) n
unfolding namings_of
any-introduced n [] = refl
any-introduced n (s ∷ ss) = ap (λ (b : Bool). introduces n s || b) (any-introduced n ss) ∙ introduces-at n s.scope s.demand (namings_of ss)

-- ---- one place

module _ (before : List Site) (scope : Scope) where
  abbrev fixed : List ℕ
  fixed = fixed_names (namings_of before)

  abbrev introduced : List ℕ
  introduced = introduced_names (namings_of before)

  declared-is : (for_all : Bool) (w : Word) →
      (is_predefined w.name.0 || is_among scope.here w.name.0 || list_any (fixes w.name.0) before || (for_all && list_any (introduces w.name.0) before))
      ≡ is_repeated fixed introduced (Declares for_all (is_among scope.here w.name.0) w)
  declared-is for_all w =
      ap₂ (λ (a b : Bool). is_predefined w.name.0 || is_among scope.here w.name.0 || a || (for_all && b)) (any-fixed w.name.0 before) (any-introduced w.name.0 before)

  label-is : (w : Word) → (is_predefined w.name.0 || list_any (fixes w.name.0) before) ≡ is_repeated fixed introduced (Labels w)
  label-is w = ap (λ (a : Bool). is_predefined w.name.0 || a) (any-fixed w.name.0 before)

  next-none : (d : Demand) (rest : List Naming) → duplicate before scope d ≡ [] → NoneRepeated (fixed_names (and_then (naming_in scope d) (namings_of before))) (introduced_names (and_then (naming_in scope d) (namings_of before))) rest →
      NoneRepeated fixed introduced (and_then (naming_in scope d) rest)
  next-none (declares for_all w) rest e k = (sym (declared-is for_all w) ∙ no_word _ w e, k)
  next-none (labels w) rest e k = (sym (label-is w) ∙ no_word _ w e, k)
  next-none (declares_entry names w) rest e k = (no_word _ w e, k)
  next-none (gives_body w) rest e k = (no_word _ w e, k)
  next-none (makes_instance w) rest e k = (no_word _ w e, k)
  next-none (handles names w) rest e k = (no_word _ w e, k)
  next-none _ rest e k = k

  none-next : (d : Demand) (rest : List Naming) → NoneRepeated fixed introduced (and_then (naming_in scope d) rest) →
      (duplicate before scope d ≡ []) × NoneRepeated (fixed_names (and_then (naming_in scope d) (namings_of before))) (introduced_names (and_then (naming_in scope d) (namings_of before))) rest
  none-next (declares for_all w) rest k = (word-none _ w (declared-is for_all w ∙ k.0), k.1)
  none-next (labels w) rest k = (word-none _ w (label-is w ∙ k.0), k.1)
  none-next (declares_entry names w) rest k = (word-none _ w k.0, k.1)
  none-next (gives_body w) rest k = (word-none _ w k.0, k.1)
  none-next (makes_instance w) rest k = (word-none _ w k.0, k.1)
  none-next (handles names w) rest k = (word-none _ w k.0, k.1)
  none-next _ rest k = (refl, k)

-- ---- all places

once-none : (before ss : List Site) → AllOnce before ss → NoneRepeated (fixed_names (namings_of before)) (introduced_names (namings_of before)) (namings_of ss)
unfolding namings_of
once-none before [] h = tt
once-none before (s ∷ ss) h = next-none before s.scope s.demand (namings_of ss) h.0 (once-none (s ∷ before) ss h.1)

none-once : (before ss : List Site) → NoneRepeated (fixed_names (namings_of before)) (introduced_names (namings_of before)) (namings_of ss) → AllOnce before ss
unfolding namings_of
none-once before [] h = tt
none-once before (s ∷ ss) h = let r = none-next before s.scope s.demand (namings_of ss) h in (r.0, none-once (s ∷ before) ss r.1)

pub once-fit : (ss : List Site) → AllOnce [] ss → AreFit (namings_of ss)
unfolding namings_of
once-fit ss h = fit-from (namings_of ss) (once-none [] ss h)

pub fit-once : (ss : List Site) → AreFit (namings_of ss) → AllOnce [] ss
unfolding namings_of
fit-once ss h = none-once [] ss (fit-to (namings_of ss) h)

-- ---- programs

met-once : (before ss : List Site) → refused_from before ss ≡ [] → AllOnce before ss
met-once before [] e = tt
met-once before (s ∷ ss) e = (
  no_duplicate before s (front_empty (refused_at before s) (refused_from (s ∷ before) ss) e),
  met-once (s ∷ before) ss (back_empty (refused_at before s) (refused_from (s ∷ before) ss) e),
)

-- In a program that meets the rules on types what is named is fit.
pub program-fit : (p : PProgram) → MeetsTypeRules p → AreFit (namings_of (sites p))
program-fit p e = once-fit (sites p) (met-once [] (sites p) e)

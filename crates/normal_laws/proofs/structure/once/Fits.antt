-- What a program names is fit in its parts: its declarations, what stands in its tasks and bodies, and the first declarations of its normal form.
use Rattle.std.proofs.Common.{◌≡◌, ℕ, true, List, [], ◌∷◌, ◌++◌, refl, ap, ◌∙◌, subst}
use Rattle.std.specs.List.{AllByRecursion}
use Rattle.std.proofs.lemmas.Grind.{flat_map-append}
use Rattle.ada_tree.specs.PlainProgram.{PProgram}
use Rattle.ada_static_rules.specs.Scope.{Scope}
use Rattle.ada_static_rules.specs.Demand.{Site}
use Rattle.ada_static_rules.specs.Declaring.{before_all, first_scope, inner_scope, after_decls}
use Rattle.ada_static_rules.specs.Sites.{names_sites, decls_sites, body_sites, sites}
use Rattle.ada_static_rules.specs.Refusals.{MeetsTypeRules}
use Rattle.syn_event.specs.DeclaredTasks.{decl_list}
use Rattle.task_laws.proofs.legal.rewritten_types.Refused.{declared_once}
use Rattle.ada_decl_rules.specs.duplicates.NamingsInOrder.{namings_of}
use Rattle.ada_decl_rules.specs.declared.duplicates.namings_in_order.Naming.{Naming}
use Rattle.normal_laws.specs.structure.once.Apart.{IsFreeOf, AreApart, AreDistinct, IsAlone, fixed_name, loose_name, fixed_names, loose_names, IsFitIn, AreFit}
use Rattle.normal_laws.specs.structure.once.Names.{body_names, IsFitDecl}
use Rattle.normal_laws.specs.structure.once.Laws.{FirstIsFit, TaskNamesAreFixed, InnerIsFit}
use Rattle.normal_laws.proofs.structure.once.Once.{apart-front, apart-back, distinct-front, distinct-back}
use Rattle.normal_laws.proofs.structure.once.Leaving.{Leaves, leaves-alone, leaves-fixed, leaves-loose, leaves-distinct}
use Rattle.normal_laws.proofs.structure.once.TaskTypes.{first-types}
use Rattle.normal_laws.proofs.structure.once.FirstDecls.{first-leaves}
use Rattle.normal_laws.proofs.structure.once.Places.{body-is}
use Rattle.normal_laws.proofs.structure.once.Parts.{all-fit-in, decls-fit-in}
use Rattle.normal_laws.proofs.structure.once.TaskNames.{names-fixed}
use Rattle.normal_laws.proofs.structure.once.Rules.{program-fit}
use Rattle.ada_decl_rules.proofs.duplicates.Noting.{namings_append}
use Rattle.common_lemmas.proofs.Lists.{all_back, all_front}

-- ---- parts of namings

distinct-parts : (a b : List Naming) → AreFit (a ++ b) → AreDistinct (fixed_names a ++ fixed_names b)
distinct-parts a b h = subst AreDistinct (flat_map-append fixed_name a b) h.distinct

apart-parts : (a b : List Naming) → AreFit (a ++ b) → AreApart (fixed_names a ++ fixed_names b) (loose_names a ++ loose_names b)
apart-parts a b h =
    subst (λ (l : List ℕ). AreApart (fixed_names a ++ fixed_names b) l) (flat_map-append loose_name a b)
    (subst (λ (l : List ℕ). AreApart l (loose_names (a ++ b))) (flat_map-append fixed_name a b) h.apart)

-- what stands in front is fit, and what stands behind
pub fit-front : (a b : List Naming) → AreFit (a ++ b) → AreFit a
fit-front a b h = record {
  alone = all_front IsAlone a b h.alone;
  distinct = distinct-front (fixed_names a) (fixed_names b) (distinct-parts a b h);
  apart = all_front (IsFreeOf (fixed_names a)) (loose_names a) (loose_names b) (apart-front (fixed_names a) (fixed_names b) (loose_names a ++ loose_names b) (apart-parts a b h));
}

pub fit-back : (a b : List Naming) → AreFit (a ++ b) → AreFit b
fit-back a b h = record {
  alone = all_back IsAlone a b h.alone;
  distinct = distinct-back (fixed_names a) (fixed_names b) (distinct-parts a b h);
  apart = all_back (IsFreeOf (fixed_names b)) (loose_names a) (loose_names b) (apart-back (fixed_names a) (fixed_names b) (loose_names a ++ loose_names b) (apart-parts a b h));
}

-- what is left of fit namings is fit
pub leaves-fit : {A B : List Naming} → Leaves A B → AreFit A → AreFit B
leaves-fit {A = A} {B = B} l h = record {
  alone = leaves-alone l h.alone;
  distinct = leaves-distinct l h.distinct;
  apart = leaves-fixed l (loose_names B) (leaves-loose l (fixed_names A) h.apart);
}

-- ---- programs

module _ (p : PProgram) (meets : MeetsTypeRules p) where
  abbrev s : Scope
  s = first_scope p.name

  abbrev first : List Site
  first = names_sites true before_all (p.name ∷ [])

  abbrev decls : List Site
  decls = decls_sites s p.decls

  abbrev last : List Site
  last = body_sites (inner_scope (after_decls s p.decls)) p.body

  -- what is named in three parts
  parts : namings_of (sites p) ≡ (namings_of first ++ namings_of decls) ++ namings_of last
  parts = namings_append (first ++ decls) last ∙ ap (λ (l : List Naming). l ++ namings_of last) (namings_append first decls)

  pub decls-fit : AreFit (namings_of decls)
  decls-fit = fit-back (namings_of first) (namings_of decls) (fit-front (namings_of first ++ namings_of decls) (namings_of last) (subst AreFit parts (program-fit p meets)))

  abbrev fixed : List ℕ
  fixed = fixed_names (namings_of (sites p))

  all-fit : AllByRecursion (IsFitIn fixed) ((namings_of first ++ namings_of decls) ++ namings_of last)
  all-fit = subst (AllByRecursion (IsFitIn fixed)) parts (all-fit-in fixed (namings_of (sites p)) (program-fit p meets).alone (program-fit p meets).apart)

  inner : AllByRecursion (IsFitDecl fixed) (decl_list p.decls) × AllByRecursion (IsFitIn fixed) (body_names p.body)
  inner = (
    decls-fit-in fixed p.decls s (all_back (IsFitIn fixed) (namings_of first) (namings_of decls) (all_front (IsFitIn fixed) (namings_of first ++ namings_of decls) (namings_of last) all-fit)),
    subst (AllByRecursion (IsFitIn fixed)) (body-is (inner_scope (after_decls s p.decls)) p.body) (all_back (IsFitIn fixed) (namings_of first ++ namings_of decls) (namings_of last) all-fit),
  )

pub inner_is_fit : InnerIsFit
inner_is_fit p e = inner p e

pub task_names_are_fixed : TaskNamesAreFixed
task_names_are_fixed p e = names-fixed p.decls [] (first_scope p.name) refl tt (declared_once p e).1

pub first_is_fit : FirstIsFit
first_is_fit p e =
    leaves-fit
    (first-leaves p.decls [] (first_scope p.name) (first_scope p.name)
    record { main = refl; main' = refl; here = λ x h. h; instance = λ h. h; types = first-types p.name; types' = first-types p.name })
    (decls-fit p e)

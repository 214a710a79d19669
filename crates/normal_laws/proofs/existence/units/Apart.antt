-- Names of inner scopes are those of no type and no value, so no callee in a legal program has a declaration that is refused.
use Rattle.std.proofs.Common.{false, List, [], ◌∷◌}
use Rattle.std.specs.List.{AllByRecursion}
use Rattle.ada_tree.specs.PlainProgram.{PProgram}
use Rattle.ada_tree.specs.WellPlaced.{IsWellPlaced}
use Rattle.ada_static_rules.specs.Refusals.{MeetsTypeRules, types_in}
use Rattle.ada_static_rules.specs.Demand.{Demand, declares, Site}
use Rattle.ada_static_rules.specs.Sites.{decls_sites, body_sites, sites}
use Rattle.ada_static_rules.specs.Declaring.{first_scope, inner_scope, after_decls}
use Rattle.task_laws.specs.legal.types.Typed.{IsSmall}
use Rattle.task_laws.proofs.legal.types.ApartNames.{marks-lack}
use Rattle.task_laws.proofs.legal.types.InnerScopes.{IsApartLocal, AreApart}
use Rattle.task_laws.proofs.legal.types.AllAddressed.{callees-told}
use Rattle.task_laws.specs.legal.sites.Met.{IsAddressed}
use Rattle.normal_laws.specs.existence.units.Laws.{IsFreeLocal}
use Rattle.normal_laws.proofs.existence.units.Fixing.{IsApart, locals-apart}
use Rattle.normal_laws.proofs.existence.units.Lacking.{locals-free}
use Rattle.common_lemmas.proofs.Lists.{all_front}

local-apart : (p : PProgram) (d : Demand) → IsApart [] (sites p) d → IsFreeLocal (types_in p) d → IsApartLocal (types_in p) d
local-apart p (declares false w) h free =
    let s = first_scope p.name in
    record {
      value = free;
      mark = marks-lack w.name.0 p.name p.decls h.0 (all_front _ (decls_sites s p.decls) (body_sites (inner_scope (after_decls s p.decls)) p.body) h.1.1.1);
    }
local-apart p _ h free = tt

places-apart : (p : PProgram) (xs : List Site) → AllByRecursion (λ (x : Site). IsApart [] (sites p) x.demand) xs → AllByRecursion (λ (x : Site). IsFreeLocal (types_in p) x.demand) xs → AreApart (types_in p) xs
places-apart p [] h k = tt
places-apart p (x ∷ xs) h k = (local-apart p x.demand h.0 k.0, places-apart p xs h.1 k.1)

-- What inner scopes declare, and variables of main, have the names of no type and no value.
pub all-apart : (p : PProgram) → MeetsTypeRules p → AreApart (types_in p) (sites p)
all-apart p rules = places-apart p (sites p) (locals-apart p rules) (locals-free p rules)

-- At no place is a callee's declaration refused.
pub all-addressed : (p : PProgram) → MeetsTypeRules p → IsWellPlaced p → IsSmall (types_in p) → AllByRecursion (λ x. IsAddressed x.scope x.demand) (sites p)
all-addressed p rules placed small = callees-told p rules placed small (all-apart p rules)

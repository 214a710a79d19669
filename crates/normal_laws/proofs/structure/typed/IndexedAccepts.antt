-- An accept whose index goes to a variable: its entry is a family of the own task, and the index is of the range's kind.
use Rattle.std.proofs.Common.{◌≡◌, ℕ, Bool, true, not, ◌&&◌, ◌||◌, if◌then◌else◌, List, [], ◌∷◌, Some, is_some, refl, sym, ap, ap₂, subst, ◌∙◌, true≢false}
use Rattle.std.specs.List.{AllByRecursion}
use Rattle.common_lemmas.proofs.Options.{some_there}
use Rattle.common_lemmas.proofs.Truth.{and_left, and_right}
use Rattle.common_lemmas.proofs.Lists.{all_front, all_joined}
use Rattle.ada_tree.specs.declared.naming.Span.{Span}
use Rattle.ada_tree.specs.PlainExpr.{PExpr}
use Rattle.ada_tree.specs.PlainStmt.{PHead}
use Rattle.ada_tree.specs.PlainDecl.{PDecl}
use Rattle.ada_static_rules.specs.Scope.{Scope, Range, Family, single, family, unclear, EntryPart, entry_named, is_entry_somewhere}
use Rattle.ada_static_rules.specs.ExprTypes.{expr_place}
use Rattle.ada_static_rules.specs.Demand.{must_be_of, must_lie_in, Site}
use Rattle.ada_static_rules.specs.Sites.{site, if_there, expr_sites, expr_of, formals_sites, accept_index_sites, head_sites}
use Rattle.ada_static_rules.specs.RuleArgCount.{at_place, fits_accept, are_same, written_formals, wrong_accept}
use Rattle.ada_static_rules.specs.RuleRangeBad.{is_outside}
use Rattle.task_model.specs.Setting.{Setting, entry_of}
use Rattle.normal_model.specs.Names.{variable_name}
use Rattle.normal_model.specs.Ranges.{subtype_of_range, family_range}
use Rattle.normal_model.specs.Making.{variable}
use Rattle.normal_model.specs.RewrittenUnit.{RewrittenUnit}
use Rattle.normal_model.specs.Waits.{head_left}
use Rattle.task_laws.specs.legal.alike_scopes.Laws.{IsMetBut}
use Rattle.normal_laws.specs.structure.typed.ScopeOf.{HasKnownKinds, IsVariableOf, IsRange, IsFamilyOf, IsEntryOf, IsScopeOf, IsPlaceOf}
use Rattle.normal_laws.proofs.structure.typed.Places.{met-of, met-in, met-accepts}
use Rattle.normal_laws.proofs.structure.typed.Variables.{AllMetBut, of-kind, variable-kind, variable-met, variable-valueless}
use Rattle.normal_laws.proofs.structure.typed.Subtypes.{range-variable}
use Rattle.normal_laws.proofs.structure.typed.Calls.{fits-told, as_family}

module _ (u : RewrittenUnit) (own : ℕ → Bool) (vars : List PDecl) (known : HasKnownKinds u.setting.types) (c d : Scope) (rel : IsScopeOf u own vars c d) where
  abbrev g : Setting
  g = u.setting

  abbrev P : Site → Type 0
  P = IsPlaceOf g

  module _ (h : PHead) (y : PExpr) (f : h.index ≡ Some y) (m : AllByRecursion P (head_sites c h)) (mine : is_some (entry_named c.own h.entry.name) ≡ true) where
    abbrev e : ℕ
    e = entry_of g.numbers u.task h.entry.name

    abbrev found : (part : EntryPart) × (entry_named c.own h.entry.name ≡ Some part)
    found = some_there (entry_named c.own h.entry.name) mine

    abbrev part : EntryPart
    part = found.0

    is : IsEntryOf g e part
    is = rel.accepted h.entry.name part found.1

    both : (fits_accept part.family (Some y) && are_same (written_formals h.formals) part.formals) ≡ true
    both = fits-told (fits_accept part.family (Some y) && are_same (written_formals h.formals) part.formals) h.entry.span
        (ap (λ i. at_place (not (fits_accept part.family i && are_same (written_formals h.formals) part.formals)) h.entry.span) (sym f) ∙ ap (λ o. wrong_accept o h) (sym found.1) ∙ m.0.0.counted)

    -- the entry is a family, and the index is of its kind
    pub record IsFamilyHead : Type 0 where
      pub range : Range
      family : part.family ≡ family range
      pub declared : IsRange g.types (family_range g e) range
      pub asked : AllByRecursion P (expr_of c (Some range.kind) y)

    by_family : (fam : Family) → part.family ≡ fam → IsFamilyOf g e fam → fits_accept fam (Some y) ≡ true → AllByRecursion P (accept_index_sites c (Some (as_family part fam)) y) → IsFamilyHead
    by_family single q i t a = absurd (true≢false (sym t))
    by_family unclear q i t a = absurd i
    by_family (family range) q i t a = record { range = range; family = q; declared = i.1; asked = all_front P (expr_of c (Some range.kind) y) _ a }

    index-asked : AllByRecursion P (accept_index_sites c (Some part) y)
    index-asked =
        subst (λ o. AllByRecursion P (accept_index_sites c o y)) found.1
        (subst (λ i. AllByRecursion P (if_there (accept_index_sites c (entry_named c.own h.entry.name)) i)) f (all_front P (if_there (accept_index_sites c (entry_named c.own h.entry.name)) h.index) _ m.1))

    pub family-head : IsFamilyHead
    family-head = by_family part.family refl is.family (and_left (fits_accept part.family (Some y)) _ both) index-asked

    -- ---- the new head

    module _ (there : entry_named d.own h.entry.name ≡ entry_named c.own h.entry.name) (s : Span) (j : ℕ) (i : (head_left u s h j).index ≡ Some (variable g s j))
        (v : IsVariableOf g.types d (variable_name g j) (subtype_of_range g.types s (family_range g e))) (formals : AllMetBut (formals_sites d h.formals)) where
      abbrev h' : PHead
      h' = head_left u s h j

      abbrev z : PExpr
      z = variable g s j

      same : v.mark.kind ≡ family-head.range.kind
      same = ap (λ (r : Range). r.kind) (range-variable g.types known d (variable_name g j) s (family_range g e) family-head.range family-head.declared v)

      new-index : AllMetBut (accept_index_sites d (Some (as_family part (family family-head.range))) z)
      new-index =
          let kind : AllMetBut (site d (must_be_of z (Some v.mark.kind)) ∷ []) = (met-of d z (Some v.mark.kind) (of-kind d z v.mark.kind (variable-kind v s)), tt) in
          let lies : AllMetBut (site d (must_lie_in z (Some family-head.range)) ∷ []) =
          (met-in d z (Some family-head.range) (ap (λ o. if is_outside family-head.range o then expr_place z ∷ [] else []) (variable-valueless v family-head.range.kind s)), tt) in
          all_joined IsMetBut (expr_of d (Some family-head.range.kind) z) (site d (must_lie_in z (Some family-head.range)) ∷ [])
          (subst (λ k. AllMetBut (expr_of d (Some k) z)) same (all_joined IsMetBut (expr_sites d z) (site d (must_be_of z (Some v.mark.kind)) ∷ []) (variable-met v s) kind)) lies

      new-fits : wrong_accept (Some part) h' ≡ []
      new-fits =
          ap₂ (λ fam o. at_place (not (fits_accept fam o && are_same (written_formals h.formals) part.formals)) h.entry.span) family-head.family i
          ∙ ap (λ b. at_place (not b) h.entry.span) (and_right (fits_accept part.family (Some y)) _ both)

      pub head-moved : AllMetBut (head_sites d h')
      head-moved =
          let entry : entry_named d.own h.entry.name ≡ Some part = there ∙ found.1 in (
            met-accepts d h' (ap (λ o. if is_some o || is_entry_somewhere d h.entry.name then [] else h.entry.span ∷ []) entry) (ap (λ o. wrong_accept o h') entry ∙ new-fits),
            all_joined IsMetBut (if_there (accept_index_sites d (entry_named d.own h.entry.name)) h'.index) _
                (subst (λ o. AllMetBut (if_there (accept_index_sites d o) h'.index)) (sym entry)
                (subst (λ o. AllMetBut (if_there (accept_index_sites d (Some part)) o)) (sym i)
                (subst (λ fam. AllMetBut (accept_index_sites d (Some (as_family part fam)) z)) (sym family-head.family) new-index)))
                formals,
          )

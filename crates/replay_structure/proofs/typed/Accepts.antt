-- The accepts of a replay text: those that stay, the tests of permits for them, and `accept DED_NEVER;`.
use Rattle.std.proofs.Common.{◌≡◌, ℕ, Bool, true, not, ◌&&◌, ◌||◌, if◌then◌else◌, [], ◌∷◌, Option, Some, None, is_some, sym, ap, ap₂, subst, ◌∙◌, true≢false}
use Rattle.common_lemmas.proofs.Options.{some_there}
use Rattle.common_lemmas.proofs.Truth.{and_left}
use Rattle.common_lemmas.proofs.Lists.{all_front}
use Rattle.ada_tree.specs.declared.naming.NameId.{NameId}
use Rattle.ada_tree.specs.declared.naming.Span.{Span}
use Rattle.ada_tree.specs.PlainExpr.{PExpr}
use Rattle.ada_tree.specs.PlainStmt.{PHead}
use Rattle.ada_tree.specs.Every.{EveryHead}
use Rattle.ada_static_rules.specs.Scope.{Scope, Family, single, family, unclear, EntryPart, integer_kind, entry_named, is_entry_somewhere}
use Rattle.ada_static_rules.specs.Demand.{Site}
use Rattle.ada_static_rules.specs.Sites.{if_there, expr_of, accept_index_sites, head_sites}
use Rattle.ada_static_rules.specs.RuleArgCount.{at_place, fits_accept, are_same, written_formals, wrong_accept}
use Rattle.task_model.specs.Setting.{Setting, entry_of}
use Rattle.normal_model.specs.RewrittenUnit.{RewrittenUnit}
use Rattle.normal_laws.specs.structure.checked.Around.{own_rules}
use Rattle.replay_model.specs.Asking.{member_number}
use Rattle.replay_model.specs.Serving.{permits_start}
use Rattle.replay_structure.specs.asked.Pieces.{never_head}
use Rattle.task_laws.specs.legal.alike_scopes.Laws.{IsMetBut}
use Rattle.normal_laws.proofs.structure.typed.Places.{met-accepts}
use Rattle.normal_laws.proofs.structure.typed.Variables.{AllMetBut}
use Rattle.normal_laws.proofs.structure.typed.Calls.{fits-told, as_family}
use Rattle.normal_laws.proofs.structure.typed.Stays.{head-stays}
use Rattle.replay_structure.specs.typed.ScopeOf.{IsEntryOf, IsScopeOf}
use Rattle.replay_structure.proofs.typed.Tests.{IsFit, IsLoose, fit-of, literal-fit}
use Rattle.replay_structure.proofs.typed.Permits.{member-fit, at-loose}

module _ (u : RewrittenUnit) (old inner : ℕ → Bool) (c d : Scope) (rel : IsScopeOf u old inner c d) where
  abbrev g : Setting
  g = u.setting

  same : (s : Site) → IsMetBut s → IsMetBut s
  same s m = m

  module _ (k : ℕ) (h : PHead) (every : EveryHead (own_rules old) k h) (mine : is_some (entry_named c.own h.entry.name) ≡ true) (m : AllMetBut (head_sites c h)) where
    pub head-kept : AllMetBut (head_sites d h)
    head-kept = head-stays IsMetBut same old c d rel.alike k h every mine m

    abbrev found : (part : EntryPart) × (entry_named c.own h.entry.name ≡ Some part)
    found = some_there (entry_named c.own h.entry.name) mine

    abbrev part : EntryPart
    part = found.0

    there : entry_named d.own h.entry.name ≡ Some part
    there = sym (rel.alike.own h.entry.name every.0) ∙ found.1

    fits : fits_accept part.family h.index ≡ true
    fits =
        and_left (fits_accept part.family h.index) (are_same (written_formals h.formals) part.formals)
        (fits-told (fits_accept part.family h.index && are_same (written_formals h.formals) part.formals) h.entry.span (sym (ap (λ o. wrong_accept o h) there) ∙ head-kept.0.counted))

    index-there : AllMetBut (if_there (accept_index_sites d (Some part)) h.index)
    index-there =
        subst (λ o. AllMetBut (if_there (accept_index_sites d o) h.index)) there
        (all_front IsMetBut (if_there (accept_index_sites d (entry_named d.own h.entry.name)) h.index) _ head-kept.1)

    -- the permit is for the begin of this rendezvous
    pub served-loose : (s : Span) → IsLoose d (permits_start u s h)
    served-loose s = at-loose u old inner c d rel s 1 e h.index (by_index h.index part.family fits (rel.accepted h.entry.name part found.1) index-there)
      where
        e : ℕ
        e = entry_of g.numbers u.task h.entry.name

        by_index : (o : Option PExpr) (fam : Family) → fits_accept fam o ≡ true → IsEntryOf g inner d e fam → AllMetBut (if_there (accept_index_sites d (Some (as_family part fam))) o) → IsFit d integer_kind (member_number g s e o)
        by_index None fam f i n = literal-fit d 0 s
        by_index (Some y) single f i n = absurd (true≢false (sym f))
        by_index (Some y) (family range) f i n = member-fit g inner d s e range.kind y i (fit-of d range.kind y (all_front IsMetBut (expr_of d (Some range.kind) y) _ n))
        by_index (Some y) unclear f i n = absurd i

  -- an entry that nobody calls
  pub never-met : (s : Span) (id : NameId) → is_some (entry_named c.own id) ≡ true → AllMetBut (head_sites d (never_head u s))
  never-met s id i =
      let l = rel.never id i in (
        met-accepts d (never_head u s) (ap (λ o. if is_some o || is_entry_somewhere d (never_head u s).entry.name then [] else s ∷ []) l.is)
            (ap (λ o. wrong_accept o (never_head u s)) l.is ∙ ap₂ (λ x y. at_place (not (fits_accept x None && are_same [] y)) s) l.members_are l.formals_are),
        tt,
      )

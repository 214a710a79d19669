-- Accepts with the formal of the caller in front of their others meet the rules in a collecting text.
use Rattle.std.proofs.Common.{◌≡◌, ℕ, ◌+◌, Bool, true, false, ◌&&◌, List, ◌∷◌, Option, Some, None, is_some, IfSome, refl, sym, ap, subst, ◌∙◌, true≢false, eq-eqb}
use Rattle.std.proofs.lemmas.List.Elements.{recursion_from_All}
use Rattle.common_lemmas.proofs.Lists.{all_back, all_front, all_joined}
use Rattle.common_lemmas.proofs.Truth.{and_left, and_right}
use Rattle.ada_tree.specs.declared.naming.Span.{Span}
use Rattle.ada_tree.specs.PlainExpr.{PExpr}
use Rattle.ada_tree.specs.PlainStmt.{PHead}
use Rattle.ada_tree.specs.PlainProgram.{PProgram}
use Rattle.ada_tree.specs.Every.{EveryFormal, EveryHead}
use Rattle.ada_static_rules.specs.Scope.{Scope, FormalPart, Family, single, family, unclear, EntryPart, integer_kind, entry_named}
use Rattle.ada_static_rules.specs.Declaring.{inner_scope}
use Rattle.ada_static_rules.specs.Demand.{scalar_only}
use Rattle.ada_static_rules.specs.RuleArgCount.{written_formals, are_same, fits_accept, wrong_accept}
use Rattle.ada_static_rules.specs.Sites.{if_there, names_sites, expr_of, all_names, formal_mark_sites, formals_sites, accept_index_sites, head_sites}
use Rattle.task_model.specs.Setting.{Setting, entry_of}
use Rattle.task_laws.specs.legal.alike_scopes.Alike.{SameNames}
use Rattle.task_laws.specs.legal.alike_scopes.Old.{IsOldExpr}
use Rattle.task_laws.specs.legal.alike_scopes.Laws.{IsMetBut}
use Rattle.normal_laws.specs.structure.checked.Around.{own_rules}
use Rattle.normal_laws.proofs.structure.typed.Calls.{fits-told, as_family}
use Rattle.normal_laws.proofs.structure.typed.Stays.{old-option, old-formals, index-stays, formals-stay}
use Rattle.normal_laws.proofs.structure.typed.Variables.{AllMetBut, words-met}
use Rattle.replay_model.specs.Asking.{member_number}
use Rattle.replay_structure.specs.typed.ScopeOf.{HasLists, IsEntryOf}
use Rattle.replay_structure.proofs.typed.Calls.{listed}
use Rattle.replay_structure.proofs.typed.Control.{integer-mark, listed-accept}
use Rattle.replay_structure.proofs.typed.Permits.{member-fit}
use Rattle.replay_structure.proofs.typed.Tests.{IsFit, fit-of, literal-fit}
use Rattle.collect_model.specs.Names.{caller_text, collect_names, added_in}
use Rattle.collect_model.specs.Serving.{caller_formal, head_telling}
use Rattle.collect_structure.specs.typed.Told.{in_number, told_entry, IsToldScope}
use Rattle.collect_structure.proofs.typed.Calls.{x, named-told}
use Rattle.replay_structure.proofs.typed.Typed.{same}

-- an own entry that is there
pub there-is : (o : Option EntryPart) → is_some o ≡ true → (part : EntryPart) × (o ≡ Some part)
there-is (Some part) h = (part, refl)
there-is None h = absurd (true≢false (sym h))

-- the index of an accept, by the members of its entry alone
listed-index : (d : Scope) (part : EntryPart) (fam : Family) (formals : List FormalPart) (e : PExpr) → AllMetBut (accept_index_sites d (Some (as_family part fam)) e) → AllMetBut (accept_index_sites d (Some (listed fam formals)) e)
listed-index d part single formals e m = m
listed-index d part (family range) formals e m = m
listed-index d part unclear formals e m = m

module _ (g : Setting) (task : ℕ) (old inner : ℕ → Bool) (c d : Scope) (rel : IsToldScope (record { setting = g; task = task }) old inner c d) where
  abbrev q : PProgram
  q = g.program

  module _ (k : ℕ) (h : PHead) (every : EveryHead (own_rules old) k h) (mine : is_some (entry_named c.own h.entry.name) ≡ true) (m : AllMetBut (head_sites c h)) where
    abbrev found : (part : EntryPart) × (entry_named c.own h.entry.name ≡ Some part)
    found = there-is (entry_named c.own h.entry.name) mine

    abbrev part : EntryPart
    part = found.0

    there : entry_named d.own h.entry.name ≡ Some (told_entry q part)
    there = ap (λ l. entry_named l h.entry.name) rel.own ∙ named-told q c.own h.entry.name part found.1

    both : (fits_accept part.family h.index && are_same (written_formals h.formals) part.formals) ≡ true
    both = fits-told (fits_accept part.family h.index && are_same (written_formals h.formals) part.formals) h.entry.span (sym (ap (λ o. wrong_accept o h) found.1) ∙ m.0.counted)

    fits : fits_accept part.family h.index ≡ true
    fits = and_left (fits_accept part.family h.index) (are_same (written_formals h.formals) part.formals) both

    -- the formal of the caller is that of the entry
    formals-same : are_same (written_formals (caller_formal (added_in (collect_names q)) h.entry.span ∷ h.formals)) (in_number q caller_text ∷ part.formals) ≡ true
    formals-same =
        let c : ℕ = (added_in (collect_names q)).caller.0 in
        ap (λ b. b && true && true && are_same (written_formals h.formals) part.formals) (eq-eqb c c refl) ∙ and_right (fits_accept part.family h.index) (are_same (written_formals h.formals) part.formals) both

    -- the index in c, and in d
    index-here : AllMetBut (if_there (accept_index_sites c (Some part)) h.index)
    index-here =
        subst (λ o. AllMetBut (if_there (accept_index_sites c o) h.index)) found.1 (all_front IsMetBut (if_there (accept_index_sites c (entry_named c.own h.entry.name)) h.index) (formals_sites c h.formals) m.1)

    index-there : (o : Option PExpr) → IfSome o (IsOldExpr old) → AllMetBut (if_there (accept_index_sites c (Some part)) o) → AllMetBut (if_there (accept_index_sites d (Some (listed part.family (in_number q caller_text ∷ part.formals)))) o)
    index-there None i n = tt
    index-there (Some e) i n = listed-index d part part.family (in_number q caller_text ∷ part.formals) e (index-stays IsMetBut same old c d rel.names (Some part) e i n)

    -- The head with the formal of the caller.
    pub head-met : AllMetBut (head_sites d (head_telling (x g task old inner c d rel) h))
    head-met =
        let formals = old-formals old h.formals (recursion_from_All (EveryFormal (own_rules old)) h.formals every.2) in
        let kept = formals-stay IsMetBut same old c d rel.names h.formals formals (all_back IsMetBut (if_there (accept_index_sites c (entry_named c.own h.entry.name)) h.index) (formals_sites c h.formals) m.1) in
        let entry : HasLists (entry_named d.own h.entry.name) part.family (in_number q caller_text ∷ part.formals) = record { its = told_entry q part; is = there; members_are = refl; formals_are = refl } in
        listed-accept d (head_telling (x g task old inner c d rel) h) part.family (in_number q caller_text ∷ part.formals) entry fits formals-same
        (index-there h.index (old-option old (k + 1) h.index every.1) index-here)
        (all_joined IsMetBut (names_sites false (inner_scope d) (all_names (caller_formal (added_in (collect_names q)) h.entry.span ∷ h.formals))) (formal_mark_sites d (caller_formal (added_in (collect_names q)) h.entry.span ∷ h.formals))
        (words-met false (all_names (caller_formal (added_in (collect_names q)) h.entry.span ∷ h.formals)) (inner_scope d))
        (integer-mark d rel.integer.its scalar_only h.entry.span, all_back IsMetBut (names_sites false (inner_scope d) (all_names h.formals)) (formal_mark_sites d h.formals) kept))

    -- The index as a number, at a place d' where its names mean what they mean here.
    pub begun-fit : (unhidden : ℕ → Bool) (d' : Scope) → SameNames unhidden c d' → IfSome h.index (IsOldExpr unhidden) → IsEntryOf g inner d' (entry_of g.numbers task h.entry.name) part.family → (s : Span) →
        IsFit d' integer_kind (member_number g s (entry_of g.numbers task h.entry.name) h.index)
    begun-fit unhidden d' names i entry s = by_index h.index part.family fits entry i index-here
      where
        e : ℕ
        e = entry_of g.numbers task h.entry.name

        by_index : (o : Option PExpr) (fam : Family) → fits_accept fam o ≡ true → IsEntryOf g inner d' e fam → IfSome o (IsOldExpr unhidden) → AllMetBut (if_there (accept_index_sites c (Some (as_family part fam))) o) →
            IsFit d' integer_kind (member_number g s e o)
        by_index None fam f j i n = literal-fit d' 0 s
        by_index (Some y) single f j i n = absurd (true≢false (sym f))
        by_index (Some y) (family range) f j i n =
            member-fit g inner d' s e range.kind y j (fit-of d' range.kind y (all_front IsMetBut (expr_of d' (Some range.kind) y) _ (index-stays IsMetBut same unhidden c d' names (Some (as_family part (family range))) y i n)))
        by_index (Some y) unclear f j i n = absurd j

-- A static index of an accept may as a number stand in a relation: it has the kind of its family's range (rule 3), as the numbers read that range (9.5).
use Rattle.std.proofs.Common.{◌≡◌, ℕ, ◌==◌, true, List, [], ◌∷◌, ◌++◌, Option, Some, None, is_some, refl, sym, ap, subst, ◌∙◌, true≢false, arith}
use Rattle.std.specs.List.{AllByRecursion}
use Rattle.common_lemmas.proofs.Lists.{all_front, all_back}
use Rattle.ada_tree.specs.declared.naming.Span.{Span}
use Rattle.ada_tree.specs.declared.static_types.Kind.TheVariants as kind
use Rattle.ada_tree.specs.TypeTable.{TypeTable}
use Rattle.ada_tree.specs.PlainExpr.{PExpr, PDrange}
use Rattle.ada_tree.specs.PlainStmt.{PHead}
use Rattle.ada_tree.specs.PlainDecl.{PTask}
use Rattle.ada_tree.specs.PlainProgram.{PProgram}
use Rattle.ada_static_rules.specs.Refusals.{types_in}
use Rattle.ada_static_rules.specs.Scope.{Scope, EntryPart, family, truth_kind, kind_at, entry_named}
use Rattle.ada_static_rules.specs.ExprTypes.{expr_place, kind_of, is_other_kind}
use Rattle.ada_static_rules.specs.Demand.{must_be_of, must_lie_in, Site}
use Rattle.ada_static_rules.specs.Sites.{site, if_there, expr_sites, expr_of, accept_index_sites, head_sites, formals_sites}
use Rattle.ada_static_rules.specs.Declaring.{family_of, entry_family, entry_part}
use Rattle.ada_value.specs.StaticLaw.{HasSmallLiterals}
use Rattle.syn_event.specs.CheckScope.{CheckScope, accepts}
use Rattle.syn_event.specs.NamedTasks.{NumberedTask}
use Rattle.syn_event.specs.RuleAcceptPlace.{accept_place}
use Rattle.syn_event.specs.DeclaredTasks.{tasks_of}
use Rattle.task_model.specs.Setting.{Setting, entry_of}
use Rattle.task_model.specs.Starting.{known_range}
use Rattle.normal_model.specs.Ranges.{kind_of_range}
use Rattle.normal_laws.specs.runs.forms.Normalisable.{numbers_of, setting_for}
use Rattle.task_laws.specs.legal.rewritten_types.Agreement.{scalar_only}
use Rattle.task_laws.proofs.legal.rewritten_types.Lookups.{find-all}
use Rattle.task_laws.specs.legal.sites.Met.{IsMet}
use Rattle.task_laws.proofs.legal.types.MainScopes.{StandsWhole, last-stands}
use Rattle.normal_laws.proofs.structure.entries.Entries.{IsTaskOf}
use Rattle.normal_laws.specs.existence.Laws.{IsLegalOriginal}
use Rattle.normal_laws.proofs.existence.seen_tasks.Finding.{no-place}
use Rattle.normal_laws.proofs.existence.seen_tasks.Parts.{FamilyRanged}
use Rattle.normal_laws.proofs.existence.seen_tasks.Bodies.{PlaceSeen}
use Rattle.normal_laws.proofs.existence.statement_forms.Typed.{Typing}
use Rattle.normal_laws.proofs.existence.statement_forms.OwnEntries.{same-kind, EntryKnown, own-entry, index-of-family}
use Rattle.normal_laws.proofs.legality.asked.Tasks.{text}
use Rattle.normal_laws.specs.structure.typed.ScopeOf.{IsFamilyOf, IsEntryOf}
use Rattle.normal_laws.proofs.legality.scopes.Seeing.{entries_in}
use Rattle.normal_laws.proofs.legality.scopes.Main.{last, matched}
use Rattle.normal_laws.proofs.legality.scopes.Matched.{IsTaskMatched}
use Rattle.normal_laws.proofs.legality.scopes.Called.{entry-numbered}
use Rattle.replay_model.specs.Asking.{number_in, member_number}
use Rattle.replay_structure.specs.placed.Fitting.{IsOperand}
use Rattle.replay_structure.proofs.legal.placed.IndexKinds.{kind-operand}

module _ (p : PProgram) (h : IsLegalOriginal p) where
  abbrev T : TypeTable
  T = types_in p

  abbrev g : Setting
  g = setting_for p

  -- the scope behind all declarations
  abbrev pub S : Scope
  S = last p h

  abbrev typing : Typing T (StandsWhole T)
  typing = (text p T (numbers_of p) h.legal h.placed h.names h.small).typed.typing

  -- the kind of BOOLEAN is that of truth values
  truths : scalar_only (kind_at T truth_kind) ≡ Some kind.Truth
  truths =
      let l = last-stands p h.legal.type_rules h.placed h.small in
      l.whole.kinds truth_kind ∙ ap scalar_only l.stands.typed.whole.truths

  -- what is known of an accept in the body of a task, and of a task of the numbers that runs it
  module _ (t : PTask) (s : Scope) (c : CheckScope) (x : PHead) (seen : PlaceSeen p T (Some t) s c) (typed : StandsWhole T s) (own : s.own ≡ entries_in S t) (placed : accept_place c (accepts x) ≡ [])
      (met : AllByRecursion IsMet (head_sites s x)) (k : ℕ) (y : NumberedTask) (is : IsTaskOf p T k y) (unit : y.unit ≡ t) where
    abbrev n : ℕ
    n = entry_of g.numbers k x.entry.name

    entry : EntryKnown p T (StandsWhole T) typing t s.own x.entry.name
    entry = own-entry p T (StandsWhole T) typing t s c x seen placed

    -- its entry is that of the task's number
    numbered : IsEntryOf g n (entry_part entry.around entry.entry)
    numbered =
        let its : IsTaskMatched T S t = find-all (IsTaskMatched T S) (λ (z : PTask). z.name.name.0 == t.name.name.0) (tasks_of p) t (matched p h) seen.own.0.unit in
        entry-numbered p h k y x.entry.name (entry_part entry.around entry.entry) is (subst (IsTaskMatched T S) (sym unit) its)
        (ap (λ (u : PTask). entry_named (entries_in S u) x.entry.name) unit ∙ ap (λ (l : List EntryPart). entry_named l x.entry.name) (sym own) ∙ entry.said)

    module _ (e : PExpr) (q : x.index ≡ Some e) (small : HasSmallLiterals e) where
      index-met : AllByRecursion IsMet (accept_index_sites s (entry_named s.own x.entry.name) e)
      index-met =
          subst (λ o. AllByRecursion IsMet (if_there (accept_index_sites s (entry_named s.own x.entry.name)) o)) q
          (all_front IsMet (if_there (accept_index_sites s (entry_named s.own x.entry.name)) x.index) (formals_sites s x.formals) met.1)

      by_family : (o : Option PDrange) → entry.entry.family ≡ o → FamilyRanged T entry.around o → is_some o ≡ true → (sp : Span) → IsOperand (member_number g sp n (Some e))
      by_family None f ranged there sp = absurd (true≢false (sym there))
      by_family (Some r) f ranged there sp =
          let family-is : entry_family entry.around entry.entry.family ≡ family ranged.range = ap (entry_family entry.around) f ∙ ap family_of ranged.known in
          let part : EntryPart = entry_part entry.around entry.entry in
          let own-kind : List Site = expr_of s (Some ranged.range.kind) e in
          let lies : List Site = site s (must_lie_in e (Some ranged.range)) ∷ [] in
          let at : AllByRecursion IsMet (own-kind ++ lies) =
          subst (λ f. AllByRecursion IsMet (accept_index_sites s (Some (record { name = part.name; family = f; formals = part.formals })) e)) family-is
          (subst (λ o. AllByRecursion IsMet (accept_index_sites s o e)) entry.said index-met) in
          let kinds : AllByRecursion IsMet own-kind = all_front IsMet own-kind lies at in
          let must : List Site = site s (must_be_of e (Some ranged.range.kind)) ∷ [] in
          let worth = typing.expr s e typed small (all_front IsMet (expr_sites s e) must kinds) in
          let kinded = (all_back IsMet (expr_sites s e) must kinds).0 in
          let same : ranged.range.kind ≡ worth.kind = same-kind ranged.range.kind (kind_of s e) worth.kind worth.is (no-place (is_other_kind (Some ranged.range.kind) (kind_of s e)) (expr_place e) kinded.matched) in
          let its : IsFamilyOf g n (family ranged.range) = subst (IsFamilyOf g n) family-is numbered.family in
          let read : kind_of_range T its.1.written ≡ worth.kind = ap (λ o. (known_range o).kind) its.1.has.range ∙ its.1.kind ∙ same in
          subst (λ o. IsOperand (number_in T sp o e)) (sym its.1.is) (kind-operand T sp e s its.1.written worth.kind worth.is read truths)

      of-index : (sp : Span) → IsOperand (member_number g sp n (Some e))
      of-index sp = by_family entry.entry.family refl entry.ranged (index-of-family p T (StandsWhole T) typing s x t entry met.0.counted e q) sp

    -- The number of its entry's member is so.
    pub head-operand : (o : Option PExpr) → x.index ≡ o → ((e : PExpr) → o ≡ Some e → HasSmallLiterals e) → (sp : Span) → IsOperand (member_number g sp n o)
    head-operand None q small sp = omega arith
    head-operand (Some e) q small sp = of-index e q (small e refl) sp

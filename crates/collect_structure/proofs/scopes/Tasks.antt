-- The tasks of the normal form, each entry of which has a formal more in the collecting text, meet the rules there.
use Rattle.std.proofs.Common.{ℕ, Bool, true, false, List, [], ◌∷◌, ◌++◌, map, flat_map, Option, Some, None, IfSome}
use Rattle.std.specs.List.{AllByRecursion}
use Rattle.std.proofs.lemmas.List.Elements.{recursion_from_All}
use Rattle.common_lemmas.proofs.Lists.{all_back, all_front, all_joined}
use Rattle.ada_tree.specs.declared.naming.Span.{Span}
use Rattle.ada_tree.specs.PlainExpr.{PDrange}
use Rattle.ada_tree.specs.PlainStmt.{PFormal}
use Rattle.ada_tree.specs.PlainDecl.{PEntry, PPriority, PTask, DTask}
use Rattle.ada_tree.specs.Every.{EveryDrange, EveryFormal, EveryEntry, EveryPriority, EveryTask}
use Rattle.ada_static_rules.specs.Scope.{Scope, integer_kind}
use Rattle.ada_static_rules.specs.Demand.{scalar_only}
use Rattle.ada_static_rules.specs.Declaring.{inner_scope}
use Rattle.ada_static_rules.specs.Sites.{if_there, names_sites, all_names, static_of, drange_sites, formal_mark_sites, formals_sites, entries_sites, decl_sites}
use Rattle.normal_laws.specs.structure.checked.Around.{own_rules}
use Rattle.task_laws.specs.legal.alike_scopes.Alike.{SameNames}
use Rattle.task_laws.specs.legal.alike_scopes.Laws.{IsMetBut}
use Rattle.normal_laws.specs.structure.typed.ScopeOf.{MeansInteger}
use Rattle.normal_laws.proofs.structure.typed.Variables.{AllMetBut, words-met}
use Rattle.normal_laws.proofs.structure.typed.Stays.{old-expr, old-drange, old-formals, static-stays, drange-stays, formals-stay}
use Rattle.replay_structure.proofs.typed.Control.{integer-mark}
use Rattle.replay_structure.proofs.typed.Declared.{IsMetEntry, entries-met, entries-told as each-entry}
use Rattle.collect_model.specs.declared.AddedNames.{AddedNames}
use Rattle.collect_model.specs.Serving.{caller_formal}
use Rattle.collect_model.specs.CollectTree.{entry_telling, task_telling}
use Rattle.replay_structure.proofs.typed.Typed.{same}

module _ (n : AddedNames) (old : ℕ → Bool) (c d : Scope) (names : SameNames old c d) (int : MeansInteger d) where
  -- the formal of the caller in front of others
  formals-met : (s : Span) (fs : List PFormal) → AllMetBut (formals_sites d fs) → AllMetBut (formals_sites d (caller_formal n s ∷ fs))
  formals-met s fs m =
      all_joined IsMetBut (names_sites false (inner_scope d) (all_names (caller_formal n s ∷ fs))) (formal_mark_sites d (caller_formal n s ∷ fs))
      (words-met false (all_names (caller_formal n s ∷ fs)) (inner_scope d))
      (integer-mark d int scalar_only s, all_back IsMetBut (names_sites false (inner_scope d) (all_names fs)) (formal_mark_sites d fs) m)

  entry-stays : (e : PEntry) → EveryEntry (own_rules old) e → IsMetEntry c e → IsMetEntry d (entry_telling n e)
  entry-stays e h m =
      all_joined IsMetBut (if_there (drange_sites true d) e.family) (formals_sites d (caller_formal n e.name.span ∷ e.formals))
      (by_family e.family h.2 (all_front IsMetBut (if_there (drange_sites true c) e.family) (formals_sites c e.formals) m))
      (formals-met e.name.span e.formals
      (formals-stay IsMetBut same old c d names e.formals (old-formals old e.formals (recursion_from_All (EveryFormal (own_rules old)) e.formals h.3))
      (all_back IsMetBut (if_there (drange_sites true c) e.family) (formals_sites c e.formals) m)))
    where
      by_family : (o : Option PDrange) → IfSome o (EveryDrange (own_rules old) 2) → AllMetBut (if_there (drange_sites true c) o) → AllMetBut (if_there (drange_sites true d) o)
      by_family None i m = tt
      by_family (Some r) i m = drange-stays IsMetBut same old c d names true r (old-drange old 2 r i) m

  entries-stay : (es : List PEntry) → AllByRecursion (EveryEntry (own_rules old)) es → AllByRecursion (IsMetEntry c) es → AllByRecursion (IsMetEntry d) (map (entry_telling n) es)
  entries-stay [] h m = tt
  entries-stay (e ∷ es) h m = (entry-stays e h.0 m.0, entries-stay es h.1 m.1)

  priorities-stay : (ps : List PPriority) → AllByRecursion (EveryPriority (own_rules old)) ps →
      AllMetBut (flat_map (λ (p : PPriority). static_of c (Some integer_kind) p.value) ps) → AllMetBut (flat_map (λ (p : PPriority). static_of d (Some integer_kind) p.value) ps)
  priorities-stay [] h m = tt
  priorities-stay (p ∷ ps) h m =
      all_joined IsMetBut (static_of d (Some integer_kind) p.value) _
      (static-stays IsMetBut same old c d names (Some integer_kind) p.value (old-expr old 2 p.value h.0.1) (all_front IsMetBut (static_of c (Some integer_kind) p.value) _ m))
      (priorities-stay ps h.1 (all_back IsMetBut (static_of c (Some integer_kind) p.value) (flat_map (λ (x : PPriority). static_of c (Some integer_kind) x.value) ps) m))

  -- A task with a formal more of each entry.
  pub task-met : (t : PTask) (s : Span) → EveryTask (own_rules old) t → AllMetBut (decl_sites c (DTask t s)) → AllMetBut (decl_sites d (DTask (task_telling n t) s))
  task-met t s h m =
      let priorities = flat_map (λ (p : PPriority). static_of c (Some integer_kind) p.value) t.priorities in
      let front = all_front IsMetBut (names_sites true c (t.name ∷ []) ++ entries_sites c [] t.entries) priorities m in
      let back = all_back IsMetBut (names_sites true c (t.name ∷ []) ++ entries_sites c [] t.entries) priorities m in
      let told = each-entry c t.entries [] (all_back IsMetBut (names_sites true c (t.name ∷ [])) (entries_sites c [] t.entries) front) in
      let all : AllByRecursion (IsMetEntry d) (map (entry_telling n) t.entries) = entries-stay t.entries (recursion_from_All (EveryEntry (own_rules old)) t.entries h.1) told in
      all_joined IsMetBut (names_sites true d (t.name ∷ []) ++ entries_sites d [] (map (entry_telling n) t.entries))
      (flat_map (λ (p : PPriority). static_of d (Some integer_kind) p.value) t.priorities)
      (all_joined IsMetBut (names_sites true d (t.name ∷ [])) (entries_sites d [] (map (entry_telling n) t.entries)) (words-met true (t.name ∷ []) d)
      (entries-met d (map (entry_telling n) t.entries) [] all))
      (priorities-stay t.priorities (recursion_from_All (EveryPriority (own_rules old)) t.priorities h.2) back)

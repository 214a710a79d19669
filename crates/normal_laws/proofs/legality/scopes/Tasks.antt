-- The tasks of a normal form are seen with the entries that their units have in the program.
use Rattle.std.proofs.Common.{◌≡◌, ℕ, Bool, true, false, ◌==◌, cond, if◌then◌else◌, List, [], ◌∷◌, ◌++◌, map, filter, flat_map, Option, Some, None, IfSome, refl, sym, ap, ap₂, ◌∙◌}
use Rattle.std.specs.List.{AllByRecursion, filter}
use Rattle.std.proofs.lemmas.List.Elements.{recursion_from_All}
use Rattle.common_lemmas.proofs.Lists.{not_empty, first_same, rest_same}
use Rattle.ada_tree.specs.declared.naming.NameId.{NameId}
use Rattle.ada_tree.specs.declared.naming.Span.{Span}
use Rattle.ada_tree.specs.declared.naming.Word.{Word}
use Rattle.ada_tree.specs.PlainExpr.{PDrange}
use Rattle.ada_tree.specs.PlainStmt.{PFormal}
use Rattle.ada_tree.specs.PlainDecl.{PEntry, PTask, PDecl, DNumber, DObject, DEnumeration, DArray, DSubtype, DException, DIntIo, DPragma, DTask, DTaskBody}
use Rattle.ada_tree.specs.Every.{Rules, EveryDrange, EveryFormal, EveryEntry}
use Rattle.ada_static_rules.specs.Scope.{Scope, FormalPart}
use Rattle.ada_static_rules.specs.Declaring.{family_of, entry_family, formal_parts, entry_part}
use Rattle.syn_event.specs.DeclaredTasks.{tasks_in}
use Rattle.normal_model.specs.NormalTree.{task_under, declared_under}
use Rattle.task_laws.specs.legal.alike_scopes.Alike.{SameNames}
use Rattle.task_laws.proofs.legal.alike_scopes.Exprs.{mark-kind-same, drange-same}
use Rattle.normal_laws.proofs.legality.scopes.Olds.{old-drange}

-- ---- the declaration of a task

-- the test of a name
abbrev pub has_name : NameId → PTask → Bool
has_name id t = t.name.name.0 == id.0

-- the task that is declared for a unit
pub record IsDeclaredAs (unit name : NameId) (ds : List PDecl) (u : PTask) : Type 0 where
  pub place : Span
  pub is : flat_map (declared_under unit name) ds ≡ DTask (task_under name u) place ∷ []

module _ (unit name : NameId) where
  -- where no task has the unit's name, none is declared
  none-under : (ds : List PDecl) → filter (has_name unit) (tasks_in ds) ≡ [] → flat_map (declared_under unit name) ds ≡ []
  none-under [] e = refl
  none-under (DTask t s ∷ ds) e = by_test (t.name.name.0 == unit.0) e (none-under ds)
    where
      by_test : (b : Bool) → cond b (t ∷ filter (has_name unit) (tasks_in ds)) (filter (has_name unit) (tasks_in ds)) ≡ [] → (filter (has_name unit) (tasks_in ds) ≡ [] → flat_map (declared_under unit name) ds ≡ []) →
          (if b then DTask (task_under name t) s ∷ [] else []) ++ flat_map (declared_under unit name) ds ≡ []
      by_test true f later = absurd (not_empty _ _ f)
      by_test false f later = later f
  none-under (DTaskBody w objects its s ∷ ds) e = none-under ds e
  none-under (DNumber w x s ∷ ds) e = none-under ds e
  none-under (DObject ws c x i s ∷ ds) e = none-under ds e
  none-under (DEnumeration w ws s ∷ ds) e = none-under ds e
  none-under (DArray w r x s ∷ ds) e = none-under ds e
  none-under (DSubtype w x s ∷ ds) e = none-under ds e
  none-under (DException ws s ∷ ds) e = none-under ds e
  none-under (DIntIo w s ∷ ds) e = none-under ds e
  none-under (DPragma x s ∷ ds) e = none-under ds e

  -- where one has it, that one is
  pub one-under : (ds : List PDecl) (u : PTask) → filter (has_name unit) (tasks_in ds) ≡ u ∷ [] → IsDeclaredAs unit name ds u
  one-under [] u e = absurd (not_empty u [] (sym e))
  one-under (DTask t s ∷ ds) u e = by_test (t.name.name.0 == unit.0) refl e (one-under ds u)
    where
      by_test : (b : Bool) → (t.name.name.0 == unit.0) ≡ b → cond b (t ∷ filter (has_name unit) (tasks_in ds)) (filter (has_name unit) (tasks_in ds)) ≡ u ∷ [] → (filter (has_name unit) (tasks_in ds) ≡ u ∷ [] → IsDeclaredAs unit name ds u) →
          IsDeclaredAs unit name (DTask t s ∷ ds) u
      by_test true q f later = record {
        place = s;
        is =
            ap (λ b. (if b then DTask (task_under name t) s ∷ [] else []) ++ flat_map (declared_under unit name) ds) q
            ∙ ap₂ (λ x l. DTask (task_under name x) s ∷ l) (first_same f) (none-under ds (rest_same f));
      }
      by_test false q f later =
          let r = later f in
          record { place = r.place; is = ap (λ b. (if b then DTask (task_under name t) s ∷ [] else []) ++ flat_map (declared_under unit name) ds) q ∙ r.is }
  one-under (DTaskBody w objects its s ∷ ds) u e = let r = one-under ds u e in record { place = r.place; is = r.is }
  one-under (DNumber w x s ∷ ds) u e = let r = one-under ds u e in record { place = r.place; is = r.is }
  one-under (DObject ws c x i s ∷ ds) u e = let r = one-under ds u e in record { place = r.place; is = r.is }
  one-under (DEnumeration w ws s ∷ ds) u e = let r = one-under ds u e in record { place = r.place; is = r.is }
  one-under (DArray w q x s ∷ ds) u e = let r = one-under ds u e in record { place = r.place; is = r.is }
  one-under (DSubtype w x s ∷ ds) u e = let r = one-under ds u e in record { place = r.place; is = r.is }
  one-under (DException ws s ∷ ds) u e = let r = one-under ds u e in record { place = r.place; is = r.is }
  one-under (DIntIo w s ∷ ds) u e = let r = one-under ds u e in record { place = r.place; is = r.is }
  one-under (DPragma x s ∷ ds) u e = let r = one-under ds u e in record { place = r.place; is = r.is }

-- ---- entries

module _ (rules : Rules) (old : ℕ → Bool) (names : (id : NameId) → rules.name id → old id.0 ≡ true) (s t : Scope) (n : SameNames old s t) where
  family-same : (o : Option PDrange) → IfSome o (EveryDrange rules 2) → entry_family s o ≡ entry_family t o
  family-same None h = refl
  family-same (Some r) h = ap family_of (drange-same old s t n r (old-drange rules old names r 2 h)).range

  formals-same : (fs : List PFormal) → AllByRecursion (EveryFormal rules) fs → formal_parts s fs ≡ formal_parts t fs
  formals-same [] h = refl
  formals-same (f ∷ fs) h =
      ap₂ (λ (k : Option ℕ) (rest : List FormalPart). map (λ (w : Word). record { name = w.name; mode = f.mode; mark = f.mark.name; kind = k }) f.names ++ rest)
      (mark-kind-same old s t n f.mark.name (names f.mark.name h.0.1)) (formals-same fs h.1)

  -- entries of old names are the same in two scopes in which old names are
  pub entries-same : (es : List PEntry) → AllByRecursion (EveryEntry rules) es → map (entry_part s) es ≡ map (entry_part t) es
  entries-same [] h = refl
  entries-same (e ∷ es) h =
      ap₂ (λ x l. x ∷ l)
      (ap₂ (λ a c. record { name = e.name.name; family = a; formals = c }) (family-same e.family h.0.2) (formals-same e.formals (recursion_from_All _ e.formals h.0.3)))
      (entries-same es h.1)

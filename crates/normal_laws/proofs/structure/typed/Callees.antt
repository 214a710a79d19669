-- What a callee means in the program, and the tasks of the normal form that take its place.
use Rattle.std.proofs.Common.{◌≡◌, ℕ, Bool, if◌then◌else◌, List, [], ◌∷◌, ◌++◌, Option, Some, None, is_some, refl, sym, ap, subst, ◌∙◌}
use Rattle.std.specs.List.{AllByRecursion}
use Rattle.ada_tree.specs.declared.naming.NameId.{NameId}
use Rattle.ada_tree.specs.declared.naming.Span.{Span}
use Rattle.ada_tree.specs.declared.naming.Word.{Word}
use Rattle.ada_tree.specs.PlainExpr.{PExpr}
use Rattle.ada_tree.specs.PlainStmt.{PCallee}
use Rattle.ada_tree.specs.PlainDecl.{PDecl}
use Rattle.ada_static_rules.specs.Scope.{Scope, Range, EntryPart, Thing, TypeMark, TaskType, SingleTask, TaskObject, TaskArray, Variable, ConstantObject, Parameter, LoopParameter, Literal, AnException, MainProcedure, AnotherUnit, Unclear, meaning, entry_named}
use Rattle.ada_static_rules.specs.Demand.{Site}
use Rattle.ada_static_rules.specs.Sites.{if_there, expr_sites, callee_sites}
use Rattle.ada_static_rules.specs.RuleUnknown.{missing, unknown_entry}
use Rattle.ada_static_rules.specs.RuleMismatch.{of_other_kind, no_task, misfit_member}
use Rattle.ada_static_rules.specs.RuleArgCount.{index_of_callee, called_entry}
use Rattle.syn_event.proofs.Nothing.{append_nothing}
use Rattle.task_model.specs.Setting.{Setting}
use Rattle.normal_model.specs.RewrittenUnit.{RewrittenUnit}
use Rattle.normal_laws.specs.structure.asked.Pieces.{IsTarget, named}
use Rattle.task_laws.specs.legal.alike_scopes.Laws.{IsMetBut}
use Rattle.normal_laws.specs.structure.typed.ScopeOf.{IsSeenWith, IsTaskThere, IsScopeOf, IsPlaceOf, AreTasksOf}
use Rattle.normal_laws.proofs.structure.typed.Places.{met-callee}

-- a name means a task, an object of a task type or an array of tasks, with these entries
pub data IsTaskSeen (es : List EntryPart) : Option Thing → Type 0 where
  single_seen : (xs : List EntryPart) → xs ≡ es → IsTaskSeen es (Some (SingleTask xs))
  object_seen : (xs : List EntryPart) → xs ≡ es → IsTaskSeen es (Some (TaskObject xs))
  array_seen : (range : Range) (xs : List EntryPart) → xs ≡ es → IsTaskSeen es (Some (TaskArray range xs))

task-seen : (es : List EntryPart) (o : Option Thing) (w : Word) → (if is_some o then [] else w.span ∷ []) ≡ [] → no_task o w ≡ [] → (o ≡ Some Unclear → ⊥) → IsSeenWith es o → IsTaskSeen es o
task-seen es None w k n u h = cc
task-seen es (Some (TypeMark m)) w k n u h = cc
task-seen es (Some (TaskType xs)) w k n u h = absurd h
task-seen es (Some (SingleTask xs)) w k n u h = single_seen xs h
task-seen es (Some (TaskObject xs)) w k n u h = object_seen xs h
task-seen es (Some (TaskArray range xs)) w k n u h = array_seen range xs h
task-seen es (Some (Variable m)) w k n u h = cc
task-seen es (Some (ConstantObject m)) w k n u h = cc
task-seen es (Some (Parameter mode m)) w k n u h = cc
task-seen es (Some (LoopParameter m)) w k n u h = cc
task-seen es (Some (Literal j)) w k n u h = cc
task-seen es (Some AnException) w k n u h = cc
task-seen es (Some MainProcedure) w k n u h = absurd h
task-seen es (Some AnotherUnit) w k n u h = cc
task-seen es (Some Unclear) w k n u h = absurd (u refl)

-- the entries of a task that is seen are told once
same-entries : (es fs : List EntryPart) (o : Option Thing) → IsTaskSeen es o → IsSeenWith fs o → fs ≡ es
same-entries es fs o (single_seen xs e) h = sym h ∙ e
same-entries es fs o (object_seen xs e) h = sym h ∙ e
same-entries es fs o (array_seen range xs e) h = sym h ∙ e

-- the entry that is called is one of these
pub seen-entry : (es : List EntryPart) (o : Option Thing) (name : NameId) → IsTaskSeen es o → called_entry o name ≡ entry_named es name
seen-entry es o name (single_seen xs e) = ap (λ l. entry_named l name) e
seen-entry es o name (object_seen xs e) = ap (λ l. entry_named l name) e
seen-entry es o name (array_seen range xs e) = ap (λ l. entry_named l name) e

pub seen-missing : (es : List EntryPart) (o : Option Thing) (w : Word) → IsTaskSeen es o → unknown_entry o w ≡ missing (entry_named es w.name) w
seen-missing es o w (single_seen xs e) = ap (λ l. missing (entry_named l w.name) w) e
seen-missing es o w (object_seen xs e) = ap (λ l. missing (entry_named l w.name) w) e
seen-missing es o w (array_seen range xs e) = ap (λ l. missing (entry_named l w.name) w) e

-- a callee with an index is an array of tasks, and the index is of its kind
pub record HasIndexOf (c : Scope) (o : Option Thing) (e : PExpr) : Type 0 where
  pub range : Range
  pub entries : List EntryPart
  pub means : o ≡ Some (TaskArray range entries)
  pub fits : of_other_kind c (Some range.kind) e ≡ []

index-of : (c : Scope) (es : List EntryPart) (o : Option Thing) (e : PExpr) (s : Span) → IsTaskSeen es o → index_of_callee o (Some e) s ≡ [] → misfit_member c o (Some e) ≡ [] → HasIndexOf c o e
index-of c es o e s (single_seen xs f) k m = cc
index-of c es o e s (object_seen xs f) k m = cc
index-of c es o e s (array_seen range xs f) k m = record { range = range; entries = xs; means = refl; fits = m }

module _ (u : RewrittenUnit) (own : ℕ → Bool) (vars : List PDecl) (c d : Scope) (rel : IsScopeOf u own vars c d) where
  abbrev g : Setting
  g = u.setting

  abbrev P : Site → Type 0
  P = IsPlaceOf g

  module _ (x : PCallee) (tasks : AreTasksOf g x) (m : AllByRecursion P (callee_sites c x)) where
    abbrev o : Option Thing
    o = meaning c x.name.name

    abbrev there : IsTaskThere g c d tasks.info
    there = (rel.tasks tasks.info tasks.among).0

    -- the entries of the callee
    abbrev pub callee_entries : List EntryPart
    callee_entries = there.entries

    pub callee-seen : IsTaskSeen callee_entries o
    callee-seen = task-seen callee_entries o x.name m.0.0.known (append_nothing (no_task o x.name) (misfit_member c o x.index) m.0.0.matched).0 m.0.1 (subst (λ id. IsSeenWith callee_entries (meaning c id)) tasks.named there.seen)

    -- what takes its place is a single task with these entries
    pub target-means : (w : Word) → IsTarget g x w → meaning d w.name ≡ Some (SingleTask callee_entries)
    target-means w t =
        let q = tasks.targets w t in
        let that = (rel.tasks q.info q.among).0 in
        ap (meaning d) q.is ∙ that.means ∙ ap (λ es. Some (SingleTask es)) (same-entries callee_entries that.entries o callee-seen (subst (λ id. IsSeenWith that.entries (meaning c id)) q.named that.seen))

    pub target-met : (w : Word) → IsTarget g x w → AllByRecursion IsMetBut (callee_sites d (named w))
    target-met w t =
        let means = target-means w t in (
          met-callee d (named w) record {
            known = ap (λ q. if is_some q then [] else w.span ∷ []) means;
            matched = ap (λ q. no_task q w ++ misfit_member d q None) means;
            ranged = refl;
            counted = ap (λ q. index_of_callee q None w.span) means;
          },
          tt,
        )

    -- with an index it is an array of tasks, and in the index nothing is refused
    pub callee-index : (e : PExpr) → x.index ≡ Some e → HasIndexOf c o e × AllByRecursion P (expr_sites c e)
    callee-index e f = (
      index-of c callee_entries o e x.name.span callee-seen
          (ap (λ i. index_of_callee o i x.name.span) (sym f) ∙ m.0.0.counted)
          (ap (misfit_member c o) (sym f) ∙ (append_nothing (no_task o x.name) (misfit_member c o x.index) m.0.0.matched).1),
      subst (λ i. AllByRecursion P (if_there (expr_sites c) i)) f m.1,
    )

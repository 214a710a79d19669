-- The calls in the body of main, and in each body that a task runs, have actuals for formals alone.
use Rattle.std.proofs.Common.{◌≡◌, ℕ, suc, ◌==◌, Bool, true, false, cond, if◌then◌else◌, List, [], ◌∷◌, slice_get, Some, refl, ap, subst, ◌∙◌, arith}
use Rattle.std.specs.List.{AllByRecursion, filter}
use Rattle.std.proofs.lemmas.Bool.{ne_eqb, eqb-true}
use Rattle.std.proofs.lemmas.Option.{slice_get_within}
use Rattle.common_lemmas.proofs.Lists.{all_by_place, all_front, all_weaker}
use Rattle.ada_tree.specs.declared.naming.NameId.{NameId}
use Rattle.ada_tree.specs.PlainStmt.{PBody}
use Rattle.ada_tree.specs.PlainDecl.{PDecl, DTaskBody}
use Rattle.ada_tree.specs.PlainProgram.{PProgram}
use Rattle.ada_static_rules.specs.Declaring.{first_scope, inner_scope, after_decls}
use Rattle.ada_static_rules.specs.Sites.{decls_sites, body_sites}
use Rattle.syn_event.specs.declared.numbering.TaskInfo.{TaskInfo}
use Rattle.syn_event.specs.Numbering.{task_at}
use Rattle.syn_event.specs.DeclaredTasks.{decl_list}
use Rattle.task_model.specs.Setting.{Setting}
use Rattle.task_model.specs.Starting.{Unit as TaskUnit, unit_among, unit_of_info}
use Rattle.task_laws.specs.legal.asked.Asked.{AskedBody}
use Rattle.normal_model.specs.NormalTree.{tasks_beside}
use Rattle.normal_laws.specs.structure.asked.Pieces.{IsAmong}
use Rattle.normal_laws.specs.structure.placed.Placeable.{call_asks, TakesCalls}
use Rattle.normal_laws.proofs.existence.room.Taken.{body-taken}
use Rattle.normal_laws.proofs.existence.room.OneBody.{IsTheBody, bodies-once}
use Rattle.normal_laws.specs.runs.runs.Premises.{Rewrite, unit_at, unit_before}
use Rattle.normal_laws.specs.runs.forms.Normalisable.{numbers_of, setting_for, normal_rewrite, IsNormalisable}
use Rattle.task_laws.specs.legal.sites.Met.{IsMet}
use Rattle.task_laws.proofs.legal.sites.Meeting.{all_met}
use Rattle.normal_laws.specs.existence.Laws.{IsLegalOriginal}
use Rattle.normal_laws.proofs.existence.Joined.{legal_is_normalisable}

module _ (p : PProgram) (h : IsLegalOriginal p) where
  abbrev g : Setting
  g = setting_for p

  abbrev r : Rewrite
  r = normal_rewrite p []

  abbrev Takes : PBody → Type 0
  Takes b = AskedBody (call_asks g) tt 1 b

  is : IsNormalisable p []
  is = legal_is_normalisable p h []

  unit-takes : (t : ℕ) (info : TaskInfo) → slice_get (numbers_of p).tasks t ≡ Some info → Takes (unit_before r t).body
  unit-takes t info e = body-taken (unit_at r t) 1 (unit_before r t).body (is.text t (slice_get_within (numbers_of p).tasks t info e))

  pub main-takes : Takes p.body
  main-takes = unit-takes 0 _ refl

  abbrev RunsTaking : TaskInfo → Type 0
  RunsTaking info = Takes (unit_among p.decls info.unit).body

  task-takes : (k : ℕ) (info : TaskInfo) → slice_get (tasks_beside g) k ≡ Some info → RunsTaking info
  task-takes k info e =
      let unit : unit_before r (suc k) ≡ unit_among p.decls info.unit =
      (ap (λ c. if c then record { in_main = true; decls = p.decls; body = p.body } else unit_of_info p (task_at (numbers_of p) (suc k))) (ne_eqb (suc k) 0 (λ q. omega (arith, q))) ∙ ap (unit_of_info p) e) in
      subst (λ (y : TaskUnit). Takes y.body) unit (unit-takes (suc k) info e)

  tasks-take : AllByRecursion RunsTaking (tasks_beside g)
  tasks-take = all_by_place RunsTaking (tasks_beside g) task-takes

  runs-taking : (w : NameId) (xs : List TaskInfo) → AllByRecursion RunsTaking xs → (info : TaskInfo) → IsAmong info (filter (λ i. i.unit.0 == w.0) xs) → Takes (unit_among p.decls w).body
  runs-taking w [] k info i = elim i [ ]
  runs-taking w (x ∷ xs) k info i = by_test (x.unit.0 == w.0) refl i (runs-taking w xs k.1 info)
    where
      by_test : (b : Bool) → (x.unit.0 == w.0) ≡ b → IsAmong info (cond b (x ∷ filter (λ i. i.unit.0 == w.0) xs) (filter (λ i. i.unit.0 == w.0) xs)) →
          (IsAmong info (filter (λ i. i.unit.0 == w.0) xs) → Takes (unit_among p.decls w).body) → Takes (unit_among p.decls w).body
      by_test true e j rest = subst (λ (n : ℕ). Takes (unit_among p.decls record { 0 = n }).body) (eqb-true x.unit.0 w.0 e) k.0
      by_test false e j rest = rest j

  decl-takes : (d : PDecl) → IsTheBody p.decls d → TakesCalls g d
  decl-takes (DTaskBody w objects its s) e = λ info i. subst (λ (b : PBody). Takes b) e (runs-taking w.name (tasks_beside g) tasks-take info i)
  decl-takes d e = tt

  the-bodies : AllByRecursion (IsTheBody p.decls) (decl_list p.decls)
  the-bodies =
      bodies-once p.decls p.decls (first_scope p.name)
      (all_front IsMet (decls_sites (first_scope p.name) p.decls) (body_sites (inner_scope (after_decls (first_scope p.name) p.decls)) p.body) (all_met p h.legal.type_rules).1) (λ name n. refl)

  pub bodies-take : AllByRecursion (TakesCalls g) (decl_list p.decls)
  bodies-take = all_weaker (IsTheBody p.decls) (TakesCalls g) (decl_list p.decls) decl-takes the-bodies

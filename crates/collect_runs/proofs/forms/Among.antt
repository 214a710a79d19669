-- The units that are found among the bodies of a text that is told, whether abort statements can stand in the program or not.
use Rattle.std.proofs.Common.{◌≡◌, ◌==◌, Bool, true, false, not, ◌||◌, if◌then◌else◌, List, [], ◌∷◌, ◌++◌, map, unwrap_or, Some, None, refl, sym, ap, ◌∙◌, subst, true≢false, append_assoc}
use Rattle.std.specs.List.{AllByRecursion, filter}
use Rattle.common_lemmas.proofs.Lists.{all_joined, all_weaker}
use Rattle.ada_tree.specs.declared.naming.NameId.{NameId}
use Rattle.ada_tree.specs.declared.naming.Span.{Span}
use Rattle.ada_tree.specs.declared.naming.Word.{Word}
use Rattle.ada_tree.specs.PlainStmt.{PBody}
use Rattle.ada_tree.specs.PlainDecl.{PDecl, DTask, DTaskBody, PDecls, no_decl, decl_then, decls_of}
use Rattle.ada_tree.specs.PlainProgram.{PProgram}
use Rattle.syn_event.specs.DeclaredTasks.{decl_list}
use Rattle.task_model.specs.Starting.{Unit, unit_among}
use Rattle.replay_model.specs.ReplayTree.{is_task, is_body}
use Rattle.normal_laws.proofs.structure.units.Bodies.{IsNoBody, skip-list}
use Rattle.normal_laws.proofs.structure.numbers.Listed.{IsPlain}
use Rattle.replay_structure.proofs.texts.Listed.{sorted-plain}
use Rattle.replay_structure.specs.bodies.Laws.{has_body}
use Rattle.collect_model.specs.declared.AddedNames.{AddedNames}
use Rattle.collect_model.specs.Recording.{recorder_declared}
use Rattle.collect_model.specs.CollectTree.{behind_own}
use Rattle.collect_structure.proofs.texts.Listed.{all-behind}
use Rattle.collect_structure.proofs.texts.Telling.{IsTelling, told_with}
use Rattle.replay_structure.proofs.bodies.Bodies.{plain-no-body}

-- ---- what is passed over

tasks-no-body : (n : AddedNames) (f : PDecl → PDecl) → IsTelling n f → (ds : List PDecl) → AllByRecursion IsNoBody (map f (filter is_task ds))
tasks-no-body n f tells [] = tt
tasks-no-body n f tells (DTask t sp ∷ ds) = (subst IsNoBody (sym (tells.task t sp)) tt, tasks-no-body n f tells ds)
tasks-no-body n f tells (d ∷ ds) = tasks-no-body n f tells ds

-- only the bodies are looked at
pub told-alone : (n : AddedNames) (f : PDecl → PDecl) → IsTelling n f → (q : PProgram) (more : List PDecl) (last : PDecl) (name : NameId) → AllByRecursion IsPlain more →
    unit_among (decls_of (told_with q.names more f (recorder_declared n q.name.span) last (filter (λ d. not (is_task d || is_body d)) (decl_list q.decls))
    (filter is_task (decl_list q.decls)) (filter is_body (decl_list q.decls)))) name
    ≡ unit_among (decls_of (map f (filter is_body (decl_list q.decls)) ++ (last ∷ []))) name
told-alone n f tells q more last name plain =
    let ds = decl_list q.decls in
    let objects = filter (λ d. not (is_task d || is_body d)) ds in
    let first = behind_own q.names more objects in
    let tasks = map f (filter is_task ds) in
    let recorder = recorder_declared n q.name.span ∷ [] in
    let bodies = map f (filter is_body ds) in
    ap (λ l. unit_among (decls_of l) name) (append_assoc (first ++ tasks ++ recorder) bodies (last ∷ []))
    ∙ skip-list (first ++ tasks ++ recorder) (bodies ++ last ∷ []) name
    (all_joined IsNoBody (first ++ tasks) recorder
    (all_joined IsNoBody first tasks
    (all_weaker IsPlain IsNoBody first plain-no-body (all-behind IsPlain q.names more objects plain (sorted-plain ds))) (tasks-no-body n f tells ds)) (tt, tt))

-- ---- bodies

-- the unit that is found among these declarations
abbrev pub among : NameId → List PDecl → Unit
among name ds = unit_among (decls_of ds) name

-- a body of another name is passed over, and one of the name is found
pub other : (name : NameId) (w : Word) (objects : PDecls) (its : PBody) (sp : Span) (rest : List PDecl) → (w.name.0 == name.0) ≡ false →
    among name (DTaskBody w objects its sp ∷ rest) ≡ among name rest
other name w objects its sp rest e =
    ap (λ (b : Bool). unwrap_or (if b then Some record { in_main = false; decls = objects; body = its } else None) (among name rest)) e

pub same : (name : NameId) (w : Word) (objects : PDecls) (its : PBody) (sp : Span) (rest : List PDecl) → (w.name.0 == name.0) ≡ true →
    among name (DTaskBody w objects its sp ∷ rest) ≡ record { in_main = false; decls = objects; body = its }
same name w objects its sp rest e =
    ap (λ (b : Bool). unwrap_or (if b then Some record { in_main = false; decls = objects; body = its } else None) (among name rest)) e

-- Where a body of the name becomes this unit, and one of another name is passed over.
module _ (f : PDecl → PDecl) (unit : Span → Unit → Unit) (name : NameId)
    (told : (w : Word) (objects : PDecls) (its : PBody) (sp : Span) (rest : List PDecl) → (w.name.0 == name.0) ≡ true →
    among name (f (DTaskBody w objects its sp) ∷ rest) ≡ unit w.span (record { in_main = false; decls = objects; body = its }))
    (passed : (w : Word) (objects : PDecls) (its : PBody) (sp : Span) (rest : List PDecl) → (w.name.0 == name.0) ≡ false →
    among name (f (DTaskBody w objects its sp) ∷ rest) ≡ among name rest) where
  pub found-among : (ds : PDecls) (rest : List PDecl) → has_body (decl_list ds) name ≡ true →
      (s : Span) × (among name (map f (filter is_body (decl_list ds)) ++ rest) ≡ unit s (unit_among ds name))
  found-among no_decl rest h = absurd (true≢false (sym h))
  found-among (decl_then (DTaskBody w objects its sp) ds) rest h = by_test (w.name.0 == name.0) refl h (found-among ds rest)
    where
      by_test : (b : Bool) → (w.name.0 == name.0) ≡ b → (b || has_body (decl_list ds) name) ≡ true →
          (has_body (decl_list ds) name ≡ true → (s : Span) × (among name (map f (filter is_body (decl_list ds)) ++ rest) ≡ unit s (unit_among ds name))) →
          (s : Span) × (among name (f (DTaskBody w objects its sp) ∷ map f (filter is_body (decl_list ds)) ++ rest)
          ≡ unit s (unwrap_or (if w.name.0 == name.0 then Some record { in_main = false; decls = objects; body = its } else None) (unit_among ds name)))
      by_test true e any later = (
        w.span,
        told w objects its sp (map f (filter is_body (decl_list ds)) ++ rest) e
            ∙ ap (λ (b : Bool). unit w.span (unwrap_or (if b then Some record { in_main = false; decls = objects; body = its } else None) (unit_among ds name))) (sym e),
      )
      by_test false e any later =
          let rest_found = later any in (
            rest_found.0,
            passed w objects its sp (map f (filter is_body (decl_list ds)) ++ rest) e
                ∙ rest_found.1
                ∙ ap (λ (b : Bool). unit rest_found.0 (unwrap_or (if b then Some record { in_main = false; decls = objects; body = its } else None) (unit_among ds name)))
                (sym e),
          )
  found-among (decl_then d ds) rest h = found-among ds rest h

  -- where there is none, what stands behind is found
  pub missing-among : (ds : List PDecl) (rest : List PDecl) → has_body ds name ≡ false → among name (map f (filter is_body ds) ++ rest) ≡ among name rest
  missing-among [] rest h = refl
  missing-among (DTaskBody w objects its sp ∷ ds) rest h = by_test (w.name.0 == name.0) refl h (missing-among ds rest)
    where
      by_test : (b : Bool) → (w.name.0 == name.0) ≡ b → (b || has_body ds name) ≡ false →
          (has_body ds name ≡ false → among name (map f (filter is_body ds) ++ rest) ≡ among name rest) →
          among name (f (DTaskBody w objects its sp) ∷ map f (filter is_body ds) ++ rest) ≡ among name rest
      by_test true e none later = absurd (true≢false none)
      by_test false e none later = passed w objects its sp (map f (filter is_body ds) ++ rest) e ∙ later none
  missing-among (d ∷ ds) rest h = missing-among ds rest h

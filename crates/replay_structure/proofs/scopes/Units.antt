-- Declarations of both texts, one by one: variables, tasks and bodies of main, and the objects of bodies with the variables of a permit among them.
use Rattle.std.proofs.Common.{◌≡◌, ℕ, Bool, true, false, if◌then◌else◌, List, [], ◌∷◌, map, Option, Some, None, refl, sym, ap, subst, ◌∙◌, true≢false}
use Rattle.std.specs.List.{AllByRecursion}
use Rattle.ada_tree.specs.declared.naming.NameId.{NameId}
use Rattle.ada_tree.specs.declared.naming.Span.{Span}
use Rattle.ada_tree.specs.declared.naming.Word.{Word}
use Rattle.ada_tree.specs.PlainStmt.{PBody}
use Rattle.ada_tree.specs.PlainDecl.{OPlain, PInit, PTask, PDecl, DNumber, DObject, DEnumeration, DArray, DSubtype, DException, DIntIo, DPragma, DTask, DTaskBody, PDecls, no_decl, decls_of}
use Rattle.ada_tree.specs.PlainProgram.{PProgram}
use Rattle.ada_static_rules.specs.Scope.{Scope}
use Rattle.ada_static_rules.specs.Declaring.{inner_scope, in_body, Declared, constant_mark, add_constants, constant_value, declared_object, with_constants, after_own_object, after_objects, after_decl, after_decls}
use Rattle.syn_event.specs.DeclaredTasks.{decl_list}
use Rattle.task_model.specs.Setting.{Setting}
use Rattle.task_laws.specs.legal.rewritten_types.Rewriting.{IsNew, IsAdded}
use Rattle.task_laws.proofs.legal.rewritten_types.Keeping.{keeps-self}
use Rattle.task_laws.proofs.legal.alike_scopes.Inner.{own-object-main}
use Rattle.normal_laws.proofs.structure.typed.Scopes.{differ}
use Rattle.replay_model.specs.Names.{kind_text, argument_text, index_text, added_id}
use Rattle.replay_model.specs.ReplayTree.{is_added_object, permit_declared, behind_own, replay_decl}
use Rattle.replay_structure.specs.scopes.More.{AreEntriesNew, IsMore, ArePermitsNew, IsReady, HasPermit}
use Rattle.replay_structure.specs.scopes.Form.{IsOwnObject, IsVariableOf, IsTaskOf, ReadyAlong}
use Rattle.replay_structure.proofs.scopes.Same.{declared-same}
use Rattle.replay_structure.proofs.scopes.More.{name-added, object-both, inside-more, in-body-more}
use Rattle.replay_structure.proofs.scopes.Doubles.{task-both}
use Rattle.replay_structure.proofs.scopes.Permit.{permit-more, permit-there, only, number-step, number-objects}
use Rattle.syn_event.proofs.DeclLists.{list_again}

module _ (q : PProgram) (old : ℕ → Bool) where
  -- so it is in each of these bodies, whose objects are as asked
  abbrev pub BodiesReady : Scope → List PDecl → Type 0
  BodiesReady c [] = Prim.Unit {0}
  BodiesReady c (DTaskBody w objects its s ∷ xs) = ReadyAlong q old (in_body c w) (decl_list objects) × AllByRecursion (IsOwnObject old) (decl_list objects) × BodiesReady (after_decl c (DTaskBody w objects its s)) xs
  BodiesReady c (x ∷ xs) = ⊥

  -- ---- objects of a body

  no-values : (s : Scope) (names : List Word) (init : Option PInit) (x : Declared) → s.in_main ≡ false → with_constants s names init x ≡ x.types
  no-values s names init x e = ap (λ b. if b then add_constants names (constant_mark x.thing) (constant_value s x.types (constant_mark x.thing) init) x.types else x.types) e

  pub own-both : (x : PDecl) (c d : Scope) → c.in_main ≡ false → IsOwnObject old x → IsMore q old c d → IsMore q old (after_own_object c x) (after_own_object d x)
  own-both (DObject ws constant shape init s) c d main o m =
      object-both q old ws constant shape init c d o.1
      (no-values c ws init (declared_object c constant shape) main ∙ ap (λ (y : Declared). y.types) (declared-same q old c d m constant shape o.1) ∙ sym (no-values d ws init (declared_object d constant shape) (m.main ∙ main))) m
  own-both (DNumber w e s) c d main o m = absurd o
  own-both (DEnumeration w ws s) c d main o m = absurd o
  own-both (DArray w r x s) c d main o m = absurd o
  own-both (DSubtype w x s) c d main o m = absurd o
  own-both (DException ws s) c d main o m = absurd o
  own-both (DIntIo w s) c d main o m = absurd o
  own-both (DPragma e s) c d main o m = absurd o
  own-both (DTask t s) c d main o m = absurd o
  own-both (DTaskBody w objects its s) c d main o m = absurd o

  objects-both : (xs : List PDecl) (c d : Scope) → c.in_main ≡ false → AllByRecursion (IsOwnObject old) xs → IsMore q old c d → IsMore q old (after_objects c (decls_of xs)) (after_objects d (decls_of xs))
  objects-both [] c d main o m = m
  objects-both (x ∷ xs) c d main o m = objects-both xs (after_own_object c x) (after_own_object d x) (own-object-main old x c ∙ main) o.1 (own-both x c d main o.0 m)

  -- old names are none of those that are new
  pub own-apart : (id : NameId) → old id.0 ≡ false → (x : PDecl) → IsOwnObject old x → IsAdded (only id) x
  own-apart id n (DObject ws constant shape init s) o = go ws o.0
    where
      go : (vs : List Word) → AllByRecursion (λ (w : Word). old w.name.0 ≡ true) vs → AllByRecursion (IsNew (only id)) vs
      go [] h = tt
      go (v ∷ vs) h = (differ old v.name.0 id.0 true false h.0 n (λ p. true≢false p), go vs h.1)
  own-apart id n (DNumber w e s) o = absurd o
  own-apart id n (DEnumeration w ws s) o = absurd o
  own-apart id n (DArray w r x s) o = absurd o
  own-apart id n (DSubtype w x s) o = absurd o
  own-apart id n (DException ws s) o = absurd o
  own-apart id n (DIntIo w s) o = absurd o
  own-apart id n (DPragma e s) o = absurd o
  own-apart id n (DTask t s) o = absurd o
  own-apart id n (DTaskBody w objects its s) o = absurd o

  pub owns-apart : (id : NameId) → old id.0 ≡ false → (xs : List PDecl) → AllByRecursion (IsOwnObject old) xs → AllByRecursion (IsAdded (only id)) xs
  owns-apart id n [] o = tt
  owns-apart id n (x ∷ xs) o = (own-apart id n x o.0, owns-apart id n xs o.1)

  -- a scope with more names, among them the variables of a permit
  pub record IsUnit (c d : Scope) : Type 0 where
    pub more : IsMore q old c d
    pub permit : HasPermit q d

  module _ (new : ArePermitsNew q old) (zero_old : old 0 ≡ true) (names : List (List ℕ)) (s : Span) where
    -- the permit's variables, and other objects behind them
    permit-first : (xs : List PDecl) (c d : Scope) → c.in_main ≡ false → AllByRecursion (IsOwnObject old) xs → IsReady q old c → IsMore q old c d →
        IsUnit (after_objects c (decls_of xs)) (after_objects (after_own_object d (permit_declared q s)) (decls_of xs))
    permit-first xs c d main o ready m =
        let d' = after_own_object d (permit_declared q s) in
        let more : IsMore q old c d' = permit-more q old new zero_old c d m ready s in
        let permit : HasPermit q d' = permit-there q old new zero_old c d m ready s in
        let inner : d'.in_main ≡ false = more.main ∙ main in
        record {
          more = objects-both xs c d' main o more;
          permit = record {
            kind = number-objects (added_id q kind_text) xs d' inner (owns-apart (added_id q kind_text) new.kind xs o) permit.kind;
            argument = number-objects (added_id q argument_text) xs d' inner (owns-apart (added_id q argument_text) new.argument xs o) permit.argument;
            index = number-objects (added_id q index_text) xs d' inner (owns-apart (added_id q index_text) new.index xs o) permit.index;
          };
        }

    pub with-permit : (xs : List PDecl) (c d : Scope) → c.in_main ≡ false → AllByRecursion (IsOwnObject old) xs → ReadyAlong q old c xs → IsMore q old c d →
        IsUnit (after_objects c (decls_of xs)) (after_objects d (decls_of (behind_own names (permit_declared q s) xs)))
    with-permit [] c d main o ready m = permit-first [] c d main tt ready m
    with-permit (x ∷ xs) c d main o ready m =
        by_test (is_added_object names x) (with-permit xs (after_own_object c x) (after_own_object d x) (own-object-main old x c ∙ main) o.1 ready.1 (own-both x c d main o.0 m))
      where
        by_test : (b : Bool) → IsUnit (after_objects (after_own_object c x) (decls_of xs)) (after_objects (after_own_object d x) (decls_of (behind_own names (permit_declared q s) xs))) →
            IsUnit (after_objects c (decls_of (x ∷ xs))) (after_objects d (decls_of (if b then permit_declared q s ∷ x ∷ xs else x ∷ behind_own names (permit_declared q s) xs)))
        by_test true later = permit-first (x ∷ xs) c d main o ready.0 m
        by_test false later = later

  pub inside-unit : (c d : Scope) → IsUnit c d → IsUnit (inner_scope c) (inner_scope d)
  inside-unit c d h = record {
    more = inside-more q old c d h.more;
    permit = record {
      kind = number-step d (inner_scope d) (added_id q kind_text) refl (keeps-self d.types) h.permit.kind;
      argument = number-step d (inner_scope d) (added_id q argument_text) refl (keeps-self d.types) h.permit.argument;
      index = number-step d (inner_scope d) (added_id q index_text) refl (keeps-self d.types) h.permit.index;
    };
  }

  -- ---- variables of main

  no-initial : (s : Scope) (ws : List Word) (x : Declared) → with_constants s ws None x ≡ x.types
  no-initial s ws x = by_main s.in_main (constant_mark x.thing)
    where
      by_main : (b : Bool) (m : Option ℕ) → (if b then add_constants ws m (constant_value s x.types m None) x.types else x.types) ≡ x.types
      by_main false m = refl
      by_main true None = refl
      by_main true (Some m) = refl

  pub variable-both : (x : PDecl) (c d : Scope) → IsVariableOf old x → IsMore q old c d → IsMore q old (after_decl c x) (after_decl d x)
  variable-both (DObject ws false (OPlain x) None s) c d o m =
      object-both q old ws false (OPlain x) None c d o.1
      (no-initial c ws (declared_object c false (OPlain x)) ∙ ap (λ (y : Declared). y.types) (declared-same q old c d m false (OPlain x) o.1) ∙ sym (no-initial d ws (declared_object d false (OPlain x)))) m
  variable-both x c d o m = absurd o

  pub variables-both : (xs : List PDecl) (c d : Scope) → AllByRecursion (IsVariableOf old) xs → IsMore q old c d → IsMore q old (after_decls c (decls_of xs)) (after_decls d (decls_of xs))
  variables-both [] c d o m = m
  variables-both (x ∷ xs) c d o m = variables-both xs (after_decl c x) (after_decl d x) o.1 (variable-both x c d o.0 m)

  -- ---- tasks that are added

  pub task-added : (t : PTask) (s : Span) (c d : Scope) → IsNew old t.name → IsMore q old c d → IsMore q old c (after_decl d (DTask t s))
  task-added t s c d n m = name-added q old _ t.name c d n m

-- ---- tasks and bodies of the normal form

module _ (g : Setting) (old : ℕ → Bool) (entries_new : AreEntriesNew g.program old) (new : ArePermitsNew g.program old) (zero_old : old 0 ≡ true) where
  abbrev q : PProgram
  q = g.program

  pub tasks-both : (xs : List PDecl) (c d : Scope) → AllByRecursion (IsTaskOf q old) xs → IsMore q old c d → IsMore q old (after_decls c (decls_of xs)) (after_decls d (decls_of (map (replay_decl g) xs)))
  tasks-both [] c d o m = m
  tasks-both (DTask t s ∷ xs) c d o m =
      tasks-both xs (after_decl c (DTask t s)) (after_decl d (replay_decl g (DTask t s))) o.1 (task-both q old entries_new c d m t s o.0.0 o.0.1 o.0.2)
  tasks-both (DNumber w e s ∷ xs) c d o m = absurd o.0
  tasks-both (DObject ws k x i s ∷ xs) c d o m = absurd o.0
  tasks-both (DEnumeration w ws s ∷ xs) c d o m = absurd o.0
  tasks-both (DArray w r x s ∷ xs) c d o m = absurd o.0
  tasks-both (DSubtype w x s ∷ xs) c d o m = absurd o.0
  tasks-both (DException ws s ∷ xs) c d o m = absurd o.0
  tasks-both (DIntIo w s ∷ xs) c d o m = absurd o.0
  tasks-both (DPragma e s ∷ xs) c d o m = absurd o.0
  tasks-both (DTaskBody w objects its s ∷ xs) c d o m = absurd o.0

  -- the scope of a body's statements
  abbrev pub text_objects : Word → PDecls → PDecls
  text_objects w objects = decls_of (behind_own q.names (permit_declared q w.span) (decl_list objects))

  pub body-unit : (w : Word) (objects : PDecls) (c d : Scope) → ReadyAlong q old (in_body c w) (decl_list objects) → AllByRecursion (IsOwnObject old) (decl_list objects) → IsMore q old c d →
      IsUnit q old (inner_scope (after_objects (in_body c w) objects)) (inner_scope (after_objects (in_body d w) (text_objects w objects)))
  body-unit w objects c d ready o m =
      inside-unit q old (after_objects (in_body c w) objects) (after_objects (in_body d w) (text_objects w objects))
      (subst (λ ds. IsUnit q old (after_objects (in_body c w) ds) (after_objects (in_body d w) (text_objects w objects))) (list_again objects)
      (with-permit q old new zero_old q.names w.span (decl_list objects) (in_body c w) (in_body d w) refl o ready (in-body-more q old w c d m)))

  pub body-both : (w : Word) (objects : PDecls) (its : PBody) (s : Span) (c d : Scope) → ReadyAlong q old (in_body c w) (decl_list objects) → AllByRecursion (IsOwnObject old) (decl_list objects) → IsMore q old c d →
      IsMore q old (after_decl c (DTaskBody w objects its s)) (after_decl d (replay_decl g (DTaskBody w objects its s)))
  body-both w objects its s c d ready o m = record { types = (body-unit w objects c d ready o m).more.types; main = m.main; things = m.things }

  pub bodies-both : (xs : List PDecl) (c d : Scope) → BodiesReady q old c xs → IsMore q old c d → IsMore q old (after_decls c (decls_of xs)) (after_decls d (decls_of (map (replay_decl g) xs)))
  bodies-both [] c d h m = m
  bodies-both (DTaskBody w objects its s ∷ xs) c d h m =
      bodies-both xs (after_decl c (DTaskBody w objects its s)) (after_decl d (replay_decl g (DTaskBody w objects its s))) h.2 (body-both w objects its s c d h.0 h.1 m)
  bodies-both (DNumber w e s ∷ xs) c d h m = absurd h
  bodies-both (DObject ws k x i s ∷ xs) c d h m = absurd h
  bodies-both (DEnumeration w ws s ∷ xs) c d h m = absurd h
  bodies-both (DArray w r x s ∷ xs) c d h m = absurd h
  bodies-both (DSubtype w x s ∷ xs) c d h m = absurd h
  bodies-both (DException ws s ∷ xs) c d h m = absurd h
  bodies-both (DIntIo w s ∷ xs) c d h m = absurd h
  bodies-both (DPragma e s ∷ xs) c d h m = absurd h
  bodies-both (DTask t s ∷ xs) c d h m = absurd h

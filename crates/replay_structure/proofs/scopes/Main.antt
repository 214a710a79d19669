-- Declarations of main, one behind the other, in both texts.
use Rattle.std.proofs.Common.{◌≡◌, ℕ, Bool, true, false, if◌then◌else◌, List, [], ◌∷◌, ◌++◌, map, None, refl, sym, ap, ◌∙◌, true≢false}
use Rattle.std.specs.List.{AllByRecursion}
use Rattle.common_lemmas.proofs.Lists.{all_joined}
use Rattle.ada_tree.specs.declared.naming.NameId.{NameId}
use Rattle.ada_tree.specs.declared.naming.Span.{Span}
use Rattle.ada_tree.specs.declared.naming.Word.{Word}
use Rattle.ada_tree.specs.PlainDecl.{OPlain, PDecl, DNumber, DObject, DEnumeration, DArray, DSubtype, DException, DIntIo, DPragma, DTask, DTaskBody, decls_of}
use Rattle.ada_tree.specs.PlainProgram.{PProgram}
use Rattle.ada_static_rules.specs.Scope.{Scope, Thing, meaning, entry_named}
use Rattle.ada_static_rules.specs.Declaring.{entry_part, task_thing, after_decl, after_decls}
use Rattle.ada_static_rules.specs.Sites.{decl_sites, decls_sites}
use Rattle.task_model.specs.Setting.{Setting}
use Rattle.control_script.specs.declared.Op.{Op}
use Rattle.control_script.specs.declared.Op.TheVariants.{Go, Done, Join, Hold}
use Rattle.normal_model.specs.Names.{task_name_at}
use Rattle.syn_event.specs.declared.numbering.TaskInfo.{TaskInfo}
use Rattle.task_laws.specs.legal.rewritten_types.Rewriting.{IsNew}
use Rattle.task_laws.specs.legal.alike_scopes.Alike.{no_values, SameNames}
use Rattle.task_laws.specs.legal.alike_scopes.Laws.{IsMetBut}
use Rattle.task_laws.proofs.legal.alike_scopes.Naming as naming
use Rattle.normal_laws.proofs.structure.typed.Scopes.{differ}
use Rattle.normal_laws.proofs.structure.typed.Variables.{AllMetBut}
use Rattle.replay_model.specs.Names.{kind_text, argument_text, index_text, counter_text, added_id}
use Rattle.replay_model.specs.tables.Columns.{table_name}
use Rattle.replay_model.specs.Controlling.{control_ids}
use Rattle.replay_model.specs.ReplayTree.{is_added_object, permit_declared, behind_own, replay_decl}
use Rattle.replay_structure.specs.typed.ScopeOf.{IsControl, IsIdle}
use Rattle.replay_structure.specs.typed.Controller.{IsOutside, IsJoinable, IsAwaited}
use Rattle.replay_structure.proofs.typed.Declared.{permit-met, doubled-met}
use Rattle.replay_structure.specs.scopes.More.{is_single, IsGrown, stays, doubled, IsMore, IsReady, HasPermit}
use Rattle.replay_structure.specs.scopes.Form.{AreNamesApart, IsVariableOf, IsTaskOf, IsEveryTask, AllAlong, BodyForms, MainAlong, IsSingleTask}
use Rattle.replay_structure.proofs.scopes.More.{more-alike}
use Rattle.replay_structure.proofs.scopes.Doubles.{task-both}
use Rattle.replay_structure.proofs.scopes.Permit.{integer-there, permit-more, permit-there, only, IsApart, number-decls}
use Rattle.replay_structure.proofs.scopes.Units.{BodiesReady, IsUnit, variable-both, variables-both, body-both}
use Rattle.replay_structure.proofs.scopes.Objects.{object-more}
use Rattle.replay_structure.proofs.scopes.Bodies.{control-moved, idle-moved, body-sites-met}
use Rattle.task_laws.proofs.legal.alike_scopes.Mains.{task-none}
use Rattle.ada_static_rules.proofs.found_twice.Declared.{decl_own}

-- ---- lists of declarations

pub along-of : (xs : List PDecl) (d : Scope) → AllAlong d xs → AllMetBut (decls_sites d (decls_of xs))
along-of [] d h = tt
along-of (x ∷ xs) d h = all_joined IsMetBut (decl_sites d x) (decls_sites (after_decl d x) (decls_of xs)) h.0 (along-of xs (after_decl d x) h.1)

pub along-join : (xs ys : List PDecl) (d : Scope) → AllAlong d xs → AllAlong (after_decls d (decls_of xs)) ys → AllAlong d (xs ++ ys)
along-join [] ys d h i = i
along-join (x ∷ xs) ys d h i = (h.0, along-join xs ys (after_decl d x) h.1 i)

-- ---- what no declaration of main changes

pub decls-own : (xs : List PDecl) (s : Scope) → (after_decls s (decls_of xs)).own ≡ s.own
decls-own [] s = refl
decls-own (x ∷ xs) s = decls-own xs (after_decl s x) ∙ decl_own x s

module _ (g : Setting) (old inner : ℕ → Bool) (names : AreNamesApart g old inner) where
  abbrev q : PProgram
  q = g.program

  abbrev pub IsSameOwn : Scope → Scope → Type 0
  IsSameOwn c d = (id : NameId) → old id.0 ≡ true → entry_named c.own id ≡ entry_named d.own id

  own-kept : (x : PDecl) (c d : Scope) → IsSameOwn c d → IsSameOwn (after_decl c x) (after_decl d x)
  own-kept x c d own id o = ap (λ l. entry_named l id) (decl_own x c) ∙ own id o ∙ sym (ap (λ l. entry_named l id) (decl_own x d))

  own-right : (x : PDecl) (c d : Scope) → IsSameOwn c d → IsSameOwn c (after_decl d x)
  own-right x c d own id o = own id o ∙ sym (ap (λ l. entry_named l id) (decl_own x d))

  -- ---- variables

  variable-site : (x : PDecl) (c d : Scope) → IsMore q old c d → SameNames old c c → IsSameOwn c d → IsVariableOf old x → AllMetBut (decl_sites c x) → AllMetBut (decl_sites d x)
  variable-site (DObject ws false (OPlain x) None s) c d more self own o m = object-more q old c d more self own ws false (OPlain x) None o.1 tt m
  variable-site x c d more self own o m = absurd o

  variables-sites : (xs : List PDecl) (c d : Scope) → AllByRecursion (IsVariableOf old) xs → MainAlong q old c xs → IsSameOwn c d → IsMore q old c d → AllAlong c xs → AllAlong d xs
  variables-sites [] c d o h own more m = tt
  variables-sites (x ∷ xs) c d o h own more m =
      (variable-site x c d more h.0 own o.0 m.0, variables-sites xs (after_decl c x) (after_decl d x) o.1 h.2 (own-kept x c d own) (variable-both q old x c d o.0 more) m.1)

  variable-apart : (id : NameId) → old id.0 ≡ false → (x : PDecl) → IsVariableOf old x → IsApart id x
  variable-apart id n (DObject ws false (OPlain x) None s) o = go ws o.0
    where
      go : (vs : List Word) → AllByRecursion (λ (w : Word). old w.name.0 ≡ true) vs → AllByRecursion (IsNew (only id)) vs
      go [] h = tt
      go (v ∷ vs) h = (differ old v.name.0 id.0 true false h.0 n (λ p. true≢false p), go vs h.1)
  variable-apart id n x o = absurd o

  pub variables-apart : (id : NameId) → old id.0 ≡ false → (xs : List PDecl) → AllByRecursion (IsVariableOf old) xs → AllByRecursion (IsApart id) xs
  variables-apart id n [] o = tt
  variables-apart id n (x ∷ xs) o = (variable-apart id n x o.0, variables-apart id n xs o.1)

  module _ (s : Span) where
    first-unit : (xs : List PDecl) (c d : Scope) → AllByRecursion (IsVariableOf old) xs → IsReady q old c → IsMore q old c d → IsUnit q old (after_decls c (decls_of xs)) (after_decls d (decls_of (permit_declared q s ∷ xs)))
    first-unit xs c d o ready more =
        let d' = after_decl d (permit_declared q s) in
        let its : IsMore q old c d' = permit-more q old names.permits names.zero c d more ready s in
        let permit : HasPermit q d' = permit-there q old names.permits names.zero c d more ready s in
        record {
          more = variables-both q old xs c d' o its;
          permit = record {
            kind = number-decls (added_id q kind_text) xs d' (variables-apart (added_id q kind_text) names.permits.kind xs o) permit.kind;
            argument = number-decls (added_id q argument_text) xs d' (variables-apart (added_id q argument_text) names.permits.argument xs o) permit.argument;
            index = number-decls (added_id q index_text) xs d' (variables-apart (added_id q index_text) names.permits.index xs o) permit.index;
          };
        }

    first-sites : (xs : List PDecl) (c d : Scope) → AllByRecursion (IsVariableOf old) xs → MainAlong q old c xs → IsReady q old c → IsSameOwn c d → IsMore q old c d → AllAlong c xs → AllAlong d (permit_declared q s ∷ xs)
    first-sites xs c d o h ready own more m = (
      permit-met q d (integer-there q old c d more names.zero ready.integer) s,
      variables-sites xs c (after_decl d (permit_declared q s)) o h (own-right (permit_declared q s) c d own) (permit-more q old names.permits names.zero c d more ready s) m,
    )

    -- the variables of main with the permit's among them
    pub main-unit : (xs : List PDecl) (c d : Scope) → AllByRecursion (IsVariableOf old) xs → MainAlong q old c xs → IsMore q old c d → IsUnit q old (after_decls c (decls_of xs)) (after_decls d (decls_of (behind_own q.names (permit_declared q s) xs)))
    main-unit [] c d o h more = first-unit [] c d tt h.1 more
    main-unit (x ∷ xs) c d o h more = by_test (is_added_object q.names x) (main-unit xs (after_decl c x) (after_decl d x) o.1 h.2 (variable-both q old x c d o.0 more))
      where
        by_test : (b : Bool) → IsUnit q old (after_decls (after_decl c x) (decls_of xs)) (after_decls (after_decl d x) (decls_of (behind_own q.names (permit_declared q s) xs))) →
            IsUnit q old (after_decls c (decls_of (x ∷ xs))) (after_decls d (decls_of (if b then permit_declared q s ∷ x ∷ xs else x ∷ behind_own q.names (permit_declared q s) xs)))
        by_test true later = first-unit (x ∷ xs) c d o h.1 more
        by_test false later = later

    pub main-sites : (xs : List PDecl) (c d : Scope) → AllByRecursion (IsVariableOf old) xs → MainAlong q old c xs → IsSameOwn c d → IsMore q old c d → AllAlong c xs → AllAlong d (behind_own q.names (permit_declared q s) xs)
    main-sites [] c d o h own more m = first-sites [] c d tt h h.1 own more tt
    main-sites (x ∷ xs) c d o h own more m =
        by_test (is_added_object q.names x)
        (variable-site x c d more h.0 own o.0 m.0, main-sites xs (after_decl c x) (after_decl d x) o.1 h.2 (own-kept x c d own) (variable-both q old x c d o.0 more) m.1)
      where
        by_test : (b : Bool) → AllAlong d (x ∷ behind_own q.names (permit_declared q s) xs) → AllAlong d (if b then permit_declared q s ∷ x ∷ xs else x ∷ behind_own q.names (permit_declared q s) xs)
        by_test true later = first-sites (x ∷ xs) c d o h h.1 own more m
        by_test false later = later

  -- what old names mean behind the variables
  pub self-behind : (xs : List PDecl) (c : Scope) → MainAlong q old c xs → SameNames old (after_decls c (decls_of xs)) (after_decls c (decls_of xs))
  self-behind [] c h = h.0
  self-behind (x ∷ xs) c h = self-behind xs (after_decl c x) h.2

  -- ---- tasks

  pub tasks-sites : (xs : List PDecl) (c d : Scope) → AllByRecursion (IsTaskOf q old) xs → AllByRecursion (IsEveryTask old) xs → SameNames old c c → IsSameOwn c d → IsMore q old c d → AllAlong c xs → AllAlong d (map (replay_decl g) xs)
  tasks-sites [] c d o e self own more m = tt
  tasks-sites (DTask t s ∷ xs) c d o e self own more m =
      let thing : Thing = task_thing t.of_kind (map (entry_part c) t.entries) in (
        doubled-met q old c d (more-alike q old c d more self own) t s e.0 m.0,
        tasks-sites xs (after_decl c (DTask t s)) (after_decl d (replay_decl g (DTask t s))) o.1 e.1
            (naming.name-both old c c thing thing t.name self (no_values (task-none t.of_kind (map (entry_part c) t.entries)) (task-none t.of_kind (map (entry_part c) t.entries)))) own
            (task-both q old names.entries c d more t s o.0.0 o.0.1 o.0.2) m.1,
      )
  tasks-sites (DNumber w y s ∷ xs) c d o e self own more m = absurd o.0
  tasks-sites (DObject ws k x i s ∷ xs) c d o e self own more m = absurd o.0
  tasks-sites (DEnumeration w ws s ∷ xs) c d o e self own more m = absurd o.0
  tasks-sites (DArray w r x s ∷ xs) c d o e self own more m = absurd o.0
  tasks-sites (DSubtype w x s ∷ xs) c d o e self own more m = absurd o.0
  tasks-sites (DException ws s ∷ xs) c d o e self own more m = absurd o.0
  tasks-sites (DIntIo w s ∷ xs) c d o e self own more m = absurd o.0
  tasks-sites (DPragma y s ∷ xs) c d o e self own more m = absurd o.0
  tasks-sites (DTaskBody w objects its s ∷ xs) c d o e self own more m = absurd o.0

  pub tasks-apart : (id : NameId) → old id.0 ≡ false → (xs : List PDecl) → AllByRecursion (IsTaskOf q old) xs → AllByRecursion (IsEveryTask old) xs → AllByRecursion (IsApart id) (map (replay_decl g) xs)
  tasks-apart id n [] o e = tt
  tasks-apart id n (DTask t s ∷ xs) o e = (differ old t.name.name.0 id.0 true false e.0.0 n (λ p. true≢false p), tasks-apart id n xs o.1 e.1)
  tasks-apart id n (DNumber w y s ∷ xs) o e = absurd o.0
  tasks-apart id n (DObject ws k x i s ∷ xs) o e = absurd o.0
  tasks-apart id n (DEnumeration w ws s ∷ xs) o e = absurd o.0
  tasks-apart id n (DArray w r x s ∷ xs) o e = absurd o.0
  tasks-apart id n (DSubtype w x s ∷ xs) o e = absurd o.0
  tasks-apart id n (DException ws s ∷ xs) o e = absurd o.0
  tasks-apart id n (DIntIo w s ∷ xs) o e = absurd o.0
  tasks-apart id n (DPragma y s ∷ xs) o e = absurd o.0
  tasks-apart id n (DTaskBody w objects its s ∷ xs) o e = absurd o.0

  -- ---- bodies

  pub bodies-ready : (xs : List PDecl) (c : Scope) → BodyForms g old inner c xs → BodiesReady q old c xs
  bodies-ready [] c h = tt
  bodies-ready (DTaskBody w objects its s ∷ xs) c h = (h.0.ready, h.0.owns, bodies-ready xs (after_decl c (DTaskBody w objects its s)) h.1)
  bodies-ready (DNumber w y s ∷ xs) c h = absurd h
  bodies-ready (DObject ws k x i s ∷ xs) c h = absurd h
  bodies-ready (DEnumeration w ws s ∷ xs) c h = absurd h
  bodies-ready (DArray w r x s ∷ xs) c h = absurd h
  bodies-ready (DSubtype w x s ∷ xs) c h = absurd h
  bodies-ready (DException ws s ∷ xs) c h = absurd h
  bodies-ready (DIntIo w s ∷ xs) c h = absurd h
  bodies-ready (DPragma y s ∷ xs) c h = absurd h
  bodies-ready (DTask t s ∷ xs) c h = absurd h

  pub bodies-apart : (id : NameId) (xs : List PDecl) (c : Scope) → BodyForms g old inner c xs → AllByRecursion (IsApart id) (map (replay_decl g) xs)
  bodies-apart id [] c h = tt
  bodies-apart id (DTaskBody w objects its s ∷ xs) c h = (tt, bodies-apart id xs (after_decl c (DTaskBody w objects its s)) h.1)
  bodies-apart id (DNumber w y s ∷ xs) c h = absurd h
  bodies-apart id (DObject ws k x i s ∷ xs) c h = absurd h
  bodies-apart id (DEnumeration w ws s ∷ xs) c h = absurd h
  bodies-apart id (DArray w r x s ∷ xs) c h = absurd h
  bodies-apart id (DSubtype w x s ∷ xs) c h = absurd h
  bodies-apart id (DException ws s ∷ xs) c h = absurd h
  bodies-apart id (DIntIo w s ∷ xs) c h = absurd h
  bodies-apart id (DPragma y s ∷ xs) c h = absurd h
  bodies-apart id (DTask t s ∷ xs) c h = absurd h

  pub bodies-sites : (xs : List PDecl) (c d : Scope) → BodyForms g old inner c xs → IsMore q old c d → IsControl q d → IsIdle q d → AllAlong d (map (replay_decl g) xs)
  bodies-sites [] c d h more control idle = tt
  bodies-sites (DTaskBody w objects its s ∷ xs) c d h more control idle =
      let d' = after_decl d (replay_decl g (DTaskBody w objects its s)) in (
        body-sites-met g old inner names c d w objects its s more h.0 control idle,
        bodies-sites xs (after_decl c (DTaskBody w objects its s)) d' h.1 (body-both g old names.entries names.permits names.zero w objects its s c d h.0.ready h.0.owns more)
            (control-moved q d d' refl control) (idle-moved q d d' refl idle),
      )
  bodies-sites (DNumber w y s ∷ xs) c d h more control idle = absurd h
  bodies-sites (DObject ws k x i s ∷ xs) c d h more control idle = absurd h
  bodies-sites (DEnumeration w ws s ∷ xs) c d h more control idle = absurd h
  bodies-sites (DArray w r x s ∷ xs) c d h more control idle = absurd h
  bodies-sites (DSubtype w x s ∷ xs) c d h more control idle = absurd h
  bodies-sites (DException ws s ∷ xs) c d h more control idle = absurd h
  bodies-sites (DIntIo w s ∷ xs) c d h more control idle = absurd h
  bodies-sites (DPragma y s ∷ xs) c d h more control idle = absurd h
  bodies-sites (DTask t s ∷ xs) c d h more control idle = absurd h

  -- ---- what the controller's body sees

  -- an old name is none of its own
  pub outside-old : (id : NameId) → old id.0 ≡ true → IsOutside q id
  outside-old id o = record {
    tables = λ column. differ old (table_name (control_ids q) column).0 id.0 false true (names.tables.tables column) o (λ p. true≢false (sym p));
    counter = differ old (added_id q counter_text).0 id.0 false true names.tables.counter o (λ p. true≢false (sym p));
  }

  -- a task that means a single one can be waited for
  pub awaited : (c d : Scope) → IsMore q old c d → (info : TaskInfo) → IsSingleTask old c info → IsAwaited q d info
  awaited c d more info h = record { joinable = by_grown (more.things info.name h.0); outside = outside-old info.name h.0 }
    where
      by_grown : IsGrown q old (meaning c info.name) (meaning d info.name) → IsJoinable q d info.name
      by_grown (stays e k) = absurd (true≢false (sym (ap is_single h.1.1) ∙ k))
      by_grown (doubled es e i) = record { entries = i.doubles.more; means = i.doubles.means; join = i.join }

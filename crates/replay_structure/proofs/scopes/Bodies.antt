-- The bodies of tasks in a replay text meet the static rules 1 and 3 to 12.
use Rattle.std.proofs.Common.{◌≡◌, ℕ, Bool, true, false, if◌then◌else◌, List, [], ◌∷◌, refl, sym, ap, subst, ◌∙◌, true≢false, arith}
use Rattle.std.specs.List.{AllByRecursion}
use Rattle.common_lemmas.proofs.Lists.{all_back, all_front, all_joined}
use Rattle.ada_tree.specs.declared.naming.NameId.{NameId}
use Rattle.ada_tree.specs.declared.naming.Span.{Span}
use Rattle.ada_tree.specs.declared.naming.Word.{Word}
use Rattle.ada_tree.specs.PlainStmt.{PBody}
use Rattle.ada_tree.specs.PlainDecl.{PDecl, DNumber, DObject, DEnumeration, DArray, DSubtype, DException, DIntIo, DPragma, DTask, DTaskBody, PDecls, decls_of}
use Rattle.ada_tree.specs.PlainProgram.{PProgram}
use Rattle.ada_static_rules.specs.Scope.{Scope, meaning, entry_named}
use Rattle.ada_static_rules.specs.Declaring.{own_entries, inner_scope, in_body, after_own_object, after_objects}
use Rattle.ada_static_rules.specs.Demand.{gives_body}
use Rattle.ada_static_rules.specs.Sites.{site, own_object_sites, own_sites, body_sites, decl_sites}
use Rattle.syn_event.specs.DeclaredTasks.{decl_list}
use Rattle.task_model.specs.Setting.{Setting}
use Rattle.normal_model.specs.NormalTree.{unit_for}
use Rattle.task_laws.specs.legal.rewritten_types.Rewriting.{IsAdded}
use Rattle.task_laws.specs.legal.alike_scopes.Alike.{SameNames}
use Rattle.task_laws.specs.legal.alike_scopes.Laws.{IsMetBut}
use Rattle.task_laws.proofs.legal.alike_scopes.Inner.{own-object-main}
use Rattle.normal_laws.proofs.structure.typed.Variables.{AllMetBut}
use Rattle.replay_model.specs.Names.{control_text, idle_text, added_id}
use Rattle.replay_model.specs.ReplayTree.{is_added_object, permit_declared, behind_own, replay_decl}
use Rattle.replay_model.specs.ReplayStmts.{replay_body}
use Rattle.replay_structure.specs.typed.ScopeOf.{IsControl, IsIdle, IsScopeOf}
use Rattle.replay_structure.proofs.typed.Declared.{permit-met}
use Rattle.replay_structure.proofs.typed.Typed.{body-met}
use Rattle.replay_structure.specs.scopes.More.{is_single, IsGrown, stays, doubled, IsMore, ArePermitsNew, IsReady}
use Rattle.replay_structure.specs.scopes.Form.{IsOtherThanPermit, AreNamesApart, HasOldInit, IsOwnObject, ReadyAlong, SelfAlong, IsBodyForm}
use Rattle.replay_structure.proofs.scopes.More.{in-body-more}
use Rattle.replay_structure.proofs.scopes.Permit.{integer-there, permit-more, only, objects-means}
use Rattle.replay_structure.proofs.scopes.Units.{own-both, owns-apart, text_objects}
use Rattle.replay_structure.proofs.scopes.Scopes.{HasOwn, body-own, body-scope}
use Rattle.replay_structure.proofs.scopes.Objects.{object-more}
use Rattle.ada_static_rules.proofs.found_twice.Declared.{object_own}
use Rattle.syn_event.proofs.DeclLists.{list_again}
use Rattle.normal_laws.proofs.structure.typed.Places.{gives-met}

-- ---- objects

module _ (q : PProgram) (old : ℕ → Bool) (new : ArePermitsNew q old) (zero_old : old 0 ≡ true) where
  -- the own entries are the same
  abbrev pub IsSameOwn : Scope → Scope → Type 0
  IsSameOwn c d = (id : NameId) → old id.0 ≡ true → entry_named c.own id ≡ entry_named d.own id

  own-kept : (x : PDecl) (c d : Scope) → IsSameOwn c d → IsSameOwn (after_own_object c x) (after_own_object d x)
  own-kept x c d own id o = ap (λ l. entry_named l id) (object_own x c) ∙ own id o ∙ sym (ap (λ l. entry_named l id) (object_own x d))

  own-right : (x : PDecl) (c d : Scope) → IsSameOwn c d → IsSameOwn c (after_own_object d x)
  own-right x c d own id o = own id o ∙ sym (ap (λ l. entry_named l id) (object_own x d))

  object-site : (x : PDecl) (c d : Scope) → IsMore q old c d → SameNames old c c → IsSameOwn c d → IsOwnObject old x → HasOldInit old x → AllMetBut (own_object_sites c x) → AllMetBut (own_object_sites d x)
  object-site (DObject ws constant shape init s) c d more self own o i m = object-more q old c d more self own ws constant shape init o.1 i m
  object-site (DNumber w e s) c d more self own o i m = absurd o
  object-site (DEnumeration w ws s) c d more self own o i m = absurd o
  object-site (DArray w r x s) c d more self own o i m = absurd o
  object-site (DSubtype w x s) c d more self own o i m = absurd o
  object-site (DException ws s) c d more self own o i m = absurd o
  object-site (DIntIo w s) c d more self own o i m = absurd o
  object-site (DPragma e s) c d more self own o i m = absurd o
  object-site (DTask t s) c d more self own o i m = absurd o
  object-site (DTaskBody w objects its s) c d more self own o i m = absurd o

  objects-sites : (xs : List PDecl) (c d : Scope) → c.in_main ≡ false → AllByRecursion (IsOwnObject old) xs → AllByRecursion (HasOldInit old) xs → SelfAlong old c xs → IsSameOwn c d → IsMore q old c d →
      AllMetBut (own_sites c (decls_of xs)) → AllMetBut (own_sites d (decls_of xs))
  objects-sites [] c d main o i self own more m = tt
  objects-sites (x ∷ xs) c d main o i self own more m =
      all_joined IsMetBut (own_object_sites d x) _ (object-site x c d more self.0 own o.0 i.0 (all_front IsMetBut (own_object_sites c x) (own_sites (after_own_object c x) (decls_of xs)) m))
      (objects-sites xs (after_own_object c x) (after_own_object d x) (own-object-main old x c ∙ main) o.1 i.1 self.1 (own-kept x c d own) (own-both q old x c d main o.0 more)
      (all_back IsMetBut (own_object_sites c x) (own_sites (after_own_object c x) (decls_of xs)) m))

  permit-first : (s : Span) (xs : List PDecl) (c d : Scope) → c.in_main ≡ false → AllByRecursion (IsOwnObject old) xs → AllByRecursion (HasOldInit old) xs → SelfAlong old c xs → IsSameOwn c d → IsReady q old c → IsMore q old c d →
      AllMetBut (own_sites c (decls_of xs)) → AllMetBut (own_sites d (decls_of (permit_declared q s ∷ xs)))
  permit-first s xs c d main o i self own ready more m =
      all_joined IsMetBut (own_object_sites d (permit_declared q s)) (own_sites (after_own_object d (permit_declared q s)) (decls_of xs)) (permit-met q d (integer-there q old c d more zero_old ready.integer) s)
      (objects-sites xs c (after_own_object d (permit_declared q s)) main o i self (own-right (permit_declared q s) c d own) (permit-more q old new zero_old c d more ready s) m)

  pub permit-sites : (names : List (List ℕ)) (s : Span) (xs : List PDecl) (c d : Scope) → c.in_main ≡ false → AllByRecursion (IsOwnObject old) xs → AllByRecursion (HasOldInit old) xs → SelfAlong old c xs → IsSameOwn c d →
      ReadyAlong q old c xs → IsMore q old c d → AllMetBut (own_sites c (decls_of xs)) → AllMetBut (own_sites d (decls_of (behind_own names (permit_declared q s) xs)))
  permit-sites names s [] c d main o i self own ready more m = permit-first s [] c d main tt tt tt own ready more tt
  permit-sites names s (x ∷ xs) c d main o i self own ready more m =
      by_test (is_added_object names x)
      (all_joined IsMetBut (own_object_sites d x) (own_sites (after_own_object d x) (decls_of (behind_own names (permit_declared q s) xs)))
      (object-site x c d more self.0 own o.0 i.0 (all_front IsMetBut (own_object_sites c x) (own_sites (after_own_object c x) (decls_of xs)) m))
      (permit-sites names s xs (after_own_object c x) (after_own_object d x) (own-object-main old x c ∙ main) o.1 i.1 self.1 (own-kept x c d own) ready.1 (own-both q old x c d main o.0 more)
      (all_back IsMetBut (own_object_sites c x) (own_sites (after_own_object c x) (decls_of xs)) m)))
    where
      by_test : (b : Bool) → AllMetBut (own_sites d (decls_of (x ∷ behind_own names (permit_declared q s) xs))) → AllMetBut (own_sites d (decls_of (if b then permit_declared q s ∷ x ∷ xs else x ∷ behind_own names (permit_declared q s) xs)))
      by_test true later = permit-first s (x ∷ xs) c d main o i self own ready.0 more m
      by_test false later = later

  -- a new name that is none of the permit's is declared by none of these
  behind-apart : (id : NameId) → IsOtherThanPermit q id → (names : List (List ℕ)) (s : Span) (xs : List PDecl) → AllByRecursion (IsAdded (only id)) xs → AllByRecursion (IsAdded (only id)) (behind_own names (permit_declared q s) xs)
  behind-apart id other names s [] h = ((other.kind, (other.argument, (other.index, tt))), tt)
  behind-apart id other names s (x ∷ xs) h = by_test (is_added_object names x) (behind-apart id other names s xs h.1)
    where
      by_test : (b : Bool) → AllByRecursion (IsAdded (only id)) (behind_own names (permit_declared q s) xs) → AllByRecursion (IsAdded (only id)) (if b then permit_declared q s ∷ x ∷ xs else x ∷ behind_own names (permit_declared q s) xs)
      by_test true later = ((other.kind, (other.argument, (other.index, tt))), h)
      by_test false later = (h.0, later)

  pub means-inside : (id : NameId) → old id.0 ≡ false → IsOtherThanPermit q id → (names : List (List ℕ)) (s : Span) (xs : List PDecl) (d : Scope) → AllByRecursion (IsOwnObject old) xs →
      meaning (after_objects d (decls_of (behind_own names (permit_declared q s) xs))) id ≡ meaning d id
  means-inside id n other names s xs d o = objects-means id (behind_own names (permit_declared q s) xs) d (behind-apart id other names s xs (owns-apart q old id n xs o))

-- the controller and the idle task mean the same where their names do
pub control-moved : (q : PProgram) (d d' : Scope) → meaning d' (added_id q control_text) ≡ meaning d (added_id q control_text) → IsControl q d → IsControl q d'
control-moved q d d' e h = record { entries = h.entries; means = e ∙ h.means; range = h.range; numbers = h.numbers; go = h.go; done = h.done }

pub idle-moved : (q : PProgram) (d d' : Scope) → meaning d' (added_id q idle_text) ≡ meaning d (added_id q idle_text) → IsIdle q d → IsIdle q d'
idle-moved q d d' e h = record { entries = h.entries; means = e ∙ h.means; stop = h.stop }

module _ (g : Setting) (old inner : ℕ → Bool) (names : AreNamesApart g old inner) where
  abbrev q : PProgram
  q = g.program

  -- The body of a task in the replay text.
  pub body-sites-met : (c d : Scope) (w : Word) (objects : PDecls) (its : PBody) (s : Span) → IsMore q old c d → IsBodyForm g old inner c w objects its → IsControl q d → IsIdle q d → AllMetBut (decl_sites d (replay_decl g (DTaskBody w objects its s)))
  body-sites-met c d w objects its s more form control idle = (
    given (more.things w.name form.named),
    all_joined IsMetBut (own_sites (in_body d w) more_objects) (body_sites within (replay_body (unit_for g w.name) w.span its)) objects-met
        (body-met (unit_for g w.name) old inner names.outer (tt, inner_scope (after_objects (in_body c w) objects)) within 1 w.span its scope (omega arith) form.asked),
  )
    where
      more_objects : PDecls
      more_objects = text_objects g old names.entries names.permits names.zero w objects

      within : Scope
      within = inner_scope (after_objects (in_body d w) more_objects)

      given : IsGrown q old (meaning c w.name) (meaning d w.name) → IsMetBut (site d (gives_body w))
      given (stays e n) = absurd (true≢false (sym (ap is_single form.means) ∙ n))
      given (doubled es e t) = gives-met d w t.doubles.more t.doubles.means

      own : HasOwn q old (inner_scope (after_objects (in_body c w) objects)) within
      own = body-own q old c d w objects more_objects form.entries form.named form.means more

      begins : IsSameOwn q old names.permits names.zero (in_body c w) (in_body d w)
      begins = λ id o. by_grown id o (more.things w.name form.named)
        where
          by_grown : (id : NameId) → old id.0 ≡ true → IsGrown q old (meaning c w.name) (meaning d w.name) → entry_named (in_body c w).own id ≡ entry_named (in_body d w).own id
          by_grown id o (stays e n) = absurd (true≢false (sym (ap is_single form.means) ∙ n))
          by_grown id o (doubled es e t) =
              ap (λ x. entry_named (own_entries x) id) e ∙ t.doubles.same id o ∙ sym (ap (λ x. entry_named (own_entries x) id) t.doubles.means)

      objects-met : AllMetBut (own_sites (in_body d w) more_objects)
      objects-met =
          permit-sites q old names.permits names.zero q.names w.span (decl_list objects) (in_body c w) (in_body d w) refl form.owns form.inits form.selfs begins form.ready
          (in-body-more q old w c d more) (subst (λ ds. AllMetBut (own_sites (in_body c w) ds)) (sym (list_again objects)) form.sites)

      control-in : IsControl q within
      control-in = control-moved q d within (means-inside q old names.permits names.zero (added_id q control_text) names.control names.control_other q.names w.span (decl_list objects) (in_body d w) form.owns) control

      idle-in : IsIdle q within
      idle-in = idle-moved q d within (means-inside q old names.permits names.zero (added_id q idle_text) names.idle names.idle_other q.names w.span (decl_list objects) (in_body d w) form.owns) idle

      scope : IsScopeOf (unit_for g w.name) old inner (inner_scope (after_objects (in_body c w) objects)) within
      scope = body-scope (unit_for g w.name) old inner names.entries names.permits names.zero names.falses names.kinds c d w objects form.entries more form.named form.means form.ready form.owns form.form control-in idle-in

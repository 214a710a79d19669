-- What stands around the statements of a body in a replay text is as around those of the body in the normal form.
use Rattle.std.proofs.Common.{◌≡◌, ℕ, ◌==◌, ◌||◌, Bool, true, false, if◌then◌else◌, List, [], ◌∷◌, Option, Some, None, refl, sym, ap, subst, ◌∙◌, true≢false}
use Rattle.std.specs.List.{AllByRecursion}
use Rattle.std.proofs.lemmas.Bool.{or_right}
use Rattle.common_lemmas.proofs.Truth.{clash}
use Rattle.common_lemmas.proofs.Numbers.{equal_self}
use Rattle.ada_tree.specs.declared.naming.NameId.{NameId}
use Rattle.ada_tree.specs.declared.naming.Span.{Span}
use Rattle.ada_tree.specs.declared.naming.Word.{Word}
use Rattle.ada_tree.specs.Attributes.{false_name}
use Rattle.ada_tree.specs.PlainDecl.{PDecl, DNumber, DObject, DEnumeration, DArray, DSubtype, DException, DIntIo, DPragma, DTask, DTaskBody, PDecls, no_decl, decl_then, decls_of}
use Rattle.ada_tree.specs.PlainProgram.{PProgram}
use Rattle.syn_event.specs.declared.meanings.Meant.TheVariants.{Inner}
use Rattle.syn_event.specs.CheckScope.{EnclosingUnit, CheckScope, meaning, uses, addresses}
use Rattle.syn_event.specs.CheckSites.{own_unit, in_body, after_own_object, after_own}
use Rattle.syn_event.specs.RuleAcceptPlace.{is_among, is_own_entry}
use Rattle.syn_event.specs.RuleMainEntry.{main_entry}
use Rattle.syn_event.specs.RuleSharedVariable.{shared_name, in_body_of, shared_variable}
use Rattle.syn_event.specs.DeclaredTasks.{decl_list}
use Rattle.normal_laws.proofs.structure.checked.MainScopes.{IsFrameOf, meant-frame}
use Rattle.replay_model.specs.Names.{kind_text, argument_text, index_text, control_text, idle_text, never_text, added_id, added_word}
use Rattle.replay_model.specs.ReplayTree.{is_added_object, behind_own, permit_declared}
use Rattle.replay_structure.specs.checked.Around.{kept_name, IsAsking}
use Rattle.replay_structure.proofs.checked.Names.{added-other}
use Rattle.replay_structure.proofs.checked.Scopes.{uses-under, callees-under, inner-use}
use Rattle.replay_structure.proofs.checked.Alike.{AreAlike, IsNewWord, meant-alike, new-alike}
use Rattle.replay_structure.proofs.checked.Units.{entries_named}

-- ---- one of three numbers

pub first-there : (a b c : ℕ) → ((a == a) || ((b == a) || ((c == a) || false))) ≡ true
first-there a b c = ap (λ t. t || ((b == a) || ((c == a) || false))) (equal_self a)

pub second-there : (a b c : ℕ) → ((a == b) || ((b == b) || ((c == b) || false))) ≡ true
second-there a b c = or_right (a == b) ((b == b) || ((c == b) || false)) (ap (λ t. t || ((c == b) || false)) (equal_self b))

pub third-there : (a b c : ℕ) → ((a == c) || ((b == c) || ((c == c) || false))) ≡ true
third-there a b c = or_right (a == c) ((b == c) || ((c == c) || false)) (or_right (b == c) ((c == c) || false) (ap (λ t. t || false) (equal_self c)))

-- ---- the objects of a body as a list

abbrev pub after_objects : CheckScope → List PDecl → CheckScope
after_objects c [] = c
after_objects c (x ∷ xs) = after_objects (after_own_object c x) xs

pub objects-listed : (ds : PDecls) (c : CheckScope) → after_own c ds ≡ after_objects c (decl_list ds)
objects-listed no_decl c = refl
objects-listed (decl_then x ds) c = objects-listed ds (after_own_object c x)

pub objects-of : (xs : List PDecl) (c : CheckScope) → after_own c (decls_of xs) ≡ after_objects c xs
objects-of [] c = refl
objects-of (x ∷ xs) c = objects-of xs (after_own_object c x)

pub frame-object : (x : PDecl) (c : CheckScope) → IsFrameOf c (after_own_object c x)
frame-object (DObject ws constant shape i s) c = meant-frame Inner c ws
frame-object (DTask t s) c = meant-frame Inner c []
frame-object (DTaskBody w objects its s) c = meant-frame Inner c []
frame-object (DNumber w e s) c = meant-frame Inner c []
frame-object (DEnumeration w ws s) c = meant-frame Inner c []
frame-object (DArray w r x s) c = meant-frame Inner c []
frame-object (DSubtype w x s) c = meant-frame Inner c []
frame-object (DException ws s) c = meant-frame Inner c []
frame-object (DIntIo w s) c = meant-frame Inner c []
frame-object (DPragma e s) c = meant-frame Inner c []

pub frame-objects : (xs : List PDecl) (c : CheckScope) → IsFrameOf c (after_objects c xs)
frame-objects [] c = meant-frame Inner c []
frame-objects (x ∷ xs) c =
    let h = frame-object x c in
    let i = frame-objects xs (after_own_object c x) in
    record { types = i.types ∙ h.types; own = i.own ∙ h.own; accepting = i.accepting ∙ h.accepting; loops = i.loops ∙ h.loops; in_handler = i.in_handler ∙ h.in_handler }

-- a name that is no shared variable, or may be called, is so behind objects
pub use-object : (x : PDecl) (c : CheckScope) (id : NameId) (s : Span) → shared_variable c (uses id s) ≡ [] → shared_variable (after_own_object c x) (uses id s) ≡ []
use-object (DObject ws constant shape i s') c id s h = uses-under c ws id s h
use-object (DTask t s') c id s h = h
use-object (DTaskBody w objects its s') c id s h = h
use-object (DNumber w e s') c id s h = h
use-object (DEnumeration w ws s') c id s h = h
use-object (DArray w r x s') c id s h = h
use-object (DSubtype w x s') c id s h = h
use-object (DException ws s') c id s h = h
use-object (DIntIo w s') c id s h = h
use-object (DPragma e s') c id s h = h

pub use-objects : (xs : List PDecl) (c : CheckScope) (id : NameId) (s : Span) → shared_variable c (uses id s) ≡ [] → shared_variable (after_objects c xs) (uses id s) ≡ []
use-objects [] c id s h = h
use-objects (x ∷ xs) c id s h = use-objects xs (after_own_object c x) id s (use-object x c id s h)

pub callee-object : (x : PDecl) (c : CheckScope) (w : Word) → main_entry c (addresses w) ≡ [] → main_entry (after_own_object c x) (addresses w) ≡ []
callee-object (DObject ws constant shape i s) c w h = callees-under c ws w h
callee-object (DTask t s) c w h = h
callee-object (DTaskBody v objects its s) c w h = h
callee-object (DNumber v e s) c w h = h
callee-object (DEnumeration v ws s) c w h = h
callee-object (DArray v r x s) c w h = h
callee-object (DSubtype v x s) c w h = h
callee-object (DException ws s) c w h = h
callee-object (DIntIo v s) c w h = h
callee-object (DPragma e s) c w h = h

pub callee-objects : (xs : List PDecl) (c : CheckScope) (w : Word) → main_entry c (addresses w) ≡ [] → main_entry (after_objects c xs) (addresses w) ≡ []
callee-objects [] c w h = h
callee-objects (x ∷ xs) c w h = callee-objects xs (after_own_object c x) w (callee-object x c w h)

module _ (q : PProgram) where
  -- ---- kept names

  pub object-alike : (x : PDecl) (c d : CheckScope) → AreAlike q c d → AreAlike q (after_own_object c x) (after_own_object d x)
  object-alike (DObject ws constant shape i s) c d h = meant-alike q Inner c d ws h
  object-alike (DTask t s) c d h = h
  object-alike (DTaskBody w objects its s) c d h = h
  object-alike (DNumber w e s) c d h = h
  object-alike (DEnumeration w ws s) c d h = h
  object-alike (DArray w r x s) c d h = h
  object-alike (DSubtype w x s) c d h = h
  object-alike (DException ws s) c d h = h
  object-alike (DIntIo w s) c d h = h
  object-alike (DPragma e s) c d h = h

  objects-alike : (xs : List PDecl) (c d : CheckScope) → AreAlike q c d → AreAlike q (after_objects c xs) (after_objects d xs)
  objects-alike [] c d h = h
  objects-alike (x ∷ xs) c d h = objects-alike xs (after_own_object c x) (after_own_object d x) (object-alike x c d h)

  -- the names of the permit are new
  abbrev pub permit_words : Span → List Word
  permit_words s = added_word q s kind_text ∷ added_word q s argument_text ∷ added_word q s index_text ∷ []

  pub permit-new : (s : Span) → AllByRecursion (IsNewWord q) (added_word q s kind_text ∷ added_word q s argument_text ∷ added_word q s index_text ∷ [])
  permit-new s = (λ id o. added-other q id kind_text o refl refl, (λ id o. added-other q id argument_text o refl refl, (λ id o. added-other q id index_text o refl refl, tt)))

  module _ (s : Span) where
    abbrev permit : PDecl
    permit = permit_declared q s

    behind-alike : (xs : List PDecl) (c d : CheckScope) → AreAlike q c d → AreAlike q (after_objects c xs) (after_objects d (behind_own q.names permit xs))
    behind-alike [] c d h = new-alike q Inner c d (permit_words s) (permit-new s) h
    behind-alike (x ∷ xs) c d h = go (is_added_object q.names x) (behind-alike xs (after_own_object c x) (after_own_object d x) (object-alike x c d h))
      where
        go : (b : Bool) → AreAlike q (after_objects (after_own_object c x) xs) (after_objects (after_own_object d x) (behind_own q.names permit xs)) →
            AreAlike q (after_objects c (x ∷ xs)) (after_objects d (if b then permit ∷ x ∷ xs else x ∷ behind_own q.names permit xs))
        go true later = objects-alike (x ∷ xs) c (after_own_object d permit) (new-alike q Inner c d (permit_words s) (permit-new s) h)
        go false later = later

    -- the variables of the permit are no shared ones
    permit-use : (id : NameId) (t : Span) → ((d : CheckScope) → shared_variable (after_own_object d permit) (uses id t) ≡ []) → (xs : List PDecl) (d : CheckScope) → shared_variable (after_objects d (behind_own q.names permit xs)) (uses id t) ≡ []
    permit-use id t is [] d = is d
    permit-use id t is (x ∷ xs) d = go (is_added_object q.names x) (permit-use id t is xs (after_own_object d x))
      where
        go : (b : Bool) → shared_variable (after_objects (after_own_object d x) (behind_own q.names permit xs)) (uses id t) ≡ [] → shared_variable (after_objects d (if b then permit ∷ x ∷ xs else x ∷ behind_own q.names permit xs)) (uses id t) ≡ []
        go true later = use-objects (x ∷ xs) (after_own_object d permit) id t (is d)
        go false later = later

  -- ---- the body of a task

  -- What is known of the scopes behind the tasks, in the normal form and in the text.
  pub record AreBehindTasks (c d : CheckScope) : Type 0 where
    pub alike : AreAlike q c d
    pub truth : (own : Option EnclosingUnit) (s : Span) → shared_variable (record d { own = own }) (uses (record { 0 = false_name }) s) ≡ []
    pub calls : (w : Word) → (w.name.0 == q.name.name.0) ≡ false → main_entry d (addresses w) ≡ []
    pub control : (s : Span) → main_entry d (addresses (added_word q s control_text)) ≡ []
    pub idle : (s : Span) → main_entry d (addresses (added_word q s idle_text)) ≡ []
    pub units : (w : Word) → kept_name q w.name.0 ≡ true → (id : NameId) → is_among (entries_named q w c.units) id ≡ true → (is_among (entries_named q w d.units) id ≡ true) × (is_among (entries_named q w d.units) (added_id q never_text) ≡ true)
    pub own : c.own ≡ None
    pub own' : d.own ≡ None
    pub accepting : c.accepting ≡ []
    pub accepting' : d.accepting ≡ []
    pub loops : c.loops ≡ []
    pub loops' : d.loops ≡ []
    pub in_handler : c.in_handler ≡ false
    pub in_handler' : d.in_handler ≡ false

  pub body-around : (c d : CheckScope) (w : Word) (s : Span) (objects : PDecls) → kept_name q w.name.0 ≡ true → AreBehindTasks c d →
      IsAsking q (after_own (in_body c w) objects) (after_own (in_body d w) (decls_of (behind_own q.names (permit_declared q s) (decl_list objects))))
  body-around c d w s objects kept rel =
      subst (λ a. IsAsking q a (after_own (in_body d w) (decls_of xs'))) (sym (objects-listed objects (in_body c w)))
      (subst (λ b. IsAsking q (after_objects (in_body c w) xs) b) (sym (objects-of xs' (in_body d w)))
      record {
        meant = behind-alike s xs (in_body c w) (in_body d w) rel.alike;
        inside = λ spans. ap (λ o. in_body_of o spans) f.own ∙ sym (ap (λ o. in_body_of o spans) e.own);
        kind = λ t. permit-use s (added_id q kind_text) t (λ b. inner-use b (permit_words s) (added_id q kind_text) t (first-there (added_id q kind_text).0 (added_id q argument_text).0 (added_id q index_text).0)) xs (in_body d w);
        argument = λ t. permit-use s (added_id q argument_text) t (λ b. inner-use b (permit_words s) (added_id q argument_text) t (second-there (added_id q kind_text).0 (added_id q argument_text).0 (added_id q index_text).0)) xs (in_body d w);
        index = λ t. permit-use s (added_id q index_text) t (λ b. inner-use b (permit_words s) (added_id q index_text) t (third-there (added_id q kind_text).0 (added_id q argument_text).0 (added_id q index_text).0)) xs (in_body d w);
        truth = λ t. use-objects xs' (in_body d w) (record { 0 = false_name }) t (rel.truth (Some (own_unit d w)) t);
        control = λ t. callee-objects xs' (in_body d w) (added_word q t control_text) (rel.control t);
        idle = λ t. callee-objects xs' (in_body d w) (added_word q t idle_text) (rel.idle t);
        entries = λ id h. ap (λ o. is_own_entry o id) f.own ∙ (rel.units w kept id (sym (ap (λ o. is_own_entry o id) e.own) ∙ h)).0;
        never = λ id h. ap (λ o. is_own_entry o (added_id q never_text)) f.own ∙ (rel.units w kept id (sym (ap (λ o. is_own_entry o id) e.own) ∙ h)).1;
        accepting = f.accepting ∙ rel.accepting' ∙ sym (e.accepting ∙ rel.accepting);
        outside = ap (λ l. is_among l (added_id q never_text)) (f.accepting ∙ rel.accepting');
        loops = f.loops ∙ rel.loops' ∙ sym (e.loops ∙ rel.loops);
        in_handler = λ h. absurd (true≢false (sym h ∙ e.in_handler ∙ rel.in_handler));
      })
    where
      xs : List PDecl
      xs = decl_list objects

      xs' : List PDecl
      xs' = behind_own q.names (permit_declared q s) xs

      e : IsFrameOf (in_body c w) (after_objects (in_body c w) xs)
      e = frame-objects xs (in_body c w)

      f : IsFrameOf (in_body d w) (after_objects (in_body d w) xs')
      f = frame-objects xs' (in_body d w)

  -- ---- main

  pub main-around : (c d : CheckScope) → AreBehindTasks c d → IsAsking q c d
  main-around c d rel = record {
    meant = rel.alike;
    inside = λ spans. ap (λ o. in_body_of o spans) rel.own' ∙ sym (ap (λ o. in_body_of o spans) rel.own);
    kind = λ s. unshared (added_id q kind_text) s;
    argument = λ s. unshared (added_id q argument_text) s;
    index = λ s. unshared (added_id q index_text) s;
    truth = λ s. unshared (record { 0 = false_name }) s;
    control = rel.control;
    idle = rel.idle;
    entries = λ id h. clash (sym (ap (λ o. is_own_entry o id) rel.own) ∙ h);
    never = λ id h. clash (sym (ap (λ o. is_own_entry o id) rel.own) ∙ h);
    accepting = rel.accepting' ∙ sym rel.accepting;
    outside = ap (λ l. is_among l (added_id q never_text)) rel.accepting';
    loops = rel.loops' ∙ sym rel.loops;
    in_handler = λ h. clash (sym rel.in_handler ∙ h);
  }
    where
      unshared : (id : NameId) (s : Span) → shared_variable d (uses id s) ≡ []
      unshared id s = ap (λ o. in_body_of o (shared_name (meaning d id) s)) rel.own'

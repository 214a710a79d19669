-- What stands around the statements of a body in a collecting text is as around those of the body in the normal form.
use Rattle.std.proofs.Common.{◌≡◌, ℕ, ◌==◌, ◌||◌, Bool, true, false, if◌then◌else◌, List, [], ◌∷◌, ◌++◌, Option, None, refl, sym, ap, subst, ◌∙◌, true≢false}
use Rattle.std.specs.List.{AllByRecursion}
use Rattle.common_lemmas.proofs.Truth.{clash}
use Rattle.common_lemmas.proofs.Numbers.{equal_self}
use Rattle.ada_tree.specs.declared.naming.NameId.{NameId}
use Rattle.ada_tree.specs.declared.naming.Span.{Span}
use Rattle.ada_tree.specs.declared.naming.Word.{Word}
use Rattle.ada_tree.specs.PlainDecl.{PDecl, DNumber, DObject, DEnumeration, DArray, DSubtype, DException, DIntIo, DPragma, DTask, DTaskBody, PDecls, decls_of}
use Rattle.ada_tree.specs.PlainExpr.{PExpr}
use Rattle.ada_tree.specs.PlainProgram.{PProgram}
use Rattle.ada_tree.specs.Every.{EveryExpr}
use Rattle.syn_event.specs.Extents.{fixed}
use Rattle.syn_event.specs.declared.meanings.Meant.TheVariants.{Inner}
use Rattle.syn_event.specs.CheckScope.{EnclosingUnit, CheckScope, meaning, uses, addresses}
use Rattle.syn_event.specs.CheckSites.{with_meant, in_body, after_own_object, after_own}
use Rattle.syn_event.specs.RuleAcceptPlace.{is_among, is_own_entry}
use Rattle.syn_event.specs.RuleMainEntry.{main_entry}
use Rattle.syn_event.specs.RuleSharedVariable.{shared_name, in_body_of, shared_variable}
use Rattle.syn_event.specs.DeclaredTasks.{decl_list}
use Rattle.normal_laws.proofs.structure.checked.MainScopes.{IsFrameOf}
use Rattle.normal_model.specs.Ranges.{word_at}
use Rattle.replay_model.specs.ReplayTree.{is_added_object}
use Rattle.replay_structure.proofs.checked.Scopes.{uses-under, inner-use}
use Rattle.replay_structure.proofs.checked.Units.{entries_named}
use Rattle.collect_model.specs.Names.{answer_text, part_text, recorder_text, collect_names, added_in}
use Rattle.collect_model.specs.CollectTree.{unit_declared, behind_own}
use Rattle.collect_structure.specs.Names.{added_id, kept_name, kept_names}
use Rattle.collect_structure.specs.checked.Around.{IsTelling}
use Rattle.collect_structure.specs.checked.Checkable.{is_truth}
use Rattle.collect_structure.proofs.checked.Names.{added-other}
use Rattle.collect_structure.proofs.checked.Alike.{AreAlike, IsNewWord, meant-alike, new-alike}
use Rattle.replay_structure.proofs.checked.Bodies.{after_objects, objects-listed, objects-of, callee-objects, frame-objects, use-objects}

-- ---- the objects of a body as a list

module _ (q : PProgram) where
  -- ---- kept names

  pub object-alike : (x : PDecl) (c d : CheckScope) → AreAlike (kept_name q) c d → AreAlike (kept_name q) (after_own_object c x) (after_own_object d x)
  object-alike (DObject ws constant shape i s) c d h = meant-alike (kept_name q) Inner c d ws h
  object-alike (DTask t s) c d h = h
  object-alike (DTaskBody w objects its s) c d h = h
  object-alike (DNumber w e s) c d h = h
  object-alike (DEnumeration w ws s) c d h = h
  object-alike (DArray w r x s) c d h = h
  object-alike (DSubtype w x s) c d h = h
  object-alike (DException ws s) c d h = h
  object-alike (DIntIo w s) c d h = h
  object-alike (DPragma e s) c d h = h

  objects-alike : (xs : List PDecl) (c d : CheckScope) → AreAlike (kept_name q) c d → AreAlike (kept_name q) (after_objects c xs) (after_objects d xs)
  objects-alike [] c d h = h
  objects-alike (x ∷ xs) c d h = objects-alike xs (after_own_object c x) (after_own_object d x) (object-alike x c d h)

  -- the names of the two variables are new
  abbrev pub answer_words : Span → List Word
  answer_words s = word_at s (added_id q answer_text) ∷ []

  abbrev pub part_words : Span → List Word
  part_words s = word_at s (added_id q part_text) ∷ []

  pub answer-new : (s : Span) → AllByRecursion (IsNewWord (kept_name q)) (answer_words s)
  answer-new s = (λ id o. added-other q id answer_text o refl refl, tt)

  pub part-new : (s : Span) → AllByRecursion (IsNewWord (kept_name q)) (part_words s)
  part-new s = (λ id o. added-other q id part_text o refl refl, tt)

  module _ (s : Span) where
    abbrev two : List PDecl
    two = unit_declared (added_in (collect_names q)) s

    -- the scope behind the two variables
    abbrev pub with_two : CheckScope → CheckScope
    with_two d = after_objects d two

    pub two-alike : (c d : CheckScope) → AreAlike (kept_name q) c d → AreAlike (kept_name q) c (with_two d)
    two-alike c d h =
        new-alike (kept_name q) Inner c (with_meant Inner d (answer_words s)) (part_words s) (part-new s) (new-alike (kept_name q) Inner c d (answer_words s) (answer-new s) h)

    behind-alike : (xs : List PDecl) (c d : CheckScope) → AreAlike (kept_name q) c d → AreAlike (kept_name q) (after_objects c xs) (after_objects d (behind_own q.names two xs))
    behind-alike [] c d h = two-alike c d h
    behind-alike (x ∷ xs) c d h = go (is_added_object q.names x) (behind-alike xs (after_own_object c x) (after_own_object d x) (object-alike x c d h))
      where
        go : (b : Bool) → AreAlike (kept_name q) (after_objects (after_own_object c x) xs) (after_objects (after_own_object d x) (behind_own q.names two xs)) →
            AreAlike (kept_name q) (after_objects c (x ∷ xs)) (after_objects d (if b then two ++ x ∷ xs else x ∷ behind_own q.names two xs))
        go true later = objects-alike (x ∷ xs) c (with_two d) (two-alike c d h)
        go false later = later

    -- the two variables are no shared ones
    two-use : (id : NameId) (t : Span) → ((d : CheckScope) → shared_variable (with_two d) (uses id t) ≡ []) → (xs : List PDecl) (d : CheckScope) → shared_variable (after_objects d (behind_own q.names two xs)) (uses id t) ≡ []
    two-use id t is [] d = is d
    two-use id t is (x ∷ xs) d = go (is_added_object q.names x) (two-use id t is xs (after_own_object d x))
      where
        go : (b : Bool) → shared_variable (after_objects (after_own_object d x) (behind_own q.names two xs)) (uses id t) ≡ [] → shared_variable (after_objects d (if b then two ++ x ∷ xs else x ∷ behind_own q.names two xs)) (uses id t) ≡ []
        go true later = use-objects (x ∷ xs) (with_two d) id t (is d)
        go false later = later

    answer-use : (t : Span) (d : CheckScope) → shared_variable (with_two d) (uses (added_id q answer_text) t) ≡ []
    answer-use t d = uses-under (with_meant Inner d (answer_words s)) (part_words s) (added_id q answer_text) t (inner-use d (answer_words s) (added_id q answer_text) t (ap (λ b. b || false) (equal_self (added_id q answer_text).0)))

    part-use : (t : Span) (d : CheckScope) → shared_variable (with_two d) (uses (added_id q part_text) t) ≡ []
    part-use t d = inner-use (with_meant Inner d (answer_words s)) (part_words s) (added_id q part_text) t (ap (λ b. b || false) (equal_self (added_id q part_text).0))

  -- ---- the body of a task

  -- What is known of the scopes behind the tasks, in the normal form and in the text.
  pub record AreBehindTasks (c d : CheckScope) : Type 0 where
    pub alike : AreAlike (kept_name q) c d
    pub truth : (n : ℕ) → is_truth n ≡ true → (own : Option EnclosingUnit) (s : Span) → shared_variable (record d { own = own }) (uses (record { 0 = n }) s) ≡ []
    pub values : (k : ℕ) (e : PExpr) → EveryExpr (kept_names q) k e → fixed d.types e ≡ fixed c.types e
    pub calls : (w : Word) → (w.name.0 == q.name.name.0) ≡ false → main_entry d (addresses w) ≡ []
    pub recorder : (s : Span) → main_entry d (addresses (word_at s (added_id q recorder_text))) ≡ []
    pub units : (w : Word) → kept_name q w.name.0 ≡ true → entries_named q w d.units ≡ entries_named q w c.units
    pub own : c.own ≡ None
    pub own' : d.own ≡ None
    pub accepting : c.accepting ≡ []
    pub accepting' : d.accepting ≡ []
    pub loops : c.loops ≡ []
    pub loops' : d.loops ≡ []
    pub in_handler : c.in_handler ≡ false
    pub in_handler' : d.in_handler ≡ false

  pub body-around : (c d : CheckScope) (w : Word) (s : Span) (objects : PDecls) → kept_name q w.name.0 ≡ true → AreBehindTasks c d →
      IsTelling q (after_own (in_body c w) objects) (after_own (in_body d w) (decls_of (behind_own q.names (unit_declared (added_in (collect_names q)) s) (decl_list objects))))
  body-around c d w s objects kept rel =
      subst (λ a. IsTelling q a (after_own (in_body d w) (decls_of xs'))) (sym (objects-listed objects (in_body c w)))
      (subst (λ b. IsTelling q (after_objects (in_body c w) xs) b) (sym (objects-of xs' (in_body d w)))
      record {
        meant = behind-alike s xs (in_body c w) (in_body d w) rel.alike;
        inside = λ spans. ap (λ o. in_body_of o spans) f.own ∙ sym (ap (λ o. in_body_of o spans) e.own);
        values = λ k v h. ap (λ T. fixed T v) f.types ∙ rel.values k v h ∙ sym (ap (λ T. fixed T v) e.types);
        answer = λ t. two-use s (added_id q answer_text) t (answer-use s t) xs (in_body d w);
        part = λ t. two-use s (added_id q part_text) t (part-use s t) xs (in_body d w);
        recorder = λ t. callee-objects xs' (in_body d w) (word_at t (added_id q recorder_text)) (rel.recorder t);
        entries = λ id h. ap (λ o. is_own_entry o id) f.own ∙ ap (λ es. is_among es id) (rel.units w kept) ∙ (sym (ap (λ o. is_own_entry o id) e.own) ∙ h);
        accepting = f.accepting ∙ rel.accepting' ∙ sym (e.accepting ∙ rel.accepting);
        loops = f.loops ∙ rel.loops' ∙ sym (e.loops ∙ rel.loops);
        in_handler = λ h. absurd (true≢false (sym h ∙ e.in_handler ∙ rel.in_handler));
      })
    where
      xs : List PDecl
      xs = decl_list objects

      xs' : List PDecl
      xs' = behind_own q.names (unit_declared (added_in (collect_names q)) s) xs

      e : IsFrameOf (in_body c w) (after_objects (in_body c w) xs)
      e = frame-objects xs (in_body c w)

      f : IsFrameOf (in_body d w) (after_objects (in_body d w) xs')
      f = frame-objects xs' (in_body d w)

  -- ---- main

  pub main-around : (c d : CheckScope) → AreBehindTasks c d → IsTelling q c d
  main-around c d rel = record {
    meant = rel.alike;
    inside = λ spans. ap (λ o. in_body_of o spans) rel.own' ∙ sym (ap (λ o. in_body_of o spans) rel.own);
    values = rel.values;
    answer = λ s. unshared (added_id q answer_text) s;
    part = λ s. unshared (added_id q part_text) s;
    recorder = rel.recorder;
    entries = λ id h. clash (sym (ap (λ o. is_own_entry o id) rel.own) ∙ h);
    accepting = rel.accepting' ∙ sym rel.accepting;
    loops = rel.loops' ∙ sym rel.loops;
    in_handler = λ h. clash (sym rel.in_handler ∙ h);
  }
    where
      unshared : (id : NameId) (s : Span) → shared_variable d (uses id s) ≡ []
      unshared id s = ap (λ o. in_body_of o (shared_name (meaning d id) s)) rel.own'

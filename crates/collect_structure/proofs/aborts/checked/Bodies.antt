-- What stands around the statements of a body in a collecting text of a program with abort statements is as around those of the body in the normal form.
use Rattle.std.proofs.Common.{◌≡◌, ℕ, zero, suc, ◌≤◌, ◌==◌, ◌||◌, Bool, true, false, if◌then◌else◌, List, [], ◌∷◌, ◌++◌, Option, None, refl, sym, ap, subst, ◌∙◌, true≢false, eqb-true, eq-eqb, arith}
use Rattle.std.specs.List.{AllByRecursion, list_any}
use Rattle.std.proofs.lemmas.Bool.{or_left, or_right}
use Rattle.std.proofs.lemmas.List.Folds.{list_any-append}
use Rattle.common_lemmas.proofs.Lists.{all_joined}
use Rattle.common_lemmas.proofs.Truth.{clash}
use Rattle.common_lemmas.proofs.Numbers.{equal_self}
use Rattle.ada_tree.specs.declared.naming.NameId.{NameId}
use Rattle.ada_tree.specs.declared.naming.Span.{Span}
use Rattle.ada_tree.specs.declared.naming.Word.{Word}
use Rattle.ada_tree.specs.PlainDecl.{PDecl, DNumber, DObject, DEnumeration, DArray, DSubtype, DException, DIntIo, DPragma, DTask, DTaskBody, PDecls, decls_of}
use Rattle.ada_tree.specs.PlainExpr.{PExpr}
use Rattle.ada_tree.specs.PlainProgram.{PProgram}
use Rattle.ada_tree.specs.Every.{EveryExpr}
use Rattle.syn_event.specs.Extents.{fixed}
use Rattle.syn_event.specs.declared.meanings.Meant.TheVariants.{Inner}
use Rattle.syn_event.specs.CheckScope.{EnclosingUnit, CheckScope, meaning, uses, addresses}
use Rattle.syn_event.specs.CheckSites.{in_body, after_own_object, after_own}
use Rattle.syn_event.specs.RuleAcceptPlace.{is_among, is_own_entry}
use Rattle.syn_event.specs.RuleMainEntry.{main_entry}
use Rattle.syn_event.specs.RuleSharedVariable.{shared_name, in_body_of, shared_variable}
use Rattle.syn_event.specs.DeclaredTasks.{decl_list}
use Rattle.task_model.specs.Setting.{Setting}
use Rattle.normal_laws.proofs.structure.checked.MainScopes.{IsFrameOf}
use Rattle.normal_model.specs.Ranges.{word_at}
use Rattle.replay_model.specs.ReplayTree.{is_added_object}
use Rattle.replay_structure.proofs.checked.Scopes.{inner-use}
use Rattle.replay_structure.proofs.checked.Units.{entries_named}
use Rattle.collect_model.specs.Names.{answer_text, part_text, recorder_text, collect_names, added_in}
use Rattle.collect_model.specs.CollectTree.{unit_declared, behind_own}
use Rattle.collect_structure.specs.Names as collect
use Rattle.collect_structure.specs.checked.Checkable.{is_truth}
use Rattle.collect_structure.proofs.checked.Names.{added-other}
use Rattle.collect_model.specs.aborts.Names.{taken_text, refused_text}
use Rattle.collect_model.specs.aborts.Places.{most_places}
use Rattle.collect_model.specs.aborts.AbortTeller.{AbortTeller}
use Rattle.collect_model.specs.aborts.AbortTree.{taken_declared, refused_declared, places_declared}
use Rattle.collect_structure.specs.aborts.asked.Pieces.{IsPlace}
use Rattle.collect_structure.specs.aborts.Names.{kept_name}
use Rattle.collect_structure.specs.aborts.scopes.Text.{main_told}
use Rattle.collect_structure.specs.aborts.checked.Around.{kept_names, IsTelling, IsStaying}
use Rattle.collect_structure.proofs.checked.Alike.{AreAlike, IsNewWord, meant-alike, new-alike}
use Rattle.collect_structure.proofs.aborts.checked.Asked.{y}
use Rattle.collect_structure.proofs.aborts.checked.Names.{further-other, still-kept}
use Rattle.collect_structure.proofs.aborts.texts.Listed.{all-places}
use Rattle.collect_structure.proofs.aborts.texts.Named.{abort-has-places}
use Rattle.replay_structure.proofs.checked.Bodies.{after_objects, objects-listed, objects-of, callee-objects, frame-objects, use-objects}

-- ---- the objects of a body

pub after-both : (xs ys : List PDecl) (c : CheckScope) → after_objects c (xs ++ ys) ≡ after_objects (after_objects c xs) ys
after-both [] ys c = refl
after-both (x ∷ xs) ys c = after-both xs ys (after_own_object c x)

-- ---- objects that are declared there

-- the declaration is that of an object of this name
abbrev pub is_object_of : NameId → PDecl → Bool
is_object_of id (DObject ws constant shape init s) = list_any (λ w. w.name.0 == id.0) ws
is_object_of id _ = false

object-use : (x : PDecl) (c : CheckScope) (id : NameId) (s : Span) → is_object_of id x ≡ true → shared_variable (after_own_object c x) (uses id s) ≡ []
object-use (DObject ws constant shape init p) c id s h = inner-use c ws id s h
object-use (DTask t p) c id s h = clash h
object-use (DTaskBody w objects its p) c id s h = clash h
object-use (DNumber w e p) c id s h = clash h
object-use (DEnumeration w ws p) c id s h = clash h
object-use (DArray w r x p) c id s h = clash h
object-use (DSubtype w x p) c id s h = clash h
object-use (DException ws p) c id s h = clash h
object-use (DIntIo w p) c id s h = clash h
object-use (DPragma e p) c id s h = clash h

-- so it is no shared variable
declared-use : (xs : List PDecl) (id : NameId) → list_any (is_object_of id) xs ≡ true → (c : CheckScope) (s : Span) →
    shared_variable (after_objects c xs) (uses id s) ≡ []
declared-use [] id h c s = clash h
declared-use (x ∷ xs) id h c s = by_test (is_object_of id x) refl h (λ e. declared-use xs id e (after_own_object c x) s)
  where
    by_test : (b : Bool) → is_object_of id x ≡ b → (b || list_any (is_object_of id) xs) ≡ true →
        (list_any (is_object_of id) xs ≡ true → shared_variable (after_objects (after_own_object c x) xs) (uses id s) ≡ []) →
        shared_variable (after_objects (after_own_object c x) xs) (uses id s) ≡ []
    by_test true e i later = use-objects xs (after_own_object c x) id s (object-use x c id s e)
    by_test false e i later = later i

-- the variables of each place are declared
module _ (x : AbortTeller) (s : Span) where
  abbrev AreThere : List PDecl → ℕ → Type 0
  AreThere xs p = (list_any (is_object_of (x.taken p)) xs ≡ true) × (list_any (is_object_of (x.refused p)) xs ≡ true)

  places-there : (n p : ℕ) → IsPlace n p → AreThere (places_declared x s n) p
  places-there zero p i = let never : ⊥ = omega (arith, i.0, i.1) in absurd never
  places-there (suc n) p i = by_test (p == suc n) refl (places-there n p)
    where
      xs : List PDecl
      xs = places_declared x s n

      two : List PDecl
      two = taken_declared s (x.taken (suc n)) ∷ refused_declared s (x.refused (suc n)) ∷ []

      front : (id : NameId) → list_any (is_object_of id) xs ≡ true → list_any (is_object_of id) (xs ++ two) ≡ true
      front id h = list_any-append (is_object_of id) xs two ∙ or_left (list_any (is_object_of id) xs) (list_any (is_object_of id) two) h

      back : (id : NameId) → list_any (is_object_of id) two ≡ true → list_any (is_object_of id) (xs ++ two) ≡ true
      back id h = list_any-append (is_object_of id) xs two ∙ or_right (list_any (is_object_of id) xs) (list_any (is_object_of id) two) h

      first : list_any (is_object_of (x.taken (suc n))) two ≡ true
      first = ap (λ b. (b || false) || (is_object_of (x.taken (suc n)) (refused_declared s (x.refused (suc n))) || false)) (equal_self (x.taken (suc n)).0)

      second : list_any (is_object_of (x.refused (suc n))) two ≡ true
      second =
          or_right (is_object_of (x.refused (suc n)) (taken_declared s (x.taken (suc n)))) _
          (ap (λ b. (b || false) || false) (equal_self (x.refused (suc n)).0))

      by_test : (b : Bool) → (p == suc n) ≡ b → (IsPlace n p → AreThere xs p) → AreThere (xs ++ two) p
      by_test true e later = subst (AreThere (xs ++ two)) (sym (eqb-true p (suc n) e)) (back (x.taken (suc n)) first, back (x.refused (suc n)) second)
      by_test false e later =
          let other : p ≡ suc n → ⊥ = λ same. true≢false (sym (eq-eqb p (suc n) same) ∙ e) in
          let earlier = later (i.0, omega (arith, i.1, other)) in
          (front (x.taken p) earlier.0, front (x.refused p) earlier.1)

-- ---- kept names

module _ (q : PProgram) where
  pub object-alike : (x : PDecl) (c d : CheckScope) → AreAlike (kept_name q) c d → AreAlike (kept_name q) (after_own_object c x) (after_own_object d x)
  object-alike (DObject ws constant shape init s) c d h = meant-alike (kept_name q) Inner c d ws h
  object-alike (DTask t s) c d h = h
  object-alike (DTaskBody w objects its s) c d h = h
  object-alike (DNumber w e s) c d h = h
  object-alike (DEnumeration w ws s) c d h = h
  object-alike (DArray w r x s) c d h = h
  object-alike (DSubtype w x s) c d h = h
  object-alike (DException ws s) c d h = h
  object-alike (DIntIo w s) c d h = h
  object-alike (DPragma e s) c d h = h

  pub objects-alike : (xs : List PDecl) (c d : CheckScope) → AreAlike (kept_name q) c d → AreAlike (kept_name q) (after_objects c xs) (after_objects d xs)
  objects-alike [] c d h = h
  objects-alike (x ∷ xs) c d h = objects-alike xs (after_own_object c x) (after_own_object d x) (object-alike x c d h)

  -- an object that stands in the text alone: its names are no kept ones
  abbrev pub IsNewObject : PDecl → Type 0
  IsNewObject (DObject ws constant shape init s) = AllByRecursion (IsNewWord (kept_name q)) ws
  IsNewObject _ = ⊥

  pub new-object-alike : (x : PDecl) (c d : CheckScope) → IsNewObject x → AreAlike (kept_name q) c d → AreAlike (kept_name q) c (after_own_object d x)
  new-object-alike (DObject ws constant shape init s) c d n h = new-alike (kept_name q) Inner c d ws n h
  new-object-alike (DTask t s) c d n h = h
  new-object-alike (DTaskBody w objects its s) c d n h = h
  new-object-alike (DNumber w e s) c d n h = h
  new-object-alike (DEnumeration w ws s) c d n h = h
  new-object-alike (DArray w r x s) c d n h = h
  new-object-alike (DSubtype w x s) c d n h = h
  new-object-alike (DException ws s) c d n h = h
  new-object-alike (DIntIo w s) c d n h = h
  new-object-alike (DPragma e s) c d n h = h

  new-objects-alike : (xs : List PDecl) (c d : CheckScope) → AllByRecursion IsNewObject xs → AreAlike (kept_name q) c d → AreAlike (kept_name q) c (after_objects d xs)
  new-objects-alike [] c d n h = h
  new-objects-alike (x ∷ xs) c d n h = new-objects-alike xs c (after_own_object d x) n.1 (new-object-alike x c d n.0 h)

  -- some objects that the text adds, in front of the variables of the normal form
  module _ (mine : List PDecl) (new : AllByRecursion IsNewObject mine) where
    behind-alike : (xs : List PDecl) (c d : CheckScope) → AreAlike (kept_name q) c d → AreAlike (kept_name q) (after_objects c xs) (after_objects d (behind_own q.names mine xs))
    behind-alike [] c d h = new-objects-alike mine c d new h
    behind-alike (x ∷ xs) c d h = go (is_added_object q.names x) (behind-alike xs (after_own_object c x) (after_own_object d x) (object-alike x c d h))
      where
        go : (b : Bool) → AreAlike (kept_name q) (after_objects (after_own_object c x) xs) (after_objects (after_own_object d x) (behind_own q.names mine xs)) →
            AreAlike (kept_name q) (after_objects c (x ∷ xs)) (after_objects d (if b then mine ++ x ∷ xs else x ∷ behind_own q.names mine xs))
        go true later =
            subst (AreAlike (kept_name q) (after_objects c (x ∷ xs))) (sym (after-both mine (x ∷ xs) d))
            (objects-alike (x ∷ xs) c (after_objects d mine) (new-objects-alike mine c d new h))
        go false later = later

    -- what is declared among them is no shared variable
    behind-use : (id : NameId) → list_any (is_object_of id) mine ≡ true → (xs : List PDecl) (d : CheckScope) (t : Span) →
        shared_variable (after_objects d (behind_own q.names mine xs)) (uses id t) ≡ []
    behind-use id there [] d t = declared-use mine id there d t
    behind-use id there (x ∷ xs) d t = go (is_added_object q.names x) (behind-use id there xs (after_own_object d x) t)
      where
        go : (b : Bool) → shared_variable (after_objects (after_own_object d x) (behind_own q.names mine xs)) (uses id t) ≡ [] →
            shared_variable (after_objects d (if b then mine ++ x ∷ xs else x ∷ behind_own q.names mine xs)) (uses id t) ≡ []
        go true later =
            subst (λ e. shared_variable e (uses id t) ≡ []) (sym (after-both mine (x ∷ xs) d))
            (use-objects (x ∷ xs) (after_objects d mine) id t (declared-use mine id there d t))
        go false later = later

-- ---- behind the tasks

module _ (q : PProgram) where
  -- What is known of the scopes behind the tasks, in the normal form and in the text.
  pub record AreBehindTasks (c d : CheckScope) : Type 0 where
    pub alike : AreAlike (kept_name q) c d
    pub truth : (n : ℕ) → is_truth n ≡ true → (own : Option EnclosingUnit) (s : Span) →
        shared_variable (record d { own = own }) (uses (record { 0 = n }) s) ≡ []
    pub values : (k : ℕ) (e : PExpr) → EveryExpr (kept_names q) k e → fixed d.types e ≡ fixed c.types e
    pub calls : (w : Word) → (w.name.0 == q.name.name.0) ≡ false → main_entry d (addresses w) ≡ []
    pub recorder : (s : Span) → main_entry d (addresses (word_at s (collect.added_id q recorder_text))) ≡ []
    pub units : (w : Word) → kept_name q w.name.0 ≡ true → entries_named q w d.units ≡ entries_named q w c.units
    pub own : c.own ≡ None
    pub own' : d.own ≡ None
    pub accepting : c.accepting ≡ []
    pub accepting' : d.accepting ≡ []
    pub loops : c.loops ≡ []
    pub loops' : d.loops ≡ []
    pub in_handler : c.in_handler ≡ false
    pub in_handler' : d.in_handler ≡ false

-- ---- what a unit declares more

module _ (g : Setting) where
  abbrev q : PProgram
  q = g.program

  abbrev x : AbortTeller
  x = main_told g

  -- the two variables, and those of the first places
  abbrev pub mine : Span → ℕ → List PDecl
  mine s k = unit_declared (added_in (collect_names q)) s ++ places_declared x s k

  pub places-new : (s : Span) (k : ℕ) → k ≤ most_places q → AllByRecursion (IsNewObject q) (places_declared x s k)
  places-new s k le =
      all-places (IsNewObject q) x s k k (omega arith)
      (λ p low high.
      let has = abort-has-places q p low (omega (arith, le, high)) in
      ((λ id o. further-other q id (taken_text p) o has.0 refl, tt), (λ id o. further-other q id (refused_text p) o has.1 refl, tt)))

  pub unit-new : (s : Span) → AllByRecursion (IsNewObject q) (unit_declared (added_in (collect_names q)) s)
  unit-new s = (
    (λ id o. added-other q id answer_text (still-kept q id.0 o) refl refl, tt),
    ((λ id o. added-other q id part_text (still-kept q id.0 o) refl refl, tt), tt),
  )

  mine-new : (s : Span) (k : ℕ) → k ≤ most_places q → AllByRecursion (IsNewObject q) (mine s k)
  mine-new s k le = all_joined (IsNewObject q) (unit_declared (added_in (collect_names q)) s) (places_declared x s k) (unit-new s) (places-new s k le)

  place-mine : (s : Span) (k : ℕ) (id : NameId) → list_any (is_object_of id) (places_declared x s k) ≡ true → list_any (is_object_of id) (mine s k) ≡ true
  place-mine s k id h =
      list_any-append (is_object_of id) (unit_declared (added_in (collect_names q)) s) (places_declared x s k)
      ∙ or_right (list_any (is_object_of id) (unit_declared (added_in (collect_names q)) s)) (list_any (is_object_of id) (places_declared x s k)) h

  answer-mine : (s : Span) (k : ℕ) → list_any (is_object_of (collect.added_id q answer_text)) (mine s k) ≡ true
  answer-mine s k =
      or_left ((collect.added_id q answer_text).0 == (collect.added_id q answer_text).0 || false) _
      (ap (λ b. b || false) (equal_self (collect.added_id q answer_text).0))

  part-mine : (s : Span) (k : ℕ) → list_any (is_object_of (collect.added_id q part_text)) (mine s k) ≡ true
  part-mine s k =
      or_right ((collect.added_id q answer_text).0 == (collect.added_id q part_text).0 || false) _
      (ap (λ b. (b || false) || list_any (is_object_of (collect.added_id q part_text)) (places_declared x s k)) (equal_self (collect.added_id q part_text).0))

  -- ---- the body of a task

  pub body-around : (task most : ℕ) → most ≤ most_places q → (c d : CheckScope) (w : Word) (s : Span) (objects : PDecls) → kept_name q w.name.0 ≡ true →
      AreBehindTasks q c d →
      IsStaying q (y g task most) most (after_own (in_body c w) objects)
      (after_own (in_body d w) (decls_of (behind_own q.names (mine s most) (decl_list objects))))
  body-around task most le c d w s objects kept rel =
      subst (λ a. IsStaying q (y g task most) most a (after_own (in_body d w) (decls_of xs'))) (sym (objects-listed objects (in_body c w)))
      (subst (λ b. IsStaying q (y g task most) most (after_objects (in_body c w) xs) b) (sym (objects-of xs' (in_body d w)))
      (telling, f.loops ∙ rel.loops' ∙ sym (e.loops ∙ rel.loops)))
    where
      xs : List PDecl
      xs = decl_list objects

      xs' : List PDecl
      xs' = behind_own q.names (mine s most) xs

      e : IsFrameOf (in_body c w) (after_objects (in_body c w) xs)
      e = frame-objects xs (in_body c w)

      f : IsFrameOf (in_body d w) (after_objects (in_body d w) xs')
      f = frame-objects xs' (in_body d w)

      new : AllByRecursion (IsNewObject q) (mine s most)
      new = mine-new s most le

      telling : IsTelling q (y g task most) most (after_objects (in_body c w) xs) (after_objects (in_body d w) xs')
      telling = record {
        meant = behind-alike q (mine s most) new xs (in_body c w) (in_body d w) rel.alike;
        inside = λ spans. ap (λ o. in_body_of o spans) f.own ∙ sym (ap (λ o. in_body_of o spans) e.own);
        values = λ k v h. ap (λ T. fixed T v) f.types ∙ rel.values k v h ∙ sym (ap (λ T. fixed T v) e.types);
        answer = λ t. behind-use q (mine s most) new (collect.added_id q answer_text) (answer-mine s most) xs (in_body d w) t;
        part = λ t. behind-use q (mine s most) new (collect.added_id q part_text) (part-mine s most) xs (in_body d w) t;
        taken = λ p i t. behind-use q (mine s most) new (x.taken p) (place-mine s most (x.taken p) (places-there x s most p i).0) xs (in_body d w) t;
        refused = λ p i t. behind-use q (mine s most) new (x.refused p) (place-mine s most (x.refused p) (places-there x s most p i).1) xs (in_body d w) t;
        recorder = λ t. callee-objects xs' (in_body d w) (word_at t (collect.added_id q recorder_text)) (rel.recorder t);
        entries = λ id h. ap (λ o. is_own_entry o id) f.own ∙ ap (λ es. is_among es id) (rel.units w kept) ∙ (sym (ap (λ o. is_own_entry o id) e.own) ∙ h);
        accepting = f.accepting ∙ rel.accepting' ∙ sym (e.accepting ∙ rel.accepting);
        in_handler = λ h. absurd (true≢false (sym h ∙ e.in_handler ∙ rel.in_handler));
      }

  -- ---- main

  pub main-around : (most : ℕ) (c d : CheckScope) → AreBehindTasks q c d → IsStaying q (y g 0 most) most c d
  main-around most c d rel = (
    record {
      meant = rel.alike;
      inside = λ spans. ap (λ o. in_body_of o spans) rel.own' ∙ sym (ap (λ o. in_body_of o spans) rel.own);
      values = rel.values;
      answer = λ s. unshared (collect.added_id q answer_text) s;
      part = λ s. unshared (collect.added_id q part_text) s;
      taken = λ p i s. unshared (x.taken p) s;
      refused = λ p i s. unshared (x.refused p) s;
      recorder = rel.recorder;
      entries = λ id h. clash (sym (ap (λ o. is_own_entry o id) rel.own) ∙ h);
      accepting = rel.accepting' ∙ sym rel.accepting;
      in_handler = λ h. clash (sym rel.in_handler ∙ h);
    },
    rel.loops' ∙ sym rel.loops,
  )
    where
      unshared : (id : NameId) (s : Span) → shared_variable d (uses id s) ≡ []
      unshared id s = ap (λ o. in_body_of o (shared_name (meaning d id) s)) rel.own'

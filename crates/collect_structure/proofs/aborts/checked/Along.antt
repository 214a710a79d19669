-- The places of the declarations of a collecting text of a program with abort statements, by those of the normal form.
use Rattle.std.proofs.Common.{◌≡◌, ℕ, ◌≤◌, ◌==◌, Bool, true, false, if◌then◌else◌, List, [], ◌∷◌, ◌++◌, map, Some, None, refl, sym, ap, subst, ◌∙◌, append-nil, arith}
use Rattle.std.specs.List.{AllByRecursion, list_any}
use Rattle.common_lemmas.proofs.Lists.{all_front, all_back, all_joined}
use Rattle.ada_tree.specs.declared.naming.Span.{Span}
use Rattle.ada_tree.specs.declared.naming.Word.{Word}
use Rattle.ada_tree.specs.Attributes.{false_name}
use Rattle.ada_tree.specs.PlainStmt.{PBody}
use Rattle.ada_tree.specs.PlainDecl.{PTask, PDecl, DNumber, DObject, DEnumeration, DArray, DSubtype, DException, DIntIo, DPragma, DTask, DTaskBody, PDecls, no_decl, decl_then, decls_of}
use Rattle.ada_tree.specs.PlainProgram.{PProgram}
use Rattle.ada_tree.specs.Every.{EveryDecl, EveryDecls, EveryBody}
use Rattle.syn_event.specs.CheckScope.{CheckScope, CheckSite, meaning, declares}
use Rattle.syn_event.specs.CheckSites as check
use Rattle.syn_event.specs.RuleSharedVariable.{shared_name, in_body_of}
use Rattle.syn_event.specs.DeclaredTasks.{decl_list}
use Rattle.task_model.specs.Setting.{Setting}
use Rattle.task_laws.specs.legal.asked.Asked.{AskedBody}
use Rattle.task_laws.specs.legal.asked.Kinds.{place_asks, check_asks, both}
use Rattle.task_laws.proofs.legal.asked.Placed.{placed_asked}
use Rattle.task_laws.proofs.legal.asked.Checked.{checked_asked, asked_checked}
use Rattle.task_laws.proofs.legal.asked.Together.{both_asked}
use Rattle.normal_model.specs.Ranges.{word_at}
use Rattle.normal_laws.proofs.structure.numbers.Listed.{IsPlain, IsOneTask, IsOneBody}
use Rattle.normal_laws.specs.structure.numbers.Single.{IsSingle}
use Rattle.normal_laws.proofs.structure.checked.MainScopes.{IsFrameOf, frame-refl, frame-trans}
use Rattle.replay_model.specs.ReplayTree.{is_added_object}
use Rattle.replay_structure.specs.checked.Around.{form_asks}
use Rattle.replay_structure.specs.checked.Checkable.{HasForm, IsSameObject, IsSameDecl}
use Rattle.replay_structure.proofs.checked.Lists.{after_all, AllAlong}
use Rattle.replay_structure.proofs.checked.Along.{OnTask}
use Rattle.collect_model.specs.Names.{int_io_text, collect_names, added_in}
use Rattle.collect_model.specs.Teller.{task_of}
use Rattle.collect_model.specs.CollectTree.{flags_type, main_declared, behind_own, task_telling}
use Rattle.collect_structure.specs.Names as names
use Rattle.collect_structure.specs.checked.Checkable.{IsOtherThanTruths, HasFewFormals}
use Rattle.collect_structure.proofs.checked.Stays.{stay-out}
use Rattle.collect_structure.proofs.checked.Along.{flags-met, int-io-met}
use Rattle.replay_structure.proofs.checked.Plain.{plain-decl, object-stays}
use Rattle.collect_structure.proofs.checked.Tasks.{task-met}
use Rattle.collect_model.specs.aborts.Places.{places_of, places_in, most_places}
use Rattle.collect_model.specs.aborts.AbortTeller.{told_at}
use Rattle.collect_model.specs.aborts.AbortStmts.{main_body, task_body}
use Rattle.collect_model.specs.aborts.AbortTree.{abort_decl, places_declared}
use Rattle.collect_structure.specs.aborts.scopes.Text.{main_told}
use Rattle.collect_structure.specs.aborts.checked.Around.{kept_names, IsStaying}
use Rattle.collect_structure.proofs.aborts.asked.Walk.{main-keeps, task-keeps}
use Rattle.collect_structure.proofs.aborts.checked.Added.{IsTrueThere, IsFine, fine-decl, mine-fine}
use Rattle.collect_structure.proofs.checked.Alike.{AreAlike}
use Rattle.collect_structure.proofs.aborts.checked.Asked.{y, H, R, S, a, b, pieces}
use Rattle.collect_structure.proofs.aborts.checked.Before.{AreBefore, same-there, plain-before, object-before, task-before, uses-there}
use Rattle.collect_structure.proofs.aborts.checked.Bodies.{AreBehindTasks, mine, object-alike, new-object-alike, body-around}
use Rattle.collect_structure.proofs.aborts.checked.Names.{longer}
use Rattle.collect_structure.proofs.aborts.checked.Stays.{IsTextMet, UsesStay, stay-out as abort-out}
use Rattle.replay_structure.proofs.checked.Stays.{IsFormMet}
use Rattle.replay_structure.proofs.checked.Bodies.{frame-object, use-object}
use Rattle.collect_structure.specs.aborts.Names.{kept_name}

-- ---- declarations in front of the bodies

module _ (g : Setting) (c0 d0 : CheckScope) (own : c0.own ≡ None) (own' : d0.own ≡ None) (bodies bodies' : List ℕ) where
  abbrev q : PProgram
  q = g.program

  abbrev Before : CheckScope → CheckScope → Type 0
  Before c d = AreBefore q c0 d0 c d

  -- its names are kept ones, also in a text without aborts
  abbrev pub IsKept : PDecl → Type 0
  IsKept x = EveryDecl (kept_names q) x × EveryDecl (names.kept_names q) x

  abbrev IsSame : PDecl → Type 0
  IsSame x = IsSameDecl c0.types d0.types x

  -- what is met there, and what is known behind
  pub record HasAlong (c d : CheckScope) (xs ys : List PDecl) : Type 0 where
    pub met : AllAlong (IsTextMet q) bodies' d ys
    pub behind : Before (after_all c xs) (after_all d ys)

  then-along : (x y : PDecl) (c d : CheckScope) (xs ys : List PDecl) → AllByRecursion (IsTextMet q) (check.decl_sites d bodies' y) →
      HasAlong (check.after_decl c x) (check.after_decl d y) xs ys → HasAlong c d (x ∷ xs) (y ∷ ys)
  then-along x y c d xs ys m h = record { met = (m, h.met); behind = h.behind }

  decl-met : (x : PDecl) (c d : CheckScope) → IsPlain x → IsKept x → IsSame x → Before c d → AllByRecursion (IsFormMet q) (check.decl_sites c bodies x) →
      AllByRecursion (IsTextMet q) (check.decl_sites d bodies' x)
  decl-met x c d p e t h m =
      longer q (check.decl_sites d bodies' x) (plain-decl (stay-out q c d (uses-there q c0 d0 own own' c d h)) bodies bodies' x p e.1 (same-there q c0 d0 x c d h t) m)

  plain-along : (xs : List PDecl) (c d : CheckScope) → AllByRecursion IsPlain xs → AllByRecursion IsKept xs → AllByRecursion IsSingle xs →
      AllByRecursion IsOtherThanTruths xs → AllByRecursion IsSame xs → Before c d → AllAlong (IsFormMet q) bodies c xs → HasAlong c d xs xs
  plain-along [] c d p e s o t h m = record { met = tt; behind = h }
  plain-along (x ∷ xs) c d p e s o t h m =
      then-along x x c d xs xs (decl-met x c d p.0 e.0 t.0 h m.0)
      (plain-along xs (check.after_decl c x) (check.after_decl d x) p.1 e.1 s.1 o.1 t.1 (plain-before q c0 d0 x c d p.0 e.0.0 s.0 o.0 t.0 h) m.1)

  -- main's further declarations
  true-there : (c d : CheckScope) → Before c d → IsTrueThere d
  true-there c d h s = ap (λ o. in_body_of o (shared_name (meaning d (record { 0 = false_name })) s)) (h.right.own ∙ own')

  fine-along : (zs : List PDecl) → AllByRecursion (IsFine q) zs → (c d : CheckScope) → Before c d → (xs ys : List PDecl) →
      ((e : CheckScope) → Before c e → HasAlong c e xs ys) → HasAlong c d xs (zs ++ ys)
  fine-along [] f c d h xs ys next = next d h
  fine-along (z ∷ zs) f c d h xs ys next =
      let rest = fine-along zs f.1 c (check.after_decl d z) (object-before q c0 d0 z c d f.0.new h) xs ys next in
      record { met = (fine-decl q z f.0.new d bodies' (f.0.met d (true-there c d h)), rest.met); behind = rest.behind }

  module _ (at : Span) (last k : ℕ) (few : last ≤ 200) (le : k ≤ most_places q) where
    abbrev pub more : Bool → List PDecl
    more instance = main_declared (added_in (collect_names q)) at instance last ++ places_declared (main_told g) at k

    flags-along : (c d : CheckScope) → Before c d → (xs ys : List PDecl) → ((e : CheckScope) → Before c e → HasAlong c e xs ys) →
        HasAlong c d xs (more true ++ ys)
    flags-along c d h xs ys next =
        let rest = fine-along (mine g at k) (mine-fine g at k le) c d h xs ys next in
        let flags = longer q (check.decl_sites d bodies' (flags_type (added_in (collect_names q)) at last)) (flags-met q d at bodies' last few) in
        record { met = (flags, rest.met); behind = rest.behind }

    main-along : (instance : Bool) (c d : CheckScope) → Before c d → (xs ys : List PDecl) → ((e : CheckScope) → Before c e → HasAlong c e xs ys) →
        HasAlong c d xs (more instance ++ ys)
    main-along true c d h xs ys next = flags-along c d h xs ys next
    main-along false c d h xs ys next =
        let rest = flags-along c d h xs ys next in
        let instance = longer q (check.site d (declares (word_at at (names.added_id q int_io_text))) ∷ []) (int-io-met q d at) in
        record { met = (instance, rest.met); behind = rest.behind }

    pub front-along : (instance : Bool) (xs : List PDecl) (c d : CheckScope) → AllByRecursion IsPlain xs → AllByRecursion IsKept xs →
        AllByRecursion IsSingle xs → AllByRecursion IsOtherThanTruths xs → AllByRecursion IsSame xs → Before c d → AllAlong (IsFormMet q) bodies c xs →
        HasAlong c d xs (behind_own q.names (more instance) xs)
    front-along instance [] c d p e s o t h m =
        subst (HasAlong c d []) (append-nil (more instance)) (main-along instance c d h [] [] (λ e i. record { met = tt; behind = i }))
    front-along instance (x ∷ xs) c d p e s o t h m =
        go (is_added_object q.names x)
        (front-along instance xs (check.after_decl c x) (check.after_decl d x) p.1 e.1 s.1 o.1 t.1
        (plain-before q c0 d0 x c d p.0 e.0.0 s.0 o.0 t.0 h) m.1)
        (main-along instance c d h (x ∷ xs) (x ∷ xs) (λ f i. plain-along (x ∷ xs) c f p e s o t i m))
      where
        go : (t : Bool) → HasAlong (check.after_decl c x) (check.after_decl d x) xs (behind_own q.names (more instance) xs) →
            HasAlong c d (x ∷ xs) (more instance ++ x ∷ xs) →
            HasAlong c d (x ∷ xs) (if t then more instance ++ x ∷ xs else x ∷ behind_own q.names (more instance) xs)
        go true later all = all
        go false later all = then-along x x c d xs (behind_own q.names (more instance) xs) (decl-met x c d p.0 e.0 t.0 h m.0) later

  -- ---- tasks

  module _ (there : (k : ℕ) → list_any (λ n. n == k) bodies ≡ true → list_any (λ n. n == k) bodies' ≡ true) where
    abbrev IsFew : PTask → Type 0
    IsFew t = AllByRecursion HasFewFormals t.entries

    pub tasks-along : (xs : List PDecl) (c d : CheckScope) → AllByRecursion IsOneTask xs → AllByRecursion IsKept xs → AllByRecursion IsSame xs →
        AllByRecursion (OnTask IsFew) xs → Before c d → AllAlong (IsFormMet q) bodies c xs →
        HasAlong c d xs (map (abort_decl (main_told g) q.names) xs)
    tasks-along [] c d p e t few h m = record { met = tt; behind = h }
    tasks-along (DTask x s ∷ xs) c d p e t few h m =
        then-along (DTask x s) (DTask (task_telling (added_in (collect_names q)) x) s) c d xs (map (abort_decl (main_told g) q.names) xs)
        (longer q (check.decl_sites d bodies' (DTask (task_telling (added_in (collect_names q)) x) s))
        (task-met q c d (uses-there q c0 d0 own own' c d h) bodies bodies' x s (there x.name.name.0) e.0.1
        (same-there q c0 d0 (DTask x s) c d h t.0) few.0 m.0))
        (tasks-along xs (check.after_decl c (DTask x s)) (check.after_decl d (DTask (task_telling (added_in (collect_names q)) x) s)) p.1 e.1 t.1 few.1
        (task-before q c0 d0 x s c d p.0 h) m.1)
    tasks-along (DTaskBody w objects its s ∷ xs) c d p e t few h m = absurd p.0
    tasks-along (DNumber w x s ∷ xs) c d p e t few h m = absurd p.0
    tasks-along (DObject ws k x i s ∷ xs) c d p e t few h m = absurd p.0
    tasks-along (DEnumeration w ws s ∷ xs) c d p e t few h m = absurd p.0
    tasks-along (DArray w r x s ∷ xs) c d p e t few h m = absurd p.0
    tasks-along (DSubtype w x s ∷ xs) c d p e t few h m = absurd p.0
    tasks-along (DException ws s ∷ xs) c d p e t few h m = absurd p.0
    tasks-along (DIntIo w s ∷ xs) c d p e t few h m = absurd p.0
    tasks-along (DPragma x s ∷ xs) c d p e t few h m = absurd p.0

-- ---- bodies

module _ (g : Setting) where
  abbrev p : PProgram
  p = g.program

  abbrev M : CheckSite → Type 0
  M = IsFormMet p

  abbrev M' : CheckSite → Type 0
  M' = IsTextMet p

  -- what is asked of the statements of a unit
  asked : (c : CheckScope) (its : PBody) → EveryBody (kept_names p) 1 its → AskedBody form_asks tt 1 its → AllByRecursion M (check.body_sites c 1 its) →
      AskedBody (b g 0 0) (tt, (c, tt)) 1 its
  asked c its every form m =
      both_asked (place_asks (kept_names p)) (both (check_asks M) form_asks) tt (c, tt) 1 its (placed_asked (kept_names p) 1 its every)
      (both_asked (check_asks M) form_asks c tt 1 its (checked_asked M c 1 its m) form)

  -- the statements of a task, and of main
  unit-met : (task : ℕ) (c d : CheckScope) (s : Span) (its : PBody) → IsStaying p (y g task (places_in its)) (places_in its) c d →
      EveryBody (kept_names p) 1 its → AskedBody form_asks tt 1 its → AllByRecursion M (check.body_sites c 1 its) →
      AllByRecursion M' (check.body_sites d 1 (task_body (told_at (main_told g) task) s its))
  unit-met task c d s its rel every form m =
      let k : ℕ = places_in its in
      asked_checked M' d 1 (task_body (told_at (main_told g) task) s its)
      (task-keeps (y g task k) k (H g task k) (b g task k) (a g task k) (R g task k) (S g task k) (pieces g task k) (tt, (c, tt)) d 1 s its rel (omega arith)
      (omega arith) (omega arith) (asked c its every form m))

  pub main-met : (c d : CheckScope) (its : PBody) → IsStaying p (y g 0 (places_in its)) (places_in its) c d → EveryBody (kept_names p) 1 its →
      AskedBody form_asks tt 1 its → AllByRecursion M (check.body_sites c 1 its) →
      AllByRecursion M' (check.body_sites d 1 (main_body (main_told g) its))
  main-met c d its rel every form m =
      let k : ℕ = places_in its in
      asked_checked M' d 1 (main_body (main_told g) its)
      (main-keeps (y g 0 k) k (H g 0 k) (b g 0 k) (a g 0 k) (R g 0 k) (S g 0 k) (pieces g 0 k) (tt, (c, tt)) d 1 its rel (omega arith) (omega arith)
      (asked c its every form m))

  -- ---- the objects of a body

  record AreInside (c0 d0 c d : CheckScope) : Type 0 where
    alike : AreAlike (kept_name p) c d
    left : IsFrameOf c0 c
    right : IsFrameOf d0 d
    owned : (spans : List Span) → in_body_of d.own spans ≡ in_body_of c.own spans
    truth : IsTrueThere d

  inside-use : (c0 d0 c d : CheckScope) → AreInside c0 d0 c d → UsesStay p c d
  inside-use c0 d0 c d h id s kept m = ap (λ o. in_body_of d.own (shared_name o s)) (h.alike id kept) ∙ h.owned (shared_name (meaning c id) s) ∙ m

  object-met : (x : PDecl) (c0 d0 c d : CheckScope) → EveryDecl (kept_names p) x → IsSameObject c0.types d0.types x → AreInside c0 d0 c d →
      AllByRecursion M (check.own_object_sites c x) → AllByRecursion M' (check.own_object_sites d x)
  object-met (DObject ws constant x i s) c0 d0 c d e t h m =
      object-stays (abort-out p c d (inside-use c0 d0 c d h)) ws constant x i s
      (subst (λ T. IsSameObject T d.types (DObject ws constant x i s)) (sym h.left.types)
      (subst (λ U. IsSameObject c0.types U (DObject ws constant x i s)) (sym h.right.types) t)) e m
  object-met (DTask x s) c0 d0 c d e t h m = tt
  object-met (DTaskBody w objects its s) c0 d0 c d e t h m = tt
  object-met (DNumber w x s) c0 d0 c d e t h m = tt
  object-met (DEnumeration w ws s) c0 d0 c d e t h m = tt
  object-met (DArray w r x s) c0 d0 c d e t h m = tt
  object-met (DSubtype w x s) c0 d0 c d e t h m = tt
  object-met (DException ws s) c0 d0 c d e t h m = tt
  object-met (DIntIo w s) c0 d0 c d e t h m = tt
  object-met (DPragma x s) c0 d0 c d e t h m = tt

  object-inside : (x : PDecl) (c0 d0 c d : CheckScope) → AreInside c0 d0 c d → AreInside c0 d0 (check.after_own_object c x) (check.after_own_object d x)
  object-inside x c0 d0 c d h =
      let e : IsFrameOf c (check.after_own_object c x) = frame-object x c in
      let f : IsFrameOf d (check.after_own_object d x) = frame-object x d in
      record {
        alike = object-alike p x c d h.alike;
        left = frame-trans c0 c (check.after_own_object c x) h.left e;
        right = frame-trans d0 d (check.after_own_object d x) h.right f;
        owned = λ spans. ap (λ o. in_body_of o spans) f.own ∙ h.owned spans ∙ sym (ap (λ o. in_body_of o spans) e.own);
        truth = λ s. use-object x d (record { 0 = false_name }) s (h.truth s);
      }

  -- behind a further object, whose names are new
  new-inside : (z : PDecl) (c0 d0 c d : CheckScope) → IsFine p z → AreInside c0 d0 c d → AreInside c0 d0 c (check.after_own_object d z)
  new-inside z c0 d0 c d fine h =
      let f : IsFrameOf d (check.after_own_object d z) = frame-object z d in
      record {
        alike = new-object-alike p z c d fine.new h.alike;
        left = h.left;
        right = frame-trans d0 d (check.after_own_object d z) h.right f;
        owned = λ spans. ap (λ o. in_body_of o spans) f.own ∙ h.owned spans;
        truth = λ s. use-object z d (record { 0 = false_name }) s (h.truth s);
      }

  -- further objects, in front of others
  fine-met : (zs : List PDecl) → AllByRecursion (IsFine p) zs → (ys : List PDecl) (c0 d0 c d : CheckScope) → AreInside c0 d0 c d →
      ((e : CheckScope) → AreInside c0 d0 c e → AllByRecursion M' (check.own_sites e (decls_of ys))) →
      AllByRecursion M' (check.own_sites d (decls_of (zs ++ ys)))
  fine-met [] f ys c0 d0 c d h next = next d h
  fine-met (z ∷ zs) f ys c0 d0 c d h next =
      all_joined M' (check.own_object_sites d z) (check.own_sites (check.after_own_object d z) (decls_of (zs ++ ys))) (f.0.met d h.truth)
      (fine-met zs f.1 ys c0 d0 c (check.after_own_object d z) (new-inside z c0 d0 c d f.0 h) next)

  objects-met : (ds : PDecls) (c0 d0 c d : CheckScope) → EveryDecls (kept_names p) ds → AllByRecursion (IsSameObject c0.types d0.types) (decl_list ds) →
      AreInside c0 d0 c d → AllByRecursion M (check.own_sites c ds) → AllByRecursion M' (check.own_sites d (decls_of (decl_list ds)))
  objects-met no_decl c0 d0 c d e t h m = tt
  objects-met (decl_then x ds) c0 d0 c d e t h m =
      all_joined M' (check.own_object_sites d x) (check.own_sites (check.after_own_object d x) (decls_of (decl_list ds)))
      (object-met x c0 d0 c d e.0 t.0 h (all_front M (check.own_object_sites c x) (check.own_sites (check.after_own_object c x) ds) m))
      (objects-met ds c0 d0 (check.after_own_object c x) (check.after_own_object d x) e.1 t.1 (object-inside x c0 d0 c d h)
      (all_back M (check.own_object_sites c x) (check.own_sites (check.after_own_object c x) ds) m))

  module _ (zs : List PDecl) (fine : AllByRecursion (IsFine p) zs) where
    behind-met : (ds : PDecls) (c0 d0 c d : CheckScope) → EveryDecls (kept_names p) ds → AllByRecursion (IsSameObject c0.types d0.types) (decl_list ds) →
        AreInside c0 d0 c d → AllByRecursion M (check.own_sites c ds) →
        AllByRecursion M' (check.own_sites d (decls_of (behind_own p.names zs (decl_list ds))))
    behind-met no_decl c0 d0 c d e t h m =
        subst (λ l. AllByRecursion M' (check.own_sites d (decls_of l))) (append-nil zs) (fine-met zs fine [] c0 d0 c d h (λ f i. tt))
    behind-met (decl_then x ds) c0 d0 c d e t h m =
        go (is_added_object p.names x)
        (behind-met ds c0 d0 (check.after_own_object c x) (check.after_own_object d x) e.1 t.1 (object-inside x c0 d0 c d h)
        (all_back M (check.own_object_sites c x) (check.own_sites (check.after_own_object c x) ds) m))
        (fine-met zs fine (x ∷ decl_list ds) c0 d0 c d h (λ f i. objects-met (decl_then x ds) c0 d0 c f e t i m))
      where
        go : (t : Bool) → AllByRecursion M' (check.own_sites (check.after_own_object d x) (decls_of (behind_own p.names zs (decl_list ds)))) →
            AllByRecursion M' (check.own_sites d (decls_of (zs ++ x ∷ decl_list ds))) →
            AllByRecursion M' (check.own_sites d (decls_of (if t then zs ++ x ∷ decl_list ds else x ∷ behind_own p.names zs (decl_list ds))))
        go true later all = all
        go false later all =
            all_joined M' (check.own_object_sites d x) (check.own_sites (check.after_own_object d x) (decls_of (behind_own p.names zs (decl_list ds))))
            (object-met x c0 d0 c d e.0 t.0 h (all_front M (check.own_object_sites c x) (check.own_sites (check.after_own_object c x) ds) m)) later

  -- ---- the body of a task

  body-met : (bodies bodies' : List ℕ) (w : Word) (objects : PDecls) (its : PBody) (s : Span) (c d : CheckScope) →
      EveryDecl (kept_names p) (DTaskBody w objects its s) → IsSameDecl c.types d.types (DTaskBody w objects its s) → HasForm (DTaskBody w objects its s) →
      places_in its ≤ most_places p → AreBehindTasks p c d →
      AllByRecursion M (check.decl_sites c bodies (DTaskBody w objects its s)) → AllByRecursion M'
      (check.decl_sites d bodies' (abort_decl (main_told g) p.names (DTaskBody w objects its s)))
  body-met bodies bodies' w objects its s c d e t form few rel m =
      let k : ℕ = places_in its in
      let task : ℕ = task_of g.numbers w.name in
      let xs : PDecls = decls_of (behind_own p.names (mine g w.span k) (decl_list objects)) in
      let ci : CheckScope = check.in_body c w in
      let di : CheckScope = check.in_body d w in
      let there : IsTrueThere di = λ v. rel.truth false_name refl (Some (check.own_unit d w)) v in
      let start : AreInside ci di ci di = record { alike = rel.alike; left = frame-refl ci; right = frame-refl di; owned = λ spans. refl; truth = there } in
      all_joined M' (check.own_sites di xs) (check.body_sites (check.after_own di xs) 1 (task_body (told_at (main_told g) task) w.span its))
      (behind-met (mine g w.span k) (mine-fine g w.span k few) objects ci di ci di e.3 t start
      (all_front M (check.own_sites ci objects) (check.body_sites (check.after_own ci objects) 1 its) m))
      (unit-met task (check.after_own ci objects) (check.after_own di xs) w.span its (body-around g task k few c d w w.span objects e.1 rel) e.4 form
      (all_back M (check.own_sites ci objects) (check.body_sites (check.after_own ci objects) 1 its) m))

  pub bodies-along : (bodies bodies' : List ℕ) (xs : List PDecl) (c d : CheckScope) → AllByRecursion IsOneBody xs →
      AllByRecursion (EveryDecl (kept_names p)) xs → AllByRecursion (IsSameDecl c.types d.types) xs → AllByRecursion HasForm xs →
      AllByRecursion (λ x. places_of x ≤ most_places p) xs → AreBehindTasks p c d → AllAlong M bodies c xs → AllAlong M' bodies' d
      (map (abort_decl (main_told g) p.names) xs)
  bodies-along bodies bodies' [] c d o e t form few rel m = tt
  bodies-along bodies bodies' (DTaskBody w objects its s ∷ xs) c d o e t form few rel m =
      (body-met bodies bodies' w objects its s c d e.0 t.0 form.0 few.0 rel m.0, bodies-along bodies bodies' xs c d o.1 e.1 t.1 form.1 few.1 rel m.1)
  bodies-along bodies bodies' (DTask z s ∷ xs) c d o e t form few rel m = absurd o.0
  bodies-along bodies bodies' (DNumber w z s ∷ xs) c d o e t form few rel m = absurd o.0
  bodies-along bodies bodies' (DObject ws k z i s ∷ xs) c d o e t form few rel m = absurd o.0
  bodies-along bodies bodies' (DEnumeration w ws s ∷ xs) c d o e t form few rel m = absurd o.0
  bodies-along bodies bodies' (DArray w r z s ∷ xs) c d o e t form few rel m = absurd o.0
  bodies-along bodies bodies' (DSubtype w z s ∷ xs) c d o e t form few rel m = absurd o.0
  bodies-along bodies bodies' (DException ws s ∷ xs) c d o e t form few rel m = absurd o.0
  bodies-along bodies bodies' (DIntIo w s ∷ xs) c d o e t form few rel m = absurd o.0
  bodies-along bodies bodies' (DPragma z s ∷ xs) c d o e t form few rel m = absurd o.0

-- The places of the declarations of a collecting text, by those of the normal form.
use Rattle.std.proofs.Common.{◌≡◌, ℕ, ◌+◌, ◌≤◌, ◌==◌, pos, ◌+ℤ◌, ◌-ℤ◌, Bool, true, false, if◌then◌else◌, List, [], ◌∷◌, ◌++◌, map, Some, None, refl, sym, ap, subst, ◌∙◌, append-nil, arith}
use Rattle.std.specs.List.{AllByRecursion, list_any}
use Rattle.common_lemmas.proofs.Lists.{all_front, all_back, all_joined}
use Rattle.common_lemmas.proofs.Numbers.{int_more_zero}
use Rattle.ada_tree.specs.declared.naming.Span.{Span}
use Rattle.ada_tree.specs.declared.naming.Word.{Word}
use Rattle.ada_tree.specs.Attributes.{false_name}
use Rattle.ada_tree.specs.PlainExpr.{EInteger, RGiven}
use Rattle.ada_tree.specs.PlainStmt.{PBody}
use Rattle.ada_tree.specs.PlainDecl.{PTask, PDecl, DNumber, DObject, DEnumeration, DArray, DSubtype, DException, DIntIo, DPragma, DTask, DTaskBody, PDecls, no_decl, decl_then, decls_of}
use Rattle.ada_tree.specs.PlainProgram.{PProgram}
use Rattle.ada_tree.specs.Every.{EveryDecl, EveryDecls, EveryBody}
use Rattle.syn_event.specs.declared.limits.What.TheVariants.{Components}
use Rattle.syn_event.specs.declared.meanings.Meant.TheVariants.{Inner}
use Rattle.syn_event.specs.CheckScope.{CheckScope, CheckSite, meaning, declares, uses}
use Rattle.syn_event.specs.CheckSites as check
use Rattle.syn_event.specs.Extents.{size, count_to}
use Rattle.syn_event.specs.RuleSharedVariable.{shared_name, in_body_of, shared_variable}
use Rattle.syn_event.specs.DeclaredTasks.{decl_list}
use Rattle.task_model.specs.Setting.{Setting}
use Rattle.task_laws.specs.legal.asked.Asked.{AskedBody}
use Rattle.task_laws.specs.legal.asked.Kinds.{place_asks, check_asks, both}
use Rattle.task_laws.proofs.legal.asked.Placed.{placed_asked}
use Rattle.task_laws.proofs.legal.asked.Checked.{checked_asked, asked_checked}
use Rattle.task_laws.proofs.legal.asked.Together.{both_asked}
use Rattle.normal_laws.proofs.structure.numbers.Listed.{IsPlain, IsOneTask, IsOneBody}
use Rattle.normal_laws.specs.structure.numbers.Single.{IsSingle}
use Rattle.normal_laws.proofs.structure.checked.Places.{met-deep, met-use, passed-not}
use Rattle.normal_laws.proofs.structure.checked.MainScopes.{IsFrameOf, frame-refl, frame-trans}
use Rattle.replay_model.specs.ReplayTree.{is_added_object}
use Rattle.replay_structure.specs.checked.Around.{form_asks}
use Rattle.replay_structure.specs.checked.Checkable.{HasForm, IsSameObject, IsSameDecl}
use Rattle.replay_structure.proofs.checked.Lists.{after_all, AllAlong}
use Rattle.replay_structure.proofs.checked.Along.{OnTask}
use Rattle.collect_model.specs.Names.{int_io_text, flags_text, answer_text, part_text, collect_names}
use Rattle.collect_model.specs.Teller.{Teller, task_of, teller_at, teller_in}
use Rattle.collect_model.specs.CollectStmts.{main_body, task_body}
use Rattle.collect_model.specs.CollectTree.{answer_declared, part_declared, unit_declared, flags_type, main_declared, behind_own, task_telling, collect_decl}
use Rattle.normal_model.specs.NormalTree.{main_unit}
use Rattle.normal_model.specs.Ranges.{word_at}
use Rattle.collect_structure.specs.Names.{added_id, kept_names, kept_name}
use Rattle.collect_structure.specs.checked.Around.{IsTelling}
use Rattle.collect_structure.specs.checked.Checkable.{IsOtherThanTruths, HasFewFormals}
use Rattle.collect_structure.proofs.asked.Walk.{main-keeps, task-keeps}
use Rattle.collect_structure.proofs.checked.Stays.{IsTextMet, UsesStay, stay-out}
use Rattle.collect_structure.proofs.checked.Asked.{H, R, a, b, pieces}
use Rattle.collect_structure.proofs.checked.Alike.{AreAlike, new-alike}
use Rattle.replay_structure.proofs.checked.Plain.{object-stays, plain-decl}
use Rattle.collect_structure.proofs.checked.Tasks.{added-declared, task-met}
use Rattle.collect_structure.proofs.checked.Bodies.{object-alike, answer_words, part_words, answer-new, part-new, AreBehindTasks, body-around}
use Rattle.collect_structure.proofs.checked.Before.{n, AreBefore, same-there, plain-before, answer-before, part-before, task-before, uses-there}
use Rattle.replay_structure.proofs.checked.Stays.{IsFormMet}
use Rattle.replay_structure.proofs.checked.Bodies.{frame-object, use-object}

-- ---- what units declare more

module _ (q : PProgram) (d : CheckScope) (s : Span) where
  abbrev Met : List CheckSite → Type 0
  Met xs = AllByRecursion (IsTextMet q) xs

  -- where FALSE is no shared variable
  pub answer-met : shared_variable d (uses (record { 0 = false_name }) s) ≡ [] → Met (check.own_object_sites d (answer_declared (n q) s))
  answer-met e = (added-declared q d answer_text s refl (omega arith), (met-deep (collect_names q) d 2 s (omega arith), (met-use (collect_names q) d (record { 0 = false_name }) s e, tt)))

  pub part-met : Met (check.own_object_sites d (part_declared (n q) s))
  part-met = (added-declared q d part_text s refl (omega arith), (met-deep (collect_names q) d 2 s (omega arith), tt))

  -- ---- what main declares more

  range-size : (last : ℕ) → count_to ((pos last -ℤ pos 0) +ℤ pos 1) ≡ last + 1
  range-size last = ap (λ z. count_to (z +ℤ pos 1)) (int_more_zero (pos last))

  pub flags-met : (bodies : List ℕ) (last : ℕ) → last ≤ 200 → Met (check.decl_sites d bodies (flags_type (n q) s last))
  flags-met bodies last le =
      let few : size d.types (RGiven (record { first = EInteger 0 s; last = EInteger last s })) ≤ 1000 = let e : size d.types (RGiven (record { first = EInteger 0 s; last = EInteger last s })) ≡ last + 1 = range-size last in omega (arith, e, le) in (
        added-declared q d flags_text s refl (omega arith),
        (
          record {
            shared = refl;
            accepts = refl;
            selects = refl;
            twice = refl;
            reserved = refl;
            main = refl;
            order = refl;
            bodies = refl;
            exits = refl;
            raises = refl;
            limits = passed-not Components 1000000 0 (size d.types (RGiven (record { first = EInteger 0 s; last = EInteger last s }))) s (omega (arith, few));
          },
          (met-deep (collect_names q) d 2 s (omega arith), (met-deep (collect_names q) d 2 s (omega arith), tt)),
        ),
      )

  pub int-io-met : Met (check.site d (declares (word_at s (added_id q int_io_text))) ∷ [])
  int-io-met = (added-declared q d int_io_text s refl (omega arith), tt)

-- ---- declarations in front of the bodies

module _ (g : Setting) (c0 d0 : CheckScope) (own : c0.own ≡ None) (own' : d0.own ≡ None) (bodies bodies' : List ℕ) where
  abbrev q : PProgram
  q = g.program

  abbrev Before : CheckScope → CheckScope → Type 0
  Before c d = AreBefore q c0 d0 c d

  abbrev IsKept : PDecl → Type 0
  IsKept x = EveryDecl (kept_names q) x

  abbrev IsSame : PDecl → Type 0
  IsSame x = IsSameDecl c0.types d0.types x

  -- what is met there, and what is known behind
  pub record HasAlong (c d : CheckScope) (xs ys : List PDecl) : Type 0 where
    pub met : AllAlong (IsTextMet q) bodies' d ys
    pub behind : Before (after_all c xs) (after_all d ys)

  then-along : (x y : PDecl) (c d : CheckScope) (xs ys : List PDecl) → AllByRecursion (IsTextMet q) (check.decl_sites d bodies' y) → HasAlong (check.after_decl c x) (check.after_decl d y) xs ys → HasAlong c d (x ∷ xs) (y ∷ ys)
  then-along x y c d xs ys m h = record { met = (m, h.met); behind = h.behind }

  decl-met : (x : PDecl) (c d : CheckScope) → IsPlain x → IsKept x → IsSame x → Before c d → AllByRecursion (IsFormMet q) (check.decl_sites c bodies x) → AllByRecursion (IsTextMet q) (check.decl_sites d bodies' x)
  decl-met x c d p e t h m = plain-decl (stay-out q c d (uses-there q c0 d0 own own' c d h)) bodies bodies' x p e (same-there q c0 d0 x c d h t) m

  pub plain-along : (xs : List PDecl) (c d : CheckScope) → AllByRecursion IsPlain xs → AllByRecursion IsKept xs → AllByRecursion IsSingle xs → AllByRecursion IsOtherThanTruths xs → AllByRecursion IsSame xs → Before c d → AllAlong (IsFormMet q) bodies c xs → HasAlong c d xs xs
  plain-along [] c d p e s o t h m = record { met = tt; behind = h }
  plain-along (x ∷ xs) c d p e s o t h m =
      then-along x x c d xs xs (decl-met x c d p.0 e.0 t.0 h m.0) (plain-along xs (check.after_decl c x) (check.after_decl d x) p.1 e.1 s.1 o.1 t.1 (plain-before q c0 d0 x c d p.0 e.0 s.0 o.0 t.0 h) m.1)

  -- main's further declarations
  module _ (at : Span) (last : ℕ) (few : last ≤ 200) where
    unshared : (c d : CheckScope) → Before c d → shared_variable d (uses (record { 0 = false_name }) at) ≡ []
    unshared c d h = ap (λ o. in_body_of o (shared_name (meaning d (record { 0 = false_name })) at)) (h.right.own ∙ own')

    two-along : (c d : CheckScope) → Before c d → (xs ys : List PDecl) → ((e : CheckScope) → Before c e → HasAlong c e xs ys) → HasAlong c d xs (unit_declared (n q) at ++ ys)
    two-along c d h xs ys next =
        let d1 : CheckScope = check.after_decl d (answer_declared (n q) at) in
        let h1 : Before c d1 = answer-before q c0 d0 at c d h in
        let d2 : CheckScope = check.after_decl d1 (part_declared (n q) at) in
        let h2 : Before c d2 = part-before q c0 d0 at c d1 h1 in
        let rest : HasAlong c d2 xs ys = next d2 h2 in
        record { met = (answer-met q d at (unshared c d h), (part-met q d1 at, rest.met)); behind = rest.behind }

    flags-along : (c d : CheckScope) → Before c d → (xs ys : List PDecl) → ((e : CheckScope) → Before c e → HasAlong c e xs ys) → HasAlong c d xs (flags_type (n q) at last ∷ unit_declared (n q) at ++ ys)
    flags-along c d h xs ys next = let rest = two-along c d h xs ys next in record { met = (flags-met q d at bodies' last few, rest.met); behind = rest.behind }

    main-along : (instance : Bool) (c d : CheckScope) → Before c d → (xs ys : List PDecl) → ((e : CheckScope) → Before c e → HasAlong c e xs ys) → HasAlong c d xs (main_declared (n q) at instance last ++ ys)
    main-along true c d h xs ys next = flags-along c d h xs ys next
    main-along false c d h xs ys next = let rest = flags-along c d h xs ys next in record { met = (int-io-met q d at, rest.met); behind = rest.behind }

    pub front-along : (instance : Bool) (xs : List PDecl) (c d : CheckScope) → AllByRecursion IsPlain xs → AllByRecursion IsKept xs → AllByRecursion IsSingle xs → AllByRecursion IsOtherThanTruths xs → AllByRecursion IsSame xs → Before c d → AllAlong (IsFormMet q) bodies c xs →
        HasAlong c d xs (behind_own q.names (main_declared (n q) at instance last) xs)
    front-along instance [] c d p e s o t h m = subst (HasAlong c d []) (append-nil (main_declared (n q) at instance last)) (main-along instance c d h [] [] (λ e i. record { met = tt; behind = i }))
    front-along instance (x ∷ xs) c d p e s o t h m =
        go (is_added_object q.names x) (front-along instance xs (check.after_decl c x) (check.after_decl d x) p.1 e.1 s.1 o.1 t.1 (plain-before q c0 d0 x c d p.0 e.0 s.0 o.0 t.0 h) m.1)
        (main-along instance c d h (x ∷ xs) (x ∷ xs) (λ f i. plain-along (x ∷ xs) c f p e s o t i m))
      where
        go : (t : Bool) → HasAlong (check.after_decl c x) (check.after_decl d x) xs (behind_own q.names (main_declared (n q) at instance last) xs) → HasAlong c d (x ∷ xs) (main_declared (n q) at instance last ++ x ∷ xs) →
            HasAlong c d (x ∷ xs) (if t then main_declared (n q) at instance last ++ x ∷ xs else x ∷ behind_own q.names (main_declared (n q) at instance last) xs)
        go true later all = all
        go false later all = then-along x x c d xs (behind_own q.names (main_declared (n q) at instance last) xs) (decl-met x c d p.0 e.0 t.0 h m.0) later

  -- ---- tasks

  module _ (there : (k : ℕ) → list_any (λ n. n == k) bodies ≡ true → list_any (λ n. n == k) bodies' ≡ true) where
    abbrev IsFew : PTask → Type 0
    IsFew t = AllByRecursion HasFewFormals t.entries

    pub tasks-along : (x : Teller) → x.added ≡ n q → (xs : List PDecl) (c d : CheckScope) → AllByRecursion IsOneTask xs → AllByRecursion IsKept xs → AllByRecursion IsSame xs → AllByRecursion (OnTask IsFew) xs → Before c d → AllAlong (IsFormMet q) bodies c xs →
        HasAlong c d xs (map (collect_decl x q.names) xs)
    tasks-along y f [] c d p e t few h m = record { met = tt; behind = h }
    tasks-along y f (DTask x s ∷ xs) c d p e t few h m =
        subst (λ a. HasAlong c d (DTask x s ∷ xs) (DTask (task_telling a x) s ∷ map (collect_decl y q.names) xs)) (sym f)
        (then-along (DTask x s) (DTask (task_telling (n q) x) s) c d xs (map (collect_decl y q.names) xs)
        (task-met q c d (uses-there q c0 d0 own own' c d h) bodies bodies' x s (there x.name.name.0) e.0 (same-there q c0 d0 (DTask x s) c d h t.0) few.0 m.0)
        (tasks-along y f xs (check.after_decl c (DTask x s)) (check.after_decl d (DTask (task_telling (n q) x) s)) p.1 e.1 t.1 few.1 (task-before q c0 d0 x s c d p.0 h) m.1))
    tasks-along y f (DTaskBody w objects its s ∷ xs) c d p e t few h m = absurd p.0
    tasks-along y f (DNumber w x s ∷ xs) c d p e t few h m = absurd p.0
    tasks-along y f (DObject ws k x i s ∷ xs) c d p e t few h m = absurd p.0
    tasks-along y f (DEnumeration w ws s ∷ xs) c d p e t few h m = absurd p.0
    tasks-along y f (DArray w r x s ∷ xs) c d p e t few h m = absurd p.0
    tasks-along y f (DSubtype w x s ∷ xs) c d p e t few h m = absurd p.0
    tasks-along y f (DException ws s ∷ xs) c d p e t few h m = absurd p.0
    tasks-along y f (DIntIo w s ∷ xs) c d p e t few h m = absurd p.0
    tasks-along y f (DPragma x s ∷ xs) c d p e t few h m = absurd p.0

-- ---- bodies

module _ (g : Setting) where
  abbrev p : PProgram
  p = g.program

  abbrev M : CheckSite → Type 0
  M = IsFormMet p

  abbrev M' : CheckSite → Type 0
  M' = IsTextMet p

  abbrev x : Teller
  x = teller_in (main_unit g)

  -- what is asked of the statements of a unit
  asked : (c : CheckScope) (its : PBody) → EveryBody (kept_names p) 1 its → AskedBody form_asks tt 1 its → AllByRecursion M (check.body_sites c 1 its) → AskedBody (b g 0) (tt, (c, tt)) 1 its
  asked c its every form m =
      both_asked (place_asks (kept_names p)) (both (check_asks M) form_asks) tt (c, tt) 1 its (placed_asked (kept_names p) 1 its every)
      (both_asked (check_asks M) form_asks c tt 1 its (checked_asked M c 1 its m) form)

  -- the statements of a task, and of main
  unit-met : (task : ℕ) (c d : CheckScope) (s : Span) (its : PBody) → IsTelling p c d → EveryBody (kept_names p) 1 its → AskedBody form_asks tt 1 its → AllByRecursion M (check.body_sites c 1 its) → AllByRecursion M' (check.body_sites d 1 (task_body (teller_at x task) s its))
  unit-met task c d s its rel every form m =
      asked_checked M' d 1 (task_body (teller_at x task) s its) (task-keeps (teller_at x task) (H g task) (b g task) (a g task) (R g task) (pieces g task) (tt, (c, tt)) d 1 s its rel (omega arith) (omega arith) (asked c its every form m))

  pub main-met : (c d : CheckScope) (its : PBody) → IsTelling p c d → EveryBody (kept_names p) 1 its → AskedBody form_asks tt 1 its → AllByRecursion M (check.body_sites c 1 its) → AllByRecursion M' (check.body_sites d 1 (main_body x its))
  main-met c d its rel every form m =
      asked_checked M' d 1 (main_body x its) (main-keeps x (H g 0) (b g 0) (a g 0) (R g 0) (pieces g 0) (tt, (c, tt)) d 1 its rel (omega arith) (asked c its every form m))

  -- ---- the objects of a body

  record AreInside (c0 d0 c d : CheckScope) : Type 0 where
    alike : AreAlike (kept_name p) c d
    left : IsFrameOf c0 c
    right : IsFrameOf d0 d
    owned : (spans : List Span) → in_body_of d.own spans ≡ in_body_of c.own spans
    truth : (s : Span) → shared_variable d (uses (record { 0 = false_name }) s) ≡ []

  inside-use : (c0 d0 c d : CheckScope) → AreInside c0 d0 c d → UsesStay p c d
  inside-use c0 d0 c d h id s kept m = ap (λ o. in_body_of d.own (shared_name o s)) (h.alike id kept) ∙ h.owned (shared_name (meaning c id) s) ∙ m

  object-met : (x : PDecl) (c0 d0 c d : CheckScope) → EveryDecl (kept_names p) x → IsSameObject c0.types d0.types x → AreInside c0 d0 c d → AllByRecursion M (check.own_object_sites c x) → AllByRecursion M' (check.own_object_sites d x)
  object-met (DObject ws constant x i s) c0 d0 c d e t h m =
      object-stays (stay-out p c d (inside-use c0 d0 c d h)) ws constant x i s
      (subst (λ T. IsSameObject T d.types (DObject ws constant x i s)) (sym h.left.types) (subst (λ U. IsSameObject c0.types U (DObject ws constant x i s)) (sym h.right.types) t)) e m
  object-met (DTask x s) c0 d0 c d e t h m = tt
  object-met (DTaskBody w objects its s) c0 d0 c d e t h m = tt
  object-met (DNumber w x s) c0 d0 c d e t h m = tt
  object-met (DEnumeration w ws s) c0 d0 c d e t h m = tt
  object-met (DArray w r x s) c0 d0 c d e t h m = tt
  object-met (DSubtype w x s) c0 d0 c d e t h m = tt
  object-met (DException ws s) c0 d0 c d e t h m = tt
  object-met (DIntIo w s) c0 d0 c d e t h m = tt
  object-met (DPragma x s) c0 d0 c d e t h m = tt

  object-inside : (x : PDecl) (c0 d0 c d : CheckScope) → AreInside c0 d0 c d → AreInside c0 d0 (check.after_own_object c x) (check.after_own_object d x)
  object-inside x c0 d0 c d h =
      let e : IsFrameOf c (check.after_own_object c x) = frame-object x c in
      let f : IsFrameOf d (check.after_own_object d x) = frame-object x d in
      record {
        alike = object-alike p x c d h.alike;
        left = frame-trans c0 c (check.after_own_object c x) h.left e;
        right = frame-trans d0 d (check.after_own_object d x) h.right f;
        owned = λ spans. ap (λ o. in_body_of o spans) f.own ∙ h.owned spans ∙ sym (ap (λ o. in_body_of o spans) e.own);
        truth = λ s. use-object x d (record { 0 = false_name }) s (h.truth s);
      }

  -- behind a further object, whose names are new
  new-inside : (y : PDecl) (c0 d0 c d : CheckScope) → AreAlike (kept_name p) c (check.after_own_object d y) → AreInside c0 d0 c d → AreInside c0 d0 c (check.after_own_object d y)
  new-inside y c0 d0 c d alike h =
      let f : IsFrameOf d (check.after_own_object d y) = frame-object y d in
      record {
        alike = alike;
        left = h.left;
        right = frame-trans d0 d (check.after_own_object d y) h.right f;
        owned = λ spans. ap (λ o. in_body_of o spans) f.own ∙ h.owned spans;
        truth = λ s. use-object y d (record { 0 = false_name }) s (h.truth s);
      }

  abbrev behind_two : Span → CheckScope → CheckScope
  behind_two at d = check.after_own_object (check.after_own_object d (answer_declared (n p) at)) (part_declared (n p) at)

  two-inside : (at : Span) (c0 d0 c d : CheckScope) → AreInside c0 d0 c d → AreInside c0 d0 c (behind_two at d)
  two-inside at c0 d0 c d h =
      let one : AreInside c0 d0 c (check.after_own_object d (answer_declared (n p) at)) = new-inside (answer_declared (n p) at) c0 d0 c d (new-alike (kept_name p) Inner c d (answer_words p at) (answer-new p at) h.alike) h in
      new-inside (part_declared (n p) at) c0 d0 c (check.after_own_object d (answer_declared (n p) at)) (new-alike (kept_name p) Inner c (check.after_own_object d (answer_declared (n p) at)) (part_words p at) (part-new p at) one.alike) one

  two-met : (at : Span) (d : CheckScope) (ys : List PDecl) → shared_variable d (uses (record { 0 = false_name }) at) ≡ [] → AllByRecursion M' (check.own_sites (behind_two at d) (decls_of ys)) → AllByRecursion M' (check.own_sites d (decls_of (unit_declared (n p) at ++ ys)))
  two-met at d ys e later =
      let d1 : CheckScope = check.after_own_object d (answer_declared (n p) at) in
      all_joined M' (check.own_object_sites d (answer_declared (n p) at)) (check.own_object_sites d1 (part_declared (n p) at) ++ check.own_sites (behind_two at d) (decls_of ys)) (answer-met p d at e)
      (all_joined M' (check.own_object_sites d1 (part_declared (n p) at)) (check.own_sites (behind_two at d) (decls_of ys)) (part-met p d1 at) later)

  objects-met : (ds : PDecls) (c0 d0 c d : CheckScope) → EveryDecls (kept_names p) ds → AllByRecursion (IsSameObject c0.types d0.types) (decl_list ds) → AreInside c0 d0 c d → AllByRecursion M (check.own_sites c ds) → AllByRecursion M' (check.own_sites d (decls_of (decl_list ds)))
  objects-met no_decl c0 d0 c d e t h m = tt
  objects-met (decl_then x ds) c0 d0 c d e t h m =
      all_joined M' (check.own_object_sites d x) (check.own_sites (check.after_own_object d x) (decls_of (decl_list ds)))
      (object-met x c0 d0 c d e.0 t.0 h (all_front M (check.own_object_sites c x) (check.own_sites (check.after_own_object c x) ds) m))
      (objects-met ds c0 d0 (check.after_own_object c x) (check.after_own_object d x) e.1 t.1 (object-inside x c0 d0 c d h) (all_back M (check.own_object_sites c x) (check.own_sites (check.after_own_object c x) ds) m))

  behind-met : (at : Span) (ds : PDecls) (c0 d0 c d : CheckScope) → EveryDecls (kept_names p) ds → AllByRecursion (IsSameObject c0.types d0.types) (decl_list ds) → AreInside c0 d0 c d → AllByRecursion M (check.own_sites c ds) →
      AllByRecursion M' (check.own_sites d (decls_of (behind_own p.names (unit_declared (n p) at) (decl_list ds))))
  behind-met at no_decl c0 d0 c d e t h m = two-met at d [] (h.truth at) tt
  behind-met at (decl_then x ds) c0 d0 c d e t h m =
      go (is_added_object p.names x)
      (behind-met at ds c0 d0 (check.after_own_object c x) (check.after_own_object d x) e.1 t.1 (object-inside x c0 d0 c d h) (all_back M (check.own_object_sites c x) (check.own_sites (check.after_own_object c x) ds) m))
      (two-met at d (x ∷ decl_list ds) (h.truth at) (objects-met (decl_then x ds) c0 d0 c (behind_two at d) e t (two-inside at c0 d0 c d h) m))
    where
      go : (b : Bool) → AllByRecursion M' (check.own_sites (check.after_own_object d x) (decls_of (behind_own p.names (unit_declared (n p) at) (decl_list ds)))) →
          AllByRecursion M' (check.own_sites d (decls_of (unit_declared (n p) at ++ x ∷ decl_list ds))) →
          AllByRecursion M' (check.own_sites d (decls_of (if b then unit_declared (n p) at ++ x ∷ decl_list ds else x ∷ behind_own p.names (unit_declared (n p) at) (decl_list ds))))
      go true later all = all
      go false later all =
          all_joined M' (check.own_object_sites d x) (check.own_sites (check.after_own_object d x) (decls_of (behind_own p.names (unit_declared (n p) at) (decl_list ds))))
          (object-met x c0 d0 c d e.0 t.0 h (all_front M (check.own_object_sites c x) (check.own_sites (check.after_own_object c x) ds) m)) later

  -- ---- the body of a task

  body-met : (bodies bodies' : List ℕ) (w : Word) (objects : PDecls) (its : PBody) (s : Span) (c d : CheckScope) → EveryDecl (kept_names p) (DTaskBody w objects its s) → IsSameDecl c.types d.types (DTaskBody w objects its s) → HasForm (DTaskBody w objects its s) → AreBehindTasks p c d →
      AllByRecursion M (check.decl_sites c bodies (DTaskBody w objects its s)) → AllByRecursion M' (check.decl_sites d bodies' (collect_decl x p.names (DTaskBody w objects its s)))
  body-met bodies bodies' w objects its s c d e t form rel m =
      let xs : PDecls = decls_of (behind_own p.names (unit_declared (n p) w.span) (decl_list objects)) in
      let ci : CheckScope = check.in_body c w in
      let di : CheckScope = check.in_body d w in
      let start : AreInside ci di ci di = record { alike = rel.alike; left = frame-refl ci; right = frame-refl di; owned = λ spans. refl; truth = λ v. rel.truth false_name refl (Some (check.own_unit d w)) v } in
      all_joined M' (check.own_sites di xs) (check.body_sites (check.after_own di xs) 1 (task_body (teller_at x (task_of g.numbers w.name)) w.span its))
      (behind-met w.span objects ci di ci di e.3 t start (all_front M (check.own_sites ci objects) (check.body_sites (check.after_own ci objects) 1 its) m))
      (unit-met (task_of g.numbers w.name) (check.after_own ci objects) (check.after_own di xs) w.span its (body-around p c d w w.span objects e.1 rel) e.4 form (all_back M (check.own_sites ci objects) (check.body_sites (check.after_own ci objects) 1 its) m))

  pub bodies-along : (bodies bodies' : List ℕ) (xs : List PDecl) (c d : CheckScope) → AllByRecursion IsOneBody xs → AllByRecursion (EveryDecl (kept_names p)) xs → AllByRecursion (IsSameDecl c.types d.types) xs → AllByRecursion HasForm xs → AreBehindTasks p c d →
      AllAlong M bodies c xs → AllAlong M' bodies' d (map (collect_decl x p.names) xs)
  bodies-along bodies bodies' [] c d o e t form rel m = tt
  bodies-along bodies bodies' (DTaskBody w objects its s ∷ xs) c d o e t form rel m = (body-met bodies bodies' w objects its s c d e.0 t.0 form.0 rel m.0, bodies-along bodies bodies' xs c d o.1 e.1 t.1 form.1 rel m.1)
  bodies-along bodies bodies' (DTask y s ∷ xs) c d o e t form rel m = absurd o.0
  bodies-along bodies bodies' (DNumber w y s ∷ xs) c d o e t form rel m = absurd o.0
  bodies-along bodies bodies' (DObject ws k x i s ∷ xs) c d o e t form rel m = absurd o.0
  bodies-along bodies bodies' (DEnumeration w ws s ∷ xs) c d o e t form rel m = absurd o.0
  bodies-along bodies bodies' (DArray w r x s ∷ xs) c d o e t form rel m = absurd o.0
  bodies-along bodies bodies' (DSubtype w x s ∷ xs) c d o e t form rel m = absurd o.0
  bodies-along bodies bodies' (DException ws s ∷ xs) c d o e t form rel m = absurd o.0
  bodies-along bodies bodies' (DIntIo w s ∷ xs) c d o e t form rel m = absurd o.0
  bodies-along bodies bodies' (DPragma x s ∷ xs) c d o e t form rel m = absurd o.0

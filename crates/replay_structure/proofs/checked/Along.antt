-- The places of the declarations of a replay text, by those of the normal form.
use Rattle.std.proofs.Common.{◌≡◌, ℕ, ◌==◌, Bool, true, false, if◌then◌else◌, List, [], ◌∷◌, map, Some, None, refl, sym, ap, subst, ◌∙◌, arith}
use Rattle.std.specs.List.{AllByRecursion, list_any}
use Rattle.common_lemmas.proofs.Lists.{all_front, all_back, all_joined}
use Rattle.ada_tree.specs.declared.naming.Span.{Span}
use Rattle.ada_tree.specs.declared.naming.Word.{Word}
use Rattle.ada_tree.specs.PlainExpr.{EInteger}
use Rattle.ada_tree.specs.PlainStmt.{PBody}
use Rattle.ada_tree.specs.PlainDecl.{OPlain, IOne, PTask, PDecl, DNumber, DObject, DEnumeration, DArray, DSubtype, DException, DIntIo, DPragma, DTask, DTaskBody, PDecls, no_decl, decl_then, decls_of}
use Rattle.ada_tree.specs.PlainProgram.{PProgram}
use Rattle.ada_tree.specs.Every.{EveryDecl, EveryDecls, EveryBody}
use Rattle.syn_event.specs.declared.meanings.Meant.TheVariants.{Inner}
use Rattle.syn_event.specs.CheckScope.{CheckScope, CheckSite, meaning}
use Rattle.syn_event.specs.CheckSites as check
use Rattle.syn_event.specs.RuleSharedVariable.{shared_name, in_body_of}
use Rattle.syn_event.specs.DeclaredTasks.{decl_list, tasks_in}
use Rattle.task_model.specs.Setting.{Setting}
use Rattle.task_laws.specs.legal.asked.Asked.{AskedBody}
use Rattle.task_laws.specs.legal.asked.Kinds.{place_asks, check_asks, both}
use Rattle.task_laws.proofs.legal.asked.Placed.{placed_asked}
use Rattle.task_laws.proofs.legal.asked.Checked.{checked_asked, asked_checked}
use Rattle.task_laws.proofs.legal.asked.Together.{both_asked}
use Rattle.normal_model.specs.Ranges.{integer_subtype}
use Rattle.normal_model.specs.RewrittenUnit.{RewrittenUnit}
use Rattle.normal_model.specs.NormalTree.{unit_for}
use Rattle.normal_laws.proofs.structure.numbers.Listed.{IsPlain, IsOneTask, IsOneBody}
use Rattle.normal_laws.proofs.structure.checked.Places.{met-deep}
use Rattle.normal_laws.proofs.structure.checked.MainScopes.{IsFrameOf, frame-refl, frame-trans}
use Rattle.replay_model.specs.Names.{kind_text, argument_text, index_text, replay_names}
use Rattle.replay_model.specs.ReplayStmts.{replay_body}
use Rattle.replay_model.specs.ReplayTree.{is_added_object, behind_own, permit_declared, replay_decl}
use Rattle.replay_structure.proofs.asked.Walk.{replay-keeps}
use Rattle.replay_structure.specs.checked.Around.{kept_names, form_asks, IsAsking}
use Rattle.normal_laws.specs.structure.numbers.Single.{IsSingle}
use Rattle.replay_structure.specs.checked.Checkable.{IsOtherThanTruth, HasForm, IsSameObject, IsSameDecl, IsShortEntry}
use Rattle.replay_structure.proofs.checked.Names.{IsDoubled}
use Rattle.replay_structure.proofs.checked.Stays.{IsFormMet, IsTextMet, UsesStay, stay-out}
use Rattle.replay_structure.proofs.checked.Asked.{H, R, a, b, pieces}
use Rattle.replay_structure.proofs.checked.Lists.{after_all, AllAlong}
use Rattle.replay_structure.proofs.checked.Alike.{AreAlike, new-alike}
use Rattle.replay_structure.proofs.checked.Plain.{object-stays, plain-decl}
use Rattle.replay_structure.proofs.checked.Tasks.{added-declared, task-met}
use Rattle.replay_structure.proofs.checked.Bodies.{frame-object, object-alike, permit_words, permit-new, AreBehindTasks, body-around}
use Rattle.replay_structure.proofs.checked.Before.{AreBefore, same-there, plain-before, permit-before, task-before, uses-there}

-- the entries of a task that is declared
abbrev pub OnTask : (PTask → Type 0) → PDecl → Type 0
OnTask P (DTask t s) = P t
OnTask P _ = Prim.Unit {0}

pub on-tasks : (P : PTask → Type 0) (xs : List PDecl) → AllByRecursion P (tasks_in xs) → AllByRecursion (OnTask P) xs
on-tasks P [] h = tt
on-tasks P (DTask t s ∷ xs) h = (h.0, on-tasks P xs h.1)
on-tasks P (DTaskBody w objects its s ∷ xs) h = (tt, on-tasks P xs h)
on-tasks P (DNumber w e s ∷ xs) h = (tt, on-tasks P xs h)
on-tasks P (DObject ws c x i s ∷ xs) h = (tt, on-tasks P xs h)
on-tasks P (DEnumeration w ws s ∷ xs) h = (tt, on-tasks P xs h)
on-tasks P (DArray w r x s ∷ xs) h = (tt, on-tasks P xs h)
on-tasks P (DSubtype w x s ∷ xs) h = (tt, on-tasks P xs h)
on-tasks P (DException ws s ∷ xs) h = (tt, on-tasks P xs h)
on-tasks P (DIntIo w s ∷ xs) h = (tt, on-tasks P xs h)
on-tasks P (DPragma e s ∷ xs) h = (tt, on-tasks P xs h)

-- ---- the variables of a permit

module _ (q : PProgram) where
  pub permit-met : (d : CheckScope) (s : Span) → AllByRecursion (IsTextMet q) (check.object_sites d (permit_words q s) (OPlain (integer_subtype s)) (Some (IOne (EInteger 0 s))))
  permit-met d s = (added-declared q d kind_text s refl (omega arith), (added-declared q d argument_text s refl (omega arith), (added-declared q d index_text s refl (omega arith), (met-deep (replay_names q) d 2 s (omega arith), tt))))

-- ---- declarations in front of the bodies

module _ (g : Setting) (c0 d0 : CheckScope) (own : c0.own ≡ None) (own' : d0.own ≡ None) (bodies bodies' : List ℕ) where
  abbrev q : PProgram
  q = g.program

  abbrev Before : CheckScope → CheckScope → Type 0
  Before c d = AreBefore q c0 d0 c d

  abbrev IsKept : PDecl → Type 0
  IsKept x = EveryDecl (kept_names q) x

  abbrev IsSame : PDecl → Type 0
  IsSame x = IsSameDecl c0.types d0.types x

  -- what is met there, and what is known behind
  pub record HasAlong (c d : CheckScope) (xs ys : List PDecl) : Type 0 where
    pub met : AllAlong (IsTextMet q) bodies' d ys
    pub behind : Before (after_all c xs) (after_all d ys)

  then-along : (x y : PDecl) (c d : CheckScope) (xs ys : List PDecl) → AllByRecursion (IsTextMet q) (check.decl_sites d bodies' y) → HasAlong (check.after_decl c x) (check.after_decl d y) xs ys → HasAlong c d (x ∷ xs) (y ∷ ys)
  then-along x y c d xs ys m h = record { met = (m, h.met); behind = h.behind }

  decl-met : (x : PDecl) (c d : CheckScope) → IsPlain x → IsKept x → IsSame x → Before c d → AllByRecursion (IsFormMet q) (check.decl_sites c bodies x) → AllByRecursion (IsTextMet q) (check.decl_sites d bodies' x)
  decl-met x c d p e t h m = plain-decl (stay-out q c d (uses-there q c0 d0 own own' c d h)) bodies bodies' x p e (same-there q c0 d0 x c d h t) m

  pub plain-along : (xs : List PDecl) (c d : CheckScope) → AllByRecursion IsPlain xs → AllByRecursion IsKept xs → AllByRecursion IsSingle xs → AllByRecursion IsOtherThanTruth xs → AllByRecursion IsSame xs → Before c d → AllAlong (IsFormMet q) bodies c xs → HasAlong c d xs xs
  plain-along [] c d p e s o t h m = record { met = tt; behind = h }
  plain-along (x ∷ xs) c d p e s o t h m =
      then-along x x c d xs xs (decl-met x c d p.0 e.0 t.0 h m.0) (plain-along xs (check.after_decl c x) (check.after_decl d x) p.1 e.1 s.1 o.1 t.1 (plain-before q c0 d0 x c d p.0 e.0 s.0 o.0 t.0 h) m.1)

  pub front-along : (at : Span) (xs : List PDecl) (c d : CheckScope) → AllByRecursion IsPlain xs → AllByRecursion IsKept xs → AllByRecursion IsSingle xs → AllByRecursion IsOtherThanTruth xs → AllByRecursion IsSame xs → Before c d → AllAlong (IsFormMet q) bodies c xs →
      HasAlong c d xs (behind_own q.names (permit_declared q at) xs)
  front-along at [] c d p e s o t h m = record { met = (permit-met q d at, tt); behind = permit-before q c0 d0 at c d h }
  front-along at (x ∷ xs) c d p e s o t h m =
      go (is_added_object q.names x) (front-along at xs (check.after_decl c x) (check.after_decl d x) p.1 e.1 s.1 o.1 t.1 (plain-before q c0 d0 x c d p.0 e.0 s.0 o.0 t.0 h) m.1)
      (plain-along (x ∷ xs) c (check.after_decl d (permit_declared q at)) p e s o t (permit-before q c0 d0 at c d h) m)
    where
      go : (t : Bool) → HasAlong (check.after_decl c x) (check.after_decl d x) xs (behind_own q.names (permit_declared q at) xs) → HasAlong c (check.after_decl d (permit_declared q at)) (x ∷ xs) (x ∷ xs) →
          HasAlong c d (x ∷ xs) (if t then permit_declared q at ∷ x ∷ xs else x ∷ behind_own q.names (permit_declared q at) xs)
      go true later all = record { met = (permit-met q d at, all.met); behind = all.behind }
      go false later all = then-along x x c d xs (behind_own q.names (permit_declared q at) xs) (decl-met x c d p.0 e.0 t.0 h m.0) later

  -- ---- tasks

  module _ (there : (k : ℕ) → list_any (λ n. n == k) bodies ≡ true → list_any (λ n. n == k) bodies' ≡ true) where
    abbrev IsShort : PTask → Type 0
    IsShort t = AllByRecursion (IsShortEntry q) t.entries

    abbrev HasDoubles : PTask → Type 0
    HasDoubles t = AllByRecursion (IsDoubled q) t.entries

    pub tasks-along : (xs : List PDecl) (c d : CheckScope) → AllByRecursion IsOneTask xs → AllByRecursion IsKept xs → AllByRecursion IsSame xs → AllByRecursion (OnTask IsShort) xs → AllByRecursion (OnTask HasDoubles) xs → Before c d → AllAlong (IsFormMet q) bodies c xs →
        HasAlong c d xs (map (replay_decl g) xs)
    tasks-along [] c d p e t short named h m = record { met = tt; behind = h }
    tasks-along (DTask x s ∷ xs) c d p e t short named h m =
        then-along (DTask x s) (replay_decl g (DTask x s)) c d xs (map (replay_decl g) xs)
        (task-met q c d (uses-there q c0 d0 own own' c d h) bodies bodies' x s (there x.name.name.0) e.0 (same-there q c0 d0 (DTask x s) c d h t.0) short.0 named.0 m.0)
        (tasks-along xs (check.after_decl c (DTask x s)) (check.after_decl d (replay_decl g (DTask x s))) p.1 e.1 t.1 short.1 named.1 (task-before q c0 d0 x s c d p.0 h) m.1)
    tasks-along (DTaskBody w objects its s ∷ xs) c d p e t short named h m = absurd p.0
    tasks-along (DNumber w x s ∷ xs) c d p e t short named h m = absurd p.0
    tasks-along (DObject ws k x i s ∷ xs) c d p e t short named h m = absurd p.0
    tasks-along (DEnumeration w ws s ∷ xs) c d p e t short named h m = absurd p.0
    tasks-along (DArray w r x s ∷ xs) c d p e t short named h m = absurd p.0
    tasks-along (DSubtype w x s ∷ xs) c d p e t short named h m = absurd p.0
    tasks-along (DException ws s ∷ xs) c d p e t short named h m = absurd p.0
    tasks-along (DIntIo w s ∷ xs) c d p e t short named h m = absurd p.0
    tasks-along (DPragma x s ∷ xs) c d p e t short named h m = absurd p.0

-- ---- bodies

module _ (g : Setting) where
  abbrev p : PProgram
  p = g.program

  abbrev M : CheckSite → Type 0
  M = IsFormMet p

  abbrev M' : CheckSite → Type 0
  M' = IsTextMet p

  -- the statements of a unit
  pub unit-met : (u : RewrittenUnit) (c d : CheckScope) (s : Span) (its : PBody) → IsAsking u.setting.program c d → EveryBody (kept_names u.setting.program) 1 its → AskedBody form_asks tt 1 its → AllByRecursion (IsFormMet u.setting.program) (check.body_sites c 1 its) →
      AllByRecursion (IsTextMet u.setting.program) (check.body_sites d 1 (replay_body u s its))
  unit-met u c d s its rel every form m =
      let v : PProgram = u.setting.program in
      asked_checked (IsTextMet v) d 1 (replay_body u s its)
      (replay-keeps u (H u) (b u) (a u) (R u) (pieces u) (tt, (c, tt)) d 1 s its rel (omega arith) (omega arith)
      (both_asked (place_asks (kept_names v)) (both (check_asks (IsFormMet v)) form_asks) tt (c, tt) 1 its (placed_asked (kept_names v) 1 its every)
      (both_asked (check_asks (IsFormMet v)) form_asks c tt 1 its (checked_asked (IsFormMet v) c 1 its m) form)))

  -- ---- the objects of a body

  record AreInside (c0 d0 c d : CheckScope) : Type 0 where
    alike : AreAlike p c d
    left : IsFrameOf c0 c
    right : IsFrameOf d0 d
    owned : (spans : List Span) → in_body_of d.own spans ≡ in_body_of c.own spans

  inside-use : (c0 d0 c d : CheckScope) → AreInside c0 d0 c d → UsesStay p c d
  inside-use c0 d0 c d h id s kept m = ap (λ o. in_body_of d.own (shared_name o s)) (h.alike id kept) ∙ h.owned (shared_name (meaning c id) s) ∙ m

  object-met : (x : PDecl) (c0 d0 c d : CheckScope) → EveryDecl (kept_names p) x → IsSameObject c0.types d0.types x → AreInside c0 d0 c d → AllByRecursion M (check.own_object_sites c x) → AllByRecursion M' (check.own_object_sites d x)
  object-met (DObject ws constant x i s) c0 d0 c d e t h m =
      object-stays (stay-out p c d (inside-use c0 d0 c d h)) ws constant x i s
      (subst (λ T. IsSameObject T d.types (DObject ws constant x i s)) (sym h.left.types) (subst (λ U. IsSameObject c0.types U (DObject ws constant x i s)) (sym h.right.types) t)) e m
  object-met (DTask x s) c0 d0 c d e t h m = tt
  object-met (DTaskBody w objects its s) c0 d0 c d e t h m = tt
  object-met (DNumber w x s) c0 d0 c d e t h m = tt
  object-met (DEnumeration w ws s) c0 d0 c d e t h m = tt
  object-met (DArray w r x s) c0 d0 c d e t h m = tt
  object-met (DSubtype w x s) c0 d0 c d e t h m = tt
  object-met (DException ws s) c0 d0 c d e t h m = tt
  object-met (DIntIo w s) c0 d0 c d e t h m = tt
  object-met (DPragma x s) c0 d0 c d e t h m = tt

  object-inside : (x : PDecl) (c0 d0 c d : CheckScope) → AreInside c0 d0 c d → AreInside c0 d0 (check.after_own_object c x) (check.after_own_object d x)
  object-inside x c0 d0 c d h =
      let e : IsFrameOf c (check.after_own_object c x) = frame-object x c in
      let f : IsFrameOf d (check.after_own_object d x) = frame-object x d in
      record {
        alike = object-alike p x c d h.alike;
        left = frame-trans c0 c (check.after_own_object c x) h.left e;
        right = frame-trans d0 d (check.after_own_object d x) h.right f;
        owned = λ spans. ap (λ o. in_body_of o spans) f.own ∙ h.owned spans ∙ sym (ap (λ o. in_body_of o spans) e.own);
      }

  permit-inside : (at : Span) (c0 d0 c d : CheckScope) → AreInside c0 d0 c d → AreInside c0 d0 c (check.after_own_object d (permit_declared p at))
  permit-inside at c0 d0 c d h =
      let f : IsFrameOf d (check.after_own_object d (permit_declared p at)) = frame-object (permit_declared p at) d in
      record {
        alike = new-alike p Inner c d (permit_words p at) (permit-new p at) h.alike;
        left = h.left;
        right = frame-trans d0 d (check.after_own_object d (permit_declared p at)) h.right f;
        owned = λ spans. ap (λ o. in_body_of o spans) f.own ∙ h.owned spans;
      }

  objects-met : (ds : PDecls) (c0 d0 c d : CheckScope) → EveryDecls (kept_names p) ds → AllByRecursion (IsSameObject c0.types d0.types) (decl_list ds) → AreInside c0 d0 c d → AllByRecursion M (check.own_sites c ds) → AllByRecursion M' (check.own_sites d (decls_of (decl_list ds)))
  objects-met no_decl c0 d0 c d e t h m = tt
  objects-met (decl_then x ds) c0 d0 c d e t h m =
      all_joined M' (check.own_object_sites d x) (check.own_sites (check.after_own_object d x) (decls_of (decl_list ds)))
      (object-met x c0 d0 c d e.0 t.0 h (all_front M (check.own_object_sites c x) (check.own_sites (check.after_own_object c x) ds) m))
      (objects-met ds c0 d0 (check.after_own_object c x) (check.after_own_object d x) e.1 t.1 (object-inside x c0 d0 c d h) (all_back M (check.own_object_sites c x) (check.own_sites (check.after_own_object c x) ds) m))

  behind-met : (at : Span) (ds : PDecls) (c0 d0 c d : CheckScope) → EveryDecls (kept_names p) ds → AllByRecursion (IsSameObject c0.types d0.types) (decl_list ds) → AreInside c0 d0 c d → AllByRecursion M (check.own_sites c ds) →
      AllByRecursion M' (check.own_sites d (decls_of (behind_own p.names (permit_declared p at) (decl_list ds))))
  behind-met at no_decl c0 d0 c d e t h m = all_joined M' (check.own_object_sites d (permit_declared p at)) [] (permit-met p d at) tt
  behind-met at (decl_then x ds) c0 d0 c d e t h m =
      go (is_added_object p.names x)
      (behind-met at ds c0 d0 (check.after_own_object c x) (check.after_own_object d x) e.1 t.1 (object-inside x c0 d0 c d h) (all_back M (check.own_object_sites c x) (check.own_sites (check.after_own_object c x) ds) m))
      (objects-met (decl_then x ds) c0 d0 c (check.after_own_object d (permit_declared p at)) e t (permit-inside at c0 d0 c d h) m)
    where
      go : (b : Bool) → AllByRecursion M' (check.own_sites (check.after_own_object d x) (decls_of (behind_own p.names (permit_declared p at) (decl_list ds)))) →
          AllByRecursion M' (check.own_sites (check.after_own_object d (permit_declared p at)) (decls_of (x ∷ decl_list ds))) →
          AllByRecursion M' (check.own_sites d (decls_of (if b then permit_declared p at ∷ x ∷ decl_list ds else x ∷ behind_own p.names (permit_declared p at) (decl_list ds))))
      go true later all = all_joined M' (check.own_object_sites d (permit_declared p at)) (check.own_sites (check.after_own_object d (permit_declared p at)) (decls_of (x ∷ decl_list ds))) (permit-met p d at) all
      go false later all =
          all_joined M' (check.own_object_sites d x) (check.own_sites (check.after_own_object d x) (decls_of (behind_own p.names (permit_declared p at) (decl_list ds))))
          (object-met x c0 d0 c d e.0 t.0 h (all_front M (check.own_object_sites c x) (check.own_sites (check.after_own_object c x) ds) m)) later

  -- ---- the body of a task

  body-met : (bodies bodies' : List ℕ) (w : Word) (objects : PDecls) (its : PBody) (s : Span) (c d : CheckScope) → EveryDecl (kept_names p) (DTaskBody w objects its s) → IsSameDecl c.types d.types (DTaskBody w objects its s) → HasForm (DTaskBody w objects its s) → AreBehindTasks p c d →
      AllByRecursion M (check.decl_sites c bodies (DTaskBody w objects its s)) → AllByRecursion M' (check.decl_sites d bodies' (replay_decl g (DTaskBody w objects its s)))
  body-met bodies bodies' w objects its s c d e t form rel m =
      let xs : PDecls = decls_of (behind_own p.names (permit_declared p w.span) (decl_list objects)) in
      let ci : CheckScope = check.in_body c w in
      let di : CheckScope = check.in_body d w in
      let start : AreInside ci di ci di = record { alike = rel.alike; left = frame-refl ci; right = frame-refl di; owned = λ spans. refl } in
      all_joined M' (check.own_sites di xs) (check.body_sites (check.after_own di xs) 1 (replay_body (unit_for g w.name) w.span its))
      (behind-met w.span objects ci di ci di e.3 t start (all_front M (check.own_sites ci objects) (check.body_sites (check.after_own ci objects) 1 its) m))
      (unit-met (unit_for g w.name) (check.after_own ci objects) (check.after_own di xs) w.span its (body-around p c d w w.span objects e.1 rel) e.4 form (all_back M (check.own_sites ci objects) (check.body_sites (check.after_own ci objects) 1 its) m))

  pub bodies-along : (bodies bodies' : List ℕ) (xs : List PDecl) (c d : CheckScope) → AllByRecursion IsOneBody xs → AllByRecursion (EveryDecl (kept_names p)) xs → AllByRecursion (IsSameDecl c.types d.types) xs → AllByRecursion HasForm xs → AreBehindTasks p c d →
      AllAlong M bodies c xs → AllAlong M' bodies' d (map (replay_decl g) xs)
  bodies-along bodies bodies' [] c d o e t form rel m = tt
  bodies-along bodies bodies' (DTaskBody w objects its s ∷ xs) c d o e t form rel m = (body-met bodies bodies' w objects its s c d e.0 t.0 form.0 rel m.0, bodies-along bodies bodies' xs c d o.1 e.1 t.1 form.1 rel m.1)
  bodies-along bodies bodies' (DTask x s ∷ xs) c d o e t form rel m = absurd o.0
  bodies-along bodies bodies' (DNumber w x s ∷ xs) c d o e t form rel m = absurd o.0
  bodies-along bodies bodies' (DObject ws k x i s ∷ xs) c d o e t form rel m = absurd o.0
  bodies-along bodies bodies' (DEnumeration w ws s ∷ xs) c d o e t form rel m = absurd o.0
  bodies-along bodies bodies' (DArray w r x s ∷ xs) c d o e t form rel m = absurd o.0
  bodies-along bodies bodies' (DSubtype w x s ∷ xs) c d o e t form rel m = absurd o.0
  bodies-along bodies bodies' (DException ws s ∷ xs) c d o e t form rel m = absurd o.0
  bodies-along bodies bodies' (DIntIo w s ∷ xs) c d o e t form rel m = absurd o.0
  bodies-along bodies bodies' (DPragma x s ∷ xs) c d o e t form rel m = absurd o.0

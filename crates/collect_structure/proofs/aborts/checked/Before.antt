-- What is known of what stands around, along the declarations of a normal form and of its collecting text, where abort statements can stand.
use Rattle.std.proofs.Common.{◌≡◌, ℕ, ◌||◌, not, true, false, [], ◌∷◌, Option, Some, None, refl, sym, ap, subst, ◌∙◌}
use Rattle.ada_tree.specs.declared.naming.Span.{Span}
use Rattle.ada_tree.specs.PlainDecl.{OPlain, OArray, PTask, PDecl, DNumber, DObject, DEnumeration, DArray, DSubtype, DException, DIntIo, DPragma, DTask, DTaskBody, decl_then, no_decl}
use Rattle.ada_tree.specs.PlainExpr.{PExpr}
use Rattle.ada_tree.specs.PlainProgram.{PProgram}
use Rattle.ada_tree.specs.Every.{EveryExpr, EveryDecl}
use Rattle.syn_event.specs.Extents.{fixed}
use Rattle.syn_event.specs.declared.meanings.Meant.TheVariants.{TaskOf}
use Rattle.syn_event.specs.CheckScope.{EnclosingUnit, CheckScope, meaning}
use Rattle.syn_event.specs.CheckSites.{meant_by_task, after_decl}
use Rattle.syn_event.specs.Extents.{is_array_type}
use Rattle.syn_event.specs.RuleSharedVariable.{shared_name, in_body_of}
use Rattle.normal_model.specs.Ranges.{word_at}
use Rattle.normal_laws.proofs.structure.numbers.Listed.{IsPlain}
use Rattle.normal_laws.proofs.structure.checked.MainScopes.{IsFrameOf, ArePlain, decls-plain, name-free, frame-trans, decl-frame}
use Rattle.normal_laws.specs.structure.numbers.Single.{IsSingle}
use Rattle.replay_structure.specs.checked.Checkable.{IsSameDecl}
use Rattle.replay_structure.proofs.checked.Units.{entries_named, own-beside}
use Rattle.collect_model.specs.Names.{recorder_text, collect_names, added_in}
use Rattle.collect_model.specs.CollectTree.{task_telling}
use Rattle.collect_model.specs.Recording.{recorder_declared}
use Rattle.collect_structure.specs.Names.{added_id}
use Rattle.collect_structure.specs.checked.Checkable.{is_truth, IsOtherThanTruths}
use Rattle.collect_structure.proofs.checked.Names.{added-other}
use Rattle.collect_structure.proofs.checked.Stays as collect
use Rattle.collect_structure.proofs.checked.Before.{recorder_unit, behind_added, true-task, true-decl, unit-same}
use Rattle.collect_structure.specs.aborts.Names.{kept_name}
use Rattle.collect_structure.specs.aborts.checked.Around.{kept_names}
use Rattle.collect_structure.proofs.checked.Alike.{AreAlike, meant-alike, decl-alike, new-alike, new-object}
use Rattle.collect_structure.proofs.aborts.checked.Bodies.{IsNewObject, AreBehindTasks}
use Rattle.collect_structure.proofs.aborts.checked.Names.{still-kept}
use Rattle.replay_structure.proofs.checked.Before.{single-none, units-decl}

-- ---- along declarations

module _ (q : PProgram) (c0 d0 : CheckScope) where
  -- What is known behind some declarations of main, in front of the recorder.
  pub record AreBefore (c d : CheckScope) : Type 0 where
    pub alike : AreAlike (kept_name q) c d
    pub left : IsFrameOf c0 c
    pub right : IsFrameOf d0 d
    pub units : d.units ≡ c.units
    pub truth : (k : ℕ) → is_truth k ≡ true → (s : Span) → shared_name (meaning c (record { 0 = k })) s ≡ []
    pub plain : ArePlain q.name.name.0 d.names

  -- what is the same by the first tables is so by those at the place
  pub same-there : (x : PDecl) (c d : CheckScope) → AreBefore c d → IsSameDecl c0.types d0.types x → IsSameDecl c.types d.types x
  same-there x c d h t = subst (λ T. IsSameDecl T d.types x) (sym h.left.types) (subst (λ U. IsSameDecl c0.types U x) (sym h.right.types) t)

  pub plain-before : (x : PDecl) (c d : CheckScope) → IsPlain x → EveryDecl (kept_names q) x → IsSingle x → IsOtherThanTruths x →
      IsSameDecl c0.types d0.types x → AreBefore c d → AreBefore (after_decl c x) (after_decl d x)
  plain-before x c d p e single other t h = record {
    alike = decl-alike (kept_name q) x c d e (same-there x c d h t) h.alike;
    left = frame-trans c0 c (after_decl c x) h.left (decl-frame x c);
    right = frame-trans d0 d (after_decl d x) h.right (decl-frame x d);
    units = units-decl x d p ∙ h.units ∙ sym (units-decl x c p);
    truth = true-decl x c other h.truth;
    plain = decls-plain q.name.name.0 (decl_then x no_decl) d (single-none q.name.name.0 x single, tt) h.plain;
  }

  -- a declaration of main that stands in the text alone, and gives no kept name a meaning
  pub new-before : (x : PDecl) (c d : CheckScope) → IsPlain x → IsSingle x → AreAlike (kept_name q) c (after_decl d x) → AreBefore c d → AreBefore c (after_decl d x)
  new-before x c d p single alike h = record {
    alike = alike;
    left = h.left;
    right = frame-trans d0 d (after_decl d x) h.right (decl-frame x d);
    units = units-decl x d p ∙ h.units;
    truth = h.truth;
    plain = decls-plain q.name.name.0 (decl_then x no_decl) d (single-none q.name.name.0 x single, tt) h.plain;
  }

  -- an object that is new gives no kept name a meaning
  object-new : (x : PDecl) (c d : CheckScope) → IsNewObject q x → AreAlike (kept_name q) c d → AreAlike (kept_name q) c (after_decl d x)
  object-new (DObject ws constant (OPlain x) i s) c d n h =
      new-object (kept_name q) (meaning d x.mark.name) c d x.mark (not constant || is_array_type d.types x.mark.name) ws n h
  object-new (DObject ws constant (OArray r x) i s) c d n h = new-object (kept_name q) (meaning d x.mark.name) c d x.mark true ws n h
  object-new (DTask t s) c d n h = absurd n
  object-new (DTaskBody w objects its s) c d n h = absurd n
  object-new (DNumber w e s) c d n h = absurd n
  object-new (DEnumeration w ws s) c d n h = absurd n
  object-new (DArray w r x s) c d n h = absurd n
  object-new (DSubtype w x s) c d n h = absurd n
  object-new (DException ws s) c d n h = absurd n
  object-new (DIntIo w s) c d n h = absurd n
  object-new (DPragma e s) c d n h = absurd n

  object-plain : (x : PDecl) → IsNewObject q x → IsPlain x × IsSingle x
  object-plain (DObject ws constant shape i s) n = (tt, tt)
  object-plain (DTask t s) n = absurd n
  object-plain (DTaskBody w objects its s) n = absurd n
  object-plain (DNumber w e s) n = absurd n
  object-plain (DEnumeration w ws s) n = absurd n
  object-plain (DArray w r x s) n = absurd n
  object-plain (DSubtype w x s) n = absurd n
  object-plain (DException ws s) n = absurd n
  object-plain (DIntIo w s) n = absurd n
  object-plain (DPragma e s) n = absurd n

  pub object-before : (x : PDecl) (c d : CheckScope) → IsNewObject q x → AreBefore c d → AreBefore c (after_decl d x)
  object-before x c d n h = let plain = object-plain x n in new-before x c d plain.0 plain.1 (object-new x c d n h.alike) h

  pub task-before : (t : PTask) (s : Span) (c d : CheckScope) → t.of_kind ≡ false → AreBefore c d →
      AreBefore (after_decl c (DTask t s)) (after_decl d (DTask (task_telling (added_in (collect_names q)) t) s))
  task-before t s c d single h = record {
    alike = meant-alike (kept_name q) (meant_by_task t) c d (t.name ∷ []) h.alike;
    left = frame-trans c0 c (after_decl c (DTask t s)) h.left (decl-frame (DTask t s) c);
    right =
        frame-trans d0 d (after_decl d (DTask (task_telling (added_in (collect_names q)) t) s)) h.right
        (decl-frame (DTask (task_telling (added_in (collect_names q)) t) s) d);
    units = λ i. unit-same (added_in (collect_names q)) t i ∷ h.units i;
    truth = true-task t c h.truth;
    plain = decls-plain q.name.name.0 (decl_then (DTask (task_telling (added_in (collect_names q)) t) s) no_decl) d (single, tt) h.plain;
  }

  -- ---- behind the recorder

  module _ (own : c0.own ≡ None) (own' : d0.own ≡ None) where
    pub uses-there : (c d : CheckScope) → AreBefore c d → collect.UsesStay q c d
    uses-there c d h id s kept m = ap (λ o. in_body_of o (shared_name (meaning d id) s)) (h.right.own ∙ own')

  added-alike : (s : Span) (c d : CheckScope) → AreAlike (kept_name q) c d → AreAlike (kept_name q) c (behind_added q s d)
  added-alike s c d h =
      new-alike (kept_name q) (TaskOf (added_id q recorder_text)) c d (word_at s (added_id q recorder_text) ∷ [])
      ((λ id o. added-other q id recorder_text (still-kept q id.0 o) refl refl), tt) h

  added-plain : (s : Span) (d : CheckScope) → ArePlain q.name.name.0 d.names → ArePlain q.name.name.0 (behind_added q s d).names
  added-plain s d h = decls-plain q.name.name.0 (decl_then (recorder_declared (added_in (collect_names q)) s) no_decl) d (refl, tt) h

  pub added-frame : (s : Span) (d : CheckScope) → IsFrameOf d0 d → IsFrameOf d0 (behind_added q s d)
  added-frame s d h = frame-trans d0 d (behind_added q s d) h (decl-frame (recorder_declared (added_in (collect_names q)) s) d)

  pub added-behind : (s : Span) (c d : CheckScope) → c0.own ≡ None → d0.own ≡ None → c0.accepting ≡ [] → d0.accepting ≡ [] → c0.loops ≡ [] → d0.loops ≡ [] →
      c0.in_handler ≡ false → d0.in_handler ≡ false →
      kept_name q q.name.name.0 ≡ true → ((k : ℕ) → is_truth k ≡ true → kept_name q k ≡ true) →
      ((k : ℕ) (e : PExpr) → EveryExpr (kept_names q) k e → fixed d0.types e ≡ fixed c0.types e) → AreBefore c d → AreBehindTasks q c (behind_added q s d)
  added-behind s c d a a' b b' l l' i i' main real values h =
      let f : IsFrameOf d0 (behind_added q s d) = added-frame s d h.right in
      let like : AreAlike (kept_name q) c (behind_added q s d) = added-alike s c d h.alike in
      let names : ArePlain q.name.name.0 (behind_added q s d).names = added-plain s d h.plain in
      record {
        alike = like;
        truth =
            λ k t own p. ap (λ m. in_body_of own (shared_name m p)) (like (record { 0 = k }) (real k t)) ∙ ap (in_body_of own) (h.truth k t p) ∙ nothing own;
        values = λ k e p. ap (λ T. fixed T e) f.types ∙ values k e p ∙ sym (ap (λ T. fixed T e) h.left.types);
        calls = λ w other. name-free q.name.name.0 (behind_added q s d).names w.name w.span names other;
        recorder =
            λ t. name-free q.name.name.0 (behind_added q s d).names (added_id q recorder_text) t names
            (added-other q q.name.name recorder_text (still-kept q q.name.name.0 main) refl refl);
        units =
            λ w kept. own-beside q w (recorder_unit q) d.units (added-other q w.name recorder_text (still-kept q w.name.0 kept) refl refl) ∙ ap
            (λ us. entries_named q w us) h.units;
        own = h.left.own ∙ a;
        own' = f.own ∙ a';
        accepting = h.left.accepting ∙ b;
        accepting' = f.accepting ∙ b';
        loops = h.left.loops ∙ l;
        loops' = f.loops ∙ l';
        in_handler = h.left.in_handler ∙ i;
        in_handler' = f.in_handler ∙ i';
      }
    where
      nothing : (o : Option EnclosingUnit) → in_body_of o [] ≡ []
      nothing (Some x) = refl
      nothing None = refl

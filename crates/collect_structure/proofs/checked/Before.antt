-- What is known of what stands around, along the declarations of a normal form and of its collecting text.
use Rattle.std.proofs.Common.{◌≡◌, ℕ, ◌==◌, ◌||◌, not, Bool, true, false, cond, if◌then◌else◌, List, [], ◌∷◌, map, find, Option, Some, None, option_map, refl, sym, ap, subst, ◌∙◌, eqb-true, true≢false}
use Rattle.std.specs.List.{list_any}
use Rattle.ada_tree.specs.declared.naming.Span.{Span}
use Rattle.ada_tree.specs.declared.naming.Word.{Word}
use Rattle.ada_tree.specs.PlainDecl.{OPlain, OArray, PEntry, PTask, PDecl, DNumber, DObject, DEnumeration, DArray, DSubtype, DException, DIntIo, DPragma, DTask, DTaskBody, decl_then, no_decl}
use Rattle.ada_tree.specs.PlainExpr.{PExpr}
use Rattle.ada_tree.specs.PlainProgram.{PProgram}
use Rattle.ada_tree.specs.Every.{EveryExpr, EveryDecl}
use Rattle.syn_event.specs.Extents.{fixed}
use Rattle.syn_event.specs.declared.meanings.Meant.{Meant}
use Rattle.syn_event.specs.declared.meanings.Meant.TheVariants.{MainProcedure, TaskType, TaskOf, Shared, Inner}
use Rattle.syn_event.specs.CheckScope.{EnclosingUnit, CheckScope, meaning}
use Rattle.syn_event.specs.CheckSites.{with_meant, with_declared_object, with_object, meant_by_task, enclosing_unit, after_decl}
use Rattle.syn_event.specs.Extents.{is_array_type}
use Rattle.syn_event.specs.RuleSharedVariable.{shared_name, in_body_of}
use Rattle.normal_model.specs.Ranges.{word_at}
use Rattle.normal_laws.proofs.structure.numbers.Listed.{IsPlain}
use Rattle.normal_laws.proofs.structure.checked.MainScopes.{IsFrameOf, ArePlain, decls-plain, name-free, frame-trans, decl-frame}
use Rattle.normal_laws.specs.structure.numbers.Single.{IsSingle}
use Rattle.replay_structure.specs.checked.Checkable.{IsSameDecl}
use Rattle.replay_structure.proofs.checked.Scopes.{with_name, meant-beside}
use Rattle.replay_structure.proofs.checked.Units.{entries_named, own-beside}
use Rattle.collect_model.specs.declared.AddedNames.{AddedNames}
use Rattle.collect_model.specs.Names.{recorder_text, note_text, collect_names, added_in}
use Rattle.collect_model.specs.CollectTree.{entry_telling, task_telling, answer_declared, part_declared}
use Rattle.collect_model.specs.Recording.{recorder_declared}
use Rattle.collect_structure.specs.Names.{added_id, kept_name, kept_names}
use Rattle.collect_structure.specs.checked.Checkable.{is_truth, IsOtherThanTruths}
use Rattle.collect_structure.proofs.checked.Names.{added-other}
use Rattle.collect_structure.proofs.checked.Stays.{UsesStay}
use Rattle.collect_structure.proofs.checked.Alike.{AreAlike, meant-alike, decl-alike, new-alike, new-object}
use Rattle.collect_structure.proofs.checked.Bodies.{answer-new, part-new, AreBehindTasks}
use Rattle.common_lemmas.proofs.Truth.{or_both}
use Rattle.replay_structure.proofs.checked.Before.{single-none, units-decl}

-- ---- the truth values stay no variables

abbrev pub IsUnshared : CheckScope → Type 0
IsUnshared c = (n : ℕ) → is_truth n ≡ true → (s : Span) → shared_name (meaning c (record { 0 = n })) s ≡ []

-- a name that is no truth value is none of them
pub truth-other : (m n : ℕ) → is_truth m ≡ false → is_truth n ≡ true → (m == n) ≡ false
truth-other m n f t = by_test (m == n) refl
  where
    by_test : (b : Bool) → (m == n) ≡ b → b ≡ false
    by_test false e = refl
    by_test true e = absurd (true≢false (sym t ∙ ap is_truth (sym (eqb-true m n e)) ∙ f))

pub true-meant : (m : Meant) (c : CheckScope) (ws : List Word) → list_any (λ w. is_truth w.name.0) ws ≡ false → IsUnshared c → IsUnshared (with_meant m c ws)
true-meant m c [] n h = h
true-meant m c (w ∷ ws) n h =
    let f = or_both (is_truth w.name.0) (list_any (λ v. is_truth v.name.0) ws) n in
    true-meant m (with_name c w.name.0 m) ws f.1 (λ k t s. ap (λ o. shared_name o s) (meant-beside c w.name.0 m record { 0 = k } (truth-other w.name.0 k f.0 t)) ∙ h k t s)

pub true-value : (b : Bool) (c : CheckScope) (ws : List Word) → list_any (λ w. is_truth w.name.0) ws ≡ false → IsUnshared c → IsUnshared (with_declared_object b c ws)
true-value true c ws n h = true-meant Shared c ws n h
true-value false c ws n h = h

pub true-object : (m : Option Meant) (c : CheckScope) (mark : Word) (b : Bool) (ws : List Word) → list_any (λ w. is_truth w.name.0) ws ≡ false → IsUnshared c → IsUnshared (with_object c m mark b ws)
true-object (Some TaskType) c mark b ws n h = true-meant (TaskOf mark.name) c ws n h
true-object (Some MainProcedure) c mark b ws n h = true-value b c ws n h
true-object (Some (TaskOf x)) c mark b ws n h = true-value b c ws n h
true-object (Some Shared) c mark b ws n h = true-value b c ws n h
true-object (Some Inner) c mark b ws n h = true-value b c ws n h
true-object None c mark b ws n h = true-value b c ws n h

pub true-task : (t : PTask) (c : CheckScope) → IsUnshared c → IsUnshared (with_name c t.name.name.0 (meant_by_task t))
true-task t c h k u s = go (t.name.name.0 == k) t.of_kind
  where
    go : (a b : Bool) → shared_name (option_map (λ m. m.1) (cond a (Some (t.name.name.0, if b then TaskType else TaskOf t.name.name)) (find (λ m. m.0 == k) c.names))) s ≡ []
    go true true = refl
    go true false = refl
    go false b = h k u s

pub true-decl : (x : PDecl) (c : CheckScope) → IsOtherThanTruths x → IsUnshared c → IsUnshared (after_decl c x)
true-decl (DObject ws constant (OPlain x) i s) c n h = true-object (meaning c x.mark.name) c x.mark (not constant || is_array_type c.types x.mark.name) ws n h
true-decl (DObject ws constant (OArray r x) i s) c n h = true-object (meaning c x.mark.name) c x.mark true ws n h
true-decl (DTask t s) c n h = true-task t c h
true-decl (DNumber w e s) c n h = h
true-decl (DEnumeration w ws s) c n h = h
true-decl (DArray w r x s) c n h = h
true-decl (DSubtype w x s) c n h = h
true-decl (DException ws s) c n h = h
true-decl (DIntIo w s) c n h = h
true-decl (DPragma e s) c n h = h
true-decl (DTaskBody w objects its s) c n h = h

-- ---- units

pub entry-names : (n : AddedNames) (es : List PEntry) → map (λ (e : PEntry). e.name.name) (map (entry_telling n) es) ≡ map (λ (e : PEntry). e.name.name) es
entry-names n [] = refl
entry-names n (e ∷ es) = ap (λ l. e.name.name ∷ l) (entry-names n es)

pub unit-same : (n : AddedNames) (t : PTask) → enclosing_unit (task_telling n t) ≡ enclosing_unit t
unit-same n t = ap (λ es. record { name = t.name.name; entries = es }) (entry-names n t.entries)

module _ (q : PProgram) where
  abbrev pub n : AddedNames
  n = added_in (collect_names q)

  -- the recorder's unit
  abbrev pub recorder_unit : EnclosingUnit
  recorder_unit = record { name = added_id q recorder_text; entries = added_id q note_text ∷ [] }

  -- the scope behind the recorder
  abbrev pub behind_added : Span → CheckScope → CheckScope
  behind_added s d = after_decl d (recorder_declared n s)

-- ---- along declarations

module _ (q : PProgram) (c0 d0 : CheckScope) where
  -- What is known behind some declarations of main, in front of the recorder.
  pub record AreBefore (c d : CheckScope) : Type 0 where
    pub alike : AreAlike (kept_name q) c d
    pub left : IsFrameOf c0 c
    pub right : IsFrameOf d0 d
    pub units : d.units ≡ c.units
    pub truth : (k : ℕ) → is_truth k ≡ true → (s : Span) → shared_name (meaning c (record { 0 = k })) s ≡ []
    pub plain : ArePlain q.name.name.0 d.names

  -- what is the same by the first tables is so by those at the place
  pub same-there : (x : PDecl) (c d : CheckScope) → AreBefore c d → IsSameDecl c0.types d0.types x → IsSameDecl c.types d.types x
  same-there x c d h t = subst (λ T. IsSameDecl T d.types x) (sym h.left.types) (subst (λ U. IsSameDecl c0.types U x) (sym h.right.types) t)

  pub plain-before : (x : PDecl) (c d : CheckScope) → IsPlain x → EveryDecl (kept_names q) x → IsSingle x → IsOtherThanTruths x → IsSameDecl c0.types d0.types x → AreBefore c d → AreBefore (after_decl c x) (after_decl d x)
  plain-before x c d p e single other t h = record {
    alike = decl-alike (kept_name q) x c d e (same-there x c d h t) h.alike;
    left = frame-trans c0 c (after_decl c x) h.left (decl-frame x c);
    right = frame-trans d0 d (after_decl d x) h.right (decl-frame x d);
    units = units-decl x d p ∙ h.units ∙ sym (units-decl x c p);
    truth = true-decl x c other h.truth;
    plain = decls-plain q.name.name.0 (decl_then x no_decl) d (single-none q.name.name.0 x single, tt) h.plain;
  }

  -- a declaration of main that stands in the text alone, and gives no kept name a meaning
  pub new-before : (x : PDecl) (c d : CheckScope) → IsPlain x → IsSingle x → AreAlike (kept_name q) c (after_decl d x) → AreBefore c d → AreBefore c (after_decl d x)
  new-before x c d p single alike h = record {
    alike = alike;
    left = h.left;
    right = frame-trans d0 d (after_decl d x) h.right (decl-frame x d);
    units = units-decl x d p ∙ h.units;
    truth = h.truth;
    plain = decls-plain q.name.name.0 (decl_then x no_decl) d (single-none q.name.name.0 x single, tt) h.plain;
  }

  pub answer-before : (s : Span) (c d : CheckScope) → AreBefore c d → AreBefore c (after_decl d (answer_declared (n q) s))
  answer-before s c d h = new-before (answer_declared (n q) s) c d tt tt (new-object (kept_name q) (meaning d (record { 0 = 3 })) c d _ _ _ (answer-new q s) h.alike) h

  pub part-before : (s : Span) (c d : CheckScope) → AreBefore c d → AreBefore c (after_decl d (part_declared (n q) s))
  part-before s c d h = new-before (part_declared (n q) s) c d tt tt (new-object (kept_name q) (meaning d (record { 0 = 0 })) c d _ _ _ (part-new q s) h.alike) h

  pub task-before : (t : PTask) (s : Span) (c d : CheckScope) → t.of_kind ≡ false → AreBefore c d → AreBefore (after_decl c (DTask t s)) (after_decl d (DTask (task_telling (n q) t) s))
  task-before t s c d single h = record {
    alike = meant-alike (kept_name q) (meant_by_task t) c d (t.name ∷ []) h.alike;
    left = frame-trans c0 c (after_decl c (DTask t s)) h.left (decl-frame (DTask t s) c);
    right = frame-trans d0 d (after_decl d (DTask (task_telling (n q) t) s)) h.right (decl-frame (DTask (task_telling (n q) t) s) d);
    units = λ i. unit-same (n q) t i ∷ h.units i;
    truth = true-task t c h.truth;
    plain = decls-plain q.name.name.0 (decl_then (DTask (task_telling (n q) t) s) no_decl) d (single, tt) h.plain;
  }

  -- ---- behind the recorder

  module _ (own : c0.own ≡ None) (own' : d0.own ≡ None) where
    pub uses-there : (c d : CheckScope) → AreBefore c d → UsesStay q c d
    uses-there c d h id s kept m = ap (λ o. in_body_of o (shared_name (meaning d id) s)) (h.right.own ∙ own')

  added-alike : (s : Span) (c d : CheckScope) → AreAlike (kept_name q) c d → AreAlike (kept_name q) c (behind_added q s d)
  added-alike s c d h = new-alike (kept_name q) (TaskOf (added_id q recorder_text)) c d (word_at s (added_id q recorder_text) ∷ []) ((λ id o. added-other q id recorder_text o refl refl), tt) h

  added-plain : (s : Span) (d : CheckScope) → ArePlain q.name.name.0 d.names → ArePlain q.name.name.0 (behind_added q s d).names
  added-plain s d h = decls-plain q.name.name.0 (decl_then (recorder_declared (n q) s) no_decl) d (refl, tt) h

  pub added-frame : (s : Span) (d : CheckScope) → IsFrameOf d0 d → IsFrameOf d0 (behind_added q s d)
  added-frame s d h = frame-trans d0 d (behind_added q s d) h (decl-frame (recorder_declared (n q) s) d)

  pub added-behind : (s : Span) (c d : CheckScope) → c0.own ≡ None → d0.own ≡ None → c0.accepting ≡ [] → d0.accepting ≡ [] → c0.loops ≡ [] → d0.loops ≡ [] → c0.in_handler ≡ false → d0.in_handler ≡ false →
      kept_name q q.name.name.0 ≡ true → ((k : ℕ) → is_truth k ≡ true → kept_name q k ≡ true) →
      ((k : ℕ) (e : PExpr) → EveryExpr (kept_names q) k e → fixed d0.types e ≡ fixed c0.types e) → AreBefore c d → AreBehindTasks q c (behind_added q s d)
  added-behind s c d a a' b b' l l' i i' main real values h =
      let f : IsFrameOf d0 (behind_added q s d) = added-frame s d h.right in
      let like : AreAlike (kept_name q) c (behind_added q s d) = added-alike s c d h.alike in
      let names : ArePlain q.name.name.0 (behind_added q s d).names = added-plain s d h.plain in
      record {
        alike = like;
        truth = λ k t own p. ap (λ m. in_body_of own (shared_name m p)) (like (record { 0 = k }) (real k t)) ∙ ap (in_body_of own) (h.truth k t p) ∙ nothing own;
        values = λ k e p. ap (λ T. fixed T e) f.types ∙ values k e p ∙ sym (ap (λ T. fixed T e) h.left.types);
        calls = λ w other. name-free q.name.name.0 (behind_added q s d).names w.name w.span names other;
        recorder = λ t. name-free q.name.name.0 (behind_added q s d).names (added_id q recorder_text) t names (added-other q q.name.name recorder_text main refl refl);
        units = λ w kept. own-beside q w (recorder_unit q) d.units (added-other q w.name recorder_text kept refl refl) ∙ ap (λ us. entries_named q w us) h.units;
        own = h.left.own ∙ a;
        own' = f.own ∙ a';
        accepting = h.left.accepting ∙ b;
        accepting' = f.accepting ∙ b';
        loops = h.left.loops ∙ l;
        loops' = f.loops ∙ l';
        in_handler = h.left.in_handler ∙ i;
        in_handler' = f.in_handler ∙ i';
      }
    where
      nothing : (o : Option EnclosingUnit) → in_body_of o [] ≡ []
      nothing (Some x) = refl
      nothing None = refl

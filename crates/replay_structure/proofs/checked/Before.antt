-- What is known of what stands around, along the declarations of a normal form and of its replay text.
use Rattle.std.proofs.Common.{◌≡◌, ℕ, ◌==◌, ◌||◌, not, Bool, true, false, cond, if◌then◌else◌, List, [], ◌∷◌, find, Option, Some, None, option_map, refl, sym, ap, subst, ◌∙◌, true≢false}
use Rattle.std.specs.List.{list_any}
use Rattle.ada_tree.specs.declared.naming.NameId.{NameId}
use Rattle.ada_tree.specs.declared.naming.Span.{Span}
use Rattle.ada_tree.specs.declared.naming.Word.{Word}
use Rattle.ada_tree.specs.Attributes.{false_name}
use Rattle.ada_tree.specs.PlainDecl.{OPlain, OArray, PTask, PDecl, DNumber, DObject, DEnumeration, DArray, DSubtype, DException, DIntIo, DPragma, DTask, DTaskBody, decl_then, no_decl}
use Rattle.ada_tree.specs.PlainProgram.{PProgram}
use Rattle.ada_tree.specs.Every.{EveryDecl}
use Rattle.syn_event.specs.declared.meanings.Meant.{Meant}
use Rattle.syn_event.specs.declared.meanings.Meant.TheVariants.{MainProcedure, TaskType, TaskOf, Shared, Inner}
use Rattle.syn_event.specs.CheckScope.{EnclosingUnit, CheckScope, meaning}
use Rattle.syn_event.specs.CheckSites.{with_meant, with_declared_object, with_object, meant_by_task, after_decl}
use Rattle.syn_event.specs.Extents.{is_array_type}
use Rattle.syn_event.specs.RuleAcceptPlace.{is_among}
use Rattle.syn_event.specs.RuleSharedVariable.{shared_name, in_body_of}
use Rattle.normal_laws.proofs.structure.numbers.Listed.{IsPlain}
use Rattle.normal_laws.proofs.structure.checked.MainScopes.{IsFrameOf, decls-frame, ArePlain, IsNoType, decls-plain, name-free, frame-trans, decl-frame}
use Rattle.replay_model.specs.Names.{control_text, go_text, done_text, hold_text, idle_text, stop_text, rest_text, never_text, added_id, added_word}
use Rattle.replay_model.specs.ReplayTree.{permit_declared}
use Rattle.replay_model.specs.Controlling.{control_declared, idle_declared}
use Rattle.replay_structure.proofs.texts.Listed.{more_task}
use Rattle.replay_structure.specs.checked.Around.{kept_name, kept_names}
use Rattle.normal_laws.specs.structure.numbers.Single.{IsSingle}
use Rattle.replay_structure.specs.checked.Checkable.{IsOtherThanTruth, IsSameDecl}
use Rattle.replay_structure.proofs.checked.Names.{added-other}
use Rattle.replay_structure.proofs.checked.Scopes.{with_name, meant-beside}
use Rattle.replay_structure.proofs.checked.Stays.{UsesStay}
use Rattle.replay_structure.proofs.checked.Alike.{AreAlike, meant-alike, decl-alike, new-alike, new-object}
use Rattle.replay_structure.proofs.checked.Units.{AreMore, more-unit, entries_named, own-more, own-beside}
use Rattle.replay_structure.proofs.checked.Bodies.{permit-new, AreBehindTasks}

-- ---- one declaration

pub single-none : (main : ℕ) (x : PDecl) → IsSingle x → IsNoType main x
single-none main (DTask t s) h = h
single-none main (DTaskBody w objects its s) h = tt
single-none main (DNumber w e s) h = tt
single-none main (DObject ws c x i s) h = tt
single-none main (DEnumeration w ws s) h = tt
single-none main (DArray w r x s) h = tt
single-none main (DSubtype w x s) h = tt
single-none main (DException ws s) h = tt
single-none main (DIntIo w s) h = tt
single-none main (DPragma e s) h = tt

-- ---- units stay where no task is declared

pub units-meant : (m : Meant) (c : CheckScope) (ws : List Word) → (with_meant m c ws).units ≡ c.units
units-meant m c [] = refl
units-meant m c (w ∷ ws) = units-meant m (with_name c w.name.0 m) ws

pub units-value : (b : Bool) (c : CheckScope) (ws : List Word) → (with_declared_object b c ws).units ≡ c.units
units-value true c ws = units-meant Shared c ws
units-value false c ws = refl

pub units-object : (m : Option Meant) (c : CheckScope) (mark : Word) (b : Bool) (ws : List Word) → (with_object c m mark b ws).units ≡ c.units
units-object (Some TaskType) c mark b ws = units-meant (TaskOf mark.name) c ws
units-object (Some MainProcedure) c mark b ws = units-value b c ws
units-object (Some (TaskOf x)) c mark b ws = units-value b c ws
units-object (Some Shared) c mark b ws = units-value b c ws
units-object (Some Inner) c mark b ws = units-value b c ws
units-object None c mark b ws = units-value b c ws

pub units-decl : (x : PDecl) (c : CheckScope) → IsPlain x → (after_decl c x).units ≡ c.units
units-decl (DObject ws constant (OPlain x) i s) c p = units-object (meaning c x.mark.name) c x.mark (not constant || is_array_type c.types x.mark.name) ws
units-decl (DObject ws constant (OArray r x) i s) c p = units-object (meaning c x.mark.name) c x.mark true ws
units-decl (DNumber w e s) c p = refl
units-decl (DEnumeration w ws s) c p = refl
units-decl (DArray w r x s) c p = refl
units-decl (DSubtype w x s) c p = refl
units-decl (DException ws s) c p = refl
units-decl (DIntIo w s) c p = refl
units-decl (DPragma e s) c p = refl
units-decl (DTask t s) c p = absurd p
units-decl (DTaskBody w objects its s) c p = absurd p

-- ---- FALSE stays no variable

abbrev truth : NameId
truth = record { 0 = false_name }

abbrev IsUnshared : CheckScope → Type 0
IsUnshared c = (s : Span) → shared_name (meaning c truth) s ≡ []

true-meant : (m : Meant) (c : CheckScope) (ws : List Word) → list_any (λ w. w.name.0 == false_name) ws ≡ false → IsUnshared c → IsUnshared (with_meant m c ws)
true-meant m c [] n h = h
true-meant m c (w ∷ ws) n h =
    let f = parts (w.name.0 == false_name) (list_any (λ v. v.name.0 == false_name) ws) n in
    true-meant m (with_name c w.name.0 m) ws f.1 (λ s. ap (λ o. shared_name o s) (meant-beside c w.name.0 m truth f.0) ∙ h s)
  where
    parts : (a b : Bool) → (a || b) ≡ false → (a ≡ false) × (b ≡ false)
    parts true b e = absurd (true≢false e)
    parts false b e = (refl, e)

true-value : (b : Bool) (c : CheckScope) (ws : List Word) → list_any (λ w. w.name.0 == false_name) ws ≡ false → IsUnshared c → IsUnshared (with_declared_object b c ws)
true-value true c ws n h = true-meant Shared c ws n h
true-value false c ws n h = h

true-object : (m : Option Meant) (c : CheckScope) (mark : Word) (b : Bool) (ws : List Word) → list_any (λ w. w.name.0 == false_name) ws ≡ false → IsUnshared c → IsUnshared (with_object c m mark b ws)
true-object (Some TaskType) c mark b ws n h = true-meant (TaskOf mark.name) c ws n h
true-object (Some MainProcedure) c mark b ws n h = true-value b c ws n h
true-object (Some (TaskOf x)) c mark b ws n h = true-value b c ws n h
true-object (Some Shared) c mark b ws n h = true-value b c ws n h
true-object (Some Inner) c mark b ws n h = true-value b c ws n h
true-object None c mark b ws n h = true-value b c ws n h

true-task : (t : PTask) (c : CheckScope) → IsUnshared c → IsUnshared (with_name c t.name.name.0 (meant_by_task t))
true-task t c h s = go (t.name.name.0 == false_name) t.of_kind
  where
    go : (a b : Bool) → shared_name (option_map (λ k. k.1) (cond a (Some (t.name.name.0, if b then TaskType else TaskOf t.name.name)) (find (λ k. k.0 == false_name) c.names))) s ≡ []
    go true true = refl
    go true false = refl
    go false b = h s

true-decl : (x : PDecl) (c : CheckScope) → IsOtherThanTruth x → IsUnshared c → IsUnshared (after_decl c x)
true-decl (DObject ws constant (OPlain x) i s) c n h = true-object (meaning c x.mark.name) c x.mark (not constant || is_array_type c.types x.mark.name) ws n h
true-decl (DObject ws constant (OArray r x) i s) c n h = true-object (meaning c x.mark.name) c x.mark true ws n h
true-decl (DTask t s) c n h = true-task t c h
true-decl (DNumber w e s) c n h = h
true-decl (DEnumeration w ws s) c n h = h
true-decl (DArray w r x s) c n h = h
true-decl (DSubtype w x s) c n h = h
true-decl (DException ws s) c n h = h
true-decl (DIntIo w s) c n h = h
true-decl (DPragma e s) c n h = h
true-decl (DTaskBody w objects its s) c n h = h

-- ---- the controller and the idle task

module _ (q : PProgram) where
  -- their units
  abbrev pub control_unit : EnclosingUnit
  control_unit = record { name = added_id q control_text; entries = added_id q go_text ∷ added_id q done_text ∷ added_id q hold_text ∷ [] }

  abbrev pub idle_unit : EnclosingUnit
  idle_unit = record { name = added_id q idle_text; entries = added_id q stop_text ∷ added_id q rest_text ∷ [] }

  -- the scope behind these two
  abbrev pub behind_added : Span → ℕ → CheckScope → CheckScope
  behind_added s n d = after_decl (after_decl d (control_declared q s n)) (idle_declared q s)

-- ---- along declarations

module _ (q : PProgram) (c0 d0 : CheckScope) where
  -- What is known behind some declarations of main, in front of the controller.
  pub record AreBefore (c d : CheckScope) : Type 0 where
    pub alike : AreAlike q c d
    pub left : IsFrameOf c0 c
    pub right : IsFrameOf d0 d
    pub units : AreMore q c.units d.units
    pub truth : (s : Span) → shared_name (meaning c (record { 0 = false_name })) s ≡ []
    pub plain : ArePlain q.name.name.0 d.names

  units-same : (us us' vs vs' : List EnclosingUnit) → us' ≡ us → vs' ≡ vs → AreMore q us vs → AreMore q us' vs'
  units-same us us' vs vs' e f h = subst (λ l. AreMore q l vs') (sym e) (subst (λ l. AreMore q us l) (sym f) h)

  -- what is the same by the first tables is so by those at the place
  pub same-there : (x : PDecl) (c d : CheckScope) → AreBefore c d → IsSameDecl c0.types d0.types x → IsSameDecl c.types d.types x
  same-there x c d h t = subst (λ T. IsSameDecl T d.types x) (sym h.left.types) (subst (λ U. IsSameDecl c0.types U x) (sym h.right.types) t)

  pub plain-before : (x : PDecl) (c d : CheckScope) → IsPlain x → EveryDecl (kept_names q) x → IsSingle x → IsOtherThanTruth x → IsSameDecl c0.types d0.types x → AreBefore c d → AreBefore (after_decl c x) (after_decl d x)
  plain-before x c d p e single other t h = record {
    alike = decl-alike q x c d e (same-there x c d h t) h.alike;
    left = frame-trans c0 c (after_decl c x) h.left (decl-frame x c);
    right = frame-trans d0 d (after_decl d x) h.right (decl-frame x d);
    units = units-same c.units (after_decl c x).units d.units (after_decl d x).units (units-decl x c p) (units-decl x d p) h.units;
    truth = true-decl x c other h.truth;
    plain = decls-plain q.name.name.0 (decl_then x no_decl) d (single-none q.name.name.0 x single, tt) h.plain;
  }

  pub permit-before : (s : Span) (c d : CheckScope) → AreBefore c d → AreBefore c (after_decl d (permit_declared q s))
  permit-before s c d h = record {
    alike = new-object q (meaning d (record { 0 = 0 })) c d _ _ _ (permit-new q s) h.alike;
    left = h.left;
    right = frame-trans d0 d (after_decl d (permit_declared q s)) h.right (decl-frame (permit_declared q s) d);
    units = units-same c.units c.units d.units (after_decl d (permit_declared q s)).units refl (units-decl (permit_declared q s) d tt) h.units;
    truth = h.truth;
    plain = decls-plain q.name.name.0 (decl_then (permit_declared q s) no_decl) d (tt, tt) h.plain;
  }

  pub task-before : (t : PTask) (s : Span) (c d : CheckScope) → t.of_kind ≡ false → AreBefore c d → AreBefore (after_decl c (DTask t s)) (after_decl d (DTask (more_task q t) s))
  task-before t s c d single h = record {
    alike = meant-alike q (meant_by_task t) c d (t.name ∷ []) h.alike;
    left = frame-trans c0 c (after_decl c (DTask t s)) h.left (decl-frame (DTask t s) c);
    right = frame-trans d0 d (after_decl d (DTask (more_task q t) s)) h.right (decl-frame (DTask (more_task q t) s) d);
    units = (more-unit q t, h.units);
    truth = true-task t c h.truth;
    plain = decls-plain q.name.name.0 (decl_then (DTask (more_task q t) s) no_decl) d (single, tt) h.plain;
  }

  -- ---- behind the controller and the idle task

  module _ (own : c0.own ≡ None) (own' : d0.own ≡ None) where
    pub uses-there : (c d : CheckScope) → AreBefore c d → UsesStay q c d
    uses-there c d h id s kept m = ap (λ o. in_body_of o (shared_name (meaning d id) s)) (h.right.own ∙ own')

  added-alike : (s : Span) (n : ℕ) (c d : CheckScope) → AreAlike q c d → AreAlike q c (behind_added q s n d)
  added-alike s n c d h =
      new-alike q (TaskOf (added_id q idle_text)) c (after_decl d (control_declared q s n)) (added_word q s idle_text ∷ []) ((λ id o. added-other q id idle_text o refl refl), tt)
      (new-alike q (TaskOf (added_id q control_text)) c d (added_word q s control_text ∷ []) ((λ id o. added-other q id control_text o refl refl), tt) h)

  added-plain : (s : Span) (n : ℕ) (d : CheckScope) → ArePlain q.name.name.0 d.names → ArePlain q.name.name.0 (behind_added q s n d).names
  added-plain s n d h = decls-plain q.name.name.0 (decl_then (control_declared q s n) (decl_then (idle_declared q s) no_decl)) d (refl, (refl, tt)) h

  added-units : (s : Span) (n : ℕ) (c d : CheckScope) → AreMore q c.units d.units → (w : Word) → kept_name q w.name.0 ≡ true → (id : NameId) → is_among (entries_named q w c.units) id ≡ true →
      (is_among (entries_named q w (behind_added q s n d).units) id ≡ true) × (is_among (entries_named q w (behind_added q s n d).units) (added_id q never_text) ≡ true)
  added-units s n c d h w kept id m =
      subst (λ es. (is_among es id ≡ true) × (is_among es (added_id q never_text) ≡ true))
      (sym (own-beside q w (idle_unit q) (control_unit q ∷ d.units) (added-other q w.name idle_text kept refl refl) ∙ own-beside q w (control_unit q) d.units (added-other q w.name control_text kept refl refl))) (own-more q w c.units d.units h id m)

  pub added-frame : (s : Span) (n : ℕ) (d : CheckScope) → IsFrameOf d0 d → IsFrameOf d0 (behind_added q s n d)
  added-frame s n d h = frame-trans d0 d (behind_added q s n d) h (decls-frame (decl_then (control_declared q s n) (decl_then (idle_declared q s) no_decl)) d)

  pub added-behind : (s : Span) (n : ℕ) (c d : CheckScope) → c0.own ≡ None → d0.own ≡ None → c0.accepting ≡ [] → d0.accepting ≡ [] → c0.loops ≡ [] → d0.loops ≡ [] → c0.in_handler ≡ false → d0.in_handler ≡ false →
      kept_name q q.name.name.0 ≡ true → kept_name q false_name ≡ true → AreBefore c d → AreBehindTasks q c (behind_added q s n d)
  added-behind s n c d a a' b b' l l' i i' main real h =
      let f : IsFrameOf d0 (behind_added q s n d) = added-frame s n d h.right in
      let like : AreAlike q c (behind_added q s n d) = added-alike s n c d h.alike in
      let names : ArePlain q.name.name.0 (behind_added q s n d).names = added-plain s n d h.plain in
      record {
        alike = like;
        truth = λ own t. ap (λ m. in_body_of own (shared_name m t)) (like truth real) ∙ ap (in_body_of own) (h.truth t) ∙ nothing own;
        calls = λ w other. name-free q.name.name.0 (behind_added q s n d).names w.name w.span names other;
        control = λ t. name-free q.name.name.0 (behind_added q s n d).names (added_id q control_text) t names (added-other q q.name.name control_text main refl refl);
        idle = λ t. name-free q.name.name.0 (behind_added q s n d).names (added_id q idle_text) t names (added-other q q.name.name idle_text main refl refl);
        units = added-units s n c d h.units;
        own = h.left.own ∙ a;
        own' = f.own ∙ a';
        accepting = h.left.accepting ∙ b;
        accepting' = f.accepting ∙ b';
        loops = h.left.loops ∙ l;
        loops' = f.loops ∙ l';
        in_handler = h.left.in_handler ∙ i;
        in_handler' = f.in_handler ∙ i';
      }
    where
      nothing : (o : Option EnclosingUnit) → in_body_of o [] ≡ []
      nothing (Some x) = refl
      nothing None = refl

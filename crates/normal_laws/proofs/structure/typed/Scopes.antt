-- What can be used stays so in accepts, loops and handlers.
use Rattle.std.proofs.Common.{◌≡◌, ℕ, ◌==◌, ℤ, pos, Bool, true, false, ◌||◌, ◌&&◌, if◌then◌else◌, List, [], ◌∷◌, find, Option, Some, None, is_some, option_map, unwrap_or, IfSome, ◌⊎◌, inl, inr, refl, sym, ap, subst, ◌∙◌, true≢false, eqb-true}
use Rattle.std.specs.List.{AllByRecursion, list_any}
use Rattle.std.proofs.lemmas.List.Elements.{recursion_from_All}
use Rattle.common_lemmas.proofs.Lists.{all_back, all_front, all_joined}
use Rattle.ada_tree.specs.declared.naming.NameId.{NameId}
use Rattle.ada_tree.specs.declared.naming.Word.{Word}
use Rattle.ada_tree.specs.declared.statements.ParMode.{ParMode}
use Rattle.ada_tree.specs.Attributes.{false_name, true_name}
use Rattle.ada_tree.specs.PlainExpr.{PSubind}
use Rattle.ada_tree.specs.PlainStmt.{PFormal, PScheme, LWhile, LFor, PHead}
use Rattle.ada_tree.specs.PlainDecl.{PDecl}
use Rattle.ada_tree.specs.Every.{EveryFormal, EveryHead, EveryScheme, EveryWord}
use Rattle.ada_static_rules.specs.Scope.{Scope, NameMeaning, EntryPart, Thing, TypeMark, TaskType, SingleTask, TaskObject, TaskArray, Variable, ConstantObject, Parameter, LoopParameter, Literal, AnException, MainProcedure, AnotherUnit, Unclear, Range, Marking, ScalarMark, ArrayMark, TaskMark, NoMark, UnknownMark, UnclearMark, meaning, marking, mark_at, and_then}
use Rattle.ada_static_rules.specs.StaticValue.{value_named, mark_named}
use Rattle.ada_static_rules.specs.Declaring.{seen_as, with_name, with_names, inner_scope, formal_thing, with_formals, first_mark_of, loop_thing, drange_kind, with_loop_parameter}
use Rattle.ada_static_rules.specs.Demand.{declares, Site}
use Rattle.ada_static_rules.specs.Sites.{if_there, names_sites, all_names, formals_sites, accept_index_sites, head_sites, scheme_sites, loop_scope}
use Rattle.ada_static_rules.specs.RuleArgCount.{called_entry}
use Rattle.ada_static_rules.specs.RuleDuplicate.{is_predefined, is_among, fixes, introduces, duplicate}
use Rattle.syn_event.specs.declared.numbering.TaskInfo.{TaskInfo}
use Rattle.task_laws.specs.legal.rewritten_types.Agreement.{IsScalar}
use Rattle.syn_event.specs.Numbering.{task_named}
use Rattle.task_model.specs.Setting.{entry_of}
use Rattle.normal_model.specs.Names.{variable_name, member_name, task_name}
use Rattle.normal_model.specs.RewrittenUnit.{RewrittenUnit}
use Rattle.normal_model.specs.NormalTree.{tasks_beside}
use Rattle.normal_laws.specs.structure.asked.Pieces.{IsAmong}
use Rattle.normal_laws.specs.structure.checked.Around.{own_rules}
use Rattle.task_laws.specs.legal.alike_scopes.Alike.{Alike}
use Rattle.task_laws.proofs.legal.alike_scopes.Inner.{inside_is_alike, formals_are_alike, loop_is_alike}
use Rattle.normal_laws.specs.structure.typed.ScopeOf.{IsVariableOf, IsSeenWith, IsTaskThere, MeansLiteral, MeansInteger, IsLiteralOf, IsEntryOf, IsArrayOf, IsInnerName, IsPlaceOf, IsScopeOf}
use Rattle.normal_laws.proofs.structure.typed.Stays.{old-formals, old-drange}
use Rattle.common_lemmas.proofs.Truth.{or_left, clash}
use Rattle.task_laws.proofs.legal.rewritten_types.Refused.{no_word}

-- ---- names

pub differ : (f : ℕ → Bool) (a b : ℕ) (x y : Bool) → f a ≡ x → f b ≡ y → (x ≡ y → ⊥) → (a == b) ≡ false
differ f a b x y p q n = by_test (a == b) refl
  where
    by_test : (t : Bool) → (a == b) ≡ t → t ≡ false
    by_test false e = refl
    by_test true e = absurd (n (sym p ∙ ap f (eqb-true a b e) ∙ q))

-- what a name means where one more is declared
pub meaning-more : (thing : Thing) (s : Scope) (w : Word) (id : NameId) → meaning (with_name thing s w) id ≡ (if w.name.0 == id.0 then Some thing else meaning s id)
meaning-more thing s w id = by_test (w.name.0 == id.0)
  where
    by_test : (b : Bool) → option_map (λ (x : NameMeaning). x.thing) (if b then Some (seen_as thing w.name.0) else find (λ (x : NameMeaning). x.name == id.0) s.names) ≡ (if b then Some thing else meaning s id)
    by_test true = refl
    by_test false = refl

-- what is declared is not predefined
pub once-new : (before : List Site) (s : Scope) (w : Word) → duplicate before s (declares false w) ≡ [] → is_predefined w.name.0 ≡ false
once-new before s w e =
    or_left (is_predefined w.name.0) (is_among s.here w.name.0)
    (or_left (is_predefined w.name.0 || is_among s.here w.name.0) (list_any (fixes w.name.0) before)
    (or_left (is_predefined w.name.0 || is_among s.here w.name.0 || list_any (fixes w.name.0) before) (false && list_any (introduces w.name.0) before) (no_word _ w e)))

-- ---- things that are no tasks

-- no task, no task type and not the main procedure
abbrev pub IsNoTask : Option Thing → Type 0
IsNoTask (Some (TaskType es)) = ⊥
IsNoTask (Some (SingleTask es)) = ⊥
IsNoTask (Some (TaskObject es)) = ⊥
IsNoTask (Some (TaskArray range es)) = ⊥
IsNoTask (Some MainProcedure) = ⊥
IsNoTask _ = Prim.Unit {0}

seen-so : (es : List EntryPart) (o : Option Thing) → IsNoTask o → IsSeenWith es o
seen-so es None h = tt
seen-so es (Some (TypeMark m)) h = tt
seen-so es (Some (TaskType xs)) h = absurd h
seen-so es (Some (SingleTask xs)) h = absurd h
seen-so es (Some (TaskObject xs)) h = absurd h
seen-so es (Some (TaskArray range xs)) h = absurd h
seen-so es (Some (Variable m)) h = tt
seen-so es (Some (ConstantObject m)) h = tt
seen-so es (Some (Parameter mode m)) h = tt
seen-so es (Some (LoopParameter m)) h = tt
seen-so es (Some (Literal k)) h = tt
seen-so es (Some AnException) h = tt
seen-so es (Some MainProcedure) h = absurd h
seen-so es (Some AnotherUnit) h = tt
seen-so es (Some Unclear) h = tt

pub not-called : (o : Option Thing) (name : NameId) (part : EntryPart) → IsNoTask o → called_entry o name ≡ Some part → ⊥
not-called None name part h e = cc
not-called (Some (TypeMark m)) name part h e = cc
not-called (Some (TaskType xs)) name part h e = absurd h
not-called (Some (SingleTask xs)) name part h e = absurd h
not-called (Some (TaskObject xs)) name part h e = absurd h
not-called (Some (TaskArray range xs)) name part h e = absurd h
not-called (Some (Variable m)) name part h e = cc
not-called (Some (ConstantObject m)) name part h e = cc
not-called (Some (Parameter mode m)) name part h e = cc
not-called (Some (LoopParameter m)) name part h e = cc
not-called (Some (Literal k)) name part h e = cc
not-called (Some AnException) name part h e = cc
not-called (Some MainProcedure) name part h e = absurd h
not-called (Some AnotherUnit) name part h e = cc
not-called (Some Unclear) name part h e = cc

pub formal-no-task : (mode : ParMode) (m : Marking) → IsNoTask (Some (formal_thing mode m))
formal-no-task mode (ScalarMark m k) = tt
formal-no-task mode (ArrayMark m range part) = tt
formal-no-task mode (TaskMark es) = tt
formal-no-task mode NoMark = tt
formal-no-task mode UnknownMark = tt
formal-no-task mode UnclearMark = tt

pub loop-no-task : (o : Option ℕ) → IsNoTask (Some (loop_thing o))
loop-no-task (Some m) = tt
loop-no-task None = tt

module _ (u : RewrittenUnit) (own : ℕ → Bool) (vars : List PDecl) where
  -- a name that an inner scope declares
  pub record IsInner (id : NameId) : Type 0 where
    inner : IsInnerName u.setting id
    mine : own id.0 ≡ true
    new : is_predefined id.0 ≡ false

  -- a name from which all of these differ
  abbrev pub IsOuter : NameId → Type 0
  IsOuter id = (x : NameId) → IsInner x → (x.0 == id.0) ≡ false

  -- what two scopes become where inner names are declared
  pub record IsStep (c d c' d' : Scope) : Type 0 where
    owned : c'.own ≡ c.own
    types : d'.types ≡ d.types
    left : (id : NameId) → (meaning c' id ≡ meaning c id) ⊎ IsNoTask (meaning c' id)
    right : (id : NameId) → IsOuter id → meaning d' id ≡ meaning d id

  no-step : (c d c' d' : Scope) → c'.own ≡ c.own → d'.types ≡ d.types → ((id : NameId) → meaning c' id ≡ meaning c id) → ((id : NameId) → meaning d' id ≡ meaning d id) → IsStep c d c' d'
  no-step c d c' d' p q f g = record { owned = p; types = q; left = λ id. inl (f id); right = λ id o. g id }

  two-steps : (c d c' d' c'' d'' : Scope) → IsStep c d c' d' → IsStep c' d' c'' d'' → IsStep c d c'' d''
  two-steps c d c' d' c'' d'' h i = record {
    owned = i.owned ∙ h.owned;
    types = i.types ∙ h.types;
    left = λ id. by_left id (i.left id);
    right = λ id o. i.right id o ∙ h.right id o;
  }
    where
      first : (id : NameId) → meaning c'' id ≡ meaning c' id → (meaning c' id ≡ meaning c id) ⊎ IsNoTask (meaning c' id) → (meaning c'' id ≡ meaning c id) ⊎ IsNoTask (meaning c'' id)
      first id e (inl f) = inl (e ∙ f)
      first id e (inr n) = inr (subst IsNoTask (sym e) n)

      by_left : (id : NameId) → (meaning c'' id ≡ meaning c' id) ⊎ IsNoTask (meaning c'' id) → (meaning c'' id ≡ meaning c id) ⊎ IsNoTask (meaning c'' id)
      by_left id (inl e) = first id e (h.left id)
      by_left id (inr n) = inr n

  one-step : (thing thing' : Thing) → IsNoTask (Some thing) → (w : Word) → IsInner w.name → (c d : Scope) → IsStep c d (with_name thing c w) (with_name thing' d w)
  one-step thing thing' free w inner c d = record {
    owned = refl;
    types = refl;
    left = λ id. by_test id (w.name.0 == id.0) (meaning-more thing c w id);
    right = λ id o. meaning-more thing' d w id ∙ ap (λ b. if b then Some thing' else meaning d id) (o w.name inner);
  }
    where
      by_test : (id : NameId) (b : Bool) → meaning (with_name thing c w) id ≡ (if b then Some thing else meaning c id) → (meaning (with_name thing c w) id ≡ meaning c id) ⊎ IsNoTask (meaning (with_name thing c w) id)
      by_test id true e = inr (subst IsNoTask (sym e) free)
      by_test id false e = inl e

  abbrev AreInner : List Word → Type 0
  AreInner ws = AllByRecursion (λ w. IsInner w.name) ws

  names-step : (thing thing' : Thing) → IsNoTask (Some thing) → (ws : List Word) → AreInner ws → (c d : Scope) → IsStep c d (with_names thing c ws) (with_names thing' d ws)
  names-step thing thing' free [] h c d = no-step c d c d refl refl (λ id. refl) (λ id. refl)
  names-step thing thing' free (w ∷ ws) h c d =
      two-steps c d (with_name thing c w) (with_name thing' d w) _ _ (one-step thing thing' free w h.0 c d) (names-step thing thing' free ws h.1 (with_name thing c w) (with_name thing' d w))

  formals-step : (fs : List PFormal) → AreInner (all_names fs) → (c d : Scope) → IsStep c d (with_formals c fs) (with_formals d fs)
  formals-step [] h c d = no-step c d c d refl refl (λ id. refl) (λ id. refl)
  formals-step (f ∷ fs) h c d =
      let thing = formal_thing f.mode (marking c f.mark.name) in
      let thing' = formal_thing f.mode (marking d f.mark.name) in
      two-steps c d (with_names thing c f.names) (with_names thing' d f.names) _ _
      (names-step thing thing' (formal-no-task f.mode (marking c f.mark.name)) f.names (all_front (λ w. IsInner w.name) f.names (all_names fs) h) c d)
      (formals-step fs (all_back (λ w. IsInner w.name) f.names (all_names fs) h) (with_names thing c f.names) (with_names thing' d f.names))

  inside-step : (c d : Scope) → IsStep c d (inner_scope c) (inner_scope d)
  inside-step c d = no-step c d (inner_scope c) (inner_scope d) refl refl (λ id. refl) (λ id. refl)

  -- ---- what is outer

  outer-variable : (k : ℕ) → own (variable_name u.setting k).0 ≡ false → IsOuter (variable_name u.setting k)
  outer-variable k e x i = differ own x.0 (variable_name u.setting k).0 true false i.mine e true≢false

  outer-task : (info : TaskInfo) → IsAmong info (tasks_beside u.setting) → ((z : ℤ) → info.member ≡ Some z → own (task_name u.setting info).0 ≡ false) → IsOuter (task_name u.setting info)
  outer-task info among new x i = by_member info.member refl
    where
      by_member : (m : Option ℤ) → info.member ≡ m → (x.0 == (task_name u.setting info).0) ≡ false
      by_member None e = ap (λ m. x.0 == (member_name u.setting info.name m).0) e ∙ i.inner.tasks info among e
      by_member (Some z) e = differ own x.0 (task_name u.setting info).0 true false i.mine (new z e) true≢false

  outer-predefined : (n : ℕ) → is_predefined n ≡ true → IsOuter (record { 0 = n })
  outer-predefined n e x i = differ is_predefined x.0 n false true i.new e clash

  outer-literal : (id : NameId) (k n : ℕ) → IsLiteralOf u.setting.types id k n → IsOuter id
  outer-literal id k n l x i = differ (λ m. is_some (value_named u.setting.types (record { 0 = m }))) x.0 id.0 false true (ap is_some i.inner.value) (ap is_some l.value) clash

  -- ---- what can be used stays

  module _ (c d c' d' : Scope) (step : IsStep c d c' d') where
    literal-kept : (id : NameId) (k : ℕ) (z : _) → IsOuter id → MeansLiteral d id k z → MeansLiteral d' id k z
    literal-kept id k z o h = (step.right id o ∙ h.0, subst (λ T. value_named T id ≡ Some z) (sym step.types) h.1)

    variable-kept : (id : NameId) (x : PSubind) → IsOuter id → IsVariableOf u.setting.types d id x → IsVariableOf u.setting.types d' id x
    variable-kept id x o v = record {
      place = v.place;
      mark = v.mark;
      means = step.right id o ∙ v.means;
      there = subst (λ T. mark_at T v.place ≡ Some v.mark) (sym step.types) v.there;
      scalar = subst (λ T. IsScalar T v.mark.kind) (sym step.types) v.scalar;
      limits = v.limits;
      changes = subst (λ T. value_named T id ≡ None) (sym step.types) v.changes;
    }

    integer-kept : MeansInteger d → MeansInteger d'
    integer-kept h = record {
      place = h.place;
      mark = h.mark;
      means = step.right (record { 0 = 0 }) (outer-predefined 0 refl) ∙ h.means;
      there = subst (λ T. mark_at T h.place ≡ Some h.mark) (sym step.types) h.there;
      kind = h.kind;
      scalar = subst (λ T. IsScalar T h.mark.kind) (sym step.types) h.scalar;
      named = subst (λ T. mark_named T (record { 0 = 0 }) ≡ Some h.mark) (sym step.types) h.named;
      first = h.first;
    }

    task-kept : (info : TaskInfo) → IsAmong info (tasks_beside u.setting) → ((z : ℤ) → info.member ≡ Some z → own (task_name u.setting info).0 ≡ false) → IsTaskThere u.setting c d info → IsTaskThere u.setting c' d' info
    task-kept info among new h = record {
      entries = h.entries;
      means = step.right (task_name u.setting info) (outer-task info among new) ∙ h.means;
      seen = by_left (step.left info.name);
    }
      where
        by_left : (meaning c' info.name ≡ meaning c info.name) ⊎ IsNoTask (meaning c' info.name) → IsSeenWith h.entries (meaning c' info.name)
        by_left (inl e) = subst (IsSeenWith h.entries) (sym e) h.seen
        by_left (inr n) = seen-so h.entries (meaning c' info.name) n

    pub inner-scope : Alike own c' d' → IsScopeOf u own vars c d → IsScopeOf u own vars c' d'
    inner-scope alike rel = record {
      alike = alike;
      variables = λ s x k v. let q = rel.variables s x k v in (variable-kept (variable_name u.setting k) x (outer-variable k q.1) q.0, q.1);
      tasks = λ info among. let q = rel.tasks info among in (task-kept info among q.1 q.0, q.1);
      integer = integer-kept rel.integer;
      falses = literal-kept (record { 0 = false_name }) _ _ (outer-predefined false_name refl) rel.falses;
      trues = literal-kept (record { 0 = true_name }) _ _ (outer-predefined true_name refl) rel.trues;
      literals = λ id k n l. literal-kept id k (pos n) (outer-literal id k n l) (rel.literals id k n l);
      program_error = step.right (record { 0 = 8 }) (outer-predefined 8 refl) ∙ rel.program_error;
      called = λ id name part e. by_called id name part e (step.left id);
      accepted = λ name part e. rel.accepted name part (ap (λ l. find (λ (x : EntryPart). x.name.0 == name.0) l) (sym step.owned) ∙ e);
      arrays = λ id range es e. by_array id range es e (step.left id);
    }
      where
        by_called : (id name : NameId) (part : EntryPart) → called_entry (meaning c' id) name ≡ Some part → (meaning c' id ≡ meaning c id) ⊎ IsNoTask (meaning c' id) → IsEntryOf u.setting (entry_of u.setting.numbers (unwrap_or (task_named u.setting.numbers id) 0) name) part
        by_called id name part e (inl f) = rel.called id name part (ap (λ o. called_entry o name) (sym f) ∙ e)
        by_called id name part e (inr n) = absurd (not-called (meaning c' id) name part n e)

        by_array : (id : NameId) (range : Range) (es : List EntryPart) → meaning c' id ≡ Some (TaskArray range es) → (meaning c' id ≡ meaning c id) ⊎ IsNoTask (meaning c' id) → IsArrayOf u.setting id range
        by_array id range es e (inl f) = rel.arrays id range es (sym f ∙ e)
        by_array id range es e (inr n) = absurd (subst IsNoTask e n)

  -- ---- accepts and loops

  words-inner : (ws : List Word) (s : Scope) → AllByRecursion (λ (w : Word). own w.name.0 ≡ true) ws → AllByRecursion (IsPlaceOf u.setting) (names_sites false s ws) → AreInner ws
  words-inner [] s o h = tt
  words-inner (w ∷ ws) s o h = (
    record { inner = h.0.2; mine = o.0; new = once-new h.0.0.before s w h.0.0.once },
    words-inner ws _ o.1 h.1,
  )

  names-own : (fs : List PFormal) → AllByRecursion (EveryFormal (own_rules own)) fs → AllByRecursion (λ (w : Word). own w.name.0 ≡ true) (all_names fs)
  names-own [] h = tt
  names-own (f ∷ fs) h = all_joined (λ (w : Word). own w.name.0 ≡ true) f.names (all_names fs) (recursion_from_All (EveryWord (own_rules own)) f.names h.0.0.1) (names-own fs h.1)

  -- the entries of the own task stay
  pub accept-own : (c : Scope) (fs : List PFormal) → (with_formals (inner_scope c) fs).own ≡ c.own
  accept-own c fs = go fs (inner_scope c)
    where
      one : (thing : Thing) (ws : List Word) (s : Scope) → (with_names thing s ws).own ≡ s.own
      one thing [] s = refl
      one thing (w ∷ ws) s = one thing ws (with_name thing s w)

      go : (fs : List PFormal) (s : Scope) → (with_formals s fs).own ≡ s.own
      go [] s = refl
      go (f ∷ fs) s = go fs (with_names (formal_thing f.mode (marking s f.mark.name)) s f.names) ∙ one (formal_thing f.mode (marking s f.mark.name)) f.names s

  pub loop-own : (c : Scope) (x : Option PScheme) → (loop_scope c x).own ≡ c.own
  loop-own c None = refl
  loop-own c (Some (LWhile e)) = refl
  loop-own c (Some (LFor w backwards x)) = refl

  pub accept-scope : (c d : Scope) (k : ℕ) (h : PHead) → EveryHead (own_rules own) k h → AllByRecursion (IsPlaceOf u.setting) (head_sites c h) → IsScopeOf u own vars c d →
      IsScopeOf u own vars (with_formals (inner_scope c) h.formals) (with_formals (inner_scope d) h.formals)
  accept-scope c d k h every m rel =
      let fs = recursion_from_All (EveryFormal (own_rules own)) h.formals every.2 in
      let sites = all_front (IsPlaceOf u.setting) (names_sites false (inner_scope c) (all_names h.formals)) _ (all_back (IsPlaceOf u.setting) (if_there (accept_index_sites c _) h.index) (formals_sites c h.formals) m.1) in
      inner-scope c d (with_formals (inner_scope c) h.formals) (with_formals (inner_scope d) h.formals)
      (two-steps c d (inner_scope c) (inner_scope d) _ _ (inside-step c d) (formals-step h.formals (words-inner (all_names h.formals) (inner_scope c) (names-own h.formals fs) sites) (inner_scope c) (inner_scope d)))
      (formals_are_alike own (inner_scope c) (inner_scope d) (inside_is_alike own c d rel.alike) h.formals (old-formals own h.formals fs)) rel

  pub loop-scope : (c d : Scope) (k : ℕ) (x : Option PScheme) → IfSome x (EveryScheme (own_rules own) k) → AllByRecursion (IsPlaceOf u.setting) (if_there (scheme_sites c) x) → IsScopeOf u own vars c d → IsScopeOf u own vars (loop_scope c x) (loop_scope d x)
  loop-scope c d k None every m rel = rel
  loop-scope c d k (Some (LWhile e)) every m rel = rel
  loop-scope c d k (Some (LFor w backwards x)) every m rel =
      let inner : AreInner (w ∷ []) = words-inner (w ∷ []) (inner_scope c) (every.0, tt) (m.0, tt) in
      inner-scope c d (with_loop_parameter c w x) (with_loop_parameter d w x)
      (two-steps c d (inner_scope c) (inner_scope d) _ _ (inside-step c d) (one-step _ _ (loop-no-task (and_then (first_mark_of c.types) (drange_kind c x))) w inner.0 (inner_scope c) (inner_scope d)))
      (loop_is_alike own c d rel.alike w x (old-drange own k x every.1)) rel

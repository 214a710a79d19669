-- The bodies of a normal form: no two are of one task, and what stands in each is fine beside the fixed names.
use Rattle.std.proofs.Common.{◌≡◌, ℕ, ◌+◌, ◌<◌, ◌≤◌, ◌^◌, Bool, true, false, ◌||◌, ◌==◌, List, [], ◌∷◌, ◌++◌, length, map, flat_map, slice_get, Some, refl, sym, ap, ap₂, ◌∙◌, subst, true≢false, arith}
use Rattle.std.specs.List.{AllByRecursion}
use Rattle.common_lemmas.proofs.Lists.{all_front, all_back, all_joined, all_weaker, all_by_place}
use Rattle.std.proofs.lemmas.Bool.{or_from, or_left, or_right, eqb-true, eq-eqb}
use Rattle.std.proofs.lemmas.List.{map-append}
use Rattle.std.proofs.lemmas.Grind.{flat_map-append}
use Rattle.std.proofs.lemmas.List.Elements.{recursion_from_All}
use Rattle.ada_tree.specs.declared.naming.Word.{Word}
use Rattle.ada_tree.specs.PlainStmt.{PBody}
use Rattle.ada_tree.specs.PlainDecl.{PDecl, DNumber, DObject, DEnumeration, DArray, DSubtype, DException, DIntIo, DPragma, DTask, DTaskBody, PDecls, no_decl, decl_then, decls_of}
use Rattle.ada_tree.specs.PlainProgram.{PProgram}
use Rattle.ada_tree.specs.Every.{Rules, EveryWord, EveryDecl, EveryDecls, EveryBody}
use Rattle.ada_static_rules.specs.Scope.{Scope}
use Rattle.ada_static_rules.specs.Declaring.{after_decl}
use Rattle.ada_static_rules.specs.Refusals.{types_in}
use Rattle.ada_static_rules.specs.RuleDuplicate.{is_among}
use Rattle.ada_static_rules.specs.Sites.{with_words, decl_sites, decls_sites, sites}
use Rattle.syn_event.specs.declared.numbering.TaskInfo.{TaskInfo}
use Rattle.syn_event.specs.AllNumbers.{info_of_task}
use Rattle.syn_event.specs.NamedTasks.{NumberedTask}
use Rattle.syn_event.specs.DeclaredTasks.{decl_list}
use Rattle.syn_event.proofs.Nothing.{test_fails}
use Rattle.task_model.specs.Setting.{Setting}
use Rattle.task_laws.specs.legal.sites.Met.{IsMet}
use Rattle.task_laws.proofs.legal.rewritten_types.Lookups.{place-all}
use Rattle.normal_model.specs.Names.{variable_name, task_name}
use Rattle.normal_model.specs.NormalStmts.{normal_body, unit_variables}
use Rattle.normal_model.specs.NormalTree.{decls_front, tasks_beside, unit_for, first_running, running, body_copy, bodies_of}
use Rattle.normal_model.specs.RewrittenUnit.{RewrittenUnit}
use Rattle.syn_event.proofs.DeclLists.{listed_back}
use Rattle.normal_laws.proofs.structure.units.Tasks.{list-front}
use Rattle.normal_laws.specs.runs.forms.Normalisable.{numbers_of, setting_for, NamesTell}
use Rattle.normal_laws.proofs.runs.forms.Numbered.{unit-numbered}
use Rattle.normal_laws.specs.existence.units.Weights.{body_weight, AreLight}
use Rattle.normal_laws.proofs.existence.units.Few.{body-few}
use Rattle.normal_laws.proofs.existence.units.Fields.{legal_names_tell}
use Rattle.normal_laws.proofs.existence.seen_tasks.Finding.{all-filtered}
use Rattle.normal_laws.specs.existence.Laws.{IsLegalOriginal}
use Rattle.ada_decl_rules.specs.duplicates.NamedSoFar.{object_words}
use Rattle.ada_decl_rules.proofs.duplicates.Behind.{with_names_is}
use Rattle.ada_decl_rules.specs.declared.duplicates.namings_in_order.Naming.{Naming}
use Rattle.ada_decl_rules.specs.duplicates.NamingsInOrder.{namings_of, declared}
use Rattle.normal_laws.specs.structure.once.Apart.{IsFreeOf, AreApart, AreDistinct, fixed_names, IsFitIn}
use Rattle.normal_laws.specs.structure.once.Names.{body_names, inner_names, bodies_names, IsFitDecl}
use Rattle.normal_laws.proofs.structure.once.Once.{one-apart, one-free, apart-none, apart-front, apart-back, apart-both, distinct-both}
use Rattle.ada_decl_rules.proofs.duplicates.Noting.{declared_append}
use Rattle.normal_laws.proofs.structure.once.Rewritten.{body-same}
use Rattle.normal_laws.proofs.legality.declares_once.Apart.{all-free, distinct-kept}
use Rattle.normal_laws.proofs.legality.declares_once.Ids.{IsGoodId, good-new, variable-new}
use Rattle.normal_laws.proofs.legality.declares_once.Good.{good_names}
use Rattle.normal_laws.proofs.legality.declares_once.Inner.{declared-inner, body-inner}
use Rattle.normal_laws.proofs.legality.declares_once.DeclaredNames.{word_ids, free-words}
use Rattle.normal_laws.proofs.legality.declares_once.Firsts.{words-good}
use Rattle.normal_laws.proofs.legality.declares_once.Variables.{IsCovered, covered-old, variables-covered}
use Rattle.normal_laws.proofs.legality.declares_once.Tasks.{tasks-distinct, ys, task_id}

-- ---- the bodies among declarations

-- the tasks of bodies
abbrev pub body_ids : List PDecl → List ℕ
body_ids [] = []
body_ids (DTaskBody w objects its s ∷ ds) = w.name.0 ∷ body_ids ds
body_ids (_ ∷ ds) = body_ids ds

pub ids-joined : (xs zs : List PDecl) → body_ids (xs ++ zs) ≡ body_ids xs ++ body_ids zs
ids-joined [] zs = refl
ids-joined (DTaskBody w objects its s ∷ xs) zs = ap (λ (l : List ℕ). w.name.0 ∷ l) (ids-joined xs zs)
ids-joined (d ∷ xs) zs = ids-joined xs zs

abbrev BodiesOnce : List ℕ → List ℕ → Type 0
BodiesOnce before ids = AreApart before ids × AreDistinct ids

skipped : (before more ids : List ℕ) → more ≡ before → BodiesOnce more ids → BodiesOnce before ids
skipped before more ids e h = (subst (λ (l : List ℕ). AreApart l ids) e h.0, h.1)

-- each task of a program that meets the rules has one body
bodies-once : (ds : PDecls) (s : Scope) → AllByRecursion IsMet (decls_sites s ds) → BodiesOnce s.bodies (body_ids (decl_list ds))
bodies-once no_decl s met = (tt, tt)
bodies-once (decl_then (DTaskBody w objects its sp) rest) s met =
    let d : PDecl = DTaskBody w objects its sp in
    let ids : List ℕ = body_ids (decl_list rest) in
    let here = all_front IsMet (decl_sites s d) (decls_sites (after_decl s d) rest) met in
    let later : BodiesOnce (w.name.0 ∷ s.bodies) ids = bodies-once rest (after_decl s d) (all_back IsMet (decl_sites s d) (decls_sites (after_decl s d) rest) met) in
    ((test_fails (is_among s.bodies w.name.0) w.span here.0.once, apart-back (w.name.0 ∷ []) s.bodies ids later.0), (one-free ids w.name.0 (apart-front (w.name.0 ∷ []) s.bodies ids later.0), later.1))
bodies-once (decl_then (DObject ws c x i sp) rest) s met =
    skipped s.bodies _ _ (ap (λ (t : Scope). t.bodies) (with_names_is _ _ ws)) (bodies-once rest (after_decl s (DObject ws c x i sp)) (all_back IsMet (decl_sites s (DObject ws c x i sp)) (decls_sites (after_decl s (DObject ws c x i sp)) rest) met))
bodies-once (decl_then (DEnumeration w ws sp) rest) s met =
    skipped s.bodies _ _ (ap (λ (t : Scope). t.bodies) (with_names_is _ _ ws)) (bodies-once rest (after_decl s (DEnumeration w ws sp)) (all_back IsMet (decl_sites s (DEnumeration w ws sp)) (decls_sites (after_decl s (DEnumeration w ws sp)) rest) met))
bodies-once (decl_then (DException ws sp) rest) s met =
    skipped s.bodies _ _ (ap (λ (t : Scope). t.bodies) (with_names_is _ _ ws)) (bodies-once rest (after_decl s (DException ws sp)) (all_back IsMet (decl_sites s (DException ws sp)) (decls_sites (after_decl s (DException ws sp)) rest) met))
bodies-once (decl_then (DNumber w e sp) rest) s met = bodies-once rest (after_decl s (DNumber w e sp)) (all_back IsMet (decl_sites s (DNumber w e sp)) (decls_sites (after_decl s (DNumber w e sp)) rest) met)
bodies-once (decl_then (DArray w q x sp) rest) s met = bodies-once rest (after_decl s (DArray w q x sp)) (all_back IsMet (decl_sites s (DArray w q x sp)) (decls_sites (after_decl s (DArray w q x sp)) rest) met)
bodies-once (decl_then (DSubtype w x sp) rest) s met = bodies-once rest (after_decl s (DSubtype w x sp)) (all_back IsMet (decl_sites s (DSubtype w x sp)) (decls_sites (after_decl s (DSubtype w x sp)) rest) met)
bodies-once (decl_then (DIntIo w sp) rest) s met = bodies-once rest (after_decl s (DIntIo w sp)) (all_back IsMet (decl_sites s (DIntIo w sp)) (decls_sites (after_decl s (DIntIo w sp)) rest) met)
bodies-once (decl_then (DPragma e sp) rest) s met = bodies-once rest (after_decl s (DPragma e sp)) (all_back IsMet (decl_sites s (DPragma e sp)) (decls_sites (after_decl s (DPragma e sp)) rest) met)
bodies-once (decl_then (DTask t sp) rest) s met = bodies-once rest (after_decl s (DTask t sp)) (all_back IsMet (decl_sites s (DTask t sp)) (decls_sites (after_decl s (DTask t sp)) rest) met)

module _ (p : PProgram) (h : IsLegalOriginal p) where
  abbrev g : Setting
  g = setting_for p

  abbrev name : TaskInfo → ℕ
  name i = (task_name g i).0

  -- ---- the tasks that run bodies

  abbrev runs : PDecl → List TaskInfo
  runs (DTaskBody w objects its s) = running g w.name
  runs _ = []

  copy-ids : (d : PDecl) → body_ids (bodies_of g d) ≡ map name (runs d)
  copy-ids (DTaskBody w objects its s) = copies (running g w.name)
    where
      copies : (infos : List TaskInfo) →
          body_ids (map (body_copy g w objects (unit_variables (unit_for g w.name) its) (normal_body (unit_for g w.name) its) (λ ds b v. DTaskBody v ds b s)) infos) ≡ map name infos
      copies [] = refl
      copies (i ∷ infos) = ap (λ (l : List ℕ). name i ∷ l) (copies infos)
  copy-ids d = refl

  all-ids : (ds : List PDecl) → body_ids (flat_map (bodies_of g) ds) ≡ map name (flat_map runs ds)
  all-ids [] = refl
  all-ids (d ∷ ds) = ids-joined (bodies_of g d) (flat_map (bodies_of g) ds) ∙ ap₂ (λ (a b : List ℕ). a ++ b) (copy-ids d) (all-ids ds) ∙ sym (map-append name (runs d) (flat_map runs ds))

  -- a task that runs one of these bodies
  abbrev Runs : List ℕ → TaskInfo → Type 0
  Runs ids x = (k : ℕ) × (slice_get (tasks_beside g) k ≡ Some x) × (is_among ids x.unit.0 ≡ true)

  running-runs : (w : Word) (ids : List ℕ) → AllByRecursion (Runs (w.name.0 ∷ ids)) (running g w.name)
  running-runs w ids =
      all-filtered (Runs (w.name.0 ∷ ids)) (λ i. i.unit.0 == w.name.0) (tasks_beside g)
      (all_by_place (λ (x : TaskInfo). (x.unit.0 == w.name.0) ≡ true → Runs (w.name.0 ∷ ids) x) (tasks_beside g)
      (λ k x e q. (k, e, or_left (w.name.0 == x.unit.0) (is_among ids x.unit.0) (eq-eqb w.name.0 x.unit.0 (sym (eqb-true x.unit.0 w.name.0 q))))))

  all-run : (ds : List PDecl) → AllByRecursion (Runs (body_ids ds)) (flat_map runs ds)
  all-run [] = tt
  all-run (DTaskBody w objects its s ∷ ds) =
      all_joined (Runs (w.name.0 ∷ body_ids ds)) (running g w.name) (flat_map runs ds) (running-runs w (body_ids ds))
      (all_weaker (Runs (body_ids ds)) (Runs (w.name.0 ∷ body_ids ds)) (flat_map runs ds) (λ x r. (r.0, r.1, or_right (w.name.0 == x.unit.0) (is_among (body_ids ds) x.unit.0) r.2)) (all-run ds))
  all-run (d ∷ ds) = all-run ds

  -- ---- they differ

  tell : NamesTell g
  tell = legal_names_tell p (types_in p) (numbers_of p) h.legal h.placed h.names

  abbrev Tells : TaskInfo → TaskInfo → Type 0
  Tells a b = (task_name g a).0 ≡ (task_name g b).0 → a.unit.0 ≡ b.unit.0

  one-of : (w u : ℕ) → is_among (w ∷ []) u ≡ true → w ≡ u
  one-of w u e = by_test (w == u) refl e
    where
      by_test : (b : Bool) → (w == u) ≡ b → (b || false) ≡ true → w ≡ u
      by_test true f k = eqb-true w u f
      by_test false f k = absurd (true≢false (sym k))

  runs-differ : (w : ℕ) (ids : List ℕ) → IsFreeOf ids w → (x y : TaskInfo) → Runs (w ∷ []) x → Runs ids y → (name x == name y) ≡ false
  runs-differ w ids free x y r q = by_test (name x == name y) refl
    where
      same : name x ≡ name y → x.unit.0 ≡ y.unit.0
      same e = place-all (Tells x) (tasks_beside g) q.0 y (place-all (λ (a : TaskInfo). AllByRecursion (Tells a) (tasks_beside g)) (tasks_beside g) r.0 x tell r.1) q.1 e

      by_test : (b : Bool) → (name x == name y) ≡ b → b ≡ false
      by_test false e = refl
      by_test true e = absurd (true≢false (sym q.2 ∙ ap (is_among ids) (sym (one-of w x.unit.0 r.2 ∙ same (eqb-true (name x) (name y) e))) ∙ free))

  block-free : (w : ℕ) (ids : List ℕ) → IsFreeOf ids w → (xs : List TaskInfo) → AllByRecursion (Runs (w ∷ [])) xs → (y : TaskInfo) → Runs ids y → IsFreeOf (map name xs) (name y)
  block-free w ids free [] r y q = refl
  block-free w ids free (x ∷ xs) r y q = or_from (name x == name y) (is_among (map name xs) (name y)) (runs-differ w ids free x y r.0 q) (block-free w ids free xs r.1 y q)

  blocks-apart : (w : ℕ) (ids : List ℕ) → IsFreeOf ids w → (xs zs : List TaskInfo) → AllByRecursion (Runs (w ∷ [])) xs → AllByRecursion (Runs ids) zs → AreApart (map name xs) (map name zs)
  blocks-apart w ids free xs [] r q = tt
  blocks-apart w ids free xs (z ∷ zs) r q = (block-free w ids free xs r z q.0, blocks-apart w ids free xs zs r q.1)

  infos-same : (zs : List NumberedTask) → map (task_id p h) zs ≡ map name (map (info_of_task p.names) zs)
  infos-same [] = refl
  infos-same (z ∷ zs) = ap (λ (l : List ℕ). task_id p h z ∷ l) (infos-same zs)

  beside-distinct : AreDistinct (map name (tasks_beside g))
  beside-distinct = subst AreDistinct (infos-same (ys p h)) (tasks-distinct p h)

  runs-distinct : (ds : List PDecl) → AreDistinct (body_ids ds) → AreDistinct (map name (flat_map runs ds))
  runs-distinct [] d = tt
  runs-distinct (DTaskBody w objects its s ∷ ds) d =
      subst AreDistinct (sym (map-append name (running g w.name) (flat_map runs ds)))
      (distinct-both (map name (running g w.name)) (map name (flat_map runs ds)) (distinct-kept name (λ i. i.unit.0 == w.name.0) (tasks_beside g) beside-distinct) (runs-distinct ds d.1)
      (blocks-apart w.name.0 (body_ids ds) d.0 (running g w.name) (flat_map runs ds) (running-runs w []) (all-run ds)))
  runs-distinct (x ∷ ds) d = runs-distinct ds d

  -- no two bodies are of one task
  pub copies-distinct : (s : Scope) → AllByRecursion IsMet (decls_sites s p.decls) → AreDistinct (body_ids (flat_map (bodies_of g) (decl_list p.decls)))
  copies-distinct s met = subst AreDistinct (sym (all-ids (decl_list p.decls))) (runs-distinct (decl_list p.decls) (bodies-once p.decls s met).1)

  -- ---- what stands in a body

  abbrev fixed : List ℕ
  fixed = fixed_names (namings_of (sites p))

  abbrev r : Rules
  r = good_names p.names

  abbrev Covered : Naming → Type 0
  Covered = IsCovered g h.names fixed

  object-good : (d : PDecl) → EveryDecl r d → AllByRecursion (EveryWord r) (object_words d)
  object-good (DObject ws c x i s) e = recursion_from_All (EveryWord r) ws e.1.1
  object-good d e = tt

  objects-good : (ds : PDecls) → EveryDecls r ds → AllByRecursion (EveryWord r) (flat_map object_words (decl_list ds))
  objects-good no_decl e = tt
  objects-good (decl_then d rest) e = all_joined (EveryWord r) (object_words d) (flat_map object_words (decl_list rest)) (object-good d e.0) (objects-good rest e.1)

  -- the names of a body in the normal form: the objects, the variables, and what the statements name
  inner-is : (u : RewrittenUnit) (objects : PDecls) (its : PBody) →
      inner_names (decls_front objects (decls_of (unit_variables u its))) (normal_body u its)
      ≡ (declared false [] (flat_map object_words (decl_list objects)) ++ declared false (with_words [] (flat_map object_words (decl_list objects))) (flat_map object_words (unit_variables u its))) ++ body_names its
  inner-is u objects its =
      ap₂ (λ (a b : List Naming). a ++ b)
      (ap (λ (l : List PDecl). declared false [] (flat_map object_words l)) (list-front objects (decls_of (unit_variables u its)) ∙ ap (λ (l : List PDecl). decl_list objects ++ l) (listed_back (unit_variables u its)))
      ∙ ap (declared false []) (flat_map-append object_words (decl_list objects) (unit_variables u its))
      ∙ declared_append false [] (flat_map object_words (decl_list objects)) (flat_map object_words (unit_variables u its)))
      (body-same u its)

  new-free : (ws : List Word) → AllByRecursion (EveryWord r) ws → (j : ℕ) → IsFreeOf (with_words [] ws) (variable_name g j).0
  new-free ws a j =
      let v : ℕ = (variable_name g j).0 in
      free-words [] ws v refl (all-free (word_ids ws) v (all_weaker (IsGoodId p.names) (λ x. (x == v) ≡ false) (word_ids ws) (λ x k. good-new p.names x v k (variable-new g j)) (words-good p.names ws a)))

  copy-covered : (t : ℕ) (objects : PDecls) (its : PBody) → EveryDecls r objects → EveryBody r 1 its → body_weight its < 2 ^ 64 → AllByRecursion (IsFitIn fixed) (inner_names objects its) →
      AllByRecursion Covered (inner_names (decls_front objects (decls_of (unit_variables (record { setting = g; task = t }) its))) (normal_body (record { setting = g; task = t }) its))
  copy-covered t objects its a b light fit =
      let u : RewrittenUnit = record { setting = g; task = t } in
      let ws : List Word = flat_map object_words (decl_list objects) in
      let vs : List Word = flat_map object_words (unit_variables u its) in
      let few : length (unit_variables u its) ≤ 0 + body_weight its = body-few u its [] in
      subst (AllByRecursion Covered) (sym (inner-is u objects its))
      (all_joined Covered (declared false [] ws ++ declared false (with_words [] ws) vs) (body_names its)
      (all_joined Covered (declared false [] ws) (declared false (with_words [] ws) vs)
      (covered-old g h.names fixed (declared false [] ws) (all_front (IsFitIn fixed) (declared false [] ws) (body_names its) fit) (declared-inner p.names [] ws (objects-good objects a)))
      (variables-covered g h.names fixed (unit-numbered u its) (omega (arith, few, light)) (with_words [] ws) (λ j k l. new-free ws (objects-good objects a) j)))
      (covered-old g h.names fixed (body_names its) (all_back (IsFitIn fixed) (declared false [] ws) (body_names its) fit) (body-inner p.names 1 its b)))

  -- ---- all bodies

  abbrev CoveredBody : PDecl → Type 0
  CoveredBody (DTaskBody w objects its s) = AllByRecursion Covered (inner_names objects its)
  CoveredBody _ = ⊥

  bodies-covered : (bs : List PDecl) (before : List ℕ) → AllByRecursion CoveredBody bs → BodiesOnce before (body_ids bs) → AllByRecursion Covered (bodies_names before bs)
  bodies-covered [] before c once = tt
  bodies-covered (DTaskBody w objects its s ∷ bs) before c once = (
    (once.0.0, refl, tt),
    all_joined Covered (inner_names objects its) (bodies_names (w.name.0 ∷ before) bs) c.0
        (bodies-covered bs (w.name.0 ∷ before) c.1 (apart-both (w.name.0 ∷ []) before (body_ids bs) (one-apart (body_ids bs) w.name.0 once.1.0) once.0.1, once.1.1)),
  )
  bodies-covered (d ∷ bs) before c once = absurd c.0

  each-covered : (ds : PDecls) → EveryDecls r ds → AllByRecursion (IsFitDecl fixed) (decl_list ds) → AreLight ds → AllByRecursion CoveredBody (flat_map (bodies_of g) (decl_list ds))
  each-covered no_decl a fit light = tt
  each-covered (decl_then (DTaskBody w objects its s) rest) a fit light =
      all_joined CoveredBody (bodies_of g (DTaskBody w objects its s)) (flat_map (bodies_of g) (decl_list rest)) (copies (running g w.name)) (each-covered rest a.1 fit.1 light.1)
    where
      copies : (infos : List TaskInfo) → AllByRecursion CoveredBody (map (body_copy g w objects (unit_variables (unit_for g w.name) its) (normal_body (unit_for g w.name) its) (λ ds b v. DTaskBody v ds b s)) infos)
      copies [] = tt
      copies (i ∷ infos) = (copy-covered (first_running g w.name) objects its a.0.3 a.0.4 light.0 fit.0, copies infos)
  each-covered (decl_then d rest) a fit light = each-covered rest a.1 fit.1 light

  -- what the bodies of the normal form name
  pub copies-covered : (s : Scope) → AllByRecursion IsMet (decls_sites s p.decls) → EveryDecls r p.decls → AllByRecursion (IsFitDecl fixed) (decl_list p.decls) →
      AllByRecursion Covered (bodies_names [] (flat_map (bodies_of g) (decl_list p.decls)))
  copies-covered s met a fit =
      bodies-covered (flat_map (bodies_of g) (decl_list p.decls)) [] (each-covered p.decls a fit h.light.1) (apart-none (body_ids (flat_map (bodies_of g) (decl_list p.decls))), copies-distinct s met)

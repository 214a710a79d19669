-- Rule Duplicate refuses nothing in the normal form of a legal program.
use Rattle.std.proofs.Common.{◌≡◌, ℕ, ◌+◌, ◌≤◌, true, false, ◌||◌, ◌==◌, List, [], ◌∷◌, ◌++◌, length, map, flat_map, refl, sym, ap, ap₂, ◌∙◌, subst, arith}
use Rattle.std.specs.List.{AllByRecursion}
use Rattle.common_lemmas.proofs.Lists.{all_joined, all_weaker}
use Rattle.common_lemmas.proofs.Numbers.{unequal_turned}
use Rattle.std.proofs.lemmas.Bool.{or_from}
use Rattle.std.proofs.lemmas.List.{append-nil}
use Rattle.std.proofs.lemmas.Grind.{flat_map-append}
use Rattle.std.proofs.lemmas.List.Elements.{recursion_from_All}
use Rattle.ada_tree.specs.PlainDecl.{PTask, PDecl, DTask, PDecls, no_decl, decl_then, decls_of}
use Rattle.ada_tree.specs.PlainProgram.{PProgram}
use Rattle.ada_tree.specs.Every.{Rules, EveryDecls, EveryEntry, EveryProgram}
use Rattle.ada_static_rules.specs.Scope.{Scope}
use Rattle.ada_static_rules.specs.Demand.{Site}
use Rattle.ada_static_rules.specs.Declaring.{before_all, first_scope, inner_scope, after_decls}
use Rattle.ada_static_rules.specs.RuleDuplicate.{is_predefined, is_among}
use Rattle.ada_static_rules.specs.Sites.{names_sites, decls_sites, body_sites, sites}
use Rattle.syn_event.specs.NamedTasks.{NumberedTask, task_names_of, numbered_tasks}
use Rattle.syn_event.specs.DeclaredTasks.{decl_list, tasks_in}
use Rattle.task_model.specs.Setting.{Setting}
use Rattle.task_laws.specs.legal.rewritten_types.Rewriting.{DeclareOnce}
use Rattle.task_laws.proofs.legal.rewritten_types.Refused.{declared_once}
use Rattle.normal_model.specs.Names.{variable_name}
use Rattle.normal_model.specs.NormalStmts.{normal_body}
use Rattle.normal_model.specs.NormalTree.{first_decls, tasks_beside, task_declared, bodies_of, main_unit, main_variables}
use Rattle.normal_laws.proofs.structure.units.Tasks.{made-tasks, tasks-of}
use Rattle.normal_laws.proofs.structure.units.Declared.{parts-all, numbered-tasks-all}
use Rattle.normal_laws.proofs.structure.numbers.Listed.{first-plain}
use Rattle.normal_laws.proofs.structure.numbers.Tasked.{under, normal-tasks-of}
use Rattle.normal_laws.specs.runs.forms.Normalisable.{numbers_of, setting_for, made_for}
use Rattle.normal_laws.proofs.runs.forms.Numbered.{AreNumbered, none_numbered, numbered_then, unit-numbered}
use Rattle.normal_laws.specs.existence.units.Weights.{body_weight}
use Rattle.normal_laws.proofs.existence.units.Few.{body-few}
use Rattle.normal_laws.proofs.existence.units.Fields.{legal_is_ordered}
use Rattle.normal_laws.specs.existence.Laws.{IsLegalOriginal}
use Rattle.ada_decl_rules.specs.duplicates.NamedSoFar.{object_words}
use Rattle.ada_decl_rules.specs.declared.duplicates.namings_in_order.Naming.{Naming}
use Rattle.ada_decl_rules.specs.declared.duplicates.namings_in_order.Naming.TheVariants.{Declares}
use Rattle.ada_decl_rules.specs.duplicates.NamingsInOrder.{namings_of, declared}
use Rattle.normal_laws.specs.structure.once.Apart.{IsFreeOf, AreApart, AreDistinct, IsAlone, fixed_name, loose_name, fixed_names, loose_names, AreFit}
use Rattle.normal_laws.specs.structure.once.Names.{body_names, entries_names, tasks_names, bodies_names, IsFitDecl}
use Rattle.normal_laws.specs.structure.once.Laws.{behind_first, behind_variables}
use Rattle.normal_laws.proofs.structure.once.Once.{free-front, free-back, free-both, one-apart, one-free, apart-both, apart-turned, distinct-both}
use Rattle.ada_decl_rules.proofs.duplicates.Noting.{namings_append}
use Rattle.ada_decl_rules.proofs.duplicates.Behind.{names_are}
use Rattle.normal_laws.proofs.structure.once.Places.{body-is}
use Rattle.normal_laws.proofs.structure.once.Rewritten.{body-same}
use Rattle.normal_laws.proofs.structure.once.Rules.{fit-once}
use Rattle.normal_laws.proofs.structure.once.Leaving.{leaves-fixed}
use Rattle.normal_laws.proofs.structure.once.TaskTypes.{first-types}
use Rattle.normal_laws.proofs.structure.once.FirstDecls.{first-leaves}
use Rattle.normal_laws.proofs.structure.once.Fits.{inner_is_fit, first_is_fit}
use Rattle.normal_laws.proofs.structure.once.Whole.{normal_declares}
use Rattle.normal_laws.specs.legality.declares_once.Laws.{NormalDeclaresOnce}
use Rattle.normal_laws.proofs.legality.declares_once.Apart.{all-free, loose-joined}
use Rattle.normal_laws.proofs.legality.declares_once.Ids.{IsGoodId, variable-new}
use Rattle.normal_laws.proofs.legality.declares_once.Good.{good_names, program-good}
use Rattle.normal_laws.proofs.legality.declares_once.Inner.{body-inner, entries-inner}
use Rattle.normal_laws.proofs.legality.declares_once.DeclaredNames.{ids_declared, first-apart, here-free}
use Rattle.normal_laws.proofs.legality.declares_once.Firsts.{IsUnnamed, decls-unnamed}
use Rattle.normal_laws.proofs.legality.declares_once.Tasks.{IsTaskName, task_id, tasks-distinct, tasks-named, new-first, new-main, decls-met}
use Rattle.normal_laws.proofs.legality.declares_once.Variables.{IsLoose, IsCovered, covered-old, covered-alone, covered-loose, covered-fixed, loose-apart, variables-covered}
use Rattle.normal_laws.proofs.legality.declares_once.Bodies.{copies-covered}

-- what differs from all variables is none of them
vars-free : (g : Setting) {vars : List PDecl} {k : ℕ} → AreNumbered g vars k → (x : ℕ) → ((j : ℕ) → (x == (variable_name g j).0) ≡ false) → IsFreeOf (ids_declared (decls_of vars)) x
vars-free g (none_numbered k) x h = refl
vars-free g (numbered_then s y rest k more) x h = or_from ((variable_name g k).0 == x) (is_among (ids_declared (decls_of rest)) x) (unequal_turned x (variable_name g k).0 (h k)) (vars-free g more x h)

module _ (p : PProgram) (h : IsLegalOriginal p) where
  abbrev g : Setting
  g = setting_for p

  abbrev s0 : Scope
  s0 = first_scope p.name

  abbrev r : Rules
  r = good_names p.names

  -- the names that the program fixes, and those that its declarations fix
  abbrev fixed : List ℕ
  fixed = fixed_names (namings_of (sites p))

  abbrev decls_fixed : List ℕ
  decls_fixed = fixed_names (namings_of (decls_sites s0 p.decls))

  abbrev firsts : PDecls
  firsts = first_decls [] p.decls

  abbrev name : ℕ
  name = p.name.name.0

  abbrev zs : List NumberedTask
  zs = numbered_tasks g.types p

  abbrev id_of : NumberedTask → ℕ
  id_of = task_id p h

  abbrev ids : List ℕ
  ids = map id_of zs

  abbrev Covered : Naming → Type 0
  Covered = IsCovered g h.names fixed

  abbrev Loose : ℕ → Type 0
  Loose = IsLoose g h.names fixed

  good : EveryProgram r p
  good = program-good p h

  once : DeclareOnce s0 p.decls
  once = (declared_once p h.legal.type_rules).1

  -- ---- what is named, part by part

  abbrev N0 : List Naming
  N0 = namings_of (names_sites true before_all (p.name ∷ []))

  abbrev N1 : List Naming
  N1 = namings_of (decls_sites s0 firsts)

  abbrev N2 : List Naming
  N2 = declared false (behind_first p).here (flat_map object_words (main_variables g))

  abbrev here : List ℕ
  here = (behind_variables p g.types g.numbers).here

  abbrev N3 : List Naming
  N3 = tasks_names here (map (under g) zs)

  abbrev N4 : List Naming
  N4 = bodies_names [] (flat_map (bodies_of g) (decl_list p.decls))

  abbrev N5 : List Naming
  N5 = body_names p.body

  abbrev N : List Naming
  N = (N0 ++ (N1 ++ (N2 ++ N3 ++ N4))) ++ N5

  tasks-are : tasks_in (flat_map (task_declared g) (tasks_beside g)) ≡ map (under g) zs
  tasks-are = made-tasks g (tasks_beside g) ∙ sym (tasks-of p g.types g.numbers) ∙ normal-tasks-of p g.types (legal_is_ordered p g.types (numbers_of p) h.legal h.placed)

  all-named : namings_of (sites (made_for p)) ≡ N
  all-named =
      namings_append (names_sites true before_all (p.name ∷ []) ++ decls_sites s0 (made_for p).decls) last
      ∙ ap₂ (λ (a b : List Naming). a ++ b)
      (namings_append (names_sites true before_all (p.name ∷ [])) (decls_sites s0 (made_for p).decls)
      ∙ ap (λ (l : List Naming). N0 ++ l) (normal_declares p g.types g.numbers ∙ ap (λ (l : List PTask). N1 ++ (N2 ++ tasks_names here l ++ N4)) tasks-are))
      (body-is (inner_scope (after_decls s0 (made_for p).decls)) (normal_body (main_unit g) p.body) ∙ body-same (main_unit g) p.body)
    where
      last : List Site
      last = body_sites (inner_scope (after_decls s0 (made_for p).decls)) (made_for p).body

  -- ---- the first declarations

  unnamed : (x : ℕ) → IsFreeOf (ids_declared firsts) x → IsUnnamed N1 x
  unnamed x f = decls-unnamed firsts s0 (first-plain p.decls []) x f

  main-unnamed : IsUnnamed N1 name
  main-unnamed = unnamed name (one-free (ids_declared firsts) name (first-apart p.decls [] s0 once))

  -- ---- variables of main

  variable-unnamed : (k : ℕ) → IsUnnamed N1 (variable_name g k).0
  variable-unnamed k = unnamed (variable_name g k).0 (new-first p h (variable_name g k).0 (variable-new g k))

  N2-covered : AllByRecursion Covered N2
  N2-covered =
      let few : length (main_variables g) ≤ 0 + body_weight p.body = body-few (main_unit g) p.body [] in
      variables-covered g h.names fixed (unit-numbered (main_unit g) p.body) (omega (arith, few, h.light.0)) (behind_first p).here
      (λ j k l. here-free firsts s0 (variable_name g j).0 (new-main p h (variable_name g j).0 (variable-new g j)) (new-first p h (variable_name g j).0 (variable-new g j)))

  -- ---- tasks

  abbrev IsCoveredTask : PTask → Type 0
  IsCoveredTask t = AllByRecursion Covered (entries_names [] t.entries)

  decls-entries : (ds : PDecls) → EveryDecls r ds → AllByRecursion (IsFitDecl fixed) (decl_list ds) → AllByRecursion IsCoveredTask (tasks_in (decl_list ds))
  decls-entries no_decl a fit = tt
  decls-entries (decl_then (DTask t s) rest) a fit =
      (covered-old g h.names fixed (entries_names [] t.entries) fit.0 (entries-inner p.names [] t.entries (recursion_from_All (EveryEntry r) t.entries a.0.1.1)), decls-entries rest a.1 fit.1)
  decls-entries (decl_then d rest) a fit = decls-entries rest a.1 fit.1

  entries-covered : AllByRecursion (λ (y : NumberedTask). IsCoveredTask y.unit) zs
  entries-covered = numbered-tasks-all IsCoveredTask g.types (task_names_of p) (parts-all IsCoveredTask p.decls [] tt (decls-entries p.decls good.2 (inner_is_fit p h.legal.type_rules).0))

  tasks-fixed : (before : List ℕ) (ys : List NumberedTask) → AllByRecursion (λ (y : NumberedTask). IsCoveredTask y.unit) ys → fixed_names (tasks_names before (map (under g) ys)) ≡ map id_of ys
  tasks-fixed before [] c = refl
  tasks-fixed before (y ∷ ys) c =
      ap (λ (l : List ℕ). id_of y ∷ l)
      (flat_map-append fixed_name (entries_names [] y.unit.entries) (tasks_names (id_of y ∷ before) (map (under g) ys))
      ∙ ap₂ (λ (a b : List ℕ). a ++ b) (covered-fixed g h.names fixed (entries_names [] y.unit.entries) c.0) (tasks-fixed (id_of y ∷ before) ys c.1))

  tasks-loose : (before : List ℕ) (ys : List NumberedTask) → AllByRecursion (λ (y : NumberedTask). IsCoveredTask y.unit) ys → AllByRecursion Loose (loose_names (tasks_names before (map (under g) ys)))
  tasks-loose before [] c = tt
  tasks-loose before (y ∷ ys) c =
      subst (AllByRecursion Loose) (sym (flat_map-append loose_name (entries_names [] y.unit.entries) (tasks_names (id_of y ∷ before) (map (under g) ys))))
      (all_joined Loose (loose_names (entries_names [] y.unit.entries)) (loose_names (tasks_names (id_of y ∷ before) (map (under g) ys)))
      (covered-loose g h.names fixed (entries_names [] y.unit.entries) c.0) (tasks-loose (id_of y ∷ before) ys c.1))

  tasks-alone : (before : List ℕ) (ys : List NumberedTask) → AllByRecursion (λ (y : NumberedTask). IsCoveredTask y.unit) ys → AllByRecursion (IsTaskName p h) (map id_of ys) → AreDistinct (map id_of ys) → AreApart before (map id_of ys) →
      AllByRecursion IsAlone (tasks_names before (map (under g) ys))
  tasks-alone before [] c n d a = tt
  tasks-alone before (y ∷ ys) c n d a = (
    or_from (is_predefined (id_of y) || is_among before (id_of y) || false) false
        (or_from (is_predefined (id_of y) || is_among before (id_of y)) false (or_from (is_predefined (id_of y)) (is_among before (id_of y)) n.0.new a.0) refl) refl,
    all_joined IsAlone (entries_names [] y.unit.entries) (tasks_names (id_of y ∷ before) (map (under g) ys)) (covered-alone g h.names fixed (entries_names [] y.unit.entries) c.0)
        (tasks-alone (id_of y ∷ before) ys c.1 n.1 d.1 (apart-both (id_of y ∷ []) before (map id_of ys) (one-apart (map id_of ys) (id_of y) d.0) a.1)),
  )

  -- no task has a name that is used before
  tasks-new : AreApart here ids
  tasks-new =
      all_weaker (IsTaskName p h) (IsFreeOf here) ids
      (λ x n. here-free (decls_of (main_variables g)) (behind_first p) x (here-free firsts s0 x n.main n.first) (vars-free g (unit-numbered (main_unit g) p.body) x n.variables)) (tasks-named p h)

  -- ---- bodies

  N4-covered : AllByRecursion Covered N4
  N4-covered = copies-covered p h s0 (decls-met p h) good.2 (inner_is_fit p h.legal.type_rules).0

  N5-covered : AllByRecursion Covered N5
  N5-covered = covered-old g h.names fixed N5 (inner_is_fit p h.legal.type_rules).1 (body-inner p.names 1 p.body good.3)

  -- ---- the fixed names

  abbrev F : List ℕ
  F = (name ∷ []) ++ (fixed_names N1 ++ ids)

  first-name : N0 ≡ Declares true false p.name ∷ []
  first-name = names_are true before_all (p.name ∷ [])

  all-fixed : fixed_names N ≡ F
  all-fixed =
      flat_map-append fixed_name (N0 ++ (N1 ++ (N2 ++ N3 ++ N4))) N5
      ∙ ap₂ (λ (a b : List ℕ). a ++ b)
      (flat_map-append fixed_name N0 (N1 ++ (N2 ++ N3 ++ N4))
      ∙ ap₂ (λ (a b : List ℕ). a ++ b) (ap fixed_names first-name)
      (flat_map-append fixed_name N1 (N2 ++ N3 ++ N4) ∙ ap (λ (l : List ℕ). fixed_names N1 ++ l) added))
      (covered-fixed g h.names fixed N5 N5-covered)
      ∙ append-nil F
    where
      added : fixed_names (N2 ++ N3 ++ N4) ≡ ids
      added =
          flat_map-append fixed_name (N2 ++ N3) N4
          ∙ ap₂ (λ (a b : List ℕ). a ++ b)
          (flat_map-append fixed_name N2 N3 ∙ ap₂ (λ (a b : List ℕ). a ++ b) (covered-fixed g h.names fixed N2 N2-covered) (tasks-fixed here zs entries-covered))
          (covered-fixed g h.names fixed N4 N4-covered)
          ∙ append-nil ids

  task-names-apart : AreApart (fixed_names N1) ids
  task-names-apart = all_weaker (IsTaskName p h) (IsFreeOf (fixed_names N1)) ids (λ x n. (unnamed x n.first).0) (tasks-named p h)

  F-distinct : AreDistinct F
  F-distinct =
      distinct-both (name ∷ []) (fixed_names N1 ++ ids) (refl, tt)
      (distinct-both (fixed_names N1) ids (first_is_fit p h.legal.type_rules).distinct (tasks-distinct p h) task-names-apart)
      (all_joined (IsFreeOf (name ∷ [])) (fixed_names N1) ids (one-apart (fixed_names N1) name main-unnamed.0)
      (all_weaker (IsTaskName p h) (IsFreeOf (name ∷ [])) ids (λ x n. n.main) (tasks-named p h)))

  -- ---- what is free of them

  F-free : (x : ℕ) → IsFreeOf (name ∷ []) x → IsFreeOf (fixed_names N1) x → IsFreeOf ids x → IsFreeOf F x
  F-free x a b c = free-both (name ∷ []) (fixed_names N1 ++ ids) x a (free-both (fixed_names N1) ids x b c)

  parts : fixed ≡ ((name ∷ []) ++ decls_fixed) ++ fixed_names (namings_of (body_sites (inner_scope (after_decls s0 p.decls)) p.body))
  parts =
      ap fixed_names (namings_append (names_sites true before_all (p.name ∷ []) ++ decls_sites s0 p.decls) its ∙ ap (λ (l : List Naming). l ++ namings_of its) (namings_append (names_sites true before_all (p.name ∷ [])) (decls_sites s0 p.decls)))
      ∙ flat_map-append fixed_name (N0 ++ namings_of (decls_sites s0 p.decls)) (namings_of its)
      ∙ ap (λ (l : List ℕ). l ++ fixed_names (namings_of its)) (flat_map-append fixed_name N0 (namings_of (decls_sites s0 p.decls)) ∙ ap (λ (l : List ℕ). l ++ decls_fixed) (ap fixed_names first-name))
    where
      its : List Site
      its = body_sites (inner_scope (after_decls s0 p.decls)) p.body

  -- a name of the program that is none of its fixed ones
  old-free : (x : ℕ) → IsFreeOf fixed x → IsGoodId p.names x → IsFreeOf F x
  old-free x f k =
      let front : IsFreeOf ((name ∷ []) ++ decls_fixed) x = free-front ((name ∷ []) ++ decls_fixed) (fixed_names (namings_of (body_sites (inner_scope (after_decls s0 p.decls)) p.body))) x (subst (λ (l : List ℕ). IsFreeOf l x) parts f) in
      let declared : IsFreeOf decls_fixed x = free-back (name ∷ []) decls_fixed x front in
      F-free x (free-front (name ∷ []) decls_fixed x front)
      (leaves-fixed
      (first-leaves p.decls [] s0 s0 record { main = refl; main' = refl; here = λ y e. e; instance = λ e. e; types = first-types p.name; types' = first-types p.name }) (x ∷ []) (declared, tt)).0
      (all-free ids x (all_weaker (IsTaskName p h) (λ y. (y == x) ≡ false) ids (λ y n. n.others x declared k) (tasks-named p h)))

  -- a variable
  variable-free : (k : ℕ) → IsFreeOf F (variable_name g k).0
  variable-free k =
      let v : ℕ = (variable_name g k).0 in
      F-free v (new-main p h v (variable-new g k)) (variable-unnamed k).0 (all-free ids v (all_weaker (IsTaskName p h) (λ y. (y == v) ≡ false) ids (λ y n. n.variables k) (tasks-named p h)))

  apart : (xs : List ℕ) → AllByRecursion Loose xs → AreApart F xs
  apart xs l = loose-apart g h.names fixed F old-free variable-free xs l

  first-names-apart : AreApart F (loose_names N1)
  first-names-apart =
      apart-both (name ∷ []) (fixed_names N1 ++ ids) (loose_names N1) (one-apart (loose_names N1) name main-unnamed.1)
      (apart-both (fixed_names N1) ids (loose_names N1) (first_is_fit p h.legal.type_rules).apart
      (apart-turned (loose_names N1) ids (all_weaker (IsTaskName p h) (IsFreeOf (loose_names N1)) ids (λ x n. (unnamed x n.first).1) (tasks-named p h))))

  -- ---- the whole

  abbrev covered : (ns : List Naming) → AllByRecursion Covered ns → AreApart F (loose_names ns)
  covered ns c = apart (loose_names ns) (covered-loose g h.names fixed ns c)

  all-apart : AreApart F (loose_names N)
  all-apart =
      loose-joined F (N0 ++ (N1 ++ (N2 ++ N3 ++ N4))) N5
      (loose-joined F N0 (N1 ++ (N2 ++ N3 ++ N4)) (subst (λ (l : List Naming). AreApart F (loose_names l)) (sym first-name) tt)
      (loose-joined F N1 (N2 ++ N3 ++ N4) first-names-apart
      (loose-joined F (N2 ++ N3) N4 (loose-joined F N2 N3 (covered N2 N2-covered) (apart (loose_names N3) (tasks-loose here zs entries-covered))) (covered N4 N4-covered))))
      (covered N5 N5-covered)

  main-alone : AllByRecursion IsAlone N0
  main-alone = subst (AllByRecursion IsAlone) (sym first-name) (or_from (is_predefined name || false || false) false (or_from (is_predefined name || false) false (or_from (is_predefined name) false (declared_once p h.legal.type_rules).0.0 refl) refl) refl, tt)

  all-alone : AllByRecursion IsAlone N
  all-alone =
      all_joined IsAlone (N0 ++ (N1 ++ (N2 ++ N3 ++ N4))) N5
      (all_joined IsAlone N0 (N1 ++ (N2 ++ N3 ++ N4)) main-alone
      (all_joined IsAlone N1 (N2 ++ N3 ++ N4) (first_is_fit p h.legal.type_rules).alone
      (all_joined IsAlone (N2 ++ N3) N4
      (all_joined IsAlone N2 N3 (covered-alone g h.names fixed N2 N2-covered) (tasks-alone here zs entries-covered (tasks-named p h) (tasks-distinct p h) tasks-new))
      (covered-alone g h.names fixed N4 N4-covered))))
      (covered-alone g h.names fixed N5 N5-covered)

  is-fit : AreFit N
  is-fit = record { alone = all-alone; distinct = subst AreDistinct (sym all-fixed) F-distinct; apart = subst (λ (l : List ℕ). AreApart l (loose_names N)) (sym all-fixed) all-apart }

pub normal_declares_once : NormalDeclaresOnce
normal_declares_once p h = fit-once (sites (made_for p)) (subst AreFit (sym (all-named p h)) (is-fit p h))

-- What inner scopes of a legal program declare is the name of no value, and of no task but members of arrays.
use Rattle.std.proofs.Common.{◌≡◌, ℕ, ◌==◌, ℤ, Bool, true, false, List, [], ◌∷◌, ◌++◌, map, flat_map, Option, Some, None, refl, sym, ap, ◌∙◌, true≢false, eqb-true}
use Rattle.std.specs.List.{AllByRecursion}
use Rattle.std.proofs.lemmas.Option.{none-some}
use Rattle.std.proofs.lemmas.Grind.{flat_map-append}
use Rattle.std.proofs.lemmas.List.Folds.{list_any-append}
use Rattle.common_lemmas.proofs.Truth.{or_both}
use Rattle.common_lemmas.proofs.Lists.{all_joined}
use Rattle.ada_decl_rules.proofs.duplicates.Noting.{namings_append}
use Rattle.task_model.specs.Setting.{Setting}
use Rattle.ada_tree.specs.TypeTable.{TypeTable}
use Rattle.ada_tree.specs.PlainExpr.{PDrange}
use Rattle.ada_tree.specs.PlainProgram.{PProgram}
use Rattle.ada_static_rules.specs.Refusals.{MeetsTypeRules, types_in}
use Rattle.ada_tree.specs.WellPlaced.{IsWellPlaced}
use Rattle.ada_static_rules.specs.Declaring.{inner_scope, first_scope, before_all, after_decls}
use Rattle.ada_static_rules.specs.RuleDuplicate.{is_among}
use Rattle.ada_static_rules.specs.Demand.{Demand, declares, labels, Site}
use Rattle.ada_static_rules.specs.Scope.{Scope}
use Rattle.ada_static_rules.specs.Sites.{names_sites, decls_sites, body_sites, sites}
use Rattle.syn_event.specs.declared.numbering.TaskInfo.{TaskInfo}
use Rattle.syn_event.specs.Extents.{extent}
use Rattle.syn_event.specs.NamedTasks.{NamedTasks, NumberedTask, numbered_task, indices, task_names_of, tasks_of_range, tasks_of_name, numbered_tasks}
use Rattle.syn_event.specs.AllNumbers.{info_of_task}
use Rattle.ada_decl_rules.specs.declared.duplicates.namings_in_order.Naming.{Naming}
use Rattle.ada_decl_rules.specs.duplicates.NamingsInOrder.{naming_in, and_then, namings_of}
use Rattle.task_laws.specs.legal.sites.Met.{IsMet, IsAddressed}
use Rattle.task_laws.specs.legal.types.Typed.{IsSmall}
use Rattle.task_laws.proofs.legal.types.InnerScopes.{IsApartLocal, AreApart}
use Rattle.normal_laws.specs.structure.once.Apart.{AreApart as AreApartNames, fixed_name, fixed_names, loose_names}
use Rattle.normal_laws.proofs.structure.once.Rules.{program-fit}
use Rattle.normal_laws.proofs.structure.once.Fits.{task_names_are_fixed}
use Rattle.normal_laws.proofs.existence.units.Apart.{all-apart, all-addressed}
use Rattle.task_laws.proofs.legal.sites.Meeting.{all_met}
use Rattle.normal_model.specs.NormalTree.{tasks_beside}
use Rattle.normal_laws.specs.structure.asked.Pieces.{IsAmong, first_among, later_among}
use Rattle.normal_laws.specs.runs.forms.Normalisable.{setting_for}
use Rattle.normal_laws.specs.structure.typed.ScopeOf.{IsInner, IsPlaceOf}

-- ---- names that are declared for less than all of main

-- a name that is declared so is none of these
abbrev IsLoose : List ℕ → Demand → Type 0
IsLoose fixed (declares false w) = is_among fixed w.name.0 ≡ false
IsLoose fixed _ = Unit {0}

at-demand : (fixed : List ℕ) (s : Scope) (d : Demand) (rest : List Naming) → AreApartNames fixed (loose_names (and_then (naming_in s d) rest)) → IsLoose fixed d × AreApartNames fixed (loose_names rest)
at-demand fixed s (declares true w) rest h = (tt, h)
at-demand fixed s (declares false w) rest h = (h.0, h.1)
at-demand fixed s (labels w) rest h = (tt, h.1)
at-demand fixed s _ rest h = (tt, h)

all-loose : (fixed : List ℕ) (ss : List Site) → AreApartNames fixed (loose_names (namings_of ss)) → AllByRecursion (λ (x : Site). IsLoose fixed x.demand) ss
unfolding namings_of
all-loose fixed [] h = tt
all-loose fixed (x ∷ ss) h = let q = at-demand fixed x.scope x.demand (namings_of ss) h in (q.0, all-loose fixed ss q.1)

-- ---- names that are declared for all of main

free-parts : (xs ys : List ℕ) (n : ℕ) → is_among (xs ++ ys) n ≡ false → (is_among xs n ≡ false) × (is_among ys n ≡ false)
free-parts xs ys n e = or_both (is_among xs n) (is_among ys n) (sym (list_any-append (λ m. m == n) xs ys) ∙ e)

fixed-joined : (a b : List Site) → fixed_names (namings_of (a ++ b)) ≡ fixed_names (namings_of a) ++ fixed_names (namings_of b)
fixed-joined a b = ap fixed_names (namings_append a b) ∙ flat_map-append fixed_name (namings_of a) (namings_of b)

-- what is none of the fixed names of two lists of places is none of the first, and none of the second
fixed-parts : (a b : List Site) (n : ℕ) → is_among (fixed_names (namings_of (a ++ b))) n ≡ false → (is_among (fixed_names (namings_of a)) n ≡ false) × (is_among (fixed_names (namings_of b)) n ≡ false)
fixed-parts a b n e = free-parts (fixed_names (namings_of a)) (fixed_names (namings_of b)) n (ap (λ l. is_among l n) (sym (fixed-joined a b)) ∙ e)

module _ (p : PProgram) (rules : MeetsTypeRules p) where
  abbrev T : TypeTable
  T = types_in p

  abbrev g : Setting
  g = setting_for p

  abbrev main_names : List Site
  main_names = names_sites true before_all (p.name ∷ [])

  abbrev decls : List Site
  decls = decls_sites (first_scope p.name) p.decls

  abbrev fixed : List ℕ
  fixed = fixed_names (namings_of decls)

  -- ---- tasks

  abbrev IsFixedTask : NumberedTask → Type 0
  IsFixedTask x = x.member ≡ None → is_among fixed x.name.0 ≡ true

  members-fixed : (x : NamedTasks) (is : List ℤ) → AllByRecursion IsFixedTask (map (λ i. numbered_task x (Some i)) is)
  members-fixed x [] = tt
  members-fixed x (i ∷ is) = (λ e. absurd (none-some i (sym e)), members-fixed x is)

  range-fixed : (x : NamedTasks) (o : Option PDrange) → x.index_range ≡ o → (x.index_range ≡ None → is_among fixed x.name.name.0 ≡ true) → AllByRecursion IsFixedTask (tasks_of_range T x o)
  range-fixed x (Some r) e h = members-fixed x (indices (extent T r))
  range-fixed x None e h = (λ f. h e, tt)

  parts-fixed : (xs : List NamedTasks) → AllByRecursion (λ (x : NamedTasks). x.index_range ≡ None → is_among fixed x.name.name.0 ≡ true) xs → AllByRecursion IsFixedTask (flat_map (tasks_of_name T) xs)
  parts-fixed [] h = tt
  parts-fixed (x ∷ xs) h = all_joined IsFixedTask (tasks_of_name T x) (flat_map (tasks_of_name T) xs) (range-fixed x x.index_range refl h.0) (parts-fixed xs h.1)

  info-fixed : (xs : List NumberedTask) → AllByRecursion IsFixedTask xs → (info : TaskInfo) → IsAmong info (map (info_of_task p.names) xs) → info.member ≡ None → is_among fixed info.name.0 ≡ true
  info-fixed [] h info i e = elim i [ ]
  info-fixed (x ∷ xs) h info (first_among _) e = h.0 e
  info-fixed (x ∷ xs) h info (later_among _ _ i) e = info-fixed xs h.1 info i e

  task-fixed : (info : TaskInfo) → IsAmong info (tasks_beside g) → info.member ≡ None → is_among fixed info.name.0 ≡ true
  task-fixed = info-fixed (numbered_tasks T p) (parts-fixed (task_names_of p) (task_names_are_fixed p rules))

  -- ---- one place

  differs : (n : ℕ) (info : TaskInfo) → IsAmong info (tasks_beside g) → info.member ≡ None → is_among fixed n ≡ false → (n == info.name.0) ≡ false
  differs n info i e f = by_test (n == info.name.0) refl
    where
      by_test : (b : Bool) → (n == info.name.0) ≡ b → b ≡ false
      by_test false q = refl
      by_test true q = absurd (true≢false (sym (task-fixed info i e) ∙ ap (is_among fixed) (sym (eqb-true n info.name.0 q)) ∙ f))

  inner-at : (d : Demand) → IsApartLocal T d → IsLoose (fixed_names (namings_of (sites p))) d → IsInner g d
  inner-at (declares false w) h l =
      let first = fixed-parts (main_names ++ decls) (body_sites (inner_scope (after_decls (first_scope p.name) p.decls)) p.body) w.name.0 l in
      let second = fixed-parts main_names decls w.name.0 first.0 in
      record { value = h.value; tasks = λ info i e. differs w.name.0 info i e second.1 }
  inner-at _ h l = tt

  inners : (ss : List Site) → AreApart T ss → AllByRecursion (λ (x : Site). IsLoose (fixed_names (namings_of (sites p))) x.demand) ss → AllByRecursion (λ (x : Site). IsInner g x.demand) ss
  inners [] h l = tt
  inners (x ∷ ss) h l = (inner-at x.demand h.0 l.0, inners ss h.1 l.1)

  -- What inner scopes declare is the name of no value, and of no task but members of arrays.
  pub inner-names : AllByRecursion (λ (x : Site). IsInner g x.demand) (sites p)
  inner-names = inners (sites p) (all-apart p rules) (all-loose (fixed_names (namings_of (sites p))) (sites p) (program-fit p rules).apart)

  together : (ss : List Site) → AllByRecursion IsMet ss → AllByRecursion (λ (x : Site). IsAddressed x.scope x.demand) ss → AllByRecursion (λ (x : Site). IsInner g x.demand) ss → AllByRecursion (IsPlaceOf g) ss
  together [] m a i = tt
  together (x ∷ ss) m a i = ((m.0, a.0, i.0), together ss m.1 a.1 i.1)

  -- So each place of the program is as the normal form asks.
  pub places-of : IsWellPlaced p → IsSmall T → AllByRecursion (IsPlaceOf g) (sites p)
  places-of placed small = together (sites p) (all_met p rules) (all-addressed p rules placed small) inner-names

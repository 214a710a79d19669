-- The names of the tasks of a normal form: no two are one, and none is another name of it.
use Rattle.std.proofs.Common.{◌≡◌, ℕ, ℤ, zero, suc, Bool, true, false, ◌==◌, List, [], ◌∷◌, map, flat_map, slice_get, Option, Some, None, refl, sym, ap, ◌∙◌, subst, true≢false}
use Rattle.std.specs.List.{AllByRecursion}
use Rattle.common_lemmas.proofs.Lists.{all_joined, all_front, all_weaker, all_unmapped}
use Rattle.common_lemmas.proofs.Options.{some_same, not_missing}
use Rattle.std.proofs.lemmas.Bool.{eqb-true}
use Rattle.std.proofs.lemmas.List.{append-nil}
use Rattle.ada_tree.specs.declared.naming.NameId.{NameId}
use Rattle.ada_tree.specs.TypeTable.{TypeTable}
use Rattle.ada_tree.specs.PlainExpr.{PDrange}
use Rattle.ada_tree.specs.PlainDecl.{PTask, no_decl}
use Rattle.ada_tree.specs.PlainProgram.{PProgram}
use Rattle.ada_static_rules.specs.Scope.{Scope}
use Rattle.ada_static_rules.specs.Declaring.{first_scope, inner_scope, after_decls}
use Rattle.ada_static_rules.specs.Refusals.{types_in}
use Rattle.ada_static_rules.specs.RuleDuplicate.{is_predefined, is_among}
use Rattle.ada_static_rules.specs.Sites.{decls_sites, body_sites}
use Rattle.syn_event.specs.declared.numbering.TaskInfo.{TaskInfo}
use Rattle.syn_event.specs.Extents.{extent}
use Rattle.syn_event.specs.NamedTasks.{NamedTasks, task_names_of, NumberedTask, numbered_task, indices, tasks_of_range, tasks_of_name, numbered_tasks}
use Rattle.syn_event.specs.AllNumbers.{info_of_task}
use Rattle.syn_event.specs.CheckScope.{CheckScope}
use Rattle.syn_event.specs.CheckSites as checks
use Rattle.syn_event.proofs.Weaker.{placed_tokens}
use Rattle.task_model.specs.Setting.{Setting}
use Rattle.task_laws.specs.legal.sites.Met.{IsMet}
use Rattle.task_laws.proofs.legal.sites.Meeting.{all_met}
use Rattle.task_laws.proofs.legal.types.MainScopes.{main-stands}
use Rattle.task_laws.proofs.legal.types.TaskTypes.{all-ranges, tasks-have-types}
use Rattle.normal_model.specs.Names.{variable_name, member_name, task_name}
use Rattle.normal_model.specs.NormalTree.{first_decls, tasks_beside}
use Rattle.task_laws.specs.legal.rewritten_types.Rewriting.{IsUnused, DeclareOnce}
use Rattle.task_laws.proofs.legal.rewritten_types.Lookups.{place-all}
use Rattle.task_laws.proofs.legal.rewritten_types.Refused.{declared_once}
use Rattle.normal_laws.specs.structure.types.Laws.{IsOrdered}
use Rattle.normal_laws.proofs.structure.units.Pairs.{names_tell_units}
use Rattle.normal_laws.specs.runs.forms.Normalisable.{numbers_of, setting_for}
use Rattle.normal_laws.proofs.existence.units.Fields.{legal_is_ordered}
use Rattle.normal_laws.proofs.existence.units.TaskNames.{IsShort}
use Rattle.normal_laws.proofs.existence.units.TasksApart.{IsNamed, members-there, all-named, tasks-told}
use Rattle.normal_laws.proofs.existence.units.DeclaredNames.{IsGood, tasks-good}
use Rattle.normal_laws.proofs.existence.seen_tasks.Parts.{IsUnit, AtMostOnce, is_called, MainSeen}
use Rattle.normal_laws.proofs.existence.seen_tasks.Bodies.{first-seen, decls-step}
use Rattle.normal_laws.proofs.existence.seen_tasks.Tasks.{PartsKnown}
use Rattle.normal_laws.proofs.existence.seen_tasks.Units.{objects-apart}
use Rattle.normal_laws.proofs.existence.statement_forms.Alone.{numbered-tasks-alone}
use Rattle.normal_laws.proofs.existence.body_forms.Ranges.{ranges-known}
use Rattle.normal_laws.proofs.existence.body_forms.Rows.{members-short}
use Rattle.normal_laws.specs.existence.Laws.{IsLegalOriginal}
use Rattle.ada_decl_rules.specs.duplicates.NamingsInOrder.{namings_of}
use Rattle.normal_laws.specs.structure.once.Apart.{IsFreeOf, AreDistinct, fixed_names}
use Rattle.normal_laws.proofs.structure.once.Fits.{task_names_are_fixed}
use Rattle.normal_laws.proofs.legality.declares_once.Apart.{all-free, distinct-places}
use Rattle.normal_laws.proofs.legality.declares_once.Ids.{IsGoodId, IsNew, good-new, new-good, new-not-predefined, variable-new, member-new, member-variable}
use Rattle.normal_laws.proofs.legality.declares_once.Good.{program-good}
use Rattle.normal_laws.proofs.legality.declares_once.DeclaredNames.{ids_declared, tasks-unused, tasks-apart}
use Rattle.normal_laws.proofs.legality.declares_once.Firsts.{first-good}

-- ---- lists

map-place : {A B : Type 0} (f : A → B) (xs : List A) (k : ℕ) (x : A) → slice_get xs k ≡ Some x → slice_get (map f xs) k ≡ Some (f x)
map-place f [] k x e = absurd (not_missing x e)
map-place f (y ∷ xs) zero x e = ap (λ z. Some (f z)) (some_same e)
map-place f (y ∷ xs) (suc k) x e = map-place f xs k x e

-- a name that differs from one of which the others are free
free-differs : (F : List ℕ) (x z : ℕ) → is_among F x ≡ true → IsFreeOf F z → (x == z) ≡ false
free-differs F x z e f = by_test (x == z) refl
  where
    by_test : (b : Bool) → (x == z) ≡ b → b ≡ false
    by_test false q = refl
    by_test true q = absurd (true≢false (sym e ∙ ap (is_among F) (eqb-true x z q) ∙ f))

module _ (p : PProgram) (h : IsLegalOriginal p) where
  abbrev pub g : Setting
  g = setting_for p

  abbrev pub T : TypeTable
  T = types_in p

  abbrev pub start : Scope
  start = first_scope p.name

  abbrev pub ys : List NumberedTask
  ys = numbered_tasks T p

  abbrev info : NumberedTask → TaskInfo
  info = info_of_task p.names

  -- the name of a task in the normal form
  abbrev pub task_id : NumberedTask → ℕ
  task_id y = (task_name g (info y)).0

  -- the names that the declarations fix
  abbrev pub fixed : List ℕ
  fixed = fixed_names (namings_of (decls_sites start p.decls))

  abbrev pub first : List ℕ
  first = ids_declared (first_decls [] p.decls)

  ordered : IsOrdered p
  ordered = legal_is_ordered p T (numbers_of p) h.legal h.placed

  once : DeclareOnce start p.decls
  once = (declared_once p h.legal.type_rules).1

  -- ---- tasks that differ

  pub decls-met : AllByRecursion IsMet (decls_sites start p.decls)
  decls-met = all_front IsMet (decls_sites start p.decls) (body_sites (inner_scope (after_decls start p.decls)) p.body) (all_met p h.legal.type_rules).1

  abbrev main_around : CheckScope
  main_around = checks.after_decls (checks.around_program p) p.decls

  at-last : (kinds : List PTask) × MainSeen p T kinds no_decl (after_decls start p.decls) main_around
  at-last = (
    _,
    decls-step p T p.decls [] start (checks.around_program p) (objects-apart p T p.decls start decls-met)
        (ranges-known T p.decls start (all-ranges T p.names p.decls start (main-stands p h.legal.type_rules h.placed h.small) h.placed.2)) once (first-seen p T (declared_once p h.legal.type_rules).0),
  )

  all-parts : task_names_of p ≡ at-last.1.done
  all-parts = at-last.1.parts ∙ append-nil at-last.1.done

  known : PartsKnown p T
  known = record {
    units = subst (AllByRecursion (λ (x : NamedTasks). IsUnit p T x.unit)) (sym all-parts) at-last.1.parts_units;
    apart = subst (AllByRecursion (λ (x : NamedTasks). (p.name.name.0 == x.name.name.0) ≡ false)) (sym all-parts) at-last.1.apart;
    once = λ id. subst (AtMostOnce (is_called id)) (sym all-parts) (at-last.1.once id);
    tell = names_tell_units p T ordered;
  }

  short : AllByRecursion (λ (i : TaskInfo). IsShort i.member) (tasks_beside g)
  short = members-short T p.names (task_names_of p) (tasks-have-types p h.legal.type_rules h.placed h.small).parts

  abbrev Told : TaskInfo → TaskInfo → Type 0
  Told a b = (task_name g a).0 ≡ (task_name g b).0 → (a.name.0 ≡ b.name.0) × (a.member ≡ b.member)

  told : AllByRecursion (λ (a : TaskInfo). AllByRecursion (Told a) (tasks_beside g)) (tasks_beside g)
  told = tasks-told p T ordered h.legal.check_rules (placed_tokens p h.placed) h.names short

  same-place : (j k : ℕ) (x y : NumberedTask) → slice_get ys j ≡ Some x → slice_get ys k ≡ Some y → task_id x ≡ task_id y → j ≡ k
  same-place j k x y d e q =
      let all = place-all (λ (a : TaskInfo). AllByRecursion (Told a) (tasks_beside g)) (tasks_beside g) j (info x) told (map-place info ys j x d) in
      let r = place-all (Told (info x)) (tasks_beside g) k (info y) all (map-place info ys k y e) q in
      numbered-tasks-alone p T known j k x y d e r.0 r.1

  -- no two tasks have one name
  pub tasks-distinct : AreDistinct (map task_id ys)
  tasks-distinct = distinct-places task_id ys same-place

  -- ---- the name of one task

  -- The name is no predefined one, none of the program or the first declarations, no variable, and no other name of the program.
  pub record IsTaskName (x : ℕ) : Type 0 where
    pub new : is_predefined x ≡ false
    pub main : IsFreeOf start.here x
    pub first : IsFreeOf first x
    pub variables : (k : ℕ) → (x == (variable_name g k).0) ≡ false
    pub others : (z : ℕ) → IsFreeOf fixed z → IsGoodId p.names z → (x == z) ≡ false

  -- what is known of a name that stands for a task
  pub record IsSingle (id : NameId) : Type 0 where
    pub new : is_predefined id.0 ≡ false
    pub main : IsFreeOf start.here id.0
    pub first : IsFreeOf first id.0
    pub there : is_among fixed id.0 ≡ true

  abbrev SingleTask : NumberedTask → Type 0
  SingleTask y = y.member ≡ None → IsSingle y.name

  -- a name of tasks that is no name of the program or of the first declarations, and fixed where it stands for one task
  record IsPart (x : NamedTasks) : Type 0 where
    unused : IsUnused start x.name
    apart : IsFreeOf first x.name.name.0
    there : x.index_range ≡ None → is_among fixed x.name.name.0 ≡ true

  are-parts : (xs : List NamedTasks) → AllByRecursion (λ (x : NamedTasks). IsUnused start x.name) xs → AllByRecursion (λ (x : NamedTasks). IsFreeOf first x.name.name.0) xs →
      AllByRecursion (λ (x : NamedTasks). x.index_range ≡ None → is_among fixed x.name.name.0 ≡ true) xs → AllByRecursion IsPart xs
  are-parts [] a b c = tt
  are-parts (x ∷ xs) a b c = (record { unused = a.0; apart = b.0; there = c.0 }, are-parts xs a.1 b.1 c.1)

  members-single : (x : NamedTasks) (is : List ℤ) → AllByRecursion SingleTask (map (λ i. numbered_task x (Some i)) is)
  members-single x [] = tt
  members-single x (i ∷ is) = ((λ e. absurd (not_missing i (sym e))), members-single x is)

  row-single : (x : NamedTasks) (o : Option PDrange) → x.index_range ≡ o → IsPart x → AllByRecursion SingleTask (tasks_of_range T x o)
  row-single x (Some q) e is = members-single x (indices (extent T q))
  row-single x None e is = ((λ m. record { new = is.unused.0; main = is.unused.1; first = is.apart; there = is.there e }), tt)

  parts-single : (xs : List NamedTasks) → AllByRecursion IsPart xs → AllByRecursion SingleTask (flat_map (tasks_of_name T) xs)
  parts-single [] is = tt
  parts-single (x ∷ xs) is = all_joined SingleTask (tasks_of_name T x) (flat_map (tasks_of_name T) xs) (row-single x x.index_range refl is.0) (parts-single xs is.1)

  all-single : AllByRecursion SingleTask ys
  all-single = parts-single (task_names_of p) (are-parts (task_names_of p) (tasks-unused p.decls [] start once) (tasks-apart p.decls [] start once) (task_names_are_fixed p h.legal.type_rules))

  all-good : AllByRecursion (λ (i : TaskInfo). IsGood p.names i.name) (tasks_beside g)
  all-good = tasks-good p T h.legal.check_rules (placed_tokens p h.placed)

  all-are-named : AllByRecursion (IsNamed g) (tasks_beside g)
  all-are-named = all-named g (tasks_beside g) all-good (members-there g).1

  -- ---- all names of tasks

  main-good : IsGoodId p.names p.name.name.0
  main-good = (program-good p h).0

  pub ids-good : AllByRecursion (IsGoodId p.names) first
  ids-good = first-good p.names p.decls [] (program-good p h).2

  -- a new name is none of the first declarations
  pub new-first : (x : ℕ) → IsNew p.names x → IsFreeOf first x
  new-first x n = all-free first x (all_weaker (IsGoodId p.names) (λ y. (y == x) ≡ false) first (λ y k. good-new p.names y x k n) ids-good)

  -- nor that of the program
  pub new-main : (x : ℕ) → IsNew p.names x → IsFreeOf start.here x
  new-main x n = all-free start.here x (good-new p.names p.name.name.0 x main-good n, tt)

  one-name : (y : NumberedTask) → SingleTask y → IsNamed g (info y) → IsGood p.names y.name → IsTaskName (task_id y)
  one-name y single named good = by_member y.member refl
    where
      by_member : (m : Option ℤ) → y.member ≡ m → IsTaskName (task_id y)
      by_member None e =
          let s : IsSingle y.name = single e in
          subst (λ (m : Option ℤ). IsTaskName (member_name g y.name m).0) (sym e)
          record { new = s.new; main = s.main; first = s.first; variables = λ k. good-new p.names y.name.0 (variable_name g k).0 good (variable-new g k); others = λ z f k. free-differs fixed y.name.0 z s.there f }
      by_member (Some i) e =
          let n : IsNew p.names (task_id y) = member-new g (info y) named i e in
          record { new = new-not-predefined p.names h.names (task_id y) n; main = new-main (task_id y) n; first = new-first (task_id y) n; variables = member-variable g (info y) named i e; others = λ z f k. new-good p.names (task_id y) z n k }

  each-name : (zs : List NumberedTask) → AllByRecursion SingleTask zs → AllByRecursion (λ (y : NumberedTask). IsNamed g (info y)) zs → AllByRecursion (λ (y : NumberedTask). IsGood p.names y.name) zs →
      AllByRecursion IsTaskName (map task_id zs)
  each-name [] a b c = tt
  each-name (y ∷ zs) a b c = (one-name y a.0 b.0 c.0, each-name zs a.1 b.1 c.1)

  pub tasks-named : AllByRecursion IsTaskName (map task_id ys)
  tasks-named = each-name ys all-single (all_unmapped (IsNamed g) info ys all-are-named) (all_unmapped (λ (i : TaskInfo). IsGood p.names i.name) info ys all-good)

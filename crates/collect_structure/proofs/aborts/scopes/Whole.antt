-- The scopes along the collecting text with abort statements of each legal program are as told.
use Rattle.std.proofs.Common.{Bool, List, None, Option, Some, [], ap, ap₂, drop, false, is_none, length, ltb-true, map, nat_lt, not, refl, subst, sym, true, true≢false, ℕ, ℤ, ◌&&◌, ◌<◌, ◌||◌, ◌∙◌, ◌∷◌, ◌≡◌}
use Rattle.std.specs.List.{AllByRecursion, list_any}
use Rattle.std.specs.Str.{bytes_eq}
use Rattle.std.proofs.lemmas.Slice.Eq.{bytes_eq-Decides}
use Rattle.common_lemmas.proofs.Lists.{all_paired, all_weaker}
use Rattle.common_lemmas.proofs.Truth.{and_left, and_right, and_false}
use Rattle.ada_tree.specs.Every.{EveryDecl}
use Rattle.ada_tree.specs.PlainDecl.{DArray, DEnumeration, DException, DIntIo, DNumber, DObject, DPragma, DSubtype, DTask, DTaskBody, PDecl, PTask}
use Rattle.ada_tree.specs.PlainProgram.{PProgram}
use Rattle.ada_tree.specs.TypeTable.{TypeTable}
use Rattle.ada_tree.specs.declared.naming.NameId.{NameId}
use Rattle.ada_static_rules.specs.Declaring.{after_decls, first_scope}
use Rattle.ada_static_rules.specs.Refusals.{types_in}
use Rattle.ada_static_rules.specs.RuleDuplicate.{is_predefined}
use Rattle.ada_static_rules.specs.Scope.{Scope}
use Rattle.ada_static_rules.specs.StaticValue.{mark_named, value_named}
use Rattle.syn_event.proofs.DeclLists.{every_listed, list_again}
use Rattle.syn_event.specs.AddedNames.{task_info}
use Rattle.syn_event.specs.DeclaredTasks.{decl_list, tasks_in, tasks_of, text_of}
use Rattle.syn_event.specs.RuleReservedName.{is_reserved}
use Rattle.syn_event.specs.declared.numbering.TaskInfo.{TaskInfo}
use Rattle.task_model.specs.Setting.{Setting}
use Rattle.normal_model.specs.NormalTree.{first_decls, main_variables}
use Rattle.normal_laws.proofs.legality.scopes.Main as main
use Rattle.normal_laws.proofs.legality.scopes.Names.{plain-own}
use Rattle.normal_laws.proofs.structure.numbers.Named.{Has, text-longer, text-there}
use Rattle.normal_laws.specs.existence.Laws.{IsLegalOriginal}
use Rattle.normal_laws.specs.legality.scopes.Plain.{plain_name}
use Rattle.normal_laws.specs.runs.forms.Normalisable.{made_for, numbers_of, setting_for}
use Rattle.normal_laws.specs.structure.checked.Around.{own_rules}
use Rattle.replay_structure.specs.checkable.Prepared.{form_for}
use Rattle.replay_structure.specs.scopes.Form.{IsSingleTask, first, last}
use Rattle.replay_structure.specs.scopes.Names.{old_name}
use Rattle.replay_structure.specs.legal.names.form_units.Inner.{inner_name}
use Rattle.collect_structure.proofs.declares_once.Legal.{legal_leaves_names}
use Rattle.collect_structure.specs.Names as collect
use Rattle.collect_structure.specs.scopes.Inner.{inner_told}
use Rattle.collect_model.specs.aborts.AbortTeller.{AbortTeller, names_told}
use Rattle.collect_model.specs.Names.{argument_text, gone_text, index_text, kind_text, met_text, owner_text, reply_text, subject_text}
use Rattle.collect_model.specs.aborts.Names.{acceptors_text, refused_text, taken_text}
use Rattle.collect_model.specs.aborts.Places.{most_places}
use Rattle.collect_structure.proofs.aborts.declares_once.Few.{legal-has-few}
use Rattle.collect_structure.proofs.aborts.scopes.Fewer.{legal_is_tellable_here}
use Rattle.collect_structure.proofs.aborts.scopes.Inner.{main-told-is}
use Rattle.collect_structure.proofs.aborts.scopes.Names.{kept-keeping}
use Rattle.collect_structure.proofs.aborts.scopes.Owned.{all-owned}
use Rattle.collect_structure.proofs.aborts.scopes.Places.{AreValueless, EachPlace}
use Rattle.collect_structure.proofs.aborts.scopes.Told.{IsPlaceable, tellable-told}
use Rattle.collect_structure.proofs.aborts.texts.Named.{abort-begins, abort-has-places, text-begins}
use Rattle.collect_structure.proofs.aborts.typed.Apart.{IsFreeTask, body_texts, told-new, told-outer}
use Rattle.collect_structure.specs.aborts.Names.{added_id, is_further, kept_name}
use Rattle.collect_structure.specs.aborts.asked.Pieces.{IsPlace}
use Rattle.collect_structure.specs.aborts.scopes.Text.{HasToldScopes, main_told}
use Rattle.collect_structure.specs.aborts.typed.Told.{AreNewPlaces, ArePlacesOuter}
use Rattle.collect_structure.proofs.scopes.Known.{value-plain}
use Rattle.collect_structure.proofs.legal.Bodies.{formed}

-- ---- names that the text adds

-- an id of a text that begins as those of places is none that is kept
further-unkept : (q : PProgram) (id : NameId) → is_further (text_of (names_told q) id) ≡ true → kept_name q id.0 ≡ false
further-unkept q id f = by_test (nat_lt id.0 (length q.names)) refl
  where
    by_test : (b : Bool) → nat_lt id.0 (length q.names) ≡ b → kept_name q id.0 ≡ false
    by_test false e = ap (λ b. (b && not (list_any (bytes_eq (text_of q.names id)) collect.new_texts)) && not (is_further (text_of q.names id))) e
    by_test true e =
        ap (λ b. collect.kept_name q id.0 && not b) (ap is_further (sym (text-longer q.names (names_told q) id (abort-begins q) (ltb-true id.0 (length q.names) e))) ∙ f)
        ∙ and_false (collect.kept_name q id.0)

pub added-unkept : (q : PProgram) (t : List ℕ) → Has (names_told q) t → is_further t ≡ true → kept_name q (added_id q t).0 ≡ false
added-unkept q t h f = further-unkept q (added_id q t) (ap is_further (text-there (names_told q) t h) ∙ f)

-- a kept name is one of the normal form
kept-within : (q : PProgram) (id : NameId) → kept_name q id.0 ≡ true → id.0 < length q.names
kept-within q id k =
    let plain : collect.kept_name q id.0 ≡ true = and_left (collect.kept_name q id.0) (not (is_further (text_of q.names id))) k in
    ltb-true id.0 (length q.names) (and_left (nat_lt id.0 (length q.names)) (not (list_any (bytes_eq (text_of q.names id)) collect.new_texts)) plain)

-- the text has a meaning in a text with abort statements
abbrev is_meant : List ℕ → Bool
is_meant t = list_any (bytes_eq t) collect.new_texts || is_further t

-- a kept name has no such text
kept-other : (q : PProgram) (id : NameId) → kept_name q id.0 ≡ true → (t : List ℕ) → is_meant t ≡ true → bytes_eq t (text_of q.names id) ≡ false
kept-other q id k t m = by_test (bytes_eq t (text_of q.names id)) refl
  where
    clash : (a b : Bool) → not a ≡ true → not b ≡ true → (a || b) ≡ true → ⊥
    clash true b x y z = true≢false (sym x)
    clash false true x y z = true≢false (sym y)
    clash false false x y z = true≢false (sym z)

    by_test : (b : Bool) → bytes_eq t (text_of q.names id) ≡ b → b ≡ false
    by_test false e = refl
    by_test true e =
        let same : t ≡ text_of q.names id = (bytes_eq-Decides t (text_of q.names id)).0 e in
        let parts = and_left (collect.kept_name q id.0) (not (is_further (text_of q.names id))) k in
        absurd
        (clash (list_any (bytes_eq (text_of q.names id)) collect.new_texts) (is_further (text_of q.names id))
        (and_right (nat_lt id.0 (length q.names)) (not (list_any (bytes_eq (text_of q.names id)) collect.new_texts)) parts)
        (and_right (collect.kept_name q id.0) (not (is_further (text_of q.names id))) k)
        (ap is_meant (sym same) ∙ m))

-- ---- the names of tasks

tasks-kept : (old : ℕ → Bool) (ds : List PDecl) → AllByRecursion (EveryDecl (own_rules old)) ds → AllByRecursion (λ (t : PTask). old t.name.name.0 ≡ true) (tasks_in ds)
tasks-kept old [] h = tt
tasks-kept old (DTask t s ∷ ds) h = (h.0.1.0, tasks-kept old ds h.1)
tasks-kept old (DTaskBody w objects its s ∷ ds) h = tasks-kept old ds h.1
tasks-kept old (DNumber w e s ∷ ds) h = tasks-kept old ds h.1
tasks-kept old (DObject ws c x i s ∷ ds) h = tasks-kept old ds h.1
tasks-kept old (DEnumeration w ws s ∷ ds) h = tasks-kept old ds h.1
tasks-kept old (DArray w r x s ∷ ds) h = tasks-kept old ds h.1
tasks-kept old (DSubtype w x s ∷ ds) h = tasks-kept old ds h.1
tasks-kept old (DException ws s ∷ ds) h = tasks-kept old ds h.1
tasks-kept old (DIntIo w s ∷ ds) h = tasks-kept old ds h.1
tasks-kept old (DPragma e s ∷ ds) h = tasks-kept old ds h.1

module _ (p : PProgram) (legal : IsLegalOriginal p) where
  abbrev g : Setting
  g = form_for p

  abbrev q : PProgram
  q = made_for p

  abbrev kept : ℕ → Bool
  kept = kept_name q

  abbrev T : TypeTable
  T = types_in p

  abbrev x : AbortTeller
  x = main_told g

  abbrev before : List PDecl
  before = decl_list (first_decls [] p.decls)

  abbrev vars : List PDecl
  vars = main_variables (setting_for p)

  -- ---- tasks

  infos-kept : AllByRecursion (λ (info : TaskInfo). kept info.name.0 ≡ true) (drop 1 g.numbers.tasks)
  infos-kept = mapped (tasks_of q) (tasks-kept kept (decl_list q.decls) (every_listed (own_rules kept) q.decls (all-owned p legal kept (kept-keeping p)).2))
    where
      mapped : (ts : List PTask) → AllByRecursion (λ (t : PTask). kept t.name.name.0 ≡ true) ts →
          AllByRecursion (λ (info : TaskInfo). kept info.name.0 ≡ true) (map (λ (t : PTask). task_info q.names t.name.name) ts)
      mapped [] h = tt
      mapped (t ∷ ts) h = (h.0, mapped ts h.1)

  -- no task has a name that the recorder's body declares
  pub infos-free : AllByRecursion (IsFreeTask g 0 (legal_leaves_names p legal).begins) (drop 1 g.numbers.tasks)
  infos-free =
      all_weaker (λ (info : TaskInfo). kept info.name.0 ≡ true) (IsFreeTask g 0 (legal_leaves_names p legal).begins) (drop 1 g.numbers.tasks)
      (λ info k. (kept-within q info.name k, texts info k)) infos-kept
    where
      texts : (info : TaskInfo) → kept info.name.0 ≡ true → AllByRecursion (λ t. bytes_eq t (text_of q.names info.name) ≡ false) (body_texts g 0 (legal_leaves_names p legal).begins)
      texts info k =
          let other = kept-other q info.name k in (
            other gone_text refl,
            (
              other met_text refl,
              (
                other acceptors_text refl,
                (other kind_text refl, (other subject_text refl, (other argument_text refl, (other index_text refl, (other owner_text refl, (other reply_text refl, tt)))))),
              ),
            ),
          )

  -- the tasks are seen behind the bodies of the normal form
  infos-seen : AllByRecursion (IsSingleTask kept (last q before vars)) (drop 1 g.numbers.tasks)
  infos-seen =
      all_weaker (λ (info : TaskInfo). (kept info.name.0 ≡ true) × IsSingleTask (old_name q) (last q before vars) info) (IsSingleTask kept (last q before vars))
      (drop 1 g.numbers.tasks) (λ info k. (k.0, k.1.1))
      (all_paired (λ (info : TaskInfo). kept info.name.0 ≡ true) (IsSingleTask (old_name q) (last q before vars)) (drop 1 g.numbers.tasks) infos-kept (formed p legal).single)

  -- ---- values

  new-value : (id : NameId) → kept id.0 ≡ false → value_named (first q before vars).types id ≡ None
  new-value id n = ap (λ (s : Scope). value_named s.types id) (sym first-is) ∙ by_value (value_named (main.first p legal).types id) refl
    where
      first-is : main.first p legal ≡ first q before vars
      first-is = ap (λ ds. after_decls (first_scope p.name) ds) (sym (list_again (first_decls [] p.decls)))

      by_value : (o : Option ℤ) → value_named (main.first p legal).types id ≡ o → o ≡ None
      by_value None e = refl
      by_value (Some v) e = absurd (true≢false (sym ((kept-keeping p).old id.0 (plain-own p id.0 (value-plain p legal id v e))) ∙ n))

  -- ---- places

  taken-there : (m : ℕ) → IsPlace (most_places q) m → Has (names_told q) (taken_text m)
  taken-there m i = (abort-has-places q m i.0 i.1).0

  refused-there : (m : ℕ) → IsPlace (most_places q) m → Has (names_told q) (refused_text m)
  refused-there m i = (abort-has-places q m i.0 i.1).1

  places-fresh : EachPlace g (λ id. kept id.0 ≡ false)
  places-fresh m i = (added-unkept q (taken_text m) (taken-there m i) refl, added-unkept q (refused_text m) (refused-there m i) refl)

  valueless : AreValueless g (first q before vars).types
  valueless m i = (new-value (x.taken m) (places-fresh m i).0, new-value (x.refused m) (places-fresh m i).1)

  distinct : (types : TypeTable) → AreValueless g types → AreNewPlaces x (most_places q) types
  distinct types v = subst (λ (y : AbortTeller). AreNewPlaces y (most_places q) types) (main-told-is g) (told-new g 0 (legal_leaves_names p legal).begins (legal-has-few p legal) types v)

  -- no accept and no loop of the program declares a name that is added
  added-outer : (t : List ℕ) → Has (names_told q) t → is_reserved t ≡ true → inner_told p (added_id q t).0 ≡ false
  added-outer t h r = by_test (nat_lt (added_id q t).0 (length p.names)) refl
    where
      fewer : (n : ℕ) → inner_name p n ≡ false → inner_told p n ≡ false
      fewer n e = ap (λ b. b && is_none (value_named T record { 0 = n })) e

      same : (added_id q t).0 < length p.names → text_of p.names (added_id q t) ≡ t
      same l = sym (text-longer p.names (names_told q) (added_id q t) (text-begins p T (numbers_of p)) l) ∙ text-there (names_told q) t h

      none : plain_name p (added_id q t).0 ≡ false → inner_told p (added_id q t).0 ≡ false
      none e = fewer (added_id q t).0 (ap (λ b. b && (not (is_predefined (added_id q t).0) && is_none (mark_named T (added_id q t)))) e)

      by_test : (b : Bool) → nat_lt (added_id q t).0 (length p.names) ≡ b → inner_told p (added_id q t).0 ≡ false
      by_test false e = none (ap (λ b. b && not (is_reserved (text_of p.names (added_id q t)))) e)
      by_test true e = none (ap₂ (λ (b : Bool) (u : List ℕ). b && not (is_reserved u)) e (same (ltb-true (added_id q t).0 (length p.names) e)) ∙ ap not r)

  shown : ArePlacesOuter q (inner_told p) x (most_places q)
  shown =
      subst (λ (y : AbortTeller). ArePlacesOuter q (inner_told p) y (most_places q)) (main-told-is g)
      (told-outer g 0 (legal_leaves_names p legal).begins (inner_told p)
      (λ m i. (added-outer (taken_text m) (taken-there m i) refl, added-outer (refused_text m) (refused-there m i) refl)))

  -- ---- all

  pub legal_is_placeable_here : IsPlaceable g kept (inner_told p) before vars
  legal_is_placeable_here = record {
    begins = (legal_leaves_names p legal).begins;
    fresh = places-fresh;
    valueless = valueless;
    distinct = distinct;
    shown = shown;
    tasks = infos-seen;
  }

  pub legal_has_told_scopes : HasToldScopes g before vars
  legal_has_told_scopes = tellable-told g kept (inner_told p) before vars (legal_is_tellable_here p legal) legal_is_placeable_here

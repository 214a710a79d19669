-- The units of the normal form of a legal program are as its collecting text asks: main, and each body.
use Rattle.std.proofs.Common.{Bool, List, None, Some, [], ap, ap₂, arith, cond, false, filter, flat_map, is_none, length, ltb-true, map, nat_lt, not, refl, subst, sym, true, unwrap_or, ℕ, ◌&&◌, ◌+◌, ◌<◌, ◌==◌, ◌||◌, ◌∙◌, ◌∷◌, ◌≡◌}
use Rattle.std.proofs.lemmas.Bool.{or_parts}
use Rattle.std.proofs.lemmas.List.Elements.{All-from_recursion}
use Rattle.std.specs.List.{AllByRecursion, position_or_len}
use Rattle.common_lemmas.proofs.Lists.{all_back, all_front, all_kept, all_paired, all_weaker}
use Rattle.ada_tree.specs.Every.{EveryDecl}
use Rattle.ada_tree.specs.PlainDecl.{DObject, DTaskBody, PDecl, PTask}
use Rattle.ada_tree.specs.PlainProgram.{PProgram}
use Rattle.ada_tree.specs.TypeTable.{TypeTable}
use Rattle.ada_tree.specs.WellPlaced.{well_placed}
use Rattle.ada_tree.specs.declared.naming.NameId.{NameId}
use Rattle.ada_tree.specs.declared.naming.Word.{Word}
use Rattle.ada_static_rules.specs.Declaring.{after_decl, after_objects, in_body, inner_scope}
use Rattle.ada_static_rules.specs.Refusals.{types_in}
use Rattle.ada_static_rules.specs.RuleDuplicate.{is_among, is_predefined}
use Rattle.ada_static_rules.specs.Scope.{Family, Scope, family, single, unclear}
use Rattle.ada_static_rules.specs.Sites.{sites}
use Rattle.ada_static_rules.specs.StaticValue.{mark_named, value_named}
use Rattle.ada_decl_rules.specs.duplicates.NamedSoFar.{object_words}
use Rattle.ada_decl_rules.specs.duplicates.NamingsInOrder.{declared, namings_of}
use Rattle.syn_event.proofs.DeclLists.{every_listed}
use Rattle.syn_event.specs.AddedNames.{task_info}
use Rattle.syn_event.specs.DeclaredTasks.{decl_list, tasks_of, text_of}
use Rattle.syn_event.specs.RuleReservedName.{is_reserved}
use Rattle.syn_event.specs.declared.numbering.TaskInfo.{TaskInfo}
use Rattle.task_model.specs.Setting.{Setting}
use Rattle.task_laws.specs.legal.asked.Asked.{AskedBody}
use Rattle.normal_model.proofs.VariablesLemmas.{Begins, begins-trans}
use Rattle.normal_model.specs.NormalTree.{bodies_of, first_decls, main_unit, main_variables, unit_for}
use Rattle.normal_model.specs.Ranges.{kind_name}
use Rattle.normal_model.specs.RewrittenUnit.{RewrittenUnit}
use Rattle.normal_laws.proofs.legality.Legal.{normal_meets_types}
use Rattle.normal_laws.proofs.structure.numbers.Listed.{IsOneBody, bodies-all}
use Rattle.normal_laws.proofs.structure.numbers.Named.{Has, text-longer, text-there}
use Rattle.normal_laws.proofs.structure.numbers.TaskNames.{normal-begins}
use Rattle.normal_laws.proofs.structure.once.Fits.{inner_is_fit}
use Rattle.normal_laws.specs.existence.Laws.{IsLegalOriginal}
use Rattle.normal_laws.specs.legality.scopes.Plain.{plain_name}
use Rattle.normal_laws.specs.runs.forms.Normalisable.{made_for, numbers_of, setting_for}
use Rattle.normal_laws.specs.structure.checked.Around.{own_rules}
use Rattle.normal_laws.specs.structure.once.Apart.{IsFitIn, fixed_names}
use Rattle.normal_laws.specs.structure.once.Names.{IsFitDecl, body_names}
use Rattle.replay_model.specs.ReplayTree.{is_body, script_of}
use Rattle.replay_structure.proofs.texts.Listed.{normal-bodies}
use Rattle.replay_structure.specs.checkable.Prepared.{form_for}
use Rattle.replay_structure.specs.scopes.Form.{BodyForms, IsForm, IsOwnObject, IsUnitForm, last, tasked}
use Rattle.replay_structure.specs.scopes.Names.{old_name}
use Rattle.replay_structure.specs.typed.ScopeOf.{IsCountedBy, IsEntryOf, as_itself, by_position}
use Rattle.collect_model.specs.Names.{added_texts, answer_text, caller_text, collect_names, part_text, recorder_text}
use Rattle.collect_model.specs.Teller.{task_of}
use Rattle.collect_structure.proofs.legal.Asked.{told-asked}
use Rattle.collect_structure.proofs.legal.Free.{HasFree, bodies-free, main-free}
use Rattle.collect_structure.proofs.legal.Indices.{HasOuterIndices, bodies-indices, main-indices}
use Rattle.collect_structure.proofs.scopes.Owned.{names-kept}
use Rattle.collect_structure.proofs.texts.Rooted.{collect-begins, collect-has}
use Rattle.collect_structure.specs.Names.{added_id, kept_name}
use Rattle.collect_structure.specs.scopes.Form.{BodiesTold, DeclaresNew, IsNewName}
use Rattle.collect_structure.specs.scopes.Inner.{inner_told}
use Rattle.collect_structure.specs.typed.Told.{AreOuter, told_asks}
use Rattle.replay_structure.proofs.legal.names.Form.{legal_normal_is_form}
use Rattle.replay_structure.proofs.legal.names.form_names.Decls.{body-of}
use Rattle.replay_structure.specs.legal.names.form_names.Laws.{IsNamedBody}
use Rattle.replay_structure.specs.legal.names.form_units.Inner.{inner_name}
use Rattle.replay_structure.specs.legal.names.inner.Units.{HasItsEntries}
use Rattle.seq_file.specs.Known.{is_known}
use Rattle.normal_laws.proofs.legality.checks.Facts as facts

-- ---- fewer inner names

module _ (p : PProgram) where
  fewer : (n : ℕ) → inner_name p n ≡ false → inner_told p n ≡ false
  fewer n e = ap (λ b. b && is_none (value_named (types_in p) record { 0 = n })) e

  counted-told : (types : TypeTable) (d : Scope) (j k : ℕ) → IsCountedBy types (inner_name p) d j k → IsCountedBy types (inner_told p) d j k
  counted-told types d j k (as_itself e f) = as_itself e f
  counted-told types d j k (by_position n m o) = by_position n m (fewer (kind_name types j).0 o)

  entry-told : (g : Setting) (d : Scope) (e : ℕ) (f : Family) → IsEntryOf g (inner_name p) d e f → IsEntryOf g (inner_told p) d e f
  entry-told g d e single h = h
  entry-told g d e (family range) h = record { written = h.written; flag = h.flag; is = h.is; counted = counted-told g.types d _ range.kind h.counted }
  entry-told g d e unclear h = h

  entries-told : (u : RewrittenUnit) (old : ℕ → Bool) (c : Scope) → IsUnitForm u old (inner_name p) c → HasItsEntries u (inner_told p) c
  entries-told u old c h = record {
    called = λ id name part e. entry-told u.setting c _ part.family (h.called id name part e);
    accepted = λ name part e. entry-told u.setting c _ part.family (h.accepted name part e);
  }

  -- ---- no name that the text adds is an inner one

  added-outer : (t : List ℕ) → Has added_texts t → is_reserved t ≡ true → inner_told p (added_id (made_for p) t).0 ≡ false
  added-outer t h r = by_test (nat_lt (added_id q t).0 (length p.names)) refl
    where
      q : PProgram
      q = made_for p

      begins : Begins p.names (collect_names (made_for p))
      begins = begins-trans (normal-begins p (types_in p) (numbers_of p)) (collect-begins (made_for p))

      same : (added_id (made_for p) t).0 < length p.names → text_of p.names (added_id (made_for p) t) ≡ t
      same l = sym (text-longer p.names (collect_names (made_for p)) (added_id (made_for p) t) begins l) ∙ text-there (collect_names (made_for p)) t (collect-has (made_for p) t h)

      none : plain_name p (added_id (made_for p) t).0 ≡ false → inner_told p (added_id (made_for p) t).0 ≡ false
      none e = fewer (added_id (made_for p) t).0 (ap (λ b. b && (not (is_predefined (added_id (made_for p) t).0) && is_none (mark_named (types_in p) (added_id (made_for p) t)))) e)

      by_test : (b : Bool) → nat_lt (added_id (made_for p) t).0 (length p.names) ≡ b → inner_told p (added_id (made_for p) t).0 ≡ false
      by_test false e = none (ap (λ b. b && not (is_reserved (text_of p.names (added_id (made_for p) t)))) e)
      by_test true e = none (ap₂ (λ (b : Bool) (u : List ℕ). b && not (is_reserved u)) e (same (ltb-true (added_id (made_for p) t).0 (length p.names) e)) ∙ ap not r)

  predefined-outer : (n : ℕ) → is_predefined n ≡ true → inner_told p n ≡ false
  predefined-outer n e = fewer n (ap (λ b. plain_name p n && (not b && is_none (mark_named (types_in p) record { 0 = n }))) e ∙ no-more (plain_name p n))
    where
      no-more : (a : Bool) → (a && false) ≡ false
      no-more true = refl
      no-more false = refl

  pub told-outer : AreOuter (made_for p) (inner_told p)
  told-outer = record {
    answer = added-outer answer_text refl refl;
    part = added-outer part_text refl refl;
    recorder = added-outer recorder_text refl refl;
    caller = added-outer caller_text refl refl;
    tasking = predefined-outer 9 refl;
    integer = predefined-outer 0 refl;
  }

  -- ---- the numbers of units

  units-named : (names : List (List ℕ)) (m : ℕ) (ts : List PTask) →
      position_or_len (λ (x : TaskInfo). x.unit.0 == m) (map (λ (t : PTask). task_info names t.name.name) ts) ≡ position_or_len (λ (x : TaskInfo). x.name.0 == m)
      (map (λ (t : PTask). task_info names t.name.name) ts)
  units-named names m [] = refl
  units-named names m (t ∷ ts) = ap (λ k. cond (not (t.name.name.0 == m)) (1 + k) 0) (units-named names m ts)

  unit-number : (name : NameId) → (unit_for (form_for p) name).task ≡ task_of (form_for p).numbers name
  unit-number name =
      let whole : position_or_len (λ (x : TaskInfo). x.unit.0 == name.0) (form_for p).numbers.tasks ≡ position_or_len (λ (x : TaskInfo). x.name.0 == name.0) (form_for p).numbers.tasks =
      ap (λ k. cond (not ((made_for p).name.name.0 == name.0)) (1 + k) 0) (units-named (made_for p).names name.0 (tasks_of (made_for p))) in
      ap (λ k. unwrap_or (cond (nat_lt k (length (form_for p).numbers.tasks)) (Some k) None) 0) whole

-- ---- objects of bodies

words-new : (ids here : List ℕ) (ws : List Word) → AllByRecursion (IsFitIn ids) (declared false here ws) → AllByRecursion IsNewName ws
words-new ids here [] h = tt
words-new ids here (w ∷ ws) h =
    let n : ℕ = w.name.0 in
    let again : Bool = is_among here n in (
      (or_parts (is_predefined n) again (or_parts (is_predefined n || again) false (or_parts (is_predefined n || again || false) false h.0.0).0).0).0,
      words-new ids (n ∷ here) ws h.1,
    )

objects-new : (old : ℕ → Bool) (xs : List PDecl) → AllByRecursion (IsOwnObject old) xs → AllByRecursion IsNewName (flat_map object_words xs) → AllByRecursion DeclaresNew xs
objects-new old [] o h = tt
objects-new old (DObject ws c x i s ∷ xs) o h = (all_front IsNewName ws (flat_map object_words xs) h, objects-new old xs o.1 (all_back IsNewName ws (flat_map object_words xs) h))
objects-new old (_ ∷ xs) o h = absurd o.0

module _ (p : PProgram) (h : IsLegalOriginal p) where
  abbrev F : Setting
  F = form_for p

  abbrev q : PProgram
  q = made_for p

  abbrev kept : ℕ → Bool
  kept = kept_name q

  abbrev before : List PDecl
  before = decl_list (first_decls [] p.decls)

  abbrev vars : List PDecl
  vars = main_variables (setting_for p)

  abbrev bodies : List PDecl
  bodies = filter is_body (decl_list q.decls)

  abbrev fixed : List ℕ
  fixed = fixed_names (namings_of (sites q))

  -- what a replay text of no events asks
  pub formed : IsForm F (old_name q) (inner_name p) (script_of (numbers_of p) []) before vars
  formed = legal_normal_is_form p [] h (record { each = All-from_recursion (λ e. is_known (numbers_of p) e ≡ true) [] tt; few = omega arith })

  -- ---- main

  pub main-has : HasItsEntries (main_unit F) (inner_told p) (inner_scope (last q before vars))
  main-has = entries-told p (main_unit F) (old_name q) (inner_scope (last q before vars)) formed.form

  pub main-asked-told : AskedBody (told_asks kept (inner_told p)) (tt, inner_scope (last q before vars)) 1 q.body
  main-asked-told =
      told-asked p kept (old_name q) (inner_scope (last q before vars)) q.body (names-kept p h).3 formed.asked (main-free p h (inner_scope (last q before vars))) (main-indices p h)

  -- ---- bodies

  abbrev Known : PDecl → Type 0
  Known d = IsNamedBody kept d × (HasFree (types_in p) d × (HasOuterIndices p d × IsFitDecl fixed d))

  abbrev Every : PDecl → Type 0
  Every d = EveryDecl (own_rules kept) d × EveryDecl (well_placed q.names) d

  named : AllByRecursion (IsNamedBody kept) bodies
  named =
      all_weaker (λ d. IsOneBody d × Every d) (IsNamedBody kept) bodies (λ d k. body-of kept q.names d k.0 k.1.0 k.1.1)
      (all_paired IsOneBody Every bodies (subst (AllByRecursion IsOneBody) (sym (normal-bodies p (types_in p) (numbers_of p))) (bodies-all (setting_for p)))
      (all_kept Every is_body (decl_list q.decls)
      (all_paired (EveryDecl (own_rules kept)) (EveryDecl (well_placed q.names)) (decl_list q.decls) (every_listed (own_rules kept) q.decls (names-kept p h).2)
      (every_listed (well_placed q.names) q.decls (facts.placed p h).2))))

  copies : filter is_body (decl_list q.decls) ≡ flat_map (bodies_of (setting_for p)) (decl_list p.decls)
  copies = normal-bodies p (types_in p) (numbers_of p)

  known : AllByRecursion Known bodies
  known =
      all_paired (IsNamedBody kept) _ bodies named
      (all_paired (HasFree (types_in p)) _ bodies (subst (AllByRecursion (HasFree (types_in p))) (sym copies) (bodies-free p h))
      (all_paired (HasOuterIndices p) (IsFitDecl fixed) bodies (subst (AllByRecursion (HasOuterIndices p)) (sym copies) (bodies-indices p h))
      (all_kept (IsFitDecl fixed) is_body (decl_list q.decls) (inner_is_fit q (normal_meets_types p h)).0)))

  bodies-told : (xs : List PDecl) (c : Scope) → BodyForms F (old_name q) (inner_name p) c xs → AllByRecursion Known xs → BodiesTold F kept (inner_told p) c xs
  bodies-told [] c b k = tt
  bodies-told (DTaskBody w objects its s ∷ xs) c b k =
      let d : Scope = inner_scope (after_objects (in_body c w) objects) in
      let has : HasItsEntries (unit_for F w.name) (inner_told p) d = entries-told p (unit_for F w.name) (old_name q) d b.0.form in (
        record {
          entries = b.0.entries;
          means = b.0.means;
          named = k.0.0.named;
          owns = k.0.0.owns;
          inits = k.0.0.inits;
          new =
              objects-new kept (decl_list objects) k.0.0.owns
              (words-new fixed [] (flat_map object_words (decl_list objects))
              (all_front (IsFitIn fixed) (declared false [] (flat_map object_words (decl_list objects))) (body_names its) k.0.1.1.1));
          sites = b.0.sites;
          has = subst (λ t. HasItsEntries (record { setting = F; task = t }) (inner_told p) d) (unit-number p w.name) has;
          asked = told-asked p kept (old_name q) d its k.0.0.every b.0.asked (k.0.1.0 d) k.0.1.1.0;
        },
        bodies-told xs (after_decl c (DTaskBody w objects its s)) b.1 k.1,
      )
  bodies-told (_ ∷ xs) c b k = absurd b

  pub all-bodies-told : BodiesTold F kept (inner_told p) (tasked q before vars) bodies
  all-bodies-told = bodies-told bodies (tasked q before vars) formed.bodies known

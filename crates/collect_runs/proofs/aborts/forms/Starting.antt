-- The tasks of a legal program's collecting text with abort statements start beside those of its normal form.
use Rattle.std.proofs.Common.{◌≡◌, ◌==◌, ◌≤◌, ℕ, ℤ, zero, suc, Bool, true, false, not, ◌||◌, if◌then◌else◌, cond, List, [], ◌∷◌, ◌++◌, map, is_some}
use Rattle.std.proofs.Common.{slice_index_or, Option, Some, None, inl, refl, sym, ap, ap₂, ◌∙◌, subst, true≢false, append_assoc, arith}
use Rattle.std.specs.List.{AllByRecursion, filter, list_any}
use Rattle.std.proofs.lemmas.Bool.{eqb-true, ne_eqb}
use Rattle.common_lemmas.proofs.Lists.{all_back, all_front, all_weaker}
use Rattle.common_lemmas.proofs.Numbers.{equal_self}
use Rattle.ada_tree.specs.declared.naming.NameId.{NameId}
use Rattle.ada_tree.specs.declared.naming.Span.{Span}
use Rattle.ada_tree.specs.declared.static_types.Kind.TheVariants.{Truth}
use Rattle.ada_tree.specs.declared.static_types.Mark.{Mark}
use Rattle.ada_tree.specs.TypeTable.{TypeTable}
use Rattle.ada_tree.specs.PlainExpr.{EInteger}
use Rattle.ada_tree.specs.PlainStmt.{PBody}
use Rattle.ada_tree.specs.PlainDecl.{IOne, OPlain, PDecl, DNumber, DObject, DEnumeration, DArray, DSubtype, DException, DIntIo, DPragma, DTask}
use Rattle.ada_tree.specs.PlainDecl.{DTaskBody, PDecls, decls_of}
use Rattle.ada_tree.specs.PlainProgram.{PProgram}
use Rattle.ada_tree.specs.Every.{Rules, EveryDecl}
use Rattle.ada_static_rules.specs.Refusals.{types_in}
use Rattle.ada_static_rules.specs.Declaring.{predefined_types, first_scope}
use Rattle.ada_static_rules.specs.StaticValue.{mark_named, is_named}
use Rattle.ada_value.specs.declared.values.Form.{Form}
use Rattle.ada_value.specs.declared.values.Value.{Value}
use Rattle.ada_value.specs.Values.{integer_limits, truth_limits, limits_or}
use Rattle.ada_value.specs.Variables.{Object, Variables, object_named}
use Rattle.syn_event.specs.declared.numbering.TaskInfo.{TaskInfo}
use Rattle.syn_event.specs.Numbering.{Numbering, task_at}
use Rattle.syn_event.specs.DeclaredTasks.{decl_list}
use Rattle.syn_event.proofs.DeclLists.{list_again, every_listed}
use Rattle.task_model.specs.Frames.{OwnBody, control}
use Rattle.task_model.specs.Tasks.{vars_of}
use Rattle.task_model.specs.Steps.{block_stmts, block_handlers}
use Rattle.task_model.specs.Starting.{Unit, unit_of, unit_among, form_of, initial, declared_objects, objects_of, started, started_in}
use Rattle.task_laws.specs.translation.Translations.{Programs}
use Rattle.task_laws.specs.translation.Controls.{task_in}
use Rattle.task_laws.specs.translation.OldTexts.{only_names, OldBody}
use Rattle.task_laws.specs.legal.rewritten_types.Agreement.{scalar_only, Grows}
use Rattle.task_laws.specs.legal.rewritten_values.Values.{old_names}
use Rattle.task_laws.proofs.legal.rewritten_types.Lookups.{find-grown}
use Rattle.task_laws.proofs.legal.rewritten_values.Objects.{marked_has_form}
use Rattle.task_laws.proofs.legal.types.MainScopes.{grows-decls}
use Rattle.normal_model.specs.Ranges.{word_at, truth_subtype}
use Rattle.normal_model.specs.NormalTree.{main_unit}
use Rattle.normal_laws.specs.runs.floors.NormalFloors.{Extends, extends_new}
use Rattle.normal_laws.specs.runs.floors.Preludes.{cell}
use Rattle.normal_laws.specs.runs.forms.Normalisable.{made_for, IsPlain}
use Rattle.normal_laws.specs.existence.Laws.{IsLegalOriginal}
use Rattle.replay_model.specs.ReplayTree.{is_task, is_body, last_task}
use Rattle.replay_structure.proofs.bodies.Bodies.{unit-at}
use Rattle.replay_runs.specs.starts.Laws.{own_part, added_part, objects_in, form_in, start_before}
use Rattle.replay_runs.specs.starts.Formals.{form_setting}
use Rattle.replay_runs.proofs.starts.Objects.{objects-behind, all-passed}
use Rattle.replay_runs.proofs.starts.Programs.{in-unit, all-added, beside-main as none-in-main}
use Rattle.replay_runs.proofs.starts.Tables.{integer_is_there, IsOldDecl, objects-alike}
use Rattle.replay_runs.proofs.controls.translated.Objects.{beside-main}
use Rattle.collect_model.specs.declared.AddedNames.{AddedNames}
use Rattle.collect_model.specs.Teller.{task_of}
use Rattle.collect_model.specs.Noting.{number}
use Rattle.collect_model.specs.Recording.{truth}
use Rattle.collect_model.specs.CollectTree.{unit_declared, behind_own, main_declared, is_int_io, recorder_told}
use Rattle.collect_runs.specs.translation.Floors.{HasVariables}
use Rattle.collect_runs.proofs.forms.Objects.{extends-over, extends-same, named, start-plain}
use Rattle.collect_runs.proofs.forms.Starting.{all-own, in-turn, parted, put, passed-over, plain-listed, bodies-listed}
use Rattle.collect_model.specs.aborts.Places.{places_in, most_places}
use Rattle.collect_model.specs.aborts.AbortTeller.{AbortTeller, told_at, told_in}
use Rattle.collect_model.specs.aborts.AbortStmts.{main_body, task_body}
use Rattle.collect_model.specs.aborts.AbortTree.{taken_declared, refused_declared, places_declared, abort_decl, objects_told, recorder_body_told}
use Rattle.collect_runs.specs.aborts.starts.Texts.{abort_text, abort_setting}
use Rattle.collect_runs.specs.aborts.translation.Floors.{ArePlacesAdded, HasPlaces}
use Rattle.collect_runs.specs.aborts.translation.Laws.{body_of}
use Rattle.collect_runs.specs.aborts.telling.Texts.{teller}
use Rattle.collect_runs.specs.aborts.forms.Texts.{names_added, names_kept, texts_of}
use Rattle.collect_runs.specs.aborts.forms.Laws.{StartsWithPlaces}
use Rattle.collect_runs.proofs.aborts.translation.Carried.{abort_starts}
use Rattle.collect_runs.proofs.aborts.forms.Tables.{AreCounted, agrees, names_are_added, places_are_added, few-places, types_agree, values}
use Rattle.collect_runs.proofs.aborts.forms.Old.{names-stay}
use Rattle.replay_runs.proofs.controls.translated.OldBodies.{only-old}
use Rattle.collect_runs.proofs.aborts.forms.Bodies.{told_unit}
use Rattle.collect_runs.proofs.aborts.forms.Units.{legal_runs_told}
use Rattle.collect_runs.proofs.aborts.forms.Places.{place_cells, extends-places, passed-places, taken-found, refused-found}

-- ---- declarations among others

module _ (T : TypeTable) (in_main : Bool) where
  tasks-none : (x : AbortTeller) (names : List (List ℕ)) (ds : List PDecl) (V : Variables) → objects_of T in_main (decls_of (map (abort_decl x names)
      (filter is_task ds))) V ≡ V
  tasks-none x names [] V = refl
  tasks-none x names (DTask t s ∷ ds) V = tasks-none x names ds V
  tasks-none x names (DTaskBody w objects its s ∷ ds) V = tasks-none x names ds V
  tasks-none x names (DNumber w e s ∷ ds) V = tasks-none x names ds V
  tasks-none x names (DObject ws k y i s ∷ ds) V = tasks-none x names ds V
  tasks-none x names (DEnumeration w ws s ∷ ds) V = tasks-none x names ds V
  tasks-none x names (DArray w i y s ∷ ds) V = tasks-none x names ds V
  tasks-none x names (DSubtype w y s ∷ ds) V = tasks-none x names ds V
  tasks-none x names (DException ws s ∷ ds) V = tasks-none x names ds V
  tasks-none x names (DIntIo w s ∷ ds) V = tasks-none x names ds V
  tasks-none x names (DPragma e s ∷ ds) V = tasks-none x names ds V

  bodies-none : (x : AbortTeller) (names : List (List ℕ)) (ds : List PDecl) (V : Variables) → objects_of T in_main (decls_of (map (abort_decl x names)
      (filter is_body ds))) V ≡ V
  bodies-none x names [] V = refl
  bodies-none x names (DTask t s ∷ ds) V = bodies-none x names ds V
  bodies-none x names (DTaskBody w objects its s ∷ ds) V = bodies-none x names ds V
  bodies-none x names (DNumber w e s ∷ ds) V = bodies-none x names ds V
  bodies-none x names (DObject ws k y i s ∷ ds) V = bodies-none x names ds V
  bodies-none x names (DEnumeration w ws s ∷ ds) V = bodies-none x names ds V
  bodies-none x names (DArray w i y s ∷ ds) V = bodies-none x names ds V
  bodies-none x names (DSubtype w y s ∷ ds) V = bodies-none x names ds V
  bodies-none x names (DException ws s ∷ ds) V = bodies-none x names ds V
  bodies-none x names (DIntIo w s ∷ ds) V = bodies-none x names ds V
  bodies-none x names (DPragma e s ∷ ds) V = bodies-none x names ds V

module _ (p : PProgram) (h : IsLegalOriginal p) where
  abbrev q : PProgram
  q = made_for p

  abbrev T : TypeTable
  T = types_in (made_for p)

  abbrev U : TypeTable
  U = types_in (abort_text p)

  abbrev kept : ℕ → Bool
  kept = names_kept p

  abbrev n : AddedNames
  n = names_added p

  abbrev b : Programs
  b = (texts_of p (names_kept p)).programs

  abbrev x : AbortTeller
  x = told_in (main_unit (form_in p))

  abbrev F : Numbering
  F = (form_in p).numbers

  abbrev r : Rules
  r = old_names (names_kept p)

  all-old : AllByRecursion (EveryDecl r) (decl_list q.decls)
  all-old = every_listed r q.decls (named p h (abort_text p) (abort_setting p) (names_kept p) (names-stay p h) (values p h))

  -- ---- the variables by which a unit hears the recorder

  truth-form : (s : Span) → form_of U (OPlain (truth_subtype s)) ≡ Some record { limits = truth_limits; index = None }
  truth-form s =
      marked_has_form U (word_at s record { 0 = 3 }) _ there (ap (λ o. is_some (scalar_only o)) (begins.kind 1 Truth refl))
      ∙ ap (λ (o : Option Mark). Some record { limits = limits_or o; index = None }) there
    where
      begins : Grows predefined_types U
      begins = grows-decls (abort_text p).decls (first_scope (abort_text p).name)

      there : mark_named U record { 0 = 3 } ≡ mark_named predefined_types record { 0 = 3 }
      there = find-grown (λ y. is_named record { 0 = 3 } y.name) predefined_types.marks U.marks begins.mark _ refl

  -- these two variables and those of so many places
  abbrev Heard : ℕ → Variables → Type 0
  Heard m E = (v : Value) × (w : Value) × (v' : Value) × (w' : Value) × (E ≡ place_cells x v' w' m ++
      (cell n.part integer_limits v ∷ cell n.answer truth_limits w ∷ []))

  abbrev with_forms : Span → Bool → Option Form → Option Form → Variables
  with_forms s m o u =
      declared_objects U m (word_at s n.part ∷ []) false (Some (IOne (EInteger 0 s))) u
      (declared_objects U m (word_at s n.answer ∷ []) false (Some (IOne (truth s false))) o [])

  two-heard : (in_main : Bool) (s : Span) → objects_in U in_main (unit_declared n s)
      ≡ cell n.part integer_limits (initial U integer_limits (EInteger 0 s)) ∷ cell n.answer truth_limits (initial U truth_limits (truth s false)) ∷ []
  two-heard in_main s = forms ∙ by_test in_main
    where
      forms : objects_in U in_main (unit_declared n s) ≡ with_forms s in_main (Some record { limits = truth_limits; index = None })
          (Some record { limits = integer_limits; index = None })
      forms = ap₂ (λ (o u : Option Form). with_forms s in_main o u) (truth-form s) ((integer_is_there (abort_text p)).object s)

      by_test : (m : Bool) → with_forms s m (Some record { limits = truth_limits; index = None }) (Some record { limits = integer_limits; index = None })
          ≡ cell n.part integer_limits (initial U integer_limits (EInteger 0 s)) ∷ cell n.answer truth_limits (initial U truth_limits (truth s false)) ∷ []
      by_test true = refl
      by_test false = refl

  abbrev place_forms : Span → Bool → ℕ → Option Form → Option Form → Variables → Variables
  place_forms s m k o u V =
      declared_objects U m (word_at s (x.refused (suc k)) ∷ []) false (Some (IOne (truth s false))) u
      (declared_objects U m (word_at s (x.taken (suc k)) ∷ []) false (Some (IOne (number s 0))) o V)

  places-heard : (in_main : Bool) (s : Span) (m : ℕ) → objects_in U in_main (places_declared x s m) ≡ place_cells x (initial U integer_limits
      (number s 0)) (initial U truth_limits (truth s false)) m
  places-heard in_main s zero = refl
  places-heard in_main s (suc m) =
      in-turn U in_main (places_declared x s m) (taken_declared s (x.taken (suc m)) ∷ refused_declared s (x.refused (suc m)) ∷ []) []
      ∙ ap₂ (λ (o u : Option Form). place_forms s in_main m o u (objects_in U in_main (places_declared x s m))) ((integer_is_there
      (abort_text p)).object s) (truth-form s)
      ∙ by_test in_main
      ∙ ap (λ (V : Variables). cell (x.refused (suc m)) truth_limits (initial U truth_limits (truth s false)) ∷ cell (x.taken (suc m)) integer_limits
      (initial U integer_limits (number s 0)) ∷ V)
      (places-heard in_main s m)
    where
      by_test : (c : Bool) → place_forms s c m (Some record { limits = integer_limits; index = None })
          (Some record { limits = truth_limits; index = None }) (objects_in U in_main (places_declared x s m))
          ≡ cell (x.refused (suc m)) truth_limits (initial U truth_limits (truth s false)) ∷ cell (x.taken (suc m)) integer_limits
          (initial U integer_limits (number s 0)) ∷ objects_in U in_main (places_declared x s m)
      by_test true = refl
      by_test false = refl

  unit-heard : (in_main : Bool) (s : Span) (m : ℕ) → Heard m (objects_in U in_main (unit_declared n s ++ places_declared x s m))
  unit-heard in_main s m = (
    initial U integer_limits (EInteger 0 s),
    initial U truth_limits (truth s false),
    initial U integer_limits (number s 0),
    initial U truth_limits (truth s false),
    in-turn U in_main (unit_declared n s) (places_declared x s m) []
        ∙ objects-behind U in_main (places_declared x s m) (objects_in U in_main (unit_declared n s))
        ∙ ap₂ (λ (P E : Variables). P ++ E) (places-heard in_main s m) (two-heard in_main s),
  )

  main-same : (s : Span) (instance : Bool) (last m : ℕ) → objects_in U true
      (main_declared n s instance last ++ places_declared x s m) ≡ objects_in U true (unit_declared n s ++ places_declared x s m)
  main-same s true last m = refl
  main-same s false last m = refl

  -- ---- the objects of a unit

  apart : (id : NameId) → kept id.0 ≡ false → (A : Variables) → AllByRecursion (IsPlain b) A → AllByRecursion (λ (o : Object). (o.name.0 == id.0) ≡ false) A
  apart id new [] k = tt
  apart id new (o ∷ A) k = (by_test (o.name.0 == id.0) refl, apart id new A k.1)
    where
      by_test : (c : Bool) → (o.name.0 == id.0) ≡ c → c ≡ false
      by_test false e = refl
      by_test true e = absurd (true≢false (sym k.0.0 ∙ ap kept (eqb-true _ _ e) ∙ new))

  record Started (last : ℕ) (V V' : Variables) : Type 0 where
    extends : Extends b V V'
    heard : HasVariables n V'
    places : HasPlaces x last V'

  module _ (counted : AreCounted (form_in p).program) where
    starts-with : (in_main : Bool) (last : ℕ) → last ≤ most_places (form_in p).program → (es ds : List PDecl) → AllByRecursion (EveryDecl r) ds →
        Heard last (objects_in U in_main es) →
        AllByRecursion (IsPlain b) (objects_in T in_main ds) → Started last (objects_in T in_main ds) (objects_in U in_main (behind_own q.names es ds))
    starts-with in_main last few es ds old heard plain =
        let Old : PDecl → Type 0 = IsOldDecl kept T U (agrees p h) in
        let all : AllByRecursion Old ds = all_weaker (EveryDecl r) Old ds (λ d k. inl k) old in
        let A : Variables = objects_in T in_main (added_part q.names ds) in
        let O : Variables = objects_in T in_main (own_part q.names ds) in
        let v : Value = heard.0 in
        let w : Value = heard.1 in
        let P : Variables = place_cells x heard.2 heard.3 last in
        let E : Variables = cell n.part integer_limits v ∷ cell n.answer truth_limits w ∷ [] in
        let before : objects_in T in_main ds ≡ A ++ O = (parted T in_main q.names ds [] ∙ objects-behind T in_main (added_part q.names ds) O) in
        let same_added : objects_in U in_main (added_part q.names ds) ≡ A = sym (objects-alike kept T U (agrees p h) in_main (added_part q.names ds)
        (all-added Old q.names ds all) []) in
        let same_own : objects_in U in_main (own_part q.names ds) ≡ O = sym (objects-alike kept T U (agrees p h) in_main (own_part q.names ds)
        (all-own Old q.names ds all) []) in
        let after : objects_in U in_main (behind_own q.names es ds) ≡ A ++ (P ++ (E ++ O)) =
        (put U in_main q.names es ds []
        ∙ objects-behind U in_main (added_part q.names ds) (objects_of U in_main (decls_of es) (objects_in U in_main (own_part q.names ds)))
        ∙ ap (λ (l : Variables). objects_in U in_main (added_part q.names ds) ++ l) (objects-behind U in_main es (objects_in U in_main (own_part q.names ds)))
        ∙ (λ i. same_added i ++ (heard.4 i ++ same_own i))
        ∙ ap (λ (l : Variables). A ++ l) (append_assoc P E O)) in
        let each : AllByRecursion (IsPlain b) (A ++ O) = subst (AllByRecursion (IsPlain b)) before plain in
        let in_added : AllByRecursion (IsPlain b) A = all_front (IsPlain b) A O each in
        let new = names_are_added p in
        let places : ArePlacesAdded b x last = places_are_added p counted last few in
        let least : last ≤ last = omega arith in
        record {
          extends =
              subst (λ V. Extends b V (objects_in U in_main (behind_own q.names es ds))) (sym before)
              (subst (λ W. Extends b (A ++ O) W) (sym after)
              (extends-over b A O (P ++ (E ++ O)) in_added
              (extends-places b x last places heard.2 heard.3 last least O (E ++ O)
              (extends_new (cell n.part integer_limits v) O (cell n.answer truth_limits w ∷ O) new.part
              (extends_new (cell n.answer truth_limits w) O O new.answer (extends-same b O (all_back (IsPlain b) A O each)))))));
          heard = record {
            answer = (
              w,
              record {
                name = n.answer;
                found =
                    ap (λ V. object_named V n.answer) after
                    ∙ all-passed A (P ++ (E ++ O)) n.answer (apart n.answer new.answer A in_added)
                    ∙ passed-places b x last places heard.2 heard.3 n.answer places.answer_taken places.answer_refused last least (E ++ O)
                    ∙ ap (λ (c : Bool). cond c (Some (cell n.part integer_limits v)) (object_named (cell n.answer truth_limits w ∷ O) n.answer)) new.part_answer
                    ∙ ap (λ (c : Bool). cond c (Some (cell n.answer truth_limits w)) (object_named O n.answer)) (equal_self n.answer.0);
              },
            );
            part = (
              v,
              record {
                name = n.part;
                found =
                    ap (λ V. object_named V n.part) after
                    ∙ all-passed A (P ++ (E ++ O)) n.part (apart n.part new.part A in_added)
                    ∙ passed-places b x last places heard.2 heard.3 n.part places.part_taken places.part_refused last least (E ++ O)
                    ∙ ap (λ (c : Bool). cond c (Some (cell n.part integer_limits v)) (object_named (cell n.answer truth_limits w ∷ O) n.part))
                    (equal_self n.part.0);
              },
            );
          };
          places = record {
            taken = λ k i. (
              heard.2,
              record {
                name = x.taken k;
                found =
                    ap (λ V. object_named V (x.taken k)) after
                    ∙ all-passed A (P ++ (E ++ O)) (x.taken k) (apart (x.taken k) (places.taken k i) A in_added)
                    ∙ taken-found b x last places heard.2 heard.3 last k least i (E ++ O);
              },
            );
            refused = λ k i. (
              heard.3,
              record {
                name = x.refused k;
                found =
                    ap (λ V. object_named V (x.refused k)) after
                    ∙ all-passed A (P ++ (E ++ O)) (x.refused k) (apart (x.refused k) (places.refused k i) A in_added)
                    ∙ refused-found b x last places heard.2 heard.3 last k least i (E ++ O);
              },
            );
          };
        }

    -- ---- the tasks

    -- how many places the unit of a task has
    abbrev places : ℕ → ℕ
    places t = places_in (unit_of q F t).body

    of-body : (t : ℕ) (s : Span) (its image : PBody) (V V' : Variables) (input : List ℤ) → OldBody (only_names b) its → Started (places_in its) V V' →
        image ≡ body_of (teller (texts_of p kept) t) s its →
        StartsWithPlaces (texts_of p kept) t (places_in its) (task_in b.original t input [] (control (block_stmts its) (OwnBody
        (block_handlers its) None) [] V))
        (task_in b.made t input [] (control (block_stmts image) (OwnBody (block_handlers image) None) [] V'))
    of-body t s its image V V' input names st e =
        subst
        (λ (y : PBody). StartsWithPlaces (texts_of p kept) t (places_in its) (task_in b.original t input [] (control (block_stmts its) (OwnBody
        (block_handlers its) None) [] V))
        (task_in b.made t input [] (control (block_stmts y) (OwnBody (block_handlers y) None) [] V')))
        (sym e)
        (let one = abort_starts b (teller (texts_of p kept) t) (places_in its) s its V V' t input (names_are_added p) (types_agree p h)
        (let l : places_in its ≤ places_in its = omega arith in l) names st.extends st.heard in
        let k : HasPlaces x (places_in its) (vars_of one.reached) = subst (λ (W : Variables). HasPlaces x (places_in its) W) (sym one.same) st.places in
        record { starts = one; places = record { taken = k.taken; refused = k.refused } })

    abbrev plain-part : List PDecl
    plain-part = filter (λ d. not (is_task d || is_body d)) (decl_list q.decls)

    main-before : objects_of T true q.decls [] ≡ objects_in T true plain-part
    main-before = ap (λ ds. objects_of T true ds []) (sym (list_again q.decls)) ∙ passed-over T true (decl_list q.decls) []

    main-after : objects_of U true (abort_text p).decls [] ≡ objects_in U true (objects_told x q plain-part)
    main-after =
        let ds = decl_list q.decls in
        let first = objects_told x q plain-part in
        let tasks = map (abort_decl x q.names) (filter is_task ds) in
        let recorder = recorder_told x.teller q ∷ [] in
        let bodies = map (abort_decl x q.names) (filter is_body ds) in
        in-turn U true (first ++ tasks ++ recorder ++ bodies) (recorder_body_told x q ∷ []) []
        ∙ in-turn U true (first ++ tasks ++ recorder) bodies []
        ∙ bodies-none U true x q.names ds (objects_of U true (decls_of (first ++ tasks ++ recorder)) [])
        ∙ in-turn U true (first ++ tasks) recorder []
        ∙ in-turn U true first tasks []
        ∙ tasks-none U true x q.names ds (objects_of U true (decls_of first) [])

    main-started : Started (places_in q.body) (objects_of T true q.decls []) (objects_of U true (abort_text p).decls [])
    main-started =
        let es = main_declared n q.name.span (list_any is_int_io plain-part) (last_task F) ++ places_declared x q.name.span (places_in q.body) in
        let one = unit-heard true q.name.span (places_in q.body) in
        let heard : Heard (places_in q.body) (objects_in U true es) = (
          one.0,
          one.1,
          one.2,
          one.3,
          main-same q.name.span
              (list_any is_int_io plain-part) (last_task F) (places_in q.body) ∙ one.4,
        ) in
        let old = plain-listed (EveryDecl r) (decl_list q.decls) all-old in
        let plain = start-plain p h (abort_text p) (abort_setting p) (names_kept p) (names-stay p h) (values p h) 0 in
        subst (λ V. Started (places_in q.body) V (objects_of U true (abort_text p).decls [])) (sym main-before)
        (subst (λ V'. Started (places_in q.body) (objects_in T true plain-part) V') (sym main-after)
        (starts-with true (places_in q.body) (few-places p 0) es plain-part old heard (subst (AllByRecursion (IsPlain b)) main-before plain)))

    task-started : (t : ℕ) (info : TaskInfo) → task_at F (suc t) ≡ Some info → (s : Span) →
        Started (places (suc t)) (start_before p (suc t)) (objects_of U false (told_unit x q.names info.unit s (unit_of q F (suc t))).decls [])
    task-started t info at s =
        let ds = decl_list (unit_of q F (suc t)).decls in
        let is : unit_of q F (suc t) ≡ unit_among q.decls info.unit = unit-at q F t info at in
        let beside : (unit_of q F (suc t)).in_main ≡ false = (ap (λ (y : Unit). y.in_main) is ∙ none-in-main q.decls info.unit) in
        let same : start_before p (suc t) ≡ objects_in T false ds =
        (ap (λ (m : Bool). objects_of T m (unit_of q F (suc t)).decls []) beside ∙ ap (λ (y : PDecls). objects_of T false y []) (sym (list_again
        (unit_of q F (suc t)).decls))) in
        let old : AllByRecursion (EveryDecl r) ds =
        subst (λ (y : Unit). AllByRecursion (EveryDecl r) (decl_list y.decls)) (sym is) (in-unit (EveryDecl r) q.decls info.unit (bodies-listed r
        (decl_list q.decls) all-old)) in
        let plain : AllByRecursion (IsPlain b) (start_before p (suc t)) =
        start-plain p h (abort_text p) (abort_setting p) (names_kept p) (names-stay p h) (values p h) (suc t) in
        subst (λ V. Started (places (suc t)) V (objects_of U false (told_unit x q.names info.unit s (unit_of q F (suc t))).decls [])) (sym same)
        (starts-with false (places (suc t)) (few-places p (suc t)) (unit_declared n s ++ places_declared x s (places (suc t))) ds old
        (unit-heard false s (places (suc t))) (subst (AllByRecursion (IsPlain b)) same plain))

    -- Each task of the text comes to where it is alike the normal form's, with the variables of its places.
    pub legal_starts : (inputs : List (List ℤ)) (t : ℕ) → t ≤ last_task F → StartsWithPlaces (texts_of p kept) t (places t) (started
        (form_setting p) inputs t) (started (abort_setting p) inputs t)
    legal_starts inputs zero l =
        of-body 0 q.name.span q.body (abort_text p).body (objects_of T true q.decls []) (objects_of U true (abort_text p).decls [])
        (slice_index_or inputs 0 []) (only-old p h (abort_setting p) (names_kept p) (names-stay p h) 0) main-started refl
    legal_starts inputs (suc t) l =
        let at = beside-main p [] h t l in
        let info : TaskInfo = at.0 in
        let runs = legal_runs_told p h t info at.1 in
        let s : Span = runs.0 in
        subst (λ (k : Unit). StartsWithPlaces (texts_of p kept) (suc t) (places (suc t)) (started (form_setting p) inputs (suc t)) (started_in
        (abort_setting p) (suc t) k (slice_index_or inputs (suc t) []))) (sym runs.1)
        (of-body (suc t) s (unit_of q F (suc t)).body (task_body (told_at x (task_of F info.unit)) s (unit_of q F (suc t)).body) (start_before p (suc t))
        (objects_of U false (told_unit x q.names info.unit s (unit_of q F (suc t))).decls []) (slice_index_or inputs (suc t) [])
        (only-old p h (abort_setting p) (names_kept p) (names-stay p h) (suc t))
        (task-started t info at.1 s)
        (ap (λ (m : ℕ). task_body (told_at x m) s (unit_of q F (suc t)).body) runs.2
        ∙ ap (λ (c : Bool). if c then main_body (told_at x (suc t)) (unit_of q F (suc t)).body else task_body (told_at x (suc t)) s (unit_of q F (suc t)).body)
        (sym (ne_eqb (suc t) 0 (λ e. omega (arith, e))))))

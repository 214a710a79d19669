-- The names of the recorder of a legal program's collecting text with abort statements are apart, and the predefined types are there.
use Rattle.std.proofs.Common.{◌≡◌, ℕ, suc, ◌==◌, ◌<◌, Bool, true, false, List, [], ◌∷◌, ◌++◌, length, drop, option_map, slice_get, position}
use Rattle.std.proofs.Common.{length-append, append_assoc, Option, Some, None, if◌then◌else◌, refl, sym, ap, ◌∙◌, arith}
use Rattle.std.specs.Prelude.{codes}
use Rattle.std.proofs.lemmas.List.{take-append-drop}
use Rattle.ada_tree.specs.declared.static_types.Kind.TheVariants.{Integer}
use Rattle.ada_tree.specs.Attributes.{false_name, true_name}
use Rattle.ada_tree.specs.NameList.{predefined}
use Rattle.ada_tree.specs.PlainProgram.{PProgram}
use Rattle.ada_static_rules.specs.StaticValue.{is_named}
use Rattle.ada_static_rules.specs.Declaring.{predefined_types, first_scope}
use Rattle.ada_static_rules.specs.Refusals.{types_in}
use Rattle.ada_value.specs.Values.{limits_of, limits_or}
use Rattle.syn_event.specs.DeclaredTasks.{text_of}
use Rattle.task_laws.specs.legal.rewritten_types.Agreement.{Grows}
use Rattle.task_laws.proofs.legal.rewritten_types.Lookups.{find-grown}
use Rattle.task_laws.proofs.legal.types.MainScopes.{grows-decls}
use Rattle.normal_model.specs.Names.{id_of}
use Rattle.normal_model.proofs.VariablesLemmas.{Begins, begins-trans}
use Rattle.normal_laws.proofs.structure.types.Names.{fold-begins}
use Rattle.normal_laws.proofs.structure.types.NamesApart.{front-kept}
use Rattle.normal_laws.proofs.structure.numbers.Named.{Has, text-there, has-folded, has-longer}
use Rattle.normal_laws.proofs.structure.numbers.TaskNames.{normal-begins}
use Rattle.normal_laws.specs.runs.forms.Normalisable.{numbers_of}
use Rattle.normal_laws.specs.existence.Laws.{IsLegalOriginal}
use Rattle.replay_runs.specs.starts.Laws.{form_in}
use Rattle.table_law.specs.Controllers.{AreApart}
use Rattle.collect_model.specs.Names.{kind_text, subject_text, argument_text, index_text, owner_text, reply_text, gone_text, met_text, added_texts, with_added}
use Rattle.std.proofs.lemmas.Option.{slice_get_within}
use Rattle.common_lemmas.proofs.Options.{some_same, not_missing}
use Rattle.syn_event.specs.declared.numbering.TaskInfo.{TaskInfo}
use Rattle.syn_event.specs.Numbering.{task_named}
use Rattle.ada_static_rules.specs.StaticValue.{first_of_two}
use Rattle.ada_static_rules.proofs.found_twice.FirstOfTwo.{position_push}
use Rattle.run_laws.specs.replaying.Copies.{Spots, AtRest}
use Rattle.replay_runs.proofs.controls.Joining.{has-join}
use Rattle.collect_model.specs.CollectNumbers.{recorder_info}
use Rattle.collect_model.specs.Names.{added_in}
use Rattle.replay_structure.proofs.spots.Ordered.{normal_is_in_order}
use Rattle.replay_runs.proofs.found.Legal as facts
use Rattle.replay_runs.proofs.controls.meanings.Naming.{owner-below}
use Rattle.collect_runs.proofs.starts.Owning.{note-found}
use Rattle.collect_runs.proofs.forms.Finding.{few_tasks}
use Rattle.collect_model.specs.aborts.Names.{acceptors_text, each_text, with_recorded}
use Rattle.collect_model.specs.aborts.AbortTeller.{names_told}
use Rattle.collect_model.specs.aborts.Places.{most_places}
use Rattle.collect_runs.specs.aborts.recorder.Recorders.{variable_names}
use Rattle.collect_runs.specs.aborts.starts.Texts.{abort_text, recorder_of}
use Rattle.collect_runs.specs.aborts.starts.Laws.{LegalHasNames}
use Rattle.collect_structure.proofs.aborts.texts.Named.{places-begin}
use Rattle.collect_runs.proofs.starts.Recorder.{all-apart}

-- ---- names

module _ (p : PProgram) (h : IsLegalOriginal p) where
  abbrev form_names : List (List ℕ)
  form_names = (form_in p).program.names

  abbrev names : List (List ℕ)
  names = names_told (form_in p).program

  added-begin : Begins form_names (with_added form_names)
  unfolding with_added
  added-begin = fold-begins added_texts form_names

  recorded-begin : Begins (with_added form_names) (with_recorded form_names)
  unfolding with_recorded
  recorded-begin = fold-begins (acceptors_text ∷ each_text ∷ []) (with_added form_names)

  all-begin : Begins (with_recorded form_names) names
  all-begin = places-begin (with_recorded form_names) (most_places (form_in p).program)

  begins : Begins p.names names
  begins = begins-trans (normal-begins p (types_in p) (numbers_of p)) (begins-trans added-begin (begins-trans recorded-begin all-begin))

  whole : names ≡ predefined ++ drop (length predefined) names
  whole =
      sym (take-append-drop (length predefined) names)
      ∙ ap (λ (l : List (List ℕ)). l ++ drop (length predefined) names) (front-kept p.names names begins h.names.begins)

  added-has : (t : List ℕ) → Has added_texts t → Has (with_added form_names) t
  unfolding with_added
  added-has t has = has-folded added_texts form_names t has

  recorded-has : (t : List ℕ) → Has (acceptors_text ∷ each_text ∷ []) t → Has (with_recorded form_names) t
  unfolding with_recorded
  recorded-has t has = has-folded (acceptors_text ∷ each_text ∷ []) (with_added form_names) t has

  there : (t : List ℕ) → Has added_texts t → text_of names (id_of names t) ≡ t
  there t has = text-there names t (has-longer (with_added form_names) names t (begins-trans recorded-begin all-begin) (added-has t has))

  more-there : (t : List ℕ) → Has (acceptors_text ∷ each_text ∷ []) t → text_of names (id_of names t) ≡ t
  more-there t has = text-there names t (has-longer (with_recorded form_names) names t all-begin (recorded-has t has))

  names-apart : AreApart (record { 0 = false_name } ∷ record { 0 = true_name } ∷ (recorder_of p []).teller.each ∷ variable_names (recorder_of p []))
  names-apart =
      all-apart names (record { 0 = false_name } ∷ record { 0 = true_name } ∷ (recorder_of p []).teller.each ∷ variable_names (recorder_of p []))
      (codes "FALSE" ∷ codes "TRUE" ∷ each_text ∷ kind_text ∷ subject_text ∷ argument_text ∷ index_text ∷ owner_text ∷ reply_text ∷ acceptors_text ∷ met_text ∷ gone_text ∷ []) (
        ap (λ (l : List (List ℕ)). text_of l record { 0 = false_name }) whole,
        (
          ap (λ (l : List (List ℕ)). text_of l record { 0 = true_name }) whole,
          (
            more-there each_text refl,
            (
              there kind_text refl,
              (
                there subject_text refl,
                (
                  there argument_text refl,
                  (
                    there index_text refl,
                    (there owner_text refl, (there reply_text refl, (more-there acceptors_text refl, (there met_text refl, (there gone_text refl, tt))))),
                  ),
                ),
              ),
            ),
          ),
        ),
      )
      refl

-- ---- types

-- the predefined types are in the table of each program
grown : (p : PProgram) → Grows predefined_types (types_in p)
grown p = grows-decls p.decls (first_scope p.name)

-- ---- tasks

-- what is found before two more is found without them
front-first : {A : Type 0} (test : A → Bool) (xs : List A) (a b : A) (k : ℕ) → k < length xs → position test (xs ++ a ∷ b ∷ []) ≡ Some k → position test xs ≡ Some k
front-first test xs a b k l e = by (position test xs) refl (test a) (test b) refl refl
  where
    by : (o : Option ℕ) → position test xs ≡ o → (x y : Bool) → test a ≡ x → test b ≡ y → position test xs ≡ Some k
    by o q x y qa qb = go o q x y (sym (
        ap (position test) (sym (append_assoc xs (a ∷ []) (b ∷ []))) ∙ position_push test (xs ++ a ∷ []) b
        ∙ ap (λ r. first_of_two r (if test b then Some (length (xs ++ a ∷ [])) else None)) (position_push test xs a ∙ ap (λ r. first_of_two r (if test a then Some (length xs) else None)) q)
        ∙ ap (λ z. first_of_two (first_of_two o (if z then Some (length xs) else None)) (if test b then Some (length (xs ++ a ∷ [])) else None)) qa
        ∙ ap (λ z. first_of_two (first_of_two o (if x then Some (length xs) else None)) (if z then Some (length (xs ++ a ∷ [])) else None)) qb) ∙ e)
      where
        go : (o : Option ℕ) → position test xs ≡ o → (x y : Bool) →
            first_of_two (first_of_two o (if x then Some (length xs) else None)) (if y then Some (length (xs ++ a ∷ [])) else None) ≡ Some k → position test xs ≡ Some k
        go (Some m) r u v w = r ∙ w
        go None r true v w = absurd (let s : length xs ≡ k = some_same w in omega (arith, s, l))
        go None r false true w = absurd (let s : length (xs ++ a ∷ []) ≡ k = some_same w in omega (arith, s, l, length-append xs (a ∷ [])))
        go None r false false w = absurd (not_missing k w)

beside-within : (tasks : List TaskInfo) (j : ℕ) (info : TaskInfo) → slice_get (drop 1 tasks) j ≡ Some info → suc j < length tasks
beside-within [] j info at = absurd (not_missing info at)
beside-within (main ∷ tasks) j info at = omega (arith, slice_get_within tasks j info at)

-- any numbers of entries
some_spots : Spots
some_spots = record {
  original = λ e. e;
  shadow = λ e. e;
  go = 0;
  done = 0;
  hold = 0;
  join = λ t. 0;
  never = λ t. 0;
  stop = 0;
  rest = 0;
  sort = λ e. AtRest;
}

task-found : (p : PProgram) → IsLegalOriginal p → (j : ℕ) (info : TaskInfo) → slice_get (drop 1 (form_in p).numbers.tasks) j ≡ Some info →
    task_named (recorder_of p []).setting.numbers info.name ≡ Some (suc j)
task-found p h j info at =
    let test : TaskInfo → Bool = λ i. i.name.0 == info.name.0 in
    let own : TaskInfo = recorder_info (added_in (names_told (form_in p).program)) in
    position_push test (form_in p).numbers.tasks own
    ∙ ap (λ r. first_of_two r (if test own then Some (length (form_in p).numbers.tasks) else None))
    (front-first test (form_in p).numbers.tasks _ _ (suc j) (beside-within (form_in p).numbers.tasks j info at) (has-join some_spots p [] [] h j info at).task)

pub legal_has_names : LegalHasNames
legal_has_names p inputs h =
    let T = types_in (abort_text p) in
    record {
      apart = names-apart p h;
      of_truth = ap limits_or (find-grown (λ x. is_named record { 0 = 3 } x.name) predefined_types.marks T.marks (grown (abort_text p)).mark _ refl);
      integer = (grown (abort_text p)).kind 0 Integer refl;
      of_kind = ap limits_or (find-grown (λ x. x.kind == 0) predefined_types.marks T.marks (grown (abort_text p)).mark _ refl);
      of_integer = ap (option_map limits_of) (find-grown (λ x. is_named record { 0 = 0 } x.name) predefined_types.marks T.marks (grown (abort_text p)).mark _ refl);
      few = few_tasks p h;
      found = note-found (added_in (names_told (form_in p).program)) (form_in p).numbers (owner-below (form_in p).numbers (normal_is_in_order p (facts.ordered p h)));
      aborts = task-found p h;
    }

-- The recorder of a legal program's collecting text: its names are apart, BOOLEAN is there, and its entry is found.
use Rattle.std.proofs.Common.{◌≡◌, ℕ, ◌==◌, ◌&&◌, not, Bool, true, false, List, [], ◌∷◌, ◌++◌, length, drop, refl, sym, ap, ◌∙◌}
use Rattle.std.specs.Prelude.{codes}
use Rattle.std.specs.List.{AllByRecursion, list_any}
use Rattle.std.specs.Str.{bytes_eq}
use Rattle.std.proofs.lemmas.List.{take-append-drop}
use Rattle.common_lemmas.proofs.Lists.{texts_differ}
use Rattle.common_lemmas.proofs.Numbers.{unequal}
use Rattle.common_lemmas.proofs.Truth.{and_both, not_true, or_both}
use Rattle.ada_tree.specs.declared.naming.NameId.{NameId}
use Rattle.ada_tree.specs.Attributes.{false_name, true_name}
use Rattle.ada_tree.specs.NameList.{predefined}
use Rattle.ada_tree.specs.PlainProgram.{PProgram}
use Rattle.ada_static_rules.specs.StaticValue.{is_named}
use Rattle.ada_static_rules.specs.Declaring.{predefined_types, first_scope}
use Rattle.ada_static_rules.specs.Refusals.{types_in}
use Rattle.ada_value.specs.Values.{limits_or, limits_named, truth_limits}
use Rattle.syn_event.specs.DeclaredTasks.{text_of}
use Rattle.task_laws.proofs.legal.rewritten_types.Lookups.{find-grown}
use Rattle.task_laws.proofs.legal.types.MainScopes.{grows-decls}
use Rattle.normal_model.specs.Names.{id_of}
use Rattle.normal_model.proofs.VariablesLemmas.{Begins, begins-trans}
use Rattle.normal_laws.proofs.structure.types.Names.{fold-begins}
use Rattle.normal_laws.proofs.structure.types.NamesApart.{front-kept}
use Rattle.normal_laws.proofs.structure.numbers.Named.{Has, text-there, has-folded}
use Rattle.normal_laws.proofs.structure.numbers.TaskNames.{normal-begins}
use Rattle.normal_laws.specs.runs.forms.Normalisable.{numbers_of}
use Rattle.normal_laws.specs.existence.Laws.{IsLegalOriginal}
use Rattle.replay_runs.specs.starts.Laws.{form_in}
use Rattle.table_law.specs.Controllers.{AreApart}
use Rattle.collect_model.specs.Names.{kind_text, subject_text, argument_text, index_text, owner_text, reply_text, gone_text, met_text, added_texts, with_added, collect_names}
use Rattle.collect_runs.specs.recorder.Recorders.{variable_names}
use Rattle.replay_structure.proofs.spots.Ordered.{normal_is_in_order}
use Rattle.replay_runs.proofs.found.Legal as facts
use Rattle.replay_runs.proofs.controls.meanings.Naming.{owner-below}
use Rattle.collect_runs.specs.starts.Laws.{LegalIsRecorder}
use Rattle.collect_runs.proofs.starts.FlagsType.{legal_has_flags}
use Rattle.collect_runs.proofs.starts.Owning.{note-found}
use Rattle.collect_runs.specs.starts.Texts.{text_for, names_added}

-- ---- names

-- the ids have these texts, one by one
abbrev pub Say : List (List ℕ) → List NameId → List (List ℕ) → Type 0
Say names [] [] = Unit {0}
Say names (i ∷ is) (t ∷ ts) = (text_of names i ≡ t) × Say names is ts
Say names is ts = ⊥

-- no text of the list stands in it twice
abbrev pub all_differ : List (List ℕ) → Bool
all_differ [] = true
all_differ (t ∷ ts) = not (list_any (bytes_eq t) ts) && all_differ ts

pub one-apart : (names : List (List ℕ)) (i : NameId) (a : List ℕ) → text_of names i ≡ a → (is : List NameId) (ts : List (List ℕ)) → Say names is ts → list_any (bytes_eq a) ts ≡ false →
    AllByRecursion (λ (y : NameId). (i.0 == y.0) ≡ false) is
one-apart names i a says [] [] all differ = tt
one-apart names i a says (j ∷ is) (b ∷ ts) all differ =
    let both = or_both (bytes_eq a b) (list_any (bytes_eq a) ts) differ in
    (unequal i.0 j.0 (λ same. texts_differ a b both.0 (sym says ∙ ap (λ (n : ℕ). text_of names record { 0 = n }) same ∙ all.0)), one-apart names i a says is ts all.1 both.1)
one-apart names i a says [] (b ∷ ts) all differ = absurd all
one-apart names i a says (j ∷ is) [] all differ = absurd all

pub all-apart : (names : List (List ℕ)) (is : List NameId) (ts : List (List ℕ)) → Say names is ts → all_differ ts ≡ true → AreApart is
all-apart names [] [] all differ = tt
all-apart names (i ∷ is) (t ∷ ts) all differ =
    let both = and_both (not (list_any (bytes_eq t) ts)) (all_differ ts) differ in
    (one-apart names i t all.0 is ts all.1 (not_true (list_any (bytes_eq t) ts) both.0), all-apart names is ts all.1 both.1)
all-apart names [] (t ∷ ts) all differ = absurd all
all-apart names (i ∷ is) [] all differ = absurd all

module _ (p : PProgram) (h : IsLegalOriginal p) where
  abbrev names : List (List ℕ)
  names = collect_names (form_in p).program

  begins : Begins p.names names
  unfolding with_added
  begins = begins-trans (normal-begins p (types_in p) (numbers_of p)) (fold-begins added_texts (form_in p).program.names)

  whole : names ≡ predefined ++ drop (length predefined) names
  whole =
      sym (take-append-drop (length predefined) names)
      ∙ ap (λ (l : List (List ℕ)). l ++ drop (length predefined) names) (front-kept p.names names begins h.names.begins)

  there : (t : List ℕ) → Has added_texts t → text_of names (id_of names t) ≡ t
  unfolding with_added
  there t has = text-there names t (has-folded added_texts (form_in p).program.names t has)

  pub names-apart : AreApart (record { 0 = false_name } ∷ record { 0 = true_name } ∷ variable_names (names_added p))
  names-apart =
      all-apart names (record { 0 = false_name } ∷ record { 0 = true_name } ∷ variable_names (names_added p))
      (codes "FALSE" ∷ codes "TRUE" ∷ kind_text ∷ subject_text ∷ argument_text ∷ index_text ∷ owner_text ∷ reply_text ∷ met_text ∷ gone_text ∷ []) (
        ap (λ (l : List (List ℕ)). text_of l record { 0 = false_name }) whole,
        (
          ap (λ (l : List (List ℕ)). text_of l record { 0 = true_name }) whole,
          (
            there kind_text refl,
            (there subject_text refl, (there argument_text refl, (there index_text refl, (there owner_text refl, (there reply_text refl, (there met_text refl, (there gone_text refl, tt))))))),
          ),
        ),
      )
      refl

-- ---- types

-- BOOLEAN means BOOLEAN in each program
pub truth-there : (p : PProgram) → limits_named (types_in p) record { 0 = 3 } ≡ truth_limits
truth-there p = ap limits_or (find-grown (λ x. is_named record { 0 = 3 } x.name) predefined_types.marks (types_in p).marks (grows-decls p.decls (first_scope p.name)).mark _ refl)

-- ---- the recorder

pub legal_is_recorder : LegalIsRecorder
legal_is_recorder p inputs h = record {
  apart = names-apart p h;
  of_truth = truth-there (text_for p);
  of_flags = legal_has_flags p h;
  found = note-found (names_added p) (form_in p).numbers (owner-below (form_in p).numbers (normal_is_in_order p (facts.ordered p h)));
}

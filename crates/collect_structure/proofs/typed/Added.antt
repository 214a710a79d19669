-- The declarations that a collecting text adds meet the static rules 1 and 3 to 12, and what can be used behind them.
use Rattle.std.proofs.Common.{Bool, None, Some, [], ap, arith, eq-eqb, eqb-true, false, if◌then◌else◌, int_lt, length, pos, refl, sym, true, true≢false, ℕ, ◌++◌, ◌==◌, ◌∙◌, ◌∷◌, ◌≡◌}
use Rattle.std.proofs.lemmas.Int.{ints}
use Rattle.common_lemmas.proofs.Lists.{all_joined}
use Rattle.ada_tree.specs.PlainDecl.{DIntIo, PEntry}
use Rattle.ada_tree.specs.PlainExpr.{PDrange, RGiven}
use Rattle.ada_tree.specs.TypeTable.{TypeTable}
use Rattle.ada_tree.specs.declared.naming.NameId.{NameId}
use Rattle.ada_tree.specs.declared.naming.Span.{Span}
use Rattle.ada_tree.specs.declared.naming.Word.{Word}
use Rattle.ada_tree.specs.declared.static_types.Kind.{Kind}
use Rattle.ada_tree.specs.declared.static_types.Kind.TheVariants.{Array}
use Rattle.ada_tree.specs.declared.static_types.Mark.{Mark}
use Rattle.ada_static_rules.specs.Declaring.{add_kind, add_mark, after_decl, after_own_object, after_type, drange_range, inner_scope, made_array, subind_made, with_name, with_types}
use Rattle.ada_static_rules.specs.Demand.{must_be_alike, scalar_only}
use Rattle.ada_static_rules.specs.RuleDuplicate.{is_predefined}
use Rattle.ada_static_rules.specs.Scope.{ScalarMark, Scope, Thing, TypeMark, Variable, integer_kind, mark_at, marking_of, marking_of_mark, meaning, truth_kind}
use Rattle.ada_static_rules.specs.Sites.{all_names, decl_sites, drange_sites, entries_sites, formal_mark_sites, formals_sites, names_sites, site, subind_sites}
use Rattle.ada_static_rules.specs.StaticValue.{value_named}
use Rattle.task_laws.proofs.legal.alike_scopes.Marks.{scalar-grown}
use Rattle.task_laws.specs.legal.alike_scopes.Laws.{IsMetBut}
use Rattle.task_laws.specs.legal.rewritten_types.Agreement.{Keeps}
use Rattle.normal_model.specs.Ranges.{truth_subtype, word_at}
use Rattle.normal_laws.proofs.structure.typed.Literals.{integer-marked, plain-fixed}
use Rattle.normal_laws.proofs.structure.typed.Places.{met-declares, met-static}
use Rattle.normal_laws.proofs.structure.typed.Scopes.{meaning-more}
use Rattle.normal_laws.proofs.structure.typed.Variables.{AllMetBut, words-met}
use Rattle.normal_laws.specs.structure.typed.ScopeOf.{MeansInteger}
use Rattle.replay_structure.proofs.scopes.Permit.{integer-step, only}
use Rattle.replay_structure.proofs.typed.Calls.{number-met}
use Rattle.replay_structure.proofs.typed.Control.{integer-mark, integer-range}
use Rattle.replay_structure.proofs.typed.Declared.{entries-met}
use Rattle.replay_structure.specs.typed.ScopeOf.{IsNumber}
use Rattle.collect_model.specs.CollectTree.{answer_declared, flags_type, part_declared}
use Rattle.collect_model.specs.Noting.{number}
use Rattle.collect_model.specs.Recording.{note_formals, recorder_declared, truth}
use Rattle.collect_model.specs.declared.AddedNames.{AddedNames}
use Rattle.collect_structure.proofs.typed.Truths.{object-behind, object-met, truth-fixed, truth-mark, truth-marked, truth-range}
use Rattle.collect_structure.specs.typed.Recording.{ArePredefined, MeansTruth, integer_values, truth_values}
use Rattle.collect_structure.specs.typed.Told.{IsTruth}

-- ---- what is predefined stays so

-- behind declarations of other names that give no old name a meaning
pub predefined-step : (d d' : Scope) → ((k : ℕ) → is_predefined k ≡ true → meaning d' (record { 0 = k }) ≡ meaning d (record { 0 = k })) →
    Keeps (only (record { 0 = 0 })) d.types d'.types → ArePredefined d → ArePredefined d'
predefined-step d d' m k h = record {
  integer = integer-step d d' (m 0 refl) k h.integer;
  truth = record {
    place = h.truth.place;
    mark = h.truth.mark;
    means = m 3 refl ∙ h.truth.means;
    there = k.grows.mark h.truth.place h.truth.mark h.truth.there;
    kind = h.truth.kind;
    scalar = scalar-grown d.types d'.types k.grows h.truth.mark.kind h.truth.scalar;
    first = h.truth.first;
    last = h.truth.last;
  };
  falses = m 4 refl ∙ h.falses;
  trues = m 5 refl ∙ h.trues;
}

-- a new name means another thing
name-apart : (id : NameId) (k : ℕ) → is_predefined id.0 ≡ false → is_predefined k ≡ true → (id.0 == k) ≡ false
name-apart id k f e = by_test (id.0 == k) refl
  where
    by_test : (b : Bool) → (id.0 == k) ≡ b → b ≡ false
    by_test false g = refl
    by_test true g = absurd (true≢false (sym e ∙ sym (ap is_predefined (eqb-true id.0 k g)) ∙ f))

pub name-keeps : (d : Scope) (thing : Thing) (w : Word) → is_predefined w.name.0 ≡ false → (k : ℕ) → is_predefined k ≡ true →
    meaning (with_name thing d w) (record { 0 = k }) ≡ meaning d (record { 0 = k })
name-keeps d thing w f k e = meaning-more thing d w (record { 0 = k }) ∙ ap (λ b. if b then Some thing else meaning d (record { 0 = k })) (name-apart w.name k f e)

pub name-means : (d : Scope) (thing : Thing) (w : Word) → meaning (with_name thing d w) w.name ≡ Some thing
name-means d thing w = meaning-more thing d w w.name ∙ ap (λ b. if b then Some thing else meaning d w.name) (eq-eqb w.name.0 w.name.0 refl)

-- ---- the instance of INTEGER_IO

pub int-io-met : (d : Scope) (w : Word) (s : Span) → AllMetBut (decl_sites d (DIntIo w s))
int-io-met d w s = (
  record { known = refl; matched = refl; static = refl; ranged = refl; variable = refl; readable = refl; counted = refl; chosen = refl; arrays = refl; texts = refl; exceptions = refl },
  words-met true (w ∷ []) d,
)

module _ (n : AddedNames) (d : Scope) (h : ArePredefined d) (s : Span) where
  -- ---- variables

  truth-same : marking_of_mark d.types h.truth.place (mark_at d.types h.truth.place) ≡ ScalarMark h.truth.place truth_kind
  truth-same = sym (ap (marking_of d.types) h.truth.means) ∙ truth-marked d h.truth

  integer-same : marking_of_mark d.types h.integer.its.place (mark_at d.types h.integer.its.place) ≡ ScalarMark h.integer.its.place integer_kind
  integer-same = sym (ap (marking_of d.types) h.integer.its.means) ∙ integer-marked d h.integer.its

  -- `DED_G : BOOLEAN := FALSE;`, in main or in a body
  pub answer-is-met : AllMetBut (decl_sites d (answer_declared n s))
  answer-is-met =
      object-met d (word_at s record { 0 = 3 }) h.truth.place truth_values (truth-marked d h.truth) truth-same (truth-range d h.truth)
      (λ allowed. truth-mark d h.truth allowed s) (word_at s n.answer) (truth s false) s (pos 0)
      (truth-fixed d h s false) refl

  pub answer-behind : after_own_object d (answer_declared n s) ≡ with_name (Variable h.truth.place) d (word_at s n.answer)
  answer-behind =
      object-behind d (word_at s record { 0 = 3 }) h.truth.place truth_values (truth-marked d h.truth) truth-same (truth-range d h.truth)
      (λ allowed. truth-mark d h.truth allowed s) (word_at s n.answer) (truth s false) s

  pub answer-truth : value_named d.types n.answer ≡ None → IsTruth (with_name (Variable h.truth.place) d (word_at s n.answer)) n.answer
  answer-truth e = record {
    place = h.truth.place;
    mark = h.truth.mark;
    means = name-means d (Variable h.truth.place) (word_at s n.answer);
    there = h.truth.there;
    kind = h.truth.kind;
    scalar = h.truth.scalar;
    first = h.truth.first;
    last = h.truth.last;
    changes = e;
  }

  -- `DED_W : INTEGER := 0;`
  pub part-is-met : AllMetBut (decl_sites d (part_declared n s))
  part-is-met =
      object-met d (word_at s record { 0 = 0 }) h.integer.its.place integer_values (integer-marked d h.integer.its) integer-same (integer-range d h.integer)
      (λ allowed. integer-mark d h.integer.its allowed s) (word_at s n.part)
      (number s 0) s (pos 0) (plain-fixed d h.integer.its 0 s) refl

  pub part-behind : after_own_object d (part_declared n s) ≡ with_name (Variable h.integer.its.place) d (word_at s n.part)
  part-behind =
      object-behind d (word_at s record { 0 = 0 }) h.integer.its.place integer_values (integer-marked d h.integer.its) integer-same (integer-range d h.integer)
      (λ allowed. integer-mark d h.integer.its allowed s) (word_at s n.part)
      (number s 0) s

  pub part-number : value_named d.types n.part ≡ None → IsNumber (with_name (Variable h.integer.its.place) d (word_at s n.part)) n.part
  part-number e = record {
    place = h.integer.its.place;
    mark = h.integer.its.mark;
    means = name-means d (Variable h.integer.its.place) (word_at s n.part);
    there = h.integer.its.there;
    kind = h.integer.its.kind;
    scalar = h.integer.its.scalar;
    first = h.integer.its.first;
    last = h.integer.last;
    changes = e;
  }

  -- ---- the type of flags

  module _ (last : ℕ) where
    abbrev index : PDrange
    index = RGiven (record { first = number s 0; last = number s last })

    not-below : int_lt (pos last) (pos 0) ≡ false
    not-below = grind (arith, ints)

    nothing : IsMetBut (site d (must_be_alike (number s 0) (number s last)))
    nothing = record { known = refl; matched = refl; static = refl; ranged = refl; variable = refl; readable = refl; counted = refl; chosen = refl; arrays = refl; texts = refl; exceptions = refl }

    index-met : AllMetBut (drange_sites true d index)
    index-met =
        let zero = number-met d 0 s integer_kind refl in
        let many = number-met d last s integer_kind refl in (
          zero.0,
          (
            zero.1.0,
            (
              met-static d (number s 0) refl,
              (
                many.0,
                (
                  many.1.0,
                  (
                    met-static d (number s last) refl,
                    (
                      record {
                        known = refl;
                        matched = refl;
                        static = refl;
                        ranged = ap (λ b. if b then s ∷ [] else []) not-below;
                        variable = refl;
                        readable = refl;
                        counted = refl;
                        chosen = refl;
                        arrays = refl;
                        texts = refl;
                        exceptions = refl;
                      },
                      (nothing, tt),
                    ),
                  ),
                ),
              ),
            ),
          ),
        )

    -- `type DED_FLAGS is array (0 .. n) of BOOLEAN;`
    pub flags-are-met : AllMetBut (decl_sites d (flags_type n s last))
    flags-are-met = (
      met-declares d true (word_at s n.flags),
      all_joined IsMetBut (drange_sites true d index) (subind_sites true scalar_only d (truth_subtype s)) index-met
          (truth-mark d h.truth scalar_only s, tt),
    )

    abbrev pub row : Kind
    row = Array integer_kind (pos 0) (pos last) h.truth.place

    abbrev pub row_mark : Mark
    row_mark = record { name = Some n.flags; kind = length d.types.kinds; first = pos 0; last = pos last }

    abbrev pub grown_types : TypeTable
    grown_types = add_mark (add_kind d.types row) row_mark

    pub flags-behind : after_decl d (flags_type n s last) ≡ with_name (TypeMark (length d.types.marks)) (with_types grown_types d) (word_at s n.flags)
    flags-behind =
        ap (λ m. after_type d (word_at s n.flags) (made_array (Some n.flags) (subind_made d m None).types (drange_range d index) (subind_made d m None).mark)) (truth-marked d h.truth)

  -- ---- the recorder

  abbrev note_entry : PEntry
  note_entry = record { name = word_at s n.note; family = None; formals = note_formals n s; span = s }

  pub note-formals-met : (e : Scope) → MeansInteger e → MeansTruth e → AllMetBut (formals_sites e (note_formals n s))
  note-formals-met e int t =
      all_joined IsMetBut (names_sites false (inner_scope e) (all_names (note_formals n s))) (formal_mark_sites e (note_formals n s)) (words-met false (all_names (note_formals n s)) (inner_scope e))
      (integer-mark e int scalar_only s, (truth-mark e t scalar_only s, tt))

  pub recorder-is-met : AllMetBut (decl_sites d (recorder_declared n s))
  recorder-is-met =
      all_joined IsMetBut (names_sites true d (word_at s n.recorder ∷ []) ++ entries_sites d [] (note_entry ∷ [])) []
      (all_joined IsMetBut (names_sites true d (word_at s n.recorder ∷ [])) (entries_sites d [] (note_entry ∷ [])) (words-met true (word_at s n.recorder ∷ []) d)
      (entries-met d (note_entry ∷ []) [] (note-formals-met d h.integer.its h.truth, tt)))
      tt

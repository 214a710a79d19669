-- The flags of a collecting text's recorder meet the static rules 1 and 3 to 12: their declarations, a flag as a test, and assignments to one.
use Rattle.std.proofs.Common.{Bool, List, None, Option, Some, [], ap, ap₂, false, if◌then◌else◌, is_some, pos, refl, subst, sym, true, ℕ, ◌&&◌, ◌++◌, ◌∙◌, ◌∷◌, ◌≡◌}
use Rattle.common_lemmas.proofs.Lists.{all_joined}
use Rattle.ada_tree.specs.PlainDecl.{IOthers, OPlain, PInit, PShape}
use Rattle.ada_tree.specs.PlainExpr.{EName, PExpr}
use Rattle.ada_tree.specs.PlainStmt.{PTarget, SAssign}
use Rattle.ada_tree.specs.declared.naming.NameId.{NameId}
use Rattle.ada_tree.specs.declared.naming.Span.{Span}
use Rattle.ada_tree.specs.declared.static_types.Kind.TheVariants.{Array}
use Rattle.ada_static_rules.specs.Declaring.{Declared, after_own_object, declared_object, plain_object, with_constants, with_name, with_names, with_types}
use Rattle.ada_static_rules.specs.Demand.{Site, for_array, initializes, must_be_of, node, stands_as_mark}
use Rattle.ada_static_rules.specs.ExprTypes.{component_kind, is_other_kind, kind_of, name_kind}
use Rattle.ada_static_rules.specs.RuleArgCount.{index_on_scalar}
use Rattle.ada_static_rules.specs.RuleArrayUse.{whole_array}
use Rattle.ada_static_rules.specs.RuleMismatch.{is_allowed, misfit_index, no_value, target_kind}
use Rattle.ada_static_rules.specs.RuleNotVariable.{is_array, is_variable, whole_written, written_name}
use Rattle.ada_static_rules.specs.RuleReadOut.{out_formal}
use Rattle.ada_static_rules.specs.RuleTextUse.{image_in_node}
use Rattle.ada_static_rules.specs.Scope.{ArrayMark, AsArray, AsScalar, Range, Reading, Scope, Variable, integer_kind, mark_at, marking, marking_of, marking_of_mark, meaning, reading, reading_of, truth_kind}
use Rattle.ada_static_rules.specs.Sites.{array_init_sites, expr_of, expr_sites, init_sites, is_task_object, names_sites, object_marking, object_marks, own_object_sites, shape_sites, site, stmt_sites, target_sites, value_sites}
use Rattle.task_laws.proofs.legal.alike_scopes.Marks.{array-marking, array-reading, kind-ranged, range-grown}
use Rattle.task_laws.specs.legal.alike_scopes.Laws.{IsMetBut}
use Rattle.task_laws.specs.legal.rewritten_types.Agreement.{Grows}
use Rattle.normal_model.specs.Ranges.{marked, word_at}
use Rattle.normal_laws.proofs.structure.typed.Places.{met-node, met-of, met-whole, met-writes}
use Rattle.normal_laws.proofs.structure.typed.Variables.{AllMetBut, of-kind, words-met}
use Rattle.replay_structure.proofs.typed.Tests.{IsFit}
use Rattle.collect_model.specs.Recording.{flag_of, flag_set, flags_declared, truth}
use Rattle.collect_model.specs.declared.AddedNames.{AddedNames}
use Rattle.collect_structure.proofs.typed.Added.{name-means}
use Rattle.collect_structure.proofs.typed.Truths.{form-met, truth-fixed, value-met}
use Rattle.collect_structure.specs.typed.Recording.{AreFlags, ArePredefined, IsFlagsType, IsInNumber, IsOutTruth, truth_values}
use Rattle.task_laws.proofs.legal.rewritten_types.Moving.{no_constants as no-constant}

-- ---- what stays

-- where a name means the same and no type goes, it is still a type of flags, or still flags
abbrev pub flags-type-step : (d d' : Scope) (id : NameId) → meaning d' id ≡ meaning d id → Grows d.types d'.types → IsFlagsType d id → IsFlagsType d' id
flags-type-step d d' id e g h = record {
  place = h.place;
  mark = h.mark;
  part = h.part;
  first = h.first;
  last = h.last;
  means = e ∙ h.means;
  there = g.mark h.place h.mark h.there;
  array = g.kind h.mark.kind (Array integer_kind h.first h.last h.part) h.array;
  parts = range-grown d.types d'.types g h.part truth_values h.parts;
}

pub flags-step : (d d' : Scope) (id : NameId) → meaning d' id ≡ meaning d id → Grows d.types d'.types → AreFlags d id → AreFlags d' id
flags-step d d' id e g h = record {
  place = h.place;
  mark = h.mark;
  part = h.part;
  first = h.first;
  last = h.last;
  means = e ∙ h.means;
  there = g.mark h.place h.mark h.there;
  array = g.kind h.mark.kind (Array integer_kind h.first h.last h.part) h.array;
  parts = range-grown d.types d'.types g h.part truth_values h.parts;
}

-- ---- declarations

module _ (n : AddedNames) (d : Scope) (known : ArePredefined d) (f : IsFlagsType d n.flags) (s : Span) (id : NameId) where
  abbrev range : Range
  range = record { kind = integer_kind; first = f.first; last = f.last }

  abbrev shape : PShape
  shape = OPlain (marked (word_at s n.flags))

  abbrev all_down : PInit
  all_down = IOthers (truth s false) s

  type-marked : marking d n.flags ≡ ArrayMark f.place range f.part
  type-marked = ap (marking_of d.types) f.means ∙ array-marking d.types f.place f.mark integer_kind f.first f.last f.part f.there f.array

  mark-met : (b : Bool) → IsMetBut (site d (stands_as_mark (object_marks b None) (word_at s n.flags)))
  mark-met b = record {
    known = ap (λ o. if is_some o then [] else s ∷ []) f.means;
    matched = ap (λ m. if is_allowed (object_marks b None) m then [] else s ∷ []) type-marked ∙ allowed b;
    static = refl;
    ranged = refl;
    variable = refl;
    readable = refl;
    counted = refl;
    chosen = refl;
    arrays = refl;
    texts = refl;
    exceptions = refl;
  }
    where
      allowed : (c : Bool) → (if is_allowed (object_marks c None) (ArrayMark f.place range f.part) then [] else s ∷ []) ≡ []
      allowed true = refl
      allowed false = refl

  flags-thing : declared_object d false shape ≡ record { types = d.types; thing = Variable f.place }
  flags-thing = ap (λ m. plain_object d false m (marked (word_at s n.flags))) type-marked

  its-marking : marking_of_mark d.types f.place (mark_at d.types f.place) ≡ ArrayMark f.place range f.part
  its-marking = array-marking d.types f.place f.mark integer_kind f.first f.last f.part f.there f.array

  -- `DED_GONE : DED_FLAGS := (others => FALSE);`
  pub flags-declared-met : AllMetBut (own_object_sites d (flags_declared n s id))
  flags-declared-met =
      let its : Declared = declared_object d false shape in
      let names : List Site = names_sites (d.in_main && is_task_object its.thing) d (word_at s id ∷ []) in
      let about : Site = site d (initializes (for_array range) all_down) in
      all_joined IsMetBut (names ++ shape_sites d false shape (Some all_down)) (init_sites d its.types (object_marking its) all_down)
      (all_joined IsMetBut names (shape_sites d false shape (Some all_down)) (words-met (d.in_main && is_task_object its.thing) (word_at s id ∷ []) d) (mark-met _, tt))
      (subst (λ (x : Declared). AllMetBut (init_sites d x.types (object_marking x) all_down)) (sym flags-thing)
      (subst (λ m. AllMetBut (init_sites d d.types m all_down)) (sym its-marking)
      (subst (λ r. AllMetBut (array_init_sites d r all_down ++ about ∷ [])) (sym f.parts)
      (all_joined IsMetBut (value_sites d (Some truth_values) (truth s false)) (about ∷ [])
      (value-met d truth_values (truth s false) (pos 0) (truth-fixed d known s false) refl) (form-met d (for_array range) all_down refl, tt)))))

  pub flags-declared-behind : after_own_object d (flags_declared n s id) ≡ with_name (Variable f.place) d (word_at s id)
  flags-declared-behind =
      ap (λ (x : Declared). with_names x.thing (with_types (with_constants d (word_at s id ∷ []) (Some all_down) x) d) (word_at s id ∷ [])) flags-thing
      ∙ ap (λ T. with_name (Variable f.place) (with_types T d) (word_at s id)) (no-constant d.in_main d.types)

  pub flags-declared-seen : AreFlags (with_name (Variable f.place) d (word_at s id)) id
  flags-declared-seen = record {
    place = f.place;
    mark = f.mark;
    part = f.part;
    first = f.first;
    last = f.last;
    means = name-means d (Variable f.place) (word_at s id);
    there = f.there;
    array = f.array;
    parts = f.parts;
  }

-- ---- what is assigned

-- FALSE and TRUE are of BOOLEAN
truth-of : (d : Scope) → ArePredefined d → (s : Span) (b : Bool) → AllMetBut (expr_of d (Some truth_kind) (truth s b))
truth-of d known s b =
    let h = truth-fixed d known s b in
    all_joined IsMetBut (expr_sites d (truth s b)) (site d (must_be_of (truth s b) (Some truth_kind)) ∷ []) h.met
    (met-of d (truth s b) (Some truth_kind) (of-kind d (truth s b) truth_kind h.static.kind), tt)

-- an answer is given by a formal of mode out
pub reply-met : (d : Scope) → ArePredefined d → (id : NameId) → IsOutTruth d id → (s : Span) (b : Bool) →
    AllMetBut (stmt_sites d (SAssign (record { name = word_at s id; index = None }) (truth s b) s))
reply-met d known id v s b =
    let target : PTarget = record { name = word_at s id; index = None } in
    all_joined IsMetBut (target_sites d target) (expr_of d (target_kind d target) (truth s b)) (
      met-writes d target record {
        known = ap (λ o. if is_some o then [] else s ∷ []) v.means;
        matched = refl;
        variable = ap₂ (λ r o. whole_written (is_array r) (is_variable o) s) v.read v.means;
        counted = refl;
        arrays = ap (λ r. whole_array r s) v.read;
      },
      tt,
    )
    (subst (λ k. AllMetBut (expr_of d k (truth s b))) (sym (ap kind_read v.read)) (truth-of d known s b))
  where
    kind_read : Reading → Option ℕ
    kind_read (AsScalar j) = Some j
    kind_read _ = None

-- a number that is read
pub number-node : (d : Scope) (written : Bool) (id : NameId) (s : Span) → IsInNumber d id → IsMetBut (site d (node written (EName id s)))
number-node d written id s v = met-node d written (EName id s) record {
  known = ap (λ o. if is_some o then [] else s ∷ []) v.means;
  matched = ap (λ r. no_value r s) v.read;
  readable = ap (λ o. out_formal o s) v.means;
  counted = refl;
  arrays = ap (λ r. whole_array r s) v.read;
  texts = text written;
}
  where
    text : (b : Bool) → image_in_node b (EName id s) ≡ []
    text true = refl
    text false = refl

module _ (d : Scope) (flags task : NameId) (s : Span) (f : AreFlags d flags) (v : IsInNumber d task) where
  abbrev at_task : PExpr
  at_task = EName task s

  abbrev flag : PExpr
  flag = flag_of s flags task

  flags-read : reading d flags ≡ AsArray integer_kind f.part
  flags-read = ap (reading_of d.types) f.means ∙ array-reading d.types f.place f.mark integer_kind f.first f.last f.part f.there f.array

  task-kind : kind_of d at_task ≡ Some integer_kind
  task-kind = ap name_kind v.read

  component-kind : component_kind d.types (reading d flags) (kind_of d at_task) ≡ Some truth_kind
  component-kind = ap₂ (λ r o. component_kind d.types r o) flags-read task-kind ∙ kind-ranged d.types f.part truth_values f.parts

  index-fits : misfit_index d (reading d flags) at_task ≡ []
  index-fits = ap (λ r. misfit_index d r at_task) flags-read ∙ of-kind d at_task integer_kind task-kind

  -- the flag of a task as a test
  pub flag-fit : IsFit d truth_kind flag
  flag-fit = record {
    kind = ap (is_other_kind (Some truth_kind)) component-kind;
    raised = refl;
    parts = (
      met-node d false flag record {
        known = ap (λ o. if is_some o then [] else s ∷ []) f.means;
        matched = ap (λ r. no_value r s ++ misfit_index d r at_task) flags-read ∙ of-kind d at_task integer_kind task-kind;
        readable = refl;
        counted = ap (λ r. index_on_scalar r s) flags-read;
        arrays = refl;
        texts = refl;
      },
      (number-node d false task s v, tt),
    );
  }

  -- a flag becomes true or false
  pub flag-set-met : ArePredefined d → (b : Bool) → AllMetBut (stmt_sites d (flag_set s flags task b))
  flag-set-met known b =
      let target : PTarget = record { name = word_at s flags; index = Some at_task } in
      all_joined IsMetBut (target_sites d target) (expr_of d (target_kind d target) (truth s b)) (
        met-writes d target record {
          known = ap (λ o. if is_some o then [] else s ∷ []) f.means;
          matched = index-fits;
          variable = ap (λ o. written_name d (Some at_task) (reading d flags) o s) f.means;
          counted = ap (λ r. index_on_scalar r s) flags-read;
          arrays = refl;
        },
        (met-whole d at_task refl, (number-node d false task s v, tt)),
      )
      (subst (λ k. AllMetBut (expr_of d k (truth s b))) (sym component-kind) (truth-of d known s b))

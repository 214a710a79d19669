-- BOOLEAN, FALSE and TRUE, and objects with a scalar mark and a static value, for the static rules 1 and 3 to 12.
use Rattle.std.proofs.Common.{Bool, List, None, Some, [], ap, ap₂, false, if◌then◌else◌, int_le, is_some, option_map, pos, refl, subst, sym, true, ℕ, ℤ, ◌&&◌, ◌++◌, ◌∙◌, ◌∷◌, ◌≡◌}
use Rattle.common_lemmas.proofs.Lists.{all_joined}
use Rattle.ada_tree.specs.Attributes.{false_name, true_name}
use Rattle.ada_tree.specs.PlainDecl.{DObject, IOne, OPlain, PDecl, PInit, PShape}
use Rattle.ada_tree.specs.PlainExpr.{PExpr}
use Rattle.ada_tree.specs.declared.naming.Span.{Span}
use Rattle.ada_tree.specs.declared.naming.Word.{Word}
use Rattle.ada_tree.specs.declared.static_types.Mark.{Mark}
use Rattle.ada_static_rules.specs.Declaring.{Declared, after_own_object, declared_object, of_made, plain_object, subind_made, with_constants, with_name, with_names, with_types}
use Rattle.ada_static_rules.specs.Demand.{Initialized, MarkUse, Site, for_scalar, initializes, stands_as_mark}
use Rattle.ada_static_rules.specs.RuleArrayUse.{wrong_initial}
use Rattle.ada_static_rules.specs.RuleMismatch.{is_allowed}
use Rattle.ada_static_rules.specs.Scope.{Range, ScalarMark, Scope, Variable, kind_at, mark_at, marking, marking_of, marking_of_mark, range_of_mark, truth_kind}
use Rattle.ada_static_rules.specs.Sites.{decl_sites, init_sites, is_task_object, names_sites, object_marking, scalar_init_sites, shape_sites, site, value_sites}
use Rattle.task_laws.proofs.legal.alike_scopes.Marks.{scalar-marking}
use Rattle.task_laws.specs.legal.alike_scopes.Laws.{IsMetBut}
use Rattle.normal_model.specs.Ranges.{word_at}
use Rattle.normal_laws.proofs.structure.typed.Choices.{choice-met}
use Rattle.normal_laws.proofs.structure.typed.Literals.{IsFixedAt, name-fixed}
use Rattle.normal_laws.proofs.structure.typed.Variables.{AllMetBut, words-met}
use Rattle.collect_model.specs.Recording.{truth}
use Rattle.collect_structure.specs.typed.Recording.{ArePredefined, MeansTruth, truth_values}
use Rattle.task_laws.proofs.legal.rewritten_types.Moving.{no_constants as no-constant}

-- ---- BOOLEAN

pub truth-marked : (d : Scope) (t : MeansTruth d) → marking d (record { 0 = 3 }) ≡ ScalarMark t.place truth_kind
truth-marked d t =
    ap (marking_of d.types) t.means ∙ ap (marking_of_mark d.types t.place) t.there
    ∙ scalar-marking t.place t.mark.kind (kind_at d.types t.mark.kind) t.scalar.0 t.scalar.1 ∙ ap (ScalarMark t.place) t.kind

-- its name as a mark, wherever a scalar one may stand
pub truth-mark : (d : Scope) → MeansTruth d → (allowed : MarkUse) (s : Span) → IsMetBut (site d (stands_as_mark allowed (word_at s record { 0 = 3 })))
truth-mark d t allowed s = record {
  known = ap (λ o. if is_some o then [] else s ∷ []) t.means;
  matched = ap (λ m. if is_allowed allowed m then [] else s ∷ []) (truth-marked d t) ∙ scalar-allowed allowed;
  static = refl;
  ranged = refl;
  variable = refl;
  readable = refl;
  counted = refl;
  chosen = refl;
  arrays = refl;
  texts = refl;
  exceptions = refl;
}
  where
    scalar-allowed : (a : MarkUse) → (if is_allowed a (ScalarMark t.place truth_kind) then [] else s ∷ []) ≡ []
    scalar-allowed a = refl

pub truth-range : (d : Scope) (t : MeansTruth d) → range_of_mark d.types t.place ≡ Some truth_values
truth-range d t =
    ap (option_map (λ (m : Mark). record { kind = m.kind; first = m.first; last = m.last })) t.there
    ∙ ap (λ k. Some (record { kind = k; first = t.mark.first; last = t.mark.last })) t.kind
    ∙ ap₂ (λ a b. Some (record { kind = truth_kind; first = a; last = b })) t.first t.last

-- the position of a truth value
abbrev pub worth : Bool → ℤ
worth true = pos 1
worth false = pos 0

-- FALSE and TRUE have their values
pub truth-fixed : (d : Scope) → ArePredefined d → (s : Span) (b : Bool) → IsFixedAt d truth_kind (truth s b) (worth b)
truth-fixed d h s true = name-fixed d record { 0 = true_name } truth_kind (pos 1) s (h.trues, refl)
truth-fixed d h s false = name-fixed d record { 0 = false_name } truth_kind (pos 0) s (h.falses, refl)

-- ---- initial values

-- a static value of a kind, in a range of it
pub value-met : (d : Scope) (range : Range) (e : PExpr) (z : ℤ) → IsFixedAt d range.kind e z → (int_le range.first z && int_le z range.last) ≡ true → AllMetBut (value_sites d (Some range) e)
value-met d range e z h i = choice-met d range.kind e z h range refl i

-- an initial value of the right form
pub form-met : (d : Scope) (what : Initialized) (value : PInit) → wrong_initial what value ≡ [] → IsMetBut (site d (initializes what value))
form-met d what value e = record {
  known = refl;
  matched = refl;
  static = refl;
  ranged = refl;
  variable = refl;
  readable = refl;
  counted = refl;
  chosen = refl;
  arrays = e;
  texts = refl;
  exceptions = refl;
}

-- ---- a variable with a scalar mark and a value

module _ (d : Scope) (mark : Word) (m : ℕ) (range : Range) (marked : marking d mark.name ≡ ScalarMark m range.kind) (same : marking_of_mark d.types m (mark_at d.types m) ≡ ScalarMark m range.kind)
    (ranged : range_of_mark d.types m ≡ Some range) (stands : (allowed : MarkUse) → IsMetBut (site d (stands_as_mark allowed mark))) (w : Word) (e : PExpr) (s : Span) where
  abbrev shape : PShape
  shape = OPlain (record { mark = mark; bounds = None })

  abbrev variable : PDecl
  variable = DObject (w ∷ []) false shape (Some (IOne e)) s

  object-thing : declared_object d false shape ≡ record { types = d.types; thing = Variable m }
  object-thing = ap (λ x. plain_object d false x (record { mark = mark; bounds = None })) marked ∙ ap (λ x. of_made false (subind_made d x None)) marked

  pub object-met : (z : ℤ) → IsFixedAt d range.kind e z → (int_le range.first z && int_le z range.last) ≡ true → AllMetBut (decl_sites d variable)
  object-met z h i =
      let its : Declared = declared_object d false shape in
      let names : List Site = names_sites (d.in_main && is_task_object its.thing) d (w ∷ []) in
      all_joined IsMetBut (names ++ shape_sites d false shape (Some (IOne e))) (init_sites d its.types (object_marking its) (IOne e))
      (all_joined IsMetBut names (shape_sites d false shape (Some (IOne e))) (words-met (d.in_main && is_task_object its.thing) (w ∷ []) d) (stands _, tt))
      (subst (λ (x : Declared). AllMetBut (init_sites d x.types (object_marking x) (IOne e))) (sym object-thing)
      (subst (λ x. AllMetBut (init_sites d d.types x (IOne e))) (sym same)
      (subst (λ r. AllMetBut (scalar_init_sites d r (IOne e) ++ site d (initializes for_scalar (IOne e)) ∷ [])) (sym ranged)
      (all_joined IsMetBut (value_sites d (Some range) e) (site d (initializes for_scalar (IOne e)) ∷ []) (value-met d range e z h i) (form-met d for_scalar (IOne e) refl, tt)))))

  -- behind it the name means a variable with that mark
  pub object-behind : after_own_object d variable ≡ with_name (Variable m) d w
  object-behind =
      ap (λ (x : Declared). with_names x.thing (with_types (with_constants d (w ∷ []) (Some (IOne e)) x) d) (w ∷ [])) object-thing
      ∙ ap (λ T. with_name (Variable m) (with_types T d) w) (no-constant d.in_main d.types)

-- The laws of the variables of a normal form's tasks, from their parts.
use Rattle.std.proofs.Common.{◌≡◌, ℕ, ◌<◌, ℤ, int_le, ◌&&◌, ◌==◌, Bool, false, not, nat_lt, [], is_none, Option, Some, Ok, refl, sym, ap, subst}
use Rattle.std.specs.List.{AllByRecursion}
use Rattle.common_lemmas.proofs.Truth.{and_left, and_right}
use Rattle.ada_tree.specs.declared.naming.NameId.{NameId}
use Rattle.ada_tree.specs.declared.naming.Span.{Span}
use Rattle.ada_tree.specs.TypeTable.{TypeTable}
use Rattle.ada_tree.specs.PlainExpr.{EName}
use Rattle.ada_tree.specs.PlainProgram.{PProgram}
use Rattle.ada_static_rules.specs.Refusals.{types_in}
use Rattle.ada_static_rules.specs.StaticValue.{mark_named}
use Rattle.ada_static_rules.specs.Declaring.{first_scope, after_decls}
use Rattle.ada_value.specs.Values.{position_of}
use Rattle.ada_value.specs.Variables.{Object, object_named, value_there}
use Rattle.ada_value.specs.Evaluating.{name_value}
use Rattle.task_model.specs.Tasks.{Task, vars_of}
use Rattle.task_model.specs.Starting.{unit_of}
use Rattle.task_laws.specs.statements.variables.Held.{DeclaresInner, KeepsValue, IsKept, same_value, fitting_value, MeansKept, kept_variable}
use Rattle.task_laws.proofs.statements.Carried.{starts-so}
use Rattle.task_laws.proofs.statements.variables.Carried.{variables_start, variables_stay, inner_stays, names_mean_kept}
use Rattle.task_laws.proofs.legal.rewritten_types.Lookups.{find-all}
use Rattle.task_laws.proofs.legal.types.MainScopes.{StandsWhole, last-stands}
use Rattle.normal_model.specs.Names.{variable_name}
use Rattle.normal_laws.specs.runs.floors.Preludes.{cell}
use Rattle.normal_laws.specs.runs.forms.Normalisable.{setting_for, made_for}
use Rattle.normal_laws.specs.existence.Laws.{IsLegalOriginal}
use Rattle.normal_laws.proofs.existence.Joined.{legal_is_normal}
use Rattle.normal_laws.proofs.legality.Legal.{normal_meets_types}
use Rattle.normal_laws.proofs.legality.checks.Facts as facts
use Rattle.normal_laws.specs.legality.scopes.Plain.{plain_name}
use Rattle.normal_laws.proofs.legality.scopes.Names.{variable-new}
use Rattle.replay_structure.specs.legal.names.form_units.Inner.{inner_name}
use Rattle.replay_runs.specs.starts.Laws.{form_in, start_before}
use Rattle.replay_runs.specs.starts.Formals.{form_setting}
use Rattle.replay_runs.specs.controls.permits.Laws.{IndexIs, index_is}
use Rattle.replay_runs.specs.controls.indices.Laws.{KeepsUnit, LegalUnitsStart, UnitsStay, IsUnitVariable, LegalVariablesAreAdded, LegalIndicesEvaluate}
use Rattle.replay_runs.proofs.controls.translated.Tables.{form-small}
use Rattle.replay_runs.proofs.controls.indices.Bounded.{InInteger}
use Rattle.replay_runs.proofs.controls.indices.Objects.{IsOfInteger, IfScalar, objects-in}
use Rattle.replay_runs.proofs.controls.indices.Declared.{bodies-inner}
use Rattle.normal_laws.proofs.structure.typed.Literals.{within-values as between}

-- ---- start and stay

pub legal_units_start : LegalUnitsStart
legal_units_start p legal inputs t = record {
  inner = starts-so (DeclaresInner (inner_name p)) (form_setting p) inputs t (bodies-inner p legal t);
  variables = variables_start (inner_name p) (form_setting p) inputs t;
}

pub units_stay : UnitsStay
units_stay p t σ h =
    let i = inner_stays (inner_name p) σ h.inner in
    let v = variables_stay (inner_name p) (start_before p t) σ h.inner h.variables in
    record {
      stepped = record { inner = i.stepped; variables = v.stepped };
      accepted = λ e j caller calling. record { inner = i.accepted e j caller calling; variables = v.accepted e j caller calling };
      finished = record { inner = i.finished; variables = v.finished };
      resumed = λ acceptor. record { inner = i.resumed acceptor; variables = v.resumed acceptor };
      raised = record { inner = i.raised; variables = v.raised };
      took_else = record { inner = i.took_else; variables = v.took_else };
      took_delay = λ k. record { inner = i.took_delay k; variables = v.took_delay k };
      passed = record { inner = i.passed; variables = v.passed };
    }

-- ---- added variables

-- a name that is not plain is none that loops and accepts declare
not-inner : (p : PProgram) (n : ℕ) (b : Bool) → b ≡ false → (b && (not (nat_lt n 18) && is_none (mark_named (types_in p) record { 0 = n }))) ≡ false
not-inner p n b e = ap (λ (c : Bool). c && (not (nat_lt n 18) && is_none (mark_named (types_in p) record { 0 = n }))) e

pub legal_variables_are_added : LegalVariablesAreAdded
legal_variables_are_added p legal t l k less =
    let normal = legal_is_normal p legal [] in
    let there = normal.there t l k (subst (λ n. k < n) (sym (normal.declared t).count) less) in
    record {
      outer = not-inner p (variable_name (setting_for p) k).0 (plain_name p (variable_name (setting_for p) k).0) (variable-new (setting_for p) k);
      object = cell there.1.name ((normal.added t).bounds k) there.0;
      there = there.1.found;
      scalar = refl;
    }

-- ---- values

kept-in : (o q : Object) → IsOfInteger o → IsKept o q → InInteger (value_there q 0)
kept-in o q h k = by_value k.value
  where
    by_value : KeepsValue o q → InInteger (value_there q 0)
    by_value (same_value e) = subst InInteger (sym e) h.value
    by_value (fitting_value f) =
        let z : ℤ = position_of (value_there q 0) in
        between o.limits.first o.limits.last z h.limits.0 h.limits.1 (and_left (int_le o.limits.first z) (int_le z o.limits.last) f) (and_right (int_le o.limits.first z) (int_le z o.limits.last) f)

module _ (p : PProgram) (legal : IsLegalOriginal p) where
  abbrev V : TypeTable
  V = types_in (made_for p)

  stands : StandsWhole V (after_decls (first_scope (made_for p).name) (made_for p).decls)
  stands = last-stands (made_for p) (normal_meets_types p legal) (facts.placed p legal) (form-small p legal)

  start-in : (t : ℕ) → AllByRecursion IfScalar (start_before p t)
  start-in t =
      objects-in V stands.stands.root stands.stands.typed stands.whole (form-small p legal) (unit_of (made_for p) (form_in p).numbers t).in_main (unit_of (made_for p) (form_in p).numbers t).decls [] tt

  evaluates : (t : ℕ) (σ : Task) → KeepsUnit p t σ → (T : TypeTable) (id : NameId) (s : Span) → IsUnitVariable p t id → (z : ℤ) × IndexIs T (vars_of σ) (Some (EName id s)) z
  evaluates t σ h T id s v =
      by_object (object_named (vars_of σ) id) refl
      (subst (λ o. MeansKept o (object_named (vars_of σ) id)) v.there (names_mean_kept (inner_name p) (start_before p t) σ id v.outer h.variables))
    where
      of-integer : IsOfInteger v.object
      of-integer = find-all IfScalar (λ o. o.name.0 == id.0) (start_before p t) v.object (start-in t) v.there v.scalar

      by_object : (o : Option Object) → object_named (vars_of σ) id ≡ o → MeansKept (Some v.object) o → (z : ℤ) × IndexIs T (vars_of σ) (Some (EName id s)) z
      by_object o e (kept_variable a q k) = (
        position_of (value_there q 0),
        index_is (EName id s) (value_there q 0) (ap (λ x. Ok (name_value T x id)) e) (kept-in a q of-integer k),
      )

pub legal_indices_evaluate : LegalIndicesEvaluate
legal_indices_evaluate p legal t σ h T id s v = evaluates p legal t σ h T id s v

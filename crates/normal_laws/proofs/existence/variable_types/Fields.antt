-- The fields on types of what the law of normal forms asks.
use Rattle.std.proofs.Common.{◌≡◌, ℕ, ℤ, zero, suc, true, List, [], ◌∷◌, is_some, IfSome, Option, Some, None, refl, sym, ap, ap₂, ◌∙◌, true≢false}
use Rattle.std.specs.List.{AllByRecursion}
use Rattle.ada_tree.specs.declared.naming.Span.{Span}
use Rattle.ada_tree.specs.TypeTable.{TypeTable}
use Rattle.ada_tree.specs.PlainExpr.{PSubind, PDrange}
use Rattle.ada_tree.specs.PlainStmt.{PFormal}
use Rattle.ada_tree.specs.PlainDecl.{OPlain, OArray, PDecl, DNumber, DObject, DEnumeration, DArray, DSubtype, DException, DIntIo, DPragma, DTask, DTaskBody}
use Rattle.ada_tree.specs.PlainProgram.{PProgram}
use Rattle.ada_tree.specs.Every.{EveryDrange}
use Rattle.ada_static_rules.specs.Refusals.{types_in}
use Rattle.syn_event.specs.declared.numbering.EntryInfo.{EntryInfo}
use Rattle.syn_event.specs.Numbering.{entry_at}
use Rattle.syn_event.specs.AllNumbers.{first_of, last_index, family_extent}
use Rattle.ada_value.specs.declared.values.Limits.{Limits}
use Rattle.ada_value.specs.Values.{lies_in, integer_limits, truth_limits, limits_named}
use Rattle.task_model.specs.Setting.{is_family, is_family_in, family_limits, formals_of_info}
use Rattle.task_model.specs.Starting.{unit_of}
use Rattle.normal_model.specs.Ranges.{marked, integer_subtype, truth_subtype, subtype_of_range, range_subtype, family_range, range_of_info}
use Rattle.task_laws.specs.legal.rewritten_values.Values.{old_names}
use Rattle.normal_laws.specs.structure.types.Own.{own_name}
use Rattle.normal_laws.specs.runs.floors.Suited.{SameRange, limits_of_form, declared_limits, AreMarked, none_marked, marked_then}
use Rattle.normal_laws.specs.runs.runs.Premises.{programs_of}
use Rattle.normal_laws.specs.runs.forms.Normalisable.{numbers_of, setting_for, made_for, first_task, variables_of, normal_rewrite, IsScalar}
use Rattle.task_laws.specs.legal.types.Typed.{HasLimits}
use Rattle.task_laws.proofs.legal.types.TaskTypes.{tasks-have-types}
use Rattle.normal_laws.specs.existence.variable_types.Ready.{IsReady}
use Rattle.normal_laws.specs.existence.variable_types.Laws.{LegalIsReady, MarksAgree, FamiliesAgree}
use Rattle.normal_laws.proofs.existence.variable_types.Numbers.{IsEntryOf, range-is}
use Rattle.normal_laws.proofs.existence.variable_types.SubtypeForms.{HasForm, truth-form, integer-form, mark-form, range-form}
use Rattle.normal_laws.proofs.existence.variable_types.Subtypes.{own_rule, entry-known, IsScalarFormal, formals-known, IsScalarDecl, unit-scalar}
use Rattle.common_lemmas.proofs.Lists.{all_weaker}

-- A legal program that is well placed, with the names of every program, small enumerations and names of its own.
pub ready-legal : LegalIsReady
ready-legal p types numbers mode legal placed names small own = record {
  names = names;
  ordered = record { rules = legal.type_rules; last = placed.1 };
  own = own;
  tasks = tasks-have-types p legal.type_rules placed small;
}

limits-of : (V : TypeTable) (x : PSubind) (l : Limits) → HasForm V x l → l ≡ declared_limits V x
limits-of V x l h = sym (ap limits_of_form h.form)

same-range : (l m : Limits) → l ≡ m → SameRange l m
same-range l m e z = ap (λ k. lies_in k z) e

module _ (p : PProgram) where
  abbrev T : TypeTable
  T = types_in p

  abbrev V : TypeTable
  V = types_in (made_for p)

  pub truths : (s : Span) → SameRange truth_limits (declared_limits V (truth_subtype s))
  truths s = same-range _ _ (limits-of V (truth_subtype s) truth_limits (truth-form (made_for p) s))

  pub integers : (s : Span) → SameRange integer_limits (declared_limits V (integer_subtype s))
  integers s = same-range _ _ (limits-of V (integer_subtype s) integer_limits (integer-form (made_for p) s))

  module _ (ready : IsReady p) where
    marks-of : (inputs : List (List ℤ)) (fs : List PFormal) → AllByRecursion (IsScalarFormal p ready) fs → AreMarked (programs_of (normal_rewrite p inputs)) fs
    marks-of inputs [] h = none_marked
    marks-of inputs (f ∷ fs) h =
        marked_then f fs h.0.0 (limits-of V (marked f.mark) (limits_named T f.mark.name) (mark-form p ready.names ready.ordered ready.own T (numbers_of p) f.mark h.0.0 h.0.1)) (marks-of inputs fs h.1)

    marks-are : (inputs : List (List ℤ)) (e : ℕ) → AreMarked (programs_of (normal_rewrite p inputs)) (formals_of_info (setting_for p) (entry_at (numbers_of p) e))
    marks-are inputs e = marks-of inputs _ (formals-known p ready (entry_at (numbers_of p) e) e refl)

    -- a family's index has the range of its variable
    family-range : (info : EntryInfo) (s : Span) → info.family ≡ true → IsEntryOf p (own_rule p) (numbers_of p).tasks info → SameRange (family_limits (Some info)) (declared_limits V (subtype_of_range T s (range_of_info (setting_for p) (Some info))))
    family-range info s f h = by_family h.entry.family refl (sym h.family ∙ f) h.has.typed.family h.has.own.2
      where
        by_family : (o : Option PDrange) → h.entry.family ≡ o → is_some o ≡ true → IfSome o (HasLimits T) → IfSome o (EveryDrange (old_names (own_name p)) 2) → SameRange (family_limits (Some info)) (declared_limits V (subtype_of_range T s (range_of_info (setting_for p) (Some info))))
        by_family None e g l o z = absurd (true≢false (sym g))
        by_family (Some r) e g l o z =
            let low : info.first ≡ l.limits.first = h.low ∙ ap (λ q. first_of (family_extent T q)) e ∙ ap first_of l.told in
            let high : info.last ≡ l.limits.last = h.high ∙ ap (λ q. last_index (family_extent T q)) e ∙ ap last_index l.told in
            ap₂ (λ a b. lies_in (record { kind = 0; first = a; last = b }) z) low high
            ∙ ap (λ k. lies_in k z) (limits-of V (range_subtype T s r) l.limits (range-form p ready.names ready.ordered ready.own T (numbers_of p) s r o l))
            ∙ ap (λ q. lies_in (declared_limits V (subtype_of_range T s q)) z) (sym (range-is p (own_rule p) info h ∙ e))

    families-are : (e : ℕ) → is_family (numbers_of p) e ≡ true → (s : Span) → SameRange (family_limits (entry_at (numbers_of p) e)) (declared_limits V (subtype_of_range T s (family_range (setting_for p) e)))
    families-are e f s = by_entry (entry_at (numbers_of p) e) refl f
      where
        by_entry : (o : Option EntryInfo) → entry_at (numbers_of p) e ≡ o → is_family_in o ≡ true → SameRange (family_limits o) (declared_limits V (subtype_of_range T s (range_of_info (setting_for p) o)))
        by_entry (Some info) q g = family-range info s g (entry-known p ready e info q)
        by_entry None q g = absurd (true≢false (sym g))

    decl-scalar : (t : ℕ) (d : PDecl) → IsScalarDecl p ready t d → IsScalar V d
    decl-scalar t (DObject ws constant (OPlain x) init s) h = (h.0, h.1.form)
    decl-scalar t (DObject ws constant (OArray index x) init s) h = tt
    decl-scalar t (DNumber name e s) h = tt
    decl-scalar t (DEnumeration name ws s) h = tt
    decl-scalar t (DArray name index x s) h = tt
    decl-scalar t (DSubtype name x s) h = tt
    decl-scalar t (DException ws s) h = tt
    decl-scalar t (DIntIo name s) h = tt
    decl-scalar t (DPragma e s) h = tt
    decl-scalar t (DTask u s) h = tt
    decl-scalar t (DTaskBody w ds b s) h = tt

    pub scalar : (t : ℕ) → AllByRecursion (IsScalar V) (variables_of p t)
    scalar zero = all_weaker _ _ (variables_of p zero) (decl-scalar 0) (unit-scalar p ready 0 p.body)
    scalar (suc t) = all_weaker _ _ (variables_of p (suc t)) (decl-scalar (first_task p (suc t))) (unit-scalar p ready (first_task p (suc t)) (unit_of p (numbers_of p) (suc t)).body)

pub marks : MarksAgree
marks p inputs ready e = marks-are p ready inputs e

pub families : FamiliesAgree
families p inputs ready e f s = families-are p ready e f s

-- INTEGER means INTEGER in each program, and declarations of old names have the same objects by tables that agree on them.
use Rattle.std.proofs.Common.{◌≡◌, ℕ, Bool, if◌then◌else◌, List, [], ◌∷◌, replicate, is_some, Option, Some, None, refl, ap, ◌∙◌, ◌⊎◌, inl, inr}
use Rattle.std.specs.List.{AllByRecursion}
use Rattle.ada_tree.specs.declared.naming.Word.{Word}
use Rattle.ada_tree.specs.declared.static_types.Kind.TheVariants.{Integer}
use Rattle.ada_tree.specs.declared.static_types.Mark.{Mark}
use Rattle.ada_tree.specs.TypeTable.{TypeTable}
use Rattle.ada_tree.specs.PlainDecl.{PDecl, DNumber, DObject, DEnumeration, DArray, DSubtype, DException, DIntIo, DPragma, DTask, DTaskBody, no_decl, decl_then, decls_of}
use Rattle.ada_tree.specs.Every.{EveryShape, EveryDecl}
use Rattle.ada_static_rules.specs.Scope.{integer_kind}
use Rattle.ada_static_rules.specs.StaticValue.{is_named, mark_named}
use Rattle.ada_static_rules.specs.Declaring.{predefined_types, first_scope}
use Rattle.ada_static_rules.specs.Refusals.{types_in}
use Rattle.ada_value.specs.declared.values.Form.{Form}
use Rattle.ada_value.specs.Values.{limits_or}
use Rattle.ada_value.specs.Variables.{Variables, object_with}
use Rattle.task_model.specs.Starting.{form_of, value_count, object_of, with_objects, is_in_types, declared_objects, after_declaration, objects_of}
use Rattle.normal_model.specs.Ranges.{word_at}
use Rattle.task_laws.specs.legal.rewritten_types.Agreement.{scalar_only, Grows, Agrees}
use Rattle.task_laws.proofs.legal.rewritten_types.Lookups.{find-grown}
use Rattle.task_laws.specs.legal.rewritten_values.Values.{old_names}
use Rattle.task_laws.proofs.legal.rewritten_values.Saying.{values-alike}
use Rattle.task_laws.proofs.legal.rewritten_values.Objects.{form-alike, unit-alike, marked_has_form}
use Rattle.task_laws.proofs.legal.types.MainScopes.{grows-decls}
use Rattle.replay_runs.specs.starts.Laws.{IntegerIsThere}

pub integer_is_there : IntegerIsThere
integer_is_there p = record {
  object = λ s.
      marked_has_form U (word_at s record { 0 = 0 }) _ there (ap (λ o. is_some (scalar_only o)) (begins.kind integer_kind Integer refl))
      ∙ ap (λ (o : Option Mark). Some record { limits = limits_or o; index = None }) there;
  formal = ap limits_or there;
}
  where
    U : TypeTable
    U = types_in p

    begins : Grows predefined_types U
    begins = grows-decls p.decls (first_scope p.name)

    there : mark_named U record { 0 = 0 } ≡ mark_named predefined_types record { 0 = 0 }
    there = find-grown (λ x. is_named record { 0 = 0 } x.name) predefined_types.marks U.marks begins.mark _ refl

-- ---- two tables

module _ (old : ℕ → Bool) (T U : TypeTable) (h : Agrees old T U) where
  -- a declaration in which all names are old, or an object without an initial value, of whose shape this is so
  abbrev pub IsVariable : PDecl → Type 0
  IsVariable (DObject names constant shape None s) = EveryShape (old_names old) shape
  IsVariable _ = ⊥

  abbrev pub IsOldDecl : PDecl → Type 0
  IsOldDecl d = EveryDecl (old_names old) d ⊎ IsVariable d

  named-alike : (form : Form) (ws : List Word) (V : Variables) → with_objects T form None ws V ≡ with_objects U form None ws V
  named-alike form [] V = refl
  named-alike form (w ∷ ws) V =
      ap (λ v. with_objects T form None ws (object_with w.name form (replicate (value_count form.index) v) ∷ V)) (values-alike old T U h form.limits.kind form.limits.first)
      ∙ named-alike form ws (object_of U form None w ∷ V)

  declared-alike : (in_main : Bool) (ws : List Word) (constant : Bool) (o : Option Form) (V : Variables) → declared_objects T in_main ws constant None o V ≡ declared_objects U in_main ws constant None o V
  declared-alike in_main ws constant None V = refl
  declared-alike in_main ws constant (Some form) V = ap (λ v. if is_in_types in_main constant form then V else v) (named-alike form ws V)

  variable-alike : (in_main : Bool) (d : PDecl) (V : Variables) → IsVariable d → after_declaration T in_main d V ≡ after_declaration U in_main d V
  variable-alike in_main (DObject ws constant shape None s) V e =
      declared-alike in_main ws constant (form_of T shape) V ∙ ap (λ o. declared_objects U in_main ws constant None o V) (form-alike old T U h shape e)
  variable-alike in_main (DObject ws constant shape (Some i) s) V e = absurd e
  variable-alike in_main (DNumber w x s) V e = absurd e
  variable-alike in_main (DEnumeration w ws s) V e = absurd e
  variable-alike in_main (DArray w r x s) V e = absurd e
  variable-alike in_main (DSubtype w x s) V e = absurd e
  variable-alike in_main (DException ws s) V e = absurd e
  variable-alike in_main (DIntIo w s) V e = absurd e
  variable-alike in_main (DPragma x s) V e = absurd e
  variable-alike in_main (DTask t s) V e = absurd e
  variable-alike in_main (DTaskBody w ds b s) V e = absurd e

  one-alike : (in_main : Bool) (d : PDecl) (V : Variables) → IsOldDecl d → after_declaration T in_main d V ≡ after_declaration U in_main d V
  one-alike in_main d V (inl e) = unit-alike old T U h in_main (decl_then d no_decl) (e, tt) V
  one-alike in_main d V (inr e) = variable-alike in_main d V e

  pub objects-alike : (in_main : Bool) (ds : List PDecl) → AllByRecursion IsOldDecl ds → (V : Variables) → objects_of T in_main (decls_of ds) V ≡ objects_of U in_main (decls_of ds) V
  objects-alike in_main [] e V = refl
  objects-alike in_main (d ∷ ds) e V = ap (objects_of T in_main (decls_of ds)) (one-alike in_main d V e.0) ∙ objects-alike in_main ds e.1 (after_declaration U in_main d V)

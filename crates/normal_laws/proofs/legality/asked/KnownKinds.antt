-- The kinds of INTEGER and BOOLEAN have one place each in the types of a legal program, and each kind of values is found by its declared name.
use Rattle.std.proofs.Common.{◌≡◌, ℕ, ◌==◌, unwrap_or, Option, Some, None, refl, sym, ap, ◌∙◌}
use Rattle.common_lemmas.proofs.Numbers.{equal_is}
use Rattle.common_lemmas.proofs.Lists.{found_passes}
use Rattle.ada_tree.specs.declared.static_types.Kind.{Kind}
use Rattle.ada_tree.specs.declared.static_types.Kind.TheVariants.{Integer, Truth, Enumeration, Array}
use Rattle.ada_tree.specs.declared.static_types.Mark.{Mark}
use Rattle.ada_tree.specs.TypeTable.{TypeTable}
use Rattle.ada_tree.specs.PlainProgram.{PProgram}
use Rattle.ada_static_rules.specs.Refusals.{MeetsTypeRules, types_in}
use Rattle.ada_tree.specs.WellPlaced.{IsWellPlaced}
use Rattle.ada_static_rules.specs.Scope.{kind_at, and_then}
use Rattle.ada_value.specs.Values.{limits_named, limits_or}
use Rattle.normal_model.specs.Ranges.{kind_name}
use Rattle.task_laws.specs.legal.rewritten_types.Agreement.{scalar_only, IsScalar}
use Rattle.task_laws.proofs.legal.rewritten_types.Refused.{declared_once}
use Rattle.task_laws.proofs.legal.rewritten_types.NamedKinds.{kinds_are_named}
use Rattle.task_laws.specs.legal.types.Typed.{IsSmall}
use Rattle.ada_static_rules.specs.Declaring.{first_scope, after_decls}
use Rattle.task_laws.proofs.legal.types.TypedValues.{IsTyped}
use Rattle.task_laws.proofs.legal.types.MainScopes.{StandsWhole, last-stands}
use Rattle.normal_laws.proofs.existence.variable_types.SubtypeForms.{predefined-mark}
use Rattle.normal_laws.specs.structure.typed.ScopeOf.{HasKnownKinds}

integer-there : (o : Option Kind) → scalar_only o ≡ Some Integer → o ≡ Some Integer
integer-there (Some Integer) e = refl
integer-there (Some Truth) e = e
integer-there (Some (Enumeration names)) e = e
integer-there (Some (Array index first last part)) e = cc
integer-there None e = cc

truth-there : (o : Option Kind) → scalar_only o ≡ Some Truth → o ≡ Some Truth
truth-there (Some Integer) e = e
truth-there (Some Truth) e = refl
truth-there (Some (Enumeration names)) e = e
truth-there (Some (Array index first last part)) e = cc
truth-there None e = cc

module _ (p : PProgram) (rules : MeetsTypeRules p) (placed : IsWellPlaced p) (small : IsSmall (types_in p)) where
  stands : StandsWhole (types_in p) (after_decls (first_scope p.name) p.decls)
  stands = last-stands p rules placed small

  abbrev root : TypeTable
  root = stands.stands.root

  typed : IsTyped root
  typed = stands.stands.typed

  named : (k : ℕ) → IsScalar (types_in p) k → (limits_named (types_in p) (kind_name (types_in p) k)).kind ≡ k
  named k s =
      let n = kinds_are_named p.name p.decls (declared_once p rules) k s in
      ap (λ o. (limits_named (types_in p) (unwrap_or (and_then (λ (m : Mark). m.name) o) (record { 0 = 0 }))).kind) n.first
      ∙ ap (λ o. (limits_named (types_in p) (unwrap_or o (record { 0 = 0 }))).kind) n.name
      ∙ ap (λ o. (limits_or o).kind) n.found
      ∙ equal_is n.mark.kind k (found_passes (λ (m : Mark). m.kind == k) (types_in p).marks n.mark n.first)

  pub known-kinds : HasKnownKinds (types_in p)
  known-kinds = record {
    integers = λ k e. typed.places k Integer (integer-there (kind_at root k) (sym (stands.whole.kinds k) ∙ ap scalar_only e));
    truths = λ k e. typed.places k Truth (truth-there (kind_at root k) (sym (stands.whole.kinds k) ∙ ap scalar_only e));
    integer = ap (λ o. (limits_or o).kind) (predefined-mark p (record { 0 = 0 }) _ refl);
    truth = ap (λ o. (limits_or o).kind) (predefined-mark p (record { 0 = 3 }) _ refl);
    names = named;
  }

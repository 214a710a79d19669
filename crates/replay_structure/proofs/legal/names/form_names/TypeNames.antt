-- The names of types in the table of a legal program are its own.
use Rattle.std.proofs.Common.{◌≡◌, ℕ, ◌==◌, true, find, Option, Some, None, slice_get, unwrap_or, refl, sym, ap, ◌∙◌, arith}
use Rattle.std.proofs.lemmas.Option.{none-some}
use Rattle.common_lemmas.proofs.Lists.{found_at, found_some}
use Rattle.common_lemmas.proofs.Numbers.{equal_self}
use Rattle.ada_tree.specs.declared.naming.NameId.{NameId}
use Rattle.ada_tree.specs.declared.static_types.Mark.{Mark}
use Rattle.ada_tree.specs.PlainProgram.{PProgram}
use Rattle.ada_static_rules.specs.Refusals.{types_in}
use Rattle.ada_static_rules.specs.Scope.{Thing, and_then, meaning}
use Rattle.ada_static_rules.specs.StaticValue.{is_named, mark_named}
use Rattle.ada_tree.specs.TypeTable.{TypeTable}
use Rattle.task_laws.specs.legal.rewritten_types.Laws.{behind}
use Rattle.task_laws.specs.legal.rewritten_types.Rewriting.{valued}
use Rattle.task_laws.proofs.legal.rewritten_types.Refused.{declared_once}
use Rattle.task_laws.proofs.legal.rewritten_types.Unmarked.{unvalued_has_no_mark}
use Rattle.normal_model.specs.Ranges.{kind_name}
use Rattle.normal_laws.specs.structure.types.Own.{own_name}
use Rattle.normal_laws.proofs.existence.variable_types.SubtypeForms.{meant-own}
use Rattle.normal_laws.specs.existence.Laws.{IsLegalOriginal}
use Rattle.normal_laws.proofs.legality.checks.Facts as facts

module _ (p : PProgram) (h : IsLegalOriginal p) where
  abbrev T : TypeTable
  T = types_in p

  -- a name that names a type means something, and so it is an own one
  type-own : (id : NameId) (m : Mark) → mark_named T id ≡ Some m → own_name p id.0 ≡ true
  type-own id m e = by_meaning (meaning (behind p.name p.decls) id) refl
    where
      by_meaning : (o : Option Thing) → meaning (behind p.name p.decls) id ≡ o → own_name p id.0 ≡ true
      by_meaning (Some x) f = meant-own p h.names (facts.ordered p h) (facts.olds p h) id x f
      by_meaning None f = absurd (none-some m (sym (unvalued_has_no_mark p.name p.decls (declared_once p h.legal.type_rules) id (ap valued f)) ∙ e))

  -- The name of each kind is an own one, or that of INTEGER where it has none.
  pub kinds-own : (k : ℕ) → own_name p (kind_name T k).0 ≡ true
  kinds-own k = by_mark (find (λ m. m.kind == k) T.marks) refl
    where
      named : (m : Mark) (j : ℕ) → slice_get T.marks j ≡ Some m → (o : Option NameId) → m.name ≡ o → own_name p (unwrap_or o (record { 0 = 0 })).0 ≡ true
      named m j e None f = facts.first-own p h 0 (omega arith)
      named m j e (Some id) f = let found = found_some (λ (y : Mark). is_named id y.name) T.marks j m e (ap (is_named id) f ∙ equal_self id.0) in type-own id found.0 found.1

      by_mark : (o : Option Mark) → find (λ m. m.kind == k) T.marks ≡ o → own_name p (unwrap_or (and_then (λ m. m.name) o) (record { 0 = 0 })).0 ≡ true
      by_mark None e = facts.first-own p h 0 (omega arith)
      by_mark (Some m) e = let at = found_at (λ (y : Mark). y.kind == k) T.marks m e in named m at.0 at.2 m.name refl

-- The kind and the mark that an array adds to the table.
use Rattle.std.specs.Prelude.{◌≡◌, ℕ, length, Option, Some, IfOk, Result, Ok, Err}
use Rattle.std.proofs.Common.{ap, ◌∙◌}
use Rattle.ada_tree.specs.declared.naming.NameId.{NameId}
use Rattle.ada_tree.specs.declared.static_types.Kind.{Kind}
use Rattle.ada_tree.specs.declared.static_types.Kind.TheVariants.{Array}
use Rattle.ada_tree.specs.declared.static_types.Mark.{Mark}
use Rattle.ada_static_rules.specs.Scope.{Scope, Range}
use Rattle.ada_static_rules.specs.Declaring.{with_types, add_kind, made, made_array}
use Rattle.ada_scopes.specs.Makings.{IsMade}

pub array_made : {E : Type 0} (scope s : Scope) (name : Option NameId) (index : Range) (part k : ℕ) (a : Kind) (m : Mark) (o : Result (Scope × Option ℕ) E)
    → s ≡ with_types (add_kind scope.types a) scope
    → a ≡ Array index.kind index.first index.last part
    → m ≡ record { name = name; kind = k; first = index.first; last = index.last }
    → k ≡ length scope.types.kinds
    → IfOk o (λ r. IsMade s (made s.types m) r.0 r.1)
    → IfOk o (λ r. IsMade scope (made_array name scope.types (Some index) (Some part)) r.0 r.1)
array_made scope s name index part k a m (Err e) is_s is_a is_m is_k h = h
array_made scope s name index part k a m (Ok r) is_s is_a is_m is_k h = record {
  scope_is =
      h.scope_is
      ∙ ap (λ x. with_types (made x.types m).types x) is_s
      ∙ ap (λ b. with_types (made (add_kind scope.types b) m).types scope) is_a
      ∙ ap (λ n. with_types (made (add_kind scope.types (Array index.kind index.first index.last part)) n).types scope) is_m
      ∙ ap (λ j. with_types (made (add_kind scope.types (Array index.kind index.first index.last part)) record { name = name; kind = j; first = index.first; last = index.last }).types scope) is_k;
  mark_is = h.mark_is ∙ ap (λ x. Some (length x.types.marks)) is_s;
}

-- What one step of the walk of an expression adds.
use Rattle.std.specs.Prelude.{◌≡◌, ℕ, ℤ, Bool, true, false, ◌&&◌, if◌then◌else◌, List, ◌++◌, Option, Some, None, option_map, is_some, Result, refl}
use Rattle.std.proofs.Common.{sym, ap, ◌∙◌}
use Rattle.ada_tree.specs.declared.naming.Span.{Span}
use Rattle.ada_tree.specs.declared.naming.Word.{Word}
use Rattle.ada_tree.specs.declared.expressions.UnaryOp.{UnaryOp}
use Rattle.ada_tree.specs.declared.expressions.BinaryOp.{BinaryOp}
use Rattle.ada_tree.specs.PlainExpr.{PExpr, EAttributeOf, EUnary, EBinary}
use Rattle.ada_static_rules.specs.Refusals.{Refusal}
use Rattle.ada_tree.specs.Attributes.{attribute_of}
use Rattle.ada_static_rules.specs.StaticValue.{is_static, value_of, mark_named, keeps_static, attribute_at, then_do, signed, operated}
use Rattle.ada_static_rules.specs.Scope.{Scope, marking, scalar_kind}
use Rattle.ada_static_rules.specs.ExprTypes.{kind_of, takes, takes_one, unary_kind, binary_kind, attribute_kind}
use Rattle.ada_static_rules.specs.Demand.{node}
use Rattle.ada_static_rules.specs.RuleRangeBad.{raised, raises}
use Rattle.ada_static_rules.specs.Sooner.{sooner, found}
use Rattle.ada_static_rules.specs.RefusedFirst.{refused_first_at}
use Rattle.ada_expr_rules.specs.Judged.{fixed_value, both, raised_where, parts_met, IsJudged}
use Rattle.ada_expr_rules.specs.declared.judging.Judged.{Judged}
use Rattle.ada_static_rules.proofs.SoonerLaws.{found_append}

-- what is raised, by the kind and by whether the whole is static
raised_is_where : (kind : Option ℕ) (static : Bool) (v : Result ℤ Span) (parts : List Span)
    → raised_where kind (if static then Some v else None) (found 5 parts) ≡ found 5 (if is_some kind && static then raised v else parts)
raised_is_where None static v parts = refl
raised_is_where (Some k) true v parts = refl
raised_is_where (Some k) false v parts = refl

alike : (k l : Option ℕ) (v w : Option (Result ℤ Span)) (o p : Option Refusal) → k ≡ l → v ≡ w → o ≡ p → raised_where k v o ≡ raised_where l w p
alike k l v w o p is_k is_v is_o = ap (λ x. raised_where x v o) is_k ∙ ap (λ x. raised_where l x o) is_v ∙ ap (raised_where l w) is_o

mapped : {A : Type 0} (f : A → A) (b : Bool) (v : A) → option_map f (if b then Some v else None) ≡ (if b then Some (f v) else None)
mapped f true v = refl
mapped f false v = refl

paired : {A : Type 0} (f : A → A → A) (b c : Bool) (v w : A) → both f (if b then Some v else None) (if c then Some w else None) ≡ (if b && c then Some (f v w) else None)
paired f true true v w = refl
paired f true false v w = refl
paired f false c v w = refl

narrowed : {A : Type 0} (f : A → A) (a b c : Bool) (v : A) → (if a && b then option_map f (if c then Some v else None) else None) ≡ (if a && b && c then Some (f v) else None)
narrowed f true true true v = refl
narrowed f true true false v = refl
narrowed f true false c v = refl
narrowed f false b c v = refl

pub judged_operand : (scope : Scope) (op : UnaryOp) (e : PExpr) (s : Span) (j r : Judged) → IsJudged scope e j
    → r.kind ≡ unary_kind (takes_one op) j.kind
    → r.value ≡ option_map (then_do (signed op s)) j.value
    → r.raised ≡ raised_where r.kind r.value j.raised
    → r.parts ≡ sooner (refused_first_at scope (node false (EUnary op e s))) j.parts
    → IsJudged scope (EUnary op e s) r
judged_operand scope op e s j r h k v w p =
    let kind : r.kind ≡ kind_of scope (EUnary op e s) = k ∙ ap (unary_kind (takes_one op)) h.kind_is in
    let value : r.value ≡ fixed_value scope.types (EUnary op e s) = v ∙ ap (option_map (then_do (signed op s))) h.value_is ∙ mapped (then_do (signed op s)) (is_static scope.types e) (value_of scope.types e) in
    record {
      kind_is = kind;
      value_is = value;
      raised_is = w ∙ alike _ _ _ _ _ _ kind value h.raised_is ∙ raised_is_where (kind_of scope (EUnary op e s)) (is_static scope.types e) (value_of scope.types (EUnary op e s)) (raises scope e);
      parts_are = p ∙ ap (sooner (refused_first_at scope (node false (EUnary op e s)))) h.parts_are;
    }

pub judged_operands : (scope : Scope) (op : BinaryOp) (a b : PExpr) (s : Span) (i j r : Judged) → IsJudged scope a i → IsJudged scope b j
    → r.kind ≡ binary_kind (takes op) i.kind j.kind
    → r.value ≡ both (operated op s) i.value j.value
    → r.raised ≡ raised_where r.kind r.value (sooner i.raised j.raised)
    → r.parts ≡ sooner (refused_first_at scope (node false (EBinary op a b s))) (sooner i.parts j.parts)
    → IsJudged scope (EBinary op a b s) r
judged_operands scope op a b s i j r g h k v w p =
    let kind : r.kind ≡ kind_of scope (EBinary op a b s) = k ∙ ap (λ x. binary_kind (takes op) x j.kind) g.kind_is ∙ ap (binary_kind (takes op) (kind_of scope a)) h.kind_is in
    let value : r.value ≡ fixed_value scope.types (EBinary op a b s) = v ∙ ap (λ x. both (operated op s) x j.value) g.value_is ∙ ap (both (operated op s) (fixed_value scope.types a)) h.value_is ∙ paired (operated op s) (is_static scope.types a) (is_static scope.types b) (value_of scope.types a) (value_of scope.types b) in
    let parts : sooner i.raised j.raised ≡ found 5 (raises scope a ++ raises scope b) = ap (λ x. sooner x j.raised) g.raised_is ∙ ap (sooner (found 5 (raises scope a))) h.raised_is ∙ sym (found_append 5 (raises scope a) (raises scope b)) in
    record {
      kind_is = kind;
      value_is = value;
      raised_is = w ∙ alike _ _ _ _ _ _ kind value parts ∙ raised_is_where (kind_of scope (EBinary op a b s)) (is_static scope.types (EBinary op a b s)) (value_of scope.types (EBinary op a b s)) (raises scope a ++ raises scope b);
      parts_are = p ∙ ap (λ x. sooner (refused_first_at scope (node false (EBinary op a b s))) (sooner x j.parts)) g.parts_are ∙ ap (λ x. sooner (refused_first_at scope (node false (EBinary op a b s))) (sooner (parts_met scope a) x)) h.parts_are;
    }

pub judged_attribute : (scope : Scope) (m w : Word) (e : PExpr) (s : Span) (j r : Judged) → IsJudged scope e j
    → r.kind ≡ attribute_kind (attribute_of w.name) (scalar_kind (marking scope m.name)) j.kind
    → r.value ≡ (if keeps_static (attribute_of w.name) && is_some (mark_named scope.types m.name) then option_map (then_do (attribute_at scope.types (mark_named scope.types m.name) (attribute_of w.name) s)) j.value else None)
    → r.raised ≡ raised_where r.kind r.value j.raised
    → r.parts ≡ sooner (refused_first_at scope (node false (EAttributeOf m w e s))) j.parts
    → IsJudged scope (EAttributeOf m w e s) r
judged_attribute scope m w e s j r h k v x p =
    let f : Result ℤ Span → Result ℤ Span = then_do (attribute_at scope.types (mark_named scope.types m.name) (attribute_of w.name) s) in
    let kind : r.kind ≡ kind_of scope (EAttributeOf m w e s) = k ∙ ap (attribute_kind (attribute_of w.name) (scalar_kind (marking scope m.name))) h.kind_is in
    let value : r.value ≡ fixed_value scope.types (EAttributeOf m w e s) =
    v ∙ ap (λ y. if keeps_static (attribute_of w.name) && is_some (mark_named scope.types m.name) then option_map f y else None) h.value_is
    ∙ narrowed f (keeps_static (attribute_of w.name)) (is_some (mark_named scope.types m.name)) (is_static scope.types e) (value_of scope.types e) in
    record {
      kind_is = kind;
      value_is = value;
      raised_is = x ∙ alike _ _ _ _ _ _ kind value h.raised_is ∙ raised_is_where (kind_of scope (EAttributeOf m w e s)) (is_static scope.types (EAttributeOf m w e s)) (value_of scope.types (EAttributeOf m w e s)) (raises scope e);
      parts_are = p ∙ ap (sooner (refused_first_at scope (node false (EAttributeOf m w e s)))) h.parts_are;
    }

-- What is refused first at the places of an expression.
use Rattle.std.specs.Prelude.{◌≡◌, ℕ, ℤ, Bool, true, false, not, ◌&&◌, if◌then◌else◌, List, [], ◌∷◌, ◌++◌, map, Option, Some, None, is_some, Result, refl}
use Rattle.std.proofs.Common.{sym, ap, ◌∙◌}
use Rattle.std.proofs.lemmas.List.{map-append}
use Rattle.ada_tree.specs.PlainExpr.{PExpr, EInteger, EName, EIndex, EAttribute, EAttributeOf, EParen, EUnary, EBinary}
use Rattle.ada_static_rules.specs.Refusals.{Refusal}
use Rattle.ada_static_rules.specs.Scope.{Scope}
use Rattle.ada_tree.specs.declared.naming.Span.{Span}
use Rattle.ada_static_rules.specs.StaticValue.{is_static, value_of}
use Rattle.ada_static_rules.specs.ExprTypes.{nodes, kind_of, expr_place, is_other_kind}
use Rattle.ada_static_rules.specs.Demand.{node, whole, must_be_of, must_be_static}
use Rattle.ada_static_rules.specs.RuleRangeBad.{raises}
use Rattle.ada_static_rules.specs.Sites.{site, expr_sites}
use Rattle.ada_static_rules.specs.Sooner.{sooner, found}
use Rattle.ada_static_rules.specs.RefusedFirst.{refused_first_at, refused_first}
use Rattle.ada_expr_rules.specs.Judged.{parts_met, fixed_value}
use Rattle.ada_static_rules.proofs.SoonerLaws.{sooner_none}
use Rattle.ada_static_rules.proofs.Meeting.{met_cons, met_one, met_append, before}

one_part : (scope : Scope) (e : PExpr) (rest : List PExpr) → refused_first (map (λ n. site scope (node false n)) (e ∷ rest)) ≡ sooner (refused_first_at scope (node false e)) (refused_first (map (λ n. site scope (node false n)) rest))
one_part scope e rest = met_cons scope (node false e) (map (λ n. site scope (node false n)) rest)

-- the parts of an expression, as places
pub parts_are_met : (scope : Scope) (e : PExpr) → parts_met scope e ≡ refused_first (map (λ n. site scope (node false n)) (nodes e))
parts_are_met scope (EInteger n s) = sym (met_one scope (node false (EInteger n s)))
parts_are_met scope (EName id s) = sym (met_one scope (node false (EName id s)))
parts_are_met scope (EIndex w e s) = ap (sooner (refused_first_at scope (node false (EIndex w e s)))) (parts_are_met scope e) ∙ sym (one_part scope (EIndex w e s) (nodes e))
parts_are_met scope (EAttribute m w s) = sym (met_one scope (node false (EAttribute m w s)))
parts_are_met scope (EAttributeOf m w e s) = ap (sooner (refused_first_at scope (node false (EAttributeOf m w e s)))) (parts_are_met scope e) ∙ sym (one_part scope (EAttributeOf m w e s) (nodes e))
parts_are_met scope (EParen e s) = parts_are_met scope e ∙ sym (one_part scope (EParen e s) (nodes e))
parts_are_met scope (EUnary op e s) = ap (sooner (refused_first_at scope (node false (EUnary op e s)))) (parts_are_met scope e) ∙ sym (one_part scope (EUnary op e s) (nodes e))
parts_are_met scope (EBinary op l r s) =
    ap (λ o. sooner (refused_first_at scope (node false (EBinary op l r s))) (sooner o (parts_met scope r))) (parts_are_met scope l)
    ∙ ap (λ o. sooner (refused_first_at scope (node false (EBinary op l r s))) (sooner (refused_first (map (λ n. site scope (node false n)) (nodes l))) o)) (parts_are_met scope r)
    ∙ ap (sooner (refused_first_at scope (node false (EBinary op l r s)))) (sym (met_append (map (λ n. site scope (node false n)) (nodes l)) (map (λ n. site scope (node false n)) (nodes r))))
    ∙ ap (λ xs. sooner (refused_first_at scope (node false (EBinary op l r s))) (refused_first xs)) (sym (map-append (λ n. site scope (node false n)) (nodes l) (nodes r)))
    ∙ sym (one_part scope (EBinary op l r s) (nodes l ++ nodes r))

-- an expression: what its operations raise, and what its parts are refused for
pub expr_met : (scope : Scope) (e : PExpr) (a b : Option Refusal) → a ≡ found 5 (raises scope e) → b ≡ parts_met scope e → sooner a b ≡ refused_first (expr_sites scope e)
expr_met scope e a b p q = before scope (whole e) (map (λ n. site scope (node false n)) (nodes e)) a b (p ∙ sym (sooner_none (found 5 (raises scope e)))) (q ∙ parts_are_met scope e)

-- an expression of another kind than asked
pub kind_met : (scope : Scope) (e : PExpr) (asked kind : Option ℕ) → kind ≡ kind_of scope e
    → found 3 (if is_other_kind asked kind then expr_place e ∷ [] else []) ≡ refused_first_at scope (must_be_of e asked)
kind_met scope e asked kind h =
    ap (λ k. found 3 (if is_other_kind asked k then expr_place e ∷ [] else [])) h
    ∙ sym (sooner_none (found 3 (if is_other_kind asked (kind_of scope e) then expr_place e ∷ [] else [])))

is_there : (b : Bool) (v : Result ℤ Span) → is_some (if b then Some v else None) ≡ b
is_there true v = refl
is_there false v = refl

-- an expression that is not static
pub static_met : (scope : Scope) (e : PExpr) (kind : Option ℕ) (value : Option (Result ℤ Span)) → kind ≡ kind_of scope e → value ≡ fixed_value scope.types e
    → found 4 (if is_some kind && not (is_some value) then expr_place e ∷ [] else []) ≡ refused_first_at scope (must_be_static e)
static_met scope e kind value h g =
    ap (λ k. found 4 (if is_some k && not (is_some value) then expr_place e ∷ [] else [])) h
    ∙ ap (λ v. found 4 (if is_some (kind_of scope e) && not (is_some v) then expr_place e ∷ [] else [])) g
    ∙ ap (λ b. found 4 (if is_some (kind_of scope e) && not b then expr_place e ∷ [] else [])) (is_there (is_static scope.types e) (value_of scope.types e))
    ∙ sym (sooner_none (found 4 (if is_some (kind_of scope e) && not (is_static scope.types e) then expr_place e ∷ [] else [])))

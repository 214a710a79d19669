-- What the rules say of values, by what is known of an expression.
use Rattle.std.specs.Prelude.{◌≡◌, ℕ, ℤ, Bool, true, false, ◌&&◌, if◌then◌else◌, List, [], ◌∷◌, Option, Some, None, Result, refl}
use Rattle.std.proofs.Common.{sym, ap, ◌∙◌}
use Rattle.ada_tree.specs.declared.naming.Span.{Span}
use Rattle.ada_tree.specs.PlainExpr.{PExpr, PBounds}
use Rattle.ada_static_rules.specs.StaticValue.{is_static, value_of}
use Rattle.ada_static_rules.specs.Scope.{Scope, Range}
use Rattle.ada_static_rules.specs.ExprTypes.{kind_of, is_kind, ok_value, static_in, static_range, range_between, expr_place}
use Rattle.ada_static_rules.specs.Demand.{must_not_be_empty, must_lie_in, Site}
use Rattle.ada_static_rules.specs.RuleRangeBad.{is_below, is_outside, empty_range, out_of}
use Rattle.ada_static_rules.specs.Sooner.{found}
use Rattle.ada_static_rules.specs.RefusedFirst.{refused_first_at}
use Rattle.ada_expr_rules.specs.Known.{IsKnown, ok_of, value_in, range_of_both, emptied, outlying}
use Rattle.ada_expr_rules.specs.Walked.{IsWalked}
use Rattle.ada_expr_rules.specs.declared.known.Known.{Known}
use Rattle.ada_expr_rules.specs.declared.walking.Walked.{Walked}
use Rattle.ada_static_rules.proofs.SoonerLaws.{sooner_none}

both_tests : (p q : Bool) (v : Result ℤ Span) → (if p then ok_of (if q then Some v else None) else None) ≡ (if p && q then ok_value v else None)
both_tests true true v = refl
both_tests true false v = refl
both_tests false q v = refl

pub value_known : (scope : Scope) (e : PExpr) (k : ℕ) (known : Known) → IsKnown scope e known → value_in k known ≡ static_in scope k e
value_known scope e k known h =
    ap (λ o. if is_kind k o then ok_of known.value else None) h.kind_is
    ∙ ap (λ v. if is_kind k (kind_of scope e) then ok_of v else None) h.value_is
    ∙ both_tests (is_kind k (kind_of scope e)) (is_static scope.types e) (value_of scope.types e)

-- what is known of an expression that was walked
pub known_walked : (sites : List Site) (scope : Scope) (e : PExpr) (w : Walked) (known : Known) → known ≡ record { kind = w.kind; value = w.value } → IsWalked sites scope e w → IsKnown scope e known
known_walked sites scope e w known h i = record { kind_is = ap (λ k. k.kind) h ∙ i.kind_is; value_is = ap (λ k. k.value) h ∙ i.value_is }

-- the range of two bounds
pub range_known : (scope : Scope) (b : PBounds) (k : ℕ) (low high : Known) → IsKnown scope b.first low → IsKnown scope b.last high → range_of_both k low high ≡ static_range scope k b
range_known scope b k low high g h =
    ap (λ v. range_between k v (value_in k high)) (value_known scope b.first k low g)
    ∙ ap (range_between k (static_in scope k b.first)) (value_known scope b.last k high h)

emptied_is : (scope : Scope) (a b : PExpr) (kind : Option ℕ) (low high : Known) → IsKnown scope a low → IsKnown scope b high
    → emptied kind low high (expr_place a) ≡ empty_range scope a b kind
emptied_is scope a b None low high g h = refl
emptied_is scope a b (Some k) low high g h =
    ap (λ v. if is_below v (value_in k low) then expr_place a ∷ [] else []) (value_known scope b k high h)
    ∙ ap (λ v. if is_below (static_in scope k b) v then expr_place a ∷ [] else []) (value_known scope a k low g)

-- two bounds of an empty range
pub empty_met : (scope : Scope) (a b : PExpr) (low high : Known) → IsKnown scope a low → IsKnown scope b high
    → found 5 (emptied low.kind low high (expr_place a)) ≡ refused_first_at scope (must_not_be_empty a b)
empty_met scope a b low high g h =
    ap (λ k. found 5 (emptied k low high (expr_place a))) g.kind_is
    ∙ ap (found 5) (emptied_is scope a b (kind_of scope a) low high g h)
    ∙ sym (sooner_none (found 5 (empty_range scope a b (kind_of scope a))))

outlying_is : (scope : Scope) (e : PExpr) (range : Option Range) (known : Known) → IsKnown scope e known → outlying range known (expr_place e) ≡ out_of scope e range
outlying_is scope e None known h = refl
outlying_is scope e (Some range) known h = ap (λ v. if is_outside range v then expr_place e ∷ [] else []) (value_known scope e range.kind known h)

-- a value outside a range
pub outside_met : (scope : Scope) (e : PExpr) (range : Option Range) (known : Known) → IsKnown scope e known
    → found 5 (outlying range known (expr_place e)) ≡ refused_first_at scope (must_lie_in e range)
outside_met scope e range known h =
    ap (found 5) (outlying_is scope e range known h) ∙ sym (sooner_none (found 5 (out_of scope e range)))

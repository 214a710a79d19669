-- What is refused first of the parts of texts.
use Rattle.std.specs.Prelude.{◌≡◌, ℕ, Bool, true, false, ◌==◌, ◌&&◌, is_some, if◌then◌else◌, List, [], ◌∷◌, ◌++◌, map, Option, Some, None, refl}
use Rattle.std.proofs.Common.{sym, ap, ◌∙◌}
use Rattle.std.proofs.lemmas.Bool.{false≢true}
use Rattle.ada_tree.specs.declared.naming.Word.{Word}
use Rattle.ada_tree.specs.declared.naming.Span.{Span}
use Rattle.ada_tree.specs.PlainExpr.{PExpr, EInteger, EName, EIndex, EAttribute, EAttributeOf, EParen, EUnary, EBinary}
use Rattle.ada_tree.specs.PlainStmt.{PPart, PWords, PValue}
use Rattle.ada_tree.specs.Attributes.{Attribute, First, Last, Pos, Val, Succ, Pred, Image, NoAttribute, attribute_of, is_image}
use Rattle.ada_static_rules.specs.Refusals.{Refusal}
use Rattle.ada_static_rules.specs.Scope.{Scope, integer_kind, scalar_kind, marking}
use Rattle.ada_static_rules.specs.ExprTypes.{kind_of, attribute_kind, expr_place, nodes}
use Rattle.ada_static_rules.specs.Demand.{node, whole, is_written, must_be_of}
use Rattle.ada_static_rules.specs.StaticValue.{is_static, value_of}
use Rattle.ada_static_rules.specs.RuleUnknown.{unknown_in_node}
use Rattle.ada_static_rules.specs.RuleMismatch.{mismatch_in_node}
use Rattle.ada_static_rules.specs.RuleReadOut.{read_name}
use Rattle.ada_static_rules.specs.RuleArgCount.{arg_count_in_node}
use Rattle.ada_static_rules.specs.RuleArrayUse.{array_in_node}
use Rattle.ada_static_rules.specs.RuleRangeBad.{raised, raises}
use Rattle.ada_static_rules.specs.RuleTextUse.{is_image_of, is_fit_part}
use Rattle.ada_static_rules.specs.Sites.{site, expr_sites, part_nodes, plain_part_sites, part_sites}
use Rattle.ada_static_rules.specs.Sooner.{sooner, found}
use Rattle.ada_static_rules.specs.RefusedFirst.{refused_first_at, refused_first}
use Rattle.ada_expr_rules.specs.Judged.{parts_met}
use Rattle.ada_types.specs.inner.Written.{written_sites}
use Rattle.ada_static_rules.proofs.SoonerLaws.{sooner_none}
use Rattle.ada_static_rules.proofs.Meeting.{met_none, met_one, met_cons, joined, before}
use Rattle.ada_expr_rules.proofs.Expressions.{parts_are_met}

-- a node that is not 'IMAGE is refused in a text for what it is refused for elsewhere
node_alike : (scope : Scope) (e : PExpr) → is_image_of e ≡ false → refused_first_at scope (node true e) ≡ refused_first_at scope (node false e)
node_alike scope e h =
    ap (λ b. sooner (found 1 (unknown_in_node scope e))
    (sooner (found 3 (mismatch_in_node scope e))
    (sooner (found 7 (read_name scope e))
    (sooner (found 8 (arg_count_in_node scope e))
    (sooner (found 10 (array_in_node scope e)) (sooner (found 11 (if b then expr_place e ∷ [] else [])) None)))))) (sym h)

nodes_alike : (scope : Scope) (e : PExpr) (rest : List PExpr) → is_image_of e ≡ false
    → refused_first (site scope (node true e) ∷ map (λ n. site scope (node false n)) rest) ≡ refused_first (map (λ n. site scope (node false n)) (e ∷ rest))
nodes_alike scope e rest h =
    met_cons scope (node true e) (map (λ n. site scope (node false n)) rest)
    ∙ ap (λ o. sooner o (refused_first (map (λ n. site scope (node false n)) rest))) (node_alike scope e h)
    ∙ sym (met_cons scope (node false e) (map (λ n. site scope (node false n)) rest))

parts_alike : (scope : Scope) (e : PExpr) → is_image_of e ≡ false → refused_first (part_nodes scope e) ≡ refused_first (map (λ n. site scope (node false n)) (nodes e))
parts_alike scope (EInteger n s) h = nodes_alike scope (EInteger n s) [] h
parts_alike scope (EName id s) h = nodes_alike scope (EName id s) [] h
parts_alike scope (EIndex w e s) h = nodes_alike scope (EIndex w e s) (nodes e) h
parts_alike scope (EAttribute m w s) h = nodes_alike scope (EAttribute m w s) [] h
parts_alike scope (EAttributeOf m w e s) h = nodes_alike scope (EAttributeOf m w e s) (nodes e) h
parts_alike scope (EParen e s) h = nodes_alike scope (EParen e s) (nodes e) h
parts_alike scope (EUnary op e s) h = nodes_alike scope (EUnary op e s) (nodes e) h
parts_alike scope (EBinary op l r s) h = nodes_alike scope (EBinary op l r s) (nodes l ++ nodes r) h

-- an expression other than 'IMAGE
pub plain_written : (scope : Scope) (e : PExpr) → is_image_of e ≡ false → refused_first (expr_sites scope e) ≡ refused_first (written_sites scope e)
plain_written scope e h =
    met_cons scope (whole e) (map (λ n. site scope (node false n)) (nodes e))
    ∙ ap (sooner (refused_first_at scope (whole e))) (sym (parts_alike scope e h))
    ∙ sym (met_cons scope (whole e) (part_nodes scope e))

-- an attribute without an argument
pub bound_written : (scope : Scope) (m w : Word) (s : Span) → refused_first_at scope (node true (EAttribute m w s)) ≡ refused_first (written_sites scope (EAttribute m w s))
bound_written scope m w s =
    sym (met_one scope (node true (EAttribute m w s)))
    ∙ sym (met_cons scope (whole (EAttribute m w s)) (site scope (node true (EAttribute m w s)) ∷ []))

only_image : (a : Attribute) → is_image a ≡ true → a ≡ Image
only_image Image h = refl
only_image First h = absurd (false≢true h)
only_image Last h = absurd (false≢true h)
only_image Pos h = absurd (false≢true h)
only_image Val h = absurd (false≢true h)
only_image Succ h = absurd (false≢true h)
only_image Pred h = absurd (false≢true h)
only_image NoAttribute h = absurd (false≢true h)

none_either : (b : Bool) → ◌≡◌ {A = Option ℕ} None (if b then None else None)
none_either true = refl
none_either false = refl

-- 'IMAGE has no kind
image_kind : (mark argument : Option ℕ) → None ≡ attribute_kind Image mark argument
image_kind None o = refl
image_kind (Some k) None = refl
image_kind (Some k) (Some other) = none_either (k == other)

pub kind_of_image : (scope : Scope) (m w : Word) (e : PExpr) (s : Span) → is_image (attribute_of w.name) ≡ true → None ≡ kind_of scope (EAttributeOf m w e s)
kind_of_image scope m w e s h =
    image_kind (scalar_kind (marking scope m.name)) (kind_of scope e)
    ∙ ap (λ a. attribute_kind a (scalar_kind (marking scope m.name)) (kind_of scope e)) (sym (only_image (attribute_of w.name) h))

-- only its argument raises
image_raises : (scope : Scope) (m w : Word) (e : PExpr) (s : Span) → is_image (attribute_of w.name) ≡ true → raises scope e ≡ raises scope (EAttributeOf m w e s)
image_raises scope m w e s h =
    ap (λ k. if is_some k && is_static scope.types (EAttributeOf m w e s) then raised (value_of scope.types (EAttributeOf m w e s)) else raises scope e) (kind_of_image scope m w e s h)

pub image_written : (scope : Scope) (m w : Word) (e : PExpr) (s : Span) (p q r : Option Refusal) → is_image (attribute_of w.name) ≡ true
    → p ≡ found 5 (raises scope e)
    → q ≡ refused_first_at scope (node true (EAttributeOf m w e s))
    → r ≡ parts_met scope e
    → sooner p (sooner q r) ≡ refused_first (written_sites scope (EAttributeOf m w e s))
image_written scope m w e s p q r h is_p is_q is_r =
    before scope (whole (EAttributeOf m w e s)) (part_nodes scope (EAttributeOf m w e s)) p (sooner q r)
    (is_p ∙ ap (found 5) (image_raises scope m w e s h) ∙ sym (sooner_none (found 5 (raises scope (EAttributeOf m w e s)))))
    (before scope (node true (EAttributeOf m w e s)) (map (λ n. site scope (node false n)) (nodes e)) q r is_q (is_r ∙ parts_are_met scope e))

-- what may be no part of a text
pub unfit_met : (scope : Scope) (alone : Bool) (e : PExpr) → is_fit_part alone e ≡ false → found 11 (expr_place e ∷ []) ≡ refused_first_at scope (is_written alone e)
unfit_met scope alone e h = ap (λ b. sooner (found 11 (if b then [] else expr_place e ∷ [])) None) (sym h)

pub fit_met : (scope : Scope) (alone : Bool) (e : PExpr) → is_fit_part alone e ≡ true → None ≡ refused_first_at scope (is_written alone e)
fit_met scope alone e h = ap (λ b. sooner (found 11 (if b then [] else expr_place e ∷ [])) None) (sym h)

-- a plain expression alone in PUT
pub alone_met : (scope : Scope) (alone : Bool) (e : PExpr) (p : Option Refusal) → alone ≡ true → is_image_of e ≡ false → p ≡ refused_first_at scope (must_be_of e (Some integer_kind)) → p ≡ refused_first (plain_part_sites scope alone e)
alone_met scope true e p h g is_p = is_p ∙ sym (met_one scope (must_be_of e (Some integer_kind))) ∙ ap (λ b. refused_first (if b then [] else site scope (must_be_of e (Some integer_kind)) ∷ [])) (sym g)
alone_met scope false e p h g is_p = absurd (false≢true h)

pub image_alone_met : (scope : Scope) (alone : Bool) (e : PExpr) → alone ≡ true → is_image_of e ≡ true → None ≡ refused_first (plain_part_sites scope alone e)
image_alone_met scope true e h g = sym met_none ∙ ap (λ b. refused_first (if b then [] else site scope (must_be_of e (Some integer_kind)) ∷ [])) (sym g)
image_alone_met scope false e h g = absurd (false≢true h)

pub other_met : (scope : Scope) (alone : Bool) (e : PExpr) → alone ≡ false → None ≡ refused_first (plain_part_sites scope alone e)
other_met scope true e h = absurd (false≢true (sym h))
other_met scope false e h = sym met_none

-- a string, and an expression
pub words_met : (scope : Scope) (alone : Bool) (part : PPart) (text : List ℕ) (s : Span) → part ≡ PWords text s → None ≡ refused_first (part_sites scope alone part)
words_met scope alone part text s h = sym met_none ∙ ap (λ x. refused_first (part_sites scope alone x)) (sym h)

pub value_met : (scope : Scope) (alone : Bool) (part : PPart) (e : PExpr) (p q r : Option Refusal) → part ≡ PValue e
    → p ≡ refused_first (written_sites scope e)
    → q ≡ refused_first_at scope (is_written alone e)
    → r ≡ refused_first (plain_part_sites scope alone e)
    → sooner p (sooner q r) ≡ refused_first (part_sites scope alone part)
value_met scope alone part e p q r h is_p is_q is_r =
    joined (written_sites scope e) (site scope (is_written alone e) ∷ plain_part_sites scope alone e) p (sooner q r) is_p (before scope (is_written alone e) (plain_part_sites scope alone e) q r is_q is_r)
    ∙ ap (λ x. refused_first (part_sites scope alone x)) (sym h)

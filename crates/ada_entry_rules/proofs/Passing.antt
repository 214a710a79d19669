-- What is refused first of an actual, beside its formal.
use Rattle.std.specs.Prelude.{◌≡◌, [], ◌∷◌, Option, Some, None, refl}
use Rattle.std.specs.Option.{unwrap_or}
use Rattle.std.proofs.Common.{sym, ap, ◌∙◌}
use Rattle.ada_tree.specs.declared.naming.NameId.{NameId}
use Rattle.ada_tree.specs.declared.statements.ParMode.{ParMode}
use Rattle.ada_tree.specs.declared.statements.ParMode.TheVariants.{Take, Give, Both}
use Rattle.ada_tree.specs.PlainExpr.{PExpr, EInteger, EName, EIndex, EAttribute, EAttributeOf, EParen, EUnary, EBinary}
use Rattle.ada_static_rules.specs.Refusals.{Refusal}
use Rattle.ada_static_rules.specs.Scope.{Scope, FormalPart}
use Rattle.ada_static_rules.specs.ExprTypes.{expr_place}
use Rattle.ada_static_rules.specs.Demand.{is_actual, must_be_of}
use Rattle.ada_static_rules.specs.RuleNotVariable.{written_actual}
use Rattle.ada_static_rules.specs.RuleReadOut.{read_name, read_out}
use Rattle.ada_static_rules.specs.Sites.{expr_sites, written_actual_sites, actual_sites}
use Rattle.ada_static_rules.specs.Sooner.{sooner, found}
use Rattle.ada_static_rules.specs.RefusedFirst.{refused_first_at, refused_first}
use Rattle.ada_entry_rules.specs.inner.Actuals.{name_of, beside}
use Rattle.ada_static_rules.proofs.SoonerLaws.{sooner_none}
use Rattle.ada_static_rules.proofs.Meeting.{met_one, before, behind}

none_is_not : (id : NameId) → None ≡ Some id → ⊥
none_is_not id h = cc

some_is_not : (id : NameId) → Some id ≡ None → ⊥
some_is_not id h = cc

-- a name alone
pub named_actual : (scope : Scope) (mode : ParMode) (e : PExpr) (id : NameId) (p : Option Refusal) → name_of e ≡ Some id
    → p ≡ refused_first_at scope (is_actual mode (EName id (expr_place e)))
    → p ≡ refused_first (written_actual_sites scope mode e)
named_actual scope mode (EName other s) id p h is_p =
    is_p
    ∙ ap (λ o. refused_first_at scope (is_actual mode (EName (unwrap_or o id) s))) (sym h)
    ∙ sym (met_one scope (is_actual mode (EName other s)))
named_actual scope mode (EInteger n s) id p h is_p = absurd (none_is_not id h)
named_actual scope mode (EIndex w e s) id p h is_p = absurd (none_is_not id h)
named_actual scope mode (EAttribute m w s) id p h is_p = absurd (none_is_not id h)
named_actual scope mode (EAttributeOf m w e s) id p h is_p = absurd (none_is_not id h)
named_actual scope mode (EParen e s) id p h is_p = absurd (none_is_not id h)
named_actual scope mode (EUnary op e s) id p h is_p = absurd (none_is_not id h)
named_actual scope mode (EBinary op l r s) id p h is_p = absurd (none_is_not id h)

no_read : (scope : Scope) (mode : ParMode) (e : PExpr) → read_name scope e ≡ [] → read_out scope (is_actual mode e) ≡ []
no_read scope Take e h = refl
no_read scope Give e h = refl
no_read scope Both e h = h

-- what is no name is no formal of mode out
unread : (scope : Scope) (mode : ParMode) (e : PExpr) (p a : Option Refusal) → read_name scope e ≡ [] → p ≡ a → p ≡ sooner a (sooner (found 7 (read_out scope (is_actual mode e))) None)
unread scope mode e p a h is_p = is_p ∙ sym (sooner_none a) ∙ ap (λ l. sooner a (sooner (found 7 l) None)) (sym (no_read scope mode e h))

-- an expression that is no name
pub other_actual : (scope : Scope) (mode : ParMode) (e : PExpr) (p q : Option Refusal) → name_of e ≡ None
    → p ≡ found 6 (written_actual scope e)
    → q ≡ refused_first (expr_sites scope e)
    → sooner p q ≡ refused_first (written_actual_sites scope mode e)
other_actual scope mode (EName id s) p q h is_p is_q = absurd (some_is_not id h)
other_actual scope mode (EInteger n s) p q h is_p is_q = before scope (is_actual mode (EInteger n s)) (expr_sites scope (EInteger n s)) p q (unread scope mode (EInteger n s) p (found 6 (s ∷ [])) refl is_p) is_q
other_actual scope mode (EIndex w e s) p q h is_p is_q = before scope (is_actual mode (EIndex w e s)) (expr_sites scope (EIndex w e s)) p q (unread scope mode (EIndex w e s) p (found 6 (w.span ∷ [])) refl is_p) is_q
other_actual scope mode (EAttribute m w s) p q h is_p is_q = before scope (is_actual mode (EAttribute m w s)) (expr_sites scope (EAttribute m w s)) p q (unread scope mode (EAttribute m w s) p (found 6 (s ∷ [])) refl is_p) is_q
other_actual scope mode (EAttributeOf m w e s) p q h is_p is_q = before scope (is_actual mode (EAttributeOf m w e s)) (expr_sites scope (EAttributeOf m w e s)) p q (unread scope mode (EAttributeOf m w e s) p (found 6 (s ∷ [])) refl is_p) is_q
other_actual scope mode (EParen e s) p q h is_p is_q = before scope (is_actual mode (EParen e s)) (expr_sites scope (EParen e s)) p q (unread scope mode (EParen e s) p (found 6 (s ∷ [])) refl is_p) is_q
other_actual scope mode (EUnary op e s) p q h is_p is_q = before scope (is_actual mode (EUnary op e s)) (expr_sites scope (EUnary op e s)) p q (unread scope mode (EUnary op e s) p (found 6 (s ∷ [])) refl is_p) is_q
other_actual scope mode (EBinary op l r s) p q h is_p is_q = before scope (is_actual mode (EBinary op l r s)) (expr_sites scope (EBinary op l r s)) p q (unread scope mode (EBinary op l r s) p (found 6 (s ∷ [])) refl is_p) is_q

-- an actual that has a formal
pub beside_met : (scope : Scope) (o : Option FormalPart) (f : FormalPart) (e : PExpr) (p q : Option Refusal) → o ≡ Some f
    → p ≡ refused_first (actual_sites scope f.mode e)
    → q ≡ refused_first_at scope (must_be_of e f.kind)
    → sooner p q ≡ refused_first (beside scope o e)
beside_met scope o f e p q h is_p is_q =
    behind (actual_sites scope f.mode e) scope (must_be_of e f.kind) p q is_p is_q ∙ ap (λ x. refused_first (beside scope x e)) (sym h)

-- What is refused first in expressions and statements is what is refused first at their places.
use Rattle.std.specs.Prelude.{◌≡◌, ℕ, ◌+◌, List, [], ◌∷◌, ◌++◌, Option, refl}
use Rattle.std.proofs.Common.{sym, ◌∙◌}
use Rattle.ada_tree.specs.declared.naming.Span.{Span}
use Rattle.ada_tree.specs.PlainExpr.{PExpr, EInteger, EName, EIndex, EAttribute, EAttributeOf, EParen, EUnary, EBinary}
use Rattle.syn_event.specs.declared.limits.What.TheVariants.{Nesting}
use Rattle.syn_event.specs.CheckRefusals.{CheckRefusal}
use Rattle.syn_event.specs.CheckScope.{CheckScope, CheckSite, uses, counts}
use Rattle.syn_event.specs.CheckSites.{site, stands, expr_sites}
use Rattle.ada_check_rules.specs.rules.Sooner.{sooner}
use Rattle.ada_check_rules.specs.rules.RefusedFirst.{Standard, refused_first_at, refused_first}
use Rattle.ada_check_places.specs.parts.inner.WalkedExpr.{deep, own_expr_met, operands_met}
use Rattle.ada_check_rules.proofs.rules.SoonerLaws.{sooner_assoc, sooner_none}
use Rattle.ada_check_rules.proofs.rules.Meeting.{met_one, before, joined}

-- a part that stands so deep, before what stands in it
pub under : (by : Standard) (around : CheckScope) (k : ℕ) (s : Span) (ys : List CheckSite) (b : Option CheckRefusal) → b ≡ refused_first by ys → sooner (deep by around k s) b ≡ refused_first by (stands around k s ∷ ys)
under by around k s ys b q = before by around (counts Nesting 0 k s) ys (deep by around k s) b refl q

pub alone : (by : Standard) (around : CheckScope) (k : ℕ) (s : Span) → deep by around k s ≡ refused_first by (stands around k s ∷ [])
alone by around k s = sym (met_one by around (counts Nesting 0 k s))

pub expr_is_met : (by : Standard) (around : CheckScope) (k : ℕ) (e : PExpr) → sooner (own_expr_met by around k e) (operands_met by around (k + 1) e) ≡ refused_first by (expr_sites around k e)
expr_is_met by around k (EInteger n s) = sooner_none _ ∙ alone by around k s
expr_is_met by around k (EName id s) = sooner_none _ ∙ under by around k s (site around (uses id s) ∷ []) (refused_first_at by around (uses id s)) (sym (met_one by around (uses id s)))
expr_is_met by around k (EIndex w e s) =
    sooner_assoc (deep by around k s) (refused_first_at by around (uses w.name w.span)) (refused_first by (expr_sites around (k + 1) e))
    ∙ under by around k s (site around (uses w.name w.span) ∷ expr_sites around (k + 1) e) _ (before by around (uses w.name w.span) (expr_sites around (k + 1) e) _ _ refl refl)
expr_is_met by around k (EAttribute m w s) = sooner_none _ ∙ alone by around k s
expr_is_met by around k (EAttributeOf m w e s) = under by around k s (expr_sites around (k + 1) e) _ refl
expr_is_met by around k (EParen e s) = under by around k s (expr_sites around (k + 1) e) _ refl
expr_is_met by around k (EUnary op e s) = under by around k s (expr_sites around (k + 1) e) _ refl
expr_is_met by around k (EBinary op l r s) =
    under by around k s (expr_sites around (k + 1) l ++ expr_sites around (k + 1) r) _ (joined by (expr_sites around (k + 1) l) (expr_sites around (k + 1) r) _ _ refl refl)

-- What is refused first of the targets of assignments and GET.
use Rattle.std.specs.Prelude.{◌≡◌, ℕ, if◌then◌else◌, [], ◌∷◌, Option, Some, None}
use Rattle.std.proofs.Common.{sym, ap, subst, ◌∙◌}
use Rattle.ada_tree.specs.declared.naming.Word.{Word}
use Rattle.ada_tree.specs.PlainExpr.{PExpr}
use Rattle.ada_tree.specs.PlainStmt.{PTarget}
use Rattle.ada_static_rules.specs.Refusals.{Refusal}
use Rattle.ada_static_rules.specs.Scope.{Scope, integer_kind}
use Rattle.ada_static_rules.specs.ExprTypes.{is_other_kind}
use Rattle.ada_static_rules.specs.Demand.{writes, gets}
use Rattle.ada_static_rules.specs.RuleMismatch.{target_kind}
use Rattle.ada_static_rules.specs.Sites.{expr_sites}
use Rattle.ada_static_rules.specs.Sooner.{sooner, found}
use Rattle.ada_static_rules.specs.RefusedFirst.{refused_first_at, refused_first}
use Rattle.ada_entry_rules.specs.Targets.{IsTarget}
use Rattle.ada_entry_rules.specs.declared.targets.WalkedTarget.{WalkedTarget}
use Rattle.ada_static_rules.proofs.SoonerLaws.{sooner_none}
use Rattle.ada_static_rules.proofs.Meeting.{met_one, before}

abbrev over : Word → Option PExpr → PTarget
over name index = record { name = name; index = index }

-- a name with an index
pub part_target : (scope : Scope) (name : Word) (o : Option PExpr) (e : PExpr) (p q : Option Refusal) (w : WalkedTarget)
    → o ≡ Some e
    → w.kind ≡ target_kind scope (over name (Some e))
    → p ≡ refused_first_at scope (writes (over name (Some e)))
    → q ≡ refused_first (expr_sites scope e)
    → w.refusal ≡ sooner p q
    → IsTarget scope (over name o) w
part_target scope name o e p q w is_o is_kind is_p is_q is_w =
    subst (λ (x : Option PExpr). IsTarget scope (over name x) w) (sym is_o)
    record { kind_is = is_kind; refusal_is = is_w ∙ before scope (writes (over name (Some e))) (expr_sites scope e) p q is_p is_q }

-- a name alone
pub name_target : (scope : Scope) (name : Word) (o : Option PExpr) (w : WalkedTarget)
    → o ≡ None
    → w.kind ≡ target_kind scope (over name None)
    → w.refusal ≡ refused_first_at scope (writes (over name None))
    → IsTarget scope (over name o) w
name_target scope name o w is_o is_kind is_w =
    subst (λ (x : Option PExpr). IsTarget scope (over name x) w) (sym is_o)
    record { kind_is = is_kind; refusal_is = is_w ∙ sym (met_one scope (writes (over name None))) }

-- what GET reads
pub get_met : (scope : Scope) (t : PTarget) (kind : Option ℕ) → kind ≡ target_kind scope t
    → found 3 (if is_other_kind (Some integer_kind) kind then t.name.span ∷ [] else []) ≡ refused_first_at scope (gets t)
get_met scope t kind h =
    ap (λ k. found 3 (if is_other_kind (Some integer_kind) k then t.name.span ∷ [] else [])) h
    ∙ sym (sooner_none (found 3 (if is_other_kind (Some integer_kind) (target_kind scope t) then t.name.span ∷ [] else [])))

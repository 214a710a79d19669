-- Conditions over variables of the normal form: a guard, that none holds, and which part of a select came.
use Rattle.std.proofs.Common.{◌≡◌, ℕ, Bool, true, false, ◌&&◌, if◌then◌else◌, List, [], ◌∷◌, ◌++◌, map, Some, is_some, refl, ap, ap₂, ◌∙◌}
use Rattle.std.specs.List.{AllByRecursion, fold}
use Rattle.common_lemmas.proofs.Lists.{all_joined}
use Rattle.ada_tree.specs.declared.naming.NameId.{NameId}
use Rattle.ada_tree.specs.declared.naming.Span.{Span}
use Rattle.ada_tree.specs.declared.expressions.UnaryOp.TheVariants as unary
use Rattle.ada_tree.specs.declared.expressions.BinaryOp.TheVariants as binary
use Rattle.ada_tree.specs.PlainExpr.{PExpr, EInteger, EName, EBinary, PSubind}
use Rattle.ada_tree.specs.TypeTable.{TypeTable}
use Rattle.ada_static_rules.specs.Scope.{Scope, integer_kind, truth_kind}
use Rattle.ada_static_rules.specs.ExprTypes.{nodes, kind_of, expr_place, of_any_kind, takes, takes_one, unary_kind, binary_kind}
use Rattle.ada_static_rules.specs.StaticValue.{is_static}
use Rattle.ada_static_rules.specs.Demand.{node}
use Rattle.ada_static_rules.specs.Sites.{site, expr_sites, condition_sites}
use Rattle.ada_static_rules.specs.RuleMismatch.{is_misfit, misfit_operand}
use Rattle.ada_static_rules.specs.RuleRangeBad.{is_fixed, raises}
use Rattle.normal_model.specs.Waits.{not_held, none_held}
use Rattle.task_laws.specs.legal.alike_scopes.Laws.{IsMetBut}
use Rattle.normal_laws.specs.structure.typed.ScopeOf.{IsVariableOf}
use Rattle.normal_laws.proofs.structure.typed.Places.{met-whole, met-node, met-of}
use Rattle.normal_laws.proofs.structure.typed.Variables.{AllMetBut, of-kind, variable-kind, variable-changes, variable-met}

module _ (d : Scope) where
  abbrev pub IsMetNode : PExpr → Type 0
  IsMetNode n = IsMetBut (site d (node false n))

  pub nodes-met : (ns : List PExpr) → AllByRecursion IsMetNode ns → AllMetBut (map (λ n. site d (node false n)) ns)
  nodes-met [] h = tt
  nodes-met (n ∷ ns) h = (h.0, nodes-met ns h.1)

  pub met-nodes : (ns : List PExpr) → AllMetBut (map (λ n. site d (node false n)) ns) → AllByRecursion IsMetNode ns
  met-nodes [] h = tt
  met-nodes (n ∷ ns) h = (h.0, met-nodes ns h.1)

  -- a test that is of BOOLEAN, not static, and met
  pub record IsTest (e : PExpr) : Type 0 where
    kind : kind_of d e ≡ Some truth_kind
    static : is_static d.types e ≡ false
    raised : raises d e ≡ []
    parts : AllByRecursion IsMetNode (nodes e)

  pub test-met : (e : PExpr) → IsTest e → AllMetBut (condition_sites d e)
  test-met e h = all_joined IsMetBut (expr_sites d e) _ (met-whole d e h.raised, nodes-met (nodes e) h.parts) (met-of d e (Some truth_kind) (of-kind d e truth_kind h.kind), tt)

  -- what is not static raises nothing but in its parts
  pub loose : (e : PExpr) (xs ys : List Span) → is_static d.types e ≡ false → (if is_fixed d e then xs else ys) ≡ ys
  loose e xs ys h = ap (λ b. if is_some (kind_of d e) && b then xs else ys) h ∙ go (is_some (kind_of d e))
    where
      go : (b : Bool) → (if b && false then xs else ys) ≡ ys
      go true = refl
      go false = refl

  pub not-test : (s : Span) (e : PExpr) → IsTest e → IsTest (not_held s e)
  not-test s e h = record {
    kind = ap (unary_kind (takes_one unary.Not)) h.kind;
    static = h.static;
    raised = loose (not_held s e) _ (raises d e) h.static ∙ h.raised;
    parts = (
      met-node d false (not_held s e) record { known = refl; matched = ap (λ o. if is_misfit (takes_one unary.Not) o then expr_place e ∷ [] else []) h.kind; readable = refl; counted = refl; arrays = refl; texts = refl },
      h.parts,
    );
  }

  pub and-test : (s : Span) (l r : PExpr) → IsTest l → IsTest r → IsTest (EBinary binary.And l r s)
  and-test s l r h i = record {
    kind = ap₂ (binary_kind (takes binary.And)) h.kind i.kind;
    static = ap₂ (λ a b. a && b) h.static i.static;
    raised = loose (EBinary binary.And l r s) _ (raises d l ++ raises d r) (ap₂ (λ a b. a && b) h.static i.static) ∙ ap₂ (λ xs ys. xs ++ ys) h.raised i.raised;
    parts = (
      met-node d false (EBinary binary.And l r s) record { known = refl; matched = ap₂ (λ o q. misfit_operand (takes binary.And) o q l r) h.kind i.kind; readable = refl; counted = refl; arrays = refl; texts = refl },
      all_joined IsMetNode (nodes l) (nodes r) h.parts i.parts,
    );
  }

  all-tests : (s : Span) (es : List PExpr) (test : PExpr) → IsTest test → AllByRecursion IsTest es → IsTest (fold (λ t g. EBinary binary.And t (not_held s g) s) test es)
  all-tests s [] test h i = h
  all-tests s (e ∷ es) test h i = all-tests s es (EBinary binary.And test (not_held s e) s) (and-test s test (not_held s e) h (not-test s e i.0)) i.1

  -- that none of some guards holds
  pub none-test : (s : Span) (e : PExpr) (es : List PExpr) → AllByRecursion IsTest (e ∷ es) → IsTest (none_held s e es)
  none-test s e es h = all-tests s es (not_held s e) (not-test s e h.0) h.1

  -- a variable of BOOLEAN
  pub variable-test : (T : TypeTable) (id : NameId) (x : PSubind) (v : IsVariableOf T d id x) (s : Span) → v.mark.kind ≡ truth_kind → IsTest (EName id s)
  variable-test T id x v s e = record {
    kind = variable-kind v s ∙ ap Some e;
    static = variable-changes v s;
    raised = refl;
    parts = met-nodes (EName id s ∷ []) (variable-met v s).1;
  }

  -- a variable of INTEGER is a number
  pub flag-is-test : (T : TypeTable) (id : NameId) (x : PSubind) (v : IsVariableOf T d id x) (s : Span) (n : ℕ) → v.mark.kind ≡ integer_kind → IsTest (EBinary binary.Equal (EName id s) (EInteger n s) s)
  flag-is-test T id x v s n e =
      let kind : kind_of d (EName id s) ≡ Some integer_kind = variable-kind v s ∙ ap Some e in
      let static : (is_static d.types (EName id s) && true) ≡ false = ap (λ b. b && true) (variable-changes v s) in
      record {
        kind = ap (λ o. binary_kind of_any_kind o (Some integer_kind)) kind;
        static = static;
        raised = loose (EBinary binary.Equal (EName id s) (EInteger n s) s) _ [] static;
        parts = (
          met-node d false (EBinary binary.Equal (EName id s) (EInteger n s) s) record { known = refl; matched = ap (λ o. misfit_operand of_any_kind o (Some integer_kind) (EName id s) (EInteger n s)) kind; readable = refl; counted = refl; arrays = refl; texts = refl },
          ((variable-met v s).1.0, (met-node d false (EInteger n s) record { known = refl; matched = refl; readable = refl; counted = refl; arrays = refl; texts = refl }, tt)),
        );
      }

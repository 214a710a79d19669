-- What a variable of the normal form is as an expression, a target and an actual; and assignments to it.
use Rattle.std.proofs.Common.{◌≡◌, ℕ, Bool, true, false, ◌&&◌, if◌then◌else◌, List, [], ◌∷◌, ◌++◌, Option, Some, None, is_some, refl, sym, ap, ap₂, subst, ◌∙◌}
use Rattle.std.specs.List.{AllByRecursion}
use Rattle.std.proofs.lemmas.Bool.{eq-eqb}
use Rattle.common_lemmas.proofs.Lists.{all_joined}
use Rattle.ada_tree.specs.declared.naming.NameId.{NameId}
use Rattle.ada_tree.specs.declared.naming.Span.{Span}
use Rattle.ada_tree.specs.declared.statements.ParMode.{ParMode}
use Rattle.ada_tree.specs.declared.statements.ParMode.TheVariants.{Take, Give, Both}
use Rattle.ada_tree.specs.TypeTable.{TypeTable}
use Rattle.ada_tree.specs.PlainExpr.{PExpr, EName, PSubind}
use Rattle.ada_tree.specs.PlainStmt.{PTarget}
use Rattle.ada_static_rules.specs.Scope.{Scope, Reading, AsScalar, kind_at, meaning, reading, reading_of_mark, reading_of}
use Rattle.ada_static_rules.specs.ExprTypes.{name_kind, kind_of, is_other_kind, expr_place, static_in, is_kind, ok_value}
use Rattle.ada_static_rules.specs.StaticValue.{is_static, value_of}
use Rattle.ada_static_rules.specs.Demand.{is_actual, Site}
use Rattle.ada_static_rules.specs.Sites.{site, expr_sites, expr_of, target_sites, names_sites}
use Rattle.ada_static_rules.specs.RuleMismatch.{of_other_kind, no_value, target_kind}
use Rattle.ada_static_rules.specs.RuleNotVariable.{whole_written, is_variable, is_array}
use Rattle.ada_static_rules.specs.RuleReadOut.{out_formal, read_out}
use Rattle.ada_static_rules.specs.RuleArrayUse.{whole_array}
use Rattle.task_laws.specs.legal.alike_scopes.Laws.{IsMetBut}
use Rattle.normal_laws.specs.structure.typed.ScopeOf.{IsVariableOf}
use Rattle.normal_laws.proofs.structure.typed.Places.{met-whole, met-node, met-of, met-writes, met-actual, met-declares}
use Rattle.task_laws.proofs.legal.alike_scopes.Marks.{scalar-reading}
use Rattle.ada_tree.specs.declared.naming.Word.{Word}

-- nothing is refused at places
abbrev pub AllMetBut : List Site → Type 0
AllMetBut xs = AllByRecursion IsMetBut xs

-- ---- kinds

pub same-is-no-other : (k : ℕ) → is_other_kind (Some k) (Some k) ≡ false
same-is-no-other k = ap (λ b. if b then false else true) (eq-eqb k k refl)

-- an expression of the kind that is asked
pub of-kind : (d : Scope) (e : PExpr) (k : ℕ) → kind_of d e ≡ Some k → of_other_kind d (Some k) e ≡ []
of-kind d e k h = ap (λ o. if is_other_kind (Some k) o then expr_place e ∷ [] else []) h ∙ ap (λ b. if b then expr_place e ∷ [] else []) (same-is-no-other k)

module _ {types : TypeTable} {d : Scope} {id : NameId} {x : PSubind} (v : IsVariableOf types d id x) where
  pub variable-read : reading d id ≡ AsScalar v.mark.kind
  variable-read = ap (reading_of d.types) v.means ∙ ap (reading_of_mark d.types) v.there ∙ scalar-reading v.mark.kind (kind_at d.types v.mark.kind) v.scalar.0 v.scalar.1

  pub variable-kind : (s : Span) → kind_of d (EName id s) ≡ Some v.mark.kind
  variable-kind s = ap name_kind variable-read

  pub variable-changes : (s : Span) → is_static d.types (EName id s) ≡ false
  variable-changes s = ap is_some v.changes

  -- no static value of any kind
  pub variable-valueless : (k : ℕ) (s : Span) → static_in d k (EName id s) ≡ None
  variable-valueless k s = ap (λ b. if is_kind k (kind_of d (EName id s)) && b then ok_value (value_of d.types (EName id s)) else None) (variable-changes s) ∙ go (is_kind k (kind_of d (EName id s)))
    where
      go : (b : Bool) → (if b && false then ok_value (value_of d.types (EName id s)) else None) ≡ None
      go true = refl
      go false = refl

  pub variable-met : (s : Span) → AllMetBut (expr_sites d (EName id s))
  variable-met s = (
    met-whole d (EName id s) refl,
    (
      met-node d false (EName id s) record {
        known = ap (λ o. if is_some o then [] else s ∷ []) v.means;
        matched = ap (λ r. no_value r s) variable-read;
        readable = ap (λ o. out_formal o s) v.means;
        counted = refl;
        arrays = ap (λ r. whole_array r s) variable-read;
        texts = refl;
      },
      tt,
    ),
  )

  not-array : (s : Span) → whole_written (is_array (reading d id)) (is_variable (meaning d id)) s ≡ []
  not-array s = ap₂ (λ r o. whole_written (is_array r) (is_variable o) s) variable-read v.means

  abbrev pub as_target : Span → PTarget
  as_target s = record { name = record { name = id; span = s }; index = None }

  pub target-met : (s : Span) → AllMetBut (target_sites d (as_target s))
  target-met s = (
    met-writes d (as_target s) record {
      known = ap (λ o. if is_some o then [] else s ∷ []) v.means;
      matched = refl;
      variable = not-array s;
      counted = refl;
      arrays = ap (λ r. whole_array r s) variable-read;
    },
    tt,
  )

  pub target-of : (s : Span) → target_kind d (as_target s) ≡ Some v.mark.kind
  target-of s = ap (λ (r : Reading). target_kind_at r) variable-read
    where
      target_kind_at : Reading → Option ℕ
      target_kind_at (AsScalar k) = Some k
      target_kind_at _ = None

  pub actual-met : (mode : ParMode) (s : Span) → IsMetBut (site d (is_actual mode (EName id s)))
  actual-met mode s = met-actual d mode (EName id s) record {
    known = ap (λ o. if is_some o then [] else s ∷ []) v.means;
    variable = not-array s;
    readable = read mode;
    arrays = ap (λ r. whole_array r s) variable-read;
  }
    where
      read : (m : ParMode) → read_out d (is_actual m (EName id s)) ≡ []
      read Take = refl
      read Give = refl
      read Both = ap (λ o. out_formal o s) v.means

  -- what is assigned to it is met, and of its kind
  pub assigned-met : (s : Span) (e : PExpr) → AllMetBut (expr_sites d e) → of_other_kind d (Some v.mark.kind) e ≡ [] →
      AllMetBut (target_sites d (as_target s) ++ expr_of d (target_kind d (as_target s)) e)
  assigned-met s e h i =
      all_joined IsMetBut (target_sites d (as_target s)) (expr_of d (target_kind d (as_target s)) e) (target-met s)
      (subst (λ k. AllMetBut (expr_of d k e)) (sym (target-of s)) (all_joined IsMetBut (expr_sites d e) _ h (met-of d e (Some v.mark.kind) i, tt)))

-- names that are declared are met
pub words-met : (fixed : Bool) (ws : List Word) (s : Scope) → AllMetBut (names_sites fixed s ws)
words-met fixed [] s = tt
words-met fixed (w ∷ ws) s = (met-declares s fixed w, words-met fixed ws _)

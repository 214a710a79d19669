-- What is to be known of the types at the places of a program.
use Rattle.std.specs.Prelude.{◌≡◌, ℕ, ℤ, true, [], Some, Ok}
use Rattle.std.specs.List.{AllByRecursion}
use Rattle.ada_tree.specs.declared.naming.NameId.{NameId}
use Rattle.ada_tree.specs.declared.naming.Word.{Word}
use Rattle.ada_tree.specs.TypeTable.{TypeTable}
use Rattle.ada_tree.specs.PlainExpr.{PExpr}
use Rattle.ada_static_rules.specs.StaticValue.{is_static}
use Rattle.ada_static_rules.specs.Scope.{Scope, Unclear, meaning}
use Rattle.ada_static_rules.specs.ExprTypes.{kind_of, static_in}
use Rattle.ada_static_rules.specs.Demand.{scalar_only, stands_as_mark}
use Rattle.ada_static_rules.specs.Sites.{site, expr_sites}
use Rattle.ada_value.specs.declared.values.Value.{Value}
use Rattle.ada_value.specs.Values.{limits_named, position_of}
use Rattle.ada_value.specs.Evaluating.{evaluated}
use Rattle.ada_value.specs.StaticLaw.{HasSmallLiterals}
use Rattle.task_laws.specs.legal.rewritten_values.Values.{is_known}
use Rattle.task_laws.specs.legal.sites.Met.{IsMet}

-- a static expression has one value, as the rules and as a task see it
pub record IsWorth (T : TypeTable) (s : Scope) (k : ℕ) (e : PExpr) : Type 0 where
  pub number : ℤ
  pub static : static_in s k e ≡ Some number
  pub value : Value
  pub worth : evaluated T [] e ≡ Ok value
  pub position : position_of value ≡ number

-- an expression has a kind, and a value where it is static
pub record HasWorth (T : TypeTable) (s : Scope) (e : PExpr) : Type 0 where
  pub kind : ℕ
  pub is : kind_of s e ≡ Some kind
  pub static : is_static T e ≡ true → IsWorth T s kind e

-- What the scopes of a program's places give, where nothing is refused: no name is unclear, marks of scalars lead to known kinds, expressions whose
-- literals are numbers of INTEGER have kinds and static ones values, in the types of the whole program; and names that inner scopes declare are those
-- of no constant.
pub record Typing (T : TypeTable) (Typed : Scope → Type 0) : Type 0 where
  pub clear : (s : Scope) (id : NameId) → Typed s → meaning s id ≡ Some Unclear → ⊥
  pub mark : (s : Scope) (w : Word) → Typed s → IsMet (site s (stands_as_mark scalar_only w)) → is_known T (limits_named T w.name).kind ≡ true
  pub expr : (s : Scope) (e : PExpr) → Typed s → HasSmallLiterals e → AllByRecursion IsMet (expr_sites s e) → HasWorth T s e

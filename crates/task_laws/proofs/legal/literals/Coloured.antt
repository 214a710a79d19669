-- The program with an array of tasks whose index is an enumeration is as the laws ask.
use Rattle.std.proofs.Common.{◌≡◌, ℕ, zero, suc, [], ◌∷◌, Some, All, refl, subst, arith, slice_get, lit≤}
use Rattle.std.specs.Prelude.{IsSomeAnd}
use Rattle.std.proofs.lemmas.Option.{none-some}
use Rattle.std.proofs.lemmas.List.Elements.{All-nil, All-cons}
use Rattle.ada_tree.specs.declared.static_types.Kind.{Kind}
use Rattle.ada_tree.specs.Every.{Rules, EveryWord, EveryEntry, EveryPriority, EveryCallee, EveryDecls, EveryBody}
use Rattle.ada_tree.specs.Lexical.{IsIdentifier}
use Rattle.ada_static_rules.specs.Refusals.{types_in}
use Rattle.ada_tree.specs.WellPlaced.{well_placed}
use Rattle.ada_static_rules.specs.Scope.{kind_at}
use Rattle.task_laws.specs.legal.types.Typed.{IsSmallKind}
use Rattle.task_laws.specs.legal.literals.Laws.{HasRules}
use Rattle.task_laws.specs.legal.literals.Colours.{word, green_member, colour_body, coloured}
use Rattle.common_lemmas.proofs.Options.{some_same}

-- ---- sizes

small-at : (k : ℕ) (x : Kind) → kind_at (types_in coloured) k ≡ Some x → IsSmallKind k x
small-at zero x e = subst (IsSmallKind 0) (some_same e) tt
small-at (suc zero) x e = subst (IsSmallKind 1) (some_same e) tt
small-at (suc (suc zero)) x e = subst (IsSmallKind 2) (some_same e) (lit≤ tt, refl)
small-at (suc (suc (suc k))) x e = absurd (none-some x e)

-- ---- places

abbrev rules : Rules
rules = well_placed coloured.names

abbrev Named : ℕ → Type 0
Named k = IsSomeAnd (slice_get coloured.names k) IsIdentifier

n25 : Named 25
n25 = (refl, omega arith, refl)

n26 : Named 26
n26 = (refl, omega arith, refl)

n27 : Named 27
n27 = (refl, omega arith, refl)

n28 : Named 28
n28 = (refl, omega arith, refl)

n29 : Named 29
n29 = (refl, omega arith, refl)

n30 : Named 30
n30 = (refl, omega arith, refl)

one-name : (k : ℕ) → Named k → All (EveryWord rules) (word k ∷ [])
one-name k h = All-cons (EveryWord rules) (word k) [] h (All-nil (EveryWord rules))

in-decls : EveryDecls rules coloured.decls
in-decls = (
  (lit≤ tt, n26, (lit≤ tt, All-cons (EveryWord rules) (word 27) (word 28 ∷ []) n27 (one-name 28 n28))),
  (
    (lit≤ tt, (n29, All-nil (EveryEntry rules), All-nil (EveryPriority rules), tt)),
    (
      (lit≤ tt, (lit≤ tt, one-name 30 n30), ((n26, tt), (n29, tt)), tt, tt),
      ((lit≤ tt, n29, tt, tt, ((lit≤ tt, lit≤ tt, tt), tt, tt)), tt),
    ),
  ),
)

in-body : EveryBody rules 1 colour_body
in-body = ((lit≤ tt, (lit≤ tt, lit≤ tt, All-cons (EveryCallee rules 2) green_member [] (n30, (lit≤ tt, n28)) (All-nil (EveryCallee rules 2))), tt), tt, tt)

-- So it meets the rules, is well placed and has small enumerations.
pub coloured-is-met : HasRules coloured
coloured-is-met = record { rules = refl; placed = (n25, tt, in-decls, in-body); small = record { kinds = small-at } }

-- Each literal of a legal program stands for itself, and each index of an array of tasks over an enumeration has one.
use Rattle.std.proofs.Common.{◌≡◌, ◌<◌, ℕ, ℤ, pos, negsuc, true, List, [], length, get_or, IfSome, Option, Some, None, Result, Ok, int_le, int_lt, refl, sym, ap, ◌∙◌, subst, arith}
use Rattle.std.proofs.lemmas.Int.{ints}
use Rattle.std.proofs.lemmas.Option.{slice_get-get_or}
use Rattle.ada_tree.specs.declared.naming.NameId.{NameId}
use Rattle.ada_tree.specs.declared.static_types.Kind.TheVariants.{Enumeration}
use Rattle.ada_tree.specs.TypeTable.{TypeTable}
use Rattle.ada_tree.specs.PlainExpr.{PDrange}
use Rattle.ada_static_rules.specs.Refusals.{types_in}
use Rattle.ada_static_rules.specs.Scope.{Scope, kind_at}
use Rattle.ada_static_rules.specs.Declaring.{first_scope, after_decls}
use Rattle.syn_event.specs.NamedTasks.{NamedTasks, task_names_of}
use Rattle.ada_value.specs.declared.values.Limits.{Limits}
use Rattle.ada_value.specs.declared.values.Raised.{Raised}
use Rattle.ada_value.specs.Values.{position_of, placed, value_in, lies_in}
use Rattle.ada_value.specs.Evaluating.{range_of}
use Rattle.task_laws.proofs.legal.rewritten_types.Refused.{declared_once}
use Rattle.task_laws.proofs.legal.rewritten_types.Fresh.{first-here}
use Rattle.task_laws.specs.legal.types.Typed.{HasLiteral, HasLimits, IsTypedPart}
use Rattle.task_laws.proofs.legal.types.MainScopes.{main-stands, last-stands}
use Rattle.task_laws.proofs.legal.types.TaskTypes.{tasks-have-types}
use Rattle.task_laws.specs.legal.literals.Literals.{LiteralsStand, HasLiteralAt, HasIndexLiterals}
use Rattle.task_laws.specs.legal.literals.Laws.{LiteralsHaveValues, IndicesAreLiterals}
use Rattle.task_laws.proofs.legal.literals.Named.{AreFirst, first-decls, first-predefined}
use Rattle.task_laws.proofs.legal.literals.Values.{first-stands}
use Rattle.common_lemmas.proofs.Lists.{all_weaker}
use Rattle.common_lemmas.proofs.Truth.{and_both}

pub literals-have-values : LiteralsHaveValues
literals-have-values p h k ids e i id at = first-stands T (after_decls first p.decls) (last-stands p h.rules h.placed h.small) id k i (all-first k ids e i id at) h.small ids e at
  where
    first : Scope
    first = first_scope p.name

    T : TypeTable
    T = types_in p

    all-first : AreFirst T
    all-first = first-decls T p.decls first (main-stands p h.rules h.placed h.small) (first-here p.name) (declared_once p h.rules).1 first-predefined

-- ---- indices

-- a value of an enumeration has no negative position
not-negative : (k : ℕ) (z : ℤ) → position_of (placed k z) ≡ z → int_le (pos 0) z ≡ true
not-negative k (pos n) e = grind (arith, ints)
not-negative k (negsuc n) e = absurd (apart n e)
  where
    apart : (m : ℕ) → pos 0 ≡ negsuc m → ⊥
    apart m f = cc

less-of : (n m : ℕ) (l : ℤ) → int_le (pos n) l ≡ true → int_lt l (pos m) ≡ true → n < m
less-of n m l a b = grind (arith, ints)

below-clash : (f : ℤ) (n : ℕ) → int_le (pos 0) f ≡ true → int_le f (negsuc n) ≡ true → ⊥
below-clash f n a b = grind (arith, ints)

same-limits : (x : Result Limits Raised) (a b : Limits) → x ≡ Ok a → x ≡ Ok b → a ≡ b
same-limits x a b e f = cc

-- each index between two values of an enumeration is the position of a literal
pub index-literals : (T : TypeTable) (r : PDrange) → LiteralsStand T → HasLimits T r → HasIndexLiterals T r
index-literals T r stand h limits e =
    subst (λ (l : Limits). (ids : List NameId) → kind_at T l.kind ≡ Some (Enumeration ids) → (z : ℤ) → lies_in l z ≡ true → HasLiteralAt T l.kind ids z)
    (same-limits (range_of T [] r) h.limits limits h.range e) at-limits
  where
    k : ℕ
    k = h.limits.kind

    at-limits : (ids : List NameId) → kind_at T k ≡ Some (Enumeration ids) → (z : ℤ) → lies_in h.limits z ≡ true → HasLiteralAt T k ids z
    at-limits ids f (negsuc n) lies =
        let low = not-negative k h.limits.first (ap (λ o. position_of (value_in k o h.limits.first)) (sym f) ∙ h.first.same) in
        absurd (below-clash h.limits.first n low (and_both (int_le h.limits.first (negsuc n)) _ lies).0)
    at-limits ids f (pos n) lies =
        let high : int_lt h.limits.last (pos (length ids)) ≡ true = subst (λ o. HasLiteral o h.limits.last) f h.last.literal in
        let within = less-of n (length ids) h.limits.last (and_both (int_le h.limits.first (pos n)) _ lies).1 high in
        let there = slice_get-get_or ids n (record { 0 = 0 }) within in
        record { place = n; position = refl; id = get_or ids n (record { 0 = 0 }); there = there; stands = stand k ids f n _ there }

row-literals : (T : TypeTable) → LiteralsStand T → (o : Option PDrange) → IfSome o (HasLimits T) → IfSome o (HasIndexLiterals T)
row-literals T stand (Some r) h = index-literals T r stand h
row-literals T stand None h = tt

pub indices-are-literals : IndicesAreLiterals
indices-are-literals p h =
    let T = types_in p in
    let stand = literals-have-values p h in
    all_weaker (IsTypedPart T) (λ (x : NamedTasks). IfSome x.index_range (HasIndexLiterals T)) (task_names_of p) (λ x q. row-literals T stand x.index_range q) (tasks-have-types p h.rules h.placed h.small).parts

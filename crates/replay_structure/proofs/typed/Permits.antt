-- The tests of a permit: of its kind, its argument, and the member of a family; and the tests beside it.
use Rattle.std.proofs.Common.{◌≡◌, ℕ, Bool, true, false, if◌then◌else◌, nat_lt, List, [], ◌∷◌, slice_get, Option, Some, None, IfSome, refl, sym, subst}
use Rattle.std.specs.List.{AllByRecursion, fold}
use Rattle.ada_tree.specs.declared.naming.Span.{Span}
use Rattle.ada_tree.specs.declared.expressions.BinaryOp.TheVariants as binary
use Rattle.ada_tree.specs.declared.static_types.Kind.{Kind}
use Rattle.ada_tree.specs.declared.static_types.Kind.TheVariants as kind
use Rattle.ada_tree.specs.TypeTable.{TypeTable}
use Rattle.ada_tree.specs.PlainExpr.{PExpr, EInteger, EBinary}
use Rattle.ada_tree.specs.PlainProgram.{PProgram}
use Rattle.ada_static_rules.specs.Scope.{Scope, integer_kind, truth_kind}
use Rattle.task_model.specs.Setting.{Setting}
use Rattle.normal_model.specs.Ranges.{kind_of_range, kind_name}
use Rattle.normal_model.specs.RewrittenUnit.{RewrittenUnit}
use Rattle.replay_model.specs.Names.{kind_text, argument_text, index_text, added_id}
use Rattle.replay_model.specs.Asking.{permit_part, both, permit_is_kind, permit_is_for, permit_is_at, as_number, number_in, member_number}
use Rattle.replay_model.specs.Waiting.{and_guard, is_shut, Pause, and_later, is_due}
use Rattle.replay_structure.specs.asked.Pieces.{is_other_kind}
use Rattle.replay_structure.specs.typed.ScopeOf.{IsCountedBy, as_itself, by_position, IsFamilyOf, IsScopeOf}
use Rattle.replay_structure.proofs.typed.Tests.{IsFit, IsLoose, compared, literal-fit, and-loose, not-fit, false-fit, position-fit}

-- ---- members of families as numbers

counted-fit : (types : TypeTable) (inner : ℕ → Bool) (d : Scope) (s : Span) (j k : ℕ) (x : PExpr) → IsCountedBy types inner d j k → IsFit d k x → IsFit d integer_kind (as_number types s j (slice_get types.kinds j) x)
counted-fit types inner d s j k x (as_itself e f) h = subst (λ o. IsFit d integer_kind (as_number types s j o x)) (sym e) (subst (λ n. IsFit d n x) f h)
counted-fit types inner d s j k x (by_position n m o) h = by_kind (slice_get types.kinds j) refl
  where
    by_kind : (q : Option Kind) → slice_get types.kinds j ≡ q → IsFit d integer_kind (as_number types s j q x)
    by_kind None e = position-fit d (kind_name types j) s k x m h
    by_kind (Some kind.Integer) e = absurd (n e)
    by_kind (Some kind.Truth) e = position-fit d (kind_name types j) s k x m h
    by_kind (Some (kind.Enumeration ids)) e = position-fit d (kind_name types j) s k x m h
    by_kind (Some (kind.Array index first last part)) e = position-fit d (kind_name types j) s k x m h

pub member-fit : (g : Setting) (inner : ℕ → Bool) (d : Scope) (s : Span) (e k : ℕ) (x : PExpr) → IsFamilyOf g inner d e k → IsFit d k x → IsFit d integer_kind (member_number g s e (Some x))
member-fit g inner d s e k x f h =
    subst (λ o. IsFit d integer_kind (number_in g.types s o x)) (sym f.is) (counted-fit g.types inner d s (kind_of_range g.types f.written) k x f.counted h)

module _ (u : RewrittenUnit) (old inner : ℕ → Bool) (c d : Scope) (rel : IsScopeOf u old inner c d) where
  abbrev q : PProgram
  q = u.setting.program

  -- ---- the permit

  pub kind-loose : (s : Span) (k : ℕ) → IsLoose d (permit_is_kind u s k)
  kind-loose s k = compared d (added_id q kind_text) s rel.kind binary.Equal refl (EInteger k s) (literal-fit d k s)

  pub other-loose : (s : Span) (k : ℕ) → IsLoose d (is_other_kind u s k)
  other-loose s k = compared d (added_id q kind_text) s rel.kind binary.NotEqual refl (EInteger k s) (literal-fit d k s)

  pub for-loose : (s : Span) (k n : ℕ) → IsLoose d (permit_is_for u s k n)
  for-loose s k n =
      let second : IsLoose d (EBinary binary.Equal (permit_part u s argument_text) (EInteger n s) s) = compared d (added_id q argument_text) s rel.argument binary.Equal refl (EInteger n s) (literal-fit d n s) in
      and-loose d s (permit_is_kind u s k) (EBinary binary.Equal (permit_part u s argument_text) (EInteger n s) s) (kind-loose s k) second.fit

  pub at-loose : (s : Span) (k e : ℕ) (index : Option PExpr) → IsFit d integer_kind (member_number u.setting s e index) → IsLoose d (permit_is_at u s k e index)
  at-loose s k e index h =
      let number : PExpr = member_number u.setting s e index in
      let last : IsLoose d (EBinary binary.Equal (permit_part u s index_text) number s) = compared d (added_id q index_text) s rel.index binary.Equal refl number h in
      and-loose d s (permit_is_for u s k e) (EBinary binary.Equal (permit_part u s index_text) number s) (for-loose s k e) last.fit

  -- ---- guards

  -- a guard is of BOOLEAN, where there is one
  abbrev pub IsFitGuard : Option PExpr → Type 0
  IsFitGuard o = IfSome o (IsFit d truth_kind)

  pub guard-loose : (s : Span) (test : PExpr) (guard : Option PExpr) → IsLoose d test → IsFitGuard guard → IsLoose d (and_guard s test guard)
  guard-loose s test None h i = h
  guard-loose s test (Some e) h i = and-loose d s test e h i

  pub never-fit : (s : Span) → IsFit d truth_kind (is_shut s None)
  never-fit s = false-fit d s rel.falses

  shut-fit : (s : Span) (guard : Option PExpr) → IsFitGuard guard → IsFit d truth_kind (is_shut s guard)
  shut-fit s None i = never-fit s
  shut-fit s (Some e) i = not-fit d s e i

  later-loose : (s : Span) (n : ℕ) (xs : List Pause) (test : PExpr) → IsLoose d test → AllByRecursion (λ (x : Pause). IsFitGuard x.guard) xs → IsLoose d (fold (and_later s n) test xs)
  later-loose s n [] test h i = h
  later-loose s n (x ∷ xs) test h i = later-loose s n xs (and_later s n test x) (by_test (nat_lt x.duration n)) i.1
    where
      by_test : (b : Bool) → IsLoose d (if b then both s test (is_shut s x.guard) else test)
      by_test true = and-loose d s test (is_shut s x.guard) h (shut-fit s x.guard i.0)
      by_test false = h

  pub due-loose : (s : Span) (pauses : List Pause) (place n : ℕ) (guard : Option PExpr) → IsFitGuard guard → AllByRecursion (λ (x : Pause). IsFitGuard x.guard) pauses → IsLoose d (is_due u s pauses place n guard)
  due-loose s pauses place n guard h i = later-loose s n pauses (and_guard s (permit_is_for u s 4 place) guard) (guard-loose s (permit_is_for u s 4 place) guard (for-loose s 4 place) h) i

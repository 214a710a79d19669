-- The tests of a permit are well placed.
use Rattle.std.proofs.Common.{ℕ, ◌+◌, ◌<◌, ◌≤◌, ◌⊎◌, inl, inr, nat_lt, Bool, true, false, if◌then◌else◌, List, [], ◌∷◌, length, Option, Some, None, IfSome, slice_get, refl, arith}
use Rattle.std.specs.List.{AllByRecursion, fold}
use Rattle.ada_tree.specs.declared.naming.Span.{Span}
use Rattle.ada_tree.specs.declared.static_types.Kind.{Kind}
use Rattle.ada_tree.specs.declared.static_types.Kind.TheVariants as kind
use Rattle.ada_tree.specs.declared.expressions.BinaryOp.TheVariants.{And}
use Rattle.ada_tree.specs.PlainExpr.{PExpr, EBinary, PDrange}
use Rattle.ada_tree.specs.Every.{Rules, EveryExpr}
use Rattle.ada_tree.specs.WellPlaced.{level, logical, factor, GoesOn, well_placed}
use Rattle.ada_tree.specs.Lexical.{IsIdentifier, IsInteger}
use Rattle.task_model.specs.Setting.{Setting}
use Rattle.normal_model.specs.Ranges.{kind_of_range, kind_name, family_range}
use Rattle.normal_model.specs.RewrittenUnit.{RewrittenUnit}
use Rattle.normal_laws.specs.structure.placed.Placeable.{IsName}
use Rattle.replay_model.specs.Names.{kind_text, argument_text, index_text, control_text, go_text, done_text, hold_text, idle_text, stop_text, rest_text, never_text, join_text, operations_text, tasks_text, kinds_text, arguments_text, indices_text, counter_text, double_text, added_id}
use Rattle.replay_model.specs.Asking.{permit_is_kind, permit_is_for, permit_is_at, as_number, number_in, member_number}
use Rattle.replay_model.specs.Waiting.{never_so, and_guard, is_shut, Pause, and_later, is_due}
use Rattle.replay_structure.specs.placed.Fitting.{IsOperand}
use Rattle.replay_structure.specs.asked.Pieces.{is_other_kind}

-- What is known of the names of a replay text.
pub record AreAdded (g : Setting) (names : List (List ℕ)) : Type 0 where
  pub first : (k : ℕ) → k < 25 → IsName names (record { 0 = k })
  pub kind_part : IsName names (added_id g.program kind_text)
  pub argument_part : IsName names (added_id g.program argument_text)
  pub index_part : IsName names (added_id g.program index_text)
  pub control : IsName names (added_id g.program control_text)
  pub go : IsName names (added_id g.program go_text)
  pub done : IsName names (added_id g.program done_text)
  pub hold : IsName names (added_id g.program hold_text)
  pub idle : IsName names (added_id g.program idle_text)
  pub stop : IsName names (added_id g.program stop_text)
  pub rest : IsName names (added_id g.program rest_text)
  pub never : IsName names (added_id g.program never_text)
  pub join : IsName names (added_id g.program join_text)
  pub operations : IsName names (added_id g.program operations_text)
  pub tasks : IsName names (added_id g.program tasks_text)
  pub permit_kinds : IsName names (added_id g.program kinds_text)
  pub arguments : IsName names (added_id g.program arguments_text)
  pub indices : IsName names (added_id g.program indices_text)
  pub counter : IsName names (added_id g.program counter_text)
  pub double : (t : List ℕ) → IsIdentifier (double_text t) → IsName names (added_id g.program (double_text t))
  pub kinds : (k : ℕ) → IsName names (kind_name g.types k)

module _ (u : RewrittenUnit) (names : List (List ℕ)) (known : AreAdded u.setting names) where
  abbrev g : Setting
  g = u.setting

  abbrev r : Rules
  r = well_placed names

  -- ---- kinds of permits

  pub kind-placed : (s : Span) (k n : ℕ) → IsInteger k → n + 1 ≤ 300 → EveryExpr r n (permit_is_kind u s k)
  kind-placed s k n few le = (omega (arith, le), (inl (omega arith), omega arith), (le, known.kind_part), (le, few))

  pub other-placed : (s : Span) (k n : ℕ) → IsInteger k → n + 1 ≤ 300 → EveryExpr r n (is_other_kind u s k)
  other-placed s k n few le = (omega (arith, le), (inl (omega arith), omega arith), (le, known.kind_part), (le, few))

  pub for-placed : (s : Span) (k a n : ℕ) → IsInteger k → IsInteger a → n + 2 ≤ 300 → EveryExpr r n (permit_is_for u s k a)
  for-placed s k a n few small le = (
    omega (arith, le),
    (inl (omega arith), omega arith),
    kind-placed s k (n + 1) few (omega (arith, le)),
    (omega (arith, le), (inl (omega arith), omega arith), (omega (arith, le), known.argument_part), (omega (arith, le), small)),
  )

  -- ---- members of families

  module _ (s : Span) (x : PExpr) (q : ℕ) (le : q ≤ 300) (one : EveryExpr r q x) (two : EveryExpr r (q + 1) x) where
    as-number-placed : (k : ℕ) (o : Option Kind) → EveryExpr r q (as_number g.types s k o x)
    as-number-placed k (Some kind.Integer) = one
    as-number-placed k (Some kind.Truth) = (le, known.kinds k, known.first 20 (omega arith), two)
    as-number-placed k (Some (kind.Enumeration ids)) = (le, known.kinds k, known.first 20 (omega arith), two)
    as-number-placed k (Some (kind.Array index first last part)) = (le, known.kinds k, known.first 20 (omega arith), two)
    as-number-placed k None = (le, known.kinds k, known.first 20 (omega arith), two)

    number-placed : (o : Option PDrange) → EveryExpr r q (number_in g.types s o x)
    number-placed None = one
    number-placed (Some b) = as-number-placed (kind_of_range g.types b) (slice_get g.types.kinds (kind_of_range g.types b))

  -- the index of a member is well placed two or three deeper than the test
  pub at-placed : (s : Span) (k e n : ℕ) (o : Option PExpr) → IsInteger k → IsInteger e → n + 3 ≤ 300 → ((q : ℕ) → q ≤ n + 3 → IfSome o (EveryExpr r q)) → IsOperand (member_number g s e o) → EveryExpr r n (permit_is_at u s k e o)
  at-placed s k e n o few small le h tight = (
    omega (arith, le),
    (inr (refl, refl), omega arith),
    for-placed s k e (n + 1) few small (omega (arith, le)),
    (omega (arith, le), (inl (omega arith), tight), (omega (arith, le), known.index_part), member o h),
  )
    where
      member : (m : Option PExpr) → ((q : ℕ) → q ≤ n + 3 → IfSome m (EveryExpr r q)) → EveryExpr r ((n + 1) + 1) (member_number g s e m)
      member None i = (omega (arith, le), omega arith)
      member (Some x) i = number-placed s x ((n + 1) + 1) (omega (arith, le)) (i ((n + 1) + 1) (omega arith)) (i (((n + 1) + 1) + 1) (omega arith)) (family_range g e)

  -- ---- guards

  -- it may stand to the left of a further `and`
  abbrev pub MayGoOn : PExpr → Type 0
  MayGoOn e = (logical < level e) ⊎ GoesOn And e

  pub guarded : (s : Span) (test : PExpr) (n : ℕ) (guard : Option PExpr) → n + 1 ≤ 300 → MayGoOn test → ((q : ℕ) → q ≤ n + 1 → EveryExpr r q test) → IfSome guard (λ e. factor < level e) → IfSome guard (EveryExpr r (n + 1)) → EveryExpr r n (and_guard s test guard)
  guarded s test n None le may h primary i = h n (omega arith)
  guarded s test n (Some e) le may h primary i = (omega (arith, le), (may, omega (arith, primary)), h (n + 1) (omega arith), i)

  pub guarded-goes : (s : Span) (test : PExpr) (guard : Option PExpr) → MayGoOn test → MayGoOn (and_guard s test guard)
  guarded-goes s test None may = may
  guarded-goes s test (Some e) may = inr (refl, refl)

  -- ---- delay alternatives

  -- the guard of a delay alternative, wherever it stands up to so deep
  abbrev pub IsShutBy : ℕ → Pause → Type 0
  IsShutBy most x = IfSome x.guard (λ e. (factor < level e) × ((q : ℕ) → q ≤ most → EveryExpr r q e))

  shut-placed : (s : Span) (most q : ℕ) (guard : Option PExpr) → q + 1 ≤ most → most ≤ 300 → IfSome guard (λ e. (factor < level e) × ((j : ℕ) → j ≤ most → EveryExpr r j e)) → EveryExpr r q (is_shut s guard)
  shut-placed s most q None le l h = (omega (arith, le, l), known.first 4 (omega arith))
  shut-placed s most q (Some e) le l h = (omega (arith, le, l), h.0, h.1 (q + 1) le)

  pub never-placed : (s : Span) (q : ℕ) → q ≤ 300 → EveryExpr r q (never_so s)
  never-placed s q le = (le, known.first 4 (omega arith))

  shut-tight : (s : Span) (guard : Option PExpr) → logical < level (is_shut s guard)
  shut-tight s None = omega arith
  shut-tight s (Some e) = omega arith

  module _ (s : Span) (d most : ℕ) (l : most ≤ 300) where
    -- a test that is well placed wherever it stands up to so deep, less than it is deep
    abbrev IsPlacedBy : ℕ → PExpr → Type 0
    IsPlacedBy deep e = (q : ℕ) → q + deep ≤ most → EveryExpr r q e

    later-placed : (deep : ℕ) (test : PExpr) (x : Pause) → 1 ≤ deep → IsPlacedBy deep test → MayGoOn test → IsShutBy most x → IsPlacedBy (deep + 1) (and_later s d test x)
    later-placed deep test x one h may i = by_test (nat_lt x.duration d)
      where
        by_test : (c : Bool) → IsPlacedBy (deep + 1) (if c then EBinary And test (is_shut s x.guard) s else test)
        by_test true q le = (omega (arith, le, l), (may, shut-tight s x.guard), h (q + 1) (omega (arith, le)), shut-placed s most (q + 1) x.guard (omega (arith, le, one)) l i)
        by_test false q le = h q (omega (arith, le))

    later-goes : (test : PExpr) (x : Pause) → MayGoOn test → MayGoOn (and_later s d test x)
    later-goes test x may = by_test (nat_lt x.duration d)
      where
        by_test : (c : Bool) → MayGoOn (if c then EBinary And test (is_shut s x.guard) s else test)
        by_test true = inr (refl, refl)
        by_test false = may

    pub all-later : (ps : List Pause) (deep : ℕ) (test : PExpr) → 1 ≤ deep → IsPlacedBy deep test → MayGoOn test → AllByRecursion (IsShutBy most) ps → IsPlacedBy (deep + length ps) (fold (and_later s d) test ps)
    all-later [] deep test one h may i q le = h q (omega (arith, le))
    all-later (x ∷ ps) deep test one h may i q le =
        all-later ps (deep + 1) (and_later s d test x) (omega arith) (later-placed deep test x one h may i.0) (later-goes test x may) i.1 q (omega (arith, le))

  -- the test for the k-th of some delay alternatives
  pub due-placed : (s : Span) (ps : List Pause) (k d n : ℕ) (guard : Option PExpr) → IsInteger k → n + length ps + 4 ≤ 300 → AllByRecursion (IsShutBy (n + length ps + 4)) ps → IsShutBy (n + length ps + 4) (record { duration = d; guard = guard }) → EveryExpr r n (is_due u s ps k d guard)
  due-placed s ps k d n guard few le all own =
      all-later s d (n + length ps + 4) le ps 3 (and_guard s (permit_is_for u s 4 k) guard) (omega arith) first (guarded-goes s (permit_is_for u s 4 k) guard (inr (refl, refl))) all n (omega arith)
    where
      primary : (o : Option PExpr) → IfSome o (λ e. (factor < level e) × ((q : ℕ) → q ≤ n + length ps + 4 → EveryExpr r q e)) → IfSome o (λ e. factor < level e)
      primary None i = tt
      primary (Some e) i = i.0

      placed : (o : Option PExpr) (q : ℕ) → q ≤ n + length ps + 4 → IfSome o (λ e. (factor < level e) × ((j : ℕ) → j ≤ n + length ps + 4 → EveryExpr r j e)) → IfSome o (EveryExpr r q)
      placed None q l i = tt
      placed (Some e) q l i = i.1 q l

      first : (q : ℕ) → q + 3 ≤ n + length ps + 4 → EveryExpr r q (and_guard s (permit_is_for u s 4 k) guard)
      first q l =
          guarded s (permit_is_for u s 4 k) q guard (omega (arith, l, le)) (inr (refl, refl)) (λ j m. for-placed s 4 k j (omega arith) few (omega (arith, m, l, le))) (primary guard own) (placed guard (q + 1) (omega (arith, l)) own)

-- The parameter of a loop has the first mark of its range's kind, so the loop's scope stands over the same table.
use Rattle.std.proofs.Common.{◌≡◌, ℕ, ◌+◌, false, ◌==◌, List, [], ◌∷◌, ◌++◌, is_some, option_map, Option, Some, None, refl, sym, ap, ◌∙◌, subst}
use Rattle.std.specs.List.{AllByRecursion}
use Rattle.std.proofs.lemmas.Bool.{eq-eqb}
use Rattle.std.proofs.lemmas.Option.{none-some}
use Rattle.ada_tree.specs.declared.naming.NameId.{NameId}
use Rattle.ada_tree.specs.declared.expressions.UnaryOp.{UnaryOp}
use Rattle.ada_tree.specs.declared.expressions.UnaryOp.TheVariants as unary
use Rattle.ada_tree.specs.declared.expressions.BinaryOp.{BinaryOp}
use Rattle.ada_tree.specs.declared.expressions.BinaryOp.TheVariants.{And, Or, Xor, AndThen, OrElse, Equal, NotEqual, Less, LessEqual, Greater, GreaterEqual, Plus, Minus, Times, Divide, Mod, Rem}
use Rattle.ada_tree.specs.declared.static_types.Kind.TheVariants.{Integer, Truth}
use Rattle.ada_tree.specs.declared.static_types.Mark.{Mark}
use Rattle.ada_tree.specs.TypeTable.{TypeTable}
use Rattle.ada_tree.specs.PlainExpr.{PExpr, EInteger, EName, EIndex, EAttribute, EAttributeOf, EParen, EUnary, EBinary, PDrange, RGiven, RMarked}
use Rattle.ada_tree.specs.PlainStmt.{PScheme, LWhile, LFor}
use Rattle.ada_tree.specs.Attributes.{Attribute, First, Last, Pos, Val, Succ, Pred, Image, NoAttribute, attribute_of}
use Rattle.ada_static_rules.specs.Scope.{Scope, integer_kind, truth_kind, Thing, TypeMark, Variable, ConstantObject, Parameter, LoopParameter, Literal, TaskType, SingleTask, TaskObject, TaskArray, AnException, MainProcedure, AnotherUnit, Unclear, meaning, kind_at, mark_at, and_then, Reading, AsScalar, AsArray, AsNoValue, AsUnknown, AsUnclear, reading_of_mark, reading_of, reading, scalar_kind, marking, kind_of_mark}
use Rattle.ada_static_rules.specs.ExprTypes.{takes, takes_one, given_by, argument_kind, function_kind, bound_kind, name_kind, component_kind, attribute_kind, kind_of}
use Rattle.ada_static_rules.specs.Demand.{scalar_only, must_be_alike, must_not_be_empty, Site}
use Rattle.ada_static_rules.specs.RuleMismatch.{is_allowed}
use Rattle.ada_static_rules.specs.Sites.{site, if_there, expr_sites, bounds_sites, drange_sites, scheme_sites, loop_scope}
use Rattle.ada_static_rules.specs.Declaring.{inner_scope, with_name, first_mark_of, loop_thing, drange_kind}
use Rattle.task_laws.specs.legal.rewritten_types.Agreement.{scalar_only as only_scalar, HasKind, IsScalar, mark_of_kind}
use Rattle.task_laws.proofs.legal.rewritten_types.Lookups.{place-all}
use Rattle.task_laws.proofs.legal.rewritten_types.Owning.{own-kept}
use Rattle.task_laws.specs.legal.sites.Met.{IsMet}
use Rattle.task_laws.proofs.legal.types.ExprKinds.{LeadsOn, scalar-mark}
use Rattle.task_laws.proofs.legal.types.StaticParts.{met-kind}
use Rattle.task_laws.proofs.legal.types.TypedValues.{mark-of, kind-read, if-same, unary-given, are-taken}
use Rattle.task_laws.proofs.legal.types.MainScopes.{Stands, StandsWhole}
use Rattle.task_laws.proofs.legal.types.InnerScopes.{AreApart, one-stands, inside-stands}
use Rattle.common_lemmas.proofs.Lists.{all_front, found_some, found_at}
use Rattle.common_lemmas.proofs.Options.{some_same}
use Rattle.task_laws.proofs.legal.sites.Around.{test-holds}

-- ---- the first mark of a kind

-- a kind has a mark
abbrev HasMarkFor : TypeTable → ℕ → Type 0
HasMarkFor T k = (m : Mark) × (mark_of_kind T k ≡ Some m)

mark-there : (T : TypeTable) (i : ℕ) (x : Mark) (k : ℕ) → mark_at T i ≡ Some x → x.kind ≡ k → HasMarkFor T k
mark-there T i x k e f = found_some (λ y. y.kind == k) T.marks i x e (eq-eqb x.kind k f)

bound-same : (a : Attribute) (j k : ℕ) → bound_kind a j ≡ Some k → j ≡ k
bound-same First j k e = some_same e
bound-same Last j k e = some_same e
bound-same Pos j k e = absurd (none-some k e)
bound-same Val j k e = absurd (none-some k e)
bound-same Succ j k e = absurd (none-some k e)
bound-same Pred j k e = absurd (none-some k e)
bound-same Image j k e = absurd (none-some k e)
bound-same NoAttribute j k e = absurd (none-some k e)

module _ (T : TypeTable) (s : Scope) (h : Stands T s) where
  abbrev R : TypeTable
  R = h.root

  scalar-marked : (k : ℕ) → IsScalar R k → HasMarkFor s.types k
  scalar-marked k q = let m = h.typed.whole.own k q in (m.0, own-kept R s.types h.over.keeps.grows k m.0 m.1)

  integer-marked : HasMarkFor s.types integer_kind
  integer-marked = scalar-marked integer_kind (Integer, ap only_scalar h.typed.whole.integers)

  truth-marked : HasMarkFor s.types truth_kind
  truth-marked = scalar-marked truth_kind (Truth, ap only_scalar h.typed.whole.truths)

  leads-marked : (i k : ℕ) → LeadsOn s.types i → name_kind (reading_of_mark s.types (mark_at s.types i)) ≡ Some k → HasMarkFor s.types k
  leads-marked i k l e =
      let r = kind-read l.mark.kind (kind_at s.types l.mark.kind) k (ap (λ o. name_kind (reading_of_mark s.types o)) (sym l.there) ∙ e) in
      mark-there s.types i l.mark k l.there r.0

  name-marked : (id : NameId) (k : ℕ) → name_kind (reading s id) ≡ Some k → HasMarkFor s.types k
  name-marked id k e = by_thing (meaning s id) refl e
    where
      by_thing : (o : Option Thing) → meaning s id ≡ o → name_kind (reading_of s.types o) ≡ Some k → HasMarkFor s.types k
      by_thing (Some (Variable m)) p f = leads-marked m k (h.over.clear.things id (Variable m) p) f
      by_thing (Some (ConstantObject m)) p f = leads-marked m k (h.over.clear.things id (ConstantObject m) p) f
      by_thing (Some (Parameter mode m)) p f = leads-marked m k (h.over.clear.things id (Parameter mode m) p) f
      by_thing (Some (LoopParameter m)) p f = leads-marked m k (h.over.clear.things id (LoopParameter m) p) f
      by_thing (Some (Literal j)) p f =
          let q = h.over.clear.things id (Literal j) p in
          subst (HasMarkFor s.types) (some_same f) (scalar-marked j (q.0, sym (h.over.keeps.kinds j) ∙ q.1))
      by_thing (Some (TypeMark m)) p f = absurd (none-some k f)
      by_thing (Some (TaskType es)) p f = absurd (none-some k f)
      by_thing (Some (SingleTask es)) p f = absurd (none-some k f)
      by_thing (Some (TaskObject es)) p f = absurd (none-some k f)
      by_thing (Some (TaskArray r es)) p f = absurd (none-some k f)
      by_thing (Some AnException) p f = absurd (none-some k f)
      by_thing (Some MainProcedure) p f = absurd (none-some k f)
      by_thing (Some AnotherUnit) p f = absurd (none-some k f)
      by_thing (Some Unclear) p f = absurd (none-some k f)
      by_thing None p f = absurd (none-some k f)

  part-marked : (part k : ℕ) → kind_of_mark s.types part ≡ Some k → HasMarkFor s.types k
  part-marked part k e = by_mark (mark_at s.types part) refl e
    where
      by_mark : (o : Option Mark) → mark_at s.types part ≡ o → option_map (λ (m : Mark). m.kind) o ≡ Some k → HasMarkFor s.types k
      by_mark (Some x) p f = mark-there s.types part x k p (some_same f)
      by_mark None p f = absurd (none-some k f)

  index-marked : (r : Reading) (q : Option ℕ) (k : ℕ) → component_kind s.types r q ≡ Some k → HasMarkFor s.types k
  index-marked (AsArray index part) q k e = part-marked part k (if-same index q (kind_of_mark s.types part) k e)
  index-marked (AsScalar j) q k e = absurd (none-some k e)
  index-marked AsNoValue q k e = absurd (none-some k e)
  index-marked AsUnknown q k e = absurd (none-some k e)
  index-marked AsUnclear q k e = absurd (none-some k e)

  type-marked : (id : NameId) (j : ℕ) → scalar_kind (marking s id) ≡ Some j → HasMarkFor s.types j
  type-marked id j e = scalar-marked j (mark-of R s h.typed h.over id j e).scalar

  bound-marked : (id : NameId) (a : Attribute) (k : ℕ) → and_then (bound_kind a) (scalar_kind (marking s id)) ≡ Some k → HasMarkFor s.types k
  bound-marked id a k e = by_kind (scalar_kind (marking s id)) refl e
    where
      by_kind : (o : Option ℕ) → scalar_kind (marking s id) ≡ o → and_then (bound_kind a) o ≡ Some k → HasMarkFor s.types k
      by_kind (Some j) p f = subst (HasMarkFor s.types) (bound-same a j k f) (type-marked id j p)
      by_kind None p f = absurd (none-some k f)

  attribute-marked : (id : NameId) (a : Attribute) (q : Option ℕ) (k : ℕ) → attribute_kind a (scalar_kind (marking s id)) q ≡ Some k → HasMarkFor s.types k
  attribute-marked id a q k e = by_kind (scalar_kind (marking s id)) refl e
    where
      by_attribute : (a : Attribute) (j : ℕ) → scalar_kind (marking s id) ≡ Some j → function_kind a j ≡ Some k → HasMarkFor s.types k
      by_attribute Pos j p f = subst (HasMarkFor s.types) (some_same f) integer-marked
      by_attribute Val j p f = subst (HasMarkFor s.types) (some_same f) (type-marked id j p)
      by_attribute Succ j p f = subst (HasMarkFor s.types) (some_same f) (type-marked id j p)
      by_attribute Pred j p f = subst (HasMarkFor s.types) (some_same f) (type-marked id j p)
      by_attribute First j p f = absurd (none-some k f)
      by_attribute Last j p f = absurd (none-some k f)
      by_attribute Image j p f = absurd (none-some k f)
      by_attribute NoAttribute j p f = absurd (none-some k f)

      by_kind : (o : Option ℕ) → scalar_kind (marking s id) ≡ o → attribute_kind a o q ≡ Some k → HasMarkFor s.types k
      by_kind (Some j) p f = by_attribute a j p (if-same (argument_kind a j) q (function_kind a j) k f)
      by_kind None p f = absurd (none-some k f)

  one-marked : (op : UnaryOp) → HasMarkFor s.types (given_by (takes_one op))
  one-marked unary.Plus = integer-marked
  one-marked unary.Minus = integer-marked
  one-marked unary.Abs = integer-marked
  one-marked unary.Not = truth-marked

  two-marked : (op : BinaryOp) → HasMarkFor s.types (given_by (takes op))
  two-marked And = truth-marked
  two-marked Or = truth-marked
  two-marked Xor = truth-marked
  two-marked AndThen = truth-marked
  two-marked OrElse = truth-marked
  two-marked Equal = truth-marked
  two-marked NotEqual = truth-marked
  two-marked Less = truth-marked
  two-marked LessEqual = truth-marked
  two-marked Greater = truth-marked
  two-marked GreaterEqual = truth-marked
  two-marked Plus = integer-marked
  two-marked Minus = integer-marked
  two-marked Times = integer-marked
  two-marked Divide = integer-marked
  two-marked Mod = integer-marked
  two-marked Rem = integer-marked

  -- the kind of an expression has a mark
  kind-has-mark : (e : PExpr) (k : ℕ) → kind_of s e ≡ Some k → HasMarkFor s.types k
  kind-has-mark (EInteger n sp) k e = subst (HasMarkFor s.types) (some_same e) integer-marked
  kind-has-mark (EName id sp) k e = name-marked id k e
  kind-has-mark (EIndex w x sp) k e = index-marked (reading s w.name) (kind_of s x) k e
  kind-has-mark (EAttribute m w sp) k e = bound-marked m.name (attribute_of w.name) k e
  kind-has-mark (EAttributeOf m w x sp) k e = attribute-marked m.name (attribute_of w.name) (kind_of s x) k e
  kind-has-mark (EParen x sp) k e = kind-has-mark x k e
  kind-has-mark (EUnary op x sp) k e = subst (HasMarkFor s.types) (unary-given (takes_one op) (kind_of s x) k e) (one-marked op)
  kind-has-mark (EBinary op l r sp) k e = subst (HasMarkFor s.types) (are-taken (takes op) (kind_of s l) (kind_of s r) k e).given (two-marked op)

  -- and so has that of a discrete range
  range-has-mark : (r : PDrange) → AllByRecursion IsMet (drange_sites false s r) → (k : ℕ) × (drange_kind s r ≡ Some k) × HasMarkFor s.types k
  range-has-mark (RMarked x) met =
      let m = met.0 in
      let mark = scalar-mark s h.over.clear x.mark.name (test-holds (is_some (meaning s x.mark.name)) x.mark.span m.known) (test-holds (is_allowed scalar_only (marking s x.mark.name)) x.mark.span m.matched) in
      let e = ap scalar_kind mark.marks in
      (mark.leads.mark.kind, e, type-marked x.mark.name mark.leads.mark.kind e)
  range-has-mark (RGiven b) met =
      let f = expr_sites s b.first in
      let l = expr_sites s b.last in
      let order : List Site = site s (must_not_be_empty b.first b.last) ∷ [] in
      let h5 : AllByRecursion IsMet (f ++ [] ++ l ++ [] ++ order) = all_front IsMet (bounds_sites false s b) (site s (must_be_alike b.first b.last) ∷ []) met in
      let h4 : AllByRecursion IsMet (f ++ [] ++ l ++ []) = all_front IsMet (f ++ [] ++ l ++ []) order h5 in
      let h3 : AllByRecursion IsMet (f ++ [] ++ l) = all_front IsMet (f ++ [] ++ l) [] h4 in
      let h2 : AllByRecursion IsMet (f ++ []) = all_front IsMet (f ++ []) l h3 in
      let k = met-kind s h.over.clear b.first (all_front IsMet f [] h2) in
      (k.0, k.1, kind-has-mark b.first k.0 k.1)

-- the statements of a loop
pub loop-stands : (T : TypeTable) (s : Scope) (x : Option PScheme) → StandsWhole T s → AllByRecursion IsMet (if_there (scheme_sites s) x) → AreApart T (if_there (scheme_sites s) x) → StandsWhole T (loop_scope s x)
loop-stands T s None h met apart = h
loop-stands T s (Some (LWhile e)) h met apart = h
loop-stands T s (Some (LFor w b r)) h met apart =
    let q = range-has-mark T s h.stands r met.1 in
    let at = found_at (λ (m : Mark). m.kind == q.0) s.types.marks q.2.0 q.2.1 in
    let kind : HasKind s.types q.2.0.kind = place-all (λ (m : Mark). HasKind s.types m.kind) s.types.marks at.0 q.2.0 h.stands.over.clear.sound.marks at.2 in
    let is : and_then (first_mark_of s.types) (drange_kind s r) ≡ Some at.0 = ap (and_then (first_mark_of s.types)) q.1 ∙ at.1 in
    subst (λ o. StandsWhole T (with_name (loop_thing o) (inner_scope s) w)) (sym is)
    (one-stands T (LoopParameter at.0) w (inner_scope s) apart.0 (record { mark = q.2.0; there = at.2; kind = kind.0; known = kind.1 }) (λ j e. no-parameter at.0 j e) (inside-stands T s h))
  where
    no-parameter : (m j : ℕ) → LoopParameter m ≡ TypeMark j → ⊥
    no-parameter m j e = cc

-- Where an expression is static, of a kind and worth a value, the rules refuse nothing in it; so it is with static ranges and subtypes.
use Rattle.std.proofs.Common.{◌≡◌, ℕ, ◌==◌, ℤ, int_le, int_lt, ◌&&◌, not, ◌||◌, if◌then◌else◌, Bool, true, false, List, [], ◌∷◌, ◌++◌, map, Option, Some, None, is_some, IfSome, Ok, refl, sym, ap, ap₂, subst, ◌∙◌, true≢false, eqb-true, arith}
use Rattle.std.specs.List.{AllByRecursion}
use Rattle.std.proofs.lemmas.Int.{ints}
use Rattle.common_lemmas.proofs.Lists.{all_joined}
use Rattle.common_lemmas.proofs.Truth.{and_left, and_right}
use Rattle.ada_tree.specs.declared.naming.NameId.{NameId}
use Rattle.ada_tree.specs.declared.naming.Span.{Span}
use Rattle.ada_tree.specs.declared.naming.Word.{Word}
use Rattle.ada_tree.specs.declared.statements.ParMode.TheVariants.{Take, Give, Both}
use Rattle.ada_tree.specs.TypeTable.{TypeTable}
use Rattle.ada_tree.specs.Attributes.{Attribute, First, Last, Pos, Val, Succ, Pred, Image, NoAttribute, attribute_of, is_bound, is_function, is_image}
use Rattle.ada_tree.specs.PlainExpr.{PExpr, EInteger, EName, EIndex, EAttribute, EAttributeOf, EParen, EUnary, EBinary, PBounds, PSubind, PDrange, RGiven, RMarked}
use Rattle.ada_static_rules.specs.Scope.{Scope, Thing, TypeMark, TaskType, SingleTask, TaskObject, TaskArray, Variable, ConstantObject, Parameter, LoopParameter, Literal, AnException, MainProcedure, AnotherUnit, Unclear, Reading, AsScalar, AsArray, AsNoValue, AsUnknown, AsUnclear, Marking, ScalarMark, ArrayMark, TaskMark, NoMark, UnknownMark, UnclearMark, and_then, meaning, reading, reading_of, marking, marking_of, scalar_kind}
use Rattle.ada_static_rules.specs.ExprTypes.{nodes, kind_of, expr_place, name_kind, Operand, takes, takes_one, is_taken, given_by, unary_kind, argument_kind, function_kind, bound_kind, if_kind, attribute_kind, is_other_kind}
use Rattle.ada_static_rules.specs.StaticValue.{is_static, keeps_static, value_of, mark_named}
use Rattle.ada_static_rules.specs.Demand.{scalar_only, node, must_be_of, must_be_static, must_be_alike, must_not_be_empty, Site}
use Rattle.ada_static_rules.specs.Sites.{site, if_there, expr_sites, expr_of, static_of, bounds_sites, constraint_sites, mark_sites, subind_sites, drange_sites}
use Rattle.ada_static_rules.specs.RuleUnknown.{no_attribute}
use Rattle.ada_static_rules.specs.RuleMismatch.{of_other_kind, no_value, is_allowed, wrong_mark, misfit_argument, is_misfit, misfit_operand}
use Rattle.ada_static_rules.specs.RuleRangeBad.{is_fixed, raised, raises, is_below, empty_range}
use Rattle.ada_static_rules.specs.RuleReadOut.{out_formal}
use Rattle.ada_static_rules.specs.RuleArgCount.{at_place}
use Rattle.ada_static_rules.specs.RuleArrayUse.{whole_array}
use Rattle.task_laws.proofs.legal.types.ExprKinds.{IsScalarMark}
use Rattle.task_laws.proofs.legal.types.StaticParts.{IsStaticIn, static-told, AreBounds, HasSubtype, HasRange}
use Rattle.task_laws.proofs.legal.types.TypedValues.{are-taken}
use Rattle.task_laws.specs.legal.alike_scopes.Laws.{IsMetBut}
use Rattle.normal_laws.proofs.structure.typed.Places.{met-whole, met-node, met-of, met-static}
use Rattle.normal_laws.proofs.structure.typed.Variables.{AllMetBut, of-kind}

-- ---- names, marks and attributes that have a kind

-- a name with a kind is no whole array and stands for a value
record IsValued (r : Reading) (s : Span) : Type 0 where
  value : no_value r s ≡ []
  whole : whole_array r s ≡ []

valued-name : (r : Reading) (k : ℕ) (s : Span) → name_kind r ≡ Some k → IsValued r s
valued-name (AsScalar j) k s e = record { value = refl; whole = refl }
valued-name (AsArray i p) k s e = cc
valued-name AsNoValue k s e = cc
valued-name AsUnknown k s e = cc
valued-name AsUnclear k s e = cc

seen-name : (T : TypeTable) (o : Option Thing) (k : ℕ) → name_kind (reading_of T o) ≡ Some k → is_some o ≡ true
seen-name T (Some x) k e = refl
seen-name T None k e = cc

seen-mark : (T : TypeTable) (o : Option Thing) (i j : ℕ) → marking_of T o ≡ ScalarMark i j → is_some o ≡ true
seen-mark T (Some x) i j e = refl
seen-mark T None i j e = cc

-- what is told of an attribute without an argument, and of its mark
record IsBoundOf (a : Attribute) (m : Marking) (s : Span) : Type 0 where
  place : ℕ
  kind : ℕ
  mark : m ≡ ScalarMark place kind
  known : no_attribute a s ≡ []
  counted : at_place (is_function a) s ≡ []
  text : is_image a ≡ false

bound-of : (a : Attribute) (m : Marking) (k : ℕ) (s : Span) → and_then (bound_kind a) (scalar_kind m) ≡ Some k → IsBoundOf a m s
bound-of First (ScalarMark i j) k s e = record { place = i; kind = j; mark = refl; known = refl; counted = refl; text = refl }
bound-of Last (ScalarMark i j) k s e = record { place = i; kind = j; mark = refl; known = refl; counted = refl; text = refl }
bound-of Pos (ScalarMark i j) k s e = cc
bound-of Val (ScalarMark i j) k s e = cc
bound-of Succ (ScalarMark i j) k s e = cc
bound-of Pred (ScalarMark i j) k s e = cc
bound-of Image (ScalarMark i j) k s e = cc
bound-of NoAttribute (ScalarMark i j) k s e = cc
bound-of a (ArrayMark i r p) k s e = cc
bound-of a (TaskMark es) k s e = cc
bound-of a NoMark k s e = cc
bound-of a UnknownMark k s e = cc
bound-of a UnclearMark k s e = cc

-- and of one with an argument, which has that kind
record IsFunctionOf (a : Attribute) (m : Marking) (o : Option ℕ) (s : Span) : Type 0 where
  place : ℕ
  kind : ℕ
  mark : m ≡ ScalarMark place kind
  argument : ℕ
  is : o ≡ Some argument
  same : (argument_kind a kind == argument) ≡ true
  known : no_attribute a s ≡ []
  counted : at_place (is_bound a) s ≡ []
  text : is_image a ≡ false

argument-there : (q : ℕ) (o r : Option ℕ) (k : ℕ) → if_kind q o r ≡ Some k → (j : ℕ) × (o ≡ Some j) × ((q == j) ≡ true) × (r ≡ Some k)
argument-there q None r k e = cc
argument-there q (Some j) r k e = by_test (q == j) refl e
  where
    by_test : (b : Bool) → (q == j) ≡ b → (if b then r else None) ≡ Some k → (i : ℕ) × (Some j ≡ Some i) × ((q == i) ≡ true) × (r ≡ Some k)
    by_test true f g = (j, refl, f, g)
    by_test false f g = cc

function-of : (a : Attribute) (m : Marking) (o : Option ℕ) (k : ℕ) (s : Span) → attribute_kind a (scalar_kind m) o ≡ Some k → IsFunctionOf a m o s
function-of a (ScalarMark i j) o k s e =
    let h = argument-there (argument_kind a j) o (function_kind a j) k e in
    let b = by_attribute a h.3 in
    record { place = i; kind = j; mark = refl; argument = h.0; is = h.1; same = h.2; known = b.0; counted = b.1; text = b.2 }
  where
    by_attribute : (a : Attribute) → function_kind a j ≡ Some k → (no_attribute a s ≡ []) × (at_place (is_bound a) s ≡ []) × (is_image a ≡ false)
    by_attribute Pos f = (refl, refl, refl)
    by_attribute Val f = (refl, refl, refl)
    by_attribute Succ f = (refl, refl, refl)
    by_attribute Pred f = (refl, refl, refl)
    by_attribute First f = cc
    by_attribute Last f = cc
    by_attribute Image f = cc
    by_attribute NoAttribute f = cc
function-of a (ArrayMark i r p) o k s e = cc
function-of a (TaskMark es) o k s e = cc
function-of a NoMark o k s e = cc
function-of a UnknownMark o k s e = cc
function-of a UnclearMark o k s e = cc

unary-there : (o : Operand) (q : Option ℕ) (k : ℕ) → unary_kind o q ≡ Some k → (j : ℕ) × (q ≡ Some j) × (is_misfit o q ≡ false)
unary-there o None k e = cc
unary-there o (Some j) k e = by_test (is_taken o j) refl e
  where
    by_test : (b : Bool) → is_taken o j ≡ b → (if b then Some (given_by o) else None) ≡ Some k → (i : ℕ) × (Some j ≡ Some i) × (is_misfit o (Some j) ≡ false)
    by_test true f g = (j, refl, ap not f)
    by_test false f g = cc

right-taken : (o : Operand) (i j : ℕ) → is_taken o i ≡ true → (i == j) ≡ true → is_taken o j ≡ true
right-taken o i j e f = subst (λ n. is_taken o n ≡ true) (eqb-true i j f) e

-- a name that is no formal of mode out is read
unread : (o : Option Thing) (s : Span) → ((m : ℕ) → o ≡ Some (Parameter Give m) → ⊥) → out_formal o s ≡ []
unread None s h = refl
unread (Some (TypeMark m)) s h = refl
unread (Some (TaskType es)) s h = refl
unread (Some (SingleTask es)) s h = refl
unread (Some (TaskObject es)) s h = refl
unread (Some (TaskArray range es)) s h = refl
unread (Some (Variable m)) s h = refl
unread (Some (ConstantObject m)) s h = refl
unread (Some (Parameter Take m)) s h = refl
unread (Some (Parameter Give m)) s h = absurd (h m refl)
unread (Some (Parameter Both m)) s h = refl
unread (Some (LoopParameter m)) s h = refl
unread (Some (Literal k)) s h = refl
unread (Some AnException) s h = refl
unread (Some MainProcedure) s h = refl
unread (Some AnotherUnit) s h = refl
unread (Some Unclear) s h = refl

abbrev none_told : List Span
none_told = []

both-none : (b : Bool) → (if b then none_told else none_told) ≡ none_told
both-none true = refl
both-none false = refl

-- no name is a formal of mode out
abbrev pub NoneIsOut : Scope → Type 0
NoneIsOut t = (id : NameId) (m : ℕ) → meaning t id ≡ Some (Parameter Give m) → ⊥

module _ (t : Scope) (free : NoneIsOut t) where
  abbrev IsMetNode : PExpr → Type 0
  IsMetNode n = IsMetBut (site t (node false n))

  mark-fits : (w : Word) (i j : ℕ) → marking t w.name ≡ ScalarMark i j → wrong_mark scalar_only t w ≡ []
  mark-fits w i j e = ap (λ m. if is_allowed scalar_only m then [] else w.span ∷ []) e

  mark-seen : (w : Word) (i j : ℕ) → marking t w.name ≡ ScalarMark i j → (if is_some (meaning t w.name) then [] else w.span ∷ []) ≡ []
  mark-seen w i j e = ap (λ b. if b then [] else w.span ∷ []) (seen-mark t.types (meaning t w.name) i j e)

  -- ---- nodes

  nodes-met : (e : PExpr) (k : ℕ) → kind_of t e ≡ Some k → is_static t.types e ≡ true → AllByRecursion IsMetNode (nodes e)
  nodes-met (EInteger n s) k h st = (met-node t false (EInteger n s) record { known = refl; matched = refl; readable = refl; counted = refl; arrays = refl; texts = refl }, tt)
  nodes-met (EName id s) k h st =
      let v = valued-name (reading t id) k s h in (
        met-node t false (EName id s) record {
          known = ap (λ b. if b then [] else s ∷ []) (seen-name t.types (meaning t id) k h);
          matched = v.value;
          readable = unread (meaning t id) s (free id);
          counted = refl;
          arrays = v.whole;
          texts = refl;
        },
        tt,
      )
  nodes-met (EIndex w e s) k h st = absurd (true≢false (sym st))
  nodes-met (EAttribute m w s) k h st =
      let b = bound-of (attribute_of w.name) (marking t m.name) k w.span h in (
        met-node t false (EAttribute m w s) record {
          known = ap₂ (λ x y. x ++ y) (mark-seen m b.place b.kind b.mark) b.known;
          matched = mark-fits m b.place b.kind b.mark;
          readable = refl;
          counted = b.counted;
          arrays = refl;
          texts = ap (λ x. if x then s ∷ [] else []) b.text;
        },
        tt,
      )
  nodes-met (EAttributeOf m w e s) k h st =
      let b = function-of (attribute_of w.name) (marking t m.name) (kind_of t e) k w.span h in
      let static : is_static t.types e ≡ true = and_right (keeps_static (attribute_of w.name) && is_some (mark_named t.types m.name)) (is_static t.types e) st in
      let other : is_other_kind (Some (argument_kind (attribute_of w.name) b.kind)) (kind_of t e) ≡ false = ap (is_other_kind (Some (argument_kind (attribute_of w.name) b.kind))) b.is ∙ ap (λ x. if x then false else true) b.same in
      let fits : misfit_argument t (attribute_of w.name) (scalar_kind (marking t m.name)) e ≡ [] =
      (ap (λ x. misfit_argument t (attribute_of w.name) (scalar_kind x) e) b.mark ∙ ap (λ x. if is_function (attribute_of w.name) then (if x then expr_place e ∷ [] else []) else []) other ∙ both-none (is_function (attribute_of w.name))) in (
        met-node t false (EAttributeOf m w e s) record {
          known = ap₂ (λ x y. x ++ y) (mark-seen m b.place b.kind b.mark) b.known;
          matched = ap₂ (λ x y. x ++ y) (mark-fits m b.place b.kind b.mark) fits;
          readable = refl;
          counted = b.counted;
          arrays = refl;
          texts = ap (λ x. if x then s ∷ [] else []) b.text;
        },
        nodes-met e b.argument b.is static,
      )
  nodes-met (EParen e s) k h st = (met-node t false (EParen e s) record { known = refl; matched = refl; readable = refl; counted = refl; arrays = refl; texts = refl }, nodes-met e k h st)
  nodes-met (EUnary op e s) k h st =
      let u = unary-there (takes_one op) (kind_of t e) k h in (
        met-node t false (EUnary op e s) record { known = refl; matched = ap (λ x. if x then expr_place e ∷ [] else []) u.2; readable = refl; counted = refl; arrays = refl; texts = refl },
        nodes-met e u.0 u.1 st,
      )
  nodes-met (EBinary op l r s) k h st =
      let b = are-taken (takes op) (kind_of t l) (kind_of t r) k h in
      let right : is_taken (takes op) b.right ≡ true = right-taken (takes op) b.left b.right b.taken b.same in
      let fits : misfit_operand (takes op) (kind_of t l) (kind_of t r) l r ≡ [] =
      (ap₂ (λ x y. misfit_operand (takes op) x y l r) b.first b.second
      ∙ ap₂ (λ x y. if not x then expr_place l ∷ [] else if not y || (if b.left == b.right then false else true) then expr_place r ∷ [] else []) b.taken right ∙ ap (λ x. if (if x then false else true) then expr_place r ∷ [] else []) b.same) in (
        met-node t false (EBinary op l r s) record { known = refl; matched = fits; readable = refl; counted = refl; arrays = refl; texts = refl },
        all_joined IsMetNode (nodes l) (nodes r) (nodes-met l b.left b.first (and_left (is_static t.types l) (is_static t.types r) st)) (nodes-met r b.right b.second (and_right (is_static t.types l) (is_static t.types r) st)),
      )

  nodes-mapped : (ns : List PExpr) → AllByRecursion IsMetNode ns → AllMetBut (map (λ n. site t (node false n)) ns)
  nodes-mapped [] h = tt
  nodes-mapped (n ∷ ns) h = (h.0, nodes-mapped ns h.1)

  -- ---- expressions

  fixed-none : (e : PExpr) (k : ℕ) (z : ℤ) (ys : List Span) → kind_of t e ≡ Some k → is_static t.types e ≡ true → value_of t.types e ≡ Ok z → (if is_fixed t e then raised (value_of t.types e) else ys) ≡ []
  fixed-none e k z ys h st v = ap₂ (λ o b. if is_some o && b then raised (value_of t.types e) else ys) h st ∙ ap raised v

  none-raised : (e : PExpr) (k : ℕ) (z : ℤ) → kind_of t e ≡ Some k → is_static t.types e ≡ true → value_of t.types e ≡ Ok z → raises t e ≡ []
  none-raised (EInteger n s) k z h st v = refl
  none-raised (EName id s) k z h st v = refl
  none-raised (EIndex w e s) k z h st v = absurd (true≢false (sym st))
  none-raised (EAttribute m w s) k z h st v = refl
  none-raised (EAttributeOf m w e s) k z h st v = fixed-none (EAttributeOf m w e s) k z (raises t e) h st v
  none-raised (EParen e s) k z h st v = none-raised e k z h st v
  none-raised (EUnary op e s) k z h st v = fixed-none (EUnary op e s) k z (raises t e) h st v
  none-raised (EBinary op l r s) k z h st v = fixed-none (EBinary op l r s) k z (raises t l ++ raises t r) h st v

  pub fixed-met : (k : ℕ) (e : PExpr) → IsStaticIn t k e → AllMetBut (expr_sites t e)
  fixed-met k e h = (met-whole t e (none-raised e k h.value h.kind h.static h.worth), nodes-mapped (nodes e) (nodes-met e k h.kind h.static))

  must-static : (k : ℕ) (e : PExpr) → IsStaticIn t k e → IsMetBut (site t (must_be_static e))
  must-static k e h = met-static t e (ap₂ (λ o b. if is_some o && not b then expr_place e ∷ [] else []) h.kind h.static)

  must-of : (k : ℕ) (e : PExpr) → IsStaticIn t k e → IsMetBut (site t (must_be_of e (Some k)))
  must-of k e h = met-of t e (Some k) (of-kind t e k h.kind)

  pub static-of-met : (k : ℕ) (e : PExpr) → IsStaticIn t k e → AllMetBut (static_of t (Some k) e)
  static-of-met k e h =
      all_joined IsMetBut (expr_of t (Some k) e) (site t (must_be_static e) ∷ []) (all_joined IsMetBut (expr_sites t e) (site t (must_be_of e (Some k)) ∷ []) (fixed-met k e h) (must-of k e h, tt)) (must-static k e h, tt)

  -- ---- ranges

  in-order : (f l : ℤ) → int_le f l ≡ true → int_lt l f ≡ false
  in-order f l h = grind (arith, ints)

  not-empty : (k : ℕ) (b : PBounds) (f : IsStaticIn t k b.first) (l : IsStaticIn t k b.last) → int_le f.value l.value ≡ true → IsMetBut (site t (must_not_be_empty b.first b.last))
  not-empty k b f l o = record {
    known = refl;
    matched = refl;
    static = refl;
    ranged = ap (empty_range t b.first b.last) f.kind ∙ ap₂ (λ x y. if is_below x y then expr_place b.first ∷ [] else []) (static-told t k b.last l) (static-told t k b.first f)
        ∙ ap (λ x. if x then expr_place b.first ∷ [] else []) (in-order f.value l.value o);
    variable = refl;
    readable = refl;
    counted = refl;
    chosen = refl;
    arrays = refl;
    texts = refl;
    exceptions = refl;
  }

  bounds-are-met : (k : ℕ) (b : PBounds) (f : IsStaticIn t k b.first) (l : IsStaticIn t k b.last) → int_le f.value l.value ≡ true → AllMetBut (bounds_sites true t b)
  bounds-are-met k b f l o =
      let x = expr_sites t b.first in
      let y = expr_sites t b.last in
      let xs : List Site = site t (must_be_static b.first) ∷ [] in
      let ys : List Site = site t (must_be_static b.last) ∷ [] in
      let end : List Site = site t (must_not_be_empty b.first b.last) ∷ [] in
      all_joined IsMetBut (x ++ xs ++ y ++ ys) end
      (all_joined IsMetBut (x ++ xs ++ y) ys (all_joined IsMetBut (x ++ xs) y (all_joined IsMetBut x xs (fixed-met k b.first f) (must-static k b.first f, tt)) (fixed-met k b.last l)) (must-static k b.last l, tt)) (not-empty k b f l o, tt)

  constraints-met : (k : ℕ) (b : PBounds) → AreBounds t k b → AllMetBut (constraint_sites true t (Some k) b)
  constraints-met k b h = all_joined IsMetBut (bounds_sites true t b) (site t (must_be_of b.first (Some k)) ∷ site t (must_be_of b.last (Some k)) ∷ []) (bounds-are-met k b h.0 h.1 h.2) (must-of k b.first h.0, (must-of k b.last h.1, tt))

  pub mark-met : (w : Word) → IsScalarMark t w.name → AllMetBut (mark_sites scalar_only t w)
  mark-met w h = (
    record {
      known = mark-seen w h.place h.leads.mark.kind h.marks;
      matched = mark-fits w h.place h.leads.mark.kind h.marks;
      static = refl;
      ranged = refl;
      variable = refl;
      readable = refl;
      counted = refl;
      chosen = refl;
      arrays = refl;
      texts = refl;
      exceptions = refl;
    },
    tt,
  )

  pub subind-is-met : (x : PSubind) → HasSubtype t x → AllMetBut (subind_sites true scalar_only t x)
  subind-is-met x h = all_joined IsMetBut (mark_sites scalar_only t x.mark) (if_there (constraint_sites true t (scalar_kind (marking t x.mark.name))) x.bounds) (mark-met x.mark h.mark) (by_bounds x.bounds h.bounds)
    where
      by_bounds : (o : Option PBounds) → IfSome o (AreBounds t h.mark.leads.mark.kind) → AllMetBut (if_there (constraint_sites true t (scalar_kind (marking t x.mark.name))) o)
      by_bounds None b = tt
      by_bounds (Some b) q = subst (λ k. AllMetBut (constraint_sites true t k b)) (sym (ap scalar_kind h.mark.marks)) (constraints-met h.mark.leads.mark.kind b q)

  pub drange-is-met : (r : PDrange) → HasRange t r → AllMetBut (drange_sites true t r)
  drange-is-met (RMarked x) h = subind-is-met x h
  drange-is-met (RGiven b) h =
      let alike : IsMetBut (site t (must_be_alike b.first b.last)) = record {
        known = refl;
        matched = ap (λ o. of_other_kind t o b.last) h.first.kind ∙ of-kind t b.last h.kind h.last.kind;
        static = refl;
        ranged = refl;
        variable = refl;
        readable = refl;
        counted = refl;
        chosen = refl;
        arrays = refl;
        texts = refl;
        exceptions = refl;
      } in
      all_joined IsMetBut (bounds_sites true t b) (site t (must_be_alike b.first b.last) ∷ []) (bounds-are-met h.kind b h.first h.last h.order) (alike, tt)

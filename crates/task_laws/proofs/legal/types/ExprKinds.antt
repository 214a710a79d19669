-- Where nothing is refused in an expression, it has a kind.
use Rattle.std.proofs.Common.{◌≡◌, ℕ, Bool, true, false, not, ◌&&◌, ◌||◌, ◌==◌, if◌then◌else◌, [], ◌∷◌, is_some, option_map, Some, None, refl, sym, ap, ap₂, ◌∙◌, subst, true≢false}
use Rattle.std.specs.List.{AllByRecursion}
use Rattle.ada_tree.specs.declared.naming.NameId.{NameId}
use Rattle.ada_tree.specs.declared.naming.Span.{Span}
use Rattle.ada_tree.specs.declared.static_types.Kind.{Kind}
use Rattle.ada_tree.specs.declared.static_types.Kind.TheVariants.{Integer, Truth, Enumeration, Array}
use Rattle.ada_tree.specs.declared.static_types.Mark.{Mark}
use Rattle.ada_tree.specs.TypeTable.{TypeTable}
use Rattle.ada_tree.specs.PlainExpr.{PExpr, EInteger, EName, EIndex, EAttribute, EAttributeOf, EParen, EUnary, EBinary}
use Rattle.ada_tree.specs.Attributes.{Attribute, First, Last, Pos, Val, Succ, Pred, Image, NoAttribute, attribute_of, is_bound, is_function, is_image}
use Rattle.ada_static_rules.specs.Scope.{Scope, integer_kind, Thing, TypeMark, TaskType, SingleTask, TaskObject, TaskArray, Variable, ConstantObject, Parameter, LoopParameter, Literal, AnException, MainProcedure, AnotherUnit, Unclear, meaning, kind_at, mark_at, and_then, Reading, AsScalar, AsArray, AsNoValue, AsUnknown, AsUnclear, reading_of_kind, reading_of_mark, reading_of, reading, ScalarMark, marking_of_kind, marking_of_mark, marking_of, marking, scalar_kind, kind_of_mark}
use Rattle.ada_static_rules.specs.ExprTypes.{nodes, Operand, takes, takes_one, is_taken, given_by, unary_kind, binary_kind, argument_kind, function_kind, bound_kind, if_kind, name_kind, component_kind, attribute_kind, kind_of, is_other_kind, expr_place}
use Rattle.ada_static_rules.specs.Demand.{scalar_only, node}
use Rattle.ada_static_rules.specs.Sites.{site}
use Rattle.ada_static_rules.specs.RuleUnknown.{unseen_word, no_attribute}
use Rattle.ada_static_rules.specs.RuleMismatch.{of_other_kind, no_value, misfit_index, is_allowed, wrong_mark, misfit_argument, is_misfit, misfit_operand}
use Rattle.ada_static_rules.specs.RuleArgCount.{index_on_scalar, at_place}
use Rattle.ada_static_rules.specs.RuleArrayUse.{whole_array}
use Rattle.task_laws.specs.legal.rewritten_types.Agreement.{HasMark, HasPart, IsScalar, Sound}
use Rattle.task_laws.proofs.legal.rewritten_types.Lookups.{place-all}
use Rattle.task_laws.specs.legal.sites.Met.{IsMet}
use Rattle.common_lemmas.proofs.Lists.{all_back, all_front, back_empty, front_empty, not_empty}
use Rattle.common_lemmas.proofs.Options.{some_there}
use Rattle.task_laws.proofs.legal.sites.Around.{test-fails, test-holds}

-- ---- what a scope tells

-- a mark that is there, of a kind that is there
pub record LeadsOn (T : TypeTable) (m : ℕ) : Type 0 where
  pub mark : Mark
  pub there : mark_at T m ≡ Some mark
  pub kind : Kind
  pub known : kind_at T mark.kind ≡ Some kind

-- what a thing leads to is there, and its declaration is not refused
abbrev pub IsClearThing : TypeTable → Thing → Type 0
IsClearThing T (TypeMark m) = LeadsOn T m
IsClearThing T (TaskType entries) = Unit {0}
IsClearThing T (SingleTask entries) = Unit {0}
IsClearThing T (TaskObject entries) = Unit {0}
IsClearThing T (TaskArray range entries) = Unit {0}
IsClearThing T (Variable m) = LeadsOn T m
IsClearThing T (ConstantObject m) = LeadsOn T m
IsClearThing T (Parameter mode m) = LeadsOn T m
IsClearThing T (LoopParameter m) = LeadsOn T m
IsClearThing T (Literal k) = IsScalar T k
IsClearThing T AnException = Unit {0}
IsClearThing T MainProcedure = Unit {0}
IsClearThing T AnotherUnit = Unit {0}
IsClearThing T Unclear = ⊥

-- So it is with whatever a name means, and the table leads nowhere out of it.
pub record IsClear (s : Scope) : Type 0 where
  pub sound : Sound s.types
  pub things : (id : NameId) (x : Thing) → meaning s id ≡ Some x → IsClearThing s.types x

-- nothing is refused at the parts of an expression
abbrev pub AreMetNodes : Scope → PExpr → Type 0
AreMetNodes s e = AllByRecursion (λ n. IsMet (site s (node false n))) (nodes e)

-- ---- tests

-- two numbers of which a test says that they are no other ones
pub same-kind : (k j : ℕ) → is_other_kind (Some k) (Some j) ≡ false → (k == j) ≡ true
same-kind k j e = by_test (k == j) e
  where
    by_test : (b : Bool) → (if b then false else true) ≡ false → b ≡ true
    by_test true f = refl
    by_test false f = absurd (true≢false f)

-- ---- readings

-- a value of a mark is a scalar or an array
abbrev Reads : TypeTable → Reading → Type 0
Reads T (AsScalar k) = Unit {0}
Reads T (AsArray index part) = HasMark T part
Reads T AsNoValue = Unit {0}
Reads T AsUnknown = ⊥
Reads T AsUnclear = ⊥

kind-reads : (T : TypeTable) (k : ℕ) (x : Kind) → HasPart T x → Reads T (reading_of_kind k (Some x))
kind-reads T k (Array index first last part) h = h
kind-reads T k Integer h = tt
kind-reads T k Truth h = tt
kind-reads T k (Enumeration names) h = tt

mark-reads : (T : TypeTable) → Sound T → (m : ℕ) → LeadsOn T m → Reads T (reading_of_mark T (mark_at T m))
mark-reads T sound m h =
    subst (λ o. Reads T (reading_of_mark T o)) (sym h.there)
    (subst (λ o. Reads T (reading_of_kind h.mark.kind o)) (sym h.known)
    (kind-reads T h.mark.kind h.kind (place-all (HasPart T) T.kinds h.mark.kind h.kind sound.kinds h.known)))

thing-reads : (T : TypeTable) → Sound T → (x : Thing) → IsClearThing T x → Reads T (reading_of T (Some x))
thing-reads T sound (Variable m) h = mark-reads T sound m h
thing-reads T sound (ConstantObject m) h = mark-reads T sound m h
thing-reads T sound (Parameter mode m) h = mark-reads T sound m h
thing-reads T sound (LoopParameter m) h = mark-reads T sound m h
thing-reads T sound (Literal k) h = tt
thing-reads T sound (TypeMark m) h = tt
thing-reads T sound (TaskType entries) h = tt
thing-reads T sound (SingleTask entries) h = tt
thing-reads T sound (TaskObject entries) h = tt
thing-reads T sound (TaskArray range entries) h = tt
thing-reads T sound AnException h = tt
thing-reads T sound MainProcedure h = tt
thing-reads T sound AnotherUnit h = tt
thing-reads T sound Unclear h = absurd h

-- a scalar mark
kind-marks : (m k : ℕ) (x : Kind) → is_allowed scalar_only (marking_of_kind m k (Some x)) ≡ true → marking_of_kind m k (Some x) ≡ ScalarMark m k
kind-marks m k (Array index first last part) e = absurd (true≢false (sym e))
kind-marks m k Integer e = refl
kind-marks m k Truth e = refl
kind-marks m k (Enumeration names) e = refl

-- what a scalar mark is: the type or subtype of that place
pub record IsScalarMark (s : Scope) (id : NameId) : Type 0 where
  pub place : ℕ
  pub leads : LeadsOn s.types place
  pub means : meaning s id ≡ Some (TypeMark place)
  pub marks : marking s id ≡ ScalarMark place leads.mark.kind

module _ (s : Scope) (clear : IsClear s) where
  pub thing-of : (id : NameId) → is_some (meaning s id) ≡ true → (x : Thing) × (meaning s id ≡ Some x) × IsClearThing s.types x
  thing-of id e = let x = some_there (meaning s id) e in (x.0, x.1, clear.things id x.0 x.1)

  name-reads : (id : NameId) → is_some (meaning s id) ≡ true → Reads s.types (reading s id)
  name-reads id e = let x = thing-of id e in subst (λ o. Reads s.types (reading_of s.types o)) (sym x.1) (thing-reads s.types clear.sound x.0 x.2)

  thing-marks : (id : NameId) (x : Thing) → meaning s id ≡ Some x → IsClearThing s.types x → is_allowed scalar_only (marking_of s.types (Some x)) ≡ true → IsScalarMark s id
  thing-marks id (TypeMark m) f h e =
      let T = s.types in
      let there : marking_of_mark T m (mark_at T m) ≡ marking_of_kind m h.mark.kind (Some h.kind) = ap (marking_of_mark T m) h.there ∙ ap (marking_of_kind m h.mark.kind) h.known in
      record {
        place = m;
        leads = h;
        means = f;
        marks = ap (marking_of T) f ∙ there ∙ kind-marks m h.mark.kind h.kind (ap (is_allowed scalar_only) (sym there) ∙ e);
      }
  thing-marks id (TaskType entries) f h e = absurd (true≢false (sym e))
  thing-marks id (SingleTask entries) f h e = absurd (true≢false (sym e))
  thing-marks id (TaskObject entries) f h e = absurd (true≢false (sym e))
  thing-marks id (TaskArray range entries) f h e = absurd (true≢false (sym e))
  thing-marks id (Variable m) f h e = absurd (true≢false (sym e))
  thing-marks id (ConstantObject m) f h e = absurd (true≢false (sym e))
  thing-marks id (Parameter mode m) f h e = absurd (true≢false (sym e))
  thing-marks id (LoopParameter m) f h e = absurd (true≢false (sym e))
  thing-marks id (Literal k) f h e = absurd (true≢false (sym e))
  thing-marks id AnException f h e = absurd (true≢false (sym e))
  thing-marks id MainProcedure f h e = absurd (true≢false (sym e))
  thing-marks id AnotherUnit f h e = absurd (true≢false (sym e))
  thing-marks id Unclear f h e = absurd h

  -- a mark that is declared and allowed where only scalar ones are
  pub scalar-mark : (id : NameId) → is_some (meaning s id) ≡ true → is_allowed scalar_only (marking s id) ≡ true → IsScalarMark s id
  scalar-mark id e a = let x = thing-of id e in thing-marks id x.0 x.1 x.2 (ap (λ o. is_allowed scalar_only (marking_of s.types o)) (sym x.1) ∙ a)

  -- ---- nodes

  scalar-read : (r : Reading) (sp : Span) → Reads s.types r → no_value r sp ≡ [] → whole_array r sp ≡ [] → (k : ℕ) × (name_kind r ≡ Some k)
  scalar-read (AsScalar k) sp h e f = (k, refl)
  scalar-read (AsArray index part) sp h e f = absurd (not_empty sp [] f)
  scalar-read AsNoValue sp h e f = absurd (not_empty sp [] e)
  scalar-read AsUnknown sp h e f = absurd h
  scalar-read AsUnclear sp h e f = absurd h

  component-read : (r : Reading) (sp : Span) (e : PExpr) (k : ℕ) → kind_of s e ≡ Some k → Reads s.types r → no_value r sp ≡ [] → index_on_scalar r sp ≡ [] →
      ((index part : ℕ) → r ≡ AsArray index part → is_other_kind (Some index) (kind_of s e) ≡ false) → (j : ℕ) × (component_kind s.types r (kind_of s e) ≡ Some j)
  component-read (AsScalar j) sp e k q h f g fits = absurd (not_empty sp [] g)
  component-read (AsArray index part) sp e k q h f g fits =
      let same : (index == k) ≡ true = same-kind index k (ap (is_other_kind (Some index)) (sym q) ∙ fits index part refl) in (
        h.0.kind,
        ap (λ o. if_kind index o (kind_of_mark s.types part)) q ∙ ap (λ b. if b then kind_of_mark s.types part else None) same ∙ ap (option_map (λ (m : Mark). m.kind)) h.1,
      )
  component-read AsNoValue sp e k q h f g fits = absurd (not_empty sp [] f)
  component-read AsUnknown sp e k q h f g fits = absurd h
  component-read AsUnclear sp e k q h f g fits = absurd h

-- an attribute that is one and takes no argument
bound-has : (a : Attribute) (k : ℕ) (sp : Span) → no_attribute a sp ≡ [] → at_place (is_function a) sp ≡ [] → bound_kind a k ≡ Some k
bound-has First k sp e f = refl
bound-has Last k sp e f = refl
bound-has Pos k sp e f = absurd (not_empty sp [] f)
bound-has Val k sp e f = absurd (not_empty sp [] f)
bound-has Succ k sp e f = absurd (not_empty sp [] f)
bound-has Pred k sp e f = absurd (not_empty sp [] f)
bound-has Image k sp e f = absurd (not_empty sp [] f)
bound-has NoAttribute k sp e f = absurd (not_empty sp [] e)

-- one that takes an argument and gives a value
function-has : (a : Attribute) (k : ℕ) (sp : Span) → no_attribute a sp ≡ [] → at_place (is_bound a) sp ≡ [] → is_image a ≡ false → (is_function a ≡ true) × ((j : ℕ) × (function_kind a k ≡ Some j))
function-has First k sp e f g = absurd (not_empty sp [] f)
function-has Last k sp e f g = absurd (not_empty sp [] f)
function-has Pos k sp e f g = (refl, (integer_kind, refl))
function-has Val k sp e f g = (refl, (k, refl))
function-has Succ k sp e f g = (refl, (k, refl))
function-has Pred k sp e f g = (refl, (k, refl))
function-has Image k sp e f g = absurd (true≢false g)
function-has NoAttribute k sp e f g = absurd (not_empty sp [] e)

-- an operand that fits its operator
unary-has : (o : Operand) (k : ℕ) → is_misfit o (Some k) ≡ false → unary_kind o (Some k) ≡ Some (given_by o)
unary-has o k e = by_test (is_taken o k) e
  where
    by_test : (b : Bool) → not b ≡ false → (if b then Some (given_by o) else None) ≡ Some (given_by o)
    by_test true f = refl
    by_test false f = absurd (true≢false f)

-- two operands that fit their operator
binary-has : (o : Operand) (k j : ℕ) (l r : PExpr) → misfit_operand o (Some k) (Some j) l r ≡ [] → binary_kind o (Some k) (Some j) ≡ Some (given_by o)
binary-has o k j l r e = by_tests (is_taken o k) (is_taken o j) (k == j) e
  where
    by_tests : (a b c : Bool) → (if not a then expr_place l ∷ [] else if not b || (if c then false else true) then expr_place r ∷ [] else []) ≡ [] →
        (if a && b && c then Some (given_by o) else None) ≡ Some (given_by o)
    by_tests true true true f = refl
    by_tests true true false f = absurd (not_empty _ [] f)
    by_tests true false c f = absurd (not_empty _ [] f)
    by_tests false b c f = absurd (not_empty _ [] f)

module _ (s : Scope) (clear : IsClear s) where
  -- An expression at whose parts nothing is refused has a kind.
  pub has-kind : (e : PExpr) → AreMetNodes s e → (k : ℕ) × (kind_of s e ≡ Some k)
  has-kind (EInteger n sp) h = (integer_kind, refl)
  has-kind (EName id sp) h =
      let known = test-holds (is_some (meaning s id)) sp h.0.known in
      scalar-read s clear (reading s id) sp (name-reads s clear id known) h.0.matched h.0.arrays
  has-kind (EIndex w e sp) h =
      let known = test-holds (is_some (meaning s w.name)) w.span h.0.known in
      let k = has-kind e h.1 in
      component-read s clear (reading s w.name) w.span e k.0 k.1 (name-reads s clear w.name known) (front_empty _ _ h.0.matched) h.0.counted
      (λ index part f. test-fails (is_other_kind (Some index) (kind_of s e)) (expr_place e)
      (ap (λ r. misfit_index s r e) (sym f) ∙ back_empty (no_value (reading s w.name) w.span) _ h.0.matched))
  has-kind (EAttribute m w sp) h =
      let known = test-holds (is_some (meaning s m.name)) m.span (front_empty _ _ h.0.known) in
      let mark = scalar-mark s clear m.name known (test-holds (is_allowed scalar_only (marking s m.name)) m.span h.0.matched) in
      let k = mark.leads.mark.kind in (
        k,
        ap (λ x. and_then (bound_kind (attribute_of w.name)) (scalar_kind x)) mark.marks
            ∙ bound-has (attribute_of w.name) k w.span (back_empty (unseen_word s m) _ h.0.known) h.0.counted,
      )
  has-kind (EAttributeOf m w e sp) h =
      let a = attribute_of w.name in
      let known = test-holds (is_some (meaning s m.name)) m.span (front_empty _ _ h.0.known) in
      let mark = scalar-mark s clear m.name known (test-holds (is_allowed scalar_only (marking s m.name)) m.span (front_empty (wrong_mark scalar_only s m) _ h.0.matched)) in
      let k = mark.leads.mark.kind in
      let f = function-has a k w.span (back_empty (unseen_word s m) _ h.0.known) h.0.counted (test-fails (is_image a) sp h.0.texts) in
      let i = has-kind e h.1 in
      let fits : (if is_function a then of_other_kind s (Some (argument_kind a k)) e else []) ≡ [] =
      ap (λ x. misfit_argument s a (scalar_kind x) e) (sym mark.marks) ∙ back_empty (wrong_mark scalar_only s m) _ h.0.matched in
      let alike : of_other_kind s (Some (argument_kind a k)) e ≡ [] = ap (λ b. if b then of_other_kind s (Some (argument_kind a k)) e else []) (sym f.0) ∙ fits in
      let same : (argument_kind a k == i.0) ≡ true = same-kind (argument_kind a k) i.0 (ap (is_other_kind (Some (argument_kind a k))) (sym i.1) ∙ test-fails (is_other_kind (Some (argument_kind a k)) (kind_of s e)) (expr_place e) alike) in (
        f.1.0,
        ap₂ (λ x o. attribute_kind a (scalar_kind x) o) mark.marks i.1 ∙ ap (λ b. if b then function_kind a k else None) same ∙ f.1.1,
      )
  has-kind (EParen e sp) h = has-kind e h.1
  has-kind (EUnary op e sp) h =
      let k = has-kind e h.1 in
      (given_by (takes_one op), ap (unary_kind (takes_one op)) k.1 ∙ unary-has (takes_one op) k.0 (ap (is_misfit (takes_one op)) (sym k.1) ∙ test-fails (is_misfit (takes_one op) (kind_of s e)) (expr_place e) h.0.matched))
  has-kind (EBinary op l r sp) h =
      let k = has-kind l (all_front _ (nodes l) (nodes r) h.1) in
      let j = has-kind r (all_back _ (nodes l) (nodes r) h.1) in (
        given_by (takes op),
        ap₂ (binary_kind (takes op)) k.1 j.1
            ∙ binary-has (takes op) k.0 j.0 l r (sym (ap₂ (λ a b. misfit_operand (takes op) a b l r) k.1 j.1) ∙ h.0.matched),
      )

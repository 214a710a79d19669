-- The tests of a replay text: comparisons of the variables of a permit with numbers, that guards hold, and that they do not.
use Rattle.std.proofs.Common.{◌≡◌, ℕ, ◌==◌, Bool, true, false, ◌&&◌, if◌then◌else◌, [], ◌∷◌, ◌++◌, Option, Some, None, is_some, Result, Ok, Err, refl, sym, ap, ap₂, subst, ◌∙◌, eqb-true}
use Rattle.std.specs.List.{AllByRecursion}
use Rattle.common_lemmas.proofs.Lists.{all_back, all_front, all_joined}
use Rattle.ada_tree.specs.declared.naming.NameId.{NameId}
use Rattle.ada_tree.specs.declared.naming.Span.{Span}
use Rattle.ada_tree.specs.declared.expressions.UnaryOp.TheVariants as unary
use Rattle.ada_tree.specs.declared.expressions.BinaryOp.{BinaryOp}
use Rattle.ada_tree.specs.declared.expressions.BinaryOp.TheVariants as binary
use Rattle.ada_tree.specs.PlainExpr.{PExpr, EInteger, EName, EIndex, EAttribute, EAttributeOf, EParen, EUnary, EBinary}
use Rattle.ada_tree.specs.Attributes.{Pos, false_name}
use Rattle.ada_static_rules.specs.Scope.{Scope, Marking, ScalarMark, ArrayMark, TaskMark, NoMark, UnknownMark, UnclearMark, Thing, Literal, integer_kind, truth_kind, marking, marking_of, scalar_kind, meaning, reading_of}
use Rattle.ada_static_rules.specs.StaticValue.{is_static, value_of, value_named, named, then_do, signed, attribute_at, mark_named}
use Rattle.ada_static_rules.specs.ExprTypes.{of_kind, of_any_kind, nodes, kind_of, expr_place, name_kind, is_other_kind, takes, unary_kind, binary_kind, if_kind, attribute_kind}
use Rattle.ada_static_rules.specs.Declaring.{predefined_types}
use Rattle.ada_static_rules.specs.Demand.{scalar_only, must_be_of}
use Rattle.ada_static_rules.specs.Sites.{site, expr_sites, expr_of, condition_sites}
use Rattle.ada_static_rules.specs.RuleMismatch.{is_allowed, no_value, misfit_argument, misfit_operand, is_misfit}
use Rattle.ada_static_rules.specs.RuleRangeBad.{is_fixed, raised, raises}
use Rattle.ada_static_rules.specs.RuleReadOut.{out_formal}
use Rattle.ada_static_rules.specs.RuleArrayUse.{whole_array}
use Rattle.normal_model.specs.Ranges.{word_at, integer_subtype}
use Rattle.task_laws.specs.legal.alike_scopes.Laws.{IsMetBut}
use Rattle.normal_laws.specs.structure.typed.ScopeOf.{IsVariableOf}
use Rattle.normal_laws.proofs.structure.typed.Places.{met-whole, met-node, met-of}
use Rattle.normal_laws.proofs.structure.typed.Variables.{AllMetBut, variable-kind, variable-changes, variable-met}
use Rattle.normal_laws.proofs.structure.typed.Tests.{IsMetNode, nodes-met, met-nodes, loose}
use Rattle.replay_structure.specs.typed.ScopeOf.{IsNumber}
use Rattle.common_lemmas.proofs.Truth.{and_both}
use Rattle.task_laws.proofs.legal.sites.Around.{test-fails}

-- ---- kinds

if-so : {A : Type 0} (b : Bool) (x y z : A) → b ≡ true → (if b then x else y) ≡ z → x ≡ z
if-so true x y z e f = f
if-so false x y z e f = cc

-- what is no other kind than BOOLEAN is it
truth-is : (k : ℕ) → is_other_kind (Some truth_kind) (Some k) ≡ false → truth_kind ≡ k
truth-is k e = by_test (truth_kind == k) refl e
  where
    by_test : (b : Bool) → (truth_kind == k) ≡ b → (if b then false else true) ≡ false → truth_kind ≡ k
    by_test true f e = eqb-true truth_kind k f
    by_test false f e = cc

pub no-other : (b : Bool) → is_other_kind (Some truth_kind) (if b then Some truth_kind else None) ≡ false
no-other true = refl
no-other false = refl

pub compared-kind : (a b : Option ℕ) → is_other_kind (Some truth_kind) (binary_kind of_any_kind a b) ≡ false
compared-kind None b = refl
compared-kind (Some k) None = refl
compared-kind (Some k) (Some j) = no-other (k == j)

pub compared-fits : (k : ℕ) (b : Option ℕ) (l r : PExpr) → is_other_kind (Some k) b ≡ false → misfit_operand of_any_kind (Some k) b l r ≡ []
compared-fits k None l r e = refl
compared-fits k (Some j) l r e = ap (λ t. if t then expr_place r ∷ [] else []) e

both-kind : (a b : Option ℕ) → is_other_kind (Some truth_kind) a ≡ false → is_other_kind (Some truth_kind) b ≡ false → is_other_kind (Some truth_kind) (binary_kind (of_kind truth_kind) a b) ≡ false
both-kind None b e f = refl
both-kind (Some k) None e f = refl
both-kind (Some k) (Some j) e f =
    subst (λ y. is_other_kind (Some truth_kind) (binary_kind (of_kind truth_kind) (Some y) (Some j)) ≡ false) (truth-is k e)
    (subst (λ z. is_other_kind (Some truth_kind) (binary_kind (of_kind truth_kind) (Some truth_kind) (Some z)) ≡ false) (truth-is j f) refl)

both-fit : (a b : Option ℕ) (l r : PExpr) → is_other_kind (Some truth_kind) a ≡ false → is_other_kind (Some truth_kind) b ≡ false → misfit_operand (of_kind truth_kind) a b l r ≡ []
both-fit None None l r e f = refl
both-fit None (Some j) l r e f = subst (λ z. misfit_operand (of_kind truth_kind) None (Some z) l r ≡ []) (truth-is j f) refl
both-fit (Some k) None l r e f = subst (λ y. misfit_operand (of_kind truth_kind) (Some y) None l r ≡ []) (truth-is k e) refl
both-fit (Some k) (Some j) l r e f =
    subst (λ y. misfit_operand (of_kind truth_kind) (Some y) (Some j) l r ≡ []) (truth-is k e)
    (subst (λ z. misfit_operand (of_kind truth_kind) (Some truth_kind) (Some z) l r ≡ []) (truth-is j f) refl)

not-kind : (a : Option ℕ) → is_other_kind (Some truth_kind) a ≡ false → is_other_kind (Some truth_kind) (unary_kind (of_kind truth_kind) a) ≡ false
not-kind None e = refl
not-kind (Some k) e = subst (λ y. is_other_kind (Some truth_kind) (unary_kind (of_kind truth_kind) (Some y)) ≡ false) (truth-is k e) refl

not-fits : (a : Option ℕ) → is_other_kind (Some truth_kind) a ≡ false → is_misfit (of_kind truth_kind) a ≡ false
not-fits None e = refl
not-fits (Some k) e = subst (λ y. is_misfit (of_kind truth_kind) (Some y) ≡ false) (truth-is k e) refl

-- an operator on what has no kind has none
unary-some : (a : Option ℕ) → is_some (unary_kind (of_kind truth_kind) a) ≡ true → is_some a ≡ true
unary-some None e = e
unary-some (Some k) e = refl

-- ---- static expressions that raise nothing

name-raises : (o : Option _) → raised (named o) ≡ []
name-raises None = refl
name-raises (Some z) = refl

-- an expression that is static, and in which nothing raises, has a value
fixed-raises : (d : Scope) (e : PExpr) → is_fixed d e ≡ true → raises d e ≡ [] → raised (value_of d.types e) ≡ []
fixed-raises d (EInteger n s) f h = refl
fixed-raises d (EName id s) f h = name-raises (value_named d.types id)
fixed-raises d (EIndex w e s) f h = refl
fixed-raises d (EAttribute m w s) f h = refl
fixed-raises d (EAttributeOf m w e s) f h = if-so (is_fixed d (EAttributeOf m w e s)) (raised (value_of d.types (EAttributeOf m w e s))) (raises d e) [] f h
fixed-raises d (EParen e s) f h = fixed-raises d e f h
fixed-raises d (EUnary op e s) f h = if-so (is_fixed d (EUnary op e s)) (raised (value_of d.types (EUnary op e s))) (raises d e) [] f h
fixed-raises d (EBinary op l r s) f h = if-so (is_fixed d (EBinary op l r s)) (raised (value_of d.types (EBinary op l r s))) (raises d l ++ raises d r) [] f h

not-raises : (s : Span) (v : Result _ Span) → raised v ≡ [] → raised (then_do (signed unary.Not s) v) ≡ []
not-raises s (Ok z) e = refl
not-raises s (Err t) e = e

-- ---- tests

module _ (d : Scope) where
  -- nothing is refused in an expression, which is of that kind or has none
  pub record IsFit (k : ℕ) (e : PExpr) : Type 0 where
    pub kind : is_other_kind (Some k) (kind_of d e) ≡ false
    pub raised : raises d e ≡ []
    pub parts : AllByRecursion (IsMetNode d) (nodes e)

  -- and it is not static
  pub record IsLoose (e : PExpr) : Type 0 where
    pub fit : IsFit truth_kind e
    pub static : is_static d.types e ≡ false

  pub fit-of : (k : ℕ) (e : PExpr) → AllMetBut (expr_of d (Some k) e) → IsFit k e
  fit-of k e m =
      let front = all_front IsMetBut (expr_sites d e) (site d (must_be_of e (Some k)) ∷ []) m in
      record {
        kind = test-fails (is_other_kind (Some k) (kind_of d e)) (expr_place e) (all_back IsMetBut (expr_sites d e) (site d (must_be_of e (Some k)) ∷ []) m).0.matched;
        raised = front.0.ranged;
        parts = met-nodes d (nodes e) front.1;
      }

  pub fit-met : (k : ℕ) (e : PExpr) → IsFit k e → AllMetBut (expr_of d (Some k) e)
  fit-met k e h =
      all_joined IsMetBut (expr_sites d e) _ (met-whole d e h.raised, nodes-met d (nodes e) h.parts)
      (met-of d e (Some k) (ap (λ b. if b then expr_place e ∷ [] else []) h.kind), tt)

  pub loose-met : (e : PExpr) → IsLoose e → AllMetBut (condition_sites d e)
  loose-met e h = fit-met truth_kind e h.fit

  -- ---- truth values

  pub and-loose : (s : Span) (l r : PExpr) → IsLoose l → IsFit truth_kind r → IsLoose (EBinary binary.And l r s)
  and-loose s l r h i =
      let static : (is_static d.types l && is_static d.types r) ≡ false = ap (λ b. b && is_static d.types r) h.static in
      record {
        fit = record {
          kind = both-kind (kind_of d l) (kind_of d r) h.fit.kind i.kind;
          raised = loose d (EBinary binary.And l r s) _ (raises d l ++ raises d r) static ∙ ap₂ (λ xs ys. xs ++ ys) h.fit.raised i.raised;
          parts = (
            met-node d false (EBinary binary.And l r s) record { known = refl; matched = both-fit (kind_of d l) (kind_of d r) l r h.fit.kind i.kind; readable = refl; counted = refl; arrays = refl; texts = refl },
            all_joined (IsMetNode d) (nodes l) (nodes r) h.fit.parts i.parts,
          );
        };
        static = static;
      }

  pub not-fit : (s : Span) (e : PExpr) → IsFit truth_kind e → IsFit truth_kind (EUnary unary.Not e s)
  not-fit s e h = record {
    kind = not-kind (kind_of d e) h.kind;
    raised = by_fixed (is_fixed d (EUnary unary.Not e s)) refl;
    parts = (
      met-node d false (EUnary unary.Not e s) record { known = refl; matched = ap (λ b. if b then expr_place e ∷ [] else []) (not-fits (kind_of d e) h.kind); readable = refl; counted = refl; arrays = refl; texts = refl },
      h.parts,
    );
  }
    where
      by_fixed : (b : Bool) → is_fixed d (EUnary unary.Not e s) ≡ b → (if b then raised (value_of d.types (EUnary unary.Not e s)) else raises d e) ≡ []
      by_fixed false f = h.raised
      by_fixed true f =
          let q = and_both (is_some (unary_kind (of_kind truth_kind) (kind_of d e))) (is_static d.types e) f in
          let some : is_some (kind_of d e) ≡ true = unary-some (kind_of d e) q.0 in
          not-raises s (value_of d.types e) (fixed-raises d e (ap₂ (λ a b. a && b) some q.1) h.raised)

  -- FALSE
  pub false-fit : (s : Span) → meaning d (record { 0 = false_name }) ≡ Some (Literal truth_kind) → IsFit truth_kind (EName record { 0 = false_name } s)
  false-fit s h = record {
    kind = ap (λ o. is_other_kind (Some truth_kind) (name_kind (reading_of d.types o))) h;
    raised = refl;
    parts = (
      met-node d false (EName record { 0 = false_name } s) record {
        known = ap (λ o. if is_some o then [] else s ∷ []) h;
        matched = ap (λ o. no_value (reading_of d.types o) s) h;
        readable = ap (λ o. out_formal o s) h;
        counted = refl;
        arrays = ap (λ o. whole_array (reading_of d.types o) s) h;
        texts = refl;
      },
      tt,
    );
  }

  -- ---- numbers

  pub literal-fit : (n : ℕ) (s : Span) → IsFit integer_kind (EInteger n s)
  literal-fit n s = record {
    kind = refl;
    raised = refl;
    parts = (met-node d false (EInteger n s) record { known = refl; matched = refl; readable = refl; counted = refl; arrays = refl; texts = refl }, tt);
  }

  -- a variable of the permit is one with the subtype INTEGER
  abbrev pub number-variable : (id : NameId) (s : Span) → IsNumber d id → IsVariableOf predefined_types d id (integer_subtype s)
  number-variable id s v = record {
    place = v.place;
    mark = v.mark;
    means = v.means;
    there = v.there;
    scalar = v.scalar;
    limits =
        subst (λ k. Ok (record { kind = integer_kind; first = _; last = _ }) ≡ Ok (record { kind = k; first = v.mark.first; last = v.mark.last })) (sym v.kind)
        (ap₂ (λ a b. Ok (record { kind = integer_kind; first = a; last = b })) (sym v.first) (sym v.last));
    changes = v.changes;
  }

  module _ (id : NameId) (s : Span) (v : IsNumber d id) where
    abbrev is : IsVariableOf predefined_types d id (integer_subtype s)
    is = number-variable id s v

    pub number-kind : kind_of d (EName id s) ≡ Some integer_kind
    number-kind = variable-kind is s ∙ ap Some v.kind

    -- a variable of the permit compared with a number
    pub compared : (op : BinaryOp) → takes op ≡ of_any_kind → (e : PExpr) → IsFit integer_kind e → IsLoose (EBinary op (EName id s) e s)
    compared op o e h =
        let static : (is_static d.types (EName id s) && is_static d.types e) ≡ false = ap (λ b. b && is_static d.types e) (variable-changes is s) in
        record {
          fit = record {
            kind = ap (λ t. is_other_kind (Some truth_kind) (binary_kind t (kind_of d (EName id s)) (kind_of d e))) o ∙ compared-kind (kind_of d (EName id s)) (kind_of d e);
            raised = loose d (EBinary op (EName id s) e s) _ (raises d e) static ∙ h.raised;
            parts = (
              met-node d false (EBinary op (EName id s) e s) record {
                known = refl;
                matched = ap₂ (λ t k. misfit_operand t k (kind_of d e) (EName id s) e) o number-kind ∙ compared-fits integer_kind (kind_of d e) (EName id s) e h.kind;
                readable = refl;
                counted = refl;
                arrays = refl;
                texts = refl;
              },
              ((variable-met is s).1.0, h.parts),
            );
          };
          static = static;
        }

  -- ---- positions

  kind-known : (m : NameId) (k : ℕ) → scalar_kind (marking d m) ≡ Some k → is_some (meaning d m) ≡ true
  kind-known m k e = by_meaning (meaning d m) e
    where
      by_meaning : (o : Option Thing) → scalar_kind (marking_of d.types o) ≡ Some k → is_some o ≡ true
      by_meaning None f = cc
      by_meaning (Some x) f = refl

  kind-allowed : (m : Marking) (k : ℕ) → scalar_kind m ≡ Some k → is_allowed scalar_only m ≡ true
  kind-allowed (ScalarMark m j) k e = refl
  kind-allowed (ArrayMark m range part) k e = cc
  kind-allowed (TaskMark entries) k e = cc
  kind-allowed NoMark k e = cc
  kind-allowed UnknownMark k e = refl
  kind-allowed UnclearMark k e = refl

  position-kind : (k : ℕ) (o : Option ℕ) → is_other_kind (Some integer_kind) (if_kind k o (Some integer_kind)) ≡ false
  position-kind k None = refl
  position-kind k (Some j) = by_test (k == j)
    where
      by_test : (b : Bool) → is_other_kind (Some integer_kind) (if b then Some integer_kind else None) ≡ false
      by_test true = refl
      by_test false = refl

  position-some : (k : ℕ) (o : Option ℕ) → is_some (if_kind k o (Some integer_kind)) ≡ true → is_some o ≡ true
  position-some k None e = cc
  position-some k (Some j) e = refl

  position-raises : (m : Option _) (s : Span) (v : Result _ Span) → raised v ≡ [] → raised (then_do (attribute_at d.types m Pos s) v) ≡ []
  position-raises m s (Ok z) e = refl
  position-raises m s (Err t) e = e

  -- the position of a value of a type, by the type's name
  pub position-fit : (m : NameId) (s : Span) (k : ℕ) (e : PExpr) → scalar_kind (marking d m) ≡ Some k → IsFit k e → IsFit integer_kind (EAttributeOf (word_at s m) (word_at s record { 0 = 20 }) e s)
  position-fit m s k e f h = record {
    kind = ap (λ o. is_other_kind (Some integer_kind) (attribute_kind Pos o (kind_of d e))) f ∙ position-kind k (kind_of d e);
    raised = by_fixed (is_fixed d whole) refl;
    parts = (
      met-node d false whole record {
        known = ap (λ b. (if b then [] else s ∷ []) ++ []) (kind-known m k f);
        matched =
            ap₂ (λ b o. (if b then [] else s ∷ []) ++ misfit_argument d Pos o e) (kind-allowed (marking d m) k f) f
            ∙ ap (λ b. if b then expr_place e ∷ [] else []) h.kind;
        readable = refl;
        counted = refl;
        arrays = refl;
        texts = refl;
      },
      h.parts,
    );
  }
    where
      whole : PExpr
      whole = EAttributeOf (word_at s m) (word_at s record { 0 = 20 }) e s

      by_fixed : (b : Bool) → is_fixed d whole ≡ b → (if b then raised (value_of d.types whole) else raises d e) ≡ []
      by_fixed false g = h.raised
      by_fixed true g =
          let q = and_both (is_some (kind_of d whole)) (is_static d.types whole) g in
          let some : is_some (kind_of d e) ≡ true = position-some k (kind_of d e) (sym (ap (λ o. is_some (attribute_kind Pos o (kind_of d e))) f) ∙ q.0) in
          let static : is_static d.types e ≡ true = (and_both (is_some (mark_named d.types m)) (is_static d.types e) q.1).1 in
          position-raises (mark_named d.types m) s (value_of d.types e) (fixed-raises d e (ap₂ (λ a b. a && b) some static) h.raised)

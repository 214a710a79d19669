-- The choices of a case over the members of an array of tasks: static literals of the index's kind, in its range, of which no two overlap.
use Rattle.std.proofs.Common.{◌≡◌, ℕ, ℤ, int_le, int_lt, Bool, true, false, not, ◌&&◌, ◌||◌, if◌then◌else◌, List, [], ◌∷◌, ◌++◌, map, Option, Some, None, is_some, refl, sym, ap, ap₂, ◌∙◌, arith}
use Rattle.std.specs.List.{AllByRecursion, list_any}
use Rattle.std.proofs.lemmas.Int.{ints}
use Rattle.common_lemmas.proofs.Lists.{all_joined}
use Rattle.ada_tree.specs.declared.naming.NameId.{NameId}
use Rattle.ada_tree.specs.declared.naming.Span.{Span}
use Rattle.ada_tree.specs.TypeTable.{TypeTable}
use Rattle.ada_tree.specs.PlainExpr.{PExpr, EName, PSubind}
use Rattle.ada_tree.specs.PlainStmt.{PChoice}
use Rattle.ada_static_rules.specs.Scope.{Scope, Range, meaning}
use Rattle.ada_static_rules.specs.ExprTypes.{kind_of, static_in, range_between, expr_place}
use Rattle.ada_static_rules.specs.StaticValue.{is_static}
use Rattle.ada_static_rules.specs.Sites.{expr_sites, expr_of, choice_sites}
use Rattle.ada_static_rules.specs.RuleRangeBad.{is_outside}
use Rattle.ada_static_rules.specs.RuleChoiceBad.{selected_range, mark_of_thing, choice_range, choice_span, do_overlap, overlaps_one, with_range, overlapping, bad_choices}
use Rattle.task_laws.proofs.legal.types.StaticParts.{static-told}
use Rattle.task_laws.specs.legal.alike_scopes.Laws.{IsMetBut}
use Rattle.syn_event.specs.declared.numbering.TaskInfo.{TaskInfo}
use Rattle.normal_laws.specs.structure.typed.ScopeOf.{IsVariableOf, IsOtherMember, AreOtherMembers}
use Rattle.normal_laws.proofs.structure.typed.Places.{met-of, met-static, met-in}
use Rattle.normal_laws.proofs.structure.typed.Variables.{AllMetBut, of-kind}
use Rattle.normal_laws.proofs.structure.typed.Literals.{IsFixedAt}

-- ---- one choice

within : (f l z : ℤ) → (int_le f z && int_le z l) ≡ true → (int_lt z f || int_lt l z) ≡ false
within f l z h = grind (arith, ints)

module _ (d : Scope) (k : ℕ) (e : PExpr) (z : ℤ) (h : IsFixedAt d k e z) where
  fixed-value : static_in d k e ≡ Some z
  fixed-value = static-told d k e h.static ∙ ap Some h.value

  fixed-static : (is_some (kind_of d e) && not (is_static d.types e)) ≡ false
  fixed-static = ap₂ (λ o b. is_some o && not b) h.static.kind h.static.static

  -- a choice of a value in a range
  pub choice-met : (range : Range) → range.kind ≡ k → (int_le range.first z && int_le z range.last) ≡ true → AllMetBut (choice_sites d (Some k) (Some range) (record { first = e; last = None }))
  choice-met range same here =
      let lies : is_outside range (static_in d range.kind e) ≡ false = ap (λ n. is_outside range (static_in d n e)) same ∙ ap (is_outside range) fixed-value ∙ within range.first range.last z here in
      all_joined IsMetBut (expr_of d (Some k) e ++ _) _
      (all_joined IsMetBut (expr_of d (Some k) e) _
      (all_joined IsMetBut (expr_sites d e) _ h.met (met-of d e (Some k) (of-kind d e k h.static.kind), tt))
      (met-static d e (ap (λ b. if b then expr_place e ∷ [] else []) fixed-static), tt))
      (met-in d e (Some range) (ap (λ b. if b then expr_place e ∷ [] else []) lies), tt)

  pub point-is : choice_range d k (record { first = e; last = None }) ≡ Some record { kind = k; first = z; last = z }
  point-is = ap₂ (range_between k) fixed-value fixed-value

-- ---- all choices

abbrev pub point : ℕ → ℤ → Range
point k z = record { kind = k; first = z; last = z }

apart-points : (k : ℕ) (a b : ℤ) → (a ≡ b → ⊥) → do_overlap (point k a) (point k b) ≡ false
apart-points k a b n = all-four (int_le a a) (int_le b b) (int_le a b) (int_le b a) (itself a) (itself b) (λ p q. n (both p q))
  where
    both : int_le a b ≡ true → int_le b a ≡ true → a ≡ b
    both p q = grind (arith, ints)

    itself : (z : ℤ) → int_le z z ≡ true
    itself z = grind (arith, ints)

    all-four : (w x y z : Bool) → w ≡ true → x ≡ true → (y ≡ true → z ≡ true → ⊥) → (w && x && y && z) ≡ false
    all-four true true true true e f n = absurd (n refl refl)
    all-four true true true false e f n = refl
    all-four true true false z e f n = refl
    all-four true false y z e f n = cc
    all-four false x y z e f n = cc

module _ (d : Scope) (k : ℕ) (what : TaskInfo → PExpr) where
  abbrev pub choice_of : TaskInfo → PChoice
  choice_of info = record { first = what info; last = None }

  -- the choice of a member has its index alone
  abbrev pub IsPoint : TaskInfo → Type 0
  IsPoint info = (z : ℤ) × (info.member ≡ Some z) × (choice_range d k (choice_of info) ≡ Some (point k z))

  -- no range that was seen has the index of a member
  abbrev IsApartFrom : List Range → TaskInfo → Type 0
  IsApartFrom seen info = (z : ℤ) → info.member ≡ Some z → list_any (do_overlap (point k z)) seen ≡ false

  more-apart : (seen : List Range) (info : TaskInfo) (z : ℤ) → info.member ≡ Some z → (infos : List TaskInfo) → AllByRecursion (IsOtherMember info) infos → AllByRecursion (IsApartFrom seen) infos → AllByRecursion (IsApartFrom (point k z ∷ seen)) infos
  more-apart seen info z e [] h i = tt
  more-apart seen info z e (x ∷ infos) h i = (
    λ y f. ap₂ (λ p q. p || q) (apart-points k y z (λ same. h.0 (e ∙ ap Some (sym same) ∙ sym f))) (i.0 y f),
    more-apart seen info z e infos h.1 i.1,
  )

  none-overlap : (seen : List Range) (infos : List TaskInfo) → AllByRecursion IsPoint infos → AreOtherMembers infos → AllByRecursion (IsApartFrom seen) infos → overlapping d k seen (map choice_of infos) ≡ []
  none-overlap seen [] h o i = refl
  none-overlap seen (info ∷ infos) h o i =
      let z = h.0.0 in
      ap (λ r. (if overlaps_one seen r then choice_span (choice_of info) ∷ [] else []) ++ overlapping d k (with_range r seen) (map choice_of infos)) h.0.2
      ∙ ap (λ b. (if b then choice_span (choice_of info) ∷ [] else []) ++ overlapping d k (point k z ∷ seen) (map choice_of infos)) (i.0 z h.0.1)
      ∙ none-overlap (point k z ∷ seen) infos h.1 o.1 (more-apart seen info z h.0.1 infos o.0 i.1)

  none-seen : (infos : List TaskInfo) → AllByRecursion (IsApartFrom []) infos
  none-seen [] = tt
  none-seen (info ∷ infos) = (λ z e. refl, none-seen infos)

  nothing-behind : (xs : List Span) → xs ≡ [] → xs ++ [] ≡ []
  nothing-behind xs e = ap (λ l. l ++ []) e

  -- no two choices of members overlap, and others may follow
  pub choices-apart : (e : PExpr) (s : Span) → kind_of d e ≡ Some k → (infos : List TaskInfo) → AllByRecursion IsPoint infos → AreOtherMembers infos → bad_choices d (kind_of d e) e (map choice_of infos) true s ≡ []
  choices-apart e s f infos h o =
      ap (λ q. bad_choices d q e (map choice_of infos) true s) f
      ∙ nothing-behind (overlapping d k [] (map choice_of infos)) (none-overlap [] infos h o (none-seen infos))

-- the values of a variable as a selector
pub selected-variable : (T : TypeTable) (d : Scope) (id : NameId) (x : PSubind) (v : IsVariableOf T d id x) (s : Span) → selected_range d (EName id s) ≡ Some record { kind = v.mark.kind; first = v.mark.first; last = v.mark.last }
selected-variable T d id x v s = by_mark (mark_of_thing (meaning d id)) refl (ap mark_of_thing v.means)
  where
    by_mark : (o : Option ℕ) → mark_of_thing (meaning d id) ≡ o → o ≡ Some v.place → selected_range d (EName id s) ≡ Some record { kind = v.mark.kind; first = v.mark.first; last = v.mark.last }
    by_mark None e f = cc
    by_mark (Some m) e f = cc

-- What old names make up is worth the same with near variables; and what is assigned to one side is assigned to the other.
use Rattle.std.proofs.Common.{◌≡◌, ℕ, ◌==◌, Bool, true, false, if◌then◌else◌, List, [], ◌∷◌, ◌++◌, Option, Some, None, Result, Ok, Err, refl, sym, ap, subst, ◌∙◌}
use Rattle.ada_tree.specs.declared.naming.NameId.{NameId}
use Rattle.ada_tree.specs.PlainExpr.{PExpr, PBounds, PDrange}
use Rattle.ada_tree.specs.PlainStmt.{PTarget, PPart, PChoice, PStmt, PStmts, stmt_then}
use Rattle.ada_tree.specs.Attributes.{attribute_of, is_image}
use Rattle.ada_tree.specs.TypeTable.{TypeTable}
use Rattle.ada_value.specs.declared.values.Limits.{Limits}
use Rattle.ada_value.specs.declared.values.Raised.{Raised}
use Rattle.ada_value.specs.declared.values.Value.{Value}
use Rattle.ada_value.specs.Values.{and_then, position_of, is_true_value, checked, limits_named}
use Rattle.ada_value.specs.Variables.{Object, Variables, object_named, component_place, checked_for, set_value, with_value}
use Rattle.ada_value.specs.Evaluating.{name_value, component_value, attribute_value, signed_value, operated, evaluated, condition_of, range_between, bounds_of, narrowed}
use Rattle.ada_value.specs.Texts.{image, integer_text, expr_output, parts_output}
use Rattle.task_model.specs.Steps as steps
use Rattle.task_laws.specs.translation.Translations.{Programs, IsOld}
use Rattle.task_laws.specs.translation.OldNames.{OldExpr, old_integer, old_name, old_index, old_attribute, old_attribute_of, old_paren, old_unary, old_binary, OldOption, old_none, old_some, OldBounds, old_unbounded, old_bounded, OldRange, old_given, old_marked, OldTarget, OldParts, old_no_part, old_words, old_value, OldChoices, old_no_choice, old_choice}
use Rattle.collect_runs.specs.aborts.likeness.Likeness.{Ground, Goal, Beside, form, with_these, Near, Meet, AreCells, Always, Skipped, Passes, PassesOne}
use Rattle.collect_runs.proofs.aborts.likeness.Near.{object-self, near-named, old-named, limits-same, NearOption, set-old}

module _ (x : Ground) where
  abbrev b : Programs
  b = x.programs

  abbrev T : TypeTable
  T = (form x).types

  -- ---- values

  module _ (V W : Variables) (near : Near x V W) where
    pub worth : {e : PExpr} → OldExpr b e → evaluated T W e ≡ evaluated T V e
    worth (old_integer n s) = refl
    worth (old_name id s old) = ap (λ o. Ok (name_value T o id)) (old-named x V W near id old)
    worth (old_index w e s old h) =
        ap (λ r. and_then r (λ v. component_value (object_named W w.name) v)) (worth h) ∙ ap (λ o. and_then (evaluated T V e) (λ v. component_value o v)) (old-named x V W near w.name old)
    worth (old_attribute m w s old) = refl
    worth (old_attribute_of m w e s old h) = ap (λ r. and_then r (λ v. attribute_value T (limits_named T m.name) (attribute_of w.name) v)) (worth h)
    worth (old_paren e s h) = worth h
    worth (old_unary op e s h) = ap (λ r. and_then r (λ v. signed_value op v)) (worth h)
    worth (old_binary op l r s h k) = ap (λ a. operated op a (evaluated T W r)) (worth h) ∙ ap (λ a. operated op (evaluated T V l) a) (worth k)

    pub condition-worth : {e : PExpr} → OldExpr b e → condition_of T W e ≡ condition_of T V e
    condition-worth h = ap (λ r. and_then r (λ v. Ok (is_true_value v))) (worth h)

    pub test-worth : (c : Beside) {o : Option PExpr} → OldOption b o → steps.exit_test (with_these x c W) o ≡ steps.exit_test (with_these x c V) o
    test-worth c old_none = refl
    test-worth c (old_some e h) = condition-worth h

    bounds-worth : (r : PBounds) → OldExpr b r.first → OldExpr b r.last → bounds_of T W r ≡ bounds_of T V r
    bounds-worth r h k =
        ap (λ a. and_then a (λ u. and_then (evaluated T W r.last) (λ v. Ok (range_between u v)))) (worth h)
        ∙ ap (λ a. and_then (evaluated T V r.first) (λ u. and_then a (λ v. Ok (range_between u v)))) (worth k)

    narrowed-worth : (l : Limits) {o : Option PBounds} → OldBounds b o → narrowed T W l o ≡ narrowed T V l o
    narrowed-worth l old_unbounded = refl
    narrowed-worth l (old_bounded r h k) = ap (λ a. and_then a (λ q. Ok (record { kind = l.kind; first = q.first; last = q.last }))) (bounds-worth r h k)

    pub range-worth : (c : Beside) {r : PDrange} → OldRange b r → steps.counted_range (with_these x c W) r ≡ steps.counted_range (with_these x c V) r
    range-worth c (old_given r h k) = bounds-worth r h k
    range-worth c (old_marked m old known h) = ap (λ a. and_then a (λ q. steps.range_checked (limits_named T m.mark.name) q)) (narrowed-worth (limits_named T m.mark.name) h)

    if-same : {A : Type 0} (d : Bool) {p q p' q' : A} → p' ≡ p → q' ≡ q → (if d then p' else q') ≡ (if d then p else q)
    if-same true h k = h
    if-same false h k = k

    text-worth : (names : List (List ℕ)) {e : PExpr} → OldExpr b e → expr_output names T W e ≡ expr_output names T V e
    text-worth names (old_attribute_of m w e s old h) =
        if-same (is_image (attribute_of w.name)) (ap (λ r. and_then r (λ v. Ok (image names T v))) (worth h)) (ap (λ r. and_then r (λ v. Ok (integer_text (position_of v)))) (worth (old_attribute_of m w e s old h)))
    text-worth names (old_integer n s) = refl
    text-worth names (old_name id s old) = ap (λ r. and_then r (λ v. Ok (integer_text (position_of v)))) (worth (old_name id s old))
    text-worth names (old_index w e s old h) = ap (λ r. and_then r (λ v. Ok (integer_text (position_of v)))) (worth (old_index w e s old h))
    text-worth names (old_attribute m w s old) = refl
    text-worth names (old_paren e s h) = ap (λ r. and_then r (λ v. Ok (integer_text (position_of v)))) (worth h)
    text-worth names (old_unary op e s h) = ap (λ r. and_then r (λ v. Ok (integer_text (position_of v)))) (worth (old_unary op e s h))
    text-worth names (old_binary op l r s h k) = ap (λ q. and_then q (λ v. Ok (integer_text (position_of v)))) (worth (old_binary op l r s h k))

    pub parts-worth : (names : List (List ℕ)) {ps : List PPart} → OldParts b ps → parts_output names T W ps ≡ parts_output names T V ps
    parts-worth names old_no_part = refl
    parts-worth names (old_words text s rest h) = ap (λ r. and_then r (λ q. Ok (text ++ q))) (parts-worth names h)
    parts-worth names (old_value e rest h k) =
        ap (λ r. and_then r (λ a. and_then (parts_output names T W rest) (λ q. Ok (a ++ q)))) (text-worth names h)
        ∙ ap (λ r. and_then (expr_output names T V e) (λ a. and_then r (λ q. Ok (a ++ q)))) (parts-worth names k)

    end-worth : (c : Beside) (a : Value) {o : Option PExpr} → OldOption b o → steps.choice_end (with_these x c W) o a ≡ steps.choice_end (with_these x c V) o a
    end-worth c a old_none = refl
    end-worth c a (old_some e h) = worth h

    pub then-same : {A B : Type 0} (r : Result A Raised) (f g : A → Result B Raised) → ((a : A) → f a ≡ g a) → and_then r f ≡ and_then r g
    then-same (Ok a) f g h = h a
    then-same (Err e) f g h = refl

    pub choices-worth : (c : Beside) (v : Value) {cs : List PChoice} → OldChoices b cs → steps.choices_fit (with_these x c W) v cs ≡ steps.choices_fit (with_these x c V) v cs
    choices-worth c v old_no_choice = refl
    choices-worth c v (old_choice d rest h k more) =
        ap (λ r. and_then (and_then r (λ a. and_then (steps.choice_end (with_these x c W) d.last a) (λ z. Ok (steps.lies_between a z v)))) (λ q. if q then Ok true else steps.choices_fit (with_these x c W) v rest)) (worth h)
        ∙ ap (λ r. and_then r (λ q. if q then Ok true else steps.choices_fit (with_these x c W) v rest))
        (then-same (evaluated T V d.first) (λ a. and_then (steps.choice_end (with_these x c W) d.last a) (λ z. Ok (steps.lies_between a z v)))
        (λ a. and_then (steps.choice_end (with_these x c V) d.last a) (λ z. Ok (steps.lies_between a z v))) (λ a. ap (λ r. and_then r (λ z. Ok (steps.lies_between a z v))) (end-worth c a k)))
        ∙ ap (λ f. and_then (steps.choice_fits (with_these x c V) v d) (λ q. if q then Ok true else f)) (choices-worth c v more)

    -- ---- targets

    pub aim-worth : (c : Beside) (t : PTarget) → OldTarget b t → steps.aim_of (with_these x c W) t ≡ steps.aim_of (with_these x c V) t
    aim-worth c t h = go h.index
      where
        go : {o : Option PExpr} → OldOption b o → steps.aim_at (with_these x c W) (object_named W t.name.name) o ≡ steps.aim_at (with_these x c V) (object_named V t.name.name) o
        go old_none = refl
        go (old_some e k) =
            ap (λ r. and_then r (λ v. component_place (object_named W t.name.name) v)) (worth k)
            ∙ ap (λ a. and_then (evaluated T V e) (λ v. component_place a v)) (old-named x V W near t.name.name h.name)

    -- a value is checked alike
    pub checked-same : (id : NameId) (v : Value) → checked_for (object_named W id) v ≡ checked_for (object_named V id) v
    checked-same id v = go (object_named V id) (object_named W id) (near-named x V W near id)
      where
        go : (o p : Option Object) → NearOption x o p → checked_for p v ≡ checked_for o v
        go None None h = refl
        go (Some o) (Some p) h = ap (λ l. checked l v) (limits-same x h)
        go None (Some p) h = absurd h
        go (Some o) None h = absurd h

  -- ---- assignments

  pub meet-then : {A : Type 0} (K : Goal) (r r' : Result A Raised) (f f' : A → Result Variables Raised) → r' ≡ r → ((a : A) → r ≡ Ok a → Meet x K (f a) (f' a)) → Meet x K (and_then r f) (and_then r' f')
  meet-then {A} K r r' f f' e h = subst (λ q. Meet x K (and_then r f) (and_then q f')) (sym e) (go r h)
    where
      go : (q : Result A Raised) → ((a : A) → q ≡ Ok a → Meet x K (f a) (f' a)) → Meet x K (and_then q f) (and_then q f')
      go (Ok a) k = k a refl
      go (Err d) k = refl

  -- one value
  pub meet-set : (K : Goal) (V W : Variables) (id : NameId) (k : ℕ) (v : Value) → Near x V W → ((w : Value) → checked_for (object_named V id) v ≡ Ok w → Near x (set_value V id k w) (set_value W id k w) × K (set_value V id k w) (set_value W id k w)) →
      Meet x K (and_then (checked_for (object_named V id) v) (λ w. Ok (set_value V id k w))) (and_then (checked_for (object_named W id) v) (λ w. Ok (set_value W id k w)))
  meet-set K V W id k v near h = meet-then K (checked_for (object_named V id) v) (checked_for (object_named W id) v) (λ w. Ok (set_value V id k w)) (λ w. Ok (set_value W id k w)) (checked-same V W near id v) h

  pub stores-old : (K : Goal) → Always x K → (V W : Variables) → Near x V W → (c : Beside) (t : PTarget) → IsOld b t.name.name → (k : ℕ) (v : Value) → Meet x K (steps.stored (with_these x c V) t k v) (steps.stored (with_these x c W) t k v)
  stores-old K always V W near c t old k v = meet-set K V W t.name.name k v near (λ w e. let n = set-old x t.name.name k w old V W near in (n, always _ _ n))

  pub assigns-old : (K : Goal) → Always x K → (V W : Variables) → Near x V W → (t : PTarget) (e : PExpr) → OldTarget b t → OldExpr b e → (c : Beside) → Meet x K (steps.assigned (with_these x c V) t e) (steps.assigned (with_these x c W) t e)
  assigns-old K always V W near t e h k c =
      meet-then K _ _ _ _ (aim-worth V W near c t h) (λ n q. meet-then K _ _ _ _ (worth V W near k) (λ v r. stores-old K always V W near c t h.name n v))

  -- ---- the same variables on both sides

  near-set-self : (U : Variables) (id : NameId) (k : ℕ) (w : Value) → Near x U U → Near x (set_value U id k w) (set_value U id k w)
  near-set-self [] id k w h = tt
  near-set-self (o ∷ U) id k w h = go (o.name.0 == id.0) (near-set-self U id k w h.1)
    where
      go : (c : Bool) → Near x (set_value U id k w) (set_value U id k w) → Near x (if c then with_value o k w ∷ U else o ∷ set_value U id k w) (if c then with_value o k w ∷ U else o ∷ set_value U id k w)
      go true ih = (object-self x (with_value o k w) h.0.free, h.1)
      go false ih = (h.0, ih)

  pub assigns-same : (K : Goal) → Skipped x K → (t : PTarget) (e : PExpr) → Skipped x (λ V W. (c : Beside) → Meet x K (steps.assigned (with_these x c V) t e) (steps.assigned (with_these x c W) t e))
  assigns-same K skip t e U n c =
      meet-then K (steps.aim_of (with_these x c U) t) (steps.aim_of (with_these x c U) t) (λ k. and_then (evaluated T U e) (λ v. steps.stored (with_these x c U) t k v)) (λ k. and_then (evaluated T U e) (λ v. steps.stored (with_these x c U) t k v)) refl
      (λ k q. meet-then K (evaluated T U e) (evaluated T U e) (λ v. steps.stored (with_these x c U) t k v) (λ v. steps.stored (with_these x c U) t k v) refl
      (λ v r. meet-set K U U t.name.name k v n (λ w f. let m = near-set-self U t.name.name k w n in (m, skip _ m))))

  -- ---- rows

  pub always-skips : (K : Goal) → Always x K → Skipped x K
  always-skips K h U n = h U U n

  pub near-always : Always x (Near x)
  near-always V W n = n

  -- one statement in front of others
  pub first-passes : (s : PStmt) (rest : PStmts) (K : Goal) (V W : Variables) → (AreCells x V → PassesOne x s (Passes x rest K) V W) → Skipped x (Passes x rest K) → Passes x (stmt_then s rest) K V W
  first-passes s rest K V W h k = (h, k)

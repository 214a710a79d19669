-- The case statement of a callee that is chosen: both come to the branch of the same member.
use Rattle.std.proofs.Common.{◌≡◌, ℕ, ◌==◌, ◌&&◌, cond, ℤ, Bool, true, false, if◌then◌else◌, List, [], ◌∷◌, length, map, Option, Some, None, option_map, Result, Ok, refl, sym, ap, subst, ◌∙◌, slice_get, slice_set, position, true≢false}
use Rattle.std.specs.Prelude.{int_le, is_some, is_ok, ok_or, find, nat_lt}
use Rattle.std.specs.List.{AllByRecursion, filter, position_or_len}
use Rattle.std.specs.Ordering.{int_eq}
use Rattle.std.proofs.lemmas.Bool.{eqb-true}
use Rattle.std.proofs.lemmas.List.Folds.{find_at}
use Rattle.std.proofs.lemmas.Option.{slice_get_within, none-some}
use Rattle.common_lemmas.proofs.Lists.{element_at}
use Rattle.ada_tree.specs.declared.naming.NameId.{NameId}
use Rattle.ada_tree.specs.declared.naming.Span.{Span}
use Rattle.ada_tree.specs.declared.naming.Word.{Word}
use Rattle.ada_tree.specs.declared.static_types.Kind.{Kind}
use Rattle.ada_tree.specs.PlainExpr.{PExpr}
use Rattle.ada_tree.specs.PlainStmt.{PCallee, SNull, PStmts, no_stmt, case_arms_of}
use Rattle.syn_event.specs.declared.numbering.TaskInfo.{TaskInfo}
use Rattle.ada_value.specs.declared.values.Raised.{Raised}
use Rattle.ada_value.specs.declared.values.Raised.TheVariants as raised
use Rattle.ada_value.specs.declared.values.Value.{Value}
use Rattle.ada_value.specs.Values.{and_then, lies_in, position_of}
use Rattle.ada_value.specs.Variables.{Object, Variables, object_named, with_value, set_value, value_there}
use Rattle.ada_value.specs.Evaluating.{name_value, evaluated}
use Rattle.task_model.specs.Setting.{Setting, is_member, member_named}
use Rattle.task_model.specs.Steps.{lies_between, choices_fit}
use Rattle.normal_model.specs.Names.{task_name, task_name_at, name_of_task, variable_name}
use Rattle.normal_model.specs.Ranges.{word_at, array_range}
use Rattle.normal_model.specs.Making.{one, variable, moving}
use Rattle.normal_model.specs.Members.{known_task, known_callee, kind_of_index, index_literal, member_arm, chosen_if, chosen}
use Rattle.task_laws.specs.translation.Translations.{Programs}
use Rattle.task_laws.proofs.translation.Fixed.{fixed-worth}
use Rattle.normal_laws.specs.runs.floors.Suited.{IsMeant, is_named, is_member as is_one, IsCallee, IsLiteral, HasLiteral}
use Rattle.normal_laws.proofs.runs.floors.Cells.{named-set_same, named-set_other}
use Rattle.collect_runs.specs.aborts.likeness.Likeness.{Ground, Goal, Beside, form, with_these, Near, IsThere, Skipped, Passes, PassesCase}
use Rattle.collect_runs.proofs.aborts.likeness.Near.{Agree, fixed-none, near-right}
use Rattle.collect_runs.proofs.aborts.likeness.Preludes.{FitsThere, Stable}
use Rattle.common_lemmas.proofs.Numbers.{lt_true, lt_is}
use Rattle.normal_laws.proofs.runs.callees.Choosing.{eq-le}

fit-bool : (b : Bool) → and_then {A = Bool} {B = Bool} (Ok b) (λ c. if c then Ok true else Ok false) ≡ Ok b
fit-bool true = refl
fit-bool false = refl

pub bool-is : (c d : Bool) → ◌≡◌ {A = Result Bool Raised} (Ok c) (Ok d) → c ≡ d
bool-is c d e = cc

module _ (x : Ground) where
  abbrev b : Programs
  b = x.programs

  abbrev g : Setting
  g = x.programs.original

  -- ---- a variable with a value in its subtype

  -- the variable of this number is there, with one value, which lies in its subtype
  pub record InRange (k : ℕ) (V : Variables) : Type 0 where
    pub object : Object
    pub found : object_named V (variable_name g k) ≡ Some object
    pub limits : object.limits ≡ x.added.bounds k
    pub value : Value
    pub single : object.values ≡ value ∷ []
    pub lies : lies_in object.limits (position_of value) ≡ true

  -- so it is once it has got a value that fits
  pub in-range : (k : ℕ) (V : Variables) (v : Value) → IsThere x k V → FitsThere x V (variable_name g k) v → InRange k (set_value V (variable_name g k) 0 v)
  in-range k V v there fits = record {
    object = with_value there.object 0 v;
    found = named-set_same V (variable_name g k) 0 v ∙ ap (option_map (λ o. with_value o 0 v)) there.found;
    limits = there.limits;
    value = v;
    single = ap (λ l. slice_set l 0 v) there.single;
    lies = fits there.object there.found;
  }

  again : (k : ℕ) (V : Variables) (id : NameId) (v : Value) → FitsThere x V id v → id ≡ variable_name g k → InRange k V → InRange k (set_value V id 0 v)
  again k V id v fits e h =
      subst (λ n. InRange k (set_value V n 0 v)) (sym e)
      (record {
        object = with_value h.object 0 v;
        found = named-set_same V (variable_name g k) 0 v ∙ ap (option_map (λ o. with_value o 0 v)) h.found;
        limits = h.limits;
        value = v;
        single = ap (λ l. slice_set l 0 v) h.single;
        lies = fits h.object (ap (object_named V) e ∙ h.found);
      })

  pub range-stable : (k : ℕ) → Stable x (λ V W. InRange k V)
  range-stable k V W id v near fits h = go (id.0 == (variable_name g k).0) refl
    where
      go : (c : Bool) → (id.0 == (variable_name g k).0) ≡ c → InRange k (set_value V id 0 v)
      go true e = again k V id v fits (ap (λ n. record { 0 = n }) (eqb-true id.0 (variable_name g k).0 e)) h
      go false e = record {
        object = h.object;
        found = named-set_other V id 0 v (variable_name g k) e ∙ h.found;
        limits = h.limits;
        value = h.value;
        single = h.single;
        lies = h.lies;
      }

  pub range-worth : (k : ℕ) (s : Span) (V : Variables) (h : InRange k V) → evaluated (form x).types V (variable g s k) ≡ Ok h.value
  range-worth k s V h = ap (λ o. Ok (name_value (form x).types o (variable_name g k))) h.found ∙ ap (λ (l : List Value). Ok (value_there (record { name = h.object.name; limits = h.object.limits; index = h.object.index; values = l }) 0)) h.single

  -- it is worth the value
  pub set-worth : (k : ℕ) (s : Span) (V : Variables) (v : Value) → IsThere x k V → FitsThere x V (variable_name g k) v → evaluated (form x).types (set_value V (variable_name g k) 0 v) (variable g s k) ≡ Ok v
  unfolding in-range
  set-worth k s V v there fits = range-worth k s (set_value V (variable_name g k) 0 v) (in-range k V v there fits)

  -- ---- the branches

  module _ (s : Span) (callee : PCallee) (what : Word → PStmts) (K : Goal) where
    abbrev name : NameId
    name = callee.name.name

    abbrev literals : Option Kind
    literals = kind_of_index g.types (array_range g.program name)

    abbrev pub word_of : TaskInfo → Word
    word_of info = word_at callee.name.span (task_name g info)

    abbrev kept : List TaskInfo → List TaskInfo
    kept infos = filter (λ info. (info.name.0 == name.0) && is_some info.member) infos

    abbrev pub found : Value → List TaskInfo → Option TaskInfo
    found v infos = find (λ info. (info.name.0 == name.0) && is_member (position_of v) info.member) infos

    module _ (V W : Variables) (near : Near x V W) where
      -- the literal of a member is worth its index
      literal-worth : (U U' : Variables) → Near x U U' → (v : Value) (c : TaskInfo) (j : ℤ) → c.member ≡ Some j → IsLiteral b literals s j → (d : Beside) →
          choices_fit (with_these x d U) v (record { first = index_literal literals s c.member; last = None } ∷ []) ≡ Ok (int_eq (position_of v) j)
      literal-worth U U' n v c j m h d =
          ap (λ l. choices_fit (with_these x d U) v (record { first = index_literal literals s l; last = None } ∷ [])) m
          ∙ ap (λ r. and_then (and_then r (λ z. Ok (lies_between z z v))) (λ z. if z then Ok true else Ok false))
          (fixed-worth b (form x).types U (λ id old fixed. fixed-none x U U' n id old fixed) h.fixed ∙ h.worth)
          ∙ fit-bool (lies_between h.value h.value v)
          ∙ ap (λ z. Ok (int_le z (position_of v) && int_le (position_of v) z)) h.position
          ∙ ap (λ z. Ok z) (eq-le (position_of v) j)

      -- both come to the branch of the member that is found, or beyond all
      pub arms-pass : (v : Value) (Others : Type 0) (infos : List TaskInfo) → AllByRecursion (HasLiteral b literals s) (kept infos) → (found v infos ≡ None → Others) →
          ((y : TaskInfo) → found v infos ≡ Some y → Passes x (what (word_of y)) K V W) → PassesCase x v (case_arms_of (map (member_arm g s callee what) (kept infos))) Others K V W
      arms-pass v Others [] all none h = none refl
      arms-pass v Others (c ∷ rest) all none h = go (c.name.0 == name.0) c.member refl all none h (λ a o f. arms-pass v Others rest a o f)
        where
          arm : (j : ℤ) → c.member ≡ Some j → IsLiteral b literals s j → AllByRecursion (HasLiteral b literals s) (kept rest) → (cond (int_eq (position_of v) j) (Some c) (found v rest) ≡ None → Others) →
              ((y : TaskInfo) → cond (int_eq (position_of v) j) (Some c) (found v rest) ≡ Some y → Passes x (what (word_of y)) K V W) →
              (AllByRecursion (HasLiteral b literals s) (kept rest) → (found v rest ≡ None → Others) → ((y : TaskInfo) → found v rest ≡ Some y → Passes x (what (word_of y)) K V W) →
              PassesCase x v (case_arms_of (map (member_arm g s callee what) (kept rest))) Others K V W) →
              PassesCase x v (case_arms_of (map (member_arm g s callee what) (c ∷ kept rest))) Others K V W
          arm j m lit all o f ih = record {
            same = λ d. literal-worth W W (near-right x V W near) v c j m lit d ∙ sym (literal-worth V W near v c j m lit d);
            into = λ d q. let t : int_eq (position_of v) j ≡ true = bool-is _ _ (sym (literal-worth V W near v c j m lit d) ∙ q) in
                f c (ap (λ z. cond z (Some c) (found v rest)) t);
            beyond = λ d q. let t : int_eq (position_of v) j ≡ false = bool-is _ _ (sym (literal-worth V W near v c j m lit d) ∙ q) in
                ih all (λ e. o (ap (λ z. cond z (Some c) (found v rest)) t ∙ e)) (λ y e. f y (ap (λ z. cond z (Some c) (found v rest)) t ∙ e));
          }

          go : (a : Bool) (m : Option ℤ) → c.member ≡ m → AllByRecursion (HasLiteral b literals s) (cond (a && is_some m) (c ∷ kept rest) (kept rest)) →
              (cond (a && is_member (position_of v) m) (Some c) (found v rest) ≡ None → Others) → ((y : TaskInfo) → cond (a && is_member (position_of v) m) (Some c) (found v rest) ≡ Some y → Passes x (what (word_of y)) K V W) →
              (AllByRecursion (HasLiteral b literals s) (kept rest) → (found v rest ≡ None → Others) → ((y : TaskInfo) → found v rest ≡ Some y → Passes x (what (word_of y)) K V W) →
              PassesCase x v (case_arms_of (map (member_arm g s callee what) (kept rest))) Others K V W) →
              PassesCase x v (case_arms_of (map (member_arm g s callee what) (cond (a && is_some m) (c ∷ kept rest) (kept rest)))) Others K V W
          go false m q all o f ih = ih all o f
          go true None q all o f ih = ih all o f
          go true (Some j) q all o f ih = arm j q (all.0 j q) all.1 o f ih

      pub variable-same : (k : ℕ) → Agree x V W (variable_name g k) → evaluated (form x).types W (variable g s k) ≡ evaluated (form x).types V (variable g s k)
      variable-same k a = ap (λ o. Ok (name_value (form x).types o (variable_name g k))) a

-- ---- a task of that name and index

find-place : (p : TaskInfo → Bool) (xs : List TaskInfo) (y : TaskInfo) → find p xs ≡ Some y → (t : ℕ) × (position p xs ≡ Some t) × (slice_get xs t ≡ Some y)
find-place p xs y h =
    let k : ℕ = position_or_len p xs in
    let e : slice_get xs k ≡ Some y = sym (find_at p xs) ∙ h in
    (k, ap (λ c. cond c (Some k) None) (lt_true k (length xs) (slice_get_within xs k y e)), e)

none-place : (p : TaskInfo → Bool) (xs : List TaskInfo) → find p xs ≡ None → position p xs ≡ None
none-place p xs h = go (nat_lt (position_or_len p xs) (length xs)) refl
  where
    go : (c : Bool) → nat_lt (position_or_len p xs) (length xs) ≡ c → cond c (Some (position_or_len p xs)) None ≡ None
    go false e = refl
    go true e =
        let q = element_at xs (position_or_len p xs) (lt_is (position_or_len p xs) (length xs) e) in
        absurd (none-some q.0 (sym h ∙ find_at p xs ∙ q.1))

module _ (x : Ground) (s : Span) (callee : PCallee) (asked : IsCallee x.programs callee) (n : ℕ) where
  abbrev o : Setting
  o = x.programs.original

  abbrev mv : Option PExpr
  mv = moving o.types callee.index

  -- the word is the name of a task to which the callee can come
  pub record Meant (w : Word) : Type 0 where
    pub task : ℕ
    pub meant : IsMeant x.programs callee task
    pub name : w.name ≡ task_name_at o task

  -- its index, where it moves, is in its variable
  abbrev pub ChosenReady : Goal
  ChosenReady V W = (e : PExpr) → mv ≡ Some e → InRange x n V × Agree x V W (variable_name o n)

  found-meant : (e : PExpr) → mv ≡ Some e → (v : Value) (y : TaskInfo) → found x s callee (λ w. no_stmt) (Near x) v o.numbers.tasks ≡ Some y → Meant (word_of x s callee (λ w. no_stmt) (Near x) y)
  found-meant e m v y q =
      let f = find-place (λ info. (info.name.0 == callee.name.name.0) && is_member (position_of v) info.member) o.numbers.tasks y q in
      record { task = f.0; meant = is_one e (position_of v) m (ap (λ q. ok_or q raised.Constraint) f.1); name = sym (ap (name_of_task o) f.2) }

  module _ (what : Word → PStmts) (K : Goal) (skip : Skipped x K) (skips : (w : Word) → Meant w → Skipped x (Passes x (what w) K)) where
    pub known-word : mv ≡ None → Meant (known_callee o callee)
    known-word m = record { task = (asked.known m).0; meant = is_named m (asked.known m).1; name = ap (λ r. task_name_at o (known_task r)) (asked.known m).1 }

    pub chosen-skip : Skipped x (Passes x (chosen o s callee n what) K)
    chosen-skip U u = go mv refl
      where
        go : (q : Option PExpr) → mv ≡ q → Passes x (chosen_if q o s callee n what) K U U
        go None m = skips (known_callee o callee) (known-word m) U u
        go (Some e) m = (
          (λ cells. (
            refl,
            λ v q. arms-pass x s callee what K U U u v (Passes x (one (SNull s)) K U U) o.numbers.tasks (asked.literals e m s) (λ f. ((λ k. skip U u), skip))
                (λ y f. skips (word_of x s callee what K y) (found-meant e m v y f) U u),
          )),
          skip,
        )

    pub chosen-pass : (bound : (e : PExpr) → mv ≡ Some e → (z : ℤ) → lies_in (x.added.bounds n) z ≡ is_ok (member_named o.numbers callee.name.name z)) → (V W : Variables) → Near x V W → ChosenReady V W →
        ((w : Word) → Meant w → Passes x (what w) K V W) → Passes x (chosen o s callee n what) K V W
    chosen-pass bound V W near ready h = go mv refl
      where
        go : (q : Option PExpr) → mv ≡ q → Passes x (chosen_if q o s callee n what) K V W
        go None m = h (known_callee o callee) (known-word m)
        go (Some e) m =
            let r = ready e m in (
              (λ cells. (
                variable-same x s callee what K V W near n r.1,
                λ v q.
                    let same : r.0.value ≡ v = ok-is (sym (range-worth x n s V r.0) ∙ q) in
                    arms-pass x s callee what K V W near v (Passes x (one (SNull s)) K V W) o.numbers.tasks (asked.literals e m s)
                    (λ f. absurd (not-none v (ap (λ l. lies_in l (position_of v)) (sym r.0.limits) ∙ ap (λ u. lies_in r.0.object.limits (position_of u)) (sym same) ∙ r.0.lies) (bound e m (position_of v)) f))
                    (λ y f. h (word_of x s callee what K y) (found-meant e m v y f)),
              )),
              skip,
            )
          where
            not-none : (v : Value) → lies_in (x.added.bounds n) (position_of v) ≡ true → lies_in (x.added.bounds n) (position_of v) ≡ is_ok (member_named o.numbers callee.name.name (position_of v)) →
                found x s callee what K v o.numbers.tasks ≡ None → ⊥
            not-none v lies is f =
                true≢false (sym lies ∙ is ∙ ap (λ q. is_ok (ok_or q raised.Constraint)) (none-place (λ info. (info.name.0 == callee.name.name.0) && is_member (position_of v) info.member) o.numbers.tasks f))

            ok-is : {u v : Value} → ◌≡◌ {A = Result Value Raised} (Ok u) (Ok v) → u ≡ v
            ok-is k = cc

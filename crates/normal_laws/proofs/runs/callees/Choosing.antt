-- A callee: its index is made where it is not static, and the case statement over the index's variable comes to the branch of the member.
use Rattle.std.proofs.Common.{◌≡◌, ℕ, ◌+◌, ◌≤◌, ℤ, Bool, true, false, cond, ◌==◌, ◌&&◌, if◌then◌else◌, List, [], ◌∷◌, ◌++◌, length, map, Option, Some, None, Result, Ok, Err, refl, sym, ap, subst, ◌∙◌, arith, slice_get, position, get_or}
use Rattle.std.specs.Prelude.{int_le, is_some, is_ok, ok_or, find, nat_lt}
use Rattle.std.specs.List.{AllByRecursion, filter, position_or_len}
use Rattle.std.specs.Ordering.{int_eq}
use Rattle.std.proofs.lemmas.Bool.Decides.{Decides-int_eq}
use Rattle.std.proofs.lemmas.List.Quantifiers.{position-Some}
use Rattle.std.proofs.lemmas.List.Folds.{find_at}
use Rattle.std.proofs.lemmas.Option.{slice_get-get_or}
use Rattle.ada_tree.specs.declared.naming.NameId.{NameId}
use Rattle.ada_tree.specs.declared.naming.Span.{Span}
use Rattle.ada_tree.specs.declared.naming.Word.{Word}
use Rattle.ada_tree.specs.declared.static_types.Kind.{Kind}
use Rattle.ada_tree.specs.PlainExpr.{PExpr}
use Rattle.ada_tree.specs.PlainStmt.{PCallee, SNull, PStmts, stmt_then, PMaybe, present, case_arms_of}
use Rattle.syn_event.specs.declared.numbering.TaskInfo.{TaskInfo}
use Rattle.ada_value.specs.declared.values.Value.{Value}
use Rattle.ada_value.specs.declared.values.Raised.{Raised}
use Rattle.ada_value.specs.declared.values.Raised.TheVariants as raised
use Rattle.ada_value.specs.declared.values.Limits.{Limits}
use Rattle.ada_value.specs.Values.{and_then, checked, lies_in, position_of}
use Rattle.ada_value.specs.Variables.{Variables}
use Rattle.ada_value.specs.Evaluating.{evaluated}
use Rattle.task_model.specs.Setting.{Setting, is_member, member_named, task_meant, callee_task}
use Rattle.task_model.specs.Frames.{Around, PFrame, control, in_front}
use Rattle.task_model.specs.Tasks.{Task, entered, stmts_or_none, or_raised}
use Rattle.task_model.specs.Steps.{lies_between, choices_fit, case_taken}
use Rattle.task_model.specs.Stands.{stepped}
use Rattle.normal_model.specs.Names.{task_name, task_name_at, name_of_task}
use Rattle.normal_model.specs.Ranges.{word_at, array_range}
use Rattle.normal_model.specs.Making.{one, moving, variable}
use Rattle.normal_model.specs.Members.{known_task, known_callee, kind_of_index, index_literal, member_arm, by_member, chosen_if}
use Rattle.task_laws.specs.translation.Translations.{Translation, types_before, types_after}
use Rattle.task_laws.specs.translation.OldNames.{OldExpr, OldOption, old_some}
use Rattle.task_laws.specs.translation.Images.{IsSomething, something_there}
use Rattle.task_laws.specs.translation.Controls.{task_in, Under}
use Rattle.task_laws.specs.translation.Floors.{IsTranslation}
use Rattle.task_laws.proofs.translation.Fixed.{fixed-after, fixed-worth}
use Rattle.task_laws.proofs.translation.Frames.{sees-alike}
use Rattle.normal_laws.specs.runs.floors.Suited.{AreMade, is_named, is_member as is_one, IsLiteral, HasLiteral, IsCallee}
use Rattle.normal_laws.specs.runs.floors.Preludes.{Reaches, reaches_here, reaches_by, Added, AreThere, due_before, worth_then, as_some, due_worth, OldDues, old_due, Hold, hold_value, Prelude, given, stopped}
use Rattle.normal_laws.specs.runs.floors.Declared.{dues_of}
use Rattle.normal_laws.proofs.runs.floors.Actuals.{held-value}
use Rattle.normal_laws.proofs.runs.floors.Preludes.{prelude, reaches_to}
use Rattle.normal_laws.proofs.runs.floors.Static.{moving-is, callee-stays}
use Rattle.normal_laws.specs.runs.callees.inner.Callees.{Chosen, chosen_with, the_chosen, MeetsCallee, meets_task, meets_raise}

-- ---- one checked value, and what is done with it

-- a value that goes to its variable first and then on: where a value in the subtype goes on, and no other does
pub one-due : {A : Type 0} (limits : Limits) (r : Result Value Raised) (f : Value → Result A Raised) (rest : Result (List (Option Value)) Raised) (h : List (Option Value) → A) →
    ((v : Value) → lies_in limits (position_of v) ≡ true → f v ≡ and_then rest (λ ws. Ok (h (Some v ∷ ws)))) →
    ((v : Value) → lies_in limits (position_of v) ≡ false → f v ≡ Err raised.Constraint) →
    and_then r f ≡ and_then (worth_then (as_some (and_then r (λ v. checked limits v))) rest) (λ ws. Ok (h ws))
one-due limits (Err e) f rest h good bad = refl
one-due {A} limits (Ok v) f rest h good bad = go (lies_in limits (position_of v)) (good v) (bad v)
  where
    then-same : (t : Result (List (Option Value)) Raised) → and_then t (λ ws. Ok (h (Some v ∷ ws))) ≡ and_then (and_then t (λ vs. Ok (Some v ∷ vs))) (λ ws. Ok (h ws))
    then-same (Ok ws) = refl
    then-same (Err e) = refl

    go : (b : Bool) → (b ≡ true → f v ≡ and_then rest (λ ws. Ok (h (Some v ∷ ws)))) → (b ≡ false → f v ≡ Err raised.Constraint) →
        f v ≡ and_then (worth_then (as_some (if b then Ok v else Err raised.Constraint)) rest) (λ ws. Ok (h ws))
    go true y n = y refl ∙ then-same rest
    go false y n = n refl

-- one thing behind two others
pub then-then : {A B C : Type 0} (r : Result A Raised) (f : A → Result B Raised) (h : B → Result C Raised) → and_then (and_then r f) h ≡ and_then r (λ a. and_then (f a) h)
then-then (Ok a) f h = refl
then-then (Err e) f h = refl

-- one row of steps behind another
pub reaches-behind : {κ κ1 κ2 : Task} → Reaches κ κ1 → Reaches κ1 κ2 → Reaches κ κ2
reaches-behind (reaches_here κ) r = r
reaches-behind (reaches_by κ κ1 steps out h) r = reaches_by κ _ steps out (reaches-behind h r)

-- ---- the branch of a member

-- a position lies between another and itself where the two are the same
pub eq-le : (z i : ℤ) → (int_le i z && int_le z i) ≡ int_eq z i
eq-le z i = grind (arith, Decides-int_eq)

some-is : (c d : TaskInfo) → Some c ≡ Some d → c ≡ d
some-is c d e = cc

-- the first task that passes is the one at its place
first-at : {X : Type 0} (p : X → Bool) (xs : List X) (t : ℕ) → position p xs ≡ Some t → (y : X) × (find p xs ≡ Some y) × (slice_get xs t ≡ Some y)
first-at p [] t h = cc
first-at p (k ∷ ks) t h =
    let f = position-Some p (k ∷ ks) t k h in
    let g : slice_get (k ∷ ks) t ≡ Some (get_or (k ∷ ks) t k) = slice_get-get_or (k ∷ ks) t k f.0 in
    (get_or (k ∷ ks) t k, find_at p (k ∷ ks) ∙ ap (slice_get (k ∷ ks)) (position-is (k ∷ ks) t h) ∙ g, g)
  where
    position-is : (xs : List _) (t : ℕ) → position p xs ≡ Some t → position_or_len p xs ≡ t
    position-is xs t e = go (nat_lt (position_or_len p xs) (length xs)) e
      where
        go : (b : Bool) → cond b (Some (position_or_len p xs)) None ≡ Some t → position_or_len p xs ≡ t
        go true k = cc
        go false k = cc

module _ (x : Translation) (laws : IsTranslation x) (made : AreMade x.text.programs) (added : Added x.text.programs x.text.programs.original) (n : ℕ) (i : List ℤ) (out : List ℕ) (p p' : Around) (o o' : List PFrame)
    (s : Span) (callee : PCallee) (what : Word → PStmts) (rows : (w : Word) → IsSomething (what w)) (behind : PStmts) where
  abbrev g : Setting
  g = x.text.programs.original

  abbrev at : PStmts → Variables → Task
  at r W = task_in x.text.programs.made n i out (control r p' o' W)

  abbrev name : NameId
  name = callee.name.name

  abbrev literals : Option Kind
  literals = kind_of_index g.types (array_range g.program name)

  -- the word of a task
  abbrev word_of : TaskInfo → Word
  word_of info = word_at callee.name.span (task_name g info)

  -- the members among tasks, what their case statement comes to, and the member at that position
  abbrev kept : List TaskInfo → List TaskInfo
  kept infos = filter (λ info. (info.name.0 == name.0) && is_some info.member) infos

  abbrev taken : Task → Value → PMaybe → List TaskInfo → Result PMaybe Raised
  taken κ v others infos = case_taken κ v (case_arms_of (map (member_arm g s callee what) infos)) others

  abbrev found : Value → List TaskInfo → Option TaskInfo
  found v infos = find (λ info. (info.name.0 == name.0) && is_member (position_of v) info.member) infos

  fit-bool : (b : Bool) → and_then {A = Bool} {B = Bool} (Ok b) (λ c. if c then Ok true else Ok false) ≡ Ok b
  fit-bool true = refl
  fit-bool false = refl

  -- the arm of the member at that index, among those of some tasks
  arm-found : (κ : Task) → ((z : ℤ) → IsLiteral x.text.programs literals s z → (a : Value) × (evaluated κ.setting.types κ.control.vars (index_literal literals s (Some z)) ≡ Ok a) × (position_of a ≡ z)) →
      (v : Value) (others : PMaybe) (infos : List TaskInfo) → AllByRecursion (HasLiteral x.text.programs literals s) (kept infos) → (info : TaskInfo) →
      found v infos ≡ Some info →
      taken κ v others (kept infos) ≡ Ok (present (what (word_of info)))
  arm-found κ worth v others [] all info e = cc
  arm-found κ worth v others (c ∷ rest) all info e = go (c.name.0 == name.0) c.member refl all e (λ h f. arm-found κ worth v others rest h info f)
    where
      fits : (j : ℤ) → c.member ≡ Some j → IsLiteral x.text.programs literals s j →
          choices_fit κ v (record { first = index_literal literals s c.member; last = None } ∷ []) ≡ Ok (int_eq (position_of v) j)
      fits j m h =
          let a = worth j h in
          ap (λ l. choices_fit κ v (record { first = index_literal literals s l; last = None } ∷ [])) m
          ∙ ap (λ r. and_then (and_then r (λ b. Ok (lies_between b b v))) (λ b. if b then Ok true else Ok false)) a.1
          ∙ fit-bool (lies_between a.0 a.0 v)
          ∙ ap (λ z. Ok (int_le z (position_of v) && int_le (position_of v) z)) a.2
          ∙ ap (λ b. Ok b) (eq-le (position_of v) j)

      arm : (j : ℤ) → c.member ≡ Some j → IsLiteral x.text.programs literals s j → (b : Bool) → int_eq (position_of v) j ≡ b → cond b (Some c) (found v rest) ≡ Some info →
          (found v rest ≡ Some info → taken κ v others (kept rest) ≡ Ok (present (what (word_of info)))) → taken κ v others (c ∷ kept rest) ≡ Ok (present (what (word_of info)))
      arm j m h true q f ih =
          ap (λ r. and_then r (λ b. if b then Ok (present (what (word_of c))) else taken κ v others (kept rest))) (fits j m h ∙ ap (λ b. Ok b) q)
          ∙ ap (λ d. Ok (present (what (word_of d)))) (some-is c info f)
      arm j m h false q f ih = ap (λ r. and_then r (λ b. if b then Ok (present (what (word_of c))) else taken κ v others (kept rest))) (fits j m h ∙ ap (λ b. Ok b) q) ∙ ih f

      go : (a : Bool) (m : Option ℤ) → c.member ≡ m → AllByRecursion (HasLiteral x.text.programs literals s) (cond (a && is_some m) (c ∷ kept rest) (kept rest)) →
          cond (a && is_member (position_of v) m) (Some c) (found v rest) ≡ Some info →
          (AllByRecursion (HasLiteral x.text.programs literals s) (kept rest) → found v rest ≡ Some info → taken κ v others (kept rest) ≡ Ok (present (what (word_of info)))) →
          taken κ v others (cond (a && is_some m) (c ∷ kept rest) (kept rest)) ≡ Ok (present (what (word_of info)))
      go false m q h f ih = ih h f
      go true None q h f ih = ih h f
      go true (Some j) q h f ih = arm j q (h.0 j q) (int_eq (position_of v) j) refl f (ih h.1)

  -- ---- the case statement

  ok-some : (q : Option ℕ) (t : ℕ) → ok_or q raised.Constraint ≡ Ok t → q ≡ Some t
  ok-some None t e = cc
  ok-some (Some k) t e = cc

  ok-there : (q : Option ℕ) → is_ok (ok_or q raised.Constraint) ≡ true → (t : ℕ) × (ok_or q raised.Constraint ≡ Ok t)
  ok-there None e = cc
  ok-there (Some k) e = (k, refl)

  ok-none : (q : Option ℕ) → is_ok (ok_or q raised.Constraint) ≡ false → ok_or q raised.Constraint ≡ Err raised.Constraint
  ok-none None e = refl
  ok-none (Some k) e = cc

  entered-row : {r : PStmts} → IsSomething r → (first : PStmts) (W : Variables) → entered r behind (at first W) ≡ at (in_front r behind) W
  entered-row (something_there t l) first W = refl

  -- the case statement over a variable that holds the index of a member comes to that member's branch
  member-step : (asked : IsCallee x.text.programs callee) (e : PExpr) → moving g.types callee.index ≡ Some e → (k : ℕ) (V W : Variables) → Under x p o V p' o' W → (v : Value) →
      evaluated (types_after x.text.programs) W (variable g s k) ≡ Ok v → (t : ℕ) → member_named g.numbers name (position_of v) ≡ Ok t →
      (w : Word) × (w.name ≡ task_name_at g t) × (stepped (at (stmt_then (by_member g s callee k what) behind) W) ≡ at (in_front (what w) behind) W)
  member-step asked e mv k V W u v ev t q =
      let f = first-at (λ info. (info.name.0 == name.0) && is_member (position_of v) info.member) g.numbers.tasks t (ok-some _ t q) in
      let κ : Task = at (stmt_then (by_member g s callee k what) behind) W in (
        word_of f.0,
        sym (ap (name_of_task g) f.2),
        ap (λ r. or_raised (λ branch. entered (stmts_or_none branch) behind κ) κ (and_then r (λ a. taken κ a (present (one (SNull s))) (kept g.numbers.tasks)))) ev
            ∙ ap (λ r. or_raised (λ branch. entered (stmts_or_none branch) behind κ) κ r)
            (arm-found κ (λ z h. (h.value, fixed-worth x.text.programs (types_after x.text.programs) W (λ id old fixed. fixed-after x.text.programs (sees-alike x laws u) id old fixed) h.fixed ∙ h.worth, h.position))
            v (present (one (SNull s))) g.numbers.tasks (asked.literals e mv s) f.0 f.1)
            ∙ entered-row (rows (word_of f.0)) (stmt_then (by_member g s callee k what) behind) W,
      )

  -- ---- what comes of a callee

  some-old : (e : PExpr) → OldOption x.text.programs (Some e) → OldExpr x.text.programs e
  some-old e (old_some d h) = h

  -- the values in front of any row
  prelude-row : {goal : PStmts} → IsSomething goal → (V W : Variables) {ds : List (Option PExpr)} → OldDues x.text.programs ds → (k : ℕ) → k + length ds ≤ added.count → Under x p o V p' o' W → AreThere added W →
      Prelude x added n i out p o V p' o' (at (in_front (due_before g s ds k) goal) W) goal k W ds
  prelude-row (something_there t r) V W old k l u there = prelude x laws g added n i out p p' o o' V s t r old k W l u there

  row-front : {r : PStmts} → IsSomething r → IsSomething (in_front r behind)
  row-front (something_there t r) = something_there t _

  worth-first : (r : Result (Option Value) Raised) (rs : Result (List (Option Value)) Raised) (v : Option Value) (vs : List (Option Value)) → worth_then r rs ≡ Ok (v ∷ vs) → (r ≡ Ok v) × (rs ≡ Ok vs)
  worth-first (Ok a) (Ok us) v vs e = (cc, cc)
  worth-first (Ok a) (Err e1) v vs e = cc
  worth-first (Err e1) rs v vs e = cc

  some-first : (r : Result Value Raised) (v : Value) → as_some r ≡ Ok (Some v) → r ≡ Ok v
  some-first (Ok a) v e = cc
  some-first (Err e1) v e = cc

  checked-first : (limits : Limits) (r : Result Value Raised) (v : Value) → and_then r (λ a. checked limits a) ≡ Ok v → r ≡ Ok v
  checked-first limits (Err e1) v e = cc
  checked-first limits (Ok a) v e = ap (λ c. Ok c) (go (lies_in limits (position_of a)) e)
    where
      go : (b : Bool) → (if b then Ok a else Err raised.Constraint) ≡ Ok v → a ≡ v
      go true f = cc
      go false f = cc

  -- the member at the position of the first value, and the values behind it
  abbrev behind_index : List (Option Value) → Chosen
  behind_index [] = the_chosen 0 []
  behind_index (None ∷ ws) = the_chosen 0 ws
  behind_index (Some v ∷ ws) = the_chosen (known_task (member_named g.numbers name (position_of v))) ws

  meant-of : (V : Variables) (e : PExpr) → moving g.types callee.index ≡ Some e → callee_task g V callee ≡ and_then (evaluated (types_before x.text.programs) V e) (λ v. member_named g.numbers name (position_of v))
  meant-of V e mv = ap (λ q. task_meant g V name q) (moving-is x.text.programs made callee.index e mv)

  -- a callee's index and the values behind it, by what goes to variables
  index-due : (V : Variables) (e : PExpr) → moving g.types callee.index ≡ Some e → (m : ℕ) → ((z : ℤ) → lies_in (added.bounds m) z ≡ is_ok (member_named g.numbers name z)) → (rest : Result (List (Option Value)) Raised) →
      chosen_with the_chosen (callee_task g V callee) rest
      ≡ and_then (worth_then (as_some (and_then (evaluated (types_before x.text.programs) V e) (λ v. checked (added.bounds m) v))) rest) (λ ws. Ok (behind_index ws))
  index-due V e mv m bound rest =
      ap (λ r. chosen_with the_chosen r rest) (meant-of V e mv)
      ∙ then-then (evaluated (types_before x.text.programs) V e) (λ v. member_named g.numbers name (position_of v)) (λ t. and_then rest (λ ws. Ok (the_chosen t ws)))
      ∙ one-due (added.bounds m) (evaluated (types_before x.text.programs) V e) (λ v. and_then (member_named g.numbers name (position_of v)) (λ t. and_then rest (λ ws. Ok (the_chosen t ws)))) rest behind_index
      (λ v lies. let q = ok-there _ (sym (bound (position_of v)) ∙ lies) in
      ap (λ r. and_then r (λ t. and_then rest (λ ws. Ok (the_chosen t ws)))) q.1 ∙ ap (λ t. and_then rest (λ ws. Ok (the_chosen (known_task t) ws))) (sym q.1))
      (λ v lies. ap (λ r. and_then r (λ t. and_then rest (λ ws. Ok (the_chosen t ws)))) (ok-none _ (sym (bound (position_of v)) ∙ lies)))

  module _ (asked : IsCallee x.text.programs callee) (old : OldOption x.text.programs callee.index) where
    -- the callee is known without variables
    known-comes : moving g.types callee.index ≡ None → (m : ℕ) (ds : List (Option PExpr)) → OldDues x.text.programs ds → m + length ds ≤ added.count → (V W : Variables) → Under x p o V p' o' W → AreThere added W →
        MeetsCallee x added n i out p o V p' o' (at (in_front (due_before g s ds m) (in_front (what (known_callee g callee)) behind)) W) callee what behind m ds
    known-comes mv m ds olds l V W u there = go (prelude-row (row-front (rows (known_callee g callee))) V W olds m l u there)
      where
        known : callee_task g V callee ≡ Ok (asked.known mv).0
        known = callee-stays x.text.programs made (sees-alike x laws u) callee old mv ∙ (asked.known mv).1

        go : Prelude x added n i out p o V p' o' (at (in_front (due_before g s ds m) (in_front (what (known_callee g callee)) behind)) W) (in_front (what (known_callee g callee)) behind) m W ds →
            MeetsCallee x added n i out p o V p' o' (at (in_front (due_before g s ds m) (in_front (what (known_callee g callee)) behind)) W) callee what behind m ds
        go (given vs W1 res v reach still hold kept1) =
            meets_task (asked.known mv).0 (known_callee g callee) vs W1 known (is_named mv (asked.known mv).1) (ap (λ r. task_name_at g (known_task r)) (asked.known mv).1) res hold v still reach
        go (stopped a r W1 res v reach steps stop still) =
            meets_raise a r W1 (ap (λ q. chosen_with the_chosen q (due_worth (types_before x.text.programs) V added.bounds ds m)) known
            ∙ ap (λ q. and_then q (λ ws. Ok (the_chosen (asked.known mv).0 ws))) res) v reach steps stop

    -- the callee is chosen
    member-comes : (e : PExpr) → moving g.types callee.index ≡ Some e → OldExpr x.text.programs e → (m : ℕ) → ((z : ℤ) → lies_in (added.bounds m) z ≡ is_ok (member_named g.numbers name z)) →
        (ds : List (Option PExpr)) → OldDues x.text.programs ds → m + length (Some e ∷ ds) ≤ added.count → (V W : Variables) → Under x p o V p' o' W → AreThere added W →
        MeetsCallee x added n i out p o V p' o' (at (in_front (due_before g s (Some e ∷ ds) m) (stmt_then (by_member g s callee m what) behind)) W) callee what behind (m + 1) ds
    member-comes e mv olde m bound ds olds l V W u there = go (prelude-row (something_there (by_member g s callee m what) behind) V W (old_due e ds olde olds) m l u there)
      where
        came : (vs : List (Option Value)) (W1 : Variables) → due_worth (types_before x.text.programs) V added.bounds (Some e ∷ ds) m ≡ Ok vs → Under x p o V p' o' W1 →
            Reaches (at (in_front (due_before g s (Some e ∷ ds) m) (stmt_then (by_member g s callee m what) behind)) W) (at (stmt_then (by_member g s callee m what) behind) W1) → AreThere added W1 →
            Hold added W1 m (Some e ∷ ds) vs →
            MeetsCallee x added n i out p o V p' o' (at (in_front (due_before g s (Some e ∷ ds) m) (stmt_then (by_member g s callee m what) behind)) W) callee what behind (m + 1) ds
        came vs W1 res v reach still (hold_value k1 e1 a ds1 ws c lies rest) =
            let first = worth-first _ _ (Some a) ws res in
            let value : evaluated (types_before x.text.programs) V e ≡ Ok a = checked-first (added.bounds m) (evaluated (types_before x.text.programs) V e) a (some-first _ a first.0) in
            let q = ok-there _ (sym (bound (position_of a)) ∙ lies) in
            let step = member-step asked e mv m V W1 v a (held-value x.text.programs laws.types g added s m W1 a c) q.0 q.1 in
            meets_task q.0 step.0 ws W1 (meant-of V e mv ∙ ap (λ r. and_then r (λ b. member_named g.numbers name (position_of b))) value ∙ q.1)
            (is_one e (position_of a) mv q.1) step.1 first.1 rest v still (reaches-behind reach (reaches_to refl step.2 refl (reaches_here _)))

        go : Prelude x added n i out p o V p' o' (at (in_front (due_before g s (Some e ∷ ds) m) (stmt_then (by_member g s callee m what) behind)) W) (stmt_then (by_member g s callee m what) behind) m W (Some e ∷ ds) →
            MeetsCallee x added n i out p o V p' o' (at (in_front (due_before g s (Some e ∷ ds) m) (stmt_then (by_member g s callee m what) behind)) W) callee what behind (m + 1) ds
        go (given vs W1 res v reach still hold kept1) = came vs W1 res v reach still hold
        go (stopped a r W1 res v reach steps stop still) =
            meets_raise a r W1 (index-due V e mv m bound (due_worth (types_before x.text.programs) V added.bounds ds (m + 1)) ∙ ap (λ q. and_then q (λ ws. Ok (behind_index ws))) res) v reach steps stop

    -- by whether its index moves
    pub callee-comes : (mv : Option PExpr) → moving g.types callee.index ≡ mv → (m : ℕ) → ((e : PExpr) → mv ≡ Some e → (z : ℤ) → lies_in (added.bounds m) z ≡ is_ok (member_named g.numbers name z)) →
        (ds : List (Option PExpr)) → OldDues x.text.programs ds → m + length (dues_of mv ++ ds) ≤ added.count → (V W : Variables) → Under x p o V p' o' W → AreThere added W →
        MeetsCallee x added n i out p o V p' o' (at (in_front (due_before g s (dues_of mv ++ ds) m) (in_front (chosen_if mv g s callee m what) behind)) W) callee what behind (m + length (dues_of mv)) ds
    callee-comes None mv m bound ds olds l V W u there =
        let e : m ≡ m + 0 = omega arith in
        subst (λ k. MeetsCallee x added n i out p o V p' o' (at (in_front (due_before g s ds m) (in_front (what (known_callee g callee)) behind)) W) callee what behind k ds) e
        (known-comes mv m ds olds l V W u there)
    callee-comes (Some e) mv m bound ds olds l V W u there = member-comes e mv (old-moving e mv) m (bound e refl) ds olds l V W u there
      where
        old-moving : (e : PExpr) → moving g.types callee.index ≡ Some e → OldExpr x.text.programs e
        old-moving e mv = some-old e (subst (OldOption x.text.programs) (moving-is x.text.programs made callee.index e mv) old)

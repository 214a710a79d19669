-- What the image does at a place by itself: assignments to its variables, exits from its loop and turns of it, and the branches behind it.
use Rattle.std.proofs.Common.{arith, ◌≡◌, ℕ, ◌+◌, ◌<◌, ◌≤◌, ℤ, pos, int_eq, Bool, true, false, if◌then◌else◌, List, ◌∷◌, Option, Some, None, Result, Ok, refl, sym, ap, subst, ◌∙◌}
use Rattle.std.proofs.lemmas.Int.{ints}
use Rattle.ada_tree.specs.declared.naming.NameId.{NameId}
use Rattle.ada_tree.specs.declared.naming.Span.{Span}
use Rattle.ada_tree.specs.declared.expressions.BinaryOp.TheVariants.{Equal, NotEqual}
use Rattle.ada_tree.specs.declared.expressions.UnaryOp.TheVariants.{Not}
use Rattle.ada_tree.specs.TypeTable.{TypeTable}
use Rattle.ada_tree.specs.PlainExpr.{PExpr, EInteger, EName}
use Rattle.ada_tree.specs.PlainStmt.{SExit, SIf, PStmts, no_stmt, stmt_then, PMaybe, absent, present, alternative, AAccept, ADelay, ATerminate, PAlt, PAlts, no_alt, alt_then, PArms, no_arm, arm_then, arm}
use Rattle.ada_value.specs.declared.values.Limits.{Limits}
use Rattle.ada_value.specs.declared.values.Raised.{Raised}
use Rattle.ada_value.specs.declared.values.Value.{Value}
use Rattle.ada_value.specs.declared.values.Value.TheVariants.{Number, Truth}
use Rattle.ada_value.specs.Values.{and_then, is_true_value, checked, integer_limits, truth_limits}
use Rattle.ada_value.specs.Variables.{Variables, object_named, checked_for, set_value}
use Rattle.ada_value.specs.Evaluating.{evaluated, operated, signed_value, combined}
use Rattle.task_model.specs.Frames.{Endless, Around, Loop, PFrame, control, in_front, settled}
use Rattle.task_model.specs.Tasks.{Task, with_vars, gone_to, stmts_or_none, entered, or_raised}
use Rattle.task_model.specs.Steps.{exited, arm_taken}
use Rattle.task_model.specs.Stands.{stepped}
use Rattle.task_laws.specs.translation.Controls.{frame, task_in}
use Rattle.normal_model.specs.Making.{one, or_null}
use Rattle.normal_laws.specs.runs.floors.Preludes.{Reaches, reaches_here, IsCell}
use Rattle.normal_laws.proofs.runs.floors.Preludes.{reaches_to}
use Rattle.collect_runs.specs.telling.Texts.{IsInteger}
use Rattle.collect_runs.proofs.telling.Noting.{literal}
use Rattle.collect_runs.proofs.telling.Hearing.{cell-worth}
use Rattle.collect_model.specs.aborts.AbortTeller.{AbortTeller}
use Rattle.collect_model.specs.aborts.Noting.{over}
use Rattle.collect_model.specs.aborts.Calling.{is_part}
use Rattle.collect_model.specs.aborts.Serving.{variable_is, is_not_refused}
use Rattle.collect_model.specs.aborts.Waiting.{is_taken, behind_alternatives, branch_then, branches}
use Rattle.collect_runs.specs.aborts.translation.Floors.{IsBranch, this_branch, later_branch}
use Rattle.collect_runs.specs.aborts.telling.Texts.{Texts, text}

-- ---- numbers of alternatives

-- the j-th of these alternatives, which are numbered from i on, is a delay, with these statements behind
pub data IsDelayed : PAlts → ℕ → ℕ → Span → PStmts → Type 0 where
  this_delay : (guard : Option PExpr) (d : ℕ) (l : PStmts) (s : Span) (rest : PAlts) (i : ℕ) → IsDelayed (alt_then (alternative guard (ADelay d l) s) rest) i i s l
  later_delay : (alt : PAlt) (rest : PAlts) (i j : ℕ) (s : Span) (l : PStmts) → IsDelayed rest (i + 1) j s l → IsDelayed (alt_then alt rest) i j s l

pub branch-above : {alts : PAlts} {i j : ℕ} {s : Span} {l : PStmts} → IsBranch alts i j s l → i ≤ j
branch-above (this_branch guard a l s rest i) = omega arith
branch-above (later_branch alt rest i j s l is) = let le = branch-above is in omega (arith, le)

delay-above : {alts : PAlts} {i j : ℕ} {s : Span} {l : PStmts} → IsDelayed alts i j s l → i ≤ j
delay-above (this_delay guard d l s rest i) = omega arith
delay-above (later_delay alt rest i j s l is) = let le = delay-above is in omega (arith, le)

else-above : (alts : PAlts) (i : ℕ) → i ≤ behind_alternatives alts i
else-above no_alt i = omega arith
else-above (alt_then alt rest) i = let le = else-above rest (i + 1) in omega (arith, le)

module _ (x : Texts) (t : ℕ) (i : List ℤ) (w : List ℕ) where
  abbrev T : TypeTable
  T = (text x).types

  -- the image where it stands so, and as it goes on so
  abbrev pub stood : PStmts → Around → List PFrame → Variables → Task
  stood r q o V = task_in (text x) t i w (control r q o V)

  abbrev pub gone : PStmts → Around → List PFrame → Variables → Task
  gone r q o V = task_in (text x) t i w (settled (control r q o V))

  -- ---- assignments

  -- a variable gets the value of another
  pub assign-goes : (s : Span) (a b : NameId) (limits : Limits) (u v : Value) (rest : PStmts) (q : Around) (o : List PFrame) (V : Variables) →
      IsCell V a limits u → evaluated (text x).types V (EName b s) ≡ Ok v → checked limits v ≡ Ok v →
      Reaches (task_in (text x) t i w (control (stmt_then (variable_is s a b) rest) q o V)) (task_in (text x) t i w (settled (control rest q o (set_value V a 0 v))))
  assign-goes s a b limits u v rest q o V c worth fits =
      let κ : Task = stood (stmt_then (variable_is s a b) rest) q o V in
      let path : stepped κ ≡ gone rest q o (set_value V a 0 v) =
      ap (λ r. or_raised (λ vars. gone_to rest (with_vars κ vars)) κ (and_then r (λ y. and_then (checked_for (object_named V a) y) (λ z. Ok (set_value V a 0 z))))) worth
      ∙ ap (λ ob. or_raised (λ vars. gone_to rest (with_vars κ vars)) κ (and_then (checked_for ob v) (λ z. Ok (set_value V a 0 z)))) c.found
      ∙ ap (λ r. or_raised (λ vars. gone_to rest (with_vars κ vars)) κ (and_then r (λ z. Ok (set_value V a 0 z)))) fits in
      reaches_to refl path refl (reaches_here (gone rest q o (set_value V a 0 v)))

  -- ---- exits

  module _ (s : Span) (e : PExpr) (turn after : PStmts) (q : Around) (o : List PFrame) (V : Variables) where
    abbrev at_exit : Task
    at_exit = stood (one (SExit None (Some e) s)) (Loop None Endless turn) (frame after q ∷ o) V

    -- the loop is left where the condition holds
    pub exit-leaves : evaluated (text x).types V e ≡ Ok (Truth true) →
        Reaches (task_in (text x) t i w (control (one (SExit None (Some e) s)) (Loop None Endless turn) (frame after q ∷ o) V)) (task_in (text x) t i w (settled (control after q o V)))
    exit-leaves worth =
        reaches_to refl (ap (λ r. or_raised (λ b. if b then exited None at_exit else gone_to no_stmt at_exit) at_exit (and_then r (λ v. Ok (is_true_value v)))) worth) refl
        (reaches_here (gone after q o V))

    -- and else it turns
    pub exit-stays : evaluated (text x).types V e ≡ Ok (Truth false) →
        Reaches (task_in (text x) t i w (control (one (SExit None (Some e) s)) (Loop None Endless turn) (frame after q ∷ o) V))
        (task_in (text x) t i w (settled (control turn (Loop None Endless turn) (frame after q ∷ o) V)))
    exit-stays worth =
        reaches_to refl (ap (λ r. or_raised (λ b. if b then exited None at_exit else gone_to no_stmt at_exit) at_exit (and_then r (λ v. Ok (is_true_value v)))) worth) refl
        (reaches_to refl refl refl (reaches_here (gone turn (Loop None Endless turn) (frame after q ∷ o) V)))

  -- ---- conditions

  -- the caller that was taken last has not been refused
  pub refused-worth : (X : AbortTeller) (s : Span) (n : ℕ) (V : Variables) (b : Bool) → IsCell V (X.refused n) truth_limits (Truth b) →
      evaluated (text x).types V (is_not_refused X s n) ≡ signed_value Not (Truth b)
  refused-worth X s n V b c = ap (λ r. and_then r (λ v. signed_value Not v)) (cell-worth T V (X.refused n) truth_limits (Truth b) s c)

  -- which part has come
  pub part-worth : (X : AbortTeller) (s : Span) (j k : ℕ) (V : Variables) → IsCell V X.teller.added.part integer_limits (Number (pos j)) → IsInteger k →
      evaluated (text x).types V (is_part X.teller s k) ≡ Ok (Truth (int_eq (pos j) (pos k)))
  part-worth X s j k V c fits =
      ap (λ r. operated Equal r (evaluated T V (EInteger k s))) (cell-worth T V X.teller.added.part integer_limits (Number (pos j)) s c)
      ∙ ap (λ r. and_then r (λ b. combined Equal (Number (pos j)) b)) (literal T V k s fits)

  -- some part has come
  pub taken-worth : (X : AbortTeller) (s : Span) (j : ℕ) (V : Variables) → IsCell V X.teller.added.part integer_limits (Number (pos j)) →
      evaluated (text x).types V (is_taken X s) ≡ combined NotEqual (Number (pos j)) (Number (pos 0))
  taken-worth X s j V c = ap (λ r. operated NotEqual r (evaluated T V (EInteger 0 s))) (cell-worth T V X.teller.added.part integer_limits (Number (pos j)) s c)

  -- ---- branches

  module _ (X : AbortTeller) (R : PStmts) (q : Around) (o : List PFrame) (V : Variables) (j : ℕ) (c : IsCell V X.teller.added.part integer_limits (Number (pos j))) where
    abbrev K : Task
    K = stood R q o V

    -- the branch of a part, and one that is passed
    arm-taken : (s : Span) (k : ℕ) (l : PStmts) (rest : PArms) (m : PMaybe) (b : Bool) → IsInteger k → int_eq (pos j) (pos k) ≡ b →
        arm_taken K (arm_then (arm (is_part X.teller s k) l) rest) m ≡ (if b then Ok (present l) else arm_taken K rest m)
    arm-taken s k l rest m true fits e =
        ap (λ r. and_then (and_then r (λ v. Ok (is_true_value v))) (λ b. if b then Ok (present l) else arm_taken K rest m))
        (part-worth X s j k V c fits ∙ ap (λ b. Ok (Truth b)) e)
    arm-taken s k l rest m false fits e =
        ap (λ r. and_then (and_then r (λ v. Ok (is_true_value v))) (λ b. if b then Ok (present l) else arm_taken K rest m))
        (part-worth X s j k V c fits ∙ ap (λ b. Ok (Truth b)) e)

    same-part : int_eq (pos j) (pos j) ≡ true
    same-part = grind (arith, ints)

    other-part : (k : ℕ) → k < j → int_eq (pos j) (pos k) ≡ false
    other-part k less = grind (arith, ints)

    few-before : (k : ℕ) → k < j → IsInteger j → IsInteger k
    few-before k less fits = grind (arith, ints)

    passed-branch : (n : ℕ) (alt : PAlt) (k : ℕ) (rest : PArms) → k < j → IsInteger j → arm_taken K (branch_then X n alt k rest) absent ≡ arm_taken K rest absent
    passed-branch n (alternative g (AAccept a l) s) k rest less fits = arm-taken s k (stmt_then (over X s n) l) rest absent false (few-before k less fits) (other-part k less)
    passed-branch n (alternative g (ADelay d l) s) k rest less fits = arm-taken s k (or_null s l) rest absent false (few-before k less fits) (other-part k less)
    passed-branch n (alternative g ATerminate s) k rest less fits = refl

    -- the branch of an accept alternative, of a delay alternative, and of the else part
    pub accept-branch : (s : Span) (n : ℕ) (m : PMaybe) {alts : PAlts} (k : ℕ) {z : Span} {l : PStmts} → IsBranch alts k j z l → IsInteger j →
        arm_taken K (branches X s n alts m k) absent ≡ Ok (present (stmt_then (over X z n) l))
    accept-branch s n m k (this_branch g a l z rest k1) fits = arm-taken z j (stmt_then (over X z n) l) (branches X s n rest m (j + 1)) absent true fits same-part
    accept-branch s n m k (later_branch alt rest k1 j1 z l is) fits =
        passed-branch n alt k (branches X s n rest m (k + 1)) (let le = branch-above is in omega (arith, le)) fits ∙ accept-branch s n m (k + 1) is fits

    pub delay-branch : (s : Span) (n : ℕ) (m : PMaybe) {alts : PAlts} (k : ℕ) {z : Span} {l : PStmts} → IsDelayed alts k j z l → IsInteger j →
        arm_taken K (branches X s n alts m k) absent ≡ Ok (present (or_null z l))
    delay-branch s n m k (this_delay g d l z rest k1) fits = arm-taken z j (or_null z l) (branches X s n rest m (j + 1)) absent true fits same-part
    delay-branch s n m k (later_delay alt rest k1 j1 z l is) fits =
        passed-branch n alt k (branches X s n rest m (k + 1)) (let le = delay-above is in omega (arith, le)) fits ∙ delay-branch s n m (k + 1) is fits

    pub else-branch : (s : Span) (n : ℕ) (l : PStmts) (alts : PAlts) (k : ℕ) → behind_alternatives alts k ≡ j → IsInteger j →
        arm_taken K (branches X s n alts (present l) k) absent ≡ Ok (present (or_null s l))
    else-branch s n l no_alt k last fits = arm-taken s k (or_null s l) no_arm absent true (subst IsInteger (sym last) fits) (subst (λ u. int_eq (pos j) (pos u) ≡ true) (sym last) same-part)
    else-branch s n l (alt_then alt rest) k last fits =
        passed-branch n alt k (branches X s n rest (present l) (k + 1)) (let le = else-above rest (k + 1) in omega (arith, le, last)) fits ∙ else-branch s n l rest (k + 1) last fits

  -- into a branch
  pub branch-goes : (arms : PArms) (s : Span) (r l : PStmts) (q : Around) (o : List PFrame) (V : Variables) →
      arm_taken (task_in (text x) t i w (control (stmt_then (SIf arms absent s) r) q o V)) arms absent ≡ Ok (present l) →
      Reaches (task_in (text x) t i w (control (stmt_then (SIf arms absent s) r) q o V)) (task_in (text x) t i w (settled (control (in_front l r) q o V)))
  branch-goes arms s r l q o V is =
      let κ : Task = stood (stmt_then (SIf arms absent s) r) q o V in
      reaches_to refl (ap (λ (z : Result PMaybe Raised). or_raised (λ branch. entered (stmts_or_none branch) r κ) κ z) is) refl (reaches_here (gone (in_front l r) q o V))

  -- `null` stands where nothing does
  pub null-goes : (s : Span) (l r : PStmts) (q : Around) (o : List PFrame) (V : Variables) →
      Reaches (task_in (text x) t i w (settled (control (in_front (or_null s l) r) q o V))) (task_in (text x) t i w (settled (control (in_front l r) q o V)))
  null-goes s no_stmt r q o V = reaches_to refl refl refl (reaches_here (gone r q o V))
  null-goes s (stmt_then y l) r q o V = reaches_here (gone (stmt_then y (in_front l r)) q o V)

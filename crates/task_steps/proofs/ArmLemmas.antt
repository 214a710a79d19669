-- The arm that is taken, arm by arm, and the choice that fits, choice by choice.
use Rattle.std.proofs.Common.{◌≡◌, ◌<◌, ℕ, ◌+◌, Bool, true, false, List, ◌∷◌, length, drop, map, get_or, Result, Ok, Err, refl, sym, ap, ◌∙◌}
use Rattle.std.specs.Prelude.{if◌then◌else◌}
use Rattle.std.proofs.lemmas.List.{drop_more}
use Rattle.ada_tree.specs.declared.statements.Stmt.{Stmt}
use Rattle.ada_tree.specs.declared.statements.Arm.{Arm, out-Arm}
use Rattle.ada_tree.specs.declared.statements.CaseArm.{CaseArm, out-CaseArm}
use Rattle.ada_tree.specs.declared.statements.CaseChoice.{CaseChoice}
use Rattle.ada_tree.specs.PlainExpr.{plain_expr}
use Rattle.ada_tree.specs.PlainStmt.{PStmts, PMaybe, present, arm_then, case_arm_then, arms_of, case_arms_of, plain_arm, plain_case_arm, plain_choice, seen}
use Rattle.ada_tree.proofs.Rows.{plain_arm-out, plain_case_arm-out}
use Rattle.ada_value.specs.declared.values.Value.{Value}
use Rattle.ada_value.specs.declared.values.Raised.{Raised}
use Rattle.ada_value.specs.Values.{and_then}
use Rattle.task_model.specs.Tasks.{Task, stmts_or_none, entered, or_raised}
use Rattle.task_model.specs.Steps.{condition, arm_taken, choice_fits, choices_fit, case_taken}
use Rattle.task_steps.specs.inner.Branches.{branch_in, enter_step}

-- what a call has answered
pub answers : (r p : Result Bool Raised) (b v : Bool) → r ≡ p → r ≡ Ok b → b ≡ v → p ≡ Ok v
answers r p b v same is known = sym same ∙ is ∙ ap Ok known

pub answers_raised : (r p : Result Bool Raised) (x : Raised) → r ≡ p → r ≡ Err x → p ≡ Err x
answers_raised r p x same is = sym same ∙ is

-- a test, and then these statements or what comes of the others
abbrev pub tested : Result Bool Raised → PStmts → Result PMaybe Raised → Result PMaybe Raised
tested test stmts others = and_then test (λ b. if b then Ok (present stmts) else others)

takes : (whole : Result PMaybe Raised) (test : Result Bool Raised) (stmts : PStmts) (others : Result PMaybe Raised) → whole ≡ tested test stmts others → test ≡ Ok true →
    ◌≡◌ {A = Result PStmts Raised} (Ok stmts) (branch_in whole)
takes whole test stmts others is holds = sym (ap branch_in (is ∙ ap (λ r. tested r stmts others) holds))

raises : (whole : Result PMaybe Raised) (test : Result Bool Raised) (stmts : PStmts) (others : Result PMaybe Raised) (x : Raised) → whole ≡ tested test stmts others → test ≡ Err x →
    ◌≡◌ {A = Result PStmts Raised} (Err x) (branch_in whole)
raises whole test stmts others x is raised = sym (ap branch_in (is ∙ ap (λ r. tested r stmts others) raised))

passes : (whole : Result PMaybe Raised) (test : Result Bool Raised) (stmts : PStmts) (others : Result PMaybe Raised) → whole ≡ tested test stmts others → test ≡ Ok false → whole ≡ others
passes whole test stmts others is fails = is ∙ ap (λ r. tested r stmts others) fails

-- ---- arms of an if statement

pub arm_there : (t : Task) (arms : List Arm) (otherwise : PMaybe) (i : ℕ) (x : Arm) → i < length arms → x ≡ get_or arms i x →
    arm_taken t (arms_of (map plain_arm (drop i arms))) otherwise ≡
    tested (condition t (plain_expr (out-Arm x).test)) (seen (out-Arm x).stmts.items) (arm_taken t (arms_of (map plain_arm (drop (i + 1) arms))) otherwise)
arm_there t arms otherwise i x lt is =
    ap (λ xs. arm_taken t (arms_of (map plain_arm xs)) otherwise) (drop_more arms i x lt) ∙
    ap (λ y. arm_taken t (arms_of (map plain_arm (y ∷ drop (i + 1) arms))) otherwise) (sym is) ∙
    ap (λ p. arm_taken t (arm_then p (arms_of (map plain_arm (drop (i + 1) arms)))) otherwise) (plain_arm-out x)

-- none of the arms before this one is taken
abbrev pub AreBehind : Task → List Arm → PMaybe → ℕ → Type 0
AreBehind t arms otherwise i = arm_taken t (arms_of (map plain_arm arms)) otherwise ≡ arm_taken t (arms_of (map plain_arm (drop i arms))) otherwise

pub arm_takes : (t : Task) (arms : List Arm) (otherwise : PMaybe) (i : ℕ) (x : Arm) (stmts : List Stmt) → i < length arms → x ≡ get_or arms i x → stmts ≡ (out-Arm x).stmts.items →
    AreBehind t arms otherwise i → condition t (plain_expr (out-Arm x).test) ≡ Ok true → ◌≡◌ {A = Result PStmts Raised} (Ok (seen stmts)) (branch_in (arm_taken t (arms_of (map plain_arm arms)) otherwise))
arm_takes t arms otherwise i x stmts lt is own behind holds =
    ap (λ xs. Ok (seen xs)) own ∙
    takes (arm_taken t (arms_of (map plain_arm arms)) otherwise) (condition t (plain_expr (out-Arm x).test)) (seen (out-Arm x).stmts.items) (arm_taken t (arms_of (map plain_arm (drop (i + 1) arms))) otherwise)
    (behind ∙ arm_there t arms otherwise i x lt is) holds

pub arm_raises : (t : Task) (arms : List Arm) (otherwise : PMaybe) (i : ℕ) (x : Arm) (r : Raised) → i < length arms → x ≡ get_or arms i x →
    AreBehind t arms otherwise i → condition t (plain_expr (out-Arm x).test) ≡ Err r → ◌≡◌ {A = Result PStmts Raised} (Err r) (branch_in (arm_taken t (arms_of (map plain_arm arms)) otherwise))
arm_raises t arms otherwise i x r lt is behind raised =
    raises (arm_taken t (arms_of (map plain_arm arms)) otherwise) (condition t (plain_expr (out-Arm x).test)) (seen (out-Arm x).stmts.items) (arm_taken t (arms_of (map plain_arm (drop (i + 1) arms))) otherwise) r
    (behind ∙ arm_there t arms otherwise i x lt is) raised

pub arm_passes : (t : Task) (arms : List Arm) (otherwise : PMaybe) (i : ℕ) (x : Arm) → i < length arms → x ≡ get_or arms i x →
    AreBehind t arms otherwise i → condition t (plain_expr (out-Arm x).test) ≡ Ok false → AreBehind t arms otherwise (i + 1)
arm_passes t arms otherwise i x lt is behind fails =
    passes (arm_taken t (arms_of (map plain_arm arms)) otherwise) (condition t (plain_expr (out-Arm x).test)) (seen (out-Arm x).stmts.items) (arm_taken t (arms_of (map plain_arm (drop (i + 1) arms))) otherwise)
    (behind ∙ arm_there t arms otherwise i x lt is) fails

-- ---- arms of a case statement

pub case_arm_there : (t : Task) (v : Value) (arms : List CaseArm) (others : PMaybe) (i : ℕ) (x : CaseArm) → i < length arms → x ≡ get_or arms i x →
    case_taken t v (case_arms_of (map plain_case_arm (drop i arms))) others ≡
    tested (choices_fit t v (map plain_choice (out-CaseArm x).choices.items)) (seen (out-CaseArm x).stmts.items) (case_taken t v (case_arms_of (map plain_case_arm (drop (i + 1) arms))) others)
case_arm_there t v arms others i x lt is =
    ap (λ xs. case_taken t v (case_arms_of (map plain_case_arm xs)) others) (drop_more arms i x lt) ∙
    ap (λ y. case_taken t v (case_arms_of (map plain_case_arm (y ∷ drop (i + 1) arms))) others) (sym is) ∙
    ap (λ p. case_taken t v (case_arm_then p (case_arms_of (map plain_case_arm (drop (i + 1) arms)))) others) (plain_case_arm-out x)

-- none of the case arms before this one is taken
abbrev pub AreCasesBehind : Task → Value → List CaseArm → PMaybe → ℕ → Type 0
AreCasesBehind t v arms others i = case_taken t v (case_arms_of (map plain_case_arm arms)) others ≡ case_taken t v (case_arms_of (map plain_case_arm (drop i arms))) others

pub case_takes : (t : Task) (v : Value) (arms : List CaseArm) (others : PMaybe) (i : ℕ) (x : CaseArm) (choices : List CaseChoice) (stmts : List Stmt) → i < length arms → x ≡ get_or arms i x →
    choices ≡ (out-CaseArm x).choices.items → stmts ≡ (out-CaseArm x).stmts.items → AreCasesBehind t v arms others i → choices_fit t v (map plain_choice choices) ≡ Ok true →
    ◌≡◌ {A = Result PStmts Raised} (Ok (seen stmts)) (branch_in (case_taken t v (case_arms_of (map plain_case_arm arms)) others))
case_takes t v arms others i x choices stmts lt is given own behind fits =
    ap (λ xs. Ok (seen xs)) own ∙
    takes (case_taken t v (case_arms_of (map plain_case_arm arms)) others) (choices_fit t v (map plain_choice (out-CaseArm x).choices.items)) (seen (out-CaseArm x).stmts.items) (case_taken t v (case_arms_of (map plain_case_arm (drop (i + 1) arms))) others)
    (behind ∙ case_arm_there t v arms others i x lt is) (ap (λ cs. choices_fit t v (map plain_choice cs)) (sym given) ∙ fits)

pub case_raises : (t : Task) (v : Value) (arms : List CaseArm) (others : PMaybe) (i : ℕ) (x : CaseArm) (choices : List CaseChoice) (r : Raised) → i < length arms → x ≡ get_or arms i x →
    choices ≡ (out-CaseArm x).choices.items → AreCasesBehind t v arms others i → choices_fit t v (map plain_choice choices) ≡ Err r →
    ◌≡◌ {A = Result PStmts Raised} (Err r) (branch_in (case_taken t v (case_arms_of (map plain_case_arm arms)) others))
case_raises t v arms others i x choices r lt is given behind raised =
    raises (case_taken t v (case_arms_of (map plain_case_arm arms)) others) (choices_fit t v (map plain_choice (out-CaseArm x).choices.items)) (seen (out-CaseArm x).stmts.items) (case_taken t v (case_arms_of (map plain_case_arm (drop (i + 1) arms))) others) r
    (behind ∙ case_arm_there t v arms others i x lt is) (ap (λ cs. choices_fit t v (map plain_choice cs)) (sym given) ∙ raised)

pub case_passes : (t : Task) (v : Value) (arms : List CaseArm) (others : PMaybe) (i : ℕ) (x : CaseArm) (choices : List CaseChoice) → i < length arms → x ≡ get_or arms i x →
    choices ≡ (out-CaseArm x).choices.items → AreCasesBehind t v arms others i → choices_fit t v (map plain_choice choices) ≡ Ok false → AreCasesBehind t v arms others (i + 1)
case_passes t v arms others i x choices lt is given behind fails =
    passes (case_taken t v (case_arms_of (map plain_case_arm arms)) others) (choices_fit t v (map plain_choice (out-CaseArm x).choices.items)) (seen (out-CaseArm x).stmts.items) (case_taken t v (case_arms_of (map plain_case_arm (drop (i + 1) arms))) others)
    (behind ∙ case_arm_there t v arms others i x lt is) (ap (λ cs. choices_fit t v (map plain_choice cs)) (sym given) ∙ fails)

-- ---- choices

pub choice_there : (t : Task) (v : Value) (choices : List CaseChoice) (i : ℕ) (x : CaseChoice) → i < length choices → x ≡ get_or choices i x →
    choices_fit t v (map plain_choice (drop i choices)) ≡
    and_then (choice_fits t v (plain_choice x)) (λ b. if b then Ok true else choices_fit t v (map plain_choice (drop (i + 1) choices)))
choice_there t v choices i x lt is =
    ap (λ xs. choices_fit t v (map plain_choice xs)) (drop_more choices i x lt) ∙
    ap (λ y. choices_fit t v (map plain_choice (y ∷ drop (i + 1) choices))) (sym is)

-- what is tested of a choice, and then what comes of the others
abbrev pub fitted_or : Result Bool Raised → Result Bool Raised → Result Bool Raised
fitted_or test others = and_then test (λ b. if b then Ok true else others)

-- none of the choices before this one fits
abbrev pub AreChoicesBehind : Task → Value → List CaseChoice → ℕ → Type 0
AreChoicesBehind t v choices i = choices_fit t v (map plain_choice choices) ≡ choices_fit t v (map plain_choice (drop i choices))

pub choice_takes : (t : Task) (v : Value) (choices : List CaseChoice) (i : ℕ) (x : CaseChoice) → i < length choices → x ≡ get_or choices i x → AreChoicesBehind t v choices i →
    choice_fits t v (plain_choice x) ≡ Ok true → ◌≡◌ {A = Result Bool Raised} (Ok true) (choices_fit t v (map plain_choice choices))
choice_takes t v choices i x lt is behind fits = sym (behind ∙ choice_there t v choices i x lt is ∙ ap (λ r. fitted_or r (choices_fit t v (map plain_choice (drop (i + 1) choices)))) fits)

pub choice_raises : (t : Task) (v : Value) (choices : List CaseChoice) (i : ℕ) (x : CaseChoice) (r : Raised) → i < length choices → x ≡ get_or choices i x → AreChoicesBehind t v choices i →
    choice_fits t v (plain_choice x) ≡ Err r → ◌≡◌ {A = Result Bool Raised} (Err r) (choices_fit t v (map plain_choice choices))
choice_raises t v choices i x r lt is behind raised = sym (behind ∙ choice_there t v choices i x lt is ∙ ap (λ s. fitted_or s (choices_fit t v (map plain_choice (drop (i + 1) choices)))) raised)

pub choice_passes : (t : Task) (v : Value) (choices : List CaseChoice) (i : ℕ) (x : CaseChoice) → i < length choices → x ≡ get_or choices i x → AreChoicesBehind t v choices i →
    choice_fits t v (plain_choice x) ≡ Ok false → AreChoicesBehind t v choices (i + 1)
choice_passes t v choices i x lt is behind fails = behind ∙ choice_there t v choices i x lt is ∙ ap (λ s. fitted_or s (choices_fit t v (map plain_choice (drop (i + 1) choices)))) fails

-- ---- the branch

pub entered_branch : (taken : Result PMaybe Raised) (behind : PStmts) (t : Task) → enter_step (branch_in taken) behind t ≡ or_raised (λ branch. entered (stmts_or_none branch) behind t) t taken
entered_branch (Ok branch) behind t = refl
entered_branch (Err x) behind t = refl

-- The steps of single statements, from the moves of which they are made.
use Rattle.std.proofs.Common.{◌≡◌, ℕ, ℤ, true, false, List, [], ◌∷◌, ◌++◌, drop, Option, Some, None, Result, Ok, Err, refl, sym, ap, ◌∙◌, append-nil, true≢false}
use Rattle.std.specs.Prelude.{if◌then◌else◌, option_map, slice_get, OnOk}
use Rattle.ada_tree.specs.PlainStmt.{PTarget}
use Rattle.ada_value.specs.declared.values.Value.{Value}
use Rattle.ada_value.specs.declared.values.Value.TheVariants.{Number}
use Rattle.ada_value.specs.declared.values.Raised.{Raised}
use Rattle.ada_value.specs.declared.values.Raised.TheVariants as raised
use Rattle.ada_value.specs.Values.{and_then}
use Rattle.ada_value.specs.Variables.{checked_for, set_value}
use Rattle.ada_value.specs.put_text.Written.{exception_of, written_with}
use Rattle.task_model.specs.Frames.{Turns, Endless, While, Counting}
use Rattle.task_model.specs.Tasks.{Task, rest_of, place_of, vars_of, with_text, with_vars, with_input, gone_to, raised_there, or_raised}
use Rattle.task_model.specs.Steps.{target_object, got, counted_on, counted_so_far, loop_left}
use Rattle.task_model.specs.Rendezvous.{behind_of}
use Rattle.task_state.specs.Plain.{BeginsTurn, LeavesLoop}
use Rattle.task_steps.specs.inner.Storing.{store_step}
use Rattle.task_steps.specs.Turning.{TurnsBy, turn_left, is_counting, is_backwards}

-- ---- a value that goes to a target

pub stored_well : (t t1 t2 : Task) (target : PTarget) (k : ℕ) (v w : Value) → checked_for (target_object t target) v ≡ Ok w →
    t1 ≡ with_vars t (set_value (vars_of t) target.name.name k w) → t2 ≡ gone_to (behind_of t1) t1 → t2 ≡ store_step target k v (behind_of t) t
stored_well t t1 t2 target k v w fits set on =
    on ∙
    ap (λ s. gone_to (behind_of s) s) set ∙
    ap (λ r. or_raised (λ vars. gone_to (behind_of t) (with_vars t vars)) t (and_then r (λ u. Ok (set_value (vars_of t) target.name.name k u)))) (sym fits)

pub stored_ill : (t t1 : Task) (target : PTarget) (k : ℕ) (v : Value) (x : Raised) → checked_for (target_object t target) v ≡ Err x →
    t1 ≡ raised_there x t → t1 ≡ store_step target k v (behind_of t) t
stored_ill t t1 target k v x misfits raises =
    raises ∙ ap (λ r. or_raised (λ vars. gone_to (behind_of t) (with_vars t vars)) t (and_then r (λ u. Ok (set_value (vars_of t) target.name.name k u)))) (sym misfits)

-- ---- GET

got_value : (t t1 t2 : Task) (target : PTarget) (k : ℕ) (v : Value) (input : List ℤ) → Some v ≡ option_map Number (slice_get input 0) → t1 ≡ with_input t (drop 1 input) →
    t2 ≡ store_step target k v (behind_of t1) t1 → t2 ≡ got target (behind_of t) t k input
got_value t t1 t2 target k v [] there read stores = absurd (cc)
got_value t t1 t2 target k v (z ∷ rest) there read stores =
    let same : v ≡ Number z = cc in
    stores ∙ ap (λ s. store_step target k v (behind_of s) s) read ∙ ap (λ w. store_step target k w (behind_of t) (with_input t rest)) same

got_nothing : (t t1 t2 : Task) (target : PTarget) (k : ℕ) (input : List ℤ) → input ≡ t.input → ◌≡◌ {A = Option Value} None (option_map Number (slice_get input 0)) → t1 ≡ with_input t (drop 1 input) →
    t2 ≡ raised_there raised.End t1 → t2 ≡ got target (behind_of t) t k input
got_nothing t t1 t2 target k [] is none read raises = raises ∙ ap (raised_there raised.End) (read ∙ ap (with_input t) is)
got_nothing t t1 t2 target k (y ∷ rest) is none read raises = absurd (cc)

pub gets_value : (t t1 t2 : Task) (target : PTarget) (k : ℕ) (v : Value) → Some v ≡ option_map Number (slice_get t.input 0) → t1 ≡ with_input t (drop 1 t.input) →
    t2 ≡ store_step target k v (behind_of t1) t1 → t2 ≡ got target (behind_of t) t k t.input
gets_value t t1 t2 target k v there read stores = got_value t t1 t2 target k v t.input there read stores

pub gets_nothing : (t t1 t2 : Task) (target : PTarget) (k : ℕ) → ◌≡◌ {A = Option Value} None (option_map Number (slice_get t.input 0)) → t1 ≡ with_input t (drop 1 t.input) →
    t2 ≡ raised_there raised.End t1 → t2 ≡ got target (behind_of t) t k t.input
gets_nothing t t1 t2 target k none read raises = got_nothing t t1 t2 target k t.input refl none read raises

-- ---- PUT

pub put_well : (t t1 t2 : Task) (r : Result (List ℕ) Raised) (closing : List ℕ) → ◌≡◌ {A = Option Raised} None (exception_of r) → t1 ≡ with_text t (written_with closing r) →
    t2 ≡ gone_to (behind_of t1) t1 → t2 ≡ or_raised (λ text. gone_to (behind_of t) (with_text t (text ++ closing))) t r
put_well t t1 t2 (Ok text) closing none writes on = on ∙ ap (λ s. gone_to (behind_of s) s) writes
put_well t t1 t2 (Err y) closing none writes on = absurd (cc)

pub put_ill : (t t1 t2 : Task) (r : Result (List ℕ) Raised) (closing : List ℕ) (x : Raised) → Some x ≡ exception_of r → t1 ≡ with_text t (written_with closing r) →
    t2 ≡ raised_there x t1 → t2 ≡ or_raised (λ text. gone_to (behind_of t) (with_text t (text ++ closing))) t r
put_ill t t1 t2 (Ok text) closing x some writes raises = absurd (cc)
put_ill t t1 t2 (Err y) closing x some writes raises =
    let same : x ≡ y = cc in
    raises ∙ ap (raised_there x) (writes ∙ nothing_written t) ∙ ap (λ z. raised_there z t) same where
      nothing_written : (t : Task) → with_text t [] ≡ t
      nothing_written t = λ i. record { setting = t.setting; number = t.number; control = t.control; input = t.input; output = append-nil t.output i }

-- ---- the turns of a counting loop

pub counts_on : (t t1 t2 : Task) (turns : Turns) → turn_left turns (counted_so_far (vars_of t)) ≡ true → t1 ≡ with_vars t (counted_on t (is_backwards turns) (vars_of t)) → BeginsTurn t1 t2 →
    is_counting turns ≡ true → TurnsBy turns t t2
counts_on t t1 t2 Endless more counts begins counting name stmts rest place = absurd (true≢false (sym counting))
counts_on t t1 t2 (While e) more counts begins counting name stmts rest place = absurd (true≢false (sym counting))
counts_on t t1 t2 (Counting backwards last) more counts begins counting name stmts rest place =
    begins name (Counting backwards last) stmts (ap rest_of counts ∙ rest) (ap place_of counts ∙ place) ∙
    ap (gone_to stmts) counts ∙
    ap (λ b. if b then gone_to stmts (with_vars t (counted_on t backwards (vars_of t))) else loop_left (Counting backwards last) t) (sym more)

pub counts_out : (t t1 : Task) (turns : Turns) → turn_left turns (counted_so_far (vars_of t)) ≡ false → LeavesLoop t t1 → is_counting turns ≡ true → TurnsBy turns t t1
counts_out t t1 Endless none leaves counting name stmts rest place = absurd (true≢false (sym counting))
counts_out t t1 (While e) none leaves counting name stmts rest place = absurd (true≢false (sym counting))
counts_out t t1 (Counting backwards last) none leaves counting name stmts rest place =
    leaves name (Counting backwards last) stmts rest place ∙
    ap (λ b. if b then gone_to stmts (with_vars t (counted_on t backwards (vars_of t))) else loop_left (Counting backwards last) t) (sym none)

-- what holds where the loop counts holds, since it does
pub where_counting : {A E : Type 0} (r : Result A E) (P Q : Type 0) → P → OnOk r (P → Q) → OnOk r Q
where_counting (Ok a) P Q p f = f p
where_counting (Err e) P Q p f = tt

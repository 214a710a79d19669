-- A task that has gone on, as its parts have it.
use Rattle.std.proofs.Common.{◌≡◌, ◌<◌, ◌≤◌, ◌+◌, ℕ, zero, suc, List, length, drop, map, get_or, refl, sym, ap, ◌∙◌, add-one, arith}
use Rattle.std.proofs.lemmas.List.{length-map, drop-map}
use Rattle.ada_tree.specs.declared.statements.Callee.{Callee}
use Rattle.ada_tree.specs.PlainStmt.{PStmts, plain_callee}
use Rattle.task_model.specs.Setting.{callee_task}
use Rattle.task_model.specs.Tasks.{Task, rest_of, vars_of, gone_to}
use Rattle.task_model.specs.Stands as model
use Rattle.task_model.specs.Stands.{stand_of, stepped, stepped_by, name_stand}
use Rattle.task_model.specs.Rendezvous.{behind_of, past_name, took_delay, took_else}
use Rattle.task_steps.specs.Sequential.{sequential_by, sequential_step}
use Rattle.task_local.specs.inner.Local.{IsWithin, behind_names, names_in}
use Rattle.task_local.proofs.Names.{none_passed, no_delay, no_else, step_alike, names_on, names_end, stands_at_name}
use Rattle.common_lemmas.proofs.Lists.{rest_at}

-- ---- local steps

-- a step of no synchronizing statement is the step of the task
pub step_made : (k : ℕ) (t : Task) → IsWithin k (rest_of t) → model.Steps ≡ stand_of (behind_names k t) → sequential_step t ≡ stepped (behind_names k t)
step_made k t w h =
    let same : behind_names k t ≡ t = step_alike k t w (sym h) in
    let here : model.Steps ≡ stand_of t = h ∙ ap stand_of same in
    ap (λ s. sequential_by s t) (sym here) ∙ ap (λ s. stepped_by s t) here ∙ ap stepped (sym same)

-- a task that is behind no name
pub not_passed : (k : ℕ) (t : Task) → k ≡ 0 → behind_names k t ≡ t
not_passed k t none = ap (λ n. behind_names n t) none ∙ none_passed t

-- an abort statement has no other parts
pub else_stays : (k : ℕ) (t : Task) → (k ≡ 0 → ⊥) → IsWithin k (rest_of t) → behind_names k t ≡ took_else (behind_names k t)
else_stays zero t some w = absurd (some refl)
else_stays (suc k) t some w = sym (no_else k t w)

pub delay_stays : (m k : ℕ) (t : Task) → (k ≡ 0 → ⊥) → IsWithin k (rest_of t) → behind_names k t ≡ took_delay m (behind_names k t)
delay_stays m zero t some w = absurd (some refl)
delay_stays m (suc k) t some w = sym (no_delay m k t w)

-- ---- names of an abort statement

as_many : (xs : List Callee) (rest : PStmts) → map plain_callee xs ≡ names_in rest → length xs ≡ length (names_in rest)
as_many xs rest h = sym (length-map xs plain_callee) ∙ ap length h

-- a name that is not the last one
pub name_passed : (xs : List Callee) (k : ℕ) (t : Task) → map plain_callee xs ≡ names_in (rest_of t) → k + 1 < length xs → behind_names (k + 1) t ≡ past_name (behind_names k t)
name_passed xs k t h more =
    let many = as_many xs (rest_of t) h in
    ap (λ n. behind_names n t) (add-one k) ∙ sym (names_on k t (omega (arith, many, more)))

pub names_within : (xs : List Callee) (k : ℕ) (t : Task) → map plain_callee xs ≡ names_in (rest_of t) → k + 1 < length xs → IsWithin (k + 1) (rest_of t)
names_within xs k t h more some = let many = as_many xs (rest_of t) h in omega (arith, many, more)

at_last : (k n : ℕ) → 0 < n → n ≤ k + 1 → (0 < k → k < n) → suc k ≡ n
at_last zero n some most w = omega arith
at_last (suc k) n some most w = let more : suc k < n = w (omega arith) in omega arith

-- the last one
pub last_passed : (xs : List Callee) (k : ℕ) (t : Task) → map plain_callee xs ≡ names_in (rest_of t) → 0 < length xs → length xs ≤ k + 1 → IsWithin k (rest_of t) →
    gone_to (behind_of t) t ≡ past_name (behind_names k t)
last_passed xs k t h some most w = let many = as_many xs (rest_of t) h in
    sym (names_end k t (at_last k (length (names_in (rest_of t))) (omega (arith, many, some)) (omega (arith, many, most)) w))

-- the task stands at the next name
pub name_next : (xs : List Callee) (k : ℕ) (x : Callee) (t : Task) → map plain_callee xs ≡ names_in (rest_of t) → k < length xs → x ≡ get_or xs k x →
    name_stand (callee_task t.setting (vars_of t) (plain_callee x)) ≡ stand_of (behind_names k t)
name_next xs k x t h more is =
    sym (stands_at_name k t (plain_callee x) (map plain_callee (drop (k + 1) xs))
    (ap (drop k) (sym h) ∙ drop-map plain_callee k xs ∙ ap (map plain_callee) (rest_at xs k x x more is)))

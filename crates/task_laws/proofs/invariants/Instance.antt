-- The example is as the laws ask.
use Rattle.std.proofs.Common.{◌≡◌, ℕ, zero, suc, ◌-◌, true, if◌then◌else◌, None, refl, sym, subst, arith}
use Rattle.std.specs.Prelude.{slice_get}
use Rattle.syn_event.specs.Numbering.{task_at}
use Rattle.task_model.specs.Starting.{unit_of_info}
use Rattle.task_model.specs.Setting.{formals_of_info, parameters_of, entry_parameters}
use Rattle.task_model.specs.Starting.{unit_of}
use Rattle.task_laws.specs.invariants.AcceptHeads.{InBody}
use Rattle.task_laws.specs.invariants.Holding.{LowersFit}
use Rattle.task_laws.specs.invariants.Worlds.{Conforms}
use Rattle.task_laws.specs.invariants.Example.{example_setting, example, IsMet}
use Rattle.common_lemmas.proofs.Numbers.{next_not_zero}

conforms : (t : ℕ) → InBody (Conforms example_setting t) (unit_of example_setting.program example_setting.numbers t).body
conforms zero = ((tt, tt), tt)
conforms (suc zero) = (((((refl, refl), tt), (tt, tt)), tt), tt)
conforms (suc (suc t)) =
    subst (λ b. InBody (Conforms example_setting (suc (suc t))) (if b then record { in_main = true; decls = example.decls; body = example.body } else unit_of_info example (task_at example_setting.numbers (suc (suc t)))).body)
    (sym (next_not_zero (suc t))) (tt, tt)

lowers : (e : ℕ) → LowersFit example_setting.types (entry_parameters example_setting e)
lowers zero = tt
lowers (suc zero) = (refl, tt)
lowers (suc (suc e)) =
    let q : suc (suc e) - 1 ≡ suc e = omega arith in
    subst (λ b. LowersFit example_setting.types (parameters_of example_setting.types (formals_of_info example_setting (if b then None else slice_get example_setting.numbers.entries (suc (suc e) - 1)))))
    (sym (next_not_zero (suc e)))
    (subst (λ k. LowersFit example_setting.types (parameters_of example_setting.types (formals_of_info example_setting (slice_get example_setting.numbers.entries k)))) (sym q) tt)

pub is_met : IsMet
is_met = (record { conforms = conforms; lowers = lowers }, refl)

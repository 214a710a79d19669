-- Ways of local steps that write nothing, as the law of collecting takes them.
use Rattle.std.proofs.Common.{ℕ, zero, suc, sym, ap, subst}
use Rattle.task_model.specs.Tasks.{Task}
use Rattle.task_model.specs.Stands.{steps_at, stepped}
use Rattle.task_model.specs.TaskOps.{task_ops}
use Rattle.normal_laws.specs.runs.floors.Preludes as prelude
use Rattle.table_law.specs.States.{LeadsTo, Comes}
use Rattle.run_laws.specs.imitation.Imitating.{ReachesAfter, ReachesAtLast}
use Rattle.run_laws.specs.aborts.Copies.{Copy}
use Rattle.collect_runs.specs.telling.Meetings.{ComesTo}

module _ (Meets : Task → Copy Task → Type 0) (m : Copy Task) where
  -- it reaches what meets the state
  abbrev pub Arrives : Task → Type 0
  Arrives κ = ReachesAtLast task_ops (λ (t : Task). t.output) Meets (λ j. Unit {0}) κ m

  reached : {κ κ' : Task} → prelude.Reaches κ κ' → Meets κ' m → Arrives κ
  reached (prelude.reaches_here _) meets = (0, meets)
  reached (prelude.reaches_by _ _ can silent more) meets = let r = reached more meets in (suc r.0, (ap steps_at can, tt, silent, r.1))

  pub comes : (P : Task → Type 0) → ((j : Task) → P j → Meets j m) → (κ : Task) → ComesTo P κ → Arrives κ
  comes P so κ way = reached way.reach (so way.reached way.is)

  led : (n : ℕ) (κ κ' : Task) → LeadsTo n κ κ' → Meets κ' m → ReachesAfter task_ops (λ (t : Task). t.output) Meets (λ j. Unit {0}) n κ m
  led zero κ κ' same meets = subst (λ (j : Task). Meets j m) (sym same) meets
  led (suc n) κ κ' way meets = (way.0, tt, way.1, led n (stepped κ) κ' way.2 meets)

  pub leads : (κ κ' : Task) → Comes κ κ' → Meets κ' m → Arrives κ
  leads κ κ' way meets = (way.0, led way.0 κ κ' way.1 meets)

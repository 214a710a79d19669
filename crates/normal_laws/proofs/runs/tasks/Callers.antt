-- Tasks in frames that go together have opened accept bodies for the same callers, and have written the same.
use Rattle.std.proofs.Common.{◌≡◌, ℕ, zero, suc, List, ◌∷◌, ◌++◌, refl, sym, ap}
use Rattle.ada_value.specs.Variables.{Variables}
use Rattle.task_model.specs.Frames.{Around, PFrame, caller_at, callers_among, callers_in}
use Rattle.task_model.specs.Tasks.{Task}
use Rattle.task_laws.specs.translation.Translations.{Rewriting, Standing}
use Rattle.task_laws.specs.translation.Controls.{Under, on_floor, in_block, in_handler, in_endless, in_while, in_count, AreAround, are_around}
use Rattle.task_model.specs.Setting.{Setting}
use Rattle.normal_laws.specs.runs.floors.Preludes.{Added}
use Rattle.normal_laws.specs.runs.floors.NormalFloors.{own_body, accept_body, on_floors, floor_at, normal}

module _ (x : Rewriting) {g : Setting} (added : Added x.programs g) where
  abbrev callers_of : Around → List PFrame → List ℕ
  callers_of p o = caller_at p ++ callers_among o

  under-callers : (F : Standing) → ((p p' : Around) (o o' : List PFrame) (V W : Variables) → F p o V p' o' W → callers_of p o ≡ callers_of p' o') → {p p' : Around} {o o' : List PFrame} {V W : Variables} →
      Under (on_floors x F) p o V p' o' W → callers_of p o ≡ callers_of p' o'
  under-callers F h (on_floor f) = h _ _ _ _ _ _ f
  under-callers F h (in_block hs hs' r r' k im u) = under-callers F h u
  under-callers F h (in_handler e r r' im u) = under-callers F h u
  under-callers F h (in_endless name l l' r r' k im u) = under-callers F h u
  under-callers F h (in_while name e l l' r r' old k im u) = under-callers F h u
  under-callers F h (in_count name backwards last l l' r r' b old known k im u) = under-callers F h u

  floor-callers : (k : ℕ) (p p' : Around) (o o' : List PFrame) (V W : Variables) → floor_at x added k p o V p' o' W → callers_of p o ≡ callers_of p' o'
  floor-callers zero p p' o o' V W (own_body hs hs' taken V1 W1 h ext there) = refl
  floor-callers zero p p' o o' V W (accept_body q q' a a' V1 W1 caller formals pending r r' bs own im below) = absurd below
  floor-callers (suc k) p p' o o' V W (own_body hs hs' taken V1 W1 h ext there) = refl
  floor-callers (suc k) p p' o o' V W (accept_body q q' a a' V1 W1 caller formals pending r r' bs own im u) = ap (λ c. caller ∷ c) (under-callers (floor_at x added k) (floor-callers k) u)

  pub callers-same : (σ κ : Task) → AreAround (normal x added) σ κ → callers_in κ.control ≡ callers_in σ.control
  callers-same σ κ (are_around n i w r r' u) = sym (under-callers _ (λ p p' o o' V W f. floor-callers f.0 p p' o o' V W f.1) u)

  pub output-same : (σ κ : Task) → AreAround (normal x added) σ κ → κ.output ≡ σ.output
  output-same σ κ (are_around n i w r r' u) = refl

-- The theorem on translations: a task and its image go on alike, as long as the task stands in statements that do not synchronize. It is said of
-- every translation; as a clause speaks of types alone, what goes together is named here by the members of a type, one for each pair.
use Rattle.std.specs.Prelude.{◌≡◌, ℕ, ℤ, List}
use Rattle.ada_tree.specs.PlainExpr.{PExpr}
use Rattle.ada_tree.specs.PlainStmt.{PStmts}
use Rattle.ada_value.specs.declared.values.Raised.{Raised}
use Rattle.ada_value.specs.Variables.{Variables}
use Rattle.task_model.specs.Setting.{Setting}
use Rattle.task_model.specs.Frames.{Around, PFrame, Control}
use Rattle.task_model.specs.Tasks.{Task, rest_of, place_of, value_of, raised_there}
use Rattle.task_model.specs.Starting.{started}
use Rattle.task_laws.specs.translation.Translations.{Programs, Translation}
use Rattle.task_laws.specs.translation.OldNames.{OldExpr}
use Rattle.task_laws.specs.translation.Controls.{ExitsLoop, Alike, IsAtLocal, AreInside, AreAround, StepAlike}
use Rattle.task_laws.specs.translation.Floors.{AreExits, AreClosed, IsTranslation}
use Rattle.task_laws.specs.translation.Itself.{itself}

-- ---- what goes together, by members of a type

-- pairs of things, one for each member of a type
pub record Pairs (I A : Type 0) : Type 0 where
  pub before : I → A
  pub after : I → A

-- two things are one of the pairs
abbrev pub IsPair : {I A : Type 0} → Pairs I A → A → A → Type 0
IsPair {I} {A} pairs a b = (i : I) × (pairs.before i ≡ a) × (pairs.after i ≡ b)

-- what a frame stands in, with the frames outside of it and the variables
pub record Spot : Type 0 where
  pub place : Around
  pub outer : List PFrame
  pub vars : Variables

abbrev pub spot : Around → List PFrame → Variables → Spot
spot p o V = record { place = p; outer = o; vars = V }

-- A translation as it is told: the two programs, and the pairs of rows, of floors and of places beyond.
pub record Told (I F O : Type 0) : Type 0 where
  pub programs : Programs
  pub images : Pairs I PStmts
  pub floors : Pairs F Spot
  pub beyond : Pairs O Control

-- the translation that is told
abbrev pub translation : {I F O : Type 0} → Told I F O → Translation
translation t = record {
  text = record { programs = t.programs; image = λ r r'. IsPair t.images r r' };
  floor = λ p o V p' o' V'. IsPair t.floors (spot p o V) (spot p' o' V');
  beyond = λ c d. IsPair t.beyond c d;
}

-- ---- the theorem

-- A local step of a task is one of its image: behind it they are alike again, with equal input and output. The floors are such that exits lead to
-- places that go together.
abbrev pub StepsFollow : Type 0 → Type 0 → Type 0 → Type 0
StepsFollow I F O = (t : Told I F O) → IsTranslation (translation t) → AreExits (translation t) → (σ κ : Task) → AreInside (translation t) σ κ → IsAtLocal (rest_of σ) (place_of σ) →
    StepAlike (translation t) σ κ

-- So it is whatever exits would lead to, where no exit from a floor leaves a loop outside of it, and the task stands at no exit but such as leaves a loop.
abbrev pub StepsFollowInLoops : Type 0 → Type 0 → Type 0 → Type 0
StepsFollowInLoops I F O = (t : Told I F O) → IsTranslation (translation t) → AreClosed (translation t) → (σ κ : Task) → AreInside (translation t) σ κ → IsAtLocal (rest_of σ) (place_of σ) → ExitsLoop σ →
    StepAlike (translation t) σ κ

-- An exception that is raised in both leaves them alike, whatever is left of their statements.
abbrev pub RaisesFollow : Type 0 → Type 0 → Type 0 → Type 0
RaisesFollow I F O = (t : Told I F O) → IsTranslation (translation t) → (σ κ : Task) → AreAround (translation t) σ κ → (e : Raised) →
    Alike (translation t) (raised_there e σ) (raised_there e κ)

-- An expression with old names alone is worth the same to both, or raises the same.
abbrev pub ValuesFollow : Type 0 → Type 0 → Type 0 → Type 0
ValuesFollow I F O = (t : Told I F O) → IsTranslation (translation t) → (σ κ : Task) → AreAround (translation t) σ κ → (e : PExpr) → OldExpr t.programs e →
    value_of σ e ≡ value_of κ e

-- What is asked of a translation is met: each program is a translation of itself, and each of its tasks starts as its own image.
pub record IsItsOwn (g : Setting) : Type 0 where
  pub translates : IsTranslation (itself g)
  pub exits : AreExits (itself g)
  pub closed : AreClosed (itself g)
  pub starts : (inputs : List (List ℤ)) (t : ℕ) → AreInside (itself g) (started g inputs t) (started g inputs t)

abbrev pub MetByItself : Type 0
MetByItself = (g : Setting) → IsItsOwn g

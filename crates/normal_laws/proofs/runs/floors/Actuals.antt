-- The actual parameters of a call: what goes to variables in front of it, what the formals open with, and the same by the variables.
use Rattle.std.proofs.Common.{◌≡◌, ℕ, ◌+◌, true, if◌then◌else◌, List, [], ◌∷◌, ◌++◌, length, map, Option, Some, None, Result, Ok, Err, refl, sym, ap, ◌∙◌, arith}
use Rattle.ada_tree.specs.declared.naming.Span.{Span}
use Rattle.ada_tree.specs.declared.statements.ParMode.{ParMode}
use Rattle.ada_tree.specs.declared.statements.ParMode.TheVariants.{Take, Give, Both}
use Rattle.ada_tree.specs.TypeTable.{TypeTable}
use Rattle.ada_tree.specs.PlainExpr.{PExpr}
use Rattle.ada_tree.specs.PlainStmt.{stmt_then}
use Rattle.ada_value.specs.declared.values.Value.{Value}
use Rattle.ada_value.specs.declared.values.Raised.{Raised}
use Rattle.ada_value.specs.declared.values.Raised.TheVariants as raised
use Rattle.ada_value.specs.declared.values.Limits.{Limits}
use Rattle.ada_value.specs.Values.{and_then, checked, lies_in, position_of, lower_bound}
use Rattle.ada_value.specs.Variables.{Variables}
use Rattle.ada_value.specs.Evaluating.{evaluated, name_value}
use Rattle.task_model.specs.declared.parameters.FormalParameter.{FormalParameter}
use Rattle.task_model.specs.Setting.{Setting}
use Rattle.task_model.specs.Frames.{in_front}
use Rattle.task_model.specs.Calls.{opening, openings}
use Rattle.normal_model.specs.Names.{variable_name}
use Rattle.normal_model.specs.Making.{Kept, kept_before, assignment, variable}
use Rattle.normal_model.specs.Calls.{Slot, actual_before, actuals_before, actuals_passed}
use Rattle.task_laws.specs.translation.Translations.{Programs, types_before, types_after}
use Rattle.task_laws.specs.translation.Scopes.{AgreeOnTypes}
use Rattle.normal_laws.specs.runs.floors.Preludes.{IsCell, Added, Hold, hold_none, hold_passed, hold_value, due_before, worth_then, as_some, due_one, due_worth}
use Rattle.normal_laws.specs.runs.floors.inner.Actuals.{due_of, actual_dues, opening_value, opening_values, AreSlots, no_slots, slot_then}

-- ---- what stands in front of a call is due

pub kept-due : (g : Setting) (s : Span) (xs : List Kept) (k : ℕ) → kept_before g s xs k ≡ due_before g s (map (λ x. Some x.value) xs) k
kept-due g s [] k = refl
kept-due g s (x ∷ xs) k = ap (stmt_then (assignment g s k x.value)) (kept-due g s xs (k + 1))

pub actuals-due : (g : Setting) (s : Span) (xs : List Slot) (es : List PExpr) (k : ℕ) → actuals_before g s xs es k ≡ due_before g s (actual_dues xs es) k
actuals-due g s [] es k = refl
actuals-due g s (x ∷ xs) [] k = refl
actuals-due g s (x ∷ xs) (e ∷ es) k = ap (in_front (actual_before g s x.mode e k)) (actuals-due g s xs es (k + 1)) ∙ go x.mode
  where
    go : (m : ParMode) → in_front (actual_before g s m e k) (due_before g s (actual_dues xs es) (k + 1)) ≡ due_before g s (due_of m e ∷ actual_dues xs es) k
    go Take = refl
    go Give = refl
    go Both = refl

pub due-append : (g : Setting) (s : Span) (ds es : List (Option PExpr)) (k : ℕ) → in_front (due_before g s ds k) (due_before g s es (k + length ds)) ≡ due_before g s (ds ++ es) k
due-append g s [] es k = let e : k + 0 ≡ k = omega arith in ap (due_before g s es) e
due-append g s (None ∷ ds) es k =
    let e : k + length (None ∷ ds) ≡ (k + 1) + length ds = omega arith in
    ap (λ m. in_front (due_before g s ds (k + 1)) (due_before g s es m)) e ∙ due-append g s ds es (k + 1)
due-append g s (Some d ∷ ds) es k =
    let e : k + length (Some d ∷ ds) ≡ (k + 1) + length ds = omega arith in
    ap (λ m. in_front (due_before g s (Some d ∷ ds) k) (due_before g s es m)) e ∙ ap (stmt_then (assignment g s k d)) (due-append g s ds es (k + 1))

-- ---- what the formals open with

-- one opening value and those of the other formals
one-more : (types : TypeTable) (f : FormalParameter) (fs : List FormalParameter) (r : Result (Option Value) Raised) (rs : Result (List (Option Value)) Raised) →
    and_then (and_then r (λ v. Ok (opening_value types f.limits v))) (λ v. and_then (and_then rs (λ vs. Ok (opening_values types fs vs))) (λ vs. Ok (v ∷ vs)))
    ≡ and_then (worth_then r rs) (λ ws. Ok (opening_values types (f ∷ fs) ws))
one-more types f fs (Ok v) (Ok vs) = refl
one-more types f fs (Ok v) (Err e) = refl
one-more types f fs (Err e) rs = refl

some-opens : (types : TypeTable) (limits : Limits) (r : Result Value Raised) → r ≡ and_then (as_some r) (λ v. Ok (opening_value types limits v))
some-opens types limits (Ok v) = refl
some-opens types limits (Err e) = refl

-- a formal opens with what went to its variable
opening-is : (types : TypeTable) (V : Variables) (f : FormalParameter) (m : ParMode) (e : PExpr) → opening types V f m e ≡ and_then (due_one types V f.limits (due_of m e)) (λ v. Ok (opening_value types f.limits v))
opening-is types V f Take e = some-opens types f.limits (and_then (evaluated types V e) (λ v. checked f.limits v))
opening-is types V f Give e = refl
opening-is types V f Both e = some-opens types f.limits (and_then (evaluated types V e) (λ v. checked f.limits v))

lowers : (types : TypeTable) (V : Variables) (fs : List FormalParameter) → openings types V fs [] ≡ Ok (opening_values types fs [])
lowers types V [] = refl
lowers types V (f ∷ fs) = ap (λ r. and_then r (λ vs. Ok (lower_bound types f.limits ∷ vs))) (lowers types V fs)

pub openings-are : (types : TypeTable) (V : Variables) (bounds : ℕ → Limits) {fs : List FormalParameter} {xs : List Slot} {k : ℕ} → AreSlots bounds fs xs k → (es : List PExpr) →
    openings types V fs es ≡ and_then (due_worth types V bounds (actual_dues xs es) k) (λ ws. Ok (opening_values types fs ws))
openings-are types V bounds (no_slots k) es = refl
openings-are types V bounds (slot_then f x fs xs k mode limits h) [] = lowers types V (f ∷ fs)
openings-are types V bounds (slot_then f x fs xs k mode limits h) (e ∷ es) =
    ap (λ m. and_then (opening types V f m e) (λ v. and_then (openings types V fs es) (λ vs. Ok (v ∷ vs)))) mode
    ∙ ap (λ r. and_then r (λ v. and_then (openings types V fs es) (λ vs. Ok (v ∷ vs)))) (opening-is types V f x.mode e)
    ∙ ap (λ r. and_then (and_then (due_one types V f.limits (due_of x.mode e)) (λ v. Ok (opening_value types f.limits v))) (λ v. and_then r (λ vs. Ok (v ∷ vs)))) (openings-are types V bounds h es)
    ∙ one-more types f fs (due_one types V f.limits (due_of x.mode e)) (due_worth types V bounds (actual_dues xs es) (k + 1))
    ∙ ap (λ l. and_then (worth_then (due_one types V l (due_of x.mode e)) (due_worth types V bounds (actual_dues xs es) (k + 1))) (λ ws. Ok (opening_values types (f ∷ fs) ws))) limits

-- ---- the same by the variables

module _ (b : Programs) (types : AgreeOnTypes b) (g : Setting) (added : Added b g) where
  pub held-value : (s : Span) (k : ℕ) (W : Variables) (v : Value) → IsCell W (variable_name g k) (added.bounds k) v → evaluated (types_after b) W (variable g s k) ≡ Ok v
  held-value s k W v c = ap (λ o. Ok (name_value (types_after b) o (variable_name g k))) c.found

  lies-ok : (limits : Limits) (v : Value) → lies_in limits (position_of v) ≡ true → checked limits v ≡ Ok v
  lies-ok limits v e = ap (λ c. if c then Ok v else Err raised.Constraint) e

  lowers-same : (fs : List FormalParameter) → opening_values (types_after b) fs [] ≡ opening_values (types_before b) fs []
  lowers-same [] = refl
  lowers-same (f ∷ fs) =
      ap (λ v. v ∷ opening_values (types_after b) fs []) (sym (types.values f.limits.kind f.limits.first)) ∙ ap (λ vs. lower_bound (types_before b) f.limits ∷ vs) (lowers-same fs)

  -- one opening value by its variable, and the others
  held-one : (f : FormalParameter) (fs : List FormalParameter) (m : ParMode) (e : PExpr) (s : Span) (k : ℕ) (W : Variables) (ds : List (Option PExpr)) (es : List PExpr) (ws : List (Option Value)) →
      f.limits ≡ added.bounds k → Hold added W k (due_of m e ∷ ds) ws → ((vs : List (Option Value)) → Hold added W (k + 1) ds vs → openings (types_after b) W fs es ≡ Ok (opening_values (types_before b) fs vs)) →
      and_then (opening (types_after b) W f m (variable g s k)) (λ v. and_then (openings (types_after b) W fs es) (λ vs. Ok (v ∷ vs))) ≡ Ok (opening_values (types_before b) (f ∷ fs) ws)
  held-one f fs Take e s k W ds es ws limits (hold_value k1 e1 v ds1 vs c lies h) rest =
      ap (λ r. and_then (and_then r (λ a. checked f.limits a)) (λ a. and_then (openings (types_after b) W fs es) (λ us. Ok (a ∷ us)))) (held-value s k W v c)
      ∙ ap (λ l. and_then (checked l v) (λ a. and_then (openings (types_after b) W fs es) (λ us. Ok (a ∷ us)))) limits
      ∙ ap (λ r. and_then r (λ a. and_then (openings (types_after b) W fs es) (λ us. Ok (a ∷ us)))) (lies-ok (added.bounds k) v lies)
      ∙ ap (λ r. and_then r (λ us. Ok (v ∷ us))) (rest vs h)
  held-one f fs Both e s k W ds es ws limits (hold_value k1 e1 v ds1 vs c lies h) rest =
      ap (λ r. and_then (and_then r (λ a. checked f.limits a)) (λ a. and_then (openings (types_after b) W fs es) (λ us. Ok (a ∷ us)))) (held-value s k W v c)
      ∙ ap (λ l. and_then (checked l v) (λ a. and_then (openings (types_after b) W fs es) (λ us. Ok (a ∷ us)))) limits
      ∙ ap (λ r. and_then r (λ a. and_then (openings (types_after b) W fs es) (λ us. Ok (a ∷ us)))) (lies-ok (added.bounds k) v lies)
      ∙ ap (λ r. and_then r (λ us. Ok (v ∷ us))) (rest vs h)
  held-one f fs Give e s k W ds es ws limits (hold_passed k1 ds1 vs h) rest =
      ap (λ a. and_then (openings (types_after b) W fs es) (λ us. Ok (a ∷ us))) (sym (types.values f.limits.kind f.limits.first))
      ∙ ap (λ r. and_then r (λ us. Ok (lower_bound (types_before b) f.limits ∷ us))) (rest vs h)

  -- the formals open by the variables as they open by the actuals
  pub held-openings : {fs : List FormalParameter} {xs : List Slot} {k : ℕ} → AreSlots added.bounds fs xs k → (es : List PExpr) (s : Span) (W : Variables) (ws : List (Option Value)) →
      Hold added W k (actual_dues xs es) ws → openings (types_after b) W fs (actuals_passed g s xs es k) ≡ Ok (opening_values (types_before b) fs ws)
  held-openings (no_slots k) es s W ws h = refl
  held-openings (slot_then f x fs xs k mode limits more) [] s W ws (hold_none k1) = lowers (types_after b) W (f ∷ fs) ∙ ap (λ vs. Ok vs) (lowers-same (f ∷ fs))
  held-openings (slot_then f x fs xs k mode limits more) (e ∷ es) s W ws h =
      ap (λ m. and_then (opening (types_after b) W f m (variable g s k)) (λ v. and_then (openings (types_after b) W fs (actuals_passed g s xs es (k + 1))) (λ vs. Ok (v ∷ vs)))) mode
      ∙ held-one f fs x.mode e s k W (actual_dues xs es) (actuals_passed g s xs es (k + 1)) ws limits h (λ vs j. held-openings more es s W vs j)

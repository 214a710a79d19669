-- What stands in front of a synchronizing statement of a normal form: both go through it alike, and behind it what got a value is the same in both.
use Rattle.std.proofs.Common.{◌≡◌, ℕ, ◌+◌, Bool, true, false, if◌then◌else◌, List, [], ◌∷◌, Option, Some, None, Ok, Err, refl, sym, ap, ◌∙◌}
use Rattle.ada_tree.specs.declared.naming.NameId.{NameId}
use Rattle.ada_tree.specs.declared.naming.Span.{Span}
use Rattle.ada_tree.specs.PlainExpr.{PExpr}
use Rattle.ada_tree.specs.PlainStmt.{PStmts, stmt_then}
use Rattle.ada_value.specs.declared.values.Raised.TheVariants as raised
use Rattle.ada_value.specs.declared.values.Value.{Value}
use Rattle.ada_value.specs.Values.{position_of, lies_in}
use Rattle.ada_value.specs.Variables.{Object, Variables, object_named, checked_for, set_value}
use Rattle.ada_value.specs.Evaluating.{evaluated}
use Rattle.task_model.specs.Setting.{Setting}
use Rattle.task_model.specs.Steps as steps
use Rattle.normal_model.specs.Names.{variable_name}
use Rattle.normal_model.specs.Making.{variable_target, assignment}
use Rattle.task_laws.specs.translation.Translations.{Programs}
use Rattle.normal_laws.specs.runs.floors.Preludes.{due_before, OldDues, old_no_due, old_passed, old_due}
use Rattle.collect_runs.specs.aborts.likeness.Likeness.{Ground, Goal, form, with_these, Near, AreCells, Skipped, Passes}
use Rattle.collect_runs.proofs.aborts.likeness.Near.{Agree, agree-set, agree-stays, set-first}
use Rattle.collect_runs.proofs.aborts.likeness.Values.{worth, meet-then, meet-set, assigns-same}

module _ (x : Ground) where
  abbrev b : Programs
  b = x.programs

  abbrev g : Setting
  g = x.programs.original

  -- the value fits each variable of the name
  abbrev pub FitsThere : Variables → NameId → Value → Type 0
  FitsThere V id v = (o : Object) → object_named V id ≡ Some o → lies_in o.limits (position_of v) ≡ true

  -- what stays so where a value that fits is assigned in both
  abbrev pub Stable : Goal → Type 0
  Stable F = (V W : Variables) (id : NameId) (v : Value) → Near x V W → FitsThere V id v → F V W → F (set_value V id 0 v) (set_value W id 0 v)

  pub agree-stable : (id : NameId) → Stable (λ V W. Agree x V W id)
  agree-stable id V W other v near fits a = agree-stays x other v V W near id a

  pub both-stable : (F G : Goal) → Stable F → Stable G → Stable (λ V W. F V W × G V W)
  both-stable F G f g V W id v near fits a = (f V W id v near fits a.0, g V W id v near fits a.1)

  fits-checked : (V : Variables) (id : NameId) (v w : Value) → checked_for (object_named V id) v ≡ Ok w → FitsThere V id w
  fits-checked V id v w e o q = go (lies_in o.limits (position_of v)) refl (ap (λ a. checked_for a v) (sym q) ∙ e)
    where
      go : (c : Bool) → lies_in o.limits (position_of v) ≡ c → (if c then Ok v else Err raised.Constraint) ≡ Ok w → lies_in o.limits (position_of w) ≡ true
      go true k f = let same : v ≡ w = cc in ap (λ u. lies_in o.limits (position_of u)) (sym same) ∙ k
      go false k f = absurd (let none : ⊥ = cc in none)

  -- ---- one value goes to a variable

  same-checked : (o : Option Object) (v w : Value) → checked_for o v ≡ Ok w → v ≡ w
  same-checked None v w e = cc
  same-checked (Some o) v w e = go (lies_in o.limits (position_of v)) e
    where
      go : (c : Bool) → (if c then Ok v else Err raised.Constraint) ≡ Ok w → v ≡ w
      go true f = cc
      go false f = absurd (let none : ⊥ = cc in none)

  -- what stays so where a value that fits goes to the variable of this number
  abbrev pub StableAt : ℕ → Goal → Type 0
  StableAt k F = (V W : Variables) (v : Value) → Near x V W → FitsThere V (variable_name g k) v → F V W → F (set_value V (variable_name g k) 0 v) (set_value W (variable_name g k) 0 v)

  -- What is known behind it: the variable is the same in both and has the expression's value, which fits, and what was known before.
  pub assigns : (s : Span) (k : ℕ) (e : PExpr) (rest : PStmts) (K F : Goal) → StableAt k F → Skipped x (Passes x rest K) → (V W : Variables) → Near x V W → evaluated (form x).types W e ≡ evaluated (form x).types V e → F V W →
      (AreCells x V → (v : Value) → evaluated (form x).types V e ≡ Ok v → FitsThere V (variable_name g k) v → Near x (set_value V (variable_name g k) 0 v) (set_value W (variable_name g k) 0 v) →
      F (set_value V (variable_name g k) 0 v) (set_value W (variable_name g k) 0 v) → Agree x (set_value V (variable_name g k) 0 v) (set_value W (variable_name g k) 0 v) (variable_name g k) →
      Passes x rest K (set_value V (variable_name g k) 0 v) (set_value W (variable_name g k) 0 v)) →
      Passes x (stmt_then (assignment g s k e) rest) K V W
  assigns s k e rest K F stable skip V W near same f go = (
    (λ cells c.
        meet-then x (Passes x rest K) (evaluated (form x).types V e) (evaluated (form x).types W e)
        (λ v. steps.stored (with_these x c V) (variable_target g s k) 0 v) (λ v. steps.stored (with_these x c W) (variable_target g s k) 0 v) same
        (λ u q. meet-set x (Passes x rest K) V W (variable_name g k) 0 u near
        (λ w r. let n = set-first x (variable_name g k) w V W near in
        let fits = fits-checked V (variable_name g k) u w r in
        (n, go cells w (q ∙ ap (λ a. Ok a) (same-checked (object_named V (variable_name g k)) u w r)) fits n (stable V W w near fits f) (agree-set x (variable_name g k) w V W near))))),
    skip,
  )

  pub assigns-skip : (s : Span) (k : ℕ) (e : PExpr) (rest : PStmts) (K : Goal) → Skipped x (Passes x rest K) → Skipped x (Passes x (stmt_then (assignment g s k e) rest) K)
  assigns-skip s k e rest K skip U n = ((λ cells. assigns-same x (Passes x rest K) skip (variable_target g s k) e U n), skip)

  -- ---- a row of values

  -- the variables from number k on that got a value are the same in both
  abbrev pub AgreeDues : List (Option PExpr) → ℕ → Goal
  AgreeDues [] k V W = Unit {0}
  AgreeDues (None ∷ ds) k V W = AgreeDues ds (k + 1) V W
  AgreeDues (Some e ∷ ds) k V W = Agree x V W (variable_name g k) × AgreeDues ds (k + 1) V W

  pub dues-stable : (ds : List (Option PExpr)) (k : ℕ) → Stable (AgreeDues ds k)
  dues-stable [] k V W id v near fits a = tt
  dues-stable (None ∷ ds) k V W id v near fits a = dues-stable ds (k + 1) V W id v near fits a
  dues-stable (Some e ∷ ds) k V W id v near fits a = (agree-stays x id v V W near (variable_name g k) a.0, dues-stable ds (k + 1) V W id v near fits a.1)

  pub dues-skip : (s : Span) (ds : List (Option PExpr)) (k : ℕ) (K : Goal) → Skipped x K → Skipped x (Passes x (due_before g s ds k) K)
  dues-skip s [] k K skip = skip
  dues-skip s (None ∷ ds) k K skip = dues-skip s ds (k + 1) K skip
  dues-skip s (Some e ∷ ds) k K skip = assigns-skip s k e (due_before g s ds (k + 1)) K (dues-skip s ds (k + 1) K skip)

  pub dues-pass : (s : Span) {ds : List (Option PExpr)} → OldDues b ds → (k : ℕ) (K F : Goal) → Stable F → Skipped x K → ((V W : Variables) → Near x V W → F V W → AgreeDues ds k V W → K V W) →
      (V W : Variables) → Near x V W → F V W → Passes x (due_before g s ds k) K V W
  dues-pass s old_no_due k K F stable skip go V W near f = go V W near f tt
  dues-pass s (old_passed ds h) k K F stable skip go V W near f = dues-pass s h (k + 1) K F stable skip go V W near f
  dues-pass s (old_due e ds h more) k K F stable skip go V W near f =
      assigns s k e (due_before g s ds (k + 1)) K F (λ V1 W1 v. stable V1 W1 (variable_name g k) v) (dues-skip s ds (k + 1) K skip) V W near (worth x V W near h) f
      (λ cells v q r n f1 a. dues-pass s more (k + 1) K (λ V2 W2. F V2 W2 × Agree x V2 W2 (variable_name g k)) (both-stable F (λ V2 W2. Agree x V2 W2 (variable_name g k)) stable (agree-stable (variable_name g k))) skip
      (λ V2 W2 m f2 d. go V2 W2 m f2.0 (f2.1, d)) _ _ n (f1, a))

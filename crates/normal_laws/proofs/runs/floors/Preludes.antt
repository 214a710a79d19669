-- The values in front of a synchronizing statement: all of them go to their variables, or the first that raises is raised in the same frames.
use Rattle.std.proofs.Common.{◌≡◌, ℕ, ◌+◌, ◌<◌, ◌≤◌, ℤ, Bool, true, false, ◌==◌, if◌then◌else◌, List, [], ◌∷◌, length, Option, Some, None, Result, Ok, Err, refl, sym, ap, subst, ◌∙◌, arith}
use Rattle.std.proofs.lemmas.Bool.{eqb-true}
use Rattle.ada_tree.specs.declared.naming.NameId.{NameId}
use Rattle.ada_tree.specs.declared.naming.Span.{Span}
use Rattle.ada_tree.specs.PlainExpr.{PExpr}
use Rattle.ada_tree.specs.PlainStmt.{PStmt, PStmts, stmt_then}
use Rattle.ada_value.specs.declared.values.Value.{Value}
use Rattle.ada_value.specs.declared.values.Raised.{Raised}
use Rattle.ada_value.specs.declared.values.Raised.TheVariants as raised
use Rattle.ada_value.specs.declared.values.Limits.{Limits}
use Rattle.ada_value.specs.Values.{and_then, checked, lies_in, position_of}
use Rattle.ada_value.specs.Variables.{Variables, checked_for, set_value}
use Rattle.ada_value.specs.Evaluating.{evaluated}
use Rattle.task_model.specs.Setting.{Setting}
use Rattle.task_model.specs.Frames.{Around, PFrame, control, in_front, settled}
use Rattle.task_model.specs.Tasks.{Task, with_vars, gone_to, raised_there, or_raised}
use Rattle.task_model.specs.Stands.{Steps, stand_of, stepped}
use Rattle.normal_model.specs.Names.{variable_name}
use Rattle.normal_model.specs.Making.{assignment}
use Rattle.task_laws.specs.translation.Translations.{Translation, types_before, types_after}
use Rattle.task_laws.specs.translation.Images.{IsSomething, something_there}
use Rattle.task_laws.specs.translation.Controls.{task_in, Under}
use Rattle.task_laws.specs.translation.Floors.{IsTranslation}
use Rattle.task_laws.proofs.translation.Results.{Both, both_ok, both_err}
use Rattle.task_laws.proofs.translation.Evaluating.{KnownValue, known_value, value-alike}
use Rattle.task_laws.proofs.translation.Frames.{sees-alike, add-alike}
use Rattle.normal_laws.specs.runs.floors.Preludes.{Reaches, reaches_here, reaches_by, IsCell, Added, AreThere, hold_none, hold_passed, hold_value, due_before, worth_then, as_some, due_worth, OldDues, old_no_due, old_passed, old_due, Prelude, given, stopped}
use Rattle.normal_laws.proofs.runs.floors.Cells.{named-set_other, cell-set, cell-kept}
use Rattle.common_lemmas.proofs.Numbers.{unequal_above}

-- a step to a task that is told, and on from there
pub reaches_to : {κ κ1 κ2 : Task} → stand_of κ ≡ Steps → stepped κ ≡ κ1 → κ1.output ≡ κ.output → Reaches κ1 κ2 → Reaches κ κ2
reaches_to {κ} {κ1} {κ2} steps e out r = reaches_by κ κ2 steps (ap (λ t. t.output) e ∙ out) (subst (λ t. Reaches t κ2) (sym e) r)

-- what an assignment to a cell makes of a task, by what the expression comes to
abbrev outcome : PStmts → Task → Variables → NameId → Limits → Result Value Raised → Task
outcome q t W id limits r = or_raised (λ vars. gone_to q (with_vars t vars)) t (and_then r (λ v. and_then (checked limits v) (λ w. Ok (set_value W id 0 w))))

-- statements that are there stay, as frames that are over are left
settled-row : {r : PStmts} → IsSomething r → (p : Around) (o : List PFrame) (V : Variables) → settled (control r p o V) ≡ control r p o V
settled-row (something_there s l) p o V = refl

module _ (x : Translation) (laws : IsTranslation x) (g : Setting) (added : Added x.text.programs g) where
  -- a task of the normal form
  abbrev at : ℕ → List ℤ → List ℕ → PStmts → Around → List PFrame → Variables → Task
  at n i w r p o V = task_in x.text.programs.made n i w (control r p o V)

  assign-is : (n : ℕ) (i : List ℤ) (w : List ℕ) (s : Span) (k : ℕ) (e : PExpr) (q : PStmts) (p : Around) (o : List PFrame) (W : Variables) (u : Value) → IsCell W (variable_name g k) (added.bounds k) u →
      (r : Result Value Raised) → evaluated (types_after x.text.programs) W e ≡ r →
      stepped (at n i w (stmt_then (assignment g s k e) q) p o W) ≡ outcome q (at n i w (stmt_then (assignment g s k e) q) p o W) W (variable_name g k) (added.bounds k) r
  assign-is n i w s k e q p o W u c r f =
      ap (λ ob. or_raised (λ vars. gone_to q (with_vars (at n i w (stmt_then (assignment g s k e) q) p o W) vars)) (at n i w (stmt_then (assignment g s k e) q) p o W)
      (and_then (evaluated (types_after x.text.programs) W e) (λ v. and_then (checked_for ob v) (λ y. Ok (set_value W (variable_name g k) 0 y))))) c.found
      ∙ ap (λ b. outcome q (at n i w (stmt_then (assignment g s k e) q) p o W) W (variable_name g k) (added.bounds k) b) f

  -- the row behind an assignment is there
  row-due : (s : Span) (ds : List (Option PExpr)) (k : ℕ) (t : PStmt) (r : PStmts) → IsSomething (in_front (due_before g s ds k) (stmt_then t r))
  row-due s [] k t r = something_there t r
  row-due s (None ∷ ds) k t r = row-due s ds (k + 1) t r
  row-due s (Some e ∷ ds) k t r = something_there _ _

  -- the other variables, where one is assigned to
  pub there-set : (W : Variables) (k : ℕ) (v : Value) → k < added.count → AreThere added W → AreThere added (set_value W (variable_name g k) 0 v)
  there-set W k v l there j m = go (k == j) refl
    where
      other : ((variable_name g k).0 == (variable_name g j).0) ≡ false → (y : Value) × IsCell (set_value W (variable_name g k) 0 v) (variable_name g j) (added.bounds j) y
      other ne = let h = there j m in (h.0, cell-kept W (set_value W (variable_name g k) 0 v) (variable_name g j) (added.bounds j) h.0 (named-set_other W (variable_name g k) 0 v (variable_name g j) ne) h.1)

      go : (t : Bool) → (k == j) ≡ t → (y : Value) × IsCell (set_value W (variable_name g k) 0 v) (variable_name g j) (added.bounds j) y
      go true e = subst (λ a. (y : Value) × IsCell (set_value W (variable_name g k) 0 v) (variable_name g a) (added.bounds a) y) (eqb-true k j e)
          (let h = there k l in (v, cell-set W (variable_name g k) (added.bounds k) h.0 v h.1))
      go false e = other (added.apart k j l m e)

  -- ---- one value after the other

  module _ (n : ℕ) (i : List ℤ) (w : List ℕ) (p p' : Around) (o o' : List PFrame) (V : Variables) (s : Span) (t : PStmt) (r : PStmts) where
    -- the expressions from number k on, in front of t
    abbrev before : List (Option PExpr) → ℕ → PStmts
    before ds k = in_front (due_before g s ds k) (stmt_then t r)

    abbrev worth : List (Option PExpr) → ℕ → Result (List (Option Value)) Raised
    worth ds k = due_worth (types_before x.text.programs) V added.bounds ds k

    abbrev Made : List (Option PExpr) → ℕ → Variables → Type 0
    Made ds k W = Prelude x added n i w p o V p' o' (at n i w (before ds k) p' o' W) (stmt_then t r) k W ds

    -- the row is gone to, with the value in its variable
    went : (e : PExpr) (ds : List (Option PExpr)) (k : ℕ) (W : Variables) (v : Value) →
        gone_to (before ds (k + 1)) (with_vars (at n i w (before (Some e ∷ ds) k) p' o' W) (set_value W (variable_name g k) 0 v)) ≡ at n i w (before ds (k + 1)) p' o' (set_value W (variable_name g k) 0 v)
    went e ds k W v = ap (λ c. task_in x.text.programs.made n i w c) (settled-row (row-due s ds (k + 1) t r) p' o' (set_value W (variable_name g k) 0 v))

    stop-here : (e : PExpr) (ds : List (Option PExpr)) (k : ℕ) (W : Variables) → Under x p o V p' o' W → AreThere added W → (a : Raised) → worth (Some e ∷ ds) k ≡ Err a →
        stepped (at n i w (before (Some e ∷ ds) k) p' o' W) ≡ raised_there a (at n i w (before (Some e ∷ ds) k) p' o' W) → Made (Some e ∷ ds) k W
    stop-here e ds k W u there a res step = stopped a (before (Some e ∷ ds) k) W res u (reaches_here (at n i w (before (Some e ∷ ds) k) p' o' W)) refl step there

    -- behind the first value, those behind it
    more : (e : PExpr) (ds : List (Option PExpr)) (k : ℕ) (W : Variables) (v : Value) → k < added.count → (c : (y : Value) × IsCell W (variable_name g k) (added.bounds k) y) →
        lies_in (added.bounds k) (position_of v) ≡ true → and_then (evaluated (types_before x.text.programs) V e) (λ a. checked (added.bounds k) a) ≡ Ok v →
        stepped (at n i w (before (Some e ∷ ds) k) p' o' W) ≡ at n i w (before ds (k + 1)) p' o' (set_value W (variable_name g k) 0 v) →
        Made ds (k + 1) (set_value W (variable_name g k) 0 v) → Made (Some e ∷ ds) k W
    more e ds k W v l c lies one step (given vs W' res u reach there hold same) =
        given (Some v ∷ vs) W' (ap (λ a. worth_then (as_some a) (worth ds (k + 1))) one ∙ ap (λ a. worth_then (Ok (Some v)) a) res) u
        (reaches_to refl step refl reach) there
        (hold_value k e v ds vs (cell-kept (set_value W (variable_name g k) 0 v) W' (variable_name g k) (added.bounds k) v (same k (omega arith)) (cell-set W (variable_name g k) (added.bounds k) c.0 v c.1)) lies hold)
        (λ j m. same j (omega arith) ∙ named-set_other W (variable_name g k) 0 v (variable_name g j) (added.apart k j l (omega arith) (unequal_above k j m)))
    more e ds k W v l c lies one step (stopped a q W' res u reach steps stop there) =
        stopped a q W' (ap (λ a. worth_then (as_some a) (worth ds (k + 1))) one ∙ ap (λ a. worth_then (Ok (Some v)) a) res) u
        (reaches_to refl step refl reach) steps stop there

    -- the first value is checked
    check : (e : PExpr) (ds : List (Option PExpr)) (k : ℕ) (W : Variables) (v : Value) → k < added.count → (c : (y : Value) × IsCell W (variable_name g k) (added.bounds k) y) → Under x p o V p' o' W → AreThere added W →
        evaluated (types_before x.text.programs) V e ≡ Ok v → evaluated (types_after x.text.programs) W e ≡ Ok v →
        Made ds (k + 1) (set_value W (variable_name g k) 0 v) → (b : Bool) → lies_in (added.bounds k) (position_of v) ≡ b → Made (Some e ∷ ds) k W
    check e ds k W v l c u there ea eb rest true lies =
        more e ds k W v l c lies (ap (λ a. and_then a (λ z. checked (added.bounds k) z)) ea ∙ ap (λ b. if b then Ok v else Err raised.Constraint) lies)
        (assign-is n i w s k e (before ds (k + 1)) p' o' W c.0 c.1 (Ok v) eb
        ∙ ap (λ b. or_raised (λ vars. gone_to (before ds (k + 1)) (with_vars (at n i w (before (Some e ∷ ds) k) p' o' W) vars)) (at n i w (before (Some e ∷ ds) k) p' o' W)
        (and_then (if b then Ok v else Err raised.Constraint) (λ z. Ok (set_value W (variable_name g k) 0 z)))) lies
        ∙ went e ds k W v) rest
    check e ds k W v l c u there ea eb rest false lies =
        stop-here e ds k W u there raised.Constraint
        (ap (λ a. worth_then (as_some (and_then a (λ z. checked (added.bounds k) z))) (worth ds (k + 1))) ea
        ∙ ap (λ b. worth_then (as_some (if b then Ok v else Err raised.Constraint)) (worth ds (k + 1))) lies)
        (assign-is n i w s k e (before ds (k + 1)) p' o' W c.0 c.1 (Ok v) eb
        ∙ ap (λ b. or_raised (λ vars. gone_to (before ds (k + 1)) (with_vars (at n i w (before (Some e ∷ ds) k) p' o' W) vars)) (at n i w (before (Some e ∷ ds) k) p' o' W)
        (and_then (if b then Ok v else Err raised.Constraint) (λ z. Ok (set_value W (variable_name g k) 0 z)))) lies)

    -- the first value comes out on both sides, or both raise
    first : (e : PExpr) (ds : List (Option PExpr)) (k : ℕ) (W : Variables) → k < added.count → (c : (y : Value) × IsCell W (variable_name g k) (added.bounds k) y) → Under x p o V p' o' W → AreThere added W →
        {a b : Result Value Raised} → Both (KnownValue x.text.programs) a b → evaluated (types_before x.text.programs) V e ≡ a → evaluated (types_after x.text.programs) W e ≡ b →
        ((v : Value) → Made ds (k + 1) (set_value W (variable_name g k) 0 v)) → Made (Some e ∷ ds) k W
    first e ds k W l c u there (both_err a) ea eb rest =
        stop-here e ds k W u there a (ap (λ a. worth_then (as_some (and_then a (λ z. checked (added.bounds k) z))) (worth ds (k + 1))) ea)
        (assign-is n i w s k e (before ds (k + 1)) p' o' W c.0 c.1 (Err a) eb)
    first e ds k W l c u there (both_ok v v' (known_value z known)) ea eb rest = check e ds k W z l c u there ea eb (rest z) (lies_in (added.bounds k) (position_of z)) refl

    -- a variable that is only passed
    pass : (ds : List (Option PExpr)) (k : ℕ) (W : Variables) → Made ds (k + 1) W → Made (None ∷ ds) k W
    pass ds k W (given vs W' res u reach there hold same) =
        given (None ∷ vs) W' (ap (λ a. worth_then (Ok None) a) res) u reach there (hold_passed k ds vs hold) (λ j m. same j (omega arith))
    pass ds k W (stopped a q W' res u reach steps stop there) = stopped a q W' (ap (λ a. worth_then (Ok None) a) res) u reach steps stop there

    pub prelude : {ds : List (Option PExpr)} → OldDues x.text.programs ds → (k : ℕ) (W : Variables) → k + length ds ≤ added.count → Under x p o V p' o' W → AreThere added W → Made ds k W
    prelude old_no_due k W l u there = given [] W refl u (reaches_here (at n i w (stmt_then t r) p' o' W)) there (hold_none k) (λ j m. refl)
    prelude (old_passed ds h) k W l u there = pass ds k W (prelude h (k + 1) W (omega arith) u there)
    prelude (old_due e ds old h) k W l u there =
        first e ds k W (omega arith) (there k (omega arith)) u there (value-alike x.text.programs laws.types (sees-alike x laws u) old) refl refl
        (λ v. prelude h (k + 1) (set_value W (variable_name g k) 0 v) (omega arith) (add-alike x laws (variable_name g k) 0 v (added.new k (omega arith)) u) (there-set W k v (omega arith) there))

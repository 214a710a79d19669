-- How the controller hands out a permit, and how it hears that one is used.
use Rattle.std.proofs.Common.{◌≡◌, ℕ, Bool, true, List, [], ◌∷◌, ◌++◌, length, Option, Some, None, refl, sym, ap, ◌∙◌, subst}
use Rattle.std.specs.Prelude.{ℤ, pos, Result, Ok}
use Rattle.ada_tree.specs.declared.naming.NameId.{NameId}
use Rattle.ada_tree.specs.PlainExpr.{PExpr}
use Rattle.ada_tree.specs.PlainStmt.{PStmt, PStmts, no_stmt, stmts_of}
use Rattle.ada_static_rules.specs.StaticValue.{is_integer_value}
use Rattle.ada_value.specs.declared.values.Value.{Value}
use Rattle.ada_value.specs.declared.values.Value.TheVariants.{Number}
use Rattle.ada_value.specs.declared.values.Raised.{Raised}
use Rattle.ada_value.specs.Values.{and_then}
use Rattle.ada_value.specs.Variables.{Object, Variables, object_named, checked_for, set_value}
use Rattle.ada_value.specs.Evaluating.{evaluated}
use Rattle.task_model.specs.Frames.{Opened, control}
use Rattle.task_model.specs.Tasks.{Task, with_vars, gone_to, or_raised}
use Rattle.task_model.specs.Calls.{opened_objects, values_handed}
use Rattle.task_model.specs.Steps.{assigned}
use Rattle.task_model.specs.Stands.{stepped}
use Rattle.task_model.specs.Rendezvous.{alternative_opened, accepted}
use Rattle.task_model.specs.Waits.{Open}
use Rattle.control_script.specs.declared.Op.{Op}
use Rattle.control_script.specs.declared.Op.TheVariants.{Go, Done}
use Rattle.normal_model.specs.Making.{one}
use Rattle.normal_model.specs.Ranges.{word_at}
use Rattle.replay_model.specs.declared.tables.columns.Column.TheVariants.{Task as TaskColumn, Kind, Argument, Index}
use Rattle.replay_model.specs.tables.Turns.{line_of, part_given, given, going, hearing}
use Rattle.table_law.specs.Controllers.{Controller, Entries, IsController, CanMakeAll}
use Rattle.table_law.specs.States.{standing, turn_variables, behind_loop, turn_frame, turning, before, permit_object, go_parameters, permit_variables, granting, heard, LeadsTo}
use Rattle.table_law.proofs.Found.{found, set}
use Rattle.table_law.proofs.Numbers.{number-fits}
use Rattle.table_law.proofs.Lines.{line-in-turn, line-in-body}
use Rattle.table_law.proofs.Turning.{step, at-seam}
use Rattle.table_law.proofs.Accepting.{index-is, member-found}
use Rattle.ada_value.proofs.StaticLaws.{natural_integer as small}

module _ (k : Controller) (e : Entries) (h : IsController k e) (hold : Bool) (made left : List Op) where
  -- ---- hearing

  pub hears :
      (task caller : ℕ) (handing : Task) → CanMakeAll k (made ++ Done task ∷ left) →
      accepted e.done (pos task) caller handing (before k hold made (Done task ∷ left)) ≡ heard k hold (made ++ Done task ∷ left) (length made) caller
  hears task caller handing can =
      let all : List Op = made ++ Done task ∷ left in
      ap (λ (o : Option Open). alternative_opened caller o (values_handed handing) (turning k hold all (length made) (one (hearing k.names k.span))))
      (member-found k k.names.done e.done h.done _ _ _ task
      (index-is k k.names.done e.done h.done (turn_variables k all (length made)) (line_of k.names k.span TaskColumn) task (line-in-turn k e h TaskColumn made (Done task) left) (at-seam k made (Done task) left can)))

  -- ---- a permit

  module _ (task kind arg : ℕ) (index : ℤ) (caller : ℕ) (can : CanMakeAll k (made ++ Go task kind arg index ∷ left)) where
    abbrev op : Op
    op = Go task kind arg index

    abbrev all : List Op
    all = made ++ op ∷ left

    abbrev V : Value → Value → Value → Variables
    V a b c = permit_variables k a b c all (length made)

    abbrev inside : PStmts → Value → Value → Value → Task
    inside stmts a b c = granting k hold all (length made) caller stmts a b c

    -- in the accept body with these variables
    abbrev opened_with : PStmts → Variables → Task
    opened_with stmts vars = standing k (control stmts (Opened caller (go_parameters k) None) (turn_frame k all ∷ behind_loop k hold ∷ []) vars)

    -- the formals open with some values
    opened : (vs : List Value) → (a : Value) × (b : Value) × (c : Value) × (opened_objects k.setting.types (go_parameters k) vs ++ turn_variables k all (length made) ≡ V a b c)
    opened [] = (_, _, _, refl)
    opened (a ∷ []) = (a, _, _, refl)
    opened (a ∷ b ∷ []) = (a, b, _, refl)
    opened (a ∷ b ∷ c ∷ vs) = (a, b, c, refl)

    -- the variables after a number is assigned to a formal
    assigned-is :
        (stmts : PStmts) (a b c : Value) (after : Variables) (name : NameId) (v : Value) (x : PExpr) (z : ℤ) → is_integer_value z ≡ true → evaluated k.setting.types (V a b c) x ≡ Ok (Number z) →
        object_named (V a b c) name ≡ Some (permit_object k name v) → set_value (V a b c) name 0 (Number z) ≡ after →
        assigned (inside stmts a b c) (record { name = word_at k.span name; index = None }) x ≡ Ok after
    assigned-is stmts a b c after name v x z whole worth there changed =
        ap (λ (r : Result Value Raised). and_then r (λ w. and_then (checked_for (object_named (V a b c) name) w) (λ u. Ok (set_value (V a b c) name 0 u)))) worth
        ∙ ap (λ (o : Option Object). and_then (checked_for o (Number z)) (λ u. Ok (set_value (V a b c) name 0 u))) there
        ∙ ap (λ (r : Result Value Raised). and_then r (λ u. Ok (set_value (V a b c) name 0 u))) (number-fits k e h z whole)
        ∙ ap (λ (vars : Variables). Ok vars) changed

    -- ---- the three steps

    abbrev third : List PStmt
    third = part_given k.span k.names.index (line_of k.names k.span Index) ∷ []

    abbrev second : List PStmt
    second = part_given k.span k.names.argument (line_of k.names k.span Argument) ∷ third

    -- the step of an assignment, by the variables behind it
    abbrev moved : PStmts → PStmts → Value → Value → Value → Result Variables Raised → Task
    moved stmts rest a b c r = or_raised (λ (vars : Variables). gone_to rest (with_vars (inside stmts a b c) vars)) (inside stmts a b c) r

    kind-given : (a b c : Value) → stepped (inside (stmts_of (given k.names k.span)) a b c) ≡ inside (stmts_of second) (Number (pos kind)) b c
    kind-given a b c =
        ap (moved (stmts_of (given k.names k.span)) (stmts_of second) a b c)
        (assigned-is (stmts_of (given k.names k.span)) a b c (V (Number (pos kind)) b c) k.names.kind a (line_of k.names k.span Kind) (pos kind) (small kind (at-seam k made op left can).1) (line-in-body k e h a b c Kind made op left)
        (found (V a b c) 0 (permit_object k k.names.kind a) h.apart refl)
        (set [] (permit_object k k.names.kind a) (permit_object k k.names.argument b ∷ permit_object k k.names.index c ∷ turn_variables k all (length made)) (Number (pos kind)) tt))

    argument-given : (a b c : Value) → stepped (inside (stmts_of second) a b c) ≡ inside (stmts_of third) a (Number (pos arg)) c
    argument-given a b c =
        ap (moved (stmts_of second) (stmts_of third) a b c)
        (assigned-is (stmts_of second) a b c (V a (Number (pos arg)) c) k.names.argument b (line_of k.names k.span Argument) (pos arg) (small arg (at-seam k made op left can).2) (line-in-body k e h a b c Argument made op left)
        (found (V a b c) 1 (permit_object k k.names.argument b) h.apart refl)
        (set (permit_object k k.names.kind a ∷ []) (permit_object k k.names.argument b) (permit_object k k.names.index c ∷ turn_variables k all (length made)) (Number (pos arg)) (h.apart.0.0, tt)))

    index-given : (a b c : Value) → stepped (inside (stmts_of third) a b c) ≡ inside no_stmt a b (Number index)
    index-given a b c =
        ap (moved (stmts_of third) no_stmt a b c)
        (assigned-is (stmts_of third) a b c (V a b (Number index)) k.names.index c (line_of k.names k.span Index) index (at-seam k made op left can).3 (line-in-body k e h a b c Index made op left)
        (found (V a b c) 2 (permit_object k k.names.index c) h.apart refl)
        (set (permit_object k k.names.kind a ∷ permit_object k k.names.argument b ∷ []) (permit_object k k.names.index c) (turn_variables k all (length made)) (Number index) (h.apart.0.1.0, (h.apart.1.0.0, tt))))

    gives : (a b c : Value) → LeadsTo 3 (inside (stmts_of (given k.names k.span)) a b c) (inside no_stmt (Number (pos kind)) (Number (pos arg)) (Number index))
    gives a b c =
        let last : Task = inside no_stmt (Number (pos kind)) (Number (pos arg)) (Number index) in
        step 2 (inside (stmts_of (given k.names k.span)) a b c) (inside (stmts_of second) (Number (pos kind)) b c) last refl (kind-given a b c) refl
        (step 1 (inside (stmts_of second) (Number (pos kind)) b c) (inside (stmts_of third) (Number (pos kind)) (Number (pos arg)) c) last refl (argument-given (Number (pos kind)) b c) refl
        (step 0 (inside (stmts_of third) (Number (pos kind)) (Number (pos arg)) c) last last refl (index-given (Number (pos kind)) (Number (pos arg)) c) refl refl))

    -- a call of GO opens the accept body, in which the three numbers are given
    pub grants :
        (handing : Task) →
        LeadsTo 3 (accepted e.go (pos task) caller handing (before k hold made (Go task kind arg index ∷ left)))
        (granting k hold (made ++ Go task kind arg index ∷ left) (length made) caller no_stmt (Number (pos kind)) (Number (pos arg)) (Number index))
    grants handing =
        let values = opened (values_handed handing) in
        let opens : accepted e.go (pos task) caller handing (before k hold made (op ∷ left)) ≡ inside (stmts_of (given k.names k.span)) values.0 values.1 values.2 =
        ap (λ (o : Option Open). alternative_opened caller o (values_handed handing) (turning k hold all (length made) (one (going k.names k.span))))
        (member-found k k.names.go e.go h.go _ _ _ task
        (index-is k k.names.go e.go h.go (turn_variables k all (length made)) (line_of k.names k.span TaskColumn) task (line-in-turn k e h TaskColumn made op left) (at-seam k made op left can).0))
        ∙ ap (opened_with (stmts_of (given k.names k.span))) values.3 in
        subst (λ (t : Task). LeadsTo 3 t (inside no_stmt (Number (pos kind)) (Number (pos arg)) (Number index))) (sym opens) (gives values.0 values.1 values.2)

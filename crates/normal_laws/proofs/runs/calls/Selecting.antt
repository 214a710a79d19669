-- Conditional and timed calls of a chosen callee: a variable tells which part came, and behind the case statement stand the parts.
use Rattle.std.proofs.Common.{◌≡◌, ℕ, ◌+◌, ◌<◌, ◌≤◌, ℤ, pos, Bool, true, false, if◌then◌else◌, List, [], ◌∷◌, length, Option, Some, None, Ok, Err, refl, sym, ap, subst, ◌∙◌, arith}
use Rattle.std.specs.Prelude.{is_some}
use Rattle.ada_tree.specs.declared.naming.Span.{Span}
use Rattle.ada_tree.specs.declared.naming.Word.{Word}
use Rattle.ada_tree.specs.declared.expressions.BinaryOp.TheVariants.{Equal as Equals}
use Rattle.ada_tree.specs.PlainExpr.{PExpr, EInteger}
use Rattle.ada_tree.specs.PlainStmt.{PCall, PStmt, PStmts, stmt_then, present}
use Rattle.ada_value.specs.declared.values.Value.{Value}
use Rattle.ada_value.specs.declared.values.Value.TheVariants.{Number, Truth}
use Rattle.ada_value.specs.declared.values.Raised.{Raised}
use Rattle.ada_value.specs.declared.values.Raised.TheVariants as raised
use Rattle.ada_value.specs.Values.{and_then, fitted, lies_in, position_of, is_true_value, integer_limits}
use Rattle.ada_value.specs.Variables.{Variables, object_named}
use Rattle.ada_value.specs.Evaluating.{combined}
use Rattle.task_model.specs.Setting.{Setting, entry_parameters}
use Rattle.task_model.specs.Frames.{Around, PFrame, control, in_front}
use Rattle.task_model.specs.Tasks.{Task, gone_to, entered, stmts_or_none, or_raised}
use Rattle.task_model.specs.Calls.{Called, called, opening_values}
use Rattle.task_model.specs.Stands.{Raises, call_stand, stand_of, stepped}
use Rattle.normal_model.specs.Names.{variable_name}
use Rattle.normal_model.specs.Ranges.{integer_subtype}
use Rattle.normal_model.specs.Making.{or_null, moving}
use Rattle.normal_model.specs.Members.{chosen_if}
use Rattle.normal_model.specs.Calls.{slots_called, actual_number, call_before, call_behind, call_to, call_subtypes, is_chosen, flag_number, flag_subtypes, select_subtypes, flagged, part_taken, select_if, select_image}
use Rattle.normal_model.proofs.WalkLemmas.{in_front-joined}
use Rattle.task_laws.specs.translation.Translations.{Programs, Translation, types_before}
use Rattle.task_laws.specs.translation.OldNames.{old_integer}
use Rattle.task_laws.specs.translation.OldTexts.{OldCall}
use Rattle.task_laws.specs.translation.Images.{IsSomething, something_there}
use Rattle.task_laws.specs.translation.Controls.{task_in, Under, are_around}
use Rattle.task_laws.specs.translation.Floors.{IsTranslation}
use Rattle.task_laws.proofs.translation.Frames.{sees-alike}
use Rattle.normal_laws.specs.runs.floors.Suited.{AreMade, IsCall}
use Rattle.normal_laws.specs.runs.floors.Preludes.{Reaches, IsCell, Added, AreThere, due_worth, worth_then, as_some, old_due, old_no_due, Hold, hold_value, Prelude, given, stopped}
use Rattle.normal_laws.specs.runs.floors.Declared.{HaveSubtypes, subtype_then}
use Rattle.normal_laws.specs.runs.floors.inner.Met.{CallMet, at_raise, at_call, Comes}
use Rattle.normal_laws.proofs.runs.floors.Actuals.{held-value}
use Rattle.normal_laws.proofs.runs.floors.Preludes.{prelude, reaches_to}
use Rattle.normal_laws.proofs.runs.floors.Declared.{subtypes-first, subtypes-second}
use Rattle.normal_laws.specs.runs.calls.inner.Calls.{IsEntryCalled, MeetsCall, meets_call, meets_none}
use Rattle.normal_laws.specs.runs.calls.inner.Returns.{HoldBack}
use Rattle.normal_laws.proofs.runs.callees.Choosing.{reaches-behind}
use Rattle.normal_laws.proofs.runs.calls.Calling.{call-comes}
use Rattle.normal_laws.proofs.runs.calls.Handing.{hold-behind}
use Rattle.normal_laws.proofs.runs.calls.Knowing.{called-known, ok-same}
use Rattle.normal_laws.proofs.runs.calls.CallForms.{Form, statement, form_of, has-call, stands-at, handed-at, other-at, form-met, null-row}
use Rattle.normal_laws.proofs.runs.calls.Standing.{Goes, actuals-fit, returns-on, what_of, behind_of, entered-alike, known-met}

module _ (x : Translation) (laws : IsTranslation x) (made : AreMade x.text.programs) (added : Added x.text.programs x.text.programs.original) (s : Span) (c : PCall) (asked : IsCall x.text.programs c)
    (old : OldCall x.text.programs c) (n : ℕ) (subtypes : HaveSubtypes x.text.programs added (select_subtypes x.text.programs.original s c) n)
    (m : ℕ) (i : List ℤ) (out : List ℕ) (p p' : Around) (o o' : List PFrame) (V : Variables)
    (f : Form) (l l' other other' q q' : PStmts) (iml : x.text.image l l') (imo : x.text.image other other') (im : x.text.image q q') where
  abbrev b : Programs
  b = x.text.programs

  abbrev g : Setting
  g = x.text.programs.original

  abbrev h : Setting
  h = x.text.programs.made

  abbrev right : PStmts → Variables → Task
  right r W = task_in h m i out (control r p' o' W)

  call-subtypes : HaveSubtypes b added (call_subtypes g s c) n
  call-subtypes = subtypes-first b added (call_subtypes g s c) (flag_subtypes (is_chosen g c) s) n subtypes

  abbrev flag : ℕ
  flag = flag_number g s c n

  abbrev met : PStmts
  met = in_front (call_behind g s c n) l'

  abbrev parts : PStmt
  parts = part_taken g s c n met other'

  -- ---- the variable that tells the part

  module _ (chosen : is_chosen g c ≡ true) where
    flag-subtype : HaveSubtypes b added (flag_subtypes true s) flag
    flag-subtype = subst (λ t. HaveSubtypes b added (flag_subtypes t s) flag) chosen (subtypes-second b added (call_subtypes g s c) (flag_subtypes (is_chosen g c) s) n subtypes)

    flag-below : flag < added.count
    flag-below = go flag-subtype
      where
        go : HaveSubtypes b added (integer_subtype s ∷ []) flag → flag < added.count
        go (subtype_then y ys k1 l1 e more) = l1

    flag-lies : (z : ℤ) → lies_in (added.bounds flag) z ≡ lies_in integer_limits z
    flag-lies z = go flag-subtype
      where
        go : HaveSubtypes b added (integer_subtype s ∷ []) flag → lies_in (added.bounds flag) z ≡ lies_in integer_limits z
        go (subtype_then y ys k1 l1 e more) = ap (λ r. lies_in r z) e ∙ sym (made.integers s z)

    -- the variables once it tells the part
    record Flagged (part : ℕ) (W : Variables) : Type 0 where
      vars : Variables
      under : Under x p o V p' o' vars
      there : AreThere added vars
      cell : IsCell vars (variable_name g flag) (added.bounds flag) (Number (pos part))
      same : (j : ℕ) → j < flag → object_named vars (variable_name g j) ≡ object_named W (variable_name g j)
      reach : Reaches (right (in_front (flagged g s c n part) (stmt_then parts q')) W) (right (stmt_then parts q') vars)

    flag-set : (part : ℕ) → fitted (pos part) ≡ Ok (Number (pos part)) → lies_in integer_limits (pos part) ≡ true → (W : Variables) → Under x p o V p' o' W → AreThere added W → Flagged part W
    flag-set part worth lies W u there =
        let l1 : flag < added.count = flag-below in
        go (prelude x laws g added m i out p p' o o' V s parts q' (old_due (EInteger part s) [] (old_integer part s) old_no_due) flag W (omega arith) u there)
      where
        due : due_worth (types_before b) V added.bounds (Some (EInteger part s) ∷ []) flag ≡ Ok (Some (Number (pos part)) ∷ [])
        due = ap (λ r. worth_then (as_some (and_then r (λ v. if lies_in (added.bounds flag) (position_of v) then Ok v else Err raised.Constraint))) (Ok [])) worth
            ∙ ap (λ t. worth_then (as_some (if t then Ok (Number (pos part)) else Err raised.Constraint)) (Ok [])) (flag-lies (pos part) ∙ lies)

        held : {W1 : Variables} → Hold added W1 flag (Some (EInteger part s) ∷ []) (Some (Number (pos part)) ∷ []) → IsCell W1 (variable_name g flag) (added.bounds flag) (Number (pos part))
        held (hold_value k e v ds vs cell lies1 more) = cell

        go : Prelude x added m i out p o V p' o' (right (in_front (flagged g s c n part) (stmt_then parts q')) W) (stmt_then parts q') flag W (Some (EInteger part s) ∷ []) → Flagged part W
        go (given vs W1 res v reach still hold same) = record {
          vars = W1;
          under = v;
          there = still;
          cell = held (subst (λ us. Hold added W1 flag (Some (EInteger part s) ∷ []) us) (ok-same vs (Some (Number (pos part)) ∷ []) (sym res ∙ due)) hold);
          same = same;
          reach = reach;
        }
        go (stopped a r W1 res v reach steps stop still) = absurd (let none : ⊥ = ok-no-err (sym res ∙ due) in none)
          where
            ok-no-err : {A : Type 0} {y : A} → Err a ≡ Ok y → ⊥
            ok-no-err e = cc

    -- the statement behind the case takes the part that the variable tells
    abbrev taken : Bool → PStmts
    taken true = or_null s met
    taken false = or_null s other'

    part-step : (part : ℕ) (t : Bool) → fitted (pos 1) ≡ Ok (Number (pos 1)) → combined Equals (Number (pos part)) (Number (pos 1)) ≡ Ok (Truth t) → (W : Variables) → IsCell W (variable_name g flag) (added.bounds flag) (Number (pos part)) →
        stepped (right (stmt_then parts q') W) ≡ gone_to (in_front (taken t) q') (right (stmt_then parts q') W)
    part-step part t one-worth told W cell =
        ap (λ r. or_raised (λ branch. entered (stmts_or_none branch) q' (right (stmt_then parts q') W)) (right (stmt_then parts q') W)
        (and_then (and_then (and_then r (λ a. and_then (fitted (pos 1)) (λ d. combined Equals a d))) (λ v. Ok (is_true_value v))) (λ y. if y then Ok (present (or_null s met)) else Ok (present (or_null s other')))))
        (held-value b made.types g added s flag W (Number (pos part)) cell)
        ∙ ap (λ r. or_raised (λ branch. entered (stmts_or_none branch) q' (right (stmt_then parts q') W)) (right (stmt_then parts q') W)
        (and_then (and_then r (λ v. Ok (is_true_value v))) (λ y. if y then Ok (present (or_null s met)) else Ok (present (or_null s other'))))) (ap (λ r. and_then r (λ d. combined Equals (Number (pos part)) d)) one-worth ∙ told)
        ∙ end t
      where
        end : (t : Bool) → or_raised (λ branch. entered (stmts_or_none branch) q' (right (stmt_then parts q') W)) (right (stmt_then parts q') W)
            (and_then (and_then (Ok (Truth t)) (λ v. Ok (is_true_value v))) (λ y. if y then Ok (present (or_null s met)) else Ok (present (or_null s other')))) ≡ gone_to (in_front (taken t) q') (right (stmt_then parts q') W)
        end true = refl
        end false = refl

    -- from the flag to the part
    to-part : (part : ℕ) (t : Bool) → fitted (pos part) ≡ Ok (Number (pos part)) → lies_in integer_limits (pos part) ≡ true → combined Equals (Number (pos part)) (Number (pos 1)) ≡ Ok (Truth t) →
        (part-of : PStmts) → taken t ≡ or_null s part-of → (W : Variables) → Under x p o V p' o' W → AreThere added W →
        (a : Flagged part W) × Reaches (right (in_front (flagged g s c n part) (stmt_then parts q')) W) (gone_to (in_front part-of q') (right (stmt_then parts q') a.vars))
    to-part part t worth lies told part-of e W u there =
        let a = flag-set part worth lies W u there in (
          a,
          reaches-behind a.reach (reaches_to refl (part-step part t refl told a.vars a.cell ∙ ap (λ r. gone_to (in_front r q') (right (stmt_then parts q') a.vars)) e) refl
              (null-row s m i out h p' o' part-of q' (stmt_then parts q') a.vars)),
        )

    abbrev new_stmt : Word → PStmt
    new_stmt w = statement s f (call_to g s c n w) (flagged g s c n 1) (flagged g s c n 2)

    chosen-met : (r : Called) (w : Word) (W : Variables) → Under x p o V p' o' W → AreThere added W → called g V c ≡ Ok r → called h W (call_to g s c n w) ≡ Ok r → IsEntryCalled b added s c n asked r.entry →
        CallMet x (task_in g m i out (control (stmt_then (statement s f c l other) q) p o V)) (right (stmt_then (new_stmt w) (stmt_then parts q')) W)
    chosen-met r w W u there e e' facts =
        form-met x f r (stands-at s m i out f g c l other q p o V ∙ ap (call_stand (form_of f)) e)
        (stands-at s m i out f h (call_to g s c n w) (flagged g s c n 1) (flagged g s c n 2) (stmt_then parts q') p' o' W ∙ ap (call_stand (form_of f)) e')
        (handed-at s m i out f g c l other q p o V ∙ ap (λ a. opening_values (Some a)) e)
        (handed-at s m i out f h (call_to g s c n w) (flagged g s c n 1) (flagged g s c n 2) (stmt_then parts q') p' o' W ∙ ap (λ a. opening_values (Some a)) e')
        (called-known b made.types (sees-alike x laws u) c old r e)
        (are_around m i out (stmt_then (statement s f c l other) q) (stmt_then (new_stmt w) (stmt_then parts q')) u)
        (λ values back. returns-on x laws made added s c asked old n call-subtypes m i out p p' o o' V w (has-call s f c l other) (has-call s f (call_to g s c n w) (flagged g s c n 1) (flagged g s c n 2))
        q q' (stmt_then parts q') W r iml im u there e e' facts values back (λ vars u1 there1 hold. on values vars u1 there1 hold))
        (let a = to-part 2 false refl refl refl other' refl W u there in
        record {
          reached = gone_to (in_front other' q') (right (stmt_then parts q') a.0.vars);
          reach = subst (λ t. Reaches t (gone_to (in_front other' q') (right (stmt_then parts q') a.0.vars)))
              (sym (other-at s m i out f h (call_to g s c n w) (flagged g s c n 1) (flagged g s c n 2) (stmt_then parts q') p' o' W)) a.1;
          after = entered-alike x laws made added s c asked old n call-subtypes m i out p p' o o' V f l l' other other' q q' iml imo im (stmt_then parts q') a.0.vars a.0.under;
        })
      where
        on : (values : List Value) (vars : Variables) → Under x p o V p' o' vars → AreThere added vars → HoldBack added vars (entry_parameters g r.entry) (slots_called g c) asked.actuals values (actual_number g s c n) →
            Goes x added s c n asked r values p o V p' o' (gone_to (in_front (flagged g s c n 1) (stmt_then parts q')) (right (stmt_then (new_stmt w) (stmt_then parts q')) vars)) m i out
            (in_front (call_behind g s c n) (in_front l' q'))
        on values vars u1 there1 hold =
            let a = to-part 1 true refl refl refl met refl vars u1 there1 in
            let fit : actual_number g s c n + length asked.actuals ≤ flag = actuals-fit x laws made added s c asked old n call-subtypes m i out p p' o o' V in
            record {
              vars = a.0.vars;
              rest = stmt_then parts q';
              under = a.0.under;
              hold = hold-behind b added hold flag fit a.0.same;
              reach = subst (λ r1. Reaches (right (in_front (flagged g s c n 1) (stmt_then parts q')) vars) (gone_to r1 (right (stmt_then parts q') a.0.vars))) (in_front-joined (call_behind g s c n) l' q') a.1;
            }

  -- ---- by whether the callee is chosen

  abbrev what : Option PExpr → Word → PStmts
  what = what_of x laws made added s c asked old n call-subtypes m i out p p' o o' V f l l' other other' q q' iml imo im

  abbrev behind : Option PExpr → PStmts
  behind = behind_of x laws made added s c asked old n call-subtypes m i out p p' o o' V f l l' other other' q q' iml imo im

  select-row : (mv : Option PExpr) → in_front (select_if (is_some mv) (statement s f) g s c n met other') q' ≡ in_front (chosen_if mv g s c.task n (what mv)) (behind mv)
  select-row None = refl
  select-row (Some e) = refl

  what-row : (mv : Option PExpr) (w : Word) → IsSomething (what mv w)
  what-row None w = something_there _ _
  what-row (Some e) w = something_there _ _

  either-met : (mv : Option PExpr) → moving g.types c.task.index ≡ mv → (r : Called) (w : Word) (W : Variables) → Under x p o V p' o' W → AreThere added W → called g V c ≡ Ok r → called h W (call_to g s c n w) ≡ Ok r →
      IsEntryCalled b added s c n asked r.entry → CallMet x (task_in g m i out (control (stmt_then (statement s f c l other) q) p o V)) (right (in_front (what mv w) (behind mv)) W)
  either-met None mv r w W u there e e' facts = known-met x laws made added s c asked old n call-subtypes m i out p p' o o' V f l l' other other' q q' iml imo im r w W u there e e' facts
  either-met (Some d) mv r w W u there e e' facts = chosen-met (ap is_some mv) r w W u there e e' facts

  pub select-comes : (W : Variables) → Under x p o V p' o' W → AreThere added W →
      Comes x (task_in g m i out (control (stmt_then (statement s f c l other) q) p o V)) (right (in_front (select_image (statement s f) g s c n l' other') q') W)
  select-comes W u there =
      subst (λ a. Comes x σ (right a W)) (sym row)
      (go (call-comes x laws made added s c asked old n call-subtypes m i out p p' o o' V W (what mv) (what-row mv) (behind mv) u there))
    where
      mv : Option PExpr
      mv = moving g.types c.task.index

      σ : Task
      σ = task_in g m i out (control (stmt_then (statement s f c l other) q) p o V)

      row : in_front (select_image (statement s f) g s c n l' other') q' ≡ in_front (call_before g s c n) (in_front (chosen_if mv g s c.task n (what mv)) (behind mv))
      row = in_front-joined (call_before g s c n) (select_if (is_some mv) (statement s f) g s c n met other') q' ∙ ap (in_front (call_before g s c n)) (select-row mv)

      stand-raises : (a : Raised) → called g V c ≡ Err a → stand_of σ ≡ Raises a
      stand-raises a e = stands-at s m i out f g c l other q p o V ∙ ap (call_stand (form_of f)) e

      go : MeetsCall x added m i out p o V p' o' (right (in_front (call_before g s c n) (in_front (chosen_if mv g s c.task n (what mv)) (behind mv))) W) s c n asked (what mv) (behind mv) →
          Comes x σ (right (in_front (call_before g s c n) (in_front (chosen_if mv g s c.task n (what mv)) (behind mv))) W)
      go (meets_call r w W1 e e' facts u1 there1 reach) = record { reached = _; reach = reach; meets = at_call (either-met mv refl r w W1 u1 there1 e e' facts) }
      go (meets_none a r W1 e u1 reach steps stop) =
          record { reached = _; reach = reach; meets = at_raise a (stand-raises a e) (are_around m i out (stmt_then (statement s f c l other) q) r u1) steps stop }

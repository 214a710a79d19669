-- The assignments behind a call do what copying back does, in the same order, with the same exception.
use Rattle.std.proofs.Common.{◌≡◌, ℕ, ◌+◌, ◌<◌, ℤ, Bool, true, false, if◌then◌else◌, List, [], ◌∷◌, Option, None, Result, Ok, Err, refl, sym, ap, subst, ◌∙◌}
use Rattle.ada_tree.specs.declared.naming.NameId.{NameId}
use Rattle.ada_tree.specs.declared.naming.Span.{Span}
use Rattle.ada_tree.specs.declared.statements.ParMode.{ParMode}
use Rattle.ada_tree.specs.declared.statements.ParMode.TheVariants.{Take, Give, Both}
use Rattle.ada_tree.specs.PlainExpr.{PExpr, EName}
use Rattle.ada_tree.specs.PlainStmt.{PStmt, SAssign, PStmts, no_stmt, stmt_then}
use Rattle.ada_value.specs.declared.values.Value.{Value}
use Rattle.ada_value.specs.declared.values.Raised.{Raised}
use Rattle.ada_value.specs.declared.values.Raised.TheVariants as raised
use Rattle.ada_value.specs.Values.{and_then, lies_in, position_of}
use Rattle.ada_value.specs.Variables.{Object, Variables, object_named, checked_for, set_value}
use Rattle.task_model.specs.declared.parameters.FormalParameter.{FormalParameter}
use Rattle.task_model.specs.Setting.{Setting}
use Rattle.task_model.specs.Frames.{Around, PFrame, control, in_front}
use Rattle.task_model.specs.Tasks.{Task, with_vars, gone_to, raised_there, or_raised}
use Rattle.task_model.specs.Stands.{stepped}
use Rattle.task_model.specs.Calls.{Copies, copied_one, copied_back, copies_on}
use Rattle.normal_model.specs.Names.{variable_name}
use Rattle.normal_model.specs.Ranges.{word_at}
use Rattle.normal_model.specs.Making.{variable}
use Rattle.normal_model.specs.Calls.{Slot, actual_behind, actuals_behind}
use Rattle.task_laws.specs.translation.Translations.{Translation, IsOld, IsKnown}
use Rattle.task_laws.specs.translation.Scopes.{SameObject, no_object, same_object}
use Rattle.task_laws.specs.translation.Controls.{task_in, Under}
use Rattle.task_laws.specs.translation.Floors.{IsTranslation}
use Rattle.task_laws.proofs.translation.Frames.{sees-alike, set-alike}
use Rattle.task_laws.proofs.translation.Locals.{go-there, raise-there}
use Rattle.normal_laws.specs.runs.floors.Preludes.{reaches_here, IsCell, Added}
use Rattle.normal_laws.specs.runs.calls.inner.Returns.{HoldBack, back_over, back_done, back_in, back_give, back_both, gone_back}
use Rattle.normal_laws.specs.runs.floors.inner.Met.{Catches}
use Rattle.normal_laws.proofs.runs.floors.Cells.{named-set_other, cell-kept, apart-old}
use Rattle.normal_laws.proofs.runs.floors.Actuals.{held-value}
use Rattle.normal_laws.proofs.runs.floors.Preludes.{reaches_to}

-- copying one value back, by the variable that it goes to
abbrev stored_in : Option Object → Variables → NameId → Value → Result Variables Raised
stored_in o V id v = and_then (checked_for o v) (λ w. Ok (set_value V id 0 w))

module _ (x : Translation) (laws : IsTranslation x) (g : Setting) (added : Added x.text.programs g) where
  -- the unit's variables are as they were
  abbrev SameCells : Variables → Variables → Type 0
  SameCells W0 W = (k : ℕ) → k < added.count → object_named W (variable_name g k) ≡ object_named W0 (variable_name g k)

  same-set : (W0 W : Variables) (id : NameId) (v : Value) → IsOld x.text.programs id → SameCells W0 W → SameCells W0 (set_value W id 0 v)
  same-set W0 W id v old same k l = named-set_other W id 0 v (variable_name g k) (apart-old added id old k l) ∙ same k l

  module _ (n : ℕ) (i : List ℤ) (w : List ℕ) (p p' : Around) (o o' : List PFrame) (s : Span) (r r0 q q' : PStmts) (im : x.text.image q q') where
    -- the original at its call, and the image before statements
    abbrev left : Variables → Task
    left V = task_in x.text.programs.original n i w (control r p o V)

    abbrev right : PStmts → Variables → Task
    right a W = task_in x.text.programs.made n i w (control a p' o' W)

    -- copying goes on, or has stopped
    abbrev went : Variables → Copies → Task
    went V c = gone_back q (left V) c.vars c.stopped

    -- the image behind its call, with these assignments left
    abbrev Caught : Variables → Variables → Copies → PStmts → Type 0
    Caught V W c a = Catches x (went V c) (gone_to (in_front a q') (right r0 W))

    over : (V W : Variables) → Under x p o V p' o' W → Caught V W (record { vars = V; stopped = None }) no_stmt
    over V W u = record { reached = gone_to q' (right r0 W); reach = reaches_here (gone_to q' (right r0 W)); after = go-there x laws n i w r r0 q q' im u }

    -- the assignment of a variable to an actual
    abbrev back_stmt : NameId → Span → ℕ → PStmt
    back_stmt id at k = SAssign (record { name = word_at at id; index = None }) (variable g s k) s

    step-is : (id : NameId) (at : Span) (k : ℕ) (W : Variables) (v : Value) (a : PStmts) → IsCell W (variable_name g k) (added.bounds k) v →
        stepped (right (stmt_then (back_stmt id at k) a) W) ≡
        or_raised (λ vars. gone_to a (with_vars (right (stmt_then (back_stmt id at k) a) W) vars)) (right (stmt_then (back_stmt id at k) a) W) (stored_in (object_named W id) W id v)
    step-is id at k W v a c =
        ap (λ e. or_raised (λ vars. gone_to a (with_vars (right (stmt_then (back_stmt id at k) a) W) vars)) (right (stmt_then (back_stmt id at k) a) W)
        (and_then e (λ z. stored_in (object_named W id) W id z))) (held-value x.text.programs laws.types g added s k W v c)

    -- one value comes back
    one-back : (id : NameId) (at : Span) (k : ℕ) (V W : Variables) (v : Value) (more : Variables → Copies) (a : PStmts) → Under x p o V p' o' W → IsCell W (variable_name g k) (added.bounds k) v →
        (Under x p o (set_value V id 0 v) p' o' (set_value W id 0 v) → Caught (set_value V id 0 v) (set_value W id 0 v) (more (set_value V id 0 v)) a) → IsOld x.text.programs id → IsKnown x.text.programs v →
        {ob ob' : Option Object} → SameObject x.text.programs ob ob' → object_named V id ≡ ob → object_named W id ≡ ob' →
        Caught V W (copies_on more V (stored_in ob V id v)) (stmt_then (back_stmt id at k) a)
    one-back id at k V W v more a u c next old known no_object ea eb =
        let h = next (set-alike x laws id 0 v old known u) in
        record {
          reached = h.reached;
          reach = reaches_to refl (step-is id at k W v (in_front a q') c ∙ ap (λ ob. or_raised (λ vars. gone_to (in_front a q') (with_vars (right (stmt_then (back_stmt id at k) (in_front a q')) W) vars))
              (right (stmt_then (back_stmt id at k) (in_front a q')) W) (stored_in ob W id v)) eb) refl h.reach;
          after = h.after;
        }
    one-back id at k V W v more a u c next old known (same_object ob has) ea eb = go (lies_in ob.limits (position_of v)) refl
      where
        path : (t : Bool) → lies_in ob.limits (position_of v) ≡ t → stepped (right (stmt_then (back_stmt id at k) (in_front a q')) W) ≡
            or_raised (λ vars. gone_to (in_front a q') (with_vars (right (stmt_then (back_stmt id at k) (in_front a q')) W) vars)) (right (stmt_then (back_stmt id at k) (in_front a q')) W)
            (and_then (if t then Ok v else Err raised.Constraint) (λ z. Ok (set_value W id 0 z)))
        path t e = step-is id at k W v (in_front a q') c
            ∙ ap (λ b. or_raised (λ vars. gone_to (in_front a q') (with_vars (right (stmt_then (back_stmt id at k) (in_front a q')) W) vars))
            (right (stmt_then (back_stmt id at k) (in_front a q')) W) (stored_in b W id v)) eb
            ∙ ap (λ b. or_raised (λ vars. gone_to (in_front a q') (with_vars (right (stmt_then (back_stmt id at k) (in_front a q')) W) vars))
            (right (stmt_then (back_stmt id at k) (in_front a q')) W) (and_then (if b then Ok v else Err raised.Constraint) (λ z. Ok (set_value W id 0 z)))) e

        go : (t : Bool) → lies_in ob.limits (position_of v) ≡ t →
            Caught V W (copies_on more V (and_then (if t then Ok v else Err raised.Constraint) (λ z. Ok (set_value V id 0 z)))) (stmt_then (back_stmt id at k) a)
        go true e = let h = next (set-alike x laws id 0 v old known u) in record { reached = h.reached; reach = reaches_to refl (path true e) refl h.reach; after = h.after }
        go false e = record {
          reached = raised_there raised.Constraint (right (stmt_then (back_stmt id at k) (in_front a q')) W);
          reach = reaches_to refl (path false e) refl (reaches_here (raised_there raised.Constraint (right (stmt_then (back_stmt id at k) (in_front a q')) W)));
          after = raise-there x laws n i w r (stmt_then (back_stmt id at k) (in_front a q')) u raised.Constraint;
        }

    -- no actuals are left
    none-left : (fs : List FormalParameter) (xs : List Slot) (vs : List Value) (k : ℕ) (V W : Variables) → Under x p o V p' o' W → Caught V W (copied_back fs [] vs V) (actuals_behind g s xs [] k)
    none-left [] [] vs k V W u = over V W u
    none-left [] (y ∷ xs) vs k V W u = over V W u
    none-left (f ∷ fs) [] vs k V W u = over V W u
    none-left (f ∷ fs) (y ∷ xs) vs k V W u = over V W u

    -- one formal, by its mode
    by-mode : (m m' : ParMode) {a a' : ParMode} → a ≡ m → a' ≡ m' → (V W : Variables) (more : List Value → Variables → Copies) (e : PExpr) (vs : List Value) (k : ℕ) (rest : PStmts) →
        Caught V W (copied_one more m e vs V) (in_front (actual_behind g s m' e k) rest) → Caught V W (copied_one more a e vs V) (in_front (actual_behind g s a' e k) rest)
    by-mode m m' {a} {a'} f f' V W more e vs k rest h =
        subst (λ b. Caught V W (copied_one more b e vs V) (in_front (actual_behind g s a' e k) rest)) (sym f)
        (subst (λ b. Caught V W (copied_one more m e vs V) (in_front (actual_behind g s b e k) rest)) (sym f') h)

    pub copies : (W0 : Variables) {fs : List FormalParameter} {xs : List Slot} {es : List PExpr} {vs : List Value} {k : ℕ} → HoldBack added W0 fs xs es vs k → (V W : Variables) → Under x p o V p' o' W →
        SameCells W0 W → Caught V W (copied_back fs es vs V) (actuals_behind g s xs es k)
    copies W0 (back_over fs xs vs k) V W u same = none-left fs xs vs k V W u
    copies W0 (back_done es vs k) V W u same = over V W u
    copies W0 (back_in f y fs xs e es vs k m m' h) V W u same =
        by-mode Take Take m m' V W (λ ws changed. copied_back fs es ws changed) e vs k (actuals_behind g s xs es (k + 1)) (copies W0 h V W u same)
    copies W0 (back_give f y fs xs id at es v vs k m m' l old known c h) V W u same =
        by-mode Give Give m m' V W (λ ws changed. copied_back fs es ws changed) (EName id at) (v ∷ vs) k (actuals_behind g s xs es (k + 1))
        (one-back id at k V W v (λ changed. copied_back fs es vs changed) (actuals_behind g s xs es (k + 1)) u (cell-kept W0 W (variable_name g k) (added.bounds k) v (same k l) c)
        (λ u1. copies W0 h (set_value V id 0 v) (set_value W id 0 v) u1 (same-set W0 W id v old same)) old known ((sees-alike x laws u).named id old) refl refl)
    copies W0 (back_both f y fs xs id at es v vs k m m' l old known c h) V W u same =
        by-mode Both Both m m' V W (λ ws changed. copied_back fs es ws changed) (EName id at) (v ∷ vs) k (actuals_behind g s xs es (k + 1))
        (one-back id at k V W v (λ changed. copied_back fs es vs changed) (actuals_behind g s xs es (k + 1)) u (cell-kept W0 W (variable_name g k) (added.bounds k) v (same k l) c)
        (λ u1. copies W0 h (set_value V id 0 v) (set_value W id 0 v) u1 (same-set W0 W id v old same)) old known ((sees-alike x laws u).named id old) refl refl)

-- Values that come back go to the variables first, and then by the assignments to the actuals: what comes of a call that returns.
use Rattle.std.proofs.Common.{◌≡◌, ℕ, ◌+◌, ◌<◌, ◌≤◌, ℤ, true, if◌then◌else◌, List, [], ◌∷◌, length, Option, Some, None, Ok, Err, refl, sym, ap, ◌∙◌, arith, true≢false}
use Rattle.ada_tree.specs.declared.naming.Span.{Span}
use Rattle.ada_tree.specs.declared.naming.Word.{Word}
use Rattle.ada_tree.specs.declared.statements.ParMode.{ParMode}
use Rattle.ada_tree.specs.PlainExpr.{PExpr}
use Rattle.ada_tree.specs.PlainStmt.{PCall, PStmt, SConditional, STimed, SCall, PStmts, stmt_then}
use Rattle.ada_value.specs.declared.values.Value.{Value}
use Rattle.ada_value.specs.declared.values.Raised.{Raised}
use Rattle.ada_value.specs.declared.values.Raised.TheVariants as raised
use Rattle.ada_value.specs.Values.{and_then, lies_in, position_of}
use Rattle.ada_value.specs.Variables.{Variables, object_named, checked_for, set_value}
use Rattle.task_model.specs.declared.parameters.FormalParameter.{FormalParameter}
use Rattle.task_model.specs.Setting.{Setting, entry_parameters}
use Rattle.task_model.specs.Frames.{Around, PFrame, control, in_front}
use Rattle.task_model.specs.Tasks.{with_vars, gone_to}
use Rattle.task_model.specs.Calls.{Called, Copies, called, comes_back, copied_one, copied_back, copies_on}
use Rattle.task_model.specs.Rendezvous.{come_back, call_ended, returned}
use Rattle.normal_model.specs.Names.{variable_name}
use Rattle.normal_model.specs.Making.{variable}
use Rattle.normal_model.specs.Calls.{Slot, slots_called, actual_number, actuals_passed, call_to}
use Rattle.task_laws.specs.translation.Translations.{Programs, Translation}
use Rattle.task_laws.specs.translation.Controls.{task_in, Under}
use Rattle.task_laws.specs.translation.Floors.{IsTranslation}
use Rattle.task_laws.proofs.translation.Frames.{add-alike}
use Rattle.normal_laws.specs.runs.floors.Suited.{IsCopied, only_taken, given_back, both_ways, AreCopied, none_copied, copied_then, IsCall}
use Rattle.normal_laws.specs.runs.floors.Preludes.{IsCell, Added, AreThere}
use Rattle.normal_laws.specs.runs.floors.inner.Actuals.{AreSlots, no_slots, slot_then}
use Rattle.normal_laws.specs.runs.floors.inner.Met.{AreBack, in_back, one_back}
use Rattle.normal_laws.proofs.runs.floors.Cells.{named-set_other, cell-set, cell-kept}
use Rattle.normal_laws.proofs.runs.floors.Preludes.{there-set}
use Rattle.normal_laws.specs.runs.calls.inner.Calls.{IsEntryCalled}
use Rattle.normal_laws.specs.runs.calls.inner.Returns.{HoldBack, back_over, back_done, back_in, back_give, back_both, HasCall, has_plain, has_conditional, has_timed, AreFinals, finals_over, finals_done, final_in, final_give, final_both, gone_back}
use Rattle.common_lemmas.proofs.Numbers.{unequal_above}

-- ---- the values that come back

module _ (b : Programs) (added : Added b b.original) where
  one-final : (f : FormalParameter) (x : Slot) (fs : List FormalParameter) (xs : List Slot) (e : PExpr) (es : List PExpr) (k : ℕ) → k < added.count → f.mode ≡ x.mode → f.limits ≡ added.bounds k →
      (m : ParMode) → x.mode ≡ m → IsCopied b m e → {vs : List Value} → AreBack b (f ∷ fs) vs → ((us : List Value) → AreBack b fs us → AreFinals added fs xs es us (k + 1)) → AreFinals added (f ∷ fs) (x ∷ xs) (e ∷ es) vs k
  one-final f x fs xs e es k l mode limits m q (only_taken e1) (in_back f1 fs1 vs c back) more = final_in f x fs xs e es vs k (mode ∙ q) q (more vs back)
  one-final f x fs xs e es k l mode limits m q (only_taken e1) (one_back f1 fs1 v vs c known lies back) more = absurd (true≢false (sym c ∙ ap comes_back (mode ∙ q)))
  one-final f x fs xs e es k l mode limits m q (given_back id s old) (in_back f1 fs1 vs c back) more = absurd (true≢false (sym (ap comes_back (mode ∙ q)) ∙ c))
  one-final f x fs xs e es k l mode limits m q (given_back id s old) (one_back f1 fs1 v vs c known lies back) more =
      final_give f x fs xs id s es v vs k (mode ∙ q) q l old known (ap (λ r. lies_in r (position_of v)) (sym limits) ∙ lies) (more vs back)
  one-final f x fs xs e es k l mode limits m q (both_ways id s old) (in_back f1 fs1 vs c back) more = absurd (true≢false (sym (ap comes_back (mode ∙ q)) ∙ c))
  one-final f x fs xs e es k l mode limits m q (both_ways id s old) (one_back f1 fs1 v vs c known lies back) more =
      final_both f x fs xs id s es v vs k (mode ∙ q) q l old known (ap (λ r. lies_in r (position_of v)) (sym limits) ∙ lies) (more vs back)

  -- values that fit the formals fit the variables
  pub finals-fit : {fs : List FormalParameter} {xs : List Slot} {k : ℕ} → AreSlots added.bounds fs xs k → {es : List PExpr} → AreCopied b xs es → k + length es ≤ added.count → {vs : List Value} → AreBack b fs vs →
      AreFinals added fs xs es vs k
  finals-fit (no_slots k) none_copied l {vs} back = finals_over [] [] vs k
  finals-fit (slot_then f x fs xs k mode limits h) (copied_then x1 xs1 e es c more) l back =
      one-final f x fs xs e es k (omega arith) mode limits x.mode refl c back (λ us j. finals-fit h more (omega arith) j)

  -- where the variables below another one are as they were, those of the call are
  pub hold-behind : {W W1 : Variables} {fs : List FormalParameter} {xs : List Slot} {es : List PExpr} {vs : List Value} {k : ℕ} → HoldBack added W fs xs es vs k → (f : ℕ) → k + length es ≤ f →
      ((j : ℕ) → j < f → object_named W1 (variable_name b.original j) ≡ object_named W (variable_name b.original j)) → HoldBack added W1 fs xs es vs k
  hold-behind (back_over fs xs vs k) f l same = back_over fs xs vs k
  hold-behind (back_done es vs k) f l same = back_done es vs k
  hold-behind (back_in p y fs xs e es vs k q r h) f l same = back_in p y fs xs e es vs k q r (hold-behind h f (omega arith) same)
  hold-behind {W} {W1} (back_give p y fs xs id at es u vs k q r j old known c h) f l same =
      back_give p y fs xs id at es u vs k q r j old known (cell-kept W W1 (variable_name b.original k) (added.bounds k) u (same k (omega arith)) c) (hold-behind h f (omega arith) same)
  hold-behind {W} {W1} (back_both p y fs xs id at es u vs k q r j old known c h) f l same =
      back_both p y fs xs id at es u vs k q r j old known (cell-kept W W1 (variable_name b.original k) (added.bounds k) u (same k (omega arith)) c) (hold-behind h f (omega arith) same)

-- ---- the variables get them

module _ (x : Translation) (laws : IsTranslation x) (g : Setting) (added : Added x.text.programs g) (s : Span) (p p' : Around) (o o' : List PFrame) (V : Variables) where
  -- the variables of the image once the values have come to them
  pub record Handed (W : Variables) (fs : List FormalParameter) (xs : List Slot) (es : List PExpr) (vs : List Value) (k : ℕ) : Type 0 where
    pub vars : Variables
    pub copied : copied_back fs (actuals_passed g s xs es k) vs W ≡ record { vars = vars; stopped = None }
    pub under : Under x p o V p' o' vars
    pub there : AreThere added vars
    pub hold : HoldBack added vars fs xs es vs k
    pub below : (j : ℕ) → j < k → object_named vars (variable_name g j) ≡ object_named W (variable_name g j)

  none-handed : (W : Variables) (fs : List FormalParameter) (xs : List Slot) (vs : List Value) (k : ℕ) → Under x p o V p' o' W → AreThere added W → Handed W fs xs [] vs k
  none-handed W [] [] vs k u h = record { vars = W; copied = refl; under = u; there = h; hold = back_over [] [] vs k; below = λ j l. refl }
  none-handed W [] (y ∷ xs) vs k u h = record { vars = W; copied = refl; under = u; there = h; hold = back_over [] (y ∷ xs) vs k; below = λ j l. refl }
  none-handed W (f ∷ fs) [] vs k u h = record { vars = W; copied = refl; under = u; there = h; hold = back_over (f ∷ fs) [] vs k; below = λ j l. refl }
  none-handed W (f ∷ fs) (y ∷ xs) vs k u h = record { vars = W; copied = refl; under = u; there = h; hold = back_over (f ∷ fs) (y ∷ xs) vs k; below = λ j l. refl }

  -- one value comes to its variable
  to-variable : (W : Variables) (k : ℕ) (v u : Value) (more : Variables → Copies) → IsCell W (variable_name g k) (added.bounds k) u → lies_in (added.bounds k) (position_of v) ≡ true →
      copies_on more W (and_then (checked_for (object_named W (variable_name g k)) v) (λ z. Ok (set_value W (variable_name g k) 0 z))) ≡ more (set_value W (variable_name g k) 0 v)
  to-variable W k v u more c lies =
      ap (λ ob. copies_on more W (and_then (checked_for ob v) (λ z. Ok (set_value W (variable_name g k) 0 z)))) c.found
      ∙ ap (λ t. copies_on more W (and_then (if t then Ok v else Err raised.Constraint) (λ z. Ok (set_value W (variable_name g k) 0 z)))) lies

  pub hand : {fs : List FormalParameter} {xs : List Slot} {es : List PExpr} {vs : List Value} {k : ℕ} → AreFinals added fs xs es vs k → (W : Variables) → Under x p o V p' o' W → AreThere added W → Handed W fs xs es vs k
  hand (finals_over fs xs vs k) W u there = none-handed W fs xs vs k u there
  hand (finals_done es vs k) W u there = record { vars = W; copied = refl; under = u; there = there; hold = back_done es vs k; below = λ j l. refl }
  hand (final_in f y fs xs e es vs k m m' more) W u there =
      let h = hand more W u there in
      record {
        vars = h.vars;
        copied = ap (λ a. copied_one (λ ws changed. copied_back fs (actuals_passed g s xs es (k + 1)) ws changed) a (variable g s k) vs W) m ∙ h.copied;
        under = h.under;
        there = h.there;
        hold = back_in f y fs xs e es vs k m m' h.hold;
        below = λ j l. h.below j (omega arith);
      }
  hand (final_give f y fs xs id at es v vs k m m' l old known lies more) W u there =
      let c = there k l in
      let h = hand more (set_value W (variable_name g k) 0 v) (add-alike x laws (variable_name g k) 0 v (added.new k l) u) (there-set x laws g added W k v l there) in
      record {
        vars = h.vars;
        copied = ap (λ a. copied_one (λ ws changed. copied_back fs (actuals_passed g s xs es (k + 1)) ws changed) a (variable g s k) (v ∷ vs) W) m
            ∙ to-variable W k v c.0 (λ changed. copied_back fs (actuals_passed g s xs es (k + 1)) vs changed) c.1 lies ∙ h.copied;
        under = h.under;
        there = h.there;
        hold = back_give f y fs xs id at es v vs k m m' l old known
            (cell-kept (set_value W (variable_name g k) 0 v) h.vars (variable_name g k) (added.bounds k) v (h.below k (omega arith)) (cell-set W (variable_name g k) (added.bounds k) c.0 v c.1)) h.hold;
        below = λ j m1. h.below j (omega arith) ∙ named-set_other W (variable_name g k) 0 v (variable_name g j) (added.apart k j l (omega arith) (unequal_above k j m1));
      }
  hand (final_both f y fs xs id at es v vs k m m' l old known lies more) W u there =
      let c = there k l in
      let h = hand more (set_value W (variable_name g k) 0 v) (add-alike x laws (variable_name g k) 0 v (added.new k l) u) (there-set x laws g added W k v l there) in
      record {
        vars = h.vars;
        copied = ap (λ a. copied_one (λ ws changed. copied_back fs (actuals_passed g s xs es (k + 1)) ws changed) a (variable g s k) (v ∷ vs) W) m
            ∙ to-variable W k v c.0 (λ changed. copied_back fs (actuals_passed g s xs es (k + 1)) vs changed) c.1 lies ∙ h.copied;
        under = h.under;
        there = h.there;
        hold = back_both f y fs xs id at es v vs k m m' l old known
            (cell-kept (set_value W (variable_name g k) 0 v) h.vars (variable_name g k) (added.bounds k) v (h.below k (omega arith)) (cell-set W (variable_name g k) (added.bounds k) c.0 v c.1)) h.hold;
        below = λ j m1. h.below j (omega arith) ∙ named-set_other W (variable_name g k) 0 v (variable_name g j) (added.apart k j l (omega arith) (unequal_above k j m1));
      }

-- ---- the caller

-- a caller comes back with what was copied
back-has : {next : PStmt} {call : PCall} {l : PStmts} → HasCall next call l → (q : PStmts) (g : Setting) (n : ℕ) (i : List ℤ) (w : List ℕ) (p : Around) (o : List PFrame) (V : Variables) (c : Copies) (e : Option Raised) →
    come_back (task_in g n i w (control (stmt_then next q) p o V)) c e ≡ gone_back (in_front l q) (task_in g n i w (control (stmt_then next q) p o V)) c.vars e
back-has (has_plain call s) q g n i w p o V c None = refl
back-has (has_plain call s) q g n i w p o V c (Some e) = refl
back-has (has_conditional call l m s) q g n i w p o V c None = refl
back-has (has_conditional call l m s) q g n i w p o V c (Some e) = refl
back-has (has_timed call l d m s) q g n i w p o V c None = refl
back-has (has_timed call l d m s) q g n i w p o V c (Some e) = refl

returned-has : {next : PStmt} {call : PCall} {l : PStmts} → HasCall next call l → (q : PStmts) (g : Setting) (n : ℕ) (i : List ℤ) (w : List ℕ) (p : Around) (o : List PFrame) (V : Variables) (values : List Value) (c : Copies) →
    call_ended (task_in g n i w (control (stmt_then next q) p o V)) call (called g V call) values ≡ c →
    returned values (task_in g n i w (control (stmt_then next q) p o V)) ≡ gone_back (in_front l q) (task_in g n i w (control (stmt_then next q) p o V)) c.vars c.stopped
returned-has (has_plain call s) q g n i w p o V values c e =
    ap (λ b. come_back (task_in g n i w (control (stmt_then (SCall call s) q) p o V)) b b.stopped) e ∙ back-has (has_plain call s) q g n i w p o V c c.stopped
returned-has (has_conditional call l m s) q g n i w p o V values c e =
    ap (λ b. come_back (task_in g n i w (control (stmt_then (SConditional call l m s) q) p o V)) b b.stopped) e ∙ back-has (has_conditional call l m s) q g n i w p o V c c.stopped
returned-has (has_timed call l d m s) q g n i w p o V values c e =
    ap (λ b. come_back (task_in g n i w (control (stmt_then (STimed call l d m s) q) p o V)) b b.stopped) e ∙ back-has (has_timed call l d m s) q g n i w p o V c c.stopped

module _ (b : Programs) (added : Added b b.original) (s : Span) (c : PCall) (n : ℕ) (asked : IsCall b c) (m : ℕ) (i : List ℤ) (out : List ℕ) (p : Around) (o : List PFrame) (V : Variables) (q : PStmts) (values : List Value) (r : Called)
    (facts : IsEntryCalled b added s c n asked r.entry) where
  -- what is copied back in the original
  abbrev pub copies_before : Copies
  copies_before = copied_back (entry_parameters b.original r.entry) asked.actuals values V

  pub returned-before : {next : PStmt} {l : PStmts} → HasCall next c l → called b.original V c ≡ Ok r →
      returned values (task_in b.original m i out (control (stmt_then next q) p o V)) ≡ gone_back (in_front l q) (task_in b.original m i out (control (stmt_then next q) p o V)) copies_before.vars copies_before.stopped
  returned-before {next} has e =
      returned-has has q b.original m i out p o V values copies_before
      (ap (λ a. call_ended (task_in b.original m i out (control (stmt_then next q) p o V)) c a values) e
      ∙ ap (λ l. copied_back (entry_parameters b.original r.entry) l.actuals values V) facts.lists)

  pub returned-after : {next : PStmt} {l : PStmts} (w : Word) → HasCall next (call_to b.original s c n w) l → called b.made V (call_to b.original s c n w) ≡ Ok r → (vars : Variables) →
      copied_back (entry_parameters b.original r.entry) (actuals_passed b.original s (slots_called b.original c) asked.actuals (actual_number b.original s c n)) values V ≡ record { vars = vars; stopped = None } →
      returned values (task_in b.made m i out (control (stmt_then next q) p o V)) ≡ gone_to (in_front l q) (with_vars (task_in b.made m i out (control (stmt_then next q) p o V)) vars)
  returned-after {next} w has e vars d =
      returned-has has q b.made m i out p o V values (record { vars = vars; stopped = None })
      (ap (λ a. call_ended (task_in b.made m i out (control (stmt_then next q) p o V)) (call_to b.original s c n w) a values) e
      ∙ ap (λ l. copied_back (entry_parameters b.made r.entry) l values V) facts.actuals
      ∙ ap (λ fs. copied_back fs (actuals_passed b.original s (slots_called b.original c) asked.actuals (actual_number b.original s c n)) values V) (sym facts.formals)
      ∙ d)

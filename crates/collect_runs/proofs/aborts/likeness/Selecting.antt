-- Conditional and timed calls of a normal form: both go through them alike.
use Rattle.std.proofs.Common.{◌≡◌, ℕ, ◌<◌, pos, Bool, true, false, List, ◌∷◌, Option, Some, None, Result, Ok, refl, sym, ap, subst, ◌∙◌, true≢false}
use Rattle.std.specs.Prelude.{is_some}
use Rattle.ada_tree.specs.declared.naming.Span.{Span}
use Rattle.ada_tree.specs.declared.naming.Word.{Word}
use Rattle.ada_tree.specs.declared.expressions.BinaryOp.TheVariants.{Equal}
use Rattle.ada_tree.specs.PlainExpr.{PExpr, EInteger, EBinary, PSubind}
use Rattle.ada_tree.specs.PlainStmt.{PCall, PStmt, PStmts, no_stmt, stmt_then}
use Rattle.ada_value.specs.declared.values.Raised.{Raised}
use Rattle.ada_value.specs.declared.values.Value.{Value}
use Rattle.ada_value.specs.declared.values.Value.TheVariants.{Number}
use Rattle.ada_value.specs.Values.{and_then, is_true_value, fitted}
use Rattle.ada_value.specs.Variables.{Variables, set_value}
use Rattle.ada_value.specs.Evaluating.{name_value, evaluated, condition_of, combined}
use Rattle.task_model.specs.Setting.{Setting}
use Rattle.task_model.specs.Frames.{in_front}
use Rattle.normal_model.specs.Names.{variable_name}
use Rattle.normal_model.specs.Making.{one, or_null, variable, moving}
use Rattle.normal_model.specs.Members.{known_callee, chosen_if, by_member}
use Rattle.normal_model.specs.Calls.{call_to, call_before, call_behind, call_subtypes, is_chosen, flag_number, flag_subtypes, select_subtypes, flagged, part_taken, select_if, select_image}
use Rattle.task_laws.specs.translation.OldTexts.{OldCall}
use Rattle.normal_laws.specs.runs.floors.Suited.{AreMade, IsCall}
use Rattle.normal_laws.specs.runs.floors.Declared.{HaveSubtypes, subtype_then}
use Rattle.normal_laws.proofs.runs.floors.Declared.{subtypes-first, subtypes-second}
use Rattle.collect_runs.specs.aborts.likeness.Likeness.{Ground, Goal, form, Near, Always, Skipped, PassesCall, Passes, PassesOne}
use Rattle.collect_runs.proofs.aborts.likeness.Near.{Agree}
use Rattle.collect_runs.proofs.aborts.likeness.Frames.{joined}
use Rattle.collect_runs.proofs.aborts.likeness.Values.{always-skips}
use Rattle.collect_runs.proofs.aborts.likeness.Preludes.{assigns, assigns-skip}
use Rattle.collect_runs.proofs.aborts.likeness.Callees.{set-worth, Meant, known-word, chosen-skip, chosen-pass, ChosenReady}
use Rattle.collect_runs.proofs.aborts.likeness.Copying.{AgreeBack}
use Rattle.collect_runs.proofs.aborts.likeness.Calling.{entered, same-call, word-passes, room, bound, before-pass, call-behind, call-behind-skip, back-stays, Ready, slots, actual_n}

-- `null;` stands where nothing does
pub or-null : (x : Ground) (s : Span) (l : PStmts) (K : Goal) (V W : Variables) → Skipped x K → Passes x l K V W → Passes x (or_null s l) K V W
or-null x s no_stmt K V W skip h = ((λ cells. h), skip)
or-null x s (stmt_then y l) K V W skip h = h

truth-same : {a d : Bool} → ◌≡◌ {A = Result Bool Raised} (Ok a) (Ok d) → a ≡ d
truth-same e = cc

two-is : (v : Value) → ◌≡◌ {A = Result Value Raised} (Ok (Number (pos 2))) (Ok v) → v ≡ Number (pos 2)
two-is v e = cc

module _ (x : Ground) (made : AreMade x.programs) (s : Span) (c : PCall) (asked : IsCall x.programs c) (old : OldCall x.programs c) (n : ℕ) (all_subtypes : HaveSubtypes x.programs x.added (select_subtypes x.programs.original s c) n)
    (shape : PCall → PStmts → PStmts → PStmt) (shapes : (d : PCall) (l m : PStmts) (K : Goal) (V W : Variables) → PassesCall x d (Passes x l K) V W → Passes x m K V W → PassesOne x (shape d l m) K V W) (behind other : PStmts)
    (K : Goal) (all : Always x K) (behind_all : Always x (Passes x behind K)) (other_all : Always x (Passes x other K)) where
  abbrev g : Setting
  g = x.programs.original

  abbrev mv : Option PExpr
  mv = moving g.types c.task.index

  abbrev fn : ℕ
  fn = flag_number g s c n

  abbrev met : PStmts
  met = in_front (call_behind g s c n) behind

  abbrev part : PStmt
  part = part_taken g s c n met other

  subtypes : HaveSubtypes x.programs x.added (call_subtypes g s c) n
  subtypes = subtypes-first x.programs x.added (call_subtypes g s c) (flag_subtypes (is_chosen g c) s) n all_subtypes

  flag-there : (e : PExpr) → mv ≡ Some e → fn < x.added.count
  flag-there e m = by (subst (λ q. HaveSubtypes x.programs x.added (flag_subtypes (is_some q) s) fn) m (subtypes-second x.programs x.added (call_subtypes g s c) (flag_subtypes (is_chosen g c) s) n all_subtypes))
    where
      by : {y : PSubind} {ys : List PSubind} {k : ℕ} → HaveSubtypes x.programs x.added (y ∷ ys) k → k < x.added.count
      by (subtype_then y ys k l eq more) = l

  skips : Skipped x K
  skips = always-skips x K all

  met-pass : (V W : Variables) → Near x V W → AgreeBack x (slots x made s c asked old n) asked.actuals (actual_n x made s c asked old n) V W → Passes x met K V W
  met-pass V W near a = joined x (call_behind g s c n) behind K V W (call-behind x made s c asked old n subtypes (Passes x behind K) behind_all V W near a)

  met-skip : Skipped x (Passes x met K)
  met-skip U u = joined x (call_behind g s c n) behind K U U (call-behind-skip x made s c asked old n subtypes (Passes x behind K) (always-skips x (Passes x behind K) behind_all) U u)

  -- the callee is known
  known-row : mv ≡ None → Skipped x (Passes x (select_if false shape g s c n met other) K)
      × ((V W : Variables) → Near x V W → Ready x made s c asked old n V W → Passes x (select_if false shape g s c n met other) K V W)
  known-row m =
      let k = known-word x s c.task asked.callee n (λ w. no_stmt) (Near x) (λ U u. u) (λ w i U u. u) m in
      let w = known_callee g c.task in
      let is = entered x made s c asked old n w k in
      let there = room x made s c asked old n subtypes in (
        (λ U u. ((λ cells. shapes _ met other K U U (word-passes x made s c asked old n w is there (Passes x met K) met-skip U U u refl (λ A B q a. met-pass A B q a)) (other_all U U u)), skips)),
        (λ V W near r. ((λ cells. shapes _ met other K V W (word-passes x made s c asked old n w is there (Passes x met K) met-skip V W near (same-call x made s c asked old n w is there V W r) (λ A B q a. met-pass A B q a)) (other_all V W near)), skips)),
      )

  -- ---- the callee is chosen

  part-skip : Skipped x (Passes x (one part) K)
  part-skip U u =
      ((λ cells. record { same = λ d. refl; into = λ d q. or-null x s met K U U skips (met-skip U u); beyond = λ d q. or-null x s other K U U skips (other_all U U u) }), skips)

  flag-same : (V W : Variables) → Agree x V W (variable_name g fn) → condition_of (form x).types W (EBinary Equal (variable g s fn) (EInteger 1 s) s) ≡ condition_of (form x).types V (EBinary Equal (variable g s fn) (EInteger 1 s) s)
  flag-same V W a = ap (λ o. and_then (and_then (Ok (name_value (form x).types o (variable_name g fn))) (λ p. and_then (fitted (pos 1)) (λ q. combined Equal p q))) (λ v. Ok (is_true_value v))) a

  flag-skip : (k : ℕ) → Skipped x (Passes x (flagged g s c n k) (Passes x (one part) K))
  flag-skip k = assigns-skip x s fn (EInteger k s) no_stmt (Passes x (one part) K) part-skip

  -- the call was made
  made-flag : (V W : Variables) → Near x V W → AgreeBack x (slots x made s c asked old n) asked.actuals (actual_n x made s c asked old n) V W → Passes x (flagged g s c n 1) (Passes x (one part) K) V W
  made-flag V W near a =
      assigns x s fn (EInteger 1 s) no_stmt (Passes x (one part) K) (AgreeBack x (slots x made s c asked old n) asked.actuals (actual_n x made s c asked old n))
      (λ V1 W1 v k fits b. back-stays x made s c asked old n (variable_name g fn) v V1 W1 k (slots x made s c asked old n) asked.actuals (actual_n x made s c asked old n) b) part-skip V W near refl a
      (λ cells v q fits k b f.
      ((λ more. record { same = λ d. flag-same _ _ f; into = λ d r. or-null x s met K _ _ skips (met-pass _ _ k b); beyond = λ d r. or-null x s other K _ _ skips (other_all _ _ k) }), skips))

  -- the other part was taken
  other-flag : fn < x.added.count → (V W : Variables) → Near x V W → Passes x (flagged g s c n 2) (Passes x (one part) K) V W
  other-flag below V W near =
      assigns x s fn (EInteger 2 s) no_stmt (Passes x (one part) K) (λ V1 W1. Unit {0}) (λ V1 W1 v k fits b. tt) part-skip V W near refl tt
      (λ cells v q fits k b f.
      ((λ more. record { same = λ d. flag-same _ _ f; into = λ d r. absurd (no-one V v q (set-worth x fn s V v (cells fn below) fits) r); beyond = λ d r. or-null x s other K _ _ skips (other_all _ _ k) }), skips))
    where
      no-one : (V : Variables) (v : Value) → evaluated (form x).types V (EInteger 2 s) ≡ Ok v → evaluated (form x).types (set_value V (variable_name g fn) 0 v) (variable g s fn) ≡ Ok v →
          condition_of (form x).types (set_value V (variable_name g fn) 0 v) (EBinary Equal (variable g s fn) (EInteger 1 s) s) ≡ Ok true → ⊥
      no-one V v q i r =
          let is : evaluated (form x).types (set_value V (variable_name g fn) 0 v) (variable g s fn) ≡ Ok (Number (pos 2)) = i ∙ ap (λ u. Ok u) (two-is v q) in
          true≢false (truth-same (sym r ∙ ap (λ o. and_then (and_then o (λ p. and_then (fitted (pos 1)) (λ z. combined Equal p z))) (λ u. Ok (is_true_value u))) is))

  abbrev what : Word → PStmts
  what w = one (shape (call_to g s c n w) (flagged g s c n 1) (flagged g s c n 2))

  branch-skip : fn < x.added.count → (w : Word) → Meant x s c.task asked.callee n w → Skipped x (Passes x (what w) (Passes x (one part) K))
  branch-skip below w m U u = (
    (λ cells. shapes _ (flagged g s c n 1) (flagged g s c n 2) (Passes x (one part) K) U U
        (word-passes x made s c asked old n w (entered x made s c asked old n w m) (room x made s c asked old n subtypes) (Passes x (flagged g s c n 1) (Passes x (one part) K)) (flag-skip 1) U U u refl made-flag)
        (flag-skip 2 U u)),
    part-skip,
  )

  branch-pass : fn < x.added.count → (w : Word) → Meant x s c.task asked.callee n w → (V W : Variables) → Near x V W → Ready x made s c asked old n V W → Passes x (what w) (Passes x (one part) K) V W
  branch-pass below w m V W near r =
      let is = entered x made s c asked old n w m in
      let there = room x made s c asked old n subtypes in (
        (λ cells. shapes _ (flagged g s c n 1) (flagged g s c n 2) (Passes x (one part) K) V W
            (word-passes x made s c asked old n w is there (Passes x (flagged g s c n 1) (Passes x (one part) K)) (flag-skip 1) V W near (same-call x made s c asked old n w is there V W r) made-flag)
            (other-flag below V W near)),
        part-skip,
      )

  chosen-row : (e : PExpr) → mv ≡ Some e → Skipped x (Passes x (select_if true shape g s c n met other) K)
      × ((V W : Variables) → Near x V W → ChosenReady x s c.task asked.callee n V W → Ready x made s c asked old n V W → Passes x (select_if true shape g s c n met other) K V W)
  chosen-row e m =
      let below = flag-there e m in (
        (λ U u. joined x (one (by_member g s c.task n what)) (one part) K U U
            (subst (λ q. Passes x (chosen_if q g s c.task n what) (Passes x (one part) K) U U) m (chosen-skip x s c.task asked.callee n what (Passes x (one part) K) part-skip (branch-skip below) U u))),
        (λ V W near ready r. joined x (one (by_member g s c.task n what)) (one part) K V W
            (subst (λ q. Passes x (chosen_if q g s c.task n what) (Passes x (one part) K) V W) m
            (chosen-pass x s c.task asked.callee n what (Passes x (one part) K) part-skip (branch-skip below) (bound x made s c asked old n subtypes) V W near ready (λ w i. branch-pass below w i V W near r)))),
      )

  -- ---- both

  pub select-pass : Always x (Passes x (select_image shape g s c n behind other) K)
  select-pass V W near =
      joined x (call_before g s c n) (select_if (is_chosen g c) shape g s c n met other) K V W
      (before-pass x made s c asked old n subtypes (Passes x (select_if (is_chosen g c) shape g s c n met other) K) (row-skip mv refl) (λ V1 W1 k ready r. row-pass mv refl V1 W1 k ready r) V W near)
    where
      row-skip : (q : Option PExpr) → mv ≡ q → Skipped x (Passes x (select_if (is_some q) shape g s c n met other) K)
      row-skip None m = (known-row m).0
      row-skip (Some e) m = (chosen-row e m).0

      row-pass : (q : Option PExpr) → mv ≡ q → (V1 W1 : Variables) → Near x V1 W1 → ChosenReady x s c.task asked.callee n V1 W1 → Ready x made s c asked old n V1 W1 → Passes x (select_if (is_some q) shape g s c n met other) K V1 W1
      row-pass None m V1 W1 k ready r = (known-row m).1 V1 W1 k r
      row-pass (Some e) m V1 W1 k ready r = (chosen-row e m).1 V1 W1 k ready r

-- The values that a call hands over are of known kinds.
use Rattle.std.specs.Prelude.{unwrap_or}
use Rattle.std.proofs.Common.{◌≡◌, ℕ, Bool, true, false, if◌then◌else◌, List, [], ◌∷◌, Option, Result, Ok, Err, refl, subst}
use Rattle.ada_tree.specs.declared.statements.ParMode.{ParMode}
use Rattle.ada_tree.specs.declared.statements.ParMode.TheVariants.{Take, Give, Both as InOut}
use Rattle.ada_tree.specs.PlainExpr.{PExpr}
use Rattle.ada_tree.specs.PlainStmt.{PArgs, PCall}
use Rattle.syn_event.specs.Numbering.{Numbering}
use Rattle.ada_value.specs.declared.values.Value.{Value}
use Rattle.ada_value.specs.declared.values.Raised.{Raised}
use Rattle.ada_value.specs.declared.values.Raised.TheVariants as raised
use Rattle.ada_value.specs.declared.values.Limits.{Limits}
use Rattle.ada_value.specs.Values.{and_then, checked, lies_in, position_of}
use Rattle.ada_value.specs.Variables.{Variables}
use Rattle.ada_value.specs.Evaluating.{evaluated}
use Rattle.task_model.specs.declared.parameters.FormalParameter.{FormalParameter}
use Rattle.task_model.specs.Setting.{callee_task, entry_of, is_family, member_index, entry_parameters, Lists, lists_in, lists_of}
use Rattle.task_model.specs.Calls.{Called, called, called_with, opening, openings}
use Rattle.task_laws.specs.translation.Translations.{Programs, types_before, IsKnown}
use Rattle.task_laws.specs.translation.OldNames.{OldExpr}
use Rattle.task_laws.specs.translation.OldTexts.{OldExprs, old_no_expr, old_expr, OldList, old_no_list, old_list, OldArgs, old_no_args, old_args, OldCall}
use Rattle.task_laws.specs.translation.Scopes.{AgreeOnTypes, SeeAlike}
use Rattle.task_laws.proofs.translation.Results.{Both, both_ok, both_err}
use Rattle.task_laws.proofs.translation.Evaluating.{KnownValue, known_value, value-alike}
use Rattle.normal_laws.specs.runs.floors.Meetings.{AreValues, no_value, value_then}

-- what comes out of one thing behind another
pub record ComesOut {A B : Type 0} (r : Result A Raised) (f : A → Result B Raised) (c : B) : Type 0 where
  pub first : A
  pub out : r ≡ Ok first
  pub then_out : f first ≡ Ok c

pub comes-out : {A B : Type 0} (r : Result A Raised) (f : A → Result B Raised) (c : B) → and_then r f ≡ Ok c → ComesOut r f c
comes-out (Ok a) f c e = record { first = a; out = refl; then_out = e }
comes-out (Err a) f c e = cc

pub ok-same : {A : Type 0} (a c : A) → and_then {A = A} {B = A} (Ok a) (λ x. Ok x) ≡ Ok c → a ≡ c
ok-same a c e = cc

module _ (b : Programs) (types : AgreeOnTypes b) {V W : Variables} (see : SeeAlike b V W) where
  worth-known : {e : PExpr} → OldExpr b e → (v : Value) → evaluated (types_before b) V e ≡ Ok v → IsKnown b v
  worth-known {e} old v h = go (value-alike b types see old) h
    where
      go : {r r' : Result Value Raised} → Both (KnownValue b) r r' → r ≡ Ok v → IsKnown b v
      go (both_ok a a' (known_value u k)) q = subst (IsKnown b) (ok-same u v q) k
      go (both_err a) q = cc

  checked-known : {e : PExpr} → OldExpr b e → (limits : Limits) (v : Value) → and_then (evaluated (types_before b) V e) (λ a. checked limits a) ≡ Ok v → IsKnown b v
  checked-known {e} old limits v h =
      let c = comes-out (evaluated (types_before b) V e) (λ a. checked limits a) v h in
      subst (IsKnown b) (go (lies_in limits (position_of c.first)) c.first c.then_out) (worth-known old c.first c.out)
    where
      go : (t : Bool) (a : Value) → (if t then Ok a else Err raised.Constraint) ≡ Ok v → a ≡ v
      go true a q = cc
      go false a q = cc

  opening-known : (f : FormalParameter) (m : ParMode) {e : PExpr} → OldExpr b e → (v : Value) → opening (types_before b) V f m e ≡ Ok v → IsKnown b v
  opening-known f Take old v h = checked-known old f.limits v h
  opening-known f Give old v h = subst (IsKnown b) (ok-same _ v h) (types.values_known f.limits.kind f.limits.first)
  opening-known f InOut old v h = checked-known old f.limits v h

  pub openings-known : (fs : List FormalParameter) {es : List PExpr} → OldExprs b es → (vs : List Value) → openings (types_before b) V fs es ≡ Ok vs → AreValues b vs
  openings-known [] old vs h = subst (AreValues b) (ok-same [] vs h) no_value
  openings-known (f ∷ fs) old_no_expr vs h =
      let c = comes-out (openings (types_before b) V fs []) _ vs h in
      subst (AreValues b) (ok-same _ vs c.then_out) (value_then _ c.first (types.values_known f.limits.kind f.limits.first) (openings-known fs old_no_expr c.first c.out))
  openings-known (f ∷ fs) (old_expr e es old more) vs h =
      let c = comes-out (opening (types_before b) V f f.mode e) _ vs h in
      let d = comes-out (openings (types_before b) V fs es) _ vs c.then_out in
      subst (AreValues b) (ok-same _ vs d.then_out) (value_then c.first d.first (opening-known f f.mode old c.first c.out) (openings-known fs more d.first d.out))

  actuals-old : (numbers : Numbering) (e : ℕ) {args : Option PArgs} → OldArgs b args → OldExprs b (lists_of numbers e args).actuals
  actuals-old numbers e old_no_args = old_no_expr
  actuals-old numbers e (old_args args first second) = go (is_family numbers e)
    where
      row : {o : Option (List PExpr)} → OldList b o → OldExprs b (unwrap_or o [])
      row old_no_list = old_no_expr
      row (old_list es h) = h

      go : (t : Bool) → OldExprs b (lists_in t args).actuals
      go true = row second
      go false = first

  with-known : (e : ℕ) (lists : Lists) → OldExprs b lists.actuals → (r : Called) → called_with b.original V e lists ≡ Ok r → AreValues b r.values
  with-known e lists old r h =
      let i = comes-out (member_index b.original V e lists.index) (λ i. and_then (openings (types_before b) V (entry_parameters b.original e) lists.actuals) (λ vs. Ok (record { entry = e; index = i; values = vs }))) r h in
      let v = comes-out (openings (types_before b) V (entry_parameters b.original e) lists.actuals) (λ vs. Ok (record { entry = e; index = i.first; values = vs })) r i.then_out in
      subst (λ q. AreValues b q.values) (ok-same (record { entry = e; index = i.first; values = v.first }) r v.then_out) (openings-known (entry_parameters b.original e) old v.first v.out)

  pub called-known : (c : PCall) → OldCall b c → (r : Called) → called b.original V c ≡ Ok r → AreValues b r.values
  called-known c old r h =
      let t = comes-out (callee_task b.original V c.task)
      (λ owner. called_with b.original V (entry_of b.original.numbers owner c.entry.name) (lists_of b.original.numbers (entry_of b.original.numbers owner c.entry.name) c.args)) r h in
      with-known (entry_of b.original.numbers t.first c.entry.name) (lists_of b.original.numbers (entry_of b.original.numbers t.first c.entry.name) c.args)
      (actuals-old b.original.numbers (entry_of b.original.numbers t.first c.entry.name) old.args) r t.then_out

-- What a call of a normal form hands over is the same in both; and what comes back to its variables is the same in both behind it.
use Rattle.std.proofs.Common.{◌≡◌, ℕ, zero, suc, ◌+◌, ◌≤◌, ◌<◌, if◌then◌else◌, List, [], ◌∷◌, ◌++◌, length, map, Option, Some, None, Result, Ok, Err, refl, sym, ap, subst, ◌∙◌, arith}
use Rattle.ada_tree.specs.declared.naming.NameId.{NameId}
use Rattle.ada_tree.specs.declared.naming.Span.{Span}
use Rattle.ada_tree.specs.declared.naming.Word.{Word}
use Rattle.ada_tree.specs.declared.statements.ParMode.{ParMode}
use Rattle.ada_tree.specs.declared.statements.ParMode.TheVariants.{Take, Give, Both}
use Rattle.ada_tree.specs.TypeTable.{TypeTable}
use Rattle.ada_tree.specs.PlainExpr.{PExpr}
use Rattle.ada_tree.specs.PlainStmt.{PFormal}
use Rattle.ada_value.specs.declared.values.Raised.{Raised}
use Rattle.ada_value.specs.declared.values.Value.{Value}
use Rattle.ada_value.specs.Values.{and_then, checked, lower_bound, limits_named}
use Rattle.ada_value.specs.Variables.{Variables, object_named, checked_for, set_value}
use Rattle.ada_value.specs.Evaluating.{name_value}
use Rattle.task_model.specs.declared.parameters.FormalParameter.{FormalParameter}
use Rattle.task_model.specs.Setting.{Setting, parameters_of}
use Rattle.task_model.specs.Calls.{opening, openings, comes_back, Copies, copies_on, copied_one, copied_back}
use Rattle.normal_model.specs.Names.{variable_name}
use Rattle.normal_model.specs.Making.{variable}
use Rattle.normal_model.specs.Calls.{Slot, slots_of, actuals_passed}
use Rattle.normal_laws.specs.runs.floors.inner.Actuals.{due_of, actual_dues}
use Rattle.collect_runs.specs.aborts.telling.Forms.{backs}
use Rattle.collect_runs.specs.aborts.likeness.Likeness.{Ground, Goal, form, Near}
use Rattle.collect_runs.proofs.aborts.likeness.Near.{Agree, agree-set, agree-stays, set-first, set-second}
use Rattle.collect_runs.proofs.aborts.likeness.Values.{checked-same}
use Rattle.collect_runs.proofs.aborts.likeness.Preludes.{AgreeDues}

-- ---- modes

abbrev pub SameModes : List FormalParameter → List Slot → Type 0
SameModes [] [] = Unit {0}
SameModes (f ∷ fs) (y ∷ ys) = (f.mode ≡ y.mode) × SameModes fs ys
SameModes fs ys = ⊥

words-modes : (T : TypeTable) (f : PFormal) (ws : List Word) (fs : List FormalParameter) (ys : List Slot) → SameModes fs ys →
    SameModes (map (λ (w : Word). record { name = w.name; mode = f.mode; limits = limits_named T f.mark.name }) ws ++ fs) (map (λ (w : Word). record { mode = f.mode; mark = f.mark }) ws ++ ys)
words-modes T f [] fs ys h = h
words-modes T f (w ∷ ws) fs ys h = (refl, words-modes T f ws fs ys h)

pub formals-modes : (T : TypeTable) (fs : List PFormal) → SameModes (parameters_of T fs) (slots_of fs)
formals-modes T [] = tt
formals-modes T (f ∷ fs) = words-modes T f f.names (parameters_of T fs) (slots_of fs) (formals-modes T fs)

no-more : {n : ℕ} → zero ≡ suc n → ⊥
no-more {n} e = omega (arith, e)

suc-same : {m n : ℕ} → suc m ≡ suc n → m ≡ n
suc-same {m} {n} e = omega (arith, e)

none-stops : {e : Raised} → Some e ≡ None → ⊥
none-stops h = cc

module _ (x : Ground) where
  abbrev g : Setting
  g = x.programs.original

  abbrev T : TypeTable
  T = (form x).types

  -- ---- values that are handed over

  openings-none : (V W : Variables) (fs : List FormalParameter) → openings T W fs [] ≡ openings T V fs []
  openings-none V W [] = refl
  openings-none V W (f ∷ fs) = ap (λ r. and_then r (λ vs. Ok (lower_bound T f.limits ∷ vs))) (openings-none V W fs)

  pub openings-same : (s : Span) (V W : Variables) (fs : List FormalParameter) (ys : List Slot) (es : List PExpr) (k : ℕ) → SameModes fs ys → AgreeDues x (actual_dues ys es) k V W →
      openings T W fs (actuals_passed g s ys es k) ≡ openings T V fs (actuals_passed g s ys es k)
  openings-same s V W [] [] es k m a = refl
  openings-same s V W [] (y ∷ ys) es k m a = absurd m
  openings-same s V W (f ∷ fs) [] es k m a = absurd m
  openings-same s V W (f ∷ fs) (y ∷ ys) [] k m a = openings-none V W (f ∷ fs)
  openings-same s V W (f ∷ fs) (y ∷ ys) (e ∷ es) k m a =
      subst (λ d. and_then (opening T W f d (variable g s k)) (λ v. and_then (openings T W fs (actuals_passed g s ys es (k + 1))) (λ vs. Ok (v ∷ vs)))
      ≡ and_then (opening T V f d (variable g s k)) (λ v. and_then (openings T V fs (actuals_passed g s ys es (k + 1))) (λ vs. Ok (v ∷ vs)))) (sym m.0)
      (go y.mode a (λ t. openings-same s V W fs ys es (k + 1) m.1 t))
    where
      read : Agree x V W (variable_name g k) → (openings T W fs (actuals_passed g s ys es (k + 1)) ≡ openings T V fs (actuals_passed g s ys es (k + 1))) →
          and_then (and_then (Ok (name_value T (object_named W (variable_name g k)) (variable_name g k))) (λ v. checked f.limits v)) (λ v. and_then (openings T W fs (actuals_passed g s ys es (k + 1))) (λ vs. Ok (v ∷ vs)))
          ≡ and_then (and_then (Ok (name_value T (object_named V (variable_name g k)) (variable_name g k))) (λ v. checked f.limits v)) (λ v. and_then (openings T V fs (actuals_passed g s ys es (k + 1))) (λ vs. Ok (v ∷ vs)))
      read q r =
          ap (λ o. and_then (and_then (Ok (name_value T o (variable_name g k))) (λ v. checked f.limits v)) (λ v. and_then (openings T W fs (actuals_passed g s ys es (k + 1))) (λ vs. Ok (v ∷ vs)))) q
          ∙ ap (λ u. and_then (and_then (Ok (name_value T (object_named V (variable_name g k)) (variable_name g k))) (λ v. checked f.limits v)) (λ v. and_then u (λ vs. Ok (v ∷ vs)))) r

      go : (d : ParMode) → AgreeDues x (due_of d e ∷ actual_dues ys es) k V W →
          (AgreeDues x (actual_dues ys es) (k + 1) V W → openings T W fs (actuals_passed g s ys es (k + 1)) ≡ openings T V fs (actuals_passed g s ys es (k + 1))) →
          and_then (opening T W f d (variable g s k)) (λ v. and_then (openings T W fs (actuals_passed g s ys es (k + 1))) (λ vs. Ok (v ∷ vs)))
          ≡ and_then (opening T V f d (variable g s k)) (λ v. and_then (openings T V fs (actuals_passed g s ys es (k + 1))) (λ vs. Ok (v ∷ vs)))
      go Take t ih = read t.0 (ih t.1)
      go Both t ih = read t.0 (ih t.1)
      go Give t ih = ap (λ u. and_then u (λ vs. Ok (lower_bound T f.limits ∷ vs))) (ih t)

  -- ---- values that come back

  -- what comes back to both leaves them near, and what was the same stays so
  pub record Backs (V W : Variables) (a c : Copies) : Type 0 where
    pub near : Near x a.vars c.vars
    pub stopped : c.stopped ≡ a.stopped
    pub keeps : (id : NameId) → Agree x V W id → Agree x a.vars c.vars id

  backs-none : (V W : Variables) (o : Option Raised) → Near x V W → Backs V W (record { vars = V; stopped = o }) (record { vars = W; stopped = o })
  backs-none V W o n = record { near = n; stopped = refl; keeps = λ id a. a }

  -- one value
  backs-one : (id : NameId) (V W : Variables) (more : Variables → Copies) → Near x V W → ((V1 W1 : Variables) → Near x V1 W1 → Backs V1 W1 (more V1) (more W1)) → (r r' : Result Value Raised) → r' ≡ r →
      Backs V W (copies_on more V (and_then r (λ w. Ok (set_value V id 0 w)))) (copies_on more W (and_then r' (λ w. Ok (set_value W id 0 w))))
  backs-one id V W more n ih r r' e = subst (λ q. Backs V W (copies_on more V (and_then r (λ w. Ok (set_value V id 0 w)))) (copies_on more W (and_then q (λ w. Ok (set_value W id 0 w))))) (sym e) (go r)
    where
      go : (q : Result Value Raised) → Backs V W (copies_on more V (and_then q (λ w. Ok (set_value V id 0 w)))) (copies_on more W (and_then q (λ w. Ok (set_value W id 0 w))))
      go (Err f) = backs-none V W (Some f) n
      go (Ok w) =
          let m = set-first x id w V W n in
          let k = ih (set_value V id 0 w) (set_value W id 0 w) m in
          record { near = k.near; stopped = k.stopped; keeps = λ other a. k.keeps other (agree-stays x id w V W n other a) }

  pub backs-near : (s : Span) (fs : List FormalParameter) (ys : List Slot) (es : List PExpr) (k : ℕ) (vs : List Value) (V W : Variables) → Near x V W →
      Backs V W (copied_back fs (actuals_passed g s ys es k) vs V) (copied_back fs (actuals_passed g s ys es k) vs W)
  backs-near s [] ys es k vs V W n = backs-none V W None n
  backs-near s (f ∷ fs) [] es k vs V W n = backs-none V W None n
  backs-near s (f ∷ fs) (y ∷ ys) [] k vs V W n = backs-none V W None n
  backs-near s (f ∷ fs) (y ∷ ys) (e ∷ es) k vs V W n = go f.mode vs (λ us V1 W1 m. backs-near s fs ys es (k + 1) us V1 W1 m)
    where
      go : (d : ParMode) (us : List Value) → ((us : List Value) (V1 W1 : Variables) → Near x V1 W1 → Backs V1 W1 (copied_back fs (actuals_passed g s ys es (k + 1)) us V1) (copied_back fs (actuals_passed g s ys es (k + 1)) us W1)) →
          Backs V W (copied_one (λ ws changed. copied_back fs (actuals_passed g s ys es (k + 1)) ws changed) d (variable g s k) us V)
          (copied_one (λ ws changed. copied_back fs (actuals_passed g s ys es (k + 1)) ws changed) d (variable g s k) us W)
      go Take us ih = ih us V W n
      go Give [] ih = backs-none V W None n
      go Both [] ih = backs-none V W None n
      go Give (v ∷ us) ih = backs-one (variable_name g k) V W (λ changed. copied_back fs (actuals_passed g s ys es (k + 1)) us changed) n (ih us) _ _ (checked-same x V W n (variable_name g k) v)
      go Both (v ∷ us) ih = backs-one (variable_name g k) V W (λ changed. copied_back fs (actuals_passed g s ys es (k + 1)) us changed) n (ih us) _ _ (checked-same x V W n (variable_name g k) v)

  -- where they come back to the second alone
  pub lost-near : (s : Span) (fs : List FormalParameter) (ys : List Slot) (es : List PExpr) (k : ℕ) → k + length es ≤ x.added.count → (vs : List Value) (V W : Variables) → Near x V W →
      Near x V (copied_back fs (actuals_passed g s ys es k) vs W).vars
  lost-near s [] ys es k l vs V W n = n
  lost-near s (f ∷ fs) [] es k l vs V W n = n
  lost-near s (f ∷ fs) (y ∷ ys) [] k l vs V W n = n
  lost-near s (f ∷ fs) (y ∷ ys) (e ∷ es) k l vs V W n = go f.mode vs (λ us W1 m. lost-near s fs ys es (k + 1) (omega (arith, l)) us V W1 m)
    where
      below : k < x.added.count
      below = omega (arith, l)

      one : (us : List Value) (r : Result Value Raised) → ((us : List Value) (W1 : Variables) → Near x V W1 → Near x V (copied_back fs (actuals_passed g s ys es (k + 1)) us W1).vars) →
          Near x V (copies_on (λ changed. copied_back fs (actuals_passed g s ys es (k + 1)) us changed) W (and_then r (λ w. Ok (set_value W (variable_name g k) 0 w)))).vars
      one us (Ok w) ih = ih us (set_value W (variable_name g k) 0 w) (set-second x (variable_name g k) w (x.added.new k below) V W n)
      one us (Err d) ih = n

      go : (d : ParMode) (us : List Value) → ((us : List Value) (W1 : Variables) → Near x V W1 → Near x V (copied_back fs (actuals_passed g s ys es (k + 1)) us W1).vars) →
          Near x V (copied_one (λ ws changed. copied_back fs (actuals_passed g s ys es (k + 1)) ws changed) d (variable g s k) us W).vars
      go Take us ih = ih us W n
      go Give [] ih = n
      go Both [] ih = n
      go Give (v ∷ us) ih = one us (checked_for (object_named W (variable_name g k)) v) ih
      go Both (v ∷ us) ih = one us (checked_for (object_named W (variable_name g k)) v) ih

  -- the variables to which a value came back are the same in both
  abbrev pub BackAgree : ParMode → ℕ → Goal
  BackAgree Take k V W = Unit {0}
  BackAgree Give k V W = Agree x V W (variable_name g k)
  BackAgree Both k V W = Agree x V W (variable_name g k)

  abbrev pub AgreeBack : List Slot → List PExpr → ℕ → Goal
  AgreeBack [] es k V W = Unit {0}
  AgreeBack (y ∷ ys) [] k V W = Unit {0}
  AgreeBack (y ∷ ys) (e ∷ es) k V W = BackAgree y.mode k V W × AgreeBack ys es (k + 1) V W

  -- a list of values, the copies of one value and those of the others
  abbrev Rest : List FormalParameter → List Slot → List PExpr → ℕ → Span → List Value → Variables → Copies
  Rest fs ys es k s us changed = copied_back fs (actuals_passed g s ys es (k + 1)) us changed

  abbrev First : ParMode → List FormalParameter → List Slot → List PExpr → ℕ → Span → List Value → Variables → Copies
  First d fs ys es k s us U = copied_one (λ ws changed. Rest fs ys es k s ws changed) d (variable g s k) us U

  abbrev RestAgrees : List FormalParameter → List Slot → List PExpr → ℕ → Span → Type 0
  RestAgrees fs ys es k s = (us : List Value) (V W : Variables) → Near x V W → length us ≡ backs fs → (Rest fs ys es k s us V).stopped ≡ None →
      AgreeBack ys es (k + 1) (Rest fs ys es k s us V).vars (Rest fs ys es k s us W).vars

  -- one value has come back
  value-agrees : (s : Span) (fs : List FormalParameter) (ys : List Slot) (es : List PExpr) (k : ℕ) → RestAgrees fs ys es k s → (us : List Value) (V W : Variables) → Near x V W → length us ≡ backs fs → (r r' : Result Value Raised) → r' ≡ r →
      (copies_on (λ changed. Rest fs ys es k s us changed) V (and_then r (λ w. Ok (set_value V (variable_name g k) 0 w)))).stopped ≡ None →
      Agree x (copies_on (λ changed. Rest fs ys es k s us changed) V (and_then r (λ w. Ok (set_value V (variable_name g k) 0 w)))).vars
      (copies_on (λ changed. Rest fs ys es k s us changed) W (and_then r' (λ w. Ok (set_value W (variable_name g k) 0 w)))).vars (variable_name g k)
      × AgreeBack ys es (k + 1) (copies_on (λ changed. Rest fs ys es k s us changed) V (and_then r (λ w. Ok (set_value V (variable_name g k) 0 w)))).vars
      (copies_on (λ changed. Rest fs ys es k s us changed) W (and_then r' (λ w. Ok (set_value W (variable_name g k) 0 w)))).vars
  value-agrees s fs ys es k ih us V W n l r r' e stop =
      subst (λ q. Agree x (copies_on (λ changed. Rest fs ys es k s us changed) V (and_then r (λ w. Ok (set_value V (variable_name g k) 0 w)))).vars
      (copies_on (λ changed. Rest fs ys es k s us changed) W (and_then q (λ w. Ok (set_value W (variable_name g k) 0 w)))).vars (variable_name g k)
      × AgreeBack ys es (k + 1) (copies_on (λ changed. Rest fs ys es k s us changed) V (and_then r (λ w. Ok (set_value V (variable_name g k) 0 w)))).vars
      (copies_on (λ changed. Rest fs ys es k s us changed) W (and_then q (λ w. Ok (set_value W (variable_name g k) 0 w)))).vars) (sym e) (go r stop)
    where
      go : (q : Result Value Raised) → (copies_on (λ changed. Rest fs ys es k s us changed) V (and_then q (λ w. Ok (set_value V (variable_name g k) 0 w)))).stopped ≡ None →
          Agree x (copies_on (λ changed. Rest fs ys es k s us changed) V (and_then q (λ w. Ok (set_value V (variable_name g k) 0 w)))).vars
          (copies_on (λ changed. Rest fs ys es k s us changed) W (and_then q (λ w. Ok (set_value W (variable_name g k) 0 w)))).vars (variable_name g k)
          × AgreeBack ys es (k + 1) (copies_on (λ changed. Rest fs ys es k s us changed) V (and_then q (λ w. Ok (set_value V (variable_name g k) 0 w)))).vars
          (copies_on (λ changed. Rest fs ys es k s us changed) W (and_then q (λ w. Ok (set_value W (variable_name g k) 0 w)))).vars
      go (Err d) t = absurd (none-stops t)
      go (Ok w) t =
          let m = set-first x (variable_name g k) w V W n in (
            (backs-near s fs ys es (k + 1) us (set_value V (variable_name g k) 0 w) (set_value W (variable_name g k) 0 w) m).keeps (variable_name g k) (agree-set x (variable_name g k) w V W n),
            ih us (set_value V (variable_name g k) 0 w) (set_value W (variable_name g k) 0 w) m l t,
          )

  mode-agrees : (s : Span) (fs : List FormalParameter) (ys : List Slot) (es : List PExpr) (k : ℕ) → RestAgrees fs ys es k s → (d : ParMode) (us : List Value) (V W : Variables) → Near x V W →
      length us ≡ (if comes_back d then suc (backs fs) else backs fs) → (First d fs ys es k s us V).stopped ≡ None →
      BackAgree d k (First d fs ys es k s us V).vars (First d fs ys es k s us W).vars × AgreeBack ys es (k + 1) (First d fs ys es k s us V).vars (First d fs ys es k s us W).vars
  mode-agrees s fs ys es k ih Take us V W n l stop = (tt, ih us V W n l stop)
  mode-agrees s fs ys es k ih Give [] V W n l stop = absurd (no-more l)
  mode-agrees s fs ys es k ih Both [] V W n l stop = absurd (no-more l)
  mode-agrees s fs ys es k ih Give (v ∷ us) V W n l stop =
      value-agrees s fs ys es k ih us V W n (suc-same l) (checked_for (object_named V (variable_name g k)) v) (checked_for (object_named W (variable_name g k)) v) (checked-same x V W n (variable_name g k) v) stop
  mode-agrees s fs ys es k ih Both (v ∷ us) V W n l stop =
      value-agrees s fs ys es k ih us V W n (suc-same l) (checked_for (object_named V (variable_name g k)) v) (checked_for (object_named W (variable_name g k)) v) (checked-same x V W n (variable_name g k) v) stop

  pub backs-agree : (s : Span) (fs : List FormalParameter) (ys : List Slot) (es : List PExpr) (k : ℕ) → SameModes fs ys → (vs : List Value) (V W : Variables) → Near x V W → length vs ≡ backs fs →
      (copied_back fs (actuals_passed g s ys es k) vs V).stopped ≡ None →
      AgreeBack ys es k (copied_back fs (actuals_passed g s ys es k) vs V).vars (copied_back fs (actuals_passed g s ys es k) vs W).vars
  backs-agree s [] [] es k m vs V W n l stop = tt
  backs-agree s [] (y ∷ ys) es k m vs V W n l stop = absurd m
  backs-agree s (f ∷ fs) [] es k m vs V W n l stop = absurd m
  backs-agree s (f ∷ fs) (y ∷ ys) [] k m vs V W n l stop = tt
  backs-agree s (f ∷ fs) (y ∷ ys) (e ∷ es) k m vs V W n l stop =
      subst (λ d. length vs ≡ (if comes_back d then suc (backs fs) else backs fs) → (First d fs ys es k s vs V).stopped ≡ None →
      BackAgree y.mode k (First d fs ys es k s vs V).vars (First d fs ys es k s vs W).vars × AgreeBack ys es (k + 1) (First d fs ys es k s vs V).vars (First d fs ys es k s vs W).vars) (sym m.0)
      (mode-agrees s fs ys es k (λ us V1 W1 q j t. backs-agree s fs ys es (k + 1) m.1 us V1 W1 q j t) y.mode vs V W n) l stop

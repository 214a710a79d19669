-- Where two tasks meet: what the offer of the one says of the other, and how values come back.
use Rattle.std.proofs.Common.{◌≡◌, ℕ, ℤ, Bool, true, false, List, [], ◌∷◌, ◌++◌, Some, Result, Ok, refl, sym, ap, ◌∙◌, true≢false}
use Rattle.std.specs.List.{list_any}
use Rattle.std.proofs.lemmas.Bool.{and_parts}
use Rattle.event_machine.specs.declared.CallForm.{CallForm}
use Rattle.event_machine.specs.declared.CallForm.TheVariants.{Plain, Conditional, Timed}
use Rattle.event_machine.specs.declared.Choice.{Choice}
use Rattle.event_machine.specs.Offers.{Offer, Calls, Waits, Finishes, Ends, Aborts, same_member, is_conditional, is_timed, calls_in, waits_with, is_finish}
use Rattle.event_machine.specs.Worlds.{aborts}
use Rattle.ada_tree.specs.PlainStmt.{PStmt, SNull, SAssign, SDelay, SExit, SRaise, SAbort, SCall, SAccept, SWait, SConditional, STimed, SPut, SPutLine, SNewLine, SGet, SIf, SCase, SBlock, SLoop, PStmts, no_stmt, stmt_then}
use Rattle.ada_value.specs.declared.values.Raised.{Raised}
use Rattle.ada_value.specs.Values.{lies_in, position_of}
use Rattle.ada_value.specs.Variables.{Object, Variables, value_there}
use Rattle.task_model.specs.declared.parameters.FormalParameter.{FormalParameter}
use Rattle.task_model.specs.Tasks.{Task, rest_of, place_of, vars_of}
use Rattle.task_model.specs.Calls.{Called, called, called_by, call_in, comes_back, finals_if, finals_in}
use Rattle.task_model.specs.Stands.{Stand, Steps, Raises, At, call_stand, stand_with, stand_of, offered, offer_of}
use Rattle.task_laws.specs.invariants.Holding.{AreHeld, AreAlike}
use Rattle.task_laws.specs.translation.Translations.{Programs, Translation}
use Rattle.task_laws.specs.translation.Controls.{AreInside, are_inside, AreAround, are_around}
use Rattle.normal_laws.specs.runs.floors.NormalFloors.{AreOpen, none_open, open_then}
use Rattle.normal_laws.specs.runs.floors.Meetings.{IsOpened}
use Rattle.normal_laws.specs.runs.floors.inner.Met.{AreBack, none_back, in_back, one_back, CallMet, WaitMet, AbortMet, Meets, in_step, at_raise, at_call, at_wait, at_abort, at_finish, at_end}

pub inside-around : (x : Translation) (σ κ : Task) → AreInside x σ κ → AreAround x σ κ
inside-around x σ κ (are_inside n i w r r' im u) = are_around n i w r r' u

module _ (x : Translation) (σ κ : Task) where
  pub meets-around : Meets x σ κ → AreAround x σ κ
  meets-around (in_step st st' a sa) = a
  meets-around (at_raise e st a steps stop) = a
  meets-around (at_call m) = m.around
  meets-around (at_wait m) = m.around
  meets-around (at_abort m) = m.around
  meets-around (at_finish st st' i o) = inside-around x σ κ i
  meets-around (at_end st st' i) = inside-around x σ κ i

  -- a test that holds of what the task offers holds of the offer where it stands
  pub offer-at : (test : Offer → Bool) (st : Stand) → stand_of σ ≡ st → test (offer_of σ) ≡ true → test (offered st) ≡ true
  offer-at test st e h = sym (ap (λ s. test (offered s)) e) ∙ h

  no-offer : (test : Offer → Bool) (st : Stand) → stand_of σ ≡ st → test (offered st) ≡ false → test (offer_of σ) ≡ true → ⊥
  no-offer test st e f h = true≢false (sym (offer-at test st e h) ∙ f)

  pub call-met : (test : CallForm → Bool) (e : ℕ) (z : ℤ) → Meets x σ κ → calls_in test e z (offer_of σ) ≡ true → CallMet x σ κ
  call-met test e z (in_step st st' a sa) h = absurd (no-offer (calls_in test e z) Steps st refl h)
  call-met test e z (at_raise y st a steps stop) h = absurd (no-offer (calls_in test e z) (Raises y) st refl h)
  call-met test e z (at_call m) h = m
  call-met test e z (at_wait m) h = absurd (no-offer (calls_in test e z) (At (Waits m.choices)) m.stands refl h)
  call-met test e z (at_abort m) h = absurd (no-offer (calls_in test e z) (At (Aborts m.task)) m.stands refl h)
  call-met test e z (at_finish st st' i o) h = absurd (no-offer (calls_in test e z) (At Finishes) st refl h)
  call-met test e z (at_end st st' i) h = absurd (no-offer (calls_in test e z) (At Ends) st refl h)

  pub wait-met : (test : Choice → Bool) → Meets x σ κ → waits_with test (offer_of σ) ≡ true → WaitMet x σ κ
  wait-met test (in_step st st' a sa) h = absurd (no-offer (waits_with test) Steps st refl h)
  wait-met test (at_raise y st a steps stop) h = absurd (no-offer (waits_with test) (Raises y) st refl h)
  wait-met test (at_call m) h = absurd (no-offer (waits_with test) (call_stand m.form (Ok m.result)) m.stands refl h)
  wait-met test (at_wait m) h = m
  wait-met test (at_abort m) h = absurd (no-offer (waits_with test) (At (Aborts m.task)) m.stands refl h)
  wait-met test (at_finish st st' i o) h = absurd (no-offer (waits_with test) (At Finishes) st refl h)
  wait-met test (at_end st st' i) h = absurd (no-offer (waits_with test) (At Ends) st refl h)

  -- the choices of a wait pass the test that its offer passes
  pub wait-any : (test : Choice → Bool) (m : WaitMet x σ κ) → waits_with test (offer_of σ) ≡ true → list_any test m.choices ≡ true
  wait-any test m h = offer-at (waits_with test) (At (Waits m.choices)) m.stands h

  pub abort-met : (v : ℕ) → Meets x σ κ → aborts v (offer_of σ) ≡ true → AbortMet x σ κ
  abort-met v (in_step st st' a sa) h = absurd (no-offer (aborts v) Steps st refl h)
  abort-met v (at_raise y st a steps stop) h = absurd (no-offer (aborts v) (Raises y) st refl h)
  abort-met v (at_call m) h = absurd (no-offer (aborts v) (call_stand m.form (Ok m.result)) m.stands refl h)
  abort-met v (at_wait m) h = absurd (no-offer (aborts v) (At (Waits m.choices)) m.stands refl h)
  abort-met v (at_abort m) h = m
  abort-met v (at_finish st st' i o) h = absurd (no-offer (aborts v) (At Finishes) st refl h)
  abort-met v (at_end st st' i) h = absurd (no-offer (aborts v) (At Ends) st refl h)

  -- a task at the end of an accept body
  pub record Finishing : Type 0 where
    pub within : AreInside x σ κ
    pub opened : IsOpened (place_of σ)

  pub finish-met : Meets x σ κ → is_finish (offer_of σ) ≡ true → Finishing
  finish-met (in_step st st' a sa) h = absurd (no-offer is_finish Steps st refl h)
  finish-met (at_raise y st a steps stop) h = absurd (no-offer is_finish (Raises y) st refl h)
  finish-met (at_call m) h = absurd (no-offer is_finish (call_stand m.form (Ok m.result)) m.stands refl h)
  finish-met (at_wait m) h = absurd (no-offer is_finish (At (Waits m.choices)) m.stands refl h)
  finish-met (at_abort m) h = absurd (no-offer is_finish (At (Aborts m.task)) m.stands refl h)
  finish-met (at_finish st st' i o) h = record { within = i; opened = o }
  finish-met (at_end st st' i) h = absurd (no-offer is_finish (At Ends) st refl h)

  -- the forms of calls
  pub conditional-form : (e : ℕ) (z : ℤ) (m : CallMet x σ κ) → calls_in is_conditional e z (offer_of σ) ≡ true → m.form ≡ Conditional
  conditional-form e z m h = go m.form (and_parts (is_conditional m.form) (same_member e z m.result.entry m.result.index) (offer-at (calls_in is_conditional e z) (call_stand m.form (Ok m.result)) m.stands h)).0
    where
      go : (f : CallForm) → is_conditional f ≡ true → f ≡ Conditional
      go Plain e1 = cc
      go Conditional e1 = refl
      go Timed e1 = cc

  pub timed-form : (e : ℕ) (z : ℤ) (m : CallMet x σ κ) → calls_in is_timed e z (offer_of σ) ≡ true → m.form ≡ Timed
  timed-form e z m h = go m.form (and_parts (is_timed m.form) (same_member e z m.result.entry m.result.index) (offer-at (calls_in is_timed e z) (call_stand m.form (Ok m.result)) m.stands h)).0
    where
      go : (f : CallForm) → is_timed f ≡ true → f ≡ Timed
      go Plain e1 = cc
      go Conditional e1 = cc
      go Timed e1 = refl

-- ---- a caller in a rendezvous

-- a task stands at a call where its next statement is one that could be evaluated
pub record AtCall (t : Task) (r : Called) : Type 0 where
  pub form : CallForm
  pub stands : stand_of t ≡ call_stand form (Ok r)

result-same : (a : Result Called Raised) (r : Called) → Some a ≡ Some (Ok r) → a ≡ Ok r
result-same a r e = cc

pub at-call : (t : Task) (r : Called) → called_by t.setting (vars_of t) (call_in (rest_of t)) ≡ Some (Ok r) → AtCall t r
at-call t r e = go (rest_of t) refl e
  where
    statement : (s : PStmt) (rest : PStmts) → rest_of t ≡ stmt_then s rest → called_by t.setting (vars_of t) (call_in (stmt_then s rest)) ≡ Some (Ok r) → AtCall t r
    statement (SCall c s) rest q k = record { form = Plain; stands = ap (λ l. stand_with t l (place_of t)) q ∙ ap (call_stand Plain) (result-same (called t.setting (vars_of t) c) r k) }
    statement (SConditional c l o s) rest q k = record { form = Conditional; stands = ap (λ l. stand_with t l (place_of t)) q ∙ ap (call_stand Conditional) (result-same (called t.setting (vars_of t) c) r k) }
    statement (STimed c l d o s) rest q k = record { form = Timed; stands = ap (λ l. stand_with t l (place_of t)) q ∙ ap (call_stand Timed) (result-same (called t.setting (vars_of t) c) r k) }
    statement (SNull s) rest q k = absurd (let none : ⊥ = cc in none)
    statement (SAssign a c s) rest q k = absurd (let none : ⊥ = cc in none)
    statement (SDelay d s) rest q k = absurd (let none : ⊥ = cc in none)
    statement (SExit w c s) rest q k = absurd (let none : ⊥ = cc in none)
    statement (SRaise w s) rest q k = absurd (let none : ⊥ = cc in none)
    statement (SAbort cs s) rest q k = absurd (let none : ⊥ = cc in none)
    statement (SAccept a s) rest q k = absurd (let none : ⊥ = cc in none)
    statement (SWait a o s) rest q k = absurd (let none : ⊥ = cc in none)
    statement (SPut ps s) rest q k = absurd (let none : ⊥ = cc in none)
    statement (SPutLine ps s) rest q k = absurd (let none : ⊥ = cc in none)
    statement (SNewLine s) rest q k = absurd (let none : ⊥ = cc in none)
    statement (SGet a s) rest q k = absurd (let none : ⊥ = cc in none)
    statement (SIf a o s) rest q k = absurd (let none : ⊥ = cc in none)
    statement (SCase c a o s) rest q k = absurd (let none : ⊥ = cc in none)
    statement (SBlock a s) rest q k = absurd (let none : ⊥ = cc in none)
    statement (SLoop w c l s) rest q k = absurd (let none : ⊥ = cc in none)

    go : (rest : PStmts) → rest_of t ≡ rest → called_by t.setting (vars_of t) (call_in rest) ≡ Some (Ok r) → AtCall t r
    go no_stmt q k = absurd (let none : ⊥ = cc in none)
    go (stmt_then s rest) q k = statement s rest q k

-- a task that stands at a call meets its image at one, of the same entry
pub met-at-call : (x : Translation) {σ κ : Task} (r : Called) → AtCall σ r → Meets x σ κ → (m : CallMet x σ κ) × (m.result.entry ≡ r.entry)
met-at-call x {σ} {κ} r a meets = go meets
  where
    entry-of : Stand → ℕ
    entry-of (At (Calls form e z)) = e
    entry-of _ = 0

    is-call : Stand → Bool
    is-call (At (Calls form e z)) = true
    is-call _ = false

    there : (st : Stand) → stand_of σ ≡ st → is-call st ≡ false → ⊥
    there st e f = true≢false (ap is-call (sym a.stands ∙ e) ∙ f)

    go : Meets x σ κ → (m : CallMet x σ κ) × (m.result.entry ≡ r.entry)
    go (in_step st st' b sa) = absurd (there Steps st refl)
    go (at_raise y st b steps stop) = absurd (there (Raises y) st refl)
    go (at_call m) = (m, ap entry-of (sym m.stands ∙ a.stands))
    go (at_wait m) = absurd (there (At (Waits m.choices)) m.stands refl)
    go (at_abort m) = absurd (there (At (Aborts m.task)) m.stands refl)
    go (at_finish st st' i o) = absurd (there (At Finishes) st refl)
    go (at_end st st' i) = absurd (there (At Ends) st refl)

-- ---- the values that come back

-- the last values of formals fit those of the entry that was called
pub finals-back : (b : Programs) {fs : List FormalParameter} {os : List Object} → AreOpen b fs os → (V : Variables) → AreHeld fs (os ++ V) → (ps : List FormalParameter) → AreAlike ps fs → AreBack b ps (finals_in fs (os ++ V))
finals-back b none_open V held [] alike = none_back []
finals-back b none_open V held (p ∷ ps) alike = absurd alike
finals-back b (open_then f o fs os old known h) V held [] alike = absurd alike
finals-back b (open_then f o fs os old known h) V held (p ∷ ps) alike = go (comes_back f.mode) refl (finals-back b h V held.1 ps alike.1)
  where
    go : (t : Bool) → comes_back f.mode ≡ t → AreBack b ps (finals_in fs (os ++ V)) → AreBack b (p ∷ ps) (finals_if t o (finals_in fs (os ++ V)))
    go true e more = one_back p ps (value_there o 0) (finals_in fs (os ++ V)) (ap comes_back alike.0.0 ∙ e) (known.0 0)
        (ap (λ l. lies_in l (position_of (value_there o 0))) (alike.0.1 ∙ sym held.0.0) ∙ held.0.1) more
    go false e more = in_back p ps (finals_in fs (os ++ V)) (ap comes_back alike.0.0 ∙ e) more

-- What the controller can do where it stands, and where it stands then.
use Rattle.std.proofs.Common.{◌≡◌, ℕ, zero, suc, Bool, true, false, List, [], ◌∷◌, ◌++◌, Some, None, if◌then◌else◌, refl, sym, ap, ◌∙◌, subst}
use Rattle.std.specs.Prelude.{ℤ, pos}
use Rattle.std.proofs.lemmas.List.{append-nil}
use Rattle.common_lemmas.proofs.Lists.{append_last}
use Rattle.common_lemmas.proofs.Truth.{clash, or_false}
use Rattle.event_machine.specs.declared.CallForm.TheVariants.{Plain}
use Rattle.event_machine.specs.declared.Choice.TheVariants.{Accept}
use Rattle.event_machine.specs.declared.Event.TheVariants.{R, E, F}
use Rattle.event_machine.specs.Offers.{Offer, Nothing, Calls, Waits, Finishes, Ends, calls_in, is_any_form, is_conditional, is_timed, waits_with, is_finish, opens, is_else, is_delay, same_member}
use Rattle.event_machine.specs.Worlds.{Happen, aborts}
use Rattle.event_machine.proofs.Basics.{same_member-refl, same_member-true}
use Rattle.ada_tree.specs.PlainStmt.{PHead, no_stmt}
use Rattle.normal_model.specs.Ranges.{word_at}
use Rattle.task_model.specs.Tasks.{Task}
use Rattle.task_model.specs.Calls.{values_handed}
use Rattle.task_model.specs.Stands.{can_step, stepped, offer_of}
use Rattle.task_model.specs.Setting.{entry_of}
use Rattle.task_model.specs.Rendezvous.{alternative_opened, accepted, finished, call_failed}
use Rattle.task_model.specs.Waits.{Accepts}
use Rattle.task_model.proofs.Lawful.{lawful}
use Rattle.control_script.specs.declared.Op.{Op}
use Rattle.control_script.specs.declared.Op.TheVariants.{Go, Done, Join, Hold}
use Rattle.table_law.specs.Controllers.{Controller, Entries, IsController, CanMakeAll}
use Rattle.table_law.specs.States.{behind, before, IsWithin, Offers}
use Rattle.table_law.specs.Laws.{next_offer, MakesOperations}
use Rattle.table_law.proofs.Turning.{at-seam}
use Rattle.table_law.proofs.Making.{controllers_make_operations}
use Rattle.table_law.specs.runs.Permits.{held, over, Stands, comes, serves, keeps, stops, GoesOn, grants, hears, holds_on, ends, ends_hold, fails}

-- ---- offers of these forms alone

-- nothing, an accept of one member, a plain call, or the end of an accept body or of the unit
pub data IsOneOf : Offer → Type 0 where
  of_none : IsOneOf Nothing
  of_accept : (entry : ℕ) (index : ℤ) → IsOneOf (Waits (Accept entry index ∷ []))
  of_call : (entry : ℕ) (index : ℤ) → IsOneOf (Calls Plain entry index)
  of_finish : IsOneOf Finishes
  of_end : IsOneOf Ends

pub no-else : (o : Offer) → IsOneOf o → waits_with is_else o ≡ false
no-else o of_none = refl
no-else o (of_accept entry index) = refl
no-else o (of_call entry index) = refl
no-else o of_finish = refl
no-else o of_end = refl

pub no-delay : (n : ℕ) (o : Offer) → IsOneOf o → waits_with (is_delay n) o ≡ false
no-delay n o of_none = refl
no-delay n o (of_accept entry index) = refl
no-delay n o (of_call entry index) = refl
no-delay n o of_finish = refl
no-delay n o of_end = refl

pub no-conditional : (f : ℕ) (i : ℤ) (o : Offer) → IsOneOf o → calls_in is_conditional f i o ≡ false
no-conditional f i o of_none = refl
no-conditional f i o (of_accept entry index) = refl
no-conditional f i o (of_call entry index) = refl
no-conditional f i o of_finish = refl
no-conditional f i o of_end = refl

pub no-timed : (f : ℕ) (i : ℤ) (o : Offer) → IsOneOf o → calls_in is_timed f i o ≡ false
no-timed f i o of_none = refl
no-timed f i o (of_accept entry index) = refl
no-timed f i o (of_call entry index) = refl
no-timed f i o of_finish = refl
no-timed f i o of_end = refl

pub no-abort : (x : ℕ) (o : Offer) → IsOneOf o → aborts x o ≡ false
no-abort x o of_none = refl
no-abort x o (of_accept entry index) = refl
no-abort x o (of_call entry index) = refl
no-abort x o of_finish = refl
no-abort x o of_end = refl

module _ (k : Controller) (e : Entries) (h : IsController k e) (hold : Bool) (all : List Op) (can : CanMakeAll k all) where
  abbrev laws : MakesOperations k e
  laws = controllers_make_operations k e h

  -- ---- where it stands

  pub data View (t : Task) : Type 0 where
    moving : can_step t ≡ true → Stands k hold all (stepped t) → View t
    at_go : (made left : List Op) (task kind arg : ℕ) (index : ℤ) → made ++ Go task kind arg index ∷ left ≡ all → t ≡ before k hold made (Go task kind arg index ∷ left) → View t
    at_done : (made left : List Op) (task : ℕ) → made ++ Done task ∷ left ≡ all → t ≡ before k hold made (Done task ∷ left) → View t
    at_join : (made left : List Op) (task : ℕ) → made ++ Join task ∷ left ≡ all → t ≡ before k hold made (Join task ∷ left) → View t
    at_hold : hold ≡ true → t ≡ before k true all [] → View t
    at_end : hold ≡ false → t ≡ before k false all [] → View t
    within : (made left : List Op) (op : Op) (caller : ℕ) → made ++ op ∷ left ≡ all → IsWithin k hold made op left caller t → View t
    holding : (caller : ℕ) → hold ≡ true → t ≡ held k all caller → View t
    done : hold ≡ true → t ≡ over k all → View t

  -- these can be made
  makeable : (ops : List Op) → ops ≡ all → CanMakeAll k ops
  makeable ops same = subst (CanMakeAll k) (sym same) can

  before-it : (made left : List Op) (t : Task) → made ++ left ≡ all → t ≡ before k hold made left → View t
  before-it made [] t same is = by_hold hold refl
    where
      there : t ≡ before k hold all []
      there = is ∙ ap (λ (ops : List Op). behind k hold ops) (sym (append-nil made) ∙ same)

      by_hold : (b : Bool) → hold ≡ b → View t
      by_hold true e1 = at_hold e1 (there ∙ ap (λ (b : Bool). before k b all []) e1)
      by_hold false e1 = at_end e1 (there ∙ ap (λ (b : Bool). before k b all []) e1)
  before-it made (Go task kind arg index ∷ left) t same is = at_go made left task kind arg index same is
  before-it made (Done task ∷ left) t same is = at_done made left task same is
  before-it made (Join task ∷ left) t same is = at_join made left task same is
  before-it made (Hold ∷ left) t same is = absurd (at-seam k made Hold left (makeable (made ++ Hold ∷ left) same))

  pub view : (t : Task) → Stands k hold all t → View t
  view t (comes made left zero same way) = before-it made left t same way
  view t (comes made left (suc n) same way) = moving way.0 (comes made left n same way.2)
  view t (serves made left op caller zero u same way is) = within made left op caller same (subst (IsWithin k hold made op left caller) (sym way) is)
  view t (serves made left op caller (suc n) u same way is) = moving way.0 (serves made left op caller n u same way.2 is)
  view t (keeps caller on is) = holding caller on is
  view t (stops on is) = done on is

  -- ---- what it offers

  -- of one that stands so
  told : (t u : Task) (o : Offer) → t ≡ u → Offers u o → Offers t o
  told t u o is h = subst (λ (x : Task). Offers x o) (sym is) h

  shown : (t u : Task) (o : Offer) → t ≡ u → Offers u o → IsOneOf o → IsOneOf (offer_of t)
  shown t u o is h one = subst IsOneOf (sym (told t u o is h).offers) one

  before-offers : (made left : List Op) → made ++ left ≡ all → Offers (before k hold made left) (next_offer e hold left)
  before-offers made left same = laws.offers hold made left (makeable (made ++ left) same)

  pub one-of : (t : Task) → View t → IsOneOf (offer_of t)
  one-of t (moving steps after) = subst IsOneOf (sym (lawful.rests t steps)) of_none
  one-of t (at_go made left task kind arg index same is) = shown t (before k hold made (Go task kind arg index ∷ left)) _ is (before-offers made (Go task kind arg index ∷ left) same) (of_accept e.go (pos task))
  one-of t (at_done made left task same is) = shown t (before k hold made (Done task ∷ left)) _ is (before-offers made (Done task ∷ left) same) (of_accept e.done (pos task))
  one-of t (at_join made left task same is) = shown t (before k hold made (Join task ∷ left)) _ is (before-offers made (Join task ∷ left) same) (of_call (e.join task) (pos 0))
  one-of t (at_hold on is) = shown t (before k true all []) _ is (laws.offers true all [] (subst (CanMakeAll k) (sym (append-nil all)) can)) (of_accept e.hold (pos 0))
  one-of t (at_end off is) = shown t (before k false all []) _ is (laws.offers false all [] (subst (CanMakeAll k) (sym (append-nil all)) can)) of_end
  one-of t (within made left op caller same is) = subst IsOneOf (sym (laws.ends hold made left op caller t is).offers) of_finish
  one-of t (holding caller on is) = shown t (held k all caller) Finishes is (record { rests = refl; offers = refl }) of_finish
  one-of t (done on is) = shown t (over k all) Ends is (record { rests = refl; offers = refl }) of_end

  -- ---- a local step

  pub stepping : (t : Task) → View t → can_step t ≡ true → Stands k hold all (stepped t)
  stepping t (moving steps after) can_it = after
  stepping t (at_go made left task kind arg index same is) can_it = clash (sym (told t _ _ is (before-offers made (Go task kind arg index ∷ left) same)).rests ∙ can_it)
  stepping t (at_done made left task same is) can_it = clash (sym (told t _ _ is (before-offers made (Done task ∷ left) same)).rests ∙ can_it)
  stepping t (at_join made left task same is) can_it = clash (sym (told t _ _ is (before-offers made (Join task ∷ left) same)).rests ∙ can_it)
  stepping t (at_hold on is) can_it = clash (sym (told t _ _ is (laws.offers true all [] (subst (CanMakeAll k) (sym (append-nil all)) can))).rests ∙ can_it)
  stepping t (at_end off is) can_it = clash (sym (told t _ _ is (laws.offers false all [] (subst (CanMakeAll k) (sym (append-nil all)) can))).rests ∙ can_it)
  stepping t (within made left op caller same is) can_it = clash (sym (laws.ends hold made left op caller t is).rests ∙ can_it)
  stepping t (holding caller on is) can_it = clash (ap can_step (sym is) ∙ can_it)
  stepping t (done on is) can_it = clash (ap can_step (sym is) ∙ can_it)

  -- ---- a rendezvous begins

  -- what an accept of a member makes of it
  abbrev Accepts-so : ℕ → ℕ → ℕ → ℤ → Task → Task → Type 0
  Accepts-so c caller f i handing t = GoesOn k e hold all c (Happen (R caller f i)) t (accepted f i caller handing t) × Stands k hold all (accepted f i caller handing t)

  -- the member is the one that is open
  only-member : (f g : ℕ) (i j : ℤ) (t : Task) → offer_of t ≡ Waits (Accept g j ∷ []) → waits_with (opens f i) (offer_of t) ≡ true → (f ≡ g) × (i ≡ j)
  only-member f g i j t its h = same_member-true f g i j (sym (or_false (same_member f i g j)) ∙ (ap (waits_with (opens f i)) (sym its) ∙ h))

  moved : (c caller f g : ℕ) (i j : ℤ) (handing t u : Task) → (f ≡ g) × (i ≡ j) → t ≡ u → Accepts-so c caller g j handing u → Accepts-so c caller f i handing t
  moved c caller f g i j handing t u same is so =
      subst (λ (x : ℕ). Accepts-so c caller x i handing t) (sym same.0)
      (subst (λ (y : ℤ). Accepts-so c caller g y handing t) (sym same.1) (subst (λ (x : Task). Accepts-so c caller g j handing x) (sym is) so))

  -- it accepts a call of HOLD
  hold-accepted : (caller : ℕ) (handing : Task) → accepted e.hold (pos 0) caller handing (before k true all []) ≡ held k all caller
  hold-accepted caller handing =
      let f : ℕ = entry_of k.setting.numbers k.number k.names.hold in
      let head : PHead = record { entry = word_at k.span k.names.hold; index = None; formals = []; span = k.span } in
      ap (λ (b : Bool). alternative_opened caller (if b then Some (Accepts f (pos 0) head no_stmt no_stmt) else None) (values_handed handing) (before k true all []))
      (ap (λ (n : ℕ). same_member n (pos 0) f (pos 0)) (sym h.hold) ∙ same_member-refl f (pos 0))

  -- an offer of another form waits for nobody
  no-wait : (f : ℕ) (i : ℤ) (t : Task) (o : Offer) → offer_of t ≡ o → waits_with (opens f i) o ≡ false → waits_with (opens f i) (offer_of t) ≡ true → ⊥
  no-wait f i t o its shut h = clash (sym shut ∙ ap (waits_with (opens f i)) (sym its) ∙ h)

  pub accepting : (c caller f : ℕ) (i : ℤ) (handing t : Task) → View t → waits_with (opens f i) (offer_of t) ≡ true → Accepts-so c caller f i handing t
  accepting c caller f i handing t (moving steps after) w = absurd (no-wait f i t Nothing (lawful.rests t steps) refl w)
  accepting c caller f i handing t (at_go made left task kind arg index same is) w =
      let op : Op = Go task kind arg index in
      let its = told t (before k hold made (op ∷ left)) (Waits (Accept e.go (pos task) ∷ [])) is (before-offers made (op ∷ left) same) in
      let way = laws.grants hold made left task kind arg index caller handing (makeable (made ++ op ∷ left) same) in
      moved c caller f e.go i (pos task) handing t (before k hold made (op ∷ left)) (only-member f e.go i (pos task) t its.offers w) is
      (grants made left task kind arg index caller handing same, serves made left op caller way.1.0 way.0 same way.1.1 way.2)
  accepting c caller f i handing t (at_done made left task same is) w =
      let op : Op = Done task in
      let its = told t (before k hold made (op ∷ left)) (Waits (Accept e.done (pos task) ∷ [])) is (before-offers made (op ∷ left) same) in
      let after : Task = accepted e.done (pos task) caller handing (before k hold made (op ∷ left)) in
      moved c caller f e.done i (pos task) handing t (before k hold made (op ∷ left)) (only-member f e.done i (pos task) t its.offers w) is
      (hears made left task caller handing same, serves made left op caller 0 after same refl (laws.hears hold made left task caller handing (makeable (made ++ op ∷ left) same)))
  accepting c caller f i handing t (at_join made left task same is) w =
      absurd (no-wait f i t (Calls Plain (e.join task) (pos 0)) (told t _ _ is (before-offers made (Join task ∷ left) same)).offers refl w)
  accepting c caller f i handing t (at_hold on is) w =
      let its = told t (before k true all []) (Waits (Accept e.hold (pos 0) ∷ [])) is (laws.offers true all [] (subst (CanMakeAll k) (sym (append-nil all)) can)) in
      let goes : GoesOn k e hold all c (Happen (R caller e.hold (pos 0))) (before k true all []) (accepted e.hold (pos 0) caller handing (before k true all [])) =
      subst (λ (b : Bool). GoesOn k e hold all c (Happen (R caller e.hold (pos 0))) (before k b all []) (accepted e.hold (pos 0) caller handing (before k b all []))) on (holds_on caller handing on) in
      moved c caller f e.hold i (pos 0) handing t (before k true all []) (only-member f e.hold i (pos 0) t its.offers w) is
      (goes, keeps caller on (hold-accepted caller handing))
  accepting c caller f i handing t (at_end off is) w =
      absurd (no-wait f i t Ends (told t (before k false all []) Ends is (laws.offers false all [] (subst (CanMakeAll k) (sym (append-nil all)) can))).offers refl w)
  accepting c caller f i handing t (within made left op other same is) w = absurd (no-wait f i t Finishes (laws.ends hold made left op other t is).offers refl w)
  accepting c caller f i handing t (holding other on is) w = absurd (no-wait f i t Finishes (ap offer_of is) refl w)
  accepting c caller f i handing t (done on is) w = absurd (no-wait f i t Ends (ap offer_of is) refl w)

  -- ---- a rendezvous ends

  abbrev Ends-so : ℕ → Task → Type 0
  Ends-so c t = GoesOn k e hold all c (Happen (E c)) t (finished t) × Stands k hold all (finished t)

  -- an offer of another form ends none
  no-finish : (t : Task) (o : Offer) → offer_of t ≡ o → is_finish o ≡ false → is_finish (offer_of t) ≡ true → ⊥
  no-finish t o its shut h = clash (sym shut ∙ ap is_finish (sym its) ∙ h)

  pub finishing : (c : ℕ) (t : Task) → View t → is_finish (offer_of t) ≡ true → Ends-so c t
  finishing c t (moving steps after) w = absurd (no-finish t Nothing (lawful.rests t steps) refl w)
  finishing c t (at_go made left task kind arg index same is) w = absurd (no-finish t (Waits (Accept e.go (pos task) ∷ [])) (told t _ _ is (before-offers made (Go task kind arg index ∷ left) same)).offers refl w)
  finishing c t (at_done made left task same is) w = absurd (no-finish t (Waits (Accept e.done (pos task) ∷ [])) (told t _ _ is (before-offers made (Done task ∷ left) same)).offers refl w)
  finishing c t (at_join made left task same is) w = absurd (no-finish t (Calls Plain (e.join task) (pos 0)) (told t _ _ is (before-offers made (Join task ∷ left) same)).offers refl w)
  finishing c t (at_hold on is) w =
      absurd (no-finish t (Waits (Accept e.hold (pos 0) ∷ [])) (told t (before k true all []) (Waits (Accept e.hold (pos 0) ∷ [])) is (laws.offers true all [] (subst (CanMakeAll k) (sym (append-nil all)) can))).offers refl w)
  finishing c t (at_end off is) w =
      absurd (no-finish t Ends (told t (before k false all []) Ends is (laws.offers false all [] (subst (CanMakeAll k) (sym (append-nil all)) can))).offers refl w)
  finishing c t (within made left op caller same is) w =
      let way = laws.goes_on hold made left op caller t (makeable (made ++ op ∷ left) same) is in
      (ends made left op caller t same is, comes (made ++ op ∷ []) left way.0 (append_last made op left ∙ same) way.1)
  finishing c t (holding caller on is) w = subst (Ends-so c) (sym is) (ends_hold caller on, stops on refl)
  finishing c t (done on is) w = absurd (no-finish t Ends (ap offer_of is) refl w)

  -- ---- a call

  -- the call that it makes is of the DED_JOIN of a task
  pub data CallsJoin (t : Task) (f : ℕ) (i : ℤ) : Type 0 where
    calls_join : (made left : List Op) (task : ℕ) → made ++ Join task ∷ left ≡ all → t ≡ before k hold made (Join task ∷ left) → f ≡ e.join task → i ≡ pos 0 → CallsJoin t f i

  -- an offer of another form calls nobody
  no-call : (f : ℕ) (i : ℤ) (t : Task) (o : Offer) → offer_of t ≡ o → calls_in is_any_form f i o ≡ false → calls_in is_any_form f i (offer_of t) ≡ true → ⊥
  no-call f i t o its shut h = clash (sym shut ∙ ap (calls_in is_any_form f i) (sym its) ∙ h)

  pub calling : (t : Task) (f : ℕ) (i : ℤ) → View t → calls_in is_any_form f i (offer_of t) ≡ true → CallsJoin t f i
  calling t f i (moving steps after) w = absurd (no-call f i t Nothing (lawful.rests t steps) refl w)
  calling t f i (at_go made left task kind arg index same is) w = absurd (no-call f i t (Waits (Accept e.go (pos task) ∷ [])) (told t _ _ is (before-offers made (Go task kind arg index ∷ left) same)).offers refl w)
  calling t f i (at_done made left task same is) w = absurd (no-call f i t (Waits (Accept e.done (pos task) ∷ [])) (told t _ _ is (before-offers made (Done task ∷ left) same)).offers refl w)
  calling t f i (at_join made left task same is) w =
      let its = told t (before k hold made (Join task ∷ left)) (Calls Plain (e.join task) (pos 0)) is (before-offers made (Join task ∷ left) same) in
      let both = same_member-true f (e.join task) i (pos 0) (ap (calls_in is_any_form f i) (sym its.offers) ∙ w) in
      calls_join made left task same is both.0 both.1
  calling t f i (at_hold on is) w =
      absurd (no-call f i t (Waits (Accept e.hold (pos 0) ∷ [])) (told t (before k true all []) (Waits (Accept e.hold (pos 0) ∷ [])) is (laws.offers true all [] (subst (CanMakeAll k) (sym (append-nil all)) can))).offers refl w)
  calling t f i (at_end off is) w =
      absurd (no-call f i t Ends (told t (before k false all []) Ends is (laws.offers false all [] (subst (CanMakeAll k) (sym (append-nil all)) can))).offers refl w)
  calling t f i (within made left op caller same is) w = absurd (no-call f i t Finishes (laws.ends hold made left op caller t is).offers refl w)
  calling t f i (holding caller on is) w = absurd (no-call f i t Finishes (ap offer_of is) refl w)
  calling t f i (done on is) w = absurd (no-call f i t Ends (ap offer_of is) refl w)

  -- as it fails
  pub failing : (c f : ℕ) (i : ℤ) (t : Task) → CallsJoin t f i → GoesOn k e hold all c (Happen (F c f i)) t (call_failed t) × Stands k hold all (call_failed t)
  failing c f i t (calls_join made left task same is entry index) =
      let way = laws.joins hold made left task (makeable (made ++ Join task ∷ left) same) in
      subst (λ (x : ℕ). GoesOn k e hold all c (Happen (F c x i)) t (call_failed t) × Stands k hold all (call_failed t)) (sym entry)
      (subst (λ (y : ℤ). GoesOn k e hold all c (Happen (F c (e.join task) y)) t (call_failed t) × Stands k hold all (call_failed t)) (sym index)
      (subst (λ (x : Task). GoesOn k e hold all c (Happen (F c (e.join task) (pos 0))) x (call_failed x) × Stands k hold all (call_failed x)) (sym is)
      (fails made left task same, comes (made ++ Join task ∷ []) left way.0 (append_last made (Join task) left ∙ same) way.1)))

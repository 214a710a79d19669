-- What is read off a state of the copy: no state is two.
use Rattle.std.proofs.Common.{◌≡◌, ℕ, Bool, true, false, refl, sym, ap, ◌∙◌, true≢false}
use Rattle.event_machine.specs.Offers.{Offer, Nothing, Calls, Waits, Finishes, Ends, Aborts}
use Rattle.event_machine.specs.Programs.{Program}
use Rattle.run_laws.specs.aborts.Copies.{Due, Begun, TookElse, TookDelay, TookOther, Failed, Returned, Over, Copy, Based, Calling, Owing, Refusing, Leaving, told, done_by, answered}

-- what it is to tell is of a rendezvous
abbrev pub linked_due : {L : Type 0} → Due L → Bool
linked_due (Begun c e i v) = true
linked_due TookElse = false
linked_due (TookDelay k) = false
linked_due TookOther = false
linked_due Failed = false
linked_due (Returned m) = true
linked_due (Over c) = true

-- it is to tell of a rendezvous
abbrev pub is_linked : {L : Type 0} → Copy L → Bool
is_linked (Owing t due l) = linked_due due
is_linked k = false

-- it is to tell that it has accepted a caller
abbrev pub begun_due : {L : Type 0} → Due L → Bool
begun_due (Begun c e i v) = true
begun_due due = false

abbrev pub is_begun : {L : Type 0} → Copy L → Bool
is_begun (Owing t due l) = begun_due due
is_begun k = false

-- it makes the original's steps
abbrev pub is_based : {L : Type 0} → Copy L → Bool
is_based (Based t l) = true
is_based k = false

-- it is to tell that it is behind its call, or behind a rendezvous
abbrev pub back_due : {L : Type 0} → Due L → Bool
back_due (Returned m) = true
back_due due = false

abbrev pub is_back : {L : Type 0} → Copy L → Bool
is_back (Owing t due l) = back_due due
is_back k = false

abbrev pub over_due : {L : Type 0} → Due L → Bool
over_due (Over c) = true
over_due due = false

abbrev pub is_over : {L : Type 0} → Copy L → Bool
is_over (Owing t due l) = over_due due
is_over k = false

-- it is to tell something
abbrev pub is_owing : {L : Type 0} → Copy L → Bool
is_owing (Owing t due l) = true
is_owing k = false

-- it has told that it is before its call
abbrev pub is_calling : {L : Type 0} → Copy L → Bool
is_calling (Calling t l) = true
is_calling k = false

-- the caller that it has accepted, and its state; the acceptor's state; the caller behind whose rendezvous it is
abbrev pub begun_caller : {L : Type 0} → Due L → ℕ
begun_caller (Begun c e i v) = c
begun_caller due = 0

abbrev pub begun_state : {L : Type 0} → L → Due L → L
begun_state other (Begun c e i v) = v
begun_state other due = other

abbrev pub back_state : {L : Type 0} → L → Due L → L
back_state other (Returned m) = m
back_state other due = other

abbrev pub over_caller : {L : Type 0} → Due L → ℕ
over_caller (Over c) = c
over_caller due = 0

abbrev pub due_of : {L : Type 0} → Copy L → Due L
due_of (Owing t due l) = due
due_of k = TookElse

-- the state of the original task
abbrev pub state_of : {L : Type 0} → L → Copy L → L
state_of other (Based t l) = l
state_of other (Calling t l) = l
state_of other (Owing t due l) = l
state_of other (Refusing t c l) = l
state_of other (Leaving t l) = l
state_of other k = other

-- two that pass a test otherwise are not one
pub differ : {A : Type 0} (test : A → Bool) (k m : A) → test k ≡ true → test m ≡ false → k ≡ m → ⊥
differ test k m p q h = true≢false (sym p ∙ ap test h ∙ q)

-- who is not to tell of a rendezvous is not to tell this
pub unlinked : {L : Type 0} (k : Copy L) (t : ℕ) (due : Due L) (l : L) → is_linked k ≡ false → linked_due due ≡ true → k ≡ Owing t due l → ⊥
unlinked k t due l h linked q = differ is_linked (Owing t due l) k linked h (sym q)

module _ {L : Type 0} (p : Program L) where
  -- who has been answered is to tell nothing
  pub answered_none : (answer : Bool) (k : Copy L) → is_owing (answered p answer k) ≡ false
  answered_none answer (Based t l) = go (p.ops.offer l)
    where
      go : (offer : Offer) → is_owing (told p t offer l) ≡ false
      go Nothing = refl
      go (Calls form e i) = refl
      go (Waits choices) = refl
      go Finishes = refl
      go Ends = refl
      go (Aborts v) = refl
  answered_none answer (Owing t due l) = go answer due
    where
      go : (answer : Bool) (due : Due L) → is_owing (done_by p t answer due l) ≡ false
      go true (Begun c e i v) = refl
      go false (Begun c e i v) = refl
      go answer TookElse = refl
      go answer (TookDelay k) = refl
      go answer TookOther = refl
      go answer Failed = refl
      go answer (Returned m) = refl
      go answer (Over c) = refl
  answered_none answer k = refl

  pub not_owing : (answer : Bool) (k : Copy L) (t : ℕ) (due : Due L) (l : L) → answered p answer k ≡ Owing t due l → ⊥
  not_owing answer k t due l h = differ is_owing (Owing t due l) (answered p answer k) refl (answered_none answer k) (sym h)

-- An event reads and changes none but the tasks that it touches, by what is known before it.
use Rattle.std.proofs.Common.{◌≡◌, ℕ, true, not, ◌&&◌, ◌||◌, ◌==◌, if◌then◌else◌, List, [], ◌∷◌, refl, sym, ap, ap₂, ◌∙◌, ⊎_elim}
use Rattle.std.proofs.lemmas.Bool.{or_cases, or_left, or_right}
use Rattle.event_machine.specs.declared.Standing.TheVariants.{Live}
use Rattle.event_machine.specs.declared.Event.{Event}
use Rattle.event_machine.specs.declared.Event.TheVariants.{R, E, S, D, C, T, F, X, B, Z}
use Rattle.event_machine.specs.Offers.{calls_in, is_any_form, is_conditional, is_timed, waits_with, opens, is_else, is_delay, is_finish, is_end}
use Rattle.event_machine.specs.States.{Seat, is_closed, is_served_by}
use Rattle.event_machine.specs.Applying.{is_first}
use Rattle.event_machine.specs.Programs.{Program}
use Rattle.event_machine.specs.Worlds.{happens, offers, aborts, needs, changes}
use Rattle.event_machine.specs.progress.Known.{Party, Known, party, is_innermost, is_served_by as known_served_by, touches}
use Rattle.event_machine.proofs.Basics.{split}
use Rattle.event_machine.proofs.Standings.{is-Live}
use Rattle.event_machine.proofs.progress.Telling.{Tells, by_server}
use Rattle.common_lemmas.proofs.Numbers.{equal_self, equal_is}

-- the first of a list of callers is the innermost one
first_innermost : (t : ℕ) (callers : List ℕ) → is_first t callers ≡ true → is_innermost t callers ≡ true
first_innermost t [] h = h
first_innermost t (c ∷ callers) h = ap (λ v. v == c) (sym (equal_is c t h)) ∙ equal_self c

module _ {L : Type 0} (p : Program L) (k : Known) where
  -- The tasks that the event touches are the same.
  abbrev pub AreNear : Event → (ℕ → Seat L) → (ℕ → Seat L) → Type 0
  AreNear e tasks others = (t : ℕ) → touches p.owner k e t ≡ true → others t ≡ tasks t

  -- What it needs at rest it touches.
  pub needs_touches : (e : Event) (t : ℕ) → needs p e t ≡ true → touches p.owner k e t ≡ true
  needs_touches (R c e i) t h = h
  needs_touches (E a) t h = ap (λ b. b || is_innermost t (party k a).callers) h
  needs_touches (S a) t h = h
  needs_touches (D a n) t h = h
  needs_touches (C c e i) t h = ap (λ b. b || (t == p.owner e)) h
  needs_touches (T c e i) t h = ap (λ b. b || (t == p.owner e)) h
  needs_touches (F c e i) t h = ap (λ b. b || (t == p.owner e)) h
  needs_touches (X a) t h = h
  needs_touches (B u x) t h = ap (λ b. b || ((t == x) || known_served_by x (party k t))) h
  needs_touches Z t h = refl

  -- ---- conditions

  -- the caller and the owner of a call
  pub caller_near : (c o : ℕ) → ((c == c) || (c == o)) ≡ true
  caller_near c o = ap (λ b. b || (c == o)) (equal_self c)

  pub owner_near : (c o : ℕ) → ((o == c) || (o == o)) ≡ true
  owner_near c o = or_right (o == c) (o == o) (equal_self o)

  pub happens_near : (e : Event) (tasks others : ℕ → Seat L) → AreNear e tasks others → happens p others e ≡ happens p tasks e
  happens_near (R c e i) tasks others h = ap₂ (λ x y. offers p.ops (calls_in is_any_form e i) x && offers p.ops (waits_with (opens e i)) y)
      (h c (caller_near c (p.owner e))) (h (p.owner e) (owner_near c (p.owner e)))
  happens_near (E a) tasks others h = ap (offers p.ops is_finish) (h a (ap (λ b. b || is_innermost a (party k a).callers) (equal_self a)))
  happens_near (S a) tasks others h = ap (offers p.ops (waits_with is_else)) (h a (equal_self a))
  happens_near (D a n) tasks others h = ap (offers p.ops (waits_with (is_delay n))) (h a (equal_self a))
  happens_near (C c e i) tasks others h = ap₂ (λ (x y : Seat L). offers p.ops (calls_in is_conditional e i) x && not (is_closed y.standing))
      (h c (caller_near c (p.owner e))) (h (p.owner e) (owner_near c (p.owner e)))
  happens_near (T c e i) tasks others h = ap₂ (λ (x y : Seat L). offers p.ops (calls_in is_timed e i) x && not (is_closed y.standing))
      (h c (caller_near c (p.owner e))) (h (p.owner e) (owner_near c (p.owner e)))
  happens_near (F c e i) tasks others h = ap₂ (λ (x y : Seat L). offers p.ops (calls_in is_any_form e i) x && is_closed y.standing)
      (h c (caller_near c (p.owner e))) (h (p.owner e) (owner_near c (p.owner e)))
  happens_near (X a) tasks others h = ap (λ x. not (a == 0) && offers p.ops is_end x) (h a (equal_self a))
  happens_near (B t x) tasks others h = ap (offers p.ops (aborts x)) (h t (ap (λ b. b || ((t == x) || known_served_by x (party k t))) (equal_self t)))
  happens_near Z tasks others h = ap (λ (g : ℕ → Seat L). happens p g Z) (λ i t. h t refl i)

  -- ---- what it changes

  module _ (tasks : ℕ → Seat L) (tells : Tells p.ops k tasks) where
    pub callers_known : (a : ℕ) → (tasks a).standing ≡ Live → p.ops.callers (tasks a).local ≡ (party k a).callers
    callers_known a free = sym (ap (λ (y : Party). y.callers) (tells a) ∙ ap (λ z. if is_closed z then [] else p.ops.callers (tasks a).local) free)

    -- who is served by x is known
    served_known : (x t : ℕ) → is_served_by x (tasks t).standing ≡ known_served_by x (party k t)
    served_known x t = sym (ap (known_served_by x) (tells t) ∙ by_server x (tasks t).standing)

    -- What it changes it touches.
    pub changes_touches : (e : Event) → happens p tasks e ≡ true → (t : ℕ) → changes p.ops p.owner tasks e t ≡ true → touches p.owner k e t ≡ true
    changes_touches (R c e i) h t q = q
    changes_touches (E a) h t q = ⊎_elim
        (λ r. or_left (t == a) (is_innermost t (party k a).callers) r)
        (λ r. or_right (t == a) (is_innermost t (party k a).callers)
        (first_innermost t (party k a).callers (ap (is_first t) (sym (callers_known a (is-Live (tasks a).standing (split h).0))) ∙ r)))
        (or_cases (t == a) (is_first t (p.ops.callers (tasks a).local)) q)
    changes_touches (S a) h t q = q
    changes_touches (D a n) h t q = q
    changes_touches (C c e i) h t q = ap (λ b. b || (t == p.owner e)) q
    changes_touches (T c e i) h t q = ap (λ b. b || (t == p.owner e)) q
    changes_touches (F c e i) h t q = ap (λ b. b || (t == p.owner e)) q
    changes_touches (X a) h t q = q
    changes_touches (B u x) h t q = ⊎_elim
        (λ r. or_left (t == u) ((t == x) || known_served_by x (party k t)) r)
        (λ r. or_right (t == u) ((t == x) || known_served_by x (party k t)) (sym (ap (λ b. (t == x) || b) (served_known x t)) ∙ (split r).1))
        (or_cases (t == u) (not (is_closed (tasks x).standing) && ((t == x) || is_served_by x (tasks t).standing)) q)
    changes_touches Z h t q = refl

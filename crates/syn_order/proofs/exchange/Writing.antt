-- What an event makes of the tasks that it touches goes by these alone.
use Rattle.std.proofs.Common.{◌≡◌, ℕ, Bool, true, false, not, ◌&&◌, ◌||◌, ◌==◌, if◌then◌else◌, List, [], ◌∷◌, refl, sym, ap, ◌∙◌, arith}
use Rattle.std.specs.Prelude.{ℤ}
use Rattle.std.proofs.lemmas.Bool.{or_right}
use Rattle.event_machine.specs.declared.Standing.{Standing}
use Rattle.event_machine.specs.declared.Standing.TheVariants.{Served, Completed, Killed}
use Rattle.event_machine.specs.declared.Event.{Event}
use Rattle.event_machine.specs.declared.Event.TheVariants.{R, E, S, D, C, T, F, X, B, Z}
use Rattle.event_machine.specs.States.{Seat, live, is_closed, is_served_by}
use Rattle.event_machine.specs.Applying.{is_first}
use Rattle.event_machine.specs.Effects.{freed, met_at, parted, released_first, parted_both, released, fallen, aborted, went_on, abort_seats}
use Rattle.event_machine.specs.Soundness.{IsSound, times}
use Rattle.event_machine.specs.Programs.{Program, numbered}
use Rattle.event_machine.specs.Worlds.{happens, acted, changes}
use Rattle.event_machine.specs.progress.Known.{Known, party, is_innermost, is_served_by as known_served_by, touches}
use Rattle.event_machine.proofs.Basics.{split}
use Rattle.event_machine.proofs.Standings.{is-Live}
use Rattle.event_machine.proofs.progress.Telling.{Tells}
use Rattle.syn_order.proofs.exchange.Reading.{AreNear, caller_near, owner_near, callers_known}
use Rattle.common_lemmas.proofs.Numbers.{equal_self}

module _ {L : Type 0} (p : Program L) where
  -- ---- writes of tasks that are the same

  freed_near : (f : L → L) (tasks others : ℕ → Seat L) (t u : ℕ) → others t ≡ tasks t → others u ≡ tasks u →
      freed (numbered p).store f others t u ≡ freed (numbered p).store f tasks t u
  freed_near f tasks others t u ht hu = λ j. if u == t then live (f (ht j).local) else hu j

  met_near : (tasks others : ℕ → Seat L) (c e : ℕ) (i : ℤ) (u : ℕ) → others c ≡ tasks c → others (p.owner e) ≡ tasks (p.owner e) → others u ≡ tasks u →
      met_at (numbered p) others c e i u ≡ met_at (numbered p) tasks c e i u
  met_near tasks others c e i u hc ho hu = λ j.
      if u == c
      then record {
        local = (if c == p.owner e then live (p.ops.accepted e i c (hc j).local (ho j).local) else hc j).local;
        standing = Served (p.owner e) false;
      }
      else (if u == p.owner e then live (p.ops.accepted e i c (hc j).local (ho j).local) else hu j)

  -- the acceptor has these callers in both
  ended_near : (tasks others : ℕ → Seat L) (a u : ℕ) (callers : List ℕ) → others a ≡ tasks a → others u ≡ tasks u →
      ((c : ℕ) → is_innermost c callers ≡ true → others c ≡ tasks c) →
      released_first (numbered p) a (others a).local callers (freed (numbered p).store p.ops.finished others a) u ≡
      released_first (numbered p) a (tasks a).local callers (freed (numbered p).store p.ops.finished tasks a) u
  ended_near tasks others a u [] ha hu hc = λ j. if u == a then live (p.ops.finished (ha j).local) else hu j
  ended_near tasks others a u (c ∷ callers) ha hu hc = λ j.
      if u == c
      then parted p.ops a (ha j).local (if c == a then live (p.ops.finished (ha j).local) else hc c (equal_self c) j)
      else (if u == a then live (p.ops.finished (ha j).local) else hu j)

  both_near : (tasks others : ℕ → Seat L) (a u : ℕ) (callers : List ℕ) → p.ops.callers (tasks a).local ≡ callers → others a ≡ tasks a → others u ≡ tasks u →
      ((c : ℕ) → is_innermost c callers ≡ true → others c ≡ tasks c) →
      parted_both (numbered p) others a u ≡ parted_both (numbered p) tasks a u
  both_near tasks others a u callers q ha hu hc =
      ap (λ cs. released_first (numbered p) a (others a).local cs (freed (numbered p).store p.ops.finished others a) u) (ap (λ (x : Seat L). p.ops.callers x.local) ha ∙ q) ∙
      ended_near tasks others a u callers ha hu hc ∙
      sym (ap (λ cs. released_first (numbered p) a (tasks a).local cs (freed (numbered p).store p.ops.finished tasks a) u) q)

  went_near : (tasks others : ℕ → Seat L) (t x u : ℕ) → others t ≡ tasks t → others u ≡ tasks u → went_on (numbered p) others t x u ≡ went_on (numbered p) tasks t x u
  went_near tasks others t x u ht hu = go (x == t)
    where
      go : (b : Bool) →
          if◌then◌else◌ {A = ℕ → Seat L} b others (freed (numbered p).store p.ops.passed others t) u ≡
          if◌then◌else◌ {A = ℕ → Seat L} b tasks (freed (numbered p).store p.ops.passed tasks t) u
      go true = hu
      go false = freed_near p.ops.passed tasks others t u ht hu

  abort_near : (tasks others : ℕ → Seat L) (t x u : ℕ) → others t ≡ tasks t → others x ≡ tasks x → others u ≡ tasks u →
      abort_seats (numbered p) others t x u ≡ abort_seats (numbered p) tasks t x u
  abort_near tasks others t x u ht hx hu =
      ap (λ (y : Seat L). if◌then◌else◌ {A = ℕ → Seat L} (is_closed y.standing) (went others) (aborted (numbered p) (went others) x closing) u) hx ∙
      go (is_closed (tasks x).standing)
    where
      closing : Standing
      closing = if x == t then Completed else Killed

      went : (ℕ → Seat L) → ℕ → Seat L
      went w = went_on (numbered p) w t x

      went_there : went others u ≡ went tasks u
      went_there = went_near tasks others t x u ht hu

      went_victim : went others x ≡ went tasks x
      went_victim = went_near tasks others t x x ht hx

      falls : Seat L → Seat L
      falls seat = record { local = (released p.ops x seat).local; standing = fallen closing (released p.ops x seat).standing }

      go : (b : Bool) →
          if◌then◌else◌ {A = ℕ → Seat L} b (went others) (aborted (numbered p) (went others) x closing) u ≡
          if◌then◌else◌ {A = ℕ → Seat L} b (went tasks) (aborted (numbered p) (went tasks) x closing) u
      go true = went_there
      go false = λ j. if u == x then falls (went_victim j) else released p.ops x (went_there j)

  -- ---- one event

  module _ (k : Known) (tasks others : ℕ → Seat L) (tells : Tells p.ops k tasks) where
    -- what it makes of a task that it touches
    pub acted_near : (e : Event) → AreNear p k e tasks others → happens p tasks e ≡ true → (t : ℕ) → touches p.owner k e t ≡ true →
        acted (numbered p) others e t ≡ acted (numbered p) tasks e t
    acted_near (R c e i) near h t q = met_near tasks others c e i t (near c (caller_near p k c (p.owner e))) (near (p.owner e) (owner_near p k c (p.owner e))) (near t q)
    acted_near (E a) near h t q = both_near tasks others a t (party k a).callers (callers_known p k tasks tells a (is-Live (tasks a).standing (split h).0))
        (near a (ap (λ b. b || is_innermost a (party k a).callers) (equal_self a))) (near t q) (λ c r. near c (or_right (c == a) (is_innermost c (party k a).callers) r))
    acted_near (S a) near h t q = freed_near p.ops.took_else tasks others a t (near a (equal_self a)) (near t q)
    acted_near (D a n) near h t q = freed_near (p.ops.took_delay n) tasks others a t (near a (equal_self a)) (near t q)
    acted_near (C c e i) near h t q = freed_near p.ops.took_else tasks others c t (near c (caller_near p k c (p.owner e))) (near t q)
    acted_near (T c e i) near h t q = freed_near (p.ops.took_delay 1) tasks others c t (near c (caller_near p k c (p.owner e))) (near t q)
    acted_near (F c e i) near h t q = freed_near p.ops.raised tasks others c t (near c (caller_near p k c (p.owner e))) (near t q)
    acted_near (X a) near h t q =
        let ha : others a ≡ tasks a = near a (equal_self a) in
        let ht : others t ≡ tasks t = near t q in
        λ j. if t == a then record { local = (ha j).local; standing = Completed } else ht j
    acted_near (B u x) near h t q = abort_near tasks others u x t (near u (ap (λ b. b || ((u == x) || known_served_by x (party k u))) (equal_self u)))
        (near x (or_right (x == u) ((x == x) || known_served_by x (party k x)) (ap (λ b. b || known_served_by x (party k x)) (equal_self x)))) (near t q)
    acted_near Z near h t q = near t q

    -- ---- which tasks it changes

    -- whoever is served by an open task that is the same in both is a caller there in both
    served_near : (IsProper : L → Type 0) → IsSound p.ops IsProper tasks → IsSound p.ops IsProper others → (x t : ℕ) → others x ≡ tasks x →
        is_closed (tasks x).standing ≡ false → is_served_by x (others t).standing ≡ is_served_by x (tasks t).standing
    served_near IsProper sound other_sound x t hx open' = one (is_served_by x (others t).standing) (is_served_by x (tasks t).standing)
        (sym (other_sound.callers x t (ap (λ (y : Seat L). is_closed y.standing) hx ∙ open')) ∙ ap (λ (y : Seat L). times t (p.ops.callers y.local)) hx ∙ sound.callers x t open')
      where
        one : (a b : Bool) → ◌≡◌ {A = ℕ} (if a then 1 else 0) (if b then 1 else 0) → a ≡ b
        one true true r = refl
        one true false r = absurd (omega (arith, r))
        one false true r = absurd (omega (arith, r))
        one false false r = refl

    -- It changes the same tasks of both.
    pub changes_near : (IsProper : L → Type 0) → IsSound p.ops IsProper tasks → IsSound p.ops IsProper others → (e : Event) → AreNear p k e tasks others → (t : ℕ) →
        changes p.ops p.owner others e t ≡ changes p.ops p.owner tasks e t
    changes_near IsProper sound other_sound (R c e i) near t = refl
    changes_near IsProper sound other_sound (E a) near t =
        ap (λ (x : Seat L). (t == a) || is_first t (p.ops.callers x.local)) (near a (ap (λ b. b || is_innermost a (party k a).callers) (equal_self a)))
    changes_near IsProper sound other_sound (S a) near t = refl
    changes_near IsProper sound other_sound (D a n) near t = refl
    changes_near IsProper sound other_sound (C c e i) near t = refl
    changes_near IsProper sound other_sound (T c e i) near t = refl
    changes_near IsProper sound other_sound (F c e i) near t = refl
    changes_near IsProper sound other_sound (X a) near t = refl
    changes_near IsProper sound other_sound (B u x) near t =
        ap (λ (y : Seat L). (t == u) || (not (is_closed y.standing) && ((t == x) || is_served_by x (others t).standing))) same_victim ∙ go (is_closed (tasks x).standing) refl
      where
        same_victim : others x ≡ tasks x
        same_victim = near x (or_right (x == u) ((x == x) || known_served_by x (party k x)) (ap (λ b. b || known_served_by x (party k x)) (equal_self x)))

        go : (b : Bool) → is_closed (tasks x).standing ≡ b →
            ((t == u) || (not b && ((t == x) || is_served_by x (others t).standing))) ≡ ((t == u) || (not b && ((t == x) || is_served_by x (tasks t).standing)))
        go true q = refl
        go false q = ap (λ s. (t == u) || ((t == x) || s)) (served_near IsProper sound other_sound x t same_victim q)
    changes_near IsProper sound other_sound Z near t = refl

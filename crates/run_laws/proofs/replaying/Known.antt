-- The plain progress is what the law asks of one, for every lawful program.
use Rattle.std.proofs.Common.{◌≡◌, ℕ, zero, suc, ◌+◌, ◌<◌, ◌≤◌, Bool, true, false, not, ◌&&◌, ◌==◌, if◌then◌else◌, List, [], ◌∷◌, ◌++◌, refl, sym, ap, ◌∙◌, subst, ⊎_elim, true≢false, arith}
use Rattle.std.specs.Prelude.{nat_lt}
use Rattle.std.proofs.lemmas.Bool.{eqb-true, eqb-false, and_parts, and_left, and_right, cases_lt, ne_eqb}
use Rattle.event_machine.specs.declared.Standing.{Standing}
use Rattle.event_machine.specs.declared.Standing.TheVariants.{Live, Waiting, Queued, Served, Completed, Killed}
use Rattle.event_machine.specs.declared.Event.{Event}
use Rattle.event_machine.specs.declared.Event.TheVariants.{R, E, S, D, C, T, F, X, B, Z}
use Rattle.event_machine.specs.Offers.{is_finish, is_end}
use Rattle.event_machine.specs.States.{Seat, live, is_live, is_closed, is_completed, is_served, is_served_by}
use Rattle.event_machine.specs.Applying.{is_empty}
use Rattle.event_machine.specs.Lawful.{IsLawful}
use Rattle.event_machine.specs.Programs.{Program}
use Rattle.event_machine.specs.Soundness.{IsSound, times}
use Rattle.event_machine.specs.Admitting.{IsAdmitted}
use Rattle.event_machine.specs.Worlds.{World, Move, Step, Happen, can_move, moved, happens, happened, offers, AreMoves, world_after}
use Rattle.event_machine.proofs.Basics.{both, false_not}
use Rattle.event_machine.proofs.Standings.{is-Live}
use Rattle.event_machine.proofs.Offering.{finish_is, end_is}
use Rattle.event_machine.proofs.Sound.{sound_moved}
use Rattle.event_machine.proofs.Admitting.{admitted}
use Rattle.event_machine.proofs.Bases.{IsBase, base_leads}
use Rattle.event_machine.proofs.Extending.{caller_served}
use Rattle.event_machine.proofs.Walking.{sound_moves, follow_moves, follows_self}
use Rattle.run_laws.specs.replaying.Scripts.{Progress, known, IsProgress}
use Rattle.run_laws.specs.replaying.Plainly.{seen_tasks, none_served, live_others, can_come, plain_progress}
use Rattle.run_laws.proofs.replaying.Plainly.{seen_freed, seen_acted}
use Rattle.common_lemmas.proofs.Numbers.{equal_self, lt_false, lt_true}
use Rattle.common_lemmas.proofs.Truth.{not_true}

over_unserved : (s : Standing) → is_completed s ≡ true → is_served s ≡ false
over_unserved Live h = refl
over_unserved Waiting h = refl
over_unserved Queued h = refl
over_unserved (Served by abnormal) h = absurd (true≢false (sym h))
over_unserved Completed h = refl
over_unserved Killed h = refl

pub times_append : (t : ℕ) (xs ys : List ℕ) → times t (xs ++ ys) ≡ times t xs + times t ys
times_append t [] ys = omega arith
times_append t (x ∷ xs) ys = ap (λ n. (if x == t then 1 else 0) + n) (times_append t xs ys) ∙ shift (if x == t then 1 else 0) (times t xs) (times t ys)
  where
    shift : (a b c : ℕ) → a + (b + c) ≡ (a + b) + c
    shift a b c = omega arith

-- the tasks that are listed, each once
listed_once : (tasks : ℕ → Seat (List ℕ)) (n t : ℕ) → times t (live_others tasks n) ≡ (if nat_lt 0 t && (nat_lt t n && is_live (tasks t).standing) then 1 else 0)
listed_once tasks zero t = sym (ap (λ b. if b then 1 else 0) (and_right (nat_lt 0 t) (nat_lt t 0 && is_live (tasks t).standing)
    (and_left (nat_lt t 0) (is_live (tasks t).standing) (lt_false t 0 (omega arith)))))
listed_once tasks (suc n) t = times_append t (live_others tasks n) (if nat_lt 0 n && is_live (tasks n).standing then n ∷ [] else []) ∙
    ap (λ v. v + times t (if nat_lt 0 n && is_live (tasks n).standing then n ∷ [] else [])) (listed_once tasks n t) ∙
    ⊎_elim (λ (m : t < n). below m) (λ (m : n ≤ t). ⊎_elim (λ (k : t < suc n). let e : n ≡ t = omega (arith, m, k) in here e) (λ (k : suc n ≤ t). above k) (cases_lt t (suc n))) (cases_lt t n)
  where
    none : (n == t) ≡ false → (b : Bool) → times t (if b then n ∷ [] else []) ≡ 0
    none q true = let k : ◌≡◌ {A = ℕ} (if n == t then 1 else 0) 0 = ap (λ c. if c then 1 else 0) q in omega (arith, k)
    none q false = refl

    plus_zero : (a b : ℕ) → b ≡ 0 → a + b ≡ a
    plus_zero a b q = omega (arith, q)

    below : t < n → (if nat_lt 0 t && (nat_lt t n && is_live (tasks t).standing) then 1 else 0) + times t (if nat_lt 0 n && is_live (tasks n).standing then n ∷ [] else []) ≡
        (if nat_lt 0 t && (nat_lt t (suc n) && is_live (tasks t).standing) then 1 else 0)
    below m = plus_zero (if nat_lt 0 t && (nat_lt t n && is_live (tasks t).standing) then 1 else 0) (times t (if nat_lt 0 n && is_live (tasks n).standing then n ∷ [] else []))
        (none (ne_eqb n t (λ q. omega (arith, m, q))) (nat_lt 0 n && is_live (tasks n).standing)) ∙
        ap (λ b. if nat_lt 0 t && (b && is_live (tasks t).standing) then 1 else 0) (lt_true t n m ∙ sym (lt_true t (suc n) (omega (arith, m))))

    above : n < t → (if nat_lt 0 t && (nat_lt t n && is_live (tasks t).standing) then 1 else 0) + times t (if nat_lt 0 n && is_live (tasks n).standing then n ∷ [] else []) ≡
        (if nat_lt 0 t && (nat_lt t (suc n) && is_live (tasks t).standing) then 1 else 0)
    above m = plus_zero (if nat_lt 0 t && (nat_lt t n && is_live (tasks t).standing) then 1 else 0) (times t (if nat_lt 0 n && is_live (tasks n).standing then n ∷ [] else []))
        (none (ne_eqb n t (λ q. omega (arith, m, q))) (nat_lt 0 n && is_live (tasks n).standing)) ∙
        ap (λ b. if nat_lt 0 t && (b && is_live (tasks t).standing) then 1 else 0) (lt_false t n (omega (arith, m)) ∙ sym (lt_false t (suc n) m))

    once : (b : Bool) → 0 + times n (if b then n ∷ [] else []) ≡ (if b then 1 else 0)
    once true = let k : ◌≡◌ {A = ℕ} (if n == n then 1 else 0) 1 = ap (λ c. if c then 1 else 0) (equal_self n) in omega (arith, k)
    once false = refl

    here_n : (if nat_lt 0 n && (nat_lt n n && is_live (tasks n).standing) then 1 else 0) + times n (if nat_lt 0 n && is_live (tasks n).standing then n ∷ [] else []) ≡
        (if nat_lt 0 n && (nat_lt n (suc n) && is_live (tasks n).standing) then 1 else 0)
    here_n = ap (λ b. (if b then 1 else 0) + times n (if nat_lt 0 n && is_live (tasks n).standing then n ∷ [] else []))
        (and_right (nat_lt 0 n) (nat_lt n n && is_live (tasks n).standing) (and_left (nat_lt n n) (is_live (tasks n).standing) (lt_false n n (omega arith)))) ∙
        once (nat_lt 0 n && is_live (tasks n).standing) ∙
        ap (λ b. if nat_lt 0 n && (b && is_live (tasks n).standing) then 1 else 0) (sym (lt_true n (suc n) (omega arith)))

    here : n ≡ t → (if nat_lt 0 t && (nat_lt t n && is_live (tasks t).standing) then 1 else 0) + times t (if nat_lt 0 n && is_live (tasks n).standing then n ∷ [] else []) ≡
        (if nat_lt 0 t && (nat_lt t (suc n) && is_live (tasks t).standing) then 1 else 0)
    here e = subst (λ u. (if nat_lt 0 u && (nat_lt u n && is_live (tasks u).standing) then 1 else 0) + times u (if nat_lt 0 n && is_live (tasks n).standing then n ∷ [] else []) ≡
        (if nat_lt 0 u && (nat_lt u (suc n) && is_live (tasks u).standing) then 1 else 0)) e here_n

module _ {L : Type 0} (p : Program L) (IsProper : L → Type 0) (lawful : IsLawful p.ops IsProper) where
  -- ---- what the tests on what is known say of the tasks

  module _ (tasks : ℕ → Seat L) (sound : IsSound p.ops IsProper tasks) (beyond : (t : ℕ) → p.size ≤ t → is_completed (tasks t).standing ≡ true) where
    unserved_below : (n t : ℕ) → none_served (seen_tasks p tasks) n ≡ true → t < n → is_served (tasks t).standing ≡ false
    unserved_below zero t h l = absurd (omega (arith, l))
    unserved_below (suc n) t h l =
        let k = and_parts (none_served (seen_tasks p tasks) n) (not (is_served (tasks n).standing)) h in
        ⊎_elim (λ (m : t < n). unserved_below n t k.0 m)
        (λ (m : n ≤ t). let e : n ≡ t = omega (arith, m, l) in subst (λ u. is_served (tasks u).standing ≡ false) e (not_true (is_served (tasks n).standing) k.1)) (cases_lt t n)

    none_below : ((t : ℕ) → is_served (tasks t).standing ≡ false) → (n : ℕ) → none_served (seen_tasks p tasks) n ≡ true
    none_below h zero = refl
    none_below h (suc n) = both (none_below h n) (false_not (h n))

    has_caller : (a : ℕ) → (tasks a).standing ≡ Live → (callers : List ℕ) → p.ops.callers (tasks a).local ≡ callers → not (is_empty callers) ≡ true → (c : ℕ) × (is_served_by a (tasks c).standing ≡ true)
    has_caller a free [] q h = absurd (true≢false (sym h))
    has_caller a free (c ∷ callers) q h = (
      c,
      (caller_served sound a c (times c callers) (ap is_closed free)
          (ap (times c) q ∙ ap (λ b. (if b then 1 else 0) + times c callers) (equal_self c) ∙ one_more (times c callers))).0,
    )
      where
        one_more : (n : ℕ) → 1 + n ≡ suc n
        one_more n = omega arith

    no_caller : (a : ℕ) → (tasks a).standing ≡ Live → (callers : List ℕ) → p.ops.callers (tasks a).local ≡ callers → is_empty callers ≡ true → (c : ℕ) → is_served_by a (tasks c).standing ≡ false
    no_caller a free [] q h c = go (is_served_by a (tasks c).standing) (sym (ap (times c) q) ∙ sound.callers a c (ap is_closed free))
      where
        go : (b : Bool) → ◌≡◌ {A = ℕ} 0 (if b then 1 else 0) → b ≡ false
        go true r = absurd (omega (arith, r))
        go false r = refl
    no_caller a free (d ∷ callers) q h c = absurd (true≢false (sym h))

    come_admitted : (e : Event) → can_come p (seen_tasks p tasks) e ≡ true → IsAdmitted p.owner tasks e
    come_admitted (R c e i) h =
        let k = and_parts (is_live (tasks c).standing) (is_live (tasks (p.owner e)).standing && not (c == p.owner e)) h in
        let l = and_parts (is_live (tasks (p.owner e)).standing) (not (c == p.owner e)) k.1 in
        (is-Live (tasks c).standing k.0, is-Live (tasks (p.owner e)).standing l.0, eqb-false c (p.owner e) (not_true (c == p.owner e) l.1))
    come_admitted (E a) h =
        let k = and_parts (is_live (tasks a).standing) (not (is_empty (p.ops.callers (tasks a).local))) h in
        let free : (tasks a).standing ≡ Live = is-Live (tasks a).standing k.0 in
        (free, has_caller a free (p.ops.callers (tasks a).local) refl k.1)
    come_admitted (S a) h = is-Live (tasks a).standing h
    come_admitted (D a k) h = is-Live (tasks a).standing h
    come_admitted (C c e i) h =
        let k = and_parts (is_live (tasks c).standing) (not (is_closed (tasks (p.owner e)).standing)) h in
        (is-Live (tasks c).standing k.0, not_true (is_closed (tasks (p.owner e)).standing) k.1)
    come_admitted (T c e i) h =
        let k = and_parts (is_live (tasks c).standing) (not (is_closed (tasks (p.owner e)).standing)) h in
        (is-Live (tasks c).standing k.0, not_true (is_closed (tasks (p.owner e)).standing) k.1)
    come_admitted (F c e i) h =
        let k = and_parts (is_live (tasks c).standing) (is_closed (tasks (p.owner e)).standing) h in (is-Live (tasks c).standing k.0, k.1)
    come_admitted (X a) h =
        let k = and_parts (is_live (tasks a).standing) (is_empty (p.ops.callers (tasks a).local)) h in
        let free : (tasks a).standing ≡ Live = is-Live (tasks a).standing k.0 in
        (free, no_caller a free (p.ops.callers (tasks a).local) refl k.1)
    come_admitted (B t v) h = is-Live (tasks t).standing h
    come_admitted Z h = λ t. ⊎_elim (λ (m : t < p.size). unserved_below p.size t h m) (λ (m : p.size ≤ t). over_unserved (tasks t).standing (beyond t m)) (cases_lt t p.size)

    happens_come : (e : Event) → happens p tasks e ≡ true → can_come p (seen_tasks p tasks) e ≡ true
    happens_come (R c e i) h =
        let k = admitted p IsProper lawful (R c e i) tasks sound beyond h in
        both (ap is_live k.0) (both (ap is_live k.1) (ap not (ne_eqb c (p.owner e) k.2)))
    happens_come (E a) h =
        let k = and_parts (is_live (tasks a).standing) (is_finish (p.ops.offer (tasks a).local)) h in
        let ends = lawful.finished (tasks a).local (sound.proper a (ap is_closed (is-Live (tasks a).standing k.0))) (finish_is (p.ops.offer (tasks a).local) k.1) in
        both k.0 (ap (λ cs. not (is_empty cs)) ends.2)
    happens_come (S a) h = ap is_live (admitted p IsProper lawful (S a) tasks sound beyond h)
    happens_come (D a k) h = ap is_live (admitted p IsProper lawful (D a k) tasks sound beyond h)
    happens_come (C c e i) h = let k = admitted p IsProper lawful (C c e i) tasks sound beyond h in both (ap is_live k.0) (ap not k.1)
    happens_come (T c e i) h = let k = admitted p IsProper lawful (T c e i) tasks sound beyond h in both (ap is_live k.0) (ap not k.1)
    happens_come (F c e i) h = let k = admitted p IsProper lawful (F c e i) tasks sound beyond h in both (ap is_live k.0) k.1
    happens_come (X a) h =
        let k = and_parts (not (a == 0)) (offers p.ops is_end (tasks a)) h in
        let l = and_parts (is_live (tasks a).standing) (is_end (p.ops.offer (tasks a).local)) k.1 in
        both l.0 (ap is_empty (lawful.ended (tasks a).local (sound.proper a (ap is_closed (is-Live (tasks a).standing l.0))) (end_is (p.ops.offer (tasks a).local) l.1)))
    happens_come (B t v) h = ap is_live (admitted p IsProper lawful (B t v) tasks sound beyond h)
    happens_come Z h = none_below (admitted p IsProper lawful Z tasks sound beyond h) p.size

  -- ---- what is known is so

  module _ (start : World L) (base : IsBase p IsProper lawful start) where
    abbrev progress : Progress (ℕ → Seat (List ℕ))
    progress = plain_progress p start

    seen_step : (w : World L) (t : ℕ) → IsSound p.ops IsProper w.tasks → can_move p w (Step t) ≡ true → seen_tasks p (moved p w (Step t)).tasks ≡ seen_tasks p w.tasks
    seen_step w t sound h =
        seen_freed p IsProper lawful w.tasks t p.ops.stepped (lawful.stepped (w.tasks t).local (sound.proper t (ap is_closed free)) more.1).1 ∙
        (λ i u. same u (u == t) refl i)
      where
        more : (is_live (w.tasks t).standing ≡ true) × (p.ops.can_step (w.tasks t).local ≡ true)
        more = and_parts (is_live (w.tasks t).standing) (p.ops.can_step (w.tasks t).local) (and_parts (not w.ended) (is_live (w.tasks t).standing && p.ops.can_step (w.tasks t).local) h).1

        free : (w.tasks t).standing ≡ Live
        free = is-Live (w.tasks t).standing more.0

        same : (u : ℕ) (b : Bool) → (u == t) ≡ b → (if b then live (seen_tasks p w.tasks t).local else seen_tasks p w.tasks u) ≡ seen_tasks p w.tasks u
        same u true q = ap (λ s. record { local = (seen_tasks p w.tasks t).local; standing = s }) (sym free) ∙ ap (seen_tasks p w.tasks) (sym (eqb-true u t q))
        same u false q = refl

    known_is : (moves : List Move) (w : World L) → IsSound p.ops IsProper w.tasks → AreMoves p w moves →
        known progress (seen_tasks p w.tasks) (happened moves) ≡ seen_tasks p (world_after p w moves).tasks
    known_is [] w sound h = refl
    known_is (Step t ∷ moves) w sound h = ap (λ g. known progress g (happened moves)) (sym (seen_step w t sound h.0)) ∙
        known_is moves (moved p w (Step t)) (sound_moved p IsProper lawful w (Step t) sound h.0) h.1
    known_is (Happen e ∷ moves) w sound h =
        ap (λ g. known progress g (happened moves)) (sym (seen_acted p IsProper lawful w.tasks sound e (and_parts (not w.ended) (happens p w.tasks e) h.0).1)) ∙
        known_is moves (moved p w (Happen e)) (sound_moved p IsProper lawful w (Happen e) sound h.0) h.1

    module _ (moves : List Move) (made : AreMoves p start moves) where
      sound_after : IsSound p.ops IsProper (world_after p start moves).tasks
      sound_after = sound_moves p IsProper lawful moves start base.sound made

      beyond_after : (t : ℕ) → p.size ≤ t → is_completed ((world_after p start moves).tasks t).standing ≡ true
      beyond_after t m =
          let (last, leads, follows) = follow_moves p IsProper lawful moves start start (λ u. 0) base.sound (follows_self p start) made in
          ap is_completed (follows.each t).standing ∙ (base_leads p IsProper lawful (happened moves) start last leads base).beyond t m

      known_after : known progress progress.start (happened moves) ≡ seen_tasks p (world_after p start moves).tasks
      known_after = known_is moves start base.sound made

    pub plain_knows : IsProgress p start progress
    plain_knows = record {
      admitted = λ moves e made runs h. come_admitted (world_after p start moves).tasks (sound_after moves made) (beyond_after moves made) e
          (ap (λ g. can_come p g e) (sym (known_after moves made)) ∙ h);
      complete = λ moves e made runs h. ap (λ g. can_come p g e) (known_after moves made) ∙
          happens_come (world_after p start moves).tasks (sound_after moves made) (beyond_after moves made) e h;
      others = λ moves made runs h t. ap (λ g. times t (live_others g p.size)) (known_after moves made) ∙ listed_once (seen_tasks p (world_after p start moves).tasks) p.size t;
    }

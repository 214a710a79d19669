-- All permits of an event that can happen are given.
use Rattle.std.proofs.Common.{◌≡◌, ℕ, pred, ◌+◌, ◌<◌, ◌≤◌, Bool, true, false, ◌&&◌, ◌==◌, if◌then◌else◌, List, [], ◌∷◌, refl, sym, ap, ◌∙◌, subst, inl, inr, ◌⊎◌, ⊎_elim, true≢false, arith}
use Rattle.std.specs.Prelude.{pos, nat_lt}
use Rattle.std.proofs.lemmas.Bool.{eqb-true, and_parts, or_cases, or_left, or_right, ltb-true, le-leb, false_from_ne_true}
use Rattle.event_machine.specs.declared.Standing.TheVariants.{Live}
use Rattle.event_machine.specs.declared.Event.{Event}
use Rattle.event_machine.specs.declared.Event.TheVariants.{R, E, S, D, C, T, F, X, B, Z}
use Rattle.event_machine.specs.Offers.{is_end}
use Rattle.event_machine.specs.States.{Seat, live, is_live}
use Rattle.event_machine.specs.Soundness.{times}
use Rattle.event_machine.specs.Worlds.{World, Happen, happens, moved, needs, offers, others_end}
use Rattle.event_machine.proofs.Standings.{is-Live}
use Rattle.event_machine.proofs.Following.{happens_rest}
use Rattle.run_laws.specs.replaying.Permits.{permit_of}
use Rattle.run_laws.specs.replaying.Scripts.{takers, is_other}
use Rattle.run_laws.specs.replaying.Copies.{Copy, Based}
use Rattle.run_laws.specs.replaying.Rewritings.{Setting, control, twin}
use Rattle.run_laws.specs.replaying.inner.Stages.{IsReached, image, image_seat, image_world, Giving, Asked, Away, Holds, member, in_order, SeatAt, Inv}
use Rattle.run_laws.proofs.replaying.Images.{image_at}
use Rattle.run_laws.proofs.replaying.Reached.{after_all, reached_admitted, reached_others}
use Rattle.run_laws.proofs.replaying.Failing.{live_below}
use Rattle.run_laws.proofs.replaying.Known.{times_append}
use Rattle.run_laws.proofs.replaying.Steering.{Unseen, Led, led_here, led_on, ask, take, away_based}
use Rattle.common_lemmas.proofs.Numbers.{equal_self}

times_order : (t : ℕ) (given more : List ℕ) → times t (in_order given more) ≡ times t given + times t more
times_order t [] more = omega arith
times_order t (u ∷ given) more = times_order t given (u ∷ more) ∙ shift (times t given) (if u == t then 1 else 0) (times t more)
  where
    shift : (a b c : ℕ) → a + (b + c) ≡ (b + a) + c
    shift a b c = omega arith

member_times : (t : ℕ) (xs : List ℕ) → member t xs ≡ true → 1 ≤ times t xs
member_times t [] h = absurd (true≢false (sym h))
member_times t (u ∷ xs) h = ⊎_elim
    (λ k. first (ap (λ v. v == t) (sym (eqb-true t u k)) ∙ equal_self t))
    (λ k. let r = member_times t xs k in omega (arith, r))
    (or_cases (t == u) (member t xs) h)
  where
    first : (u == t) ≡ true → 1 ≤ (if u == t then 1 else 0) + times t xs
    first q = let k : ◌≡◌ {A = ℕ} (if u == t then 1 else 0) 1 = ap (λ b. if b then 1 else 0) q in omega (arith, k)

one_once : (b : Bool) → (if b then 1 else 0) + 0 ≤ 1
one_once true = omega arith
one_once false = omega arith

module _ (x : Setting) where
  -- ---- who is to get a permit

  module _ (past : List Event) (w : World (Copy x.L)) (reached : IsReached x past (image_world x w)) (runs : w.ended ≡ false) where
    others_times : x.progress.admits (after_all x past) Z ≡ true → (t : ℕ) → times t (takers x.progress x.p.owner (after_all x past) Z) ≡ (if is_other x.p (image_world x w) t then 1 else 0) + ((if 0 == t then 1 else 0) + 0)
    others_times h t = times_append t (x.progress.others (after_all x past)) (0 ∷ []) ∙
        ap (λ v. v + ((if 0 == t then 1 else 0) + 0)) (reached_others x past (image_world x w) reached t runs h)

    -- each once
    pub takers_once : (e : Event) → x.progress.admits (after_all x past) e ≡ true → (t : ℕ) → times t (takers x.progress x.p.owner (after_all x past) e) ≤ 1
    takers_once (R c e i) h t = go (c == t) refl (x.p.owner e == t) refl
      where
        apart : c ≡ x.p.owner e → ⊥
        apart = (reached_admitted x past (image_world x w) reached (R c e i) runs h).2

        go : (a : Bool) → (c == t) ≡ a → (b : Bool) → (x.p.owner e == t) ≡ b → (if a then 1 else 0) + ((if b then 1 else 0) + 0) ≤ 1
        go true p true q = absurd (apart (eqb-true c t p ∙ sym (eqb-true (x.p.owner e) t q)))
        go true p false q = omega arith
        go false p true q = omega arith
        go false p false q = omega arith
    takers_once (E a) h t = one_once (a == t)
    takers_once (S a) h t = one_once (a == t)
    takers_once (D a k) h t = one_once (a == t)
    takers_once (C c e i) h t = one_once (c == t)
    takers_once (T c e i) h t = one_once (c == t)
    takers_once (F c e i) h t = one_once (c == t)
    takers_once (X a) h t = one_once (a == t)
    takers_once (B u v) h t = one_once (u == t)
    takers_once Z h t = let k = others_times h t in let r = go (0 == t) refl (is_other x.p (image_world x w) t) refl in omega (arith, k, r)
      where
        go : (b : Bool) → (0 == t) ≡ b → (a : Bool) → is_other x.p (image_world x w) t ≡ a → (if a then 1 else 0) + ((if b then 1 else 0) + 0) ≤ 1
        go true q true r =
            let p = and_parts (nat_lt 0 t) (nat_lt t x.p.size && is_live (image x w.tasks t).standing) r in
            let l : 0 < t = ltb-true 0 t p.0 in
            let e : 0 ≡ t = eqb-true 0 t q in absurd (omega (arith, l, e))
        go true q false r = omega arith
        go false q true r = omega arith
        go false q false r = omega arith

    member_one : (a t : ℕ) → member t (a ∷ []) ≡ true → t ≡ a
    member_one a t h = ⊎_elim (λ k. eqb-true t a k) (λ k. absurd (true≢false (sym k))) (or_cases (t == a) false h)

    -- those of the end of the program
    last_taker : x.progress.admits (after_all x past) Z ≡ true → (t : ℕ) → member t (takers x.progress x.p.owner (after_all x past) Z) ≡ true → (t ≡ 0) ⊎ (is_other x.p (image_world x w) t ≡ true)
    last_taker h t m = go (0 == t) refl (is_other x.p (image_world x w) t) refl
        (let k = others_times h t in let r = member_times t (takers x.progress x.p.owner (after_all x past) Z) m in omega (arith, k, r))
      where
        go : (b : Bool) → (0 == t) ≡ b → (a : Bool) → is_other x.p (image_world x w) t ≡ a → 1 ≤ (if a then 1 else 0) + ((if b then 1 else 0) + 0) → (t ≡ 0) ⊎ (is_other x.p (image_world x w) t ≡ true)
        go true q a r l = inl (sym (eqb-true 0 t q))
        go false q true r l = inr r
        go false q false r l = absurd (omega (arith, l))

    -- each is free, and needed by the event
    pub taker_free : (e : Event) → x.progress.admits (after_all x past) e ≡ true → happens x.p (image x w.tasks) e ≡ true → (t : ℕ) → member t (takers x.progress x.p.owner (after_all x past) e) ≡ true →
        ((image x w.tasks t).standing ≡ Live) × (needs x.p e t ≡ true)
    taker_free (R c e i) h holds t m =
        let a = reached_admitted x past (image_world x w) reached (R c e i) runs h in
        ⊎_elim (λ k. (ap (λ v. (image x w.tasks v).standing) (eqb-true t c k) ∙ a.0, or_left (t == c) (t == x.p.owner e) k))
        (λ k. let q = member_one (x.p.owner e) t k in
        (ap (λ v. (image x w.tasks v).standing) q ∙ a.1, or_right (t == c) (t == x.p.owner e) (ap (λ v. t == v) (sym q) ∙ equal_self t)))
        (or_cases (t == c) (member t (x.p.owner e ∷ [])) m)
    taker_free (E a) h holds t m = let q = member_one a t m in
        (ap (λ v. (image x w.tasks v).standing) q ∙ (reached_admitted x past (image_world x w) reached (E a) runs h).0, ap (λ v. t == v) (sym q) ∙ equal_self t)
    taker_free (S a) h holds t m = let q = member_one a t m in
        (ap (λ v. (image x w.tasks v).standing) q ∙ reached_admitted x past (image_world x w) reached (S a) runs h, ap (λ v. t == v) (sym q) ∙ equal_self t)
    taker_free (D a k) h holds t m = let q = member_one a t m in
        (ap (λ v. (image x w.tasks v).standing) q ∙ reached_admitted x past (image_world x w) reached (D a k) runs h, ap (λ v. t == v) (sym q) ∙ equal_self t)
    taker_free (C c e i) h holds t m = let q = member_one c t m in
        (ap (λ v. (image x w.tasks v).standing) q ∙ (reached_admitted x past (image_world x w) reached (C c e i) runs h).0, ap (λ v. t == v) (sym q) ∙ equal_self t)
    taker_free (T c e i) h holds t m = let q = member_one c t m in
        (ap (λ v. (image x w.tasks v).standing) q ∙ (reached_admitted x past (image_world x w) reached (T c e i) runs h).0, ap (λ v. t == v) (sym q) ∙ equal_self t)
    taker_free (F c e i) h holds t m = let q = member_one c t m in
        (ap (λ v. (image x w.tasks v).standing) q ∙ (reached_admitted x past (image_world x w) reached (F c e i) runs h).0, ap (λ v. t == v) (sym q) ∙ equal_self t)
    taker_free (X a) h holds t m = let q = member_one a t m in
        (ap (λ v. (image x w.tasks v).standing) q ∙ (reached_admitted x past (image_world x w) reached (X a) runs h).0, ap (λ v. t == v) (sym q) ∙ equal_self t)
    taker_free (B u v) h holds t m = let q = member_one u t m in
        (ap (λ z. (image x w.tasks z).standing) q ∙ reached_admitted x past (image_world x w) reached (B u v) runs h, ap (λ z. t == z) (sym q) ∙ equal_self t)
    taker_free Z h holds t m = ⊎_elim
        (λ q. (ap (λ v. (image x w.tasks v).standing) q ∙ main, le-leb t (pred x.p.size) (omega (arith, q))))
        (λ r.
        let a = and_parts (nat_lt 0 t) (nat_lt t x.p.size && is_live (image x w.tasks t).standing) r in
        let b = and_parts (nat_lt t x.p.size) (is_live (image x w.tasks t).standing) a.1 in
        let l : t < x.p.size = ltb-true t x.p.size b.0 in
        (is-Live (image x w.tasks t).standing b.1, le-leb t (pred x.p.size) (omega (arith, l))))
        (last_taker h t m)
      where
        main : (image x w.tasks 0).standing ≡ Live
        main = is-Live (image x w.tasks 0).standing (and_parts (is_live (image x w.tasks 0).standing) (is_end (x.p.ops.offer (image x w.tasks 0).local))
            (and_parts (offers x.p.ops is_end (image x w.tasks 0)) (others_end x.p.ops (image x w.tasks) (pred x.p.size)) holds).0).0

    pub taker_rests : (e : Event) → x.progress.admits (after_all x past) e ≡ true → happens x.p (image x w.tasks) e ≡ true → (t : ℕ) → member t (takers x.progress x.p.owner (after_all x past) e) ≡ true →
        ((image x w.tasks t).standing ≡ Live) × (x.p.ops.can_step (image x w.tasks t).local ≡ false)
    taker_rests e h holds t m =
        let f = taker_free e h holds t m in
        (f.0, happens_rest x.p x.IsProper x.lawful e (image x w.tasks) holds t f.1 f.0)

  -- ---- the permits are given

  abbrev RestAll : (ℕ → Seat x.L) → List ℕ → Type 0
  RestAll tasks more = (t : ℕ) → member t more ≡ true → ((tasks t).standing ≡ Live) × (x.p.ops.can_step (tasks t).local ≡ false)

  pub grant : (past rest : List Event) (e : Event) (tail : List Event) (more given : List ℕ) (w : World (Copy x.L)) → Inv x past rest (Giving e tail given more) w →
      RestAll (image x w.tasks) more → ((t : ℕ) → times t (in_order given more) ≤ 1) → (all : List ℕ) × Led x past rest (Giving e tail all []) w
  grant past rest e tail [] given w inv ready once = (given, led_here x inv)
  grant past rest e tail (t ∷ more) given w inv ready once =
      let r = grant past rest e tail more (t ∷ given) w2 v.inv (λ u m. rest_all u (or_right (u == t) (member u more) m)) once in
      (r.0, led_on x u (led_on x v r.1))
    where
      here : ((image x w.tasks t).standing ≡ Live) × (x.p.ops.can_step (image x w.tasks t).local ≡ false)
      here = ready t (or_left (t == t) (member t more) (equal_self t))

      m : t < x.p.size
      m = live_below x w t here.0

      not_given : member t given ≡ false
      not_given = false_from_ne_true (member t given) (λ k.
          let a = member_times t given k in
          let b = once t in
          let c = times_order t given (t ∷ more) in
          let d : ◌≡◌ {A = ℕ} (if t == t then 1 else 0) 1 = ap (λ b. if b then 1 else 0) (equal_self t) in
          omega (arith, a, b, c, d))

      based : (l : x.L) × (w.tasks t ≡ live (Based t l))
      based = away_based x t (w.tasks t) (subst (λ b. SeatAt x (if b then Holds (permit_of e) else Away) t (w.tasks t)) not_given (inv.seats t m))
          (ap (λ (y : Seat x.L). y.standing) (sym (image_at x t (w.tasks t) m)) ∙ here.0)

      rests : x.p.ops.can_step based.0 ≡ false
      rests = ap (λ (y : Seat x.L). x.p.ops.can_step y.local) (sym (image_at x t (w.tasks t) m ∙ ap (image_seat x) based.1)) ∙ here.1

      u : Unseen x past rest (Asked e tail given t more) w (R t x.n.go (pos t))
      u = ask x past rest e tail given t more w inv based.0 m based.1 rests

      w1 : World (Copy x.L)
      w1 = moved (twin x) w (Happen (R t x.n.go (pos t)))

      v : Unseen x past rest (Giving e tail (t ∷ given) more) w1 (E (control x))
      v = take x past rest e tail given t more w1 u.inv

      w2 : World (Copy x.L)
      w2 = moved (twin x) w1 (Happen (E (control x)))

      rest_all : RestAll (image x w2.tasks) (t ∷ more)
      rest_all = subst (λ g. RestAll g (t ∷ more)) (sym (v.same ∙ u.same)) ready

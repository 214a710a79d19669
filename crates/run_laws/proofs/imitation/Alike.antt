-- Two programs side by side: each free task reaches what the original's is, what can happen to the one can happen to the other, and an event does the
-- same to both.
use Rattle.std.proofs.Common.{◌≡◌, ℕ, zero, suc, ◌+◌, ◌<◌, arith, Bool, true, false, not, ◌&&◌, ◌||◌, ◌==◌, if◌then◌else◌, List, ◌∷◌, refl, sym, ap, ◌∙◌, subst, ⊎_elim, true≢false, subst₂}
use Rattle.std.specs.Prelude.{ℤ, pred}
use Rattle.std.proofs.lemmas.Bool.{eqb-true, and_parts, cases_Bool, or_left, or_right, or_cases}
use Rattle.event_machine.specs.declared.Standing.{Standing}
use Rattle.event_machine.specs.declared.Standing.TheVariants.{Live, Waiting, Queued, Served, Completed, Killed}
use Rattle.event_machine.specs.declared.Event.{Event}
use Rattle.event_machine.specs.declared.Event.TheVariants.{R, E, S, D, C, T, F, X, B, Z}
use Rattle.event_machine.specs.Offers.{Offer, Nothing, Finishes, calls_in, is_any_form, is_conditional, is_timed, waits_with, is_finish, is_end, opens, is_else, is_delay, is_terminate}
use Rattle.event_machine.specs.States.{Ops, Seat, live, completed, is_live, is_closed, is_completed}
use Rattle.event_machine.specs.Effects.{fallen}
use Rattle.event_machine.specs.Programs.{Program, numbered}
use Rattle.event_machine.specs.Soundness.{times}
use Rattle.event_machine.specs.Worlds.{World, Happen, can_move, happens, acted, offers, others_end, aborts}
use Rattle.event_machine.proofs.Basics.{both, seat_path}
use Rattle.event_machine.proofs.Standings.{is-Live}
use Rattle.event_machine.proofs.Offering.{calls_waits, finish_is}
use Rattle.run_laws.proofs.replaying.Facts.{put, let_go}
use Rattle.run_laws.proofs.replaying.Silently.{met_is}
use Rattle.run_laws.proofs.replaying.Parting.{parted_is}
use Rattle.run_laws.proofs.replaying.Aborting.{fell, abort_closed, abort_open, abort_self}
use Rattle.run_laws.specs.imitation.Imitations.{Original, IsComeTo, local_at, ReachesIn, Reaches, Imitates, imitation}

module _ (x : Original) {K : Type 0} (ops : Ops K) (out : K → List ℕ) (Meets : K → x.L → Type 0) (Fine : K → Type 0) (imitates : Imitates x ops out Meets Fine) where
  abbrev pub program : Program K
  program = imitation x ops out Meets Fine

  -- a task that is no more has written the same, where it is one of the program
  abbrev pub LocalsAt : ℕ → Standing → K → x.L → Type 0
  LocalsAt t Live k l = Reaches x ops out Meets Fine k l
  LocalsAt t Waiting k l = ⊥
  LocalsAt t Queued k l = ⊥
  LocalsAt t (Served by abnormal) k l = Meets k l
  LocalsAt t Completed k l = t < x.p.size → out k ≡ x.out l
  LocalsAt t Killed k l = t < x.p.size → out k ≡ x.out l

  -- A task and the original's.
  pub record IsAlike (t : ℕ) (k : Seat K) (l : Seat x.L) : Type 0 where
    pub standing : k.standing ≡ l.standing
    pub locals : LocalsAt t l.standing k.local l.local

  abbrev pub AreAlike : (ℕ → Seat K) → (ℕ → Seat x.L) → Type 0
  AreAlike tasks others = (t : ℕ) → IsAlike t (tasks t) (others t)

  -- ---- one task

  pub reaches_output : (n : ℕ) (k : K) (l : x.L) → ReachesIn x ops out Meets Fine n k l → out k ≡ x.out l
  reaches_output zero k l h = imitates.output k l h
  reaches_output (suc n) k l h = sym h.2 ∙ reaches_output n (ops.stepped k) l h.3

  pub locals_output : (t : ℕ) (s : Standing) (k : K) (l : x.L) → LocalsAt t s k l → t < x.p.size → out k ≡ x.out l
  locals_output t Live k l h m = reaches_output h.0 k l h.1
  locals_output t Waiting k l h m = absurd h
  locals_output t Queued k l h m = absurd h
  locals_output t (Served by abnormal) k l h m = imitates.output k l h
  locals_output t Completed k l h m = h m
  locals_output t Killed k l h m = h m

  pub reaches_rests : (k : K) (l : x.L) → Reaches x ops out Meets Fine k l → ops.can_step k ≡ false → Meets k l
  reaches_rests k l h rests = go h.0 h.1
    where
      go : (n : ℕ) → ReachesIn x ops out Meets Fine n k l → Meets k l
      go zero r = r
      go (suc n) r = absurd (true≢false (sym r.0 ∙ rests))

  pub alike_reaches : (t : ℕ) (k : Seat K) (l : Seat x.L) → IsAlike t k l → l.standing ≡ Live → Reaches x ops out Meets Fine k.local l.local
  alike_reaches t k l a free = subst (λ s. LocalsAt t s k.local l.local) free a.locals

  pub alike_meets : (t : ℕ) (k : Seat K) (l : Seat x.L) → IsAlike t k l → k.standing ≡ Live → ops.can_step k.local ≡ false → Meets k.local l.local
  alike_meets t k l a free rests = reaches_rests k.local l.local (alike_reaches t k l a (sym a.standing ∙ free)) rests

  pub served_meets : (t : ℕ) (k : Seat K) (l : Seat x.L) (by : ℕ) (abnormal : Bool) → IsAlike t k l → l.standing ≡ Served by abnormal → Meets k.local l.local
  served_meets t k l by abnormal a q = subst (λ s. LocalsAt t s k.local l.local) q a.locals

  module _ (w : World x.L) (come : IsComeTo x w) (runs : w.ended ≡ false) where
    -- where a task has nothing to do it meets one of the original that rests
    pub meets_rests : (t : ℕ) (k : K) → Meets k (local_at w t) → (w.tasks t).standing ≡ Live → ops.can_step k ≡ false → x.p.ops.can_step (local_at w t) ≡ false
    meets_rests t k h free rests = go (x.p.ops.can_step (local_at w t)) refl
      where
        go : (b : Bool) → x.p.ops.can_step (local_at w t) ≡ b → x.p.ops.can_step (local_at w t) ≡ false
        go true q = absurd (true≢false (sym (imitates.steps w come t k h (both (ap not runs) (both (ap is_live free) q))).0 ∙ rests))
        go false q = q

    module _ (tasks : ℕ → Seat K) (alike : AreAlike tasks w.tasks) where
      -- what a test on its offer says
      pub record Offered (t : ℕ) (test : Offer → Bool) : Type 0 where
        pub free : (tasks t).standing ≡ Live
        pub meets : Meets (tasks t).local (local_at w t)
        pub offered : offers x.p.ops test (w.tasks t) ≡ true

      pub offered_by : (test : Offer → Bool) → test Nothing ≡ false → (t : ℕ) → offers ops test (tasks t) ≡ true → Offered t test
      offered_by test none t h = record {
        free = free;
        meets = meets;
        offered = both (ap is_live free') (ap test (sym (imitates.offers w come t (tasks t).local meets free' (meets_rests t (tasks t).local meets free' rests)).1) ∙ parts.1);
      }
        where
          parts : (is_live (tasks t).standing ≡ true) × (test (ops.offer (tasks t).local) ≡ true)
          parts = and_parts (is_live (tasks t).standing) (test (ops.offer (tasks t).local)) h

          free : (tasks t).standing ≡ Live
          free = is-Live (tasks t).standing parts.0

          free' : (w.tasks t).standing ≡ Live
          free' = sym (alike t).standing ∙ free

          rests : ops.can_step (tasks t).local ≡ false
          rests = go (ops.can_step (tasks t).local) refl
            where
              go : (b : Bool) → ops.can_step (tasks t).local ≡ b → ops.can_step (tasks t).local ≡ false
              go true q = absurd (true≢false (sym parts.1 ∙ ap test (imitates.rests (tasks t).local q) ∙ none))
              go false q = q

          meets : Meets (tasks t).local (local_at w t)
          meets = alike_meets t (tasks t) (w.tasks t) (alike t) free rests

      -- ---- conditions

      offer_too : (test : Offer → Bool) → test Nothing ≡ false → (t : ℕ) → offers ops test (tasks t) ≡ true → offers x.p.ops test (w.tasks t) ≡ true
      offer_too test none t h = (offered_by test none t h).offered

      others_too : (n : ℕ) → others_end ops tasks n ≡ true → others_end x.p.ops w.tasks n ≡ true
      others_too zero h = refl
      others_too (suc n) h =
          let k = and_parts (others_end ops tasks n) (is_completed (tasks (suc n)).standing || offers ops (waits_with is_terminate) (tasks (suc n))) h in
          both (others_too n k.0) (⊎_elim
          (λ c. or_left (is_completed (w.tasks (suc n)).standing) (offers x.p.ops (waits_with is_terminate) (w.tasks (suc n))) (ap is_completed (sym (alike (suc n)).standing) ∙ c))
          (λ c. or_right (is_completed (w.tasks (suc n)).standing) (offers x.p.ops (waits_with is_terminate) (w.tasks (suc n))) (offer_too (waits_with is_terminate) refl (suc n) c))
          (or_cases (is_completed (tasks (suc n)).standing) (offers ops (waits_with is_terminate) (tasks (suc n))) k.1))

      two : {a b c d : Bool} → (a ≡ true → c ≡ true) → (b ≡ true → d ≡ true) → (a && b) ≡ true → (c && d) ≡ true
      two {a} {b} {c} {d} f g h = let k = and_parts a b h in both (f k.0) (g k.1)

      -- What can happen to the tasks can happen to the original's.
      pub happens_too : (e : Event) → happens program tasks e ≡ true → happens x.p w.tasks e ≡ true
      happens_too (R c e i) h = two (offer_too (calls_in is_any_form e i) refl c) (offer_too (waits_with (opens e i)) refl (x.p.owner e)) h
      happens_too (E a) h = offer_too is_finish refl a h
      happens_too (S a) h = offer_too (waits_with is_else) refl a h
      happens_too (D a k) h = offer_too (waits_with (is_delay k)) refl a h
      happens_too (C c e i) h = two (offer_too (calls_in is_conditional e i) refl c) (λ q. ap (λ s. not (is_closed s)) (sym (alike (x.p.owner e)).standing) ∙ q) h
      happens_too (T c e i) h = two (offer_too (calls_in is_timed e i) refl c) (λ q. ap (λ s. not (is_closed s)) (sym (alike (x.p.owner e)).standing) ∙ q) h
      happens_too (F c e i) h = two (offer_too (calls_in is_any_form e i) refl c) (λ q. ap is_closed (sym (alike (x.p.owner e)).standing) ∙ q) h
      happens_too (X a) h = two (λ q. q) (offer_too is_end refl a) h
      happens_too (B t v) h = offer_too (aborts v) refl t h
      happens_too Z h = two (offer_too is_end refl 0) (others_too (pred x.p.size)) h

  -- ---- writes

  pub alike_put : (tasks : ℕ → Seat K) (others : ℕ → Seat x.L) (t : ℕ) (k : Seat K) (l : Seat x.L) → AreAlike tasks others → IsAlike t k l → AreAlike (put tasks t k) (put others t l)
  alike_put tasks others t k l alike here u = go (u == t) refl
    where
      go : (b : Bool) → (u == t) ≡ b → IsAlike u (if b then k else tasks u) (if b then l else others u)
      go true q = subst (λ v. IsAlike v k l) (sym (eqb-true u t q)) here
      go false q = alike u

  -- a free task at what the original's is
  pub freed_alike : (tasks : ℕ → Seat K) (others : ℕ → Seat x.L) (t : ℕ) (k : K) (l : x.L) → AreAlike tasks others → Reaches x ops out Meets Fine k l →
      AreAlike (put tasks t (live k)) (put others t (live l))
  freed_alike tasks others t k l alike here = alike_put tasks others t (live k) (live l) alike (record { standing = refl; locals = here })

  let_go_alike : (t : ℕ) (f : K → K) (g : x.L → x.L) (a : ℕ) (k : Seat K) (l : Seat x.L) → IsAlike t k l →
      (l.standing ≡ Served a false → Meets k.local l.local → Reaches x ops out Meets Fine (f k.local) (g l.local)) → IsAlike t (let_go f a k) (let_go g a l)
  let_go_alike t f g a k l alike goes = subst (λ s. IsAlike t (let_go f a (record { local = k.local; standing = s })) (let_go g a l)) (sym alike.standing) (go l.standing k.local l.local alike.locals goes)
    where
      go : (s : Standing) (j : K) (m : x.L) → LocalsAt t s j m → (s ≡ Served a false → Meets j m → Reaches x ops out Meets Fine (f j) (g m)) →
          IsAlike t (let_go f a (record { local = j; standing = s })) (let_go g a (record { local = m; standing = s }))
      go Live j m h r = record { standing = refl; locals = h }
      go Waiting j m h r = absurd h
      go Queued j m h r = absurd h
      go (Served by abnormal) j m h r = inner (by == a) abnormal refl (λ q d. r (ap (λ v. Served v abnormal) (eqb-true by a q) ∙ ap (Served a) d) h) refl
        where
          inner : (b c : Bool) → (by == a) ≡ b → ((by == a) ≡ true → abnormal ≡ false → Reaches x ops out Meets Fine (f j) (g m)) → abnormal ≡ c →
              IsAlike t (if b then (if c then completed j else live (f j)) else record { local = j; standing = Served by abnormal })
              (if b then (if c then completed m else live (g m)) else record { local = m; standing = Served by abnormal })
          inner true true q d e = record { standing = refl; locals = λ below. imitates.output j m h }
          inner true false q d e = record { standing = refl; locals = d q e }
          inner false c q d e = record { standing = refl; locals = h }
      go Completed j m h r = record { standing = refl; locals = h }
      go Killed j m h r = record { standing = refl; locals = h }

  falls_alike : (t : ℕ) (closing : Standing) (k : Seat K) (l : Seat x.L) → ((j : K) (m : x.L) → (t < x.p.size → out j ≡ x.out m) → LocalsAt t closing j m) → IsAlike t k l →
      IsAlike t (record { local = k.local; standing = fallen closing k.standing }) (record { local = l.local; standing = fallen closing l.standing })
  falls_alike t closing k l closes alike = record { standing = ap (fallen closing) alike.standing; locals = go l.standing alike.locals }
    where
      go : (s : Standing) → LocalsAt t s k.local l.local → LocalsAt t (fallen closing s) k.local l.local
      go Live h = closes k.local l.local (λ below. reaches_output h.0 k.local l.local h.1)
      go Waiting h = absurd h
      go Queued h = absurd h
      go (Served by abnormal) h = h
      go Completed h = h
      go Killed h = h

  -- ---- events

  module _ (tasks : ℕ → Seat K) (w : World x.L) (come : IsComeTo x w) (alike : AreAlike tasks w.tasks) where
    -- a rendezvous starts
    met_alike : (c e : ℕ) (i : ℤ) → (c == x.p.owner e) ≡ false → Meets (tasks c).local (local_at w c) →
        Reaches x ops out Meets Fine (ops.accepted e i c (tasks c).local (tasks (x.p.owner e)).local) (x.p.ops.accepted e i c (local_at w c) (local_at w (x.p.owner e))) →
        AreAlike (acted (numbered program) tasks (R c e i)) (acted (numbered x.p) w.tasks (R c e i))
    met_alike c e i other meets reaches =
        let o : ℕ = x.p.owner e in
        subst₂ AreAlike
        (sym (met_is tasks c o (ops.accepted e i c (tasks c).local (tasks o).local) other))
        (sym (met_is w.tasks c o (x.p.ops.accepted e i c (local_at w c) (local_at w o)) other))
        (alike_put (put tasks o (live (ops.accepted e i c (tasks c).local (tasks o).local))) (put w.tasks o (live (x.p.ops.accepted e i c (local_at w c) (local_at w o)))) c
        (record { local = (tasks c).local; standing = Served o false }) (record { local = local_at w c; standing = Served o false })
        (freed_alike tasks w.tasks o (ops.accepted e i c (tasks c).local (tasks o).local) (x.p.ops.accepted e i c (local_at w c) (local_at w o)) alike reaches)
        (record { standing = refl; locals = meets }))

    -- one task acts
    did_alike : (a : ℕ) (f : K → K) (g : x.L → x.L) → Reaches x ops out Meets Fine (f (tasks a).local) (g (local_at w a)) →
        AreAlike (put tasks a (live (f (tasks a).local))) (put w.tasks a (live (g (local_at w a))))
    did_alike a f g h = freed_alike tasks w.tasks a (f (tasks a).local) (g (local_at w a)) alike h

    -- the caller of a task at the end of an accept body: it is another task, and is served by it
    record HasCaller (a : ℕ) : Type 0 where
      caller : ℕ
      outer : List ℕ
      has : x.p.ops.callers (local_at w a) ≡ caller ∷ outer
      other : (caller == a) ≡ false

    has_caller : (a : ℕ) → (w.tasks a).standing ≡ Live → x.p.ops.offer (local_at w a) ≡ Finishes → HasCaller a
    has_caller a free finishes = record { caller = f.0; outer = x.p.ops.callers (x.p.ops.finished (local_at w a)); has = f.2; other = apart (f.0 == a) refl }
      where
        open' : is_closed (w.tasks a).standing ≡ false
        open' = ap is_closed free

        f : (c : ℕ) × x.IsProper (x.p.ops.finished (local_at w a)) × (x.p.ops.callers (local_at w a) ≡ c ∷ x.p.ops.callers (x.p.ops.finished (local_at w a)))
        f = x.lawful.finished (local_at w a) (come.sound.proper a open') finishes

        none : times a (x.p.ops.callers (local_at w a)) ≡ 0
        none = come.sound.callers a a open' ∙ ap (λ b. if b then 1 else 0) (come.sound.itself a)

        apart : (b : Bool) → (f.0 == a) ≡ b → (f.0 == a) ≡ false
        apart true q =
            let one : 1 + times a (x.p.ops.callers (x.p.ops.finished (local_at w a))) ≡ 0 =
            sym (ap (λ b. (if b then 1 else 0) + times a (x.p.ops.callers (x.p.ops.finished (local_at w a)))) q) ∙ sym (ap (times a) f.2) ∙ none in
            absurd (omega (arith, one))
        apart false q = q

    end_alike : (a : ℕ) → Meets (tasks a).local (local_at w a) → (w.tasks a).standing ≡ Live → x.p.ops.offer (local_at w a) ≡ Finishes → can_move x.p w (Happen (E a)) ≡ true →
        AreAlike (acted (numbered program) tasks (E a)) (acted (numbered x.p) w.tasks (E a))
    end_alike a meets free finishes can =
        let h : HasCaller a = has_caller a free finishes in
        let c : ℕ = h.caller in
        subst₂ AreAlike
        (sym (parted_is program tasks a (tasks a).local c h.outer (seat_path refl ((alike a).standing ∙ free)) (imitates.callers w come a (tasks a).local meets can ∙ h.has) h.other))
        (sym (parted_is x.p w.tasks a (local_at w a) c h.outer (seat_path refl free) h.has h.other))
        (alike_put (put tasks a (live (ops.finished (tasks a).local))) (put w.tasks a (live (x.p.ops.finished (local_at w a)))) c
        (let_go (ops.resumed (tasks a).local) a (tasks c)) (let_go (x.p.ops.resumed (local_at w a)) a (w.tasks c))
        (freed_alike tasks w.tasks a (ops.finished (tasks a).local) (x.p.ops.finished (local_at w a)) alike (imitates.finished w come a (tasks a).local meets can))
        (let_go_alike c (ops.resumed (tasks a).local) (x.p.ops.resumed (local_at w a)) a (tasks c) (w.tasks c) (alike c)
        (λ served there. imitates.resumed w come a c h.outer (tasks c).local (tasks a).local h.has served there meets can)))

    -- an abort
    abort_alike : (t v : ℕ) → Meets (tasks t).local (local_at w t) → (w.tasks t).standing ≡ Live → can_move x.p w (Happen (B t v)) ≡ true →
        AreAlike (acted (numbered program) tasks (B t v)) (acted (numbered x.p) w.tasks (B t v))
    abort_alike t v meets free can = ⊎_elim itself (λ other. ⊎_elim (of_closed other) (of_other other) (cases_Bool (is_closed (w.tasks v).standing))) (cases_Bool (v == t))
      where
        closed_too : (b : Bool) → is_closed (w.tasks v).standing ≡ b → is_closed (tasks v).standing ≡ b
        closed_too b q = ap is_closed (alike v).standing ∙ q

        -- the tasks after the victim's callers are let go
        fell_alike : (ks : ℕ → Seat K) (ls : ℕ → Seat x.L) (closing : Standing) → ((j : K) (m : x.L) → (v < x.p.size → out j ≡ x.out m) → LocalsAt v closing j m) → AreAlike ks ls →
            ((u : ℕ) → (ls u).standing ≡ Served v false → Meets (ks u).local (ls u).local → Reaches x ops out Meets Fine (ops.raised (ks u).local) (x.p.ops.raised (ls u).local)) →
            AreAlike (fell ops.raised ks v closing) (fell x.p.ops.raised ls v closing)
        fell_alike ks ls closing closes same goes =
            alike_put (λ u. let_go ops.raised v (ks u)) (λ u. let_go x.p.ops.raised v (ls u)) v
            (record { local = (let_go ops.raised v (ks v)).local; standing = fallen closing (let_go ops.raised v (ks v)).standing })
            (record { local = (let_go x.p.ops.raised v (ls v)).local; standing = fallen closing (let_go x.p.ops.raised v (ls v)).standing })
            gone (falls_alike v closing (let_go ops.raised v (ks v)) (let_go x.p.ops.raised v (ls v)) closes (gone v))
          where
            gone : (u : ℕ) → IsAlike u (let_go ops.raised v (ks u)) (let_go x.p.ops.raised v (ls u))
            gone u = let_go_alike u ops.raised x.p.ops.raised v (ks u) (ls u) (same u) (goes u)

        lets_go : (u : ℕ) → (w.tasks u).standing ≡ Served v false → Meets (tasks u).local (local_at w u) → Reaches x ops out Meets Fine (ops.raised (tasks u).local) (x.p.ops.raised (local_at w u))
        lets_go u served there = imitates.let_go w come t v u (tasks u).local there served can

        itself : (v == t) ≡ true → AreAlike (acted (numbered program) tasks (B t v)) (acted (numbered x.p) w.tasks (B t v))
        itself self =
            let open' : is_closed (w.tasks v).standing ≡ false = ap (λ u. is_closed (w.tasks u).standing) (eqb-true v t self) ∙ ap is_closed free in
            subst₂ AreAlike (sym (abort_self program tasks t v (closed_too false open') self)) (sym (abort_self x.p w.tasks t v open' self))
            (fell_alike tasks w.tasks Completed (λ j m h. h) alike lets_go)

        passing : (v == t) ≡ false → AreAlike (put tasks t (live (ops.passed (tasks t).local))) (put w.tasks t (live (x.p.ops.passed (local_at w t))))
        passing other = did_alike t ops.passed x.p.ops.passed (imitates.passed w come t v (tasks t).local meets can other)

        of_closed : (v == t) ≡ false → is_closed (w.tasks v).standing ≡ true → AreAlike (acted (numbered program) tasks (B t v)) (acted (numbered x.p) w.tasks (B t v))
        of_closed other closed =
            subst₂ AreAlike (sym (abort_closed program tasks t v (closed_too true closed) other)) (sym (abort_closed x.p w.tasks t v closed other)) (passing other)

        of_other : (v == t) ≡ false → is_closed (w.tasks v).standing ≡ false → AreAlike (acted (numbered program) tasks (B t v)) (acted (numbered x.p) w.tasks (B t v))
        of_other other open' =
            subst₂ AreAlike (sym (abort_open program tasks t v (closed_too false open') other)) (sym (abort_open x.p w.tasks t v open' other))
            (fell_alike (put tasks t (live (ops.passed (tasks t).local))) (put w.tasks t (live (x.p.ops.passed (local_at w t)))) Killed (λ j m h. h) (passing other) goes)
          where
            goes : (u : ℕ) → (put w.tasks t (live (x.p.ops.passed (local_at w t))) u).standing ≡ Served v false →
                Meets (put tasks t (live (ops.passed (tasks t).local)) u).local (put w.tasks t (live (x.p.ops.passed (local_at w t))) u).local →
                Reaches x ops out Meets Fine (ops.raised (put tasks t (live (ops.passed (tasks t).local)) u).local) (x.p.ops.raised (put w.tasks t (live (x.p.ops.passed (local_at w t))) u).local)
            goes u = go (u == t)
              where
                unserved : Live ≡ Served v false → ⊥
                unserved q = true≢false (ap is_live q)

                go : (b : Bool) → (if b then live (x.p.ops.passed (local_at w t)) else w.tasks u).standing ≡ Served v false →
                    Meets (if b then live (ops.passed (tasks t).local) else tasks u).local (if b then live (x.p.ops.passed (local_at w t)) else w.tasks u).local →
                    Reaches x ops out Meets Fine (ops.raised (if b then live (ops.passed (tasks t).local) else tasks u).local) (x.p.ops.raised (if b then live (x.p.ops.passed (local_at w t)) else w.tasks u).local)
                go true q there = absurd (unserved q)
                go false q there = lets_go u q there

    module _ (runs : w.ended ≡ false) where
      found : (test : Offer → Bool) → test Nothing ≡ false → (t : ℕ) → offers ops test (tasks t) ≡ true → Offered w come runs tasks alike t test
      found test none t h = offered_by w come runs tasks alike test none t h

      free_there : (test : Offer → Bool) (t : ℕ) → offers x.p.ops test (w.tasks t) ≡ true → ((w.tasks t).standing ≡ Live) × (test (x.p.ops.offer (local_at w t)) ≡ true)
      free_there test t h = let k = and_parts (is_live (w.tasks t).standing) (test (x.p.ops.offer (local_at w t))) h in (is-Live (w.tasks t).standing k.0, k.1)

      -- An event does the same to the tasks and to the original's.
      pub acts_alike : (e : Event) → happens program tasks e ≡ true → AreAlike (acted (numbered program) tasks e) (acted (numbered x.p) w.tasks e)
      acts_alike e h = acts e h (both (ap not runs) (happens_too w come runs tasks alike e h))
        where
          acts : (e : Event) → happens program tasks e ≡ true → can_move x.p w (Happen e) ≡ true → AreAlike (acted (numbered program) tasks e) (acted (numbered x.p) w.tasks e)
          acts (R c e i) h can =
              let k = and_parts (offers ops (calls_in is_any_form e i) (tasks c)) (offers ops (waits_with (opens e i)) (tasks (x.p.owner e))) h in
              let f = found (calls_in is_any_form e i) refl c k.0 in
              let g = found (waits_with (opens e i)) refl (x.p.owner e) k.1 in
              met_alike c e i (apart (c == x.p.owner e) refl (free_there (calls_in is_any_form e i) c f.offered).1 (free_there (waits_with (opens e i)) (x.p.owner e) g.offered).1) f.meets
              (imitates.accepted w come c e i (tasks c).local (tasks (x.p.owner e)).local f.meets g.meets can)
            where
              apart : (b : Bool) → (c == x.p.owner e) ≡ b → calls_in is_any_form e i (x.p.ops.offer (local_at w c)) ≡ true → waits_with (opens e i) (x.p.ops.offer (local_at w (x.p.owner e))) ≡ true →
                  (c == x.p.owner e) ≡ false
              apart true q calls waits = absurd (calls_waits is_any_form (opens e i) e i (x.p.ops.offer (local_at w c)) calls
                  (subst (λ v. waits_with (opens e i) (x.p.ops.offer (local_at w v)) ≡ true) (sym (eqb-true c (x.p.owner e) q)) waits))
              apart false q calls waits = q
          acts (E a) h can =
              let f = found is_finish refl a h in
              let g = free_there is_finish a f.offered in
              end_alike a f.meets g.0 (finish_is (x.p.ops.offer (local_at w a)) g.1) can
          acts (S a) h can = did_alike a ops.took_else x.p.ops.took_else (imitates.took_else w come a (tasks a).local (found (waits_with is_else) refl a h).meets can)
          acts (D a k) h can = did_alike a (ops.took_delay k) (x.p.ops.took_delay k) (imitates.took_delay w come a k (tasks a).local (found (waits_with (is_delay k)) refl a h).meets can)
          acts (C c e i) h can =
              let k = and_parts (offers ops (calls_in is_conditional e i) (tasks c)) (not (is_closed (tasks (x.p.owner e)).standing)) h in
              did_alike c ops.took_else x.p.ops.took_else (imitates.call_else w come c e i (tasks c).local (found (calls_in is_conditional e i) refl c k.0).meets can)
          acts (T c e i) h can =
              let k = and_parts (offers ops (calls_in is_timed e i) (tasks c)) (not (is_closed (tasks (x.p.owner e)).standing)) h in
              did_alike c (ops.took_delay 1) (x.p.ops.took_delay 1) (imitates.expired w come c e i (tasks c).local (found (calls_in is_timed e i) refl c k.0).meets can)
          acts (F c e i) h can =
              let k = and_parts (offers ops (calls_in is_any_form e i) (tasks c)) (is_closed (tasks (x.p.owner e)).standing) h in
              did_alike c ops.raised x.p.ops.raised (imitates.failed w come c e i (tasks c).local (found (calls_in is_any_form e i) refl c k.0).meets can)
          acts (X a) h can = alike_put tasks w.tasks a (record { local = (tasks a).local; standing = Completed }) (record { local = local_at w a; standing = Completed }) alike
              (record { standing = refl; locals = locals_output a (w.tasks a).standing (tasks a).local (local_at w a) (alike a).locals })
          acts (B t v) h can =
              let f = found (aborts v) refl t h in
              abort_alike t v f.meets (free_there (aborts v) t f.offered).0 can
          acts Z h can = alike

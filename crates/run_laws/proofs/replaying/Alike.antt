-- A rewritten program beside its copy: each free task reaches what its copy is, and an event does the same to both.
use Rattle.std.proofs.Common.{◌≡◌, ℕ, zero, suc, Bool, true, false, not, ◌&&◌, ◌||◌, ◌==◌, if◌then◌else◌, List, [], ◌∷◌, refl, sym, ap, ◌∙◌, subst, ⊎_elim, true≢false, subst₂}
use Rattle.std.specs.Prelude.{ℤ, pos}
use Rattle.std.proofs.lemmas.Bool.{eqb-true, and_parts, cases_Bool, ne_eqb, or_left, or_right, or_cases}
use Rattle.event_machine.specs.declared.CallForm.TheVariants.{Plain}
use Rattle.event_machine.specs.declared.Standing.{Standing}
use Rattle.event_machine.specs.declared.Standing.TheVariants.{Live, Waiting, Queued, Served, Completed, Killed}
use Rattle.event_machine.specs.declared.Event.{Event}
use Rattle.event_machine.specs.declared.Event.TheVariants.{R, E, S, D, C, T, F, X, B, Z}
use Rattle.event_machine.specs.Offers.{Offer, Nothing, Finishes, Calls, calls_in, is_any_form, is_conditional, is_timed, waits_with, is_finish, is_end, opens, is_else, is_delay, is_terminate}
use Rattle.event_machine.specs.States.{Ops, Seat, live, completed, is_live, is_closed, is_completed, is_served_by}
use Rattle.event_machine.specs.Effects.{fallen}
use Rattle.event_machine.specs.Programs.{Program, numbered}
use Rattle.event_machine.specs.Worlds.{World, happens, acted, offers, others_end, aborts}
use Rattle.event_machine.proofs.Basics.{both, seat_path}
use Rattle.event_machine.proofs.Standings.{is-Live}
use Rattle.run_laws.specs.replaying.Permits.{ToMeet, ToFinish, ToElse, ToDelay, ToCallElse, ToExpire, ToFail, ToAbort, Go, Done, Join}
use Rattle.run_laws.specs.replaying.Copies.{Copy, Based, Holding, Saying, Controlling, Handing, is_own, written, copy_ops, copy_steps, copy_offer, copy_callers, copy_accepted, copy_finished, copy_resumed, copy_raised, copy_did}
use Rattle.run_laws.specs.replaying.Rewritings.{Setting, control, twin, IsFine, ReachesIn, Reaches, Imitates}
use Rattle.run_laws.proofs.replaying.Facts.{put, put_each, below_apart, let_go}
use Rattle.run_laws.proofs.replaying.Silently.{met_with, met_is}
use Rattle.run_laws.proofs.replaying.Parting.{parted_is}
use Rattle.run_laws.proofs.replaying.Aborting.{fell, abort_closed, abort_open, abort_self}
use Rattle.run_laws.proofs.replaying.Situations.{IsCalling, Met, MetGo, MetDone, MetBoth, Ended, EndedGo, EndedDone, EndedBoth, Failed, FailedCall, FailedJoin, Situation}

module _ (x : Setting) {K : Type 0} (ops : Ops K) (out : K → List ℕ) (Meets : K → Copy x.L → Type 0) (imitates : Imitates x ops out Meets) where
  -- the rewritten program
  abbrev pub rewritten : Program K
  rewritten = record { ops = ops; owner = x.owner; size = suc (suc x.p.size) }

  abbrev pub LocalsAt : Standing → K → Copy x.L → Type 0
  LocalsAt Live k m = Reaches x ops out Meets k m
  LocalsAt Waiting k m = ⊥
  LocalsAt Queued k m = ⊥
  LocalsAt (Served by abnormal) k m = Meets k m
  LocalsAt Completed k m = is_own m ≡ true → out k ≡ written x.out m
  LocalsAt Killed k m = is_own m ≡ true → out k ≡ written x.out m

  -- A task and its copy.
  pub record IsAlike (k : Seat K) (m : Seat (Copy x.L)) : Type 0 where
    pub standing : k.standing ≡ m.standing
    pub locals : LocalsAt m.standing k.local m.local

  abbrev pub AreAlike : (ℕ → Seat K) → (ℕ → Seat (Copy x.L)) → Type 0
  AreAlike tasks copies = (t : ℕ) → IsAlike (tasks t) (copies t)

  -- ---- one task

  pub reaches_output : (n : ℕ) (k : K) (m : Copy x.L) → ReachesIn x ops out Meets n k m → out k ≡ written x.out m
  reaches_output zero k m h = imitates.output k m h
  reaches_output (suc n) k m h = sym h.1 ∙ reaches_output n (ops.stepped k) m h.2

  pub locals_output : (s : Standing) (k : K) (m : Copy x.L) → LocalsAt s k m → is_own m ≡ true → out k ≡ written x.out m
  locals_output Live k m h own = reaches_output h.0 k m h.1
  locals_output Waiting k m h own = absurd h
  locals_output Queued k m h own = absurd h
  locals_output (Served by abnormal) k m h own = imitates.output k m h
  locals_output Completed k m h own = h own
  locals_output Killed k m h own = h own

  pub reaches_rests : (k : K) (m : Copy x.L) → Reaches x ops out Meets k m → ops.can_step k ≡ false → Meets k m
  reaches_rests k m h rests = go h.0 h.1
    where
      go : (n : ℕ) → ReachesIn x ops out Meets n k m → Meets k m
      go zero r = r
      go (suc n) r = absurd (true≢false (sym r.0 ∙ rests))

  pub alike_meets : (k : Seat K) (m : Seat (Copy x.L)) → IsAlike k m → k.standing ≡ Live → ops.can_step k.local ≡ false → Meets k.local m.local
  alike_meets k m a free rests = reaches_rests k.local m.local (subst (λ s. LocalsAt s k.local m.local) (sym a.standing ∙ free) a.locals) rests

  -- where it has nothing to do it meets a copy that rests
  pub meets_rests : (k : K) (m : Copy x.L) → Meets k m → (copy_steps x.p.ops x.n m ≡ true → IsFine x m) → ops.can_step k ≡ false → copy_steps x.p.ops x.n m ≡ false
  meets_rests k m h fine rests = go (copy_steps x.p.ops x.n m) refl
    where
      go : (b : Bool) → copy_steps x.p.ops x.n m ≡ b → copy_steps x.p.ops x.n m ≡ false
      go true q = absurd (true≢false (sym (imitates.steps k m h (fine q) q).0 ∙ rests))
      go false q = q

  -- where a copy is to make a step the original's state is fine
  abbrev pub StepsFine : Seat (Copy x.L) → Type 0
  StepsFine m = m.standing ≡ Live → copy_steps x.p.ops x.n m.local ≡ true → IsFine x m.local

  -- what a test on its offer says
  pub record Offered (k : Seat K) (m : Seat (Copy x.L)) (test : Offer → Bool) : Type 0 where
    pub free : k.standing ≡ Live
    pub meets : Meets k.local m.local
    pub offered : offers (copy_ops x.p.ops x.n) test m ≡ true

  pub offered_by : (test : Offer → Bool) → test Nothing ≡ false → (k : Seat K) (m : Seat (Copy x.L)) → IsAlike k m → StepsFine m → offers ops test k ≡ true → Offered k m test
  offered_by test none k m a fine h = record {
    free = free;
    meets = meets;
    offered = both (ap is_live (sym a.standing ∙ free)) (ap test (sym (imitates.offers k.local m.local meets (meets_rests k.local m.local meets (fine (sym a.standing ∙ free)) rests)).1) ∙ parts.1);
  }
    where
      parts : (is_live k.standing ≡ true) × (test (ops.offer k.local) ≡ true)
      parts = and_parts (is_live k.standing) (test (ops.offer k.local)) h

      free : k.standing ≡ Live
      free = is-Live k.standing parts.0

      rests : ops.can_step k.local ≡ false
      rests = go (ops.can_step k.local) refl
        where
          go : (b : Bool) → ops.can_step k.local ≡ b → ops.can_step k.local ≡ false
          go true q = absurd (true≢false (sym parts.1 ∙ ap test (imitates.rests k.local q) ∙ none))
          go false q = q

      meets : Meets k.local m.local
      meets = alike_meets k m a free rests

  -- ---- conditions

  module _ (tasks : ℕ → Seat K) (copies : ℕ → Seat (Copy x.L)) (alike : AreAlike tasks copies) (fine : (t : ℕ) → StepsFine (copies t)) where
    pub copies_offer : (test : Offer → Bool) → test Nothing ≡ false → (t : ℕ) → offers ops test (tasks t) ≡ true → offers (copy_ops x.p.ops x.n) test (copies t) ≡ true
    copies_offer test none t h = (offered_by test none (tasks t) (copies t) (alike t) (fine t) h).offered

    others_too : (n : ℕ) → others_end ops tasks n ≡ true → others_end (copy_ops x.p.ops x.n) copies n ≡ true
    others_too zero h = refl
    others_too (suc n) h =
        let k = and_parts (others_end ops tasks n) (is_completed (tasks (suc n)).standing || offers ops (waits_with is_terminate) (tasks (suc n))) h in
        both (others_too n k.0) (⊎_elim
        (λ c. or_left (is_completed (copies (suc n)).standing) (offers (copy_ops x.p.ops x.n) (waits_with is_terminate) (copies (suc n))) (ap is_completed (sym (alike (suc n)).standing) ∙ c))
        (λ c. or_right (is_completed (copies (suc n)).standing) (offers (copy_ops x.p.ops x.n) (waits_with is_terminate) (copies (suc n))) (copies_offer (waits_with is_terminate) refl (suc n) c))
        (or_cases (is_completed (tasks (suc n)).standing) (offers ops (waits_with is_terminate) (tasks (suc n))) k.1))

    two : {a b c d : Bool} → (a ≡ true → c ≡ true) → (b ≡ true → d ≡ true) → (a && b) ≡ true → (c && d) ≡ true
    two {a} {b} {c} {d} f g h = let k = and_parts a b h in both (f k.0) (g k.1)

    -- What can happen to the tasks can happen to their copies.
    pub happens_too : (e : Event) → happens rewritten tasks e ≡ true → happens (twin x) copies e ≡ true
    happens_too (R c e i) h = two (copies_offer (calls_in is_any_form e i) refl c) (copies_offer (waits_with (opens e i)) refl (x.owner e)) h
    happens_too (E a) h = copies_offer is_finish refl a h
    happens_too (S a) h = copies_offer (waits_with is_else) refl a h
    happens_too (D a k) h = copies_offer (waits_with (is_delay k)) refl a h
    happens_too (C c e i) h = two (copies_offer (calls_in is_conditional e i) refl c) (λ q. ap (λ s. not (is_closed s)) (sym (alike (x.owner e)).standing) ∙ q) h
    happens_too (T c e i) h = two (copies_offer (calls_in is_timed e i) refl c) (λ q. ap (λ s. not (is_closed s)) (sym (alike (x.owner e)).standing) ∙ q) h
    happens_too (F c e i) h = two (copies_offer (calls_in is_any_form e i) refl c) (λ q. ap is_closed (sym (alike (x.owner e)).standing) ∙ q) h
    happens_too (X a) h = two (λ q. q) (copies_offer is_end refl a) h
    happens_too (B t v) h = copies_offer (aborts v) refl t h
    happens_too Z h = two (copies_offer is_end refl 0) (others_too (suc x.p.size)) h

  -- ---- writes

  pub alike_put : (tasks : ℕ → Seat K) (copies : ℕ → Seat (Copy x.L)) (t : ℕ) (k : Seat K) (m : Seat (Copy x.L)) → AreAlike tasks copies → IsAlike k m → AreAlike (put tasks t k) (put copies t m)
  alike_put tasks copies t k m alike here u = go (u == t)
    where
      go : (b : Bool) → IsAlike (if b then k else tasks u) (if b then m else copies u)
      go true = here
      go false = alike u

  -- a free task at what its copy is
  pub freed_alike : (tasks : ℕ → Seat K) (copies : ℕ → Seat (Copy x.L)) (t : ℕ) (k : K) (m : Copy x.L) → AreAlike tasks copies → Reaches x ops out Meets k m →
      AreAlike (put tasks t (live k)) (put copies t (live m))
  freed_alike tasks copies t k m alike here = alike_put tasks copies t (live k) (live m) alike (record { standing = refl; locals = here })

  let_go_alike : (f : K → K) (g : Copy x.L → Copy x.L) (a : ℕ) (k : Seat K) (m : Seat (Copy x.L)) → IsAlike k m →
      (is_served_by a m.standing ≡ true → Meets k.local m.local → Reaches x ops out Meets (f k.local) (g m.local)) → IsAlike (let_go f a k) (let_go g a m)
  let_go_alike f g a k m alike goes = subst (λ s. IsAlike (let_go f a (record { local = k.local; standing = s })) (let_go g a m)) (sym alike.standing) (go m.standing k.local m.local alike.locals goes)
    where
      go : (s : Standing) (j : K) (n : Copy x.L) → LocalsAt s j n → (is_served_by a s ≡ true → Meets j n → Reaches x ops out Meets (f j) (g n)) →
          IsAlike (let_go f a (record { local = j; standing = s })) (let_go g a (record { local = n; standing = s }))
      go Live j n h r = record { standing = refl; locals = h }
      go Waiting j n h r = absurd h
      go Queued j n h r = absurd h
      go (Served by abnormal) j n h r = inner (by == a) abnormal (λ q. r q h)
        where
          inner : (b c : Bool) → (b ≡ true → Reaches x ops out Meets (f j) (g n)) →
              IsAlike (if b then (if c then completed j else live (f j)) else record { local = j; standing = Served by abnormal })
              (if b then (if c then completed n else live (g n)) else record { local = n; standing = Served by abnormal })
          inner true true q = record { standing = refl; locals = λ own. imitates.output j n h }
          inner true false q = record { standing = refl; locals = q refl }
          inner false c q = record { standing = refl; locals = h }
      go Completed j n h r = record { standing = refl; locals = h }
      go Killed j n h r = record { standing = refl; locals = h }

  falls_alike : (closing : Standing) (k : Seat K) (m : Seat (Copy x.L)) → ((j : K) (n : Copy x.L) → (is_own n ≡ true → out j ≡ written x.out n) → LocalsAt closing j n) → IsAlike k m →
      IsAlike (record { local = k.local; standing = fallen closing k.standing }) (record { local = m.local; standing = fallen closing m.standing })
  falls_alike closing k m closes alike = record { standing = ap (fallen closing) alike.standing; locals = go m.standing alike.locals }
    where
      go : (s : Standing) → LocalsAt s k.local m.local → LocalsAt (fallen closing s) k.local m.local
      go Live h = closes k.local m.local (λ own. reaches_output h.0 k.local m.local h.1)
      go Waiting h = absurd h
      go Queued h = absurd h
      go (Served by abnormal) h = h
      go Completed h = h
      go Killed h = h

  -- ---- events

  module _ (tasks : ℕ → Seat K) (w : World (Copy x.L)) (alike : AreAlike tasks w.tasks) (fine : (t : ℕ) → StepsFine (w.tasks t)) where
    -- what a task meets, where its copy is known
    meets_at : (t : ℕ) (n : Copy x.L) → w.tasks t ≡ live n → Meets (tasks t).local (w.tasks t).local → Meets (tasks t).local n
    meets_at t n q h = subst (λ (y : Seat (Copy x.L)). Meets (tasks t).local y.local) q h

    free_at : (t : ℕ) (n : Copy x.L) → w.tasks t ≡ live n → (tasks t).standing ≡ Live
    free_at t n q = (alike t).standing ∙ ap (λ (y : Seat (Copy x.L)). y.standing) q

    -- a rendezvous starts
    met_alike : (c o e : ℕ) (i : ℤ) → x.owner e ≡ o → (c == o) ≡ false → Meets (tasks c).local (w.tasks c).local →
        Reaches x ops out Meets (ops.accepted e i c (tasks c).local (tasks o).local) (copy_accepted x.p.ops x.n e i c (w.tasks c).local (w.tasks o).local) →
        AreAlike (acted (numbered rewritten) tasks (R c e i)) (acted (numbered (twin x)) w.tasks (R c e i))
    met_alike c o e i owner other meets reaches =
        subst₂ AreAlike
        (sym (ap (λ v. met_with tasks c v (ops.accepted e i c (tasks c).local (tasks v).local)) owner ∙ met_is tasks c o (ops.accepted e i c (tasks c).local (tasks o).local) other))
        (sym (ap (λ v. met_with w.tasks c v (copy_accepted x.p.ops x.n e i c (w.tasks c).local (w.tasks v).local)) owner ∙
        met_is w.tasks c o (copy_accepted x.p.ops x.n e i c (w.tasks c).local (w.tasks o).local) other))
        (alike_put (put tasks o (live (ops.accepted e i c (tasks c).local (tasks o).local))) (put w.tasks o (live (copy_accepted x.p.ops x.n e i c (w.tasks c).local (w.tasks o).local))) c
        (record { local = (tasks c).local; standing = Served o false }) (record { local = (w.tasks c).local; standing = Served o false })
        (freed_alike tasks w.tasks o (ops.accepted e i c (tasks c).local (tasks o).local) (copy_accepted x.p.ops x.n e i c (w.tasks c).local (w.tasks o).local) alike reaches)
        (record { standing = refl; locals = meets }))

    meet_alike : (c e : ℕ) (i : ℤ) → Met x w c e i → Meets (tasks c).local (w.tasks c).local → Meets (tasks (x.owner e)).local (w.tasks (x.owner e)).local →
        AreAlike (acted (numbered rewritten) tasks (R c e i)) (acted (numbered (twin x)) w.tasks (R c e i))
    meet_alike c e i (MetGo l permit left m at rests commands entry index) meets meets' =
        let owner : x.owner e ≡ control x = ap x.owner entry ∙ x.owners.go in
        met_alike c (control x) e i owner (below_apart c (control x) m) meets
        (subst₂ (λ (y z : Seat (Copy x.L)). Reaches x ops out Meets (ops.accepted e i c (tasks c).local (tasks (control x)).local) (copy_accepted x.p.ops x.n e i c y.local z.local)) (sym at) (sym commands)
        (subst₂ (λ f j. Reaches x ops out Meets (ops.accepted f j c (tasks c).local (tasks (control x)).local) (Handing (Go c permit) left)) (sym entry) (sym index)
        (imitates.asked (tasks c).local (tasks (control x)).local c l permit left (meets_at c (Based c l) at meets) rests
        (meets_at (control x) (Controlling (Go c permit ∷ left)) commands (subst (λ v. Meets (tasks v).local (w.tasks v).local) owner meets')))))
    meet_alike c e i (MetDone l left m at commands entry index) meets meets' =
        let owner : x.owner e ≡ control x = ap x.owner entry ∙ x.owners.done in
        met_alike c (control x) e i owner (below_apart c (control x) m) meets
        (subst₂ (λ (y z : Seat (Copy x.L)). Reaches x ops out Meets (ops.accepted e i c (tasks c).local (tasks (control x)).local) (copy_accepted x.p.ops x.n e i c y.local z.local)) (sym at) (sym commands)
        (subst₂ (λ f j. Reaches x ops out Meets (ops.accepted f j c (tasks c).local (tasks (control x)).local) (Handing (Done c) left)) (sym entry) (sym index)
        (imitates.told (tasks c).local (tasks (control x)).local c l left (meets_at c (Saying c l) at meets)
        (meets_at (control x) (Controlling (Done c ∷ left)) commands (subst (λ v. Meets (tasks v).local (w.tasks v).local) owner meets')))))
    meet_alike c e i (MetBoth f l m cl ol at at' entry calls opened apart) meets meets' =
        met_alike c (x.owner e) e i refl (ne_eqb c (x.owner e) apart) meets
        (subst₂ (λ (y z : Seat (Copy x.L)). Reaches x ops out Meets (ops.accepted e i c (tasks c).local (tasks (x.owner e)).local) (copy_accepted x.p.ops x.n e i c y.local z.local)) (sym at) (sym at')
        (subst (λ g. Reaches x ops out Meets (ops.accepted g i c (tasks c).local (tasks (x.owner e)).local) (Saying (x.owner e) (x.p.ops.accepted f i c l m))) (sym entry)
        (imitates.met (tasks c).local (tasks (x.owner e)).local c (x.owner e) f i l m (meets_at c (Holding c (ToMeet f i) l) at meets) calls
        (meets_at (x.owner e) (Holding (x.owner e) (ToMeet f i) m) at' meets') opened)))

    -- a rendezvous ends
    parted_alike : (a c : ℕ) (n : Copy x.L) (callers : List ℕ) → w.tasks a ≡ live n → copy_offer x.p.ops x.n n ≡ Finishes → copy_callers x.p.ops x.n n ≡ c ∷ callers → (c == a) ≡ false →
        Meets (tasks a).local n → Reaches x ops out Meets (ops.finished (tasks a).local) (copy_finished x.p.ops x.n n) →
        (is_served_by a (w.tasks c).standing ≡ true → Meets (tasks c).local (w.tasks c).local →
        Reaches x ops out Meets (ops.resumed (tasks a).local (tasks c).local) (copy_resumed x.p.ops x.n n (w.tasks c).local)) →
        AreAlike (acted (numbered rewritten) tasks (E a)) (acted (numbered (twin x)) w.tasks (E a))
    parted_alike a c n callers at finishes has other meets finished resumes =
        subst₂ AreAlike
        (sym (parted_is rewritten tasks a (tasks a).local c callers (seat_path refl (free_at a n at)) (imitates.callers (tasks a).local n meets finishes ∙ has) other))
        (sym (parted_is (twin x) w.tasks a n c callers at has other))
        (alike_put (put tasks a (live (ops.finished (tasks a).local))) (put w.tasks a (live (copy_finished x.p.ops x.n n))) c
        (let_go (ops.resumed (tasks a).local) a (tasks c)) (let_go (copy_resumed x.p.ops x.n n) a (w.tasks c))
        (freed_alike tasks w.tasks a (ops.finished (tasks a).local) (copy_finished x.p.ops x.n n) alike finished)
        (let_go_alike (ops.resumed (tasks a).local) (copy_resumed x.p.ops x.n n) a (tasks c) (w.tasks c) (alike c) resumes))

    end_alike : (a : ℕ) → Ended x w a → Meets (tasks a).local (w.tasks a).local → AreAlike (acted (numbered rewritten) tasks (E a)) (acted (numbered (twin x)) w.tasks (E a))
    end_alike a (EndedGo t l permit left is m commands at rests) meets =
        let n : Copy x.L = Handing (Go t permit) left in
        let now : w.tasks a ≡ live n = ap w.tasks is ∙ commands in
        let j : Meets (tasks a).local n = meets_at a n now meets in
        parted_alike a t n [] now refl refl (ap (λ v. t == v) is ∙ below_apart t (control x) m) j (imitates.handed (tasks a).local (Go t permit) left j)
        (λ q h. subst (λ (y : Seat (Copy x.L)). Reaches x ops out Meets (ops.resumed (tasks a).local (tasks t).local) (copy_resumed x.p.ops x.n n y.local)) (sym at)
        (imitates.permitted (tasks t).local (tasks a).local t l permit left (subst (λ (y : Seat (Copy x.L)). Meets (tasks t).local y.local) at h) rests j))
    end_alike a (EndedDone t l left is m commands at) meets =
        let n : Copy x.L = Handing (Done t) left in
        let now : w.tasks a ≡ live n = ap w.tasks is ∙ commands in
        let j : Meets (tasks a).local n = meets_at a n now meets in
        parted_alike a t n [] now refl refl (ap (λ v. t == v) is ∙ below_apart t (control x) m) j (imitates.handed (tasks a).local (Done t) left j)
        (λ q h. subst (λ (y : Seat (Copy x.L)). Reaches x ops out Meets (ops.resumed (tasks a).local (tasks t).local) (copy_resumed x.p.ops x.n n y.local)) (sym at)
        (imitates.answered (tasks t).local (tasks a).local t l left (subst (λ (y : Seat (Copy x.L)). Meets (tasks t).local y.local) at h) j))
    end_alike a (EndedBoth l c callers m at finishes has other served (u, e, i, is, calls)) meets =
        let n : Copy x.L = Holding a ToFinish l in
        let j : Meets (tasks a).local n = meets_at a n at meets in
        parted_alike a c n callers at (ap (λ b. if b then Finishes else Calls Plain x.n.stop (pos 0)) finishes) has other j
        (imitates.finished (tasks a).local a l j finishes)
        (λ q h. subst (λ v. Reaches x ops out Meets (ops.resumed (tasks a).local (tasks c).local) (copy_resumed x.p.ops x.n n v)) (sym is)
        (imitates.resumed (tasks c).local (tasks a).local c a e i u l callers has (subst (λ v. Meets (tasks c).local v) is h) calls j finishes))

    -- one task acts
    did_alike : (a : ℕ) (f : K → K) (g : Copy x.L → Copy x.L) (n : Copy x.L) → w.tasks a ≡ live n → Reaches x ops out Meets (f (tasks a).local) (g n) →
        AreAlike (put tasks a (live (f (tasks a).local))) (put w.tasks a (live (g (w.tasks a).local)))
    did_alike a f g n at h = freed_alike tasks w.tasks a (f (tasks a).local) (g (w.tasks a).local) alike
        (subst (λ (y : Seat (Copy x.L)). Reaches x ops out Meets (f (tasks a).local) (g y.local)) (sym at) h)

    -- an abort
    abort_alike : (t v : ℕ) (l : x.L) → w.tasks t ≡ live (Holding t (ToAbort v) l) → aborts v (x.p.ops.offer l) ≡ true → Meets (tasks t).local (w.tasks t).local →
        ((u : ℕ) → is_served_by v (w.tasks u).standing ≡ true → IsCalling x u (w.tasks u).local) →
        AreAlike (acted (numbered rewritten) tasks (B t v)) (acted (numbered (twin x)) w.tasks (B t v))
    abort_alike t v l at names meets calling = ⊎_elim itself (λ other. ⊎_elim (of_closed other) (of_other other) (cases_Bool (is_closed (w.tasks v).standing))) (cases_Bool (v == t))
      where
        here : Meets (tasks t).local (Holding t (ToAbort v) l)
        here = meets_at t (Holding t (ToAbort v) l) at meets

        closed_too : (b : Bool) → is_closed (w.tasks v).standing ≡ b → is_closed (tasks v).standing ≡ b
        closed_too b q = ap is_closed (alike v).standing ∙ q

        -- the tasks after the victim's callers are let go
        fell_alike : (others : ℕ → Seat K) (copies : ℕ → Seat (Copy x.L)) (closing : Standing) → ((j : K) (n : Copy x.L) → (is_own n ≡ true → out j ≡ written x.out n) → LocalsAt closing j n) → AreAlike others copies →
            ((u : ℕ) → is_served_by v (copies u).standing ≡ true → IsCalling x u (copies u).local) →
            AreAlike (fell ops.raised others v closing) (fell (λ k. copy_raised x.p.ops x.n k) copies v closing)
        fell_alike others copies closing closes same calls =
            alike_put (λ u. let_go ops.raised v (others u)) (λ u. let_go (λ k. copy_raised x.p.ops x.n k) v (copies u)) v
            (record { local = (let_go ops.raised v (others v)).local; standing = fallen closing (let_go ops.raised v (others v)).standing })
            (record { local = (let_go (λ k. copy_raised x.p.ops x.n k) v (copies v)).local; standing = fallen closing (let_go (λ k. copy_raised x.p.ops x.n k) v (copies v)).standing })
            gone (falls_alike closing (let_go ops.raised v (others v)) (let_go (λ k. copy_raised x.p.ops x.n k) v (copies v)) closes (gone v))
          where
            gone : (u : ℕ) → IsAlike (let_go ops.raised v (others u)) (let_go (λ k. copy_raised x.p.ops x.n k) v (copies u))
            gone u = let_go_alike ops.raised (λ k. copy_raised x.p.ops x.n k) v (others u) (copies u) (same u)
                (λ q h. let (m, e, i, is, offered) = calls u q in
                subst (λ k. Reaches x ops out Meets (ops.raised (others u).local) (copy_raised x.p.ops x.n k)) (sym is)
                (imitates.raised (others u).local u e i m (subst (λ k. Meets (others u).local k) is h) offered))

        itself : (v == t) ≡ true → AreAlike (acted (numbered rewritten) tasks (B t v)) (acted (numbered (twin x)) w.tasks (B t v))
        itself self =
            let open' : is_closed (w.tasks v).standing ≡ false = ap (λ u. is_closed (w.tasks u).standing) (eqb-true v t self) ∙ ap (λ (y : Seat (Copy x.L)). is_closed y.standing) at in
            subst₂ AreAlike (sym (abort_self rewritten tasks t v (closed_too false open') self)) (sym (abort_self (twin x) w.tasks t v open' self))
            (fell_alike tasks w.tasks Completed (λ j n h. h) alike calling)

        passing : (v == t) ≡ false → AreAlike (put tasks t (live (ops.passed (tasks t).local))) (put w.tasks t (live (copy_did x.p.ops x.n x.p.ops.passed (w.tasks t).local)))
        passing other = did_alike t ops.passed (copy_did x.p.ops x.n x.p.ops.passed) (Holding t (ToAbort v) l) at (imitates.passed (tasks t).local t v l here names other)

        of_closed : (v == t) ≡ false → is_closed (w.tasks v).standing ≡ true → AreAlike (acted (numbered rewritten) tasks (B t v)) (acted (numbered (twin x)) w.tasks (B t v))
        of_closed other closed =
            subst₂ AreAlike (sym (abort_closed rewritten tasks t v (closed_too true closed) other)) (sym (abort_closed (twin x) w.tasks t v closed other)) (passing other)

        of_other : (v == t) ≡ false → is_closed (w.tasks v).standing ≡ false → AreAlike (acted (numbered rewritten) tasks (B t v)) (acted (numbered (twin x)) w.tasks (B t v))
        of_other other open' =
            subst₂ AreAlike (sym (abort_open rewritten tasks t v (closed_too false open') other)) (sym (abort_open (twin x) w.tasks t v open' other))
            (fell_alike (put tasks t (live (ops.passed (tasks t).local))) (put w.tasks t (live (copy_did x.p.ops x.n x.p.ops.passed (w.tasks t).local))) Killed (λ j n h. h) (passing other)
            (λ u. put_each (λ z (seat : Seat (Copy x.L)). is_served_by v seat.standing ≡ true → IsCalling x z seat.local) w.tasks t
            (live (copy_did x.p.ops x.n x.p.ops.passed (w.tasks t).local)) u (λ q h. absurd (true≢false (sym h))) (λ q h. calling u h)))

    -- what a test says of a task that can act
    rests_at : (test : Offer → Bool) → test Nothing ≡ false → (t : ℕ) → offers ops test (tasks t) ≡ true → Meets (tasks t).local (w.tasks t).local
    rests_at test none t h = (offered_by test none (tasks t) (w.tasks t) (alike t) (fine t) h).meets

    -- An event does the same to the tasks and to their copies.
    pub acts_alike : (e : Event) → happens rewritten tasks e ≡ true → Situation x w e → AreAlike (acted (numbered rewritten) tasks e) (acted (numbered (twin x)) w.tasks e)
    acts_alike (R c e i) h s =
        let k = and_parts (offers ops (calls_in is_any_form e i) (tasks c)) (offers ops (waits_with (opens e i)) (tasks (x.owner e))) h in
        meet_alike c e i s (rests_at (calls_in is_any_form e i) refl c k.0) (rests_at (waits_with (opens e i)) refl (x.owner e) k.1)
    acts_alike (E a) h s = end_alike a s (rests_at is_finish refl a h)
    acts_alike (S a) h (l, at, can) = did_alike a ops.took_else (copy_did x.p.ops x.n x.p.ops.took_else) (Holding a ToElse l) at
        (imitates.took_else (tasks a).local a l (meets_at a (Holding a ToElse l) at (rests_at (waits_with is_else) refl a h)) can)
    acts_alike (D a k) h (l, at, can) = did_alike a (ops.took_delay k) (copy_did x.p.ops x.n (x.p.ops.took_delay k)) (Holding a (ToDelay k) l) at
        (imitates.took_delay (tasks a).local a k l (meets_at a (Holding a (ToDelay k) l) at (rests_at (waits_with (is_delay k)) refl a h)) can)
    acts_alike (C c e i) h (f, l, at, can) =
        let k = and_parts (offers ops (calls_in is_conditional e i) (tasks c)) (not (is_closed (tasks (x.owner e)).standing)) h in
        did_alike c ops.took_else (copy_did x.p.ops x.n x.p.ops.took_else) (Holding c (ToCallElse f i) l) at
        (imitates.call_else (tasks c).local c f i l (meets_at c (Holding c (ToCallElse f i) l) at (rests_at (calls_in is_conditional e i) refl c k.0)) can)
    acts_alike (T c e i) h (f, l, at, can) =
        let k = and_parts (offers ops (calls_in is_timed e i) (tasks c)) (not (is_closed (tasks (x.owner e)).standing)) h in
        did_alike c (ops.took_delay 1) (copy_did x.p.ops x.n (x.p.ops.took_delay 1)) (Holding c (ToExpire f i) l) at
        (imitates.expired (tasks c).local c f i l (meets_at c (Holding c (ToExpire f i) l) at (rests_at (calls_in is_timed e i) refl c k.0)) can)
    acts_alike (F c e i) h s =
        let k = and_parts (offers ops (calls_in is_any_form e i) (tasks c)) (is_closed (tasks (x.owner e)).standing) h in
        go s (rests_at (calls_in is_any_form e i) refl c k.0)
      where
        go : Failed x w c e i → Meets (tasks c).local (w.tasks c).local → AreAlike (put tasks c (live (ops.raised (tasks c).local))) (put w.tasks c (live (copy_raised x.p.ops x.n (w.tasks c).local)))
        go (FailedCall f l at can) meets = did_alike c ops.raised (λ k. copy_raised x.p.ops x.n k) (Holding c (ToFail f i) l) at
            (imitates.failed (tasks c).local c f i l (meets_at c (Holding c (ToFail f i) l) at meets) can)
        go (FailedJoin t left is commands) meets =
            let now : w.tasks c ≡ live (Controlling (Join t ∷ left)) = ap w.tasks is ∙ commands in
            did_alike c ops.raised (λ k. copy_raised x.p.ops x.n k) (Controlling (Join t ∷ left)) now
            (imitates.joined (tasks c).local t left (meets_at c (Controlling (Join t ∷ left)) now meets))
    acts_alike (X a) h s = alike_put tasks w.tasks a (record { local = (tasks a).local; standing = Completed }) (record { local = (w.tasks a).local; standing = Completed }) alike
        (record { standing = refl; locals = locals_output (w.tasks a).standing (tasks a).local (w.tasks a).local (alike a).locals })
    acts_alike (B t v) h (l, at, names, calling) = abort_alike t v l at names (rests_at (aborts v) refl t h) calling
    acts_alike Z h s = alike

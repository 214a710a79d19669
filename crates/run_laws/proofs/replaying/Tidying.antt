-- The copy is tidy at each stage.
use Rattle.std.proofs.Common.{◌≡◌, ℕ, Bool, true, false, ◌||◌, ◌==◌, if◌then◌else◌, List, [], ◌∷◌, refl, sym, ap, ap₂, ◌∙◌, ⊎_elim, true≢false}
use Rattle.std.specs.Prelude.{ℤ, pos}
use Rattle.std.proofs.lemmas.Bool.{or_cases, eqb-true}
use Rattle.event_machine.specs.declared.Event.{Event}
use Rattle.event_machine.specs.declared.Event.TheVariants.{R}
use Rattle.event_machine.specs.declared.CallForm.TheVariants.{Plain}
use Rattle.event_machine.specs.declared.Choice.TheVariants.{Accept, Else, Delay}
use Rattle.event_machine.specs.Offers.{Offer, Calls, calls_in, is_any_form, is_conditional, waits_with, opens}
use Rattle.event_machine.specs.States.{Seat, live}
use Rattle.event_machine.specs.Worlds.{World, offers}
use Rattle.event_machine.proofs.Basics.{same_member-true}
use Rattle.event_machine.proofs.Offering.{calls_waits}
use Rattle.run_laws.specs.replaying.Permits.{Permit, ToMeet, ToElse, ToDelay, wants}
use Rattle.run_laws.specs.replaying.Copies.{Copy, Holding, Sort, AtOriginal, AtGo, AtDone, copy_offer, held_offer, shows}
use Rattle.run_laws.specs.replaying.Rewritings.{Setting, twin}
use Rattle.run_laws.specs.replaying.inner.Stages.{Stage, Giving, Away, Holds, place, member, Inv}
use Rattle.run_laws.proofs.replaying.Facts.{offers_live}
use Rattle.run_laws.proofs.replaying.Voices.{CallsBy, MeetCall, ElseCall, ExpireCall, FailCall, calls_by}
use Rattle.run_laws.proofs.replaying.Speaking.{Speaks, Asking, Using, Refused, Reporting, Commanding, Serving, Resting, speaks}
use Rattle.run_laws.proofs.replaying.Singles.{no_call, else_moves, delay_moves}
use Rattle.run_laws.proofs.replaying.Meeting.{Caller, AsksFor, Reports, CallsOn, CallsNobody, Acceptor, GivesTo, HearsOf, Accepts, AcceptsNobody, caller, acceptor, pair_stage, is_accepted, is_called, both_not}
use Rattle.run_laws.proofs.replaying.Arriving.{IsTidy}

module _ (x : Setting) (past rest : List Event) (stage : Stage) (w : World (Copy x.L)) (inv : Inv x past rest stage w) (runs : w.ended ≡ false) where
  sorts : (e : ℕ) (s z : Sort) → x.n.sort e ≡ s → x.n.sort e ≡ z → s ≡ z
  sorts e s z p q = sym p ∙ q

  clash : (e : ℕ) (test : Sort → Bool) (s : Sort) → x.n.sort e ≡ s → test s ≡ true → test (x.n.sort e) ≡ false → ⊥
  clash e test s q h k = true≢false (sym h ∙ ap test (sym q) ∙ k)

  is_go : (e : ℕ) → e ≡ x.n.go → x.n.sort e ≡ AtGo
  is_go e q = ap x.n.sort q ∙ x.numbers.go

  is_done : (e : ℕ) → e ≡ x.n.done → x.n.sort e ≡ AtDone
  is_done e q = ap x.n.sort q ∙ x.numbers.done

  is_original : (e f : ℕ) → e ≡ x.n.original f → x.n.sort e ≡ AtOriginal f
  is_original e f q = ap x.n.sort q ∙ x.numbers.original f

  -- a member that nobody calls
  uncalled : (u e : ℕ) (i : ℤ) → is_called (x.n.sort e) ≡ false → Caller x stage w u e i → ⊥
  uncalled u e i k (AsksFor l m at r pl entry index) = clash e is_called AtGo (is_go e entry) refl k
  uncalled u e i k (Reports l m at pl entry index) = clash e is_called AtDone (is_done e entry) refl k
  uncalled u e i k (CallsOn f l m at pl entry calls) = clash e is_called (AtOriginal f) (is_original e f entry) refl k
  uncalled u e i k (CallsNobody h) = both_not (x.n.sort e) h k

  -- a member that nobody accepts
  unaccepted : (o e : ℕ) (i : ℤ) → is_accepted (x.n.sort e) ≡ false → Acceptor x stage w o e i → ⊥
  unaccepted o e i k (GivesTo t permit ops is q entry index) = clash e is_accepted AtGo (is_go e entry) refl k
  unaccepted o e i k (HearsOf t ops is q entry index) = clash e is_accepted AtDone (is_done e entry) refl k
  unaccepted o e i k (Accepts f l m at pl entry opened) = clash e is_accepted (AtOriginal f) (is_original e f entry) refl k
  unaccepted o e i k (AcceptsNobody h) = both_not (x.n.sort e) k h

  calls_here : (u e : ℕ) (i : ℤ) → offers (twin x).ops (calls_in is_any_form e i) (w.tasks u) ≡ true → Caller x stage w u e i
  calls_here u e i h = caller x past rest stage w inv runs u e i (speaks x stage w (calls_in is_any_form e i) past rest inv runs refl u h)

  accepts_here : (o e : ℕ) (i : ℤ) → offers (twin x).ops (waits_with (opens e i)) (w.tasks o) ≡ true → Acceptor x stage w o e i
  accepts_here o e i h = acceptor x past rest stage w inv runs o e i (speaks x stage w (waits_with (opens e i)) past rest inv runs refl o h)

  -- the caller of an accepted member
  one_caller : (c u e : ℕ) (i : ℤ) → Acceptor x stage w (x.owner e) e i → Caller x stage w c e i → Caller x stage w u e i → u ≡ c
  one_caller c u e i (GivesTo t permit ops is q entry index) (AsksFor l m at r pl entry' index') (AsksFor l' m' at' r' pl' entry'' index'') =
      let k : pos u ≡ pos c = sym index'' ∙ index' in cc
  one_caller c u e i (GivesTo t permit ops is q entry index) (AsksFor l m at r pl entry' index') (Reports l' m' at' pl' entry'' index'') =
      absurd (let k : AtGo ≡ AtDone = sorts e AtGo AtDone (is_go e entry) (is_done e entry'') in cc)
  one_caller c u e i (GivesTo t permit ops is q entry index) (AsksFor l m at r pl entry' index') (CallsOn f l' m' at' pl' entry'' calls) =
      absurd (let k : AtGo ≡ AtOriginal f = sorts e AtGo (AtOriginal f) (is_go e entry) (is_original e f entry'') in cc)
  one_caller c u e i (GivesTo t permit ops is q entry index) (AsksFor l m at r pl entry' index') (CallsNobody h) = absurd (clash e is_accepted AtGo (is_go e entry) refl h)
  one_caller c u e i (GivesTo t permit ops is q entry index) (Reports l m at pl entry' index') other =
      absurd (let k : AtGo ≡ AtDone = sorts e AtGo AtDone (is_go e entry) (is_done e entry') in cc)
  one_caller c u e i (GivesTo t permit ops is q entry index) (CallsOn f l m at pl entry' calls) other =
      absurd (let k : AtGo ≡ AtOriginal f = sorts e AtGo (AtOriginal f) (is_go e entry) (is_original e f entry') in cc)
  one_caller c u e i (GivesTo t permit ops is q entry index) (CallsNobody h) other = absurd (clash e is_accepted AtGo (is_go e entry) refl h)
  one_caller c u e i (HearsOf t ops is q entry index) (Reports l m at pl entry' index') (Reports l' m' at' pl' entry'' index'') =
      let k : pos u ≡ pos c = sym index'' ∙ index' in cc
  one_caller c u e i (HearsOf t ops is q entry index) (Reports l m at pl entry' index') (AsksFor l' m' at' r' pl' entry'' index'') =
      absurd (let k : AtDone ≡ AtGo = sorts e AtDone AtGo (is_done e entry) (is_go e entry'') in cc)
  one_caller c u e i (HearsOf t ops is q entry index) (Reports l m at pl entry' index') (CallsOn f l' m' at' pl' entry'' calls) =
      absurd (let k : AtDone ≡ AtOriginal f = sorts e AtDone (AtOriginal f) (is_done e entry) (is_original e f entry'') in cc)
  one_caller c u e i (HearsOf t ops is q entry index) (Reports l m at pl entry' index') (CallsNobody h) = absurd (clash e is_accepted AtDone (is_done e entry) refl h)
  one_caller c u e i (HearsOf t ops is q entry index) (AsksFor l m at r pl entry' index') other =
      absurd (let k : AtDone ≡ AtGo = sorts e AtDone AtGo (is_done e entry) (is_go e entry') in cc)
  one_caller c u e i (HearsOf t ops is q entry index) (CallsOn f l m at pl entry' calls) other =
      absurd (let k : AtDone ≡ AtOriginal f = sorts e AtDone (AtOriginal f) (is_done e entry) (is_original e f entry') in cc)
  one_caller c u e i (HearsOf t ops is q entry index) (CallsNobody h) other = absurd (clash e is_accepted AtDone (is_done e entry) refl h)
  one_caller c u e i (Accepts f l m at pl entry opened) (AsksFor l' m' at' r' pl' entry' index') other =
      absurd (let k : AtGo ≡ AtOriginal f = sorts e AtGo (AtOriginal f) (is_go e entry') (is_original e f entry) in cc)
  one_caller c u e i (Accepts f l m at pl entry opened) (Reports l' m' at' pl' entry' index') other =
      absurd (let k : AtDone ≡ AtOriginal f = sorts e AtDone (AtOriginal f) (is_done e entry') (is_original e f entry) in cc)
  one_caller c u e i (Accepts f l m at pl entry opened) (CallsNobody h) other = absurd (clash e is_accepted (AtOriginal f) (is_original e f entry) refl h)
  one_caller c u e i (Accepts f l m at pl entry opened) (CallsOn g l' m' at' pl' entry' calls) (AsksFor l'' m'' at'' r'' pl'' entry'' index'') =
      absurd (let k : AtGo ≡ AtOriginal f = sorts e AtGo (AtOriginal f) (is_go e entry'') (is_original e f entry) in cc)
  one_caller c u e i (Accepts f l m at pl entry opened) (CallsOn g l' m' at' pl' entry' calls) (Reports l'' m'' at'' pl'' entry'' index'') =
      absurd (let k : AtDone ≡ AtOriginal f = sorts e AtDone (AtOriginal f) (is_done e entry'') (is_original e f entry) in cc)
  one_caller c u e i (Accepts f l m at pl entry opened) (CallsOn g l' m' at' pl' entry' calls) (CallsNobody h) = absurd (clash e is_accepted (AtOriginal f) (is_original e f entry) refl h)
  one_caller c u e i (Accepts f l m at pl entry opened) (CallsOn g l' m' at' pl' entry' calls) (CallsOn h l'' m'' at'' pl'' entry'' calls') =
      ⊎_elim (λ k. absurd (apart (eqb-true u (x.owner e) k))) (λ k. ⊎_elim (λ r. eqb-true u c r) (λ r. absurd (true≢false (sym r))) (or_cases (u == c) false k))
      (or_cases (u == x.owner e) ((u == c) || false) among)
    where
      same_g : g ≡ f
      same_g = let k : AtOriginal g ≡ AtOriginal f = sorts e (AtOriginal g) (AtOriginal f) (is_original e g entry') (is_original e f entry) in cc

      same_h : h ≡ f
      same_h = let k : AtOriginal h ≡ AtOriginal f = sorts e (AtOriginal h) (AtOriginal f) (is_original e h entry'') (is_original e f entry) in cc

      pair : (tail : List Event) × (stage ≡ Giving (R c f i) tail (x.owner e ∷ (c ∷ [])) [])
      pair = pair_stage x past rest stage w inv runs c (x.owner e) f i l' l
          (at' ∙ ap (λ v. live (Holding c (ToMeet v i) l')) same_g) (pl' ∙ ap (λ v. Holds (ToMeet v i)) same_g) at pl
          (sym (x.owners.original f) ∙ ap x.owner (sym entry)) (ap (λ v. calls_in is_any_form v i (x.p.ops.offer l')) (sym same_g) ∙ calls) opened

      apart : u ≡ x.owner e → ⊥
      apart q =
          let same : ◌≡◌ {A = Copy x.L} (Holding u (ToMeet h i) l'') (Holding (x.owner e) (ToMeet f i) l) = ap (λ (y : Seat (Copy x.L)). y.local) (sym at'' ∙ ap w.tasks q ∙ at) in
          let locals : l'' ≡ l = cc in
          calls_waits is_any_form (opens f i) f i (x.p.ops.offer l) (ap₂ (λ v z. calls_in is_any_form v i (x.p.ops.offer z)) (sym same_h) (sym locals) ∙ calls') opened

      among : member u (x.owner e ∷ (c ∷ [])) ≡ true
      among = go (member u (x.owner e ∷ (c ∷ []))) (ap (λ z. place z u) (sym pair.1) ∙ pl'')
        where
          go : (b : Bool) → (if b then Holds (ToMeet f i) else Away) ≡ Holds (ToMeet h i) → b ≡ true
          go true q = refl
          go false q = absurd (let k : Away ≡ Holds (ToMeet h i) = q in cc)
  one_caller c u e i (AcceptsNobody k) who other = absurd (uncalled c e i k who)

  -- what a task that waits for nothing accepts
  never_called : (a : ℕ) (permit : Permit) (l : x.L) → w.tasks a ≡ live (Holding a permit l) → (e : ℕ) (i : ℤ) → ((o : Offer) → waits_with (opens e i) (shows x.n a permit o) ≡ true → e ≡ x.n.never a) →
      offers (twin x).ops (waits_with (opens e i)) (w.tasks a) ≡ true → is_called (x.n.sort e) ≡ false
  never_called a permit l at e i only h = ap (λ v. is_called (x.n.sort v)) entry ∙ ap is_called (x.numbers.never a)
    where
      passes : waits_with (opens e i) (held_offer x.n a permit (x.p.ops.offer l)) ≡ true
      passes = sym (ap (λ (y : Seat (Copy x.L)). waits_with (opens e i) (copy_offer x.p.ops x.n y.local)) at) ∙
          (offers_live (twin x).ops (waits_with (opens e i)) (w.tasks a) h).1

      entry : e ≡ x.n.never a
      entry = go (wants a permit (x.p.ops.offer l)) passes
        where
          go : (b : Bool) → waits_with (opens e i) (if b then shows x.n a permit (x.p.ops.offer l) else Calls Plain x.n.stop (pos 0)) ≡ true → e ≡ x.n.never a
          go true k = only (x.p.ops.offer l) k
          go false k = absurd (true≢false (sym k))

  first_opens : (a e : ℕ) (i : ℤ) (b : Bool) → b ≡ false → (opens e i (Accept (x.n.never a) (pos 0)) || (b || false)) ≡ true → e ≡ x.n.never a
  first_opens a e i b q h = ⊎_elim
      (λ k. (same_member-true e (x.n.never a) i (pos 0) k).0)
      (λ k. absurd (true≢false (sym k ∙ ap (λ c. c || false) q)))
      (or_cases (opens e i (Accept (x.n.never a) (pos 0))) (b || false) h)

  pub tidy : IsTidy (twin x) w
  tidy = record {
    one = λ c u e i waits calls other. one_caller c u e i (accepts_here (x.owner e) e i waits) (calls_here c e i calls) (calls_here u e i other);
    lone_else = λ a u e i other waits calls.
        let s = (else_moves x past rest stage w inv runs a other).0 in
        uncalled u e i (never_called a ToElse s.0 s.1 e i (λ o k. first_opens a e i (opens e i Else) refl k) waits) (calls_here u e i calls);
    lone_delay = λ a k u e i other waits calls.
        let s = (delay_moves x past rest stage w inv runs a k other).0 in
        uncalled u e i (never_called a (ToDelay k) s.0 s.1 e i (λ o h. first_opens a e i (opens e i (Delay k)) refl h) waits) (calls_here u e i calls);
    unmet = λ c e i calls waits. unaccepted (x.owner e) e i (conditional c e i calls (speaks x stage w (calls_in is_conditional e i) past rest inv runs refl c calls)) (accepts_here (x.owner e) e i waits);
  }
    where
      conditional : (c e : ℕ) (i : ℤ) → offers (twin x).ops (calls_in is_conditional e i) (w.tasks c) ≡ true → Speaks x stage w (calls_in is_conditional e i) c → is_accepted (x.n.sort e) ≡ false
      conditional c e i h (Asking l m at r pl k) = absurd (true≢false (sym k))
      conditional c e i h (Using permit l m at r pl wanted shown) = go (calls_by x.n c (x.p.ops.offer l) e i is_conditional permit wanted shown)
        where
          go : CallsBy x.n c (x.p.ops.offer l) e i is_conditional permit → is_accepted (x.n.sort e) ≡ false
          go (MeetCall f is entry calls plain) = absurd (true≢false (sym plain))
          go (ElseCall f is entry calls form) = ap (λ v. is_accepted (x.n.sort v)) entry ∙ ap is_accepted (x.numbers.shadow f)
          go (ExpireCall f is entry calls form) = ap (λ v. is_accepted (x.n.sort v)) entry ∙ ap is_accepted (x.numbers.shadow f)
          go (FailCall f is entry calls form) = ap (λ v. is_accepted (x.n.sort v)) entry ∙ ap is_accepted (x.numbers.shadow f)
      conditional c e i h (Refused permit l m at k) = absurd (true≢false (sym k))
      conditional c e i h (Reporting l m at pl k) = absurd (true≢false (sym k))
      conditional c e i h (Commanding ops at q k) = absurd (no_call x is_conditional e i refl ops k)
      conditional c e i h (Serving op ops at q k) = absurd (true≢false (sym k))
      conditional c e i h (Resting at k) = absurd (true≢false (sym k))

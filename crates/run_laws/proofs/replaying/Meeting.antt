-- A rendezvous starts: two original tasks meet, or a task meets the controller.
use Rattle.std.proofs.Common.{◌≡◌, ℕ, ◌<◌, ◌≤◌, Bool, true, false, ◌||◌, ◌==◌, if◌then◌else◌, List, [], ◌∷◌, ◌++◌, None, refl, sym, ap, ap₂, ◌∙◌, subst, ⊎_elim, true≢false, arith}
use Rattle.std.specs.Prelude.{ℤ, pos}
use Rattle.std.proofs.lemmas.Bool.{eqb-true, or_from, and_parts, ne_eqb}
use Rattle.event_machine.specs.declared.Standing.TheVariants.{Live, Served}
use Rattle.event_machine.specs.declared.Event.{Event}
use Rattle.event_machine.specs.declared.Event.TheVariants.{R}
use Rattle.event_machine.specs.Offers.{calls_in, is_any_form, waits_with, opens, same_member}
use Rattle.event_machine.specs.States.{Seat, live}
use Rattle.event_machine.specs.Programs.{numbered}
use Rattle.event_machine.specs.Worlds.{World, happens, acted, offers}
use Rattle.event_machine.proofs.Basics.{both, split, same_member-true}
use Rattle.event_machine.proofs.Offering.{calls_waits}
use Rattle.run_laws.specs.replaying.Permits.{Permit, ToMeet, permit_of, Op, Go, Done, Join, Hold}
use Rattle.run_laws.specs.replaying.Scripts.{takers, grants}
use Rattle.run_laws.specs.replaying.Copies.{Copy, Based, Holding, Saying, Controlling, Handing, Sort, AtOriginal, AtShadow, AtGo, AtDone, AtHold, AtJoin, AtNever, AtStop, AtRest, AtNothing, copy_accepted, ops_offer}
use Rattle.run_laws.specs.replaying.Rewritings.{Setting, control, left, twin}
use Rattle.run_laws.specs.replaying.Laws.{back, at_entry, stands_for}
use Rattle.run_laws.specs.replaying.inner.Stages.{image, image_seat, Stage, Held, Giving, Asked, Acted, Told, Parted, Over, Place, Away, Asks, Holds, Says, Hears, Gone, place, member, in_order, SeatAt, behind_event, Fits, Inv}
use Rattle.run_laws.proofs.replaying.Facts.{put, put_each, put_other, offers_at, below_apart}
use Rattle.run_laws.proofs.replaying.Images.{image_put}
use Rattle.run_laws.proofs.replaying.Voices.{CallsBy, MeetCall, ElseCall, ExpireCall, FailCall, calls_by, OpensBy, MeetOpens, NeverOpens, opens_by}
use Rattle.run_laws.proofs.replaying.Reached.{after_all}
use Rattle.run_laws.proofs.replaying.Orders.{only_two, IsPair}
use Rattle.run_laws.proofs.replaying.Telling.{of_meet}
use Rattle.run_laws.proofs.replaying.Speaking.{Speaks, Asking, Using, Refused, Reporting, Commanding, Serving, Resting, speaks}
use Rattle.run_laws.proofs.replaying.Afterwards.{after_event, holds_if}
use Rattle.run_laws.proofs.replaying.Situations.{MetGo, MetDone, MetBoth}
use Rattle.run_laws.proofs.replaying.Singles.{Moves, matched_event, image_live}
use Rattle.run_laws.proofs.replaying.Silently.{met_with, met_is, matched_silent, GoesTo, goes_to, says_acted, served_tasks, asks, tells}
use Rattle.common_lemmas.proofs.Numbers.{unequal_above}

-- an entry that a task accepts, and one that a task calls
abbrev pub is_accepted : Sort → Bool
is_accepted (AtOriginal e) = true
is_accepted (AtShadow e) = false
is_accepted AtGo = true
is_accepted AtDone = true
is_accepted AtHold = true
is_accepted (AtJoin t) = false
is_accepted (AtNever t) = true
is_accepted AtStop = false
is_accepted AtRest = true
is_accepted AtNothing = false

abbrev pub is_called : Sort → Bool
is_called (AtOriginal e) = true
is_called (AtShadow e) = true
is_called AtGo = true
is_called AtDone = true
is_called AtHold = false
is_called (AtJoin t) = true
is_called (AtNever t) = false
is_called AtStop = true
is_called AtRest = false
is_called AtNothing = true

-- each entry is accepted or called
pub both_not : (s : Sort) → is_accepted s ≡ false → is_called s ≡ false → ⊥
both_not (AtOriginal f) a b = true≢false a
both_not (AtShadow f) a b = true≢false b
both_not AtGo a b = true≢false a
both_not AtDone a b = true≢false a
both_not AtHold a b = true≢false a
both_not (AtJoin t) a b = true≢false b
both_not (AtNever t) a b = true≢false a
both_not AtStop a b = true≢false b
both_not AtRest a b = true≢false a
both_not AtNothing a b = true≢false b

module _ (x : Setting) where
  -- the two tasks that have a permit
  record PermittedBoth (past : List Event) (stage : Stage) (a b : ℕ) (permit : Permit) : Type 0 where
    e : Event
    tail : List Event
    given : List ℕ
    more : List ℕ
    is : permit ≡ permit_of e
    has : member a given ≡ true
    has' : member b given ≡ true
    order : in_order given more ≡ takers x.progress x.p.owner (after_all x past) e
    settled : more ≡ [] → stage ≡ Giving e tail given []

  asks_if : (c : Bool) (z : Place) (permit : Permit) → (if c then Asks else z) ≡ Holds permit → z ≡ Holds permit
  asks_if true z permit h = absurd (let k : Asks ≡ Holds permit = h in cc)
  asks_if false z permit h = h

  says_if : (c : Bool) (permit : Permit) → (if c then Says else Away) ≡ Holds permit → ⊥
  says_if true permit h = let k : Says ≡ Holds permit = h in cc
  says_if false permit h = let k : Away ≡ Holds permit = h in cc

  hears_if : (c : Bool) (permit : Permit) → (if c then Hears else Away) ≡ Holds permit → ⊥
  hears_if true permit h = let k : Hears ≡ Holds permit = h in cc
  hears_if false permit h = let k : Away ≡ Holds permit = h in cc

  permitted_both : (past rest : List Event) (stage : Stage) (w : World (Copy x.L)) (a b : ℕ) (permit : Permit) → Fits x (after_all x past) rest stage w →
      place stage a ≡ Holds permit → place stage b ≡ Holds permit → PermittedBoth past stage a b permit
  permitted_both past rest Held w a b permit f h k = absurd (let q : Away ≡ Holds permit = h in cc)
  permitted_both past rest (Giving e tail given more) w a b permit f h k =
      let p = holds_if x (member a given) permit (permit_of e) h in
      let q = holds_if x (member b given) permit (permit_of e) k in
      record { e = e; tail = tail; given = given; more = more; is = p.1; has = p.0; has' = q.0; order = f.3; settled = λ r. ap (Giving e tail given) r }
  permitted_both past rest (Asked e tail given c more) w a b permit f h k =
      let p = holds_if x (member a given) permit (permit_of e) (asks_if (a == c) (if member a given then Holds (permit_of e) else Away) permit h) in
      let q = holds_if x (member b given) permit (permit_of e) (asks_if (b == c) (if member b given then Holds (permit_of e) else Away) permit k) in
      record { e = e; tail = tail; given = given; more = c ∷ more; is = p.1; has = p.0; has' = q.0; order = f.3; settled = λ r. absurd (let s : c ∷ more ≡ [] = r in cc) }
  permitted_both past rest (Acted c) w a b permit f h k = absurd (says_if (a == c) permit h)
  permitted_both past rest (Told c) w a b permit f h k = absurd (hears_if (a == c) permit h)
  permitted_both past rest (Parted c) w a b permit f h k = absurd (let q : Away ≡ Holds permit = h in cc)
  permitted_both past rest Over w a b permit f h k = absurd (let q : Gone ≡ Holds permit = h in cc)

  -- ---- who calls, and who accepts

  pub data Caller (stage : Stage) (w : World (Copy x.L)) (c e : ℕ) (i : ℤ) : Type 0 where
    AsksFor : (l : x.L) → c < x.p.size → w.tasks c ≡ live (Based c l) → x.p.ops.can_step l ≡ false → place stage c ≡ Away → e ≡ x.n.go → i ≡ pos c → Caller stage w c e i
    Reports : (l : x.L) → c < x.p.size → w.tasks c ≡ live (Saying c l) → place stage c ≡ Says → e ≡ x.n.done → i ≡ pos c → Caller stage w c e i
    CallsOn : (f : ℕ) (l : x.L) → c < x.p.size → w.tasks c ≡ live (Holding c (ToMeet f i) l) → place stage c ≡ Holds (ToMeet f i) → e ≡ x.n.original f →
        calls_in is_any_form f i (x.p.ops.offer l) ≡ true → Caller stage w c e i
    CallsNobody : is_accepted (x.n.sort e) ≡ false → Caller stage w c e i

  pub data Acceptor (stage : Stage) (w : World (Copy x.L)) (o e : ℕ) (i : ℤ) : Type 0 where
    GivesTo : (t : ℕ) (permit : Permit) (ops : List Op) → o ≡ control x → w.tasks (control x) ≡ live (Controlling (Go t permit ∷ ops)) → e ≡ x.n.go → i ≡ pos t → Acceptor stage w o e i
    HearsOf : (t : ℕ) (ops : List Op) → o ≡ control x → w.tasks (control x) ≡ live (Controlling (Done t ∷ ops)) → e ≡ x.n.done → i ≡ pos t → Acceptor stage w o e i
    Accepts : (f : ℕ) (l : x.L) → o < x.p.size → w.tasks o ≡ live (Holding o (ToMeet f i) l) → place stage o ≡ Holds (ToMeet f i) → e ≡ x.n.original f →
        waits_with (opens f i) (x.p.ops.offer l) ≡ true → Acceptor stage w o e i
    AcceptsNobody : is_called (x.n.sort e) ≡ false → Acceptor stage w o e i

  module _ (past rest : List Event) (stage : Stage) (w : World (Copy x.L)) (inv : Inv x past rest stage w) (runs : w.ended ≡ false) where
    caller_commands : (c e : ℕ) (i : ℤ) (ops : List Op) → calls_in is_any_form e i (ops_offer x.n ops) ≡ true → Caller stage w c e i
    caller_commands c e i [] h = absurd (true≢false (sym h))
    caller_commands c e i (Go t permit ∷ ops) h = absurd (true≢false (sym h))
    caller_commands c e i (Done t ∷ ops) h = absurd (true≢false (sym h))
    caller_commands c e i (Join t ∷ ops) h =
        CallsNobody (ap (λ v. is_accepted (x.n.sort v)) (same_member-true e (x.n.join t) i (pos 0) h).0 ∙ ap is_accepted (x.numbers.join t))
    caller_commands c e i (Hold ∷ ops) h = absurd (true≢false (sym h))

    pub caller : (c e : ℕ) (i : ℤ) → Speaks x stage w (calls_in is_any_form e i) c → Caller stage w c e i
    caller c e i (Asking l m at r pl k) = let s = same_member-true e x.n.go i (pos c) k in AsksFor l m at r pl s.0 s.1
    caller c e i (Using permit l m at r pl wanted shown) = go (calls_by x.n c (x.p.ops.offer l) e i is_any_form permit wanted shown)
      where
        shadow : (f : ℕ) → e ≡ x.n.shadow f → Caller stage w c e i
        shadow f q = CallsNobody (ap (λ v. is_accepted (x.n.sort v)) q ∙ ap is_accepted (x.numbers.shadow f))

        go : CallsBy x.n c (x.p.ops.offer l) e i is_any_form permit → Caller stage w c e i
        go (MeetCall f is entry calls plain) = CallsOn f l m (at ∙ ap (λ v. live (Holding c v l)) is) (pl ∙ ap (λ v. Holds v) is) entry calls
        go (ElseCall f is entry calls form) = shadow f entry
        go (ExpireCall f is entry calls form) = shadow f entry
        go (FailCall f is entry calls form) = shadow f entry
    caller c e i (Refused permit l m at k) =
        CallsNobody (ap (λ v. is_accepted (x.n.sort v)) (same_member-true e x.n.stop i (pos 0) k).0 ∙ ap is_accepted x.numbers.stop)
    caller c e i (Reporting l m at pl k) = let s = same_member-true e x.n.done i (pos c) k in Reports l m at pl s.0 s.1
    caller c e i (Commanding ops at q k) = caller_commands c e i ops k
    caller c e i (Serving op ops at q k) = absurd (true≢false (sym k))
    caller c e i (Resting at k) = absurd (true≢false (sym k))

    first_part : (a b : Bool) → (a || b) ≡ true → b ≡ false → a ≡ true
    first_part true b h k = refl
    first_part false b h k = absurd (true≢false (sym h ∙ k))

    acceptor_commands : (o e : ℕ) (i : ℤ) (ops : List Op) → o ≡ control x → w.tasks (control x) ≡ live (Controlling ops) →
        waits_with (opens e i) (ops_offer x.n ops) ≡ true → Acceptor stage w o e i
    acceptor_commands o e i [] at q h = absurd (true≢false (sym h))
    acceptor_commands o e i (Go t permit ∷ ops) at q h =
        let s = same_member-true e x.n.go i (pos t) (first_part (same_member e i x.n.go (pos t)) false h refl) in GivesTo t permit ops at q s.0 s.1
    acceptor_commands o e i (Done t ∷ ops) at q h =
        let s = same_member-true e x.n.done i (pos t) (first_part (same_member e i x.n.done (pos t)) false h refl) in HearsOf t ops at q s.0 s.1
    acceptor_commands o e i (Join t ∷ ops) at q h = absurd (true≢false (sym h))
    acceptor_commands o e i (Hold ∷ ops) at q h =
        AcceptsNobody (ap (λ v. is_called (x.n.sort v)) (same_member-true e x.n.hold i (pos 0) (first_part (same_member e i x.n.hold (pos 0)) false h refl)).0 ∙
        ap is_called x.numbers.hold)

    pub acceptor : (o e : ℕ) (i : ℤ) → Speaks x stage w (waits_with (opens e i)) o → Acceptor stage w o e i
    acceptor o e i (Asking l m at r pl k) = absurd (true≢false (sym k))
    acceptor o e i (Using permit l m at r pl wanted shown) = go (opens_by x.n o (x.p.ops.offer l) e i permit wanted shown)
      where
        go : OpensBy x.n o (x.p.ops.offer l) e i permit → Acceptor stage w o e i
        go (MeetOpens f is entry opened) = Accepts f l m (at ∙ ap (λ v. live (Holding o v l)) is) (pl ∙ ap (λ v. Holds v) is) entry opened
        go (NeverOpens entry) = AcceptsNobody (ap (λ v. is_called (x.n.sort v)) entry ∙ ap is_called (x.numbers.never o))
    acceptor o e i (Refused permit l m at k) = absurd (true≢false (sym k))
    acceptor o e i (Reporting l m at pl k) = absurd (true≢false (sym k))
    acceptor o e i (Commanding ops at q k) = acceptor_commands o e i ops at q k
    acceptor o e i (Serving op ops at q k) = absurd (true≢false (sym k))
    acceptor o e i (Resting at k) =
        AcceptsNobody (ap (λ v. is_called (x.n.sort v)) (same_member-true e x.n.rest i (pos 0) (first_part (same_member e i x.n.rest (pos 0)) false k refl)).0 ∙
        ap is_called x.numbers.rest)

    -- ---- the rendezvous

    -- the controller accepts: what the tasks are
    pub meets_control : (c e : ℕ) (i : ℤ) (op : Op) (ops : List Op) (own : Copy x.L) (m : c < x.p.size) → x.owner e ≡ control x → w.tasks (control x) ≡ live (Controlling (op ∷ ops)) →
        w.tasks c ≡ live own → acted (numbered (twin x)) w.tasks (R c e i) ≡ served_tasks x past rest w c m (Handing op ops) own
    meets_control c e i op ops own m owner at is =
        ap (λ o. met_with w.tasks c o (copy_accepted x.p.ops x.n e i c (w.tasks c).local (w.tasks o).local)) owner ∙
        ap (λ (y : Seat (Copy x.L)). met_with w.tasks c (control x) (copy_accepted x.p.ops x.n e i c (w.tasks c).local y.local)) at ∙
        met_is w.tasks c (control x) (Handing op ops) (below_apart c (control x) m) ∙
        ap (λ (y : Seat (Copy x.L)). put (put w.tasks (control x) (live (Handing op ops))) c (record { local = y.local; standing = Served (control x) false })) is

    no_back : (c e : ℕ) (i : ℤ) (s : Sort) → x.n.sort e ≡ s → stands_for s ≡ None → back x (R c e i) ≡ None
    no_back c e i s q h = ap (λ v. at_entry (λ f. R c f i) (stands_for v)) q ∙ ap (at_entry (λ f. R c f i)) h

    -- a task is given its permit
    asked_now : (c e : ℕ) (i : ℤ) (l : x.L) (t : ℕ) (permit : Permit) (ops : List Op) (m : c < x.p.size) → w.tasks c ≡ live (Based c l) → x.p.ops.can_step l ≡ false →
        w.tasks (control x) ≡ live (Controlling (Go t permit ∷ ops)) → e ≡ x.n.go → i ≡ pos c → c ≡ t → Moves x past w (R c e i)
    asked_now c e i l t permit ops m at rests commands entry index same =
        let g : GoesTo x past rest stage c permit ops = subst (λ v. GoesTo x past rest stage v permit ops) (sym same) (goes_to x past rest stage w t permit ops runs inv.fits inv.controls commands) in
        let k : Op = Go c (permit_of g.e) in
        let after : List Op = grants (permit_of g.e) g.more (behind_event x (after_all x past) g.e g.tail) in
        let now : w.tasks (control x) ≡ live (Controlling (k ∷ after)) =
        commands ∙ ap (λ v. live (Controlling (Go v permit ∷ ops))) (sym same) ∙ ap₂ (λ v os. live (Controlling (Go c v ∷ os))) g.permits g.later in
        let owner : x.owner e ≡ control x = ap x.owner entry ∙ x.owners.go in
        matched_silent x past w (R c e i) (no_back c e i AtGo (ap x.n.sort entry ∙ x.numbers.go) refl)
        (MetGo l permit ops m at rests (commands ∙ ap (λ v. live (Controlling (Go v permit ∷ ops))) (sym same)) entry index)
        (record {
          rest = rest;
          stage = Asked g.e g.tail g.given c g.more;
          inv = subst (Inv x past rest (Asked g.e g.tail g.given c g.more)) (λ j. record { tasks = sym (meets_control c e i k after (Based c l) m owner now at) j; ended = w.ended })
              (asks x past rest w c m l g.e g.tail g.given g.more (subst (λ z. Inv x past rest z w) g.is inv) at rests);
        })

    -- a task says that it has acted
    told_now : (c e : ℕ) (i : ℤ) (l : x.L) (t : ℕ) (ops : List Op) (m : c < x.p.size) → w.tasks c ≡ live (Saying c l) → place stage c ≡ Says →
        w.tasks (control x) ≡ live (Controlling (Done t ∷ ops)) → e ≡ x.n.done → i ≡ pos c → Moves x past w (R c e i)
    told_now c e i l t ops m at pl commands entry index =
        let st : stage ≡ Acted c = says_acted x stage c pl in
        let here : Inv x past rest (Acted c) w = subst (λ z. Inv x past rest z w) st inv in
        let owner : x.owner e ≡ control x = ap x.owner entry ∙ x.owners.done in
        matched_silent x past w (R c e i) (no_back c e i AtDone (ap x.n.sort entry ∙ x.numbers.done) refl)
        (MetDone l (left x (after_all x past) rest) m at here.controls entry index)
        (record {
          rest = rest;
          stage = Told c;
          inv = subst (Inv x past rest (Told c)) (λ j. record { tasks = sym (meets_control c e i (Done c) (left x (after_all x past) rest) (Saying c l) m owner here.controls at) j; ended = w.ended })
              (tells x past rest w c m l here at);
        })

    -- two tasks that have the permits of one rendezvous
    pub pair_stage : (c o f : ℕ) (i : ℤ) (l m : x.L) → w.tasks c ≡ live (Holding c (ToMeet f i) l) → place stage c ≡ Holds (ToMeet f i) →
        w.tasks o ≡ live (Holding o (ToMeet f i) m) → place stage o ≡ Holds (ToMeet f i) → x.p.owner f ≡ o →
        calls_in is_any_form f i (x.p.ops.offer l) ≡ true → waits_with (opens f i) (x.p.ops.offer m) ≡ true →
        (tail : List Event) × (stage ≡ Giving (R c f i) tail (o ∷ (c ∷ [])) [])
    pair_stage c o f i l m at pl at' pl' owner' calls opened = (
      k.tail,
      k.settled pair.none ∙ ap (λ v. Giving v k.tail k.given []) (event.1 ∙ ap (λ v. R v f i) (sym first)) ∙
          ap (λ v. Giving (R c f i) k.tail v []) (pair.has ∙ ap₂ (λ u v. u ∷ (v ∷ [])) owner' (sym first)),
    )
      where
        apart : c ≡ o → ⊥
        apart q =
            let same : ◌≡◌ {A = Copy x.L} (Holding c (ToMeet f i) l) (Holding o (ToMeet f i) m) = ap (λ (y : Seat (Copy x.L)). y.local) (sym at ∙ ap w.tasks q ∙ at') in
            let locals : l ≡ m = cc in
            calls_waits is_any_form (opens f i) f i (x.p.ops.offer m) (ap (λ v. calls_in is_any_form f i (x.p.ops.offer v)) (sym locals) ∙ calls) opened

        k : PermittedBoth past stage c o (ToMeet f i)
        k = permitted_both past rest stage w c o (ToMeet f i) inv.fits pl pl'

        event : (actor : ℕ) × (k.e ≡ R actor f i)
        event = of_meet f i k.e k.is

        pair : IsPair event.0 (x.p.owner f) c o k.given k.more
        pair = only_two k.given k.more event.0 (x.p.owner f) c o (k.order ∙ ap (takers x.progress x.p.owner (after_all x past)) event.1) k.has k.has' apart

        first : c ≡ event.0
        first = ⊎_elim (λ q. q.0) (λ q. absurd (apart (q.0 ∙ owner'))) pair.either

    -- two original tasks meet
    both_meet : (c o e : ℕ) (i : ℤ) (f : ℕ) (l m : x.L) → c < x.p.size → o < x.p.size → w.tasks c ≡ live (Holding c (ToMeet f i) l) → place stage c ≡ Holds (ToMeet f i) →
        w.tasks o ≡ live (Holding o (ToMeet f i) m) → place stage o ≡ Holds (ToMeet f i) → x.owner e ≡ o → e ≡ x.n.original f →
        calls_in is_any_form f i (x.p.ops.offer l) ≡ true → waits_with (opens f i) (x.p.ops.offer m) ≡ true → Moves x past w (R c e i)
    both_meet c o e i f l m cl ol at pl at' pl' owner entry calls opened =
        matched_event x past w (R c e i) (R c f i) (ap (λ s. at_entry (λ v. R c v i) (stands_for s)) (ap x.n.sort entry ∙ x.numbers.original f))
        (MetBoth f l m cl (subst (λ v. v < x.p.size) (sym owner) ol) at (subst (λ v. w.tasks v ≡ live (Holding v (ToMeet f i) m)) (sym owner) at') entry calls opened (λ q. apart (q ∙ owner)))
        (record {
          rest = k.0;
          stage = Acted o;
          inv = subst (Inv x (past ++ (R c f i ∷ [])) k.0 (Acted o)) (λ j. record { tasks = sym twin_acts j; ended = w.ended })
              (after_event x past rest (R c f i) k.0 (o ∷ (c ∷ [])) w here (Done o) (Acted o) tasks' (ap (λ v. Done v ∷ []) owner') refl holds acts outside (here.fits.0, ol) (λ seat h. h) seats);
        })
      where
        owner' : x.p.owner f ≡ o
        owner' = sym (x.owners.original f) ∙ ap x.owner (sym entry) ∙ owner

        apart : c ≡ o → ⊥
        apart q =
            let same : ◌≡◌ {A = Copy x.L} (Holding c (ToMeet f i) l) (Holding o (ToMeet f i) m) = ap (λ (y : Seat (Copy x.L)). y.local) (sym at ∙ ap w.tasks q ∙ at') in
            let locals : l ≡ m = cc in
            calls_waits is_any_form (opens f i) f i (x.p.ops.offer m) (ap (λ v. calls_in is_any_form f i (x.p.ops.offer v)) (sym locals) ∙ calls) opened

        other : (c == o) ≡ false
        other = ne_eqb c o apart

        k : (tail : List Event) × (stage ≡ Giving (R c f i) tail (o ∷ (c ∷ [])) [])
        k = pair_stage c o f i l m at pl at' pl' owner' calls opened

        here : Inv x past rest (Giving (R c f i) k.0 (o ∷ (c ∷ [])) []) w
        here = subst (λ z. Inv x past rest z w) k.1 inv

        opener : Seat (Copy x.L)
        opener = live (Saying o (x.p.ops.accepted f i c l m))

        served : Seat (Copy x.L)
        served = record { local = Holding c (ToMeet f i) l; standing = Served o false }

        tasks' : ℕ → Seat (Copy x.L)
        tasks' = put (put w.tasks o opener) c served

        twin_acts : acted (numbered (twin x)) w.tasks (R c e i) ≡ tasks'
        twin_acts =
            ap (λ v. met_with w.tasks c v (copy_accepted x.p.ops x.n e i c (w.tasks c).local (w.tasks v).local)) owner ∙
            ap₂ (λ (y z : Seat (Copy x.L)). met_with w.tasks c o (copy_accepted x.p.ops x.n e i c y.local z.local)) at at' ∙
            met_is w.tasks c o (Saying o (x.p.ops.accepted f i c l m)) other ∙
            ap (λ (y : Seat (Copy x.L)). put (put w.tasks o opener) c (record { local = y.local; standing = Served o false })) at

        image_c : image x w.tasks c ≡ live l
        image_c = image_live x w.tasks c (Holding c (ToMeet f i) l) cl at

        image_o : image x w.tasks o ≡ live m
        image_o = image_live x w.tasks o (Holding o (ToMeet f i) m) ol at'

        acts : acted (numbered x.p) (image x w.tasks) (R c f i) ≡ image x tasks'
        acts =
            ap (λ v. met_with (image x w.tasks) c v (x.p.ops.accepted f i c (image x w.tasks c).local (image x w.tasks v).local)) owner' ∙
            ap₂ (λ (y z : Seat x.L). met_with (image x w.tasks) c o (x.p.ops.accepted f i c y.local z.local)) image_c image_o ∙
            met_is (image x w.tasks) c o (x.p.ops.accepted f i c l m) other ∙
            ap (λ (y : Seat x.L). put (put (image x w.tasks) o (live (x.p.ops.accepted f i c l m))) c (record { local = y.local; standing = Served o false })) image_c ∙
            ap (λ b. put (put (image x w.tasks) o (live (x.p.ops.accepted f i c l m))) c (record { local = l; standing = (if b then Live else Served o false) })) (sym (below_apart o (control x) ol)) ∙
            ap (λ v. put v c (image_seat x served)) (sym (image_put x w.tasks o opener ol)) ∙
            sym (image_put x (put w.tasks o opener) c served cl)

        holds : happens x.p (image x w.tasks) (R c f i) ≡ true
        holds = both (offers_at x.p.ops (calls_in is_any_form f i) (image x w.tasks c) l image_c calls)
            (ap (λ v. offers x.p.ops (waits_with (opens f i)) (image x w.tasks v)) owner' ∙ offers_at x.p.ops (waits_with (opens f i)) (image x w.tasks o) m image_o opened)

        outside : (t : ℕ) → x.p.size ≤ t → tasks' t ≡ w.tasks t
        outside t h = put_other (put w.tasks o opener) c t served (unequal_above t c (omega (arith, h, cl))) ∙ put_other w.tasks o t opener (unequal_above t o (omega (arith, h, ol)))

        seats : (u : ℕ) → u < x.p.size → SeatAt x (place (Acted o) u) u (tasks' u)
        seats u h = put_each P (put w.tasks o opener) c served u
            (λ q. subst (λ b. SeatAt x (if b then Says else Away) u served) (sym (ap (λ v. v == o) (eqb-true u c q) ∙ other))
            (f, i, l, ap (λ v. Holding v (ToMeet f i) l) (sym (eqb-true u c q)), calls, ol))
            (λ q. put_each P w.tasks o opener u
            (λ r. subst (λ b. SeatAt x (if b then Says else Away) u opener) (sym r)
            (x.p.ops.accepted f i c l m, ap (λ v. live (Saying v (x.p.ops.accepted f i c l m))) (sym (eqb-true u o r))))
            (λ r. subst (λ b. SeatAt x (if b then Says else Away) u (w.tasks u)) (sym r)
            (subst (λ b. SeatAt x (if b then Holds (ToMeet f i) else Away) u (w.tasks u)) (or_from (u == o) ((u == c) || false) r (or_from (u == c) false q refl)) (here.seats u h))))
          where
            P : ℕ → Seat (Copy x.L) → Type 0
            P v seat = SeatAt x (place (Acted o) v) v seat

    sort_clash : (e : ℕ) (test : Sort → Bool) (s : Sort) → x.n.sort e ≡ s → test s ≡ true → test (x.n.sort e) ≡ false → ⊥
    sort_clash e test s q h k = true≢false (sym h ∙ ap test (sym q) ∙ k)

    sorts : (e : ℕ) (s z : Sort) → x.n.sort e ≡ s → x.n.sort e ≡ z → s ≡ z
    sorts e s z p q = sym p ∙ q

    -- A rendezvous of the copy starts.
    pub meet_moves : (c e : ℕ) (i : ℤ) → happens (twin x) w.tasks (R c e i) ≡ true → Moves x past w (R c e i)
    meet_moves c e i h = go
        (caller c e i (speaks x stage w (calls_in is_any_form e i) past rest inv runs refl c (split h).0))
        (acceptor (x.owner e) e i (speaks x stage w (waits_with (opens e i)) past rest inv runs refl (x.owner e)
        (and_parts (offers (twin x).ops (calls_in is_any_form e i) (w.tasks c)) (offers (twin x).ops (waits_with (opens e i)) (w.tasks (x.owner e))) h).1))
      where
        is_go : e ≡ x.n.go → x.n.sort e ≡ AtGo
        is_go q = ap x.n.sort q ∙ x.numbers.go

        is_done : e ≡ x.n.done → x.n.sort e ≡ AtDone
        is_done q = ap x.n.sort q ∙ x.numbers.done

        is_original : (f : ℕ) → e ≡ x.n.original f → x.n.sort e ≡ AtOriginal f
        is_original f q = ap x.n.sort q ∙ x.numbers.original f

        go : Caller stage w c e i → Acceptor stage w (x.owner e) e i → Moves x past w (R c e i)
        go (AsksFor l m at r pl entry index) (GivesTo t permit ops o q entry' index') =
            asked_now c e i l t permit ops m at r q entry index (let k : pos c ≡ pos t = sym index ∙ index' in cc)
        go (AsksFor l m at r pl entry index) (HearsOf t ops o q entry' index') = absurd (let k : AtGo ≡ AtDone = sorts e AtGo AtDone (is_go entry) (is_done entry') in cc)
        go (AsksFor l m at r pl entry index) (Accepts f l' m' at' pl' entry' opened) = absurd (let k : AtGo ≡ AtOriginal f = sorts e AtGo (AtOriginal f) (is_go entry) (is_original f entry') in cc)
        go (AsksFor l m at r pl entry index) (AcceptsNobody k) = absurd (sort_clash e is_called AtGo (is_go entry) refl k)
        go (Reports l m at pl entry index) (GivesTo t permit ops o q entry' index') = absurd (let k : AtDone ≡ AtGo = sorts e AtDone AtGo (is_done entry) (is_go entry') in cc)
        go (Reports l m at pl entry index) (HearsOf t ops o q entry' index') = told_now c e i l t ops m at pl q entry index
        go (Reports l m at pl entry index) (Accepts f l' m' at' pl' entry' opened) = absurd (let k : AtDone ≡ AtOriginal f = sorts e AtDone (AtOriginal f) (is_done entry) (is_original f entry') in cc)
        go (Reports l m at pl entry index) (AcceptsNobody k) = absurd (sort_clash e is_called AtDone (is_done entry) refl k)
        go (CallsOn f l m at pl entry calls) (GivesTo t permit ops o q entry' index') = absurd (let k : AtOriginal f ≡ AtGo = sorts e (AtOriginal f) AtGo (is_original f entry) (is_go entry') in cc)
        go (CallsOn f l m at pl entry calls) (HearsOf t ops o q entry' index') = absurd (let k : AtOriginal f ≡ AtDone = sorts e (AtOriginal f) AtDone (is_original f entry) (is_done entry') in cc)
        go (CallsOn f l m at pl entry calls) (Accepts f' l' m' at' pl' entry' opened) =
            let k : AtOriginal f' ≡ AtOriginal f = sorts e (AtOriginal f') (AtOriginal f) (is_original f' entry') (is_original f entry) in
            let same : f' ≡ f = cc in
            both_meet c (x.owner e) e i f l l' m m' at pl (at' ∙ ap (λ v. live (Holding (x.owner e) (ToMeet v i) l')) same) (pl' ∙ ap (λ v. Holds (ToMeet v i)) same) refl entry calls
            (ap (λ v. waits_with (opens v i) (x.p.ops.offer l')) (sym same) ∙ opened)
        go (CallsOn f l m at pl entry calls) (AcceptsNobody k) = absurd (sort_clash e is_called (AtOriginal f) (is_original f entry) refl k)
        go (CallsNobody k) (GivesTo t permit ops o q entry' index') = absurd (sort_clash e is_accepted AtGo (is_go entry') refl k)
        go (CallsNobody k) (HearsOf t ops o q entry' index') = absurd (sort_clash e is_accepted AtDone (is_done entry') refl k)
        go (CallsNobody k) (Accepts f' l' m' at' pl' entry' opened) = absurd (sort_clash e is_accepted (AtOriginal f') (is_original f' entry') refl k)
        go (CallsNobody k) (AcceptsNobody q) = absurd (both_not (x.n.sort e) k q)

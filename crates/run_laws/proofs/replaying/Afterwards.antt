-- The invariant after an event of the original.
use Rattle.std.proofs.Common.{◌≡◌, ℕ, ◌<◌, ◌≤◌, Bool, true, false, ◌==◌, ◌||◌, if◌then◌else◌, List, [], ◌∷◌, ◌++◌, append_assoc, refl, sym, ap, ap₂, ◌∙◌, subst, ⊎_elim, arith}
use Rattle.event_machine.specs.declared.Event.{Event}
use Rattle.event_machine.specs.States.{Seat, live, is_completed}
use Rattle.event_machine.specs.Programs.{numbered}
use Rattle.event_machine.specs.Worlds.{World, happens, acted, is_last}
use Rattle.run_laws.specs.replaying.Permits.{Permit, permit_of, Op}
use Rattle.run_laws.specs.replaying.Scripts.{closing, takers}
use Rattle.run_laws.specs.replaying.Copies.{Copy, Controlling}
use Rattle.run_laws.specs.replaying.Rewritings.{Setting, control, idle, left}
use Rattle.run_laws.specs.replaying.inner.Stages.{image, image_world, IsReached, Stage, Held, Giving, Asked, Acted, Told, Parted, Over, Away, Asks, Holds, Says, Hears, Gone, place, member, in_order, SeatAt, Commands, ControlAt, behind_event, Fits, Inv}
use Rattle.run_laws.proofs.replaying.Reached.{after_all, known_snoc, reach_event}

-- Behind these events some stage holds.
pub record Matched (x : Setting) (past : List Event) (w : World (Copy x.L)) : Type 0 where
  pub rest : List Event
  pub stage : Stage
  pub inv : Inv x past rest stage w

module _ (x : Setting) where
  pub commands_now : (g : x.G) (e : Event) (tail : List Event) (op : Op) (seat : Seat (Copy x.L)) → closing x.p.owner e ≡ op ∷ [] → is_last e ≡ false →
      Commands x (behind_event x g e tail) seat → seat ≡ live (Controlling (op ∷ left x (x.progress.advance g e) tail))
  commands_now g e tail op seat c more k = ⊎_elim
      (λ q. q ∙ ap (λ ops. live (Controlling ops)) is)
      (λ q. absurd (let r : op ∷ left x (x.progress.advance g e) tail ≡ [] = sym is ∙ q.0 in cc))
      k
    where
      is : behind_event x g e tail ≡ op ∷ left x (x.progress.advance g e) tail
      is = ap₂ (λ xs b. xs ++ (if b then [] else left x (x.progress.advance g e) tail)) c more

  module _ (past rest : List Event) (e : Event) (tail : List Event) (given : List ℕ) (w : World (Copy x.L)) (inv : Inv x past rest (Giving e tail given []) w) where
    abbrev pub then_past : List Event
    then_past = past ++ (e ∷ [])

    pub then_known : after_all x then_past ≡ x.progress.advance (after_all x past) e
    then_known = known_snoc x.progress x.progress.start past e

    pub then_splits : then_past ++ tail ≡ x.s
    then_splits = append_assoc past (e ∷ []) tail ∙ ap (λ es. past ++ es) (sym inv.fits.1) ∙ inv.splits

    -- The event has come: the tasks are these, and the controller stands before its next operation.
    pub after_event : (op : Op) (stage : Stage) (tasks : ℕ → Seat (Copy x.L)) → closing x.p.owner e ≡ op ∷ [] → is_last e ≡ false →
        happens x.p (image x w.tasks) e ≡ true → acted (numbered x.p) (image x w.tasks) e ≡ image x tasks → ((t : ℕ) → x.p.size ≤ t → tasks t ≡ w.tasks t) →
        Fits x (after_all x then_past) tail stage (record { tasks = tasks; ended = w.ended }) →
        ((seat : Seat (Copy x.L)) → seat ≡ live (Controlling (op ∷ left x (after_all x then_past) tail)) → ControlAt x (after_all x then_past) tail stage seat) →
        ((t : ℕ) → t < x.p.size → SeatAt x (place stage t) t (tasks t)) → Inv x then_past tail stage (record { tasks = tasks; ended = w.ended })
    after_event op stage tasks c more holds is outside fits controls seats = record {
      splits = then_splits;
      reached = subst (IsReached x then_past) (λ i. record { tasks = is i; ended = ap (λ b. b || w.ended) more i })
          (reach_event x past (image_world x w) e inv.reached inv.fits.0 holds);
      fits = fits;
      controls = controls (tasks (control x)) (outside (control x) (omega arith) ∙
          commands_now (after_all x past) e tail op (w.tasks (control x)) c more inv.controls ∙
          ap (λ g. live (Controlling (op ∷ left x g tail))) (sym then_known));
      idles = outside (idle x) (omega arith) ∙ inv.idles;
      seats = seats;
      beyond = λ t l. ap (λ (y : Seat (Copy x.L)). is_completed y.standing) (outside t (omega (arith, l))) ∙ inv.beyond t l;
    }

  -- ---- what a place says of the stage

  -- A task has a permit for the next event, which these others are to get.
  pub record Permitted (past rest : List Event) (stage : Stage) (w : World (Copy x.L)) (a : ℕ) (permit : Permit) : Type 0 where
    pub e : Event
    pub tail : List Event
    pub given : List ℕ
    pub more : List ℕ
    pub is : permit ≡ permit_of e
    pub has : member a given ≡ true
    pub order : in_order given more ≡ takers x.progress x.p.owner (after_all x past) e
    pub admits : x.progress.admits (after_all x past) e ≡ true
    pub settled : more ≡ [] → stage ≡ Giving e tail given []

  pub holds_if : (b : Bool) (permit other : Permit) → (if b then Holds other else Away) ≡ Holds permit → (b ≡ true) × (permit ≡ other)
  holds_if true permit other h = (refl, let k : Holds other ≡ Holds permit = h in cc)
  holds_if false permit other h = absurd (let k : Away ≡ Holds permit = h in cc)

  pub permitted_in : (past rest : List Event) (stage : Stage) (w : World (Copy x.L)) (a : ℕ) (permit : Permit) → Fits x (after_all x past) rest stage w →
      place stage a ≡ Holds permit → Permitted past rest stage w a permit
  permitted_in past rest Held w a permit f h = absurd (let k : Away ≡ Holds permit = h in cc)
  permitted_in past rest (Giving e tail given more) w a permit f h =
      let k = holds_if (member a given) permit (permit_of e) h in
      record { e = e; tail = tail; given = given; more = more; is = k.1; has = k.0; order = f.3; admits = f.2; settled = λ q. ap (Giving e tail given) q }
  permitted_in past rest (Asked e tail given b more) w a permit f h = go (a == b) h
    where
      go : (c : Bool) → (if c then Asks else (if member a given then Holds (permit_of e) else Away)) ≡ Holds permit → Permitted past rest (Asked e tail given b more) w a permit
      go true q = absurd (let k : Asks ≡ Holds permit = q in cc)
      go false q =
          let k = holds_if (member a given) permit (permit_of e) q in
          record { e = e; tail = tail; given = given; more = b ∷ more; is = k.1; has = k.0; order = f.3; admits = f.2; settled = λ r. absurd (let s : b ∷ more ≡ [] = r in cc) }
  permitted_in past rest (Acted b) w a permit f h = go (a == b) h
    where
      go : (c : Bool) → (if c then Says else Away) ≡ Holds permit → Permitted past rest (Acted b) w a permit
      go true q = absurd (let k : Says ≡ Holds permit = q in cc)
      go false q = absurd (let k : Away ≡ Holds permit = q in cc)
  permitted_in past rest (Told b) w a permit f h = go (a == b) h
    where
      go : (c : Bool) → (if c then Hears else Away) ≡ Holds permit → Permitted past rest (Told b) w a permit
      go true q = absurd (let k : Hears ≡ Holds permit = q in cc)
      go false q = absurd (let k : Away ≡ Holds permit = q in cc)
  permitted_in past rest (Parted b) w a permit f h = absurd (let k : Away ≡ Holds permit = h in cc)
  permitted_in past rest Over w a permit f h = absurd (let k : Gone ≡ Holds permit = h in cc)

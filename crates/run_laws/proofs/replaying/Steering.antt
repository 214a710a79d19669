-- The copy can be led on: by moves that the original does not see to the next event, and by the original's own local steps.
use Rattle.std.proofs.Common.{◌≡◌, ℕ, ◌<◌, Bool, true, false, not, ◌&&◌, ◌||◌, if◌then◌else◌, List, [], ◌∷◌, Option, Some, None, refl, sym, ap, ◌∙◌, subst, inl, inr, ◌⊎◌, ⊎_elim, true≢false, arith}
use Rattle.std.specs.Prelude.{ℤ, pos}
use Rattle.std.specs.List.{cons_option}
use Rattle.std.proofs.lemmas.Bool.{and_parts, or_left}
use Rattle.event_machine.specs.declared.CallForm.TheVariants.{Plain}
use Rattle.event_machine.specs.declared.Standing.{Standing}
use Rattle.event_machine.specs.declared.Standing.TheVariants.{Live, Waiting, Queued, Served, Completed, Killed}
use Rattle.event_machine.specs.declared.Event.{Event}
use Rattle.event_machine.specs.declared.Event.TheVariants.{R, E, F}
use Rattle.event_machine.specs.Offers.{Nothing, Calls, calls_in, is_any_form, waits_with, opens, is_finish, same_member}
use Rattle.event_machine.specs.States.{Seat, live, is_live, is_closed}
use Rattle.event_machine.specs.Programs.{numbered}
use Rattle.event_machine.specs.Worlds.{World, Move, Step, Happen, can_move, moved, acted, happened, is_last, offers, AreMoves, world_after}
use Rattle.event_machine.proofs.Basics.{both, same_member-refl, seat_path}
use Rattle.event_machine.proofs.Standings.{is-Live, completed_closed}
use Rattle.run_laws.specs.replaying.Permits.{Permit, permit_of, Op, Go, Done, Join}
use Rattle.run_laws.specs.replaying.Scripts.{grants}
use Rattle.run_laws.specs.replaying.Copies.{Copy, Based, Holding, Saying, Controlling, Handing, copy_ops, copy_steps, copy_resumed, copy_raised, op_callers, under}
use Rattle.run_laws.specs.replaying.Rewritings.{Setting, control, left, twin}
use Rattle.run_laws.specs.replaying.Laws.{back, backs, at_entry, stands_for}
use Rattle.run_laws.specs.replaying.inner.Stages.{image, image_seat, image_world, free_of, Stage, Held, Giving, Asked, Acted, Told, Parted, Over, Away, Asks, Holds, Says, Hears, place, member, AwayAt, SeatAt, behind_event, Inv}
use Rattle.run_laws.proofs.replaying.Facts.{put, offers_at, below_apart, let_go, let_go_served}
use Rattle.run_laws.proofs.replaying.Images.{image_at, image_beyond}
use Rattle.run_laws.proofs.replaying.Reached.{after_all}
use Rattle.run_laws.proofs.replaying.Silently.{served_tasks, served_image, asks, tells}
use Rattle.run_laws.proofs.replaying.Meeting.{meets_control}
use Rattle.run_laws.proofs.replaying.Parting.{IsReady, next, parted_is, freed_tasks, freed_image, takes, goes_on}
use Rattle.run_laws.proofs.replaying.Failing.{joins, live_below}
use Rattle.run_laws.proofs.replaying.Standing.{away_free}
use Rattle.run_laws.proofs.replaying.Matching.{Steps, step_inv, step_image}
use Rattle.common_lemmas.proofs.Numbers.{equal_self, lt_false}

module _ (x : Setting) where
  -- ---- one move that the original does not see

  pub record Unseen (past rest : List Event) (stage : Stage) (w : World (Copy x.L)) (e : Event) : Type 0 where
    pub can : can_move (twin x) w (Happen e) ≡ true
    pub inv : Inv x past rest stage (moved (twin x) w (Happen e))
    pub same : image x (moved (twin x) w (Happen e)).tasks ≡ image x w.tasks
    pub none : back x e ≡ None
    pub more : is_last e ≡ false

  no_back : (c e : ℕ) (i : ℤ) → stands_for (x.n.sort e) ≡ None → back x (R c e i) ≡ None
  no_back c e i h = ap (at_entry (λ f. R c f i)) h

  -- the controller meets a task
  meets_here : (past rest : List Event) (stage next' : Stage) (w : World (Copy x.L)) (inv : Inv x past rest stage w) (runs : w.ended ≡ false) (c e : ℕ) (i : ℤ) (op : Op) (ops : List Op) (own : Copy x.L)
      (m : c < x.p.size) → x.owner e ≡ control x → w.tasks (control x) ≡ live (Controlling (op ∷ ops)) → w.tasks c ≡ live own →
      calls_in is_any_form e i ((copy_ops x.p.ops x.n).offer own) ≡ true → waits_with (opens e i) ((copy_ops x.p.ops x.n).offer (Controlling (op ∷ ops))) ≡ true →
      stands_for (x.n.sort e) ≡ None → Inv x past rest next' (record { tasks = served_tasks x past rest w c m (Handing op ops) own; ended = w.ended }) → Unseen past rest next' w (R c e i)
  meets_here past rest stage next' w inv runs c e i op ops own m owner commands at calls waits none there = record {
    can = both (ap not runs) (both (offers_at (twin x).ops (calls_in is_any_form e i) (w.tasks c) own at calls)
        (ap (λ v. offers (twin x).ops (waits_with (opens e i)) (w.tasks v)) owner ∙ offers_at (twin x).ops (waits_with (opens e i)) (w.tasks (control x)) (Controlling (op ∷ ops)) commands waits));
    inv = subst (Inv x past rest next') (λ j. record { tasks = sym acts j; ended = w.ended }) there;
    same = ap (λ g. image x g) acts ∙ served_image x past rest w c m (Handing op ops) own at;
    none = no_back c e i none;
    more = refl;
  }
    where
      acts : acted (numbered (twin x)) w.tasks (R c e i) ≡ served_tasks x past rest w c m (Handing op ops) own
      acts = meets_control x past rest stage w inv runs c e i op ops own m owner commands at

  pub tell : (past rest : List Event) (a : ℕ) (w : World (Copy x.L)) → Inv x past rest (Acted a) w → Unseen past rest (Told a) w (R a x.n.done (pos a))
  tell past rest a w inv =
      let (l, at) = subst (λ b. SeatAt x (if b then Says else Away) a (w.tasks a)) (equal_self a) (inv.seats a inv.fits.1) in
      meets_here past rest (Acted a) (Told a) w inv inv.fits.0 a x.n.done (pos a) (Done a) (left x (after_all x past) rest) (Saying a l) inv.fits.1 x.owners.done inv.controls at
      (same_member-refl x.n.done (pos a)) (or_left (same_member x.n.done (pos a) x.n.done (pos a)) false (same_member-refl x.n.done (pos a)))
      (ap stands_for x.numbers.done) (tells x past rest w a inv.fits.1 l inv at)

  pub ask : (past rest : List Event) (e : Event) (tail : List Event) (given : List ℕ) (t : ℕ) (more : List ℕ) (w : World (Copy x.L)) → Inv x past rest (Giving e tail given (t ∷ more)) w →
      (l : x.L) → t < x.p.size → w.tasks t ≡ live (Based t l) → x.p.ops.can_step l ≡ false → Unseen past rest (Asked e tail given t more) w (R t x.n.go (pos t))
  ask past rest e tail given t more w inv l m at rests = ⊎_elim here
      (λ q. absurd (let k : Go t (permit_of e) ∷ grants (permit_of e) more (behind_event x (after_all x past) e tail) ≡ [] = q.0 in cc)) inv.controls
    where
      here : w.tasks (control x) ≡ live (Controlling (Go t (permit_of e) ∷ grants (permit_of e) more (behind_event x (after_all x past) e tail))) → Unseen past rest (Asked e tail given t more) w (R t x.n.go (pos t))
      here commands = meets_here past rest (Giving e tail given (t ∷ more)) (Asked e tail given t more) w inv inv.fits.0 t x.n.go (pos t) (Go t (permit_of e))
          (grants (permit_of e) more (behind_event x (after_all x past) e tail)) (Based t l) m x.owners.go commands at
          (ap (λ b. calls_in is_any_form x.n.go (pos t) (if b then Nothing else Calls Plain x.n.go (pos t))) rests ∙
          same_member-refl x.n.go (pos t))
          (or_left (same_member x.n.go (pos t) x.n.go (pos t)) false (same_member-refl x.n.go (pos t))) (ap stands_for x.numbers.go)
          (asks x past rest w t m l e tail given more inv at rests)

  -- the controller lets a task go
  parts_here : (past rest : List Event) (next' : Stage) (w : World (Copy x.L)) (runs : w.ended ≡ false) (b : ℕ) (m : b < x.p.size) (op : Op) (ops : List Op) (own k : Copy x.L) →
      w.tasks (control x) ≡ live (Handing op ops) → op_callers op ≡ b ∷ [] → w.tasks b ≡ record { local = own; standing = Served (control x) false } →
      copy_resumed x.p.ops x.n (Handing op ops) own ≡ k → under x.p.ops.nobody k ≡ under x.p.ops.nobody own →
      Inv x past rest next' (record { tasks = freed_tasks x past rest w b m ops k; ended = w.ended }) → Unseen past rest next' w (E (control x))
  parts_here past rest next' w runs b m op ops own k commands callers at resumes same there = record {
    can = both (ap not runs) (offers_at (twin x).ops is_finish (w.tasks (control x)) (Handing op ops) commands refl);
    inv = subst (Inv x past rest next') (λ j. record { tasks = sym acts j; ended = w.ended }) there;
    same = ap (λ g. image x g) acts ∙ freed_image x past rest w b m ops k own at same;
    none = ap (λ c. if c then Some (E (control x)) else None) (lt_false (control x) x.p.size (omega arith));
    more = refl;
  }
    where
      acts : acted (numbered (twin x)) w.tasks (E (control x)) ≡ freed_tasks x past rest w b m ops k
      acts =
          parted_is (twin x) w.tasks (control x) (Handing op ops) b [] commands callers (below_apart b (control x) m) ∙
          ap (λ y. put (put w.tasks (control x) (live (Controlling ops))) b (let_go (copy_resumed x.p.ops x.n (Handing op ops)) (control x) y)) at ∙
          ap (λ y. put (put w.tasks (control x) (live (Controlling ops))) b y)
          (let_go_served (copy_resumed x.p.ops x.n (Handing op ops)) (control x) (record { local = own; standing = Served (control x) false }) (equal_self (control x))) ∙
          ap (λ z. put (put w.tasks (control x) (live (Controlling ops))) b (live z)) resumes

  pub hear : (past rest : List Event) (a : ℕ) (w : World (Copy x.L)) → Inv x past rest (Told a) w → Unseen past rest (next x (after_all x past) rest).stage w (E (control x))
  hear past rest a w inv =
      let (l, at) = subst (λ c. SeatAt x (if c then Hears else Away) a (w.tasks a)) (equal_self a) (inv.seats a inv.fits.1) in
      parts_here past rest (next x (after_all x past) rest).stage w inv.fits.0 a inv.fits.1 (Done a) (left x (after_all x past) rest) (Saying a l) (Based a l) inv.controls refl at refl refl
      (goes_on x past rest w a inv.fits.1 l (next x (after_all x past) rest) inv at)

  pub take : (past rest : List Event) (e : Event) (tail : List Event) (given : List ℕ) (b : ℕ) (more : List ℕ) (w : World (Copy x.L)) → Inv x past rest (Asked e tail given b more) w →
      Unseen past rest (Giving e tail (b ∷ given) more) w (E (control x))
  take past rest e tail given b more w inv =
      let (l, at, rests) = subst (λ c. SeatAt x (if c then Asks else (if member b given then Holds (permit_of e) else Away)) b (w.tasks b)) (equal_self b) (inv.seats b inv.fits.4) in
      parts_here past rest (Giving e tail (b ∷ given) more) w inv.fits.0 b inv.fits.4 (Go b (permit_of e)) (grants (permit_of e) more (behind_event x (after_all x past) e tail)) (Based b l)
      (Holding b (permit_of e) l) inv.controls refl at refl refl (takes x past rest w b inv.fits.4 l e tail given more inv at rests)

  pub join : (past rest : List Event) (a : ℕ) (w : World (Copy x.L)) → Inv x past rest (Parted a) w → Unseen past rest (next x (after_all x past) rest).stage w (F (control x) (x.n.join a) (pos 0))
  join past rest a w inv = record {
    can = both (ap not inv.fits.0) (both
        (offers_at (twin x).ops (calls_in is_any_form (x.n.join a) (pos 0)) (w.tasks (control x)) (Controlling (Join a ∷ left x (after_all x past) rest)) inv.controls (same_member-refl (x.n.join a) (pos 0)))
        (ap (λ v. is_closed (w.tasks v).standing) (x.owners.join a inv.fits.1) ∙ completed_closed (w.tasks a).standing inv.fits.2));
    inv = subst (Inv x past rest (next x (after_all x past) rest).stage) (λ j. record { tasks = sym acts j; ended = w.ended }) (joins x past rest w inv.fits.0 a (next x (after_all x past) rest) inv);
    same = ap (λ g. image x g) acts ∙ image_beyond x w.tasks (control x) (live (Controlling (left x (after_all x past) rest))) (omega arith);
    none = ap (λ s. at_entry (λ f. F (control x) f (pos 0)) (stands_for s)) (x.numbers.join a);
    more = refl;
  }
    where
      acts : acted (numbered (twin x)) w.tasks (F (control x) (x.n.join a) (pos 0)) ≡ put w.tasks (control x) (live (Controlling (left x (after_all x past) rest)))
      acts = ap (λ (y : Seat (Copy x.L)). put w.tasks (control x) (live (copy_raised x.p.ops x.n y.local))) inv.controls

  -- ---- moves that the original does not see

  pub record Led (past rest : List Event) (stage : Stage) (w : World (Copy x.L)) : Type 0 where
    pub moves : List Move
    pub made : AreMoves (twin x) w moves
    pub silent : backs x (happened moves) ≡ []
    pub inv : Inv x past rest stage (world_after (twin x) w moves)
    pub same : image x (world_after (twin x) w moves).tasks ≡ image x w.tasks
    pub runs : (world_after (twin x) w moves).ended ≡ w.ended

  pub led_here : {past rest : List Event} {stage : Stage} {w : World (Copy x.L)} → Inv x past rest stage w → Led past rest stage w
  led_here inv = record { moves = []; made = tt; silent = refl; inv = inv; same = refl; runs = refl }

  pub led_on : {past rest : List Event} {stage next' : Stage} {w : World (Copy x.L)} {e : Event} → Unseen past rest stage w e → Led past rest next' (moved (twin x) w (Happen e)) → Led past rest next' w
  led_on {past} {rest} {stage} {next'} {w} {e} u l = record {
    moves = Happen e ∷ l.moves;
    made = (u.can, l.made);
    silent = ap (λ (o : Option Event). cons_option o (backs x (happened l.moves))) u.none ∙ l.silent;
    inv = l.inv;
    same = l.same ∙ u.same;
    runs = l.runs ∙ ap (λ b. b || w.ended) u.more;
  }

  -- To where the controller gives permits, or waits for ever.
  pub settle : (past rest : List Event) (stage : Stage) (w : World (Copy x.L)) → Inv x past rest stage w → w.ended ≡ false → (ready : Stage) × IsReady ready × Led past rest ready w
  settle past rest Held w inv runs = (Held, tt, led_here inv)
  settle past rest (Giving e tail given more) w inv runs = (Giving e tail given more, tt, led_here inv)
  settle past rest (Asked e tail given b more) w inv runs =
      let u = take past rest e tail given b more w inv in (Giving e tail (b ∷ given) more, tt, led_on u (led_here u.inv))
  settle past rest (Acted a) w inv runs =
      let u = tell past rest a w inv in
      let v = hear past rest a (moved (twin x) w (Happen (R a x.n.done (pos a)))) u.inv in
      ((next x (after_all x past) rest).stage, (next x (after_all x past) rest).ready, led_on u (led_on v (led_here v.inv)))
  settle past rest (Told a) w inv runs =
      let v = hear past rest a w inv in ((next x (after_all x past) rest).stage, (next x (after_all x past) rest).ready, led_on v (led_here v.inv))
  settle past rest (Parted a) w inv runs =
      let v = join past rest a w inv in ((next x (after_all x past) rest).stage, (next x (after_all x past) rest).ready, led_on v (led_here v.inv))
  settle past rest Over w inv runs = absurd (true≢false (sym inv.fits ∙ runs))

  -- ---- local steps of the original

  -- at such a stage each task is away, or has a permit
  pub calm : (stage : Stage) → IsReady stage → (t : ℕ) → (place stage t ≡ Away) ⊎ ((permit : Permit) × (place stage t ≡ Holds permit))
  calm Held ready t = inl refl
  calm (Giving e tail given more) ready t = go (member t given)
    where
      go : (b : Bool) → ((if b then Holds (permit_of e) else Away) ≡ Away) ⊎ ((permit : Permit) × ((if b then Holds (permit_of e) else Away) ≡ Holds permit))
      go true = inr (permit_of e, refl)
      go false = inl refl
  calm (Asked e tail given b more) ready t = absurd ready
  calm (Acted a) ready t = absurd ready
  calm (Told a) ready t = absurd ready
  calm (Parted a) ready t = absurd ready
  calm Over ready t = absurd ready

  -- a task that is away and free in the original
  pub away_based : (t : ℕ) (seat : Seat (Copy x.L)) → SeatAt x Away t seat → free_of x seat.standing ≡ Live → (l : x.L) × (seat ≡ live (Based t l))
  away_based t seat h free = go seat.standing refl h (sym (away_free x t seat.standing seat.local h) ∙ free)
    where
      go : (s : Standing) → seat.standing ≡ s → AwayAt x t s seat.local → seat.standing ≡ Live → (l : x.L) × (seat ≡ live (Based t l))
      go Live e k f = (k.0, seat_path k.1 e)
      go Waiting e k f = absurd k
      go Queued e k f = absurd k
      go (Served by abnormal) e k f = absurd (let q : Served by abnormal ≡ Live = sym e ∙ f in cc)
      go Completed e k f = absurd (let q : Completed ≡ Live = sym e ∙ f in cc)
      go Killed e k f = absurd (let q : Killed ≡ Live = sym e ∙ f in cc)

  -- who has a local step in the original has it in the copy
  pub steps_too : (past rest : List Event) (stage : Stage) (w : World (Copy x.L)) (inv : Inv x past rest stage w) (runs : w.ended ≡ false) → IsReady stage → (t : ℕ) →
      (image x w.tasks t).standing ≡ Live → x.p.ops.can_step (image x w.tasks t).local ≡ true → Steps x past rest stage w inv runs t
  steps_too past rest stage w inv runs ready t free can = ⊎_elim
      (λ pl. let (l, at) = away_based t (w.tasks t) (subst (λ z. SeatAt x z t (w.tasks t)) pl (inv.seats t m)) (ap (λ (y : Seat x.L). y.standing) (sym (image_at x t (w.tasks t) m)) ∙ free) in
      record { l = l; below = m; at = at; away = pl; can = ap x.p.ops.can_step (sym (local_is (Based t l) at)) ∙ can })
      (λ pl. let s : SeatAt x (Holds pl.0) t (w.tasks t) = subst (λ z. SeatAt x z t (w.tasks t)) pl.1 (inv.seats t m) in
      absurd (true≢false (sym can ∙ ap x.p.ops.can_step (local_is (Holding t pl.0 s.0) s.1) ∙ s.2)))
      (calm stage ready t)
    where
      m : t < x.p.size
      m = live_below x w t free

      local_is : (k : Copy x.L) → w.tasks t ≡ live k → (image x w.tasks t).local ≡ under x.p.ops.nobody k
      local_is k at = ap (λ (y : Seat x.L). y.local) (image_at x t (w.tasks t) m ∙ ap (image_seat x) at)

  pub record Mirrored (past rest : List Event) (stage : Stage) (w : World (Copy x.L)) (moves : List Move) : Type 0 where
    pub made : AreMoves (twin x) w moves
    pub inv : Inv x past rest stage (world_after (twin x) w moves)
    pub same : image_world x (world_after (twin x) w moves) ≡ world_after x.p (image_world x w) moves
    pub runs : (world_after (twin x) w moves).ended ≡ w.ended

  pub mirror : (past rest : List Event) (stage : Stage) → IsReady stage → (moves : List Move) (w : World (Copy x.L)) → Inv x past rest stage w → w.ended ≡ false →
      AreMoves x.p (image_world x w) moves → happened moves ≡ [] → Mirrored past rest stage w moves
  mirror past rest stage ready [] w inv runs made silent = record { made = tt; inv = inv; same = refl; runs = refl }
  mirror past rest stage ready (Happen e ∷ moves) w inv runs made silent = absurd (let k : e ∷ happened moves ≡ [] = silent in cc)
  mirror past rest stage ready (Step t ∷ moves) w inv runs made silent =
      let parts = and_parts (not w.ended) (is_live (image x w.tasks t).standing && x.p.ops.can_step (image x w.tasks t).local) made.0 in
      let more = and_parts (is_live (image x w.tasks t).standing) (x.p.ops.can_step (image x w.tasks t).local) parts.1 in
      let k = steps_too past rest stage w inv runs ready t (is-Live (image x w.tasks t).standing more.0) more.1 in
      let is : image_world x (moved (twin x) w (Step t)) ≡ moved x.p (image_world x w) (Step t) = (λ j. record { tasks = step_image x past rest stage w inv runs t k j; ended = w.ended }) in
      let r : Mirrored past rest stage (moved (twin x) w (Step t)) moves =
      mirror past rest stage ready moves (moved (twin x) w (Step t)) (step_inv x past rest stage w inv runs t k) runs (subst (λ v. AreMoves x.p v moves) (sym is) made.1) silent in
      record {
        made = (both (ap not runs) (both (ap (λ (y : Seat (Copy x.L)). is_live y.standing) k.at) (ap (λ (y : Seat (Copy x.L)). copy_steps x.p.ops x.n y.local) k.at ∙ k.can)), r.made);
        inv = r.inv;
        same = r.same ∙ ap (λ v. world_after x.p v moves) is;
        runs = r.runs;
      }

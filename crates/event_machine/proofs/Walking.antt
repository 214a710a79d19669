-- Moves that lead a world on: what its bases have led to, and how many local steps of each task can be made on purpose.
use Rattle.std.proofs.Common.{◌≡◌, ℕ, zero, suc, ◌<◌, ◌≤◌, ◌+◌, Bool, true, false, not, ◌==◌, if◌then◌else◌, List, [], ◌∷◌, ◌++◌, refl, sym, ap, ap₂, ◌∙◌, subst, ◌⊎◌, ⊎_elim, arith}
use Rattle.std.specs.Prelude.{nat_lt}
use Rattle.std.proofs.lemmas.Bool.{eqb-true, eqb-false, lt-ltb, le-ltb, ltb-false, cases_lt}
use Rattle.event_machine.specs.declared.Standing.TheVariants.{Live}
use Rattle.event_machine.specs.declared.Event.{Event}
use Rattle.event_machine.specs.States.{Seat, live, is_live}
use Rattle.event_machine.specs.Lawful.{IsLawful}
use Rattle.event_machine.specs.Programs.{Program}
use Rattle.event_machine.specs.Worlds.{World, Move, Step, Happen, can_move, moved, AreMoves, world_after, happened, counts_after, recount}
use Rattle.event_machine.specs.Settling.{ran, HasSteps, Leads, CountsFor, Follows}
use Rattle.event_machine.specs.Soundness.{IsSound}
use Rattle.event_machine.proofs.Basics.{both}
use Rattle.event_machine.proofs.Stepping.{step_before}
use Rattle.event_machine.proofs.Updates.{put_other}
use Rattle.event_machine.proofs.Sound.{sound_moved}
use Rattle.event_machine.proofs.Following.{same_base, follow_step, follow_event}
use Rattle.event_machine.proofs.Appends.{moves_append, world_append, happened_append, counts_append}
use Rattle.common_lemmas.proofs.Numbers.{equal_self}

module _ {L : Type 0} (p : Program L) where
  -- ---- what bases lead to, one list after the other

  pub leads_append : (xs ys : List Event) (w v u : World L) → Leads p w xs v → Leads p v ys u → Leads p w (xs ++ ys) u
  leads_append [] ys w v u h k = subst (λ z. Leads p z ys u) (sym h) k
  leads_append (x ∷ xs) ys w v u (z, f, h) k = (z, f, leads_append xs ys z v u h k)

  pub leads_split : (xs ys : List Event) (w u : World L) → Leads p w (xs ++ ys) u → (v : World L) × Leads p w xs v × Leads p v ys u
  leads_split [] ys w u h = (w, refl, h)
  leads_split (x ∷ xs) ys w u (z, f, h) = let (v, a, b) = leads_split xs ys z u h in (v, (z, f, a), b)

  -- each world follows itself
  pub follows_self : (w : World L) → Follows p w w (λ t. 0)
  follows_self w = record { ended = refl; each = λ t. same_base p (w.tasks t) (w.tasks t) refl }

  module _ (IsProper : L → Type 0) (lawful : IsLawful p.ops IsProper) where
    pub sound_moves : (moves : List Move) (w : World L) → IsSound p.ops IsProper w.tasks → AreMoves p w moves → IsSound p.ops IsProper (world_after p w moves).tasks
    sound_moves [] w sound h = sound
    sound_moves (move ∷ moves) w sound h = sound_moves moves (moved p w move) (sound_moved p IsProper lawful w move sound h.0) h.1

    -- Moves lead the bases to what their events lead to.
    pub follow_moves : (moves : List Move) (bases w : World L) (count : ℕ → ℕ) → IsSound p.ops IsProper w.tasks → Follows p bases w count → AreMoves p w moves →
        (last : World L) × Leads p bases (happened moves) last × Follows p last (world_after p w moves) (counts_after p w moves count)
    follow_moves [] bases w count sound f h = (bases, refl, f)
    follow_moves (Step t ∷ moves) bases w count sound f h =
        follow_moves moves bases (moved p w (Step t)) (recount p w (Step t) count) (sound_moved p IsProper lawful w (Step t) sound h.0) (follow_step p bases w count t f h.0) h.1
    follow_moves (Happen e ∷ moves) bases w count sound f h =
        let (next, fires, follows) = follow_event p IsProper lawful bases w count e f sound h.0 in
        let (last, leads, ends) = follow_moves moves next (moved p w (Happen e)) (recount p w (Happen e) count) (sound_moved p IsProper lawful w (Happen e) sound h.0) follows h.1 in
        (last, (next, fires, leads), ends)

  -- ---- local steps of one task

  -- Moves of local steps alone: they add these numbers to the counts, and leave the tasks that they do not move.
  pub record Walk (bases w : World L) (count add : ℕ → ℕ) : Type 0 where
    pub moves : List Move
    pub made : AreMoves p w moves
    pub silent : happened moves ≡ []
    pub runs : (world_after p w moves).ended ≡ w.ended
    pub follows : Follows p bases (world_after p w moves) (counts_after p w moves count)
    pub counts : (u : ℕ) → counts_after p w moves count u ≡ add u + count u
    pub others : (u : ℕ) → add u ≡ 0 → (world_after p w moves).tasks u ≡ w.tasks u

  -- m for t, and none for the others
  abbrev only : ℕ → ℕ → ℕ → ℕ
  only t m u = if u == t then m else 0

  zero_more : (n : ℕ) → n ≡ 0 + n
  zero_more n = omega arith

  one_more : (m n : ℕ) → m + suc n ≡ suc m + n
  one_more m n = omega arith

  walk : (m : ℕ) (bases w : World L) (count : ℕ → ℕ) (t : ℕ) → Follows p bases w count → w.ended ≡ false → (w.tasks t).standing ≡ Live →
      HasSteps p.ops (m + count t) (bases.tasks t).local → Walk bases w count (only t m)
  walk zero bases w count t f runs free h = record {
    moves = [];
    made = tt;
    silent = refl;
    runs = refl;
    follows = f;
    counts = λ u. none u (u == t);
    others = λ u e. refl;
  }
    where
      none : (u : ℕ) (b : Bool) → count u ≡ (if b then 0 else 0) + count u
      none u true = zero_more (count u)
      none u false = zero_more (count u)
  walk (suc m) bases w count t f runs free h = step (walk m bases (moved p w (Step t)) (recount p w (Step t) count) t (follow_step p bases w count t f can) runs
      (ap (λ b. (if b then live (p.ops.stepped (w.tasks t).local) else w.tasks t).standing) (equal_self t))
      (subst (λ n. HasSteps p.ops n (bases.tasks t).local) (sym (one_more m (count t)) ∙ ap (λ b. m + (if b then suc (count t) else count t)) (sym (equal_self t))) h))
    where
      made : (f.each t).steps ≡ count t
      made = subst (λ s. CountsFor s (count t) (f.each t).steps) (sym (f.each t).standing ∙ free) (f.each t).counted

      can : can_move p w (Step t) ≡ true
      can = both (ap not runs) (both (ap is_live free) (ap p.ops.can_step ((f.each t).local ∙ ap (λ n. ran p.ops n (bases.tasks t).local) made) ∙
          step_before p.ops (suc m + count t) (count t) (bases.tasks t).local (omega arith) h))

      step : Walk bases (moved p w (Step t)) (recount p w (Step t) count) (only t m) → Walk bases w count (only t (suc m))
      step r = record {
        moves = Step t ∷ r.moves;
        made = (can, r.made);
        silent = r.silent;
        runs = r.runs;
        follows = r.follows;
        counts = λ u. r.counts u ∙ added u (u == t);
        others = λ u e. stays u (u == t) refl e;
      }
        where
          added : (u : ℕ) (b : Bool) → (if b then m else 0) + (if b then suc (count u) else count u) ≡ (if b then suc m else 0) + count u
          added u true = one_more m (count u)
          added u false = refl

          stays : (u : ℕ) (b : Bool) → (u == t) ≡ b → (if b then suc m else 0) ≡ 0 → (world_after p w (Step t ∷ r.moves)).tasks u ≡ w.tasks u
          stays u true q e = absurd (omega arith)
          stays u false q e = r.others u (ap (λ b. if b then m else 0) q) ∙ put_other p w.tasks t (live (p.ops.stepped (w.tasks t).local)) u q

  -- ---- local steps of all tasks

  -- the numbers of the tasks below n
  abbrev below : ℕ → (ℕ → ℕ) → ℕ → ℕ
  below n add u = if nat_lt u n then add u else 0

  walk_same : (bases w : World L) (count add other : ℕ → ℕ) → ((u : ℕ) → add u ≡ other u) → Walk bases w count add → Walk bases w count other
  walk_same bases w count add other e r = subst (Walk bases w count) (λ i u. e u i) r

  walk_on : (bases w : World L) (count add more : ℕ → ℕ) (r : Walk bases w count add) →
      Walk bases (world_after p w r.moves) (counts_after p w r.moves count) more → Walk bases w count (λ u. more u + add u)
  walk_on bases w count add more r s = record {
    moves = r.moves ++ s.moves;
    made = moves_append p w r.moves s.moves r.made s.made;
    silent = happened_append r.moves s.moves ∙ ap₂ (λ xs ys. xs ++ ys) r.silent s.silent;
    runs = ap (λ (z : World L). z.ended) (world_append p w r.moves s.moves) ∙ s.runs ∙ r.runs;
    follows = subst (λ z. Follows p bases z (counts_after p w (r.moves ++ s.moves) count)) (sym (world_append p w r.moves s.moves))
        (subst (Follows p bases (world_after p (world_after p w r.moves) s.moves)) (sym (counts_append p w r.moves s.moves count)) s.follows);
    counts = λ u. ap (λ (c : ℕ → ℕ). c u) (counts_append p w r.moves s.moves count) ∙ s.counts u ∙ ap (λ n. more u + n) (r.counts u) ∙
        regroup (more u) (add u) (count u);
    others = λ u e. ap (λ (z : World L). z.tasks u) (world_append p w r.moves s.moves) ∙ s.others u (first_zero (more u) (add u) e) ∙ r.others u (second_zero (more u) (add u) e);
  }
    where
      regroup : (a b c : ℕ) → a + (b + c) ≡ (a + b) + c
      regroup a b c = omega arith

      first_zero : (a b : ℕ) → a + b ≡ 0 → a ≡ 0
      first_zero a b e = omega arith

      second_zero : (a b : ℕ) → a + b ≡ 0 → b ≡ 0
      second_zero a b e = omega arith

  below_none : (n : ℕ) (add : ℕ → ℕ) → below n add n ≡ 0
  below_none n add = ap (λ b. if b then add n else 0) (le-ltb n n (omega arith))

  below_more : (n : ℕ) (add : ℕ → ℕ) (u : ℕ) → (u == n) ≡ false → below n add u ≡ below (suc n) add u
  below_more n add u q = ap (λ b. if b then add u else 0) (⊎_elim
      (λ (l : u < n). lt-ltb u n l ∙ sym (lt-ltb u (suc n) (omega arith)))
      (λ (l : n ≤ u). le-ltb u n l ∙ sym (le-ltb u (suc n) (apart l)))
      (cases_lt u n))
    where
      apart : n ≤ u → suc n ≤ u
      apart l = ⊎_elim (λ (k : u < suc n). absurd (eqb-false u n q (omega arith))) (λ (k : suc n ≤ u). k) (cases_lt u (suc n))

  below_last : (n : ℕ) (add : ℕ → ℕ) → below (suc n) add n ≡ add n
  below_last n add = ap (λ b. if b then add n else 0) (lt-ltb n (suc n) (omega arith))

  pub walk_below : (n : ℕ) (bases w : World L) (count add : ℕ → ℕ) → Follows p bases w count → w.ended ≡ false →
      ((t : ℕ) → (add t ≡ 0) ⊎ (((w.tasks t).standing ≡ Live) × HasSteps p.ops (add t + count t) (bases.tasks t).local)) → Walk bases w count (below n add)
  walk_below zero bases w count add f runs free = record {
    moves = [];
    made = tt;
    silent = refl;
    runs = refl;
    follows = f;
    counts = λ u. zero_more (count u) ∙ ap (λ b. (if b then add u else 0) + count u) (sym (le-ltb u 0 (omega arith)));
    others = λ u e. refl;
  }
  walk_below (suc n) bases w count add f runs free = more (walk_below n bases w count add f runs free)
    where
      same_sum : (u : ℕ) (b : Bool) → (u == n) ≡ b → (if b then add n else 0) + below n add u ≡ below (suc n) add u
      same_sum u true q = subst (λ v. add n + below n add v ≡ below (suc n) add v) (sym (eqb-true u n q))
          (let none : below n add n ≡ 0 = below_none n add in let last : below (suc n) add n ≡ add n = below_last n add in omega arith)
      same_sum u false q = sym (zero_more (below n add u)) ∙ below_more n add u q

      none_here : add n ≡ 0 → (u : ℕ) → below n add u ≡ below (suc n) add u
      none_here e u = go (u == n) refl
        where
          go : (b : Bool) → (u == n) ≡ b → below n add u ≡ below (suc n) add u
          go true q = subst (λ v. below n add v ≡ below (suc n) add v) (sym (eqb-true u n q)) (below_none n add ∙ sym e ∙ sym (below_last n add))
          go false q = below_more n add u q

      more : Walk bases w count (below n add) → Walk bases w count (below (suc n) add)
      more r = ⊎_elim
          (λ e. walk_same bases w count (below n add) (below (suc n) add) (none_here e) r)
          (λ h. walk_same bases w count (λ u. only n (add n) u + below n add u) (below (suc n) add) (λ u. same_sum u (u == n) refl)
          (walk_on bases w count (below n add) (only n (add n)) r
          (walk (add n) bases (world_after p w r.moves) (counts_after p w r.moves count) n r.follows (r.runs ∙ runs)
          (ap (λ (x : Seat L). x.standing) (r.others n (below_none n add)) ∙ h.0)
          (subst (λ k. HasSteps p.ops k (bases.tasks n).local)
          (let e : counts_after p w r.moves count n ≡ below n add n + count n = r.counts n in let none : below n add n ≡ 0 = below_none n add in omega arith)
          h.1))))
          (free n)

  -- Each free task makes so many local steps more, where none is moved from n up.
  pub walk_all : (n : ℕ) (bases w : World L) (count add : ℕ → ℕ) → Follows p bases w count → w.ended ≡ false →
      ((t : ℕ) → (add t ≡ 0) ⊎ (((w.tasks t).standing ≡ Live) × HasSteps p.ops (add t + count t) (bases.tasks t).local)) →
      ((t : ℕ) → n ≤ t → add t ≡ 0) → Walk bases w count add
  walk_all n bases w count add f runs free beyond =
      walk_same bases w count (below n add) add (λ u. go u (nat_lt u n) refl) (walk_below n bases w count add f runs free)
    where
      go : (u : ℕ) (b : Bool) → nat_lt u n ≡ b → (if b then add u else 0) ≡ add u
      go u true q = refl
      go u false q = sym (beyond u (ltb-false u n q))

-- What an event of a replay text stands for is the same by the text's numbers and by the law of replaying.
use Rattle.std.proofs.Common.{◌≡◌, ℕ, zero, suc, ◌+◌, ◌<◌, ◌≤◌, ◌||◌, ◌&&◌, nat_lt, Bool, true, false, if◌then◌else◌, List, [], ◌∷◌, ◌++◌, length, slice_get, option_map, Option, Some, None, ◌⊎◌, inl, inr, ⊎_elim, refl, sym, ap, ap₂, ◌∙◌, subst, true≢false, arith}
use Rattle.std.proofs.lemmas.Bool.{cases_lt, ltb-true}
use Rattle.std.proofs.lemmas.Option.{none-some, slice_get_within}
use Rattle.common_lemmas.proofs.Numbers.{lt_false, lt_true, one_more}
use Rattle.common_lemmas.proofs.Truth.{if_false, if_true}
use Rattle.event_machine.specs.declared.Event.{Event}
use Rattle.event_machine.specs.declared.Event.TheVariants.{R, E, S, D, C, T, F, X, B, Z}
use Rattle.syn_event.specs.declared.numbering.EntryInfo.{EntryInfo}
use Rattle.syn_event.specs.Numbering.{Numbering, entry_at, owner_of, is_added_task}
use Rattle.syn_event.specs.Origin.{original_entry, original_call, unless_added as unless_added_task, back_of}
use Rattle.task_model.specs.Setting.{Setting}
use Rattle.replay_model.specs.ReplayTree.{last_task}
use Rattle.replay_model.specs.ReplayNumbers.{numbers_replayed}
use Rattle.run_laws.specs.replaying.Copies.{Sort, AtOriginal, AtShadow, AtGo, AtDone, AtHold, AtJoin, AtNever, AtStop, AtRest, Spots, HasOwners}
use Rattle.run_laws.specs.replaying.Laws.{stands_for, at_entry}
use Rattle.replay_structure.specs.spots.Places.{total, end_place, original_place, double_place, never_place, join_place, behind, last_sort, sort_at, bound, number_or, sort_of, counts, text_spots}
use Rattle.replay_structure.specs.spots.Laws.{IsInOrder}
use Rattle.replay_structure.specs.spots.inner.Origins.{HasOrigins, IsPlaced, meant}
use Rattle.replay_structure.proofs.spots.Sorted.{near-number, IsAt, at_original, at_double, at_never, at_join, at_last, is-at}
use Rattle.replay_structure.proofs.spots.Placed.{entry-suc, entries-long, near, tasks-are, some-entry, its-owner, have_owners}

module _ (far : Spots) (g : Setting) (order : IsInOrder g.numbers) (has : HasOrigins far g) where
  abbrev N : Numbering
  N = numbers_replayed g

  abbrev last : ℕ
  last = last_task g.numbers

  abbrev size : ℕ
  size = suc (last_task g.numbers)

  abbrev ks : List ℕ
  ks = counts g.numbers last 1

  abbrev n : Spots
  n = text_spots far g

  owners : HasOwners (owner_of g.numbers) size n (owner_of N)
  owners = have_owners g order far

  -- ---- calls

  -- the caller or the owner is added
  either-added : (a b : Bool) (r : Option ℕ) → a ≡ true ⊎ b ≡ true → (if a || b then None else r) ≡ None
  either-added true b r h = refl
  either-added false true r h = refl
  either-added false false r (inl e) = absurd (true≢false (sym e))
  either-added false false r (inr e) = absurd (true≢false (sym e))

  -- no number is told
  nothing : (b : Bool) (r : Option ℕ) → r ≡ None → (if b then None else r) ≡ None
  nothing true r h = refl
  nothing false r h = h

  none-added : (a b : Bool) (r : Option ℕ) → a ≡ false → b ≡ false → (if a || b then None else r) ≡ r
  none-added a b r e f = ap₂ (λ x y. if x || y then None else r) e f

  -- what an entry stands for
  abbrev Stands : ℕ → Option ℕ
  Stands e = stands_for (n.sort e)

  -- an entry of the program, or the double of one
  of-program : (c m i : ℕ) → c < size → (e : ℕ) → owner_of N e ≡ owner_of g.numbers (suc i) → i < total ks → original_entry N e ≡ Some (suc i) → original_call N c e ≡ Some (1 + i)
  of-program c m i l e own under told =
      let x = some-entry g order far i under in
      none-added (is_added_task N c) (is_added_task N (owner_of N e)) (original_entry N e) (has.tasks c l)
      (ap (is_added_task N) (own ∙ its-owner g order far (suc i) x.0 x.1) ∙ has.tasks x.0.owner (has.owned (suc i) x.0 x.1))
      ∙ told ∙ ap Some (sym (one_more i))

  -- one of the controller or of the idle task
  of-added : (c e : ℕ) → is_added_task N (owner_of N e) ≡ true → original_call N c e ≡ None
  of-added c e h = either-added (is_added_task N c) (is_added_task N (owner_of N e)) (original_entry N e) (inr h)

  by-sort : (c m : ℕ) (x : Sort) → IsAt ks m x → ((f : ℕ) → stands_for (behind 1 x) ≡ Some f → c < size) → original_call N c (suc m) ≡ stands_for (behind 1 x)
  by-sort c m (AtOriginal i) (at_original j l p) told =
      let num : n.original (suc i) ≡ suc m = near g (total ks) i (original_place ks) far.original l ∙ ap suc p in
      let y = some-entry g order far i l in
      of-program c m i (told (1 + i) refl) (suc m) (ap (owner_of N) (sym num) ∙ owners.original (suc i)) l (ap (original_entry N) (sym num) ∙ has.original i y.0 y.1)
  by-sort c m (AtShadow i) (at_double j l p) told =
      let num : n.shadow (suc i) ≡ suc m = near g (total ks) i (double_place ks) far.shadow l ∙ ap suc p in
      let y = some-entry g order far i l in
      of-program c m i (told (1 + i) refl) (suc m) (ap (owner_of N) (sym num) ∙ owners.shadow (suc i)) l (ap (original_entry N) (sym num) ∙ has.shadow i y.0 y.1)
  by-sort c m (AtNever t) (at_never u l p) told =
      let num : n.never (suc t) ≡ suc m = near g (length ks) t (never_place ks) far.never l ∙ ap suc p in
      nothing (is_added_task N c || is_added_task N (owner_of N (suc m))) (original_entry N (suc m)) (ap (original_entry N) (sym num) ∙ has.never t (subst (λ k. t < k) (tasks-are g last 1) l))
  by-sort c m (AtJoin t) (at_join u l p) told =
      let num : n.join (suc t) ≡ suc m = near g (length ks) t (join_place ks) far.join l ∙ ap suc p in
      nothing (is_added_task N c || is_added_task N (owner_of N (suc m))) (original_entry N (suc m)) (ap (original_entry N) (sym num) ∙ has.join t (subst (λ k. t < k) (tasks-are g last 1) l))
  by-sort c m x (at_last j l p) told = by_place j l p
    where
      one : (j : ℕ) → end_place ks + j ≡ m → end_place ks + suc j ≡ suc m
      one j e = let k : end_place ks + suc j ≡ suc (end_place ks + j) = omega arith in k ∙ ap suc e

      by_place : (j : ℕ) → j < 5 → end_place ks + j ≡ m → original_call N c (suc m) ≡ stands_for (behind 1 (last_sort j))
      by_place zero l e = of-added c (suc m) (ap (λ b. is_added_task N (owner_of N b)) (sym (one 0 e)) ∙ ap (is_added_task N) owners.go ∙ has.control)
      by_place (suc zero) l e = of-added c (suc m) (ap (λ b. is_added_task N (owner_of N b)) (sym (one 1 e)) ∙ ap (is_added_task N) owners.done ∙ has.control)
      by_place (suc (suc zero)) l e = of-added c (suc m) (ap (λ b. is_added_task N (owner_of N b)) (sym (one 2 e)) ∙ ap (is_added_task N) owners.hold ∙ has.control)
      by_place (suc (suc (suc zero))) l e = of-added c (suc m) (ap (λ b. is_added_task N (owner_of N b)) (sym (one 3 e)) ∙ ap (is_added_task N) owners.stop ∙ has.idle)
      by_place (suc (suc (suc (suc zero)))) l e = of-added c (suc m) (ap (λ b. is_added_task N (owner_of N b)) (sym (one 4 e)) ∙ ap (is_added_task N) owners.rest ∙ has.idle)
      by_place (suc (suc (suc (suc (suc j))))) l e = absurd (omega (arith, l))

  call-same : (c e : ℕ) → (e ≡ 0) ⊎ ((info : EntryInfo) × (entry_at N e ≡ Some info)) → ((f : ℕ) → Stands e ≡ Some f → c < size) → original_call N c e ≡ Stands e
  call-same c zero h told = nothing (is_added_task N c || is_added_task N (owner_of N 0)) None refl
  call-same c (suc m) (inl e) told = absurd (omega (arith, e))
  call-same c (suc m) (inr x) told =
      let within : m < bound ks = subst (λ b. m < b) (entries-long g) (slice_get_within N.entries m x.0 (sym (entry-suc N m) ∙ x.1)) in
      let s : n.sort (suc m) ≡ behind 1 (sort_at ks m) = near-number ks far.sort m within in
      by-sort c m (sort_at ks m) (is-at ks m within) (λ f e. told f (ap stands_for s ∙ e)) ∙ ap stands_for (sym s)

  -- ---- tasks

  -- a task is one of the program's or an added one
  task-same : (a : ℕ) (e : Event) → a < suc (suc size) → unless_added_task N a e ≡ (if nat_lt a size then Some e else None)
  task-same a e l =
      ⊎_elim
      (λ (k : a < size). if_false (is_added_task N a) None (Some e) (has.tasks a k) ∙ sym (if_true (nat_lt a size) (Some e) None (lt_true a size k)))
      (λ (k : size ≤ a). if_true (is_added_task N a) None (Some e) (added a k l) ∙ sym (if_false (nat_lt a size) (Some e) None (lt_false a size k)))
      (cases_lt a size)
    where
      added : (a : ℕ) → size ≤ a → a < suc (suc size) → is_added_task N a ≡ true
      added a k l =
          ⊎_elim
          (λ (j : a < suc size). ap (is_added_task N) (let e : a ≡ size = omega (arith, j, k) in e) ∙ has.control)
          (λ (j : suc size ≤ a). ap (is_added_task N) (let e : a ≡ suc size = omega (arith, j, l) in e) ∙ has.idle)
          (cases_lt a (suc size))

  abort-same : (t v : ℕ) → t < suc (suc size) → v < suc (suc size) →
      (if is_added_task N t || is_added_task N v then None else Some (B t v)) ≡ (if nat_lt t size && nat_lt v size then Some (B t v) else None)
  abort-same t v l k = by_tests (is_added_task N t) (is_added_task N v) (nat_lt t size) (nat_lt v size) (task-same t (B t v) l) (task-same v (B t v) k)
    where
      by_tests : (a b c d : Bool) → (if a then None else Some (B t v)) ≡ (if c then Some (B t v) else None) → (if b then None else Some (B t v)) ≡ (if d then Some (B t v) else None) →
          (if a || b then None else Some (B t v)) ≡ (if c && d then Some (B t v) else None)
      by_tests true b true d e f = absurd (none-some (B t v) e)
      by_tests true b false d e f = refl
      by_tests false b false d e f = absurd (none-some (B t v) (sym e))
      by_tests false b true d e f = f

  call-event : (make : ℕ → Event) (c e : ℕ) → original_call N c e ≡ Stands e → option_map make (original_call N c e) ≡ at_entry make (Stands e)
  call-event make c e h = ap (option_map make) h ∙ by_number (Stands e)
    where
      by_number : (o : Option ℕ) → option_map make o ≡ at_entry make o
      by_number None = refl
      by_number (Some f) = refl

  -- the caller of what stands for an event of the program is one of its tasks
  abbrev pub IsOwnCall : Event → Type 0
  IsOwnCall (R c e i) = (f : ℕ) → Stands e ≡ Some f → c < size
  IsOwnCall (C c e i) = (f : ℕ) → Stands e ≡ Some f → c < size
  IsOwnCall (T c e i) = (f : ℕ) → Stands e ≡ Some f → c < size
  IsOwnCall (F c e i) = (f : ℕ) → Stands e ≡ Some f → c < size
  IsOwnCall _ = Unit {0}

  pub back-same : (e : Event) → IsPlaced g e → IsOwnCall e → back_of N e ≡ meant n size e
  back-same (R c e i) h told = call-event (λ f. R c f i) c e (call-same c e h told)
  back-same (C c e i) h told = call-event (λ f. C c f i) c e (call-same c e h told)
  back-same (T c e i) h told = call-event (λ f. T c f i) c e (call-same c e h told)
  back-same (F c e i) h told = call-event (λ f. F c f i) c e (call-same c e h told)
  back-same (E a) h told = task-same a (E a) h
  back-same (S a) h told = task-same a (S a) h
  back-same (D a k) h told = task-same a (D a k) h
  back-same (X a) h told = task-same a (X a) h
  back-same (B t v) h told = abort-same t v h.0 h.1
  back-same Z h told = refl

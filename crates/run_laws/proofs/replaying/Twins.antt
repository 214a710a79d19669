-- The premises are met, for every program: its copy does what it is to do, and its entries can be numbered.
use Rattle.std.proofs.Common.{◌≡◌, ℕ, zero, suc, ◌+◌, ◌<◌, ◌≤◌, true, if◌then◌else◌, refl, sym, ap, ap₂, ◌∙◌, subst, ⊎_elim, true≢false, arith}
use Rattle.std.proofs.lemmas.Bool.{cases_lt}
use Rattle.std.specs.Prelude.{pos}
use Rattle.event_machine.specs.declared.CallForm.TheVariants.{Plain}
use Rattle.event_machine.specs.declared.Standing.TheVariants.{Live}
use Rattle.event_machine.specs.Offers.{Nothing, Calls}
use Rattle.event_machine.specs.States.{Seat}
use Rattle.run_laws.specs.replaying.Copies.{Sort, AtOriginal, AtShadow, AtGo, AtDone, AtHold, AtJoin, AtNever, AtStop, AtRest, AtNothing, Spots, IsNumbered, HasOwners, Copy, Based, Holding, Saying, Controlling, Handing, Idling, written, copy_ops, copy_steps, copy_stepped, copy_offer, copy_callers, copy_accepted, copy_finished, copy_resumed, copy_raised, copy_did}
use Rattle.run_laws.specs.replaying.Rewritings.{Setting, control, idle, start_copy, opening_copy, Reaches, Imitates, OpensSo}
use Rattle.run_laws.proofs.replaying.Tracking.{start_own, start_control, start_idle, start_past}

-- ---- the copy does what it is to do

module _ (x : Setting) where
  -- A state meets itself.
  abbrev pub IsSame : Copy x.L → Copy x.L → Type 0
  IsSame k m = k ≡ m

  at_once : {k m : Copy x.L} → k ≡ m → Reaches x (copy_ops x.p.ops x.n) (written x.out) IsSame k m
  at_once {k} {m} h = (0, h)

  pub copy_rests : (k : Copy x.L) → copy_steps x.p.ops x.n k ≡ true → copy_offer x.p.ops x.n k ≡ Nothing
  copy_rests (Based t l) h = ap (λ b. if b then Nothing else Calls Plain x.n.go (pos t)) h
  copy_rests (Holding t permit l) h = absurd (true≢false (sym h))
  copy_rests (Saying t l) h = absurd (true≢false (sym h))
  copy_rests (Controlling ops) h = absurd (true≢false (sym h))
  copy_rests (Handing op ops) h = absurd (true≢false (sym h))
  copy_rests Idling h = absurd (true≢false (sym h))

  pub copy_imitates : Imitates x (copy_ops x.p.ops x.n) (written x.out) IsSame
  copy_imitates = record {
    rests = copy_rests;
    output = λ k m h. ap (written x.out) h;
    steps = λ k m h fine can. (ap (copy_steps x.p.ops x.n) h ∙ can, at_once (ap (copy_stepped x.p.ops x.n) h));
    offers = λ k m h rests. (ap (copy_steps x.p.ops x.n) h ∙ rests, ap (copy_offer x.p.ops x.n) h);
    callers = λ k m h finishes. ap (copy_callers x.p.ops x.n) h;
    asked = λ k j t l permit ops h rests g. at_once (ap (copy_accepted x.p.ops x.n x.n.go (pos t) t k) g);
    told = λ k j t l ops h g. at_once (ap (copy_accepted x.p.ops x.n x.n.done (pos t) t k) g);
    handed = λ j op ops g. at_once (ap (copy_finished x.p.ops x.n) g);
    permitted = λ k j t l permit ops h rests g. at_once (ap₂ (copy_resumed x.p.ops x.n) g h);
    answered = λ k j t l ops h g. at_once (ap₂ (copy_resumed x.p.ops x.n) g h);
    joined = λ j t ops g. at_once (ap (copy_raised x.p.ops x.n) g);
    met = λ k j c o e i l m h calls g opened. at_once (ap₂ (copy_accepted x.p.ops x.n (x.n.original e) i c) h g);
    finished = λ k a l h finishes. at_once (ap (copy_finished x.p.ops x.n) h);
    resumed = λ k j c a e i l m outer has h calls g finishes. at_once (ap₂ (copy_resumed x.p.ops x.n) g h);
    raised = λ k c e i l h calls. at_once (ap (copy_raised x.p.ops x.n) h);
    took_else = λ k a l h can. at_once (ap (copy_did x.p.ops x.n x.p.ops.took_else) h);
    took_delay = λ k a d l h can. at_once (ap (copy_did x.p.ops x.n (x.p.ops.took_delay d)) h);
    call_else = λ k c e i l h calls. at_once (ap (copy_did x.p.ops x.n x.p.ops.took_else) h);
    expired = λ k c e i l h calls. at_once (ap (copy_did x.p.ops x.n (x.p.ops.took_delay 1)) h);
    failed = λ k c e i l h calls. at_once (ap (copy_raised x.p.ops x.n) h);
    passed = λ k t v l h names other. at_once (ap (copy_did x.p.ops x.n x.p.ops.passed) h);
  }

  pub copy_opens : OpensSo x (copy_ops x.p.ops x.n) (written x.out) IsSame (opening_copy x)
  copy_opens = record {
    line = refl;
    ended = refl;
    standing = λ t m. standing t m;
    beyond = λ t m. ap (λ (y : Seat (Copy x.L)). y.standing) (start_past x t m);
    tasks = λ t m. at_once (ap (λ (y : Seat (Copy x.L)). y.local) (start_own x t m));
    controls = at_once (ap (λ (y : Seat (Copy x.L)). y.local) (start_control x));
    idles = at_once (ap (λ (y : Seat (Copy x.L)). y.local) (start_idle x));
  }
    where
      standing : (t : ℕ) → t < suc (suc x.p.size) → (start_copy x t).standing ≡ Live
      standing t m = ⊎_elim
          (λ (k : t < x.p.size). ap (λ (y : Seat (Copy x.L)). y.standing) (start_own x t k))
          (λ (k : x.p.size ≤ t). ⊎_elim
          (λ (j : t < suc x.p.size). let e : control x ≡ t = omega (arith, k, j) in
          subst (λ u. (start_copy x u).standing ≡ Live) e (ap (λ (y : Seat (Copy x.L)). y.standing) (start_control x)))
          (λ (j : suc x.p.size ≤ t). let e : idle x ≡ t = omega (arith, j, m) in
          subst (λ u. (start_copy x u).standing ≡ Live) e (ap (λ (y : Seat (Copy x.L)). y.standing) (start_idle x)))
          (cases_lt t (suc x.p.size)))
          (cases_lt t x.p.size)

-- ---- numbers of entries

-- four numbers for each entry, and for each task
abbrev pub quad : ℕ → ℕ
quad zero = zero
quad (suc e) = suc (suc (suc (suc (quad e))))

abbrev pub decode : ℕ → ℕ → Sort
decode k zero = AtOriginal k
decode k (suc zero) = AtShadow k
decode k (suc (suc zero)) = AtJoin k
decode k (suc (suc (suc zero))) = AtNever k
decode k (suc (suc (suc (suc n)))) = decode (suc k) n

abbrev pub sort_of : ℕ → Sort
sort_of zero = AtGo
sort_of (suc zero) = AtDone
sort_of (suc (suc zero)) = AtHold
sort_of (suc (suc (suc zero))) = AtStop
sort_of (suc (suc (suc (suc zero)))) = AtRest
sort_of (suc (suc (suc (suc (suc n))))) = decode zero n

-- Numbers for the entries of every rewritten program.
abbrev pub numbering : Spots
numbering = record {
  original = λ e. suc (suc (suc (suc (suc (quad e)))));
  shadow = λ e. suc (suc (suc (suc (suc (suc (quad e))))));
  go = 0;
  done = 1;
  hold = 2;
  join = λ t. suc (suc (suc (suc (suc (suc (suc (quad t)))))));
  never = λ t. suc (suc (suc (suc (suc (suc (suc (suc (quad t))))))));
  stop = 3;
  rest = 4;
  sort = sort_of;
}

abbrev plus : ℕ → ℕ → ℕ
plus k zero = k
plus k (suc e) = plus (suc k) e

plus_is : (k e : ℕ) → plus k e ≡ k + e
plus_is k zero = omega arith
plus_is k (suc e) = plus_is (suc k) e ∙ omega arith

zero_plus : (e : ℕ) → plus zero e ≡ e
zero_plus e = plus_is zero e ∙ omega arith

original_at : (k e : ℕ) → decode k (quad e) ≡ AtOriginal (plus k e)
original_at k zero = refl
original_at k (suc e) = original_at (suc k) e

shadow_at : (k e : ℕ) → decode k (suc (quad e)) ≡ AtShadow (plus k e)
shadow_at k zero = refl
shadow_at k (suc e) = shadow_at (suc k) e

join_at : (k e : ℕ) → decode k (suc (suc (quad e))) ≡ AtJoin (plus k e)
join_at k zero = refl
join_at k (suc e) = join_at (suc k) e

never_at : (k e : ℕ) → decode k (suc (suc (suc (quad e)))) ≡ AtNever (plus k e)
never_at k zero = refl
never_at k (suc e) = never_at (suc k) e

pub numbering_numbers : IsNumbered numbering
numbering_numbers = record {
  original = λ e. original_at zero e ∙ ap AtOriginal (zero_plus e);
  shadow = λ e. shadow_at zero e ∙ ap AtShadow (zero_plus e);
  go = refl;
  done = refl;
  hold = refl;
  join = λ t. join_at zero t ∙ ap AtJoin (zero_plus t);
  never = λ t. never_at zero t ∙ ap AtNever (zero_plus t);
  stop = refl;
  rest = refl;
}

-- the owner of an entry, by what it is
abbrev pub owner_by : (ℕ → ℕ) → ℕ → Sort → ℕ
owner_by owner size (AtOriginal e) = owner e
owner_by owner size (AtShadow e) = owner e
owner_by owner size AtGo = size
owner_by owner size AtDone = size
owner_by owner size AtHold = size
owner_by owner size (AtJoin t) = t
owner_by owner size (AtNever t) = t
owner_by owner size AtStop = suc size
owner_by owner size AtRest = suc size
owner_by owner size AtNothing = size

pub numbering_owners : (owner : ℕ → ℕ) (size : ℕ) → HasOwners owner size numbering (λ e. owner_by owner size (sort_of e))
numbering_owners owner size = record {
  original = λ e. ap (owner_by owner size) (numbering_numbers.original e);
  shadow = λ e. ap (owner_by owner size) (numbering_numbers.shadow e);
  go = refl;
  done = refl;
  hold = refl;
  join = λ t m. ap (owner_by owner size) (numbering_numbers.join t);
  never = λ t m. ap (owner_by owner size) (numbering_numbers.never t);
  stop = refl;
  rest = refl;
}

-- Events put behind the lists of the tasks that they touch.
use Rattle.std.proofs.Common.{◌≡◌, ℕ, zero, suc, ◌+◌, ◌<◌, ◌≤◌, Bool, true, false, ◌&&◌, ◌==◌, if◌then◌else◌, List, [], ◌∷◌, ◌++◌, length, get_or, take, replicate, refl, sym, ap, ◌∙◌, subst, append_assoc, arith}
use Rattle.std.proofs.lemmas.Bool.{eqb-true, eqb-false}
use Rattle.std.proofs.lemmas.List.{take_more, take_all, append-nil, get_or-set_same, get_or-set_other, length-set}
use Rattle.common_lemmas.proofs.Numbers.{unequal_turned, lt_true}
use Rattle.event_machine.specs.declared.Event.{Event}
use Rattle.event_machine.specs.Soundness.{times}
use Rattle.event_machine.specs.progress.Known.{Known, known_at_start, known, touches}
use Rattle.syn_order.specs.Orders.{AreAdmitted, split}
use Rattle.syn_order.specs.Laws.{IsSource}
use Rattle.syn_order.specs.inner.Lists.{at_place, put_behind}
use Rattle.syn_order.specs.inner.Callers.{AreTouched}
use Rattle.syn_order.proofs.Touching.{one, times_last}
use Rattle.syn_order.proofs.Following.{split_last}
use Rattle.syn_order.proofs.Carried.{splits_by}

replicate_joined : {A : Type 0} (m n : ℕ) (x : A) → replicate m x ++ replicate n x ≡ replicate (m + n) x
replicate_joined zero n x = ap (λ k. replicate k x) (plain n)
  where
    plain : (n : ℕ) → n ≡ 0 + n
    plain n = omega arith
replicate_joined (suc m) n x = ap (λ xs. x ∷ xs) (replicate_joined m n x) ∙ ap (λ k. replicate k x) (more m n)
  where
    more : (m n : ℕ) → suc (m + n) ≡ suc m + n
    more m n = omega arith

-- the list at a place, once x stands behind that at another
pub put_at : {A : Type 0} (lists : List (List A)) (t : ℕ) (x : A) (u : ℕ) → u < length lists → at_place (put_behind lists t x) u ≡ at_place lists u ++ replicate (one (t == u)) x
put_at lists t x u l = go (t == u) refl
  where
    go : (b : Bool) → (t == u) ≡ b → at_place (put_behind lists t x) u ≡ at_place lists u ++ replicate (one b) x
    go true q = subst (λ v. at_place (put_behind lists v x) u ≡ at_place lists u ++ x ∷ []) (sym (eqb-true t u q)) (get_or-set_same lists u (at_place lists u ++ x ∷ []) [] l)
    go false q = get_or-set_other lists t u (at_place lists t ++ x ∷ []) [] (eqb-false u t (unequal_turned t u q)) ∙ sym (append-nil (at_place lists u))

-- one task more has the event
pub put_further : (old now new : List (List Event)) (tasks : List ℕ) (i d : ℕ) (e : Event) (u : ℕ) → i < length tasks → u < length now →
    at_place now u ≡ at_place old u ++ replicate (times u (take i tasks)) e → new ≡ put_behind now (get_or tasks i d) e → at_place new u ≡ at_place old u ++ replicate (times u (take (i + 1) tasks)) e
put_further old now new tasks i d e u l m h g =
    ap (λ ls. at_place ls u) g ∙ put_at now (get_or tasks i d) e u m ∙ ap (λ xs. xs ++ replicate (one (get_or tasks i d == u)) e) h
    ∙ append_assoc (at_place old u) (replicate (times u (take i tasks)) e) (replicate (one (get_or tasks i d == u)) e)
    ∙ ap (λ xs. at_place old u ++ xs) (replicate_joined (times u (take i tasks)) (one (get_or tasks i d == u)) e
    ∙ ap (λ k. replicate k e) (sym (ap (times u) (take_more tasks i d l) ∙ times_last u (take i tasks) (get_or tasks i d))))

-- one event more is split
pub split_further : (owner : ℕ → ℕ) (n : ℕ) (events : List Event) (i : ℕ) (d : Event) (k : Known) (now new : List (List Event)) (touched given : List ℕ) → i < length events → given ≡ touched →
    k ≡ known owner n (take i events) → length k.parties ≡ n → AreTouched owner k (get_or events i d) touched →
    ((u : ℕ) → u < n → at_place now u ≡ split owner (known_at_start n) (take i events) u) →
    ((u : ℕ) → u < n → at_place new u ≡ at_place now u ++ replicate (times u given) (get_or events i d)) →
    (u : ℕ) → u < n → at_place new u ≡ split owner (known_at_start n) (take (i + 1) events) u
split_further owner n events i d k now new touched given l same q s t h g u m =
    g u m ∙ ap (λ ts. at_place now u ++ replicate (times u ts) (get_or events i d)) same ∙ ap (λ xs. xs ++ replicate (times u touched) (get_or events i d)) (h u m)
    ∙ ap (λ xs. split owner (known_at_start n) (take i events) u ++ xs) (ap (λ c. replicate c (get_or events i d)) (t u ∙ ap (λ b. one (touches owner k (get_or events i d) u && b)) (lt_true u (length k.parties) (subst (λ v. u < v) (sym s) m)))
    ∙ as_list (touches owner k (get_or events i d) u) ∙ ap (λ v. if touches owner v (get_or events i d) u then (get_or events i d) ∷ [] else []) q)
    ∙ sym (ap (λ xs. split owner (known_at_start n) xs u) (take_more events i d l) ∙ split_last owner (known_at_start n) (take i events) (get_or events i d) u)
  where
    as_list : (b : Bool) → replicate (one (b && true)) (get_or events i d) ≡ (if b then get_or events i d ∷ [] else [])
    as_list true = refl
    as_list false = refl

-- before the first event each list is empty
pub put_none : {A : Type 0} (xs : List A) (x : A) → xs ≡ xs ++ replicate 0 x
put_none xs x = sym (append-nil xs)

-- as many lists as before
pub as_many_put : {A : Type 0} (old new : List (List A)) (t : ℕ) (x : A) → new ≡ put_behind old t x → length new ≡ length old
as_many_put old new t x h = ap length h ∙ length-set old t (at_place old t ++ x ∷ [])

-- all events are split
pub source_of : (owner : ℕ → ℕ) (n : ℕ) (events : List Event) (i : ℕ) (lists : List (List Event)) → length events ≤ i → AreAdmitted owner (known_at_start n) (take i events) → length lists ≡ n →
    ((u : ℕ) → u < n → at_place lists u ≡ split owner (known_at_start n) (take i events) u) → IsSource owner n lists events
source_of owner n events i lists l a q h = record {
  admitted = subst (AreAdmitted owner (known_at_start n)) whole a;
  lists_are = splits_by owner n (known_at_start n) events lists q (λ t m. ap (λ xs. split owner (known_at_start n) xs t) (sym whole) ∙ sym (h t m));
}
  where
    whole : take i events ≡ events
    whole = take_all i events l

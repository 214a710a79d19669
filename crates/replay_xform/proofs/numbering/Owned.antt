-- The entries of each task, sorted by their owners.
use Rattle.std.proofs.Common.{◌≡◌, ℕ, zero, suc, ◌+◌, ◌-◌, ◌<◌, ◌≤◌, ◌==◌, Bool, true, false, cond, List, [], ◌∷◌, ◌++◌, length, map, take, get_or, replicate, slice_set, Vec, Result, Ok, Err, OnOk, refl, sym, ap, ◌∙◌, arith, append_assoc, if◌then◌else◌, ◌⊎◌, inl, inr}
use Rattle.std.specs.List.{filter}
use Rattle.std.specs.declared.alloc.Global.{Global}
use Rattle.std.proofs.lemmas.List.{take_more, map-append, append-nil, length-map, length-take-le}
use Rattle.std.proofs.lemmas.List.Elements.{filter-append}
use Rattle.std.proofs.lemmas.Bool.Decides.{Decides-eqb}
use Rattle.ada_tree.specs.declared.shortage.Memory.{Memory}
use Rattle.syn_event.specs.declared.numbering.EntryInfo.{EntryInfo}
use Rattle.replay_asking.specs.Voice.{Voice}
use Rattle.replay_xform.specs.numbering.Replayed.{lists_from, infos_of, infos_from}
use Rattle.replay_xform.specs.numbering.inner.Owners.{put_at, put_for}
use Rattle.common_lemmas.proofs.Numbers.{unequal}

-- ---- lists by their owners

-- before any entry
pub none-yet : (n t : ℕ) → lists_from [] n t ≡ replicate n []
none-yet zero t = refl
none-yet (suc n) t = ap (λ ls. [] ∷ ls) (none-yet n (t + 1))

pub replicate-more : {X : Type 0} (n : ℕ) (x : X) → replicate n x ++ x ∷ [] ≡ replicate (n + 1) x
replicate-more zero x = refl
replicate-more (suc n) x =
    let e : suc (n + 1) ≡ suc n + 1 = omega arith in
    ap (λ l. x ∷ l) (replicate-more n x) ∙ ap (λ k. replicate k x) e

one-filtered : (xs : List EntryInfo) (x : EntryInfo) (t : ℕ) → (if x.owner == t then filter (λ y. y.owner == t) xs ++ x ∷ [] else filter (λ y. y.owner == t) xs) ≡ filter (λ y. y.owner == t) (xs ++ x ∷ [])
one-filtered xs x t = by (x.owner == t) ∙ sym (filter-append (λ y. y.owner == t) xs (x ∷ []))
  where
    by : (b : Bool) → cond b (filter (λ y. y.owner == t) xs ++ x ∷ []) (filter (λ y. y.owner == t) xs) ≡ filter (λ y. y.owner == t) xs ++ cond b (x ∷ []) []
    by true = refl
    by false = sym (append-nil (filter (λ y. y.owner == t) xs))

-- one entry more
pub one-more : (xs : List EntryInfo) (x : EntryInfo) (n t : ℕ) → put_for x (lists_from xs n t) t ≡ lists_from (xs ++ x ∷ []) n t
one-more xs x zero t = refl
one-more xs x (suc n) t = λ i. one-filtered xs x t i ∷ one-more xs x n (t + 1) i

pub lists-turn :
    (xs : List EntryInfo) (i n : ℕ) (d : EntryInfo) (before behind : List (List EntryInfo)) →
    i < length xs → before ≡ lists_from (take i xs) n 1 → behind ≡ put_for (get_or xs i d) before 1 → behind ≡ lists_from (take (i + 1) xs) n 1
lists-turn xs i n d before behind within so_far step =
    step
    ∙ ap (λ ls. put_for (get_or xs i d) ls 1) so_far
    ∙ one-more (take i xs) (get_or xs i d) n 1
    ∙ ap (λ ys. lists_from ys n 1) (sym (take_more xs i d within))

-- ---- one list

-- an entry goes behind those of the list at a place
pub set-at : (ls : List (Vec EntryInfo Global)) (k : ℕ) (d l : Vec EntryInfo Global) (x : EntryInfo) → k < length ls → l.items ≡ (get_or ls k d).items ++ x ∷ [] → map (λ l. l.items) (slice_set ls k l) ≡ put_at k x (map (λ l. l.items) ls)
set-at [] k d l x within is = absurd (omega (arith, within))
set-at (m ∷ ls) zero d l x within is = ap (λ i. i ∷ map (λ l. l.items) ls) is
set-at (m ∷ ls) (suc k) d l x within is = ap (λ i. m.items ∷ i) (set-at ls k d l x (omega (arith, within)) is)

-- where no list is the owner's
pub none-for : (x : EntryInfo) (ls : List (List EntryInfo)) (t : ℕ) → (x.owner < t) ⊎ (t + length ls ≤ x.owner) → put_for x ls t ≡ ls
none-for x [] t out = refl
none-for x (l ∷ ls) t out =
    let other : (x.owner == t) ≡ false = unequal x.owner t (λ e. elim out [ inl h ↦ omega (arith, h, e) | inr h ↦ omega (arith, h, e) ]) in
    λ i. cond (other i) (l ++ x ∷ []) l ∷ none-for x ls (t + 1) (further out) i
  where
    further : (x.owner < t) ⊎ (t + suc (length ls) ≤ x.owner) → (x.owner < t + 1) ⊎ (t + 1 + length ls ≤ x.owner)
    further (inl h) = inl (omega (arith, h))
    further (inr h) = inr (omega (arith, h))

-- the list at a place is the owner's
pub at-owner : (x : EntryInfo) (ls : List (List EntryInfo)) (t k : ℕ) → x.owner ≡ t + k → k < length ls → put_at k x ls ≡ put_for x ls t
at-owner x [] t k is within = absurd (omega (arith, within))
at-owner x (l ∷ ls) t zero is within =
    let own : (x.owner == t) ≡ true = (Decides-eqb x.owner t).1 (omega (arith, is)) in
    let rest : put_for x ls (t + 1) ≡ ls = none-for x ls (t + 1) (inl (omega (arith, is))) in
    sym (λ i. cond (own i) (l ++ x ∷ []) l ∷ rest i)
at-owner x (l ∷ ls) t (suc k) is within =
    let other : (x.owner == t) ≡ false = unequal x.owner t (λ e. omega (arith, is, e)) in
    let rest : put_for x ls (t + 1) ≡ put_at k x ls = sym (at-owner x ls (t + 1) k (omega (arith, is)) (omega (arith, within))) in
    sym (λ i. cond (other i) (l ++ x ∷ []) l ∷ rest i)

-- a list that is there, by the owner's number
pub put-there :
    (x : EntryInfo) (ls new : List (List EntryInfo)) (k : ℕ) (done : Result (Unit {0}) Memory) →
    k + 1 ≡ x.owner → k < length ls → OnOk done (new ≡ put_at k x ls) → OnOk done (new ≡ put_for x ls 1)
put-there x ls new k (Err e) is within put = tt
put-there x ls new k (Ok u) is within put = put ∙ at-owner x ls 1 k (omega (arith, is)) within

-- ---- entries of tasks

pub infos-append : (v : Voice) (ls : List (List EntryInfo)) (t : ℕ) (own : List EntryInfo) → infos_from v t (ls ++ own ∷ []) ≡ infos_from v t ls ++ infos_of v (t + length ls) own
infos-append v [] t own =
    let e : t + 0 ≡ t = omega arith in
    append-nil (infos_of v t own) ∙ ap (λ n. infos_of v n own) (sym e)
infos-append v (l ∷ ls) t own =
    let e : t + 1 + length ls ≡ t + suc (length ls) = omega arith in
    ap (λ rest. infos_of v t l ++ rest) (infos-append v ls (t + 1) own)
    ∙ sym (append_assoc (infos_of v t l) (infos_from v (t + 1) ls) (infos_of v (t + 1 + length ls) own))
    ∙ ap (λ n. (infos_of v t l ++ infos_from v (t + 1) ls) ++ infos_of v n own) e

pub infos-turn :
    (v : Voice) (ls : List (Vec EntryInfo Global)) (i task : ℕ) (l : Vec EntryInfo Global) (old before behind : List EntryInfo) →
    i < length ls → l ≡ get_or ls i l → task ≡ i + 1 →
    before ≡ old ++ infos_from v 1 (map (λ l. l.items) (take i ls)) →
    behind ≡ before ++ infos_of v task l.items →
    behind ≡ old ++ infos_from v 1 (map (λ l. l.items) (take (i + 1) ls))
infos-turn v ls i task l old before behind within at number so_far step =
    let e : task ≡ 1 + length (map (λ l. l.items) (take i ls)) = omega (arith, number, within, length-map (take i ls) (λ l. l.items), length-take-le i ls (omega (arith, within))) in
    step
    ∙ (λ j. so_far j ++ infos_of v (e j) ((at j).items))
    ∙ append_assoc old (infos_from v 1 (map (λ l. l.items) (take i ls))) (infos_of v (1 + length (map (λ l. l.items) (take i ls))) (get_or ls i l).items)
    ∙ ap (λ zs. old ++ zs)
    (sym (infos-append v (map (λ l. l.items) (take i ls)) 1 (get_or ls i l).items)
    ∙ ap (infos_from v 1) (sym (map-append (λ l. l.items) (take i ls) (get_or ls i l ∷ [])) ∙ ap (map (λ l. l.items)) (sym (take_more ls i l within))))

-- Lists written one after the other: what is written behind each, and where one of them fails.
use Rattle.std.proofs.Common.{◌≡◌, ℕ, suc, ◌+◌, ◌<◌, List, [], ◌∷◌, ◌++◌, length, take, drop, map, get_or, Option, Ok, Err, ap, ◌∙◌, sym, subst, arith, add-one}
use Rattle.std.proofs.lemmas.List.{length-take-le, take-map, get_or-map}
use Rattle.std.proofs.Math.Seq.{take-suc, split_at}
use Rattle.ded_io.specs.Written.{◌⧺◌, Wrote}
use Rattle.ded_io.proofs.Writes.{wrote_all, wrote_then, wrote_stop}
use Rattle.event_machine.specs.declared.Event.{Event}
use Rattle.seq_file.specs.Lists.{list_text, lists_text}
use Rattle.seq_file.proofs.ListTexts.{lists-append, list-one}
use Rattle.common_lemmas.proofs.Lists.{mapped_length}

front-length : (xs : List (List Event)) (i : ℕ) → i < length xs → length (take i xs) ≡ i
front-length xs i within = length-take-le i xs (omega (arith, within))

lists-next : (xs : List (List Event)) (i : ℕ) (x : List Event) → i < length xs → x ≡ get_or xs i x →
    lists_text 0 (take (i + 1) xs) ≡ lists_text 0 (take i xs) ⧺ list_text i x
unfolding ◌⧺◌
lists-next xs i x within is_x =
    let here : 0 + length (take i xs) ≡ i = omega (arith, front-length xs i within) in
    ap (λ n. lists_text 0 (take n xs)) (add-one i)
    ∙ ap (lists_text 0) (take-suc xs i x within)
    ∙ lists-append 0 (take i xs) (get_or xs i x ∷ [])
    ∙ ap (λ n. lists_text 0 (take i xs) ++ lists_text n (get_or xs i x ∷ [])) here
    ∙ ap (λ t. lists_text 0 (take i xs) ++ t) (list-one i (get_or xs i x) ∙ ap (list_text i) (sym is_x))

lists-parts : (xs : List (List Event)) (i : ℕ) (x : List Event) → i < length xs → x ≡ get_or xs i x →
    lists_text 0 xs ≡ lists_text 0 (take i xs) ⧺ (list_text i x ⧺ lists_text (i + 1) (drop (suc i) xs))
unfolding ◌⧺◌
lists-parts xs i x within is_x =
    let here : 0 + length (take i xs) ≡ i = omega (arith, front-length xs i within) in
    ap (lists_text 0) (split_at xs i x within)
    ∙ lists-append 0 (take i xs) (get_or xs i x ∷ drop (suc i) xs)
    ∙ ap (λ n. lists_text 0 (take i xs) ++ lists_text n (get_or xs i x ∷ drop (suc i) xs)) here
    ∙ ap (λ y. lists_text 0 (take i xs) ++ lists_text i (y ∷ drop (suc i) xs)) (sym is_x)

-- a list that went well: one more is written
wrote_list : (A B C E : Type 0) (xs : List (List Event)) (i : ℕ) (m : List Event) (x : A) (y : B) (z : C) (old mid new : Option (List ℕ)) →
    i < length xs → m ≡ get_or xs i m →
    Wrote {E = E} (Ok x) old mid (lists_text 0 (take i xs)) → Wrote {E = E} (Ok y) mid new (list_text i m) → Wrote {E = E} (Ok z) old new (lists_text 0 (take (i + 1) xs))
wrote_list A B C E xs i m x y z old mid new within is_m done turn =
    let P : List ℕ → Type 0 = λ t. Wrote {E = E} (Ok z) old new t in
    subst P (sym (lists-next xs i m within is_m)) (wrote_all B C E E y z old new _ (wrote_then A B E E x (Ok y) old mid new _ (list_text i m) done turn))

-- a list that failed: a front of all lists is written
wrote_list_stop : (A B C E F : Type 0) (xs : List (List Event)) (i : ℕ) (m : List Event) (x : A) (y : E) (z : F) (old mid new : Option (List ℕ)) →
    i < length xs → m ≡ get_or xs i m →
    Wrote {E = E} (Ok x) old mid (lists_text 0 (take i xs)) → Wrote {A = B} (Err y) mid new (list_text i m) → Wrote {A = C} (Err z) old new (lists_text 0 xs)
wrote_list_stop A B C E F xs i m x y z old mid new within is_m done turn =
    let rest : List ℕ = lists_text (i + 1) (drop (suc i) xs) in
    let P : List ℕ → Type 0 = λ t. Wrote {A = C} (Err z) old new t in
    subst P (sym (lists-parts xs i m within is_m)) (wrote_then A C E F x (Err z) old mid new _ (list_text i m ⧺ rest) done (wrote_stop B C E F y z mid new (list_text i m) rest turn))

item-there : {X : Type 0} (f : X → List Event) (xs : List X) (i : ℕ) (v : X) → i < length xs → v ≡ get_or xs i v → f v ≡ get_or (map f xs) i (f v)
item-there f xs i v within is_v = ap f is_v ∙ sym (get_or-map f xs i v (f v) within)

-- the same for lists that are kept as values of another type
pub wrote_item : (X A B C E : Type 0) (f : X →
    List Event) (xs : List X) (i task : ℕ) (v : X) (m : List Event) (x : A) (y : B) (z : C) (old mid new : Option (List ℕ)) → i < length xs →
    v ≡ get_or xs i v → m ≡ f v → task ≡ i →
    Wrote {E = E} (Ok x) old mid (lists_text 0 (map f (take i xs))) → Wrote {E = E} (Ok y) mid new (list_text task m) → Wrote {E = E} (Ok z) old new (lists_text 0 (map f (take (i + 1) xs)))
wrote_item X A B C E f xs i task v m x y z old mid new within is_v is_m is_task done turn =
    let P : List ℕ → Type 0 = λ t. Wrote {E = E} (Ok x) old mid t in
    let Q : List ℕ → Type 0 = λ t. Wrote {E = E} (Ok y) mid new t in
    let R : List ℕ → Type 0 = λ t. Wrote {E = E} (Ok z) old new t in
    subst R (ap (lists_text 0) (take-map f (i + 1) xs))
    (wrote_list A B C E (map f xs) i (f v) x y z old mid new (omega (arith, within, mapped_length f xs)) (item-there f xs i v within is_v)
    (subst P (ap (lists_text 0) (sym (take-map f i xs))) done)
    (subst Q (ap (list_text task) is_m ∙ ap (λ n. list_text n (f v)) is_task) turn))

pub wrote_item_stop : (X A B C E F : Type 0) (f : X →
    List Event) (xs : List X) (i task : ℕ) (v : X) (m : List Event) (x : A) (y : E) (z : F) (old mid new : Option (List ℕ)) → i < length xs →
    v ≡ get_or xs i v → m ≡ f v → task ≡ i →
    Wrote {E = E} (Ok x) old mid (lists_text 0 (map f (take i xs))) → Wrote {A = B} (Err y) mid new (list_text task m) → Wrote {A = C} (Err z) old new (lists_text 0 (map f xs))
wrote_item_stop X A B C E F f xs i task v m x y z old mid new within is_v is_m is_task done turn =
    let P : List ℕ → Type 0 = λ t. Wrote {E = E} (Ok x) old mid t in
    let Q : List ℕ → Type 0 = λ t. Wrote {A = B} (Err y) mid new t in
    wrote_list_stop A B C E F (map f xs) i (f v) x y z old mid new (omega (arith, within, mapped_length f xs)) (item-there f xs i v within is_v)
    (subst P (ap (lists_text 0) (sym (take-map f i xs))) done)
    (subst Q (ap (list_text task) is_m ∙ ap (λ n. list_text n (f v)) is_task) turn)

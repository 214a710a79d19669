-- Writes of a list's members by a loop over an index: what is written behind each turn, and where one of them fails.
use Rattle.std.specs.Prelude.{◌≡◌, ◌++◌, ◌+◌, ◌<◌, [], ◌∷◌, ℕ, List, Option, Ok, Err, length, take, drop}
use Rattle.std.proofs.Common.{suc, sym, ap, ◌∙◌, subst, get_or, add-one}
use Rattle.std.proofs.lemmas.List.{append-nil}
use Rattle.std.proofs.Math.Seq.{take-suc, take-length, split_at}
use Rattle.ded_io.specs.Written.{◌⧺◌, each_text, Wrote}
use Rattle.ded_io.proofs.Writes.{joined, joined_nil, joined_assoc, wrote_all, wrote_none, wrote_then, wrote_stop}

-- the texts of two lists, one behind the other, are those of both
pub each_text-append : (X : Type 0) (text : X → List ℕ) (xs ys : List X) → each_text text (xs ++ ys) ≡ each_text text xs ⧺ each_text text ys
each_text-append X text [] ys = sym (joined_nil (each_text text ys))
each_text-append X text (x ∷ xs) ys =
    ap (λ t. text x ⧺ t) (each_text-append X text xs ys) ∙ sym (joined_assoc (text x) (each_text text xs) (each_text text ys))

-- the text of one member is its own
pub each_text-one : (X : Type 0) (text : X → List ℕ) (x : X) → each_text text (x ∷ []) ≡ text x
each_text-one X text x = joined (text x) [] ∙ append-nil (text x)

-- one more member: its text comes behind the earlier ones
pub each_text-next : (X : Type 0) (text : X → List ℕ) (xs : List X) (i : ℕ) (x : X) → i < length xs → x ≡ get_or xs i x → each_text text (take (i + 1) xs) ≡ each_text text (take i xs) ⧺ text x
each_text-next X text xs i x within is_x =
    ap (λ n. each_text text (take n xs)) (add-one i)
    ∙ ap (each_text text) (take-suc xs i x within)
    ∙ each_text-append X text (take i xs) (get_or xs i x ∷ [])
    ∙ ap (λ t. each_text text (take i xs) ⧺ t) (each_text-one X text (get_or xs i x) ∙ ap text (sym is_x))

-- the members before one, that one, and the members behind it
pub each_text-parts : (X : Type 0) (text : X → List ℕ) (xs : List X) (i : ℕ) (x : X) → i < length xs → x ≡ get_or xs i x → each_text text xs ≡ each_text text (take i xs) ⧺ (text x ⧺ each_text text (drop (suc i) xs))
each_text-parts X text xs i x within is_x =
    ap (each_text text) (split_at xs i x within)
    ∙ each_text-append X text (take i xs) (get_or xs i x ∷ drop (suc i) xs)
    ∙ ap (λ y. each_text text (take i xs) ⧺ (text y ⧺ each_text text (drop (suc i) xs))) (sym is_x)

-- a turn that went well: one more member is written
pub wrote_member : (X A B C E : Type 0) (text : X → List ℕ) (xs : List X) (i : ℕ) (m : X) (x : A) (y : B) (z : C) (old mid new : Option (List ℕ)) (b : List ℕ) → i < length xs → m ≡ get_or xs i m → Wrote {E = E} (Ok x) old mid (each_text text (take i xs)) → Wrote {E = E} (Ok y) mid new b → b ≡ text m → Wrote {E = E} (Ok z) old new (each_text text (take (i + 1) xs))
wrote_member X A B C E text xs i m x y z old mid new b within is_m done turn is_b =
    let both : Wrote {E = E} (Ok z) old new (each_text text (take i xs) ⧺ b)
    = wrote_all B C E E y z old new _ (wrote_then A B E E x (Ok y) old mid new _ b done turn)
    in
    let P : List ℕ → Type 0 = λ t. Wrote {E = E} (Ok z) old new t in
    subst P (ap (λ t. each_text text (take i xs) ⧺ t) is_b ∙ sym (each_text-next X text xs i m within is_m)) both

-- a turn that failed: a front of all members' texts is written
pub wrote_member_stop : (X A B C E F : Type 0) (text : X → List ℕ) (xs : List X) (i : ℕ) (m : X) (x : A) (y : E) (z : F) (old mid new : Option (List ℕ)) (b : List ℕ) → i < length xs → m ≡ get_or xs i m → Wrote {E = E} (Ok x) old mid (each_text text (take i xs)) → Wrote {A = B} (Err y) mid new b → b ≡ text m → Wrote {A = C} (Err z) old new (each_text text xs)
wrote_member_stop X A B C E F text xs i m x y z old mid new b within is_m done turn is_b =
    let rest : List ℕ = each_text text (drop (suc i) xs) in
    let both : Wrote {A = C} (Err z) old new (each_text text (take i xs) ⧺ (b ⧺ rest))
    = wrote_then A C E F x (Err z) old mid new _ (b ⧺ rest) done (wrote_stop B C E F y z mid new b rest turn)
    in
    let P : List ℕ → Type 0 = λ t. Wrote {A = C} (Err z) old new t in
    subst P (ap (λ t. each_text text (take i xs) ⧺ (t ⧺ rest)) is_b ∙ sym (each_text-parts X text xs i m within is_m)) both

-- behind the last turn all members are written
pub wrote_members : (X A B E F : Type 0) (text : X → List ℕ) (xs : List X) (x : A) (y : B) (old new : Option (List ℕ)) → Wrote {E = E} (Ok x) old new (each_text text (take (length xs) xs)) → Wrote {E = F} (Ok y) old new (each_text text xs)
wrote_members X A B E F text xs x y old new done =
    let P : List ℕ → Type 0 = λ t. Wrote {E = F} (Ok y) old new t in
    subst P (ap (each_text text) (take-length xs)) (wrote_all A B E F x y old new _ done)

pub ruleset members = (wrote_none, wrote_member, wrote_member_stop, wrote_members)

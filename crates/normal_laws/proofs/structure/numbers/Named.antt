-- Texts that are interned among names: each has an id, and those that were there before keep theirs.
use Rattle.std.proofs.Common.{◌≡◌, ℕ, zero, suc, ◌+◌, ◌<◌, Bool, true, false, not, ◌||◌, ◌&&◌, nat_lt, nat_eq, List, [], ◌∷◌, ◌++◌, length, map, flat_map, slice_get, unwrap_or, codes, Option, Some, refl, sym, ap, ◌∙◌, subst, true≢false, length-append, arith}
use Rattle.std.specs.List.{list_any, fold, starts_with}
use Rattle.std.specs.Str.{bytes_eq}
use Rattle.std.proofs.lemmas.Bool.{or_left, or_right, ltb-true}
use Rattle.std.proofs.lemmas.List.Folds.{list_any-append}
use Rattle.std.proofs.lemmas.Option.{none-some, slice_get_within}
use Rattle.std.proofs.lemmas.Slice.Eq.{bytes_eq-Decides}
use Rattle.ada_tree.specs.declared.naming.NameId.{NameId}
use Rattle.ada_tree.specs.NameList.{interned}
use Rattle.ada_tree.specs.PlainProgram.{PProgram}
use Rattle.syn_event.specs.DeclaredTasks.{text_of}
use Rattle.syn_event.specs.AddedNames.{is_added_name}
use Rattle.normal_model.specs.Names.{id_of}
use Rattle.normal_model.proofs.VariablesLemmas.{Begins}
use Rattle.task_laws.proofs.legal.rewritten_values.Saying.{place-within}
use Rattle.normal_laws.specs.structure.types.Own.{own_name}
use Rattle.normal_laws.proofs.structure.types.Names.{fold-begins, interned-has, text-place}
use Rattle.common_lemmas.proofs.Options.{some_same}

-- ---- names that are there

-- the text is among the names
abbrev pub Has : List (List ℕ) → List ℕ → Type 0
Has names t = list_any (bytes_eq t) names ≡ true

-- what is there stays there
pub has-longer : (ts us : List (List ℕ)) (t : List ℕ) → Begins ts us → Has ts t → Has us t
has-longer ts us t b h = ap (list_any (bytes_eq t)) b.joined ∙ list_any-append (bytes_eq t) ts b.more ∙ or_left (list_any (bytes_eq t) ts) (list_any (bytes_eq t) b.more) h

-- whatever is interned is there
pub has-folded : (new ts : List (List ℕ)) (t : List ℕ) → Has new t → Has (fold interned ts new) t
has-folded [] ts t h = absurd (true≢false (sym h))
has-folded (u ∷ new) ts t h = by_test (bytes_eq t u) refl h (has-folded new (interned ts u) t)
  where
    by_test : (b : Bool) → bytes_eq t u ≡ b → (b || list_any (bytes_eq t) new) ≡ true → (Has new t → Has (fold interned (interned ts u) new) t) → Has (fold interned (interned ts u) new) t
    by_test true e any later = has-longer (interned ts u) _ t (fold-begins new (interned ts u)) (subst (λ v. Has (interned ts v) t) ((bytes_eq-Decides t u).0 e) (interned-has ts t))
    by_test false e any later = later any

pub has-front : (xs ys : List (List ℕ)) (t : List ℕ) → Has xs t → Has (xs ++ ys) t
has-front xs ys t h = list_any-append (bytes_eq t) xs ys ∙ or_left (list_any (bytes_eq t) xs) (list_any (bytes_eq t) ys) h

pub has-back : (xs ys : List (List ℕ)) (t : List ℕ) → Has ys t → Has (xs ++ ys) t
has-back xs ys t h = list_any-append (bytes_eq t) xs ys ∙ or_right (list_any (bytes_eq t) xs) (list_any (bytes_eq t) ys) h

-- ---- the texts of ids

-- the id of a text that is there has that text, and is one of the names
pub text-there : (names : List (List ℕ)) (t : List ℕ) → Has names t → text_of names (id_of names t) ≡ t
text-there names t h =
    let place = text-place names t h in
    ap (λ (o : Option ℕ). text_of names record { 0 = unwrap_or o 0 }) place.position_is ∙ ap (λ o. unwrap_or o []) place.there

-- an id keeps its text where names come behind
pub text-longer : (ts us : List (List ℕ)) (id : NameId) → Begins ts us → id.0 < length ts → text_of us id ≡ text_of ts id
text-longer ts us id b within = ap (λ l. unwrap_or (slice_get l id.0) []) b.joined ∙ ap (λ o. unwrap_or o []) (place-within ts b.more id.0 within)

pub added-longer : (ts us : List (List ℕ)) (id : NameId) → Begins ts us → id.0 < length ts → is_added_name us id ≡ is_added_name ts id
added-longer ts us id b within = ap (λ t. starts_with nat_eq t (codes "DED_")) (text-longer ts us id b within)

-- ---- names that are a rewriter's

-- the text begins with DED_
abbrev pub IsReserved : List ℕ → Type 0
IsReserved t = starts_with nat_eq t (codes "DED_") ≡ true

pub reserved-added : (names : List (List ℕ)) (t : List ℕ) → Has names t → IsReserved t → is_added_name names (id_of names t) ≡ true
reserved-added names t h r = ap (λ u. starts_with nat_eq u (codes "DED_")) (text-there names t h) ∙ r

-- it is no name of the program's own
pub reserved-new : (p : PProgram) (names : List (List ℕ)) (t : List ℕ) → Begins p.names names → Has names t → IsReserved t → own_name p (id_of names t).0 ≡ false
reserved-new p names t b h r = by_test (nat_lt (id_of names t).0 (length p.names)) refl
  where
    by_test : (c : Bool) → nat_lt (id_of names t).0 (length p.names) ≡ c → (c && not (is_added_name p.names (id_of names t))) ≡ false
    by_test false e = refl
    by_test true e =
        ap not (sym (added-longer p.names names (id_of names t) b (ltb-true _ _ e)) ∙ reserved-added names t h r)

-- ---- the program's own names

pub own-within : (p : PProgram) (n : ℕ) → own_name p n ≡ true → n < length p.names
own-within p n e = ltb-true n (length p.names) (front (nat_lt n (length p.names)) _ e)
  where
    front : (a b : Bool) → (a && b) ≡ true → a ≡ true
    front true b e = refl
    front false b e = absurd (true≢false (sym e))

pub own-not-added : (p : PProgram) (id : NameId) → own_name p id.0 ≡ true → is_added_name p.names id ≡ false
own-not-added p id e = shut (is_added_name p.names id) (back (nat_lt id.0 (length p.names)) _ e)
  where
    back : (a b : Bool) → (a && b) ≡ true → b ≡ true
    back true b e = e
    back false b e = absurd (true≢false (sym e))

    shut : (b : Bool) → not b ≡ true → b ≡ false
    shut false e = refl
    shut true e = absurd (true≢false (sym e))

-- ---- places

-- the id of a text that is there is one of the names
pub id-within : (names : List (List ℕ)) (t : List ℕ) → Has names t → (id_of names t).0 < length names
id-within names t h =
    let place = text-place names t h in
    subst (λ n. n < length names) (sym (ap (λ (o : Option ℕ). unwrap_or o 0) place.position_is)) (slice_get_within names place.at t place.there)

pub begins-within : {A : Type 0} (xs ys : List A) (k : ℕ) → Begins xs ys → k < length xs → k < length ys
begins-within xs ys k b h = let e : length ys ≡ length xs + length b.more = ap length b.joined ∙ length-append xs b.more in omega (arith, e, h)

-- what one of a list gives is among what all give
pub has-flat : {A : Type 0} (f : A → List (List ℕ)) (xs : List A) (k : ℕ) (x : A) (t : List ℕ) → slice_get xs k ≡ Some x → Has (f x) t → Has (flat_map f xs) t
has-flat f [] k x t at h = absurd (none-some x at)
has-flat f (y ∷ xs) zero x t at h = has-front (f y) (flat_map f xs) t (subst (λ z. Has (f z) t) (sym (some_same at)) h)
has-flat f (y ∷ xs) (suc k) x t at h = has-back (f y) (flat_map f xs) t (has-flat f xs k x t at h)

pub has-mapped : {A : Type 0} (f : A → List ℕ) (xs : List A) (k : ℕ) (x : A) → slice_get xs k ≡ Some x → Has (map f xs) (f x)
has-mapped f [] k x at = absurd (none-some x at)
has-mapped f (y ∷ xs) zero x at = or_left (bytes_eq (f x) (f y)) _ (ap (λ z. bytes_eq (f x) (f z)) (some_same at) ∙ (bytes_eq-Decides (f x) (f x)).1 refl)
has-mapped f (y ∷ xs) (suc k) x at = or_right (bytes_eq (f x) (f y)) _ (has-mapped f xs k x at)

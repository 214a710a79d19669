-- The program is well placed.
use Rattle.std.proofs.Common.{◌≡◌, ℕ, zero, suc, ◌+◌, ◌≤◌, lit≤, lit<, inl, true, not, List, [], ◌∷◌, ◌++◌, length, Some, map, slice_get, refl, subst, sym, arith}
use Rattle.std.specs.Prelude.{IsSomeAnd, nat_le}
use Rattle.std.specs.List.{range_with_len, list_all, list_any, All}
use Rattle.std.specs.Str.{bytes_eq}
use Rattle.std.specs.Fmt.{digits}
use Rattle.std.proofs.lemmas.Bool.{leb-true}
use Rattle.std.proofs.lemmas.List.Elements.{All-nil, All-cons}
use Rattle.ada_tree.specs.PlainDecl.{decls_of}
use Rattle.ada_tree.specs.Every.{EveryWord, EveryFormal, EveryExpr, EveryEntry, EveryPart, EveryAlt, EveryPriority, EveryDecl, EveryDecls}
use Rattle.ada_tree.specs.Lexical.{is_word, reserved, IsIdentifier}
use Rattle.ada_tree.specs.WellPlaced.{AreLater, BodiesLast, well_placed, IsWellPlaced}
use Rattle.load_gen.specs.LoadTree.{producer_text, word, number, formal, put_entry, sum_image, serving, producers, producer_task, producer_body, buffer_task, buffer_body, load_names, load_tree}
use Rattle.load_gen.specs.Promised.{TellNames}
use Rattle.load_gen.proofs.Ranges.{at_number}
use Rattle.load_gen.proofs.Texts.{producer_there}

-- ---- names

-- the id is that of an identifier
abbrev IsNamed : List (List ℕ) → ℕ → Type 0
IsNamed names id = IsSomeAnd (slice_get names id) IsIdentifier

named-by : (names : List (List ℕ)) (id : ℕ) (t : List ℕ) → slice_get names id ≡ Some t → IsIdentifier t → IsNamed names id
named-by names id t e h = subst (λ o. IsSomeAnd o IsIdentifier) (sym e) h

are_words : list_all (λ k. is_word (producer_text k)) (range_with_len 1 100) ≡ true
unfolding digits
are_words = refl

are_short : list_all (λ k. nat_le (length (producer_text k)) 150) (range_with_len 1 100) ≡ true
unfolding digits
are_short = refl

are_free : list_all (λ k. not (list_any (bytes_eq (producer_text k)) reserved)) (range_with_len 1 100) ≡ true
unfolding digits
are_free = refl

producer-identifier : (k : ℕ) → 1 ≤ k → k ≤ 100 → IsIdentifier (producer_text k)
producer-identifier k lo hi = (
  at_number (λ k. is_word (producer_text k)) 1 100 k are_words lo (omega arith),
  leb-true (length (producer_text k)) 150 (at_number (λ k. nat_le (length (producer_text k)) 150) 1 100 k are_short lo (omega arith)),
  at_number (λ k. not (list_any (bytes_eq (producer_text k)) reserved)) 1 100 k are_free lo (omega arith),
)

-- the names that stand in the program
record AreNamed (names : List (List ℕ)) (n : ℕ) : Type 0 where
  pub integer : IsNamed names 0
  pub put : IsNamed names 14
  pub image : IsNamed names 24
  pub load : IsNamed names 25
  pub of_buffer : IsNamed names 26
  pub given : IsNamed names 27
  pub sum : IsNamed names 28
  pub turn : IsNamed names 29
  pub producer : (k : ℕ) → 1 ≤ k → k ≤ n → IsNamed names (29 + k)

pub told : (n : ℕ) → TellNames n (load_names n)
told n = record { integer = refl; put = refl; image = refl; load = refl; of_buffer = refl; given = refl; sum = refl; turn = refl; producer = λ k lo hi. producer_there n k lo hi }

are-named : (n : ℕ) → n ≤ 100 → AreNamed (load_names n) n
are-named n le = record {
  integer = (refl, lit≤ tt, refl);
  put = (refl, lit≤ tt, refl);
  image = (refl, lit≤ tt, refl);
  load = (refl, lit≤ tt, refl);
  of_buffer = (refl, lit≤ tt, refl);
  given = (refl, lit≤ tt, refl);
  sum = (refl, lit≤ tt, refl);
  turn = (refl, lit≤ tt, refl);
  producer = λ k lo hi. named-by (load_names n) (29 + k) (producer_text k) (producer_there n k lo hi) (producer-identifier k lo (omega arith));
}

-- ---- declarations

all-one : {X : Type 0} (P : X → Type 0) (x : X) → P x → All P (x ∷ [])
all-one P x h = All-cons P x [] h (All-nil P)

formal-placed : (names : List (List ℕ)) → IsNamed names 0 → IsNamed names 27 → EveryFormal (well_placed names) formal
formal-placed names h0 h27 = ((lit≤ tt, all-one (EveryWord (well_placed names)) (word 27) h27), h0)

buffer_task-placed : (names : List (List ℕ)) (n : ℕ) → AreNamed names n → EveryDecl (well_placed names) buffer_task
buffer_task-placed names n h = (
  lit≤ tt,
  (
    h.of_buffer,
    all-one (EveryEntry (well_placed names)) put_entry (lit≤ tt, h.put, tt, all-one (EveryFormal (well_placed names)) formal (formal-placed names h.integer h.given)),
    All-nil (EveryPriority (well_placed names)),
    tt,
  ),
)

producer_task-placed : (names : List (List ℕ)) (k : ℕ) → IsNamed names (29 + k) → EveryDecl (well_placed names) (producer_task k)
producer_task-placed names k h = (lit≤ tt, (h, All-nil (EveryEntry (well_placed names)), All-nil (EveryPriority (well_placed names)), tt))

serving-placed : (names : List (List ℕ)) (n : ℕ) → AreNamed names n → EveryAlt (well_placed names) 3 serving
serving-placed names n h = (
  lit≤ tt,
  tt,
  (
    (
      lit≤ tt,
      (h.put, tt, all-one (EveryFormal (well_placed names)) formal (formal-placed names h.integer h.given)),
      (lit≤ tt, (lit≤ tt, (h.sum, tt), (lit≤ tt, (inl (lit< tt), lit< tt), (lit≤ tt, h.sum), (lit≤ tt, h.given))), tt),
    ),
    ((lit≤ tt, (lit≤ tt, all-one (EveryPart (well_placed names) 5) sum_image (lit≤ tt, h.integer, h.image, (lit≤ tt, h.sum)))), tt),
  ),
)

buffer_body-placed : (names : List (List ℕ)) (n : ℕ) → AreNamed names n → EveryDecl (well_placed names) buffer_body
buffer_body-placed names n h = (
  lit≤ tt,
  h.of_buffer,
  tt,
  ((lit≤ tt, (lit≤ tt, all-one (EveryWord (well_placed names)) (word 28) h.sum), (h.integer, tt), tt, (lit≤ tt, lit≤ tt)), tt),
  (
    (
      lit≤ tt,
      (lit≤ tt, tt, tt, (lit≤ tt, (lit≤ tt, lit≤ tt, (serving-placed names n h, ((lit≤ tt, tt, tt), tt)), tt), tt)),
      tt,
    ),
    tt,
    tt,
  ),
)

producer_body-placed : (names : List (List ℕ)) (n k : ℕ) → AreNamed names n → 1 ≤ k → k ≤ n → n ≤ 100 → EveryDecl (well_placed names) (producer_body k)
producer_body-placed names n k h lo hi le = (
  lit≤ tt,
  h.producer k lo hi,
  tt,
  tt,
  (
    (
      lit≤ tt,
      (
        lit≤ tt,
        tt,
        (h.turn, ((lit≤ tt, lit≤ tt), (lit≤ tt, lit≤ tt), (lit≤ tt, lit≤ tt))),
        (
          lit≤ tt,
          (lit≤ tt, ((h.of_buffer, tt), h.put, ((lit≤ tt, all-one (EveryExpr (well_placed names) 3) (number k) (lit≤ tt, omega arith)), tt))),
          tt,
        ),
      ),
      tt,
    ),
    tt,
    tt,
  ),
)

-- ---- the whole

bodies-last : (c k : ℕ) → AreLater (decls_of (map producer_body (range_with_len k c)))
bodies-last zero k = tt
bodies-last (suc c) k = (tt, bodies-last c (k + 1))

later-last : (n c k : ℕ) → BodiesLast (decls_of (map producer_task (range_with_len k c) ++ (buffer_body ∷ map producer_body (producers n))))
later-last n zero k = bodies-last n 1
later-last n (suc c) k = later-last n c (k + 1)

bodies-placed : (names : List (List ℕ)) (n c k : ℕ) → AreNamed names n → n ≤ 100 → 1 ≤ k → k + c ≤ n + 1 → EveryDecls (well_placed names) (decls_of (map producer_body (range_with_len k c)))
bodies-placed names n zero k h le lo hi = tt
bodies-placed names n (suc c) k h le lo hi = (producer_body-placed names n k h lo (omega arith) le, bodies-placed names n c (k + 1) h le (omega arith) (omega arith))

later-placed : (names : List (List ℕ)) (n c k : ℕ) → AreNamed names n → n ≤ 100 → 1 ≤ k → k + c ≤ n + 1 → EveryDecls (well_placed names) (decls_of (map producer_task (range_with_len k c) ++ (buffer_body ∷ map producer_body (producers n))))
later-placed names n zero k h le lo hi = (buffer_body-placed names n h, bodies-placed names n n 1 h le (omega arith) (omega arith))
later-placed names n (suc c) k h le lo hi = (producer_task-placed names k (h.producer k lo (omega arith)), later-placed names n c (k + 1) h le (omega arith) (omega arith))

pub placed : (n : ℕ) → n ≤ 100 → IsWellPlaced (load_tree n)
placed n le =
    let h : AreNamed (load_names n) n = are-named n le in
    (h.load, later-last n n 1, (buffer_task-placed (load_names n) n h, later-placed (load_names n) n n 1 h le (omega arith) (omega arith)), ((lit≤ tt, lit≤ tt, tt), tt, tt))

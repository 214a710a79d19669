-- The length that the code counts is that of the longest piece.
use Rattle.std.proofs.Common.{◌≡◌, ℕ, zero, suc, ◌+◌, ◌<◌, ◌≤◌, Bool, true, false, cond, List, [], ◌∷◌, length, take, refl, ap, ◌∙◌, sym, subst, arith, inl, inr, add-one, one-add}
use Rattle.std.proofs.lemmas.List.{length-take-le}
use Rattle.std.proofs.lemmas.Bool.{and_parts, and_from, or_left, or_right, or_cases, cond-true, cond-false, false≢true, cases_Bool}
use Rattle.std.specs.Prelude.{◌&&◌, ◌||◌, ◌==◌, is_some, IsTrue}
use Rattle.ada_lexer.specs.Bytes.{is_letter, is_digit, is_letter_or_digit, is_white, run_len}
use Rattle.common_lemmas.specs.Following.{begins, every}
use Rattle.ada_lexer.specs.Words.{symbol_in, simple_delimiters, compound_delimiters, delimiter_symbol}
use Rattle.ada_lexer.specs.Strings.{string_goes_on, inside_after, is_string_run, string_len}
use Rattle.ada_lexer.specs.Pieces.{word_goes_on, number_goes_on, comment_goes_on, is_comment, is_empty, is_piece, IsLongest}
use Rattle.ada_lexer.specs.Lengths.{HasLongest, IsMeasured, mark_len, piece_len}

-- what a byte needs behind it does not go away when more follows
abbrev Grows : (ℕ → List ℕ → Bool) → Type 0
Grows go = (b : ℕ) (xs : List ℕ) (n : ℕ) → go b (take n xs) ≡ true → go b xs ≡ true

-- what a byte needs behind it is in the run
abbrev Keeps : (ℕ → List ℕ → Bool) → Type 0
Keeps go = (b : ℕ) (xs : List ℕ) → go b xs ≡ true → go b (take (run_len go xs) xs) ≡ true

every-run_len : (go : ℕ → List ℕ → Bool) → Keeps go → (xs : List ℕ) → every go (take (run_len go xs) xs) ≡ true
every-run_len go keeps [] = refl
every-run_len go keeps (b ∷ xs) = elim (cases_Bool (go b xs)) [
  | inl h ↦ ap (λ t. every go (take (cond t (1 + run_len go xs) 0) (b ∷ xs))) h
      ∙ rw one-add (and_from _ _ (keeps b xs h) (every-run_len go keeps xs))
  | inr h ↦ ap (λ t. every go (take (cond t (1 + run_len go xs) 0) (b ∷ xs))) h
]

run_len-most : (go : ℕ → List ℕ → Bool) → Grows go → (xs : List ℕ) (n : ℕ) → n ≤ length xs → every go (take n xs) ≡ true → n ≤ run_len go xs
run_len-most go grows [] n le h = omega arith
run_len-most go grows (b ∷ xs) zero le h = omega arith
run_len-most go grows (b ∷ xs) (suc n) le h =
    let parts = and_parts (go b (take n xs)) (every go (take n xs)) h in
    let more : n ≤ run_len go xs = run_len-most go grows xs n (omega arith) parts.1 in
    let is : run_len go (b ∷ xs) ≡ 1 + run_len go xs = ap (λ t. cond t (1 + run_len go xs) 0) (grows b xs n parts.0) in
    omega arith

run_len-le : (go : ℕ → List ℕ → Bool) (xs : List ℕ) → run_len go xs ≤ length xs
run_len-le go [] = omega arith
run_len-le go (b ∷ xs) = elim (cases_Bool (go b xs)) [
  | inl h ↦ (let is : run_len go (b ∷ xs) ≡ 1 + run_len go xs = ap (λ t. cond t (1 + run_len go xs) 0) h in
      let le = run_len-le go xs in omega arith)
  | inr h ↦ (let is : run_len go (b ∷ xs) ≡ 0 = ap (λ t. cond t (1 + run_len go xs) 0) h in omega arith)
]

begins-grows : (class : ℕ → Bool) (xs : List ℕ) (n : ℕ) → begins class (take n xs) ≡ true → begins class xs ≡ true
begins-grows class [] zero h = h
begins-grows class [] (suc n) h = h
begins-grows class (b ∷ xs) zero h = absurd (false≢true h)
begins-grows class (b ∷ xs) (suc n) h = h

-- a byte of the class goes on, whatever stands behind it, so the run holds it
begins-keeps : (class : ℕ → Bool) (go : ℕ → List ℕ → Bool) → ((b : ℕ) (xs : List ℕ) → class b ≡ true → go b xs ≡ true) → (xs : List ℕ) → begins class xs ≡ true → begins class (take (run_len go xs) xs) ≡ true
begins-keeps class go holds [] h = h
begins-keeps class go holds (b ∷ xs) h =
    ap (λ t. begins class (take (cond t (1 + run_len go xs) 0) (b ∷ xs))) (holds b xs h) ∙ rw one-add h

word-grows : Grows word_goes_on
word-grows b xs n h = elim (or_cases (is_letter_or_digit b) ((b == 95) && begins is_letter_or_digit (take n xs)) h) [
  | inl e ↦ or_left _ _ e
  | inr e ↦ or_right _ _ (let parts = and_parts (b == 95) (begins is_letter_or_digit (take n xs)) e in and_from _ _ parts.0 (begins-grows is_letter_or_digit xs n parts.1))
]

word-keeps : Keeps word_goes_on
word-keeps b xs h = elim (or_cases (is_letter_or_digit b) ((b == 95) && begins is_letter_or_digit xs) h) [
  | inl e ↦ or_left _ _ e
  | inr e ↦ or_right _ _ (let parts = and_parts (b == 95) (begins is_letter_or_digit xs) e in and_from _ _ parts.0 (begins-keeps is_letter_or_digit word_goes_on (λ c ys is. or_left _ _ is) xs parts.1))
]

number-grows : Grows number_goes_on
number-grows b xs n h = elim (or_cases (is_letter_or_digit b || (b == 95)) ((b == 46) && begins is_digit (take n xs)) h) [
  | inl e ↦ or_left _ _ e
  | inr e ↦ or_right _ _ (let parts = and_parts (b == 46) (begins is_digit (take n xs)) e in and_from _ _ parts.0 (begins-grows is_digit xs n parts.1))
]

number-keeps : Keeps number_goes_on
number-keeps b xs h = elim (or_cases (is_letter_or_digit b || (b == 95)) ((b == 46) && begins is_digit xs) h) [
  | inl e ↦ or_left _ _ e
  | inr e ↦ or_right _ _ (let parts = and_parts (b == 46) (begins is_digit xs) e in and_from _ _ parts.0 (begins-keeps is_digit number_goes_on (λ c ys is. or_left _ _ (or_left _ _ (or_right (is_letter c) _ is))) xs parts.1))
]

comment-grows : Grows comment_goes_on
comment-grows b xs n h = h

comment-keeps : Keeps comment_goes_on
comment-keeps b xs h = h

string_run-all : (s : Bool) (xs : List ℕ) → is_string_run s (take (string_len s xs) xs) ≡ true
string_run-all s [] = refl
string_run-all s (b ∷ xs) = elim (cases_Bool (string_goes_on s b)) [
  | inl h ↦ ap (λ t. is_string_run s (take (cond t (1 + string_len (inside_after s b) xs) 0) (b ∷ xs))) h
      ∙ rw one-add (and_from _ _ h (string_run-all (inside_after s b) xs))
  | inr h ↦ ap (λ t. is_string_run s (take (cond t (1 + string_len (inside_after s b) xs) 0) (b ∷ xs))) h
]

string_run-most : (s : Bool) (xs : List ℕ) (n : ℕ) → n ≤ length xs → is_string_run s (take n xs) ≡ true → n ≤ string_len s xs
string_run-most s [] n le h = omega arith
string_run-most s (b ∷ xs) zero le h = omega arith
string_run-most s (b ∷ xs) (suc n) le h =
    let parts = and_parts (string_goes_on s b) (is_string_run (inside_after s b) (take n xs)) h in
    let more : n ≤ string_len (inside_after s b) xs = string_run-most (inside_after s b) xs n (omega arith) parts.1 in
    let is : string_len s (b ∷ xs) ≡ 1 + string_len (inside_after s b) xs = ap (λ t. cond t (1 + string_len (inside_after s b) xs) 0) parts.0 in
    omega arith

string_len-le : (s : Bool) (xs : List ℕ) → string_len s xs ≤ length xs
string_len-le s [] = omega arith
string_len-le s (b ∷ xs) = elim (cases_Bool (string_goes_on s b)) [
  | inl h ↦ (let is : string_len s (b ∷ xs) ≡ 1 + string_len (inside_after s b) xs = ap (λ t. cond t (1 + string_len (inside_after s b) xs) 0) h in
      let le = string_len-le (inside_after s b) xs in omega arith)
  | inr h ↦ (let is : string_len s (b ∷ xs) ≡ 0 = ap (λ t. cond t (1 + string_len (inside_after s b) xs) 0) h in omega arith)
]

-- what a piece is, by the class of its first byte
is_piece-white : (b : ℕ) (ys : List ℕ) → is_white b ≡ true → is_piece (b ∷ ys) ≡ is_empty ys
unfolding is_piece
is_piece-white b ys w = cond-true (is_white b) _ _ w

is_piece-word : (b : ℕ) (ys : List ℕ) → is_white b ≡ false → is_letter b ≡ true → is_piece (b ∷ ys) ≡ every word_goes_on ys
unfolding is_piece
is_piece-word b ys w l = cond-false (is_white b) _ _ w ∙ cond-true (is_letter b) _ _ l

is_piece-number : (b : ℕ) (ys : List ℕ) → is_white b ≡ false → is_letter b ≡ false → is_digit b ≡ true → is_piece (b ∷ ys) ≡ every number_goes_on ys
unfolding is_piece
is_piece-number b ys w l d =
    cond-false (is_white b) _ _ w ∙ cond-false (is_letter b) _ _ l ∙ cond-true (is_digit b) _ _ d

is_piece-string : (b : ℕ) (ys : List ℕ) → is_white b ≡ false → is_letter b ≡ false → is_digit b ≡ false → (b == 34) ≡ true → is_piece (b ∷ ys) ≡ is_string_run true ys
unfolding is_piece
is_piece-string b ys w l d q =
    cond-false (is_white b) _ _ w ∙ cond-false (is_letter b) _ _ l ∙ cond-false (is_digit b) _ _ d
    ∙ cond-true (b == 34) _ _ q

-- a comment or a delimiter
abbrev is_mark : ℕ → List ℕ → Bool
is_mark b ys = is_comment (b ∷ ys) || is_some (delimiter_symbol (b ∷ ys))

is_piece-mark : (b : ℕ) (ys : List ℕ) → is_white b ≡ false → is_letter b ≡ false → is_digit b ≡ false → (b == 34) ≡ false → is_piece (b ∷ ys) ≡ is_mark b ys
unfolding is_piece
is_piece-mark b ys w l d q =
    cond-false (is_white b) _ _ w ∙ cond-false (is_letter b) _ _ l ∙ cond-false (is_digit b) _ _ d
    ∙ cond-false (b == 34) _ _ q

-- the length of a piece, by the class of its first byte
piece_len-white : (b : ℕ) (ys : List ℕ) → is_white b ≡ true → piece_len (b ∷ ys) ≡ 0 + 1
unfolding piece_len
piece_len-white b ys w = cond-true (is_white b) _ _ w

piece_len-word : (b : ℕ) (ys : List ℕ) → is_white b ≡ false → is_letter b ≡ true → piece_len (b ∷ ys) ≡ run_len word_goes_on ys + 1
unfolding piece_len
piece_len-word b ys w l = cond-false (is_white b) _ _ w ∙ cond-true (is_letter b) _ _ l

piece_len-number : (b : ℕ) (ys : List ℕ) → is_white b ≡ false → is_letter b ≡ false → is_digit b ≡ true → piece_len (b ∷ ys) ≡ run_len number_goes_on ys + 1
unfolding piece_len
piece_len-number b ys w l d =
    cond-false (is_white b) _ _ w ∙ cond-false (is_letter b) _ _ l ∙ cond-true (is_digit b) _ _ d

piece_len-string : (b : ℕ) (ys : List ℕ) → is_white b ≡ false → is_letter b ≡ false → is_digit b ≡ false → (b == 34) ≡ true → piece_len (b ∷ ys) ≡ string_len true ys + 1
unfolding piece_len
piece_len-string b ys w l d q =
    cond-false (is_white b) _ _ w ∙ cond-false (is_letter b) _ _ l ∙ cond-false (is_digit b) _ _ d
    ∙ cond-true (b == 34) _ _ q

piece_len-mark : (b : ℕ) (ys : List ℕ) → is_white b ≡ false → is_letter b ≡ false → is_digit b ≡ false → (b == 34) ≡ false → piece_len (b ∷ ys) ≡ mark_len (b ∷ ys)
unfolding piece_len
piece_len-mark b ys w l d q =
    cond-false (is_white b) _ _ w ∙ cond-false (is_letter b) _ _ l ∙ cond-false (is_digit b) _ _ d
    ∙ cond-false (b == 34) _ _ q

-- the first byte and k more are the longest piece, where the pieces that begin with it go by a test of what follows
longest-at : (b : ℕ) (rest : List ℕ) (goes : List ℕ → Bool) (k : ℕ) → ((ys : List ℕ) → is_piece (b ∷ ys) ≡ goes ys) → k ≤ length rest → ((n : ℕ) → n ≤ length rest → goes (take n rest) ≡ true → n ≤ k) → (n : ℕ) → n ≤ length (b ∷ rest) → IsTrue (is_piece (take n (b ∷ rest))) → n ≤ length (b ∷ take k rest)
longest-at b rest goes k same le most zero inside is = omega arith
longest-at b rest goes k same le most (suc n) inside is =
    let here : n ≤ k = most n (omega arith) (sym (same (take n rest)) ∙ is) in
    omega (arith, length-take-le k rest le)

longest_from : (b : ℕ) (rest : List ℕ) (goes : List ℕ → Bool) (k : ℕ) → ((ys : List ℕ) → is_piece (b ∷ ys) ≡ goes ys) → k ≤ length rest → goes (take k rest) ≡ true → ((n : ℕ) → n ≤ length rest → goes (take n rest) ≡ true → n ≤ k) → HasLongest (k + 1) (b ∷ rest)
longest_from b rest goes k same le passes most =
    let whole : IsLongest (b ∷ take k rest) (b ∷ rest) = record {
      stands = ap (λ n. b ∷ take n rest) (sym (length-take-le k rest le));
      is_one = same (take k rest) ∙ passes;
      longest = longest-at b rest goes k same le most;
    } in
    (omega arith, subst (λ n. IsLongest (take n (b ∷ rest)) (b ∷ rest)) (sym (add-one k)) whole)

measured_at : (text : List ℕ) (m n : ℕ) → m ≡ n → IsMeasured text n → IsMeasured text m
measured_at text m n e h = subst (IsMeasured text) (sym e) h

white-most : (ys : List ℕ) (n : ℕ) → n ≤ length ys → is_empty (take n ys) ≡ true → n ≤ 0
white-most ys zero le h = omega arith
white-most [] (suc n) le h = omega arith
white-most (y ∷ ys) (suc n) le h = absurd (false≢true h)

white-measured : (b : ℕ) (ys : List ℕ) → is_white b ≡ true → IsMeasured (b ∷ ys) (piece_len (b ∷ ys))
white-measured b ys w =
    measured_at (b ∷ ys) _ _ (piece_len-white b ys w) (inl (omega arith, longest_from b ys is_empty 0 (λ zs. is_piece-white b zs w) (omega arith) refl (white-most ys)))

run-measured : (b : ℕ) (ys : List ℕ) (go : ℕ → List ℕ → Bool) → Keeps go → Grows go → ((zs : List ℕ) → is_piece (b ∷ zs) ≡ every go zs) → piece_len (b ∷ ys) ≡ run_len go ys + 1 → IsMeasured (b ∷ ys) (piece_len (b ∷ ys))
run-measured b ys go keeps grows same len =
    measured_at (b ∷ ys) _ _ len (inl (omega arith, longest_from b ys (every go) (run_len go ys) same (run_len-le go ys) (every-run_len go keeps ys) (run_len-most go grows ys)))

string-measured : (b : ℕ) (ys : List ℕ) → ((zs : List ℕ) → is_piece (b ∷ zs) ≡ is_string_run true zs) → piece_len (b ∷ ys) ≡ string_len true ys + 1 → IsMeasured (b ∷ ys) (piece_len (b ∷ ys))
string-measured b ys same len =
    measured_at (b ∷ ys) _ _ len (inl (omega arith, longest_from b ys (is_string_run true) (string_len true ys) same (string_len-le true ys) (string_run-all true ys) (string_run-most true ys)))

-- no mark but a comment has three bytes
mark-three : (b c d : ℕ) (ys : List ℕ) → is_mark b (c ∷ d ∷ ys) ≡ ((b == 45) && (c == 45) && every comment_goes_on (d ∷ ys)) || false
unfolding delimiter_symbol
mark-three b c d ys = refl

mark-two : (b c : ℕ) → is_mark b (c ∷ []) ≡ ((b == 45) && (c == 45) && true) || is_some (symbol_in compound_delimiters (b ∷ c ∷ []))
unfolding delimiter_symbol
mark-two b c = refl

mark-one : (b : ℕ) → is_mark b [] ≡ is_some (symbol_in simple_delimiters (b ∷ []))
unfolding delimiter_symbol
mark-one b = refl

and-or-false : (b c e : Bool) → (b && c) ≡ false → ((b && c && e) || false) ≡ true → ⊥
and-or-false b c e h is = elim (or_cases (b && c && e) false is) [
  | inl t ↦ false≢true (sym h ∙ (and_parts (b && c) e t).0)
  | inr f ↦ false≢true f
]

and-or-other : (b c e f : Bool) → (b && c) ≡ false → ((b && c && e) || f) ≡ true → f ≡ true
and-or-other b c e f h is = elim (or_cases (b && c && e) f is) [
  | inl t ↦ absurd (false≢true (sym h ∙ (and_parts (b && c) e t).0))
  | inr t ↦ t
]

comment-most : (b c : ℕ) (ys : List ℕ) (n : ℕ) → n ≤ length (c ∷ ys) → is_mark b (take n (c ∷ ys)) ≡ true → n ≤ suc (run_len comment_goes_on ys)
comment-most b c ys zero le h = omega arith
comment-most b c ys (suc zero) le h = omega arith
comment-most b c [] (suc (suc n)) le h = omega arith
comment-most b c (d ∷ ys) (suc (suc n)) le h =
    let is = or_cases _ false (sym (mark-three b c d (take n ys)) ∙ h) in
    elim is [
      | inl t ↦ (let more : suc n ≤ run_len comment_goes_on (d ∷ ys) = run_len-most comment_goes_on comment-grows (d ∷ ys) (suc n) (omega arith) (and_parts ((b == 45) && (c == 45)) _ t).1 in omega arith)
      | inr f ↦ absurd (false≢true f)
    ]

comment-yes : (b c : ℕ) (ys : List ℕ) → ((b == 45) && (c == 45)) ≡ true → is_mark b (c ∷ ys) ≡ every comment_goes_on ys || is_some (delimiter_symbol (b ∷ c ∷ ys))
comment-yes b c ys h = ap (λ t. (t && every comment_goes_on ys) || is_some (delimiter_symbol (b ∷ c ∷ ys))) h

comment-measured : (b c : ℕ) (ys : List ℕ) → ((zs : List ℕ) → is_piece (b ∷ zs) ≡ is_mark b zs) → ((b == 45) && (c == 45)) ≡ true → IsMeasured (b ∷ c ∷ ys) (run_len comment_goes_on ys + 2)
comment-measured b c ys same h =
    let r = run_len comment_goes_on ys in
    let len : r + 2 ≡ suc r + 1 = omega arith in
    measured_at (b ∷ c ∷ ys) (r + 2) (suc r + 1) len (inl (omega arith, longest_from b (c ∷ ys) (is_mark b) (suc r) same (omega (arith, run_len-le comment_goes_on ys)) (comment-yes b c (take r ys) h ∙ or_left _ _ (every-run_len comment_goes_on comment-keeps ys)) (comment-most b c ys)))

-- where the two bytes open no comment, no mark has more than two bytes
mark-most_two : (b c : ℕ) (ys : List ℕ) → ((b == 45) && (c == 45)) ≡ false → (n : ℕ) → n ≤ length (c ∷ ys) → is_mark b (take n (c ∷ ys)) ≡ true → n ≤ 1
mark-most_two b c ys h zero le is = omega arith
mark-most_two b c ys h (suc zero) le is = omega arith
mark-most_two b c [] h (suc (suc n)) le is = omega arith
mark-most_two b c (d ∷ ys) h (suc (suc n)) le is =
    absurd (and-or-false (b == 45) (c == 45) _ h (sym (mark-three b c d (take n ys)) ∙ is))

-- and where they are no delimiter together, no mark has more than one
mark-most_one : (b c : ℕ) (ys : List ℕ) → ((b == 45) && (c == 45)) ≡ false → is_some (symbol_in compound_delimiters (b ∷ c ∷ [])) ≡ false → (n : ℕ) → n ≤ length (c ∷ ys) → is_mark b (take n (c ∷ ys)) ≡ true → n ≤ 0
mark-most_one b c ys h k zero le is = omega arith
mark-most_one b c ys h k (suc zero) le is =
    absurd (false≢true (sym k ∙ and-or-other (b == 45) (c == 45) true _ h (sym (mark-two b c) ∙ is)))
mark-most_one b c [] h k (suc (suc n)) le is = omega arith
mark-most_one b c (d ∷ ys) h k (suc (suc n)) le is =
    absurd (and-or-false (b == 45) (c == 45) _ h (sym (mark-three b c d (take n ys)) ∙ is))

compound-measured : (b c : ℕ) (ys : List ℕ) → ((zs : List ℕ) → is_piece (b ∷ zs) ≡ is_mark b zs) → ((b == 45) && (c == 45)) ≡ false → is_some (symbol_in compound_delimiters (b ∷ c ∷ [])) ≡ true → IsMeasured (b ∷ c ∷ ys) (1 + 1)
compound-measured b c ys same h k =
    inl (omega arith, longest_from b (c ∷ ys) (is_mark b) 1 same (omega arith) (mark-two b c ∙ or_right _ _ k) (mark-most_two b c ys h))

simple-measured : (b : ℕ) (ys : List ℕ) → ((zs : List ℕ) → is_piece (b ∷ zs) ≡ is_mark b zs) → ((n : ℕ) → n ≤ length ys → is_mark b (take n ys) ≡ true → n ≤ 0) → is_some (symbol_in simple_delimiters (b ∷ [])) ≡ true → IsMeasured (b ∷ ys) (0 + 1)
simple-measured b ys same most k =
    inl (omega arith, longest_from b ys (is_mark b) 0 same (omega arith) (mark-one b ∙ k) most)

-- a piece is not empty
pub is_piece-nil : is_piece [] ≡ true → ⊥
unfolding is_piece
is_piece-nil h = false≢true h

nothing-at : (b : ℕ) (ys : List ℕ) → ((zs : List ℕ) → is_piece (b ∷ zs) ≡ is_mark b zs) → ((n : ℕ) → n ≤ length ys → is_mark b (take n ys) ≡ true → n ≤ 0) → is_some (symbol_in simple_delimiters (b ∷ [])) ≡ false → (n : ℕ) → n ≤ length (b ∷ ys) → IsTrue (is_piece (take n (b ∷ ys))) → ⊥
nothing-at b ys same most k zero le is = is_piece-nil is
nothing-at b ys same most k (suc zero) le is = false≢true (sym k ∙ sym (mark-one b) ∙ sym (same []) ∙ is)
nothing-at b ys same most k (suc (suc n)) le is =
    let none : suc n ≤ 0 = most (suc n) (omega arith) (sym (same (take (suc n) ys)) ∙ is) in
    absurd (omega arith)

nothing-measured : (b : ℕ) (ys : List ℕ) → ((zs : List ℕ) → is_piece (b ∷ zs) ≡ is_mark b zs) → ((n : ℕ) → n ≤ length ys → is_mark b (take n ys) ≡ true → n ≤ 0) → is_some (symbol_in simple_delimiters (b ∷ [])) ≡ false → IsMeasured (b ∷ ys) 0
nothing-measured b ys same most k = inr (refl, (λ e. cc, nothing-at b ys same most k))

-- a simple delimiter or nothing
one-measured : (b : ℕ) (ys : List ℕ) → ((zs : List ℕ) → is_piece (b ∷ zs) ≡ is_mark b zs) → ((n : ℕ) → n ≤ length ys → is_mark b (take n ys) ≡ true → n ≤ 0) → IsMeasured (b ∷ ys) (cond (is_some (symbol_in simple_delimiters (b ∷ []))) 1 0)
one-measured b ys same most = elim (cases_Bool (is_some (symbol_in simple_delimiters (b ∷ [])))) [
  | inl k ↦ measured_at (b ∷ ys) _ _ (cond-true _ 1 0 k) (simple-measured b ys same most k)
  | inr k ↦ measured_at (b ∷ ys) _ _ (cond-false _ 1 0 k) (nothing-measured b ys same most k)
]

end-most : (b n : ℕ) → n ≤ 0 → is_mark b (take n []) ≡ true → n ≤ 0
end-most b n le h = le

mark-measured : (b : ℕ) (ys : List ℕ) → ((zs : List ℕ) → is_piece (b ∷ zs) ≡ is_mark b zs) → IsMeasured (b ∷ ys) (mark_len (b ∷ ys))
unfolding mark_len
mark-measured b [] same = one-measured b [] same (end-most b)
mark-measured b (c ∷ ys) same = elim (cases_Bool ((b == 45) && (c == 45))) [
  | inl h ↦ measured_at (b ∷ c ∷ ys) _ _ (cond-true _ _ _ h) (comment-measured b c ys same h)
  | inr h ↦ elim (cases_Bool (is_some (symbol_in compound_delimiters (b ∷ c ∷ [])))) [
    | inl k ↦ measured_at (b ∷ c ∷ ys) _ _ (cond-false _ _ _ h ∙ cond-true _ _ _ k) (compound-measured b c ys same h k)
    | inr k ↦ measured_at (b ∷ c ∷ ys) _ _ (cond-false _ _ _ h ∙ cond-false _ _ _ k) (one-measured b (c ∷ ys) same (mark-most_one b c ys h k))
  ]
]

-- what the code counts is the length of the longest piece, or there is none
pub piece-measured : (text : List ℕ) → 0 < length text → IsMeasured text (piece_len text)
piece-measured [] lt = absurd (omega arith)
piece-measured (b ∷ ys) lt = elim (cases_Bool (is_white b)) [
  | inl w ↦ white-measured b ys w
  | inr w ↦ elim (cases_Bool (is_letter b)) [
    | inl l ↦ run-measured b ys word_goes_on word-keeps word-grows (λ zs. is_piece-word b zs w l) (piece_len-word b ys w l)
    | inr l ↦ elim (cases_Bool (is_digit b)) [
      | inl d ↦ run-measured b ys number_goes_on number-keeps number-grows (λ zs. is_piece-number b zs w l d) (piece_len-number b ys w l d)
      | inr d ↦ elim (cases_Bool (b == 34)) [
        | inl q ↦ string-measured b ys (λ zs. is_piece-string b zs w l d q) (piece_len-string b ys w l d q)
        | inr q ↦ measured_at (b ∷ ys) _ _ (piece_len-mark b ys w l d q) (mark-measured b ys (λ zs. is_piece-mark b zs w l d q))
      ]
    ]
  ]
]

pub len-measured : (text : List ℕ) (n : ℕ) → 0 < length text → n ≡ piece_len text → IsMeasured text n
len-measured text n lt e = measured_at text n (piece_len text) e (piece-measured text lt)

pub ruleset measured = (len-measured)

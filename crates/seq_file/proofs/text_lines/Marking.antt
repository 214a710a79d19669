-- Texts that a mark does not stand in, and where a text is cut at its first mark.
use Rattle.std.proofs.Common.{◌≡◌, ℕ, ℤ, pos, negsuc, suc, ◌+◌, ◌^◌, ◌<◌, ◌≤◌, Bool, true, false, not, cond, List, [], ◌∷◌, ◌++◌, length, get_or, take, drop, All, Option, None, Some, option_map, refl, ap, ◌∙◌, sym, arith, decimal, length-append, inl, inr}
use Rattle.std.specs.Fmt.{signed_decimal}
use Rattle.std.specs.Int.Signed.{mag}
use Rattle.std.specs.List.{position_or_len}
use Rattle.std.specs.Prelude.{◌&&◌, ◌==◌, nat_lt, position, is_some}
use Rattle.std.proofs.lemmas.Bool.{cases_Bool, and_parts, ne_eqb, eq-eqb, eqb-true, leb-true, lt-ltb, ltb-true}
use Rattle.std.proofs.lemmas.List.Elements.{All-nil, All-cons, All-head, All-tail}
use Rattle.std.proofs.lemmas.List.Sums.{split_at_first, passes_at_first}
use Rattle.std.proofs.Math.Seq.{take-append_seam, drop-append-add}
use Rattle.seq_file.specs.text_lines.Numerals.{are_digits, is_digit}
use Rattle.seq_file.specs.text_lines.Lines.{first_line, is_line_end, cut}
use Rattle.seq_file.proofs.text_lines.Spelling.{decimal-digits}
use Rattle.common_lemmas.proofs.Numbers.{one_more}
use Rattle.common_lemmas.proofs.Truth.{clash, not_true}

-- no byte is the mark
abbrev pub IsFreeOf : ℕ → List ℕ → Type 0
IsFreeOf m text = All (λ b. (b == m) ≡ false) text

pub free-cons : (m b : ℕ) (text : List ℕ) → (b == m) ≡ false → IsFreeOf m text → IsFreeOf m (b ∷ text)
free-cons m b text h rest = All-cons (λ x. (x == m) ≡ false) b text h rest

pub free-one : (m b : ℕ) → (b == m) ≡ false → IsFreeOf m (b ∷ [])
free-one m b h = free-cons m b [] h (All-nil (λ x. (x == m) ≡ false))

-- a mark below the digits stands in no number
pub digits-free : (m : ℕ) (ds : List ℕ) → m < 48 → are_digits ds ≡ true → IsFreeOf m ds
digits-free m [] h d = All-nil (λ x. (x == m) ≡ false)
digits-free m (b ∷ rest) h d =
    let both = and_parts (is_digit b) (are_digits rest) d in
    let low : 48 ≤ b = leb-true 48 b (and_parts _ _ both.0).0 in
    free-cons m b rest (ne_eqb b m (λ e. absurd (omega (arith, low, e, h)))) (digits-free m rest h both.1)

pub decimal-free : (m n : ℕ) → m < 45 → n < 2 ^ 64 → IsFreeOf m (decimal n)
decimal-free m n h lt = digits-free m (decimal n) (omega (arith, h)) (decimal-digits n lt)

pub signed-free : (m : ℕ) (z : ℤ) → m < 45 → mag z < 2 ^ 63 → IsFreeOf m (signed_decimal z)
signed-free m (pos n) h lt = decimal-free m n h (omega (arith, lt))
signed-free m (negsuc n) h lt = free-cons m 45 (decimal (suc n)) (ne_eqb 45 m (λ e. absurd (omega (arith, e, h)))) (decimal-free m (suc n) h (omega (arith, lt)))

abbrev pub left_of : Option (List ℕ × List ℕ) → List ℕ
left_of None = []
left_of (Some (a, b)) = a

abbrev pub right_of : Option (List ℕ × List ℕ) → List ℕ
right_of None = []
right_of (Some (a, b)) = b

-- no byte of a text is the mark, as a test
abbrev are_free : ℕ → List ℕ → Bool
are_free m [] = true
are_free m (b ∷ rest) = not (b == m) && are_free m rest

pub free-prefix : (m : ℕ) (front back : List ℕ) → are_free m front ≡ true → IsFreeOf m back → IsFreeOf m (front ++ back)
free-prefix m [] back h k = k
free-prefix m (b ∷ front) back h k =
    let both = and_parts (not (b == m)) (are_free m front) h in
    free-cons m b (front ++ back) (not_true (b == m) both.0) (free-prefix m front back both.1 k)

-- a text in front of the first mark
pub place-of_mark : (m : ℕ) (text rest : List ℕ) → IsFreeOf m text → position_or_len (λ b. b == m) (text ++ (m ∷ rest)) ≡ length text
place-of_mark m [] rest free = ap (λ t. cond (not t) (1 + position_or_len (λ b. b == m) rest) 0) (eq-eqb m m refl)
place-of_mark m (b ∷ text) rest free =
    ap (λ t. cond (not t) (1 + position_or_len (λ x. x == m) (text ++ (m ∷ rest))) 0) (All-head (λ x. (x == m) ≡ false) b text free)
    ∙ ap (λ t. 1 + t) (place-of_mark m text rest (All-tail (λ x. (x == m) ≡ false) b text free))
    ∙ one_more (length text)

pub cut-at_mark : (m : ℕ) (text rest : List ℕ) → IsFreeOf m text → cut (λ b. b == m) (text ++ (m ∷ rest)) ≡ Some (text, rest)
cut-at_mark m text rest free =
    let whole : List ℕ = text ++ (m ∷ rest) in
    let parts : ℕ → List ℕ × List ℕ = λ n. (take n whole, drop (n + 1) whole) in
    ap (λ t. option_map parts (cond (nat_lt t (length whole)) (Some t) None)) (place-of_mark m text rest free)
    ∙ ap (λ t. option_map parts (cond t (Some (length text)) None)) (lt-ltb (length text) (length whole) (omega (arith, length-append text (m ∷ rest))))
    ∙ ap (λ t. Some (t, drop (length text + 1) whole)) (take-append_seam text (m ∷ rest))
    ∙ ap (λ t. Some (text, t)) (drop-append-add text (m ∷ rest) 1)

pub cut-parts : (m : ℕ) (text a b : List ℕ) → cut (λ x. x == m) text ≡ Some (a, b) → text ≡ a ++ (m ∷ b)
cut-parts m text a b h =
    let p : ℕ → Bool = λ x. x == m in
    let at : ℕ = position_or_len p text in
    let parts : ℕ → List ℕ × List ℕ = λ n. (take n text, drop (n + 1) text) in
    elim (cases_Bool (nat_lt at (length text))) [
      | inl e ↦
          let lt : at < length text = ltb-true at (length text) e in
          let same : Some (take at text, drop (at + 1) text) ≡ Some (a, b) = sym (ap (λ t. option_map parts (cond t (Some at) None)) e) ∙ h in
          split_at_first p text 0 lt
          ∙ ap (λ t. t ++ (get_or text at 0 ∷ drop (at + 1) text)) (ap left_of same)
          ∙ ap (λ t. a ++ (t ∷ drop (at + 1) text)) (eqb-true (get_or text at 0) m (passes_at_first p text 0 lt))
          ∙ ap (λ t. a ++ (m ∷ t)) (ap right_of same)
      | inr e ↦ clash (ap is_some (sym (ap (λ t. option_map parts (cond t (Some at) None)) e) ∙ h))
    ]

first-of_cut : (text : List ℕ) (o : Option ℕ) (a b : List ℕ) → option_map {U = List ℕ × List ℕ} (λ n. (take n text, drop (n + 1) text)) o ≡ Some (a, b) → option_map (λ n. take n text) o ≡ Some a
first-of_cut text None a b h = clash (ap is_some h)
first-of_cut text (Some n) a b h = ap (λ o. Some (left_of o)) h

-- the first line is the first part of the cut
pub first-line_cut : (text a b : List ℕ) → cut is_line_end text ≡ Some (a, b) → first_line text ≡ Some a
first-line_cut text a b h = first-of_cut text (position is_line_end text) a b h

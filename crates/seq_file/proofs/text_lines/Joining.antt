-- Words joined by blanks to a line, and the line cut into its words again.
use Rattle.std.proofs.Common.{◌≡◌, ◌≢◌, ℕ, ◌+◌, false, List, [], ◌∷◌, length, map, All, Option, None, Some, refl, ap, ◌∙◌, sym, subst, arith}
use Rattle.std.specs.List.{join_with_byte}
use Rattle.std.specs.Prelude.{◌==◌, is_some, unwrap_or, count_by}
use Rattle.std.proofs.lemmas.List.Elements.{All-nil, All-cons, All-head, All-tail, All-append}
use Rattle.std.proofs.lemmas.List.Splits.{slice_split_at, slice_split_none, join_with_byte-slice_split, length-slice_split}
use Rattle.seq_file.specs.text_lines.Lines.{is_blank, words_of, with_two, all_of}
use Rattle.seq_file.proofs.text_lines.Marking.{IsFreeOf, free-cons}
use Rattle.common_lemmas.proofs.Truth.{clash}

-- a mark that stands in no word and is no blank stands in no line
pub joined-free : (m : ℕ) (words : List (List ℕ)) → (32 == m) ≡ false → All (IsFreeOf m) words → IsFreeOf m (join_with_byte 32 words)
joined-free m [] h free = All-nil (λ b. (b == m) ≡ false)
joined-free m (word ∷ []) h free = All-head (IsFreeOf m) word [] free
joined-free m (word ∷ next ∷ rest) h free =
    All-append (λ b. (b == m) ≡ false) word (32 ∷ join_with_byte 32 (next ∷ rest)) (All-head (IsFreeOf m) word (next ∷ rest) free)
    (free-cons m 32 (join_with_byte 32 (next ∷ rest)) h (joined-free m (next ∷ rest) h (All-tail (IsFreeOf m) word (next ∷ rest) free)))

-- a line of words without blanks has these words
pub joined-words : (word : List ℕ) (rest : List (List ℕ)) → All (IsFreeOf 32) (word ∷ rest) → words_of (join_with_byte 32 (word ∷ rest)) ≡ word ∷ rest
joined-words word [] free = slice_split_none is_blank word (All-head (IsFreeOf 32) word [] free)
joined-words word (next ∷ rest) free =
    slice_split_at is_blank word 32 (join_with_byte 32 (next ∷ rest)) (All-head (IsFreeOf 32) word (next ∷ rest) free) refl
    ∙ ap (λ t. word ∷ t) (joined-words next rest (All-tail (IsFreeOf 32) word (next ∷ rest) free))

-- a line is its words, joined
pub words-joined : (line : List ℕ) (words : List (List ℕ)) → words_of line ≡ words → line ≡ join_with_byte 32 words
words-joined line words h = sym (join_with_byte-slice_split 32 line) ∙ ap (join_with_byte 32) h

some-words : (words : List (List ℕ)) (n : ℕ) → length words ≡ n + 1 → words ≢ []
some-words words n h e = absurd (omega (arith, h, ap length e))

-- a line has words
pub has-words : (line : List ℕ) → words_of line ≢ []
has-words line = some-words (words_of line) (count_by is_blank line) (length-slice_split is_blank line)

-- texts that are read as what they write
pub all-written : {X : Type 0} (read : List ℕ → Option X) (text : X → List ℕ) (Good : X → Type 0) → ((x : X) → Good x → read (text x) ≡ Some x) → (xs : List X) → All Good xs → all_of read (map text xs) ≡ Some xs
all-written read text Good h [] good = refl
all-written read text Good h (x ∷ xs) good =
    ap (λ o. with_two (λ y ys. y ∷ ys) o (all_of read (map text xs))) (h x (All-head Good x xs good))
    ∙ ap (λ o. with_two (λ y ys. y ∷ ys) (Some x) o) (all-written read text Good h xs (All-tail Good x xs good))

-- what a word and those behind it write
pub two-case : {A B X : Type 0} (make : A → B → X) (o : Option A) (p : Option B) (x : X) → with_two make o p ≡ Some x → (a : A) × (b : B) × (o ≡ Some a) × (p ≡ Some b) × (make a b ≡ x)
two-case make None p x h = clash (ap is_some h)
two-case make (Some a) None x h = clash (ap is_some h)
two-case make (Some a) (Some b) x h = (a, b, refl, refl, ap (λ o. unwrap_or o (make a b)) h)

-- words are the texts of what they write, and that is good
pub record AreSpelled {X : Type 0} (text : X → List ℕ) (Good : X → Type 0) (words : List (List ℕ)) (xs : List X) : Type 0 where
  pub texts : words ≡ map text xs
  pub good : All Good xs

none-spelled : {X : Type 0} (text : X → List ℕ) (Good : X → Type 0) (ys : List X) → [] ≡ ys → AreSpelled text Good [] ys
none-spelled text Good [] same = record { texts = refl; good = All-nil Good }
none-spelled text Good (y ∷ ys) same = absurd (omega (arith, ap length same))

pub all-spelled : {X : Type 0} (read : List ℕ → Option X) (text : X → List ℕ) (Good : X → Type 0) → ((word : List ℕ) (x : X) → read word ≡ Some x → (word ≡ text x) × Good x) →
    (words : List (List ℕ)) (xs : List X) → all_of read words ≡ Some xs → AreSpelled text Good words xs
all-spelled read text Good h [] xs e = none-spelled text Good xs (ap (λ o. unwrap_or o xs) e)
all-spelled read text Good h (word ∷ rest) xs e =
    let (y, ys, first, others, same) = two-case (λ y ys. y ∷ ys) (read word) (all_of read rest) xs e in
    let behind : AreSpelled text Good rest ys = all-spelled read text Good h rest ys others in
    let here = h word y first in
    record {
      texts = ap (λ t. t ∷ rest) here.0 ∙ ap (λ t. text y ∷ t) behind.texts ∙ ap (map text) same;
      good = subst (All Good) same (All-cons Good y ys here.1 behind.good);
    }

-- Words that write numbers, patterns and lines are the words of these.
use Rattle.std.proofs.Common.{◌≡◌, ℕ, ℤ, pos, negsuc, ◌^◌, ◌<◌, ◌≤◌, Bool, true, false, cond, List, [], ◌∷◌, ◌++◌, map, take, drop, All, Option, None, Some, option_map, refl, ap, ◌∙◌, sym, subst, arith, inl, inr, decimal, append-nil}
use Rattle.std.specs.Fmt.{signed_decimal}
use Rattle.std.specs.Int.Signed.{mag}
use Rattle.std.specs.Prelude.{bytes_eq, codes, nat_le, option_and_then, ⊤}
use Rattle.std.proofs.lemmas.Bool.{cases_Bool, le-leb, leb-true, lt-ltb}
use Rattle.std.proofs.lemmas.List.Elements.{All-nil, All-cons, All-head, All-tail}
use Rattle.std.proofs.lemmas.Slice.Eq.{bytes_eq-Decides}
use Rattle.common_lemmas.proofs.Lists.{found_passes}
use Rattle.common_lemmas.proofs.Options.{some_same, not_missing}
use Rattle.common_lemmas.proofs.Truth.{clash}
use Rattle.seq_file.specs.text_lines.Numerals.{natural, integer, small_number, only_if}
use Rattle.seq_file.proofs.text_lines.Narrowing.{small_number-of_decimal, word-of_small_number}
use Rattle.seq_file.proofs.text_lines.Spelling.{integer-of_signed, word-of_integer}
use Rattle.syn_constraint.specs.declared.constraints.Num.{Num}
use Rattle.syn_constraint.specs.declared.constraints.Num.TheVariants.{Every, Same, Exact}
use Rattle.syn_constraint.specs.declared.constraints.Letter.{Letter}
use Rattle.syn_constraint.specs.declared.constraints.Letter.TheVariants.{R, E, S, D, C, T, F, X, B, Z, Whole}
use Rattle.syn_constraint.specs.declared.constraints.Pattern.{Pattern}
use Rattle.syn_constraint.specs.Matching.{asked_of}
use Rattle.syn_constraint.specs.Lines.{Line, BeforeLine, NeverLine, MostLine, largest_limit, letter_text, number_count, num_text, pattern_words, line_words, letters, letter_of_word, num_of_word, limit_of_word, Front, on_front, first_by, num_front, pattern_with, numbers_front, pattern_front, at_end, pattern_of, of_two, of_three, line_of_words}
use Rattle.syn_constraint.specs.Files.{IsPlain, IsSound}

-- ---- fronts

-- what something was made of
record IsMadeOf {A X : Type 0} (make : A → List (List ℕ) → Option X) (front : Front A) (x : X) : Type 0 where
  value : A
  behind : List (List ℕ)
  front_is : front ≡ Some (value, behind)
  made : make value behind ≡ Some x

made-of : {A X : Type 0} (make : A → List (List ℕ) → Option X) (front : Front A) (x : X) → on_front make front ≡ Some x → IsMadeOf make front x
made-of make None x h = absurd (not_missing x h)
made-of make (Some p) x h = record { value = p.0; behind = p.1; front_is = refl; made = h }

-- the word that something was read from
record IsReadFrom {A : Type 0} (read : List ℕ → Option A) (words : List (List ℕ)) (value : A) (behind : List (List ℕ)) : Type 0 where
  word : List ℕ
  words_are : words ≡ word ∷ behind
  reads : read word ≡ Some value

read-by : {A : Type 0} (read : List ℕ → Option A) (word : List ℕ) (rest : List (List ℕ)) (o : Option A) (value : A) (behind : List (List ℕ)) → read word ≡ o →
    option_map {U = A × List (List ℕ)} (λ x. (x, rest)) o ≡ Some (value, behind) → IsReadFrom read (word ∷ rest) value behind
read-by read word rest None value behind is h = absurd (not_missing (value, behind) h)
read-by {A} read word rest (Some x) value behind is h =
    let same : (x, rest) ≡ (value, behind) = some_same h in
    record { word = word; words_are = ap (λ t. word ∷ t) (ap (λ (p : A × List (List ℕ)). p.1) same); reads = is ∙ ap Some (ap (λ (p : A × List (List ℕ)). p.0) same) }

read-from : {A : Type 0} (read : List ℕ → Option A) (words : List (List ℕ)) (value : A) (behind : List (List ℕ)) → first_by read words ≡ Some (value, behind) → IsReadFrom read words value behind
read-from read [] value behind h = absurd (not_missing (value, behind) h)
read-from read (word ∷ rest) value behind h = read-by read word rest (read word) value behind refl h

first-read : {A : Type 0} (read : List ℕ → Option A) (word : List ℕ) (rest : List (List ℕ)) (value : A) → read word ≡ Some value → first_by read (word ∷ rest) ≡ Some (value, rest)
first-read {A} read word rest value h = ap (option_map {U = A × List (List ℕ)} (λ x. (x, rest))) h

-- ---- letters

letter-written : (l : Letter) → letter_of_word (letter_text l) ≡ Some l
letter-written R = refl
letter-written E = refl
letter-written S = refl
letter-written D = refl
letter-written C = refl
letter-written T = refl
letter-written F = refl
letter-written X = refl
letter-written B = refl
letter-written Z = refl
letter-written Whole = refl

word-is : (word text : List ℕ) → bytes_eq word text ≡ true → word ≡ text
word-is word text h = (bytes_eq-Decides word text).0 h

letter-word : (word : List ℕ) (l : Letter) → letter_of_word word ≡ Some l → word ≡ letter_text l
letter-word word l h = word-is word (letter_text l) (found_passes (λ letter. bytes_eq word (letter_text letter)) letters l h)

-- ---- numbers

-- an exact number is small enough to be read as it is written
abbrev pub IsSmall : Num → Type 0
IsSmall Every = ⊤
IsSmall Same = ⊤
IsSmall (Exact z) = mag z < 2 ^ 63

star-none : integer (codes "*") ≡ None
unfolding integer natural
star-none = refl

question-none : integer (codes "?") ≡ None
unfolding integer natural
question-none = refl

-- the word of an integer is no other that writes none
integer-other : (z : ℤ) (word : List ℕ) → mag z < 2 ^ 63 → integer word ≡ None → bytes_eq (signed_decimal z) word ≡ false
integer-other z word small none = elim (cases_Bool (bytes_eq (signed_decimal z) word)) [
  | inl same ↦ absurd (not_missing z (sym none ∙ ap integer (sym (word-is (signed_decimal z) word same)) ∙ integer-of_signed z small))
  | inr other ↦ other
]

num-written : (n : Num) → IsSmall n → num_of_word (num_text n) ≡ Some n
num-written Every small = refl
num-written Same small = refl
num-written (Exact z) small =
    let text : List ℕ = signed_decimal z in
    ap (λ b. cond b (Some Every) (cond (bytes_eq text (codes "?")) (Some Same) (option_map Exact (integer text)))) (integer-other z (codes "*") small star-none)
    ∙ ap (λ b. cond b (Some Same) (option_map Exact (integer text))) (integer-other z (codes "?") small question-none)
    ∙ ap (option_map Exact) (integer-of_signed z small)

exact-word : (word : List ℕ) (o : Option ℤ) (n : Num) → integer word ≡ o → option_map Exact o ≡ Some n → IsSmall n → word ≡ num_text n
exact-word word None n is h small = absurd (not_missing n h)
exact-word word (Some z) n is h small =
    let same : Exact z ≡ n = some_same h in
    word-of_integer word z is (subst IsSmall (sym same) small) ∙ ap num_text same

num-word : (word : List ℕ) (n : Num) → num_of_word word ≡ Some n → IsSmall n → word ≡ num_text n
num-word word n h small = elim (cases_Bool (bytes_eq word (codes "*"))) [
  | inl star ↦
      word-is word (codes "*") star
      ∙ ap num_text (some_same (sym (ap (λ b. cond b (Some Every) (cond (bytes_eq word (codes "?")) (Some Same) (option_map Exact (integer word)))) star) ∙ h))
  | inr no' ↦
      let rest : cond (bytes_eq word (codes "?")) (Some Same) (option_map Exact (integer word)) ≡ Some n =
      sym (ap (λ b. cond b (Some Every) (cond (bytes_eq word (codes "?")) (Some Same) (option_map Exact (integer word)))) no') ∙ h in
      elim (cases_Bool (bytes_eq word (codes "?"))) [
        | inl question ↦ word-is word (codes "?") question ∙ ap num_text (some_same (sym (ap (λ b. cond b (Some Same) (option_map Exact (integer word))) question) ∙ rest))
        | inr none ↦ exact-word word (integer word) n refl (sym (ap (λ b. cond b (Some Same) (option_map Exact (integer word))) none) ∙ rest) small
      ]
]

limit-written : (n : ℕ) → n ≤ largest_limit → limit_of_word (decimal n) ≡ Some n
limit-written n low =
    ap (option_and_then (only_if (λ m. nat_le m largest_limit))) (small_number-of_decimal n (lt-ltb n (2 ^ 32) (omega (arith, low))))
    ∙ ap (λ b. cond b (Some n) None) (le-leb n largest_limit low)

limit-by : (word : List ℕ) (o : Option ℕ) (n : ℕ) → small_number word ≡ o → option_and_then (only_if (λ m. nat_le m largest_limit)) o ≡ Some n → (word ≡ decimal n) × (n ≤ largest_limit)
limit-by word None n is h = absurd (not_missing n h)
limit-by word (Some m) n is h = elim (cases_Bool (nat_le m largest_limit)) [
  | inl low ↦
      let same : m ≡ n = some_same (sym (ap (λ b. cond b (Some m) None) low) ∙ h) in
      ((word-of_small_number word m is).0 ∙ ap decimal same, omega (arith, same, leb-true m largest_limit low))
  | inr high ↦ absurd (not_missing n (sym (ap (λ b. cond b (Some m) None) high) ∙ h))
]

limit-word : (word : List ℕ) (n : ℕ) → limit_of_word word ≡ Some n → (word ≡ decimal n) × (n ≤ largest_limit)
limit-word word n h = limit-by word (small_number word) n refl h

-- ---- the numbers of a pattern

-- a pattern, and the words behind it
abbrev Read : Type 0
Read = Pattern × List (List ℕ)

-- the numbers behind the first n are `*`
abbrev pub ArePlain : ℕ → Num → Num → Num → Type 0
ArePlain n one two three = All (λ m. m ≡ Every) (drop n (one ∷ two ∷ three ∷ []))

-- the words of the first n numbers
abbrev pub num_words : ℕ → Num → Num → Num → List (List ℕ)
num_words n one two three = map num_text (take n (one ∷ two ∷ three ∷ []))

one-written : (l : Letter) (a b c : Num) (rest : List (List ℕ)) → IsSmall a → ArePlain 1 a b c →
    on_front {X = Read} (λ one x. Some (pattern_with l one Every Every, x)) (first_by num_of_word (num_text a ∷ rest)) ≡ Some (pattern_with l a b c, rest)
one-written l a b c rest sa plain =
    ap (on_front {X = Read} (λ one x. Some (pattern_with l one Every Every, x))) (first-read num_of_word (num_text a) rest a (num-written a sa))
    ∙ ap (λ t. Some (pattern_with l a t Every, rest)) (sym (All-head (λ m. m ≡ Every) b (c ∷ []) plain))
    ∙ ap (λ t. Some (pattern_with l a b t, rest)) (sym (All-head (λ m. m ≡ Every) c [] (All-tail (λ m. m ≡ Every) b (c ∷ []) plain)))

two-written : (l : Letter) (a b c : Num) (rest : List (List ℕ)) → IsSmall a → IsSmall b → ArePlain 2 a b c →
    on_front {X = Read} (λ one x. on_front {X = Read} (λ two y. Some (pattern_with l one two Every, y)) (first_by num_of_word x)) (first_by num_of_word (num_text a ∷ num_text b ∷ rest)) ≡ Some (pattern_with l a b c, rest)
two-written l a b c rest sa sb plain =
    ap (on_front {X = Read} (λ one x. on_front {X = Read} (λ two y. Some (pattern_with l one two Every, y)) (first_by num_of_word x)))
    (first-read num_of_word (num_text a) (num_text b ∷ rest) a (num-written a sa))
    ∙ ap (on_front {X = Read} (λ two y. Some (pattern_with l a two Every, y))) (first-read num_of_word (num_text b) rest b (num-written b sb))
    ∙ ap (λ t. Some (pattern_with l a b t, rest)) (sym (All-head (λ m. m ≡ Every) c [] plain))

three-written : (l : Letter) (a b c : Num) (rest : List (List ℕ)) → IsSmall a → IsSmall b → IsSmall c →
    on_front {X = Read} (λ one x. on_front {X = Read} (λ two y. on_front {X = Read} (λ three z. Some (pattern_with l one two three, z)) (first_by num_of_word y)) (first_by num_of_word x))
    (first_by num_of_word (num_text a ∷ num_text b ∷ num_text c ∷ rest)) ≡ Some (pattern_with l a b c, rest)
three-written l a b c rest sa sb sc =
    ap (on_front {X = Read} (λ one x. on_front {X = Read} (λ two y. on_front {X = Read} (λ three z. Some (pattern_with l one two three, z)) (first_by num_of_word y)) (first_by num_of_word x)))
    (first-read num_of_word (num_text a) (num_text b ∷ num_text c ∷ rest) a (num-written a sa))
    ∙ ap (on_front {X = Read} (λ two y. on_front {X = Read} (λ three z. Some (pattern_with l a two three, z)) (first_by num_of_word y)))
    (first-read num_of_word (num_text b) (num_text c ∷ rest) b (num-written b sb))
    ∙ ap (on_front {X = Read} (λ three z. Some (pattern_with l a b three, z))) (first-read num_of_word (num_text c) rest c (num-written c sc))

none-written : (l : Letter) (a b c : Num) (rest : List (List ℕ)) → ArePlain 0 a b c → ◌≡◌ {A = Front Pattern} (Some (pattern_with l Every Every Every, rest)) (Some (pattern_with l a b c, rest))
none-written l a b c rest plain =
    let P : Num → Type 0 = λ m. m ≡ Every in
    let behind : All P (b ∷ c ∷ []) = All-tail P a (b ∷ c ∷ []) plain in
    ap (λ t. Some (pattern_with l t Every Every, rest)) (sym (All-head P a (b ∷ c ∷ []) plain))
    ∙ ap (λ t. Some (pattern_with l a t Every, rest)) (sym (All-head P b (c ∷ []) behind))
    ∙ ap (λ t. Some (pattern_with l a b t, rest)) (sym (All-head P c [] (All-tail P b (c ∷ []) behind)))

numbers-written : (l : Letter) (a b c : Num) (rest : List (List ℕ)) → IsSmall a → IsSmall b → IsSmall c → ArePlain (number_count l) a b c →
    numbers_front l (num_words (number_count l) a b c ++ rest) ≡ Some (pattern_with l a b c, rest)
numbers-written R a b c rest sa sb sc plain = three-written R a b c rest sa sb sc
numbers-written E a b c rest sa sb sc plain = one-written E a b c rest sa plain
numbers-written S a b c rest sa sb sc plain = one-written S a b c rest sa plain
numbers-written D a b c rest sa sb sc plain = two-written D a b c rest sa sb plain
numbers-written C a b c rest sa sb sc plain = three-written C a b c rest sa sb sc
numbers-written T a b c rest sa sb sc plain = three-written T a b c rest sa sb sc
numbers-written F a b c rest sa sb sc plain = three-written F a b c rest sa sb sc
numbers-written X a b c rest sa sb sc plain = one-written X a b c rest sa plain
numbers-written B a b c rest sa sb sc plain = two-written B a b c rest sa sb plain
numbers-written Z a b c rest sa sb sc plain = none-written Z a b c rest plain
numbers-written Whole a b c rest sa sb sc plain = none-written Whole a b c rest plain

-- what the numbers of a pattern were read from
record AreRead (l : Letter) (n : ℕ) (words : List (List ℕ)) (p : Pattern) (rest : List (List ℕ)) : Type 0 where
  one : Num
  two : Num
  three : Num
  is : pattern_with l one two three ≡ p
  plain : ArePlain n one two three
  words_are : IsSmall one → IsSmall two → IsSmall three → words ≡ num_words n one two three ++ rest

every-plain : All (λ m. m ≡ Every) (Every ∷ [])
every-plain = All-cons (λ m. m ≡ Every) Every [] refl (All-nil (λ m. m ≡ Every))

none-read : (l : Letter) (words : List (List ℕ)) (p : Pattern) (rest : List (List ℕ)) → ◌≡◌ {A = Front Pattern} (Some (pattern_with l Every Every Every, words)) (Some (p, rest)) → AreRead l 0 words p rest
none-read l words p rest h =
    let same : (pattern_with l Every Every Every, words) ≡ (p, rest) = some_same h in
    record {
      one = Every;
      two = Every;
      three = Every;
      is = ap (λ (x : Read). x.0) same;
      plain = All-cons (λ m. m ≡ Every) Every (Every ∷ Every ∷ []) refl (All-cons (λ m. m ≡ Every) Every (Every ∷ []) refl every-plain);
      words_are = λ sa sb sc. ap (λ (x : Read). x.1) same;
    }

one-read : (l : Letter) (words : List (List ℕ)) (p : Pattern) (rest : List (List ℕ)) → on_front {X = Read} (λ one x. Some (pattern_with l one Every Every, x)) (first_by num_of_word words) ≡ Some (p, rest) → AreRead l 1 words p rest
one-read l words p rest h =
    let made = made-of {A = Num} {X = Read} (λ one x. Some (pattern_with l one Every Every, x)) (first_by num_of_word words) (p, rest) h in
    let from = read-from num_of_word words made.value made.behind made.front_is in
    let same : (pattern_with l made.value Every Every, made.behind) ≡ (p, rest) = some_same made.made in
    record {
      one = made.value;
      two = Every;
      three = Every;
      is = ap (λ (x : Read). x.0) same;
      plain = All-cons (λ m. m ≡ Every) Every (Every ∷ []) refl every-plain;
      words_are = λ sa sb sc. from.words_are ∙ ap (λ t. t ∷ made.behind) (num-word from.word made.value from.reads sa) ∙ ap (λ (x : Read). num_text made.value ∷ x.1) same;
    }

two-read : (l : Letter) (words : List (List ℕ)) (p : Pattern) (rest : List (List ℕ)) →
    on_front {X = Read} (λ one x. on_front {X = Read} (λ two y. Some (pattern_with l one two Every, y)) (first_by num_of_word x)) (first_by num_of_word words) ≡ Some (p, rest) → AreRead l 2 words p rest
two-read l words p rest h =
    let first = made-of {A = Num} {X = Read} (λ one x. on_front {X = Read} (λ two y. Some (pattern_with l one two Every, y)) (first_by num_of_word x)) (first_by num_of_word words) (p, rest) h in
    let second = made-of {A = Num} {X = Read} (λ two y. Some (pattern_with l first.value two Every, y)) (first_by num_of_word first.behind) (p, rest) first.made in
    let from = read-from num_of_word words first.value first.behind first.front_is in
    let from' = read-from num_of_word first.behind second.value second.behind second.front_is in
    let same : (pattern_with l first.value second.value Every, second.behind) ≡ (p, rest) = some_same second.made in
    record {
      one = first.value;
      two = second.value;
      three = Every;
      is = ap (λ (x : Read). x.0) same;
      plain = every-plain;
      words_are = λ sa sb sc.
          from.words_are ∙ ap (λ t. t ∷ first.behind) (num-word from.word first.value from.reads sa)
          ∙ ap (λ t. num_text first.value ∷ t) (from'.words_are ∙ ap (λ t. t ∷ second.behind) (num-word from'.word second.value from'.reads sb))
          ∙ ap (λ (x : Read). num_text first.value ∷ num_text second.value ∷ x.1) same;
    }

three-read : (l : Letter) (words : List (List ℕ)) (p : Pattern) (rest : List (List ℕ)) →
    on_front {X = Read} (λ one x. on_front {X = Read} (λ two y. on_front {X = Read} (λ three z. Some (pattern_with l one two three, z)) (first_by num_of_word y)) (first_by num_of_word x)) (first_by num_of_word words) ≡ Some (p, rest) →
    AreRead l 3 words p rest
three-read l words p rest h =
    let first = made-of {A = Num} {X = Read} (λ one x. on_front {X = Read} (λ two y. on_front {X = Read} (λ three z. Some (pattern_with l one two three, z)) (first_by num_of_word y)) (first_by num_of_word x)) (first_by num_of_word words) (p, rest) h in
    let second = made-of {A = Num} {X = Read} (λ two y. on_front {X = Read} (λ three z. Some (pattern_with l first.value two three, z)) (first_by num_of_word y)) (first_by num_of_word first.behind) (p, rest) first.made in
    let third = made-of {A = Num} {X = Read} (λ three z. Some (pattern_with l first.value second.value three, z)) (first_by num_of_word second.behind) (p, rest) second.made in
    let from = read-from num_of_word words first.value first.behind first.front_is in
    let from' = read-from num_of_word first.behind second.value second.behind second.front_is in
    let from'' = read-from num_of_word second.behind third.value third.behind third.front_is in
    let same : (pattern_with l first.value second.value third.value, third.behind) ≡ (p, rest) = some_same third.made in
    record {
      one = first.value;
      two = second.value;
      three = third.value;
      is = ap (λ (x : Read). x.0) same;
      plain = All-nil (λ m. m ≡ Every);
      words_are = λ sa sb sc.
          from.words_are ∙ ap (λ t. t ∷ first.behind) (num-word from.word first.value from.reads sa)
          ∙ ap (λ t. num_text first.value ∷ t) (from'.words_are ∙ ap (λ t. t ∷ second.behind) (num-word from'.word second.value from'.reads sb))
          ∙ ap (λ t. num_text first.value ∷ num_text second.value ∷ t) (from''.words_are ∙ ap (λ t. t ∷ third.behind) (num-word from''.word third.value from''.reads sc))
          ∙ ap (λ (x : Read). num_text first.value ∷ num_text second.value ∷ num_text third.value ∷ x.1) same;
    }

numbers-read : (l : Letter) (words : List (List ℕ)) (p : Pattern) (rest : List (List ℕ)) → numbers_front l words ≡ Some (p, rest) → AreRead l (number_count l) words p rest
numbers-read R words p rest h = three-read R words p rest h
numbers-read E words p rest h = one-read E words p rest h
numbers-read S words p rest h = one-read S words p rest h
numbers-read D words p rest h = two-read D words p rest h
numbers-read C words p rest h = three-read C words p rest h
numbers-read T words p rest h = three-read T words p rest h
numbers-read F words p rest h = three-read F words p rest h
numbers-read X words p rest h = one-read X words p rest h
numbers-read B words p rest h = two-read B words p rest h
numbers-read Z words p rest h = none-read Z words p rest h
numbers-read Whole words p rest h = none-read Whole words p rest h

-- ---- patterns

-- the exact numbers of a pattern are small
pub record AreSmall (p : Pattern) : Type 0 where
  pub one : IsSmall p.one
  pub two : IsSmall p.two
  pub three : IsSmall p.three

pattern-written : (p : Pattern) (rest : List (List ℕ)) → IsPlain p → AreSmall p → pattern_front (pattern_words p ++ rest) ≡ Some (p, rest)
pattern-written p rest plain small =
    ap (on_front numbers_front) (first-read letter_of_word (letter_text p.letter) (num_words (number_count p.letter) p.one p.two p.three ++ rest) p.letter (letter-written p.letter))
    ∙ numbers-written p.letter p.one p.two p.three rest small.one small.two small.three plain

-- the words that a pattern was read from
record IsPattern (words : List (List ℕ)) (p : Pattern) (rest : List (List ℕ)) : Type 0 where
  plain : IsPlain p
  words_are : AreSmall p → words ≡ pattern_words p ++ rest

pattern-read : (words : List (List ℕ)) (p : Pattern) (rest : List (List ℕ)) → pattern_front words ≡ Some (p, rest) → IsPattern words p rest
pattern-read words p rest h =
    let made = made-of numbers_front (first_by letter_of_word words) (p, rest) h in
    let from = read-from letter_of_word words made.value made.behind made.front_is in
    let are : AreRead made.value (number_count made.value) made.behind p rest = numbers-read made.value made.behind p rest made.made in
    subst (λ q. IsPattern words q rest) are.is record {
      plain = are.plain;
      words_are = λ small.
          from.words_are ∙ ap (λ t. t ∷ made.behind) (letter-word from.word made.value from.reads)
          ∙ ap (λ t. letter_text made.value ∷ t) (are.words_are small.one small.two small.three);
    }

last-written : (p : Pattern) → IsPlain p → AreSmall p → pattern_of (pattern_words p) ≡ Some p
last-written p plain small =
    ap (λ t. on_front at_end (pattern_front t)) (sym (append-nil (pattern_words p)))
    ∙ ap (on_front at_end) (pattern-written p [] plain small)

end-is : {X : Type 0} (x y : X) (words : List (List ℕ)) → at_end x words ≡ Some y → (x ≡ y) × (words ≡ [])
end-is x y [] h = (some_same h, refl)
end-is x y (word ∷ rest) h = absurd (not_missing y h)

last-read : (words : List (List ℕ)) (p : Pattern) → pattern_of words ≡ Some p → IsPattern words p []
last-read words p h =
    let made = made-of at_end (pattern_front words) p h in
    let (same, none) = end-is made.value p made.behind made.made in
    subst (λ q. IsPattern words q []) same (subst (IsPattern words made.value) none (pattern-read words made.value made.behind made.front_is))

-- ---- two and three patterns

two-patterns : {X : Type 0} (make : Pattern → Pattern → X) (a b : Pattern) → IsPlain a → AreSmall a → IsPlain b → AreSmall b → of_two make (pattern_words a ++ pattern_words b) ≡ Some (make a b)
two-patterns {X} make a b pa sa pb sb =
    ap (on_front {X = X} (λ p behind. option_map (make p) (pattern_of behind))) (pattern-written a (pattern_words b) pa sa)
    ∙ ap (option_map (make a)) (last-written b pb sb)

three-patterns : {X : Type 0} (make : Pattern → Pattern → Pattern → X) (a b c : Pattern) → IsPlain a → AreSmall a → IsPlain b → AreSmall b → IsPlain c → AreSmall c →
    of_three make (pattern_words a ++ (pattern_words b ++ pattern_words c)) ≡ Some (make a b c)
three-patterns {X} make a b c pa sa pb sb pc sc =
    ap (on_front {X = X} (λ p behind. of_two (make p) behind)) (pattern-written a (pattern_words b ++ pattern_words c) pa sa)
    ∙ two-patterns (make a) b c pb sb pc sc

record AreTwo {X : Type 0} (make : Pattern → Pattern → X) (words : List (List ℕ)) (x : X) : Type 0 where
  one : Pattern
  two : Pattern
  is : make one two ≡ x
  plain_one : IsPlain one
  plain_two : IsPlain two
  words_are : AreSmall one → AreSmall two → words ≡ pattern_words one ++ pattern_words two

mapped-is : {A X : Type 0} (f : A → X) (o : Option A) (x : X) → option_map f o ≡ Some x → (a : A) × (o ≡ Some a) × (f a ≡ x)
mapped-is f None x h = absurd (not_missing x h)
mapped-is f (Some a) x h = (a, refl, some_same h)

two-are : {X : Type 0} (make : Pattern → Pattern → X) (words : List (List ℕ)) (x : X) → of_two make words ≡ Some x → AreTwo make words x
two-are {X} make words x h =
    let made = made-of {A = Pattern} {X = X} (λ p behind. option_map (make p) (pattern_of behind)) (pattern_front words) x h in
    let (b, last, same) = mapped-is (make made.value) (pattern_of made.behind) x made.made in
    let first : IsPattern words made.value made.behind = pattern-read words made.value made.behind made.front_is in
    let second : IsPattern made.behind b [] = last-read made.behind b last in
    record {
      one = made.value;
      two = b;
      is = same;
      plain_one = first.plain;
      plain_two = second.plain;
      words_are = λ sa sb. first.words_are sa ∙ ap (λ t. pattern_words made.value ++ t) (second.words_are sb ∙ append-nil (pattern_words b));
    }

record AreThree {X : Type 0} (make : Pattern → Pattern → Pattern → X) (words : List (List ℕ)) (x : X) : Type 0 where
  one : Pattern
  two : Pattern
  three : Pattern
  is : make one two three ≡ x
  plain_one : IsPlain one
  plain_two : IsPlain two
  plain_three : IsPlain three
  words_are : AreSmall one → AreSmall two → AreSmall three → words ≡ pattern_words one ++ (pattern_words two ++ pattern_words three)

three-are : {X : Type 0} (make : Pattern → Pattern → Pattern → X) (words : List (List ℕ)) (x : X) → of_three make words ≡ Some x → AreThree make words x
three-are {X} make words x h =
    let made = made-of {A = Pattern} {X = X} (λ p behind. of_two (make p) behind) (pattern_front words) x h in
    let first : IsPattern words made.value made.behind = pattern-read words made.value made.behind made.front_is in
    let rest : AreTwo (make made.value) made.behind x = two-are (make made.value) made.behind x made.made in
    record {
      one = made.value;
      two = rest.one;
      three = rest.two;
      is = rest.is;
      plain_one = first.plain;
      plain_two = rest.plain_one;
      plain_three = rest.plain_two;
      words_are = λ sa sb sc. first.words_are sa ∙ ap (λ t. pattern_words made.value ++ t) (rest.words_are sb sc);
    }

-- ---- lines

-- the exact numbers of all patterns of a line are small
abbrev pub HasSmall : Line → Type 0
HasSmall (BeforeLine early late) = AreSmall early × AreSmall late
HasSmall (NeverLine counted opens closes) = AreSmall counted × AreSmall opens × AreSmall closes
HasSmall (MostLine limit counted opens closes) = AreSmall counted × AreSmall opens × AreSmall closes

-- the words of a line write that line
pub words-written : (line : Line) → IsSound line → HasSmall line → line_of_words (line_words line) ≡ Some line
words-written (BeforeLine a b) sound small = two-patterns BeforeLine a b sound.0 small.0 sound.1 small.1
words-written (NeverLine x a b) sound small = three-patterns NeverLine x a b sound.0 small.0 sound.1 small.1 sound.2 small.2
words-written (MostLine n x a b) sound small =
    ap (on_front {X = Line} (λ limit behind. of_three (MostLine limit) behind))
    (first-read limit_of_word (decimal n) (pattern_words x ++ (pattern_words a ++ pattern_words b)) n (limit-written n sound.0))
    ∙ three-patterns (MostLine n) x a b sound.1 small.0 sound.2 small.1 sound.3 small.2

-- what the words of a line that is read are
pub record AreLineWords (words : List (List ℕ)) (line : Line) : Type 0 where
  pub sound : IsSound line
  pub words_are : HasSmall line → words ≡ line_words line

before-words : (word : List ℕ) (rest : List (List ℕ)) (line : Line) → word ≡ codes "before" → of_two BeforeLine rest ≡ Some line → AreLineWords (word ∷ rest) line
before-words word rest line e h =
    let are : AreTwo BeforeLine rest line = two-are BeforeLine rest line h in
    subst (AreLineWords (word ∷ rest)) are.is record {
      sound = (are.plain_one, are.plain_two);
      words_are = λ small. ap (λ t. t ∷ rest) e ∙ ap (λ t. codes "before" ∷ t) (are.words_are small.0 small.1);
    }

never-words : (word : List ℕ) (rest : List (List ℕ)) (line : Line) → word ≡ codes "never" → of_three NeverLine rest ≡ Some line → AreLineWords (word ∷ rest) line
never-words word rest line e h =
    let are : AreThree NeverLine rest line = three-are NeverLine rest line h in
    subst (AreLineWords (word ∷ rest)) are.is record {
      sound = (are.plain_one, are.plain_two, are.plain_three);
      words_are = λ small. ap (λ t. t ∷ rest) e ∙ ap (λ t. codes "never" ∷ t) (are.words_are small.0 small.1 small.2);
    }

most-words : (word : List ℕ) (rest : List (List ℕ)) (line : Line) → word ≡ codes "most" → on_front (λ limit behind. of_three (MostLine limit) behind) (first_by limit_of_word rest) ≡ Some line → AreLineWords (word ∷ rest) line
most-words word rest line e h =
    let made = made-of {A = ℕ} {X = Line} (λ limit behind. of_three (MostLine limit) behind) (first_by limit_of_word rest) line h in
    let from = read-from limit_of_word rest made.value made.behind made.front_is in
    let (text, low) = limit-word from.word made.value from.reads in
    let are : AreThree (MostLine made.value) made.behind line = three-are (MostLine made.value) made.behind line made.made in
    subst (AreLineWords (word ∷ rest)) are.is record {
      sound = (low, are.plain_one, are.plain_two, are.plain_three);
      words_are = λ small.
          ap (λ t. t ∷ rest) e
          ∙ ap (λ t. codes "most" ∷ t) (from.words_are ∙ ap (λ t. t ∷ made.behind) text ∙ ap (λ t. decimal made.value ∷ t) (are.words_are small.0 small.1 small.2));
    }

pub words-read : (words : List (List ℕ)) (line : Line) → line_of_words words ≡ Some line → AreLineWords words line
words-read [] line h = absurd (not_missing line h)
words-read (word ∷ rest) line h =
    let most : Option Line = on_front (λ limit behind. of_three (MostLine limit) behind) (first_by limit_of_word rest) in
    elim (cases_Bool (bytes_eq word (codes "before"))) [
      | inl before ↦
          before-words word rest line (word-is word (codes "before") before)
          (sym (ap (λ b. cond b (of_two BeforeLine rest) (cond (bytes_eq word (codes "never")) (of_three NeverLine rest) (cond (bytes_eq word (codes "most")) most None))) before) ∙ h)
      | inr no' ↦
          let h1 : cond (bytes_eq word (codes "never")) (of_three NeverLine rest) (cond (bytes_eq word (codes "most")) most None) ≡ Some line =
          sym (ap (λ b. cond b (of_two BeforeLine rest) (cond (bytes_eq word (codes "never")) (of_three NeverLine rest) (cond (bytes_eq word (codes "most")) most None))) no') ∙ h in
          elim (cases_Bool (bytes_eq word (codes "never"))) [
            | inl never ↦ never-words word rest line (word-is word (codes "never") never) (sym (ap (λ b. cond b (of_three NeverLine rest) (cond (bytes_eq word (codes "most")) most None)) never) ∙ h1)
            | inr no'' ↦
                let h2 : cond (bytes_eq word (codes "most")) most None ≡ Some line = sym (ap (λ b. cond b (of_three NeverLine rest) (cond (bytes_eq word (codes "most")) most None)) no'') ∙ h1 in
                elim (cases_Bool (bytes_eq word (codes "most"))) [
                  | inl is ↦ most-words word rest line (word-is word (codes "most") is) (sym (ap (λ b. cond b most None) is) ∙ h2)
                  | inr none ↦ absurd (not_missing line (sym (ap (λ b. cond b most None) none) ∙ h2))
                ]
          ]
    ]

-- The format of constraint files keeps the laws of formats, and a file read line by line.
use Rattle.std.proofs.Common.{◌≡◌, ◌≢◌, ℕ, zero, suc, ◌+◌, ◌^◌, ◌<◌, ◌≤◌, Bool, true, false, cond, List, [], ◌∷◌, ◌++◌, length, map, take, All, Option, None, Some, option_map, refl, ap, ◌∙◌, sym, subst, arith, decimal, length-append}
use Rattle.std.specs.List.{list_all}
use Rattle.std.specs.Prelude.{◌==◌, ◌&&◌, nat_le, nat_lt, codes, option_and_then}
use Rattle.std.proofs.lemmas.Bool.{and_parts, leb-true, ltb-true, lt-ltb, ne_eqb}
use Rattle.std.proofs.lemmas.List.Elements.{All-nil, All-cons, All-head, All-tail, All-push, All-append}
use Rattle.common_lemmas.proofs.Lists.{mapped_length}
use Rattle.common_lemmas.proofs.Options.{some_same, not_missing}
use Rattle.syn_event.specs.Numbering.{Numbering}
use Rattle.seq_file.specs.Short.{IsShort}
use Rattle.seq_file.specs.text_lines.Lines.{words_of, first_line, is_line_end, cut}
use Rattle.seq_file.specs.text_lines.LineFiles.{HasFirstFault}
use Rattle.seq_file.proofs.text_lines.Filing.{Laws, IsReadTo, lines-unique, no-fault, fault-unique, read-start, read-more, read-end, read-fault}
use Rattle.seq_file.proofs.text_lines.Joining.{joined-free, joined-words, words-joined}
use Rattle.seq_file.proofs.text_lines.Marking.{IsFreeOf, free-cons, free-prefix, decimal-free, signed-free, first-line_cut}
use Rattle.syn_constraint.specs.declared.constraints.Num.{Num}
use Rattle.syn_constraint.specs.declared.constraints.Num.TheVariants.{Every, Same, Exact}
use Rattle.syn_constraint.specs.declared.constraints.Letter.{Letter}
use Rattle.syn_constraint.specs.declared.constraints.Letter.TheVariants.{R, E, S, D, C, T, F, X, B, Z, Whole}
use Rattle.syn_constraint.specs.declared.constraints.Pattern.{Pattern}
use Rattle.syn_constraint.specs.declared.constraints.Constraint.{Constraint}
use Rattle.syn_constraint.specs.declared.errors.ConError.{ConError}
use Rattle.syn_constraint.specs.declared.errors.ConError.TheVariants.{BadNumber, TooMany}
use Rattle.syn_constraint.specs.Known.{is_known_constraint}
use Rattle.syn_constraint.specs.Lines.{Line, BeforeLine, NeverLine, MostLine, constraint_of, letter_text, number_count, num_text, pattern_words, line_words, line_text, line_of_words, line_of_text}
use Rattle.syn_constraint.specs.Files.{most_constraints, IsSound, IsConstraintLine, AreConstraints, fault_of_line, fault_behind, constraint_format, ConstraintsRead}
use Rattle.syn_constraint.specs.inner.Reading.{capped_constraint, IsNextConstraint}
use Rattle.syn_constraint.proofs.Worded.{IsSmall, AreSmall, HasSmall, AreLineWords, words-written, words-read}
use Rattle.syn_constraint.proofs.Numbered.{line-small, line-exact, constraint-capped}

-- ---- no line feed and no blank stands in a word

-- a mark below all bytes of a text
above-free : (m : ℕ) (text : List ℕ) → m < 42 → list_all (nat_le 42) text ≡ true → IsFreeOf m text
above-free m [] low h = All-nil (λ b. (b == m) ≡ false)
above-free m (b ∷ text) low h =
    let both = and_parts (nat_le 42 b) (list_all (nat_le 42) text) h in
    let high : 42 ≤ b = leb-true 42 b both.0 in
    free-cons m b text (ne_eqb b m (λ e. omega (arith, low, high, e))) (above-free m text low both.1)

letter-free : (m : ℕ) (l : Letter) → m < 42 → IsFreeOf m (letter_text l)
letter-free m R low = above-free m (codes "R") low refl
letter-free m E low = above-free m (codes "E") low refl
letter-free m S low = above-free m (codes "S") low refl
letter-free m D low = above-free m (codes "D") low refl
letter-free m C low = above-free m (codes "C") low refl
letter-free m T low = above-free m (codes "T") low refl
letter-free m F low = above-free m (codes "F") low refl
letter-free m X low = above-free m (codes "X") low refl
letter-free m B low = above-free m (codes "B") low refl
letter-free m Z low = above-free m (codes "Z") low refl
letter-free m Whole low = above-free m (codes "any") low refl

num-free : (m : ℕ) (n : Num) → m < 42 → IsSmall n → IsFreeOf m (num_text n)
num-free m Every low small = above-free m (codes "*") low refl
num-free m Same low small = above-free m (codes "?") low refl
num-free m (Exact z) low small = signed-free m z (omega (arith, low)) small

nums-free : (m : ℕ) (ns : List Num) → m < 42 → All IsSmall ns → All (IsFreeOf m) (map num_text ns)
nums-free m [] low small = All-nil (IsFreeOf m)
nums-free m (n ∷ ns) low small = All-cons (IsFreeOf m) (num_text n) (map num_text ns) (num-free m n low (All-head IsSmall n ns small)) (nums-free m ns low (All-tail IsSmall n ns small))

taken-all : {X : Type 0} (P : X → Type 0) (n : ℕ) (xs : List X) → All P xs → All P (take n xs)
taken-all P zero xs h = All-nil P
taken-all P (suc n) [] h = All-nil P
taken-all P (suc n) (x ∷ xs) h = All-cons P x (take n xs) (All-head P x xs h) (taken-all P n xs (All-tail P x xs h))

pattern-free : (m : ℕ) (p : Pattern) → m < 42 → AreSmall p → All (IsFreeOf m) (pattern_words p)
pattern-free m p low small =
    let numbers : List Num = p.one ∷ p.two ∷ p.three ∷ [] in
    let all : All IsSmall numbers =
    All-cons IsSmall p.one (p.two ∷ p.three ∷ []) small.one (All-cons IsSmall p.two (p.three ∷ []) small.two (All-cons IsSmall p.three [] small.three (All-nil IsSmall))) in
    All-cons (IsFreeOf m) (letter_text p.letter) (map num_text (take (number_count p.letter) numbers)) (letter-free m p.letter low)
    (nums-free m (take (number_count p.letter) numbers) low (taken-all IsSmall (number_count p.letter) numbers all))

two-free : (m : ℕ) (a b : Pattern) → m < 42 → AreSmall a → AreSmall b → All (IsFreeOf m) (pattern_words a ++ pattern_words b)
two-free m a b low sa sb = All-append (IsFreeOf m) (pattern_words a) (pattern_words b) (pattern-free m a low sa) (pattern-free m b low sb)

three-free : (m : ℕ) (a b c : Pattern) → m < 42 → AreSmall a → AreSmall b → AreSmall c → All (IsFreeOf m) (pattern_words a ++ (pattern_words b ++ pattern_words c))
three-free m a b c low sa sb sc = All-append (IsFreeOf m) (pattern_words a) (pattern_words b ++ pattern_words c) (pattern-free m a low sa) (two-free m b c low sb sc)

words-free : (m : ℕ) (line : Line) → m < 42 → IsSound line → HasSmall line → All (IsFreeOf m) (line_words line)
words-free m (BeforeLine a b) low sound small =
    All-cons (IsFreeOf m) (codes "before") (pattern_words a ++ pattern_words b) (above-free m (codes "before") low refl) (two-free m a b low small.0 small.1)
words-free m (NeverLine x a b) low sound small =
    All-cons (IsFreeOf m) (codes "never") (pattern_words x ++ (pattern_words a ++ pattern_words b)) (above-free m (codes "never") low refl) (three-free m x a b low small.0 small.1 small.2)
words-free m (MostLine n x a b) low sound small =
    let rest : List (List ℕ) = pattern_words x ++ (pattern_words a ++ pattern_words b) in
    All-cons (IsFreeOf m) (codes "most") (decimal n ∷ rest) (above-free m (codes "most") low refl)
    (All-cons (IsFreeOf m) (decimal n) rest (decimal-free m n (omega (arith, low)) (omega (arith, sound.0))) (three-free m x a b low small.0 small.1 small.2))

words-kept : (line : Line) → All (IsFreeOf 32) (line_words line) → words_of (line_text line) ≡ line_words line
words-kept (BeforeLine a b) free = joined-words (codes "before") (pattern_words a ++ pattern_words b) free
words-kept (NeverLine x a b) free = joined-words (codes "never") (pattern_words x ++ (pattern_words a ++ pattern_words b)) free
words-kept (MostLine n x a b) free = joined-words (codes "most") (decimal n ∷ (pattern_words x ++ (pattern_words a ++ pattern_words b))) free

-- ---- the laws of the format

small-of : (numbers : Numbering) → IsShort numbers → (line : Line) → IsConstraintLine numbers line → HasSmall line
small-of numbers short line good = line-small numbers short line good.sound good.known

good-there : {X : Type 0} (P : X → Type 0) (xs : List X) (y : X) (ys : List X) → All P (xs ++ (y ∷ ys)) → P y
good-there P [] y ys h = All-head P y ys h
good-there P (x ∷ xs) y ys h = good-there P xs y ys (All-tail P x (xs ++ (y ∷ ys)) h)

sound-from : (numbers : Numbering) (count : ℕ) (line : Line) → count < most_constraints → is_known_constraint numbers (constraint_of line) ≡ true → fault_behind numbers count (Some line) ≡ None
sound-from numbers count line few known =
    ap (λ b. cond b (fault_of_line numbers (count + 2) (Some line)) (Some (TooMany most_constraints))) (lt-ltb count most_constraints few)
    ∙ ap (λ b. cond b None (Some (BadNumber (count + 2)))) known

sound-to : (numbers : Numbering) (count : ℕ) (line : Line) → fault_behind numbers count (Some line) ≡ None → (count < most_constraints) × (is_known_constraint numbers (constraint_of line) ≡ true)
sound-to numbers count line h = by_tests (nat_lt count most_constraints) (is_known_constraint numbers (constraint_of line)) refl h
  where
    by_tests : (few known : Bool) → nat_lt count most_constraints ≡ few → cond few (cond known None (Some (BadNumber (count + 2)))) (Some (TooMany most_constraints)) ≡ None →
        (count < most_constraints) × (known ≡ true)
    by_tests false known e h = absurd (not_missing (TooMany most_constraints) (sym h))
    by_tests true false e h = absurd (not_missing (BadNumber (count + 2)) (sym h))
    by_tests true true e h = (ltb-true count most_constraints e, refl)

there : (numbers : Numbering) (xs : List Line) (y : Line) (ys : List Line) → AreConstraints numbers (xs ++ (y ∷ ys)) → fault_behind numbers (length xs) (Some y) ≡ None
there numbers xs y ys fit =
    let line : IsConstraintLine numbers y = good-there (IsConstraintLine numbers) xs y ys fit.each in
    sound-from numbers (length xs) y (omega (arith, fit.few, length-append xs (y ∷ ys))) line.known

good : (numbers : Numbering) (xs : List Line) (y : Line) (text : List ℕ) → line_of_text text ≡ Some y → fault_behind numbers (length xs) (Some y) ≡ None → IsConstraintLine numbers y
good numbers xs y text read sound =
    let are : AreLineWords (words_of text) y = words-read (words_of text) y read in
    record { sound = are.sound; known = (sound-to numbers (length xs) y sound).1 }

one_more : (numbers : Numbering) (xs : List Line) (y : Line) (text : List ℕ) → AreConstraints numbers xs → line_of_text text ≡ Some y → fault_behind numbers (length xs) (Some y) ≡ None → AreConstraints numbers (xs ++ (y ∷ []))
one_more numbers xs y text fit read sound = record {
  each = All-push (IsConstraintLine numbers) xs y fit.each (good numbers xs y text read sound);
  few = omega (arith, (sound-to numbers (length xs) y sound).0, length-append xs (y ∷ []));
}

free : (numbers : Numbering) → IsShort numbers → (y : Line) → IsConstraintLine numbers y → IsFreeOf 10 (line_text y)
free numbers short y line = joined-free 10 (line_words y) refl (words-free 10 y (omega arith) line.sound (small-of numbers short y line))

written : (numbers : Numbering) → IsShort numbers → (y : Line) → IsConstraintLine numbers y → line_of_text (line_text y) ≡ Some y
written numbers short y line =
    let small : HasSmall y = small-of numbers short y line in
    ap line_of_words (words-kept y (words-free 32 y (omega arith) line.sound small)) ∙ words-written y line.sound small

spelled : (numbers : Numbering) → IsShort numbers → (text : List ℕ) (y : Line) → line_of_text text ≡ Some y → IsConstraintLine numbers y → text ≡ line_text y
spelled numbers short text y read line =
    let are : AreLineWords (words_of text) y = words-read (words_of text) y read in
    words-joined text (line_words y) (are.words_are (small-of numbers short y line))

pub constraint-laws : (numbers : Numbering) → IsShort numbers → Laws (constraint_format numbers) (IsConstraintLine numbers)
constraint-laws numbers short = record {
  header = free-prefix 10 (codes "ded-con 1") [] refl (All-nil (λ b. (b == 10) ≡ false));
  empty = record { each = All-nil (IsConstraintLine numbers); few = omega arith };
  there = there numbers;
  one_more = one_more numbers;
  all_good = λ xs fit. fit.each;
  next_good = good numbers;
  free = free numbers short;
  written = written numbers short;
  spelled = spelled numbers short;
}

-- ---- reading

-- the file is read up to a rest
pub record ConstraintsReadTo (numbers : Numbering) (bytes : List ℕ) (constraints : List Constraint) (rest : List ℕ) : Type 0 where
  pub lines : List Line
  pub read : IsReadTo (constraint_format numbers) bytes lines rest
  pub all : constraints ≡ map constraint_of lines

pub constraints-start : (numbers : Numbering) → IsShort numbers → (bytes rest : List ℕ) → cut is_line_end bytes ≡ Some (codes "ded-con 1", rest) → ConstraintsReadTo numbers bytes [] rest
constraints-start numbers short bytes rest cuts = record {
  lines = [];
  read = read-start (constraint_format numbers) (IsConstraintLine numbers) (constraint-laws numbers short) bytes rest cuts;
  all = refl;
}

lines-count : (xs : List Line) → length (map constraint_of xs) ≡ length xs
lines-count xs = mapped_length constraint_of xs

mapped-push : (xs : List Line) (y : Line) → map constraint_of (xs ++ (y ∷ [])) ≡ map constraint_of xs ++ (constraint_of y ∷ [])
mapped-push [] y = refl
mapped-push (x ∷ xs) y = ap (λ t. constraint_of x ∷ t) (mapped-push xs y)

pub constraints-more : (numbers : Numbering) → IsShort numbers → (bytes rest behind : List ℕ) (constraints : List Constraint) (constraint : Constraint) → ConstraintsReadTo numbers bytes constraints rest →
    IsNextConstraint numbers (length constraints) rest constraint behind → ConstraintsReadTo numbers bytes (constraints ++ (constraint ∷ [])) behind
constraints-more numbers short bytes rest behind constraints constraint to next =
    let count : length constraints ≡ length to.lines = ap length to.all ∙ lines-count to.lines in
    record {
      lines = to.lines ++ (next.line ∷ []);
      read = read-more (constraint_format numbers) (IsConstraintLine numbers) (constraint-laws numbers short) bytes rest next.text behind to.lines next.line to.read next.cuts next.writes
          (ap (λ t. fault_behind numbers t (Some next.line)) (sym count) ∙ next.sound);
      all = ap (λ t. t ++ (constraint ∷ [])) to.all ∙ ap (λ t. map constraint_of to.lines ++ (t ∷ [])) next.is ∙ sym (mapped-push to.lines next.line);
    }

pub constraints-fault : (numbers : Numbering) (bytes rest : List ℕ) (constraints : List Constraint) (error : ConError) → ConstraintsReadTo numbers bytes constraints rest → rest ≢ [] →
    fault_behind numbers (length constraints) (option_and_then line_of_text (first_line rest)) ≡ Some error → HasFirstFault (constraint_format numbers) bytes error
constraints-fault numbers bytes rest constraints error to more fault =
    read-fault (constraint_format numbers) bytes rest to.lines error to.read more
    (ap (λ t. fault_behind numbers t (option_and_then line_of_text (first_line rest))) (sym (ap length to.all ∙ lines-count to.lines)) ∙ fault)

pub constraints-end : (numbers : Numbering) (bytes rest : List ℕ) (constraints : List Constraint) → ConstraintsReadTo numbers bytes constraints rest → rest ≡ [] → ConstraintsRead numbers bytes constraints
constraints-end numbers bytes rest constraints to none = record { lines = to.lines; file = read-end (constraint_format numbers) bytes rest to.lines to.read none; all = to.all }

pub constraints-unique : (numbers : Numbering) → IsShort numbers → (bytes : List ℕ) (xs ys : List Constraint) → ConstraintsRead numbers bytes xs → ConstraintsRead numbers bytes ys → xs ≡ ys
constraints-unique numbers short bytes xs ys x y =
    x.all ∙ ap (map constraint_of) (lines-unique (constraint_format numbers) (IsConstraintLine numbers) (constraint-laws numbers short) bytes x.lines y.lines x.file y.file) ∙ sym y.all

pub constraints-no_fault : (numbers : Numbering) → IsShort numbers → (bytes : List ℕ) (xs : List Constraint) (error : ConError) → ConstraintsRead numbers bytes xs → HasFirstFault (constraint_format numbers) bytes error → ⊥
constraints-no_fault numbers short bytes xs error x fault = no-fault (constraint_format numbers) (IsConstraintLine numbers) (constraint-laws numbers short) bytes x.lines error x.file fault

pub constraints-one_fault : (numbers : Numbering) → IsShort numbers → (bytes : List ℕ) (d e : ConError) → HasFirstFault (constraint_format numbers) bytes d → HasFirstFault (constraint_format numbers) bytes e → d ≡ e
constraints-one_fault numbers short bytes d e a b = fault-unique (constraint_format numbers) (IsConstraintLine numbers) (constraint-laws numbers short) bytes d e a b

-- ---- the next line

mapped-is : {A X : Type 0} (f : A → X) (o : Option A) (x : X) → Some x ≡ option_map f o → (a : A) × (o ≡ Some a) × (f a ≡ x)
mapped-is f None x h = absurd (not_missing x (sym h))
mapped-is f (Some a) x h = (a, refl, some_same (sym h))

first-text : (rest text behind : List ℕ) → cut is_line_end rest ≡ Some (text, behind) → option_and_then line_of_text (first_line rest) ≡ line_of_text text
first-text rest text behind cuts = ap (option_and_then line_of_text) (first-line_cut rest text behind cuts)

pub next-read : (numbers : Numbering) → IsShort numbers → (count : ℕ) (rest text behind : List ℕ) (constraint : Constraint) → count < most_constraints → cut is_line_end rest ≡ Some (text, behind) →
    Some constraint ≡ option_map (λ line. capped_constraint (constraint_of line)) (line_of_text text) → is_known_constraint numbers constraint ≡ true → IsNextConstraint numbers count rest constraint behind
next-read numbers short count rest text behind constraint few cuts reads known =
    let (line, read, same) = mapped-is (λ line. capped_constraint (constraint_of line)) (line_of_text text) constraint reads in
    let are : AreLineWords (words_of text) line = words-read (words_of text) line read in
    let known' : is_known_constraint numbers (constraint_of line) ≡ true = sym (constraint-capped numbers short (constraint_of line)) ∙ ap (is_known_constraint numbers) same ∙ known in
    record {
      text = text;
      line = line;
      cuts = cuts;
      writes = read;
      sound = sound-from numbers count line few known';
      is = sym same ∙ line-exact numbers short line are.sound known';
    }

pub next-unknown : (numbers : Numbering) → IsShort numbers → (count : ℕ) (rest text behind : List ℕ) (constraint : Constraint) → count < most_constraints → cut is_line_end rest ≡ Some (text, behind) →
    Some constraint ≡ option_map (λ line. capped_constraint (constraint_of line)) (line_of_text text) → is_known_constraint numbers constraint ≡ false →
    fault_behind numbers count (option_and_then line_of_text (first_line rest)) ≡ Some (BadNumber (count + 2))
next-unknown numbers short count rest text behind constraint few cuts reads unknown =
    let (line, read, same) = mapped-is (λ line. capped_constraint (constraint_of line)) (line_of_text text) constraint reads in
    ap (fault_behind numbers count) (first-text rest text behind cuts ∙ read)
    ∙ ap (λ b. cond b (fault_of_line numbers (count + 2) (Some line)) (Some (TooMany most_constraints))) (lt-ltb count most_constraints few)
    ∙ ap (λ b. cond b None (Some (BadNumber (count + 2)))) (sym (constraint-capped numbers short (constraint_of line)) ∙ ap (is_known_constraint numbers) same ∙ unknown)

-- What a line writes, as the constraint that it says.
use Rattle.std.proofs.Common.{◌≡◌, ℕ, Bool, true, false, cond, List, [], ◌∷◌, Option, None, Some, option_map, refl, ap, ◌∙◌, sym}
use Rattle.std.specs.Prelude.{bytes_eq, codes, nat_lt}
use Rattle.common_lemmas.proofs.Options.{some_same, not_missing}
use Rattle.seq_file.specs.text_lines.Lines.{words_of}
use Rattle.seq_file.proofs.text_lines.Joining.{has-words}
use Rattle.syn_constraint.specs.declared.constraints.Num.{Num}
use Rattle.syn_constraint.specs.declared.constraints.Letter.{Letter}
use Rattle.syn_constraint.specs.declared.constraints.Pattern.{Pattern}
use Rattle.syn_constraint.specs.declared.constraints.Constraint.{Constraint}
use Rattle.syn_constraint.specs.declared.constraints.Constraint.TheVariants.{Before, Most}
use Rattle.syn_constraint.specs.Lines.{Line, BeforeLine, NeverLine, MostLine, constraint_of, number_count, limit_of_word, Front, on_front, first_by, num_front, pattern_with, numbers_front, pattern_front, at_end, pattern_of, of_two, of_three, line_of_words, line_of_text}
use Rattle.syn_constraint.specs.inner.Reading.{words_left, front_with, capped_num, capped_pattern, capped_constraint}

mapped-twice : {A B C : Type 0} (f : A → B) (g : B → C) (o : Option A) → option_map g (option_map f o) ≡ option_map (λ x. g (f x)) o
mapped-twice f g None = refl
mapped-twice f g (Some x) = refl

mapped-front : {A X Y : Type 0} (g : X → Y) (make : A → List (List ℕ) → Option X) (make' : A → List (List ℕ) → Option Y) → ((a : A) (rest : List (List ℕ)) → option_map g (make a rest) ≡ make' a rest) →
    (front : Front A) → option_map g (on_front make front) ≡ on_front make' front
mapped-front g make make' each None = refl
mapped-front g make make' each (Some x) = each x.0 x.1

two-mapped : {X Y : Type 0} (g : X → Y) (make : Pattern → Pattern → X) (words : List (List ℕ)) → option_map g (of_two make words) ≡ of_two (λ a b. g (make a b)) words
two-mapped {X} {Y} g make words =
    mapped-front g (λ a behind. option_map (make a) (pattern_of behind)) (λ a behind. option_map (λ b. g (make a b)) (pattern_of behind)) (λ a rest. mapped-twice (make a) g (pattern_of rest)) (pattern_front words)

three-mapped : {X Y : Type 0} (g : X → Y) (make : Pattern → Pattern → Pattern → X) (words : List (List ℕ)) → option_map g (of_three make words) ≡ of_three (λ a b c. g (make a b c)) words
three-mapped {X} {Y} g make words =
    mapped-front g (λ a behind. of_two (make a) behind) (λ a behind. of_two (λ b c. g (make a b c)) behind) (λ a rest. two-mapped g (make a) rest) (pattern_front words)

-- ---- fronts with numbers up to the cap

pub front-is : {A : Type 0} (f : A → A) (front : Front A) (a : A) (rest : List (List ℕ)) → ◌≡◌ {A = Front A} (Some (a, rest)) (front_with f front) → (x : A) × (front ≡ Some (x, rest)) × (f x ≡ a)
front-is f None a rest h = absurd (not_missing (a, rest) (sym h))
front-is {A} f (Some x) a rest h =
    let same : (a, rest) ≡ (f x.0, x.1) = some_same h in
    (x.0, ap (λ t. Some (x.0, t)) (sym (ap (λ (p : A × List (List ℕ)). p.1) same)), sym (ap (λ (p : A × List (List ℕ)). p.0) same))

front-none : {A : Type 0} (f : A → A) (front : Front A) → ◌≡◌ {A = Front A} None (front_with f front) → front ≡ None
front-none f None h = refl
front-none {A} f (Some x) h = absurd (not_missing {A = A × List (List ℕ)} (f x.0, x.1) h)

-- the numbers of a pattern, read one after the other
numbers-by : (l : Letter) (words r1 r2 : List (List ℕ)) (a b : Num) (third : Front Num) → num_front (nat_lt 0 (number_count l)) words ≡ Some (a, r1) → num_front (nat_lt 1 (number_count l)) r1 ≡ Some (b, r2) →
    num_front (nat_lt 2 (number_count l)) r2 ≡ third → numbers_front l words ≡ on_front {X = Pattern × List (List ℕ)} (λ three c. Some (pattern_with l a b three, c)) third
numbers-by l words r1 r2 a b third h1 h2 h3 =
    ap (on_front {X = Pattern × List (List ℕ)} (λ one x. on_front {X = Pattern × List (List ℕ)} (λ two y. on_front {X = Pattern × List (List ℕ)} (λ three z. Some (pattern_with l one two three, z)) (num_front (nat_lt 2 (number_count l)) y)) (num_front (nat_lt 1 (number_count l)) x))) h1
    ∙ ap (on_front {X = Pattern × List (List ℕ)} (λ two y. on_front {X = Pattern × List (List ℕ)} (λ three z. Some (pattern_with l a two three, z)) (num_front (nat_lt 2 (number_count l)) y))) h2
    ∙ ap (on_front {X = Pattern × List (List ℕ)} (λ three z. Some (pattern_with l a b three, z))) h3

num-front_at : (n m k : ℕ) (words : List (List ℕ)) (read : Front Num) → n ≡ m → read ≡ front_with capped_num (num_front (nat_lt k n) words) → read ≡ front_with capped_num (num_front (nat_lt k m) words)
num-front_at n m k words read e h = h ∙ ap (λ t. front_with capped_num (num_front (nat_lt k t) words)) e

pub numbers-some : (l : Letter) (n : ℕ) (words r1 r2 r3 : List (List ℕ)) (one two three : Num) → n ≡ number_count l → ◌≡◌ {A = Front Num} (Some (one, r1)) (front_with capped_num (num_front (nat_lt 0 n) words)) →
    ◌≡◌ {A = Front Num} (Some (two, r2)) (front_with capped_num (num_front (nat_lt 1 n) r1)) → ◌≡◌ {A = Front Num} (Some (three, r3)) (front_with capped_num (num_front (nat_lt 2 n) r2)) →
    ◌≡◌ {A = Front Pattern} (Some (pattern_with l one two three, r3)) (front_with capped_pattern (numbers_front l words))
numbers-some l n words r1 r2 r3 one two three e h1 h2 h3 =
    let (a, first, ea) = front-is capped_num (num_front (nat_lt 0 (number_count l)) words) one r1 (num-front_at n (number_count l) 0 words (Some (one, r1)) e h1) in
    let (b, second, eb) = front-is capped_num (num_front (nat_lt 1 (number_count l)) r1) two r2 (num-front_at n (number_count l) 1 r1 (Some (two, r2)) e h2) in
    let (c, third, ec) = front-is capped_num (num_front (nat_lt 2 (number_count l)) r2) three r3 (num-front_at n (number_count l) 2 r2 (Some (three, r3)) e h3) in
    sym (ap (front_with capped_pattern) (numbers-by l words r1 r2 a b (Some (c, r3)) first second third)
    ∙ ap (λ t. Some (pattern_with l t (capped_num b) (capped_num c), r3)) ea
    ∙ ap (λ t. Some (pattern_with l one t (capped_num c), r3)) eb
    ∙ ap (λ t. Some (pattern_with l one two t, r3)) ec)

pub numbers-none : (l : Letter) (n : ℕ) (words r1 r2 : List (List ℕ)) (one two : Num) → n ≡ number_count l → ◌≡◌ {A = Front Num} (Some (one, r1)) (front_with capped_num (num_front (nat_lt 0 n) words)) →
    ◌≡◌ {A = Front Num} (Some (two, r2)) (front_with capped_num (num_front (nat_lt 1 n) r1)) → ◌≡◌ {A = Front Num} None (front_with capped_num (num_front (nat_lt 2 n) r2)) →
    ◌≡◌ {A = Front Pattern} None (front_with capped_pattern (numbers_front l words))
numbers-none l n words r1 r2 one two e h1 h2 h3 =
    let (a, first, ea) = front-is capped_num (num_front (nat_lt 0 (number_count l)) words) one r1 (num-front_at n (number_count l) 0 words (Some (one, r1)) e h1) in
    let (b, second, eb) = front-is capped_num (num_front (nat_lt 1 (number_count l)) r1) two r2 (num-front_at n (number_count l) 1 r1 (Some (two, r2)) e h2) in
    let third : num_front (nat_lt 2 (number_count l)) r2 ≡ None = front-none capped_num (num_front (nat_lt 2 (number_count l)) r2) (num-front_at n (number_count l) 2 r2 None e h3) in
    sym (ap (front_with capped_pattern) (numbers-by l words r1 r2 a b None first second third))

-- the last pattern
pub last-some : (words : List (List ℕ)) (p : Pattern) (left : Option (List ℕ)) → left ≡ None → ◌≡◌ {A = Front Pattern} (Some (p, words_left left)) (front_with capped_pattern (pattern_front words)) →
    Some p ≡ option_map capped_pattern (pattern_of words)
last-some words p left none h =
    let (q, front, same) = front-is capped_pattern (pattern_front words) p (words_left left) h in
    sym (ap (λ t. option_map capped_pattern (on_front at_end t)) (front ∙ ap (λ t. Some (q, words_left t)) none) ∙ ap Some same)

pub last-more : (words : List (List ℕ)) (p : Pattern) (left : Option (List ℕ)) (rest : List ℕ) → left ≡ Some rest → ◌≡◌ {A = Front Pattern} (Some (p, words_left left)) (front_with capped_pattern (pattern_front words)) →
    None ≡ option_map capped_pattern (pattern_of words)
last-more words p left rest some h =
    let (q, front, same) = front-is capped_pattern (pattern_front words) p (words_left left) h in
    sym (ap (λ t. option_map capped_pattern (on_front at_end t)) (front ∙ ap (λ t. Some (q, words_left t)) some) ∙ ap (option_map capped_pattern) (more-words q (words_of rest) (has-words rest)))
  where
    more-words : (q : Pattern) (ws : List (List ℕ)) → (ws ≡ [] → ⊥) → at_end q ws ≡ None
    more-words q [] some' = absurd (some' refl)
    more-words q (w ∷ ws) some' = refl

mapped-none : {A B : Type 0} (f : A → B) (o : Option A) → None ≡ option_map f o → o ≡ None
mapped-none f None h = refl
mapped-none f (Some x) h = absurd (not_missing (f x) h)

-- a pattern is missing
pub two-missing : {X : Type 0} (g : Constraint → X) (make : Pattern → Pattern → Constraint) (words rest : List (List ℕ)) (a : Pattern) → ◌≡◌ {A = Front Pattern} (Some (a, rest)) (front_with capped_pattern (pattern_front words)) →
    None ≡ option_map capped_pattern (pattern_of rest) → None ≡ option_map g (of_two make words)
two-missing g make words rest a h none =
    let (q, front, same) = front-is capped_pattern (pattern_front words) a rest h in
    sym (ap (λ t. option_map g (on_front (λ p behind. option_map (make p) (pattern_of behind)) t)) front
    ∙ ap (λ t. option_map g (option_map (make q) t)) (mapped-none capped_pattern (pattern_of rest) none))

pub three-second : {X : Type 0} (g : Constraint → X) (make : Pattern → Pattern → Pattern → Constraint) (words rest : List (List ℕ)) (a : Pattern) → ◌≡◌ {A = Front Pattern} (Some (a, rest)) (front_with capped_pattern (pattern_front words)) →
    ◌≡◌ {A = Front Pattern} None (front_with capped_pattern (pattern_front rest)) → None ≡ option_map g (of_three make words)
three-second g make words rest a h none =
    let (q, front, same) = front-is capped_pattern (pattern_front words) a rest h in
    sym (ap (λ t. option_map g (on_front (λ p behind. of_two (make p) behind) t)) front
    ∙ ap (λ t. option_map g (on_front (λ p behind. option_map (make q p) (pattern_of behind)) t)) (front-none capped_pattern (pattern_front rest) none))

pub three-third : {X : Type 0} (g : Constraint → X) (make : Pattern → Pattern → Pattern → Constraint) (words rest behind : List (List ℕ)) (a b : Pattern) → ◌≡◌ {A = Front Pattern} (Some (a, rest)) (front_with capped_pattern (pattern_front words)) →
    ◌≡◌ {A = Front Pattern} (Some (b, behind)) (front_with capped_pattern (pattern_front rest)) → None ≡ option_map capped_pattern (pattern_of behind) → None ≡ option_map g (of_three make words)
three-third g make words rest behind a b h h' none =
    let (q, front, same) = front-is capped_pattern (pattern_front words) a rest h in
    two-missing g (make q) rest behind b h' none
    ∙ sym (ap (λ t. option_map g (on_front (λ p left. of_two (make p) left) t)) front)

-- ---- lines

-- the constraint that a line says, with numbers up to the cap
abbrev said : Line → Constraint
said line = capped_constraint (constraint_of line)

-- the three kinds of lines, by their first words
line-by : (text word : List ℕ) (rest : List (List ℕ)) (before never most : Bool) → words_of text ≡ word ∷ rest → bytes_eq word (codes "before") ≡ before → bytes_eq word (codes "never") ≡ never → bytes_eq word (codes "most") ≡ most →
    option_map said (line_of_text text) ≡ option_map said (cond before (of_two BeforeLine rest) (cond never (of_three NeverLine rest)
    (cond most (on_front (λ limit behind. of_three (MostLine limit) behind) (first_by limit_of_word rest)) None)))
line-by text word rest before never most e hb hn hm =
    let limited : Option Line = on_front (λ limit behind. of_three (MostLine limit) behind) (first_by limit_of_word rest) in
    ap (λ t. option_map said (line_of_words t)) e
    ∙ ap (λ t. option_map said (cond t (of_two BeforeLine rest) (cond (bytes_eq word (codes "never")) (of_three NeverLine rest) (cond (bytes_eq word (codes "most")) limited None)))) hb
    ∙ ap (λ t. option_map said (cond before (of_two BeforeLine rest) (cond t (of_three NeverLine rest) (cond (bytes_eq word (codes "most")) limited None)))) hn
    ∙ ap (λ t. option_map said (cond before (of_two BeforeLine rest) (cond never (of_three NeverLine rest) (cond t limited None)))) hm

pub before-line : (text word : List ℕ) (rest : List (List ℕ)) → words_of text ≡ word ∷ rest → bytes_eq word (codes "before") ≡ true →
    option_map capped_constraint (of_two Before rest) ≡ option_map (λ line. capped_constraint (constraint_of line)) (line_of_text text)
before-line text word rest e h =
    two-mapped capped_constraint Before rest ∙ sym (two-mapped said BeforeLine rest)
    ∙ sym (line-by text word rest true (bytes_eq word (codes "never")) (bytes_eq word (codes "most")) e h refl refl)

pub never-line : (text word : List ℕ) (rest : List (List ℕ)) → words_of text ≡ word ∷ rest → bytes_eq word (codes "before") ≡ false → bytes_eq word (codes "never") ≡ true →
    option_map capped_constraint (of_three (Most 0) rest) ≡ option_map (λ line. capped_constraint (constraint_of line)) (line_of_text text)
never-line text word rest e h h' =
    three-mapped capped_constraint (Most 0) rest ∙ sym (three-mapped said NeverLine rest)
    ∙ sym (line-by text word rest false true (bytes_eq word (codes "most")) e h h' refl)

pub most-line : (text word : List ℕ) (rest : List (List ℕ)) → words_of text ≡ word ∷ rest → bytes_eq word (codes "before") ≡ false → bytes_eq word (codes "never") ≡ false → bytes_eq word (codes "most") ≡ true →
    option_map capped_constraint (on_front (λ limit behind. of_three (Most limit) behind) (first_by limit_of_word rest)) ≡ option_map (λ line. capped_constraint (constraint_of line)) (line_of_text text)
most-line text word rest e h h' h'' =
    mapped-front capped_constraint (λ limit behind. of_three (Most limit) behind) (λ limit behind. of_three (λ a b c. capped_constraint (Most limit a b c)) behind)
    (λ limit behind. three-mapped capped_constraint (Most limit) behind) (first_by limit_of_word rest)
    ∙ sym (mapped-front said (λ limit behind. of_three (MostLine limit) behind) (λ limit behind. of_three (λ a b c. capped_constraint (Most limit a b c)) behind)
    (λ limit behind. three-mapped said (MostLine limit) behind) (first_by limit_of_word rest))
    ∙ sym (line-by text word rest false false true e h h' h'')

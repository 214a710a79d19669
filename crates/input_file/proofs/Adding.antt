-- Numbers read word by word behind those that stand there, and what was read of a line.
use Rattle.std.proofs.Common.{◌≡◌, ℕ, Bool, true, false, cond, List, [], ◌∷◌, ◌++◌, Option, None, Some, option_map, refl, ap, ◌∙◌, sym, append_assoc}
use Rattle.std.specs.Prelude.{is_some, unwrap_or}
use Rattle.seq_file.specs.text_lines.Lines.{words_of, with_two, all_of}
use Rattle.common_lemmas.proofs.Truth.{clash}

first-case : {X : Type 0} (old new : List X) (o : Option X) → option_map (λ x. old ++ (x ∷ [])) o ≡ Some new → (x : X) × (o ≡ Some x) × (old ++ (x ∷ []) ≡ new)
first-case old new None h = clash (ap is_some h)
first-case old new (Some x) h = (x, refl, ap (λ o. unwrap_or o new) h)

front-joined : {X : Type 0} (old : List X) (x : X) (o : Option (List X)) → option_map (λ added. old ++ added) (with_two (λ y ys. y ∷ ys) (Some x) o) ≡ option_map (λ added. (old ++ (x ∷ [])) ++ added) o
front-joined old x None = refl
front-joined old x (Some xs) = ap Some (sym (append_assoc old (x ∷ []) xs))

-- a word that writes a number goes behind the others
pub word-read : {X : Type 0} (read : List ℕ → Option X) (old new : List X) (rest word behind : List ℕ) → words_of rest ≡ word ∷ words_of behind →
    option_map (λ x. old ++ (x ∷ [])) (read word) ≡ Some new →
    option_map (λ added. old ++ added) (all_of read (words_of rest)) ≡ option_map (λ added. new ++ added) (all_of read (words_of behind))
word-read read old new rest word behind cuts h =
    let (x, is, all) = first-case old new (read word) h in
    ap (λ t. option_map (λ added. old ++ added) (all_of read t)) cuts
    ∙ ap (λ t. option_map (λ added. old ++ added) (with_two (λ y ys. y ∷ ys) t (all_of read (words_of behind)))) is
    ∙ front-joined old x (all_of read (words_of behind))
    ∙ ap (λ t. option_map (λ added. t ++ added) (all_of read (words_of behind))) all

none-case : {X : Type 0} (old : List X) (o : Option X) → option_map (λ x. old ++ (x ∷ [])) o ≡ None → o ≡ None
none-case old None h = refl
none-case old (Some x) h = clash (sym (ap is_some h))

-- a word that writes none spoils the line
pub word-bad : {X : Type 0} (read : List ℕ → Option X) (old : List X) (rest word behind : List ℕ) → words_of rest ≡ word ∷ words_of behind →
    option_map (λ x. old ++ (x ∷ [])) (read word) ≡ None → option_map (λ added. old ++ added) (all_of read (words_of rest)) ≡ None
word-bad read old rest word behind cuts h =
    ap (λ t. option_map (λ added. old ++ added) (all_of read t)) cuts
    ∙ ap (λ t. option_map (λ added. old ++ added) (with_two (λ y ys. y ∷ ys) t (all_of read (words_of behind)))) (none-case old (read word) h)

last-joined : {X : Type 0} (old : List X) (o : Option X) → option_map (λ added. old ++ added) (with_two (λ y ys. y ∷ ys) o (Some [])) ≡ option_map (λ x. old ++ (x ∷ [])) o
last-joined old None = refl
last-joined old (Some x) = refl

-- the last word
pub word-last : {X : Type 0} (read : List ℕ → Option X) (old : List X) (rest : List ℕ) → words_of rest ≡ rest ∷ [] →
    option_map (λ added. old ++ added) (all_of read (words_of rest)) ≡ option_map (λ x. old ++ (x ∷ [])) (read rest)
word-last read old rest cuts = ap (λ t. option_map (λ added. old ++ added) (all_of read t)) cuts ∙ last-joined old (read rest)

-- a whole line
pub line-read : {X : Type 0} (old new : List X) (o : Option (List X)) → option_map (λ added. old ++ added) o ≡ Some new → (added : List X) × (o ≡ Some added) × (old ++ added ≡ new)
line-read old new None h = clash (ap is_some h)
line-read old new (Some added) h = (added, refl, ap (λ o. unwrap_or o new) h)

pub line-bad : {X : Type 0} (old : List X) (o : Option (List X)) → option_map (λ added. old ++ added) o ≡ None → o ≡ None
line-bad old None h = refl
line-bad old (Some added) h = clash (sym (ap is_some h))

pub good-is : {X : Type 0} (b : Bool) (o : Option X) (x : X) → b ≡ true → o ≡ cond b (Some x) None → o ≡ Some x
good-is true o x e h = h
good-is false o x e h = clash e

pub good-not : {X : Type 0} (b : Bool) (o : Option X) (x : X) → b ≡ false → o ≡ cond b (Some x) None → o ≡ None
good-not true o x e h = clash (sym e)
good-not false o x e h = h

-- Texts and the tables of reserved words.
use Rattle.std.proofs.Common.{◌≡◌, ℕ, ◌+◌, ◌<◌, ◌≤◌, Bool, true, false, cond, List, [], ◌∷◌, ◌++◌, length, get_or, drop, map, refl, ap, ◌∙◌, sym, arith, Option, None, Some}
use Rattle.std.proofs.lemmas.List.{drop_more, drop_all, length-map}
use Rattle.std.proofs.lemmas.Bool.{and_parts, eqb-true}
use Rattle.std.specs.Prelude.{◌&&◌, ◌==◌, suc}
use Rattle.ada_lexer.specs.declared.symbols.Symbol.{Symbol}
use Rattle.ada_lexer.specs.Bytes.{in_lower_case}
use Rattle.ada_lexer.specs.Words.{same_text, symbol_in, two_letters, three_letters, four_letters, five_letters, six_letters, seven_letters, eight_letters, nine_letters, reserved_words, reserved_symbol}
use Rattle.common_lemmas.proofs.Truth.{and_false}

-- the two texts from a place on, by the bytes at the place
pub same_text-more : (w s : List ℕ) (n : ℕ) → n < length w → n < length s → same_text (map in_lower_case (drop n w)) (drop n s) ≡ (in_lower_case (get_or w n 0) == get_or s n 0) && same_text (map in_lower_case (drop (n + 1) w)) (drop (n + 1) s)
same_text-more w s n p q =
    ap (λ t. same_text (map in_lower_case t) (drop n s)) (drop_more w n 0 p)
    ∙ ap (λ t. same_text (map in_lower_case (get_or w n 0 ∷ drop (n + 1) w)) t) (drop_more s n 0 q)

pub same_text-end : (w s : List ℕ) (n : ℕ) → length w ≤ n → length s ≤ n → same_text (map in_lower_case (drop n w)) (drop n s) ≡ true
same_text-end w s n p q =
    ap (λ t. same_text (map in_lower_case t) (drop n s)) (drop_all n w p) ∙ ap (λ t. same_text (map in_lower_case []) t) (drop_all n s q)

-- texts of different lengths differ
pub same_text-unequal : (w s : List ℕ) → (length w ≡ length s → ⊥) → same_text w s ≡ false
same_text-unequal [] [] h = absurd (h refl)
same_text-unequal [] (c ∷ s) h = refl
same_text-unequal (b ∷ w) [] h = refl
same_text-unequal (b ∷ w) (c ∷ s) h =
    ap (λ t. (b == c) && t) (same_text-unequal w s (λ e. h (ap (λ n. suc n) e))) ∙ and_false (b == c)

pub same_text-lower_unequal : (w s : List ℕ) → (length w ≡ length s → ⊥) → same_text (map in_lower_case w) s ≡ false
same_text-lower_unequal w s h = same_text-unequal (map in_lower_case w) s (λ e. h (sym (length-map w in_lower_case) ∙ e))

pub ruleset same_text_steps = (same_text-more, same_text-end, same_text-lower_unequal)

-- a table before another
abbrev option_or : Option Symbol → Option Symbol → Option Symbol
option_or None y = y
option_or (Some x) y = Some x

cond-or : (b : Bool) (x : Symbol) (y z : Option Symbol) → cond b (Some x) (option_or y z) ≡ option_or (cond b (Some x) y) z
cond-or true x y z = refl
cond-or false x y z = refl

symbol_in-append : (a b : List (List ℕ × Symbol)) (t : List ℕ) → symbol_in (a ++ b) t ≡ option_or (symbol_in a t) (symbol_in b t)
symbol_in-append [] b t = refl
symbol_in-append (e ∷ a) b t =
    ap (λ r. cond (same_text t e.0) (Some e.1) r) (symbol_in-append a b t)
    ∙ cond-or (same_text t e.0) e.1 (symbol_in a t) (symbol_in b t)

-- each text of the table has this length
abbrev all_of_length : ℕ → List (List ℕ × Symbol) → Bool
all_of_length n [] = true
all_of_length n (e ∷ table) = (length e.0 == n) && all_of_length n table

-- a table of one length has no text of another
symbol_in-other_length : (n : ℕ) (table : List (List ℕ × Symbol)) (t : List ℕ) → all_of_length n table ≡ true → (length t ≡ n → ⊥) → symbol_in table t ≡ None
symbol_in-other_length n [] t h ne = refl
symbol_in-other_length n (e ∷ table) t h ne =
    let parts = and_parts (length e.0 == n) (all_of_length n table) h in
    ap (λ b. cond b (Some e.1) (symbol_in table t))
    (same_text-unequal t e.0 (λ same. ne (same ∙ eqb-true (length e.0) n parts.0)))
    ∙ symbol_in-other_length n table t parts.1 ne

lowered : (n : ℕ) (w : List ℕ) → (length w ≡ n → ⊥) → length (map in_lower_case w) ≡ n → ⊥
lowered n w ne e = ne (sym (length-map w in_lower_case) ∙ e)

none2 : (w : List ℕ) → (length w ≡ 2 → ⊥) → symbol_in two_letters (map in_lower_case w) ≡ None
unfolding two_letters
none2 w ne = symbol_in-other_length 2 two_letters (map in_lower_case w) refl (lowered 2 w ne)

none3 : (w : List ℕ) → (length w ≡ 3 → ⊥) → symbol_in three_letters (map in_lower_case w) ≡ None
unfolding three_letters
none3 w ne = symbol_in-other_length 3 three_letters (map in_lower_case w) refl (lowered 3 w ne)

none4 : (w : List ℕ) → (length w ≡ 4 → ⊥) → symbol_in four_letters (map in_lower_case w) ≡ None
unfolding four_letters
none4 w ne = symbol_in-other_length 4 four_letters (map in_lower_case w) refl (lowered 4 w ne)

none5 : (w : List ℕ) → (length w ≡ 5 → ⊥) → symbol_in five_letters (map in_lower_case w) ≡ None
unfolding five_letters
none5 w ne = symbol_in-other_length 5 five_letters (map in_lower_case w) refl (lowered 5 w ne)

none6 : (w : List ℕ) → (length w ≡ 6 → ⊥) → symbol_in six_letters (map in_lower_case w) ≡ None
unfolding six_letters
none6 w ne = symbol_in-other_length 6 six_letters (map in_lower_case w) refl (lowered 6 w ne)

none7 : (w : List ℕ) → (length w ≡ 7 → ⊥) → symbol_in seven_letters (map in_lower_case w) ≡ None
unfolding seven_letters
none7 w ne = symbol_in-other_length 7 seven_letters (map in_lower_case w) refl (lowered 7 w ne)

none8 : (w : List ℕ) → (length w ≡ 8 → ⊥) → symbol_in eight_letters (map in_lower_case w) ≡ None
unfolding eight_letters
none8 w ne = symbol_in-other_length 8 eight_letters (map in_lower_case w) refl (lowered 8 w ne)

none9 : (w : List ℕ) → (length w ≡ 9 → ⊥) → symbol_in nine_letters (map in_lower_case w) ≡ None
unfolding nine_letters
none9 w ne = symbol_in-other_length 9 nine_letters (map in_lower_case w) refl (lowered 9 w ne)

-- the first table that has the word
abbrev first_of : Option Symbol → Option Symbol → Option Symbol → Option Symbol → Option Symbol → Option Symbol → Option Symbol → Option Symbol → Option Symbol
first_of a b c d e f g h =
    option_or a (option_or b (option_or c (option_or d (option_or e (option_or f (option_or g h))))))

reserved_symbol-split : (w : List ℕ) → reserved_symbol w ≡ first_of (symbol_in two_letters (map in_lower_case w)) (symbol_in three_letters (map in_lower_case w)) (symbol_in four_letters (map in_lower_case w)) (symbol_in five_letters (map in_lower_case w)) (symbol_in six_letters (map in_lower_case w)) (symbol_in seven_letters (map in_lower_case w)) (symbol_in eight_letters (map in_lower_case w)) (symbol_in nine_letters (map in_lower_case w))
unfolding reserved_symbol reserved_words
reserved_symbol-split w =
    let t = map in_lower_case w in
    symbol_in-append two_letters _ t
    ∙ ap (option_or (symbol_in two_letters t)) (symbol_in-append three_letters _ t
    ∙ ap (option_or (symbol_in three_letters t)) (symbol_in-append four_letters _ t
    ∙ ap (option_or (symbol_in four_letters t)) (symbol_in-append five_letters _ t
    ∙ ap (option_or (symbol_in five_letters t)) (symbol_in-append six_letters _ t
    ∙ ap (option_or (symbol_in six_letters t)) (symbol_in-append seven_letters _ t
    ∙ ap (option_or (symbol_in seven_letters t)) (symbol_in-append eight_letters nine_letters t))))))

skip : (x y : Option Symbol) → x ≡ None → option_or x y ≡ y
skip x y e = ap (λ o. option_or o y) e

only : (x y : Option Symbol) → y ≡ None → option_or x y ≡ x
only None y e = e
only (Some x) y e = refl

both : (x y : Option Symbol) → x ≡ None → y ≡ None → option_or x y ≡ None
both x y p q = skip x y p ∙ q

pub reserved_symbol-two : (w : List ℕ) → length w ≡ 2 → reserved_symbol w ≡ symbol_in two_letters (map in_lower_case w)
reserved_symbol-two w l =
    reserved_symbol-split w
    ∙ only _ _ (both _ _ (none3 w (λ e. omega arith)) (both _ _ (none4 w (λ e. omega arith)) (both _ _ (none5 w (λ e. omega arith)) (both _ _ (none6 w (λ e. omega arith)) (both _ _ (none7 w (λ e. omega arith)) (both _ _ (none8 w (λ e. omega arith)) (none9 w (λ e. omega arith))))))))

pub reserved_symbol-three : (w : List ℕ) → length w ≡ 3 → reserved_symbol w ≡ symbol_in three_letters (map in_lower_case w)
reserved_symbol-three w l =
    reserved_symbol-split w ∙ skip _ _ (none2 w (λ e. omega arith))
    ∙ only _ _ (both _ _ (none4 w (λ e. omega arith)) (both _ _ (none5 w (λ e. omega arith)) (both _ _ (none6 w (λ e. omega arith)) (both _ _ (none7 w (λ e. omega arith)) (both _ _ (none8 w (λ e. omega arith)) (none9 w (λ e. omega arith)))))))

pub reserved_symbol-four : (w : List ℕ) → length w ≡ 4 → reserved_symbol w ≡ symbol_in four_letters (map in_lower_case w)
reserved_symbol-four w l =
    reserved_symbol-split w ∙ skip _ _ (none2 w (λ e. omega arith)) ∙ skip _ _ (none3 w (λ e. omega arith))
    ∙ only _ _ (both _ _ (none5 w (λ e. omega arith)) (both _ _ (none6 w (λ e. omega arith)) (both _ _ (none7 w (λ e. omega arith)) (both _ _ (none8 w (λ e. omega arith)) (none9 w (λ e. omega arith))))))

pub reserved_symbol-five : (w : List ℕ) → length w ≡ 5 → reserved_symbol w ≡ symbol_in five_letters (map in_lower_case w)
reserved_symbol-five w l =
    reserved_symbol-split w ∙ skip _ _ (none2 w (λ e. omega arith)) ∙ skip _ _ (none3 w (λ e. omega arith))
    ∙ skip _ _ (none4 w (λ e. omega arith))
    ∙ only _ _ (both _ _ (none6 w (λ e. omega arith)) (both _ _ (none7 w (λ e. omega arith)) (both _ _ (none8 w (λ e. omega arith)) (none9 w (λ e. omega arith)))))

pub reserved_symbol-six : (w : List ℕ) → length w ≡ 6 → reserved_symbol w ≡ symbol_in six_letters (map in_lower_case w)
reserved_symbol-six w l =
    reserved_symbol-split w ∙ skip _ _ (none2 w (λ e. omega arith)) ∙ skip _ _ (none3 w (λ e. omega arith))
    ∙ skip _ _ (none4 w (λ e. omega arith)) ∙ skip _ _ (none5 w (λ e. omega arith))
    ∙ only _ _ (both _ _ (none7 w (λ e. omega arith)) (both _ _ (none8 w (λ e. omega arith)) (none9 w (λ e. omega arith))))

pub reserved_symbol-seven : (w : List ℕ) → length w ≡ 7 → reserved_symbol w ≡ symbol_in seven_letters (map in_lower_case w)
reserved_symbol-seven w l =
    reserved_symbol-split w ∙ skip _ _ (none2 w (λ e. omega arith)) ∙ skip _ _ (none3 w (λ e. omega arith))
    ∙ skip _ _ (none4 w (λ e. omega arith)) ∙ skip _ _ (none5 w (λ e. omega arith))
    ∙ skip _ _ (none6 w (λ e. omega arith))
    ∙ only _ _ (both _ _ (none8 w (λ e. omega arith)) (none9 w (λ e. omega arith)))

pub reserved_symbol-eight : (w : List ℕ) → length w ≡ 8 → reserved_symbol w ≡ symbol_in eight_letters (map in_lower_case w)
reserved_symbol-eight w l =
    reserved_symbol-split w ∙ skip _ _ (none2 w (λ e. omega arith)) ∙ skip _ _ (none3 w (λ e. omega arith))
    ∙ skip _ _ (none4 w (λ e. omega arith)) ∙ skip _ _ (none5 w (λ e. omega arith))
    ∙ skip _ _ (none6 w (λ e. omega arith)) ∙ skip _ _ (none7 w (λ e. omega arith))
    ∙ only _ _ (none9 w (λ e. omega arith))

pub reserved_symbol-nine : (w : List ℕ) → length w ≡ 9 → reserved_symbol w ≡ symbol_in nine_letters (map in_lower_case w)
reserved_symbol-nine w l =
    reserved_symbol-split w ∙ skip _ _ (none2 w (λ e. omega arith)) ∙ skip _ _ (none3 w (λ e. omega arith))
    ∙ skip _ _ (none4 w (λ e. omega arith)) ∙ skip _ _ (none5 w (λ e. omega arith))
    ∙ skip _ _ (none6 w (λ e. omega arith)) ∙ skip _ _ (none7 w (λ e. omega arith))
    ∙ skip _ _ (none8 w (λ e. omega arith))

pub reserved_symbol-none : (w : List ℕ) → (length w ≡ 2 → ⊥) → (length w ≡ 3 → ⊥) → (length w ≡ 4 → ⊥) → (length w ≡ 5 → ⊥) → (length w ≡ 6 → ⊥) → (length w ≡ 7 → ⊥) → (length w ≡ 8 → ⊥) → (length w ≡ 9 → ⊥) → reserved_symbol w ≡ None
reserved_symbol-none w a b c d e f g h =
    reserved_symbol-split w ∙ skip _ _ (none2 w a) ∙ skip _ _ (none3 w b) ∙ skip _ _ (none4 w c)
    ∙ skip _ _ (none5 w d) ∙ skip _ _ (none6 w e) ∙ skip _ _ (none7 w f) ∙ skip _ _ (none8 w g) ∙ none9 w h

pub ruleset reserved_by_length = (reserved_symbol-two, reserved_symbol-three, reserved_symbol-four, reserved_symbol-five, reserved_symbol-six, reserved_symbol-seven, reserved_symbol-eight, reserved_symbol-nine, reserved_symbol-none)

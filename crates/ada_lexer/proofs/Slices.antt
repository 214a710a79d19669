-- The tokens of a split are slices of the text, in order.
use Rattle.std.proofs.Common.{◌≡◌, ℕ, ◌+◌, ◌≤◌, true, false, cond, List, [], ◌∷◌, length, take, drop, refl, ap, ◌∙◌, sym, subst, arith, Option, None, Some, option_map, ltb, leb}
use Rattle.std.proofs.lemmas.List.{length-drop, drop-drop}
use Rattle.std.proofs.lemmas.List.Elements.{All-nil, All-cons}
use Rattle.std.specs.Prelude.{All, position, not, slice_range, ◌==◌}
use Rattle.ada_lexer.specs.declared.kinds.TokenKind.{TokenKind}
use Rattle.ada_lexer.specs.declared.kinds.TokenKind.TheVariants.{Symbol}
use Rattle.ada_lexer.specs.declared.kinds.Token.{Token}
use Rattle.ada_lexer.specs.declared.errors.LexError.{LexError}
use Rattle.ada_lexer.specs.declared.verdicts.Verdict.{Verdict}
use Rattle.ada_lexer.specs.declared.verdicts.Verdict.TheVariants.{Gap, Kind, Fault}
use Rattle.ada_lexer.specs.Bytes.{is_white, is_letter, is_digit, is_printable}
use Rattle.ada_lexer.specs.Words.{reserved_symbol, delimiter_symbol}
use Rattle.ada_lexer.specs.Numbers.{number_kind}
use Rattle.ada_lexer.specs.Strings.{ends_inside, content}
use Rattle.ada_lexer.specs.Pieces.{IsLongest, opens_comment}
use Rattle.ada_lexer.specs.Verdicts.{max_name, max_content, token_or, text_or_bad_byte, word_verdict, number_verdict, string_verdict, mark_verdict, verdict, IsToken}
use Rattle.ada_lexer.specs.Split.{FallsInto, onto_tokens, tokens_of, Splits, IsTokenOf, AreInOrder}
use Rattle.ada_lexer.proofs.Unique.{longest-some, longest-within}

-- two verdicts agree on the kind, where they are one
abbrev SameKind : Verdict → Verdict → Type 0
SameKind v w = (k : TokenKind) → v ≡ Kind k → w ≡ Kind k

same_kind-cond : (b : _) (x y x' y' : Verdict) → SameKind x x' → SameKind y y' → SameKind (cond b x y) (cond b x' y')
same_kind-cond true x y x' y' h k = h
same_kind-cond false x y x' y' h k = k

same_kind-fault : (d e : LexError) → SameKind (Fault d) (Fault e)
same_kind-fault d e k h = cc

same_kind-or : (v w : Verdict) (o : Option TokenKind) → SameKind v w → SameKind (token_or v o) (token_or w o)
same_kind-or v w None h = h
same_kind-or v w (Some k) h = λ j e. e

same_kind-text : (a b : ℕ) (o : Option ℕ) → SameKind (text_or_bad_byte a o) (text_or_bad_byte b o)
same_kind-text a b None = λ k e. e
same_kind-text a b (Some n) = same_kind-fault _ _

word-place : (a b : ℕ) (text : List ℕ) → SameKind (word_verdict a text) (word_verdict b text)
unfolding word_verdict
word-place a b text =
    same_kind-or _ _ (option_map Symbol (reserved_symbol text)) (same_kind-cond (leb (length text) max_name) _ _ _ _ (λ k e. e) (same_kind-fault _ _))

number-place : (a b : ℕ) (text : List ℕ) → SameKind (number_verdict a text) (number_verdict b text)
unfolding number_verdict
number-place a b text = same_kind-or _ _ (number_kind text) (same_kind-fault _ _)

string-place : (a b : ℕ) (rest : List ℕ) → SameKind (string_verdict a rest) (string_verdict b rest)
unfolding string_verdict
string-place a b rest =
    same_kind-cond (ends_inside true rest) _ _ _ _ (same_kind-fault _ _) (same_kind-cond (ltb max_content (length (content true rest))) _ _ _ _ (same_kind-fault _ _) (same_kind-text (a + 1) (b + 1) (position (λ c. not (is_printable c)) rest)))

mark-place : (a b : ℕ) (text : List ℕ) → SameKind (mark_verdict a text) (mark_verdict b text)
unfolding mark_verdict
mark-place a b text =
    same_kind-cond (opens_comment text) _ _ _ _ (λ k e. e) (same_kind-or _ _ (option_map Symbol (delimiter_symbol text)) (same_kind-fault _ _))

-- the kind of a token is that of its text, wherever it stands
pub verdict-place : (a b : ℕ) (text : List ℕ) → SameKind (verdict a text) (verdict b text)
unfolding verdict
verdict-place a b [] = λ k e. e
verdict-place a b (c ∷ rest) =
    same_kind-cond (is_white c) _ _ _ _ (λ k e. e) (same_kind-cond (is_letter c) _ _ _ _ (word-place a b (c ∷ rest)) (same_kind-cond (is_digit c) _ _ _ _ (number-place a b (c ∷ rest)) (same_kind-cond (c == 34) _ _ _ _ (string-place a b rest) (mark-place a b (c ∷ rest)))))

-- one more token of a text in front
token-slice : (src p : List ℕ) (at : ℕ) (kind : TokenKind) → at ≤ length src → IsLongest p (drop at src) → verdict at p ≡ Kind kind → IsTokenOf src (record { kind = kind; start = at; end = at + length p })
token-slice src p at kind le longest is =
    let piece : p ≡ slice_range src at (at + length p) = longest.stands ∙ ap (λ n. take n (drop at src)) (omega arith) in
    record {
      some = omega (arith, longest-some p (drop at src) longest);
      within = omega (arith, longest-within p (drop at src) longest, length-drop at src);
      slice = subst (λ t. IsToken t kind) piece (longest.is_one, verdict-place at 0 p kind is);
    }

onto-slices : (src p : List ℕ) (at : ℕ) (v : Verdict) (tokens : List Token) → at ≤ length src → IsLongest p (drop at src) → verdict at p ≡ v → All (IsTokenOf src) tokens → All (IsTokenOf src) (onto_tokens v at (at + length p) tokens)
onto-slices src p at Gap tokens le longest is all = all
onto-slices src p at (Kind k) tokens le longest is all =
    All-cons (IsTokenOf src) _ tokens (token-slice src p at k le longest is) all
onto-slices src p at (Fault e) tokens le longest is all = all

pieces-slices : (src : List ℕ) (ps : List (List ℕ)) (at : ℕ) → at ≤ length src → FallsInto ps [] (drop at src) → All (IsTokenOf src) (tokens_of at ps)
pieces-slices src [] at le f = All-nil (IsTokenOf src)
pieces-slices src (p ∷ ps) at le f =
    let fits : at + length p ≤ length src = omega (arith, longest-within p (drop at src) f.0, length-drop at src) in
    onto-slices src p at (verdict at p) (tokens_of (at + length p) ps) le f.0 refl (pieces-slices src ps (at + length p) fits (subst (FallsInto ps []) (drop-drop (length p) at src) f.1))

pub splits-slices : (src : List ℕ) (tokens : List Token) → Splits src tokens → All (IsTokenOf src) tokens
splits-slices src tokens h =
    subst (All (IsTokenOf src)) (sym h.3) (pieces-slices src h.0 0 (omega arith) h.1)

in_order-weaker : (a b : ℕ) (tokens : List Token) → a ≤ b → AreInOrder b tokens → AreInOrder a tokens
in_order-weaker a b [] le h = tt
in_order-weaker a b (t ∷ ts) le h = (omega (arith, h.0), h.1)

onto-order : (v : Verdict) (end start stop : ℕ) (tokens : List Token) → end ≤ start → start ≤ stop → AreInOrder stop tokens → AreInOrder end (onto_tokens v start stop tokens)
onto-order Gap end start stop tokens le within h = in_order-weaker end stop tokens (omega arith) h
onto-order (Kind k) end start stop tokens le within h = (le, h)
onto-order (Fault e) end start stop tokens le within h = in_order-weaker end stop tokens (omega arith) h

pieces-order : (at : ℕ) (ps : List (List ℕ)) → AreInOrder at (tokens_of at ps)
pieces-order at [] = tt
pieces-order at (p ∷ ps) =
    onto-order (verdict at p) at at (at + length p) (tokens_of (at + length p) ps) (omega arith) (omega arith) (pieces-order (at + length p) ps)

pub splits-order : (src : List ℕ) (tokens : List Token) → Splits src tokens → AreInOrder 0 tokens
splits-order src tokens h = subst (AreInOrder 0) (sym h.3) (pieces-order 0 h.0)

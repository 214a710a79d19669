-- The text of the parts of a PUT, part by part.
use Rattle.std.proofs.Common.{◌≡◌, ◌<◌, ℕ, ℤ, pos, negsuc, ◌+◌, List, ◌∷◌, ◌++◌, length, drop, map, get_or, Some, None, Result, Ok, Err, refl, sym, ap, ◌∙◌, append_assoc}
use Rattle.std.specs.Fmt.{signed_decimal}
use Rattle.std.proofs.lemmas.List.{drop_more}
use Rattle.ada_tree.specs.declared.statements.Part.{Part}
use Rattle.ada_tree.specs.PlainStmt.{plain_part}
use Rattle.ada_tree.specs.TypeTable.{TypeTable}
use Rattle.ada_value.specs.declared.values.Raised.{Raised}
use Rattle.ada_value.specs.Values.{and_then}
use Rattle.ada_value.specs.Variables.{Variables}
use Rattle.ada_value.specs.Texts.{integer_text, part_output, parts_output}
use Rattle.ada_value.specs.put_text.Written.{exception_of, text_or_none}

pub signed_is_text : (z : ℤ) → signed_decimal z ≡ integer_text z
signed_is_text (pos n) = refl
signed_is_text (negsuc n) = refl

-- ---- the parts so far

-- a text in front of what comes
abbrev pub behind_text : List ℕ → Result (List ℕ) Raised → Result (List ℕ) Raised
behind_text written r = and_then r (λ b. Ok (written ++ b))

joined : (written a : List ℕ) (r : Result (List ℕ) Raised) → behind_text written (and_then r (λ b. Ok (a ++ b))) ≡ behind_text (written ++ a) r
joined written a (Ok b) = ap Ok (sym (append_assoc written a b))
joined written a (Err x) = refl

raised_in : (written : List ℕ) (p rest : Result (List ℕ) Raised) (x : Raised) → Some x ≡ exception_of p →
    Some x ≡ exception_of (behind_text written (and_then p (λ a. and_then rest (λ b. Ok (a ++ b)))))
raised_in written (Ok a) rest x h = absurd (cc)
raised_in written (Err y) rest x h = h

text_in : (written : List ℕ) (p rest : Result (List ℕ) Raised) → None ≡ exception_of p →
    behind_text written (and_then p (λ a. and_then rest (λ b. Ok (a ++ b)))) ≡ behind_text (written ++ text_or_none p) rest
text_in written (Ok a) rest h = joined written a rest
text_in written (Err y) rest h = absurd (cc)

-- the text of a list, after some of its parts
abbrev pub text_from : List (List ℕ) → TypeTable → Variables → List Part → Result (List ℕ) Raised
text_from names types vars parts = parts_output names types vars (map plain_part parts)

split_at : (names : List (List ℕ)) (types : TypeTable) (vars : Variables) (parts : List Part) (i : ℕ) (part : Part) → i < length parts → part ≡ get_or parts i part →
    text_from names types vars (drop i parts) ≡ and_then (part_output names types vars (plain_part part)) (λ a. and_then (text_from names types vars (drop (i + 1) parts)) (λ b. Ok (a ++ b)))
split_at names types vars parts i part lt is =
    ap (text_from names types vars) (drop_more parts i part lt) ∙ ap (λ p. text_from names types vars (p ∷ drop (i + 1) parts)) (sym is)

pub raises_at : (names : List (List ℕ)) (types : TypeTable) (vars : Variables) (parts : List Part) (i : ℕ) (part : Part) (written : List ℕ) (x : Raised) → i < length parts → part ≡ get_or parts i part →
    Some x ≡ exception_of (part_output names types vars (plain_part part)) → text_from names types vars parts ≡ behind_text written (text_from names types vars (drop i parts)) →
    Some x ≡ exception_of (text_from names types vars parts)
raises_at names types vars parts i part written x lt is raises so_far =
    raised_in written (part_output names types vars (plain_part part)) (text_from names types vars (drop (i + 1) parts)) x raises ∙
    ap (λ r. exception_of (behind_text written r)) (sym (split_at names types vars parts i part lt is)) ∙
    ap exception_of (sym so_far)

pub goes_on : (names : List (List ℕ)) (types : TypeTable) (vars : Variables) (parts : List Part) (i : ℕ) (part : Part) (written : List ℕ) → i < length parts → part ≡ get_or parts i part →
    None ≡ exception_of (part_output names types vars (plain_part part)) → text_from names types vars parts ≡ behind_text written (text_from names types vars (drop i parts)) →
    text_from names types vars parts ≡ behind_text (written ++ text_or_none (part_output names types vars (plain_part part))) (text_from names types vars (drop (i + 1) parts))
goes_on names types vars parts i part written lt is passes so_far =
    so_far ∙
    ap (behind_text written) (split_at names types vars parts i part lt is) ∙
    text_in written (part_output names types vars (plain_part part)) (text_from names types vars (drop (i + 1) parts)) passes

-- The loop over a text: what is read so far, with what follows, is the whole.
use Rattle.std.proofs.Common.{◌≡◌, ℕ, ◌+◌, ◌-◌, ◌≤◌, List, [], ◌∷◌, ◌++◌, length, take, drop, refl, ap, ◌∙◌, sym, subst, arith, inl, inr}
use Rattle.std.proofs.lemmas.List.{length-take-le, length-drop, drop-drop, drop_all, append_assoc, append-nil}
use Rattle.std.specs.Prelude.{◌≢◌}
use Rattle.ada_lexer.specs.declared.kinds.Token.{Token}
use Rattle.ada_lexer.specs.declared.errors.LexError.{LexError}
use Rattle.ada_lexer.specs.declared.errors.LexError.TheVariants.{BadByte, OpenString, BadNumber, TooLong, Memory}
use Rattle.ada_lexer.specs.declared.verdicts.Verdict.{Verdict}
use Rattle.ada_lexer.specs.declared.verdicts.Verdict.TheVariants.{Gap, Kind, Fault}
use Rattle.ada_lexer.specs.Pieces.{IsLongest}
use Rattle.ada_lexer.specs.Verdicts.{verdict}
use Rattle.ada_lexer.specs.Lengths.{HasLongest, IsMeasured}
use Rattle.ada_lexer.proofs.Unique.{split-has_no_fault, first_fault-unique}
use Rattle.ada_lexer.specs.Split.{FallsInto, onto_tokens, tokens_of, IsSound, AreSound, SplitsAt, Splits, BeginsNothing, FailsHere, place_behind, FailsAt, HasFirstFault}

-- what the whole text gives, by what the rest from a place on gives
pub record IsReadTo (src : List ℕ) (at : ℕ) (found : List Token) : Type 0 where
  pub within : at ≤ length src
  pub splits : (more : List Token) → SplitsAt at (drop at src) more → Splits src (found ++ more)
  pub fails : (e : LexError) → FailsAt at (drop at src) e → HasFirstFault src e

pub read_none : (src : List ℕ) → IsReadTo src 0 []
read_none src = record { within = omega arith; splits = λ more h. h; fails = λ e h. h }

-- one more piece in front of a split
step-splits : (at : ℕ) (text : List ℕ) (len : ℕ) (v : Verdict) (more : List Token) → len ≤ length text → IsLongest (take len text) text → verdict at (take len text) ≡ v → IsSound v → SplitsAt (at + len) (drop len text) more → SplitsAt at text (onto_tokens v at (at + len) more)
step-splits at text len v more le longest is sound h =
    let p = take len text in
    let size : length p ≡ len = length-take-le len text le in (
      p ∷ h.0,
      (longest, subst (λ n. FallsInto h.0 [] (drop n text)) (sym size) h.1),
      (subst IsSound (sym is) sound, subst (λ n. AreSound (at + n) h.0) (sym size) h.2),
      ap (onto_tokens v at (at + len)) h.3
          ∙ ap (λ n. onto_tokens v at (at + n) (tokens_of (at + n) h.0)) (sym size)
          ∙ ap (λ w. onto_tokens w at (at + length p) (tokens_of (at + length p) h.0)) (sym is),
    )

step-fails : (at : ℕ) (text : List ℕ) (len : ℕ) (v : Verdict) (e : LexError) → len ≤ length text → IsLongest (take len text) text → verdict at (take len text) ≡ v → IsSound v → FailsAt (at + len) (drop len text) e → FailsAt at text e
step-fails at text len v e le longest is sound h =
    let p = take len text in
    let size : length p ≡ len = length-take-le len text le in
    (p ∷ h.0, h.1, (longest, subst (λ n. FallsInto h.0 h.1 (drop n text)) (sym size) h.2), (subst IsSound (sym is) sound, subst (λ n. AreSound (at + n) h.0) (sym size) h.3), subst (λ n. FailsHere (place_behind (at + n) h.0) h.1 e) (sym size) h.4)

-- the tokens that a piece adds
abbrev pub added : Verdict → ℕ → ℕ → List Token
added v start end = onto_tokens v start end []

onto-append : (v : Verdict) (start end : ℕ) (found more : List Token) → IsSound v → found ++ onto_tokens v start end more ≡ (found ++ added v start end) ++ more
onto-append Gap start end found more s = ap (λ t. t ++ more) (sym (append-nil found))
onto-append (Kind k) start end found more s = sym (append_assoc found _ more)
onto-append (Fault e) start end found more s = absurd s

pub read_more : (src : List ℕ) (at len : ℕ) (found : List Token) (v : Verdict) → len ≤ length src - at → IsLongest (take len (drop at src)) (drop at src) → verdict at (take len (drop at src)) ≡ v → IsSound v → IsReadTo src at found → IsReadTo src (at + len) (found ++ added v at (at + len))
read_more src at len found v le longest is sound h =
    let text = drop at src in
    let fits : len ≤ length text = omega (arith, length-drop at src) in
    let rest : drop len text ≡ drop (at + len) src = drop-drop len at src in
    record {
      within = omega (arith, h.within);
      splits = λ more s. subst (Splits src) (onto-append v at (at + len) found more sound) (h.splits _ (step-splits at text len v more fits longest is sound (subst (λ t. SplitsAt (at + len) t more) (sym rest) s)));
      fails = λ e f. h.fails e (step-fails at text len v e fits longest is sound (subst (λ t. FailsAt (at + len) t e) (sym rest) f));
    }

-- at the end of the text all is read
pub read_all : (src : List ℕ) (at : ℕ) (found : List Token) → length src ≤ at → IsReadTo src at found → Splits src found
read_all src at found end h =
    subst (Splits src) (append-nil found) (h.splits [] ([], drop_all at src end, tt, refl))

-- a fault right here is the first of the text
pub read_fault : (src : List ℕ) (at : ℕ) (found : List Token) (e : LexError) → FailsHere at (drop at src) e → IsReadTo src at found → HasFirstFault src e
read_fault src at found e here h = h.fails e ([], drop at src, refl, tt, here)

-- what the length of the next piece says
pub measured-some : (text : List ℕ) (n : ℕ) → IsMeasured text n → (n ≡ 0 → ⊥) → HasLongest n text
measured-some text n h some = elim h [ inl one ↦ one.1 | inr none ↦ absurd (some none.0) ]

pub measured-none : (text : List ℕ) (n : ℕ) → IsMeasured text n → n ≡ 0 → BeginsNothing text
measured-none text n h none = elim h [ inl one ↦ absurd (omega (arith, one.0)) | inr nothing ↦ nothing.1 ]

pub fails-nothing : (at : ℕ) (text : List ℕ) (n : ℕ) → IsMeasured text n → n ≡ 0 → FailsHere at text (BadByte at)
fails-nothing at text n h none = inl (measured-none text n h none, refl)

pub fails-piece : (at : ℕ) (text : List ℕ) (n : ℕ) (e : LexError) → IsMeasured text n → (n ≡ 0 → ⊥) → verdict at (take n text) ≡ Fault e → FailsHere at text e
fails-piece at text n e h some is = inr (take n text, (measured-some text n h some).1, is)

-- an answer with an error says all, once it is the first fault or the want of memory
pub error-only_split : (src : List ℕ) (e : LexError) → (e ≢ Memory → HasFirstFault src e) → (wanted : List Token) → Splits src wanted → e ≡ Memory
error-only_split src Memory h wanted s = refl
error-only_split src (BadByte at) h wanted s = absurd (split-has_no_fault src wanted _ s (h (λ q. cc)))
error-only_split src (OpenString at) h wanted s = absurd (split-has_no_fault src wanted _ s (h (λ q. cc)))
error-only_split src (BadNumber at) h wanted s = absurd (split-has_no_fault src wanted _ s (h (λ q. cc)))
error-only_split src (TooLong at) h wanted s = absurd (split-has_no_fault src wanted _ s (h (λ q. cc)))

pub error-only_fault : (src : List ℕ) (e : LexError) → (e ≢ Memory → HasFirstFault src e) → (fault : LexError) → HasFirstFault src fault → e ≢ Memory → e ≡ fault
error-only_fault src e h fault f ne = first_fault-unique src e fault (h ne) f

-- one turn of the loop over the text: a sound piece, a piece at fault, or no piece
pub turn-sound : (src rest piece : List ℕ) (at len : ℕ) (found : List Token) (v : Verdict) → rest ≡ drop at src → IsMeasured rest len → (len ≡ 0 → ⊥) → piece ≡ take len rest → v ≡ verdict at piece → IsSound v → IsReadTo src at found → IsReadTo src (at + len) (found ++ added v at (at + len))
turn-sound src rest piece at len found v here measured some front is sound h =
    let longest = measured-some (drop at src) len (subst (λ t. IsMeasured t len) here measured) some in
    let text : piece ≡ take len (drop at src) = front ∙ ap (take len) here in
    read_more src at len found v (omega (arith, longest.0, length-drop at src)) longest.1 (sym (is ∙ ap (verdict at) text)) sound h

pub turn-fault : (src rest piece : List ℕ) (at len : ℕ) (found : List Token) (v : Verdict) (e : LexError) → rest ≡ drop at src → IsMeasured rest len → (len ≡ 0 → ⊥) → piece ≡ take len rest → v ≡ verdict at piece → v ≡ Fault e → IsReadTo src at found → HasFirstFault src e
turn-fault src rest piece at len found v e here measured some front is fault h =
    let text : piece ≡ take len (drop at src) = front ∙ ap (take len) here in
    read_fault src at found e (fails-piece at (drop at src) len e (subst (λ t. IsMeasured t len) here measured) some (sym (ap (verdict at) text) ∙ sym is ∙ fault)) h

pub turn-nothing : (src rest : List ℕ) (at len : ℕ) (found : List Token) → rest ≡ drop at src → IsMeasured rest len → len ≡ 0 → IsReadTo src at found → HasFirstFault src (BadByte at)
turn-nothing src rest at len found here measured none h =
    read_fault src at found (BadByte at) (fails-nothing at (drop at src) len (subst (λ t. IsMeasured t len) here measured) none) h

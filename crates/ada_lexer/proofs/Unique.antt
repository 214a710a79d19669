-- A text has one split or one first fault, and never both.
use Rattle.std.proofs.Common.{◌≡◌, ℕ, ◌+◌, ◌<◌, ◌≤◌, List, [], ◌∷◌, length, take, drop, refl, ap, ◌∙◌, sym, subst, arith, inl, inr}
use Rattle.std.proofs.lemmas.List.{length-take}
use Rattle.std.specs.Prelude.{IsTrue}
use Rattle.ada_lexer.specs.declared.kinds.Token.{Token}
use Rattle.ada_lexer.specs.declared.errors.LexError.{LexError}
use Rattle.ada_lexer.specs.declared.verdicts.Verdict.{Verdict}
use Rattle.ada_lexer.specs.declared.verdicts.Verdict.TheVariants.{Gap, Kind, Fault}
use Rattle.ada_lexer.specs.Pieces.{is_piece, IsLongest}
use Rattle.ada_lexer.specs.Verdicts.{verdict}
use Rattle.ada_lexer.specs.Split.{FallsInto, tokens_of, IsSound, AreSound, Splits, FailsHere, place_behind, HasFirstFault}
use Rattle.ada_lexer.proofs.Longest.{is_piece-nil}

pub longest-some : (p text : List ℕ) → IsLongest p text → 0 < length p
longest-some [] text h = absurd (is_piece-nil h.is_one)
longest-some (b ∷ p) text h = omega arith

pub longest-within : (p text : List ℕ) → IsLongest p text → length p ≤ length text
longest-within p text h = omega (arith, ap length h.stands, length-take (length p) text)

-- a longest piece begins no empty text
longest-no_end : (p text : List ℕ) → IsLongest p text → text ≡ [] → ⊥
longest-no_end p text h e =
    absurd (omega (arith, longest-some p text h, longest-within p text h, ap length e))

longest-le : (p q text : List ℕ) → IsLongest p text → IsLongest q text → length p ≤ length q
longest-le p q text h k =
    k.longest (length p) (longest-within p text h) (subst (λ t. IsTrue (is_piece t)) h.stands h.is_one)

longest-unique : (p q text : List ℕ) → IsLongest p text → IsLongest q text → p ≡ q
longest-unique p q text h k =
    let same : length p ≡ length q = omega (arith, longest-le p q text h k, longest-le q p text k h) in
    h.stands ∙ ap (λ n. take n text) same ∙ sym k.stands

-- behind one and the same piece
behind : (p q text : List ℕ) (P : List ℕ → List ℕ → Type 0) → p ≡ q → P q (drop (length q) text) → P p (drop (length p) text)
behind p q text P e h = subst (λ t. P t (drop (length t) text)) (sym e) h

pieces-unique : (ps qs : List (List ℕ)) (text : List ℕ) → FallsInto ps [] text → FallsInto qs [] text → ps ≡ qs
pieces-unique [] [] text f g = refl
pieces-unique [] (q ∷ qs) text f g = absurd (longest-no_end q text g.0 f)
pieces-unique (p ∷ ps) [] text f g = absurd (longest-no_end p text f.0 g)
pieces-unique (p ∷ ps) (q ∷ qs) text f g =
    let e = longest-unique p q text f.0 g.0 in
    let others = pieces-unique ps qs (drop (length p) text) f.1 (behind p q text (λ t rest. FallsInto qs [] rest) e g.1) in
    ap (λ t. t ∷ ps) e ∙ ap (λ ts. q ∷ ts) others

pub splits-unique : (text : List ℕ) (a b : List Token) → Splits text a → Splits text b → a ≡ b
splits-unique text a b f g = f.3 ∙ ap (tokens_of 0) (pieces-unique f.0 g.0 text f.1 g.1) ∙ sym g.3

-- a sound piece where the text begins leaves no room for a fault there
no_fault : (v : Verdict) (e : LexError) → IsSound v → v ≡ Fault e → ⊥
no_fault Gap e s h = cc
no_fault (Kind k) e s h = cc
no_fault (Fault f) e s h = s

sound-here : (at : ℕ) (p text : List ℕ) (e : LexError) → IsLongest p text → IsSound (verdict at p) → FailsHere at text e → ⊥
sound-here at p text e h s f = elim f [
  | inl nothing ↦ nothing.0.1 (length p) (longest-within p text h) (subst (λ t. IsTrue (is_piece t)) h.stands h.is_one)
  | inr other ↦ no_fault (verdict at p) e s (ap (verdict at) (longest-unique p other.0 text h other.1) ∙ other.2)
]

no_end-here : (at : ℕ) (text : List ℕ) (e : LexError) → text ≡ [] → FailsHere at text e → ⊥
no_end-here at text e end f = elim f [
  | inl nothing ↦ nothing.0.0 end
  | inr other ↦ longest-no_end other.0 text other.1 end
]

here-unique : (at : ℕ) (text : List ℕ) (d e : LexError) → FailsHere at text d → FailsHere at text e → d ≡ e
here-unique at text d e f g = elim f [
  | inl n ↦ elim g [
    | inl m ↦ n.1 ∙ sym m.1
    | inr q ↦ absurd (n.0.1 (length q.0) (longest-within q.0 text q.1) (subst (λ t. IsTrue (is_piece t)) q.1.stands q.1.is_one))
  ]
  | inr p ↦ elim g [
    | inl m ↦ absurd (m.0.1 (length p.0) (longest-within p.0 text p.1) (subst (λ t. IsTrue (is_piece t)) p.1.stands p.1.is_one))
    | inr q ↦ (let same = sym p.2 ∙ ap (verdict at) (longest-unique p.0 q.0 text p.1 q.1) ∙ q.2 in cc)
  ]
]

-- the rest behind pieces fails
abbrev Fails : ℕ → List (List ℕ) → List ℕ → LexError → Type 0
Fails at ps text e =
    (rest : List ℕ) × FallsInto ps rest text × AreSound at ps × FailsHere (place_behind at ps) rest e

fails-here : (at : ℕ) (text : List ℕ) (e : LexError) → Fails at [] text e → FailsHere at text e
fails-here at text e f = subst (λ t. FailsHere at t e) (sym f.1) f.3

fails-behind : (at : ℕ) (p : List ℕ) (ps : List (List ℕ)) (text : List ℕ) (e : LexError) → Fails at (p ∷ ps) text e → Fails (at + length p) ps (drop (length p) text) e
fails-behind at p ps text e f = (f.0, f.1.1, f.2.1, f.3)

split-no_fault : (ps qs : List (List ℕ)) (at : ℕ) (text : List ℕ) (e : LexError) → FallsInto ps [] text → AreSound at ps → Fails at qs text e → ⊥
split-no_fault [] [] at text e f s g = no_end-here at text e f (fails-here at text e g)
split-no_fault [] (q ∷ qs) at text e f s g = longest-no_end q text g.1.0 f
split-no_fault (p ∷ ps) [] at text e f s g = sound-here at p text e f.0 s.0 (fails-here at text e g)
split-no_fault (p ∷ ps) (q ∷ qs) at text e f s g =
    let same = longest-unique p q text f.0 g.1.0 in
    let next = behind p q text (λ t rest. Fails (at + length t) qs rest e) same (fails-behind at q qs text e g) in
    split-no_fault ps qs (at + length p) (drop (length p) text) e f.1 s.1 next

fails-unique : (ps qs : List (List ℕ)) (at : ℕ) (text : List ℕ) (d e : LexError) → Fails at ps text d → Fails at qs text e → d ≡ e
fails-unique [] [] at text d e f g = here-unique at text d e (fails-here at text d f) (fails-here at text e g)
fails-unique [] (q ∷ qs) at text d e f g =
    absurd (sound-here at q text d g.1.0 g.2.0 (fails-here at text d f))
fails-unique (p ∷ ps) [] at text d e f g =
    absurd (sound-here at p text e f.1.0 f.2.0 (fails-here at text e g))
fails-unique (p ∷ ps) (q ∷ qs) at text d e f g =
    let same = longest-unique p q text f.1.0 g.1.0 in
    let next = behind p q text (λ t rest. Fails (at + length t) qs rest e) same (fails-behind at q qs text e g) in
    fails-unique ps qs (at + length p) (drop (length p) text) d e (fails-behind at p ps text d f) next

pub split-has_no_fault : (text : List ℕ) (a : List Token) (e : LexError) → Splits text a → HasFirstFault text e → ⊥
split-has_no_fault text a e f g = split-no_fault f.0 g.0 0 text e f.1 f.2 (g.1, g.2, g.3, g.4)

pub first_fault-unique : (text : List ℕ) (d e : LexError) → HasFirstFault text d → HasFirstFault text e → d ≡ e
first_fault-unique text d e f g =
    fails-unique f.0 g.0 0 text d e (f.1, f.2, f.3, f.4) (g.1, g.2, g.3, g.4)

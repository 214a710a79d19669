-- No line feed stands in the line of an event, nor in the header of a legal program.
use Rattle.std.proofs.Common.{◌≡◌, ℕ, ℤ, pos, negsuc, zero, suc, ◌≤◌, ◌+◌, ◌%◌, ◌/◌, Bool, true, false, cond, List, [], ◌∷◌, ◌++◌, length, refl, subst, arith}
use Rattle.std.specs.Prelude.{codes, decimal, nat_lt, ◌==◌}
use Rattle.std.specs.List.{concat, AllByRecursion}
use Rattle.std.proofs.Math.Seq.{take-append_seam}
use Rattle.std.proofs.lemmas.Bool.{ne_eqb}
use Rattle.std.proofs.lemmas.List.Elements.{All-nil, All-append, All-take}
use Rattle.std.specs.Fmt.{digit_glyph, digits_onto, digits}
use Rattle.event_machine.specs.declared.Event.{Event}
use Rattle.event_machine.specs.declared.Event.TheVariants.{R, E, S, D, C, T, F, X, B, Z}
use Rattle.ada_tree.specs.PlainProgram.{PProgram}
use Rattle.ada_static_rules.specs.Refusals.{types_in}
use Rattle.ada_value.specs.Texts.{integer_text}
use Rattle.syn_event.specs.declared.numbering.Mode.TheVariants.{Original}
use Rattle.syn_event.specs.DeclaredTasks.{text_of}
use Rattle.syn_event.specs.Numbering.{original_tasks, original_entries}
use Rattle.seq_file.proofs.Heading.{name-free}
use Rattle.seq_file.proofs.MainNames.{main_is_upper}
use Rattle.seq_file.proofs.text_lines.Marking.{IsFreeOf, free-cons, free-one, free-prefix}
use Rattle.normal_laws.specs.runs.forms.Normalisable.{numbers_of}
use Rattle.normal_laws.specs.existence.Laws.{IsLegalOriginal}
use Rattle.collect_model.specs.Lines.{header_text}
use Rattle.collect_runs.specs.lines.Pieces.{call_front, front}

-- no line feed stands in the text
abbrev pub IsLine : List ℕ → Type 0
IsLine text = IsFreeOf 10 text

pub line-joined : (a b : List ℕ) → IsLine a → IsLine b → IsLine (a ++ b)
line-joined a b h k = All-append (λ x. (x == 10) ≡ false) a b h k

pub line-front : (a b : List ℕ) → IsLine (a ++ b) → IsLine a
line-front a b h = subst IsLine (take-append_seam a b) (All-take (λ x. (x == 10) ≡ false) (length a) (a ++ b) h)

line-empty : IsLine []
line-empty = All-nil (λ x. (x == 10) ≡ false)

-- ---- numbers, of any size

glyph-high : (d : ℕ) → 48 ≤ digit_glyph false d
glyph-high d = by (nat_lt d 10)
  where
    by : (b : Bool) → 48 ≤ cond b (48 + d) (87 + d)
    by true = omega arith
    by false = omega arith

digits-line : (k n : ℕ) (more : List ℕ) → IsLine more → IsLine (digits_onto k 10 false n more)
digits-line zero n more h = h
digits-line (suc k) n more h =
    let next : IsLine (digit_glyph false (n % 10) ∷ more) = free-cons 10 (digit_glyph false (n % 10)) more (ne_eqb (digit_glyph false (n % 10)) 10 (λ e. absurd (omega (arith, e, glyph-high (n % 10))))) h in
    by (n / 10 == 0) _ _ next (digits-line k (n / 10) (digit_glyph false (n % 10) ∷ more) next)
  where
    by : (b : Bool) (x y : List ℕ) → IsLine x → IsLine y → IsLine (cond b x y)
    by true x y p q = p
    by false x y p q = q

decimal-line : (n : ℕ) → IsLine (decimal n)
unfolding digits
decimal-line n = digits-line 64 n [] line-empty

integer-line : (z : ℤ) → IsLine (integer_text z)
integer-line (pos n) = decimal-line n
integer-line (negsuc n) = line-joined (codes "-") (decimal (suc n)) (free-one 10 45 refl) (decimal-line (suc n))

-- ---- events

pieces-line : (pieces : List (List ℕ)) → AllByRecursion IsLine pieces → IsLine (concat pieces)
pieces-line [] h = line-empty
pieces-line (piece ∷ pieces) h = line-joined piece (concat pieces) h.0 (pieces-line pieces h.1)

blank-line : IsLine (codes " ")
blank-line = free-one 10 32 refl

pub front-line : (e : Event) → IsLine (concat (front e))
front-line e = pieces-line (front e) (by e)
  where
    call : (letter : List ℕ) (c n : ℕ) (i : ℤ) → IsLine letter → AllByRecursion IsLine (call_front letter c n i)
    call letter c n i h = (h, (blank-line, (decimal-line c, (blank-line, (decimal-line n, (blank-line, (integer-line i, tt)))))))

    one : (letter : List ℕ) (a : ℕ) → IsLine letter → AllByRecursion IsLine (letter ∷ codes " " ∷ decimal a ∷ [])
    one letter a h = (h, (blank-line, (decimal-line a, tt)))

    two : (letter : List ℕ) (a b : ℕ) → IsLine letter → AllByRecursion IsLine (letter ∷ codes " " ∷ decimal a ∷ codes " " ∷ decimal b ∷ [])
    two letter a b h = (h, (blank-line, (decimal-line a, (blank-line, (decimal-line b, tt)))))

    by : (x : Event) → AllByRecursion IsLine (front x)
    by (R c n i) = call (codes "R") c n i (free-one 10 82 refl)
    by (E a) = one (codes "E") a (free-one 10 69 refl)
    by (S a) = one (codes "S") a (free-one 10 83 refl)
    by (D a k) = two (codes "D") a k (free-one 10 68 refl)
    by (C c n i) = call (codes "C") c n i (free-one 10 67 refl)
    by (T c n i) = call (codes "T") c n i (free-one 10 84 refl)
    by (F c n i) = call (codes "F") c n i (free-one 10 70 refl)
    by (X a) = one (codes "X") a (free-one 10 88 refl)
    by (B t x) = two (codes "B") t x (free-one 10 66 refl)
    by Z = (free-one 10 90 refl, tt)

-- ---- the header

joined-parts : (main tasks entries : List ℕ) → IsLine main → IsLine tasks → IsLine entries → IsLine (codes "ded-seq 1 " ++ main ++ codes " " ++ tasks ++ codes " " ++ entries)
joined-parts main tasks entries h k l =
    let one : List ℕ = codes "ded-seq 1 " ++ main in
    let two : List ℕ = one ++ codes " " in
    let three : List ℕ = two ++ tasks in
    line-joined (three ++ codes " ") entries
    (line-joined three (codes " ") (line-joined two tasks (line-joined one (codes " ") (free-prefix 10 (codes "ded-seq 1 ") main refl h) blank-line) k) blank-line) l

pub header-line : (p : PProgram) → IsLegalOriginal p → IsLine (header_text p.names (numbers_of p))
header-line p h =
    joined-parts (text_of p.names (numbers_of p).main) (decimal (original_tasks (numbers_of p))) (decimal (original_entries (numbers_of p)))
    (name-free 10 (text_of p.names (numbers_of p).main) (omega arith) (main_is_upper p (types_in p) (numbers_of p) Original h.placed h.legal))
    (decimal-line (original_tasks (numbers_of p))) (decimal-line (original_entries (numbers_of p)))

-- A file read line by line: what was read so far, and that a file has one list of lines or one first fault.
use Rattle.std.proofs.Common.{◌≡◌, ◌≢◌, ℕ, true, false, List, [], ◌∷◌, ◌++◌, length, drop, Option, None, Some, refl, ap, ◌∙◌, sym, subst, arith, ◌⊎◌, inl, inr, append_assoc, append-nil, length-append, All}
use Rattle.std.specs.Prelude.{◌==◌, is_some, option_and_then, bytes_eq}
use Rattle.std.specs.Option.{option_map_or}
use Rattle.std.proofs.lemmas.Bool.{eqb-false}
use Rattle.std.proofs.lemmas.List.Elements.{All-head, All-tail}
use Rattle.std.proofs.lemmas.Slice.Eq.{bytes_eq-Decides}
use Rattle.std.proofs.Math.Seq.{drop-append_seam}
use Rattle.seq_file.specs.text_lines.Lines.{is_line_end, first_line, cut}
use Rattle.seq_file.specs.text_lines.LineFiles.{Format, lines_text, file_text, IsFile, begins_with_line, FailsBehind, HasFirstFault}
use Rattle.seq_file.proofs.text_lines.Marking.{IsFreeOf, left_of, right_of, cut-at_mark, cut-parts, first-line_cut}
use Rattle.common_lemmas.proofs.Lists.{never_empty}
use Rattle.common_lemmas.proofs.Truth.{clash}
use Rattle.common_lemmas.proofs.Options.{some_same}

-- What a format has to keep: its tests and its texts fit together on the lines that may stand in a file, which are all good.
pub record Laws {L E : Type 0} (format : Format L E) (Good : L → Type 0) : Type 0 where
  pub header : IsFreeOf 10 format.header
  pub empty : format.Fit []
  pub there : (xs : List L) (y : L) (ys : List L) → format.Fit (xs ++ (y ∷ ys)) → format.fault xs (Some y) ≡ None
  pub one_more : (xs : List L) (y : L) (line : List ℕ) → format.Fit xs → format.read line ≡ Some y → format.fault xs (Some y) ≡ None → format.Fit (xs ++ (y ∷ []))
  pub all_good : (xs : List L) → format.Fit xs → All Good xs
  pub next_good : (xs : List L) (y : L) (line : List ℕ) → format.read line ≡ Some y → format.fault xs (Some y) ≡ None → Good y
  pub free : (y : L) → Good y → IsFreeOf 10 (format.text y)
  pub written : (y : L) → Good y → format.read (format.text y) ≡ Some y
  pub spelled : (line : List ℕ) (y : L) → format.read line ≡ Some y → Good y → line ≡ format.text y

no-some : {X A : Type 0} (o : Option X) (y : X) → o ≡ None → o ≡ Some y → A
no-some o y h k = clash (ap is_some (sym h ∙ k))

file-joined : {L E : Type 0} (format : Format L E) (xs : List L) (rest : List ℕ) → file_text format xs ++ rest ≡ format.header ++ (10 ∷ (lines_text format.text xs ++ rest))
unfolding file_text
file-joined format xs rest =
    append_assoc (format.header ++ (10 ∷ [])) (lines_text format.text xs) rest ∙ append_assoc format.header (10 ∷ []) (lines_text format.text xs ++ rest)

line-joined : {L : Type 0} (text : L → List ℕ) (x : L) (xs : List L) (rest : List ℕ) → lines_text text (x ∷ xs) ++ rest ≡ text x ++ (10 ∷ (lines_text text xs ++ rest))
line-joined text x xs rest =
    append_assoc (text x ++ (10 ∷ [])) (lines_text text xs) rest ∙ append_assoc (text x) (10 ∷ []) (lines_text text xs ++ rest)

lines-append : {L : Type 0} (text : L → List ℕ) (xs ys : List L) → lines_text text (xs ++ ys) ≡ lines_text text xs ++ lines_text text ys
lines-append text [] ys = refl
lines-append text (x ∷ xs) ys =
    ap (λ t. (text x ++ (10 ∷ [])) ++ t) (lines-append text xs ys) ∙ sym (append_assoc (text x ++ (10 ∷ [])) (lines_text text xs) (lines_text text ys))

file-append : {L E : Type 0} (format : Format L E) (xs ys : List L) (rest : List ℕ) → file_text format (xs ++ ys) ++ rest ≡ file_text format xs ++ (lines_text format.text ys ++ rest)
unfolding file_text
file-append format xs ys rest =
    let h : List ℕ = format.header ++ (10 ∷ []) in
    ap (λ t. (h ++ t) ++ rest) (lines-append format.text xs ys)
    ∙ ap (λ t. t ++ rest) (sym (append_assoc h (lines_text format.text xs) (lines_text format.text ys)))
    ∙ append_assoc (h ++ lines_text format.text xs) (lines_text format.text ys) rest

rest-nil : {L : Type 0} (text : L → List ℕ) (xs : List L) (rest : List ℕ) → lines_text text xs ++ rest ≡ [] → rest ≡ []
rest-nil text [] rest h = h
rest-nil text (x ∷ xs) rest h = never_empty (text x) 10 (lines_text text xs ++ rest) (sym (line-joined text x xs rest) ∙ h)

lines-nil : {L : Type 0} (text : L → List ℕ) (xs : List L) → lines_text text xs ++ [] ≡ [] → xs ≡ []
lines-nil text [] h = refl
lines-nil text (x ∷ xs) h = never_empty (text x) 10 (lines_text text xs ++ []) (sym (line-joined text x xs []) ∙ h)

more-nil : {L : Type 0} (xs all more : List L) → all ≡ xs ++ more → all ≡ xs → more ≡ []
more-nil xs all [] e same = refl
more-nil xs all (y ∷ ys) e same = absurd (omega (arith, ap length (sym e ∙ same), length-append xs (y ∷ ys)))

-- the first of the lines
line-cut : {L E : Type 0} (format : Format L E) (Good : L → Type 0) → Laws format Good → (x : L) (xs : List L) (rest : List ℕ) → Good x →
    cut is_line_end (lines_text format.text (x ∷ xs) ++ rest) ≡ Some (format.text x, lines_text format.text xs ++ rest)
line-cut format Good laws x xs rest good =
    ap (cut is_line_end) (line-joined format.text x xs rest) ∙ cut-at_mark 10 (format.text x) (lines_text format.text xs ++ rest) (laws.free x good)

-- one of two splits of a text into lines and a rest goes on where the other stops
record GoesOn {L : Type 0} (text : L → List ℕ) (shorter longer : List L) (rest behind : List ℕ) : Type 0 where
  more : List L
  lines : longer ≡ shorter ++ more
  left : rest ≡ lines_text text more ++ behind

compare : {L E : Type 0} (format : Format L E) (Good : L → Type 0) → Laws format Good → (xs ys : List L) (r s : List ℕ) → All Good xs → All Good ys →
    lines_text format.text xs ++ r ≡ lines_text format.text ys ++ s → GoesOn format.text xs ys r s ⊎ GoesOn format.text ys xs s r
compare format Good laws [] ys r s gx gy h = inl record { more = ys; lines = refl; left = h }
compare format Good laws (x ∷ xs) [] r s gx gy h = inr record { more = x ∷ xs; lines = refl; left = sym h }
compare format Good laws (x ∷ xs) (y ∷ ys) r s gx gy h =
    let good : Good x = All-head Good x xs gx in
    let good' : Good y = All-head Good y ys gy in
    let same : Some (format.text x, lines_text format.text xs ++ r) ≡ Some (format.text y, lines_text format.text ys ++ s) =
    sym (line-cut format Good laws x xs r good) ∙ ap (cut is_line_end) h ∙ line-cut format Good laws y ys s good' in
    let equal : x ≡ y = some_same (sym (laws.written x good) ∙ ap format.read (ap left_of same) ∙ laws.written y good') in
    elim (compare format Good laws xs ys r s (All-tail Good x xs gx) (All-tail Good y ys gy) (ap right_of same)) [
      | inl on ↦ inl record { more = on.more; lines = ap (λ t. t ∷ ys) (sym equal) ∙ ap (λ t. x ∷ t) on.lines; left = on.left }
      | inr on ↦ inr record { more = on.more; lines = ap (λ t. t ∷ xs) equal ∙ ap (λ t. y ∷ t) on.lines; left = on.left }
    ]

good-there : {X : Type 0} (P : X → Type 0) (xs : List X) (y : X) (ys : List X) → All P (xs ++ (y ∷ ys)) → P y
good-there P [] y ys h = All-head P y ys h
good-there P (x ∷ xs) y ys h = good-there P xs y ys (All-tail P x (xs ++ (y ∷ ys)) h)

goes-on_by : {L E : Type 0} (format : Format L E) (Good : L → Type 0) → Laws format Good → (xs all : List L) (rest behind : List ℕ) → format.Fit all → (more : List L) → all ≡ xs ++ more →
    rest ≡ lines_text format.text more ++ behind → (all ≡ xs) ⊎ (format.fault xs (option_and_then format.read (first_line rest)) ≡ None)
goes-on_by format Good laws xs all rest behind fit [] e h = inl (e ∙ append-nil xs)
goes-on_by format Good laws xs all rest behind fit (y ∷ ys) e h =
    let sound : format.fault xs (Some y) ≡ None = laws.there xs y ys (subst format.Fit e fit) in
    let good : Good y = good-there Good xs y ys (subst (All Good) e (laws.all_good all fit)) in
    inr (ap (λ o. format.fault xs (option_and_then format.read o)) (ap first_line h ∙ first-line_cut (lines_text format.text (y ∷ ys) ++ behind) (format.text y) (lines_text format.text ys ++ behind) (line-cut format Good laws y ys behind good))
    ∙ ap (format.fault xs) (laws.written y good) ∙ sound)

-- where lines that may stand in one file go on, the next one has no fault
goes-on_sound : {L E : Type 0} (format : Format L E) (Good : L → Type 0) → Laws format Good → (xs all : List L) (rest behind : List ℕ) → format.Fit all → GoesOn format.text xs all rest behind →
    (all ≡ xs) ⊎ (format.fault xs (option_and_then format.read (first_line rest)) ≡ None)
goes-on_sound format Good laws xs all rest behind fit on = goes-on_by format Good laws xs all rest behind fit on.more on.lines on.left

-- the lines behind the first one
behind-header : {L E : Type 0} (format : Format L E) (bytes : List ℕ) (xs ys : List L) (r s : List ℕ) → bytes ≡ file_text format xs ++ r → bytes ≡ file_text format ys ++ s →
    lines_text format.text xs ++ r ≡ lines_text format.text ys ++ s
behind-header format bytes xs ys r s hx hy =
    let a : List ℕ = lines_text format.text xs ++ r in
    let b : List ℕ = lines_text format.text ys ++ s in
    let front : (t : List ℕ) → format.header ++ (10 ∷ t) ≡ (format.header ++ (10 ∷ [])) ++ t = λ t. sym (append_assoc format.header (10 ∷ []) t) in
    sym (drop-append_seam (format.header ++ (10 ∷ [])) a)
    ∙ ap (drop (length (format.header ++ (10 ∷ [])))) (sym (front a) ∙ sym (file-joined format xs r) ∙ sym hx ∙ hy ∙ file-joined format ys s ∙ front b)
    ∙ drop-append_seam (format.header ++ (10 ∷ [])) b

whole : {L E : Type 0} (format : Format L E) (bytes : List ℕ) (xs : List L) → IsFile format bytes xs → bytes ≡ file_text format xs ++ []
whole format bytes xs file = file.text ∙ sym (append-nil (file_text format xs))

-- A file has one list of lines.
pub lines-unique : {L E : Type 0} (format : Format L E) (Good : L → Type 0) → Laws format Good → (bytes : List ℕ) (xs ys : List L) → IsFile format bytes xs → IsFile format bytes ys → xs ≡ ys
lines-unique format Good laws bytes xs ys fx fy =
    elim (compare format Good laws xs ys [] [] (laws.all_good xs fx.fit) (laws.all_good ys fy.fit) (behind-header format bytes xs ys [] [] (whole format bytes xs fx) (whole format bytes ys fy))) [
      | inl on ↦ sym (on.lines ∙ ap (λ t. xs ++ t) (lines-nil format.text on.more (sym on.left)) ∙ append-nil xs)
      | inr on ↦ on.lines ∙ ap (λ t. ys ++ t) (lines-nil format.text on.more (sym on.left)) ∙ append-nil ys
    ]

no-failure : {L E : Type 0} (format : Format L E) (Good : L → Type 0) → Laws format Good → (bytes : List ℕ) (xs : List L) (error : E) → IsFile format bytes xs → FailsBehind format bytes error → ⊥
no-failure format Good laws bytes xs error file fails =
    elim (compare format Good laws xs fails.lines [] fails.rest (laws.all_good xs file.fit) (laws.all_good fails.lines fails.fit) (behind-header format bytes xs fails.lines [] fails.rest (whole format bytes xs file) fails.text)) [
      | inl on ↦ fails.more (rest-nil format.text on.more fails.rest (sym on.left))
      | inr on ↦ elim (goes-on_sound format Good laws fails.lines xs fails.rest [] file.fit on) [
        | inl same ↦ fails.more (on.left ∙ ap (λ t. lines_text format.text t ++ []) (more-nil fails.lines xs on.more on.lines same))
        | inr sound ↦ no-some (format.fault fails.lines (option_and_then format.read (first_line fails.rest))) error sound fails.fault
      ]
    ]

failure-by : {L E : Type 0} (format : Format L E) (Good : L → Type 0) → Laws format Good → (bytes : List ℕ) (d e : E) (a : FailsBehind format bytes d) (b : FailsBehind format bytes e) → GoesOn format.text a.lines b.lines a.rest b.rest → d ≡ e
failure-by format Good laws bytes d e a b on =
    elim (goes-on_sound format Good laws a.lines b.lines a.rest b.rest b.fit on) [
      | inl same ↦
          let rests : a.rest ≡ b.rest = on.left ∙ ap (λ t. lines_text format.text t ++ b.rest) (more-nil a.lines b.lines on.more on.lines same) in
          some_same (sym a.fault ∙ ap (λ t. format.fault a.lines (option_and_then format.read (first_line t))) rests ∙ ap (λ t. format.fault t (option_and_then format.read (first_line b.rest))) (sym same) ∙ b.fault)
      | inr sound ↦ no-some (format.fault a.lines (option_and_then format.read (first_line a.rest))) d sound a.fault
    ]

failure-unique : {L E : Type 0} (format : Format L E) (Good : L → Type 0) → Laws format Good → (bytes : List ℕ) (d e : E) → FailsBehind format bytes d → FailsBehind format bytes e → d ≡ e
failure-unique format Good laws bytes d e a b =
    elim (compare format Good laws a.lines b.lines a.rest b.rest (laws.all_good a.lines a.fit) (laws.all_good b.lines b.fit) (behind-header format bytes a.lines b.lines a.rest b.rest a.text b.text)) [
      | inl on ↦ failure-by format Good laws bytes d e a b on
      | inr on ↦ sym (failure-by format Good laws bytes e d b a on)
    ]

-- a file begins with the line that names its format
begins : {L E : Type 0} (format : Format L E) (Good : L → Type 0) → Laws format Good → (bytes : List ℕ) (xs : List L) (rest : List ℕ) → bytes ≡ file_text format xs ++ rest → begins_with_line format.header bytes ≡ true
begins format Good laws bytes xs rest h =
    let behind : List ℕ = lines_text format.text xs ++ rest in
    let cuts : cut is_line_end bytes ≡ Some (format.header, behind) = ap (cut is_line_end) (h ∙ file-joined format xs rest) ∙ cut-at_mark 10 format.header behind laws.header in
    ap (λ o. option_map_or (λ first. bytes_eq first format.header) o false) (first-line_cut bytes format.header behind cuts)
    ∙ (bytes_eq-Decides format.header format.header).1 refl

-- A file has no first fault.
pub no-fault : {L E : Type 0} (format : Format L E) (Good : L → Type 0) → Laws format Good → (bytes : List ℕ) (xs : List L) (error : E) → IsFile format bytes xs → HasFirstFault format bytes error → ⊥
no-fault format Good laws bytes xs error file (inl other) = clash (sym other.0 ∙ begins format Good laws bytes xs [] (whole format bytes xs file))
no-fault format Good laws bytes xs error file (inr fails) = no-failure format Good laws bytes xs error file fails

-- There is one first fault.
pub fault-unique : {L E : Type 0} (format : Format L E) (Good : L → Type 0) → Laws format Good → (bytes : List ℕ) (d e : E) → HasFirstFault format bytes d → HasFirstFault format bytes e → d ≡ e
fault-unique format Good laws bytes d e (inl a) (inl b) = a.1 ∙ sym b.1
fault-unique format Good laws bytes d e (inl a) (inr b) = clash (sym a.0 ∙ begins format Good laws bytes b.lines b.rest b.text)
fault-unique format Good laws bytes d e (inr a) (inl b) = clash (sym b.0 ∙ begins format Good laws bytes a.lines a.rest a.text)
fault-unique format Good laws bytes d e (inr a) (inr b) = failure-unique format Good laws bytes d e a b

-- The file is read up to a rest: it begins with the text of these lines, which may stand in a file.
pub record IsReadTo {L E : Type 0} (format : Format L E) (bytes : List ℕ) (lines : List L) (rest : List ℕ) : Type 0 where
  pub text : bytes ≡ file_text format lines ++ rest
  pub fit : format.Fit lines

pub read-start : {L E : Type 0} (format : Format L E) (Good : L → Type 0) → Laws format Good → (bytes rest : List ℕ) → cut is_line_end bytes ≡ Some (format.header, rest) → IsReadTo format bytes [] rest
read-start format Good laws bytes rest cuts = record {
  text = cut-parts 10 bytes format.header rest cuts ∙ sym (file-joined format [] rest);
  fit = laws.empty;
}

pub read-more : {L E : Type 0} (format : Format L E) (Good : L → Type 0) → Laws format Good → (bytes rest line behind : List ℕ) (xs : List L) (y : L) → IsReadTo format bytes xs rest →
    cut is_line_end rest ≡ Some (line, behind) → format.read line ≡ Some y → format.fault xs (Some y) ≡ None → IsReadTo format bytes (xs ++ (y ∷ [])) behind
read-more format Good laws bytes rest line behind xs y to cuts read sound = record {
  text =
      to.text
      ∙ ap (λ t. file_text format xs ++ t)
      (cut-parts 10 rest line behind cuts ∙ ap (λ t. t ++ (10 ∷ behind)) (laws.spelled line y read (laws.next_good xs y line read sound)) ∙ sym (line-joined format.text y [] behind))
      ∙ sym (file-append format xs (y ∷ []) behind);
  fit = laws.one_more xs y line to.fit read sound;
}

pub read-end : {L E : Type 0} (format : Format L E) (bytes rest : List ℕ) (xs : List L) → IsReadTo format bytes xs rest → rest ≡ [] → IsFile format bytes xs
read-end format bytes rest xs to none = record {
  text = to.text ∙ ap (λ t. file_text format xs ++ t) none ∙ append-nil (file_text format xs);
  fit = to.fit;
}

pub read-fault : {L E : Type 0} (format : Format L E) (bytes rest : List ℕ) (xs : List L) (error : E) → IsReadTo format bytes xs rest → rest ≢ [] →
    format.fault xs (option_and_then format.read (first_line rest)) ≡ Some error → HasFirstFault format bytes error
read-fault format bytes rest xs error to more fault = inr record { lines = xs; rest = rest; text = to.text; fit = to.fit; more = more; fault = fault }

pub some-by : (xs : List ℕ) → (length xs == 0) ≡ false → xs ≢ []
some-by xs h e = eqb-false (length xs) 0 h (ap length e)

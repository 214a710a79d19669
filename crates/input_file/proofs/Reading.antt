-- A file read line by line: what was read so far, and what comes of it.
use Rattle.std.proofs.Common.{◌≡◌, ◌≢◌, ℕ, ℤ, ◌+◌, ◌^◌, ◌<◌, ◌≤◌, false, cond, ◌⊎◌, List, [], ◌∷◌, ◌++◌, length, map, Option, None, Some, option_map, refl, ap, ◌∙◌, sym, subst, arith, inl, inr, length-append}
use Rattle.std.specs.List.{concat}
use Rattle.std.specs.Prelude.{◌==◌, codes, is_some, unwrap_or, option_and_then}
use Rattle.syn_event.specs.Numbering.{Numbering}
use Rattle.std.proofs.lemmas.List.{length-map}
use Rattle.std.proofs.lemmas.Bool.{le-leb, lt-leb}
use Rattle.seq_file.specs.text_lines.Lines.{is_line_end, first_line, cut}
use Rattle.seq_file.specs.text_lines.LineFiles.{Format, begins_with_line, HasFirstFault}
use Rattle.seq_file.proofs.text_lines.Filing.{IsReadTo, lines-unique, no-fault, fault-unique, read-start, read-more, read-end, read-fault}
use Rattle.seq_file.proofs.text_lines.Marking.{cut-parts, first-line_cut}
use Rattle.input_file.specs.declared.errors.InputError.{InputError}
use Rattle.input_file.specs.declared.errors.InputError.TheVariants.{BadLine, UnknownTask, TooMany, Memory}
use Rattle.input_file.specs.declared.table.Table.{Table}
use Rattle.input_file.specs.ChoiceFiles.{most_choices, choices_of_line, choice_count, choice_fault, choice_format, IsChoiceLine, ChoicesRead}
use Rattle.input_file.specs.InputFiles.{InputLine, IsInputLine, input_of_line, input_fault, input_format, AreListsOf, InputsRead}
use Rattle.input_file.specs.inner.NextLines.{IsNextChoices, IsNextInputs}
use Rattle.input_file.specs.inner.Tables.{IsTableOf, capped_line}
use Rattle.input_file.proofs.Choosing.{choice-laws, concat-push, concat-length}
use Rattle.input_file.proofs.Inputting.{input-laws}
use Rattle.input_file.proofs.Tabling.{lists-ext}
use Rattle.common_lemmas.proofs.Truth.{clash}

-- what stands behind a line is shorter
pub cut-shorter : (m : ℕ) (text a b : List ℕ) → cut (λ x. x == m) text ≡ Some (a, b) → length b < length text
cut-shorter m text a b h = omega (arith, ap length (cut-parts m text a b h), length-append a (m ∷ b))

pub other-header : {L E : Type 0} (format : Format L E) (bytes : List ℕ) → begins_with_line format.header bytes ≡ false → HasFirstFault format bytes format.unnamed
other-header format bytes h = inl (h, refl)

-- the choice file is read up to a rest, and the next line has this number
pub record ChoicesReadTo (bytes choices rest : List ℕ) (number : ℕ) : Type 0 where
  pub lines : List (List ℕ)
  pub read : IsReadTo choice_format bytes lines rest
  pub all : choices ≡ concat lines
  pub next : number ≡ length lines + 2
  pub room : number + length rest ≤ length bytes

pub choices-start : (bytes rest : List ℕ) → cut is_line_end bytes ≡ Some (codes "ded-choices 1", rest) → ChoicesReadTo bytes [] rest 2
choices-start bytes rest cuts =
    let long : length (codes "ded-choices 1") ≡ 13 = refl in
    record {
      lines = [];
      read = read-start choice_format IsChoiceLine choice-laws bytes rest cuts;
      all = refl;
      next = refl;
      room = omega (arith, long, ap length (cut-parts 10 bytes (codes "ded-choices 1") rest cuts), length-append (codes "ded-choices 1") (10 ∷ rest));
    }

pub choices-more : (bytes choices new rest behind : List ℕ) (number : ℕ) → ChoicesReadTo bytes choices rest number →
    ((lines : List (List ℕ)) → choices ≡ concat lines → number ≡ length lines + 2 → IsNextChoices lines rest new behind) → ChoicesReadTo bytes new behind (number + 1)
choices-more bytes choices new rest behind number to step =
    let next : IsNextChoices to.lines rest new behind = step to.lines to.all to.next in
    record {
      lines = to.lines ++ (next.added ∷ []);
      read = read-more choice_format IsChoiceLine choice-laws bytes rest next.line behind to.lines next.added to.read next.cuts next.writes next.sound;
      all = next.all;
      next = omega (arith, to.next, length-append to.lines (next.added ∷ []));
      room = omega (arith, to.room, cut-shorter 10 rest next.line behind next.cuts);
    }

pub choices-fault : (bytes choices rest : List ℕ) (number : ℕ) (error : InputError) → ChoicesReadTo bytes choices rest number → rest ≢ [] →
    ((lines : List (List ℕ)) → choices ≡ concat lines → number ≡ length lines + 2 → choice_fault lines (option_and_then choices_of_line (first_line rest)) ≡ Some error) →
    HasFirstFault choice_format bytes error
choices-fault bytes choices rest number error to more fault = read-fault choice_format bytes rest to.lines error to.read more (fault to.lines to.all to.next)

pub choices-end : (bytes choices rest : List ℕ) (number : ℕ) → ChoicesReadTo bytes choices rest number → rest ≡ [] → ChoicesRead bytes choices
choices-end bytes choices rest number to none = record { lines = to.lines; file = read-end choice_format bytes rest to.lines to.read none; all = to.all }

pub choices-unique : (bytes xs ys : List ℕ) → ChoicesRead bytes xs → ChoicesRead bytes ys → xs ≡ ys
choices-unique bytes xs ys x y =
    x.all ∙ ap concat (lines-unique choice_format IsChoiceLine choice-laws bytes x.lines y.lines x.file y.file) ∙ sym y.all

pub choices-no_fault : (bytes xs : List ℕ) (error : InputError) → ChoicesRead bytes xs → HasFirstFault choice_format bytes error → ⊥
choices-no_fault bytes xs error x fault = no-fault choice_format IsChoiceLine choice-laws bytes x.lines error x.file fault

pub choices-one_fault : (bytes : List ℕ) (d e : InputError) → HasFirstFault choice_format bytes d → HasFirstFault choice_format bytes e → d ≡ e
choices-one_fault bytes d e a b = fault-unique choice_format IsChoiceLine choice-laws bytes d e a b

-- the input file is read up to a rest, and the next line has this number
pub record InputsReadTo (numbers : Numbering) (bytes : List ℕ) (table : Table) (rest : List ℕ) (number : ℕ) : Type 0 where
  pub lines : List InputLine
  pub read : IsReadTo (input_format numbers) bytes lines rest
  pub all : IsTableOf (length numbers.tasks) lines table
  pub next : number ≡ length lines + 2
  pub room : number + length rest ≤ length bytes

pub inputs-start : (numbers : Numbering) → length numbers.tasks < 2 ^ 32 → (bytes rest : List ℕ) (table : Table) → cut is_line_end bytes ≡ Some (codes "ded-in 1", rest) → IsTableOf (length numbers.tasks) [] table →
    InputsReadTo numbers bytes table rest 2
inputs-start numbers short bytes rest table cuts are =
    let long : length (codes "ded-in 1") ≡ 8 = refl in
    record {
      lines = [];
      read = read-start (input_format numbers) (IsInputLine numbers) (input-laws numbers short) bytes rest cuts;
      all = are;
      next = refl;
      room = omega (arith, long, ap length (cut-parts 10 bytes (codes "ded-in 1") rest cuts), length-append (codes "ded-in 1") (10 ∷ rest));
    }

pub inputs-more : (numbers : Numbering) → length numbers.tasks < 2 ^ 32 → (bytes rest behind : List ℕ) (table new : Table) (number : ℕ) → InputsReadTo numbers bytes table rest number →
    ((lines : List InputLine) → IsTableOf (length numbers.tasks) lines table → number ≡ length lines + 2 → IsNextInputs numbers lines rest new behind) → InputsReadTo numbers bytes new behind (number + 1)
inputs-more numbers short bytes rest behind table new number to step =
    let next : IsNextInputs numbers to.lines rest new behind = step to.lines to.all to.next in
    record {
      lines = to.lines ++ (next.added ∷ []);
      read = read-more (input_format numbers) (IsInputLine numbers) (input-laws numbers short) bytes rest next.line behind to.lines next.added to.read next.cuts next.writes next.sound;
      all = next.all;
      next = omega (arith, to.next, length-append to.lines (next.added ∷ []));
      room = omega (arith, to.room, cut-shorter 10 rest next.line behind next.cuts);
    }

pub inputs-fault : (numbers : Numbering) (bytes rest : List ℕ) (table : Table) (number : ℕ) (error : InputError) → InputsReadTo numbers bytes table rest number → rest ≢ [] →
    ((lines : List InputLine) → IsTableOf (length numbers.tasks) lines table → number ≡ length lines + 2 → input_fault numbers lines (option_and_then input_of_line (first_line rest)) ≡ Some error) →
    HasFirstFault (input_format numbers) bytes error
inputs-fault numbers bytes rest table number error to more fault = read-fault (input_format numbers) bytes rest to.lines error to.read more (fault to.lines to.all to.next)

pub inputs-end : (numbers : Numbering) (bytes rest : List ℕ) (table : Table) (number : ℕ) → InputsReadTo numbers bytes table rest number → rest ≡ [] → InputsRead numbers bytes (map (λ v. v.items) table.lists.items)
inputs-end numbers bytes rest table number to none = record {
  lines = to.lines;
  file = read-end (input_format numbers) bytes rest to.lines to.read none;
  lists = to.all.lists;
}

pub inputs-unique : (numbers : Numbering) → length numbers.tasks < 2 ^ 32 → (bytes : List ℕ) (xs ys : List (List ℤ)) → InputsRead numbers bytes xs → InputsRead numbers bytes ys → xs ≡ ys
inputs-unique numbers short bytes xs ys x y =
    let same : x.lines ≡ y.lines = lines-unique (input_format numbers) (IsInputLine numbers) (input-laws numbers short) bytes x.lines y.lines x.file y.file in
    lists-ext (length numbers.tasks) y.lines xs ys (subst (λ lines. AreListsOf (length numbers.tasks) lines xs) same x.lists) y.lists

pub inputs-no_fault : (numbers : Numbering) → length numbers.tasks < 2 ^ 32 → (bytes : List ℕ) (xs : List (List ℤ)) (error : InputError) → InputsRead numbers bytes xs → HasFirstFault (input_format numbers) bytes error → ⊥
inputs-no_fault numbers short bytes xs error x fault = no-fault (input_format numbers) (IsInputLine numbers) (input-laws numbers short) bytes x.lines error x.file fault

pub inputs-one_fault : (numbers : Numbering) → length numbers.tasks < 2 ^ 32 → (bytes : List ℕ) (d e : InputError) → HasFirstFault (input_format numbers) bytes d → HasFirstFault (input_format numbers) bytes e → d ≡ e
inputs-one_fault numbers short bytes d e a b = fault-unique (input_format numbers) (IsInputLine numbers) (input-laws numbers short) bytes d e a b

-- the table has as many places for lists as for marks, and not more integers than a file may have
pub table-even : (numbers : Numbering) (bytes : List ℕ) (table : Table) (rest : List ℕ) (number : ℕ) → InputsReadTo numbers bytes table rest number → length table.lists.items ≡ length table.seen.items
table-even numbers bytes table rest number to = sym (length-map table.lists.items (λ v. v.items)) ∙ to.all.lists.count ∙ sym to.all.seen_count

-- want of memory is told from every fault
pub memory-cases : (e : InputError) → (e ≡ Memory) ⊎ (e ≢ Memory)
memory-cases (BadLine line) = inr (λ h. cc)
memory-cases (UnknownTask line) = inr (λ h. cc)
memory-cases (TooMany limit) = inr (λ h. cc)
memory-cases Memory = inl refl

-- a line of choices that goes past the limit, and one that does not
pub choices-many : (lines : List (List ℕ)) (rest line behind old new added : List ℕ) → cut is_line_end rest ≡ Some (line, behind) → choices_of_line line ≡ Some added → old ++ added ≡ new → old ≡ concat lines → most_choices < length new →
    choice_fault lines (option_and_then choices_of_line (first_line rest)) ≡ Some (TooMany most_choices)
choices-many lines rest line behind old new added cuts read joined all many =
    ap (λ o. choice_fault lines (option_and_then choices_of_line o)) (first-line_cut rest line behind cuts)
    ∙ ap (choice_fault lines) read
    ∙ ap (λ b. cond b None (Some (TooMany most_choices)))
    (lt-leb (choice_count lines + length added) most_choices (omega (arith, many, ap length joined, length-append old added, ap length all, concat-length lines)))

pub choices-next : (lines : List (List ℕ)) (rest line behind old new added : List ℕ) → cut is_line_end rest ≡ Some (line, behind) → choices_of_line line ≡ Some added → old ++ added ≡ new → old ≡ concat lines → length new ≤ most_choices →
    IsNextChoices lines rest new behind
choices-next lines rest line behind old new added cuts read joined all few = record {
  line = line;
  added = added;
  cuts = cuts;
  writes = read;
  sound = ap (λ b. cond b None (Some (TooMany most_choices)))
      (le-leb (choice_count lines + length added) most_choices (omega (arith, few, ap length joined, length-append old added, ap length all, concat-length lines)));
  all = sym joined ∙ ap (λ t. t ++ added) all ∙ sym (concat-push lines added);
}

-- a line of inputs as the code keeps it
pub line-case : (o : Option InputLine) (l : InputLine) → Some l ≡ option_map capped_line o → (added : InputLine) × (o ≡ Some added) × (l ≡ capped_line added)
line-case None l h = clash (sym (ap is_some h))
line-case (Some added) l h = (added, refl, ap (λ o. unwrap_or o l) h)

pub inputs-read : (numbers : Numbering) (lines : List InputLine) (rest line behind : List ℕ) (added : InputLine) → cut is_line_end rest ≡ Some (line, behind) → input_of_line line ≡ Some added →
    input_fault numbers lines (option_and_then input_of_line (first_line rest)) ≡ input_fault numbers lines (Some added)
inputs-read numbers lines rest line behind added cuts read =
    ap (λ o. input_fault numbers lines (option_and_then input_of_line o)) (first-line_cut rest line behind cuts) ∙ ap (input_fault numbers lines) read

-- The texts of entries, pragmas and tasks: the pragmas of a task are printed each behind as many entries as its place says (9.1, 9.5, 9.8).
use Rattle.std.proofs.Common.{◌≡◌, ℕ, zero, suc, ◌+◌, ◌≤◌, Bool, true, false, leb, List, [], ◌∷◌, ◌++◌, length, take, drop, map, codes, Option, None, Some, IfSome, refl, ap, ◌∙◌, subst, arith, inl, inr, append-nil, one-add}
use Rattle.std.proofs.lemmas.Bool.{cond-true, cond-false, cases_Bool, leb-true}
use Rattle.std.proofs.lemmas.Bool.Decides.{nat_tests}
use Rattle.std.proofs.lemmas.List.{take-append-drop}
use Rattle.std.proofs.lemmas.List.Elements.{recursion_from_All}
use Rattle.std.specs.List.{AllZip, AllByRecursion}
use Rattle.ada_tree.specs.declared.naming.Word.{Word}
use Rattle.ada_tree.specs.PlainExpr.{PExpr, PDrange}
use Rattle.ada_tree.specs.PlainDecl.{PPriority, PEntry, PTask}
use Rattle.ada_tree.specs.WellPlaced.{GoUp, well_placed}
use Rattle.ada_tree.specs.Every.{EveryExpr, EveryDrange, EveryEntry, EveryPriority, EveryTask}
use Rattle.ada_tree.specs.Same.{SameOption, SameExpr, SameDrange, SameEntry, SamePriority, SameTask}
use Rattle.ada_lexer.specs.declared.symbols.Symbol.TheVariants as key
use Rattle.ada_expr_parser.specs.declared.items.Item.{Item}
use Rattle.ada_phrase_parser.specs.Spelling.{Source, Spelling, ◌▷◌, IfThere, Key, ListOf}
use Rattle.ada_phrase_parser.specs.Phrases.{EndOf, Drange}
use Rattle.ada_task_parser.specs.Tasks.{IsPriority, IsEntry, Member, MEntry, MPriority, entries_in, priorities_in, IsMember, TaskWord, TaskRest, IsTask}
use Rattle.ded_io.specs.Written.{◌⧺◌}
use Rattle.ada_printer.specs.Layout.{deeper, indent, word_text}
use Rattle.ada_printer.specs.DeclText.{task_word, standing, pragma_text, priority_text, family_text, entry_text, priorities_text, items_text, task_rest, task_text}
use Rattle.read_back.proofs.Classes.{Class, Anything, Plain, Stop}
use Rattle.read_back.proofs.Told.{Setting, names_of, source_of, Told, Blank, Line, Sign, Own, Filled, told_as, told_same, told_nothing, told_then, told_at, told_text, told_indent, told_bits, told_last, told_closed, told_placed, filled_key, filled_then, filled_named}
use Rattle.read_back.proofs.NamesAndLiterals.{new_word, told_word}
use Rattle.read_back.proofs.Phrases.{group, Found, assoc_shut, nil_shut, is_expression, read_drange, read_formals}
use Rattle.read_back.proofs.Productions.{filled_behind}
use Rattle.read_back.proofs.Compounds.{read_end}
use Rattle.ded_io.proofs.Writes.{length-joined}

-- ---- lists

pub all_take : {A : Type 0} (P : A → Type 0) (k : ℕ) (xs : List A) → AllByRecursion P xs → AllByRecursion P (take k xs)
all_take P zero xs all = tt
all_take P (suc k) [] all = tt
all_take P (suc k) (x ∷ xs) all = (all.0, all_take P k xs all.1)

pub all_drop : {A : Type 0} (P : A → Type 0) (k : ℕ) (xs : List A) → AllByRecursion P xs → AllByRecursion P (drop k xs)
all_drop P zero xs all = all
all_drop P (suc k) [] all = tt
all_drop P (suc k) (x ∷ xs) all = all_drop P k xs all.1

pub empty_shut : (u : List ℕ) → u ≡ [] ⧺ u
unfolding ◌⧺◌
empty_shut u = refl

-- ---- places of pragmas

abbrev places : List PPriority → List ℕ
places ps = map (λ y. y.place) ps

abbrev IsHere : ℕ → PPriority → Type 0
IsHere before p = p.place ≡ before

-- the pragmas that are printed behind so many entries have that place, and the others a later one
split_places : (before total : ℕ) (ps : List PPriority) → GoUp before total (places ps) → AllByRecursion (IsHere before) (take (standing before ps) ps) × GoUp (before + 1) total (places (drop (standing before ps) ps))
split_places before total [] up = (tt, tt)
split_places before total (p ∷ ps) up = elim (cases_Bool (leb p.place before)) [
  | inl e ↦
      (let here : p.place ≡ before = omega (arith, leb-true _ _ e, up.0) in
      let more = split_places before total ps (subst (λ k. GoUp k total (places ps)) here up.2) in
      let count : standing before (p ∷ ps) ≡ suc (standing before ps) = cond-true (leb p.place before) _ _ e ∙ one-add _ in
      rw count ((here, more.0), more.1))
  | inr e ↦
      (let count : standing before (p ∷ ps) ≡ 0 = cond-false (leb p.place before) _ _ e in
      let later : before + 1 ≤ p.place = grind (arith, nat_tests) in
      rw count (tt, (later, up.1, up.2)))
]

all_here : (before : ℕ) (ps : List PPriority) → GoUp before before (places ps) → AllByRecursion (IsHere before) ps
all_here before [] up = tt
all_here before (p ∷ ps) up =
    let here : p.place ≡ before = omega (arith, up.0, up.1) in
    (here, all_here before ps (subst (λ k. GoUp k before (places ps)) here up.2))

-- what a task has behind `is`, also where it has no members
rest_is : (source : Source) (d : ℕ) (v : Word) (ms : List Member) (items : List Item) → (Key key.Is ▷ ListOf (IsMember source d) ms ▷ EndOf v) items → TaskRest source d v ms items
rest_is source d v [] items (one, more, is, said, (none, last, then, nothing, end)) =
    inr (one, last, is ∙ ap (λ l. one ++ l) (then ∙ ap (λ l. l ++ last) nothing), said, end)
rest_is source d v (x ∷ ms) items said = said

module _ (w : Setting) (n : List (List ℕ)) where
  abbrev m : List (List ℕ)
  m = names_of w

  abbrev src : Source
  src = source_of w

  -- `pragma PRIORITY(5);`
  pub read_pragma : (d : ℕ) (e : PExpr) (at : ℕ) → 300 ≤ 2 + d → EveryExpr (well_placed n) 2 e → Found w n (SameExpr n m e) Plain Anything (λ y. IsPriority src d y) at (pragma_text n e)
  read_pragma d e at deep good =
      let y = is_expression w n 2 d e (at + 16) deep good in
      (y.0, told_bits w (Sign key.Pragma ∷ Blank ∷ Own (codes "PRIORITY") ∷ Sign key.LeftParen ∷ []) (told_closed w (Sign key.RightParen ∷ Sign key.Semicolon ∷ Line ∷ []) y.1 refl refl) refl)

  read_family : (d : ℕ) (x : Option PDrange) (at : ℕ) → 300 ≤ 2 + d → IfSome x (EveryDrange (well_placed n) 2) → Found w n (SameOption (SameDrange n m) x) Stop Stop (λ y. IfThere y (λ r. Key key.LeftParen ▷ Drange d r ▷ Key key.RightParen)) at (family_text n x)
  read_family d None at deep good = (None, told_nothing w)
  read_family d (Some x) at deep good =
      let y = read_drange w n 2 d x (at + 1) deep good in
      (Some y.0, told_bits w (Sign key.LeftParen ∷ []) (told_closed w (Sign key.RightParen ∷ []) y.1 refl refl) refl)

  read_entry : (d level : ℕ) (x : PEntry) (at : ℕ) → 300 ≤ 2 + d → EveryEntry (well_placed n) x → Found w n (SameEntry n m x) Anything Anything (λ y. IsEntry d y) at (entry_text n level x)
  read_entry d level x at deep good =
      let start = (at + length (indent level)) + 6 in
      let family = read_family d x.family (start + length (word_text n x.name)) deep good.2 in
      let formals = read_formals w n x.formals ((start + length (word_text n x.name)) + length (family_text n x.family)) good.3 in
      let told = told_bits w (Sign key.Entry ∷ Blank ∷ []) (told_then w (told_word w n x.name good.1) (told_then w family.1 (told_closed w (Sign key.Semicolon ∷ Line ∷ []) formals.1 refl refl) refl) refl) refl in
      let p = told_placed w (filled_then filled_key) (told_indent w level told) in
      (record { name = new_word w n start x.name; family = family.0; formals = formals.0; span = p.0 }, told_same w p.1 (λ same. (same.0, same.1.0, same.1.1)))

  -- the members that are printed so
  abbrev Members : ℕ → ℕ → List PEntry → List PPriority → List Member → Type 0
  Members before d es ps ms = AllZip (SameEntry n m) es (entries_in ms) × AllZip (SamePriority n m) ps (priorities_in before ms)

  -- pragmas before what follows
  read_priorities : (d level before : ℕ) (ps qs : List PPriority) (es : List PEntry) (u : List ℕ) (ms : List Member) (at : ℕ) → 300 ≤ 2 + d → AllByRecursion (EveryPriority (well_placed n)) ps → AllByRecursion (IsHere before) ps →
      Told w (Members before d es qs ms) Anything Anything (ListOf (IsMember src d) ms) (at + length (priorities_text n level ps)) u →
      (more : List Member) × Told w (Members before d es (ps ++ qs) more) Anything Anything (ListOf (IsMember src d) more) at (priorities_text n level ps ⧺ u)
  read_priorities d level before [] qs es u ms at deep good here rest = (ms, told_text w _ _ (empty_shut u) (told_at w _ _ (omega arith) rest))
  read_priorities d level before (p ∷ ps) qs es u ms at deep good here rest =
      let first : List ℕ = priority_text n level p in
      let place : at + length (first ⧺ priorities_text n level ps) ≡ (at + length first) + length (priorities_text n level ps) = omega (arith, length-joined first (priorities_text n level ps)) in
      let later = read_priorities d level before ps qs es u ms (at + length first) deep good.1 here.1 (told_at w _ _ place rest) in
      let one = read_pragma d p.value (at + length (indent level)) deep good.0.1 in (
        MPriority one.0 ∷ later.0,
        told_text w _ _ (assoc_shut first (priorities_text n level ps) u)
            (told_same w (told_then w (told_indent w level one.1) later.1 refl) (λ same. (same.1.0, ((here.0, same.0), same.1.1)))),
      )

  -- entries and pragmas of a task, when so many entries stand before
  read_items : (d level before total : ℕ) (es : List PEntry) (ps : List PPriority) (at : ℕ) → 300 ≤ 2 + d → AllByRecursion (EveryEntry (well_placed n)) es → AllByRecursion (EveryPriority (well_placed n)) ps → GoUp before total (places ps) → before + length es ≡ total →
      (ms : List Member) × Told w (Members before d es ps ms) Anything Anything (ListOf (IsMember src d) ms) at (items_text n level before es ps)
  read_items d level before total [] ps at deep fine good up count =
      let here = all_here before ps (subst (λ k. GoUp before k (places ps)) (omega (arith, count)) up) in
      let told = read_priorities d level before ps [] [] [] [] at deep good here (told_same w (told_nothing w {a = Anything}) (λ s. (tt, tt))) in
      (told.0, told_text w _ _ (nil_shut (priorities_text n level ps)) (told_same w told.1 (λ same. (same.0, subst (λ l. AllZip (SamePriority n m) l (priorities_in before told.0)) (append-nil ps) same.1))))
  read_items d level before total (x ∷ es) ps at deep fine good up count =
      let k : ℕ = standing before ps in
      let split = split_places before total ps up in
      let front : List ℕ = priorities_text n level (take k ps) in
      let one = read_entry d level x (at + length front) deep fine.0 in
      let rest = read_items d level (before + 1) total es (drop k ps) ((at + length front) + length (entry_text n level x)) deep fine.1 (all_drop _ k ps good) split.1 (omega (arith, count)) in
      let behind : Told w (Members before d (x ∷ es) (drop k ps) (MEntry one.0 ∷ rest.0)) Anything Anything (ListOf (IsMember src d) (MEntry one.0 ∷ rest.0)) (at + length front) (entry_text n level x ⧺ items_text n level (before + 1) es (drop k ps)) =
      told_same w (told_then w one.1 rest.1 refl) (λ same. ((same.0, same.1.0), same.1.1)) in
      let told = read_priorities d level before (take k ps) (drop k ps) (x ∷ es) _ (MEntry one.0 ∷ rest.0) at deep (all_take _ k ps good) split.0 behind in
      (told.0, told_same w told.1 (λ same. (same.0, subst (λ l. AllZip (SamePriority n m) l (priorities_in before told.0)) (take-append-drop k ps) same.1)))

  task_starts : {S : Type 0} {Q : Spelling} {a : Class} {at : ℕ} {u : List ℕ} (b : Bool) → Told w S Plain a Q (at + length (task_word b)) u → Told w S Plain a (TaskWord b ▷ Q) at (task_word b ⧺ u)
  task_starts true h = told_as w (told_bits w (Sign key.Task ∷ Blank ∷ Sign key.Type ∷ Blank ∷ []) h refl) (λ items said same. (group said, same))
  task_starts false h = told_bits w (Sign key.Task ∷ Blank ∷ []) h refl

  -- a task behind its name
  read_rest : (d level : ℕ) (x : PTask) (from : ℕ) (es : List PEntry) (ps : List PPriority) (at : ℕ) → 300 ≤ 2 + d → EveryTask (well_placed n) x → AllByRecursion (EveryEntry (well_placed n)) es → AllByRecursion (EveryPriority (well_placed n)) ps → GoUp 0 (length es) (places ps) →
      (ms : List Member) × Told w (Members 0 d es ps ms) Stop Anything (TaskRest src d (new_word w n from x.name) ms) at (task_rest n level x es ps)
  read_rest d level x from [] [] at deep good fine all up =
      ([], told_as w (told_last w (Sign key.Semicolon ∷ Line ∷ []) refl) (λ items said same. (inl said, (tt, tt))))
  read_rest d level x from (e ∷ es) ps at deep good fine all up =
      let inside = read_items d (deeper level) 0 (length (e ∷ es)) (e ∷ es) ps (at + 4) deep fine all up (omega arith) in
      (inside.0, told_as w (told_bits w (Blank ∷ Sign key.Is ∷ Line ∷ []) (told_then w inside.1 (told_indent w level (read_end w n x.name _ from good.0)) refl) refl) (λ items said same. (rest_is src d (new_word w n from x.name) inside.0 items said, same.0)))
  read_rest d level x from [] (p ∷ ps) at deep good fine all up =
      let inside = read_items d (deeper level) 0 0 [] (p ∷ ps) (at + 4) deep fine all up (omega arith) in
      (inside.0, told_as w (told_bits w (Blank ∷ Sign key.Is ∷ Line ∷ []) (told_then w inside.1 (told_indent w level (read_end w n x.name _ from good.0)) refl) refl) (λ items said same. (rest_is src d (new_word w n from x.name) inside.0 items said, same.0)))

  pub filled_task : (d : ℕ) (t : PTask) → Filled (IsTask src d t)
  filled_task d t (ms, are, said) = filled_behind (filled_then filled_named) said

  pub read_task : (d level : ℕ) (x : PTask) (at : ℕ) → 300 ≤ 2 + d → EveryTask (well_placed n) x → Found w n (SameTask n m x) Plain Anything (λ y. IsTask src d y) at (task_text n level x)
  read_task d level x at deep good =
      let start = at + length (task_word x.of_kind) in
      let rest = read_rest d level x start x.entries x.priorities (start + length (word_text n x.name)) deep good (recursion_from_All _ x.entries good.1) (recursion_from_All _ x.priorities good.2) good.3 in (
        record { name = new_word w n start x.name; of_kind = x.of_kind; entries = entries_in rest.0; priorities = priorities_in 0 rest.0 },
        told_as w (task_starts x.of_kind (told_then w (told_word w n x.name good.0) rest.1 refl)) (λ items said same. ((rest.0, record { entries = refl; priorities = refl }, said), (same.0, refl, same.1.0, same.1.1))),
      )

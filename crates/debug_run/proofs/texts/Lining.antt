-- A text that is written part by part, and lists of lines among such texts.
use Rattle.std.proofs.Common.{◌≡◌, ℕ, suc, pos, ◌+◌, ◌<◌, List, [], ◌++◌, length, drop, get_or, ap, sym, ◌∙◌, refl, add-one, append_assoc, append-nil, false, ◌≤◌, Option, None, Result, Ok, Err, subst}
use Rattle.ded_io.specs.Written.{appended, Wrote, ◌⧺◌}
use Rattle.std.proofs.Math.Seq.{drop-cons}
use Rattle.std.proofs.lemmas.List.{drop_all}
use Rattle.ded_io.proofs.Writes.{appended-appended, appended-nil, joined}
use Rattle.syn_event.specs.declared.numbering.EntryInfo.{EntryInfo}
use Rattle.syn_event.specs.declared.numbering.TaskInfo.{TaskInfo}
use Rattle.ded_io.specs.pages.Pages.{Drawing, Drew}
use Rattle.ded_io.proofs.pages.Drawn.{drew_none, drew_then}
use Rattle.debug_run.specs.texts.RunText.{lines_at}

-- a front of the whole text is written, and this rest is left
pub record HasLines (old now : Option (List ℕ)) (all rest : List ℕ) : Type 0 where
  pub front : List ℕ
  pub parts : all ≡ front ++ rest
  pub written : now ≡ appended old front

-- nothing is written yet
pub lines_none : (old : Option (List ℕ)) (all : List ℕ) → HasLines old old all all
lines_none old all = record { front = []; parts = refl; written = sym (appended-nil old) }

-- the lines of the members from one on are its line and the rest
lines_next : {A : Type 0} (line : ℕ → A → List ℕ) (xs : List A) (i : ℕ) (d : A) → i < length xs →
    lines_at line i (drop i xs) ≡ line i (get_or xs i d) ++ lines_at line (i + 1) (drop (i + 1) xs)
lines_next line xs i d within =
    ap (λ ys. lines_at line i ys) (drop-cons xs i d within)
    ∙ joined (line i (get_or xs i d)) (lines_at line (i + 1) (drop (suc i) xs))
    ∙ ap (λ k. line i (get_or xs i d) ++ lines_at line (i + 1) (drop k xs)) (sym (add-one i))

-- one more part of what was left
pub part_more : (E B : Type 0) (x : B) (old now new : Option (List ℕ)) (all rest here more : List ℕ) → rest ≡ here ++ more →
    HasLines old now all rest → Wrote {E = E} (Ok x) now new here → HasLines old new all more
unfolding Wrote
part_more E B x old now new all rest here more parts has done = record {
  front = has.front ++ here;
  parts = has.parts ∙ ap (λ r. has.front ++ r) parts ∙ sym (append_assoc has.front here more);
  written = done ∙ ap (λ o. appended o here) has.written ∙ appended-appended old has.front here;
}

-- a part could not be written whole
pub part_stop : {E : Type 0} (B : Type 0) (e : E) (old now new : Option (List ℕ)) (all rest here more : List ℕ) → rest ≡ here ++ more →
    HasLines old now all rest → Wrote {A = B} (Err e) now new here → Wrote {A = B} (Err e) old new all
unfolding Wrote
part_stop B e old now new all rest here more parts has (front, behind, is_front, is_new) = (
  has.front ++ front,
  behind ++ more,
  has.parts ∙ ap (λ r. has.front ++ r) (parts ∙ ap (λ l. l ++ more) is_front ∙ append_assoc front behind more)
      ∙ sym (append_assoc has.front front (behind ++ more)),
  is_new ∙ ap (λ o. appended o front) has.written ∙ appended-appended old has.front front,
)

-- the last part: what comes of it comes of the whole text
pub part_last : {A E : Type 0} (r : Result A E) (old now new : Option (List ℕ)) (all rest : List ℕ) → HasLines old now all rest → Wrote r now new rest → Wrote r old new all
unfolding Wrote
part_last (Ok x) old now new all rest has done =
    done ∙ ap (λ o. appended o rest) has.written ∙ appended-appended old has.front rest ∙ ap (λ t. appended old t) (sym has.parts)
part_last (Err e) old now new all rest has (front, behind, is_front, is_new) = (
  has.front ++ front,
  behind,
  has.parts ∙ ap (λ r. has.front ++ r) is_front ∙ sym (append_assoc has.front front behind),
  is_new ∙ ap (λ o. appended o front) has.written ∙ appended-appended old has.front front,
)

-- one more line
pub lines_more : {A : Type 0} (E B : Type 0) (x : B) (line : ℕ → A → List ℕ) (xs : List A) (i : ℕ) (d : A) (old now new : Option (List ℕ)) (all : List ℕ) → i < length xs →
    HasLines old now all (lines_at line i (drop i xs)) → Wrote {E = E} (Ok x) now new (line i (get_or xs i d)) → HasLines old new all (lines_at line (i + 1) (drop (i + 1) xs))
lines_more E B x line xs i d old now new all within has done =
    part_more E B x old now new all _ (line i (get_or xs i d)) (lines_at line (i + 1) (drop (i + 1) xs)) (lines_next line xs i d within) has done

-- a line could not be written whole
pub lines_stop : {A E : Type 0} (B : Type 0) (e : E) (line : ℕ → A → List ℕ) (xs : List A) (i : ℕ) (d : A) (old now new : Option (List ℕ)) (all : List ℕ) → i < length xs →
    HasLines old now all (lines_at line i (drop i xs)) → Wrote {A = B} (Err e) now new (line i (get_or xs i d)) → Wrote {A = B} (Err e) old new all
lines_stop B e line xs i d old now new all within has failed =
    part_stop B e old now new all _ (line i (get_or xs i d)) (lines_at line (i + 1) (drop (i + 1) xs)) (lines_next line xs i d within) has failed

-- all lines are written
pub lines_all : (E B : Type 0) (x : B) (old now : Option (List ℕ)) (all rest : List ℕ) → HasLines old now all rest → rest ≡ [] → Wrote {E = E} (Ok x) old now all
unfolding Wrote
lines_all E B x old now all rest has none =
    has.written ∙ ap (λ t. appended old t) (sym (has.parts ∙ ap (λ r. has.front ++ r) none ∙ append-nil has.front))

-- behind the last member no line is left
pub lines_beyond : {A : Type 0} (line : ℕ → A → List ℕ) (xs : List A) (i : ℕ) → length xs ≤ i → lines_at line i (drop i xs) ≡ []
lines_beyond line xs i past = ap (λ ys. lines_at line i ys) (drop_all i xs past)

-- ---- the same on a page

-- a front of the whole text is put on a page, and this rest is left
pub record Drawn (old now : Drawing) (all rest : List ℕ) : Type 0 where
  pub front : List ℕ
  pub parts : all ≡ front ++ rest
  pub drew : Drew old now front

pub drawn_none : (old : Drawing) (all : List ℕ) → Drawn old old all all
drawn_none old all = record { front = []; parts = refl; drew = drew_none old }

-- one more part of what was left
pub drawn_more : (old now new : Drawing) (all rest here more : List ℕ) → rest ≡ here ++ more → Drawn old now all rest → Drew now new here → Drawn old new all more
drawn_more old now new all rest here more parts has drew = record {
  front = has.front ⧺ here;
  parts = has.parts ∙ ap (λ r. has.front ++ r) parts ∙ sym (append_assoc has.front here more) ∙ ap (λ t. t ++ more) (sym (joined has.front here));
  drew = drew_then old now new has.front here has.drew drew;
}

-- the last part
pub drawn_last : (old now new : Drawing) (all rest here : List ℕ) → rest ≡ here → Drawn old now all rest → Drew now new here → Drew old new all
drawn_last old now new all rest here parts has drew =
    subst (λ t. Drew old new t) (joined has.front here ∙ ap (λ r. has.front ++ r) (sym parts) ∙ sym has.parts) (drew_then old now new has.front here has.drew drew)

-- the task and the entry that stand for none
abbrev pub no_info : TaskInfo
no_info = record { name = record { 0 = 0 }; added = false; unit = record { 0 = 0 }; member = None }

abbrev pub no_entry : EntryInfo
no_entry = record { name = record { 0 = 0 }; owner = 0; family = false; first = pos 0; last = pos 0; added = false; stands_for = None }

-- The laws that look-ups by name find the entries that a replay text adds to the tasks of a program (this project's rule).
use Rattle.std.specs.Prelude.{◌≡◌, ℕ, suc, ◌<◌, ◌==◌, Bool, true, false, List, Some}
use Rattle.std.specs.List.{AllByRecursion}
use Rattle.ada_tree.specs.declared.naming.NameId.{NameId}
use Rattle.ada_tree.specs.PlainProgram.{PProgram}
use Rattle.syn_event.specs.declared.numbering.EntryInfo.{EntryInfo}
use Rattle.syn_event.specs.Numbering.{entry_named}
use Rattle.task_model.specs.Setting.{Setting}
use Rattle.normal_laws.specs.runs.forms.Choosing.{choosing}
use Rattle.normal_laws.specs.runs.forms.Normalisable.{made_for}
use Rattle.normal_laws.specs.existence.Laws.{IsLegalOriginal}
use Rattle.run_laws.specs.replaying.Copies.{Spots}
use Rattle.replay_model.specs.Names.{never_text, join_text, added_id}
use Rattle.replay_model.specs.ReplayTree.{last_task}
use Rattle.replay_model.specs.ReplayNumbers.{own_entries, numbers_replayed}
use Rattle.replay_structure.specs.typed.ScopeOf.{double_id}
use Rattle.replay_structure.specs.checkable.Prepared.{form_for}
use Rattle.replay_structure.specs.scopes.Names.{old_name}
use Rattle.replay_structure.specs.scopes.More.{AreEntriesNew}
use Rattle.replay_structure.specs.spots.Places.{text_spots}
use Rattle.replay_structure.specs.spots.Laws.{IsInOrder}

-- ---- names

-- Of the entries of one task the names are old; those of their doubles are new, are not DED_NEVER and DED_JOIN, and differ where the entries' own do.
pub record AreDoublesApart (q : PProgram) (old : ℕ → Bool) (xs : List EntryInfo) : Type 0 where
  pub named : AllByRecursion (λ (x : EntryInfo). old x.name.0 ≡ true) xs
  pub added : AllByRecursion (λ (x : EntryInfo). old (double_id q x.name).0 ≡ false) xs
  pub never : AllByRecursion (λ (x : EntryInfo). ((double_id q x.name).0 == (added_id q never_text).0) ≡ false) xs
  pub join : AllByRecursion (λ (x : EntryInfo). ((double_id q x.name).0 == (added_id q join_text).0) ≡ false) xs
  pub apart : AllByRecursion (λ (x : EntryInfo). AllByRecursion (λ (y : EntryInfo). (double_id q x.name).0 ≡ (double_id q y.name).0 → x.name.0 ≡ y.name.0) xs) xs

-- What is asked of names: it is so in each task beside main, and DED_NEVER and DED_JOIN are new and differ. Which names are old is a test on their ids.
pub record HasNamesApart (g : Setting) (old : ℕ → Bool) : Type 0 where
  pub tasks : (t : ℕ) → t < last_task g.numbers → AreDoublesApart g.program old (own_entries g.numbers (suc t))
  pub new : AreEntriesNew g.program old

-- ---- look-ups

-- Where a look-up by a task and a name finds an entry in the numbers of the program, one by the name of its double finds the double in those of the
-- replay text.
abbrev pub FindsDoubles : Spots → Setting → Type 0
FindsDoubles far g =
    (t : ℕ) (name : NameId) (e : ℕ) → entry_named g.numbers t name ≡ Some e → entry_named (numbers_replayed g) t (double_id g.program name) ≡ Some ((text_spots far g).shadow e)

-- A look-up finds of each task beside main the entry that nobody calls and the one by which the task is seen closed.
pub record FindsMore (far : Spots) (g : Setting) : Type 0 where
  pub never : (t : ℕ) → t < last_task g.numbers → entry_named (numbers_replayed g) (suc t) (added_id g.program never_text) ≡ Some ((text_spots far g).never (suc t))
  pub join : (t : ℕ) → t < last_task g.numbers → entry_named (numbers_replayed g) (suc t) (added_id g.program join_text) ≡ Some ((text_spots far g).join (suc t))

-- Doubles are found by their names.
abbrev pub DoublesAreFound : Type 0
DoublesAreFound = (far : Spots) (g : Setting) (old : ℕ → Bool) → IsInOrder g.numbers → HasNamesApart g old → FindsDoubles far g

-- So are the two more entries of each task.
abbrev pub MoreAreFound : Type 0
MoreAreFound = (far : Spots) (g : Setting) (old : ℕ → Bool) → HasNamesApart g old → FindsMore far g

-- ---- legal programs

-- In the normal form of each legal program names are so.
abbrev pub LegalHasNamesApart : Type 0
LegalHasNamesApart = (p : PProgram) → IsLegalOriginal p → HasNamesApart (form_for p) (old_name (made_for p))

-- So the doubles are found in the replay text of each legal program,
abbrev pub LegalDoublesAreFound : Type 0
LegalDoublesAreFound = (far : Spots) (p : PProgram) → IsLegalOriginal p → FindsDoubles far (form_for p)

-- and the two more entries of each task.
abbrev pub LegalMoreAreFound : Type 0
LegalMoreAreFound = (far : Spots) (p : PProgram) → IsLegalOriginal p → FindsMore far (form_for p)

-- A program with an array of tasks is such a one.
abbrev pub IsMet : Type 0
IsMet = IsLegalOriginal choosing

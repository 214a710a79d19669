-- The laws of the numbers of a replay text's entries.
use Rattle.std.specs.Prelude.{◌≡◌, ℕ, suc, ◌+◌, ◌<◌, ◌==◌, ◌&&◌, nat_eq, Bool, true, false, List, length, position, Some}
use Rattle.std.specs.List.{AllByRecursion, list_any}
use Rattle.std.specs.Str.{bytes_eq}
use Rattle.std.specs.Cmp.Lexicographic.{pointwise}
use Rattle.ada_tree.specs.declared.naming.NameId.{NameId}
use Rattle.ada_tree.specs.PlainProgram.{PProgram}
use Rattle.ada_static_rules.specs.Refusals.{types_in}
use Rattle.syn_event.specs.declared.numbering.EntryInfo.{EntryInfo}
use Rattle.syn_event.specs.Numbering.{Numbering, entry_at, entry_named, owner_of}
use Rattle.syn_event.specs.AllNumbers.{all_numbers}
use Rattle.syn_event.specs.DeclaredTasks.{text_of}
use Rattle.task_model.specs.Setting.{Setting}
use Rattle.run_laws.specs.replaying.Copies.{Spots, IsNumbered, HasOwners}
use Rattle.replay_model.specs.Names.{go_text, done_text, hold_text, stop_text, rest_text, never_text, join_text, double_text, replay_names, added_id}
use Rattle.replay_model.specs.ReplayTree.{last_task, normal_setting}
use Rattle.replay_model.specs.ReplayNumbers.{plain_info, family_info, double_info, numbers_replayed}
use Rattle.normal_laws.specs.structure.types.Laws.{IsOrdered}
use Rattle.replay_structure.specs.spots.Places.{entries_from, spots_by, text_spots}

-- The entries of a program are numbered task by task, and none is one of main.
pub record IsInOrder (numbers : Numbering) : Type 0 where
  pub order : entries_from numbers (last_task numbers) 1 ≡ numbers.entries

-- No two entries of a replay text have one number, where no two of `far` have.
abbrev pub SpotsAreNumbered : Type 0
SpotsAreNumbered = (far : Spots) → IsNumbered far → (ks : List ℕ) → IsNumbered (spots_by far ks)

-- Each entry is owned as the law of replaying asks, by the numbers of the replay text.
abbrev pub SpotsHaveOwners : Type 0
SpotsHaveOwners =
    (far : Spots) (g : Setting) → IsInOrder g.numbers →
    HasOwners (owner_of g.numbers) (suc (last_task g.numbers)) (text_spots far g) (owner_of (numbers_replayed g))

-- what is known of two entries but for what they stand for
pub record Same (x y : EntryInfo) : Type 0 where
  pub name : x.name ≡ y.name
  pub owner : x.owner ≡ y.owner
  pub family : x.family ≡ y.family
  pub first : x.first ≡ y.first
  pub last : x.last ≡ y.last
  pub added : x.added ≡ y.added

-- the entry of that number is this one
pub record IsThere (numbers : Numbering) (e : ℕ) (x : EntryInfo) : Type 0 where
  pub found : EntryInfo
  pub at : entry_at numbers e ≡ Some found
  pub same : Same found x

-- At its number stands each entry of the program, its double, the two more of each task, and those of the controller and the idle task.
pub record AreThere (far : Spots) (g : Setting) : Type 0 where
  pub original : (e : ℕ) (x : EntryInfo) → entry_at g.numbers e ≡ Some x → IsThere (numbers_replayed g) ((text_spots far g).original e) x
  pub shadow : (e : ℕ) (x : EntryInfo) → entry_at g.numbers e ≡ Some x → IsThere (numbers_replayed g) ((text_spots far g).shadow e) (double_info g.program x)
  pub never : (t : ℕ) → t < last_task g.numbers → IsThere (numbers_replayed g) ((text_spots far g).never (suc t)) (plain_info g.program (suc t) never_text)
  pub join : (t : ℕ) → t < last_task g.numbers → IsThere (numbers_replayed g) ((text_spots far g).join (suc t)) (plain_info g.program (suc t) join_text)
  pub go : IsThere (numbers_replayed g) (text_spots far g).go (family_info g.program (last_task g.numbers + 1) go_text (last_task g.numbers))
  pub done : IsThere (numbers_replayed g) (text_spots far g).done (family_info g.program (last_task g.numbers + 1) done_text (last_task g.numbers))
  pub hold : IsThere (numbers_replayed g) (text_spots far g).hold (plain_info g.program (last_task g.numbers + 1) hold_text)
  pub stop : IsThere (numbers_replayed g) (text_spots far g).stop (plain_info g.program (last_task g.numbers + 2) stop_text)
  pub rest : IsThere (numbers_replayed g) (text_spots far g).rest (plain_info g.program (last_task g.numbers + 2) rest_text)

abbrev pub SpotsAreThere : Type 0
SpotsAreThere = (far : Spots) (g : Setting) → IsInOrder g.numbers → AreThere far g

-- The entries of a normal form are in this order, where it is made from the program's own types and numbers.
abbrev pub NormalIsInOrder : Type 0
NormalIsInOrder = (p : PProgram) → IsOrdered p → IsInOrder (normal_setting p (types_in p) (all_numbers (types_in p) p)).numbers

-- ---- look-ups

-- A look-up by a task and a name finds, in the numbers of the replay text, the entry that it finds in the program's.
abbrev pub EntriesAreFound : Type 0
EntriesAreFound =
    (far : Spots) (g : Setting) → IsInOrder g.numbers → (t : ℕ) (name : NameId) (e : ℕ) → entry_named g.numbers t name ≡ Some e →
    entry_named (numbers_replayed g) t name ≡ Some ((text_spots far g).original e)

-- The entries of the controller and of the idle task are found by their names.
pub record AreFound (far : Spots) (g : Setting) : Type 0 where
  pub go : entry_named (numbers_replayed g) (last_task g.numbers + 1) (added_id g.program go_text) ≡ Some (text_spots far g).go
  pub done : entry_named (numbers_replayed g) (last_task g.numbers + 1) (added_id g.program done_text) ≡ Some (text_spots far g).done
  pub hold : entry_named (numbers_replayed g) (last_task g.numbers + 1) (added_id g.program hold_text) ≡ Some (text_spots far g).hold
  pub stop : entry_named (numbers_replayed g) (last_task g.numbers + 2) (added_id g.program stop_text) ≡ Some (text_spots far g).stop
  pub rest : entry_named (numbers_replayed g) (last_task g.numbers + 2) (added_id g.program rest_text) ≡ Some (text_spots far g).rest

abbrev pub AddedAreFound : Type 0
AddedAreFound = (far : Spots) (g : Setting) → AreFound far g

-- ---- what doubles stand for

-- The entries of a program: none is added, each has a name, whose double the replay text has.
pub record AreOriginal (g : Setting) : Type 0 where
  pub original : AllByRecursion (λ (x : EntryInfo). x.added ≡ false) g.numbers.entries
  pub within : AllByRecursion (λ (x : EntryInfo). x.name.0 < length g.program.names) g.numbers.entries
  pub doubles : AllByRecursion (λ (x : EntryInfo). list_any (bytes_eq (double_text (text_of g.program.names x.name))) (replay_names g.program) ≡ true) g.numbers.entries

-- an entry of that task and text
abbrev pub is_named_so : Setting → EntryInfo → EntryInfo → Bool
is_named_so g x y = (y.owner == x.owner) && pointwise nat_eq (text_of g.program.names x.name) (text_of g.program.names y.name)

-- The double of an entry stands for it by its number, where it is the first of its task and text.
abbrev pub DoublesStand : Type 0
DoublesStand =
    (far : Spots) (g : Setting) → IsInOrder g.numbers → AreOriginal g → (i : ℕ) (x : EntryInfo) → entry_at g.numbers (suc i) ≡ Some x → position (is_named_so g x) g.numbers.entries ≡ Some i →
    (found : EntryInfo) × (entry_at (numbers_replayed g) ((text_spots far g).shadow (suc i)) ≡ Some found) × (found.stands_for ≡ Some (suc i))

-- Entries of a program in order are as these laws ask: those far away have numbers of their own, and the first entry is the first of its task and text.
pub record AreAsked (far : Spots) (g : Setting) (x : EntryInfo) : Type 0 where
  pub numbered : IsNumbered far
  pub order : IsInOrder g.numbers
  pub original : AreOriginal g
  pub there : entry_at g.numbers 1 ≡ Some x
  pub first : position (is_named_so g x) g.numbers.entries ≡ Some 0

-- The normal form of a program with two entries is so.
abbrev pub IsMet : Type 0
IsMet = (far : Spots) × (p : PProgram) × (x : EntryInfo) × AreAsked far (normal_setting p (types_in p) (all_numbers (types_in p) p)) x × (length (all_numbers (types_in p) p).entries ≡ 2)

-- What is asked of the numbers of a replay text, so that an event stands for the same by them and by the law of replaying.
use Rattle.std.specs.Prelude.{◌≡◌, ℕ, suc, ◌<◌, ◌&&◌, nat_lt, true, false, if◌then◌else◌, ◌⊎◌, Option, Some, None}
use Rattle.event_machine.specs.declared.Event.{Event}
use Rattle.event_machine.specs.declared.Event.TheVariants.{R, E, S, D, C, T, F, X, B, Z}
use Rattle.syn_event.specs.declared.numbering.EntryInfo.{EntryInfo}
use Rattle.syn_event.specs.Numbering.{entry_at, is_added_task}
use Rattle.syn_event.specs.Origin.{original_entry}
use Rattle.task_model.specs.Setting.{Setting}
use Rattle.replay_model.specs.ReplayTree.{last_task}
use Rattle.replay_model.specs.ReplayNumbers.{numbers_replayed}
use Rattle.run_laws.specs.replaying.Copies.{Spots}
use Rattle.run_laws.specs.replaying.Laws.{stands_for, at_entry}
use Rattle.replay_structure.specs.spots.Places.{text_spots}

-- the event of the original that an event stands for, by the sorts of entries and the number of the original's tasks; it is `back` of the law of replaying
abbrev pub meant : Spots → ℕ → Event → Option Event
meant n size (R c e i) = at_entry (λ f. R c f i) (stands_for (n.sort e))
meant n size (E a) = if nat_lt a size then Some (E a) else None
meant n size (S a) = if nat_lt a size then Some (S a) else None
meant n size (D a k) = if nat_lt a size then Some (D a k) else None
meant n size (C c e i) = at_entry (λ f. C c f i) (stands_for (n.sort e))
meant n size (T c e i) = at_entry (λ f. T c f i) (stands_for (n.sort e))
meant n size (F c e i) = at_entry (λ f. F c f i) (stands_for (n.sort e))
meant n size (X a) = if nat_lt a size then Some (X a) else None
meant n size (B t v) = if nat_lt t size && nat_lt v size then Some (B t v) else None
meant n size Z = Some Z

-- the number is that of an entry of the text, or 0, which none has
abbrev pub IsEntry : Setting → ℕ → Type 0
IsEntry g e = (e ≡ 0) ⊎ ((info : EntryInfo) × (entry_at (numbers_replayed g) e ≡ Some info))

-- the tasks and the entry of the event are of the text
abbrev pub IsPlaced : Setting → Event → Type 0
IsPlaced g (R c e i) = IsEntry g e
IsPlaced g (E a) = a < suc (suc (suc (last_task g.numbers)))
IsPlaced g (S a) = a < suc (suc (suc (last_task g.numbers)))
IsPlaced g (D a k) = a < suc (suc (suc (last_task g.numbers)))
IsPlaced g (C c e i) = IsEntry g e
IsPlaced g (T c e i) = IsEntry g e
IsPlaced g (F c e i) = IsEntry g e
IsPlaced g (X a) = a < suc (suc (suc (last_task g.numbers)))
IsPlaced g (B t v) = (t < suc (suc (suc (last_task g.numbers)))) × (v < suc (suc (suc (last_task g.numbers))))
IsPlaced g Z = Unit {0}

-- An entry of the program stands for itself, and so does its double; the two more of each task stand for none. Entries are owned by tasks of the
-- program. Of the tasks the controller and the idle task alone are added.
pub record HasOrigins (far : Spots) (g : Setting) : Type 0 where
  pub original : (i : ℕ) (x : EntryInfo) → entry_at g.numbers (suc i) ≡ Some x → original_entry (numbers_replayed g) ((text_spots far g).original (suc i)) ≡ Some (suc i)
  pub shadow : (i : ℕ) (x : EntryInfo) → entry_at g.numbers (suc i) ≡ Some x → original_entry (numbers_replayed g) ((text_spots far g).shadow (suc i)) ≡ Some (suc i)
  pub never : (t : ℕ) → t < last_task g.numbers → original_entry (numbers_replayed g) ((text_spots far g).never (suc t)) ≡ None
  pub join : (t : ℕ) → t < last_task g.numbers → original_entry (numbers_replayed g) ((text_spots far g).join (suc t)) ≡ None
  pub owned : (e : ℕ) (x : EntryInfo) → entry_at g.numbers e ≡ Some x → x.owner < suc (last_task g.numbers)
  pub tasks : (t : ℕ) → t < suc (last_task g.numbers) → is_added_task (numbers_replayed g) t ≡ false
  pub control : is_added_task (numbers_replayed g) (suc (last_task g.numbers)) ≡ true
  pub idle : is_added_task (numbers_replayed g) (suc (suc (last_task g.numbers))) ≡ true

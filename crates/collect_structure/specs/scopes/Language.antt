-- What a place of a collecting text can use of the language, and of what the text adds (this project's rule).
use Rattle.std.specs.Prelude.{◌≡◌, ℕ, ◌<◌, pos, [], ◌∷◌, Some}
use Rattle.ada_tree.specs.declared.static_types.Kind.TheVariants.{Array}
use Rattle.ada_tree.specs.declared.static_types.Mark.{Mark}
use Rattle.ada_tree.specs.PlainProgram.{PProgram}
use Rattle.ada_static_rules.specs.Scope.{Scope, single, EntryPart, TypeMark, SingleTask, integer_kind, meaning, mark_at, kind_at}
use Rattle.ada_static_rules.specs.Declaring.{before_all, predefined_types}
use Rattle.task_laws.specs.legal.rewritten_types.Agreement.{Grows}
use Rattle.collect_model.specs.Names.{flags_text, recorder_text, note_text}
use Rattle.collect_structure.specs.Names.{added_id}
use Rattle.collect_structure.specs.typed.Told.{note_parts}

-- Each predefined name means what it does before all declarations, and the kinds and marks that are there stand at their places.
pub record KnowsLanguage (d : Scope) : Type 0 where
  pub grows : Grows predefined_types d.types
  pub means : (k : ℕ) → k < 18 → meaning d (record { 0 = k }) ≡ meaning before_all (record { 0 = k })

-- the recorder's entry
abbrev pub note_entry : PProgram → EntryPart
note_entry q = record { name = added_id q note_text; family = single; formals = note_parts q }

-- DED_FLAGS is an array type, from 0 to the number of the last task, with components of BOOLEAN, whose mark is the fourth
pub record SeesFlags (q : PProgram) (last : ℕ) (d : Scope) : Type 0 where
  pub place : ℕ
  pub mark : Mark
  pub means : meaning d (added_id q flags_text) ≡ Some (TypeMark place)
  pub there : mark_at d.types place ≡ Some mark
  pub kind : kind_at d.types mark.kind ≡ Some (Array integer_kind (pos 0) (pos last) 3)

-- What the recorder's body can use: the language, the recorder and DED_FLAGS.
pub record SeesAdded (q : PProgram) (last : ℕ) (d : Scope) : Type 0 where
  pub language : KnowsLanguage d
  pub recorder : meaning d (added_id q recorder_text) ≡ Some (SingleTask (note_entry q ∷ []))
  pub flags : SeesFlags q last d

-- The names of a normal form that stay what they are in its collecting text (this project's rule).
use Rattle.std.specs.Prelude.{◌≡◌, ℕ, ◌≤◌, Bool, true, false, not, ◌&&◌, nat_lt, List, [], ◌∷◌, IsSomeAnd, length, slice_get}
use Rattle.std.specs.List.{list_any}
use Rattle.std.specs.Str.{bytes_eq}
use Rattle.ada_tree.specs.declared.naming.NameId.{NameId}
use Rattle.ada_tree.specs.Every.{Rules, no_rules}
use Rattle.ada_tree.specs.PlainProgram.{PProgram}
use Rattle.syn_event.specs.DeclaredTasks.{text_of}
use Rattle.normal_model.specs.Names.{id_of}
use Rattle.collect_model.specs.Names.{int_io_text, flags_text, caller_text, answer_text, part_text, recorder_text, kind_text, subject_text, argument_text, index_text, owner_text, reply_text, gone_text, met_text, collect_names}

-- the id that a text has in the collecting text
abbrev pub added_id : PProgram → List ℕ → NameId
added_id q t = id_of (collect_names q) t

-- The texts to which a collecting text gives a meaning. The recorder's entry stands apart (9.5).
abbrev pub new_texts : List (List ℕ)
new_texts =
    int_io_text ∷ flags_text ∷ caller_text ∷ answer_text ∷ part_text ∷ recorder_text ∷ kind_text ∷ subject_text ∷ argument_text ∷ index_text ∷ owner_text
    ∷ reply_text ∷ gone_text ∷ met_text ∷ []

-- The id of a name of a normal form that is none of these.
abbrev pub kept_name : PProgram → ℕ → Bool
kept_name q n = nat_lt n (length q.names) && not (list_any (bytes_eq (text_of q.names record { 0 = n })) new_texts)

-- a text that these names have under the id, and that is none of them
abbrev pub IsOwn : List (List ℕ) → ℕ → Type 0
IsOwn names x = IsSomeAnd (slice_get names x) (λ t. list_any (bytes_eq t) new_texts ≡ false)

-- each name is a kept one, and no part stands deeper than 100
abbrev pub kept_names : PProgram → Rules
kept_names q = record no_rules { name = λ id. kept_name q id.0 ≡ true; nested = λ k. k ≤ 100 }

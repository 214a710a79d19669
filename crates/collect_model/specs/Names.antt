-- The names that a collecting text has beside those of the normal form (this project's rule). No declared name of an original begins with DED_, so those that do mean nothing else; NOTE is the name of an entry, which stands apart (9.5). Each goes behind the names that are there, where it is not among them.
use Rattle.std.specs.Prelude.{ℕ, List, [], ◌∷◌, codes}
use Rattle.std.specs.List.{fold}
use Rattle.ada_tree.specs.NameList.{interned}
use Rattle.ada_tree.specs.PlainProgram.{PProgram}
use Rattle.normal_model.specs.Names.{id_of}
use Rattle.collect_model.specs.declared.AddedNames.{AddedNames}

-- ---- texts

-- the instance of INTEGER_IO, by which the recorder writes numbers, and the type of an array with one flag a task
abbrev pub int_io_text : List ℕ
int_io_text = codes "DED_INT_IO"

abbrev pub flags_text : List ℕ
flags_text = codes "DED_FLAGS"

-- the formal by which an acceptor knows its caller
abbrev pub caller_text : List ℕ
caller_text = codes "DED_C"

-- the variables of a unit: what the recorder answers, and which part of a conditional or timed call came
abbrev pub answer_text : List ℕ
answer_text = codes "DED_G"

abbrev pub part_text : List ℕ
part_text = codes "DED_W"

-- the recorder and its entry
abbrev pub recorder_text : List ℕ
recorder_text = codes "DED_RECORD"

abbrev pub note_text : List ℕ
note_text = codes "NOTE"

-- the formals of that entry: the kind of a note, the task that it is about, an entry or a delay alternative, the member of a family, the owner of the entry, and the answer
abbrev pub kind_text : List ℕ
kind_text = codes "DED_NK"

abbrev pub subject_text : List ℕ
subject_text = codes "DED_NS"

abbrev pub argument_text : List ℕ
argument_text = codes "DED_NA"

abbrev pub index_text : List ℕ
index_text = codes "DED_NI"

abbrev pub owner_text : List ℕ
owner_text = codes "DED_NO"

abbrev pub reply_text : List ℕ
reply_text = codes "DED_NG"

-- the recorder's flags: the tasks that are at their end, and those whose call has been accepted since they last were before one
abbrev pub gone_text : List ℕ
gone_text = codes "DED_GONE"

abbrev pub met_text : List ℕ
met_text = codes "DED_MET"

-- ---- the names of the result

abbrev pub added_texts : List (List ℕ)
added_texts =
    int_io_text ∷ flags_text ∷ caller_text ∷ answer_text ∷ part_text ∷ recorder_text ∷ note_text ∷ kind_text ∷ subject_text ∷ argument_text ∷ index_text
    ∷ owner_text ∷ reply_text ∷ gone_text ∷ met_text ∷ []

-- names, and those above; proofs see into this where they ask to
unfoldable pub with_added : List (List ℕ) → List (List ℕ)
with_added names = fold interned names added_texts

-- The names of the collecting text of a normal form: its own, and those above.
abbrev pub collect_names : PProgram → List (List ℕ)
collect_names q = with_added q.names

-- The ids that the added names have among names.
abbrev pub added_in : List (List ℕ) → AddedNames
added_in names = record {
  int_io = id_of names int_io_text;
  flags = id_of names flags_text;
  caller = id_of names caller_text;
  answer = id_of names answer_text;
  part = id_of names part_text;
  recorder = id_of names recorder_text;
  note = id_of names note_text;
  kind = id_of names kind_text;
  subject = id_of names subject_text;
  argument = id_of names argument_text;
  index = id_of names index_text;
  owner = id_of names owner_text;
  reply = id_of names reply_text;
  gone = id_of names gone_text;
  met = id_of names met_text;
}

-- The names that every collecting text adds have the same ids in the text of a program with abort statements, so a unit is told the same names; and two texts that are there have two ids.
use Rattle.std.proofs.Common.{Bool, List, None, Option, Some, [], ap, append_assoc, append-nil, eqb-true, false, if◌then◌else◌, length, position, refl, subst, sym, true, unwrap_or, ℕ, ◌++◌, ◌==◌, ◌∙◌, ◌∷◌, ◌≡◌}
use Rattle.std.specs.Str.{bytes_eq}
use Rattle.common_lemmas.proofs.Lists.{texts_differ}
use Rattle.ada_tree.specs.PlainProgram.{PProgram}
use Rattle.ada_tree.specs.declared.naming.NameId.{NameId}
use Rattle.ada_static_rules.proofs.found_twice.FirstOfTwo.{position_push}
use Rattle.ada_static_rules.specs.StaticValue.{first_of_two}
use Rattle.syn_event.specs.DeclaredTasks.{text_of}
use Rattle.task_model.specs.Setting.{Setting}
use Rattle.normal_model.proofs.VariablesLemmas.{Begins}
use Rattle.normal_model.specs.Names.{id_of}
use Rattle.normal_laws.proofs.structure.numbers.Named.{Has, text-there}
use Rattle.normal_laws.proofs.structure.types.Names.{text-place}
use Rattle.replay_model.specs.Asking.{member_number}
use Rattle.collect_model.specs.Names.{added_in, added_texts, answer_text, argument_text, caller_text, collect_names, flags_text, gone_text, index_text, int_io_text, kind_text, met_text, note_text, owner_text, part_text, recorder_text, reply_text, subject_text}
use Rattle.collect_model.specs.Teller.{Teller}
use Rattle.collect_model.specs.declared.AddedNames.{AddedNames}
use Rattle.collect_structure.proofs.texts.Rooted.{collect-has}
use Rattle.collect_structure.specs.Names as collect
use Rattle.collect_model.specs.aborts.AbortTeller.{names_told, told_in}
use Rattle.collect_structure.proofs.aborts.texts.Named.{collect-begins-told}
use Rattle.collect_structure.specs.aborts.Names.{added_id}

-- ---- ids

position-longer : {A : Type 0} (p : A → Bool) (xs ys : List A) (i : ℕ) → position p xs ≡ Some i → position p (xs ++ ys) ≡ Some i
position-longer p xs [] i h = subst (λ l. position p l ≡ Some i) (sym (append-nil xs)) h
position-longer p xs (y ∷ ys) i h =
    let one : position p (xs ++ y ∷ []) ≡ Some i = position_push p xs y ∙ ap (λ o. first_of_two o (if p y then Some (length xs) else None)) h in
    subst (λ l. position p l ≡ Some i) (append_assoc xs (y ∷ []) ys) (position-longer p (xs ++ y ∷ []) ys i one)

abbrev as_id : Option ℕ → NameId
as_id o = record { 0 = unwrap_or o 0 }

-- a text that is there keeps its id where names come behind
pub id-longer : (names more : List (List ℕ)) (t : List ℕ) → Begins names more → Has names t → id_of more t ≡ id_of names t
id-longer names more t b h =
    let place = text-place names t h in
    ap (λ l. as_id (position (bytes_eq t) l)) b.joined ∙ ap as_id (position-longer (bytes_eq t) names b.more place.at place.position_is ∙ sym place.position_is)

-- two texts that are there have two ids
pub two-apart : (q : PProgram) (a b : List ℕ) → Has (names_told q) a → Has (names_told q) b → bytes_eq a b ≡ false → ((added_id q a).0 == (added_id q b).0) ≡ false
two-apart q a b h k n = by_test ((added_id q a).0 == (added_id q b).0) refl
  where
    by_test : (c : Bool) → ((added_id q a).0 == (added_id q b).0) ≡ c → c ≡ false
    by_test false e = refl
    by_test true e =
        let same : (added_id q a).0 ≡ (added_id q b).0 = eqb-true (added_id q a).0 (added_id q b).0 e in
        absurd (texts_differ a b n (sym (text-there (names_told q) a h) ∙ ap (λ m. text_of (names_told q) record { 0 = m }) same ∙ text-there (names_told q) b k))

-- ---- what a unit is told

pub same-added : (q : PProgram) (t : List ℕ) → Has added_texts t → added_id q t ≡ collect.added_id q t
same-added q t h = id-longer (collect_names q) (names_told q) t (collect-begins-told q) (collect-has q t h)

pub told-added : (q : PProgram) → added_in (names_told q) ≡ added_in (collect_names q)
told-added q = λ i. record {
  int_io = same-added q int_io_text refl i;
  flags = same-added q flags_text refl i;
  caller = same-added q caller_text refl i;
  answer = same-added q answer_text refl i;
  part = same-added q part_text refl i;
  recorder = same-added q recorder_text refl i;
  note = same-added q note_text refl i;
  kind = same-added q kind_text refl i;
  subject = same-added q subject_text refl i;
  argument = same-added q argument_text refl i;
  index = same-added q index_text refl i;
  owner = same-added q owner_text refl i;
  reply = same-added q reply_text refl i;
  gone = same-added q gone_text refl i;
  met = same-added q met_text refl i;
}

-- the unit of a task is told what it is told without aborts
pub told-teller : (g : Setting) (task : ℕ) →
    (told_in (record { setting = g; task = task })).teller ≡ record { added = added_in (collect_names g.program); member = λ e s i. member_number g s e i; numbers = g.numbers; task = task }
told-teller g task = ap with_names (told-added g.program)
  where
    with_names : AddedNames → Teller
    with_names n = record { added = n; member = λ e s i. member_number g s e i; numbers = g.numbers; task = task }

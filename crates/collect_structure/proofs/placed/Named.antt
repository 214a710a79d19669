-- The names of a collecting text are such as the source can hold.
use Rattle.std.proofs.Common.{ℕ, ◌<◌, List, [], ◌∷◌, Option, Some, None, IfSome, refl, arith}
use Rattle.std.specs.List.{AllByRecursion}
use Rattle.ada_tree.specs.declared.naming.NameId.{NameId}
use Rattle.ada_tree.specs.declared.static_types.Mark.{Mark}
use Rattle.ada_tree.specs.Lexical.{IsIdentifier}
use Rattle.task_model.specs.Setting.{Setting}
use Rattle.normal_model.specs.Names.{id_of}
use Rattle.normal_model.specs.Ranges.{kind_name}
use Rattle.normal_laws.specs.structure.placed.Placeable.{IsName}
use Rattle.normal_laws.proofs.structure.placed.Names.{begins-name, searched}
use Rattle.replay_structure.specs.placed.Placeable.{IsReplayPlaceable}
use Rattle.collect_model.specs.declared.AddedNames.{AddedNames}
use Rattle.collect_model.specs.Names.{int_io_text, flags_text, caller_text, answer_text, part_text, recorder_text, note_text, kind_text, subject_text, argument_text, index_text, owner_text, reply_text, gone_text, met_text, collect_names, added_in}
use Rattle.collect_structure.proofs.texts.Rooted.{collect-begins}
use Rattle.normal_model.proofs.VariablesLemmas.{Begins}
use Rattle.replay_structure.proofs.placed.Named.{mark-named}

-- What is known of the names of a collecting text.
pub record AreAdded (g : Setting) (names : List (List ℕ)) (n : AddedNames) : Type 0 where
  pub first : (k : ℕ) → k < 25 → IsName names (record { 0 = k })
  pub int_io : IsName names n.int_io
  pub flags : IsName names n.flags
  pub caller : IsName names n.caller
  pub answer : IsName names n.answer
  pub part : IsName names n.part
  pub recorder : IsName names n.recorder
  pub note : IsName names n.note
  pub kind : IsName names n.kind
  pub subject : IsName names n.subject
  pub argument : IsName names n.argument
  pub index : IsName names n.index
  pub owner : IsName names n.owner
  pub reply : IsName names n.reply
  pub gone : IsName names n.gone
  pub met : IsName names n.met
  pub kinds : (k : ℕ) → IsName names (kind_name g.types k)

-- Where the names of the normal form stand in front of these.
module _ (g : Setting) (h : IsReplayPlaceable g) (longer : List (List ℕ)) (begins : Begins g.program.names longer) where
  abbrev names : List (List ℕ)
  names = g.program.names

  -- the names of the normal form stay
  pub name-stays : (id : NameId) → IsName names id → IsName longer id
  name-stays id i = begins-name names longer begins id i

  first : (k : ℕ) → k < 25 → IsName longer (record { 0 = k })
  first k l = name-stays (record { 0 = k }) (h.first k l)

  pub name-there : (t : List ℕ) → IsIdentifier t → IsName longer (id_of longer t)
  name-there t i = searched longer t (first 0 (omega arith)) i

  pub all-added : AreAdded g longer (added_in longer)
  all-added = record {
    first = first;
    int_io = name-there int_io_text (refl, omega arith, refl);
    flags = name-there flags_text (refl, omega arith, refl);
    caller = name-there caller_text (refl, omega arith, refl);
    answer = name-there answer_text (refl, omega arith, refl);
    part = name-there part_text (refl, omega arith, refl);
    recorder = name-there recorder_text (refl, omega arith, refl);
    note = name-there note_text (refl, omega arith, refl);
    kind = name-there kind_text (refl, omega arith, refl);
    subject = name-there subject_text (refl, omega arith, refl);
    argument = name-there argument_text (refl, omega arith, refl);
    index = name-there index_text (refl, omega arith, refl);
    owner = name-there owner_text (refl, omega arith, refl);
    reply = name-there reply_text (refl, omega arith, refl);
    gone = name-there gone_text (refl, omega arith, refl);
    met = name-there met_text (refl, omega arith, refl);
    kinds = λ k. mark-named longer k g.types.marks (first 0 (omega arith)) (marks g.types.marks h.marks);
  }
    where
      named : (o : Option NameId) → IfSome o (IsName names) → IfSome o (IsName longer)
      named None i = tt
      named (Some id) i = name-stays id i

      marks : (ms : List Mark) → AllByRecursion (λ m. IfSome m.name (IsName names)) ms → AllByRecursion (λ m. IfSome m.name (IsName longer)) ms
      marks [] i = tt
      marks (m ∷ ms) i = (named m.name i.0, marks ms i.1)

module _ (g : Setting) (h : IsReplayPlaceable g) where
  abbrev pub names' : List (List ℕ)
  names' = collect_names g.program

  -- the names of the normal form stay
  pub old : (id : NameId) → IsName g.program.names id → IsName names' id
  old = name-stays g h names' (collect-begins g.program)

  pub are-added : AreAdded g names' (added_in names')
  are-added = all-added g h names' (collect-begins g.program)

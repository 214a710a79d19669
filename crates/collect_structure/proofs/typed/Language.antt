-- Where a scope knows the language, what a collecting text adds meets the static rules 1 and 3 to 12: what each unit declares more, what main does, the
-- recorder, and its body.
use Rattle.std.proofs.Common.{Bool, List, None, Some, [], ap, false, if◌then◌else◌, length, option_map, pos, refl, subst, sym, take, true, ℕ, ◌∙◌, ◌∷◌, ◌≡◌}
use Rattle.std.specs.List.{AllByRecursion}
use Rattle.common_lemmas.proofs.Lists.{last_at}
use Rattle.common_lemmas.proofs.Numbers.{equal_self}
use Rattle.ada_tree.specs.NameList.{predefined}
use Rattle.ada_tree.specs.PlainDecl.{DIntIo, PDecl, decls_of}
use Rattle.ada_tree.specs.PlainProgram.{PProgram}
use Rattle.ada_tree.specs.declared.naming.Span.{Span}
use Rattle.ada_tree.specs.declared.static_types.Mark.{Mark}
use Rattle.ada_static_rules.specs.Declaring.{after_decl, after_decls, first_mark, with_types}
use Rattle.ada_static_rules.specs.RuleDuplicate.{is_predefined}
use Rattle.ada_static_rules.specs.Scope.{Scope, SingleTask, TypeMark, meaning}
use Rattle.ada_static_rules.specs.Sites.{decl_sites}
use Rattle.task_laws.proofs.legal.types.MainScopes.{grows-decls}
use Rattle.normal_model.specs.Ranges.{word_at}
use Rattle.normal_laws.proofs.structure.numbers.Named.{Has}
use Rattle.normal_laws.proofs.structure.typed.Variables.{AllMetBut}
use Rattle.replay_structure.specs.scopes.Form.{AllAlong}
use Rattle.collect_model.specs.CollectTree.{answer_declared, flags_type, main_declared, part_declared, unit_declared}
use Rattle.collect_model.specs.Names.{added_in, added_texts, answer_text, collect_names, flags_text, int_io_text, note_text, part_text, recorder_text}
use Rattle.collect_model.specs.Recording.{recorder_body, recorder_declared}
use Rattle.collect_model.specs.declared.AddedNames.{AddedNames}
use Rattle.collect_structure.proofs.declares_once.Ids.{new-not-predefined, texts-apart}
use Rattle.collect_structure.proofs.scopes.Language.{IsApart, decls-means, language-decl, predefined-known}
use Rattle.collect_structure.proofs.typed.Added.{answer-is-met, flags-are-met, flags-behind, grown_types, int-io-met, name-means, part-is-met, recorder-is-met, row, row_mark}
use Rattle.collect_structure.proofs.typed.Recorder.{recorder-body-met}
use Rattle.collect_structure.specs.Names.{added_id, new_texts}
use Rattle.collect_structure.specs.scopes.Language.{KnowsLanguage, SeesAdded, SeesFlags, note_entry}
use Rattle.collect_structure.specs.scopes.Text.{UnitIsMet}
use Rattle.collect_structure.specs.typed.Recording.{IsRecording}
use Rattle.collect_structure.specs.typed.Told.{IsRecorder}

-- nothing is refused at what a unit declares more
pub unit-is-met : (n : AddedNames) → UnitIsMet n
unit-is-met n d s k = (answer-is-met n d (predefined-known d k) s, part-is-met n d (predefined-known d k) s)

-- the type of flags is still seen behind declarations of other names
pub flags-on : (q : PProgram) (last : ℕ) (xs : List PDecl) (d : Scope) → AllByRecursion (IsApart (added_id q flags_text)) xs → SeesFlags q last d → SeesFlags q last (after_decls d (decls_of xs))
flags-on q last xs d a f = record {
  place = f.place;
  mark = f.mark;
  means = decls-means (added_id q flags_text) xs d a ∙ f.means;
  there = (grows-decls (decls_of xs) d).mark f.place f.mark f.there;
  kind = (grows-decls (decls_of xs) d).kind f.mark.kind _ f.kind;
}

-- the recorder is seen where its name means a task with its entry
pub recorder-of : (q : PProgram) (d : Scope) → meaning d (added_id q recorder_text) ≡ Some (SingleTask (note_entry q ∷ [])) → IsRecorder q d
recorder-of q d e = record {
  entries = note_entry q ∷ [];
  means = e;
  note = record { its = note_entry q; is = ap (λ b. if b then Some (note_entry q) else None) (equal_self (added_id q note_text).0); members_are = refl; formals_are = refl };
}

module _ (q : PProgram) (begins : take (length predefined) q.names ≡ predefined) (s : Span) (last : ℕ) where
  abbrev n : AddedNames
  n = added_in (collect_names q)

  new-name : (t : List ℕ) → Has added_texts t → Has new_texts t → is_predefined (added_id q t).0 ≡ false
  new-name t h i = new-not-predefined q begins t h i

  -- ---- the type of flags, and what a unit declares more

  module _ (d : Scope) (language : KnowsLanguage d) where
    abbrev first : Scope
    first = after_decl d (flags_type n s last)

    in-first : KnowsLanguage first
    in-first = language-decl (flags_type n s last) d (new-name flags_text refl refl, tt) language

    abbrev second : Scope
    second = after_decl first (answer_declared n s)

    in-second : KnowsLanguage second
    in-second = language-decl (answer_declared n s) first (new-name answer_text refl refl, tt) in-first

    flags-first : SeesFlags q last first
    flags-first = subst (λ (x : Scope). SeesFlags q last x) (sym (flags-behind n d (predefined-known d language) s last)) record {
      place = length d.types.marks;
      mark = row_mark n d (predefined-known d language) s last;
      means = name-means (with_types (grown_types n d (predefined-known d language) s last) d) (TypeMark (length d.types.marks)) (word_at s n.flags);
      there = last_at d.types.marks (row_mark n d (predefined-known d language) s last);
      kind = last_at d.types.kinds (row n d (predefined-known d language) s last);
    }

    flags-behind-unit : SeesFlags q last (after_decl second (part_declared n s))
    flags-behind-unit =
        flags-on q last (unit_declared n s) first ((texts-apart q answer_text flags_text refl refl refl refl, tt), ((texts-apart q part_text flags_text refl refl refl refl, tt), tt)) flags-first

    unit-along : AllAlong d (flags_type n s last ∷ unit_declared n s)
    unit-along = (flags-are-met n d (predefined-known d language) s last, ((unit-is-met n first s in-first).0, ((unit-is-met n second s in-second).1, tt)))

  -- ---- with an instance of INTEGER_IO or without

  module _ (d : Scope) (language : KnowsLanguage d) where
    abbrev instance : PDecl
    instance = DIntIo (word_at s n.int_io) s

    in-instance : KnowsLanguage (after_decl d instance)
    in-instance = language-decl instance d (new-name int_io_text refl refl, tt) language

    -- nothing is refused at what main declares more
    pub more-along : (b : Bool) → AllAlong d (main_declared n s b last)
    more-along true = unit-along d language
    more-along false = (int-io-met d (word_at s n.int_io) s, unit-along (after_decl d instance) in-instance)

    pub more-flags : (b : Bool) → SeesFlags q last (after_decls d (decls_of (main_declared n s b last)))
    more-flags true = flags-behind-unit d language
    more-flags false = flags-behind-unit (after_decl d instance) in-instance

    -- the recorder's declaration
    pub recorder-declared-met : AllMetBut (decl_sites d (recorder_declared n s))
    recorder-declared-met = recorder-is-met n d (predefined-known d language) s

  -- ---- the recorder's body

  module _ (d : Scope) (h : SeesAdded q last d) where
    recording : IsRecording q d
    recording = record {
      predefined = predefined-known d h.language;
      flags = record {
        place = h.flags.place;
        mark = h.flags.mark;
        part = 3;
        first = pos 0;
        last = pos last;
        means = h.flags.means;
        there = h.flags.there;
        array = h.flags.kind;
        parts = ap (option_map (λ (m : Mark). record { kind = m.kind; first = m.first; last = m.last })) (h.language.grows.mark 3 (first_mark 3 1 (pos 0) (pos 1)) refl);
      };
      recorder = recorder-of q d h.recorder;
    }

    pub recorder-body-there : (header : List ℕ) → AllMetBut (decl_sites d (recorder_body n s header))
    recorder-body-there header = recorder-body-met q begins s d recording header

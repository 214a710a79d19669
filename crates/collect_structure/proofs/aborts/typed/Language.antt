-- Where a scope knows the language, what a collecting text of a program with abort statements adds meets the static rules 1 and 3 to 12: what main and each unit declare more, and the recorder's body.
use Rattle.std.proofs.Common.{Bool, List, ap, drop, false, length, option_map, pos, refl, subst, sym, take, true, ℕ, ◌++◌, ◌≡◌, ◌≤◌}
use Rattle.std.specs.List.{AllByRecursion}
use Rattle.common_lemmas.proofs.Lists.{all_joined}
use Rattle.ada_tree.specs.Lexical.{IsInteger as IsLiteral}
use Rattle.ada_tree.specs.NameList.{predefined}
use Rattle.ada_tree.specs.PlainDecl.{decls_of}
use Rattle.ada_tree.specs.PlainProgram.{PProgram}
use Rattle.ada_tree.specs.declared.naming.Span.{Span}
use Rattle.ada_tree.specs.declared.static_types.Mark.{Mark}
use Rattle.ada_static_rules.specs.Declaring.{after_decl, after_decls, first_mark}
use Rattle.ada_static_rules.specs.RuleDuplicate.{is_predefined}
use Rattle.ada_static_rules.specs.Scope.{Scope}
use Rattle.ada_static_rules.specs.Sites.{decl_sites, own_sites}
use Rattle.task_model.specs.Setting.{Setting}
use Rattle.normal_laws.proofs.structure.numbers.Named.{Has}
use Rattle.normal_laws.proofs.structure.typed.Variables.{AllMetBut}
use Rattle.replay_structure.proofs.scopes.Main.{along-join}
use Rattle.replay_structure.specs.scopes.Form.{AllAlong}
use Rattle.collect_model.specs.CollectTree.{answer_declared, main_declared, unit_declared}
use Rattle.collect_model.specs.Names.{added_in, added_texts, answer_text, collect_names, flags_text, int_io_text, part_text}
use Rattle.collect_model.specs.declared.AddedNames.{AddedNames}
use Rattle.collect_structure.proofs.declares_once.Ids.{new-not-predefined}
use Rattle.collect_structure.proofs.scopes.Language.{language-decl, language-decls, predefined-known}
use Rattle.collect_structure.proofs.typed.Language.{more-along, recorder-of, unit-is-met}
use Rattle.collect_structure.specs.Names as collect
use Rattle.collect_structure.specs.scopes.Form.{DeclaresNew}
use Rattle.collect_structure.specs.scopes.Language.{KnowsLanguage, SeesAdded}
use Rattle.collect_structure.specs.typed.Recording.{IsRecording}
use Rattle.collect_model.specs.aborts.AbortTeller.{AbortTeller, told_in}
use Rattle.collect_model.specs.aborts.AbortTree.{places_declared}
use Rattle.collect_model.specs.aborts.Recording.{recorder_body}
use Rattle.collect_structure.proofs.aborts.typed.Apart.{IsFreeTask, told-apart}
use Rattle.collect_structure.proofs.aborts.typed.Declared.{IsObject, all-objects, objects-met, places-along}
use Rattle.collect_structure.proofs.aborts.typed.Names.{told-added}
use Rattle.collect_structure.proofs.aborts.typed.Recorder.{AreSeen, recorder-body-met}
use Rattle.collect_structure.specs.aborts.typed.Told.{AreNewPlaces}

-- the recorder's body can use the language, the recorder and DED_FLAGS
recording : (q : PProgram) (last : ℕ) (d : Scope) → SeesAdded q last d → IsRecording q d
recording q last d h = record {
  predefined = predefined-known d h.language;
  flags = record {
    place = h.flags.place;
    mark = h.flags.mark;
    part = 3;
    first = pos 0;
    last = pos last;
    means = h.flags.means;
    there = h.flags.there;
    array = h.flags.kind;
    parts = ap (option_map (λ (m : Mark). record { kind = m.kind; first = m.first; last = m.last })) (h.language.grows.mark 3 (first_mark 3 1 (pos 0) (pos 1)) refl);
  };
  recorder = recorder-of q d h.recorder;
}

module _ (g : Setting) (task : ℕ) (begins : take (length predefined) g.program.names ≡ predefined) (s : Span) where
  abbrev q : PProgram
  q = g.program

  abbrev x : AbortTeller
  x = told_in (record { setting = g; task = task })

  abbrev n : AddedNames
  n = added_in (collect_names q)

  new-name : (t : List ℕ) → Has added_texts t → Has collect.new_texts t → is_predefined (collect.added_id q t).0 ≡ false
  new-name t h i = new-not-predefined q begins t h i

  -- The recorder's body, where the tasks have names of their own and are seen.
  pub recorder-body-there : AllByRecursion (IsFreeTask g task begins) (drop 1 g.numbers.tasks) → IsLiteral (length g.numbers.tasks) → (last : ℕ) (d : Scope) →
      SeesAdded q last d → AreSeen d (drop 1 g.numbers.tasks) →
      (header : List ℕ) → AllMetBut (decl_sites d (recorder_body x s header))
  recorder-body-there free few last d h seen header = recorder-body-met q begins x (told-added q) (told-apart g task begins free) few s d (recording q last d h) seen header

  module _ (d : Scope) (language : KnowsLanguage d) (most k : ℕ) (le : k ≤ most) where
    unit-new : AllByRecursion DeclaresNew (unit_declared n s)
    unit-new = ((new-name answer_text refl refl, tt), ((new-name part_text refl refl, tt), tt))

    main-new : (b : Bool) (last : ℕ) → AllByRecursion DeclaresNew (main_declared n s b last)
    main-new true last = ((new-name flags_text refl refl, tt), unit-new)
    main-new false last = ((new-name int_io_text refl refl, tt), ((new-name flags_text refl refl, tt), unit-new))

    -- What main declares more, with the variables of its first places.
    pub main-along : (b : Bool) (last : ℕ) → AreNewPlaces x most (after_decls d (decls_of (main_declared x.teller.added s b last))).types →
        AllAlong d (main_declared x.teller.added s b last ++ places_declared x s k)
    main-along b last =
        subst (λ m. AreNewPlaces x most (after_decls d (decls_of (main_declared m s b last))).types → AllAlong d (main_declared m s b last ++ places_declared x s k)) (sym (told-added q))
        (λ new.
        along-join (main_declared n s b last) (places_declared x s k) d (more-along q begins s last d language b)
        (places-along x most s (after_decls d (decls_of (main_declared n s b last))) (language-decls (main_declared n s b last) d (main-new b last) language) new k le))

    two-along : AllAlong d (unit_declared n s)
    two-along = (
      (unit-is-met n d s language).0,
      ((unit-is-met n (after_decl d (answer_declared n s)) s (language-decl (answer_declared n s) d (new-name answer_text refl refl, tt) language)).1, tt),
    )

    -- What a body declares more.
    pub unit-met : AreNewPlaces x most (after_decls d (decls_of (unit_declared x.teller.added s))).types → AllMetBut (own_sites d (decls_of (unit_declared x.teller.added s ++ places_declared x s k)))
    unit-met =
        subst (λ m. AreNewPlaces x most (after_decls d (decls_of (unit_declared m s))).types → AllMetBut (own_sites d (decls_of (unit_declared m s ++ places_declared x s k)))) (sym (told-added q))
        (λ new.
        let behind : Scope = after_decls d (decls_of (unit_declared n s)) in
        let known : KnowsLanguage behind = language-decls (unit_declared n s) d unit-new language in
        let objects : AllByRecursion IsObject (unit_declared n s) = (λ e. (refl, λ m. m), (λ e. (refl, λ m. m), tt)) in
        objects-met (unit_declared n s ++ places_declared x s k)
        (all_joined IsObject (unit_declared n s) (places_declared x s k) objects (all-objects x most s behind known new k le)) d
        (along-join (unit_declared n s) (places_declared x s k) d two-along (places-along x most s behind known new k le)))

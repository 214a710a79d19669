-- DED_FLAGS in the table of types of a collecting text with abort statements that declares each name once.
use Rattle.std.proofs.Common.{◌≡◌, ℕ, pos, List, [], ◌∷◌, ◌++◌, map, Some}
use Rattle.ada_tree.specs.declared.naming.Span.{Span}
use Rattle.ada_tree.specs.PlainExpr.{PDrange, RGiven}
use Rattle.ada_tree.specs.PlainDecl.{OPlain, PDecl}
use Rattle.ada_tree.specs.PlainProgram.{PProgram}
use Rattle.ada_static_rules.specs.Scope.{integer_kind}
use Rattle.ada_static_rules.specs.Refusals.{types_in}
use Rattle.ada_static_rules.specs.Declaring.{first_scope}
use Rattle.ada_value.specs.Values.{truth_limits}
use Rattle.ada_value.specs.declared.values.Form.{Form}
use Rattle.task_model.specs.Starting.{form_of}
use Rattle.task_laws.specs.legal.rewritten_types.Rewriting.{NamesOnce}
use Rattle.normal_model.specs.Ranges.{word_at, marked}
use Rattle.normal_laws.specs.structure.asked.Pieces.{IsAmong}
use Rattle.normal_laws.proofs.legality.checks.Tasks.{among-front}
use Rattle.replay_model.specs.ReplayTree.{last_task}
use Rattle.collect_model.specs.declared.AddedNames.{AddedNames}
use Rattle.collect_model.specs.Noting.{number}
use Rattle.collect_model.specs.CollectTree.{flags_type, main_declared, is_int_io, recorder_told}
use Rattle.replay_model.specs.ReplayTree.{is_task, is_body}
use Rattle.syn_event.specs.DeclaredTasks.{decl_list}
use Rattle.normal_model.specs.NormalTree.{main_unit}
use Rattle.std.specs.List.{filter, list_any}
use Rattle.std.specs.Prelude.{not, ◌||◌}
use Rattle.replay_runs.specs.starts.Laws.{form_in}
use Rattle.collect_model.specs.aborts.AbortTeller.{AbortTeller, told_in}
use Rattle.collect_model.specs.aborts.Places.{places_in}
use Rattle.collect_model.specs.aborts.AbortTree.{abort_decl, places_declared, objects_told, recorder_body_told, abort_decls}
use Rattle.collect_runs.specs.aborts.starts.Texts.{abort_text}
use Rattle.collect_runs.specs.aborts.starts.Laws.{LegalIsRecorder}
use Rattle.collect_runs.proofs.aborts.starts.Naming.{legal_has_names}
use Rattle.collect_runs.proofs.aborts.starts.Once.{legal-names-once}
use Rattle.collect_runs.proofs.starts.FlagsType.{type-form, type-among, ready-first, main-has, behind-has}

-- ---- the type, where its declaration stands

module _ (n : AddedNames) (sp : Span) (last : ℕ) where
  abbrev d : PDecl
  d = flags_type n sp last

  abbrev index : PDrange
  index = RGiven (record { first = number sp 0; last = number sp last })

  abbrev array_of_flags : Form
  array_of_flags = record { limits = truth_limits; index = Some record { kind = integer_kind; first = pos 0; last = pos last } }

module _ (p : PProgram) (once : NamesOnce p.name (abort_text p).decls) where
  abbrev q : PProgram
  q = (form_in p).program

  abbrev x : AbortTeller
  x = told_in (main_unit (form_in p))

  abbrev last : ℕ
  last = last_task (form_in p).numbers

  abbrev flags : PDecl
  flags = flags_type x.teller.added q.name.span last

  abbrev all : List PDecl
  all = abort_decls x q (decl_list q.decls)

  abbrev objects : List PDecl
  objects = filter (λ d. not (is_task d || is_body d)) (decl_list q.decls)

  flags-there : IsAmong flags all
  flags-there =
      let first : List PDecl = objects_told x q objects in
      let middle : List PDecl = map (abort_decl x q.names) (filter is_task (decl_list q.decls)) in
      let copies : List PDecl = map (abort_decl x q.names) (filter is_body (decl_list q.decls)) in
      among-front flags (first ++ middle ++ (recorder_told x.teller q ∷ []) ++ copies) (recorder_body_told x q ∷ [])
      (among-front flags (first ++ middle ++ (recorder_told x.teller q ∷ [])) copies
      (among-front flags (first ++ middle) (recorder_told x.teller q ∷ [])
      (among-front flags first middle
      (behind-has q.names flags (main_declared x.teller.added q.name.span (list_any is_int_io objects) last ++ places_declared x q.name.span (places_in q.body)) objects
      (among-front flags (main_declared x.teller.added q.name.span (list_any is_int_io objects) last) (places_declared x q.name.span (places_in q.body))
      (main-has x.teller.added q.name.span last (list_any is_int_io objects)))))))

  pub has-flags : form_of (types_in (abort_text p)) (OPlain (marked (word_at q.name.span x.teller.added.flags))) ≡ Some (array_of_flags x.teller.added q.name.span last)
  has-flags =
      type-form x.teller.added q.name.span last (types_in (abort_text p))
      (type-among x.teller.added q.name.span last all (first_scope p.name) flags-there (ready-first x.teller.added q.name.span last p.name once.0.0) once.1)

pub legal_is_recorder : LegalIsRecorder
legal_is_recorder p inputs h =
    let known = legal_has_names p inputs h in
    record {
      apart = known.apart;
      of_truth = known.of_truth;
      of_flags = has-flags p (legal-names-once p h);
      integer = known.integer;
      of_kind = known.of_kind;
      of_integer = known.of_integer;
      few = known.few;
      found = known.found;
      aborts = known.aborts;
    }

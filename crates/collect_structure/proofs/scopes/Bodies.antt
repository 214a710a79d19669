-- The bodies of tasks in a collecting text meet the rules 1 and 3 to 12.
use Rattle.std.proofs.Common.{◌≡◌, ℕ, Bool, List, [], ◌∷◌, map, Some, refl, sym, ap, subst, ◌∙◌, arith}
use Rattle.common_lemmas.proofs.Lists.{all_joined}
use Rattle.ada_tree.specs.declared.naming.Span.{Span}
use Rattle.ada_tree.specs.declared.naming.Word.{Word}
use Rattle.ada_tree.specs.PlainStmt.{PBody}
use Rattle.ada_tree.specs.PlainDecl.{PDecl, DTaskBody, PDecls, decls_of}
use Rattle.ada_tree.specs.PlainProgram.{PProgram}
use Rattle.ada_static_rules.specs.Scope.{Scope, Family, single, family, unclear, SingleTask, meaning}
use Rattle.ada_static_rules.specs.Declaring.{own_entries, inner_scope, in_body, after_objects, after_decl, after_decls}
use Rattle.ada_static_rules.specs.Sites.{own_sites, body_sites, decl_sites}
use Rattle.syn_event.specs.DeclaredTasks.{decl_list}
use Rattle.syn_event.proofs.DeclLists.{list_again}
use Rattle.task_model.specs.Setting.{Setting}
use Rattle.task_laws.proofs.legal.rewritten_types.Keeping.{keeps-self}
use Rattle.task_laws.proofs.legal.rewritten_types.Adding.{keeps-objects}
use Rattle.task_laws.proofs.legal.alike_scopes.Exprs.{mark-kind-same}
use Rattle.task_laws.specs.legal.alike_scopes.Laws.{IsMetBut}
use Rattle.normal_model.specs.Ranges.{kind_name}
use Rattle.normal_model.specs.NormalTree.{main_unit}
use Rattle.normal_laws.proofs.structure.typed.Places.{gives-met}
use Rattle.normal_laws.proofs.structure.typed.Variables.{AllMetBut}
use Rattle.replay_structure.specs.typed.ScopeOf.{IsCountedBy, as_itself, by_position, IsEntryOf}
use Rattle.replay_structure.specs.scopes.Form.{AllAlong}
use Rattle.replay_structure.specs.legal.names.inner.Units.{HasItsEntries}
use Rattle.ada_static_rules.proofs.found_twice.Declared.{objects_own}
use Rattle.collect_model.specs.Names.{caller_text, answer_text, part_text, recorder_text}
use Rattle.collect_model.specs.Teller.{Teller, task_of, teller_at, teller_in}
use Rattle.collect_model.specs.CollectStmts.{task_body}
use Rattle.collect_model.specs.CollectTree.{unit_declared, behind_own, collect_decl}
use Rattle.collect_structure.specs.Names.{added_id}
use Rattle.collect_structure.specs.typed.Told.{told_entry, AreOuter, IsToldScope}
use Rattle.collect_structure.specs.scopes.Language.{KnowsLanguage, note_entry}
use Rattle.collect_structure.specs.scopes.Text.{UnitIsMet}
use Rattle.collect_structure.specs.scopes.Grown.{IsGrown}
use Rattle.collect_structure.specs.scopes.Form.{AreNamesNew, IsBodyTold, BodiesTold}
use Rattle.collect_structure.proofs.declares_once.Ids.{texts-apart}
use Rattle.collect_structure.proofs.typed.Inside.{IsCallerApart}
use Rattle.collect_structure.proofs.typed.Typed.{task-met}
use Rattle.collect_structure.proofs.typed.Language.{recorder-of}
use Rattle.collect_structure.proofs.scopes.Language.{predefined-known, tasking-known, language-on, language-body, language-inside}
use Rattle.collect_structure.proofs.scopes.Grown.{grown-body, grown-in-body, grown-inside}
use Rattle.collect_structure.proofs.scopes.Unit.{HasUnit, unit-step}
use Rattle.collect_structure.proofs.scopes.Inner.{n, new-other, IsInner, IsUnit, objects-told, objects-met}

module _ (g : Setting) (old inner : ℕ → Bool) (new : AreNamesNew g old) (outer : AreOuter g.program inner) where
  abbrev q : PProgram
  q = g.program

  abbrev told : Teller
  told = teller_in (main_unit g)

  -- ---- names

  -- the formal of the caller is none of those that units use
  pub caller-apart : IsCallerApart g old
  caller-apart = record {
    new = new.added caller_text refl refl;
    answer = texts-apart q caller_text answer_text refl refl refl refl;
    part = texts-apart q caller_text part_text refl refl refl refl;
    recorder = texts-apart q caller_text recorder_text refl refl refl refl;
    tasking = new-other g old new (record { 0 = 9 }) (new.language 9 (omega arith)) (record { name = added_id q caller_text; span = q.name.span }) (new.added caller_text refl refl);
    integer = new-other g old new (record { 0 = 0 }) (new.language 0 (omega arith)) (record { name = added_id q caller_text; span = q.name.span }) (new.added caller_text refl refl);
    kinds = λ j. new-other g old new (kind_name g.types j) (new.kinds j) (record { name = added_id q caller_text; span = q.name.span }) (new.added caller_text refl refl);
  }

  -- ---- what a unit can use

  module _ (c d : Scope) (grown : IsGrown q old c d) where
    counted-there : (j k : ℕ) → IsCountedBy g.types inner c j k → IsCountedBy g.types inner d j k
    counted-there j k (as_itself e f) = as_itself e f
    counted-there j k (by_position m e o) = by_position m (sym (mark-kind-same old c d grown.names (kind_name g.types j) (new.kinds j)) ∙ e) o

    entry-there : (e : ℕ) (fam : Family) → IsEntryOf g inner c e fam → IsEntryOf g inner d e fam
    entry-there e single h = h
    entry-there e (family range) h = record { written = h.written; flag = h.flag; is = h.is; counted = counted-there _ range.kind h.counted }
    entry-there e unclear h = h

  -- What can be used in a unit of the text, where DED_G and DED_W are declared and the entries of the own task are told.
  pub told-scope : (task : ℕ) (c d : Scope) → IsGrown q old c d → KnowsLanguage d → HasUnit q d →
      meaning d (added_id q recorder_text) ≡ Some (SingleTask (note_entry q ∷ [])) → d.own ≡ map (told_entry q) c.own →
      HasItsEntries (record { setting = g; task = task }) inner c → IsToldScope (record { setting = g; task = task }) old inner c d
  told-scope task c d grown language unit recorder own has = record {
    names = grown.names;
    main = grown.main;
    answer = unit.answer;
    part = unit.part;
    recorder = recorder-of q d recorder;
    tasking = tasking-known d language;
    integer = (predefined-known d language).integer;
    tasks = grown.tasks;
    own = own;
    called = λ id name part e. entry-there c d grown _ part.family (has.called id name part e);
    accepted = λ name part e. entry-there c d grown _ part.family (has.accepted name part e);
  }

  -- ---- bodies

  -- What is known in front of bodies, and stays behind them.
  pub record IsBefore (c d : Scope) : Type 0 where
    pub grown : IsGrown q old c d
    pub language : KnowsLanguage d
    pub recorder : meaning d (added_id q recorder_text) ≡ Some (SingleTask (note_entry q ∷ []))
    pub variables : HasUnit q d

  abbrev more_objects : Word → PDecls → PDecls
  more_objects w objects = decls_of (behind_own q.names (unit_declared (n g old new) w.span) (decl_list objects))

  abbrev told_body : Word → PBody → PBody
  told_body w its = task_body (teller_at told (task_of g.numbers w.name)) w.span its

  pub before-step : (w : Word) (objects objects' : PDecls) (its its' : PBody) (s s' : Span) (c d : Scope) → IsBefore c d →
      IsBefore (after_decl c (DTaskBody w objects its s)) (after_decl d (DTaskBody w objects' its' s'))
  before-step w objects objects' its its' s s' c d b = record {
    grown = grown-body q old w objects objects' its its' s s' c d b.grown;
    language = language-on d (after_decl d (DTaskBody w objects' its' s')) (keeps-objects {old = old} objects' (in_body d w) refl).grows (λ k l. refl) b.language;
    recorder = b.recorder;
    variables = unit-step q d (after_decl d (DTaskBody w objects' its' s')) refl refl (keeps-objects objects' (in_body d w) refl) (keeps-objects objects' (in_body d w) refl) b.variables;
  }

  module _ (c d : Scope) (b : IsBefore c d) (w : Word) (objects : PDecls) (its : PBody) (h : IsBodyTold g old inner c w objects its) where
    begins : IsInner g old new (in_body c w) (in_body d w)
    begins = record {
      left = refl;
      right = refl;
      grown = grown-in-body q old w c d b.grown;
      language = language-body w d b.language;
      recorder = b.recorder;
      answer = b.variables.answer.changes;
      part = b.variables.part.changes;
    }

    unit : IsUnit g old new (after_objects (in_body c w) objects) (after_objects (in_body d w) (more_objects w objects))
    unit = subst (λ ds. IsUnit g old new (after_objects (in_body c w) ds) (after_objects (in_body d w) (more_objects w objects))) (list_again objects)
        (objects-told g old new w.span (decl_list objects) (in_body c w) (in_body d w) h.owns h.new begins)

    abbrev left : Scope
    left = inner_scope (after_objects (in_body c w) objects)

    abbrev right : Scope
    right = inner_scope (after_objects (in_body d w) (more_objects w objects))

    own : right.own ≡ map (told_entry q) left.own
    own =
        objects_own (more_objects w objects) (in_body d w)
        ∙ ap own_entries (b.grown.tasks w.name h.entries h.named h.means)
        ∙ sym (ap (map (told_entry q)) (objects_own objects (in_body c w) ∙ ap own_entries h.means))

    scope : IsToldScope (record { setting = g; task = task_of g.numbers w.name }) old inner left right
    scope =
        told-scope (task_of g.numbers w.name) left right (grown-inside q old _ _ unit.grown) (language-inside _ unit.language)
        (unit-step q (after_objects (in_body d w) (more_objects w objects)) right refl refl (keeps-self _) (keeps-self _) unit.variables) unit.recorder own h.has

    pub body-met : UnitIsMet (n g old new) → (s : Span) → AllMetBut (decl_sites d (collect_decl told q.names (DTaskBody w objects its s)))
    body-met unit_met s = (
      gives-met d w (map (told_entry q) h.entries) (b.grown.tasks w.name h.entries h.named h.means),
      all_joined IsMetBut (own_sites (in_body d w) (more_objects w objects)) (body_sites right (told_body w its))
          (objects-met g old new unit_met w.span (decl_list objects) (in_body c w) (in_body d w) h.owns h.inits h.new begins
          (subst (λ ds. AllMetBut (own_sites (in_body c w) ds)) (sym (list_again objects)) h.sites))
          (task-met g (task_of g.numbers w.name) old inner outer caller-apart (tt, left) right 1 w.span its scope (omega arith) h.asked),
    )

  -- The places of all bodies, and what is known behind them.
  pub bodies-met : UnitIsMet (n g old new) → (xs : List PDecl) (c d : Scope) → BodiesTold g old inner c xs → IsBefore c d → AllAlong d (map (collect_decl told q.names) xs)
  bodies-met unit_met [] c d h b = tt
  bodies-met unit_met (DTaskBody w objects its s ∷ xs) c d h b = (
    body-met c d b w objects its h.0 unit_met s,
    bodies-met unit_met xs (after_decl c (DTaskBody w objects its s))
        (after_decl d (collect_decl told q.names (DTaskBody w objects its s))) h.1 (before-step w objects (more_objects w objects) its (told_body w its) s s c d b),
  )
  bodies-met unit_met (_ ∷ xs) c d h b = absurd h

  pub bodies-before : (xs : List PDecl) (c d : Scope) → BodiesTold g old inner c xs → IsBefore c d →
      IsBefore (after_decls c (decls_of xs)) (after_decls d (decls_of (map (collect_decl told q.names) xs)))
  bodies-before [] c d h b = b
  bodies-before (DTaskBody w objects its s ∷ xs) c d h b =
      bodies-before xs (after_decl c (DTaskBody w objects its s)) (after_decl d (collect_decl told q.names (DTaskBody w objects its s))) h.1
      (before-step w objects (more_objects w objects) its (told_body w its) s s c d b)
  bodies-before (_ ∷ xs) c d h b = absurd h

-- The bodies that the tasks of a collecting text run.
use Rattle.std.proofs.Common.{◌≡◌, ℕ, ℤ, ◌==◌, ◌||◌, Bool, true, false, if◌then◌else◌, List, [], ◌∷◌, ◌++◌, map, unwrap_or, slice_index_or, Some, None, refl, ap, ◌∙◌}
use Rattle.std.specs.List.{AllByRecursion, filter}
use Rattle.std.proofs.lemmas.Bool.{eqb-true}
use Rattle.common_lemmas.proofs.Numbers.{equal_self}
use Rattle.ada_tree.specs.declared.naming.NameId.{NameId}
use Rattle.ada_tree.specs.declared.naming.Span.{Span}
use Rattle.ada_tree.specs.declared.naming.Word.{Word}
use Rattle.ada_tree.specs.Every.{EveryDecl}
use Rattle.ada_tree.specs.PlainStmt.{PBody}
use Rattle.ada_tree.specs.PlainDecl.{PDecl, DNumber, DObject, DEnumeration, DArray, DSubtype, DException, DIntIo, DPragma, DTask, DTaskBody, PDecls, no_decl, decls_of}
use Rattle.ada_tree.specs.PlainProgram.{PProgram}
use Rattle.syn_event.specs.DeclaredTasks.{decl_list}
use Rattle.task_model.specs.Starting.{Unit, unit_among, unit_of, started_in, started}
use Rattle.replay_model.specs.ReplayTree.{is_body, last_task}
use Rattle.normal_model.specs.NormalTree.{main_unit}
use Rattle.replay_structure.specs.bodies.Laws.{has_body}
use Rattle.replay_structure.proofs.bodies.Bodies.{unit-at}
use Rattle.normal_laws.specs.runs.forms.Normalisable.{made_for}
use Rattle.normal_laws.specs.existence.Laws.{IsLegalOriginal}
use Rattle.replay_runs.specs.starts.Laws.{form_in}
use Rattle.collect_model.specs.Teller.{Teller, task_of, teller_at, teller_in}
use Rattle.collect_model.specs.CollectStmts.{task_body}
use Rattle.collect_model.specs.CollectTree.{unit_declared, behind_own, collect_decl, collect_decls, recorder_body_told}
use Rattle.collect_model.specs.CollectNumbers.{recorder_info}
use Rattle.collect_model.specs.Names.{recorder_text}
use Rattle.collect_structure.specs.Names.{added_id, kept_names}
use Rattle.collect_structure.proofs.checked.Names.{kept-other}
use Rattle.collect_structure.proofs.texts.Rooted.{collect-tells}
use Rattle.collect_runs.specs.recorder.States.{recorder_unit, starting}
use Rattle.collect_runs.specs.starts.Texts.{text_for, text_setting, names_added, recorder_number, recorder_of}
use Rattle.collect_runs.proofs.forms.Finding.{checkable, recorder-there}
use Rattle.collect_runs.proofs.forms.Among.{among, same, other, found-among, missing-among, told-alone}
use Rattle.collect_structure.proofs.texts.Listed.{main-plain}

-- ---- bodies

module _ (x : Teller) (names : List (List ℕ)) (name : NameId) where
  -- what a unit becomes, with all that is added at one place
  abbrev pub told_unit : Span → Unit → Unit
  told_unit s u = record {
    in_main = false;
    decls = decls_of (behind_own names (unit_declared x.added s) (decl_list u.decls));
    body = task_body (teller_at x (task_of x.numbers name)) s u.body;
  }

  told-here : (w : Word) (objects : PDecls) (its : PBody) (sp : Span) (rest : List PDecl) → (w.name.0 == name.0) ≡ true →
      among name (collect_decl x names (DTaskBody w objects its sp) ∷ rest) ≡ told_unit w.span (record { in_main = false; decls = objects; body = its })
  told-here w objects its sp rest e =
      let one : w.name ≡ name = (let n : w.name.0 ≡ name.0 = eqb-true w.name.0 name.0 e in λ i. record { 0 = n i }) in
      let objs = decls_of (behind_own names (unit_declared x.added w.span) (decl_list objects)) in
      same name w objs (task_body (teller_at x (task_of x.numbers w.name)) w.span its) sp rest e
      ∙ ap (λ (id : NameId). record { in_main = false; decls = objs; body = task_body (teller_at x (task_of x.numbers id)) w.span its }) one

  pub found : (ds : PDecls) (rest : List PDecl) → has_body (decl_list ds) name ≡ true →
      (s : Span) × (among name (map (collect_decl x names) (filter is_body (decl_list ds)) ++ rest) ≡ told_unit s (unit_among ds name))
  found = found-among (collect_decl x names) told_unit name told-here (λ w objects its sp rest e. other name w _ _ sp rest e)

  -- where there is none, what stands behind is found
  missing : (ds : List PDecl) (rest : List PDecl) → has_body ds name ≡ false → among name (map (collect_decl x names) (filter is_body ds) ++ rest) ≡ among name rest
  missing = missing-among (collect_decl x names) told_unit name told-here (λ w objects its sp rest e. other name w _ _ sp rest e)

-- only the bodies are looked at
pub bodies-alone : (x : Teller) (q : PProgram) (name : NameId) →
    unit_among (decls_of (collect_decls x q (decl_list q.decls))) name ≡ unit_among (decls_of (map (collect_decl x q.names) (filter is_body (decl_list q.decls)) ++ (recorder_body_told x q ∷ []))) name
bodies-alone x q name =
    told-alone x.added (collect_decl x q.names) (collect-tells x q.names) q _ (recorder_body_told x q) name (main-plain x.added q.name.span _ (last_task x.numbers))

-- no body that has a kept name is the recorder's
none-records : (q : PProgram) (ds : List PDecl) → AllByRecursion (EveryDecl (kept_names q)) ds → has_body ds (added_id q recorder_text) ≡ false
none-records q [] h = refl
none-records q (DTaskBody w objects its s ∷ ds) h = ap (λ b. b || has_body ds (added_id q recorder_text)) (kept-other q w.name recorder_text h.0.1 refl refl) ∙ none-records q ds h.1
none-records q (DTask t s ∷ ds) h = none-records q ds h.1
none-records q (DNumber w e s ∷ ds) h = none-records q ds h.1
none-records q (DObject ws c x i s ∷ ds) h = none-records q ds h.1
none-records q (DEnumeration w ws s ∷ ds) h = none-records q ds h.1
none-records q (DArray w r x s ∷ ds) h = none-records q ds h.1
none-records q (DSubtype w x s ∷ ds) h = none-records q ds h.1
none-records q (DException ws s ∷ ds) h = none-records q ds h.1
none-records q (DIntIo w s ∷ ds) h = none-records q ds h.1
none-records q (DPragma e s ∷ ds) h = none-records q ds h.1

-- ---- the recorder

module _ (p : PProgram) (h : IsLegalOriginal p) where
  abbrev q : PProgram
  q = made_for p

  abbrev rec : NameId
  rec = added_id (made_for p) recorder_text

  abbrev x : Teller
  x = teller_in (main_unit (form_in p))

  unit-records : (inputs : List (List ℤ)) → unit_of (text_for p) (text_setting p).numbers (recorder_number p) ≡ recorder_unit (recorder_of p inputs)
  unit-records inputs =
      unit-at (text_for p) (text_setting p).numbers (last_task (form_in p).numbers) (recorder_info (names_added p)) (recorder-there p h)
      ∙ bodies-alone x q rec
      ∙ missing x q.names rec (decl_list q.decls) (recorder_body_told x q ∷ []) (none-records q (decl_list q.decls) (checkable p h).declared)
      ∙ ap (λ (b : Bool). unwrap_or (if b then Some (recorder_unit (recorder_of p inputs)) else None) (unit_among no_decl rec)) (equal_self rec.0)

  -- The recorder starts before its header.
  pub legal_records : (inputs : List (List ℤ)) → started (text_setting p) inputs (recorder_number p) ≡ starting (recorder_of p inputs)
  legal_records inputs = ap (λ (u : Unit). started_in (text_setting p) (recorder_number p) u (slice_index_or inputs (recorder_number p) [])) (unit-records inputs)

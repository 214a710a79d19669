-- The bodies that the tasks of a collecting text with abort statements run.
use Rattle.std.proofs.Common.{◌≡◌, ℕ, ℤ, ◌==◌, ◌||◌, Bool, true, false, if◌then◌else◌, List, [], ◌∷◌, ◌++◌, map, unwrap_or, slice_index_or, Some}
use Rattle.std.proofs.Common.{None, refl, ap, ◌∙◌}
use Rattle.std.specs.List.{AllByRecursion, filter}
use Rattle.std.proofs.lemmas.Bool.{eqb-true}
use Rattle.common_lemmas.proofs.Numbers.{equal_self}
use Rattle.ada_tree.specs.declared.naming.NameId.{NameId}
use Rattle.ada_tree.specs.declared.naming.Span.{Span}
use Rattle.ada_tree.specs.declared.naming.Word.{Word}
use Rattle.ada_tree.specs.Every.{EveryDecl}
use Rattle.ada_tree.specs.PlainStmt.{PBody}
use Rattle.ada_tree.specs.PlainDecl.{PDecl, DNumber, DObject, DEnumeration, DArray, DSubtype, DException, DIntIo, DPragma, DTask, DTaskBody, PDecls}
use Rattle.ada_tree.specs.PlainDecl.{no_decl, decls_of}
use Rattle.ada_tree.specs.PlainProgram.{PProgram}
use Rattle.syn_event.specs.DeclaredTasks.{decl_list}
use Rattle.task_model.specs.Starting.{Unit, unit_among, unit_of, started_in, started}
use Rattle.replay_model.specs.ReplayTree.{is_body, last_task}
use Rattle.normal_model.specs.NormalTree.{main_unit}
use Rattle.replay_structure.specs.bodies.Laws.{has_body}
use Rattle.replay_structure.proofs.bodies.Bodies.{unit-at}
use Rattle.normal_laws.specs.runs.forms.Normalisable.{made_for}
use Rattle.normal_laws.specs.existence.Laws.{IsLegalOriginal}
use Rattle.replay_runs.specs.starts.Laws.{form_in}
use Rattle.collect_model.specs.Teller.{task_of}
use Rattle.collect_model.specs.CollectTree.{unit_declared, behind_own}
use Rattle.collect_model.specs.CollectNumbers.{recorder_info}
use Rattle.collect_structure.specs.Names.{kept_name, kept_names}
use Rattle.collect_runs.proofs.forms.Finding.{checkable}
use Rattle.collect_model.specs.aborts.Places.{places_in}
use Rattle.collect_model.specs.aborts.AbortTeller.{AbortTeller, told_at, told_in}
use Rattle.collect_model.specs.aborts.AbortStmts.{task_body}
use Rattle.collect_model.specs.aborts.AbortTree.{places_declared, abort_decl, abort_decls, recorder_body_told}
use Rattle.collect_structure.proofs.aborts.texts.Listed.{abort-tells, more-plain}
use Rattle.collect_runs.specs.aborts.recorder.States.{recorder_unit, starting}
use Rattle.collect_runs.specs.aborts.starts.Texts.{abort_text, abort_setting, recorder_number, recorder_of}
use Rattle.collect_runs.specs.aborts.forms.Texts.{names_added}
use Rattle.collect_runs.proofs.aborts.forms.Finding.{recorder-there, recorder-other}
use Rattle.collect_runs.proofs.forms.Among.{among, same, other, found-among, missing-among, told-alone}

-- ---- bodies

module _ (x : AbortTeller) (names : List (List ℕ)) (name : NameId) where
  -- what a unit becomes, with all that is added at one place
  abbrev pub told_unit : Span → Unit → Unit
  told_unit s u = record {
    in_main = false;
    decls = decls_of (behind_own names (unit_declared x.teller.added s ++ places_declared x s (places_in u.body)) (decl_list u.decls));
    body = task_body (told_at x (task_of x.teller.numbers name)) s u.body;
  }

  told-here : (w : Word) (objects : PDecls) (its : PBody) (sp : Span) (rest : List PDecl) → (w.name.0 == name.0) ≡ true →
      among name (abort_decl x names (DTaskBody w objects its sp) ∷ rest) ≡ told_unit w.span (record { in_main = false; decls = objects; body = its })
  told-here w objects its sp rest e =
      let one : w.name ≡ name = (let n : w.name.0 ≡ name.0 = eqb-true w.name.0 name.0 e in λ i. record { 0 = n i }) in
      let objs = decls_of (behind_own names (unit_declared x.teller.added w.span ++ places_declared x w.span (places_in its)) (decl_list objects)) in
      same name w objs (task_body (told_at x (task_of x.teller.numbers w.name)) w.span its) sp rest e
      ∙ ap (λ (id : NameId). record { in_main = false; decls = objs; body = task_body (told_at x (task_of x.teller.numbers id)) w.span its }) one

  pub found : (ds : PDecls) (rest : List PDecl) → has_body (decl_list ds) name ≡ true →
      (s : Span) × (among name (map (abort_decl x names) (filter is_body (decl_list ds)) ++ rest) ≡ told_unit s (unit_among ds name))
  found = found-among (abort_decl x names) told_unit name told-here (λ w objects its sp rest e. other name w _ _ sp rest e)

  -- where there is none, what stands behind is found
  missing : (ds : List PDecl) (rest : List PDecl) → has_body ds name ≡ false → among name (map (abort_decl x names) (filter is_body ds) ++ rest) ≡ among name rest
  missing = missing-among (abort_decl x names) told_unit name told-here (λ w objects its sp rest e. other name w _ _ sp rest e)

-- only the bodies are looked at
pub bodies-alone : (x : AbortTeller) (q : PProgram) (name : NameId) →
    unit_among (decls_of (abort_decls x q (decl_list q.decls))) name ≡ unit_among (decls_of (map (abort_decl x q.names) (filter is_body
    (decl_list q.decls)) ++ (recorder_body_told x q ∷ []))) name
bodies-alone x q name =
    told-alone x.teller.added (abort_decl x q.names) (abort-tells x q.names) q _ (recorder_body_told x q) name
    (more-plain x q.name.span _ (last_task x.teller.numbers) (places_in q.body))

-- no body that has a kept name has the recorder's
none-records : (q : PProgram) (rec : NameId) → ((id : NameId) → kept_name q id.0 ≡ true → (id.0 == rec.0) ≡ false) → (ds : List PDecl) →
    AllByRecursion (EveryDecl (kept_names q)) ds → has_body ds rec ≡ false
none-records q rec other [] h = refl
none-records q rec other (DTaskBody w objects its s ∷ ds) h = ap (λ b. b || has_body ds rec) (other w.name h.0.1) ∙ none-records q rec other ds h.1
none-records q rec other (DTask t s ∷ ds) h = none-records q rec other ds h.1
none-records q rec other (DNumber w e s ∷ ds) h = none-records q rec other ds h.1
none-records q rec other (DObject ws c x i s ∷ ds) h = none-records q rec other ds h.1
none-records q rec other (DEnumeration w ws s ∷ ds) h = none-records q rec other ds h.1
none-records q rec other (DArray w r x s ∷ ds) h = none-records q rec other ds h.1
none-records q rec other (DSubtype w x s ∷ ds) h = none-records q rec other ds h.1
none-records q rec other (DException ws s ∷ ds) h = none-records q rec other ds h.1
none-records q rec other (DIntIo w s ∷ ds) h = none-records q rec other ds h.1
none-records q rec other (DPragma e s ∷ ds) h = none-records q rec other ds h.1

-- ---- the recorder

module _ (p : PProgram) (h : IsLegalOriginal p) where
  abbrev q : PProgram
  q = made_for p

  abbrev rec : NameId
  rec = (names_added p).recorder

  abbrev x : AbortTeller
  x = told_in (main_unit (form_in p))

  unit-records : (inputs : List (List ℤ)) → unit_of (abort_text p) (abort_setting p).numbers (recorder_number p) ≡ recorder_unit (recorder_of p inputs)
  unit-records inputs =
      unit-at (abort_text p) (abort_setting p).numbers (last_task (form_in p).numbers) (recorder_info (names_added p)) (recorder-there p h)
      ∙ bodies-alone x q rec
      ∙ missing x q.names rec (decl_list q.decls) (recorder_body_told x q ∷ []) (none-records q rec (recorder-other p h) (decl_list q.decls)
      (checkable p h).declared)
      ∙ ap (λ (b : Bool). unwrap_or (if b then Some (recorder_unit (recorder_of p inputs)) else None) (unit_among no_decl rec)) (equal_self rec.0)

  -- The recorder starts before its header.
  pub legal_records : (inputs : List (List ℤ)) → started (abort_setting p) inputs (recorder_number p) ≡ starting (recorder_of p inputs)
  legal_records inputs = ap (λ (u : Unit). started_in (abort_setting p) (recorder_number p) u (slice_index_or inputs (recorder_number p) []))
      (unit-records inputs)

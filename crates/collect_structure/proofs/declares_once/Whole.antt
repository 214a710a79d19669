-- Rule Duplicate refuses nothing in the collecting text of a normal form whose names leave room for it.
use Rattle.std.proofs.Common.{◌≡◌, ℕ, List, [], ◌∷◌, ◌++◌, map, refl, sym, ap, ◌∙◌, subst, false, ◌==◌}
use Rattle.std.specs.List.{AllByRecursion, list_any}
use Rattle.std.proofs.lemmas.List.{append_assoc, append-nil}
use Rattle.ada_tree.specs.TypeTable.{TypeTable}
use Rattle.ada_tree.specs.PlainDecl.{PDecl, PDecls, decls_of}
use Rattle.ada_tree.specs.PlainProgram.{PProgram}
use Rattle.ada_static_rules.specs.Sites.{sites}
use Rattle.ada_decl_rules.specs.declared.duplicates.namings_in_order.Naming.{Naming}
use Rattle.syn_event.specs.Numbering.{Numbering}
use Rattle.normal_model.specs.NormalTree.{main_unit, normal_tree}
use Rattle.normal_laws.specs.structure.once.Once.{AllOnce}
use Rattle.normal_laws.specs.structure.once.Apart.{IsFreeOf}
use Rattle.replay_model.specs.ReplayTree.{last_task}
use Rattle.replay_structure.specs.declares_once.Names.{word_named}
use Rattle.replay_structure.proofs.texts.Listed.{normal-plain, normal-tasks, normal-bodies}
use Rattle.collect_model.specs.Names.{caller_text}
use Rattle.collect_model.specs.Teller.{Teller, teller_in}
use Rattle.collect_model.specs.Lines.{header_text}
use Rattle.collect_model.specs.CollectStmts.{main_body}
use Rattle.collect_model.specs.CollectTree.{behind_own, is_int_io, main_declared, collect_decl, recorder_told, recorder_body_told, units_told, collect_tree}
use Rattle.collect_structure.specs.Names.{new_texts}
use Rattle.collect_structure.specs.declares_once.Names.{LeavesNames}
use Rattle.collect_structure.specs.declares_once.Laws.{CollectDeclaresOnce}
use Rattle.collect_structure.proofs.declares_once.Ids.{ids, pick-free}
use Rattle.collect_structure.proofs.declares_once.Statements.{main-same}
use Rattle.collect_structure.proofs.declares_once.Text.{g, q, s, plain, ts, bs, A, F, X, all-tasks, all-bodies, B-good, M-good, loose, Parts, text_with, text-once}
use Rattle.collect_structure.proofs.declares_once.Units.{loose_texts, IsLoose, recorder-body-fit, bodies-same}
use Rattle.collect_structure.proofs.texts.Telling.{IsTelling, told-ones, told-tasks, told-bodies, told-words}
use Rattle.collect_structure.proofs.texts.Rooted.{collect-tells}

-- ---- the whole

module _ (p : PProgram) (types : TypeTable) (numbers : Numbering) (once : AllOnce [] (sites (normal_tree p types numbers))) (leaves : LeavesNames (normal_tree p types numbers)) where
  abbrev form : PProgram
  form = q p types numbers

  abbrev told : Teller
  told = teller_in (main_unit (g p types numbers))

  abbrev tells : IsTelling told.added (collect_decl told form.names)
  tells = collect-tells told form.names

  -- no further name is new
  nothing : (ms : List Naming) → AllByRecursion (λ (m : Naming). IsFreeOf [] (word_named m).name.0) ms
  nothing [] = tt
  nothing (m ∷ ms) = (refl, nothing ms)

  abbrev wide : AllByRecursion (λ (m : Naming). IsFreeOf [] (word_named m).name.0) (A p types numbers)
  wide = nothing (A p types numbers)

  caller-new : (x : ℕ) → IsFreeOf (X p types numbers) x → (told.added.caller.0 == x) ≡ false
  caller-new x h = pick-free form new_texts x h caller_text refl

  parts : Parts p types numbers once leaves [] wide
  parts = record {
    further = [];
    units = map (collect_decl told form.names) (ts p types numbers);
    others = map (collect_decl told form.names) (bs p types numbers);
    its = recorder_body_told told form ∷ [];
    main = main_body told form.body;
    variables = tt;
    new = record { fresh = tt; distinct = tt; apart = λ here h. tt; clear = λ x h. refl };
    apart = tt;
    tasks = told-ones told.added (collect_decl told form.names) tells (ts p types numbers) (all-tasks p types numbers);
    telling = told-tasks told.added (collect_decl told form.names) tells (ts p types numbers);
    bodies = told-bodies told.added (collect_decl told form.names) tells (bs p types numbers) (all-bodies p types numbers);
    words = told-words told.added (collect_decl told form.names) tells (bs p types numbers);
    same = bodies-same form (F p types numbers) [] fine told refl [] (bs p types numbers) (all-bodies p types numbers) (B-good p types numbers once leaves [] wide);
    body = (tt, tt);
    fine = λ held free. recorder-body-fit form (F p types numbers) [] fine (s p types numbers) (header_text form.names told.numbers) held free;
    fixes = λ held. refl;
    statements = main-same (F p types numbers) (X p types numbers) told fine.0.0 fine.0.1 caller-new form.body (M-good p types numbers once leaves [] wide);
  }
    where
      fine : AllByRecursion (IsLoose (F p types numbers)) (ids form loose_texts)
      fine = loose p types numbers once leaves [] wide

  -- the declarations of the collecting text
  listed : (collect_tree p types numbers).decls ≡ (text_with p types numbers once leaves [] wide parts (collect_tree p types numbers).names).decls
  unfolding parts
  listed =
      ap decls_of
      ((λ i. units_told told form (normal-plain p types numbers i) (normal-tasks p types numbers i) (normal-bodies p types numbers i))
      ∙ append_assoc (put ++ units ++ recorder) others its
      ∙ ap (λ (l : List PDecl). l ++ (others ++ its)) (append_assoc put units recorder)
      ∙ ap (λ (l : List PDecl). behind_own form.names l (plain p types numbers) ++ (units ++ recorder) ++ (others ++ its)) (sym (append-nil more)))
    where
      more : List PDecl
      more = main_declared told.added form.name.span (list_any is_int_io (plain p types numbers)) (last_task told.numbers)

      put : List PDecl
      put = behind_own form.names more (plain p types numbers)

      units : List PDecl
      units = map (collect_decl told form.names) (ts p types numbers)

      recorder : List PDecl
      recorder = recorder_told told form ∷ []

      others : List PDecl
      others = map (collect_decl told form.names) (bs p types numbers)

      its : List PDecl
      its = recorder_body_told told form ∷ []

  pub declares-once : AllOnce [] (sites (collect_tree p types numbers))
  unfolding parts
  declares-once =
      subst (λ (ds : PDecls). AllOnce [] (sites (record (collect_tree p types numbers) { decls = ds }))) (sym listed)
      (text-once p types numbers once leaves [] wide parts (collect_tree p types numbers).names)

pub collect_declares_once : CollectDeclaresOnce
collect_declares_once p types numbers once leaves = declares-once p types numbers once leaves

-- Rule Duplicate refuses nothing in the collecting text, with abort statements, of a normal form whose names leave room for it.
use Rattle.std.proofs.Common.{◌≡◌, ℕ, ◌≤◌, true, false, List, [], ◌∷◌, ◌++◌, map, slice_get, Option, Some, None, IsSomeAnd, sym, ap, ◌∙◌, subst}
use Rattle.std.specs.List.{AllByRecursion, list_any}
use Rattle.std.specs.Str.{bytes_eq}
use Rattle.std.proofs.lemmas.List.{append_assoc}
use Rattle.common_lemmas.proofs.Lists.{all_back, all_weaker}
use Rattle.ada_tree.specs.TypeTable.{TypeTable}
use Rattle.ada_tree.specs.PlainDecl.{PDecl, PDecls, decls_of}
use Rattle.ada_tree.specs.PlainProgram.{PProgram}
use Rattle.ada_static_rules.specs.Sites.{sites}
use Rattle.ada_decl_rules.specs.duplicates.NamingsInOrder.{namings_of}
use Rattle.ada_decl_rules.specs.declared.duplicates.namings_in_order.Naming.{Naming}
use Rattle.syn_event.specs.Numbering.{Numbering}
use Rattle.task_model.specs.Setting.{Setting}
use Rattle.normal_model.specs.NormalTree.{normal_tree}
use Rattle.normal_laws.specs.structure.once.Apart.{IsFreeOf}
use Rattle.normal_laws.specs.structure.once.Once.{AllOnce}
use Rattle.normal_laws.proofs.structure.numbers.Listed.{bodies, firsts, normal-list, tasks, vars}
use Rattle.replay_model.specs.ReplayTree.{last_task}
use Rattle.replay_structure.specs.declares_once.Names.{word_named}
use Rattle.replay_structure.proofs.texts.Listed.{normal-bodies, normal-plain, normal-tasks}
use Rattle.collect_model.specs.Lines.{header_text}
use Rattle.collect_model.specs.CollectTree.{behind_own, is_int_io, main_declared, recorder_told}
use Rattle.collect_structure.specs.Names.{new_texts}
use Rattle.collect_structure.specs.declares_once.Names as collect
use Rattle.collect_structure.proofs.declares_once.Ids.{ids}
use Rattle.collect_structure.proofs.declares_once.Text.{A, B-good, F, M-good, Parts, all-bodies, all-tasks, bs, g, loose, more-loose, normal-named, plain, q, s, text-once, text_with, ts}
use Rattle.collect_structure.proofs.declares_once.Units.{IsLoose, loose_texts}
use Rattle.collect_model.specs.aborts.AbortStmts.{main_body}
use Rattle.collect_model.specs.aborts.AbortTeller.{AbortTeller}
use Rattle.collect_model.specs.aborts.AbortTree.{abort_decl, abort_of, abort_tree, places_declared, recorder_body_told, units_told}
use Rattle.collect_model.specs.aborts.Places.{most_places, places_in, places_of}
use Rattle.collect_structure.specs.aborts.declares_once.Laws.{AbortDeclaresOnce}
use Rattle.collect_structure.specs.aborts.declares_once.Names.{IsOwn, LeavesNames, is_left}
use Rattle.collect_structure.proofs.aborts.declares_once.Ids.{further-new, further_ids, left-other, own-clear}
use Rattle.collect_structure.proofs.aborts.declares_once.Statements.{main-same}
use Rattle.collect_structure.proofs.aborts.declares_once.Units.{bodies-same, caller-loose, caller-new, places-apart, places-fresh, places-variables, recorder-body-fit, recorder-fixes, teller_for, told-is}
use Rattle.collect_structure.proofs.aborts.texts.Listed.{abort-tells}
use Rattle.collect_structure.proofs.aborts.texts.Named.{bodies-few, main-few}
use Rattle.collect_structure.proofs.texts.Telling.{IsTelling, told-ones, told-tasks, told-bodies, told-words}

-- names that are left alone leave room for the text without aborts too
pub leaves-told : (q : PProgram) → LeavesNames q → collect.LeavesNames q
leaves-told q leaves = record {
  begins = leaves.begins;
  kept = all_weaker (λ (n : Naming). IsOwn q.names (word_named n).name.0) (collect.IsKept q.names) (namings_of (sites q)) (λ n own. kept (word_named n).name.0 own) leaves.kept;
}
  where
    kept : (x : ℕ) → IsOwn q.names x → IsSomeAnd (slice_get q.names x) (λ t. list_any (bytes_eq t) new_texts ≡ false)
    kept x own = by_place (slice_get q.names x) own
      where
        by_place : (o : Option (List ℕ)) → IsSomeAnd o (λ t. is_left t ≡ true) → IsSomeAnd o (λ t. list_any (bytes_eq t) new_texts ≡ false)
        by_place None k = k
        by_place (Some t) k = left-other t k

-- ---- the whole

module _ (p : PProgram) (types : TypeTable) (numbers : Numbering) (once : AllOnce [] (sites (normal_tree p types numbers))) (leaves : LeavesNames (normal_tree p types numbers)) where
  abbrev form : PProgram
  form = q p types numbers

  abbrev setting : Setting
  setting = g p types numbers

  abbrev x : AbortTeller
  x = teller_for setting

  abbrev tells : IsTelling x.teller.added (abort_decl x form.names)
  tells = abort-tells x form.names

  abbrev further : List ℕ
  further = further_ids form

  room : collect.LeavesNames form
  room = leaves-told form leaves

  -- no further name stands in the normal form
  wide : AllByRecursion (λ (m : Naming). IsFreeOf further (word_named m).name.0) (A p types numbers)
  wide =
      all_weaker (λ (m : Naming). IsOwn form.names (word_named m).name.0) (λ (m : Naming). IsFreeOf further (word_named m).name.0) (A p types numbers)
      (λ m own. own-clear form (word_named m).name.0 own)
      (subst (AllByRecursion (λ (m : Naming). IsOwn form.names (word_named m).name.0)) (normal-named p types numbers) leaves.kept)

  fine : AllByRecursion (IsLoose (F p types numbers)) (ids form loose_texts)
  fine = loose p types numbers once room further wide

  further-fine : AllByRecursion (IsLoose (F p types numbers)) further
  further-fine = more-loose p types numbers once room further wide (further-new form leaves.begins leaves.few)

  -- no body of the normal form has more places than there are variables for
  few : AllByRecursion (λ d. places_of d ≤ most_places form) (bs p types numbers)
  few =
      let Few : PDecl → Type 0 = λ d. places_of d ≤ most_places form in
      let front : List PDecl = firsts p types numbers in
      all_back Few (vars p types numbers ++ tasks p types numbers) (bodies p types numbers)
      (all_back Few front (vars p types numbers ++ tasks p types numbers ++ bodies p types numbers) (subst (AllByRecursion Few) (normal-list p types numbers) (bodies-few form)))

  parts : Parts p types numbers once room further wide
  parts = record {
    further = places_declared x form.name.span (places_in form.body);
    units = map (abort_decl x form.names) (ts p types numbers);
    others = map (abort_decl x form.names) (bs p types numbers);
    its = recorder_body_told x form ∷ [];
    main = main_body x form.body;
    variables = places-variables setting leaves.begins leaves.few form.name.span (places_in form.body);
    new = places-fresh setting leaves.begins leaves.few (F p types numbers) fine further-fine form.name.span (places_in form.body) (main-few form);
    apart = places-apart setting leaves.begins leaves.few form.name.span (places_in form.body) (main-few form);
    tasks = told-ones x.teller.added (abort_decl x form.names) tells (ts p types numbers) (all-tasks p types numbers);
    telling = told-tasks x.teller.added (abort_decl x form.names) tells (ts p types numbers);
    bodies = told-bodies x.teller.added (abort_decl x form.names) tells (bs p types numbers) (all-bodies p types numbers);
    words = told-words x.teller.added (abort_decl x form.names) tells (bs p types numbers);
    same =
        bodies-same setting leaves.begins leaves.few (F p types numbers) fine further-fine [] (bs p types numbers) (all-bodies p types numbers) few
        (B-good p types numbers once room further wide);
    body = (tt, tt);
    fine = λ held free.
        recorder-body-fit setting leaves.begins leaves.few (F p types numbers) fine further-fine (s p types numbers) (header_text form.names x.teller.numbers) held free;
    fixes = λ held. recorder-fixes x (s p types numbers) (header_text form.names x.teller.numbers) held;
    statements =
        let caller = caller-loose setting leaves.begins leaves.few (F p types numbers) fine further-fine in
        main-same (F p types numbers) (ids form new_texts ++ further) x caller.0 caller.1 (caller-new setting leaves.begins leaves.few (F p types numbers) fine further-fine) form.body
        (M-good p types numbers once room further wide);
  }

  -- the declarations of the text
  listed : (abort_of x form).decls ≡ (text_with p types numbers once room further wide parts (abort_of x form).names).decls
  unfolding parts
  listed =
      ap decls_of
      ((λ i. units_told x form (normal-plain p types numbers i) (normal-tasks p types numbers i) (normal-bodies p types numbers i))
      ∙ append_assoc (put ++ units ++ recorder) others its
      ∙ ap (λ (l : List PDecl). l ++ (others ++ its)) (append_assoc put units recorder))
    where
      more : List PDecl
      more = main_declared x.teller.added form.name.span (list_any is_int_io (plain p types numbers)) (last_task x.teller.numbers) ++ places_declared x form.name.span (places_in form.body)

      put : List PDecl
      put = behind_own form.names more (plain p types numbers)

      units : List PDecl
      units = map (abort_decl x form.names) (ts p types numbers)

      recorder : List PDecl
      recorder = recorder_told x.teller form ∷ []

      others : List PDecl
      others = map (abort_decl x form.names) (bs p types numbers)

      its : List PDecl
      its = recorder_body_told x form ∷ []

  told-once : AllOnce [] (sites (abort_of x form))
  unfolding parts
  told-once =
      subst (λ (ds : PDecls). AllOnce [] (sites (record (abort_of x form) { decls = ds }))) (sym listed)
      (text-once p types numbers once room further wide parts (abort_of x form).names)

  pub declares-once : AllOnce [] (sites (abort_tree p types numbers))
  declares-once = subst (λ (u : AbortTeller). AllOnce [] (sites (abort_of u form))) (sym (told-is setting)) told-once

pub abort_declares_once : AbortDeclaresOnce
abort_declares_once p types numbers once leaves = declares-once p types numbers once leaves

-- What the two tasks that a replay text adds name, and their bodies.
use Rattle.std.proofs.Common.{◌≡◌, ℕ, suc, Bool, true, false, ◌||◌, ◌==◌, List, [], ◌∷◌, ◌++◌, length, map, drop, None, refl, ap, ap₂, ◌∙◌, append-nil}
use Rattle.std.specs.List.{AllByRecursion}
use Rattle.std.specs.Str.{bytes_eq}
use Rattle.std.proofs.lemmas.Bool.{or_from}
use Rattle.std.proofs.lemmas.Grind.{flat_map-append}
use Rattle.ada_tree.specs.declared.naming.Span.{Span}
use Rattle.ada_tree.specs.declared.naming.Word.{Word}
use Rattle.ada_static_rules.specs.RuleDuplicate.{is_predefined, is_among}
use Rattle.ada_tree.specs.PlainStmt.{stmts_of, case_arms_of, PBody, body, no_handler}
use Rattle.ada_tree.specs.PlainDecl.{PEntry, decls_of}
use Rattle.syn_event.specs.declared.numbering.TaskInfo.{TaskInfo}
use Rattle.normal_model.specs.Ranges.{word_at}
use Rattle.task_model.specs.Setting.{Setting}
use Rattle.control_script.specs.declared.Op.{Op}
use Rattle.common_lemmas.proofs.Lists.{all_front, all_back, all_joined, texts_differ}
use Rattle.ada_tree.specs.PlainProgram.{PProgram}
use Rattle.replay_model.specs.Names.{kind_text, argument_text, index_text, control_text, go_text, done_text, hold_text, idle_text, stop_text, rest_text, operations_text, tasks_text, kinds_text, arguments_text, indices_text, added_texts, added_word}
use Rattle.replay_model.specs.ReplayTree.{permit_declared, last_task}
use Rattle.replay_model.specs.declared.tables.names.ControlNames.{ControlNames}
use Rattle.replay_model.specs.tables.Columns.{acts, holds}
use Rattle.replay_model.specs.tables.Tables.{tables_for}
use Rattle.replay_model.specs.tables.Turns.{join_arms, turn}
use Rattle.replay_model.specs.tables.ControlBodies.{loops, waits}
use Rattle.replay_model.specs.Controlling.{added_entry, all_tasks, control_ids, permit_formals, control_body, idle_body}
use Rattle.replay_structure.proofs.texts.Rooted.{replay-has}
use Rattle.replay_structure.proofs.texts.Listed.{added_tasks}
use Rattle.normal_laws.proofs.structure.numbers.Named.{Has}
use Rattle.ada_decl_rules.specs.duplicates.NamedSoFar.{object_words}
use Rattle.ada_decl_rules.specs.duplicates.NamingsInOrder.{declared}
use Rattle.ada_decl_rules.specs.declared.duplicates.namings_in_order.Naming.{Naming}
use Rattle.ada_decl_rules.specs.declared.duplicates.namings_in_order.Naming.TheVariants.{Declares, Once}
use Rattle.normal_laws.specs.structure.once.Apart.{IsFreeOf, AreDistinct, fixed_name, fixed_names, IsFitIn}
use Rattle.normal_laws.specs.structure.once.Names.{stmt_names, case_arms_names, entries_names, tasks_names, inner_names, bodies_names}
use Rattle.normal_laws.proofs.structure.once.Once.{apart-none}
use Rattle.normal_laws.proofs.legality.declares_once.DeclaredNames.{word_ids}
use Rattle.replay_structure.proofs.declares_once.Ids.{apart-by, id, added-apart}
use Rattle.replay_structure.proofs.declares_once.Grown.{alone-from, declared-new}
use Rattle.replay_structure.proofs.declares_once.Plain.{AreFresh}
use Rattle.replay_structure.proofs.declares_once.Units.{entry_words, entries-new}

-- ---- ids of texts that every replay text adds

module _ (q : PProgram) where
  pub texts-apart : (a b : List ℕ) → Has added_texts a → Has added_texts b → bytes_eq a b ≡ false → bytes_eq a a ≡ true → (id q a == id q b) ≡ false
  texts-apart a b h k n e = added-apart q a b (replay-has q a h) (replay-has q b k) (apart-by (bytes_eq a) a b e n)

  pub control-idle : (id q control_text == id q idle_text) ≡ false
  control-idle = texts-apart control_text idle_text refl refl refl refl

  -- those of the variables of a permit
  pub permit-distinct : (s : Span) → AreDistinct (word_ids (object_words (permit_declared q s)))
  permit-distinct s = (
    or_from (id q argument_text == id q kind_text) ((id q index_text == id q kind_text) || false) (texts-apart argument_text kind_text refl refl refl refl)
        (or_from (id q index_text == id q kind_text) false (texts-apart index_text kind_text refl refl refl refl) refl),
    (or_from (id q index_text == id q argument_text) false (texts-apart index_text argument_text refl refl refl refl) refl, (refl, tt)),
  )

  -- those of the entries of the controller and of the idle task
  three-distinct : AreDistinct (id q go_text ∷ id q done_text ∷ id q hold_text ∷ [])
  three-distinct = (
    or_from (id q done_text == id q go_text) ((id q hold_text == id q go_text) || false) (texts-apart done_text go_text refl refl refl refl)
        (or_from (id q hold_text == id q go_text) false (texts-apart hold_text go_text refl refl refl refl) refl),
    (or_from (id q hold_text == id q done_text) false (texts-apart hold_text done_text refl refl refl refl) refl, (refl, tt)),
  )

  -- those of the controller's tables
  tables-distinct : AreDistinct (id q operations_text ∷ id q tasks_text ∷ id q kinds_text ∷ id q arguments_text ∷ id q indices_text ∷ [])
  tables-distinct = (
    none operations_text (tasks_text ∷ kinds_text ∷ arguments_text ∷ indices_text ∷ []) refl refl (refl, (refl, (refl, (refl, tt)))) (refl, (refl, (refl, (refl, tt)))),
    (
      none tasks_text (kinds_text ∷ arguments_text ∷ indices_text ∷ []) refl refl (refl, (refl, (refl, tt))) (refl, (refl, (refl, tt))),
      (none kinds_text (arguments_text ∷ indices_text ∷ []) refl refl (refl, (refl, tt)) (refl, (refl, tt)), (none arguments_text (indices_text ∷ []) refl refl (refl, tt) (refl, tt), (refl, tt))),
    ),
  )
    where
      none : (t : List ℕ) (us : List (List ℕ)) → Has added_texts t → bytes_eq t t ≡ true → AllByRecursion (Has added_texts) us → AllByRecursion (λ u. bytes_eq u t ≡ false) us →
          is_among (map (id q) us) (id q t) ≡ false
      none t [] h e hs ns = refl
      none t (u ∷ us) h e hs ns =
          or_from (id q u == id q t) (is_among (map (id q) us) (id q t)) (added-apart q u t (replay-has q u hs.0) (replay-has q t h) (texts_differ u t ns.0)) (none t us h e hs.1 ns.1)

  two-distinct : AreDistinct (id q stop_text ∷ id q rest_text ∷ [])
  two-distinct = (or_from (id q rest_text == id q stop_text) false (texts-apart rest_text stop_text refl refl refl refl) refl, (refl, tt))

-- ---- beside fixed names

module _ (F X : List ℕ) (g : Setting) (s : Span) (are : AreFresh F X (object_words (permit_declared g.program s))) where
  abbrev c : ℕ
  c = id g.program control_text

  abbrev d : ℕ
  d = id g.program idle_text

  abbrev parts : List Word
  parts = object_words (permit_declared g.program s)

  -- the formals of GO
  permit-fit : AllByRecursion (IsFitIn F) (declared false [] parts)
  permit-fit = declared-new F X [] parts are.fresh (apart-none (word_ids parts)) are.distinct

  -- ---- tasks

  idle-free : (here : List ℕ) → IsFreeOf here d → IsFreeOf (c ∷ here) d
  idle-free here b = or_from (c == d) (is_among here d) (control-idle g.program) b

  abbrev control_entries : List PEntry
  control_entries = added_entry g.program s go_text (all_tasks s (last_task g.numbers)) (permit_formals g.program s) ∷ added_entry g.program s done_text (all_tasks s (last_task g.numbers)) [] ∷ added_entry g.program s hold_text None [] ∷ []

  abbrev idle_entries : List PEntry
  idle_entries = added_entry g.program s stop_text None [] ∷ added_entry g.program s rest_text None [] ∷ []

  control-fit : AllByRecursion (IsFitIn F) (entries_names [] control_entries)
  control-fit = entries-new F X [] control_entries (apart-none (word_ids (entry_words control_entries))) (three-distinct g.program) (permit-fit, (tt, (tt, tt)))

  idle-fit : AllByRecursion (IsFitIn F) (entries_names [] idle_entries)
  idle-fit = entries-new F X [] idle_entries (apart-none (word_ids (entry_words idle_entries))) (two-distinct g.program) (tt, (tt, tt))

  pub added-tasks-fit : (here : List ℕ) → is_predefined c ≡ false → is_predefined d ≡ false → IsFreeOf here c → IsFreeOf here d → AllByRecursion (IsFitIn F) (tasks_names here (added_tasks g.program s (last_task g.numbers)))
  added-tasks-fit here p r a b =
      let second : List Naming = Declares true (is_among (c ∷ here) d) (added_word g.program s idle_text) ∷ (entries_names [] idle_entries ++ []) in
      let second-fit : AllByRecursion (IsFitIn F) second = ((alone-from true (is_among (c ∷ here) d) (added_word g.program s idle_text) r (idle-free here b), tt), all_joined (IsFitIn F) (entries_names [] idle_entries) [] idle-fit tt) in
      ((alone-from true (is_among here c) (added_word g.program s control_text) p a, tt), all_joined (IsFitIn F) (entries_names [] control_entries) second control-fit second-fit)

  pub added-tasks-fixed : (here : List ℕ) → fixed_names (tasks_names here (added_tasks g.program s (last_task g.numbers))) ≡ c ∷ d ∷ []
  added-tasks-fixed here = refl

  -- ---- bodies

  abbrev ids : ControlNames
  ids = control_ids g.program

  -- the tables and the loop parameter of the controller
  abbrev table_words : List Word
  table_words = word_at s ids.operations ∷ word_at s ids.tasks ∷ word_at s ids.kinds ∷ word_at s ids.arguments ∷ word_at s ids.indices ∷ []

  abbrev pub control_words : List Word
  control_words = table_words ++ word_at s ids.counter ∷ []

  -- the loop parameter is the last of these
  abbrev IsFreshWord : Word → Type 0
  IsFreshWord w = (is_predefined w.name.0 ≡ false) × IsFreeOf F w.name.0

  tables-fit : AllByRecursion IsFreshWord control_words → AllByRecursion (IsFitIn F) (declared false [] table_words)
  tables-fit n = declared-new F X [] table_words (all_front IsFreshWord table_words (word_at s ids.counter ∷ []) n) (apart-none (word_ids table_words)) (tables-distinct g.program)

  counter-fit : AllByRecursion IsFreshWord control_words → IsFitIn F (Declares false false (word_at s ids.counter))
  counter-fit n =
      let new = (all_back IsFreshWord table_words (word_at s ids.counter ∷ []) n).0 in
      (alone-from false false (word_at s ids.counter) new.0 refl, (new.1, tt))

  -- the controller's wait for the end of a task names TASKING_ERROR
  joins-fit : (t : ℕ) (infos : List TaskInfo) → AllByRecursion (IsFitIn F) (case_arms_names (case_arms_of (join_arms ids s t infos)))
  joins-fit t [] = tt
  joins-fit t (info ∷ infos) = ((refl, tt), joins-fit (suc t) infos)

  joins-fixed : (t : ℕ) (infos : List TaskInfo) → fixed_names (case_arms_names (case_arms_of (join_arms ids s t infos))) ≡ []
  joins-fixed t [] = refl
  joins-fixed t (info ∷ infos) = joins-fixed (suc t) infos

  abbrev joins : List TaskInfo → List Naming
  joins infos = case_arms_names (case_arms_of (join_arms ids s 1 (drop 1 infos)))

  turn-fit : (infos : List TaskInfo) → AllByRecursion (IsFitIn F) (stmt_names (turn ids infos s))
  turn-fit infos =
      all_joined (IsFitIn F) (declared false [] parts) ((joins infos ++ []) ++ []) permit-fit
      (all_joined (IsFitIn F) (joins infos ++ []) [] (all_joined (IsFitIn F) (joins infos) [] (joins-fit 1 (drop 1 infos)) tt) tt)

  turn-fixed : (infos : List TaskInfo) → fixed_names (stmt_names (turn ids infos s)) ≡ []
  turn-fixed infos = ap fixed_names (append-nil (joins infos ++ []) ∙ append-nil (joins infos)) ∙ joins-fixed 1 (drop 1 infos)

  -- the loop, and what stands behind it
  abbrev loop_names : List TaskInfo → List Naming
  loop_names infos = Declares false false (word_at s ids.counter) ∷ (stmt_names (turn ids infos s) ++ [])

  loop-fit : (infos : List TaskInfo) → AllByRecursion IsFreshWord control_words → AllByRecursion (IsFitIn F) (loop_names infos)
  loop-fit infos n = (counter-fit n, all_joined (IsFitIn F) (stmt_names (turn ids infos s)) [] (turn-fit infos) tt)

  loop-fixed : (infos : List TaskInfo) → fixed_names (loop_names infos) ≡ []
  loop-fixed infos = ap fixed_names (append-nil (stmt_names (turn ids infos s))) ∙ turn-fixed infos

  -- the controller's body, by what is made and whether it waits then
  abbrev its : List TaskInfo → List Op → Bool → PBody
  its infos made hold = body (stmts_of (loops ids infos s (length made) ++ waits ids s hold)) no_handler

  abbrev control_names : List TaskInfo → List Op → Bool → List Naming
  control_names infos made hold = inner_names (decls_of (tables_for ids s made)) (its infos made hold)

  inner-fit : (infos : List TaskInfo) (made : List Op) (hold : Bool) → AllByRecursion IsFreshWord control_words → AllByRecursion (IsFitIn F) (control_names infos made hold)
  inner-fit infos [] false n = tt
  inner-fit infos [] true n = tt
  inner-fit infos (op ∷ made) false n =
      all_joined (IsFitIn F) (declared false [] table_words) ((loop_names infos ++ []) ++ []) (tables-fit n) (all_joined (IsFitIn F) (loop_names infos ++ []) [] (all_joined (IsFitIn F) (loop_names infos) [] (loop-fit infos n) tt) tt)
  inner-fit infos (op ∷ made) true n =
      all_joined (IsFitIn F) (declared false [] table_words) ((loop_names infos ++ []) ++ []) (tables-fit n) (all_joined (IsFitIn F) (loop_names infos ++ []) [] (all_joined (IsFitIn F) (loop_names infos) [] (loop-fit infos n) tt) tt)

  loops-fixed : (infos : List TaskInfo) → fixed_names ((loop_names infos ++ []) ++ []) ≡ []
  loops-fixed infos = ap fixed_names (append-nil (loop_names infos ++ []) ∙ append-nil (loop_names infos)) ∙ loop-fixed infos

  inner-fixed : (infos : List TaskInfo) (made : List Op) (hold : Bool) → fixed_names (control_names infos made hold) ≡ []
  inner-fixed infos [] false = refl
  inner-fixed infos [] true = refl
  inner-fixed infos (op ∷ made) false = loops-fixed infos
  inner-fixed infos (op ∷ made) true = loops-fixed infos

  pub added-bodies-fit : (ops : List Op) (here : List ℕ) → AllByRecursion (λ (w : Word). (is_predefined w.name.0 ≡ false) × IsFreeOf F w.name.0) control_words → IsFreeOf here c → IsFreeOf here d →
      AllByRecursion (IsFitIn F) (bodies_names here (control_body g s ops ∷ idle_body g.program s ∷ []))
  added-bodies-fit ops here n a b =
      let second : List Naming = Once (is_among (c ∷ here) d) (added_word g.program s idle_text) ∷ [] in
      let second-fit : AllByRecursion (IsFitIn F) second = ((idle-free here b, tt), tt) in
      ((a, tt), all_joined (IsFitIn F) (control_names g.numbers.tasks (acts ops) (holds ops)) second (inner-fit g.numbers.tasks (acts ops) (holds ops) n) second-fit)

  pub added-bodies-fixed : (ops : List Op) (here : List ℕ) → fixed_names (bodies_names here (control_body g s ops ∷ idle_body g.program s ∷ [])) ≡ []
  added-bodies-fixed ops here =
      flat_map-append fixed_name (control_names g.numbers.tasks (acts ops) (holds ops)) (Once (is_among (c ∷ here) d) (added_word g.program s idle_text) ∷ [])
      ∙ ap₂ (λ (a b : List ℕ). a ++ b) (inner-fixed g.numbers.tasks (acts ops) (holds ops)) refl

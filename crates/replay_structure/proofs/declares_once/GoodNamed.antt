-- What holds of the good names of a legal program, of its variables and of the names of its tasks holds of all that its normal form declares and names.
use Rattle.std.proofs.Common.{◌≡◌, ℕ, ◌+◌, ◌<◌, ◌≤◌, Bool, true, false, ◌==◌, List, [], ◌∷◌, ◌++◌, length, map, flat_map, sym, ap, ◌∙◌, subst, arith, max}
use Rattle.std.specs.List.{AllByRecursion}
use Rattle.std.proofs.lemmas.Grind.{flat_map-append}
use Rattle.std.proofs.lemmas.List.Elements.{recursion_from_All}
use Rattle.common_lemmas.proofs.Lists.{all_front, all_back, all_joined, all_weaker, all_kept, all_unmapped}
use Rattle.ada_tree.specs.declared.naming.Word.{Word}
use Rattle.ada_tree.specs.PlainStmt.{PBody}
use Rattle.ada_tree.specs.PlainDecl.{PTask, PDecl, DNumber, DObject, DEnumeration, DArray, DSubtype, DException, DIntIo, DPragma, DTask, DTaskBody, PDecls, no_decl, decl_then, decls_of}
use Rattle.ada_tree.specs.PlainProgram.{PProgram}
use Rattle.ada_tree.specs.Every.{Rules, EveryWord, EveryDecl, EveryDecls, EveryBody, EveryEntry, EveryProgram}
use Rattle.ada_static_rules.specs.Sites.{with_words, sites}
use Rattle.syn_event.specs.declared.numbering.TaskInfo.{TaskInfo}
use Rattle.syn_event.specs.NamedTasks.{NumberedTask, task_names_of, numbered_tasks}
use Rattle.syn_event.specs.AllNumbers.{info_of_task}
use Rattle.syn_event.specs.DeclaredTasks.{decl_list, tasks_in}
use Rattle.syn_event.proofs.DeclLists.{listed_back}
use Rattle.task_model.specs.Setting.{Setting}
use Rattle.task_laws.specs.legal.rewritten_types.Rewriting.{names_declared}
use Rattle.normal_model.specs.Names.{variable_name, task_name}
use Rattle.normal_model.specs.RewrittenUnit.{RewrittenUnit}
use Rattle.normal_model.specs.NormalStmts.{normal_body, unit_variables}
use Rattle.normal_model.specs.NormalTree.{decls_front, first_decls, tasks_beside, unit_for, first_running, running, body_copy, bodies_of, main_unit, main_variables, variables_if, variables_of_body, variables_needed, greatest}
use Rattle.normal_laws.proofs.structure.units.Tasks.{list-front, made-tasks, tasks-of}
use Rattle.normal_laws.proofs.structure.units.Declared.{parts-all, numbered-tasks-all}
use Rattle.normal_laws.proofs.structure.numbers.Listed.{firsts, vars, tasks, bodies}
use Rattle.normal_laws.proofs.structure.numbers.Tasked.{under, normal-tasks-of}
use Rattle.normal_laws.specs.runs.forms.Normalisable.{numbers_of, setting_for, made_for}
use Rattle.normal_laws.proofs.runs.forms.Numbered.{AreNumbered, none_numbered, numbered_then, unit-numbered}
use Rattle.normal_laws.proofs.existence.units.Fields.{legal_is_ordered}
use Rattle.normal_laws.proofs.existence.units.TasksApart.{IsNamed}
use Rattle.normal_laws.specs.existence.Laws.{IsLegalOriginal}
use Rattle.ada_decl_rules.specs.duplicates.NamedSoFar.{object_words}
use Rattle.ada_decl_rules.specs.duplicates.NamingsInOrder.{namings_of, declared}
use Rattle.ada_decl_rules.specs.declared.duplicates.namings_in_order.Naming.{Naming}
use Rattle.normal_laws.specs.structure.once.Names.{body_names, entries_names, tasks_names, inner_names, bodies_names}
use Rattle.normal_laws.proofs.structure.once.Rewritten as normal
use Rattle.normal_laws.proofs.legality.declares_once.Ids.{IsGoodId}
use Rattle.normal_laws.proofs.legality.declares_once.Good.{good_names, program-good}
use Rattle.normal_laws.proofs.legality.declares_once.DeclaredNames.{ids_declared, word_ids}
use Rattle.normal_laws.proofs.legality.declares_once.Tasks.{ids-good}
use Rattle.replay_structure.specs.declares_once.Names.{word_named}
use Rattle.replay_structure.proofs.declares_once.Plain.{plain_names, instance_behind, plains_names}
use Rattle.replay_structure.proofs.declares_once.Named.{declared-all, body-obeys, entries-obey}
use Rattle.replay_structure.proofs.declares_once.Listed.{first_names, tasks_here, unit_names, copy_names, main_name}
use Rattle.normal_laws.proofs.legality.scopes.Main.{named as all-are-named}
use Rattle.replay_structure.proofs.declares_once.Whole.{normal-named}

-- ---- lists

pub greatest-of : (ns : List ℕ) → AllByRecursion (λ n. n ≤ greatest ns) ns
greatest-of [] = tt
greatest-of (n ∷ ns) = (omega arith, all_weaker (λ m. m ≤ greatest ns) (λ m. m ≤ max n (greatest ns)) ns (λ m h. omega (arith, h)) (greatest-of ns))

-- what holds of ids holds of the words that declarations declare
pub ids-words : (P : ℕ → Type 0) (ds : PDecls) → AllByRecursion P (ids_declared ds) → AllByRecursion (λ (w : Word). P w.name.0) (flat_map names_declared (decl_list ds))
ids-words P no_decl h = tt
ids-words P (decl_then d rest) h =
    all_joined (λ (w : Word). P w.name.0) (names_declared d) (flat_map names_declared (decl_list rest))
    (all_unmapped P (λ (w : Word). w.name.0) (names_declared d) (all_front P (word_ids (names_declared d)) (ids_declared rest) h))
    (ids-words P rest (all_back P (word_ids (names_declared d)) (ids_declared rest) h))

-- ---- the normal form of a legal program

module _ (p : PProgram) (h : IsLegalOriginal p) where
  abbrev g : Setting
  g = setting_for p

  abbrev q : PProgram
  q = made_for p

  abbrev count : ℕ
  count = variables_needed g

  abbrev r : Rules
  r = good_names p.names

  good : EveryProgram r p
  good = program-good p h

  few : AllByRecursion (λ n. n ≤ count) (length (main_variables g) ∷ map (variables_of_body g) (decl_list p.decls))
  few = greatest-of (length (main_variables g) ∷ map (variables_of_body g) (decl_list p.decls))

  -- What holds of each good name, of each variable and of each name of a task holds of all that is named.
  module _ (Own : ℕ → Type 0) (own : (x : ℕ) → IsGoodId p.names x → Own x) (variable : (k : ℕ) → k < count → Own (variable_name g k).0)
      (task : (info : TaskInfo) → IsNamed g info → Own (task_name g info).0) where
    abbrev Kept : Naming → Type 0
    Kept n = Own (word_named n).name.0

    abbrev IsOwnWord : Word → Type 0
    IsOwnWord w = Own w.name.0

    -- what is named by good names is kept
    good-kept : (ns : List Naming) → AllByRecursion (λ (n : Naming). EveryWord r (word_named n)) ns → AllByRecursion Kept ns
    good-kept ns k = all_weaker (λ (n : Naming). EveryWord r (word_named n)) Kept ns (λ n e. own (word_named n).name.0 e) k

    words-own : (ws : List Word) → AllByRecursion (EveryWord r) ws → AllByRecursion IsOwnWord ws
    words-own ws k = all_weaker (EveryWord r) IsOwnWord ws (λ w e. own w.name.0 e) k

    -- ---- variables

    objects-own : {vs : List PDecl} {k : ℕ} → AreNumbered g vs k → k + length vs ≤ count → AllByRecursion IsOwnWord (flat_map object_words vs)
    objects-own (none_numbered k) l = tt
    objects-own (numbered_then s x rest k more) l = (variable k (omega (arith, l)), objects-own more (omega (arith, l)))

    names-own : {vs : List PDecl} {k : ℕ} → AreNumbered g vs k → k + length vs ≤ count → AllByRecursion IsOwnWord (flat_map names_declared vs)
    names-own (none_numbered k) l = tt
    names-own (numbered_then s x rest k more) l = (variable k (omega (arith, l)), names-own more (omega (arith, l)))

    -- ---- the declarations of main

    plain-kept : (here : List ℕ) (inst : Bool) (d : PDecl) → AllByRecursion IsOwnWord (names_declared d) → AllByRecursion Kept (plain_names here inst d)
    plain-kept here inst (DNumber w e s) k = declared-all IsOwnWord true here (w ∷ []) k
    plain-kept here inst (DObject ws c x i s) k = declared-all IsOwnWord c here ws k
    plain-kept here inst (DEnumeration w ws s) k = declared-all IsOwnWord true here (w ∷ ws) k
    plain-kept here inst (DArray w e x s) k = declared-all IsOwnWord true here (w ∷ []) k
    plain-kept here inst (DSubtype w x s) k = declared-all IsOwnWord true here (w ∷ []) k
    plain-kept here inst (DException ws s) k = declared-all IsOwnWord true here ws k
    plain-kept here inst (DIntIo w s) k = (k.0, declared-all IsOwnWord true here (w ∷ []) k)
    plain-kept here inst (DPragma e s) k = tt
    plain-kept here inst (DTask t s) k = declared-all IsOwnWord true here (t.name ∷ []) k
    plain-kept here inst (DTaskBody w objects its s) k = tt

    plains-kept : (here : List ℕ) (inst : Bool) (ds : List PDecl) → AllByRecursion IsOwnWord (flat_map names_declared ds) → AllByRecursion Kept (plains_names here inst ds)
    plains-kept here inst [] k = tt
    plains-kept here inst (d ∷ ds) k =
        all_joined Kept (plain_names here inst d) (plains_names (with_words here (names_declared d)) (instance_behind inst d) ds)
        (plain-kept here inst d (all_front IsOwnWord (names_declared d) (flat_map names_declared ds) k))
        (plains-kept (with_words here (names_declared d)) (instance_behind inst d) ds (all_back IsOwnWord (names_declared d) (flat_map names_declared ds) k))

    first-own : AllByRecursion IsOwnWord (flat_map names_declared (decl_list (first_decls [] p.decls)))
    first-own = ids-words (Own) (first_decls [] p.decls) (all_weaker (IsGoodId p.names) (Own) (ids_declared (first_decls [] p.decls)) own (ids-good p h))

    abbrev plain : List PDecl
    plain = firsts p g.types g.numbers ++ vars p g.types g.numbers

    plain-own : AllByRecursion IsOwnWord (flat_map names_declared plain)
    plain-own =
        subst (AllByRecursion IsOwnWord) (sym (flat_map-append names_declared (firsts p g.types g.numbers) (vars p g.types g.numbers)))
        (all_joined IsOwnWord (flat_map names_declared (firsts p g.types g.numbers)) (flat_map names_declared (vars p g.types g.numbers)) first-own
        (names-own (unit-numbered (main_unit g) p.body) (let l : length (main_variables g) ≤ count = few.0 in omega (arith, l))))

    -- ---- tasks

    abbrev ys : List NumberedTask
    ys = numbered_tasks g.types p

    abbrev info : NumberedTask → TaskInfo
    info = info_of_task p.names

    abbrev HasGoodEntries : PTask → Type 0
    HasGoodEntries t = AllByRecursion (EveryEntry r) t.entries

    decls-entries : (ds : PDecls) → EveryDecls r ds → AllByRecursion HasGoodEntries (tasks_in (decl_list ds))
    decls-entries no_decl a = tt
    decls-entries (decl_then (DTask t s) rest) a = (recursion_from_All (EveryEntry r) t.entries a.0.1.1, decls-entries rest a.1)
    decls-entries (decl_then d rest) a = decls-entries rest a.1

    good-entries : AllByRecursion (λ (y : NumberedTask). HasGoodEntries y.unit) ys
    good-entries = numbered-tasks-all HasGoodEntries g.types (task_names_of p) (parts-all HasGoodEntries p.decls [] tt (decls-entries p.decls good.2))

    tasks-kept : (here : List ℕ) (zs : List NumberedTask) → AllByRecursion (λ (y : NumberedTask). IsNamed g (info y)) zs → AllByRecursion (λ (y : NumberedTask). HasGoodEntries y.unit) zs →
        AllByRecursion Kept (tasks_names here (map (under g) zs))
    tasks-kept here [] n e = tt
    tasks-kept here (y ∷ zs) n e =
        let x : ℕ = (task_name g (info y)).0 in (
          task (info y) n.0,
          all_joined Kept (entries_names [] y.unit.entries) (tasks_names (x ∷ here) (map (under g) zs))
              (good-kept (entries_names [] y.unit.entries) (entries-obey r [] y.unit.entries e.0)) (tasks-kept (x ∷ here) zs n.1 e.1),
        )

    tasks-are : tasks_in (tasks p g.types g.numbers) ≡ map (under g) ys
    tasks-are = made-tasks g (tasks_beside g) ∙ sym (tasks-of p g.types g.numbers) ∙ normal-tasks-of p g.types (legal_is_ordered p g.types (numbers_of p) h.legal h.placed)

    units-kept : (here : List ℕ) → AllByRecursion Kept (tasks_names here (tasks_in (tasks p g.types g.numbers)))
    units-kept here = subst (λ (l : List PTask). AllByRecursion Kept (tasks_names here l)) (sym tasks-are) (tasks-kept here ys (all_unmapped (IsNamed g) info ys (all-are-named p h)) good-entries)

    -- ---- bodies

    object-good : (d : PDecl) → EveryDecl r d → AllByRecursion (EveryWord r) (object_words d)
    object-good (DObject ws c x i s) e = recursion_from_All (EveryWord r) ws e.1.1
    object-good d e = tt

    objects-good : (ds : PDecls) → EveryDecls r ds → AllByRecursion (EveryWord r) (flat_map object_words (decl_list ds))
    objects-good no_decl e = tt
    objects-good (decl_then d rest) e = all_joined (EveryWord r) (object_words d) (flat_map object_words (decl_list rest)) (object-good d e.0) (objects-good rest e.1)

    body-kept : (u : RewrittenUnit) (its : PBody) → EveryBody r 1 its → AllByRecursion Kept (body_names (normal_body u its))
    body-kept u its e = subst (AllByRecursion Kept) (sym (normal.body-same u its)) (good-kept (body_names its) (body-obeys r 1 its e))

    inner-kept : (t : ℕ) (objects : PDecls) (its : PBody) → EveryDecls r objects → EveryBody r 1 its → length (unit_variables (record { setting = g; task = t }) its) ≤ count →
        AllByRecursion Kept (inner_names (decls_front objects (decls_of (unit_variables (record { setting = g; task = t }) its))) (normal_body (record { setting = g; task = t }) its))
    inner-kept t objects its a b l =
        let u : RewrittenUnit = record { setting = g; task = t } in
        let vs : List PDecl = unit_variables u its in
        let ds : List PDecl = decl_list (decls_front objects (decls_of vs)) in
        let parts : flat_map object_words ds ≡ flat_map object_words (decl_list objects) ++ flat_map object_words vs =
        ap (flat_map object_words) (list-front objects (decls_of vs) ∙ ap (λ (l : List PDecl). decl_list objects ++ l) (listed_back vs)) ∙ flat_map-append object_words (decl_list objects) vs in
        all_joined Kept (declared false [] (flat_map object_words ds)) (body_names (normal_body u its))
        (declared-all IsOwnWord false [] (flat_map object_words ds)
        (subst (AllByRecursion IsOwnWord) (sym parts)
        (all_joined IsOwnWord (flat_map object_words (decl_list objects)) (flat_map object_words vs)
        (words-own (flat_map object_words (decl_list objects)) (objects-good objects a)) (objects-own (unit-numbered u its) (omega (arith, l))))))
        (body-kept u its b)

    abbrev KeptBody : PDecl → Type 0
    KeptBody (DTaskBody w objects its s) = IsOwnWord w × AllByRecursion Kept (inner_names objects its)
    KeptBody _ = ⊥

    copies-kept : (names : List ℕ) (bs : List PDecl) → AllByRecursion KeptBody bs → AllByRecursion Kept (bodies_names names bs)
    copies-kept names [] k = tt
    copies-kept names (DTaskBody w objects its s ∷ bs) k = (k.0.0, all_joined Kept (inner_names objects its) (bodies_names (w.name.0 ∷ names) bs) k.0.1 (copies-kept (w.name.0 ∷ names) bs k.1))
    copies-kept names (d ∷ bs) k = absurd k.0

    each-kept : (ds : PDecls) → EveryDecls r ds → AllByRecursion (λ d. variables_of_body g d ≤ count) (decl_list ds) → AllByRecursion KeptBody (flat_map (bodies_of g) (decl_list ds))
    each-kept no_decl a l = tt
    each-kept (decl_then (DTaskBody w objects its s) rest) a l =
        all_joined KeptBody (bodies_of g (DTaskBody w objects its s)) (flat_map (bodies_of g) (decl_list rest))
        (copies (running g w.name) l.0 (all_kept (IsNamed g) (λ i. i.unit.0 == w.name.0) (tasks_beside g) (all-are-named p h))) (each-kept rest a.1 l.1)
      where
        vs : List PDecl
        vs = unit_variables (unit_for g w.name) its

        same : (infos : List TaskInfo) → length vs ≤ count → AllByRecursion (IsNamed g) infos →
            AllByRecursion KeptBody (map (body_copy g w objects vs (normal_body (unit_for g w.name) its) (λ ds b v. DTaskBody v ds b s)) infos)
        same [] k n = tt
        same (i ∷ infos) k n = ((task i n.0, inner-kept (first_running g w.name) objects its a.0.3 a.0.4 k), same infos k n.1)

        copies : (infos : List TaskInfo) → variables_if infos vs ≤ count → AllByRecursion (IsNamed g) infos →
            AllByRecursion KeptBody (map (body_copy g w objects vs (normal_body (unit_for g w.name) its) (λ ds b v. DTaskBody v ds b s)) infos)
        copies [] k n = tt
        copies (i ∷ infos) k n = same (i ∷ infos) k n
    each-kept (decl_then d rest) a l = each-kept rest a.1 l.1

    -- ---- the whole

    abbrev ts : List PDecl
    ts = tasks p g.types g.numbers

    abbrev bs : List PDecl
    bs = bodies p g.types g.numbers

    abbrev N : List Naming
    N = main_name q plain ts bs

    abbrev P : List Naming
    P = first_names q plain ts bs

    abbrev T : List Naming
    T = unit_names q plain ts bs

    abbrev B : List Naming
    B = copy_names q plain ts bs

    all-kept : AllByRecursion Kept ((N ++ (P ++ T ++ B)) ++ body_names q.body)
    all-kept =
        all_joined Kept (N ++ (P ++ T ++ B)) (body_names q.body)
        (all_joined Kept N (P ++ T ++ B) (own p.name.name.0 good.0, tt)
        (all_joined Kept (P ++ T) B
        (all_joined Kept P T (plains-kept (p.name.name.0 ∷ []) false plain plain-own) (units-kept (tasks_here q plain ts bs)))
        (copies-kept [] bs (each-kept p.decls good.2 (all_unmapped (λ n. n ≤ count) (variables_of_body g) (decl_list p.decls) few.1)))))
        (body-kept (main_unit g) p.body good.3)

    pub all-named-kept : AllByRecursion Kept (namings_of (sites q))
    all-named-kept = subst (AllByRecursion Kept) (sym (normal-named p g.types g.numbers [])) all-kept

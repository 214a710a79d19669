-- The entries of a replay text, as they are numbered, are those of the definition, but for what they stand for.
use Rattle.std.proofs.Common.{◌≡◌, ℕ, suc, ◌+◌, pos, true, false, ◌||◌, List, [], ◌∷◌, ◌++◌, length, map, slice_get, is_some, Some, None, refl, sym, ap, ap₂, ◌∙◌, subst, arith}
use Rattle.std.specs.List.{AllByRecursion}
use Rattle.std.proofs.lemmas.Bool.{or_left, or_right}
use Rattle.std.proofs.lemmas.List.{map-append}
use Rattle.ada_tree.specs.declared.naming.Span.{Span}
use Rattle.ada_tree.specs.TypeTable.{TypeTable}
use Rattle.ada_tree.specs.PlainStmt.{PFormal}
use Rattle.ada_tree.specs.PlainDecl.{PEntry, PTask}
use Rattle.ada_tree.specs.PlainProgram.{PProgram}
use Rattle.syn_event.specs.declared.numbering.EntryInfo.{EntryInfo}
use Rattle.syn_event.specs.AddedNames.{is_added_name, with_origin}
use Rattle.syn_event.specs.NamedTasks.{NumberedTask}
use Rattle.syn_event.specs.AllNumbers.{first_of, last_index, family_extent, entry_of_task, entries_of_tasks}
use Rattle.syn_event.specs.DeclaredTasks.{text_of}
use Rattle.task_model.specs.Setting.{Setting}
use Rattle.replay_model.specs.Names.{control_text, go_text, done_text, hold_text, idle_text, stop_text, rest_text, never_text, join_text, double_text, added_texts, replay_names, added_id, added_word}
use Rattle.replay_model.specs.Controlling.{added_entry, all_tasks, permit_formals}
use Rattle.replay_model.specs.ReplayTree.{double_entry, more_entries}
use Rattle.replay_model.specs.ReplayNumbers.{plain_info, family_info, double_info, own_entries, more_infos, all_infos, added_infos}
use Rattle.normal_laws.proofs.structure.numbers.Named.{Has, IsReserved, reserved-added}
use Rattle.normal_laws.proofs.structure.numbers.TasksNumbered.{single_task}
use Rattle.replay_structure.proofs.texts.Listed.{more_task, added_tasks}
use Rattle.replay_structure.proofs.texts.Rooted.{replay-has}
use Rattle.replay_structure.proofs.texts.Stripped.{strip}
use Rattle.replay_structure.proofs.texts.Owned.{told}
use Rattle.common_lemmas.proofs.Numbers.{more_zero}

plus-more : (t k : ℕ) → t + suc k ≡ (t + 1) + k
plus-more t k = omega arith

-- three lists through two functions
mapped-parts : {A B C : Type 0} (h : B → C) (f : A → B) (a b c : List A) → map h (map f (a ++ b ++ c)) ≡ map h (map f a) ++ map h (map f b) ++ map h (map f c)
mapped-parts h f a b c =
    ap (map h) (map-append f (a ++ b) c ∙ ap (λ l. l ++ map f c) (map-append f a b))
    ∙ map-append h (map f a ++ map f b) (map f c)
    ∙ ap (λ l. l ++ map h (map f c)) (map-append h (map f a) (map f b))

joined-parts : {B C : Type 0} (h : B → C) (a b c : List B) → map h (a ++ b ++ c) ≡ map h a ++ map h b ++ map h c
joined-parts h a b c = map-append h (a ++ b) c ∙ ap (λ l. l ++ map h c) (map-append h a b)

-- ---- one entry

-- n is the normal form, by whose replay text's table U entries are numbered; T is the program's table, and `before` are its names
module _ (n : PProgram) (before : List (List ℕ)) (T U : TypeTable) where
  -- the entry has the same range in the replay text, and is added there where it is added in the program, which has its double
  pub record IsKept (e : PEntry) : Type 0 where
    pub range : family_extent U e.family ≡ family_extent T e.family
    pub added : is_added_name (replay_names n) e.name.name ≡ is_added_name before e.name.name
    pub double : Has (replay_names n) (double_text (text_of n.names e.name.name))

  module _ (all : List EntryInfo) (t : ℕ) (y : NumberedTask) (x : PTask) (same : is_added_name (replay_names n) x.name.name ≡ is_added_name before y.name) where
    -- an entry in the replay text
    abbrev numbered : PEntry → EntryInfo
    numbered e = strip (entry_of_task (replay_names n) U t (single_task x) e)

    original : (e : PEntry) → IsKept e → numbered e ≡ strip (with_origin before all (entry_of_task before T t y e))
    original e kept = λ i. record {
      name = e.name.name;
      owner = t;
      family = is_some e.family;
      first = first_of (kept.range i);
      last = last_index (kept.range i);
      added = same i || kept.added i;
      stands_for = None;
    }

    double : (e : PEntry) → IsKept e → numbered (double_entry n e) ≡ strip (double_info n (with_origin before all (entry_of_task before T t y e)))
    double e kept = λ i. record {
      name = added_id n (double_text (text_of n.names e.name.name));
      owner = t;
      family = is_some e.family;
      first = first_of (kept.range i);
      last = last_index (kept.range i);
      added = or_right (is_added_name (replay_names n) x.name.name) _ (reserved-added (replay_names n) (double_text (text_of n.names e.name.name)) kept.double refl) i;
      stands_for = None;
    }

    originals : (es : List PEntry) → AllByRecursion IsKept es → map strip (map (entry_of_task (replay_names n) U t (single_task x)) es) ≡ map strip (told before T all t y es)
    originals [] h = refl
    originals (e ∷ es) h = λ i. original e h.0 i ∷ originals es h.1 i

    doubles : (es : List PEntry) → AllByRecursion IsKept es →
        map strip (map (entry_of_task (replay_names n) U t (single_task x)) (map (double_entry n) es)) ≡ map strip (map (double_info n) (told before T all t y es))
    doubles [] h = refl
    doubles (e ∷ es) h = λ i. double e h.0 i ∷ doubles es h.1 i

  -- an entry that a text adds
  plain-added : (t u : ℕ) → t ≡ u → (x : PTask) (s : Span) (text : List ℕ) → (is_added_name (replay_names n) x.name.name || is_added_name (replay_names n) (added_id n text)) ≡ true →
      strip (entry_of_task (replay_names n) U t (single_task x) (added_entry n s text None [])) ≡ strip (plain_info n u text)
  plain-added t u e x s text a = λ i. record { name = added_id n text; owner = e i; family = false; first = pos 0; last = pos 0; added = a i; stands_for = None }

  family-added : (t u : ℕ) → t ≡ u → (x : PTask) (s : Span) (text : List ℕ) (last : ℕ) (formals : List PFormal) →
      (is_added_name (replay_names n) x.name.name || is_added_name (replay_names n) (added_id n text)) ≡ true →
      strip (entry_of_task (replay_names n) U t (single_task x) (added_entry n s text (all_tasks s last) formals)) ≡ strip (family_info n u text last)
  family-added t u e x s text last formals a = λ i. record { name = added_id n text; owner = e i; family = true; first = pos 0; last = pos last; added = a i; stands_for = None }

  -- ---- one task

  -- the entries of a task, which are those of its numbered task in the program, with their doubles and two more
  block :
      (g : Setting) → g.program ≡ n → (all : List EntryInfo) (t : ℕ) (y : NumberedTask) (x : PTask) →
      is_added_name (replay_names n) x.name.name ≡ is_added_name before y.name →
      AllByRecursion IsKept x.entries →
      own_entries g.numbers t ≡ told before T all t y x.entries →
      map strip (map (entry_of_task (replay_names n) U t (single_task (more_task n x))) (more_entries n x)) ≡ map strip (more_infos g t)
  block g program all t y x same kept own =
      mapped-parts strip (entry_of_task (replay_names n) U t (single_task (more_task n x))) x.entries (map (double_entry n) x.entries) (never ∷ join ∷ [])
      ∙ (λ i. originals all t y x same x.entries kept i ++ doubles all t y x same x.entries kept i ++ (plain-added t t refl x x.name.span never_text (late never_text refl refl) i ∷ plain-added t t refl x x.name.span join_text (late join_text refl refl) i ∷ []))
      ∙ sym
      (joined-parts strip (own_entries g.numbers t) (map (double_info g.program) (own_entries g.numbers t)) (plain_info g.program t never_text ∷ plain_info g.program t join_text ∷ [])
      ∙ (λ i. map strip (own i) ++ map strip (map (double_info (program i)) (own i)) ++ (strip (plain_info (program i) t never_text) ∷ strip (plain_info (program i) t join_text) ∷ [])))
    where
      never : PEntry
      never = added_entry n x.name.span never_text None []

      join : PEntry
      join = added_entry n x.name.span join_text None []

      late : (text : List ℕ) → Has added_texts text → IsReserved text → (is_added_name (replay_names n) x.name.name || is_added_name (replay_names n) (added_id n text)) ≡ true
      late text h r = or_right (is_added_name (replay_names n) x.name.name) _ (reserved-added (replay_names n) text (replay-has n text h) r)

  -- ---- all tasks

  -- the numbered task's task in the normal form is added there where the numbered task is in the program, and its entries are kept
  pub record IsTaskKept (under : NumberedTask → PTask) (y : NumberedTask) : Type 0 where
    pub added : is_added_name (replay_names n) (under y).name.name ≡ is_added_name before y.name
    pub entries : AllByRecursion IsKept (under y).entries

  pub whole :
      (g : Setting) → g.program ≡ n → (all : List EntryInfo) (under : NumberedTask → PTask) → ((y : NumberedTask) → (under y).entries ≡ y.unit.entries) → (ys : List NumberedTask) (t : ℕ) →
      AllByRecursion (IsTaskKept under) ys →
      ((k : ℕ) (y : NumberedTask) → slice_get ys k ≡ Some y → own_entries g.numbers (t + k) ≡ told before T all (t + k) y y.unit.entries) →
      map strip (entries_of_tasks (replay_names n) U t (map single_task (map (more_task n) (map under ys)))) ≡ map strip (all_infos g (length ys) t)
  whole g program all under entries [] t kept own = refl
  whole g program all under entries (y ∷ ys) t kept own =
      map-append strip (map (entry_of_task (replay_names n) U t (single_task (more_task n (under y)))) (more_entries n (under y))) (entries_of_tasks (replay_names n) U (t + 1) (map single_task (map (more_task n) (map under ys))))
      ∙ ap₂ (λ (a b : List EntryInfo). a ++ b)
      (block g program all t y (under y) kept.0.added kept.0.entries (subst (λ v. own_entries g.numbers v ≡ told before T all v y y.unit.entries) (more_zero t) (own 0 y refl) ∙ ap (told before T all t y) (sym (entries y))))
      (whole g program all under entries ys (t + 1) kept.1 (λ k z at. subst (λ v. own_entries g.numbers v ≡ told before T all v z z.unit.entries) (plus-more t k) (own (suc k) z at)))
      ∙ sym (map-append strip (more_infos g t) (all_infos g (length ys) (t + 1)))

  -- ---- the controller and the idle task

  pub added-part : (s : Span) (t last : ℕ) → t ≡ last + 1 →
      map strip (entries_of_tasks (replay_names n) U t (map single_task (added_tasks n s last))) ≡ map strip (added_infos n last)
  added-part s t last e = λ i.
      family-added t (last + 1) e control s go_text last (permit_formals n s) (of_control go_text) i
      ∷ family-added t (last + 1) e control s done_text last [] (of_control done_text) i
      ∷ plain-added t (last + 1) e control s hold_text (of_control hold_text) i
      ∷ plain-added (t + 1) (last + 2) (omega (arith, e)) idle s stop_text (of_idle stop_text) i
      ∷ plain-added (t + 1) (last + 2) (omega (arith, e)) idle s rest_text (of_idle rest_text) i
      ∷ []
    where
      control : PTask
      control = record { name = added_word n s control_text; of_kind = false; entries = []; priorities = [] }

      idle : PTask
      idle = record { name = added_word n s idle_text; of_kind = false; entries = []; priorities = [] }

      of_control : (text : List ℕ) → (is_added_name (replay_names n) (added_id n control_text) || is_added_name (replay_names n) (added_id n text)) ≡ true
      of_control text = or_left (is_added_name (replay_names n) (added_id n control_text)) _ (reserved-added (replay_names n) control_text (replay-has n control_text refl) refl)

      of_idle : (text : List ℕ) → (is_added_name (replay_names n) (added_id n idle_text) || is_added_name (replay_names n) (added_id n text)) ≡ true
      of_idle text = or_left (is_added_name (replay_names n) (added_id n idle_text)) _ (reserved-added (replay_names n) idle_text (replay-has n idle_text refl) refl)

-- In the numbers of the replay text of a legal program the entries of the program and their doubles stand for these entries, and all else is added.
use Rattle.std.proofs.Common.{◌≡◌, ℕ, suc, ◌+◌, ◌<◌, ◌==◌, ◌&&◌, nat_lt, nat_eq, not, cond, Bool, true, false, List, [], ◌∷◌, ◌++◌, length, map, take, position, slice_get, option_map, codes, Option, Some, None, refl, sym, ap, ◌∙◌, subst, true≢false, arith}
use Rattle.std.specs.List.{AllByRecursion, count_by, starts_with}
use Rattle.std.specs.Option.{option_map_or}
use Rattle.std.specs.Cmp.Lexicographic.{pointwise, same_text}
use Rattle.std.proofs.lemmas.List.{take-map}
use Rattle.std.proofs.lemmas.List.Folds.{fold-map}
use Rattle.std.proofs.lemmas.Option.{slice_get-map, slice_get_within}
use Rattle.ada_tree.specs.TypeTable.{TypeTable}
use Rattle.ada_tree.specs.PlainDecl.{PTask}
use Rattle.ada_tree.specs.PlainProgram.{PProgram}
use Rattle.ada_static_rules.specs.Refusals.{types_in}
use Rattle.syn_event.specs.declared.numbering.TaskInfo.{TaskInfo}
use Rattle.syn_event.specs.declared.numbering.EntryInfo.{EntryInfo}
use Rattle.syn_event.specs.Numbering.{Numbering, entry_at, is_added_task, is_original_entry}
use Rattle.syn_event.specs.Origin.{entry_number, original_entry}
use Rattle.syn_event.specs.AddedNames.{is_added_name, task_info, speaks_of, original_number, with_origin}
use Rattle.syn_event.specs.NamedTasks.{NumberedTask, numbered_tasks}
use Rattle.syn_event.specs.DeclaredTasks.{text_of}
use Rattle.task_model.specs.Setting.{Setting}
use Rattle.common_lemmas.proofs.Lists.{all_by_place, all_paired, all_weaker, element_at, holds_at}
use Rattle.common_lemmas.proofs.Numbers.{lt_false, more_zero}
use Rattle.common_lemmas.proofs.Truth.{false_behind, if_false, if_true}
use Rattle.task_laws.proofs.legal.rewritten_types.Lookups.{place-more}
use Rattle.normal_laws.proofs.structure.numbers.Named.{reserved-added, text-there, added-longer, own-within, own-not-added}
use Rattle.normal_laws.proofs.structure.numbers.Tasked.{under, normal-tasks-of}
use Rattle.normal_laws.proofs.structure.numbers.TaskNames.{IsFine, IsNamed, normal-begins, all-fine, all-named}
use Rattle.normal_laws.specs.runs.forms.Normalisable.{numbers_of, setting_for, made_for}
use Rattle.normal_laws.specs.existence.Laws.{IsLegalOriginal}
use Rattle.normal_laws.proofs.legality.checks.Facts as facts
use Rattle.run_laws.specs.replaying.Copies.{Spots}
use Rattle.replay_model.specs.Names.{control_text, idle_text, never_text, join_text, replay_names, added_id}
use Rattle.replay_model.specs.ReplayTree.{last_task}
use Rattle.replay_model.specs.ReplayNumbers.{plain_info, all_infos, added_infos, numbers_replayed}
use Rattle.replay_structure.specs.spots.Places.{total, original_place, never_place, join_place, counts, entries_from, text_spots}
use Rattle.replay_structure.specs.spots.Laws.{IsInOrder}
use Rattle.replay_structure.specs.spots.inner.Origins.{HasOrigins}
use Rattle.replay_structure.proofs.spots.Counted.{number-is}
use Rattle.replay_structure.proofs.spots.First.{first, none, all-mapped}
use Rattle.replay_structure.proofs.spots.Ordered.{normal_is_in_order}
use Rattle.replay_structure.proofs.spots.Placed.{place-past, entry-suc, total-is, tasks-are, original-there, never-there, join-there, near, its-owner}
use Rattle.replay_structure.proofs.spots.Standing.{doubles_stand}
use Rattle.replay_structure.proofs.texts.Rooted.{replay-has, text-begins}
use Rattle.replay_runs.specs.starts.Laws.{form_in}
use Rattle.replay_runs.proofs.controls.meanings.Naming.{owner-below}
use Rattle.replay_runs.proofs.controls.replayed.Originals.{own, ded, IsOwnEntry, entries-are-own, are-original, is-first}

-- ---- lists and texts

none-there : {A : Type 0} (f : A → Bool) (xs : List A) → AllByRecursion (λ x. f x ≡ false) xs → position f xs ≡ None
none-there f xs h = ap (λ (b : Bool). cond b (Some (first f xs)) None) (ap (λ n. nat_lt n (length xs)) (none f xs h) ∙ lt_false (length xs) (length xs) (omega arith))

-- a text that does not begin with DED_ is that of no double
plain-other : (t u : List ℕ) → starts_with nat_eq t (codes "DED_") ≡ false → pointwise nat_eq t (codes "DED_S_" ++ u) ≡ false
plain-other t u plain = by_test (pointwise nat_eq t (codes "DED_S_" ++ u)) refl
  where
    by_test : (b : Bool) → pointwise nat_eq t (codes "DED_S_" ++ u) ≡ b → b ≡ false
    by_test false e = refl
    by_test true e = absurd (true≢false (sym (ap (λ v. starts_with nat_eq v (codes "DED_")) (same_text t (codes "DED_S_" ++ u) (sym e))) ∙ plain))

-- ---- what entries stand for

-- the entry, that stands for this
abbrev standing : EntryInfo → Option ℕ → EntryInfo
standing x o = record { name = x.name; owner = x.owner; family = x.family; first = x.first; last = x.last; added = x.added; stands_for = o }

number-of : (numbers : Numbering) (e : ℕ) (x : EntryInfo) (o : Option ℕ) → entry_at numbers e ≡ Some x → x.stands_for ≡ o →
    original_entry numbers e ≡ entry_number numbers e (Some (standing x o))
number-of numbers e x o at s = ap (entry_number numbers e) at ∙ ap (λ v. entry_number numbers e (Some (standing x v))) s

module _ (far : Spots) (g : Setting) where
  abbrev names : List (List ℕ)
  names = replay_names g.program

  abbrev last : ℕ
  last = last_task g.numbers

  abbrev ks : List ℕ
  ks = counts g.numbers last 1

  abbrev xs : List EntryInfo
  xs = all_infos g last 1 ++ added_infos g.program last

  abbrev N : Numbering
  N = numbers_replayed g

  abbrev full : EntryInfo → EntryInfo
  full = with_origin names xs

  -- one of the tasks' entries by its place, with what it stands for
  full-at : (m e : ℕ) (x : EntryInfo) → e ≡ suc m → slice_get (all_infos g last 1) m ≡ Some x → entry_at N e ≡ Some (full x)
  full-at m e x s at =
      ap (entry_at N) s ∙ entry-suc N m ∙ slice_get-map full xs m
      ∙ ap (option_map full) (place-more (all_infos g last 1) (added_infos g.program last) m x at)

  -- the entry has the name of no double
  abbrev IsNoDouble : EntryInfo → Type 0
  IsNoDouble x = (u : List ℕ) → pointwise nat_eq (text_of names x.name) (codes "DED_S_" ++ u) ≡ false

  -- so it stands for no other
  alone : (x : EntryInfo) → IsNoDouble x → (full x).stands_for ≡ None
  alone x apart =
      ap (option_map (original_number xs))
      (none-there (speaks_of names x) xs
      (all_by_place (λ (y : EntryInfo). speaks_of names x y ≡ false) xs
      (λ k y at. false_behind ((y.owner == x.owner) && not y.added) _ (apart (text_of names y.name)))))

  -- how many entries up to a place are not added is told without what they stand for
  count-full : (m i : ℕ) → original_number xs m ≡ suc i → count_by is_original_entry (take (suc m) N.entries) ≡ suc i
  count-full m i e =
      ap (λ k. count_by is_original_entry (take k N.entries)) (let s : suc m ≡ m + 1 = omega arith in s)
      ∙ ap (count_by is_original_entry) (take-map full (m + 1) xs)
      ∙ fold-map (λ n (x : EntryInfo). n + cond (is_original_entry x) 1 0) full 0 (take (m + 1) xs)
      ∙ e

  -- an added one of them has no number
  added-none : (m e : ℕ) (x : EntryInfo) → e ≡ suc m → slice_get (all_infos g last 1) m ≡ Some x → IsNoDouble x → x.added ≡ true → original_entry N e ≡ None
  added-none m e x s at apart added =
      number-of N e (full x) None (full-at m e x s at) (alone x apart)
      ∙ if_true x.added None (Some (count_by is_original_entry (take e N.entries))) added

  new-text : (t : List ℕ) → text_of names (added_id g.program t) ≡ t → ((u : List ℕ) → pointwise nat_eq t (codes "DED_S_" ++ u) ≡ false) →
      (n : ℕ) → IsNoDouble (plain_info g.program n t)
  new-text t there apart n u = ap (λ v. pointwise nat_eq v (codes "DED_S_" ++ u)) there ∙ apart u

  -- the two more of each task
  never-none : (t : ℕ) → t < last → original_entry N ((text_spots far g).never (suc t)) ≡ None
  never-none t l =
      added-none (never_place ks t) ((text_spots far g).never (suc t)) (plain_info g.program (1 + t) never_text)
      (near g (length ks) t (never_place ks) far.never (subst (λ n. t < n) (sym (tasks-are g last 1)) l)) (never-there g last 1 t l)
      (new-text never_text (text-there names never_text (replay-has g.program never_text refl)) (λ u. refl) (1 + t)) refl

  join-none : (t : ℕ) → t < last → original_entry N ((text_spots far g).join (suc t)) ≡ None
  join-none t l =
      added-none (join_place ks t) ((text_spots far g).join (suc t)) (plain_info g.program (1 + t) join_text)
      (near g (length ks) t (join_place ks) far.join (subst (λ n. t < n) (sym (tasks-are g last 1)) l)) (join-there g last 1 t l)
      (new-text join_text (text-there names join_text (replay-has g.program join_text refl)) (λ u. refl) (1 + t)) refl

  -- an entry of the program
  module _ (order : IsInOrder g.numbers) (original : AllByRecursion (λ (x : EntryInfo). x.added ≡ false) g.numbers.entries) where
    own-number : (i : ℕ) (x : EntryInfo) → entry_at g.numbers (suc i) ≡ Some x → IsNoDouble x →
        original_entry N ((text_spots far g).original (suc i)) ≡ Some (suc i)
    own-number i x at apart =
        let e = (text_spots far g).original (suc i) in
        let listed : slice_get (entries_from g.numbers last 1) i ≡ Some x = ap (λ l. slice_get l i) order.order ∙ sym (entry-suc g.numbers i) ∙ at in
        let within : i < total ks = subst (λ n. i < n) (total-is g last 1) (slice_get_within (entries_from g.numbers last 1) i x listed) in
        let num : e ≡ suc (original_place ks i) = near g (total ks) i (original_place ks) far.original within in
        number-of N e (full x) None (full-at (original_place ks i) e x num (original-there g last 1 i x listed)) (alone x apart)
        ∙ if_false x.added None (Some (count_by is_original_entry (take e N.entries)))
        (holds_at (λ (y : EntryInfo). y.added ≡ false) g.numbers.entries i x (sym (entry-suc g.numbers i) ∙ at) original)
        ∙ ap Some (ap (λ k. count_by is_original_entry (take k N.entries)) num ∙ count-full (original_place ks i) i (number-is g original i within))

-- ---- legal programs

-- a normal form has main and as many tasks as the last one's number tells
pub form-tasks : (p : PProgram) → length (form_in p).numbers.tasks ≡ suc (last_task (form_in p).numbers)
form-tasks p = refl

module _ (far : Spots) (p : PProgram) (h : IsLegalOriginal p) where
  abbrev g : Setting
  g = form_in p

  abbrev q : PProgram
  q = made_for p

  abbrev T : TypeTable
  T = types_in p

  abbrev size : ℕ
  size = suc (last_task (form_in p).numbers)

  abbrev M : Numbering
  M = numbers_replayed (form_in p)

  order : IsInOrder g.numbers
  order = normal_is_in_order p (facts.ordered p h)

  -- ---- entries

  no-double : (i : ℕ) (x : EntryInfo) → entry_at g.numbers (suc i) ≡ Some x → IsNoDouble far g x
  no-double i x at u =
      let named = (holds_at (IsOwnEntry p h) g.numbers.entries i x (sym (entry-suc g.numbers i) ∙ at) (entries-are-own p h)).named in
      plain-other (text_of (replay_names q) x.name) u
      (added-longer p.names (replay_names q) x.name (text-begins p T (numbers_of p)) (own-within p x.name.0 named) ∙ own-not-added p x.name named)

  double-number : (i : ℕ) (x : EntryInfo) → entry_at g.numbers (suc i) ≡ Some x → original_entry M ((text_spots far g).shadow (suc i)) ≡ Some (suc i)
  double-number i x at =
      let d = doubles_stand far g order (are-original p h) i x at (is-first p h i x at) in
      number-of M ((text_spots far g).shadow (suc i)) d.0 (Some (suc i)) d.1 d.2

  -- ---- tasks

  abbrev ys : List NumberedTask
  ys = numbered_tasks T p

  -- the task of the normal form that a numbered task becomes
  abbrev its : NumberedTask → PTask
  its = under (setting_for p)

  abbrev added : Option TaskInfo → Bool
  added o = option_map_or (λ (info : TaskInfo). info.added) o false

  abbrev IsKept : TaskInfo → Type 0
  IsKept info = info.added ≡ false

  abbrev info_of : PTask → TaskInfo
  info_of t = task_info q.names t.name.name

  abbrev two : List TaskInfo
  two = task_info (replay_names q) (added_id q control_text) ∷ task_info (replay_names q) (added_id q idle_text) ∷ []

  main-kept : is_added_name q.names p.name.name ≡ false
  main-kept =
      let named = (facts.olds p h).0 in
      added-longer p.names q.names p.name.name (normal-begins p T (numbers_of p)) (own-within p p.name.name.0 named) ∙ own-not-added p p.name.name named

  names-kept : AllByRecursion (λ (y : NumberedTask). is_added_name q.names (its y).name.name ≡ false) ys
  names-kept =
      all_weaker (λ (y : NumberedTask). IsNamed p (its y).name.name y.name × IsFine p y) _ ys (λ y k. k.0.added ∙ own-not-added p y.name k.1.0)
      (all_paired (λ (y : NumberedTask). IsNamed p (its y).name.name y.name) (IsFine p) ys (all-named p (own p h) (ded p h)) (all-fine p (own p h) (ded p h)))

  tasks-kept : AllByRecursion IsKept g.numbers.tasks
  tasks-kept = (
    main-kept,
    subst (λ (ts : List PTask). AllByRecursion IsKept (map info_of ts)) (sym (normal-tasks-of p T (facts.ordered p h)))
        (all-mapped IsKept info_of (map its ys) (all-mapped (λ (t : PTask). IsKept (info_of t)) its ys names-kept)),
  )

  task-kept : (t : ℕ) → t < size → is_added_task M t ≡ false
  task-kept t l =
      let x = element_at g.numbers.tasks t (subst (λ n. t < n) (sym (form-tasks p)) l) in
      ap added (place-more g.numbers.tasks two t x.0 x.1) ∙ holds_at IsKept g.numbers.tasks t x.0 x.1 tasks-kept

  -- a task behind those of the program
  behind : (t m : ℕ) → t ≡ size + m → is_added_task M t ≡ added (slice_get two m)
  behind t m e = ap added (ap (slice_get M.tasks) e ∙ place-past g.numbers.tasks two size m (sym (form-tasks p)))

  pub legal_has_origins : HasOrigins far (form_in p)
  legal_has_origins = record {
    original = λ i x at. own-number far g order (are-original p h).original i x at (no-double i x at);
    shadow = double-number;
    never = never-none far g;
    join = join-none far g;
    owned = λ e x at. subst (λ n. n < size) (its-owner g order far e x at) (owner-below g.numbers order e);
    tasks = task-kept;
    control = behind size 0 (sym (more_zero size)) ∙ reserved-added (replay_names q) control_text (replay-has q control_text refl) refl;
    idle = behind (suc size) 1 (omega arith) ∙ reserved-added (replay_names q) idle_text (replay-has q idle_text refl) refl;
  }

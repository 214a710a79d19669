-- The numbers of a collecting text.
use Rattle.std.proofs.Common.{◌≡◌, ℕ, suc, ◌+◌, ◌<◌, ◌==◌, pos, Bool, true, false, ◌||◌, ◌&&◌, not, nat_lt, nat_eq, List, [], ◌∷◌, ◌++◌, cond, codes, length, map, is_some, option_map, position, Some, None, refl, sym, ap, ap₂, ◌∙◌, subst, true≢false, arith}
use Rattle.std.specs.List.{AllByRecursion, prefix_len, starts_with}
use Rattle.std.specs.Cmp.Lexicographic.{pointwise}
use Rattle.std.proofs.lemmas.Bool.{or_left}
use Rattle.std.proofs.lemmas.Bool.Decides.{nat_tests}
use Rattle.std.proofs.lemmas.List.{map-append, length-map}
use Rattle.std.proofs.lemmas.Slice.Eq.{bytes_eq-Decides}
use Rattle.common_lemmas.proofs.Lists.{all_joined, all_weaker}
use Rattle.ada_tree.specs.TypeTable.{TypeTable}
use Rattle.ada_tree.specs.PlainDecl.{PEntry, PTask, PDecl, decls_of}
use Rattle.ada_tree.specs.PlainProgram.{PProgram}
use Rattle.ada_tree.specs.Every.{EveryEntry}
use Rattle.ada_static_rules.specs.Refusals.{types_in}
use Rattle.syn_event.specs.declared.numbering.TaskInfo.{TaskInfo}
use Rattle.syn_event.specs.declared.numbering.EntryInfo.{EntryInfo}
use Rattle.syn_event.specs.Numbering.{Numbering}
use Rattle.syn_event.specs.AddedNames.{is_added_name, task_info, speaks_of, original_number, with_origin, with_origins}
use Rattle.syn_event.specs.NamedTasks.{NumberedTask, numbered_tasks}
use Rattle.syn_event.specs.AllNumbers.{first_of, last_index, entry_of_task, entries_of_tasks, all_numbers}
use Rattle.syn_event.specs.DeclaredTasks.{text_of, decl_list, tasks_in, tasks_of}
use Rattle.syn_event.proofs.DeclLists.{listed_back}
use Rattle.task_model.specs.Setting.{Setting}
use Rattle.normal_model.specs.NormalTree.{normal_tree}
use Rattle.normal_model.proofs.VariablesLemmas.{Begins, begins-trans}
use Rattle.task_laws.specs.legal.rewritten_types.Agreement.{Agrees}
use Rattle.task_laws.specs.legal.rewritten_values.Values.{old_names}
use Rattle.normal_laws.specs.structure.types.Own.{own_name}
use Rattle.normal_laws.specs.structure.types.Laws.{IsOrdered, setting_of, AreOwn}
use Rattle.normal_laws.specs.structure.numbers.Laws.{NoneIsDed}
use Rattle.normal_laws.specs.structure.numbers.Single.{IsSingle}
use Rattle.normal_laws.proofs.structure.numbers.Named.{added-longer, own-within, own-not-added, begins-within, text-there, reserved-added}
use Rattle.normal_laws.proofs.structure.numbers.TasksNumbered.{single_task, single_numbers, numbers-single, entries-joined}
use Rattle.normal_laws.proofs.structure.numbers.Listed.{IsPlain, IsOneBody, first-plain, firsts, tasks, vars-plain}
use Rattle.normal_laws.proofs.structure.numbers.Tasked.{under, normal-tasks-of}
use Rattle.normal_laws.proofs.structure.numbers.TaskNames.{IsNamed, normal-begins, all-named, entries-own, family-kept}
use Rattle.normal_laws.proofs.structure.numbers.Numbered.{plain-single}
use Rattle.normal_laws.proofs.structure.numbers.Origins.{IsWithin, origins-longer}
use Rattle.replay_model.specs.ReplayTree.{last_task, normal_setting}
use Rattle.collect_model.specs.Names.{recorder_text, note_text, collect_names}
use Rattle.collect_model.specs.Teller.{Teller}
use Rattle.collect_model.specs.CollectTree.{entry_telling, task_telling, collect_decl, collect_decls, collect_tree, recorder_body_told}
use Rattle.collect_model.specs.CollectNumbers.{recorder_info, note_info, numbers_with}
use Rattle.collect_structure.specs.texts.Laws.{CollectNumbered}
use Rattle.collect_structure.proofs.texts.Listed.{all-main}
use Rattle.collect_structure.proofs.texts.Rooted.{collect-begins, collect-has, told, more, collect-list, collect_agrees, collect-tells, collect-tasks, told_behind, all-told-behind}
use Rattle.ada_tree.specs.PlainStmt.{PBody}
use Rattle.collect_model.specs.declared.AddedNames.{AddedNames}
use Rattle.collect_structure.proofs.texts.Telling.{IsTelling, recorder_tasks}
use Rattle.replay_structure.proofs.texts.Numbered.{info-longer}

-- ---- tasks

-- the numbers of tasks whose names stand in front
infos-longer : (n : AddedNames) (before names : List (List ℕ)) → Begins before names → (under : NumberedTask → PTask) (ys : List NumberedTask) →
    AllByRecursion (λ (y : NumberedTask). (under y).name.name.0 < length before) ys →
    map (λ (t : PTask). task_info names t.name.name) (map (task_telling n) (map under ys)) ≡ map (λ (t : PTask). task_info before t.name.name) (map under ys)
infos-longer n before names b under [] h = refl
infos-longer n before names b under (y ∷ ys) h = λ i. info-longer before names (under y).name.name b h.0 i ∷ infos-longer n before names b under ys h.1 i

-- ---- what entries stand for

-- no entry speaks of another one where its text does not begin with DED_
speaks-of-none : (names : List (List ℕ)) (x y : EntryInfo) → is_added_name names x.name ≡ false → speaks_of names x y ≡ false
speaks-of-none names x y h = by_both ((y.owner == x.owner) && not y.added) (by_test (pointwise nat_eq (text_of names x.name) (codes "DED_S_" ++ text_of names y.name)) refl)
  where
    t : List ℕ
    t = text_of names x.name

    by_test : (b : Bool) → pointwise nat_eq t (codes "DED_S_" ++ text_of names y.name) ≡ b → b ≡ false
    by_test false e = refl
    by_test true e =
        let same : t ≡ codes "DED_S_" ++ text_of names y.name = (bytes_eq-Decides t (codes "DED_S_" ++ text_of names y.name)).0 e in
        absurd (true≢false (sym (ap (λ u. starts_with nat_eq u (codes "DED_")) same) ∙ h))

    by_both : (a : Bool) {b : Bool} → b ≡ false → (a && b) ≡ false
    by_both true e = e
    by_both false e = refl

prefix-all : {A : Type 0} (f : A → Bool) (xs : List A) → AllByRecursion (λ x. f x ≡ true) xs → prefix_len f xs ≡ length xs
prefix-all f [] h = refl
prefix-all f (x ∷ xs) h = let last : 1 + length xs ≡ suc (length xs) = omega arith in ap₂ (λ b n. cond b (1 + n) 0) h.0 (prefix-all f xs h.1) ∙ last

pub place-none : {A : Type 0} (f : A → Bool) (xs : List A) → AllByRecursion (λ x. f x ≡ false) xs → position f xs ≡ None
place-none f xs h =
    let e = prefix-all (λ x. not (f x)) xs (all_weaker (λ x. f x ≡ false) (λ x. not (f x) ≡ true) xs (λ x i. ap not i) h) in
    ap (λ n. cond (nat_lt n (length xs)) (Some n) None) e ∙ ap (λ b. cond b (Some (length xs)) None) (not-less (length xs))
  where
    not-less : (n : ℕ) → nat_lt n n ≡ false
    not-less n = grind (arith, nat_tests)

-- an entry with a name that no rewriter made stands for none
abbrev IsUnadded : List (List ℕ) → EntryInfo → Type 0
IsUnadded names x = is_added_name names x.name ≡ false

origin-none : (names : List (List ℕ)) (all : List EntryInfo) (x : EntryInfo) → ((y : EntryInfo) → speaks_of names x y ≡ false) →
    with_origin names all x ≡ record { name = x.name; owner = x.owner; family = x.family; first = x.first; last = x.last; added = x.added; stands_for = None }
origin-none names all x h =
    ap (λ o. record { name = x.name; owner = x.owner; family = x.family; first = x.first; last = x.last; added = x.added; stands_for = option_map (original_number all) o }) (place-none (speaks_of names x) all (each all))
  where
    each : (ys : List EntryInfo) → AllByRecursion (λ y. speaks_of names x y ≡ false) ys
    each [] = tt
    each (y ∷ ys) = (h y, each ys)

same-origins : (names : List (List ℕ)) (all other xs : List EntryInfo) → AllByRecursion (IsUnadded names) xs → map (with_origin names all) xs ≡ map (with_origin names other) xs
same-origins names all other [] h = refl
same-origins names all other (x ∷ xs) h =
    ap₂ (λ (y : EntryInfo) l. y ∷ l)
    (origin-none names all x (λ y. speaks-of-none names x y h.0) ∙ sym (origin-none names other x (λ y. speaks-of-none names x y h.0)))
    (same-origins names all other xs h.1)

-- ---- the whole

-- a text of this program, by its names, its declarations and the body of main
abbrev pub text_with : PProgram → List (List ℕ) → List PDecl → PBody → PProgram
text_with p names ds its = record { names = names; text_io = true; name = p.name; decls = decls_of ds; body = its }

-- the normal form of a program with the types and numbers that it has
abbrev form_of : PProgram → PProgram
form_of p = normal_tree p (types_in p) (all_numbers (types_in p) p)

-- What is asked of a text: the names of the normal form stand in front, those of the recorder and its entry are there, its tasks are those of the normal form
-- with further formals and the recorder, and its types agree with the program's.
pub record IsToldText (p : PProgram) (n : AddedNames) (names : List (List ℕ)) (ds : List PDecl) (main : PBody) : Type 0 where
  pub begins : Begins (form_of p).names names
  pub recorder : is_added_name names n.recorder ≡ true
  pub note : text_of names n.note ≡ note_text
  pub single : AllByRecursion IsSingle ds
  pub tasks : tasks_in ds ≡ map (task_telling n) (tasks_of (form_of p)) ++ recorder_tasks n (form_of p)
  pub agrees : Agrees (own_name p) (types_in p) (types_in (text_with p names ds main))

module _ (p : PProgram) (ordered : IsOrdered p) (main : own_name p p.name.name.0 ≡ true) (own : AreOwn p p.decls) (ded : NoneIsDed p)
    (n : AddedNames) (names : List (List ℕ)) (ds : List PDecl) (its_body : PBody) (told : IsToldText p n names ds its_body) where
  abbrev T : TypeTable
  T = types_in p

  abbrev numbers : Numbering
  numbers = all_numbers T p

  abbrev normal : PProgram
  normal = normal_tree p T numbers

  abbrev form : Setting
  form = normal_setting p T numbers

  abbrev last : ℕ
  last = last_task form.numbers

  abbrev ys : List NumberedTask
  ys = numbered_tasks T p

  abbrev its : NumberedTask → PTask
  its = under (setting_of p T numbers)

  abbrev E : List EntryInfo
  E = entries_of_tasks p.names T 1 ys

  abbrev text : PProgram
  text = text_with p names ds its_body

  abbrev U : TypeTable
  U = types_in text

  -- how many they are
  last-is : last ≡ length ys
  last-is = length-map (tasks_of normal) (λ (t : PTask). task_info normal.names t.name.name) ∙ ap length (normal-tasks-of p T ordered) ∙ length-map ys its

  -- the tasks of the text
  its-tasks : tasks_of text ≡ map (task_telling n) (map its ys) ++ recorder_tasks n normal
  its-tasks = ap tasks_in (listed_back ds) ∙ told.tasks ∙ ap (λ ts. map (task_telling n) ts ++ recorder_tasks n normal) (normal-tasks-of p T ordered)

  -- the numbers of the tasks
  infos-are : task_info names p.name.name ∷ map (λ (t : PTask). task_info names t.name.name) (map (task_telling n) (map its ys) ++ recorder_tasks n normal) ≡ form.numbers.tasks ++ recorder_info n ∷ []
  infos-are =
      ap₂ (λ (y : TaskInfo) l. y ∷ l)
      (info-longer normal.names names p.name.name told.begins (begins-within p.names normal.names p.name.name.0 (normal-begins p T numbers) (own-within p p.name.name.0 main)))
      (map-append (λ (t : PTask). task_info names t.name.name) (map (task_telling n) (map its ys)) (recorder_tasks n normal)
      ∙ ap₂ (λ (l : List TaskInfo) b. l ++ record { name = n.recorder; added = b; unit = n.recorder; member = None } ∷ [])
      (infos-longer n normal.names names told.begins its ys (all_weaker (λ (y : NumberedTask). IsNamed p (its y).name.name y.name) _ ys (λ y h. h.within) (all-named p own ded)) ∙ ap (map (λ (t : PTask). task_info normal.names t.name.name)) (sym (normal-tasks-of p T ordered)))
      told.recorder)

  -- ---- entries

  abbrev Own : PEntry → Type 0
  Own e = EveryEntry (old_names (own_name p)) e

  begins : Begins p.names names
  begins = begins-trans (normal-begins p T numbers) told.begins

  -- an entry of a task is the same in the collecting text
  entries-kept : (t : ℕ) (y : NumberedTask) (z : PTask) → is_added_name names z.name.name ≡ is_added_name p.names y.name → (es : List PEntry) → AllByRecursion Own es →
      map (entry_of_task names U t (single_task z)) (map (entry_telling n) es) ≡ map (entry_of_task p.names T t y) es
  entries-kept t y z same [] h = refl
  entries-kept t y z same (e ∷ es) h = λ i.
      record {
        name = e.name.name;
        owner = t;
        family = is_some e.family;
        first = first_of (family-kept (own_name p) T U told.agrees e.family h.0.2 i);
        last = last_index (family-kept (own_name p) T U told.agrees e.family h.0.2 i);
        added = same i || added-longer p.names names e.name.name begins (own-within p e.name.name.0 h.0.1) i;
        stands_for = None;
      }
      ∷ entries-kept t y z same es h.1 i

  tasks-kept : (zs : List NumberedTask) (t : ℕ) → AllByRecursion (λ (y : NumberedTask). IsNamed p (its y).name.name y.name) zs → AllByRecursion (λ (y : NumberedTask). AllByRecursion Own y.unit.entries) zs →
      entries_of_tasks names U t (map single_task (map (task_telling n) (map its zs))) ≡ entries_of_tasks p.names T t zs
  tasks-kept [] t named h = refl
  tasks-kept (y ∷ zs) t named h =
      ap₂ (λ (a b : List EntryInfo). a ++ b)
      (entries-kept t y (task_telling n (its y)) (added-longer normal.names names (its y).name.name told.begins named.0.within ∙ named.0.added) y.unit.entries h.0)
      (tasks-kept zs (t + 1) named.1 h.1)

  -- their names are those of the program
  entries-within : (t : ℕ) (y : NumberedTask) (es : List PEntry) → AllByRecursion Own es → AllByRecursion (IsWithin p.names names begins) (map (entry_of_task p.names T t y) es)
  entries-within t y [] h = tt
  entries-within t y (e ∷ es) h = (own-within p e.name.name.0 h.0.1, entries-within t y es h.1)

  tasks-within : (zs : List NumberedTask) (t : ℕ) → AllByRecursion (λ (y : NumberedTask). AllByRecursion Own y.unit.entries) zs → AllByRecursion (IsWithin p.names names begins) (entries_of_tasks p.names T t zs)
  tasks-within [] t h = tt
  tasks-within (y ∷ zs) t h = all_joined (IsWithin p.names names begins) (map (entry_of_task p.names T t y) y.unit.entries) _ (entries-within t y y.unit.entries h.0) (tasks-within zs (t + 1) h.1)

  entries-unadded : (t : ℕ) (y : NumberedTask) (es : List PEntry) → AllByRecursion Own es → AllByRecursion (IsUnadded names) (map (entry_of_task p.names T t y) es)
  entries-unadded t y [] h = tt
  entries-unadded t y (e ∷ es) h = (added-longer p.names names e.name.name begins (own-within p e.name.name.0 h.0.1) ∙ own-not-added p e.name.name h.0.1, entries-unadded t y es h.1)

  tasks-unadded : (zs : List NumberedTask) (t : ℕ) → AllByRecursion (λ (y : NumberedTask). AllByRecursion Own y.unit.entries) zs → AllByRecursion (IsUnadded names) (entries_of_tasks p.names T t zs)
  tasks-unadded [] t h = tt
  tasks-unadded (y ∷ zs) t h = all_joined (IsUnadded names) (map (entry_of_task p.names T t y) y.unit.entries) _ (entries-unadded t y y.unit.entries h.0) (tasks-unadded zs (t + 1) h.1)

  -- the recorder's entry
  abbrev note : EntryInfo
  note = record { name = n.note; owner = last + 1; family = false; first = pos 0; last = pos 0; added = true; stands_for = None }

  abbrev first-entries : List NumberedTask
  first-entries = map single_task (map (task_telling n) (map its ys))

  first-length : length first-entries ≡ last
  first-length = length-map (map (task_telling n) (map its ys)) single_task ∙ length-map (map its ys) (task_telling n) ∙ length-map ys its ∙ sym last-is

  note-there : entries_of_tasks names U (1 + length first-entries) (map single_task (recorder_tasks n normal)) ≡ note ∷ []
  note-there = λ i.
      record {
        name = n.note;
        owner = owner-is (length first-entries) first-length i;
        family = false;
        first = pos 0;
        last = pos 0;
        added = or_left (is_added_name names n.recorder) (is_added_name names n.note) told.recorder i;
        stands_for = None;
      }
      ∷ []
    where
      owner-is : (n : ℕ) → n ≡ last → 1 + n ≡ last + 1
      owner-is n e = omega (arith, e)

  entries-listed : entries_of_tasks names U 1 (map single_task (map (task_telling n) (map its ys) ++ recorder_tasks n normal)) ≡ E ++ note ∷ []
  entries-listed =
      ap (entries_of_tasks names U 1) (map-append single_task (map (task_telling n) (map its ys)) (recorder_tasks n normal))
      ∙ entries-joined names U 1 first-entries (map single_task (recorder_tasks n normal))
      ∙ ap₂ (λ (a b : List EntryInfo). a ++ b) (tasks-kept ys 1 (all-named p own ded) (entries-own p own T)) note-there

  -- the recorder's entry speaks of none
  note-speaks : (y : EntryInfo) → speaks_of names note y ≡ false
  note-speaks y = by_both ((y.owner == note.owner) && not y.added) (ap (λ t. pointwise nat_eq t (codes "DED_S_" ++ text_of names y.name)) told.note)
    where
      by_both : (a : Bool) {b : Bool} → b ≡ false → (a && b) ≡ false
      by_both true e = e
      by_both false e = refl

  entries-are : with_origins names (E ++ note ∷ []) ≡ form.numbers.entries ++ note_info n last ∷ []
  entries-are =
      map-append (with_origin names (E ++ note ∷ [])) E (note ∷ [])
      ∙ ap₂ (λ (a b : List EntryInfo). a ++ b)
      (same-origins names (E ++ note ∷ []) E E (tasks-unadded ys 1 (entries-own p own T)) ∙ origins-longer p.names names begins E (tasks-within ys 1 (entries-own p own T)))
      (ap (λ (y : EntryInfo). y ∷ []) (origin-none names (E ++ note ∷ []) note note-speaks))

  -- The text has the numbers of the normal form, the recorder and its entry.
  pub told-numbered : all_numbers U text ≡ numbers_with n form.numbers
  told-numbered =
      numbers-single U text (subst (AllByRecursion IsSingle) (sym (listed_back ds)) told.single)
      ∙ ap (single_numbers names U p.name.name) its-tasks
      ∙ (λ i. record {
        main = p.name.name;
        tasks = infos-are i;
        entries = (ap (with_origins names) entries-listed ∙ entries-are) i;
      })

-- each task of a text is a single one
pub told-single : (p : PProgram) (types : TypeTable) (numbers : Numbering) (own : AreOwn p p.decls) (n : AddedNames) (f : PDecl → PDecl) (tells : IsTelling n f)
    (more : List PDecl) (last : PDecl) → AllByRecursion IsSingle more → IsOneBody last →
    AllByRecursion IsSingle (firsts p types numbers ++ told_behind p types numbers own n f tells more last)
told-single p types numbers own n f tells more last m one =
    all_joined IsSingle (firsts p types numbers) _ (all_weaker IsPlain IsSingle _ plain-single (first-plain p.decls []))
    (all-told-behind p types numbers own n f tells more last IsSingle (λ t s single. single) (λ w objects its s. tt) m
    (all_weaker IsPlain IsSingle _ plain-single (vars-plain p types numbers)) refl one)

pub collect_numbered : CollectNumbered
collect_numbered p ordered main own ded =
    let T : TypeTable = types_in p in
    let numbers : Numbering = all_numbers T p in
    let q : PProgram = normal_tree p T numbers in
    let names : List (List ℕ) = collect_names q in
    let x : Teller = told p T numbers own in
    told-numbered p ordered main own ded x.added names (collect_decls x q (decl_list q.decls)) (collect_tree p T numbers).body (record {
      begins = collect-begins q;
      recorder = reserved-added names recorder_text (collect-has q recorder_text refl) refl;
      note = text-there names note_text (collect-has q note_text refl);
      single =
          subst (AllByRecursion IsSingle) (sym (collect-list p T numbers own))
          (told-single p T numbers own x.added (collect_decl x q.names) (collect-tells x q.names) (more p T numbers own) (recorder_body_told x q)
          (all-main IsSingle x.added p.name.span _ _ (tt, (tt, (tt, (tt, tt))))) tt);
      tasks = collect-tasks x q;
      agrees = collect_agrees p T numbers ordered own;
    })

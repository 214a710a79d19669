-- The entries of the normal form of a legal program are the program's own, and each is the first of its task and text.
use Rattle.std.proofs.Common.{◌≡◌, ℕ, zero, suc, ◌+◌, ◌-◌, ◌<◌, ◌≤◌, ◌==◌, ◌&&◌, nat_lt, nat_eq, not, cond, Bool, true, false, List, [], ◌∷◌, ◌++◌, length, map, position, slice_get, unwrap_or, option_map, Some, refl, sym, ap, ap₂, ◌∙◌, subst, true≢false, arith}
use Rattle.std.specs.List.{AllByRecursion}
use Rattle.std.specs.Cmp.Lexicographic.{pointwise}
use Rattle.std.proofs.lemmas.Bool.{ltb-true, or_parts, or_from}
use Rattle.std.proofs.lemmas.List.{map-append, length-map}
use Rattle.std.proofs.lemmas.Option.{none-some, slice_get-map, slice_get_within}
use Rattle.std.proofs.lemmas.Slice.Eq.{bytes_eq-Decides}
use Rattle.ada_tree.specs.declared.naming.NameId.{NameId}
use Rattle.ada_tree.specs.TypeTable.{TypeTable}
use Rattle.ada_tree.specs.PlainDecl.{PEntry, PTask, PDecl, DTask}
use Rattle.ada_tree.specs.PlainProgram.{PProgram}
use Rattle.ada_tree.specs.Every.{EveryEntry}
use Rattle.ada_static_rules.specs.Refusals.{types_in}
use Rattle.ada_static_rules.specs.RuleDuplicate.{is_among}
use Rattle.ada_static_rules.specs.Sites.{all_names, sites}
use Rattle.ada_decl_rules.specs.duplicates.NamingsInOrder.{declared, namings_of}
use Rattle.syn_event.specs.declared.numbering.EntryInfo.{EntryInfo}
use Rattle.syn_event.specs.Numbering.{entry_at}
use Rattle.syn_event.specs.AddedNames.{is_added_name, with_origin}
use Rattle.syn_event.specs.NamedTasks.{NumberedTask, task_names_of, numbered_tasks}
use Rattle.syn_event.specs.AllNumbers.{entry_of_task, entries_of_tasks}
use Rattle.syn_event.specs.DeclaredTasks.{text_of, decl_list, tasks_in}
use Rattle.task_model.specs.Setting.{Setting}
use Rattle.common_lemmas.proofs.Lists.{all_back, all_joined, all_weaker, element_at, holds_at}
use Rattle.common_lemmas.proofs.Numbers.{equal_is, equal_self, one_more, unequal}
use Rattle.common_lemmas.proofs.Options.{some_same}
use Rattle.task_laws.specs.legal.rewritten_values.Values.{old_names}
use Rattle.task_laws.proofs.legal.rewritten_values.Saying.{place-within}
use Rattle.normal_laws.specs.structure.types.Own.{own_name}
use Rattle.normal_laws.specs.structure.types.Laws.{AreOwn}
use Rattle.normal_laws.specs.structure.numbers.Laws.{NoneIsDed}
use Rattle.normal_laws.specs.structure.once.Apart.{IsFreeOf, IsAlone, fixed_names}
use Rattle.normal_laws.specs.structure.once.Names.{entries_names, IsFitDecl}
use Rattle.normal_laws.proofs.structure.once.Fits.{inner_is_fit}
use Rattle.normal_laws.proofs.structure.once.Parts.{fit-in-alone}
use Rattle.normal_laws.proofs.structure.numbers.Named.{Has, begins-within, own-within, own-not-added}
use Rattle.normal_laws.proofs.structure.numbers.Tasked.{under}
use Rattle.normal_laws.proofs.structure.numbers.TaskNames.{IsFine, normal-begins, all-fine, entries-own}
use Rattle.normal_laws.proofs.structure.units.Declared.{parts-all, numbered-tasks-all}
use Rattle.normal_laws.specs.runs.forms.Normalisable.{numbers_of, setting_for, made_for}
use Rattle.normal_laws.specs.existence.Laws.{IsLegalOriginal}
use Rattle.normal_laws.proofs.legality.checks.Facts as facts
use Rattle.normal_laws.proofs.legality.numbers.Numbered.{none_legal_is_ded}
use Rattle.replay_model.specs.Names.{double_text, replay_names}
use Rattle.replay_structure.specs.spots.Laws.{AreOriginal, is_named_so}
use Rattle.replay_structure.proofs.spots.First.{first, front, past, there, none, first-alike}
use Rattle.replay_structure.proofs.spots.Placed.{place-past, entry-suc}
use Rattle.replay_structure.proofs.spots.Sorted.{not-less}
use Rattle.replay_structure.proofs.texts.Entries.{IsKept, IsTaskKept}
use Rattle.replay_structure.proofs.texts.Kept.{all-kept}
use Rattle.replay_structure.proofs.texts.Owned.{told, all_told}
use Rattle.replay_structure.proofs.texts.Stripped.{prefix-mapped}
use Rattle.replay_runs.specs.starts.Laws.{form_in}

-- ---- the entries of one task

-- the test of the name of an entry
abbrev has_name : NameId → PEntry → Bool
has_name id x = x.name.name.0 == id.0

-- each of a task's entries is the first of its name there
entry-first : (names : List ℕ) (es : List PEntry) → AllByRecursion IsAlone (entries_names names es) → (i : ℕ) (e : PEntry) → slice_get es i ≡ Some e →
    IsFreeOf names e.name.name.0 × (first (has_name e.name.name) es ≡ i)
entry-first names [] alone i e at = absurd (none-some e at)
entry-first names (d ∷ es) alone zero e at =
    let s : d ≡ e = some_same at in (
      subst (λ (x : PEntry). IsFreeOf names x.name.name.0) s alone.0,
      ap (λ (b : Bool). cond (not b) (1 + first (has_name e.name.name) es) 0) (ap (has_name e.name.name) s ∙ equal_self e.name.name.0),
    )
entry-first names (d ∷ es) alone (suc i) e at =
    let behind = all_back IsAlone (declared false [] (all_names d.formals)) (entries_names (d.name.name.0 ∷ names) es) alone.1 in
    let r = entry-first (d.name.name.0 ∷ names) es behind i e at in
    let q = or_parts (d.name.name.0 == e.name.name.0) (is_among names e.name.name.0) r.0 in
    (q.1, ap (λ (b : Bool). cond (not b) (1 + first (has_name e.name.name) es) 0) q.0 ∙ ap (λ n. 1 + n) r.1 ∙ one_more i)

-- nothing is named twice among the entries of a task
abbrev IsOnce : PTask → Type 0
IsOnce t = AllByRecursion IsAlone (entries_names [] t.entries)

decls-once : (fixed : List ℕ) (ds : List PDecl) → AllByRecursion (IsFitDecl fixed) ds → AllByRecursion IsOnce (tasks_in ds)
decls-once fixed [] h = tt
decls-once fixed (DTask t s ∷ ds) h = (fit-in-alone fixed (entries_names [] t.entries) h.0, decls-once fixed ds h.1)
decls-once fixed (d ∷ ds) h = decls-once fixed ds h.1

-- ---- legal programs

module _ (p : PProgram) (h : IsLegalOriginal p) where
  abbrev T : TypeTable
  T = types_in p

  abbrev U : TypeTable
  U = types_in (made_for p)

  abbrev q : PProgram
  q = made_for p

  abbrev g : Setting
  g = form_in p

  abbrev ys : List NumberedTask
  ys = numbered_tasks T p

  abbrev Own : PEntry → Type 0
  Own = EveryEntry (old_names (own_name p))

  -- the entries, before it is known what they stand for
  abbrev plain : List EntryInfo
  plain = entries_of_tasks p.names T 1 (numbered_tasks T p)

  -- an entry of a task with a number, in the numbers
  abbrev info : ℕ → NumberedTask → PEntry → EntryInfo
  info t y e = with_origin p.names plain (entry_of_task p.names T t y e)

  -- those of one task, and those of all from a number on
  abbrev of_task : ℕ → NumberedTask → List PEntry → List EntryInfo
  of_task = told p.names T plain

  abbrev of_tasks : ℕ → List NumberedTask → List EntryInfo
  of_tasks = all_told p.names T plain

  in-front : (t : ℕ) (y : NumberedTask) (zs : List NumberedTask) → of_tasks t (y ∷ zs) ≡ of_task t y y.unit.entries ++ of_tasks (t + 1) zs
  in-front t y zs = map-append (with_origin p.names plain) (map (entry_of_task p.names T t y) y.unit.entries) (entries_of_tasks p.names T (t + 1) zs)

  -- ---- what is known of tasks

  pub own : AreOwn p p.decls
  own = (facts.olds p h).2

  pub ded : NoneIsDed p
  ded = none_legal_is_ded p T (numbers_of p) h.legal h.placed

  abbrev AreOld : List NumberedTask → Type 0
  AreOld zs = AllByRecursion (λ (y : NumberedTask). is_added_name p.names y.name ≡ false) zs

  abbrev HaveOwn : List NumberedTask → Type 0
  HaveOwn zs = AllByRecursion (λ (y : NumberedTask). AllByRecursion Own y.unit.entries) zs

  abbrev AreOnce : List NumberedTask → Type 0
  AreOnce zs = AllByRecursion (λ (y : NumberedTask). IsOnce y.unit) zs

  all-old : AreOld ys
  all-old =
      all_weaker (IsFine p) (λ (y : NumberedTask). is_added_name p.names y.name ≡ false) ys
      (λ y f. own-not-added p y.name f.0) (all-fine p own ded)

  all-have : HaveOwn ys
  all-have = entries-own p own T

  all-once : AreOnce ys
  all-once =
      numbered-tasks-all IsOnce T (task_names_of p)
      (parts-all IsOnce p.decls [] tt
      (decls-once (fixed_names (namings_of (sites p))) (decl_list p.decls) (inner_is_fit p h.legal.type_rules).0))

  -- ---- each entry

  -- its name is the program's own, it is not added, and the replay text has the name of its double
  pub record IsOwnEntry (x : EntryInfo) : Type 0 where
    pub named : own_name p x.name.0 ≡ true
    pub kept : x.added ≡ false
    pub doubled : Has (replay_names q) (double_text (text_of q.names x.name))

  task-own : (t : ℕ) (y : NumberedTask) → is_added_name p.names y.name ≡ false → (es : List PEntry) → AllByRecursion Own es → AllByRecursion (IsKept q p.names T U) es →
      AllByRecursion IsOwnEntry (of_task t y es)
  task-own t y n [] o k = tt
  task-own t y n (e ∷ es) o k = (
    record {
      named = o.0.1;
      kept = or_from (is_added_name p.names y.name) (is_added_name p.names e.name.name) n (own-not-added p e.name.name o.0.1);
      doubled = k.0.double;
    },
    task-own t y n es o.1 k.1,
  )

  tasks-own : (t : ℕ) (zs : List NumberedTask) → AreOld zs → HaveOwn zs → AllByRecursion (IsTaskKept q p.names T U (under (setting_for p))) zs → AllByRecursion IsOwnEntry (of_tasks t zs)
  tasks-own t [] n o k = tt
  tasks-own t (y ∷ zs) n o k =
      subst (AllByRecursion IsOwnEntry) (sym (in-front t y zs))
      (all_joined IsOwnEntry (of_task t y y.unit.entries) (of_tasks (t + 1) zs)
      (task-own t y n.0 y.unit.entries o.0 k.0.entries) (tasks-own (t + 1) zs n.1 o.1 k.1))

  pub entries-are-own : AllByRecursion IsOwnEntry g.numbers.entries
  entries-are-own = tasks-own 1 ys all-old all-have (all-kept p (facts.ordered p h) own ded U (facts.alike p h))

  pub are-original : AreOriginal g
  are-original =
      let xs = g.numbers.entries in
      record {
        original = all_weaker IsOwnEntry (λ (x : EntryInfo). x.added ≡ false) xs (λ x o. o.kept) entries-are-own;
        within = all_weaker IsOwnEntry (λ (x : EntryInfo). x.name.0 < length q.names) xs
            (λ x o. begins-within p.names q.names x.name.0 (normal-begins p T (numbers_of p)) (own-within p x.name.0 o.named)) entries-are-own;
        doubles = all_weaker IsOwnEntry (λ (x : EntryInfo). Has (replay_names q) (double_text (text_of q.names x.name))) xs (λ x o. o.doubled) entries-are-own;
      }

  -- ---- texts

  text-at : (id : NameId) → own_name p id.0 ≡ true → slice_get p.names id.0 ≡ Some (text_of q.names id)
  text-at id o =
      let x = element_at p.names id.0 (own-within p id.0 o) in
      x.1 ∙ ap Some (sym (facts.same-text p h id o ∙ ap (λ t. unwrap_or t []) x.1))

  -- two own names have one text where they are one
  same-test : (a b : NameId) → own_name p a.0 ≡ true → own_name p b.0 ≡ true → pointwise nat_eq (text_of q.names a) (text_of q.names b) ≡ (b.0 == a.0)
  same-test a b own_a own_b = by_name (b.0 == a.0) refl
    where
      apart : (b.0 == a.0) ≡ false → (c : Bool) → pointwise nat_eq (text_of q.names a) (text_of q.names b) ≡ c → c ≡ false
      apart e false f = refl
      apart e true f =
          let texts : text_of q.names a ≡ text_of q.names b = (bytes_eq-Decides (text_of q.names a) (text_of q.names b)).0 f in
          let same : b.0 ≡ a.0 = h.names.distinct (text_of q.names b) b.0 a.0 (text-at b own_b) (text-at a own_a ∙ ap Some texts) in
          absurd (true≢false (sym (ap (λ n. n == a.0) same ∙ equal_self a.0) ∙ e))

      by_name : (c : Bool) → (b.0 == a.0) ≡ c → pointwise nat_eq (text_of q.names a) (text_of q.names b) ≡ c
      by_name true e = (bytes_eq-Decides (text_of q.names a) (text_of q.names b)).1 (ap (λ n. text_of q.names record { 0 = n }) (sym (equal_is b.0 a.0 e)))
      by_name false e = apart e (pointwise nat_eq (text_of q.names a) (text_of q.names b)) refl

  -- ---- each entry is the first of its task and text

  -- among those of its task
  tests-alike : (t : ℕ) (y : NumberedTask) (e : PEntry) → Own e → (es : List PEntry) → AllByRecursion Own es →
      AllByRecursion (λ (z : PEntry). is_named_so g (info t y e) (info t y z) ≡ has_name e.name.name z) es
  tests-alike t y e o [] os = tt
  tests-alike t y e o (z ∷ es) os = (ap₂ (λ a b. a && b) (equal_self t) (same-test e.name.name z.name.name o.1 os.0.1), tests-alike t y e o es os.1)

  task-first : (t : ℕ) (y : NumberedTask) (es : List PEntry) → AllByRecursion IsAlone (entries_names [] es) → AllByRecursion Own es →
      (i : ℕ) (x : EntryInfo) → slice_get (of_task t y es) i ≡ Some x → (x.owner ≡ t) × (first (is_named_so g x) (of_task t y es) ≡ i)
  task-first t y es alone os i x at =
      let bare : PEntry → EntryInfo = entry_of_task p.names T t y in
      let full : EntryInfo → EntryInfo = with_origin p.names plain in
      let long : length (of_task t y es) ≡ length es = length-map (map bare es) full ∙ length-map es bare in
      let e = element_at es i (subst (λ n. i < n) long (slice_get_within (of_task t y es) i x at)) in
      let there : slice_get (of_task t y es) i ≡ Some (info t y e.0) = slice_get-map full (map bare es) i ∙ ap (option_map full) (slice_get-map bare es i ∙ ap (option_map bare) e.1) in
      let test : EntryInfo → Bool = is_named_so g (info t y e.0) in
      subst (λ (z : EntryInfo). (z.owner ≡ t) × (first (is_named_so g z) (of_task t y es) ≡ i)) (some_same (sym there ∙ at)) (
        refl,
        prefix-mapped (λ (z : EntryInfo). not (test z)) full (map bare es)
            ∙ prefix-mapped (λ (z : EntryInfo). not (test (full z))) bare es
            ∙ first-alike (λ z. test (info t y z)) (has_name e.0.name.name) es (tests-alike t y e.0 (holds_at Own es i e.0 e.1 os) es os)
            ∙ (entry-first [] es alone i e.0 e.1).1,
      )

  -- an entry of a later task is none of these
  task-none : (t : ℕ) (y : NumberedTask) (x : EntryInfo) → (t == x.owner) ≡ false → (es : List PEntry) → AllByRecursion (λ (z : EntryInfo). is_named_so g x z ≡ false) (of_task t y es)
  task-none t y x e [] = tt
  task-none t y x e (z ∷ es) = (ap (λ b. b && pointwise nat_eq (text_of q.names x.name) (text_of q.names z.name.name)) e, task-none t y x e es)

  -- among those of all tasks
  abbrev IsFirstFrom : ℕ → List EntryInfo → ℕ → EntryInfo → Type 0
  IsFirstFrom t xs i x = (t ≤ x.owner) × (first (is_named_so g x) xs ≡ i)

  all-first : (t : ℕ) (zs : List NumberedTask) → AreOnce zs → HaveOwn zs → (i : ℕ) (x : EntryInfo) → slice_get (of_tasks t zs) i ≡ Some x → IsFirstFrom t (of_tasks t zs) i x
  all-first t [] once os i x at = absurd (none-some x at)
  all-first t (y ∷ zs) once os i x at =
      subst (λ (l : List EntryInfo). IsFirstFrom t l i x) (sym (in-front t y zs))
      (by_place (nat_lt i (length front_ones)) refl
      (subst (λ (l : List EntryInfo). slice_get l i ≡ Some x) (in-front t y zs) at)
      (all-first (t + 1) zs once.1 os.1 (i - length front_ones) x))
    where
      front_ones : List EntryInfo
      front_ones = of_task t y y.unit.entries

      rest : List EntryInfo
      rest = of_tasks (t + 1) zs

      split : length front_ones ≤ i → i ≡ length front_ones + (i - length front_ones)
      split high = omega (arith, high)

      by_place : (b : Bool) → nat_lt i (length front_ones) ≡ b → slice_get (front_ones ++ rest) i ≡ Some x →
          (slice_get rest (i - length front_ones) ≡ Some x → IsFirstFrom (t + 1) rest (i - length front_ones) x) → IsFirstFrom t (front_ones ++ rest) i x
      by_place true l at later =
          let low : i < length front_ones = ltb-true i (length front_ones) l in
          let r = task-first t y y.unit.entries once.0 os.0 i x (sym (place-within front_ones rest i low) ∙ at) in
          let here = r.0 in
          let its = r.1 in
          (omega (arith, here), front (is_named_so g x) front_ones rest (omega (arith, its, low)) ∙ its)
      by_place false l at later =
          let high : length front_ones ≤ i = not-less i (length front_ones) l in
          let past_front = place-past front_ones rest (length front_ones) (i - length front_ones) refl in
          let r = later (sym past_front ∙ ap (slice_get (front_ones ++ rest)) (sym (split high)) ∙ at) in
          let behind = r.0 in
          let other : (t == x.owner) ≡ false = unequal t x.owner (λ s. omega (arith, s, behind)) in (
            omega (arith, behind),
            past (is_named_so g x) front_ones rest (none (is_named_so g x) front_ones (task-none t y x other y.unit.entries))
                ∙ ap (λ n. length front_ones + n) r.1
                ∙ sym (split high),
          )

  pub is-first : (i : ℕ) (x : EntryInfo) → entry_at g.numbers (suc i) ≡ Some x → position (is_named_so g x) g.numbers.entries ≡ Some i
  is-first i x at =
      let placed : slice_get g.numbers.entries i ≡ Some x = sym (entry-suc g.numbers i) ∙ at in
      let its = (all-first 1 ys all-once all-have i x placed).1 in
      let low : i < length g.numbers.entries = slice_get_within g.numbers.entries i x placed in
      there (is_named_so g x) g.numbers.entries (omega (arith, its, low)) ∙ ap Some its

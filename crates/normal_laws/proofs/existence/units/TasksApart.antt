-- Tasks have names of their own in the normal form: two have one name only where they have one name in the program and one index.
use Rattle.std.proofs.Common.{◌≡◌, ℕ, ℤ, Bool, true, false, ◌||◌, List, [], ◌∷◌, ◌++◌, fold, slice_get, unwrap_or, Option, Some, None, refl, sym, ap, subst, ◌∙◌, true≢false}
use Rattle.std.specs.Option.{IsSomeAnd}
use Rattle.std.specs.List.{AllByRecursion, list_any}
use Rattle.std.specs.Str.{bytes_eq}
use Rattle.std.proofs.lemmas.Option.{slice_get_within}
use Rattle.ada_tree.specs.declared.naming.NameId.{NameId}
use Rattle.ada_tree.specs.NameList.{interned, AreNames}
use Rattle.ada_tree.specs.Lexical.{IsIdentifier}
use Rattle.ada_tree.specs.TypeTable.{TypeTable}
use Rattle.ada_tree.specs.PlainProgram.{PProgram}
use Rattle.ada_tree.specs.WellPlaced.{HasTokens}
use Rattle.syn_event.specs.declared.numbering.Mode.TheVariants.{Original}
use Rattle.syn_event.specs.declared.numbering.TaskInfo.{TaskInfo}
use Rattle.syn_event.specs.CheckRefusals.{MeetsCheckRules}
use Rattle.syn_event.specs.AllNumbers.{all_numbers}
use Rattle.syn_event.specs.DeclaredTasks.{text_of}
use Rattle.syn_event.specs.RuleReservedName.{is_reserved}
use Rattle.task_model.specs.Setting.{Setting}
use Rattle.normal_model.specs.Names.{name_of_member, texts_of_member, member_texts, with_members, member_name, task_name}
use Rattle.normal_model.specs.NormalTree.{tasks_beside}
use Rattle.normal_model.proofs.VariablesLemmas.{Begins}
use Rattle.task_laws.proofs.legal.rewritten_values.Saying.{place-within}
use Rattle.normal_laws.specs.structure.types.Laws.{IsOrdered, setting_of}
use Rattle.normal_laws.proofs.structure.types.Names.{fold-begins, interned-has, text-place}
use Rattle.normal_laws.proofs.structure.units.Pairs.{names_tell_units}
use Rattle.normal_laws.proofs.existence.units.TaskNames.{IsShort, SameIndex, index-same, members-same, member-reserved}
use Rattle.normal_laws.proofs.existence.units.DeclaredNames.{IsGood, tasks-good}
use Rattle.common_lemmas.proofs.Lists.{all_unflat}
use Rattle.common_lemmas.proofs.Options.{some_same}

-- the text of a task's name in the normal form
abbrev pub full_text : List ℕ → Option ℤ → List ℕ
full_text text None = text
full_text text (Some i) = name_of_member text i

-- ---- the new names are there

any-front : (t : List ℕ) (xs ys : List (List ℕ)) → list_any (bytes_eq t) xs ≡ true → list_any (bytes_eq t) (xs ++ ys) ≡ true
any-front t [] ys e = absurd (true≢false (sym e))
any-front t (x ∷ xs) ys e = by_test (bytes_eq t x) e (any-front t xs ys)
  where
    by_test : (b : Bool) → (b || list_any (bytes_eq t) xs) ≡ true → (list_any (bytes_eq t) xs ≡ true → list_any (bytes_eq t) (xs ++ ys) ≡ true) → (b || list_any (bytes_eq t) (xs ++ ys)) ≡ true
    by_test true f rest = refl
    by_test false f rest = rest f

abbrev IsIn : List (List ℕ) → List ℕ → Type 0
IsIn all t = list_any (bytes_eq t) all ≡ true

fold-has : (new ts : List (List ℕ)) → AllByRecursion (IsIn (fold interned ts new)) new
fold-has [] ts = tt
fold-has (t ∷ new) ts =
    let begins = fold-begins new (interned ts t) in
    (subst (λ l. IsIn l t) (sym begins.joined) (any-front t (interned ts t) begins.more (interned-has ts t)), fold-has new (interned ts t))

-- ---- the name of a task

module _ (g : Setting) where
  abbrev names : List (List ℕ)
  names = g.program.names

  -- a task and the text of its name
  pub record IsNamed (info : TaskInfo) : Type 0 where
    pub text : List ℕ
    pub there : slice_get names info.name.0 ≡ Some text
    pub free : is_reserved text ≡ false
    pub found : slice_get (with_members g) (task_name g info).0 ≡ Some (full_text text info.member)

  abbrev HasMembers : TaskInfo → Type 0
  HasMembers info = AllByRecursion (IsIn (with_members g)) (texts_of_member (text_of names info.name) info.member)

  pub members-there : AllByRecursion HasMembers g.numbers.tasks
  members-there = all_unflat (IsIn (with_members g)) (λ (info : TaskInfo). texts_of_member (text_of names info.name) info.member) g.numbers.tasks (fold-has (member_texts names g.numbers.tasks) names)

  begins : Begins names (with_members g)
  begins = fold-begins (member_texts names g.numbers.tasks) names

  name-found : (id : NameId) (member : Option ℤ) (text : List ℕ) → slice_get names id.0 ≡ Some text → AllByRecursion (IsIn (with_members g)) (texts_of_member (text_of names id) member) →
      slice_get (with_members g) (member_name g id member).0 ≡ Some (full_text text member)
  name-found id None text e h = ap (λ l. slice_get l id.0) begins.joined ∙ place-within names begins.more id.0 (slice_get_within names id.0 text e) ∙ e
  name-found id (Some i) text e h =
      let t = name_of_member (text_of names id) i in
      let place = text-place (with_members g) t h.0 in
      ap (λ o. slice_get (with_members g) (unwrap_or o 0)) place.position_is ∙ place.there ∙ ap (λ o. Some (name_of_member (unwrap_or o []) i)) e

  good-named : (info : TaskInfo) → IsGood names info.name → HasMembers info → IsNamed info
  good-named info good h = by_place (slice_get names info.name.0) refl good.there
    where
      by_place : (o : Option (List ℕ)) → slice_get names info.name.0 ≡ o → IsSomeAnd o IsIdentifier → IsNamed info
      by_place None e k = absurd k
      by_place (Some text) e k = record {
        text = text;
        there = e;
        free = ap (λ (o : Option (List ℕ)). is_reserved (unwrap_or o [])) (sym e) ∙ good.free;
        found = name-found info.name info.member text e h;
      }

  pub all-named : (infos : List TaskInfo) → AllByRecursion (λ (i : TaskInfo). IsGood names i.name) infos → AllByRecursion HasMembers infos → AllByRecursion IsNamed infos
  all-named [] good h = tt
  all-named (x ∷ xs) good h = (good-named x good.0 h.0, all-named xs good.1 h.1)

  -- ---- two tasks

  texts-same : (s t : List ℕ) (i j : Option ℤ) → is_reserved s ≡ false → is_reserved t ≡ false → full_text s i ≡ full_text t j → (s ≡ t) × SameIndex i j
  texts-same s t None None f g e = (e, tt)
  texts-same s t (Some i) (Some j) f g e = members-same s t i j e
  texts-same s t None (Some j) f g e = absurd (true≢false (sym (ap is_reserved e ∙ member-reserved t j) ∙ f))
  texts-same s t (Some i) None f g e = absurd (true≢false (sym (ap is_reserved (sym e) ∙ member-reserved s i) ∙ g))

  pub tasks-apart : AreNames names → (a b : TaskInfo) → IsNamed a → IsNamed b → (task_name g a).0 ≡ (task_name g b).0 → (a.name.0 ≡ b.name.0) × SameIndex a.member b.member
  tasks-apart are a b n m e =
      let r = texts-same n.text m.text a.member b.member n.free m.free (some_same (sym n.found ∙ ap (slice_get (with_members g)) e ∙ m.found)) in
      (are.distinct n.text a.name.0 b.name.0 n.there (m.there ∙ ap Some (sym r.0)), r.1)

-- ---- all tasks of a program

module _ (p : PProgram) (types : TypeTable) (ordered : IsOrdered p) (checks : MeetsCheckRules p Original) (has : HasTokens p) (are : AreNames p.names) where
  abbrev g : Setting
  g = setting_of p types (all_numbers types p)

  named : AllByRecursion (IsNamed g) (tasks_beside g)
  named = all-named g (tasks_beside g) (tasks-good p types checks has) (members-there g).1

  one-unit : (a : TaskInfo) (bs : List TaskInfo) → IsNamed g a → AllByRecursion (IsNamed g) bs → AllByRecursion (λ (b : TaskInfo). a.name.0 ≡ b.name.0 → a.unit.0 ≡ b.unit.0) bs →
      AllByRecursion (λ (b : TaskInfo). (task_name g a).0 ≡ (task_name g b).0 → a.unit.0 ≡ b.unit.0) bs
  one-unit a [] n h k = tt
  one-unit a (b ∷ bs) n h k = ((λ e. k.0 (tasks-apart g are a b n h.0 e).0), one-unit a bs n h.1 k.1)

  each-unit : (xs bs : List TaskInfo) → AllByRecursion (IsNamed g) xs → AllByRecursion (IsNamed g) bs → AllByRecursion (λ (a : TaskInfo). AllByRecursion (λ (b : TaskInfo). a.name.0 ≡ b.name.0 → a.unit.0 ≡ b.unit.0) bs) xs →
      AllByRecursion (λ (a : TaskInfo). AllByRecursion (λ (b : TaskInfo). (task_name g a).0 ≡ (task_name g b).0 → a.unit.0 ≡ b.unit.0) bs) xs
  each-unit [] bs n h k = tt
  each-unit (a ∷ xs) bs n h k = (one-unit a bs n.0 h k.0, each-unit xs bs n.1 h k.1)

  -- tasks of one name in the normal form run one body
  pub units-told : AllByRecursion (λ (a : TaskInfo). AllByRecursion (λ (b : TaskInfo). (task_name g a).0 ≡ (task_name g b).0 → a.unit.0 ≡ b.unit.0) (tasks_beside g)) (tasks_beside g)
  units-told = each-unit (tasks_beside g) (tasks_beside g) named named (names_tell_units p types ordered)

  same-task : (a : TaskInfo) (bs : List TaskInfo) → IsNamed g a → IsShort a.member → AllByRecursion (IsNamed g) bs → AllByRecursion (λ (b : TaskInfo). IsShort b.member) bs →
      AllByRecursion (λ (b : TaskInfo). (task_name g a).0 ≡ (task_name g b).0 → (a.name.0 ≡ b.name.0) × (a.member ≡ b.member)) bs
  same-task a [] n s h k = tt
  same-task a (b ∷ bs) n s h k = ((λ e. let r = tasks-apart g are a b n h.0 e in (r.0, index-same a.member b.member s k.0 r.1)), same-task a bs n s h.1 k.1)

  each-task : (xs bs : List TaskInfo) → AllByRecursion (IsNamed g) xs → AllByRecursion (λ (b : TaskInfo). IsShort b.member) xs → AllByRecursion (IsNamed g) bs → AllByRecursion (λ (b : TaskInfo). IsShort b.member) bs →
      AllByRecursion (λ (a : TaskInfo). AllByRecursion (λ (b : TaskInfo). (task_name g a).0 ≡ (task_name g b).0 → (a.name.0 ≡ b.name.0) × (a.member ≡ b.member)) bs) xs
  each-task [] bs n s h k = tt
  each-task (a ∷ xs) bs n s h k = (same-task a bs n.0 s.0 h k, each-task xs bs n.1 s.1 h k)

  -- tasks of one name in the normal form have one name and one index in the program, where indices are short
  pub tasks-told : AllByRecursion (λ (b : TaskInfo). IsShort b.member) (tasks_beside g) →
      AllByRecursion (λ (a : TaskInfo). AllByRecursion (λ (b : TaskInfo). (task_name g a).0 ≡ (task_name g b).0 → (a.name.0 ≡ b.name.0) × (a.member ≡ b.member)) (tasks_beside g)) (tasks_beside g)
  tasks-told short = each-task (tasks_beside g) (tasks_beside g) named short named short

-- The formals of the entries of one task more.
use Rattle.std.specs.Prelude.{◌≡◌, ◌==◌, ◌<◌, ◌≤◌, ◌+◌, ℕ, nat_eq, Bool, true, false, if◌then◌else◌, ◌&&◌, List, [], ◌∷◌, ◌++◌, Vec, length, take, map, find, Option, Some, None, option_map, is_some, cond, refl}
use Rattle.std.proofs.Common.{sym, ap, ◌∙◌, get_or}
use Rattle.std.specs.HashMap.{HashMap, get}
use Rattle.std.specs.declared.alloc.Global.{Global}
use Rattle.std.proofs.lemmas.List.{take_more, take_all, map-append}
use Rattle.ada_tree.specs.declared.declarations.Decl.{Decl}
use Rattle.ada_tree.specs.declared.declarations.EntryDecl.{EntryDecl}
use Rattle.ada_tree.specs.declared.statements.Formal.{Formal}
use Rattle.ada_tree.specs.PlainStmt.{plain_formal}
use Rattle.ada_static_rules.specs.StaticValue.{first_of_two}
use Rattle.ada_tree.specs.TypeTable.{TypeTable}
use Rattle.ada_tree.specs.PlainDecl.{PEntry, PTask, PDecl, DNumber, DObject, DEnumeration, DArray, DSubtype, DException, DIntIo, DPragma, DTask, DTaskBody, decls_of, plain_decl, plain_entry}
use Rattle.syn_event.specs.DeclaredTasks.{decl_list, tasks_in}
use Rattle.task_model.specs.Setting.{parameters_of}
use Rattle.task_model.specs.declared.parameters.FormalParameter.{FormalParameter}
use Rattle.task_links.specs.inner.Keys.{entry_eq}
use Rattle.task_links.specs.inner.Made.{KeepsUnits, formals_at, formals_among, formals_declared_in, formals_declared}
use Rattle.task_links.proofs.KeepingLemmas.{more, map_first, map_if, made_push, lookup_same, kept_test, put, entry_equiv}
use Rattle.common_lemmas.proofs.Numbers.{equal_is}
use Rattle.common_lemmas.proofs.Options.{mapped_there, none_there}
use Rattle.syn_event.proofs.DeclLists.{listed_back}
use Rattle.ada_static_rules.proofs.found_twice.FirstOfTwo.{find_push, first_or_none}
use Rattle.common_lemmas.proofs.Truth.{clash}

abbrev name_of : PTask → ℕ
name_of t = t.name.name.0

abbrev named : ℕ → PTask → Bool
named k t = t.name.name.0 == k

some_not_none : {X : Type 0} (o : Option X) (x : X) → o ≡ Some x → o ≡ None → ⊥
some_not_none o x h e = cc

already : {X : Type 0} (b : Bool) (o : Option X) (x : X) → (b ≡ true → is_some o ≡ true) → first_of_two o (if b then Some x else None) ≡ o
already b (Some y) x h = refl
already false None x h = refl
already true None x h = absurd (clash (h refl))

-- a task whose name came before is not found
found_before : (ts : List PTask) (t : PTask) (k : ℕ) → is_some (find (named (name_of t)) ts) ≡ true → find (named k) (ts ++ t ∷ []) ≡ find (named k) ts
found_before ts t k h =
    find_push (named k) ts t
    ∙ already (named k t) (find (named k) ts) t (λ same. ap (λ n. is_some (find (named n) ts)) (sym (equal_is (name_of t) k same)) ∙ h)

pub known_step : {S R : Type 0} (types : TypeTable) (ts : List PTask) (t : PTask) (units : HashMap ℕ ℕ S) (formals : HashMap (ℕ × ℕ) (Vec FormalParameter Global) R) → is_some (get nat_eq units t.name.name.0) ≡ true
    → KeepsUnits types ts units formals → KeepsUnits types (ts ++ t ∷ []) units formals
known_step types ts t units formals known keeps =
    let here = sym (mapped_there name_of (find (named (name_of t)) ts)) ∙ ap is_some (sym (keeps.units_are (name_of t))) ∙ known in
    record {
      units_are = λ k. keeps.units_are k ∙ ap (option_map name_of) (sym (found_before ts t k here));
      formals_are = λ q. keeps.formals_are q ∙ ap (λ o. formals_declared_in types o q.1) (sym (found_before ts t q.0 here));
    }

one_more : (types : TypeTable) (b : Bool) (o : Option PTask) (t : PTask) (n : ℕ) → (b ≡ true → o ≡ None)
    → first_of_two (formals_declared_in types o n) (if b then formals_among types t.entries n else None) ≡ formals_declared_in types (first_of_two o (if b then Some t else None)) n
one_more types true None t n h = refl
one_more types false None t n h = refl
one_more types false (Some x) t n h = first_or_none (formals_declared_in types (Some x) n)
one_more types true (Some x) t n h = absurd (some_not_none (Some x) x refl (h refl))

pub new_step : {S R : Type 0} (types : TypeTable) (ts : List PTask) (t : PTask) (units more_units : HashMap ℕ ℕ S) (formals more_formals : HashMap (ℕ × ℕ) (Vec FormalParameter Global) R) → is_some (get nat_eq units t.name.name.0) ≡ false
    → ((k : ℕ) → get nat_eq more_units k ≡ first_of_two (get nat_eq units k) (if t.name.name.0 == k then Some t.name.name.0 else None))
    → ((q : ℕ × ℕ) → formals_at more_formals q ≡ first_of_two (formals_at formals q) (if t.name.name.0 == q.0 then formals_among types t.entries q.1 else None))
    → KeepsUnits types ts units formals → KeepsUnits types (ts ++ t ∷ []) more_units more_formals
new_step types ts t units more_units formals more_formals unknown units_grow formals_grow keeps =
    let none : find (named (name_of t)) ts ≡ None = none_there (find (named (name_of t)) ts) (sym (mapped_there name_of (find (named (name_of t)) ts)) ∙ ap is_some (sym (keeps.units_are (name_of t))) ∙ unknown) in
    record {
      units_are = λ k.
          units_grow k
          ∙ ap (λ o. first_of_two o (if named k t then Some (name_of t) else None)) (keeps.units_are k)
          ∙ sym (made_push name_of (named k) ts t);
      formals_are = λ q.
          formals_grow q
          ∙ ap (λ o. first_of_two o (if named q.0 t then formals_among types t.entries q.1 else None)) (keeps.formals_are q)
          ∙ one_more types (named q.0 t) (find (named q.0) ts) t q.1 (λ same. ap (λ n. find (named n) ts) (sym (equal_is (name_of t) q.0 same)) ∙ none)
          ∙ ap (λ o. formals_declared_in types o q.1) (sym (find_push (named q.0) ts t));
    }

-- what is kept for tasks is kept for the same tasks
pub keeps_same : {S R : Type 0} (types : TypeTable) (ts us : List PTask) (units : HashMap ℕ ℕ S) (formals : HashMap (ℕ × ℕ) (Vec FormalParameter Global) R) → ts ≡ us → KeepsUnits types ts units formals → KeepsUnits types us units formals
keeps_same types ts us units formals same keeps = record {
  units_are = λ k. keeps.units_are k ∙ ap (λ l. option_map name_of (find (named k) l)) same;
  formals_are = λ q. keeps.formals_are q ∙ ap (λ l. formals_declared types l q) same;
}

-- ---- entries

-- an entry for which something is kept already
pub kept_before : {S : Type 0} (m : HashMap (ℕ × ℕ) (Vec FormalParameter Global) S) (key q : ℕ × ℕ) (l : List FormalParameter) → is_some (get entry_eq m key) ≡ true → formals_at m q ≡ first_of_two (formals_at m q) (if entry_eq key q then Some l else None)
kept_before m key q l h =
    kept_test (entry_eq key q) (formals_at m key) (formals_at m q) l
    (λ t. ap (option_map (λ (v : Vec FormalParameter Global). v.items)) (lookup_same entry_eq entry_equiv key q t m.entries))
    (mapped_there (λ (v : Vec FormalParameter Global). v.items) (get entry_eq m key) ∙ h)

-- an entry that is new
pub kept_now : {S : Type 0} (m grown : HashMap (ℕ × ℕ) (Vec FormalParameter Global) S) (key q : ℕ × ℕ) (v : Vec FormalParameter Global) (l : List FormalParameter) → is_some (get entry_eq m key) ≡ false → get entry_eq grown q ≡ cond (entry_eq key q) (Some v) (get entry_eq m q)
    → v.items ≡ l → formals_at grown q ≡ first_of_two (formals_at m q) (if entry_eq key q then Some l else None)
kept_now m grown key q v l h updates is =
    let items = λ (w : Vec FormalParameter Global). w.items in
    ap (option_map items) (put entry_eq entry_equiv m grown key q v h updates)
    ∙ map_first items (get entry_eq m q) (if entry_eq key q then Some v else None)
    ∙ ap (first_of_two (formals_at m q)) (map_if items v (entry_eq key q))
    ∙ ap (λ x. first_of_two (formals_at m q) (if entry_eq key q then Some x else None)) is

both : {X : Type 0} (b c : Bool) (found : Option X) (x : X) → (if b then first_of_two found (if c then Some x else None) else None) ≡ first_of_two (if b then found else None) (if b && c then Some x else None)
both true c found x = refl
both false c found x = refl

pub entry_more : {S : Type 0} (types : TypeTable) (unit : ℕ) (start so_far grown : HashMap (ℕ × ℕ) (Vec FormalParameter Global) S) (entries : List EntryDecl) (i : ℕ) (e : EntryDecl) (formals : List Formal) → i < length entries → e ≡ get_or entries i e → formals ≡ e.formals.items
    → ((q : ℕ × ℕ) → formals_at so_far q ≡ first_of_two (formals_at start q) (if unit == q.0 then formals_among types (map plain_entry (take i entries)) q.1 else None))
    → ((q : ℕ × ℕ) → formals_at grown q ≡ first_of_two (formals_at so_far q) (if entry_eq (unit, e.name.name.0) q then Some (parameters_of types (map plain_formal formals)) else None))
    → (q : ℕ × ℕ) → formals_at grown q ≡ first_of_two (formals_at start q) (if unit == q.0 then formals_among types (map plain_entry (take (i + 1) entries)) q.1 else None)
entry_more types unit start so_far grown entries i e formals h is formals_are before grows q =
    let made = λ (x : PEntry). parameters_of types x.formals in
    let here = λ (x : PEntry). x.name.name.0 == q.1 in
    let done = map plain_entry (take i entries) in
    let longer : map plain_entry (take (i + 1) entries) ≡ done ++ plain_entry e ∷ [] =
    ap (map plain_entry) (take_more entries i e h) ∙ map-append plain_entry (take i entries) (get_or entries i e ∷ []) ∙ ap (λ x. done ++ plain_entry x ∷ []) (sym is) in
    more (formals_at start q) (formals_at so_far q) (formals_at grown q)
    (if unit == q.0 then formals_among types done q.1 else None)
    (if unit == q.0 then formals_among types (map plain_entry (take (i + 1) entries)) q.1 else None)
    (if entry_eq (unit, e.name.name.0) q then Some (made (plain_entry e)) else None)
    (before q)
    (grows q ∙ ap (λ l. first_of_two (formals_at so_far q) (if entry_eq (unit, e.name.name.0) q then Some (parameters_of types (map plain_formal l)) else None)) formals_are)
    (ap (λ l. if unit == q.0 then formals_among types l q.1 else None) longer
    ∙ ap (λ o. if unit == q.0 then o else None) (made_push made here done (plain_entry e))
    ∙ both (unit == q.0) (e.name.name.0 == q.1) (option_map made (find here done)) (made (plain_entry e)))

-- ---- declarations

pub tasks_push : (ds : List PDecl) (d : PDecl) → tasks_in (ds ++ d ∷ []) ≡ tasks_in ds ++ tasks_in (d ∷ [])
tasks_push [] d = refl
tasks_push (DNumber w e s ∷ ds) d = tasks_push ds d
tasks_push (DObject ws c x i s ∷ ds) d = tasks_push ds d
tasks_push (DEnumeration w ws s ∷ ds) d = tasks_push ds d
tasks_push (DArray w r x s ∷ ds) d = tasks_push ds d
tasks_push (DSubtype w x s ∷ ds) d = tasks_push ds d
tasks_push (DException ws s ∷ ds) d = tasks_push ds d
tasks_push (DIntIo w s ∷ ds) d = tasks_push ds d
tasks_push (DPragma e s ∷ ds) d = tasks_push ds d
tasks_push (DTask t s ∷ ds) d = ap (λ l. t ∷ l) (tasks_push ds d)
tasks_push (DTaskBody w objects its s ∷ ds) d = tasks_push ds d

-- the tasks of one declaration more
pub tasks_more : (ds : List Decl) (i : ℕ) (d : Decl) → i < length ds → d ≡ get_or ds i d
    → tasks_in (map plain_decl (take i ds)) ++ tasks_in (plain_decl d ∷ []) ≡ tasks_in (map plain_decl (take (i + 1) ds))
tasks_more ds i d h is =
    sym (tasks_push (map plain_decl (take i ds)) (plain_decl d))
    ∙ ap tasks_in (sym (map-append plain_decl (take i ds) (d ∷ [])))
    ∙ ap (λ x. tasks_in (map plain_decl (take i ds ++ x ∷ []))) is
    ∙ ap (λ l. tasks_in (map plain_decl l)) (sym (take_more ds i d h))

tasks_all : (ds : List Decl) → tasks_in (map plain_decl ds) ≡ tasks_in (decl_list (decls_of (map plain_decl ds)))
tasks_all ds = ap tasks_in (sym (listed_back (map plain_decl ds)))

pub tasks_end : (ds : List Decl) (i : ℕ) → length ds ≤ i → tasks_in (map plain_decl (take i ds)) ≡ tasks_in (decl_list (decls_of (map plain_decl ds)))
tasks_end ds i h = ap (λ l. tasks_in (map plain_decl l)) (take_all i ds h) ∙ tasks_all ds

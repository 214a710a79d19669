-- What is kept for the formals of entries, and how it is found.
use Rattle.std.proofs.Common.{◌≡◌, ◌<◌, ◌+◌, ℕ, List, [], ◌∷◌, ◌++◌, map, take, get_or, length, Option, Some, None, option_map, refl, sym, ap, ◌∙◌}
use Rattle.std.specs.Borrow.{Bor}
use Rattle.std.proofs.lemmas.List.{take_more, map-append, append-nil, append_assoc}
use Rattle.std.proofs.lemmas.Grind.{flat_map-append}
use Rattle.ada_tree.specs.declared.naming.NameId.{NameId}
use Rattle.ada_tree.specs.declared.naming.Word.{Word}
use Rattle.ada_tree.specs.declared.statements.Formal.{Formal}
use Rattle.ada_tree.specs.PlainStmt.{PFormal, plain_formal}
use Rattle.ada_tree.specs.PlainDecl.{PTask, PDecl, decls_of}
use Rattle.ada_tree.specs.PlainProgram.{PProgram}
use Rattle.syn_event.specs.DeclaredTasks.{decl_list, tasks_in, tasks_of}
use Rattle.scoped_names.specs.Meaning.{meaning_in}
use Rattle.task_model.specs.Setting.{unit_named}
use Rattle.normal_model.specs.Calls.{Slot, slots_of}
use Rattle.normal_lookups.specs.declared.entry_forms.EntryForm.{EntryForm}
use Rattle.normal_lookups.specs.inner.EntryForms.{form_in, form_of}
use Rattle.normal_lookups.specs.inner.Kept.{entry_named, seen_entry, seen_form, seen_unit, units_named}
use Rattle.normal_lookups.proofs.Finding.{meaning_made}
use Rattle.syn_event.proofs.DeclLists.{listed_back}

-- ---- slots

-- the slots of one parameter declaration
abbrev slots_in : PFormal → List Slot
slots_in f = map (λ w. let slot : Slot = record { mode = f.mode; mark = f.mark } in slot) f.names

each_slot : {A : Type 0} (f : Slot → A) (x : PFormal) (what : A) → f (record { mode = x.mode; mark = x.mark }) ≡ what → (words : List Word) → map f (map (λ w. let slot : Slot = record { mode = x.mode; mark = x.mark } in slot) words) ≡ map (λ w. what) words
each_slot f x what is [] = refl
each_slot f x what is (w ∷ words) = ap (λ y. y ∷ map f (map (λ v. let slot : Slot = record { mode = x.mode; mark = x.mark } in slot) words)) is ∙ ap (λ l. what ∷ l) (each_slot f x what is words)

-- what is read off the slots of one more declaration
pub slots_more : {A : Type 0} (f : Slot → A) (formals : List Formal) (i : ℕ) (x : Formal) (what : A) (words : List Word) (so_far grown : List A) → i < length formals → x ≡ get_or formals i x →
    f (record { mode = x.mode; mark = x.mark }) ≡ what → words ≡ x.names.items →
    so_far ≡ map f (slots_of (map plain_formal (take i formals))) →
    grown ≡ so_far ++ map (λ w. what) words →
    grown ≡ map f (slots_of (map plain_formal (take (i + 1) formals)))
slots_more f formals i x what words so_far grown lt is made same before grows =
    grows
    ∙ ap (λ l. l ++ map (λ w. what) words) before
    ∙ ap (λ l. map f (slots_of (map plain_formal (take i formals))) ++ map (λ w. what) l) same
    ∙ ap (λ l. map f (slots_of (map plain_formal (take i formals))) ++ l) (sym (each_slot f (plain_formal x) what made x.names.items))
    ∙ sym (longer ∙ ap (λ l. map f (slots_of (map plain_formal (take i formals))) ++ map f l) (append-nil (slots_in (plain_formal x))))
  where
    longer : map f (slots_of (map plain_formal (take (i + 1) formals))) ≡ map f (slots_of (map plain_formal (take i formals))) ++ map f (slots_of (plain_formal x ∷ []))
    longer =
        ap (λ l. map f (slots_of (map plain_formal l))) (take_more formals i x lt ∙ ap (λ y. take i formals ++ y ∷ []) (sym is))
        ∙ ap (λ l. map f (slots_of l)) (map-append plain_formal (take i formals) (x ∷ []))
        ∙ ap (map f) (flat_map-append slots_in (map plain_formal (take i formals)) (plain_formal x ∷ []))
        ∙ map-append f (slots_of (map plain_formal (take i formals))) (slots_of (plain_formal x ∷ []))

-- ---- units

pub tasks_of_list : (ds : List PDecl) → tasks_in (decl_list (decls_of ds)) ≡ tasks_in ds
tasks_of_list ds = ap tasks_in (listed_back ds)

-- what is kept for a unit is what its task or task type declares
unit_is : (kept : List (ℕ × List (ℕ × EntryForm))) (p : PProgram) (unit : NameId) (u : Option (List (ℕ × EntryForm))) → meaning_in kept unit.0 ≡ u → map seen_unit kept ≡ units_named (tasks_of p) →
    option_map (map seen_entry) u ≡ option_map (λ t. map entry_named t.entries) (unit_named p unit)
unit_is kept p unit u found same = ap (option_map (map seen_entry)) (sym found) ∙ meaning_made (map seen_entry) (λ t. t.name.name.0) (λ t. map entry_named t.entries) kept (tasks_of p) unit.0 same

-- a form that is kept is that of the entry
pub form_is : (kept : List (ℕ × List (ℕ × EntryForm))) (p : PProgram) (unit name : NameId) (forms : List (ℕ × EntryForm)) (o : Option EntryForm) →
    meaning_in kept unit.0 ≡ Some forms → meaning_in forms name.0 ≡ o → map seen_unit kept ≡ units_named (tasks_of p) →
    option_map seen_form o ≡ form_in (unit_named p unit) name
form_is kept p unit name forms o found inside same = ap (option_map seen_form) (sym inside) ∙ by (unit_named p unit) (unit_is kept p unit (Some forms) found same)
  where
    by : (t : Option PTask) → Some (map seen_entry forms) ≡ option_map (λ t. map entry_named t.entries) t → option_map seen_form (meaning_in forms name.0) ≡ form_in t name
    by None e = cc
    by (Some t) e = meaning_made seen_form (λ e. e.name.name.0) form_of forms t.entries name.0 (cc)

-- where no unit of the name is kept, there is no entry
pub no_form : (kept : List (ℕ × List (ℕ × EntryForm))) (p : PProgram) (unit name : NameId) → meaning_in kept unit.0 ≡ None → map seen_unit kept ≡ units_named (tasks_of p) → None ≡ form_in (unit_named p unit) name
no_form kept p unit name found same = by (unit_named p unit) (unit_is kept p unit None found same)
  where
    by : (t : Option PTask) → None ≡ option_map (λ t. map entry_named t.entries) t → None ≡ form_in t name
    by None e = refl
    by (Some t) e = cc

-- what is seen of a form behind a reference
pub seen_now : (o : Option (Bor EntryForm)) → option_map (λ x. seen_form x.now) o ≡ option_map seen_form (option_map (λ t. t.now) o)
seen_now None = refl
seen_now (Some x) = refl

-- ---- one thing for each of some names

no_word : Word
no_word = record { name = record { 0 = 0 }; span = record { start = 0; end = 0 } }

pub each_more : {A : Type 0} (what : A) (words : List Word) (i : ℕ) (start so_far grown : List A) → i < length words → so_far ≡ start ++ map (λ w. what) (take i words) → grown ≡ so_far ++ what ∷ [] →
    grown ≡ start ++ map (λ w. what) (take (i + 1) words)
each_more what words i start so_far grown lt before grows =
    grows
    ∙ ap (λ l. l ++ what ∷ []) before
    ∙ append_assoc start (map (λ w. what) (take i words)) (what ∷ [])
    ∙ ap (λ l. start ++ l) (sym (ap (map (λ w. what)) (take_more words i no_word lt) ∙ map-append (λ w. what) (take i words) (get_or words i no_word ∷ [])))

-- The doubles of entries of an original have names.
use Rattle.std.proofs.Common.{◌≡◌, ℕ, ◌<◌, ◌≤◌, ◌==◌, nat_le, true, false, not, ◌&&◌, ◌||◌, if◌then◌else◌, List, [], ◌∷◌, length, Some, slice_get, unwrap_or, flat_map, All, refl, sym, ap, subst, ◌∙◌, true≢false, arith}
use Rattle.std.specs.List.{AllByRecursion}
use Rattle.std.proofs.lemmas.List.Elements.{recursion_from_All}
use Rattle.std.proofs.lemmas.Option.{slice_get_within}
use Rattle.ada_tree.specs.declared.naming.NameId.{NameId}
use Rattle.ada_tree.specs.declared.naming.Span.{Span}
use Rattle.ada_tree.specs.Lexical.{is_upper_letter, is_digit, goes_on, IsIdentifier}
use Rattle.ada_tree.specs.PlainDecl.{PEntry, PTask, PDecl, DNumber, DObject, DEnumeration, DArray, DSubtype, DException, DIntIo, DPragma, DTask, DTaskBody, PDecls, no_decl, decl_then}
use Rattle.ada_tree.specs.Every.{EveryEntry, EveryDecl, EveryDecls}
use Rattle.ada_tree.specs.WellPlaced.{well_placed}
use Rattle.syn_event.specs.declared.numbering.Mode.TheVariants.{Original}
use Rattle.syn_event.specs.CheckScope.{CheckScope, CheckSite}
use Rattle.syn_event.specs.CheckSites as check
use Rattle.syn_event.specs.DeclaredTasks.{text_of, decl_list}
use Rattle.task_laws.specs.legal.sites.Met.{IsCheckMet}
use Rattle.common_lemmas.proofs.Lists.{all_back, all_front, all_unflat}
use Rattle.common_lemmas.proofs.Numbers.{le_is, unequal}
use Rattle.common_lemmas.proofs.Truth.{and_left, and_right}
use Rattle.task_laws.proofs.legal.rewritten_values.Saying.{place-within}
use Rattle.normal_model.proofs.VariablesLemmas.{Begins}
use Rattle.normal_laws.proofs.structure.placed.Tasks.{IsShortName, declared-short}
use Rattle.replay_model.specs.Names.{double_text}
use Rattle.replay_structure.specs.placed.Placeable.{HasDouble}

-- ---- texts

-- a letter is no underscore
letter-plain : (b : ℕ) → is_upper_letter b ≡ true → (b == 95) ≡ false
letter-plain b h = let l : b ≤ 90 = le_is b 90 (and_right (nat_le 65 b) (nat_le b 90) h) in unequal b 95 (λ e. omega (arith, l, e))

-- DED_S_ and a short name is a name
pub double-identifier : (t : List ℕ) → IsIdentifier t → length t ≤ 120 → IsIdentifier (double_text t)
double-identifier [] h l = absurd (true≢false (sym h.0))
double-identifier (b ∷ bs) h l =
    let letter : is_upper_letter b ≡ true = and_left (is_upper_letter b) (goes_on false bs) h.0 in
    let rest : goes_on false bs ≡ true = and_right (is_upper_letter b) (goes_on false bs) h.0 in (
      ap (λ c. if c then not true && goes_on true bs else (is_upper_letter b || is_digit b) && goes_on false bs) (letter-plain b letter)
          ∙ ap (λ c. (c || is_digit b) && goes_on false bs) letter
          ∙ rest,
      omega (arith, l),
      refl,
    )

-- a short name of the program has a double in names that begin with those of the program
double-there : (names names' : List (List ℕ)) → Begins names names' → (id : NameId) → IsShortName names id → IsIdentifier (double_text (text_of names' id))
double-there names names' b id h =
    let l : id.0 < length names = slice_get_within names id.0 h.text h.there in
    let same : slice_get names' id.0 ≡ Some h.text = ap (λ xs. slice_get xs id.0) b.joined ∙ place-within names b.more id.0 l ∙ h.there in
    let text : text_of names' id ≡ h.text = ap (λ o. unwrap_or o []) same in
    subst (λ t. IsIdentifier (double_text t)) (sym text) (double-identifier h.text h.identifier h.short)

-- ---- declarations

-- the entries of a task have doubles
abbrev pub HasDoubles : List (List ℕ) → PDecl → Type 0
HasDoubles names (DTask t s) = AllByRecursion (HasDouble names) t.entries
HasDoubles names _ = Prim.Unit {0}

module _ (names names' : List (List ℕ)) (begins : Begins names names') where
  abbrev M : CheckSite → Type 0
  M = IsCheckMet Original names

  entries-doubled : (c : CheckScope) (es : List PEntry) → AllByRecursion (EveryEntry (well_placed names)) es → AllByRecursion (λ e. AllByRecursion M (check.entry_sites c e)) es → AllByRecursion (HasDouble names') es
  entries-doubled c [] h m = tt
  entries-doubled c (e ∷ es) h m = (double-there names names' begins e.name.name (declared-short names c e.name h.0.1 m.0.0), entries-doubled c es h.1 m.1)

  task-doubled : (c : CheckScope) (bodies : List ℕ) (t : PTask) (s : Span) → All (EveryEntry (well_placed names)) t.entries → AllByRecursion M (check.task_sites c bodies t s) → AllByRecursion (HasDouble names') t.entries
  task-doubled c bodies t s h m =
      entries-doubled c t.entries (recursion_from_All (EveryEntry (well_placed names)) t.entries h)
      (all_unflat M (check.entry_sites c) t.entries (all_front M (flat_map (check.entry_sites c) t.entries) (flat_map (λ p. check.expr_sites c 2 p.value) t.priorities) m.1.1))

  pub decls-doubled : (ds : PDecls) (c : CheckScope) (bodies : List ℕ) → EveryDecls (well_placed names) ds → AllByRecursion M (check.decls_sites c bodies ds) → AllByRecursion (HasDoubles names') (decl_list ds)
  decls-doubled no_decl c bodies h m = tt
  decls-doubled (decl_then d rest) c bodies h m =
      let here : List CheckSite = check.decl_sites c bodies d in
      let more : List CheckSite = check.decls_sites (check.after_decl c d) bodies rest in
      (one d h.0 (all_front M here more m), decls-doubled rest (check.after_decl c d) bodies h.1 (all_back M here more m))
    where
      one : (d : PDecl) → EveryDecl (well_placed names) d → AllByRecursion M (check.decl_sites c bodies d) → HasDoubles names' d
      one (DTask t s) i n = task-doubled c bodies t s i.1.1 n
      one (DTaskBody w objects its s) i n = tt
      one (DNumber w e s) i n = tt
      one (DObject ws o x q s) i n = tt
      one (DEnumeration w ws s) i n = tt
      one (DArray w q x s) i n = tt
      one (DSubtype w x s) i n = tt
      one (DException ws s) i n = tt
      one (DIntIo w s) i n = tt
      one (DPragma e s) i n = tt

-- The entries of tasks, and what is refused first of them.
use Rattle.std.specs.Prelude.{◌≡◌, ℕ, ◌+◌, ◌<◌, ◌≤◌, true, List, [], ◌∷◌, ◌++◌, length, map, flat_map, take, Option, refl}
use Rattle.std.proofs.Common.{sym, ap, ◌∙◌, get_or, append_assoc}
use Rattle.std.proofs.lemmas.List.{map_more, append-nil, take_all, map-append}
use Rattle.std.proofs.lemmas.Simd.{map-map}
use Rattle.std.proofs.lemmas.Grind.{flat_map-append}
use Rattle.ada_tree.specs.declared.statements.Formal.{Formal}
use Rattle.ada_tree.specs.PlainStmt.{PFormal, plain_formal}
use Rattle.ada_tree.specs.declared.declarations.EntryDecl.{EntryDecl}
use Rattle.ada_tree.specs.PlainDecl.{PEntry, plain_entry}
use Rattle.ada_static_rules.specs.Declaring.{entry_family, formal_parts, entry_part}
use Rattle.ada_static_rules.specs.Refusals.{Refusal}
use Rattle.ada_static_rules.specs.Scope.{Scope, Family, FormalPart as PlainPart, EntryPart as PlainEntry, scalar_kind, marking}
use Rattle.ada_static_rules.specs.Demand.{declares_entry}
use Rattle.ada_static_rules.specs.Sites.{if_there, drange_sites, formals_sites, entry_sites, entries_sites}
use Rattle.ada_static_rules.specs.Sooner.{sooner}
use Rattle.ada_static_rules.specs.RefusedFirst.{refused_first}
use Rattle.ada_scopes.specs.Entries.{plain_entry as plain_part, plain_part as plain_formal_part}
use Rattle.ada_entry_rules.specs.EntryDecls.{each_entry, part_of}
use Rattle.ada_scopes.specs.declared.denotations.EntryPart.{EntryPart as Part}
use Rattle.ada_scopes.specs.declared.denotations.FormalPart.{FormalPart as PartOf}
use Rattle.ada_static_rules.proofs.Meeting.{met_cons, met_append, joined, before}

one_flat : {X Y : Type 0} (f : X → List Y) (ys : List Y) (x : X) → ys ++ flat_map f (x ∷ []) ≡ ys ++ f x
one_flat f ys x = ap (λ zs. ys ++ zs) (append-nil (f x))

pub flat_more : {A X Y : Type 0} (f : X → List Y) (g : A → X) (xs : List A) (i : ℕ) (x : A) → i < length xs → x ≡ get_or xs i x
    → flat_map f (map g (take i xs)) ++ f (g x) ≡ flat_map f (map g (take (i + 1) xs))
flat_more f g xs i x inside at =
    ap (λ y. flat_map f (map g (take i xs)) ++ f (g y)) at
    ∙ sym (one_flat f (flat_map f (map g (take i xs))) (g (get_or xs i x)))
    ∙ sym (flat_map-append f (map g (take i xs)) (g (get_or xs i x) ∷ []))
    ∙ ap (flat_map f) (sym (map_more g xs i x inside))

-- one part more
pub list_grown : {A B X : Type 0} (see : B → X) (make : A → X) (old : List X) (xs : List A) (bs cs : List B) (i : ℕ) (d : A) (b : B) → i < length xs
    → map see bs ≡ old ++ map make (take i xs) → cs ≡ bs ++ b ∷ [] → see b ≡ make (get_or xs i d)
    → map see cs ≡ old ++ map make (take (i + 1) xs)
list_grown see make old xs bs cs i d b inside before is same =
    ap (map see) is
    ∙ map-append see bs (b ∷ [])
    ∙ ap (λ l. l ++ see b ∷ []) before
    ∙ append_assoc old (map make (take i xs)) (see b ∷ [])
    ∙ ap (λ y. old ++ (map make (take i xs) ++ y ∷ [])) same
    ∙ ap (λ l. old ++ l) (sym (map_more make xs i d inside))

pub entry_met : (scope : Scope) (names : List ℕ) (e : PEntry) (p q : Option Refusal) → p ≡ refused_first (if_there (drange_sites true scope) e.family) → q ≡ refused_first (formals_sites scope e.formals)
    → sooner p q ≡ refused_first (entry_sites scope names e)
entry_met scope names e p q is_p is_q =
    joined (if_there (drange_sites true scope) e.family) (formals_sites scope e.formals) p q is_p is_q
    ∙ sym (met_cons scope (declares_entry names e.name) (if_there (drange_sites true scope) e.family ++ formals_sites scope e.formals))

entry_any : (scope : Scope) (names : List ℕ) (e : PEntry) → refused_first (entry_sites scope names e) ≡ refused_first (entry_sites scope [] e)
entry_any scope names e =
    met_cons scope (declares_entry names e.name) (if_there (drange_sites true scope) e.family ++ formals_sites scope e.formals)
    ∙ sym (met_cons scope (declares_entry [] e.name) (if_there (drange_sites true scope) e.family ++ formals_sites scope e.formals))

-- the entries before have no part in these rules
pub entries_flat : (scope : Scope) (names : List ℕ) (es : List PEntry) → refused_first (entries_sites scope names es) ≡ refused_first (flat_map (each_entry scope) es)
entries_flat scope names [] = refl
entries_flat scope names (e ∷ es) =
    met_append (entry_sites scope names e) (entries_sites scope (e.name.name.0 ∷ names) es)
    ∙ ap (λ o. sooner o (refused_first (entries_sites scope (e.name.name.0 ∷ names) es))) (entry_any scope names e)
    ∙ ap (sooner (refused_first (entry_sites scope [] e))) (entries_flat scope (e.name.name.0 ∷ names) es)
    ∙ sym (met_append (entry_sites scope [] e) (flat_map (each_entry scope) es))

-- one entry more, and all of them
pub entry_added : (scope : Scope) (xs : List EntryDecl) (i : ℕ) (x : EntryDecl) (bs cs : List Part) (b : Part) → i < length xs → x ≡ get_or xs i x
    → map plain_part bs ≡ map (entry_part scope) (map plain_entry (take i xs)) → cs ≡ bs ++ b ∷ [] → plain_part b ≡ entry_part scope (plain_entry x)
    → map plain_part cs ≡ map (entry_part scope) (map plain_entry (take (i + 1) xs))
entry_added scope xs i x bs cs b inside at before is same =
    list_grown plain_part (λ e. entry_part scope (plain_entry e)) [] xs bs cs i x b inside (before ∙ map-map (entry_part scope) plain_entry (take i xs)) is (same ∙ ap (λ y. entry_part scope (plain_entry y)) at)
    ∙ sym (map-map (entry_part scope) plain_entry (take (i + 1) xs))

pub entries_all : (scope : Scope) (xs : List EntryDecl) (i : ℕ) (bs : List Part) → length xs ≤ i → map plain_part bs ≡ map (entry_part scope) (map plain_entry (take i xs)) → map plain_part bs ≡ map (entry_part scope) (map plain_entry xs)
entries_all scope xs i bs h before = before ∙ ap (λ l. map (entry_part scope) (map plain_entry l)) (take_all i xs h)

-- the formals of one group more
pub formals_grown : (scope : Scope) (xs : List Formal) (i : ℕ) (x : Formal) (bs cs : List PartOf) (kind : Option ℕ) → i < length xs → x ≡ get_or xs i x
    → map plain_formal_part bs ≡ formal_parts scope (map plain_formal (take i xs))
    → map plain_formal_part cs ≡ map plain_formal_part bs ++ map (part_of (plain_formal x) kind) x.names.items
    → kind ≡ scalar_kind (marking scope x.mark.name)
    → map plain_formal_part cs ≡ formal_parts scope (map plain_formal (take (i + 1) xs))
formals_grown scope xs i x bs cs kind inside at before is is_kind =
    is
    ∙ ap (λ l. l ++ map (part_of (plain_formal x) kind) x.names.items) before
    ∙ ap (λ k. formal_parts scope (map plain_formal (take i xs)) ++ map (part_of (plain_formal x) k) x.names.items) is_kind
    ∙ flat_more (λ (f : PFormal). map (part_of f (scalar_kind (marking scope f.mark.name))) f.names) plain_formal xs i x inside at

-- what is told of an entry is the entry
abbrev entry_with : PEntry → Family → List PlainPart → PlainEntry
entry_with e f ps = record { name = e.name.name; family = f; formals = ps }

pub entry_is : (scope : Scope) (e : PEntry) (f : Family) (ps : List PlainPart) → f ≡ entry_family scope e.family → ps ≡ formal_parts scope e.formals → entry_with e f ps ≡ entry_part scope e
entry_is scope e f ps h g = ap (λ y. entry_with e y ps) h ∙ ap (entry_with e (entry_family scope e.family)) g

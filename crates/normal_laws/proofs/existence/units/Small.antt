-- A program with few names has small enumerations: its literals have names of their own, and each kind of main comes with a name.
use Rattle.std.proofs.Common.{◌≡◌, ℕ, zero, suc, ◌+◌, ◌<◌, ◌≤◌, ◌^◌, Bool, true, false, ◌||◌, ◌&&◌, ◌==◌, if◌then◌else◌, ℤ, pos, ◌-ℤ◌, List, [], ◌∷◌, ◌++◌, length, map, slice_get, Option, Some, None, All, ◌⊎◌, ⊎_elim, refl, sym, ap, subst, ◌∙◌, arith}
use Rattle.std.specs.Option.{IsSomeAnd}
use Rattle.std.specs.List.{AllByRecursion}
use Rattle.std.proofs.lemmas.Bool.{eqb-true, eqb-false, or_parts, cases_lt, le-leb}
use Rattle.std.proofs.lemmas.Option.{slice_get_within, none-some}
use Rattle.std.proofs.lemmas.List.{length-append}
use Rattle.std.proofs.lemmas.List.Elements.{recursion_from_All}
use Rattle.ada_tree.specs.declared.naming.NameId.{NameId}
use Rattle.ada_tree.specs.declared.naming.Word.{Word}
use Rattle.ada_tree.specs.declared.static_types.Kind.{Kind}
use Rattle.ada_tree.specs.declared.static_types.Kind.TheVariants.{Integer, Truth, Enumeration, Array}
use Rattle.ada_tree.specs.declared.static_types.Mark.{Mark}
use Rattle.ada_tree.specs.TypeTable.{TypeTable}
use Rattle.ada_tree.specs.PlainExpr.{PBounds, PSubind, PDrange}
use Rattle.ada_tree.specs.PlainDecl.{PShape, OPlain, OArray, PInit, PDecl, DNumber, DObject, DEnumeration, DArray, DSubtype, DException, DIntIo, DPragma, DTask, DTaskBody, PDecls, no_decl, decl_then}
use Rattle.ada_tree.specs.PlainProgram.{PProgram}
use Rattle.ada_tree.specs.Every.{EveryWord, EveryDecl, EveryDecls}
use Rattle.ada_tree.specs.Lexical.{IsIdentifier}
use Rattle.ada_tree.specs.WellPlaced.{well_placed, IsWellPlaced, BodiesLast, AreLater}
use Rattle.ada_static_rules.specs.Refusals.{MeetsTypeRules, types_in}
use Rattle.ada_static_rules.specs.Scope.{Scope, Range, Thing, TypeMark, Literal, AnException, Marking, ScalarMark, ArrayMark, TaskMark, NoMark, UnknownMark, UnclearMark, marking, kind_at, and_then, range_of_mark}
use Rattle.ada_static_rules.specs.Sites.{names_sites, shape_sites, init_sites, object_marking, is_task_object, if_there, decl_sites, decls_sites, body_sites}
use Rattle.ada_static_rules.specs.ExprTypes.{static_in, static_range}
use Rattle.ada_static_rules.specs.RuleDuplicate.{is_predefined, is_among}
use Rattle.ada_static_rules.specs.Declaring.{predefined_types, first_scope, inner_scope, with_types, with_name, with_names, add_kind, made, made_range, subind_made, made_subind, drange_range, made_array, renamed, declared_object, plain_object, array_object, add_constants, with_constants, constant_mark, constant_value, after_decl, after_decls}
use Rattle.ada_value.specs.Values.{word}
use Rattle.task_laws.specs.legal.rewritten_types.Agreement.{scalar_only, Keeps}
use Rattle.task_laws.proofs.legal.rewritten_types.Lookups.{earlier-or-last}
use Rattle.task_laws.proofs.legal.rewritten_types.Adding.{names-types, keeps-decl}
use Rattle.task_laws.proofs.legal.rewritten_types.Owning.{nobody, all-new}
use Rattle.task_laws.specs.legal.types.Typed.{IsSmallKind, IsSmall}
use Rattle.task_laws.proofs.legal.types.FirmTables.{scalar-kind}
use Rattle.task_laws.specs.legal.sites.Met.{IsMet}
use Rattle.task_laws.proofs.legal.sites.Meeting.{all_met}
use Rattle.common_lemmas.proofs.Lists.{all_back, all_front, last_at}
use Rattle.common_lemmas.proofs.Options.{some_same}
use Rattle.task_laws.proofs.legal.types.GoodDeclarations.{length-mapped}
use Rattle.task_laws.proofs.legal.rewritten_types.Refused.{no_word}

-- ---- numbers below a bound that differ

-- each is another one
abbrev Distinct : List ℕ → Type 0
Distinct [] = Unit {0}
Distinct (x ∷ xs) = (is_among xs x ≡ false) × Distinct xs

abbrev Below : ℕ → List ℕ → Type 0
Below n xs = AllByRecursion (λ x. x < n) xs

-- the numbers but one
but : ℕ → List ℕ → List ℕ
but n [] = []
but n (x ∷ xs) = if x == n then but n xs else x ∷ but n xs

among-but : (n y : ℕ) (xs : List ℕ) → is_among xs y ≡ false → is_among (but n xs) y ≡ false
unfolding but
among-but n y [] h = refl
among-but n y (x ∷ xs) h = by_test (x == n) (among-but n y xs (or_parts (x == y) (is_among xs y) h).1)
  where
    by_test : (b : Bool) → is_among (but n xs) y ≡ false → is_among (if b then but n xs else x ∷ but n xs) y ≡ false
    by_test true k = k
    by_test false k = ap (λ (t : Bool). t || is_among (but n xs) y) (or_parts (x == y) (is_among xs y) h).0 ∙ k

but-distinct : (n : ℕ) (xs : List ℕ) → Distinct xs → Distinct (but n xs)
unfolding but
but-distinct n [] h = tt
but-distinct n (x ∷ xs) h = by_test (x == n) (but-distinct n xs h.1)
  where
    by_test : (b : Bool) → Distinct (but n xs) → Distinct (if b then but n xs else x ∷ but n xs)
    by_test true k = k
    by_test false k = (among-but n x xs h.0, k)

but-below : (n : ℕ) (xs : List ℕ) → Below (suc n) xs → Below n (but n xs)
unfolding but
but-below n [] h = tt
but-below n (x ∷ xs) h = by_test (x == n) refl (but-below n xs h.1)
  where
    by_test : (b : Bool) → (x == n) ≡ b → Below n (but n xs) → Below n (if b then but n xs else x ∷ but n xs)
    by_test true e k = k
    by_test false e k = ((let ne = eqb-false x n e in ⊎_elim (λ (l : x < n). l) (λ (g : n ≤ x). absurd (ne (omega (arith, g, h.0)))) (cases_lt x n)), k)

-- a number that is not there is not left out
but-other : (n : ℕ) (xs : List ℕ) → is_among xs n ≡ false → but n xs ≡ xs
unfolding but
but-other n [] h = refl
but-other n (x ∷ xs) h =
    let p = or_parts (x == n) (is_among xs n) h in
    ap (λ b. if b then but n xs else x ∷ but n xs) p.0 ∙ ap (λ (l : List ℕ). x ∷ l) (but-other n xs p.1)

but-length : (n : ℕ) (xs : List ℕ) → Distinct xs → length xs ≤ suc (length (but n xs))
unfolding but
but-length n [] h = omega arith
but-length n (x ∷ xs) h = by_test (x == n) refl (but-length n xs h.1)
  where
    by_test : (b : Bool) → (x == n) ≡ b → length xs ≤ suc (length (but n xs)) → suc (length xs) ≤ suc (length (if b then but n xs else x ∷ but n xs))
    by_test true e k =
        let same : but n xs ≡ xs = but-other n xs (subst (λ m. is_among xs m ≡ false) (eqb-true x n e) h.0) in
        omega (arith, ap (λ (l : List ℕ). length l) same)
    by_test false e k = omega (arith, k)

-- so many numbers differ at most
pub few-below : (n : ℕ) (xs : List ℕ) → Below n xs → Distinct xs → length xs ≤ n
few-below zero [] h d = omega arith
few-below zero (x ∷ xs) h d = absurd (omega (arith, h.0))
few-below (suc n) xs h d = omega (arith, few-below n (but n xs) (but-below n xs h) (but-distinct n xs d), but-length n xs d)

-- ---- the names of main

-- the words are new one by one
abbrev Fresh : List ℕ → List Word → Type 0
Fresh here [] = Unit {0}
Fresh here (w ∷ ws) = (is_among here w.name.0 ≡ false) × Fresh (w.name.0 ∷ here) ws

names-fresh : (fixed : Bool) (s : Scope) (ws : List Word) → AllByRecursion IsMet (names_sites fixed s ws) → Fresh s.here ws
names-fresh fixed s [] h = tt
names-fresh fixed s (w ∷ ws) h = (
  (or_parts (is_predefined w.name.0) (is_among s.here w.name.0) (or_parts (is_predefined w.name.0 || is_among s.here w.name.0) _ (or_parts (is_predefined w.name.0 || is_among s.here w.name.0 || _) _ (no_word _ w h.0.once)).0).0).1,
  names-fresh fixed (record s { here = w.name.0 ∷ s.here }) ws h.1,
)

module _ (names : List (List ℕ)) where
  abbrev N : ℕ
  N = length names

  word-below : (w : Word) → EveryWord (well_placed names) w → w.name.0 < N
  word-below w h = by_text (slice_get names w.name.0) refl h
    where
      by_text : (o : Option (List ℕ)) → slice_get names w.name.0 ≡ o → IsSomeAnd o IsIdentifier → w.name.0 < length names
      by_text None e k = absurd k
      by_text (Some t) e k = slice_get_within names w.name.0 t e

  abbrev WordsBelow : List Word → Type 0
  WordsBelow ws = AllByRecursion (λ (w : Word). w.name.0 < N) ws

  words-below : (ws : List Word) → All (EveryWord (well_placed names)) ws → WordsBelow ws
  words-below ws h = by_row ws (recursion_from_All (EveryWord (well_placed names)) ws h)
    where
      by_row : (ws : List Word) → AllByRecursion (EveryWord (well_placed names)) ws → WordsBelow ws
      by_row [] k = tt
      by_row (w ∷ ws) k = (word-below w k.0, by_row ws k.1)

  -- the names that main has declared so far
  record GoodHere (here : List ℕ) : Type 0 where
    below : Below N here
    distinct : Distinct here

  good-words : (thing : Thing) (ws : List Word) (s : Scope) → WordsBelow ws → Fresh s.here ws → GoodHere s.here → GoodHere (with_names thing s ws).here × (length (with_names thing s ws).here ≡ length ws + length s.here)
  good-words thing [] s b f h = (h, (let q : length s.here ≡ 0 + length s.here = omega arith in q))
  good-words thing (w ∷ ws) s b f h =
      let r = good-words thing ws (with_name thing s w) b.1 f.1 record { below = (b.0, h.below); distinct = (f.0, h.distinct) } in
      (r.0, r.1 ∙ (let q : length ws + suc (length s.here) ≡ suc (length ws) + length s.here = omega arith in q))

-- ---- kinds

subind-kinds : (s : Scope) (m : Marking) (b : Option PBounds) → (subind_made s m b).types.kinds ≡ s.types.kinds
subind-kinds s (ScalarMark m k) None = refl
subind-kinds s (ScalarMark m k) (Some b) = by_range (static_range s k b)
  where
    by_range : (o : Option Range) → (made_range s.types o).types.kinds ≡ s.types.kinds
    by_range (Some r) = refl
    by_range None = refl
subind-kinds s (ArrayMark m r p) b = refl
subind-kinds s (TaskMark es) b = refl
subind-kinds s NoMark b = refl
subind-kinds s UnknownMark b = refl
subind-kinds s UnclearMark b = refl

array-kinds : (name : Option NameId) (T : TypeTable) (o : Option Range) (part : Option ℕ) → length (made_array name T o part).types.kinds ≤ length T.kinds + 1
array-kinds name T (Some r) (Some q) = omega (arith, length-append T.kinds (Array r.kind r.first r.last q ∷ []))
array-kinds name T (Some r) None = omega arith
array-kinds name T None (Some q) = omega arith
array-kinds name T None None = omega arith

renamed-kinds : (w : Word) (T : TypeTable) (o : Option Range) → (renamed w T o).types.kinds ≡ T.kinds
renamed-kinds w T (Some r) = refl
renamed-kinds w T None = refl

constants-kinds : (ws : List Word) (m : Option ℕ) (z : Option ℤ) (T : TypeTable) → (add_constants ws m z T).kinds ≡ T.kinds
constants-kinds ws (Some m) (Some z) T = refl
constants-kinds ws (Some m) None T = refl
constants-kinds ws None (Some z) T = refl
constants-kinds ws None None T = refl

count : {A : Type 0} {xs ys : List A} → xs ≡ ys → length xs ≡ length ys
count e = ap (λ (l : List _). length l) e

row-kinds : (s : Scope) (index : PDrange) (x : PSubind) → length (made_array None (made_subind s x).types (drange_range s index) (made_subind s x).mark).types.kinds ≤ length s.types.kinds + 1
row-kinds s index x = omega (arith, array-kinds None (made_subind s x).types (drange_range s index) (made_subind s x).mark, count (subind-kinds s (marking s x.mark.name) x.bounds))

plain-kinds : (s : Scope) (c : Bool) (m : Marking) (x : PSubind) → length (plain_object s c m x).types.kinds ≤ length s.types.kinds + 1
plain-kinds s c (TaskMark es) x = omega arith
plain-kinds s c (ArrayMark m r p) x = omega arith
plain-kinds s c (ScalarMark m k) x = omega (arith, count (subind-kinds s (marking s x.mark.name) x.bounds))
plain-kinds s c NoMark x = omega (arith, count (subind-kinds s (marking s x.mark.name) x.bounds))
plain-kinds s c UnknownMark x = omega (arith, count (subind-kinds s (marking s x.mark.name) x.bounds))
plain-kinds s c UnclearMark x = omega (arith, count (subind-kinds s (marking s x.mark.name) x.bounds))

row-object-kinds : (s : Scope) (c : Bool) (m : Marking) (index : PDrange) (x : PSubind) → length (array_object s c m index x).types.kinds ≤ length s.types.kinds + 1
row-object-kinds s c (TaskMark es) index x = omega arith
row-object-kinds s c (ArrayMark m r p) index x = row-kinds s index x
row-object-kinds s c (ScalarMark m k) index x = row-kinds s index x
row-object-kinds s c NoMark index x = row-kinds s index x
row-object-kinds s c UnknownMark index x = row-kinds s index x
row-object-kinds s c UnclearMark index x = row-kinds s index x

declared-kinds : (s : Scope) (c : Bool) (x : PShape) → length (declared_object s c x).types.kinds ≤ length s.types.kinds + 1
declared-kinds s c (OPlain x) = plain-kinds s c (marking s x.mark.name) x
declared-kinds s c (OArray index x) = row-object-kinds s c (marking s x.mark.name) index x

object-kinds : (s : Scope) (ws : List Word) (c : Bool) (x : PShape) (i : Option PInit) → length (with_constants s ws i (declared_object s c x)).kinds ≤ length s.types.kinds + 1
object-kinds s ws c x i = by_main s.in_main
  where
    by_main : (b : Bool) → length (if b then add_constants ws (constant_mark (declared_object s c x).thing) (constant_value s (declared_object s c x).types (constant_mark (declared_object s c x).thing) i) (declared_object s c x).types else (declared_object s c x).types).kinds ≤ length s.types.kinds + 1
    by_main false = declared-kinds s c x
    by_main true = omega (arith, declared-kinds s c x, count (constants-kinds ws (constant_mark (declared_object s c x).thing) (constant_value s (declared_object s c x).types (constant_mark (declared_object s c x).thing) i) (declared_object s c x).types))

-- what keeps enumerations keeps them small
small-keeps : (T U : TypeTable) → Keeps nobody T U → IsSmall T → IsSmall U
small-keeps T U keeps small = record { kinds = λ k x e. by_kind k x e }
  where
    by_kind : (k : ℕ) (x : Kind) → kind_at U k ≡ Some x → IsSmallKind k x
    by_kind k (Enumeration ids) e = small.kinds k (Enumeration ids) (scalar-kind (kind_at T k) (Enumeration ids) (sym (keeps.kinds k) ∙ ap scalar_only e))
    by_kind k Integer e = tt
    by_kind k Truth e = tt
    by_kind k (Array index first last part) e = tt

-- ---- declarations of main

-- it is no body
abbrev IsFirstDecl : PDecl → Type 0
IsFirstDecl (DTaskBody w ds b sp) = ⊥
IsFirstDecl _ = Unit {0}

module _ (names : List (List ℕ)) (few : length names ≤ 2147483648) where
  record Counted (s : Scope) : Type 0 where
    here : GoodHere names s.here
    kinds : length s.types.kinds ≤ length s.here + 1
    small : IsSmall s.types

  here-few : (here : List ℕ) → GoodHere names here → length here ≤ 2147483648
  here-few here h = omega (arith, few-below (length names) here h.below h.distinct, few)

  -- an enumeration
  enumeration-small : (T : TypeTable) (ids : List NameId) (m : Mark) → length ids ≤ 2147483648 → length T.kinds ≤ 2147483649 → IsSmall T → IsSmall (made (add_kind T (Enumeration ids)) m).types
  enumeration-small T ids m few-ids few-kinds small = record { kinds = λ k x e. by_place k x e (earlier-or-last T.kinds (Enumeration ids) k) }
    where
      last : (k : ℕ) → k ≡ length T.kinds → word k ≡ k
      last k e = ap (λ (b : Bool). if b then k else 0) (le-leb k 4294967295 (omega (arith, e, few-kinds)))

      by_place : (k : ℕ) (x : Kind) → kind_at (made (add_kind T (Enumeration ids)) m).types k ≡ Some x → (slice_get (T.kinds ++ Enumeration ids ∷ []) k ≡ slice_get T.kinds k) ⊎ (k ≡ length T.kinds) → IsSmallKind k x
      by_place k x e o =
          ⊎_elim (λ (same : slice_get (T.kinds ++ Enumeration ids ∷ []) k ≡ slice_get T.kinds k). small.kinds k x (sym same ∙ e))
          (λ (end : k ≡ length T.kinds). subst (IsSmallKind k) (some_same (sym (last_at T.kinds (Enumeration ids)) ∙ ap (slice_get (T.kinds ++ Enumeration ids ∷ [])) (sym end) ∙ e)) (few-ids, last k end)) o

  -- one name more
  one-here : (w : Word) (s : Scope) → EveryWord (well_placed names) w → AllByRecursion IsMet (names_sites true s (w ∷ [])) → GoodHere names s.here → GoodHere names (w.name.0 ∷ s.here)
  one-here w s h m g = record { below = (word-below names w h, g.below); distinct = ((names-fresh true s (w ∷ []) m).0, g.distinct) }

  decl-counted : (d : PDecl) (s : Scope) → IsFirstDecl d → EveryDecl (well_placed names) d → AllByRecursion IsMet (decl_sites s d) → Counted s → Counted (after_decl s d)
  decl-counted (DNumber w e sp) s first h m c = record {
    here = one-here w s h.1 (m.0, tt) c.here;
    kinds = omega (arith, c.kinds, count (constants-kinds (w ∷ []) (Some 0) (static_in s 0 e) s.types));
    small = small-keeps s.types _ (keeps-decl (DNumber w e sp) s refl) c.small;
  }
  decl-counted (DObject ws k x i sp) s first h m c =
      let named = names_sites (s.in_main && (k || is_task_object (declared_object s k x).thing)) s ws in
      let three = if_there (init_sites s (declared_object s k x).types (object_marking (declared_object s k x))) i in
      let fresh = names-fresh _ s ws (all_front IsMet named (shape_sites s k x i) (all_front IsMet (named ++ shape_sites s k x i) three m)) in
      let r = good-words names (declared_object s k x).thing ws (with_types (with_constants s ws i (declared_object s k x)) s) (words-below names ws h.1.1) fresh c.here in
      record {
        here = r.0;
        kinds = omega (arith, c.kinds, r.1, h.1.0, object-kinds s ws k x i, count (ap (λ (T : TypeTable). T.kinds) (names-types (declared_object s k x).thing ws (with_types (with_constants s ws i (declared_object s k x)) s))));
        small = small-keeps s.types _ (keeps-decl (DObject ws k x i sp) s (all-new ws)) c.small;
      }
  decl-counted (DEnumeration w ws sp) s first h m c =
      let ids = map (λ (x : Word). x.name) ws in
      let mark : Mark = record { name = Some w.name; kind = length s.types.kinds; first = pos 0; last = pos (length ws) -ℤ pos 1 } in
      let U : TypeTable = (made (add_kind s.types (Enumeration ids)) mark).types in
      let named : Scope = with_name (TypeMark (length s.types.marks)) (with_types U s) w in
      let fresh = names-fresh true s (w ∷ ws) m in
      let one = one-here w s h.1 (m.0, tt) c.here in
      let r = good-words names (Literal (length s.types.kinds)) ws named (words-below names ws h.2.1) fresh.1 one in
      let all = here-few _ r.0 in
      let same : (with_names (Literal (length s.types.kinds)) named ws).types ≡ U = names-types (Literal (length s.types.kinds)) ws named in
      let kinds : length (with_names (Literal (length s.types.kinds)) named ws).types.kinds ≡ length U.kinds = ap (λ (T : TypeTable). length T.kinds) same in
      let added : length U.kinds ≡ length s.types.kinds + 1 = length-append s.types.kinds (Enumeration ids ∷ []) in
      let written : length ids ≡ length ws = length-mapped ws in
      record {
        here = r.0;
        kinds = omega (arith, c.kinds, r.1, h.2.0, kinds, added);
        small = subst IsSmall (sym same) (enumeration-small s.types ids mark (omega (arith, written, all, r.1)) (omega (arith, c.kinds, all, r.1)) c.small);
      }
  decl-counted (DArray w i x sp) s first h m c = record {
    here = one-here w s h.1 (m.0, tt) c.here;
    kinds = omega (arith, c.kinds, array-kinds (Some w.name) (made_subind s x).types (drange_range s i) (made_subind s x).mark, count (subind-kinds s (marking s x.mark.name) x.bounds));
    small = small-keeps s.types _ (keeps-decl (DArray w i x sp) s refl) c.small;
  }
  decl-counted (DSubtype w x sp) s first h m c = record {
    here = one-here w s h.1 (m.0, tt) c.here;
    kinds = omega (arith, c.kinds, count (renamed-kinds w (made_subind s x).types (and_then (range_of_mark (made_subind s x).types) (made_subind s x).mark)), count (subind-kinds s (marking s x.mark.name) x.bounds));
    small = small-keeps s.types _ (keeps-decl (DSubtype w x sp) s refl) c.small;
  }
  decl-counted (DException ws sp) s first h m c =
      let r = good-words names AnException ws s (words-below names ws h.1.1) (names-fresh true s ws m) c.here in
      record {
        here = r.0;
        kinds = omega (arith, c.kinds, r.1, count (ap (λ (T : TypeTable). T.kinds) (names-types AnException ws s)));
        small = small-keeps s.types _ (keeps-decl (DException ws sp) s tt) c.small;
      }
  decl-counted (DIntIo w sp) s first h m c = record { here = one-here w s h.1 (m.1.0, tt) c.here; kinds = omega (arith, c.kinds); small = c.small }
  decl-counted (DPragma e sp) s first h m c = c
  decl-counted (DTask t sp) s first h m c = record { here = one-here t.name s h.1.0 (m.0, tt) c.here; kinds = omega (arith, c.kinds); small = c.small }
  decl-counted (DTaskBody w ds b sp) s first h m c = absurd first

  laters-small : (ds : PDecls) (s : Scope) → AreLater ds → IsSmall s.types → IsSmall (after_decls s ds).types
  laters-small no_decl s l h = h
  laters-small (decl_then (DTaskBody w ds b sp) rest) s l h = laters-small rest (after_decl s (DTaskBody w ds b sp)) l.1 (small-keeps s.types _ (keeps-decl (DTaskBody w ds b sp) s tt) h)
  laters-small (decl_then (DTask t sp) rest) s l h = laters-small rest (after_decl s (DTask t sp)) l.1 h
  laters-small (decl_then (DIntIo w sp) rest) s l h = laters-small rest (after_decl s (DIntIo w sp)) l.1 h
  laters-small (decl_then (DNumber w e sp) rest) s l h = absurd l.0
  laters-small (decl_then (DObject ws c x i sp) rest) s l h = absurd l.0
  laters-small (decl_then (DEnumeration w ws sp) rest) s l h = absurd l.0
  laters-small (decl_then (DArray w i x sp) rest) s l h = absurd l.0
  laters-small (decl_then (DSubtype w x sp) rest) s l h = absurd l.0
  laters-small (decl_then (DException ws sp) rest) s l h = absurd l.0
  laters-small (decl_then (DPragma e sp) rest) s l h = absurd l.0

  next : (d : PDecl) (rest : PDecls) (s : Scope) → IsFirstDecl d → EveryDecls (well_placed names) (decl_then d rest) → AllByRecursion IsMet (decls_sites s (decl_then d rest)) → Counted s → (AllByRecursion IsMet (decls_sites (after_decl s d) rest) → Counted (after_decl s d) → IsSmall (after_decls (after_decl s d) rest).types) →
      IsSmall (after_decls (after_decl s d) rest).types
  next d rest s first h m c more = more (all_back IsMet (decl_sites s d) (decls_sites (after_decl s d) rest) m) (decl-counted d s first h.0 (all_front IsMet (decl_sites s d) (decls_sites (after_decl s d) rest) m) c)

  decls-small : (ds : PDecls) (s : Scope) → BodiesLast ds → EveryDecls (well_placed names) ds → AllByRecursion IsMet (decls_sites s ds) → Counted s → IsSmall (after_decls s ds).types
  decls-small no_decl s l h m c = c.small
  decls-small (decl_then (DTaskBody w ds b sp) rest) s l h m c = laters-small rest (after_decl s (DTaskBody w ds b sp)) l (small-keeps s.types _ (keeps-decl (DTaskBody w ds b sp) s tt) c.small)
  decls-small (decl_then (DNumber w e sp) rest) s l h m c = next (DNumber w e sp) rest s tt h m c (λ q z. decls-small rest (after_decl s (DNumber w e sp)) l h.1 q z)
  decls-small (decl_then (DObject ws k x i sp) rest) s l h m c = next (DObject ws k x i sp) rest s tt h m c (λ q z. decls-small rest (after_decl s (DObject ws k x i sp)) l h.1 q z)
  decls-small (decl_then (DEnumeration w ws sp) rest) s l h m c = next (DEnumeration w ws sp) rest s tt h m c (λ q z. decls-small rest (after_decl s (DEnumeration w ws sp)) l h.1 q z)
  decls-small (decl_then (DArray w i x sp) rest) s l h m c = next (DArray w i x sp) rest s tt h m c (λ q z. decls-small rest (after_decl s (DArray w i x sp)) l h.1 q z)
  decls-small (decl_then (DSubtype w x sp) rest) s l h m c = next (DSubtype w x sp) rest s tt h m c (λ q z. decls-small rest (after_decl s (DSubtype w x sp)) l h.1 q z)
  decls-small (decl_then (DException ws sp) rest) s l h m c = next (DException ws sp) rest s tt h m c (λ q z. decls-small rest (after_decl s (DException ws sp)) l h.1 q z)
  decls-small (decl_then (DIntIo w sp) rest) s l h m c = next (DIntIo w sp) rest s tt h m c (λ q z. decls-small rest (after_decl s (DIntIo w sp)) l h.1 q z)
  decls-small (decl_then (DPragma e sp) rest) s l h m c = next (DPragma e sp) rest s tt h m c (λ q z. decls-small rest (after_decl s (DPragma e sp)) l h.1 q z)
  decls-small (decl_then (DTask t sp) rest) s l h m c = next (DTask t sp) rest s tt h m c (λ q z. decls-small rest (after_decl s (DTask t sp)) l h.1 q z)

first-small : (k : ℕ) (x : Kind) → kind_at predefined_types k ≡ Some x → IsSmallKind k x
first-small zero x e = subst (IsSmallKind 0) (some_same e) tt
first-small (suc zero) x e = subst (IsSmallKind 1) (some_same e) tt
first-small (suc (suc k)) x e = absurd (none-some x e)

-- A legal program with few names has small enumerations.
pub few-names-small : (p : PProgram) → MeetsTypeRules p → IsWellPlaced p → length p.names ≤ 2 ^ 31 → IsSmall (types_in p)
few-names-small p types placed few =
    decls-small p.names (omega (arith, few)) p.decls (first_scope p.name) placed.1 placed.2
    (all_front IsMet (decls_sites (first_scope p.name) p.decls) (body_sites (inner_scope (after_decls (first_scope p.name) p.decls)) p.body) (all_met p types).1)
    record {
      here = record { below = (word-below p.names p.name placed.0, tt); distinct = (refl, tt) };
      kinds = omega arith;
      small = record { kinds = first-small };
    }

-- A declaration of main at which nothing is refused leaves a scope whose names mean what the table says.
use Rattle.std.proofs.Common.{int_le, int_lt, ◌≡◌, ◌≤◌, ◌<◌, ℕ, suc, pos, negsuc, ◌+◌, ◌-ℤ◌, Bool, true, false, not, ◌||◌, ◌&&◌, ◌==◌, cond, nat_lt, List, [], ◌∷◌, ◌++◌, length, map, find, IfSome, option_map, Option, Some, None, ◌⊎◌, inl, inr, ⊎_elim, refl, sym, ap, ◌∙◌, subst, eqb-true, arith}
use Rattle.std.specs.List.{AllByRecursion, list_any, position_or_len}
use Rattle.std.proofs.lemmas.Int.{ints}
use Rattle.std.proofs.lemmas.Bool.{eq-eqb}
use Rattle.std.proofs.lemmas.Bool.Decides.{nat_tests}
use Rattle.std.proofs.lemmas.Option.{none-some}
use Rattle.ada_tree.specs.declared.naming.NameId.{NameId}
use Rattle.ada_tree.specs.declared.naming.Word.{Word}
use Rattle.ada_tree.specs.declared.static_types.Kind.{Kind}
use Rattle.ada_tree.specs.declared.static_types.Kind.TheVariants.{Integer, Enumeration}
use Rattle.ada_tree.specs.declared.static_types.Mark.{Mark}
use Rattle.ada_tree.specs.declared.static_types.Constant.{Constant}
use Rattle.ada_tree.specs.TypeTable.{TypeTable}
use Rattle.ada_tree.specs.PlainExpr.{PExpr, PSubind, PDrange}
use Rattle.ada_tree.specs.PlainDecl.{PShape, PInit, PDecl, DNumber, DObject, DEnumeration, DArray, DSubtype, DException, DIntIo, DPragma, DTask, DTaskBody, no_decl, decl_then}
use Rattle.ada_tree.specs.Every.{EveryExpr, EverySubind, EveryDrange, EveryShape, EveryInit, EveryDecl}
use Rattle.ada_tree.specs.WellPlaced.{well_placed}
use Rattle.ada_static_rules.specs.Scope.{Scope, integer_kind, Thing, TypeMark, ConstantObject, Literal, AnException, AnotherUnit, meaning, kind_at, mark_at, range_of_mark, and_then, EntryPart}
use Rattle.ada_static_rules.specs.StaticValue.{is_named, mark_named, constant_named, position_in, first_of_two}
use Rattle.ada_static_rules.specs.ExprTypes.{static_in}
use Rattle.ada_static_rules.specs.Demand.{scalar_only, must_be_of, must_be_static, Site}
use Rattle.ada_static_rules.specs.Sites.{site, if_there, names_sites, expr_sites, expr_of, static_of, subind_sites, drange_sites, shape_sites, init_sites, object_marking, is_task_object, object_sites, decl_sites}
use Rattle.ada_static_rules.specs.Declaring.{first_mark, with_name, with_names, with_types, add_mark, add_kind, mark_for, Made, made, made_subind, declared_object, with_constants, add_constants, after_object, type_of_mark, after_type, after_enumeration, made_named_array, renamed, made_subtype, task_thing, entry_part, after_decl}
use Rattle.ada_value.specs.declared.values.Value.{Value}
use Rattle.ada_value.specs.Values.{position_of, value_in, word, placed}
use Rattle.ada_value.specs.Evaluating.{literal_value}
use Rattle.task_laws.specs.legal.rewritten_types.Agreement.{Literal as LiteralAt, literal_among, literal_named, scalar_only as only_scalar, Grows, Sound, WholeTable}
use Rattle.task_laws.specs.legal.rewritten_types.Rewriting.{IsFirst, names_declared, IsUnused}
use Rattle.task_laws.proofs.legal.rewritten_types.Lookups.{place-all}
use Rattle.task_laws.proofs.legal.rewritten_types.Keeping.{grows-self, grows-on, grows-mark, grows-kind}
use Rattle.task_laws.proofs.legal.rewritten_types.Adding.{names-types, names-main, keeps-subind, keeps-decl}
use Rattle.task_laws.proofs.legal.rewritten_types.Owning.{nobody, all-new, whole-decls}
use Rattle.task_laws.proofs.legal.rewritten_types.Soundness.{sound-decl}
use Rattle.task_laws.proofs.legal.rewritten_types.Fresh.{InHere, here-decl, unused-free}
use Rattle.task_laws.proofs.legal.rewritten_types.Unmarked.{AreUnmarked, decl-before, decl-marks}
use Rattle.task_laws.specs.legal.sites.Met.{IsMet}
use Rattle.task_laws.specs.legal.types.Typed.{IsSmall, HasLiteral, HasPosition}
use Rattle.task_laws.proofs.legal.types.ExprKinds.{LeadsOn, IsClearThing}
use Rattle.task_laws.proofs.legal.types.StaticParts.{IsStaticIn, static-told, met-static, of-kind, subind-met, drange-met}
use Rattle.task_laws.proofs.legal.types.TypedValues.{anybody, IsOf, IsTyped}
use Rattle.task_laws.proofs.legal.types.StaticWorth.{worth, worth-value, small-literals}
use Rattle.task_laws.proofs.legal.types.FirmTables.{IsFirmMark, IsFirm, small-before, firm-mark, firm-kind, HasMade, leads-grown, subind-made, drange-made, last-named, array-made}
use Rattle.task_laws.proofs.legal.types.GoodScopes.{News, Adds, over-adds, thing-grown, IsIn, names-told, names-new, names-kept, unused-apart, IsGood, good-typed}
use Rattle.task_laws.proofs.legal.types.GoodObjects.{IsObject, object-clear, shape-made, more-constants, object-constants}
use Rattle.ada_value.proofs.StaticLaws.{natural_integer, small_word}
use Rattle.common_lemmas.proofs.Lists.{all_back, all_front, last_at}
use Rattle.common_lemmas.proofs.Options.{some_same}

-- ---- tables

-- whatever a declaration reads, the table has more behind it
pub grows-decl : (d : PDecl) (s : Scope) → Grows s.types (after_decl s d).types
grows-decl (DEnumeration name literals sp) s = subst (Grows s.types) (sym (names-types _ literals (with_name _ (with_types _ s) name))) (grows-on (grows-kind s.types _) (grows-mark (add_kind s.types _) _))
grows-decl (DNumber name e sp) s = (keeps-decl {old = nobody} (DNumber name e sp) s refl).grows
grows-decl (DObject names constant shape init sp) s = (keeps-decl {old = nobody} (DObject names constant shape init sp) s (all-new names)).grows
grows-decl (DArray name index x sp) s = (keeps-decl {old = nobody} (DArray name index x sp) s refl).grows
grows-decl (DSubtype name x sp) s = (keeps-decl {old = nobody} (DSubtype name x sp) s refl).grows
grows-decl (DException names sp) s = (keeps-decl {old = nobody} (DException names sp) s tt).grows
grows-decl (DIntIo name sp) s = grows-self s.types
grows-decl (DPragma e sp) s = grows-self s.types
grows-decl (DTask t sp) s = grows-self s.types
grows-decl (DTaskBody name objects its sp) s = (keeps-decl {old = nobody} (DTaskBody name objects its sp) s tt).grows

-- the value of a literal by its place
pub literal-read : (ks : List Kind) (k : ℕ) (id : NameId) → literal_value ks k id ≡ option_map (λ (l : LiteralAt). placed (word l.kind) (pos l.position)) (literal_among ks k id)
literal-read [] k id = refl
literal-read (x ∷ rest) k id = by_place (position_in id x) (literal-read rest (suc k) id)
  where
    by_place : (o : Option ℕ) → literal_value rest (suc k) id ≡ option_map (λ (l : LiteralAt). placed (word l.kind) (pos l.position)) (literal_among rest (suc k) id) →
        first_of_two (option_map (λ n. placed (word k) (pos n)) o) (literal_value rest (suc k) id)
        ≡ option_map (λ (l : LiteralAt). placed (word l.kind) (pos l.position)) (first_of_two (option_map (λ n. record { kind = k; position = n }) o) (literal_among rest (suc k) id))
    by_place (Some n) h = refl
    by_place None h = h

-- ---- what each declaration leaves

pub after-main : (d : PDecl) (s : Scope) → (after_decl s d).in_main ≡ s.in_main
after-main (DNumber name e sp) s = refl
after-main (DObject names constant shape init sp) s = names-main _ names (with_types _ s)
after-main (DEnumeration name literals sp) s = names-main _ literals (with_name _ (with_types _ s) name)
after-main (DArray name index x sp) s = refl
after-main (DSubtype name x sp) s = refl
after-main (DException names sp) s = names-main _ names s
after-main (DIntIo name sp) s = refl
after-main (DPragma e sp) s = refl
after-main (DTask t sp) s = refl
after-main (DTaskBody name objects its sp) s = refl

-- what holds of every scope of main behind declarations of unused names
pub record IsNext (s : Scope) : Type 0 where
  pub main : s.in_main ≡ true
  pub here : InHere s
  pub whole : WholeTable s.types
  pub root : Sound s.types
  pub unmarked : AreUnmarked s

pub next-decl : (d : PDecl) (s : Scope) → IsNext s → AllByRecursion (IsUnused s) (names_declared d) → IsNext (after_decl s d)
next-decl d s n u = record {
  main = after-main d s ∙ n.main;
  here = here-decl d s n.here;
  whole = whole-decls (decl_then d no_decl) s n.whole;
  root = sound-decl d s n.root;
  unmarked = λ id f. decl-marks d s id f ∙ n.unmarked id (decl-before s n.here d u id f);
}

pub good-next : (s : Scope) → IsGood s → IsNext s
good-next s g = record { main = g.main; here = g.here; whole = g.whole; root = g.root; unmarked = g.unmarked }

names-over : (thing : Thing) (ws : List Word) (U : TypeTable) (s : Scope) → with_names thing (with_types U s) ws ≡ with_types U (with_names thing s ws)
names-over thing [] U s = refl
names-over thing (w ∷ ws) U s = names-over thing ws U (with_name thing s w)

-- A declaration that gives some names one meaning, where its table is as the names say.
good-names : (s : Scope) → IsGood s → (thing : Thing) (ws : List Word) (U : TypeTable) → AllByRecursion (IsUnused s) ws → Grows s.types U → IsFirm U → IsClearThing U thing →
    ((m : ℕ) → thing ≡ TypeMark m → (id : NameId) → IsIn ws id → mark_named U id ≡ mark_at U m) →
    ((id : NameId) (c : Constant) → constant_named U id ≡ Some c → (constant_named s.types id ≡ Some c) ⊎ (IsIn ws id × (thing ≡ ConstantObject c.mark))) →
    ((id : NameId) → literal_named U id ≡ literal_named s.types id) →
    IsNext (with_names thing (with_types U s) ws) → IsGood (with_names thing (with_types U s) ws)
good-names s good thing ws U unused grows firm clear marks constants literals next =
    subst IsGood (sym (names-over thing ws U s)) (all-good (subst IsNext (names-over thing ws U s) next))
  where
    t : Scope
    t = with_types U (with_names thing s ws)

    New : News
    New id x = IsIn ws id × (x ≡ thing)

    literal-same : (id : NameId) (v : Value) → literal_value U.kinds 0 id ≡ Some v → literal_value s.types.kinds 0 id ≡ Some v
    literal-same id v e =
        literal-read s.types.kinds 0 id ∙ ap (option_map (λ (l : LiteralAt). placed (word l.kind) (pos l.position))) (sym (literals id)) ∙ sym (literal-read U.kinds 0 id) ∙ e

    adds : Adds New s t
    adds = record {
      grows = grows;
      kept = λ id x e. names-kept thing ws s id (unused-apart s good.here ws unused id x e) ∙ e;
      told = λ id x e. names-told thing ws s id x e;
      clear = λ id x h. subst (IsClearThing U) (sym h.1) clear;
      marks = λ id m h. marks m (sym h.1) id h.0;
      constants = λ id c e. ⊎_elim (λ old. inl old) (λ new. inr (names-new thing ws s id new.0 ∙ ap Some new.1)) (constants id c e);
      literals = λ id v e. inl (literal-same id v e);
    }

    all-good : IsNext t → IsGood t
    all-good n = record {
      main = n.main;
      here = n.here;
      begins = grows-on good.begins grows;
      whole = n.whole;
      root = n.root;
      firm = firm;
      over = over-adds New s t n.root adds good.over;
      unmarked = n.unmarked;
    }

-- ---- types

in-single : (w : Word) (id : NameId) → IsIn (w ∷ []) id → w.name ≡ id
in-single w id h = ap (λ n. record { 0 = n }) (eqb-true w.name.0 id.0 (by_test (w.name.0 == id.0) h))
  where
    by_test : (b : Bool) → (b || false) ≡ true → b ≡ true
    by_test true e = refl
    by_test false e = e

pub type-place : (a b : ℕ) → TypeMark a ≡ TypeMark b → a ≡ b
type-place a b e = cc

-- a name of a type or subtype that is made
good-type : (s : Scope) → IsGood s → (name : Word) → IsUnused s name → (d : Made) (h : HasMade s d) → mark_named d.types name.name ≡ mark_at d.types h.place →
    ((id : NameId) → literal_named d.types id ≡ literal_named s.types id) → IsNext (after_type s name d) → IsGood (after_type s name d)
good-type s good name unused d h named literals next =
    subst (λ o. IsGood (with_name (type_of_mark o) (with_types d.types s) name)) (sym h.made)
    (good-names s good (TypeMark h.place) (name ∷ []) d.types (unused, tt) h.grows h.firm h.leads
    (λ m e id i. ap (mark_named d.types) (sym (in-single name id i)) ∙ named ∙ ap (mark_at d.types) (type-place h.place m e))
    (λ id c e. inl (ap (find (λ (x : Constant). x.name.0 == id.0)) (sym h.constants) ∙ e))
    literals
    (subst (λ o. IsNext (with_name (type_of_mark o) (with_types d.types s) name)) h.made next))

-- the name of a new mark was that of none
unnamed-before : (s : Scope) → IsGood s → (name : Word) → IsUnused s name → (x : PSubind) → mark_named (made_subind s x).types name.name ≡ None
unnamed-before s good name unused x = (keeps-subind {old = anybody} s x).marks name.name refl ∙ good.unmarked name.name (unused-free s name good.here unused)

-- ---- enumerations

lt-down : (a b : ℕ) → nat_lt (1 + a) (suc b) ≡ true → nat_lt a b ≡ true
lt-down a b e = grind (arith, nat_tests)

-- a literal that is found is one of the names, at a place in the list
position-in : (ws : List Word) (id : NameId) → (nat_lt (position_or_len (λ (n : NameId). n.0 == id.0) (map (λ (w : Word). w.name) ws)) (length (map (λ (w : Word). w.name) ws)) ≡ true) → IsIn ws id
position-in [] id e = e
position-in (w ∷ ws) id e = by_test (w.name.0 == id.0) e (position-in ws id)
  where
    by_test : (b : Bool) → nat_lt (cond (not b) (1 + (position_or_len (λ (n : NameId). n.0 == id.0) (map (λ (x : Word). x.name) ws))) 0) (suc (length (map (λ (x : Word). x.name) ws))) ≡ true →
        (nat_lt (position_or_len (λ (n : NameId). n.0 == id.0) (map (λ (x : Word). x.name) ws)) (length (map (λ (x : Word). x.name) ws)) ≡ true → IsIn ws id) → (b || list_any (λ (x : Word). x.name.0 == id.0) ws) ≡ true
    by_test true f rest = refl
    by_test false f rest = rest (lt-down _ _ f)

place-of : (p n count : ℕ) (b : Bool) → nat_lt p count ≡ b → cond b (Some p) None ≡ Some n → (nat_lt p count ≡ true) × (n < count)
place-of p n count true e f = let same : p ≡ n = some_same f in let less : p < count = grind (arith, nat_tests) in (e, subst (λ k. k < count) same less)
place-of p n count false e f = absurd (none-some n f)

found-at : (ws : List Word) (id : NameId) (n : ℕ) → position_in id (Enumeration (map (λ (w : Word). w.name) ws)) ≡ Some n → IsIn ws id × (n < length (map (λ (w : Word). w.name) ws))
found-at ws id n e =
    let ids = map (λ (w : Word). w.name) ws in
    let h = place-of (position_or_len (λ (m : NameId). m.0 == id.0) ids) n (length ids) (nat_lt (position_or_len (λ (m : NameId). m.0 == id.0) ids) (length ids)) refl e in
    (position-in ws id h.0, h.1)

-- a literal of kinds with one behind them is one of theirs or of the last
literal-split : (ks : List Kind) (k : ℕ) (x : Kind) (id : NameId) (v : Value) → literal_value (ks ++ x ∷ []) k id ≡ Some v →
    (literal_value ks k id ≡ Some v) ⊎ ((n : ℕ) × (position_in id x ≡ Some n) × (v ≡ placed (word (length ks + k)) (pos n)))
literal-split [] k x id v e = by_place (position_in id x) refl e
  where
    by_place : (o : Option ℕ) → position_in id x ≡ o → first_of_two (option_map (λ n. placed (word k) (pos n)) o) None ≡ Some v →
        (None ≡ Some v) ⊎ ((n : ℕ) × (position_in id x ≡ Some n) × (v ≡ placed (word (0 + k)) (pos n)))
    by_place (Some n) p f = let z : 0 + k ≡ k = omega arith in inr (n, p, sym (some_same f) ∙ ap (λ j. placed (word j) (pos n)) (sym z))
    by_place None p f = absurd (none-some v f)
literal-split (y ∷ ks) k x id v e = by_place (position_in id y) e (literal-split ks (suc k) x id v)
  where
    by_place : (o : Option ℕ) → first_of_two (option_map (λ n. placed (word k) (pos n)) o) (literal_value (ks ++ x ∷ []) (suc k) id) ≡ Some v →
        (literal_value (ks ++ x ∷ []) (suc k) id ≡ Some v → (literal_value ks (suc k) id ≡ Some v) ⊎ ((n : ℕ) × (position_in id x ≡ Some n) × (v ≡ placed (word (length ks + suc k)) (pos n)))) →
        (first_of_two (option_map (λ n. placed (word k) (pos n)) o) (literal_value ks (suc k) id) ≡ Some v) ⊎ ((n : ℕ) × (position_in id x ≡ Some n) × (v ≡ placed (word (length (y ∷ ks) + k)) (pos n)))
    by_place (Some n) f rest = inl f
    by_place None f rest = ⊎_elim (λ old. inl old) (λ new. let z : length ks + suc k ≡ length (y ∷ ks) + k = omega arith in inr (new.0, new.1, new.2 ∙ ap (λ j. placed (word j) (pos new.0)) z)) (rest f)

before-last : (n : ℕ) → pos (suc n) -ℤ pos 1 ≡ pos n
before-last n = omega (arith, ints)

not-negative : (n : ℕ) → int_le (pos 0) (pos n) ≡ true
not-negative n = grind (arith, ints)

less-literal : (n m : ℕ) → n < m → int_lt (pos n) (pos m) ≡ true
less-literal n m h = grind (arith, ints)

mark-literal : {A : Type 0} (m k : ℕ) → TypeMark m ≡ Literal k → A
mark-literal m k e = cc

pub length-mapped : (ws : List Word) → length (map (λ (x : Word). x.name) ws) ≡ length ws
length-mapped [] = refl
length-mapped (w ∷ ws) = ap suc (length-mapped ws)

-- an enumeration of new names
module _ (s : Scope) (good : IsGood s) (name w : Word) (rest : List Word) (unused : IsUnused s name) (others : AllByRecursion (IsUnused s) (w ∷ rest))
    (small : IsSmall (after_enumeration s name (w ∷ rest)).types) (next : IsNext (after_enumeration s name (w ∷ rest))) where
  abbrev T : TypeTable
  T = s.types

  abbrev ids : List NameId
  ids = map (λ (x : Word). x.name) (w ∷ rest)

  abbrev enumeration : Kind
  enumeration = Enumeration ids

  abbrev V : TypeTable
  V = add_kind T enumeration

  abbrev m : Mark
  m = record { name = Some name.name; kind = length T.kinds; first = pos 0; last = pos (length (w ∷ rest)) -ℤ pos 1 }

  abbrev U : TypeTable
  U = add_mark V m

  abbrev named : Scope
  named = with_name (TypeMark (length T.marks)) s name

  abbrev after : Scope
  after = with_types U (with_names (Literal (length T.kinds)) named (w ∷ rest))

  same : after_enumeration s name (w ∷ rest) ≡ after
  same = names-over (Literal (length s.types.kinds)) (w ∷ rest) U named

  there : kind_at U (length T.kinds) ≡ Some enumeration
  there = last_at T.kinds enumeration

  few : (length ids ≤ 2147483648) × (word (length T.kinds) ≡ length T.kinds)
  few = (subst (λ t. IsSmall t.types) same small).kinds (length T.kinds) enumeration there

  grown : Grows T U
  grown = grows-on (grows-kind T enumeration) (grows-mark V m)

  -- a position before the number of literals has a literal
  has-literal : (n : ℕ) → n < length ids → HasLiteral (kind_at V (length T.kinds)) (pos n)
  has-literal n l = subst (λ o. HasLiteral o (pos n)) (sym there) (less-literal n (length ids) l)

  enumeration-value : (n : ℕ) → n < length ids → HasPosition V (length T.kinds) (pos n)
  enumeration-value n l =
      let f = few.0 in
      let h : n ≤ 2147483647 = omega arith in
      record { fits = natural_integer n h; same = ap (λ o. position_of (value_in (length T.kinds) o (pos n))) there ∙ ap pos (small_word n h); literal = has-literal n l }

  last-literal : length rest < length ids
  last-literal = let e = length-mapped rest in omega arith

  firm-after : IsFirm U
  firm-after = firm-mark V m (firm-kind T enumeration good.firm tt) (record {
    has = (enumeration, there);
    first = enumeration-value 0 (omega arith);
    last = subst (HasPosition V (length T.kinds)) (sym (before-last (length rest))) (enumeration-value (length rest) last-literal);
    order = ap (int_le (pos 0)) (before-last (length rest)) ∙ not-negative (length rest);
  })

  literal-of : (n : ℕ) → n < length ids → IsOf U (length T.kinds) (placed (word (length T.kinds)) (pos n))
  literal-of n l =
      let f = few.0 in
      let small : word n ≡ n = small_word n (omega arith) in
      record {
        scalar = (enumeration, ap only_scalar there);
        kind = few.1;
        same = ap (λ o. value_in (length T.kinds) o (pos (word n))) there ∙ ap (λ i. placed (length T.kinds) (pos i)) small ∙ ap (λ j. placed j (pos n)) (sym few.1);
        literal = subst (λ i. HasLiteral (kind_at V (length T.kinds)) (pos i)) (sym small) (has-literal n l);
      }

  abbrev New : News
  New id x = (IsIn (name ∷ []) id × (x ≡ TypeMark (length T.marks))) ⊎ (IsIn (w ∷ rest) id × (x ≡ Literal (length T.kinds)))

  new-clear : (id : NameId) (x : Thing) → New id x → IsClearThing U x
  new-clear id x h =
      ⊎_elim
      (λ type. subst (IsClearThing U) (sym type.1) (record { mark = m; there = last_at T.marks m; kind = enumeration; known = there }))
      (λ literal. subst (IsClearThing U) (sym literal.1) (enumeration, ap only_scalar there))
      h

  new-marks : (id : NameId) (k : ℕ) → New id (TypeMark k) → mark_named U id ≡ mark_at U k
  new-marks id k h =
      ⊎_elim
      (λ type. ap (mark_named U) (sym (in-single name id type.0))
      ∙ last-named V m name.name (eq-eqb name.name.0 name.name.0 refl) (good.unmarked name.name (unused-free s name good.here unused))
      ∙ ap (mark_at U) (sym (type-place k (length T.marks) type.1)))
      (λ literal. mark-literal k (length T.kinds) literal.1)
      h

  new-literals : (id : NameId) (v : Value) → literal_value U.kinds 0 id ≡ Some v → (literal_value T.kinds 0 id ≡ Some v) ⊎ ((k : ℕ) × (meaning after id ≡ Some (Literal k)) × IsOf U k v)
  new-literals id v e =
      ⊎_elim
      (λ old. inl old)
      (λ new.
      let at = found-at (w ∷ rest) id new.0 new.1 in
      let z : length T.kinds + 0 ≡ length T.kinds = omega arith in
      inr (length T.kinds, names-new (Literal (length T.kinds)) (w ∷ rest) named id at.0, subst (IsOf U (length T.kinds)) (sym (new.2 ∙ ap (λ j. placed (word j) (pos new.0)) z)) (literal-of new.0 at.1)))
      (literal-split T.kinds 0 enumeration id v e)

  adds-enumeration : Adds New s after
  adds-enumeration = record {
    grows = grown;
    kept = λ id x e.
        names-kept (Literal (length T.kinds)) (w ∷ rest) named id (unused-apart s good.here (w ∷ rest) others id x e)
        ∙ names-kept (TypeMark (length T.marks)) (name ∷ []) s id (unused-apart s good.here (name ∷ []) (unused, tt) id x e) ∙ e;
    told = λ id x e. ⊎_elim
        (λ before. ⊎_elim (λ old. inl old) (λ type. inr (inl type)) (names-told (TypeMark (length T.marks)) (name ∷ []) s id x before))
        (λ literal. inr (inr literal))
        (names-told (Literal (length T.kinds)) (w ∷ rest) named id x e);
    clear = new-clear;
    marks = new-marks;
    constants = λ id c e. inl e;
    literals = new-literals;
  }

  pub good-enumeration : IsGood (after_enumeration s name (w ∷ rest))
  good-enumeration =
      let n : IsNext after = subst IsNext same next in
      subst IsGood (sym same) (record {
        main = n.main;
        here = n.here;
        begins = grows-on good.begins grown;
        whole = n.whole;
        root = n.root;
        firm = firm-after;
        over = over-adds New s after n.root adds-enumeration good.over;
        unmarked = n.unmarked;
      })

-- ---- all forms

module _ (names : List (List ℕ)) (s : Scope) (good : IsGood s) (small : IsSmall s.types) where
  abbrev typed : IsTyped s.types
  typed = good-typed s good small

  -- a named number
  good-number : (name : Word) (e : PExpr) → IsUnused s name → EveryExpr (well_placed names) 2 e → AllByRecursion IsMet (static_of s (Some integer_kind) e) →
      IsNext (with_name (ConstantObject 0) (with_types (add_constants (name ∷ []) (Some 0) (static_in s integer_kind e) s.types) s) name) →
      IsGood (with_name (ConstantObject 0) (with_types (add_constants (name ∷ []) (Some 0) (static_in s integer_kind e) s.types) s) name)
  good-number name e unused every h next =
      let asked : List Site = site s (must_be_of e (Some integer_kind)) ∷ [] in
      let static : List Site = site s (must_be_static e) ∷ [] in
      let h1 : AllByRecursion IsMet (expr_sites s e ++ asked) = all_front IsMet (expr_of s (Some integer_kind) e) static h in
      let q : AllByRecursion IsMet static = all_back IsMet (expr_of s (Some integer_kind) e) static h in
      let r : AllByRecursion IsMet asked = all_back IsMet (expr_sites s e) asked h1 in
      let k = met-static s good.over.clear e (all_front IsMet (expr_sites s e) asked h1) q.0 in
      let t : IsStaticIn s integer_kind e = of-kind s good.over.clear integer_kind k.0 e k.1 r.0 in
      let told = static-told s integer_kind e t in
      let v = worth-value s.types integer_kind e t.value (worth s.types s typed good.over integer_kind e (small-literals names 2 e every) t) in
      let leads : LeadsOn s.types 0 = record { mark = first_mark 0 0 (negsuc 2147483647) (pos 2147483647); there = good.begins.mark 0 _ refl; kind = Integer; known = good.begins.kind 0 Integer refl } in
      let c = more-constants (name ∷ []) 0 t.value s.types leads good.firm v in
      subst (λ o. IsGood (with_name (ConstantObject 0) (with_types (add_constants (name ∷ []) (Some 0) o s.types) s) name)) (sym told)
      (good-names s good (ConstantObject 0) (name ∷ []) (add_constants (name ∷ []) (Some 0) (Some t.value) s.types) (unused, tt) c.grows c.firm
      (leads-grown s.types (add_constants (name ∷ []) (Some 0) (Some t.value) s.types) c.grows 0 leads)
      (λ j f id i. constant-mark 0 j f)
      c.told
      (λ id. refl)
      (subst (λ o. IsNext (with_name (ConstantObject 0) (with_types (add_constants (name ∷ []) (Some 0) o s.types) s) name)) told next))
    where
      constant-mark : {A : Type 0} (k j : ℕ) → ConstantObject k ≡ TypeMark j → A
      constant-mark k j f = cc

  -- objects
  good-object : (ws : List Word) (constant : Bool) (shape : PShape) (init : Option PInit) → AllByRecursion (IsUnused s) ws → EveryShape (well_placed names) shape → IfSome init (EveryInit (well_placed names)) →
      AllByRecursion IsMet (object_sites s ws constant shape init (declared_object s constant shape)) → ((id : NameId) → literal_named (after_object s ws constant shape init).types id ≡ literal_named s.types id) →
      IsNext (after_object s ws constant shape init) → IsGood (after_object s ws constant shape init)
  good-object ws constant shape init unused every inits h literals next =
      let d = declared_object s constant shape in
      let first : List Site = names_sites (s.in_main && (constant || is_task_object d.thing)) s ws in
      let second : List Site = shape_sites s constant shape init in
      let third : List Site = if_there (init_sites s d.types (object_marking d)) init in
      let met : AllByRecursion IsMet second = all_back IsMet first second (all_front IsMet (first ++ second) third h) in
      let o = shape-made s good.main good.firm typed good.over names constant shape init every met in
      let c = object-constants s good.main good.firm typed good.over names ws init inits d o in
      let U : TypeTable = with_constants s ws init d in
      good-names s good d.thing ws U unused (grows-on o.grows c.grows) c.firm
      (thing-grown d.types U c.grows d.thing (object-clear d.types d.thing o.object))
      (λ j f id i. absurd (subst (IsObject d.types) f o.object))
      (λ id x e. ⊎_elim (λ old. inl (ap (find (λ (y : Constant). y.name.0 == id.0)) (sym o.constants) ∙ old)) (λ new. inr new) (c.told id x e))
      (λ id. ap (λ T. literal_named T id) (sym (names-types d.thing ws (with_types U s))) ∙ literals id)
      next

  -- array types
  good-array : (name : Word) (index : PDrange) (x : PSubind) → IsUnused s name → EveryDrange (well_placed names) 2 index → EverySubind (well_placed names) 2 x → AllByRecursion IsMet (drange_sites true s index ++ subind_sites true scalar_only s x) →
      ((id : NameId) → literal_named (made_named_array s name index x).types id ≡ literal_named s.types id) → IsNext (after_type s name (made_named_array s name index x)) → IsGood (after_type s name (made_named_array s name index x))
  good-array name index x unused everys every h literals next =
      let d = made_subind s x in
      let sub = subind-made s good.firm typed good.over names x every (subind-met s good.over.clear x (all_back IsMet (drange_sites true s index) (subind_sites true scalar_only s x) h)) in
      let range = drange-made s good.firm typed good.over names index everys (drange-met s good.over.clear index (all_front IsMet (drange_sites true s index) (subind_sites true scalar_only s x) h)) in
      array-made s (Some name.name) d index sub range
      (λ q. ((id : NameId) → literal_named q.types id ≡ literal_named s.types id) → IsNext (after_type s name q) → IsGood (after_type s name q))
      (λ y j e both lits n.
      good-type s good name unused (made (add_kind d.types y) j) both
      (last-named (add_kind d.types y) j name.name (ap (is_named name.name) e ∙ eq-eqb name.name.0 name.name.0 refl) (unnamed-before s good name unused x) ∙ ap (mark_at (made (add_kind d.types y) j).types) (some_same both.made))
      lits n)
      literals next

  -- subtypes
  good-subtype : (name : Word) (x : PSubind) → IsUnused s name → EverySubind (well_placed names) 2 x → AllByRecursion IsMet (subind_sites true scalar_only s x) →
      ((id : NameId) → literal_named (made_subtype s name x).types id ≡ literal_named s.types id) → IsNext (after_type s name (made_subtype s name x)) → IsGood (after_type s name (made_subtype s name x))
  good-subtype name x unused every h literals next =
      let d = made_subind s x in
      let sub = subind-made s good.firm typed good.over names x every (subind-met s good.over.clear x h) in
      let y = sub.leads.mark in
      let j : Mark = mark_for (Some name.name) record { kind = y.kind; first = y.first; last = y.last } in
      let f = place-all (IsFirmMark d.types) d.types.marks sub.place y sub.firm.marks sub.leads.there in
      let both : HasMade s (made d.types j) = record {
        place = length d.types.marks;
        made = refl;
        leads = record { mark = j; there = last_at d.types.marks j; kind = sub.leads.kind; known = sub.leads.known };
        grows = grows-on sub.grows (grows-mark d.types j);
        firm = firm-mark d.types j sub.firm (record { has = f.has; first = f.first; last = f.last; order = f.order });
        constants = sub.constants;
      } in
      let is : made_subtype s name x ≡ made d.types j =
      ap (λ o. renamed name d.types (and_then (range_of_mark d.types) o)) sub.made
      ∙ ap (λ o. renamed name d.types (option_map (λ (z : Mark). record { kind = z.kind; first = z.first; last = z.last }) o)) sub.leads.there in
      subst (λ q. IsGood (after_type s name q)) (sym is)
      (good-type s good name unused (made d.types j) both (last-named d.types j name.name (eq-eqb name.name.0 name.name.0 refl) (unnamed-before s good name unused x))
      (subst (λ (q : Made). (id : NameId) → literal_named q.types id ≡ literal_named s.types id) is literals) (subst (λ q. IsNext (after_type s name q)) is next))

  -- names that add nothing to the table
  good-plain : (thing : Thing) (ws : List Word) → AllByRecursion (IsUnused s) ws → IsClearThing s.types thing → ((j : ℕ) → thing ≡ TypeMark j → ⊥) → IsNext (with_names thing s ws) → IsGood (with_names thing s ws)
  good-plain thing ws unused clear other next = good-names s good thing ws s.types unused (grows-self s.types) good.firm clear (λ j f id i. absurd (other j f)) (λ id c e. inl e) (λ id. refl) next

  task-clear : (b : Bool) (entries : List EntryPart) → IsClearThing s.types (task_thing b entries)
  task-clear true entries = tt
  task-clear false entries = tt

  task-other : (b : Bool) (entries : List EntryPart) (j : ℕ) → task_thing b entries ≡ TypeMark j → ⊥
  task-other true entries j e = cc
  task-other false entries j e = cc

-- A declaration of main that is no body, at which nothing is refused, leaves such a scope.
pub good-decl : (names : List (List ℕ)) (d : PDecl) (s : Scope) → IsGood s → IsSmall (after_decl s d).types → IsFirst d → AllByRecursion (IsUnused s) (names_declared d) → EveryDecl (well_placed names) d → AllByRecursion IsMet (decl_sites s d) → IsGood (after_decl s d)
good-decl names (DNumber name e sp) s good small first unused every h =
    good-number names s good (small-before s.types _ (grows-decl (DNumber name e sp) s) small) name e unused.0 every.2 h.1 (next-decl (DNumber name e sp) s (good-next s good) unused)
good-decl names (DObject ws constant shape init sp) s good small first unused every h =
    good-object names s good (small-before s.types _ (grows-decl (DObject ws constant shape init sp) s) small) ws constant shape init unused every.2 every.4 h
    (keeps-decl {old = nobody} (DObject ws constant shape init sp) s (all-new ws)).literals (next-decl (DObject ws constant shape init sp) s (good-next s good) unused)
good-decl names (DEnumeration name [] sp) s good small first unused every h = let f : 1 ≤ 0 = every.2.0 in absurd (omega (arith, f))
good-decl names (DEnumeration name (w ∷ ws) sp) s good small first unused every h = good-enumeration s good name w ws unused.0 unused.1 small (next-decl (DEnumeration name (w ∷ ws) sp) s (good-next s good) unused)
good-decl names (DArray name index x sp) s good small first unused every h =
    good-array names s good (small-before s.types _ (grows-decl (DArray name index x sp) s) small) name index x unused.0 every.2 every.3 h.1
    (keeps-decl {old = nobody} (DArray name index x sp) s refl).literals (next-decl (DArray name index x sp) s (good-next s good) unused)
good-decl names (DSubtype name x sp) s good small first unused every h =
    good-subtype names s good (small-before s.types _ (grows-decl (DSubtype name x sp) s) small) name x unused.0 every.2 h.1
    (keeps-decl {old = nobody} (DSubtype name x sp) s refl).literals (next-decl (DSubtype name x sp) s (good-next s good) unused)
good-decl names (DException ws sp) s good small first unused every h = good-plain names s good (small-before s.types _ (grows-decl (DException ws sp) s) small) AnException ws unused tt (λ j e. no-exception j e) (next-decl (DException ws sp) s (good-next s good) unused)
  where
    no-exception : (j : ℕ) → AnException ≡ TypeMark j → ⊥
    no-exception j e = cc
good-decl names (DIntIo name sp) s good small first unused every h = instance (good-plain names s good small AnotherUnit (name ∷ []) unused tt (λ j e. no-unit j e) plain)
  where
    no-unit : (j : ℕ) → AnotherUnit ≡ TypeMark j → ⊥
    no-unit j e = cc

    next : IsNext (after_decl s (DIntIo name sp))
    next = next-decl (DIntIo name sp) s (good-next s good) unused

    plain : IsNext (with_name AnotherUnit s name)
    plain = record { main = next.main; here = record { nothing = next.here.nothing }; whole = next.whole; root = next.root; unmarked = next.unmarked }

    instance : IsGood (with_name AnotherUnit s name) → IsGood (after_decl s (DIntIo name sp))
    instance g = record {
      main = next.main;
      here = next.here;
      begins = g.begins;
      whole = next.whole;
      root = next.root;
      firm = g.firm;
      over = record { keeps = g.over.keeps; clear = record { sound = next.root; things = g.over.clear.things }; marks = g.over.marks; constants = g.over.constants; literals = g.over.literals; falses = g.over.falses; trues = g.over.trues };
      unmarked = next.unmarked;
    }
good-decl names (DPragma e sp) s good small first unused every h = good
good-decl names (DTask t sp) s good small first unused every h =
    good-plain names s good small (task_thing t.of_kind (map (entry_part s) t.entries)) (t.name ∷ []) unused (task-clear names s good small t.of_kind (map (entry_part s) t.entries))
    (task-other names s good small t.of_kind (map (entry_part s) t.entries)) (next-decl (DTask t sp) s (good-next s good) unused)
good-decl names (DTaskBody name objects its sp) s good small first unused every h = absurd first

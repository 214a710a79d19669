-- At each declaration of main of a legal program the scope stands over a firm table, and what is static there is static in the table of the whole program.
use Rattle.std.proofs.Common.{int_le, ◌≡◌, ◌≤◌, ◌<◌, ℕ, zero, suc, Bool, true, false, ◌==◌, if◌then◌else◌, List, [], ◌∷◌, find, map, option_map, Some, ◌⊎◌, inl, inr, ⊎_elim, refl, sym, ap, ◌∙◌, subst, eqb-true, arith}
use Rattle.std.specs.List.{AllByRecursion}
use Rattle.std.proofs.lemmas.Bool.{ltb-false, ne_eqb}
use Rattle.std.proofs.lemmas.Option.{none-some}
use Rattle.ada_tree.specs.declared.naming.NameId.{NameId}
use Rattle.ada_tree.specs.declared.naming.Word.{Word}
use Rattle.ada_tree.specs.declared.static_types.Kind.{Kind}
use Rattle.ada_tree.specs.declared.static_types.Kind.TheVariants.{Integer, Truth}
use Rattle.ada_tree.specs.declared.static_types.Mark.{Mark}
use Rattle.ada_tree.specs.TypeTable.{TypeTable}
use Rattle.ada_tree.specs.PlainDecl.{PDecl, DNumber, DObject, DEnumeration, DArray, DSubtype, DException, DIntIo, DPragma, DTask, DTaskBody, PDecls, no_decl, decl_then}
use Rattle.ada_tree.specs.PlainProgram.{PProgram}
use Rattle.ada_tree.specs.Every.{EveryDecls}
use Rattle.ada_tree.specs.WellPlaced.{well_placed, IsLater, AreLater, BodiesLast, IsWellPlaced}
use Rattle.ada_static_rules.specs.Scope.{Scope, NameMeaning, truth_kind, Thing, TypeMark, Literal, AnException, AnotherUnit, MainProcedure, EntryPart, meaning, kind_at, mark_at}
use Rattle.ada_static_rules.specs.StaticValue.{mark_named}
use Rattle.ada_static_rules.specs.Sites.{decl_sites, decls_sites, body_sites}
use Rattle.ada_static_rules.specs.Declaring.{predefined_types, predefined_names, first_scope, with_name, inner_scope, task_thing, entry_part, in_body, after_decl, after_decls}
use Rattle.ada_static_rules.specs.RuleDuplicate.{is_predefined}
use Rattle.ada_static_rules.specs.Refusals.{MeetsTypeRules, types_in}
use Rattle.task_laws.specs.legal.rewritten_types.Agreement.{Keeps, Grows, Sound}
use Rattle.task_laws.specs.legal.rewritten_types.Rewriting.{IsFirst, names_declared, IsUnused, DeclareOnce, NamesOnce}
use Rattle.task_laws.proofs.legal.rewritten_types.Lookups.{find-all}
use Rattle.task_laws.proofs.legal.rewritten_types.Keeping.{grows-self, grows-on, keeps-self, keeps-on}
use Rattle.task_laws.proofs.legal.rewritten_types.Adding.{keeps-objects}
use Rattle.task_laws.proofs.legal.rewritten_types.Owning.{whole-first}
use Rattle.task_laws.proofs.legal.rewritten_types.Soundness.{sound-decl, sound-first}
use Rattle.task_laws.proofs.legal.rewritten_types.Refused.{declared_once}
use Rattle.task_laws.proofs.legal.rewritten_types.Fresh.{InHere, first-here, here-decl}
use Rattle.task_laws.proofs.legal.rewritten_types.Unmarked.{first-unmarked}
use Rattle.task_laws.specs.legal.sites.Met.{IsMet}
use Rattle.task_laws.proofs.legal.sites.Meeting.{all_met}
use Rattle.task_laws.specs.legal.types.Typed.{IsSmall, HasPosition}
use Rattle.task_laws.proofs.legal.types.ExprKinds.{LeadsOn, IsClearThing}
use Rattle.task_laws.proofs.legal.types.TypedValues.{anybody, IsTyped, IsOver}
use Rattle.task_laws.proofs.legal.types.FirmTables.{IsFirmMark, IsAlone, small-before}
use Rattle.task_laws.proofs.legal.types.GoodScopes.{News, IsIn, names-told, names-kept, unused-apart, IsGood, good-typed}
use Rattle.task_laws.proofs.legal.types.GoodDeclarations.{grows-decl, good-decl, type-place}
use Rattle.task_laws.proofs.legal.types.LaterTables.{IsLaterTable, later-self, later-on}
use Rattle.task_laws.proofs.legal.types.LaterScopes.{valued-means, over-more, keeps-later, later-decl}
use Rattle.common_lemmas.proofs.Lists.{all_back, all_front}
use Rattle.common_lemmas.proofs.Options.{some_same}
use Rattle.ada_static_rules.proofs.found_twice.Declared.{thing_found}

-- ---- what is said of each scope

-- The scope stands over a firm table, of which the whole program's is a later one.
pub record Stands (T : TypeTable) (s : Scope) : Type 0 where
  pub root : TypeTable
  pub typed : IsTyped root
  pub over : IsOver root s
  pub later : IsLaterTable root T

-- The same where the program's table keeps that table: no more types and values have names.
pub record StandsWhole (T : TypeTable) (s : Scope) : Type 0 where
  pub stands : Stands T s
  pub whole : Keeps anybody stands.root T

-- So it is where the bodies of tasks begin.
abbrev pub AllBodies : TypeTable → Scope → PDecls → Type 0
AllBodies T s no_decl = Unit {0}
AllBodies T s (decl_then (DTaskBody w objects its sp) rest) = StandsWhole T s × AllBodies T (after_decl s (DTaskBody w objects its sp)) rest
AllBodies T s (decl_then d rest) = AllBodies T (after_decl s d) rest

-- So it is at each declaration, where nothing is refused, and behind them all.
abbrev pub AllStand : TypeTable → Scope → PDecls → Type 0
AllStand T s no_decl = Stands T s
AllStand T s (decl_then d rest) = Stands T s × AllByRecursion IsMet (decl_sites s d) × AllStand T (after_decl s d) rest

-- ---- before all declarations

-- what is found has the name
find-name : (xs : List NameMeaning) (n : ℕ) (y : NameMeaning) → find (λ (x : NameMeaning). x.name == n) xs ≡ Some y → y.name ≡ n
find-name [] n y e = absurd (none-some y e)
find-name (x ∷ xs) n y e = by_test (x.name == n) refl e (find-name xs n y)
  where
    by_test : (b : Bool) → (x.name == n) ≡ b → (if b then Some x else find (λ (z : NameMeaning). z.name == n) xs) ≡ Some y → (find (λ (z : NameMeaning). z.name == n) xs ≡ Some y → y.name ≡ n) → y.name ≡ n
    by_test true p f rest = ap (λ (z : NameMeaning). z.name) (sym (some_same f)) ∙ eqb-true x.name n p
    by_test false p f rest = rest f

module _ (name : Word) (unused : is_predefined name.name.0 ≡ false) where
  abbrev first : Scope
  first = first_scope name

  predefined-leads : (m : ℕ) (x : Mark) (k : Kind) → mark_at predefined_types m ≡ Some x → kind_at predefined_types x.kind ≡ Some k → LeadsOn predefined_types m
  predefined-leads m x k e f = record { mark = x; there = e; kind = k; known = f }

  all-clear : AllByRecursion (λ (y : NameMeaning). IsClearThing predefined_types y.thing) first.names
  all-clear = (
    tt,
    (
      predefined-leads 0 _ Integer refl refl,
      (
        predefined-leads 1 _ Integer refl refl,
        (predefined-leads 2 _ Integer refl refl, (predefined-leads 3 _ Truth refl refl, ((Truth, refl), ((Truth, refl), (tt, (tt, (tt, (tt, (tt, (tt, (tt, (tt, (tt, (tt, (tt, (tt, tt)))))))))))))))),
      ),
    ),
  )

  abbrev IsMarkedSo : NameMeaning → Type 0
  IsMarkedSo y = (m : ℕ) → y.thing ≡ TypeMark m → mark_named predefined_types (record { 0 = y.name }) ≡ mark_at predefined_types m

  no-mark : (x : Thing) (n : ℕ) → ((m : ℕ) → x ≡ TypeMark m → ⊥) → (m : ℕ) → x ≡ TypeMark m → mark_named predefined_types (record { 0 = n }) ≡ mark_at predefined_types m
  no-mark x n h m e = absurd (h m e)

  literal-other : (m : ℕ) → Literal truth_kind ≡ TypeMark m → ⊥
  literal-other m e = cc

  exception-other : (m : ℕ) → AnException ≡ TypeMark m → ⊥
  exception-other m e = cc

  unit-other : (m : ℕ) → AnotherUnit ≡ TypeMark m → ⊥
  unit-other m e = cc

  main-other : (m : ℕ) → MainProcedure ≡ TypeMark m → ⊥
  main-other m e = cc

  all-marked : AllByRecursion IsMarkedSo first.names
  all-marked = (
    no-mark MainProcedure name.name.0 main-other,
    (
      λ m e. ap (mark_at predefined_types) (type-place 0 m e),
      (
        λ m e. ap (mark_at predefined_types) (type-place 1 m e),
        (
          λ m e. ap (mark_at predefined_types) (type-place 2 m e),
          (
            λ m e. ap (mark_at predefined_types) (type-place 3 m e),
            (
              no-mark _ 4 literal-other,
              (
                no-mark _ 5 literal-other,
                (
                  no-mark _ 6 exception-other,
                  (
                    no-mark _ 7 exception-other,
                    (
                      no-mark _ 8 exception-other,
                      (
                        no-mark _ 9 exception-other,
                        (
                          no-mark _ 10 exception-other,
                          (
                            no-mark _ 11 exception-other,
                            (no-mark _ 12 unit-other, (no-mark _ 13 unit-other, (no-mark _ 14 unit-other, (no-mark _ 15 unit-other, (no-mark _ 16 unit-other, (no-mark _ 17 unit-other, tt)))))),
                          ),
                        ),
                      ),
                    ),
                  ),
                ),
              ),
            ),
          ),
        ),
      ),
    ),
  )

  -- a predefined name means what it means before the program
  predefined-means : (n : ℕ) → n < 18 → meaning first (record { 0 = n }) ≡ option_map (λ (y : NameMeaning). y.thing) (find (λ (y : NameMeaning). y.name == n) predefined_names)
  predefined-means n l =
      let m : 18 ≤ name.name.0 = ltb-false name.name.0 18 unused in
      ap (λ b. option_map (λ (y : NameMeaning). y.thing) (if b then Some (record { name = name.name.0; thing = MainProcedure }) else find (λ (y : NameMeaning). y.name == n) predefined_names))
      (ne_eqb name.name.0 n (λ same. let y : ⊥ = omega (arith, same, l, m) in y))

  by-number : (id : NameId) (n : ℕ) → (id.0 == n) ≡ true → record { 0 = n } ≡ id
  by-number id n e = ap (λ k. record { 0 = k }) (sym (eqb-true id.0 n e))

  first-over : IsOver predefined_types first
  first-over = record {
    keeps = keeps-self predefined_types;
    clear = record { sound = sound-first name; things = λ id x e. things id x (thing_found (find (λ (y : NameMeaning). y.name == id.0) first.names) x e) };
    marks = λ id m e. marks id m (thing_found (find (λ (y : NameMeaning). y.name == id.0) first.names) (TypeMark m) e);
    constants = λ id c e. absurd (none-some c e);
    literals = λ id v e. absurd (none-some v e);
    falses = λ id e. ap (meaning first) (sym (by-number id 4 e)) ∙ predefined-means 4 (omega arith);
    trues = λ id e. ap (meaning first) (sym (by-number id 5 e)) ∙ predefined-means 5 (omega arith);
  }
    where
      things : (id : NameId) (x : Thing) → (y : NameMeaning) × (find (λ (z : NameMeaning). z.name == id.0) first.names ≡ Some y) × (y.thing ≡ x) → IsClearThing predefined_types x
      things id x h = subst (IsClearThing predefined_types) h.2 (find-all (λ (y : NameMeaning). IsClearThing predefined_types y.thing) (λ (z : NameMeaning). z.name == id.0) first.names h.0 all-clear h.1)

      marks : (id : NameId) (m : ℕ) → (y : NameMeaning) × (find (λ (z : NameMeaning). z.name == id.0) first.names ≡ Some y) × (y.thing ≡ TypeMark m) → mark_named predefined_types id ≡ mark_at predefined_types m
      marks id m h =
          ap (λ n. mark_named predefined_types (record { 0 = n })) (sym (find-name first.names id.0 h.0 h.1))
          ∙ find-all IsMarkedSo (λ (z : NameMeaning). z.name == id.0) first.names h.0 all-marked h.1 m h.2

  first-alone : (k : ℕ) (x : Kind) → kind_at predefined_types k ≡ Some x → IsAlone k x
  first-alone zero x e = subst (IsAlone 0) (some_same e) refl
  first-alone (suc zero) x e = subst (IsAlone 1) (some_same e) refl
  first-alone (suc (suc k)) x e = absurd (none-some x e)

  first-mark-firm : (m : Mark) (k : Kind) → kind_at predefined_types m.kind ≡ Some k → HasPosition predefined_types m.kind m.first → HasPosition predefined_types m.kind m.last → int_le m.first m.last ≡ true → IsFirmMark predefined_types m
  first-mark-firm m k e f l o = record { has = (k, e); first = f; last = l; order = o }

  pub good-first : IsGood first
  good-first = record {
    main = refl;
    here = first-here name;
    begins = grows-self predefined_types;
    whole = whole-first name;
    root = sound-first name;
    firm = record {
      marks = (
        first-mark-firm _ Integer refl (record { fits = refl; same = refl; literal = tt }) (record { fits = refl; same = refl; literal = tt }) refl,
        (
          first-mark-firm _ Integer refl (record { fits = refl; same = refl; literal = tt }) (record { fits = refl; same = refl; literal = tt }) refl,
          (
            first-mark-firm _ Integer refl (record { fits = refl; same = refl; literal = tt }) (record { fits = refl; same = refl; literal = tt }) refl,
            (first-mark-firm _ Truth refl (record { fits = refl; same = refl; literal = tt }) (record { fits = refl; same = refl; literal = tt }) refl, tt),
          ),
        ),
      );
      constants = tt;
      alone = first-alone;
    };
    over = first-over;
    unmarked = first-unmarked name unused;
  }

-- ---- behind the first body

-- each scope stands over one table
abbrev AllOver : TypeTable → Scope → PDecls → Type 0
AllOver R s no_decl = IsOver R s
AllOver R s (decl_then d rest) = IsOver R s × AllOver R (after_decl s d) rest

last-over : (R : TypeTable) (ds : PDecls) (s : Scope) → AllOver R s ds → IsOver R (after_decls s ds)
last-over R no_decl s h = h
last-over R (decl_then d rest) s h = last-over R rest (after_decl s d) h.1

to-stand : (T R : TypeTable) → IsTyped R → IsLaterTable R T → (ds : PDecls) (s : Scope) → AllOver R s ds → AllByRecursion IsMet (decls_sites s ds) → AllStand T s ds
to-stand T R typed later no_decl s h met = record { root = R; typed = typed; over = h; later = later }
to-stand T R typed later (decl_then d rest) s h met = (
  record { root = R; typed = typed; over = h.0; later = later },
  all_front IsMet (decl_sites s d) (decls_sites (after_decl s d) rest) met,
  to-stand T R typed later rest (after_decl s d) h.1 (all_back IsMet (decl_sites s d) (decls_sites (after_decl s d) rest) met),
)

-- a declaration in front, which is no body or stands so itself
more-bodies : (T : TypeTable) (d : PDecl) (rest : PDecls) (s : Scope) → IsFirst d ⊎ StandsWhole T s → AllBodies T (after_decl s d) rest → AllBodies T s (decl_then d rest)
more-bodies T (DTaskBody w objects its sp) rest s h k = (⊎_elim (λ no. absurd no) (λ yes. yes) h, k)
more-bodies T (DNumber name e sp) rest s h k = k
more-bodies T (DObject ws constant shape init sp) rest s h k = k
more-bodies T (DEnumeration name literals sp) rest s h k = k
more-bodies T (DArray name index x sp) rest s h k = k
more-bodies T (DSubtype name x sp) rest s h k = k
more-bodies T (DException ws sp) rest s h k = k
more-bodies T (DIntIo w sp) rest s h k = k
more-bodies T (DPragma e sp) rest s h k = k
more-bodies T (DTask t sp) rest s h k = k

to-bodies : (T R : TypeTable) → IsTyped R → IsLaterTable R T → Keeps anybody R T → (ds : PDecls) (s : Scope) → AllOver R s ds → AllBodies T s ds
to-bodies T R typed later keeps no_decl s h = tt
to-bodies T R typed later keeps (decl_then d rest) s h =
    more-bodies T d rest s (inr (record { stands = record { root = R; typed = typed; over = h.0; later = later }; whole = keeps })) (to-bodies T R typed later keeps rest (after_decl s d) h.1)

-- a new name that is no mark
one-more : (R : TypeTable) (thing : Thing) (w : Word) (s s' : Scope) → s'.types ≡ s.types → ((id : NameId) → meaning s' id ≡ meaning (with_name thing s w) id) → InHere s → IsUnused s w → IsClearThing s.types thing → ((m : ℕ) → thing ≡ TypeMark m → ⊥) → IsOver R s → IsOver R s'
one-more R thing w s s' same means here unused clear other over =
    over-more New R s s' (subst (Keeps anybody R) (sym same) over.keeps) (subst (Grows s.types) (sym same) (grows-self s.types)) (subst (λ T. Sound T) (sym same) over.clear.sound)
    (λ id v. let x = valued-means R s over id v in means id ∙ names-kept thing (w ∷ []) s id (unused-apart s here (w ∷ []) (unused, tt) id x.0 x.1))
    (λ id x e. names-told thing (w ∷ []) s id x (sym (means id) ∙ e))
    (λ id x h. subst (λ T. IsClearThing T x) (sym same) (subst (IsClearThing s.types) (sym h.1) clear))
    (λ id m h. absurd (other m (sym h.1)))
    over
  where
    New : News
    New id x = IsIn (w ∷ []) id × (x ≡ thing)

task-clear : (T : TypeTable) (b : Bool) (entries : List EntryPart) → IsClearThing T (task_thing b entries)
task-clear T true entries = tt
task-clear T false entries = tt

task-other : (b : Bool) (entries : List EntryPart) (j : ℕ) → task_thing b entries ≡ TypeMark j → ⊥
task-other true entries j e = cc
task-other false entries j e = cc

unit-mark : (j : ℕ) → AnotherUnit ≡ TypeMark j → ⊥
unit-mark j e = cc

abbrev nothing_new : News
nothing_new id x = ⊥

over-later : (R : TypeTable) (d : PDecl) (s : Scope) → IsLater d → InHere s → AllByRecursion (IsUnused s) (names_declared d) → IsOver R s → IsOver R (after_decl s d)
over-later R (DTaskBody w objects its sp) s later here unused over =
    let k = keeps-objects {old = anybody} objects (in_body s w) refl in
    over-more nothing_new R s (after_decl s (DTaskBody w objects its sp)) (keeps-on over.keeps k) k.grows (sound-decl (DTaskBody w objects its sp) s over.clear.sound) (λ id v. refl) (λ id x e. inl e) (λ id x h. absurd h) (λ id m h. absurd h) over
over-later R (DTask t sp) s later here unused over =
    one-more R (task_thing t.of_kind (map (entry_part s) t.entries)) t.name s (after_decl s (DTask t sp)) refl (λ id. refl) here unused.0 (task-clear s.types t.of_kind (map (entry_part s) t.entries)) (task-other t.of_kind (map (entry_part s) t.entries)) over
over-later R (DIntIo w sp) s later here unused over = one-more R AnotherUnit w s (after_decl s (DIntIo w sp)) refl (λ id. refl) here unused.0 tt unit-mark over
over-later R (DNumber name e sp) s later here unused over = absurd later
over-later R (DObject ws constant shape init sp) s later here unused over = absurd later
over-later R (DEnumeration name literals sp) s later here unused over = absurd later
over-later R (DArray name index x sp) s later here unused over = absurd later
over-later R (DSubtype name x sp) s later here unused over = absurd later
over-later R (DException ws sp) s later here unused over = absurd later
over-later R (DPragma e sp) s later here unused over = absurd later

all-over : (R : TypeTable) (ds : PDecls) (s : Scope) → AreLater ds → InHere s → DeclareOnce s ds → IsOver R s → AllOver R s ds
all-over R no_decl s later here once over = over
all-over R (decl_then d rest) s later here once over = (over, all-over R rest (after_decl s d) later.1 (here-decl d s here) once.1 (over-later R d s later.0 here once.0 over))

-- ---- all declarations

-- the first declaration is no body, or none but such as may stand behind a body stand there
first-or-later : (d : PDecl) (ds : PDecls) → BodiesLast (decl_then d ds) → (IsFirst d × BodiesLast ds) ⊎ AreLater (decl_then d ds)
first-or-later (DTaskBody w objects its sp) ds h = inr (tt, h)
first-or-later (DNumber name e sp) ds h = inl (tt, h)
first-or-later (DObject ws constant shape init sp) ds h = inl (tt, h)
first-or-later (DEnumeration name literals sp) ds h = inl (tt, h)
first-or-later (DArray name index x sp) ds h = inl (tt, h)
first-or-later (DSubtype name x sp) ds h = inl (tt, h)
first-or-later (DException ws sp) ds h = inl (tt, h)
first-or-later (DIntIo w sp) ds h = inl (tt, h)
first-or-later (DPragma e sp) ds h = inl (tt, h)
first-or-later (DTask t sp) ds h = inl (tt, h)

pub grows-decls : (ds : PDecls) (s : Scope) → Grows s.types (after_decls s ds).types
grows-decls no_decl s = grows-self s.types
grows-decls (decl_then d rest) s = grows-on (grows-decl d s) (grows-decls rest (after_decl s d))

-- what is told of declarations at a scope
record Walked (s : Scope) (ds : PDecls) : Type 0 where
  later : IsLaterTable s.types (after_decls s ds).types
  all : AllStand (after_decls s ds).types s ds
  bodies : AllBodies (after_decls s ds).types s ds

walk : (names : List (List ℕ)) (ds : PDecls) (s : Scope) → IsGood s → BodiesLast ds → DeclareOnce s ds → EveryDecls (well_placed names) ds → AllByRecursion IsMet (decls_sites s ds) → IsSmall (after_decls s ds).types → Walked s ds
walk names no_decl s good last once every met small = record { later = later-self s.types; all = record { root = s.types; typed = good-typed s good small; over = good.over; later = later-self s.types }; bodies = tt }
walk names (decl_then d rest) s good last once every met small =
    ⊎_elim
    (λ h. goes-on h.0 (walk names rest (after_decl s d) (good-next h.0) h.1 once.1 every.1 (all_back IsMet (decl_sites s d) (decls_sites (after_decl s d) rest) met) small))
    (λ h. ends h)
    (first-or-later d rest last)
  where
    here-small : IsSmall s.types
    here-small = small-before s.types (after_decls s (decl_then d rest)).types (grows-decls (decl_then d rest) s) small

    good-next : IsFirst d → IsGood (after_decl s d)
    good-next first = good-decl names d s good (small-before (after_decl s d).types (after_decls s (decl_then d rest)).types (grows-decls rest (after_decl s d)) small) first once.0 every.0 (all_front IsMet (decl_sites s d) (decls_sites (after_decl s d) rest) met)

    goes-on : IsFirst d → Walked (after_decl s d) rest → Walked s (decl_then d rest)
    goes-on first w =
        let l = later-on s.types (after_decl s d).types (after_decls s (decl_then d rest)).types (later-decl s good d first once.0 (grows-decl d s)) w.later in
        record {
          later = l;
          all = (
            record { root = s.types; typed = good-typed s good here-small; over = good.over; later = l },
            all_front IsMet (decl_sites s d) (decls_sites (after_decl s d) rest) met,
            w.all,
          );
          bodies = more-bodies (after_decls s (decl_then d rest)).types d rest s (inl first) w.bodies;
        }

    ends : AreLater (decl_then d rest) → Walked s (decl_then d rest)
    ends h =
        let T = (after_decls s (decl_then d rest)).types in
        let typed = good-typed s good here-small in
        let all = all-over s.types (decl_then d rest) s h good.here once good.over in
        let keeps = (last-over s.types (decl_then d rest) s all).keeps in
        let l = keeps-later s.types T typed keeps in
        record { later = l; all = to-stand T s.types typed l (decl_then d rest) s all met; bodies = to-bodies T s.types typed l keeps (decl_then d rest) s all }

whole-walk : (p : PProgram) → MeetsTypeRules p → IsWellPlaced p → IsSmall (types_in p) → Walked (first_scope p.name) p.decls
whole-walk p rules placed small =
    let once : NamesOnce p.name p.decls = declared_once p rules in
    let met = (all_met p rules).1 in
    walk p.names p.decls (first_scope p.name) (good-first p.name once.0.0) placed.1 once.1 placed.2
    (all_front IsMet (decls_sites (first_scope p.name) p.decls) (body_sites (inner_scope (after_decls (first_scope p.name) p.decls)) p.body) met) small

-- At each declaration of main the scope stands over a firm table, of which the program's is a later one.
pub main-stands : (p : PProgram) → MeetsTypeRules p → IsWellPlaced p → IsSmall (types_in p) → AllStand (types_in p) (first_scope p.name) p.decls
main-stands p rules placed small = (whole-walk p rules placed small).all

-- At each body the program's table keeps it.
pub bodies-stand : (p : PProgram) → MeetsTypeRules p → IsWellPlaced p → IsSmall (types_in p) → AllBodies (types_in p) (first_scope p.name) p.decls
bodies-stand p rules placed small = (whole-walk p rules placed small).bodies

last-of : (T : TypeTable) (ds : PDecls) (s : Scope) → AllStand T s ds → Stands T (after_decls s ds)
last-of T no_decl s h = h
last-of T (decl_then d rest) s h = last-of T rest (after_decl s d) h.2

-- Behind all declarations it does so too.
pub last-stands : (p : PProgram) → MeetsTypeRules p → IsWellPlaced p → IsSmall (types_in p) → StandsWhole (types_in p) (after_decls (first_scope p.name) p.decls)
last-stands p rules placed small = let h = last-of (types_in p) p.decls (first_scope p.name) (main-stands p rules placed small) in record { stands = h; whole = h.over.keeps }

-- An array constant of main stands among no constants of the table, and has a name of its own.
use Rattle.std.proofs.Common.{◌≡◌, ℕ, Bool, true, false, ◌||◌, ◌&&◌, ◌==◌, if◌then◌else◌, List, [], ◌∷◌, ◌++◌, length, Option, Some, None, is_none, refl, sym, ap, subst, ◌∙◌, true≢false}
use Rattle.std.specs.List.{AllByRecursion, list_any}
use Rattle.std.proofs.lemmas.Bool.{eq-eqb, or_parts, or_left}
use Rattle.std.proofs.lemmas.List.{append_assoc}
use Rattle.ada_tree.specs.declared.naming.Span.{Span}
use Rattle.ada_tree.specs.declared.naming.Word.{Word}
use Rattle.ada_tree.specs.declared.static_types.Kind.{Kind}
use Rattle.ada_tree.specs.declared.static_types.Kind.TheVariants.{Integer, Truth, Enumeration, Array}
use Rattle.ada_tree.specs.declared.static_types.Mark.{Mark}
use Rattle.ada_tree.specs.TypeTable.{TypeTable}
use Rattle.ada_tree.specs.PlainExpr.{PExpr, PSubind, PDrange}
use Rattle.ada_tree.specs.PlainDecl.{PShape, OPlain, OArray, PInit, IOne, IList, IOthers, PDecl, DNumber, DObject, DEnumeration, DArray, DSubtype, DException, DIntIo, DPragma, DTask, DTaskBody, PDecls, no_decl, decl_then}
use Rattle.ada_tree.specs.PlainProgram.{PProgram}
use Rattle.ada_static_rules.specs.Refusals.{MeetsTypeRules, types_in, refused_at, refused_from}
use Rattle.ada_static_rules.specs.StaticValue.{value_named}
use Rattle.ada_static_rules.specs.Scope.{Scope, Range, Thing, TypeMark, TaskType, SingleTask, TaskObject, TaskArray, Variable, ConstantObject, Parameter, LoopParameter, Literal, AnException, MainProcedure, AnotherUnit, Unclear, Marking, ScalarMark, ArrayMark, TaskMark, NoMark, UnknownMark, UnclearMark, marking_of_kind, marking_of_mark, marking_of, marking, mark_at, kind_at, meaning, range_of_mark}
use Rattle.ada_static_rules.specs.Demand.{declares, initializes, for_array, Site}
use Rattle.ada_static_rules.specs.Sites.{site, if_there, names_sites, shape_sites, array_init_sites, init_sites, object_marking, is_task_object, decl_sites, decls_sites, body_sites}
use Rattle.ada_static_rules.specs.RuleDuplicate.{is_predefined, is_among, fixes, introduces}
use Rattle.ada_static_rules.specs.Declaring.{before_all, first_scope, inner_scope, with_types, subind_made, made_subind, drange_range, made_array, object_meaning, Declared, plain_object, array_object, declared_object, of_made, add_constants, constant_mark, constant_value, kind_at_mark, initial_value, with_constants, after_decl, after_decls}
use Rattle.ada_value.specs.declared.values.Form.{Form}
use Rattle.task_model.specs.Starting.{form_of}
use Rattle.task_laws.proofs.legal.rewritten_types.Adding.{names-types}
use Rattle.task_laws.specs.legal.sites.Met.{IsMet}
use Rattle.task_laws.proofs.legal.sites.Meeting.{all_met}
use Rattle.normal_laws.proofs.existence.units.Fixing.{Differs, AllDiffer, all-before, later}
use Rattle.task_laws.specs.legal.rewritten_values.Values.{AgreeOnValues}
use Rattle.normal_laws.proofs.existence.units.Plain.{ArrayFree, ArraysFree}
use Rattle.normal_laws.proofs.existence.units.Lacking.{Lacks, no-task, no-row, declared-lacks, decl-lacks, decl-main, decls-lack, first-lacks, lacks-value}
use Rattle.common_lemmas.proofs.Lists.{all_back, all_front, all_weaker, back_empty, front_empty, last_at, not_empty}
use Rattle.task_laws.proofs.legal.rewritten_types.Refused.{no_duplicate, no_word}

-- ---- an array constant adds no constant

-- the initial value of an array is no single expression
no-single : (s : Scope) (r : Range) (e : PExpr) → IsMet (site s (initializes (for_array r) (IOne e))) → ⊥
no-single s r e h = not_empty _ _ h.arrays

init-none : (s : Scope) (T : TypeTable) (m : Marking) (k : ℕ) (i : Option PInit) (mark : ℕ) (r : Range) (part : ℕ) → m ≡ ArrayMark mark r part → AllByRecursion IsMet (if_there (init_sites s T m) i) → initial_value s k i ≡ None
init-none s T m k None mark r part e h = refl
init-none s T m k (Some (IList es sp)) mark r part e h = refl
init-none s T m k (Some (IOthers x sp)) mark r part e h = refl
init-none s T m k (Some (IOne x)) mark r part e h =
    let g : AllByRecursion IsMet (init_sites s T (ArrayMark mark r part) (IOne x)) = subst (λ (n : Marking). AllByRecursion IsMet (init_sites s T n (IOne x))) e h in
    absurd (no-single s r x (all_back IsMet (array_init_sites s (range_of_mark T part) (IOne x)) (site s (initializes (for_array r) (IOne x)) ∷ []) g).0)

-- an array's mark, or another
abbrev IsNoArray : Marking → Type 0
IsNoArray (ArrayMark m r p) = ⊥
IsNoArray _ = Unit {0}

abbrev place_in : Marking → ℕ
place_in (ArrayMark m r p) = m
place_in _ = 0

other-mark : (m : Marking) (n : ℕ) (r : Range) (part : ℕ) → IsNoArray m → m ≡ ArrayMark n r part → ⊥
other-mark m n r part h e = subst IsNoArray e h

kind-first : (m k : ℕ) (o : Option Kind) (n : ℕ) (r : Range) (part : ℕ) → marking_of_kind m k o ≡ ArrayMark n r part → m ≡ n
kind-first m k (Some (Array index a b p)) n r part e = ap place_in e
kind-first m k (Some Integer) n r part e = absurd (other-mark (ScalarMark m k) n r part tt e)
kind-first m k (Some Truth) n r part e = absurd (other-mark (ScalarMark m k) n r part tt e)
kind-first m k (Some (Enumeration ids)) n r part e = absurd (other-mark (ScalarMark m k) n r part tt e)
kind-first m k None n r part e = absurd (other-mark UnclearMark n r part tt e)

mark-first : (T : TypeTable) (m : ℕ) (o : Option Mark) (n : ℕ) (r : Range) (part : ℕ) → marking_of_mark T m o ≡ ArrayMark n r part → m ≡ n
mark-first T m (Some x) n r part e = kind-first m x.kind (kind_at T x.kind) n r part e
mark-first T m None n r part e = absurd (other-mark UnclearMark n r part tt e)

thing-place : (T : TypeTable) (o : Option Thing) (n : ℕ) (r : Range) (part : ℕ) → marking_of T o ≡ ArrayMark n r part → marking_of_mark T n (mark_at T n) ≡ ArrayMark n r part
thing-place T (Some (TypeMark m)) n r part e = subst (λ (j : ℕ). marking_of_mark T j (mark_at T j) ≡ ArrayMark n r part) (mark-first T m (mark_at T m) n r part e) e
thing-place T (Some (TaskType es)) n r part e = absurd (other-mark (TaskMark es) n r part tt e)
thing-place T (Some (SingleTask es)) n r part e = absurd (other-mark NoMark n r part tt e)
thing-place T (Some (TaskObject es)) n r part e = absurd (other-mark NoMark n r part tt e)
thing-place T (Some (TaskArray q es)) n r part e = absurd (other-mark NoMark n r part tt e)
thing-place T (Some (Variable m)) n r part e = absurd (other-mark NoMark n r part tt e)
thing-place T (Some (ConstantObject m)) n r part e = absurd (other-mark NoMark n r part tt e)
thing-place T (Some (Parameter mode m)) n r part e = absurd (other-mark NoMark n r part tt e)
thing-place T (Some (LoopParameter m)) n r part e = absurd (other-mark NoMark n r part tt e)
thing-place T (Some (Literal k)) n r part e = absurd (other-mark NoMark n r part tt e)
thing-place T (Some AnException) n r part e = absurd (other-mark NoMark n r part tt e)
thing-place T (Some MainProcedure) n r part e = absurd (other-mark NoMark n r part tt e)
thing-place T (Some AnotherUnit) n r part e = absurd (other-mark NoMark n r part tt e)
thing-place T (Some Unclear) n r part e = absurd (other-mark UnclearMark n r part tt e)
thing-place T None n r part e = absurd (other-mark UnknownMark n r part tt e)

-- the declaration adds no constant
abbrev NoConstant : Scope → Declared → Option PInit → Type 0
NoConstant s d i = (ws : List Word) → add_constants ws (constant_mark d.thing) (constant_value s d.types (constant_mark d.thing) i) d.types ≡ d.types

none-added : (s : Scope) (d : Declared) (i : Option PInit) → constant_mark d.thing ≡ None → NoConstant s d i
none-added s d i e ws = ap (λ m. add_constants ws m (constant_value s d.types m i) d.types) e

abbrev InitMet : Scope → Declared → Option PInit → Type 0
InitMet s d i = AllByRecursion IsMet (if_there (init_sites s d.types (object_marking d)) i)

-- the mark is no scalar one
abbrev IsNoScalar : Marking → Type 0
IsNoScalar (ScalarMark m k) = ⊥
IsNoScalar _ = Unit {0}

plain-adds : (s : Scope) (x : PSubind) (i : Option PInit) (m : Marking) → marking s x.mark.name ≡ m → IsNoScalar m → InitMet s (plain_object s true m x) i → NoConstant s (plain_object s true m x) i
plain-adds s x i (TaskMark es) e n h ws = none-added s (plain_object s true (TaskMark es) x) i (no-task 0 s.in_main es) ws
plain-adds s x i (ArrayMark m r p) e n h ws =
    ap (λ z. add_constants ws (Some m) z s.types) (init-none s s.types (marking_of_mark s.types m (mark_at s.types m)) (kind_at_mark s.types m) i m r p (thing-place s.types (meaning s x.mark.name) m r p e) h)
plain-adds s x i (ScalarMark m k) e n h ws = absurd n
plain-adds s x i NoMark e n h ws = none-added s (plain_object s true NoMark x) i (ap (λ q. constant_mark (object_meaning true (subind_made s q x.bounds).mark)) e) ws
plain-adds s x i UnknownMark e n h ws = none-added s (plain_object s true UnknownMark x) i (ap (λ q. constant_mark (object_meaning true (subind_made s q x.bounds).mark)) e) ws
plain-adds s x i UnclearMark e n h ws = none-added s (plain_object s true UnclearMark x) i (ap (λ q. constant_mark (object_meaning true (subind_made s q x.bounds).mark)) e) ws

-- an array with a type of its own
made-adds : (s : Scope) (i : Option PInit) (T : TypeTable) (o : Option Range) (part : Option ℕ) → InitMet s (of_made true (made_array None T o part)) i → NoConstant s (of_made true (made_array None T o part)) i
made-adds s i T None None h ws = refl
made-adds s i T None (Some q) h ws = refl
made-adds s i T (Some r) None h ws = refl
made-adds s i T (Some r) (Some q) h ws = ap (λ z. add_constants ws (Some n) z U) (init-none s U (marking_of_mark U n (mark_at U n)) (kind_at_mark U n) i n record { kind = r.kind; first = r.first; last = r.last } q is-array h)
  where
    n : ℕ
    n = length T.marks

    U : TypeTable
    U = (made_array None T (Some r) (Some q)).types

    is-array : marking_of_mark (made_array None T (Some r) (Some q)).types (length T.marks) (mark_at (made_array None T (Some r) (Some q)).types (length T.marks)) ≡ ArrayMark (length T.marks) record { kind = r.kind; first = r.first; last = r.last } q
    is-array =
        ap (marking_of_mark (made_array None T (Some r) (Some q)).types (length T.marks)) (last_at T.marks record { name = None; kind = length T.kinds; first = r.first; last = r.last })
        ∙ ap (marking_of_kind (length T.marks) (length T.kinds)) (last_at T.kinds (Array r.kind r.first r.last q))

row-adds : (s : Scope) (index : PDrange) (x : PSubind) (i : Option PInit) (m : Marking) → InitMet s (array_object s true m index x) i → NoConstant s (array_object s true m index x) i
row-adds s index x i (TaskMark es) h = none-added s (array_object s true (TaskMark es) index x) i (no-row 0 s.in_main (drange_range s index) es)
row-adds s index x i (ArrayMark m r p) h = made-adds s i (made_subind s x).types (drange_range s index) (made_subind s x).mark h
row-adds s index x i (ScalarMark m k) h = made-adds s i (made_subind s x).types (drange_range s index) (made_subind s x).mark h
row-adds s index x i NoMark h = made-adds s i (made_subind s x).types (drange_range s index) (made_subind s x).mark h
row-adds s index x i UnknownMark h = made-adds s i (made_subind s x).types (drange_range s index) (made_subind s x).mark h
row-adds s index x i UnclearMark h = made-adds s i (made_subind s x).types (drange_range s index) (made_subind s x).mark h

-- ---- names that stand before and behind

-- places behind others, the latest first
onto : List Site → List Site → List Site
onto [] before = before
onto (x ∷ xs) before = onto xs (x ∷ before)

behind : (xs ys before : List Site) → refused_from before (xs ++ ys) ≡ [] → refused_from (onto xs before) ys ≡ []
unfolding onto
behind [] ys before e = e
behind (x ∷ xs) ys before e = behind xs ys (x ∷ before) (back_empty (refused_at before x) (refused_from (x ∷ before) (xs ++ ys)) e)

onto-differ : (n : ℕ) (xs before : List Site) → AllDiffer n (onto xs before) → AllDiffer n xs × AllDiffer n before
unfolding onto
onto-differ n [] before h = (tt, h)
onto-differ n (x ∷ xs) before h = let r = onto-differ n xs (x ∷ before) h in ((r.1.0, r.0), r.1.1)

-- of a name that is fixed there: it is no predefined one, and no place before or behind fixes it
abbrev IsAlone : List Site → List Site → Word → Type 0
IsAlone before more w = (is_predefined w.name.0 ≡ false) × (AllDiffer w.name.0 before × AllDiffer w.name.0 more)

words-alone : (fixed : Bool) (ws : List Word) (s : Scope) (before more : List Site) → refused_from before (names_sites fixed s ws ++ more) ≡ [] → AllByRecursion (IsAlone before more) ws
words-alone fixed [] s before more e = tt
words-alone fixed (w ∷ ws) s before more e =
    let x = site s (declares fixed w) in
    let names = names_sites fixed (record s { here = w.name.0 ∷ s.here }) ws in
    let d = no_duplicate before x (front_empty (refused_at before x) (refused_from (x ∷ before) (names ++ more)) e) in
    let rest = back_empty (refused_at before x) (refused_from (x ∷ before) (names ++ more)) e in
    let none = or_parts (is_predefined w.name.0 || is_among s.here w.name.0 || list_any (fixes w.name.0) before) (fixed && list_any (introduces w.name.0) before) (no_word _ w d) in
    let fixing = or_parts (is_predefined w.name.0 || is_among s.here w.name.0) (list_any (fixes w.name.0) before) none.0 in (
      (
        (or_parts (is_predefined w.name.0) (is_among s.here w.name.0) fixing.0).0,
        (
          all-before before w.name.0 fixing.1,
          all_back (λ (y : Site). Differs w.name.0 y.demand) names more (later (names ++ more) (x ∷ before) w.name.0 rest (or_left (w.name.0 == w.name.0) (list_any (introduces w.name.0) before) (eq-eqb w.name.0 w.name.0 refl))),
        ),
      ),
      all_weaker _ _ ws (λ v h. (h.0, (h.1.0.1, h.1.1))) (words-alone fixed ws (record s { here = w.name.0 ∷ s.here }) (x ∷ before) more rest),
    )

-- ---- along the declarations of main

-- an object of a scalar mark is scalar in the end
abbrev pub IsScalarStill : TypeTable → Scope → PDecl → Type 0
IsScalarStill T s (DObject ws true (OPlain x) i sp) = (m k : ℕ) → marking s x.mark.name ≡ ScalarMark m k → (form : Form) → form_of T (OPlain x) ≡ Some form → is_none form.index ≡ true
IsScalarStill T s _ = Unit {0}

abbrev pub AreScalarStill : TypeTable → Scope → PDecls → Type 0
AreScalarStill T s no_decl = Unit {0}
AreScalarStill T s (decl_then d rest) = IsScalarStill T s d × AreScalarStill T (after_decl s d) rest

no-scalar : (T : TypeTable) (s : Scope) (x : PSubind) → ((m k : ℕ) → marking s x.mark.name ≡ ScalarMark m k → (form : Form) → form_of T (OPlain x) ≡ Some form → is_none form.index ≡ true) →
    (form : Form) → form_of T (OPlain x) ≡ Some form → is_none form.index ≡ false → (m : Marking) → marking s x.mark.name ≡ m → IsNoScalar m
no-scalar T s x h form e q (ScalarMark m k) f = true≢false (sym (h m k f form e) ∙ q)
no-scalar T s x h form e q (ArrayMark m r p) f = tt
no-scalar T s x h form e q (TaskMark es) f = tt
no-scalar T s x h form e q NoMark f = tt
no-scalar T s x h form e q UnknownMark f = tt
no-scalar T s x h form e q UnclearMark f = tt

array-adds : (T : TypeTable) (s : Scope) (ws : List Word) (x : PShape) (i : Option PInit) (sp : Span) → IsScalarStill T s (DObject ws true x i sp) → InitMet s (declared_object s true x) i → (form : Form) → form_of T x ≡ Some form → is_none form.index ≡ false →
    NoConstant s (declared_object s true x) i
array-adds T s ws (OPlain x) i sp still h form e q = plain-adds s x i (marking s x.mark.name) refl (no-scalar T s x still form e q (marking s x.mark.name) refl) h
array-adds T s ws (OArray r x) i sp still h form e q = row-adds s r x i (marking s x.mark.name) h

array-lacks : (n : ℕ) (s : Scope) (ws : List Word) (x : PShape) (i : Option PInit) (sp : Span) → NoConstant s (declared_object s true x) i → Lacks n s.types → Lacks n (after_decl s (DObject ws true x i sp)).types
array-lacks n s ws x i sp none h = subst (Lacks n) (sym (names-types _ ws (with_types (with_constants s ws i (declared_object s true x)) s))) (by_main s.in_main)
  where
    by_main : (b : Bool) → Lacks n (if b then add_constants ws (constant_mark (declared_object s true x).thing) (constant_value s (declared_object s true x).types (constant_mark (declared_object s true x).thing) i) (declared_object s true x).types else (declared_object s true x).types)
    by_main false = declared-lacks n s true x h
    by_main true = subst (Lacks n) (sym (none ws)) (declared-lacks n s true x h)

module _ (old : ℕ → Bool) (T U : TypeTable) (before after : List (List ℕ)) (agree : AgreeOnValues old T U before after) where
  -- the words of one array constant
  array-words : (ws all : List Word) (x : PShape) (i : Option PInit) (sp : Span) (rest : PDecls) (s : Scope) (done more : List Site) → s.in_main ≡ true → NoConstant s (declared_object s true x) i →
      AllByRecursion (IsAlone done more) ws → ((n : ℕ) → AllDiffer n more → AllDiffer n (decls_sites (after_decl s (DObject all true x i sp)) rest)) →
      ((n : ℕ) → AllDiffer n done → Lacks n s.types) → T ≡ (after_decls (after_decl s (DObject all true x i sp)) rest).types → AllByRecursion (λ (w : Word). value_named T w.name ≡ None) ws
  array-words [] all x i sp rest s done more main none h f hist e = tt
  array-words (w ∷ ws) all x i sp rest s done more main none h f hist e = (
    lacks-value T w.name h.0.0
        (subst (Lacks w.name.0) (sym e)
        (decls-lack w.name.0 rest (after_decl s (DObject all true x i sp)) (decl-main 0 (DObject all true x i sp) s ∙ main) (f w.name.0 h.0.1.1) (array-lacks w.name.0 s all x i sp none (hist w.name.0 h.0.1.0)))),
    array-words ws all x i sp rest s done more main none h.1 f hist e,
  )

  joined-three : (n s i r : List Site) (t : List Site) → ((n ++ s ++ i) ++ r) ++ t ≡ n ++ (s ++ (i ++ (r ++ t)))
  joined-three n s i r t = append_assoc (n ++ s ++ i) r t ∙ append_assoc (n ++ s) i (r ++ t) ∙ append_assoc n s (i ++ (r ++ t))

  -- of one declaration
  decl-free : (d : PDecl) (rest : PDecls) (s : Scope) (done tail : List Site) → refused_from done (decls_sites s (decl_then d rest) ++ tail) ≡ [] → s.in_main ≡ true → AllByRecursion IsMet (decl_sites s d) → IsScalarStill T s d →
      ((n : ℕ) → AllDiffer n done → Lacks n s.types) → T ≡ (after_decls (after_decl s d) rest).types → ArrayFree old T U before after agree d
  decl-free (DObject ws true x i sp) rest s done tail e main m still hist q = λ form f g.
      let d = declared_object s true x in
      let fixed = s.in_main && (true || is_task_object d.thing) in
      let one = names_sites fixed s ws in
      let two = shape_sites s true x i in
      let three = if_there (init_sites s d.types (object_marking d)) i in
      let four = decls_sites (after_decl s (DObject ws true x i sp)) rest in
      let none = array-adds T s ws x i sp still (all_back IsMet (one ++ two) three m) form f g in
      array-words ws ws x i sp rest s done (two ++ (three ++ (four ++ tail))) main none
      (words-alone fixed ws s done (two ++ (three ++ (four ++ tail))) (ap (refused_from done) (sym (joined-three one two three four tail)) ∙ e))
      (λ n h. all_front (λ (y : Site). Differs n y.demand) four tail (all_back (λ (y : Site). Differs n y.demand) three (four ++ tail) (all_back (λ (y : Site). Differs n y.demand) two (three ++ (four ++ tail)) h)))
      hist q
  decl-free (DObject ws false x i sp) rest s done tail e main m still hist q = tt
  decl-free (DNumber w x sp) rest s done tail e main m still hist q = tt
  decl-free (DEnumeration w ws sp) rest s done tail e main m still hist q = tt
  decl-free (DArray w i x sp) rest s done tail e main m still hist q = tt
  decl-free (DSubtype w x sp) rest s done tail e main m still hist q = tt
  decl-free (DException ws sp) rest s done tail e main m still hist q = tt
  decl-free (DIntIo w sp) rest s done tail e main m still hist q = tt
  decl-free (DPragma x sp) rest s done tail e main m still hist q = tt
  decl-free (DTask t sp) rest s done tail e main m still hist q = tt
  decl-free (DTaskBody w ds b sp) rest s done tail e main m still hist q = tt

  decls-free : (ds : PDecls) (s : Scope) (done tail : List Site) → refused_from done (decls_sites s ds ++ tail) ≡ [] → s.in_main ≡ true → AllByRecursion IsMet (decls_sites s ds) → AreScalarStill T s ds →
      ((n : ℕ) → AllDiffer n done → Lacks n s.types) → T ≡ (after_decls s ds).types → ArraysFree old T U before after agree ds
  decls-free no_decl s done tail e main m still hist q = tt
  decls-free (decl_then d rest) s done tail e main m still hist q = (
    decl-free d rest s done tail e main (all_front IsMet (decl_sites s d) (decls_sites (after_decl s d) rest) m) still.0 hist q,
    decls-free rest (after_decl s d) (onto (decl_sites s d) done) tail
        (behind (decl_sites s d) (decls_sites (after_decl s d) rest ++ tail) done (ap (refused_from done) (sym (append_assoc (decl_sites s d) (decls_sites (after_decl s d) rest) tail)) ∙ e))
        (decl-main 0 d s ∙ main) (all_back IsMet (decl_sites s d) (decls_sites (after_decl s d) rest) m) still.1
        (λ n h. let r = onto-differ n (decl_sites s d) done h in decl-lacks n d s main r.0 (hist n r.1)) q,
  )

  -- The names of array constants of main are those of no scalar constant and of no literal.
  pub arrays-free : (p : PProgram) → T ≡ types_in p → MeetsTypeRules p → AreScalarStill T (first_scope p.name) p.decls → ArraysFree old T U before after agree p.decls
  arrays-free p e types still =
      let s = first_scope p.name in
      let first = site before_all (declares true p.name) in
      let tail = body_sites (inner_scope (after_decls s p.decls)) p.body in
      decls-free p.decls s (first ∷ []) tail (back_empty (refused_at [] first) (refused_from (first ∷ []) (decls_sites s p.decls ++ tail)) types) refl
      (all_front IsMet (decls_sites s p.decls) tail (all_met p types).1) still (λ n h. first-lacks n p.name) e

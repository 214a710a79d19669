-- Behind the variables of a unit each of them means a variable with the mark of its subtype.
use Rattle.std.proofs.Common.{◌≡◌, ℕ, zero, suc, ◌+◌, ◌<◌, ◌^◌, ℤ, Bool, true, false, ◌==◌, ◌||◌, ◌&&◌, if◌then◌else◌, List, [], ◌∷◌, length, slice_get, is_some, option_map, Option, Some, None, Ok, refl, sym, ap, ◌∙◌, subst, true≢false, arith}
use Rattle.std.proofs.lemmas.Bool.{ne_eqb}
use Rattle.std.proofs.lemmas.Option.{none-some}
use Rattle.common_lemmas.proofs.Numbers.{equal_self}
use Rattle.common_lemmas.proofs.Options.{some_same}
use Rattle.ada_tree.specs.declared.naming.NameId.{NameId}
use Rattle.ada_tree.specs.declared.naming.Span.{Span}
use Rattle.ada_tree.specs.declared.naming.Word.{Word}
use Rattle.ada_tree.specs.declared.static_types.Mark.{Mark}
use Rattle.ada_tree.specs.TypeTable.{TypeTable}
use Rattle.ada_tree.specs.PlainExpr.{PSubind, RMarked}
use Rattle.ada_tree.specs.PlainDecl.{OPlain, PDecl, decls_of}
use Rattle.ada_tree.specs.PlainProgram.{PProgram}
use Rattle.ada_static_rules.specs.Refusals.{types_in}
use Rattle.ada_static_rules.specs.Scope.{Scope, Range, Variable, meaning, mark_at, range_of_mark}
use Rattle.ada_static_rules.specs.StaticValue.{value_named, mark_named}
use Rattle.ada_static_rules.specs.Declaring.{add_constants, constant_mark, constant_value, with_constants, with_types, Declared, declared_object, made_subind, after_own_object, after_objects, after_decl, after_decls}
use Rattle.ada_value.specs.declared.values.Limits.{Limits}
use Rattle.ada_value.specs.Values.{limits_of}
use Rattle.ada_value.specs.Evaluating.{range_of}
use Rattle.task_model.specs.Setting.{Setting}
use Rattle.normal_model.specs.Names.{variable_name}
use Rattle.normal_model.specs.Ranges.{word_at}
use Rattle.normal_model.specs.Variables.{variable_declared}
use Rattle.task_laws.specs.legal.rewritten_types.Agreement.{IsScalar, Grows, Keeps}
use Rattle.task_laws.proofs.legal.rewritten_types.Keeping.{grows-self, grows-on, keeps-self}
use Rattle.task_laws.proofs.legal.rewritten_types.Adding.{keeps-subind}
use Rattle.task_laws.proofs.legal.types.TypedValues.{anybody}
use Rattle.task_laws.proofs.legal.types.StaticWorth.{keeps-agrees, named-alike}
use Rattle.task_laws.proofs.legal.types.GoodScopes.{names-kept}
use Rattle.task_laws.proofs.legal.types.LaterScopes.{valued-means}
use Rattle.task_laws.proofs.legal.types.MainScopes.{StandsWhole, last-stands}
use Rattle.normal_laws.proofs.runs.forms.Names.{names-apart}
use Rattle.normal_laws.proofs.structure.placed.Added.{AreVariablesFrom}
use Rattle.normal_laws.specs.existence.Laws.{IsLegalOriginal}
use Rattle.normal_laws.proofs.existence.seen_tasks.Scopes.{meaning-in}
use Rattle.normal_laws.specs.structure.asked.Pieces.{IsVariable}
use Rattle.normal_laws.specs.structure.typed.ScopeOf.{IsVariableOf}
use Rattle.task_laws.specs.legal.alike_scopes.Alike.{SameTypes, SameNames}
use Rattle.task_laws.proofs.legal.alike_scopes.Tables.{types-kept}
use Rattle.task_laws.proofs.legal.alike_scopes.Naming.{names-new, table-right}
use Rattle.normal_laws.proofs.legality.scopes.Base.{fewer}
use Rattle.normal_laws.proofs.legality.scopes.Names.{variable-new}
use Rattle.normal_laws.proofs.legality.scopes.Fixed.{literal-plain}
use Rattle.normal_laws.proofs.legality.scopes.Main.{g, last, rules}
use Rattle.normal_laws.proofs.legality.scopes.Subtypes.{IsDeclaredIn, declared-in}
use Rattle.normal_laws.proofs.legality.variables_marked.Subtypes.{fixed, IsKnown}

-- ---- one declaration

-- what adds no constants leaves the table
no-constants : (b : Bool) (U : TypeTable) (ws : List Word) (o : Option ℕ) (z : Option ℤ) → o ≡ None → (if b then add_constants ws o z U else U) ≡ U
no-constants true U ws None z e = refl
no-constants false U ws o z e = refl
no-constants true U ws (Some m) z e = absurd (none-some m (sym e))

-- a mark of that range
record IsMarkOf (U : TypeTable) (place : ℕ) (l : Limits) : Type 0 where
  mark : Mark
  there : mark_at U place ≡ Some mark
  limits : limits_of mark ≡ l

mark-of : (U : TypeTable) (place : ℕ) (l : Limits) → range_of_mark U place ≡ Some record { kind = l.kind; first = l.first; last = l.last } → IsMarkOf U place l
mark-of U place l e = by_mark (mark_at U place) refl e
  where
    range_of_it : Mark → Range
    range_of_it z = record { kind = z.kind; first = z.first; last = z.last }

    by_mark : (o : Option Mark) → mark_at U place ≡ o → option_map range_of_it o ≡ Some (record { kind = l.kind; first = l.first; last = l.last }) → IsMarkOf U place l
    by_mark (Some m) f h = record { mark = m; there = f; limits = ap (λ (r : Range). record { kind = r.kind; first = r.first; last = r.last }) (some_same h) }
    by_mark None f h = absurd (none-some _ h)

-- two declarations of one variable have one subtype
same-subtype : (g : Setting) (s q : Span) (x y : PSubind) (k : ℕ) → variable_declared g s x k ≡ variable_declared g q y k → y ≡ x
same-subtype g s q x y k e = cc

module _ (p : PProgram) (legal : IsLegalOriginal p) where
  abbrev T : TypeTable
  T = types_in p

  abbrev L : Scope
  L = last p legal

  abbrev G : Setting
  G = g p legal

  abbrev few : ℕ → Bool
  few = fixed p legal

  -- no variable has the name of a value
  pub no-value : (k : ℕ) → value_named T (variable_name G k) ≡ None
  no-value k = by_value (value_named T (variable_name G k)) refl
    where
      stands : StandsWhole T L
      stands = last-stands p (rules p legal) legal.placed legal.small

      by_value : (o : Option ℤ) → value_named T (variable_name G k) ≡ o → o ≡ None
      by_value None e = refl
      by_value (Some z) e =
          let x = valued-means stands.stands.root L stands.stands.over (variable_name G k) (ap is_some (valued ∙ e)) in
          absurd (true≢false (sym (literal-plain p legal (variable_name G k) x.0 x.1) ∙ variable-new G k))
        where
          valued : value_named stands.stands.root (variable_name G k) ≡ value_named T (variable_name G k)
          valued = named-alike anybody stands.stands.root T (keeps-agrees stands.stands.root T stands.stands.typed stands.whole) (variable_name G k) refl

  few-new : (k : ℕ) → few (variable_name G k).0 ≡ false
  few-new k = ap (λ b. b && (is_some (value_named T (variable_name G k)) || is_some (mark_named T (variable_name G k)))) (variable-new G k)

  -- A scope of the normal form that says of types and values what the program says, and in which the names that no inner scope hides mean the same.
  pub record IsReady (q : Scope) : Type 0 where
    pub types : SameTypes anybody T q.types
    pub same : SameNames few L q

  -- What is known of a variable behind its declaration.
  pub record IsSeenVariable (q : Scope) (id : NameId) (x : PSubind) : Type 0 where
    pub place : ℕ
    pub mark : Mark
    pub means : meaning q id ≡ Some (Variable place)
    pub there : mark_at q.types place ≡ Some mark
    pub scalar : IsScalar T mark.kind
    pub limits : range_of T [] (RMarked x) ≡ Ok (limits_of mark)

  -- so it is in each scope where its name means the same and the table has no less
  pub seen-later : (q d : Scope) (id : NameId) (x : PSubind) → meaning d id ≡ meaning q id → Grows q.types d.types → IsSeenVariable q id x → IsSeenVariable d id x
  seen-later q d id x m grows v = record { place = v.place; mark = v.mark; means = m ∙ v.means; there = grows.mark v.place v.mark v.there; scalar = v.scalar; limits = v.limits }

  -- and there it is as the statements ask
  pub variable-of : (d : Scope) (k : ℕ) (x : PSubind) → SameTypes anybody T d.types → IsSeenVariable d (variable_name G k) x → IsVariableOf T d (variable_name G k) x
  variable-of d k x types v = record {
    place = v.place;
    mark = v.mark;
    means = v.means;
    there = v.there;
    scalar = (v.scalar.0, types.kinds v.mark.kind v.scalar.0 v.scalar.1);
    limits = v.limits;
    changes = sym (types.values (variable_name G k) refl) ∙ no-value k;
  }

  -- the scope behind the declaration of a variable, with what is known of it there
  pub record IsBehind (q : Scope) (s : Span) (x : PSubind) (k : ℕ) : Type 0 where
    pub ready : IsReady (after_decl q (variable_declared G s x k))
    pub grows : Grows q.types (after_decl q (variable_declared G s x k)).types
    pub seen : IsSeenVariable (after_decl q (variable_declared G s x k)) (variable_name G k) x

  pub variable-behind : (q : Scope) → IsReady q → (s : Span) (x : PSubind) (k : ℕ) → IsKnown p legal x → IsBehind q s x k
  variable-behind q r s x k h = record {
    ready = record {
      types = types-kept anybody T q.types T U r.types (keeps-self T) keeps;
      same = names-new few ws L (with_types U q) d.thing (table-right few L q U r.same (fewer few q.types U keeps)) (few-new k, tt);
    };
    grows = keeps.grows;
    seen = record {
      place = i.place;
      mark = m.mark;
      means = meaning-in d.thing ws (with_types U q) (variable_name G k) (ap (λ b. b || false) (equal_self (variable_name G k).0)) ∙ ap (λ t. Some t) i.thing;
      there = m.there;
      scalar = subst (λ (l : Limits). IsScalar T l.kind) (sym m.limits) h.scalar;
      limits = h.range ∙ ap (λ l. Ok l) (sym m.limits);
    };
  }
    where
      ws : List Word
      ws = word_at s (variable_name G k) ∷ []

      d : Declared
      d = declared_object q false (OPlain x)

      U : TypeTable
      U = with_constants q ws None d

      i : IsDeclaredIn p legal few q x h.limits
      i = declared-in p legal few q r.same x h

      is : U ≡ (made_subind q x).types
      is = no-constants q.in_main d.types ws (constant_mark d.thing) (constant_value q d.types (constant_mark d.thing) None) (ap constant_mark i.thing) ∙ i.types

      keeps : Keeps anybody q.types U
      keeps = subst (Keeps anybody q.types) (sym is) (keeps-subind {old = anybody} q x)

      m : IsMarkOf U i.place h.limits
      m = mark-of U i.place h.limits (ap (λ V. range_of_mark V i.place) is ∙ i.known)

  -- ---- all variables

  abbrev pub AreKnown : ℕ → List PDecl → Type 0
  AreKnown j ds = AreVariablesFrom G (IsKnown p legal) j ds

  -- behind variables the scope is ready too, and the table has no less
  pub list-ready : (ds : List PDecl) (j : ℕ) → AreKnown j ds → (q : Scope) → IsReady q → IsReady (after_decls q (decls_of ds)) × Grows q.types (after_decls q (decls_of ds)).types
  list-ready [] j h q r = (r, grows-self q.types)
  list-ready (d ∷ ds) j h q r =
      let v = h.0 in
      let one = variable-behind q r v.place v.subtype j v.fits in
      let rest = list-ready ds (j + 1) h.1 (after_decl q (variable_declared G v.place v.subtype j)) one.ready in
      subst (λ (e : PDecl). IsReady (after_decls (after_decl q e) (decls_of ds)) × Grows q.types (after_decls (after_decl q e) (decls_of ds)).types) (sym v.is) (rest.0, grows-on one.grows rest.1)

  -- variables with greater numbers leave what a variable's name means
  later-stays : (ds : List PDecl) (j k : ℕ) → k < j → j + length ds < 2 ^ 64 → AreKnown j ds → (q : Scope) → meaning (after_decls q (decls_of ds)) (variable_name G k) ≡ meaning q (variable_name G k)
  later-stays [] j k l b h q = refl
  later-stays (d ∷ ds) j k l b h q =
      let v = h.0 in
      let c : j + suc (length ds) < 2 ^ 64 = b in
      let e : PDecl = variable_declared G v.place v.subtype j in
      let apart : ((variable_name G j).0 == (variable_name G k).0) ≡ false = names-apart G j k (omega (arith, c)) (omega (arith, c, l)) (ne_eqb j k (λ s. omega (arith, s, l))) in
      let one : meaning (after_decl q e) (variable_name G k) ≡ meaning q (variable_name G k) = names-kept _ (word_at v.place (variable_name G j) ∷ []) q (variable_name G k) (apart, tt) in
      subst (λ (z : PDecl). meaning (after_decls (after_decl q z) (decls_of ds)) (variable_name G k) ≡ meaning q (variable_name G k)) (sym v.is)
      (later-stays ds (j + 1) k (omega (arith, l)) (omega (arith, c)) h.1 (after_decl q e) ∙ one)

  -- Each variable is seen behind all of them.
  seen-all : (ds : List PDecl) (j : ℕ) → j + length ds < 2 ^ 64 → AreKnown j ds → (q : Scope) → IsReady q → (i n : ℕ) → n ≡ j + i → (s : Span) (x : PSubind) → slice_get ds i ≡ Some (variable_declared G s x n) →
      IsSeenVariable (after_decls q (decls_of ds)) (variable_name G n) x
  seen-all [] j b h q r i n m s x e = absurd (none-some _ e)
  seen-all (d ∷ ds) j b h q r zero n m s x e =
      let v = h.0 in
      let c : j + suc (length ds) < 2 ^ 64 = b in
      let nj : n ≡ j = omega (arith, m) in
      let d' : PDecl = variable_declared G v.place v.subtype j in
      let q' : Scope = after_decl q d' in
      let one = variable-behind q r v.place v.subtype j v.fits in
      let same : v.subtype ≡ x = same-subtype G s v.place x v.subtype j (subst (λ k. variable_declared G s x k ≡ d') nj (sym (some_same e) ∙ v.is)) in
      let rest = list-ready ds (j + 1) h.1 q' one.ready in
      let stays = later-stays ds (j + 1) j (omega arith) (omega (arith, c)) h.1 q' in
      let seen : IsSeenVariable (after_decls q' (decls_of ds)) (variable_name G j) v.subtype = seen-later q' (after_decls q' (decls_of ds)) (variable_name G j) v.subtype stays rest.1 one.seen in
      let ofx : IsSeenVariable (after_decls q' (decls_of ds)) (variable_name G j) x = subst (λ y. IsSeenVariable (after_decls q' (decls_of ds)) (variable_name G j) y) same seen in
      subst (λ (z : PDecl). IsSeenVariable (after_decls (after_decl q z) (decls_of ds)) (variable_name G n) x) (sym v.is) (subst (λ k. IsSeenVariable (after_decls q' (decls_of ds)) (variable_name G k) x) (sym nj) ofx)
  seen-all (d ∷ ds) j b h q r (suc i) n m s x e =
      let v = h.0 in
      let c : j + suc (length ds) < 2 ^ 64 = b in
      let d' : PDecl = variable_declared G v.place v.subtype j in
      let one = variable-behind q r v.place v.subtype j v.fits in
      subst (λ (z : PDecl). IsSeenVariable (after_decls (after_decl q z) (decls_of ds)) (variable_name G n) x) (sym v.is)
      (seen-all ds (j + 1) (omega (arith, c)) h.1 (after_decl q d') one.ready i n (omega (arith, m)) s x e)

  pub variables-seen : (vars : List PDecl) → length vars < 2 ^ 64 → AreKnown 0 vars → (q : Scope) → IsReady q → (s : Span) (x : PSubind) (k : ℕ) → IsVariable G vars s x k → IsSeenVariable (after_decls q (decls_of vars)) (variable_name G k) x
  variables-seen vars b h q r s x k e = seen-all vars 0 (omega (arith, b)) h q r k k (omega arith) s x e

  -- behind the objects of a body variables are declared as in main
  pub objects-are-decls : (ds : List PDecl) (j : ℕ) → AreKnown j ds → (q : Scope) → after_objects q (decls_of ds) ≡ after_decls q (decls_of ds)
  objects-are-decls [] j h q = refl
  objects-are-decls (d ∷ ds) j h q =
      let v = h.0 in
      subst (λ (e : PDecl). after_objects (after_own_object q e) (decls_of ds) ≡ after_decls (after_decl q e) (decls_of ds)) (sym v.is) (objects-are-decls ds (j + 1) h.1 (after_decl q (variable_declared G v.place v.subtype j)))

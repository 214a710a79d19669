-- The variables that the normal form of a legal program adds to main meet the static rules 1 and 3 to 12: each is of a static subtype.
use Rattle.std.proofs.Common.{◌≡◌, ℕ, ◌<◌, Bool, true, false, not, ◌&&◌, ◌||◌, ◌==◌, ℤ, if◌then◌else◌, List, [], ◌∷◌, ◌++◌, find, IfSome, Option, Some, None, refl, sym, ap, ◌∙◌, subst, true≢false, arith}
use Rattle.std.specs.List.{AllByRecursion}
use Rattle.std.proofs.lemmas.List.Elements.{recursion_from_All}
use Rattle.common_lemmas.proofs.Lists.{all_joined}
use Rattle.common_lemmas.proofs.Numbers.{equal_is, lt_true}
use Rattle.common_lemmas.proofs.Options.{some_same, not_missing}
use Rattle.ada_tree.specs.declared.naming.NameId.{NameId}
use Rattle.ada_tree.specs.declared.naming.Span.{Span}
use Rattle.ada_tree.specs.declared.naming.Word.{Word}
use Rattle.ada_tree.specs.declared.static_types.Kind.{Kind}
use Rattle.ada_tree.specs.declared.static_types.Kind.TheVariants.{Integer, Truth}
use Rattle.ada_tree.specs.declared.static_types.Mark.{Mark}
use Rattle.ada_tree.specs.TypeTable.{TypeTable}
use Rattle.ada_tree.specs.PlainExpr.{PBounds, PSubind, PDrange, RGiven, RMarked}
use Rattle.ada_tree.specs.PlainStmt.{PFormal}
use Rattle.ada_tree.specs.PlainDecl.{OPlain, PEntry, PTask, PDecl, decls_of}
use Rattle.ada_tree.specs.PlainProgram.{PProgram}
use Rattle.ada_tree.specs.Every.{EveryDrange, EveryFormal, EveryEntry, EveryTask, EveryDecls}
use Rattle.ada_tree.specs.WellPlaced.{well_placed}
use Rattle.ada_static_rules.specs.ExprTypes.{range_between, static_in}
use Rattle.ada_static_rules.specs.Scope.{Scope, Range, TypeMark, MainProcedure, ScalarMark, marking_of, marking_of_mark, marking_of_kind, meaning, mark_at, kind_at, and_then}
use Rattle.ada_static_rules.specs.RuleDuplicate.{is_predefined}
use Rattle.ada_static_rules.specs.RuleMismatch.{is_allowed}
use Rattle.ada_static_rules.specs.Demand.{MarkUse, scalar_only, or_array, or_task, or_array_or_task, Site}
use Rattle.ada_static_rules.specs.Sites.{names_sites, is_task_object, object_marks, may_be_task, subind_sites, object_sites, decl_sites, decls_sites}
use Rattle.ada_static_rules.specs.Declaring.{predefined_types, before_all, first_scope, given_range, declared_object, after_decl}
use Rattle.ada_static_rules.specs.Refusals.{types_in}
use Rattle.syn_event.specs.declared.numbering.EntryInfo.{EntryInfo}
use Rattle.syn_event.specs.Numbering.{entry_at}
use Rattle.syn_event.specs.NamedTasks.{NamedTasks, task_names_of}
use Rattle.syn_event.specs.DeclaredTasks.{tasks_of}
use Rattle.task_model.specs.Setting.{Setting, formals_of_info}
use Rattle.task_model.specs.Starting.{known_range}
use Rattle.normal_model.specs.Names.{variable_name}
use Rattle.normal_model.specs.Ranges.{word_at, marked, kind_of_range, kind_name, range_subtype, integer_subtype, truth_subtype, subtype_of_range, array_range, range_of_info, family_range}
use Rattle.normal_model.specs.Variables.{variable_declared}
use Rattle.normal_model.specs.NormalTree.{main_variables}
use Rattle.task_laws.specs.legal.rewritten_types.Agreement.{IsScalar, Grows}
use Rattle.task_laws.specs.legal.rewritten_types.Rewriting.{is_no_task}
use Rattle.task_laws.proofs.legal.rewritten_types.Fresh.{first-here}
use Rattle.task_laws.proofs.legal.rewritten_types.Lookups.{find-all}
use Rattle.task_laws.specs.legal.types.Typed.{IsTypedTask, IsFirstTask}
use Rattle.task_laws.proofs.legal.types.ExprKinds.{IsScalarMark}
use Rattle.task_laws.proofs.legal.types.StaticParts.{AreBounds, HasSubtype, HasRange}
use Rattle.task_laws.proofs.legal.types.GoodScopes.{names-kept}
use Rattle.task_laws.proofs.legal.types.MainScopes.{StandsWhole, last-stands, grows-decls}
use Rattle.task_laws.proofs.legal.types.TaskTypes.{IsRangeHere, limits-here, part-units, tasks-have-types}
use Rattle.normal_laws.proofs.existence.variable_types.Numbers.{EntryRule, IsRuled, IsEntryOf, entry-of, formals-are, range-is}
use Rattle.normal_laws.proofs.existence.variable_types.Subtypes.{tasks-every}
use Rattle.normal_laws.specs.structure.checked.Around.{own_rules}
use Rattle.normal_laws.specs.existence.Laws.{IsLegalOriginal}
use Rattle.task_laws.specs.legal.alike_scopes.Alike.{Alike}
use Rattle.task_laws.specs.legal.alike_scopes.Old.{IsOldSubind, allows_task}
use Rattle.task_laws.specs.legal.alike_scopes.Laws.{IsMetBut}
use Rattle.normal_laws.proofs.structure.typed.Variables.{AllMetBut, words-met}
use Rattle.normal_laws.proofs.structure.typed.Stays.{old-bounds, old-subind, subind-stays}
use Rattle.normal_laws.proofs.structure.typed.StaticMet.{NoneIsOut, subind-is-met}
use Rattle.normal_laws.specs.legality.scopes.Plain.{plain_name}
use Rattle.normal_laws.proofs.legality.scopes.Later.{decls-kept}
use Rattle.normal_laws.proofs.legality.scopes.Names.{variable-new}
use Rattle.normal_laws.proofs.legality.scopes.Plain.{predefined-plain}
use Rattle.normal_laws.proofs.legality.scopes.Fixed.{literal-plain}
use Rattle.normal_laws.proofs.legality.scopes.Formed.{IsFormed, formed-variable}
use Rattle.normal_laws.proofs.legality.scopes.Main.{g, last, first, once, stand, rules, first-formed}
use Rattle.normal_laws.proofs.legality.typed_declarations.Outs.{none-out}
use Rattle.normal_laws.proofs.legality.typed_declarations.Known.{IsEntryKnown, IsTaskKnown, tasks-known}
use Rattle.normal_laws.proofs.legality.typed_declarations.Rows.{IsGoodRange, rows-known}
use Rattle.normal_laws.proofs.legality.typed_declarations.Meant.{IsKindName, kind-named}
use Rattle.normal_laws.proofs.legality.typed_declarations.Subtypes.{AreSubtypes, all-variables}
use Rattle.normal_laws.proofs.legality.typed_declarations.Tasks.{all-both, main-like}
use Rattle.common_lemmas.proofs.Truth.{or_true}

-- ---- a static subtype as the mark of an object

-- a scalar type may stand anywhere
module _ (S : Scope) (free : NoneIsOut S) where
  pub any-subtype-met : (allowed : MarkUse) (x : PSubind) → HasSubtype S x → AllMetBut (subind_sites true allowed S x)
  any-subtype-met allowed x h =
      let m : AllMetBut (subind_sites true scalar_only S x) = subind-is-met S free x h in (
        record {
          known = m.0.known;
          matched = ap (λ y. if is_allowed allowed y then [] else x.mark.span ∷ []) h.mark.marks ∙ allowed-there allowed h.mark.place h.mark.leads.mark.kind x.mark.span;
          static = refl;
          ranged = refl;
          variable = refl;
          readable = refl;
          counted = refl;
          chosen = refl;
          arrays = refl;
          texts = refl;
          exceptions = refl;
        },
        m.1,
      )
    where
      allowed-there : (marks : MarkUse) (i j : ℕ) (sp : Span) → (if is_allowed marks (ScalarMark i j) then [] else sp ∷ []) ≡ []
      allowed-there scalar_only i j sp = refl
      allowed-there or_array i j sp = refl
      allowed-there or_task i j sp = refl
      allowed-there or_array_or_task i j sp = refl

-- A variable of a static subtype of old names meets the rules in a scope that is alike.
module _ (own : ℕ → Bool) (c t : Scope) (alike : Alike own c t) (free : NoneIsOut c) where
  but : (s : Site) → IsMetBut s → IsMetBut s
  but s m = m

  pub variable-met : (w : Word) (x : PSubind) → HasSubtype c x → IsOldSubind own x → AllMetBut (object_sites t (w ∷ []) false (OPlain x) None (declared_object t false (OPlain x)))
  variable-met w x h o =
      let ws : List Word = w ∷ [] in
      let names = names_sites (t.in_main && (false || is_task_object (declared_object t false (OPlain x)).thing)) t ws in
      let allowed = object_marks (may_be_task t false x.bounds None) x.bounds in
      all_joined IsMetBut (names ++ subind_sites true allowed t x) []
      (all_joined IsMetBut names (subind_sites true allowed t x) (words-met _ ws t)
      (subind-stays IsMetBut but own c t alike.names true allowed x o (ap (λ m. not (allows_task allowed) || is_no_task m) h.mark.marks ∙ or_true (not (allows_task allowed)))
      (any-subtype-met c free allowed x h))) tt

-- ---- a legal program

module _ (p : PProgram) (legal : IsLegalOriginal p) (olds : EveryDecls (own_rules (plain_name p)) p.decls) where
  abbrev G : Setting
  G = g p legal

  abbrev L : Scope
  L = last p legal

  abbrev T : TypeTable
  T = types_in p

  abbrev own : ℕ → Bool
  own = plain_name p

  -- The subtype is static behind all declarations, and its names are plain.
  abbrev pub IsGoodSubtype : PSubind → Type 0
  IsGoodSubtype x = HasSubtype L x × IsOldSubind own x

  stands : StandsWhole T L
  stands = last-stands p (rules p legal) legal.placed legal.small

  -- ---- names of the language

  language-mark : (k : ℕ) (m : ℕ) (x : Mark) (y : Kind) → k < 18 → meaning before_all (record { 0 = k }) ≡ Some (TypeMark m) → mark_at predefined_types m ≡ Some x → kind_at predefined_types x.kind ≡ Some y →
      ((T : TypeTable) → marking_of_kind m x.kind (Some y) ≡ ScalarMark m x.kind) → IsScalarMark L (record { 0 = k })
  language-mark k m x y l e f h q =
      let grows : Grows predefined_types L.types = grows-decls p.decls (first_scope p.name) in
      let means : meaning L (record { 0 = k }) ≡ Some (TypeMark m) = decls-kept p.decls (first_scope p.name) (first-here p.name) (once p legal).1 (record { 0 = k }) (TypeMark m) (names-kept MainProcedure (p.name ∷ []) before_all (record { 0 = k }) (apart, tt) ∙ e) in
      record {
        place = m;
        leads = record { mark = x; there = grows.mark m x f; kind = y; known = grows.kind x.kind y h };
        means = means;
        marks = ap (marking_of L.types) means ∙ ap (marking_of_mark L.types m) (grows.mark m x f) ∙ ap (marking_of_kind m x.kind) (grows.kind x.kind y h) ∙ q T;
      }
    where
      by_test : (b : Bool) → (p.name.name.0 == k) ≡ b → b ≡ false
      by_test false f = refl
      by_test true f = absurd (true≢false (sym (lt_true k 18 l) ∙ ap is_predefined (sym (equal_is p.name.name.0 k f)) ∙ (once p legal).0.0))

      apart : (p.name.name.0 == k) ≡ false
      apart = by_test (p.name.name.0 == k) refl

  integer-good : (s : Span) → IsGoodSubtype (integer_subtype s)
  integer-good s = (record { mark = language-mark 0 0 _ Integer (omega arith) refl refl refl (λ T. refl); bounds = tt }, (predefined-plain p legal.names 0 (omega arith), tt))

  truth-good : (s : Span) → IsGoodSubtype (truth_subtype s)
  truth-good s = (record { mark = language-mark 3 3 _ Truth (omega arith) refl refl refl (λ T. refl); bounds = tt }, (predefined-plain p legal.names 3 (omega arith), tt))

  -- ---- ranges

  -- the kind of a range between two bounds is theirs
  between-kind : (k : ℕ) (o q : Option ℤ) (r : Range) → range_between k o q ≡ Some r → k ≡ r.kind
  between-kind k (Some a) (Some c) r e = ap (λ (y : Range). y.kind) (some_same e)
  between-kind k (Some a) None r e = absurd (not_missing r e)
  between-kind k None q r e = absurd (not_missing r e)

  given-kind : (b : PBounds) (h : HasRange L (RGiven b)) → (x : IsRangeHere T L (RGiven b)) → x.limits.limits.kind ≡ h.kind
  given-kind b h x = sym (between-kind h.kind (static_in L h.kind b.first) (static_in L h.kind b.last) _ (sym (ap (λ o. given_range L o b) h.first.kind) ∙ x.known))

  given-good : (s : Span) (b : PBounds) → EveryDrange (well_placed p.names) 2 (RGiven b) → EveryDrange (own_rules own) 2 (RGiven b) → HasRange L (RGiven b) → IsGoodSubtype (range_subtype T s (RGiven b))
  given-good s b every asked h =
      (record { mark = n.mark; bounds = subst (λ k. AreBounds L k b) (sym (n.kind ∙ same)) (h.first, h.last, h.order) }, (literal-plain p legal (kind_name T k) (TypeMark n.mark.place) n.mark.means, old-bounds own 2 b asked))
    where
      x : IsRangeHere T L (RGiven b)
      x = limits-here T L stands.stands p.names (RGiven b) every h

      k : ℕ
      k = kind_of_range T (RGiven b)

      is : k ≡ x.limits.limits.kind
      is = ap (λ q. (known_range q).kind) x.limits.range

      same : k ≡ h.kind
      same = is ∙ given-kind b h x

      n : IsKindName L (kind_name T k) k
      n = kind-named T p.name p.decls (once p legal).0.0 (once p legal).1 (stand p legal) k (subst (IsScalar T) (sym is) x.limits.scalar)

  range-good : (s : Span) (r : PDrange) → EveryDrange (well_placed p.names) 2 r → EveryDrange (own_rules own) 2 r → HasRange L r → IsGoodSubtype (range_subtype T s r)
  range-good s (RMarked x) every asked h = (h, old-subind own 2 x asked)
  range-good s (RGiven b) every asked h = given-good s b every asked h

  -- ---- what is declared

  -- the range is so in all these ways
  record IsGood (r : PDrange) : Type 0 where
    has : HasRange L r
    placed : EveryDrange (well_placed p.names) 2 r
    plain : EveryDrange (own_rules own) 2 r

  subtype-good : (s : Span) (o : Option PDrange) → IfSome o IsGood → IsGoodSubtype (subtype_of_range T s o)
  subtype-good s None h = integer-good s
  subtype-good s (Some r) h = range-good s r h.placed h.plain h.has

  -- arrays of tasks
  row-good : (o : Option PDrange) → IfSome o (IsGoodRange L (well_placed p.names)) → IfSome o (IsGoodRange L (own_rules own)) → IfSome o IsGood
  row-good None h k = tt
  row-good (Some r) h k = record { has = h.has; placed = h.asked; plain = k.asked }

  abbrev Placed : NamedTasks → Type 0
  Placed x = IfSome x.index_range (IsGoodRange L (well_placed p.names))

  abbrev Owned : NamedTasks → Type 0
  Owned x = IfSome x.index_range (IsGoodRange L (own_rules own))

  array-good : (s : Span) (id : NameId) → IsGoodSubtype (subtype_of_range T s (array_range p id))
  array-good s id = subtype-good s (array_range p id) (by_part (find (λ (x : NamedTasks). x.name.name.0 == id.0) (task_names_of p)) refl)
    where
      all : AllByRecursion (λ (x : NamedTasks). Placed x × Owned x) (task_names_of p)
      all =
          all-both Placed Owned (task_names_of p) (rows-known p.names (well_placed p.names) p.decls [] (first_scope p.name) (stand p legal) legal.placed.2 legal.placed.2 (first-here p.name) (once p legal).1)
          (rows-known p.names (own_rules own) p.decls [] (first_scope p.name) (stand p legal) legal.placed.2 olds (first-here p.name) (once p legal).1)

      by_part : (o : Option NamedTasks) → find (λ (x : NamedTasks). x.name.name.0 == id.0) (task_names_of p) ≡ o → IfSome (and_then (λ (x : NamedTasks). x.index_range) o) IsGood
      by_part None e = tt
      by_part (Some x) e =
          let h = find-all (λ (y : NamedTasks). Placed y × Owned y) (λ (y : NamedTasks). y.name.name.0 == id.0) (task_names_of p) x all e in
          row-good x.index_range h.0 h.1

  -- entries
  record IsEntryGood (e : PEntry) : Type 0 where
    known : IsEntryKnown L e
    placed : EveryEntry (well_placed p.names) e
    plain : EveryEntry (own_rules own) e

  abbrev Rule : EntryRule
  Rule t e = IsEntryGood e

  entries-good : (es : List PEntry) → AllByRecursion (IsEntryKnown L) es → AllByRecursion (EveryEntry (well_placed p.names)) es → AllByRecursion (EveryEntry (own_rules own)) es → AllByRecursion IsEntryGood es
  entries-good [] h k o = tt
  entries-good (e ∷ es) h k o = (record { known = h.0; placed = k.0; plain = o.0 }, entries-good es h.1 k.1 o.1)

  tasks-good : (ts : List PTask) → AllByRecursion (IsFirstTask (tasks_of p)) ts → AllByRecursion (IsTypedTask T) ts → AllByRecursion (IsTaskKnown L) ts → AllByRecursion (EveryTask (well_placed p.names)) ts → AllByRecursion (EveryTask (own_rules own)) ts →
      AllByRecursion (IsRuled p Rule) ts
  tasks-good [] f t h k o = tt
  tasks-good (u ∷ ts) f t h k o = (
    record { first = f.0; entries = entries-good u.entries h.0.entries (recursion_from_All _ u.entries k.0.1) (recursion_from_All _ u.entries o.0.1); found = t.0.found },
    tasks-good ts f.1 t.1 h.1 k.1 o.1,
  )

  parts-good : AllByRecursion (λ (x : NamedTasks). IsRuled p Rule x.unit) (task_names_of p)
  parts-good =
      let t = tasks-have-types p (rules p legal) legal.placed legal.small in
      part-units (IsRuled p Rule) p.decls [] tt
      (tasks-good (tasks_of p) t.found t.tasks (tasks-known p.names p.decls (first_scope p.name) (stand p legal) legal.placed.2 (first-here p.name) (once p legal).1) (tasks-every (well_placed p.names) p.decls legal.placed.2)
      (tasks-every (own_rules own) p.decls olds))

  entry-known : (e : ℕ) (info : EntryInfo) → entry_at G.numbers e ≡ Some info → IsEntryOf p Rule G.numbers.tasks info
  entry-known e info f = entry-of p Rule parts-good e info f

  family-good : (o : Option PDrange) → IfSome o (HasRange L) → IfSome o (EveryDrange (well_placed p.names) 2) → IfSome o (EveryDrange (own_rules own) 2) → IfSome o IsGood
  family-good None h k q = tt
  family-good (Some r) h k q = record { has = h; placed = k; plain = q }

  entry-range : (o : Option EntryInfo) (e : ℕ) → entry_at G.numbers e ≡ o → IfSome (range_of_info G o) IsGood
  entry-range None e f = tt
  entry-range (Some info) e f =
      let h = entry-known e info f in
      subst (λ o. IfSome o IsGood) (sym (range-is p Rule info h)) (family-good h.entry.family h.has.known.family h.has.placed.2 h.has.plain.2)

  abbrev IsFormalGood : PFormal → Type 0
  IsFormalGood f = IsGoodSubtype (marked f.mark)

  formals-good : (fs : List PFormal) → AllByRecursion (λ (f : PFormal). IsScalarMark L f.mark.name) fs → AllByRecursion (EveryFormal (own_rules own)) fs → AllByRecursion IsFormalGood fs
  formals-good [] h k = tt
  formals-good (f ∷ fs) h k = ((record { mark = h.0; bounds = tt }, (k.0.1, tt)), formals-good fs h.1 k.1)

  entry-formals : (o : Option EntryInfo) (e : ℕ) → entry_at G.numbers e ≡ o → AllByRecursion IsFormalGood (formals_of_info G o)
  entry-formals None e f = tt
  entry-formals (Some info) e f =
      let h = entry-known e info f in
      subst (AllByRecursion IsFormalGood) (sym (formals-are p Rule info h)) (formals-good h.entry.formals h.has.known.formals (recursion_from_All _ h.entry.formals h.has.plain.3))

  -- The subtypes of all variables that the normal form adds are so.
  pub subtypes-good : AreSubtypes G IsGoodSubtype
  subtypes-good = record {
    array = array-good;
    family = λ s e. subtype-good s (family_range G e) (entry-range (entry_at G.numbers e) e refl);
    formals = λ e. entry-formals (entry_at G.numbers e) e refl;
    integer = integer-good;
    truth = truth-good;
  }

  -- ---- variables of main

  abbrev Formed : Scope → Type 0
  Formed = IsFormed own G L (first p legal) (task_names_of p)

  one-met : (s : Span) (x : PSubind) (k : ℕ) → IsGoodSubtype x → (t : Scope) → Formed t → AllMetBut (decl_sites t (variable_declared G s x k))
  one-met s x k h t f = variable-met own L t (main-like p legal olds t f) (none-out p.name p.decls) (word_at s (variable_name G k)) x h.0 h.1

  -- a variable meets the rules, and leaves such a scope
  abbrev IsVariableMet : PDecl → Type 0
  IsVariableMet d = (t : Scope) → Formed t → AllMetBut (decl_sites t d) × Formed (after_decl t d)

  list-met : (ds : List PDecl) → AllByRecursion IsVariableMet ds → (t : Scope) → Formed t → AllMetBut (decls_sites t (decls_of ds))
  list-met [] h t f = tt
  list-met (d ∷ ds) h t f = let x = h.0 t f in all_joined IsMetBut (decl_sites t d) (decls_sites (after_decl t d) (decls_of ds)) x.0 (list-met ds h.1 (after_decl t d) x.1)

  -- The variables of main meet the rules behind the first declarations.
  pub variables-met : AllMetBut (decls_sites (first p legal) (decls_of (main_variables G)))
  variables-met =
      list-met (main_variables G)
      (all-variables G IsGoodSubtype subtypes-good IsVariableMet
      (λ s x k h t f. (one-met s x k h t f, formed-variable own G L (first p legal) (task_names_of p) (variable-new G) s x k t f)) 0 p.body) (first p legal) (first-formed p legal)

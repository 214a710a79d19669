-- Each name in a legal original is plain.
use Rattle.std.proofs.Common.{◌≡◌, ℕ, ◌<◌, Bool, true, false, not, ◌&&◌, ◌||◌, ◌==◌, nat_lt, List, [], ◌∷◌, length, unwrap_or, Option, Some, refl, sym, ap, ◌∙◌, true≢false}
use Rattle.std.specs.List.{AllByRecursion}
use Rattle.std.proofs.lemmas.List.Elements.{recursion_from_All}
use Rattle.std.proofs.lemmas.Option.{slice_get_within}
use Rattle.common_lemmas.proofs.Numbers.{lt_true, lt_is, equal_is}
use Rattle.common_lemmas.proofs.Lists.{element_at}
use Rattle.common_lemmas.proofs.Truth.{and_left}
use Rattle.ada_tree.specs.declared.naming.NameId.{NameId}
use Rattle.ada_tree.specs.NameList.{predefined, AreNames}
use Rattle.ada_tree.specs.declared.naming.Word.{Word}
use Rattle.ada_tree.specs.PlainDecl.{PDecl, DNumber, DObject, DEnumeration, DArray, DSubtype, DException, DIntIo, DPragma, DTask, DTaskBody, PDecls, no_decl, decl_then}
use Rattle.ada_tree.specs.PlainProgram.{PProgram}
use Rattle.ada_static_rules.specs.Scope.{Scope, Thing, meaning}
use Rattle.ada_static_rules.specs.Declaring.{first_scope, with_name, with_names, after_decl, after_decls}
use Rattle.ada_static_rules.specs.RuleDuplicate.{is_predefined, is_among}
use Rattle.task_laws.proofs.legal.rewritten_types.Fresh.{InHere, first-here, here-decl, meaning-used}
use Rattle.ada_tree.specs.Every.{Rules, no_rules, EveryDecl, EveryDecls, EveryProgram}
use Rattle.ada_tree.specs.WellPlaced.{IsWellPlaced}
use Rattle.ada_static_rules.specs.Sites.{sites}
use Rattle.ada_static_rules.specs.Refusals.{MeetsTypeRules}
use Rattle.syn_event.specs.declared.numbering.Mode.TheVariants.{Original}
use Rattle.syn_event.specs.CheckRefusals.{MeetsCheckRules}
use Rattle.syn_event.specs.DeclaredTasks.{text_of}
use Rattle.syn_event.specs.RuleReservedName.{is_reserved}
use Rattle.task_laws.proofs.legal.rewritten_types.Lookups.{place-all}
use Rattle.task_laws.specs.legal.rewritten_values.Values.{old_names}
use Rattle.normal_laws.specs.structure.types.Own.{own_name}
use Rattle.task_laws.specs.legal.sites.Met.{IsAddressed}
use Rattle.task_laws.proofs.legal.sites.NamedDecls.{all_are_named}
use Rattle.normal_laws.proofs.existence.units.Own.{names-together, program-own, first-text}
use Rattle.normal_laws.specs.legality.scopes.Plain.{plain_name}

-- the text is left to no rewriter
abbrev IsFree : List ℕ → Type 0
IsFree t = not (is_reserved t) ≡ true

predefined-free : AllByRecursion IsFree predefined
predefined-free =
    (refl, (refl, (refl, (refl, (refl, (refl, (refl, (refl, (refl, (refl, (refl, (refl, (refl, (refl, (refl, (refl, (refl, (refl, (refl, (refl, (refl, (refl, (refl, (refl, (refl, tt)))))))))))))))))))))))))

first-free : (p : PProgram) → AreNames p.names → (k : ℕ) → k < 25 → not (is_reserved (text_of p.names record { 0 = k })) ≡ true
first-free p are k l =
    let t = element_at predefined k l in
    ap (λ (o : Option (List ℕ)). not (is_reserved (unwrap_or o []))) (first-text p.names k are l ∙ t.1)
    ∙ place-all IsFree predefined k t.0 predefined-free t.1

free-plain : (p : PProgram) (id : NameId) → is_reserved (text_of p.names id) ≡ false → not (is_reserved (text_of p.names id)) ≡ true
free-plain p id e = ap not e

abbrev Unreserved : PProgram → Rules
Unreserved p = record no_rules { name = λ id. not (is_reserved (text_of p.names record { 0 = id.0 })) ≡ true }

-- Each name in such a program is plain.
pub program-plain : (p : PProgram) → MeetsTypeRules p → MeetsCheckRules p Original → IsWellPlaced p → AreNames p.names → AllByRecursion (λ x. IsAddressed x.scope x.demand) (sites p) → EveryProgram (old_names (plain_name p)) p
program-plain p types checks placed are clear =
    names-together (Unreserved p).name (old_names (own_name p)) (plain_name p)
    (λ id e h. ap (λ (b : Bool). b && not (is_reserved (text_of p.names record { 0 = id.0 }))) (and_left (nat_lt id.0 (length p.names)) _ h) ∙ e)
    p
    (all_are_named p types checks placed clear (λ n. not (is_reserved (text_of p.names record { 0 = n }))) (first-free p are) (free-plain p))
    (program-own p types checks placed are clear)

-- the names of the language and its attributes are plain
pub predefined-plain : (p : PProgram) → AreNames p.names → (k : ℕ) → k < 25 → plain_name p k ≡ true
predefined-plain p are k l =
    let t = element_at predefined k l in
    ap (λ (b : Bool). b && not (is_reserved (text_of p.names record { 0 = k }))) (lt_true k (length p.names) (slice_get_within p.names k t.0 (first-text p.names k are l ∙ t.1))) ∙ first-free p are k l

-- ---- names that mean something behind declarations

module _ (old : ℕ → Bool) (first : (k : ℕ) → k < 18 → old k ≡ true) where
  -- the names of the scope are old
  abbrev AreOldHere : Scope → Type 0
  AreOldHere s = AllByRecursion (λ n. old n ≡ true) s.here

  names-here : (th : Thing) (ws : List Word) (s : Scope) → AllByRecursion (λ (w : Word). old w.name.0 ≡ true) ws → AreOldHere s → AreOldHere (with_names th s ws)
  names-here th [] s h k = k
  names-here th (w ∷ ws) s h k = names-here th ws (with_name th s w) h.1 (h.0, k)

  decl-here : (d : PDecl) (s : Scope) → EveryDecl (old_names old) d → AreOldHere s → AreOldHere (after_decl s d)
  decl-here (DNumber w e sp) s h k = (h.1, k)
  decl-here (DObject ws c x i sp) s h k = names-here _ ws _ (recursion_from_All _ ws h.1.1) k
  decl-here (DEnumeration w ws sp) s h k = names-here _ ws _ (recursion_from_All _ ws h.2.1) (h.1, k)
  decl-here (DArray w q x sp) s h k = (h.1, k)
  decl-here (DSubtype w x sp) s h k = (h.1, k)
  decl-here (DException ws sp) s h k = names-here _ ws s (recursion_from_All _ ws h.1.1) k
  decl-here (DIntIo w sp) s h k = (h.1, k)
  decl-here (DPragma e sp) s h k = k
  decl-here (DTask t sp) s h k = (h.1.0, k)
  decl-here (DTaskBody w objects its sp) s h k = k

  decls-here : (ds : PDecls) (s : Scope) → EveryDecls (old_names old) ds → AreOldHere s → AreOldHere (after_decls s ds)
  decls-here no_decl s h k = k
  decls-here (decl_then d rest) s h k = decls-here rest (after_decl s d) h.1 (decl-here d s h.0 k)

  in-here : (ds : PDecls) (s : Scope) → InHere s → InHere (after_decls s ds)
  in-here no_decl s h = h
  in-here (decl_then d rest) s h = in-here rest (after_decl s d) (here-decl d s h)

  among-old : (ns : List ℕ) (n : ℕ) → AllByRecursion (λ m. old m ≡ true) ns → is_among ns n ≡ true → old n ≡ true
  among-old [] n h e = absurd (true≢false (sym e))
  among-old (m ∷ ns) n h e = by_test (m == n) refl e (among-old ns n h.1)
    where
      by_test : (b : Bool) → (m == n) ≡ b → (b || is_among ns n) ≡ true → (is_among ns n ≡ true → old n ≡ true) → old n ≡ true
      by_test true f g rest = ap old (sym (equal_is m n f)) ∙ h.0
      by_test false f g rest = rest g

  used-old : (s : Scope) (n : ℕ) → AreOldHere s → (is_predefined n || is_among s.here n) ≡ true → old n ≡ true
  used-old s n h e = by_test (is_predefined n) refl e
    where
      by_test : (b : Bool) → is_predefined n ≡ b → (b || is_among s.here n) ≡ true → old n ≡ true
      by_test true f g = first n (lt_is n 18 f)
      by_test false f g = among-old s.here n h g

  -- a name that means something behind all declarations is old
  pub meant-old : (name : Word) (ds : PDecls) → old name.name.0 ≡ true → EveryDecls (old_names old) ds → (id : NameId) (x : Thing) → meaning (after_decls (first_scope name) ds) id ≡ Some x → old id.0 ≡ true
  meant-old name ds o every id x e =
      used-old (after_decls (first_scope name) ds) id.0 (decls-here ds (first_scope name) every (o, tt))
      (meaning-used (after_decls (first_scope name) ds) id x (in-here ds (first_scope name) (first-here name)) e)

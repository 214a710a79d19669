-- Each name in a legal program is its own: one of its ids, whose text does not begin with DED_.
use Rattle.std.proofs.Common.{◌≡◌, ℕ, ◌<◌, Bool, true, false, not, ◌&&◌, ◌||◌, nat_eq, List, [], ◌++◌, length, drop, slice_get, get_or, unwrap_or, codes, Option, Some, None, refl, sym, ap, ◌∙◌}
use Rattle.std.specs.Option.{IsSomeAnd}
use Rattle.std.specs.Str.{bytes_eq}
use Rattle.std.specs.List.{AllByRecursion, starts_with}
use Rattle.std.proofs.lemmas.Bool.{lt-ltb, or_parts}
use Rattle.std.proofs.lemmas.List.{take-append-drop}
use Rattle.std.proofs.lemmas.Option.{slice_get-get_or, slice_get_within}
use Rattle.ada_tree.specs.declared.naming.NameId.{NameId}
use Rattle.ada_tree.specs.NameList.{predefined, AreNames}
use Rattle.ada_tree.specs.Lexical.{IsIdentifier}
use Rattle.ada_tree.specs.PlainProgram.{PProgram}
use Rattle.ada_tree.specs.Every.{Rules, no_rules, EveryProgram}
use Rattle.ada_tree.specs.WellPlaced.{IsWellPlaced, tokens}
use Rattle.ada_static_rules.specs.Sites.{sites}
use Rattle.ada_static_rules.specs.Refusals.{MeetsTypeRules}
use Rattle.syn_event.specs.declared.numbering.Mode.TheVariants.{Original}
use Rattle.syn_event.specs.CheckRefusals.{MeetsCheckRules}
use Rattle.syn_event.specs.AddedNames.{is_added_name}
use Rattle.syn_event.specs.DeclaredTasks.{text_of}
use Rattle.syn_event.specs.RuleReservedName.{has_mark, is_reserved}
use Rattle.syn_event.proofs.Weaker.{placed_tokens}
use Rattle.task_laws.proofs.legal.rewritten_types.Lookups.{place-all}
use Rattle.task_laws.specs.legal.rewritten_values.Values.{old_names}
use Rattle.task_laws.proofs.legal.rewritten_values.Saying.{place-within}
use Rattle.normal_laws.specs.structure.types.Own.{own_name}
use Rattle.task_laws.specs.legal.sites.Met.{IsAddressed}
use Rattle.task_laws.proofs.legal.sites.Both.{together}
use Rattle.task_laws.proofs.legal.sites.NamedDecls.{all_are_named}

-- the text does not begin with DED_
abbrev IsPlain : List ℕ → Type 0
IsPlain t = starts_with nat_eq t (codes "DED_") ≡ false

predefined-plain : AllByRecursion IsPlain predefined
predefined-plain =
    (refl, (refl, (refl, (refl, (refl, (refl, (refl, (refl, (refl, (refl, (refl, (refl, (refl, (refl, (refl, (refl, (refl, (refl, (refl, (refl, (refl, (refl, (refl, (refl, (refl, tt)))))))))))))))))))))))))

-- the first names have the predefined texts
pub first-text : (names : List (List ℕ)) (k : ℕ) → AreNames names → k < 25 → slice_get names k ≡ slice_get predefined k
first-text names k are l =
    ap (λ ts. slice_get ts k) (sym (ap (λ (ts : List (List ℕ)). ts ++ drop (length predefined) names) (sym are.begins) ∙ take-append-drop (length predefined) names))
    ∙ place-within predefined (drop (length predefined) names) k l

first-there : (k : ℕ) → k < 25 → (t : List ℕ) × (slice_get predefined k ≡ Some t)
first-there k l = (get_or predefined k [], slice_get-get_or predefined k [] l)

first-plain : (p : PProgram) → AreNames p.names → (k : ℕ) → k < 25 → not (is_added_name p.names record { 0 = k }) ≡ true
first-plain p are k l =
    let t = first-there k l in
    ap (λ (o : Option (List ℕ)). not (starts_with nat_eq (unwrap_or o []) (codes "DED_"))) (first-text p.names k are l ∙ t.1)
    ∙ ap not (place-all IsPlain predefined k t.0 predefined-plain t.1)

free-plain : (p : PProgram) (id : NameId) → is_reserved (text_of p.names id) ≡ false → not (is_added_name p.names id) ≡ true
free-plain p id e = ap not (or_parts (starts_with nat_eq (text_of p.names id) (codes "DED_")) (has_mark (text_of p.names id) || bytes_eq (text_of p.names id) (codes "DED")) e).0

-- the names are not added
abbrev NotAdded : PProgram → Rules
NotAdded p = record no_rules { name = λ id. not (is_added_name p.names record { 0 = id.0 }) ≡ true }

within-own : (p : PProgram) (id : NameId) → not (is_added_name p.names record { 0 = id.0 }) ≡ true → IsSomeAnd (slice_get p.names id.0) IsIdentifier → own_name p id.0 ≡ true
within-own p id e h = ap (λ (b : Bool). b && not (is_added_name p.names record { 0 = id.0 })) (lt-ltb id.0 (length p.names) (within (slice_get p.names id.0) refl h)) ∙ e
  where
    within : (o : Option (List ℕ)) → slice_get p.names id.0 ≡ o → IsSomeAnd o IsIdentifier → id.0 < length p.names
    within None f k = absurd k
    within (Some t) f k = slice_get_within p.names id.0 t f

-- What is told of names alone, with what is told of all parts, gives the rules that tell of names alone.
pub names-together : (told : NameId → Type 0) (r : Rules) (own : ℕ → Bool) → ((id : NameId) → told id → r.name id → own id.0 ≡ true) →
    (p : PProgram) → EveryProgram (record no_rules { name = told }) p → EveryProgram r p → EveryProgram (old_names own) p
names-together told r own keeps =
    together (record no_rules { name = told }) r (old_names own)
    record {
      name = keeps;
      integer = λ n h g. tt;
      duration = λ n h g. tt;
      words = λ t h g. tt;
      unary = λ op e h g. tt;
      binary = λ op a b h g. tt;
      bounds = λ a b h g. tt;
      parts = λ n k h g. tt;
      handlers = λ hs h g. tt;
      pragmas = λ n places h g. tt;
      object = λ c o h g. tt;
      inner = λ ds h g. tt;
      outer = λ ds h g. tt;
      nested = λ k h g. tt;
    }

-- Each name in the program is its own.
pub program-own : (p : PProgram) → MeetsTypeRules p → MeetsCheckRules p Original → IsWellPlaced p → AreNames p.names → AllByRecursion (λ x. IsAddressed x.scope x.demand) (sites p) → EveryProgram (old_names (own_name p)) p
program-own p types checks placed are clear =
    names-together (NotAdded p).name (tokens p.names) (own_name p) (within-own p)
    p
    (all_are_named p types checks placed clear (λ n. not (is_added_name p.names record { 0 = n })) (first-plain p are) (free-plain p))
    (placed_tokens p placed)

-- LOAD is a legal original as the laws of rewritings ask.
use Rattle.std.proofs.Common.{◌≡◌, ℕ, zero, suc, ◌+◌, ◌<◌, ◌≤◌, ◌^◌, lit<, Bool, true, false, cond, List, [], ◌∷◌, ◌++◌, length, map, codes, None, refl, sym, subst, arith, add-one}
use Rattle.std.specs.List.{range_with_len, list_any, fold}
use Rattle.std.specs.Str.{bytes_eq}
use Rattle.std.proofs.lemmas.List.FromFn.{length-map-range_with_len}
use Rattle.ada_tree.specs.NameList.{predefined, AreNames}
use Rattle.ada_tree.specs.PlainDecl.{decls_of}
use Rattle.ada_tree.proofs.Interning.{AreNames-added, AreNames-predefined}
use Rattle.ada_static_rules.specs.Declaring.{predefined_types}
use Rattle.syn_event.specs.DeclaredTasks.{decl_list}
use Rattle.syn_event.specs.declared.numbering.Mode.TheVariants.{Original}
use Rattle.syn_event.specs.Legal.{Legal}
use Rattle.task_laws.specs.legal.types.Typed.{IsSmall}
use Rattle.task_laws.proofs.legal.rewritten_types.Lookups.{place-all}
use Rattle.normal_laws.specs.existence.Laws.{IsLegalOriginal}
use Rattle.normal_laws.specs.existence.units.Weights.{AreLight, IsLight}
use Rattle.normal_laws.proofs.existence.Instance.{IsOther, small-other}
use Rattle.load_gen.specs.LoadTree.{buffer_body, load_names, load_tree, producer_body, producer_task, producer_text, producers}
use Rattle.load_gen.specs.LoadNumbers.{load_numbers}
use Rattle.load_gen.proofs.CheckRules.{checked}
use Rattle.load_gen.proofs.Placed.{placed}
use Rattle.load_gen.proofs.TaskNumbers.{numbered}
use Rattle.load_gen.proofs.Texts.{next_names}
use Rattle.load_gen.proofs.TypeRules.{met, types}

-- ---- its names

with_load : AreNames (predefined ++ codes "LOAD" ∷ [])
with_load = AreNames-added predefined (codes "LOAD") AreNames-predefined refl (lit< tt)

with_b : AreNames (predefined ++ codes "LOAD" ∷ codes "B" ∷ [])
with_b = AreNames-added (predefined ++ codes "LOAD" ∷ []) (codes "B") with_load refl (lit< tt)

with_x : AreNames (predefined ++ codes "LOAD" ∷ codes "B" ∷ codes "X" ∷ [])
with_x = AreNames-added (predefined ++ codes "LOAD" ∷ codes "B" ∷ []) (codes "X") with_b refl (lit< tt)

with_s : AreNames (predefined ++ codes "LOAD" ∷ codes "B" ∷ codes "X" ∷ codes "S" ∷ [])
with_s = AreNames-added (predefined ++ codes "LOAD" ∷ codes "B" ∷ codes "X" ∷ []) (codes "S") with_x refl (lit< tt)

with_j : AreNames (load_names 0)
with_j = AreNames-added (predefined ++ codes "LOAD" ∷ codes "B" ∷ codes "X" ∷ codes "S" ∷ []) (codes "J") with_s refl (lit< tt)

-- names with one more text
with_text : (names : List (List ℕ)) (t : List ℕ) → AreNames names → length names < 2 ^ 32 → (there : Bool) → list_any (bytes_eq t) names ≡ there → AreNames (cond there names (names ++ t ∷ []))
with_text names t h room true e = h
with_text names t h room false e = AreNames-added names t h e room

few_names : (k : ℕ) → k < 100 → length (load_names k) < 2 ^ 32
few_names k lt =
    let count : length (map producer_text (producers k)) ≡ k = length-map-range_with_len producer_text 1 k in
    omega (arith, lt, count)

named : (k : ℕ) → k ≤ 100 → AreNames (load_names k)
named zero le = with_j
named (suc k) le =
    let t : List ℕ = producer_text (k + 1) in
    subst (λ m. AreNames (load_names m)) (add-one k)
    (subst AreNames (next_names k (load_names k) t (omega arith) refl refl)
    (with_text (load_names k) t (named k (omega arith)) (few_names k (omega arith)) (list_any (bytes_eq t) (load_names k)) refl))

-- ---- its sizes

small : IsSmall predefined_types
small = record { kinds = λ k x e. small-other k x (place-all IsOther predefined_types.kinds k x (tt, (tt, tt)) e) }

bodies-light : (c k : ℕ) → AreLight (decls_of (map producer_body (range_with_len k c)))
bodies-light zero k = tt
bodies-light (suc c) k = (lit< tt, bodies-light c (k + 1))

later-light : (n c k : ℕ) → AreLight (decls_of (map producer_task (range_with_len k c) ++ (buffer_body ∷ map producer_body (producers n))))
later-light n zero k = (lit< tt, bodies-light n 1)
later-light n (suc c) k = later-light n c (k + 1)

light : (n : ℕ) → IsLight (load_tree n)
light n = (lit< tt, later-light n n 1)

-- ---- the whole

pub load_is_legal : (n : ℕ) → n ≤ 100 → Legal (load_tree n) predefined_types (load_numbers n) Original
load_is_legal n le = record { type_rules = met n; check_rules = checked n le; its_types = sym (types n); its_numbers = numbered predefined_types n le }

pub load_is_original : (n : ℕ) → n ≤ 100 → IsLegalOriginal (load_tree n)
load_is_original n le = record {
  legal = record { type_rules = met n; check_rules = checked n le; its_types = refl; its_numbers = refl };
  placed = placed n le;
  names = named n le;
  small = subst IsSmall (sym (types n)) small;
  light = light n;
}

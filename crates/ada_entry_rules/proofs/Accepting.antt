-- What is refused first of an accept, and how its formals are compared with those of its entry.
use Rattle.std.specs.Prelude.{◌≡◌, ℕ, zero, suc, ◌<◌, Bool, false, List, [], ◌∷◌, ◌++◌, length, map, drop, Option, refl}
use Rattle.std.proofs.Common.{sym, ap, ◌∙◌, arith}
use Rattle.ada_tree.specs.declared.naming.Word.{Word}
use Rattle.ada_tree.specs.PlainStmt.{PFormal, PHead}
use Rattle.ada_static_rules.specs.Refusals.{Refusal}
use Rattle.ada_static_rules.specs.Scope.{Scope, entry_named}
use Rattle.ada_static_rules.specs.Demand.{accepts}
use Rattle.ada_static_rules.specs.Declaring.{inner_scope}
use Rattle.ada_static_rules.specs.RuleArgCount.{Written, are_same}
use Rattle.ada_static_rules.specs.Sites.{site, if_there, names_sites, all_names, accept_index_sites, formal_mark_sites, formals_sites, head_sites}
use Rattle.ada_static_rules.specs.Sooner.{sooner}
use Rattle.ada_static_rules.specs.RefusedFirst.{refused_first_at, refused_first}
use Rattle.ada_scopes.specs.Entries.{plain_part}
use Rattle.ada_entry_rules.specs.inner.Accepts.{written_of}
use Rattle.ada_scopes.specs.declared.denotations.FormalPart.{FormalPart}
use Rattle.ada_static_rules.proofs.Meeting.{names_met, met_append, joined, before}
use Rattle.common_lemmas.proofs.Lists.{short_empty}

pub formals_met : (scope : Scope) (formals : List PFormal) (p : Option Refusal) → p ≡ refused_first (formal_mark_sites scope formals) → p ≡ refused_first (formals_sites scope formals)
formals_met scope formals p is_p =
    is_p
    ∙ ap (λ o. sooner o (refused_first (formal_mark_sites scope formals))) (names_met false (inner_scope scope) (all_names formals))
    ∙ sym (met_append (names_sites false (inner_scope scope) (all_names formals)) (formal_mark_sites scope formals))

-- the entry, the index and the formals of an accept
pub head_met : (scope : Scope) (h : PHead) (p q r : Option Refusal)
    → p ≡ refused_first_at scope (accepts h)
    → q ≡ refused_first (if_there (accept_index_sites scope (entry_named scope.own h.entry.name)) h.index)
    → r ≡ refused_first (formals_sites scope h.formals)
    → sooner (sooner p q) r ≡ refused_first (head_sites scope h)
head_met scope h p q r is_p is_q is_r =
    let index = if_there (accept_index_sites scope (entry_named scope.own h.entry.name)) h.index in
    joined (site scope (accepts h) ∷ index) (formals_sites scope h.formals) (sooner p q) r (before scope (accepts h) index p q is_p is_q) is_r

-- ---- formals one by one

-- a formal of an accept is left where none of its entry is
left_over : (f : PFormal) (names : List Word) (i : ℕ) (behind : List Written) → i < length names → are_same (map (written_of f) (drop i names) ++ behind) [] ≡ false
left_over f [] i behind h = absurd (omega arith)
left_over f (w ∷ ws) zero behind h = refl
left_over f (w ∷ ws) (suc i) behind h = left_over f ws i behind (omega arith)

pub no_part : (f : PFormal) (names : List Word) (i : ℕ) (behind : List Written) (rest : List FormalPart) (all : Bool) → i < length names → length rest < 1
    → are_same (map (written_of f) (drop i names) ++ behind) (map plain_part rest) ≡ all
    → all ≡ false
no_part f names i behind rest all h g before =
    sym before
    ∙ ap (λ fs. are_same (map (written_of f) (drop i names) ++ behind) (map plain_part fs)) (short_empty rest g)
    ∙ left_over f names i behind h

-- Each name in a legal program is one of its texts that is left to no rewriter.
use Rattle.std.proofs.Common.{◌≡◌, ℕ, true, not, List, slice_get, ap}
use Rattle.std.specs.Option.{IsSomeAnd}
use Rattle.ada_tree.specs.declared.naming.NameId.{NameId}
use Rattle.ada_tree.specs.Lexical.{IsIdentifier}
use Rattle.ada_tree.specs.PlainProgram.{PProgram}
use Rattle.ada_tree.specs.Every.{Rules, no_rules, EveryProgram}
use Rattle.ada_tree.specs.WellPlaced.{tokens}
use Rattle.syn_event.specs.DeclaredTasks.{text_of}
use Rattle.syn_event.specs.RuleReservedName.{is_reserved}
use Rattle.syn_event.proofs.Weaker.{placed_tokens}
use Rattle.task_laws.proofs.legal.sites.Both.{together}
use Rattle.task_laws.proofs.legal.sites.NamedDecls.{all_are_named}
use Rattle.normal_laws.proofs.existence.units.Apart.{all-addressed}
use Rattle.normal_laws.proofs.existence.units.DeclaredNames.{IsGood}
use Rattle.normal_laws.specs.existence.Laws.{IsLegalOriginal}
use Rattle.normal_laws.proofs.legality.declares_once.Ids.{first-free}
use Rattle.common_lemmas.proofs.Truth.{not_true}

-- each name is a good one
abbrev pub good_names : List (List ℕ) → Rules
good_names names = record no_rules { name = λ id. IsGood names id }

-- no name is left to a rewriter
abbrev free_names : List (List ℕ) → Rules
free_names names = record no_rules { name = λ id. not (is_reserved (text_of names record { 0 = id.0 })) ≡ true }

both-good : (names : List (List ℕ)) (id : NameId) → not (is_reserved (text_of names record { 0 = id.0 })) ≡ true → IsSomeAnd (slice_get names id.0) IsIdentifier → IsGood names id
both-good names id e h = record { there = h; free = not_true (is_reserved (text_of names id)) e }

pub program-good : (p : PProgram) → IsLegalOriginal p → EveryProgram (good_names p.names) p
program-good p h =
    together (free_names p.names) (tokens p.names) (good_names p.names)
    record {
      name = both-good p.names;
      integer = λ n a c. tt;
      duration = λ n a c. tt;
      words = λ t a c. tt;
      unary = λ op e a c. tt;
      binary = λ op l r a c. tt;
      bounds = λ l r a c. tt;
      parts = λ n k a c. tt;
      handlers = λ hs a c. tt;
      pragmas = λ n places a c. tt;
      object = λ c o a d. tt;
      inner = λ ds a c. tt;
      outer = λ ds a c. tt;
      nested = λ k a c. tt;
    }
    p
    (all_are_named p h.legal.type_rules h.legal.check_rules h.placed (all-addressed p h.legal.type_rules h.placed h.small) (λ n. not (is_reserved (text_of p.names record { 0 = n })))
    (λ k l. ap not (first-free p.names h.names k l)) (λ id e. ap not e))
    (placed_tokens p h.placed)

-- A legal program is as the law of the numbers of normal forms asks.
use Rattle.std.proofs.Common.{◌≡◌, ℕ, true, List, [], is_some, sym, ap, ◌∙◌, true≢false}
use Rattle.ada_tree.specs.declared.naming.NameId.{NameId}
use Rattle.ada_tree.specs.PlainDecl.{PDecls, no_decl, decl_then}
use Rattle.ada_tree.specs.PlainProgram.{PProgram}
use Rattle.syn_event.specs.NamedTasks.{NamedTasks, task_names_of}
use Rattle.syn_event.specs.RuleReservedName.{is_reserved}
use Rattle.syn_event.proofs.Weaker.{placed_tokens}
use Rattle.normal_laws.specs.structure.numbers.Laws.{IsNotDed}
use Rattle.normal_laws.proofs.structure.numbers.TaskNames.{AreNamed, task-names}
use Rattle.normal_laws.proofs.structure.numbers.Numbered.{normal_has_numbers}
use Rattle.normal_laws.proofs.existence.units.DeclaredNames.{IsGood, AreGood, names-good}
use Rattle.normal_laws.proofs.existence.units.Fields.{legal_is_ordered, legal_is_own}
use Rattle.normal_laws.specs.legality.numbers.Laws.{NoneLegalIsDed, LegalHasNumbers}
use Rattle.common_lemmas.proofs.Lists.{all_weaker}

-- a name that is left to no rewriter is not DED
good-not : (p : PProgram) (id : NameId) → IsGood p.names id → IsNotDed p id
good-not p id h e = true≢false (sym (ap is_reserved e) ∙ h.free)

good-named : (names : List (List ℕ)) (ds : PDecls) → AreGood names ds → AreNamed (IsGood names) ds
good-named names no_decl h = tt
good-named names (decl_then d rest) h = (h.0, good-named names rest h.1)

pub none_legal_is_ded : NoneLegalIsDed
none_legal_is_ded p types numbers legal placed =
    all_weaker (λ (x : NamedTasks). IsGood p.names x.name.name) (λ (x : NamedTasks). is_some x.index_range ≡ true → IsNotDed p x.name.name) (task_names_of p)
    (λ x h e. good-not p x.name.name h)
    (task-names (IsGood p.names) p.decls [] (good-named p.names p.decls (names-good p legal.check_rules (placed_tokens p placed))))

pub legal_has_numbers : LegalHasNumbers
legal_has_numbers p types numbers legal placed names small =
    normal_has_numbers p (legal_is_ordered p types numbers legal placed) (legal_is_own p types numbers legal placed names small) (none_legal_is_ded p types numbers legal placed)

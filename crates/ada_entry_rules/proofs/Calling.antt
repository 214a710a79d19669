-- What is refused first at the tasks, the entries and the lists of calls.
use Rattle.std.specs.Prelude.{◌≡◌, ◌∷◌, Option, Some, None, refl}
use Rattle.std.proofs.Common.{sym, ap, subst, ◌∙◌}
use Rattle.ada_tree.specs.declared.naming.Word.{Word}
use Rattle.ada_tree.specs.PlainExpr.{PExpr}
use Rattle.ada_tree.specs.PlainStmt.{PCallee, PCall}
use Rattle.ada_static_rules.specs.Refusals.{Refusal}
use Rattle.ada_static_rules.specs.Scope.{Scope, Thing, TaskArray, meaning}
use Rattle.ada_static_rules.specs.Demand.{addresses, calls}
use Rattle.ada_static_rules.specs.RuleUnknown.{unseen, unknown_entry}
use Rattle.ada_static_rules.specs.RuleMismatch.{no_task, misfit_member}
use Rattle.ada_static_rules.specs.RuleRangeBad.{member_range, member_out_of}
use Rattle.ada_static_rules.specs.RuleArgCount.{index_of_callee, called_entry, wrong_call}
use Rattle.ada_static_rules.specs.Sites.{site, if_there, expr_sites, callee_sites, args_sites, call_sites}
use Rattle.ada_static_rules.specs.Sooner.{sooner, found}
use Rattle.ada_static_rules.specs.RefusedFirst.{refused_first_at, refused_first}
use Rattle.ada_static_rules.proofs.SoonerLaws.{sooner_none, found_append}
use Rattle.ada_static_rules.proofs.Meeting.{met_one, joined, before}

abbrev over : Word → Option PExpr → PCallee
over name index = record { name = name; index = index }

-- what is asked of a task, with an index or without
pub addressed : (scope : Scope) (name : Word) (o : Option PExpr) (u t m r c : Option Refusal)
    → u ≡ found 1 (unseen scope name.name name.span)
    → t ≡ found 3 (no_task (meaning scope name.name) name)
    → m ≡ found 3 (misfit_member scope (meaning scope name.name) o)
    → r ≡ found 5 (member_out_of scope o (member_range (meaning scope name.name)))
    → c ≡ found 8 (index_of_callee (meaning scope name.name) o name.span)
    → sooner u (sooner (sooner t m) (sooner r c)) ≡ refused_first_at scope (addresses (over name o))
addressed scope name o u t m r c is_u is_t is_m is_r is_c =
    let both = found_append 3 (no_task (meaning scope name.name) name) (misfit_member scope (meaning scope name.name) o) in
    let end = sooner_none (found 8 (index_of_callee (meaning scope name.name) o name.span)) in
    cc

none_misfit : (scope : Scope) (thing : Option Thing) → None ≡ found 3 (misfit_member scope thing None)
none_misfit scope None = refl
none_misfit scope (Some (TaskArray range entries)) = refl
none_misfit scope (Some _) = refl

-- the same without an index
pub addressed_alone : (scope : Scope) (name : Word) (u t c : Option Refusal)
    → u ≡ found 1 (unseen scope name.name name.span)
    → t ≡ found 3 (no_task (meaning scope name.name) name)
    → c ≡ found 8 (index_of_callee (meaning scope name.name) None name.span)
    → sooner u (sooner t c) ≡ refused_first_at scope (addresses (over name None))
addressed_alone scope name u t c is_u is_t is_c =
    ap (λ x. sooner u (sooner x c)) (sym (sooner_none t))
    ∙ addressed scope name None u t None None c is_u is_t (none_misfit scope (meaning scope name.name)) refl is_c

-- a task with an index, and without
pub member_met : (scope : Scope) (name : Word) (o : Option PExpr) (e : PExpr) (p q : Option Refusal)
    → o ≡ Some e
    → p ≡ refused_first_at scope (addresses (over name (Some e)))
    → q ≡ refused_first (expr_sites scope e)
    → sooner p q ≡ refused_first (callee_sites scope (over name o))
member_met scope name o e p q is_o is_p is_q =
    subst (λ (x : Option PExpr). sooner p q ≡ refused_first (callee_sites scope (over name x))) (sym is_o)
    (before scope (addresses (over name (Some e))) (expr_sites scope e) p q is_p is_q)

pub task_met : (scope : Scope) (name : Word) (o : Option PExpr) (p : Option Refusal)
    → o ≡ None
    → p ≡ refused_first_at scope (addresses (over name None))
    → p ≡ refused_first (callee_sites scope (over name o))
task_met scope name o p is_o is_p =
    subst (λ (x : Option PExpr). p ≡ refused_first (callee_sites scope (over name x))) (sym is_o)
    (is_p ∙ sym (met_one scope (addresses (over name None))))

-- a call: the task, the entry, and the lists behind it
pub call_met : (scope : Scope) (c : PCall) (p u n q : Option Refusal)
    → p ≡ refused_first (callee_sites scope c.task)
    → u ≡ found 1 (unknown_entry (meaning scope c.task.name.name) c.entry)
    → n ≡ found 8 (wrong_call (called_entry (meaning scope c.task.name.name) c.entry.name) c.args c.entry.span)
    → q ≡ refused_first (if_there (args_sites scope (called_entry (meaning scope c.task.name.name) c.entry.name)) c.args)
    → sooner p (sooner (sooner u n) q) ≡ refused_first (call_sites scope c)
call_met scope c p u n q is_p is_u is_n is_q =
    let rest = if_there (args_sites scope (called_entry (meaning scope c.task.name.name) c.entry.name)) c.args in
    joined (callee_sites scope c.task) (site scope (calls c) ∷ rest) p (sooner (sooner u n) q) is_p
    (before scope (calls c) rest (sooner u n) q
    (ap (λ o. sooner o n) is_u
    ∙ ap (sooner (found 1 (unknown_entry (meaning scope c.task.name.name) c.entry))) (is_n ∙ sym (sooner_none (found 8 (wrong_call (called_entry (meaning scope c.task.name.name) c.entry.name) c.args c.entry.span)))))
    is_q)

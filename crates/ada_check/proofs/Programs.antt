-- What is refused first in a whole program, by its parts.
use Rattle.std.specs.Prelude.{◌≡◌, List, ◌∷◌, ◌++◌, Option}
use Rattle.std.proofs.Common.{ap, ◌∙◌}
use Rattle.ada_tree.specs.TypeTable.{TypeTable}
use Rattle.ada_tree.specs.PlainProgram.{PProgram}
use Rattle.ada_static_rules.specs.Refusals.{types_in}
use Rattle.syn_event.specs.CheckRefusals.{CheckRefusal}
use Rattle.syn_event.specs.CheckScope.{CheckScope, declares}
use Rattle.syn_event.specs.NamedTasks.{NamedTasks, task_names_of}
use Rattle.syn_event.specs.CheckSites.{site, check_sites, around_program, first_around, body_names, decls_sites, after_decls, body_sites, tasks_sites, entries_sites, all_copies_sites, counted_sites}
use Rattle.ada_check_rules.specs.rules.Sooner.{sooner}
use Rattle.ada_check_rules.specs.rules.RefusedFirst.{Standard, refused_first_at, refused_first}
use Rattle.ada_check_rules.proofs.rules.Meeting.{joined, before}
use Rattle.ada_check.proofs.declaration_places.Declaring.{types_after}

-- what is counted over the whole
pub counted_met : (by : Standard) (around : CheckScope) (parts : List NamedTasks) (p : PProgram) (a b d ab r : Option CheckRefusal) → parts ≡ task_names_of p
    → a ≡ refused_first by (tasks_sites around 0 parts) → b ≡ refused_first by (entries_sites around 0 parts) → d ≡ refused_first by (all_copies_sites around parts p)
    → ab ≡ sooner a b → r ≡ sooner ab d → r ≡ refused_first by (counted_sites around p)
counted_met by around parts p a b d ab r same is_a is_b is_d is_ab is =
    is
    ∙ joined by (tasks_sites around 0 parts ++ entries_sites around 0 parts) (all_copies_sites around parts p) ab d
    (is_ab ∙ joined by (tasks_sites around 0 parts) (entries_sites around 0 parts) a b is_a is_b)
    is_d
    ∙ ap (λ (l : List NamedTasks). refused_first by (tasks_sites around 0 l ++ entries_sites around 0 l ++ all_copies_sites around l p)) same

-- the whole
pub program_met : (by : Standard) (s behind : CheckScope) (p : PProgram) (a b i k ab abi r : Option CheckRefusal) → s ≡ around_program p
    → a ≡ refused_first_at by s (declares p.name)
    → b ≡ refused_first by (decls_sites s (body_names p.decls) p.decls)
    → behind ≡ after_decls s p.decls
    → i ≡ refused_first by (body_sites behind 1 p.body)
    → k ≡ refused_first by (counted_sites s p)
    → ab ≡ sooner a b → abi ≡ sooner ab i → r ≡ sooner abi k → r ≡ refused_first by (check_sites p)
program_met by s behind p a b i k ab abi r same is_a is_b is_behind is_i is_k is_ab is_abi is =
    let first = site s (declares p.name) ∷ decls_sites s (body_names p.decls) p.decls in
    let body = body_sites (after_decls s p.decls) 1 p.body in
    is
    ∙ joined by (first ++ body) (counted_sites s p) abi k
    (is_abi
    ∙ joined by first body ab i
    (is_ab ∙ before by s (declares p.name) (decls_sites s (body_names p.decls) p.decls) a b is_a is_b)
    (is_i ∙ ap (λ x. refused_first by (body_sites x 1 p.body)) is_behind))
    is_k
    ∙ ap (λ (x : CheckScope). refused_first by ((site x (declares p.name) ∷ decls_sites x (body_names p.decls) p.decls) ++ body_sites (after_decls x p.decls) 1 p.body ++ counted_sites x p)) same

-- the types stay the same
pub types_stay : (s behind now : CheckScope) (p : PProgram) → behind ≡ after_decls s p.decls → now ≡ behind → now.types ≡ s.types
types_stay s behind now p is_behind is_now = ap (λ x. x.types) (is_now ∙ is_behind) ∙ types_after s p.decls

pub around_is : (s : CheckScope) (types : TypeTable) (p : PProgram) → s ≡ first_around types p.name → types ≡ types_in p → s ≡ around_program p
around_is s types p h g = h ∙ ap (λ t. first_around t p.name) g

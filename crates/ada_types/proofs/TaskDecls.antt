-- Tasks and task bodies, and what is refused first of them.
use Rattle.std.specs.Prelude.{◌≡◌, ℕ, ◌+◌, ◌<◌, true, List, [], ◌∷◌, ◌++◌, length, map, flat_map, take, Option, Some}
use Rattle.std.proofs.Common.{sym, ap, ◌∙◌, get_or}
use Rattle.std.proofs.lemmas.List.{map_more}
use Rattle.ada_tree.specs.declared.naming.NameId.{NameId}
use Rattle.ada_tree.specs.declared.naming.Word.{Word}
use Rattle.ada_tree.specs.PlainDecl.{PTask}
use Rattle.ada_static_rules.specs.Declaring.{with_name, entry_part, task_thing, after_task}
use Rattle.ada_static_rules.specs.Refusals.{Refusal}
use Rattle.ada_static_rules.specs.Scope.{Scope, Thing, EntryPart as PlainEntry, integer_kind}
use Rattle.ada_static_rules.specs.Demand.{gives_body, makes_instance, Site}
use Rattle.ada_static_rules.specs.Sites.{site, static_of, names_sites, entries_sites, task_sites}
use Rattle.ada_static_rules.specs.Sooner.{sooner}
use Rattle.ada_static_rules.specs.RefusedFirst.{refused_first_at, refused_first}
use Rattle.ada_static_rules.proofs.Meeting.{met_cons, joined, before}
use Rattle.ada_types.proofs.TypeDecls.{behind_names}

pub task_met : (scope : Scope) (t : PTask) (p q : Option Refusal) → p ≡ refused_first (entries_sites scope [] t.entries) → q ≡ refused_first (flat_map (λ x. static_of scope (Some integer_kind) x.value) t.priorities)
    → sooner p q ≡ refused_first (task_sites scope t)
task_met scope t p q is_p is_q =
    joined (names_sites true scope (t.name ∷ []) ++ entries_sites scope [] t.entries) (flat_map (λ x. static_of scope (Some integer_kind) x.value) t.priorities) p q
    (behind_names scope (t.name ∷ []) (entries_sites scope [] t.entries) p is_p) is_q

-- a task body: what is asked of its name, its objects and its statements
pub body_met : (scope : Scope) (name : Word) (xs ys : List Site) (m p q : Option Refusal) → m ≡ refused_first_at scope (gives_body name) → p ≡ refused_first xs → q ≡ refused_first ys
    → sooner (sooner m p) q ≡ refused_first (site scope (gives_body name) ∷ xs ++ ys)
body_met scope name xs ys m p q is_m is_p is_q = joined (site scope (gives_body name) ∷ xs) ys (sooner m p) q (before scope (gives_body name) xs m p is_m is_p) is_q

pub instance_met : (scope : Scope) (name : Word) (a : Option Refusal) (sites : List Site) → a ≡ refused_first sites → a ≡ refused_first (site scope (makes_instance name) ∷ sites)
instance_met scope name a sites h = h ∙ sym (met_cons scope (makes_instance name) sites)

-- the names of one literal more
pub ids_grown : (xs : List Word) (i : ℕ) (d : Word) (bs cs : List NameId) → i < length xs → bs ≡ map (λ w. w.name) (take i xs) → cs ≡ bs ++ (get_or xs i d).name ∷ [] → cs ≡ map (λ w. w.name) (take (i + 1) xs)
ids_grown xs i d bs cs inside before is =
    is ∙ ap (λ l. l ++ (get_or xs i d).name ∷ []) before ∙ sym (map_more (λ (w : Word). w.name) xs i d inside)

-- behind the declaration of a task
pub task_left : (scope new : Scope) (t : PTask) (thing : Thing) (ps : List PlainEntry) → new ≡ with_name thing scope t.name → thing ≡ task_thing t.of_kind ps → ps ≡ map (entry_part scope) t.entries → new ≡ after_task scope t
task_left scope new t thing ps is h g = is ∙ ap (λ x. with_name x scope t.name) (h ∙ ap (task_thing t.of_kind) g)

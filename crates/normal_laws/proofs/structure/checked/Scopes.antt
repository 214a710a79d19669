-- What stands around stays so in accepts, loops and handlers.
use Rattle.std.proofs.Common.{◌≡◌, ℕ, ◌==◌, Bool, true, false, cond, List, [], ◌∷◌, find, Option, Some, None, option_map, refl, ap}
use Rattle.ada_tree.specs.declared.naming.NameId.{NameId}
use Rattle.ada_tree.specs.declared.naming.Span.{Span}
use Rattle.ada_tree.specs.declared.naming.Word.{Word}
use Rattle.ada_tree.specs.PlainStmt.{PScheme, LWhile, LFor, PHead}
use Rattle.ada_tree.specs.PlainDecl.{PDecl}
use Rattle.syn_event.specs.declared.meanings.Meant.TheVariants.{Inner}
use Rattle.syn_event.specs.CheckScope.{EnclosingUnit, CheckScope, uses, addresses}
use Rattle.syn_event.specs.CheckSites.{with_meant, formal_names, in_accept, in_loop, handling}
use Rattle.syn_event.specs.RuleMainEntry.{no_task, main_entry}
use Rattle.syn_event.specs.RuleSharedVariable.{shared_name, in_body_of, shared_variable}
use Rattle.task_model.specs.Setting.{Setting}
use Rattle.normal_model.specs.Names.{variable_name, task_name}
use Rattle.normal_laws.specs.structure.checked.Around.{IsAround}

pub nothing-in : (o : Option EnclosingUnit) → in_body_of o [] ≡ []
nothing-in (Some x) = refl
nothing-in None = refl

-- a name that is no shared variable is none where an inner name is added
pub use-under : (c : CheckScope) (n : ℕ) (id : NameId) (s : Span) → shared_variable c (uses id s) ≡ [] → shared_variable (record c { names = (n, Inner) ∷ c.names }) (uses id s) ≡ []
use-under c n id s h = go (n == id.0)
  where
    go : (t : Bool) → in_body_of c.own (shared_name (option_map (λ k. k.1) (cond t (Some (n, Inner)) (find (λ k. k.0 == id.0) c.names))) s) ≡ []
    go true = nothing-in c.own
    go false = h

pub callee-under : (c : CheckScope) (n : ℕ) (w : Word) → main_entry c (addresses w) ≡ [] → main_entry (record c { names = (n, Inner) ∷ c.names }) (addresses w) ≡ []
callee-under c n w h = go (n == w.name.0)
  where
    go : (t : Bool) → no_task (option_map (λ k. k.1) (cond t (Some (n, Inner)) (find (λ k. k.0 == w.name.0) c.names))) w.span ≡ []
    go true = refl
    go false = h

module _ (g : Setting) (own : ℕ → Bool) (vars : List PDecl) where
  -- an own name that is hidden by an inner one, or is as it was
  hidden-under : (c d : CheckScope) (n : ℕ) (id : NameId) (s : Span) → (shared_variable c (uses id s) ≡ [] → shared_variable d (uses id s) ≡ []) →
      shared_variable (record c { names = (n, Inner) ∷ c.names }) (uses id s) ≡ [] → shared_variable (record d { names = (n, Inner) ∷ d.names }) (uses id s) ≡ []
  hidden-under c d n id s f h = go (n == id.0) h
    where
      go : (t : Bool) → in_body_of c.own (shared_name (option_map (λ k. k.1) (cond t (Some (n, Inner)) (find (λ k. k.0 == id.0) c.names))) s) ≡ [] →
          in_body_of d.own (shared_name (option_map (λ k. k.1) (cond t (Some (n, Inner)) (find (λ k. k.0 == id.0) d.names))) s) ≡ []
      go true i = nothing-in d.own
      go false i = f i

  one-under : (c d : CheckScope) (n : ℕ) → IsAround g own vars c d → IsAround g own vars (record c { names = (n, Inner) ∷ c.names }) (record d { names = (n, Inner) ∷ d.names })
  one-under c d n rel = record {
    hidden = λ id s o h. hidden-under c d n id s (rel.hidden id s o) h;
    variables = λ k s l. use-under d n (variable_name g k) s (rel.variables k s l);
    literals = λ id s i. use-under d n id s (rel.literals id s i);
    tasks = λ info s i. callee-under d n (record { name = task_name g info; span = s }) (rel.tasks info s i);
    entries = rel.entries;
    accepting = rel.accepting;
    loops = rel.loops;
    in_handler = rel.in_handler;
    types = rel.types;
    fixed = rel.fixed;
  }

  pub all-under : (c d : CheckScope) (ws : List Word) → IsAround g own vars c d → IsAround g own vars (with_meant Inner c ws) (with_meant Inner d ws)
  all-under c d [] rel = rel
  all-under c d (w ∷ ws) rel = all-under (record c { names = (w.name.0, Inner) ∷ c.names }) (record d { names = (w.name.0, Inner) ∷ d.names }) ws (one-under c d w.name.0 rel)

  pub accept-around : (c d : CheckScope) (h : PHead) → IsAround g own vars c d → IsAround g own vars (in_accept c h) (in_accept d h)
  accept-around c d h rel =
      all-under (record c { accepting = h.entry.name ∷ c.accepting; loops = [] }) (record d { accepting = h.entry.name ∷ d.accepting; loops = [] }) (formal_names h.formals)
      record {
        hidden = rel.hidden;
        variables = rel.variables;
        literals = rel.literals;
        tasks = rel.tasks;
        entries = rel.entries;
        accepting = ap (λ l. h.entry.name ∷ l) rel.accepting;
        loops = refl;
        in_handler = rel.in_handler;
        types = rel.types;
        fixed = rel.fixed;
      }

  named-loop : (c d : CheckScope) (w : Option Word) → IsAround g own vars c d → IsAround g own vars (record c { loops = option_map (λ x. x.name) w ∷ c.loops }) (record d { loops = option_map (λ x. x.name) w ∷ d.loops })
  named-loop c d w rel = record {
    hidden = rel.hidden;
    variables = rel.variables;
    literals = rel.literals;
    tasks = rel.tasks;
    entries = rel.entries;
    accepting = rel.accepting;
    loops = ap (λ l. option_map (λ x. x.name) w ∷ l) rel.loops;
    in_handler = rel.in_handler;
    types = rel.types;
    fixed = rel.fixed;
  }

  pub loop-around : (c d : CheckScope) (w : Option Word) (x : Option PScheme) → IsAround g own vars c d → IsAround g own vars (in_loop c w x) (in_loop d w x)
  loop-around c d w None rel = named-loop c d w rel
  loop-around c d w (Some (LWhile e)) rel = named-loop c d w rel
  loop-around c d w (Some (LFor v backwards r)) rel = all-under (record c { loops = option_map (λ x. x.name) w ∷ c.loops }) (record d { loops = option_map (λ x. x.name) w ∷ d.loops }) (v ∷ []) (named-loop c d w rel)

  pub handler-around : (c d : CheckScope) → IsAround g own vars c d → IsAround g own vars (handling c) (handling d)
  handler-around c d rel = record {
    hidden = rel.hidden;
    variables = rel.variables;
    literals = rel.literals;
    tasks = rel.tasks;
    entries = rel.entries;
    accepting = rel.accepting;
    loops = rel.loops;
    in_handler = refl;
    types = rel.types;
    fixed = rel.fixed;
  }

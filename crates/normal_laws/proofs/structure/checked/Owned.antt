-- All names of a program are its own, and its lists have as many parts as the grammar asks.
use Rattle.std.specs.Prelude.{◌≡◌, ℕ, Bool, true, List}
use Rattle.ada_tree.specs.declared.naming.NameId.{NameId}
use Rattle.ada_tree.specs.PlainProgram.{PProgram}
use Rattle.ada_tree.specs.Every.{Rules, EveryProgram}
use Rattle.ada_tree.specs.WellPlaced.{well_placed}
use Rattle.task_laws.proofs.legal.sites.Both.{together}
use Rattle.normal_laws.specs.structure.checked.Around.{own_rules}

-- where rules ask of each name that it is one of these
pub own-together : (own : ℕ → Bool) (r : Rules) → ((id : NameId) → r.name id → own id.0 ≡ true) → (texts : List (List ℕ)) (p : PProgram) →
    EveryProgram r p → EveryProgram (well_placed texts) p → EveryProgram (own_rules own) p
own-together own r keeps texts =
    together r (well_placed texts) (own_rules own)
    record {
      name = λ id a c. keeps id a;
      integer = λ n a c. tt;
      duration = λ n a c. tt;
      words = λ t a c. tt;
      unary = λ op e a c. tt;
      binary = λ op left right a c. tt;
      bounds = λ left right a c. tt;
      parts = λ n k a c. c;
      handlers = λ hs a c. tt;
      pragmas = λ n places a c. tt;
      object = λ constant o a c. tt;
      inner = λ ds a c. tt;
      outer = λ ds a c. tt;
      nested = λ k a c. tt;
    }

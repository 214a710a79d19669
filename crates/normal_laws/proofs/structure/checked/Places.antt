-- Places at which none of the rules 13 to 23 refuses anything in any text, one form of demand after the other.
use Rattle.std.proofs.Common.{◌≡◌, ℕ, ◌+◌, ◌≤◌, Bool, nat_le, nat_lt, if◌then◌else◌, List, [], ◌∷◌, length, Option, Some, refl, ap, arith}
use Rattle.std.proofs.lemmas.Bool.{le-ltb}
use Rattle.ada_tree.specs.declared.naming.NameId.{NameId}
use Rattle.ada_tree.specs.declared.naming.Span.{Span}
use Rattle.ada_tree.specs.declared.naming.Word.{Word}
use Rattle.ada_tree.specs.PlainStmt.{PHead, PAlts}
use Rattle.syn_event.specs.declared.numbering.Mode.TheVariants.{Any}
use Rattle.syn_event.specs.declared.limits.What.{What}
use Rattle.syn_event.specs.declared.limits.What.TheVariants.{Name, Nesting, Alternatives}
use Rattle.syn_event.specs.CheckScope.{CheckScope, declares, uses, addresses, accepts, waits, exits, raises_again, counts}
use Rattle.syn_event.specs.CheckSites.{site}
use Rattle.syn_event.specs.DeclaredTasks.{text_of}
use Rattle.syn_event.specs.RuleSharedVariable.{shared_variable}
use Rattle.syn_event.specs.RuleAcceptPlace.{accept_place}
use Rattle.syn_event.specs.RuleSelectForm.{select_form}
use Rattle.syn_event.specs.RuleSameEntryTwice.{same_entry_twice}
use Rattle.syn_event.specs.RuleMainEntry.{main_entry}
use Rattle.syn_event.specs.RuleExitPlace.{exit_place}
use Rattle.syn_event.specs.RuleRaisePlace.{raise_place}
use Rattle.syn_event.specs.RuleLimit.{limit_passed}
use Rattle.task_laws.specs.legal.sites.Met.{IsCheckMet}
use Rattle.common_lemmas.proofs.Truth.{false_behind}

-- a limit that is kept to
pub passed-not : (what : What) (limit before here : ℕ) (s : Span) → before + here ≤ limit → limit_passed what (Some limit) before here s ≡ []
passed-not what limit before here s h =
    ap (λ (t : Bool). if t then record { over = record { what = what; limit = limit }; span = s } ∷ [] else [])
    (false_behind (nat_le before limit) (nat_lt limit (before + here)) (le-ltb limit (before + here) h))

module _ (names : List (List ℕ)) (d : CheckScope) where
  pub met-deep : (n : ℕ) (s : Span) → n ≤ 300 → IsCheckMet Any names (site d (counts Nesting 0 n s))
  met-deep n s h = record { shared = refl; accepts = refl; selects = refl; twice = refl; reserved = refl; main = refl; order = refl; bodies = refl; exits = refl; raises = refl; limits = passed-not Nesting 300 0 n s (omega (arith, h)) }

  pub met-alternative : (n : ℕ) (s : Span) → n + 1 ≤ 33 → IsCheckMet Any names (site d (counts Alternatives n 1 s))
  met-alternative n s h = record { shared = refl; accepts = refl; selects = refl; twice = refl; reserved = refl; main = refl; order = refl; bodies = refl; exits = refl; raises = refl; limits = passed-not Alternatives 33 n 1 s h }

  pub met-name : (w : Word) → length (text_of names w.name) ≤ 150 → IsCheckMet Any names (site d (declares w))
  met-name w h = record { shared = refl; accepts = refl; selects = refl; twice = refl; reserved = refl; main = refl; order = refl; bodies = refl; exits = refl; raises = refl; limits = passed-not Name 150 0 (length (text_of names w.name)) w.span (omega (arith, h)) }

  pub met-use : (id : NameId) (s : Span) → shared_variable d (uses id s) ≡ [] → IsCheckMet Any names (site d (uses id s))
  met-use id s h = record { shared = h; accepts = refl; selects = refl; twice = refl; reserved = refl; main = refl; order = refl; bodies = refl; exits = refl; raises = refl; limits = refl }

  pub met-callee : (w : Word) → main_entry d (addresses w) ≡ [] → IsCheckMet Any names (site d (addresses w))
  met-callee w h = record { shared = refl; accepts = refl; selects = refl; twice = refl; reserved = refl; main = h; order = refl; bodies = refl; exits = refl; raises = refl; limits = refl }

  pub met-accept : (x : PHead) → accept_place d (accepts x) ≡ [] → IsCheckMet Any names (site d (accepts x))
  met-accept x h = record { shared = refl; accepts = h; selects = refl; twice = refl; reserved = refl; main = refl; order = refl; bodies = refl; exits = refl; raises = refl; limits = refl }

  pub met-wait : (x : PAlts) (others : Bool) (s : Span) → select_form d (waits x others s) ≡ [] → same_entry_twice d (waits x others s) ≡ [] → IsCheckMet Any names (site d (waits x others s))
  met-wait x others s h i = record { shared = refl; accepts = refl; selects = h; twice = i; reserved = refl; main = refl; order = refl; bodies = refl; exits = refl; raises = refl; limits = refl }

  pub met-exit : (w : Option Word) (s : Span) → exit_place d (exits w s) ≡ [] → IsCheckMet Any names (site d (exits w s))
  met-exit w s h = record { shared = refl; accepts = refl; selects = refl; twice = refl; reserved = refl; main = refl; order = refl; bodies = refl; exits = h; raises = refl; limits = refl }

  pub met-raise : (s : Span) → raise_place d (raises_again s) ≡ [] → IsCheckMet Any names (site d (raises_again s))
  met-raise s h = record { shared = refl; accepts = refl; selects = refl; twice = refl; reserved = refl; main = refl; order = refl; bodies = refl; exits = refl; raises = h; limits = refl }

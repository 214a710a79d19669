-- A world to which a normal form comes is that behind some moves, and what each operation keeps of a task is kept there.
use Rattle.std.proofs.Common.{◌≡◌, ℕ, true, List, [], ◌∷◌, ◌++◌, refl, sym, ap, ◌∙◌, subst}
use Rattle.event_machine.specs.States.{Seat, State}
use Rattle.event_machine.specs.Worlds.{World, Move, world_of, can_move, moved, AreMoves, world_after}
use Rattle.event_machine.proofs.Appends.{moves_append, world_append}
use Rattle.ada_tree.specs.PlainStmt.{PCallee, SAbort}
use Rattle.task_model.specs.Tasks.{Task}
use Rattle.task_model.specs.TaskOps.{task_ops}
use Rattle.task_laws.specs.statements.Each.{Loops, HoldsOf}
use Rattle.task_laws.specs.statements.Laws.{StaysSo}
use Rattle.ada_tree.specs.declared.naming.Span.{Span}
use Rattle.task_laws.proofs.statements.Carried.{stays-so}
use Rattle.table_law.proofs.runs.Keeping.{AllKeep, all_keep}
use Rattle.collect_runs.specs.telling.Texts.{Texts, program_of}
use Rattle.collect_runs.specs.imitating.Settings.{IsMade, Opened, Went}
use Rattle.collect_runs.specs.starts.Laws.{IsNoAbort}

module _ (x : Texts) (opening : State (ℕ → Seat Task)) where
  -- The moves that lead to a world.
  pub record HasMoves (w : World Task) : Type 0 where
    pub moves : List Move
    pub made : AreMoves (program_of x) (world_of opening) moves
    pub ends : world_after (program_of x) (world_of opening) moves ≡ w

  pub has-moves : (w : World Task) → IsMade x opening w → HasMoves w
  has-moves w Opened = record { moves = []; made = tt; ends = refl }
  has-moves w (Went v move made can) =
      let before : HasMoves v = has-moves v made in
      record {
        moves = before.moves ++ (move ∷ []);
        made = moves_append (program_of x) (world_of opening) before.moves (move ∷ []) before.made (subst (λ u. can_move (program_of x) u move ≡ true) (sym before.ends) can, tt);
        ends = world_append (program_of x) (world_of opening) before.moves (move ∷ []) ∙ ap (λ u. moved (program_of x) u move) before.ends;
      }

-- ---- no abort statements

-- an abort statement without its first name is none where the whole is none
none-left : (loops : Loops) (c d : PCallee) (cs : List PCallee) (s : Span) → IsNoAbort loops (SAbort (c ∷ d ∷ cs) s) → IsNoAbort loops (SAbort (d ∷ cs) s)
none-left loops c d cs s h = h

so : (t : Task) → HoldsOf IsNoAbort t → StaysSo IsNoAbort t
so t h = stays-so IsNoAbort none-left t h

no-aborts-kept : AllKeep task_ops (λ u t. HoldsOf IsNoAbort t)
no-aborts-kept = record {
  stepped = λ u t h. (so t h).stepped;
  accepted = λ e i c caller u t h. (so t h).accepted e i c caller;
  finished = λ u t h. (so t h).finished;
  resumed = λ acceptor u t h. (so t h).resumed acceptor;
  raised = λ u t h. (so t h).raised;
  took_else = λ u t h. (so t h).took_else;
  took_delay = λ k u t h. (so t h).took_delay k;
  passed = λ u t h. (so t h).passed;
}

-- So none stands in a task, wherever it has come, where none did at the start.
pub no-aborts-there : (x : Texts) (opening : State (ℕ → Seat Task)) → ((t : ℕ) → HoldsOf IsNoAbort (opening.seats t).local) → (w : World Task) → IsMade x opening w → (t : ℕ) →
    HoldsOf IsNoAbort (w.tasks t).local
no-aborts-there x opening first w made t =
    let m : HasMoves x opening w = has-moves x opening w made in
    subst (λ (v : World Task). HoldsOf IsNoAbort (v.tasks t).local) m.ends (all_keep (program_of x) (λ u l. HoldsOf IsNoAbort l) no-aborts-kept m.moves (world_of opening) first t)

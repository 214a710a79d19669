-- The recorder's body in a text with abort statements is well placed, and so are the variables of places.
use Rattle.std.proofs.Common.{ℕ, ◌+◌, ◌≤◌, Bool, true, false, List, [], ◌∷◌, length, All, inl, arith}
use Rattle.std.specs.List.{AllByRecursion}
use Rattle.std.proofs.lemmas.List.Elements.{All-from_recursion}
use Rattle.ada_tree.specs.declared.naming.NameId.{NameId}
use Rattle.ada_tree.specs.declared.naming.Span.{Span}
use Rattle.ada_tree.specs.Lexical.{IsInteger, IsStringContent}
use Rattle.ada_tree.specs.declared.expressions.BinaryOp.TheVariants.{Equal}
use Rattle.ada_tree.specs.PlainExpr.{EName, EBinary}
use Rattle.ada_tree.specs.PlainStmt.{PWords, PValue}
use Rattle.ada_tree.specs.Every.{Rules, EveryWord, EveryExpr, EveryPart, EveryChoice, EveryFormal, EveryStmt, EveryDecl}
use Rattle.ada_tree.specs.WellPlaced.{well_placed}
use Rattle.task_model.specs.Setting.{Setting}
use Rattle.task_laws.specs.legal.asked.Kinds.{place_asks}
use Rattle.task_laws.proofs.legal.asked.Placed.{asked_placed}
use Rattle.normal_model.specs.Ranges.{word_at}
use Rattle.normal_laws.specs.structure.placed.Placeable.{IsName}
use Rattle.collect_model.specs.declared.AddedNames.{AddedNames}
use Rattle.collect_model.specs.Noting.{number}
use Rattle.collect_model.specs.Recording.{truth, note_formals, flags_declared}
use Rattle.syn_event.specs.declared.numbering.TaskInfo.{TaskInfo}
use Rattle.normal_laws.specs.structure.asked.Pieces.{named}
use Rattle.replay_model.specs.ReplayTree.{last_task}
use Rattle.collect_structure.proofs.placed.Named.{AreAdded}
use Rattle.collect_model.specs.aborts.AbortTeller.{AbortTeller}
use Rattle.collect_model.specs.aborts.AbortTree.{taken_declared, refused_declared}
use Rattle.collect_model.specs.aborts.Recording.{entry_for, stands_now, calls_declared, is_meeting, choice_of, recorder_body}
use Rattle.collect_structure.specs.aborts.asked.Recorder.{recorder_its, abortable, RecorderPieces}
use Rattle.collect_structure.proofs.aborts.asked.Recorder.{recorder-asked}
use Rattle.collect_structure.proofs.aborts.placed.Named.{ArePlaces}

module _ (g : Setting) (names' : List (List ℕ)) (x : AbortTeller) (known : AreAdded g names' x.teller.added) (places : ArePlaces names' x)
    (last_few : IsInteger (last_task x.teller.numbers)) (s : Span) where
  abbrev n : AddedNames
  n = x.teller.added

  abbrev r : Rules
  r = well_placed names'

  truth-placed : (b : Bool) (k : ℕ) → k ≤ 300 → EveryExpr r k (truth s b)
  truth-placed true k le = (le, known.first 5 (omega arith))
  truth-placed false k le = (le, known.first 4 (omega arith))

  -- ---- declarations

  formals-placed : All (EveryFormal r) (note_formals n s)
  formals-placed =
      All-from_recursion (EveryFormal r) (note_formals n s) (
        (
          (
            omega arith,
            All-from_recursion (EveryWord r) (word_at s n.kind ∷ word_at s n.subject ∷ word_at s n.argument ∷ word_at s n.index ∷ word_at s n.owner ∷ [])
                (known.kind, (known.subject, (known.argument, (known.index, (known.owner, tt))))),
          ),
          known.first 0 (omega arith),
        ),
        (((omega arith, All-from_recursion (EveryWord r) (word_at s n.reply ∷ []) (known.reply, tt)), known.first 3 (omega arith)), tt),
      )

  flags-placed : (flags : NameId) → IsName names' flags → EveryDecl r (flags_declared n s flags)
  flags-placed flags i = (omega arith, (omega arith, All-from_recursion (EveryWord r) (word_at s flags ∷ []) (i, tt)), (known.flags, tt), tt, truth-placed false 2 (omega arith))

  -- the tables of calls
  calls-placed : EveryDecl r (calls_declared x s)
  calls-placed = (
    omega arith,
    (omega arith, All-from_recursion (EveryWord r) (word_at s n.met ∷ word_at s x.acceptors ∷ []) (known.met, (places.acceptors, tt))),
    (((omega arith, omega arith), (omega arith, omega arith), (omega arith, last_few)), (known.first 0 (omega arith), tt)),
    tt,
    (omega arith, omega arith),
  )

  -- the variables of a place
  pub taken-declared : (p : ℕ) → EveryDecl r (taken_declared s (x.taken p))
  taken-declared p = (omega arith, (omega arith, All-from_recursion (EveryWord r) (word_at s (x.taken p) ∷ []) (places.taken p, tt)), (known.first 0 (omega arith), tt), tt, (omega arith, omega arith))

  pub refused-declared : (p : ℕ) → EveryDecl r (refused_declared s (x.refused p))
  refused-declared p = (
    omega arith,
    (omega arith, All-from_recursion (EveryWord r) (word_at s (x.refused p) ∷ []) (places.refused p, tt)),
    (known.first 3 (omega arith), tt),
    tt,
    truth-placed false 2 (omega arith),
  )

  -- ---- the body

  entry-placed : (table task : NameId) (k : ℕ) → k ≤ 200 → IsName names' table → IsName names' task → EveryExpr r k (entry_for s table task)
  entry-placed table task k le i j = (omega (arith, le), i, (omega (arith, le), j))

  stands-placed : (task : NameId) (k m : ℕ) → m ≤ 7 → k ≤ 200 → IsName names' task → EveryExpr r k (EBinary Equal (entry_for s n.met task) (number s m) s)
  stands-placed task k m few le i = (omega (arith, le), (inl (omega arith), omega arith), (omega (arith, le), known.met, (omega (arith, le), i)), (omega (arith, le), omega (arith, few)))

  meeting-placed : (a b : NameId) (k : ℕ) → k ≤ 190 → IsName names' a → IsName names' b → EveryExpr r k (is_meeting x s a b)
  meeting-placed a b k le i j = (
    omega (arith, le),
    (inl (omega arith), omega arith),
    stands-placed a (k + 1) 1 (omega arith) (omega (arith, le)) i,
    (omega (arith, le), (inl (omega arith), omega arith), (omega (arith, le), places.acceptors, (omega (arith, le), i)), (omega (arith, le), j)),
  )

  now-placed : (task : NameId) (k m : ℕ) → m ≤ 3 → k ≤ 20 → IsName names' task → EveryStmt r k (stands_now n s task m)
  now-placed task k m few le i = (omega (arith, le), (known.met, (omega (arith, le), i)), (omega (arith, le), omega (arith, few)))

  named-placed : (infos : List TaskInfo) → AllByRecursion (λ (info : TaskInfo). IsName names' info.name) infos →
      AllByRecursion (λ (info : TaskInfo). (place_asks r).aborts tt 8 (named (word_at s info.name) ∷ []) × (place_asks r).callee tt 8 (named (word_at s info.name))) infos
  named-placed [] h = tt
  named-placed (info ∷ infos) h = ((omega arith, (h.0, tt)), named-placed infos h.1)

  pieces : (header : List ℕ) → IsStringContent header → length (abortable x) ≤ 2147483647 →
      AllByRecursion (λ (info : TaskInfo). IsName names' info.name) (abortable x) → RecorderPieces x s header (place_asks r) tt tt tt
  pieces header h short all = record {
    some = λ m. omega arith;
    handlers = tt;
    outer = λ k le. omega (arith, le);
    heading = (omega arith, (omega arith, All-from_recursion (EveryPart r 2) (PWords header s ∷ []) (h, tt)));
    loop = (tt, tt);
    wait = tt;
    within = λ k le. omega (arith, le);
    head = (omega arith, (known.note, tt, formals-placed));
    taken = λ k le. omega (arith, le);
    answers = λ k b le. (omega (arith, le), (known.reply, tt), truth-placed b _ (omega (arith, le)));
    selects = (omega arith, known.kind);
    chooses = λ kind few. (omega arith, All-from_recursion (EveryChoice r 6) (choice_of s kind ∷ []) (((omega arith, omega (arith, few)), tt), tt));
    chooses_back = (omega arith, All-from_recursion (EveryChoice r 6) (choice_of s 7 ∷ choice_of s 10 ∷ []) (((omega arith, omega arith), tt), (((omega arith, omega arith), tt), tt)));
    null = λ k le. omega (arith, le);
    ends_line = λ k le. omega (arith, le);
    words = λ k t i le. (omega (arith, le), (omega arith, All-from_recursion (EveryPart r (k + 1)) (PWords t s ∷ []) (i, tt)));
    subject = λ k le. (omega (arith, le), (omega arith, All-from_recursion (EveryPart r (k + 1)) (PValue (EName n.subject s) ∷ []) ((omega (arith, le), known.subject), tt)));
    argument = λ k le. (omega (arith, le), (omega arith, All-from_recursion (EveryPart r (k + 1)) (PValue (EName n.argument s) ∷ []) ((omega (arith, le), known.argument), tt)));
    index = λ k le. (omega (arith, le), (omega arith, All-from_recursion (EveryPart r (k + 1)) (PValue (EName n.index s) ∷ []) ((omega (arith, le), known.index), tt)));
    acceptor =
        λ k le. (
          omega (arith, le),
          (
            omega arith,
            All-from_recursion (EveryPart r (k + 1)) (PValue (entry_for s x.acceptors n.subject) ∷ [])
                (entry-placed x.acceptors n.subject (k + 1) (omega (arith, le)) places.acceptors known.subject, tt),
          ),
        );
    subject_gone = λ k le. (omega (arith, le), (known.gone, (omega (arith, le), known.subject)), truth-placed true _ (omega (arith, le)));
    argument_gone = λ k le. (omega (arith, le), (known.gone, (omega (arith, le), known.argument)), truth-placed true _ (omega (arith, le)));
    subject_stands = λ k m few le. now-placed n.subject k m few le known.subject;
    argument_stands = λ k m few le. now-placed n.argument k m few le known.argument;
    accepted_by = λ k le. (omega (arith, le), (places.acceptors, (omega (arith, le), known.subject)), (omega (arith, le), known.owner));
    owner_is_gone = λ k le. entry-placed n.gone n.owner k (omega (arith, le)) known.gone known.owner;
    subject_is_gone = λ k le. entry-placed n.gone n.subject k (omega (arith, le)) known.gone known.subject;
    meets = λ k le. meeting-placed n.argument n.subject k (omega (arith, le)) known.argument known.subject;
    subject_at = λ k m few le. stands-placed n.subject k m (omega (arith, few)) (omega (arith, le)) known.subject;
    unaccepted = λ k le. (
      omega (arith, le),
      (inl (omega arith), omega arith),
      stands-placed n.subject (k + 1) 0 (omega arith) (omega (arith, le)) known.subject,
      (omega (arith, le), (inl (omega arith), omega arith), (omega (arith, le), known.kind), (omega (arith, le), omega arith)),
    );
    goes_through = λ k le. (tt, (places.each, ((omega arith, omega arith), (omega (arith, le), omega arith), (omega (arith, le), last_few))));
    within_loop = λ k le. omega (arith, le);
    has_lost = λ k le. meeting-placed x.each n.argument k (omega (arith, le)) places.each known.argument;
    loses = λ k le. now-placed x.each k 3 (omega arith) le places.each;
    selects_task = (omega arith, known.argument);
    chooses_task = λ u few. (omega arith, All-from_recursion (EveryChoice r 7) (choice_of s u ∷ []) (((omega arith, omega (arith, few, short)), tt), tt));
    aborts = named-placed (abortable x) all;
  }

  pub recorder-placed : (header : List ℕ) → IsStringContent header → length (abortable x) ≤ 2147483647 →
      AllByRecursion (λ (info : TaskInfo). IsName names' info.name) (abortable x) → EveryDecl r (recorder_body x s header)
  recorder-placed header h short all = (
    omega arith,
    known.recorder,
    tt,
    (flags-placed n.gone known.gone, (calls-placed, tt)),
    asked_placed r 1 (recorder_its x s header) (recorder-asked x s header (place_asks r) tt (pieces header h short all)),
  )

-- The recorder's declaration and its body are well placed.
use Rattle.std.proofs.Common.{ℕ, ◌+◌, ◌≤◌, Bool, true, false, List, [], ◌∷◌, All, None, arith}
use Rattle.std.specs.List.{AllByRecursion}
use Rattle.std.proofs.lemmas.List.Elements.{All-from_recursion}
use Rattle.ada_tree.specs.declared.naming.NameId.{NameId}
use Rattle.ada_tree.specs.declared.naming.Span.{Span}
use Rattle.ada_tree.specs.Lexical.{IsInteger, IsStringContent}
use Rattle.ada_tree.specs.PlainExpr.{EName}
use Rattle.ada_tree.specs.PlainStmt.{PWords, PValue}
use Rattle.ada_tree.specs.Every.{Rules, EveryWord, EveryExpr, EveryPart, EveryChoice, EveryFormal, EveryEntry, EveryPriority, EveryDecl}
use Rattle.ada_tree.specs.WellPlaced.{well_placed}
use Rattle.task_model.specs.Setting.{Setting}
use Rattle.task_laws.specs.legal.asked.Kinds.{place_asks}
use Rattle.task_laws.proofs.legal.asked.Placed.{asked_placed}
use Rattle.normal_model.specs.Ranges.{word_at}
use Rattle.normal_laws.specs.structure.placed.Placeable.{IsName}
use Rattle.collect_model.specs.declared.AddedNames.{AddedNames}
use Rattle.collect_model.specs.Noting.{number}
use Rattle.collect_model.specs.Recording.{truth, note_formals, flag_of, flags_declared, recorder_declared, recorder_body}
use Rattle.collect_model.specs.CollectTree.{unit_declared, main_declared}
use Rattle.collect_structure.specs.asked.Recorder.{recorder_its, RecorderPieces}
use Rattle.collect_structure.proofs.asked.Recorder.{recorder-asked}
use Rattle.collect_structure.proofs.placed.Named.{AreAdded}
use Rattle.collect_structure.proofs.texts.Listed.{all-main}

module _ (g : Setting) (names' : List (List ℕ)) (n : AddedNames) (known : AreAdded g names' n) (s : Span) where
  abbrev r : Rules
  r = well_placed names'

  truth-placed : (b : Bool) (k : ℕ) → k ≤ 300 → EveryExpr r k (truth s b)
  truth-placed true k le = (le, known.first 5 (omega arith))
  truth-placed false k le = (le, known.first 4 (omega arith))

  -- ---- declarations

  formals-placed : All (EveryFormal r) (note_formals n s)
  formals-placed =
      All-from_recursion (EveryFormal r) (note_formals n s) (
        ((omega arith, All-from_recursion (EveryWord r) (word_at s n.kind ∷ word_at s n.subject ∷ word_at s n.argument ∷ word_at s n.index ∷ word_at s n.owner ∷ []) (known.kind, (known.subject, (known.argument, (known.index, (known.owner, tt)))))), known.first 0 (omega arith)),
        (((omega arith, All-from_recursion (EveryWord r) (word_at s n.reply ∷ []) (known.reply, tt)), known.first 3 (omega arith)), tt),
      )

  pub recorder-declared : EveryDecl r (recorder_declared n s)
  recorder-declared = (
    omega arith,
    (known.recorder, All-from_recursion (EveryEntry r) (record { name = word_at s n.note; family = None; formals = note_formals n s; span = s } ∷ []) ((omega arith, known.note, tt, formals-placed), tt), All-from_recursion (EveryPriority r) [] tt, tt),
  )

  flags-placed : (flags : NameId) → IsName names' flags → EveryDecl r (flags_declared n s flags)
  flags-placed flags i = (omega arith, (omega arith, All-from_recursion (EveryWord r) (word_at s flags ∷ []) (i, tt)), (known.flags, tt), tt, truth-placed false 2 (omega arith))

  -- what each unit declares more
  pub unit-placed : AllByRecursion (EveryDecl r) (unit_declared n s)
  unit-placed = (
    (omega arith, (omega arith, All-from_recursion (EveryWord r) (word_at s n.answer ∷ []) (known.answer, tt)), (known.first 3 (omega arith), tt), tt, truth-placed false 2 (omega arith)),
    ((omega arith, (omega arith, All-from_recursion (EveryWord r) (word_at s n.part ∷ []) (known.part, tt)), (known.first 0 (omega arith), tt), tt, (omega arith, omega arith)), tt),
  )

  -- what main declares more
  pub main-placed : (instance : Bool) (last : ℕ) → IsInteger last → AllByRecursion (EveryDecl r) (main_declared n s instance last)
  main-placed instance last few =
      all-main (EveryDecl r) n s instance last (
        (omega arith, known.int_io),
        ((omega arith, known.flags, ((omega arith, omega arith), (omega arith, omega arith), (omega arith, few)), (known.first 3 (omega arith), tt)), unit-placed),
      )

  -- ---- the body

  flag-placed : (flags task : NameId) (k : ℕ) → k ≤ 200 → IsName names' flags → IsName names' task → EveryExpr r k (flag_of s flags task)
  flag-placed flags task k le i j = (omega (arith, le), i, (omega (arith, le), j))

  pieces : (header : List ℕ) → IsStringContent header → RecorderPieces n s header (place_asks r) tt
  pieces header h = record {
    some = λ m. omega arith;
    handlers = tt;
    outer = λ k le. omega (arith, le);
    heading = (omega arith, (omega arith, All-from_recursion (EveryPart r 2) (PWords header s ∷ []) (h, tt)));
    loop = (tt, tt);
    wait = tt;
    within = λ k le. omega (arith, le);
    head = (omega arith, (known.note, tt, formals-placed));
    taken = λ k le. omega (arith, le);
    answers = λ k b le. (omega (arith, le), (known.reply, tt), truth-placed b _ (omega (arith, le)));
    selects = (omega arith, known.kind);
    chooses = λ kind few. (omega arith, All-from_recursion (EveryChoice r 6) (record { first = number s kind; last = None } ∷ []) (((omega arith, omega (arith, few)), tt), tt));
    null = λ k le. omega (arith, le);
    ends_line = λ k le. omega (arith, le);
    words = λ k t i le. (omega (arith, le), (omega arith, All-from_recursion (EveryPart r (k + 1)) (PWords t s ∷ []) (i, tt)));
    subject = λ k le. (omega (arith, le), (omega arith, All-from_recursion (EveryPart r (k + 1)) (PValue (EName n.subject s) ∷ []) ((omega (arith, le), known.subject), tt)));
    argument = λ k le. (omega (arith, le), (omega arith, All-from_recursion (EveryPart r (k + 1)) (PValue (EName n.argument s) ∷ []) ((omega (arith, le), known.argument), tt)));
    index = λ k le. (omega (arith, le), (omega arith, All-from_recursion (EveryPart r (k + 1)) (PValue (EName n.index s) ∷ []) ((omega (arith, le), known.index), tt)));
    sets_gone = λ k le. (omega (arith, le), (known.gone, (omega (arith, le), known.subject)), truth-placed true _ (omega (arith, le)));
    sets_met = λ k b le. (omega (arith, le), (known.met, (omega (arith, le), known.subject)), truth-placed b _ (omega (arith, le)));
    is_gone = λ k le. flag-placed n.gone n.owner k (omega (arith, le)) known.gone known.owner;
    not_met = λ k le. (omega (arith, le), omega arith, flag-placed n.met n.subject _ (omega (arith, le)) known.met known.subject);
  }

  pub recorder-placed : (header : List ℕ) → IsStringContent header → EveryDecl r (recorder_body n s header)
  recorder-placed header h = (
    omega arith,
    known.recorder,
    tt,
    (flags-placed n.gone known.gone, (flags-placed n.met known.met, tt)),
    asked_placed r 1 (recorder_its n s header) (recorder-asked n s header (place_asks r) tt (pieces header h)),
  )

-- A test that tells the tasks that can come about.
use Rattle.std.proofs.Common.{◌≡◌, Bool, true, false, List, [], ◌∷◌, refl, true≢false, sym}
use Rattle.event_machine.specs.States.{Ops}
use Rattle.event_machine.specs.Lawful.{IsLawful, Keeps}
use Rattle.task_model.specs.Frames.{Around, OwnBody, Block, Handling, Loop, Opened, PFrame}
use Rattle.task_model.specs.Tasks.{Task}
use Rattle.task_model.specs.Laws.{IsStack, IsProper}

-- ---- tasks that are proper by one test are so by the other

module _ {L : Type 0} (ops : Ops L) (P Q : L → Type 0) (to : (l : L) → P l → Q l) (back : (l : L) → Q l → P l) (lawful : IsLawful ops P) where
  keeps : (l after : L) → Keeps ops P l after → Keeps ops Q l after
  keeps l after k = (to after k.0, k.1)

  -- The rules of tasks are kept, whichever of the two tells which tasks can come about.
  pub lawful_by : IsLawful ops Q
  lawful_by = record {
    rests = lawful.rests;
    stepped = λ l q h. keeps l (ops.stepped l) (lawful.stepped l (back l q) h);
    resumed = λ acceptor l a q. keeps l (ops.resumed acceptor l) (lawful.resumed acceptor l (back acceptor a) (back l q));
    raised = λ l q. keeps l (ops.raised l) (lawful.raised l (back l q));
    took_else = λ l q. keeps l (ops.took_else l) (lawful.took_else l (back l q));
    took_delay = λ k l q. keeps l (ops.took_delay k l) (lawful.took_delay k l (back l q));
    passed = λ l q. keeps l (ops.passed l) (lawful.passed l (back l q));
    accepted = λ e i c caller l a q h.
        let k = lawful.accepted e i c caller l (back caller a) (back l q) h in
        (to (ops.accepted e i c caller l) k.0, k.1);
    finished = λ l q h. let k = lawful.finished l (back l q) h in (k.0, to (ops.finished l) k.1, k.2);
    ended = λ l q h. lawful.ended l (back l q) h;
  }

-- ---- the test of a program's tasks

-- the frames stand so, told by a test
abbrev pub is_stack : Around → List PFrame → Bool
is_stack (OwnBody handlers taken) [] = true
is_stack (OwnBody handlers taken) (part ∷ parts) = false
is_stack place [] = false
is_stack place (part ∷ parts) = is_stack part.place parts

abbrev pub is_proper : Task → Bool
is_proper t = is_stack t.control.top.place t.control.outer

stack_yes : (parts : List PFrame) (place : Around) → IsStack place parts → is_stack place parts ≡ true
stack_yes [] (OwnBody handlers taken) h = refl
stack_yes (part ∷ parts) (OwnBody handlers taken) h = absurd (let k : ◌≡◌ {A = List PFrame} (part ∷ parts) [] = h in cc)
stack_yes [] (Block handlers) h = absurd h
stack_yes [] (Handling x) h = absurd h
stack_yes [] (Loop name turns stmts) h = absurd h
stack_yes [] (Opened caller formals pending) h = absurd h
stack_yes (part ∷ parts) (Block handlers) h = stack_yes parts part.place h
stack_yes (part ∷ parts) (Handling x) h = stack_yes parts part.place h
stack_yes (part ∷ parts) (Loop name turns stmts) h = stack_yes parts part.place h
stack_yes (part ∷ parts) (Opened caller formals pending) h = stack_yes parts part.place h

yes_stack : (parts : List PFrame) (place : Around) → is_stack place parts ≡ true → IsStack place parts
yes_stack [] (OwnBody handlers taken) h = refl
yes_stack (part ∷ parts) (OwnBody handlers taken) h = absurd (true≢false (sym h))
yes_stack [] (Block handlers) h = absurd (true≢false (sym h))
yes_stack [] (Handling x) h = absurd (true≢false (sym h))
yes_stack [] (Loop name turns stmts) h = absurd (true≢false (sym h))
yes_stack [] (Opened caller formals pending) h = absurd (true≢false (sym h))
yes_stack (part ∷ parts) (Block handlers) h = yes_stack parts part.place h
yes_stack (part ∷ parts) (Handling x) h = yes_stack parts part.place h
yes_stack (part ∷ parts) (Loop name turns stmts) h = yes_stack parts part.place h
yes_stack (part ∷ parts) (Opened caller formals pending) h = yes_stack parts part.place h

-- The test tells just the tasks that can come about.
pub proper_yes : (t : Task) → IsProper t → is_proper t ≡ true
proper_yes t h = stack_yes t.control.outer t.control.top.place h

pub yes_proper : (t : Task) → is_proper t ≡ true → IsProper t
yes_proper t h = yes_stack t.control.outer t.control.top.place h

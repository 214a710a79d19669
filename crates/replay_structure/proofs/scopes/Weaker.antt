-- A body that is as one asks is as another asks, where each piece is.
use Rattle.std.proofs.Common.{ℕ, Bool, List, [], ◌∷◌, Option}
use Rattle.std.specs.List.{AllByRecursion}
use Rattle.ada_tree.specs.declared.naming.Span.{Span}
use Rattle.ada_tree.specs.declared.naming.Word.{Word}
use Rattle.ada_tree.specs.PlainExpr.{PExpr}
use Rattle.ada_tree.specs.PlainStmt.{PCallee, PCall, PChoice, PScheme, PHead, PStmt, PAlts, PBody, PHandlers}
use Rattle.task_laws.specs.legal.asked.Asked.{Asks, AskedBody}
use Rattle.normal_laws.proofs.legality.asked.Steps.{Steps, steps_asked}

-- each piece that is as the first asks is as the second asks, where what stands around is related by R
pub record AsksLess {C D : Type 0} (a : Asks C) (b : Asks D) (R : C → D → Type 0) : Type 0 where
  pub outer : (c : C) (d : D) (k : ℕ) (s : Span) → R c d → a.outer c k s → b.outer d k s
  pub many : (n : ℕ) → a.many n → b.many n
  pub duration : (n : ℕ) → a.duration n → b.duration n
  pub plain : (c : C) (d : D) (k : ℕ) (x : PStmt) → R c d → a.plain c k x → b.plain d k x
  pub callee : (c : C) (d : D) (k : ℕ) (x : PCallee) → R c d → a.callee c k x → b.callee d k x
  pub call : (c : C) (d : D) (k : ℕ) (x : PCall) → R c d → a.call c k x → b.call d k x
  pub aborts : (c : C) (d : D) (k : ℕ) (xs : List PCallee) → R c d → a.aborts c k xs → b.aborts d k xs
  pub condition : (c : C) (d : D) (k : ℕ) (e : PExpr) → R c d → a.condition c k e → b.condition d k e
  pub selector : (c : C) (d : D) (k : ℕ) (e : PExpr) (xs : List PChoice) (others : Bool) (s : Span) → R c d → a.selector c k e xs others s → b.selector d k e xs others s
  pub choices : (c : C) (d : D) (k : ℕ) (e : PExpr) (xs : List PChoice) → R c d → a.choices c k e xs → b.choices d k e xs
  pub loop : (c : C) (d : D) (k : ℕ) (w : Option Word) (x : Option PScheme) → R c d → a.loop c k w x → b.loop d k w x
  pub head : (c : C) (d : D) (k : ℕ) (h : PHead) → R c d → a.head c k h → b.head d k h
  pub wait : (c : C) (d : D) (k : ℕ) (x : PAlts) (others : Bool) (s : Span) → R c d → a.wait c k x others s → b.wait d k x others s
  pub delay : (c : C) (d : D) (k : ℕ) (e : Option PExpr) (s : Span) → R c d → a.delay c k e s → b.delay d k e s
  pub handlers : (hs : PHandlers) → a.handlers hs → b.handlers hs
  pub handler : (c : C) (d : D) (k : ℕ) (names : List ℕ) (ws : List Word) → R c d → a.handler c k names ws → b.handler d k names ws
  pub accepting : (c : C) (d : D) (h : PHead) → R c d → R (a.accepting c h) (b.accepting d h)
  pub looping : (c : C) (d : D) (w : Option Word) (x : Option PScheme) → R c d → R (a.looping c w x) (b.looping d w x)
  pub handling : (c : C) (d : D) → R c d → R (a.handling c) (b.handling d)

module _ {C D : Type 0} (a : Asks C) (b : Asks D) (R : C → D → Type 0) (l : AsksLess a b R) where
  callees : (c : C) (d : D) (k : ℕ) (xs : List PCallee) → R c d → AllByRecursion (a.callee c k) xs → AllByRecursion (b.callee d k) xs
  callees c d k [] r h = tt
  callees c d k (x ∷ xs) r h = (l.callee c d k x r h.0, callees c d k xs r h.1)

  steps : Steps a b R
  steps = record {
    outer = l.outer;
    many = l.many;
    duration = l.duration;
    plain = l.plain;
    callee = l.callee;
    call = λ c d k x r i h. l.call c d k x r h;
    aborts = λ c d k xs r h i. l.aborts c d k xs r h;
    aborted = λ c d k xs r i h. callees c d k xs r h;
    condition = l.condition;
    selector = l.selector;
    choices = l.choices;
    loop = l.loop;
    looping = λ c d k w x r h. l.looping c d w x r;
    head = l.head;
    accepting = λ c d k x r h. l.accepting c d x r;
    wait = l.wait;
    delay = l.delay;
    handlers = l.handlers;
    handler = l.handler;
    handling = l.handling;
  }

  -- So is a whole body.
  pub asked_less : (c : C) (d : D) (k : ℕ) (x : PBody) → R c d → AskedBody a c k x → AskedBody b d k x
  asked_less c d k x r h = steps_asked a b R steps c d k x r h

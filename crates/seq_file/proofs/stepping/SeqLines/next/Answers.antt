use Rattle.std.proofs.Common.{◌≡◌, ◌∙◌, sym, subst, arith, false, [], ◌∷◌, length-append}
use Rattle.seq_file.specs.Files.{has_ended}
use Rattle.seq_file.specs.inner.NextEvents.{IsEventLine}
use Rattle.seq_file.proofs.Filing.{read-line, push-ended}
use Rattle.seq_file.proofs.stepping.SeqLines.next.Goals as goal

pub returns-in-Ok-clause-answers : goal.returns-in-Ok-clause-answers
returns-in-Ok-clause-answers c = λ bytes numbers names events at.
    let event = c.in-Ok.event in
    let going : has_ended events ≡ false = sym at.ended ∙ c.in-Ok.ensures.read.0 in
    record {
      short = at.short;
      read =
          read-line bytes numbers names events c.args.self.now.rest.now c.in-Ok.behind.now event at.short at.read going
          (subst (λ n. IsEventLine n c.args.self.now.rest.now event c.in-Ok.behind.now) at.same c.in-Ok.ensures.read.1);
      same = at.same;
      count = omega (arith, at.count, length-append events (event ∷ []));
      ended = c.is_end-self.ensures ∙ sym (push-ended events event going);
      going = at.going;
    }

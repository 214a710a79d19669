use Rattle.std.proofs.Common.{Option, Some, [], ap, map, refl, string_bytes, subst, sym, ◌∙◌}
use Rattle.debug_outcome.specs.words.Words.{Asked}
use Rattle.debug_outcome.specs.words.Commands.{asked_as}
use Rattle.debug_outcome.specs.Delivery.{Sides}
use Rattle.debug_outcome.specs.declared.refusal.Refusal.TheVariants.{Usage}
use Rattle.debug_outcome.proofs.Comings.{ends_done, ends_stopped, told_alone}
use Rattle.debug_core.specs.Answers.{Answers, CallsFor, GrowsFor}
use Rattle.debug_core.proofs.FewProducers.{few_producers}
use Rattle.debug_core.proofs.top.debug_main.Goals as goal

-- a number of producers in the words is few
pub carry_out-requires : goal.carry_out-requires
carry_out-requires g c n is = few_producers (map string_bytes c.args.words.now) n (ap (λ x. Some (asked_as x)) (sym is) ∙ c.in-Some.ensures)

pub returns-in-Ok : goal.returns-in-Ok
returns-in-Ok g c =
    let s : Sides = record {
      files = g.F.Files.told c.args.files.now;
      file_faults = g.F.Files.faults c.args.files.now;
      file_faults' = g.F.Files.faults c.carry_out.new.files;
      loads = c.in-Ok.ensures.loads;
      out = g.O.Sink.told c.args.out.now;
      out' = g.O.Sink.told c.carry_out.new.out;
      out_faults = g.O.Sink.faults c.args.out.now;
      out_faults' = g.O.Sink.faults c.carry_out.new.out;
      err = g.E.Sink.told c.args.err.now;
      err' = g.E.Sink.told c.args.err.now;
      err_faults = g.E.Sink.faults c.args.err.now;
      err_faults' = g.E.Sink.faults c.args.err.now;
    } in
    record {
      answer = record {
        loads = c.in-Ok.ensures.loads;
        led = c.in-Ok.ensures.led;
        is_so =
            subst (λ (a : Option Asked). Answers a s c.in-Ok.status) c.in-Some.ensures
            (ends_done (CallsFor (asked_as c.in-Some.command) s.files s.file_faults s.file_faults' s.loads) (GrowsFor (asked_as c.in-Some.command) s.files s.file_faults s.file_faults' s.loads) s c.in-Ok.status c.in-Ok.ensures.is_so refl refl);
      };
    }

pub returns-in-Err : goal.returns-in-Err
returns-in-Err g c =
    let s : Sides = record {
      files = g.F.Files.told c.args.files.now;
      file_faults = g.F.Files.faults c.args.files.now;
      file_faults' = g.F.Files.faults c.carry_out.new.files;
      loads = c.in-Err.ensures.loads;
      out = g.O.Sink.told c.args.out.now;
      out' = g.O.Sink.told c.carry_out.new.out;
      out_faults = g.O.Sink.faults c.args.out.now;
      out_faults' = g.O.Sink.faults c.carry_out.new.out;
      err = g.E.Sink.told c.args.err.now;
      err' = g.E.Sink.told c.tell.new.err;
      err_faults = g.E.Sink.faults c.args.err.now;
      err_faults' = g.E.Sink.faults c.tell.new.err;
    } in
    record {
      answer = record {
        loads = c.in-Err.ensures.loads;
        led = c.in-Err.ensures.led;
        is_so =
            subst (λ (a : Option Asked). Answers a s c.tell.result) c.in-Some.ensures
            (ends_stopped (CallsFor (asked_as c.in-Some.command) s.files s.file_faults s.file_faults' s.loads) (GrowsFor (asked_as c.in-Some.command) s.files s.file_faults s.file_faults' s.loads) s c.in-Err.stop c.tell.result c.in-Err.ensures.is_so c.tell.ensures);
      };
    }

pub returns-in-None : goal.returns-in-None
returns-in-None g c =
    let s : Sides = record {
      files = g.F.Files.told c.args.files.now;
      file_faults = g.F.Files.faults c.args.files.now;
      file_faults' = g.F.Files.faults c.args.files.now;
      loads = [];
      out = g.O.Sink.told c.args.out.now;
      out' = g.O.Sink.told c.args.out.now;
      out_faults = g.O.Sink.faults c.args.out.now;
      out_faults' = g.O.Sink.faults c.args.out.now;
      err = g.E.Sink.told c.args.err.now;
      err' = g.E.Sink.told c.tell-in-None.new.err;
      err_faults = g.E.Sink.faults c.args.err.now;
      err_faults' = g.E.Sink.faults c.tell-in-None.new.err;
    } in
    record {
      answer = record {
        loads = [];
        led = refl;
        is_so = subst (λ (a : Option Asked). Answers a s c.tell-in-None.result) c.in-None.ensures (told_alone Usage s c.tell-in-None.result refl refl c.tell-in-None.ensures);
      };
    }

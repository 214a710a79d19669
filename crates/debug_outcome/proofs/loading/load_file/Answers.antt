use Rattle.std.proofs.Common.{[], ◌∷◌, Err, refl, ap}
use Rattle.debug_outcome.proofs.Traced.{failed_load, long_load}
use Rattle.debug_outcome.proofs.loading.load_file.Goals as goal

pub returns-in-Err-Failed-clause-came : goal.returns-in-Err-Failed-clause-came
returns-in-Err-Failed-clause-came g c =
    failed_load g.F.TracedFiles.leads c.args.files.now c.load_traced.new.self (g.F.Files.told c.args.files.now) (g.F.Files.faults c.args.files.now) (g.F.Files.faults c.load_traced.new.self) record { name = c.args.name.now; limit = c.args.limit } c.in-Err-Failed.field-0 c.in-Err-Failed.ensures.traced
    _ c.in-Err-Failed.field-0-is (λ is. c.in-Err-Failed.ensures.failed (ap Err is)) refl

pub returns-in-Err-TooLong-clause-came : goal.returns-in-Err-TooLong-clause-came
returns-in-Err-TooLong-clause-came g c =
    long_load g.F.TracedFiles.leads c.args.files.now c.load_traced.new.self (g.F.Files.told c.args.files.now) (g.F.Files.faults c.args.files.now) (g.F.Files.faults c.load_traced.new.self) record { name = c.args.name.now; limit = c.args.limit } c.in-Err-TooLong.field-0 c.in-Err-TooLong.ensures.traced
    c.in-Err-TooLong.field-0-0 c.in-Err-TooLong.field-0-is c.in-Err-TooLong.ensures.too_long

pub returns-in-Err-Memory-clause-came : goal.returns-in-Err-Memory-clause-came
returns-in-Err-Memory-clause-came g c = record { loads = record { file = record { name = c.args.name.now; limit = c.args.limit }; answer = Err c.in-Err-Memory.field-0 } ∷ []; led = (c.load_traced.new.self, c.in-Err-Memory.ensures.traced, refl); is_so = tt }

-- The definitions' session as a reader: N10's sentences of it.
use Rattle.std.specs.Prelude.{◌≡◌, refl}
use Rattle.std.proofs.Common.{ap}
use Rattle.protocol.specs.Session.{Session, Entry, fresh, step, step_result}
use Rattle.protocol.specs.Machine.{Machine, output_values}

abbrev pub session : Machine
session =
    record {
      State = Session;
      Input = Entry;
      entry = λ e. e;
      new = fresh;
      act = λ s e. step_result (step s e).state (output_values (step s e).output);
      frames = λ s. s.books.counts;
      Represents = λ s m. s ≡ m;
      begins = refl;
      counts = λ s m h. ap (λ (z : Session). z.books.counts) h;
      simulates = λ s m e h. (ap (λ (z : Session). (step z e).state) h, ap (λ (z : Session). output_values (step z e).output) h);
    }

use Rattle.std.proofs.Common.{List, ℕ, subst}
use Rattle.exact_time.specs.declared.error.Failed.{Failed}
use Rattle.streams.specs.Effects.{PutsAll}
use Rattle.link_ports.proofs.telling.TellingPortPort.accept.Goals as goal

pub returns-in-Err-clause-told : goal.returns-in-Err-clause-told
returns-in-Err-clause-told g c =
    let P : List ℕ → Type 0 = λ t. PutsAll {T = Unit {0}} {E = Failed} (g.K.Stream.view c.args.self.now.errors) (g.K.Stream.view c.put_all-written.new.sink) c.put_all-written.result t in
    (c.put_all-written.result, subst P c.as_slice.ensures c.put_all-written.ensures)

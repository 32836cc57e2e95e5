use Rattle.std.proofs.Common.{Ok, Err, refl, sym, ap, subst}
use Rattle.archive_state.specs.Lawful.{founding_entry}
use Rattle.archive_log.specs.Founding.{MakesArchive}
use Rattle.archive_log.specs.declared.fault.FoundFault.TheVariants as found
use Rattle.command_words.specs.Arguments.{init_words_at}
use Rattle.centre.proofs.InitRows.{founded_as, refused_as, same_fault}
use Rattle.centre.proofs.running.init.Goals as goal

pub returns-in-Ok : goal.returns-in-Ok
returns-in-Ok g c =
    let view = g.D.Disk.view in
    let w = init_words_at c.args.arguments.now in
    let entry = founding_entry w.operator w.ha1 in
    record {
      row = record {
        outcome = Ok tt;
        row = record {
          others = refl;
          disk = subst (λ disk. MakesArchive {T = Unit {0}} entry (view c.args.disk) (view disk) (Ok tt)) (sym c.close.ensures.disk) (founded_as entry (view c.args.disk) (view c.in-Ok.archive.disk) _ tt c.in-Ok.ensures.disk);
          memory = λ is. absurd cc;
        };
        same = refl;
      };
    }

pub returns-in-Err : goal.returns-in-Err
returns-in-Err g c =
    let view = g.D.Disk.view in
    let w = init_words_at c.args.arguments.now in
    record {
      row = record {
        outcome = Err c.in-Err.fault;
        row = record {
          others = refl;
          disk = refused_as (founding_entry w.operator w.ha1) (view c.args.disk) (view c.in-Err.disk) c.in-Err.fault c.in-Err.ensures.disk;
          memory = λ is. c.in-Err.ensures.memory (same_fault c.in-Err.fault found.OutOfMemory _ refl is);
        };
        same = ap Err c.stop_for_founding.ensures;
      };
    }

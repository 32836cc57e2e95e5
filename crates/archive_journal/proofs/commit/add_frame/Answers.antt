use Rattle.std.proofs.Common.{◌∙◌, inl, ℕ, ◌+◌, List, [], ◌∷◌, ◌++◌, length, arith, refl, rules}
use Rattle.disk_model.specs.Disk.{Torn, Leaves}
use Rattle.disk_model.proofs.Moments.{weakened, and_then}
use Rattle.disk_model.specs.View.{file_of}
use Rattle.archive_journal.specs.Frames.{body_of, closed_gate}
use Rattle.archive_journal.specs.Journal.{IsJournalWithOrWithout}
use Rattle.archive_journal.proofs.Adding.{brought, opening}
use Rattle.archive_journal.proofs.commit.add_frame.Goals as goal

pub returns-in_err-bring-clause-call : goal.returns-in_err-bring-clause-call
returns-in_err-bring-clause-call g c =
    let old = g.D.Disk.view c.args.disk.now in
    let new = g.D.Disk.view c.bring.new.disk in
    let p = c.args.frame.now in
    let n = length (body_of p ++ closed_gate ∷ []) in
    let call = c.in_err-bring.ensures.call in
    record {
      tells = call.tells;
      later = call.later;
      cause = λ failed. call.cause refl;
      told = λ told. record {
        written = search rules;
        durable = search rules;
        any_moment = λ payloads journal is_end. weakened old new (Torn (c.args.gate + 1) n (file_of old)) (IsJournalWithOrWithout payloads p)
            (λ image torn. inl (brought payloads (file_of old) journal c.args.gate is_end n image torn)) (call.told told).any_moment;
        now = λ payloads journal is_end image left. inl (brought payloads (file_of old) journal c.args.gate is_end n image ((call.told told).now image left));
      };
    }

pub returns-clause-call : goal.returns-clause-call
returns-clause-call g c =
    let old = g.D.Disk.view c.args.disk.now in
    let mid = g.D.Disk.view c.bring.new.disk in
    let new = g.D.Disk.view c.open.new.disk in
    let p = c.args.frame.now in
    let n = length (body_of p ++ closed_gate ∷ []) in
    let gate = c.args.gate in
    let first = c.in_ok-bring.ensures.call in
    let second = c.open.ensures in
    record {
      tells = second.tells ∙ first.tells;
      later = omega (arith, first.later, second.later);
      cause = λ failed. omega (arith, first.later, second.cause failed);
      told = λ told.
          let bring = first.told told in
          let opens_it = second.told (first.tells ∙ told) in record {
            written = search rules;
            durable = opens_it.durable;
            any_moment = λ payloads journal is_end.
                let P : List ℕ → Type 0 = IsJournalWithOrWithout payloads p in
                let bringing : Leaves (Torn (gate + 1) n (file_of old)) P = λ image torn. inl (brought payloads (file_of old) journal gate is_end n image torn) in
                let opens : Leaves (Torn gate 1 (file_of mid)) P = λ image torn. opening payloads (file_of old) journal gate is_end p (file_of mid) image c.bring.ensures.sized bring.written torn in
                and_then old mid new P (weakened old mid (Torn (gate + 1) n (file_of old)) P bringing bring.any_moment) (weakened mid new (Torn gate 1 (file_of mid)) P opens opens_it.any_moment);
            now = λ payloads journal is_end image left. opening payloads (file_of old) journal gate is_end p (file_of mid) image c.bring.ensures.sized bring.written (opens_it.now image left);
          };
    }

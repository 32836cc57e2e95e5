use Rattle.std.proofs.Common.{◌≡◌, ◌∙◌, ◌++◌, ◌∷◌, [], List, ℕ, length, Result, Ok, Err, OnOk, ap, arith, refl, rules}
use Rattle.disk_model.specs.Disk.{overwritten, Torn, Leaves}
use Rattle.disk_model.specs.View.{IsSynced, IsOnlyImage, file_of}
use Rattle.disk_model.specs.Marked.{IsStaged}
use Rattle.disk_model.proofs.Moments.{weakened, and_then}
use Rattle.disk_model.proofs.Marking.{staged_by_adding, staged_by_marking, added}
use Rattle.disk_model.proofs.law.add_and_mark.Goals as goal

-- where two facts hold at Ok, a third does that follows from them
at_ok : {T E : Type 0} (P Q R : Type 0) (r : Result T E) → (P → Q → R) → OnOk r P → OnOk r Q → OnOk r R
at_ok P Q R (Ok x) means p q = means p q
at_ok P Q R (Err e) means p q = q

pub returns-in_err-write_through : goal.returns-in_err-write_through
returns-in_err-write_through g c =
    let old = g.D.Disk.view c.args.disk.now in
    let new = g.D.Disk.view c.write_through.new.disk in
    let call = c.in_err-write_through.ensures.call in
    record {
      tells = call.tells;
      later = call.later;
      cause = λ failed. call.cause refl;
      told = λ told. record {
        any_moment = weakened old new (Torn c.args.end (length c.args.bytes.now) (file_of old)) (IsStaged (file_of old) c.args.bytes.now c.args.at)
            (staged_by_adding (file_of old) c.args.bytes.now c.args.end c.args.at (c.requires.end told)) (call.told told).any_moment;
        done = search rules;
      };
    }

pub returns : goal.returns
returns g c =
    let old = g.D.Disk.view c.args.disk.now in
    let mid = g.D.Disk.view c.write_through.new.disk in
    let new = g.D.Disk.view c.write_through-2.new.disk in
    let first = c.in_ok-write_through.ensures.call in
    let second = c.write_through-2.ensures.call in
    let bytes = c.args.bytes.now in
    let P : List ℕ → Type 0 = IsStaged (file_of old) bytes c.args.at in
    let marked = overwritten (file_of old ++ bytes) c.args.at (c.args.byte ∷ []) in
    record {
      tells = second.tells ∙ first.tells;
      later = omega (arith, first.later, second.later);
      cause = λ failed. omega (arith, first.later, second.cause failed);
      told = λ told.
          let mid_told = first.tells ∙ told in
          let is_end = c.requires.end told in
          let adding : Leaves (Torn c.args.end (length bytes) (file_of old)) P = staged_by_adding (file_of old) bytes c.args.end c.args.at is_end in
          let marking : Leaves (Torn c.args.at 1 (file_of mid)) P = λ image torn. staged_by_marking (file_of old) bytes c.args.end c.args.at is_end (file_of mid) image c.requires.among.0 c.requires.among.1 (first.told told).written torn in
          let whole : file_of mid ≡ file_of old ++ bytes = (first.told told).written ∙ added (file_of old) bytes c.args.end c.args.at is_end in record {
            any_moment = and_then old mid new P
                (weakened old mid (Torn c.args.end (length bytes) (file_of old)) P adding (first.told told).any_moment)
                (weakened mid new (Torn c.args.at 1 (file_of mid)) P marking (second.told mid_told).any_moment);
            done = at_ok (file_of new ≡ overwritten (file_of mid) c.args.at (c.args.byte ∷ [])) (IsSynced new) (IsOnlyImage new marked) c.write_through-2.result
                (λ is only image left. only image left ∙ is ∙ ap (λ (l : List ℕ). overwritten l c.args.at (c.args.byte ∷ [])) whole)
                (second.told mid_told).written (second.told mid_told).durable;
          };
    }

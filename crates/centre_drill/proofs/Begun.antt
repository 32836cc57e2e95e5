-- The history with its first batches: what it holds, and that the next batch comes next.
use Rattle.std.proofs.Common.{◌≡◌, ◌∙◌, ◌==◌, ◌&&◌, ℕ, zero, suc, ◌+◌, ◌-◌, ◌*◌, ◌<◌, ◌≤◌, true, false, cond, List, [], ◌∷◌, ◌++◌, length, None, Some, Ok, refl, sym, ap, subst, arith}
use Rattle.std.specs.Prelude.{max, nat_le}
use Rattle.std.specs.Option.{option_or}
use Rattle.std.proofs.lemmas.Bool.Decides.{nat_tests}
use Rattle.std.proofs.lemmas.List.FromFn.{map-range_with_len_more, length-map-range_with_len}
use Rattle.epochs.specs.Lines.{LineValues}
use Rattle.epoch_rules.specs.Kept.{first_broken}
use Rattle.archive_entry.specs.Batches.{batch_of, count_in}
use Rattle.archive_entry.specs.declared.entry.Entry.{Entry}
use Rattle.archive_entry.specs.declared.entry.Kind.TheVariants.{Batch, Revise}
use Rattle.archive_entry.proofs.Readings.{batch_of-only}
use Rattle.archive_state.specs.History.{live_of, records_of, bytes_of, earlier_of, last_seq, may_post}
use Rattle.archive_state.specs.Lawful.{founding_entry, full, is_accept, is_lawful, is_next}
use Rattle.archive_state.specs.Verdicts.{command, entry_of, judged_of}
use Rattle.archive_state.proofs.FoundingEntry.{founding_next}
use Rattle.archive_state.proofs.Growth.{bytes_more, earlier_more, last_more, lawful_more, live_by_batch, records_more}
use Rattle.archive_state.proofs.Sendings.{accepted_is_next}
use Rattle.centre_drill.specs.History.{batch_entry, batch_size, begun, epoch, feed, feed_body, feed_entry, ha1, operator}
use Rattle.centre_drill.specs.Records.{made_body}
use Rattle.centre_drill.proofs.Accepted.{accepted_by, batch_accepted, revision_accepted}
use Rattle.centre_drill.proofs.MadeRows.{made_count, made_octets, made_size}
use Rattle.centre_drill.proofs.Users.{first, both, both_may, feed_kept, feed_line, feed_revision, first_live, first_may}

-- ---- the second entry

feed_accepted : is_accept (judged_of first full (command operator 1 Revise feed_body)) ≡ true
feed_accepted =
    let kept : first_broken (live_of first) (feed_line ∷ []) ≡ None = ap (λ (live : List LineValues). first_broken live (feed_line ∷ [])) first_live ∙ feed_kept in
    accepted_by first operator 1 Revise feed_body first_may refl (omega arith) (revision_accepted first feed_body (feed_line ∷ []) feed_revision kept (omega arith))

pub feed_next : is_next first (entry_of first (command operator 1 Revise feed_body) epoch) ≡ true
feed_next = accepted_is_next first full (record { command = command operator 1 Revise feed_body; moment = epoch }) refl feed_accepted

pub first_lawful : is_lawful first ≡ true
first_lawful = λ i. founding_next operator ha1 refl refl i && true

-- ---- one batch more

pub begun_more : (count k : ℕ) → begun count (k + 1) ≡ begun count k ++ batch_entry count k ∷ []
begun_more count k = ap (λ (es : List Entry). founding_entry operator ha1 ∷ feed_entry ∷ es) (map-range_with_len_more (batch_entry count) 0 k k (omega arith))

-- a batch's records
module _ (count k : ℕ) (some : 1000 * k < count) (few : count ≤ 200_000) where
  abbrev body : List ℕ
  body = made_body (1000 * k) (batch_size count k)

  size_bounds : (1 ≤ batch_size count k) × (batch_size count k ≤ 1000) × (1000 * k + batch_size count k ≤ 200_000)
  size_bounds = (omega arith, omega arith, omega arith)

  pub body_batch : batch_of body ≡ Ok (batch_size count k)
  body_batch =
      let within = size_bounds.2 in
      sym ((batch_of-only body (made_octets (1000 * k) (batch_size count k) within)).only (Ok (batch_size count k)) (made_count (1000 * k) (batch_size count k) within))

  pub body_size : length body ≡ 512 * batch_size count k
  body_size = made_size (batch_size count k) (1000 * k)

  body_records : count_in (batch_of body) ≡ batch_size count k
  body_records = ap count_in body_batch

-- what the history holds
pub record Holds (count k : ℕ) : Type 0 where
  pub live : live_of (begun count k) ≡ live_of both
  pub last : last_seq (begun count k) feed ≡ k
  pub none : (seq : ℕ) → k < seq → earlier_of (begun count k) feed seq ≡ None
  pub records : records_of (begun count k) ≤ 1000 * k
  pub bytes : bytes_of (begun count k) ≤ 512_000 * k + 200
  pub lawful : is_lawful (begun count k) ≡ true

both_lawful : is_lawful both ≡ true
both_lawful = lawful_more first feed_entry ∙ (λ i. first_lawful i && feed_next i)

pub holds_both : (count : ℕ) → Holds count 0
holds_both count = record {
  live = refl;
  last = refl;
  none = λ seq later. refl;
  records = omega arith;
  bytes = omega arith;
  lawful = both_lawful;
}

module _ (count k : ℕ) (some : 1000 * k < count) (few : count ≤ 200_000) (holds : Holds count k) where
  abbrev h : List Entry
  h = begun count k

  abbrev e : Entry
  e = batch_entry count k

  next_accepted : is_accept (judged_of h full (command feed (k + 1) Batch e.body)) ≡ true
  next_accepted =
      let may : may_post (live_of h) feed Batch ≡ true = ap (λ (live : List LineValues). may_post live feed Batch) holds.live ∙ both_may in
      let bounds = size_bounds count k some few in
      let size = body_size count k some few in
      let reads = body_batch count k some few in
      accepted_by h feed (k + 1) Batch e.body may (holds.none (k + 1) (omega arith)) (omega (arith, holds.last))
      (batch_accepted h e.body (batch_size count k) reads (omega (arith, size, bounds)) (omega (arith, holds.records, bounds, some, few)) (omega (arith, size, holds.bytes, bounds, some, few)))

  next_fits : (nat_le 1 (k + 1) && nat_le (k + 1) 1_000_000_000_000_000_000) && (nat_le (length e.body) 1_048_576 && true) ≡ true
  next_fits =
      let bounds = size_bounds count k some few in
      let size = body_size count k some few in
      let short : length e.body ≤ 1_048_576 = omega (arith, size, bounds) in
      let low : nat_le 1 (k + 1) ≡ true = grind (arith, nat_tests) in
      let high : nat_le (k + 1) 1_000_000_000_000_000_000 ≡ true = grind (arith, nat_tests) in
      let long : nat_le (length e.body) 1_048_576 ≡ true = grind (arith, nat_tests) in
      λ i. (low i && high i) && (long i && true)

  length_is : length h + 1 ≡ k + 3
  length_is = let n = length-map-range_with_len (batch_entry count) 0 k in omega (arith, n)

  entry_is : entry_of h (command feed (k + 1) Batch e.body) epoch ≡ e
  entry_is = λ i. record { number = length_is i; moment = epoch; author = feed; seq = k + 1; kind = Batch; body = e.body }

  pub batch_next : is_next h (entry_of h (command feed (k + 1) Batch e.body) epoch) ≡ true
  batch_next = accepted_is_next h full (record { command = command feed (k + 1) Batch e.body; moment = epoch }) next_fits next_accepted

  pub batch_added : h ++ entry_of h (command feed (k + 1) Batch e.body) epoch ∷ [] ≡ begun count (k + 1)
  batch_added = ap (λ (x : Entry). h ++ x ∷ []) entry_is ∙ sym (begun_more count k)

  after : (P : List Entry → Type 0) → P (h ++ e ∷ []) → P (begun count (k + 1))
  after P more = subst P (sym (begun_more count k)) more

  last_next : last_seq (h ++ e ∷ []) feed ≡ k + 1
  last_next = let n = holds.last in last_more h e feed ∙ (let m : max (last_seq h feed) (k + 1) ≡ k + 1 = omega (arith, n) in m)

  none_next : (seq : ℕ) → k + 1 < seq → earlier_of (h ++ e ∷ []) feed seq ≡ None
  none_next seq later =
      let other : (k + 1 == seq) ≡ false = grind (arith, nat_tests) in
      earlier_more h e feed seq
      ∙ (λ i. option_or (holds.none seq (omega (arith, later)) i) (cond (other i) (Some e) None))

  pub holds_next : Holds count (k + 1)
  holds_next = record {
    live = after (λ l. live_of l ≡ live_of both) (live_by_batch h e refl ∙ holds.live);
    last = after (λ l. last_seq l feed ≡ k + 1) last_next;
    none = λ seq later. after (λ l. earlier_of l feed seq ≡ None) (none_next seq later);
    records = after (λ l. records_of l ≤ 1000 * (k + 1)) (omega (arith, records_more h e, body_records count k some few, size_bounds count k some few, holds.records));
    bytes = after (λ l. bytes_of l ≤ 512_000 * (k + 1) + 200) (omega (arith, bytes_more h e, body_size count k some few, size_bounds count k some few, holds.bytes));
    lawful = after (λ l. is_lawful l ≡ true) (lawful_more h e ∙ (λ i. holds.lawful i && subst (λ (x : Entry). is_next h x ≡ true) entry_is batch_next i));
  }

-- and so for all batches
pub holds_all : (count : ℕ) → count ≤ 200_000 → (k : ℕ) → (zero < k → 1000 * (k - 1) < count) → Holds count k
holds_all count few zero some = holds_both count
holds_all count few (suc k) some =
    let here : 1000 * k < count = (let all = some (omega arith) in omega (arith, all)) in
    let before = holds_all count few k (λ more. omega (arith, here, more)) in
    let next : k + 1 ≡ suc k = omega arith in
    subst (Holds count) next (holds_next count k here few before)

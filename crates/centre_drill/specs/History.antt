-- The history that is made: the founding entry, a user who may post batches, and that user's batches of made records.
use Rattle.std.specs.Prelude.{ℕ, ◌+◌, ◌-◌, ◌*◌, ◌/◌, min, pos, List, ◌∷◌, map, codes}
use Rattle.std.specs.List.{range_with_len}
use Rattle.exact_time.specs.declared.moment.Moment.{Moment}
use Rattle.epochs.specs.Kinds.{Text}
use Rattle.archive_entry.specs.declared.entry.Entry.{Entry}
use Rattle.archive_entry.specs.declared.entry.Kind.TheVariants.{Batch, Revise}
use Rattle.archive_state.specs.Lawful.{founding_entry}
use Rattle.centre_drill.specs.Records.{made_body}

-- the moment of every entry
abbrev pub epoch : Moment
epoch = record { micros = pos 0 }

-- the digest of name, realm and password that both users have
abbrev pub ha1 : Text
ha1 = codes "00000000000000000000000000000000"

abbrev pub operator : Text
operator = codes "op"

abbrev pub feed : Text
feed = codes "drill"

-- one line, which makes the feed a user with that role
abbrev pub feed_body : List ℕ
feed_body = codes "USR|drill|00000000000000000000000000000000|feed\n"

abbrev pub feed_entry : Entry
feed_entry = record { number = 2; moment = epoch; author = operator; seq = 1; kind = Revise; body = feed_body }

-- of so many records, batch k, counted from 0, has the thousand from record 1000 k on, or the rest
abbrev pub batch_size : (count k : ℕ) → ℕ
batch_size count k = min (count - 1000 * k) 1000

abbrev pub batch_entry : (count k : ℕ) → Entry
batch_entry count k = record {
  number = k + 3;
  moment = epoch;
  author = feed;
  seq = k + 1;
  kind = Batch;
  body = made_body (1000 * k) (batch_size count k);
}

-- the history with the first k batches
abbrev pub begun : (count k : ℕ) → List Entry
begun count k = founding_entry operator ha1 ∷ feed_entry ∷ map (batch_entry count) (range_with_len 0 k)

-- the history of so many records
abbrev pub made_history : (count : ℕ) → List Entry
made_history count = begun count ((count + 999) / 1000)

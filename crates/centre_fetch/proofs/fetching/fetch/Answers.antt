use Rattle.command_words.specs.Arguments.{fetch_words_at}
use Rattle.centre_fetch.proofs.Decide.{can_be_asked}
use Rattle.centre_fetch.proofs.Rows.{fault_row, none_row, done_row, cut_row, some_bytes}
use Rattle.centre_fetch.proofs.fetching.fetch.Goals as goal

pub fetch-requires-clause-window : goal.fetch-requires-clause-window
fetch-requires-clause-window g c = can_be_asked (fetch_words_at c.args.arguments.now) c.in-Ok.window c.in-Ok.ensures.ok

pub returns-in-Err-fetch : goal.returns-in-Err-fetch
returns-in-Err-fetch g c = record {
  row = fault_row (fetch_words_at c.args.arguments.now) c.in-Ok.window c.in-Ok.ensures.ok _ _ _ c.in-Err-fetch.fault c.stop_for.result c.stop_for.ensures
      (rw c.in-Ok-codes_of.ensures at c.in-Err-fetch.ensures);
}

pub returns-then-is_empty : goal.returns-then-is_empty
returns-then-is_empty g c = record {
  row = none_row (fetch_words_at c.args.arguments.now) c.in-Ok.window c.in-Ok.ensures.ok _ _ _ c.in-Ok-fetch.bytes (c.is_empty.ensures.0 c.if-is_empty.true)
      (rw c.in-Ok-codes_of.ensures at c.in-Ok-fetch.ensures);
}

pub returns-in-Ok-put_all : goal.returns-in-Ok-put_all
returns-in-Ok-put_all g c = record {
  row = done_row (fetch_words_at c.args.arguments.now) c.in-Ok.window c.in-Ok.ensures.ok _ _ _ _ c.in-Ok-fetch.bytes tt
      (some_bytes c.is_empty.result c.in-Ok-fetch.bytes c.is_empty.ensures c.if-is_empty.false)
      (rw c.in-Ok-codes_of.ensures at c.in-Ok-fetch.ensures)
      (rw c.as_slice.ensures at c.in-Ok-put_all.ensures.ok);
}

pub returns : goal.returns
returns g c = record {
  row = cut_row (fetch_words_at c.args.arguments.now) c.in-Ok.window c.in-Ok.ensures.ok _ _ _ _ c.in-Ok-fetch.bytes
      (some_bytes c.is_empty.result c.in-Ok-fetch.bytes c.is_empty.ensures c.if-is_empty.false)
      (rw c.in-Ok-codes_of.ensures at c.in-Ok-fetch.ensures)
      c.in-Err-put_all.ensures.cause.failed
      (rw c.as_slice.ensures at c.in-Err-put_all.ensures.part);
}

use Rattle.std.proofs.Common.{◌≡◌, ◌+◌, ◌≤◌, List, length, map}
use Rattle.form_urlencoded.specs.Parse.{pairs_left}
use Rattle.query_parameters.specs.Rows.{names_of}
use Rattle.query_parameters.specs.Parameters.{Parameter, decoded, numbered_from, parameters_of, pairs_of}
use Rattle.query_parameters.specs.Words.{HasReadParameters}
use Rattle.query_parameters.proofs.words.read_words.Given as goal

-- the parameters so far were right, and those that are left have the numbers behind theirs
abbrev pub invariant-pairs : goal.invariant-pairs
invariant-pairs l = record {
  few : length (pairs_of l.query) ≤ 1000;
  count : l.number + length (map decoded (pairs_left l.pair-iterator)) ≡ length (pairs_of l.query) + 1;
  read : (done : List Parameter) × HasReadParameters (names_of l.table) (parameters_of l.query) done (numbered_from l.number (map decoded (pairs_left l.pair-iterator))) l.words.items;
}

use Rattle.std.proofs.lemmas.Result.{err_from_is_err_and}
use Rattle.query_parameters.specs.Parameters.{parameter}
use Rattle.query_parameters.proofs.Held.{put_more, put_refused}
use Rattle.query_parameters.proofs.PairSteps.{next_pair, next_read, next_count}
use Rattle.query_parameters.proofs.words.read_words.Goals as goal

pub returns-in_err-take_parameter-clause-refused : goal.returns-in_err-take_parameter-clause-refused
returns-in_err-take_parameter-clause-refused c =
    let p = err_from_is_err_and c.from_residual-in_err-take_parameter.result c.from_residual-in_err-take_parameter.ensures.1 in
    let s = c.in-Some.ensures.steps.0 in
    let texts = rw c.in_ok-name.was at s.3 in
    let is = next_pair _ _ s.0 s.1 c.as_str.result.now c.as_str-in-pairs.result.now s.2 (rw (c.as_str.ensures.value) texts.0) (rw (c.as_str-in-pairs.ensures.value) texts.1) in
    let read = next_read _ _ _ _ _ _ _ _ _ is c.pairs.invariant.read.1 in
    rw (p.1, p.2) (put_refused _ _ _ _ (parameter c.pairs.number (c.as_str.result.now, c.as_str-in-pairs.result.now)) _ read _ c.in_err-take_parameter.ensures.refused)

pub pairs-preserved : goal.pairs-preserved
pairs-preserved c =
    let s = c.in-Some.ensures.steps.0 in
    let texts = rw c.in_ok-name.was at s.3 in
    let is = next_pair _ _ s.0 s.1 c.as_str.result.now c.as_str-in-pairs.result.now s.2 (rw (c.as_str.ensures.value) texts.0) (rw (c.as_str-in-pairs.ensures.value) texts.1) in
    let read = next_read _ _ _ _ _ _ _ _ _ is c.pairs.invariant.read.1 in
    record {
      few = c.pairs.invariant.few;
      count = next_count _ _ _ _ _ _ is c.pairs.invariant.count;
      read = (_, put_more _ _ _ _ (parameter c.pairs.number (c.as_str.result.now, c.as_str-in-pairs.result.now)) _ read _ c.in_ok-take_parameter.ensures.put);
    }

pub pairs-preserved-in_ok-take_parameter : goal.pairs-preserved-in_ok-take_parameter
pairs-preserved-in_ok-take_parameter c =
    let s = c.in-Some.ensures.steps.0 in
    let texts = rw c.in_ok-name.was at s.3 in
    let is = next_pair _ _ s.0 s.1 c.as_str.result.now c.as_str-in-pairs.result.now s.2 (rw (c.as_str.ensures.value) texts.0) (rw (c.as_str-in-pairs.ensures.value) texts.1) in
    let read = next_read _ _ _ _ _ _ _ _ _ is c.pairs.invariant.read.1 in
    record {
      few = c.pairs.invariant.few;
      count = next_count _ _ _ _ _ _ is c.pairs.invariant.count;
      read = (_, put_more _ _ _ _ (parameter c.pairs.number (c.as_str.result.now, c.as_str-in-pairs.result.now)) _ read _ c.in_ok-take_parameter.ensures.put);
    }

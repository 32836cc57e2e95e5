use Rattle.query_words.proofs.StationFound.{post_or_fault}
use Rattle.query_words.specs.StationPost.{IsStationPost, IsStationPostFault}
use Rattle.centre_desk.specs.Queries.{station_sent}
use Rattle.centre_desk.proofs.Readers.{is_answer}
use Rattle.centre_desk.proofs.queries.station_sent.Goals as goal

pub returns : goal.returns
unfolding station_sent
returns c = is_answer (IsStationPost c.args.body.now) (IsStationPostFault c.args.body.now) (post_or_fault c.args.body.now) c.station_post.result c.station_post.ensures.exact

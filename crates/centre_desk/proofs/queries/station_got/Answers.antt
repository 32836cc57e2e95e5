use Rattle.query_words.proofs.StationFound.{get_or_fault}
use Rattle.query_words.specs.StationGet.{IsStationGet, IsStationGetFault}
use Rattle.centre_desk.specs.Queries.{station_got}
use Rattle.centre_desk.proofs.Readers.{is_answer}
use Rattle.centre_desk.proofs.queries.station_got.Goals as goal

pub returns : goal.returns
unfolding station_got
returns c = is_answer (IsStationGet c.args.query.now) (IsStationGetFault c.args.query.now) (get_or_fault c.args.query.now) c.station_get.result c.station_get.ensures.exact

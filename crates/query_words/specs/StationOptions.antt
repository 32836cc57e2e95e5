-- The options of station (FDSN Web Service Specifications 1.2, station).
use Rattle.std.specs.Prelude.{◌≡◌, List, Some, codes}
use Rattle.query_parameters.specs.Gets.{said, said_or, IsLimit}
use Rattle.query_parameters.specs.Parameters.{Parameter}
use Rattle.query_parameters.specs.Places.{AreBounds}
use Rattle.query_parameters.specs.Rows.{Named}
use Rattle.query_parameters.specs.Values.{nodata_of, level_of}
use Rattle.query_words.specs.declared.station.StationQuery.{StationQuery}

-- the options of the query, each by its default where it isn't said
pub record AreStationOptions (rows : List Named) (ps : List Parameter) (q : StationQuery) : Type 0 where
  pub nodata_is : nodata_of (said_or (codes "204") rows (codes "nodata") ps) ≡ Some q.nodata
  pub start_before_is : IsLimit (said rows (codes "startbefore") ps) q.start_before
  pub start_after_is : IsLimit (said rows (codes "startafter") ps) q.start_after
  pub end_before_is : IsLimit (said rows (codes "endbefore") ps) q.end_before
  pub end_after_is : IsLimit (said rows (codes "endafter") ps) q.end_after
  pub bounds : AreBounds rows ps q.area
  pub level_is : level_of (said_or (codes "station") rows (codes "level") ps) ≡ Some q.level

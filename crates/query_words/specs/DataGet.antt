-- What a query string asks of dataselect, and its faults (FDSN Web Service Specifications 1.2,
-- dataselect).
use Rattle.std.specs.Prelude.{◌≡◌, ◌<ℤ◌, List, [], ◌∷◌, Some, codes}
use Rattle.exact_time.specs.declared.moment.Moment.{Moment}
use Rattle.dataselect.specs.declared.query.Selection.{Selection}
use Rattle.dataselect.specs.declared.query.DataQuery.{DataQuery}
use Rattle.query_parameters.specs.Gets.{said_or, IsWindowInOrder, AreCodes, AreLimits, IsRight, LacksNone, IsFaultBy, RefusesBy}
use Rattle.query_parameters.specs.Rows.{Text, Named}
use Rattle.query_words.specs.Tables.{data_names}
use Rattle.query_parameters.specs.Values.{quality_of, nodata_of, flag_of, IsMinimum}
use Rattle.query_parameters.specs.Parameters.{Parameter, parameters_of}
use Rattle.query_parameters.specs.declared.fault.QueryFault.{QueryFault}

-- the options of the query, each by its default where it isn't said; the one format is miniSEED
pub record AreOptions (rows : List Named) (ps : List Parameter) (q : DataQuery) : Type 0 where
  pub nodata_is : nodata_of (said_or (codes "204") rows (codes "nodata") ps) ≡ Some q.nodata
  pub quality_is : quality_of (said_or (codes "B") rows (codes "quality") ps) ≡ Some q.quality
  pub minimum_is : IsMinimum (said_or (codes "0") rows (codes "minimumlength") ps) q.minimum
  pub longest_is : flag_of (said_or (codes "false") rows (codes "longestonly") ps) ≡ Some q.longest

-- the query string asks for this: one selection and the options
pub record IsDataGet (query : Text) (q : DataQuery) : Type 0 where
  pub right : IsRight data_names query
  pub selection : Selection
  pub only : q.selections ≡ selection ∷ []
  pub names : AreCodes data_names (parameters_of query) selection
  pub window : AreLimits data_names (parameters_of query) selection.start selection.end
  pub in_time : IsWindowInOrder selection.start selection.end
  pub options : AreOptions data_names (parameters_of query) q

-- each parameter is right, and the start is after the end
pub record IsBackwards (query : Text) : Type 0 where
  pub right : IsRight data_names query
  pub from : Moment
  pub to : Moment
  pub window : AreLimits data_names (parameters_of query) (Some from) (Some to)
  pub order : to.micros <ℤ from.micros

-- the fault of a query string
abbrev pub IsGetFault : Text → QueryFault → Type 0
IsGetFault query fault = IsFaultBy data_names LacksNone IsBackwards query fault

-- why a query string gave no query; want of memory is free
abbrev pub RefusesGet : Text → QueryFault → Type 0
RefusesGet query fault = RefusesBy data_names LacksNone IsBackwards query fault

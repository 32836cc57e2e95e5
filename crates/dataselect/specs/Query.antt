-- Which records a query asks for (FDSN Web Service Specifications 1.2, dataselect).
use Rattle.std.specs.Prelude.{ℤ, Bool, true, ◌&&◌, ◌==◌, Option, Some, None, int_le}
use Rattle.std.specs.List.{list_any}
use Rattle.std.specs.Ordering.{is_ge}
use Rattle.exact_time.specs.SampleTime.{compare_sample}
use Rattle.channel_globs.specs.Matching.{is_match_any}
use Rattle.channel_globs.specs.declared.nslc.Nslc.{Nslc}
use Rattle.mseed_header.specs.Quality.{quality_letter}
use Rattle.mseed_header.specs.Times.{last_index}
use Rattle.mseed_header.specs.declared.header.Header.{Header}
use Rattle.dataselect.specs.declared.query.Selection.{Selection}
use Rattle.dataselect.specs.declared.query.DataQuery.{DataQuery}

-- an absent part holds always
abbrev pub holds : {T : Type 0} → (T → Bool) → Option T → Bool
holds test None = true
holds test (Some part) = test part

-- the four codes match
abbrev pub is_named : Selection → Nslc → Bool
is_named s name =
    is_match_any s.network name.network && is_match_any s.station name.station
    && is_match_any s.location name.location && is_match_any s.channel name.channel

-- the record's last sample is at that moment or later
abbrev pub reaches : Header → ℤ → Bool
reaches h micros = is_ge (compare_sample h.start.micros (last_index h) h.rate micros)

-- the record's first sample is at that moment or earlier
abbrev pub starts_by : Header → ℤ → Bool
starts_by h micros = int_le h.start.micros micros

-- the record's time meets the window
abbrev pub meets : Selection → Header → Bool
meets s h = holds (λ t. reaches h t.micros) s.start && holds (λ t. starts_by h t.micros) s.end

-- the codes match, and the record's time meets the window
unfoldable pub is_selected : Selection → Header → Bool
is_selected s h = is_named s h.name && meets s h

-- the record has the asked quality, and some selection selects it
unfoldable pub is_asked : DataQuery → Header → Bool
is_asked query h =
    holds (λ q. quality_letter q == quality_letter h.quality) query.quality
    && list_any (λ s. is_selected s h) query.selections

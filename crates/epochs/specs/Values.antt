-- The values of the parts of lines, and those of lines of these parts.
use Rattle.std.specs.Prelude.{ℕ, List, [], ◌∷◌, ◌++◌, Option, option_map}
use Rattle.exact_time.specs.declared.moment.Moment.{Moment}
use Rattle.exact_time.specs.declared.decimal.Decimal.{Decimal}
use Rattle.channel_globs.specs.declared.nslc.Nslc.{Nslc}
use Rattle.epochs.specs.declared.kinds.LineKind.{LineKind}
use Rattle.epochs.specs.declared.kinds.LineKind.TheVariants.{Net, Sta, Cha, Evt, Rst, Grt, Usr, Wdr}
use Rattle.epochs.specs.declared.parts.Attribution.{Attribution}
use Rattle.epochs.specs.declared.parts.EpochTimes.{EpochTimes}
use Rattle.epochs.specs.declared.parts.Glob.{Glob}
use Rattle.epochs.specs.declared.parts.Globs.{Globs}
use Rattle.epochs.specs.declared.parts.Hypocentre.{Hypocentre}
use Rattle.epochs.specs.declared.parts.Magnitude.{Magnitude}
use Rattle.epochs.specs.declared.parts.Position.{Position}
use Rattle.epochs.specs.declared.parts.Response.{Response}
use Rattle.epochs.specs.declared.parts.Roles.{Roles}
use Rattle.epochs.specs.declared.parts.Sensor.{Sensor}
use Rattle.epochs.specs.declared.kinds.Head.TheVariants.{Says}
use Rattle.epochs.specs.Kinds.{Text}
use Rattle.epochs.specs.Fields.{Value, code, words, time, end, number, optional, patterns, roles, entry_number}
use Rattle.epochs.specs.Lines.{LineValues, line_values}

abbrev pub glob_value : Glob → Value
glob_value glob = patterns glob.text glob.list

abbrev pub time_value : Moment → Value
time_value moment = time moment.micros

abbrev pub end_value : Option Moment → Value
end_value stop = end (option_map (λ moment. moment.micros) stop)

abbrev pub number_value : Decimal → Value
number_value decimal = number decimal.millionths

abbrev pub optional_value : Option Decimal → Value
optional_value decimal = optional (option_map (λ d. d.millionths) decimal)

-- the four codes of a channel
abbrev pub name_values : Nslc → List Value
name_values name = code name.network ∷ code name.station ∷ code name.location ∷ code name.channel ∷ []

abbrev pub glob_values : Globs → List Value
glob_values channels =
    glob_value channels.network ∷ glob_value channels.station ∷ glob_value channels.location ∷ glob_value channels.channel ∷ []

abbrev pub epoch_values : EpochTimes → List Value
epoch_values times = time_value times.start ∷ end_value times.end ∷ []

abbrev pub position_values : Position → List Value
position_values position =
    number_value position.latitude ∷ number_value position.longitude ∷ number_value position.elevation ∷ []

abbrev pub sensor_values : Sensor → List Value
sensor_values sensor =
    number_value sensor.depth ∷ optional_value sensor.azimuth ∷ optional_value sensor.dip ∷ words sensor.sensor ∷ []

abbrev pub response_values : Response → List Value
response_values response =
    optional_value response.scale
    ∷ optional_value response.scale_freq
    ∷ words response.scale_units
    ∷ number_value response.sample_rate
    ∷ []

abbrev pub hypocentre_values : Hypocentre → List Value
hypocentre_values hypocentre =
    number_value hypocentre.latitude ∷ number_value hypocentre.longitude ∷ optional_value hypocentre.depth ∷ []

abbrev pub attribution_values : Attribution → List Value
attribution_values attribution =
    words attribution.author
    ∷ words attribution.catalog
    ∷ words attribution.contributor
    ∷ words attribution.contributor_id
    ∷ []

abbrev pub magnitude_values : Magnitude → List Value
magnitude_values magnitude =
    words magnitude.kind ∷ optional_value magnitude.magnitude ∷ words magnitude.author ∷ words magnitude.location ∷ []

abbrev pub says : LineKind → List Value → LineValues
says kind values = line_values (Says kind) values

abbrev pub network_line : (network description : Text) → EpochTimes → LineValues
network_line network description times = says Net (code network ∷ words description ∷ epoch_values times)

abbrev pub station_line : (network station : Text) → Position → (site : Text) → EpochTimes → LineValues
station_line network station position site times =
    says Sta (code network ∷ code station ∷ position_values position ++ words site ∷ epoch_values times)

abbrev pub channel_line : Nslc → Position → Sensor → Response → EpochTimes → LineValues
channel_line name position sensor response times =
    says Cha (
    name_values name
    ++ (position_values position ++ (sensor_values sensor ++ (response_values response ++ epoch_values times))))

abbrev pub event_line : (id : Text) → Moment → Hypocentre → Attribution → Magnitude → LineValues
event_line id when hypocentre attribution magnitude =
    says Evt (
    words id
    ∷ time_value when
    ∷ hypocentre_values hypocentre ++ (attribution_values attribution ++ magnitude_values magnitude))

abbrev pub restriction_line : Globs → EpochTimes → LineValues
restriction_line channels times = says Rst (glob_values channels ++ epoch_values times)

abbrev pub grant_line : (user : Text) → Globs → EpochTimes → LineValues
grant_line user channels times = says Grt (words user ∷ glob_values channels ++ epoch_values times)

abbrev pub withdrawal_line : Globs → EpochTimes → (upto : ℕ) → LineValues
withdrawal_line channels times upto =
    says Wdr (glob_values channels ++ (epoch_values times ++ entry_number upto ∷ []))

abbrev pub user_line : (name ha1 : Text) → Roles → LineValues
user_line name ha1 named = says Usr (words name ∷ words ha1 ∷ roles named ∷ [])

-- What a command reads of the outside, and what is told of it.
use Rattle.std.specs.Prelude.{◌≡◌, ℕ, List, [], ◌∷◌, Option, Some, ⊤, IsSome}
use Rattle.std.specs.Io.KnownBytes.{Consumes}
use Rattle.exact_time.specs.declared.moment.Moment.{Moment}
use Rattle.http_wire.specs.declared.turn.Turn.{Turn}
use Rattle.disk_model.specs.View.{DiskView}
use Rattle.link_ports.specs.Ports.{PortView}
use Rattle.streams.specs.View.{StreamView}
use Rattle.centre_talk.specs.Talk.{Place, place}
use Rattle.command_words.specs.Commands.{FetchWords, Command, select, init, talk, serve, drill, fetch, coverage}
use Rattle.split_fetch.specs.declared.heard.Heard.{Heard}
use Rattle.centre_fetch.specs.Table.{IsGiven}
use Rattle.centre_select.specs.Had.{Had}
use Rattle.centre_select.specs.Table.{Streams, streams}

-- all that a run can reach: the source and the sink, the disk, the moments that the clock gave, and the ports of the workers,
-- in their order; and the turns that it hands back
pub record World (D : Type 0) : Type 0 where
  pub streams : Streams
  pub disk : D
  pub given : Option (List Moment)
  pub trail : Option (List Turn)
  pub ports : List PortView

abbrev pub world : {D : Type 0} → StreamView → StreamView → D → Option (List Moment) → Option (List Turn) → List PortView → World D
world source sink disk given trail ports = record { streams = streams source sink; disk = disk; given = given; trail = trail; ports = ports }

-- the same as a session over streams knows it
abbrev pub place_at : {D : Type 0} → (D → DiskView) → World D → Place
place_at view w = place w.streams.source w.streams.sink w.given (view w.disk)

-- what a command reads: the input of the source, of which `talk` reads a first part, the bytes of the disk's file, and what
-- `fetch` hears on the links of the first port
pub record Given : Type 0 where
  pub input : List ℕ
  pub file : List ℕ
  pub heard : List Heard

-- this was heard on the links of the first port
abbrev pub WasHeard : FetchWords → List PortView → List PortView → List Heard → Type 0
WasHeard w (old ∷ others) (new ∷ more) heard = IsGiven w old new heard
WasHeard w _ _ heard = ⊥

-- What the command reads tells that it held this. `select` reads the source to its end, `init`, `drill`, `serve` and `coverage`
-- the disk, `talk` both, `fetch` the links of the first port, on which nothing else can have been heard, and the others nothing.
abbrev pub AreGiven : {D : Type 0} → (D → DiskView) → Option Command → World D → World D → Given → Type 0
AreGiven view (Some (select w)) before after given = before.streams.source.left ≡ Some given.input
AreGiven view (Some (init w)) before after given = (view before.disk).content ≡ Some given.file
AreGiven view (Some (serve w)) before after given = (view before.disk).content ≡ Some given.file
AreGiven view (Some (drill w)) before after given = (view before.disk).content ≡ Some given.file
AreGiven view (Some (talk w)) before after given =
    ((view before.disk).content ≡ Some given.file) × IsSome before.streams.source.left × Consumes before.streams.source.left after.streams.source.left given.input
AreGiven view (Some (fetch w)) before after given = (heard : List Heard) → WasHeard w before.ports after.ports heard → heard ≡ given.heard
AreGiven view (Some (coverage w)) before after given = (view before.disk).content ≡ Some given.file
AreGiven view _ before after given = ⊤

-- what the command reads held this, where it tells
abbrev pub HadGiven : {D : Type 0} → (D → DiskView) → Option Command → World D → World D → Given → Type 0
HadGiven view (Some (select w)) before after given = Had before.streams.source.left given.input
HadGiven view (Some (init w)) before after given = Had (view before.disk).content given.file
HadGiven view (Some (drill w)) before after given = Had (view before.disk).content given.file
HadGiven view (Some (fetch w)) before after given = WasHeard w before.ports after.ports given.heard
HadGiven view _ before after given = ⊤

-- a fact of what the command reads, where that is told
abbrev pub Told : {D : Type 0} → (D → DiskView) → Option Command → World D → World D → (Given → Type 0) → Type 0
Told view command before after Fact = (given : Given) → AreGiven view command before after given → Fact given

-- The rows of `select`: how it ends, why, and what it leaves.
use Rattle.std.specs.Prelude.{◌≡◌, ◌⊎◌, ℕ, List, Option, Some, Result, Ok, Err}
use Rattle.std.specs.Io.KnownBytes.{IsAtEnd}
use Rattle.exact_time.specs.Causes.{Rose}
use Rattle.dataselect.specs.declared.query.DataQuery.{DataQuery}
use Rattle.command_words.specs.Commands.{SelectWords, Command, select, show}
use Rattle.command_words.specs.declared.name.CommandName.TheVariants.{Select}
use Rattle.command_words.specs.declared.name.Shown.TheVariants.{HelpOf}
use Rattle.streams.specs.Effects.{Grew, WritesPart}
use Rattle.streams.specs.View.{StreamView}
use Rattle.centre_select.specs.Answers.{RefusesInput, IsSelectAnswer}
use Rattle.centre_select.specs.Had.{Had}
use Rattle.centre_select.specs.Status.{status_of_run, text_of_run, unknown_text, Tells, ToldFor}
use Rattle.centre_select.specs.Words.{IsSelectQuery, RefusesSelectWords}
use Rattle.centre_select.specs.declared.ending.SelectRefusal.{SelectRefusal}
use Rattle.centre_select.specs.declared.ending.SelectStop.{SelectStop}
use Rattle.centre_select.specs.declared.ending.SelectStop.TheVariants.{Refused, ReadFault, WriteFault, OutOfMemory}
use Rattle.centre_select.specs.declared.help.TheConstants.{SELECT_HELP}

-- what is told of the source and the sink at one moment
pub record Streams : Type 0 where
  pub source : StreamView
  pub sink : StreamView

abbrev pub streams : StreamView → StreamView → Streams
streams source sink = record { source = source; sink = sink }

-- Status 0 of `select`: the input was read to its end, and the sink got the body that the words and the
-- input give.
pub record IsSelected (w : SelectWords) (before after : Streams) : Type 0 where
  pub input : List ℕ
  pub body : List ℕ
  pub had : Had before.source.left input
  pub answer : IsSelectAnswer w input (Ok body)
  pub end : IsAtEnd after.source.left
  pub output : Grew before.sink.written after.sink.written body

-- the words are refused: nothing is read, and nothing is written
pub record IsRefusedByWords (w : SelectWords) (before after : Streams) (refusal : SelectRefusal) : Type 0 where
  pub why : RefusesSelectWords w refusal
  pub same : after ≡ before

-- the input is refused: nothing is written
pub record IsRefusedByInput (w : SelectWords) (before after : Streams) (refusal : SelectRefusal) : Type 0 where
  pub input : List ℕ
  pub query : DataQuery
  pub had : Had before.source.left input
  pub asked : IsSelectQuery w query
  pub why : RefusesInput query w.limit input refusal
  pub kept : after.sink ≡ before.sink

-- reading stopped at a fault of the source: nothing is written
pub record IsReadStopped (w : SelectWords) (before after : Streams) : Type 0 where
  pub query : DataQuery
  pub asked : IsSelectQuery w query
  pub rose : Rose before.source.faults after.source.faults
  pub kept : after.sink ≡ before.sink

-- writing stopped at a fault of the sink, after a first part of the body
pub record IsWriteStopped (w : SelectWords) (before after : Streams) : Type 0 where
  pub input : List ℕ
  pub body : List ℕ
  pub had : Had before.source.left input
  pub answer : IsSelectAnswer w input (Ok body)
  pub rose : Rose before.sink.faults after.sink.faults
  pub output : WritesPart before.sink.written after.sink.written body

-- the rows of `select`; want of memory is free, and leaves the sink as it was
abbrev pub SelectRow : SelectWords → Streams → Streams → Result (Unit {0}) SelectStop → Type 0
SelectRow w before after (Ok done) = IsSelected w before after
SelectRow w before after (Err (Refused refusal)) =
    IsRefusedByWords w before after refusal ⊎ IsRefusedByInput w before after refusal
SelectRow w before after (Err ReadFault) = IsReadStopped w before after
SelectRow w before after (Err WriteFault) = IsWriteStopped w before after
SelectRow w before after (Err OutOfMemory) = after.sink ≡ before.sink

-- a text is shown: nothing is read, and the sink got the text
pub record IsShown (text : List ℕ) (before after : Streams) : Type 0 where
  pub unread : after.source ≡ before.source
  pub output : Grew before.sink.written after.sink.written text

-- showing stopped at a fault of the sink, after a first part of the text
pub record IsShowStopped (text : List ℕ) (before after : Streams) : Type 0 where
  pub unread : after.source ≡ before.source
  pub rose : Rose before.sink.faults after.sink.faults
  pub output : WritesPart before.sink.written after.sink.written text

-- the rows of a command that shows a text
abbrev pub ShowRow : List ℕ → Streams → Streams → Result (Unit {0}) SelectStop → Type 0
ShowRow text before after (Ok done) = IsShown text before after
ShowRow text before after (Err WriteFault) = IsShowStopped text before after
ShowRow text before after (Err _) = ⊥

-- what an ending is told as: itself, or want of memory where a text with numbers can't be made
abbrev pub IsToldFor : (ending told : Result (Unit {0}) SelectStop) → Type 0
IsToldFor (Ok done) told = told ≡ Ok done
IsToldFor (Err stop) told = (other : SelectStop) × (told ≡ Err other) × ToldFor stop other

-- an ending with its status, and what it writes on the errors
pub record EndsSo (ending : Result (Unit {0}) SelectStop) (old new : StreamView) (status : ℕ) : Type 0 where
  pub status_is : status ≡ status_of_run ending
  pub text : Tells old new (text_of_run ending)

-- the same of what an ending is told as
pub record ToldSo (ending : Result (Unit {0}) SelectStop) (old new : StreamView) (status : ℕ) : Type 0 where
  pub told : Result (Unit {0}) SelectStop
  pub same : IsToldFor ending told
  pub ends : EndsSo told old new status

-- the words of `select`
pub record IsSelectRun (w : SelectWords) (before after : Streams) (old new : StreamView) (status : ℕ) : Type 0 where
  pub ending : Result (Unit {0}) SelectStop
  pub row : SelectRow w before after ending
  pub ends : EndsSo ending old new status

-- memory ran out before the words were read: nothing is read, and nothing is written
pub record IsStarved (before after : Streams) (old new : StreamView) (status : ℕ) : Type 0 where
  pub same : after ≡ before
  pub ends : EndsSo (Err OutOfMemory) old new status

-- what the words of `select` are is shown
pub record IsHelpRun (before after : Streams) (old new : StreamView) (status : ℕ) : Type 0 where
  pub ending : Result (Unit {0}) SelectStop
  pub row : ShowRow SELECT_HELP.now before after ending
  pub ends : EndsSo ending old new status

-- the words are no command of the program: nothing is read, and nothing is written
pub record IsUnknownRun (before after : Streams) (old new : StreamView) (status : ℕ) : Type 0 where
  pub same : after ≡ before
  pub status_is : status ≡ 1
  pub text : Tells old new unknown_text

-- what the program of `select` alone does where the words are read, by cases on the command
abbrev pub IsRowOfRun : Option Command → Streams → Streams → StreamView → StreamView → ℕ → Type 0
IsRowOfRun (Some (select w)) before after old new status = IsSelectRun w before after old new status
IsRowOfRun (Some (show (HelpOf Select))) before after old new status = IsHelpRun before after old new status
IsRowOfRun _ before after old new status = IsUnknownRun before after old new status

-- a run of it with this status, and what it writes on the errors
abbrev pub IsRun : Option Command → Streams → Streams → StreamView → StreamView → ℕ → Type 0
IsRun command before after old new status = IsStarved before after old new status ⊎ IsRowOfRun command before after old new status

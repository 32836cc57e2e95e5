-- The command `talk`: what words, file and input determine of it, and its rows of the table.
use Rattle.std.specs.Prelude.{◌≡◌, ◌⊎◌, ℕ, List, [], Result, Ok, Err}
use Rattle.http_digest.specs.declared.secret.Secret.{Secret}
use Rattle.archive_entry.specs.declared.entry.Entry.{Entry}
use Rattle.archive_log.specs.Opening.{OpensWith, IsStartFault}
use Rattle.archive_log.specs.declared.fault.StartFault.{StartFault}
use Rattle.archive_log.specs.declared.fault.StartFault.TheVariants as start
use Rattle.archive_state.specs.declared.limits.Limits.{Limits}
use Rattle.desk_words.specs.Setting.{setting}
use Rattle.disk_model.specs.View.{DiskView}
use Rattle.centre_session.specs.Items.{Item, Ending, closing, over, cut, AreItems}
use Rattle.centre_talk.specs.Talk.{TalkRow}
use Rattle.centre_talk.specs.declared.ending.TalkStop.{TalkStop}
use Rattle.centre_talk.specs.declared.ending.TalkStop.TheVariants as talk
use Rattle.command_words.specs.Commands.{TalkWords}
use Rattle.centre.specs.Ends.{EndsBy}
use Rattle.centre.specs.Given.{World, place_at}
use Rattle.centre.specs.Limits.{limits_at}
use Rattle.centre.specs.Serves.{RefusesFile}
use Rattle.centre.specs.declared.ending.Refusal.{Refusal}
use Rattle.centre.specs.declared.ending.Refusal.TheVariants.{RequestCut, NotAJournal, Damaged}
use Rattle.centre.specs.declared.ending.Stop.{Stop}
use Rattle.centre.specs.declared.ending.Stop.TheVariants.{Refused, ReadFault, WriteFault, DiskFault, OutOfMemory}

-- the bytes are the items of a session, which ends so
pub record EndsWith (input : List ℕ) (ending : Ending) : Type 0 where
  pub items : List Item
  pub interim : List ℕ
  pub all : AreItems 0 input items interim ending

-- the file is an archive, and what was read of the input is a session that ends so
pub record IsServed (file input : List ℕ) (ending : Ending) : Type 0 where
  pub history : List Entry
  pub opens : OpensWith file history
  pub ends : EndsWith input ending

-- the file opens with a history, or has a fault
abbrev pub OpensOrNot : List ℕ → Type 0
OpensOrNot file = ((history : List Entry) × OpensWith file history) ⊎ ((fault : StartFault) × IsStartFault file fault)

-- What the file and what was read of the input determine: the session is served to its end, or its last request is cut; or
-- the file is no archive. What is written depends on the moments, and is said by the session.
pub data IsTalkAnswer (file input : List ℕ) (answer : Result (List ℕ) Refusal) : Type 0 where
  served : IsServed file input closing ⊎ IsServed file input over → answer ≡ Ok [] → IsTalkAnswer file input answer
  was_cut : IsServed file input cut → answer ≡ Err RequestCut → IsTalkAnswer file input answer
  refuses : RefusesFile file answer → IsTalkAnswer file input answer

-- how a session over streams stops a run
abbrev pub stop_for_talk : TalkStop → Stop
stop_for_talk talk.ReadFault = ReadFault
stop_for_talk talk.WriteFault = WriteFault
stop_for_talk talk.DiskFault = DiskFault
stop_for_talk talk.OutOfMemory = OutOfMemory
stop_for_talk talk.RequestCut = Refused RequestCut
stop_for_talk talk.NotAJournal = Refused NotAJournal
stop_for_talk (talk.Damaged at) = Refused (Damaged at)

-- What `talk` does, with this outcome: a session over the source and the sink under the limits that the words give. No port is
-- asked.
pub record IsTalk {D : Type 0} (view : D → DiskView) (secret : Secret) (w : TalkWords) (before after : World D) (outcome : Result (Unit {0}) TalkStop) : Type 0 where
  pub limits : Limits
  pub limits_are : limits_at limits ≡ w.limits
  pub ports : after.ports ≡ before.ports
  pub row : TalkRow (setting secret limits) (place_at view before) (place_at view after) after.trail outcome

-- the rows of `talk`
abbrev pub TalkEnding : {D : Type 0} → (D → DiskView) → Secret → TalkWords → World D → World D → Result (Unit {0}) Stop → Type 0
TalkEnding view secret w before after ending = EndsBy stop_for_talk (IsTalk view secret w before after) ending

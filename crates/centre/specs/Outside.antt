-- Which objects of the outside a command needs.
use Rattle.std.specs.Prelude.{◌≡◌, Bool, List, ℕ, Option, None, Some, true, false}
use Rattle.command_words.specs.Commands.{ServeWords, FetchWords, Command, init, talk, serve, drill, fetch, coverage}
use Rattle.centre.specs.declared.objects.Outside.{Outside}

-- no address, and one worker without an end
pub record HasNoMore (outside : Outside) : Type 0 where
  pub second : outside.second ≡ None
  pub address : outside.address ≡ None
  pub dials : outside.dials ≡ false
  pub workers : outside.workers ≡ 1
  pub sessions : outside.sessions ≡ None

-- the archive's file, and whether it may be made
pub record NamesJournal (outside : Outside) (journal : Option (List ℕ)) (may_make : Bool) : Type 0 where
  pub journal_is : outside.journal ≡ journal
  pub may_make_is : outside.may_make ≡ may_make
  pub no_more : HasNoMore outside

-- the file of an archive that is there, the address, the workers and their sessions
pub record NamesService (outside : Outside) (w : ServeWords) : Type 0 where
  pub journal_is : outside.journal ≡ Some w.journal
  pub may_make_is : outside.may_make ≡ false
  pub second : outside.second ≡ None
  pub address : outside.address ≡ Some w.address
  pub dials : outside.dials ≡ false
  pub workers : outside.workers ≡ w.workers
  pub sessions : outside.sessions ≡ w.sessions

-- no file, one worker, and the address of a data centre, which its port dials
pub record NamesPeer (outside : Outside) (w : FetchWords) : Type 0 where
  pub journal_is : outside.journal ≡ None
  pub may_make_is : outside.may_make ≡ false
  pub second : outside.second ≡ None
  pub address : outside.address ≡ Some w.peer
  pub dials : outside.dials ≡ true
  pub workers : outside.workers ≡ 1
  pub sessions : outside.sessions ≡ None

-- `init` and `drill` make the file that they are given, `talk`, `serve` and `coverage` open the one that they are given; `fetch` dials;
-- the other commands use no archive
abbrev pub IsOutside : Option Command → Outside → Type 0
IsOutside (Some (init w)) outside = NamesJournal outside (Some w.journal) true
IsOutside (Some (drill w)) outside = NamesJournal outside (Some w.journal) true
IsOutside (Some (talk w)) outside = NamesJournal outside (Some w.journal) false
IsOutside (Some (serve w)) outside = NamesService outside w
IsOutside (Some (fetch w)) outside = NamesPeer outside w
IsOutside (Some (coverage w)) outside = NamesJournal outside (Some w.journal) false
IsOutside _ outside = NamesJournal outside None false

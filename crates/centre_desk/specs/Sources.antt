-- Where the entries come from that are seen at a desk that is alone: what a request adds, and what it leaves.
use Rattle.std.specs.Prelude.{◌≡◌, ◌⊎◌, ◌==◌, ◌||◌, Bool, true, false, List, [], ◌∷◌, ◌++◌, Option, None, Some, is_some, Result, Ok, Err}
use Rattle.exact_time.specs.declared.error.OutOfMemory.{OutOfMemory}
use Rattle.exact_time.specs.declared.moment.Moment.{Moment}
use Rattle.archive_entry.specs.declared.entry.Entry.{Entry}
use Rattle.archive_state.specs.declared.posted.Posted.{Posted}
use Rattle.desk_words.specs.Posting.{posted_entry}
use Rattle.desk_words.specs.Setting.{Setting}
use Rattle.desk_words.specs.Stand.{Stand, Left, nothing, as_short, as_stopped, MayFlush, NothingShort}
use Rattle.http_replies.specs.declared.reply.Reply.{Reply}
use Rattle.http_wire.specs.declared.turn.Turn.{Turn}
use Rattle.centre_desk.specs.Told.{status_told}
use Rattle.centre_desk.specs.declared.told.Said.{Said}

-- the entry that a request's command becomes behind a history, where it posts one and its caller isn't denied
abbrev pub own_entry : List Entry → Option Posted → Moment → Setting → Option Entry
own_entry h None moment s = None
own_entry h (Some p) moment s = posted_entry h p moment s

-- what was added is the request's own entry, of which a turn tells or for which memory ran out
pub record IsOwn (h : List Entry) (posts : Option Posted) (moment : Moment) (s : Setting) (told ran_out : Bool) (mine : List Entry) : Type 0 where
  pub entry : Entry
  pub entry_is : own_entry h posts moment s ≡ Some entry
  pub cause : (told || ran_out) ≡ true
  pub mine_is : mine ≡ entry ∷ []

-- What a request adds behind a history: nothing, where its turn tells no entry; or its own entry, where its turn tells
-- one or memory ran out.
abbrev pub MayAdd : List Entry → Option Posted → Moment → Setting → (told ran_out : Bool) → List Entry → Type 0
MayAdd h posts moment s told ran_out mine = ((mine ≡ []) × (told ≡ false)) ⊎ IsOwn h posts moment s told ran_out mine

-- what was left is left still; it isn't short where the request added an entry of its own
pub record KeepsLeft (was now : Left) (flushed mine : List Entry) : Type 0 where
  pub unflushed : flushed ≡ []
  pub same : now ≡ was
  pub in_order : (mine ≡ []) ⊎ NothingShort now

-- the request's own entry is left: short where memory ran out, stopped where memory ran out or a disk stopped the command
abbrev pub IsOwnLeft : Option Entry → (ran_out was_stopped : Bool) → Left → Type 0
IsOwnLeft own ran_out was_stopped left =
    ((ran_out ≡ true) × (left ≡ as_short own)) ⊎ (((ran_out || was_stopped) ≡ true) × (left ≡ as_stopped own))

-- What a request does to a desk that is alone. What is seen grows by the entry that was left short, or not, and then by
-- the request's own. What is left then is nothing, or what was left before where that wasn't added, or the request's own
-- entry where that wasn't added.
pub record AloneTurn (old new : Stand) (posts : Option Posted) (moment : Moment) (s : Setting) (told ran_out was_stopped : Bool) : Type 0 where
  pub flushed : List Entry
  pub mine : List Entry
  pub may : MayFlush old.left flushed
  pub seen : new.seen ≡ (old.seen ++ flushed) ++ mine
  pub adds : MayAdd (old.seen ++ flushed) posts moment s told ran_out mine
  pub left : (new.left ≡ nothing) ⊎ (KeepsLeft old.left new.left flushed mine ⊎ ((mine ≡ []) × IsOwnLeft (own_entry new.seen posts moment s) ran_out was_stopped new.left))

-- the same of what a request is told, and of its reply; where there is none, memory ran out
abbrev pub AloneSaid : Stand → Stand → Option Posted → Moment → Setting → Result Said OutOfMemory → Type 0
AloneSaid old new posts moment s (Ok said) = AloneTurn old new posts moment s (is_some said.entry) false (status_told said.told == 503)
AloneSaid old new posts moment s (Err memory) = AloneTurn old new posts moment s false true false

abbrev pub AloneReply : Stand → Stand → Option Posted → Moment → Setting → Result (Reply × Turn) OutOfMemory → Type 0
AloneReply old new posts moment s (Ok told) = AloneTurn old new posts moment s (is_some told.1.entry) false (told.0.status == 503)
AloneReply old new posts moment s (Err memory) = AloneTurn old new posts moment s false true false

-- Where the entries of a session come from, over a desk that is alone.
use Rattle.std.specs.Prelude.{◌≡◌, ◌⊎◌, ◌==◌, ◌||◌, true, List, [], ◌∷◌, ◌++◌, take, ⊤, Option, None, Some, is_some}
use Rattle.archive_entry.specs.declared.entry.Entry.{Entry}
use Rattle.archive_state.specs.declared.posted.Posted.{Posted}
use Rattle.desk_words.specs.Setting.{Setting}
use Rattle.desk_words.specs.Stand.{Stand, Left, nothing, short, stopped}
use Rattle.http_replies.specs.declared.reply.Reply.{Reply}
use Rattle.http_wire.specs.declared.turn.Turn.{Turn}
use Rattle.centre_desk.specs.Sources.{own_entry, MayAdd}
use Rattle.centre_desk.specs.Turns.{posted_by}
use Rattle.centre_session.specs.Items.{Item, asked, refused}

-- the command that an item posts
abbrev pub posted_in : Item → Option Posted
posted_in (asked head r) = posted_by r
posted_in (refused f) = None

-- what a turn adds behind a history: nothing, where it tells no entry; or its own entry, where it tells one or is short
abbrev pub TurnAdds : List Entry → Setting → Item → Turn → List Entry → Type 0
TurnAdds h s item t mine = MayAdd h (posted_in item) t.moment s (is_some t.entry) t.short mine

-- These entries, behind a history, are what the turns added, in order.
abbrev pub Sourced : Setting → List Entry → List Item → List Turn → List Entry → Type 0
Sourced s h [] [] entries = entries ≡ []
Sourced s h (i ∷ items) (t ∷ turns) entries =
    (mine : List Entry) × (rest : List Entry) × TurnAdds h s i t mine × (entries ≡ mine ++ rest) × Sourced s (h ++ mine) items turns rest
Sourced s h [] (t ∷ turns) entries = ⊥
Sourced s h (i ∷ items) [] entries = ⊥

-- an entry that a turn left: its own, over the history up to its front; and the turn is short, or its reply tells that a
-- disk stopped the command
pub record LeftByTurn (h : List Entry) (s : Setting) (item : Item) (t : Turn) (reply : Reply) (e : Entry) : Type 0 where
  pub entry_is : own_entry (take t.front h) (posted_in item) t.moment s ≡ Some e
  pub cause : (t.short || reply.status == 503) ≡ true

-- one of these turns left the entry
abbrev pub LeftByOne : List Entry → Setting → List Item → List Turn → List Reply → Entry → Type 0
LeftByOne h s (i ∷ items) (t ∷ turns) (reply ∷ replies) e = LeftByTurn h s i t reply e ⊎ LeftByOne h s items turns replies e
LeftByOne h s _ _ _ e = ⊥

-- nothing is left, or an entry that one of these turns left
abbrev pub IsLeftBy : List Entry → Setting → List Item → List Turn → List Reply → Left → Type 0
IsLeftBy h s items turns replies nothing = ⊤
IsLeftBy h s items turns replies (short e) = LeftByOne h s items turns replies e
IsLeftBy h s items turns replies (stopped e) = LeftByOne h s items turns replies e

-- an entry that is left short, and may still come in, is the next one of what the turns added
abbrev pub IsNextLeft : Setting → List Entry → List Item → List Turn → List Entry → Left → Type 0
IsNextLeft s h items turns added nothing = ⊤
IsNextLeft s h items turns added (short e) = Sourced s h items turns (added ++ e ∷ [])
IsNextLeft s h items turns added (stopped e) = ⊤

-- A session over a desk that is alone. Each entry that is seen past those before is that of a turn that tells it or is
-- short, in order. What is left is nothing, or the entry of a turn that is short or was stopped.
pub record SourcedSession (old new : Stand) (s : Setting) (items : List Item) (turns : List Turn) (replies : List Reply) : Type 0 where
  pub added : List Entry
  pub seen : new.seen ≡ old.seen ++ added
  pub sourced : Sourced s old.seen items turns added
  pub left : IsLeftBy new.seen s items turns replies new.left
  pub next : IsNextLeft s old.seen items turns added new.left

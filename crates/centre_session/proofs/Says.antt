-- What every session says.
use Rattle.std.proofs.Common.{sym, inl, inr, List, [], ◌∷◌}
use Rattle.std.proofs.lemmas.List.{append-nil}
use Rattle.desk_words.specs.Setting.{Setting}
use Rattle.http_wire.specs.declared.turn.Turn.{Turn}
use Rattle.centre_session.specs.Items.{Ending, closing, over, cut}
use Rattle.centre_session.specs.Session.{Scene, Ended, SessionRow, SessionSays}
use Rattle.centre_session.specs.declared.ending.SessionEnd.{SessionEnd}
use Rattle.centre_session.specs.declared.ending.SessionEnd.TheVariants.{Closed, Cut, LinkFault, Memory}

abbrev pub ended_says : (x z : Scene) (s : Setting) (turns : List Turn) (ending : Ending) → Ended x z s turns ending → SessionSays x z s turns
ended_says x z s turns ending e = record {
  items = e.items;
  replies = e.replies;
  done = turns;
  more = [];
  turns_are = sym (append-nil turns);
  serves = e.serves;
  are_more = tt;
  later = e.later;
  moments = e.moments;
}

-- whatever its end
abbrev pub session_says : (x z : Scene) (s : Setting) (turns : List Turn) (ending : SessionEnd) → SessionRow x z s turns ending → SessionSays x z s turns
session_says x z s turns Closed (inl row) = ended_says x z s turns closing row
session_says x z s turns Closed (inr row) = ended_says x z s turns over row
session_says x z s turns Cut row = ended_says x z s turns cut row
session_says x z s turns LinkFault row = record {
  items = row.items;
  replies = row.replies;
  done = turns;
  more = [];
  turns_are = sym (append-nil turns);
  serves = row.session.serves;
  are_more = tt;
  later = row.session.later;
  moments = row.moments;
}
session_says x z s turns Memory row = record {
  items = row.items;
  replies = row.replies;
  done = row.done;
  more = row.last ∷ [];
  turns_are = row.turns_are;
  serves = row.session.serves;
  are_more = record { short = row.short; no_entry = row.no_entry; front = row.front };
  later = row.session.later;
  moments = row.moments;
}

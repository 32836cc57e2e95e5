-- What words say that clap refuses, and that it takes.
use Rattle.std.proofs.Common.{◌≡◌, ◌≢◌, List, [], ◌∷◌, Option, None, refl, sym, ap, ◌∙◌}
use Rattle.clap.specs.Words.{App, Kinds, Row, Text, fault_of, matches_of}
use Rattle.command_words.specs.Values.{by_rows, read_by}

none_by_rows : {A : Type 0} (read : List Row → Option A) (kinds : Kinds) (rows : List Row) → kinds ≢ [] → None ≡ by_rows read kinds rows
none_by_rows read [] rows some = absurd (some refl)
none_by_rows read (kind ∷ kinds) rows some = refl

pub none_read : {A : Type 0} (app : App) (read : List Row → Option A) (words : List Text) → fault_of app words ≢ [] → None ≡ read_by app read words
none_read app read words some = none_by_rows read (fault_of app words) (matches_of app words) some

-- words that clap takes say what is read of their values
pub read_of : {A : Type 0} (app : App) (read : List Row → Option A) (words : List Text) (rows : List Row) (found : Option A) → fault_of app words ≡ [] → rows ≡ matches_of app words → found ≡ read rows
    → found ≡ read_by app read words
read_of app read words rows found none rows_are is = is ∙ ap read rows_are ∙ ap (λ (kinds : Kinds). by_rows read kinds (matches_of app words)) (sym none)

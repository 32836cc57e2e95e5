-- One more item of a fold over texts that are lent.
use Rattle.std.proofs.Common.{◌≡◌, ℕ, ◌+◌, ◌<◌, List, [], length, take, map, fold, refl, Bor, get_or}
use Rattle.std.proofs.lemmas.List.{take_more, map-append}
use Rattle.std.proofs.lemmas.List.Sums.{fold-append}
use Rattle.clap.specs.Words.{App, Text}

abbrev pub no_text : Bor Text
no_text = record { ref_ptr = (0, 0); now = [] }

pub fold_text : (f : App → Text → App) (a : App) (xs : List (Bor Text)) (i : ℕ) (d : Bor Text) → i < length xs
    → fold f a (map (λ t. t.now) (take (i + 1) xs)) ≡ f (fold f a (map (λ t. t.now) (take i xs))) (get_or xs i d).now
fold_text f a xs i d h = rw (take_more xs i d h, map-append, fold-append) refl

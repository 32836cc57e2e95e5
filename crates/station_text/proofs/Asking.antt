-- What is asked for are epochs.
use Rattle.std.proofs.Common.{◌≡◌, Bool, true, false, ◌||◌, ◌&&◌, List, [], ◌∷◌, map, filter, cond, subst, sym, refl}
use Rattle.std.specs.List.{AllByRecursion}
use Rattle.std.specs.Borrow.{Bor}
use Rattle.std.proofs.lemmas.Bool.{and_parts, true≢false}
use Rattle.query_parameters.specs.declared.level.Level.{Level}
use Rattle.query_parameters.specs.declared.level.Level.TheVariants as level
use Rattle.query_words.specs.declared.station.StationQuery.{StationQuery}
use Rattle.epochs.specs.declared.kinds.LineKind.TheVariants.{Net, Sta, Cha}
use Rattle.epochs.specs.declared.line.Line.{Line}
use Rattle.epochs.specs.Lines.{LineValues}
use Rattle.epoch_rules.specs.Rules.{is_line_of, is_epoch}
use Rattle.station_text.specs.Asked.{is_asked_at, is_line_asked, asked_lines, selects_network, selects_station, selects_channel, is_eligible}
use Rattle.station_text.specs.Windows.{line_passes}
use Rattle.station_text.specs.Lines.{line_at}

first_holds : (a b c : Bool) → a ≡ true → (a || b || c) ≡ true
first_holds true b c h = refl
first_holds false b c h = absurd (true≢false (sym h))

second_holds : (a b c : Bool) → b ≡ true → (a || b || c) ≡ true
second_holds true b c h = refl
second_holds false true c h = refl
second_holds false false c h = absurd (true≢false (sym h))

third_holds : (a b c : Bool) → c ≡ true → (a || b || c) ≡ true
third_holds true b c h = refl
third_holds false true c h = refl
third_holds false false c h = h

first_of_three : (a b c : Bool) → (a && b && c) ≡ true → a ≡ true
first_of_three a b c h = (and_parts a b (and_parts (a && b) c h).0).0

epoch_at : (live : List LineValues) (q : StationQuery) (e : LineValues) (level : Level) → is_asked_at level live q e ≡ true → is_epoch e ≡ true
epoch_at live q e level.Network h =
    first_holds (is_line_of Net e) (is_line_of Sta e) (is_line_of Cha e) (first_of_three (is_line_of Net e) (line_passes q e) (selects_network live q e) h)
epoch_at live q e level.Station h =
    second_holds (is_line_of Net e) (is_line_of Sta e) (is_line_of Cha e) (first_of_three (is_line_of Sta e) (is_eligible q e) (selects_station live q e) h)
epoch_at live q e level.Channel h =
    third_holds (is_line_of Net e) (is_line_of Sta e) (is_line_of Cha e) (first_of_three (is_line_of Cha e) (is_eligible q e) (selects_channel q e) h)

all_epochs : (live : List LineValues) (q : StationQuery) (lines : List LineValues) → AllByRecursion (λ e. is_epoch e ≡ true) (filter (is_line_asked live q) lines)
all_epochs live q [] = tt
all_epochs live q (e ∷ lines) =
    elim (is_line_asked live q e) as (λ b. is_line_asked live q e ≡ b → AllByRecursion (λ e. is_epoch e ≡ true) (cond b (e ∷ filter (is_line_asked live q) lines) (filter (is_line_asked live q) lines))) [
      | true ↦ λ h. (epoch_at live q e q.level h, all_epochs live q lines)
      | false ↦ λ h. all_epochs live q lines
    ] refl

all_lent : (lines : List (Bor Line)) → AllByRecursion (λ e. is_epoch e ≡ true) (map line_at lines) → AllByRecursion (λ line. is_epoch (line_at line) ≡ true) lines
all_lent [] all = tt
all_lent (line ∷ lines) all = (all.0, all_lent lines all.1)

-- the lines that are asked for are epochs
pub epochs_asked : (live : List LineValues) (q : StationQuery) (lines : List (Bor Line)) → map line_at lines ≡ asked_lines live q → AllByRecursion (λ line. is_epoch (line_at line) ≡ true) lines
epochs_asked live q lines is = all_lent lines (subst (AllByRecursion (λ e. is_epoch e ≡ true)) (sym is) (all_epochs live q live))

-- The lines that are asked for are among those of the level.
use Rattle.std.proofs.Common.{◌≡◌, Bool, true, false, ◌&&◌, List, [], ◌∷◌, filter, cond, refl, sym, ap, ◌∙◌}
use Rattle.std.proofs.lemmas.Bool.{cond-false}
use Rattle.query_parameters.specs.declared.level.Level.{Level}
use Rattle.query_parameters.specs.declared.level.Level.TheVariants as level
use Rattle.query_words.specs.declared.station.StationQuery.{StationQuery}
use Rattle.epochs.specs.declared.kinds.LineKind.TheVariants.{Net, Sta, Cha}
use Rattle.epochs.specs.Lines.{LineValues}
use Rattle.epoch_catalog.specs.Families.{is_in}
use Rattle.epoch_rules.specs.Rules.{is_line_of}
use Rattle.station_text.specs.Asked.{is_asked_at, asked_lines, is_line_asked, is_eligible, selects_network, selects_station, selects_channel}
use Rattle.station_text.specs.Found.{level_family}
use Rattle.station_text.specs.Windows.{line_passes}

-- where what passes one test passes another, the first of these alone is the same
pub filter_within : {X : Type 0} (p q : X → Bool) → ((x : X) → (q x && p x) ≡ p x) → (xs : List X) → filter p (filter q xs) ≡ filter p xs
filter_within p q inside [] = refl
filter_within {X} p q inside (x ∷ xs) =
    elim (q x) as (λ b. q x ≡ b → filter p (cond b (x ∷ filter q xs) (filter q xs)) ≡ cond (p x) (x ∷ filter p xs) (filter p xs)) [
      | true ↦ λ h. ap (λ (ys : List X). cond (p x) (x ∷ ys) ys) (filter_within p q inside xs)
      | false ↦ λ h. filter_within p q inside xs ∙ sym (cond-false _ _ _ (sym (inside x) ∙ ap (λ b. b && p x) h))
    ] refl

of_kind : (kind passes some : Bool) → (kind && (kind && passes && some)) ≡ (kind && passes && some)
of_kind true passes some = refl
of_kind false passes some = refl

in_level : (level : Level) (live : List LineValues) (q : StationQuery) (e : LineValues) → (is_in (level_family level) e && is_asked_at level live q e) ≡ is_asked_at level live q e
in_level level.Network live q e = of_kind (is_line_of Net e) (line_passes q e) (selects_network live q e)
in_level level.Station live q e = of_kind (is_line_of Sta e) (is_eligible q e) (selects_station live q e)
in_level level.Channel live q e = of_kind (is_line_of Cha e) (is_eligible q e) (selects_channel q e)

pub among_level : (live : List LineValues) (q : StationQuery) → filter (is_line_asked live q) (filter (is_in (level_family q.level)) live) ≡ asked_lines live q
among_level live q = filter_within (is_line_asked live q) (is_in (level_family q.level)) (in_level q.level live q) live

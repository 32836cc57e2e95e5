-- A withdrawal that matches a name is marked under that name, or wide; so what is found among these is found among all.
use Rattle.std.proofs.Common.{◌≡◌, ◌∙◌, ℕ, zero, suc, ◌<◌, Bool, true, false, not, cond, ◌&&◌, ◌||◌, List, [], ◌∷◌, filter, map, length, get_or, Option, Some, None, option_map, refl, sym, ap, subst, arith, inl, inr, ◌⊎◌}
use Rattle.std.specs.Prelude.{Contains, All, int_le, nat_le}
use Rattle.std.specs.List.{list_any, slice_get}
use Rattle.std.proofs.lemmas.Bool.{and_parts, and_from, or_right, true≢false}
use Rattle.std.proofs.lemmas.List.Elements.{All-head, All-tail, Contains-get_or}
use Rattle.std.proofs.lemmas.Option.{same_Some, slice_get-get_or, slice_get-map}
use Rattle.channel_globs.specs.Matching.{is_match_any}
use Rattle.channel_globs.specs.declared.nslc.Nslc.{Nslc}
use Rattle.channel_globs.specs.declared.nslc.Part.TheVariants.{Network, Station, Channel}
use Rattle.epochs.specs.declared.line.Line.{Line}
use Rattle.epochs.specs.declared.line.Line.TheVariants.{Net, Sta, Cha, Evt, Rst, Grt, Usr, Wdr, Del}
use Rattle.epochs.specs.declared.line.Withdrawal.{Withdrawal}
use Rattle.epochs.specs.Kinds.{Text}
use Rattle.epochs.specs.Lines.{LineValues, end_of}
use Rattle.epochs.specs.Values.{withdrawal_line}
use Rattle.epochs.specs.Views.{values_of_line}
use Rattle.epochs.proofs.SpellableWord.{spellable_has}
use Rattle.epoch_catalog.specs.declared.families.Family.TheVariants as family
use Rattle.epoch_catalog.specs.declared.withdrawals.Mark.{Mark}
use Rattle.epoch_catalog.specs.Families.{is_in}
use Rattle.epoch_catalog.specs.Globs.{AreRead}
use Rattle.epoch_catalog.specs.Wide.{is_one_code, is_one_location, is_one_name, is_wide, StandAt, wide_in}
use Rattle.epoch_catalog.specs.Withdrawals.{location_in, is_marked, name_in, micros_of, ends_by, IsMarked}
use Rattle.epoch_catalog.proofs.OneCodes.{one_code_matches, one_location_matches}
use Rattle.epoch_rules.specs.Rules.{epoch_start}
use Rattle.dataselect.specs.Query.{holds}
use Rattle.mseed_header.specs.declared.row.Row.{Row}
use Rattle.access_digest.specs.Access.{is_there, is_over_by, keeps_times, upto_in, withdraws, withdraws_some}
use Rattle.access_digest.proofs.Isolation.{withdrawing_named}
use Rattle.access_digest.proofs.MarkSearch.{over_grows}
use Rattle.access_digest.proofs.WideLines.{any_at}

-- a withdrawal whose texts are codes and whose patterns match a name is written as that name
module _ (name : Nslc) (w : Withdrawal) where
  read : AreRead w.channels
  read =
      let values = (spellable_has (withdrawal_line w.channels w.times w.upto) w.spellable).values_are in
      record { network_is = values.0; station_is = values.1.0; location_is = values.1.1.0; channel_is = values.1.1.1.0 }

  named : withdraws_some (values_of_line (Wdr w)) name ≡ true → is_one_name w.channels.network.text w.channels.station.text w.channels.location.text w.channels.channel.text ≡ true
      → name_in (values_of_line (Wdr w)) ≡ name
  named matches one =
      let network = w.channels.network.text in
      let station = w.channels.station.text in
      let location = w.channels.location.text in
      let channel = w.channels.channel.text in
      let n = is_match_any w.channels.network.list name.network in
      let s = is_match_any w.channels.station.list name.station in
      let l = is_match_any w.channels.location.list name.location in
      let c = is_match_any w.channels.channel.list name.channel in
      let m2 = and_parts ((n && s) && l) c matches in
      let m1 = and_parts (n && s) l m2.0 in
      let m0 = and_parts n s m1.0 in
      let o2 = and_parts ((is_one_code network && is_one_code station) && is_one_location location) (is_one_code channel) one in
      let o1 = and_parts (is_one_code network && is_one_code station) (is_one_location location) o2.0 in
      let o0 = and_parts (is_one_code network) (is_one_code station) o1.0 in
      let network_is = one_code_matches Network network w.channels.network.list name.network refl read.network_is o0.0 m0.0 in
      let station_is = one_code_matches Station station w.channels.station.list name.station refl read.station_is o0.1 m0.1 in
      let location_is = one_location_matches location w.channels.location.list name.location read.location_is o1.1 m1.1 in
      let channel_is = one_code_matches Channel channel w.channels.channel.list name.channel refl read.channel_is o2.1 m2.1 in
      λ i. record { network = network_is i; station = station_is i; location = location_is i; channel = channel_is i }

  marked_or_wide : withdraws_some (values_of_line (Wdr w)) name ≡ true
      → ((is_marked (values_of_line (Wdr w)) ≡ true) × (name_in (values_of_line (Wdr w)) ≡ name)) ⊎ ((is_in family.Withdrawals (values_of_line (Wdr w)) && is_wide (values_of_line (Wdr w))) ≡ true)
  marked_or_wide matches = by (is_one_name w.channels.network.text w.channels.station.text w.channels.location.text w.channels.channel.text) refl
    where
      by : (one : Bool) → is_one_name w.channels.network.text w.channels.station.text w.channels.location.text w.channels.channel.text ≡ one
          → ((is_marked (values_of_line (Wdr w)) ≡ true) × (name_in (values_of_line (Wdr w)) ≡ name)) ⊎ ((is_in family.Withdrawals (values_of_line (Wdr w)) && is_wide (values_of_line (Wdr w))) ≡ true)
      by true is = inl (is, named matches is)
      by false is = inr (ap not is)

withdrawing_place : (name : Nslc) (line : Line) → withdraws_some (values_of_line line) name ≡ true
    → ((is_marked (values_of_line line) ≡ true) × (name_in (values_of_line line) ≡ name)) ⊎ ((is_in family.Withdrawals (values_of_line line) && is_wide (values_of_line line)) ≡ true)
withdrawing_place name (Net x) h = absurd (true≢false (sym h))
withdrawing_place name (Sta x) h = absurd (true≢false (sym h))
withdrawing_place name (Cha x) h = absurd (true≢false (sym h))
withdrawing_place name (Evt x) h = absurd (true≢false (sym h))
withdrawing_place name (Rst x) h = absurd (true≢false (sym h))
withdrawing_place name (Grt x) h = absurd (true≢false (sym h))
withdrawing_place name (Usr x) h = absurd (true≢false (sym h))
withdrawing_place name (Wdr w) h = marked_or_wide name w h
withdrawing_place name (Del x) h = absurd (true≢false (sym h))

-- a line has these values
line_at : (lines : List Line) (k : ℕ) (e : LineValues) → slice_get (map values_of_line lines) k ≡ Some e → (line : Line) × (values_of_line line ≡ e)
line_at [] k e h = absurd (cc)
line_at (l ∷ lines) zero e h = (l, same_Some (values_of_line l) e h)
line_at (l ∷ lines) (suc k) e h = line_at lines k e h

there_mapped : (test : LineValues → Bool) (lines : List Line) (k : ℕ) → is_there (λ line. test (values_of_line line)) (slice_get lines k) ≡ is_there test (slice_get (map values_of_line lines) k)
there_mapped test lines k = here (slice_get lines k) ∙ ap (is_there test) (sym (slice_get-map values_of_line lines k))
  where
    here : (o : Option Line) → is_there (λ line. test (values_of_line line)) o ≡ is_there test (option_map values_of_line o)
    here None = refl
    here (Some line) = refl

-- what passes at a place passes among all
there_among : (test : LineValues → Bool) (live : List LineValues) (k : ℕ) → is_there test (slice_get live k) ≡ true → list_any test live ≡ true
there_among test [] k h = absurd (true≢false (sym h))
there_among test (e ∷ live) zero h = ap (λ b. b || list_any test live) h
there_among test (e ∷ live) (suc k) h = or_right (test e) (list_any test live) (there_among test live k h)

any_gives : {X : Type 0} (p : X → Bool) (xs : List X) (b : Bool) → ((x : X) → p x ≡ true → b ≡ true) → list_any p xs ≡ true → b ≡ true
any_gives p [] b gives h = absurd (true≢false (sym h))
any_gives p (x ∷ xs) b gives h =
    elim (p x) as (λ a. p x ≡ a → (a || list_any p xs) ≡ true → b ≡ true) [
      | true ↦ λ is k. gives x is
      | false ↦ λ is k. any_gives p xs b gives k
    ] refl h

contained_any : {X : Type 0} (p : X → Bool) (xs : List X) (x : X) (k : ℕ) → k < length xs → get_or xs k x ≡ x → p x ≡ true → list_any p xs ≡ true
contained_any p [] x k lt is pass = absurd (omega (arith, lt))
contained_any p (y ∷ xs) x zero lt is pass = ap (λ b. b || list_any p xs) (ap p is ∙ pass)
contained_any p (y ∷ xs) x (suc k) lt is pass = or_right (p y) (list_any p xs) (contained_any p xs x k (omega (arith, lt)) is pass)

-- a test that asks for another has its answer from the elements that pass the other
any_kept : (q test : LineValues → Bool) (xs : List LineValues) → All (λ e. test e ≡ true → q e ≡ true) xs → list_any test (filter q xs) ≡ list_any test xs
any_kept q test [] all = refl
any_kept q test (x ∷ xs) all =
    let rest = any_kept q test xs (All-tail (λ e. test e ≡ true → q e ≡ true) x xs all) in
    let first = All-head (λ e. test e ≡ true → q e ≡ true) x xs all in
    elim (q x) as (λ b. (test x ≡ true → b ≡ true) → list_any test (cond b (x ∷ filter q xs) (filter q xs)) ≡ (test x || list_any test xs)) [
      | true ↦ λ one. ap (λ b. test x || b) rest
      | false ↦ λ one. elim (test x) as (λ a. (a ≡ true → false ≡ true) → list_any test (filter q xs) ≡ (a || list_any test xs)) [
        | true ↦ λ two. absurd (true≢false (sym (two refl)))
        | false ↦ λ two. rest
      ] one
    ] first

-- What is found among the marks of a name, and else among the wide lines, is found among all: a marked line that is found passes
-- the test, and a mark is found where its line passes.
module _ (test : LineValues → Bool) (name : Nslc) (lines : List Line) (live : List LineValues) (ms : List Mark) (found : Mark → Bool) (are : map values_of_line lines ≡ live)
    (matches : (e : LineValues) → test e ≡ true → withdraws_some e name ≡ true)
    (sound : (m : Mark) → found m ≡ true → is_there (λ line. test (values_of_line line)) (slice_get lines m.place) ≡ true) where
  -- what is at a place among the lines
  along : (k : ℕ) → is_there (λ line. test (values_of_line line)) (slice_get lines k) ≡ is_there test (slice_get live k)
  along k = there_mapped test lines k ∙ ap (λ (all : List LineValues). is_there test (slice_get all k)) are

  pub found_marked : (a : Bool) → a ≡ list_any found ms → a ≡ true → a ≡ list_any test live
  found_marked a first hit =
      hit ∙ sym (any_gives found ms (list_any test live) (λ m passes. there_among test live m.place (sym (along m.place) ∙ sound m passes)) (sym first ∙ hit))

  pub found_later : (places : List ℕ) (a b : Bool)
      → ((e : LineValues) → Contains live e → is_marked e ≡ true → name_in e ≡ name → IsMarked live ms e)
      → ((e : LineValues) (m : Mark) → test e ≡ true → is_there (λ line. test (values_of_line line)) (slice_get lines m.place) ≡ true
      → m.start.micros ≡ epoch_start e → ends_by (end_of e.values) (micros_of m.reach) ≡ true → found m ≡ true)
      → StandAt live places (wide_in family.Withdrawals live) → a ≡ list_any found ms
      → b ≡ list_any (λ place. is_there (λ line. test (values_of_line line)) (slice_get lines place)) places → a ≡ false → b ≡ list_any test live
  found_later places a b held full stand first second missed =
      let q : LineValues → Bool = λ e. is_in family.Withdrawals e && is_wide e in
      let two : b ≡ list_any test (filter q live) =
      second ∙ any_at test lines places (filter q live) (subst (λ (all : List LineValues). StandAt all places (filter q live)) (sym are) stand) in
      two ∙ any_kept q test live (λ k d lt. wide (get_or live k d) k d lt refl)
    where
      wide : (e : LineValues) (k : ℕ) (d : LineValues) → k < length live → get_or live k d ≡ e → test e ≡ true → (is_in family.Withdrawals e && is_wide e) ≡ true
      wide e k d lt is passes =
          let at : slice_get live k ≡ Some e = slice_get-get_or live k d lt ∙ ap (λ (x : LineValues). Some x) is in
          let line = line_at lines k e (ap (λ (all : List LineValues). slice_get all k) are ∙ at) in
          let matched : withdraws_some (values_of_line line.0) name ≡ true = ap (λ (x : LineValues). withdraws_some x name) line.1 ∙ matches e passes in
          elim (withdrawing_place name line.0 matched) [
            | inl one ↦
                (let there = subst (λ (x : LineValues). Contains live x) is (Contains-get_or live k d lt) in
                let mark = held e there (ap is_marked (sym line.1) ∙ one.0) (ap name_in (sym line.1) ∙ one.1) in
                let among = mark.among in
                let here : is_there (λ l. test (values_of_line l)) (slice_get lines mark.mark.place) ≡ true = along mark.mark.place ∙ ap (is_there test) mark.there ∙ passes in
                let hit = contained_any found ms mark.mark among.0 among.1 among.2 (full e mark.mark passes here mark.starts mark.reaches) in
                absurd (true≢false (sym hit ∙ sym first ∙ missed)))
            | inr other ↦ ap (λ (x : LineValues). is_in family.Withdrawals x && is_wide x) (sym line.1) ∙ other
          ]

-- a mark of a withdrawal that covers a row begins in time, and reaches the row's end
pub mark_covers : (row : Row) (e : LineValues) (m : Mark) (there : Bool) → withdraws e row ≡ true → there ≡ true → m.start.micros ≡ epoch_start e → ends_by (end_of e.values) (micros_of m.reach) ≡ true
    → (int_le m.start.micros row.header.start.micros && (holds (λ stop. is_over_by row.header stop) (micros_of m.reach) && there)) ≡ true
mark_covers row e m there covers here starts reaches =
    let kept = (and_parts (withdraws_some e row.header.name) (keeps_times e row.header) (and_parts (withdraws_some e row.header.name && keeps_times e row.header) (nat_le row.entry (upto_in e.values)) covers).0).1 in
    let times = and_parts (int_le (epoch_start e) row.header.start.micros) (holds (λ stop. is_over_by row.header stop) (end_of e.values)) kept in
    let begun : int_le m.start.micros row.header.start.micros ≡ true = ap (λ s. int_le s row.header.start.micros) starts ∙ times.0 in
    let over = over_grows row.header (end_of e.values) (micros_of m.reach) reaches times.1 in
    and_from (int_le m.start.micros row.header.start.micros) (holds (λ stop. is_over_by row.header stop) (micros_of m.reach) && there) begun
    (and_from (holds (λ stop. is_over_by row.header stop) (micros_of m.reach)) there over here)

pub mark_there : (row : Row) (m : Mark) (there : Bool) → (int_le m.start.micros row.header.start.micros && (holds (λ stop. is_over_by row.header stop) (micros_of m.reach) && there)) ≡ true → there ≡ true
mark_there row m there h =
    (and_parts (holds (λ stop. is_over_by row.header stop) (micros_of m.reach)) there
    (and_parts (int_le m.start.micros row.header.start.micros) (holds (λ stop. is_over_by row.header stop) (micros_of m.reach) && there) h).1).1

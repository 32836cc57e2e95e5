-- A row's bytes are held exactly where a spot beside its own has them.
use Rattle.std.proofs.Common.{◌≡◌, ℕ, zero, suc, ◌<◌, ◌≤◌, Bool, true, false, not, ◌||◌, ◌&&◌, List, [], ◌∷◌, length, refl, sym, ap, ◌∙◌, arith, Option, Some, None, subst, true≢false, nat_cmp}
use Rattle.std.specs.List.{list_any, slice_get}
use Rattle.std.specs.Str.{bytes_eq}
use Rattle.std.specs.Ordering.{is_eq, is_le, int_cmp, ordering_then}
use Rattle.std.specs.declared.ops.Bound.TheVariants.{Included, Excluded}
use Rattle.std.specs.BTreeMap.{BTreeMap, get}
use Rattle.std.specs.BTreeMap.Range.{range_contains}
use Rattle.std.proofs.lemmas.Bool.{and_from, or_left, or_right}
use Rattle.std.proofs.lemmas.Bool.Decides.{nat_tests}
use Rattle.std.proofs.lemmas.Cmp.{tied_itself, int_cmp_total, nat_cmp_total}
use Rattle.std.proofs.lemmas.Option.{slice_get_within}
use Rattle.std.proofs.lemmas.Slice.Eq.{bytes_eq-Decides}
use Rattle.channel_globs.specs.declared.nslc.Nslc.{Nslc}
use Rattle.mseed_header.proofs.Headers.{one_header}
use Rattle.mseed_header.specs.Header.{HasHeader, IsRecord}
use Rattle.mseed_header.specs.declared.header.Header.{Header}
use Rattle.mseed_header.specs.declared.row.Row.{Row}
use Rattle.dataselect.specs.Rows.{has_image}
use Rattle.channel_globs.specs.Names.{name_cmp}
use Rattle.channel_globs.proofs.Names.{names_total}
use Rattle.time_index.specs.declared.spot.Spot.{Spot}
use Rattle.time_index.specs.declared.channels.Channel.{Channel}
use Rattle.time_index.specs.Doubles.{has_image_or, has_image_at, first_twin, is_twin}
use Rattle.time_index.specs.Index.{is_there, IsChannelIndex}
use Rattle.time_index.specs.Spots.{fingerprint_of, spot_cmp, spot_at, is_same, has, has_spot}
use Rattle.time_index.proofs.Sets.{itself, any_filtered}

-- a row with these bytes
record Twin (rows : List Row) (image : List ℕ) : Type 0 where
  place : ℕ
  row : Row
  at : slice_get rows place ≡ Some row
  same : row.image ≡ image

find_twin : (image : List ℕ) (rows : List Row) → has_image image rows ≡ true → Twin rows image
find_twin image [] h = absurd (true≢false (sym h))
find_twin image (r ∷ rows) h =
    elim (bytes_eq r.image image) as (λ b. bytes_eq r.image image ≡ b → (b || has_image image rows) ≡ true → Twin (r ∷ rows) image) [
      | true ↦ λ e _. record { place = 0; row = r; at = refl; same = (bytes_eq-Decides r.image image).0 e }
      | false ↦ λ _ rest. let later = find_twin image rows rest in record { place = suc later.place; row = later.row; at = later.at; same = later.same }
    ] refl h

has_at : (image : List ℕ) (rows : List Row) (place : ℕ) → has_image_at rows image place ≡ true → has_image image rows ≡ true
has_at image [] place h = absurd (true≢false (sym h))
has_at image (r ∷ rows) zero h = or_left (bytes_eq r.image image) (has_image image rows) h
has_at image (r ∷ rows) (suc place) h = or_right (bytes_eq r.image image) (has_image image rows) (has_at image rows place h)

has_some : (image : List ℕ) (rows : List Row) (spots : List Spot) → list_any (λ s. has_image_at rows image s.place) spots ≡ true → has_image image rows ≡ true
has_some image rows [] h = absurd (true≢false (sym h))
has_some image rows (s ∷ spots) h =
    elim (has_image_at rows image s.place) as (λ b. has_image_at rows image s.place ≡ b → (b || list_any (λ s. has_image_at rows image s.place) spots) ≡ true → has_image image rows ≡ true) [
      | true ↦ λ e _. has_at image rows s.place e
      | false ↦ λ _ rest. has_some image rows spots rest
    ] refl h

-- rows with equal bytes have equal headers
header_of : (image : List ℕ) (h : Header) → IsRecord image h → HasHeader image h
unfolding IsRecord
header_of image h is = is.0

same_header : (a b : Row) → a.image ≡ b.image → a.header ≡ b.header
same_header a b e = one_header b.image a.header b.header (header_of b.image a.header (subst (λ (image : List ℕ). IsRecord image a.header) e a.head)) (header_of b.image b.header b.head)

le_nats : (i j : ℕ) → i ≤ j → is_le (nat_cmp i j) ≡ true
le_nats i j h = grind (arith, nat_tests)

past_nats : (i j : ℕ) → j < i → is_le (nat_cmp i j) ≡ false
past_nats i j h = grind (arith, nat_tests)

-- spots with one start and one fingerprint are in order of their places
beside : (a b : Spot) → a.start.micros ≡ b.start.micros → a.fingerprint ≡ b.fingerprint → spot_cmp a b ≡ nat_cmp a.place b.place
beside a b start print =
    ap (λ o. ordering_then o (ordering_then (nat_cmp a.fingerprint b.fingerprint) (nat_cmp a.place b.place))) (ap (int_cmp a.start.micros) (sym start) ∙ tied_itself int_cmp_total a.start.micros)
    ∙ ap (λ o. ordering_then o (nat_cmp a.place b.place)) (ap (nat_cmp a.fingerprint) (sym print) ∙ tied_itself nat_cmp_total a.fingerprint)

-- the spot of an earlier row with equal bytes is among those looked at
among : (row twin : Row) (n place : ℕ) → twin.header ≡ row.header → twin.image ≡ row.image → place < n
    → range_contains spot_cmp (Included (first_twin (spot_at n row))) (Excluded (spot_at n row)) (spot_at place twin) ≡ true
among row twin n place header image before =
    let start : row.header.start.micros ≡ twin.header.start.micros = ap (λ (h : Header). h.start.micros) (sym header) in
    let print : fingerprint_of row.image ≡ fingerprint_of twin.image = ap fingerprint_of (sym image) in
    let from : is_le (spot_cmp (first_twin (spot_at n row)) (spot_at place twin)) ≡ true = ap is_le (beside (first_twin (spot_at n row)) (spot_at place twin) start print) ∙ le_nats 0 place (omega arith) in
    let up_to : is_le (spot_cmp (spot_at n row) (spot_at place twin)) ≡ false = ap is_le (beside (spot_at n row) (spot_at place twin) start print) ∙ past_nats n place before in
    ap (λ b. b && not (is_le (spot_cmp (spot_at n row) (spot_at place twin)))) from ∙ ap not up_to

module _ (rows : List Row) (m : BTreeMap Nslc Channel) (index : IsChannelIndex rows m) (row : Row) where
  twin_held : (t : Twin rows row.image) → has_spot m row.header.name (spot_at t.place t.row) ≡ true
  twin_held t =
      index.spots row.header.name (spot_at t.place t.row)
      ∙ ap (is_there row.header.name (spot_at t.place t.row)) t.at
      ∙ and_from (is_same t.row.header.name row.header.name) _
      (ap (λ (h : Header). is_same h.name row.header.name) (same_header t.row row t.same) ∙ ap is_eq (tied_itself names_total row.header.name))
      (itself (spot_at t.place t.row) (spot_at t.place t.row) refl)

  twin_seen : (t : Twin rows row.image) (o : Option Channel) → has o (spot_at t.place t.row) ≡ true → is_twin rows row.image (spot_at (length rows) row) o ≡ true
  twin_seen t None held = absurd (true≢false (sym held))
  twin_seen t (Some channel) held =
      any_filtered (λ s. has_image_at rows row.image s.place) (range_contains spot_cmp (Included (first_twin (spot_at (length rows) row))) (Excluded (spot_at (length rows) row))) channel.spots.keys (spot_at t.place t.row) held
      (among row t.row (length rows) t.place (same_header t.row row t.same) t.same (slice_get_within rows t.place t.row t.at))
      (ap (has_image_or row.image) t.at ∙ (bytes_eq-Decides t.row.image row.image).1 t.same)

  has_twin : (o : Option Channel) → is_twin rows row.image (spot_at (length rows) row) o ≡ true → has_image row.image rows ≡ true
  has_twin None h = absurd (true≢false (sym h))
  has_twin (Some channel) h = has_some row.image rows _ h

  same_bool : (a b : Bool) → (a ≡ true → b ≡ true) → (b ≡ true → a ≡ true) → a ≡ b
  same_bool true b f g = sym (f refl)
  same_bool false true f g = g refl
  same_bool false false f g = refl

  pub twins_decide : is_twin rows row.image (spot_at (length rows) row) (get name_cmp m row.header.name) ≡ has_image row.image rows
  twins_decide =
      same_bool (is_twin rows row.image (spot_at (length rows) row) (get name_cmp m row.header.name)) (has_image row.image rows)
      (has_twin (get name_cmp m row.header.name))
      (λ h. let t = find_twin row.image rows h in twin_seen t (get name_cmp m row.header.name) (twin_held t))

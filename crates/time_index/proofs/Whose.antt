-- The rows at the spots of a channel have its name.
use Rattle.std.proofs.Common.{◌≡◌, ◌++◌, true, false, cond, Bool, ℕ, List, [], ◌∷◌, filter, Option, Some, None, refl, sym, ap, ◌∙◌, true≢false, append_assoc}
use Rattle.std.specs.List.{list_any, slice_get}
use Rattle.std.specs.Ordering.{eq_by_cmp}
use Rattle.std.specs.BTreeMap.{BTreeMap, get}
use Rattle.std.proofs.lemmas.Bool.{and_parts, or_left, or_right}
use Rattle.channel_globs.specs.declared.nslc.Nslc.{Nslc}
use Rattle.channel_globs.specs.Names.{name_cmp}
use Rattle.mseed_header.specs.declared.row.Row.{Row}
use Rattle.dataselect.specs.declared.order.Rank.{Rank}
use Rattle.dataselect.specs.Order.{rank_at}
use Rattle.time_index.specs.declared.channels.Channel.{Channel}
use Rattle.time_index.specs.declared.spot.Spot.{Spot}
use Rattle.time_index.specs.Index.{IsChannelIndex, IsOfName, AreOfName, is_there, stands}
use Rattle.time_index.specs.Spots.{spot_cmp, spot_at, is_same, has}
use Rattle.time_index.specs.Windows.{rank_if, ranks_at}
use Rattle.time_index.proofs.Named.{same_name}
use Rattle.time_index.proofs.Sets.{itself}

named_there : (name : Nslc) (spot : Spot) (o : Option Row) → is_there name spot o ≡ true → IsOfName name o
named_there name spot None h = absurd (true≢false (sym h))
named_there name spot (Some row) h = same_name row.header.name name (and_parts (is_same row.header.name name) (eq_by_cmp spot_cmp spot (spot_at spot.place row)) h).0

each : (rows : List Row) (name : Nslc) (spots : List Spot) → ((spot : Spot) → list_any (eq_by_cmp spot_cmp spot) spots ≡ true → stands rows name spot ≡ true) → AreOfName rows name spots
each rows name [] h = tt
each rows name (s ∷ spots) h = (
  named_there name s (slice_get rows s.place) (h s (or_left (eq_by_cmp spot_cmp s s) (list_any (eq_by_cmp spot_cmp s) spots) (itself s s refl))),
  each rows name spots (λ q held. h q (or_right (eq_by_cmp spot_cmp q s) (list_any (eq_by_cmp spot_cmp q) spots) held)),
)

pub of_channel : (rows : List Row) (m : BTreeMap Nslc Channel) (name : Nslc) (channel : Channel) → IsChannelIndex rows m → get name_cmp m name ≡ Some channel → AreOfName rows name channel.spots.keys
of_channel rows m name channel index at = each rows name channel.spots.keys (λ spot held. sym (index.spots name spot) ∙ ap (λ o. has o spot) at ∙ held)

-- and so have those of some of the spots
pub of_some : (rows : List Row) (name : Nslc) (test : Spot → Bool) (spots : List Spot) → AreOfName rows name spots → AreOfName rows name (filter test spots)
of_some rows name test [] all = tt
of_some rows name test (s ∷ spots) all =
    elim (test s) as (λ b. AreOfName rows name (cond b (s ∷ filter test spots) (filter test spots))) [
      | true ↦ (all.0, of_some rows name test spots all.1)
      | false ↦ of_some rows name test spots all.1
    ]

rank_before : (test : Row → Bool) (p : ℕ) (o : Option Row) (more : List Rank) → rank_if test p o [] ++ more ≡ rank_if test p o more
rank_before test p None more = refl
rank_before test p (Some row) more = elim (test row) as (λ b. cond b (rank_at p row ∷ []) [] ++ more ≡ cond b (rank_at p row ∷ more) more) [ true ↦ refl | false ↦ refl ]

-- the rank at one place more
pub rank_more : (test : Row → Bool) (rows : List Row) (done next : List Rank) (p : ℕ) (places : List ℕ) → next ≡ done ++ rank_if test p (slice_get rows p) []
    → next ++ ranks_at test rows places ≡ done ++ ranks_at test rows (p ∷ places)
rank_more test rows done next p places grown =
    ap (λ (rs : List Rank). rs ++ ranks_at test rows places) grown ∙ append_assoc done (rank_if test p (slice_get rows p) []) (ranks_at test rows places)
    ∙ ap (λ (rs : List Rank). done ++ rs) (rank_before test p (slice_get rows p) (ranks_at test rows places))

-- the ranks of places one after another
ranks_joined : (test : Row → Bool) (rows : List Row) (ps qs : List ℕ) → ranks_at test rows (ps ++ qs) ≡ ranks_at test rows ps ++ ranks_at test rows qs
ranks_joined test rows [] qs = refl
ranks_joined test rows (p ∷ ps) qs =
    elim (slice_get rows p) as (λ o. rank_if test p o (ranks_at test rows (ps ++ qs)) ≡ rank_if test p o (ranks_at test rows ps) ++ ranks_at test rows qs) [
      | None ↦ ranks_joined test rows ps qs
      | Some row ↦ elim (test row) as (λ b. cond b (rank_at p row ∷ ranks_at test rows (ps ++ qs)) (ranks_at test rows (ps ++ qs)) ≡ cond b (rank_at p row ∷ ranks_at test rows ps) (ranks_at test rows ps) ++ ranks_at test rows qs) [
        | true ↦ ap (λ (rs : List Rank). rank_at p row ∷ rs) (ranks_joined test rows ps qs)
        | false ↦ ranks_joined test rows ps qs
      ]
    ]

-- the ranks of one channel more
pub channel_more : (test : Row → Bool) (rows : List Row) (done next : List Rank) (ps qs : List ℕ) → next ≡ done ++ ranks_at test rows ps
    → next ++ ranks_at test rows qs ≡ done ++ ranks_at test rows (ps ++ qs)
channel_more test rows done next ps qs grown =
    ap (λ (rs : List Rank). rs ++ ranks_at test rows qs) grown ∙ append_assoc done (ranks_at test rows ps) (ranks_at test rows qs)
    ∙ ap (λ (rs : List Rank). done ++ rs) (sym (ranks_joined test rows ps qs))

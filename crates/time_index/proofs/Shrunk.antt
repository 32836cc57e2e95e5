-- The index of rows without the last.
use Rattle.std.proofs.Common.{◌≡◌, ℕ, zero, suc, ◌≤◌, Bool, true, false, ◌||◌, ◌&&◌, cond, List, [], ◌∷◌, ◌++◌, length, take, refl, sym, ap, ◌∙◌, arith, length-append}
use Rattle.std.specs.Ordering.{eq_by_cmp}
use Rattle.std.specs.BTreeMap.{BTreeMap}
use Rattle.std.proofs.lemmas.Option.{slice_get_past, slice_get_within}
use Rattle.list_laws.proofs.Places.{get_before}
use Rattle.channel_globs.specs.declared.nslc.Nslc.{Nslc}
use Rattle.mseed_header.specs.declared.row.Row.{Row}
use Rattle.dataselect.specs.Rows.{has_image, with_row}
use Rattle.time_index.specs.declared.spot.Spot.{Spot}
use Rattle.time_index.specs.declared.channels.Channel.{Channel}
use Rattle.time_index.specs.Spots.{spot_cmp, spot_at, is_same, has_spot, longest_of}
use Rattle.time_index.specs.Index.{is_there, stands, IsChannelIndex}
use Rattle.time_index.proofs.Grown.{stands_more}
use Rattle.time_index.proofs.Sets.{same_spot}

without : (a b : Bool) → (a ≡ true → b ≡ false) → cond a false (a || b) ≡ b
without true b h = sym (h refl)
without false b h = refl

pub index_shrunk : (rows : List Row) (m n : BTreeMap Nslc Channel) (row : Row) → IsChannelIndex (rows ++ row ∷ []) m
    → ((name : Nslc) (spot : Spot) → has_spot n name spot ≡ cond (is_same row.header.name name && eq_by_cmp spot_cmp spot (spot_at (length rows) row)) false (has_spot m name spot))
    → ((name : Nslc) → longest_of n name ≡ longest_of m name)
    → IsChannelIndex rows n
index_shrunk rows m n row index spots longest = record {
  spots = λ name spot.
      let new = is_same row.header.name name && eq_by_cmp spot_cmp spot (spot_at (length rows) row) in
      spots name spot
      ∙ ap (cond new false) (index.spots name spot ∙ stands_more rows row name spot)
      ∙ without new (stands rows name spot) (λ h. ap (is_there name spot) (slice_get_past rows spot.place (here name spot h)));
  longest = λ place r at.
      rw (longest r.header.name) (index.longest place r (get_before rows row place (slice_get_within rows place r at) ∙ at));
}
  where
    second : (a b : Bool) → (a && b) ≡ true → b ≡ true
    second true b h = h
    second false b h = let e : false ≡ true = h in (cc)

    here : (name : Nslc) (spot : Spot) → (is_same row.header.name name && eq_by_cmp spot_cmp spot (spot_at (length rows) row)) ≡ true → length rows ≤ spot.place
    here name spot h =
        let same : spot ≡ spot_at (length rows) row = same_spot spot (spot_at (length rows) row) (second (is_same row.header.name name) _ h) in
        omega (arith, ap (λ (s : Spot). s.place) same)

-- a first part of a list with one more at its end
pub take_less : {X : Type 0} (n : ℕ) (xs : List X) (x : X) → n ≤ length xs → take n (xs ++ x ∷ []) ≡ take n xs
take_less zero xs x h = refl
take_less (suc n) [] x h = absurd (omega arith)
take_less (suc n) (y ∷ xs) x h = ap (λ (ys : List _). y ∷ ys) (take_less n xs x (omega arith))

-- a shelf with one row more begins with the rows before
pub begins_with : (first rows : List Row) (row : Row) → take (length first) rows ≡ first → length first ≤ length rows → take (length first) (with_row rows row) ≡ first
begins_with first rows row h le =
    elim (has_image row.image rows) as (λ b. take (length first) (cond b rows (rows ++ row ∷ [])) ≡ first) [
      | true ↦ h
      | false ↦ take_less (length first) rows row le ∙ h
    ]

pub no_shorter : (rows : List Row) (row : Row) → length rows ≤ length (with_row rows row)
no_shorter rows row =
    elim (has_image row.image rows) as (λ b. length rows ≤ length (cond b rows (rows ++ row ∷ []))) [
      | true ↦ omega arith
      | false ↦ omega (arith, length-append rows (row ∷ []))
    ]

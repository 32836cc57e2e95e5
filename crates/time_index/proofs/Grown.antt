-- One row more: its spot is the one more that the channels have.
use Rattle.std.proofs.Common.{◌≡◌, ℕ, zero, suc, ◌<◌, ◌≤◌, Bool, true, false, ◌||◌, ◌&&◌, cond, List, [], ◌∷◌, ◌++◌, length, refl, sym, ap, ◌∙◌, arith, Some, None, max, ◌⊎◌, inl, inr, subst}
use Rattle.std.specs.List.{slice_get}
use Rattle.std.specs.Ordering.{is_eq, eq_by_cmp}
use Rattle.std.specs.BTreeMap.{BTreeMap}
use Rattle.std.proofs.lemmas.Bool.{cases_lt}
use Rattle.std.proofs.lemmas.Cmp.{tied_itself}
use Rattle.std.proofs.lemmas.Option.{slice_get_past}
use Rattle.list_laws.proofs.Places.{get_before, get_last}
use Rattle.channel_globs.specs.declared.nslc.Nslc.{Nslc}
use Rattle.mseed_header.specs.declared.row.Row.{Row}
use Rattle.channel_globs.proofs.Names.{names_total}
use Rattle.time_index.specs.declared.spot.Spot.{Spot}
use Rattle.time_index.specs.declared.channels.Channel.{Channel}
use Rattle.time_index.specs.Spots.{spot_cmp, spot_at, micros_lasted, is_same, has_spot, longest_of}
use Rattle.time_index.specs.Index.{is_there, stands, LastsAtMost, IsChannelIndex}
use Rattle.time_index.proofs.Lasts.{lasts_at_most, lasts_longer}
use Rattle.time_index.proofs.Sets.{same_spot}

get_after : (rows : List Row) (row : Row) (place : ℕ) → length rows < place → slice_get (rows ++ row ∷ []) place ≡ None
get_after [] row zero h = absurd (omega arith)
get_after [] row (suc place) h = refl
get_after (r ∷ rows) row zero h = absurd (omega arith)
get_after (r ∷ rows) row (suc place) h = get_after rows row place (omega arith)

-- the place is that of an earlier row, of the new one, or of none
by_place : (n place : ℕ) → (place < n) ⊎ ((place ≡ n) ⊎ (n < place))
by_place n place = elim (cases_lt place n) [
  | inl h ↦ inl h
  | inr h ↦ elim (cases_lt n place) [ inl k ↦ inr (inr k) | inr k ↦ inr (inl (omega arith)) ]
]

-- a spot at another place is another spot
elsewhere : (spot other : Spot) → (spot.place ≡ other.place → ⊥) → eq_by_cmp spot_cmp spot other ≡ false
elsewhere spot other apart =
    elim (eq_by_cmp spot_cmp spot other) as (λ b. eq_by_cmp spot_cmp spot other ≡ b → b ≡ false) [
      | true ↦ λ e. absurd (apart (ap (λ (s : Spot). s.place) (same_spot spot other e)))
      | false ↦ λ _. refl
    ] refl

not_both : (a b rest : Bool) → b ≡ false → ((a && b) || rest) ≡ rest
not_both true b rest h = ap (λ x. x || rest) h
not_both false b rest h = refl

or_none : (a rest : Bool) → rest ≡ false → (a || rest) ≡ a
or_none true rest h = refl
or_none false rest h = h

-- a row of the longer list stands where the new spot is, or where it stood
pub stands_more : (rows : List Row) (row : Row) (name : Nslc) (spot : Spot)
    → stands (rows ++ row ∷ []) name spot ≡ ((is_same row.header.name name && eq_by_cmp spot_cmp spot (spot_at (length rows) row)) || stands rows name spot)
stands_more rows row name spot =
    let same = is_same row.header.name name in
    let new = eq_by_cmp spot_cmp spot (spot_at (length rows) row) in
    let elsewhere_is : (spot.place ≡ length rows → ⊥) → ((same && new) || stands rows name spot) ≡ stands rows name spot =
    λ apart. not_both same new (stands rows name spot) (elsewhere spot (spot_at (length rows) row) apart) in
    elim (by_place (length rows) spot.place) [
      | inl h ↦ ap (is_there name spot) (get_before rows row spot.place h) ∙ sym (elsewhere_is (λ e. omega (arith, e, h)))
      | inr u ↦ elim u [
        | inl e ↦
            ap (is_there name spot) (ap (slice_get (rows ++ row ∷ [])) e ∙ get_last rows row)
            ∙ ap (λ (n : ℕ). same && eq_by_cmp spot_cmp spot (spot_at n row)) e
            ∙ sym (or_none (same && new) (stands rows name spot) (ap (is_there name spot) (slice_get_past rows spot.place (omega (arith, e)))))
        | inr h ↦
            ap (is_there name spot) (get_after rows row spot.place h)
            ∙ sym (elsewhere_is (λ e. omega (arith, e, h)) ∙ ap (is_there name spot) (slice_get_past rows spot.place (omega (arith, h))))
      ]
    ]

grows : (b : Bool) (a x : ℕ) → a ≤ cond b (max a x) a
grows true a x = omega arith
grows false a x = omega arith

covers : (a x : ℕ) (b : Bool) → b ≡ true → x ≤ cond b (max a x) a
covers a x b e = rw e (omega arith)

pub index_added : (rows : List Row) (m n : BTreeMap Nslc Channel) (row : Row) → IsChannelIndex rows m
    → ((name : Nslc) (spot : Spot) → has_spot n name spot ≡ ((is_same row.header.name name && eq_by_cmp spot_cmp spot (spot_at (length rows) row)) || has_spot m name spot))
    → ((name : Nslc) → longest_of n name ≡ cond (is_same row.header.name name) (max (longest_of m name) (micros_lasted row.header)) (longest_of m name))
    → IsChannelIndex (rows ++ row ∷ []) n
index_added rows m n row index spots longest = record {
  spots = λ name spot.
      spots name spot
      ∙ ap (λ b. (is_same row.header.name name && eq_by_cmp spot_cmp spot (spot_at (length rows) row)) || b) (index.spots name spot)
      ∙ sym (stands_more rows row name spot);
  longest = λ place r h. elim (by_place (length rows) place) [
    | inl k ↦
        lasts_longer r.header (longest_of m r.header.name) (longest_of n r.header.name) (index.longest place r (sym (get_before rows row place k) ∙ h))
        (rw (longest r.header.name) (grows (is_same row.header.name r.header.name) (longest_of m r.header.name) (micros_lasted row.header)))
    | inr u ↦ elim u [
      | inl e ↦
          let there : Some row ≡ Some r = sym (get_last rows row) ∙ ap (slice_get (rows ++ row ∷ [])) (sym e) ∙ h in
          let same : row ≡ r = (cc) in
          subst (λ (s : Row). LastsAtMost s.header (longest_of n s.header.name)) same
          (lasts_longer row.header (micros_lasted row.header) (longest_of n row.header.name) (lasts_at_most row.header)
          (rw (longest row.header.name) (covers (longest_of m row.header.name) (micros_lasted row.header) (is_same row.header.name row.header.name) (ap is_eq (tied_itself names_total row.header.name)))))
      | inr k ↦ let there : None ≡ Some r = sym (get_after rows row place k) ∙ h in absurd (cc)
    ]
  ];
}

pub index_same : (rows : List Row) (m n : BTreeMap Nslc Channel) → IsChannelIndex rows m → ((name : Nslc) (spot : Spot) → has_spot n name spot ≡ has_spot m name spot) → ((name : Nslc) → longest_of n name ≡ longest_of m name)
    → IsChannelIndex rows n
index_same rows m n index spots longest = record {
  spots = λ name spot. spots name spot ∙ index.spots name spot;
  longest = λ place r h. rw (longest r.header.name) (index.longest place r h);
}

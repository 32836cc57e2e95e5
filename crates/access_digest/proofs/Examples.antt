-- Worked examples of the definitions: 100 samples of IU ANMO 00 BHZ at 20 Hz from 2024-02-01T00:00:00.
use Rattle.std.proofs.Common.{◌≡◌, ◌+ℤ◌, ℤ, true, false, ℕ, List, [], ◌∷◌, ◌++◌, Option, Some, None, Err, refl, codes, pos}
use Rattle.epochs.specs.declared.kinds.LineKind.TheVariants.{Rst, Grt, Wdr}
use Rattle.epochs.specs.Fields.{Value, words, time, end, patterns, entry_number}
use Rattle.epochs.specs.Lines.{LineValues}
use Rattle.epochs.specs.Values.{says}
use Rattle.mseed_header.specs.declared.row.Row.{Row}
use Rattle.mseed_header.proofs.Examples.{anmo_row}
use Rattle.access_digest.specs.Access.{touches, covers, withdraws, may_have, is_seen, is_unrestricted, is_whole}
use Rattle.access_digest.specs.Who.{authorized, is_fresh}
use Rattle.access_digest.specs.declared.denial.Denial.TheVariants.{Absent}

-- 2024-02-01T00:00:00, in microseconds since 1970
abbrev midnight : ℤ
midnight = pos 1_706_745_600_000_000

-- the patterns of the row's channel from a start to an end
abbrev channel_times : ℤ → Option ℤ → List Value
channel_times start stop =
    patterns (codes "IU") (codes "IU" ∷ [])
    ∷ patterns (codes "ANMO") (codes "ANMO" ∷ [])
    ∷ patterns (codes "0?") (codes "0?" ∷ [])
    ∷ patterns (codes "BH*") (codes "BH*" ∷ [])
    ∷ time start
    ∷ end stop
    ∷ []

abbrev restriction : ℤ → Option ℤ → LineValues
restriction start stop = says Rst (channel_times start stop)

abbrev grant : ℤ → Option ℤ → LineValues
grant start stop = says Grt (words (codes "ada") ∷ channel_times start stop)

-- a restriction that ends at the row's first sample touches it, and one that starts at its last
touches_first : touches (restriction (pos 0) (Some midnight)) anmo_row ≡ true
touches_first = refl

touches_last : touches (restriction (midnight +ℤ pos 4_950_000) None) anmo_row ≡ true
touches_last = refl

misses_last : touches (restriction (midnight +ℤ pos 4_950_001) None) anmo_row ≡ false
misses_last = refl

-- a grant has to reach to the last sample
covers_all : covers (codes "ada") (grant midnight (Some (midnight +ℤ pos 4_950_000))) anmo_row ≡ true
covers_all = refl

ends_early : covers (codes "ada") (grant midnight (Some (midnight +ℤ pos 4_949_999))) anmo_row ≡ false
ends_early = refl

-- a user has what the user's own grant covers
abbrev both : List LineValues
both = restriction (pos 0) None ∷ grant (pos 0) None ∷ []

ada_may : may_have both (Some (codes "ada")) anmo_row ≡ true
ada_may = refl

bob_may_not : may_have both (Some (codes "bob")) anmo_row ≡ false
bob_may_not = refl

nobody_may_not : may_have both None anmo_row ≡ false
nobody_may_not = refl

not_whole : is_unrestricted both anmo_row.header.name ≡ false
not_whole = refl

abbrev withdrawal : ℤ → Option ℤ → ℕ → LineValues
withdrawal start stop upto = says Wdr (channel_times start stop ++ entry_number upto ∷ [])

-- the row, as the third entry brought it
abbrev third_row : Row
third_row = record anmo_row { entry = 3 }

-- a withdrawal covers the row from its first sample to its last, where it reaches to its entry
withdraws_all : withdraws (withdrawal midnight (Some (midnight +ℤ pos 4_950_000)) 3) third_row ≡ true
withdraws_all = refl

begins_late : withdraws (withdrawal (midnight +ℤ pos 1) None 3) third_row ≡ false
begins_late = refl

stops_early : withdraws (withdrawal midnight (Some (midnight +ℤ pos 4_949_999)) 3) third_row ≡ false
stops_early = refl

without_end : withdraws (withdrawal midnight None 1_000) third_row ≡ true
without_end = refl

earlier_entries : withdraws (withdrawal midnight None 2) third_row ≡ false
earlier_entries = refl

-- what is withdrawn not even the user sees whose grant covers it
ada_sees : is_seen both (Some (codes "ada")) third_row ≡ true
ada_sees = refl

ada_sees_no_more : is_seen (withdrawal midnight None 3 ∷ both) (Some (codes "ada")) third_row ≡ false
ada_sees_no_more = refl

not_whole_withdrawn : is_whole (withdrawal midnight None 2 ∷ []) third_row.header.name ≡ false
not_whole_withdrawn = refl

-- a nonce may be used from its issue second to 300 seconds later
at_once : is_fresh (Some 1000) (Some 1000) ≡ true
at_once = refl

at_the_end : is_fresh (Some 1000) (Some 1300) ≡ true
at_the_end = refl

too_late : is_fresh (Some 1000) (Some 1301) ≡ false
too_late = refl

too_early : is_fresh (Some 1000) (Some 999) ≡ false
too_early = refl

-- of credentials without a header and of those for another target, nothing is read
without_header : authorized None (codes "/") ≡ Err Absent
without_header = refl

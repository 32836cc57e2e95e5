-- The marks of live withdrawals: what a line gives to its mark, and that each withdrawal of one channel has one.
use Rattle.std.proofs.Common.{◌≡◌, ℕ, zero, suc, ◌+◌, ◌<◌, ◌≤◌, Bool, true, false, not, cond, ◌&&◌, ◌||◌, ◌==◌, ◌++◌, List, [], ◌∷◌, length, map, filter, take, drop, get_or, Option, Some, None, refl, sym, ap, subst, ◌∙◌, arith, if◌then◌else◌, inl, inr}
use Rattle.std.specs.Prelude.{Contains, All}
use Rattle.std.specs.List.{list_any, slice_get}
use Rattle.std.specs.List.Sorted.{IsPermutation, IsStrictlySortedBy}
use Rattle.std.proofs.lemmas.Bool.{and_parts, cases_lt, true≢false}
use Rattle.std.proofs.lemmas.Bool.Decides.{nat_tests}
use Rattle.std.proofs.lemmas.List.{length-take-le, length-drop, get_or-take, get_or-drop, nil_from_length}
use Rattle.std.proofs.lemmas.List.Sorted.{Contains-permutation}
use Rattle.std.proofs.lemmas.Option.{same_Some, slice_get-get_or}
use Rattle.channel_globs.specs.Names.{name_cmp}
use Rattle.channel_globs.specs.declared.nslc.Nslc.{Nslc}
use Rattle.channel_globs.specs.declared.nslc.Part.TheVariants.{Network, Station, Channel}
use Rattle.epochs.specs.declared.kinds.LineKind.TheVariants.{Wdr}
use Rattle.epochs.specs.declared.line.Line.TheVariants as line
use Rattle.epochs.specs.declared.line.Withdrawal.{Withdrawal}
use Rattle.epochs.specs.Kinds.{Text}
use Rattle.epochs.specs.Lines.{LineValues, end_of}
use Rattle.epochs.specs.Values.{withdrawal_line}
use Rattle.epochs.specs.Views.{values_of_line}
use Rattle.epochs.proofs.SpellableWord.{spellable_has}
use Rattle.epoch_catalog.specs.Globs.{AreRead}
use Rattle.epoch_catalog.specs.Wide.{is_one_code, is_one_location, is_wide, places_from, StandAt}
use Rattle.epoch_catalog.specs.Withdrawals.{location_in, is_marked, name_in, micros_of, ends_by, marks_at, IsMarked, IsHeadOf, HasMark, IsGroup, IsGrouped, IsWithdrawalIndex}
use Rattle.epoch_catalog.specs.declared.withdrawals.Head.{Head}
use Rattle.epoch_catalog.specs.declared.withdrawals.Mark.{Mark}
use Rattle.epoch_catalog.specs.declared.withdrawals.NameMark.{NameMark}
use Rattle.epoch_rules.specs.Rules.{is_line_of, epoch_start}
use Rattle.epoch_catalog.proofs.OneCodes.{one_code_fits, one_location_fits}

some_more : (n : ℕ) → not (suc n == 0) ≡ true
some_more n = grind (arith, nat_tests)

-- some element passes a test where those that pass aren't none
pub some_kept : {X : Type 0} (p : X → Bool) (xs : List X) → not (length (filter p xs) == 0) ≡ list_any p xs
some_kept p [] = refl
some_kept p (x ∷ xs) = elim (p x) as (λ b. not (length (cond b (x ∷ filter p xs) (filter p xs)) == 0) ≡ (b || list_any p xs)) [ true ↦ some_more (length (filter p xs)) | false ↦ some_kept p xs ]

-- without places nothing passes
no_places : {X : Type 0} (p test : X → Bool) (n : ℕ) (xs : List X) → length (places_from test n xs) ≡ 0 → filter (λ x. p x && test x) xs ≡ []
no_places p test n [] h = refl
no_places p test n (x ∷ xs) h =
    elim (test x) as (λ b. length ((if b then n ∷ [] else []) ++ places_from test (n + 1) xs) ≡ 0 → cond (p x && b) (x ∷ filter (λ y. p y && test y) xs) (filter (λ y. p y && test y) xs) ≡ []) [
      | true ↦ λ k. absurd (omega (arith, k))
      | false ↦ λ k. elim (p x) as (λ a. cond (a && false) (x ∷ filter (λ y. p y && test y) xs) (filter (λ y. p y && test y) xs) ≡ []) [ true ↦ no_places p test (n + 1) xs k | false ↦ no_places p test (n + 1) xs k ]
    ] h

pub none_wide : (p : LineValues → Bool) (live : List LineValues) (places : List ℕ) → places ≡ places_from is_wide 0 live → length places ≡ 0 → StandAt live places (filter (λ e. p e && is_wide e) live)
none_wide p live places are none =
    ap (map (slice_get live)) (nil_from_length places none) ∙ ap (map Some) (sym (no_places p is_wide 0 live (sym (ap length are) ∙ none)))

-- the texts of a withdrawal that is written as one channel are codes
module _ (w : Withdrawal) (marked : is_marked (values_of_line (line.Wdr w)) ≡ true) where
  read : AreRead w.channels
  read =
      let values = (spellable_has (withdrawal_line w.channels w.times w.upto) w.spellable).values_are in
      record { network_is = values.0; station_is = values.1.0; location_is = values.1.1.0; channel_is = values.1.1.1.0 }

  pub named_by : (r : Option Nslc)
      → (1 ≤ length w.channels.network.text → length w.channels.network.text ≤ 8 → 1 ≤ length w.channels.station.text → length w.channels.station.text ≤ 8
      → 1 ≤ length (location_in w.channels.location.text) → length (location_in w.channels.location.text) ≤ 8 → 1 ≤ length w.channels.channel.text → length w.channels.channel.text ≤ 8
      → r ≡ Some (name_in (values_of_line (line.Wdr w))))
      → r ≡ Some (name_in (values_of_line (line.Wdr w)))
  named_by r is =
      let n = w.channels.network.text in
      let s = w.channels.station.text in
      let l = w.channels.location.text in
      let c = w.channels.channel.text in
      let three = and_parts ((is_one_code n && is_one_code s) && is_one_location l) (is_one_code c) marked in
      let two = and_parts (is_one_code n && is_one_code s) (is_one_location l) three.0 in
      let one = and_parts (is_one_code n) (is_one_code s) two.0 in
      let network = one_code_fits Network n w.channels.network.list refl read.network_is one.0 in
      let station = one_code_fits Station s w.channels.station.list refl read.station_is one.1 in
      let location = one_location_fits l w.channels.location.list read.location_is two.1 in
      let channel = one_code_fits Channel c w.channels.channel.list refl read.channel_is three.1 in
      is network.0 network.1 station.0 station.1 location.0 location.1 channel.0 channel.1

-- what was noted of the lines before a place, and of the one there
pub noted_more : (live : List LineValues) (hs more : List Head) (first place : ℕ) (here : LineValues) → slice_get live place ≡ Some here
    → ((k : ℕ) (e : LineValues) → first ≤ k → k < place → slice_get live k ≡ Some e → is_marked e ≡ true → (h : Head) × Contains hs h × IsHeadOf e k h)
    → ((h : Head) → Contains hs h → Contains more h) → (is_marked here ≡ true → (h : Head) × Contains more h × IsHeadOf here place h)
    → (k : ℕ) (e : LineValues) → first ≤ k → k < place + 1 → slice_get live k ≡ Some e → is_marked e ≡ true → (h : Head) × Contains more h × IsHeadOf e k h
noted_more live hs more first place here at noted kept new k e low lt there marked =
    elim (cases_lt k place) as (λ _. (h : Head) × Contains more h × IsHeadOf e k h) [
      | inl before ↦ (let old = noted k e low before there marked in (old.0, kept old.0 old.1, old.2))
      | inr behind ↦
          (let one : place ≡ k = omega (arith, lt, behind) in
          let same : here ≡ e = same_Some here e (sym at ∙ ap (slice_get live) one ∙ there) in
          let head = new (ap is_marked same ∙ marked) in
          (head.0, head.1, subst (λ (p : LineValues × ℕ). IsHeadOf p.0 p.1 head.0) (λ i. (same i, one i)) head.2))
    ]

-- an element that passes a test is among those that pass
kept_there : {X : Type 0} (p : X → Bool) (xs : List X) (x : X) (k : ℕ) → k < length xs → get_or xs k x ≡ x → p x ≡ true → Contains (filter p xs) x
kept_there p [] x k lt is pass = absurd (omega (arith, lt))
kept_there p (y ∷ xs) x zero lt is pass =
    elim (p y) as (λ b. p y ≡ b → Contains (cond b (y ∷ filter p xs) (filter p xs)) x) [
      | true ↦ λ h. (zero, omega arith, is)
      | false ↦ λ h. absurd (true≢false (sym pass ∙ ap p (sym is) ∙ h))
    ] refl
kept_there p (y ∷ xs) x (suc k) lt is pass =
    let rest = kept_there p xs x k (omega (arith, lt)) is pass in
    elim (p y) as (λ b. Contains (cond b (y ∷ filter p xs) (filter p xs)) x) [
      | true ↦ (suc rest.0, (let near = rest.1 in omega (arith, near)), rest.2)
      | false ↦ rest
    ]

-- where an element of a part of a list stands in it
part_place : {X : Type 0} (xs : List X) (first count : ℕ) (x : X) → first + count ≤ length xs → Contains (take count (drop first xs)) x
    → (k : ℕ) × (first ≤ k) × (k < first + count) × (slice_get xs k ≡ Some x)
part_place {X} xs first count x fits there =
    let i = there.0 in
    let rest = length-drop first xs in
    let size = length-take-le count (drop first xs) (omega (arith, fits, rest)) in
    let low = there.1 in
    let near : i < count = omega (arith, low, size) in
    let at : get_or xs (first + i) x ≡ x = sym (get_or-take count (drop first xs) i x near ∙ get_or-drop first xs i x) ∙ there.2 in
    (first + i, omega arith, omega (arith, near), slice_get-get_or xs (first + i) x (omega (arith, near, fits)) ∙ ap (λ (y : X). Some y) at)

-- the mark of what a line gave is the line's
line_marked : (live : List LineValues) (ms : List Mark) (e : LineValues) (k : ℕ) (h : Head) → slice_get live k ≡ Some e → IsHeadOf e k h → HasMark ms h → IsMarked live ms e
line_marked live ms e k h there is has = record {
  mark = has.mark;
  among = has.among;
  there = ap (slice_get live) (has.placed ∙ is.placed) ∙ there;
  starts = ap (λ t. t.micros) has.starts ∙ is.starts;
  reaches = ap (λ a. ends_by a (micros_of has.mark.reach)) (sym is.ends) ∙ has.reaches;
}

-- each live withdrawal of one channel has a mark under its name
pub index_held : (live : List LineValues) (first count : ℕ) (heads sorted : List Head) (names : List NameMark) (ms : List Mark) → first + count ≤ length live
    → take count (drop first live) ≡ filter (is_line_of Wdr) live
    → ((k : ℕ) (e : LineValues) → first ≤ k → k < first + count → slice_get live k ≡ Some e → is_marked e ≡ true → (h : Head) × Contains heads h × IsHeadOf e k h)
    → IsPermutation heads sorted → IsStrictlySortedBy (λ (a b : NameMark). name_cmp a.name b.name) names → All (IsGroup ms) names
    → ((h : Head) → Contains sorted h → IsGrouped names ms h) → IsWithdrawalIndex names ms live
index_held live first count heads sorted names ms fits part noted moved rises groups held = record {
  rises = rises;
  groups = groups;
  held = λ e there marked.
      (let withdrawal : is_line_of Wdr e ≡ true = (and_parts (is_line_of Wdr e) _ marked).0 in
      let among = subst (λ (es : List LineValues). Contains es e) (sym part) (kept_there (is_line_of Wdr) live e there.0 there.1 there.2 withdrawal) in
      let place = part_place live first count e fits among in
      let head = noted place.0 e place.1 place.2 place.3 marked in
      let group = held head.0 (Contains-permutation heads sorted head.0 moved head.1) in
      (group.name, group.among, group.same ∙ head.2.named, line_marked live (marks_at group.name ms) e place.0 head.0 place.3 head.2 group.has));
}

pub no_index : IsWithdrawalIndex [] [] []
unfolding IsStrictlySortedBy
no_index = record {
  rises = tt;
  groups = λ k d lt. absurd (omega (arith, lt));
  held = λ e there marked. absurd (let lt = there.1 in omega (arith, lt));
}

-- The tests of who may have a row decide it.
use Rattle.std.proofs.Common.{◌≡◌, ◌↔◌, ◌≤◌, ℤ, pos, ◌≤ℤ◌, ◌*ℤ◌, Bool, true, false, not, cond, ◌&&◌, ◌||◌, List, map, Option, Some, None, refl, sym, ◌∙◌, inl, inr, ◌⊎◌, arith, option_map}
use Rattle.std.specs.Prelude.{IfSome, Any, IsTrue, nat_le, int_le, int_lt}
use Rattle.std.specs.List.{list_any}
use Rattle.std.specs.Str.{bytes_eq}
use Rattle.std.specs.Ordering.{int_cmp, is_ge, is_le}
use Rattle.std.specs.declared.cmp.Ordering.TheVariants.{Less, Equal, Greater}
use Rattle.std.proofs.lemmas.Bool.{and_parts, and_from, leb-true, le-leb}
use Rattle.std.proofs.lemmas.Int.{ints}
use Rattle.std.proofs.lemmas.List.Folds.{Any-from_list_any, list_any-from_Any}
use Rattle.std.proofs.lemmas.Slice.Eq.{bytes_eq-Decides}
use Rattle.exact_time.specs.SampleTime.{sample_micros, sample_parts}
use Rattle.mseed_header.specs.Times.{last_index}
use Rattle.channel_globs.specs.Matching.{is_match_any}
use Rattle.channel_globs.proofs.Decides.{any_decides}
use Rattle.channel_globs.specs.declared.nslc.Nslc.{Nslc}
use Rattle.exact_time.specs.declared.moment.Moment.{Moment}
use Rattle.epochs.specs.declared.line.Grant.{Grant}
use Rattle.epochs.specs.declared.line.Line.{Line}
use Rattle.epochs.specs.declared.line.Line.TheVariants.{Net, Sta, Cha, Evt, Rst, Grt, Usr, Wdr, Del}
use Rattle.epochs.specs.declared.line.Restriction.{Restriction}
use Rattle.epochs.specs.declared.line.Withdrawal.{Withdrawal}
use Rattle.epochs.specs.declared.parts.Globs.{Globs}
use Rattle.epochs.specs.Kinds.{Text}
use Rattle.epochs.specs.Views.{values_of_line}
use Rattle.epoch_catalog.proofs.Heads.{any_mapped}
use Rattle.mseed_header.specs.declared.row.Row.{Row}
use Rattle.dataselect.specs.Query.{holds, reaches, starts_by}
use Rattle.dataselect.specs.Law.{IsReached}
use Rattle.access_digest.specs.Access.{is_over_by, touches, covers, is_touched, is_covered, may_have, withdraws, is_withdrawn}
use Rattle.access_digest.specs.AccessLaw.{MatchFour, IsOverBy, Touches, Covers, IsTouching, IsCovering, IsTouched, IsCovered, MayHave, Withdraws, IsWithdrawing, IsWithdrawnBy}

-- an end that holds, of a line's values
holds_decides : (test : ℤ → Bool) (P : ℤ → Type 0) → ((x : ℤ) → IsTrue (test x) ↔ P x) → (o : Option Moment) → IsTrue (holds test (option_map (λ t. t.micros) o)) ↔ IfSome o (λ t. P t.micros)
holds_decides test P each None = (λ h. tt, λ h. refl)
holds_decides test P each (Some x) = each x.micros

any_as : {X : Type 0} (test : X → Bool) (P : X → Type 0) → ((x : X) → IsTrue (test x) ↔ P x) → (xs : List X) → IsTrue (list_any test xs) ↔ Any P xs
any_as test P each xs = (
  λ h. let found = Any-from_list_any test xs h in (found.0, found.1, found.2, found.3, (each found.1).0 found.4),
  λ h. list_any-from_Any test xs (h.0, h.1, h.2, h.3, (each h.1).1 h.4),
)

ge_of : (below above : Bool) → is_ge (cond below Less (cond above Greater Equal)) ≡ not below
ge_of true above = refl
ge_of false true = refl
ge_of false false = refl

not_below : (a b : ℤ) → IsTrue (not (int_lt a b)) ↔ (b ≤ℤ a)
not_below a b = (λ h. grind (arith, ints), λ h. grind (arith, ints))

ge_decides : (a b : ℤ) → IsTrue (is_ge (int_cmp a b)) ↔ (b ≤ℤ a)
ge_decides a b = (λ h. (not_below a b).0 (sym (ge_of (int_lt a b) (int_lt b a)) ∙ h), λ h. ge_of (int_lt a b) (int_lt b a) ∙ (not_below a b).1 h)

-- the first isn't above the second; not both tests hold
le_of : (below above : Bool) → (below && above) ≡ false → is_le (cond below Less (cond above Greater Equal)) ≡ not above
le_of true true h = (cc)
le_of true false h = refl
le_of false true h = refl
le_of false false h = refl

not_both : (a b : ℤ) → (int_lt a b && int_lt b a) ≡ false
not_both a b = grind (arith, ints)

pub over_decides : (a b : ℤ) → IsTrue (is_le (int_cmp a b)) ↔ (a ≤ℤ b)
over_decides a b =
    let same = le_of (int_lt a b) (int_lt b a) (not_both a b) in
    (λ h. (not_below b a).0 (sym same ∙ h), λ h. same ∙ (not_below b a).1 h)

le_decides : (a b : ℤ) → IsTrue (int_le a b) ↔ (a ≤ℤ b)
le_decides a b = (λ h. grind (arith, ints), λ h. grind (arith, ints))

four_decide : (channels : Globs) (name : Nslc)
    → IsTrue (is_match_any channels.network.list name.network && is_match_any channels.station.list name.station && is_match_any channels.location.list name.location && is_match_any channels.channel.list name.channel)
    ↔ MatchFour channels name
four_decide channels name =
    let n = is_match_any channels.network.list name.network in
    let t = is_match_any channels.station.list name.station in
    let l = is_match_any channels.location.list name.location in
    let c = is_match_any channels.channel.list name.channel in (
      λ h.
          let p = and_parts ((n && t) && l) c h in
          let q = and_parts (n && t) l p.0 in
          let r = and_parts n t q.0 in
          record {
            by_network = (any_decides channels.network.list name.network).0 r.0;
            by_station = (any_decides channels.station.list name.station).0 r.1;
            by_location = (any_decides channels.location.list name.location).0 q.1;
            by_channel = (any_decides channels.channel.list name.channel).0 p.1;
          },
      λ h. and_from ((n && t) && l) c
          (and_from (n && t) l (and_from n t ((any_decides channels.network.list name.network).1 h.by_network) ((any_decides channels.station.list name.station).1 h.by_station)) ((any_decides channels.location.list name.location).1 h.by_location))
          ((any_decides channels.channel.list name.channel).1 h.by_channel),
    )

restriction_decides : (r : Restriction) (row : Row) → IsTrue (touches (values_of_line (Rst r)) row) ↔ Touches r row
restriction_decides r row =
    let h = row.header in
    let n = is_match_any r.channels.network.list h.name.network && is_match_any r.channels.station.list h.name.station && is_match_any r.channels.location.list h.name.location && is_match_any r.channels.channel.list h.name.channel in
    let s = reaches h r.times.start.micros in
    let e = holds (λ stop. starts_by h stop) (option_map (λ t. t.micros) r.times.end) in
    let four = four_decide r.channels h.name in
    let reach : IsTrue s ↔ IsReached h r.times.start.micros = ge_decides (sample_micros h.start.micros (last_index h) h.rate) (r.times.start.micros *ℤ pos (sample_parts h.rate)) in
    let start = holds_decides (λ stop. starts_by h stop) (λ stop. h.start.micros ≤ℤ stop) (λ stop. le_decides h.start.micros stop) r.times.end in (
      λ k.
          let p = and_parts n (s && e) k in
          let q = and_parts s e p.1 in
          record { named = four.0 p.0; reached = reach.0 q.0; started = start.0 q.1 },
      λ k. and_from n (s && e) (four.1 k.named) (and_from s e (reach.1 k.reached) (start.1 k.started)),
    )

grant_decides : (user : Text) (g : Grant) (row : Row) → IsTrue (covers user (values_of_line (Grt g)) row) ↔ ((g.user ≡ user) × Covers g row)
grant_decides user g row =
    let h = row.header in
    let u = bytes_eq user g.user in
    let n = is_match_any g.channels.network.list h.name.network && is_match_any g.channels.station.list h.name.station && is_match_any g.channels.location.list h.name.location && is_match_any g.channels.channel.list h.name.channel in
    let s = int_le g.times.start.micros h.start.micros in
    let e = holds (λ stop. is_over_by h stop) (option_map (λ t. t.micros) g.times.end) in
    let four = four_decide g.channels h.name in
    let start = le_decides g.times.start.micros h.start.micros in
    let over = holds_decides (λ stop. is_over_by h stop) (λ stop. IsOverBy h stop) (λ stop. over_decides (sample_micros h.start.micros (last_index h) h.rate) (stop *ℤ pos (sample_parts h.rate))) g.times.end in
    let same = bytes_eq-Decides user g.user in (
      λ k.
          let p = and_parts (u && n) (s && e) k in
          let q = and_parts s e p.1 in
          let r = and_parts u n p.0 in
          (sym (same.0 r.0), record { named = four.0 r.1; started = start.0 q.0; over = over.0 q.1 }),
      λ k. and_from (u && n) (s && e) (and_from u n (same.1 (sym k.0)) (four.1 k.1.named)) (and_from s e (start.1 k.1.started) (over.1 k.1.over)),
    )

withdrawal_decides : (w : Withdrawal) (row : Row) → IsTrue (withdraws (values_of_line (Wdr w)) row) ↔ Withdraws w row
withdrawal_decides w row =
    let h = row.header in
    let n = is_match_any w.channels.network.list h.name.network && is_match_any w.channels.station.list h.name.station && is_match_any w.channels.location.list h.name.location && is_match_any w.channels.channel.list h.name.channel in
    let s = int_le w.times.start.micros h.start.micros in
    let e = holds (λ stop. is_over_by h stop) (option_map (λ t. t.micros) w.times.end) in
    let u = nat_le row.entry w.upto in
    let four = four_decide w.channels h.name in
    let start = le_decides w.times.start.micros h.start.micros in
    let over = holds_decides (λ stop. is_over_by h stop) (λ stop. IsOverBy h stop) (λ stop. over_decides (sample_micros h.start.micros (last_index h) h.rate) (stop *ℤ pos (sample_parts h.rate))) w.times.end in
    let early : IsTrue u ↔ (row.entry ≤ w.upto) = (leb-true row.entry w.upto, le-leb row.entry w.upto) in (
      λ k.
          let p = and_parts (n && (s && e)) u k in
          let q = and_parts n (s && e) p.0 in
          let r = and_parts s e q.1 in
          record { named = four.0 q.0; started = start.0 r.0; over = over.0 r.1; early = early.0 p.1 },
      λ k. and_from (n && (s && e)) u (and_from n (s && e) (four.1 k.named) (and_from s e (start.1 k.started) (over.1 k.over))) (early.1 k.early),
    )

no_truth : IsTrue false ↔ ⊥
no_truth = (λ h. (cc), λ h. absurd h)

touching_decides : (row : Row) (l : Line) → IsTrue (touches (values_of_line l) row) ↔ IsTouching row l
touching_decides row (Net n) = no_truth
touching_decides row (Sta n) = no_truth
touching_decides row (Cha n) = no_truth
touching_decides row (Evt n) = no_truth
touching_decides row (Rst r) = restriction_decides r row
touching_decides row (Grt n) = no_truth
touching_decides row (Usr n) = no_truth
touching_decides row (Wdr n) = no_truth
touching_decides row (Del n) = no_truth

covering_decides : (user : Text) (row : Row) (l : Line) → IsTrue (covers user (values_of_line l) row) ↔ IsCovering user row l
covering_decides user row (Net n) = no_truth
covering_decides user row (Sta n) = no_truth
covering_decides user row (Cha n) = no_truth
covering_decides user row (Evt n) = no_truth
covering_decides user row (Rst n) = no_truth
covering_decides user row (Grt g) = grant_decides user g row
covering_decides user row (Usr n) = no_truth
covering_decides user row (Wdr n) = no_truth
covering_decides user row (Del n) = no_truth

pub touched_decides : (lines : List Line) (row : Row) → IsTrue (is_touched (map values_of_line lines) row) ↔ IsTouched lines row
touched_decides lines row =
    let each = any_as (λ l. touches (values_of_line l) row) (IsTouching row) (touching_decides row) lines in
    let same = any_mapped values_of_line (λ e. touches e row) lines in
    (λ h. each.0 (sym same ∙ h), λ h. same ∙ each.1 h)

covered_decides : (lines : List Line) (user : Option Text) (row : Row) → IsTrue (is_covered (map values_of_line lines) user row) ↔ IsCovered lines user row
covered_decides lines None row = no_truth
covered_decides lines (Some user) row =
    let each = any_as (λ l. covers user (values_of_line l) row) (IsCovering user row) (covering_decides user row) lines in
    let same = any_mapped values_of_line (λ e. covers user e row) lines in
    (λ h. each.0 (sym same ∙ h), λ h. same ∙ each.1 h)

either_decides : (t c : Bool) {T C : Type 0} → IsTrue t ↔ T → IsTrue c ↔ C → IsTrue (not t || c) ↔ ((¬ T) ⊎ C)
either_decides true c t k = (λ h. inr (k.0 h), λ h. elim h [ inl never ↦ absurd (never (t.0 refl)) | inr holding ↦ k.1 holding ])
either_decides false c t k = (λ h. inl (λ h. no_truth.0 (t.1 h)), λ h. refl)

pub may_decides : (lines : List Line) (user : Option Text) (row : Row) → IsTrue (may_have (map values_of_line lines) user row) ↔ MayHave lines user row
may_decides lines user row =
    either_decides (is_touched (map values_of_line lines) row) (is_covered (map values_of_line lines) user row) {T = IsTouched lines row} {C = IsCovered lines user row} (touched_decides lines row) (covered_decides lines user row)

withdrawing_decides : (row : Row) (l : Line) → IsTrue (withdraws (values_of_line l) row) ↔ IsWithdrawing row l
withdrawing_decides row (Net n) = no_truth
withdrawing_decides row (Sta n) = no_truth
withdrawing_decides row (Cha n) = no_truth
withdrawing_decides row (Evt n) = no_truth
withdrawing_decides row (Rst n) = no_truth
withdrawing_decides row (Grt n) = no_truth
withdrawing_decides row (Usr n) = no_truth
withdrawing_decides row (Wdr w) = withdrawal_decides w row
withdrawing_decides row (Del n) = no_truth

pub withdrawn_decides : (lines : List Line) (row : Row) → IsTrue (is_withdrawn (map values_of_line lines) row) ↔ IsWithdrawnBy lines row
withdrawn_decides lines row =
    let each = any_as (λ l. withdraws (values_of_line l) row) (IsWithdrawing row) (withdrawing_decides row) lines in
    let same = any_mapped values_of_line (λ e. withdraws e row) lines in
    (λ h. each.0 (sym same ∙ h), λ h. same ∙ each.1 h)

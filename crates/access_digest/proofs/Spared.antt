-- What no withdrawal covers, each withdrawal spares.
use Rattle.std.proofs.Common.{◌≡◌, ◌↔◌, ℤ, pos, ◌<ℤ◌, ◌≤ℤ◌, ◌<◌, ◌*ℤ◌, Bool, true, false, ◌&&◌, ◌||◌, List, [], ◌∷◌, map, Option, Some, None, refl, sym, ap, ◌∙◌, inl, inr, ◌⊎◌, arith, option_map}
use Rattle.std.specs.Prelude.{All, IsSomeAnd, IsTrue, int_le, nat_le}
use Rattle.std.specs.List.{list_any}
use Rattle.std.specs.Ordering.{int_cmp, is_le}
use Rattle.std.proofs.lemmas.Bool.{true≢false, leb-false, lt-leb}
use Rattle.std.proofs.lemmas.Int.{ints}
use Rattle.std.proofs.lemmas.List.Elements.{All-nil, All-cons, All-head, All-tail}
use Rattle.exact_time.specs.SampleTime.{sample_micros, sample_parts}
use Rattle.exact_time.specs.declared.moment.Moment.{Moment}
use Rattle.mseed_header.specs.Times.{last_index}
use Rattle.mseed_header.specs.declared.header.Header.{Header}
use Rattle.mseed_header.specs.declared.row.Row.{Row}
use Rattle.channel_globs.specs.Matching.{is_match_any}
use Rattle.channel_globs.proofs.Decides.{any_decides}
use Rattle.channel_globs.specs.declared.nslc.Nslc.{Nslc}
use Rattle.epochs.specs.declared.line.Line.{Line}
use Rattle.epochs.specs.declared.line.Line.TheVariants.{Net, Sta, Cha, Evt, Rst, Grt, Usr, Wdr, Del}
use Rattle.epochs.specs.declared.line.Withdrawal.{Withdrawal}
use Rattle.epochs.specs.declared.parts.Glob.{Glob}
use Rattle.epochs.specs.declared.parts.Globs.{Globs}
use Rattle.epochs.specs.Kinds.{Text}
use Rattle.epochs.specs.Views.{values_of_line}
use Rattle.epoch_catalog.proofs.Heads.{any_mapped}
use Rattle.dataselect.specs.Query.{holds}
use Rattle.access_digest.specs.Access.{is_over_by, withdraws, is_withdrawn}
use Rattle.access_digest.specs.AccessLaw.{NoneMatches, MissesCode, EndsAfter, Spares, IsSparing, IsSparedBy}
use Rattle.access_digest.proofs.Decided.{over_decides}

-- a test fails exactly where what it decides doesn't hold
fails : (b : Bool) {P : Type 0} → IsTrue b ↔ P → (b ≡ false) ↔ (¬ P)
fails true is = (λ h. absurd (true≢false h), λ never. absurd (never (is.0 refl)))
fails false is = (λ h p. true≢false (sym (is.1 p)), λ never. refl)

-- two tests don't both hold exactly where one of them fails
one_fails : (a b : Bool) {A B : Type 0} → (a ≡ false) ↔ A → (b ≡ false) ↔ B → ((a && b) ≡ false) ↔ (A ⊎ B)
one_fails true b first second = (λ h. inr (second.0 h), λ h. elim h [ inl x ↦ absurd (true≢false (first.1 x)) | inr y ↦ second.1 y ])
one_fails false b first second = (λ h. inl (first.0 refl), λ h. refl)

and_joined : (a b c : Bool) → ((a && b) && c) ≡ (a && (b && c))
and_joined true b c = refl
and_joined false b c = refl

along : {a b : Bool} {P : Type 0} → a ≡ b → (b ≡ false) ↔ P → (a ≡ false) ↔ P
along same is = (λ h. is.0 (sym same ∙ h), λ p. same ∙ is.1 p)

code_fails : (patterns : Glob) (code : Text) → (is_match_any patterns.list code ≡ false) ↔ NoneMatches patterns code
code_fails patterns code = fails (is_match_any patterns.list code) (any_decides patterns.list code)

codes_fail : (channels : Globs) (name : Nslc)
    → ((is_match_any channels.network.list name.network && is_match_any channels.station.list name.station && is_match_any channels.location.list name.location && is_match_any channels.channel.list name.channel) ≡ false)
    ↔ MissesCode channels name
codes_fail channels name =
    let n = is_match_any channels.network.list name.network in
    let t = is_match_any channels.station.list name.station in
    let l = is_match_any channels.location.list name.location in
    let c = is_match_any channels.channel.list name.channel in
    along (and_joined (n && t) l c ∙ and_joined n t (l && c))
    (one_fails n (t && (l && c)) (code_fails channels.network name.network)
    (one_fails t (l && c) (code_fails channels.station name.station)
    (one_fails l c (code_fails channels.location name.location) (code_fails channels.channel name.channel))))

starts_later : (a b : ℤ) → (int_le a b ≡ false) ↔ (b <ℤ a)
starts_later a b = (λ h. grind (arith, ints), λ h. grind (arith, ints))

ends_later : (h : Header) (end : Option Moment) → (holds (λ stop. is_over_by h stop) (option_map (λ t. t.micros) end) ≡ false) ↔ IsSomeAnd end (λ t. EndsAfter h t.micros)
ends_later h None = (λ e. true≢false e, λ e. absurd e)
ends_later h (Some t) =
    let last = sample_micros h.start.micros (last_index h) h.rate in
    let limit = t.micros *ℤ pos (sample_parts h.rate) in
    let none = fails (is_le (int_cmp last limit)) (over_decides last limit) in
    (λ e. above last limit (none.0 e), λ e. none.1 (not_over last limit e))
  where
    above : (a b : ℤ) → (¬ (a ≤ℤ b)) → b <ℤ a
    above a b h = grind (arith, ints)

    not_over : (a b : ℤ) → b <ℤ a → ¬ (a ≤ℤ b)
    not_over a b h k = grind (arith, ints)

withdrawal_spares : (w : Withdrawal) (row : Row) → (withdraws (values_of_line (Wdr w)) row ≡ false) ↔ Spares w row
withdrawal_spares w row =
    let h = row.header in
    let n = is_match_any w.channels.network.list h.name.network && is_match_any w.channels.station.list h.name.station && is_match_any w.channels.location.list h.name.location && is_match_any w.channels.channel.list h.name.channel in
    let s = int_le w.times.start.micros h.start.micros in
    let e = holds (λ stop. is_over_by h stop) (option_map (λ t. t.micros) w.times.end) in
    let u = nat_le row.entry w.upto in
    let late : (u ≡ false) ↔ (w.upto < row.entry) = (leb-false row.entry w.upto, lt-leb row.entry w.upto) in
    along (and_joined n (s && e) u ∙ ap (λ b. n && b) (and_joined s e u))
    (one_fails n (s && (e && u)) (codes_fail w.channels h.name)
    (one_fails s (e && u) (starts_later w.times.start.micros h.start.micros)
    (one_fails e u (ends_later h w.times.end) late)))

passed_over : (false ≡ false) ↔ (Unit {0})
passed_over = (λ h. tt, λ h. refl)

sparing_decides : (row : Row) (l : Line) → (withdraws (values_of_line l) row ≡ false) ↔ IsSparing row l
sparing_decides row (Net n) = passed_over
sparing_decides row (Sta n) = passed_over
sparing_decides row (Cha n) = passed_over
sparing_decides row (Evt n) = passed_over
sparing_decides row (Rst n) = passed_over
sparing_decides row (Grt n) = passed_over
sparing_decides row (Usr n) = passed_over
sparing_decides row (Wdr w) = withdrawal_spares w row
sparing_decides row (Del n) = passed_over

neither : (a b : Bool) → (a || b) ≡ false → (a ≡ false) × (b ≡ false)
neither true b h = absurd (true≢false h)
neither false b h = (refl, h)

none_passes : {X : Type 0} (test : X → Bool) (P : X → Type 0) → ((x : X) → (test x ≡ false) ↔ P x) → (xs : List X) → (list_any test xs ≡ false) ↔ All P xs
none_passes test P each [] = (λ h. All-nil P, λ h. refl)
none_passes test P each (x ∷ xs) =
    let rest = none_passes test P each xs in (
      λ h. let both = neither (test x) (list_any test xs) h in All-cons P x xs ((each x).0 both.0) (rest.0 both.1),
      λ h. λ i. (each x).1 (All-head P x xs h) i || rest.1 (All-tail P x xs h) i,
    )

pub spared_decides : (lines : List Line) (row : Row) → (is_withdrawn (map values_of_line lines) row ≡ false) ↔ IsSparedBy lines row
spared_decides lines row = along (any_mapped values_of_line (λ e. withdraws e row) lines) (none_passes (λ l. withdraws (values_of_line l) row) (IsSparing row) (sparing_decides row) lines)

-- Records that meet a window, by whole moments.
use Rattle.std.proofs.Common.{◌≡◌, ◌-◌, ◌+ℤ◌, ◌≤ℤ◌, ◌==◌, ℤ, pos, Bool, true, false, cond, ◌&&◌, ◌||◌, List, [], ◌∷◌, map, refl, sym, ap, ap₂, ◌∙◌, arith, eq-eqb}
use Rattle.std.specs.Prelude.{int_le}
use Rattle.std.specs.List.{list_any}
use Rattle.std.proofs.lemmas.Int.{ints, by_lt_z}
use Rattle.exact_time.specs.SampleTime.{floor_at}
use Rattle.exact_time.proofs.Wholes.{floor_decides}
use Rattle.mseed_header.specs.Quality.{quality_letter}
use Rattle.mseed_header.specs.Times.{last_index}
use Rattle.mseed_header.specs.declared.header.Header.{Header}
use Rattle.dataselect.specs.declared.query.Selection.{Selection}
use Rattle.dataselect.specs.declared.query.DataQuery.{DataQuery}
use Rattle.dataselect.specs.Query.{holds, is_named, reaches, starts_by, is_selected, is_asked}
use Rattle.split_fetch.specs.Windows.{Make, selection_in, in_window}
use Rattle.split_fetch.specs.declared.window.Window.{Window}

-- the last sample, rounded down to a microsecond
abbrev pub last_moment : Header → ℤ
last_moment h = floor_at h.start.micros (last_index h) h.rate

abbrev pub touches : ℤ → ℤ → Window → Bool
touches start last w = int_le w.start.micros last && int_le start w.end.micros

abbrev pub window_meets : Window → Header → Bool
window_meets w h = reaches h w.start.micros && starts_by h w.end.micros

still : (h : Header) → h.rate.num ≡ 0 → last_index h ≡ 0
still h e = ap (λ (b : Bool). cond b 0 (h.samples - 1)) (eq-eqb h.rate.num 0 e)

pub meets_is : (w : Window) (h : Header) → window_meets w h ≡ touches h.start.micros (last_moment h) w
meets_is w h = ap (λ (b : Bool). b && int_le h.start.micros w.end.micros)
    (sym (floor_decides h.start.micros (last_index h) h.rate w.start.micros (still h)))

pub not_before : (h : Header) → h.start.micros ≤ℤ last_moment h
not_before h = omega (arith, ints)

-- whatever its window
abbrev pub is_named_by : DataQuery → Header → Bool
is_named_by q h = holds (λ k. quality_letter k == quality_letter h.quality) q.quality && list_any (λ s. is_named s h.name) q.selections

spread : (a b m : Bool) → ((a && m) || (b && m)) ≡ ((a || b) && m)
spread true b true = refl
spread true true false = refl
spread true false false = refl
spread false b m = refl

any_selected : (w : Window) (h : Header) (ss : List Selection) → list_any (λ s. is_selected s h) (map (selection_in w) ss)
    ≡ (list_any (λ s. is_named s h.name) ss && window_meets w h)
unfolding is_selected
any_selected w h [] = refl
any_selected w h (s ∷ ss) =
    ap (λ (b : Bool). (is_named s h.name && window_meets w h) || b) (any_selected w h ss)
    ∙ spread (is_named s h.name) (list_any (λ t. is_named t h.name) ss) (window_meets w h)

regrouped : (a b c : Bool) → (a && (b && c)) ≡ ((a && b) && c)
regrouped true b c = refl
regrouped false b c = refl

pub asked_is : (w : Window) (q : DataQuery) (h : Header) → is_asked (in_window w q) h ≡ (is_named_by q h && window_meets w h)
unfolding is_asked
asked_is w q h =
    let quality = holds (λ k. quality_letter k == quality_letter h.quality) q.quality in
    ap (λ (b : Bool). quality && b) (any_selected w h q.selections)
    ∙ regrouped quality (list_any (λ s. is_named s h.name) q.selections) (window_meets w h)

or_none : (b : Bool) → (b || false) ≡ b
or_none true = refl
or_none false = refl

two_parts : (s l from e to : ℤ) → s ≤ℤ l → from ≤ℤ e → e ≤ℤ to → ((int_le from l && int_le s e) || (int_le (e +ℤ pos 1) l && int_le s to))
    ≡ (int_le from l && int_le s to)
two_parts s l from e to long some within =
    by_lt_z e s
    (λ late.
    let a : int_le s e ≡ false = grind (arith, ints, late) in
    let b : int_le (e +ℤ pos 1) l ≡ true = grind (arith, ints, late, long) in
    let c : int_le from l ≡ true = grind (arith, ints, late, long, some) in
    (λ i. (c i && a i) || (b i && int_le s to)) ∙ sym (ap (λ (k : Bool). k && int_le s to) c))
    (λ early.
    let a : int_le s e ≡ true = grind (arith, ints, early) in
    let d : int_le s to ≡ true = grind (arith, ints, early, within) in
    by_lt_z l from
    (λ short.
    let b : int_le (e +ℤ pos 1) l ≡ false = grind (arith, ints, short, some) in
    let c : int_le from l ≡ false = grind (arith, ints, short) in
    (λ i. (c i && int_le s e) || (b i && int_le s to)) ∙ sym (ap (λ (k : Bool). k && int_le s to) c))
    (λ enough.
    let c : int_le from l ≡ true = grind (arith, ints, enough) in
    (λ i. (c i && a i) || (int_le (e +ℤ pos 1) l && int_le s to)) ∙ sym (ap₂ (λ (k m : Bool). k && m) c d)))

pub bound : (from to : ℤ) (w : Window) (ws : List Window) → Make from to (w ∷ ws) → from ≤ℤ to
bound from to w [] make = let a = make.1 in let b = make.2 in omega (arith, ints, a, b)
bound from to w (v ∷ ws) make = let a = make.1 in let b = bound (w.end.micros +ℤ pos 1) to v ws make.2 in omega (arith, ints, a, b)

-- some of the windows is met exactly where the whole is
pub some_met : (s l from to : ℤ) (w : Window) (ws : List Window) → s ≤ℤ l → Make from to (w ∷ ws) → list_any (touches s l) (w ∷ ws)
    ≡ (int_le from l && int_le s to)
some_met s l from to w [] long make =
    let at_end : w.end.micros ≡ to = (let b = make.2 in omega (arith, ints, b)) in
    or_none (touches s l w) ∙ ap₂ (λ (a b : ℤ). int_le a l && int_le s b) make.0 at_end
some_met s l from to w (v ∷ ws) long make =
    let within : w.end.micros ≤ℤ to = (let b = bound (w.end.micros +ℤ pos 1) to v ws make.2 in omega (arith, ints, b)) in
    ap₂ (λ (a : ℤ) (b : Bool). (int_le a l && int_le s w.end.micros) || b) make.0 (some_met s l (w.end.micros +ℤ pos 1) to v ws long make.2)
    ∙ two_parts s l from w.end.micros to long make.1 within

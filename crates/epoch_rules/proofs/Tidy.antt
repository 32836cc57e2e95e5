-- What every line keeps, beside the values of its fields.
use Rattle.std.proofs.Common.{◌≡◌, true, ℤ, pos, negsuc, neg_ℤ, ◌^◌, ◌-◌, ◌≤ℤ◌, int_le, List, [], ◌∷◌, map, Option, Some, None, option_map, refl, arith}
use Rattle.std.specs.Borrow.{Bor}
use Rattle.std.specs.List.{AllByRecursion}
use Rattle.std.proofs.lemmas.Int.{ints}
use Rattle.exact_time.specs.declared.moment.Moment.{Moment}
use Rattle.epochs.specs.declared.line.Line.{Line}
use Rattle.epochs.specs.declared.line.Line.TheVariants as line
use Rattle.epochs.specs.declared.kinds.LineKind.TheVariants.{Net, Sta, Cha, Grt, Usr}
use Rattle.epochs.specs.Lines.{LineValues, IsAfter, end_of}
use Rattle.epochs.specs.Views.{values_of_line}
use Rattle.epochs.proofs.SpellableWord.{spellable_has}
use Rattle.epoch_rules.specs.declared.key_order.KeyView.{KeyView}
use Rattle.epochs.specs.declared.key.Key.{Key}
use Rattle.epochs.specs.declared.key.Key.TheVariants as key
use Rattle.epochs.specs.Keys.{values_of_key}
use Rattle.epoch_rules.specs.KeyOrder.{KeyParts, key_parts, key_parts_of, rank_of}
use Rattle.epoch_rules.specs.Rules.{is_line_of, is_epoch, epoch_start, is_before_end}

-- a line's key starts with its epoch, the epoch ends after that, and the texts that its kind lacks are empty
pub record Tidy (x : LineValues) : Type 0 where
  pub starts : is_epoch x ≡ true → epoch_start x ≡ (key_parts_of x).start
  pub forward : is_epoch x ≡ true → is_before_end (epoch_start x) (end_of x.values) ≡ true
  pub network : is_line_of Net x ≡ true → ((key_parts_of x).second ≡ []) × ((key_parts_of x).third ≡ []) × ((key_parts_of x).fourth ≡ []) × ((key_parts_of x).fifth ≡ [])
  pub station : is_line_of Sta x ≡ true → ((key_parts_of x).third ≡ []) × ((key_parts_of x).fourth ≡ []) × ((key_parts_of x).fifth ≡ [])
  pub channel : is_line_of Cha x ≡ true → (key_parts_of x).fifth ≡ []
  pub late : is_line_of Grt x ≡ true → int_le (negsuc (2 ^ 63 - 1)) (key_parts_of x).start ≡ true
  pub user : (key_parts_of x).rank ≡ rank_of Usr → ((key_parts_of x).second ≡ []) × ((key_parts_of x).third ≡ []) × ((key_parts_of x).fourth ≡ []) × ((key_parts_of x).fifth ≡ []) × ((key_parts_of x).start ≡ pos 0)

before : (start : ℤ) (stop : Option Moment) → IsAfter (Some start) (option_map (λ (m : Moment). m.micros) stop) → is_before_end start (option_map (λ (m : Moment). m.micros) stop) ≡ true
before start None h = refl
before start (Some stop) h = grind (arith, ints)

since : (micros : ℤ) → neg_ℤ (pos 2_208_988_800_000_000) ≤ℤ micros → int_le (negsuc (2 ^ 63 - 1)) micros ≡ true
since micros h = grind (arith, ints)

abbrev IsName : KeyParts → Type 0
IsName p = (p.second ≡ []) × (p.third ≡ []) × (p.fourth ≡ []) × (p.fifth ≡ []) × (p.start ≡ pos 0)

deleted_user : (k : Key) → (key_parts (values_of_key k)).rank ≡ rank_of Usr → IsName (key_parts (values_of_key k))
deleted_user (key.Net network start) h = absurd (omega (arith, h))
deleted_user (key.Sta network station start) h = absurd (omega (arith, h))
deleted_user (key.Cha name start) h = absurd (omega (arith, h))
deleted_user (key.Evt id) h = absurd (omega (arith, h))
deleted_user (key.Rst channels start) h = absurd (omega (arith, h))
deleted_user (key.Grt user channels start) h = absurd (omega (arith, h))
deleted_user (key.Usr name) h = (refl, refl, refl, refl, refl)
deleted_user (key.Wdr channels start) h = absurd (omega (arith, h))

pub tidy : (l : Line) → Tidy (values_of_line l)
tidy (line.Net n) =
    let after = (spellable_has _ n.spellable).in_order in
    record { starts = λ _. refl; forward = λ _. before n.times.start.micros n.times.end after; network = λ _. (refl, refl, refl, refl); station = λ h. cc; channel = λ h. cc; late = λ h. cc; user = λ h. absurd (omega (arith, h)) }
tidy (line.Sta s) =
    let after = (spellable_has _ s.spellable).in_order in
    record { starts = λ _. refl; forward = λ _. before s.times.start.micros s.times.end after; network = λ h. cc; station = λ _. (refl, refl, refl); channel = λ h. cc; late = λ h. cc; user = λ h. absurd (omega (arith, h)) }
tidy (line.Cha c) =
    let after = (spellable_has _ c.spellable).in_order in
    record { starts = λ _. refl; forward = λ _. before c.times.start.micros c.times.end after; network = λ h. cc; station = λ h. cc; channel = λ _. refl; late = λ h. cc; user = λ h. absurd (omega (arith, h)) }
tidy (line.Evt e) = record { starts = λ h. cc; forward = λ h. cc; network = λ h. cc; station = λ h. cc; channel = λ h. cc; late = λ h. cc; user = λ h. absurd (omega (arith, h)) }
tidy (line.Rst r) = record { starts = λ h. cc; forward = λ h. cc; network = λ h. cc; station = λ h. cc; channel = λ h. cc; late = λ h. cc; user = λ h. absurd (omega (arith, h)) }
tidy (line.Grt g) =
    let start = (spellable_has _ g.spellable).values_are.1.1.1.1.1.0 in
    record { starts = λ h. cc; forward = λ h. cc; network = λ h. cc; station = λ h. cc; channel = λ h. cc; late = λ _. since g.times.start.micros start.from; user = λ h. absurd (omega (arith, h)) }
tidy (line.Usr u) = record { starts = λ h. cc; forward = λ h. cc; network = λ h. cc; station = λ h. cc; channel = λ h. cc; late = λ h. cc; user = λ _. (refl, refl, refl, refl, refl) }
tidy (line.Wdr w) = record { starts = λ h. cc; forward = λ h. cc; network = λ h. cc; station = λ h. cc; channel = λ h. cc; late = λ h. cc; user = λ h. absurd (omega (arith, h)) }
tidy (line.Del d) = record { starts = λ h. cc; forward = λ h. cc; network = λ h. cc; station = λ h. cc; channel = λ h. cc; late = λ h. cc; user = deleted_user d.key }

-- the lines of a map are tidy
pub all_tidy : (es : List (KeyView × Bor Line)) → AllByRecursion Tidy (map (λ e. values_of_line e.1.now) es)
all_tidy [] = tt
all_tidy (e ∷ es) = (tidy e.1.now, all_tidy es)

-- and so are those of a list
pub all_tidy_lines : (lines : List Line) → AllByRecursion Tidy (map values_of_line lines)
all_tidy_lines [] = tt
all_tidy_lines (l ∷ lines) = (tidy l, all_tidy_lines lines)

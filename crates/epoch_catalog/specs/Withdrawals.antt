-- The withdrawals that are written as one channel, and their marks: by channel, ascending by start.
use Rattle.std.specs.Prelude.{◌≡◌, ℕ, ◌+◌, ◌≤◌, ℤ, int_le, Bool, true, false, ◌&&◌, List, [], ◌∷◌, length, take, drop, Option, Some, None, option_map, Contains, All, if◌then◌else◌, ⊤}
use Rattle.std.specs.List.{AllByRecursion, slice_get}
use Rattle.std.specs.List.Sorted.{IsStrictlySortedBy}
use Rattle.std.specs.Ordering.{int_cmp, ordering_then}
use Rattle.std.specs.declared.cmp.Ordering.{Ordering}
use Rattle.channel_globs.specs.Names.{name_cmp}
use Rattle.channel_globs.specs.PatternText.{space, is_blank_word}
use Rattle.channel_globs.specs.declared.nslc.Nslc.{Nslc}
use Rattle.epochs.specs.declared.kinds.LineKind.TheVariants.{Wdr}
use Rattle.epochs.specs.Kinds.{Text}
use Rattle.epochs.specs.Lines.{LineValues, end_of}
use Rattle.exact_time.specs.declared.moment.Moment.{Moment}
use Rattle.epoch_catalog.specs.Wide.{is_one_name}
use Rattle.epoch_catalog.specs.declared.withdrawals.Head.{Head}
use Rattle.epoch_catalog.specs.declared.withdrawals.Mark.{Mark}
use Rattle.epoch_catalog.specs.declared.withdrawals.NameMark.{NameMark}
use Rattle.epoch_rules.specs.KeyOrder.{key_parts_of}
use Rattle.epoch_rules.specs.Rules.{is_line_of, epoch_start}

-- the location that a text names: no text and two hyphens name the blank one
abbrev pub location_in : Text → Text
location_in text = if is_blank_word text then space ∷ space ∷ [] else text

-- a withdrawal each text of which is written as one code
abbrev pub is_marked : LineValues → Bool
is_marked e =
    is_line_of Wdr e
    && is_one_name (key_parts_of e).first (key_parts_of e).second (key_parts_of e).third (key_parts_of e).fourth

-- the channel that such a withdrawal is written as
abbrev pub name_in : LineValues → Nslc
name_in e = record {
  network = (key_parts_of e).first;
  station = (key_parts_of e).second;
  location = location_in (key_parts_of e).third;
  channel = (key_parts_of e).fourth;
}

-- an end in microseconds, where there is one
abbrev pub micros_of : Option Moment → Option ℤ
micros_of stop = option_map (λ t. t.micros) stop

-- an end is no later than another; an absent end is later than all
abbrev pub ends_by : Option ℤ → Option ℤ → Bool
ends_by stop None = true
ends_by None (Some t) = false
ends_by (Some s) (Some t) = int_le s t

-- marks ascend by their starts, and by how far they reach
abbrev pub AreRising : List Mark → Type 0
AreRising [] = ⊤
AreRising (m ∷ ms) =
    AllByRecursion (λ n. (int_le m.start.micros n.start.micros ≡ true) × (ends_by (micros_of m.reach) (micros_of n.reach) ≡ true)) ms
    × AreRising ms

-- a mark of a live line is among some: it has the line's place and start, and reaches its end
pub record IsMarked (live : List LineValues) (ms : List Mark) (e : LineValues) : Type 0 where
  pub mark : Mark
  pub among : Contains ms mark
  pub there : slice_get live mark.place ≡ Some e
  pub starts : mark.start.micros ≡ epoch_start e
  pub reaches : ends_by (end_of e.values) (micros_of mark.reach) ≡ true

-- what a line gives to its mark
pub record IsHeadOf (e : LineValues) (place : ℕ) (h : Head) : Type 0 where
  pub named : h.name ≡ name_in e
  pub starts : h.start.micros ≡ epoch_start e
  pub ends : micros_of h.end ≡ end_of e.values
  pub placed : h.place ≡ place

-- by name, and then by start
abbrev pub head_cmp : Head → Head → Ordering
head_cmp a b = ordering_then (name_cmp a.name b.name) (int_cmp a.start.micros b.start.micros)

-- the later of two ends
abbrev pub later : Option Moment → Option Moment → Option Moment
later (Some s) (Some t) = Some (if int_le s.micros t.micros then t else s)
later None t = None
later (Some s) None = None

-- the marks of withdrawals of one channel, of which those before reach up to a moment
abbrev pub marks_from : Option Moment → List Head → List Mark
marks_from reach [] = []
marks_from reach (h ∷ hs) =
    record { start = h.start; reach = later reach h.end; place = h.place } ∷ marks_from (later reach h.end) hs

-- a mark of a head is among some
pub record HasMark (ms : List Mark) (h : Head) : Type 0 where
  pub mark : Mark
  pub among : Contains ms mark
  pub placed : mark.place ≡ h.place
  pub starts : mark.start ≡ h.start
  pub reaches : ends_by (micros_of h.end) (micros_of mark.reach) ≡ true

-- the marks of a name
abbrev pub marks_at : NameMark → List Mark → List Mark
marks_at n ms = take n.count (drop n.first ms)

-- the marks of a name stand within, and rise
pub record IsGroup (ms : List Mark) (n : NameMark) : Type 0 where
  pub within : n.first + n.count ≤ length ms
  pub rises : AreRising (marks_at n ms)

-- a mark of a head is among those of its name
pub record IsGrouped (names : List NameMark) (ms : List Mark) (h : Head) : Type 0 where
  pub name : NameMark
  pub among : Contains names name
  pub same : name.name ≡ h.name
  pub has : HasMark (marks_at name ms) h

-- the names ascend, the marks of each rise, and of each live withdrawal that is written as one channel one is under its name
pub record IsWithdrawalIndex (names : List NameMark) (ms : List Mark) (live : List LineValues) : Type 0 where
  pub rises : IsStrictlySortedBy (λ a b. name_cmp a.name b.name) names
  pub groups : All (IsGroup ms) names
  pub held : (e : LineValues) → Contains live e → is_marked e ≡ true
      → (n : NameMark) × Contains names n × (n.name ≡ name_in e) × IsMarked live (marks_at n ms) e

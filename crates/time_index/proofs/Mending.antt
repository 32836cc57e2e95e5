-- A span goes in among kept ones: where it is put, and what it joins.
use Rattle.std.proofs.Common.{◌≡◌, ◌<◌, ℤ, ◌≤ℤ◌, ◌<ℤ◌, Bool, true, false, not, ◌&&◌, ◌||◌, cond, List, [], ◌∷◌, ◌++◌, length, filter, inl, inr, refl, sym, ap, ◌∙◌, arith, subst, Ordering, true≢false, Some, None}
use Rattle.std.specs.Prelude.{int_lt, int_le}
use Rattle.std.specs.Int.{int_max, int_min}
use Rattle.std.specs.List.{AllByRecursion, list_any}
use Rattle.std.specs.Ordering.{int_cmp, match_ordering, is_eq, is_lt}
use Rattle.std.specs.declared.cmp.Ordering.TheVariants.{Less, Equal, Greater}
use Rattle.std.specs.BTreeMap.{insert_entry, is_at}
use Rattle.std.specs.BTreeMap.Range.{range_contains}
use Rattle.std.specs.declared.ops.Bound.TheVariants.{Included, Excluded, Unbounded}
use Rattle.std.specs.Map.{remove_entry, lookup}
use Rattle.std.proofs.lemmas.Int.{ints, clamps}
use Rattle.list_laws.specs.Mending.{AreSpread}
use Rattle.exact_time.specs.declared.moment.Moment.{Moment}
use Rattle.exact_time.specs.declared.ratio.Ratio.{Ratio}
use Rattle.time_index.specs.declared.kept.Kept.{Kept}
use Rattle.time_index.specs.Kept.{joined, from, upto, both, kept_mend, Outside, IsHome, is_within, within, IsFirstWithin, IsBegun}

abbrev pub Entry : Type 0
Entry = Moment × Kept

abbrev pub moment_cmp : Moment → Moment → Ordering
moment_cmp a b = int_cmp a.micros b.micros

up_to : (r q : ℤ) → range_contains int_cmp Unbounded (Included r) q ≡ not (int_lt r q)
up_to r q = grind (arith, ints)

-- the last that passes a test
module _ {E : Type 0} (test : E → Bool) where
  none_filtered : (es : List E) → filter test es ≡ [] → AllByRecursion (λ e. test e ≡ false) es
  none_filtered [] h = tt
  none_filtered (e ∷ es) h =
      elim (test e) as (λ b. test e ≡ b → cond b (e ∷ filter test es) (filter test es) ≡ [] → AllByRecursion (λ e. test e ≡ false) (e ∷ es)) [
        | true ↦ λ _ k. absurd (cc)
        | false ↦ λ f k. (f, none_filtered es k)
      ] refl h

  record Split (es : List E) (t : E) : Type 0 where
    before : List E
    behind : List E
    is : es ≡ before ++ t ∷ behind
    passes : test t ≡ true
    others : AllByRecursion (λ e. test e ≡ false) behind

  one_more : (e : E) (es : List E) (t : E) → Split es t → Split (e ∷ es) t
  one_more e es t s = record { before = e ∷ s.before; behind = s.behind; is = ap (λ (xs : List E). e ∷ xs) s.is; passes = s.passes; others = s.others }

  tail_of : (e g : E) (xs ys : List E) → e ∷ xs ≡ g ∷ ys → xs ≡ ys
  tail_of e g xs ys h = cc

  head_of : (e g : E) (xs ys : List E) → e ∷ xs ≡ g ∷ ys → e ≡ g
  head_of e g xs ys h = cc

  here : (e : E) (es : List E) (t : E) → test e ≡ true → e ∷ filter test es ≡ t ∷ [] → Split (e ∷ es) t
  here e es t f k =
      let same : e ≡ t = head_of e t (filter test es) [] k in
      record { before = []; behind = es; is = ap (λ (x : E). x ∷ es) same; passes = sym (ap test same) ∙ f; others = none_filtered es (tail_of e t (filter test es) [] k) }

  last_split : (es front : List E) (t : E) → filter test es ≡ front ++ t ∷ [] → Split es t
  last_split [] [] t h = absurd (cc)
  last_split [] (f ∷ front) t h = absurd (cc)
  last_split (e ∷ es) [] t h =
      elim (test e) as (λ b. test e ≡ b → cond b (e ∷ filter test es) (filter test es) ≡ t ∷ [] → Split (e ∷ es) t) [
        | true ↦ λ f k. here e es t f k
        | false ↦ λ f k. one_more e es t (last_split es [] t k)
      ] refl h
  last_split (e ∷ es) (g ∷ front) t h =
      elim (test e) as (λ b. test e ≡ b → cond b (e ∷ filter test es) (filter test es) ≡ g ∷ (front ++ t ∷ []) → Split (e ∷ es) t) [
        | true ↦ λ f k. one_more e es t (last_split es front t (tail_of e g (filter test es) (front ++ t ∷ []) k))
        | false ↦ λ f k. one_more e es t (last_split es (g ∷ front) t k)
      ] refl h

past : (r q : ℤ) → not (int_lt r q) ≡ false → r <ℤ q
past r q h = grind (arith, ints)

not_past : (r q : ℤ) → not (int_lt r q) ≡ true → q ≤ℤ r
not_past r q h = grind (arith, ints)

abbrev pub by_then : ℤ → Entry → Bool
by_then start e = range_contains int_cmp Unbounded (Included start) (from e)

all_later : (start : ℤ) (vs : List Entry) → AllByRecursion (λ e. by_then start e ≡ false) vs → AllByRecursion (λ e. start <ℤ from e) vs
all_later start [] all = tt
all_later start (v ∷ vs) all = (past start (from v) (sym (up_to start (from v)) ∙ all.0), all_later start vs all.1)

outside_later : (start : ℤ) (vs : List Entry) → AllByRecursion (λ e. start <ℤ from e) vs → Outside start vs
outside_later start [] all = tt
outside_later start (v ∷ vs) all = (inr all.0, outside_later start vs all.1)

ends_before : (a b c d s : ℤ) → a <ℤ b → b ≤ℤ c → c <ℤ s → a <ℤ s
ends_before a b c d s h k l = omega (arith, ints)

outside_before : (start : ℤ) (us : List Entry) (t : Entry) (vs : List Entry) → AreSpread from upto (us ++ t ∷ vs) → upto t <ℤ start → Outside start vs → Outside start (us ++ t ∷ vs)
outside_before start [] t vs apart lt rest = (inl lt, rest)
outside_before start (u ∷ us) t vs apart lt rest = (inl (below us apart.1 apart.2), outside_before start us t vs apart.2 lt rest)
  where
    below : (us : List Entry) → AllByRecursion (λ e. upto u <ℤ from e) (us ++ t ∷ vs) → AreSpread from upto (us ++ t ∷ vs) → upto u <ℤ start
    below [] all ap = ends_before (upto u) (from t) (upto t) start start all.0 ap.0 lt
    below (w ∷ ws) all ap = below ws all.1 ap.2

module _ (start : ℤ) (es : List Entry) (apart : AreSpread from upto es) where
  abbrev pub early : List Entry
  early = filter (by_then start) es

  pub none_home : early ≡ [] → Outside start es
  none_home h = outside_later start es (all_later start es (none_filtered (by_then start) es h))

  pub short_home : (front : List Entry) (t : Entry) → early ≡ front ++ t ∷ [] → upto t <ℤ start → Outside start es
  short_home front t h lt =
      let s = last_split (by_then start) es front t h in
      subst (λ (xs : List Entry). Outside start xs) (sym s.is)
      (outside_before start s.before t s.behind (subst (λ (xs : List Entry). AreSpread from upto xs) s.is apart) lt (outside_later start s.behind (all_later start s.behind s.others)))

  pub home_is : (front : List Entry) (t : Entry) → early ≡ front ++ t ∷ [] → start ≤ℤ upto t → IsHome start es t
  home_is front t h le =
      let s = last_split (by_then start) es front t h in
      record { before = s.before; behind = s.behind; is = s.is; from_it = not_past start (from t) (sym (up_to start (from t)) ∙ s.passes); upto_it = le; later = all_later start s.behind s.others }

-- a span among those that end before it and those that start behind it
abbrev Low : ℤ → List Entry → Type 0
Low start us = AllByRecursion (λ e. (from e ≤ℤ upto e) × (upto e <ℤ start)) us

less_is : (a b : ℤ) → a <ℤ b → int_lt a b ≡ true
less_is a b h = grind (arith, ints)

not_less_is : (a b : ℤ) → b ≤ℤ a → int_lt a b ≡ false
not_less_is a b h = grind (arith, ints)

module _ (rate : Ratio) where
  skipped : (e : Entry) (us vs : List Entry) → Low (from e) us → kept_mend rate e (us ++ vs) ≡ us ++ kept_mend rate e vs
  skipped e [] vs low = refl
  skipped e (u ∷ us) vs low =
      ap (λ b. cond b (u ∷ kept_mend rate e (us ++ vs)) (cond (int_lt (upto e) (from u)) (e ∷ u ∷ (us ++ vs)) (kept_mend rate (both rate e u) (us ++ vs)))) (less_is (upto u) (from e) low.0.1)
      ∙ ap (λ (xs : List Entry). u ∷ xs) (skipped e us vs low.1)

  touched : (e t : Entry) (vs : List Entry) → from e ≤ℤ upto t → from t ≤ℤ upto e → kept_mend rate e (t ∷ vs) ≡ kept_mend rate (both rate e t) vs
  touched e t vs h k =
      ap (λ b. cond b (t ∷ kept_mend rate e vs) (cond (int_lt (upto e) (from t)) (e ∷ t ∷ vs) (kept_mend rate (both rate e t) vs))) (not_less_is (upto t) (from e) h)
      ∙ ap (λ b. cond b (e ∷ t ∷ vs) (kept_mend rate (both rate e t) vs)) (not_less_is (upto e) (from t) k)

  in_front : (e t : Entry) (vs : List Entry) → from e ≤ℤ upto t → upto e <ℤ from t → kept_mend rate e (t ∷ vs) ≡ e ∷ t ∷ vs
  in_front e t vs h k =
      ap (λ b. cond b (t ∷ kept_mend rate e vs) (cond (int_lt (upto e) (from t)) (e ∷ t ∷ vs) (kept_mend rate (both rate e t) vs))) (not_less_is (upto t) (from e) h)
      ∙ ap (λ b. cond b (e ∷ t ∷ vs) (kept_mend rate (both rate e t) vs)) (less_is (upto e) (from t) k)

-- keys before an entry, and its own
inserted : (key : Moment) (us : List Entry) (x new : Kept) (vs : List Entry) → Low key.micros us → insert_entry moment_cmp (us ++ (key, x) ∷ vs) key new ≡ us ++ (key, new) ∷ vs
inserted key [] x new vs low =
    let e : int_cmp key.micros key.micros ≡ Equal = grind (arith, ints) in
    ap (λ o. match_ordering o ((key, new) ∷ (key, x) ∷ vs) ((key, new) ∷ vs) ((key, x) ∷ insert_entry moment_cmp vs key new)) e
inserted key (u ∷ us) x new vs low =
    let h : from u ≤ℤ upto u = low.0.0 in
    let k : upto u <ℤ key.micros = low.0.1 in
    let e : int_cmp key.micros (from u) ≡ Greater = grind (arith, ints) in
    ap (λ o. match_ordering o ((key, new) ∷ u ∷ (us ++ (key, x) ∷ vs)) ((u.0, new) ∷ (us ++ (key, x) ∷ vs)) (u ∷ insert_entry moment_cmp (us ++ (key, x) ∷ vs) key new)) e
    ∙ ap (λ (xs : List Entry). u ∷ xs) (inserted key us x new vs low.1)

put_new : (key : Moment) (us : List Entry) (new : Kept) (vs : List Entry) → Low key.micros us → AllByRecursion (λ e. key.micros <ℤ from e) vs → insert_entry moment_cmp (us ++ vs) key new ≡ us ++ (key, new) ∷ vs
put_new key [] new [] low high = refl
put_new key [] new (v ∷ vs) low high =
    let h : key.micros <ℤ from v = high.0 in
    let e : int_cmp key.micros (from v) ≡ Less = grind (arith, ints) in
    ap (λ o. match_ordering o ((key, new) ∷ v ∷ vs) ((v.0, new) ∷ vs) (v ∷ insert_entry moment_cmp vs key new)) e
put_new key (u ∷ us) new vs low high =
    let h : from u ≤ℤ upto u = low.0.0 in
    let k : upto u <ℤ key.micros = low.0.1 in
    let e : int_cmp key.micros (from u) ≡ Greater = grind (arith, ints) in
    ap (λ o. match_ordering o ((key, new) ∷ u ∷ (us ++ vs)) ((u.0, new) ∷ (us ++ vs)) (u ∷ insert_entry moment_cmp (us ++ vs) key new)) e
    ∙ ap (λ (xs : List Entry). u ∷ xs) (put_new key us new vs low.1 high)

held : (key : Moment) (us : List Entry) (x : Kept) (vs : List Entry) → Low key.micros us → lookup (is_at (moment_cmp key)) (us ++ (key, x) ∷ vs) ≡ Some x
held key [] x vs low =
    let e : is_eq (int_cmp key.micros key.micros) ≡ true = grind (arith, ints) in
    ap (λ b. cond b (Some x) (lookup (is_at (moment_cmp key)) vs)) e
held key (u ∷ us) x vs low =
    let h : from u ≤ℤ upto u = low.0.0 in
    let k : upto u <ℤ key.micros = low.0.1 in
    let e : is_eq (int_cmp key.micros (from u)) ≡ false = grind (arith, ints) in
    ap (λ b. cond b (Some u.1) (lookup (is_at (moment_cmp key)) (us ++ (key, x) ∷ vs))) e ∙ held key us x vs low.1

removed : (key : Moment) (us : List Entry) (h t : Entry) (vs : List Entry) → Low (from h) us → key ≡ t.0 → from h <ℤ from t → remove_entry (is_at (moment_cmp key)) (us ++ h ∷ t ∷ vs) ≡ us ++ h ∷ vs
removed key [] h t vs low same lt =
    let e : is_eq (int_cmp (from t) (from h)) ≡ false = grind (arith, ints) in
    let f : is_eq (int_cmp (from t) (from t)) ≡ true = grind (arith, ints) in
    ap (λ (k : Moment). remove_entry (is_at (moment_cmp k)) (h ∷ t ∷ vs)) same
    ∙ ap (λ b. cond b (t ∷ vs) (h ∷ cond (is_eq (int_cmp (from t) (from t))) vs (t ∷ remove_entry (is_at (moment_cmp t.0)) vs))) e
    ∙ ap (λ b. h ∷ cond b vs (t ∷ remove_entry (is_at (moment_cmp t.0)) vs)) f
removed key (u ∷ us) h t vs low same lt =
    let g : from u ≤ℤ upto u = low.0.0 in
    let k : upto u <ℤ from h = low.0.1 in
    let s : key.micros ≡ from t = ap (λ (m : Moment). m.micros) same in
    let e : is_eq (int_cmp key.micros (from u)) ≡ false = grind (arith, ints) in
    ap (λ b. cond b (us ++ h ∷ t ∷ vs) (u ∷ remove_entry (is_at (moment_cmp key)) (us ++ h ∷ t ∷ vs))) e
    ∙ ap (λ (xs : List Entry). u ∷ xs) (removed key us h t vs low.1 same lt)

least : (a b : ℤ) → b ≤ℤ a → int_min a b ≡ b
least a b h = grind (arith, ints)

least_first : (a b : ℤ) → a <ℤ b → int_min a b ≡ a
least_first a b h = grind (arith, ints)

chained : (a b c : ℤ) → a ≤ℤ b → b ≤ℤ c → a ≤ℤ c
chained a b c h k = omega (arith, ints)

chained_less : (a b c : ℤ) → a <ℤ b → b ≤ℤ c → a ≤ℤ c
chained_less a b c h k = omega (arith, ints)

to_max : (a b c : ℤ) → a ≤ℤ c → a ≤ℤ int_max b c
to_max a b c h = omega (arith, ints, clamps)

pub to_first : (a b c : ℤ) → a ≤ℤ b → a ≤ℤ int_max b c
to_first a b c h = omega (arith, ints, clamps)

low_before : (us : List Entry) (t : Entry) (vs : List Entry) → AreSpread from upto (us ++ t ∷ vs) → Low (from t) us
low_before [] t vs apart = tt
low_before (u ∷ us) t vs apart = ((apart.0, below us apart.1), low_before us t vs apart.2)
  where
    below : (us : List Entry) → AllByRecursion (λ e. upto u <ℤ from e) (us ++ t ∷ vs) → upto u <ℤ from t
    below [] all = all.0
    below (w ∷ ws) all = below ws all.1

spread_behind : (us : List Entry) (t : Entry) (vs : List Entry) → AreSpread from upto (us ++ t ∷ vs) → AreSpread from upto vs
spread_behind [] t vs apart = apart.2
spread_behind (u ∷ us) t vs apart = spread_behind us t vs apart.2

later_still : (a b : ℤ) (vs : List Entry) → a ≤ℤ b → AllByRecursion (λ e. b <ℤ from e) vs → AllByRecursion (λ e. a <ℤ from e) vs
later_still a b [] h all = tt
later_still a b (v ∷ vs) h all = (let k : b <ℤ from v = all.0 in omega (arith, ints, k), later_still a b vs h all.1)

-- a span that starts within another is put into it
pub begun_home : (rate : Ratio) (start key : Moment) (kept other : Kept) (es : List Entry) → AreSpread from upto es → start.micros ≤ℤ kept.reach.micros → IsHome start.micros es (key, other)
    → IsBegun rate (kept_mend rate (start, kept) es) (key, joined rate kept other) es
begun_home rate start key kept other es apart forward h =
    let apart' = subst (λ (xs : List Entry). AreSpread from upto xs) h.is apart in
    let low = low_before h.before (key, other) h.behind apart' in
    let into : int_min start.micros key.micros ≡ key.micros = least start.micros key.micros h.from_it in
    record {
      before = h.before;
      stale = other;
      behind = h.behind;
      is = h.is;
      low = low;
      high = later_still key.micros start.micros h.behind h.from_it h.later;
      spread = spread_behind h.before (key, other) h.behind apart';
      forward = to_max key.micros kept.reach.micros other.reach.micros (chained key.micros start.micros other.reach.micros h.from_it h.upto_it);
      same = sym
          (ap (kept_mend rate (start, kept)) h.is
          ∙ skipped rate (start, kept) h.before ((key, other) ∷ h.behind) (lower h.before low)
          ∙ ap (λ (xs : List Entry). h.before ++ xs)
          (touched rate (start, kept) (key, other) h.behind h.upto_it (chained key.micros start.micros kept.reach.micros h.from_it forward)
          ∙ ap (λ (z : ℤ). kept_mend rate (record { micros = z }, joined rate kept other) h.behind) into));
    }
  where
    lower : (us : List Entry) → Low key.micros us → Low start.micros us
    lower [] low = tt
    lower (u ∷ us) low = ((low.0.0, (let k : upto u <ℤ key.micros = low.0.1 in let l = h.from_it in omega (arith, ints, k, l))), lower us low.1)

-- the spans that end before a moment, and those that start behind it
record Parts (start : ℤ) (es : List Entry) : Type 0 where
  before : List Entry
  behind : List Entry
  is : es ≡ before ++ behind
  low : Low start before
  high : AllByRecursion (λ e. start <ℤ from e) behind
  spread : AreSpread from upto behind

parted : (start : ℤ) (es : List Entry) → AreSpread from upto es → Outside start es → Parts start es
parted start [] apart out = record { before = []; behind = []; is = refl; low = tt; high = tt; spread = tt }
parted start (t ∷ ts) apart out = elim out.0 as (λ _. Parts start (t ∷ ts)) [
  | inl lt ↦
      let rest = parted start ts apart.2 out.1 in
      record { before = t ∷ rest.before; behind = rest.behind; is = ap (λ (xs : List Entry). t ∷ xs) rest.is; low = ((apart.0, lt), rest.low); high = rest.high; spread = rest.spread }
  | inr gt ↦
      let le : start ≤ℤ upto t = chained_less start (from t) (upto t) gt apart.0 in
      record { before = []; behind = t ∷ ts; is = refl; low = tt; high = (gt, later_still start (upto t) ts le apart.1); spread = apart }
]

-- a span that starts in no other is put by itself
pub begun_alone : (rate : Ratio) (start : Moment) (kept : Kept) (es new : List Entry) → AreSpread from upto es → start.micros ≤ℤ kept.reach.micros → Outside start.micros es
    → new ≡ insert_entry moment_cmp es start kept → IsBegun rate (kept_mend rate (start, kept) es) (start, kept) new
begun_alone rate start kept es new apart forward out grown =
    let p = parted start.micros es apart out in
    record {
      before = p.before;
      stale = kept;
      behind = p.behind;
      is = grown ∙ ap (λ (xs : List Entry). insert_entry moment_cmp xs start kept) p.is ∙ put_new start p.before kept p.behind p.low p.high;
      low = p.low;
      high = p.high;
      spread = p.spread;
      forward = forward;
      same = sym (ap (kept_mend rate (start, kept)) p.is ∙ skipped rate (start, kept) p.before p.behind p.low);
    }

-- the spans within reach are those behind
out_of_it : (h r f : ℤ) → f <ℤ h → (int_lt h f && int_le f r) ≡ false
out_of_it h r f k = grind (arith, ints)

itself_not : (h r : ℤ) → (int_lt h h && int_le h r) ≡ false
itself_not h r = grind (arith, ints)

begins_below : (a b c : ℤ) → a ≤ℤ b → b <ℤ c → a <ℤ c
begins_below a b c h k = omega (arith, ints)

within_behind : (h r : ℤ) (us : List Entry) (t : Entry) (vs : List Entry) → Low h us → from t ≡ h → within h r (us ++ t ∷ vs) ≡ within h r vs
within_behind h r [] t vs low is =
    ap (λ b. cond b (t ∷ within h r vs) (within h r vs)) (ap (λ z. int_lt h z && int_le z r) is ∙ itself_not h r)
within_behind h r (u ∷ us) t vs low is =
    ap (λ b. cond b (u ∷ within h r (us ++ t ∷ vs)) (within h r (us ++ t ∷ vs))) (out_of_it h r (from u) (begins_below (from u) (upto u) h low.0.0 low.0.1))
    ∙ within_behind h r us t vs low.1 is

in_it : (h r f : ℤ) → h <ℤ f → f ≤ℤ r → (int_lt h f && int_le f r) ≡ true
in_it h r f k l = grind (arith, ints)

behind_it : (h r f : ℤ) → r <ℤ f → (int_lt h f && int_le f r) ≡ false
behind_it h r f k = grind (arith, ints)

-- none behind starts within reach where the first doesn't
none_within : (h r : ℤ) (vs : List Entry) → AllByRecursion (λ e. r <ℤ from e) vs → within h r vs ≡ []
none_within h r [] all = refl
none_within h r (v ∷ vs) all = ap (λ b. cond b (v ∷ within h r vs) (within h r vs)) (behind_it h r (from v) all.0) ∙ none_within h r vs all.1

record First (h r : ℤ) (t : Entry) (vs : List Entry) : Type 0 where
  rest : List Entry
  is : vs ≡ t ∷ rest
  reached : from t ≤ℤ r

reached_is : (f r : ℤ) → int_le f r ≡ true → f ≤ℤ r
reached_is f r h = grind (arith, ints)

not_reached_is : (f r : ℤ) → int_le f r ≡ false → r <ℤ f
not_reached_is f r h = grind (arith, ints)

by_reach : {P : Type 0} (r f : ℤ) → (f ≤ℤ r → P) → (r <ℤ f → P) → P
by_reach {P} r f reached not_reached = elim (int_le f r) as (λ b. int_le f r ≡ b → P) [
  | true ↦ λ e. reached (reached_is f r e)
  | false ↦ λ e. not_reached (not_reached_is f r e)
] refl

first_of : (h r : ℤ) (t : Entry) (others vs : List Entry) → AllByRecursion (λ e. h <ℤ from e) vs → AreSpread from upto vs → within h r vs ≡ t ∷ others → First h r t vs
first_of h r t others [] high apart is = absurd (cc)
first_of h r t others (v ∷ vs) high apart is =
    by_reach r (from v)
    (λ le.
    let kept : v ∷ within h r vs ≡ t ∷ others = sym (ap (λ b. cond b (v ∷ within h r vs) (within h r vs)) (in_it h r (from v) high.0 le)) ∙ is in
    let same : v ≡ t = cc in
    record { rest = vs; is = ap (λ (x : Entry). x ∷ vs) same; reached = subst (λ (x : Entry). from x ≤ℤ r) same le })
    (λ gt.
    let le : r ≤ℤ upto v = chained_less r (from v) (upto v) gt apart.0 in
    absurd (let none : within h r (v ∷ vs) ≡ [] = none_within h r (v ∷ vs) (gt, later_still r (upto v) vs le apart.1) in let no : [] ≡ t ∷ others = sym none ∙ is in (cc)))

-- one span behind that is reached goes in
pub begun_more : (rate : Ratio) (wanted : List Entry) (home key : Moment) (kept other : Kept) (es new : List Entry) → IsFirstWithin home.micros kept.reach.micros es (key, other)
    → new ≡ remove_entry (is_at (moment_cmp key)) es → IsBegun rate wanted (home, kept) es → IsBegun rate wanted (home, joined rate kept other) new
begun_more rate wanted home key kept other es new first gone b =
    let h = home.micros in
    let f = first_of h kept.reach.micros (key, other) first.others b.behind b.high b.spread (sym (ap (within h kept.reach.micros) b.is ∙ within_behind h kept.reach.micros b.before (home, b.stale) b.behind b.low refl) ∙ first.is) in
    let high = subst (λ (xs : List Entry). AllByRecursion (λ e. h <ℤ from e) xs) f.is b.high in
    let apart = subst (λ (xs : List Entry). AreSpread from upto xs) f.is b.spread in
    let into : int_min h key.micros ≡ h = least_first h key.micros high.0 in
    record {
      before = b.before;
      stale = b.stale;
      behind = f.rest;
      is =
          gone ∙ ap (remove_entry (is_at (moment_cmp key))) (b.is ∙ ap (λ (xs : List Entry). b.before ++ (home, b.stale) ∷ xs) f.is)
          ∙ removed key b.before (home, b.stale) (key, other) f.rest b.low refl high.0;
      low = b.low;
      high = high.1;
      spread = apart.2;
      forward = to_first h kept.reach.micros other.reach.micros b.forward;
      same =
          sym
          (ap (λ (xs : List Entry). b.before ++ xs)
          (ap (kept_mend rate (home, kept)) f.is
          ∙ touched rate (home, kept) (key, other) f.rest (chained_less h key.micros other.reach.micros high.0 apart.0) f.reached
          ∙ ap (λ (z : ℤ). kept_mend rate (record { micros = z }, joined rate kept other) f.rest) into))
          ∙ b.same;
    }

all_reached : (h r : ℤ) (vs : List Entry) → AllByRecursion (λ e. h <ℤ from e) vs → within h r vs ≡ [] → AllByRecursion (λ e. r <ℤ from e) vs
all_reached h r [] high none = tt
all_reached h r (v ∷ vs) high none =
    by_reach r (from v)
    (λ le. absurd (let some : v ∷ within h r vs ≡ [] = sym (ap (λ b. cond b (v ∷ within h r vs) (within h r vs)) (in_it h r (from v) high.0 le)) ∙ none in (cc)))
    (λ gt. (gt, all_reached h r vs high.1 (sym (ap (λ b. cond b (v ∷ within h r vs) (within h r vs)) (behind_it h r (from v) gt)) ∙ none)))

stands : (rate : Ratio) (e : Entry) (vs : List Entry) → AllByRecursion (λ x. from e <ℤ from x) vs → AreSpread from upto vs → AllByRecursion (λ x. upto e <ℤ from x) vs → kept_mend rate e vs ≡ e ∷ vs
stands rate e [] high apart far = refl
stands rate e (v ∷ vs) high apart far = in_front rate e v vs (chained_less (from e) (from v) (upto v) high.0 apart.0) far.0

-- where none behind is reached, the span goes to its place
module _ (rate : Ratio) (wanted : List Entry) (home : Moment) (kept : Kept) (es : List Entry) (b : IsBegun rate wanted (home, kept) es) where
  pub settled : (new : List Entry) → within home.micros kept.reach.micros es ≡ [] → new ≡ insert_entry moment_cmp es home kept → new ≡ wanted
  settled new none grown =
      let h = home.micros in
      let far = all_reached h kept.reach.micros b.behind b.high (sym (ap (within h kept.reach.micros) b.is ∙ within_behind h kept.reach.micros b.before (home, b.stale) b.behind b.low refl) ∙ none) in
      grown
      ∙ ap (λ (xs : List Entry). insert_entry moment_cmp xs home kept) b.is
      ∙ inserted home b.before b.stale kept b.behind b.low
      ∙ ap (λ (xs : List Entry). b.before ++ xs) (sym (stands rate (home, kept) b.behind b.high b.spread far))
      ∙ b.same

  pub never_absent : lookup (is_at (moment_cmp home)) es ≡ None → ⊥
  never_absent none = let some : Some b.stale ≡ None = sym (ap (lookup (is_at (moment_cmp home))) b.is ∙ held home b.before b.stale b.behind b.low) ∙ none in (cc)

-- a key that is there is taken out
fewer : (key : Moment) (es : List Entry) → list_any (λ e. is_at (moment_cmp key) e.0) es ≡ true → length (remove_entry (is_at (moment_cmp key)) es) < length es
fewer key [] h = absurd (true≢false (sym h))
fewer key (e ∷ es) h =
    elim (is_at (moment_cmp key) e.0) as (λ b. (b || list_any (λ x. is_at (moment_cmp key) x.0) es) ≡ true → length (cond b es (e ∷ remove_entry (is_at (moment_cmp key)) es)) < length (e ∷ es)) [
      | true ↦ λ _. omega arith
      | false ↦ λ k. let rest = fewer key es k in omega (arith, rest)
    ] h

there : (h r : ℤ) (t : Entry) (others es : List Entry) → within h r es ≡ t ∷ others → list_any (λ e. is_at (moment_cmp t.0) e.0) es ≡ true
there h r t others [] is = absurd (cc)
there h r t others (e ∷ es) is =
    elim (is_within h r e) as (λ b. cond b (e ∷ within h r es) (within h r es) ≡ t ∷ others → (is_at (moment_cmp t.0) e.0 || list_any (λ x. is_at (moment_cmp t.0) x.0) es) ≡ true) [
      | true ↦ λ k.
          let same : e ≡ t = cc in
          let at : is_eq (int_cmp (from t) (from t)) ≡ true = grind (arith, ints) in
          ap (λ b. b || list_any (λ x. is_at (moment_cmp t.0) x.0) es) (ap (λ (x : Entry). is_eq (int_cmp (from t) (from x))) same ∙ at)
      | false ↦ λ k. or_later (is_at (moment_cmp t.0) e.0) (list_any (λ x. is_at (moment_cmp t.0) x.0) es) (there h r t others es k)
    ] is
  where
    or_later : (a b : Bool) → b ≡ true → (a || b) ≡ true
    or_later true b h = refl
    or_later false b h = h

pub taken_out : (h r : ℤ) (key : Moment) (other : Kept) (es new : List Entry) → IsFirstWithin h r es (key, other) → new ≡ remove_entry (is_at (moment_cmp key)) es → length new < length es
taken_out h r key other es new first gone = subst (λ (xs : List Entry). length xs < length es) (sym gone) (fewer key es (there h r (key, other) first.others es first.is))

pub less_from : (a b : ℤ) → is_lt (int_cmp a b) ≡ true → a <ℤ b
less_from a b h = grind (arith, ints)

pub not_less_from : (a b : ℤ) → is_lt (int_cmp a b) ≡ false → b ≤ℤ a
not_less_from a b h = grind (arith, ints)

between_is : (h r q : ℤ) → range_contains int_cmp (Excluded h) (Included r) q ≡ (int_lt h q && int_le q r)
between_is h r q = grind (arith, ints)

pub within_is : (h r : Moment) (es : List Entry) → filter (λ (e : Entry). range_contains int_cmp (Excluded h.micros) (Included r.micros) e.0.micros) es ≡ within h.micros r.micros es
within_is h r es = λ i. filter (λ (e : Entry). between_is h.micros r.micros e.0.micros i) es

-- The tests of a query decide what it asks for.
use Rattle.std.proofs.Common.{◌≡◌, ◌↔◌, ℤ, ◌≤ℤ◌, Bool, true, false, not, cond, ◌&&◌, ◌==◌, List, Option, Some, None, refl, sym, ap, ◌∙◌, arith, eq-eqb}
use Rattle.std.specs.Prelude.{IfSome, Any, IsTrue, int_le, int_lt}
use Rattle.std.specs.List.{list_any}
use Rattle.std.specs.Ordering.{int_cmp, is_ge}
use Rattle.std.specs.declared.cmp.Ordering.TheVariants.{Less, Equal, Greater}
use Rattle.std.proofs.lemmas.Bool.{and_parts, and_from}
use Rattle.std.proofs.lemmas.Bool.Decides.{nat_tests}
use Rattle.std.proofs.lemmas.Int.{ints}
use Rattle.std.proofs.lemmas.List.Folds.{Any-from_list_any, list_any-from_Any}
use Rattle.channel_globs.specs.Matching.{is_match_any}
use Rattle.channel_globs.proofs.Decides.{any_decides}
use Rattle.channel_globs.specs.declared.nslc.Nslc.{Nslc}
use Rattle.mseed_header.specs.Quality.{quality_letter}
use Rattle.mseed_header.specs.declared.quality.Quality.{Quality}
use Rattle.mseed_header.specs.declared.header.Header.{Header}
use Rattle.dataselect.specs.declared.query.Selection.{Selection}
use Rattle.dataselect.specs.declared.query.DataQuery.{DataQuery}
use Rattle.dataselect.specs.Query.{holds, is_named, reaches, starts_by, is_selected, is_asked}
use Rattle.dataselect.specs.Law.{IsNamedBy, IsReached, IsSelectedBy, IsAskedBy}
use Rattle.mseed_header.proofs.Qualities.{letters_apart}

holds_decides : {T : Type 0} (test : T → Bool) (P : T → Type 0) → ((x : T) → IsTrue (test x) ↔ P x) → (o : Option T) → IsTrue (holds test o) ↔ IfSome o P
holds_decides test P each None = (λ h. tt, λ h. refl)
holds_decides test P each (Some x) = each x

pub any_as : {X : Type 0} (test : X → Bool) (P : X → Type 0) → ((x : X) → IsTrue (test x) ↔ P x) → (xs : List X) → IsTrue (list_any test xs) ↔ Any P xs
any_as test P each xs = (
  λ h. let found = Any-from_list_any test xs h in (found.0, found.1, found.2, found.3, (each found.1).0 found.4),
  λ h. list_any-from_Any test xs (h.0, h.1, h.2, h.3, (each h.1).1 h.4),
)

pub named_decides : (s : Selection) (name : Nslc) → IsTrue (is_named s name) ↔ IsNamedBy s name
named_decides s name =
    let n = is_match_any s.network name.network in
    let t = is_match_any s.station name.station in
    let l = is_match_any s.location name.location in
    let c = is_match_any s.channel name.channel in (
      λ h.
          let p = and_parts ((n && t) && l) c h in
          let q = and_parts (n && t) l p.0 in
          let r = and_parts n t q.0 in
          record {
            network = (any_decides s.network name.network).0 r.0;
            station = (any_decides s.station name.station).0 r.1;
            location = (any_decides s.location name.location).0 q.1;
            channel = (any_decides s.channel name.channel).0 p.1;
          },
      λ h. and_from ((n && t) && l) c
          (and_from (n && t) l (and_from n t ((any_decides s.network name.network).1 h.network) ((any_decides s.station name.station).1 h.station)) ((any_decides s.location name.location).1 h.location))
          ((any_decides s.channel name.channel).1 h.channel),
    )

ge_of : (below above : Bool) → is_ge (cond below Less (cond above Greater Equal)) ≡ not below
ge_of true above = refl
ge_of false true = refl
ge_of false false = refl

not_below : (a b : ℤ) → IsTrue (not (int_lt a b)) ↔ (b ≤ℤ a)
not_below a b = (λ h. grind (arith, ints), λ h. grind (arith, ints))

ge_decides : (a b : ℤ) → IsTrue (is_ge (int_cmp a b)) ↔ (b ≤ℤ a)
ge_decides a b = (λ h. (not_below a b).0 (sym (ge_of (int_lt a b) (int_lt b a)) ∙ h), λ h. ge_of (int_lt a b) (int_lt b a) ∙ (not_below a b).1 h)

le_decides : (a b : ℤ) → IsTrue (int_le a b) ↔ (a ≤ℤ b)
le_decides a b = (λ h. grind (arith, ints), λ h. grind (arith, ints))

quality_decides : (q r : Quality) → IsTrue (quality_letter q == quality_letter r) ↔ (q ≡ r)
quality_decides q r = (λ h. letters_apart q r (grind (arith, nat_tests)), λ h. eq-eqb (quality_letter q) (quality_letter r) (ap quality_letter h))

selected_decides : (s : Selection) (h : Header) → IsTrue (is_selected s h) ↔ IsSelectedBy s h
unfolding is_selected
selected_decides s h =
    let n = is_named s h.name in
    let r = holds (λ t. reaches h t.micros) s.start in
    let e = holds (λ t. starts_by h t.micros) s.end in
    let reach = holds_decides (λ t. reaches h t.micros) (λ t. IsReached h t.micros) (λ t. ge_decides _ _) s.start in
    let start = holds_decides (λ t. starts_by h t.micros) (λ t. h.start.micros ≤ℤ t.micros) (λ t. le_decides h.start.micros t.micros) s.end in (
      λ k.
          let p = and_parts n (r && e) k in
          let q = and_parts r e p.1 in
          record { named = (named_decides s h.name).0 p.0; start = reach.0 q.0; end = start.0 q.1 },
      λ k. and_from n (r && e) ((named_decides s h.name).1 k.named) (and_from r e (reach.1 k.start) (start.1 k.end)),
    )

pub asked_decides : (query : DataQuery) (h : Header) → IsTrue (is_asked query h) ↔ IsAskedBy query h
unfolding is_asked
asked_decides query h =
    let q = holds (λ q. quality_letter q == quality_letter h.quality) query.quality in
    let s = list_any (λ s. is_selected s h) query.selections in
    let quality = holds_decides (λ q. quality_letter q == quality_letter h.quality) (λ q. q ≡ h.quality) (λ q. quality_decides q h.quality) query.quality in
    let some = any_as (λ s. is_selected s h) (λ s. IsSelectedBy s h) (λ s. selected_decides s h) query.selections in (
      λ k. let p = and_parts q s k in record { quality = quality.0 p.0; selected = some.0 p.1 },
      λ k. and_from q s (quality.1 k.quality) (some.1 k.selected),
    )

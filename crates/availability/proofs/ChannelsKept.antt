-- What a selection keeps of the spans of one channel more.
use Rattle.std.proofs.Common.{◌≡◌, ℕ, ◌+◌, ◌<◌, Bool, true, false, ◌&&◌, cond, List, [], ◌∷◌, ◌++◌, map, filter, length, get_or, drop, refl, sym, ap, ◌∙◌, subst, add-one, drop-cons, append_assoc}
use Rattle.std.specs.List.{AllByRecursion}
use Rattle.std.proofs.lemmas.List.{map-append}
use Rattle.channel_globs.specs.declared.nslc.Nslc.{Nslc}
use Rattle.dataselect.specs.Query.{is_named}
use Rattle.dataselect.specs.declared.query.Selection.{Selection}
use Rattle.availability.specs.declared.channel.ChannelSpans.{ChannelSpans}
use Rattle.availability.specs.declared.span.TimeSpan.{TimeSpan}
use Rattle.availability.specs.declared.span.Window.{Window}
use Rattle.availability.specs.Channels.{all_spans, AreNamed}
use Rattle.availability.specs.Windows.{meets, is_kept, clipped, kept_within, kept}

abbrev HaveName : Nslc → List TimeSpan → Type 0
HaveName name spans = AllByRecursion (λ s. s.group.name ≡ name) spans

filter_append : (test : TimeSpan → Bool) (xs ys : List TimeSpan) → filter test (xs ++ ys) ≡ filter test xs ++ filter test ys
filter_append test [] ys = refl
filter_append test (x ∷ xs) ys =
    elim (test x) as (λ b. cond b (x ∷ filter test (xs ++ ys)) (filter test (xs ++ ys)) ≡ cond b (x ∷ filter test xs) (filter test xs) ++ filter test ys) [
      | true ↦ ap (λ (zs : List TimeSpan). x ∷ zs) (filter_append test xs ys)
      | false ↦ filter_append test xs ys
    ]

kept_append : (s : Selection) (xs ys : List TimeSpan) → kept s (xs ++ ys) ≡ kept s xs ++ kept s ys
kept_append s xs ys = ap (map (clipped s)) (filter_append (is_kept s) xs ys) ∙ map-append (clipped s) (filter (is_kept s) xs) (filter (is_kept s) ys)

-- of spans that a selection matches, its window decides; of the others it keeps none
matched : (s : Selection) (name : Nslc) (spans : List TimeSpan) → is_named s name ≡ true → HaveName name spans → kept s spans ≡ kept_within s spans
matched s name [] named all = refl
matched s name (span ∷ spans) named all =
    let rest = matched s name spans named all.1 in
    ap (λ b. map (clipped s) (cond (b && meets s span) (span ∷ filter (is_kept s) spans) (filter (is_kept s) spans))) (ap (is_named s) all.0 ∙ named)
    ∙ elim (meets s span) as (λ b. map (clipped s) (cond b (span ∷ filter (is_kept s) spans) (filter (is_kept s) spans)) ≡ map (clipped s) (cond b (span ∷ filter (meets s) spans) (filter (meets s) spans))) [
      | true ↦ ap (λ (ws : List Window). clipped s span ∷ ws) rest
      | false ↦ rest
    ]

unmatched : (s : Selection) (name : Nslc) (spans : List TimeSpan) → is_named s name ≡ false → HaveName name spans → kept s spans ≡ []
unmatched s name [] other all = refl
unmatched s name (span ∷ spans) other all =
    ap (λ b. map (clipped s) (cond (b && meets s span) (span ∷ filter (is_kept s) spans) (filter (is_kept s) spans))) (ap (is_named s) all.0 ∙ other)
    ∙ unmatched s name spans other all.1

module _ (s : Selection) (windows : List Window) (i : ℕ) (channels : List ChannelSpans) (channel : ChannelSpans) (h : i < length channels) (is : channel ≡ get_or channels i channel) (named : AreNamed (drop i channels)) where
  cut : drop i channels ≡ channel ∷ drop (i + 1) channels
  cut = rw (drop-cons channels i channel h, ← is, add-one i) refl

  all : AreNamed (channel ∷ drop (i + 1) channels)
  all = subst AreNamed cut named

  pub next_named : AreNamed (drop (i + 1) channels)
  next_named = all.1

  pub channel_kept : (more : List Window) → more ≡ windows ++ kept_within s channel.spans → is_named s channel.name ≡ true
      → more ++ kept s (all_spans (drop (i + 1) channels)) ≡ windows ++ kept s (all_spans (drop i channels))
  channel_kept more grown test =
      ap (λ (ws : List Window). ws ++ kept s (all_spans (drop (i + 1) channels))) (grown ∙ ap (λ (ws : List Window). windows ++ ws) (sym (matched s channel.name channel.spans test all.0)))
      ∙ append_assoc windows (kept s channel.spans) (kept s (all_spans (drop (i + 1) channels)))
      ∙ ap (λ (ws : List Window). windows ++ ws) (sym (kept_append s channel.spans (all_spans (drop (i + 1) channels))))
      ∙ ap (λ (cs : List ChannelSpans). windows ++ kept s (all_spans cs)) (sym cut)

  pub channel_passed : is_named s channel.name ≡ false → windows ++ kept s (all_spans (drop (i + 1) channels)) ≡ windows ++ kept s (all_spans (drop i channels))
  channel_passed test =
      ap (λ (ws : List Window). windows ++ (ws ++ kept s (all_spans (drop (i + 1) channels)))) (sym (unmatched s channel.name channel.spans test all.0))
      ∙ ap (λ (ws : List Window). windows ++ ws) (sym (kept_append s channel.spans (all_spans (drop (i + 1) channels))))
      ∙ ap (λ (cs : List ChannelSpans). windows ++ kept s (all_spans cs)) (sym cut)

-- The place of one row more is that of a name's row, or isn't.
use Rattle.std.proofs.Common.{◌≡◌, ℕ, ◌+◌, ◌<◌, true, false, List, [], ◌∷◌, ◌++◌, map, length, get_or, drop, refl, sym, ◌∙◌, ap, add-one, drop-cons, append_assoc}
use Rattle.channel_globs.specs.declared.nslc.Nslc.{Nslc}
use Rattle.mseed_header.specs.declared.row.Row.{Row}
use Rattle.dataselect.specs.MergedSpans.{has_name}
use Rattle.dataselect.specs.Spans.{placed_from}

abbrev pub places_from : Nslc → ℕ → List Row → List ℕ
places_from name i rows = map (λ p. p.0) (placed_from (has_name name) i rows)

module _ (name : Nslc) (places : List ℕ) (i : ℕ) (rows : List Row) (row : Row) (h : i < length rows) (is : row ≡ get_or rows i row) where
  cut : drop i rows ≡ row ∷ drop (i + 1) rows
  cut = rw (drop-cons rows i row h, ← is, add-one i) refl

  pub place_taken : (more : List ℕ) → more ≡ places ++ i ∷ [] → has_name name row ≡ true → more ++ places_from name (i + 1) (drop (i + 1) rows) ≡ places ++ places_from name i (drop i rows)
  place_taken more grown test =
      ap (λ (ps : List ℕ). ps ++ places_from name (i + 1) (drop (i + 1) rows)) grown
      ∙ append_assoc places (i ∷ []) (places_from name (i + 1) (drop (i + 1) rows))
      ∙ sym (rw (cut, test) refl)

  pub place_passed : has_name name row ≡ false → places ++ places_from name (i + 1) (drop (i + 1) rows) ≡ places ++ places_from name i (drop i rows)
  place_passed test = sym (rw (cut, test) refl)

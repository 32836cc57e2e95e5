-- The letters of the qualities, and their order (SEED 2.4, fixed section of data header, field 2).
use Rattle.std.specs.Prelude.{ℕ}
use Rattle.std.specs.Ordering.{nat_cmp}
use Rattle.std.specs.declared.cmp.Ordering.{Ordering}
use Rattle.mseed_header.specs.declared.quality.Quality.{Quality}
use Rattle.mseed_header.specs.declared.quality.Quality.TheVariants.{D, M, Q, R}

-- the letter of a quality
abbrev pub quality_letter : Quality → ℕ
quality_letter D = 68
quality_letter M = 77
quality_letter Q = 81
quality_letter R = 82

-- by their letters
abbrev pub quality_cmp : Quality → Quality → Ordering
quality_cmp a b = nat_cmp (quality_letter a) (quality_letter b)

-- The test of a match decides the relation.
use Rattle.std.proofs.Common.{◌≡◌, ℕ, zero, suc, Bool, true, false, IsTrue, ◌↔◌, ◌==◌, ◌&&◌, ◌||◌, ◌⊎◌, inl, inr, cond, List, [], ◌∷◌, length, drop, MatchBool, arith, refl}
use Rattle.std.proofs.lemmas.Bool.{or_cases, or_left, or_right, and_parts, and_from}
use Rattle.std.proofs.lemmas.Bool.Decides.{nat_tests}
use Rattle.std.proofs.lemmas.List.Folds.{Any-from_list_any, list_any-from_Any}
use Rattle.std.specs.Prelude.{Any}
use Rattle.channel_globs.specs.Matching.{Matches, Takes, takes, some_suffix, is_match, is_match_any, star}

byte_to : (p c : ℕ) → ((p == 63) || (p == c)) ≡ true → (p ≡ 63) ⊎ (p ≡ c)
byte_to p c h = elim (or_cases (p == 63) (p == c) h) [ inl any ↦ inl (grind (arith, nat_tests)) | inr same ↦ inr (grind (arith, nat_tests)) ]

byte_from : (p c : ℕ) → (p ≡ 63) ⊎ (p ≡ c) → ((p == 63) || (p == c)) ≡ true
byte_from p c h = elim h [ inl any ↦ or_left (p == 63) (p == c) (grind (arith, nat_tests)) | inr same ↦ or_right (p == 63) (p == c) (grind (arith, nat_tests)) ]

takes_decides : (p : ℕ) (code : List ℕ) → IsTrue (takes p code) ↔ Takes p code
takes_decides p [] = (λ h. cc, λ h. absurd h)
takes_decides p (c ∷ cs) = (byte_to p c, byte_from p c)

suffix_found : (test : List ℕ → Bool) (code : List ℕ) → some_suffix test code ≡ true → (n : ℕ) × (test (drop n code) ≡ true)
suffix_found test [] h = (0, h)
suffix_found test (c ∷ cs) h =
    elim (or_cases (test (c ∷ cs)) (some_suffix test cs) h) [
      | inl here ↦ (0, here)
      | inr later ↦ let found = suffix_found test cs later in (suc found.0, found.1)
    ]

suffix_here : (test : List ℕ → Bool) (code : List ℕ) → test code ≡ true → some_suffix test code ≡ true
suffix_here test [] h = h
suffix_here test (c ∷ cs) h = or_left (test (c ∷ cs)) (some_suffix test cs) h

found_suffix : (test : List ℕ → Bool) (n : ℕ) (code : List ℕ) → test (drop n code) ≡ true → some_suffix test code ≡ true
found_suffix test zero code h = suffix_here test code h
found_suffix test (suc n) [] h = h
found_suffix test (suc n) (c ∷ cs) h = or_right (test (c ∷ cs)) (some_suffix test cs) (found_suffix test n cs h)

match_step : (p : ℕ) (ps code : List ℕ) → ((c : List ℕ) → IsTrue (is_match ps c) ↔ Matches ps c) → (b : Bool)
    → IsTrue (cond b (some_suffix (is_match ps) code) (takes p code && is_match ps (drop 1 code)))
    ↔ MatchBool b ((n : ℕ) × Matches ps (drop n code)) (Takes p code × Matches ps (drop 1 code))
match_step p ps code rest true = (
  λ h. let found = suffix_found (is_match ps) code h in (found.0, (rest (drop found.0 code)).0 found.1),
  λ h. found_suffix (is_match ps) h.0 code ((rest (drop h.0 code)).1 h.1),
)
match_step p ps code rest false = (
  λ h. let parts = and_parts (takes p code) (is_match ps (drop 1 code)) h in ((takes_decides p code).0 parts.0, (rest (drop 1 code)).0 parts.1),
  λ h. and_from (takes p code) (is_match ps (drop 1 code)) ((takes_decides p code).1 h.0) ((rest (drop 1 code)).1 h.1),
)

nonempty : (c : ℕ) (cs : List ℕ) → (length (c ∷ cs) == 0) ≡ true → ⊥
nonempty c cs h = grind (arith, nat_tests)

pub match_decides : (pattern code : List ℕ) → IsTrue (is_match pattern code) ↔ Matches pattern code
match_decides [] [] = (λ h. refl, λ h. refl)
match_decides [] (c ∷ cs) = (λ h. absurd (nonempty c cs h), λ h. cc)
match_decides (p ∷ ps) code = match_step p ps code (match_decides ps) (p == star)

-- some pattern matches
pub any_decides : (patterns : List (List ℕ)) (code : List ℕ) → IsTrue (is_match_any patterns code) ↔ Any (λ pattern. Matches pattern code) patterns
any_decides patterns code = (
  λ h. let found = Any-from_list_any (λ pattern. is_match pattern code) patterns h in
      (found.0, found.1, found.2, found.3, (match_decides found.1 code).0 found.4),
  λ h. list_any-from_Any (λ pattern. is_match pattern code) patterns (h.0, h.1, h.2, h.3, (match_decides h.1 code).1 h.4),
)

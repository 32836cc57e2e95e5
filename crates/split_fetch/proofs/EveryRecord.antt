-- A query of four `*` without a window asks for every record.
use Rattle.std.proofs.Common.{◌≡◌, ℕ, Bool, true, false, ◌||◌, ◌&&◌, List, [], ◌∷◌, refl, ap}
use Rattle.channel_globs.specs.Matching.{is_match, is_match_any, some_suffix}
use Rattle.dataselect.specs.Query.{is_selected, is_asked}
use Rattle.split_fetch.specs.Everything.{any_code, everything, AsksAll}

or_second : (a b : Bool) → b ≡ true → (a || b) ≡ true
or_second true b h = refl
or_second false b h = h

any_suffix : (code : List ℕ) → some_suffix (is_match []) code ≡ true
any_suffix [] = refl
any_suffix (c ∷ cs) = or_second (is_match [] (c ∷ cs)) (some_suffix (is_match []) cs) (any_suffix cs)

star_matches : (code : List ℕ) → is_match_any any_code code ≡ true
star_matches code = ap (λ (b : Bool). b || false) (any_suffix code)

all_four : (a b c d : Bool) → a ≡ true → b ≡ true → c ≡ true → d ≡ true → ((((a && b && c && d) && true) || false)) ≡ true
all_four true true true true _ _ _ _ = refl
all_four false b c d h _ _ _ = absurd (let e = h in (cc))
all_four true false c d _ h _ _ = absurd (let e = h in (cc))
all_four true true false d _ _ h _ = absurd (let e = h in (cc))
all_four true true true false _ _ _ h = absurd (let e = h in (cc))

pub asks_all : AsksAll everything
unfolding is_asked is_selected
asks_all h =
    all_four (is_match_any any_code h.name.network) (is_match_any any_code h.name.station) (is_match_any any_code h.name.location)
    (is_match_any any_code h.name.channel)
    (star_matches h.name.network) (star_matches h.name.station) (star_matches h.name.location) (star_matches h.name.channel)

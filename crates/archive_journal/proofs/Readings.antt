-- A file says what describes it.
use Rattle.std.proofs.Common.{◌≡◌, ◌≢◌, inl, inr, ℕ, zero, suc, ◌+◌, ◌-◌, ◌≤◌, List, [], ◌∷◌, ◌++◌, length, take, drop, Bool, true, false, nat_lt, if◌then◌else◌, refl, sym, ◌∙◌, ap, arith, append_assoc, length-append}
use Rattle.std.proofs.lemmas.List.{append-nil, take_at, drop_at, drop-drop}
use Rattle.std.proofs.lemmas.Bool.Decides.{nat_tests}
use Rattle.std.proofs.lemmas.Nat.{from_be_bytes-to_be_bytes_4}
use Rattle.std.proofs.lemmas.Slice.Eq.{bytes_eq-Decides}
use Rattle.std.specs.Bool.{Decides}
use Rattle.std.specs.List.{AllByRecursion}
use Rattle.std.specs.Str.{bytes_eq}
use Rattle.archive_journal.specs.Frames.{magic, open_gate, limit, body_of, frames, front_of, size_in, is_whole, IsSized, IsJournal, IsBroken, IsDamaged, IsNoJournal, Reading, holding, no_journal, damaged_at, with_first, frames_from, reading_of}
use Rattle.archive_journal.proofs.FrameLists.{length-body_of}

-- some payloads before those of a reading
abbrev with_all : List (List ℕ) → Reading → Reading
with_all [] reading = reading
with_all (p ∷ ps) reading = with_first p (with_all ps reading)

with_all-holding : (ps qs : List (List ℕ)) → with_all ps (holding qs) ≡ holding (ps ++ qs)
with_all-holding [] qs = refl
with_all-holding (p ∷ ps) qs = ap (with_first p) (with_all-holding ps qs)

with_all-damaged_at : (ps : List (List ℕ)) (at : ℕ) → with_all ps (damaged_at at) ≡ damaged_at at
with_all-damaged_at [] at = refl
with_all-damaged_at (p ∷ ps) at = ap (with_first p) (with_all-damaged_at ps at)

-- the length behind a gate, in a frame that was written
size_in-body_of : (p rest : List ℕ) → IsSized p → size_in (body_of p ++ rest) ≡ length p
size_in-body_of p rest sized = from_be_bytes-to_be_bytes_4 (length p) (omega (arith, sized.within))

is_whole-body_of : (p rest : List ℕ) → IsSized p → is_whole (body_of p ++ rest) ≡ true
is_whole-body_of p rest sized =
    let size : size_in (body_of p ++ rest) ≡ length p = size_in-body_of p rest sized in
    let long : length (body_of p ++ rest) ≡ 4 + length p + length rest = omega (arith, length-append (body_of p) rest, length-body_of p) in
    whole (body_of p ++ rest) (length p) size sized.some sized.within (omega (arith, long))
  where
    whole : (behind : List ℕ) (n : ℕ) → size_in behind ≡ n → 1 ≤ n → n ≤ limit → 4 + n ≤ length behind → is_whole behind ≡ true
    whole behind n is some within fits = grind (arith, nat_tests)

-- a whole open frame counts
pub frames_from-whole : (n at : ℕ) (behind : List ℕ) (size : ℕ) → size_in behind ≡ size → is_whole behind ≡ true
    → frames_from (suc n) at (open_gate ∷ behind) ≡ with_first (take size (drop 4 behind)) (frames_from n (at + 5 + size) (drop (4 + size) behind))
frames_from-whole n at behind size is whole =
    (λ i. if whole i then with_first (take (is i) (drop 4 behind)) (frames_from n (at + 5 + is i) (drop (4 + is i) behind)) else damaged_at at)

frames_from-open : (n at : ℕ) (p rest : List ℕ) → IsSized p → frames_from (suc n) at (open_gate ∷ body_of p ++ rest) ≡ with_first p (frames_from n (at + 5 + length p) rest)
frames_from-open n at p rest sized =
    let behind = body_of p ++ rest in
    let left : drop (4 + length p) behind ≡ rest = sym (drop-drop (length p) 4 behind) ∙ drop_at p rest (length p) refl in
    frames_from-whole n at behind (length p) (size_in-body_of p rest sized) (is_whole-body_of p rest sized)
    ∙ (λ i. with_first (take_at p rest (length p) refl i) (frames_from n (at + 5 + length p) (left i)))

frames_from-frames : (ps : List (List ℕ)) (n at : ℕ) (rest : List ℕ) → AllByRecursion IsSized ps → frames_from (length ps + n) at (frames ps ++ rest) ≡ with_all ps (frames_from n (at + length (frames ps)) rest)
frames_from-frames [] n at rest sized = let m : 0 + n ≡ n = omega arith in let a : at ≡ at + 0 = omega arith in (λ i. frames_from (m i) (a i) rest)
frames_from-frames (p ∷ ps) n at rest sized =
    let m : suc (length ps) + n ≡ suc (length ps + n) = omega arith in
    let a : at + 5 + length p + length (frames ps) ≡ at + length (frames (p ∷ ps)) = omega (arith, length-append (body_of p) (frames ps), length-body_of p) in
    ap (λ k. frames_from k at (frames (p ∷ ps) ++ rest)) m
    ∙ ap (λ (l : List ℕ). frames_from (suc (length ps + n)) at (open_gate ∷ l)) (append_assoc (body_of p) (frames ps) rest)
    ∙ frames_from-open (length ps + n) at p (frames ps ++ rest) sized.0
    ∙ ap (with_first p) (frames_from-frames ps n (at + 5 + length p) rest sized.1)
    ∙ ap (λ k. with_first p (with_all ps (frames_from n k rest))) a

pub frames_from-closed : (n at gate : ℕ) (behind : List ℕ) → gate ≢ open_gate → frames_from (suc n) at (gate ∷ behind) ≡ holding []
frames_from-closed n at gate behind closed = grind (arith, nat_tests)

pub frames_from-broken : (n at : ℕ) (rest : List ℕ) → IsBroken rest → frames_from n at rest ≡ damaged_at at
frames_from-broken zero at rest broken = refl
frames_from-broken (suc n) at [] broken = refl
frames_from-broken (suc n) at (gate ∷ behind) broken =
    ap (λ (k : ℕ). frames_from (suc n) at (k ∷ behind)) broken.0
    ∙ ap (λ b. if b then with_first (take (size_in behind) (drop 4 behind)) (frames_from n (at + 5 + size_in behind) (drop (4 + size_in behind) behind)) else damaged_at at) broken.1

length-frames : (ps : List (List ℕ)) → length ps ≤ length (frames ps)
length-frames [] = omega arith
length-frames (p ∷ ps) = omega (arith, length-frames ps, length-append (body_of p) (frames ps))

-- a file with the magic and a gate is read gate by gate
reading_of-magic : (behind : List ℕ) → 1 ≤ length behind → reading_of (magic ++ behind) ≡ frames_from (length (magic ++ behind)) 16 behind
unfolding reading_of
reading_of-magic behind some = grind (arith, nat_tests)

module _ (ps : List (List ℕ)) (sized : AllByRecursion IsSized ps) (rest : List ℕ) where
  -- so its whole open frames count
  reading_of-front_of : 1 ≤ length (frames ps ++ rest) → (n : ℕ) → length (front_of ps ++ rest) ≡ length ps + n → reading_of (front_of ps ++ rest) ≡ with_all ps (frames_from n (length (front_of ps)) rest)
  unfolding front_of
  reading_of-front_of some n is =
      let a : 16 + length (frames ps) ≡ length (magic ++ frames ps) = omega (arith, length-append magic (frames ps)) in
      reading_of-magic (frames ps ++ rest) some ∙ ap (λ k. frames_from k 16 (frames ps ++ rest)) is ∙ frames_from-frames ps n 16 rest sized ∙ ap (λ k. with_all ps (frames_from n k rest)) a

  -- there may be more of them than there are
  room : length ps + length rest ≤ length (front_of ps ++ rest)
  unfolding front_of
  room = omega (arith, length-frames ps, length-append (frames ps) rest)

  length-front : length (front_of ps ++ rest) ≡ 16 + length (frames ps ++ rest)
  unfolding front_of
  length-front = omega (arith, length-append magic (frames ps ++ rest), length-append (frames ps) rest, length-append (magic ++ frames ps) rest, length-append magic (frames ps))

-- a journal says its payloads
pub reading_of-journal : (ps : List (List ℕ)) (file : List ℕ) → IsJournal ps file → reading_of file ≡ holding ps
reading_of-journal ps file journal =
    let rest = journal.gate ∷ journal.rest in
    let m = length (front_of ps ++ rest) - length ps - 1 in
    let long : length (front_of ps ++ rest) ≡ length ps + suc m = omega (arith, room ps journal.sized rest) in
    let some : 1 ≤ length (frames ps ++ rest) = omega (arith, length-append (frames ps) rest) in
    ap reading_of journal.file_is
    ∙ reading_of-front_of ps journal.sized rest some (suc m) long
    ∙ ap (with_all ps) (frames_from-closed m (length (front_of ps)) journal.gate journal.rest journal.closed)
    ∙ with_all-holding ps []
    ∙ ap holding (append-nil ps)

-- a damaged file says where
pub reading_of-damaged : (at : ℕ) (file : List ℕ) → IsDamaged at file → reading_of file ≡ damaged_at at
reading_of-damaged at file damaged =
    let ps = damaged.payloads in
    let rest = damaged.rest in
    let n = length (front_of ps ++ rest) - length ps in
    let long : length (front_of ps ++ rest) ≡ length ps + n = omega (arith, room ps damaged.sized rest) in
    let some : 1 ≤ length (frames ps ++ rest) = omega (arith, damaged.long, ap length damaged.file_is, length-front ps damaged.sized rest) in
    ap reading_of damaged.file_is
    ∙ reading_of-front_of ps damaged.sized rest some n long
    ∙ ap (with_all ps) (frames_from-broken n (length (front_of ps)) rest damaged.broken)
    ∙ with_all-damaged_at ps (length (front_of ps))
    ∙ ap damaged_at (sym damaged.at_is)

-- and so does a file that is no journal
pub reading_of-none : (file : List ℕ) → IsNoJournal file → reading_of file ≡ no_journal
unfolding reading_of
reading_of-none file (inl short) = grind (arith, nat_tests)
reading_of-none file (inr other) = let test : bytes_eq (take 16 file) magic ≡ false = not_same (bytes_eq (take 16 file) magic) (bytes_eq-Decides (take 16 file) magic) other in by_tests (nat_lt (length file) 17) (bytes_eq (take 16 file) magic) test
  where
    not_same : (b : Bool) → Decides b (take 16 file ≡ magic) → take 16 file ≢ magic → b ≡ false
    not_same true decides not = absurd (not (decides.0 refl))
    not_same false decides not = refl

    by_tests : (b b' : Bool) → b' ≡ false → (if b then no_journal else (if b' then frames_from (length file) 16 (drop 16 file) else no_journal)) ≡ no_journal
    by_tests true b' is = refl
    by_tests false b' is = ap (λ (t : Bool). if t then frames_from (length file) 16 (drop 16 file) else no_journal) is

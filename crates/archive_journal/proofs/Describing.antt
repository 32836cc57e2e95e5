-- Every file is described by what it says.
use Rattle.std.proofs.Common.{◌≡◌, ◌≢◌, inl, inr, ℕ, zero, suc, ◌+◌, ◌<◌, ◌≤◌, List, [], ◌∷◌, ◌++◌, length, take, drop, Bool, true, false, nat_lt, if◌then◌else◌, refl, sym, ◌∙◌, ap, subst, arith, append_assoc, length-append, length-drop, take-append-drop}
use Rattle.std.proofs.lemmas.List.{get_or-drop}
use Rattle.std.proofs.lemmas.Bool.{cases_eq, false≢true}
use Rattle.std.proofs.lemmas.Bool.Decides.{nat_tests}
use Rattle.std.proofs.lemmas.Slice.Eq.{bytes_eq-Decides}
use Rattle.std.specs.List.{AllByRecursion}
use Rattle.std.specs.Str.{bytes_eq}
use Rattle.archive_journal.specs.Frames.{magic, open_gate, body_of, frames, front_of, size_in, is_whole, IsSized, IsBroken, IsBytes, Reading, holding, no_journal, damaged_at, Describes, with_first, frames_from, reading_of}
use Rattle.archive_journal.proofs.FrameLists.{length-body_of}
use Rattle.archive_journal.proofs.Heads.{whole_parts}
use Rattle.archive_journal.proofs.Readings.{frames_from-whole, frames_from-closed, frames_from-broken, reading_of-journal, reading_of-damaged, reading_of-none}

-- whole open frames, and a closed gate behind them
record Ends (ps : List (List ℕ)) (rest : List ℕ) : Type 0 where
  gate : ℕ
  behind : List ℕ
  rest_is : rest ≡ frames ps ++ gate ∷ behind
  closed : gate ≢ open_gate
  sized : AllByRecursion IsSized ps

-- whole open frames, and then neither a whole frame nor a closed gate
record Breaks (start at : ℕ) (rest : List ℕ) : Type 0 where
  payloads : List (List ℕ)
  more : List ℕ
  rest_is : rest ≡ frames payloads ++ more
  sized : AllByRecursion IsSized payloads
  at_is : at ≡ start + length (frames payloads)
  broken : IsBroken more

-- what the bytes from a gate on say, rightly
abbrev Says : ℕ → List ℕ → Reading → Type 0
Says start rest (holding ps) = Ends ps rest
Says start rest no_journal = ⊥
Says start rest (damaged_at at) = Breaks start at rest

-- with one more frame before them
says_first : (start : ℕ) (p more : List ℕ) (reading : Reading) → IsSized p → Says (start + 5 + length p) more reading → Says start (open_gate ∷ body_of p ++ more) (with_first p reading)
says_first start p more (holding ps) sized ends = record {
  gate = ends.gate;
  behind = ends.behind;
  rest_is = ap (λ (l : List ℕ). open_gate ∷ body_of p ++ l) ends.rest_is ∙ ap (λ (l : List ℕ). open_gate ∷ l) (sym (append_assoc (body_of p) (frames ps) (ends.gate ∷ ends.behind)));
  closed = ends.closed;
  sized = (sized, ends.sized);
}
says_first start p more no_journal sized none = none
says_first start p more (damaged_at at) sized breaks = record {
  payloads = p ∷ breaks.payloads;
  more = breaks.more;
  rest_is = ap (λ (l : List ℕ). open_gate ∷ body_of p ++ l) breaks.rest_is ∙ ap (λ (l : List ℕ). open_gate ∷ l) (sym (append_assoc (body_of p) (frames breaks.payloads) breaks.more));
  sized = (sized, breaks.sized);
  at_is = omega (arith, breaks.at_is, length-append (body_of p) (frames breaks.payloads), length-body_of p);
  broken = breaks.broken;
}

-- nothing is whole here
says_broken : (start : ℕ) (rest : List ℕ) → IsBroken rest → Says start rest (damaged_at start)
says_broken start rest broken = record { payloads = []; more = rest; rest_is = refl; sized = tt; at_is = omega arith; broken = broken }

bytes_dropped : (k : ℕ) (file : List ℕ) → IsBytes file → IsBytes (drop k file)
bytes_dropped k file bytes i = subst (λ (b : ℕ). b < 256) (sym (get_or-drop k file i 0)) (bytes (k + i))

bytes_taken : (k : ℕ) (file : List ℕ) → IsBytes file → IsBytes (take k file)
bytes_taken zero file bytes i = omega arith
bytes_taken (suc k) [] bytes i = omega arith
bytes_taken (suc k) (b ∷ file) bytes zero = bytes 0
bytes_taken (suc k) (b ∷ file) bytes (suc i) = bytes_taken k file (λ j. bytes (suc j)) i

-- from n bytes on, what fewer bytes say being right
module _ (n start : ℕ) (fewer : (start : ℕ) (rest : List ℕ) → length rest < n → IsBytes rest → Says start rest (frames_from n start rest)) where
  at_open_gate : (behind : List ℕ) (whole : Bool) → is_whole behind ≡ whole → length behind ≤ n → IsBytes behind → Says start (open_gate ∷ behind) (frames_from (suc n) start (open_gate ∷ behind))
  at_open_gate behind true whole few bytes =
      let size = size_in behind in
      let p = take size (drop 4 behind) in
      let more = drop (4 + size) behind in
      let reading = frames_from n (start + 5 + size) more in
      let frame = whole_parts behind (bytes_taken 4 behind bytes) whole in
      let rest : Says (start + 5 + size) more reading = fewer (start + 5 + size) more (omega (arith, length-drop (4 + size) behind, few, frame.3)) (bytes_dropped (4 + size) behind bytes) in
      let here = says_first start p more reading frame.1 (subst (λ (k : ℕ). Says (start + 5 + k) more reading) (sym frame.2) rest) in
      let says = subst (λ (l : List ℕ). Says start (open_gate ∷ l) (with_first p reading)) (sym frame.0) here in
      subst (Says start (open_gate ∷ behind)) (sym (frames_from-whole n start behind size refl whole)) says
  at_open_gate behind false whole few bytes =
      subst (Says start (open_gate ∷ behind)) (sym (frames_from-broken (suc n) start (open_gate ∷ behind) (refl, whole))) (says_broken start (open_gate ∷ behind) (refl, whole))

  at_gate : (gate : ℕ) (behind : List ℕ) → length behind ≤ n → IsBytes behind → Says start (gate ∷ behind) (frames_from (suc n) start (gate ∷ behind))
  at_gate gate behind few bytes = elim (cases_eq gate open_gate) [
    | inl is_open ↦ subst (λ (g : ℕ). Says start (g ∷ behind) (frames_from (suc n) start (g ∷ behind))) (sym is_open) (at_open_gate behind (is_whole behind) refl few bytes)
    | inr shut ↦ subst (Says start (gate ∷ behind)) (sym (frames_from-closed n start gate behind shut)) (record { gate = gate; behind = behind; rest_is = refl; closed = shut; sized = tt })
  ]

said : (n start : ℕ) (rest : List ℕ) → length rest < n → IsBytes rest → Says start rest (frames_from n start rest)
said zero start rest few bytes = absurd (omega arith)
said (suc n) start [] few bytes = says_broken start [] tt
said (suc n) start (gate ∷ behind) few bytes = at_gate n start (said n) gate behind (omega (arith, few)) (λ k. bytes (suc k))

-- with the magic before them
says_file : (file : List ℕ) (reading : Reading) → 17 ≤ length file → take 16 file ≡ magic → Says 16 (drop 16 file) reading → Describes reading file
unfolding front_of
says_file file (holding ps) long is ends = record {
  gate = ends.gate;
  rest = ends.behind;
  file_is = sym (take-append-drop 16 file) ∙ (λ i. is i ++ ends.rest_is i) ∙ sym (append_assoc magic (frames ps) (ends.gate ∷ ends.behind));
  closed = ends.closed;
  sized = ends.sized;
}
says_file file no_journal long is none = absurd none
says_file file (damaged_at at) long is breaks = record {
  payloads = breaks.payloads;
  rest = breaks.more;
  file_is = sym (take-append-drop 16 file) ∙ (λ i. is i ++ breaks.rest_is i) ∙ sym (append_assoc magic (frames breaks.payloads) breaks.more);
  sized = breaks.sized;
  at_is = omega (arith, breaks.at_is, length-append magic (frames breaks.payloads));
  broken = breaks.broken;
  long = long;
}

pub described : (file : List ℕ) → IsBytes file → Describes (reading_of file) file
unfolding reading_of
described file bytes = by_length (nat_lt (length file) 17) refl
  where
    by_magic : (is : Bool) → bytes_eq (take 16 file) magic ≡ is → 17 ≤ length file → Describes (if is then frames_from (length file) 16 (drop 16 file) else no_journal) file
    by_magic true test long = says_file file (frames_from (length file) 16 (drop 16 file)) long ((bytes_eq-Decides (take 16 file) magic).0 test) (said (length file) 16 (drop 16 file) (omega (arith, length-drop 16 file, long)) (bytes_dropped 16 file bytes))
    by_magic false test long = inr (λ same. false≢true (sym test ∙ (bytes_eq-Decides (take 16 file) magic).1 same))

    by_length : (short : Bool) → nat_lt (length file) 17 ≡ short → Describes (if short then no_journal else (if bytes_eq (take 16 file) magic then frames_from (length file) 16 (drop 16 file) else no_journal)) file
    by_length true test = inl (grind (arith, nat_tests))
    by_length false test = by_magic (bytes_eq (take 16 file) magic) refl (grind (arith, nat_tests))

-- and by nothing else
pub only_described : (file : List ℕ) (reading : Reading) → Describes reading file → reading_of file ≡ reading
only_described file (holding ps) journal = reading_of-journal ps file journal
only_described file no_journal none = reading_of-none file none
only_described file (damaged_at at) damaged = reading_of-damaged at file damaged

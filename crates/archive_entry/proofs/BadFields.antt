-- The first field that reading from left to right refuses is the first that can't stand at its offset.
use Rattle.std.proofs.Common.{◌≡◌, ◌==◌, ◌&&◌, ℕ, suc, ◌+◌, ◌-◌, ◌≤◌, Bool, true, false, cond, List, [], ◌∷◌, length, get_or, take, drop, Option, Some, None, Result, Ok, Err, refl, sym, ap, ◌∙◌, arith}
use Rattle.std.specs.Prelude.{nat_le, slice_index}
use Rattle.std.specs.Int.{Width, w32, w64, byte_len, from_be_bytes}
use Rattle.std.proofs.lemmas.Bool.{and_parts}
use Rattle.std.proofs.lemmas.Bool.Decides.{nat_tests}
use Rattle.std.proofs.lemmas.List.{drop-drop, get_or-drop, length-drop}
use Rattle.exact_time.specs.declared.moment.Moment.{Moment}
use Rattle.epochs.specs.Fields.{is_user_name}
use Rattle.archive_entry.specs.Bodies.{is_body}
use Rattle.archive_entry.specs.Format.{is_name_size, author_in, seq_begin, kind_begin, size_begin, is_kind_byte, kind_in, body_size, is_body_size, body_in, body_end, has, unless, bad_body, bad_field}
use Rattle.archive_entry.specs.Reading.{◌>>=◌, number_at, moment_of, name_of, name_at, kind_of, kind_at, body_of, body_at, Head, head_at, tail_at, entry_from, whole_entry, entry_in}
use Rattle.archive_entry.specs.declared.entry.Entry.{Entry}
use Rattle.archive_entry.specs.declared.entry.Kind.{Kind}

-- the offset that a fault tells
abbrev pub told : {A : Type 0} → ℕ → Result A ℕ → Option ℕ
told size (Ok x) = None
told size (Err left) = Some (size - left)

regrouped : {A B C : Type 0} (r : Result A ℕ) (f : A → Result B ℕ) (g : B → Result C ℕ) → ((r >>= f) >>= g) ≡ (r >>= λ x. f x >>= g)
regrouped (Ok x) f g = refl
regrouped (Err e) f g = refl

both_unless : (a b : Bool) (at : ℕ) (later : Option ℕ) → unless a at (unless b at later) ≡ unless (a && b) at later
both_unless true b at later = refl
both_unless false b at later = refl

module _ (p : List ℕ) where
  abbrev size : ℕ
  size = length p

  -- there are so many bytes behind an offset
  has_behind : (k n : ℕ) → k ≤ size → nat_le n (length (drop k p)) ≡ has p (k + n)
  has_behind k n within = let len = length-drop k p in grind (arith, nat_tests)

  has_from : (k : ℕ) → has p k ≡ true → k ≤ size
  has_from k h = grind (arith, nat_tests)

  left_at : (k : ℕ) → k ≤ size → size - length (drop k p) ≡ k
  left_at k within = omega (arith, length-drop k p)

  -- a test at an offset
  guard_told : {A B : Type 0} (b : Bool) (r : Result A ℕ) (left k : ℕ) (f : A → Result B ℕ) (later : Option ℕ) → size - left ≡ k → (b ≡ true → told size (r >>= f) ≡ later)
      → told size (cond b r (Err left) >>= f) ≡ unless b k later
  guard_told true r left k f later at next = next refl
  guard_told false r left k f later at next = ap (λ (n : ℕ). Some n) at

  number_told : {B : Type 0} (w : Width) (k : ℕ) (f : ℕ × List ℕ → Result B ℕ) (later : Option ℕ) → k ≤ size
      → (k + byte_len w ≤ size → told size (f (from_be_bytes w (take (byte_len w) (drop k p)), drop (k + byte_len w) p)) ≡ later)
      → told size (number_at w (drop k p) >>= f) ≡ unless (has p (k + byte_len w)) k later
  number_told w k f later within next =
      let value = from_be_bytes w (take (byte_len w) (drop k p)) in
      let there = has_behind k (byte_len w) within in
      guard_told (nat_le (byte_len w) (length (drop k p))) (Ok (value, drop (byte_len w) (drop k p))) (length (drop k p)) k f later (left_at k within)
      (λ is. ap (λ (rest : List ℕ). told size (f (value, rest))) (drop-drop (byte_len w) k p) ∙ next (has_from (k + byte_len w) (sym there ∙ is)))
      ∙ ap (λ (b : Bool). unless b k later) there

  -- the byte at an offset and what is behind it
  front_byte : (k m : ℕ) (rest : List ℕ) → drop k p ≡ m ∷ rest → ◌≡◌ {A = ℕ × List ℕ} (m, rest) (slice_index p k, drop (k + 1) p)
  front_byte k m rest e =
      let first : slice_index p k ≡ m = ap (λ (n : ℕ). get_or p n 0) (omega arith) ∙ sym (get_or-drop k p 0 0) ∙ ap (λ (xs : List ℕ). get_or xs 0 0) e in
      let behind : drop (k + 1) p ≡ rest = sym (drop-drop 1 k p) ∙ ap (drop 1) e in
      λ i. (sym first i, sym behind i)

  no_byte : (k : ℕ) → drop k p ≡ [] → slice_index p k ≡ 0
  no_byte k e = ap (λ (n : ℕ). get_or p n 0) (omega arith) ∙ sym (get_or-drop k p 0 0) ∙ ap (λ (xs : List ℕ). get_or xs 0 0) e

  ends_at : (k : ℕ) → k ≤ size → drop k p ≡ [] → size - 0 ≡ k
  ends_at k within e = let len : length (drop k p) ≡ 0 = ap length e in omega (arith, len, length-drop k p)

  in_front : (k m : ℕ) (rest : List ℕ) → drop k p ≡ m ∷ rest → k + 1 ≤ size
  in_front k m rest e = let len : length (drop k p) ≡ suc (length rest) = ap length e in omega (arith, len, length-drop k p)

  kind_told : {B : Type 0} (k : ℕ) (f : Kind × List ℕ → Result B ℕ) (later : Option ℕ) → k ≤ size → (k + 1 ≤ size → told size (f (kind_of (slice_index p k), drop (k + 1) p)) ≡ later)
      → told size (kind_at (drop k p) >>= f) ≡ unless (is_kind_byte (slice_index p k)) k later
  kind_told k f later within next = by (drop k p) refl
    where
      by : (bytes : List ℕ) → drop k p ≡ bytes → told size (kind_at bytes >>= f) ≡ unless (is_kind_byte (slice_index p k)) k later
      by [] e = ap (λ (n : ℕ). Some n) (ends_at k within e) ∙ ap (λ (n : ℕ). unless (is_kind_byte n) k later) (sym (no_byte k e))
      by (m ∷ rest) e =
          let n = slice_index p k in
          ap (λ (x : ℕ × List ℕ). told size (kind_at (x.0 ∷ x.1) >>= f)) (front_byte k m rest e)
          ∙ guard_told (is_kind_byte n) (Ok (kind_of n, drop (k + 1) p)) (suc (length (drop (k + 1) p))) k f later (let long = in_front k m rest e in omega (arith, length-drop (k + 1) p)) (λ is. next (in_front k m rest e))

  name_told : {B : Type 0} (k : ℕ) (f : List ℕ × List ℕ → Result B ℕ) (later : Option ℕ) → k ≤ size
      → (k + 1 + slice_index p k ≤ size → told size (f (take (slice_index p k) (drop (k + 1) p), drop (k + 1 + slice_index p k) p)) ≡ later)
      → told size (name_at (drop k p) >>= f)
      ≡ unless (is_name_size (slice_index p k)) k (unless (has p (k + 1 + slice_index p k) && is_user_name (take (slice_index p k) (drop (k + 1) p))) (k + 1) later)
  name_told k f later within next = by (drop k p) refl
    where
      behind_it : k + 1 ≤ size → told size (name_of (slice_index p k) (drop (k + 1) p) >>= f) ≡ unless (has p (k + 1 + slice_index p k) && is_user_name (take (slice_index p k) (drop (k + 1) p))) (k + 1) later
      behind_it long =
          let n = slice_index p k in
          let rest = drop (k + 1) p in
          let there = has_behind (k + 1) n long in
          guard_told (nat_le n (length rest) && is_user_name (take n rest)) (Ok (take n rest, drop n rest)) (length rest) (k + 1) f later (left_at (k + 1) long)
          (λ is. ap (λ (more : List ℕ). told size (f (take n rest, more))) (drop-drop n (k + 1) p) ∙ next (has_from (k + 1 + n) (sym there ∙ (and_parts (nat_le n (length rest)) (is_user_name (take n rest)) is).0)))
          ∙ ap (λ (b : Bool). unless (b && is_user_name (take n rest)) (k + 1) later) there

      by : (bytes : List ℕ) → drop k p ≡ bytes → told size (name_at bytes >>= f) ≡ unless (is_name_size (slice_index p k)) k (unless (has p (k + 1 + slice_index p k) && is_user_name (take (slice_index p k) (drop (k + 1) p))) (k + 1) later)
      by [] e =
          ap (λ (n : ℕ). Some n) (ends_at k within e)
          ∙ ap (λ (b : Bool). unless b k (unless (has p (k + 1 + slice_index p k) && is_user_name (take (slice_index p k) (drop (k + 1) p))) (k + 1) later)) (ap is_name_size (sym (no_byte k e)))
      by (m ∷ rest) e =
          let n = slice_index p k in
          let long = in_front k m rest e in
          ap (λ (x : ℕ × List ℕ). told size (name_at (x.0 ∷ x.1) >>= f)) (front_byte k m rest e)
          ∙ guard_told (is_name_size n) (name_of n (drop (k + 1) p)) (suc (length (drop (k + 1) p))) k f _ (omega (arith, long, length-drop (k + 1) p)) (λ is. behind_it long)

  body_told : {B : Type 0} (kind : Kind) (k : ℕ) (f : List ℕ × List ℕ → Result B ℕ) (later : Option ℕ) → k ≤ size → (n : ℕ) → n ≡ from_be_bytes w32 (take 4 (drop k p))
      → (k + 4 + n ≤ size → told size (f (take n (drop (k + 4) p), drop (k + 4 + n) p)) ≡ later)
      → told size (body_at kind (drop k p) >>= f) ≡ unless (has p (k + 4) && is_body_size n) k (unless (has p (k + 4 + n) && is_body kind (take n (drop (k + 4) p))) (k + 4) later)
  unfolding body_at
  body_told kind k f later within n is next =
      ap (told size) (regrouped (number_at w32 (drop k p)) sized f)
      ∙ number_told w32 k (λ x. sized x >>= f) (unless (is_body_size n) k (unless (has p (k + 4 + n) && is_body kind (take n (drop (k + 4) p))) (k + 4) later)) within
      (λ long. ap (λ (m : ℕ). told size (sized (m, drop (k + 4) p) >>= f)) (sym is) ∙ guard_told (is_body_size n) (body_of kind n (drop (k + 4) p)) (length (drop k p)) k f _ (left_at k within) (λ fits. behind_it long))
      ∙ both_unless (has p (k + 4)) (is_body_size n) k _
    where
      sized : ℕ × List ℕ → Result (List ℕ × List ℕ) ℕ
      sized x = cond (is_body_size x.0) (body_of kind x.0 x.1) (Err (length (drop k p)))

      behind_it : k + 4 ≤ size → told size (body_of kind n (drop (k + 4) p) >>= f) ≡ unless (has p (k + 4 + n) && is_body kind (take n (drop (k + 4) p))) (k + 4) later
      behind_it long =
          let rest = drop (k + 4) p in
          let there = has_behind (k + 4) n long in
          guard_told (nat_le n (length rest) && is_body kind (take n rest)) (Ok (take n rest, drop n rest)) (length rest) (k + 4) f later (left_at (k + 4) long)
          (λ is. ap (λ (more : List ℕ). told size (f (take n rest, more))) (drop-drop n (k + 4) p) ∙ next (has_from (k + 4 + n) (sym there ∙ (and_parts (nat_le n (length rest)) (is_body kind (take n rest)) is).0)))
          ∙ ap (λ (b : Bool). unless (b && is_body kind (take n rest)) (k + 4) later) there

  end_told : (h : Head) (kind : Kind) (body : List ℕ) (k : ℕ) → k ≤ size → told size (whole_entry h ((kind, body), drop k p)) ≡ unless (size == k) k None
  end_told h kind body k within = by (length (drop k p) == 0) refl
    where
      ends : (length (drop k p) == 0) ≡ (size == k)
      ends = let len = length-drop k p in grind (arith, nat_tests)

      by : (b : Bool) → (length (drop k p) == 0) ≡ b → told size (cond b (Ok (entry_from h (kind, body))) (Err (length (drop k p)))) ≡ unless (size == k) k None
      by true is = ap (λ (b : Bool). unless b k None) (sym is ∙ ends)
      by false is = ap (λ (n : ℕ). Some n) (left_at k within) ∙ ap (λ (b : Bool). unless b k None) (sym is ∙ ends)

  -- ---- the steps one behind another

  abbrev behind_body : Kind → List ℕ × List ℕ → Result ((Kind × List ℕ) × List ℕ) ℕ
  behind_body kind b = Ok ((kind, b.0), b.1)

  abbrev behind_kind : Kind × List ℕ → Result ((Kind × List ℕ) × List ℕ) ℕ
  behind_kind k = body_at k.0 k.1 >>= behind_body k.0

  tail_told : (h : Head) → kind_begin p ≤ size → told size (tail_at (drop (kind_begin p) p) >>= whole_entry h) ≡ bad_body p
  unfolding tail_at
  tail_told h within =
      let kind = kind_in p in
      ap (told size) (regrouped (kind_at (drop (kind_begin p) p)) behind_kind (whole_entry h))
      ∙ kind_told (kind_begin p) (λ k. behind_kind k >>= whole_entry h) _ within (λ one.
      ap (told size) (regrouped (body_at kind (drop (size_begin p) p)) (behind_body kind) (whole_entry h))
      ∙ body_told kind (size_begin p) (λ b. behind_body kind b >>= whole_entry h) _ one (body_size p) refl (λ all. end_told h kind (body_in p) (body_end p) all))

  abbrev behind_seq : ℕ → Moment → List ℕ → ℕ × List ℕ → Result (Head × List ℕ) ℕ
  behind_seq n m a s = Ok (record { number = n; moment = m; author = a; seq = s.0 }, s.1)

  abbrev behind_name : ℕ → Moment → List ℕ × List ℕ → Result (Head × List ℕ) ℕ
  behind_name n m a = number_at w64 a.1 >>= behind_seq n m a.0

  abbrev behind_moment : ℕ → ℕ × List ℕ → Result (Head × List ℕ) ℕ
  behind_moment n m = name_at m.1 >>= behind_name n (moment_of m.0)

  abbrev behind_number : ℕ × List ℕ → Result (Head × List ℕ) ℕ
  behind_number n = number_at w64 n.1 >>= behind_moment n.0

  abbrev behind_head : Head × List ℕ → Result Entry ℕ
  behind_head h = tail_at h.1 >>= whole_entry h.0

  -- what reading refuses is the first field that can't stand there
  pub bad_is : told size (entry_in p) ≡ bad_field p
  unfolding entry_in head_at
  bad_is =
      let n = from_be_bytes w64 (take 8 p) in
      let m = from_be_bytes w64 (take 8 (drop 8 p)) in
      let a = author_in p in
      let s = from_be_bytes w64 (take 8 (drop (seq_begin p) p)) in
      let h : Head = record { number = n; moment = moment_of m; author = a; seq = s } in
      ap (told size) (regrouped (number_at w64 p) behind_number behind_head)
      ∙ number_told w64 0 (λ x. behind_number x >>= behind_head) _ (omega arith) (λ eight.
      ap (told size) (regrouped (number_at w64 (drop 8 p)) (behind_moment n) behind_head)
      ∙ number_told w64 8 (λ x. behind_moment n x >>= behind_head) _ eight (λ sixteen.
      ap (told size) (regrouped (name_at (drop 16 p)) (behind_name n (moment_of m)) behind_head)
      ∙ name_told 16 (λ x. behind_name n (moment_of m) x >>= behind_head) _ sixteen (λ named.
      ap (told size) (regrouped (number_at w64 (drop (seq_begin p) p)) (behind_seq n (moment_of m) a) behind_head)
      ∙ number_told w64 (seq_begin p) (λ x. behind_seq n (moment_of m) a x >>= behind_head) _ named (λ numbered. tail_told h numbered))))

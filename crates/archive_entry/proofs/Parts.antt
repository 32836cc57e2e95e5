-- A name, a kind and a body that are read are those that were written, and what was written is read again.
use Rattle.std.proofs.Common.{◌≡◌, ◌==◌, ◌||◌, ◌&&◌, ℕ, suc, ◌^◌, ◌≤◌, Bool, true, false, cond, List, [], ◌∷◌, ◌++◌, length, take, drop, Ok, Err, refl, sym, ap, subst, ◌∙◌, append_assoc, arith}
use Rattle.std.specs.Prelude.{nat_le, if◌then◌else◌}
use Rattle.std.specs.Int.{w32, to_be_bytes}
use Rattle.std.proofs.lemmas.Bool.{and_parts, eqb-true}
use Rattle.std.proofs.lemmas.List.{take_at, drop_at, length-append}
use Rattle.epochs.specs.Fields.{is_user_name}
use Rattle.mseed_header.specs.Octets.{AreOctets}
use Rattle.archive_entry.specs.Bodies.{is_body}
use Rattle.archive_entry.specs.Format.{is_name_size, is_kind_byte, is_body_size}
use Rattle.archive_entry.specs.Reading.{number_at, name_of, name_at, kind_of, kind_at, body_of, body_at}
use Rattle.archive_entry.specs.Spelling.{name, kind_byte, sized, most_bytes}
use Rattle.archive_entry.specs.declared.entry.Kind.{Kind}
use Rattle.archive_entry.specs.declared.entry.Kind.TheVariants.{Batch, Revise}
use Rattle.archive_entry.proofs.Names.{name_length}
use Rattle.archive_entry.proofs.Numbers.{bind_ok, ok_is, guard_ok, le_from, le_to, Takes, Takes-then, cut_takes, wide32, number_takes, number_again}

octets_rest : (b : ℕ) (bytes : List ℕ) → AreOctets (b ∷ bytes) → AreOctets bytes
octets_rest b bytes h i = h (suc i)

-- ---- a name

pub name_takes : (bytes text rest : List ℕ) → AreOctets bytes → name_at bytes ≡ Ok (text, rest) → Takes bytes (name text) rest × (is_user_name text ≡ true)
name_takes [] text rest octets e = absurd cc
name_takes (n ∷ bytes) text rest octets e =
    let a = guard_ok (is_name_size n) (suc (length bytes)) (name_of n bytes) (text, rest) e in
    let b = guard_ok (nat_le n (length bytes) && is_user_name (take n bytes)) (length bytes) (Ok (take n bytes, drop n bytes)) (text, rest) a.1 in
    let pair = ok_is (take n bytes, drop n bytes) (text, rest) b.1 in
    let tests = and_parts (nat_le n (length bytes)) (is_user_name (take n bytes)) b.0 in
    let cut = cut_takes n bytes text rest (octets_rest n bytes octets) (le_from _ _ tests.0) pair in (
      record { parts = ap (λ (xs : List ℕ). n ∷ xs) cut.0.parts ∙ ap (λ (k : ℕ). k ∷ (text ++ rest)) (sym cut.1); octets = cut.0.octets },
      ap is_user_name (sym (ap (λ (p : List ℕ × List ℕ). p.0) pair)) ∙ tests.1,
    )

pub name_again : (text rest : List ℕ) → is_user_name text ≡ true → name_at (name text ++ rest) ≡ Ok (text, rest)
name_again text rest is =
    let len = name_length text is in
    let low : nat_le 1 (length text) ≡ true = le_to _ _ len.0 in
    let high : nat_le (length text) 32 ≡ true = le_to _ _ len.1 in
    let long : nat_le (length text) (length (text ++ rest)) ≡ true = le_to _ _ (omega (arith, length-append text rest)) in
    rw (low, high, long, take_at text rest (length text) refl, drop_at text rest (length text) refl, is) refl

-- ---- a kind

kind_back : (k : ℕ) → is_kind_byte k ≡ true → k ≡ kind_byte (kind_of k)
kind_back k h = by (k == 1) refl (k == 2) refl h
  where
    by : (one : Bool) → k == 1 ≡ one → (two : Bool) → k == 2 ≡ two → (one || two) ≡ true → k ≡ kind_byte (if one then Batch else Revise)
    by true is two also h = eqb-true k 1 is
    by false is true also h = eqb-true k 2 also
    by false is false also h = absurd cc

pub kind_takes : (bytes : List ℕ) (kind : Kind) (rest : List ℕ) → AreOctets bytes → kind_at bytes ≡ Ok (kind, rest) → Takes bytes (kind_byte kind ∷ []) rest
kind_takes [] kind rest octets e = absurd cc
kind_takes (k ∷ bytes) kind rest octets e =
    let a = guard_ok (is_kind_byte k) (suc (length bytes)) (Ok (kind_of k, bytes)) (kind, rest) e in
    let pair = ok_is (kind_of k, bytes) (kind, rest) a.1 in
    subst (λ (p : Kind × List ℕ). Takes (k ∷ bytes) (kind_byte p.0 ∷ []) p.1) pair
    (record { parts = ap (λ (n : ℕ). n ∷ bytes) (kind_back k a.0); octets = octets_rest k bytes octets })

pub kind_again : (kind : Kind) (rest : List ℕ) → kind_at (kind_byte kind ∷ rest) ≡ Ok (kind, rest)
kind_again Batch rest = refl
kind_again Revise rest = refl

-- ---- a body

pub record IsBody (kind : Kind) (body : List ℕ) : Type 0 where
  pub some : 1 ≤ length body
  pub within : length body ≤ most_bytes
  pub reads : is_body kind body ≡ true

pub body_takes : (kind : Kind) (bytes body rest : List ℕ) → AreOctets bytes → body_at kind bytes ≡ Ok (body, rest) → Takes bytes (sized body) rest × IsBody kind body
unfolding body_at
body_takes kind bytes body rest octets e =
    let a = bind_ok (number_at w32 bytes) (λ n. cond (is_body_size n.0) (body_of kind n.0 n.1) (Err (length bytes))) (body, rest) e in
    let n = a.0.0 in
    let more = a.0.1 in
    let b = guard_ok (is_body_size n) (length bytes) (body_of kind n more) (body, rest) a.2 in
    let c = guard_ok (nat_le n (length more) && is_body kind (take n more)) (length more) (Ok (take n more, drop n more)) (body, rest) b.1 in
    let pair = ok_is (take n more, drop n more) (body, rest) c.1 in
    let head = number_takes w32 (2 ^ 32) wide32 bytes n more octets a.1 in
    let tests = and_parts (nat_le n (length more)) (is_body kind (take n more)) c.0 in
    let sizes = and_parts (nat_le 1 n) (nat_le n most_bytes) b.0 in
    let cut = cut_takes n more body rest head.0.octets (le_from _ _ tests.0) pair in
    let whole = Takes-then bytes (to_be_bytes w32 n) more body rest head.0 cut.0 in
    let low : 1 ≤ n = le_from _ _ sizes.0 in
    let high : n ≤ most_bytes = le_from _ _ sizes.1 in (
      subst (λ (k : ℕ). Takes bytes (to_be_bytes w32 k ++ body) rest) (sym cut.1) whole,
      record {
        some = omega (arith, cut.1, low);
        within = omega (arith, cut.1, high);
        reads = ap (is_body kind) (sym (ap (λ (p : List ℕ × List ℕ). p.0) pair)) ∙ tests.1;
      },
    )

pub body_again : (kind : Kind) (body rest : List ℕ) → IsBody kind body → body_at kind (sized body ++ rest) ≡ Ok (body, rest)
unfolding body_at
body_again kind body rest is =
    let regrouped : sized body ++ rest ≡ to_be_bytes w32 (length body) ++ (body ++ rest) = append_assoc (to_be_bytes w32 (length body)) body rest in
    let within = is.within in
    let low : nat_le 1 (length body) ≡ true = le_to _ _ is.some in
    let high : nat_le (length body) most_bytes ≡ true = le_to _ _ is.within in
    let long : nat_le (length body) (length (body ++ rest)) ≡ true = le_to _ _ (omega (arith, length-append body rest)) in
    ap (body_at kind) regrouped ∙ rw (number_again w32 (2 ^ 32) wide32 (length body) (body ++ rest) (omega (arith, within)), low, high, long, take_at body rest (length body) refl, drop_at body rest (length body) refl, is.reads) refl

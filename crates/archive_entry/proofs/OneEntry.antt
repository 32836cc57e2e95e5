-- An entry that is read is the one that was written, and what was written is read again.
use Rattle.std.proofs.Common.{◌≡◌, ◌==◌, ℕ, ◌^◌, ◌<◌, true, List, [], ◌∷◌, ◌++◌, length, Result, Ok, refl, sym, ap, subst, ◌∙◌, append_assoc}
use Rattle.std.specs.Int.{w64, to_be_bytes, cast_signed, cast_unsigned}
use Rattle.std.specs.Int.RustNames.{FitsSigned}
use mir.Facts.{sfits_to_z, Fits-of_z}
use Rattle.std.proofs.lemmas.Bool.{eqb-true}
use Rattle.std.proofs.lemmas.List.{nil_from_length, append-nil}
use Rattle.std.proofs.lemmas.Int.{of_z-to_z, to_z-of_z}
use Rattle.epochs.specs.Fields.{is_user_name}
use Rattle.mseed_header.specs.Octets.{AreOctets}
use Rattle.archive_entry.specs.Reading.{◌>>=◌, number_at, moment_of, name_at, kind_at, body_at, Head, head_at, tail_at, entry_from, whole_entry, entry_in}
use Rattle.archive_entry.specs.Spelling.{number, micros, name, kind_byte, sized, spelling, IsEntry, Spells}
use Rattle.archive_entry.specs.declared.entry.Entry.{Entry}
use Rattle.archive_entry.specs.declared.entry.Kind.{Kind}
use Rattle.archive_entry.proofs.Numbers.{bind_ok, ok_is, guard_ok, Takes, Takes-then, wide64, number_takes, number_again}
use Rattle.archive_entry.proofs.Parts.{name_takes, name_again, kind_takes, kind_again, IsBody, body_takes, body_again}

-- ---- the fields before the kind

abbrev head_text : Head → List ℕ
head_text h = number h.number ++ micros h.moment.micros ++ name h.author ++ number h.seq

record IsHead (h : Head) : Type 0 where
  number : h.number < 2 ^ 64
  moment : FitsSigned w64 h.moment.micros
  author : is_user_name h.author ≡ true
  seq : h.seq < 2 ^ 64

moment_back : (n : ℕ) → n < 2 ^ 64 → cast_unsigned w64 (cast_signed w64 n) ≡ n
moment_back n h = of_z-to_z w64 n h

moment_fits : (n : ℕ) → n < 2 ^ 64 → FitsSigned w64 (cast_signed w64 n)
moment_fits n h = sfits_to_z {w = w64} (record { fits = h })

head_takes : (bytes : List ℕ) (x : Head × List ℕ) → AreOctets bytes → head_at bytes ≡ Ok x → Takes bytes (head_text x.0) x.1 × IsHead x.0
unfolding head_at
head_takes bytes x octets e =
    let a = bind_ok (number_at w64 bytes) (λ n. number_at w64 n.1 >>= λ m. name_at m.1 >>= λ a. number_at w64 a.1 >>= λ s. Ok (record { number = n.0; moment = moment_of m.0; author = a.0; seq = s.0 }, s.1)) x e in
    let b = bind_ok (number_at w64 a.0.1) (λ m. name_at m.1 >>= λ y. number_at w64 y.1 >>= λ s. Ok (record { number = a.0.0; moment = moment_of m.0; author = y.0; seq = s.0 }, s.1)) x a.2 in
    let c = bind_ok (name_at b.0.1) (λ y. number_at w64 y.1 >>= λ s. Ok (record { number = a.0.0; moment = moment_of b.0.0; author = y.0; seq = s.0 }, s.1)) x b.2 in
    let d = bind_ok (number_at w64 c.0.1) (λ s. Ok (record { number = a.0.0; moment = moment_of b.0.0; author = c.0.0; seq = s.0 }, s.1)) x c.2 in
    let t0 = number_takes w64 (2 ^ 64) wide64 bytes a.0.0 a.0.1 octets a.1 in
    let t1 = number_takes w64 (2 ^ 64) wide64 a.0.1 b.0.0 b.0.1 t0.0.octets b.1 in
    let t2 = name_takes b.0.1 c.0.0 c.0.1 t1.0.octets c.1 in
    let t3 = number_takes w64 (2 ^ 64) wide64 c.0.1 d.0.0 d.0.1 t2.0.octets d.1 in
    let bits : to_be_bytes w64 b.0.0 ≡ micros (cast_signed w64 b.0.0) = ap (to_be_bytes w64) (sym (moment_back b.0.0 t1.1)) in
    let t1' : Takes a.0.1 (micros (cast_signed w64 b.0.0)) b.0.1 = subst (λ (xs : List ℕ). Takes a.0.1 xs b.0.1) bits t1.0 in
    let e01 = Takes-then bytes (number a.0.0) a.0.1 (micros (cast_signed w64 b.0.0)) b.0.1 t0.0 t1' in
    let e02 = Takes-then bytes (number a.0.0 ++ micros (cast_signed w64 b.0.0)) b.0.1 (name c.0.0) c.0.1 e01 t2.0 in
    let e03 = Takes-then bytes (number a.0.0 ++ micros (cast_signed w64 b.0.0) ++ name c.0.0) c.0.1 (number d.0.0) d.0.1 e02 t3.0 in
    let made : Head × List ℕ = (record { number = a.0.0; moment = moment_of b.0.0; author = c.0.0; seq = d.0.0 }, d.0.1) in
    subst (λ (y : Head × List ℕ). Takes bytes (head_text y.0) y.1 × IsHead y.0) (ok_is made x d.2) (e03, record { number = t0.1; moment = moment_fits b.0.0 t1.1; author = t2.1; seq = t3.1 })

head_again : (h : Head) (rest : List ℕ) → IsHead h → head_at (number h.number ++ (micros h.moment.micros ++ (name h.author ++ (number h.seq ++ rest)))) ≡ Ok (h, rest)
unfolding head_at
head_again h rest is =
    let small = (Fits-of_z {w = w64} is.moment).fits in
    rw (
      number_again w64 (2 ^ 64) wide64 h.number (micros h.moment.micros ++ (name h.author ++ (number h.seq ++ rest))) is.number,
      number_again w64 (2 ^ 64) wide64 (cast_unsigned w64 h.moment.micros) (name h.author ++ (number h.seq ++ rest)) small,
      name_again h.author (number h.seq ++ rest) is.author,
      number_again w64 (2 ^ 64) wide64 h.seq rest is.seq,
      to_z-of_z w64 h.moment.micros is.moment,
    ) refl

-- ---- the fields from the kind on

abbrev tail_text : Kind → List ℕ → List ℕ
tail_text kind body = kind_byte kind ∷ sized body

tail_takes : (bytes : List ℕ) (x : (Kind × List ℕ) × List ℕ) → AreOctets bytes → tail_at bytes ≡ Ok x → Takes bytes (tail_text x.0.0 x.0.1) x.1 × IsBody x.0.0 x.0.1
unfolding tail_at
tail_takes bytes x octets e =
    let a = bind_ok (kind_at bytes) (λ k. body_at k.0 k.1 >>= λ b. Ok ((k.0, b.0), b.1)) x e in
    let b = bind_ok (body_at a.0.0 a.0.1) (λ b. Ok ((a.0.0, b.0), b.1)) x a.2 in
    let t0 = kind_takes bytes a.0.0 a.0.1 octets a.1 in
    let t1 = body_takes a.0.0 a.0.1 b.0.0 b.0.1 t0.octets b.1 in
    let made : (Kind × List ℕ) × List ℕ = ((a.0.0, b.0.0), b.0.1) in
    subst (λ (y : (Kind × List ℕ) × List ℕ). Takes bytes (tail_text y.0.0 y.0.1) y.1 × IsBody y.0.0 y.0.1) (ok_is made x b.2)
    (Takes-then bytes (kind_byte a.0.0 ∷ []) a.0.1 (sized b.0.0) b.0.1 t0 t1.0, t1.1)

tail_again : (kind : Kind) (body rest : List ℕ) → IsBody kind body → tail_at (kind_byte kind ∷ (sized body ++ rest)) ≡ Ok ((kind, body), rest)
unfolding tail_at
tail_again kind body rest is = rw (kind_again kind (sized body ++ rest), body_again kind body rest is) refl

-- ---- the whole

abbrev head_of : Entry → Head
head_of e = record { number = e.number; moment = e.moment; author = e.author; seq = e.seq }

head_is : (e : Entry) → IsEntry e → IsHead (head_of e)
head_is e is = record { number = is.number; moment = is.moment; author = is.author; seq = is.seq }

body_is : (e : Entry) → IsEntry e → IsBody e.kind e.body
body_is e is = record { some = is.some; within = is.within; reads = is.reads }

-- the text of an entry before others, in pieces
in_pieces : (e : Entry) (rest : List ℕ) → spelling e ++ rest ≡ number e.number ++ (micros e.moment.micros ++ (name e.author ++ (number e.seq ++ (kind_byte e.kind ∷ (sized e.body ++ rest)))))
in_pieces e rest =
    let a = number e.number in
    let b = micros e.moment.micros in
    let c = name e.author in
    let d = number e.seq in
    let t = kind_byte e.kind ∷ sized e.body in
    append_assoc (a ++ b ++ c ++ d) t rest ∙ append_assoc (a ++ b ++ c) d (t ++ rest) ∙ append_assoc (a ++ b) c (d ++ (t ++ rest)) ∙ append_assoc a b (c ++ (d ++ (t ++ rest)))

-- reading of the front
abbrev front_of : List ℕ → Result ((Head × (Kind × List ℕ)) × List ℕ) ℕ
front_of bytes = head_at bytes >>= λ h. tail_at h.1 >>= λ t. Ok ((h.0, t.0), t.1)

pub front_again : (e : Entry) (rest : List ℕ) → IsEntry e → front_of (spelling e ++ rest) ≡ Ok ((head_of e, (e.kind, e.body)), rest)
front_again e rest is =
    ap front_of (in_pieces e rest)
    ∙ ap (λ (r : Result (Head × List ℕ) ℕ). r >>= λ h. tail_at h.1 >>= λ t. Ok ((h.0, t.0), t.1)) (head_again (head_of e) (kind_byte e.kind ∷ (sized e.body ++ rest)) (head_is e is))
    ∙ ap (λ (r : Result ((Kind × List ℕ) × List ℕ) ℕ). r >>= λ t. Ok ((head_of e, t.0), t.1)) (tail_again e.kind e.body rest (body_is e is))

pub one_spelling : (e d : Entry) (rest : List ℕ) → IsEntry e → IsEntry d → spelling e ++ rest ≡ spelling d → e ≡ d
one_spelling e d rest is also same =
    let read = sym (front_again e rest is) ∙ ap front_of (same ∙ sym (append-nil (spelling d))) ∙ front_again d [] also in
    ap (λ (x : (Head × (Kind × List ℕ)) × List ℕ). entry_from x.0.0 x.0.1) (ok_is ((head_of e, (e.kind, e.body)), rest) ((head_of d, (d.kind, d.body)), []) read)

pub entry_again : (e : Entry) → IsEntry e → entry_in (spelling e) ≡ Ok e
unfolding entry_in
entry_again e is =
    ap entry_in (sym (append-nil (spelling e)) ∙ in_pieces e [])
    ∙ ap (λ (r : Result (Head × List ℕ) ℕ). r >>= λ h. tail_at h.1 >>= λ t. whole_entry h.0 t) (head_again (head_of e) (kind_byte e.kind ∷ (sized e.body ++ [])) (head_is e is))
    ∙ ap (λ (r : Result ((Kind × List ℕ) × List ℕ) ℕ). r >>= λ t. whole_entry (head_of e) t) (tail_again e.kind e.body [] (body_is e is))

pub entry_takes : (payload : List ℕ) (e : Entry) → AreOctets payload → entry_in payload ≡ Ok e → Spells payload e
unfolding entry_in
entry_takes payload e octets read =
    let a = bind_ok (head_at payload) (λ h. tail_at h.1 >>= λ t. whole_entry h.0 t) e read in
    let b = bind_ok (tail_at a.0.1) (λ t. whole_entry a.0.0 t) e a.2 in
    let g = guard_ok (length b.0.1 == 0) (length b.0.1) (Ok (entry_from a.0.0 b.0.0)) e b.2 in
    let head = head_takes payload a.0 octets a.1 in
    let tail = tail_takes a.0.1 b.0 head.0.octets b.1 in
    let h = a.0.0 in
    let kind = b.0.0.0 in
    let body = b.0.0.1 in
    let nothing : b.0.1 ≡ [] = nil_from_length b.0.1 (eqb-true _ _ g.0) in
    let made = entry_from h b.0.0 in
    let all : payload ≡ head_text h ++ tail_text kind body =
    head.0.parts ∙ ap (λ (xs : List ℕ). head_text h ++ xs) (tail.0.parts ∙ ap (λ (xs : List ℕ). tail_text kind body ++ xs) nothing ∙ append-nil (tail_text kind body)) in
    let whole : payload ≡ spelling made =
    all in
    subst (Spells payload) (ok_is made e g.1)
    (record { is_entry = record { number = head.1.number; moment = head.1.moment; author = head.1.author; seq = head.1.seq; some = tail.1.some; within = tail.1.within; reads = tail.1.reads }; bytes = whole })

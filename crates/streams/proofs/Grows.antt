-- What was taken or written by one call and then by another.
use Rattle.std.proofs.Common.{◌≡◌, ℕ, ◌+◌, ◌-◌, ◌≤◌, List, ◌++◌, length, take, drop, sym, ◌∙◌, ap, arith, None, Some, Ok, Err, Result, IsErr, true≢false, append_assoc, length-drop, take-add, subst}
use Rattle.std.specs.Io.KnownBytes.{Consumes}
use Rattle.std.specs.declared.option.Option.{Option}
use Rattle.std.proofs.Math.Seq.{take-length}
use Rattle.std.proofs.lemmas.Grind.{common_steps}
use Rattle.std.proofs.lemmas.List.{take-append-drop}
use Rattle.streams.specs.Effects.{Grew, HasPut, Puts, PutsAll}
use Rattle.streams.specs.View.{StreamView}

pub Consumes-then : (a b c : Option (List ℕ)) (p q : List ℕ) → Consumes a b p → Consumes b c q → Consumes a c (p ++ q)
Consumes-then None b c p q h k = tt
Consumes-then (Some xs) None c p q h k = absurd h
Consumes-then (Some xs) (Some ys) None p q h k = absurd k
Consumes-then (Some xs) (Some ys) (Some zs) p q h k = h ∙ ap (λ (s : List ℕ). p ++ s) k ∙ sym (append_assoc p q zs)

pub Grew-then : (a b c : Option (List ℕ)) (p q : List ℕ) → Grew a b p → Grew b c q → Grew a c (p ++ q)
Grew-then a b None p q h k = tt
Grew-then a None (Some zs) p q h k = absurd k
Grew-then None (Some ys) (Some zs) p q h k = absurd h
Grew-then (Some xs) (Some ys) (Some zs) p q h k = k ∙ ap (λ (s : List ℕ). s ++ q) h ∙ append_assoc xs p q

-- the bytes from i on, as they are sliced
pub slice_to_end : (bytes : List ℕ) (i : ℕ) → take (length bytes - i) (drop i bytes) ≡ drop i bytes
slice_to_end bytes i = grind (arith, common_steps, length-drop i bytes, take-length (drop i bytes))

-- the bytes up to i, and n more
pub Grew-more : (a b c : Option (List ℕ)) (bytes : List ℕ) (i n : ℕ) → i + n ≤ length bytes → Grew a b (take i bytes)
    → Grew b c (take n (take (length bytes - i) (drop i bytes))) → Grew a c (take (i + n) bytes)
Grew-more a b c bytes i n le h k =
    let joined : take i bytes ++ take n (take (length bytes - i) (drop i bytes)) ≡ take (i + n) bytes = rw slice_to_end (sym (take-add i n bytes)) in
    let P : List ℕ → Type 0 = λ s. Grew a c s in
    subst P joined (Grew-then a b c _ _ h k)

-- a piece is no longer than what is left
pub within_rest : (bytes : List ℕ) (i n : ℕ) → i ≤ length bytes → n ≤ length (take (length bytes - i) (drop i bytes)) → i + n ≤ length bytes
within_rest bytes i n le h =
    let e : length (take (length bytes - i) (drop i bytes)) ≡ length bytes - i = ap length (slice_to_end bytes i) ∙ length-drop i bytes in
    omega arith

-- i bytes were written, and a put takes n more of the rest
pub put_more : (a b c : StreamView) (bytes : List ℕ) (i n : ℕ) → i ≤ length bytes → HasPut a b (take i bytes)
    → {E : Type 0} → Puts {E = E} b c (Ok n) (take (length bytes - i) (drop i bytes)) → (i + n ≤ length bytes) × HasPut a c (take (i + n) bytes)
put_more a b c bytes i n le h p =
    let fits = within_rest bytes i n le p.bound in (
      fits,
      record {
        output = Grew-more a.written b.written c.written bytes i n fits h.output p.bytes;
        kept = p.kept ∙ h.kept;
        later = omega (arith, h.later, p.cause.later);
      },
    )

-- i bytes were written, and a put failed
pub put_no_more : {T E F : Type 0} (a b c : StreamView) (bytes : List ℕ) (i : ℕ) (result : Result T F) → IsErr result → HasPut a b (take i bytes)
    → {piece : List ℕ} {error : E} → Puts b c (Err error) piece → PutsAll a c result bytes
put_no_more a b c bytes i (Ok x) is h p = absurd (true≢false (sym is))
put_no_more a b c bytes i (Err e) is h p = record {
  ok = tt;
  part = record {
    part = take i bytes;
    rest = drop i bytes;
    split = sym (take-append-drop i bytes);
    output = (let P : Option (List ℕ) → Type 0 = λ o. Grew a.written o (take i bytes) in subst P (sym p.bytes) h.output);
  };
  kept = p.kept ∙ h.kept;
  cause = record { later = omega (arith, h.later, p.cause.later); failed = omega (arith, h.later, p.cause.failed) };
}

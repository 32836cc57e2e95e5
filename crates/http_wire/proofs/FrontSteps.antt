-- Blank bytes let go, piece after piece, and the front that then stands in what is held.
use Rattle.std.proofs.Common.{◌≡◌, ℕ, ◌+◌, ◌-◌, ◌<◌, ◌≤◌, Bool, true, false, List, [], ◌∷◌, ◌++◌, length, take, drop, refl, sym, ◌∙◌, ap, subst, arith, suc, zero, append_assoc, length-append, if◌then◌else◌}
use Rattle.std.specs.declared.option.Option.{Option}
use Rattle.std.specs.List.{list_all}
use Rattle.std.specs.Prelude.{◌&&◌, ◌==◌}
use Rattle.std.specs.Io.KnownBytes.{IsAtEnd}
use Rattle.std.proofs.lemmas.Bool.{false≢true}
use Rattle.std.proofs.lemmas.List.{drop_at, take-take, take_all, length-take-le, take-append-drop}
use Rattle.http_wire.specs.Blocks.{EndsBlock, NoBlock, IsBlock}
use Rattle.http_wire.specs.Fronts.{is_blank_byte, begins_blank, FrontStops}
use Rattle.http_wire.specs.Taking.{TookMore, Moved, StopsAs, skip_blank, LetGo, Skipped, FrontRead, front_size}
use Rattle.http_wire.specs.declared.block.BlockEnd.{BlockEnd}
use Rattle.http_wire.specs.declared.block.BlockEnd.TheVariants.{Block, Long, Ended}
use Rattle.streams.proofs.Grows.{Consumes-then}

skip_starts_at : (b : ℕ) (bs : List ℕ) (t : Bool) → is_blank_byte b ≡ t → begins_blank (skip_blank bs) ≡ false → begins_blank (if is_blank_byte b then skip_blank bs else b ∷ bs) ≡ false
skip_starts_at b bs true e ih = rw e ih
skip_starts_at b bs false e ih = rw e e

pub skip_starts : (text : List ℕ) → begins_blank (skip_blank text) ≡ false
skip_starts [] = refl
skip_starts (b ∷ bs) = skip_starts_at b bs (is_blank_byte b) refl (skip_starts bs)

abbrev Splits : List ℕ → List ℕ → Type 0
Splits text rest = (blanks : List ℕ) × (text ≡ blanks ++ rest) × (list_all is_blank_byte blanks ≡ true)

skip_split_at : (b : ℕ) (bs : List ℕ) (t : Bool) → is_blank_byte b ≡ t → Splits bs (skip_blank bs) → Splits (b ∷ bs) (if is_blank_byte b then skip_blank bs else b ∷ bs)
skip_split_at b bs true e (blanks, split, blank) = rw e (b ∷ blanks, ap (λ x. b ∷ x) split, rw e blank)
skip_split_at b bs false e ih = rw e ([], refl, refl)

pub skip_split : (text : List ℕ) → Splits text (skip_blank text)
skip_split [] = ([], refl, refl)
skip_split (b ∷ bs) = skip_split_at b bs (is_blank_byte b) refl (skip_split bs)

and_at : (x y z : Bool) → (x && y) ≡ true → (y ≡ true → z ≡ true) → (x && z) ≡ true
and_at true y z h k = k h
and_at false y z h k = h

pub list_all_append : (xs ys : List ℕ) → list_all is_blank_byte xs ≡ true → list_all is_blank_byte ys ≡ true → list_all is_blank_byte (xs ++ ys) ≡ true
list_all_append [] ys h k = k
list_all_append (x ∷ xs) ys h k = and_at (is_blank_byte x) (list_all is_blank_byte xs) (list_all is_blank_byte (xs ++ ys)) h (λ e. list_all_append xs ys e k)

pub moved_then : (a b c : Option (List ℕ)) (old mid new used more : List ℕ) → Moved a b old used mid → Moved b c mid more new → Moved a c old (used ++ more) new
moved_then a b c old mid new used more t u = record {
  taken = t.taken ++ u.taken;
  lost = Consumes-then a b c t.taken u.taken t.lost u.lost;
  split = sym (append_assoc old t.taken u.taken) ∙ ap (λ x. x ++ u.taken) t.split ∙ append_assoc used mid u.taken ∙ ap (λ x. used ++ x) u.split ∙ sym (append_assoc used more new);
}

pub let_go_then : (a b c : Option (List ℕ)) (old mid new : List ℕ) (n m : ℕ) → LetGo a b old n mid → LetGo b c mid m new → LetGo a c old (n + m) new
let_go_then a b c old mid new n m s t = record {
  blanks = s.blanks ++ t.blanks;
  count = omega (arith, length-append s.blanks t.blanks, s.count, t.count);
  moved = moved_then a b c old mid new s.blanks t.blanks s.moved t.moved;
  blank = list_all_append s.blanks t.blanks s.blank t.blank;
}

-- the blank bytes of what is held are let go
pub let_go : (a b : Option (List ℕ)) (old held : List ℕ) (n : ℕ) → TookMore a b old held → n ≡ length held - length (skip_blank held) → LetGo a b old n (drop n held) × (drop n held ≡ skip_blank held)
let_go a b old held n t e =
    let s = skip_split held in
    let count : length s.0 ≡ n = omega (arith, ap length s.1, length-append s.0 (skip_blank held), e) in
    let rest : drop n held ≡ skip_blank held = ap (drop n) s.1 ∙ drop_at s.0 (skip_blank held) n count in (
      record {
        blanks = s.0;
        count = count;
        moved = record { taken = t.taken; lost = t.lost; split = sym t.held ∙ s.1 ∙ ap (λ x. s.0 ++ x) (sym rest) };
        blank = s.2;
      },
      rest,
    )

pub no_block_take : (text : List ℕ) (n m : ℕ) → n ≤ m → NoBlock text n → NoBlock (take m text) n
no_block_take text n m le none k l ends = none k l (subst EndsBlock (take-take k m text (omega arith)) ends)

pub block_take : (text : List ℕ) (n : ℕ) → IsBlock text n → IsBlock (take n text) n
block_take text n b = record {
  within = (let e = length-take-le n text b.within in omega arith);
  ends = subst EndsBlock (sym (take-take n n text (omega arith))) b.ends;
  first = λ m lt ends. b.first m lt (subst EndsBlock (take-take m n text (omega arith)) ends);
}

drop_all : (text : List ℕ) → drop (length text) text ≡ []
drop_all [] = refl
drop_all (x ∷ xs) = drop_all xs

-- the front of what is held ends as the search for a block did
pub stops_as : (limit skipped : ℕ) (text : List ℕ) (kind : BlockEnd) → skipped < limit → StopsAs (limit - skipped) text kind
    → (front_size kind (length text) (limit - skipped) ≤ length text)
    × FrontStops limit skipped (take (front_size kind (length text) (limit - skipped)) text) (drop (front_size kind (length text) (limit - skipped)) text) kind
stops_as limit skipped text (Block n) lt (b, le) =
    let w = b.within in
    (w, (block_take text n b, sym (length-take-le n text w), omega arith))
stops_as limit skipped text Long lt (le, none) =
    let room = limit - skipped in
    let e = length-take-le room text le in
    let P : ℕ → Type 0 = λ n. NoBlock (take room text) n in
    (le, (e, subst P (sym e) (no_block_take text room room (omega arith) none)))
stops_as limit skipped text Ended lt (short, none) =
    let all = take_all (length text) text (omega arith) in
    let P : List ℕ → Type 0 = λ t. (skipped + length t < limit) × NoBlock t (length t) × (drop (length text) text ≡ []) in
    (omega arith, subst P (sym all) (omega arith, none, drop_all text))

pub starts_on : (held more : List ℕ) (n : ℕ) → 0 < length held → begins_blank held ≡ false → begins_blank (take n (held ++ more)) ≡ false
starts_on [] more n some e = absurd (omega arith)
starts_on (b ∷ bs) more zero some e = refl
starts_on (b ∷ bs) more (suc n) some e = e

pub skipped_now : (a b : Option (List ℕ)) (old held new : List ℕ) (n : ℕ) → TookMore a b old held → (held ≡ [] → IsAtEnd b)
    → n ≡ length held - length (skip_blank held) → new ≡ drop n held → Skipped 1 a b old n new
skipped_now a b old held new n t end e is =
    let both = let_go a b old held n t e in
    let P : List ℕ → Type 0 = λ x. LetGo a b old n x in
    record {
      gone = subst P (sym is) both.0;
      starts = ap begins_blank (is ∙ both.1) ∙ skip_starts held;
      ended = λ none lt. (let zero_n : n ≡ 0 = omega arith in end (ap (λ k. drop k held) (sym zero_n) ∙ sym is ∙ none));
    }

-- a piece more is let go
pub skip_on : (limit : ℕ) (a b c : Option (List ℕ)) (old mid new : List ℕ) (n m : ℕ) → LetGo a b old n mid → Skipped 1 b c mid m new
    → (new ≡ [] → (n + m) < limit → m < 1) → Skipped limit a c old (n + m) new
skip_on limit a b c old mid new n m s t why = record {
  gone = let_go_then a b c old mid new n m s t.gone;
  starts = t.starts;
  ended = λ none lt. t.ended none (why none lt);
}

-- the front of a request stands in what is held
pub front_read : (limit : ℕ) (a b c : Option (List ℕ)) (old mid new : List ℕ) (n : ℕ) (kind : BlockEnd) → n < limit → 0 < length mid
    → Skipped limit a b old n mid → TookMore b c mid new → StopsAs (limit - n) new kind
    → FrontRead limit a c old new (record { kind = kind; size = front_size kind (length new) (limit - n) })
front_read limit a b c old mid new n kind lt some s t ends =
    let size = front_size kind (length new) (limit - n) in
    let g = s.gone in
    let m = g.moved in
    let stops = stops_as limit n new kind lt ends in
    let P : ℕ → Type 0 = λ k. FrontStops limit k (take size new) (drop size new) kind in
    let Q : List ℕ → Type 0 = λ x. begins_blank (take size x) ≡ false in
    record {
      taken = m.taken ++ t.taken;
      lost = Consumes-then a b c m.taken t.taken m.lost t.lost;
      within = stops.0;
      is_front = record {
        blanks = g.blanks;
        split = sym (append_assoc old m.taken t.taken) ∙ ap (λ x. x ++ t.taken) m.split ∙ append_assoc g.blanks mid t.taken
            ∙ ap (λ x. g.blanks ++ x) (sym t.held ∙ sym (take-append-drop size new));
        skipped = g.blank;
        starts = subst Q (sym t.held) (starts_on mid t.taken size some s.starts);
        stops = subst P (sym g.count) stops.1;
      };
    }

-- nothing but blank bytes came before the limit, or before the end
pub front_blank : (limit : ℕ) (a b : Option (List ℕ)) (old new : List ℕ) (n : ℕ) (kind : BlockEnd) → Skipped limit a b old n new
    → FrontStops limit n [] new kind → FrontRead limit a b old new (record { kind = kind; size = 0 })
front_blank limit a b old new n kind s stops =
    let g = s.gone in
    let P : ℕ → Type 0 = λ k. FrontStops limit k [] new kind in
    record {
      taken = g.moved.taken;
      lost = g.moved.lost;
      within = omega arith;
      is_front = record { blanks = g.blanks; split = g.moved.split; skipped = g.blank; starts = refl; stops = subst P (sym g.count) stops };
    }

pub not_empty : (n : ℕ) → false ≡ (n == 0) → 0 < n
not_empty zero e = absurd (false≢true e)
not_empty (suc n) e = omega arith

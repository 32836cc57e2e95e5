-- The front of a stream is one, and so is the request that it begins with.
use Rattle.std.proofs.Common.{◌≡◌, ℕ, ◌-◌, ◌<◌, ◌≤◌, inl, inr, Bool, true, false, List, [], ◌∷◌, ◌++◌, length, take, drop, refl, sym, ◌∙◌, ap, subst, arith, suc, append_assoc, length-append, Option, Some, None, Result, Ok, Err}
use Rattle.std.specs.List.{list_all, prefix_len}
use Rattle.std.specs.Prelude.{◌&&◌}
use Rattle.std.proofs.lemmas.List.{drop_at, take_at, take-append-le, append_cancel_left}
use Rattle.std.proofs.lemmas.Bool.{false≢true, cases_lt}
use Rattle.httparse.proofs.GrammarLemmas.{request_unique}
use Rattle.http_wire.specs.Blocks.{EndsBlock, NoBlock, IsBlock}
use Rattle.http_wire.specs.Fronts.{is_blank_byte, begins_blank, has_long_target, FrontStops, IsFront}
use Rattle.http_wire.specs.Heads.{HeadView, head_said, ReadsBlock, checked, BlockSays, or_ends, KindSays, FrontSays, body_length}
use Rattle.http_wire.specs.Items.{IsRequest, EndsAtFront, EndsInBody}
use Rattle.http_wire.specs.Laws.{OneFront}
use Rattle.http_wire.specs.declared.block.BlockEnd.{BlockEnd}
use Rattle.http_wire.specs.declared.block.BlockEnd.TheVariants.{Block, Long, Ended}
use Rattle.http_wire.specs.declared.ending.HeadFault.{HeadFault}
use Rattle.http_wire.specs.declared.ending.StreamEnd.{StreamEnd}
use Rattle.http_wire.proofs.BlockSteps.{no_bytes, one_block, block_on}
use Rattle.http_wire.proofs.ItemSteps.{two_ways, says_block}

and_left : (x y : Bool) → (x && y) ≡ true → x ≡ true
and_left true y h = refl
and_left false y h = h

and_right : (x y : Bool) → (x && y) ≡ true → y ≡ true
and_right true y h = h
and_right false y h = absurd (false≢true h)

none_first : (t : List ℕ) → begins_blank t ≡ false → prefix_len is_blank_byte t ≡ 0
none_first [] e = refl
none_first (x ∷ xs) e = rw e refl

-- what doesn't begin blank begins where the blank bytes end
pub blanks_are : (b t : List ℕ) → list_all is_blank_byte b ≡ true → begins_blank t ≡ false → prefix_len is_blank_byte (b ++ t) ≡ length b
blanks_are [] t h e = none_first t e
blanks_are (x ∷ xs) t h e = rw (and_left (is_blank_byte x) (list_all is_blank_byte xs) h) (omega (arith, blanks_are xs t (and_right (is_blank_byte x) (list_all is_blank_byte xs) h) e))

-- two fronts at one place
abbrev Same : BlockEnd → BlockEnd → List ℕ → List ℕ → Type 0
Same j k f g = (j ≡ k) × (f ≡ g)

same_length : (f g r s : List ℕ) → f ++ r ≡ g ++ s → length f ≡ length g → f ≡ g
same_length f g r s e l = sym (take_at f r (length g) l) ∙ ap (take (length g)) e ∙ take_at g s (length g) refl

-- a block doesn't end within what ends none
apart : (f g r s : List ℕ) (n : ℕ) → f ++ r ≡ g ++ s → IsBlock f n → n ≤ length g → NoBlock g (length g) → ⊥
apart f g r s n e b le none =
    let t : take n f ≡ take n g = sym (take-append-le n f r b.within) ∙ ap (take n) e ∙ take-append-le n g s le in
    none n le (subst EndsBlock t b.ends)

one_at : (limit n : ℕ) (j k : BlockEnd) (f g r s : List ℕ) → f ++ r ≡ g ++ s → FrontStops limit n f r j → FrontStops limit n g s k → n < limit → Same j k f g
one_at limit n (Block a) (Block b) f g r s e (p, pl, pm) (q, ql, qm) lt =
    let P : List ℕ → Type 0 = λ x. IsBlock x a in
    let ab : a ≡ b = one_block (g ++ s) a b (subst P e (block_on f r a p)) (block_on g s b q) in
    (ap Block ab, same_length f g r s e (omega arith))
one_at limit n (Block a) Long f g r s e (p, pl, pm) (ql, q) lt = absurd (apart f g r s a e p (omega arith) q)
one_at limit n Long (Block b) f g r s e (pl, p) (q, ql, qm) lt = absurd (apart g f s r b (sym e) q (omega arith) p)
one_at limit n (Block a) Ended f g r s e (p, pl, pm) (ql, q, qn) lt =
    absurd (apart f g r s a e p (omega (arith, ap length e, length-append f r, length-append g s, ap length qn)) q)
one_at limit n Ended (Block b) f g r s e (pl, p, pn) (q, ql, qm) lt =
    absurd (apart g f s r b (sym e) q (omega (arith, ap length e, length-append f r, length-append g s, ap length pn)) p)
one_at limit n Long Long f g r s e (pl, p) (ql, q) lt = (refl, same_length f g r s e (omega arith))
one_at limit n Long Ended f g r s e (pl, p) (ql, q, qn) lt = absurd (omega (arith, ap length e, length-append f r, length-append g s, ap length qn))
one_at limit n Ended Long f g r s e (pl, p, pn) (ql, q) lt = absurd (omega (arith, ap length e, length-append f r, length-append g s, ap length pn))
one_at limit n Ended Ended f g r s e (pl, p, pn) (ql, q, qn) lt =
    (refl, same_length f g r s e (omega (arith, ap length e, length-append f r, length-append g s, ap length pn, ap length qn)))

-- where the blank bytes end before the limit and what follows is no blank byte, the front is one
pub one_front : (limit : ℕ) (bytes : List ℕ) (j k : BlockEnd) (f g r s : List ℕ) (p : IsFront limit bytes j f r) (q : IsFront limit bytes k g s)
    → begins_blank (f ++ r) ≡ false → begins_blank (g ++ s) ≡ false → prefix_len is_blank_byte bytes < limit → Same j k f g
one_front limit bytes j k f g r s p q u v lt =
    let a : length p.blanks ≡ prefix_len is_blank_byte bytes = sym (blanks_are p.blanks (f ++ r) p.skipped u) ∙ ap (prefix_len is_blank_byte) (sym p.split) in
    let b : length q.blanks ≡ prefix_len is_blank_byte bytes = sym (blanks_are q.blanks (g ++ s) q.skipped v) ∙ ap (prefix_len is_blank_byte) (sym q.split) in
    let n = prefix_len is_blank_byte bytes in
    let e : f ++ r ≡ g ++ s = sym (drop_at p.blanks (f ++ r) n a) ∙ ap (drop n) (sym p.split ∙ q.split) ∙ drop_at q.blanks (g ++ s) n b in
    let P : ℕ → Type 0 = λ x. FrontStops limit x f r j in
    let Q : ℕ → Type 0 = λ x. FrontStops limit x g s k in
    one_at limit n j k f g r s e (subst P a p.stops) (subst Q b q.stops) lt

-- blank bytes that the bytes begin with are no more than there are
blanks_within : (b t : List ℕ) → list_all is_blank_byte b ≡ true → length b ≤ prefix_len is_blank_byte (b ++ t)
blanks_within [] t h = omega arith
blanks_within (x ∷ xs) t h = rw (and_left (is_blank_byte x) (list_all is_blank_byte xs) h) (omega (arith, blanks_within xs t (and_right (is_blank_byte x) (list_all is_blank_byte xs) h)))

-- a front that isn't blank, or that no byte follows, begins where the blank bytes end
starts_at : (limit : ℕ) (bytes : List ℕ) (k : BlockEnd) (f r : List ℕ) → (p : IsFront limit bytes k f r) → prefix_len is_blank_byte bytes < limit → begins_blank (f ++ r) ≡ false
starts_at limit bytes k (x ∷ f) r p lt = p.starts
starts_at limit bytes (Block n) [] r p lt = absurd (no_bytes [] n (omega (arith, p.stops.1)) p.stops.0.ends)
starts_at limit bytes Ended [] r p lt = ap begins_blank p.stops.2
starts_at limit bytes Long [] r p lt =
    let w = blanks_within p.blanks r p.skipped in
    let s = ap (prefix_len is_blank_byte) p.split in
    absurd (omega (arith, w, s, p.stops.0, lt))

-- no byte of a front is past the limit
no_room : (limit n : ℕ) (k : BlockEnd) (x : ℕ) (f r : List ℕ) → FrontStops limit n (x ∷ f) r k → limit ≤ n → ⊥
no_room limit n (Block m) x f r (b, l, w) le = let e : m ≡ suc (length f) = l in omega (arith, e, w, le)
no_room limit n Long x f r (l, none) le = let e : suc (length f) ≡ limit - n = l in omega (arith, e, le)
no_room limit n Ended x f r (l, none, rest) le = omega (arith, l, le)

-- past the limit there is one front, nothing
late_front : (limit : ℕ) (bytes : List ℕ) (k : BlockEnd) (f r : List ℕ) → (p : IsFront limit bytes k f r) → limit ≤ prefix_len is_blank_byte bytes → Same k Long f []
late_front limit bytes Long [] r p le = (refl, refl)
late_front limit bytes (Block n) [] r p le = absurd (no_bytes [] n (omega (arith, p.stops.1)) p.stops.0.ends)
late_front limit bytes Ended [] r p le =
    let s = ap (prefix_len is_blank_byte) (p.split ∙ ap (λ x. p.blanks ++ x) p.stops.2) ∙ blanks_are p.blanks [] p.skipped refl in
    absurd (omega (arith, s, p.stops.0, le))
late_front limit bytes k (x ∷ f) r p le =
    let s : prefix_len is_blank_byte bytes ≡ length p.blanks = ap (prefix_len is_blank_byte) p.split ∙ blanks_are p.blanks ((x ∷ f) ++ r) p.skipped p.starts in
    absurd (no_room limit (length p.blanks) k x f r p.stops (omega (arith, s, le)))

-- the bytes have one front
pub the_front : (limit : ℕ) (bytes : List ℕ) (j k : BlockEnd) (f g r s : List ℕ) → IsFront limit bytes j f r → IsFront limit bytes k g s → Same j k f g
the_front limit bytes j k f g r s p q = elim (cases_lt (prefix_len is_blank_byte bytes) limit) [
  | inl lt ↦ one_front limit bytes j k f g r s p q (starts_at limit bytes j f r p lt) (starts_at limit bytes k g s q lt) lt
  | inr le ↦ (let u = late_front limit bytes j f r p le in let v = late_front limit bytes k g s q le in (u.0 ∙ sym v.0, u.1 ∙ sym v.1))
]

block_starts : (limit : ℕ) (bytes : List ℕ) (n : ℕ) (f r : List ℕ) → (p : IsFront limit bytes (Block n) f r) → begins_blank (f ++ r) ≡ false
block_starts limit bytes n (x ∷ f) r p = p.starts
block_starts limit bytes n [] r p = absurd (no_bytes [] n (omega (arith, p.stops.1)) p.stops.0.ends)

-- more bytes come
front_on : (limit : ℕ) (bytes : List ℕ) (n : ℕ) (f r more : List ℕ) → IsFront limit bytes (Block n) f r → IsFront limit (bytes ++ more) (Block n) f (r ++ more)
front_on limit bytes n f r more p = record {
  blanks = p.blanks;
  split = ap (λ x. x ++ more) p.split ∙ append_assoc p.blanks (f ++ r) more ∙ ap (λ x. p.blanks ++ x) (append_assoc f r more);
  skipped = p.skipped;
  starts = p.starts;
  stops = p.stops;
}

-- what two fronts leave is the same
pub rests : (limit : ℕ) (bytes : List ℕ) (n m : ℕ) (f g r s : List ℕ) → IsFront limit bytes (Block n) f r → IsFront limit bytes (Block m) g s → f ≡ g → r ≡ s
rests limit bytes n m f g r s p q same =
    let a : length p.blanks ≡ prefix_len is_blank_byte bytes = sym (blanks_are p.blanks (f ++ r) p.skipped (block_starts limit bytes n f r p)) ∙ ap (prefix_len is_blank_byte) (sym p.split) in
    let b : length q.blanks ≡ prefix_len is_blank_byte bytes = sym (blanks_are q.blanks (g ++ s) q.skipped (block_starts limit bytes m g s q)) ∙ ap (prefix_len is_blank_byte) (sym q.split) in
    let w = prefix_len is_blank_byte bytes in
    let e : f ++ r ≡ g ++ s = sym (drop_at p.blanks (f ++ r) w a) ∙ ap (drop w) (sym p.split ∙ q.split) ∙ drop_at q.blanks (g ++ s) w b in
    append_cancel_left f r s (e ∙ ap (λ x. x ++ s) (sym same))

-- a block reads as one head, or as none
one_read : (block : List ℕ) (r s : Option HeadView) → ReadsBlock block r → ReadsBlock block s → r ≡ s
one_read block None None p q = refl
one_read block None (Some k) p (tree, reads, is) = absurd (p tree reads)
one_read block (Some h) None (tree, reads, is) q = absurd (q tree reads)
one_read block (Some h) (Some k) (tree, reads, is) (tree', reads', is') =
    let same = request_unique block tree tree' [] [] reads reads' in
    ap Some (is ∙ ap head_said same.0 ∙ sym is')

one_block_says : (most : ℕ) (block : List ℕ) (a b : Result HeadView HeadFault) → BlockSays most block a → BlockSays most block b → a ≡ b
one_block_says most block a b p q = sym p.is ∙ ap (checked most) (one_read block p.read q.read p.reads q.reads) ∙ q.is

one_kind_says : (most : ℕ) (front : List ℕ) (kind : BlockEnd) (a b : Result HeadView StreamEnd) → KindSays most front kind a → KindSays most front kind b → a ≡ b
one_kind_says most front (Block n) a b (s, p, e) (t, q, f) = e ∙ ap or_ends (one_block_says most front s t p q) ∙ sym f
one_kind_says most front Long a b e f = e ∙ sym f
one_kind_says most front Ended a b e f = e ∙ sym f

-- a front says one thing
pub one_says : (most : ℕ) (front : List ℕ) (kind : BlockEnd) (a b : Result HeadView StreamEnd) → FrontSays most front kind a → FrontSays most front kind b → a ≡ b
one_says most front kind a b p q = elim (two_ways (has_long_target front)) [
  | inl long ↦ p.long long ∙ sym (q.long long)
  | inr other ↦ one_kind_says most front kind a b (p.other other) (q.other other)
]

-- two fronts of the same bytes say one thing
fronts_say : (limit most : ℕ) (bytes : List ℕ) (j k : BlockEnd) (f g r s : List ℕ) (a b : Result HeadView StreamEnd)
    → IsFront limit bytes j f r → IsFront limit bytes k g s → FrontSays most f j a → FrontSays most g k b → a ≡ b
fronts_say limit most bytes j k f g r s a b p q x y =
    let same = the_front limit bytes j k f g r s p q in
    let P : BlockEnd → Type 0 = λ t. FrontSays most f t a in
    let Q : List ℕ → Type 0 = λ t. FrontSays most t k a in
    one_says most g k a b (subst Q same.1 (subst P same.0 x)) y

pub only_front : OneFront
only_front limit most bytes one other front first rest behind said says p q x y =
    let same = the_front limit bytes one other front first rest behind p q in
    (same.0, same.1, fronts_say limit most bytes one other front first rest behind said says p q x y)

-- the front of a request stands in front of all that follows it
pub request_front : (limit most : ℕ) (used rest body : List ℕ) (head : HeadView) (p : IsRequest limit most used head body) → IsFront limit (used ++ rest) p.kind p.front (body ++ rest)
request_front limit most used rest body head p =
    let k = says_block most p.front head p.kind p.says in
    let P : BlockEnd → Type 0 = λ t. IsFront limit used t p.front body in
    let Q : BlockEnd → Type 0 = λ t. IsFront limit (used ++ rest) t p.front (body ++ rest) in
    subst Q (sym k.1) (front_on limit used k.0 p.front body rest (subst P k.1 p.is_front))

-- what two fronts that say heads leave is the same
head_rests : (limit most : ℕ) (bytes : List ℕ) (j k : BlockEnd) (f g r s : List ℕ) (h i : HeadView)
    → IsFront limit bytes j f r → IsFront limit bytes k g s → FrontSays most f j (Ok h) → FrontSays most g k (Ok i) → r ≡ s
head_rests limit most bytes j k f g r s h i p q x y =
    let a = says_block most f h j x in
    let b = says_block most g i k y in
    let P : BlockEnd → Type 0 = λ t. IsFront limit bytes t f r in
    let Q : BlockEnd → Type 0 = λ t. IsFront limit bytes t g s in
    let same = the_front limit bytes j k f g r s p q in
    rests limit bytes a.0 b.0 f g r s (subst P a.1 p) (subst Q b.1 q) same.1

-- bytes begin with one request at most, and what follows it is one
pub one_request : (limit most : ℕ) (u v x y : List ℕ) (h k : HeadView) (b c : List ℕ) → IsRequest limit most u h b → IsRequest limit most v k c → u ++ x ≡ v ++ y
    → (h ≡ k) × (b ≡ c) × (x ≡ y)
one_request limit most u v x y h k b c p q e =
    let B : List ℕ → Type 0 = λ t. IsFront limit t q.kind q.front (c ++ y) in
    let pf = request_front limit most u x b h p in
    let qf : IsFront limit (u ++ x) q.kind q.front (c ++ y) = subst B (sym e) (request_front limit most v y c k q) in
    let said : (let one : Result HeadView StreamEnd = Ok h in one) ≡ Ok k = fronts_say limit most (u ++ x) p.kind q.kind p.front q.front (b ++ x) (c ++ y) (Ok h) (Ok k) pf qf p.says q.says in
    let heads : h ≡ k = cc in
    let rest = head_rests limit most (u ++ x) p.kind q.kind p.front q.front (b ++ x) (c ++ y) h k pf qf p.says q.says in
    let bodies = same_length b c x y rest (p.size ∙ ap (λ t. body_length t.fields) heads ∙ sym q.size) in
    (heads, bodies, append_cancel_left c x y (ap (λ t. t ++ x) (sym bodies) ∙ rest))

-- where a stream ends at its front it begins with no request
pub no_request : (limit most : ℕ) (bytes u x : List ℕ) (why : StreamEnd) (h : HeadView) (b : List ℕ) → EndsAtFront limit most bytes why → IsRequest limit most u h b → bytes ≡ u ++ x → ⊥
no_request limit most bytes u x why h b p q e =
    let B : List ℕ → Type 0 = λ t. IsFront limit t q.kind q.front (b ++ x) in
    let qf : IsFront limit bytes q.kind q.front (b ++ x) = subst B (sym e) (request_front limit most u x b h q) in
    let said : (let one : Result HeadView StreamEnd = Err why in one) ≡ Ok h = fronts_say limit most bytes p.kind q.kind p.front q.front p.rest (b ++ x) (Err why) (Ok h) p.is_front qf p.says q.says in
    absurd cc

-- nor where it ends in a body
pub no_whole_body : (limit most : ℕ) (bytes u x : List ℕ) (h : HeadView) (b : List ℕ) → EndsInBody limit most bytes → IsRequest limit most u h b → bytes ≡ u ++ x → ⊥
no_whole_body limit most bytes u x h b p q e =
    let B : List ℕ → Type 0 = λ t. IsFront limit t q.kind q.front (b ++ x) in
    let qf : IsFront limit bytes q.kind q.front (b ++ x) = subst B (sym e) (request_front limit most u x b h q) in
    let said : (let one : Result HeadView StreamEnd = Ok p.head in one) ≡ Ok h = fronts_say limit most bytes p.kind q.kind p.front q.front p.part (b ++ x) (Ok p.head) (Ok h) p.is_front qf p.says q.says in
    let heads : p.head ≡ h = cc in
    let rest = head_rests limit most bytes p.kind q.kind p.front q.front p.part (b ++ x) p.head h p.is_front qf p.says q.says in
    let size : body_length p.head.fields ≡ body_length h.fields = ap (λ t. body_length t.fields) heads in
    let short = p.short in
    omega (arith, ap length rest, length-append b x, q.size, size, short)

-- a stream doesn't end both at its front and in a body
pub not_both : (limit most : ℕ) (bytes : List ℕ) (why : StreamEnd) → EndsAtFront limit most bytes why → EndsInBody limit most bytes → ⊥
not_both limit most bytes why p q =
    let said : (let one : Result HeadView StreamEnd = Err why in one) ≡ Ok q.head = fronts_say limit most bytes p.kind q.kind p.front q.front p.rest q.part (Err why) (Ok q.head) p.is_front q.is_front p.says q.says in
    absurd cc

pub one_body : (limit most : ℕ) (bytes : List ℕ) (p q : EndsInBody limit most bytes) → p.head ≡ q.head
one_body limit most bytes p q =
    let said : (let one : Result HeadView StreamEnd = Ok p.head in one) ≡ Ok q.head = fronts_say limit most bytes p.kind q.kind p.front q.front p.part q.part (Ok p.head) (Ok q.head) p.is_front q.is_front p.says q.says in
    cc

pub one_end : (limit most : ℕ) (bytes : List ℕ) (a b : StreamEnd) → EndsAtFront limit most bytes a → EndsAtFront limit most bytes b → a ≡ b
one_end limit most bytes a b p q =
    let said : (let one : Result HeadView StreamEnd = Err a in one) ≡ Err b = fronts_say limit most bytes p.kind q.kind p.front q.front p.rest q.rest (Err a) (Err b) p.is_front q.is_front p.says q.says in
    cc

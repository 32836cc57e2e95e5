-- Bytes begin with one reply, or there is one reason why with none.
use Rattle.std.proofs.Common.{◌≡◌, ◌⊎◌, inl, inr, ℕ, ◌<◌, ◌≤◌, true, false, List, [], ◌++◌, length, take, drop, Option, None, Some, Result, Ok, Err, refl, sym, ◌∙◌, ap, subst, arith, append-nil, length-append, nat_lt}
use Rattle.std.specs.Prelude.{if◌then◌else◌}
use Rattle.std.proofs.lemmas.Bool.{cond-true, cond-false}
use Rattle.std.proofs.lemmas.Bool.Decides.{nat_tests}
use Rattle.std.proofs.lemmas.List.{take_at, drop_at}
use Rattle.httparse.specs.Grammar.{ResponseHead, ReadsResponse}
use Rattle.httparse.proofs.GrammarLemmas.{response_unique, ReadsResponse-append}
use Rattle.http_answers.specs.ReplyHeads.{Said, said}
use Rattle.http_answers.specs.Hearing.{Answered, Answers, OneHearing, ReplyIsHeard, EndIsHeard}
use Rattle.http_answers.specs.Reading.{BeginsWith, HasNoHead, EndsInHead}
use Rattle.http_answers.specs.declared.got.GotEnd.{GotEnd}
use Rattle.http_answers.specs.declared.got.GotEnd.TheVariants as end
use Rattle.http_answers.proofs.ReadSteps.{no_head_never}

-- what a head and what is behind it answer
abbrev cut_at : ResponseHead → List ℕ → ℕ → Result Answered GotEnd
cut_at tree behind n = if nat_lt (length behind) n then Err end.Cut else Ok (record { says = said tree; body = take n behind; rest = drop n behind })

abbrev by_size : ℕ → ResponseHead → List ℕ → Option ℕ → Result Answered GotEnd
by_size most tree behind None = Err end.BadReply
by_size most tree behind (Some n) = if nat_lt most n then Err (end.TooLong n) else cut_at tree behind n

abbrev judged : ℕ → ResponseHead → List ℕ → Result Answered GotEnd
judged most tree behind = by_size most tree behind (said tree).size

record ByHead (most : ℕ) (bytes : List ℕ) (a : Result Answered GotEnd) : Type 0 where
  tree : ResponseHead
  behind : List ℕ
  begins : BeginsWith bytes tree behind
  is : a ≡ judged most tree behind

abbrev Kind : ℕ → List ℕ → Result Answered GotEnd → Type 0
Kind most bytes a = ByHead most bytes a ⊎ ((HasNoHead bytes × (a ≡ Err end.BadReply)) ⊎ (EndsInHead bytes × (a ≡ Err end.Cut)))

lt_test : (m n : ℕ) → m < n → nat_lt m n ≡ true
lt_test m n lt = grind (arith, nat_tests)

ge_test : (m n : ℕ) → n ≤ m → nat_lt m n ≡ false
ge_test m n le = grind (arith, nat_tests)

sized : (most : ℕ) (tree : ResponseHead) (behind : List ℕ) (n : ℕ) → (said tree).size ≡ Some n → n ≤ most → judged most tree behind ≡ cut_at tree behind n
sized most tree behind n is le = ap (by_size most tree behind) is ∙ cond-false _ _ _ (ge_test most n le)

kind_of : (most : ℕ) (bytes : List ℕ) (a : Result Answered GotEnd) → Answers most bytes a → Kind most bytes a
kind_of most bytes (Ok x) (used, split, reply, le) =
    let n = length x.body in
    let tree = reply.tree in
    let behind = x.body ++ x.rest in
    let size : (said tree).size ≡ Some n = ap (λ (s : Said). s.size) (sym reply.says_is) ∙ reply.size in
    let front : take n behind ≡ x.body = take_at x.body x.rest n refl in
    let back : drop n behind ≡ x.rest = drop_at x.body x.rest n refl in
    let whole : nat_lt (length behind) n ≡ false = ge_test (length behind) n (omega (arith, length-append x.body x.rest)) in
    let same : Ok x ≡ cut_at tree behind n = (λ i. Ok (record { says = reply.says_is i; body = sym front i; rest = sym back i })) ∙ sym (cond-false _ _ _ whole) in
    inl (record {
      tree = tree;
      behind = behind;
      begins = record { reads = subst (λ (l : List ℕ). ReadsResponse l tree behind) (sym split) (ReadsResponse-append used tree x.body x.rest reply.begins.reads); size = reply.begins.size; few = reply.begins.few };
      is = same ∙ sym (sized most tree behind n size le);
    })
kind_of most bytes (Err end.BadReply) (inl none) = inr (inl (none, refl))
kind_of most bytes (Err end.BadReply) (inr lacks) = inl (record { tree = lacks.tree; behind = lacks.rest; begins = lacks.begins; is = ap (by_size most lacks.tree lacks.rest) (sym lacks.none) })
kind_of most bytes (Err (end.TooLong n)) (long, lt) =
    inl (record { tree = long.tree; behind = long.rest; begins = long.begins; is = sym (ap (by_size most long.tree long.rest) long.size ∙ cond-true _ _ _ (lt_test most n lt)) })
kind_of most bytes (Err end.Cut) (inl ends) = inr (inr (ends, refl))
kind_of most bytes (Err end.Cut) (inr ends) =
    inl (record { tree = ends.tree; behind = ends.part; begins = ends.begins; is = sym (sized most ends.tree ends.part ends.count ends.size ends.within ∙ cond-true _ _ _ (lt_test (length ends.part) ends.count ends.short)) })
kind_of most bytes (Err end.LinkFault) row = absurd row
kind_of most bytes (Err end.OutOfMemory) row = absurd row

not_both : (bytes : List ℕ) (tree : ResponseHead) (behind : List ℕ) → BeginsWith bytes tree behind → HasNoHead bytes → ⊥
not_both bytes tree behind begins none =
    no_head_never bytes none [] tree behind (record { reads = subst (λ (l : List ℕ). ReadsResponse l tree behind) (sym (append-nil bytes)) begins.reads; size = begins.size; few = begins.few })

not_open : (bytes : List ℕ) → HasNoHead bytes → EndsInHead bytes → ⊥
not_open bytes (inl never) ends = never ends.may.0 ends.may.1 [] ends.may.2
not_open bytes (inr (inl crowded)) ends = ends.none crowded.tree crowded.rest crowded.reads
not_open bytes (inr (inr (inl big))) ends = ends.none big.tree big.rest big.reads
not_open bytes (inr (inr (inr (none, le)))) ends = let short = ends.short in omega (arith, le, short)

one_of : (most : ℕ) (bytes : List ℕ) (a b : Result Answered GotEnd) → Kind most bytes a → Kind most bytes b → a ≡ b
one_of most bytes a b (inl x) (inl y) =
    let same = response_unique bytes x.tree y.tree x.behind y.behind x.begins.reads y.begins.reads in
    x.is ∙ (λ i. judged most (same.0 i) (same.1 i)) ∙ sym y.is
one_of most bytes a b (inl x) (inr (inl (none, is))) = absurd (not_both bytes x.tree x.behind x.begins none)
one_of most bytes a b (inl x) (inr (inr (ends, is))) = absurd (ends.none x.tree x.behind x.begins.reads)
one_of most bytes a b (inr (inl (none, is))) (inl y) = absurd (not_both bytes y.tree y.behind y.begins none)
one_of most bytes a b (inr (inl (none, is))) (inr (inl (also, so))) = is ∙ sym so
one_of most bytes a b (inr (inl (none, is))) (inr (inr (ends, so))) = absurd (not_open bytes none ends)
one_of most bytes a b (inr (inr (ends, is))) (inl y) = absurd (ends.none y.tree y.behind y.begins.reads)
one_of most bytes a b (inr (inr (ends, is))) (inr (inl (none, so))) = absurd (not_open bytes none ends)
one_of most bytes a b (inr (inr (ends, is))) (inr (inr (also, so))) = is ∙ sym so

pub one_heard : OneHearing
one_heard most bytes true a b x y = x ∙ sym y
one_heard most bytes false a b x y = one_of most bytes a b (kind_of most bytes a x) (kind_of most bytes b y)

-- what a reading answers is what is heard
pub reply_heard : ReplyIsHeard
reply_heard most before after old new got gives = record {
  taken = gives.moved.taken;
  lost = gives.moved.lost;
  is = (gives.used, gives.moved.split, gives.item, gives.within);
}

pub end_heard : EndIsHeard
end_heard most before after old end.BadReply ends by = ends
end_heard most before after old (end.TooLong n) ends by =
    record { taken = ends.0.taken; lost = ends.0.lost; is = (ends.0.is, ends.1) }
end_heard most before after old end.Cut ends by = ends.0
end_heard most before after old end.LinkFault ends by = absurd by
end_heard most before after old end.OutOfMemory ends by = absurd by

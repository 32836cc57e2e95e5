-- The lines of a family stand together.
use Rattle.std.proofs.lemmas.Bool.{true≢false}
use Rattle.std.proofs.Common.{◌≡◌, ℕ, Bool, true, false, ◌&&◌, ◌==◌, List, refl, ap, sym, subst, ◌∙◌, arith}
use Rattle.std.specs.declared.cmp.Ordering.{Ordering}
use Rattle.std.specs.declared.cmp.Ordering.TheVariants.{Less, Equal, Greater}
use Rattle.std.specs.Ordering.{nat_cmp, int_cmp, ordering_then, is_lt, is_eq, is_gt, is_le}
use Rattle.std.specs.Cmp.{IsTotalOrder}
use Rattle.std.specs.Str.{bytes_eq}
use Rattle.std.proofs.lemmas.Cmp.{then_total, nat_cmp_total, nat_list_cmp_total, upto, same_from_slice_cmp}
use Rattle.std.proofs.lemmas.Bool.Decides.{nat_tests}
use Rattle.channel_globs.specs.declared.nslc.Nslc.{Nslc}
use Rattle.epochs.specs.declared.kinds.LineKind.{LineKind}
use Rattle.epochs.specs.declared.kinds.Head.{Head}
use Rattle.epochs.specs.declared.kinds.Head.TheVariants.{Says, Deletes}
use Rattle.epochs.specs.Fields.{Value}
use Rattle.epochs.specs.Kinds.{Text}
use Rattle.epochs.specs.Lines.{LineValues, line_values}
use Rattle.epoch_catalog.specs.declared.families.Family.{Family}
use Rattle.epoch_catalog.specs.declared.families.Family.TheVariants as family
use Rattle.epoch_rules.specs.KeyOrder.{KeyParts, key_parts_of, parts_cmp, text_cmp, rank_of}
use Rattle.epoch_rules.specs.LiveLines.{is_statement, is_said}
use Rattle.epoch_catalog.specs.Families.{is_in, is_named, family_place, name_place}
use Rattle.epoch_rules.proofs.Orders.{total_on}

-- the part of the order of keys by which a family stands together
abbrev pub front_cmp : Family → KeyParts → KeyParts → Ordering
front_cmp family.Networks p q = nat_cmp p.rank q.rank
front_cmp family.Stations p q = nat_cmp p.rank q.rank
front_cmp family.Channels p q = nat_cmp p.rank q.rank
front_cmp (family.StationsOf network) p q = ordering_then (nat_cmp p.rank q.rank) (text_cmp p.first q.first)
front_cmp (family.ChannelsOf network station) p q =
    ordering_then (nat_cmp p.rank q.rank) (ordering_then (text_cmp p.first q.first) (text_cmp p.second q.second))
front_cmp family.Events p q = nat_cmp p.rank q.rank
front_cmp family.Restrictions p q = nat_cmp p.rank q.rank
front_cmp (family.RestrictionsOn network) p q = ordering_then (nat_cmp p.rank q.rank) (text_cmp p.first q.first)
front_cmp (family.GrantsOf user) p q = ordering_then (nat_cmp p.rank q.rank) (text_cmp p.first q.first)
front_cmp (family.GrantsOn user network) p q =
    ordering_then (nat_cmp p.rank q.rank) (ordering_then (text_cmp p.first q.first) (text_cmp p.second q.second))
front_cmp family.Withdrawals p q = nat_cmp p.rank q.rank
front_cmp (family.WithdrawalsOn name location) p q =
    ordering_then (nat_cmp p.rank q.rank)
    (ordering_then (text_cmp p.first q.first)
    (ordering_then (text_cmp p.second q.second)
    (ordering_then (text_cmp p.third q.third) (text_cmp p.fourth q.fourth))))

abbrev pub with_front : KeyParts → ℕ → Text → Text → KeyParts
with_front p rank first second = record {
  rank = rank;
  first = first;
  second = second;
  third = p.third;
  fourth = p.fourth;
  fifth = p.fifth;
  start = p.start;
}

abbrev pub with_name : KeyParts → ℕ → Nslc → Text → KeyParts
with_name p rank name location = record {
  rank = rank;
  first = name.network;
  second = name.station;
  third = location;
  fourth = name.channel;
  fifth = p.fifth;
  start = p.start;
}

-- a key with the front of the family
abbrev pub front_of : Family → KeyParts → KeyParts
front_of family.Networks p = with_front p 0 p.first p.second
front_of family.Stations p = with_front p 1 p.first p.second
front_of family.Channels p = with_front p 2 p.first p.second
front_of (family.StationsOf network) p = with_front p 1 network p.second
front_of (family.ChannelsOf network station) p = with_front p 2 network station
front_of family.Events p = with_front p 3 p.first p.second
front_of family.Restrictions p = with_front p 4 p.first p.second
front_of (family.RestrictionsOn network) p = with_front p 4 network p.second
front_of (family.GrantsOf user) p = with_front p 5 user.now p.second
front_of (family.GrantsOn user network) p = with_front p 5 user.now network
front_of family.Withdrawals p = with_front p 7 p.first p.second
front_of (family.WithdrawalsOn name location) p = with_name p 7 name location.now

place_is : (f : Family) (p q : KeyParts) → family_place f p ≡ front_cmp f p (front_of f q)
place_is family.Networks p q = refl
place_is family.Stations p q = refl
place_is family.Channels p q = refl
place_is (family.StationsOf network) p q = refl
place_is (family.ChannelsOf network station) p q = refl
place_is family.Events p q = refl
place_is family.Restrictions p q = refl
place_is (family.RestrictionsOn network) p q = refl
place_is (family.GrantsOf user) p q = refl
place_is (family.GrantsOn user network) p q = refl
place_is family.Withdrawals p q = refl
place_is (family.WithdrawalsOn name location) p q = refl

rank_total : IsTotalOrder (λ (p q : KeyParts). nat_cmp p.rank q.rank)
rank_total = total_on (λ (p : KeyParts). p.rank) nat_cmp_total

first_total : IsTotalOrder (λ (p q : KeyParts). text_cmp p.first q.first)
first_total = total_on (λ (p : KeyParts). p.first) nat_list_cmp_total

second_total : IsTotalOrder (λ (p q : KeyParts). text_cmp p.second q.second)
second_total = total_on (λ (p : KeyParts). p.second) nat_list_cmp_total

third_total : IsTotalOrder (λ (p q : KeyParts). text_cmp p.third q.third)
third_total = total_on (λ (p : KeyParts). p.third) nat_list_cmp_total

fourth_total : IsTotalOrder (λ (p q : KeyParts). text_cmp p.fourth q.fourth)
fourth_total = total_on (λ (p : KeyParts). p.fourth) nat_list_cmp_total

pub front_total : (f : Family) → IsTotalOrder (front_cmp f)
front_total family.Networks = rank_total
front_total family.Stations = rank_total
front_total family.Channels = rank_total
front_total (family.StationsOf network) = then_total rank_total first_total
front_total (family.ChannelsOf network station) = then_total rank_total (then_total first_total second_total)
front_total family.Events = rank_total
front_total family.Restrictions = rank_total
front_total (family.RestrictionsOn network) = then_total rank_total first_total
front_total (family.GrantsOf user) = then_total rank_total first_total
front_total (family.GrantsOn user network) = then_total rank_total (then_total first_total second_total)
front_total family.Withdrawals = rank_total
front_total (family.WithdrawalsOn name location) =
    then_total rank_total (then_total first_total (then_total second_total (then_total third_total fourth_total)))

-- what is less as a whole isn't greater in front
less_1 : (a b : Ordering) → ordering_then a b ≡ Less → is_gt a ≡ false
less_1 Less b h = refl
less_1 Equal b h = refl
less_1 Greater b h = ap is_gt h

less_2 : (a b c : Ordering) → ordering_then a (ordering_then b c) ≡ Less → is_gt (ordering_then a b) ≡ false
less_2 Less b c h = refl
less_2 Equal b c h = less_1 b c h
less_2 Greater b c h = ap is_gt h

less_3 : (a b c d : Ordering) → ordering_then a (ordering_then b (ordering_then c d)) ≡ Less → is_gt (ordering_then a (ordering_then b c)) ≡ false
less_3 Less b c d h = refl
less_3 Equal b c d h = less_2 b c d h
less_3 Greater b c d h = ap is_gt h

less_4 : (a b c d e : Ordering) → ordering_then a (ordering_then b (ordering_then c (ordering_then d e))) ≡ Less
    → is_gt (ordering_then a (ordering_then b (ordering_then c d))) ≡ false
less_4 Less b c d e h = refl
less_4 Equal b c d e h = less_3 b c d e h
less_4 Greater b c d e h = ap is_gt h

less_5 : (a b c d e f : Ordering) → ordering_then a (ordering_then b (ordering_then c (ordering_then d (ordering_then e f)))) ≡ Less
    → is_gt (ordering_then a (ordering_then b (ordering_then c (ordering_then d e)))) ≡ false
less_5 Less b c d e f h = refl
less_5 Equal b c d e f h = less_4 b c d e f h
less_5 Greater b c d e f h = ap is_gt h

abbrev behind_second : KeyParts → KeyParts → Ordering
behind_second p q =
    ordering_then (text_cmp p.third q.third)
    (ordering_then (text_cmp p.fourth q.fourth) (ordering_then (text_cmp p.fifth q.fifth) (int_cmp p.start q.start)))

abbrev behind_first : KeyParts → KeyParts → Ordering
behind_first p q = ordering_then (text_cmp p.second q.second) (behind_second p q)

pub front_rises : (f : Family) (p q : KeyParts) → parts_cmp p q ≡ Less → is_gt (front_cmp f p q) ≡ false
front_rises family.Networks p q h = less_1 _ _ h
front_rises family.Stations p q h = less_1 _ _ h
front_rises family.Channels p q h = less_1 _ _ h
front_rises (family.StationsOf network) p q h = less_2 (nat_cmp p.rank q.rank) (text_cmp p.first q.first) (behind_first p q) h
front_rises (family.ChannelsOf network station) p q h = less_3 (nat_cmp p.rank q.rank) (text_cmp p.first q.first) (text_cmp p.second q.second) (behind_second p q) h
front_rises family.Events p q h = less_1 _ _ h
front_rises family.Restrictions p q h = less_1 _ _ h
front_rises (family.RestrictionsOn network) p q h = less_2 (nat_cmp p.rank q.rank) (text_cmp p.first q.first) (behind_first p q) h
front_rises (family.GrantsOf user) p q h = less_2 (nat_cmp p.rank q.rank) (text_cmp p.first q.first) (behind_first p q) h
front_rises (family.GrantsOn user network) p q h = less_3 (nat_cmp p.rank q.rank) (text_cmp p.first q.first) (text_cmp p.second q.second) (behind_second p q) h
front_rises family.Withdrawals p q h = less_1 _ _ h
front_rises (family.WithdrawalsOn name location) p q h =
    less_5 (nat_cmp p.rank q.rank) (text_cmp p.first q.first) (text_cmp p.second q.second) (text_cmp p.third q.third) (text_cmp p.fourth q.fourth)
    (ordering_then (text_cmp p.fifth q.fifth) (int_cmp p.start q.start)) h

lt_stays : {K : Type 0} {R : K → K → Ordering} (o : IsTotalOrder R) (x y z : K) → is_gt (R x y) ≡ false → is_lt (R y z) ≡ true → is_lt (R x z) ≡ true
lt_stays {K} {R} o x y z h k =
    elim (R x y) as (λ a. R x y ≡ a → is_gt a ≡ false → is_lt (R x z) ≡ true) [
      | Less ↦ λ e g.
          elim (R y z) as (λ b. R y z ≡ b → is_lt b ≡ true → is_lt (R x z) ≡ true) [
            | Less ↦ λ f t. ap is_lt (o.trans x y z e f)
            | Equal ↦ λ f t. absurd (true≢false (sym t))
            | Greater ↦ λ f t. absurd (true≢false (sym t))
          ] refl k
      | Equal ↦ λ e g. ap is_lt (o.congr x y z e) ∙ k
      | Greater ↦ λ e g. absurd (true≢false g)
    ] refl h

-- a key before the family stands before each key that isn't
pub before_stays : (f : Family) (p q : KeyParts) → parts_cmp p q ≡ Less → is_lt (family_place f q) ≡ true → is_lt (family_place f p) ≡ true
before_stays f p q h k =
    ap is_lt (place_is f p q) ∙ lt_stays (front_total f) p q (front_of f q) (front_rises f p q h) (ap is_lt (sym (place_is f q q)) ∙ k)

pub le_not_gt : (a : Ordering) → is_le a ≡ true → is_gt a ≡ false
le_not_gt Less h = refl
le_not_gt Equal h = refl
le_not_gt Greater h = absurd (true≢false (sym h))

pub not_gt_le : (a : Ordering) → is_gt a ≡ false → is_le a ≡ true
not_gt_le Less h = refl
not_gt_le Equal h = refl
not_gt_le Greater h = absurd (true≢false h)

-- a key that isn't behind the family stands before each key that is
pub within_stays : (f : Family) (p q : KeyParts) → parts_cmp p q ≡ Less → is_le (family_place f q) ≡ true → is_le (family_place f p) ≡ true
within_stays f p q h k =
    ap is_le (place_is f p q)
    ∙ not_gt_le _ (upto (front_total f) p q (front_of f q) (front_rises f p q h) (le_not_gt _ (ap is_le (sym (place_is f q q)) ∙ k)))

-- a line that states something is in the family where its key stands in it
pub same_rank : (a b : ℕ) → is_eq (nat_cmp a b) ≡ (a == b)
same_rank a b = grind (arith, nat_tests)

pub same_text : (xs ys : Text) → is_eq (text_cmp xs ys) ≡ bytes_eq xs ys
same_text xs ys = same_from_slice_cmp nat_cmp is_eq bytes_eq refl (λ _ _. refl) (λ _ _. refl) (λ x y xs ys o h. grind (arith, nat_tests)) xs ys (text_cmp xs ys) refl

pub both_eq : (a b : Ordering) → is_eq (ordering_then a b) ≡ (is_eq a && is_eq b)
both_eq Less b = refl
both_eq Equal b = refl
both_eq Greater b = refl

and_joined : (a b c : Bool) → (a && (b && c)) ≡ (a && b && c)
and_joined true b c = refl
and_joined false b c = refl

one_says : (kind : LineKind) (rank : ℕ) (p : KeyParts) (first : Text) → (rank_of kind == rank && bytes_eq p.first first) ≡ is_eq (ordering_then (nat_cmp (rank_of kind) rank) (text_cmp p.first first))
one_says kind rank p first = sym (both_eq _ _ ∙ (λ i. same_rank (rank_of kind) rank i && same_text p.first first i))

two_say : (kind : LineKind) (rank : ℕ) (p : KeyParts) (first second : Text)
    → (rank_of kind == rank && bytes_eq p.first first && bytes_eq p.second second) ≡ is_eq (ordering_then (nat_cmp (rank_of kind) rank) (ordering_then (text_cmp p.first first) (text_cmp p.second second)))
two_say kind rank p first second =
    sym (both_eq _ _
    ∙ (λ i. same_rank (rank_of kind) rank i && both_eq (text_cmp p.first first) (text_cmp p.second second) i)
    ∙ (λ i. (rank_of kind == rank) && (same_text p.first first i && same_text p.second second i))
    ∙ and_joined (rank_of kind == rank) _ _)

four_joined : (a b c d : Bool) → (a && (b && (c && d))) ≡ (a && b && c && d)
four_joined true b c d = and_joined b c d
four_joined false b c d = refl

name_says : (name : Nslc) (location : Text) (p : KeyParts) → is_named name location p ≡ is_eq (name_place name location p)
name_says name location p =
    sym (both_eq (text_cmp p.first name.network) _
    ∙ (λ i. same_text p.first name.network i && both_eq (text_cmp p.second name.station) (ordering_then (text_cmp p.third location) (text_cmp p.fourth name.channel)) i)
    ∙ (λ i. bytes_eq p.first name.network && (same_text p.second name.station i && both_eq (text_cmp p.third location) (text_cmp p.fourth name.channel) i))
    ∙ (λ i. bytes_eq p.first name.network && (bytes_eq p.second name.station && (same_text p.third location i && same_text p.fourth name.channel i)))
    ∙ four_joined (bytes_eq p.first name.network) (bytes_eq p.second name.station) (bytes_eq p.third location) (bytes_eq p.fourth name.channel))

in_says : (f : Family) (kind : LineKind) (values : List Value) → is_in f (line_values (Says kind) values) ≡ is_eq (family_place f (key_parts_of (line_values (Says kind) values)))
in_says family.Networks kind values = sym (same_rank _ _)
in_says family.Stations kind values = sym (same_rank _ _)
in_says family.Channels kind values = sym (same_rank _ _)
in_says (family.StationsOf network) kind values = one_says kind 1 (key_parts_of (line_values (Says kind) values)) network
in_says (family.ChannelsOf network station) kind values = two_say kind 2 (key_parts_of (line_values (Says kind) values)) network station
in_says family.Events kind values = sym (same_rank _ _)
in_says family.Restrictions kind values = sym (same_rank _ _)
in_says (family.RestrictionsOn network) kind values = one_says kind 4 (key_parts_of (line_values (Says kind) values)) network
in_says (family.GrantsOf user) kind values = one_says kind 5 (key_parts_of (line_values (Says kind) values)) user.now
in_says (family.GrantsOn user network) kind values = two_say kind 5 (key_parts_of (line_values (Says kind) values)) user.now network
in_says family.Withdrawals kind values = sym (same_rank _ _)
in_says (family.WithdrawalsOn name location) kind values =
    let p = key_parts_of (line_values (Says kind) values) in
    sym (both_eq (nat_cmp (rank_of kind) 7) (name_place name location.now p)
    ∙ (λ i. same_rank (rank_of kind) 7 i && sym (name_says name location.now p) i))

pub in_by_place : (f : Family) (e : LineValues) → is_said e ≡ true → is_in f e ≡ is_eq (family_place f (key_parts_of e))
in_by_place f e h = by_head e.head refl
  where
    by_head : (head : Head) → e.head ≡ head → is_in f e ≡ is_eq (family_place f (key_parts_of e))
    by_head (Says kind) is = subst (λ (e : LineValues). is_in f e ≡ is_eq (family_place f (key_parts_of e))) (ap (λ h. line_values h e.values) (sym is)) (in_says f kind e.values)
    by_head (Deletes kind) is = absurd (true≢false (sym h ∙ ap is_statement is))

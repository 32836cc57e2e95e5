-- With one line more, whether some live line lacks what it rests on.
use Rattle.std.proofs.Common.{◌≡◌, ◌∙◌, Bool, true, false, not, ◌||◌, ◌&&◌, List, [], ◌∷◌, refl, sym, ap, arith}
use Rattle.std.specs.List.{list_any, AllByRecursion}
use Rattle.std.specs.Str.{bytes_eq}
use Rattle.std.proofs.lemmas.Bool.{and_parts, or_left, or_parts, or_right}
use Rattle.epochs.specs.declared.kinds.LineKind.TheVariants.{Net, Sta, Cha}
use Rattle.epochs.specs.Lines.{LineValues}
use Rattle.epoch_rules.specs.Catalog.{IsCatalog}
use Rattle.epoch_rules.specs.KeyOrder.{key_parts_of, rank_of}
use Rattle.epoch_rules.specs.Losses.{of_network, of_station, makes_orphans}
use Rattle.epoch_rules.specs.Rules.{is_line_of, is_epoch, contains, have_one_family, holds_channel, lacks_station, lacks_network, lacks_user, is_orphan, with_line}
use Rattle.epoch_rules.proofs.FamilyKeys.{kind_rank, one_family}
use Rattle.epoch_rules.proofs.Grants.{same_text, loses_users}
use Rattle.epoch_rules.proofs.Holders.{holds, lacks, loses_containers}
use Rattle.epoch_rules.proofs.Tidy.{Tidy}

and_assoc : (a b c : Bool) → (a && b && c) ≡ (a && (b && c))
and_assoc true b c = refl
and_assoc false b c = refl

pub holds_channel_is : holds_channel ≡ holds Sta Cha of_station
holds_channel_is = λ i x l. and_assoc (is_line_of Sta l) (bytes_eq (key_parts_of l).first (key_parts_of x).first) (bytes_eq (key_parts_of l).second (key_parts_of x).second) i && contains l x

lacks_station_is : lacks_station ≡ lacks Sta Cha of_station
lacks_station_is = λ i live x. is_line_of Cha x && not (list_any (holds_channel_is i x) live)

or_swap : (a b c d : Bool) → ((a || b) || (c || d)) ≡ ((a || c) || (b || d))
or_swap true b c d = refl
or_swap false true true d = refl
or_swap false true false d = refl
or_swap false false c d = refl

any_or : {X : Type 0} (p q : X → Bool) (xs : List X) → list_any (λ x. p x || q x) xs ≡ (list_any p xs || list_any q xs)
any_or p q [] = refl
any_or p q (x ∷ xs) = ap (λ b. (p x || q x) || b) (any_or p q xs) ∙ or_swap (p x) (q x) (list_any p xs) (list_any q xs)

orphans_parted : (live xs : List LineValues) → list_any (is_orphan live) xs ≡ (list_any (lacks_station live) xs || list_any (lacks_network live) xs || list_any (lacks_user live) xs)
orphans_parted live xs =
    any_or (λ x. lacks_station live x || lacks_network live x) (lacks_user live) xs
    ∙ ap (λ b. b || list_any (lacks_user live) xs) (any_or (lacks_station live) (lacks_network live) xs)

pub net_epoch : (x : LineValues) → is_line_of Net x ≡ true → is_epoch x ≡ true
net_epoch x h = or_left (is_line_of Net x || is_line_of Sta x) (is_line_of Cha x) (or_left (is_line_of Net x) (is_line_of Sta x) h)

pub sta_epoch : (x : LineValues) → is_line_of Sta x ≡ true → is_epoch x ≡ true
sta_epoch x h = or_left (is_line_of Net x || is_line_of Sta x) (is_line_of Cha x) (or_right (is_line_of Net x) (is_line_of Sta x) h)

pub cha_epoch : (x : LineValues) → is_line_of Cha x ≡ true → is_epoch x ≡ true
cha_epoch x h = or_right (is_line_of Net x || is_line_of Sta x) (is_line_of Cha x) h

zero_one : rank_of Net ≡ rank_of Sta → ⊥
zero_one h = omega (arith, h)

pub one_two : rank_of Sta ≡ rank_of Cha → ⊥
one_two h = omega (arith, h)

network_family : (a b x : LineValues) → Tidy a → Tidy b → is_line_of Net a ≡ true → is_line_of Net b ≡ true → of_network (key_parts_of a) (key_parts_of x) ≡ true → of_network (key_parts_of b) (key_parts_of x) ≡ true → have_one_family a b ≡ true
network_family a b x neat_a neat_b a_is b_is h k =
    let p = neat_a.network a_is in
    let q = neat_b.network b_is in
    one_family (key_parts_of a) (key_parts_of b) (kind_rank Net a a_is ∙ sym (kind_rank Net b b_is))
    (same_text (key_parts_of a).first (key_parts_of x).first h ∙ sym (same_text (key_parts_of b).first (key_parts_of x).first k))
    (p.0 ∙ sym q.0) (p.1 ∙ sym q.1) (p.2 ∙ sym q.2) (p.3 ∙ sym q.3)

station_family : (a b x : LineValues) → Tidy a → Tidy b → is_line_of Sta a ≡ true → is_line_of Sta b ≡ true → of_station (key_parts_of a) (key_parts_of x) ≡ true → of_station (key_parts_of b) (key_parts_of x) ≡ true → have_one_family a b ≡ true
station_family a b x neat_a neat_b a_is b_is h k =
    let p = neat_a.station a_is in
    let q = neat_b.station b_is in
    let r = and_parts (bytes_eq (key_parts_of a).first (key_parts_of x).first) (bytes_eq (key_parts_of a).second (key_parts_of x).second) h in
    let s = and_parts (bytes_eq (key_parts_of b).first (key_parts_of x).first) (bytes_eq (key_parts_of b).second (key_parts_of x).second) k in
    one_family (key_parts_of a) (key_parts_of b) (kind_rank Sta a a_is ∙ sym (kind_rank Sta b b_is))
    (same_text (key_parts_of a).first (key_parts_of x).first r.0 ∙ sym (same_text (key_parts_of b).first (key_parts_of x).first s.0))
    (same_text (key_parts_of a).second (key_parts_of x).second r.1 ∙ sym (same_text (key_parts_of b).second (key_parts_of x).second s.1))
    (p.0 ∙ sym q.0) (p.1 ∙ sym q.1) (p.2 ∙ sym q.2)

-- a line that rests on what is live makes orphans exactly as its key and its new end say
pub orphans_made : (live : List LineValues) (e : LineValues) → IsCatalog live → AllByRecursion Tidy live → Tidy e → lacks_station live e ≡ false → lacks_network live e ≡ false → lacks_user live e ≡ false
    → list_any (is_orphan (with_line live e)) (with_line live e) ≡ makes_orphans live e
orphans_made live e is neat tidy_e station network user =
    let after = with_line live e in
    let rests = or_parts (list_any (lacks_station live) live || list_any (lacks_network live) live) (list_any (lacks_user live) live) (sym (orphans_parted live live) ∙ is.rests) in
    let parts = or_parts (list_any (lacks_station live) live) (list_any (lacks_network live) live) rests.0 in
    orphans_parted after after
    ∙ (λ i.
    ((ap (λ f. list_any (f after) after) lacks_station_is
    ∙ loses_containers Sta Cha of_station sta_epoch cha_epoch one_two station_family live e is neat tidy_e (sym (ap (λ f. list_any (f live) live) lacks_station_is) ∙ parts.0) (sym (ap (λ f. f live e) lacks_station_is) ∙ station)) i
    || loses_containers Net Sta of_network net_epoch sta_epoch zero_one network_family live e is neat tidy_e parts.1 network i)
    || loses_users live e is neat tidy_e rests.1 user i)

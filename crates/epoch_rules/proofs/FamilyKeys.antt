-- Lines of one kind with the same codes are of one family, and lines with equal keys are alike in all
-- that depends on the key.
use Rattle.std.proofs.Common.{◌≡◌, ◌∙◌, ◌||◌, true, refl, sym, ap, eq-eqb}
use Rattle.std.specs.Ordering.{is_eq, nat_cmp, ordering_then}
use Rattle.std.proofs.lemmas.Cmp.{tied_itself}
use Rattle.std.proofs.lemmas.Bool.{eqb-true}
use Rattle.epochs.specs.declared.kinds.LineKind.{LineKind}
use Rattle.epochs.specs.declared.kinds.LineKind.TheVariants.{Net, Sta, Cha}
use Rattle.epochs.specs.declared.kinds.Head.{Head}
use Rattle.epochs.specs.declared.kinds.Head.TheVariants.{Says, Deletes}
use Rattle.epochs.specs.Lines.{LineValues}
use Rattle.epoch_rules.specs.KeyOrder.{KeyParts, key_parts_of, text_cmp, family_cmp, parts_cmp, line_cmp, have_one_key, rank_of}
use Rattle.epoch_rules.specs.LiveLines.{is_said, is_statement}
use Rattle.epoch_rules.specs.Rules.{is_line_of, is_of_kind, is_epoch}
use Rattle.epoch_rules.proofs.Exact.{exact_parts}
use Rattle.epoch_rules.proofs.KeptCatalog.{kind_by_rank}
use Rattle.epoch_rules.proofs.Lookups.{is_equal}
use Rattle.epoch_rules.proofs.Orders.{lines_total, family_total}

pub kind_says : (kind : LineKind) (x : LineValues) → is_line_of kind x ≡ true → is_said x ≡ true
kind_says kind x h = of_head x.head h
  where
    of_head : (head : Head) → is_of_kind kind head ≡ true → is_statement head ≡ true
    of_head (Says k) h = refl
    of_head (Deletes k) h = cc

pub kind_rank : (kind : LineKind) (x : LineValues) → is_line_of kind x ≡ true → (key_parts_of x).rank ≡ rank_of kind
kind_rank kind x h = eqb-true (key_parts_of x).rank (rank_of kind) (sym (kind_by_rank kind x.head x.values (kind_says kind x h)) ∙ h)

pub rank_kind : (kind : LineKind) (x : LineValues) → is_said x ≡ true → (key_parts_of x).rank ≡ rank_of kind → is_line_of kind x ≡ true
rank_kind kind x h r = kind_by_rank kind x.head x.values h ∙ eq-eqb (key_parts_of x).rank (rank_of kind) r

pub one_key : (a b : LineValues) → have_one_key a b ≡ true → key_parts_of a ≡ key_parts_of b
one_key a b h = exact_parts (key_parts_of a) (key_parts_of b) (is_equal (line_cmp a b) h)

pub has_one_key : (a b : LineValues) → key_parts_of a ≡ key_parts_of b → have_one_key a b ≡ true
has_one_key a b h = ap (λ p. is_eq (parts_cmp (key_parts_of a) p)) (sym h) ∙ ap is_eq (tied_itself lines_total a)

-- keys that agree in all but the start are of one family
pub one_family : (p q : KeyParts) → p.rank ≡ q.rank → p.first ≡ q.first → p.second ≡ q.second → p.third ≡ q.third → p.fourth ≡ q.fourth → p.fifth ≡ q.fifth
    → is_eq (family_cmp p q) ≡ true
one_family p q r f s t u v =
    ap is_eq
    ((λ i.
    ordering_then (nat_cmp p.rank (sym r i))
    (ordering_then (text_cmp p.first (sym f i))
    (ordering_then (text_cmp p.second (sym s i))
    (ordering_then (text_cmp p.third (sym t i))
    (ordering_then (text_cmp p.fourth (sym u i)) (text_cmp p.fifth (sym v i))))))) ∙ tied_itself family_total p)

pub epoch_says : (x : LineValues) → is_epoch x ≡ true → is_said x ≡ true
epoch_says x h = of_head x.head h
  where
    of_head : (head : Head) → (is_of_kind Net head || is_of_kind Sta head || is_of_kind Cha head) ≡ true → is_statement head ≡ true
    of_head (Says k) h = refl
    of_head (Deletes k) h = cc

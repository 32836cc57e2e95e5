-- What was put at the end in pieces.
use Rattle.std.proofs.Common.{◌≡◌, ℕ, List, [], ◌∷◌, ◌++◌, sym, ◌∙◌, ap, append_assoc, append-nil}
use Rattle.std.specs.Prelude.{flat_map}
use Rattle.http_replies.specs.Replies.{field_line}

pub three : (h a b c x y z : List ℕ) → x ≡ h ++ a → y ≡ x ++ b → z ≡ y ++ c → z ≡ h ++ (a ++ b ++ c)
three h a b c x y z e f g =
    g ∙ ap (λ (s : List ℕ). s ++ c) (f ∙ ap (λ (s : List ℕ). s ++ b) e ∙ append_assoc h a b) ∙ append_assoc h (a ++ b) c

pub four : (h a b c d x y z w : List ℕ) → x ≡ h ++ a → y ≡ x ++ b → z ≡ y ++ c → w ≡ z ++ d → w ≡ h ++ (a ++ b ++ c ++ d)
four h a b c d x y z w e f g i =
    i ∙ ap (λ (s : List ℕ). s ++ d) (three h a b c x y z e f g) ∙ append_assoc h (a ++ b ++ c) d

-- the lines of two fields
pub two_lines : (h x y : List ℕ) (f g : List ℕ × List ℕ) → x ≡ h ++ field_line f → y ≡ x ++ field_line g
    → y ≡ h ++ flat_map field_line (f ∷ g ∷ [])
two_lines h x y f g e i =
    i ∙ ap (λ (s : List ℕ). s ++ field_line g) e ∙ append_assoc h (field_line f) (field_line g)
    ∙ ap (λ (s : List ℕ). h ++ (field_line f ++ s)) (sym (append-nil (field_line g)))

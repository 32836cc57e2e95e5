use Rattle.std.proofs.Common.{◌≡◌, true, List, ℕ, sym, subst}
use Rattle.std.specs.List.{list_all}
use Rattle.std.specs.Char.{is_ascii_hexdigit}
use Rattle.http_digest.proofs.Hexadecimal.{nonce_digits}
use Rattle.http_digest.proofs.nonce.challenge.Goals as goal

pub invariant_of-result : goal.invariant_of-result
invariant_of-result c = record { digits = subst (λ (nonce : List ℕ). list_all is_ascii_hexdigit nonce ≡ true) (sym c.nonce_of.ensures) (nonce_digits c.args.secret.now _) }

use Rattle.std.proofs.Common.{rules}
use Rattle.http_digest.specs.Credentials.{is_token_byte}
use Rattle.http_digest.proofs.scan.is_token_byte.Goals as goal

pub returns-then-is_ascii_alphanumeric : goal.returns-then-is_ascii_alphanumeric
unfolding is_token_byte
returns-then-is_ascii_alphanumeric c = search rules

pub returns-else-is_ascii_alphanumeric : goal.returns-else-is_ascii_alphanumeric
unfolding is_token_byte
returns-else-is_ascii_alphanumeric c = search rules

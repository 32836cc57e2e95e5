use Rattle.std.proofs.Common.{◌∙◌, ap, arith}
use Rattle.httparse.specs.Grammar.{is_token}
use Rattle.http_wire.specs.Heads.{is_value}
use Rattle.http_wire.proofs.Lawful.{lawful_at}
use Rattle.http_wire.proofs.parsing.spanned_fields.Goals as goal

pub field_of-requires-clause-name : goal.field_of-requires-clause-name
field_of-requires-clause-name c =
    ap is_token c.of.ensures ∙ (lawful_at c.args.block.now c.args.spans.now c.spans.span-index _ (omega arith) c.requires.lawful).0

pub field_of-requires-clause-value : goal.field_of-requires-clause-value
field_of-requires-clause-value c =
    ap is_value c.of-in-spans.ensures ∙ (lawful_at c.args.block.now c.args.spans.now c.spans.span-index _ (omega arith) c.requires.lawful).1

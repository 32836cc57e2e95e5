use Rattle.std.proofs.Common.{not, ap, ◌∙◌}
use Rattle.std.specs.List.{list_any}
use Rattle.std.specs.Str.{bytes_eq}
use Rattle.http_digest.proofs.NamesOnce.{name_added, found_there}
use Rattle.http_digest.proofs.parts.add_name.Goals as goal

pub returns-clause-names : goal.returns-clause-names
returns-clause-names c = λ other. ap (list_any (λ n. bytes_eq n.now other)) c.in_ok-insert.ensures.keys ∙ name_added other c.args.names.now.keys c.args.name

pub returns-clause-added : goal.returns-clause-added
returns-clause-added c = c.in_ok-insert.ensures.added ∙ ap not (found_there c.args.name.now c.args.names.now.keys)

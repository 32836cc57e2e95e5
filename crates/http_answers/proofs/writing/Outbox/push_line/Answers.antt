use Rattle.std.proofs.Common.{◌≡◌, ◌++◌, List, ℕ, codes, subst}
use Rattle.http_answers.specs.Requests.{request_line}
use Rattle.http_answers.specs.Sending.{Pushes}
use Rattle.http_answers.proofs.writing.Outbox.push_line.Goals as goal

pub returns : goal.returns
returns g c =
    let line : c.as_slice-method.result.now ++ (codes " " ++ (c.as_slice-target.result.now ++ codes " HTTP/1.1\r\n")) ≡ request_line c.args.asked.now =
    λ i. c.as_slice-method.ensures i ++ (codes " " ++ (c.as_slice-target.ensures i ++ codes " HTTP/1.1\r\n")) in
    subst (λ (bytes : List ℕ). Pushes (g.L.Stream.view c.args.link.now) (g.L.Stream.view c.push_all.new.link) c.args.self.now c.push_all.new.self c.push_all.result bytes)
    line c.push_all.ensures

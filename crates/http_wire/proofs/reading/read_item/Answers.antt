use Rattle.std.proofs.Common.{rules, ◌≡◌, ◌+◌, ◌-◌, ◌≤◌, ℕ, List, length, take, drop, arith, sym, ap, ◌∙◌, subst, Ok}
use Rattle.std.specs.declared.option.Option.{Option}
use Rattle.std.proofs.Common.{map}
use Rattle.http_wire.specs.FieldPairs.{as_pair}
use Rattle.http_wire.specs.declared.field.Field.{Field}
use Rattle.http_wire.specs.Heads.{FrontSays, body_length}
use Rattle.http_wire.specs.HeadReading.{head_view, StopsBySaying}
use Rattle.http_wire.specs.Taking.{TookMore}
use Rattle.std.proofs.Common.{inr}
use Rattle.http_wire.specs.Requests.{StopsSo}
use Rattle.http_wire.specs.declared.ending.Stop.{Stop}
use Rattle.http_wire.specs.Taking.{Stays}
use Rattle.http_wire.proofs.ItemSteps.{gives, cuts, stops, reads_head, stops_late}
use Rattle.http_wire.proofs.Waiting.{front_stays, body_stays}
use Rattle.http_wire.proofs.reading.read_item.Goals as goal

pub returns-in-Err-judged-clause-stops : goal.returns-in-Err-judged-clause-stops
returns-in-Err-judged-clause-stops g c =
    let mid = c.read_front.new.held in
    let front = c.in-Ok.front in
    let P : List ℕ → Type 0 = λ x. StopsBySaying c.args.most (take front.size x) front.kind c.in-Err-judged.stop in
    stops c.args.most _ _ _ mid _ _ front c.in-Err-judged.stop c.in-Ok.ensures.front (subst P c.as_slice.ensures c.in-Err-judged.ensures.err) c.in-Ok.ensures.end (search rules)

pub returns-in-Ok-false-clause-stops : goal.returns-in-Ok-false-clause-stops
returns-in-Ok-false-clause-stops g c =
    let mid = c.read_front.new.held in
    let front = c.in-Ok.front in
    let head = head_view c.in-Ok-judged.head in
    let P : List ℕ → Type 0 = λ x. FrontSays c.args.most (take front.size x) front.kind (Ok head) in
    let T : Option (List ℕ) → Type 0 = λ o. TookMore o (g.L.Stream.view c.fill.new.link).left mid c.fill.new.held in
    cuts c.args.most _ _ _ _ mid c.fill.new.held _ _ front head c.in-Ok.ensures.front (subst P c.as_slice.ensures c.in-Ok-judged.ensures.ok)
    (subst T c.send_interim.ensures.kept c.in-Ok-false.ensures.took) (search rules) (rw c.in-Ok-false.field-0-test at c.in-Ok-false.ensures.end) (search rules)

pub returns-clause-request : goal.returns-clause-request
returns-clause-request g c =
    let mid = c.read_front.new.held in
    let front = c.in-Ok.front in
    let head = head_view c.in-Ok-judged.head in
    let held = c.fill.new.held in
    let P : List ℕ → Type 0 = λ x. FrontSays c.args.most (take front.size x) front.kind (Ok head) in
    let T : Option (List ℕ) → Type 0 = λ o. TookMore o (g.L.Stream.view c.fill.new.link).left mid held in
    let size = front.size in
    let more = c.body_length-more.result in
    let more_is : more ≡ body_length head.fields = c.body_length-more.ensures.value ∙ ap (λ (fs : List Field). body_length (map as_pair fs)) c.as_slice-2.ensures in
    let full : size + more ≤ length held = rw c.in-Ok-true.field-0-test at c.in-Ok-true.ensures.full in
    let least : size + body_length head.fields ≤ length held = subst (λ (n : ℕ). size + n ≤ length held) more_is full in
    let gap : (size + more) - size ≡ more = omega arith in
    let body : c.in-Ok-request_of.request.body ≡ take (body_length head.fields) (drop size held) =
    c.in-Ok-request_of.ensures.body ∙ c.in-Ok-copied.ensures ∙ ap (λ x. take ((size + more) - size) (drop size x)) c.as_slice-3.ensures
    ∙ ap (λ n. take n (drop size held)) (gap ∙ more_is) in
    let rest : c.drop_front.new.self ≡ drop (size + body_length head.fields) held = c.drop_front.ensures ∙ ap (λ n. drop (size + n) held) more_is in
    gives c.args.most _ _ _ _ mid held _ _ _ front head c.in-Ok-request_of.request c.in-Ok.ensures.front (subst P c.as_slice.ensures c.in-Ok-judged.ensures.ok)
    (subst T c.send_interim.ensures.kept c.in-Ok-true.ensures.took) least body rest c.in-Ok-request_of.ensures.tells (search rules)

pub returns-in-Err-fill-clause-stops : goal.returns-in-Err-fill-clause-stops
returns-in-Err-fill-clause-stops g c =
    let mid = c.read_front.new.held in
    let front = c.in-Ok.front in
    let head = head_view c.in-Ok-judged.head in
    let P : List ℕ → Type 0 = λ x. FrontSays c.args.most (take front.size x) front.kind (Ok head) in
    let reads = reads_head c.args.most _ _ _ mid front head c.in-Ok.ensures.front (subst P c.as_slice.ensures c.in-Ok-judged.ensures.ok) in
    let S : Stop → Type 0 = λ s. StopsSo c.args.most (g.L.Stream.view c.args.link.now).left (g.L.Stream.view c.fill.new.link).left c.args.held.now (g.L.Stream.view c.args.link.now).written (g.L.Stream.view c.fill.new.link).written s in
    subst S (sym c.stopped-in-Err-fill.ensures) (stops_late c.args.most _ _ _ _ _ head c.in-Err-fill.stop reads (search rules))

pub returns-in_default-request_of-clause-stops : goal.returns-in_default-request_of-clause-stops
returns-in_default-request_of-clause-stops g c =
    let mid = c.read_front.new.held in
    let front = c.in-Ok.front in
    let head = head_view c.in-Ok-judged.head in
    let P : List ℕ → Type 0 = λ x. FrontSays c.args.most (take front.size x) front.kind (Ok head) in
    let reads = reads_head c.args.most _ _ _ mid front head c.in-Ok.ensures.front (subst P c.as_slice.ensures c.in-Ok-judged.ensures.ok) in
    inr (head, reads, search rules)

pub returns-then-is_err-clause-stops : goal.returns-then-is_err-clause-stops
returns-then-is_err-clause-stops g c =
    let mid = c.read_front.new.held in
    let front = c.in-Ok.front in
    let head = head_view c.in-Ok-judged.head in
    let P : List ℕ → Type 0 = λ x. FrontSays c.args.most (take front.size x) front.kind (Ok head) in
    let reads = reads_head c.args.most _ _ _ mid front head c.in-Ok.ensures.front (subst P c.as_slice.ensures c.in-Ok-judged.ensures.ok) in
    inr (head, reads, search rules)

pub returns-in-Err-clause-waits : goal.returns-in-Err-clause-waits
returns-in-Err-clause-waits g c = λ h. front_stays c.args.most _ _ _ h c.read_front.ensures.waits

pub returns-in-Err-judged-clause-waits : goal.returns-in-Err-judged-clause-waits
returns-in-Err-judged-clause-waits g c = λ h. front_stays c.args.most _ _ _ h c.read_front.ensures.waits

pub returns-then-is_err-clause-waits : goal.returns-then-is_err-clause-waits
returns-then-is_err-clause-waits g c = λ h.
    subst (λ (o : Option (List ℕ)). Stays (g.L.Stream.view c.args.link.now).left o) (sym c.send_interim.ensures.kept) (front_stays c.args.most _ _ _ h c.read_front.ensures.waits)

pub returns-in_default-clause-stops : goal.returns-in_default-clause-stops
returns-in_default-clause-stops g c =
    let mid = c.read_front.new.held in
    let front = c.in-Ok.front in
    let head = head_view c.in-Ok-judged.head in
    let P : List ℕ → Type 0 = λ x. FrontSays c.args.most (take front.size x) front.kind (Ok head) in
    let reads = reads_head c.args.most _ _ _ mid front head c.in-Ok.ensures.front (subst P c.as_slice.ensures c.in-Ok-judged.ensures.ok) in
    inr (head, reads, search rules)

pub returns-in-Ok-false-clause-waits : goal.returns-in-Ok-false-clause-waits
returns-in-Ok-false-clause-waits g c = λ h.
    let mid = c.read_front.new.held in
    let front = c.in-Ok.front in
    let head = head_view c.in-Ok-judged.head in
    let P : List ℕ → Type 0 = λ x. FrontSays c.args.most (take front.size x) front.kind (Ok head) in
    let more_is : c.body_length-more.result ≡ body_length head.fields = c.body_length-more.ensures.value ∙ ap (λ (fs : List Field). body_length (map as_pair fs)) c.as_slice-2.ensures in
    body_stays c.args.most _ _ _ _ c.args.held.now mid _ h front head c.in-Ok.ensures.front (subst P c.as_slice.ensures c.in-Ok-judged.ensures.ok)
    c.read_front.ensures.waits c.send_interim.ensures.kept (ap (λ (n : ℕ). front.size + n) more_is) c.fill.ensures.waits

pub returns-in-Err-fill-clause-waits : goal.returns-in-Err-fill-clause-waits
returns-in-Err-fill-clause-waits g c = λ h.
    let mid = c.read_front.new.held in
    let front = c.in-Ok.front in
    let head = head_view c.in-Ok-judged.head in
    let P : List ℕ → Type 0 = λ x. FrontSays c.args.most (take front.size x) front.kind (Ok head) in
    let more_is : c.body_length-more.result ≡ body_length head.fields = c.body_length-more.ensures.value ∙ ap (λ (fs : List Field). body_length (map as_pair fs)) c.as_slice-2.ensures in
    body_stays c.args.most _ _ _ _ c.args.held.now mid _ h front head c.in-Ok.ensures.front (subst P c.as_slice.ensures c.in-Ok-judged.ensures.ok)
    c.read_front.ensures.waits c.send_interim.ensures.kept (ap (λ (n : ℕ). front.size + n) more_is) c.fill.ensures.waits

pub returns-in_default-clause-waits : goal.returns-in_default-clause-waits
returns-in_default-clause-waits g c = λ h.
    let mid = c.read_front.new.held in
    let front = c.in-Ok.front in
    let head = head_view c.in-Ok-judged.head in
    let P : List ℕ → Type 0 = λ x. FrontSays c.args.most (take front.size x) front.kind (Ok head) in
    let more_is : c.body_length-more.result ≡ body_length head.fields = c.body_length-more.ensures.value ∙ ap (λ (fs : List Field). body_length (map as_pair fs)) c.as_slice-2.ensures in
    body_stays c.args.most _ _ _ _ c.args.held.now mid _ h front head c.in-Ok.ensures.front (subst P c.as_slice.ensures c.in-Ok-judged.ensures.ok)
    c.read_front.ensures.waits c.send_interim.ensures.kept (ap (λ (n : ℕ). front.size + n) more_is) c.fill.ensures.waits

pub returns-in_default-request_of-clause-waits : goal.returns-in_default-request_of-clause-waits
returns-in_default-request_of-clause-waits g c = λ h.
    let mid = c.read_front.new.held in
    let front = c.in-Ok.front in
    let head = head_view c.in-Ok-judged.head in
    let P : List ℕ → Type 0 = λ x. FrontSays c.args.most (take front.size x) front.kind (Ok head) in
    let more_is : c.body_length-more.result ≡ body_length head.fields = c.body_length-more.ensures.value ∙ ap (λ (fs : List Field). body_length (map as_pair fs)) c.as_slice-2.ensures in
    body_stays c.args.most _ _ _ _ c.args.held.now mid _ h front head c.in-Ok.ensures.front (subst P c.as_slice.ensures c.in-Ok-judged.ensures.ok)
    c.read_front.ensures.waits c.send_interim.ensures.kept (ap (λ (n : ℕ). front.size + n) more_is) c.fill.ensures.waits

pub returns-clause-waits : goal.returns-clause-waits
returns-clause-waits g c = λ h.
    let mid = c.read_front.new.held in
    let front = c.in-Ok.front in
    let head = head_view c.in-Ok-judged.head in
    let P : List ℕ → Type 0 = λ x. FrontSays c.args.most (take front.size x) front.kind (Ok head) in
    let more_is : c.body_length-more.result ≡ body_length head.fields = c.body_length-more.ensures.value ∙ ap (λ (fs : List Field). body_length (map as_pair fs)) c.as_slice-2.ensures in
    body_stays c.args.most _ _ _ _ c.args.held.now mid _ h front head c.in-Ok.ensures.front (subst P c.as_slice.ensures c.in-Ok-judged.ensures.ok)
    c.read_front.ensures.waits c.send_interim.ensures.kept (ap (λ (n : ℕ). front.size + n) more_is) c.fill.ensures.waits

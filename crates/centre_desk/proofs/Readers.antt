-- A reader's answer is the one that its law gives, or want of memory.
use Rattle.std.proofs.Common.{◌≡◌, ◌⊎◌, inl, inr, ⊎_elim, refl, arith, ℕ, ◌≤◌, nat_le, List, length, true, Result, Ok, Err, IfOk}
use Rattle.std.proofs.lemmas.Bool.Decides.{nat_tests}
use Rattle.std.specs.Result.{IsErrOf}
use Rattle.list_laws.specs.Only.{IsOnly}
use Rattle.exact_time.specs.Clock.{is_clock_moment}
use Rattle.exact_time.specs.declared.moment.Moment.{Moment}
use Rattle.archive_entry.specs.declared.entry.Kind.{Kind}
use Rattle.desk_words.specs.Posting.{can_be_posted}
use Rattle.http_wire.specs.declared.request.Request.{Request}
use Rattle.query_words.specs.NumberGet.{IsNumberGet, seq}
use Rattle.centre_desk.specs.Replies.{posted_as}
use Rattle.query_parameters.specs.declared.fault.QueryFault.{QueryFault}
use Rattle.query_parameters.specs.declared.fault.QueryFault.TheVariants.{OutOfMemory}
use Rattle.centre_desk.specs.Queries.{IsAnswer}

pub is_answer : {V : Type 0} (IsValue : V → Type 0) (IsFault : QueryFault → Type 0) (law : (answer : Result V QueryFault) × IsOnly IsValue IsFault answer)
    (result : Result V QueryFault) → IsErrOf result OutOfMemory ⊎ IsOnly IsValue IsFault result → IsAnswer law.0 result
is_answer {V} IsValue IsFault law result is =
    ⊎_elim (λ (memory : IsErrOf result OutOfMemory). inl memory) (λ (only : IsOnly IsValue IsFault result). inr (law.1.only result only.right)) is

-- a sequence number is from 1 to 10^18
pub bounded : (query : List ℕ) (result : Result ℕ QueryFault) → IfOk result (IsNumberGet seq query) → IfOk result (λ n. (1 ≤ n) × (n ≤ 1_000_000_000_000_000_000))
bounded query (Ok n) is = (is.number_is.count.some, is.number_is.small)
bounded query (Err f) is = is

-- a command under such a number can be posted
pub may_be_posted : (r : Request) (kind : Kind) (seq : ℕ) (moment : Moment) → 1 ≤ seq → seq ≤ 1_000_000_000_000_000_000 → length r.body ≤ 1_048_576 → is_clock_moment moment ≡ true
    → can_be_posted (posted_as r kind seq) moment ≡ true
may_be_posted r kind seq moment some small short clock =
    let least : nat_le 1 seq ≡ true = grind (arith, nat_tests) in
    let most : nat_le seq 1_000_000_000_000_000_000 ≡ true = grind (arith, nat_tests) in
    let few : nat_le (length r.body) 1_048_576 ≡ true = grind (arith, nat_tests) in
    rw (least, most, few, clock) refl

-- What a desk's answer is told as, and what a query path tells.
use Rattle.std.proofs.Common.{◌≡◌, ◌∙◌, sym, ap, subst, arith, ℕ, ◌+◌, ◌-◌, ◌^◌, List, ◌++◌, length, append_assoc, Option, None, Some, Result, Ok, Err}
use Rattle.std.specs.Prelude.{IfOk}
use Rattle.std.proofs.Math.Nat.{min-le_left}
use mathlib.Core.List.{IsPrefix}
use Rattle.exact_time.specs.declared.error.OutOfMemory.{OutOfMemory}
use Rattle.exact_time.specs.declared.moment.Moment.{Moment}
use Rattle.archive_entry.specs.declared.entry.Entry.{Entry}
use Rattle.query_parameters.specs.declared.fault.QueryFault.{QueryFault}
use Rattle.desk_words.specs.Counts.{RoseWithin}
use Rattle.desk_words.specs.Setting.{Setting}
use Rattle.desk_words.specs.Stand.{Stand, GoesOn, answer_of}
use Rattle.desk_words.specs.declared.asking.Answer.{Answer}
use Rattle.desk_words.specs.declared.asking.Wanted.{Wanted}
use Rattle.http_wire.specs.declared.request.Request.{Request}
use Rattle.service_paths.specs.declared.page.Access.{Access}
use Rattle.centre_desk.specs.Answering.{asking_of, told_by, told_asking, said_as, HasSaid, SaidRow, Says}
use Rattle.centre_desk.specs.Fields.{credentials_by}
use Rattle.centre_desk.specs.Replies.{told_query}
use Rattle.centre_desk.specs.declared.answering.Asking.{Asking}
use Rattle.centre_desk.specs.declared.told.Said.{Said}
use Rattle.centre_desk.proofs.Posts.{answered_said}
use Rattle.centre_desk.proofs.Queried.{query_is_told}
use Rattle.centre_desk.proofs.Statuses.{going_query}

-- an answer of a desk is told over what is seen
pub answer_told : (h : List Entry) (asking : Asking) (s : Setting) (a : Answer) → a ≡ answer_of h asking.question s
    → said_as (told_by asking.fault asking.question s.limits a.front a.outcome) a.front None ≡ said_as (told_asking h asking s) (length h) None
answer_told h asking s a is = ap (λ (x : Answer). said_as (told_by asking.fault asking.question s.limits x.front x.outcome) x.front None) is

-- the question of a query is told as the query is to be told
pub asking_is : (h : List Entry) (r : Request) (moment : Moment) (s : Setting) (access : Access) (asked : Result Wanted QueryFault) (least : ℕ) (a : Asking)
    → a ≡ asking_of asked (credentials_by access r) least moment → told_asking h a s ≡ told_query h r moment s access asked (Some least)
asking_is h r moment s access asked least a is = ap (λ (x : Asking). told_asking h x s) is ∙ query_is_told h r moment s access least asked

module _ (old new : Stand) (r : Request) (moment : Moment) (s : Setting) (access : Access) (asked : Result Wanted QueryFault) (least : ℕ) (front : Option ℕ) where
  -- what is said of an answer is what the query path tells
  pub query_said : (a : Asking) (said : Said) → a ≡ asking_of asked (credentials_by access r) least moment → front ≡ Some least → GoesOn old new → new.made ≡ old.made
      → said ≡ said_as (told_asking new.seen a s) (length new.seen) None → HasSaid old new (λ h added. told_query h r moment s access asked front) None moment s said
  query_said a said is some on made said_is =
      let told = asking_is new.seen r moment s access asked least a is ∙ ap (told_query new.seen r moment s access asked) (sym some) in
      let all = said_is ∙ ap (λ t. said_as t (length new.seen) None) told in
      subst (λ (x : Said). HasSaid old new (λ h added. told_query h r moment s access asked front) None moment s x) (sym all)
      (answered_said old new (λ h added. told_query h r moment s access asked front) moment s on made (going_query new.seen r moment s access asked front))

pub prefix_then : (xs ys zs : List Entry) → IsPrefix xs ys → IsPrefix ys zs → IsPrefix xs zs
prefix_then xs ys zs p q = (p.0 ++ q.0, sym (append_assoc xs p.0 q.0) ∙ (ap (λ (w : List Entry). w ++ q.0) p.1 ∙ q.1))

-- one call after another
pub goes_then : (a b c : Stand) → GoesOn a b → GoesOn b c → GoesOn a c
goes_then a b c p q = record {
  grows = prefix_then a.seen b.seen c.seen p.grows q.grows;
  alone = q.alone ∙ p.alone;
  footing = q.footing ∙ p.footing;
  stops = omega (arith, p.stops, q.stops);
}

may_rise : (before now : ℕ) → now ≡ before → RoseWithin 0 1 before now
may_rise before now is = record { later = omega (arith, is); at_least = omega (arith, is, min-le_left (before + 0) (2 ^ 64 - 1)); at_most = omega (arith, is) }

module _ (old new : Stand) (r : Request) (moment : Moment) (s : Setting) (access : Access) (asked : Result Wanted QueryFault) (least : ℕ) (front : Option ℕ) (a : Asking)
    (is : a ≡ asking_of asked (credentials_by access r) least moment) (some : front ≡ Some least) (on : GoesOn old new) (made : new.made ≡ old.made) where
  query_row : (result : Result Said OutOfMemory) → IfOk result (λ said. said ≡ said_as (told_asking new.seen a s) (length new.seen) None)
      → SaidRow old new (λ h added. told_query h r moment s access asked front) None moment s result
  query_row (Ok said) said_is = query_said old new r moment s access asked least front a said is some on made said_is
  query_row (Err memory) said_is = may_rise old.made new.made made

  -- what a query path says
  pub query_says : (result : Result Said OutOfMemory) → IfOk result (λ said. said ≡ said_as (told_asking new.seen a s) (length new.seen) None)
      → Says old new (λ h added. told_query h r moment s access asked front) None moment s result
  query_says result said_is = record { goes_on = on; row = query_row result said_is }
